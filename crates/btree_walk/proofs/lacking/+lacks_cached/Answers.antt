use Rattle.std.proofs.Common.{◌≡◌, ◌+◌, subst, sym, ◌∙◌, arith, rules}
use Rattle.std.proofs.lemmas.Bool.{false≢true}
use Rattle.btree_walk.specs.Ways.{IsTurn}
use Rattle.btree_walk.proofs.LookLaws.{asks_next, next_less}
use Rattle.btree_walk.proofs.LackLaws.{none_leads, misfit_leads, leads_at_leaf, leads_below, in_range}
use Rattle.btree_walk.proofs.lacking.+lacks_cached.Goals as goal

pub returns-in_default : goal.returns-in_default
returns-in_default t c = (λ no. absurd (cc), λ lacks. absurd (none_leads c.args.cache.now c.args.start.now c.args.key.now c.args.block c.requires.level c.in_default.ensures.none lacks))

pub returns-then-not-fits : goal.returns-then-not-fits
returns-then-not-fits t c = (
  λ no. absurd (cc),
  λ lacks. absurd (misfit_leads c.args.cache.now c.args.start.now c.args.key.now c.args.block c.requires.level c.in-Some.node.now c.in-Some.ensures.found (λ fits. false≢true (sym c.if-not-fits.true ∙ c.fits.ensures.1 fits)) lacks),
)

pub lacks_cached-requires : goal.lacks_cached-requires
lacks_cached-requires t c =
    let start = c.args.start.now in let next = c.in-Below.next in let key = c.in-Below.next_key in let node = c.in-Some.node.now in
    let fits = c.fits.ensures.0 c.if-not-fits.false in
    let told = subst (IsTurn start node.entries.items c.args.block) c.in-Below.is c.turn_at.ensures in
    let range = in_range c.args.cache.now start c.args.key.now c.args.block c.requires.level node c.in-Some.ensures.found fits in
    let less : next.level + 1 ≡ start.level = next_less start next key node.entries.items c.args.block told in
    (first_of (omega arith, search rules), asks_next start next key node.entries.items c.args.block c.requires range told)

pub returns-in-Found : goal.returns-in-Found
returns-in-Found t c =
    let node = c.in-Some.node.now in
    let told = subst (IsTurn c.args.start.now node.entries.items c.args.block) c.in-Found.is c.turn_at.ensures in
    leads_at_leaf c.args.cache.now c.args.start.now c.args.key.now c.args.block c.requires.level node c.in-Some.ensures.found (c.fits.ensures.0 c.if-not-fits.false) c.in-Found.found c.is_none.result told c.is_none.ensures

pub returns-in-Below : goal.returns-in-Below
returns-in-Below t c =
    let node = c.in-Some.node.now in
    let told = subst (IsTurn c.args.start.now node.entries.items c.args.block) c.in-Below.is c.turn_at.ensures in
    leads_below c.args.cache.now c.args.start.now c.args.key.now c.args.block c.requires.level node c.in-Some.ensures.found (c.fits.ensures.0 c.if-not-fits.false) c.in-Below.next c.in-Below.next_key c.lacks_cached.result told c.lacks_cached.ensures
