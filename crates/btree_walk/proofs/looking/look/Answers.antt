use Rattle.std.proofs.Common.{rules, ◌≡◌, true, refl, sym, ap, subst, inl}
use Rattle.std.proofs.Common.{Option, Bor}
use Rattle.std.specs.Option.{option_copied}
use Rattle.node_codec.specs.declared.body.NodeBody.{NodeBody}
use Rattle.node_cache.specs.Cached.{Cached, Uses}
use Rattle.btree_walk.specs.Ways.{IsTurn}
use Rattle.btree_walk.specs.Finds.{LooksFor}
use Rattle.btree_walk.specs.Sights.{NodeFits}
use Rattle.btree_walk.proofs.SightLaws.{keeps_used}
use Rattle.btree_walk.proofs.AmongLaws.{but_used}
use Rattle.btree_walk.proofs.RecentLaws.{still_used}
use Rattle.btree_walk.proofs.ForgetLaws.{forgets_used, found_still}
use Rattle.btree_walk.proofs.LookLaws.{looks_still, same_entries, fits_too}
use Rattle.btree_walk.proofs.looking.look.Goals as goal

pub returns-then-fits-clause-cached : goal.returns-then-fits-clause-cached
returns-then-fits-clause-cached g c = λ entries is.
    (let same = same_entries c.args.reader.now.cache.nodes c.args.want.now c.args.key.now c.in-Some.node.now entries c.in-Some.ensures.found is in
    (refl, subst (λ es. IsTurn c.args.want.now es c.args.block c.turn_at.result) (sym same) c.turn_at.ensures))

pub returns-then-fits-clause-look : goal.returns-then-fits-clause-look
returns-then-fits-clause-look g c =
    let uses = subst (λ (r : Option (Bor NodeBody)). Uses c.args.reader.now.cache c.args.want.now.addr c.args.key.now (option_copied r) c.get.follows.lender-at-none) c.in-Some.is c.get.follows.holds-at-none in
    record {
      seen = search rules;
      bad = search rules;
      used = record { node = c.in-Some.node.now; fits = c.fits.ensures.0 c.if-fits.true; is = c.turn_at.ensures; first = inl uses.1 };
      forgets = forgets_used c.args.reader.now.cache c.get.follows.lender-at-none c.args.want.now.addr c.args.key.now c.in-Some.node.now c.get.ensures.apart uses;
      keeps = λ tells. keeps_used (g.P.Platform.history c.args.platform.now).present.readable c.args.reader.now.cache c.get.follows.lender-at-none c.args.want.now.addr c.args.key.now c.in-Some.node.now uses;
      but = but_used c.args.reader.now.cache c.get.follows.lender-at-none c.args.want.now.addr c.args.key.now c.in-Some.node.now uses;
      looks = looks_still g.P.Platform c.args.platform.now;
      cause = search rules;
    }

pub returns-else-fits-clause-cached : goal.returns-else-fits-clause-cached
returns-else-fits-clause-cached g c = λ entries is. absurd (let no_fit : c.fits.result ≡ true = c.fits.ensures.1 (fits_too c.args.reader.now.cache.nodes c.args.want.now c.args.key.now c.in-Some.node.now entries c.in-Some.ensures.found is) in cc)

pub returns-else-fits-clause-look : goal.returns-else-fits-clause-look
returns-else-fits-clause-look g c =
    let uses = subst (λ (r : Option (Bor NodeBody)). Uses c.args.reader.now.cache c.args.want.now.addr c.args.key.now (option_copied r) c.get.follows.lender-at-none) c.in-Some.is c.get.follows.holds-at-none in
    record {
      seen = search rules;
      bad = search rules;
      used = tt;
      forgets = forgets_used c.args.reader.now.cache c.get.follows.lender-at-none c.args.want.now.addr c.args.key.now c.in-Some.node.now c.get.ensures.apart uses;
      keeps = λ tells. keeps_used (g.P.Platform.history c.args.platform.now).present.readable c.args.reader.now.cache c.get.follows.lender-at-none c.args.want.now.addr c.args.key.now c.in-Some.node.now uses;
      but = but_used c.args.reader.now.cache c.get.follows.lender-at-none c.args.want.now.addr c.args.key.now c.in-Some.node.now uses;
      looks = looks_still g.P.Platform c.args.platform.now;
      cause = search rules;
    }

pub returns-then-fits-clause-still : goal.returns-then-fits-clause-still
returns-then-fits-clause-still g c = λ node kept.
    (let uses = subst (λ (r : Option (Bor NodeBody)). Uses c.args.reader.now.cache c.args.want.now.addr c.args.key.now (option_copied r) c.get.follows.lender-at-none) c.in-Some.is c.get.follows.holds-at-none in
    still_used c.args.reader.now.cache c.get.follows.lender-at-none c.args.want.now.addr c.args.key.now c.in-Some.node.now uses)

pub returns-else-fits-clause-still : goal.returns-else-fits-clause-still
returns-else-fits-clause-still g c = λ node kept.
    (let uses = subst (λ (r : Option (Bor NodeBody)). Uses c.args.reader.now.cache c.args.want.now.addr c.args.key.now (option_copied r) c.get.follows.lender-at-none) c.in-Some.is c.get.follows.holds-at-none in
    still_used c.args.reader.now.cache c.get.follows.lender-at-none c.args.want.now.addr c.args.key.now c.in-Some.node.now uses)

pub returns-clause-look : goal.returns-clause-look
returns-clause-look g c =
    let uses = subst (λ (r : Option (Bor NodeBody)). Uses c.args.reader.now.cache c.args.want.now.addr c.args.key.now (option_copied r) c.get.follows.lender-at-none) c.in_default.is c.get.follows.holds-at-none in
    subst (λ (old : Cached). LooksFor g.P.Platform c.args.want.now c.args.key.now c.args.block c.args.platform.now c.look_at_page.new.platform old c.look_at_page.new.reader.cache c.look_at_page.result) uses.0 c.look_at_page.ensures

pub returns-clause-still : goal.returns-clause-still
returns-clause-still g c = λ node kept. absurd (c.in_default.ensures.none node kept)

pub returns-clause-cached : goal.returns-clause-cached
returns-clause-cached g c = λ entries is. absurd (c.in_default.ensures.none is.node is.here)

-- ---- a cached node that isn't wanted

pub returns-then-fits-clause-misfit : goal.returns-then-fits-clause-misfit
returns-then-fits-clause-misfit g c = λ is. absurd (is.misfit (subst (NodeFits c.args.want.now c.args.key.now) (sym (c.in-Some.ensures.found.only is.node is.here)) (c.fits.ensures.0 c.if-fits.true)))

pub returns-else-fits-clause-misfit : goal.returns-else-fits-clause-misfit
returns-else-fits-clause-misfit g c = λ is.
    (let uses = subst (λ (r : Option (Bor NodeBody)). Uses c.args.reader.now.cache c.args.want.now.addr c.args.key.now (option_copied r) c.get.follows.lender-at-none) c.in-Some.is c.get.follows.holds-at-none in (
      refl,
      refl,
      record {
        node = c.in-Some.node.now;
        here = found_still c.args.reader.now.cache c.get.follows.lender-at-none c.args.want.now.addr c.args.key.now c.in-Some.node.now uses;
        misfit = subst (λ (n : NodeBody). ¬ (NodeFits c.args.want.now c.args.key.now n)) (c.in-Some.ensures.found.only is.node is.here) is.misfit;
      },
    ))

pub returns-clause-misfit : goal.returns-clause-misfit
returns-clause-misfit g c = λ is. absurd (c.in_default.ensures.none is.node is.here)
