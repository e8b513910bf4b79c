use Rattle.std.proofs.Common.{◌≡◌, ◌<◌, ◌+◌, ◌-◌, ◌^◌, ℕ, List, Ok, Err, ap, sym, subst, ◌∙◌, arith, rules}
use Rattle.std.proofs.lemmas.Result.{err_from_is_err_and}
use Rattle.node_codec.specs.declared.body.Entry.{Entry}
use Rattle.node_codec.specs.Record.{NodeRecord}
use Rattle.page_store.specs.declared.refusals.FetchRefusal.TheVariants.{BadRecord}
use Rattle.btree_walk.specs.declared.turns.Turn.{Turn}
use Rattle.btree_walk.specs.Ways.{IsTurn}
use Rattle.btree_walk.specs.Sights.{CachedFits, Sees, Misses, StandsOver, KeepsOnly}
use Rattle.btree_walk.specs.Finds.{SeesTurn, UsesNode, Stops, IsFound}
use Rattle.btree_walk.specs.Among.{GoDown}
use Rattle.btree_walk.proofs.FindLaws.{stops_first}
use Rattle.btree_walk.proofs.LookLaws.{used_range, asks_next, next_below, next_less}
use Rattle.btree_walk.proofs.OnLaws.{found_leaf, found_on, stopped_on, first_kept, same_found, kept_on, IfOk_map, entry_below}
use Rattle.btree_walk.proofs.MappedLaws.{stands_over_still}
use Rattle.btree_walk.proofs.AmongLaws.{among_but, goes_among, keeps_then}
use Rattle.btree_walk.proofs.ForgetLaws.{forgets_then}
use Rattle.btree_walk.proofs.finding.+find.Goals as goal

pub returns-in_err-found-clause-bad : goal.returns-in_err-found-clause-bad
returns-in_err-found-clause-bad g t c =
    let p = err_from_is_err_and c.from_residual.result c.from_residual.ensures.1 in
    let kept = c.args.reader.now.cache.nodes in let start = c.args.start.now in let pages = (g.P.Platform.history c.args.platform.now).present.readable in
    rw (p.1, p.2) (λ tells addr is.
    let same : c.in_err-found.field-0.0 ≡ BadRecord addr = cc in
    stops_first (Sees kept pages) start.most c.args.block (Misses kept pages) addr (start.level - 1) start c.args.key.now (c.in_err-found.ensures.look.bad tells addr (ap Err same)))

pub returns-in_err-found-clause-cached : goal.returns-in_err-found-clause-cached
returns-in_err-found-clause-cached g t c = λ found path is.
    (let first = first_kept c.args.start.now c.args.key.now c.args.block c.args.reader.now.cache c.requires.asks.level found path is in
    absurd (c.in_err-found.ensures.cached first.0 first.1).1)

pub find-requires : goal.find-requires
find-requires g t c =
    let start = c.args.start.now in let next = c.in-Below.next in let key = c.in-Below.next_key in
    let told = subst (UsesNode start c.args.key.now c.args.block c.args.reader.now.cache c.look.new.reader.cache) c.in-Below.is c.in_ok-found.ensures.look.used in
    let entries = told.node.entries.items in
    let range = used_range start c.args.key.now c.args.block c.args.reader.now.cache c.look.new.reader.cache _ told in
    let asks = asks_next start next key entries c.args.block c.requires.asks range told.is in
    let below = next_below start next key entries c.args.block range told.is in
    let less : next.level + 1 ≡ start.level = next_less start next key entries c.args.block told.is in
    let head = c.in_ok-found.ensures.look.looks.head in
    λ κs lives. (first_of (omega arith, search rules), (lives, (omega (arith, below, head, c.requires.within), asks)))

pub returns-in-Found-clause-found : goal.returns-in-Found-clause-found
returns-in-Found-clause-found g t c = λ tells.
    (let kept = c.args.reader.now.cache.nodes in let start = c.args.start.now in let pages = (g.P.Platform.history c.args.platform.now).present.readable in
    let seen = subst (λ (turn : Turn). SeesTurn kept pages start c.args.key.now c.args.block turn) c.in-Found.is (c.in_ok-found.ensures.look.seen tells) in
    found_leaf pages start c.args.key.now c.args.block c.args.reader.now.cache c.look.new.reader.cache c.in-Found.found (subst (UsesNode start c.args.key.now c.args.block c.args.reader.now.cache c.look.new.reader.cache) c.in-Found.is c.in_ok-found.ensures.look.used) seen)

pub returns-in-Found-clause-cached : goal.returns-in-Found-clause-cached
returns-in-Found-clause-cached g t c = λ found path is.
    (let start = c.args.start.now in
    let first = first_kept start c.args.key.now c.args.block c.args.reader.now.cache c.requires.asks.level found path is in
    let turned = λ (entries : List Entry) (fits : CachedFits c.args.reader.now.cache.nodes start c.args.key.now (NodeRecord start.level entries)). subst (λ (turn : Turn). IsTurn start entries c.args.block turn) c.in-Found.is (c.in_ok-found.ensures.cached entries fits).1 in
    let same = same_found start c.args.key.now c.args.block c.args.reader.now.cache c.requires.asks.level c.in-Found.found found path turned is in
    ((c.in_ok-found.ensures.cached first.0 first.1).0, ap Ok same))

pub returns-in-Below-clause-found : goal.returns-in-Below-clause-found
returns-in-Below-clause-found g t c = λ tells.
    (let kept = c.args.reader.now.cache.nodes in let start = c.args.start.now in let pages = (g.P.Platform.history c.args.platform.now).present.readable in
    let next = c.in-Below.next in let key = c.in-Below.next_key in
    let seen = subst (λ (turn : Turn). SeesTurn kept pages start c.args.key.now c.args.block turn) c.in-Below.is (c.in_ok-found.ensures.look.seen tells) in
    let same : (g.P.Platform.history c.look.new.platform).present.readable ≡ pages = ap (λ i. i.readable) (c.in_ok-found.ensures.look.looks.image tells) in
    IfOk_map (IsFound (g.P.Platform.history c.look.new.platform).present.readable next key c.args.block c.look.new.reader.cache c.find.new.reader.cache)
    (IsFound pages start c.args.key.now c.args.block c.args.reader.now.cache c.find.new.reader.cache) c.find.result
    (λ found is. found_on pages start c.args.key.now c.args.block c.args.reader.now.cache c.look.new.reader.cache next key (c.in_ok-found.ensures.look.keeps tells) seen c.find.new.reader.cache found (subst (UsesNode start c.args.key.now c.args.block c.args.reader.now.cache c.look.new.reader.cache) c.in-Below.is c.in_ok-found.ensures.look.used)
    (subst (λ (p : List (List ℕ)). IsFound p next key c.args.block c.look.new.reader.cache c.find.new.reader.cache found) same is))
    (c.find.ensures.found tells))

pub returns-in-Below-clause-bad : goal.returns-in-Below-clause-bad
returns-in-Below-clause-bad g t c = λ tells addr is.
    (let kept = c.args.reader.now.cache.nodes in let start = c.args.start.now in let pages = (g.P.Platform.history c.args.platform.now).present.readable in
    let next = c.in-Below.next in let key = c.in-Below.next_key in
    let seen = subst (λ (turn : Turn). SeesTurn kept pages start c.args.key.now c.args.block turn) c.in-Below.is (c.in_ok-found.ensures.look.seen tells) in
    let same : (g.P.Platform.history c.look.new.platform).present.readable ≡ pages = ap (λ i. i.readable) (c.in_ok-found.ensures.look.looks.image tells) in
    let small : start.addr < 2 ^ 64 = omega (arith, c.requires.within, g.met.P.Platform.has_room c.args.platform.now, g.met.P.Platform.is_limited c.args.platform.now) in
    stopped_on pages start c.args.key.now c.args.block c.args.reader.now.cache c.look.new.reader.cache next key (c.in_ok-found.ensures.look.keeps tells) seen addr small
    (subst (λ (p : List (List ℕ)). Stops (Sees c.look.new.reader.cache.nodes p) next.most c.args.block (Misses c.look.new.reader.cache.nodes p) addr (next.level - 1) next key) same (c.find.ensures.bad tells addr is)))

pub returns-in-Below-clause-entry : goal.returns-in-Below-clause-entry
returns-in-Below-clause-entry g t c =
    let start = c.args.start.now in let next = c.in-Below.next in let key = c.in-Below.next_key in
    let told = subst (UsesNode start c.args.key.now c.args.block c.args.reader.now.cache c.look.new.reader.cache) c.in-Below.is c.in_ok-found.ensures.look.used in
    let below = next_below start next key told.node.entries.items c.args.block (used_range start c.args.key.now c.args.block c.args.reader.now.cache c.look.new.reader.cache _ told) told.is in
    IfOk_map _ _ c.find.result (entry_below c.args.block next.addr start.addr below) c.find.ensures.entry

pub returns-in-Below-clause-cached : goal.returns-in-Below-clause-cached
returns-in-Below-clause-cached g t c = λ found path is.
    (let start = c.args.start.now in let next = c.in-Below.next in let key = c.in-Below.next_key in
    let first = first_kept start c.args.key.now c.args.block c.args.reader.now.cache c.requires.asks.level found path is in
    let turned = λ (entries : List Entry) (fits : CachedFits c.args.reader.now.cache.nodes start c.args.key.now (NodeRecord start.level entries)). subst (λ (turn : Turn). IsTurn start entries c.args.block turn) c.in-Below.is (c.in_ok-found.ensures.cached entries fits).1 in
    let still = c.in_ok-found.ensures.still first.1.node first.1.here in
    let on = kept_on start c.args.key.now c.args.block c.args.reader.now.cache c.requires.asks.level next key c.look.new.reader.cache found path still turned is in
    let rest = c.find.ensures.cached found on.0 on.1 in
    (rest.0 ∙ (c.in_ok-found.ensures.cached first.0 first.1).0, rest.1))

pub returns-in_err-found-clause-among : goal.returns-in_err-found-clause-among
returns-in_err-found-clause-among g t c = λ tells stands places such kept.
    among_but places c.args.start.now.addr c.args.key.now c.args.reader.now.cache c.look.new.reader.cache such.1 c.in_err-found.ensures.look.but kept

pub returns-in-Found-clause-among : goal.returns-in-Found-clause-among
returns-in-Found-clause-among g t c = λ tells stands places such kept.
    among_but places c.args.start.now.addr c.args.key.now c.args.reader.now.cache c.look.new.reader.cache such.1 c.in_ok-found.ensures.look.but kept

pub returns-in-Below-clause-among : goal.returns-in-Below-clause-among
returns-in-Below-clause-among g t c = λ tells stands places such kept.
    (let start = c.args.start.now in let pages = (g.P.Platform.history c.args.platform.now).present.readable in
    let next = c.in-Below.next in let key = c.in-Below.next_key in
    let seen = subst (λ (turn : Turn). SeesTurn c.args.reader.now.cache.nodes pages start c.args.key.now c.args.block turn) c.in-Below.is (c.in_ok-found.ensures.look.seen tells) in
    let same : (g.P.Platform.history c.look.new.platform).present.readable ≡ pages = ap (λ i. i.readable) (c.in_ok-found.ensures.look.looks.image tells) in
    let stands' = subst (λ (p : List (List ℕ)). StandsOver p c.look.new.reader.cache) (sym same) (stands_over_still pages c.args.reader.now.cache c.look.new.reader.cache stands (c.in_ok-found.ensures.look.keeps tells)) in
    let down = subst (λ (p : List (List ℕ)). GoDown p places) (sym same) such.0 in
    let at = goes_among pages c.args.reader.now.cache start next c.args.key.now key seen.entries c.args.block places stands seen.sees seen.is such.0 such.1 in
    let kept' = among_but places start.addr c.args.key.now c.args.reader.now.cache c.look.new.reader.cache such.1 c.in_ok-found.ensures.look.but kept in
    c.find.ensures.among tells stands' places (down, at) kept')

pub returns-in-Below-clause-keeps : goal.returns-in-Below-clause-keeps
returns-in-Below-clause-keeps g t c = λ tells.
    (let pages = (g.P.Platform.history c.args.platform.now).present.readable in
    let same : (g.P.Platform.history c.look.new.platform).present.readable ≡ pages = ap (λ i. i.readable) (c.in_ok-found.ensures.look.looks.image tells) in
    keeps_then pages c.args.reader.now.cache c.look.new.reader.cache c.find.new.reader.cache (c.in_ok-found.ensures.look.keeps tells)
    (subst (λ (p : List (List ℕ)). KeepsOnly p c.look.new.reader.cache c.find.new.reader.cache) same (c.find.ensures.keeps tells)))

pub returns-in-Below-clause-forgets : goal.returns-in-Below-clause-forgets
returns-in-Below-clause-forgets g t c = forgets_then c.args.reader.now.cache c.look.new.reader.cache c.find.new.reader.cache c.in_ok-found.ensures.look.forgets c.find.ensures.forgets

-- ---- a cached node that isn't wanted

pub returns-in_err-found-clause-misfit : goal.returns-in_err-found-clause-misfit
returns-in_err-found-clause-misfit g t c =
    let p = err_from_is_err_and c.from_residual.result c.from_residual.ensures.1 in
    rw (p.1, p.2) (λ is.
    let misfit = c.in_err-found.ensures.misfit is in
    let same : c.in_err-found.field-0.0 ≡ BadRecord c.args.start.now.addr = let told = misfit.1 in cc in
    (misfit.0, ap Err same, misfit.2))

pub returns-in-Found-clause-misfit : goal.returns-in-Found-clause-misfit
returns-in-Found-clause-misfit g t c = λ is. absurd (let no = (c.in_ok-found.ensures.misfit is).1 in cc)

pub returns-in-Below-clause-misfit : goal.returns-in-Below-clause-misfit
returns-in-Below-clause-misfit g t c = λ is. absurd (let no = (c.in_ok-found.ensures.misfit is).1 in cc)
