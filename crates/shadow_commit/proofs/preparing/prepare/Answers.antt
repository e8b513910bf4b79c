use Rattle.std.proofs.Common.{◌≡◌, suc, ◌+◌, ◌-◌, ◌≤◌, ◌^◌, ◌++◌, length, refl, sym, ap, subst, ◌∙◌, arith}
use Rattle.platform.proofs.Moments.{During-start}
use Rattle.page_store.proofs.KeepingLaws.{keeps_idle, keeps_from}
use Rattle.btree_twigs.specs.Stubs.{children_of}
use Rattle.btree_update.specs.Groves.{places_of, grown_in}
use Rattle.shadow_commit.specs.Sealed.{SealsNode, Seals}
use Rattle.shadow_commit.specs.Handing.{KnowsPlaces}
use Rattle.shadow_commit.specs.Planned.{added_by}
use Rattle.node_cache.specs.Cached.{forgotten}
use Rattle.shadow_commit.specs.Ready.{ListsNewTree}
use Rattle.shadow_commit.proofs.KeyLaws.{AreKnown, keeps_sealed, keeps_stopped, places_more_keys}
use Rattle.shadow_commit.proofs.PlanLaws.{grown_is}
use Rattle.shadow_commit.proofs.ReadyLaws.{stops_before, stops_at, grove_twig, can_top, can_twig, sealed_as, certifies_same, knows_new_tree, same_places, pages_sealed, within_as, behind_as, next_refused}
use Rattle.std.proofs.lemmas.Result.{err_from_is_err_and}
use Rattle.shadow_commit.proofs.preparing.prepare.Goals as goal

pub returns-then-needed-free-clause-stops : goal.returns-then-needed-free-clause-stops
returns-then-needed-free-clause-stops g c = λ err.
    stops_before c.args.root.now.version (g.P.Platform.head c.args.platform.now) (places_of c.args.grove.now) g.P.Platform.tells (g.P.Platform.history c.args.platform.now).present (g.T.Tape.drawn c.args.tape.now)

pub returns-then-needed-free-clause-keeps : goal.returns-then-needed-free-clause-keeps
returns-then-needed-free-clause-keeps g c =
    let now = g.P.Platform.history c.args.platform.now in
    keeps_idle g.P.Platform.tells (g.T.Tape.drawn c.args.tape.now) (g.T.Tape.drawn c.args.tape.now) now now _ _ refl (λ told. During-start now (λ image. image ≡ now.present) refl) (λ told keys kept ready. tt)

pub returns-in_err-made-clause-stops : goal.returns-in_err-made-clause-stops
returns-in_err-made-clause-stops g c = λ err.
    stops_before c.args.root.now.version (g.P.Platform.head c.args.platform.now) (places_of c.args.grove.now) g.P.Platform.tells (g.P.Platform.history c.args.platform.now).present (g.T.Tape.drawn c.args.tape.now)

pub returns-in_err-made-clause-keeps : goal.returns-in_err-made-clause-keeps
returns-in_err-made-clause-keeps g c =
    let p = err_from_is_err_and c.from_residual.result c.from_residual.ensures.1 in
    rw p.1 (let now = g.P.Platform.history c.args.platform.now in
    keeps_idle g.P.Platform.tells (g.T.Tape.drawn c.args.tape.now) (g.T.Tape.drawn c.args.tape.now) now now _ _ refl (λ told. During-start now (λ image. image ≡ now.present) refl) (λ told keys kept ready. tt))

pub returns-in_err-entries-clause-stops : goal.returns-in_err-entries-clause-stops
returns-in_err-entries-clause-stops g c = λ err.
    stops_before c.args.root.now.version (g.P.Platform.head c.args.platform.now) (places_of c.args.grove.now) g.P.Platform.tells (g.P.Platform.history c.args.platform.now).present (g.T.Tape.drawn c.args.tape.now)

pub returns-in_err-entries-clause-keeps : goal.returns-in_err-entries-clause-keeps
returns-in_err-entries-clause-keeps g c =
    let p = err_from_is_err_and c.from_residual-in_err-entries.result c.from_residual-in_err-entries.ensures.1 in
    rw p.1 (let now = g.P.Platform.history c.args.platform.now in
    keeps_idle g.P.Platform.tells (g.T.Tape.drawn c.args.tape.now) (g.T.Tape.drawn c.args.tape.now) now now _ _ refl (λ told. During-start now (λ image. image ≡ now.present) refl) (λ told keys kept ready. tt))

pub certify-requires-clause-can : goal.certify-requires-clause-can
certify-requires-clause-can g c =
    let can = c.requires.can in
    let head = g.P.Platform.head c.args.platform.now in
    let room : head + grown_in c.args.grove.now ≤ 4294967296 = omega (arith, c.if-needed-free.false, c.grown-needed.ensures, c.head-head.ensures.value, c.head-head.ensures.room, c.capacity.ensures.value, c.capacity.ensures.limit) in
    can_twig head c.head-head.result 4294967296 c.args.root.now c.args.mapped c.args.grove.now c.top.result.now c.in-Grown.twig c.head-head.ensures.value c.top.ensures can
    (grove_twig head c.head-head.result c.args.root.now c.args.mapped c.args.grove.now c.top.result.now c.in-Grown.low c.in-Grown.twig c.head-head.ensures.value can c.top.ensures c.in-Grown.is) room

pub seal_all-requires-clause-can : goal.seal_all-requires-clause-can
seal_all-requires-clause-can g c =
    let head = g.P.Platform.head c.args.platform.now in
    let capacity = g.P.Platform.capacity c.args.platform.now in
    let room : head + grown_in c.args.grove.now ≤ capacity = omega (arith, c.if-needed-free.false, c.grown-needed.ensures, c.head-head.ensures.value, c.head-head.ensures.room, c.capacity.ensures.value) in
    can_top head capacity c.args.root.now c.args.mapped c.args.grove.now c.top-2.result.now c.top-2.ensures c.requires.can room

pub returns-clause-ready : goal.returns-clause-ready
returns-clause-ready g c =
    let can = c.requires.can in
    let root = c.args.root.now in
    let grove = c.args.grove.now in
    let head = g.P.Platform.head c.args.platform.now in
    let capacity = g.P.Platform.capacity c.args.platform.now in
    let next = c.in_ok-next.next in
    let twig = c.in-Grown.twig in
    let room : head + grown_in grove ≤ capacity = omega (arith, c.if-needed-free.false, c.grown-needed.ensures, c.head-head.ensures.value, c.head-head.ensures.room, c.capacity.ensures.value) in
    let small : head + grown_in grove ≤ 4294967296 = omega (arith, room, c.capacity.ensures.value, c.capacity.ensures.limit) in
    let S = c.in_ok-next.ensures.sealed (can_top head capacity root c.args.mapped grove c.top-2.result.now c.top-2.ensures can room) in
    let ns = S.adds.nodes in
    let level = grove.level - 1 in
    let s = grove_twig head c.head-head.result root c.args.mapped grove c.top.result.now c.in-Grown.low twig c.head-head.ensures.value can c.top.ensures c.in-Grown.is in
    let at = can_twig head c.head-head.result 4294967296 root c.args.mapped grove c.top.result.now twig c.head-head.ensures.value c.top.ensures can s small in
    let top_is = c.top-2.ensures ∙ sym c.top.ensures ∙ c.in-Grown.is in
    let node = grown_is c.args.root.now.version (suc level) level head c.top-2.result.now c.in-Grown.low twig ns (record { low = 0; addr = next.addr; key = next.key }) top_is refl S.adds.is in
    let C = c.in_ok-made.ensures.cert at ns next.addr next.key (subst (λ n. SealsNode c.args.root.now.version (Seals c.args.root.now.version level) level n (children_of twig) ns next.addr next.key) (sym c.head-head.ensures.value) node) in
    let places = sym s.places ∙ same_places head root c.args.mapped grove c.top.result.now can c.top.ensures in
    record {
      is = sealed_as _ _ _ _ _ _ _ _ (forgotten grove.gone.items c.args.reader.now.cache) _ root c.args.mapped grove c.top-2.result.now next can c.top-2.ensures (c.forget_all.ensures ∙ ap (λ gone. forgotten gone c.args.reader.now.cache) c.gone-2.ensures) S;
      cert = certifies_same (root.commit + 1) next.commit root.head (next.addr + 1) next.head next.addr _ (added_by root.head (places_of grove) ns) c.gone.result.now grove.gone.items c.never.result.now grove.never.items c.in_ok-made.made.cert
          (sym S.next_is.commit) (S.next_is.addr ∙ sym S.next_is.head_is) (ap (λ ss. added_by root.head ss ns) places) c.gone.ensures c.never.ensures C;
      in_text = c.in_ok-made.ensures.line.1;
      line = c.in_ok-made.ensures.line.0;
    }

pub returns-clause-within : goal.returns-clause-within
returns-clause-within g c =
    let can = c.requires.can in
    let grove = c.args.grove.now in
    let head = g.P.Platform.head c.args.platform.now in
    let capacity = g.P.Platform.capacity c.args.platform.now in
    let room : head + grown_in grove ≤ capacity = omega (arith, c.if-needed-free.false, c.grown-needed.ensures, c.head-head.ensures.value, c.head-head.ensures.room, c.capacity.ensures.value) in
    within_as head c.args.root.now c.args.mapped grove c.top-2.result.now can c.top-2.ensures _ (c.seal_all.ensures.within (can_top head capacity c.args.root.now c.args.mapped grove c.top-2.result.now c.top-2.ensures can room))

pub returns-clause-keeps : goal.returns-clause-keeps
returns-clause-keeps g c =
    let can = c.requires.can in
    let root = c.args.root.now in
    let grove = c.args.grove.now in
    let tells = g.P.Platform.tells in
    let old = g.P.Platform.history c.args.platform.now in
    let new = g.P.Platform.history c.seal_all.new.platform in
    let drawn = g.T.Tape.drawn c.args.tape.now in
    let drawn_now = g.T.Tape.drawn c.seal_all.new.tape in
    let head = g.P.Platform.head c.args.platform.now in
    let capacity = g.P.Platform.capacity c.args.platform.now in
    let next = c.in_ok-next.next in
    let room : head + grown_in grove ≤ capacity = omega (arith, c.if-needed-free.false, c.grown-needed.ensures, c.head-head.ensures.value, c.head-head.ensures.room, c.capacity.ensures.value) in
    let S = sealed_as _ _ _ _ _ _ _ _ _ _ root c.args.mapped grove c.top-2.result.now next can c.top-2.ensures refl
    (c.in_ok-next.ensures.sealed (can_top head capacity root c.args.mapped grove c.top-2.result.now c.top-2.ensures can room)) in
    let ns = S.adds.nodes in
    let places = places_of grove in
    let counts : tells → length new.present.recorded ≤ 2 ^ 32 = λ told. omega (arith, g.met.P.Platform.counts_pages told c.seal_all.new.platform, g.met.P.Platform.has_room c.seal_all.new.platform, g.met.P.Platform.is_limited c.seal_all.new.platform) in
    let K = keeps_sealed c.args.root.now.version tells drawn drawn_now old new head places ns c.seal_all.ensures.beside.cell (λ told. pages_sealed old.present S.written new.present ns (S.synced told) (S.adds.image told)) (λ told. g.met.P.Platform.counts_pages told c.args.platform.now) counts S.over S.adds.drew in
    keeps_from tells drawn drawn_now old new (KnowsPlaces old.present places) (KnowsPlaces old.present places) (AreKnown ns) (ListsNewTree old.present new.present root.order places c.args.mapped next) K (λ told keys ready. ready)
    (λ told keys more ready done. knows_new_tree tells old.present new.present head (g.P.Platform.head c.seal_all.new.platform) drawn drawn_now _ _ root c.args.mapped grove.level grove.top next _ S (keys ++ more) told
    (places_more_keys keys more places ready.listed) done)

pub returns-in_err-next-clause-stops : goal.returns-in_err-next-clause-stops
returns-in_err-next-clause-stops g c = λ err.
    let can = c.requires.can in
    let root = c.args.root.now in
    let grove = c.args.grove.now in
    let head = g.P.Platform.head c.args.platform.now in
    let room : head + grown_in grove ≤ g.P.Platform.capacity c.args.platform.now = omega (arith, c.if-needed-free.false, c.grown-needed.ensures, c.head-head.ensures.value, c.head-head.ensures.room, c.capacity.ensures.value) in
    stops_at c.args.root.now.version head _ (places_of grove) _ _ _ _ _ (same_places head root c.args.mapped grove c.top-2.result.now can c.top-2.ensures)
    (c.in_err-next.ensures.stops (can_top head (g.P.Platform.capacity c.args.platform.now) root c.args.mapped grove c.top-2.result.now c.top-2.ensures can room) refl)

pub returns-in_err-next-clause-within : goal.returns-in_err-next-clause-within
returns-in_err-next-clause-within g c =
    let can = c.requires.can in
    let grove = c.args.grove.now in
    let head = g.P.Platform.head c.args.platform.now in
    let capacity = g.P.Platform.capacity c.args.platform.now in
    let room : head + grown_in grove ≤ capacity = omega (arith, c.if-needed-free.false, c.grown-needed.ensures, c.head-head.ensures.value, c.head-head.ensures.room, c.capacity.ensures.value) in
    within_as head c.args.root.now c.args.mapped grove c.top-2.result.now can c.top-2.ensures _ (c.seal_all.ensures.within (can_top head capacity c.args.root.now c.args.mapped grove c.top-2.result.now c.top-2.ensures can room))

pub returns-in_err-next-clause-keeps : goal.returns-in_err-next-clause-keeps
returns-in_err-next-clause-keeps g c =
    let p = err_from_is_err_and c.from_residual-in_err-next.result c.from_residual-in_err-next.ensures.1 in
    rw p.1 (let can = c.requires.can in
    let root = c.args.root.now in
    let grove = c.args.grove.now in
    let head = g.P.Platform.head c.args.platform.now in
    let room : head + grown_in grove ≤ g.P.Platform.capacity c.args.platform.now = omega (arith, c.if-needed-free.false, c.grown-needed.ensures, c.head-head.ensures.value, c.head-head.ensures.room, c.capacity.ensures.value) in
    let stops = stops_at c.args.root.now.version head _ (places_of grove) _ _ _ _ _ (same_places head root c.args.mapped grove c.top-2.result.now can c.top-2.ensures)
    (c.in_err-next.ensures.stops (can_top head (g.P.Platform.capacity c.args.platform.now) root c.args.mapped grove c.top-2.result.now c.top-2.ensures can room) refl) in
    keeps_stopped c.args.root.now.version g.P.Platform.tells (g.T.Tape.drawn c.args.tape.now) (g.T.Tape.drawn c.seal_all.new.tape) (g.P.Platform.history c.args.platform.now) (g.P.Platform.history c.seal_all.new.platform) head (places_of grove)
    c.seal_all.ensures.beside.cell (λ told. g.met.P.Platform.counts_pages told c.args.platform.now)
    (λ told. omega (arith, g.met.P.Platform.counts_pages told c.seal_all.new.platform, g.met.P.Platform.has_room c.seal_all.new.platform, g.met.P.Platform.is_limited c.seal_all.new.platform)) stops)

pub returns-in_err-next-clause-cause : goal.returns-in_err-next-clause-cause
returns-in_err-next-clause-cause g c =
    let p = err_from_is_err_and c.from_residual-in_err-next.result c.from_residual-in_err-next.ensures.1 in
    let can = c.requires.can in
    let root = c.args.root.now in
    let grove = c.args.grove.now in
    let head = g.P.Platform.head c.args.platform.now in
    let capacity = g.P.Platform.capacity c.args.platform.now in
    let fits : grown_in grove ≤ capacity - head = omega (arith, c.if-needed-free.false, c.grown-needed.ensures, c.head-head.ensures.value, c.head-head.ensures.room, c.capacity.ensures.value) in
    let room : head + grown_in grove ≤ capacity = omega (arith, c.if-needed-free.false, c.grown-needed.ensures, c.head-head.ensures.value, c.head-head.ensures.room, c.capacity.ensures.value) in
    rw (p.1, p.2) (next_refused g.P.Platform g.T.Tape c.args.platform.now c.seal_all.new.platform c.args.tape.now c.seal_all.new.tape (grown_in grove) c.in_err-next.field-0.0 fits
    c.in_err-next.ensures.platform_cause c.in_err-next.ensures.tape_cause c.in_err-next.ensures.unsynced
    (behind_as g.P.Platform c.args.platform.now c.seal_all.new.platform root c.args.mapped grove c.top-2.result.now can c.top-2.ensures
    (c.seal_all.ensures.behind (can_top head capacity root c.args.mapped grove c.top-2.result.now c.top-2.ensures can room))))
