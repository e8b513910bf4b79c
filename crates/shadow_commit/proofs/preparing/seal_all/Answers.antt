use Rattle.std.proofs.Common.{◌≡◌, inl, inr, ℕ, suc, ◌+◌, ◌≤◌, ◌^◌, List, [], ◌++◌, append-nil, length, refl, sym, ap, subst, ◌∙◌, arith, rules}
use Rattle.sdbt_base.proofs.RiseLaws.{counted_once}
use Rattle.platform.specs.Image.{all_synced}
use Rattle.platform.proofs.Moments.{whole-now}
use Rattle.root_codec.specs.declared.root.Root.{Root}
use Rattle.btree_twigs.specs.declared.twigs.Twig.{out-Twig}
use Rattle.btree_twigs.specs.Stubs.{children_of, nodes, stubs, stubs_below}
use Rattle.btree_twigs.specs.Top.{top_least}
use Rattle.shadow_commit.specs.Sealed.{Sealed, SealsNode, Seals}
use Rattle.shadow_commit.specs.Caching.{AreCached}
use Rattle.shadow_commit.specs.NewTree.{AreNodesOver, KeysAreFrom, keys_at}
use Rattle.shadow_commit.proofs.SealLaws.{child_count}
use Rattle.shadow_commit.specs.Ready.{CanSealTop, IsNextRoot}
use Rattle.shadow_commit.proofs.KeyLaws.{node_keys}
use Rattle.shadow_commit.proofs.OrderLaws.{node_in_order}
use Rattle.shadow_commit.proofs.StepLaws.{grown_level, seals_grown, beside_call, beside_then, beside_unsynced, adds_stops, stops_none, stops_as}
use Rattle.shadow_commit.proofs.ReadyLaws.{root_twig, can_root, top_low, stands_with, next_fits, one_more}
use Rattle.shadow_commit.proofs.preparing.seal_all.Given.{Over}
use Rattle.shadow_commit.proofs.preparing.seal_all.Goals.{After-sync}
use Rattle.shadow_commit.proofs.preparing.seal_all.Goals as goal

-- behind the sync each node has its page
added : (g : Over) (c : After-sync g) → (at : CanSealTop (g.P.Platform.head c.args.platform.now) (g.P.Platform.capacity c.args.platform.now) c.args.root.now c.args.mapped c.args.top.now)
    → g.P.Platform.head c.sync.new.self ≡ g.P.Platform.head c.args.platform.now + nodes (suc at.level) c.args.top.now
added g c at =
    let head = g.P.Platform.head c.args.platform.now in
    let root = c.args.root.now in
    let top = c.args.top.now in
    let twig = c.in-Grown.twig in
    let placed = c.in_ok-placed.placed in
    let s = root_twig root.version root.order root.blocks at.level head c.in-Grown.low top twig c.in-Grown.is at.shaped at.below in
    let A = c.in_ok-placed.ensures.sealed (can_root head (g.P.Platform.capacity c.args.platform.now) root c.args.mapped top twig at s) in
    let ns = A.nodes in
    let is : Seals root.version (suc at.level) head top ns (record { low = 0; addr = placed.addr; key = placed.key })
    = subst (λ low. Seals root.version (suc at.level) head top ns (record { low = low; addr = placed.addr; key = placed.key })) (top_low root.order root.blocks at.level c.in-Grown.low top twig c.in-Grown.is at.shaped)
    (seals_grown root.version (suc at.level) at.level head top c.in-Grown.low twig ns placed.addr placed.key c.in-Grown.is refl A.is.0) in
    c.sync.ensures.head ∙ A.head ∙ ap (λ n. head + n) (child_count root.version (suc at.level) head top ns (record { low = 0; addr = placed.addr; key = placed.key }) is)

pub returns-in_err-placed-clause-unsynced : goal.returns-in_err-placed-clause-unsynced
returns-in_err-placed-clause-unsynced g c = λ told err. let few = c.seal_twig.ensures.beside.changes told in let least = few.rises in let most = few.at_most in omega (arith, least, most)

pub returns-in_err-placed-clause-behind : goal.returns-in_err-placed-clause-behind
returns-in_err-placed-clause-behind g c at = λ told. let few = c.seal_twig.ensures.beside.changes told in let least = few.rises in let most = few.at_most in inl (omega (arith, least, most))

pub returns-in_default-sync-clause-behind : goal.returns-in_default-sync-clause-behind
returns-in_default-sync-clause-behind g c at = λ told. inr (added g (goal.at.returns-in_default-sync-clause-behind g c).After-sync at)

pub returns-clause-behind : goal.returns-clause-behind
returns-clause-behind g c at = λ told. inr (added g (goal.at.returns-clause-behind g c).After-sync at)

pub seal_twig-requires-clause-can : goal.seal_twig-requires-clause-can
seal_twig-requires-clause-can g c =
    let at = c.requires.can in
    let head = g.P.Platform.head c.args.platform.now in
    can_root head (g.P.Platform.capacity c.args.platform.now) c.args.root.now c.args.mapped c.args.top.now c.in-Grown.twig at (root_twig c.args.root.now.version c.args.root.now.order c.args.root.now.blocks at.level head c.in-Grown.low c.args.top.now c.in-Grown.twig c.in-Grown.is at.shaped at.below)

pub seal_twig-requires-clause-room : goal.seal_twig-requires-clause-room
seal_twig-requires-clause-room g c = omega (arith, c.requires.room, grown_level c.args.top.now c.in-Grown.low c.in-Grown.twig c.in-Grown.is)

pub returns-in_err-placed-clause-within : goal.returns-in_err-placed-clause-within
returns-in_err-placed-clause-within g c at =
    let head = g.P.Platform.head c.args.platform.now in
    let s = root_twig c.args.root.now.version c.args.root.now.order c.args.root.now.blocks at.level head c.in-Grown.low c.args.top.now c.in-Grown.twig c.in-Grown.is at.shaped at.below in
    let w = c.seal_twig.ensures.within (can_root head (g.P.Platform.capacity c.args.platform.now) c.args.root.now c.args.mapped c.args.top.now c.in-Grown.twig at s) in
    omega (arith, w, s.count)

pub returns-in_err-placed-clause-stops : goal.returns-in_err-placed-clause-stops
returns-in_err-placed-clause-stops g c at = λ err.
    let head = g.P.Platform.head c.args.platform.now in
    let root = c.args.root.now in
    let s = root_twig c.args.root.now.version root.order root.blocks at.level head c.in-Grown.low c.args.top.now c.in-Grown.twig c.in-Grown.is at.shaped at.below in
    let can = can_root head (g.P.Platform.capacity c.args.platform.now) root c.args.mapped c.args.top.now c.in-Grown.twig at s in
    record {
      written = (g.P.Platform.history c.seal_twig.new.platform).present;
      stops = stops_as (AreNodesOver c.args.root.now.version head (stubs_below at.level root.blocks c.in-Grown.twig)) (AreNodesOver c.args.root.now.version head (stubs (suc at.level) root.blocks c.args.top.now)) _ _ _ _ _ (λ ms h. subst (λ ss. AreNodesOver c.args.root.now.version head ss ms) (sym s.places) h)
          (c.in_err-placed.ensures.stops can refl);
      synced = λ told. inl refl;
    }

pub returns-in_err-placed-clause-beside : goal.returns-in_err-placed-clause-beside
returns-in_err-placed-clause-beside g c =
    beside_unsynced g.P.Platform g.T.Tape 1 c.args.platform.now c.seal_twig.new.platform c.args.tape.now c.seal_twig.new.tape c.seal_twig.ensures.beside

pub returns-in_default-sync-clause-within : goal.returns-in_default-sync-clause-within
returns-in_default-sync-clause-within g c at =
    let head = g.P.Platform.head c.args.platform.now in
    let s = root_twig c.args.root.now.version c.args.root.now.order c.args.root.now.blocks at.level head c.in-Grown.low c.args.top.now c.in-Grown.twig c.in-Grown.is at.shaped at.below in
    let w = c.seal_twig.ensures.within (can_root head (g.P.Platform.capacity c.args.platform.now) c.args.root.now c.args.mapped c.args.top.now c.in-Grown.twig at s) in
    omega (arith, w, s.count, c.sync.ensures.head)

pub returns-in_default-sync-clause-beside : goal.returns-in_default-sync-clause-beside
returns-in_default-sync-clause-beside g c =
    let E = c.sync.ensures in
    beside_then g.P.Platform g.T.Tape 1 c.args.platform.now c.seal_twig.new.platform c.sync.new.self c.args.tape.now c.seal_twig.new.tape c.seal_twig.new.tape c.seal_twig.ensures.beside
    (beside_call g.P.Platform g.T.Tape 1 c.seal_twig.new.platform c.sync.new.self c.seal_twig.new.tape c.seal_twig.new.tape E.time E.cell (omega (arith, E.head)) E.capacity (λ told. (E.reads told).0) (λ told. counted_once _ _ _ (E.changes told)) E.faults (omega arith))

pub overflow_add-result-2 : goal.overflow_add-result-2
overflow_add-result-2 g c =
    let at = c.requires.can in
    let head = g.P.Platform.head c.args.platform.now in
    let s = root_twig c.args.root.now.version c.args.root.now.order c.args.root.now.blocks at.level head c.in-Grown.low c.args.top.now c.in-Grown.twig c.in-Grown.is at.shaped at.below in
    let can = can_root head (g.P.Platform.capacity c.args.platform.now) c.args.root.now c.args.mapped c.args.top.now c.in-Grown.twig at s in
    let A = c.in_ok-placed.ensures.sealed can in
    let up = one_more c.args.root.now.version at.level head (children_of c.in-Grown.twig) A.nodes c.in_ok-placed.placed.addr c.in_ok-placed.placed.key A.is.0 in
    let small : c.in_ok-placed.placed.addr + 1 ≤ 2 ^ 32 = omega (arith, up, A.head, c.seal_twig.ensures.within can, at.room, s.count, g.met.P.Platform.is_limited c.args.platform.now) in
    search rules

pub returns-clause-within : goal.returns-clause-within
returns-clause-within g c at =
    let head = g.P.Platform.head c.args.platform.now in
    let s = root_twig c.args.root.now.version c.args.root.now.order c.args.root.now.blocks at.level head c.in-Grown.low c.args.top.now c.in-Grown.twig c.in-Grown.is at.shaped at.below in
    let w = c.seal_twig.ensures.within (can_root head (g.P.Platform.capacity c.args.platform.now) c.args.root.now c.args.mapped c.args.top.now c.in-Grown.twig at s) in
    omega (arith, w, s.count, c.sync.ensures.head)

pub returns-clause-beside : goal.returns-clause-beside
returns-clause-beside g c =
    let E = c.sync.ensures in
    beside_then g.P.Platform g.T.Tape 1 c.args.platform.now c.seal_twig.new.platform c.sync.new.self c.args.tape.now c.seal_twig.new.tape c.seal_twig.new.tape c.seal_twig.ensures.beside
    (beside_call g.P.Platform g.T.Tape 1 c.seal_twig.new.platform c.sync.new.self c.seal_twig.new.tape c.seal_twig.new.tape E.time E.cell (omega (arith, E.head)) E.capacity (λ told. (E.reads told).0) (λ told. counted_once _ _ _ (E.changes told)) E.faults (omega arith))

pub returns-clause-sealed : goal.returns-clause-sealed
returns-clause-sealed g c at =
    let history = g.P.Platform.history in
    let drawn = g.T.Tape.drawn in
    let tells = g.P.Platform.tells in
    let head = g.P.Platform.head c.args.platform.now in
    let new_head = g.P.Platform.head c.sync.new.self in
    let root = c.args.root.now in
    let top = c.args.top.now in
    let twig = c.in-Grown.twig in
    let placed = c.in_ok-placed.placed in
    let s = root_twig c.args.root.now.version root.order root.blocks at.level head c.in-Grown.low top twig c.in-Grown.is at.shaped at.below in
    let can = can_root head (g.P.Platform.capacity c.args.platform.now) root c.args.mapped top twig at s in
    let A = c.in_ok-placed.ensures.sealed can in
    let ns = A.nodes in
    let next : Root = record { version = root.version; order = root.order; level = (out-Twig twig).level; blocks = root.blocks; commit = root.commit + 1; addr = placed.addr; key = placed.key; mapped = c.args.mapped; head = placed.addr + 1 } in
    let up = one_more c.args.root.now.version at.level head (children_of twig) ns placed.addr placed.key A.is.0 in
    let heads : new_head ≡ head + length ns = c.sync.ensures.head ∙ A.head in
    let next_by : (n : ℕ) → placed.addr + 1 ≡ n → IsNextRoot root c.args.mapped (suc at.level) n next = λ n e. record { version = refl; order = refl; blocks = refl; commit = refl; level_is = s.shaped.level_is; mapped_is = refl; addr = e; key = A.is.0.key_is; head_is = e } in
    let small : head + length ns ≤ 2 ^ 32 = omega (arith, A.head, c.seal_twig.ensures.within can, at.room, s.count, g.met.P.Platform.is_limited c.args.platform.now) in
    let fits = next_fits root next c.args.mapped at.level head (length ns) at.in_range at.within at.most at.level_most (next_by (head + length ns) up) (omega (arith, up, A.is.0.addr_is)) small in
    let seals : (ms : List Sealed) → SealsNode c.args.root.now.version (Seals c.args.root.now.version at.level) at.level head (children_of twig) ms placed.addr placed.key → Seals c.args.root.now.version (suc at.level) head top ms (record { low = 0; addr = placed.addr; key = placed.key })
    = λ ms h. subst (λ low. Seals c.args.root.now.version (suc at.level) head top ms (record { low = low; addr = placed.addr; key = placed.key })) (top_low root.order root.blocks at.level c.in-Grown.low top twig c.in-Grown.is at.shaped)
    (seals_grown c.args.root.now.version (suc at.level) at.level head top c.in-Grown.low twig ms placed.addr placed.key c.in-Grown.is refl h) in
    let old = (history c.args.platform.now).present in
    let mid = (history c.seal_twig.new.platform).present in
    let new = (history c.sync.new.self).present in
    let is = seals ns A.is.0 in
    record {
      written = mid;
      adds = record { nodes = ns; is = is; image = A.image; head = heads; drew = A.drew };
      over = record {
        order = node_in_order c.args.root.now.version root.order at.level (top_least at.level) head head 0 root.blocks placed.addr placed.key twig ns A.is.0 s.shaped (at.in_range.version, at.in_range.order_most) at.level_most at.in_range.blocks_most s.under (omega arith);
        keys = subst (λ ss. KeysAreFrom (keys_at ss) ns) (sym s.places) (node_keys c.args.root.now.version at.level head root.blocks (children_of twig) ns placed.addr placed.key A.is.0);
      };
      cached = A.is.1;
      synced = λ told. c.in-Ok.ensures.synced told;
      next_is = next_by new_head (up ∙ sym heads);
      in_range = fits;
      grown = heads ∙ ap (λ n. head + n) (child_count c.args.root.now.version (suc at.level) head top ns (record { low = 0; addr = placed.addr; key = placed.key }) is);
      stands = λ told each h.
          stands_with old new root next c.args.mapped at.level head top twig ns each (whole-now (history c.args.platform.now)) (sym (g.met.P.Platform.counts_pages told c.args.platform.now))
          at.in_range at.level_most s A.is.0 small (next_by (head + length ns) up) fits (c.in-Ok.ensures.synced told ∙ ap all_synced (A.image told)) h;
    }

pub returns-in_default-sync-clause-stops : goal.returns-in_default-sync-clause-stops
returns-in_default-sync-clause-stops g c at = λ err.
    let history = g.P.Platform.history in
    let drawn = g.T.Tape.drawn in
    let tells = g.P.Platform.tells in
    let head = g.P.Platform.head c.args.platform.now in
    let now = g.P.Platform.head c.seal_twig.new.platform in
    let root = c.args.root.now in
    let top = c.args.top.now in
    let twig = c.in-Grown.twig in
    let placed = c.in_ok-placed.placed in
    let mid = (history c.seal_twig.new.platform).present in
    let s = root_twig c.args.root.now.version root.order root.blocks at.level head c.in-Grown.low top twig c.in-Grown.is at.shaped at.below in
    let can = can_root head (g.P.Platform.capacity c.args.platform.now) root c.args.mapped top twig at s in
    let A = c.in_ok-placed.ensures.sealed can in
    let ns = A.nodes in
    let places = stubs (suc at.level) root.blocks top in
    let over : AreNodesOver c.args.root.now.version head places ns = record {
      order = node_in_order c.args.root.now.version root.order at.level (top_least at.level) head head 0 root.blocks placed.addr placed.key twig ns A.is.0 s.shaped (at.in_range.version, at.in_range.order_most) at.level_most at.in_range.blocks_most s.under (omega arith);
      keys = subst (λ ss. KeysAreFrom (keys_at ss) ns) (sym s.places) (node_keys c.args.root.now.version at.level head root.blocks (children_of twig) ns placed.addr placed.key A.is.0);
    } in
    let stops = adds_stops (AreCached (λ ms. SealsNode c.args.root.now.version (Seals c.args.root.now.version at.level) at.level head (children_of twig) ms placed.addr placed.key) c.args.reader.now.cache c.seal_twig.new.reader.cache) (λ ms. ms ≡ []) (AreNodesOver c.args.root.now.version head places) tells (history c.args.platform.now).present mid mid head now (drawn c.args.tape.now) (drawn c.seal_twig.new.tape) (drawn c.seal_twig.new.tape) A
    (λ ms none. subst (AreNodesOver c.args.root.now.version head places) (sym (ap (λ xs. ns ++ xs) none ∙ append-nil ns)) over)
    (stops_none (λ ms. ms ≡ []) tells mid mid (drawn c.seal_twig.new.tape) (drawn c.seal_twig.new.tape) refl (λ told. refl) refl) in
    record { written = mid; stops = stops; synced = λ told. c.sync.ensures.either told }
