use Rattle.std.proofs.Common.{◌≡◌, ℕ, ◌≤◌, ◌-◌, ◌^◌, List, [], Option, Err, refl, sym, ap, subst, arith}
use Rattle.std.proofs.lemmas.Result.{err_from_is_err_and}
use Rattle.btree_update.specs.declared.refusals.ReadyRefusal.TheVariants.{BadRecord}
use Rattle.btree_update.specs.GroveTree.{MapsFrom}
use Rattle.btree_twigs.specs.declared.twigs.Twig.{Twig}
use Rattle.btree_twigs.specs.Stubs.{stubs}
use Rattle.btree_twigs.specs.Top.{top_least}
use Rattle.btree_update.specs.Held.{bound, AnyRead, IsReadAs, HeldFrom}
use Rattle.btree_update.specs.Holding.{HoldsFew, neighbours_in}
use Rattle.std.specs.Prelude.{IsFalse}
use Rattle.btree_update.proofs.FewLaws.{few_as, unmapped_told}
use Rattle.btree_update.specs.Wrong.{WrongFrom}
use Rattle.btree_update.specs.Groves.{IsWrongOnWay}
use Rattle.btree_update.proofs.RootHolds.{root_holds}
use Rattle.btree_update.proofs.BesideLaws.{loses_of}
use Rattle.btree_update.proofs.FitsLaws.{AreSmall, are_small, from_never}
use Rattle.btree_update.proofs.GroveLaws.{sound_as, above_it}
use Rattle.btree_update.proofs.MappedLaws.{told}
use Rattle.page_store.specs.Places.{FitsAt}
use Rattle.btree_update.specs.Finding.{ChildFinds, GroveFinds, IsFoundBy}
use Rattle.btree_update.proofs.WayFinds.{found_as, told_found}
use Rattle.std.proofs.Common.{take, ◌*◌}
use Rattle.node_cache.specs.declared.slots.CachedNode.{CachedNode}
use Rattle.btree_walk.specs.Sights.{CachedFits}
use Rattle.btree_twigs.specs.declared.twigs.Child.{Child}
use Rattle.btree_update.specs.Roots.{IsRoot}
use Rattle.btree_update.specs.Finding.{RootKeeps}
use Rattle.btree_update.specs.Warm.{KeepsFromChild, FitsAmong}
use Rattle.btree_update.proofs.WayFinds.{from_root, to_root}
use Rattle.btree_update.proofs.EarlyLaws.{child_each, names_below, fits_kept}
use Rattle.btree_update.proofs.groves.Grove.ready.Goals as goal

pub hold_way-requires : goal.hold_way-requires
hold_way-requires g c = record {
  can = root_holds c.args.self.now.order c.least_of_root-least.result c.args.self.now.level c.args.block c.args.self.now.blocks (g.P.Platform.head c.args.platform.now) c.args.self.now.top
      (record { one = c.requires.sound.one; four = c.requires.sound.least; most = c.requires.sound.most; shaped = c.requires.sound.shaped; to = c.requires.to; size = c.requires.within.0; within = c.requires.within.1 }) c.least_of_root-least.ensures;
}

pub returns-in_err-left-clause-bad : goal.returns-in_err-left-clause-bad
returns-in_err-left-clause-bad g c =
    let p = err_from_is_err_and c.from_residual.result c.from_residual.ensures.1 in
    rw (p.1, p.2) (λ tells stands.
    (let grove = c.args.self.now in
    let pages = (g.P.Platform.history c.args.platform.now).present.readable in
    let wrong : (addr : ℕ) → c.in_err-left.field-0.0 ≡ BadRecord addr → IsWrongOnWay pages c.args.block grove addr = λ addr same.
    subst (λ l. WrongFrom pages grove.order l c.args.block addr (grove.level - 1) grove.blocks grove.top) c.least_of_root-least.ensures (c.in_err-left.ensures.bad tells stands addr (ap Err same)) in
    record {
      wrong = λ addr is. (let same : c.in_err-left.field-0.0 ≡ BadRecord addr = cc in wrong addr same);
      never = λ mapped maps addr is.
          (let same : c.in_err-left.field-0.0 ≡ BadRecord addr = cc in
          let head : g.P.Platform.head c.args.platform.now ≤ 2 ^ 64 = omega (arith, g.met.P.Platform.has_room c.args.platform.now, g.met.P.Platform.is_limited c.args.platform.now) in
          let small = subst (λ k. AreSmall (stubs k grove.blocks grove.top)) (above_it grove.level c.requires.sound.one) (are_small (bound (g.P.Platform.head c.args.platform.now) c.requires.within.0) (stubs grove.level grove.blocks grove.top) head c.requires.within.1) in
          from_never pages grove.order (top_least (grove.level - 1)) c.args.block addr (grove.level - 1) grove.blocks grove.top mapped small maps (wrong addr same));
    }))

pub returns-in_err-make_spares-clause-sound : goal.returns-in_err-make_spares-clause-sound
returns-in_err-make_spares-clause-sound g c =
    sound_as c.args.self.now _ c.requires.sound (refl, refl, refl, refl) (c.make_spares.ensures.kept c.args.self.now.order c.requires.sound.most c.requires.sound.spares)

pub returns-in_err-make_room-clause-sound : goal.returns-in_err-make_room-clause-sound
returns-in_err-make_room-clause-sound g c =
    sound_as c.args.self.now _ c.requires.sound (refl, refl, refl, refl) (c.make_spares.ensures.kept c.args.self.now.order c.requires.sound.most c.requires.sound.spares)

pub returns-clause-can : goal.returns-clause-can
returns-clause-can g c =
    let spared = c.make_spares.ensures.kept c.args.self.now.order c.requires.sound.most c.requires.sound.spares in
    let Unmapped = IsFalse c.is_mapped.result in
    let few : HoldsFew g.P.Platform c.args.self.now.level (c.args.self.now.level - 1) c.args.platform.now c.hold_way.new.platform [] c.hold_way.new.held.items [] c.hold_way.new.beside.items Unmapped =
    subst (λ (held : List Twig). HoldsFew g.P.Platform c.args.self.now.level (c.args.self.now.level - 1) c.args.platform.now c.hold_way.new.platform held c.hold_way.new.held.items [] c.hold_way.new.beside.items Unmapped) c.let_go_held.ensures.0
    (subst (λ (beside : List (Option Twig)). HoldsFew g.P.Platform c.args.self.now.level (c.args.self.now.level - 1) c.args.platform.now c.hold_way.new.platform c.let_go_held.new.held.items c.hold_way.new.held.items beside c.hold_way.new.beside.items Unmapped) c.let_go_held.ensures.1
    (few_as g.P.Platform c.args.self.now.level (c.args.self.now.level - 1) c.args.platform.now c.hold_way.new.platform c.let_go_held.new.held.items c.hold_way.new.held.items c.let_go_held.new.beside.items c.hold_way.new.beside.items _ Unmapped
    (unmapped_told c.in_ok-left.left c.is_mapped.result c.is_mapped.ensures) c.in_ok-left.ensures.at_hand.1)) in
    let at_hand = subst (λ l. HeldFrom AnyRead c.args.self.now.order l c.args.block (c.args.self.now.level - 1) c.args.self.now.blocks c.args.self.now.top c.hold_way.new.held.items) c.least_of_root-least.ensures c.in_ok-left.ensures.at_hand.0 in (
      record {
        sound = sound_as c.args.self.now _ c.requires.sound (refl, refl, refl, refl) spared;
        to = c.requires.to;
        at_hand = at_hand;
        spares = c.in_ok-make_spares.ensures.made c.args.self.now.order c.requires.sound.most c.requires.sound.spares;
        gone_room = omega (arith, c.in_ok-make_room.ensures.gone, c.len.ensures);
        never_room = c.in_ok-make_room.ensures.never;
      },
      λ mapped.
          (let l = loses_of AnyRead c.args.self.now.order c.args.block (c.args.self.now.level - 1) c.args.self.now.blocks c.args.self.now.top c.hold_way.new.held.items c.hold_way.new.beside.items c.in_ok-left.left
          (c.is_mapped.ensures.0 mapped) c.in_ok-left.ensures.helps in
          record {
            sound = sound_as c.args.self.now _ c.requires.sound (refl, refl, refl, refl) spared;
            to = c.requires.to;
            at_hand = at_hand;
            loses = l.0;
            beside = l.1;
            gone_room = omega (arith, c.in_ok-make_room.ensures.gone, c.len.ensures, c.len-2.ensures);
            never_room = c.in_ok-make_room.ensures.never;
          }),
      few,
      c.make_spares.ensures.few,
    )

pub returns-clause-reads : goal.returns-clause-reads
returns-clause-reads g c = λ tells stands. (
  subst (λ l. HeldFrom (IsReadAs (g.P.Platform.history c.args.platform.now).present.readable c.args.self.now.order) c.args.self.now.order l c.args.block (c.args.self.now.level - 1) c.args.self.now.blocks c.args.self.now.top c.hold_way.new.held.items) c.least_of_root-least.ensures
      (c.in_ok-left.ensures.reads tells stands),
  λ mapped. loses_of (IsReadAs (g.P.Platform.history c.args.platform.now).present.readable c.args.self.now.order) c.args.self.now.order c.args.block (c.args.self.now.level - 1) c.args.self.now.blocks c.args.self.now.top c.hold_way.new.held.items c.hold_way.new.beside.items c.in_ok-left.left
      (c.is_mapped.ensures.0 mapped) (c.in_ok-left.ensures.beside tells stands),
)

pub returns-clause-sound : goal.returns-clause-sound
returns-clause-sound g c =
    sound_as c.args.self.now _ c.requires.sound (refl, refl, refl, refl) (c.make_spares.ensures.kept c.args.self.now.order c.requires.sound.most c.requires.sound.spares)

pub returns-clause-mapped : goal.returns-clause-mapped
returns-clause-mapped g c = λ tells stands map m.
    told c.args.block map c.in_ok-left.left c.is_mapped.result c.is_mapped.ensures (c.in_ok-left.ensures.mapped tells stands map
    (subst (λ l. MapsFrom (g.P.Platform.history c.args.platform.now).present.readable c.args.self.now.order l (c.args.self.now.level - 1) c.args.self.now.blocks c.args.self.now.top map) (sym c.least_of_root-least.ensures) m))

pub returns-clause-finds : goal.returns-clause-finds
returns-clause-finds g c = λ tells stands.
    (let pages = (g.P.Platform.history c.args.platform.now).present.readable in
    let grove = c.args.self.now in
    let Finds = ChildFinds (FitsAt pages) grove.order (top_least (grove.level - 1)) c.args.block (grove.level - 1) grove.blocks grove.top in
    let left = subst (λ l. IsFoundBy (ChildFinds (FitsAt pages) grove.order l c.args.block (grove.level - 1) grove.blocks grove.top) c.in_ok-left.left) c.least_of_root-least.ensures (c.in_ok-left.ensures.finds tells stands) in
    told_found (GroveFinds pages c.args.block grove) c.in_ok-left.left c.is_mapped.result c.is_mapped.ensures
    (found_as Finds (GroveFinds pages c.args.block grove) c.in_ok-left.left (λ found f. to_root (FitsAt pages) grove.order c.args.block (grove.level - 1) grove.blocks grove.top found c.requires.sound.shaped f) left))

-- ---- where the cache keeps the way

kept_child : (kept : List CachedNode) (order least block level high : ℕ) (top : Child) → IsRoot order (level - 1) high top → least ≡ top_least (level - 1) → RootKeeps kept order block (level - 1) high top → KeepsFromChild kept order least block (level - 1) high top
kept_child kept order least block level high top root is keeps = subst (λ l. KeepsFromChild kept order l block (level - 1) high top) (sym is) (keeps.0, from_root (CachedFits kept) order block (level - 1) high top keeps.0 root keeps.1)

pub returns-in_err-left-clause-caches : goal.returns-in_err-left-clause-caches
returns-in_err-left-clause-caches g c =
    let p = err_from_is_err_and c.from_residual.result c.from_residual.ensures.1 in
    let grove = c.args.self.now in
    let way = c.in_err-left.ensures.caches in
    let kept = kept_child c.args.reader.now.cache.nodes grove.order c.least_of_root-least.result c.args.block grove.level grove.blocks grove.top c.requires.sound.shaped c.least_of_root-least.ensures in
    rw (p.1, p.2) (record { forgets = way.forgets; stands = way.stands; among = way.among; warm = λ tells keeps. tt; early = λ tells stands places such one. tt; fills = λ tells stands places such one. tt; few = λ tells keeps. way.few tells (kept keeps) })

pub returns-in_err-make_spares-clause-caches : goal.returns-in_err-make_spares-clause-caches
returns-in_err-make_spares-clause-caches g c =
    let p = err_from_is_err_and c.from_residual-in_err-make_spares.result c.from_residual-in_err-make_spares.ensures.1 in
    let grove = c.args.self.now in
    let way = c.in_ok-left.ensures.caches in
    let kept = kept_child c.args.reader.now.cache.nodes grove.order c.least_of_root-least.result c.args.block grove.level grove.blocks grove.top c.requires.sound.shaped c.least_of_root-least.ensures in
    rw (p.1, p.2) (record { forgets = way.forgets; stands = way.stands; among = way.among; warm = λ tells keeps. tt; early = λ tells stands places such one. tt; fills = λ tells stands places such one. tt; few = λ tells keeps. way.few tells (kept keeps) })

pub returns-in_err-make_room-clause-caches : goal.returns-in_err-make_room-clause-caches
returns-in_err-make_room-clause-caches g c =
    let p = err_from_is_err_and c.from_residual-in_err-make_room.result c.from_residual-in_err-make_room.ensures.1 in
    let grove = c.args.self.now in
    let way = c.in_ok-left.ensures.caches in
    let kept = kept_child c.args.reader.now.cache.nodes grove.order c.least_of_root-least.result c.args.block grove.level grove.blocks grove.top c.requires.sound.shaped c.least_of_root-least.ensures in
    rw (p.1, p.2) (record { forgets = way.forgets; stands = way.stands; among = way.among; warm = λ tells keeps. tt; early = λ tells stands places such one. tt; fills = λ tells stands places such one. tt; few = λ tells keeps. way.few tells (kept keeps) })

pub returns-clause-caches : goal.returns-clause-caches
returns-clause-caches g c =
    let grove = c.args.self.now in
    let way = c.in_ok-left.ensures.caches in
    let kept = kept_child c.args.reader.now.cache.nodes grove.order c.least_of_root-least.result c.args.block grove.level grove.blocks grove.top c.requires.sound.shaped c.least_of_root-least.ensures in
    record {
      forgets = way.forgets;
      stands = way.stands;
      among = way.among;
      warm = λ tells keeps.
          (let none : neighbours_in c.let_go_held.new.beside.items ≡ 0 = ap neighbours_in c.let_go_held.ensures.1 in
          omega (arith, way.warm tells (kept keeps), none));
      few = λ tells keeps. way.few tells (kept keeps);
      early = λ tells stands places such one. way.early tells stands places such one;
      fills = λ tells stands places such one room.
          (let new = c.hold_way.new.reader.cache.nodes in
          let Was = FitsAmong places (take (2 * grove.level - 1) new) in
          let f = way.fills tells stands places such one room in
          let moved = child_each Was (CachedFits new) grove.order c.args.block (names_below places (take (2 * grove.level - 1) new)) (fits_kept places (2 * grove.level - 1) new) c.least_of_root-least.result (grove.level - 1) grove.blocks grove.top f.0 f.1 in (
            f.0,
            to_root (CachedFits new) grove.order c.args.block (grove.level - 1) grove.blocks grove.top f.0 c.requires.sound.shaped
                (subst (λ l. ChildFinds (CachedFits new) grove.order l c.args.block (grove.level - 1) grove.blocks grove.top f.0) c.least_of_root-least.ensures moved),
          ));
    }
