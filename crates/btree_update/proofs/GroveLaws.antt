-- What an update does to a grove, from what it does to its root.
use Rattle.std.proofs.Common.{◌≡◌, ℕ, zero, suc, ◌-◌, ◌<◌, ◌≤◌, List, [], ◌∷◌, ◌++◌, ◌∙◌, ap, append-nil, append_assoc, length-append, refl, sym, subst, arith, length, vec_capacity}
use Rattle.std.specs.List.{AllByRecursion}
use Rattle.std.specs.declared.vec.Vec.{Vec}
use Rattle.std.specs.declared.alloc.Global.{Global}
use Rattle.page_store.specs.Tree.{Mapped}
use Rattle.btree_twigs.specs.declared.twigs.Child.{Child, Child-F, out-Child}
use Rattle.btree_twigs.specs.declared.twigs.Child.TheOpen.{Kept, Grown}
use Rattle.btree_twigs.specs.declared.twigs.Child.TheVariants as made
use Rattle.btree_twigs.specs.declared.twigs.Twig.{Twig}
use Rattle.btree_twigs.specs.declared.twigs.Spot.{Spot}
use Rattle.btree_twigs.specs.Stubs.{Stub, Puts, Takes, datum, stubs, stubs_in, stubs_below}
use Rattle.btree_twigs.specs.Shape.{IsTwig}
use Rattle.btree_twigs.specs.Updates.{IsOpen, HasSpares}
use Rattle.btree_twigs.specs.Search.{IsAt, IsSpot}
use Rattle.btree_twigs.specs.Top.{IsTop, IsTopBy, top_least}
use Rattle.btree_twigs.proofs.Nodes.{stubs_of_grown}
use Rattle.btree_twigs.proofs.Ways.{open_back}
use Rattle.btree_update.specs.GroveTree.{Maps, MapsIn}
use Rattle.btree_update.specs.Held.{Bound, AreBelow}
use Rattle.btree_update.proofs.OpenLaws.{below_front, below_back, below_append}
use Rattle.btree_update.specs.Roots.{IsRoot, IsRootBy, RootMaps}
use Rattle.btree_update.specs.declared.groves.Grove.{Grove}
use Rattle.btree_update.specs.Groves.{IsSound}
use Rattle.btree_update.specs.Holding.{AddsSpares}

-- where a search ends below a root
pub spot_at : (order below block high low : ℕ) (twig : Twig) (spot : Spot) → IsTop order below high (made.Grown low twig) → block < high →
    ((order level least most low : ℕ) → IsTwig order level least most low high twig → low ≤ block → block < high → IsSpot block (stubs_below level high twig) spot) →
    IsSpot block (stubs (suc below) high (made.Grown low twig)) spot
spot_at order below block high low twig spot top lt f =
    let h = subst (IsTopBy order below high) (made.outs-Grown low twig) top in
    subst (λ ss. IsSpot block ss spot) (sym (stubs_of_grown below high low twig)) (f order below (top_least below) order 0 h.1 (omega arith) lt)

-- on an open way it ends at no place of a node
pub no_place : (block : ℕ) (ss : List Stub) (s : Stub) → IsAt block ss (s ∷ []) → IsOpen block ss → 1 ≤ s.level → s.low ≤ block → block < s.high → ⊥
no_place block ss s at h one from to =
    let back = open_back block at.front (s ∷ at.back) (subst (IsOpen block) at.all h) in
    omega (arith, back.0 from to, one)

top_root_by : (order level high : ℕ) (x : Child-F Child Twig) → IsTopBy order level high x → IsRootBy order level high x
top_root_by order level high (Kept low addr key) h = absurd h
top_root_by order level high (Grown low twig) h = h

pub top_is_root : (order level high : ℕ) (c : Child) → IsTop order level high c → IsRoot order level high c
top_is_root order level high c h = top_root_by order level high (out-Child c) h

top_maps_by : (pages : List (List ℕ)) (order level high : ℕ) (x : Child-F Child Twig) (mapped : List Mapped) → IsTopBy order level high x → Maps pages order (stubs_in (stubs level) (suc level) high x) mapped →
    MapsIn pages order (top_least level) level high x mapped
top_maps_by pages order level high (Kept low addr key) mapped h m = absurd h
top_maps_by pages order level high (Grown low twig) mapped h m = m

pub top_maps : (pages : List (List ℕ)) (order level high : ℕ) (c : Child) (mapped : List Mapped) → IsTop order level high c → Maps pages order (stubs (suc level) high c) mapped → RootMaps pages order level high c mapped
unfolding stubs
top_maps pages order level high c mapped h m = top_maps_by pages order level high (out-Child c) mapped h m

pub above_it : (level : ℕ) → 1 ≤ level → level ≡ suc (level - 1)
above_it level one = omega (arith, one)

-- with other lists beside the tree a grove is still sound
pub sound_as : (old new : Grove) → IsSound old → (new.order ≡ old.order) × (new.blocks ≡ old.blocks) × (new.level ≡ old.level) × (new.top ≡ old.top) → HasSpares old.order 0 new.spares.items → IsSound new
sound_as old new h same spares = record {
  least = omega (arith, h.least, same.0);
  most = omega (arith, h.most, same.0);
  one = omega (arith, h.one, same.2);
  shaped = rw (same.0, same.1, same.2, same.3) h.shaped;
  spares = rw same.0 spares;
}

-- one list more
pub spares_push : (order : ℕ) (spares : List (Vec Child Global)) (spare : Vec Child Global) → order ≤ 64 → spare.items ≡ [] → 64 < vec_capacity spare → HasSpares order 0 spares → HasSpares order 0 (spares ++ spare ∷ [])
spares_push order spares spare le empty room h = record { many = omega arith; each = go spares h.each }
  where
    go : (xs : List (Vec Child Global)) → AllByRecursion (λ v. (v.items ≡ []) × (order < vec_capacity v)) xs → AllByRecursion (λ v. (v.items ≡ []) × (order < vec_capacity v)) (xs ++ spare ∷ [])
    go [] h = ((empty, omega (arith, le, room)), tt)
    go (x ∷ xs) h = (h.0, go xs h.1)

-- none more
pub spares_still : (count : ℕ) (spares : List (Vec Child Global)) → AddsSpares count spares spares
spares_still count spares = record { more = []; is = sym (append-nil spares); few = omega arith; rooms = tt }

-- some, and then some
pub spares_then : (count : ℕ) (old mid new : List (Vec Child Global)) → AddsSpares count old mid → AddsSpares count mid new → AddsSpares count old new
spares_then count old mid new a b = record {
  more = a.more ++ b.more;
  is = b.is ∙ ap (λ front. front ++ b.more) a.is ∙ append_assoc old a.more b.more;
  few = omega (arith, a.few, b.few, ap length a.is, length-append old a.more, length-append a.more b.more);
  rooms = both a.more a.rooms;
}
  where
    both : (xs : List (Vec Child Global)) → AllByRecursion (λ v. (v.items ≡ []) × (vec_capacity v ≡ 65)) xs → AllByRecursion (λ v. (v.items ≡ []) × (vec_capacity v ≡ 65)) (xs ++ b.more)
    both [] h = b.rooms
    both (x ∷ xs) h = (h.0, both xs h.1)

-- one more
pub spares_one : (count : ℕ) (old : List (Vec Child Global)) (spare : Vec Child Global) → length old < count → spare.items ≡ [] → vec_capacity spare ≡ 65 → AddsSpares count old (old ++ spare ∷ [])
spares_one count old spare lt empty room = record { more = spare ∷ []; is = refl; few = omega (arith, lt); rooms = ((empty, room), tt) }

pub spares_many : (order count : ℕ) (spares : List (Vec Child Global)) → count ≤ length spares → HasSpares order 0 spares → HasSpares order count spares
spares_many order count spares le h = record { many = le; each = h.each }

pub puts_below : (low high block addr : ℕ) (most : Bound) (key : List ℕ) (old new : List Stub) → Puts low high (datum block addr key) old new → AreBelow most old → addr < most.head → length key ≡ most.size → AreBelow most new
puts_below low high block addr most key old new p h lt same =
    let all = subst (AreBelow most) p.was h in
    subst (AreBelow most) (sym p.now) (below_append most p.front (datum block addr key ∷ p.back) (below_front most p.front (p.mid ++ p.back) all) ((lt, same), below_back most p.mid p.back (below_back most p.front (p.mid ++ p.back) all)))

pub kept_place : (level high low addr : ℕ) (most : Bound) (key : List ℕ) → 1 ≤ level → addr < most.head → length key ≡ most.size → AreBelow most (stubs level high (made.Kept low addr key))
unfolding stubs
kept_place zero high low addr most key one lt same = absurd (omega (arith, one))
kept_place (suc level) high low addr most key one lt same = subst (λ x. AreBelow most (stubs_in (stubs level) (suc level) high x)) (sym (made.outs-Kept low addr key)) ((lt, same), tt)

pub takes_below : (low high block : ℕ) (most : Bound) (old new : List Stub) → Takes low high block old new → AreBelow most old → AreBelow most new
takes_below low high block most old new p h =
    let all = subst (AreBelow most) p.was h in
    subst (AreBelow most) (sym p.now) (below_append most p.front p.back (below_front most p.front (p.mid ++ p.back) all) (below_back most p.mid p.back (below_back most p.front (p.mid ++ p.back) all)))
