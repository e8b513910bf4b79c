-- What an update of a tree leaves of each look-up.
use Rattle.std.proofs.Common.{◌≡◌, ◌≢◌, ◌↔◌, ℕ, ◌-◌, ◌<◌, ◌≤◌, List, [], ◌∷◌, ◌++◌, Option, None, Some, refl, sym, subst, arith}
use Rattle.std.specs.List.{AllByRecursion}
use Rattle.sdbt_base.specs.declared.lists.Unkept.{Unkept}
use Rattle.node_codec.specs.declared.body.Entry.{Entry}
use Rattle.btree_twigs.specs.Stubs.{Stub, Puts, Takes, datum}
use Rattle.btree_twigs.specs.Top.{IsTop}
use Rattle.btree_update.specs.declared.groves.Grove.{Grove}
use Rattle.btree_update.specs.Groves.{IsSound, KeepsTree, Goes, places_of}
use Rattle.btree_update.specs.Finding.{GroveFinds}
use Rattle.btree_update.proofs.RowLaws.{all_front, all_back, all_append}
use Rattle.btree_update.proofs.FrameLaws.{IsLower, FindsIn, root_in, new_in, places_lower, places_tile, opened_lower, lower_open, opened_same, takes_same, takes_gone, puts_same, puts_here}

-- over these pages a look-up of the block finds the same in both trees
abbrev pub FindsSame : List (List ℕ) → Grove → Grove → ℕ → Type 0
FindsSame pages old new block = (found : Option Entry) → GroveFinds pages block old found ↔ GroveFinds pages block new found

-- a tree that is kept
pub kept_same : (pages : List (List ℕ)) (old new : Grove) (block : ℕ) → KeepsTree old new → FindsSame pages old new block
kept_same pages old new block k found =
    let is : GroveFinds pages block old found ≡ GroveFinds pages block new found = rw (k.order, k.level, k.blocks, k.top) refl in
    (λ f. subst (λ A. A) is f, λ f. subst (λ A. A) (sym is) f)

up_to : (top blocks : ℕ) (ss : List Stub) → AllByRecursion (IsLower top blocks) ss → AllByRecursion (λ s. s.level ≤ top) ss
up_to top blocks [] h = tt
up_to top blocks (s ∷ ss) h = (h.0.0, up_to top blocks ss h.1)

-- an update of a block that opened places of a tree
module _ (pages : List (List ℕ)) (old : Grove) (block : ℕ) (sound : IsSound old) (to : block < old.blocks) (May : Stub → Type 0) (Makes : List Stub → Type 0) (gone more : List ℕ) (never most : List Unkept) (g : Goes pages old.order old.level old.head block May Makes (places_of old) gone more never most) where
  -- all that is opened lies below the root
  below : AllByRecursion (λ s. s.level < old.level) g.opened
  below = lower_open old.level old.blocks block g.opened sound.one to g.is_open (opened_lower pages old.order old.level old.blocks g.places (places_of old) g.opened g.opens (places_lower old.order old.level old.blocks old.top sound.one sound.shaped))

  -- and what is found of a block in the tree is found there
  opened_in : (other : ℕ) (found : Option Entry) → other < old.blocks → GroveFinds pages other old found ↔ FindsIn pages old.order old.level other g.opened found
  opened_in other found less =
      let one = root_in pages old.order other old.level old.blocks old.top found sound.one sound.shaped less in
      let lower = places_lower old.order old.level old.blocks old.top sound.one sound.shaped in
      let tiles = places_tile old.order old.level old.blocks old.top sound.one sound.shaped (omega (arith, less)) in
      let two = (opened_same pages old.order old.level other g.places (places_of old) g.opened sound.least g.opens g.fit (up_to old.level old.blocks (places_of old) lower) 0 old.blocks tiles).same found in
      (λ f. two.0 (one.0 f), λ f. one.1 (two.1 f))

  -- a tree that was made of it
  module _ (new : Grove) (one : 1 ≤ new.level) (top : IsTop new.order (new.level - 1) new.blocks new.top) (order : new.order ≡ old.order) (blocks : new.blocks ≡ old.blocks) (less : AllByRecursion (λ s. s.level < old.level) (places_of new)) where
    made_in : (other : ℕ) (found : Option Entry) → GroveFinds pages other new found ↔ FindsIn pages old.order old.level other (places_of new) found
    made_in other found = subst (λ n. GroveFinds pages other new found ↔ FindsIn pages n old.level other (places_of new) found) order (new_in pages new.order old.level other new.level new.blocks new.top found one top less)

    made_same : (other : ℕ) → other < old.blocks → ((found : Option Entry) → FindsIn pages old.order old.level other g.opened found ↔ FindsIn pages old.order old.level other (places_of new) found) → FindsSame pages old new other
    made_same other within same found =
        let from = opened_in other found within in
        let into = made_in other found in
        (λ f. into.1 ((same found).0 (from.0 f)), λ f. from.1 ((same found).1 (into.0 f)))

-- once a block is taken out none finds it, and what is found of each other one is the same
pub record TakesFrom (pages : List (List ℕ)) (old new : Grove) (block : ℕ) : Type 0 where
  pub gone : GroveFinds pages block new None
  pub others : (other : ℕ) → other < old.blocks → other ≢ block → FindsSame pages old new other

pub taken : (pages : List (List ℕ)) (old new : Grove) (block : ℕ) (May : Stub → Type 0) (gone more : List ℕ) (never most : List Unkept) → IsSound old → block < old.blocks → 1 ≤ new.level → IsTop new.order (new.level - 1) new.blocks new.top → new.order ≡ old.order → new.blocks ≡ old.blocks →
    Goes pages old.order old.level old.head block May (λ opened. Takes 0 old.blocks block opened (places_of new)) (places_of old) gone more never most → TakesFrom pages old new block
taken pages old new block May gone more never most sound to one top order blocks g =
    let Lower : Stub → Type 0 = λ s. s.level < old.level in
    let all = subst (AllByRecursion Lower) g.makes.was (below pages old block sound to May _ gone more never most g) in
    let rest = all_back Lower g.makes.mid g.makes.back (all_back Lower g.makes.front (g.makes.mid ++ g.makes.back) all) in
    let less = subst (AllByRecursion Lower) (sym g.makes.now) (all_append Lower g.makes.front g.makes.back (all_front Lower g.makes.front (g.makes.mid ++ g.makes.back) all) rest) in
    record {
      gone = (made_in pages old block sound to May _ gone more never most g new one top order blocks less block None).1 (takes_gone pages old.order old.level block old.blocks g.opened (places_of new) g.makes);
      others = λ other within apart. made_same pages old block sound to May _ gone more never most g new one top order blocks less other within
          (λ found. takes_same pages old.order old.level other block old.blocks g.opened (places_of new) found (λ same. apart (sym same)) g.makes);
    }

-- once a block has a place it is found there, and what is found of each other one is the same
pub record PutsInto (pages : List (List ℕ)) (old new : Grove) (block addr : ℕ) (key : List ℕ) : Type 0 where
  pub here : GroveFinds pages block new (Some (record { low = block; addr = addr; key = key }))
  pub others : (other : ℕ) → other < old.blocks → other ≢ block → FindsSame pages old new other

pub put : (pages : List (List ℕ)) (old new : Grove) (block addr : ℕ) (key : List ℕ) (May : Stub → Type 0) (gone more : List ℕ) (never most : List Unkept) → IsSound old → block < old.blocks → 1 ≤ new.level → IsTop new.order (new.level - 1) new.blocks new.top → new.order ≡ old.order → new.blocks ≡ old.blocks →
    Goes pages old.order old.level old.head block May (λ opened. Puts 0 old.blocks (datum block addr key) opened (places_of new)) (places_of old) gone more never most → PutsInto pages old new block addr key
put pages old new block addr key May gone more never most sound to one top order blocks g =
    let Lower : Stub → Type 0 = λ s. s.level < old.level in
    let all = subst (AllByRecursion Lower) g.makes.was (below pages old block sound to May _ gone more never most g) in
    let rest = all_back Lower g.makes.mid g.makes.back (all_back Lower g.makes.front (g.makes.mid ++ g.makes.back) all) in
    let less = subst (AllByRecursion Lower) (sym g.makes.now) (all_append Lower g.makes.front (datum block addr key ∷ g.makes.back) (all_front Lower g.makes.front (g.makes.mid ++ g.makes.back) all) (omega (arith, sound.one), rest)) in
    record {
      here = (made_in pages old block sound to May _ gone more never most g new one top order blocks less block _).1 (puts_here pages old.order old.level block old.blocks addr key g.opened (places_of new) g.makes);
      others = λ other within apart. made_same pages old block sound to May _ gone more never most g new one top order blocks less other within
          (λ found. puts_same pages old.order old.level other block old.blocks addr key g.opened (places_of new) found (λ same. apart (sym same)) g.makes);
    }
