-- How many nodes are held for an update, and how many pages are read for them.
use Rattle.std.proofs.Common.{◌≡◌, ◌↔◌, ℕ, ◌+◌, ◌≤◌, List, [], ◌∷◌, ◌++◌, Option, Bool, true, false, IsTrue, length, length-append, refl, ap, ◌∙◌, arith}
use Rattle.std.specs.Prelude.{IsFalse, is_some}
use Rattle.std.proofs.Math.Bool.{cond}
use Rattle.std.proofs.lemmas.Bool.{false≢true}
use Rattle.std.proofs.lemmas.List.Sums.{sum_by-append}
use Rattle.platform.specs.declared.platforms.Platform.{Ghosts}
use Rattle.btree_twigs.specs.declared.twigs.Child.{Child}
use Rattle.btree_twigs.specs.declared.twigs.Twig.{Twig}
use Rattle.btree_twigs.specs.Stubs.{Stub}
use Rattle.btree_update.specs.declared.siblings.Left.{Left}
use Rattle.btree_update.specs.declared.siblings.Left.TheVariants.{Unmapped, Enough, Short}
use Rattle.btree_update.specs.Beside.{HoldsBeside}
use Rattle.btree_update.specs.Holding.{HoldsFew, neighbours_in}

one_more : {T : Type 0} (old new : List T) (x : T) → new ≡ old ++ x ∷ [] → length new ≡ length old + 1
one_more old new x is = ap length is ∙ length-append old (x ∷ [])

-- one place more has its neighbour more, if there is one
one_beside : (old new : List (Option Twig)) (one : Option Twig) → new ≡ old ++ one ∷ [] → neighbours_in new ≡ neighbours_in old + neighbours_in (one ∷ [])
one_beside old new one is = ap neighbours_in is ∙ sum_by-append (λ x. cond (is_some x) 1 0) old (one ∷ [])

-- none was added
pub few_none : {S : Type 0} (P : Ghosts S) (way beside : ℕ) (platform : S) (held : List Twig) (helpers : List (Option Twig)) (Lacked : Type 0) → HoldsFew P way beside platform platform held held helpers helpers Lacked
few_none P way beside platform held helpers Lacked = record { on_way = omega arith; neighbours = omega arith; reads = λ told. omega arith; unmapped = λ none. refl }

-- more might have been
pub few_more : {S : Type 0} (P : Ghosts S) (way more beside : ℕ) (platform after : S) (held held_now : List Twig) (helpers helpers_now : List (Option Twig)) (Lacked : Type 0) → way ≤ more
    → HoldsFew P way beside platform after held held_now helpers helpers_now Lacked → HoldsFew P more beside platform after held held_now helpers helpers_now Lacked
few_more P way more beside platform after held held_now helpers helpers_now Lacked less few = record { on_way = omega (arith, few.on_way, less); neighbours = few.neighbours; reads = few.reads; unmapped = few.unmapped }

-- the same, where it is told otherwise that the block isn't mapped
pub few_as : {S : Type 0} (P : Ghosts S) (way beside : ℕ) (platform after : S) (held held_now : List Twig) (helpers helpers_now : List (Option Twig)) (Was Is : Type 0) → (Is → Was)
    → HoldsFew P way beside platform after held held_now helpers helpers_now Was → HoldsFew P way beside platform after held held_now helpers helpers_now Is
few_as P way beside platform after held held_now helpers helpers_now Was Is so few = record { on_way = few.on_way; neighbours = few.neighbours; reads = few.reads; unmapped = λ is. few.unmapped (so is) }

-- a node was read before those, and is held behind them
pub few_read : {S : Type 0} (P : Ghosts S) (way more beside : ℕ) (first mid last : S) (held between held_now : List Twig) (helpers helpers_now : List (Option Twig)) (twig : Twig) (Lacked : Type 0)
    → HoldsFew P way beside mid last held between helpers helpers_now Lacked → (P.tells → P.reads mid ≤ P.reads first + 1) → held_now ≡ between ++ twig ∷ [] → way + 1 ≤ more → HoldsFew P more beside first last held held_now helpers helpers_now Lacked
few_read P way more beside first mid last held between held_now helpers helpers_now twig Lacked few read is less =
    let count = one_more between held_now twig is in
    record { on_way = omega (arith, few.on_way, count, less); neighbours = few.neighbours; reads = λ told. omega (arith, few.reads told, read told, count); unmapped = few.unmapped }

-- a neighbour is held, or none is needed
pub few_one : {S : Type 0} (P : Ghosts S) (first last : S) (helpers helpers_now : List (Option Twig)) (one : Option Twig) (Lacked : Type 0) → helpers_now ≡ helpers ++ one ∷ [] → (P.tells → P.reads last ≤ P.reads first + neighbours_in (one ∷ []))
    → (Lacked → ⊥) → HoldsFew P 0 1 first last [] [] helpers helpers_now Lacked
few_one P first last helpers helpers_now one Lacked is read mapped =
    let count = one_more helpers helpers_now one is in
    let held = one_beside helpers helpers_now one is in
    record { on_way = omega arith; neighbours = omega (arith, count); reads = λ told. omega (arith, read told, held); unmapped = λ none. absurd (mapped none) }

-- and one neighbour more
pub few_beside : {S : Type 0} (P : Ghosts S) (way beside more : ℕ) (first mid last : S) (held held_now : List Twig) (helpers between helpers_now : List (Option Twig)) (Was Is : Type 0) → (Is → Was)
    → HoldsFew P way beside first mid held held_now helpers between Was → HoldsFew P 0 1 mid last [] [] between helpers_now Was → beside + 1 ≤ more → HoldsFew P way more first last held held_now helpers helpers_now Is
few_beside P way beside more first mid last held held_now helpers between helpers_now Was Is so few one less = record {
  on_way = few.on_way;
  neighbours = omega (arith, few.neighbours, one.neighbours, less);
  reads = λ told. omega (arith, few.reads told, one.reads told);
  unmapped = λ is. one.unmapped (so is) ∙ few.unmapped (so is);
}

-- where a removal leaves all of a node, it leaves all of the child
pub unmapped_below : (Reads : ℕ → Stub → Twig → Type 0) (order below width high : ℕ) (fs : List Child) (c : Child) (bs : List Child) (old new : List (Option Twig)) (left after : Left) →
    HoldsBeside Reads order below width high fs c bs old new left after → after ≡ Unmapped → left ≡ Unmapped
unmapped_below Reads order below width high fs c bs old new Unmapped after h is = refl
unmapped_below Reads order below width high fs c bs old new Enough Unmapped h is = absurd h.1
unmapped_below Reads order below width high fs c bs old new Enough Enough h is = absurd cc
unmapped_below Reads order below width high fs c bs old new Enough Short h is = absurd cc
unmapped_below Reads order below width high fs c bs old new Short Unmapped h is = absurd h.left
unmapped_below Reads order below width high fs c bs old new Short Enough h is = absurd cc
unmapped_below Reads order below width high fs c bs old new Short Short h is = absurd cc

-- as a truth value
pub unmapped_told : (left : Left) (b : Bool) → IsTrue b ↔ ¬ (left ≡ Unmapped) → IsFalse b → left ≡ Unmapped
unmapped_told Unmapped b i is = refl
unmapped_told Enough true i is = absurd cc
unmapped_told Enough false i is = absurd (false≢true (i.1 (λ e. absurd cc)))
unmapped_told Short true i is = absurd cc
unmapped_told Short false i is = absurd (false≢true (i.1 (λ e. absurd cc)))
