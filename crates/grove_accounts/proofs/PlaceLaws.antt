-- Which places an update opens, takes and puts.
use Rattle.std.proofs.Common.{◌≡◌, ◌⊎◌, inl, inr, ℕ, suc, ◌-◌, ◌<◌, ◌≤◌, List, [], ◌∷◌, ◌++◌, refl, sym, ap, subst, ◌∙◌, arith}
use Rattle.std.specs.Prelude.{Option, None, Some}
use Rattle.std.specs.List.{AllByRecursion}
use Rattle.btree_twigs.specs.declared.twigs.Child.{Child, Child-F, out-Child}
use Rattle.btree_twigs.specs.declared.twigs.Child.TheOpen.{Kept, Grown}
use Rattle.btree_twigs.specs.declared.twigs.Twig.{Twig}
use Rattle.btree_twigs.specs.Stubs.{Stub, Tiles, Puts, Takes, datum, stubs, stubs_in, stubs_below}
use Rattle.btree_twigs.specs.Search.{IsAt}
use Rattle.btree_twigs.specs.Updates.{IsOpen}
use Rattle.btree_twigs.proofs.ListLaws.{tiles_le}
use Rattle.btree_update.specs.declared.groves.Grove.{Grove}
use Rattle.btree_update.specs.Roots.{IsRoot, IsRootBy}
use Rattle.btree_update.specs.Groves.{IsSound, IsAddressOf, places_of}
use Rattle.btree_update.proofs.FoundLaws.{up_twig}
use Rattle.btree_update.proofs.GroveLaws.{above_it}
use Rattle.std.proofs.lemmas.Bool.{cases_lt}
use Rattle.grove_accounts.proofs.ListLaws.{each_weaker, each_right, each_append}

-- ---- levels

-- a place of the root's level is the root
abbrev pub IsUnder : ℕ → ℕ → Stub → Type 0
IsUnder top blocks s = (s.level ≤ top) × (s.level ≡ top → (s.low ≡ 0) × (s.high ≡ blocks))

-- the root itself on the medium
pub record IsWholeStub (top blocks : ℕ) (s : Stub) : Type 0 where
  pub level : s.level ≡ top
  pub low : s.low ≡ 0
  pub high : s.high ≡ blocks

-- all places are below the root, or the one place is the root
abbrev pub AreBelowRoot : ℕ → ℕ → List Stub → Type 0
AreBelowRoot top blocks ss = AllByRecursion (λ s. s.level < top) ss ⊎ ((s : Stub) × (ss ≡ s ∷ []) × IsWholeStub top blocks s)

root_stubs : (order below high : ℕ) (c : Child) → IsRoot order below high c → AreBelowRoot (suc below) high (stubs (suc below) high c)
unfolding stubs
root_stubs order below high c shaped = here (out-Child c) shaped
  where
    here : (x : Child-F Child Twig) → IsRootBy order below high x → AreBelowRoot (suc below) high (stubs_in (stubs below) (suc below) high x)
    here (Kept low addr key) is = inr (record { level = suc below; low = low; high = high; addr = addr; key = key }, refl, record { level = refl; low = is; high = refl })
    here (Grown low twig) is = inl (each_weaker (λ (s : Stub). s.level ≤ below) (λ (s : Stub). s.level < suc below) (λ s le. omega (arith, le)) (stubs_below below high twig) (up_twig below high twig))

pub places_below : (grove : Grove) → IsSound grove → AreBelowRoot grove.level grove.blocks (places_of grove)
places_below grove sound =
    subst (λ n. AreBelowRoot n grove.blocks (stubs n grove.blocks grove.top)) (sym (above_it grove.level sound.one)) (root_stubs grove.order (grove.level - 1) grove.blocks grove.top sound.shaped)

pub under_root : (top blocks : ℕ) (ss : List Stub) → AreBelowRoot top blocks ss → AllByRecursion (IsUnder top blocks) ss
under_root top blocks ss (inl below) = each_weaker (λ (s : Stub). s.level < top) (IsUnder top blocks) (λ s less. (omega (arith, less), λ e. absurd (omega (arith, less, e)))) ss below
under_root top blocks ss (inr one) = subst (AllByRecursion (IsUnder top blocks)) (sym one.1) ((omega (arith, one.2.level), λ e. (one.2.low, one.2.high)), tt)

-- where the way to a block is open no place is the root
pub open_below : (top blocks block : ℕ) (ss : List Stub) → 1 ≤ top → block < blocks → AllByRecursion (IsUnder top blocks) ss → IsOpen block ss → AllByRecursion (λ s. s.level < top) ss
open_below top blocks block [] one to under open_ = tt
open_below top blocks block (s ∷ ss) one to under open_ = (less, open_below top blocks block ss one to under.1 open_.1)
  where
    le_cases : (a b : ℕ) → a ≤ b → (a < b) ⊎ (a ≡ b)
    le_cases a b le = elim (cases_lt a b) [
      | inl lt ↦ inl lt
      | inr ge ↦ inr (omega (arith, le, ge))
    ]

    less : s.level < top
    less = elim (le_cases s.level top under.0.0) [
      | inl lt ↦ lt
      | inr same ↦ (let at = under.0.1 same in absurd (let zero_is = open_.0 (omega (arith, at.0)) (omega (arith, at.1, to)) in omega (arith, zero_is, same, one)))
    ]

-- ---- bounds

pub tiles_in : (low high : ℕ) (ss : List Stub) → Tiles low high ss → AllByRecursion (λ s. (low ≤ s.low) × (s.low < s.high) × (s.high ≤ high)) ss
tiles_in low high [] h = tt
tiles_in low high (s ∷ ss) h = (
  (h.0, h.1, tiles_le s.high high ss h.2),
  each_weaker (λ (t : Stub). (s.high ≤ t.low) × (t.low < t.high) × (t.high ≤ high)) (λ (t : Stub). (low ≤ t.low) × (t.low < t.high) × (t.high ≤ high)) (λ t i. (omega (arith, i.0, h.0, h.1), i.1, i.2)) ss (tiles_in s.high high ss h.2),
)

-- where a data record was put, or taken, the tree has no root on the medium
pub puts_no_root : (top blocks block addr : ℕ) (key : List ℕ) (old new : List Stub) → 1 ≤ top → Puts 0 blocks (datum block addr key) old new → AreBelowRoot top blocks new → AllByRecursion (λ s. s.level < top) new
puts_no_root top blocks block addr key old new one p (inl below) = below
puts_no_root top blocks block addr key old new one p (inr whole) =
    let all = subst (AllByRecursion (λ s. s.level ≡ top)) (sym whole.1) (whole.2.level, tt) in
    let here = each_right (λ (s : Stub). s.level ≡ top) p.front (datum block addr key ∷ p.back) (subst (AllByRecursion (λ s. s.level ≡ top)) p.now all) in
    absurd (omega (arith, here.0, one))

pub takes_no_root : (top blocks block : ℕ) (old new : List Stub) → block < blocks → Takes 0 blocks block old new → AreBelowRoot top blocks new → AllByRecursion (λ s. s.level < top) new
takes_no_root top blocks block old new to p (inl below) = below
takes_no_root top blocks block old new to p (inr whole) = absurd (none p.front p.back (tiles_in 0 block p.front p.before) (tiles_in (suc block) blocks p.back p.after) (sym p.now ∙ whole.1))
  where
    none : (fs bs : List Stub) → AllByRecursion (λ s. (0 ≤ s.low) × (s.low < s.high) × (s.high ≤ block)) fs → AllByRecursion (λ s. (suc block ≤ s.low) × (s.low < s.high) × (s.high ≤ blocks)) bs → fs ++ bs ≡ whole.0 ∷ [] → ⊥
    none [] [] front back is = absurd cc
    none [] (b ∷ bs) front back is = let same : b ≡ whole.0 = cc in omega (arith, back.0.0, ap (λ (s : Stub). s.low) same, whole.2.low)
    none (f ∷ fs) bs front back is = let same : f ≡ whole.0 = cc in omega (arith, front.0.2, ap (λ (s : Stub). s.high) same, whole.2.high, to)

-- ---- the place of a block

abbrev IsBefore : ℕ → Stub → Type 0
IsBefore block s = s.high ≤ block

abbrev IsHere : ℕ → Stub → Type 0
IsHere block s = (s.low ≡ block) × (s.high ≡ suc block)

abbrev IsAfter : ℕ → Stub → Type 0
IsAfter block s = block < s.low

abbrev HasSize : Stub → Type 0
HasSize s = s.low < s.high

-- a list has one middle at a block
one_middle : (block : ℕ) (m b m' b' : List Stub) → AllByRecursion (IsHere block) m → AllByRecursion (IsAfter block) b → AllByRecursion (IsHere block) m' → AllByRecursion (IsAfter block) b' → m ++ b ≡ m' ++ b' → m ≡ m'
one_middle block [] b [] b' here after here' after' is = refl
one_middle block [] [] (y ∷ ys) b' here after here' after' is = absurd cc
one_middle block [] (x ∷ xs) (y ∷ ys) b' here after here' after' is = absurd (let same : x ≡ y = cc in omega (arith, after.0, here'.0.0, ap (λ (s : Stub). s.low) same))
one_middle block (x ∷ xs) b [] [] here after here' after' is = absurd cc
one_middle block (x ∷ xs) b [] (y ∷ ys) here after here' after' is = absurd (let same : x ≡ y = cc in omega (arith, after'.0, here.0.0, ap (λ (s : Stub). s.low) same))
one_middle block (x ∷ xs) b (y ∷ ys) b' here after here' after' is =
    let same : x ≡ y = cc in
    let rest : xs ++ b ≡ ys ++ b' = cc in
    let more = one_middle block xs b ys b' here.1 after here'.1 after' rest in
    λ i. same i ∷ more i

one_split : (block : ℕ) (f m b f' m' b' : List Stub) → AllByRecursion (IsBefore block) f → AllByRecursion (IsHere block) m → AllByRecursion (IsAfter block) b → AllByRecursion HasSize (f ++ (m ++ b)) →
    AllByRecursion (IsBefore block) f' → AllByRecursion (IsHere block) m' → AllByRecursion (IsAfter block) b' → f ++ (m ++ b) ≡ f' ++ (m' ++ b') → m ≡ m'
one_split block [] m b [] m' b' before here after size before' here' after' is = one_middle block m b m' b' here after here' after' is
one_split block (x ∷ f) m b (y ∷ f') m' b' before here after size before' here' after' is =
    let rest : f ++ (m ++ b) ≡ f' ++ (m' ++ b') = cc in
    one_split block f m b f' m' b' before.1 here after size.1 before'.1 here' after' rest
one_split block (x ∷ f) m b [] [] [] before here after size before' here' after' is = absurd cc
one_split block (x ∷ f) m b [] [] (y ∷ ys) before here after size before' here' after' is = absurd (let same : x ≡ y = cc in omega (arith, before.0, size.0, after'.0, ap (λ (s : Stub). s.low) same))
one_split block (x ∷ f) m b [] (y ∷ ys) b' before here after size before' here' after' is = absurd (let same : x ≡ y = cc in omega (arith, before.0, here'.0.1, ap (λ (s : Stub). s.high) same))
one_split block [] [] [] (y ∷ f') m' b' before here after size before' here' after' is = absurd cc
one_split block [] [] (x ∷ xs) (y ∷ f') m' b' before here after size before' here' after' is = absurd (let same : x ≡ y = cc in omega (arith, before'.0, size.0, after.0, ap (λ (s : Stub). s.high) same))
one_split block [] (x ∷ xs) b (y ∷ f') m' b' before here after size before' here' after' is = absurd (let same : x ≡ y = cc in omega (arith, before'.0, here.0.1, ap (λ (s : Stub). s.high) same))

-- the data record that is at a block, or none
abbrev pub IsPlaceOf : ℕ → Option ℕ → List Stub → Type 0
IsPlaceOf block None mid = mid ≡ []
IsPlaceOf block (Some addr) mid = (key : List ℕ) × (mid ≡ datum block addr key ∷ [])

mid_is : (low high block : ℕ) (f m b here : List Stub) → Tiles low block f → Tiles block (suc block) m → Tiles (suc block) high b → AllByRecursion (IsHere block) here → IsAt block (f ++ (m ++ b)) here → m ≡ here
mid_is low high block f m b here front mid back is at =
    let fs = tiles_in low block f front in
    let ms = tiles_in block (suc block) m mid in
    let bs = tiles_in (suc block) high b back in
    one_split block f m b at.front here at.back
    (each_weaker (λ (s : Stub). (low ≤ s.low) × (s.low < s.high) × (s.high ≤ block)) (IsBefore block) (λ s i. i.2) f fs)
    (each_weaker (λ (s : Stub). (block ≤ s.low) × (s.low < s.high) × (s.high ≤ suc block)) (IsHere block) (λ s i. (omega (arith, i.0, i.1, i.2), omega (arith, i.0, i.1, i.2))) m ms)
    (each_weaker (λ (s : Stub). (suc block ≤ s.low) × (s.low < s.high) × (s.high ≤ high)) (IsAfter block) (λ s i. omega (arith, i.0)) b bs)
    (each_append HasSize f (m ++ b) (each_weaker (λ (s : Stub). (low ≤ s.low) × (s.low < s.high) × (s.high ≤ block)) HasSize (λ s i. i.1) f fs)
    (each_append HasSize m b (each_weaker (λ (s : Stub). (block ≤ s.low) × (s.low < s.high) × (s.high ≤ suc block)) HasSize (λ s i. i.1) m ms) (each_weaker (λ (s : Stub). (suc block ≤ s.low) × (s.low < s.high) × (s.high ≤ high)) HasSize (λ s i. i.1) b bs)))
    at.before is at.after at.all

-- what an update took from a block's place is what was found there
pub mid_at : (low high block : ℕ) (opened f m b : List Stub) (replaced : Option ℕ) → opened ≡ f ++ (m ++ b) → Tiles low block f → Tiles block (suc block) m → Tiles (suc block) high b → IsAddressOf block opened replaced → IsPlaceOf block replaced m
mid_at low high block opened f m b None was front mid back at = mid_is low high block f m b [] front mid back tt (subst (λ ss. IsAt block ss []) was at)
mid_at low high block opened f m b (Some addr) was front mid back (key, at) =
    (key, mid_is low high block f m b (datum block addr key ∷ []) front mid back ((refl, refl), tt) (subst (λ ss. IsAt block ss (datum block addr key ∷ [])) was at))
