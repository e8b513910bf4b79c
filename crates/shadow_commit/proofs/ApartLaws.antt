-- Places of sealed nodes, and what reads the same.
use Rattle.std.proofs.Common.{◌≡◌, ℕ, zero, suc, ◌+◌, ◌-◌, ◌<◌, ◌≤◌, List, [], ◌∷◌, ◌++◌, length, map, refl, sym, ap, ◌∙◌, arith}
use Rattle.std.specs.Prelude.{AllPairs, slice_get}
use Rattle.std.specs.List.{AllByRecursion}
use Rattle.std.proofs.lemmas.List.Elements.{All-append, All-from_recursion}
use Rattle.std.proofs.lemmas.List.Kept.{AllPairs-cons}
use Rattle.page_store.specs.Tree.{Place}
use Rattle.page_store.proofs.ApartLaws.{AreApart}
use Rattle.shadow_commit.specs.Sealed.{Sealed}
use Rattle.shadow_commit.specs.NewTree.{place_of, AreFrom}

-- ---- sealed nodes

abbrev pub IsWithin : ℕ → ℕ → Place → Type 0
IsWithin first end p = (first ≤ p.addr) × (p.addr < end)

pub fresh_within : (first end : ℕ) (ns : List Sealed) → AreFrom first ns → first + length ns ≤ end → AllByRecursion (IsWithin first end) (map place_of ns)
fresh_within first end [] h le = tt
fresh_within first end (n ∷ ns) h le = ((omega (arith, h.0), omega (arith, h.0, le)), wider (map place_of ns) (fresh_within (suc first) end ns h.1 (omega (arith, le))))
  where
    wider : (ps : List Place) → AllByRecursion (IsWithin (suc first) end) ps → AllByRecursion (IsWithin first end) ps
    wider [] h = tt
    wider (p ∷ ps) h = ((omega (arith, h.0.0), h.0.1), wider ps h.1)

above : (first end : ℕ) (p : Place) (ps : List Place) → p.addr ≡ first → AllByRecursion (IsWithin (suc first) end) ps → AllByRecursion (AreApart p) ps
above first end p [] is h = tt
above first end p (q ∷ qs) is h = ((λ e. absurd (omega (arith, h.0.0, is, e))), above first end p qs is h.1)

pub with_fresh : (first : ℕ) (ns : List Sealed) (kept : List Place) → AreFrom first ns → AllByRecursion (λ p. p.addr < first) kept → AllPairs AreApart kept → AllPairs AreApart (map place_of ns ++ kept)
with_fresh first [] kept from below h = h
with_fresh first (n ∷ ns) kept from below h =
    AllPairs-cons AreApart (place_of n) (map place_of ns ++ kept)
    (All-append (AreApart (place_of n)) (map place_of ns) kept
    (All-from_recursion (AreApart (place_of n)) (map place_of ns) (above first (suc first + length ns) (place_of n) (map place_of ns) from.0 (fresh_within (suc first) (suc first + length ns) ns from.1 (omega arith))))
    (All-from_recursion (AreApart (place_of n)) kept (go kept below)))
    (with_fresh (suc first) ns kept from.1 (later kept below) h)
  where
    go : (ks : List Place) → AllByRecursion (λ p. p.addr < first) ks → AllByRecursion (AreApart (place_of n)) ks
    go [] h = tt
    go (k ∷ ks) h = ((λ e. absurd (omega (arith, h.0, from.0, e))), go ks h.1)

    later : (ks : List Place) → AllByRecursion (λ p. p.addr < first) ks → AllByRecursion (λ p. p.addr < suc first) ks
    later [] h = tt
    later (k ∷ ks) h = (omega (arith, h.0), later ks h.1)

-- ---- what reads the same

pub get_before : (pages more : List (List ℕ)) (addr : ℕ) → addr < length pages → slice_get (pages ++ more) addr ≡ slice_get pages addr
get_before [] more addr lt = absurd (omega (arith, lt))
get_before (p ∷ pages) more zero lt = refl
get_before (p ∷ pages) more (suc addr) lt = get_before pages more addr (omega (arith, lt))

pub get_behind : (pages more : List (List ℕ)) (addr : ℕ) → length pages ≤ addr → slice_get (pages ++ more) addr ≡ slice_get more (addr - length pages)
get_behind [] more addr le = ap (slice_get more) (omega arith)
get_behind (p ∷ pages) more zero le = absurd (omega (arith, le))
get_behind (p ∷ pages) more (suc addr) le = get_behind pages more addr (omega (arith, le)) ∙ ap (slice_get more) (omega arith)

abbrev pub ReadsAs : List (List ℕ) → List (List ℕ) → Place → Type 0
ReadsAs readable recorded p = slice_get readable p.addr ≡ slice_get recorded p.addr

pub kept_reads : (readable recorded more : List (List ℕ)) (ps : List Place) → length readable ≡ length recorded → AllByRecursion (λ p. p.addr < length recorded) ps → AllByRecursion (ReadsAs readable recorded) ps → AllByRecursion (ReadsAs (readable ++ more) (recorded ++ more)) ps
kept_reads readable recorded more [] many below h = tt
kept_reads readable recorded more (p ∷ ps) many below h = (
  get_before readable more p.addr (omega (arith, many, below.0)) ∙ h.0 ∙ sym (get_before recorded more p.addr below.0),
  kept_reads readable recorded more ps many below.1 h.1,
)

pub fresh_reads : (readable recorded more : List (List ℕ)) (end : ℕ) (ps : List Place) → length readable ≡ length recorded → AllByRecursion (IsWithin (length recorded) end) ps → AllByRecursion (ReadsAs (readable ++ more) (recorded ++ more)) ps
fresh_reads readable recorded more end [] many h = tt
fresh_reads readable recorded more end (p ∷ ps) many h = (
  get_behind readable more p.addr (omega (arith, many, h.0.0)) ∙ ap (λ n. slice_get more (p.addr - n)) many ∙ sym (get_behind recorded more p.addr h.0.0),
  fresh_reads readable recorded more end ps many h.1,
)
