-- Mapped blocks as an array: what it has for a block, and what an update makes of it.
use Rattle.std.proofs.Common.{◌≡◌, ◌≢◌, ℕ, zero, suc, ◌+◌, ◌<◌, ◌≤◌, Bool, true, false, cond, List, [], ◌∷◌, ◌++◌, map, length, Option, Some, None, refl, sym, subst, ap, ◌∙◌, arith}
use Rattle.std.specs.Prelude.{Contains}
use Rattle.std.specs.List.{AllByRecursion}
use Rattle.std.specs.Ordering.{nat_cmp, eq_by_cmp, is_eq}
use Rattle.std.specs.Cmp.{nat_cmp_total, tied_itself}
use Rattle.std.specs.FinMap as maps
use Rattle.std.specs.FinMap.{find, from_entries, get-from_entries, get-insert, get-remove, same_map, nat_cmp-IsAntisymmetric}
use Rattle.sdbt_base.specs.Arrays.{Blocks}
use Rattle.page_store.specs.Tree.{Mapped}
use Rattle.btree_update.specs.Maps.{MapPuts, MapTakes, HasBlock, LacksBlock}
use Rattle.btree_update.proofs.AscendLaws.{Ascends}

-- the blocks with their contents
abbrev pub array_of : List Mapped → Blocks
array_of ms = from_entries (map (λ (m : Mapped). (m.block, m.content)) ms)

-- what mapped blocks have for a block
abbrev found : ℕ → List Mapped → Option (List ℕ)
found q ms = find nat_cmp q (map (λ (m : Mapped). (m.block, m.content)) ms)

abbrev same : ℕ → ℕ → Bool
same q k = eq_by_cmp nat_cmp q k

is_same : (k : ℕ) → same k k ≡ true
is_same k = ap is_eq (tied_itself nat_cmp_total k)

same_means : (q k : ℕ) → same q k ≡ true → q ≡ k
same_means q k is = grind (arith, is)

not_same : (q k : ℕ) → q ≢ k → same q k ≡ false
not_same q k apart = elim (same q k) as (λ b. same q k ≡ b → b ≡ false) [ true ↦ λ is. absurd (apart (same_means q k is)) | false ↦ λ is. refl ] refl

found_nowhere : (q : ℕ) (ms : List Mapped) → AllByRecursion (λ m. m.block ≢ q) ms → found q ms ≡ None
found_nowhere q [] none = refl
found_nowhere q (m ∷ ms) none = ap (λ b. cond b (Some m.content) (found q ms)) (not_same q m.block (λ e. none.0 (sym e))) ∙ found_nowhere q ms none.1

-- nothing of a list in the middle has the block
skipped : (q : ℕ) (xs ys zs : List Mapped) → AllByRecursion (λ m. m.block ≢ q) ys → found q (xs ++ (ys ++ zs)) ≡ found q (xs ++ zs)
skipped q [] [] zs none = refl
skipped q [] (y ∷ ys) zs none = ap (λ b. cond b (Some y.content) (found q (ys ++ zs))) (not_same q y.block (λ e. none.0 (sym e))) ∙ skipped q [] ys zs none.1
skipped q (x ∷ xs) ys zs none = ap (λ o. cond (same q x.block) (Some x.content) o) (skipped q xs ys zs none)

-- the first one that has it
reached : (q : ℕ) (xs : List Mapped) (m : Mapped) (ys : List Mapped) → AllByRecursion (λ k. k.block ≢ q) xs → m.block ≡ q → found q (xs ++ (m ∷ ys)) ≡ Some m.content
reached q [] m ys none is = ap (λ b. cond b (Some m.content) (found q ys)) (ap (λ n. same q n) is ∙ is_same q)
reached q (x ∷ xs) m ys none is = ap (λ b. cond b (Some x.content) (found q (xs ++ (m ∷ ys)))) (not_same q x.block (λ e. none.0 (sym e))) ∙ reached q xs m ys none.1 is

each_weaker : (P Q : Mapped → Type 0) → ((m : Mapped) → P m → Q m) → (ms : List Mapped) → AllByRecursion P ms → AllByRecursion Q ms
each_weaker P Q f [] h = tt
each_weaker P Q f (m ∷ ms) h = (f m h.0, each_weaker P Q f ms h.1)

each_append : (P : Mapped → Type 0) (xs ys : List Mapped) → AllByRecursion P xs → AllByRecursion P ys → AllByRecursion P (xs ++ ys)
each_append P [] ys h k = k
each_append P (x ∷ xs) ys h k = (h.0, each_append P xs ys h.1 k)

got : (ms : List Mapped) (q : ℕ) → maps.get (array_of ms) q ≡ found q ms
got ms q = get-from_entries nat_cmp_total (map (λ (m : Mapped). (m.block, m.content)) ms) q

-- what one more block makes of the array
pub array_put : (m : Mapped) (old new : List Mapped) → MapPuts m old new → array_of new ≡ maps.insert (array_of old) m.block m.content
array_put m old new p = same_map nat_cmp_total nat_cmp-IsAntisymmetric (array_of new) (maps.insert (array_of old) m.block m.content) (λ q.
    got new q ∙ ap (found q) p.now
    ∙ elim (same q m.block) as (λ b. same q m.block ≡ b → found q (p.front ++ (m ∷ p.back)) ≡ cond b (Some m.content) (maps.get (array_of old) q)) [
      | true ↦ λ is.
          let at : q ≡ m.block = same_means q m.block is in
          reached q p.front m p.back (each_weaker (λ k. k.block < m.block) (λ k. k.block ≢ q) (λ k less e. absurd (omega (arith, less, e, at))) p.front p.before) (sym at)
      | false ↦ λ is.
          let off : (k : Mapped) → k.block ≡ m.block → k.block ≢ q = λ k here e. apart q is (sym e ∙ here) in
          skipped q p.front (m ∷ []) p.back (off m refl, tt)
          ∙ sym (skipped q p.front p.mid p.back (each_weaker (λ k. k.block ≡ m.block) (λ k. k.block ≢ q) off p.mid p.here))
          ∙ ap (found q) (sym p.was) ∙ sym (got old q)
    ] refl
    ∙ sym (get-insert nat_cmp_total (array_of old) m.block m.content q))
  where
    no : true ≡ false → ⊥
    no e = absurd cc

    apart : (q : ℕ) → same q m.block ≡ false → q ≡ m.block → ⊥
    apart q is e = no (sym (is_same m.block) ∙ ap (λ n. same n m.block) (sym e) ∙ is)

-- what a block less makes of it
pub array_take : (block : ℕ) (old new : List Mapped) → MapTakes block old new → array_of new ≡ maps.remove (array_of old) block
array_take block old new p = same_map nat_cmp_total nat_cmp-IsAntisymmetric (array_of new) (maps.remove (array_of old) block) (λ q.
    got new q ∙ ap (found q) p.now
    ∙ elim (same q block) as (λ b. same q block ≡ b → found q (p.front ++ p.back) ≡ cond b None (maps.get (array_of old) q)) [
      | true ↦ λ is.
          let at : q ≡ block = same_means q block is in
          found_nowhere q (p.front ++ p.back) (each_append (λ k. k.block ≢ q) p.front p.back
          (each_weaker (λ k. k.block < block) (λ k. k.block ≢ q) (λ k less e. absurd (omega (arith, less, e, at))) p.front p.before)
          (each_weaker (λ k. block < k.block) (λ k. k.block ≢ q) (λ k more e. absurd (omega (arith, more, e, at))) p.back p.after))
      | false ↦ λ is.
          let off : (k : Mapped) → k.block ≡ block → k.block ≢ q = λ k here e. apart q is (sym e ∙ here) in
          sym (skipped q p.front p.mid p.back (each_weaker (λ k. k.block ≡ block) (λ k. k.block ≢ q) off p.mid p.here))
          ∙ ap (found q) (sym p.was) ∙ sym (got old q)
    ] refl
    ∙ sym (get-remove nat_cmp_total (array_of old) block q))
  where
    no : true ≡ false → ⊥
    no e = absurd cc

    apart : (q : ℕ) → same q block ≡ false → q ≡ block → ⊥
    apart q is e = no (sym (is_same block) ∙ ap (λ n. same n block) (sym e) ∙ is)

-- a block that isn't mapped has nothing
pub array_lacks : (block : ℕ) (ms : List Mapped) → LacksBlock block ms → maps.get (array_of ms) block ≡ None
array_lacks block ms lacks = got ms block ∙ found_nowhere block ms lacks

-- what isn't mapped is no less mapped without it
pub remove_none : (contents : Blocks) (block : ℕ) → maps.get contents block ≡ None → contents ≡ maps.remove contents block
remove_none contents block none = same_map nat_cmp_total nat_cmp-IsAntisymmetric contents (maps.remove contents block) (λ q.
    elim (same q block) as (λ b. same q block ≡ b → maps.get contents q ≡ cond b None (maps.get contents q)) [
      | true ↦ λ is. ap (maps.get contents) (same_means q block is) ∙ none
      | false ↦ λ is. refl
    ] refl ∙ sym (get-remove nat_cmp_total contents block q))

-- ---- in order

later : (low q : ℕ) (ms : List Mapped) → Ascends low ms → q < low → AllByRecursion (λ m. m.block ≢ q) ms
later low q [] h less = tt
later low q (m ∷ ms) h less = ((λ e. absurd (omega (arith, e, h.0, less))), later (suc m.block) q ms h.1 (omega (arith, h.0, less)))

-- a mapped block has its content
pub array_has : (low : ℕ) (m : Mapped) (ms : List Mapped) → Ascends low ms → Contains ms m → maps.get (array_of ms) m.block ≡ Some m.content
array_has low m ms up has = got ms m.block ∙ go low ms up has
  where
    above_all : (low : ℕ) (ms : List Mapped) → Ascends low ms → Contains ms m → low ≤ m.block
    above_all low [] up (i, within, is) = absurd (omega (arith, within))
    above_all low (x ∷ xs) up (zero, within, is) = let e = ap (λ (k : Mapped). k.block) is in omega (arith, e, up.0)
    above_all low (x ∷ xs) up (suc i, within, is) = let rest = above_all (suc x.block) xs up.1 (i, omega (arith, within), is) in omega (arith, rest, up.0)

    go : (low : ℕ) (ms : List Mapped) → Ascends low ms → Contains ms m → found m.block ms ≡ Some m.content
    go low [] up (i, within, is) = absurd (omega (arith, within))
    go low (x ∷ xs) up (zero, within, is) = reached m.block [] x xs tt (ap (λ (k : Mapped). k.block) is) ∙ ap (λ (k : Mapped). Some k.content) is
    go low (x ∷ xs) up (suc i, within, is) =
        let rest = go (suc x.block) xs up.1 (i, omega (arith, within), is) in
        let above = above_all (suc x.block) xs up.1 (i, omega (arith, within), is) in
        ap (λ b. cond b (Some x.content) (found m.block xs)) (not_same m.block x.block (λ e. absurd (omega (arith, e, above)))) ∙ rest

-- ---- how many

-- of a block there is one at most
few : (low block : ℕ) (ms : List Mapped) → Ascends low ms → AllByRecursion (λ m. m.block ≡ block) ms → length ms ≤ 1
few low block [] up all = omega arith
few low block (m ∷ []) up all = omega arith
few low block (m ∷ n ∷ ms) up all = absurd (omega (arith, up.1.0, all.0, all.1.0))

mid_up : (low : ℕ) (xs ys zs : List Mapped) → Ascends low (xs ++ (ys ++ zs)) → (from : ℕ) × Ascends from ys
mid_up low [] ys zs up = (low, front low ys zs up)
  where
    front : (low : ℕ) (ys zs : List Mapped) → Ascends low (ys ++ zs) → Ascends low ys
    front low [] zs up = tt
    front low (y ∷ ys) zs up = (up.0, front (suc y.block) ys zs up.1)
mid_up low (x ∷ xs) ys zs up = mid_up (suc x.block) xs ys zs up.1

lengths : (xs ys zs : List Mapped) → length (xs ++ (ys ++ zs)) ≡ length xs + (length ys + length zs)
lengths [] [] zs = omega arith
lengths [] (y ∷ ys) zs = let rest = lengths [] ys zs in omega (arith, rest)
lengths (x ∷ xs) ys zs = let rest = lengths xs ys zs in omega (arith, rest)

-- a block more where there was none
pub count_more : (m : Mapped) (old new : List Mapped) → MapPuts m old new → LacksBlock m.block old → length new ≡ length old + 1
count_more m old new p lacks =
    let none : p.mid ≡ [] = empty p.mid p.here (middle p.front p.mid p.back (subst (LacksBlock m.block) p.was lacks)) in
    let now = ap length p.now ∙ lengths p.front (m ∷ []) p.back in
    let was = ap length p.was ∙ lengths p.front p.mid p.back in
    let zero_is = ap length none in
    omega (arith, now, was, zero_is)
  where
    middle : (xs ys zs : List Mapped) → LacksBlock m.block (xs ++ (ys ++ zs)) → LacksBlock m.block ys
    middle [] [] zs h = tt
    middle [] (y ∷ ys) zs h = (h.0, middle [] ys zs h.1)
    middle (x ∷ xs) ys zs h = middle xs ys zs h.1

    empty : (ys : List Mapped) → AllByRecursion (λ k. k.block ≡ m.block) ys → LacksBlock m.block ys → ys ≡ []
    empty [] here none = refl
    empty (y ∷ ys) here none = absurd (none.0 here.0)

-- as many where it was mapped
has_one : (block low : ℕ) (xs ys zs : List Mapped) → Ascends low (xs ++ (ys ++ zs)) → AllByRecursion (λ m. m.block < block) xs → AllByRecursion (λ m. m.block ≡ block) ys → AllByRecursion (λ m. block < m.block) zs → HasBlock block (xs ++ (ys ++ zs)) → length ys ≡ 1
has_one block low xs [] zs up front here back h = absurd (no xs zs front back h.1)
  where
    no : (xs zs : List Mapped) → AllByRecursion (λ m. m.block < block) xs → AllByRecursion (λ m. block < m.block) zs → Contains (xs ++ zs) h.0 → ⊥
    no [] [] front back (i, within, is) = omega (arith, within)
    no [] (z ∷ zs) front back (zero, within, is) = let e = ap (λ (k : Mapped). k.block) is in omega (arith, e, h.2, back.0)
    no [] (z ∷ zs) front back (suc i, within, is) = no [] zs front back.1 (i, omega (arith, within), is)
    no (x ∷ xs) zs front back (zero, within, is) = let e = ap (λ (k : Mapped). k.block) is in omega (arith, e, h.2, front.0)
    no (x ∷ xs) zs front back (suc i, within, is) = no xs zs front.1 back (i, omega (arith, within), is)
has_one block low xs (y ∷ ys) zs up front here back h = let from = mid_up low xs (y ∷ ys) zs up in let le = few from.0 block (y ∷ ys) from.1 here in omega (arith, le)

pub count_same : (low : ℕ) (m : Mapped) (old new : List Mapped) → Ascends low old → MapPuts m old new → HasBlock m.block old → length new ≡ length old
count_same low m old new up p has =
    let one = has_one m.block low p.front p.mid p.back (subst (Ascends low) p.was up) p.before p.here p.after (subst (HasBlock m.block) p.was has) in
    let now = ap length p.now ∙ lengths p.front (m ∷ []) p.back in
    let was = ap length p.was ∙ lengths p.front p.mid p.back in
    omega (arith, now, was, one)

-- a block less where it was mapped
pub count_less : (low block : ℕ) (old new : List Mapped) → Ascends low old → MapTakes block old new → HasBlock block old → length old ≡ length new + 1
count_less low block old new up p has =
    let one = has_one block low p.front p.mid p.back (subst (Ascends low) p.was up) p.before p.here p.after (subst (HasBlock block) p.was has) in
    let now = ap length p.now ∙ lengths p.front [] p.back in
    let was = ap length p.was ∙ lengths p.front p.mid p.back in
    omega (arith, now, was, one)
