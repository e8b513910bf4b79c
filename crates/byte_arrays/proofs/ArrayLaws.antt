-- Arrays of bytes over blocks.
use Rattle.std.proofs.Common.{◌≡◌, ◌+◌, ◌-◌, ◌*◌, ◌<◌, ◌≤◌, ℕ, zero, suc, List, ◌∷◌, ◌++◌, length, take, drop, get_or, refl, sym, ap, ◌∙◌, arith, inl, inr, rules, length-take, length-drop}
use Rattle.std.specs.Prelude.{◌⊎◌, ◌/◌, ◌%◌}
use Rattle.std.proofs.lemmas.List.{same_lists, get_or-take, get_or-drop, get_or_default, get_or_past, places}
use Rattle.std.proofs.lemmas.Bool.{cases_lt, lt-ltb, le-ltb}
use Rattle.std.proofs.lemmas.Slice.{overwrites}
use borrow.Rule.Slice.PartMut.{put_mid}
use Rattle.byte_arrays.specs.Arrays.{bytes_at, byte_of, with_bytes}
use Rattle.byte_arrays.specs.Parts.{IsPart}

pub length-bytes_at : (array : ℕ → ℕ) (place n : ℕ) → length (bytes_at array place n) ≡ n
length-bytes_at array place zero = refl
length-bytes_at array place (suc n) = ap suc (length-bytes_at array (place + 1) n)

pub get_or-bytes_at : (array : ℕ → ℕ) (place n k d : ℕ) → k < n → get_or (bytes_at array place n) k d ≡ array (place + k)
get_or-bytes_at array place zero k d below = absurd (omega (arith, below))
get_or-bytes_at array place (suc n) zero d below = let e : place ≡ place + 0 = omega arith in ap array e
get_or-bytes_at array place (suc n) (suc k) d below =
    let e : (place + 1) + k ≡ place + suc k = omega arith in
    get_or-bytes_at array (place + 1) n k d (omega (arith, below)) ∙ ap array e

-- bytes are those of an array where each is
pub bytes_are : (array : ℕ → ℕ) (place n : ℕ) (bytes : List ℕ) → length bytes ≡ n → ((k d : ℕ) → k < n → get_or bytes k d ≡ array (place + k)) → bytes ≡ bytes_at array place n
bytes_are array place n bytes len each =
    same_lists bytes (bytes_at array place n) (len ∙ sym (length-bytes_at array place n))
    (λ k d below. let inside : k < n = omega (arith, below, len) in each k d inside ∙ sym (get_or-bytes_at array place n k d inside))

-- in two parts
pub bytes_at-append : (array : ℕ → ℕ) (place n m : ℕ) → bytes_at array place (n + m) ≡ bytes_at array place n ++ bytes_at array (place + n) m
bytes_at-append array place zero m =
    let e : place ≡ place + 0 = omega arith in
    let s : 0 + m ≡ m = omega arith in
    rw s (ap (λ (p : ℕ). bytes_at array p m) e)
bytes_at-append array place (suc n) m =
    let e : (place + 1) + n ≡ place + suc n = omega arith in
    let s : suc n + m ≡ suc (n + m) = omega arith in
    rw s (ap (λ (rest : List ℕ). array place ∷ rest) (bytes_at-append array (place + 1) n m ∙ ap (λ (p : ℕ). bytes_at array (place + 1) n ++ bytes_at array p m) e))

-- the place in a block, and the block
pub block_of_place : (block j : ℕ) → j < 4096 → (4096 * block + j) / 4096 ≡ block
block_of_place block j below = omega (arith, below)

pub place_in_block : (block j : ℕ) → j < 4096 → (4096 * block + j) % 4096 ≡ j
place_in_block block j below = omega (arith, below)

pub byte_in_block : (content : ℕ → List ℕ) (block j : ℕ) → j < 4096 → byte_of content (4096 * block + j) ≡ get_or (content block) j 0
byte_in_block content block j below = rw (block_of_place block j below, place_in_block block j below) refl

-- bytes inside a block are those of the array
pub part_read : (content : ℕ → List ℕ) (block start count : ℕ) (bytes : List ℕ) → bytes ≡ content block → length bytes ≡ 4096 → start + count ≤ 4096
    → take count (drop start bytes) ≡ bytes_at (byte_of content) (4096 * block + start) count
part_read content block start count bytes same len inside =
    bytes_are (byte_of content) (4096 * block + start) count (take count (drop start bytes)) (omega (arith, length-take count (drop start bytes), length-drop start bytes, len, inside))
    (λ k d below.
    let e : (4096 * block + start) + k ≡ 4096 * block + (start + k) = omega arith in
    get_or-take count (drop start bytes) k d below ∙ get_or-drop start bytes k d ∙ get_or_default bytes (start + k) d 0 (omega (arith, len, inside, below))
    ∙ ap (λ (l : List ℕ). get_or l (start + k) 0) same ∙ sym (byte_in_block content block (start + k) (omega (arith, inside, below))) ∙ ap (byte_of content) (sym e))

-- ---- bytes in the place of others

pub with_before : (array : ℕ → ℕ) (offset : ℕ) (put : List ℕ) (place : ℕ) → place < offset → with_bytes array offset put place ≡ array place
with_before array offset put place before = rw (lt-ltb place offset before) refl

pub with_inside : (array : ℕ → ℕ) (offset : ℕ) (put : List ℕ) (place i d : ℕ) → place ≡ offset + i → i < length put → with_bytes array offset put place ≡ get_or put i d
with_inside array offset put place i d is inside =
    let e : place - offset ≡ i = omega (arith, is) in
    rw (le-ltb place offset (omega (arith, is)), e) (get_or_default put i (array place) d inside)

pub with_behind : (array : ℕ → ℕ) (offset : ℕ) (put : List ℕ) (place : ℕ) → offset + length put ≤ place → with_bytes array offset put place ≡ array place
with_behind array offset put place behind =
    rw (le-ltb place offset (omega (arith, behind))) (get_or_past put (place - offset) (array place) (omega (arith, behind)))

-- what was put is read where it was put
pub with_bytes-there : (array : ℕ → ℕ) (offset : ℕ) (put : List ℕ) → bytes_at (with_bytes array offset put) offset (length put) ≡ put
with_bytes-there array offset put =
    sym (bytes_are (with_bytes array offset put) offset (length put) put refl
    (λ k d below. sym (with_inside array offset put (offset + k) k d refl below)))

-- a range that the put does not touch
pub with_bytes-elsewhere : (array : ℕ → ℕ) (offset : ℕ) (put : List ℕ) (place n : ℕ) → (place + n ≤ offset) ⊎ (offset + length put ≤ place) → bytes_at (with_bytes array offset put) place n ≡ bytes_at array place n
with_bytes-elsewhere array offset put place n (inl before) =
    bytes_are array place n (bytes_at (with_bytes array offset put) place n) (length-bytes_at (with_bytes array offset put) place n)
    (λ k d below. get_or-bytes_at (with_bytes array offset put) place n k d below ∙ with_before array offset put (place + k) (omega (arith, before, below)))
with_bytes-elsewhere array offset put place n (inr behind) =
    bytes_are array place n (bytes_at (with_bytes array offset put) place n) (length-bytes_at (with_bytes array offset put) place n)
    (λ k d below. get_or-bytes_at (with_bytes array offset put) place n k d below ∙ with_behind array offset put (place + k) (omega (arith, behind, below)))

-- what a block holds with a part of the put pasted in is what the array has there then
pub part_written : (array : ℕ → ℕ) (offset : ℕ) (put : List ℕ) (done block start count : ℕ) (before : List ℕ) → IsPart offset (length put) done block start count
    → before ≡ bytes_at array (4096 * block) 4096
    → put_mid start count before (take count (drop done put)) ≡ bytes_at (with_bytes array offset put) (4096 * block) 4096
part_written array offset put done block start count before part is =
    let len : length before ≡ 4096 = ap length is ∙ length-bytes_at array (4096 * block) 4096 in
    let piece : List ℕ = take count (drop done put) in
    let size : length piece ≡ count = omega (arith, length-take count (drop done put), length-drop done put, part.within) in
    bytes_are (with_bytes array offset put) (4096 * block) 4096 (put_mid start count before piece) (search (rules, overwrites, len, size, part.inside))
    (λ k d below. elim (cases_lt k start) [
      | inl early ↦
          let none : done ≡ 0 = elim part.front [ inl e ↦ e | inr e ↦ absurd (omega (arith, e, early)) ] in
          let same : get_or before k d ≡ array (4096 * block + k) = ap (λ (l : List ℕ). get_or l k d) is ∙ get_or-bytes_at array (4096 * block) 4096 k d below in
          search (rules, places, early) ∙ same ∙ sym (with_before array offset put (4096 * block + k) (omega (arith, part.at, none, early)))
      | inr from ↦ elim (cases_lt k (start + count)) [
        | inl inside ↦
            let i : ℕ = done + (k - start) in
            let place : 4096 * block + k ≡ offset + i = omega (arith, part.at, from) in
            let here : get_or piece (k - start) d ≡ get_or put i d = get_or-take count (drop done put) (k - start) d (omega (arith, inside, from)) ∙ get_or-drop done put (k - start) d in
            search (rules, places, from, inside) ∙ here ∙ sym (with_inside array offset put (4096 * block + k) i d place (omega (arith, inside, from, part.within)))
        | inr past ↦
            let last : done + count ≡ length put = elim part.back [ inl e ↦ e | inr e ↦ absurd (omega (arith, e, past, below)) ] in
            let same : get_or before k d ≡ array (4096 * block + k) = ap (λ (l : List ℕ). get_or l k d) is ∙ get_or-bytes_at array (4096 * block) 4096 k d below in
            search (rules, places, past) ∙ same ∙ sym (with_behind array offset put (4096 * block + k) (omega (arith, part.at, last, past)))
      ]
    ])

-- the same of a slice that was written over
pub part_pasted : (array : ℕ → ℕ) (offset : ℕ) (put : List ℕ) (done block start count : ℕ) (before : List ℕ) (k : ℕ) (ys : List ℕ) → IsPart offset (length put) done block start count
    → before ≡ bytes_at array (4096 * block) 4096 → k ≡ count → ys ≡ take count (drop done put) → put_mid start k before ys ≡ bytes_at (with_bytes array offset put) (4096 * block) 4096
part_pasted array offset put done block start count before k ys part is same piece =
    ap (λ (n : ℕ). put_mid start n before ys) same ∙ ap (λ (l : List ℕ). put_mid start count before l) piece ∙ part_written array offset put done block start count before part is
