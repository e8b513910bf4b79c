-- What writes and trims of blocks make of the array of bytes.
use Rattle.std.proofs.Common.{◌≡◌, ◌≢◌, ℕ, zero, suc, ◌+◌, ◌-◌, ◌*◌, ◌<◌, ◌≤◌, List, ◌++◌, None, Some, length, get_or, refl, sym, ap, ◌∙◌, arith, inl, inr, append-nil}
use Rattle.std.specs.Prelude.{◌⊎◌, cond, replicate, unwrap_or, ◌/◌, ◌%◌}
use Rattle.std.specs.FinMap as map
use Rattle.std.specs.FinMap.{get-insert, get-remove}
use Rattle.std.specs.Cmp.{nat_cmp_total, unsigned_tied}
use Rattle.std.proofs.lemmas.Bool.{ne_eqb, eq-eqb, cases_lt}
use Rattle.std.proofs.lemmas.List.{get_or-replicate}
use Rattle.sdbt_base.specs.Arrays.{Session, Blocks, content_of, written, unmapped, padded}
use Rattle.byte_arrays.specs.Arrays.{bytes_at, with_bytes}
use Rattle.byte_arrays.specs.Ranges.{IsCovered, blocks_from, touched_blocks, covered_blocks}
use Rattle.byte_arrays.proofs.RangeLaws.{covered_is, is_covered}
use Rattle.byte_arrays.proofs.ArrayLaws.{length-bytes_at, get_or-bytes_at, with_before, with_behind}
use Rattle.device_course.specs.Held.{trim_all}
use Rattle.nbd_terms.specs.Bytes.{array_of, write_all}
use Rattle.nbd_terms.proofs.WritingLaws.{written_other}

-- ---- writes

-- a block that is written holds what was written
content_same : (contents : Blocks) (block : ℕ) (bytes : List ℕ) → content_of (map.insert contents block bytes) block ≡ bytes
content_same contents block bytes =
    ap (λ o. unwrap_or o (replicate 4096 0)) (get-insert nat_cmp_total contents block bytes block ∙ ap (λ b. cond b (Some bytes) (map.get contents block)) (unsigned_tied block block ∙ eq-eqb block block refl))

-- a whole block is not padded
pub padded_whole : (bytes : List ℕ) → length bytes ≡ 4096 → padded bytes ≡ bytes
padded_whole bytes len = let none : 4096 - length bytes ≡ 0 = omega (arith, len) in ap (λ (n : ℕ). bytes ++ replicate n 0) none ∙ append-nil bytes

written_there : (session : Session) (array : ℕ → ℕ) (block : ℕ) → content_of (written session block (bytes_at array (4096 * block) 4096)).contents block ≡ bytes_at array (4096 * block) 4096
written_there session array block =
    let bytes : List ℕ = bytes_at array (4096 * block) 4096 in
    content_same session.contents block (padded bytes) ∙ padded_whole bytes (length-bytes_at array (4096 * block) 4096)

content-write_all : (session : Session) (array : ℕ → ℕ) (first n block : ℕ) → first ≤ block → block < first + n → content_of (write_all session array (blocks_from first n)).contents block ≡ bytes_at array (4096 * block) 4096
content-write_all session array first zero block from below = absurd (omega (arith, from, below))
content-write_all session array first (suc n) block from below =
    let next : Session = written session first (bytes_at array (4096 * first) 4096) in
    elim (cases_lt first block) [
      | inl behind ↦ content-write_all next array (first + 1) n block (omega (arith, behind)) (omega (arith, below))
      | inr here ↦
          let same : block ≡ first = omega (arith, here, from) in
          written_other next array (first + 1) n block (inr (omega (arith, same))) ∙ ap (content_of next.contents) same ∙ written_there session array first
          ∙ ap (λ (b : ℕ). bytes_at array (4096 * b) 4096) (sym same)
    ]

array_of-write_all : (session : Session) (array : ℕ → ℕ) (first n place : ℕ) → first ≤ place / 4096 → place / 4096 < first + n → array_of (write_all session array (blocks_from first n)) place ≡ array place
array_of-write_all session array first n place from below =
    let e : 4096 * (place / 4096) + place % 4096 ≡ place = omega arith in
    ap (λ (l : List ℕ). get_or l (place % 4096) 0) (content-write_all session array first n (place / 4096) from below)
    ∙ get_or-bytes_at array (4096 * (place / 4096)) 4096 (place % 4096) 0 (omega arith) ∙ ap array e

array_of-write_apart : (session : Session) (array : ℕ → ℕ) (first n place : ℕ) → (first + n ≤ place / 4096) ⊎ (place / 4096 < first) → array_of (write_all session array (blocks_from first n)) place ≡ array_of session place
array_of-write_apart session array first n place apart = ap (λ (l : List ℕ). get_or l (place % 4096) 0) (written_other session array first n (place / 4096) apart)

-- after a write the array is the array before with the bytes in their place
pub array_of-written : (session : Session) (offset : ℕ) (put : List ℕ) (place : ℕ)
    → array_of (write_all session (with_bytes (array_of session) offset put) (touched_blocks offset (length put))) place ≡ with_bytes (array_of session) offset put place
array_of-written session offset put place = written_by (length put) refl
  where
    written_by : (n : ℕ) → length put ≡ n → array_of (write_all session (with_bytes (array_of session) offset put) (touched_blocks offset n)) place ≡ with_bytes (array_of session) offset put place
    written_by zero none = elim (cases_lt place offset) [
      | inl before ↦ sym (with_before (array_of session) offset put place before)
      | inr behind ↦ sym (with_behind (array_of session) offset put place (omega (arith, none, behind)))
    ]
    written_by (suc n) some =
        let target : ℕ → ℕ = with_bytes (array_of session) offset put in
        let first : ℕ = offset / 4096 in
        let count : ℕ = (offset + n) / 4096 - first + 1 in
        elim (cases_lt (place / 4096) first) [
          | inl before ↦ array_of-write_apart session target first count place (inr before) ∙ sym (with_before (array_of session) offset put place (omega (arith, before)))
          | inr from ↦ elim (cases_lt (place / 4096) (first + count)) [
            | inl below ↦ array_of-write_all session target first count place from below
            | inr behind ↦ array_of-write_apart session target first count place (inl behind) ∙ sym (with_behind (array_of session) offset put place (omega (arith, behind, some)))
          ]
        ]

-- ---- trims

content_removed : (contents : Blocks) (block : ℕ) → content_of (map.remove contents block) block ≡ replicate 4096 0
content_removed contents block =
    ap (λ o. unwrap_or o (replicate 4096 0)) (get-remove nat_cmp_total contents block block ∙ ap (λ b. cond b None (map.get contents block)) (unsigned_tied block block ∙ eq-eqb block block refl))

content_kept : (contents : Blocks) (block other : ℕ) → other ≢ block → content_of (map.remove contents block) other ≡ content_of contents other
content_kept contents block other apart =
    ap (λ o. unwrap_or o (replicate 4096 0)) (get-remove nat_cmp_total contents block other ∙ ap (λ b. cond b None (map.get contents other)) (unsigned_tied other block ∙ ne_eqb other block apart))

trimmed_other : (session : Session) (first n other : ℕ) → (first + n ≤ other) ⊎ (other < first) → content_of (trim_all session (blocks_from first n)).contents other ≡ content_of session.contents other
trimmed_other session first zero other apart = refl
trimmed_other session first (suc n) other (inl behind) =
    trimmed_other (unmapped session first) (first + 1) n other (inl (omega (arith, behind))) ∙ content_kept session.contents first other (λ same. omega (arith, behind, same))
trimmed_other session first (suc n) other (inr before) =
    trimmed_other (unmapped session first) (first + 1) n other (inr (omega (arith, before))) ∙ content_kept session.contents first other (λ same. omega (arith, before, same))

content-trim_all : (session : Session) (first n block : ℕ) → first ≤ block → block < first + n → content_of (trim_all session (blocks_from first n)).contents block ≡ replicate 4096 0
content-trim_all session first zero block from below = absurd (omega (arith, from, below))
content-trim_all session first (suc n) block from below =
    let next : Session = unmapped session first in
    elim (cases_lt first block) [
      | inl behind ↦ content-trim_all next (first + 1) n block (omega (arith, behind)) (omega (arith, below))
      | inr here ↦
          let same : block ≡ first = omega (arith, here, from) in
          trimmed_other next (first + 1) n block (inr (omega (arith, same))) ∙ ap (content_of next.contents) same ∙ content_removed session.contents first
    ]

-- after a trim each byte of the blocks that it covers is zero
pub array_of-trimmed : (session : Session) (offset n place : ℕ) → IsCovered offset n (place / 4096) → array_of (trim_all session (covered_blocks offset n)) place ≡ 0
array_of-trimmed session offset n place covered =
    let first : ℕ = (offset + 4095) / 4096 in
    let count : ℕ = (offset + n) / 4096 - first in
    let at = covered_is offset n (place / 4096) covered in
    ap (λ (l : List ℕ). get_or l (place % 4096) 0) (content-trim_all session first count (place / 4096) at.0 (omega (arith, at.0, at.1)))
    ∙ get_or-replicate 4096 (place % 4096) 0 0 (omega arith)

-- and each other byte as before
pub array_of-not_trimmed : (session : Session) (offset n place : ℕ) → (IsCovered offset n (place / 4096) → ⊥) → array_of (trim_all session (covered_blocks offset n)) place ≡ array_of session place
array_of-not_trimmed session offset n place apart =
    let first : ℕ = (offset + 4095) / 4096 in
    let count : ℕ = (offset + n) / 4096 - first in
    ap (λ (l : List ℕ). get_or l (place % 4096) 0) (trimmed_other session first count (place / 4096) (elim (cases_lt (place / 4096) first) [
      | inl before ↦ inr before
      | inr from ↦ elim (cases_lt (place / 4096) (first + count)) [
        | inl below ↦ absurd (apart (is_covered offset n (place / 4096) from (omega (arith, from, below))))
        | inr behind ↦ inl behind
      ]
    ]))
