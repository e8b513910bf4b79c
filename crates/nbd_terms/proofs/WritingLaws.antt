-- A write, block by block.
use Rattle.std.proofs.Common.{◌≡◌, ◌≢◌, ℕ, zero, suc, ◌+◌, ◌*◌, ◌<◌, ◌≤◌, List, Option, Some, length, get_or, refl, sym, ap, ◌∙◌, arith, inl, inr}
use Rattle.std.specs.Prelude.{◌⊎◌, cond, replicate, unwrap_or, ◌/◌}
use Rattle.std.specs.FinMap as map
use Rattle.std.specs.FinMap.{get-insert}
use Rattle.std.specs.Cmp.{nat_cmp_total, unsigned_tied}
use Rattle.std.proofs.lemmas.Bool.{ne_eqb}
use Rattle.std.proofs.lemmas.List.{get_or_default}
use Rattle.sdbt_base.specs.Arrays.{Session, Blocks, content_of, written, unmapped, padded}
use Rattle.byte_arrays.specs.Arrays.{bytes_at, with_bytes}
use Rattle.byte_arrays.specs.Ranges.{blocks_from}
use Rattle.byte_arrays.specs.Parts.{IsPart, IsAtPart}
use Rattle.byte_arrays.proofs.ArrayLaws.{bytes_are, byte_in_block}
use Rattle.byte_arrays.proofs.RangeLaws.{blocks_from-more, part_block}
use Rattle.device_course.specs.Held.{trim_all}
use Rattle.device_course.proofs.HeldLaws.{trim_all-more}
use Rattle.nbd_terms.specs.Bytes.{array_of, write_all}

-- a block that isn't written is as before
pub content_other : (contents : Blocks) (block other : ℕ) (bytes : List ℕ) → other ≢ block → content_of (map.insert contents block bytes) other ≡ content_of contents other
content_other contents block other bytes apart =
    ap (λ (o : Option (List ℕ)). unwrap_or o (replicate 4096 0))
    (get-insert nat_cmp_total contents block bytes other ∙ ap (λ b. cond b (Some bytes) (map.get contents other)) (unsigned_tied other block ∙ ne_eqb other block apart))

pub written_other : (session : Session) (array : ℕ → ℕ) (first n other : ℕ) → (first + n ≤ other) ⊎ (other < first)
    → content_of (write_all session array (blocks_from first n)).contents other ≡ content_of session.contents other
written_other session array first zero other apart = refl
written_other session array first (suc n) other (inl behind) =
    let bytes : List ℕ = bytes_at array (4096 * first) 4096 in
    written_other (written session first bytes) array (first + 1) n other (inl (omega (arith, behind)))
    ∙ content_other session.contents first other (padded bytes) (λ same. omega (arith, behind, same))
written_other session array first (suc n) other (inr before) =
    let bytes : List ℕ = bytes_at array (4096 * first) 4096 in
    written_other (written session first bytes) array (first + 1) n other (inr (omega (arith, before)))
    ∙ content_other session.contents first other (padded bytes) (λ same. omega (arith, before, same))

-- one block more
pub write_more : (session : Session) (array : ℕ → ℕ) (first n : ℕ)
    → write_all session array (blocks_from first (n + 1)) ≡ written (write_all session array (blocks_from first n)) (first + n) (bytes_at array (4096 * (first + n)) 4096)
write_more session array first zero =
    let e : first ≡ first + 0 = omega arith in
    let s : 0 + 1 ≡ 1 = omega arith in
    rw s (ap (λ (b : ℕ). written session b (bytes_at array (4096 * b) 4096)) e)
write_more session array first (suc n) =
    let e : (first + 1) + n ≡ first + suc n = omega arith in
    let s : suc n + 1 ≡ suc (n + 1) = omega arith in
    let after : Session = written session first (bytes_at array (4096 * first) 4096) in
    rw s (write_more after array (first + 1) n ∙ ap (λ (b : ℕ). written (write_all after array (blocks_from (first + 1) n)) b (bytes_at array (4096 * b) 4096)) e)

-- one trim more
pub trim_more : (session : Session) (first n : ℕ) → trim_all session (blocks_from first (n + 1)) ≡ unmapped (trim_all session (blocks_from first n)) (first + n)
trim_more session first n = ap (trim_all session) (blocks_from-more first n) ∙ trim_all-more session (blocks_from first n) (first + n)

-- what a block holds that comes next is what the array had there before the write
pub block_before : (session : Session) (array : ℕ → ℕ) (first n block : ℕ) (content : List ℕ) → block ≡ first + n → content ≡ content_of (write_all session array (blocks_from first n)).contents block
    → length content ≡ 4096 → content ≡ bytes_at (array_of session) (4096 * block) 4096
block_before session array first n block content is same len =
    let here : content ≡ content_of session.contents block = same ∙ written_other session array first n block (inl (omega (arith, is))) in
    bytes_are (array_of session) (4096 * block) 4096 content len
    (λ k d below. get_or_default content k d 0 (omega (arith, len, below)) ∙ ap (λ (l : List ℕ). get_or l k 0) here ∙ sym (byte_in_block (content_of session.contents) block k below))

-- the write of a part, with what the array is to have in its block, is the next one of the blocks
-- that are touched
pub write_step : (session : Session) (offset : ℕ) (put : List ℕ) (done block start count parts : ℕ) (content : List ℕ) → IsPart offset (length put) done block start count → IsAtPart offset done parts
    → content ≡ bytes_at (with_bytes (array_of session) offset put) (4096 * block) 4096
    → written (write_all session (with_bytes (array_of session) offset put) (blocks_from (offset / 4096) parts)) block content
    ≡ write_all session (with_bytes (array_of session) offset put) (blocks_from (offset / 4096) (parts + 1))
write_step session offset put done block start count parts content part at is =
    let target : ℕ → ℕ = with_bytes (array_of session) offset put in
    let before : Session = write_all session target (blocks_from (offset / 4096) parts) in
    let b : block ≡ offset / 4096 + parts = part_block offset (length put) done block start count parts part at in
    ap (λ (bytes : List ℕ). written before block bytes) is ∙ ap (λ (n : ℕ). written before n (bytes_at target (4096 * n) 4096)) b ∙ sym (write_more session target (offset / 4096) parts)
