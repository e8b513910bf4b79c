-- How many pages requests read.
use Rattle.std.proofs.Common.{◌≡◌, ◌≤◌, ◌<◌, ◌+◌, ◌-◌, ◌*◌, ◌++◌, ◌∷◌, ◌∙◌, ℕ, List, [], Option, None, inl, inr, length, sym, ap, arith}
use Rattle.std.specs.Prelude.{◌/◌}
use Rattle.std.proofs.lemmas.Bool.{cases_lt}
use Rattle.byte_arrays.specs.Parts.{IsPart}
use Rattle.byte_arrays.specs.Ranges.{covered_blocks, touched_blocks}
use Rattle.byte_arrays.proofs.RangeLaws.{length-blocks_from, length-touched_blocks}
use Rattle.nbd_lang.specs.Refusals.{refusal}
use Rattle.nbd_lang.specs.declared.replies.Outcome.{Outcome}
use Rattle.nbd_lang.specs.declared.requests.Request.{Request}
use Rattle.nbd_lang.specs.declared.requests.RequestKind.{RequestKind}
use Rattle.nbd_lang.specs.declared.requests.RequestKind.TheVariants as kinds
use Rattle.nbd_core.specs.Ample.{unless_refused}
use Rattle.nbd_core.specs.Exchanges.{Exchange}
use Rattle.nbd_core.specs.Reads.{HasRead, reads_at, reads_for, reads_in}

-- ---- blocks of a range, and of its parts

length-covered_blocks : (offset n : ℕ) → length (covered_blocks offset n) ≡ (offset + n) / 4096 - (offset + 4095) / 4096
length-covered_blocks offset n = length-blocks_from ((offset + 4095) / 4096) ((offset + n) / 4096 - (offset + 4095) / 4096)

touches_none : (offset n : ℕ) → n ≡ 0 → length (touched_blocks offset n) ≡ 0
touches_none offset n none = ap (λ (m : ℕ). length (touched_blocks offset m)) none

-- no more are covered than touched
covered_few : (offset n : ℕ) → length (covered_blocks offset n) ≤ length (touched_blocks offset n)
covered_few offset n = elim (cases_lt 0 n) [
  | inl some ↦ omega (arith, length-covered_blocks offset n, length-touched_blocks offset n some)
  | inr none ↦ omega (arith, length-covered_blocks offset n, none)
]

-- a part touches one
pub part_touches : (block start count : ℕ) → 0 < count → start + count ≤ 4096 → length (touched_blocks (4096 * block + start) count) ≡ 1
part_touches block start count some inside = omega (arith, length-touched_blocks (4096 * block + start) count some, some, inside)

-- and covers none where it isn't whole
pub part_covers : (block start count : ℕ) → count < 4096 → start + count ≤ 4096 → length (covered_blocks (4096 * block + start) count) ≡ 0
part_covers block start count less inside = omega (arith, length-covered_blocks (4096 * block + start) count, less, inside)

-- of longer ranges no fewer are touched
pub touched_most : (offset some more : ℕ) → some ≤ more → length (touched_blocks offset some) ≤ length (touched_blocks offset more)
touched_most offset some more le = elim (cases_lt 0 some) [
  | inl first ↦ omega (arith, length-touched_blocks offset some first, length-touched_blocks offset more (omega (arith, first, le)), le)
  | inr none ↦ omega (arith, touches_none offset some (omega (arith, none)))
]

-- with a part more one more is touched
pub touched_more : (offset n done block start count : ℕ) → IsPart offset n done block start count → length (touched_blocks offset (done + count)) ≡ length (touched_blocks offset done) + 1
touched_more offset n done block start count part = elim (cases_lt 0 done) [
  | inl some ↦
      let front : start ≡ 0 = elim part.front [ inl none ↦ absurd (omega (arith, none, some)) | inr zero ↦ zero ] in
      omega (arith, length-touched_blocks offset (done + count) (omega (arith, some)), length-touched_blocks offset done some, front, some, part.at, part.inside, part.some)
  | inr none ↦
      omega (arith, length-touched_blocks offset (done + count) (omega (arith, part.some)), touches_none offset done (omega (arith, none)), none, part.at, part.inside, part.some)
]

-- and no more are covered than before, and by the part
covered_more : (offset n done block start count : ℕ) → IsPart offset n done block start count
    → length (covered_blocks offset (done + count)) ≤ length (covered_blocks offset done) + length (covered_blocks (4096 * block + start) count)
covered_more offset n done block start count part =
    let all = length-covered_blocks offset (done + count) in
    let here = length-covered_blocks (4096 * block + start) count in
    elim part.front [
      | inl none ↦ omega (arith, all, here, none, part.at)
      | inr zero ↦ omega (arith, all, here, length-covered_blocks offset done, zero, part.at, part.inside)
    ]

-- ---- writes

-- with a part more as many pages are read as for the part
pub write_more : (offset n done block start count : ℕ) → IsPart offset n done block start count → reads_at kinds.Write offset done + reads_at kinds.Write (4096 * block + start) count ≤ reads_at kinds.Write offset (done + count)
write_more offset n done block start count part =
    omega (
      arith,
      touched_more offset n done block start count part,
      covered_more offset n done block start count part,
      covered_few offset done,
      covered_few (4096 * block + start) count,
      part_touches block start count part.some part.inside,
    )

-- up to the end of a block no more are covered, and not touched before, than touched
covered_up_to : (offset n done block : ℕ) → offset + done ≡ 4096 * (block + 1) → 0 < done → done ≤ n
    → length (covered_blocks offset n) + length (touched_blocks offset done) ≤ length (touched_blocks offset n) + length (covered_blocks offset done)
covered_up_to offset n done block at some le =
    omega (arith, length-covered_blocks offset n, length-covered_blocks offset done, length-touched_blocks offset n (omega (arith, some, le)), length-touched_blocks offset done some, at, le)

-- of the whole range no fewer are read than of its first parts
write_most : (offset n all done block start count : ℕ) → n ≡ all → IsPart offset n done block start count → reads_at kinds.Write offset (done + count) ≤ reads_at kinds.Write offset all
write_most offset n all done block start count same part = elim part.back [
  | inl last ↦
      let is : done + count ≡ all = last ∙ same in
      omega (arith, ap (λ (m : ℕ). reads_at kinds.Write offset m) is)
  | inr full ↦
      let le : done + count ≤ all = omega (arith, part.within, same) in
      omega (arith, covered_up_to offset all (done + count) block (omega (arith, part.at, full)) (omega (arith, part.some)) le, touched_most offset (done + count) all le, covered_few offset all, covered_few offset (done + count))
]

-- one part more
pub write_with : (offset n all done block start count : ℕ) → n ≡ all → IsPart offset n done block start count
    → reads_at kinds.Write offset done + reads_at kinds.Write (4096 * block + start) count ≤ reads_at kinds.Write offset all
write_with offset n all done block start count same part = omega (arith, write_more offset n done block start count part, write_most offset n all done block start count same part)

-- ---- requests

-- what such a request reads at most
pub reads_is : (refused : Option Outcome) (kind other : RequestKind) (offset n : ℕ) → refused ≡ None → kind ≡ other → reads_at other offset n ≡ unless_refused refused (reads_at kind offset n)
reads_is refused kind other offset n whole is = ap (λ (k : RequestKind). reads_at k offset n) (sym is) ∙ ap (λ (r : Option Outcome). unless_refused r (reads_at kind offset n)) (sym whole)

pub reads_refused : (size : ℕ) (request : Request) (refused : Option Outcome) → refused ≡ refusal size request → unless_refused refused (reads_at request.kind request.offset request.length) ≡ reads_for size request
reads_refused size request refused whole = ap (λ (r : Option Outcome). unless_refused r (reads_at request.kind request.offset request.length)) whole

pub reads_push : (size : ℕ) (exchanges : List Exchange) (exchange : Exchange) → reads_in size (exchanges ++ exchange ∷ []) ≡ reads_in size exchanges + reads_for size exchange.sent.head
reads_push size [] exchange = omega arith
reads_push size (first ∷ more) exchange = omega (arith, reads_push size more exchange)

-- what is said of some holds of more
pub read_more : (size : ℕ) (rest : List ℕ) (some more now : ℕ) → some ≤ more → HasRead size rest some now → HasRead size rest more now
read_more size rest some more now le (inl few) = inl (omega (arith, le, few))
read_more size rest some more now le (inr (request, behind, fits, is, few)) = inr (request, behind, fits, is, omega (arith, le, few))
