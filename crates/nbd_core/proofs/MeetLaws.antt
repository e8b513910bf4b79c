-- Where calls for blocks meet a page that doesn't fit its place.
use Rattle.std.proofs.Common.{◌≡◌, ◌≢◌, ◌≤◌, ◌<◌, ◌+◌, ◌*◌, ℕ, List, Result, Ok, Err, ap, inl, inr, arith}
use Rattle.std.specs.Prelude.{IfErr}
use Rattle.std.proofs.lemmas.Bool.{cases_lt}
use Rattle.byte_arrays.specs.Parts.{IsPart}
use Rattle.byte_arrays.specs.Ranges.{IsCovered}
use Rattle.platform.specs.Image.{Image}
use Rattle.device_session.specs.Damage.{IsAtLimit}
use Rattle.device_session.specs.Open.{blocks_of}
use Rattle.device_session.specs.Sessions.{Session}
use Rattle.nbd_lang.specs.declared.requests.RequestKind.TheVariants as kinds
use Rattle.session_calls.specs.Damage.{IsWrongPlace, ReadsAny, TrimsAny, WritesAny}
use Rattle.session_calls.specs.declared.stops.DeviceStop.{DeviceStop}
use Rattle.session_calls.specs.declared.stops.DeviceStop.TheVariants as stops
use Rattle.nbd_core.specs.Meets.{CutsBlock, IsStepAt, MayMeet, MeetsAt}

-- what is so at an address is so too in another way
pub meets_more : (One Other : ℕ → Type 0) (stop : DeviceStop) → ((addr : ℕ) → One addr → Other addr) → MeetsAt One stop → MeetsAt Other stop
meets_more One Other (stops.BadRecord addr) then' meets = then' addr meets
meets_more One Other stops.Platform then' meets = tt
meets_more One Other stops.Tape then' meets = tt
meets_more One Other stops.Ledger then' meets = tt
meets_more One Other stops.Memory then' meets = tt
meets_more One Other stops.BadRoot then' meets = absurd meets

pub if_meets : (One Other : ℕ → Type 0) (result : Result (Unit {0}) DeviceStop) → ((addr : ℕ) → One addr → Other addr) → IfErr result (MeetsAt One) → IfErr result (MeetsAt Other)
if_meets One Other (Ok done) then' meets = tt
if_meets One Other (Err stop) then' meets = meets_more One Other stop then' meets

-- ---- calls

pub read_stops : (Known : Type 0) (image after : Image) (session : Session) (block : ℕ) (bytes : List ℕ) (result : Result (Unit {0}) DeviceStop) → ReadsAny Known image after session block bytes result → Known → IfErr result (MeetsAt (IsWrongPlace after))
read_stops Known image after session block bytes (Ok done) any known = tt
read_stops Known image after session block bytes (Err stops.Platform) any known = tt
read_stops Known image after session block bytes (Err stops.Memory) any known = absurd any
read_stops Known image after session block bytes (Err stops.Tape) any known = absurd any
read_stops Known image after session block bytes (Err stops.Ledger) any known = absurd any
read_stops Known image after session block bytes (Err stops.BadRoot) any known = absurd any
read_stops Known image after session block bytes (Err (stops.BadRecord addr)) any known = any known

pub write_stops : (Known : Type 0) (image after : Image) (session : Session) (block : ℕ) (result : Result (Unit {0}) DeviceStop) → WritesAny Known image after session block result → Known → IfErr result (MeetsAt (IsStepAt (IsAtLimit session) after))
write_stops Known image after session block (Ok done) any known = tt
write_stops Known image after session block (Err stops.Platform) any known = tt
write_stops Known image after session block (Err stops.Memory) any known = tt
write_stops Known image after session block (Err stops.Tape) any known = tt
write_stops Known image after session block (Err stops.Ledger) any known = absurd any
write_stops Known image after session block (Err stops.BadRoot) any known = absurd any
write_stops Known image after session block (Err (stops.BadRecord addr)) any known = elim (any known) [ inl node ↦ inl node | inr past ↦ inr (past.0, past.1.1) ]

pub trim_stops : (Known : Type 0) (image after : Image) (session : Session) (block : ℕ) (result : Result (Unit {0}) DeviceStop) → TrimsAny Known image after session block result → Known → IfErr result (MeetsAt (IsStepAt (session.mapped ≡ 0) after))
trim_stops Known image after session block (Ok done) any known = tt
trim_stops Known image after session block (Err stops.Platform) any known = tt
trim_stops Known image after session block (Err stops.Memory) any known = tt
trim_stops Known image after session block (Err stops.Tape) any known = absurd any
trim_stops Known image after session block (Err stops.Ledger) any known = absurd any
trim_stops Known image after session block (Err stops.BadRoot) any known = absurd any
trim_stops Known image after session block (Err (stops.BadRecord addr)) any known = elim (any known) [ inl node ↦ inl node | inr none ↦ inr (none.0, none.1.1) ]

-- ---- parts of a range

-- a block isn't covered of whose first or last byte is none in the range
uncovered : (offset n block start count : ℕ) → start + count ≤ 4096 → count < 4096 → (0 < start → 4096 * block < offset) → (start ≡ 0 → offset + n ≤ 4096 * block + 4095) → IsCovered offset n block → ⊥
uncovered offset n block start count inside less front back covered = elim (cases_lt 0 start) [
  | inl some ↦ absurd (omega (arith, (covered (4096 * block) (omega arith)).0, front some))
  | inr none ↦ absurd (omega (arith, (covered (4096 * block + 4095) (omega arith)).1, back (omega (arith, none))))
]

-- one that isn't whole cuts its block
pub part_cut : (block start count n : ℕ) → n ≡ count → 0 < count → start + count ≤ 4096 → count ≢ 4096 → CutsBlock (4096 * block + start) n
part_cut block start count n size some inside other =
    let less : count < 4096 = omega (arith, inside, other) in (
      block,
      (4096 * block + start, omega (arith, some, inside), omega arith, omega (arith, size, some)),
      uncovered (4096 * block + start) n block start count inside less (λ more. omega (arith, more)) (λ zero. omega (arith, zero, size, less)),
    )

-- and is none whole that cuts one
cuts_less : (block start count n : ℕ) → n ≡ count → start + count ≤ 4096 → CutsBlock (4096 * block + start) n → count < 4096
cuts_less block start count n size inside (cut, (place, is, from, below), not) = elim (cases_lt count 4096) [
  | inl less ↦ less
  | inr whole ↦
      let zero : start ≡ 0 = omega (arith, whole, inside) in
      let same : cut ≡ block = omega (arith, is, from, below, size, inside) in
      absurd (not (λ other at. (omega (arith, at, same, zero), omega (arith, at, same, zero, size, whole))))
]

-- so does the range of which it is a part
part_cuts : (offset n done block start count size : ℕ) → IsPart offset n done block start count → size ≡ count → CutsBlock (4096 * block + start) size → CutsBlock offset n
part_cuts offset n done block start count size part same cut =
    let less = cuts_less block start count size same part.inside cut in (
      block,
      (offset + done, omega (arith, part.at, part.inside, part.some), omega arith, omega (arith, part.within, part.some)),
      uncovered offset n block start count part.inside less
          (λ more. elim part.front [ inl none ↦ omega (arith, more, none, part.at) | inr zero ↦ absurd (omega (arith, more, zero)) ])
          (λ zero. elim part.back [ inl last ↦ omega (arith, zero, last, part.at, less) | inr full ↦ absurd (omega (arith, zero, full, less)) ]),
    )

-- what a write of a part meets, one of the range does
pub part_meets : (image : Image) (session : Session) (offset n done block start count size : ℕ) (stop : DeviceStop) → IsPart offset n done block start count → size ≡ count
    → MeetsAt (MayMeet kinds.Write session image (4096 * block + start) size) stop → MeetsAt (MayMeet kinds.Write session image offset n) stop
part_meets image session offset n done block start count size stop part same meets =
    meets_more (MayMeet kinds.Write session image (4096 * block + start) size) (MayMeet kinds.Write session image offset n) stop
    (λ addr may. elim may [ inl step ↦ inl step | inr cut ↦ inr (part_cuts offset n done block start count size part same cut.0, cut.1) ]) meets

-- ---- behind a read

-- the same bound behind a call that leaves what is counted, and the tree
pub limit_before : (session between : Session) → blocks_of between ≡ blocks_of session → between.mapped ≡ session.mapped → between.grove ≡ session.grove → IsAtLimit between → IsAtLimit session
limit_before session between blocks mapped grove (inl full) = inl (omega (arith, full, blocks, mapped))
limit_before session between blocks mapped grove (inr high) = inr (omega (arith, high, ap (λ g. g.level) grove))

pub step_before : (One Other : Type 0) (image : Image) (result : Result (Unit {0}) DeviceStop) → (One → Other) → IfErr result (MeetsAt (IsStepAt One image)) → IfErr result (MeetsAt (IsStepAt Other image))
step_before One Other image result then' = if_meets (IsStepAt One image) (IsStepAt Other image) result (λ addr step. elim step [ inl node ↦ inl node | inr root ↦ inr (root.0, then' root.1) ])
