-- When a run is refused, and when it completes.
use Rattle.std.proofs.Common.{◌≡◌, ◌≤◌, ◌+◌, ◌*◌, ◌++◌, ◌∙◌, ◌⊎◌, ℕ, List, Option, None, Some, Result, Ok, Err, inl, inr, refl, sym, ap, subst, length, append-nil, length-append, arith}
use Rattle.std.specs.Prelude.{IfErr}
use Rattle.std.specs.List.{flat_map}
use Rattle.sdbt_base.specs.Counts.{Counts, NoneRose}
use Rattle.sdbt_base.specs.Told.{Gave, Got, IsAtEnd}
use Rattle.text_lines.specs.Lines.{lines_of}
use Rattle.device_terms.specs.Served.{IsServedImage}
use Rattle.device_course.specs.States.{Outside}
use Rattle.line_run.specs.Stops.{Ending}
use Rattle.line_run.specs.declared.stop.Stop.{Stop}
use Rattle.line_run.specs.declared.stop.Stop.TheVariants as stops
use Rattle.device_course.specs.Held.{Held}
use Rattle.session_calls.specs.declared.stops.DeviceStop.TheVariants as device
use Rattle.volume_table.specs.declared.volume.Volume.{Volume}
use Rattle.volume_lines.specs.Replies.{line_of}
use Rattle.volume_terms.specs.Counting.{needed_for_line}
use Rattle.volume_terms.specs.Volumes.{IsTabled}
use Rattle.volume_terms.proofs.CountingLaws.{none_short}
use Rattle.volumes.specs.Halts.{EndsAs, HasCause, IsTold, last_line_of, status_at}
use Rattle.volumes.specs.Program.{IsAmple, IsComplete, IsUnlessFault}
use Rattle.volumes.specs.Running.{Answers, Looked, Ran, Serves, halting}
use Rattle.volumes.specs.Starting.{EndsEarly, HasNoTable, IsRefusal, IsStart, SpellsNone}
use Rattle.volumes.specs.declared.halts.Halt.{Halt}
use Rattle.volumes.specs.declared.halts.Halt.TheVariants as halts
use Rattle.volumes.proofs.EndLaws.{halted_at, ok_ending}
use Rattle.volumes.proofs.StatusLaws.{at_eight, at_ten}

-- ---- how a run halted that ended with a halt

pub record Halting (tells : Type 0) (old new : Outside) (Idle : Type 0) (left left_now written written_now : Option (List ℕ)) (ended : Halt) : Type 0 where
  pub halted : Halt
  pub written_then : Option (List ℕ)
  pub serves : Serves tells (IsStart tells old) old new (Err halted) left left_now written written_then
  pub looked : Looked {X = Unit {0}} tells old.history.present (Err halted)
  pub idle : tells → IsRefusal halted → Idle × (written_then ≡ written)
  pub told : IsTold halted ended written_then written_now

pub halting_of : (tells : Type 0) (old new : Outside) (Idle : Type 0) (left left_now written written_now : Option (List ℕ)) (ended : Halt) → Ran tells old new Idle left left_now written written_now (Err ended)
    → Halting tells old new Idle left left_now written written_now ended
halting_of tells old new Idle left left_now written written_now ended ran = by ran.halted ran.serves ran.looked ran.idle ran.told
  where
    by : (halted : Result (Unit {0}) Halt) → Serves tells (IsStart tells old) old new halted left left_now written ran.written_then → Looked tells old.history.present halted → (tells → IfErr halted (λ halt. IsRefusal halt → Idle × (ran.written_then ≡ written)))
        → EndsAs halted (Err ended) ran.written_then written_now → Halting tells old new Idle left left_now written written_now ended
    by (Ok done) serves looked idle told = let e : Err ended ≡ Ok tt = told.0 in cc
    by (Err halted) serves looked idle (other, is, told) =
        let same : ended ≡ other = let e : Err ended ≡ Err other = is in cc in
        record { halted = halted; written_then = ran.written_then; serves = serves; looked = looked; idle = idle; told = subst (λ (h : Halt). IsTold halted h ran.written_then written_now) (sym same) told }

-- and one that was done
pub record Doing (tells : Type 0) (old new : Outside) (left left_now written written_now : Option (List ℕ)) : Type 0 where
  pub written_then : Option (List ℕ)
  pub serves : Serves tells (IsStart tells old) old new (Ok tt) left left_now written written_then
  pub looked : Looked {X = Unit {0}} tells old.history.present (Ok tt)
  pub unput : written_now ≡ written_then

pub doing_of : (tells : Type 0) (old new : Outside) (Idle : Type 0) (left left_now written written_now : Option (List ℕ)) → Ran tells old new Idle left left_now written written_now (Ok tt) → Doing tells old new left left_now written written_now
doing_of tells old new Idle left left_now written written_now ran = by ran.halted ran.serves ran.looked ran.told
  where
    by : (halted : Result (Unit {0}) Halt) → Serves tells (IsStart tells old) old new halted left left_now written ran.written_then → Looked tells old.history.present halted → EndsAs halted (Ok tt) ran.written_then written_now
        → Doing tells old new left left_now written written_now
    by (Ok done) serves looked told = record { written_then = ran.written_then; serves = serves; looked = looked; unput = told.1 }
    by (Err halted) serves looked (other, is, told) = let e : Ok tt ≡ Err other = is in cc

-- ---- refusals

refusal_of : (ended : Halt) → (status_at ended ≡ 8) ⊎ (status_at ended ≡ 10) → IsRefusal ended
refusal_of ended (inl eight) = subst IsRefusal (sym (at_eight ended eight)) tt
refusal_of ended (inr ten) = elim (at_ten ended ten) [ inl e ↦ subst IsRefusal (sym e) tt | inr e ↦ subst IsRefusal (sym e) tt ]

same_halt : (halted ended : Halt) (written written_now : Option (List ℕ)) → IsTold halted ended written written_now → (status_at ended ≡ 8) ⊎ (status_at ended ≡ 10) → ended ≡ halted
same_halt halted ended written written_now told (inl eight) = halted_at halted ended 8 written written_now told eight (λ x. omega (arith, x))
same_halt halted ended written written_now told (inr ten) = halted_at halted ended 10 written written_now told ten (λ x. omega (arith, x))

-- what is said at a refusal, and that nothing else was done
said_only : (halted ended : Halt) (written written_then written_now : Option (List ℕ)) → IsTold halted ended written_then written_now → ended ≡ halted → IsRefusal ended → written_then ≡ written → Got written (last_line_of ended) written_now
said_only halted ended written written_then written_now (inl (same, got)) is of unput =
    subst (λ (h : Halt). Got written (last_line_of h) written_now) (sym same) (subst (λ (w : Option (List ℕ)). Got w (last_line_of halted) written_now) unput got)
said_only halted ended written written_then written_now (inr (sink, has, part)) is of unput = absurd (subst IsRefusal sink of)

pub idle_at : (tells : Type 0) (old new : Outside) (Idle : Type 0) (left left_now written written_now : Option (List ℕ)) (ended : Halt) → Halting tells old new Idle left left_now written written_now ended → tells
    → (status_at ended ≡ 8) ⊎ (status_at ended ≡ 10) → Idle
idle_at tells old new Idle left left_now written written_now ended h told which =
    (h.idle told (subst IsRefusal (same_halt h.halted ended h.written_then written_now h.told which) (refusal_of ended which))).0

said_at : (tells : Type 0) (old new : Outside) (Idle : Type 0) (left left_now written written_now : Option (List ℕ)) (ended : Halt) → Halting tells old new Idle left left_now written written_now ended → tells
    → (status_at ended ≡ 8) ⊎ (status_at ended ≡ 10) → Got written (last_line_of ended) written_now
said_at tells old new Idle left left_now written written_now ended h told which =
    let of : IsRefusal ended = refusal_of ended which in
    let same : ended ≡ h.halted = same_halt h.halted ended h.written_then written_now h.told which in
    said_only h.halted ended written h.written_then written_now h.told same of (h.idle told (subst IsRefusal same of)).1

pub bad_root_at : (tells : Type 0) (old new : Outside) (Idle : Type 0) (left left_now written written_now : Option (List ℕ)) (ended : Halt) → Halting tells old new Idle left left_now written written_now ended → tells
    → status_at ended ≡ 8 → (IsServedImage old.history.present → ⊥) × Got written (last_line_of (halts.Stopped (stops.Device device.BadRoot))) written_now
bad_root_at tells old new Idle left left_now written written_now ended h told eight =
    let root : ended ≡ halts.Stopped (stops.Device device.BadRoot) = at_eight ended eight in
    let same : ended ≡ h.halted = same_halt h.halted ended h.written_then written_now h.told (inl eight) in (
      h.looked.bad_only told (ap Err (sym same ∙ root)),
      subst (λ (it : Halt). Got written (last_line_of it) written_now) root (said_at tells old new Idle left left_now written written_now ended h told (inl eight)),
    )

no_table_of : (tells : Type 0) (old new : Outside) (halted : Halt) (left left_now written written_then : Option (List ℕ)) → halted ≡ halts.BadDirectory → Serves tells (IsStart tells old) old new (Err halted) left left_now written written_then
    → (entry : Held) → IsStart tells old entry → HasNoTable entry
no_table_of tells old new halted left left_now written written_then is (inl (halt, e, silent)) entry start =
    let same : halt ≡ halts.BadDirectory = let f : Err halted ≡ Err halt = e in cc in
    subst (EndsEarly entry) same (silent.stayed entry start).1
no_table_of tells old new halted left left_now written written_then is (inr (Ok done, e, answers)) entry start = cc
no_table_of tells old new halted left left_now written written_then is (inr (Err stop, e, answers)) entry start = cc

unspelled_of : (tells : Type 0) (old new : Outside) (halted : Halt) (left left_now written written_then : Option (List ℕ)) → halted ≡ halts.BadDirectory → Serves tells (IsStart tells old) old new (Err halted) left left_now written written_then → tells
    → SpellsNone old.history.present
unspelled_of tells old new halted left left_now written written_then is (inl (halt, e, silent)) told =
    let same : halt ≡ halts.BadDirectory = let f : Err halted ≡ Err halt = e in cc in
    silent.unspelled told same
unspelled_of tells old new halted left left_now written written_then is (inr (Ok done, e, answers)) told = cc
unspelled_of tells old new halted left left_now written written_then is (inr (Err stop, e, answers)) told = cc

pub refused_at : (tells : Type 0) (old new : Outside) (Idle : Type 0) (left left_now written written_now : Option (List ℕ)) (ended : Halt) → Halting tells old new Idle left left_now written written_now ended → tells
    → status_at ended ≡ 10 → ((old.history.present.cell ≡ None) × Got written (last_line_of halts.NoDevice) written_now)
    ⊎ (SpellsNone old.history.present × ((entry : Held) → IsStart tells old entry → HasNoTable entry) × Got written (last_line_of halts.BadDirectory) written_now)
refused_at tells old new Idle left left_now written written_now ended h told ten =
    let same : ended ≡ h.halted = same_halt h.halted ended h.written_then written_now h.told (inr ten) in
    let got = said_at tells old new Idle left left_now written written_now ended h told (inr ten) in
    elim (at_ten ended ten) [
      | inl none ↦ inl (h.looked.empty_only told (ap Err (sym same ∙ none)), subst (λ (it : Halt). Got written (last_line_of it) written_now) none got)
      | inr bad ↦ inr (unspelled_of tells old new h.halted left left_now written h.written_then (sym same ∙ bad) h.serves told, no_table_of tells old new h.halted left left_now written h.written_then (sym same ∙ bad) h.serves, subst (λ (it : Halt). Got written (last_line_of it) written_now) bad got)
    ]

-- the status of a run that halted so
unless_fault : (halted ended : Halt) (due : ℕ) (written written_now : Option (List ℕ)) → IsTold halted ended written written_now → status_at halted ≡ due → (status_at ended ≡ due) ⊎ (status_at ended ≡ 4)
unless_fault halted ended due written written_now (inl (same, got)) is = inl (ap status_at same ∙ is)
unless_fault halted ended due written written_now (inr (sink, has, part)) is = inr (ap status_at sink)

-- a run that halted so
abbrev Halted : Halt → Result (Unit {0}) Halt
Halted halt = Err halt

due_or_platform : (halted ended due_halt : Halt) (due : ℕ) (written written_now : Option (List ℕ)) → IsTold halted ended written written_now → status_at due_halt ≡ due
    → (Halted halted ≡ Halted due_halt) ⊎ (Halted halted ≡ Halted (halts.Stopped (stops.Device device.Platform))) → IsUnlessFault due (status_at ended)
due_or_platform halted ended due_halt due written written_now told is (inl e) =
    let same : halted ≡ due_halt = cc in
    elim (unless_fault halted ended due written written_now told (ap status_at same ∙ is)) [ inl x ↦ inl x | inr x ↦ inr (inl x) ]
due_or_platform halted ended due_halt due written written_now told is (inr e) =
    let same : halted ≡ halts.Stopped (stops.Device device.Platform) = cc in
    elim (unless_fault halted ended 5 written written_now told (ap status_at same)) [ inl x ↦ inr (inr x) | inr x ↦ inr (inl x) ]

pub bad_root_due : (tells : Type 0) (old new : Outside) (Idle : Type 0) (left left_now written written_now : Option (List ℕ)) (ended : Halt) → Halting tells old new Idle left left_now written written_now ended → tells
    → (IsServedImage old.history.present → ⊥) → IsUnlessFault 8 (status_at ended)
bad_root_due tells old new Idle left left_now written written_now ended h told bad =
    due_or_platform h.halted ended (halts.Stopped (stops.Device device.BadRoot)) 8 h.written_then written_now h.told refl (h.looked.bad told bad)

pub no_device_due : (tells : Type 0) (old new : Outside) (Idle : Type 0) (left left_now written written_now : Option (List ℕ)) (ended : Halt) → Halting tells old new Idle left left_now written written_now ended → tells
    → old.history.present.cell ≡ None → IsUnlessFault 10 (status_at ended)
no_device_due tells old new Idle left left_now written written_now ended h told empty =
    due_or_platform h.halted ended halts.NoDevice 10 h.written_then written_now h.told refl (h.looked.empty told empty)

-- a device without a table
due_early : (halted ended halt : Halt) (entry : Held) (written written_now : Option (List ℕ)) → halted ≡ halt → IsTold halted ended written written_now → EndsEarly entry halt → IsUnlessFault 10 (status_at ended) ⊎ (status_at ended ≡ 11)
due_early halted ended halts.BadDirectory entry written written_now is told early =
    inl (elim (unless_fault halted ended 10 written written_now told (ap status_at is)) [ inl x ↦ inl x | inr x ↦ inr (inl x) ])
due_early halted ended halts.NoDevice entry written written_now is told early = absurd early
due_early halted ended (halts.Stopped stops.Source) entry written written_now is told early = absurd early
due_early halted ended (halts.Stopped stops.Sink) entry written written_now is told early = absurd early
due_early halted ended (halts.Stopped stops.Limit) entry written written_now is told early = absurd early
due_early halted ended (halts.Stopped (stops.Device device.Platform)) entry written written_now is told early =
    inl (elim (unless_fault halted ended 5 written written_now told (ap status_at is)) [ inl x ↦ inr (inr x) | inr x ↦ inr (inl x) ])
due_early halted ended (halts.Stopped (stops.Device device.Memory)) entry written written_now is told early =
    elim (unless_fault halted ended 11 written written_now told (ap status_at is)) [ inl x ↦ inr x | inr x ↦ inl (inr (inl x)) ]
due_early halted ended (halts.Stopped (stops.Device device.Tape)) entry written written_now is told early = absurd early
due_early halted ended (halts.Stopped (stops.Device device.Ledger)) entry written written_now is told early = absurd early
due_early halted ended (halts.Stopped (stops.Device device.BadRoot)) entry written written_now is told early = absurd early
due_early halted ended (halts.Stopped (stops.Device (device.BadRecord addr))) entry written written_now is told early = absurd early

pub no_table_due : (tells : Type 0) (old new : Outside) (Idle : Type 0) (left left_now written written_now : Option (List ℕ)) (ended : Halt) → Halting tells old new Idle left left_now written written_now ended
    → (entry : Held) → IsStart tells old entry → HasNoTable entry → IsUnlessFault 10 (status_at ended) ⊎ (status_at ended ≡ 11)
no_table_due tells old new Idle left left_now written written_now ended h entry start none = elim h.serves [
  | inl (halt, is, silent) ↦
      let same : h.halted ≡ halt = let e : Err h.halted ≡ Err halt = is in cc in
      due_early h.halted ended halt entry h.written_then written_now same h.told (silent.stayed entry start).1
  | inr (ending, is, answers) ↦
      let there = answers.led entry start in
      absurd (none answers.start.table there.tabled)
]

-- none is served
pub done_tabled : (tells : Type 0) (old new : Outside) (left left_now written written_now : Option (List ℕ)) → Doing tells old new left left_now written written_now → (entry : Held) → IsStart tells old entry → HasNoTable entry → ⊥
done_tabled tells old new left left_now written written_now d entry start none = elim d.serves [
  | inl (halt, is, silent) ↦ (let e : Ok tt ≡ Err halt = is in cc)
  | inr (ending, is, answers) ↦
      let there = answers.led entry start in
      none answers.start.table there.tabled
]

-- ---- a run that completes

-- what was taken of a text, where nothing is left, is all of it
all_taken : (text taken : List ℕ) (left left_now : Option (List ℕ)) → left ≡ Some text → Gave left taken left_now → IsAtEnd left_now → taken ≡ text
all_taken text taken left None is gave end = absurd cc
all_taken text taken left (Some rest) is gave end =
    let e : Some text ≡ Some (taken ++ rest) = sym is ∙ gave in
    let f : text ≡ taken ++ rest = cc in
    sym (f ∙ ap (λ (r : List ℕ). taken ++ r) end ∙ append-nil taken)

-- no more is taken than there is
some_taken : (text taken : List ℕ) (left left_now : Option (List ℕ)) → left ≡ Some text → Gave left taken left_now → length taken ≤ length text
some_taken text taken left None is gave = absurd cc
some_taken text taken left (Some rest) is gave =
    let e : Some text ≡ Some (taken ++ rest) = sym is ∙ gave in
    let f : text ≡ taken ++ rest = cc in
    omega (arith, ap (λ (t : List ℕ). length t) f, length-append taken rest)

complete_lines : (tells : Type 0) (old new : Outside) (left left_now written written_now : Option (List ℕ)) (entry : Held) (text : List ℕ) → IsStart tells old entry → IsAmple left text entry.device.blocks old.head old.capacity
    → Answers tells 1 (IsStart tells old) old new (Ok tt) left left_now written written_now → IsComplete text written written_now
complete_lines tells old new left left_now written written_now entry text start ample answers =
    let there = answers.led entry start in
    let taken : answers.taken ≡ text = all_taken text answers.taken left left_now ample.text_is answers.gave answers.come.0 in
    let lines : answers.lines ≡ lines_of text = answers.come.1 ∙ ap (λ (t : List ℕ). lines_of t) taken in
    let count : length answers.lines ≡ length (lines_of text) = ap (λ (l : List (List ℕ)). length l) lines in
    record {
      replies = answers.replies;
      got = subst (λ (bytes : List ℕ). Got written bytes written_now)
          (ap (λ (part : List ℕ). flat_map line_of answers.replies ++ part) answers.behind ∙ append-nil (flat_map line_of answers.replies)) answers.got;
      each = answers.many ∙ count;
      roomy = none_short old.capacity entry answers.lines answers.replies there.on.led.states
          (roomy (old.head) old.capacity entry (length answers.lines) (length (lines_of text)) start.pages start.updates count ample.room) there.on.led.leads;
    }
  where
    roomy : (head capacity : ℕ) (held : Held) (some all : ℕ) → held.pages ≡ head → held.updates ≡ 0 → some ≡ all → head + needed_for_line held.device.blocks * all ≤ capacity
        → held.pages + 41 * held.updates + needed_for_line held.device.blocks * some ≤ capacity
    roomy head capacity held some all pages none same room =
        let e : needed_for_line held.device.blocks * some ≡ needed_for_line held.device.blocks * all = ap (λ (n : ℕ). needed_for_line held.device.blocks * n) same in
        omega (arith, pages, none, e, room)

-- a run without a fault that halted behind its lines lacked memory
lacked : (tells : Type 0) (old new : Outside) (stop : Stop) (before now : Counts) (left left_now written written_now : Option (List ℕ)) (entry : Held) (text : List ℕ) → IsStart tells old entry → IsAmple left text entry.device.blocks old.head old.capacity
    → HasCause before now (halts.Stopped stop) → NoneRose before now → Answers tells 1 (IsStart tells old) old new (Err stop) left left_now written written_now → stop ≡ stops.Device device.Memory
lacked tells old new stops.Source before now left left_now written written_now entry text start ample cause quiet answers = absurd (quiet.input cause.0)
lacked tells old new stops.Sink before now left left_now written written_now entry text start ample cause quiet answers = absurd (quiet.output cause.0)
lacked tells old new stops.Limit before now left left_now written written_now entry text start ample cause quiet answers =
    absurd (let most = answers.took.limit refl in omega (arith, most, some_taken text answers.taken left left_now ample.text_is answers.gave, ample.short))
lacked tells old new (stops.Device device.Platform) before now left left_now written written_now entry text start ample cause quiet answers = absurd (quiet.platform cause.0)
lacked tells old new (stops.Device device.Tape) before now left left_now written written_now entry text start ample cause quiet answers = absurd (quiet.tape cause.0)
lacked tells old new (stops.Device device.Ledger) before now left left_now written written_now entry text start ample cause quiet answers = absurd (quiet.ledger cause.0)
lacked tells old new (stops.Device device.Memory) before now left left_now written written_now entry text start ample cause quiet answers = refl
lacked tells old new (stops.Device device.BadRoot) before now left left_now written written_now entry text start ample cause quiet answers = absurd ((answers.led entry start).on.ends)
lacked tells old new (stops.Device (device.BadRecord addr)) before now left left_now written written_now entry text start ample cause quiet answers = absurd ((answers.led entry start).on.ends)

-- or before its first
lacked_early : (before now : Counts) (halt : Halt) (entry : Held) (table : List Volume) → IsTabled entry table → HasCause before now halt → NoneRose before now → EndsEarly entry halt → halt ≡ halts.Stopped (stops.Device device.Memory)
lacked_early before now halts.BadDirectory entry table tabled cause quiet early = absurd (early table tabled)
lacked_early before now halts.NoDevice entry table tabled cause quiet early = absurd early
lacked_early before now (halts.Stopped stops.Source) entry table tabled cause quiet early = absurd early
lacked_early before now (halts.Stopped stops.Sink) entry table tabled cause quiet early = absurd early
lacked_early before now (halts.Stopped stops.Limit) entry table tabled cause quiet early = absurd early
lacked_early before now (halts.Stopped (stops.Device device.Platform)) entry table tabled cause quiet early = absurd (quiet.platform cause.0)
lacked_early before now (halts.Stopped (stops.Device device.Memory)) entry table tabled cause quiet early = refl
lacked_early before now (halts.Stopped (stops.Device device.Tape)) entry table tabled cause quiet early = absurd early
lacked_early before now (halts.Stopped (stops.Device device.Ledger)) entry table tabled cause quiet early = absurd early
lacked_early before now (halts.Stopped (stops.Device device.BadRoot)) entry table tabled cause quiet early = absurd early
lacked_early before now (halts.Stopped (stops.Device (device.BadRecord addr))) entry table tabled cause quiet early = absurd early

-- one that ended so halted so, since no count of faults rose
as_halted : (halted ended : Halt) (before now : Counts) (written written_now : Option (List ℕ)) → IsTold halted ended written written_now → HasCause before now ended → NoneRose before now → ended ≡ halted
as_halted halted ended before now written written_now (inl (same, got)) cause quiet = same
as_halted halted ended before now written written_now (inr (sink, has, part)) cause quiet =
    absurd (let rose : HasCause before now (halts.Stopped stops.Sink) = subst (HasCause before now) sink cause in quiet.output rose.0)

pub complete_halted : (tells : Type 0) (old new : Outside) (Idle : Type 0) (before now : Counts) (left left_now written written_now : Option (List ℕ)) (ended : Halt) → Halting tells old new Idle left left_now written written_now ended → HasCause before now ended
    → (entry : Held) → IsStart tells old entry → (table : List Volume) → IsTabled entry table → (text : List ℕ) → IsAmple left text entry.device.blocks old.head old.capacity → NoneRose before now → status_at ended ≡ 11
complete_halted tells old new Idle before now left left_now written written_now ended h cause entry start table tabled text ample quiet =
    let same : ended ≡ h.halted = as_halted h.halted ended before now h.written_then written_now h.told cause quiet in
    let cause_then : HasCause before now h.halted = subst (HasCause before now) same cause in
    ap status_at (same ∙ (elim h.serves [
      | inl (halt, is, silent) ↦
          let e : h.halted ≡ halt = let f : Err h.halted ≡ Err halt = is in cc in
          e ∙ lacked_early before now halt entry table tabled (subst (HasCause before now) e cause_then) quiet (silent.stayed entry start).1
      | inr (ending, is, answers) ↦ by ending is answers cause_then
    ]))
  where
    by : (ending : Ending) → Err h.halted ≡ halting ending → Answers tells 1 (IsStart tells old) old new ending left left_now written h.written_then → HasCause before now h.halted → h.halted ≡ halts.Stopped (stops.Device device.Memory)
    by (Ok done) is answers cause_then = cc
    by (Err stop) is answers cause_then =
        let e : h.halted ≡ halts.Stopped stop = cc in
        e ∙ ap halts.Stopped (lacked tells old new stop before now left left_now written h.written_then entry text start ample (subst (HasCause before now) e cause_then) quiet answers)

pub complete_done : (tells : Type 0) (old new : Outside) (left left_now written written_now : Option (List ℕ)) → Doing tells old new left left_now written written_now
    → (entry : Held) → IsStart tells old entry → (text : List ℕ) → IsAmple left text entry.device.blocks old.head old.capacity → IsComplete text written written_now
complete_done tells old new left left_now written written_now d entry start text ample = elim d.serves [
  | inl (halt, is, silent) ↦ (let e : Ok tt ≡ Err halt = is in cc)
  | inr (ending, is, answers) ↦
      subst (λ (w : Option (List ℕ)). IsComplete text written w) (sym d.unput)
      (complete_lines tells old new left left_now written d.written_then entry text start ample (subst (λ (e : Ending). Answers tells 1 (IsStart tells old) old new e left left_now written d.written_then) (ok_ending ending is) answers))
]
