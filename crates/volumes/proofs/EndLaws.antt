-- What a run says last, what its exit status tells of its end, and that it completes.
use Rattle.std.proofs.Common.{◌≡◌, ◌≢◌, ◌∙◌, ◌⊎◌, ℕ, List, [], Option, None, Some, Result, Ok, Err, inl, inr, refl, sym, ap, subst, length, arith}
use Rattle.std.specs.Prelude.{IfErr}
use Rattle.sdbt_base.specs.Counts.{Counts, NoneRose}
use Rattle.sdbt_base.specs.Told.{Gave, Got}
use Rattle.sdbt_base.proofs.ToldLaws.{Gave-nothing}
use Rattle.platform.specs.Image.{Image}
use Rattle.page_store.specs.Roots.{IsRootWithin}
use Rattle.device_terms.specs.Served.{IsServedCell, IsServedImage}
use Rattle.device_course.specs.States.{Outside}
use Rattle.line_run.specs.Stops.{Ending, TookUntil}
use Rattle.line_run.specs.declared.stop.Stop.TheVariants as stops
use Rattle.device_course.specs.Held.{Held}
use Rattle.session_calls.specs.Mounts.{IsMountStop}
use Rattle.session_calls.specs.declared.stops.DeviceStop.{DeviceStop}
use Rattle.session_calls.proofs.MountLaws.{bad_served}
use Rattle.session_calls.specs.declared.stops.DeviceStop.TheVariants as device
use Rattle.volumes.specs.Halts.{HasCause, IsTold, last_line_of, status_at}
use Rattle.volumes.specs.Program.{Took}
use Rattle.volumes.specs.Running.{IsEarly, Looked, Serves, halting}
use Rattle.volumes.specs.Starting.{HaltsAtDamage, HaltsBehind}
use Rattle.volumes.specs.declared.halts.Halt.{Halt}
use Rattle.volumes.specs.declared.halts.Halt.TheVariants as halts
use Rattle.volumes.proofs.StatusLaws.{at_ten, at_three, at_twelve, never_two, never_zero}

-- ---- what a mount finds

-- one that found a session
pub looked_behind : (tells : Type 0) (image image_now : Image) (result : Result (Unit {0}) Halt) → (tells → IsServedImage image) → (tells → image.cell ≡ None → ⊥) → (tells → IfErr result (HaltsBehind image_now)) → Looked tells image result
looked_behind tells image image_now result served full halts_behind = record {
  bad = λ told bad. absurd (bad (served told));
  empty = λ told none. absurd (full told none);
  bad_only = λ told is. absurd (subst (λ (r : Result (Unit {0}) Halt). IfErr r (HaltsBehind image_now)) is (halts_behind told));
  empty_only = λ told is. absurd (subst (λ (r : Result (Unit {0}) Halt). IfErr r (HaltsBehind image_now)) is (halts_behind told));
}

at_damage : (image : Image) (halt : Halt) → HaltsBehind image halt → HaltsAtDamage image halt
at_damage image halts.NoDevice behind = absurd behind
at_damage image halts.BadDirectory behind = tt
at_damage image (halts.Stopped stops.Source) behind = tt
at_damage image (halts.Stopped stops.Sink) behind = tt
at_damage image (halts.Stopped stops.Limit) behind = tt
at_damage image (halts.Stopped (stops.Device device.Platform)) behind = tt
at_damage image (halts.Stopped (stops.Device device.Tape)) behind = tt
at_damage image (halts.Stopped (stops.Device device.Ledger)) behind = tt
at_damage image (halts.Stopped (stops.Device device.Memory)) behind = tt
at_damage image (halts.Stopped (stops.Device device.BadRoot)) behind = absurd behind
at_damage image (halts.Stopped (stops.Device (device.BadRecord addr))) behind = behind

pub damage_behind : (image : Image) (result : Result (Unit {0}) Halt) → IfErr result (HaltsBehind image) → IfErr result (HaltsAtDamage image)
damage_behind image (Ok done) behind = tt
damage_behind image (Err halt) behind = at_damage image halt behind

-- ---- the last line

-- a run that halted, and ended with another halt than at the output, ended as it halted
pub ended_as : (halted ended : Halt) (written written_now : Option (List ℕ)) → IsTold halted ended written written_now → (ended ≡ halts.Stopped stops.Sink → ⊥) → (ended ≡ halted) × Got written (last_line_of halted) written_now
ended_as halted ended written written_now (inl (same, got)) other = (same, got)
ended_as halted ended written written_now (inr (sink, has, part)) other = absurd (other sink)

-- so did one of which no count of faults rose
quiet_sink : (before now : Counts) (halt : Halt) → NoneRose before now → HasCause before now halt → halt ≡ halts.Stopped stops.Sink → ⊥
quiet_sink before now halt quiet cause is =
    let sink : HasCause before now (halts.Stopped stops.Sink) = subst (HasCause before now) is cause in
    quiet.output sink.0

-- ---- what was taken

lines_twelve : (ending : Ending) (halted : Halt) → Err halted ≡ halting ending → halted ≡ halts.Stopped stops.Limit → ending ≡ Err stops.Limit
lines_twelve (Ok done) halted is limit = cc
lines_twelve (Err stop) halted is limit = cc

lines_three : (ending : Ending) (halted : Halt) → Err halted ≡ halting ending → halted ≡ halts.Stopped stops.Source → ending ≡ Err stops.Source
lines_three (Ok done) halted is source = cc
lines_three (Err stop) halted is source = cc

lines_never : (ending : Ending) (halted : Halt) → Err halted ≡ halting ending → (halted ≡ halts.NoDevice) ⊎ (halted ≡ halts.BadDirectory) → ⊥
lines_never (Ok done) halted is (inl none) = cc
lines_never (Ok done) halted is (inr none) = cc
lines_never (Err stop) halted is (inl none) = cc
lines_never (Err stop) halted is (inr none) = cc

not_sink : (ended : Halt) (due : ℕ) → status_at ended ≡ due → due ≢ 4 → ended ≡ halts.Stopped stops.Sink → ⊥
not_sink ended due is other sink = other (sym is ∙ ap status_at sink)

-- the halt behind a status that is none of a fault of the output
pub halted_at : (halted ended : Halt) (due : ℕ) (written written_now : Option (List ℕ)) → IsTold halted ended written written_now → status_at ended ≡ due → due ≢ 4 → ended ≡ halted
halted_at halted ended due written written_now told is other = (ended_as halted ended written written_now told (not_sink ended due is other)).0

pub took_halted : (tells : Type 0) (From : Held → Type 0) (old new : Outside) (halted ended : Halt) (left left_now written written_then written_now : Option (List ℕ)) → Serves tells From old new (Err halted) left left_now written written_then → IsTold halted ended written_then written_now
    → (bytes : List ℕ) × Gave left bytes left_now × Took (status_at ended) bytes left_now
took_halted tells From old new halted ended left left_now written written_then written_now (inl (halt, is, silent)) told =
    let same : halted ≡ halt = let e : Err halted ≡ Err halt = is in cc in (
      [],
      subst (λ (l : Option (List ℕ)). Gave left [] l) (sym silent.untaken) (Gave-nothing left),
      record {
        most = omega arith;
        whole = λ zero. absurd (never_zero ended zero);
        failed = λ three. omega arith;
        limit = λ twelve.
            let e : halted ≡ halts.Stopped stops.Limit = sym (halted_at halted ended 12 written_then written_now told twelve (λ x. omega (arith, x))) ∙ at_twelve ended twelve in
            absurd (subst IsEarly (sym same ∙ e) silent.early);
        nothing = λ two. refl;
      },
    )
took_halted tells From old new halted ended left left_now written written_then written_now (inr (ending, is, answers)) told = (
  answers.taken,
  answers.gave,
  record {
    most = answers.took.most;
    whole = λ zero. absurd (never_zero ended zero);
    failed = λ three.
        let e : halted ≡ halts.Stopped stops.Source = sym (halted_at halted ended 3 written_then written_now told three (λ x. omega (arith, x))) ∙ at_three ended three in
        answers.took.failed (lines_three ending halted is e);
    limit = λ twelve.
        let e : halted ≡ halts.Stopped stops.Limit = sym (halted_at halted ended 12 written_then written_now told twelve (λ x. omega (arith, x))) ∙ at_twelve ended twelve in
        answers.took.limit (lines_twelve ending halted is e);
    nothing = λ which. elim which [
      | inl two ↦ absurd (never_two ended two)
      | inr ten ↦
          let same : ended ≡ halted = halted_at halted ended 10 written_then written_now told ten (λ x. omega (arith, x)) in
          absurd (lines_never ending halted is (elim (at_ten ended ten) [ inl e ↦ inl (sym same ∙ e) | inr e ↦ inr (sym same ∙ e) ]))
    ];
  },
)

pub ok_ending : (ending : Ending) → Ok tt ≡ halting ending → ending ≡ Ok tt
ok_ending (Ok done) is = refl
ok_ending (Err stop) is = cc

pub took_done : (tells : Type 0) (From : Held → Type 0) (old new : Outside) (left left_now written written_then : Option (List ℕ)) → Serves tells From old new (Ok tt) left left_now written written_then → (bytes : List ℕ) × Gave left bytes left_now × Took 0 bytes left_now
took_done tells From old new left left_now written written_then (inl (halt, is, silent)) = cc
took_done tells From old new left left_now written written_then (inr (ending, is, answers)) =
    let took : TookUntil {T = Unit {0}} (Ok tt) answers.taken left_now = subst (λ (e : Ending). TookUntil e answers.taken left_now) (ok_ending ending is) answers.took in (
      answers.taken,
      answers.gave,
      record {
        most = took.most;
        whole = λ zero. took.whole;
        failed = λ three. absurd (omega (arith, three));
        limit = λ twelve. absurd (omega (arith, twelve));
        nothing = λ which. absurd (elim which [ inl two ↦ omega (arith, two) | inr ten ↦ omega (arith, ten) ]);
      },
    )

-- ---- a mount that found nothing

pub looked_none : (tells : Type 0) (image : Image) → (tells → image.cell ≡ None) → Looked {X = Unit {0}} tells image (Err halts.NoDevice)
looked_none tells image empty = record {
  bad = λ told bad. absurd (bad (subst (λ (cell : Option (List ℕ)). IsServedCell cell (length image.recorded)) (sym (empty told)) tt));
  empty = λ told none. inl refl;
  bad_only = λ told is. cc;
  empty_only = λ told is. empty told;
}

-- or stopped
full_root : (cell : Option (List ℕ)) (bytes : List ℕ) → cell ≡ Some bytes → cell ≡ None → ⊥
full_root cell bytes full none = let both : Some bytes ≡ None = sym full ∙ none in cc

pub looked_stop : (tells : Type 0) (image : Image) (head : ℕ) (stop : DeviceStop) → (tells → length image.recorded ≡ head) → IsMountStop tells image.cell head stop → Looked {X = Unit {0}} tells image (Err (halts.Stopped (stops.Device stop)))
looked_stop tells image head device.Platform pages is = record { bad = λ told bad. inr refl; empty = λ told none. inr refl; bad_only = λ told e. cc; empty_only = λ told e. cc }
looked_stop tells image head device.Memory pages is = record {
  bad = λ told bad.
      let (root, within, cell) = is told in
      absurd (bad (subst (λ (c : Option (List ℕ)). IsServedCell c (length image.recorded)) (sym cell) (root, subst (λ (n : ℕ). IsRootWithin n root) (sym (pages told)) within, refl)));
  empty = λ told none. absurd (full_root image.cell _ (is told).2 none);
  bad_only = λ told e. cc;
  empty_only = λ told e. cc;
}
looked_stop tells image head device.BadRoot pages is = record {
  bad = λ told bad. inl refl;
  empty = λ told none. absurd ((is told).full none);
  bad_only = λ told e served. bad_served image.cell head (subst (λ (n : ℕ). IsServedCell image.cell n) (pages told) served) (is told);
  empty_only = λ told e. cc;
}
looked_stop tells image head device.Tape pages is = absurd is
looked_stop tells image head device.Ledger pages is = absurd is
looked_stop tells image head (device.BadRecord addr) pages is = absurd is
