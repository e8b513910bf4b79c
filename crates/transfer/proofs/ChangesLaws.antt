-- How often a move syncs all pages, or replaces or clears a root record, and which number it tells.
use Rattle.std.proofs.Common.{◌≡◌, ◌≤◌, ◌+◌, ◌∙◌, ℕ, Bool, true, false, None, Some, Option, List, Result, Ok, Err, inl, inr, refl, sym, ap, subst, arith}
use Rattle.std.specs.Prelude.{IfOk, IsTrue}
use Rattle.sdbt_base.proofs.RiseLaws.{counted_few, counted_not, counted_once, counted_then}
use Rattle.platform.specs.Calls.{Looks}
use Rattle.sdbt_base.specs.Rises.{CountsOnce, MayRiseBy}
use Rattle.platform.specs.History.{CellStays, History}
use Rattle.platform.specs.Image.{Image}
use Rattle.platform.specs.declared.platforms.Platform.{Ghosts as PlatformGhosts}
use Rattle.platform.proofs.Moments.{During-now}
use Rattle.root_codec.specs.declared.root.Root.{Root}
use Rattle.page_store.specs.Kept.{IsRootOf}
use Rattle.device_session.specs.Sessions.{Session}
use Rattle.device_session.specs.declared.refusals.CommitReply.{CommitReply}
use Rattle.device_session.specs.declared.refusals.CommitReply.TheVariants as replies
use Rattle.session_calls.specs.Commits.{AnswersReply, most_stopped}
use Rattle.device_core.specs.Publishing.{most_format}
use Rattle.device_core.specs.declared.refusals.FormatRefusal.{FormatRefusal}
use Rattle.device_core.specs.declared.refusals.FormatRefusal.TheVariants as making
use Rattle.device_session.specs.Publishing.{most_commit}
use Rattle.session_calls.specs.declared.stops.DeviceStop.{DeviceStop}
use Rattle.session_calls.specs.Damage.{IsMounted}
use Rattle.session_calls.specs.declared.stops.DeviceStop.TheVariants as device
use Rattle.transfer.specs.Changes.{ChangesFew, clears_at, clears_of}
use Rattle.transfer.specs.Halts.{IsTold, TellsMoved, status_at}
use Rattle.transfer.specs.Reads.{IsWritten}
use Rattle.transfer.specs.Refusals.{AreAlike, AreUnlike, IsOn}
use Rattle.transfer.specs.Running.{HasNumber, IsNumberOf}
use Rattle.transfer.specs.declared.halts.Halt.{Halt}
use Rattle.transfer.specs.declared.halts.Halt.TheVariants as halts
use Rattle.transfer.specs.declared.halts.Moved.{Moved}
use Rattle.transfer.proofs.RefusalLaws.{not_empty, one_in}

-- ---- a count

pub changed_behind : (most old mid new : ℕ) → mid ≡ old → MayRiseBy most mid new → MayRiseBy most old new
changed_behind most old mid new same may = subst (λ (n : ℕ). MayRiseBy most n new) same may

pub changed_before : (most old mid new : ℕ) → new ≡ mid → MayRiseBy most old mid → MayRiseBy most old new
changed_before most old mid new same may = subst (λ (n : ℕ). MayRiseBy most old n) (sym same) may

-- a commit syncs and replaces the root record twice at most, whatever it answers
pub replied_twice : (reply : CommitReply) (old new : ℕ) → MayRiseBy (most_commit (Ok reply)) old new → MayRiseBy 2 old new
replied_twice (replies.Committed number) old new may = may
replied_twice (replies.Full needed free) old new may = counted_few 0 2 old new (omega arith) may

pub stopped_twice : (stop : DeviceStop) (old new : ℕ) → MayRiseBy (most_stopped stop) old new → MayRiseBy 2 old new
stopped_twice device.Platform old new may = may
stopped_twice device.Tape old new may = counted_few 0 2 old new (omega arith) may
stopped_twice device.Ledger old new may = counted_few 1 2 old new (omega arith) may
stopped_twice device.BadRoot old new may = counted_few 0 2 old new (omega arith) may
stopped_twice (device.BadRecord addr) old new may = counted_few 0 2 old new (omega arith) may
stopped_twice device.Memory old new may = counted_few 0 2 old new (omega arith) may

-- and so does a format
pub made_twice : (result : Result (Unit {0}) FormatRefusal) (old new : ℕ) → MayRiseBy (most_format result) old new → MayRiseBy 2 old new
made_twice (Ok done) old new may = may
made_twice (Err making.NotEmpty) old new may = counted_few 0 2 old new (omega arith) may
made_twice (Err making.Full) old new may = counted_few 0 2 old new (omega arith) may
made_twice (Err making.Memory) old new may = counted_few 0 2 old new (omega arith) may
made_twice (Err making.TapeFault) old new may = counted_few 0 2 old new (omega arith) may
made_twice (Err making.LedgerFault) old new may = counted_few 1 2 old new (omega arith) may
made_twice (Err making.PlatformFault) old new may = may

-- ---- the number

-- of a commit that was answered
pub committed_number : {S R W : Type 0} (P : PlatformGhosts S) (platform platform_now : S) (tape tape_now : R) (ledger ledger_now : W) (session now : Session) (reply : CommitReply) (result : Result ℕ Halt)
    → AnswersReply P platform platform_now tape tape_now ledger ledger_now session now reply → IsNumberOf reply result → IsMounted (P.history platform_now).present now → IfOk result (HasNumber (P.history platform_now).present)
committed_number P platform platform_now tape tape_now ledger ledger_now session now (replies.Committed number) result answers is mounted =
    subst (λ (r : Result ℕ Halt). IfOk r (HasNumber (P.history platform_now).present)) (sym is) (now.root, mounted.cell, answers.is_number)
committed_number P platform platform_now tape tape_now ledger ledger_now session now (replies.Full needed free) result answers is mounted =
    subst (λ (r : Result ℕ Halt). IfOk r (HasNumber (P.history platform_now).present)) (sym is) tt

-- of a session, behind calls that leave the cell
pub still_number : (old new : History) (session : Session) (number : ℕ) → CellStays old new → IsMounted old.present session → number ≡ session.root.commit → HasNumber new.present number
still_number old new session number stays mounted is = (session.root, During-now old new (λ image. image.cell ≡ old.present.cell) stays ∙ mounted.cell, is)

pub with_number : (tells Move : Type 0) (Number : ℕ → Type 0) (result : Result ℕ Halt) → IfOk result (λ number. Move) → (tells → IfOk result Number) → IfOk result (λ number. Move × (tells → Number number))
with_number tells Move Number (Ok number) moved is = (moved, is)
with_number tells Move Number (Err halt) moved is = tt

-- ---- a part of a move

-- more may be cleared
pub changes_more : {S R : Type 0} (P : PlatformGhosts S) (Q : PlatformGhosts R) (few most : ℕ) (first first_now : S) (second second_now : R) → few ≤ most → ChangesFew P Q few first first_now second second_now → ChangesFew P Q most first first_now second second_now
changes_more P Q few most first first_now second second_now less c = record {
  from = λ told. counted_few few most (P.changes first) (P.changes first_now) less (c.from told);
  new = c.new;
  found = c.found;
  written = c.written;
  unlike = c.unlike;
}

-- the second cell was looked at, and a device made there or not
pub changes_unopened : {S R : Type 0} (P : PlatformGhosts S) (Q : PlatformGhosts R) (first : S) (second second_now : R)
    → (Q.tells → MayRiseBy 2 (Q.changes second) (Q.changes second_now) × (((Q.history second).present.cell ≡ None → ⊥) → Q.changes second_now ≡ Q.changes second)) → ChangesFew P Q 0 first first second second_now
changes_unopened P Q first second second_now opens = record {
  from = λ told. counted_not 0 (P.changes first) (P.changes first) refl;
  new = λ told. counted_few 2 4 (Q.changes second) (Q.changes second_now) (omega arith) (opens told).0;
  found = λ told full. counted_not 2 (Q.changes second) (Q.changes second_now) ((opens told).1 full);
  written = λ told root at written. (opens told).1 (λ none. not_empty (Q.history second).present root at none);
  unlike = λ from_told to_told apart. (opens to_told).1 (λ none. not_empty (Q.history second).present apart.1 apart.3 none);
}

-- a session was opened on the second device, and it was filled
pub changes_filled : {S R : Type 0} (P : PlatformGhosts S) (Q : PlatformGhosts R) (first first_now : S) (second mid second_now : R) (source target : Session) (is_new : Bool) → target.mapped ≡ target.root.mapped → (P.tells → IsRootOf (P.history first).present source.root)
    → (Q.tells → IsOn (Q.history second).present source.root.blocks source.root.order is_new target)
    → (Q.tells → MayRiseBy 2 (Q.changes second) (Q.changes mid) × (((Q.history second).present.cell ≡ None → ⊥) → Q.changes mid ≡ Q.changes second))
    → (P.tells → P.changes first_now ≡ P.changes first) → (Q.tells → MayRiseBy 2 (Q.changes mid) (Q.changes second_now)) → (Q.tells → (IsTrue is_new → ⊥) × IsWritten target → Q.changes second_now ≡ Q.changes mid)
    → ((AreAlike source.root target.root → ⊥) → (first_now ≡ first) × (second_now ≡ mid)) → ChangesFew P Q 0 first first_now second second_now
changes_filled P Q first first_now second mid second_now source target true idle at on opens same changes kept unlike = record {
  from = λ told. counted_not 0 (P.changes first) (P.changes first_now) (same told);
  new = λ told. counted_then 2 2 4 (Q.changes second) (Q.changes mid) (Q.changes second_now) refl (opens told).0 (changes told);
  found = λ told full. absurd (full (on told).0);
  written = λ told root is written. absurd (not_empty (Q.history second).present root is (on told).0);
  unlike = λ from_told to_told apart. absurd (not_empty (Q.history second).present apart.1 apart.3 (on to_told).0);
}
changes_filled P Q first first_now second mid second_now source target false idle at on opens same changes kept unlike = record {
  from = λ told. counted_not 0 (P.changes first) (P.changes first_now) (same told);
  new = λ told. counted_then 2 2 4 (Q.changes second) (Q.changes mid) (Q.changes second_now) refl (opens told).0 (changes told);
  found = λ told full. changed_behind 2 (Q.changes second) (Q.changes mid) (Q.changes second_now) ((opens told).1 full) (changes told);
  written = λ told root is written.
      let one : target.root ≡ root = one_in (Q.history second).present target.root root (on told) is in
      let there = subst (λ (r : Root). (r.commit ≡ 0) × (r.mapped ≡ 0) → ⊥) (sym one) written in
      let opened = (opens told).1 (λ none. not_empty (Q.history second).present root is none) in
      kept told (λ never. absurd cc, λ fresh. there (fresh.0, sym idle ∙ fresh.1)) ∙ opened;
  unlike = λ from_told to_told apart.
      let one : source.root ≡ apart.0 = one_in (P.history first).present source.root apart.0 (at from_told) apart.2 in
      let other : target.root ≡ apart.1 = one_in (Q.history second).present target.root apart.1 (on to_told) apart.3 in
      let both = unlike (λ alike. apart.4 (subst (λ (r : Root). AreAlike r apart.1) one (subst (AreAlike source.root) other alike))) in
      let opened = (opens to_told).1 (λ none. not_empty (Q.history second).present target.root (on to_told) none) in
      let behind : Q.changes second_now ≡ Q.changes mid = ap Q.changes both.1 in
      behind ∙ opened;
}

-- and the first root record was cleared, or that failed
pub changes_cleared : {S R T E : Type 0} (P : PlatformGhosts S) (Q : PlatformGhosts R) (result : Result T E) (first mid first_now : S) (second second_now : R) → (P.tells → CountsOnce result (P.changes mid) (P.changes first_now)) → ChangesFew P Q 0 first mid second second_now
    → ChangesFew P Q 1 first first_now second second_now
changes_cleared P Q result first mid first_now second second_now once c = record {
  from = λ told. counted_then 0 1 1 (P.changes first) (P.changes mid) (P.changes first_now) refl (c.from told) (counted_once result (P.changes mid) (P.changes first_now) (once told));
  new = c.new;
  found = c.found;
  written = c.written;
  unlike = c.unlike;
}

-- behind a look at the first cell
pub changes_looked : {S R : Type 0} (P : PlatformGhosts S) (Q : PlatformGhosts R) (clears : ℕ) (first mid first_now : S) (second second_now : R) → Looks P first mid → ChangesFew P Q clears mid first_now second second_now → ChangesFew P Q clears first first_now second second_now
changes_looked P Q clears first mid first_now second second_now looks c = record {
  from = λ told. changed_behind clears (P.changes first) (P.changes mid) (P.changes first_now) (looks.changes told) (c.from told);
  new = c.new;
  found = c.found;
  written = c.written;
  unlike = λ from_told to_told apart. c.unlike from_told to_told (subst (λ (i : Image). AreUnlike i (Q.history second).present) (sym (looks.image from_told)) apart);
}

-- that came to nothing
pub changes_stopped : {S R : Type 0} (P : PlatformGhosts S) (Q : PlatformGhosts R) (clears : ℕ) (first first_now : S) (second : R) → Looks P first first_now → ChangesFew P Q clears first first_now second second
changes_stopped P Q clears first first_now second looks = record {
  from = λ told. counted_not clears (P.changes first) (P.changes first_now) (looks.changes told);
  new = λ told. counted_not 4 (Q.changes second) (Q.changes second) refl;
  found = λ told full. counted_not 2 (Q.changes second) (Q.changes second) refl;
  written = λ told root is written. refl;
  unlike = λ from_told to_told apart. refl;
}

-- ---- how it ended

clears_most : (halt : Halt) → clears_of {X = Moved} (Err halt) ≤ 1
clears_most halts.NoDevice = omega arith
clears_most halts.NotEmpty = omega arith
clears_most halts.Full = omega arith
clears_most halts.Output = omega arith
clears_most (halts.From device.Platform) = omega arith
clears_most (halts.From device.Tape) = omega arith
clears_most (halts.From device.Ledger) = omega arith
clears_most (halts.From device.BadRoot) = omega arith
clears_most (halts.From (device.BadRecord addr)) = omega arith
clears_most (halts.From device.Memory) = omega arith
clears_most (halts.To stop) = omega arith

-- a halt whose last line was put, or wasn't
pub told_clears : (halted ended : Halt) (written written_now : Option (List ℕ)) → IsTold halted ended written written_now → clears_of {X = Moved} (Err halted) ≤ clears_of {X = Unit {0}} (Err ended)
told_clears halted ended written written_now (inl (same, got)) = subst (λ (h : Halt). clears_of {X = Moved} (Err h) ≤ clears_of {X = Unit {0}} (Err ended)) same (as_well ended)
  where
    as_well : (halt : Halt) → clears_of {X = Moved} (Err halt) ≤ clears_of {X = Unit {0}} (Err halt)
    as_well halts.NoDevice = omega arith
    as_well halts.NotEmpty = omega arith
    as_well halts.Full = omega arith
    as_well halts.Output = omega arith
    as_well (halts.From device.Platform) = omega arith
    as_well (halts.From device.Tape) = omega arith
    as_well (halts.From device.Ledger) = omega arith
    as_well (halts.From device.BadRoot) = omega arith
    as_well (halts.From (device.BadRecord addr)) = omega arith
    as_well (halts.From device.Memory) = omega arith
    as_well (halts.To stop) = omega arith
told_clears halted ended written written_now (inr (is, has, got)) = subst (λ (h : Halt). clears_of {X = Moved} (Err halted) ≤ clears_of {X = Unit {0}} (Err h)) (sym is) (clears_most halted)

-- a line that says what was moved
pub put_clears : (result : Result (Unit {0}) Halt) (before now : ℕ) → TellsMoved result before now → 1 ≤ clears_of result
put_clears (Ok done) before now same = omega arith
put_clears (Err halt) before now (is, rose) = subst (λ (h : Halt). 1 ≤ clears_of {X = Unit {0}} (Err h)) (sym is) (omega arith)

-- and the exit status
pub clears_status : (halt : Halt) → clears_of {X = Unit {0}} (Err halt) ≡ clears_at (status_at halt)
clears_status halts.NoDevice = refl
clears_status halts.NotEmpty = refl
clears_status halts.Full = refl
clears_status halts.Output = refl
clears_status (halts.From device.Platform) = refl
clears_status (halts.From device.Tape) = refl
clears_status (halts.From device.Ledger) = refl
clears_status (halts.From device.BadRoot) = refl
clears_status (halts.From (device.BadRecord addr)) = refl
clears_status (halts.From device.Memory) = refl
clears_status (halts.To device.Platform) = refl
clears_status (halts.To device.Tape) = refl
clears_status (halts.To device.Ledger) = refl
clears_status (halts.To device.BadRoot) = refl
clears_status (halts.To (device.BadRecord addr)) = refl
clears_status (halts.To device.Memory) = refl
