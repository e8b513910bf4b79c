-- How parts of a run over a session compose, and which calls are such parts.
use Rattle.std.proofs.Common.{◌≡◌, ◌++◌, ℕ, List, [], ◌∷◌, Option, None, Some, Ok, Err, inl, inr, refl, subst, ◌∙◌, arith}
use Rattle.std.specs.Prelude.{IfSome, IsOk}
use Rattle.sdbt_base.specs.Arrays.{Device, Session as OpenSession, State, closed, mounted}
use Rattle.sdbt_base.specs.declared.sinks.Sink.{Ghosts as SinkGhosts}
use Rattle.sdbt_base.specs.declared.tapes.Tape.{Ghosts as TapeGhosts}
use Rattle.platform.specs.declared.platforms.Platform.{Ghosts as PlatformGhosts}
use Rattle.platform.specs.History.{History, CellStays, During}
use Rattle.platform.proofs.Moments.{During-now, LeavesOnly-now}
use Rattle.page_store.specs.Stands.{Stands}
use Rattle.page_store.proofs.StandsLaws.{one_device, stands_during}
use Rattle.device_terms.specs.Served.{IsServedImage}
use Rattle.device_course.specs.Course.{Made}
use Rattle.device_course.specs.Marks.{Leaves}
use Rattle.device_course.specs.States.{Outside, IsAt, IsListed, around}
use Rattle.device_course.proofs.KeysLaws.{on_start, on_done, on_then}
use Rattle.device_course.proofs.MadeLaws.{made_start, made_none, made_then, made_closed}
use Rattle.device_session.specs.Open.{blocks_of}
use Rattle.device_session.specs.Sessions.{Session}
use Rattle.session_calls.specs.Along.{Along, drawn_by}
use Rattle.session_calls.specs.Commits.{CommitGoes, CommitLeads}
use Rattle.session_calls.specs.declared.committing.Committed.{Committed}
use Rattle.session_calls.specs.declared.stops.DeviceStop.{DeviceStop}
use Rattle.session_calls.proofs.CommitLaws.{reply_made, stop_made}
use Rattle.session_calls.proofs.StateLaws.{with_array}
use Rattle.session_calls.specs.Carrying.{Carries, IsReady}

-- nothing happened
pub carries_start : (tells : Type 0) (here : Outside) (session : Session) → IsReady tells here session → Carries tells here here session (Some session) (Unit {0})
carries_start tells here session ready = record {
  ready = ready;
  blocks = refl;
  capacity = refl;
  rises = omega arith;
  keeps = on_start tells here.drawn here.written (Some session) here.history (Unit {0});
  made = λ told entry at. ([], entry, made_start here.history (Some session) entry at);
}

-- the device stays while the cell does
pub stays_at : (old new : History) (after : Option Session) (entry next : State) → CellStays old new → Stands old.present entry.device → IsAt new.present after next → Made old new after entry [] next
stays_at old new after entry next stays stands at =
    let during : During old new (Leaves entry.device) = stands_during old new entry.device stands stays in
    let same : next.device ≡ entry.device = one_device new.present next.device entry.device at.there.device (LeavesOnly-now new (λ left. Stands left entry.device) (During-now old new (Leaves entry.device) during)) in
    made_none old new after entry next stands during same at

-- calls for blocks
pub carries_along : {S R W : Type 0} (P : PlatformGhosts S) (T : TapeGhosts R) (L : SinkGhosts W) (updates most : ℕ) (platform platform_now : S) (tape tape_now : R) (ledger : W) (session now : Session) → IsReady P.tells (around P T L platform tape ledger) session
    → Along P updates most platform platform_now (drawn_by T tape) (drawn_by T tape_now) session now → Carries P.tells (around P T L platform tape ledger) (around P T L platform_now tape_now ledger) session (Some now) (Unit {0})
carries_along P T L updates most platform platform_now tape tape_now ledger session now ready along = record {
  ready = record { is_open = along.is_open; mounted = λ told. along.mounted told (ready.mounted told) };
  blocks = along.blocks;
  capacity = along.capacity;
  rises = along.rises;
  keeps = along.keeps (L.written ledger);
  made = λ told entry at.
      let next = along.through told entry at in
      ([], next.0, stays_at (P.history platform) (P.history platform_now) (Some now) entry next.0 (along.cell told) at.there.device next.1);
}

-- whether the run goes on is known
pub carries_going : (tells : Type 0) (old new : Outside) (session : Session) (after : Option Session) (Was Going : Type 0) → (Going → Was) → Carries tells old new session after Was → Carries tells old new session after Going
carries_going tells old new session after Was Going was one = record {
  ready = one.ready;
  blocks = one.blocks;
  capacity = one.capacity;
  rises = one.rises;
  keeps = on_done tells old.drawn new.drawn old.written new.written (Some session) old.history new.history Was Going (λ keys. IfSome after (λ now. IsListed (Some now) new.history.present keys)) (λ keys. IfSome after (λ now. IsListed (Some now) new.history.present keys)) one.keeps was (λ keys done. done);
  made = one.made;
}

-- the session is given up
pub carries_end : (tells : Type 0) (old new : Outside) (session : Session) (after : Option Session) (Was Going : Type 0) → (Going → Was) → Carries tells old new session after Was → Carries tells old new session None Going
carries_end tells old new session after Was Going was one = record {
  ready = tt;
  blocks = tt;
  capacity = one.capacity;
  rises = one.rises;
  keeps = on_done tells old.drawn new.drawn old.written new.written (Some session) old.history new.history Was Going (λ keys. IfSome after (λ now. IsListed (Some now) new.history.present keys)) (λ keys. Unit {0}) one.keeps was (λ keys done. tt);
  made = λ told entry at.
      let m = one.made told entry at in
      (m.0, closed m.1.device, made_closed old.history new.history after entry m.1 m.0 m.2);
}

same_blocks : (after : Option Session) (some other : ℕ) → IfSome after (λ now. blocks_of now ≡ some) → some ≡ other → IfSome after (λ now. blocks_of now ≡ other)
same_blocks after some other is same = subst (λ (n : ℕ). IfSome after (λ now. blocks_of now ≡ n)) same is

-- one part after another
pub carries_then : (tells : Type 0) (first second third : Outside) (session between : Session) (after : Option Session) (Was Going : Type 0) → Was → Carries tells first second session (Some between) Was → Carries tells second third between after Going → Carries tells first third session after Going
carries_then tells first second third session between after Was Going was one two = record {
  ready = two.ready;
  blocks = same_blocks after (blocks_of between) (blocks_of session) two.blocks one.blocks;
  capacity = two.capacity ∙ one.capacity;
  rises = omega (arith, one.rises, two.rises);
  keeps = on_then tells first.drawn second.drawn third.drawn first.written second.written third.written (Some session) (Some between) first.history second.history third.history Was Going (λ keys. IfSome after (λ now. IsListed (Some now) third.history.present keys)) was one.keeps two.keeps
      (λ told entry at.
      let m = one.made told entry at in
      (m.1, m.2.exits));
  made = λ told entry at.
      let a = one.made told entry at in
      let b = two.made told a.1 a.2.exits in
      (a.0 ++ b.0, b.1, made_then first.history second.history third.history (Some between) after entry a.1 b.1 a.0 b.0 a.2 b.2);
}

-- ---- a commit

-- that was answered
pub carries_committed : {S R W : Type 0} (P : PlatformGhosts S) (T : TapeGhosts R) (L : SinkGhosts W) (platform platform_now : S) (tape tape_now : R) (ledger ledger_now : W) (session : Session) (done : Committed)
    → CommitGoes P T L platform platform_now tape tape_now ledger ledger_now session (Ok done)
    → (P.tells → (device : Device) (array : OpenSession) → IsAt (P.history platform).present (Some session) (mounted device array) → CommitLeads (P.history platform) (P.history platform_now) device array (Ok done))
    → Carries P.tells (around P T L platform tape ledger) (around P T L platform_now tape_now ledger_now) session (Some done.session) (Unit {0})
carries_committed P T L platform platform_now tape tape_now ledger ledger_now session done goes leads = record {
  ready = record { is_open = goes.back.is_open; mounted = goes.back.mounted };
  blocks = goes.back.blocks;
  capacity = goes.capacity;
  rises = goes.rises;
  keeps = on_done P.tells (T.drawn tape) (T.drawn tape_now) (L.written ledger) (L.written ledger_now) (Some session) (P.history platform) (P.history platform_now) (IsOk {T = Committed} {E = DeviceStop} (Ok done)) (Unit {0})
      (λ keys. IsListed (Some done.session) (P.history platform_now).present keys) (λ keys. IsListed (Some done.session) (P.history platform_now).present keys) goes.keeps (λ going. refl) (λ keys h. h);
  made = λ told entry at. with_array (P.history platform).present session entry at
      (λ state. (marks : List (Option Device)) × (exit : State) × Made (P.history platform) (P.history platform_now) (Some done.session) state marks exit)
      (λ d array there.
      let r = reply_made (P.history platform) (P.history platform_now) session done.session d array done.reply there (leads told d array there) in
      (r.0.device ∷ [], r.0, r.1));
}

-- and one that stopped
pub carries_stopped : {S R W : Type 0} (P : PlatformGhosts S) (T : TapeGhosts R) (L : SinkGhosts W) (platform platform_now : S) (tape tape_now : R) (ledger ledger_now : W) (session : Session) (stop : DeviceStop)
    → CommitGoes P T L platform platform_now tape tape_now ledger ledger_now session (Err stop)
    → (P.tells → (device : Device) (array : OpenSession) → IsAt (P.history platform).present (Some session) (mounted device array) → CommitLeads (P.history platform) (P.history platform_now) device array (Err stop))
    → Carries P.tells (around P T L platform tape ledger) (around P T L platform_now tape_now ledger_now) session None ⊥
carries_stopped P T L platform platform_now tape tape_now ledger ledger_now session stop goes leads = record {
  ready = tt;
  blocks = tt;
  capacity = goes.capacity;
  rises = goes.rises;
  keeps = on_done P.tells (T.drawn tape) (T.drawn tape_now) (L.written ledger) (L.written ledger_now) (Some session) (P.history platform) (P.history platform_now) (IsOk {T = Committed} {E = DeviceStop} (Err stop)) ⊥
      (λ keys. Unit {0}) (λ keys. Unit {0}) goes.keeps (λ never. absurd never) (λ keys h. tt);
  made = λ told entry at. with_array (P.history platform).present session entry at
      (λ state. (marks : List (Option Device)) × (exit : State) × Made (P.history platform) (P.history platform_now) None state marks exit)
      (λ d array there.
      let served : IsServedImage (P.history platform_now).present = During-now (P.history platform) (P.history platform_now) IsServedImage (goes.keeps.serves told there.served) in
      elim (stop_made (P.history platform) (P.history platform_now) session d array stop there served (leads told d array there)) as (λ e. (marks : List (Option Device)) × (exit : State) × Made (P.history platform) (P.history platform_now) None (mounted d array) marks exit) [
        | inl none ↦ ([], closed (Some d), none)
        | inr one ↦ (Some (Rattle.sdbt_base.specs.Arrays.committed d array) ∷ [], closed (Some (Rattle.sdbt_base.specs.Arrays.committed d array)), one)
      ]);
}
