-- What a written block says, by what the session's write says.
use Rattle.std.proofs.Common.{◌≡◌, ◌+◌, ◌<◌, ◌≤◌, ℕ, List, Some, Result, Ok, Err, refl, sym, subst, ap, arith}
use Rattle.std.specs.Prelude.{◌≢◌, ◌⊎◌, true}
use Rattle.sdbt_base.specs.Arrays.{Device, Session as OpenSession, State, written, mounted}
use Rattle.sdbt_base.specs.declared.tapes.Tape.{Ghosts as TapeGhosts}
use Rattle.platform.specs.declared.platforms.Platform.{Ghosts as PlatformGhosts}
use Rattle.platform.specs.Image.{Image}
use Rattle.root_codec.specs.declared.root.Root.{Root}
use Rattle.page_store.specs.Keeping.{KeepsKeys}
use Rattle.btree_twigs.specs.Stubs.{Stub}
use Rattle.device_terms.specs.Served.{IsServedImage}
use Rattle.device_course.specs.States.{IsAt}
use Rattle.device_course.proofs.KeysLaws.{on_update}
use Rattle.device_session.specs.Causes.{IsWriteCause}
use Rattle.device_session.specs.Changes.{WriteAdds, WriteGrows, WritesArray}
use Rattle.device_session.specs.Damage.{HasRoom, IsFound, IsPastLimit}
use Rattle.device_session.specs.Going.{GoesOn}
use Rattle.device_session.specs.Keys.{HoldsListed}
use Rattle.device_session.specs.Open.{is_touched, needed_by}
use Rattle.device_session.specs.Sessions.{Session}
use Rattle.device_session.specs.declared.refusals.WriteRefusal.{WriteRefusal}
use Rattle.device_session.specs.declared.refusals.WriteRefusal.TheVariants as write
use Rattle.session_calls.specs.Along.{Along, drawn_by}
use Rattle.sdbt_base.specs.Counts.{Counts}
use Rattle.session_calls.specs.Blame.{HasCause, IsOfCall}
use Rattle.session_calls.specs.Damage.{IsMiscountedAt, IsWrongNode, WritesAny}
use Rattle.session_calls.specs.Goes.{AddsBlock, IsWriteStop, WritesBlock}
use Rattle.session_calls.specs.declared.stops.DeviceStop.{DeviceStop}
use Rattle.session_calls.specs.declared.stops.DeviceStop.TheVariants as stops
use Rattle.session_calls.proofs.CellLaws.{mounted_still}
use Rattle.session_calls.proofs.StateLaws.{at_array, with_array}

-- where the device has the block and a page is free, it is refused for another reason
pub other_refusal : (refusal : WriteRefusal) (block blocks head capacity : ℕ) (before now : Counts) → IsWriteCause block blocks head capacity before now (Err refusal) → block < blocks → head ≢ capacity
    → (refusal ≢ write.Range) × (refusal ≢ write.Full)
other_refusal write.Range block blocks head capacity before now cause within free = absurd (omega (arith, cause.0, within))
other_refusal write.Full block blocks head capacity before now cause within free = absurd (free cause.1)
other_refusal write.Memory block blocks head capacity before now cause within free = (λ e. cc, λ e. cc)
other_refusal (write.BadRecord addr) block blocks head capacity before now cause within free = (λ e. cc, λ e. cc)
other_refusal write.PlatformFault block blocks head capacity before now cause within free = (λ e. cc, λ e. cc)
other_refusal write.TapeFault block blocks head capacity before now cause within free = (λ e. cc, λ e. cc)

-- whose count rose, and that no other did
pub write_blamed : (refusal : WriteRefusal) (stop : DeviceStop) (block blocks head capacity : ℕ) (before now : Counts) → IsWriteStop refusal stop
    → IsWriteCause block blocks head capacity before now (Err refusal) → HasCause before now stop
write_blamed write.Range stop block blocks head capacity before now is cause = absurd is
write_blamed write.Full stop block blocks head capacity before now is cause = absurd is
write_blamed write.Memory stop block blocks head capacity before now is cause = subst (λ (s : DeviceStop). HasCause before now s) (sym is) cause.2
write_blamed (write.BadRecord addr) stop block blocks head capacity before now is cause = subst (λ (s : DeviceStop). HasCause before now s) (sym is) cause.2
write_blamed write.PlatformFault stop block blocks head capacity before now is cause = subst (λ (s : DeviceStop). HasCause before now s) (sym is) cause.2
write_blamed write.TapeFault stop block blocks head capacity before now is cause = subst (λ (s : DeviceStop). HasCause before now s) (sym is) cause.2

pub write_of_call : (refusal : WriteRefusal) (stop : DeviceStop) → IsWriteStop refusal stop → IsOfCall stop
write_of_call write.Range stop is = absurd is
write_of_call write.Full stop is = absurd is
write_of_call write.Memory stop is = subst IsOfCall (sym is) tt
write_of_call (write.BadRecord addr) stop is = subst IsOfCall (sym is) tt
write_of_call write.PlatformFault stop is = subst IsOfCall (sym is) tt
write_of_call write.TapeFault stop is = subst IsOfCall (sym is) tt

-- how many pages it added
pub write_added : {S R : Type 0} (P : PlatformGhosts S) (T : TapeGhosts R) (platform platform_now : S) (tape tape_now : R) (places : List Stub) (block : ℕ) (refusal : WriteRefusal) (stop : DeviceStop) → IsWriteStop refusal stop
    → WriteAdds P T platform platform_now tape tape_now places block (Err refusal) → AddsBlock P T platform platform_now tape tape_now (Err stop)
write_added P T platform platform_now tape tape_now places block write.Range stop is adds = absurd is
write_added P T platform platform_now tape tape_now places block write.Full stop is adds = absurd is
write_added P T platform platform_now tape tape_now places block write.Memory stop is adds = subst (λ (s : DeviceStop). AddsBlock P T platform platform_now tape tape_now (Err s)) (sym is) adds
write_added P T platform platform_now tape tape_now places block (write.BadRecord addr) stop is adds = subst (λ (s : DeviceStop). AddsBlock P T platform platform_now tape tape_now (Err s)) (sym is) adds
write_added P T platform platform_now tape tape_now places block write.PlatformFault stop is adds = subst (λ (s : DeviceStop). AddsBlock P T platform platform_now tape tape_now (Err s)) (sym is) tt
write_added P T platform platform_now tape tape_now places block write.TapeFault stop is adds = subst (λ (s : DeviceStop). AddsBlock P T platform platform_now tape tape_now (Err s)) (sym is) adds

-- the array is as it was
pub write_refused : (image : Image) (now : Session) (device : Device) (array : OpenSession) (block : ℕ) (bytes content : List ℕ) (refusal : WriteRefusal) (stop : DeviceStop) → IsWriteStop refusal stop
    → WritesArray now image device array.contents block content (Err refusal) → is_touched now ≡ array.touched → IsServedImage image → WritesBlock image now device array block bytes (Err stop)
write_refused image now device array block bytes content write.Range stop is holds touched served = absurd is
write_refused image now device array block bytes content write.Full stop is holds touched served = absurd is
write_refused image now device array block bytes content (write.BadRecord addr) stop is holds touched served = absurd holds
write_refused image now device array block bytes content write.Memory stop is holds touched served =
    subst (λ (s : DeviceStop). WritesBlock image now device array block bytes (Err s)) (sym is) (at_array image now device array holds touched served)
write_refused image now device array block bytes content write.PlatformFault stop is holds touched served =
    subst (λ (s : DeviceStop). WritesBlock image now device array block bytes (Err s)) (sym is) (at_array image now device array holds touched served)
write_refused image now device array block bytes content write.TapeFault stop is holds touched served =
    subst (λ (s : DeviceStop). WritesBlock image now device array block bytes (Err s)) (sym is) (at_array image now device array holds touched served)

-- on any pages a node's place that doesn't fit is named, or the root node of a tree that is miscounted; no key was given only where a write would have been done
pub write_any : (Known : Type 0) (image after : Image) (session : Session) (block : ℕ) (refusal : WriteRefusal) (stop : DeviceStop) → IsWriteStop refusal stop
    → ((addr : ℕ) → refusal ≡ write.BadRecord addr → Known → IsWrongNode after addr ⊎ (IsMiscountedAt after addr × IsPastLimit image.readable session block addr))
    → (refusal ≡ write.TapeFault → Known → IsFound true image.readable session block ⊎ HasRoom session) → WritesAny Known image after session block (Err stop)
write_any Known image after session block write.Range stop is named keyless = absurd is
write_any Known image after session block write.Full stop is named keyless = absurd is
write_any Known image after session block write.Memory stop is named keyless = subst (λ (s : DeviceStop). WritesAny Known image after session block (Err s)) (sym is) tt
write_any Known image after session block (write.BadRecord addr) stop is named keyless =
    subst (λ (s : DeviceStop). WritesAny Known image after session block (Err s)) (sym is) (λ known. named addr refl known)
write_any Known image after session block write.PlatformFault stop is named keyless = subst (λ (s : DeviceStop). WritesAny Known image after session block (Err s)) (sym is) tt
write_any Known image after session block write.TapeFault stop is named keyless = subst (λ (s : DeviceStop). WritesAny Known image after session block (Err s)) (sym is) (λ known. keyless refl known)

-- a write that met damage left the image
pub write_left : {S R : Type 0} (P : PlatformGhosts S) (T : TapeGhosts R) (platform platform_now : S) (tape tape_now : R) (places : List Stub) (block addr : ℕ) (refusal : WriteRefusal) → refusal ≡ write.BadRecord addr
    → WriteAdds P T platform platform_now tape tape_now places block (Err refusal) → P.tells → (P.history platform_now).present ≡ (P.history platform).present
write_left P T platform platform_now tape tape_now places block addr refusal is adds told =
    let nothing : WriteAdds P T platform platform_now tape tape_now places block (Err (write.BadRecord addr)) =
    subst (λ (r : WriteRefusal). WriteAdds P T platform platform_now tape tape_now places block (Err r)) is adds in
    nothing.image told

-- the state that a write leads to
pub write_leads : (image : Image) (now : Session) (device : Device) (array : OpenSession) (block : ℕ) (bytes : List ℕ) (result : Result (Unit {0}) DeviceStop) → WritesBlock image now device array block bytes result
    → (next : State) × IsAt image (Some now) next
write_leads image now device array block bytes (Ok done) led = (mounted device (written array block bytes), led)
write_leads image now device array block bytes (Err stops.Memory) led = (mounted device array, led)
write_leads image now device array block bytes (Err stops.Platform) led = (mounted device array, led)
write_leads image now device array block bytes (Err stops.Tape) led = (mounted device array, led)
write_leads image now device array block bytes (Err stops.Ledger) led = absurd led
write_leads image now device array block bytes (Err stops.BadRoot) led = absurd led
write_leads image now device array block bytes (Err (stops.BadRecord addr)) led = absurd led

-- a write goes on, whatever its answer
pub write_along : {S R : Type 0} (P : PlatformGhosts S) (T : TapeGhosts R) (most : ℕ) (platform platform_now : S) (tape tape_now : R) (session now : Session) (block : ℕ) (bytes : List ℕ) (result : Result (Unit {0}) DeviceStop)
    → GoesOn P.tells (P.history platform).present (P.history platform_now).present (P.head platform_now) session now → needed_by now ≤ needed_by session + 41
    → KeepsKeys P.tells (T.drawn tape) (T.drawn tape_now) (P.history platform) (P.history platform_now) (HoldsListed session (P.history platform).present) (HoldsListed now (P.history platform_now).present)
    → WriteGrows P T most platform platform_now tape tape_now
    → (P.tells → (device : Device) (array : OpenSession) → IsAt (P.history platform).present (Some session) (mounted device array) → WritesBlock (P.history platform_now).present now device array block bytes result)
    → Along P 1 most platform platform_now (drawn_by T tape) (drawn_by T tape_now) session now
write_along P T most platform platform_now tape tape_now session now block bytes result goes_on needs keeps grows leads = record {
  is_open = goes_on.is_open;
  mounted = λ told mounted. mounted_still (Some session) session now (P.history platform) (P.history platform_now) refl mounted goes_on.root (grows.time told) (goes_on.follows told);
  blocks = ap (λ (r : Root). r.blocks) goes_on.root;
  forgets = goes_on.forgets;
  cell = grows.time;
  capacity = grows.by_one.capacity;
  rises = grows.by_one.rises;
  adds = grows.by_one.by_one;
  needs = omega (arith, needs);
  reads = grows.reads;
  changes = grows.changes;
  keeps = λ entries. on_update P.tells (T.drawn tape) (T.drawn tape_now) entries (Some session) session (P.history platform) (P.history platform_now) (Unit {0}) _ _ refl keeps grows.time (λ keys done. done);
  through = λ told entry at. with_array (P.history platform).present session entry at (λ state. (next : State) × IsAt (P.history platform_now).present (Some now) next)
      (λ device array there. write_leads (P.history platform_now).present now device array block bytes result (leads told device array there));
  fell = record { platform = grows.by_one.faults; tape = grows.tape_faults; input = omega arith; output = omega arith; ledger = omega arith };
}
