-- What a read and a trimmed block say, by what the session's calls say: neither adds a page or draws a key.
use Rattle.std.proofs.Common.{◌≡◌, ◌+◌, ◌*◌, ◌<◌, ◌≤◌, ℕ, Bool, List, Some, Result, Ok, Err, refl, sym, ◌∙◌, subst, ap, arith}
use Rattle.std.specs.Prelude.{◌≢◌, ◌⊎◌, ◌||◌}
use Rattle.std.specs.FinMap.{contains_key}
use Rattle.sdbt_base.specs.Arrays.{Device, Session as OpenSession, State, unmapped, mounted}
use Rattle.sdbt_base.proofs.CountLaws.{quiet_platform}
use Rattle.platform.specs.declared.platforms.Platform.{Ghosts as PlatformGhosts}
use Rattle.platform.specs.Calls.{Looks}
use Rattle.platform.specs.Image.{Image}
use Rattle.root_codec.specs.declared.root.Root.{Root}
use Rattle.device_terms.specs.Served.{IsServedImage}
use Rattle.device_course.specs.States.{IsAt}
use Rattle.device_course.proofs.KeysLaws.{on_look}
use Rattle.device_session.specs.Causes.{IsReadCause, IsTrimCause}
use Rattle.device_session.specs.Changes.{TrimsArray}
use Rattle.device_session.specs.Damage.{IsUncounted}
use Rattle.device_session.specs.Going.{GoesOn}
use Rattle.device_session.specs.Holds.{Holds}
use Rattle.device_session.specs.Keys.{StaysListed}
use Rattle.device_session.specs.Open.{is_touched, needed_by}
use Rattle.device_session.specs.Reading.{ReadsArray}
use Rattle.device_session.specs.Sessions.{Session}
use Rattle.device_session.specs.declared.refusals.ReadRefusal.{ReadRefusal}
use Rattle.device_session.specs.declared.refusals.ReadRefusal.TheVariants as read
use Rattle.device_session.specs.declared.refusals.TrimRefusal.{TrimRefusal}
use Rattle.device_session.specs.declared.refusals.TrimRefusal.TheVariants as trim
use Rattle.session_calls.specs.Along.{Along, Drawn}
use Rattle.sdbt_base.specs.Counts.{Counts}
use Rattle.session_calls.specs.Blame.{HasCause, IsOfCall}
use Rattle.session_calls.specs.Damage.{IsMiscountedAt, IsWrongNode, IsWrongPlace, ReadsAny, TrimsAny}
use Rattle.session_calls.specs.Goes.{IsReadStop, IsTrimStop, ReadsBlock, TrimsBlock}
use Rattle.session_calls.specs.declared.stops.DeviceStop.{DeviceStop}
use Rattle.session_calls.specs.declared.stops.DeviceStop.TheVariants as stops
use Rattle.session_calls.proofs.CellLaws.{mounted_still}
use Rattle.session_calls.proofs.StateLaws.{at_array, with_array}

-- a call that only looks goes on, whatever its answer
pub look_along : {S : Type 0} (P : PlatformGhosts S) (updates most : ℕ) (platform platform_now : S) (drawn : Drawn) (session now : Session)
    → GoesOn P.tells (P.history platform).present (P.history platform_now).present (P.head platform_now) session now → needed_by now ≤ needed_by session + 41 * updates → (P.tells → P.reads platform_now ≤ P.reads platform + most)
    → (P.tells → StaysListed (P.history platform).present (P.history platform_now).present session now) → Looks P platform platform_now
    → (P.tells → (device : Device) (array : OpenSession) → IsAt (P.history platform).present (Some session) (mounted device array) → (next : State) × IsAt (P.history platform_now).present (Some now) next)
    → Along P updates most platform platform_now drawn drawn session now
look_along P updates most platform platform_now drawn session now goes_on needs reads listed looks leads = record {
  is_open = goes_on.is_open;
  mounted = λ told mounted. mounted_still (Some session) session now (P.history platform) (P.history platform_now) refl mounted goes_on.root (looks.time told) (goes_on.follows told);
  blocks = ap (λ (r : Root). r.blocks) goes_on.root;
  forgets = goes_on.forgets;
  cell = looks.time;
  capacity = looks.capacity;
  rises = omega (arith, looks.head);
  adds = omega (arith, looks.head);
  needs = needs;
  reads = reads;
  changes = looks.changes;
  keeps = λ entries. on_look P.tells drawn.keys entries (Some session) (P.history platform) (P.history platform_now) (Unit {0}) _ looks.image looks.time (λ told keys kept h. listed told keys h);
  through = λ told entry at. with_array (P.history platform).present session entry at (λ state. (next : State) × IsAt (P.history platform_now).present (Some now) next)
      (λ device array there. leads told device array there);
  fell = record { platform = looks.faults; tape = omega arith; input = omega arith; output = omega arith; ledger = omega arith };
}

-- ---- a trim

pub other_trim_refusal : (refusal : TrimRefusal) (block blocks before now : ℕ) → IsTrimCause block blocks before now (Err refusal) → block < blocks → refusal ≢ trim.Range
other_trim_refusal trim.Range block blocks before now cause within = absurd (omega (arith, cause.0, within))
other_trim_refusal trim.Memory block blocks before now cause within = λ e. cc
other_trim_refusal (trim.BadRecord addr) block blocks before now cause within = λ e. cc
other_trim_refusal trim.PlatformFault block blocks before now cause within = λ e. cc

pub trim_blamed : (refusal : TrimRefusal) (stop : DeviceStop) (block blocks : ℕ) (before now : Counts) → now ≡ record before { platform = now.platform } → IsTrimStop refusal stop → IsTrimCause block blocks before.platform now.platform (Err refusal) → HasCause before now stop
trim_blamed trim.Range stop block blocks before now alone is cause = absurd is
trim_blamed trim.Memory stop block blocks before now alone is cause = subst (λ (s : DeviceStop). HasCause before now s) (sym is) (quiet_platform before now alone cause.1)
trim_blamed (trim.BadRecord addr) stop block blocks before now alone is cause = subst (λ (s : DeviceStop). HasCause before now s) (sym is) (quiet_platform before now alone cause.1)
trim_blamed trim.PlatformFault stop block blocks before now alone is cause = subst (λ (s : DeviceStop). HasCause before now s) (sym is) (cause.1, alone)

pub trim_of_call : (refusal : TrimRefusal) (stop : DeviceStop) → IsTrimStop refusal stop → IsOfCall stop
trim_of_call trim.Range stop is = absurd is
trim_of_call trim.Memory stop is = subst IsOfCall (sym is) tt
trim_of_call (trim.BadRecord addr) stop is = subst IsOfCall (sym is) tt
trim_of_call trim.PlatformFault stop is = subst IsOfCall (sym is) tt

pub trim_done : (image : Image) (now : Session) (device : Device) (array : OpenSession) (block : ℕ) (touched : Bool) → touched ≡ array.touched → TrimsArray now image device array.contents block touched (Ok tt) → IsServedImage image
    → TrimsBlock image now device array block (Ok tt)
trim_done image now device array block touched same trims served =
    at_array image now device (unmapped array block) trims.0 (trims.1 ∙ ap (λ (b : Bool). b || contains_key array.contents block) same) served

pub trim_refused : (image : Image) (now : Session) (device : Device) (array : OpenSession) (block : ℕ) (touched : Bool) (refusal : TrimRefusal) (stop : DeviceStop) → IsTrimStop refusal stop
    → TrimsArray now image device array.contents block touched (Err refusal) → is_touched now ≡ array.touched → IsServedImage image → TrimsBlock image now device array block (Err stop)
trim_refused image now device array block touched trim.Range stop is holds same served = absurd is
trim_refused image now device array block touched (trim.BadRecord addr) stop is holds same served = absurd holds
trim_refused image now device array block touched trim.Memory stop is holds same served =
    subst (λ (s : DeviceStop). TrimsBlock image now device array block (Err s)) (sym is) (at_array image now device array holds same served)
trim_refused image now device array block touched trim.PlatformFault stop is holds same served =
    subst (λ (s : DeviceStop). TrimsBlock image now device array block (Err s)) (sym is) (at_array image now device array holds same served)

pub trim_any : (Known : Type 0) (image after : Image) (session : Session) (block : ℕ) (refusal : TrimRefusal) (stop : DeviceStop) → IsTrimStop refusal stop
    → ((addr : ℕ) → refusal ≡ trim.BadRecord addr → Known → IsWrongNode after addr ⊎ (IsMiscountedAt after addr × IsUncounted image.readable session block addr)) → TrimsAny Known image after session block (Err stop)
trim_any Known image after session block trim.Range stop is named = absurd is
trim_any Known image after session block trim.Memory stop is named = subst (λ (s : DeviceStop). TrimsAny Known image after session block (Err s)) (sym is) tt
trim_any Known image after session block (trim.BadRecord addr) stop is named =
    subst (λ (s : DeviceStop). TrimsAny Known image after session block (Err s)) (sym is) (λ known. named addr refl known)
trim_any Known image after session block trim.PlatformFault stop is named = subst (λ (s : DeviceStop). TrimsAny Known image after session block (Err s)) (sym is) tt

pub trim_leads : (image : Image) (now : Session) (device : Device) (array : OpenSession) (block : ℕ) (result : Result (Unit {0}) DeviceStop) → TrimsBlock image now device array block result → (next : State) × IsAt image (Some now) next
trim_leads image now device array block (Ok done) led = (mounted device (unmapped array block), led)
trim_leads image now device array block (Err stops.Memory) led = (mounted device array, led)
trim_leads image now device array block (Err stops.Platform) led = (mounted device array, led)
trim_leads image now device array block (Err stops.Tape) led = absurd led
trim_leads image now device array block (Err stops.Ledger) led = absurd led
trim_leads image now device array block (Err stops.BadRoot) led = absurd led
trim_leads image now device array block (Err (stops.BadRecord addr)) led = absurd led

-- ---- a read

pub other_read_refusal : (refusal : ReadRefusal) (block blocks before now : ℕ) → IsReadCause block blocks before now (Err refusal) → block < blocks → refusal ≢ read.Range
other_read_refusal read.Range block blocks before now cause within = absurd (omega (arith, cause.0, within))
other_read_refusal (read.BadRecord addr) block blocks before now cause within = λ e. cc
other_read_refusal read.PlatformFault block blocks before now cause within = λ e. cc

pub read_blamed : (refusal : ReadRefusal) (stop : DeviceStop) (block blocks : ℕ) (before now : Counts) → now ≡ record before { platform = now.platform } → IsReadStop refusal stop → IsReadCause block blocks before.platform now.platform (Err refusal) → HasCause before now stop
read_blamed read.Range stop block blocks before now alone is cause = absurd is
read_blamed (read.BadRecord addr) stop block blocks before now alone is cause = subst (λ (s : DeviceStop). HasCause before now s) (sym is) (quiet_platform before now alone cause.1)
read_blamed read.PlatformFault stop block blocks before now alone is cause = subst (λ (s : DeviceStop). HasCause before now s) (sym is) (cause.1, alone)

pub read_of_call : (refusal : ReadRefusal) (stop : DeviceStop) → IsReadStop refusal stop → IsOfCall stop
read_of_call read.Range stop is = absurd is
read_of_call (read.BadRecord addr) stop is = subst IsOfCall (sym is) tt
read_of_call read.PlatformFault stop is = subst IsOfCall (sym is) tt

-- no memory is wanted for a read
pub read_room : (refusal : ReadRefusal) (stop : DeviceStop) → IsReadStop refusal stop → stop ≢ stops.Memory
read_room read.Range stop is = absurd is
read_room (read.BadRecord addr) stop is = λ memory. absurd (let same : stops.BadRecord addr ≡ stops.Memory = sym is ∙ memory in cc)
read_room read.PlatformFault stop is = λ memory. absurd (let same : stops.Platform ≡ stops.Memory = sym is ∙ memory in cc)

-- no record that doesn't fit is met over an array
pub read_refused : (image : Image) (now : Session) (device : Device) (array : OpenSession) (block : ℕ) (bytes : List ℕ) (refusal : ReadRefusal) (stop : DeviceStop) → IsReadStop refusal stop
    → Holds now image device array.contents → ReadsArray array.contents block bytes (Err refusal) → is_touched now ≡ array.touched → IsServedImage image → ReadsBlock image now device array block bytes (Err stop)
read_refused image now device array block bytes read.Range stop is holds reads same served = absurd is
read_refused image now device array block bytes (read.BadRecord addr) stop is holds reads same served = absurd reads
read_refused image now device array block bytes read.PlatformFault stop is holds reads same served =
    subst (λ (s : DeviceStop). ReadsBlock image now device array block bytes (Err s)) (sym is) (at_array image now device array holds same served)

-- on any pages a place that doesn't fit is named, or the platform failed
pub read_any : (Known : Type 0) (image after : Image) (session : Session) (block : ℕ) (bytes : List ℕ) (refusal : ReadRefusal) (stop : DeviceStop) → IsReadStop refusal stop
    → ((addr : ℕ) → refusal ≡ read.BadRecord addr → Known → IsWrongPlace after addr) → ReadsAny Known image after session block bytes (Err stop)
read_any Known image after session block bytes read.Range stop is named = absurd is
read_any Known image after session block bytes (read.BadRecord addr) stop is named =
    subst (λ (s : DeviceStop). ReadsAny Known image after session block bytes (Err s)) (sym is) (λ known. named addr refl known)
read_any Known image after session block bytes read.PlatformFault stop is named = subst (λ (s : DeviceStop). ReadsAny Known image after session block bytes (Err s)) (sym is) tt

pub read_leads : (image : Image) (now : Session) (device : Device) (array : OpenSession) (block : ℕ) (bytes : List ℕ) (result : Result (Unit {0}) DeviceStop) → ReadsBlock image now device array block bytes result → (next : State) × IsAt image (Some now) next
read_leads image now device array block bytes (Ok done) led = (mounted device array, led.0)
read_leads image now device array block bytes (Err stops.Platform) led = (mounted device array, led)
read_leads image now device array block bytes (Err stops.Memory) led = absurd led
read_leads image now device array block bytes (Err stops.Tape) led = absurd led
read_leads image now device array block bytes (Err stops.Ledger) led = absurd led
read_leads image now device array block bytes (Err stops.BadRoot) led = absurd led
read_leads image now device array block bytes (Err (stops.BadRecord addr)) led = absurd led
