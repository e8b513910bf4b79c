-- What a run leaves that found no session on the device that another one comes to.
use Rattle.std.proofs.Common.{◌≡◌, ◌-◌, ◌∷◌, ℕ, [], Option, None, Some, Result, Ok, Err, inl, inr, refl, sym, ap, subst, arith}
use Rattle.std.specs.Prelude.{IfErr}
use Rattle.std.proofs.lemmas.List.Elements.{All-cons, All-nil}
use Rattle.sdbt_base.specs.Arrays.{Device, State, closed, new_device}
use Rattle.sdbt_base.specs.Counts as device
use Rattle.sdbt_base.specs.declared.tapes.Tape.{Ghosts as TapeGhosts}
use Rattle.platform.specs.declared.platforms.Platform.{Ghosts as PlatformGhosts}
use Rattle.platform.specs.Calls.{Looks}
use Rattle.platform.specs.History.{History, Turns}
use Rattle.platform.specs.Image.{Image}
use Rattle.page_store.specs.Stands.{Stands}
use Rattle.page_store.proofs.StandsLaws.{one_device}
use Rattle.device_core.specs.Publishing.{IsFormatCause}
use Rattle.device_core.specs.declared.refusals.FormatRefusal.{FormatRefusal}
use Rattle.device_core.specs.declared.refusals.FormatRefusal.TheVariants as format
use Rattle.device_terms.specs.Served.{IsServedImage}
use Rattle.device_course.specs.Course.{Made}
use Rattle.device_course.specs.Marks.{Leaves}
use Rattle.device_course.specs.States.{IsAt}
use Rattle.device_course.proofs.MadeLaws.{made_stopped, made_then, shut}
use Rattle.device_session.specs.Sessions.{Session}
use Rattle.session_calls.specs.Mounts.{MountLeads}
use Rattle.session_calls.specs.declared.stops.DeviceStop.{DeviceStop}
use Rattle.session_calls.specs.declared.stops.DeviceStop.TheVariants as stops
use Rattle.session_calls.proofs.CarryLaws.{stays_at}
use Rattle.transfer.specs.Moving.{IsSoundHalt, IsSoundStop, OpensNone}
use Rattle.transfer.specs.Opening.{halt_of_format}
use Rattle.transfer.specs.declared.halts.Halt.{Halt}
use Rattle.transfer.specs.declared.halts.Halt.TheVariants as halts

-- ---- a mount

look_made : {S : Type 0} (P : PlatformGhosts S) (platform platform_now : S) (there : Option Device) → Looks P platform platform_now → P.tells → Stands (P.history platform).present there → IsServedImage (P.history platform).present
    → Made (P.history platform) (P.history platform_now) None (closed there) [] (closed there)
look_made P platform platform_now there looks told stands served =
    stays_at (P.history platform) (P.history platform_now) None (closed there) (closed there) (looks.time told) stands
    (shut (P.history platform_now).present there (subst (λ (i : Image). Stands i there) (sym (looks.image told)) stands) (subst IsServedImage (sym (looks.image told)) served))

-- over a device, or none, a root record that can't be served isn't met
pub mount_sound : (image : Image) (entry : State) (stop : DeviceStop) → MountLeads image entry (Err stop) → IsSoundStop stop
mount_sound image entry stops.Platform led = tt
mount_sound image entry stops.Memory led = tt
mount_sound image entry stops.BadRoot led = absurd led
mount_sound image entry stops.Tape led = tt
mount_sound image entry stops.Ledger led = tt
mount_sound image entry (stops.BadRecord addr) led = absurd led

pub mount_stopped : {S : Type 0} (P : PlatformGhosts S) (platform platform_now : S) (blocks order free : ℕ) (stop : DeviceStop) (there : Option Device) → Looks P platform platform_now
    → (P.tells → (entry : State) → IsAt (P.history platform).present None entry → MountLeads (P.history platform_now).present entry (Err stop)) → P.tells → Stands (P.history platform).present there → IsServedImage (P.history platform).present
    → OpensNone (P.history platform) (P.history platform_now) there blocks order free (halts.To stop)
mount_stopped P platform platform_now blocks order free stop there looks leads told stands served = record {
  made = [];
  each = All-nil (λ next. next ≡ Some (new_device blocks order));
  came = look_made P platform platform_now there looks told stands served;
  sound = mount_sound (P.history platform_now).present (closed there) stop (leads told (closed there) (shut (P.history platform).present there stands served));
  full = λ is. absurd cc;
}

-- a look, and then more
none_behind : {S : Type 0} (P : PlatformGhosts S) (platform mid : S) (new : History) (blocks order : ℕ) (there : Option Device) (halt : Halt) → Looks P platform mid → P.tells → Stands (P.history platform).present there → IsServedImage (P.history platform).present
    → (Stands (P.history mid).present there → IsServedImage (P.history mid).present → OpensNone (P.history mid) new there blocks order (P.capacity mid - P.head mid) halt) → OpensNone (P.history platform) new there blocks order (P.capacity platform - P.head platform) halt
none_behind P platform mid new blocks order there halt looks told stands served behind =
    let one : Made (P.history platform) (P.history mid) None (closed there) [] (closed there) = look_made P platform mid there looks told stands served in
    let o = behind one.exits.there.device one.exits.served in
    record {
      made = o.made;
      each = o.each;
      came = made_then (P.history platform) (P.history mid) new None None (closed there) (closed there) _ [] o.made one o.came;
      sound = o.sound;
      full = λ is. ((o.full is).0, omega (arith, (o.full is).1, looks.head, looks.capacity));
    }

pub nones_behind : {S X : Type 0} (P : PlatformGhosts S) (platform mid : S) (new : History) (blocks order : ℕ) (result : Result X Halt) → Looks P platform mid
    → IfErr result (λ halt. P.tells → (there : Option Device) → Stands (P.history mid).present there → IsServedImage (P.history mid).present → OpensNone (P.history mid) new there blocks order (P.capacity mid - P.head mid) halt)
    → IfErr result (λ halt. P.tells → (there : Option Device) → Stands (P.history platform).present there → IsServedImage (P.history platform).present → OpensNone (P.history platform) new there blocks order (P.capacity platform - P.head platform) halt)
nones_behind P platform mid new blocks order (Ok done) looks none = tt
nones_behind P platform mid new blocks order (Err halt) looks none = λ told there stands served. none_behind P platform mid new blocks order there halt looks told stands served (none told there)

-- ---- a new device

-- where the cell is empty there is no device
no_device : (image : Image) (there : Option Device) → image.cell ≡ None → Stands image there → there ≡ None
no_device image there empty stands = one_device image there None stands empty

format_sound : {S R : Type 0} (P : PlatformGhosts S) (T : TapeGhosts R) (platform platform_now : S) (tape tape_now : R) (before now : device.Counts) (refusal : FormatRefusal) → IsFormatCause P T platform platform_now tape tape_now before now (Err refusal) → P.tells
    → (P.history platform).present.cell ≡ None → IsSoundHalt (halt_of_format refusal)
format_sound P T platform platform_now tape tape_now before now format.NotEmpty cause told empty = absurd (cause.0 told empty)
format_sound P T platform platform_now tape tape_now before now format.Full cause told empty = tt
format_sound P T platform platform_now tape tape_now before now format.Memory cause told empty = tt
format_sound P T platform platform_now tape tape_now before now format.TapeFault cause told empty = tt
format_sound P T platform platform_now tape tape_now before now format.PlatformFault cause told empty = tt
format_sound P T platform platform_now tape tape_now before now format.LedgerFault cause told empty = tt

format_full : {S R : Type 0} (P : PlatformGhosts S) (T : TapeGhosts R) (platform platform_now : S) (tape tape_now : R) (before now : device.Counts) (refusal : FormatRefusal) → IsFormatCause P T platform platform_now tape tape_now before now (Err refusal)
    → halt_of_format refusal ≡ halts.Full → P.capacity platform - P.head platform ≡ 0
format_full P T platform platform_now tape tape_now before now format.NotEmpty cause is = cc
format_full P T platform platform_now tape tape_now before now format.Full cause is = omega (arith, cause.1)
format_full P T platform platform_now tape tape_now before now format.Memory cause is = cc
format_full P T platform platform_now tape tape_now before now format.TapeFault cause is = cc
format_full P T platform platform_now tape tape_now before now format.PlatformFault cause is = cc
format_full P T platform platform_now tape tape_now before now format.LedgerFault cause is = cc

-- a format that was not done
pub unformatted : {S R : Type 0} (P : PlatformGhosts S) (T : TapeGhosts R) (platform platform_now : S) (tape tape_now : R) (before now : device.Counts) (refusal : FormatRefusal) (blocks order : ℕ) (there : Option Device)
    → IsFormatCause P T platform platform_now tape tape_now before now (Err refusal) → P.tells → (P.history platform).present.cell ≡ None → Stands (P.history platform).present there → IsServedImage (P.history platform_now).present
    → Turns (P.history platform) (P.history platform_now) (Leaves there) (Leaves (Some (new_device blocks order))) → OpensNone (P.history platform) (P.history platform_now) there blocks order (P.capacity platform - P.head platform) (halt_of_format refusal)
unformatted P T platform platform_now tape tape_now before now refusal blocks order there cause told empty stands served turns =
    let IsNew : Option Device → Type 0 = λ next. next ≡ Some (new_device blocks order) in
    let next : Option Device = Some (new_device blocks order) in
    let sound : IsSoundHalt (halt_of_format refusal) = format_sound P T platform platform_now tape tape_now before now refusal cause told empty in
    let none : there ≡ None = no_device (P.history platform).present there empty stands in
    let full : halt_of_format refusal ≡ halts.Full → (there ≡ None) × (P.capacity platform - P.head platform ≡ 0) = λ is. (none, format_full P T platform platform_now tape tape_now before now refusal cause is) in
    elim (made_stopped (P.history platform) (P.history platform_now) (closed there) next stands served turns) as (λ e. OpensNone (P.history platform) (P.history platform_now) there blocks order (P.capacity platform - P.head platform) (halt_of_format refusal)) [
      | inl stayed ↦ record { made = []; each = All-nil IsNew; came = stayed; sound = sound; full = full }
      | inr one ↦ record { made = next ∷ []; each = All-cons IsNew next [] refl (All-nil IsNew); came = one; sound = sound; full = full }
    ]

-- one that was done, and a mount that stopped
pub formatted_stopped : {S : Type 0} (P : PlatformGhosts S) (old : History) (mid platform_now : S) (blocks order free : ℕ) (stop : DeviceStop) (there : Option Device)
    → Made old (P.history mid) None (closed there) (Some (new_device blocks order) ∷ []) (closed (Some (new_device blocks order))) → Looks P mid platform_now
    → (P.tells → (entry : State) → IsAt (P.history mid).present None entry → MountLeads (P.history platform_now).present entry (Err stop)) → P.tells → OpensNone old (P.history platform_now) there blocks order free (halts.To stop)
formatted_stopped P old mid platform_now blocks order free stop there made looks leads told =
    let next : Option Device = Some (new_device blocks order) in
    let IsNew : Option Device → Type 0 = λ next. next ≡ Some (new_device blocks order) in
    let still = look_made P mid platform_now next looks told made.exits.there.device made.exits.served in record {
      made = next ∷ [];
      each = All-cons IsNew next [] refl (All-nil IsNew);
      came = made_then old (P.history mid) (P.history platform_now) None None (closed there) (closed next) (closed next) (next ∷ []) [] made still;
      sound = mount_sound (P.history platform_now).present (closed next) stop (leads told (closed next) made.exits);
      full = λ is. absurd cc;
    }

-- a mount finds it
pub formatted_found : (image : Image) (device : Device) (result : Result (Option Session) DeviceStop) → result ≡ Ok None → MountLeads image (closed (Some device)) result → ⊥
formatted_found image device result is led =
    let none = subst (MountLeads image (closed (Some device))) is led in
    let no : Some device ≡ None = ap (λ (s : State). s.device) none.0 in
    cc

-- and a session on it is on that one
pub is_made : (image image_now : Image) (device opened : Device) → image_now ≡ image → Stands image (Some device) → Stands image_now (Some opened) → opened ≡ device
is_made image image_now device opened same stands stands_now =
    let both : Some opened ≡ Some device = one_device image (Some opened) (Some device) (subst (λ (i : Image). Stands i (Some opened)) same stands_now) stands in
    cc

pub made_found : (image : Image) (device : Device) → Stands image (Some device) → image.cell ≡ None → ⊥
made_found image device stands empty =
    let no : Some device ≡ None = one_device image (Some device) None stands empty in
    cc

-- at a device that was not made no root record is met
pub format_not_root : (refusal : FormatRefusal) (halt : Halt) → halt ≡ halt_of_format refusal → halt ≡ halts.To stops.BadRoot → ⊥
format_not_root format.NotEmpty halt is bad = cc
format_not_root format.Full halt is bad = cc
format_not_root format.Memory halt is bad = cc
format_not_root format.TapeFault halt is bad = cc
format_not_root format.PlatformFault halt is bad = cc
format_not_root format.LedgerFault halt is bad = cc
