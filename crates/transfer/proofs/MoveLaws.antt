-- What a whole move comes to, from one device to another one, or to none.
use Rattle.std.proofs.Common.{◌≡◌, ◌+◌, ◌-◌, ◌*◌, ◌≤◌, ◌⊎◌, ◌∷◌, ◌∙◌, ℕ, List, [], Option, None, Some, Result, Ok, Err, inl, inr, refl, sym, ap, subst, length, arith}
use Rattle.std.specs.Prelude.{IfErr, IfOk}
use Rattle.std.proofs.lemmas.List.Elements.{All-nil}
use Rattle.std.proofs.lemmas.Result.{IfErr-weaker, IfOk-weaker}
use Rattle.std.specs.FinMap as maps
use Rattle.sdbt_base.specs.Arrays.{Device, Session as OpenSession, State, closed, mounted, session_on}
use Rattle.sdbt_base.specs.Told.{Got}
use Rattle.platform.specs.History.{History}
use Rattle.platform.specs.Image.{Image}
use Rattle.page_store.specs.Stands.{Stands}
use Rattle.page_store.proofs.StandsLaws.{one_device, stands_leaves}
use Rattle.device_terms.specs.Served.{IsServedImage}
use Rattle.device_course.specs.Course.{Made, MadeBetween, Promised}
use Rattle.device_course.specs.Marks.{Leaves, last_mark}
use Rattle.device_course.specs.States.{IsAt, Outside}
use Rattle.device_course.proofs.MadeLaws.{made_start, made_then, shut}
use Rattle.device_session.specs.Sessions.{Session}
use Rattle.session_calls.specs.Mounts.{MountLeads}
use Rattle.session_calls.specs.Spans.{Spans}
use Rattle.session_calls.specs.declared.stops.DeviceStop.{DeviceStop}
use Rattle.session_calls.specs.declared.stops.DeviceStop.TheVariants as stops
use Rattle.transfer.specs.Copies.{HasCopy, IsCopy, IsFresh, IsOnWay, IsOther}
use Rattle.transfer.specs.Halts.{EndsAs, last_line_of, moved_line, status_at}
use Rattle.transfer.specs.Moving.{IsHalt, IsShort, IsSoundStop, Moves, Reaches, Refuses}
use Rattle.transfer.specs.Program.{LeavesEmpty, MovesDevice, NamesFault}
use Rattle.transfer.specs.Running.{Clears, HasMapped}
use Rattle.transfer.specs.declared.halts.Halt.{Halt}
use Rattle.transfer.specs.declared.halts.Halt.TheVariants as halts
use Rattle.transfer.specs.declared.halts.Moved.{Moved}
use Rattle.transfer.proofs.FromLaws as from_laws
use Rattle.transfer.proofs.KeyLaws.{reaches_nothing}
use Rattle.transfer.proofs.RefusalLaws.{refuses_as}
use Rattle.transfer.proofs.ToLaws as to_laws
use Rattle.transfer.proofs.StatusLaws.{never_zero}

-- ---- with a session on the device

-- the second device didn't come to be a copy, or it isn't known: the first one is left
pub moves_halted : (from from_now to to_now : History) (device : Device) (there : Option Device) (Short : Type 0) (halt : Halt) → MadeBetween from from_now device [] device → Reaches to to_now device there Short (Err halt) → Moves from from_now to to_now device there Short (Err halt)
moves_halted from from_now to to_now device there Short halt stayed r = record {
  marks = [];
  left = stayed;
  cleared = inl refl;
  made = r.made;
  each = r.each;
  came = r.came;
  safe = λ is. absurd cc;
  done = tt;
  halts = r.halts;
  other = λ other. refuses_as ℕ Moved halt (r.other other);
}

-- it did, and then the first one was cleared, or not
pub moves_cleared : (from from_now to to_now : History) (device : Device) (array : OpenSession) (there : Option Device) (Short : Type 0) (number : ℕ) (result : Result Moved Halt) (Done : Type 0)
    → ((Done → ⊥) × Made from from_now None (mounted device array) [] (closed (Some device))) ⊎ Made from from_now None (mounted device array) (None ∷ []) (closed None)
    → IfOk result (λ moved. Done × (moved.number ≡ number)) → IfErr result (λ halt. halt ≡ halts.From stops.Platform) → Reaches to to_now device there Short (Ok number) → Moves from from_now to to_now device there Short result
moves_cleared from from_now to to_now device array there Short number result Done (inl (never, stood)) done failed r = record {
  marks = [];
  left = record { passes = stood.passes; last = stood.last; exits = stood.exits };
  cleared = inl refl;
  made = r.made;
  each = r.each;
  came = r.came;
  safe = λ is. absurd cc;
  done = IfOk-weaker result (λ moved. Done × (moved.number ≡ number)) (λ moved. ([] ≡ None ∷ []) × (copy : Device) × (last_mark there r.made ≡ Some copy) × IsCopy device copy × (moved.number ≡ copy.number))
      (λ moved is. absurd (never is.0)) done;
  halts = IfErr-weaker result (λ halt. halt ≡ halts.From stops.Platform) (IsHalt device there Short) (λ halt is. subst (IsHalt device there Short) (sym is) tt) failed;
  other = λ other. absurd (r.other other);
}
moves_cleared from from_now to to_now device array there Short number result Done (inr empty) done failed r = record {
  marks = None ∷ [];
  left = record { passes = empty.passes; last = empty.last; exits = empty.exits };
  cleared = inr refl;
  made = r.made;
  each = r.each;
  came = r.came;
  safe = λ is. (r.done.0, r.done.1, r.done.2);
  done = IfOk-weaker result (λ moved. Done × (moved.number ≡ number)) (λ moved. (None ∷ [] ≡ None ∷ []) × (copy : Device) × (last_mark there r.made ≡ Some copy) × IsCopy device copy × (moved.number ≡ copy.number))
      (λ moved is. (refl, r.done.0, r.done.1, r.done.2, is.1 ∙ r.done.3)) done;
  halts = IfErr-weaker result (λ halt. halt ≡ halts.From stops.Platform) (IsHalt device there Short) (λ halt is. subst (IsHalt device there Short) (sym is) tt) failed;
  other = λ other. absurd (r.other other);
}

-- ---- behind a mount

pub at_mounted : (image : Image) (session : Session) (device : Device) (result : Result (Option Session) DeviceStop) → result ≡ Ok (Some session) → MountLeads image (closed (Some device)) result → IsAt image (Some session) (mounted device (session_on device))
at_mounted image session device result is led =
    let found = subst (MountLeads image (closed (Some device))) is led in
    let both : Some device ≡ Some found.0 = ap (λ (s : State). s.device) found.1 in
    let one : device ≡ found.0 = cc in
    subst (λ (d : Device). IsAt image (Some session) (mounted d (session_on d))) (sym one) found.2

pub moves_behind : (from mid from_now to to_now : History) (device : Device) (there : Option Device) (Short : Type 0) (result : Result Moved Halt) → MadeBetween from mid device [] device → Moves mid from_now to to_now device there Short result → Moves from from_now to to_now device there Short result
moves_behind from mid from_now to to_now device there Short result stayed m = record {
  marks = m.marks;
  left = made_then from mid from_now None None (closed (Some device)) (closed (Some device)) (closed (last_mark (Some device) m.marks)) [] m.marks stayed m.left;
  cleared = m.cleared;
  made = m.made;
  each = m.each;
  came = m.came;
  safe = m.safe;
  done = m.done;
  halts = m.halts;
  other = m.other;
}

-- a mount that stopped
pub moves_stopped : (from from_now here : History) (device : Device) (there : Option Device) (Short : Type 0) (stop : DeviceStop) → MadeBetween from from_now device [] device → IsSoundStop stop → Stands here.present there → IsServedImage here.present → Moves from from_now here here device there Short (Err (halts.From stop))
moves_stopped from from_now here device there Short stop stayed sound stands served = record {
  marks = [];
  left = stayed;
  cleared = inl refl;
  made = [];
  each = All-nil (IsOnWay device);
  came = made_start here None (closed there) (shut here.present there stands served);
  safe = λ is. absurd cc;
  done = tt;
  halts = sound;
  other = λ other. tt;
}

-- ---- the whole run

-- of a device that is left nothing leaves an empty cell
stays_full : (from from_now : Outside) (device : Device) → Promised from from_now (Some device) [] → LeavesEmpty from.history from_now.history → ⊥
stays_full from from_now device left (i, first, last, image, may, empty) =
    let stands : Stands image (Some device) = left.passes.each i first last image may in
    let no : Some device ≡ None = one_device image (Some device) None stands empty in
    cc

copy_left : (to to_now : Outside) (there : Option Device) (made : List (Option Device)) (copy : Device) → Promised to to_now there made → last_mark there made ≡ Some copy → Leaves (Some copy) to_now.history.present
copy_left to to_now there made copy came last = stands_leaves to_now.history.present (Some copy) (subst (λ (d : Option Device). Stands to_now.history.present d) last came.stands)

-- how a run ended: its output failed, or it halted so and said so
ended : (moved : Result Moved Halt) (halt : Halt) (written written_now : Option (List ℕ)) → EndsAs moved (Err halt) written written_now → (halt ≡ halts.Output) ⊎ ((moved ≡ Err halt) × Got written (last_line_of halt) written_now)
ended (Ok moved) halt written written_now said = inl said.0
ended (Err halted) halt written written_now (told, is, inl (same, got)) =
    let one : halt ≡ told = cc in
    let all : halted ≡ halt = sym (one ∙ same) in
    inr (ap Err all, subst (λ (h : Halt). Got written (last_line_of h) written_now) all got)
ended (Err halted) halt written written_now (told, is, inr (out, has, part)) =
    let one : halt ≡ told = cc in
    inl (one ∙ out)

-- a run that was done moved something
put : (moved : Result Moved Halt) (written written_now : Option (List ℕ)) → EndsAs moved (Ok tt) written written_now → (one : Moved) × (moved ≡ Ok one) × Got written (moved_line one) written_now
put (Ok one) written written_now said = (one, refl, said)
put (Err halted) written written_now (told, is, more) = absurd cc

-- which halts have which status
named : (device : Device) (there : Option Device) (Short : Type 0) (halt : Halt) → IsHalt device there Short halt → (status_at halt ≡ 8 → ⊥) × (status_at halt ≡ 9 → ⊥)
named device there Short halts.NoDevice is = absurd is
named device there Short halts.NotEmpty is = (λ e. omega (arith, e), λ e. omega (arith, e))
named device there Short halts.Full is = (λ e. omega (arith, e), λ e. omega (arith, e))
named device there Short halts.Output is = absurd is
named device there Short (halts.From stops.Platform) is = (λ e. omega (arith, e), λ e. omega (arith, e))
named device there Short (halts.From stops.Tape) is = (λ e. omega (arith, e), λ e. omega (arith, e))
named device there Short (halts.From stops.Ledger) is = (λ e. omega (arith, e), λ e. omega (arith, e))
named device there Short (halts.From stops.Memory) is = (λ e. omega (arith, e), λ e. omega (arith, e))
named device there Short (halts.From stops.BadRoot) is = absurd is
named device there Short (halts.From (stops.BadRecord addr)) is = absurd is
named device there Short (halts.To stops.Platform) is = (λ e. omega (arith, e), λ e. omega (arith, e))
named device there Short (halts.To stops.Tape) is = (λ e. omega (arith, e), λ e. omega (arith, e))
named device there Short (halts.To stops.Ledger) is = (λ e. omega (arith, e), λ e. omega (arith, e))
named device there Short (halts.To stops.Memory) is = (λ e. omega (arith, e), λ e. omega (arith, e))
named device there Short (halts.To stops.BadRoot) is = absurd is
named device there Short (halts.To (stops.BadRecord addr)) is = absurd is

refused_at : (device : Device) (there : Option Device) (Short : Type 0) (halt : Halt) (Said : Halt → Type 0) → IsHalt device there Short halt → (IsOther device there → Refuses {X = Moved} (Err halt)) → Said halt → status_at halt ≡ 10
    → (IsOther device there × Said halts.NotEmpty) ⊎ ((IsOther device there → ⊥) × Short × (HasCopy device there → ⊥) × Said halts.Full)
refused_at device there Short halts.NoDevice Said is other said ten = absurd is
refused_at device there Short halts.NotEmpty Said is other said ten = inl (is, said)
refused_at device there Short halts.Full Said is other said ten = inr (other, is.0, is.1, said)
refused_at device there Short halts.Output Said is other said ten = absurd is
refused_at device there Short (halts.From stops.Platform) Said is other said ten = absurd (omega (arith, ten))
refused_at device there Short (halts.From stops.Tape) Said is other said ten = absurd (omega (arith, ten))
refused_at device there Short (halts.From stops.Ledger) Said is other said ten = absurd (omega (arith, ten))
refused_at device there Short (halts.From stops.Memory) Said is other said ten = absurd (omega (arith, ten))
refused_at device there Short (halts.From stops.BadRoot) Said is other said ten = absurd is
refused_at device there Short (halts.From (stops.BadRecord addr)) Said is other said ten = absurd is
refused_at device there Short (halts.To stops.Platform) Said is other said ten = absurd (omega (arith, ten))
refused_at device there Short (halts.To stops.Tape) Said is other said ten = absurd (omega (arith, ten))
refused_at device there Short (halts.To stops.Ledger) Said is other said ten = absurd (omega (arith, ten))
refused_at device there Short (halts.To stops.Memory) Said is other said ten = absurd (omega (arith, ten))
refused_at device there Short (halts.To stops.BadRoot) Said is other said ten = absurd is
refused_at device there Short (halts.To (stops.BadRecord addr)) Said is other said ten = absurd is

four : NamesFault 4
four = inl refl

five : NamesFault 5
five = inr (inl refl)

six : NamesFault 6
six = inr (inr (inl refl))

seven : NamesFault 7
seven = inr (inr (inr (inl refl)))

thirteen : NamesFault 13
thirteen = inr (inr (inr (inr refl)))

abbrev Stops : ℕ → Type 0
Stops status = (status ≡ 10) ⊎ NamesFault status ⊎ (status ≡ 11)

stops_at : (device : Device) (there : Option Device) (Short : Type 0) (halt : Halt) → IsHalt device there Short halt → Stops (status_at halt)
stops_at device there Short halts.NoDevice is = inl refl
stops_at device there Short halts.NotEmpty is = inl refl
stops_at device there Short halts.Full is = inl refl
stops_at device there Short halts.Output is = inr (inl four)
stops_at device there Short (halts.From stops.Platform) is = inr (inl five)
stops_at device there Short (halts.From stops.Tape) is = inr (inl six)
stops_at device there Short (halts.From stops.Ledger) is = inr (inl seven)
stops_at device there Short (halts.From stops.Memory) is = inr (inr refl)
stops_at device there Short (halts.From stops.BadRoot) is = absurd is
stops_at device there Short (halts.From (stops.BadRecord addr)) is = absurd is
stops_at device there Short (halts.To stops.Platform) is = inr (inl thirteen)
stops_at device there Short (halts.To stops.Tape) is = inr (inl six)
stops_at device there Short (halts.To stops.Ledger) is = inr (inl seven)
stops_at device there Short (halts.To stops.Memory) is = inr (inr refl)
stops_at device there Short (halts.To stops.BadRoot) is = absurd is
stops_at device there Short (halts.To (stops.BadRecord addr)) is = absurd is

-- it completes, or fails at a fault, or no memory is given
abbrev Completes : ℕ → Type 0
Completes status = (status ≡ 0) ⊎ NamesFault status ⊎ (status ≡ 11)

-- there is room for the move, or none is wanted
abbrev HasRoom : Device → Option Device → ℕ → Type 0
HasRoom device there free = HasCopy device there ⊎ (IsFresh device there × (42 * length (maps.keys device.contents) + 1 ≤ free))

not_other : (device : Device) (there : Option Device) (free : ℕ) → HasRoom device there free → IsOther device there → ⊥
not_other device there free (inl copy) other = other.0 copy
not_other device there free (inr (fresh, enough)) other = other.1 fresh

not_short : (device : Device) (there : Option Device) (free : ℕ) → HasRoom device there free → IsShort device 1 free → (HasCopy device there → ⊥) → ⊥
not_short device there free (inl copy) short none = none copy
not_short device there free (inr (fresh, enough)) short none = omega (arith, enough, short)

completes_at : (device : Device) (there : Option Device) (free : ℕ) (halt : Halt) → IsHalt device there (IsShort device 1 free) halt → HasRoom device there free → Completes (status_at halt)
completes_at device there free halts.NoDevice is room = absurd is
completes_at device there free halts.NotEmpty is room = absurd (not_other device there free room is)
completes_at device there free halts.Full is room = absurd (not_short device there free room is.0 is.1)
completes_at device there free halts.Output is room = absurd is
completes_at device there free (halts.From stops.Platform) is room = inr (inl five)
completes_at device there free (halts.From stops.Tape) is room = inr (inl six)
completes_at device there free (halts.From stops.Ledger) is room = inr (inl seven)
completes_at device there free (halts.From stops.Memory) is room = inr (inr refl)
completes_at device there free (halts.From stops.BadRoot) is room = absurd is
completes_at device there free (halts.From (stops.BadRecord addr)) is room = absurd is
completes_at device there free (halts.To stops.Platform) is room = inr (inl thirteen)
completes_at device there free (halts.To stops.Tape) is room = inr (inl six)
completes_at device there free (halts.To stops.Ledger) is room = inr (inl seven)
completes_at device there free (halts.To stops.Memory) is room = inr (inr refl)
completes_at device there free (halts.To stops.BadRoot) is room = absurd is
completes_at device there free (halts.To (stops.BadRecord addr)) is room = absurd is

-- the halt of a move that halted so
halt_at : (from from_now to to_now : History) (device : Device) (there : Option Device) (Short : Type 0) (moved : Result Moved Halt) (halt : Halt) → Moves from from_now to to_now device there Short moved → moved ≡ Err halt
    → IsHalt device there Short halt × (IsOther device there → Refuses {X = Moved} (Err halt))
halt_at from from_now to to_now device there Short moved halt m is =
    (subst (λ (r : Result Moved Halt). IfErr r (IsHalt device there Short)) is m.halts, subst (λ (r : Result Moved Halt). IsOther device there → Refuses r) is m.other)

-- what was promised of the run over each device
promises : (from_tells to_tells : Type 0) (told : from_tells) (to_told : to_tells) (from from_now to to_now : Outside) (Done Going : Type 0) (device : Device) (there : Option Device) (moved : Result Moved Halt) → Stands from.history.present (Some device) → IsServedImage from.history.present
    → Stands to.history.present there → IsServedImage to.history.present → from_now.head ≤ from_now.capacity → Clears from_tells None from from_now Done → Spans to_tells to to_now Going → (m : Moves from.history from_now.history to.history to_now.history device there (IsShort device 1 (to.capacity - to.head)) moved)
    → Promised from from_now (Some device) m.marks × Promised to to_now there m.made
promises from_tells to_tells told to_told from from_now to to_now Done Going device there moved stands served stands_to served_to room clears spans m = (
  from_laws.promised_of from_tells told from from_now device (closed (last_mark (Some device) m.marks)) m.marks stands served (record { capacity = clears.capacity; rises = omega (arith, clears.head); within = room }) clears.keeps m.left,
  to_laws.promised_of to_tells Going to_told to to_now there m.made stands_to served_to spans.later spans.keeps m.came,
)

safe_of : (from from_now to to_now : Outside) (device : Device) (there : Option Device) (moved : Result Moved Halt) (m : Moves from.history from_now.history to.history to_now.history device there (IsShort device 1 (to.capacity - to.head)) moved) → Promised from from_now (Some device) m.marks → Promised to to_now there m.made
    → LeavesEmpty from.history from_now.history → (copy : Device) × IsCopy device copy × Leaves (Some copy) to_now.history.present
safe_of from from_now to to_now device there moved m left came empty = elim m.cleared as (λ e. (copy : Device) × IsCopy device copy × Leaves (Some copy) to_now.history.present) [
  | inl none ↦ absurd (stays_full from from_now device (subst (λ (ms : List (Option Device)). Promised from from_now (Some device) ms) none left) empty)
  | inr one ↦ let s = m.safe one in (s.0, s.2, copy_left to to_now there m.made s.0 came s.1)
]

-- a run that was done
pub moves_done : (from_tells to_tells : Type 0) (told : from_tells) (to_told : to_tells) (from from_now to to_now : Outside) (written written_now : Option (List ℕ)) (Done Going : Type 0) (device : Device) (there : Option Device) (moved : Result Moved Halt)
    → Stands from.history.present (Some device) → IsServedImage from.history.present → Stands to.history.present there → IsServedImage to.history.present → from_now.head ≤ from_now.capacity → length from_now.history.present.recorded ≡ length from.history.present.recorded → Clears from_tells None from from_now Done → Spans to_tells to to_now Going
    → EndsAs moved (Ok tt) written written_now → IfOk moved (λ x. from_tells → HasMapped from.history.present x.blocks) → Moves from.history from_now.history to.history to_now.history device there (IsShort device 1 (to.capacity - to.head)) moved → MovesDevice from from_now to to_now written written_now 0 device there
moves_done from_tells to_tells told to_told from from_now to to_now written written_now Done Going device there moved stands served stands_to served_to room size clears spans said mapped m =
    let promised = promises from_tells to_tells told to_told from from_now to to_now Done Going device there moved stands served stands_to served_to room clears spans m in
    let one = put moved written written_now said in
    let done = subst (λ (r : Result Moved Halt). IfOk r (λ x. (m.marks ≡ None ∷ []) × (copy : Device) × (last_mark there m.made ≡ Some copy) × IsCopy device copy × (x.number ≡ copy.number))) one.1 m.done in
    let blocks = subst (λ (r : Result Moved Halt). IfOk r (λ x. from_tells → HasMapped from.history.present x.blocks)) one.1 mapped in
    let other : IsOther device there → ⊥ = subst (λ (r : Result Moved Halt). IsOther device there → Refuses r) one.1 m.other in record {
      marks = m.marks;
      left = promised.0;
      cleared = m.cleared;
      made = m.made;
      came = promised.1;
      each = m.each;
      safe = safe_of from from_now to to_now device there moved m promised.0 promised.1;
      done = λ zero. (done.0, done.1, done.3, copy_left to to_now there m.made done.1 promised.1 done.2, one.0, blocks told, done.4, one.2);
      sound = (λ e. omega (arith, e), λ e. omega (arith, e));
      refused = λ e. absurd (omega (arith, e));
      other = λ o. absurd (other o);
      completes = λ room. inl refl;
      apart = reaches_nothing from from_now to to_now there m.made promised.1 promised.0.passes.extends size;
    }

-- one that halted
pub moves_ended : (from_tells to_tells : Type 0) (told : from_tells) (to_told : to_tells) (from from_now to to_now : Outside) (written written_now : Option (List ℕ)) (Done Going : Type 0) (device : Device) (there : Option Device) (moved : Result Moved Halt) (halt : Halt)
    → Stands from.history.present (Some device) → IsServedImage from.history.present → Stands to.history.present there → IsServedImage to.history.present → from_now.head ≤ from_now.capacity → length from_now.history.present.recorded ≡ length from.history.present.recorded → Clears from_tells None from from_now Done → Spans to_tells to to_now Going
    → EndsAs moved (Err halt) written written_now → Moves from.history from_now.history to.history to_now.history device there (IsShort device 1 (to.capacity - to.head)) moved → MovesDevice from from_now to to_now written written_now (status_at halt) device there
moves_ended from_tells to_tells told to_told from from_now to to_now written written_now Done Going device there moved halt stands served stands_to served_to room size clears spans said m =
    let promised = promises from_tells to_tells told to_told from from_now to to_now Done Going device there moved stands served stands_to served_to room clears spans m in record {
      marks = m.marks;
      left = promised.0;
      cleared = m.cleared;
      made = m.made;
      came = promised.1;
      each = m.each;
      safe = safe_of from from_now to to_now device there moved m promised.0 promised.1;
      done = λ zero. absurd (never_zero halt zero);
      sound = elim way as (λ e. (status_at halt ≡ 8 → ⊥) × (status_at halt ≡ 9 → ⊥)) [
        | inl out ↦ subst (λ (h : Halt). (status_at h ≡ 8 → ⊥) × (status_at h ≡ 9 → ⊥)) (sym out) (λ e. omega (arith, e), λ e. omega (arith, e))
        | inr so ↦ named device there Short halt (halt_is so.0).0
      ];
      refused = λ ten. elim way as (λ e. (IsOther device there × Said halts.NotEmpty) ⊎ ((IsOther device there → ⊥) × Short × (HasCopy device there → ⊥) × Said halts.Full)) [
        | inl out ↦ absurd (let four : status_at halt ≡ 4 = ap status_at out in omega (arith, four, ten))
        | inr so ↦ refused_at device there Short halt Said (halt_is so.0).0 (halt_is so.0).1 so.1 ten
      ];
      other = λ o. elim way as (λ e. Stops (status_at halt)) [
        | inl out ↦ subst (λ (h : Halt). Stops (status_at h)) (sym out) (inr (inl four))
        | inr so ↦ stops_at device there Short halt (halt_is so.0).0
      ];
      completes = λ room. elim way as (λ e. Completes (status_at halt)) [
        | inl out ↦ subst (λ (h : Halt). Completes (status_at h)) (sym out) (inr (inl four))
        | inr so ↦ completes_at device there (to.capacity - to.head) halt (halt_is so.0).0 room
      ];
      apart = reaches_nothing from from_now to to_now there m.made promised.1 promised.0.passes.extends size;
    }
  where
    Short : Type 0
    Short = IsShort device 1 (to.capacity - to.head)

    Said : Halt → Type 0
    Said h = Got written (last_line_of h) written_now

    way : (halt ≡ halts.Output) ⊎ ((moved ≡ Err halt) × Said halt)
    way = ended moved halt written written_now said

    halt_is : moved ≡ Err halt → IsHalt device there Short halt × (IsOther device there → Refuses {X = Moved} (Err halt))
    halt_is is = halt_at from.history from_now.history to.history to_now.history device there Short moved halt m is
