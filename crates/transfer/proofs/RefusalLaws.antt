-- When a move is refused, on any images.
use Rattle.std.proofs.Common.{◌≡◌, ◌≢◌, ◌<◌, ◌≤◌, ◌+◌, ◌*◌, ◌∙◌, ◌-◌, ℕ, Option, None, Some, Bool, true, false, Result, Ok, Err, refl, sym, ap, subst, arith}
use Rattle.std.specs.Prelude.{IfErr, IfOk, IsTrue}
use Rattle.sdbt_base.specs.Arrays.{Device, mounted, new_device, session_on}
use Rattle.sdbt_base.specs.Counts as device
use Rattle.sdbt_base.specs.declared.tapes.Tape.{Ghosts as TapeGhosts}
use Rattle.platform.specs.declared.platforms.Platform.{Ghosts as PlatformGhosts}
use Rattle.platform.specs.Image.{Image}
use Rattle.device_core.specs.Publishing.{IsFormatCause}
use Rattle.device_core.specs.declared.refusals.FormatRefusal.{FormatRefusal}
use Rattle.device_core.specs.declared.refusals.FormatRefusal.TheVariants as format
use Rattle.device_course.specs.States.{IsAt}
use Rattle.root_codec.specs.Laws.{one_root}
use Rattle.root_codec.specs.RootRecord.{root_bytes}
use Rattle.root_codec.specs.declared.root.Root.{Root}
use Rattle.page_store.specs.Kept.{IsRootOf}
use Rattle.device_session.specs.Open.{IsOpen, blocks_of, root_of}
use Rattle.device_session.specs.Reading.{room_of}
use Rattle.device_session.specs.Sessions.{Session}
use Rattle.session_calls.specs.Mounts.{IsFound, IsMountStop}
use Rattle.session_calls.specs.declared.stops.DeviceStop.{DeviceStop}
use Rattle.session_calls.specs.declared.stops.DeviceStop.TheVariants as stops
use Rattle.transfer.specs.Moving.{Refuses, Refusing}
use Rattle.transfer.specs.Opening.{halt_of_format}
use Rattle.transfer.specs.Refusals.{AreAlike, AreUnlike, Differ, HaltsAt, IsIdle, IsOfCopy, IsOfReads, IsOn, IsOtherThan, IsRefused, OpensNot}
use Rattle.transfer.specs.Running.{HaltsFrom, HaltsTo, HasSome, IsBehindBoth, IsOfCommit, IsOfOpening}
use Rattle.transfer.specs.Whole.{IsFreshRoot}
use Rattle.transfer.specs.declared.halts.Halt.{Halt}
use Rattle.transfer.proofs.FillLaws.{blank_fresh, new_is_blank}
use Rattle.transfer.specs.declared.halts.Halt.TheVariants as halts

-- ---- halts between open sessions

pub reads_from : (tells : Type 0) (image : Image) (halt : Halt) → HaltsFrom tells image halt → IsOfReads halt
reads_from tells image halts.NoDevice is = absurd is
reads_from tells image halts.NotEmpty is = absurd is
reads_from tells image halts.Full is = absurd is
reads_from tells image halts.Output is = absurd is
reads_from tells image (halts.From stops.Platform) is = tt
reads_from tells image (halts.From stops.Memory) is = tt
reads_from tells image (halts.From stops.Tape) is = absurd is
reads_from tells image (halts.From stops.Ledger) is = absurd is
reads_from tells image (halts.From stops.BadRoot) is = absurd is
reads_from tells image (halts.From (stops.BadRecord addr)) is = tt
reads_from tells image (halts.To stop) is = absurd is

pub copy_to : (tells Compared Written : Type 0) (image : Image) (halt : Halt) → HaltsTo tells Compared Written image halt → IsOfCopy halt
copy_to tells Compared Written image halts.NoDevice is = absurd is
copy_to tells Compared Written image halts.NotEmpty is = absurd is
copy_to tells Compared Written image halts.Full is = tt
copy_to tells Compared Written image halts.Output is = absurd is
copy_to tells Compared Written image (halts.From stop) is = absurd is
copy_to tells Compared Written image (halts.To stops.Platform) is = tt
copy_to tells Compared Written image (halts.To stops.Memory) is = tt
copy_to tells Compared Written image (halts.To stops.Tape) is = tt
copy_to tells Compared Written image (halts.To stops.Ledger) is = tt
copy_to tells Compared Written image (halts.To stops.BadRoot) is = absurd is
copy_to tells Compared Written image (halts.To (stops.BadRecord addr)) is = tt

pub reads_copy : (halt : Halt) → IsOfReads halt → IsOfCopy halt
reads_copy halts.NoDevice is = is
reads_copy halts.NotEmpty is = is
reads_copy halts.Full is = absurd is
reads_copy halts.Output is = is
reads_copy (halts.From stop) is = is
reads_copy (halts.To stops.Platform) is = tt
reads_copy (halts.To stops.Memory) is = tt
reads_copy (halts.To stops.Tape) is = tt
reads_copy (halts.To stops.Ledger) is = tt
reads_copy (halts.To stops.BadRoot) is = is
reads_copy (halts.To (stops.BadRecord addr)) is = tt

pub copy_from : (tells : Type 0) (image : Image) (halt : Halt) → HaltsFrom tells image halt → IsOfCopy halt
copy_from tells image halt is = reads_copy halt (reads_from tells image halt is)

copy_reads : (halt : Halt) → IsOfCopy halt → (halt ≡ halts.Full → ⊥) → IsOfReads halt
copy_reads halts.NoDevice is never = is
copy_reads halts.NotEmpty is never = is
copy_reads halts.Full is never = never refl
copy_reads halts.Output is never = is
copy_reads (halts.From stop) is never = is
copy_reads (halts.To stops.Platform) is never = tt
copy_reads (halts.To stops.Memory) is never = tt
copy_reads (halts.To stops.Tape) is never = tt
copy_reads (halts.To stops.Ledger) is never = tt
copy_reads (halts.To stops.BadRoot) is never = is
copy_reads (halts.To (stops.BadRecord addr)) is never = tt

abbrev pub failed : (X : Type 0) → Halt → Result X Halt
failed X halt = Err halt

pub reads_to : {X : Type 0} (tells Compared Written : Type 0) (image : Image) (halt : Halt) → HaltsTo tells Compared Written image halt → (failed X halt ≡ failed X halts.Full → ⊥) → IsOfReads halt
reads_to {X = X} tells Compared Written image halt is never = copy_reads halt (copy_to tells Compared Written image halt is) (λ full. never (ap (failed X) full))

pub copy_behind : (halt : Halt) → IsOfCopy halt → IsBehindBoth halt
copy_behind halts.NoDevice is = is
copy_behind halts.NotEmpty is = absurd is
copy_behind halts.Full is = is
copy_behind halts.Output is = is
copy_behind (halts.From stop) is = is
copy_behind (halts.To stops.Platform) is = tt
copy_behind (halts.To stops.Memory) is = tt
copy_behind (halts.To stops.Tape) is = tt
copy_behind (halts.To stops.Ledger) is = tt
copy_behind (halts.To stops.BadRoot) is = is
copy_behind (halts.To (stops.BadRecord addr)) is = tt

pub reads_behind : (halt : Halt) → IsOfReads halt → IsBehindBoth halt
reads_behind halt is = copy_behind halt (reads_copy halt is)

pub copy_at : (Other : Type 0) (count free : ℕ) (halt : Halt) → IsOfCopy halt → (halt ≡ halts.Full → free < 42 * count) → HaltsAt Other count free halt
copy_at Other count free halts.NoDevice is full = tt
copy_at Other count free halts.NotEmpty is full = absurd is
copy_at Other count free halts.Full is full = full refl
copy_at Other count free halts.Output is full = tt
copy_at Other count free (halts.From stop) is full = tt
copy_at Other count free (halts.To stop) is full = tt

pub reads_at : (Other : Type 0) (count free : ℕ) (halt : Halt) → IsOfReads halt → HaltsAt Other count free halt
reads_at Other count free halts.NoDevice is = tt
reads_at Other count free halts.NotEmpty is = absurd is
reads_at Other count free halts.Full is = absurd is
reads_at Other count free halts.Output is = tt
reads_at Other count free (halts.From stop) is = tt
reads_at Other count free (halts.To stop) is = tt

commit_at : (Other : Type 0) (count free : ℕ) (halt : Halt) → IsOfCommit halt → (halt ≡ halts.Full → free < 42 * count) → HaltsAt Other count free halt
commit_at Other count free halts.NoDevice is full = tt
commit_at Other count free halts.NotEmpty is full = absurd is
commit_at Other count free halts.Full is full = full refl
commit_at Other count free halts.Output is full = tt
commit_at Other count free (halts.From stop) is full = tt
commit_at Other count free (halts.To stop) is full = tt

pub commit_at_all : {X : Type 0} (Other : Type 0) (count free : ℕ) (result : Result X Halt) → IfErr result IsOfCommit → (result ≡ Err halts.Full → free < 42 * count) → IfErr result (HaltsAt Other count free)
commit_at_all Other count free (Ok done) is full = tt
commit_at_all {X = X} Other count free (Err halt) is full = commit_at Other count free halt is (λ e. full (ap (failed X) e))

at_more : (Was Other : Type 0) (count many free room : ℕ) (halt : Halt) → (Was → Other) → (free < 42 * count → room < 42 * many) → HaltsAt Was count free halt → HaltsAt Other many room halt
at_more Was Other count many free room halts.NoDevice to short is = tt
at_more Was Other count many free room halts.NotEmpty to short is = to is
at_more Was Other count many free room halts.Full to short is = short is
at_more Was Other count many free room halts.Output to short is = tt
at_more Was Other count many free room (halts.From stop) to short is = tt
at_more Was Other count many free room (halts.To stop) to short is = tt

pub at_then : {X : Type 0} (Was Other : Type 0) (count many free room : ℕ) (result : Result X Halt) → (Was → Other) → (free < 42 * count → room < 42 * many) → IfErr result (HaltsAt Was count free) → IfErr result (HaltsAt Other many room)
at_then Was Other count many free room (Ok done) to short is = tt
at_then Was Other count many free room (Err halt) to short is = at_more Was Other count many free room halt to short is

-- ---- root records in cells

-- one cell has one root record
pub one_in : (image : Image) (one other : Root) → IsRootOf image one → IsRootOf image other → one ≡ other
one_in image one other is also =
    let both : Some (root_bytes one) ≡ Some (root_bytes other) = sym is.cell ∙ also.cell in
    let bytes : root_bytes one ≡ root_bytes other = cc in
    one_root one other is.in_range also.in_range bytes

pub not_empty : (image : Image) (root : Root) → IsRootOf image root → image.cell ≡ None → ⊥
not_empty image root is none =
    let both : Some (root_bytes root) ≡ None = sym is.cell ∙ none in
    cc

-- a session's
pub root_there : (image : Image) (session : Session) (pages : ℕ) → IsOpen session pages → image.cell ≡ Some (root_bytes session.root) → IsRootOf image session.root
root_there image session pages is_open cell = record { cell = cell; in_range = is_open.served.in_range; key = is_open.served.key }

-- ---- a whole move

pub refuses_as : (X Y : Type 0) (halt : Halt) → Refuses {X = X} (Err halt) → Refuses {X = Y} (Err halt)
refuses_as X Y halts.NoDevice is = is
refuses_as X Y halts.NotEmpty is = is
refuses_as X Y halts.Full is = is
refuses_as X Y halts.Output is = is
refuses_as X Y (halts.From stop) is = is
refuses_as X Y (halts.To stop) is = is

pub refusing_as : {X Y : Type 0} (from_tells to_tells : Type 0) (from to : Image) (free : ℕ) (halt : Halt) → Refusing {X = X} from_tells to_tells from to free (Err halt) → Refusing {X = Y} from_tells to_tells from to free (Err halt)
refusing_as {X = X} {Y = Y} from_tells to_tells from to free halt r = record { refused = r.refused; unlike = λ from_told to_told apart. refuses_as X Y halt (r.unlike from_told to_told apart) }

-- all was done
pub refusing_done : {X Y : Type 0} (from_tells to_tells : Type 0) (from to : Image) (free : ℕ) (x : X) (y : Y) → Refusing from_tells to_tells from to free (Ok x) → Refusing from_tells to_tells from to free (Ok y)
refusing_done from_tells to_tells from to free x y r = record { refused = tt; unlike = r.unlike }

-- a stop at the first platform
pub refusing_from : {X : Type 0} (from_tells to_tells : Type 0) (from to : Image) (free : ℕ) (stop : DeviceStop) → Refusing {X = X} from_tells to_tells from to free (Err (halts.From stop))
refusing_from from_tells to_tells from to free stop = record { refused = λ from_told to_told. tt; unlike = λ from_told to_told apart. tt }

-- no device there
pub refusing_none : {X : Type 0} (from_tells to_tells : Type 0) (from to : Image) (free : ℕ) → (from_tells → from.cell ≡ None) → Refusing {X = X} from_tells to_tells from to free (Err halts.NoDevice)
refusing_none from_tells to_tells from to free empty = record { refused = λ from_told to_told. tt; unlike = λ from_told to_told apart. absurd (not_empty from apart.0 apart.2 (empty from_told)) }

-- behind a look at the first platform
pub refusing_behind : {X : Type 0} (from_tells to_tells : Type 0) (from mid to : Image) (free : ℕ) (result : Result X Halt) → (from_tells → mid ≡ from) → Refusing from_tells to_tells mid to free result → Refusing from_tells to_tells from to free result
refusing_behind from_tells to_tells from mid to free (Ok done) same r = record {
  refused = tt;
  unlike = λ from_told to_told apart. r.unlike from_told to_told (subst (λ (i : Image). AreUnlike i to) (sym (same from_told)) apart);
}
refusing_behind {X = X} from_tells to_tells from mid to free (Err halt) same r = record {
  refused = λ from_told to_told. subst (λ (i : Image). IsRefused i to free halt) (same from_told) (r.refused from_told to_told);
  unlike = λ from_told to_told apart. r.unlike from_told to_told (subst (λ (i : Image). AreUnlike i to) (sym (same from_told)) apart);
}

-- no session was opened on the second platform
unopened_refused : (from to : Image) (free : ℕ) (root : Root) (halt : Halt) → IsRootOf from root → OpensNot to free halt → IsRefused from to free halt
unopened_refused from to free root halts.NoDevice at none = tt
unopened_refused from to free root halts.NotEmpty at none = absurd none
unopened_refused from to free root halts.Full at none = (root, at, omega (arith, none.1))
unopened_refused from to free root halts.Output at none = tt
unopened_refused from to free root (halts.From stop) at none = tt
unopened_refused from to free root (halts.To stop) at none = tt

unopened_unlike : (X : Type 0) (to : Image) (free : ℕ) (other : Root) (halt : Halt) → IsOfOpening halt → OpensNot to free halt → IsRootOf to other → Refuses {X = X} (Err halt)
unopened_unlike X to free other halts.NoDevice is none at = absurd is
unopened_unlike X to free other halts.NotEmpty is none at = tt
unopened_unlike X to free other halts.Full is none at = absurd (not_empty to other at none.0)
unopened_unlike X to free other halts.Output is none at = absurd is
unopened_unlike X to free other (halts.From stop) is none at = absurd is
unopened_unlike X to free other (halts.To stop) is none at = tt

pub refusing_unopened : {X : Type 0} (from_tells to_tells : Type 0) (from to : Image) (free : ℕ) (root : Root) (halt : Halt) → (from_tells → IsRootOf from root) → IsOfOpening halt → (to_tells → OpensNot to free halt)
    → Refusing {X = X} from_tells to_tells from to free (Err halt)
refusing_unopened {X = X} from_tells to_tells from to free root halt at is none = record {
  refused = λ from_told to_told. unopened_refused from to free root halt (at from_told) (none to_told);
  unlike = λ from_told to_told apart. unopened_unlike X to free apart.1 halt is (none to_told) apart.3;
}

-- one was opened, and then more was done
opened_refused : (Sees : Type 0) (from to : Image) (free room : ℕ) (root : Root) (is_new : Bool) (target : Session) (halt : Halt) → free < room + 2 → IsRootOf from root → IsOn to root.blocks root.order is_new target
    → ((IsTrue is_new → ⊥) → Sees → Differ from to root target.root) → HaltsAt (IsOtherThan root target.root Sees) root.mapped room halt → IsRefused from to free halt
opened_refused Sees from to free room root is_new target halts.NoDevice more at on differ is = tt
opened_refused Sees from to free room root true target halts.NotEmpty more at on differ is = absurd (is.0 on.1)
opened_refused Sees from to free room root false target halts.NotEmpty more at on differ is = (root, target.root, at, on, (is.0, λ alike. differ (λ never. absurd cc) (is.1 alike)))
opened_refused Sees from to free room root is_new target halts.Full more at on differ is = (root, at, omega (arith, more, is))
opened_refused Sees from to free room root is_new target halts.Output more at on differ is = tt
opened_refused Sees from to free room root is_new target (halts.From stop) more at on differ is = tt
opened_refused Sees from to free room root is_new target (halts.To stop) more at on differ is = tt

opened_unlike : {X : Type 0} (from to : Image) (source target : Session) (is_new : Bool) (result : Result X Halt) → IsRootOf from source.root → IsOn to source.root.blocks source.root.order is_new target
    → ((AreAlike (root_of source) (root_of target) → ⊥) → result ≡ Err halts.NotEmpty) → AreUnlike from to → Refuses result
opened_unlike from to source target true result at on unlike apart = absurd (not_empty to apart.1 apart.3 on.0)
opened_unlike {X = X} from to source target false result at on unlike apart =
    let one : source.root ≡ apart.0 = one_in from source.root apart.0 at apart.2 in
    let other : target.root ≡ apart.1 = one_in to target.root apart.1 on apart.3 in
    let is : result ≡ Err halts.NotEmpty = unlike (λ same. apart.4 (
      ap (λ (r : Root). r.blocks) (sym one) ∙ same.0 ∙ ap (λ (r : Root). r.blocks) other,
      ap (λ (r : Root). r.order) (sym one) ∙ same.1 ∙ ap (λ (r : Root). r.order) other,
    )) in
    subst (λ (r : Result X Halt). Refuses r) (sym is) tt

opened_halt : {X : Type 0} (Sees from_tells to_tells : Type 0) (from to : Image) (free room : ℕ) (root : Root) (is_new : Bool) (target : Session) (result : Result X Halt) → free < room + 2 → (from_tells → IsRootOf from root) → (to_tells → IsOn to root.blocks root.order is_new target)
    → (from_tells → to_tells → (IsTrue is_new → ⊥) → Sees → Differ from to root target.root) → IfErr result (HaltsAt (IsOtherThan root target.root Sees) root.mapped room) → IfErr result (λ halt. from_tells → to_tells → IsRefused from to free halt)
opened_halt Sees from_tells to_tells from to free room root is_new target (Ok done) more at on differ is = tt
opened_halt Sees from_tells to_tells from to free room root is_new target (Err halt) more at on differ is = λ from_told to_told. opened_refused Sees from to free room root is_new target halt more (at from_told) (on to_told) (differ from_told to_told) is

pub refusing_opened : {X : Type 0} (Sees from_tells to_tells : Type 0) (from to : Image) (free room blocks order : ℕ) (source target : Session) (is_new : Bool) (result : Result X Halt) → free < room + 2 → (from_tells → IsRootOf from source.root)
    → blocks ≡ blocks_of source → order ≡ (root_of source).order → (to_tells → IsOn to blocks order is_new target) → (from_tells → to_tells → (IsTrue is_new → ⊥) → Sees → Differ from to source.root target.root)
    → IfErr result (HaltsAt (IsOtherThan (root_of source) (root_of target) Sees) (root_of source).mapped room)
    → ((AreAlike (root_of source) (root_of target) → ⊥) → result ≡ Err halts.NotEmpty) → Refusing from_tells to_tells from to free result
refusing_opened Sees from_tells to_tells from to free room blocks order source target is_new result more at blocks_are order_is on differ halted unlike = record {
  refused = opened_halt Sees from_tells to_tells from to free room source.root is_new target result more at on_it differ halted;
  unlike = λ from_told to_told apart. opened_unlike from to source target is_new result (at from_told) (on_it to_told) unlike apart;
}
  where
    on_it : to_tells → IsOn to source.root.blocks source.root.order is_new target
    on_it told = subst (λ (n : ℕ). IsOn to n source.root.order is_new target) blocks_are (subst (λ (n : ℕ). IsOn to blocks n is_new target) order_is (on told))

-- ---- the opening of the second device

pub idle_found : {S : Type 0} (P : PlatformGhosts S) (platform mid : S) (session : Session) (result : Result (Option Session) DeviceStop) → result ≡ Ok (Some session) → IfOk result (IsFound P 256 platform mid) → IsIdle session
idle_found P platform mid session result is finds =
    let found : IsFound P 256 platform mid (Some session) = subst (λ (r : Result (Option Session) DeviceStop). IfOk r (IsFound P 256 platform mid)) is finds in
    record { untouched = found.0.untouched; mapped = found.0.mapped }

-- with room for so many nodes
pub room_found : {S : Type 0} (P : PlatformGhosts S) (nodes : ℕ) (platform mid : S) (session : Session) (result : Result (Option Session) DeviceStop) → result ≡ Ok (Some session) → IfOk result (IsFound P nodes platform mid) → room_of session ≡ nodes
room_found P nodes platform mid session result is finds =
    let found : IsFound P nodes platform mid (Some session) = subst (λ (r : Result (Option Session) DeviceStop). IfOk r (IsFound P nodes platform mid)) is finds in
    ap (λ cache. cache.capacity) found.0.empty

pub on_found : {S : Type 0} (P : PlatformGhosts S) (platform mid : S) (session : Session) (result : Result (Option Session) DeviceStop) → result ≡ Ok (Some session) → IfOk result (IsFound P 256 platform mid) → P.tells → IsRootOf (P.history platform).present session.root
on_found P platform mid session result is finds told =
    let found : IsFound P 256 platform mid (Some session) = subst (λ (r : Result (Option Session) DeviceStop). IfOk r (IsFound P 256 platform mid)) is finds in
    root_there (P.history platform).present session (P.head mid) found.0.is_open (found.0.found told)

-- on the root record of a new device
pub on_new : (image : Image) (session : Session) (blocks order : ℕ) → IsIdle session → IsAt image (Some session) (mounted (new_device blocks order) (session_on (new_device blocks order))) → IsFreshRoot blocks order session.root
on_new image session blocks order idle at =
    let stands = at.there.session.0.stands in
    let new : Device = new_device blocks order in
    let fresh = blank_fresh image session new new at (new_is_blank new new refl) in
    record { blocks_are = stands.blocks; order_is = stands.order; commit = fresh.0; mapped = sym idle.mapped ∙ fresh.1 }

-- of so many blocks and of this order, which are those of another root record
pub on_as : (image : Image) (blocks other order same_order : ℕ) (is_new : Bool) (session : Session) → blocks ≡ other → order ≡ same_order → IsOn image blocks order is_new session → IsOn image other same_order is_new session
on_as image blocks other order same_order is_new session are is on = subst (λ (n : ℕ). IsOn image n same_order is_new session) are (subst (λ (n : ℕ). IsOn image blocks n is_new session) is on)

-- a device that has mapped blocks isn't new
pub has_some : (image : Image) (blocks order : ℕ) (is_new : Bool) (session : Session) → IsOn image blocks order is_new session → 1 ≤ session.root.mapped → HasSome image
has_some image blocks order true session on some = absurd (let none = on.1.mapped in omega (arith, none, some))
has_some image blocks order false session on some = (session.root, on, some)

pub on_behind : {X : Type 0} (tells : Type 0) (image mid : Image) (blocks order : ℕ) (session : X → Session) (is_new : X → Bool) (result : Result X Halt) → (tells → mid ≡ image) → IfOk result (λ x. tells → IsOn mid blocks order (is_new x) (session x))
    → IfOk result (λ x. tells → IsOn image blocks order (is_new x) (session x))
on_behind tells image mid blocks order session is_new (Ok x) same on = λ told. subst (λ (i : Image). IsOn i blocks order (is_new x) (session x)) (same told) (on told)
on_behind tells image mid blocks order session is_new (Err halt) same on = tt

-- a device that there is is only looked at
pub still_behind : {X : Type 0} (tells : Type 0) (image mid now : Image) (is_new : X → Bool) (result : Result X Halt) → (tells → mid ≡ image) → IfOk result (λ x. tells → (IsTrue (is_new x) → ⊥) → now ≡ mid) → IfOk result (λ x. tells → (IsTrue (is_new x) → ⊥) → now ≡ image)
still_behind tells image mid now is_new (Ok x) same still = λ told never. still told never ∙ same told
still_behind tells image mid now is_new (Err halt) same still = tt

pub not_behind : {X : Type 0} (tells : Type 0) (image mid : Image) (free room : ℕ) (result : Result X Halt) → (tells → mid ≡ image) → room ≡ free → IfErr result (λ halt. tells → OpensNot mid room halt) → IfErr result (λ halt. tells → OpensNot image free halt)
not_behind tells image mid free room (Ok x) same size none = tt
not_behind tells image mid free room (Err halt) same size none = λ told. subst (λ (i : Image). OpensNot i free halt) (same told) (subst (λ (n : ℕ). OpensNot mid n halt) size (none told))

pub format_opens_not : {S R : Type 0} (P : PlatformGhosts S) (T : TapeGhosts R) (platform platform_now : S) (tape tape_now : R) (before now : device.Counts) (refusal : FormatRefusal) → IsFormatCause P T platform platform_now tape tape_now before now (Err refusal) → P.tells
    → (P.history platform).present.cell ≡ None → P.head platform ≤ P.capacity platform → OpensNot (P.history platform).present (P.capacity platform - P.head platform) (halt_of_format refusal)
format_opens_not P T platform platform_now tape tape_now before now format.NotEmpty cause told empty within = absurd (cause.0 told empty)
format_opens_not P T platform platform_now tape tape_now before now format.Full cause told empty within = (empty, omega (arith, cause.1))
format_opens_not P T platform platform_now tape tape_now before now format.Memory cause told empty within = λ is none. cause.1 (omega (arith, none, within))
format_opens_not P T platform platform_now tape tape_now before now format.TapeFault cause told empty within = tt
format_opens_not P T platform platform_now tape tape_now before now format.PlatformFault cause told empty within = tt
format_opens_not P T platform platform_now tape tape_now before now format.LedgerFault cause told empty within = tt

-- a mount that stopped: at a root record, or behind a format, for which a page was free
pub mount_opens_not : (tells : Type 0) (image : Image) (pages free : ℕ) (stop : DeviceStop) → tells → IsMountStop tells image.cell pages stop → OpensNot image free (halts.To stop)
mount_opens_not tells image pages free stops.Platform told is = tt
mount_opens_not tells image pages free stops.Memory told is = λ empty. absurd (let no : None ≡ Some (root_bytes (is told).0) = sym empty ∙ (is told).2 in cc)
mount_opens_not tells image pages free stops.BadRoot told is = tt
mount_opens_not tells image pages free stops.Tape told is = tt
mount_opens_not tells image pages free stops.Ledger told is = tt
mount_opens_not tells image pages free (stops.BadRecord addr) told is = tt

pub made_opens_not : (image : Image) (free : ℕ) (stop : DeviceStop) → free ≢ 0 → OpensNot image free (halts.To stop)
made_opens_not image free stops.Platform some = tt
made_opens_not image free stops.Memory some = λ empty. some
made_opens_not image free stops.BadRoot some = tt
made_opens_not image free stops.Tape some = tt
made_opens_not image free stops.Ledger some = tt
made_opens_not image free (stops.BadRecord addr) some = tt
