-- What a run halts at that finds no device to be moved, or a root record that can't be served.
use Rattle.std.proofs.Common.{◌≡◌, ◌∙◌, ℕ, List, Option, None, Some, Result, Ok, Err, inl, inr, refl, sym, subst, length}
use Rattle.std.specs.Prelude.{IfErr, IfOk}
use Rattle.std.proofs.lemmas.Result.{IfOk-weaker}
use Rattle.platform.specs.Calls.{Looks}
use Rattle.platform.specs.Image.{Image}
use Rattle.platform.specs.declared.platforms.Platform.{Ghosts as PlatformGhosts}
use Rattle.root_codec.specs.RootRecord.{root_bytes}
use Rattle.page_store.specs.Roots.{IsRootWithin}
use Rattle.device_terms.specs.Served.{IsServedCell, IsServedImage}
use Rattle.device_session.specs.Sessions.{Session}
use Rattle.session_calls.specs.Mounts.{IsFound, IsMountStop}
use Rattle.session_calls.specs.declared.stops.DeviceStop.{DeviceStop}
use Rattle.session_calls.specs.declared.stops.DeviceStop.TheVariants as device
use Rattle.session_calls.proofs.MountLaws.{bad_served}
use Rattle.transfer.specs.Running.{HasMapped, IsAtRoot, IsBehindBoth, IsBehindMount, Looked, LookedThere}
use Rattle.transfer.specs.declared.halts.Halt.{Halt}
use Rattle.transfer.specs.declared.halts.Halt.TheVariants as halts
use Rattle.transfer.specs.declared.halts.Moved.{Moved}

full_root : (cell : Option (List ℕ)) (bytes : List ℕ) → cell ≡ Some bytes → cell ≡ None → ⊥
full_root cell bytes full none = let both : Some bytes ≡ None = sym full ∙ none in cc

pub found_at : {S : Type 0} (P : PlatformGhosts S) (platform mid : S) (session : Session) (result : Result (Option Session) DeviceStop) → result ≡ Ok (Some session) → IfOk result (IsFound P 256 platform mid) → IsFound P 256 platform mid (Some session)
found_at P platform mid session result is finds = subst (λ (r : Result (Option Session) DeviceStop). IfOk r (IsFound P 256 platform mid)) is finds

-- a mount that found a session found a cell that can be served
served_at : {S : Type 0} (P : PlatformGhosts S) (platform mid : S) (session : Session) (mount : Result (Option Session) DeviceStop) → mount ≡ Ok (Some session) → (P.tells → length (P.history platform).present.recorded ≡ P.head platform) → Looks P platform mid
    → IfOk mount (IsFound P 256 platform mid) → P.tells → IsServedImage (P.history platform).present
served_at P platform mid session mount is pages looks finds told =
    let image : Image = (P.history platform).present in
    let found : IsFound P 256 platform mid (Some session) = found_at P platform mid session mount is finds in
    let within : IsRootWithin (length image.recorded) session.root = subst (λ (n : ℕ). IsRootWithin n session.root) (looks.head ∙ sym (pages told)) found.0.is_open.served in
    subst (λ (cell : Option (List ℕ)). IsServedCell cell (length image.recorded)) (sym (found.0.found told)) (session.root, within, refl)

-- and then the run halts neither so nor so
pub looked_found : {S X : Type 0} (P : PlatformGhosts S) (platform mid : S) (session : Session) (mount : Result (Option Session) DeviceStop) (result : Result X Halt) → mount ≡ Ok (Some session) → (P.tells → length (P.history platform).present.recorded ≡ P.head platform) → Looks P platform mid
    → IfOk mount (IsFound P 256 platform mid) → IfErr result IsBehindMount → Looked P.tells (P.history platform).present result
looked_found {X = X} P platform mid session mount result is pages looks finds behind = record {
  bad = λ told bad. absurd (bad (served told));
  empty = λ told none. absurd (full_root image.cell (root_bytes session.root) (found.0.found told) none);
  bad_only = λ told no. absurd (subst (λ (r : Result X Halt). IfErr r IsBehindMount) no behind);
  empty_only = λ told no. absurd (subst (λ (r : Result X Halt). IfErr r IsBehindMount) no behind);
}
  where
    image : Image
    image = (P.history platform).present

    found : IsFound P 256 platform mid (Some session)
    found = found_at P platform mid session mount is finds

    served : P.tells → IsServedImage image
    served told = served_at P platform mid session mount is pages looks finds told

-- and what it says is mapped is what the root record in the cell does
pub told_found : {S : Type 0} (P : PlatformGhosts S) (platform mid : S) (session : Session) (mount : Result (Option Session) DeviceStop) (result : Result Moved Halt) (Number : Moved → Type 0) → mount ≡ Ok (Some session) → IfOk mount (IsFound P 256 platform mid)
    → IfOk result (λ moved. (moved.blocks ≡ session.mapped) × Number moved) → IfOk result (λ moved. (P.tells → HasMapped (P.history platform).present moved.blocks) × Number moved)
told_found P platform mid session mount result Number is finds same =
    let found : IsFound P 256 platform mid (Some session) = found_at P platform mid session mount is finds in
    IfOk-weaker result (λ moved. (moved.blocks ≡ session.mapped) × Number moved) (λ moved. (P.tells → HasMapped (P.history platform).present moved.blocks) × Number moved) (λ moved both. (λ told. (session.root, found.0.found told, both.0 ∙ found.0.mapped), both.1)) same

-- that found none
pub looked_none : {S X : Type 0} (P : PlatformGhosts S) (platform mid : S) (mount : Result (Option Session) DeviceStop) → mount ≡ Ok None → IfOk mount (IsFound P 256 platform mid) → Looked {X = X} P.tells (P.history platform).present (Err halts.NoDevice)
looked_none P platform mid mount is finds = record {
  bad = λ told bad. absurd (bad (subst (λ (cell : Option (List ℕ)). IsServedCell cell (length (P.history platform).present.recorded)) (sym (empty told)) tt));
  empty = λ told none. inl refl;
  bad_only = λ told no. cc;
  empty_only = λ told no. empty told;
}
  where
    empty : P.tells → (P.history platform).present.cell ≡ None
    empty = subst (λ (r : Result (Option Session) DeviceStop). IfOk r (IsFound P 256 platform mid)) is finds

-- where no memory is given the cell can be served, and a bad root record can't
memory_served : (tells : Type 0) (image : Image) (head : ℕ) → (tells → length image.recorded ≡ head) → IsMountStop tells image.cell head device.Memory → tells → IsServedImage image
memory_served tells image head pages is told =
    let (root, within, cell) = is told in
    subst (λ (c : Option (List ℕ)). IsServedCell c (length image.recorded)) (sym cell) (root, subst (λ (n : ℕ). IsRootWithin n root) (sym (pages told)) within, refl)

root_not_served : (tells : Type 0) (image : Image) (head : ℕ) → (tells → length image.recorded ≡ head) → IsMountStop tells image.cell head device.BadRoot → tells → IsServedImage image → ⊥
root_not_served tells image head pages is told served = bad_served image.cell head (subst (λ (n : ℕ). IsServedCell image.cell n) (pages told) served) (is told)

-- that stopped
pub looked_stop : {X : Type 0} (tells : Type 0) (image : Image) (head : ℕ) (stop : DeviceStop) → (tells → length image.recorded ≡ head) → IsMountStop tells image.cell head stop → Looked {X = X} tells image (Err (halts.From stop))
looked_stop tells image head device.Platform pages is = record { bad = λ told bad. inr refl; empty = λ told none. inr refl; bad_only = λ told e. cc; empty_only = λ told e. cc }
looked_stop tells image head device.Memory pages is = record {
  bad = λ told bad. absurd (bad (memory_served tells image head pages is told));
  empty = λ told none. absurd (full_root image.cell _ (is told).2 none);
  bad_only = λ told e. cc;
  empty_only = λ told e. cc;
}
looked_stop tells image head device.BadRoot pages is = record {
  bad = λ told bad. inl refl;
  empty = λ told none. absurd ((is told).full none);
  bad_only = λ told e. root_not_served tells image head pages is told;
  empty_only = λ told e. cc;
}
looked_stop tells image head device.Tape pages is = absurd is
looked_stop tells image head device.Ledger pages is = absurd is
looked_stop tells image head (device.BadRecord addr) pages is = absurd is

-- ---- the second device

-- a mount that found a session, or none
pub there_found : {S X : Type 0} (P : PlatformGhosts S) (platform mid : S) (session : Session) (mount : Result (Option Session) DeviceStop) (x : X) → mount ≡ Ok (Some session) → (P.tells → length (P.history platform).present.recorded ≡ P.head platform) → Looks P platform mid
    → IfOk mount (IsFound P 256 platform mid) → LookedThere P.tells (P.history platform).present (Ok x)
there_found P platform mid session mount x is pages looks finds = record {
  bad = λ told bad. absurd (bad (served_at P platform mid session mount is pages looks finds told));
  bad_only = λ told no. cc;
}

pub there_none : {X : Type 0} (tells : Type 0) (image : Image) (result : Result X Halt) → (tells → image.cell ≡ None) → (tells → result ≡ Err (halts.To device.BadRoot) → ⊥) → LookedThere tells image result
there_none tells image result empty never = record {
  bad = λ told bad. absurd (bad (subst (λ (cell : Option (List ℕ)). IsServedCell cell (length image.recorded)) (sym (empty told)) tt));
  bad_only = λ told is. absurd (never told is);
}

-- that stopped
pub there_stop : {X : Type 0} (tells : Type 0) (image : Image) (head : ℕ) (stop : DeviceStop) → (tells → length image.recorded ≡ head) → IsMountStop tells image.cell head stop → LookedThere {X = X} tells image (Err (halts.To stop))
there_stop tells image head device.Platform pages is = record { bad = λ told bad. tt; bad_only = λ told e. cc }
there_stop tells image head device.Memory pages is = record {
  bad = λ told bad. absurd (bad (memory_served tells image head pages is told));
  bad_only = λ told e. cc;
}
there_stop tells image head device.BadRoot pages is = record {
  bad = λ told bad. tt;
  bad_only = λ told e. root_not_served tells image head pages is told;
}
there_stop tells image head device.Tape pages is = absurd is
there_stop tells image head device.Ledger pages is = absurd is
there_stop tells image head (device.BadRecord addr) pages is = absurd is

-- behind a device that was made there is no bad root record
pub made_served : (tells : Type 0) (image : Image) (head : ℕ) (stop : DeviceStop) → tells → length image.recorded ≡ head → IsServedImage image → IsMountStop tells image.cell head stop → stop ≡ device.BadRoot → ⊥
made_served tells image head stop told pages served is bad =
    root_not_served tells image head (λ told'. pages) (subst (IsMountStop tells image.cell head) bad is) told served

-- a part that halted, as a part of another one
there_halt : (X Y : Type 0) (halt : Halt) → IsAtRoot {X = X} (Err halt) → IsAtRoot {X = Y} (Err halt)
there_halt X Y halts.NoDevice is = is
there_halt X Y halts.NotEmpty is = is
there_halt X Y halts.Full is = is
there_halt X Y halts.Output is = is
there_halt X Y (halts.From stop) is = is
there_halt X Y (halts.To device.Platform) is = is
there_halt X Y (halts.To device.Tape) is = is
there_halt X Y (halts.To device.Ledger) is = is
there_halt X Y (halts.To device.Memory) is = is
there_halt X Y (halts.To device.BadRoot) is = is
there_halt X Y (halts.To (device.BadRecord addr)) is = is

pub there_as : {X Y : Type 0} (tells : Type 0) (image : Image) (halt : Halt) → LookedThere {X = X} tells image (Err halt) → LookedThere {X = Y} tells image (Err halt)
there_as {X = X} {Y = Y} tells image halt looked = record {
  bad = λ told bad. there_halt X Y halt (looked.bad told bad);
  bad_only = λ told is. looked.bad_only told cc;
}

-- a part behind one that was done
pub there_behind : {X Y : Type 0} (tells : Type 0) (image : Image) (x : X) (result : Result Y Halt) → LookedThere tells image (Ok x) → IfErr result IsBehindBoth → LookedThere tells image result
there_behind {Y = Y} tells image x result looked behind = record {
  bad = λ told bad. absurd (looked.bad told bad);
  bad_only = λ told is. absurd (subst (λ (r : Result Y Halt). IfErr r IsBehindBoth) is behind);
}

-- one that ended before the second device was looked at
pub there_before : {X : Type 0} (tells : Type 0) (image : Image) (stop : DeviceStop) → LookedThere {X = X} tells image (Err (halts.From stop))
there_before tells image stop = record { bad = λ told bad. tt; bad_only = λ told is. cc }

pub there_no_device : {X : Type 0} (tells : Type 0) (image : Image) → LookedThere {X = X} tells image (Err halts.NoDevice)
there_no_device tells image = record { bad = λ told bad. tt; bad_only = λ told is. cc }
