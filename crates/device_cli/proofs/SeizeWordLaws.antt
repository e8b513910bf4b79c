-- What follows of the word `seize`, by its exit status.
use Rattle.std.proofs.Common.{◌≡◌, ℕ, zero, suc, ◌<◌, ◌+◌, List, [], ◌∷◌, ◌++◌, Option, None, Some, Ok, Err, ◌⊎◌, inl, inr, length, take, drop, get_or, refl, sym, ◌∙◌, subst, ap, arith, append_assoc, append-nil}
use Rattle.std.specs.Prelude.{◌≢◌, IfErr, flat_map}
use Rattle.sdbt_base.specs.Told.{Got, GotPart}
use Rattle.sdbt_base.proofs.ToldLaws.{Got-then, GotPart-then}
use Rattle.platform.specs.Image.{Image}
use Rattle.page_store.specs.Roots.{IsBadCell, IsRootWithin}
use Rattle.seizure.specs.Reads.{ReadsFew}
use Rattle.seizure.specs.Report.{Begins, BeginsSome, Holds, Seized, roots_of}
use Rattle.seizure.proofs.SearchLaws.{given_some}
use Rattle.root_codec.specs.declared.root.Root.{Root}
use Rattle.root_codec.specs.RootRecord.{root_bytes}
use Rattle.device_terms.specs.Served.{IsServedCell}
use Rattle.seizure.specs.declared.opened.Opened.{Opened}
use Rattle.line_run.specs.Stops.{Ending, IsSound, exit_of, HasCause}
use Rattle.line_run.specs.Puts.{HasPut, damage_line}
use Rattle.sdbt_base.specs.Counts.{Counts, NoneRose}
use Rattle.device_cli.specs.Given.{AreGiven, HasBadRecord}
use Rattle.device_cli.specs.Seizing.{HasKeys, IsReportOf, IsRefused, ReadsFewFor, Seizes, opened_line}
use Rattle.session_calls.specs.declared.stops.DeviceStop.{DeviceStop}
use Rattle.session_calls.specs.declared.stops.DeviceStop.TheVariants as device
use Rattle.line_run.specs.declared.stop.Stop.TheVariants as stops
use Rattle.line_run.specs.declared.stop.Stop.{Stop}
use Rattle.device_cli.proofs.GivenLaws.{given_not_bad}

-- ---- the cell

-- a cell that can be served is none that a seizure refuses
pub not_bad : (cell : Option (List ℕ)) (pages : ℕ) → IsServedCell cell pages → IsBadCell pages cell → ⊥
not_bad None pages served bad = bad.full refl
not_bad (Some bytes) pages (root, served, is) bad = bad.bad root served (ap Some is)

-- nor is one that is empty, or holds the root record of a root within the pages
pub held_not_bad : (head : ℕ) (cell : Option (List ℕ)) → (root : Option Root) × Holds head cell root → IsBadCell head cell → ⊥
held_not_bad head cell (None, holds) bad = bad.full holds
held_not_bad head cell (Some root, holds) bad = bad.bad root holds.0 holds.1

-- nor one from whose key chains begin
begun_not_bad : (head : ℕ) (cell : Option (List ℕ)) (keys roots : List (List ℕ)) → Begins head cell keys roots → IsBadCell head cell → ⊥
begun_not_bad head cell keys roots (root, holds, is) bad = held_not_bad head cell (root, holds) bad

some_not_bad : (head : ℕ) (cell : Option (List ℕ)) (keys : List (List ℕ)) → BeginsSome head cell keys → IsBadCell head cell → ⊥
some_not_bad head cell keys (roots, begins, some) bad = begun_not_bad head cell keys roots begins bad

-- where no key is given, chains begin with that of the root record in the cell
pub root_begun : (head : ℕ) (cell : Option (List ℕ)) → BeginsSome head cell [] → (root : Root) × IsRootWithin head root × (cell ≡ Some (root_bytes root))
root_begun head cell (roots, (None, holds, is), some) = absurd (some is)
root_begun head cell (roots, (Some root, holds, is), some) = (root, holds.0, holds.1)

-- where keys are given, with these, over a cell that is good
words_begin : (head : ℕ) (cell : Option (List ℕ)) (keys : List (List ℕ)) → keys ≢ [] → (root : Option Root) × Holds head cell root → BeginsSome head cell keys
words_begin head cell keys some (root, holds) = (roots_of keys root, (root, holds, refl), given_some keys root some)

-- with some key, behind the first look at the cell, over the same image
pub begins_for : (head head_then : ℕ) (image image_then : Image) (keys keys_then : List (List ℕ)) → head_then ≡ head → image_then ≡ image → keys_then ≡ keys
    → (root : Option Root) × Holds head image.cell root → (keys_then ≢ []) ⊎ BeginsSome head_then image_then.cell keys_then → BeginsSome head image.cell keys
begins_for head head_then image image_then keys keys_then there same these good either =
    let at_head = subst (λ (h : ℕ). (keys_then ≢ []) ⊎ BeginsSome h image_then.cell keys_then) there either in
    let at_image = subst (λ (i : Image). (keys_then ≢ []) ⊎ BeginsSome head i.cell keys_then) same at_head in
    elim (subst (λ (ks : List (List ℕ)). (ks ≢ []) ⊎ BeginsSome head image.cell ks) these at_image) [
      | inl some ↦ words_begin head image.cell keys some good
      | inr begins ↦ begins
    ]

-- a cell that can be served is not what a seizure is refused for, but for a word
pub only_word : (head : ℕ) (image : Image) (records : List (List ℕ)) → IsServedCell image.cell head → IsRefused head image records → HasBadRecord head records
only_word head image records served (inl bad) = absurd (not_bad image.cell head served bad)
only_word head image records served (inr bad) = bad

-- what is reported is not refused
reported_not_refused : (tells : Type 0) (head : ℕ) (image : Image) (records : List (List ℕ)) (seized : Seized) → IsReportOf tells head image records seized → tells → IsRefused head image records → ⊥
reported_not_refused tells head image records seized (keys, given, report) told (inl bad) = begun_not_bad head image.cell keys (report told).0 (report told).1 bad
reported_not_refused tells head image records seized (keys, given, report) told (inr bad) = given_not_bad head records keys given bad

-- nor where chains begin with some key
keys_not_refused : (head : ℕ) (image : Image) (records : List (List ℕ)) → HasKeys head image records → IsRefused head image records → ⊥
keys_not_refused head image records (keys, given, begins) (inl bad) = some_not_bad head image.cell keys begins bad
keys_not_refused head image records (keys, given, begins) (inr bad) = given_not_bad head records keys given bad

-- ---- the exit status

-- at 8 it is refused, and the line that says so was put
pub at_eight : (tells : Type 0) (head : ℕ) (image : Image) (records : List (List ℕ)) (written written_now : Option (List ℕ)) (ending : Ending) → Seizes tells head image records written written_now ending → exit_of ending ≡ 8
    → (tells → IsRefused head image records) × Got written (damage_line device.BadRoot) written_now
at_eight tells head image records written now (Ok done) h e = absurd (omega (arith, e))
at_eight tells head image records written now (Err stops.Source) h e = absurd h
at_eight tells head image records written now (Err stops.Sink) h e = absurd (omega (arith, e))
at_eight tells head image records written now (Err stops.Limit) h e = absurd h
at_eight tells head image records written now (Err (stops.Device device.Platform)) h e = absurd (omega (arith, e))
at_eight tells head image records written now (Err (stops.Device device.Tape)) h e = absurd h
at_eight tells head image records written now (Err (stops.Device device.Ledger)) h e = absurd h
at_eight tells head image records written now (Err (stops.Device device.BadRoot)) h e = h
at_eight tells head image records written now (Err (stops.Device (device.BadRecord addr))) h e = absurd h
at_eight tells head image records written now (Err (stops.Device device.Memory)) h e = absurd (omega (arith, e))

-- where it is refused it is 8, unless that could not be told or not be said
pub bad_status : (tells : Type 0) (head : ℕ) (image : Image) (records : List (List ℕ)) (written written_now : Option (List ℕ)) (ending : Ending) → Seizes tells head image records written written_now ending
    → tells → IsRefused head image records → (exit_of ending ≡ 8) ⊎ (exit_of ending ≡ 4) ⊎ (exit_of ending ≡ 5)
bad_status tells head image records written now (Ok done) h told bad = absurd (reported_not_refused tells head image records h.0 h.1 told bad)
bad_status tells head image records written now (Err stops.Source) h told bad = absurd h
bad_status tells head image records written now (Err stops.Sink) h told bad = inr (inl refl)
bad_status tells head image records written now (Err stops.Limit) h told bad = absurd h
bad_status tells head image records written now (Err (stops.Device device.Platform)) h told bad = inr (inr refl)
bad_status tells head image records written now (Err (stops.Device device.Tape)) h told bad = absurd h
bad_status tells head image records written now (Err (stops.Device device.Ledger)) h told bad = absurd h
bad_status tells head image records written now (Err (stops.Device device.BadRoot)) h told bad = inl refl
bad_status tells head image records written now (Err (stops.Device (device.BadRecord addr))) h told bad = absurd h
bad_status tells head image records written now (Err (stops.Device device.Memory)) h told bad = absurd (keys_not_refused head image records (h.0 told) bad)

-- else it is 0, unless something failed or no memory was given
pub complete_seizure : (tells : Type 0) (head : ℕ) (image : Image) (records : List (List ℕ)) (before now : Counts) (written written_now : Option (List ℕ)) (ending : Ending) → Seizes tells head image records written written_now ending
    → IfErr ending (HasCause before now) → tells → (IsRefused head image records → ⊥) → NoneRose before now → (exit_of ending ≡ 0) ⊎ (exit_of ending ≡ 11)
complete_seizure tells head image records before now written written_now (Ok done) h cause told good quiet = inl refl
complete_seizure tells head image records before now written written_now (Err stops.Source) h cause told good quiet = absurd h
complete_seizure tells head image records before now written written_now (Err stops.Sink) h cause told good quiet = absurd (quiet.output cause.0)
complete_seizure tells head image records before now written written_now (Err stops.Limit) h cause told good quiet = absurd h
complete_seizure tells head image records before now written written_now (Err (stops.Device device.Platform)) h cause told good quiet = absurd (quiet.platform cause.0)
complete_seizure tells head image records before now written written_now (Err (stops.Device device.Tape)) h cause told good quiet = absurd h
complete_seizure tells head image records before now written written_now (Err (stops.Device device.Ledger)) h cause told good quiet = absurd h
complete_seizure tells head image records before now written written_now (Err (stops.Device device.BadRoot)) h cause told good quiet = absurd (good (h.0 told))
complete_seizure tells head image records before now written written_now (Err (stops.Device (device.BadRecord addr))) h cause told good quiet = absurd h
complete_seizure tells head image records before now written written_now (Err (stops.Device device.Memory)) h cause told good quiet = inr refl

-- ---- what was put

-- a first part of a text is one of a longer text
front_take : (n : ℕ) (bytes rest : List ℕ) → (m : ℕ) × (take n bytes ≡ take m (bytes ++ rest))
front_take zero bytes rest = (0, refl)
front_take (suc n) [] rest = (0, refl)
front_take (suc n) (byte ∷ bytes) rest = let more = front_take n bytes rest in (suc more.0, ap (λ (l : List ℕ). byte ∷ l) more.1)

got_front : (written written_now : Option (List ℕ)) (bytes rest : List ℕ) → GotPart written bytes written_now → GotPart written (bytes ++ rest) written_now
got_front written now bytes rest (n, got) = let more = front_take n bytes rest in (more.0, subst (λ (l : List ℕ). Got written l now) more.1 got)

-- a line that was not put whole, behind what was, is a first part of the text
pub put_front : (stop : Stop) (before line rest : List ℕ) (a b c : Option (List ℕ)) → Got a before b → HasPut line (Err stop) b c → HasPut (before ++ (line ++ rest)) (Err stop) a c
put_front stops.Sink before line rest a b c got part =
    subst (λ (l : List ℕ). GotPart a l c) (append_assoc before line rest) (got_front a c (before ++ line) rest (GotPart-then a before b line c got part))
put_front stops.Source before line rest a b c got part = absurd part
put_front stops.Limit before line rest a b c got part = absurd part
put_front (stops.Device stop) before line rest a b c got part = absurd part

-- the same of a last line, whatever became of it
pub put_last : (ending : Ending) (before line : List ℕ) (a b c : Option (List ℕ)) → Got a before b → HasPut line ending b c → HasPut (before ++ line) ending a c
put_last (Ok done) before line a b c got put = Got-then a before b line c got put
put_last (Err stops.Sink) before line a b c got put = GotPart-then a before b line c got put
put_last (Err stops.Source) before line a b c got put = absurd put
put_last (Err stops.Limit) before line a b c got put = absurd put
put_last (Err (stops.Device stop)) before line a b c got put = absurd put

-- the lines in front of an item, the item's own, and the lines behind it
flat_split : (opened : List Opened) (i : ℕ) (d : Opened) → i < length opened
    → flat_map opened_line opened ≡ flat_map opened_line (take i opened) ++ (opened_line (get_or opened i d) ++ flat_map opened_line (drop (suc i) opened))
flat_split [] i d within = absurd (omega (arith, within))
flat_split (o ∷ opened) zero d within = refl
flat_split (o ∷ opened) (suc i) d within =
    ap (λ (l : List ℕ). opened_line o ++ l) (flat_split opened i d (omega (arith, within)))
    ∙ sym (append_assoc (opened_line o) (flat_map opened_line (take i opened)) (opened_line (get_or opened i d) ++ flat_map opened_line (drop (suc i) opened)))

-- an item's line that was not put whole
pub put_stopped : (opened : List Opened) (i : ℕ) (d : Opened) (line : List ℕ) (stop : Stop) (a b c : Option (List ℕ)) → i < length opened → line ≡ opened_line (get_or opened i d)
    → Got a (flat_map opened_line (take i opened)) b → HasPut line (Err stop) b c → HasPut (flat_map opened_line opened) (Err stop) a c
put_stopped opened i d line stop a b c within is got put =
    let text = flat_split opened i d within in
    subst (λ (l : List ℕ). HasPut l (Err stop) a c) (sym text)
    (put_front stop (flat_map opened_line (take i opened)) (opened_line (get_or opened i d)) (flat_map opened_line (drop (suc i) opened)) a b c got
    (subst (λ (l : List ℕ). HasPut l (Err stop) b c) is put))

-- ---- how it ends

got_none : (written written_now : Option (List ℕ)) → Got written [] written_now → written_now ≡ written
got_none None now got = got
got_none (Some bytes) now got = got ∙ ap (λ (b : List ℕ). Some b) (append-nil bytes)

-- why a seizure does not come about
abbrev IsWhy : DeviceStop → Type 0
IsWhy stop = (stop ≡ device.BadRoot) ⊎ (stop ≡ device.Memory) ⊎ (stop ≡ device.Platform)

no_tape : IsWhy device.Tape → ⊥
no_tape (inl e) = cc
no_tape (inr (inl e)) = cc
no_tape (inr (inr e)) = cc

no_ledger : IsWhy device.Ledger → ⊥
no_ledger (inl e) = cc
no_ledger (inr (inl e)) = cc
no_ledger (inr (inr e)) = cc

no_record : (addr : ℕ) → IsWhy (device.BadRecord addr) → ⊥
no_record addr (inl e) = cc
no_record addr (inr (inl e)) = cc
no_record addr (inr (inr e)) = cc

-- its last line was put, if it has one
pub stopped_whole : (tells : Type 0) (head : ℕ) (image : Image) (records : List (List ℕ)) (written written_now : Option (List ℕ)) (stop : DeviceStop)
    → (tells → stop ≡ device.BadRoot → IsRefused head image records) → (tells → stop ≡ device.Memory → HasKeys head image records) → IsWhy stop
    → Got written (damage_line stop) written_now → Seizes tells head image records written written_now (Err (stops.Device stop))
unfolding damage_line
stopped_whole tells head image records written now device.BadRoot bad memory why got = (λ told. bad told refl, got)
stopped_whole tells head image records written now device.Memory bad memory why got = (λ told. memory told refl, got_none written now got)
stopped_whole tells head image records written now device.Platform bad memory why got = got_none written now got
stopped_whole tells head image records written now device.Tape bad memory why got = absurd (no_tape why)
stopped_whole tells head image records written now device.Ledger bad memory why got = absurd (no_ledger why)
stopped_whole tells head image records written now (device.BadRecord addr) bad memory why got = absurd (no_record addr why)

-- or not whole
pub stopped_part : (tells : Type 0) (head : ℕ) (image : Image) (records : List (List ℕ)) (written written_now : Option (List ℕ)) (stop : DeviceStop)
    → (tells → stop ≡ device.BadRoot → IsRefused head image records) → IsWhy stop → (IsSound stop → ⊥)
    → GotPart written (damage_line stop) written_now → Seizes tells head image records written written_now (Err stops.Sink)
stopped_part tells head image records written now device.BadRoot bad why unsound part = inr (λ told. bad told refl, part)
stopped_part tells head image records written now device.Memory bad why unsound part = absurd (unsound tt)
stopped_part tells head image records written now device.Platform bad why unsound part = absurd (unsound tt)
stopped_part tells head image records written now device.Tape bad why unsound part = absurd (unsound tt)
stopped_part tells head image records written now device.Ledger bad why unsound part = absurd (unsound tt)
stopped_part tells head image records written now (device.BadRecord addr) bad why unsound part = absurd (no_record addr why)

-- a cell that can be seized, and words that are root records, are not refused
pub not_refused : (head : ℕ) (image : Image) (records keys : List (List ℕ)) → (IsBadCell head image.cell → ⊥) → AreGiven head records keys → IsRefused head image records → ⊥
not_refused head image records keys good given refused = elim refused [ inl cell ↦ good cell | inr word ↦ given_not_bad head records keys given word ]

-- how often pages were read behind the first look at the cell, over the same image
pub few_for : (head head_then : ℕ) (image image_then : Image) (records keys keys_then : List (List ℕ)) (reads mid now : ℕ) → head_then ≡ head → image_then ≡ image → keys_then ≡ keys → mid ≡ reads + 1
    → (IsRefused head image records → ⊥) → AreGiven head records keys → ReadsFew head_then image_then.cell keys_then image_then.readable mid now → ReadsFewFor head image records reads now
few_for head head_then image image_then records keys keys_then reads mid now there same these before good given few =
    let at_head = subst (λ (h : ℕ). ReadsFew h image_then.cell keys_then image_then.readable mid now) there few in
    let at_image = subst (λ (i : Image). ReadsFew head i.cell keys_then i.readable mid now) same at_head in
    let at_keys = subst (λ (ks : List (List ℕ)). ReadsFew head image.cell ks image.readable mid now) these at_image in
    inr (good, keys, given, subst (λ (r : ℕ). ReadsFew head image.cell keys image.readable r now) before at_keys)
