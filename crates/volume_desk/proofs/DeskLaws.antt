-- Lines of blocks, and tables that are written: what calls make of what a session and a table stand for.
use Rattle.std.proofs.Common.{◌≡◌, ◌≤◌, ◌<◌, ◌+◌, ◌*◌, ◌∙◌, ℕ, List, length, Some, Result, Ok, Err, inl, inr, refl, sym, ap, subst, arith}
use Rattle.std.specs.Prelude.{◌⊎◌, OnOk, slice_get}
use Rattle.std.proofs.lemmas.Bool.{cases_lt}
use Rattle.std.proofs.lemmas.List.Edits.{length-insert}
use Rattle.std.proofs.lemmas.Option.{get_or_from_slice_get, slice_get_within}
use Rattle.sdbt_base.specs.Arrays.{Device, Session as OpenSession, mounted, unmapped, written}
use Rattle.platform.specs.Image.{Image}
use Rattle.byte_arrays.specs.Ranges.{blocks_from}
use Rattle.device_course.specs.States.{IsAt}
use Rattle.device_session.specs.Open.{needed_by}
use Rattle.device_session.specs.Sessions.{Session}
use Rattle.line_run.specs.Stops.{IsSound}
use Rattle.device_course.specs.Held.{Held, trim_all}
use Rattle.session_calls.specs.Goes.{ReadsBlock, TrimsBlock, WritesBlock}
use Rattle.session_calls.specs.declared.stops.DeviceStop.{DeviceStop}
use Rattle.session_calls.specs.declared.stops.DeviceStop.TheVariants as stops
use Rattle.volume_table.specs.Tables.{FitsAt, IsLeastStart, IsPlaced, IsTable, table_bytes}
use Rattle.volume_table.specs.declared.volume.Volume.{Volume}
use Rattle.volume_lines.specs.Replies.{Reply, said}
use Rattle.volume_lines.specs.declared.replies.Reply.{Reply as Given}
use Rattle.volume_lines.specs.declared.replies.Reply.TheVariants as given
use Rattle.volume_terms.specs.Turn.{OnBlock}
use Rattle.volume_terms.specs.Volumes.{HasNoRoom, IsBlockOf, IsCount, IsNamed, IsNew, changed}
use Rattle.volume_terms.proofs.KeepingLaws.{changed_tabled, in_volume, trimmed_at, trimmed_tabled, wrote, wrote_tabled}
use Rattle.volume_terms.proofs.TableLaws.{not_first}
use Rattle.volume_desk.specs.Turns.{Changed, IsBlockAt, IsHeld, NoBlock}

pub on_ok : {X E : Type 0} (result : Result X E) (Claim : Type 0) → Claim → OnOk result Claim
on_ok (Ok x) Claim claim = claim
on_ok (Err e) Claim claim = tt

pub ok_follows : {X E : Type 0} (result : Result X E) (One Other : Type 0) → (One → Other) → OnOk result One → OnOk result Other
ok_follows (Ok x) One Other follows one = follows one
ok_follows (Err e) One Other follows one = tt

-- ---- stops

pub read_sound : (image : Image) (now : Session) (device : Device) (array : OpenSession) (block : ℕ) (bytes : List ℕ) (stop : DeviceStop) → ReadsBlock image now device array block bytes (Err stop) → IsSound stop
read_sound image now device array block bytes stops.Platform at = tt
read_sound image now device array block bytes stops.Memory at = absurd at
read_sound image now device array block bytes stops.Tape at = absurd at
read_sound image now device array block bytes stops.Ledger at = absurd at
read_sound image now device array block bytes stops.BadRoot at = absurd at
read_sound image now device array block bytes (stops.BadRecord addr) at = absurd at

pub write_sound : (image : Image) (now : Session) (device : Device) (array : OpenSession) (block : ℕ) (content : List ℕ) (stop : DeviceStop) → WritesBlock image now device array block content (Err stop) → IsSound stop
write_sound image now device array block content stops.Platform at = tt
write_sound image now device array block content stops.Memory at = tt
write_sound image now device array block content stops.Tape at = tt
write_sound image now device array block content stops.Ledger at = absurd at
write_sound image now device array block content stops.BadRoot at = absurd at
write_sound image now device array block content (stops.BadRecord addr) at = absurd at

pub trim_sound : (image : Image) (now : Session) (device : Device) (array : OpenSession) (block : ℕ) (stop : DeviceStop) → TrimsBlock image now device array block (Err stop) → IsSound stop
trim_sound image now device array block stops.Platform at = tt
trim_sound image now device array block stops.Memory at = tt
trim_sound image now device array block stops.Tape at = absurd at
trim_sound image now device array block stops.Ledger at = absurd at
trim_sound image now device array block stops.BadRoot at = absurd at
trim_sound image now device array block (stops.BadRecord addr) at = absurd at

-- ---- what a session and a table stand for

-- nothing was done
pub changed_none : (image : Image) (head : ℕ) (session : Session) (table : List Volume) (entry : Held) (Does : Reply → Held → Type 0) (reply : Reply) → IsHeld image head session table entry → Does reply entry
    → Changed image head table session entry Does reply
changed_none image head session table entry Does reply held does = record { next = entry; held = held; does = does; same = refl }

pub no_block : (table : List Volume) (entry : Held) (name : List ℕ) (block : ℕ) (Does : Held → ℕ → Reply → Held → Type 0) (reply : Given) (buffer : List ℕ) → NoBlock table name block reply → OnBlock table entry name block Does (said reply buffer) entry
no_block table entry name block Does given.Unknown buffer lacks = (lacks, refl)
no_block table entry name block Does given.Range buffer (v, named, out) = (v, named, out, refl)
no_block table entry name block Does given.Created buffer none = absurd none
no_block table entry name block Does given.Exists buffer none = absurd none
no_block table entry name block Does given.NoRoom buffer none = absurd none
no_block table entry name block Does (given.Content count) buffer none = absurd none
no_block table entry name block Does given.Done buffer none = absurd none
no_block table entry name block Does given.Full buffer none = absurd none
no_block table entry name block Does (given.Destroyed number) buffer none = absurd none
no_block table entry name block Does given.Uncommitted buffer none = absurd none
no_block table entry name block Does (given.Committed number) buffer none = absurd none
no_block table entry name block Does given.Bad buffer none = absurd none

block_has : (table : List Volume) (name : List ℕ) (block at : ℕ) (is : IsBlockAt table name block at) → IsBlockOf is.v at
block_has table name block at is = subst (IsBlockOf is.v) (sym is.is) (in_volume is.v block is.below)

pub held_wrote : (image image_now : Image) (head head_now : ℕ) (session now : Session) (table : List Volume) (entry : Held) (name : List ℕ) (block at : ℕ) (content : List ℕ) → IsBlockAt table name block at
    → IsHeld image head session table entry → IsAt image_now (Some now) (mounted entry.device (written entry.session at content)) → head_now ≡ head + 1 → needed_by now ≤ needed_by session + 41 * 1
    → IsHeld image_now head_now now table (wrote entry at content)
held_wrote image image_now head head_now session now table entry name block at content is held there pages needs = record {
  at = there;
  pages = omega (arith, held.pages, pages);
  needs = omega (arith, held.needs, needs);
  tabled = wrote_tabled entry at content table (not_first entry.device.blocks table is.v at held.tabled.is is.named.0 (block_has table name block at is)) held.tabled;
}

pub held_trimmed : (image image_now : Image) (head head_now : ℕ) (session now : Session) (table : List Volume) (entry : Held) (name : List ℕ) (block at : ℕ) → IsBlockAt table name block at
    → IsHeld image head session table entry → IsAt image_now (Some now) (mounted entry.device (unmapped entry.session at)) → head_now ≡ head → needed_by now ≤ needed_by session + 41 * 1
    → IsHeld image_now head_now now table (trimmed_at entry at)
held_trimmed image image_now head head_now session now table entry name block at is held there pages needs = record {
  at = there;
  pages = held.pages ∙ sym pages;
  needs = omega (arith, held.needs, needs);
  tabled = trimmed_tabled entry at table (not_first entry.device.blocks table is.v at held.tabled.is is.named.0 (block_has table name block at is)) held.tabled;
}

pub held_changed : (image image_now : Image) (head head_now : ℕ) (session now : Session) (table next : List Volume) (entry : Held) (v : Volume) → IsHeld image head session table entry
    → IsAt image_now (Some now) (mounted entry.device (trim_all (written entry.session 0 (table_bytes next)) (blocks_from v.start v.count))) → head_now ≡ head + 1 → needed_by now ≤ needed_by session + 41 * (1 + v.count)
    → IsTable entry.device.blocks next → 1 ≤ v.start → IsHeld image_now head_now now next (changed entry next v)
held_changed image image_now head head_now session now table next entry v held there pages needs is least = record {
  at = there;
  pages = omega (arith, held.pages, pages);
  needs = omega (arith, held.needs, needs);
  tabled = changed_tabled entry next v is least;
}

-- ---- tables

pub named_at : (table : List Volume) (name : List ℕ) (at : ℕ) (v : Volume) → slice_get table at ≡ Some v → v.name ≡ name → IsNamed table name v
named_at table name at v there same = ((at, slice_get_within table at v there, get_or_from_slice_get table at v v there), same)

pub out_of_range : (blocks count : ℕ) → (IsCount blocks count → ⊥) → (count ≡ 0) ⊎ (blocks < count)
out_of_range blocks count none =
    elim (cases_lt blocks count) [
      | inl above ↦ inr above
      | inr most ↦ elim (cases_lt 0 count) [
        | inl least ↦ absurd (none (record { least = least; most = most }))
        | inr zero ↦ inl (omega (arith, zero))
      ]
    ]

pub no_room : (blocks some count : ℕ) (table other : List Volume) → some ≡ blocks → other ≡ table → (length other ≡ 64) ⊎ ((start : ℕ) → FitsAt some other count start → ⊥) → HasNoRoom blocks table count
no_room blocks some count table other same is none =
    subst (λ (b : ℕ). HasNoRoom b table count) same (subst (λ (t : List Volume). HasNoRoom some t count) is none)

placed_room : (old : List Volume) (v : Volume) (new : List Volume) → IsPlaced old v new → length new ≤ 64 → length old < 64
placed_room old v new (at, within, is) most = omega (arith, ap length is, length-insert old at v within, most)

pub is_new : (blocks some count : ℕ) (table other placed : List Volume) (name : List ℕ) (v : Volume) → some ≡ blocks → other ≡ table → v.name ≡ name → v.count ≡ count → IsLeastStart some other count v.start → IsPlaced other v placed → IsTable some placed
    → IsNew blocks table name count v placed
is_new blocks some count table other placed name v same is named counted start puts whole =
    subst (λ (b : ℕ). IsNew b table name count v placed) same
    (subst (λ (t : List Volume). IsNew some t name count v placed) is
    (record { named = named; counted = counted; start = start; room = placed_room other v placed puts whole.most; puts = puts; is = whole }))
