-- What a destroyed volume leaves, and until when its blocks are free.
use Rattle.std.proofs.Common.{◌≡◌, ◌≢◌, ℕ, ◌+◌, ◌^◌, ◌<◌, ◌++◌, inl, inr, List, [], ◌∷◌, Option, refl, sym, ap, ◌∙◌, subst, arith}
use Rattle.std.specs.Prelude.{◌⊎◌, Bool, true, false, ◌||◌}
use Rattle.std.specs.List.{Contains}
use Rattle.std.specs.FinMap as map
use Rattle.std.proofs.lemmas.Bool.{cases_lt}
use Rattle.sdbt_base.specs.Arrays.{Blocks, Device, Session, committed_if, session_on, written, unmapped}
use Rattle.byte_arrays.specs.Ranges.{blocks_from}
use Rattle.device_course.specs.Held.{Held, after_commit, trim_all}
use Rattle.device_course.specs.Leading.{Leads, last_of}
use Rattle.volume_table.specs.Tables.{IsTable, table_bytes}
use Rattle.volume_table.specs.declared.volume.Volume.{Volume}
use Rattle.volume_lines.specs.Lines.{Line, Create, Read, Write, Trim, Destroy, Commit}
use Rattle.volume_lines.specs.Grammar.{Spells}
use Rattle.volume_lines.specs.Replies.{Reply, Created, Exists, NoRoom, Unknown, Content, Done, Range, Full, Destroyed, Uncommitted, Committed, Bad}
use Rattle.volume_terms.specs.Volumes.{IsTabled, IsTaken, IsBlockOf, changed}
use Rattle.volume_terms.specs.Turn.{Serves, Turn}
use Rattle.volume_terms.specs.Own.{named_by}
use Rattle.volume_terms.specs.Destroyed.{IfDestroyed, IsFree, IsUnused, IsInVolume, IsFreeUntilTaken, IsTakenIn, HasDestroyed, LeavesNothing}
use Rattle.volume_terms.proofs.ContentLaws.{get_written_apart, get_unmapped_apart}
use Rattle.volume_terms.proofs.TableLaws.{one_tabled, one_has, lacks_not, inside_of, placed_has, placed_only, taken_had, taken_only, taken_name, taken_table}
use Rattle.volume_terms.proofs.KeepingLaws.{Change, Nothing, Wrote, Trimmed, Placed, Taken, Ended, Saved, change_of, changes_tabled, changed_inside, changed_outside, changed_tabled}
use Rattle.volume_terms.proofs.OwnLaws.{turn_blocks}

-- ---- a commit of changes

trimmed_touched : (session : Session) (blocks : List ℕ) → session.touched ≡ true → (trim_all session blocks).touched ≡ true
trimmed_touched session [] touched = touched
trimmed_touched session (block ∷ blocks) touched =
    trimmed_touched (unmapped session block) blocks (ap (λ (b : Bool). b || map.contains_key session.contents block) touched)

pub changed_touched : (held : Held) (table : List Volume) (v : Volume) → (changed held table v).session.touched ≡ true
changed_touched held table v = trimmed_touched (written held.session 0 (table_bytes table)) (blocks_from v.start v.count) refl

committed_contents : (touched : Bool) (device : Device) (session : Session) → touched ≡ true → (committed_if touched device session).contents ≡ session.contents
committed_contents true device session is = refl
committed_contents false device session is = absurd (cc)

-- the device has what the session had
device_has : (held : Held) (table : List Volume) (v : Volume) (needed : ℕ) → (after_commit (changed held table v) needed).device.contents ≡ (changed held table v).session.contents
device_has held table v needed =
    let mid : Held = changed held table v in committed_contents mid.session.touched mid.device mid.session (changed_touched held table v)

-- the block is unused by the session, and, where nothing was changed, by the device
committed_unused : (block : ℕ) (touched : Bool) (device : Device) (session : Session) → IsUnused block device.blocks session.contents → (touched ≡ false → IsUnused block device.blocks device.contents)
    → IsUnused block (committed_if touched device session).blocks (committed_if touched device session).contents × IsUnused block (committed_if touched device session).blocks session.contents
committed_unused block true device session there below = (there, there)
committed_unused block false device session there below = (below refl, there)

committed_free : (held : Held) (needed : ℕ) (block : ℕ) → IsUnused block held.device.blocks held.session.contents → (held.session.touched ≡ false → IsUnused block held.device.blocks held.device.contents) → IsFree block (after_commit held needed)
committed_free held needed block there below = let both = committed_unused block held.session.touched held.device held.session there below in record { device = both.0; session = both.1 }

-- ---- a destroy

pub if_destroyed : (reply : Reply) (Claim : Type 0) → ((number : ℕ) → reply ≡ Destroyed number → Claim) → IfDestroyed reply Claim
if_destroyed (Destroyed number) Claim claim = claim number refl
if_destroyed Created Claim claim = tt
if_destroyed Exists Claim claim = tt
if_destroyed NoRoom Claim claim = tt
if_destroyed Unknown Claim claim = tt
if_destroyed (Content bytes) Claim claim = tt
if_destroyed Done Claim claim = tt
if_destroyed Range Claim claim = tt
if_destroyed Full Claim claim = tt
if_destroyed Uncommitted Claim claim = tt
if_destroyed (Committed number) Claim claim = tt
if_destroyed Bad Claim claim = tt

committed_number : (touched : Bool) (device : Device) (session : Session) → touched ≡ true → (committed_if touched device session).number ≡ device.number + 1
committed_number true device session is = refl
committed_number false device session is = absurd (cc)

-- it raises the device's number
pub destroy_raises : (capacity : ℕ) (table : List Volume) (old new : Held) (it : Line) (number : ℕ) → Serves capacity table old it (Destroyed number) new → new.device.number ≡ old.device.number + 1
destroy_raises capacity table old new (Create name count) number serves = absurd serves
destroy_raises capacity table old new (Read name block) number serves = absurd serves.3
destroy_raises capacity table old new (Write name block content) number serves = absurd serves.3
destroy_raises capacity table old new (Trim name block) number serves = absurd serves.3
destroy_raises capacity table old new (Destroy name) number (v, left, same, taken, free, (needed, needs, enough, e, is)) =
    let mid : Held = changed old left v in ap (λ (h : Held). h.device.number) e ∙ committed_number mid.session.touched mid.device mid.session (changed_touched old left v)
destroy_raises capacity table old new Commit number serves = absurd serves

destroyed_by : (old new : Held) (v : Volume) (left : List Volume) (needed : ℕ) → new ≡ after_commit (changed old left v) needed → HasDestroyed old v new
destroyed_by old new v left needed e =
    let has : new.device.contents ≡ (changed old left v).session.contents = ap (λ (h : Held). h.device.contents) e ∙ device_has old left v needed in
    record {
      gone = λ block is. ap (λ (blocks : Blocks). map.get blocks block) has ∙ changed_inside old left v block is;
      others = λ block other none. ap (λ (blocks : Blocks). map.get blocks block) has ∙ changed_outside old left v block other none;
    }

left_without : (blocks : ℕ) (table left : List Volume) (v : Volume) (block : ℕ) → IsTable blocks table → IsTaken table v left → IsBlockOf v block → (w : Volume) → Contains left w → IsBlockOf w block → ⊥
left_without blocks table left v block is taken has w there yours =
    one_has blocks table v w block is (taken_had table v left taken) (taken_only table v left w taken there)
    (λ same. lacks_not left v.name w (taken_name blocks table v left is taken) (there, ap (λ (x : Volume). x.name) (sym same))) has yours

free_behind : (old new : Held) (table left : List Volume) (v : Volume) (needed : ℕ) → IsTabled old table → IsTaken table v left → new ≡ after_commit (changed old left v) needed → (block : ℕ) → IsBlockOf v block → IsFree block new
free_behind old new table left v needed tabled taken e block has =
    let inside = inside_of old.device.blocks table v tabled.is (taken_had table v left taken) in
    let behind = changed_tabled old left v (taken_table old.device.blocks table v left tabled.is taken) inside.start in
    let there : IsUnused block old.device.blocks (changed old left v).session.contents = record {
      unmapped = changed_inside old left v block has;
      table = left;
      is = behind.is;
      spelled = behind.spelled;
      lacks = left_without old.device.blocks table left v block tabled.is taken has;
    } in
    subst (IsFree block) (sym e) (committed_free (changed old left v) needed block there (λ none. absurd (let no : true ≡ false = sym (changed_touched old left v) ∙ none in cc)))

of_serves : (capacity : ℕ) (table : List Volume) (old new : Held) (line : List ℕ) (it : Line) (number : ℕ) → IsTabled old table → Spells line it → Serves capacity table old it (Destroyed number) new
    → LeavesNothing old line new
of_serves capacity table old new line (Create name count) number tabled spelled serves = absurd serves
of_serves capacity table old new line (Read name block) number tabled spelled serves = absurd serves.3
of_serves capacity table old new line (Write name block content) number tabled spelled serves = absurd serves.3
of_serves capacity table old new line (Trim name block) number tabled spelled serves = absurd serves.3
of_serves capacity table old new line (Destroy name) number tabled spelled (v, left, same, taken, free, (needed, needs, enough, e, is)) = record {
  name = name;
  spelled = spelled;
  table = table;
  tabled = tabled;
  v = v;
  named = (taken_had table v left taken, same);
  destroyed = destroyed_by old new v left needed e;
  free = free_behind old new table left v needed tabled taken e;
}
of_serves capacity table old new line Commit number tabled spelled serves = absurd serves

pub leaves_nothing : (capacity : ℕ) (old : Held) (line : List ℕ) (number : ℕ) (new : Held) → Turn capacity old line (Destroyed number) new → LeavesNothing old line new
leaves_nothing capacity old line number new (inl served) = of_serves capacity served.table old new line served.it number served.tabled served.spelled served.serves
leaves_nothing capacity old line number new (inr (bad, is, e)) = absurd (cc)

-- ---- free blocks

-- the same over the table of a line
lacks_over : (held : Held) (table : List Volume) (block : ℕ) → held.device.blocks < 2 ^ 64 → IsTabled held table → IsFree block held → (v : Volume) → Contains table v → IsBlockOf v block → ⊥
lacks_over held table block below tabled free =
    subst (λ (t : List Volume). (v : Volume) → Contains t v → IsBlockOf v block → ⊥) (one_tabled held free.session.table table below (record { is = free.session.is; spelled = free.session.spelled }) tabled) free.session.lacks

-- the device is as it was
kept_unused : (block : ℕ) (old new : Device) → new ≡ old → IsUnused block old.blocks old.contents → IsUnused block new.blocks new.contents
kept_unused block old new same unused = subst (λ (d : Device). IsUnused block d.blocks d.contents) (sym same) unused

has_or_not : (v : Volume) (block : ℕ) → IsBlockOf v block ⊎ (IsBlockOf v block → ⊥)
has_or_not v block =
    elim (cases_lt block v.start) [
      | inl before ↦ inr (λ has. omega (arith, before, has.from))
      | inr from ↦ elim (cases_lt block (v.start + v.count)) [
        | inl below ↦ inl (record { from = from; below = below })
        | inr behind ↦ inr (λ has. omega (arith, behind, has.below))
      ]
    ]

-- it is free over the table behind a change, or taken
pub changes_free : (table : List Volume) (old : Held) (owner : Option (List ℕ)) (new : Held) (block : ℕ) → old.device.blocks < 2 ^ 64 → IsTabled old table → block ≢ 0 → IsFree block old
    → Change table old owner new → IsInVolume block new ⊎ IsFree block new
changes_free table old owner new block below tabled other free (Nothing e) = inr (subst (IsFree block) (sym e) free)
changes_free table old owner new block below tabled other free (Wrote v at content there is has e) =
    let lacks = lacks_over old table block below tabled free in
    let apart : block ≢ at = λ same. lacks v there (subst (IsBlockOf v) (sym same) has) in
    let behind = changes_tabled table old owner new tabled (Wrote v at content there is has e) in
    inr (record {
      device = kept_unused block old.device new.device (ap (λ (h : Held). h.device) e) free.device;
      session = record {
        unmapped = ap (λ (h : Held). map.get h.session.contents block) e ∙ get_written_apart old.session at block content apart ∙ free.session.unmapped;
        table = table;
        is = behind.is;
        spelled = behind.spelled;
        lacks = lacks;
      };
    })
changes_free table old owner new block below tabled other free (Trimmed v at there is has e) =
    let lacks = lacks_over old table block below tabled free in
    let apart : block ≢ at = λ same. lacks v there (subst (IsBlockOf v) (sym same) has) in
    let behind = changes_tabled table old owner new tabled (Trimmed v at there is has e) in
    inr (record {
      device = kept_unused block old.device new.device (ap (λ (h : Held). h.device) e) free.device;
      session = record {
        unmapped = ap (λ (h : Held). map.get h.session.contents block) e ∙ get_unmapped_apart old.session.contents at block apart ∙ free.session.unmapped;
        table = table;
        is = behind.is;
        spelled = behind.spelled;
        lacks = lacks;
      };
    })
changes_free table old owner new block below tabled other free (Placed v placed name count is owns e) =
    let lacks = lacks_over old table block below tabled free in
    let behind = changes_tabled table old owner new tabled (Placed v placed name count is owns e) in
    elim (has_or_not v block) [
      | inl has ↦ inl (placed, behind, v, placed_has table v placed is.puts, has)
      | inr none ↦ inr (record {
        device = kept_unused block old.device new.device (ap (λ (h : Held). h.device) e) free.device;
        session = record {
          unmapped = ap (λ (h : Held). map.get h.session.contents block) e ∙ changed_outside old placed v block other none ∙ free.session.unmapped;
          table = placed;
          is = behind.is;
          spelled = behind.spelled;
          lacks = λ w there has. elim (placed_only table v placed w is.puts there) [
            | inl same ↦ none (subst (λ (x : Volume). IsBlockOf x block) (sym same) has)
            | inr had ↦ lacks w had has
          ];
        };
      })
    ]
changes_free table old owner new block below tabled other free (Taken v left taken is e) =
    let lacks = lacks_over old table block below tabled free in
    let behind = changes_tabled table old owner new tabled (Taken v left taken is e) in
    inr (record {
      device = kept_unused block old.device new.device (ap (λ (h : Held). h.device) e) free.device;
      session = record {
        unmapped = ap (λ (h : Held). map.get h.session.contents block) e ∙ changed_outside old left v block other (lacks v (taken_had table v left taken)) ∙ free.session.unmapped;
        table = left;
        is = behind.is;
        spelled = behind.spelled;
        lacks = λ w there has. lacks w (taken_only table v left w taken there) has;
      };
    })
changes_free table old owner new block below tabled other free (Ended v left needed taken is needs e) =
    let lacks = lacks_over old table block below tabled free in
    let inside = inside_of old.device.blocks table v tabled.is (taken_had table v left taken) in
    let behind = changed_tabled old left v (taken_table old.device.blocks table v left tabled.is taken) inside.start in
    let there : IsUnused block old.device.blocks (changed old left v).session.contents = record {
      unmapped = changed_outside old left v block other (lacks v (taken_had table v left taken)) ∙ free.session.unmapped;
      table = left;
      is = behind.is;
      spelled = behind.spelled;
      lacks = λ w had has. lacks w (taken_only table v left w taken had) has;
    } in
    inr (subst (IsFree block) (sym e) (committed_free (changed old left v) needed block there (λ none. free.device)))
changes_free table old owner new block below tabled other free (Saved needed needs e) =
    inr (subst (IsFree block) (sym e) (committed_free old needed block free.session (λ none. free.device)))

line_free : (capacity : ℕ) (old : Held) (line : List ℕ) (reply : Reply) (new : Held) (block : ℕ) → old.device.blocks < 2 ^ 64 → block ≢ 0 → IsFree block old → Turn capacity old line reply new
    → IsInVolume block new ⊎ IsFree block new
line_free capacity old line reply new block below other free (inl served) =
    changes_free served.table old (named_by served.it) new block below served.tabled other free (change_of capacity served.table old new served.it reply served.serves)
line_free capacity old line reply new block below other free (inr (bad, is, e)) = inr (subst (IsFree block) (sym e) free)

-- a free block is free until a volume has it
pub stays_free : (capacity : ℕ) (block : ℕ) (entry : Held) (lines : List (List ℕ)) (replies : List Reply) (states : List Held) → entry.device.blocks < 2 ^ 64 → block ≢ 0 → IsFree block entry
    → Leads (Turn capacity) entry lines replies states → IsFreeUntilTaken block states
stays_free capacity block entry lines [] [] below other free leads = tt
stays_free capacity block entry lines [] (state ∷ states) below other free leads = absurd leads
stays_free capacity block entry lines (reply ∷ replies) [] below other free leads = tt
stays_free capacity block entry [] (reply ∷ replies) (state ∷ states) below other free leads = absurd leads
stays_free capacity block entry (line ∷ lines) (reply ∷ replies) (state ∷ states) below other free (turn, more) =
    let blocks = turn_blocks capacity entry line reply state turn in
    elim (line_free capacity entry line reply state block below other free turn) [
      | inl taken ↦ inl taken
      | inr still ↦ inr (still, stays_free capacity block state lines replies states (omega (arith, below, blocks)) other still more)
    ]

-- ahead is nothing, or a state to which one more line leads
abbrev pub IsAhead : ℕ → Held → List Held → Type 0
IsAhead capacity last ahead = (ahead ≡ []) ⊎ ((line : List ℕ) × (reply : Reply) × (next : Held) × (ahead ≡ next ∷ []) × Turn capacity last line reply next)

-- the same with what is ahead
pub stays_free_ahead : (capacity : ℕ) (block : ℕ) (entry : Held) (lines : List (List ℕ)) (replies : List Reply) (states ahead : List Held) → entry.device.blocks < 2 ^ 64 → block ≢ 0 → IsFree block entry
    → Leads (Turn capacity) entry lines replies states → IsAhead capacity (last_of entry states) ahead → IsFreeUntilTaken block (states ++ ahead)
stays_free_ahead capacity block entry lines [] [] ahead below other free leads (inl none) = subst (IsFreeUntilTaken block) (sym none) tt
stays_free_ahead capacity block entry lines [] [] ahead below other free leads (inr (line, reply, next, is, turn)) =
    subst (IsFreeUntilTaken block) (sym is) (elim (line_free capacity entry line reply next block below other free turn) [ inl taken ↦ inl taken | inr still ↦ inr (still, tt) ])
stays_free_ahead capacity block entry lines [] (state ∷ states) ahead below other free leads is = absurd leads
stays_free_ahead capacity block entry lines (reply ∷ replies) [] ahead below other free leads is = absurd leads
stays_free_ahead capacity block entry [] (reply ∷ replies) (state ∷ states) ahead below other free leads is = absurd leads
stays_free_ahead capacity block entry (line ∷ lines) (reply ∷ replies) (state ∷ states) ahead below other free (turn, more) is =
    let blocks = turn_blocks capacity entry line reply state turn in
    elim (line_free capacity entry line reply state block below other free turn) [
      | inl taken ↦ inl taken
      | inr still ↦ inr (still, stays_free_ahead capacity block state lines replies states ahead (omega (arith, below, blocks)) other still more is)
    ]

-- a session just mounted on the device
pub free_again : (block : ℕ) (last next : Held) → next.device ≡ last.device → next.session ≡ session_on next.device → IsFree block last → IsFree block next
free_again block last next same fresh free =
    let there : IsUnused block next.device.blocks next.device.contents = kept_unused block last.device next.device same free.device in
    record { device = there; session = subst (λ (a : Session). IsUnused block next.device.blocks a.contents) (sym fresh) there }

-- a block was free at the end, or a volume had it before
pub free_or_taken : (block : ℕ) (entry : Held) (states : List Held) → IsFree block entry → IsFreeUntilTaken block states → IsTakenIn block states ⊎ IsFree block (last_of entry states)
free_or_taken block entry [] free until = inr free
free_or_taken block entry (state ∷ states) free (inl taken) = inl (inl taken)
free_or_taken block entry (state ∷ states) free (inr (still, until)) = elim (free_or_taken block state states still until) [
  | inl taken ↦ inl (inr taken)
  | inr last ↦ inr last
]
