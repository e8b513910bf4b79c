-- What a line changes, whatever its reply, and what it leaves of all other volumes.
use Rattle.std.proofs.Common.{◌≡◌, ◌≢◌, ℕ, ◌+◌, ◌<◌, ◌≤◌, inl, inr, List, Option, None, Some, sym, ap, ◌∙◌, subst, arith}
use Rattle.std.specs.Prelude.{◌⊎◌}
use Rattle.std.specs.List.{Contains}
use Rattle.std.specs.FinMap as map
use Rattle.std.proofs.lemmas.Bool.{cases_lt}
use Rattle.sdbt_base.specs.Arrays.{Blocks, Session, written, unmapped}
use Rattle.device_course.specs.Held.{Held, Needs, after_commit}
use Rattle.volume_table.specs.Tables.{IsTable, table_bytes}
use Rattle.volume_table.specs.declared.volume.Volume.{Volume}
use Rattle.volume_lines.specs.Lines.{Line, Create, Read, Write, Trim, Destroy, Commit}
use Rattle.volume_lines.specs.Replies.{Reply, Created, Exists, NoRoom, Unknown, Content, Done, Range, Full, Destroyed, Uncommitted, Committed}
use Rattle.volume_terms.specs.Volumes.{IsTabled, IsNamed, IsTaken, IsNew, IsBlockOf, VolumeOf, changed}
use Rattle.volume_terms.specs.Turn.{Creates, OnBlock, Reads, Writes, Trims, Destroys, Commits, Serves}
use Rattle.volume_terms.specs.Own.{Array, named_by}
use Rattle.volume_terms.proofs.ArrayLaws.{array_same}
use Rattle.volume_terms.proofs.ContentLaws.{content_alike, content_written, get_written_apart, get_unmapped_apart, padded_whole, trims_inside, trims_outside, blocks_stay}
use Rattle.volume_terms.proofs.TableLaws.{table_size, one_has, inside_of, not_first, placed_has, placed_keeps, placed_lacks, taken_had, taken_keeps, taken_lacks, taken_table}

-- ---- the changes that there are

abbrev pub wrote : Held → ℕ → List ℕ → Held
wrote held block content = record held { session = written held.session block content; pages = held.pages + 1; updates = held.updates + 1 }

abbrev pub trimmed_at : Held → ℕ → Held
trimmed_at held block = record held { session = unmapped held.session block; updates = held.updates + 1 }

-- what a line of this owner did over a table
pub data Change (table : List Volume) (old : Held) (owner : Option (List ℕ)) (new : Held) : Type 0 where
  Nothing : new ≡ old → Change table old owner new
  Wrote : (v : Volume) (block : ℕ) (content : List ℕ) → Contains table v → owner ≡ Some v.name → IsBlockOf v block → new ≡ wrote old block content → Change table old owner new
  Trimmed : (v : Volume) (block : ℕ) → Contains table v → owner ≡ Some v.name → IsBlockOf v block → new ≡ trimmed_at old block → Change table old owner new
  Placed : (v : Volume) (placed : List Volume) (name : List ℕ) (count : ℕ) → IsNew old.device.blocks table name count v placed → owner ≡ Some v.name → new ≡ changed old placed v
      → Change table old owner new
  Taken : (v : Volume) (left : List Volume) → IsTaken table v left → owner ≡ Some v.name → new ≡ changed old left v → Change table old owner new
  Ended : (v : Volume) (left : List Volume) (needed : ℕ) → IsTaken table v left → owner ≡ Some v.name → Needs (changed old left v) needed → new ≡ after_commit (changed old left v) needed
      → Change table old owner new
  Saved : (needed : ℕ) → Needs old needed → new ≡ after_commit old needed → Change table old owner new

pub in_volume : (v : Volume) (block : ℕ) → block < v.count → IsBlockOf v (v.start + block)
in_volume v block below = record { from = omega arith; below = omega (arith, below) }

module _ (capacity : ℕ) (table : List Volume) (old new : Held) (name : List ℕ) where
  of_create : (count : ℕ) (reply : Reply) → Creates capacity table old name count reply new → Change table old (Some name) new
  of_create count Exists (v, named, e) = Nothing e
  of_create count Range (lacks, out, e) = Nothing e
  of_create count NoRoom (lacks, fits, none, e) = Nothing e
  of_create count Full (lacks, fits, v, placed, is, full, e) = Nothing e
  of_create count Created (lacks, fits, v, placed, is, free, e) = Placed v placed name count is (ap Some (sym is.named)) e
  of_create count reply serves = absurd serves

  of_read : (block : ℕ) (reply : Reply) → OnBlock table old name block Reads reply new → Change table old (Some name) new
  of_read block Unknown (lacks, e) = Nothing e
  of_read block Range (v, named, out, e) = Nothing e
  of_read block (Content bytes) (v, named, within, (is, e)) = Nothing e
  of_read block reply serves = absurd serves.3

  of_write : (block : ℕ) (content : List ℕ) (reply : Reply) → OnBlock table old name block (Writes capacity content) reply new → Change table old (Some name) new
  of_write block content Unknown (lacks, e) = Nothing e
  of_write block content Range (v, named, out, e) = Nothing e
  of_write block content Full (v, named, within, (full, e)) = Nothing e
  of_write block content Done (v, named, within, (free, e)) = Wrote v (v.start + block) content named.0 (ap Some (sym named.1)) (in_volume v block within) e
  of_write block content reply serves = absurd serves.3

  of_trim : (block : ℕ) (reply : Reply) → OnBlock table old name block Trims reply new → Change table old (Some name) new
  of_trim block Unknown (lacks, e) = Nothing e
  of_trim block Range (v, named, out, e) = Nothing e
  of_trim block Done (v, named, within, e) = Trimmed v (v.start + block) named.0 (ap Some (sym named.1)) (in_volume v block within) e
  of_trim block reply serves = absurd serves.3

  of_destroy : (reply : Reply) → Destroys capacity table old name reply new → Change table old (Some name) new
  of_destroy Unknown (lacks, e) = Nothing e
  of_destroy Full (v, named, full, e) = Nothing e
  of_destroy (Destroyed number) (v, left, same, taken, free, (needed, needs, enough, e, is)) = Ended v left needed taken (ap Some (sym same)) needs e
  of_destroy Uncommitted (v, left, same, taken, free, (needed, needs, short, e)) = Taken v left taken (ap Some (sym same)) e
  of_destroy reply serves = absurd serves

of_commit : (capacity : ℕ) (table : List Volume) (old new : Held) (reply : Reply) → Commits capacity old reply new → Change table old None new
of_commit capacity table old new (Committed number) (needed, needs, enough, e, is) = Saved needed needs e
of_commit capacity table old new Full (needed, needs, short, e) = Nothing e
of_commit capacity table old new reply serves = absurd serves

pub change_of : (capacity : ℕ) (table : List Volume) (old new : Held) (it : Line) (reply : Reply) → Serves capacity table old it reply new → Change table old (named_by it) new
change_of capacity table old new (Create name count) reply serves = of_create capacity table old new name count reply serves
change_of capacity table old new (Read name block) reply serves = of_read capacity table old new name block reply serves
change_of capacity table old new (Write name block content) reply serves = of_write capacity table old new name block content reply serves
change_of capacity table old new (Trim name block) reply serves = of_trim capacity table old new name block reply serves
change_of capacity table old new (Destroy name) reply serves = of_destroy capacity table old new name reply serves
change_of capacity table old new Commit reply serves = of_commit capacity table old new reply serves

-- ---- a table that is written, and trims behind it

pub changed_inside : (held : Held) (table : List Volume) (v : Volume) (block : ℕ) → IsBlockOf v block → map.get (changed held table v).session.contents block ≡ None
changed_inside held table v block is = trims_inside (written held.session 0 (table_bytes table)) v.start v.count block is.from is.below

outside_of : (v : Volume) (block : ℕ) → (IsBlockOf v block → ⊥) → (v.start + v.count ≤ block) ⊎ (block < v.start)
outside_of v block none =
    elim (cases_lt block v.start) [
      | inl before ↦ inr before
      | inr from ↦ elim (cases_lt block (v.start + v.count)) [
        | inl below ↦ absurd (none (record { from = from; below = below }))
        | inr behind ↦ inl behind
      ]
    ]

pub changed_outside : (held : Held) (table : List Volume) (v : Volume) (block : ℕ) → block ≢ 0 → (IsBlockOf v block → ⊥) → map.get (changed held table v).session.contents block ≡ map.get held.session.contents block
changed_outside held table v block other none =
    trims_outside (written held.session 0 (table_bytes table)) v.start v.count block (outside_of v block none) ∙ get_written_apart held.session 0 block (table_bytes table) other

pub changed_tabled : (held : Held) (table : List Volume) (v : Volume) → IsTable held.device.blocks table → 1 ≤ v.start → IsTabled (changed held table v) table
changed_tabled held table v is least =
    let there : Session = written held.session 0 (table_bytes table) in
    record {
      is = is;
      spelled = content_alike (changed held table v).session.contents there.contents 0 (trims_outside there v.start v.count 0 (inr (omega (arith, least))))
          ∙ content_written held.session 0 (table_bytes table) ∙ padded_whole (table_bytes table) (table_size held.device.blocks table is);
    }

pub committed_tabled : (held : Held) (needed : ℕ) (table : List Volume) → IsTabled held table → IsTabled (after_commit held needed) table
committed_tabled held needed table tabled = record {
  is = subst (λ (blocks : ℕ). IsTable blocks table) (sym (blocks_stay held.session.touched held.device held.session)) tabled.is;
  spelled = tabled.spelled;
}

pub wrote_tabled : (held : Held) (block : ℕ) (content : List ℕ) (table : List Volume) → block ≢ 0 → IsTabled held table → IsTabled (wrote held block content) table
wrote_tabled held block content table other tabled = record {
  is = tabled.is;
  spelled = content_alike (wrote held block content).session.contents held.session.contents 0 (get_written_apart held.session block 0 content (λ same. other (sym same))) ∙ tabled.spelled;
}

pub trimmed_tabled : (held : Held) (block : ℕ) (table : List Volume) → block ≢ 0 → IsTabled held table → IsTabled (trimmed_at held block) table
trimmed_tabled held block table other tabled = record {
  is = tabled.is;
  spelled = content_alike (trimmed_at held block).session.contents held.session.contents 0 (get_unmapped_apart held.session.contents block 0 (λ same. other (sym same))) ∙ tabled.spelled;
}

-- the table behind a change
abbrev pub table_behind : (table : List Volume) (old : Held) (owner : Option (List ℕ)) (new : Held) → Change table old owner new → List Volume
table_behind table old owner new (Nothing e) = table
table_behind table old owner new (Wrote v block content there is has e) = table
table_behind table old owner new (Trimmed v block there is has e) = table
table_behind table old owner new (Placed v placed name count is owns e) = placed
table_behind table old owner new (Taken v left taken is e) = left
table_behind table old owner new (Ended v left needed taken is needs e) = left
table_behind table old owner new (Saved needed needs e) = table

pub changes_tabled : (table : List Volume) (old : Held) (owner : Option (List ℕ)) (new : Held) → IsTabled old table → (change : Change table old owner new) → IsTabled new (table_behind table old owner new change)
changes_tabled table old owner new tabled (Nothing e) = subst (λ (h : Held). IsTabled h table) (sym e) tabled
changes_tabled table old owner new tabled (Wrote v block content there is has e) =
    subst (λ (h : Held). IsTabled h table) (sym e) (wrote_tabled old block content table (not_first old.device.blocks table v block tabled.is there has) tabled)
changes_tabled table old owner new tabled (Trimmed v block there is has e) =
    subst (λ (h : Held). IsTabled h table) (sym e) (trimmed_tabled old block table (not_first old.device.blocks table v block tabled.is there has) tabled)
changes_tabled table old owner new tabled (Placed v placed name count is owns e) =
    subst (λ (h : Held). IsTabled h placed) (sym e) (changed_tabled old placed v is.is is.start.fits.least)
changes_tabled table old owner new tabled (Taken v left taken is e) =
    let inside = inside_of old.device.blocks table v tabled.is (taken_had table v left taken) in
    subst (λ (h : Held). IsTabled h left) (sym e) (changed_tabled old left v (taken_table old.device.blocks table v left tabled.is taken) inside.start)
changes_tabled table old owner new tabled (Ended v left needed taken is needs e) =
    let inside = inside_of old.device.blocks table v tabled.is (taken_had table v left taken) in
    subst (λ (h : Held). IsTabled h left) (sym e)
    (committed_tabled (changed old left v) needed left (changed_tabled old left v (taken_table old.device.blocks table v left tabled.is taken) inside.start))
changes_tabled table old owner new tabled (Saved needed needs e) = subst (λ (h : Held). IsTabled h table) (sym e) (committed_tabled old needed table tabled)

pub changes_blocks : (table : List Volume) (old : Held) (owner : Option (List ℕ)) (new : Held) → Change table old owner new → new.device.blocks ≡ old.device.blocks
changes_blocks table old owner new (Nothing e) = ap (λ (h : Held). h.device.blocks) e
changes_blocks table old owner new (Wrote v block content there is has e) = ap (λ (h : Held). h.device.blocks) e
changes_blocks table old owner new (Trimmed v block there is has e) = ap (λ (h : Held). h.device.blocks) e
changes_blocks table old owner new (Placed v placed name count is owns e) = ap (λ (h : Held). h.device.blocks) e
changes_blocks table old owner new (Taken v left taken is e) = ap (λ (h : Held). h.device.blocks) e
changes_blocks table old owner new (Ended v left needed taken is needs e) =
    let mid : Held = changed old left v in ap (λ (h : Held). h.device.blocks) e ∙ blocks_stay mid.session.touched mid.device mid.session
changes_blocks table old owner new (Saved needed needs e) = ap (λ (h : Held). h.device.blocks) e ∙ blocks_stay old.session.touched old.device old.session

-- ---- volumes of other names

volume_same : (table : List Volume) (a b : Blocks) (name : List ℕ) (volume : Array) → ((w : Volume) → IsNamed table name w → (block : ℕ) → IsBlockOf w block → map.get b block ≡ map.get a block)
    → VolumeOf table a name volume → VolumeOf table b name volume
volume_same table a b name None same lacks = lacks
volume_same table a b name (Some array) same (w, named, is) =
    (w, named, is ∙ array_same a b w (λ block has. content_alike a b block (sym (same w named block has))))

-- a block of one volume is no block of one of another name
apart_from : (blocks : ℕ) (table : List Volume) (v w : Volume) (name : List ℕ) (block : ℕ) → IsTable blocks table → Contains table v → IsNamed table name w → v.name ≢ name → IsBlockOf v block → IsBlockOf w block → ⊥
apart_from blocks table v w name block is there named other mine yours =
    one_has blocks table v w block is there named.0 (λ same. other (ap (λ (x : Volume). x.name) same ∙ named.1)) mine yours

placed_other : (old : Held) (table placed : List Volume) (v : Volume) (n name : List ℕ) (count : ℕ) (volume : Array) → IsNew old.device.blocks table n count v placed → v.name ≢ name
    → VolumeOf table old.session.contents name volume → VolumeOf placed (changed old placed v).session.contents name volume
placed_other old table placed v n name count None is other lacks = placed_lacks table v placed name is.puts lacks other
placed_other old table placed v n name count (Some array) is other (w, named, same) =
    let there : Contains placed w = placed_keeps table v placed w is.puts named.0 in (
      w,
      (there, named.1),
      same ∙ array_same old.session.contents (changed old placed v).session.contents w (λ block has.
          content_alike old.session.contents (changed old placed v).session.contents block (sym (changed_outside old placed v block (not_first old.device.blocks placed w block is.is there has)
          (λ mine. apart_from old.device.blocks placed v w name block is.is (placed_has table v placed is.puts) (there, named.1) other mine has)))),
    )

taken_other : (old : Held) (table left : List Volume) (v : Volume) (name : List ℕ) (volume : Array) → IsTable old.device.blocks table → IsTaken table v left → v.name ≢ name
    → VolumeOf table old.session.contents name volume → VolumeOf left (changed old left v).session.contents name volume
taken_other old table left v name None is taken other lacks = taken_lacks table v left name taken lacks
taken_other old table left v name (Some array) is taken other (w, named, same) =
    let there : Contains left w = taken_keeps table v left w taken named.0 (λ e. other (ap (λ (x : Volume). x.name) e ∙ named.1)) in (
      w,
      (there, named.1),
      same ∙ array_same old.session.contents (changed old left v).session.contents w (λ block has.
          content_alike old.session.contents (changed old left v).session.contents block (sym (changed_outside old left v block (not_first old.device.blocks table w block is named.0 has)
          (λ mine. apart_from old.device.blocks table v w name block is (taken_had table v left taken) named other mine has)))),
    )

-- a name that isn't the owner's
not_owner : (owner : Option (List ℕ)) (name mine : List ℕ) → owner ≢ Some name → owner ≡ Some mine → mine ≢ name
not_owner owner name mine other is same = other (is ∙ ap Some same)

-- the array of a name that isn't the owner's stays
pub other_stays : (table : List Volume) (old : Held) (owner : Option (List ℕ)) (new : Held) (name : List ℕ) (volume : Array) → IsTabled old table → owner ≢ Some name
    → (change : Change table old owner new) → VolumeOf table old.session.contents name volume → VolumeOf (table_behind table old owner new change) new.session.contents name volume
other_stays table old owner new name volume tabled other (Nothing e) of = subst (λ (h : Held). VolumeOf table h.session.contents name volume) (sym e) of
other_stays table old owner new name volume tabled other (Wrote v block content there is has e) of =
    subst (λ (h : Held). VolumeOf table h.session.contents name volume) (sym e)
    (volume_same table old.session.contents (written old.session block content).contents name volume
    (λ w named b yours. get_written_apart old.session block b content
    (λ same. apart_from old.device.blocks table v w name block tabled.is there named (not_owner owner name v.name other is) has (subst (IsBlockOf w) same yours))) of)
other_stays table old owner new name volume tabled other (Trimmed v block there is has e) of =
    subst (λ (h : Held). VolumeOf table h.session.contents name volume) (sym e)
    (volume_same table old.session.contents (unmapped old.session block).contents name volume
    (λ w named b yours. get_unmapped_apart old.session.contents block b
    (λ same. apart_from old.device.blocks table v w name block tabled.is there named (not_owner owner name v.name other is) has (subst (IsBlockOf w) same yours))) of)
other_stays table old owner new name volume tabled other (Placed v placed n count is owns e) of =
    subst (λ (h : Held). VolumeOf placed h.session.contents name volume) (sym e) (placed_other old table placed v n name count volume is (not_owner owner name v.name other owns) of)
other_stays table old owner new name volume tabled other (Taken v left taken is e) of =
    subst (λ (h : Held). VolumeOf left h.session.contents name volume) (sym e) (taken_other old table left v name volume tabled.is taken (not_owner owner name v.name other is) of)
other_stays table old owner new name volume tabled other (Ended v left needed taken is needs e) of =
    subst (λ (h : Held). VolumeOf left h.session.contents name volume) (sym e) (taken_other old table left v name volume tabled.is taken (not_owner owner name v.name other is) of)
other_stays table old owner new name volume tabled other (Saved needed needs e) of = subst (λ (h : Held). VolumeOf table h.session.contents name volume) (sym e) of
