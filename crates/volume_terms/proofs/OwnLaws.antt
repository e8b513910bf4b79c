-- Each volume has its own replies.
use Rattle.std.proofs.Common.{◌≡◌, ◌≢◌, ℕ, ◌+◌, ◌^◌, ◌<◌, inl, inr, List, [], ◌∷◌, Option, None, Some, length, get_or, replicate, refl, sym, ap, ◌∙◌, subst, arith}
use Rattle.std.specs.Prelude.{◌⊎◌}
use Rattle.std.specs.List.{slice_set}
use Rattle.std.proofs.lemmas.Bool.{cases_eq}
use Rattle.std.proofs.lemmas.List.Elements.{All-nil, All-cons, Contains-append_left, Contains-append_right, Contains-push}
use Rattle.sdbt_base.specs.Arrays.{content_of, padded}
use Rattle.script_lang.specs.Arrays.{trimmed}
use Rattle.device_course.specs.Held.{Held}
use Rattle.device_course.specs.Leading.{Leads, last_of}
use Rattle.volume_table.specs.Tables.{Lacks}
use Rattle.volume_table.specs.declared.volume.Volume.{Volume}
use Rattle.volume_lines.specs.Lines.{Line, Create, Read, Write, Trim, Destroy, Commit}
use Rattle.volume_lines.specs.Grammar.{Spells}
use Rattle.volume_lines.specs.Replies.{Reply, Created, Exists, NoRoom, Unknown, Content, Done, Range, Full, Destroyed, Uncommitted}
use Rattle.volume_lines.proofs.LineLaws.{one_thing}
use Rattle.volume_terms.specs.Volumes.{IsTabled, IsNamed, VolumeOf, VolumeIn, changed, array_of}
use Rattle.volume_terms.specs.Turn.{Creates, OnBlock, Reads, Writes, Trims, Destroys, Serves, Turn}
use Rattle.volume_terms.specs.Own.{Array, named_by, OwnTurn, Own, AreOf}
use Rattle.volume_terms.proofs.ArrayLaws.{array_size, array_at, array_set, array_zeros}
use Rattle.volume_terms.proofs.ContentLaws.{content_alike, content_unmapped, content_written, content_trimmed, get_written_apart, get_unmapped_apart}
use Rattle.volume_terms.proofs.TableLaws.{one_tabled, one_named, lacks_not, not_first, inside_of, placed_has, taken_had, taken_name, taken_table}
use Rattle.volume_terms.proofs.KeepingLaws.{change_of, table_behind, changes_tabled, changes_blocks, other_stays, changed_inside, changed_tabled, committed_tabled, wrote, wrote_tabled, trimmed_at, trimmed_tabled, in_volume}

-- ---- a line of the volume's own

-- the array that it has, and its next one
pub record OwnStep (blocks : ℕ) (volume : Array) (it : Line) (reply : Reply) (new : Held) (name : List ℕ) : Type 0 where
  pub next : Array
  pub there : VolumeIn new name next
  pub own : OwnTurn blocks volume it reply next

-- nothing changed
same_there : (table : List Volume) (old new : Held) (name : List ℕ) (volume : Array) → IsTabled old table → new ≡ old → VolumeOf table old.session.contents name volume → VolumeIn new name volume
same_there table old new name volume tabled e of = subst (λ (h : Held). VolumeIn h name volume) (sym e) (table, tabled, of)

-- the array of the volume of a name
array_is : (held : Held) (table : List Volume) (name : List ℕ) (v : Volume) (array : List (List ℕ)) → IsTabled held table → IsNamed table name v → VolumeOf table held.session.contents name (Some array)
    → array ≡ array_of held.session.contents v
array_is held table name v array tabled named (w, named', is) = is ∙ ap (λ (x : Volume). array_of held.session.contents x) (one_named held.device.blocks table name w v tabled.is named' named)

array_len : (held : Held) (v : Volume) (array : List (List ℕ)) → array ≡ array_of held.session.contents v → length array ≡ v.count
array_len held v array is = ap length is ∙ array_size held.session.contents v

module _ (capacity : ℕ) (table : List Volume) (old new : Held) (name : List ℕ) (tabled : IsTabled old table) where
  own_create : (count : ℕ) (reply : Reply) (volume : Array) → Creates capacity table old name count reply new → VolumeOf table old.session.contents name volume
      → OwnStep old.device.blocks volume (Create name count) reply new name
  own_create count Exists None (v, named, e) of = absurd (lacks_not table name v of named)
  own_create count Exists (Some array) (v, named, e) of = record { next = Some array; there = same_there table old new name (Some array) tabled e of; own = (refl, refl) }
  own_create count Range None (lacks, out, e) of = record { next = None; there = same_there table old new name None tabled e of; own = (out, refl) }
  own_create count Range (Some array) (lacks, out, e) (v, named, is) = absurd (lacks_not table name v lacks named)
  own_create count NoRoom None (lacks, fits, none, e) of = record { next = None; there = same_there table old new name None tabled e of; own = (fits, refl) }
  own_create count NoRoom (Some array) (lacks, fits, none, e) (v, named, is) = absurd (lacks_not table name v lacks named)
  own_create count Full None (lacks, fits, v, placed, is, full, e) of = record { next = None; there = same_there table old new name None tabled e of; own = (fits, refl) }
  own_create count Full (Some array) (lacks, fits, v, placed, is, full, e) (w, named, same) = absurd (lacks_not table name w lacks named)
  own_create count Created None (lacks, fits, v, placed, is, free, e) of =
      let next : Held = changed old placed v in
      let zeros : array_of next.session.contents v ≡ replicate v.count (replicate 4096 0) =
      array_zeros next.session.contents v (λ block has. content_unmapped next.session.contents block (changed_inside old placed v block has)) in
      let same : replicate count (replicate 4096 0) ≡ array_of next.session.contents v = sym (zeros ∙ ap (λ (n : ℕ). replicate n (replicate 4096 0)) is.counted) in
      record {
        next = Some (replicate count (replicate 4096 0));
        there = subst (λ (h : Held). VolumeIn h name (Some (replicate count (replicate 4096 0)))) (sym e)
            (placed, changed_tabled old placed v is.is is.start.fits.least, (v, (placed_has table v placed is.puts, is.named), same));
        own = (fits, refl);
      }
  own_create count Created (Some array) (lacks, fits, v, placed, is, free, e) (w, named, same) = absurd (lacks_not table name w lacks named)
  own_create count reply volume serves of = absurd serves

  own_read : (block : ℕ) (reply : Reply) (volume : Array) → OnBlock table old name block Reads reply new → VolumeOf table old.session.contents name volume
      → OwnStep old.device.blocks volume (Read name block) reply new name
  own_read block Unknown None (lacks, e) of = record { next = None; there = same_there table old new name None tabled e of; own = (refl, refl) }
  own_read block Unknown (Some array) (lacks, e) (w, named, is) = absurd (lacks_not table name w lacks named)
  own_read block Range None (v, named, out, e) of = absurd (lacks_not table name v of named)
  own_read block Range (Some array) (v, named, out, e) of =
      let len = array_len old v array (array_is old table name v array tabled named of) in
      record { next = Some array; there = same_there table old new name (Some array) tabled e of; own = (omega (arith, out, len), refl) }
  own_read block (Content bytes) None (v, named, within, (is, e)) of = absurd (lacks_not table name v of named)
  own_read block (Content bytes) (Some array) (v, named, within, (is, e)) of =
      let array-is = array_is old table name v array tabled named of in
      let len = array_len old v array array-is in
      let here : get_or array block [] ≡ content_of old.session.contents (v.start + block) =
      ap (λ (blocks : List (List ℕ)). get_or blocks block []) array-is ∙ array_at old.session.contents v block [] within in
      record { next = Some array; there = same_there table old new name (Some array) tabled e of; own = (omega (arith, within, len), is ∙ ap trimmed (sym here), refl) }
  own_read block reply volume serves of = absurd serves.3

  own_write : (block : ℕ) (content : List ℕ) (reply : Reply) (volume : Array) → OnBlock table old name block (Writes capacity content) reply new → VolumeOf table old.session.contents name volume
      → OwnStep old.device.blocks volume (Write name block content) reply new name
  own_write block content Unknown None (lacks, e) of = record { next = None; there = same_there table old new name None tabled e of; own = (refl, refl) }
  own_write block content Unknown (Some array) (lacks, e) (w, named, is) = absurd (lacks_not table name w lacks named)
  own_write block content Range None (v, named, out, e) of = absurd (lacks_not table name v of named)
  own_write block content Range (Some array) (v, named, out, e) of =
      let len = array_len old v array (array_is old table name v array tabled named of) in
      record { next = Some array; there = same_there table old new name (Some array) tabled e of; own = (omega (arith, out, len), refl) }
  own_write block content Full None (v, named, within, (full, e)) of = absurd (lacks_not table name v of named)
  own_write block content Full (Some array) (v, named, within, (full, e)) of =
      let len = array_len old v array (array_is old table name v array tabled named of) in
      record { next = Some array; there = same_there table old new name (Some array) tabled e of; own = (omega (arith, within, len), refl) }
  own_write block content Done None (v, named, within, (free, e)) of = absurd (lacks_not table name v of named)
  own_write block content Done (Some array) (v, named, within, (free, e)) of =
      let at : ℕ = v.start + block in
      let next : Held = wrote old at content in
      let array-is = array_is old table name v array tabled named of in
      let len = array_len old v array array-is in
      let same : slice_set array block (padded content) ≡ array_of next.session.contents v =
      ap (λ (blocks : List (List ℕ)). slice_set blocks block (padded content)) array-is
      ∙ sym (array_set old.session.contents next.session.contents v block (padded content) within (content_written old.session at content)
      (λ b has other. content_alike old.session.contents next.session.contents b (sym (get_written_apart old.session at b content other)))) in
      let behind : IsTabled next table = wrote_tabled old at content table (not_first old.device.blocks table v at tabled.is named.0 (in_volume v block within)) tabled in
      record {
        next = Some (slice_set array block (padded content));
        there = subst (λ (h : Held). VolumeIn h name (Some (slice_set array block (padded content)))) (sym e) (table, behind, (v, named, same));
        own = (omega (arith, within, len), refl);
      }
  own_write block content reply volume serves of = absurd serves.3

  own_trim : (block : ℕ) (reply : Reply) (volume : Array) → OnBlock table old name block Trims reply new → VolumeOf table old.session.contents name volume
      → OwnStep old.device.blocks volume (Trim name block) reply new name
  own_trim block Unknown None (lacks, e) of = record { next = None; there = same_there table old new name None tabled e of; own = (refl, refl) }
  own_trim block Unknown (Some array) (lacks, e) (w, named, is) = absurd (lacks_not table name w lacks named)
  own_trim block Range None (v, named, out, e) of = absurd (lacks_not table name v of named)
  own_trim block Range (Some array) (v, named, out, e) of =
      let len = array_len old v array (array_is old table name v array tabled named of) in
      record { next = Some array; there = same_there table old new name (Some array) tabled e of; own = (omega (arith, out, len), refl) }
  own_trim block Done None (v, named, within, e) of = absurd (lacks_not table name v of named)
  own_trim block Done (Some array) (v, named, within, e) of =
      let at : ℕ = v.start + block in
      let next : Held = trimmed_at old at in
      let array-is = array_is old table name v array tabled named of in
      let len = array_len old v array array-is in
      let same : slice_set array block (replicate 4096 0) ≡ array_of next.session.contents v =
      ap (λ (blocks : List (List ℕ)). slice_set blocks block (replicate 4096 0)) array-is
      ∙ sym (array_set old.session.contents next.session.contents v block (replicate 4096 0) within (content_trimmed old.session at)
      (λ b has other. content_alike old.session.contents next.session.contents b (sym (get_unmapped_apart old.session.contents at b other)))) in
      let behind : IsTabled next table = trimmed_tabled old at table (not_first old.device.blocks table v at tabled.is named.0 (in_volume v block within)) tabled in
      record {
        next = Some (slice_set array block (replicate 4096 0));
        there = subst (λ (h : Held). VolumeIn h name (Some (slice_set array block (replicate 4096 0)))) (sym e) (table, behind, (v, named, same));
        own = (omega (arith, within, len), refl);
      }
  own_trim block reply volume serves of = absurd serves.3

  own_destroy : (reply : Reply) (volume : Array) → Destroys capacity table old name reply new → VolumeOf table old.session.contents name volume
      → OwnStep old.device.blocks volume (Destroy name) reply new name
  own_destroy Unknown None (lacks, e) of = record { next = None; there = same_there table old new name None tabled e of; own = (refl, refl) }
  own_destroy Unknown (Some array) (lacks, e) (w, named, is) = absurd (lacks_not table name w lacks named)
  own_destroy Full None (v, named, full, e) of = absurd (lacks_not table name v of named)
  own_destroy Full (Some array) (v, named, full, e) of = record { next = Some array; there = same_there table old new name (Some array) tabled e of; own = refl }
  own_destroy (Destroyed number) None (v, left, same, taken, free, (needed, needs, enough, e, is)) of = absurd (lacks_not table name v of (taken_had table v left taken, same))
  own_destroy (Destroyed number) (Some array) (v, left, same, taken, free, (needed, needs, enough, e, is)) of =
      let inside = inside_of old.device.blocks table v tabled.is (taken_had table v left taken) in
      let behind = committed_tabled (changed old left v) needed left (changed_tabled old left v (taken_table old.device.blocks table v left tabled.is taken) inside.start) in
      let lacks : Lacks left name = subst (Lacks left) same (taken_name old.device.blocks table v left tabled.is taken) in
      record { next = None; there = subst (λ (h : Held). VolumeIn h name None) (sym e) (left, behind, lacks); own = refl }
  own_destroy Uncommitted None (v, left, same, taken, free, (needed, needs, short, e)) of = absurd (lacks_not table name v of (taken_had table v left taken, same))
  own_destroy Uncommitted (Some array) (v, left, same, taken, free, (needed, needs, short, e)) of =
      let inside = inside_of old.device.blocks table v tabled.is (taken_had table v left taken) in
      let behind = changed_tabled old left v (taken_table old.device.blocks table v left tabled.is taken) inside.start in
      let lacks : Lacks left name = subst (Lacks left) same (taken_name old.device.blocks table v left tabled.is taken) in
      record { next = None; there = subst (λ (h : Held). VolumeIn h name None) (sym e) (left, behind, lacks); own = refl }
  own_destroy reply volume serves of = absurd serves

own_serves : (capacity : ℕ) (table : List Volume) (old new : Held) (name : List ℕ) (it : Line) (reply : Reply) (volume : Array) → IsTabled old table → named_by it ≡ Some name
    → Serves capacity table old it reply new → VolumeOf table old.session.contents name volume → OwnStep old.device.blocks volume it reply new name
own_serves capacity table old new name (Create n count) reply volume tabled named serves of =
    let same : n ≡ name = cc in
    subst (λ (m : List ℕ). OwnStep old.device.blocks volume (Create n count) reply new m) same
    (own_create capacity table old new n tabled count reply volume serves (subst (λ (m : List ℕ). VolumeOf table old.session.contents m volume) (sym same) of))
own_serves capacity table old new name (Read n block) reply volume tabled named serves of =
    let same : n ≡ name = cc in
    subst (λ (m : List ℕ). OwnStep old.device.blocks volume (Read n block) reply new m) same
    (own_read capacity table old new n tabled block reply volume serves (subst (λ (m : List ℕ). VolumeOf table old.session.contents m volume) (sym same) of))
own_serves capacity table old new name (Write n block content) reply volume tabled named serves of =
    let same : n ≡ name = cc in
    subst (λ (m : List ℕ). OwnStep old.device.blocks volume (Write n block content) reply new m) same
    (own_write capacity table old new n tabled block content reply volume serves (subst (λ (m : List ℕ). VolumeOf table old.session.contents m volume) (sym same) of))
own_serves capacity table old new name (Trim n block) reply volume tabled named serves of =
    let same : n ≡ name = cc in
    subst (λ (m : List ℕ). OwnStep old.device.blocks volume (Trim n block) reply new m) same
    (own_trim capacity table old new n tabled block reply volume serves (subst (λ (m : List ℕ). VolumeOf table old.session.contents m volume) (sym same) of))
own_serves capacity table old new name (Destroy n) reply volume tabled named serves of =
    let same : n ≡ name = cc in
    subst (λ (m : List ℕ). OwnStep old.device.blocks volume (Destroy n) reply new m) same
    (own_destroy capacity table old new n tabled reply volume serves (subst (λ (m : List ℕ). VolumeOf table old.session.contents m volume) (sym same) of))
own_serves capacity table old new name Commit reply volume tabled named serves of = absurd (cc)

-- ---- one line of a run

-- the table of a line is that of block 0
over_table : (held : Held) (table : List Volume) (name : List ℕ) (volume : Array) → held.device.blocks < 2 ^ 64 → IsTabled held table → VolumeIn held name volume
    → VolumeOf table held.session.contents name volume
over_table held table name volume below tabled (other, tabled', of) =
    subst (λ (t : List Volume). VolumeOf t held.session.contents name volume) (one_tabled held other table below tabled' tabled) of

pub turn_blocks : (capacity : ℕ) (old : Held) (line : List ℕ) (reply : Reply) (new : Held) → Turn capacity old line reply new → new.device.blocks ≡ old.device.blocks
turn_blocks capacity old line reply new (inl served) = changes_blocks served.table old (named_by served.it) new (change_of capacity served.table old new served.it reply served.serves)
turn_blocks capacity old line reply new (inr (bad, is, e)) = ap (λ (h : Held). h.device.blocks) e

pub turn_tabled : (capacity : ℕ) (old : Held) (line : List ℕ) (reply : Reply) (new : Held) (table : List Volume) → IsTabled old table → Turn capacity old line reply new
    → (next : List Volume) × IsTabled new next
turn_tabled capacity old line reply new table tabled (inl served) =
    let change = change_of capacity served.table old new served.it reply served.serves in
    (table_behind served.table old (named_by served.it) new change, changes_tabled served.table old (named_by served.it) new served.tabled change)
turn_tabled capacity old line reply new table tabled (inr (bad, is, e)) = (table, subst (λ (h : Held). IsTabled h table) (sym e) tabled)

own_line : (capacity : ℕ) (old : Held) (line : List ℕ) (reply : Reply) (new : Held) (name : List ℕ) (it : Line) (volume : Array) → old.device.blocks < 2 ^ 64 → Turn capacity old line reply new
    → Spells line it → named_by it ≡ Some name → VolumeIn old name volume → OwnStep old.device.blocks volume it reply new name
own_line capacity old line reply new name it volume below (inl served) spelled named there =
    let same : served.it ≡ it = one_thing line served.it it served.spelled spelled in
    own_serves capacity served.table old new name it reply volume served.tabled named (subst (λ (i : Line). Serves capacity served.table old i reply new) same served.serves)
    (over_table old served.table name volume below served.tabled there)
own_line capacity old line reply new name it volume below (inr (bad, is, e)) spelled named there = absurd (bad it spelled)

other_line : (capacity : ℕ) (old : Held) (line : List ℕ) (reply : Reply) (new : Held) (name : List ℕ) (volume : Array) → old.device.blocks < 2 ^ 64 → Turn capacity old line reply new
    → ((it : Line) → Spells line it → named_by it ≢ Some name) → VolumeIn old name volume → VolumeIn new name volume
other_line capacity old line reply new name volume below (inl served) none there =
    let change = change_of capacity served.table old new served.it reply served.serves in (
      table_behind served.table old (named_by served.it) new change,
      changes_tabled served.table old (named_by served.it) new served.tabled change,
      other_stays served.table old (named_by served.it) new name volume served.tabled (none served.it served.spelled) change (over_table old served.table name volume below served.tabled there),
    )
other_line capacity old line reply new name volume below (inr (bad, is, e)) none there = subst (λ (h : Held). VolumeIn h name volume) (sym e) there

-- ---- lines one after another

-- the lines of a name with their replies are those of its volume alone
pub record EndsOwn (blocks : ℕ) (volume : Array) (turns : List (Line × Reply)) (last : Held) (name : List ℕ) : Type 0 where
  pub next : Array
  pub own : Own blocks volume turns next
  pub there : VolumeIn last name next

pub own_replies : (capacity : ℕ) (name : List ℕ) (entry : Held) (lines : List (List ℕ)) (replies : List Reply) (states : List Held) (volume : Array) (turns : List (Line × Reply))
    → entry.device.blocks < 2 ^ 64 → Leads (Turn capacity) entry lines replies states → VolumeIn entry name volume → AreOf name lines replies turns
    → EndsOwn entry.device.blocks volume turns (last_of entry states) name
own_replies capacity name entry lines [] [] volume turns below leads there are =
    record { next = volume; own = subst (λ (ts : List (Line × Reply)). Own entry.device.blocks volume ts volume) (sym are) refl; there = there }
own_replies capacity name entry lines [] (state ∷ states) volume turns below leads there are = absurd leads
own_replies capacity name entry lines (reply ∷ replies) [] volume turns below leads there are = absurd leads
own_replies capacity name entry [] (reply ∷ replies) (state ∷ states) volume turns below leads there are = absurd leads
own_replies capacity name entry (line ∷ lines) (reply ∷ replies) (state ∷ states) volume turns below (turn, more) there (inl (it, spelled, named, rest, is, are)) =
    let step = own_line capacity entry line reply state name it volume below turn spelled named there in
    let blocks = turn_blocks capacity entry line reply state turn in
    let later = own_replies capacity name state lines replies states step.next rest (omega (arith, below, blocks)) more step.there are in
    record {
      next = later.next;
      own = subst (λ (ts : List (Line × Reply)). Own entry.device.blocks volume ts later.next) (sym is)
          (step.next, step.own, subst (λ (b : ℕ). Own b step.next rest later.next) blocks later.own);
      there = later.there;
    }
own_replies capacity name entry (line ∷ lines) (reply ∷ replies) (state ∷ states) volume turns below (turn, more) there (inr (none, are)) =
    let blocks = turn_blocks capacity entry line reply state turn in
    let later = own_replies capacity name state lines replies states volume turns (omega (arith, below, blocks)) more
    (other_line capacity entry line reply state name volume below turn none there) are in
    record { next = later.next; own = subst (λ (b : ℕ). Own b volume turns later.next) blocks later.own; there = later.there }

-- ---- which lines these are, and which volume

same_or_not : (a b : List ℕ) → (a ≡ b) ⊎ (a ≢ b)
same_or_not [] [] = inl refl
same_or_not [] (y ∷ b) = inr (λ e. cc)
same_or_not (x ∷ a) [] = inr (λ e. cc)
same_or_not (x ∷ a) (y ∷ b) =
    elim (cases_eq x y) [
      | inr other ↦ inr (λ e. let first : x ≡ y = cc in other first)
      | inl first ↦ elim (same_or_not a b) [
        | inr other ↦ inr (λ e. let rest : a ≡ b = cc in other rest)
        | inl rest ↦ inl (cc)
      ]
    ]

is_named : (it : Line) (name : List ℕ) → (named_by it ≡ Some name) ⊎ (named_by it ≢ Some name)
is_named it name = elim (cases_of (named_by it)) [
  | inl none ↦ inr (λ e. cc)
  | inr (mine, is) ↦ elim (same_or_not mine name) [
    | inl same ↦ inl (is ∙ ap Some same)
    | inr other ↦ inr (λ e. let same : mine ≡ name = cc in other same)
  ]
]
  where
    cases_of : (owner : Option (List ℕ)) → (owner ≡ None) ⊎ ((mine : List ℕ) × (owner ≡ Some mine))
    cases_of None = inl refl
    cases_of (Some mine) = inr (mine, refl)

-- each name has its lines
pub are_some : (capacity : ℕ) (name : List ℕ) (entry : Held) (lines : List (List ℕ)) (replies : List Reply) (states : List Held) → Leads (Turn capacity) entry lines replies states
    → (turns : List (Line × Reply)) × AreOf name lines replies turns
are_some capacity name entry lines [] states leads = ([], refl)
are_some capacity name entry [] (reply ∷ replies) [] leads = absurd leads
are_some capacity name entry (line ∷ lines) (reply ∷ replies) [] leads = absurd leads
are_some capacity name entry [] (reply ∷ replies) (state ∷ states) leads = absurd leads
are_some capacity name entry (line ∷ lines) (reply ∷ replies) (state ∷ states) (inl served, more) =
    let rest = are_some capacity name state lines replies states more in
    elim (is_named served.it name) [
      | inl named ↦ ((served.it, reply) ∷ rest.0, inl (served.it, served.spelled, named, rest.0, refl, rest.1))
      | inr other ↦ (rest.0, inr (λ it spelled. subst (λ (i : Line). named_by i ≢ Some name) (one_thing line served.it it served.spelled spelled) other, rest.1))
    ]
are_some capacity name entry (line ∷ lines) (reply ∷ replies) (state ∷ states) (inr (bad, is, e), more) =
    let rest = are_some capacity name state lines replies states more in
    (rest.0, inr (λ it spelled. absurd (bad it spelled), rest.1))

-- and they are no others
pub are_once : (name : List ℕ) (lines : List (List ℕ)) (replies : List Reply) (a b : List (Line × Reply)) → AreOf name lines replies a → AreOf name lines replies b → a ≡ b
are_once name lines [] a b is is' = is ∙ sym is'
are_once name [] (reply ∷ replies) a b is is' = absurd is
are_once name (line ∷ lines) (reply ∷ replies) a b (inl (it, spelled, named, rest, e, are)) (inl (it', spelled', named', rest', e', are')) =
    let same : it ≡ it' = one_thing line it it' spelled spelled' in
    let more : rest ≡ rest' = are_once name lines replies rest rest' are are' in
    e ∙ ap (λ (i : Line). (i, reply) ∷ rest) same ∙ ap (λ (r : List (Line × Reply)). (it', reply) ∷ r) more ∙ sym e'
are_once name (line ∷ lines) (reply ∷ replies) a b (inl (it, spelled, named, rest, e, are)) (inr (none, are')) = absurd (none it spelled named)
are_once name (line ∷ lines) (reply ∷ replies) a b (inr (none, are)) (inl (it, spelled, named, rest, e, are')) = absurd (none it spelled named)
are_once name (line ∷ lines) (reply ∷ replies) a b (inr (none, are)) (inr (none', are')) = are_once name lines replies a b are are'

-- a table has a volume of a name, or none
named_or_not : (table : List Volume) (name : List ℕ) → Lacks table name ⊎ ((v : Volume) × IsNamed table name v)
named_or_not [] name = inl (All-nil (λ (v : Volume). v.name ≢ name))
named_or_not (v ∷ table) name =
    elim (same_or_not v.name name) [
      | inl same ↦ inr (v, (Contains-append_left (v ∷ []) table v (Contains-push [] v), same))
      | inr other ↦ elim (named_or_not table name) [
        | inl lacks ↦ inl (All-cons (λ (w : Volume). w.name ≢ name) v table other lacks)
        | inr (w, named) ↦ inr (w, (Contains-append_right (v ∷ []) table w named.0, named.1))
      ]
    ]

pub volume_there : (held : Held) (table : List Volume) (name : List ℕ) → IsTabled held table → (volume : Array) × VolumeIn held name volume
volume_there held table name tabled =
    elim (named_or_not table name) [
      | inl lacks ↦ (None, (table, tabled, lacks))
      | inr (v, named) ↦ (Some (array_of held.session.contents v), (table, tabled, (v, named, refl)))
    ]

volume_of_once : (held : Held) (table : List Volume) (name : List ℕ) (a b : Array) → IsTabled held table → VolumeOf table held.session.contents name a → VolumeOf table held.session.contents name b → a ≡ b
volume_of_once held table name None None tabled of of' = refl
volume_of_once held table name None (Some array) tabled of (v, named, is) = absurd (lacks_not table name v of named)
volume_of_once held table name (Some array) None tabled (v, named, is) of = absurd (lacks_not table name v of named)
volume_of_once held table name (Some array) (Some other) tabled (v, named, is) of = ap Some (is ∙ sym (array_is held table name v other tabled named of))

pub volume_once : (held : Held) (name : List ℕ) (a b : Array) → held.device.blocks < 2 ^ 64 → VolumeIn held name a → VolumeIn held name b → a ≡ b
volume_once held name a b below (table, tabled, of) there = volume_of_once held table name a b tabled of (over_table held table name b below tabled there)
