-- What the calls of the platform that change something tell, and how often the record says that something was changed.
use Rattle.std.proofs.Common.{◌≡◌, inl, inr, ℕ, ◌+◌, Bool, true, false, if◌then◌else◌, List, [], ◌∷◌, ◌++◌, Option, Some, None, Result, Ok, Err, is_ok, length, refl, sym, ◌∙◌, ap, subst, arith}
use Rattle.std.specs.Prelude.{◌↔◌, OnOk, IfOk, IsTrue, IsSome, slice_get}
use Rattle.std.proofs.lemmas.List.{length_push}
use Rattle.sdbt_base.specs.Bytes.{IsBytes}
use Rattle.sdbt_base.specs.declared.limits.TheConstants.{ROOT}
use Rattle.sdbt_base.specs.Rises.{MayRiseByOne, CountsOnce}
use Rattle.platform.specs.Image.{Image, with_page, with_cell, all_synced, IsEither, MayHavePage}
use Rattle.platform.specs.History.{Steps}
use Rattle.folder_platform.specs.Files.{Files, zero_page}
use Rattle.folder_platform.specs.Events.{Event, all_done, page_read, page_written, media_synced, root_read, root_unread}
use Rattle.folder_platform.specs.Model.{NamedFile, bytes_of, replay}
use Rattle.folder_platform.specs.Honest.{IsHonest}
use Rattle.folder_platform.specs.Told.{cell_of, cell_with, past_of, now_of, reads_of, page_reads_of, changes_of, IsTold, told_by}
use Rattle.folder_platform.specs.Sequences.{Renames, Unlinks, Replaces, Clears, Makes, Asks, NotesCell}
use Rattle.folder_platform.specs.Loss.{Settled}
use Rattle.folder_platform.proofs.Telling.{whole-told, with_page_of, kept_sync, believed_now, steps_to, steps_none}
use Rattle.folder_platform.proofs.Changing.{Changes, changes_replaced, changes_cleared, changes_time}

-- none more, or one more
none_more : (old new : ℕ) → new ≡ old → MayRiseByOne old new
none_more old new same = record { rises = omega (arith, same); by_one = omega (arith, same) }

one_more : (old new : ℕ) → new ≡ old + 1 → MayRiseByOne old new
one_more old new more = record { rises = omega (arith, more); by_one = omega (arith, more) }

one_if : (ok : Bool) (old new : ℕ) → new ≡ (if ok then old + 1 else old) → MayRiseByOne old new
one_if true old new more = one_more old new more
one_if false old new same = none_more old new same

-- one call counts, and of the calls of a replacement and of a clearing one
module _ {T E : Type 0} (old new : List Event) where
  counts_one : (result : Result T E) → changes_of new ≡ changes_of old + 1 → CountsOnce result (changes_of old) (changes_of new)
  counts_one (Ok done) more = more
  counts_one (Err fault) more = one_more (changes_of old) (changes_of new) more

  counts_none : (result : Result T E) → is_ok result ≡ false → changes_of new ≡ changes_of old → CountsOnce result (changes_of old) (changes_of new)
  counts_none (Ok done) failed same = cc
  counts_none (Err fault) failed same = none_more (changes_of old) (changes_of new) same

  counts_renamed : (bytes : List ℕ) (result : Result T E) → Renames bytes (is_ok result) old new → CountsOnce result (changes_of old) (changes_of new)
  counts_renamed bytes result (inr (failed, is)) = counts_none result failed (ap changes_of is)
  counts_renamed bytes result (inl (inr (failed, is))) = counts_none result failed (ap changes_of is)
  counts_renamed bytes result (inl (inl (inr (failed, is)))) = counts_none result failed (ap changes_of is)
  counts_renamed bytes result (inl (inl (inl (inr (failed, is))))) = counts_one result (ap changes_of is)
  counts_renamed bytes result (inl (inl (inl (inl (inr (failed, is)))))) = counts_one result (ap changes_of is)
  counts_renamed bytes result (inl (inl (inl (inl (inl (done, is)))))) = counts_one result (ap changes_of is)

  counts_unlinked : (result : Result T E) → Unlinks (is_ok result) old new → CountsOnce result (changes_of old) (changes_of new)
  counts_unlinked result (inr (failed, is)) = counts_none result failed (ap changes_of is)
  counts_unlinked result (inl (inr (failed, is))) = counts_one result (ap changes_of is)
  counts_unlinked result (inl (inl (inr (failed, is)))) = counts_one result (ap changes_of is)
  counts_unlinked result (inl (inl (inl (done, is)))) = counts_one result (ap changes_of is)

  counts_replaced : (bytes : List ℕ) (result : Result T E) → Replaces bytes (is_ok result) old new → CountsOnce result (changes_of old) (changes_of new)
  counts_replaced bytes result (inl made) = counts_renamed bytes result made
  counts_replaced bytes result (inr is) = counts_one result (ap changes_of is)

  counts_cleared : (result : Result T E) → Clears (is_ok result) old new → CountsOnce result (changes_of old) (changes_of new)
  counts_cleared result (inl made) = counts_unlinked result made
  counts_cleared result (inr is) = counts_one result (ap changes_of is)

-- and none of them reads
abbrev AreUnread : List Event → List Event → Type 0
AreUnread old new = (reads_of new ≡ reads_of old) × (page_reads_of new ≡ page_reads_of old)

unread_replaced : (bytes : List ℕ) (ok : Bool) (old new : List Event) → Replaces bytes ok old new → AreUnread old new
unread_replaced bytes ok old new (inr is) = (ap reads_of is, ap page_reads_of is)
unread_replaced bytes ok old new (inl (inr (failed, is))) = (ap reads_of is, ap page_reads_of is)
unread_replaced bytes ok old new (inl (inl (inr (failed, is)))) = (ap reads_of is, ap page_reads_of is)
unread_replaced bytes ok old new (inl (inl (inl (inr (failed, is))))) = (ap reads_of is, ap page_reads_of is)
unread_replaced bytes ok old new (inl (inl (inl (inl (inr (failed, is)))))) = (ap reads_of is, ap page_reads_of is)
unread_replaced bytes ok old new (inl (inl (inl (inl (inl (inr (failed, is))))))) = (ap reads_of is, ap page_reads_of is)
unread_replaced bytes ok old new (inl (inl (inl (inl (inl (inl (done, is))))))) = (ap reads_of is, ap page_reads_of is)

unread_cleared : (ok : Bool) (old new : List Event) → Clears ok old new → AreUnread old new
unread_cleared ok old new (inr is) = (ap reads_of is, ap page_reads_of is)
unread_cleared ok old new (inl (inr (failed, is))) = (ap reads_of is, ap page_reads_of is)
unread_cleared ok old new (inl (inl (inr (failed, is)))) = (ap reads_of is, ap page_reads_of is)
unread_cleared ok old new (inl (inl (inl (inr (failed, is))))) = (ap reads_of is, ap page_reads_of is)
unread_cleared ok old new (inl (inl (inl (inl (done, is))))) = (ap reads_of is, ap page_reads_of is)

on_ok : {T E : Type 0} (result : Result T E) (P : Type 0) → (is_ok result ≡ true → P) → OnOk result P
on_ok (Ok done) P f = f refl
on_ok (Err fault) P f = tt

-- what an answer says, and what holds where it is one
pub if_ok_also : {T E : Type 0} (result : Result T E) (P : T → Type 0) (Q : Type 0) → IfOk result P → OnOk result Q → IfOk result (λ answer. P answer × Q)
if_ok_also (Ok answer) P Q p q = (p, q)
if_ok_also (Err fault) P Q p q = tt

either_of : (ok : Bool) (before after image : Image) → image ≡ (if ok then after else before) → IsEither before after image
either_of true before after image is = inr is
either_of false before after image is = inl is

-- an image with another one's cell, or with this
pub same_cell : (before after image : Image) → after.cell ≡ before.cell → IsEither before after image → image.cell ≡ before.cell
same_cell before after image same (inl is) = ap (λ (image : Image). image.cell) is
same_cell before after image same (inr is) = ap (λ (image : Image). image.cell) is ∙ same

pub cell_with_page : (before image : Image) (page : List ℕ) → MayHavePage before page image → image.cell ≡ before.cell
cell_with_page before image page (inl is) = ap (λ (image : Image). image.cell) is
cell_with_page before image page (inr (reads, is)) = ap (λ (image : Image). image.cell) is

-- as long as all was done it goes on
pub calm_where_done : (is_stuck done : Bool) → (is_stuck ≡ true → done ≡ false) → done ≡ true → is_stuck ≡ false
calm_where_done true done stuck all = let no = stuck refl in cc
calm_where_done false done stuck all = refl

-- what a call tells that may make this image of the one from before, and leaves the pages
pub record Does {T E : Type 0} (files files' : Files) (old new : List Event) (told : IsTold files old) (told' : IsTold files' new) (after : Image) (result : Result T E) : Type 0 where
  pub done : OnOk result (now_of files' new ≡ after)
  pub either : IsEither (now_of files old) after (now_of files' new)
  pub time : Steps (told_by files old told) (told_by files' new told')
  pub recorded : length (replay files' new).recorded ≡ length (replay files old).recorded
  pub reads : AreUnread old new
  pub changes : CountsOnce result (changes_of old) (changes_of new)

-- what a page tells that is handed over, or may have been
pub record DoesAppend {T E : Type 0} (files files' : Files) (old new : List Event) (told : IsTold files old) (told' : IsTold files' new) (addr : ℕ) (page : List ℕ) (result : Result T E) : Type 0 where
  pub done : OnOk result (now_of files' new ≡ with_page (now_of files old) page page)
  pub either : MayHavePage (now_of files old) page (now_of files' new)
  pub time : Steps (told_by files old told) (told_by files' new told')
  pub risen : OnOk result (length (replay files' new).recorded ≡ addr + 1)
  pub head : MayRiseByOne addr (length (replay files' new).recorded)
  pub reads : AreUnread old new
  pub changes : changes_of new ≡ changes_of old

-- what a look tells
pub record DoesLook {T E : Type 0} (files files' : Files) (old new : List Event) (told : IsTold files old) (told' : IsTold files' new) (result : Result T E) : Type 0 where
  pub image : now_of files' new ≡ now_of files old
  pub time : Steps (told_by files old told) (told_by files' new told')
  pub recorded : length (replay files' new).recorded ≡ length (replay files old).recorded
  pub answered : OnOk result (reads_of new ≡ reads_of old + 1)
  pub reads : MayRiseByOne (reads_of old) (reads_of new)
  pub changes : changes_of new ≡ changes_of old

-- what a read of a page tells
pub record DoesRead {T E : Type 0} (files files' : Files) (old new : List Event) (told : IsTold files old) (told' : IsTold files' new) (addr : ℕ) (page : List ℕ) (result : Result T E) : Type 0 where
  pub look : DoesLook files files' old new told told' result
  pub page_reads : page_reads_of new + reads_of old ≡ page_reads_of old + reads_of new
  pub found : IsHonest files' new → OnOk result (slice_get (now_of files old).readable addr ≡ Some page)

-- whether the cell is full, and what it holds
abbrev pub HoldsAsTold : Option (List ℕ) → List ℕ → Bool → Type 0
HoldsAsTold cell into full = (IsTrue full ↔ IsSome cell) × (IsTrue full → cell ≡ Some into)

-- what a look at the cell tells
pub record DoesLoad {E : Type 0} (files files' : Files) (old new : List Event) (told : IsTold files old) (told' : IsTold files' new) (into : List ℕ) (result : Result Bool E) : Type 0 where
  pub look : DoesLook files files' old new told told' result
  pub page_reads : page_reads_of new ≡ page_reads_of old
  pub cell : IsHonest files' new → IfOk result (HoldsAsTold (now_of files old).cell into)

-- the cell is what the bytes of `root` make it
cell_of_bytes : (file : NamedFile) → cell_of file ≡ cell_with (bytes_of file)
cell_of_bytes None = refl
cell_of_bytes (Some file) = refl

answered_root : (files : Files) (old : List Event) (root : Option (List ℕ)) → IsHonest files (root_read root ∷ old) → all_done old ≡ true → bytes_of (replay files old).root ≡ root
answered_root files old None honest was = honest.0 was
answered_root files old (Some bytes) honest was = honest.0 was

module _ (files files' : Files) (old new : List Event) (told : IsTold files old) (told' : IsTold files' new) (same : files' ≡ files) where
  now_same : new ≡ old → now_of files' new ≡ now_of files old
  now_same is = ap (λ (f : Files). now_of f new) same ∙ ap (λ (es : List Event). now_of files es) is

  recorded_same : new ≡ old → length (replay files' new).recorded ≡ length (replay files old).recorded
  recorded_same is = ap (λ (f : Files). length (replay f new).recorded) same ∙ ap (λ (es : List Event). length (replay files es).recorded) is

  does_none : {T E : Type 0} (after : Image) (result : Result T E) → is_ok result ≡ false → new ≡ old → Does files files' old new told told' after result
  does_none after result failed is = record {
    done = on_ok result (now_of files' new ≡ after) (λ yes. cc);
    either = inl (now_same is);
    time = steps_none files files' old new told told' same is;
    recorded = recorded_same is;
    reads = (ap reads_of is, ap page_reads_of is);
    changes = counts_none old new result failed (ap changes_of is);
  }

  -- as long as all was done the calls are made, and behind it none
  asked : {T E : Type 0} (Calls : Bool → List Event → List Event → Type 0) (after : Image) (result : Result T E) (done : Bool) → all_done old ≡ done
      → (all_done old ≡ true → Calls (is_ok result) old new → Does files files' old new told told' after result) → Asks Calls result old new → Does files files' old new told told' after result
  asked Calls after result true is does asks = does is (asks.makes is)
  asked Calls after result false is does asks = let none = asks.refuses is in does_none after result none.0 none.1

  look_none : {T E : Type 0} (result : Result T E) → is_ok result ≡ false → new ≡ old → DoesLook files files' old new told told' result
  look_none result failed is = record {
    image = now_same is;
    time = steps_none files files' old new told told' same is;
    recorded = recorded_same is;
    answered = on_ok result (reads_of new ≡ reads_of old + 1) (λ yes. cc);
    reads = none_more (reads_of old) (reads_of new) (ap reads_of is);
    changes = ap changes_of is;
  }

  -- a call that reads, answered or not
  look_one : {T E : Type 0} (result : Result T E) (e : Event) → new ≡ e ∷ old → now_of files (e ∷ old) ≡ now_of files old → past_of files (e ∷ old) ≡ past_of files old ++ now_of files old ∷ []
      → reads_of (e ∷ old) ≡ (if is_ok result then reads_of old + 1 else reads_of old) → changes_of (e ∷ old) ≡ changes_of old → DoesLook files files' old new told told' result
  look_one result e is shows adds reads changes =
      let image : now_of files' new ≡ now_of files old = ap (λ (f : Files). now_of f new) same ∙ ap (λ (es : List Event). now_of files es) is ∙ shows in
      record {
        image = image;
        time = steps_to files files' e old new told told' same is adds;
        recorded = ap (λ (image : Image). length image.recorded) image;
        answered = on_ok result (reads_of new ≡ reads_of old + 1) (λ yes. ap reads_of is ∙ rw yes at reads);
        reads = one_if (is_ok result) (reads_of old) (reads_of new) (ap reads_of is ∙ reads);
        changes = ap changes_of is ∙ changes;
      }

  read_none : {T E : Type 0} (addr : ℕ) (page : List ℕ) (result : Result T E) → is_ok result ≡ false → new ≡ old → DoesRead files files' old new told told' addr page result
  read_none addr page result failed is = record {
    look = look_none result failed is;
    page_reads = rw is refl;
    found = λ honest. on_ok result (slice_get (now_of files old).readable addr ≡ Some page) (λ yes. cc);
  }

  read_asked : {T E : Type 0} (addr : ℕ) (page : List ℕ) (result : Result T E) (done : Bool) → all_done old ≡ done → Asks (Makes (λ done. page_read addr done page)) result old new → DoesRead files files' old new told told' addr page result
  read_asked addr page (Ok answer) true was asks =
      let is = asks.makes was in
      record {
        look = look_one (Ok answer) (page_read addr true page) is refl refl refl refl;
        page_reads = rw is (omega arith);
        found = λ honest. subst (λ (f : Files). slice_get (now_of f old).readable addr ≡ Some page) same ((subst (λ (es : List Event). IsHonest files' es) is honest).0 was);
      }
  read_asked addr page (Err fault) true was asks =
      let is = asks.makes was in
      record { look = look_one (Err fault) (page_read addr false page) is refl refl refl refl; page_reads = rw is (omega arith); found = λ honest. tt }
  read_asked addr page result false was asks = let none = asks.refuses was in read_none addr page result none.0 none.1

  pub asked_read : {T E : Type 0} (addr : ℕ) (page : List ℕ) (result : Result T E) → Asks (Makes (λ done. page_read addr done page)) result old new → DoesRead files files' old new told told' addr page result
  asked_read addr page result = read_asked addr page result (all_done old) refl

  held_cell : (into : List ℕ) (full : Bool) (root : Option (List ℕ)) → all_done old ≡ true → new ≡ root_read root ∷ old → (IsTrue full ↔ IsSome (cell_with root)) → (IsTrue full → cell_with root ≡ Some into) → IsHonest files' new
      → HoldsAsTold (now_of files old).cell into full
  held_cell into full root was is holds is_into honest =
      let bytes : bytes_of (replay files' old).root ≡ root = answered_root files' old root (subst (λ (es : List Event). IsHonest files' es) is honest) was in
      let cell : (now_of files old).cell ≡ cell_with root = ap (λ (f : Files). (now_of f old).cell) (sym same) ∙ cell_of_bytes (replay files' old).root ∙ ap cell_with bytes in
      subst (λ (held : Option (List ℕ)). HoldsAsTold held into full) (sym cell) (holds, is_into)

  load_none : {E : Type 0} (into : List ℕ) (result : Result Bool E) → is_ok result ≡ false → new ≡ old → DoesLoad files files' old new told told' into result
  load_none into (Ok full) failed is = cc
  load_none into (Err fault) failed is = record { look = look_none (Err fault) refl is; page_reads = ap page_reads_of is; cell = λ honest. tt }

  load_one : {E : Type 0} (into : List ℕ) (full : Bool) (root : Option (List ℕ)) → new ≡ root_read root ∷ old → all_done old ≡ true → (IsTrue full ↔ IsSome (cell_with root)) → (IsTrue full → cell_with root ≡ Some into)
      → DoesLoad {E = E} files files' old new told told' into (Ok full)
  load_one into full None is was holds is_into = record {
    look = look_one (Ok full) (root_read None) is refl refl refl refl;
    page_reads = ap page_reads_of is;
    cell = λ honest. held_cell into full None was is holds is_into honest;
  }
  load_one into full (Some bytes) is was holds is_into = record {
    look = look_one (Ok full) (root_read (Some bytes)) is refl refl refl refl;
    page_reads = ap page_reads_of is;
    cell = λ honest. held_cell into full (Some bytes) was is holds is_into honest;
  }

  load_asked : {E : Type 0} (into : List ℕ) (result : Result Bool E) (done : Bool) → all_done old ≡ done → Asks (λ done. NotesCell result into) result old new → DoesLoad files files' old new told told' into result
  load_asked into (Ok full) true was asks = let all = asks.makes was in load_one into full all.0 all.1 was all.2 all.3
  load_asked into (Err fault) true was asks =
      let is = asks.makes was in
      record { look = look_one (Err fault) root_unread is refl refl refl refl; page_reads = ap page_reads_of is; cell = λ honest. tt }
  load_asked into result false was asks = let none = asks.refuses was in load_none into result none.0 none.1

  pub asked_load : {E : Type 0} (into : List ℕ) (result : Result Bool E) → Asks (λ done. NotesCell result into) result old new → DoesLoad files files' old new told told' into result
  asked_load into result = load_asked into result (all_done old) refl

  module _ (settled : all_done old ≡ true → Settled (replay files old)) where
    does_sync : {T E : Type 0} (result : Result T E) → all_done old ≡ true → Makes media_synced (is_ok result) old new → Does files files' old new told told' (all_synced (now_of files old)) result
    does_sync result was is =
        let all = kept_sync files files' old new (is_ok result) same is (believed_now files old was) (settled was).named told in
        record {
          done = on_ok result (now_of files' new ≡ all_synced (now_of files old)) (λ yes. rw yes at all.shows);
          either = either_of (is_ok result) (now_of files old) (all_synced (now_of files old)) (now_of files' new) all.shows;
          time = steps_to files files' (media_synced (is_ok result)) old new told told' same is refl;
          recorded = all.recorded;
          reads = (ap reads_of is, ap page_reads_of is);
          changes = counts_one old new result (ap changes_of is);
        }

    pub asked_sync : {T E : Type 0} (result : Result T E) → Asks (Makes media_synced) result old new → Does files files' old new told told' (all_synced (now_of files old)) result
    asked_sync result = asked (Makes media_synced) (all_synced (now_of files old)) result (all_done old) refl (does_sync result)

    does_change : {T E : Type 0} (held : Option (List ℕ)) (result : Result T E) → Changes files old new told held (is_ok result) → AreUnread old new → CountsOnce result (changes_of old) (changes_of new)
        → Does files files' old new told told' (with_cell (now_of files old) held) result
    does_change held result all reads counts =
        let now : now_of files' new ≡ now_of files new = ap (λ (f : Files). now_of f new) same in
        record {
          done = on_ok result (now_of files' new ≡ with_cell (now_of files old) held) (λ yes. now ∙ all.done yes);
          either = subst (λ (image : Image). IsEither (now_of files old) (with_cell (now_of files old) held) image) (sym now) all.either;
          time = changes_time files files' old new told held (is_ok result) same all told';
          recorded = ap (λ (f : Files). length (replay f new).recorded) same ∙ ap (λ (pages : List (List ℕ)). length pages) all.keeps.recorded;
          reads = reads;
          changes = counts;
        }

    pub asked_clear : {T E : Type 0} (result : Result T E) → Asks Clears result old new → Does files files' old new told told' (with_cell (now_of files old) None) result
    asked_clear result =
        asked Clears (with_cell (now_of files old) None) result (all_done old) refl (λ was made.
        does_change None result (changes_cleared files old (settled was) told (is_ok result) new made) (unread_cleared (is_ok result) old new made) (counts_cleared old new result made))

    -- a record that came into the cell has bytes, since the image is whole
    bytes_held : (bytes : List ℕ) → now_of files new ≡ with_cell (now_of files old) (Some bytes) → IsBytes ROOT bytes
    bytes_held bytes turned =
        (whole-told files' new told').cell bytes (ap (λ (f : Files). (now_of f new).cell) same ∙ ap (λ (image : Image). image.cell) turned)

    pub asked_replace : {T E : Type 0} (bytes : List ℕ) → length bytes ≡ ROOT → (result : Result T E) → Asks (Replaces bytes) result old new → Does files files' old new told told' (with_cell (now_of files old) (Some bytes)) result
    asked_replace bytes size result =
        asked (Replaces bytes) (with_cell (now_of files old) (Some bytes)) result (all_done old) refl (λ was made.
        does_change (Some bytes) result (changes_replaced files old (settled was) told bytes size (is_ok result) new (bytes_held bytes) made) (unread_replaced bytes (is_ok result) old new made) (counts_replaced old new bytes result made))

  module _ (addr : ℕ) (page : List ℕ) (readable : length (replay files old).readable ≡ addr) (recorded : length (replay files old).recorded ≡ addr) where
    does_append : {T E : Type 0} (result : Result T E) → Makes (λ done. page_written addr done page) (is_ok result) old new → DoesAppend files files' old new told told' addr page result
    does_append result is =
        let whole = whole-told files old told in
        let image : now_of files' new ≡ with_page (now_of files old) page (if is_ok result then page else zero_page) =
        ap (λ (f : Files). now_of f new) same ∙ ap (λ (es : List Event). now_of files es) is ∙ with_page_of (replay files old) addr (is_ok result) page recorded readable (omega (arith, whole.synced, recorded)) in
        let risen : length (replay files' new).recorded ≡ addr + 1 = ap (λ (image : Image). length image.recorded) image ∙ omega (arith, length_push (replay files old).recorded page, recorded) in
        record {
          done = on_ok result (now_of files' new ≡ with_page (now_of files old) page page) (λ yes. rw yes at image);
          either = inr (_, image);
          time = steps_to files files' (page_written addr (is_ok result) page) old new told told' same is refl;
          risen = on_ok result (length (replay files' new).recorded ≡ addr + 1) (λ yes. risen);
          head = one_more addr (length (replay files' new).recorded) risen;
          reads = (ap reads_of is, ap page_reads_of is);
          changes = ap changes_of is;
        }

    append_none : {T E : Type 0} (result : Result T E) → is_ok result ≡ false → new ≡ old → DoesAppend files files' old new told told' addr page result
    append_none result failed is = record {
      done = on_ok result (now_of files' new ≡ with_page (now_of files old) page page) (λ yes. cc);
      either = inl (now_same is);
      time = steps_none files files' old new told told' same is;
      risen = on_ok result (length (replay files' new).recorded ≡ addr + 1) (λ yes. cc);
      head = none_more addr (length (replay files' new).recorded) (recorded_same is ∙ recorded);
      reads = (ap reads_of is, ap page_reads_of is);
      changes = ap changes_of is;
    }

    append_asked : {T E : Type 0} (result : Result T E) (done : Bool) → all_done old ≡ done → Asks (Makes (λ done. page_written addr done page)) result old new → DoesAppend files files' old new told told' addr page result
    append_asked result true is asks = does_append result (asks.makes is)
    append_asked result false is asks = let none = asks.refuses is in append_none result none.0 none.1

    pub asked_append : {T E : Type 0} (result : Result T E) → Asks (Makes (λ done. page_written addr done page)) result old new → DoesAppend files files' old new told told' addr page result
    asked_append result = append_asked result (all_done old) refl
