-- What each call does to the history that its record tells.
use Rattle.std.proofs.Common.{◌≡◌, ℕ, suc, ◌+◌, ◌-◌, ◌<◌, ◌≤◌, ◌||◌, min, Bool, true, false, if◌then◌else◌, List, [], ◌∷◌, ◌++◌, Option, Some, None, Result, Ok, Err, length, refl, sym, ◌∙◌, ap, subst, arith}
use Rattle.std.proofs.lemmas.List.{take_all, take_at, append-nil, drop_all, length_push}
use Rattle.std.proofs.lemmas.List.Elements.{All-push, All-replicate}
use Rattle.std.proofs.lemmas.List.{length-replicate}
use Rattle.std.proofs.lemmas.Bool.{and_parts}
use Rattle.sdbt_base.specs.Bytes.{IsBytes}
use Rattle.sdbt_base.specs.declared.limits.TheConstants.{RECORD}
use Rattle.platform.specs.Image.{Image, IsWhole, IsEarlier, with_page, all_synced}
use Rattle.platform.specs.History.{Steps}
use Rattle.platform.proofs.Moments.{Steps-push, Steps-same, whole-now}
use Rattle.folder_platform.specs.Files.{Files, zero_page, fitted, placed}
use Rattle.folder_platform.specs.Events.{Event, is_look, all_done, page_read, page_written, media_synced, root_read, root_unread}
use Rattle.folder_platform.specs.Model.{Model, replay, after_call, durable}
use Rattle.folder_platform.specs.Told.{shown, past_of, now_of, reads_of, IsTold, AreOrderly, told_by}
use Rattle.folder_platform.specs.Sequences.{NotesCell}
use Rattle.folder_platform.specs.Loss.{Settled}
use Rattle.folder_platform.specs.declared.file_call.FileCall.{FileCall}
use Rattle.folder_platform.specs.declared.file_call.FileCall.TheVariants.{CountPages, ReadPage, WritePage, SyncMedia, SyncFolder, ReadRoot, SyncRoot, RemoveRoot, RemoveNew, MakeNew, SyncNew, RenameNew, SyncCell, ReplaceInPlace, ClearInPlace}
use Rattle.folder_platform.proofs.Orderly.{orderly-more, earlier-same}

-- pages

pub zero_page-bytes : IsBytes RECORD zero_page
unfolding zero_page
zero_page-bytes = (length-replicate {A = ℕ} RECORD 0, All-replicate (λ b. b < 256) RECORD 0 (omega arith))

pub placed-end : (pages : List (List ℕ)) (addr : ℕ) (page : List ℕ) → length pages ≡ addr → placed pages addr page ≡ pages ++ page ∷ []
unfolding placed fitted
placed-end pages addr page at =
    let none : addr - length pages ≡ 0 = omega arith in
    rw (none, append-nil, take_all addr pages (omega arith), drop_all (suc addr) pages (omega arith)) refl

-- the present image of a told record
pub whole-told : (files : Files) (events : List Event) → IsTold files events → IsWhole (now_of files events)
whole-told files events told = whole-now (told_by files events told)

-- a page more
pub whole-page : (image : Image) (page reads : List ℕ) → IsBytes RECORD page → IsBytes RECORD reads → IsWhole image
    → IsWhole (record image { recorded = image.recorded ++ page ∷ []; readable = image.readable ++ reads ∷ [] })
whole-page image page reads is reads_is whole = record {
  cell = whole.cell;
  recorded = All-push (IsBytes RECORD) image.recorded page whole.recorded is;
  readable = All-push (IsBytes RECORD) image.readable reads whole.readable reads_is;
  as_many = omega (arith, length_push image.recorded page, length_push image.readable reads, whole.as_many);
  synced = omega (arith, length_push image.recorded page, whole.synced);
}

pub earlier-page : (image : Image) (page reads : List ℕ) → IsWhole image
    → IsEarlier image (record image { recorded = image.recorded ++ page ∷ []; readable = image.readable ++ reads ∷ [] })
earlier-page image page reads whole = record {
  recorded = take_at image.recorded (page ∷ []) (length image.recorded) refl;
  readable = take_at image.readable (reads ∷ []) (length image.recorded) whole.as_many;
  pages = omega (arith, length_push image.recorded page);
  synced = omega arith;
}

-- a write behind the last page keeps those that were on the disk
kept_write : (is_named : Bool) (synced addr : ℕ) → (if is_named then synced else 0) ≤ addr → (if is_named then min synced addr else 0) ≡ (if is_named then synced else 0)
kept_write true synced addr low = omega arith
kept_write false synced addr low = refl

pub with_page_of : (m : Model) (addr : ℕ) (ok : Bool) (page : List ℕ) → length m.recorded ≡ addr → length m.readable ≡ addr → durable m ≤ addr
    → shown (after_call WritePage addr ok page m) ≡ with_page (shown m) page (if ok then page else zero_page)
with_page_of m addr ok page recorded readable low =
    let reads : List ℕ = if ok then page else zero_page in
    let all : placed m.recorded addr page ≡ m.recorded ++ page ∷ [] = placed-end m.recorded addr page recorded in
    let each : placed m.readable addr reads ≡ m.readable ++ reads ∷ [] = placed-end m.readable addr reads readable in
    rw (all, each, kept_write m.is_named m.synced addr low) refl

-- a record with one call more, by the image that comes of it
module _ (files : Files) (e : Event) (events : List Event) (adds : past_of files (e ∷ events) ≡ past_of files events ++ now_of files events ∷ []) (told : IsTold files events) where
  pub told_more : IsWhole (now_of files (e ∷ events)) → IsEarlier (now_of files events) (now_of files (e ∷ events)) → IsTold files (e ∷ events)
  told_more whole later =
      subst (λ past. AreOrderly past (now_of files (e ∷ events))) (sym adds)
      (orderly-more (past_of files events) (now_of files events) (now_of files (e ∷ events)) told whole later)

  pub told_as : (image : Image) → now_of files (e ∷ events) ≡ image → IsWhole image → IsEarlier (now_of files events) image → IsTold files (e ∷ events)
  told_as image is whole later = told_more (subst IsWhole (sym is) whole) (subst (IsEarlier (now_of files events)) (sym is) later)

  pub told_same : now_of files (e ∷ events) ≡ now_of files events → IsTold files (e ∷ events)
  told_same same = told_as (now_of files events) same (whole-told files events told) (earlier-same (now_of files events) (whole-told files events told))

  pub steps_told : (told' : IsTold files (e ∷ events)) → Steps (told_by files events told) (told_by files (e ∷ events) told')
  steps_told told' = Steps-push (told_by files events told) (told_by files (e ∷ events) told') adds

pub told_wrote : (files : Files) (events : List Event) (addr : ℕ) (ok : Bool) (page : List ℕ) → IsTold files events → length (replay files events).recorded ≡ addr → length (replay files events).readable ≡ addr → IsBytes RECORD page
    → IsTold files (page_written addr ok page ∷ events)
told_wrote files events addr ok page told recorded readable is =
    let m = replay files events in
    let whole = whole-told files events told in
    let reads : List ℕ = if ok then page else zero_page in
    let reads_is : IsBytes RECORD reads = elim ok as (λ ok. IsBytes RECORD (if ok then page else zero_page)) [ true ↦ is | false ↦ zero_page-bytes ] in
    told_as files (page_written addr ok page) events refl told (with_page (shown m) page reads) (with_page_of m addr ok page recorded readable (omega (arith, whole.synced)))
    (whole-page (shown m) page reads is reads_is whole) (earlier-page (shown m) page reads whole)

-- all pages synced
pub whole-synced : (image : Image) → IsWhole image → IsWhole (all_synced image)
whole-synced image whole = record { cell = whole.cell; recorded = whole.recorded; readable = whole.readable; as_many = whole.as_many; synced = omega arith }

pub earlier-synced : (image : Image) → IsWhole image → IsEarlier image (all_synced image)
earlier-synced image whole =
    let same = earlier-same image whole in
    record { recorded = same.recorded; readable = same.readable; pages = omega arith; synced = whole.synced }

synced-now : (m : Model) → m.is_believed ≡ true → m.is_named ≡ true → shown (after_call SyncMedia 0 true [] m) ≡ all_synced (shown m)
synced-now m believed named = rw (believed, named) refl

believed-after : (call : FileCall) (n : ℕ) (ok : Bool) (bytes : List ℕ) (m : Model) → (is_look call || ok) ≡ true → m.is_believed ≡ true → (after_call call n ok bytes m).is_believed ≡ true
believed-after CountPages n true bytes m done was = was
believed-after CountPages n false bytes m done was = was
believed-after ReadPage n ok bytes m done was = was
believed-after WritePage n ok bytes m done was = was
believed-after SyncMedia n ok bytes m done was = rw done was
believed-after SyncFolder n ok bytes m done was = rw done was
believed-after ReadRoot n ok bytes m done was = was
believed-after SyncRoot n ok bytes m done was = rw done was
believed-after RemoveRoot n ok bytes m done was = was
believed-after RemoveNew n ok bytes m done was = rw done was
believed-after MakeNew n ok bytes m done was = was
believed-after SyncNew n ok bytes m done was = rw done was
believed-after RenameNew n ok bytes m done was = was
believed-after SyncCell n ok bytes m done was = rw done was
believed-after ReplaceInPlace n ok bytes m done was = was
believed-after ClearInPlace n ok bytes m done was = was

-- as long as all was done, a sync is believed
pub believed_now : (files : Files) (events : List Event) → all_done events ≡ true → (replay files events).is_believed ≡ true
believed_now files [] done = refl
believed_now files (e ∷ earlier) done =
    let both = and_parts (is_look e.0 || e.2) (all_done earlier) done in
    believed-after e.0 e.1 e.2 e.3 (replay files earlier) both.0 (believed_now files earlier both.1)

pub told_synced : (files : Files) (events : List Event) (ok : Bool) → (replay files events).is_believed ≡ true → (replay files events).is_named ≡ true → IsTold files events → IsTold files (media_synced ok ∷ events)
told_synced files events false believed named told = told_same files (media_synced false) events refl told refl
told_synced files events true believed named told =
    let image = now_of files events in
    let whole = whole-told files events told in
    told_as files (media_synced true) events refl told (all_synced image) (synced-now (replay files events) believed named) (whole-synced image whole) (earlier-synced image whole)

-- a call that leaves the cell and the medium as they are
told_read : (files : Files) (events : List Event) (addr : ℕ) (ok : Bool) (page : List ℕ) → IsTold files events → IsTold files (page_read addr ok page ∷ events)
told_read files events addr ok page told = told_same files (page_read addr ok page) events refl told refl

-- the same, where files and record are known by equations
pub steps_to : (files files' : Files) (e : Event) (events events' : List Event) (told : IsTold files events) (told' : IsTold files' events') → files' ≡ files → events' ≡ e ∷ events
    → past_of files (e ∷ events) ≡ past_of files events ++ now_of files events ∷ [] → Steps (told_by files events told) (told_by files' events' told')
steps_to files files' e events events' told told' same is adds =
    Steps-push (told_by files events told) (told_by files' events' told') (ap (λ (f : Files). past_of f events') same ∙ ap (λ (es : List Event). past_of files es) is ∙ adds)

-- what a write of a page behind the last one makes
pub record Grown (files files' : Files) (events events' : List Event) (addr : ℕ) (page reads : List ℕ) : Type 0 where
  pub told : IsTold files' events'
  pub readable : length (replay files' events').readable ≡ addr + 1
  pub recorded : length (replay files' events').recorded ≡ addr + 1
  pub image : now_of files' events' ≡ with_page (now_of files events) page reads
  pub count : reads_of events' ≡ reads_of events
  pub settled : Settled (replay files events) → Settled (replay files' events')

grown-now : (files : Files) (events : List Event) (addr : ℕ) (ok : Bool) (page : List ℕ) → IsTold files events → length (replay files events).readable ≡ addr → length (replay files events).recorded ≡ addr → IsBytes RECORD page
    → Grown files files events (page_written addr ok page ∷ events) addr page (if ok then page else zero_page)
grown-now files events addr ok page told readable recorded is =
    let m = replay files events in
    let whole = whole-told files events told in
    let reads : List ℕ = if ok then page else zero_page in
    record {
      told = told_wrote files events addr ok page told recorded readable is;
      readable = ap (λ (xs : List (List ℕ)). length xs) (placed-end m.readable addr reads readable) ∙ omega (arith, length_push m.readable reads);
      recorded = ap (λ (xs : List (List ℕ)). length xs) (placed-end m.recorded addr page recorded) ∙ omega (arith, length_push m.recorded page);
      image = with_page_of m addr ok page recorded readable (omega (arith, whole.synced));
      count = refl;
      settled = λ s. record { named = s.named; alone = s.alone; synced = s.synced; no_new = s.no_new };
    }

pub grown : (files files' : Files) (events events' : List Event) (addr : ℕ) (ok : Bool) (page : List ℕ) → files' ≡ files → events' ≡ page_written addr ok page ∷ events
    → IsTold files events → length (replay files events).readable ≡ addr → length (replay files events).recorded ≡ addr → IsBytes RECORD page
    → Grown files files' events events' addr page (if ok then page else zero_page)
grown files files' events events' addr ok page same is told readable recorded bytes =
    let reads : List ℕ = if ok then page else zero_page in
    subst (λ (f : Files). Grown files f events events' addr page reads) (sym same)
    (subst (λ (es : List Event). Grown files files events es addr page reads) (sym is) (grown-now files events addr ok page told readable recorded bytes))

-- what a call makes that leaves the pages
pub record Kept (files files' : Files) (events events' : List Event) (image : Image) (reads : ℕ) : Type 0 where
  pub told : IsTold files' events'
  pub readable : length (replay files' events').readable ≡ length (replay files events).readable
  pub recorded : length (replay files' events').recorded ≡ length (replay files events).recorded
  pub shows : now_of files' events' ≡ image
  pub count : reads_of events' ≡ reads
  pub settled : Settled (replay files events) → Settled (replay files' events')

kept-to : (files files' : Files) (events events' now : List Event) (image : Image) (reads : ℕ) → files' ≡ files → events' ≡ now → Kept files files events now image reads → Kept files files' events events' image reads
kept-to files files' events events' now image reads same is kept =
    subst (λ (f : Files). Kept files f events events' image reads) (sym same) (subst (λ (es : List Event). Kept files files events es image reads) (sym is) kept)

pub kept_sync : (files files' : Files) (events events' : List Event) (ok : Bool) → files' ≡ files → events' ≡ media_synced ok ∷ events → (replay files events).is_believed ≡ true → (replay files events).is_named ≡ true → IsTold files events
    → Kept files files' events events' (if ok then all_synced (now_of files events) else now_of files events) (reads_of events)
kept_sync files files' events events' false same is believed named told =
    kept-to files files' events events' (media_synced false ∷ events) (now_of files events) (reads_of events) same is (record { told = told_synced files events false believed named told; readable = refl; recorded = refl; shows = refl; count = refl; settled = λ s. record { named = s.named; alone = s.alone; synced = s.synced; no_new = s.no_new } })
kept_sync files files' events events' true same is believed named told =
    kept-to files files' events events' (media_synced true ∷ events) (all_synced (now_of files events)) (reads_of events) same is
    (record { told = told_synced files events true believed named told; readable = refl; recorded = refl; shows = synced-now (replay files events) believed named; count = refl; settled = λ s. record { named = s.named; alone = s.alone; synced = s.synced; no_new = s.no_new } })

pub kept_read : (files files' : Files) (events events' : List Event) (addr : ℕ) (ok : Bool) (page : List ℕ) → files' ≡ files → events' ≡ page_read addr ok page ∷ events → IsTold files events
    → Kept files files' events events' (now_of files events) (reads_of (page_read addr ok page ∷ events))
kept_read files files' events events' addr ok page same is told =
    kept-to files files' events events' (page_read addr ok page ∷ events) (now_of files events) (reads_of (page_read addr ok page ∷ events)) same is (record { told = told_read files events addr ok page told; readable = refl; recorded = refl; shows = refl; count = refl; settled = λ s. record { named = s.named; alone = s.alone; synced = s.synced; no_new = s.no_new } })

pub kept_load : (files files' : Files) (events events' : List Event) (held : Option (List ℕ)) → files' ≡ files → events' ≡ root_read held ∷ events → IsTold files events
    → Kept files files' events events' (now_of files events) (reads_of events + 1)
kept_load files files' events events' None same is told =
    kept-to files files' events events' (root_read None ∷ events) (now_of files events) (reads_of events + 1) same is
    (record { told = told_same files (root_read None) events refl told refl; readable = refl; recorded = refl; shows = refl; count = refl; settled = λ s. record { named = s.named; alone = s.alone; synced = s.synced; no_new = s.no_new } })
kept_load files files' events events' (Some bytes) same is told =
    kept-to files files' events events' (root_read (Some bytes) ∷ events) (now_of files events) (reads_of events + 1) same is
    (record { told = told_same files (root_read (Some bytes)) events refl told refl; readable = refl; recorded = refl; shows = refl; count = refl; settled = λ s. record { named = s.named; alone = s.alone; synced = s.synced; no_new = s.no_new } })

kept_unread : (files files' : Files) (events events' : List Event) → files' ≡ files → events' ≡ root_unread ∷ events → IsTold files events → Kept files files' events events' (now_of files events) (reads_of events)
kept_unread files files' events events' same is told =
    kept-to files files' events events' (root_unread ∷ events) (now_of files events) (reads_of events) same is (record { told = told_same files root_unread events refl told refl; readable = refl; recorded = refl; shows = refl; count = refl; settled = λ s. record { named = s.named; alone = s.alone; synced = s.synced; no_new = s.no_new } })

-- a look that fails ends nothing
pub done_look : {E : Type 0} (events events' : List Event) (result : Result Bool E) (into : List ℕ) → NotesCell result into events events' → all_done events' ≡ all_done events
done_look events events' (Ok full) into (None, is, _, _) = ap all_done is
done_look events events' (Ok full) into (Some bytes, is, _, _) = ap all_done is
done_look events events' (Err error) into is = ap all_done is

pub done_read : (events events' : List Event) (addr : ℕ) (ok : Bool) (page : List ℕ) → events' ≡ page_read addr ok page ∷ events → all_done events' ≡ all_done events
done_read events events' addr ok page is = ap all_done is

pub written_done : (events events' : List Event) (addr : ℕ) (ok : Bool) (page : List ℕ) → events' ≡ page_written addr ok page ∷ events → ok ≡ true → all_done events ≡ true → all_done events' ≡ true
written_done events events' addr ok page is done was = ap all_done is ∙ rw done was

pub failed_event : (events events' : List Event) (e : Event) → events' ≡ e ∷ events → is_look e.0 ≡ false → e.2 ≡ false → all_done events' ≡ false
failed_event events events' e is changes failed = ap all_done is ∙ rw (changes, failed) refl

pub synced_done : (events events' : List Event) (ok : Bool) → events' ≡ media_synced ok ∷ events → ok ≡ true → all_done events ≡ true → all_done events' ≡ true
synced_done events events' ok is done was = ap all_done is ∙ rw done was

-- one look at `root`
pub kept_look : {E : Type 0} (files files' : Files) (events events' : List Event) (result : Result Bool E) (into : List ℕ) → files' ≡ files → NotesCell result into events events' → IsTold files events
    → Kept files files' events events' (now_of files events) (reads_of events')
kept_look files files' events events' (Ok full) into same notes told =
    let all = kept_load files files' events events' notes.0 same notes.1 told in
    record { told = all.told; readable = all.readable; recorded = all.recorded; shows = all.shows; count = refl; settled = all.settled }
kept_look files files' events events' (Err error) into same notes told =
    let all = kept_unread files files' events events' same notes told in
    record { told = all.told; readable = all.readable; recorded = all.recorded; shows = all.shows; count = refl; settled = all.settled }

pub steps_none : (files files' : Files) (events events' : List Event) (told : IsTold files events) (told' : IsTold files' events') → files' ≡ files → events' ≡ events → Steps (told_by files events told) (told_by files' events' told')
steps_none files files' events events' told told' same is =
    Steps-same (told_by files events told) (told_by files' events' told')
    (ap (λ (f : Files). past_of f events') same ∙ ap (λ (es : List Event). past_of files es) is) (ap (λ (f : Files). now_of f events') same ∙ ap (λ (es : List Event). now_of files es) is)
