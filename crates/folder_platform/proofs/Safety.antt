-- What a loss of power leaves at each moment.
use Rattle.std.proofs.Common.{◌≡◌, ◌⊎◌, inl, inr, ℕ, Bool, true, false, List, [], ◌∷◌, ◌++◌, Option, Some, None, Result, Ok, Err, length, take, refl, sym, ◌∙◌, ap, subst, arith, length-append, ◌+◌}
use Rattle.std.specs.Prelude.{Contains, option_map}
use Rattle.std.proofs.lemmas.List.Elements.{All-contains, All-cons, All-nil}
use Rattle.platform.specs.Image.{Image}
use Rattle.folder_platform.specs.Files.{Files, fitted}
use Rattle.folder_platform.specs.Events.{Event, page_read, page_written, media_synced, root_read, root_unread, root_removed, new_removed, new_made, new_synced, new_renamed, cell_synced, replaced_in_place, cleared_in_place}
use Rattle.folder_platform.specs.Model.{NamedFile, Model, replay, put_in_place, durable, found, is_synced}
use Rattle.folder_platform.specs.Told.{shown, cell_of, now_of}
use Rattle.folder_platform.specs.Sequences.{Renames, Unlinks, Replaces, Clears, NotesCell, opening, AreOpened}
use Rattle.folder_platform.specs.Loss.{Settled, before_of, IsSafe, AllSafe}
use Rattle.folder_platform.proofs.Leaving.{left_cell, leaves_cell, synced-is_synced}

-- the cell is the one alone
pub safe_alone : (before : Image) (m : Model) → length m.recorded ≡ length m.readable → m.on_disk ≡ Some (m.root ∷ []) → is_synced m.root ≡ true → IsSafe before (shown m) m
safe_alone before m as_many one synced = record {
  stays = λ left may same. record { cell = same; synced = may.synced; pages = omega (arith, may.pages); same = may.same; handed = may.handed; whole = may.whole };
  falls = λ left may other. absurd (other (left_cell m left one synced may));
}

one_of : (a b file : NamedFile) → Contains (a ∷ b ∷ []) file → (file ≡ a) ⊎ (file ≡ b)
one_of a b file there =
    let P = λ (f : NamedFile). (f ≡ a) ⊎ (f ≡ b) in
    All-contains P (a ∷ b ∷ []) file (All-cons P a (b ∷ []) (inl refl) (All-cons P b [] (inr refl) (All-nil P))) there

-- the cell is this one, or the one from before
pub safe_two : (m was : Model) → length m.recorded ≡ length m.readable → m.readable ≡ was.readable → m.recorded ≡ was.recorded → durable m ≡ durable was → m.on_disk ≡ Some (m.root ∷ was.root ∷ []) → is_synced m.root ≡ true → is_synced was.root ≡ true
    → IsSafe (shown was) (shown m) m
safe_two m was as_many readable recorded same two synced synced' = record {
  stays = λ left may cell. record { cell = cell; synced = may.synced; pages = omega (arith, may.pages); same = may.same; handed = may.handed; whole = may.whole };
  falls = λ left may other.
      let there = may.root (m.root ∷ was.root ∷ []) two in
      elim (one_of m.root was.root there.0 there.1) [
        | inl is ↦ absurd (other (leaves_cell there.0 left.root (rw is synced) there.2 ∙ ap cell_of is))
        | inr is ↦ record {
          cell = leaves_cell there.0 left.root (rw is synced') there.2 ∙ ap cell_of is;
          synced = omega (arith, may.synced, same);
          pages = omega (arith, may.pages, ap (λ (xs : List (List ℕ)). length xs) recorded);
          same = ap (λ k. take k left.pages) (sym same) ∙ may.same ∙ ap (λ k. take k m.readable) same ∙ ap (λ (xs : List (List ℕ)). take (durable was) xs) readable;
          handed = may.handed ∙ ap (λ (xs : List (List ℕ)). take (length left.pages) xs) recorded;
          whole = may.whole;
        }
      ];
}

-- one call more
pub safe_more : (files : Files) (e : Event) (events : List Event) → IsSafe (before_of files (e ∷ events)) (now_of files (e ∷ events)) (replay files (e ∷ events)) → AllSafe files events → AllSafe files (e ∷ events)
safe_more files e events here were [] earlier is from = subst (λ (es : List Event). IsSafe (before_of files es) (now_of files es) (replay files es)) is here
safe_more files e events here were (last ∷ later) earlier is from = let rest : events ≡ later ++ earlier = cc in were later earlier rest from

-- calls that come while all was done
module _ (files : Files) (events : List Event) (as_many : length (replay files events).recorded ≡ length (replay files events).readable) (settled : Settled (replay files events)) (safe : AllSafe files events) where
  pub safe_answered : (addr : ℕ) (ok : Bool) (page : List ℕ) → AllSafe files (page_read addr ok page ∷ events)
  safe_answered addr ok page = safe_more files (page_read addr ok page) events (safe_alone _ (replay files (page_read addr ok page ∷ events)) as_many settled.alone settled.synced) safe

  safe_unread : AllSafe files (root_unread ∷ events)
  safe_unread = safe_more files root_unread events (safe_alone _ (replay files (root_unread ∷ events)) as_many settled.alone settled.synced) safe

  pub safe_loaded : (held : Option (List ℕ)) → AllSafe files (root_read held ∷ events)
  safe_loaded None = safe_more files (root_read None) events (safe_alone _ (replay files (root_read None ∷ events)) as_many settled.alone settled.synced) safe
  safe_loaded (Some bytes) = safe_more files (root_read (Some bytes)) events (safe_alone _ (replay files (root_read (Some bytes) ∷ events)) as_many settled.alone settled.synced) safe

  pub safe_synced : (ok : Bool) → AllSafe files (media_synced ok ∷ events)
  safe_synced true = safe_more files (media_synced true) events (safe_alone _ (replay files (media_synced true ∷ events)) as_many settled.alone settled.synced) safe
  safe_synced false = safe_more files (media_synced false) events (safe_alone _ (replay files (media_synced false ∷ events)) as_many settled.alone settled.synced) safe

  pub safe_wrote : (addr : ℕ) (ok : Bool) (page : List ℕ) → length (replay files (page_written addr ok page ∷ events)).recorded ≡ length (replay files (page_written addr ok page ∷ events)).readable → AllSafe files (page_written addr ok page ∷ events)
  safe_wrote addr ok page as_many' = safe_more files (page_written addr ok page) events (safe_alone _ (replay files (page_written addr ok page ∷ events)) as_many' settled.alone settled.synced) safe

  safe_new_removed : (ok : Bool) → AllSafe files (new_removed ok ∷ events)
  safe_new_removed true = safe_more files (new_removed true) events (safe_alone _ (replay files (new_removed true ∷ events)) as_many settled.alone settled.synced) safe
  safe_new_removed false = safe_more files (new_removed false) events (safe_alone _ (replay files (new_removed false ∷ events)) as_many settled.alone settled.synced) safe

  removed_here : (ok : Bool) → IsSafe (now_of files (new_removed true ∷ events)) (now_of files (root_removed ok ∷ new_removed true ∷ events)) (replay files (root_removed ok ∷ new_removed true ∷ events))
  removed_here ok = safe_two (replay files (root_removed ok ∷ new_removed true ∷ events)) (replay files (new_removed true ∷ events)) as_many refl refl refl (ap (option_map (λ (files : List NamedFile). None ∷ files)) settled.alone) refl settled.synced

  safe_root_removed : (ok : Bool) → AllSafe files (root_removed ok ∷ new_removed true ∷ events)
  safe_root_removed ok = safe_more files (root_removed ok) (new_removed true ∷ events) (removed_here ok) (safe_new_removed true)

  safe_unlinked : (ok : Bool) (new : List Event) → Unlinks ok events new → AllSafe files new
  safe_unlinked ok new (inr (failed, is)) = rw is (safe_new_removed false)
  safe_unlinked ok new (inl (inr (failed, is))) = rw is (safe_root_removed false)
  safe_unlinked ok new (inl (inl (inr (failed, is)))) = rw is (safe_more files (cell_synced false) (root_removed true ∷ new_removed true ∷ events) (removed_here true) (safe_root_removed true))
  safe_unlinked ok new (inl (inl (inl (done, is)))) =
      rw is (safe_more files (cell_synced true) (root_removed true ∷ new_removed true ∷ events) (safe_alone _ (replay files (cell_synced true ∷ root_removed true ∷ new_removed true ∷ events)) as_many refl refl) (safe_root_removed true))

  -- a call on a cell in place: it holds this alone where it was done, and else this or what it held before
  safe_in_place : (file : NamedFile) (e : Event) (ok : Bool) → is_synced file ≡ true → replay files (e ∷ events) ≡ put_in_place file ok (replay files events) → before_of files (e ∷ events) ≡ now_of files events → AllSafe files (e ∷ events)
  safe_in_place file e true synced puts before =
      safe_more files e events (subst (λ (m : Model). IsSafe (before_of files (e ∷ events)) (shown m) m) (sym puts) (safe_alone _ (put_in_place file true (replay files events)) as_many refl synced)) safe
  safe_in_place file e false synced puts before =
      safe_more files e events (subst (λ (image : Image). IsSafe image (now_of files (e ∷ events)) (replay files (e ∷ events))) (sym before)
      (subst (λ (m : Model). IsSafe (now_of files events) (shown m) m) (sym puts)
      (safe_two (put_in_place file false (replay files events)) (replay files events) as_many refl refl refl (ap (option_map (λ (files : List NamedFile). file ∷ files)) settled.alone) synced settled.synced))) safe

  pub safe_cleared : (ok : Bool) (new : List Event) → Clears ok events new → AllSafe files new
  safe_cleared ok new (inl made) = safe_unlinked ok new made
  safe_cleared ok new (inr is) = rw is (safe_in_place None (cleared_in_place ok) ok refl refl refl)

  module _ (bytes : List ℕ) where
    safe_new_made : (ok : Bool) → AllSafe files (new_made ok bytes ∷ new_removed true ∷ events)
    safe_new_made ok = safe_more files (new_made ok bytes) (new_removed true ∷ events) (safe_alone _ (replay files (new_made ok bytes ∷ new_removed true ∷ events)) as_many settled.alone settled.synced) (safe_new_removed true)

    safe_new_synced : (ok : Bool) → AllSafe files (new_synced ok ∷ new_made true bytes ∷ new_removed true ∷ events)
    safe_new_synced true = safe_more files (new_synced true) (new_made true bytes ∷ new_removed true ∷ events) (safe_alone _ (replay files (new_synced true ∷ new_made true bytes ∷ new_removed true ∷ events)) as_many settled.alone settled.synced) (safe_new_made true)
    safe_new_synced false = safe_more files (new_synced false) (new_made true bytes ∷ new_removed true ∷ events) (safe_alone _ (replay files (new_synced false ∷ new_made true bytes ∷ new_removed true ∷ events)) as_many settled.alone settled.synced) (safe_new_made true)

    renamed_here : (ok : Bool) → IsSafe (now_of files (new_synced true ∷ new_made true bytes ∷ new_removed true ∷ events)) (now_of files (new_renamed ok ∷ new_synced true ∷ new_made true bytes ∷ new_removed true ∷ events)) (replay files (new_renamed ok ∷ new_synced true ∷ new_made true bytes ∷ new_removed true ∷ events))
    renamed_here ok =
        safe_two (replay files (new_renamed ok ∷ new_synced true ∷ new_made true bytes ∷ new_removed true ∷ events)) (replay files (new_synced true ∷ new_made true bytes ∷ new_removed true ∷ events)) as_many refl refl refl
        (ap (option_map (λ (files : List NamedFile). Some (bytes, true) ∷ files)) settled.alone) refl settled.synced

    safe_renamed : (ok : Bool) → AllSafe files (new_renamed ok ∷ new_synced true ∷ new_made true bytes ∷ new_removed true ∷ events)
    safe_renamed ok = safe_more files (new_renamed ok) (new_synced true ∷ new_made true bytes ∷ new_removed true ∷ events) (renamed_here ok) (safe_new_synced true)

    safe_renames : (ok : Bool) (new : List Event) → Renames bytes ok events new → AllSafe files new
    safe_renames ok new (inr (failed, is)) = rw is (safe_new_removed false)
    safe_renames ok new (inl (inr (failed, is))) = rw is (safe_new_made false)
    safe_renames ok new (inl (inl (inr (failed, is)))) = rw is (safe_new_synced false)
    safe_renames ok new (inl (inl (inl (inr (failed, is))))) = rw is (safe_renamed false)
    safe_renames ok new (inl (inl (inl (inl (inr (failed, is)))))) =
        rw is (safe_more files (cell_synced false) (new_renamed true ∷ new_synced true ∷ new_made true bytes ∷ new_removed true ∷ events) (renamed_here true) (safe_renamed true))
    safe_renames ok new (inl (inl (inl (inl (inl (done, is)))))) =
        rw is (safe_more files (cell_synced true) (new_renamed true ∷ new_synced true ∷ new_made true bytes ∷ new_removed true ∷ events)
        (safe_alone _ (replay files (cell_synced true ∷ new_renamed true ∷ new_synced true ∷ new_made true bytes ∷ new_removed true ∷ events)) as_many refl refl) (safe_renamed true))

    pub safe_replaced : (ok : Bool) (new : List Event) → Replaces bytes ok events new → AllSafe files new
    safe_replaced ok new (inl made) = safe_renames ok new made
    safe_replaced ok new (inr is) = rw is (safe_in_place (Some (bytes, true)) (replaced_in_place ok bytes) ok refl refl refl)

-- the same, where files and record are known by equations
safe_to : (files files' : Files) (events' now : List Event) → files' ≡ files → events' ≡ now → AllSafe files now → AllSafe files' events'
safe_to files files' events' now same is safe = subst (λ (f : Files). AllSafe f events') (sym same) (subst (λ (es : List Event). AllSafe files es) (sym is) safe)

module _ (files files' : Files) (events events' : List Event) (same : files' ≡ files) (as_many : length (replay files events).recorded ≡ length (replay files events).readable) (settled : Settled (replay files events)) (safe : AllSafe files events) where
  pub safe_write : (addr : ℕ) (ok : Bool) (page : List ℕ) → events' ≡ page_written addr ok page ∷ events → length (replay files' events').recorded ≡ length (replay files' events').readable → AllSafe files' events'
  safe_write addr ok page is as_many' =
      let there : length (replay files (page_written addr ok page ∷ events)).recorded ≡ length (replay files (page_written addr ok page ∷ events)).readable =
      subst (λ (es : List Event). length (replay files es).recorded ≡ length (replay files es).readable) is (subst (λ (f : Files). length (replay f events').recorded ≡ length (replay f events').readable) same as_many') in
      safe_to files files' events' (page_written addr ok page ∷ events) same is (safe_wrote files events as_many settled safe addr ok page there)

  pub safe_sync : (ok : Bool) → events' ≡ media_synced ok ∷ events → AllSafe files' events'
  safe_sync ok is = safe_to files files' events' (media_synced ok ∷ events) same is (safe_synced files events as_many settled safe ok)

  pub safe_read : (addr : ℕ) (ok : Bool) (page : List ℕ) → events' ≡ page_read addr ok page ∷ events → AllSafe files' events'
  safe_read addr ok page is = safe_to files files' events' (page_read addr ok page ∷ events) same is (safe_answered files events as_many settled safe addr ok page)

  pub safe_look : {E : Type 0} (result : Result Bool E) (into : List ℕ) → NotesCell result into events events' → AllSafe files' events'
  safe_look (Ok full) into notes = safe_to files files' events' (root_read notes.0 ∷ events) same notes.1 (safe_loaded files events as_many settled safe notes.0)
  safe_look (Err error) into notes = safe_to files files' events' (root_unread ∷ events) same notes (safe_unread files events as_many settled safe)

  pub safe_replace : (bytes : List ℕ) (ok : Bool) → Replaces bytes ok events events' → AllSafe files' events'
  safe_replace bytes ok calls = safe_to files files' events' events' same refl (safe_replaced files events as_many settled safe bytes ok events' calls)

  pub safe_clear : (ok : Bool) → Clears ok events events' → AllSafe files' events'
  safe_clear ok calls = safe_to files files' events' events' same refl (safe_cleared files events as_many settled safe ok events' calls)

-- what has an opening in it and is one is no more than that
opening-alone : (n : ℕ) (later earlier : List Event) → opening n ≡ later ++ earlier → AreOpened earlier → earlier ≡ opening n
opening-alone n [] earlier is from = sym is
opening-alone n (last ∷ later) earlier is (k, newer, opened) =
    let most : length (opening n) ≡ 1 + (length later + length earlier) = ap (λ (es : List Event). length es) is ∙ omega (arith, length-append later earlier) in
    let least : length earlier ≡ length newer + 6 = ap (λ (es : List Event). length es) opened ∙ length-append newer (opening k) in
    absurd (omega (arith, most, least))

-- an opening
pub safe_open : (files : Files) (n : ℕ) → length (fitted n files.handed) ≡ length (fitted n files.pages) → AllSafe files (opening n)
safe_open files n as_many later earlier is from =
    subst (λ (es : List Event). IsSafe (before_of files es) (now_of files es) (replay files es)) (sym (opening-alone n later earlier is from))
    (safe_alone _ (replay files (opening n)) as_many refl (synced-is_synced (found files.root)))
