-- What the calls of an opening tell.
use Rattle.std.proofs.Common.{◌≡◌, ℕ, ◌-◌, ◌<◌, inl, inr, true, List, [], ◌∷◌, ◌++◌, Option, Some, None, length, replicate, refl, sym, ◌∙◌, ap, subst, arith, length-append, length-take}
use Rattle.std.specs.Prelude.{All, ◌==◌}
use Rattle.std.proofs.lemmas.List.{length-replicate, append-nil, take_all}
use Rattle.std.proofs.lemmas.List.Elements.{All-take, All-append, All-replicate}
use Rattle.std.proofs.lemmas.Bool.{cases_Bool, eqb-true}
use Rattle.sdbt_base.specs.Bytes.{IsBytes}
use Rattle.sdbt_base.specs.declared.limits.TheConstants.{RECORD, ROOT}
use Rattle.platform.specs.Image.{IsWhole, all_synced, with_cell}
use Rattle.folder_platform.specs.Files.{Files, AreFiles, zero_page, fitted}
use Rattle.folder_platform.specs.Events.{Event, all_done, pages_counted, media_synced, folder_synced, root_synced, cell_synced, new_removed}
use Rattle.folder_platform.specs.Model.{replay, found, file_synced}
use Rattle.folder_platform.specs.Honest.{IsHonest}
use Rattle.folder_platform.specs.Told.{cell_of, cell_with, record_of, zero_root, now_of, IsTold}
use Rattle.folder_platform.specs.Sequences.{opening}
use Rattle.folder_platform.specs.Loss.{Settled, AllSafe, opened}
use Rattle.folder_platform.proofs.Orderly.{orderly-first}
use Rattle.folder_platform.proofs.Leaving.{found-cell, synced-cell, synced-is_synced}
use Rattle.folder_platform.proofs.Safety.{safe_open}
use Rattle.folder_platform.proofs.Telling.{zero_page-bytes, told_same, told_as, whole-told, whole-synced, earlier-synced}

pub length-fitted : (n : ℕ) (pages : List (List ℕ)) → length (fitted n pages) ≡ n
unfolding fitted
length-fitted n pages = omega (arith, length-take n (pages ++ replicate (n - length pages) zero_page), length-append pages (replicate (n - length pages) zero_page), length-replicate {A = List ℕ} (n - length pages) zero_page)

fitted-bytes : (n : ℕ) (pages : List (List ℕ)) → All (IsBytes RECORD) pages → All (IsBytes RECORD) (fitted n pages)
unfolding fitted
fitted-bytes n pages are = All-take (IsBytes RECORD) n _ (All-append (IsBytes RECORD) pages _ are (All-replicate (IsBytes RECORD) (n - length pages) zero_page zero_page-bytes))

zero_root-bytes : IsBytes ROOT zero_root
unfolding zero_root
zero_root-bytes = (length-replicate {A = ℕ} ROOT 0, All-replicate (λ b. b < 256) ROOT 0 (omega arith))

record-bytes : (bytes held : List ℕ) → All (λ b. b < 256) bytes → record_of bytes ≡ Some held → IsBytes ROOT held
record-bytes bytes held are is = elim (cases_Bool (length bytes == 0)) [
  | inl none ↦ absurd (let no : None ≡ Some held = rw none at is in cc)
  | inr some ↦ elim (cases_Bool (length bytes == ROOT)) [
    | inl root ↦
        let same : bytes ≡ held = (let e : Some bytes ≡ Some held = rw (some, root) at is in cc) in
        subst (IsBytes ROOT) same (eqb-true _ _ root, are)
    | inr other ↦
        let same : zero_root ≡ held = (let e : Some zero_root ≡ Some held = rw (some, other) at is in cc) in
        subst (IsBytes ROOT) same zero_root-bytes
  ]
]

found-bytes : (root : Option (List ℕ)) (held : List ℕ) → ((bytes : List ℕ) → root ≡ Some bytes → All (λ b. b < 256) bytes) → cell_of (found root) ≡ Some held → IsBytes ROOT held
found-bytes None held are is = absurd (cc)
found-bytes (Some bytes) held are is = record-bytes bytes held (are bytes refl) is

module _ (files : Files) (are : AreFiles files) (n : ℕ) where
  abbrev first : List Event
  first = media_synced true ∷ pages_counted n ∷ new_removed true ∷ []

  pub whole-first : IsWhole (now_of files (pages_counted n ∷ new_removed true ∷ []))
  whole-first = record {
    cell = λ held is. found-bytes files.root held are.root is;
    recorded = fitted-bytes n files.handed are.handed;
    readable = fitted-bytes n files.pages are.pages;
    as_many = length-fitted n files.pages ∙ sym (length-fitted n files.handed);
    synced = omega arith;
  }

  -- as long as the name of `media` is not on the disk, no page counts as synced
  told_first : IsTold files first
  told_first = told_same files (media_synced true) (pages_counted n ∷ new_removed true ∷ []) refl (orderly-first (now_of files (pages_counted n ∷ new_removed true ∷ [])) whole-first) refl

  told_named : IsTold files (folder_synced true ∷ first)
  told_named =
      let whole = whole-told files first told_first in
      told_as files (folder_synced true) first refl told_first (all_synced (now_of files first)) refl (whole-synced (now_of files first) whole) (earlier-synced (now_of files first) whole)

  root-same : now_of files (root_synced true ∷ folder_synced true ∷ first) ≡ now_of files (folder_synced true ∷ first)
  root-same = ap (λ (cell : Option (List ℕ)). with_cell (now_of files (folder_synced true ∷ first)) cell) (synced-cell (found files.root))

  pub told_open : IsTold files (opening n)
  told_open =
      told_same files (cell_synced true) (root_synced true ∷ folder_synced true ∷ first) refl
      (told_same files (root_synced true) (folder_synced true ∷ first) refl told_named root-same) refl

  pub settled_open : Settled (replay files (opening n))
  settled_open = record { named = refl; alone = refl; synced = synced-is_synced (found files.root); no_new = refl }

-- what an opening makes of files that held this
pub record Opens (files' : Files) (events' : List Event) (n : ℕ) : Type 0 where
  pub told : IsTold files' events'
  pub readable : length (replay files' events').readable ≡ n
  pub recorded : length (replay files' events').recorded ≡ n
  pub sound : all_done events' ≡ true
  pub settled : Settled (replay files' events')
  pub safe : AllSafe files' events'

pub opens : (files' : Files) (events' : List Event) (n : ℕ) → AreFiles files' → events' ≡ opening n → Opens files' events' n
opens files' events' n are is =
    subst (λ (es : List Event). Opens files' es n) (sym is) (record {
      told = told_open files' are n;
      readable = length-fitted n files'.pages;
      recorded = length-fitted n files'.handed;
      sound = refl;
      settled = settled_open files' are n;
      safe = safe_open files' n (length-fitted n files'.handed ∙ sym (length-fitted n files'.pages));
    })

pub fitted-same : (n : ℕ) (pages : List (List ℕ)) → n ≡ length pages → fitted n pages ≡ pages
unfolding fitted
fitted-same n pages same =
    let none : n - length pages ≡ 0 = omega arith in
    rw (none, append-nil, take_all n pages (omega arith)) refl

found-image : (files : Files) (n : ℕ) → AreFiles files → n ≡ length files.pages → now_of files (opening n) ≡ opened files
found-image files n are same =
    let all : fitted n files.pages ≡ files.pages = fitted-same n files.pages same in
    let handed : fitted n files.handed ≡ files.handed = fitted-same n files.handed (same ∙ sym are.as_many) in
    let cell : cell_of (file_synced (found files.root)) ≡ cell_with files.root = synced-cell (found files.root) ∙ found-cell files.root in
    ap (λ (pages : List (List ℕ)). record { cell = cell_of (file_synced (found files.root)); recorded = pages; readable = fitted n files.pages; synced = length pages }) handed
    ∙ ap (λ (pages : List (List ℕ)). record { cell = cell_of (file_synced (found files.root)); recorded = files.handed; readable = pages; synced = length files.handed }) all
    ∙ ap (λ (k : ℕ). record { cell = cell_of (file_synced (found files.root)); recorded = files.handed; readable = files.pages; synced = k }) are.as_many
    ∙ ap (λ (cell : Option (List ℕ)). record { cell = cell; recorded = files.handed; readable = files.pages; synced = length files.pages }) cell

-- where the answers were honest, what is found is what the files held
pub opens_image : (files files' : Files) (events' : List Event) (n : ℕ) → AreFiles files' → files' ≡ files → events' ≡ opening n → IsHonest files' events' → now_of files' events' ≡ opened files
opens_image files files' events' n are same is honest =
    let told : IsHonest files' (opening n) = subst (λ (es : List Event). IsHonest files' es) is honest in
    ap (λ (es : List Event). now_of files' es) is ∙ found-image files' n are (told.1.1.1.1.0 refl) ∙ ap opened same
