-- What calls tell that only look.
use Rattle.std.proofs.Common.{◌≡◌, ℕ, true, List, [], ◌∷◌, Option, Some, None, Result, Ok, Err, length, refl, sym, ◌∙◌, ap, subst}
use Rattle.std.specs.Prelude.{Bool}
use Rattle.folder_platform.specs.Files.{Files, AreFiles, fitted}
use Rattle.folder_platform.specs.Events.{Event, all_done, pages_counted, page_read}
use Rattle.folder_platform.specs.Model.{replay, found}
use Rattle.folder_platform.specs.Honest.{IsHonest}
use Rattle.folder_platform.specs.Told.{cell_of, now_of, IsTold}
use Rattle.folder_platform.specs.Sequences.{NotesCell}
use Rattle.folder_platform.specs.Looks.{are_looks, looked_at}
use Rattle.folder_platform.proofs.Orderly.{orderly-first}
use Rattle.folder_platform.proofs.Leaving.{found-cell}
use Rattle.folder_platform.proofs.Opening.{length-fitted, whole-first, fitted-same}

-- what is known once the pages were counted
pub record Views (files : Files) (events : List Event) (n : ℕ) : Type 0 where
  pub told : IsTold files events
  pub readable : length (replay files events).readable ≡ n
  pub recorded : length (replay files events).recorded ≡ n
  pub looks : are_looks events ≡ true
  pub done : all_done events ≡ true

pub views : (files : Files) (events : List Event) (n : ℕ) → AreFiles files → events ≡ pages_counted n ∷ [] → Views files events n
views files events n are is =
    subst (λ (es : List Event). Views files es n) (sym is) (record {
      told = orderly-first (now_of files (pages_counted n ∷ [])) (whole-first files are n);
      readable = length-fitted n files.pages;
      recorded = length-fitted n files.handed;
      looks = refl;
      done = refl;
    })

found-image : (files : Files) (n : ℕ) → AreFiles files → n ≡ length files.pages → now_of files (pages_counted n ∷ []) ≡ looked_at files
found-image files n are same =
    let all : fitted n files.pages ≡ files.pages = fitted-same n files.pages same in
    let handed : fitted n files.handed ≡ files.handed = fitted-same n files.handed (same ∙ sym are.as_many) in
    ap (λ (pages : List (List ℕ)). record { cell = cell_of (found files.root); recorded = pages; readable = fitted n files.pages; synced = 0 }) handed
    ∙ ap (λ (pages : List (List ℕ)). record { cell = cell_of (found files.root); recorded = files.handed; readable = pages; synced = 0 }) all
    ∙ ap (λ (cell : Option (List ℕ)). record { cell = cell; recorded = files.handed; readable = files.pages; synced = 0 }) (found-cell files.root)

-- where the answer was honest, what is found is what the files held
pub views_image : (files files' : Files) (events' : List Event) (n : ℕ) → AreFiles files' → files' ≡ files → events' ≡ pages_counted n ∷ [] → IsHonest files' events' → now_of files' events' ≡ looked_at files
views_image files files' events' n are same is honest =
    let told : IsHonest files' (pages_counted n ∷ []) = subst (λ (es : List Event). IsHonest files' es) is honest in
    ap (λ (es : List Event). now_of files' es) is ∙ found-image files' n are (told.0 refl) ∙ ap looked_at same

-- looks are added
pub looks_at_cell : {E : Type 0} (events events' : List Event) (result : Result Bool E) (into : List ℕ) → NotesCell result into events events' → are_looks events' ≡ are_looks events
looks_at_cell events events' (Ok full) into (None, is, _, _) = ap are_looks is
looks_at_cell events events' (Ok full) into (Some bytes, is, _, _) = ap are_looks is
looks_at_cell events events' (Err error) into is = ap are_looks is

pub looks_at_page : (events events' : List Event) (addr : ℕ) (ok : Bool) (page : List ℕ) → events' ≡ page_read addr ok page ∷ events → are_looks events' ≡ are_looks events
looks_at_page events events' addr ok page is = ap are_looks is
