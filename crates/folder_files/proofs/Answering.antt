-- What the files in memory keep of their record.
use Rattle.std.proofs.Common.{◌≡◌, ℕ, ◌-◌, Bool, true, false, List, [], ◌∷◌, ◌++◌, Option, length, refl, sym, ◌∙◌, ap, subst, arith}
use Rattle.std.proofs.lemmas.List.{take_all, append-nil}
use Rattle.folder_platform.specs.Files.{fitted}
use Rattle.folder_platform.specs.Events.{Event, pages_counted, page_written}
use Rattle.folder_platform.specs.Model.{replay, bytes_of}
use Rattle.folder_platform.specs.Honest.{IsHonest}
use Rattle.folder_platform.proofs.Telling.{placed-end}
use Rattle.folder_files.specs.Found.{nothing}

pub record Keeps (events : List Event) (pages : List (List ℕ)) (root new : Option (List ℕ)) (is_broken : Bool) : Type 0 where
  pub pages_are : is_broken ≡ false → (replay nothing events).readable ≡ pages
  pub root_is : bytes_of (replay nothing events).root ≡ root
  pub new_is : bytes_of (replay nothing events).new_root ≡ new
  pub honest : IsHonest nothing events

fitted-same : (n : ℕ) (pages : List (List ℕ)) → n ≡ length pages → fitted n pages ≡ pages
unfolding fitted
fitted-same n pages same =
    let none : n - length pages ≡ 0 = omega arith in
    rw (none, append-nil, take_all n pages (omega arith)) refl

pub keeps_counted : (old events : List Event) (pages : List (List ℕ)) (root new : Option (List ℕ)) (n : ℕ) → events ≡ pages_counted n ∷ old → n ≡ length pages → Keeps old pages root new false → Keeps events pages root new false
keeps_counted old events pages root new n is size was =
    let same : (replay nothing old).readable ≡ pages = was.pages_are refl in
    let many : n ≡ length (replay nothing old).readable = size ∙ ap (λ (xs : List (List ℕ)). length xs) (sym same) in
    subst (λ (es : List Event). Keeps es pages root new false) (sym is) (record {
      pages_are = λ calm. fitted-same n (replay nothing old).readable many ∙ same;
      root_is = was.root_is;
      new_is = was.new_is;
      honest = (λ done. many, was.honest);
    })

pub keeps_wrote : (old events : List Event) (pages : List (List ℕ)) (root new : Option (List ℕ)) (addr : ℕ) (page : List ℕ) → events ≡ page_written addr true page ∷ old → addr ≡ length pages → Keeps old pages root new false
    → Keeps events (pages ++ page ∷ []) root new false
keeps_wrote old events pages root new addr page is at was =
    let same : (replay nothing old).readable ≡ pages = was.pages_are refl in
    let many : length (replay nothing old).readable ≡ addr = ap (λ (xs : List (List ℕ)). length xs) same ∙ sym at in
    subst (λ (es : List Event). Keeps es (pages ++ page ∷ []) root new false) (sym is) (record {
      pages_are = λ calm. placed-end (replay nothing old).readable addr page many ∙ ap (λ (xs : List (List ℕ)). xs ++ page ∷ []) same;
      root_is = was.root_is;
      new_is = was.new_is;
      honest = (λ done. tt, was.honest);
    })
