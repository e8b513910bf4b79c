-- Pages that are torn one after another.
use Rattle.std.proofs.Common.{◌≡◌, ◌≢◌, inl, inr, ℕ, zero, suc, ◌+◌, ◌<◌, List, [], ◌∷◌, ◌++◌, length, set, take, get_or, refl, sym, ◌∙◌, ap, subst, arith}
use Rattle.std.specs.Prelude.{Contains, Some, slice_get}
use Rattle.std.proofs.lemmas.Bool.{cases_eq}
use Rattle.std.proofs.lemmas.List.{take_more}
use Rattle.std.proofs.lemmas.List.Elements.{All-nil, All-push, All-weaker, Contains-push, Contains-append_left}
use Rattle.medium_trace.specs.Page.{zero_page}
use Rattle.medium_trace.specs.Trace.{Tears}

pub slice_get-set_same : (pages : List (List ℕ)) (addr : ℕ) (page : List ℕ) → addr < length pages → slice_get (set pages addr page) addr ≡ Some page
slice_get-set_same [] addr page within = absurd (omega arith)
slice_get-set_same (first ∷ pages) zero page within = refl
slice_get-set_same (first ∷ pages) (suc addr) page within = slice_get-set_same pages addr page (omega arith)

slice_get-set_other : (pages : List (List ℕ)) (addr other : ℕ) (page : List ℕ) → other ≢ addr → slice_get (set pages addr page) other ≡ slice_get pages other
slice_get-set_other [] addr other page differ = refl
slice_get-set_other (first ∷ pages) zero zero page differ = absurd (differ refl)
slice_get-set_other (first ∷ pages) zero (suc other) page differ = refl
slice_get-set_other (first ∷ pages) (suc addr) zero page differ = refl
slice_get-set_other (first ∷ pages) (suc addr) (suc other) page differ = slice_get-set_other pages addr other page (λ same. differ (ap suc same))

pub Tears-none : (pages : List (List ℕ)) → Tears [] pages pages
Tears-none pages = record { torn_pages = All-nil (λ addr. slice_get pages addr ≡ Some zero_page); other_pages = λ addr absent. refl }

-- one more
pub Tears-push : (done : List ℕ) (old mid : List (List ℕ)) (addr : ℕ) → slice_get (set mid addr zero_page) addr ≡ Some zero_page → Tears done old mid → Tears (done ++ addr ∷ []) old (set mid addr zero_page)
Tears-push done old mid addr now tears =
    let kept : (other : ℕ) → slice_get mid other ≡ Some zero_page → slice_get (set mid addr zero_page) other ≡ Some zero_page =
    λ other torn. elim (cases_eq other addr) [
      | inl same ↦ ap (λ (k : ℕ). slice_get (set mid addr zero_page) k) same ∙ now
      | inr differ ↦ slice_get-set_other mid addr other zero_page differ ∙ torn
    ] in
    record {
      torn_pages = All-push (λ other. slice_get (set mid addr zero_page) other ≡ Some zero_page) done addr
          (All-weaker (λ other. slice_get mid other ≡ Some zero_page) (λ other. slice_get (set mid addr zero_page) other ≡ Some zero_page) kept done tears.torn_pages)
          now;
      other_pages = λ other absent.
          slice_get-set_other mid addr other zero_page (λ same. absent (subst (Contains (done ++ addr ∷ [])) (sym same) (Contains-push done addr)))
          ∙ tears.other_pages other (λ among. absent (Contains-append_left done (addr ∷ []) other among));
    }

-- the next of a list
pub Tears-more : (torn : List ℕ) (old mid : List (List ℕ)) (i addr : ℕ) → i < length torn → addr ≡ get_or torn i addr → slice_get (set mid addr zero_page) addr ≡ Some zero_page → Tears (take i torn) old mid → Tears (take (i + 1) torn) old (set mid addr zero_page)
Tears-more torn old mid i addr more at now tears =
    let next : take (i + 1) torn ≡ take i torn ++ addr ∷ [] = take_more torn i addr more ∙ ap (λ (k : ℕ). take i torn ++ k ∷ []) (sym at) in
    subst (λ done. Tears done old (set mid addr zero_page)) (sym next) (Tears-push (take i torn) old mid addr now tears)
