-- What the pages of a medium read as, by their marks.
use Rattle.std.proofs.Common.{◌≡◌, ℕ, zero, suc, ◌+◌, ◌<◌, Bool, true, false, List, [], ◌∷◌, ◌++◌, length, set, refl, ap, subst, arith, length-append}
use Rattle.std.specs.Prelude.{All, Some, slice_get, slice_index_or}
use Rattle.std.proofs.lemmas.List.{length-replicate}
use Rattle.std.proofs.lemmas.List.Elements.{All-cons, All-head, All-tail, All-replicate, All-nil, All-push}
use Rattle.medium_trace.specs.Page.{IsPage, zero_page}
use Rattle.medium_trace.specs.Trace.{Trace, IsWhole, IsMarked, shown, shown_pages}

abbrev pub the_trace : List (List ℕ) → List (List ℕ) → ℕ → Trace
the_trace recorded readable synced = record { recorded = recorded; readable = readable; synced = synced }

pub zero_page-is_page : IsPage zero_page
unfolding zero_page
zero_page-is_page = (length-replicate {A = ℕ} 4128 0, All-replicate (λ byte. byte < 256) 4128 0 (omega arith))

pub shown_pages-unmarked : (pages : List (List ℕ)) → shown_pages (length pages) pages [] ≡ pages
shown_pages-unmarked [] = refl
shown_pages-unmarked (page ∷ pages) = ap (λ (rest : List (List ℕ)). page ∷ rest) (shown_pages-unmarked pages)

pub length-shown_pages : (unmarked : ℕ) (pages : List (List ℕ)) (marks : List Bool) → unmarked + length marks ≡ length pages → length (shown_pages unmarked pages marks) ≡ length pages
length-shown_pages zero [] marks fits = refl
length-shown_pages zero (page ∷ pages) [] fits = absurd (omega arith)
length-shown_pages zero (page ∷ pages) (mark ∷ marks) fits = ap suc (length-shown_pages zero pages marks (omega arith))
length-shown_pages (suc unmarked) [] marks fits = refl
length-shown_pages (suc unmarked) (page ∷ pages) marks fits = ap suc (length-shown_pages unmarked pages marks (omega arith))

-- one page more, and its mark
pub shown_pages-push : (unmarked : ℕ) (pages : List (List ℕ)) (marks : List Bool) (last : List ℕ) → unmarked + length marks ≡ length pages → shown_pages unmarked (pages ++ last ∷ []) (marks ++ false ∷ []) ≡ shown_pages unmarked pages marks ++ last ∷ []
shown_pages-push zero [] [] last fits = refl
shown_pages-push zero [] (mark ∷ marks) last fits = absurd (omega arith)
shown_pages-push zero (page ∷ pages) [] last fits = absurd (omega arith)
shown_pages-push zero (page ∷ pages) (mark ∷ marks) last fits = ap (λ (rest : List (List ℕ)). shown page mark ∷ rest) (shown_pages-push zero pages marks last (omega arith))
shown_pages-push (suc unmarked) [] marks last fits = absurd (omega arith)
shown_pages-push (suc unmarked) (page ∷ pages) marks last fits = ap (λ (rest : List (List ℕ)). page ∷ rest) (shown_pages-push unmarked pages marks last (omega arith))

-- a mark makes its page read as zero bytes
pub shown_pages-set : (unmarked : ℕ) (pages : List (List ℕ)) (marks : List Bool) (k addr : ℕ) → unmarked + length marks ≡ length pages → addr ≡ unmarked + k → shown_pages unmarked pages (set marks k true) ≡ set (shown_pages unmarked pages marks) addr zero_page
shown_pages-set zero [] marks k addr fits at = refl
shown_pages-set zero (page ∷ pages) [] k addr fits at = absurd (omega arith)
shown_pages-set zero (page ∷ pages) (mark ∷ marks) zero zero fits at = refl
shown_pages-set zero (page ∷ pages) (mark ∷ marks) zero (suc addr) fits at = absurd (omega arith)
shown_pages-set zero (page ∷ pages) (mark ∷ marks) (suc k) zero fits at = absurd (omega arith)
shown_pages-set zero (page ∷ pages) (mark ∷ marks) (suc k) (suc addr) fits at = ap (λ (rest : List (List ℕ)). shown page mark ∷ rest) (shown_pages-set zero pages marks k addr (omega arith) (omega arith))
shown_pages-set (suc unmarked) [] marks k addr fits at = refl
shown_pages-set (suc unmarked) (page ∷ pages) marks k zero fits at = absurd (omega arith)
shown_pages-set (suc unmarked) (page ∷ pages) marks k (suc addr) fits at = ap (λ (rest : List (List ℕ)). page ∷ rest) (shown_pages-set unmarked pages marks k addr (omega arith) (omega arith))

-- a page without a mark
pub shown_pages-below : (unmarked : ℕ) (pages : List (List ℕ)) (marks : List Bool) (addr : ℕ) → addr < unmarked → slice_get (shown_pages unmarked pages marks) addr ≡ slice_get pages addr
shown_pages-below zero pages marks addr below = absurd (omega arith)
shown_pages-below (suc unmarked) [] marks addr below = refl
shown_pages-below (suc unmarked) (page ∷ pages) marks zero below = refl
shown_pages-below (suc unmarked) (page ∷ pages) marks (suc addr) below = shown_pages-below unmarked pages marks addr (omega arith)

-- a page with one
pub shown_pages-at : (unmarked : ℕ) (pages : List (List ℕ)) (marks : List Bool) (k addr : ℕ) (page : List ℕ) (mark : Bool) → unmarked + length marks ≡ length pages → addr ≡ unmarked + k → slice_get pages addr ≡ Some page → mark ≡ slice_index_or marks k mark → slice_get (shown_pages unmarked pages marks) addr ≡ Some (shown page mark)
shown_pages-at zero [] marks k addr page mark fits at is marked = cc
shown_pages-at zero (first ∷ pages) [] k addr page mark fits at is marked = absurd (omega arith)
shown_pages-at zero (first ∷ pages) (known ∷ marks) zero zero page mark fits at is marked = cc
shown_pages-at zero (first ∷ pages) (known ∷ marks) zero (suc addr) page mark fits at is marked = absurd (omega arith)
shown_pages-at zero (first ∷ pages) (known ∷ marks) (suc k) zero page mark fits at is marked = absurd (omega arith)
shown_pages-at zero (first ∷ pages) (known ∷ marks) (suc k) (suc addr) page mark fits at is marked = shown_pages-at zero pages marks k addr page mark (omega arith) (omega arith) is marked
shown_pages-at (suc unmarked) [] marks k addr page mark fits at is marked = cc
shown_pages-at (suc unmarked) (first ∷ pages) marks k zero page mark fits at is marked = absurd (omega arith)
shown_pages-at (suc unmarked) (first ∷ pages) marks k (suc addr) page mark fits at is marked = shown_pages-at unmarked pages marks k addr page mark (omega arith) (omega arith) is marked

shown-is_page : (page : List ℕ) (mark : Bool) → IsPage page → IsPage (shown page mark)
shown-is_page page true is_page = zero_page-is_page
shown-is_page page false is_page = is_page

pub shown_pages-are_pages : (unmarked : ℕ) (pages : List (List ℕ)) (marks : List Bool) → All IsPage pages → All IsPage (shown_pages unmarked pages marks)
shown_pages-are_pages zero [] marks all = all
shown_pages-are_pages zero (page ∷ pages) [] all = All-nil IsPage
shown_pages-are_pages zero (page ∷ pages) (mark ∷ marks) all = All-cons IsPage (shown page mark) _ (shown-is_page page mark (All-head IsPage page pages all)) (shown_pages-are_pages zero pages marks (All-tail IsPage page pages all))
shown_pages-are_pages (suc unmarked) [] marks all = all
shown_pages-are_pages (suc unmarked) (page ∷ pages) marks all = All-cons IsPage page _ (All-head IsPage page pages all) (shown_pages-are_pages unmarked pages marks (All-tail IsPage page pages all))

-- a medium whose k-th mark is set shows one page of zero bytes more
pub Trace-set : (recorded : List (List ℕ)) (unmarked : ℕ) (marks : List Bool) (synced k addr : ℕ) (trace : Trace) → IsMarked recorded unmarked marks synced → addr ≡ unmarked + k →
    the_trace recorded (shown_pages unmarked recorded marks) synced ≡ trace →
    the_trace recorded (shown_pages unmarked recorded (set marks k true)) synced ≡ the_trace trace.recorded (set trace.readable addr zero_page) trace.synced
Trace-set recorded unmarked marks synced k addr trace is_marked at is =
    subst (λ known. the_trace recorded (shown_pages unmarked recorded (set marks k true)) synced ≡ the_trace known.recorded (set known.readable addr zero_page) known.synced) is
    (ap (λ readable. the_trace recorded readable synced) (shown_pages-set unmarked recorded marks k addr is_marked.as_many at))

-- a medium's parts fit each other
pub IsWhole-marked : (recorded : List (List ℕ)) (unmarked : ℕ) (marks : List Bool) (synced : ℕ) (trace : Trace) → IsMarked recorded unmarked marks synced → the_trace recorded (shown_pages unmarked recorded marks) synced ≡ trace → IsWhole trace
IsWhole-marked recorded unmarked marks synced trace is_marked is =
    subst IsWhole is record {
      recorded = is_marked.pages;
      readable = shown_pages-are_pages unmarked recorded marks is_marked.pages;
      as_many = length-shown_pages unmarked recorded marks is_marked.as_many;
      synced = is_marked.within;
    }

-- one page more, and its mark
pub IsMarked-push : (recorded : List (List ℕ)) (unmarked : ℕ) (marks : List Bool) (synced : ℕ) (last : List ℕ) → IsMarked recorded unmarked marks synced → IsPage last → IsMarked (recorded ++ last ∷ []) unmarked (marks ++ false ∷ []) synced
IsMarked-push recorded unmarked marks synced last is_marked is_page = record {
  pages = All-push IsPage recorded last is_marked.pages is_page;
  as_many = omega (arith, is_marked.as_many, length-append marks (false ∷ []), length-append recorded (last ∷ []));
  first = is_marked.first;
  within = omega (arith, is_marked.within, length-append recorded (last ∷ []));
}
