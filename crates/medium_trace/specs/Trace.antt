-- A medium that keeps every page ever pushed onto it, and what of them a read gives.
use Rattle.std.specs.Prelude.{◌≡◌, ◌≤◌, ℕ, ◌+◌, zero, suc, Bool, if◌then◌else◌, List, [], ◌∷◌, All, Contains, length, slice_get, Some}
use Rattle.medium_trace.specs.Page.{IsPage, zero_page}

-- what a medium shows
pub record Trace : Type 0 where
  pub recorded : List (List ℕ)  -- each page ever pushed, in order
  pub readable : List (List ℕ)  -- what a read gives of each
  pub synced : ℕ  -- how many of them no cut changes

-- its parts fit each other
pub record IsWhole (trace : Trace) : Type 0 where
  pub recorded : All IsPage trace.recorded
  pub readable : All IsPage trace.readable
  pub as_many : length trace.readable ≡ length trace.recorded
  pub synced : trace.synced ≤ length trace.recorded

-- the pages at these addresses read as zero bytes now, and all others as before
pub record Tears (torn : List ℕ) (old new : List (List ℕ)) : Type 0 where
  pub torn_pages : All (λ addr. slice_get new addr ≡ Some zero_page) torn
  pub other_pages : (addr : ℕ) → ¬ (Contains torn addr) → slice_get new addr ≡ slice_get old addr

-- what a page reads as, torn or not
abbrev pub shown : List ℕ → Bool → List ℕ
shown page is_torn = if is_torn then zero_page else page

-- what a read gives: the first pages as they were recorded, each later one by its mark
abbrev pub shown_pages : ℕ → List (List ℕ) → List Bool → List (List ℕ)
shown_pages zero [] marks = []
shown_pages zero (page ∷ pages) [] = []
shown_pages zero (page ∷ pages) (mark ∷ marks) = shown page mark ∷ shown_pages zero pages marks
shown_pages (suc unmarked) [] marks = []
shown_pages (suc unmarked) (page ∷ pages) marks = page ∷ shown_pages unmarked pages marks

-- how a medium keeps its marks: one for each page behind the first, which are synced
pub record IsMarked (recorded : List (List ℕ)) (unmarked : ℕ) (marks : List Bool) (synced : ℕ) : Type 0 where
  pub pages : All IsPage recorded
  pub as_many : unmarked + length marks ≡ length recorded
  pub first : unmarked ≤ synced
  pub within : synced ≤ length recorded
