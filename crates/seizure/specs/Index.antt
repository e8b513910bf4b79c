-- Pages, kept as the first bytes that a key's keystream must have to open them.
use Rattle.std.specs.Prelude.{◌≡◌, ◌≢◌, ◌<◌, ◌↔◌, ℕ, List, Some, All, AllPairs, Contains, map, take, slice_get}
use Rattle.std.specs.Int.{w64, from_be_bytes}
use Rattle.std.specs.List.Sorted.{IsNonDecreasingBy}
use Rattle.seal_record.specs.Keystream.{stream}
use Rattle.seal_record.specs.Sealing.{Opens}
use Rattle.seizure.specs.declared.index.Marked.{Marked}

-- the number that the first 8 of these bytes are
unfoldable pub number_of : List ℕ → ℕ
number_of front = from_be_bytes w64 (take 8 front)

-- there is such a page, and the keys that open it are those whose keystream begins like this
pub record IsMark (pages : List (List ℕ)) (mark : Marked) : Type 0 where
  pub page : List ℕ
  pub there : slice_get pages mark.addr ≡ Some page
  pub opens : (key : List ℕ) → (mark.front ≡ take 16 (stream key)) ↔ Opens key mark.addr page

-- each is the mark of a page, and each page below this address has one
pub record AreMarks (pages : List (List ℕ)) (below : ℕ) (marks : List Marked) : Type 0 where
  pub each : All (IsMark pages) marks
  pub whole : (addr : ℕ) → addr < below → Contains (map (λ m. m.addr) marks) addr

-- each is of an address below this one
abbrev pub AreBelow : ℕ → List Marked → Type 0
AreBelow below marks = All (λ m. m.addr < below) marks

-- no two numbers of a list are the same
abbrev pub IsOnce : List ℕ → Type 0
IsOnce addrs = AllPairs (λ one other. one ≢ other) addrs

-- no two are of one page
abbrev pub AreApart : List Marked → Type 0
AreApart marks = IsOnce (map (λ m. m.addr) marks)

-- they are in the order of their first 8 bytes
abbrev pub AreRising : List Marked → Type 0
AreRising marks = IsNonDecreasingBy (λ m. number_of m.front) marks

-- one of these marks begins like this, at this address
pub record IsHit (marks : List Marked) (front : List ℕ) (addr : ℕ) : Type 0 where
  pub mark : Marked
  pub inside : Contains marks mark
  pub same : mark.front ≡ front
  pub here : mark.addr ≡ addr
