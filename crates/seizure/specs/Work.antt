-- The keys that a search has to try, and what it opened.
use Rattle.std.specs.Prelude.{◌≡◌, ◌<◌, ◌++◌, ◌↔◌, ℕ, List, [], IsTrue, All, Contains, map, slice_index_or}
use Rattle.std.specs.Ordering.{nat_cmp}
use Rattle.std.specs.Cmp.Lexicographic.{slice_cmp}
use Rattle.std.specs.BTreeSet.{contains}
use Rattle.seal_record.specs.Sealing.{masked}
use Rattle.key_graph.specs.Opening.{kind_of, IsNodeKind, count_of, key_in}
use Rattle.key_graph.specs.Chains.{Distinct, ReachedBody}
use Rattle.seizure.specs.declared.opened.Opened.{Opened}
use Rattle.seizure.specs.declared.work.Work.{Work}
use Rattle.seizure.specs.Opened.{told_of}

-- the set has just the keys of the list, in which none stands twice
pub record KnowsItsKeys (work : Work) : Type 0 where
  pub same : (key : List ℕ) → IsTrue (contains (slice_cmp nat_cmp) work.known key) ↔ Contains work.keys key
  pub once : Distinct work.keys

-- a list gained some of these keys, and now it has them all
pub record Gains (old new : List (List ℕ)) (IsOne : List ℕ → Type 0) : Type 0 where
  pub more : List (List ℕ)
  pub gained : new ≡ old ++ more
  pub some : All IsOne more
  pub each : (key : List ℕ) → IsOne key → Contains new key

-- a body is of the kind of a node with entries of this size, and one of the first so many has the key
pub record HasBelow (body : List ℕ) (size count : ℕ) (key : List ℕ) : Type 0 where
  pub entry : ℕ
  pub node : IsNodeKind (kind_of body) size
  pub within : entry < count
  pub here : key ≡ key_in size body entry

-- one of its entries has the key
abbrev pub HasKey : List ℕ → List ℕ → Type 0
HasKey body key = (size : ℕ) × HasBelow body size (count_of size body) key

-- what a key unmasks at an address
abbrev pub body_at : List (List ℕ) → List ℕ → ℕ → List ℕ
body_at pages key addr = masked key (slice_index_or pages addr [])

-- the body at one of these addresses has the other key
pub record HasOneBelow (pages : List (List ℕ)) (key : List ℕ) (addrs : List ℕ) (other : List ℕ) : Type 0 where
  pub addr : ℕ
  pub inside : Contains addrs addr
  pub has : HasKey (body_at pages key addr) other

-- a key was tried on these pages: what each body says was noted, and the keys in it are to be tried
pub record Tried (pages : List (List ℕ)) (key : List ℕ) (addrs : List ℕ) (old new : Work) : Type 0 where
  pub known : KnowsItsKeys new
  pub opened : new.opened ≡ old.opened ++ map (λ addr. told_of addr (body_at pages key addr)) addrs
  pub keys : Gains old.keys new.keys (HasOneBelow pages key addrs)

-- what was opened is what chains from these keys come to
abbrev pub IsAllReached : List (List ℕ) → List (List ℕ) → List Opened → Type 0
IsAllReached keys pages opened = (o : Opened) → Contains opened o ↔ ReachedBody keys pages o.addr o.kind o.block
