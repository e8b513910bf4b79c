-- What the looks at lists and maps answer.
use Rattle.std.specs.Prelude.{◌≡◌, ◌<◌, ◌≤◌, ◌-◌, ◌⊎◌, ◌||◌, ◌==◌, ℕ, Bool, false, true, List, Option, None, Some, AllPairs, Contains, length, take, slice_get, slice_index}
use Rattle.std.specs.List.{list_any}
use Rattle.std.specs.Ordering.{nat_cmp}
use Rattle.std.specs.BTreeMap.{BTreeMap, get}
use Rattle.std.specs.BTreeSet.{BTreeSet, contains}
use Rattle.key_graph.specs.Trace.{Entries, Has}
use Rattle.sdbt_base.specs.Traces.{Traced}
use Rattle.cert_checker.specs.declared.held.Held.{Held}
use Rattle.cert_checker.specs.declared.held.Placed.{Placed}
use Rattle.cert_checker.specs.Rules.{is_listed}
use Rattle.cert_checker.specs.Kept.{all_children}
use Rattle.cert_checker.specs.Held.{children_held, children_at, live_of, traced_all}

-- ---- the first and the least

-- of the places below n, the first bad one, with its value; or none is bad
abbrev pub FirstOf : (ℕ → Type 0) → ℕ → (ℕ → ℕ) → Option ℕ → Type 0
FirstOf Bad n value None = (k : ℕ) → k < n → Bad k → ⊥
FirstOf Bad n value (Some v) = (k : ℕ) × (k < n) × (value k ≡ v) × Bad k × ((j : ℕ) → j < k → Bad j → ⊥)

-- of a list's items, the first that answers at its place, with its answer; or none answers
abbrev pub FirstAmong : {A : Type 0} → (ℕ → A → Option ℕ → Type 0) → List A → Option ℕ → Type 0
FirstAmong {A} Answers items None = (i : ℕ) (item : A) → slice_get items i ≡ Some item → Answers i item None
FirstAmong {A} Answers items (Some v) = (i : ℕ) × (item : A) × (slice_get items i ≡ Some item) × Answers i item (Some v) × ((j : ℕ) (other : A) → j < i → slice_get items j ≡ Some other → Answers j other None)

-- the least of the numbers, or none of them
abbrev pub LeastOf : (ℕ → Type 0) → Option ℕ → Type 0
LeastOf Among None = (number : ℕ) → Among number → ⊥
LeastOf Among (Some least) = Among least × ((number : ℕ) → Among number → least ≤ number)

-- one that was found, or one of these
abbrev pub IsFoundOr : Option ℕ → (ℕ → Type 0) → ℕ → Type 0
IsFoundOr found Among number = (found ≡ Some number) ⊎ Among number

-- ---- lists of addresses

-- the addresses ascend strictly
abbrev pub Ascends : List ℕ → Type 0
Ascends addrs = AllPairs (λ a b. a < b) addrs

-- at its place an address is above the one before it, and from base to below head
pub record IsInPlace (addrs : List ℕ) (base head k : ℕ) : Type 0 where
  pub above : 1 ≤ k → slice_index addrs (k - 1) < slice_index addrs k
  pub from_base : base ≤ slice_index addrs k
  pub below_head : slice_index addrs k < head

-- at its place an address is in order, and not among the others
pub record IsApart (addrs others : List ℕ) (base head k : ℕ) : Type 0 where
  pub place : IsInPlace addrs base head k
  pub apart : Contains others (slice_index addrs k) → ⊥

-- the address at a place isn't above the one before it, or isn't live
abbrev pub IsBadGone : Entries → List ℕ → ℕ → Type 0
IsBadGone live gone k = ((1 ≤ k) × (slice_index gone k ≤ slice_index gone (k - 1))) ⊎ (live (slice_index gone k) ≡ None)

-- ---- parents

-- the parent of an address is gone
pub record IsOrphan (parents : BTreeMap ℕ ℕ) (gone : List ℕ) (addr : ℕ) : Type 0 where
  pub parent : ℕ
  pub is : get nat_cmp parents addr ≡ Some parent
  pub goes : Contains gone parent

-- a gone address is the root, or its parent is gone
abbrev pub IsLed : BTreeMap ℕ ℕ → List ℕ → ℕ → ℕ → Type 0
IsLed parents gone root addr = (addr ≡ root) ⊎ IsOrphan parents gone addr

-- a live address that stays, and whose parent goes
pub record IsLeft (live : BTreeMap ℕ Held) (parents : BTreeMap ℕ ℕ) (gone : List ℕ) (addr : ℕ) : Type 0 where
  pub live_before : Has (live_of live) addr
  pub stays : Contains gone addr → ⊥
  pub orphan : IsOrphan parents gone addr

-- ---- children

-- a child of an added node is below it, and is added or left
pub record IsFit (live : BTreeMap ℕ Held) (parents : BTreeMap ℕ ℕ) (added gone : List ℕ) (node child : ℕ) : Type 0 where
  pub below : child < node
  pub from : Contains added child ⊎ IsLeft live parents gone child

-- the first child of an added item that doesn't fit
abbrev pub FirstUnfit : BTreeMap ℕ Held → BTreeMap ℕ ℕ → List ℕ → List ℕ → ℕ → Placed → Option ℕ → Type 0
FirstUnfit live parents added gone i item answer =
    FirstOf (λ k. IsFit live parents added gone item.addr (slice_index (children_held item.held) k) → ⊥) (length (children_held item.held)) (slice_index (children_held item.held)) answer

-- an address is taken, or is one of the first children
abbrev pub is_taken : BTreeSet ℕ → List ℕ → ℕ → Bool
is_taken taken children addr = contains nat_cmp taken addr || list_any (λ x. x == addr) children

-- an address is neither gone nor taken
pub record IsUntaken (gone : List ℕ) (taken : BTreeSet ℕ) (addr : ℕ) : Type 0 where
  pub stays : Contains gone addr → ⊥
  pub loose : contains nat_cmp taken addr ≡ false

-- one of the children that is neither
abbrev pub IsUntakenChild : List ℕ → BTreeSet ℕ → List ℕ → ℕ → Type 0
IsUntakenChild gone taken children child = Contains children child × IsUntaken gone taken child

-- the children of the items before a place, as a list says them
abbrev pub children_before : List Placed → ℕ → List ℕ
children_before added i = all_children (traced_all (take i added))

-- the first child of an item that is a child of one before it, or stands before among the item's own
abbrev pub FirstAgain : List Placed → ℕ → Placed → Option ℕ → Type 0
FirstAgain added i item answer =
    FirstOf (λ k. (is_listed (children_before added i) (slice_index (children_held item.held) k) || is_listed (take k (children_held item.held)) (slice_index (children_held item.held) k)) ≡ true) (length (children_held item.held)) (slice_index (children_held item.held)) answer

-- the taken addresses are the children of the nodes of the list
abbrev pub HasTaken : List Traced → BTreeSet ℕ → Type 0
HasTaken added taken = (addr : ℕ) → contains nat_cmp taken addr ≡ is_listed (all_children added) addr

-- a child, neither gone nor taken, of one of the gone nodes before a place
pub record IsUntakenBefore (live : BTreeMap ℕ Held) (gone : List ℕ) (taken : BTreeSet ℕ) (before child : ℕ) : Type 0 where
  pub place : ℕ
  pub inside : place < before
  pub untaken : IsUntakenChild gone taken (children_at live (slice_index gone place)) child
