-- That the path of a look-up comes first in the cache.
use Rattle.std.proofs.Common.{◌≡◌, ◌≢◌, ℕ, zero, suc, ◌<◌, ◌≤◌, ◌+◌, List, [], ◌∷◌, ◌++◌, All, Contains, Some, length, map, take, refl, sym, ap, subst, inl, inr, ◌∙◌, arith, length-append, append_assoc}
use Rattle.std.proofs.lemmas.Bool.Decides.{eqb_tells}
use Rattle.std.proofs.lemmas.List.{take-map}
use Rattle.std.proofs.lemmas.List.Elements.{All-cons, All-head, All-tail, All-weaker}
use Rattle.btree_walk.proofs.Elements.{Contains-head, Contains-tail, Contains-cons, Contains-nil}
use Rattle.node_cache.specs.declared.slots.CachedNode.{CachedNode}
use Rattle.node_codec.specs.declared.body.NodeBody.{NodeBody}
use Rattle.node_cache.specs.Cached.{Cached, Uses, cached_node, without, touched, filled}
use Rattle.btree_walk.specs.Sights.{StillKeeps}
use Rattle.btree_walk.specs.Finds.{MakesFirst, StaysEarly, BeginsWith, ComesFirst, addresses_of}

abbrev addrs : List CachedNode → List ℕ
addrs kept = map (λ k. k.addr) kept

-- what is above an address stays in front where that is taken out
begins_without : (addr : ℕ) (front : List ℕ) (ks : List CachedNode) → All (λ a. addr < a) front → BeginsWith front (addrs ks) → BeginsWith front (addrs (without addr ks))
begins_without addr [] ks above is = refl
begins_without addr (a ∷ front) [] above is = cc
begins_without addr (a ∷ front) (k ∷ ks) above is =
    let head : k.addr ≡ a = cc in
    let tail : take (length front) (addrs ks) ≡ front = cc in
    let less : addr < a = All-head (λ (x : ℕ). addr < x) a front above in
    elim (eqb_tells k.addr addr) [
      | inl same ↦ absurd (let s = same.1 in omega arith)
      | inr other ↦ rw (other.0, head) (ap (λ r. a ∷ r) (begins_without addr front ks (All-tail (λ (x : ℕ). addr < x) a front above) tail))
    ]

take_less : {A : Type 0} (n m : ℕ) (xs : List A) → n ≤ m → take n (take m xs) ≡ take n xs
take_less zero m xs le = refl
take_less (suc n) zero xs le = absurd (omega arith)
take_less (suc n) (suc m) [] le = refl
take_less (suc n) (suc m) (x ∷ xs) le = ap (λ r. x ∷ r) (take_less n m xs (omega arith))

begins_touched : (old : Cached) (k : CachedNode) (front : List ℕ) → All (λ a. k.addr < a) front → BeginsWith front (addresses_of old) → BeginsWith (k.addr ∷ front) (addresses_of (touched old k))
begins_touched old k front above is = ap (λ r. k.addr ∷ r) (begins_without k.addr front old.nodes above is)

begins_filled : (old : Cached) (k : CachedNode) (front : List ℕ) → suc (length front) ≤ old.capacity → All (λ a. k.addr < a) front → BeginsWith front (addresses_of old) → BeginsWith (k.addr ∷ front) (addresses_of (filled old k))
begins_filled old k front room above is =
    ap (take (suc (length front))) (sym (take-map (λ (j : CachedNode). j.addr) old.capacity (k ∷ without k.addr old.nodes)))
    ∙ take_less (suc (length front)) old.capacity (addrs (k ∷ without k.addr old.nodes)) room
    ∙ begins_touched old k front above is

-- a node that was used comes first, and behind it what came first and lies above it
begins_used : (k : CachedNode) (old new : Cached) (front : List ℕ) → MakesFirst k old new → suc (length front) ≤ old.capacity → All (λ a. k.addr < a) front → BeginsWith front (addresses_of old) → BeginsWith (k.addr ∷ front) (addresses_of new)
begins_used k old new front (inl same) room above is = subst (λ (c : Cached). BeginsWith (k.addr ∷ front) (addresses_of c)) (sym same) (begins_touched old k front above is)
begins_used k old new front (inr same) room above is = subst (λ (c : Cached). BeginsWith (k.addr ∷ front) (addresses_of c)) (sym same) (begins_filled old k front room above is)

pub capacity_used : (k : CachedNode) (old new : Cached) → MakesFirst k old new → new.capacity ≡ old.capacity
capacity_used k old new (inl same) = ap (λ (c : Cached). c.capacity) same
capacity_used k old new (inr same) = ap (λ (c : Cached). c.capacity) same

-- the path of one leaf
pub comes_leaf : (k : CachedNode) (old new : Cached) → MakesFirst k old new → ComesFirst k.addr (k.addr ∷ []) old new
comes_leaf k old new used front above is room = begins_used k old new front used (omega arith) above is

-- a path that goes on below a place
pub comes_on : (k : CachedNode) (next : ℕ) (rest : List ℕ) (old mid new : Cached) → next < k.addr → MakesFirst k old mid → ComesFirst next rest mid new → ComesFirst k.addr (rest ++ k.addr ∷ []) old new
comes_on k next rest old mid new less used comes front above is room =
    let size = length-append rest (k.addr ∷ []) in
    let cap = capacity_used k old mid used in
    let first = begins_used k old mid front used (omega arith) above is in
    let above' = All-cons (λ (a : ℕ). next < a) k.addr front less (All-weaker (λ (a : ℕ). k.addr < a) (λ (a : ℕ). next < a) (λ a h. omega arith) front above) in
    let both = comes (k.addr ∷ front) above' first (omega arith) in
    subst (λ l. BeginsWith l (addresses_of new)) (sym (append_assoc rest (k.addr ∷ []) front)) both

-- ---- what stays among the first nodes

more_early : (few more : ℕ) (ks : List CachedNode) (j : CachedNode) → few ≤ more → Contains (take few ks) j → Contains (take more ks) j
more_early zero more ks j le in' = absurd (Contains-nil j in')
more_early (suc few) zero ks j le in' = absurd (omega arith)
more_early (suc few) (suc more) [] j le in' = absurd (Contains-nil j in')
more_early (suc few) (suc more) (k ∷ ks) j le in' = elim (Contains-cons k (take few ks) j in') [
  | inl here ↦ subst (Contains (k ∷ take more ks)) here (Contains-head k (take more ks))
  | inr later ↦ Contains-tail k (take more ks) j (more_early few more ks j (omega arith) later)
]

-- a node among the first ones is cached
pub early_kept : (few : ℕ) (ks : List CachedNode) (j : CachedNode) → Contains (take few ks) j → Contains ks j
early_kept zero ks j in' = absurd (Contains-nil j in')
early_kept (suc few) [] j in' = absurd (Contains-nil j in')
early_kept (suc few) (k ∷ ks) j in' = elim (Contains-cons k (take few ks) j in') [
  | inl here ↦ subst (Contains (k ∷ ks)) here (Contains-head k ks)
  | inr later ↦ Contains-tail k ks j (early_kept few ks j later)
]

-- where an address is taken out, the others are as early
early_without : (addr few : ℕ) (j : CachedNode) (ks : List CachedNode) → j.addr ≢ addr → Contains (take few ks) j → Contains (take few (without addr ks)) j
early_without addr zero j ks other in' = absurd (Contains-nil j in')
early_without addr (suc few) j [] other in' = absurd (Contains-nil j in')
early_without addr (suc few) j (k ∷ ks) other in' = elim (eqb_tells k.addr addr) [
  | inl same ↦ rw same.0 (elim (Contains-cons k (take few ks) j in') [
    | inl here ↦ absurd (other (ap (λ (i : CachedNode). i.addr) (sym here) ∙ same.1))
    | inr later ↦ more_early few (suc few) (without addr ks) j (omega arith) (early_without addr few j ks other later)
  ])
  | inr differs ↦ rw differs.0 (elim (Contains-cons k (take few ks) j in') [
    | inl here ↦ subst (Contains (k ∷ take few (without addr ks))) here (Contains-head k (take few (without addr ks)))
    | inr later ↦ Contains-tail k (take few (without addr ks)) j (early_without addr few j ks other later)
  ])
]

-- what is early behind a node that is made the first one, is so in the cache
early_made : (few : ℕ) (k j : CachedNode) (old new : Cached) → MakesFirst k old new → suc few ≤ old.capacity → Contains (take (suc few) (k ∷ without k.addr old.nodes)) j → Contains (take (suc few) new.nodes) j
early_made few k j old new (inl same) room in' = subst (λ (c : Cached). Contains (take (suc few) c.nodes) j) (sym same) in'
early_made few k j old new (inr same) room in' =
    subst (λ (c : Cached). Contains (take (suc few) c.nodes) j) (sym same)
    (subst (λ ks. Contains ks j) (sym (take_less (suc few) old.capacity (k ∷ without k.addr old.nodes) room)) in')

-- that node comes first
pub first_made : (k : CachedNode) (old new : Cached) → MakesFirst k old new → 1 ≤ old.capacity → Contains (take 1 new.nodes) k
first_made k old new made room = early_made 0 k k old new made room (Contains-head k [])

-- and the others come behind it
pub early_used : (k : CachedNode) (old new : Cached) → MakesFirst k old new → StaysEarly k.addr 1 old new
early_used k old new made few j above room in' =
    let one : suc few ≡ few + 1 = omega arith in
    subst (λ n. Contains (take n new.nodes) j) one
    (early_made few k j old new made (omega arith) (Contains-tail k (take few (without k.addr old.nodes)) j (early_without k.addr few j old.nodes (λ h. omega arith) in')))

-- and so it is where that goes on below
pub early_on : (k : CachedNode) (next more all : ℕ) (old mid new : Cached) → more + 1 ≡ all → next < k.addr → MakesFirst k old mid → StaysEarly next more mid new → StaysEarly k.addr all old new
early_on k next more all old mid new all_is less made stays few j above room in' =
    let cap = capacity_used k old mid made in
    let one = early_used k old mid made few j above (omega arith) in' in
    let sum : few + 1 + more ≡ few + all = omega arith in
    subst (λ n. Contains (take n new.nodes) j) sum (stays (few + 1) j (omega arith) (omega arith) one)

-- ---- what stays cached where a node was used again

pub contains-without : (addr : ℕ) (j : CachedNode) (ks : List CachedNode) → j.addr ≢ addr → Contains ks j → Contains (without addr ks) j
contains-without addr j [] other in' = absurd (Contains-nil j in')
contains-without addr j (k ∷ ks) other in' = elim (eqb_tells k.addr addr) [
  | inl same ↦ rw same.0 (elim (Contains-cons k ks j in') [
    | inl here ↦ absurd (other (ap (λ (i : CachedNode). i.addr) (sym here) ∙ same.1))
    | inr later ↦ contains-without addr j ks other later
  ])
  | inr differs ↦ rw differs.0 (elim (Contains-cons k ks j in') [
    | inl here ↦ subst (Contains (k ∷ without addr ks)) here (Contains-head k (without addr ks))
    | inr later ↦ Contains-tail k (without addr ks) j (contains-without addr j ks other later)
  ])
]

pub still_used : (old new : Cached) (addr : ℕ) (key : List ℕ) (node : NodeBody) → Uses old addr key (Some node) new → StillKeeps addr old new
still_used old new addr key node uses j other in' =
    subst (λ (c : Cached). Contains c.nodes j) (sym uses.1) (Contains-tail (cached_node addr key node) (without addr old.nodes) j (contains-without addr j old.nodes other in'))
