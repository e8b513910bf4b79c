-- What a cache keeps once nodes were put or forgotten.
use Rattle.std.proofs.Common.{◌≡◌, ◌≢◌, ℕ, ◌+◌, ◌<◌, ◌≤◌, true, false, List, [], ◌∷◌, ◌++◌, All, cond, take, length, get_or, nat_eq, refl, sym, ap, arith, inl, inr, ◌∙◌}
use Rattle.std.proofs.lemmas.Bool.Decides.{eqb_tells}
use Rattle.std.proofs.lemmas.List.{take_more, take_all}
use Rattle.std.proofs.lemmas.List.Elements.{All-nil, All-cons, All-head, All-tail, All-take}
use Rattle.node_cache.specs.declared.slots.CachedNode.{CachedNode}
use Rattle.node_cache.specs.Cached.{Cached, without, without_all, filled, forgotten}

-- ---- nodes that are forgotten

-- what holds of all nodes holds of those that are left
pub All-without : (P : CachedNode → Type 0) (addr : ℕ) (ks : List CachedNode) → All P ks → All P (without addr ks)
All-without P addr [] all = all
All-without P addr (k ∷ ks) all = elim (nat_eq k.addr addr) as (λ b. All P (cond b (without addr ks) (k ∷ without addr ks))) [
  | true ↦ All-without P addr ks (All-tail P k ks all)
  | false ↦ All-cons P k (without addr ks) (All-head P k ks all) (All-without P addr ks (All-tail P k ks all))
]

pub All-without_all : (P : CachedNode → Type 0) (addrs : List ℕ) (ks : List CachedNode) → All P ks → All P (without_all addrs ks)
All-without_all P [] ks all = all
All-without_all P (addr ∷ addrs) ks all = All-without_all P addrs (without addr ks) (All-without P addr ks all)

none-without : (addr : ℕ) (ks : List CachedNode) → All (λ k. k.addr ≢ addr) (without addr ks)
none-without addr [] = All-nil (λ (k : CachedNode). k.addr ≢ addr)
none-without addr (k ∷ ks) = elim (eqb_tells k.addr addr) [
  | inl same ↦ rw same.0 (none-without addr ks)
  | inr other ↦ rw other.0 (All-cons (λ (j : CachedNode). j.addr ≢ addr) k (without addr ks) other.1 (none-without addr ks))
]

-- none of them is left
pub none-without_all : (addrs : List ℕ) (ks : List CachedNode) → All (λ addr. All (λ k. k.addr ≢ addr) (without_all addrs ks)) addrs
none-without_all [] ks = All-nil (λ addr. All (λ (k : CachedNode). k.addr ≢ addr) ks)
none-without_all (addr ∷ addrs) ks =
    let left = without_all addrs (without addr ks) in
    All-cons (λ addr. All (λ (k : CachedNode). k.addr ≢ addr) left) addr addrs (All-without_all (λ (k : CachedNode). k.addr ≢ addr) addrs (without addr ks) (none-without addr ks)) (none-without_all addrs (without addr ks))

without_all-push : (addrs : List ℕ) (addr : ℕ) (ks : List CachedNode) → without_all (addrs ++ addr ∷ []) ks ≡ without addr (without_all addrs ks)
without_all-push [] addr ks = refl
without_all-push (a ∷ addrs) addr ks = without_all-push addrs addr (without a ks)

-- one address more
pub forgotten-more : (i d : ℕ) (addrs : List ℕ) (old now : Cached) → i < length addrs → now ≡ forgotten (take i addrs) old → record { capacity = now.capacity; nodes = without (get_or addrs i d) now.nodes } ≡ forgotten (take (i + 1) addrs) old
forgotten-more i d addrs old now within is =
    let here = get_or addrs i d in
    let kept : without here now.nodes ≡ without_all (take (i + 1) addrs) old.nodes
    = ap (λ (c : Cached). without here c.nodes) is ∙ sym (without_all-push (take i addrs) here old.nodes) ∙ ap (λ l. without_all l old.nodes) (sym (take_more addrs i d within)) in
    λ j. record { capacity = ap (λ (c : Cached). c.capacity) is j; nodes = kept j }

-- all of them
pub forgotten-all : (i : ℕ) (addrs : List ℕ) (old : Cached) → length addrs ≤ i → forgotten (take i addrs) old ≡ forgotten addrs old
forgotten-all i addrs old all = ap (λ l. forgotten l old) (take_all i addrs all)

-- of nodes that begin with one of an address fewer are left without it
pub without-fewer : (addr : ℕ) (ks : List CachedNode) → length (without addr ks) ≤ length ks
without-fewer addr [] = omega arith
without-fewer addr (k ∷ ks) = elim (nat_eq k.addr addr) as (λ b. length (cond b (without addr ks) (k ∷ without addr ks)) ≤ length (k ∷ ks)) [
  | true ↦ omega (arith, without-fewer addr ks)
  | false ↦ omega (arith, without-fewer addr ks)
]

pub fewer_behind : (addr : ℕ) (ks others : List CachedNode) (k : CachedNode) → ks ≡ k ∷ others → k.addr ≡ addr → length (without addr ks) < length ks
fewer_behind addr ks others k is here = elim (eqb_tells k.addr addr) [
  | inl same ↦ rw (is, same.0) (omega (arith, without-fewer addr others))
  | inr other ↦ absurd (other.1 here)
]

-- ---- nodes that are put

-- what holds of all nodes and of one that is put holds of those that are kept then
pub All-filled : (P : CachedNode → Type 0) (old : Cached) (k : CachedNode) → All P old.nodes → P k → All P (filled old k).nodes
All-filled P old k all here = All-take P old.capacity (k ∷ without k.addr old.nodes) (All-cons P k (without k.addr old.nodes) here (All-without P k.addr old.nodes all))
