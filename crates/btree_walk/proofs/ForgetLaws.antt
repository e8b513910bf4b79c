-- That a cache forgets nothing where nodes are looked at.
use Rattle.std.proofs.Common.{◌≡◌, ◌≢◌, ◌⊎◌, ℕ, ◌+◌, ◌≤◌, List, [], ◌∷◌, All, Contains, Some, length, take, refl, sym, ap, subst, inl, inr, ◌∙◌, arith}
use Rattle.std.proofs.lemmas.Bool.Decides.{eqb_tells, leb_tells}
use Rattle.std.proofs.lemmas.List.{take_all, length-take-le}
use Rattle.std.proofs.lemmas.List.Elements.{All-head, All-tail}
use Rattle.node_codec.specs.declared.body.NodeBody.{NodeBody}
use Rattle.node_cache.specs.declared.slots.CachedNode.{CachedNode}
use Rattle.node_cache.specs.Cached.{Cached, Uses, cached_node, without, touched, filled}
use Rattle.node_cache.specs.Slots.{AreApart}
use Rattle.btree_walk.specs.Sights.{IsCachedFor, IsFull, ForgetsNone}
use Rattle.btree_walk.proofs.Elements.{Contains-head, Contains-tail}
use Rattle.btree_walk.proofs.RecentLaws.{contains-without}

-- where no node has an address, there is nothing to leave out
without_none : (addr : ℕ) (ks : List CachedNode) → All (λ k. k.addr ≢ addr) ks → without addr ks ≡ ks
without_none addr [] none = refl
without_none addr (k ∷ ks) none = elim (eqb_tells k.addr addr) [
  | inl same ↦ absurd (All-head (λ (j : CachedNode). j.addr ≢ addr) k ks none same.1)
  | inr other ↦ rw other.0 (ap (λ r. k ∷ r) (without_none addr ks (All-tail (λ (j : CachedNode). j.addr ≢ addr) k ks none)))
]

-- of nodes with addresses of their own one has an address, at most
one_left_out : (addr : ℕ) (ks : List CachedNode) → AreApart ks → length ks ≤ length (without addr ks) + 1
one_left_out addr [] apart = omega arith
one_left_out addr (k ∷ ks) apart = elim (eqb_tells k.addr addr) [
  | inl same ↦ rw same.0 (let all = without_none addr ks (subst (λ a. All (λ (j : CachedNode). j.addr ≢ a) ks) same.1 apart.0) in omega (arith, ap length all))
  | inr other ↦ rw other.0 (omega (arith, one_left_out addr ks apart.1))
]

-- the nodes with one at their head, in the place of what was cached for its address
abbrev put_first : CachedNode → List CachedNode → List CachedNode
put_first node ks = node ∷ without node.addr ks

still_first : (node : CachedNode) (ks : List CachedNode) (addr : ℕ) → IsCachedFor ks addr → IsCachedFor (put_first node ks) addr
still_first node ks addr (k, in', is) = elim (eqb_tells k.addr node.addr) [
  | inl same ↦ (node, Contains-head node (without node.addr ks), sym same.1 ∙ is)
  | inr other ↦ (k, Contains-tail node (without node.addr ks) k (contains-without node.addr k ks other.1 in'), is)
]

-- of the first nodes one has the address, or there are as many as that
still_taken : (room : ℕ) (ks : List CachedNode) (addr : ℕ) → IsCachedFor ks addr → IsCachedFor (take room ks) addr ⊎ (room ≤ length (take room ks))
still_taken room ks addr here = elim (leb_tells room (length ks)) [
  | inl many ↦ inr (omega (arith, length-take-le room ks many.1))
  | inr few ↦ inl (subst (λ l. IsCachedFor l addr) (sym (take_all room ks (omega (arith, few.1)))) here)
]

full_taken : (room : ℕ) (ks : List CachedNode) → room ≤ length ks → room ≤ length (take room ks)
full_taken room ks many = omega (arith, length-take-le room ks many)

pub forgets_touched : (old : Cached) (node : CachedNode) → AreApart old.nodes → ForgetsNone old (touched old node)
forgets_touched old node apart = record {
  capacity = refl;
  still = λ addr here. inl (still_first node old.nodes addr here);
  full = λ full. omega (arith, full, one_left_out node.addr old.nodes apart);
}

-- a cache that got a node
pub forgets_filled : (old : Cached) (node : CachedNode) → AreApart old.nodes → ForgetsNone old (filled old node)
forgets_filled old node apart = record {
  capacity = refl;
  still = λ addr here. still_taken old.capacity (put_first node old.nodes) addr (still_first node old.nodes addr here);
  full = λ full. full_taken old.capacity (put_first node old.nodes) (omega (arith, full, one_left_out node.addr old.nodes apart));
}

-- one in which a node was found
pub forgets_used : (old new : Cached) (addr : ℕ) (key : List ℕ) (node : NodeBody) → AreApart old.nodes → Uses old addr key (Some node) new → ForgetsNone old new
forgets_used old new addr key node apart uses = subst (ForgetsNone old) (sym uses.1) (forgets_touched old (cached_node addr key node) apart)

-- one that is the same
pub forgets_same : (old new : Cached) → new ≡ old → ForgetsNone old new
forgets_same old new same = subst (ForgetsNone old) (sym same) (record { capacity = refl; still = λ addr here. inl here; full = λ full. full })

-- one change after another
pub forgets_then : (old mid new : Cached) → ForgetsNone old mid → ForgetsNone mid new → ForgetsNone old new
forgets_then old mid new one two = record {
  capacity = two.capacity ∙ one.capacity;
  still = λ addr here. elim (one.still addr here) [
    | inl kept ↦ two.still addr kept
    | inr full ↦ inr (two.full full)
  ];
  full = λ full. two.full (one.full full);
}

-- a node that was found is cached still
pub found_still : (old new : Cached) (addr : ℕ) (key : List ℕ) (node : NodeBody) → Uses old addr key (Some node) new → Contains new.nodes (cached_node addr key node)
found_still old new addr key node uses = subst (λ (c : Cached). Contains c.nodes (cached_node addr key node)) (sym uses.1) (Contains-head (cached_node addr key node) (without addr old.nodes))
