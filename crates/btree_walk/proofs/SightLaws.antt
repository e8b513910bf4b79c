-- What is seen at a place, as a cache changes.
use Rattle.std.proofs.Common.{◌≡◌, ◌⊎◌, ℕ, ◌<◌, ◌^◌, List, [], ◌∷◌, All, Contains, cond, refl, sym, subst, inl, inr, nat_eq, true, false, Some}
use Rattle.std.proofs.lemmas.List.Elements.{All-cons, All-head, All-tail, All-take, All-contains, All-contains_itself, All-weaker}
use Rattle.sdbt_base.specs.Keys.{version_of}
use Rattle.node_codec.specs.declared.body.NodeBody.{NodeBody}
use Rattle.node_codec.specs.declared.body.Entry.{Entry}
use Rattle.node_codec.specs.Record.{Record, NodeRecord, FitsNode}
use Rattle.page_store.specs.declared.wants.Want.{Want}
use Rattle.page_store.specs.Places.{FitsAt}
use Rattle.page_store.proofs.RecordLaws.{one_record}
use Rattle.node_cache.specs.declared.slots.CachedNode.{CachedNode}
use Rattle.node_cache.specs.Cached.{Cached, cached_node, without, touched, filled, Uses}
use Rattle.btree_walk.specs.Sights.{CachedFits, Sees, Misses, IsOfPage, KeepsOnly}

pub All-without : (P : CachedNode → Type 0) (addr : ℕ) (ks : List CachedNode) → All P ks → All P (without addr ks)
All-without P addr [] all = all
All-without P addr (k ∷ ks) all = elim (nat_eq k.addr addr) as (λ b. All P (cond b (without addr ks) (k ∷ without addr ks))) [
  | true ↦ All-without P addr ks (All-tail P k ks all)
  | false ↦ All-cons P k (without addr ks) (All-head P k ks all) (All-without P addr ks (All-tail P k ks all))
]

abbrev pub StaysOr : List (List ℕ) → Cached → CachedNode → Type 0
StaysOr pages old k = Contains old.nodes k ⊎ IsOfPage pages k

kept_or : (pages : List (List ℕ)) (old : Cached) (k : CachedNode) → StaysOr pages old k → All (StaysOr pages old) (k ∷ without k.addr old.nodes)
kept_or pages old k is = All-cons (StaysOr pages old) k (without k.addr old.nodes) is
    (All-without (StaysOr pages old) k.addr old.nodes (All-weaker (Contains old.nodes) (StaysOr pages old) (λ j in'. inl in') old.nodes (All-contains_itself old.nodes)))

-- a cache that got a node keeps what it kept, and that node
pub keeps_filled : (pages : List (List ℕ)) (old : Cached) (k : CachedNode) → StaysOr pages old k → KeepsOnly pages old (filled old k)
keeps_filled pages old k is = record {
  capacity = refl;
  nodes = All-take (StaysOr pages old) old.capacity (k ∷ without k.addr old.nodes) (kept_or pages old k is);
}

keeps_touched : (pages : List (List ℕ)) (old : Cached) (k : CachedNode) → StaysOr pages old k → KeepsOnly pages old (touched old k)
keeps_touched pages old k is = record { capacity = refl; nodes = kept_or pages old k is }

-- so does a cache in which a node was found
pub keeps_used : (pages : List (List ℕ)) (old new : Cached) (addr : ℕ) (key : List ℕ) (node : NodeBody) → Uses old addr key (Some node) new → KeepsOnly pages old new
keeps_used pages old new addr key node uses = subst (KeepsOnly pages old) (sym uses.1) (keeps_touched pages old (cached_node addr key node) (inl uses.0.here))

pub keeps_same : (pages : List (List ℕ)) (old new : Cached) → new ≡ old → KeepsOnly pages old new
keeps_same pages old new same = subst (KeepsOnly pages old) (sym same) (record {
  capacity = refl;
  nodes = All-weaker (Contains old.nodes) (StaysOr pages old) (λ j in'. inl in') old.nodes (All-contains_itself old.nodes);
})

-- what is seen behind a cache later was seen before
pub sees_before : (pages : List (List ℕ)) (old new : Cached) (want : Want) (key : List ℕ) (value : Record) → KeepsOnly pages old new → Sees new.nodes pages want key value → Sees old.nodes pages want key value
sees_before pages old new want key value keeps (inr page) = inr page
sees_before pages old new want key value keeps (inl is) =
    elim (All-contains (StaysOr pages old) new.nodes (cached_node want.addr key is.node) keeps.nodes is.here) [
      | inl before ↦ inl record { node = is.node; here = before; fits = is.fits; is = is.is }
      | inr page ↦ inr (subst (FitsAt pages want key) (sym is.is) (page.is, is.fits.wanted))
    ]

pub misses_before : (pages : List (List ℕ)) (old new : Cached) (want : Want) (key : List ℕ) → want.addr < 2 ^ 64 → KeepsOnly pages old new → Misses new.nodes pages want key → Misses old.nodes pages want key
misses_before pages old new want key small keeps (inr nothing) = inr nothing
misses_before pages old new want key small keeps (inl is) =
    elim (All-contains (StaysOr pages old) new.nodes (cached_node want.addr key is.node) keeps.nodes is.here) [
      | inl before ↦ inl record { node = is.node; here = before; misfit = is.misfit }
      | inr page ↦ inr (λ value fits.
          let same : value ≡ NodeRecord is.node.level is.node.entries.items = one_record pages want.addr key value (NodeRecord is.node.level is.node.entries.items) small fits.0 page.is in
          let fits' = subst (FitsAt pages want key) same fits in
          is.misfit record { version = page.version; in_range = fits'.0.in_range.0; wanted = fits'.1 })
    ]

-- a node that is cached and fits is in range
pub in_range_of : (kept : List CachedNode) (want : Want) (key : List ℕ) (level : ℕ) (entries : List Entry) → CachedFits kept want key (NodeRecord level entries) → FitsNode (version_of key) want.addr level entries
in_range_of kept want key level entries is =
    let l : level ≡ is.node.level = let e = is.is in cc in
    let es : entries ≡ is.node.entries.items = let e = is.is in cc in
    subst (λ (n : ℕ). FitsNode (version_of key) want.addr n entries) (sym l) (subst (λ (xs : List Entry). FitsNode (version_of key) want.addr is.node.level xs) (sym es) is.fits.in_range)

-- a node that is seen is in range
pub sees_range : (kept : List CachedNode) (pages : List (List ℕ)) (want : Want) (key : List ℕ) (level : ℕ) (entries : List Entry) → Sees kept pages want key (NodeRecord level entries) → FitsNode (version_of key) want.addr level entries
sees_range kept pages want key level entries (inr page) = page.0.in_range.0
sees_range kept pages want key level entries (inl is) = in_range_of kept want key level entries is
