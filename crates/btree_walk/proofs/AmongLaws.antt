-- That a cache keeps nodes of these places alone.
use Rattle.std.proofs.Common.{◌≡◌, ◌⊎◌, ℕ, List, ◌∷◌, All, Contains, refl, sym, subst, inl, inr, ◌∙◌, Some}
use Rattle.std.proofs.lemmas.List.Elements.{All-cons, All-take, All-contains, All-contains_itself, All-weaker}
use Rattle.node_codec.specs.declared.body.NodeBody.{NodeBody}
use Rattle.node_codec.specs.declared.body.Entry.{Entry}
use Rattle.node_codec.specs.Record.{NodeRecord}
use Rattle.page_store.specs.declared.wants.Want.{Want}
use Rattle.page_store.specs.Places.{IsRecordAt}
use Rattle.page_store.specs.Tree.{Place}
use Rattle.node_cache.specs.declared.slots.CachedNode.{CachedNode}
use Rattle.node_cache.specs.Cached.{Cached, cached_node, without, filled, Uses}
use Rattle.btree_walk.specs.Ways.{GoesBelow}
use Rattle.btree_walk.specs.Sights.{Sees, IsOfPage, StandsOver, KeepsOnly}
use Rattle.btree_walk.specs.Among.{IsAmong, GoDown, KeepsAmong, KeepsBut}
use Rattle.btree_walk.proofs.SightLaws.{All-without}
use Rattle.btree_walk.proofs.WayLaws.{way_entry}

abbrev pub WasOrAt : ℕ → List ℕ → Cached → CachedNode → Type 0
WasOrAt addr key old k = Contains old.nodes k ⊎ ((k.addr ≡ addr) × (k.key ≡ key))

-- a cache that is the same keeps nothing else
pub but_same : (addr : ℕ) (key : List ℕ) (old : Cached) → KeepsBut addr key old old
but_same addr key old = All-weaker (Contains old.nodes) (WasOrAt addr key old) (λ j in'. inl in') old.nodes (All-contains_itself old.nodes)

but_on : (old : Cached) (k : CachedNode) → All (WasOrAt k.addr k.key old) (k ∷ without k.addr old.nodes)
but_on old k = All-cons (WasOrAt k.addr k.key old) k (without k.addr old.nodes) (inr (refl, refl)) (All-without (WasOrAt k.addr k.key old) k.addr old.nodes (but_same k.addr k.key old))

-- one that got a node keeps nothing else but that
pub but_filled : (old : Cached) (k : CachedNode) → KeepsBut k.addr k.key old (filled old k)
but_filled old k = All-take (WasOrAt k.addr k.key old) old.capacity (k ∷ without k.addr old.nodes) (but_on old k)

-- and so does one in which a node was found
pub but_used : (old new : Cached) (addr : ℕ) (key : List ℕ) (node : NodeBody) → Uses old addr key (Some node) new → KeepsBut addr key old new
but_used old new addr key node uses = subst (KeepsBut addr key old) (sym uses.1) (but_on old (cached_node addr key node))

-- where that place is among these, what is cached is
pub among_but : (places : List Place) (addr : ℕ) (key : List ℕ) (old new : Cached) → IsAmong places addr key → KeepsBut addr key old new → KeepsAmong places old → KeepsAmong places new
among_but places addr key old new at but kept = All-weaker (WasOrAt addr key old) (λ k. IsAmong places k.addr k.key) (λ k either. by k either) new.nodes but
  where
    by : (k : CachedNode) → WasOrAt addr key old k → IsAmong places k.addr k.key
    by k (inl before) = All-contains (λ j. IsAmong places j.addr j.key) old.nodes k kept before
    by k (inr same) = record { place = at.place; here = at.here; addr_is = at.addr_is ∙ sym same.0; key_is = at.key_is ∙ sym same.1 }

-- a node that is seen behind a cache that stands over the pages is what its page is
sees_record : (pages : List (List ℕ)) (cache : Cached) (want : Want) (key : List ℕ) (level : ℕ) (entries : List Entry) → StandsOver pages cache → Sees cache.nodes pages want key (NodeRecord level entries) → IsRecordAt pages want.addr key (NodeRecord level entries)
sees_record pages cache want key level entries stands (inr page) = page.0
sees_record pages cache want key level entries stands (inl is) =
    subst (IsRecordAt pages want.addr key) (sym is.is) (All-contains (IsOfPage pages) cache.nodes (cached_node want.addr key is.node) stands is.here).is

-- where a look-up goes on it comes to one of the places that go down
pub goes_among : (pages : List (List ℕ)) (cache : Cached) (want next : Want) (key next_key : List ℕ) (entries : List Entry) (block : ℕ) (places : List Place) → StandsOver pages cache
    → Sees cache.nodes pages want key (NodeRecord want.level entries) → GoesBelow want entries block next next_key → GoDown pages places → IsAmong places want.addr key → IsAmong places next.addr next_key
goes_among pages cache want next key next_key entries block places stands sees goes down at =
    let each = down want.addr key want.level entries at (sees_record pages cache want key want.level entries stands sees) in
    let here = way_entry (λ (e : Entry). IsAmong places e.addr e.key) entries want.high block goes.bound goes.entry each goes.way in
    subst (λ (w : Want). IsAmong places w.addr next_key) (sym goes.next_is) (subst (IsAmong places goes.entry.addr) (sym goes.key_is) here)

-- what is cached after two such changes
pub keeps_then : (pages : List (List ℕ)) (old mid new : Cached) → KeepsOnly pages old mid → KeepsOnly pages mid new → KeepsOnly pages old new
keeps_then pages old mid new one two = record {
  capacity = two.capacity ∙ one.capacity;
  nodes = All-weaker (λ k. Contains mid.nodes k ⊎ IsOfPage pages k) (λ k. Contains old.nodes k ⊎ IsOfPage pages k) (λ k either. by k either) new.nodes two.nodes;
}
  where
    by : (k : CachedNode) → Contains mid.nodes k ⊎ IsOfPage pages k → Contains old.nodes k ⊎ IsOfPage pages k
    by k (inl in') = All-contains (λ j. Contains old.nodes j ⊎ IsOfPage pages j) mid.nodes k one.nodes in'
    by k (inr page) = inr page
