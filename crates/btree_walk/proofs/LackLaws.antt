-- Where a cache alone leads to a leaf that lacks a block.
use Rattle.std.specs.Prelude.{◌↔◌, IsTrue}
use Rattle.std.specs.Option.{is_some}
use Rattle.std.proofs.Common.{◌≡◌, ℕ, ◌-◌, ◌≤◌, List, [], ◌∷◌, ◌++◌, Bool, true, false, not, Option, None, Some, sym, ap, subst, refl}
use Rattle.node_codec.specs.declared.body.NodeBody.{NodeBody}
use Rattle.node_codec.specs.declared.body.Entry.{Entry}
use Rattle.node_codec.specs.Record.{NodeRecord, FitsNode}
use Rattle.sdbt_base.specs.Keys.{version_of}
use Rattle.page_store.specs.declared.wants.Want.{Want}
use Rattle.node_cache.specs.Cached.{Cached, IsCached, IsOnlyCached}
use Rattle.btree_walk.specs.declared.turns.Turn.{Turn}
use Rattle.btree_walk.specs.declared.turns.Turn.TheVariants.{Found, Below}
use Rattle.btree_walk.specs.Ways.{IsTurn}
use Rattle.btree_walk.specs.Sights.{NodeFits, CachedFits}
use Rattle.btree_walk.specs.Finds.{Finds}
use Rattle.btree_walk.proofs.FindLaws.{finds_leaf, finds_on}
use Rattle.btree_walk.proofs.LookLaws.{same_entries, fits_too}
use Rattle.btree_walk.proofs.OnLaws.{first_kept, same_found, kept_on}

-- from this node on the cache alone leads to a leaf that lacks the block
abbrev pub Lacks : Cached → ℕ → Want → List ℕ → Type 0
Lacks cache block want key = (path : List ℕ) × Finds (CachedFits cache.nodes) want.most block None (want.level - 1) want key path

none_tells : (found : Option Entry) (told : Bool) → is_some found ≡ not told → (IsTrue told → found ≡ None) × (found ≡ None → IsTrue told)
none_tells None true is = (λ yes. refl, λ none. refl)
none_tells None false is = absurd (cc)
none_tells (Some e) true is = absurd (cc)
none_tells (Some e) false is = (λ yes. absurd (cc), λ none. absurd (cc))

module _ (cache : Cached) (start : Want) (key : List ℕ) (block : ℕ) (some : 1 ≤ start.level) where
  -- not where it keeps no node for the place
  pub none_leads : ((node : NodeBody) → IsCached cache.nodes start.addr key node → ⊥) → Lacks cache block start key → ⊥
  none_leads none lacks = let first = first_kept start key block cache some None lacks.0 lacks.1 in none first.1.node first.1.here

  -- nor where that does not fit
  pub misfit_leads : (node : NodeBody) → IsOnlyCached cache.nodes start.addr key node → (NodeFits start key node → ⊥) → Lacks cache block start key → ⊥
  misfit_leads node only misfit lacks = let first = first_kept start key block cache some None lacks.0 lacks.1 in misfit (fits_too cache.nodes start key node first.0 only first.1)

  module _ (node : NodeBody) (only : IsOnlyCached cache.nodes start.addr key node) (fits : NodeFits start key node) where
    -- the node is seen at the place
    kept : CachedFits cache.nodes start key (NodeRecord start.level node.entries.items)
    kept = record { node = node; here = only.here; fits = fits; is = ap (λ n. NodeRecord n node.entries.items) (sym fits.wanted.same_level) }

    -- what it says of the block is so of each that fits there
    turned : (turn : Turn) → IsTurn start node.entries.items block turn → (entries : List Entry) → CachedFits cache.nodes start key (NodeRecord start.level entries) → IsTurn start entries block turn
    turned turn is entries seen = subst (λ (es : List Entry). IsTurn start es block turn) (sym (same_entries cache.nodes start key node entries only seen)) is

    -- a leaf has no entry of it
    leaf_lacks : IsTurn start node.entries.items block (Found None) → Lacks cache block start key
    leaf_lacks is = (start.addr ∷ [], finds_leaf (CachedFits cache.nodes) block start key node.entries.items kept None is.0 is.1)

    -- or has one
    leaf_has : (found : Option Entry) → IsTurn start node.entries.items block (Found found) → Lacks cache block start key → found ≡ None
    leaf_has found is lacks = same_found start key block cache some found None lacks.0 (turned (Found found) is) lacks.1

    -- so a leaf decides it
    pub leads_at_leaf : (found : Option Entry) (told : Bool) → IsTurn start node.entries.items block (Found found) → is_some found ≡ not told → IsTrue told ↔ Lacks cache block start key
    leads_at_leaf found told is tells = (
      λ yes. leaf_lacks (subst (λ f. IsTurn start node.entries.items block (Found f)) ((none_tells found told tells).0 yes) is),
      λ lacks. (none_tells found told tells).1 (leaf_has found is lacks),
    )

    module _ (next : Want) (next_key : List ℕ) (is : IsTurn start node.entries.items block (Below next next_key)) where
      leads_on : Lacks cache block next next_key → Lacks cache block start key
      leads_on lacks = (lacks.0 ++ start.addr ∷ [], finds_on (CachedFits cache.nodes) block start key node.entries.items kept next next_key is None lacks.0 lacks.1)

      leads_from : Lacks cache block start key → Lacks cache block next next_key
      leads_from lacks = kept_on start key block cache some next next_key cache None lacks.0 (λ k other in'. in') (turned (Below next next_key) is) lacks.1

    -- and another node leaves it to the one below it
    pub leads_below : (next : Want) (next_key : List ℕ) (told : Bool) → IsTurn start node.entries.items block (Below next next_key) → IsTrue told ↔ Lacks cache block next next_key → IsTrue told ↔ Lacks cache block start key
    leads_below next next_key told is tells = (λ yes. leads_on next next_key is (tells.0 yes), λ lacks. tells.1 (leads_from next next_key is lacks))

    -- the node is in range
    pub in_range : FitsNode (version_of key) start.addr start.level node.entries.items
    in_range = subst (λ n. FitsNode (version_of key) start.addr n node.entries.items) fits.wanted.same_level fits.in_range
