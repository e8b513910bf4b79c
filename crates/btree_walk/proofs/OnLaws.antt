-- A look at one node, and then a look-up below it.
use Rattle.std.proofs.Common.{◌≡◌, ℕ, zero, suc, ◌+◌, ◌-◌, ◌<◌, ◌≤◌, ◌^◌, List, [], ◌∷◌, ◌++◌, Option, None, Some, Result, Ok, Err, IfOk, IfSome, Contains, sym, ap, subst, ◌∙◌, arith, length-append}
use Rattle.node_codec.specs.declared.body.Entry.{Entry}
use Rattle.node_codec.specs.Record.{NodeRecord}
use Rattle.page_store.specs.declared.wants.Want.{Want}
use Rattle.page_store.specs.Places.{child_want}
use Rattle.node_cache.specs.declared.slots.CachedNode.{CachedNode}
use Rattle.node_cache.specs.Cached.{Cached, cached_node}
use Rattle.btree_walk.specs.declared.turns.Turn.{Turn}
use Rattle.btree_walk.specs.declared.turns.Turn.TheVariants.{Found, Below}
use Rattle.btree_walk.specs.Ways.{IsTurn}
use Rattle.btree_walk.specs.Sights.{CachedFits, Sees, Misses, KeepsOnly, StillKeeps}
use Rattle.btree_walk.specs.Finds.{Finds, Stops, SeesTurn, StaysEarly, UsesNode, IsFound}
use Rattle.btree_walk.proofs.WayLaws.{way_is_one, entry_is_one}
use Rattle.btree_walk.proofs.SightLaws.{in_range_of, sees_before, misses_before, sees_range}
use Rattle.btree_walk.proofs.RecentLaws.{comes_leaf, comes_on, capacity_used, early_kept, first_made, early_used, early_on}
use Rattle.btree_walk.proofs.LookLaws.{next_below, next_less}
use Rattle.btree_walk.proofs.FindLaws.{finds_map, stops_map, finds_leaf, finds_on, stops_on, first_fits, leaf_inverse, inner_inverse}

module _ (pages : List (List ℕ)) (start : Want) (key : List ℕ) (block : ℕ) (c0 c1 : Cached) where
  -- where the node that was used is cached, it fits there
  used_fits : (turn : Turn) (used : UsesNode start key block c0 c1 turn) (kept : List CachedNode) → Contains kept (cached_node start.addr key used.node) → CachedFits kept start key (NodeRecord start.level used.node.entries.items)
  used_fits turn used kept here = record { node = used.node; here = here; fits = used.fits; is = ap (λ n. NodeRecord n used.node.entries.items) (sym used.fits.wanted.same_level) }

  -- the node is a leaf
  pub found_leaf : (found : Option Entry) → UsesNode start key block c0 c1 (Found found) → SeesTurn c0.nodes pages start key block (Found found) → IsFound pages start key block c0 c1 found
  found_leaf found used seen = record {
    path = start.addr ∷ [];
    finds = finds_leaf (Sees c0.nodes pages) block start key seen.entries seen.sees found seen.is.0 seen.is.1;
    levels = sym seen.is.0;
    recent = comes_leaf (cached_node start.addr key used.node) c0 c1 used.first;
    early = subst (λ n. StaysEarly start.addr n c0 c1) (sym seen.is.0) (early_used (cached_node start.addr key used.node) c0 c1 used.first);
    warm = λ room.
        (let k = cached_node start.addr key used.node in
        let leaf = seen.is.0 in
        let here = early_kept 1 c1.nodes k (first_made k c0 c1 used.first (omega arith)) in
        finds_leaf (CachedFits c1.nodes) block start key used.node.entries.items (used_fits (Found found) used c1.nodes here) found used.is.0 used.is.1);
  }

  module _ (next : Want) (next_key : List ℕ) (keeps : KeepsOnly pages c0 c1) (seen : SeesTurn c0.nodes pages start key block (Below next next_key)) where
    less : next.addr < start.addr
    less = next_below start next next_key seen.entries block (sees_range c0.nodes pages start key start.level seen.entries seen.sees) seen.is

    -- it goes on below, and a block is found there
    pub found_on : (c2 : Cached) (found : Option Entry) → UsesNode start key block c0 c1 (Below next next_key) → IsFound pages next next_key block c1 c2 found → IsFound pages start key block c0 c2 found
    found_on c2 found used is =
        let small : next.addr < start.addr = less in
        let level = next_less start next next_key seen.entries block seen.is in
        let levels = is.levels in
        let size = length-append is.path (start.addr ∷ []) in
        record {
          path = is.path ++ start.addr ∷ [];
          finds = finds_on (Sees c0.nodes pages) block start key seen.entries seen.sees next next_key seen.is found is.path
              (finds_map (Sees c1.nodes pages) (Sees c0.nodes pages) next.most block start.addr
              (λ want k l es s. (sees_range c1.nodes pages want k l es s).below)
              (λ want k value below s. sees_before pages c0 c1 want k value keeps s)
              found (next.level - 1) next next_key is.path small is.finds);
          levels = omega arith;
          recent = comes_on (cached_node start.addr key used.node) next.addr is.path c0 c1 c2 small used.first is.recent;
          early = early_on (cached_node start.addr key used.node) next.addr next.level start.level c0 c1 c2 level small used.first is.early;
          warm = λ room.
              (let k = cached_node start.addr key used.node in
              let cap = capacity_used k c0 c1 used.first in
              let here = early_kept (1 + next.level) c2.nodes k (is.early 1 k small (omega arith) (first_made k c0 c1 used.first (omega arith))) in
              finds_on (CachedFits c2.nodes) block start key used.node.entries.items (used_fits (Below next next_key) used c2.nodes here) next next_key used.is found is.path (is.warm (omega arith)));
        }

    -- and where it stops there
    pub stopped_on : (addr : ℕ) → start.addr < 2 ^ 64 → Stops (Sees c1.nodes pages) next.most block (Misses c1.nodes pages) addr (next.level - 1) next next_key → Stops (Sees c0.nodes pages) start.most block (Misses c0.nodes pages) addr (start.level - 1) start key
    stopped_on addr limit is =
        let small : next.addr < start.addr = less in
        stops_on (Sees c0.nodes pages) block start key seen.entries seen.sees next next_key seen.is (Misses c0.nodes pages) addr
        (stops_map (Sees c1.nodes pages) (Sees c0.nodes pages) next.most block start.addr
        (λ want k l es s. (sees_range c1.nodes pages want k l es s).below)
        (λ want k value below s. sees_before pages c0 c1 want k value keeps s)
        (Misses c1.nodes pages) (Misses c0.nodes pages) addr
        (λ want k below m. misses_before pages c0 c1 want k (omega arith) keeps m)
        (next.level - 1) next next_key small is)

-- ---- where the cache keeps the way

module _ (start : Want) (key : List ℕ) (block : ℕ) (c0 : Cached) (some : 1 ≤ start.level) where
  -- the first node of a way that is cached is cached
  pub first_kept : (found : Option Entry) (path : List ℕ) → Finds (CachedFits c0.nodes) start.most block found (start.level - 1) start key path → (entries : List Entry) × CachedFits c0.nodes start key (NodeRecord start.level entries)
  first_kept found path is =
      let first = first_fits (CachedFits c0.nodes) start.most block found (start.level - 1) start key path is in
      let level : suc (start.level - 1) ≡ start.level = omega arith in
      (first.0, subst (λ (n : ℕ). CachedFits c0.nodes start key (NodeRecord n first.0)) level first.1)

  -- a leaf that is cached has one entry of the block
  pub same_found : (found other : Option Entry) (path : List ℕ) → ((entries : List Entry) → CachedFits c0.nodes start key (NodeRecord start.level entries) → IsTurn start entries block (Found found)) → Finds (CachedFits c0.nodes) start.most block other (start.level - 1) start key path → found ≡ other
  same_found found other path turned is =
      let first = first_kept other path is in
      let leaf : start.level ≡ 1 = (turned first.0 first.1).0 in
      let none : start.level - 1 ≡ zero = omega arith in
      let end = leaf_inverse (CachedFits c0.nodes) start.most block other (start.level - 1) start key path none is in
      let fits = subst (λ (n : ℕ). CachedFits c0.nodes start key (NodeRecord n end.entries)) (sym leaf) end.fits in
      entry_is_one end.entries block found other (in_range_of c0.nodes start key start.level end.entries fits).ascend (turned end.entries fits).1 end.is

  -- and what lies below one is cached still
  pub kept_on : (next : Want) (next_key : List ℕ) (c1 : Cached) (found : Option Entry) (path : List ℕ) → StillKeeps start.addr c0 c1
      → ((entries : List Entry) → CachedFits c0.nodes start key (NodeRecord start.level entries) → IsTurn start entries block (Below next next_key))
      → Finds (CachedFits c0.nodes) start.most block found (start.level - 1) start key path
      → (rest : List ℕ) × Finds (CachedFits c1.nodes) next.most block found (next.level - 1) next next_key rest
  kept_on next next_key c1 found path still turned is =
      let first = first_kept found path is in
      let inner : 2 ≤ start.level = (turned first.0 first.1).inner in
      let one_less : start.level - 1 ≡ suc (start.level - 2) = omega arith in
      let deep : start.level ≡ suc (suc (start.level - 2)) = omega arith in
      let on = inner_inverse (CachedFits c0.nodes) start.most block found (start.level - 1) (start.level - 2) start key path one_less is in
      let fits = subst (λ (n : ℕ). CachedFits c0.nodes start key (NodeRecord n on.entries)) (sym deep) on.fits in
      let range = in_range_of c0.nodes start key start.level on.entries fits in
      let goes = turned on.entries fits in
      let one = way_is_one on.entries start.high block goes.bound on.bound goes.entry on.entry range.ascend goes.way on.way in
      let next_is : child_want start.most (suc (start.level - 2)) on.entry on.bound ≡ next =
      sym (goes.next_is ∙ (λ i. child_want start.most (one_less i) (one.0 i) (one.1 i))) in
      let key_is : on.entry.key ≡ next_key = sym (goes.key_is ∙ ap (λ (e : Entry). e.key) one.0) in
      let level_is : start.level - 2 ≡ next.level - 1 = (let l = next_less start next next_key on.entries block goes in omega arith) in
      let order_is : start.most ≡ next.most = ap (λ (w : Want). w.most) next_is in
      let a = subst (λ (w : Want). Finds (CachedFits c0.nodes) start.most block found (start.level - 2) w on.entry.key on.rest) next_is on.goes in
      let b = subst (λ (k : List ℕ). Finds (CachedFits c0.nodes) start.most block found (start.level - 2) next k on.rest) key_is a in
      let c = subst (λ (n : ℕ). Finds (CachedFits c0.nodes) start.most block found n next next_key on.rest) level_is b in
      let d = subst (λ (n : ℕ). Finds (CachedFits c0.nodes) n block found (next.level - 1) next next_key on.rest) order_is c in
      let small : next.addr < start.addr = next_below start next next_key on.entries block range goes in (
        on.rest,
        finds_map (CachedFits c0.nodes) (CachedFits c1.nodes) next.most block start.addr
            (λ want k l es s. (in_range_of c0.nodes want k l es s).below)
            (λ want k value below s. record { node = s.node; here = still (cached_node want.addr k s.node) (λ h. omega arith) s.here; fits = s.fits; is = s.is })
            found (next.level - 1) next next_key on.rest small d,
      )

-- ---- in an answer

pub IfOk_map : {T E : Type 0} (P Q : T → Type 0) (r : Result T E) → ((x : T) → P x → Q x) → IfOk r P → IfOk r Q
IfOk_map P Q (Ok x) map is = map x is
IfOk_map P Q (Err e) map is = tt

pub entry_below : (block low high : ℕ) → low < high → (found : Option Entry) → IfSome found (λ e. (e.low ≡ block) × (e.addr < low)) → IfSome found (λ e. (e.low ≡ block) × (e.addr < high))
entry_below block low high less None is = tt
entry_below block low high less (Some e) is = (is.0, (let h = is.1 in omega arith))
