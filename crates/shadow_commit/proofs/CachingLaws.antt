-- What a cache keeps once nodes were sealed.
use Rattle.std.proofs.Common.{◌≡◌, List, [], ◌∷◌, ◌++◌, All, refl, sym, ap, ◌∙◌}
use Rattle.std.specs.List.{AllByRecursion}
use Rattle.node_cache.specs.declared.slots.CachedNode.{CachedNode}
use Rattle.node_cache.specs.Cached.{Cached, filled}
use Rattle.node_cache.proofs.CacheLaws.{All-filled}
use Rattle.shadow_commit.specs.Sealed.{Sealed}
use Rattle.shadow_commit.specs.Caching.{cached_as, with_sealed}

sealed-append : (cache : Cached) (ns ms : List Sealed) → with_sealed cache (ns ++ ms) ≡ with_sealed (with_sealed cache ns) ms
sealed-append cache [] ms = refl
sealed-append cache (n ∷ ns) ms = sealed-append (filled cache (cached_as n)) ns ms

-- nodes were put, and then more
pub sealed_then : (first mid last : Cached) (ns ms : List Sealed) → mid ≡ with_sealed first ns → last ≡ with_sealed mid ms → last ≡ with_sealed first (ns ++ ms)
sealed_then first mid last ns ms one two = two ∙ ap (λ (c : Cached). with_sealed c ms) one ∙ sym (sealed-append first ns ms)

pub capacity_sealed : (cache : Cached) (ns : List Sealed) → (with_sealed cache ns).capacity ≡ cache.capacity
capacity_sealed cache [] = refl
capacity_sealed cache (n ∷ ns) = capacity_sealed (filled cache (cached_as n)) ns

-- what holds of all nodes that were cached and of those that are put holds of all that are cached then
pub All-sealed : (P : CachedNode → Type 0) (cache : Cached) (ns : List Sealed) → All P cache.nodes → AllByRecursion (λ n. P (cached_as n)) ns → All P (with_sealed cache ns).nodes
All-sealed P cache [] all each = all
All-sealed P cache (n ∷ ns) all each = All-sealed P (filled cache (cached_as n)) ns (All-filled P cache (cached_as n) all each.0) each.1
