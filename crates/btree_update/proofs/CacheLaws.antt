-- What a cache keeps, over pages.
use Rattle.std.proofs.Common.{◌≡◌, ◌⊎◌, ℕ, ◌<◌, ◌≤◌, ◌-◌, ◌^◌, List, Contains, sym, ap, subst, inl, inr}
use Rattle.platform.specs.declared.platforms.Platform.{Ghosts}
use Rattle.page_store.specs.Tree.{Place}
use Rattle.btree_walk.specs.Among.{IsAmong, KeepsBut}
use Rattle.btree_twigs.specs.declared.twigs.Child.{Child}
use Rattle.btree_twigs.specs.declared.twigs.Child.TheVariants as made
use Rattle.btree_twigs.specs.declared.twigs.Twig.{Twig}
use Rattle.btree_twigs.specs.Stubs.{stubs, stubs_below}
use Rattle.btree_update.specs.Among.{HaveNodes, CachesAmong}
use Rattle.btree_update.specs.Holding.{IsNodeOf}
use Rattle.btree_update.proofs.AmongLaws.{kept_among, read_among, below_among}
use Rattle.std.proofs.lemmas.List.Elements.{All-weaker, All-contains}
use Rattle.node_codec.specs.declared.body.NodeBody.{NodeBody}
use Rattle.node_codec.specs.Record.{NodeRecord}
use Rattle.page_store.specs.declared.wants.Want.{Want}
use Rattle.page_store.specs.Places.{FitsAt, NothingFits}
use Rattle.page_store.proofs.RecordLaws.{one_record}
use Rattle.node_cache.specs.declared.slots.CachedNode.{CachedNode}
use Rattle.node_cache.specs.Cached.{Cached, cached_node, IsCached}
use Rattle.btree_walk.specs.Sights.{NodeFits, IsOfPage, StandsOver, KeepsOnly, ForgetsNone}
use Rattle.btree_walk.proofs.ForgetLaws.{forgets_then}
use Rattle.page_store.specs.declared.refusals.FetchRefusal.{FetchRefusal}
use Rattle.page_store.specs.declared.refusals.FetchRefusal.TheVariants as fetches
use Rattle.btree_update.specs.declared.refusals.ReadyRefusal.TheVariants as ready
use Rattle.btree_update.specs.Refusals.{refused}

-- a cache that keeps only what it kept, and nodes of pages, stands over the pages still
pub stands_on : (pages : List (List ℕ)) (old new : Cached) → StandsOver pages old → KeepsOnly pages old new → StandsOver pages new
stands_on pages old new stands keeps = All-weaker (λ k. Contains old.nodes k ⊎ IsOfPage pages k) (IsOfPage pages) (λ k either. by k either) new.nodes keeps.nodes
  where
    by : (k : CachedNode) → Contains old.nodes k ⊎ IsOfPage pages k → IsOfPage pages k
    by k (inl before) = All-contains (IsOfPage pages) old.nodes k stands before
    by k (inr page) = page

-- a node that is cached is what its page is
pub kept_is_page : (pages : List (List ℕ)) (cache : Cached) (addr : ℕ) (key : List ℕ) (node : NodeBody) → StandsOver pages cache → IsCached cache.nodes addr key node → IsOfPage pages (cached_node addr key node)
kept_is_page pages cache addr key node stands here = All-contains (IsOfPage pages) cache.nodes (cached_node addr key node) stands here

-- where it is not wanted nothing fits
pub nothing_else : (pages : List (List ℕ)) (want : Want) (key : List ℕ) (node : NodeBody) → want.addr < 2 ^ 64 → IsOfPage pages (cached_node want.addr key node) → ¬ (NodeFits want key node) → NothingFits pages want key
nothing_else pages want key node small page misfit = λ value fits.
    let same : value ≡ NodeRecord node.level node.entries.items = one_record pages want.addr key value (NodeRecord node.level node.entries.items) small fits.0 page.is in
    let fits' = subst (FitsAt pages want key) same fits in
    misfit record { version = page.version; in_range = fits'.0.in_range.0; wanted = fits'.1 }

-- what is read is among fewer places
pub caches_fewer : {S : Type 0} (P : Ghosts S) (Such Those : List (List ℕ) → List Place → Type 0) (platform : S) (old new : Cached) → ((pages : List (List ℕ)) (places : List Place) → Such pages places → Those pages places) → CachesAmong P Those platform old new
    → CachesAmong P Such platform old new
caches_fewer P Such Those platform old new such c = record {
  forgets = c.forgets;
  stands = c.stands;
  among = λ tells stands places s kept. c.among tells stands places (such (P.history platform).present.readable places s) kept;
}

-- one call after another
pub caches_then : {S : Type 0} (P : Ghosts S) (Such Those : List (List ℕ) → List Place → Type 0) (first second : S) (old mid new : Cached) → (P.tells → (P.history second).present ≡ (P.history first).present)
    → (P.tells → StandsOver (P.history first).present.readable old → (places : List Place) → Such (P.history first).present.readable places → Those (P.history first).present.readable places)
    → CachesAmong P Such first old mid → CachesAmong P Those second mid new → CachesAmong P Such first old new
caches_then P Such Those first second old mid new same such one two =
    let still : P.tells → (P.history second).present.readable ≡ (P.history first).present.readable = λ tells. ap (λ i. i.readable) (same tells) in
    let over : P.tells → StandsOver (P.history first).present.readable old → StandsOver (P.history second).present.readable mid = λ tells stands. subst (λ p. StandsOver p mid) (sym (still tells)) (one.stands tells stands) in
    record {
      forgets = forgets_then old mid new one.forgets two.forgets;
      stands = λ tells stands. subst (λ p. StandsOver p new) (still tells) (two.stands tells (over tells stands));
      among = λ tells stands places s kept. two.among tells (over tells stands) places (subst (λ p. Those p places) (sym (still tells)) (such tells stands places s)) (one.among tells stands places s kept);
    }

-- the node of a child on the medium is read
pub caches_read : {S : Type 0} (P : Ghosts S) (level high low addr : ℕ) (key : List ℕ) (c : Child) (platform : S) (old new : Cached) → c ≡ made.Kept low addr key → 1 ≤ level → ForgetsNone old new
    → (P.tells → StandsOver (P.history platform).present.readable old → StandsOver (P.history platform).present.readable new) → KeepsBut addr key old new → CachesAmong P (λ pages. HaveNodes pages (stubs level high c)) platform old new
caches_read P level high low addr key c platform old new is one forgets stands but = record {
  forgets = forgets;
  stands = stands;
  among = λ tells h places such kept. read_among places level high low addr key c old new is one such.1 but kept;
}

-- what is below it is among these places with it
pub nodes_below_read : (pages : List (List ℕ)) (places : List Place) (level high low addr : ℕ) (key : List ℕ) (want : Want) (twig : Twig) (c : Child) → want.addr ≡ addr → c ≡ made.Kept low addr key → 1 ≤ level → IsNodeOf pages want key twig
    → HaveNodes pages (stubs level high c) places → HaveNodes pages (stubs_below (level - 1) high twig) places
nodes_below_read pages places level high low addr key want twig c addr_is is one node such = (
  such.0,
  below_among pages places (level - 1) high want key twig such.0 (subst (λ a. IsAmong places a key) (sym addr_is) (kept_among places level high low addr key c is one such.1)) node,
)

-- what is named where a record was refused
pub refused_bad : (fetch : FetchRefusal) (addr : ℕ) → refused fetch ≡ ready.BadRecord addr → fetch ≡ fetches.BadRecord addr
refused_bad (fetches.BadRecord other) addr is = let same : other ≡ addr = cc in ap fetches.BadRecord same
refused_bad fetches.PlatformFault addr is = absurd cc
