-- What getting ready for an update reads where a cache keeps the way to its block, and what the cache keeps then.
use Rattle.std.specs.Prelude.{◌≡◌, ℕ, ◌+◌, ◌-◌, ◌/◌, ◌≤◌, List, Option, Result, OnOk, Contains, take}
use Rattle.platform.specs.declared.platforms.Platform.{Ghosts}
use Rattle.node_codec.specs.declared.body.Entry.{Entry}
use Rattle.node_codec.specs.Record.{Record}
use Rattle.page_store.specs.declared.wants.Want.{Want}
use Rattle.page_store.specs.Tree.{Place}
use Rattle.node_cache.specs.declared.slots.CachedNode.{CachedNode}
use Rattle.node_cache.specs.Cached.{Cached}
use Rattle.btree_walk.specs.Sights.{CachedFits, IsOfPage, StandsOver, ForgetsNone}
use Rattle.btree_walk.specs.Among.{IsAmong, StaysAmong}
use Rattle.btree_twigs.specs.declared.twigs.Child.{Child}
use Rattle.btree_twigs.specs.declared.twigs.Twig.{Twig}
use Rattle.btree_twigs.specs.Stubs.{stubs_below}
use Rattle.btree_update.specs.Held.{OnWay}
use Rattle.btree_update.specs.Holding.{neighbours_in}
use Rattle.btree_update.specs.Finding.{FindsAmong, ChildFinds}

-- the cache keeps each node on the way to the block, from a child over children of this level on, that isn't in memory; the child's own node has so many
-- children at least
abbrev pub KeepsFromChild : List CachedNode → ℕ → ℕ → ℕ → ℕ → ℕ → Child → Type 0
KeepsFromChild kept order least block below high child = (found : Option Entry) × ChildFinds (CachedFits kept) order least block below high child found

-- the same below a node over children of this level
abbrev pub KeepsBelow : List CachedNode → ℕ → ℕ → ℕ → ℕ → Twig → Type 0
KeepsBelow kept order block level high twig = 1 ≤ level → OnWay block (λ end c. KeepsFromChild kept order (order / 2) block (level - 1) end c) high twig

-- for each address these places have one key
abbrev pub HaveOneKey : List Place → Type 0
HaveOneKey places = (addr : ℕ) (key other : List ℕ) → IsAmong places addr key → IsAmong places addr other → key ≡ other

-- the cache keeps a node that is wanted at the place, which is one of these
abbrev pub FitsAmong : List Place → List CachedNode → Want → List ℕ → Record → Type 0
FitsAmong places kept want key value = CachedFits kept want key value × IsAmong places want.addr key

-- the cache keeps each node on the way to the block, from a child on, at one of these places
abbrev pub FillsFromChild : List Place → List CachedNode → ℕ → ℕ → ℕ → ℕ → ℕ → Child → Type 0
FillsFromChild places kept order least block below high child = (found : Option Entry) × ChildFinds (FitsAmong places kept) order least block below high child found

-- the same below a node
abbrev pub FillsBelow : List Place → List CachedNode → ℕ → ℕ → ℕ → ℕ → Twig → Type 0
FillsBelow places kept order block level high twig = (found : Option Entry) × FindsAmong (FitsAmong places kept) order block (stubs_below level high twig) found

-- of the nodes at these places that are what their pages are, those among the first few are among the first ones still, behind at most so many more, where there
-- is room for all
abbrev pub StayEarly : List (List ℕ) → List Place → ℕ → Cached → Cached → Type 0
StayEarly pages places more old new = (few : ℕ) (k : CachedNode) → IsAmong places k.addr k.key → IsOfPage pages k → few + more ≤ old.capacity → Contains (take few old.nodes) k → Contains (take (few + more) new.nodes) k

-- once a call is done, this is so of the pages and of such places that have one key for each address, where each node that was cached was what its page is
abbrev pub OnceDone : {S T E : Type 0} → (P : Ghosts S) → (List (List ℕ) → List Place → Type 0) → S → Cached → Result T E → (List (List ℕ) → List Place → Type 0) → Type 0
OnceDone P Such platform old told Is =
    P.tells → StandsOver (P.history platform).present.readable old → (places : List Place) → Such (P.history platform).present.readable places → HaveOneKey places → OnOk told (Is (P.history platform).present.readable places)

-- the cache has room for as many nodes as before, and forgets none; where each that it kept is what its page is, so is each that it keeps now, and what is new
-- are nodes of such places over the pages. Where it kept the way, no more is read than neighbours are held beside it, behind those that were held; and so many at most, also
-- before a refusal. Once the call is done, what came first in the cache comes behind so many nodes at most, and where there is room for these, the cache keeps the
-- way: if no page of such places has two keys, since a node gives way to one that is read for its address under another key
pub record CachesWay {S T E : Type 0} (P : Ghosts S) (Such : List (List ℕ) → List Place → Type 0) (Keeps : List CachedNode → Type 0) (Fills : List Place → List CachedNode → Type 0) (most room : ℕ) (platform after : S) (old new : Cached) (helpers helpers_now : List (Option Twig)) (told : Result T E) : Type 0 where
  pub forgets : ForgetsNone old new
  pub stands : P.tells → StandsOver (P.history platform).present.readable old → StandsOver (P.history platform).present.readable new
  pub among : P.tells → StandsOver (P.history platform).present.readable old → StaysAmong (Such (P.history platform).present.readable) old new
  pub warm : P.tells → Keeps old.nodes → OnOk told (P.reads after + neighbours_in helpers ≤ P.reads platform + neighbours_in helpers_now)
  pub few : P.tells → Keeps old.nodes → P.reads after ≤ P.reads platform + most
  pub early : OnceDone P Such platform old told (λ pages places. StayEarly pages places room old new)
  pub fills : OnceDone P Such platform old told (λ pages places. room ≤ old.capacity → Fills places new.nodes)
