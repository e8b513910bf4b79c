-- What a session is from its mount on.
use Rattle.std.proofs.Common.{◌≡◌, ◌⊎◌, ℕ, zero, suc, ◌<◌, ◌≤◌, false, List, [], ◌∷◌, All, map, length, refl, sym, ap, subst, ◌∙◌, arith, append-nil}
use Rattle.std.specs.Prelude.{Contains, Some}
use Rattle.std.specs.FinMap.{from_entries}
use Rattle.std.proofs.lemmas.List.Elements.{All-nil}
use Rattle.sdbt_base.specs.Arrays.{Device}
use Rattle.sdbt_base.specs.declared.lists.Unkept.{Unkept}
use Rattle.platform.specs.declared.platforms.Platform.{Ghosts}
use Rattle.platform.specs.Image.{Image, IsWhole}
use Rattle.platform.specs.Calls.{Looks}
use Rattle.platform.proofs.CallLaws.{looks_call}
use Rattle.root_codec.specs.declared.root.Root.{Root}
use Rattle.root_codec.specs.RootRecord.{root_bytes}
use Rattle.page_store.specs.Roots.{IsRootWithin}
use Rattle.page_store.specs.Tree.{Place, Mapped, joined}
use Rattle.page_store.specs.Stands.{StandsBy, Stands}
use Rattle.page_store.specs.Kept.{IsRootOf}
use Rattle.page_store.proofs.KeptLaws.{one_root_in, root_of_stands}
use Rattle.btree_twigs.specs.Stubs.{Stub}
use Rattle.btree_twigs.specs.declared.twigs.Child.TheVariants.{Kept as KeptChild}
use Rattle.btree_walk.specs.Looks.{Looks as WalkLooks}
use Rattle.btree_walk.specs.Sights.{StandsOver, IsOfPage}
use Rattle.btree_walk.specs.Among.{IsAmong, KeepsAmong}
use Rattle.node_cache.specs.declared.slots.CachedNode.{CachedNode}
use Rattle.node_cache.specs.Cached.{Cached}
use Rattle.btree_update.specs.declared.groves.Grove.{Grove}
use Rattle.btree_update.specs.Held.{bound, AreBelow}
use Rattle.btree_update.specs.Groves.{IsSound, places_of}
use Rattle.grove_accounts.specs.Holding.{IsTreeOf, root_stub}
use Rattle.grove_accounts.specs.Certs.{IsOwnStub, page_at}
use Rattle.grove_accounts.proofs.HoldingLaws.{holds_start, tree_place}
use Rattle.device_session.specs.Sessions.{Session}
use Rattle.device_session.specs.Open.{IsOpen, IsTreeFor, AreDataPages}
use Rattle.device_session.specs.Holds.{Holds}

-- a look with so many reads at most is a look
pub walk_looks : {S : Type 0} (P : Ghosts S) (most : ℕ) (old new : S) → WalkLooks P most old new → Looks P old new
walk_looks P most old new l = looks_call P old new l.time l.image l.head l.capacity l.changes l.faults

-- ---- a mount

-- a tree of which no node is in memory is a root record's
pub bare_tree : (root : Root) (grove : Grove) → IsSound grove → (grove.order ≡ root.order) × (grove.blocks ≡ root.blocks) × (grove.head ≡ root.head) × (grove.level ≡ root.level)
    → grove.top ≡ KeptChild 0 root.addr root.key → (grove.gone.items ≡ []) × (grove.never.items ≡ []) → IsTreeOf root grove
bare_tree root grove sound size top lists = record {
  sound = sound;
  order = size.0;
  blocks = size.1;
  head = size.2;
  level = size.3;
  top = top;
  none_gone = lists.0;
  none_never = lists.1;
}

-- a session with no change on the tree of its root record
pub record IsFresh (session : Session) : Type 0 where
  pub untouched : session.is_touched ≡ false
  pub mapped : session.mapped ≡ session.root.mapped
  pub tree : IsTreeOf session.root session.grove
  pub none : session.cache.nodes ≡ []

-- a tree with no node in memory has no data record of its own
pub no_own : (session : Session) → 1 ≤ session.root.level → IsTreeOf session.root session.grove → (s : Stub) → Contains (places_of session.grove) s → IsOwnStub session.root.head s → ⊥
no_own session one tree s has own = only (subst (λ ss. Contains ss s) (tree_place session.root session.grove tree) has)
  where
    only : Contains (root_stub session.root ∷ []) s → ⊥
    only (zero, within, is) = omega (arith, ap (λ (t : Stub). t.level) is, own.level, one)
    only (suc i, within, is) = omega (arith, within)

pub fresh_pages : (session : Session) (pages : ℕ) → IsRootWithin pages session.root → IsFresh session → AreDataPages session []
fresh_pages session pages within fresh = record {
  named = λ s has own. absurd (no_own session within.in_range.level_least fresh.tree s has own);
  unnamed = subst (All (Contains [])) (sym fresh.tree.none_never) (All-nil (Contains []));
  only = All-nil (λ (page : Unkept). Contains session.grove.never.items page ⊎ ((s : Stub) × Contains (places_of session.grove) s × IsOwnStub session.root.head s × (page ≡ page_at s)));
}

pub fresh_open : (session : Session) (pages now : ℕ) → IsRootWithin pages session.root → ((head : ℕ) → session.root.addr < head → AreBelow (bound head (length session.root.key)) (places_of session.grove)) → now ≡ pages → IsFresh session → IsOpen session now
fresh_open session pages now within below same fresh = record {
  served = record { in_range = within.in_range; key = within.key; within = omega (arith, within.within, same) };
  mapped = omega (arith, fresh.mapped, within.in_range.mapped);
  tree = subst (λ t. IsTreeFor t session.root session.grove) (sym fresh.untouched) fresh.tree;
  level = omega (arith, fresh.tree.level, within.in_range.level_most);
  below = subst (λ n. AreBelow (bound now n) (places_of session.grove)) within.in_range.sized (below now (omega (arith, within.in_range.addr, within.within, same)));
}

pub none_cached : (pages : List (List ℕ)) (cache : Cached) → cache.nodes ≡ [] → StandsOver pages cache
none_cached pages cache none = subst (All (IsOfPage pages)) (sym none) (All-nil (IsOfPage pages))

pub none_among : (places : List Place) (cache : Cached) → cache.nodes ≡ [] → KeepsAmong places cache
none_among places cache none = subst (All (λ k. IsAmong places k.addr k.key)) (sym none) (All-nil (λ (k : CachedNode). IsAmong places k.addr k.key))

-- over an image that stands the session has the device's array
pub fresh_holds : (session : Session) (image : Image) (device : Device) (pages : ℕ) → IsRootWithin pages session.root → IsWhole image → image.cell ≡ Some (root_bytes session.root) → IsFresh session → Stands image (Some device) → Holds session image device device.contents
fresh_holds session image device pages within whole cell fresh (other, parts, stands) =
    let root = session.root in
    let is : IsRootOf image root = record { cell = cell; in_range = within.in_range; key = within.key } in
    let same : other ≡ root = one_root_in image image other root refl (root_of_stands image device other parts stands) is in
    let by_root = subst (λ (r : Root). StandsBy image device r parts) same stands in
    let all : (joined (parts ∷ [])).mapped ≡ parts.mapped = append-nil parts.mapped in
    record {
      committed = parts;
      stands = by_root;
      each = parts ∷ [];
      tree = holds_start image device root parts session.grove by_root whole.synced fresh.tree;
      contents_are = by_root.contents ∙ ap (λ ms. from_entries (map (λ (m : Mapped). (m.block, m.content)) ms)) (sym all);
      count = fresh.mapped ∙ sym by_root.count ∙ ap length (sym all);
      untouched = λ is. refl;
      left = λ is. absurd (cc (is, fresh.untouched));
      cached = none_cached image.readable session.cache fresh.none;
      among = none_among parts.places session.cache fresh.none;
    }
