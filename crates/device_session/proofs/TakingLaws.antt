-- What a session is that goes on with the tree of a new root record.
use Rattle.std.proofs.Common.{◌≡◌, ℕ, ◌≤◌, List, [], ◌∷◌, map, length, refl, sym, ap, subst, ◌∙◌, arith, append-nil}
use Rattle.std.specs.Prelude.{Contains}
use Rattle.std.specs.FinMap.{from_entries}
use Rattle.std.proofs.lemmas.List.Elements.{All-nil}
use Rattle.sdbt_base.specs.Arrays.{Device}
use Rattle.platform.specs.Image.{Image}
use Rattle.root_codec.specs.declared.root.Root.{Root}
use Rattle.root_codec.specs.RootRecord.{FitsRoot}
use Rattle.page_store.specs.Roots.{IsRootWithin}
use Rattle.page_store.specs.Tree.{Parts, joined}
use Rattle.page_store.specs.Stands.{StandsBy}
use Rattle.btree_walk.specs.Sights.{StandsOver, IsOfPage}
use Rattle.btree_walk.specs.Among.{KeepsAmong}
use Rattle.node_cache.specs.Cached.{Cached}
use Rattle.node_cache.proofs.CacheLaws.{All-without_all}
use Rattle.grove_accounts.specs.Holding.{IsTreeOf}
use Rattle.grove_accounts.proofs.HoldingLaws.{holds_start, tree_place}
use Rattle.device_session.specs.Sessions.{Session}
use Rattle.device_session.specs.Open.{IsOpen, IsTreeFor, AreDataPages}
use Rattle.device_session.specs.Holds.{Holds}
use Rattle.device_session.specs.Finishing.{TakesUp}
use Rattle.device_session.proofs.SessionLaws.{no_own}

-- ---- a session that takes up a new tree

-- what is left of a cache whose nodes are what the pages are
pub taken_cached : (session now : Session) (cache : Cached) (root : Root) (pages : List (List ℕ)) → TakesUp session cache root now → StandsOver pages cache → StandsOver pages now.cache
taken_cached session now cache root pages taken stands =
    subst (StandsOver pages) (sym taken.cached) (All-without_all (IsOfPage pages) session.grove.gone.items cache.nodes stands)

taken_tree : (session now : Session) (cache : Cached) (root : Root) → TakesUp session cache root now → IsTreeOf now.root now.grove
taken_tree session now cache root taken = subst (λ (r : Root). IsTreeOf r now.grove) (sym taken.root_is) taken.tree

pub taken_open : (session now : Session) (cache : Cached) (root : Root) (pages : ℕ) → TakesUp session cache root now → IsRootWithin pages root → session.mapped ≤ root.blocks → IsOpen now pages
taken_open session now cache root pages taken within most =
    let served : IsRootWithin pages now.root = subst (IsRootWithin pages) (sym taken.root_is) within in
    let tree = taken_tree session now cache root taken in
    record {
      served = served;
      mapped = let blocks = ap (λ (r : Root). r.blocks) taken.root_is in omega (arith, taken.mapped, most, blocks);
      tree = subst (λ t. IsTreeFor t now.root now.grove) (sym taken.untouched) tree;
      level = omega (arith, tree.level, served.in_range.level_most);
      below = rw (tree_place now.root now.grove tree) ((omega (arith, served.in_range.addr, served.within), served.in_range.sized), tt);
    }

pub taken_pages : (session now : Session) (cache : Cached) (root : Root) → TakesUp session cache root now → FitsRoot root → AreDataPages now []
taken_pages session now cache root taken fits =
    let tree = taken_tree session now cache root taken in
    let fits_now : FitsRoot now.root = subst FitsRoot (sym taken.root_is) fits in
    record {
      named = λ s has own. absurd (no_own now fits_now.level_least tree s has own);
      unnamed = rw tree.none_never (All-nil (Contains []));
      only = λ k d inside. absurd (omega (arith, inside));
    }

-- over an image that stands by the root record it has the device's array
pub taken_holds : (session now : Session) (cache : Cached) (root : Root) (image : Image) (device : Device) (parts : Parts) → TakesUp session cache root now → StandsBy image device root parts → image.synced ≤ length image.recorded → session.mapped ≡ root.mapped → StandsOver image.readable now.cache → KeepsAmong parts.places now.cache
    → Holds now image device device.contents
taken_holds session now cache root image device parts taken stands synced count cached among =
    let by_now : StandsBy image device now.root parts = subst (λ (r : Root). StandsBy image device r parts) (sym taken.root_is) stands in
    let all : (joined (parts ∷ [])).mapped ≡ parts.mapped = append-nil parts.mapped in
    record {
      committed = parts;
      stands = by_now;
      each = parts ∷ [];
      tree = holds_start image device now.root parts now.grove by_now synced (taken_tree session now cache root taken);
      contents_are = stands.contents ∙ ap (λ ms. from_entries (map (λ m. (m.block, m.content)) ms)) (sym all);
      count = taken.mapped ∙ count ∙ sym stands.count ∙ ap length (sym all);
      untouched = λ is. refl;
      left = λ is. absurd (cc (is, taken.untouched));
      cached = cached;
      among = among;
    }
