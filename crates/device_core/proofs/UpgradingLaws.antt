-- The calls of an upgrade, one after another.
use Rattle.std.proofs.Common.{◌≡◌, ◌∙◌, sym, subst, ℕ, List, Some, length, map}
use Rattle.std.specs.Prelude.{Option}
use Rattle.platform.specs.Image.{Image, with_cell, all_synced}
use Rattle.platform.specs.History.{History, CellStays, Turns}
use Rattle.platform.specs.declared.platforms.Platform.{Ghosts as PlatformGhosts}
use Rattle.node_codec.specs.declared.body.Entry.{Entry}
use Rattle.root_codec.specs.declared.root.Root.{Root}
use Rattle.root_codec.specs.RootRecord.{root_bytes}
use Rattle.page_store.specs.Keeping.{KeepsKeys}
use Rattle.page_store.specs.Reading.{ReadsCell}
use Rattle.page_store.specs.Stands.{IsSound}
use Rattle.btree_walk.specs.Looks.{OnlyLooks}
use Rattle.btree_walk.specs.Nodes.{Node, NodesOf, listed}
use Rattle.device_terms.proofs.MomentLaws.{one_look, look_more}
use Rattle.device_core.specs.Preparing.{IsPrepared}
use Rattle.device_core.specs.Rewriting.{Rewrites}
use Rattle.device_core.specs.Upgrading.{Begins}
use Rattle.device_core.specs.UpgradeCalls.{IsSurveyed, IsUpgrading}
use Rattle.device_core.specs.declared.preparing.Prepared.{Prepared}
use Rattle.device_core.proofs.UpgradeCauseLaws.{Looked}
use Rattle.device_core.proofs.UpgradeLaws.{KeepsSound, looks_keep, then_keeps}

-- a look at the cell, and then looks at pages
pub looked_pages : {S : Type 0} (P : PlatformGhosts S) (platform began now : S) → ReadsCell P platform began → OnlyLooks P began now → Looked P platform now
looked_pages P platform began now reads looks = record {
  head = looks.head ∙ reads.head;
  image = λ told. looks.image told ∙ reads.image told;
  still = λ told. look_more (P.history platform) (P.history began) (P.history now) (one_look (P.history platform) (P.history began) (reads.time told) (reads.image told)) (looks.time told) (looks.image told);
  changes = λ told. looks.changes told ∙ reads.changes told;
}

pub surveyed : {S : Type 0} (P : PlatformGhosts S) (pages : P.tells → (p : S) → length (P.history p).present.recorded ≡ P.head p) (platform began looked : S) (root : Root) (prepared : Prepared)
    → Begins P.tells (P.history platform).present (P.head platform) (P.capacity platform) root → ReadsCell P platform began → OnlyLooks P began looked
    → (is : IsPrepared P.tells (P.history began).present.readable (P.head began) root prepared)
    → IsSurveyed P.tells (P.history platform) (P.history looked) (P.head platform) root prepared.items.items is.addrs
surveyed P pages platform began looked root prepared begins reads looks is =
    let seen = looked_pages P platform began looked reads looks in
    record {
      within = begins.on.within;
      version = begins.version;
      count = is.has.listing.0;
      time = seen.still;
      same = seen.image;
      cell = begins.on.cell;
      pages = λ told. pages told platform;
      listed_are = λ told. subst (λ (i : Image). (nodes : List Node) × NodesOf i.readable root nodes × (prepared.items.items ≡ listed nodes)) (reads.image told) (is.of.listed_are told);
      addrs_are = λ told. subst (λ (i : Image). (nodes : List Node) × NodesOf i.readable root nodes × (is.addrs ≡ map (λ (n : Node). n.addr) nodes)) (reads.image told) (is.of.addrs_are told);
    }

-- where the new tree was made, from so many pages on
pub upgrading : {S : Type 0} (P : PlatformGhosts S) (pages : P.tells → (p : S) → length (P.history p).present.recorded ≡ P.head p) (platform looked made now : S) (root next : Root) (list items : List Entry) (addrs : List ℕ)
    → IsSurveyed P.tells (P.history platform) (P.history looked) (P.head platform) root list addrs
    → (r : Rewrites P.tells (P.history looked) (P.history made) (P.head platform) (P.head made) root list items next)
    → P.head now ≡ P.head made
    → (P.tells → Turns (P.history made) (P.history now) (λ image. image.cell ≡ (P.history made).present.cell) (λ image. image ≡ with_cell (all_synced (P.history made).present) (Some (root_bytes next))))
    → IsUpgrading P.tells (P.history platform) (P.history looked) r.copied (P.history made) (P.history now) (P.head platform) root next list r.named items addrs
upgrading P pages platform looked made now root next list items addrs survey r same turns = record {
  survey = survey;
  copy = r.copy;
  build = r.build;
  build_time = r.build_time;
  size = λ told. pages told made ∙ r.head_is;
  next_is = r.next_is;
  over = r.over;
  stays = λ told. pages told now ∙ (same ∙ sym (pages told made));
  turns = turns;
}

-- what is kept until the root record is replaced
pub rewrite_keeps : (tells : Type 0) (drawn drawn_now : Option (List (List ℕ))) (old looked made : History) (Done : List (List ℕ) → Type 0) → (tells → CellStays old looked) → (tells → looked.present ≡ old.present)
    → KeepsKeys tells drawn drawn_now looked made (λ keys. IsSound looked.present) Done → (tells → CellStays looked made) → KeepsSound tells drawn drawn_now old made Done
rewrite_keeps tells drawn drawn_now old looked made Done still same keeps stays =
    then_keeps tells drawn drawn drawn_now old looked made (λ keys. Unit {0}) (λ keys. IsSound looked.present) Done (looks_keep tells drawn old looked still same) keeps stays (λ told keys sound done. sound)
