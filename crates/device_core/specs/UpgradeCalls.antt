-- The calls of an upgrade, up to the one that replaces the root record: what each comes to.
use Rattle.std.specs.Prelude.{◌≡◌, ◌+◌, ℕ, List, [], ◌++◌, Some, length, map}
use Rattle.platform.specs.Image.{with_cell, all_synced}
use Rattle.platform.specs.History.{History, CellStays, Turns}
use Rattle.node_codec.specs.declared.body.Entry.{Entry}
use Rattle.root_codec.specs.declared.root.Root.{Root}
use Rattle.root_codec.specs.RootRecord.{root_bytes}
use Rattle.page_store.specs.Roots.{IsRootWithin}
use Rattle.key_graph.specs.Trace.{Entries}
use Rattle.btree_walk.specs.Nodes.{Node, NodesOf, listed}
use Rattle.cert_maker.specs.Cert.{Cert}
use Rattle.cert_maker.specs.CertOf.{CertOf}
use Rattle.cert_maker.specs.Differ.{Differ}
use Rattle.cert_codec.specs.Text.{entry, Fits as FitsText}
use Rattle.tree_build.specs.Nodes.{AreData, AreFrom, AreInOrder, IsRootOver, planned}
use Rattle.tree_build.specs.Building.{with_pages, Builds}
use Rattle.device_core.specs.Upgrading.{IsUpgradedRoot, order_above, needed_of_root}

-- the looks at the cell and at the nodes of its tree: the root record can be served and is of version 1, `list` is what its leaves have, of as many blocks as it says,
-- and `addrs` are the addresses of its nodes
pub record IsSurveyed (tells : Type 0) (old looked : History) (head : ℕ) (root : Root) (list : List Entry) (addrs : List ℕ) : Type 0 where
  pub within : IsRootWithin head root
  pub version : root.version ≡ 1
  pub count : length list ≡ root.mapped
  pub time : tells → CellStays old looked
  pub same : tells → looked.present ≡ old.present
  pub cell : tells → old.present.cell ≡ Some (root_bytes root)
  pub pages : tells → length old.present.recorded ≡ head
  pub listed_are : tells → (nodes : List Node) × NodesOf old.present.readable root nodes × (list ≡ listed nodes)
  pub addrs_are : tells → (nodes : List Node) × NodesOf old.present.readable root nodes × (addrs ≡ map (λ n. n.addr) nodes)

-- the data records that `list` names were appended anew, in its order and with what they have: `copies` names the new ones, one page each
pub record IsCopied (tells : Type 0) (looked copied : History) (head blocks : ℕ) (list copies : List Entry) : Type 0 where
  pub lows : map (λ e. e.low) copies ≡ map (λ e. e.low) list
  pub in_order : AreInOrder blocks copies
  pub from : AreFrom head copies
  pub time : tells → CellStays looked copied
  pub image : tells → (pages : List (List ℕ)) × (copied.present ≡ with_pages looked.present pages)
  pub contents : tells → (contents : List (List ℕ)) × AreData looked.present.readable list contents × AreData copied.present.readable copies contents

-- the calls of an upgrade: looks, the copying of the data records, the making of the nodes over them, and the publishing of the root record that names the
-- last of these
pub record IsUpgrading (tells : Type 0) (old looked copied mid new : History) (head : ℕ) (root next : Root) (list copies items : List Entry) (addrs : List ℕ) : Type 0 where
  pub survey : IsSurveyed tells old looked head root list addrs
  pub copy : IsCopied tells looked copied head root.blocks list copies
  pub build : Builds tells (order_above root.order) (head + length copies) (head + needed_of_root root) copied.present mid.present copies items
  pub build_time : tells → CellStays copied mid
  pub size : tells → length mid.present.recorded ≡ head + needed_of_root root
  pub next_is : IsUpgradedRoot root (head + needed_of_root root) next
  pub over : IsRootOver (order_above root.order) root.blocks copies build.nodes next
  pub stays : tells → length new.present.recorded ≡ length mid.present.recorded
  pub turns : tells → Turns mid new (λ image. image.cell ≡ mid.present.cell) (λ image. image ≡ with_cell (all_synced mid.present) (Some (root_bytes next)))

-- the bytes are the entry of the certificate of an upgrade that begins behind so many pages: it adds what is planned, and lets go of all that the tree has
pub record IsUpgradeEntry (root : Root) (head : ℕ) (list : List Entry) (addrs : List ℕ) (line : List ℕ) : Type 0 where
  pub cert : Cert
  pub in_text : FitsText cert
  pub is : line ≡ entry cert
  pub commit : cert.commit ≡ root.commit + 1
  pub begins : cert.base ≡ root.head
  pub ends : cert.head ≡ head + needed_of_root root
  pub node : cert.root + 1 ≡ head + needed_of_root root
  pub trees : (old new : Entries) → Differ old new [] (planned (order_above root.order) head (map (λ e. e.low) list)) (addrs ++ map (λ e. e.addr) list) []
      → CertOf old new cert.commit cert.root cert.base cert.head [] cert
