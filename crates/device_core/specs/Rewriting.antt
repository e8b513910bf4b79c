-- What the making of the new tree of an upgrade comes to.
use Rattle.std.specs.Prelude.{◌≡◌, ◌+◌, ℕ, List, Result, Ok, Err, length}
use Rattle.sdbt_base.specs.Faults.{Rose}
use Rattle.sdbt_base.specs.declared.tapes.Tape.{Ghosts as TapeGhosts}
use Rattle.platform.specs.History.{History, CellStays}
use Rattle.platform.specs.declared.platforms.Platform.{Ghosts as PlatformGhosts}
use Rattle.node_codec.specs.declared.body.Entry.{Entry}
use Rattle.root_codec.specs.declared.root.Root.{Root}
use Rattle.page_store.specs.declared.refusals.AppendFault.{AppendFault}
use Rattle.page_store.specs.declared.refusals.AppendFault.TheVariants as appends
use Rattle.tree_build.specs.Nodes.{IsRootOver}
use Rattle.tree_build.specs.Building.{Builds}
use Rattle.device_core.specs.Copying.{StopsAt}
use Rattle.device_core.specs.Upgrading.{IsUpgradedRoot, order_above, needed_of_root}
use Rattle.device_core.specs.UpgradeCalls.{IsCopied}
use Rattle.device_core.specs.declared.copying.CopyRefusal.{CopyRefusal}
use Rattle.device_core.specs.declared.copying.CopyRefusal.TheVariants as copies
use Rattle.device_core.specs.declared.publishing.PublishFault.{PublishFault}
use Rattle.device_core.specs.declared.publishing.PublishFault.TheVariants as publish
use Rattle.device_core.specs.declared.refusals.UpgradeRefusal.{UpgradeRefusal}
use Rattle.device_core.specs.declared.refusals.UpgradeRefusal.TheVariants as upgrade

-- why there is no upgrade where a record was not copied, a node not made, or a root record not published
abbrev pub uncopied : CopyRefusal → UpgradeRefusal
uncopied (copies.BadRecord addr) = upgrade.BadRecord addr
uncopied copies.TapeFault = upgrade.TapeFault
uncopied copies.PlatformFault = upgrade.PlatformFault

abbrev pub unbuilt : AppendFault → UpgradeRefusal
unbuilt appends.TapeFault = upgrade.TapeFault
unbuilt appends.PlatformFault = upgrade.PlatformFault

abbrev pub unpublished : PublishFault → UpgradeRefusal
unpublished publish.Ledger = upgrade.LedgerFault
unpublished publish.Platform = upgrade.PlatformFault

-- the data records of these entries were copied, and then the nodes over the copies made, of which the next root record names the last
pub record Rewrites (tells : Type 0) (old new : History) (head head_now : ℕ) (root : Root) (list items : List Entry) (next : Root) : Type 0 where
  pub named : List Entry
  pub copied : History
  pub copy : IsCopied tells old copied head root.blocks list named
  pub build : Builds tells (order_above root.order) (head + length named) (head + needed_of_root root) copied.present new.present named items
  pub build_time : tells → CellStays copied new
  pub head_is : head_now ≡ head + needed_of_root root
  pub next_is : IsUpgradedRoot root (head + needed_of_root root) next
  pub over : IsRootOver (order_above root.order) root.blocks named build.nodes next

-- a new tree was made, or a data record is named that doesn't fit, or the tape failed, or the platform
abbrev pub IsRewriteCause : {S R A : Type 0} → PlatformGhosts S → TapeGhosts R → S → S → R → R → List Entry → Result A UpgradeRefusal → Type 0
IsRewriteCause P T platform platform_now tape tape_now list (Ok next) = (P.faults platform_now ≡ P.faults platform) × (T.faults tape_now ≡ T.faults tape)
IsRewriteCause P T platform platform_now tape tape_now list (Err (upgrade.BadRecord addr)) =
    (P.tells → StopsAt (P.history platform).present.readable addr list) × (P.faults platform_now ≡ P.faults platform) × (T.faults tape_now ≡ T.faults tape)
IsRewriteCause P T platform platform_now tape tape_now list (Err upgrade.TapeFault) = Rose (T.faults tape) (T.faults tape_now) × (P.faults platform_now ≡ P.faults platform)
IsRewriteCause P T platform platform_now tape tape_now list (Err upgrade.PlatformFault) = Rose (P.faults platform) (P.faults platform_now) × (T.faults tape_now ≡ T.faults tape)
IsRewriteCause P T platform platform_now tape tape_now list (Err other) = ⊥
