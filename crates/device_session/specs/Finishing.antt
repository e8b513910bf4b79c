-- What the steps of a commit say that follow the sealing of its tree.
use Rattle.std.specs.Prelude.{◌≡◌, ◌⊎◌, ℕ, false, List, [], Option, Some, Result, Ok, Err}
use Rattle.sdbt_base.specs.Counts.{Counts, PlatformRose, LedgerRose}
use Rattle.sdbt_base.specs.Told.{Got, GotPart}
use Rattle.platform.specs.History.{History, CellStays}
use Rattle.root_codec.specs.declared.root.Root.{Root}
use Rattle.root_codec.specs.RootRecord.{root_bytes}
use Rattle.node_cache.specs.Cached.{Cached, forgotten}
use Rattle.btree_walk.specs.Readers.{IsWiped}
use Rattle.btree_update.specs.declared.groves.Grove.{Grove}
use Rattle.grove_accounts.specs.Holding.{IsTreeOf}
use Rattle.device_session.specs.declared.refusals.CommitFault.{CommitFault}
use Rattle.device_session.specs.declared.refusals.CommitFault.TheVariants as commit
use Rattle.device_session.specs.Sessions.{Session}

-- a line was put before the root record was replaced: all of it where the call was done or that root record came into the cell; and else, with the
-- cell as it was at each moment, all or a first part
abbrev pub PutsLine : Type 0 → Option (List ℕ) → Option (List ℕ) → History → History → List ℕ → Root → Type 0 → Type 0
PutsLine tells written written_now old new line root Done =
    (Got written line written_now × (tells → (new.present.cell ≡ Some (root_bytes root)) ⊎ (CellStays old new × (Done → ⊥))))
    ⊎ (GotPart written line written_now × (tells → CellStays old new) × (Done → ⊥))

-- a root record was published and nothing failed; or it was not since the platform failed, or the ledger, and what is `Still` holds then
abbrev pub IsPublishCause : {T : Type 0} → Type 0 → Counts → Counts → Result T CommitFault → Type 0
IsPublishCause Still before now (Ok done) = now ≡ before
IsPublishCause Still before now (Err commit.PlatformFault) = PlatformRose before now
IsPublishCause Still before now (Err commit.LedgerFault) = LedgerRose before now × Still
IsPublishCause Still before now (Err commit.TapeFault) = ⊥
IsPublishCause Still before now (Err commit.Memory) = ⊥

-- no node is held beside a tree
abbrev pub HoldsNone : Grove → Type 0
HoldsNone grove = (grove.held.items ≡ []) × (grove.beside.items ≡ []) × (grove.spares.items ≡ [])

-- a session goes on with the tree of a root record: no node is in memory then or held, its cache is this one without the nodes that are gone, and nothing
-- of what was read or sealed is left
pub record TakesUp (session : Session) (cache : Cached) (root : Root) (now : Session) : Type 0 where
  pub root_is : now.root ≡ root
  pub mapped : now.mapped ≡ session.mapped
  pub untouched : now.is_touched ≡ false
  pub tree : IsTreeOf root now.grove
  pub none_held : HoldsNone now.grove
  pub cached : now.cache ≡ forgotten session.grove.gone.items cache
  pub wiped : IsWiped now.buffers now.node
