-- What a call on a device does beside its purpose: what it discloses, draws and adds.
use Rattle.std.specs.Prelude.{◌≡◌, ◌⊎◌, ◌≤◌, ◌+◌, ℕ, List, [], ◌∷◌, ◌++◌, Option}
use Rattle.sdbt_base.specs.Keys.{bare}
use Rattle.sdbt_base.specs.declared.sinks.Sink.{Ghosts as SinkGhosts}
use Rattle.sdbt_base.specs.declared.tapes.Tape.{Ghosts as TapeGhosts}
use Rattle.platform.specs.declared.platforms.Platform.{Ghosts as PlatformGhosts}
use Rattle.platform.specs.History.{History, During, CellTurns}
use Rattle.root_codec.specs.declared.root.Root.{Root}
use Rattle.page_store.specs.Keeping.{DrewAll, KeepsKeys}
use Rattle.page_store.specs.Floors.{Forgets}
use Rattle.device_terms.specs.Served.{IsServedImage}

-- what a call discloses, whatever its answer: each page that it handed over is sealed under a key that it drew; the cell changes at most once, and
-- one that can be served is one at each moment; and over an image that is ready for the keys that it keeps, each moment keeps those with the keys
-- that were drawn, and what was deleted before stays deleted
pub record Discloses (tells : Type 0) (drawn drawn_now : Option (List (List ℕ))) (old new : History) (Ready Done : List (List ℕ) → Type 0) : Type 0 where
  pub keys : KeepsKeys tells drawn drawn_now old new Ready Done
  pub turns : tells → CellTurns old new
  pub serves : tells → IsServedImage old.present → During old new IsServedImage
  pub forgets : tells → (keys : List (List ℕ)) → Ready keys → Forgets old new

-- the root record names the last of so many pages and the key that was drawn last, without its digest, and its head
-- field is their number
pub record NamesLast (drawn drawn_now : Option (List (List ℕ))) (pages : ℕ) (root : Root) : Type 0 where
  pub earlier : List (List ℕ)
  pub drew : DrewAll drawn (earlier ++ bare root.key ∷ []) drawn_now
  pub node : root.addr + 1 ≡ pages
  pub head : root.head ≡ pages

-- nothing was handed over, synced or changed, and no key was drawn
pub record AddsNothing {S R : Type 0} (P : PlatformGhosts S) (T : TapeGhosts R) (platform platform_now : S) (tape tape_now : R) : Type 0 where
  pub head : P.head platform_now ≡ P.head platform
  pub image : P.tells → (P.history platform_now).present ≡ (P.history platform).present
  pub changes : P.tells → P.changes platform_now ≡ P.changes platform
  pub drawn : T.drawn tape_now ≡ T.drawn tape

-- nothing was synced, and the cell not changed, unless so many pages were added before
abbrev pub ChangesBehind : {S : Type 0} → PlatformGhosts S → ℕ → S → S → Type 0
ChangesBehind P added platform platform_now = P.tells → (P.changes platform_now ≡ P.changes platform) ⊎ (P.head platform_now ≡ P.head platform + added)

-- beside its purpose a call adds at most so many pages, and counts of faults don't fall
pub record GrowsBy {S R W : Type 0} (P : PlatformGhosts S) (T : TapeGhosts R) (L : SinkGhosts W) (most : ℕ) (platform platform_now : S) (tape tape_now : R) (ledger ledger_now : W) : Type 0 where
  pub rises : P.head platform ≤ P.head platform_now
  pub at_most : P.head platform_now ≤ P.head platform + most
  pub capacity : P.capacity platform_now ≡ P.capacity platform
  pub platform_faults : P.faults platform ≤ P.faults platform_now
  pub tape_faults : T.faults tape ≤ T.faults tape_now
  pub ledger_faults : L.faults ledger ≤ L.faults ledger_now
