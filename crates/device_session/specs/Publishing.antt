-- What a commit says: how it makes a session's changes the device's.
use Rattle.std.specs.Prelude.{◌≡◌, ◌≢◌, ◌+◌, ℕ, false, [], List, Some, Result, Ok, Err, IfOk, OnOk, IfErr, IsOk, All, length}
use Rattle.sdbt_base.specs.Counts.{Counts, counts, PlatformRose, TapeRose, LedgerRose}
use Rattle.sdbt_base.specs.Arrays.{Device, Blocks, committed_with}
use Rattle.sdbt_base.specs.declared.sinks.Sink.{Ghosts as SinkGhosts}
use Rattle.sdbt_base.specs.declared.tapes.Tape.{Ghosts as TapeGhosts}
use Rattle.platform.specs.declared.platforms.Platform.{Ghosts as PlatformGhosts}
use Rattle.sdbt_base.specs.Rises.{MayRiseBy}
use Rattle.platform.specs.Image.{LeavesOnly}
use Rattle.platform.specs.History.{Turns, CellStays}
use Rattle.root_codec.specs.RootRecord.{root_bytes}
use Rattle.page_store.specs.Keeping.{DrewAll}
use Rattle.page_store.specs.Stands.{Stands}
use Rattle.page_store.specs.Tree.{Parts, Tree}
use Rattle.btree_walk.specs.Among.{IsAmong, KeepsAmong}
use Rattle.btree_walk.specs.Readers.{IsWiped}
use Rattle.btree_update.specs.Groves.{places_of}
use Rattle.grove_accounts.specs.Holding.{IsTreeOf}
use Rattle.node_cache.specs.Cached.{Cached, forgotten}
use Rattle.shadow_commit.specs.Sealed.{Sealed}
use Rattle.shadow_commit.specs.Caching.{with_sealed}
use Rattle.shadow_commit.specs.NewTree.{AreFrom}
use Rattle.device_session.specs.declared.refusals.CommitReply.{CommitReply}
use Rattle.device_session.specs.declared.refusals.CommitReply.TheVariants.{Committed, Full}
use Rattle.device_session.specs.declared.refusals.CommitFault.{CommitFault}
use Rattle.device_session.specs.declared.refusals.CommitFault.TheVariants as commit
use Rattle.device_terms.specs.Certifying.{Certifies, PutsSynced}
use Rattle.device_terms.specs.Effects.{ChangesBehind, Discloses, AddsNothing, GrowsBy, NamesLast}
use Rattle.device_session.specs.Certifying.{IsOfCommit}
use Rattle.device_session.specs.Holds.{Holds}
use Rattle.device_session.specs.Finishing.{HoldsNone}
use Rattle.device_session.specs.Keys.{HoldsListed}
use Rattle.device_session.specs.Open.{IsOpen, AreDataPages, blocks_of, number_of, root_of, is_touched, needed_by}
use Rattle.device_session.specs.Replies.{device_after}
use Rattle.device_session.specs.Sessions.{Session}

-- the keys that a session has in its fields are of places of its root record's tree: the root's, those that its own tree names on the medium, and those of
-- the nodes in its cache; it holds no other node
pub record HasTreeKeys (session : Session) (pages : List (List ℕ)) : Type 0 where
  pub parts : Parts
  pub tree : Tree pages session.root parts
  pub root : IsAmong parts.places session.root.addr session.root.key
  pub named : All (λ s. IsAmong parts.places s.addr s.key) (places_of session.grove)
  pub none_held : HoldsNone session.grove
  pub cached : KeepsAmong parts.places session.cache

-- a cache has what it had but for nodes that are gone, and so many new nodes as the most recent ones, in their order at the addresses from this one on
pub record Recaches (head count : ℕ) (gone : List ℕ) (old new : Cached) : Type 0 where
  pub nodes : List Sealed
  pub from : AreFrom head nodes
  pub many : length nodes ≡ count
  pub is : new ≡ forgotten gone (with_sealed (forgotten gone old) nodes)

-- a commit that raised the number: as many pages were added, and as many keys drawn, as there were nodes in memory, no page was read, and the root record in the cell names the last of them with
-- the key that was drawn last, and says how many blocks the session counts; the session has no data pages that weren't told of, and its tree is the new one, with no node in memory. Its cache
-- has what it had but for the nodes that are gone, none of which is left, and the new tree's nodes that were in memory; nothing of what was read or sealed is left in its buffers, and no entry in the room of
-- the node that was read last; and where it had an array, each key in its fields is of the new tree
pub record HasRaised {S R : Type 0} (P : PlatformGhosts S) (T : TapeGhosts R) (platform platform_now : S) (tape tape_now : R) (session now : Session) (reply : CommitReply) : Type 0 where
  pub replied : reply ≡ Committed (number_of session + 1)
  pub number : number_of now ≡ number_of session + 1
  pub untouched : is_touched now ≡ false
  pub counted : now.root.mapped ≡ session.mapped
  pub pages : AreDataPages now []
  pub tree : IsTreeOf now.root now.grove
  pub wiped : IsWiped now.buffers now.node
  pub cached : Recaches (P.head platform) (needed_by session) session.grove.gone.items session.cache now.cache
  pub forgot : All (λ addr. All (λ node. node.addr ≢ addr) now.cache.nodes) session.grove.gone.items
  pub head : P.head platform_now ≡ P.head platform + needed_by session
  pub drew : (keys : List (List ℕ)) × (length keys ≡ needed_by session) × DrewAll (T.drawn tape) keys (T.drawn tape_now)
  pub reads : P.tells → P.reads platform_now ≡ P.reads platform
  pub names : NamesLast (T.drawn tape) (T.drawn tape_now) (P.head platform_now) (root_of now)
  pub cell : P.tells → (P.history platform_now).present.cell ≡ Some (root_bytes (root_of now))
  pub keys : P.tells → (device : Device) (contents : Blocks) → Holds session (P.history platform).present device contents → HasTreeKeys now (P.history platform_now).present.readable

-- so often a commit syncs and replaces the root record, at most: not at all where it is refused before its sync, and where the ledger failed it has only synced
abbrev pub most_commit : Result CommitReply CommitFault → ℕ
most_commit (Ok (Committed number)) = 2
most_commit (Ok (Full needed free)) = 0
most_commit (Err commit.Memory) = 0
most_commit (Err commit.TapeFault) = 0
most_commit (Err commit.LedgerFault) = 1
most_commit (Err commit.PlatformFault) = 2

-- a commit fails where the platform, the tape or the ledger failed, and no other of them, or no memory was given, for which nothing was handed over and none
-- failed. But for a fault of the platform the cell is as it was at each moment; and where no key was drawn, or no memory given, the ledger is as it was
abbrev pub IsCommitCause : {S R W : Type 0} → PlatformGhosts S → TapeGhosts R → S → S → R → R → W → W → Counts → Counts → CommitFault → Type 0
IsCommitCause P T platform platform_now tape tape_now ledger ledger_now before now commit.PlatformFault = PlatformRose before now
IsCommitCause P T platform platform_now tape tape_now ledger ledger_now before now commit.TapeFault =
    TapeRose before now × (P.tells → CellStays (P.history platform) (P.history platform_now)) × (ledger_now ≡ ledger)
IsCommitCause P T platform platform_now tape tape_now ledger ledger_now before now commit.LedgerFault =
    LedgerRose before now × (P.tells → CellStays (P.history platform) (P.history platform_now))
IsCommitCause P T platform platform_now tape tape_now ledger ledger_now before now commit.Memory =
    AddsNothing P T platform platform_now tape tape_now × (P.tells → CellStays (P.history platform) (P.history platform_now)) × (now ≡ before) × (ledger_now ≡ ledger)

-- the counts of faults of what a commit is handed
abbrev pub commit_counts : {S R W : Type 0} → PlatformGhosts S → TapeGhosts R → SinkGhosts W → S → R → W → Counts
commit_counts P T L platform tape ledger = counts (P.faults platform) (T.faults tape) 0 0 (L.faults ledger)

-- a commit, whatever its answer: a session that goes on has its array still, and is open on the device that the answer tells of
pub record Commits {S R W : Type 0} (P : PlatformGhosts S) (T : TapeGhosts R) (L : SinkGhosts W) (platform platform_now : S) (tape tape_now : R) (ledger ledger_now : W) (session now : Session) (result : Result CommitReply CommitFault) : Type 0 where
  pub array : P.tells → (device : Device) (contents : Blocks) → Holds session (P.history platform).present device contents
      → IfOk result (λ reply. Holds now (P.history platform_now).present (device_after reply device contents) contents)
  pub goes_on : OnOk result (IsOpen now (P.head platform_now) × (blocks_of now ≡ blocks_of session) × (now.mapped ≡ session.mapped) × (now.cache.capacity ≡ session.cache.capacity))
  -- at each moment a loss of power leaves the device, until one from which on it leaves the one with the session's array
  pub time : P.tells → (device : Device) (contents : Blocks) → Holds session (P.history platform).present device contents
      → Turns (P.history platform) (P.history platform_now) (LeavesOnly (λ left. Stands left (Some device)))
      (LeavesOnly (λ left. Stands left (Some (committed_with device contents))))
  pub discloses : Discloses P.tells (T.drawn tape) (T.drawn tape_now) (P.history platform) (P.history platform_now)
      (HoldsListed session (P.history platform).present) (λ keys. OnOk result (HoldsListed now (P.history platform_now).present keys))
  pub certifies : Certifies P.tells (L.written ledger) (L.written ledger_now) (P.history platform) (P.history platform_now)
      session.root.head (number_of session + 1) (IsOfCommit session (P.history platform).present (P.history platform_now).present) (IsOk result)
  -- each node in memory has its page, and all pages outlast a loss of power, before the ledger gets anything
  pub synced : PutsSynced P (needed_by session) platform platform_now ledger ledger_now
  pub cause : IfErr result (IsCommitCause P T platform platform_now tape tape_now ledger ledger_now (commit_counts P T L platform tape ledger) (commit_counts P T L platform_now tape_now ledger_now))
  pub quiet : OnOk result (commit_counts P T L platform_now tape_now ledger_now ≡ commit_counts P T L platform tape ledger)
  pub grows : GrowsBy P T L (needed_by session) platform platform_now tape tape_now ledger ledger_now
  -- no page is read, and the cell isn't looked at
  pub unread : P.tells → P.reads platform_now ≡ P.reads platform
  -- it syncs once and replaces the root record once, at most, neither where it is refused before, and not before each node in memory has its page
  pub changes : P.tells → MayRiseBy (most_commit result) (P.changes platform) (P.changes platform_now)
  pub behind : ChangesBehind P (needed_by session) platform platform_now
