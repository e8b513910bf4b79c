-- What an append of a record does.
use Rattle.std.specs.Prelude.{◌≡◌, ◌≤◌, ◌+◌, ℕ, List}
use Rattle.sdbt_base.specs.Bytes.{IsBytes}
use Rattle.sdbt_base.specs.Keys.{bare, IsKeyOf}
use Rattle.sdbt_base.specs.Told.{Drew}
use Rattle.sdbt_base.specs.declared.tapes.Tape.{Ghosts as TapeGhosts}
use Rattle.platform.specs.Image.{with_page, MayHavePage}
use Rattle.platform.specs.History.{Steps}
use Rattle.platform.specs.Calls.{Grows}
use Rattle.platform.specs.declared.platforms.Platform.{Ghosts as PlatformGhosts}
use Rattle.seal_record.specs.Sealing.{masked}
use Rattle.page_digest.specs.Digest.{FitsDigest}
use Rattle.page_store.specs.declared.appending.Placed.{Placed}

-- the body was sealed under a key that was drawn for it, and its page handed over at the head. In version 2 the digest of this page stands
-- behind the key
pub record IsPlaced {S R : Type 0} (P : PlatformGhosts S) (T : TapeGhosts R) (version : ℕ) (body : List ℕ) (platform platform_now : S) (tape tape_now : R) (placed : Placed) : Type 0 where
  pub address : placed.addr ≡ P.head platform
  pub key : IsKeyOf version placed.key
  pub drew : Drew (T.drawn tape) (bare placed.key) (T.drawn tape_now)
  pub digested : FitsDigest placed.key (masked placed.key body)
  pub image : P.tells → (P.history platform_now).present ≡ with_page (P.history platform).present (masked placed.key body) (masked placed.key body)
  pub head : P.head platform_now ≡ P.head platform + 1

-- a key was drawn for the body, and the page that it is sealed to may have been handed over
pub record MayBePlaced {S R : Type 0} (P : PlatformGhosts S) (T : TapeGhosts R) (body : List ℕ) (platform platform_now : S) (tape tape_now : R) : Type 0 where
  pub key : List ℕ
  pub size : IsBytes 32 key
  pub drew : Drew (T.drawn tape) key (T.drawn tape_now)
  pub image : P.tells → MayHavePage (P.history platform).present (masked key body) (P.history platform_now).present

-- beside its purpose a call adds one page at most, in one step: the cell stays, no page is read, nothing is synced, and counts of faults don't fall
pub record AddsOne {S R : Type 0} (P : PlatformGhosts S) (T : TapeGhosts R) (platform platform_now : S) (tape tape_now : R) : Type 0 where
  pub cell : P.tells → (P.history platform_now).present.cell ≡ (P.history platform).present.cell
  pub time : P.tells → Steps (P.history platform) (P.history platform_now)
  pub grows : Grows P platform platform_now
  pub reads : P.tells → P.reads platform_now ≡ P.reads platform
  pub page_reads : P.tells → P.page_reads platform_now ≡ P.page_reads platform
  pub changes : P.tells → P.changes platform_now ≡ P.changes platform
  pub tape_faults : T.faults tape ≤ T.faults tape_now
