-- What a write and a trim make of a session's array, and of what is beside the session.
use Rattle.std.specs.Prelude.{◌≡◌, ◌≤◌, ◌+◌, ◌++◌, ◌∷◌, [], ◌||◌, ℕ, Bool, List, Result, Ok, Err, OnOk, OnErr}
use Rattle.std.specs.FinMap as map
use Rattle.sdbt_base.specs.Arrays.{Device, Blocks}
use Rattle.sdbt_base.specs.declared.lists.Unkept.{Unkept}
use Rattle.sdbt_base.specs.declared.tapes.Tape.{Ghosts as TapeGhosts}
use Rattle.platform.specs.declared.platforms.Platform.{Ghosts as PlatformGhosts}
use Rattle.platform.specs.Calls.{Grows}
use Rattle.platform.specs.History.{CellStays}
use Rattle.platform.specs.Image.{Image}
use Rattle.btree_twigs.specs.Stubs.{Stub}
use Rattle.device_terms.specs.Effects.{AddsNothing}
use Rattle.device_session.specs.declared.refusals.WriteRefusal.{WriteRefusal}
use Rattle.device_session.specs.declared.refusals.WriteRefusal.TheVariants as write
use Rattle.device_session.specs.declared.refusals.TrimRefusal.{TrimRefusal}
use Rattle.device_session.specs.declared.refusals.TrimRefusal.TheVariants as trim
use Rattle.device_session.specs.Drawing.{NamesPage}
use Rattle.device_session.specs.Sessions.{Session}
use Rattle.device_session.specs.Open.{AreDataPages, is_touched}
use Rattle.device_session.specs.Holds.{Holds}

-- the session has the array with the block's content; where it was refused, the array as it was, and no record is met that doesn't fit
abbrev pub WritesArray : Session → Image → Device → Blocks → ℕ → List ℕ → Result (Unit {0}) WriteRefusal → Type 0
WritesArray session image device contents block content (Ok done) = Holds session image device (map.insert contents block content)
WritesArray session image device contents block content (Err (write.BadRecord addr)) = ⊥
WritesArray session image device contents block content (Err write.Range) = Holds session image device contents
WritesArray session image device contents block content (Err write.Full) = Holds session image device contents
WritesArray session image device contents block content (Err write.Memory) = Holds session image device contents
WritesArray session image device contents block content (Err write.PlatformFault) = Holds session image device contents
WritesArray session image device contents block content (Err write.TapeFault) = Holds session image device contents

-- a write over an image where the session has an array
pub record Writes (image : Image) (device : Device) (contents : Blocks) (block addr : ℕ) (content : List ℕ) (session now : Session) (result : Result (Unit {0}) WriteRefusal) : Type 0 where
  pub array : WritesArray now image device contents block content result
  -- the page that was written is the session's, until a certificate told of it
  pub pages : (pages : List Unkept) → AreDataPages session pages → OnErr result (AreDataPages now pages)
      × OnOk result (AreDataPages now (pages ++ record { block = block; addr = addr } ∷ []))

-- the same of the array without the block; the session is touched where the block was mapped
abbrev pub TrimsArray : Session → Image → Device → Blocks → ℕ → Bool → Result (Unit {0}) TrimRefusal → Type 0
TrimsArray session image device contents block touched (Ok done) =
    Holds session image device (map.remove contents block) × (is_touched session ≡ (touched || map.contains_key contents block))
TrimsArray session image device contents block touched (Err (trim.BadRecord addr)) = ⊥
TrimsArray session image device contents block touched (Err trim.Range) = Holds session image device contents
TrimsArray session image device contents block touched (Err trim.Memory) = Holds session image device contents
TrimsArray session image device contents block touched (Err trim.PlatformFault) = Holds session image device contents

-- a trim over an image where the session has an array
pub record Trims (image : Image) (device : Device) (contents : Blocks) (block : ℕ) (session now : Session) (result : Result (Unit {0}) TrimRefusal) : Type 0 where
  pub array : TrimsArray now image device contents block (is_touched session) result
  -- the pages that the session wrote are those before, also where their blocks are mapped no more
  pub pages : (pages : List Unkept) → AreDataPages session pages → AreDataPages now pages

-- a write adds a page, which the tree names for the block with the key that was drawn; but for a fault of the platform a refusal adds nothing
abbrev pub WriteAdds : {S R : Type 0} → PlatformGhosts S → TapeGhosts R → S → S → R → R → List Stub → ℕ → Result (Unit {0}) WriteRefusal → Type 0
WriteAdds P T platform platform_now tape tape_now places block (Ok done) =
    (P.head platform_now ≡ P.head platform + 1) × NamesPage (T.drawn tape) (T.drawn tape_now) places block (P.head platform)
WriteAdds P T platform platform_now tape tape_now places block (Err write.PlatformFault) = Unit {0}
WriteAdds P T platform platform_now tape tape_now places block (Err write.Range) = AddsNothing P T platform platform_now tape tape_now
WriteAdds P T platform platform_now tape tape_now places block (Err write.Full) = AddsNothing P T platform platform_now tape tape_now
WriteAdds P T platform platform_now tape tape_now places block (Err (write.BadRecord addr)) = AddsNothing P T platform platform_now tape tape_now
WriteAdds P T platform platform_now tape tape_now places block (Err write.Memory) = AddsNothing P T platform platform_now tape tape_now
WriteAdds P T platform platform_now tape tape_now places block (Err write.TapeFault) = AddsNothing P T platform platform_now tape tape_now

-- beside its purpose a write adds a page at most and reads at most so many, the cell is as it was at each moment, nothing is synced, and counts of faults don't fall
pub record WriteGrows {S R : Type 0} (P : PlatformGhosts S) (T : TapeGhosts R) (most : ℕ) (platform platform_now : S) (tape tape_now : R) : Type 0 where
  pub time : P.tells → CellStays (P.history platform) (P.history platform_now)
  pub by_one : Grows P platform platform_now
  pub reads : P.tells → P.reads platform_now ≤ P.reads platform + most
  pub changes : P.tells → P.changes platform_now ≡ P.changes platform
  pub tape_faults : T.faults tape ≤ T.faults tape_now
