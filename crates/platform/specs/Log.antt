-- A log of moments as data, and the history that it tells.
use Rattle.std.specs.Prelude.{◌≡◌, ◌≤◌, ℕ, List, Option, All, AllPairs, length, map, take}
use Rattle.medium_trace.specs.Trace.{Trace, IsWhole as IsTrace}
use Rattle.erasable_root.specs.Cell.{IsCell}
use Rattle.platform.specs.declared.store.Moment.{Moment}
use Rattle.platform.specs.Image.{Image}

-- what medium and cell hold now
abbrev pub image_now : Trace → Option (List ℕ) → Image
image_now trace held = record { cell = held; recorded = trace.recorded; readable = trace.readable; synced = trace.synced }

-- what they held at a moment: since then pages were only added
abbrev pub image_then : Trace → Moment → Image
image_then trace then = record {
  cell = then.cell;
  recorded = take then.pages trace.recorded;
  readable = take then.pages trace.readable;
  synced = then.synced;
}

-- a moment of this medium's past
pub record HasBeen (trace : Trace) (then : Moment) : Type 0 where
  pub cell : IsCell then.cell
  pub within : then.synced ≤ then.pages
  pub pages : then.pages ≤ length trace.recorded
  pub synced : then.synced ≤ trace.synced

-- one moment comes before another, or is the same
pub record IsBefore (earlier later : Moment) : Type 0 where
  pub pages : earlier.pages ≤ later.pages
  pub synced : earlier.synced ≤ later.synced

-- the moments of a medium and a cell, in order
pub record IsLog (trace : Trace) (held : Option (List ℕ)) (log : List Moment) : Type 0 where
  pub medium : IsTrace trace
  pub cell : IsCell held
  pub past : All (HasBeen trace) log
  pub ordered : AllPairs IsBefore log

-- a moment is the present one
pub record IsNow (trace : Trace) (held : Option (List ℕ)) (now : Moment) : Type 0 where
  pub cell : now.cell ≡ held
  pub pages : now.pages ≡ length trace.recorded
  pub synced : now.synced ≡ trace.synced

-- the images of the moments that have passed
abbrev pub past_images : Trace → List Moment → List Image
past_images trace log = map (image_then trace) log
