-- Which keys the lines of a run drew.
use Rattle.std.specs.Prelude.{◌≡◌, ◌⊎◌, ℕ, List, [], ◌∷◌, length}
use Rattle.page_store.specs.Keeping.{DrewAll}
use Rattle.device_course.specs.States.{Outside}
use Rattle.volume_lines.specs.Grammar.{IsBad, Spells}
use Rattle.volume_lines.specs.Lines.{Line}
use Rattle.volume_lines.specs.Replies.{Reply}
use Rattle.volume_desk.specs.Causes.{Draws}
use Rattle.volume_desk.specs.Drawing.{AreDrawnFor, Seals, Tally, tally}
use Rattle.volume_serving.specs.Tabled.{IfNext}

-- the keys and the pages that there are
abbrev pub tally_of : Outside → Tally
tally_of here = tally here.drawn here.head

-- a line with this reply drew so many keys: none outside the grammar
abbrev pub AreDrawnAt : List ℕ → Reply → ℕ → Type 0
AreDrawnAt line reply many = ((it : Line) × Spells line it × AreDrawnFor it reply many) ⊎ (IsBad line × (many ≡ 0))

-- the keys drawn now are those drawn before, and those that the lines with these replies drew, in turn, and as many pages were added
abbrev pub DrewOn : Tally → List (List ℕ) → List Reply → Tally → Type 0
DrewOn from lines [] now = now ≡ from
DrewOn from [] (reply ∷ replies) now = ⊥
DrewOn from (line ∷ lines) (reply ∷ replies) now = (keys : List (List ℕ)) × AreDrawnAt line reply (length keys) × (mid : Tally) × Seals from keys mid × DrewOn mid lines replies now

-- the line draws keys
abbrev pub IsOfDrawn : List ℕ → Type 0
IsOfDrawn line = (it : Line) × Spells line it × Draws it

-- and perhaps some that the line in hand drew, which draws keys, and at which the run was stopped
pub record DrewUntil (from : Tally) (lines : List (List ℕ)) (replies : List Reply) (now : Tally) : Type 0 where
  pub mid : Tally
  pub on : DrewOn from lines replies mid
  pub more : (now ≡ mid) ⊎ (IfNext replies lines IsOfDrawn × (keys : List (List ℕ)) × DrewAll mid.drawn keys now.drawn)
