-- Which keys the lines of a script draw.
use Rattle.std.specs.Prelude.{◌≡◌, ◌⊎◌, ℕ, List, [], ◌∷◌, Option, Result, IfOk, length}
use Rattle.page_store.specs.Keeping.{DrewAll}
use Rattle.script_lang.specs.Grammar.{IsBad}
use Rattle.script_lang.specs.Commands.{Command}
use Rattle.script_lang.specs.Commands as commands
use Rattle.script_lang.specs.Replies.{Reply}
use Rattle.script_lang.specs.Replies as given
use Rattle.session_calls.specs.declared.stops.DeviceStop.{DeviceStop}
use Rattle.device_cli.specs.Causes.{Draws, IsOf, PutsEntry}
use Rattle.device_cli.specs.Pages.{IfNext}

-- a command with this reply drew these keys: a write that was done one, and a format, a commit and an upgrade that was done some; and else none
abbrev pub AreDrawnFor : Command → Reply → List (List ℕ) → Type 0
AreDrawnFor (commands.Format blocks order) given.Formatted keys = Unit {0}
AreDrawnFor (commands.Write block content) given.Done keys = length keys ≡ 1
AreDrawnFor commands.Commit (given.Committed number) keys = Unit {0}
AreDrawnFor commands.Upgrade (given.Upgraded number) keys = Unit {0}
AreDrawnFor _ _ keys = keys ≡ []

-- the keys drawn now are those drawn before, and those of such a command
abbrev pub DrewFor : Option (List (List ℕ)) → Command → Reply → Option (List (List ℕ)) → Type 0
DrewFor drawn command reply drawn_now = (keys : List (List ℕ)) × AreDrawnFor command reply keys × DrewAll drawn keys drawn_now

-- a command that draws no key leaves the tape, and one that puts no entry the ledger; and what it drew is as its reply says
pub record Spends {T L : Type 0} (tape tape_now : T) (ledger ledger_now : L) (drawn drawn_now : Option (List (List ℕ))) (command : Command) (answer : Result Reply DeviceStop) : Type 0 where
  pub undrawn : (Draws command → ⊥) → tape_now ≡ tape
  pub unput : (PutsEntry command → ⊥) → ledger_now ≡ ledger
  pub drew : IfOk answer (λ reply. DrewFor drawn command reply drawn_now)

-- a line with this reply drew these keys: none outside the grammar
abbrev pub AreDrawnAt : List ℕ → Reply → List (List ℕ) → Type 0
AreDrawnAt line reply keys = (IsBad line × (keys ≡ [])) ⊎ IsOf (λ command. AreDrawnFor command reply keys) line

-- the keys drawn now are those drawn before, and those that the lines with these replies drew, in turn
abbrev pub DrewOn : Option (List (List ℕ)) → List (List ℕ) → List Reply → Option (List (List ℕ)) → Type 0
DrewOn drawn lines [] drawn_now = drawn_now ≡ drawn
DrewOn drawn [] (reply ∷ replies) drawn_now = ⊥
DrewOn drawn (line ∷ lines) (reply ∷ replies) drawn_now =
    (keys : List (List ℕ)) × AreDrawnAt line reply keys × (mid : Option (List (List ℕ))) × DrewAll drawn keys mid × DrewOn mid lines replies drawn_now

-- and perhaps some that the line behind them drew, which was cut short and is of a command that draws
pub record DrewUntil (drawn : Option (List (List ℕ))) (lines : List (List ℕ)) (replies : List Reply) (drawn_now : Option (List (List ℕ))) : Type 0 where
  pub mid : Option (List (List ℕ))
  pub on : DrewOn drawn lines replies mid
  pub more : (drawn_now ≡ mid) ⊎ (IfNext replies lines (IsOf Draws) × (keys : List (List ℕ)) × DrewAll mid keys drawn_now)
