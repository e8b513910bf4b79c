-- How often a run syncs all pages, or replaces the root record, for its lines.
use Rattle.std.specs.Prelude.{◌≡◌, ◌⊎◌, ◌+◌, ℕ, List, [], ◌∷◌}
use Rattle.sdbt_base.specs.Rises.{MayRiseBy}
use Rattle.volume_lines.specs.Grammar.{IsBad, Spells}
use Rattle.volume_lines.specs.Lines.{Line}
use Rattle.volume_lines.specs.Replies.{Reply}
use Rattle.volume_desk.specs.Syncs.{changes_for, changes_with}

-- the first of these lines have these replies, and so often it happens for them and for the line in hand together, at most; none is served behind that
abbrev pub AreChanging : List (List ℕ) → List Reply → ℕ → Type 0
AreChanging [] replies most = most ≡ 0
AreChanging (line ∷ lines) [] most = (IsBad line × (most ≡ 0)) ⊎ ((it : Line) × Spells line it × (most ≡ changes_for it))
AreChanging (line ∷ lines) (reply ∷ replies) most =
    (IsBad line × AreChanging lines replies most) ⊎ ((it : Line) × Spells line it × (others : ℕ) × AreChanging lines replies others × (most ≡ changes_with it reply + others))

-- it happens no oftener
abbrev pub ChangesFew : ℕ → ℕ → List (List ℕ) → List Reply → Type 0
ChangesFew before now lines replies = (most : ℕ) → AreChanging lines replies most → MayRiseBy most before now
