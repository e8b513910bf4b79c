-- What came of an input, and what of it isn't used yet.
use Rattle.std.specs.Prelude.{◌≡◌, ◌⊎◌, ◌+◌, ◌<◌, ◌≤◌, ℕ, List, [], ◌++◌, Option, length}
use Rattle.sdbt_base.specs.Told.{Gave}

-- bytes that came and aren't used yet, and how many more may be taken
pub record Room : Type 0 where
  pub ahead : List ℕ
  pub left : ℕ

-- these are fewer bytes
abbrev pub IsShorter : ℕ → List ℕ → Type 0
IsShorter count bytes = length bytes < count

-- one take put a piece behind what was there
pub record Takes (left left_now : Option (List ℕ)) (old new : Room) : Type 0 where
  pub taken : List ℕ
  pub gave : Gave left taken left_now
  pub is : new.ahead ≡ old.ahead ++ taken
  pub piece : length taken ≤ 65536
  pub count : new.left + length taken ≡ old.left

-- the last piece of what was taken, if anything was, has 65,536 bytes at most, and was taken when
-- what had come before made one wait
abbrev pub IsPrompt : (List ℕ → Type 0) → List ℕ → List ℕ → Type 0
IsPrompt Waits ahead taken = (taken ≡ []) ⊎ ((earlier : List ℕ) × (piece : List ℕ) × (taken ≡ earlier ++ piece) × (length piece ≤ 65536) × Waits (ahead ++ earlier))

-- all that came: what was there and, taken behind it, more
pub record Came (left left_now : Option (List ℕ)) (old : Room) (left_to_take : ℕ) (Waits : List ℕ → Type 0) (came : List ℕ) : Type 0 where
  pub taken : List ℕ
  pub gave : Gave left taken left_now
  pub is : came ≡ old.ahead ++ taken
  pub count : left_to_take + length taken ≡ old.left
  pub prompt : IsPrompt Waits old.ahead taken
