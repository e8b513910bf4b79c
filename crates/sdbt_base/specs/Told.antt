-- What a call did to the bytes or keys that an object tells. An object that tells nothing has None before and after,
-- and then each of these holds of whatever was given or got.
use Rattle.std.specs.Prelude.{◌≡◌, ℕ, ◌==◌, Option, List, [], ◌∷◌, ◌++◌, take, None, Some, Result, Ok, Err, if◌then◌else◌}
use Rattle.std.specs.Option.{option_map}
use Rattle.sdbt_base.specs.Faults.{next_count}

-- what was left is what was given and what is left now
abbrev pub Gave : Option (List ℕ) → List ℕ → Option (List ℕ) → Type 0
Gave left given left_now = left ≡ option_map (λ rest. given ++ rest) left_now

-- what is written now is what was written before and what was got
abbrev pub Got : Option (List ℕ) → List ℕ → Option (List ℕ) → Type 0
Got written got written_now = written_now ≡ option_map (λ before. before ++ got) written

-- a first part of the bytes was got: perhaps none, perhaps all
abbrev pub GotPart : Option (List ℕ) → List ℕ → Option (List ℕ) → Type 0
GotPart written bytes written_now = (n : ℕ) × Got written (take n bytes) written_now

-- the keys drawn now are those drawn before and this one
abbrev pub Drew : Option (List (List ℕ)) → List ℕ → Option (List (List ℕ)) → Type 0
Drew drawn key drawn_now = drawn_now ≡ option_map (λ keys. keys ++ key ∷ []) drawn

-- nothing is left, where that is told
abbrev pub IsAtEnd : Option (List ℕ) → Type 0
IsAtEnd None = Unit {0}
IsAtEnd (Some rest) = rest ≡ []

-- how often a source has answered that it is at its end, where it has answered so many bytes since
abbrev pub ends_with : ℕ → ℕ → ℕ
ends_with count ends = if count == 0 then next_count ends else ends

-- the same by what a take answers: a fault isn't an end
abbrev pub ends_after : {E : Type 0} → Result ℕ E → ℕ → ℕ
ends_after (Ok count) ends = ends_with count ends
ends_after (Err fault) ends = ends
