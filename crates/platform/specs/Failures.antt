-- Which failures a list has for a call.
use Rattle.std.specs.Prelude.{ℕ, Bool, List, [], ◌∷◌, Option, ◌==◌, ◌&&◌, find, option_map, slice_index, slice_set}
use Rattle.sdbt_base.specs.Faults.{next_count}
use Rattle.platform.specs.declared.failures.CallKind.{CallKind}
use Rattle.platform.specs.declared.failures.CallKind.TheVariants.{Append, Read, Sync, Load, Swap, Clear}
use Rattle.platform.specs.declared.failures.Failure.{Failure}

-- the place of a kind of call among the six
abbrev pub place_of : CallKind → ℕ
place_of Append = 0
place_of Read = 1
place_of Sync = 2
place_of Load = 3
place_of Swap = 4
place_of Clear = 5

-- what the list says of the n-th call of a kind: nothing, or by its first failure for it whether the effect is done
abbrev pub listed : List Failure → CallKind → ℕ → Option Bool
listed failures call nth = option_map (λ failure. failure.effect) (find (λ failure. (place_of failure.call == place_of call) && (failure.nth == nth)) failures)

-- no call of any kind was made
abbrev pub no_calls : List ℕ
no_calls = 0 ∷ 0 ∷ 0 ∷ 0 ∷ 0 ∷ 0 ∷ []

-- one call more of that kind
abbrev pub counted : List ℕ → CallKind → List ℕ
counted made call = slice_set made (place_of call) (next_count (slice_index made (place_of call)))
