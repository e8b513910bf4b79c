-- What a cache ends as, once a reference into it has ended.
use Rattle.std.specs.Prelude.{ℕ, List, Option, ⊤}
use Rattle.std.specs.Borrow.{Fml, Bor, MutBor, follows_so}
use Rattle.std.specs.Option.{option_copied}
use mathlib.Core.Option.{none}
use Rattle.node_codec.specs.declared.body.NodeBody.{NodeBody}
use Rattle.node_cache.specs.Cached.{Cached, Uses}
use Rattle.node_cache.specs.contracts.cache.NodeCache.{the_row}

-- a look-up answered the result, and the cache ends with that node as its most recent one, or as it was
abbrev pub EndsUsed : MutBor Cached → ℕ → List ℕ → Option (Bor NodeBody) → Fml
EndsUsed cache addr key result = follows_so the_row the_row cache.ghost_name none (λ _ _. ⊤) (λ end. Uses cache.now addr key (option_copied result) end)
