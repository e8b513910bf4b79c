-- Laws on how far counts rise. Crates above cite them.
use Rattle.std.proofs.Common.{◌≡◌, ℕ, ◌+◌, ◌≤◌, arith}
use Rattle.std.specs.Prelude.{Result, Ok, Err}
use Rattle.sdbt_base.specs.Rises.{MayRiseByOne, MayRiseBy, CountsOnce}

-- a count that is as it was
pub by_one_not : (old new : ℕ) → new ≡ old → MayRiseByOne old new
by_one_not old new same = record { rises = omega (arith, same); by_one = omega (arith, same) }

pub counted_not : (most old new : ℕ) → new ≡ old → MayRiseBy most old new
counted_not most old new same = record { rises = omega (arith, same); at_most = omega (arith, same) }

-- a call that counts once, as a rise by one at most
pub counted_once : {T E : Type 0} (result : Result T E) (old new : ℕ) → CountsOnce result old new → MayRiseBy 1 old new
counted_once (Ok done) old new once = record { rises = omega (arith, once); at_most = omega (arith, once) }
counted_once (Err fault) old new once = record { rises = once.rises; at_most = once.by_one }

-- a rise by one at most, as a bound
pub counted_by_one : (old new : ℕ) → MayRiseByOne old new → MayRiseBy 1 old new
counted_by_one old new once = record { rises = once.rises; at_most = once.by_one }

-- a bound that is greater
pub counted_few : (few most old new : ℕ) → few ≤ most → MayRiseBy few old new → MayRiseBy most old new
counted_few few most old new less rose = record { rises = rose.rises; at_most = omega (arith, rose.at_most, less) }

-- one rise after another
pub counted_then : (first second most old mid new : ℕ) → most ≡ first + second → MayRiseBy first old mid → MayRiseBy second mid new → MayRiseBy most old new
counted_then first second most old mid new sum a b = record { rises = omega (arith, a.rises, b.rises); at_most = omega (arith, a.at_most, b.at_most, sum) }
