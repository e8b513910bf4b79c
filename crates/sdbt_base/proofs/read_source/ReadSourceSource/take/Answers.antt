use Rattle.std.proofs.Common.{ℕ, List, Option, None, Some, take}
use Rattle.std.specs.Io.KnownBytes.{Keeps, Consumes}
use Rattle.std.proofs.KnownBytes.{Keeps-trans}
use Rattle.sdbt_base.proofs.read_source.ReadSourceSource.take.Goals as goal
use Rattle.sdbt_base.proofs.read_source.ReadSourceSource.take.Goals.{else-loop-test, then-loop-test+in-Err-2}

-- known bytes that stayed as they were, and were read from then
consumed_then : (a b c : Option (List ℕ)) (bytes : List ℕ) → Keeps a b → Consumes b c bytes → Consumes a c bytes
consumed_then None b c bytes kept read = tt
consumed_then (Some xs) None c bytes kept read = absurd kept
consumed_then (Some xs) (Some ys) None bytes kept read = absurd read
consumed_then (Some xs) (Some ys) (Some zs) bytes kept read = cc

-- what the one read gave
pub returns-in-Ok-clause-read : goal.returns-in-Ok-clause-read
returns-in-Ok-clause-read g c =
    let remaining = g.R.Read.remaining in (
      consumed_then (remaining c.args.self.now.inner) (remaining c.loop.self.inner) (remaining c.read.new.self)
          (take c.in-Ok.count c.read.new.buf) c.loop.invariant.kept c.in-Ok.ensures.bytes.0,
      c.in-Ok.ensures.bytes.1,
    )

-- nothing more to read, or a fault
pub returns-clause-read : goal.returns-clause-read
returns-clause-read g c =
    let remaining = g.R.Read.remaining in
    elim c.loop-test.branch [
      | else-loop-test w ↦ rw w.self-is c.loop.invariant.kept
      | then-loop-test+in-Err-2 w ↦
          rw w.self-is (Keeps-trans (remaining c.args.self.now.inner) (remaining c.loop.self.inner) (remaining w.read.new.self)
          c.loop.invariant.kept w.in-Err-2.ensures.bytes)
    ]
