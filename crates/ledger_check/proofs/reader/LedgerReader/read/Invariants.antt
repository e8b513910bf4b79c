use Rattle.std.proofs.Common.{ℕ, List, ◌++◌, length}
use Rattle.ledger_check.specs.Reading.{HasRead}
use Rattle.ledger_check.proofs.ReadingLaws.{IsReading}
use Rattle.ledger_check.proofs.reader.LedgerReader.read.Given as goal

abbrev pub invariant-loop-front : goal.invariant-loop-front
invariant-loop-front l = (taken : List ℕ) → HasRead l.fn.self taken → IsReading (taken ++ l.fn.piece) l.self.checker l.self.line.items l.rest

abbrev pub decreases-loop-front : goal.decreases-loop-front
decreases-loop-front l = length l.rest
