use Rattle.std.proofs.Common.{ℕ, ◌≡◌, ◌≤◌, List, take, length, arith, rules, length-take, length-take-le}
use Rattle.std.proofs.lemmas.Grind.{common_steps}
use Rattle.ledger_check.proofs.TakingLaws.{took_fewer, took_last, took_less}
use Rattle.ledger_check.proofs.judging.read_ledger.Goals as goal

pub returns-in_err-finish-clause-read : goal.returns-in_err-finish-clause-read
returns-in_err-finish-clause-read g c =
    let into : List ℕ = c.take.new.into in
    let none : length (take c.in-Ok.count into) ≡ 0 = omega (arith, c.if-count-eq0.true, length-take c.in-Ok.count into) in
    took_fewer _ _ _ c.takes.reader c.takes.left (take c.in-Ok.count into) c.from_residual.result c.takes.invariant.taking c.in-Ok.ensures.taken none c.takes.invariant.some (c.finish.ensures.some (search rules)) c.from_residual.ensures.1

pub returns-then-left-eq0-clause-read : goal.returns-then-left-eq0-clause-read
returns-then-left-eq0-clause-read g c =
    let into : List ℕ = c.take.new.into in
    let within : c.in-Ok.count ≤ length into = omega (arith, c.in-Ok.ensures.bound, c.take.auto.into) in
    let room : length into ≤ c.takes.left = grind (arith, common_steps, c.take.auto.into, c.min-room.ensures) in
    let all : length (take c.in-Ok.count into) ≡ c.takes.left = omega (arith, room, within, c.if-left-eq0.true, length-take-le c.in-Ok.count into within) in
    took_last _ _ _ c.takes.reader c.takes.left (take c.in-Ok.count into) c.takes.invariant.taking c.in-Ok.ensures.taken all

pub returns-in_err-read-clause-read : goal.returns-in_err-read-clause-read
returns-in_err-read-clause-read g c =
    let into : List ℕ = c.take.new.into in
    let within : c.in-Ok.count ≤ length into = omega (arith, c.in-Ok.ensures.bound, c.take.auto.into) in
    let long : length (take c.in-Ok.count into) ≡ c.in-Ok.count = length-take-le c.in-Ok.count into within in
    took_less _ _ _ c.takes.reader c.takes.left (take c.in-Ok.count into) c.from_residual-in_err-read.result c.takes.invariant.taking c.in-Ok.ensures.taken (omega (arith, long, c.if-count-eq0.false)) (omega (arith, long, c.if-left-eq0.false)) c.from_residual-in_err-read.ensures.1
