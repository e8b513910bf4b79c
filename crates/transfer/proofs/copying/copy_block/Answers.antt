use Rattle.std.proofs.Common.{Err, sym, arith, ◌∙◌}
use Rattle.session_calls.specs.Along.{drawn_by}
use Rattle.session_calls.proofs.AlongLaws.{along_start}
use Rattle.session_calls.proofs.CallLaws.{along_more}
use Rattle.transfer.proofs.BlameLaws.{blames_then}
use Rattle.transfer.proofs.FillLaws.{read_sound}
use Rattle.transfer.proofs.MovingLaws.{copied_block}
use Rattle.transfer.proofs.HaltLaws.{from_full, halted, meets_from, meets_to, no_memory}
use Rattle.transfer.proofs.RefusalLaws.{copy_from, copy_to}
use Rattle.transfer.proofs.WholeLaws.{copied_one}
use Rattle.transfer.proofs.copying.copy_block.Goals as goal

pub returns-in_err-read_source-clause-from : goal.returns-in_err-read_source-clause-from
returns-in_err-read_source-clause-from g c any = c.in_err-read_source.ensures.along any

pub returns-in_err-read_source-clause-to : goal.returns-in_err-read_source-clause-to
returns-in_err-read_source-clause-to g c =
    let drawn = drawn_by g.T.Tape c.args.tape.now in
    along_more g.Q.Platform 0 1 0 40 _ _ drawn drawn _ _ (omega arith) (omega arith) (along_start g.Q.Platform c.args.to.now drawn c.args.target.now c.requires.target.is_open)

pub returns-in_err-read_source-clause-blame : goal.returns-in_err-read_source-clause-blame
returns-in_err-read_source-clause-blame g c output ledger = rw (halted c.from_residual.result c.in_err-read_source.field-0.0 c.from_residual.ensures.1) (c.in_err-read_source.ensures.blame (g.Q.Platform.faults c.args.to.now) (g.T.Tape.faults c.args.tape.now) output ledger)

pub returns-in_err-read_source-clause-wrong : goal.returns-in_err-read_source-clause-wrong
returns-in_err-read_source-clause-wrong g c = rw (halted c.from_residual.result c.in_err-read_source.field-0.0 c.from_residual.ensures.1) (meets_from _ _ _ _ _ _ c.in_err-read_source.field-0.0 c.in_err-read_source.ensures.wrong)

pub returns-in-Ok-clause-from : goal.returns-in-Ok-clause-from
returns-in-Ok-clause-from g c any = c.read_source.ensures.along any

pub returns-in-Ok-clause-blame : goal.returns-in-Ok-clause-blame
returns-in-Ok-clause-blame g c output ledger =
    blames_then _ _ _ _ (c.in_ok-read_source.ensures.blame (g.Q.Platform.faults c.args.to.now) (g.T.Tape.faults c.args.tape.now) output ledger).quiet
    (c.in-Ok.ensures.blame (g.P.Platform.faults c.read_source.new.from) output ledger)

pub returns-in-Err-clause-from : goal.returns-in-Err-clause-from
returns-in-Err-clause-from g c any = c.read_source.ensures.along any

pub returns-in-Err-clause-blame : goal.returns-in-Err-clause-blame
returns-in-Err-clause-blame g c output ledger =
    blames_then _ _ _ _ (c.in_ok-read_source.ensures.blame (g.Q.Platform.faults c.args.to.now) (g.T.Tape.faults c.args.tape.now) output ledger).quiet
    (c.in-Err.ensures.blame (g.P.Platform.faults c.read_source.new.from) output ledger)

pub returns-in-Err-clause-wrong : goal.returns-in-Err-clause-wrong
returns-in-Err-clause-wrong g c = meets_to _ _ _ _ _ _ c.in-Err.halt c.in-Err.ensures.wrong

pub returns-in_err-read_source-clause-leads : goal.returns-in_err-read_source-clause-leads
returns-in_err-read_source-clause-leads g c from_told to_told device there array other at at_other = rw (halted c.from_residual.result c.in_err-read_source.field-0.0 c.from_residual.ensures.1) (read_sound c.in_err-read_source.field-0.0 (c.in_err-read_source.ensures.leads from_told device array at))

pub returns-in-Err-clause-leads : goal.returns-in-Err-clause-leads
returns-in-Err-clause-leads g c from_told to_told device there array other at at_other = c.in-Err.ensures.leads to_told there other at_other

pub returns-in-Ok-clause-leads : goal.returns-in-Ok-clause-leads
returns-in-Ok-clause-leads g c from_told to_told device there array other at at_other =
    let one = c.in_ok-read_source.ensures.leads from_told device array at in
    let two = c.in-Ok.ensures.leads to_told there other at_other in
    (one.0, copied_block (g.Q.Platform.history c.write_target.new.to).present c.write_target.new.target there array other c.args.block c.read_source.new.out c.in_ok-read_source.ensures.size one.1 two)

pub returns-in_err-read_source-clause-behind : goal.returns-in_err-read_source-clause-behind
returns-in_err-read_source-clause-behind g c = rw (halted c.from_residual.result c.in_err-read_source.field-0.0 c.from_residual.ensures.1) (copy_from _ _ c.in_err-read_source.field-0.0 c.in_err-read_source.ensures.wrong)

pub returns-in-Err-clause-behind : goal.returns-in-Err-clause-behind
returns-in-Err-clause-behind g c = copy_to _ _ _ _ c.in-Err.halt c.in-Err.ensures.wrong

pub returns-in_err-read_source-clause-full : goal.returns-in_err-read_source-clause-full
returns-in_err-read_source-clause-full g c is =
    absurd (from_full {X = Unit {0}} _ _ (Err c.in_err-read_source.field-0.0) c.in_err-read_source.ensures.wrong (sym (halted c.from_residual.result c.in_err-read_source.field-0.0 c.from_residual.ensures.1) ∙ is))

pub returns-in_err-read_source-clause-copies : goal.returns-in_err-read_source-clause-copies
returns-in_err-read_source-clause-copies g c = (c.in_err-read_source.ensures.reads.tree, rw (halted c.from_residual.result c.in_err-read_source.field-0.0 c.from_residual.ensures.1) tt)

pub returns-in-Ok-clause-copies : goal.returns-in-Ok-clause-copies
returns-in-Ok-clause-copies g c =
    let P = g.P.Platform in
    let Q = g.Q.Platform in (
      c.in_ok-read_source.ensures.reads.tree,
      copied_one P.tells Q.tells (P.history c.args.from.now).present (Q.history c.args.to.now).present (Q.history c.write_target.new.to).present c.args.source.now c.args.target.now c.write_target.new.target c.args.block c.read_source.new.out
          c.in_ok-read_source.ensures.size c.in_ok-read_source.ensures.reads.found c.in-Ok.ensures.puts,
    )

pub returns-in-Err-clause-copies : goal.returns-in-Err-clause-copies
returns-in-Err-clause-copies g c = (c.in_ok-read_source.ensures.reads.tree, tt)

pub returns-in_err-read_source-clause-room : goal.returns-in_err-read_source-clause-room
returns-in_err-read_source-clause-room g c is =
    absurd (no_memory c.from_residual.result c.in_err-read_source.field-0.0 c.in_err-read_source.ensures.memory (halted c.from_residual.result c.in_err-read_source.field-0.0 c.from_residual.ensures.1) is)
