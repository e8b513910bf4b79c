use Rattle.std.proofs.Common.{◌∙◌, arith}
use Rattle.device_cli.proofs.SeizeWordLaws.{put_stopped}
use Rattle.device_cli.proofs.seizing.put_opened.Goals as goal

pub returns-in-Err-clause-put : goal.returns-in-Err-clause-put
returns-in-Err-clause-put g c =
    put_stopped c.args.opened.now c.loop-item.item-index _ c.as_slice.result.now c.in-Err.stop _ _ _ (omega (arith, c.loop-item-test.true)) (c.as_slice.ensures.value ∙ c.opened_text.ensures)
    c.loop-item.invariant.put c.in-Err.ensures.put
