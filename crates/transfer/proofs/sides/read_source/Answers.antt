use Rattle.std.proofs.Common.{◌+◌, refl, arith}
use Rattle.session_calls.specs.Damage.{IsMounted}
use Rattle.session_calls.proofs.CallLaws.{along_more, no_draw}
use Rattle.transfer.specs.Counts.{counts}
use Rattle.transfer.proofs.BlameLaws.{blames_done, from_quiet, from_stopped, of_platform}
use Rattle.transfer.proofs.MovingLaws.{read_sound}
use Rattle.transfer.proofs.HaltLaws.{read_from, memory_from}
use Rattle.transfer.proofs.sides.read_source.Goals as goal

pub returns-in-Ok-clause-along : goal.returns-in-Ok-clause-along
returns-in-Ok-clause-along g c any =
    let level = c.requires.ready.is_open.level in
    along_more g.P.Platform 0 0 (c.args.source.now.grove.level + 1) 21 _ _ any any _ _ (omega arith) (omega (arith, level)) (c.in-Ok.ensures.goes any).along

pub returns-in-Err-clause-along : goal.returns-in-Err-clause-along
returns-in-Err-clause-along g c any =
    let level = c.requires.ready.is_open.level in
    along_more g.P.Platform 0 0 (c.args.source.now.grove.level + 1) 21 _ _ any any _ _ (omega arith) (omega (arith, level)) (c.in-Err.ensures.goes any).along

pub returns-in-Ok-clause-blame : goal.returns-in-Ok-clause-blame
returns-in-Ok-clause-blame g c to tape output ledger =
    let P = g.P.Platform in
    let before = counts (P.faults c.args.from.now) to tape output ledger in
    let now = counts (P.faults c.read_block.new.platform) to tape output ledger in
    blames_done before now tt (from_quiet _ _ before now (of_platform _ _ tape output ledger) refl (c.in-Ok.ensures.goes no_draw).quiet)

pub returns-in-Err-clause-blame : goal.returns-in-Err-clause-blame
returns-in-Err-clause-blame g c to tape output ledger =
    let P = g.P.Platform in
    let before = counts (P.faults c.args.from.now) to tape output ledger in
    let now = counts (P.faults c.read_block.new.platform) to tape output ledger in
    let goes = c.in-Err.ensures.goes no_draw in
    from_stopped _ _ before now c.in-Err.stop (of_platform _ _ tape output ledger) refl goes.along.fell goes.cause

pub returns-in-Err-clause-wrong : goal.returns-in-Err-clause-wrong
returns-in-Err-clause-wrong g c =
    let P = g.P.Platform in
    read_from P.tells (IsMounted (P.history c.args.from.now).present c.args.source.now) c.requires.ready.mounted (P.history c.args.from.now).present (P.history c.read_block.new.platform).present c.args.source.now c.args.block c.read_block.new.out c.in-Err.stop c.in-Err.ensures.any

pub returns-in-Err-clause-leads : goal.returns-in-Err-clause-leads
returns-in-Err-clause-leads g c told there array at = read_sound (g.P.Platform.history c.read_block.new.platform).present c.read_block.new.session there array c.args.block c.read_block.new.out c.in-Err.stop (c.in-Err.ensures.leads told there array at)

pub returns-in-Ok-clause-reads : goal.returns-in-Ok-clause-reads
returns-in-Ok-clause-reads g c = record { tree = c.read_block.ensures.same.1; found = λ told. c.in-Ok.ensures.any (told, c.requires.ready.mounted told) }

pub returns-in-Err-clause-reads : goal.returns-in-Err-clause-reads
returns-in-Err-clause-reads g c = record { tree = c.read_block.ensures.same.1; found = λ told. tt }

pub returns-in-Err-clause-memory : goal.returns-in-Err-clause-memory
returns-in-Err-clause-memory g c = memory_from c.in-Err.stop c.in-Err.ensures.room
