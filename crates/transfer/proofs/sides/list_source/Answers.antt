use Rattle.std.proofs.Common.{refl}
use Rattle.session_calls.specs.Damage.{IsMounted}
use Rattle.transfer.specs.Counts.{counts}
use Rattle.transfer.proofs.BlameLaws.{blames_done, from_quiet, from_stopped, of_platform}
use Rattle.transfer.proofs.FromLaws.{look_along}
use Rattle.transfer.proofs.HaltLaws.{list_from}
use Rattle.transfer.proofs.sides.list_source.Goals as goal

pub returns-in-Ok-clause-along : goal.returns-in-Ok-clause-along
returns-in-Ok-clause-along g c any = look_along g.P.Platform _ _ any _ c.requires.ready.is_open c.list_blocks.ensures.looks

pub returns-in-Err-clause-along : goal.returns-in-Err-clause-along
returns-in-Err-clause-along g c any = look_along g.P.Platform _ _ any _ c.requires.ready.is_open c.list_blocks.ensures.looks

pub returns-in-Ok-clause-blame : goal.returns-in-Ok-clause-blame
returns-in-Ok-clause-blame g c to tape output ledger =
    let P = g.P.Platform in
    let before = counts (P.faults c.args.from.now) to tape output ledger in
    let now = counts (P.faults c.list_blocks.new.platform) to tape output ledger in
    blames_done before now c.in-Ok.blocks (from_quiet _ _ before now (of_platform _ _ tape output ledger) refl c.in-Ok.ensures.blame.quiet)

pub returns-in-Err-clause-blame : goal.returns-in-Err-clause-blame
returns-in-Err-clause-blame g c to tape output ledger =
    let P = g.P.Platform in
    let before = counts (P.faults c.args.from.now) to tape output ledger in
    let now = counts (P.faults c.list_blocks.new.platform) to tape output ledger in
    from_stopped _ _ before now c.in-Err.stop (of_platform _ _ tape output ledger) refl c.in-Err.ensures.blame.fell c.in-Err.ensures.blame.cause

pub returns-in-Err-clause-wrong : goal.returns-in-Err-clause-wrong
returns-in-Err-clause-wrong g c =
    let P = g.P.Platform in
    list_from P.tells (IsMounted (P.history c.args.from.now).present c.args.source.now) c.requires.ready.mounted (P.history c.list_blocks.new.platform).present c.in-Err.stop c.in-Err.ensures.wrong
