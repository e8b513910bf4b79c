use Rattle.std.proofs.Common.{◌∙◌, refl, sym, arith}
use Rattle.sdbt_base.specs.Arrays.{mounted, session_on}
use Rattle.device_course.proofs.MadeLaws.{made_kept}
use Rattle.session_calls.proofs.CallLaws.{no_draw}
use Rattle.transfer.proofs.HaltLaws.{halted}
use Rattle.transfer.specs.Counts.{counts}
use Rattle.transfer.proofs.BlameLaws.{blames_as, blames_done, blames_then, clear_failed}
use Rattle.transfer.proofs.ChangesLaws.{changes_cleared, changes_more}
use Rattle.transfer.proofs.FromLaws.{clears_cleared, clears_not}
use Rattle.transfer.proofs.LookedLaws.{there_as, there_behind}
use Rattle.transfer.proofs.MoveLaws.{moves_cleared, moves_halted}
use Rattle.transfer.proofs.ToLaws.{spans_more}
use Rattle.transfer.proofs.RefusalLaws.{refusing_as, refusing_done, refusing_from}
use Rattle.transfer.proofs.ReadsLaws.{few_cleared}
use Rattle.transfer.proofs.WholeLaws.{never_empty}
use Rattle.transfer.proofs.running.move_session.Goals as goal

pub returns-in_err-number-clause-from : goal.returns-in_err-number-clause-from
returns-in_err-number-clause-from g c =
    rw (halted c.from_residual.result c.in_err-number.field-0.0 c.from_residual.ensures.1) (clears_not g.P.Platform c.fill.ensures.from.0 c.args.from.now c.fill.new.from c.args.first c.fill.new.source _ (λ done. cc) (c.fill.ensures.from.1 no_draw))

pub returns-in_err-number-clause-to : goal.returns-in_err-number-clause-to
returns-in_err-number-clause-to g c = rw (halted c.from_residual.result c.in_err-number.field-0.0 c.from_residual.ensures.1) (spans_more _ _ _ _ _ (λ done. absurd cc) c.in_err-number.ensures.to)

pub returns-in_err-number-clause-blame : goal.returns-in_err-number-clause-blame
returns-in_err-number-clause-blame g c output = rw (halted c.from_residual.result c.in_err-number.field-0.0 c.from_residual.ensures.1) (blames_as _ _ c.in_err-number.field-0.0 (c.in_err-number.ensures.blame output))

pub returns-in-Ok-clause-from : goal.returns-in-Ok-clause-from
returns-in-Ok-clause-from g c =
    let pages = g.met.P.Platform.counts_pages in
    let clear = c.clear.ensures in
    clears_cleared g.P.Platform c.fill.ensures.from.0 c.args.from.now c.fill.new.from c.clear.new.platform c.args.first c.fill.new.source _ (c.fill.ensures.from.1 no_draw)
    clear.time clear.turns (λ told. pages told c.clear.new.platform ∙ (clear.pages.0 ∙ sym (pages told c.fill.new.from))) clear.keeps clear.forgets clear.serves clear.pages.0 clear.pages.1 (λ told done. c.in-Ok.ensures.cause.0 told)

pub returns-in-Ok-clause-to : goal.returns-in-Ok-clause-to
returns-in-Ok-clause-to g c = spans_more _ _ _ _ _ (λ done. refl) c.in_ok-number.ensures.to

pub returns-in-Ok-clause-blame : goal.returns-in-Ok-clause-blame
returns-in-Ok-clause-blame g c output =
    blames_then _ _ _ _ (c.in_ok-number.ensures.blame output).quiet (blames_done _ _ _ (λ k. counts (c.in-Ok.ensures.cause.1 k) (g.Q.Platform.faults c.fill.new.to) (g.T.Tape.faults c.fill.new.tape) output (g.L.Sink.faults c.fill.new.ledger)))

pub returns-clause-from : goal.returns-clause-from
returns-clause-from g c =
    let pages = g.met.P.Platform.counts_pages in
    let clear = c.clear.ensures in
    clears_cleared g.P.Platform c.fill.ensures.from.0 c.args.from.now c.fill.new.from c.clear.new.platform c.args.first c.fill.new.source _ (c.fill.ensures.from.1 no_draw)
    clear.time clear.turns (λ told. pages told c.clear.new.platform ∙ (clear.pages.0 ∙ sym (pages told c.fill.new.from))) clear.keeps clear.forgets clear.serves clear.pages.0 clear.pages.1 (λ told done. absurd cc)

pub returns-clause-to : goal.returns-clause-to
returns-clause-to g c = spans_more _ _ _ _ _ (λ done. refl) c.in_ok-number.ensures.to

pub returns-clause-blame : goal.returns-clause-blame
returns-clause-blame g c output =
    blames_then _ _ _ _ (c.in_ok-number.ensures.blame output).quiet (clear_failed _ _ _ _ _ _ c.clear.ensures.pages.2 c.in-Err.ensures.cause)

pub returns-in_err-number-clause-leads : goal.returns-in_err-number-clause-leads
returns-in_err-number-clause-leads g c from_told to_told device there at stands served =
    rw (halted c.from_residual.result c.in_err-number.field-0.0 c.from_residual.ensures.1) (moves_halted _ _ _ _ device there _ c.in_err-number.field-0.0 (made_kept (g.P.Platform.history c.args.from.now) (g.P.Platform.history c.fill.new.from) device at.there.device at.served ((c.fill.ensures.from.1 no_draw).cell from_told))
    (c.in_err-number.ensures.leads from_told to_told device there at stands served))

pub returns-in-Ok-clause-leads : goal.returns-in-Ok-clause-leads
returns-in-Ok-clause-leads g c from_told to_told device there at stands served =
    moves_cleared _ _ _ _ device (session_on device) there _ c.in_ok-number.number _ _ ((returns-in-Ok-clause-from g c).made from_told (mounted device (session_on device)) at) (refl, refl) tt
    (c.in_ok-number.ensures.leads from_told to_told device there at stands served)

pub returns-clause-leads : goal.returns-clause-leads
returns-clause-leads g c from_told to_told device there at stands served =
    moves_cleared _ _ _ _ device (session_on device) there _ c.in_ok-number.number _ _ ((returns-clause-from g c).made from_told (mounted device (session_on device)) at) tt refl
    (c.in_ok-number.ensures.leads from_told to_told device there at stands served)

pub returns-in_err-number-clause-there : goal.returns-in_err-number-clause-there
returns-in_err-number-clause-there g c = (
  rw (halted c.from_residual.result c.in_err-number.field-0.0 c.from_residual.ensures.1) (there_as _ _ c.in_err-number.field-0.0 c.in_err-number.ensures.there),
  c.fill.ensures.reads.0,
  rw (halted c.from_residual.result c.in_err-number.field-0.0 c.from_residual.ensures.1) (changes_more g.P.Platform g.Q.Platform 0 _ c.args.from.now c.fill.new.from c.args.to.now c.fill.new.to (omega arith) c.fill.ensures.reads.1),
)

pub returns-in-Ok-clause-there : goal.returns-in-Ok-clause-there
returns-in-Ok-clause-there g c = (there_behind _ _ _ _ c.in_ok-number.ensures.there tt, few_cleared g.P.Platform g.Q.Platform 0 c.args.from.now c.fill.new.from c.clear.new.platform c.args.to.now c.fill.new.to (λ told. (c.clear.ensures.reads told).0) c.fill.ensures.reads.0, changes_cleared g.P.Platform g.Q.Platform c.clear.result c.args.from.now c.fill.new.from c.clear.new.platform c.args.to.now c.fill.new.to c.clear.ensures.changes c.fill.ensures.reads.1)

pub returns-clause-there : goal.returns-clause-there
returns-clause-there g c = (there_behind _ _ _ _ c.in_ok-number.ensures.there tt, few_cleared g.P.Platform g.Q.Platform 0 c.args.from.now c.fill.new.from c.clear.new.platform c.args.to.now c.fill.new.to (λ told. (c.clear.ensures.reads told).0) c.fill.ensures.reads.0, changes_cleared g.P.Platform g.Q.Platform c.clear.result c.args.from.now c.fill.new.from c.clear.new.platform c.args.to.now c.fill.new.to c.clear.ensures.changes c.fill.ensures.reads.1)

pub returns-in_err-number-clause-refused : goal.returns-in_err-number-clause-refused
returns-in_err-number-clause-refused g c = rw (halted c.from_residual.result c.in_err-number.field-0.0 c.from_residual.ensures.1) (refusing_as _ _ _ _ _ c.in_err-number.field-0.0 c.in_err-number.ensures.refused)

pub returns-in-Ok-clause-refused : goal.returns-in-Ok-clause-refused
returns-in-Ok-clause-refused g c = refusing_done _ _ _ _ _ c.in_ok-number.number _ c.in_ok-number.ensures.refused

pub returns-clause-refused : goal.returns-clause-refused
returns-clause-refused g c = refusing_from _ _ _ _ _ _

pub returns-in_err-number-clause-moves : goal.returns-in_err-number-clause-moves
returns-in_err-number-clause-moves g c = (
  rw (halted c.from_residual.result c.in_err-number.field-0.0 c.from_residual.ensures.1) tt,
  λ told empty. absurd (never_empty (g.P.Platform.history c.args.from.now) (g.P.Platform.history c.fill.new.from) c.args.first ((c.fill.ensures.from.1 no_draw).cell told) (c.requires.ready.0.mounted told) empty),
)

pub returns-in-Ok-clause-moves : goal.returns-in-Ok-clause-moves
returns-in-Ok-clause-moves g c = (c.in_ok-number.ensures.moves.0, λ told empty. c.in_ok-number.ensures.moves.0)

pub returns-clause-moves : goal.returns-clause-moves
returns-clause-moves g c = (tt, λ told empty. c.in_ok-number.ensures.moves.0)

pub returns-in_err-number-clause-told : goal.returns-in_err-number-clause-told
returns-in_err-number-clause-told g c = rw (halted c.from_residual.result c.in_err-number.field-0.0 c.from_residual.ensures.1) tt

pub returns-in-Ok-clause-told : goal.returns-in-Ok-clause-told
returns-in-Ok-clause-told g c = (c.mapped-blocks.ensures, c.in_ok-number.ensures.moves.1)

pub fill-requires : goal.fill-requires
fill-requires g c = record { ready = (c.requires.ready.0, c.requires.ready.2) }
