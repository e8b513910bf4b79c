use Rattle.std.proofs.Common.{None, ap, refl, length, arith, ◌-◌, ℕ}
use Rattle.byte_arrays.specs.Ranges.{touched_blocks}
use Rattle.byte_arrays.proofs.RangeLaws.{length-blocks_from}
use Rattle.nbd_lang.specs.declared.requests.RequestKind.TheVariants.{Write}
use Rattle.session_calls.specs.Along.{drawn_by}
use Rattle.session_calls.proofs.AlongLaws.{along_start}
use Rattle.session_calls.proofs.CallLaws.{along_more}
use Rattle.nbd_lang.specs.declared.replies.Outcome.TheVariants.{NoSpace}
use Rattle.nbd_core.proofs.BlameLaws.{given_ends}
use Rattle.nbd_core.proofs.DamageLaws.{given_says}
use Rattle.nbd_core.proofs.FoundLaws.{same_start}
use Rattle.nbd_core.proofs.ShortLaws.{never_short}
use Rattle.nbd_core.proofs.DataLaws.{data_did}
use Rattle.nbd_core.proofs.TurnLaws.{leads_idle, no_space, on_outcome, range_leads}
use Rattle.nbd_core.proofs.writing.write.Goals as goal

pub returns-then-blocks-capacity-clause-along : goal.returns-then-blocks-capacity-clause-along
returns-then-blocks-capacity-clause-along g c = along_more g.P.Platform 0 (length (touched_blocks c.args.request.now.offset c.args.request.now.length)) 0 _ _ _ _ _ _ _ (omega arith) (omega arith) (along_start g.P.Platform _ (drawn_by g.T.Tape c.args.tape.now) _ c.requires.open)

pub returns-then-blocks-capacity-clause-blame : goal.returns-then-blocks-capacity-clause-blame
returns-then-blocks-capacity-clause-blame g c rest = c.let_go.ensures.blame (record rest { platform = g.P.Platform.faults c.args.platform.now; tape = g.T.Tape.faults c.args.tape.now })

pub write_range-requires-clause-free : goal.write_range-requires-clause-free
write_range-requires-clause-free g c =
    let blocks = c.touched-blocks.result in
    omega (arith, ap length c.touched-blocks.ensures.blocks, length-blocks_from blocks.start (blocks.end - blocks.start), g.met.P.Platform.has_room c.args.platform.now, c.if-blocks-capacity.false)

pub returns-then-blocks-capacity-clause-bytes : goal.returns-then-blocks-capacity-clause-bytes
returns-then-blocks-capacity-clause-bytes g c =
    let blocks = c.touched-blocks.result in
    data_did _ _ _ _ _ _ _ _ _ refl
    (λ gone nothing. (
      leads_idle g.P.Platform _ _ _ _ _ c.let_go.ensures.outcome
          (λ outcome entry held is.
          no_space _ _ entry gone (touched_blocks c.args.request.now.offset c.args.request.now.length) outcome is
          (omega (arith, held.pages, ap length c.touched-blocks.ensures.blocks, length-blocks_from blocks.start (blocks.end - blocks.start), c.if-blocks-capacity.true))),
      (λ told mounted. given_says _ _ _ _ NoSpace c.let_go.result (same_start _ _) c.let_go.ensures.outcome),
    ))
    c.let_go.ensures.bytes

pub returns-clause-bytes : goal.returns-clause-bytes
returns-clause-bytes g c =
    let P = g.P.Platform in
    let blocks = c.touched-blocks.result in
    let offset : ℕ = c.args.request.now.offset in
    let n : ℕ = c.args.request.now.length in
    data_did _ _ _ _ _ _ _ _ c.write_range.result refl
    (λ gone both. (
      range_leads P c.args.platform.now c.write_range.new.platform c.args.session.now c.write_range.new.session offset gone (touched_blocks offset n) c.write_range.result
          (λ entry pages. omega (arith, pages, ap length c.touched-blocks.ensures.blocks, length-blocks_from blocks.start (blocks.end - blocks.start), c.if-blocks-capacity.false)) both.0,
      both.1,
    ))
    c.write_range.ensures.bytes

pub returns-then-blocks-capacity-clause-short : goal.returns-then-blocks-capacity-clause-short
returns-then-blocks-capacity-clause-short g c =
    let blocks = c.touched-blocks.result in
    on_outcome _ _ c.let_go.result (λ outcome is lack. omega (arith, ap length c.touched-blocks.ensures.blocks, length-blocks_from blocks.start (blocks.end - blocks.start), c.if-blocks-capacity.true)) c.let_go.ensures.outcome

pub returns-clause-short : goal.returns-clause-short
returns-clause-short g c = never_short _ c.write_range.result c.write_range.ensures.room

pub returns-then-blocks-capacity-clause-ends : goal.returns-then-blocks-capacity-clause-ends
returns-then-blocks-capacity-clause-ends g c = given_ends Write NoSpace c.let_go.result tt c.let_go.ensures.outcome (c.let_go.ensures.halted Write None)
