use Rattle.std.proofs.Common.{ap, arith, length, refl, sym, []}
use Rattle.byte_arrays.specs.Ranges.{covered_blocks, touched_blocks}
use Rattle.nbd_lang.specs.declared.requests.RequestKind.TheVariants.{Read, Trim, Write}
use Rattle.nbd_core.specs.Ample.{blocks_of_range, unless_refused}
use Rattle.session_calls.proofs.CallLaws.{along_more}
use Rattle.nbd_core.proofs.NearLaws.{needed_is}
use Rattle.nbd_core.proofs.ReadLaws.{reads_is}
use Rattle.nbd_core.proofs.ShortLaws.{cost_is, read_short, refused_short, trim_short, write_short}
use Rattle.nbd_lang.specs.Requests.{bytes_behind}
use Rattle.session_calls.specs.Along.{drawn_by}
use Rattle.session_calls.proofs.AlongLaws.{along_start}
use Rattle.nbd_core.proofs.BlameLaws.{by_head_platform, by_head_refused, by_head_write, platform_ends}
use Rattle.nbd_core.proofs.DamageLaws.{kind_says, refused_says}
use Rattle.nbd_core.proofs.DataLaws.{data_did, no_data}
use Rattle.nbd_core.proofs.TurnLaws.{answers_read, answers_refused, answers_trim, answers_write, leads_as, leads_idle}
use Rattle.nbd_core.proofs.KeepLaws.{keeps_as, keeps_same, room_is}
use Rattle.nbd_core.proofs.serving.serve_blocks.Goals as goal

pub returns-in-Some-clause-along : goal.returns-in-Some-clause-along
returns-in-Some-clause-along g c = along_more g.P.Platform 0 (unless_refused c.args.refused (blocks_of_range c.args.request.now.kind c.args.request.now.offset c.args.request.now.length)) 0 _ _ _ _ _ _ _ (omega arith) (omega arith) (along_start g.P.Platform _ (drawn_by g.T.Tape c.args.tape.now) _ c.requires.open)

pub returns-in-Some-clause-blame : goal.returns-in-Some-clause-blame
returns-in-Some-clause-blame g c rest = c.let_go.ensures.blame (record rest { platform = g.P.Platform.faults c.args.platform.now; tape = g.T.Tape.faults c.args.tape.now })

pub returns-in-Read-clause-along : goal.returns-in-Read-clause-along
returns-in-Read-clause-along g c = along_more g.P.Platform 0 (unless_refused c.args.refused (blocks_of_range c.args.request.now.kind c.args.request.now.offset c.args.request.now.length)) _ _ _ _ _ _ _ _ (omega arith) (omega (arith, reads_is c.args.refused c.args.request.now.kind Read c.args.request.now.offset c.args.request.now.length c.in_default.is c.in-Read.is)) (c.read.ensures.along (drawn_by g.T.Tape c.args.tape.now))

pub returns-in-Read-clause-blame : goal.returns-in-Read-clause-blame
returns-in-Read-clause-blame g c rest = c.read.ensures.blame (record rest { tape = g.T.Tape.faults c.args.tape.now; input = g.I.Source.faults c.args.input.now })

pub returns-in-Read-clause-bytes : goal.returns-in-Read-clause-bytes
returns-in-Read-clause-bytes g c =
    no_data (g.I.Source.left c.args.input.now) c.args.intake.now _ _ c.read.result (ap (λ k. bytes_behind k c.args.request.now.length) c.in-Read.is) (platform_ends c.read.result (g.I.Source.left c.args.input.now) c.args.intake.now.ahead c.read.ensures.halts) (
      leads_as g.P.Platform _ _ _ _ _ _ _ (λ outcome entry next is. answers_read _ entry next c.args.request.now _ outcome [] _ c.in-Read.is c.in_default.is is) c.read.ensures.leads,
      (λ told mounted. kind_says _ _ _ _ c.args.request.now [] _ Read _ _ _ c.read.result c.in-Read.is (λ has. has) (λ has. has) (λ has. has) (λ is. (c.read.ensures.damage told mounted).0) (c.read.ensures.damage told mounted).1),
    )

pub returns-in-Trim-clause-along : goal.returns-in-Trim-clause-along
returns-in-Trim-clause-along g c =
    along_more g.P.Platform (length (covered_blocks c.args.request.now.offset c.args.request.now.length)) (unless_refused c.args.refused (blocks_of_range c.args.request.now.kind c.args.request.now.offset c.args.request.now.length)) _ _ _ _ _ _ _ _
    (omega (arith, cost_is c.args.refused c.args.request.now.kind Trim c.args.request.now.offset c.args.request.now.length c.in_default.is c.in-Trim.is))
    (omega (arith, reads_is c.args.refused c.args.request.now.kind Trim c.args.request.now.offset c.args.request.now.length c.in_default.is c.in-Trim.is)) (c.trim.ensures.along (drawn_by g.T.Tape c.args.tape.now))

pub returns-in-Write-clause-along : goal.returns-in-Write-clause-along
returns-in-Write-clause-along g c =
    along_more g.P.Platform (length (touched_blocks c.args.request.now.offset c.args.request.now.length)) (unless_refused c.args.refused (blocks_of_range c.args.request.now.kind c.args.request.now.offset c.args.request.now.length)) _ _ _ _ _ _ _ _
    (omega (arith, cost_is c.args.refused c.args.request.now.kind Write c.args.request.now.offset c.args.request.now.length c.in_default.is c.in-Write.is))
    (omega (arith, reads_is c.args.refused c.args.request.now.kind Write c.args.request.now.offset c.args.request.now.length c.in_default.is c.in-Write.is)) c.write.ensures.along

pub returns-in-Some-clause-short : goal.returns-in-Some-clause-short
returns-in-Some-clause-short g c = refused_short _ c.args.refused c.in-Some.outcome c.args.request.now.kind c.let_go.result c.in-Some.is

pub returns-in-Read-clause-short : goal.returns-in-Read-clause-short
returns-in-Read-clause-short g c = read_short _ c.args.refused c.args.request.now.kind c.read.result c.in-Read.is

pub returns-in-Trim-clause-short : goal.returns-in-Trim-clause-short
returns-in-Trim-clause-short g c = trim_short _ c.args.refused c.args.request.now.kind c.trim.result c.in-Trim.is

pub returns-in-Write-clause-short : goal.returns-in-Write-clause-short
returns-in-Write-clause-short g c = write_short _ c.args.refused c.args.request.now.kind c.write.result c.write.ensures.short

pub returns-in-Trim-clause-blame : goal.returns-in-Trim-clause-blame
returns-in-Trim-clause-blame g c rest = c.trim.ensures.blame (record rest { tape = g.T.Tape.faults c.args.tape.now; input = g.I.Source.faults c.args.input.now })

pub returns-in-Trim-clause-bytes : goal.returns-in-Trim-clause-bytes
returns-in-Trim-clause-bytes g c =
    no_data (g.I.Source.left c.args.input.now) c.args.intake.now _ _ c.trim.result (ap (λ k. bytes_behind k c.args.request.now.length) c.in-Trim.is) (platform_ends c.trim.result (g.I.Source.left c.args.input.now) c.args.intake.now.ahead c.trim.ensures.halts) (
      leads_as g.P.Platform _ _ _ _ _ _ _ (λ outcome entry next is. answers_trim _ entry next c.args.request.now _ outcome [] _ c.in-Trim.is c.in_default.is is) c.trim.ensures.leads,
      (λ told mounted. kind_says _ _ _ _ c.args.request.now [] _ Trim _ _ _ c.trim.result c.in-Trim.is (λ has. has) (λ has. has) (λ has. has) (λ is. absurd cc) (c.trim.ensures.damage told mounted)),
    )

pub returns-in-Some-clause-bytes : goal.returns-in-Some-clause-bytes
returns-in-Some-clause-bytes g c =
    data_did _ _ _ _ _ _ _ _ _ c.bytes_of.ensures
    (λ gone nothing. (
      leads_idle g.P.Platform _ _ _ _ _ c.let_go.ensures.outcome (λ outcome entry held is. answers_refused _ entry _ c.args.request.now _ c.in-Some.outcome outcome gone _ c.requires.refusal c.in-Some.is is),
      (λ told mounted. refused_says _ _ _ c.args.request.now gone _ _ c.in-Some.outcome c.let_go.result c.requires.refusal c.in-Some.is c.let_go.ensures.outcome),
    ))
    c.let_go.ensures.bytes

pub returns-in-Write-clause-bytes : goal.returns-in-Write-clause-bytes
returns-in-Write-clause-bytes g c =
    data_did _ _ _ _ _ _ _ _ _ (sym (ap (λ k. bytes_behind k c.args.request.now.length) c.in-Write.is))
    (λ gone both. (
      leads_as g.P.Platform _ _ _ _ _ _ _ (λ outcome entry next is. answers_write _ entry next c.args.request.now _ outcome gone _ c.in-Write.is c.in_default.is is) both.0,
      (λ told mounted. kind_says _ _ _ _ c.args.request.now gone _ Write _ _ _ c.write.result c.in-Write.is (λ has. has) (λ has. has) (λ has. has) (λ is. absurd cc) (both.1 told mounted)),
    ))
    c.write.ensures.bytes

pub returns-in-Some-clause-ends : goal.returns-in-Some-clause-ends
returns-in-Some-clause-ends g c = by_head_refused c.args.request.now.kind c.args.refused c.in-Some.outcome c.let_go.result c.in-Some.is c.let_go.ensures.outcome (c.let_go.ensures.halted c.args.request.now.kind c.args.refused)

pub returns-in-Read-clause-ends : goal.returns-in-Read-clause-ends
returns-in-Read-clause-ends g c = by_head_platform c.args.request.now.kind Read c.args.refused c.read.result c.in-Read.is c.in_default.is c.read.ensures.halts c.read.ensures.comes

pub returns-in-Trim-clause-ends : goal.returns-in-Trim-clause-ends
returns-in-Trim-clause-ends g c = by_head_platform c.args.request.now.kind Trim c.args.refused c.trim.result c.in-Trim.is c.in_default.is c.trim.ensures.halts c.trim.ensures.comes

pub returns-in-Write-clause-ends : goal.returns-in-Write-clause-ends
returns-in-Write-clause-ends g c = by_head_write c.args.request.now.kind c.args.refused c.write.result c.in-Write.is c.in_default.is c.write.ensures.ends

pub returns-in-Some-clause-adds : goal.returns-in-Some-clause-adds
returns-in-Some-clause-adds g c = omega arith

pub returns-in-Read-clause-adds : goal.returns-in-Read-clause-adds
returns-in-Read-clause-adds g c = omega (arith, (c.read.ensures.along (drawn_by g.T.Tape c.args.tape.now)).adds)

pub returns-in-Trim-clause-adds : goal.returns-in-Trim-clause-adds
returns-in-Trim-clause-adds g c = omega (arith, c.trim.ensures.head)

pub returns-in-Write-clause-adds : goal.returns-in-Write-clause-adds
returns-in-Write-clause-adds g c =
    omega (arith, needed_is c.args.refused c.args.request.now.kind Write 0 c.args.request.now.offset c.args.request.now.length c.in_default.is c.in-Write.is, c.write.ensures.along.adds)

pub returns-in-Some-clause-keeps : goal.returns-in-Some-clause-keeps
returns-in-Some-clause-keeps g c = keeps_same _ _ _ _ _ refl refl

pub returns-in-Read-clause-keeps : goal.returns-in-Read-clause-keeps
returns-in-Read-clause-keeps g c = keeps_as _ _ _ _ _ _ (room_is c.args.refused c.args.request.now.kind Read c.args.request.now.length c.in_default.is c.in-Read.is) c.read.ensures.keeps

pub returns-in-Write-clause-keeps : goal.returns-in-Write-clause-keeps
returns-in-Write-clause-keeps g c = keeps_same _ _ _ _ _ refl refl

pub returns-in-Trim-clause-keeps : goal.returns-in-Trim-clause-keeps
returns-in-Trim-clause-keeps g c = keeps_same _ _ _ _ _ refl refl
