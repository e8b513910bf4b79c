use Rattle.std.proofs.Common.{ℕ, List, [], Err, ◌∙◌, subst}
use Rattle.std.specs.Prelude.{flat_map}
use Rattle.sdbt_base.specs.Told.{Got}
use Rattle.sdbt_base.proofs.ToldLaws.{Got-nothing}
use Rattle.seizure.specs.declared.opened.Opened.{Opened}
use Rattle.line_run.specs.Puts.{HasPut}
use Rattle.device_cli.specs.Seizing.{opened_line, counts_line}
use Rattle.device_cli.proofs.SeizeWordLaws.{put_front, put_last}
use Rattle.device_cli.proofs.seizing.put_report.Goals as goal

pub returns-in-Err-clause-put : goal.returns-in-Err-clause-put
returns-in-Err-clause-put g c =
    let written = g.O.Sink.written in
    let before = written c.args.output.now in
    let now = written c.put_opened.new.output in
    let report = c.args.report.now in
    put_front c.in-Err.stop [] (flat_map opened_line report.opened) (counts_line report) before before now (Got-nothing before)
    (subst (λ (opened : List Opened). HasPut (flat_map opened_line opened) (Err c.in-Err.stop) before now) c.opened.ensures c.in-Err.ensures.put)

pub returns-clause-put : goal.returns-clause-put
returns-clause-put g c =
    let written = g.O.Sink.written in
    let before = written c.args.output.now in
    let mid = written c.put_opened.new.output in
    let now = written c.put_line.new.output in
    let report = c.args.report.now in
    put_last c.put_line.result (flat_map opened_line report.opened) (counts_line report) before mid now
    (subst (λ (opened : List Opened). Got before (flat_map opened_line opened) mid) c.opened.ensures c.in_default.ensures.put)
    (subst (λ (line : List ℕ). HasPut line c.put_line.result mid now) (c.as_slice.ensures.value ∙ c.counts_text.ensures) c.put_line.ensures.put)
