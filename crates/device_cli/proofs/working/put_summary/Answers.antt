use Rattle.std.proofs.Common.{ℕ, ◌+◌, List, [], Err, drop, ◌∙◌, subst}
use Rattle.std.specs.Prelude.{flat_map}
use Rattle.sdbt_base.specs.Told.{Got}
use Rattle.sdbt_base.proofs.ToldLaws.{Got-nothing}
use Rattle.script_lang.specs.Replies.{line_of}
use Rattle.workload.specs.Summaries.{heading}
use Rattle.line_run.specs.Puts.{HasPut}
use Rattle.device_cli.proofs.SeizeWordLaws.{put_front, put_last}
use Rattle.device_cli.proofs.WorkLaws.{summary_parts}
use Rattle.device_cli.proofs.working.put_summary.Goals as goal

pub returns-in-Err-clause-put : goal.returns-in-Err-clause-put
returns-in-Err-clause-put g c replies told =
    let written = g.O.Sink.written in
    let before = written c.args.output.now in
    let now = written c.put_line.new.output in
    let tally = c.of.result in
    let first = heading c.args.seed c.args.count tally.accepted tally.refused in
    let last = flat_map line_of (drop (c.args.count + 3) replies) in
    subst (λ (text : List ℕ). HasPut text (Err c.in-Err.stop) before now)
    (summary_parts c.args.seed c.args.count tally.accepted tally.refused replies (c.of.ensures.refused replies told) (c.of.ensures.all replies told))
    (put_front c.in-Err.stop [] first last before before now (Got-nothing before)
    (subst (λ (line : List ℕ). HasPut line (Err c.in-Err.stop) before now) (c.as_slice.ensures.value ∙ c.heading_of.ensures) c.in-Err.ensures.put))

pub returns-clause-put : goal.returns-clause-put
returns-clause-put g c replies told =
    let written = g.O.Sink.written in
    let before = written c.args.output.now in
    let mid = written c.put_line.new.output in
    let now = written c.put_line-2.new.output in
    let tally = c.of.result in
    let first = heading c.args.seed c.args.count tally.accepted tally.refused in
    let last = flat_map line_of (drop (c.args.count + 3) replies) in
    subst (λ (text : List ℕ). HasPut text c.put_line-2.result before now)
    (summary_parts c.args.seed c.args.count tally.accepted tally.refused replies (c.of.ensures.refused replies told) (c.of.ensures.all replies told))
    (put_last c.put_line-2.result first last before mid now
    (subst (λ (line : List ℕ). Got before line mid) (c.as_slice.ensures.value ∙ c.heading_of.ensures) c.in_default.ensures.put)
    (subst (λ (line : List ℕ). HasPut line c.put_line-2.result mid now) (c.lines_behind.ensures replies told) c.put_line-2.ensures.put))
