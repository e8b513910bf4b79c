use Rattle.std.proofs.Common.{◌≡◌, List, ℕ, [], Option, None, Some, Ok, Err, inl, inr, refl, ap, ◌∙◌}
use Rattle.line_run.specs.declared.stop.Stop.TheVariants as stops
use Rattle.device_course.proofs.KeysLaws.{on_start, on_done}
use Rattle.device_cli.specs.Ran.{Ran}
use Rattle.line_run.specs.Puts.{damage_line}
use Rattle.device_cli.specs.Working.{script_of}
use Rattle.device_cli.specs.World.{World, start_by, world_by}
use Rattle.device_cli.proofs.WorkLaws.{idle, told_replies, work_ran}
use Rattle.device_cli.proofs.working.work.Goals as goal

pub returns-in_default-clause-keeps : goal.returns-in_default-clause-keeps
returns-in_default-clause-keeps g c = on_done _ _ _ _ _ None _ _ _ _ _ _ (on_start _ _ _ None _ _) (λ going. going) (λ keys h. tt)

pub returns-in_default-clause-worked : goal.returns-in_default-clause-worked
returns-in_default-clause-worked g c = (None, inl (idle _ _))

pub returns-in_default-new-clause-keeps : goal.returns-in_default-new-clause-keeps
returns-in_default-new-clause-keeps g c = on_done _ _ _ _ _ None _ _ _ _ _ _ (on_start _ _ _ None _ _) (λ going. going) (λ keys h. tt)

pub returns-in_default-new-clause-worked : goal.returns-in_default-new-clause-worked
returns-in_default-new-clause-worked g c = (None, inl (idle _ _))

pub returns-in-Ok-run-clause-worked : goal.returns-in-Ok-run-clause-worked
returns-in-Ok-run-clause-worked g c =
    let P = g.P.Platform in
    let ran = c.in-Ok-run.ensures.ran in
    let old : World = start_by P g.T.Tape c.args.platform.now c.args.tape.now in
    let new : World = world_by P g.T.Tape ran.0 c.run.new.platform c.run.new.tape in
    let script : List ℕ = script_of c.args.seed c.args.count in
    let told : List ℕ = c.run.new.output.written in
    let left : Option (List ℕ) = Some c.run.new.input.left in
    let text : c.new-input.result.left ≡ script = ap (λ s. s.left) c.new-input.ensures ∙ c.in-Ok.ensures.text in
    let none : c.in-Ok-new.told.written ≡ [] = ap (λ s. s.written) c.in-Ok-new.ensures in
    let there : Ran P.tells (left ≡ Some script) old new damage_line (Ok tt) (Some script) left (Some []) (Some told) =
    work_ran P.tells c.args.seed c.args.count old new (Ok tt) c.new-input.result c.run.new.input c.in-Ok-new.told.written told text none ran.1 in (
      ran.0,
      inr (record {
        serving = Ok tt;
        left = left;
        told = Some told;
        ran = there;
        says = c.put_summary.ensures.put there.handled.replied.replies (c.bytes.ensures ∙ told_replies P.tells _ old new left told script there);
      }),
    )

pub returns-in-Err-Device-clause-worked : goal.returns-in-Err-Device-clause-worked
returns-in-Err-Device-clause-worked g c =
    let P = g.P.Platform in
    let ran = rw c.in-Err-Device.field-0-is at c.in-Err-Device.ensures.ran in
    let old : World = start_by P g.T.Tape c.args.platform.now c.args.tape.now in
    let new : World = world_by P g.T.Tape ran.0 c.run.new.platform c.run.new.tape in
    let text : c.new-input.result.left ≡ script_of c.args.seed c.args.count = ap (λ s. s.left) c.new-input.ensures ∙ c.in-Ok.ensures.text in
    let none : c.in-Ok-new.told.written ≡ [] = ap (λ s. s.written) c.in-Ok-new.ensures in (
      ran.0,
      inr (record {
        serving = Err (stops.Device c.in-Err-Device.stop);
        left = Some c.run.new.input.left;
        told = Some c.run.new.output.written;
        ran = work_ran P.tells c.args.seed c.args.count old new (Err (stops.Device c.in-Err-Device.stop)) c.new-input.result c.run.new.input c.in-Ok-new.told.written c.run.new.output.written text none ran.1;
        says = elim c.last_line.ensures.stop [
          | inl whole ↦ inl (ap Err whole.0, whole.1)
          | inr part ↦ inr (ap Err part.0, part.2)
        ];
      }),
    )

pub returns-in-Err-Sink-clause-worked : goal.returns-in-Err-Sink-clause-worked
returns-in-Err-Sink-clause-worked g c =
    let P = g.P.Platform in
    let ran = rw c.in-Err-Sink.field-0-is at c.in-Err-Sink.ensures.ran in
    let old : World = start_by P g.T.Tape c.args.platform.now c.args.tape.now in
    let new : World = world_by P g.T.Tape ran.0 c.run.new.platform c.run.new.tape in
    let text : c.new-input.result.left ≡ script_of c.args.seed c.args.count = ap (λ s. s.left) c.new-input.ensures ∙ c.in-Ok.ensures.text in
    let none : c.in-Ok-new.told.written ≡ [] = ap (λ s. s.written) c.in-Ok-new.ensures in (
      ran.0,
      inr (record {
        serving = Err stops.Sink;
        left = Some c.run.new.input.left;
        told = Some c.run.new.output.written;
        ran = work_ran P.tells c.args.seed c.args.count old new (Err stops.Sink) c.new-input.result c.run.new.input c.in-Ok-new.told.written c.run.new.output.written text none ran.1;
        says = (refl, refl);
      }),
    )
