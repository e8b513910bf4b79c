use Rattle.std.proofs.Common.{◌≡◌, ℕ, List, [], Ok, sym, subst, rules}
use Rattle.text_lines.specs.Lines.{last_line as line_at_end}
use Rattle.device_cli.specs.Replied.{Handled}
use Rattle.line_run.specs.Puts.{no_line}
use Rattle.device_cli.specs.World.{World, world_by}
use Rattle.device_cli.proofs.RepliedLaws.{Handled-nothing}
use Rattle.device_course.proofs.KeysLaws.{on_start}
use Rattle.device_cli.proofs.run.serve_end.Goals as goal

pub returns-then-is_empty-clause-handled : goal.returns-then-is_empty-clause-handled
returns-then-is_empty-clause-handled g c rest pending =
    let P = g.P.Platform in
    let written = g.O.Sink.written c.args.output.now in
    let old : World = world_by P g.T.Tape c.args.desk.now.session c.args.platform.now c.args.tape.now in
    let empty : rest ≡ [] = (c.is_empty.ensures rest pending.is_pending).0 (search rules) in
    subst (λ (line : List ℕ). Handled P.tells ⊥ old old no_line (Ok tt) (line_at_end line) written written) (sym empty)
    (Handled-nothing P.tells old no_line written (g.met.P.Platform.has_room c.args.platform.now))

pub returns-then-is_empty-clause-keeps : goal.returns-then-is_empty-clause-keeps
returns-then-is_empty-clause-keeps g c = on_start _ _ _ c.args.desk.now.session _ _
