use Rattle.std.proofs.Common.{◌≡◌, ℕ, List, [], ◌∷◌, Result, Option, Some, Ok, Err, refl, sym, subst, rules}
use Rattle.std.specs.Prelude.{IsOk, IsTrue}
use Rattle.device_session.specs.Open.{blocks_of}
use Rattle.device_session.specs.Sessions.{Session}
use Rattle.line_run.specs.Pending.{IsPending}
use Rattle.line_run.specs.Stops.{Ending}
use Rattle.line_run.specs.declared.stop.Stop.{Stop}
use Rattle.text_lines.specs.Lines.{last_line as line_at_end}
use Rattle.session_calls.proofs.CarryLaws.{carries_end, carries_start}
use Rattle.volume_serving.specs.Handled.{Handled, ending_of, goes_on}
use Rattle.volume_serving.specs.World.{World, world}
use Rattle.volume_serving.proofs.HandledLaws.{handled_nothing}
use Rattle.volume_serving.proofs.serving.serve_end.Goals as goal

-- a last line is one where something is left
at_end : (rest : List ℕ) → (rest ≡ [] → ⊥) → rest ∷ [] ≡ line_at_end rest
at_end [] some = absurd (some refl)
at_end (byte ∷ rest) some = refl

went : (answered : Result Session Stop) → IsOk (ending_of answered) → IsOk answered
went (Ok session) ok = ok
went (Err stop) ok = ok

pub returns-then-is_empty-clause-handled : goal.returns-then-is_empty-clause-handled
returns-then-is_empty-clause-handled g c rest pending =
    let written = g.O.Sink.written c.args.output.now in
    let old : World = world g.P.Platform g.T.Tape g.L.Sink (Some c.args.session) c.args.desk.now.table c.args.platform.now c.args.tape.now c.args.ledger.now in
    let empty : rest ≡ [] = (c.is_empty.ensures rest pending.is_pending).0 (search rules) in (
      Some c.args.session,
      subst (λ (line : List ℕ). Handled g.P.Platform.tells (blocks_of c.args.session) old old (Ok tt) (line_at_end line) written written) (sym empty)
          (handled_nothing g.P.Platform.tells (blocks_of c.args.session) old written (g.met.P.Platform.has_room c.args.platform.now)),
    )

pub returns-then-is_empty-clause-carries : goal.returns-then-is_empty-clause-carries
returns-then-is_empty-clause-carries g c = carries_end _ _ _ _ _ _ _ (λ going. tt) (carries_start _ _ c.args.session c.requires.ready)

pub returns-clause-carries : goal.returns-clause-carries
returns-clause-carries g c =
    carries_end _ _ _ _ (goes_on c.answer.result) (IsOk c.answer.result) _ (λ going. went c.answer.result (subst (λ (e : Ending). IsOk e) c.close.ensures.ending going)) c.answer.ensures.carries

pub returns-clause-handled : goal.returns-clause-handled
returns-clause-handled g c rest pending =
    let P = g.P.Platform in let T = g.T.Tape in let L = g.L.Sink in
    let written = g.O.Sink.written in
    let old : World = world P T L (Some c.args.session) c.args.desk.now.table c.args.platform.now c.args.tape.now c.args.ledger.now in
    let new : World = world P T L (goes_on c.answer.result) c.answer.new.desk.table c.answer.new.platform c.answer.new.tape c.answer.new.ledger in
    let some : rest ≡ [] → ⊥ = λ e. let yes : IsTrue c.is_empty.result = (c.is_empty.ensures rest pending.is_pending).1 e in search rules in
    let kept = subst (λ (p : Option (List ℕ)). IsPending p rest) (sym c.line.ensures) pending.is_pending in (
      goes_on c.answer.result,
      subst (λ (ending : Ending). Handled P.tells (blocks_of c.args.session) old new ending (line_at_end rest) (written c.args.output.now) (written c.answer.new.output)) (sym c.close.ensures.ending)
          (subst (λ (lines : List (List ℕ)). Handled P.tells (blocks_of c.args.session) old new (ending_of c.answer.result) lines (written c.args.output.now) (written c.answer.new.output)) (at_end rest some) (c.answer.ensures.handled rest kept)),
    )
