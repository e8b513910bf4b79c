use Rattle.std.proofs.Common.{◌≡◌, ◌==◌, List, [], ◌∷◌, ℕ, length, inl, inr, true, false, refl, sym, ◌∙◌, ap, subst, arith}
use Rattle.std.proofs.lemmas.Bool.{eqb-true}
use Rattle.sdbt_base.specs.Told.{Got, GotPart}
use Rattle.sdbt_base.proofs.ToldLaws.{Got-nothing}
use Rattle.line_run.specs.Puts.{damage_line}
use Rattle.line_run.specs.Stops.{IsSound}
use Rattle.session_calls.specs.declared.stops.DeviceStop.{DeviceStop}
use Rattle.session_calls.specs.declared.stops.DeviceStop.TheVariants as device
use Rattle.line_run.proofs.texts.last_line.Goals as goal

nothing : (bytes : List ℕ) → length bytes ≡ 0 → bytes ≡ []
nothing [] e = refl
nothing (byte ∷ bytes) e = absurd (omega (arith, e))

-- a stop without damage has no last line
silent : (stop : DeviceStop) → IsSound stop → length (damage_line stop) ≡ 0
unfolding damage_line
silent device.Platform sound = refl
silent device.Tape sound = refl
silent device.Ledger sound = refl
silent device.Memory sound = refl
silent device.BadRoot sound = absurd sound
silent (device.BadRecord addr) sound = absurd sound

pub returns-then-is_empty-clause-stop : goal.returns-then-is_empty-clause-stop
returns-then-is_empty-clause-stop g c =
    let written = g.O.Sink.written c.args.output.now in
    let none : length c.damage_text-line.result.items ≡ 0 = eqb-true (length c.damage_text-line.result.items) 0 (sym c.is_empty.ensures ∙ c.if-is_empty.true) in
    let empty : damage_line c.args.stop ≡ [] = sym c.damage_text-line.ensures ∙ nothing c.damage_text-line.result.items none in
    inl (refl, subst (λ (line : List ℕ). Got written line written) (sym empty) (Got-nothing written), refl)

pub returns-in-Err-clause-stop : goal.returns-in-Err-clause-stop
returns-in-Err-clause-stop g c =
    let O = g.O.Sink in
    let text : c.as_slice.result.now ≡ damage_line c.args.stop = c.as_slice.ensures.value ∙ c.damage_text-line.ensures in
    let part = subst (λ (line : List ℕ). GotPart (O.written c.args.output.now) line (O.written c.put.new.self)) text c.in-Err.ensures.part in
    inr (
      refl,
      c.in-Err.ensures.cause,
      part,
      λ sound.
          let none : length c.damage_text-line.result.items ≡ 0 = ap (λ (line : List ℕ). length line) c.damage_text-line.ensures ∙ silent c.args.stop sound in
          let is : (length c.damage_text-line.result.items == 0) ≡ true = ap (λ (n : ℕ). n == 0) none in
          let isnt : (length c.damage_text-line.result.items == 0) ≡ false = sym c.is_empty.ensures ∙ c.if-is_empty.false in
          cc,
    )
