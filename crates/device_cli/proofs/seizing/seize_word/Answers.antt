use Rattle.std.proofs.Common.{◌≡◌, ℕ, List, Err, inl, inr, ap, sym, subst}
use Rattle.std.specs.Prelude.{map, string_bytes}
use Rattle.device_cli.specs.Seizing.{HasKeys, IsRefused, Seizes}
use Rattle.session_calls.specs.declared.stops.DeviceStop.{DeviceStop}
use Rattle.session_calls.specs.declared.stops.DeviceStop.TheVariants as device
use Rattle.line_run.specs.declared.stop.Stop.{Stop}
use Rattle.device_cli.proofs.SeizeWordLaws.{stopped_whole, stopped_part}
use Rattle.device_cli.proofs.seizing.seize_word.Goals as goal

pub returns-in-Err-clause-seizes : goal.returns-in-Err-clause-seizes
returns-in-Err-clause-seizes g c =
    let P = g.P.Platform in
    let head = P.head c.args.platform.now in
    let image = (P.history c.args.platform.now).present in
    let records : List (List ℕ) = map string_bytes c.args.records.now in
    let written = g.O.Sink.written c.args.output.now in
    let now = g.O.Sink.written c.last_line.new.output in
    let Ends : Stop → Type 0 = λ last. Seizes P.tells head image records written now (Err last) in
    let bad : P.tells → c.in-Err.stop ≡ device.BadRoot → IsRefused head image records = λ told e. c.in-Err.ensures.bad_root told (ap (λ (stop : DeviceStop). Err stop) e) in
    let memory : P.tells → c.in-Err.stop ≡ device.Memory → HasKeys head image records = λ told e. c.in-Err.ensures.memory told (ap (λ (stop : DeviceStop). Err stop) e) in
    elim c.last_line.ensures.stop as (λ s. Ends c.last_line.result) [
      | inl whole ↦ subst Ends (sym whole.0) (stopped_whole P.tells head image records written now c.in-Err.stop bad memory c.in-Err.ensures.stops whole.1)
      | inr part ↦ subst Ends (sym part.0) (stopped_part P.tells head image records written now c.in-Err.stop bad c.in-Err.ensures.stops part.3 part.2)
    ]
