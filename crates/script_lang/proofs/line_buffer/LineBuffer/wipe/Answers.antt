use Rattle.std.proofs.Common.{arith, ◌≡◌, ◌∙◌, ◌++◌, ℕ, List, length, drop, replicate, ap}
use Rattle.std.proofs.lemmas.List.{length-take-le}
use Rattle.script_lang.specs.Lines.{Line, line_in, blank_line}
use Rattle.script_lang.proofs.RoomLaws.{blank_room}
use Rattle.script_lang.proofs.line_buffer.LineBuffer.wipe.Goals as goal

-- a room of zeros alone, at whose front no text stands
blank : (len : ℕ) (bytes : List ℕ) → len ≡ 0 → bytes ≡ replicate 8300 0 → line_in len bytes ≡ blank_line
blank len bytes empty zeros =
    ap (λ (n : ℕ). line_in n bytes) empty ∙ ap (line_in 0) zeros

pub returns : goal.returns
returns c =
    let len = length-take-le c.self.inside.len c.self.inside.bytes (omega (arith, c.self.told, c.self.invariant.fits)) in
    let empty : c.self.inside.len ≡ 0 = omega (arith, len, ap (λ (line : Line). length line.text) c.self.view_is, ap length c.clear.ensures) in
    let bytes = c.self.inside.bytes in
    let used = length-take-le c.self.inside.used bytes (omega (arith, c.self.told, c.self.invariant.short)) in
    let filled : c.fill.new.self ≡ replicate c.self.inside.used 0 = c.fill.ensures.after (λ y same. same) ∙ ap (λ (n : ℕ). replicate n 0) used in
    let blanked : replicate c.self.inside.used 0 ++ drop c.self.inside.used bytes ≡ replicate (length bytes) 0 =
    blank_room c.self.inside.used bytes (omega (arith, c.self.told, c.self.invariant.short)) (λ place behind. c.self.invariant.zeros place (omega (arith, empty)) behind) in
    let room : c.fill.new.self ++ drop c.self.inside.used bytes ≡ replicate 8300 0 =
    ap (λ (front : List ℕ). front ++ drop c.self.inside.used bytes) filled ∙ blanked ∙ ap (λ (n : ℕ). replicate n 0) c.self.told in
    blank _ _ empty room
