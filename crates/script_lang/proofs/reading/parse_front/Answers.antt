use Rattle.std.proofs.Common.{take, inl, inr, sym, ap, ◌∙◌, subst}
use Rattle.hex.specs.Hex.{encode_lower}
use Rattle.hex.proofs.HexLemmas.{decode_of-same}
use Rattle.script_lang.specs.Replies.{IsTrimmed}
use Rattle.script_lang.proofs.Fronts.{nothing_is_front, front_hex, found_front}
use Rattle.script_lang.proofs.reading.parse_front.Goals as goal

pub returns-then-is_text-clause-found : goal.returns-then-is_text-clause-found
returns-then-is_text-clause-found c = (nothing_is_front, c.is_text.ensures.0 c.if-is_text.true)

pub returns-in_err-count-clause-none : goal.returns-in_err-count-clause-none
returns-in_err-count-clause-none c = rw c.from_residual.ensures (λ bytes front e.
    elim (front_hex c.args.text.now bytes front e) [
      | inl dash ↦ let passes = c.is_text.ensures.1 dash in absurd (cc (passes, c.if-is_text.false))
      | inr h ↦ c.in_err-count.ensures.none bytes h.0
    ])

pub returns-then-ends_in_zero-clause-none : goal.returns-then-ends_in_zero-clause-none
returns-then-ends_in_zero-clause-none c bytes front e =
    elim (front_hex c.args.text.now bytes front e) [
      | inl dash ↦ let passes = c.is_text.ensures.1 dash in absurd (cc (passes, c.if-is_text.false))
      | inr h ↦
          let same = decode_of-same c.args.text.now (take c.in_ok-count.count c.parse_hex.new.buffer) bytes c.in_ok-count.ensures.found.0 h.0.0 in
          c.if-ends_in_zero.ensures.zero (subst IsTrimmed (sym same) front.trimmed)
    ]

pub returns-then-is_hex_of-clause-found : goal.returns-then-is_hex_of-clause-found
returns-then-is_hex_of-clause-found c =
    found_front c.args.text.now (take c.in_ok-count.count c.parse_hex.new.buffer) c.in_ok-count.ensures.found
    c.if-ends_in_zero.ensures.trimmed (c.is_hex_of.ensures.0 c.if-is_hex_of.true)

pub returns-else-is_hex_of-clause-none : goal.returns-else-is_hex_of-clause-none
returns-else-is_hex_of-clause-none c bytes front e =
    elim (front_hex c.args.text.now bytes front e) [
      | inl dash ↦ let passes = c.is_text.ensures.1 dash in absurd (cc (passes, c.if-is_text.false))
      | inr h ↦
          let same = decode_of-same c.args.text.now (take c.in_ok-count.count c.parse_hex.new.buffer) bytes c.in_ok-count.ensures.found.0 h.0.0 in
          let passes = c.is_hex_of.ensures.1 (h.1 ∙ ap encode_lower (sym same)) in
          absurd (cc (passes, c.if-is_hex_of.false))
    ]
