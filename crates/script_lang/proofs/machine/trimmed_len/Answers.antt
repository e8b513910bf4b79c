use Rattle.std.proofs.Common.{◌≡◌, ℕ, [], take, sym, ap, ◌∙◌, arith}
use Rattle.script_lang.specs.Arrays.{trimmed}
use Rattle.script_lang.proofs.Trims.{trim_step, trim_end, trimmed-nil}
use Rattle.script_lang.proofs.machine.trimmed_len.Goals as goal

pub returns-then-bytes-len-ne0-clause-trimmed : goal.returns-then-bytes-len-ne0-clause-trimmed
returns-then-bytes-len-ne0-clause-trimmed c =
    sym (trim_end c.args.bytes.now c.loop-len.len (omega arith) c.loop-len.invariant.within c.if-bytes-len-ne0.true) ∙ c.loop-len.invariant.same

pub loop-len-preserved : goal.loop-len-preserved
loop-len-preserved c = record {
  within = omega arith;
  same = trim_step c.args.bytes.now c.loop-len.len (omega arith) c.loop-len.invariant.within c.if-bytes-len-ne0.false ∙ c.loop-len.invariant.same;
}

pub returns-clause-trimmed : goal.returns-clause-trimmed
returns-clause-trimmed c =
    let none : c.loop-len.len ≡ 0 = omega arith in
    let empty : take c.loop-len.len c.args.bytes.now ≡ [] = ap (λ (n : ℕ). take n c.args.bytes.now) none in
    empty ∙ sym trimmed-nil ∙ ap trimmed (sym empty) ∙ c.loop-len.invariant.same
