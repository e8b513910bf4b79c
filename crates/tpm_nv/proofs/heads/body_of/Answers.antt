use Rattle.std.proofs.Common.{arith, [], lit<}
use Rattle.tpm_nv.proofs.heads.body_of.Goals as goal
use Rattle.tpm_nv.proofs.heads.body_of.Goals.{else-head-via-then-head+else-is_empty, else-head-via-else-head}

pub returns-in_default-clause-failed : goal.returns-in_default-clause-failed
returns-in_default-clause-failed c = (
  λ done. c.in_default.ensures.only c.args.tag 0 done.0 c.ranges.tag.fits (lit< tt) done.1,
  λ n above below refusal. c.in_default.ensures.only 0x8001 n [] (lit< tt) below refusal,
)

pub returns-then-head-eq0-clause-failed : goal.returns-then-head-eq0-clause-failed
returns-then-head-eq0-clause-failed c = (
  λ done. c.if-head-tag.false (c.in-Some.ensures.only c.args.tag 0 done.0 c.ranges.tag.fits (lit< tt) done.1).0,
  λ n above below refusal. omega (arith, (c.in-Some.ensures.only 0x8001 n [] (lit< tt) below refusal).1),
)

pub returns-clause-failed : goal.returns-clause-failed
returns-clause-failed c = (
  λ done. c.if-head-eq0.false (c.in-Some.ensures.only c.args.tag 0 done.0 c.ranges.tag.fits (lit< tt) done.1).1,
  λ n above below refusal.
      let same = c.in-Some.ensures.only 0x8001 n [] (lit< tt) below refusal in
      elim c.else-head.branch [
        | else-head-via-then-head+else-is_empty w ↦ grind (arith, same.2)
        | else-head-via-else-head w ↦ absurd (w.if-head.false same.0)
      ],
)
