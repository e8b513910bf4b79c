use Rattle.std.proofs.Common.{ℕ, List, sym, subst, ◌∙◌}
use Rattle.std.specs.Prelude.{Contains}
use Rattle.cert_checker.proofs.LookLaws.{fails}
use Rattle.cert_checker.proofs.NodeLaws.{addrs_ascend, tells_no_root, tells_together}
use Rattle.cert_checker.proofs.nodes.breaks_root.Goals as goal

pub is_among-requires : goal.is_among-requires
is_among-requires c = addrs_ascend c.args.cert.now c.deref.result.now (c.deref.ensures.value ∙ c.requires.of.addrs) c.requires.fresh

pub returns-then-not-is_among : goal.returns-then-not-is_among
returns-then-not-is_among c =
    tells_no_root c.args.cert.now c.deref.result.now c.root-root.result (c.deref.ensures.value ∙ c.requires.of.addrs) c.root-root.ensures (fails c.is_among.result c.is_among.ensures c.if-not-is_among.true)

pub returns : goal.returns
returns c =
    tells_together c.args.cert.now c.deref-2.result.now c.args.taken.now c.root-root.result c.first_loose.result (c.deref-2.ensures.value ∙ c.requires.of.addrs) c.requires.fresh c.requires.taken c.root-root.ensures
    (subst (λ (xs : List ℕ). Contains xs c.root-root.result) (c.deref.ensures.value ∙ sym c.deref-2.ensures.value) (c.is_among.ensures.0 c.if-not-is_among.false))
    c.first_loose.ensures
