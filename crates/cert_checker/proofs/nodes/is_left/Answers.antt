use Rattle.std.proofs.Common.{sym, ◌∙◌}
use Rattle.cert_checker.proofs.HeldLaws.{held_has}
use Rattle.cert_checker.proofs.LookLaws.{fails}
use Rattle.cert_checker.proofs.nodes.is_left.Goals as goal

pub returns : goal.returns
returns c = (
  λ is_so. record {
    live_before = held_has c.args.live.now c.args.addr (sym c.contains_key.ensures ∙ c.if-not-contains_key.false);
    stays = fails c.is_among.result c.is_among.ensures c.if-is_among.false;
    orphan = c.is_orphan.ensures.0 is_so;
  },
  λ left. c.is_orphan.ensures.1 left.orphan,
)
