use Rattle.std.proofs.Common.{sym, subst, ◌≡◌, Bool, true}
use Rattle.std.specs.Prelude.{Contains, ◌↔◌}
use Rattle.cert_checker.proofs.LookLaws.{searches}
use Rattle.cert_checker.proofs.search.is_among.Goals as goal

pub returns : goal.returns
returns c = subst (λ (b : Bool). (b ≡ true) ↔ Contains c.args.addrs.now c.args.addr) (sym c.is_ok.ensures.value) (searches c.args.addrs.now c.args.addr c.binary_search.result c.requires c.binary_search.ensures.position)
