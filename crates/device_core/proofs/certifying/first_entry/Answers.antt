use Rattle.std.proofs.Common.{ℕ, List, [], ◌∷◌, ◌++◌, ◌∙◌, ap, arith}
use Rattle.sdbt_base.specs.Traces.{Traced, NodeOver}
use Rattle.device_core.proofs.CertifyingLaws.{first_differ, with_range}
use Rattle.device_core.proofs.certifying.first_entry.Goals as goal

pub returns : goal.returns
returns c = with_range c.line.result _ _ _ (λ line fits is. record {
  cert = c.in_ok-cert.cert;
  in_text = fits;
  is = is;
  of = c.in_ok-cert.ensures.trees _ _ _ (λ one other has there same. absurd (omega (arith, has.1)))
      (first_differ c.args.addr _
      (c.in_ok-push.ensures
      ∙ ap (λ (ts : List Traced). ts ++ record { addr = c.args.addr; trace = NodeOver c.new.result } ∷ []) c.new-added.ensures
      ∙ ap (λ (children : List ℕ). record { addr = c.args.addr; trace = NodeOver children } ∷ []) c.new.ensures));
}) c.line.ensures.in_range c.line.ensures.entry
