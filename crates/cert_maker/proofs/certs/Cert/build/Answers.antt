use Rattle.std.proofs.Common.{refl, sym, subst}
use Rattle.cert_maker.specs.Cert as specs
use Rattle.cert_maker.specs.CertOf.{CertOf}
use Rattle.cert_maker.proofs.CertLaws.{certifies, one_each}
use Rattle.cert_maker.proofs.certs.Cert.build.Goals as goal

pub returns-clause-trees : goal.returns-clause-trees
returns-clause-trees c = λ old new pages apart differ.
    subst (λ (cert : specs.Cert). CertOf old new c.args.commit c.args.root c.args.base c.args.head pages cert) (sym c.from_parts.ensures)
    (certifies old new c.args.commit c.args.root c.args.base c.args.head pages c.args.added c.args.gone.now c.args.never.now
    (record { commit = c.args.commit; base = c.args.base; head = c.args.head; root = c.args.root; added = c.ascend.new.self; gone = c.in_ok-gone.gone; never = c.in_ok-never.never })
    differ refl refl refl refl (c.ascend.ensures (one_each old new pages c.args.added c.args.gone.now c.args.never.now differ)) c.in_ok-gone.ensures (c.in_ok-never.ensures apart))
