use Rattle.cert_checker.proofs.PickLaws.{stays_inside, stays_first, stays_last}
use Rattle.cert_checker.proofs.chains.stays.Goals as goal

pub returns-then-i-certs : goal.returns-then-i-certs
returns-then-i-certs c = λ cert at.
    stays_inside c.args.certs.now c.args.i c.args.number c.commit-commit.result c.commit.result c.index-certs-i.result c.index-certs-i-then-i-certs.result cert c.if-i-certs.true
    c.index-certs-i.is c.commit-commit.ensures c.index-certs-i-then-i-certs.is c.commit.ensures at

pub returns-then-commit-eq0 : goal.returns-then-commit-eq0
returns-then-commit-eq0 c = λ cert at.
    stays_first c.args.certs.now c.args.i c.args.number c.commit-commit.result c.index-certs-i.result cert c.if-i-certs.false c.index-certs-i.is c.commit-commit.ensures at c.if-commit-eq0.true

pub returns-else-commit-eq0 : goal.returns-else-commit-eq0
returns-else-commit-eq0 c = λ cert at.
    stays_last c.args.certs.now c.args.i c.args.number c.commit-commit.result c.index-certs-i.result cert c.if-i-certs.false c.index-certs-i.is c.commit-commit.ensures at c.if-commit-eq0.false
