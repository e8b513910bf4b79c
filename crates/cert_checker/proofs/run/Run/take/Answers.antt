use Rattle.std.proofs.Common.{◌+◌, ◌≤◌, length, None, ap, arith}
use Rattle.std.proofs.lemmas.Result.{err_from_is_err_and}
use Rattle.cert_checker.specs.Chain.{last_or}
use Rattle.cert_checker.specs.First.{never_addrs}
use Rattle.cert_checker.proofs.RunLaws.{stands, settles_after, fits, goes_on}
use Rattle.cert_checker.proofs.run.Run.take.Goals as goal

pub returns-in_err-check : goal.returns-in_err-check
returns-in_err-check c = λ done is.
    let p = err_from_is_err_and c.from_residual-in_err-check.result c.from_residual-in_err-check.ensures.1 in
    rw (p.1, p.2) (settles_after (Unit {0}) (Unit {0}) c.args.self.now done c.args.cert.now (Unit {0}) c.in_err-check.field-0.0 is (c.in_err-check.ensures (last_or None done) (stands c.args.self.now done is)))

pub overflow_add-self-2 : goal.overflow_add-self-2
overflow_add-self-2 c =
    let done = c.requires.0 in
    let bound : c.args.self.now.deleted + (length c.args.cert.now.gone + length (never_addrs c.args.cert.now)) ≤ c.args.cert.now.head
    = fits c.args.self.now done c.args.cert.now c.requires.1 (c.in_ok-check.ensures (last_or None done) (stands c.args.self.now done c.requires.1)) in
    let gone = ap length c.in_ok-change.ensures.gone in
    let never = ap length c.in_ok-change.ensures.never in
    let full = c.head.ensures in
    let e = c.in_ok-change.change.gone.ok.0 in
    let e' = c.in_ok-change.change.never.ok.0 in
    omega arith

pub returns : goal.returns
returns c = λ done is.
    let gone = ap length c.in_ok-change.ensures.gone in
    let never = ap length c.in_ok-change.ensures.never in
    let e = c.in_ok-change.change.gone.ok.0 in
    let e' = c.in_ok-change.change.never.ok.0 in
    goes_on c.args.self.now done c.args.cert.now c.in_ok-change.change c.advance.new.self (record { commit = c.commit.result; head = c.head.result; root = c.root.result }) _ is
    (c.in_ok-check.ensures (last_or None done) (stands c.args.self.now done is)) c.in_ok-change.ensures
    (c.in_ok-advance.ensures.entries c.args.cert.now c.in_ok-change.ensures) (c.in_ok-advance.ensures.parents c.args.cert.now c.in_ok-change.ensures)
    (λ i. record { commit = c.commit.ensures i; head = c.head.ensures i; root = c.root.ensures i })
    (omega arith)
