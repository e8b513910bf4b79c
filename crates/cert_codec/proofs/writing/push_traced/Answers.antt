use Rattle.std.proofs.Common.{rules, append_assoc}
use Rattle.cert_codec.proofs.Writes.{decimal-0, decimal-1}
use Rattle.cert_codec.proofs.writing.push_traced.Goals as goal

pub returns-in_ok-push_number-in-Some : goal.returns-in_ok-push_number-in-Some
returns-in_ok-push_number-in-Some c = rw (c.in-Some.is, decimal-0) (search (rules, append_assoc))

pub returns-in_ok-append-in-None : goal.returns-in_ok-append-in-None
returns-in_ok-append-in-None c = rw (c.in-None.is, decimal-1) (search (rules, append_assoc))
