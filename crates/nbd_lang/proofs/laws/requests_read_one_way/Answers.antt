use Rattle.nbd_lang.specs.Requests.{FitsSent, request_bytes}
use Rattle.nbd_lang.proofs.ReadingLaws.{words_read_one_way, request_reads}
use Rattle.nbd_lang.proofs.laws.requests_read_one_way.Goals as goal

pub returns-clause-one : goal.returns-clause-one
returns-clause-one c = request_reads

pub returns-clause-many : goal.returns-clause-many
returns-clause-many c = words_read_one_way FitsSent request_bytes request_reads
