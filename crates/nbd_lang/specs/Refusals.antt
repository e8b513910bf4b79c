-- What is refused by a request's head and the size of the device alone.
use Rattle.std.specs.Prelude.{ℕ, ◌+◌, nat_lt, Bool, ◌||◌, if◌then◌else◌, Option, None, Some}
use Rattle.nbd_lang.specs.declared.requests.Request.{Request}
use Rattle.nbd_lang.specs.declared.requests.RequestKind.{RequestKind}
use Rattle.nbd_lang.specs.declared.requests.RequestKind.TheVariants.{Read, Write, Disconnect, Flush, Trim, Other}
use Rattle.nbd_lang.specs.declared.replies.Outcome.{Outcome}
use Rattle.nbd_lang.specs.declared.replies.Outcome.TheVariants.{Invalid, NoSpace}

abbrev pub refused_if : Bool → Outcome → Option Outcome → Option Outcome
refused_if holds why else_why = if holds then Some why else else_why

-- by its kind, and whether it has flags, is longer than 32 MiB, and passes the end: the first that
-- is refused is answered
abbrev pub refusal_by : RequestKind → Bool → Bool → Bool → Option Outcome
refusal_by Read flags long past = refused_if (flags || long || past) Invalid None
refusal_by Write flags long past = refused_if (flags || long) Invalid (refused_if past NoSpace None)
refusal_by Disconnect flags long past = None
refusal_by Flush flags long past = refused_if flags Invalid None
refusal_by Trim flags long past = refused_if (flags || past) Invalid None
refusal_by (Other number) flags long past = Some Invalid

-- why a request is refused on a device of so many bytes, before anything is done
abbrev pub refusal : ℕ → Request → Option Outcome
refusal size request = refusal_by request.kind (nat_lt 0 request.flags) (nat_lt 33554432 request.length) (nat_lt size (request.offset + request.length))
