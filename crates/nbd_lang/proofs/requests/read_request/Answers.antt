use Rattle.std.proofs.Common.{◌++◌, ap, sym, ◌∙◌, List, ℕ}
use Rattle.std.specs.Int.{w16, w32, w64, to_be_bytes}
use Rattle.nbd_lang.specs.Requests.{request_number}
use Rattle.nbd_lang.proofs.FieldLaws.{request_spelled}
use Rattle.nbd_lang.proofs.requests.read_request.Goals as goal

pub returns-clause-spelled : goal.returns-clause-spelled
returns-clause-spelled c =
    ap (λ (rest : List ℕ). to_be_bytes w32 0x25609513 ++ rest)
    (request_spelled c.args.bytes.now (to_be_bytes w16 c.u16_of.result) (to_be_bytes w16 (request_number c.kind_of.result)) (to_be_bytes w64 c.u64_of.result) (to_be_bytes w64 c.u64_of-2.result) (to_be_bytes w32 c.u32_of.result)
    c.requires c.u16_of.ensures.spelled (c.u16_of-2.ensures.spelled ∙ ap (to_be_bytes w16) (sym c.kind_of.ensures.number)) c.u64_of.ensures.spelled c.u64_of-2.ensures.spelled c.u32_of.ensures.spelled)
