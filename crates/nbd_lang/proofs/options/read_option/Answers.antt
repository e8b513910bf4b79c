use Rattle.std.proofs.Common.{◌++◌, ap, sym, ◌∙◌, List, ℕ}
use Rattle.std.specs.Prelude.{codes}
use Rattle.std.specs.Int.{w32, to_be_bytes}
use Rattle.nbd_lang.specs.Options.{option_number}
use Rattle.nbd_lang.proofs.FieldLaws.{option_spelled}
use Rattle.nbd_lang.proofs.options.read_option.Goals as goal

pub returns-clause-spelled : goal.returns-clause-spelled
returns-clause-spelled c =
    ap (λ (rest : List ℕ). codes "IHAVEOPT" ++ rest)
    (option_spelled c.args.bytes.now (to_be_bytes w32 (option_number c.kind_of.result)) (to_be_bytes w32 c.u32_of-2.result)
    c.requires (c.u32_of.ensures.spelled ∙ ap (to_be_bytes w32) (sym c.kind_of.ensures.number)) c.u32_of-2.ensures.spelled)
