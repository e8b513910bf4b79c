use Rattle.std.proofs.Common.{Some, length, refl, sym, ◌∙◌, ap, arith}
use Rattle.folder_platform.specs.Told.{zero_root}
use Rattle.folder_platform.proofs.Looking.{not_root}
use Rattle.folder_platform.proofs.in_folder.record_in.Goals as goal

pub returns-in_default-clause-held : goal.returns-in_default-clause-held
unfolding zero_root
returns-in_default-clause-held c = λ yes.
    not_root c.args.bytes.now (length c.args.bytes.now) refl (grind arith) (grind arith) ∙ ap Some (sym c.copy_from_slice-in_default.ensures.after)
