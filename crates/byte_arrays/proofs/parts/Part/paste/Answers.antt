use Rattle.std.proofs.Common.{◌∙◌, arith}
use Rattle.byte_arrays.proofs.ArrayLaws.{part_pasted}
use Rattle.byte_arrays.proofs.parts.Part.paste.Goals as goal

pub returns : goal.returns
returns c array offset all done is_part is before =
    let part = c.args.self.now in
    part_pasted array offset all done part.block part.start part.count c.args.block.now _ _ is_part before (omega arith) (c.copy_from_slice.ensures.after ∙ is)
