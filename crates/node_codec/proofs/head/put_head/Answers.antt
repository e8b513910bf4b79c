-- Each field is written in its place.
use Rattle.node_codec.specs.Record.{head_fields}
use Rattle.node_codec.proofs.head.put_head.Goals as goal

pub returns : goal.returns
unfolding head_fields
returns c = simp (c.copy_from_slice.ensures.after, c.copy_from_slice-2.ensures.after, c.copy_from_slice-3.ensures.after, c.copy_from_slice-4.ensures.after, c.copy_from_slice-5.ensures.after, c.copy_from_slice-6.ensures.after, c.copy_from_slice-7.ensures.after, c.to_be_bytes.ensures, c.to_be_bytes-2.ensures, c.to_be_bytes-3.ensures)
