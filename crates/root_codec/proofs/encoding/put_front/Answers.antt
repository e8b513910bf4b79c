-- Each field is written in its place.
use Rattle.root_codec.specs.RootRecord.{root_fields}
use Rattle.root_codec.proofs.encoding.put_front.Goals as goal

pub returns : goal.returns
unfolding root_fields
returns c = simp (c.copy_from_slice.ensures.after, c.copy_from_slice-2.ensures.after, c.copy_from_slice-3.ensures.after, c.copy_from_slice-4.ensures.after, c.copy_from_slice-5.ensures.after, c.copy_from_slice-6.ensures.after, c.copy_from_slice-7.ensures.after, c.copy_from_slice-8.ensures.after, c.to_be_bytes.ensures, c.to_be_bytes-2.ensures, c.to_be_bytes-3.ensures, c.to_be_bytes-4.ensures, c.to_be_bytes-5.ensures)
