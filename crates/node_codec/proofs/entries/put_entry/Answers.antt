-- Each field is written in its place.
use Rattle.std.proofs.Common.{append-nil}
use Rattle.node_codec.specs.Record.{entry_fields}
use Rattle.node_codec.proofs.entries.put_entry.Goals as goal

pub returns : goal.returns
unfolding entry_fields
returns c = simp (c.copy_from_slice.ensures.after, c.copy_from_slice-2.ensures.after, c.to_be_bytes.ensures, c.to_be_bytes-2.ensures, c.put_key.ensures, append-nil)
