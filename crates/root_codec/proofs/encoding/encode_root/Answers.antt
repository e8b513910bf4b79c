-- The front, and then what stands behind it.
use Rattle.root_codec.specs.RootRecord.{root_fields}
use Rattle.root_codec.proofs.encoding.encode_root.Goals as goal

pub returns-clause-record : goal.returns-clause-record
unfolding root_fields
returns-clause-record c = simp (c.put_front.ensures, c.put_back.ensures)

pub returns-clause-key : goal.returns-clause-key
returns-clause-key c = (c.requires.fits.sized, c.is_key.ensures.1)
