-- The bytes, and then the digest.
use Rattle.std.proofs.Common.{◌++◌, ◌∙◌, arith}
use Rattle.std.proofs.lemmas.List.{length-drop}
use Rattle.record_versions.specs.Laws.{parts_of_key}
use Rattle.record_versions.proofs.keys.put_key.Goals as goal

pub put_behind-requires : goal.put_behind-requires
put_behind-requires c = omega (arith, length-drop 32 c.args.key.now, c.requires)

pub returns : goal.returns
returns c = (λ i. (c.copy_from_slice.ensures.after ∙ c.bytes.ensures.value) i ++ c.put_behind.ensures i) ∙ parts_of_key c.args.key.now
