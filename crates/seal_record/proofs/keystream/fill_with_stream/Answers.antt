use Rattle.std.proofs.Common.{ap, ◌∙◌}
use Rattle.rand_chacha.specs.ChaCha.{of_seed}
use Rattle.seal_record.proofs.KeystreamLemmas.{filled_front}
use Rattle.seal_record.proofs.keystream.fill_with_stream.Goals as goal

pub returns : goal.returns
returns c =
    filled_front c.args.key.now _ c.fill_words.new.out c.from_seed-rng.result c.fill_words.ensures.written
    (c.from_seed-rng.ensures ∙ ap of_seed c.bytes.ensures.value) c.requires.whole c.requires.short
