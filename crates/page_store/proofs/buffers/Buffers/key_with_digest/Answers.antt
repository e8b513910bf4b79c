use Rattle.std.proofs.Common.{ap, ◌∙◌}
use Rattle.page_digest.specs.Digest.{digest}
use Rattle.page_store.specs.Buffer.{Held}
use Rattle.page_store.proofs.AppendLaws.{with_key, with_bare, with_fit, plain_fit}
use Rattle.page_store.proofs.buffers.Buffers.key_with_digest.Goals as goal

pub returns-then-version-eq2-clause-key : goal.returns-then-version-eq2-clause-key
returns-then-version-eq2-clause-key c = with_key c.args.version c.args.key c.digest_of-digest.result c.with_digest.result c.if-version-eq2.true c.requires.key c.digest_of-digest.ensures.bytes c.with_digest.ensures

pub returns-then-version-eq2-clause-bare : goal.returns-then-version-eq2-clause-bare
returns-then-version-eq2-clause-bare c = with_bare c.args.key c.digest_of-digest.result c.with_digest.result c.requires.key.0 c.digest_of-digest.ensures.bytes.0 c.with_digest.ensures

pub returns-then-version-eq2-clause-digest : goal.returns-then-version-eq2-clause-digest
returns-then-version-eq2-clause-digest c =
    with_fit c.args.key c.digest_of-digest.result c.with_digest.result c.args.self.now.page c.requires.key.0
    (c.digest_of-digest.ensures.value ∙ ap digest (c.deref.ensures.value ∙ ap (λ (held : Held). held.page) c.self.view_is)) c.with_digest.ensures

pub returns-else-version-eq2-clause-digest : goal.returns-else-version-eq2-clause-digest
returns-else-version-eq2-clause-digest c = plain_fit c.args.key c.args.self.now.page c.requires.key.0
