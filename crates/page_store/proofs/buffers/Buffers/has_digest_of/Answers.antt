use Rattle.std.proofs.Common.{◌↔◌, List, ℕ, IsTrue, ap, subst, ◌∙◌}
use Rattle.page_digest.specs.Digest.{FitsDigest}
use Rattle.page_store.specs.Buffer.{Held}
use Rattle.page_store.proofs.buffers.Buffers.has_digest_of.Goals as goal

pub returns : goal.returns
returns c = subst (λ (bytes : List ℕ). IsTrue c.fits_digest.result ↔ FitsDigest c.args.key.now bytes) (c.deref.ensures.value ∙ ap (λ (held : Held). held.page) c.self.view_is) c.fits_digest.ensures
