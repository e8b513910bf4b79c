-- What a page's digest is.
use Rattle.std.specs.Prelude.{◌≡◌, ◌⊎◌, ℕ, List, [], length}
use Rattle.sdbt_base.specs.Keys.{digest_in}
use Rattle.sha2.specs.Sha256.{sha256}
use Rattle.sha2.proofs.Facts256.{length-sha256}

-- the digest of a page. What is proved above rests on this alone: it has 32 bytes, and equal pages have equal digests
unfoldable pub digest : List ℕ → List ℕ
digest page = sha256 page

-- where the key names a digest, it is that of the page
abbrev pub FitsDigest : List ℕ → List ℕ → Type 0
FitsDigest key page = (digest_in key ≡ []) ⊎ (digest_in key ≡ digest page)

pub length-digest : (page : List ℕ) → length (digest page) ≡ 32
unfolding digest
length-digest page = length-sha256 page
