-- What a key says of a page.
use Rattle.std.proofs.Common.{◌≡◌, ◌↔◌, ℕ, List, [], ◌∷◌, None, Some, refl, sym, ◌∙◌, inl, inr}
use Rattle.sdbt_base.specs.Keys.{digest_in, digest_of, some_bytes}
use Rattle.page_digest.specs.Digest.{digest, FitsDigest}

no_bytes : (ds : List ℕ) → some_bytes ds ≡ None → ds ≡ []
no_bytes [] h = refl
no_bytes (d ∷ ds) h = cc

these_bytes : (ds want : List ℕ) → some_bytes ds ≡ Some want → ds ≡ want
these_bytes [] want h = cc
these_bytes (d ∷ ds) want h = cc

some_not_none : (ds want : List ℕ) → some_bytes ds ≡ Some want → ds ≡ [] → ⊥
some_not_none [] want h e = cc
some_not_none (d ∷ ds) want h e = cc

-- it names no digest
pub fits_any : (key page : List ℕ) → digest_of key ≡ None → FitsDigest key page
fits_any key page h = inl (no_bytes (digest_in key) h)

-- it names this one
pub fits_one : (key page want : List ℕ) → digest_of key ≡ Some want → (want ≡ digest page) ↔ FitsDigest key page
fits_one key page want h = (
  λ e. inr (these_bytes (digest_in key) want h ∙ e),
  λ f. elim f [ inl none ↦ absurd (some_not_none (digest_in key) want h none) | inr e ↦ sym (these_bytes (digest_in key) want h) ∙ e ],
)
