-- Under a key with a digest a changed page is noticed, or has the digest of the recorded one.
use Rattle.std.proofs.Common.{◌≡◌, ◌≢◌, ◌⊎◌, ◌<◌, ◌^◌, ℕ, List, [], ◌∷◌, length, refl, sym, ap, ◌∙◌, inl, inr, arith}
use Rattle.std.specs.Prelude.{Some, slice_get}
use Rattle.std.proofs.lemmas.Bool.{cases_eq}
use Rattle.std.proofs.lemmas.List.{length-drop}
use Rattle.platform.specs.Image.{Image}
use Rattle.sdbt_base.specs.Keys.{digest_in}
use Rattle.page_digest.specs.Digest.{digest, FitsDigest}
use Rattle.node_codec.specs.Record.{Record}
use Rattle.page_store.specs.Changing.{Collides, IsReadChanged}
use Rattle.page_store.proofs.RecordLaws.{one_record, record_kept}

-- two lists of bytes are the same or not
same_or_not : (xs ys : List ℕ) → (xs ≡ ys) ⊎ (xs ≢ ys)
same_or_not [] [] = inl refl
same_or_not [] (y ∷ ys) = inr (λ same. cc)
same_or_not (x ∷ xs) [] = inr (λ same. cc)
same_or_not (x ∷ xs) (y ∷ ys) = elim (cases_eq x y) [
  | inl first ↦ elim (same_or_not xs ys) [ inl rest ↦ inl (λ i. first i ∷ rest i) | inr apart ↦ inr (λ same. apart (let rest : xs ≡ ys = cc in rest)) ]
  | inr apart ↦ inr (λ same. apart (let first : x ≡ y = cc in first))
]

-- a key of 64 bytes names the digest of a page that fits it
named_by : (key page : List ℕ) → length key ≡ 64 → FitsDigest key page → digest_in key ≡ digest page
named_by key page long (inl none) = absurd (omega (arith, length-drop 32 key, ap length none, long))
named_by key page long (inr same) = same

pub same_page : (image changed : Image) (addr : ℕ) (key : List ℕ) (value other : Record) → IsReadChanged image changed addr key value other → (slice_get changed.readable addr ≡ slice_get image.readable addr) ⊎ Collides changed addr
same_page image changed addr key value other is = elim (same_or_not is.after.page is.before.page) [
  | inl same ↦ inl (is.after.reads ∙ (ap (λ (page : List ℕ). Some page) same ∙ sym is.before.reads))
  | inr apart ↦ inr (record {
    page = is.after.page;
    other = is.before.page;
    there = is.after.reads;
    recorded = ap (λ (pages : List (List ℕ)). slice_get pages addr) is.change.recorded ∙ (sym is.recorded ∙ is.before.reads);
    apart = apart;
    same = sym (named_by key is.after.page is.long is.after.digested) ∙ named_by key is.before.page is.long is.before.digested;
  })
]

-- and so it is the record that it was
pub same_value : (image changed : Image) (addr : ℕ) (key : List ℕ) (value other : Record) → addr < 2 ^ 64 → IsReadChanged image changed addr key value other → (other ≡ value) ⊎ Collides changed addr
same_value image changed addr key value other small is = elim (same_page image changed addr key value other is) [
  | inl same ↦ inl (one_record changed.readable addr key other value small is.after (record_kept image.readable changed.readable addr key value same is.before))
  | inr collides ↦ inr collides
]
