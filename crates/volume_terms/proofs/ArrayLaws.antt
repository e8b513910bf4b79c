-- The arrays of volumes.
use Rattle.std.proofs.Common.{◌≡◌, ◌≢◌, ℕ, zero, suc, ◌+◌, ◌<◌, ◌≤◌, List, ◌∷◌, length, get_or, replicate, refl, sym, ap, ◌∙◌, arith}
use Rattle.std.specs.Prelude.{map}
use Rattle.std.specs.List.{slice_set}
use Rattle.std.proofs.lemmas.List.{length-map}
use Rattle.sdbt_base.specs.Arrays.{Blocks, content_of}
use Rattle.byte_arrays.specs.Ranges.{blocks_from}
use Rattle.byte_arrays.proofs.RangeLaws.{length-blocks_from}
use Rattle.volume_table.specs.declared.volume.Volume.{Volume}
use Rattle.volume_terms.specs.Volumes.{array_of, IsBlockOf}

both : (x y : List ℕ) (xs ys : List (List ℕ)) → x ≡ y → xs ≡ ys → x ∷ xs ≡ y ∷ ys
both x y xs ys p q = cc

module _ (f g : ℕ → List ℕ) where
  same_from : (first n : ℕ) → ((block : ℕ) → first ≤ block → block < first + n → f block ≡ g block) → map f (blocks_from first n) ≡ map g (blocks_from first n)
  same_from first zero same = refl
  same_from first (suc n) same =
      both (f first) (g first) (map f (blocks_from (first + 1) n)) (map g (blocks_from (first + 1) n)) (same first (omega arith) (omega arith))
      (same_from (first + 1) n (λ block from below. same block (omega (arith, from)) (omega (arith, below))))

  set_from : (first n k : ℕ) (bytes : List ℕ) → k < n → g (first + k) ≡ bytes → ((block : ℕ) → first ≤ block → block < first + n → block ≢ first + k → f block ≡ g block)
      → map g (blocks_from first n) ≡ slice_set (map f (blocks_from first n)) k bytes
  set_from first zero k bytes below here same = absurd (omega (arith, below))
  set_from first (suc n) zero bytes below here same =
      let at : first ≡ first + 0 = omega arith in
      both (g first) bytes (map g (blocks_from (first + 1) n)) (map f (blocks_from (first + 1) n)) (ap g at ∙ here)
      (sym (same_from (first + 1) n (λ block from under. same block (omega (arith, from)) (omega (arith, under)) (λ e. omega (arith, from, e)))))
  set_from first (suc n) (suc k) bytes below here same =
      let at : first + 1 + k ≡ first + suc k = omega arith in
      both (g first) (f first) (map g (blocks_from (first + 1) n)) (slice_set (map f (blocks_from (first + 1) n)) k bytes)
      (sym (same first (omega arith) (omega arith) (λ e. omega (arith, e))))
      (set_from (first + 1) n k bytes (omega (arith, below)) (ap g at ∙ here)
      (λ block from under other. same block (omega (arith, from)) (omega (arith, under)) (λ e. other (e ∙ sym at))))

get_from : (f : ℕ → List ℕ) (first n k : ℕ) (d : List ℕ) → k < n → get_or (map f (blocks_from first n)) k d ≡ f (first + k)
get_from f first zero k d below = absurd (omega (arith, below))
get_from f first (suc n) zero d below = let at : first ≡ first + 0 = omega arith in ap f at
get_from f first (suc n) (suc k) d below =
    let at : first + 1 + k ≡ first + suc k = omega arith in
    get_from f (first + 1) n k d (omega (arith, below)) ∙ ap f at

all_from : (f : ℕ → List ℕ) (first n : ℕ) (bytes : List ℕ) → ((block : ℕ) → first ≤ block → block < first + n → f block ≡ bytes) → map f (blocks_from first n) ≡ replicate n bytes
all_from f first zero bytes same = refl
all_from f first (suc n) bytes same =
    both (f first) bytes (map f (blocks_from (first + 1) n)) (replicate n bytes) (same first (omega arith) (omega arith))
    (all_from f (first + 1) n bytes (λ block from below. same block (omega (arith, from)) (omega (arith, below))))

pub array_size : (contents : Blocks) (v : Volume) → length (array_of contents v) ≡ v.count
array_size contents v = length-map (blocks_from v.start v.count) (λ block. content_of contents block) ∙ length-blocks_from v.start v.count

pub array_at : (contents : Blocks) (v : Volume) (k : ℕ) (d : List ℕ) → k < v.count → get_or (array_of contents v) k d ≡ content_of contents (v.start + k)
array_at contents v k d below = get_from (λ block. content_of contents block) v.start v.count k d below

pub array_same : (a b : Blocks) (v : Volume) → ((block : ℕ) → IsBlockOf v block → content_of a block ≡ content_of b block) → array_of a v ≡ array_of b v
array_same a b v same = same_from (λ block. content_of a block) (λ block. content_of b block) v.start v.count (λ block from below. same block (record { from = from; below = below }))

pub array_set : (a b : Blocks) (v : Volume) (k : ℕ) (bytes : List ℕ) → k < v.count → content_of b (v.start + k) ≡ bytes
    → ((block : ℕ) → IsBlockOf v block → block ≢ v.start + k → content_of a block ≡ content_of b block) → array_of b v ≡ slice_set (array_of a v) k bytes
array_set a b v k bytes below here same =
    set_from (λ block. content_of a block) (λ block. content_of b block) v.start v.count k bytes below here (λ block from under. same block (record { from = from; below = under }))

pub array_zeros : (contents : Blocks) (v : Volume) → ((block : ℕ) → IsBlockOf v block → content_of contents block ≡ replicate 4096 0) → array_of contents v ≡ replicate v.count (replicate 4096 0)
array_zeros contents v zeros = all_from (λ block. content_of contents block) v.start v.count (replicate 4096 0) (λ block from below. zeros block (record { from = from; below = below }))
