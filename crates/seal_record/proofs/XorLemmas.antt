-- Lists of bytes, mixed place by place.
use Rattle.std.proofs.Common.{◌≡◌, ℕ, zero, suc, ◌<◌, ◌≤◌, List, [], ◌∷◌, length, take, bit_xor, refl, sym, ap, ◌∙◌, arith}
use Rattle.std.specs.Simd.Lanes.{zip2}
use Rattle.std.specs.List.{All}
use Rattle.std.specs.Int.Bits.{xor_assoc, xor_self, xor_zero_r, xor_zero_l}
use Rattle.std.proofs.lemmas.List.Elements.{All-nil, All-cons, All-head, All-tail}
use Rattle.std.proofs.lemmas.Nat.{xor_of_8}

-- the front of a mix is the mix of the fronts
pub take-zip2 : (n : ℕ) (f : ℕ → ℕ → ℕ) (xs ys : List ℕ) → take n (zip2 f xs ys) ≡ zip2 f (take n xs) (take n ys)
take-zip2 zero f xs ys = refl
take-zip2 (suc n) f [] ys = refl
take-zip2 (suc n) f (x ∷ xs) [] = refl
take-zip2 (suc n) f (x ∷ xs) (y ∷ ys) = ap (λ (rest : List ℕ). f x y ∷ rest) (take-zip2 n f xs ys)

-- the same bytes, mixed in twice, leave nothing
pub xor_twice : (xs ys : List ℕ) → length xs ≤ length ys → zip2 bit_xor (zip2 bit_xor xs ys) ys ≡ xs
xor_twice [] ys long = refl
xor_twice (x ∷ xs) [] long = absurd (omega arith)
xor_twice (x ∷ xs) (y ∷ ys) long =
    ap (λ (n : ℕ). n ∷ zip2 bit_xor (zip2 bit_xor xs ys) ys)
    (xor_assoc x y y ∙ ap (bit_xor x) (xor_self y) ∙ xor_zero_r x)
    ∙ ap (λ (rest : List ℕ). x ∷ rest) (xor_twice xs ys (omega arith))

-- and so does a mix with what was mixed in already
pub xor_back : (xs ys : List ℕ) → length ys ≤ length xs → zip2 bit_xor xs (zip2 bit_xor xs ys) ≡ ys
xor_back [] [] long = refl
xor_back [] (y ∷ ys) long = absurd (omega arith)
xor_back (x ∷ xs) [] long = refl
xor_back (x ∷ xs) (y ∷ ys) long =
    ap (λ (n : ℕ). n ∷ zip2 bit_xor xs (zip2 bit_xor xs ys))
    (sym (xor_assoc x x y) ∙ ap (λ (n : ℕ). bit_xor n y) (xor_self x) ∙ xor_zero_l y)
    ∙ ap (λ (rest : List ℕ). y ∷ rest) (xor_back xs ys (omega arith))

-- a mix of bytes is bytes
pub All-xor : (xs ys : List ℕ) → All (λ b. b < 256) xs → All (λ b. b < 256) ys → All (λ b. b < 256) (zip2 bit_xor xs ys)
All-xor [] ys left right = All-nil (λ b. b < 256)
All-xor (x ∷ xs) [] left right = All-nil (λ b. b < 256)
All-xor (x ∷ xs) (y ∷ ys) left right =
    All-cons (λ b. b < 256) (bit_xor x y) (zip2 bit_xor xs ys)
    (xor_of_8 x y (All-head (λ b. b < 256) x xs left) (All-head (λ b. b < 256) y ys right))
    (All-xor xs ys (All-tail (λ b. b < 256) x xs left) (All-tail (λ b. b < 256) y ys right))
