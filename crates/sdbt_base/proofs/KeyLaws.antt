-- Laws on keys with and without a digest, and what equality of keys computes. Crates above cite them.
use Rattle.std.proofs.Common.{◌≡◌, ◌==◌, ℕ, ◌&&◌, if◌then◌else◌, Bool, true, false, List, [], ◌∷◌, ◌++◌, Option, None, Some, length, take, nat_eq, refl, ap, sym, subst, ◌∙◌, arith, length-append}
use Rattle.std.proofs.Math.Bool.{and-true, and_assoc}
use Rattle.std.proofs.Math.Seq.{take-length}
use Rattle.std.proofs.lemmas.List.{length-take, take_min, take-append-drop}
use Rattle.std.specs.Option.{option_eq}
use Rattle.std.specs.Cmp.Lexicographic.{pointwise, unequal}
use Rattle.sdbt_base.specs.Keys.{bare, digest_in, version_of, key_with, AreOfKey, bare_with}

-- a key of 32 bytes is bare
pub bare_plain : (key : List ℕ) → length key ≡ 32 → bare key ≡ key
bare_plain key n = subst (λ (k : ℕ). take k key ≡ key) n (take-length key)

-- without its digest, a key with one is the key that it was put on
pub bare_behind : (key digest : List ℕ) → length key ≡ 32 → length digest ≡ 32 → bare (key ++ digest) ≡ key
bare_behind key digest n m = bare_with key (Some digest) (n, m)

-- what is bare already stays as it is
pub bare_bare : (key : List ℕ) → bare (bare key) ≡ bare key
bare_bare key = sym (take_min 32 (bare key)) ∙ ap (λ (k : ℕ). take k (bare key)) (omega (arith, length-take 32 key)) ∙ take-length (bare key)

-- keys with the same bytes and the same digest are the same
pub one_key : (a b : List ℕ) → bare a ≡ bare b → digest_in a ≡ digest_in b → a ≡ b
one_key a b front behind = sym (take-append-drop 32 a) ∙ (λ i. front i ++ behind i) ∙ take-append-drop 32 b

-- the version is read off the length
pub version_plain : (key : List ℕ) → length key ≡ 32 → version_of key ≡ 1
version_plain key n = ap (λ (k : ℕ). if k == 64 then 2 else 1) n

pub version_with : (key : List ℕ) → length key ≡ 64 → version_of key ≡ 2
version_with key n = ap (λ (k : ℕ). if k == 64 then 2 else 1) n

and_false : (b : Bool) → (b && false) ≡ false
and_false true = refl
and_false false = refl

equal_fronts : (a b d e : List ℕ) → length a ≡ length b → pointwise nat_eq (a ++ d) (b ++ e) ≡ (pointwise nat_eq a b && pointwise nat_eq d e)
equal_fronts [] [] d e h = refl
equal_fronts [] (y ∷ b) d e h = absurd (omega (arith, h))
equal_fronts (x ∷ a) [] d e h = absurd (omega (arith, h))
equal_fronts (x ∷ a) (y ∷ b) d e h =
    let rest = equal_fronts a b d e (omega (arith, h)) in
    rw rest (sym (and_assoc (nat_eq x y) (pointwise nat_eq a b) (pointwise nat_eq d e)))

-- two keys are equal where their fields are
pub fields_decide : (a b : List ℕ) (x y : Option (List ℕ)) → AreOfKey a x → AreOfKey b y
    → (pointwise nat_eq a b && option_eq (pointwise nat_eq) x y) ≡ pointwise nat_eq (key_with a x) (key_with b y)
fields_decide a b None None f g = and-true (pointwise nat_eq a b)
fields_decide a b None (Some e) f g = and_false (pointwise nat_eq a b) ∙ sym (unequal nat_eq a (b ++ e) (λ same. let n = length-append b e in omega (arith, f.0, g.0, g.1, same, n)))
fields_decide a b (Some d) None f g = and_false (pointwise nat_eq a b) ∙ sym (unequal nat_eq (a ++ d) b (λ same. let n = length-append a d in omega (arith, f.0, f.1, g.0, same, n)))
fields_decide a b (Some d) (Some e) f g = sym (equal_fronts a b d e (f.0 ∙ sym g.0))

-- the same, of the comparisons that are made
module _ (a b key other : List ℕ) (x y : Option (List ℕ)) (f : AreOfKey a x) (g : AreOfKey b y) (here : key_with a x ≡ key) (there : key_with b y ≡ other) where
  whole : (pointwise nat_eq a b && option_eq (pointwise nat_eq) x y) ≡ pointwise nat_eq key other
  whole = fields_decide a b x y f g ∙ (λ i. pointwise nat_eq (here i) (there i))

  pub decided_behind : (r : Bool) → true ≡ pointwise nat_eq a b → r ≡ option_eq (pointwise nat_eq) x y → r ≡ pointwise nat_eq key other
  decided_behind r front behind = behind ∙ ap (λ b. b && option_eq (pointwise nat_eq) x y) front ∙ whole

  pub decided_in_front : (r : Bool) → r ≡ false → false ≡ pointwise nat_eq a b → r ≡ pointwise nat_eq key other
  decided_in_front r differs front = differs ∙ ap (λ b. b && option_eq (pointwise nat_eq) x y) front ∙ whole
