-- One image more keeps a history's images in order.
use Rattle.std.proofs.Common.{◌≡◌, inl, inr, ℕ, zero, suc, ◌<◌, ◌≤◌, List, [], ◌∷◌, ◌++◌, length, take, get_or, refl, sym, ◌∙◌, ap, subst, arith}
use Rattle.std.proofs.lemmas.Bool.{cases_lt}
use Rattle.std.proofs.lemmas.List.{take-take, take_all, length_push}
use Rattle.platform.specs.Image.{Image, IsWhole, IsEarlier}
use Rattle.platform.specs.History.{image_of}
use Rattle.folder_platform.specs.Told.{AreOrderly}

pub get_or-end : (past : List Image) (present : Image) (i : ℕ) → length past ≤ i → get_or past i present ≡ present
get_or-end [] present i end = refl
get_or-end (image ∷ past) present zero end = absurd (omega arith)
get_or-end (image ∷ past) present (suc i) end = get_or-end past present i (omega arith)

-- a moment from before stays
pub more-before : (past : List Image) (present new : Image) (i : ℕ) → i ≤ length past → get_or (past ++ present ∷ []) i new ≡ get_or past i present
more-before [] present new zero before = refl
more-before [] present new (suc i) before = absurd (omega arith)
more-before (image ∷ past) present new zero before = refl
more-before (image ∷ past) present new (suc i) before = more-before past present new i (omega arith)

more-now : (past : List Image) (present new : Image) (i : ℕ) → length past < i → get_or (past ++ present ∷ []) i new ≡ new
more-now past present new i now = get_or-end (past ++ present ∷ []) new i (omega (arith, length_push past present))

pub earlier-same : (image : Image) → IsWhole image → IsEarlier image image
earlier-same image whole = record {
  recorded = take_all (length image.recorded) image.recorded (omega arith);
  readable = take_all (length image.recorded) image.readable (omega (arith, whole.as_many));
  pages = omega arith;
  synced = omega arith;
}

pub earlier-trans : (a b c : Image) → IsEarlier a b → IsEarlier b c → IsEarlier a c
earlier-trans a b c one two = record {
  recorded = sym (take-take (length a.recorded) (length b.recorded) c.recorded one.pages) ∙ ap (λ (xs : List (List ℕ)). take (length a.recorded) xs) two.recorded ∙ one.recorded;
  readable = sym (take-take (length a.recorded) (length b.recorded) c.readable one.pages) ∙ ap (λ (xs : List (List ℕ)). take (length a.recorded) xs) two.readable ∙ one.readable;
  pages = omega (arith, one.pages, two.pages);
  synced = omega (arith, one.synced, two.synced);
}

module _ (past : List Image) (present new : Image) (was : AreOrderly past present) (whole : IsWhole new) (later : IsEarlier present new) where
  here : image_of past present (length past) ≡ present
  here = get_or-end past present (length past) (omega arith)

  whole-more : (i : ℕ) → IsWhole (image_of (past ++ present ∷ []) new i)
  whole-more i = elim (cases_lt (length past) i) [
    | inl now ↦ subst IsWhole (sym (more-now past present new i now)) whole
    | inr before ↦ subst IsWhole (sym (more-before past present new i before)) (was.whole i)
  ]

  to-new : (i : ℕ) → IsEarlier (image_of (past ++ present ∷ []) new i) new
  to-new i = elim (cases_lt (length past) i) [
    | inl now ↦ subst (λ image. IsEarlier image new) (sym (more-now past present new i now)) (earlier-same new whole)
    | inr before ↦ subst (λ image. IsEarlier image new) (sym (more-before past present new i before))
        (earlier-trans (image_of past present i) present new (subst (λ image. IsEarlier (image_of past present i) image) here (was.ascends i (length past) before)) later)
  ]

  ascends-more : (i j : ℕ) → i ≤ j → IsEarlier (image_of (past ++ present ∷ []) new i) (image_of (past ++ present ∷ []) new j)
  ascends-more i j up = elim (cases_lt (length past) j) [
    | inl now ↦ subst (λ image. IsEarlier (image_of (past ++ present ∷ []) new i) image) (sym (more-now past present new j now)) (to-new i)
    | inr before ↦
        let low : i ≤ length past = omega arith in
        subst (λ image. IsEarlier image (image_of (past ++ present ∷ []) new j)) (sym (more-before past present new i low))
        (subst (λ image. IsEarlier (image_of past present i) image) (sym (more-before past present new j before)) (was.ascends i j up))
  ]

  pub orderly-more : AreOrderly (past ++ present ∷ []) new
  orderly-more = record { whole = whole-more; ascends = ascends-more }

pub orderly-first : (image : Image) → IsWhole image → AreOrderly [] image
orderly-first image whole = record { whole = λ i. whole; ascends = λ i j up. earlier-same image whole }
