-- How the moments of calls compose, for whoever calls a platform.
use Rattle.std.proofs.Common.{◌≡◌, ◌⊎◌, inl, inr, ℕ, zero, suc, ◌+◌, ◌<◌, ◌≤◌, min, max, List, [], ◌∷◌, ◌++◌, length, take, get_or, refl, sym, ◌∙◌, ap, subst, arith, length-append}
use Rattle.std.specs.Prelude.{slice_get}
use Rattle.std.proofs.lemmas.Bool.{cases_lt}
use Rattle.platform.specs.Image.{Image, IsWhole, IsEarlier, MayLeave, LeavesOnly}
use Rattle.platform.specs.History.{History, image_at, moment, Extends, During, Turns, Steps}

le_or_gt : (a b : ℕ) → (a ≤ b) ⊎ (b < a)
le_or_gt a b = elim (cases_lt b a) [ inl more ↦ inr more | inr no_more ↦ inl no_more ]

get_or-end : (past : List Image) (present : Image) (i : ℕ) → length past ≤ i → get_or past i present ≡ present
get_or-end [] present i end = refl
get_or-end (image ∷ past) present zero end = absurd (omega arith)
get_or-end (image ∷ past) present (suc i) end = get_or-end past present i (omega arith)

get_or-front : (past rest : List Image) (present other : Image) (i : ℕ) → i < length past → get_or (past ++ rest) i other ≡ get_or past i present
get_or-front [] rest present other i below = absurd (omega arith)
get_or-front (image ∷ past) rest present other zero below = refl
get_or-front (image ∷ past) rest present other (suc i) below = get_or-front past rest present other i (omega arith)

get_or-pushed : (past : List Image) (present other : Image) (i : ℕ) → i ≡ length past → get_or (past ++ present ∷ []) i other ≡ present
get_or-pushed [] present other zero at = refl
get_or-pushed [] present other (suc i) at = absurd (omega arith)
get_or-pushed (image ∷ past) present other zero at = absurd (omega arith)
get_or-pushed (image ∷ past) present other (suc i) at = get_or-pushed past present other i (omega arith)

slice_get-take : (n : ℕ) (xs ys : List (List ℕ)) (i : ℕ) → i < n → take n xs ≡ take n ys → slice_get xs i ≡ slice_get ys i
slice_get-take zero xs ys i below same = absurd (omega arith)
slice_get-take (suc n) [] [] i below same = refl
slice_get-take (suc n) [] (y ∷ ys) i below same = cc
slice_get-take (suc n) (x ∷ xs) [] i below same = cc
slice_get-take (suc n) (x ∷ xs) (y ∷ ys) zero below same = cc
slice_get-take (suc n) (x ∷ xs) (y ∷ ys) (suc i) below same = let rest : take n xs ≡ take n ys = cc in slice_get-take n xs ys i (omega arith) rest

-- the image of the present moment, and of each that is yet to come
pub image_at-now : (history : History) (i : ℕ) → moment history ≤ i → image_at history i ≡ history.present
image_at-now history i from_now = get_or-end history.past history.present i from_now

pub whole-now : (history : History) → IsWhole history.present
whole-now history = subst IsWhole (image_at-now history (moment history) (omega arith)) (history.whole (moment history))

-- each moment is earlier than the present one
pub earlier-now : (history : History) (i : ℕ) → i ≤ moment history → IsEarlier (image_at history i) history.present
earlier-now history i past = subst (λ image. IsEarlier (image_at history i) image) (image_at-now history (moment history) (omega arith)) (history.ascends i (moment history) past)

-- a loss of power may leave the image as it is
pub may-leave-now : (history : History) → MayLeave history.present history.present
may-leave-now history =
    let whole = whole-now history in
    record { cell = refl; recorded = refl; synced = refl; readable = refl; whole = whole.readable; as_many = whole.as_many }

-- what only good images are left of is good
pub LeavesOnly-now : (history : History) (P : Image → Type 0) → LeavesOnly P history.present → P history.present
LeavesOnly-now history P only = only history.present (may-leave-now history)

-- a page that is synced reads as before
pub synced-stays : (image left : Image) (addr : ℕ) → MayLeave image left → addr < image.synced → slice_get left.readable addr ≡ slice_get image.readable addr
synced-stays image left addr leaves synced = slice_get-take image.synced left.readable image.readable addr synced leaves.readable

pub Extends-refl : (history : History) → Extends history history
Extends-refl history = record { later = omega arith; same = λ i past. refl }

pub Extends-trans : (first second third : History) → Extends first second → Extends second third → Extends first third
Extends-trans first second third one two = record { later = omega (arith, one.later, two.later); same = λ i past. two.same i (omega (arith, one.later)) ∙ one.same i past }

-- the image of then is earlier than that of each moment since
pub Extends-since : (old new : History) (i : ℕ) → Extends old new → moment old ≤ i → IsEarlier old.present (image_at new i)
Extends-since old new i extends from =
    let was : image_at new (moment old) ≡ old.present = extends.same (moment old) (omega arith) ∙ image_at-now old (moment old) (omega arith) in
    subst (λ image. IsEarlier image (image_at new i)) was (new.ascends (moment old) i from)

pub Extends-earlier : (old new : History) → Extends old new → IsEarlier old.present new.present
Extends-earlier old new extends =
    subst (λ image. IsEarlier old.present image) (image_at-now new (moment new) (omega arith)) (Extends-since old new (moment new) extends extends.later)

-- no time passed
pub During-start : (history : History) (P : Image → Type 0) → P history.present → During history history P
During-start history P here = record { extends = Extends-refl history; each = λ i from to. subst P (sym (image_at-now history i from)) here }

pub During-now : (old new : History) (P : Image → Type 0) → During old new P → P new.present
During-now old new P during = subst P (image_at-now new (moment new) (omega arith)) (during.each (moment new) during.extends.later (omega arith))

pub During-weaker : (old new : History) (P Q : Image → Type 0) → ((image : Image) → P image → Q image) → During old new P → During old new Q
During-weaker old new P Q weaker during = record { extends = during.extends; each = λ i from to. weaker (image_at new i) (during.each i from to) }

-- one time after another
pub During-then : (first second third : History) (P : Image → Type 0) → During first second P → During second third P → During first third P
During-then first second third P one two = record {
  extends = Extends-trans first second third one.extends two.extends;
  each = λ i from to. elim (le_or_gt i (moment second)) [
    | inl past ↦ subst P (sym (two.extends.same i past)) (one.each i from past)
    | inr later ↦ two.each i (omega arith) to
  ];
}

pub Turns-weaker : (old new : History) (P Q R S : Image → Type 0) → ((image : Image) → P image → R image) → ((image : Image) → Q image → S image) → Turns old new P Q → Turns old new R S
Turns-weaker old new P Q R S before after turns = record {
  extends = turns.extends;
  turn = turns.turn;
  before = λ i from to early. before (image_at new i) (turns.before i from to early);
  after = λ i from to late. after (image_at new i) (turns.after i from to late);
}

-- the turn doesn't come
pub Turns-not : (old new : History) (P Q : Image → Type 0) → During old new P → Turns old new P Q
Turns-not old new P Q during = record {
  extends = during.extends;
  turn = moment new + 1;
  before = λ i from to early. during.each i from to;
  after = λ i from to late. absurd (omega arith);
}

-- the turn has come before
pub Turns-past : (old new : History) (P Q : Image → Type 0) → During old new Q → Turns old new P Q
Turns-past old new P Q during = record {
  extends = during.extends;
  turn = 0;
  before = λ i from to early. absurd (omega arith);
  after = λ i from to late. during.each i from to;
}

-- first without a turn
pub Turns-after : (first second third : History) (P Q : Image → Type 0) → During first second P → Turns second third P Q → Turns first third P Q
Turns-after first second third P Q one two = record {
  extends = Extends-trans first second third one.extends two.extends;
  turn = max two.turn (moment second);
  before = λ i from to early. elim (le_or_gt i (moment second)) [
    | inl past ↦ subst P (sym (two.extends.same i past)) (one.each i from past)
    | inr later ↦ two.before i (omega arith) to (omega arith)
  ];
  after = λ i from to late. two.after i (omega arith) to (omega arith);
}

-- then without a turn
pub Turns-then : (first second third : History) (P Q : Image → Type 0) → Turns first second P Q → During second third Q → Turns first third P Q
Turns-then first second third P Q one two = record {
  extends = Extends-trans first second third one.extends two.extends;
  turn = min one.turn (moment second);
  before = λ i from to early. subst P (sym (two.extends.same i (omega arith))) (one.before i from (omega arith) (omega arith));
  after = λ i from to late. elim (le_or_gt (moment second) i) [
    | inl later ↦ two.each i later to
    | inr past ↦ subst Q (sym (two.extends.same i (omega arith))) (one.after i from (omega arith) (omega arith))
  ];
}

-- all the time the one or the other
pub During-turns : (old new : History) (P Q : Image → Type 0) → Turns old new P Q → During old new (λ image. P image ⊎ Q image)
During-turns old new P Q turns = record {
  extends = turns.extends;
  each = λ i from to. elim (le_or_gt turns.turn i) [
    | inl late ↦ inr (turns.after i from to late)
    | inr early ↦ inl (turns.before i from to early)
  ];
}

-- a call that finds what it leaves
pub During-step : (old new : History) (P : Image → Type 0) → Steps old new → P old.present → P new.present → During old new P
During-step old new P steps was here = record {
  extends = steps.extends;
  each = λ i from to. elim (le_or_gt steps.turn i) [
    | inl late ↦ subst P (sym (steps.after i from to late)) here
    | inr early ↦ subst P (sym (steps.before i from to early)) was
  ];
}

-- one call more
pub During-call : (start old new : History) (P : Image → Type 0) → During start old P → Steps old new → P new.present → During start new P
During-call start old new P during steps here = During-then start old new P during (During-step old new P steps (During-now start old P during) here)

-- a call in which the turn comes
pub Turns-step : (old new : History) (P Q : Image → Type 0) → Steps old new → P old.present → Q new.present → Turns old new P Q
Turns-step old new P Q steps was here =
    Turns-weaker old new _ _ P Q (λ image same. subst P (sym same) was) (λ image same. subst Q (sym same) here) steps

-- calls, and then one in which the turn comes
pub Turns-call : (start old new : History) (P Q : Image → Type 0) → During start old P → Steps old new → Q new.present → Turns start new P Q
Turns-call start old new P Q during steps here = Turns-after start old new P Q during (Turns-step old new P Q steps (During-now start old P during) here)

-- calls, and then one in which the turn may come
pub Turns-either : (start old new : History) (P Q : Image → Type 0) → During start old P → Steps old new → P new.present ⊎ Q new.present → Turns start new P Q
Turns-either start old new P Q during steps (inl still) = Turns-not start new P Q (During-call start old new P during steps still)
Turns-either start old new P Q during steps (inr turned) = Turns-call start old new P Q during steps turned

-- a call that leaves past and present as they were
pub Steps-same : (old new : History) → new.past ≡ old.past → new.present ≡ old.present → Steps old new
Steps-same old new past_is present_is = Turns-past old new _ _ record {
  extends = record {
    later = omega (arith, ap length past_is);
    same = λ i past. ap (λ (images : List Image). get_or images i new.present) past_is ∙ ap (λ image. get_or old.past i image) present_is;
  };
  each = λ i from to. image_at-now new i (omega (arith, ap length past_is));
}

pub Steps-refl : (history : History) → Steps history history
Steps-refl history = Steps-same history history refl refl

-- a call that adds a moment
pub Steps-push : (old new : History) → new.past ≡ old.past ++ old.present ∷ [] → Steps old new
Steps-push old new past_is =
    let size : moment new ≡ moment old + 1 = omega (arith, ap length past_is, length-append old.past (old.present ∷ [])) in
    let was : (i : ℕ) → i ≡ moment old → image_at new i ≡ old.present =
    λ i at. ap (λ (images : List Image). get_or images i new.present) past_is ∙ get_or-pushed old.past old.present new.present i at in
    record {
      extends = record {
        later = omega arith;
        same = λ i past. elim (le_or_gt (moment old) i) [
          | inl late ↦ was i (omega arith) ∙ sym (image_at-now old i late)
          | inr early ↦ ap (λ (images : List Image). get_or images i new.present) past_is ∙ get_or-front old.past (old.present ∷ []) old.present new.present i early
        ];
      };
      turn = moment new;
      before = λ i from to early. was i (omega arith);
      after = λ i from to late. image_at-now new i late;
    }

-- the image of a moment is made of the present one: its first pages, with the cell and the synced number of then
pub image_at-first : (history : History) (i : ℕ) → i ≤ moment history → image_at history i ≡ record {
  cell = (image_at history i).cell;
  recorded = take (length (image_at history i).recorded) history.present.recorded;
  readable = take (length (image_at history i).recorded) history.present.readable;
  synced = (image_at history i).synced;
}
image_at-first history i past =
    let earlier = earlier-now history i past in
    let image = image_at history i in
    ap (λ pages. record { cell = image.cell; recorded = pages; readable = image.readable; synced = image.synced }) (sym earlier.recorded)
    ∙ ap (λ pages. record { cell = image.cell; recorded = take (length image.recorded) history.present.recorded; readable = pages; synced = image.synced }) (sym earlier.readable)
