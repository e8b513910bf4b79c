-- How the devices that replies pass compose, and what follows of those that a run made.
use Rattle.std.proofs.Common.{◌≡◌, ℕ, zero, suc, ◌+◌, ◌-◌, ◌≤◌, List, [], ◌∷◌, ◌++◌, Option, inl, inr, length, take, refl, sym, ◌∙◌, ap, subst, arith, length-append}
use Rattle.std.proofs.lemmas.List.{take-append-le}
use Rattle.std.proofs.lemmas.Bool.{cases_lt}
use Rattle.platform.specs.Image.{Image}
use Rattle.platform.specs.History.{History}
use Rattle.platform.specs.Runs.{Passes}
use Rattle.sdbt_base.specs.Arrays.{State, Device}
use Rattle.script_lang.specs.Answers.{Turn, Answers, IsMark}
use Rattle.script_lang.proofs.AnswerLaws.{Answers-append, Answers-longer}
use Rattle.script_lang.specs.Replies.{Reply}
use Rattle.device_course.specs.Marks as course
use Rattle.device_course.specs.Marks.{mark_at, last_mark}
use Rattle.device_course.proofs.MarkLaws.{mark_at-last, mark_at-front, mark_at-behind}
use Rattle.device_cli.specs.Represents.{StandsFor}
use Rattle.device_cli.specs.Replied.{HasMark, AreMarks, ExitsAt}

-- the first n of some replies, where more come behind them
take_front : (n : ℕ) (replies more : List Reply) → n ≤ length replies → take n (replies ++ more) ≡ take n replies
take_front n replies more within = take-append-le n replies more within

-- all of some replies, and the first n of those behind them
take_behind : (replies more : List Reply) (n : ℕ) → take (length replies + n) (replies ++ more) ≡ replies ++ take n more
take_behind [] more n = let e : 0 + n ≡ n = omega arith in rw e refl
take_behind (reply ∷ replies) more n =
    let e : length (reply ∷ replies) + n ≡ suc (length replies + n) = omega arith in
    rw e (ap (λ (rest : List Reply). reply ∷ rest) (take_behind replies more n))

pub IsMark-front : (entry : State) (lines more : List (List ℕ)) (replies others : List Reply) (k : ℕ) (device : Option Device)
    → IsMark entry lines replies k device → IsMark entry (lines ++ more) (replies ++ others) k device
IsMark-front entry lines more replies others k device (within, new, answers, is) = (
  omega (arith, within, length-append replies others),
  new,
  subst (λ (front : List Reply). Answers entry (lines ++ more) front new) (sym (take_front k replies others within))
      (Answers-longer entry new lines more (take k replies) answers),
  is,
)

pub IsMark-behind : (entry mid : State) (lines more : List (List ℕ)) (replies others : List Reply) (k : ℕ) (device : Option Device)
    → length replies ≡ length lines → Answers entry lines replies mid
    → IsMark mid more others k device → IsMark entry (lines ++ more) (replies ++ others) (length replies + k) device
IsMark-behind entry mid lines more replies others k device same first (within, new, answers, is) = (
  omega (arith, within, length-append replies others),
  new,
  subst (λ (front : List Reply). Answers entry (lines ++ more) front new) (sym (take_behind replies others k))
      (Answers-append entry mid new lines more replies (take k others) same first answers),
  is,
)

-- one line, before and after its reply
pub IsMark-none : (entry : State) (lines : List (List ℕ)) (replies : List Reply) → IsMark entry lines replies 0 entry.device
IsMark-none entry lines replies = (omega arith, entry, refl, refl)

pub IsMark-one : (entry now : State) (line : List ℕ) (reply : Reply) → Turn entry line reply now → IsMark entry (line ∷ []) (reply ∷ []) 1 now.device
IsMark-one entry now line reply turn = (omega arith, now, (now, turn, refl), refl)

-- ---- the devices that replies pass

pub AreMarks-none : (entry : State) (lines : List (List ℕ)) → AreMarks entry lines [] []
AreMarks-none entry lines = record { many = refl; each = λ k within. let none : k ≡ 0 = omega (arith, within) in rw none (IsMark-none entry lines []) }

pub AreMarks-one : (entry now : State) (line : List ℕ) (reply : Reply) → Turn entry line reply now → AreMarks entry (line ∷ []) (reply ∷ []) (now.device ∷ [])
AreMarks-one entry now line reply turn = record { many = refl; each = each }
  where
    each : (k : ℕ) → k ≤ length (reply ∷ []) → IsMark entry (line ∷ []) (reply ∷ []) k (mark_at entry.device (now.device ∷ []) k)
    each zero within = IsMark-none entry (line ∷ []) (reply ∷ [])
    each (suc zero) within = IsMark-one entry now line reply turn
    each (suc (suc k)) within = absurd (omega (arith, within))

-- some lines with their replies, and then more
pub AreMarks-then : (entry mid : State) (lines more : List (List ℕ)) (replies others : List Reply) (one two : List (Option Device))
    → length replies ≡ length lines → Answers entry lines replies mid → mid.device ≡ last_mark entry.device one
    → AreMarks entry lines replies one → AreMarks mid more others two → AreMarks entry (lines ++ more) (replies ++ others) (one ++ two)
AreMarks-then entry mid lines more replies others one two same answers last a b = record {
  many = omega (arith, a.many, b.many, length-append one two, length-append replies others);
  each = λ k within. elim (cases_lt (length replies) k) [
    | inr early ↦
        let few : k ≤ length one = omega (arith, early, a.many) in
        subst (λ (d : Option Device). IsMark entry (lines ++ more) (replies ++ others) k d) (sym (mark_at-front entry.device one two k few))
        (IsMark-front entry lines more replies others k (mark_at entry.device one k) (a.each k early))
    | inl late ↦
        let j : ℕ = k - length replies in
        let at : k ≡ length replies + j = omega (arith, late) in
        let rest : j ≤ length others = omega (arith, at, within, length-append replies others) in
        let there : mark_at entry.device (one ++ two) (length replies + j) ≡ mark_at mid.device two j =
        ap (λ (n : ℕ). mark_at entry.device (one ++ two) (n + j)) (sym a.many) ∙ mark_at-behind entry.device one two j ∙ ap (λ (d : Option Device). mark_at d two j) (sym last) in
        subst (λ (n : ℕ). IsMark entry (lines ++ more) (replies ++ others) n (mark_at entry.device (one ++ two) n)) (sym at)
        (subst (λ (d : Option Device). IsMark entry (lines ++ more) (replies ++ others) (length replies + j) d) (sym there)
        (IsMark-behind entry mid lines more replies others j (mark_at mid.device two j) same answers (b.each j rest)))
  ];
}

-- lines may be left over
pub AreMarks-longer : (entry : State) (lines more : List (List ℕ)) (replies : List Reply) (marks : List (Option Device)) → AreMarks entry lines replies marks
    → AreMarks entry (lines ++ more) replies marks
AreMarks-longer entry lines more replies marks a = record {
  many = a.many;
  each = λ k within. let m = a.each k within in (m.0, m.1, Answers-longer entry m.1 lines more (take k replies) m.2, m.3);
}

-- ---- from the devices that a run made to the replies that passed them

pub passes_of : (old new : History) (entry : State) (lines : List (List ℕ)) (replies : List Reply) (marks : List (Option Device)) → AreMarks entry lines replies marks
    → Passes old new (course.HasMark entry.device marks) (length marks) → Passes old new (HasMark entry lines replies) (length replies)
passes_of old new entry lines replies marks are p = record {
  extends = p.extends;
  mark = p.mark;
  rises = p.rises;
  within = λ i. let w = p.within i in omega (arith, w, are.many);
  each = λ i from to.
      let few : p.mark i ≤ length replies = (let w = p.within i in omega (arith, w, are.many)) in
      (mark_at entry.device marks (p.mark i), are.each (p.mark i) few, p.each i from to);
}

-- at the end the image stands for the last of them
pub exits_of : (image : Image) (entry : State) (lines : List (List ℕ)) (replies ahead : List Reply) (marks : List (Option Device)) → AreMarks entry lines (replies ++ ahead) marks
    → StandsFor image (last_mark entry.device marks) → ExitsAt image entry lines replies ahead
exits_of image entry lines replies ahead marks are stands = record {
  mark = length (replies ++ ahead);
  from = omega (arith, length-append replies ahead);
  there = last_mark entry.device marks;
  is_mark = subst (λ (d : Option Device). IsMark entry lines (replies ++ ahead) (length (replies ++ ahead)) d)
      (ap (λ (n : ℕ). mark_at entry.device marks n) (sym are.many) ∙ mark_at-last entry.device marks)
      (are.each (length (replies ++ ahead)) (omega arith));
  stands = stands;
}
