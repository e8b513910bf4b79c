-- How runs compose.
use Rattle.std.proofs.Common.{◌≡◌, ◌⊎◌, inl, inr, true, false, ℕ, ◌+◌, ◌<◌, ◌≤◌, refl, sym, ◌∙◌, subst, arith}
use Rattle.std.specs.Prelude.{if◌then◌else◌, nat_lt}
use Rattle.std.proofs.lemmas.Bool.{cases_lt}
use Rattle.std.proofs.lemmas.Bool.Decides.{nat_tests}
use Rattle.platform.specs.Image.{Image}
use Rattle.platform.specs.History.{History, Extends, During, Turns, image_at, moment}
use Rattle.platform.specs.Runs.{Passes, StaysDeleted, Sightings}
use Rattle.platform.proofs.Moments.{Extends-refl, Extends-trans, image_at-now}

-- one function below n, and another from n on
until : ℕ → (ℕ → ℕ) → (ℕ → ℕ) → ℕ → ℕ
until n first later i = if nat_lt i n then first i else later i

until-before : (n : ℕ) (first later : ℕ → ℕ) (i : ℕ) → i < n → until n first later i ≡ first i
unfolding until
until-before n first later i before = let passes : nat_lt i n ≡ true = grind (arith, nat_tests) in rw passes refl

until-after : (n : ℕ) (first later : ℕ → ℕ) (i : ℕ) → n ≤ i → until n first later i ≡ later i
unfolding until
until-after n first later i after = let fails : nat_lt i n ≡ false = grind (arith, nat_tests) in rw fails refl

until-rises : (n : ℕ) (first later : ℕ → ℕ) → ((i j : ℕ) → i ≤ j → first i ≤ first j) → ((i j : ℕ) → i ≤ j → later i ≤ later j) → ((i j : ℕ) → first i ≤ later j) → (i j : ℕ) → i ≤ j → until n first later i ≤ until n first later j
until-rises n first later rises_first rises_later step i j order = elim (cases_lt j n) [
  | inl before ↦ rw (until-before n first later i (omega arith), until-before n first later j before) (rises_first i j order)
  | inr after ↦ elim (cases_lt i n) [
    | inl before ↦ rw (until-before n first later i before, until-after n first later j after) (step i j)
    | inr late ↦ rw (until-after n first later i late, until-after n first later j after) (rises_later i j order)
  ]
]

until-within : (n last : ℕ) (first later : ℕ → ℕ) → ((i : ℕ) → first i ≤ last) → ((i : ℕ) → later i ≤ last) → (i : ℕ) → until n first later i ≤ last
until-within n last first later within_first within_later i = elim (cases_lt i n) [
  | inl before ↦ rw (until-before n first later i before) (within_first i)
  | inr after ↦ rw (until-after n first later i after) (within_later i)
]

-- a turn that came by the end, or none
pub Turns-cases : (old new : History) (P Q : Image → Type 0) → Turns old new P Q → During old new P ⊎ Q new.present
Turns-cases old new P Q turns = elim (cases_lt (moment new) turns.turn) [
  | inl not_yet ↦ inl record { extends = turns.extends; each = λ i from to. turns.before i from to (omega arith) }
  | inr come ↦ inr (subst Q (image_at-now new (moment new) (omega arith)) (turns.after (moment new) turns.extends.later (omega arith) come))
]

pub Passes-start : (history : History) (Mark : ℕ → Image → Type 0) (first : ℕ) → Mark first history.present → Passes history history Mark first
Passes-start history Mark first here = record {
  extends = Extends-refl history;
  mark = λ i. first;
  rises = λ i j order. omega arith;
  within = λ i. omega arith;
  each = λ i from to. subst (Mark first) (sym (image_at-now history i from)) here;
}

-- calls that stay at the last mark
pub Passes-during : (start old new : History) (Mark : ℕ → Image → Type 0) (last : ℕ) → Passes start old Mark last → During old new (Mark last) → Passes start new Mark last
Passes-during start old new Mark last passes during =
    let later : ℕ → ℕ = λ i. last in
    record {
      extends = Extends-trans start old new passes.extends during.extends;
      mark = until (moment old) passes.mark later;
      rises = until-rises (moment old) passes.mark later passes.rises (λ i j order. omega arith) (λ i j. passes.within i);
      within = until-within (moment old) last passes.mark later passes.within (λ i. omega arith);
      each = λ i from to. elim (cases_lt i (moment old)) [
        | inl before ↦ rw (until-before (moment old) passes.mark later i before) (subst (Mark (passes.mark i)) (sym (during.extends.same i (omega arith))) (passes.each i from (omega arith)))
        | inr after ↦ rw (until-after (moment old) passes.mark later i after) (during.each i after to)
      ];
    }

-- a call that may come to the next mark
pub Passes-turns : (start old new : History) (Mark : ℕ → Image → Type 0) (last : ℕ) → Passes start old Mark last → Turns old new (Mark last) (Mark (last + 1)) → Passes start new Mark (last + 1)
Passes-turns start old new Mark last passes turns =
    let stays : ℕ → ℕ = λ i. last in
    let next : ℕ → ℕ = λ i. last + 1 in
    let later : ℕ → ℕ = until turns.turn stays next in
    let later_rises : (i j : ℕ) → i ≤ j → later i ≤ later j = until-rises turns.turn stays next (λ i j order. omega arith) (λ i j order. omega arith) (λ i j. omega arith) in
    let later_from : (i j : ℕ) → passes.mark i ≤ later j = λ i j. elim (cases_lt j turns.turn) [
      | inl before ↦ rw (until-before turns.turn stays next j before) (passes.within i)
      | inr after ↦ rw (until-after turns.turn stays next j after) (let within = passes.within i in omega arith)
    ] in
    record {
      extends = Extends-trans start old new passes.extends turns.extends;
      mark = until (moment old) passes.mark later;
      rises = until-rises (moment old) passes.mark later passes.rises later_rises later_from;
      within = until-within (moment old) (last + 1) passes.mark later (λ i. let within = passes.within i in omega arith) (until-within turns.turn (last + 1) stays next (λ i. omega arith) (λ i. omega arith));
      each = λ i from to. elim (cases_lt i (moment old)) [
        | inl before ↦ rw (until-before (moment old) passes.mark later i before) (subst (Mark (passes.mark i)) (sym (turns.extends.same i (omega arith))) (passes.each i from (omega arith)))
        | inr after ↦ elim (cases_lt i turns.turn) [
          | inl early ↦ rw (until-after (moment old) passes.mark later i after, until-before turns.turn stays next i early) (turns.before i after to early)
          | inr late ↦ rw (until-after (moment old) passes.mark later i after, until-after turns.turn stays next i late) (turns.after i after to late)
        ]
      ];
    }

-- one run after another: the marks of the second come after the first's
pub Passes-then : (first second third : History) (One Two Mark : ℕ → Image → Type 0) (n last : ℕ)
    → ((k : ℕ) (image : Image) → k ≤ n → One k image → Mark k image) → ((k : ℕ) (image : Image) → Two k image → Mark (n + k) image)
    → Passes first second One n → Passes second third Two last → Passes first third Mark (n + last)
Passes-then first second third One Two Mark n last from to one two =
    let m = moment second in
    let later : ℕ → ℕ = λ i. n + two.mark i in
    record {
      extends = Extends-trans first second third one.extends two.extends;
      mark = until m one.mark later;
      rises = λ i j order. elim (cases_lt j m) [
        | inl before ↦ rw (until-before m one.mark later i (omega arith), until-before m one.mark later j before) (one.rises i j order)
        | inr after ↦ elim (cases_lt i m) [
          | inl before ↦ rw (until-before m one.mark later i before, until-after m one.mark later j after) (let a = one.within i in omega arith)
          | inr late ↦ rw (until-after m one.mark later i late, until-after m one.mark later j after) (let a = two.rises i j order in omega arith)
        ]
      ];
      within = λ i. elim (cases_lt i m) [
        | inl before ↦ rw (until-before m one.mark later i before) (let a = one.within i in omega arith)
        | inr after ↦ rw (until-after m one.mark later i after) (let a = two.within i in omega arith)
      ];
      each = λ i start end. elim (cases_lt i m) [
        | inl before ↦ rw (until-before m one.mark later i before)
            (subst (Mark (one.mark i)) (sym (two.extends.same i (omega arith))) (from (one.mark i) (image_at second i) (one.within i) (one.each i start (omega arith))))
        | inr after ↦ rw (until-after m one.mark later i after) (to (two.mark i) (image_at third i) (two.each i after end))
      ];
    }

-- the same marks under another name
pub Passes-same : (old new : History) (One Mark : ℕ → Image → Type 0) (last : ℕ) → ((k : ℕ) (image : Image) → One k image → Mark k image)
    → Passes old new One last → Passes old new Mark last
Passes-same old new One Mark last to p = record {
  extends = p.extends;
  mark = p.mark;
  rises = p.rises;
  within = p.within;
  each = λ i start end. to (p.mark i) (image_at new i) (p.each i start end);
}

-- one run after another: what is in the tree where they meet is reached there
pub StaysDeleted-then : (first second third : History) (floor : ℕ → ℕ) (Reached InTree : Image → ℕ → Type 0) → ((addr : ℕ) → InTree second.present addr → Reached second.present addr) → StaysDeleted first second floor Reached InTree → StaysDeleted second third floor Reached InTree → StaysDeleted first third floor Reached InTree
StaysDeleted-then first second third floor Reached InTree meets one two =
    let m = moment second in
    let was : (i : ℕ) → i ≤ m → image_at third i ≡ image_at second i = two.extends.same in
    let met : image_at third m ≡ second.present = was m (omega arith) ∙ image_at-now second m (omega arith) in
    record {
      extends = Extends-trans first second third one.extends two.extends;
      floors = λ i j from order to. elim (cases_lt m j) [
        | inl late ↦ elim (cases_lt m i) [
          | inl both ↦ two.floors i j (omega arith) order to
          | inr early ↦ let a = one.floors i m from early (omega arith) in let b = two.floors m j (omega arith) (omega arith) to in omega arith
        ]
        | inr early ↦ one.floors i j from order early
      ];
      kept = λ i j from order to addr reached below. elim (cases_lt m j) [
        | inl late ↦ elim (cases_lt m i) [
          | inl both ↦ two.kept i j (omega arith) order to addr reached below
          | inr early ↦
              let higher = one.floors i m from early (omega arith) in
              let there : InTree (image_at third m) addr = two.kept m j (omega arith) (omega arith) to addr reached (omega arith) in
              let here : Reached second.present addr = meets addr (subst (λ image. InTree image addr) met there) in
              subst (λ image. InTree image addr) (sym (was i early))
              (one.kept i m from early (omega arith) addr (subst (λ image. Reached image addr) (sym (image_at-now second m (omega arith))) here) below)
        ]
        | inr early ↦
            subst (λ image. InTree image addr) (sym (was i (omega arith)))
            (one.kept i j from order early addr (subst (λ image. Reached image addr) (was j early) reached) below)
      ];
    }

-- no look yet
pub Sightings-none : (history : History) (Seen : ℕ → Image → Type 0) → Sightings history history Seen 0
Sightings-none history Seen = record {
  extends = Extends-refl history;
  at = λ k. moment history;
  ascends = λ j k order. omega arith;
  from = λ k. omega arith;
  to = λ k. omega arith;
  each = λ k below. absurd (omega arith);
}

-- one look more, at the present image, after some calls
pub Sightings-more : (start old new : History) (Seen : ℕ → Image → Type 0) (count : ℕ) → Sightings start old Seen count → Extends old new → Seen count new.present → Sightings start new Seen (count + 1)
Sightings-more start old new Seen count looks extends here =
    let now : ℕ → ℕ = λ k. moment new in
    let earlier : (i : ℕ) → looks.at i ≤ moment new = λ i. let to = looks.to i in omega (arith, extends.later) in
    record {
      extends = Extends-trans start old new looks.extends extends;
      at = until count looks.at now;
      ascends = until-rises count looks.at now looks.ascends (λ i j order. omega arith) (λ i j. earlier i);
      from = λ k. elim (cases_lt k count) [
        | inl before ↦ rw (until-before count looks.at now k before) (looks.from k)
        | inr after ↦ rw (until-after count looks.at now k after) (omega (arith, looks.extends.later, extends.later))
      ];
      to = until-within count (moment new) looks.at now earlier (λ i. omega arith);
      each = λ k below. elim (cases_lt k count) [
        | inl before ↦ rw (until-before count looks.at now k before) (subst (Seen k) (sym (extends.same (looks.at k) (looks.to k))) (looks.each k before))
        | inr after ↦
            let same : k ≡ count = omega arith in
            rw (until-after count looks.at now k after, same) (subst (Seen count) (sym (image_at-now new (moment new) (omega arith))) here)
      ];
    }
