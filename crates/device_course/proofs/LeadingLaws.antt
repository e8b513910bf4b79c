-- How parts of a run lead on.
use Rattle.std.proofs.Common.{◌≡◌, List, [], ◌∷◌, ◌++◌, length, Option, refl, sym, subst, arith, append-nil, append_assoc}
use Rattle.std.proofs.lemmas.List.{map-append}
use Rattle.std.specs.Prelude.{Some}
use Rattle.sdbt_base.specs.Arrays.{Device}
use Rattle.device_course.specs.Leading.{Leads, last_of, marks_of, Led}

pub last_of-append : {S : Type 0} (entry : S) (one two : List S) → last_of entry (one ++ two) ≡ last_of (last_of entry one) two
last_of-append entry [] two = refl
last_of-append entry (state ∷ one) two = last_of-append state one two

-- what was asked has its answers, and then more
pub leads_append : {S A B : Type 0} (turn : S → A → B → S → Type 0) (entry : S) (asked more : List A) (answers others : List B) (states thens : List S) → length answers ≡ length asked
    → Leads turn entry asked answers states → Leads turn (last_of entry states) more others thens → Leads turn entry (asked ++ more) (answers ++ others) (states ++ thens)
leads_append turn entry [] more [] others [] thens same a b = b
leads_append turn entry [] more [] others (state ∷ states) thens same a b = absurd a
leads_append turn entry [] more (x ∷ xs) others states thens same a b = absurd (omega (arith, same))
leads_append turn entry (q ∷ qs) more [] others states thens same a b = absurd (omega (arith, same))
leads_append turn entry (q ∷ qs) more (x ∷ xs) others [] thens same a b = absurd a
leads_append turn entry (q ∷ qs) more (x ∷ xs) others (state ∷ states) thens same (t, a) b = (t, leads_append turn state qs more xs others states thens (omega (arith, same)) a b)

-- things may be left over
pub leads_longer : {S A B : Type 0} (turn : S → A → B → S → Type 0) (entry : S) (asked more : List A) (answers : List B) (states : List S)
    → Leads turn entry asked answers states → Leads turn entry (asked ++ more) answers states
leads_longer turn entry asked more [] [] a = tt
leads_longer turn entry asked more [] (state ∷ states) a = absurd a
leads_longer turn entry asked more (x ∷ xs) [] a = absurd a
leads_longer turn entry [] more (x ∷ xs) (state ∷ states) a = absurd a
leads_longer turn entry (q ∷ qs) more (x ∷ xs) (state ∷ states) (t, a) = (t, leads_longer turn state qs more xs states a)

-- one part after another, where parts that made devices do
pub led_then : {S A B : Type 0} (turn : S → A → B → S → Type 0) (device : S → Device) (One Two Both : Device → List (Option Device) → Device → Type 0) (entry : S) (asked more : List A) (answers others : List B) (ahead : List S)
    → ((first between last : Device) (one two : List (Option Device)) → One first one between → Two between two last → Both first (one ++ two) last)
    → length answers ≡ length asked → (one : Led turn device One entry asked answers []) → Led turn device Two (last_of entry one.states) more others ahead
    → Led turn device Both entry (asked ++ more) (answers ++ others) ahead
led_then turn device One Two Both entry asked more answers others ahead then' same one two =
    let all = one.states ++ (two.states ++ ahead) in
    let mid : Device = device (last_of entry one.states) in
    let end : Device = device (last_of (last_of entry one.states) (two.states ++ ahead)) in
    let first_part : One (device entry) (marks_of device one.states) mid =
    subst (λ states. One (device entry) (marks_of device states) (device (last_of entry states))) (append-nil one.states) one.made in
    let both : Both (device entry) (marks_of device one.states ++ marks_of device (two.states ++ ahead)) end =
    then' (device entry) mid end (marks_of device one.states) (marks_of device (two.states ++ ahead)) first_part two.made in
    let marks : Both (device entry) (marks_of device all) end =
    subst (λ (ms : List (Option Device)). Both (device entry) ms end) (sym (map-append (λ s. Some (device s)) one.states (two.states ++ ahead))) both in
    let last : Both (device entry) (marks_of device all) (device (last_of entry all)) =
    subst (λ s. Both (device entry) (marks_of device all) (device s)) (sym (last_of-append entry one.states (two.states ++ ahead))) marks in
    record {
      states = one.states ++ two.states;
      leads = leads_append turn entry asked more answers others one.states two.states same one.leads two.leads;
      made = subst (λ states. Both (device entry) (marks_of device states) (device (last_of entry states))) (sym (append_assoc one.states two.states ahead)) last;
    }
