use Rattle.std.proofs.Common.{◌≡◌, ℕ, ◌+◌, Option, Some, option_to_list, vec_len, ◌<◌, ◌≤◌, List, ◌∷◌, ◌++◌, [], length, take, refl, sym, ap, subst, ◌∙◌, arith}
use Rattle.std.proofs.Math.ListN.{length-append}
use Rattle.std.proofs.lemmas.List.{take_at}
use Rattle.medium_trace.specs.Trace.{Trace, IsWhole as IsTrace}
use Rattle.platform.specs.declared.store.Moment.{Moment}
use Rattle.platform.specs.Log.{IsLog, image_now, past_images}
use Rattle.platform.proofs.LogSteps.{IsLog-push, IsLog-grown, past_images-push}
use Rattle.platform.proofs.Moments.{Steps-push, Steps-same}
use Rattle.platform.proofs.store.Store.append.Goals as goal

-- the last of a list is taken back
taken_back : {X : Type 0} (front left : List X) (last x : X) (all : List X) (popped : Option X) → all ≡ front ++ last ∷ [] → all ≡ left ++ option_to_list popped → popped ≡ Some x → left ≡ front
taken_back front left last x all popped is split some =
    let both : left ++ x ∷ [] ≡ front ++ last ∷ [] = ap (λ item. left ++ option_to_list item) (sym some) ∙ sym split ∙ is in
    let size : length left ≡ length front = omega (arith, ap length both, length-append left (x ∷ []), length-append front (last ∷ [])) in
    sym (take_at left (x ∷ []) (length front) size) ∙ ap (take (length front)) both ∙ take_at front (last ∷ []) (length front) refl

-- a medium is what it shows
same_trace : (a b : Trace) → a.recorded ≡ b.recorded → a.readable ≡ b.readable → a.synced ≡ b.synced → a ≡ b
same_trace a b recorded readable synced =
    ap (λ (pages : List (List ℕ)). record { recorded = pages; readable = a.readable; synced = a.synced }) recorded
    ∙ ap (λ (pages : List (List ℕ)). record { recorded = b.recorded; readable = pages; synced = a.synced }) readable
    ∙ ap (λ (n : ℕ). record { recorded = b.recorded; readable = b.readable; synced = n }) synced

-- a page more is on the medium
log_longer : (page : List ℕ) (old new : Trace) (held : Option (List ℕ)) (log : List Moment) → new.recorded ≡ old.recorded ++ page ∷ [] → new.synced ≡ old.synced → IsTrace new → IsLog old held log → IsLog new held log
log_longer page old new held log recorded synced is_trace is_log =
    let more : length new.recorded ≡ length old.recorded + 1 = ap length recorded ∙ length-append old.recorded (page ∷ []) in
    IsLog-grown old new held log is_trace (omega (arith, more)) (omega (arith, synced)) is_log

not_empty : (n m : ℕ) → m ≡ n + 1 → 0 < m
not_empty n m one = omega (arith, one)

-- one moment more is logged
no_fewer : (n few many : ℕ) → n ≤ few → many ≡ few + 1 → n ≤ many
no_fewer n few many within one = omega (arith, within, one)

pub invariant_of-self-in-Ok-1 : goal.invariant_of-self-in-Ok-1
invariant_of-self-in-Ok-1 c =
    let old = c.args.self.now in
    let new = c.push-2.new.self in
    let logged = IsLog-push old.medium old.cell old.log.items c.now-now.result old.logged c.now-now.ensures in
    record {
      logged = subst (IsLog new old.cell) (sym c.in_ok-push.ensures.items)
          (log_longer c.args.page.now old.medium new old.cell (old.log.items ++ c.now-now.result ∷ []) c.in-Ok.ensures.recorded c.push-2.ensures.synced c.push-2.ensures.whole logged);
      counted = no_fewer old.changes (length old.log.items) (length c.push.new.self.items) old.counted (ap length c.in_ok-push.ensures.items ∙ length-append old.log.items (c.now-now.result ∷ []));
    }

pub returns-in-Ok-clause-past : goal.returns-in-Ok-clause-past
returns-in-Ok-clause-past c =
    let old = c.args.self.now in
    let size = length old.medium.recorded in
    rw c.in_ok-push.ensures.items (past_images-push old.medium c.push-2.new.self old.cell old.log.items c.now-now.result old.logged c.now-now.ensures
    (rw c.in-Ok.ensures.recorded (take_at old.medium.recorded (c.args.page.now ∷ []) size refl))
    (rw c.in-Ok.ensures.readable (take_at old.medium.readable (c.args.page.now ∷ []) size old.logged.medium.as_many)))

pub returns-in-Ok-clause-time : goal.returns-in-Ok-clause-time
returns-in-Ok-clause-time c = Steps-push _ _ (returns-in-Ok-clause-past c)

pub invariant_of-self-in-Err-clause-logged : goal.invariant_of-self-in-Err-clause-logged
invariant_of-self-in-Err-clause-logged c =
    let old = c.args.self.now in
    let same = same_trace c.push-2.new.self old.medium c.in-Err.ensures.recorded c.in-Err.ensures.readable c.push-2.ensures.synced in
    let back = taken_back old.log.items c.pop.new.self.items c.now-now.result _ c.push.new.self.items c.pop.result c.in_ok-push.ensures.items c.pop.ensures.items (c.pop.ensures.value c.now-now.result (not_empty (vec_len old.log) (vec_len c.push.new.self) c.in_ok-push.ensures.len)) in
    subst (λ (trace : Trace). IsLog trace old.cell c.pop.new.self.items) (sym same) (subst (IsLog old.medium old.cell) (sym back) old.logged)

pub returns-in-Err-clause-present : goal.returns-in-Err-clause-present
returns-in-Err-clause-present c =
    let old = c.args.self.now in
    let same = same_trace c.push-2.new.self old.medium c.in-Err.ensures.recorded c.in-Err.ensures.readable c.push-2.ensures.synced in
    ap (λ (trace : Trace). image_now trace old.cell) same

pub returns-in-Err-clause-past : goal.returns-in-Err-clause-past
returns-in-Err-clause-past c =
    let old = c.args.self.now in
    let same = same_trace c.push-2.new.self old.medium c.in-Err.ensures.recorded c.in-Err.ensures.readable c.push-2.ensures.synced in
    let back = taken_back old.log.items c.pop.new.self.items c.now-now.result _ c.push.new.self.items c.pop.result c.in_ok-push.ensures.items c.pop.ensures.items (c.pop.ensures.value c.now-now.result (not_empty (vec_len old.log) (vec_len c.push.new.self) c.in_ok-push.ensures.len)) in
    ap (λ (trace : Trace). past_images trace c.pop.new.self.items) same ∙ ap (past_images old.medium) back

pub returns-in-Err-clause-time : goal.returns-in-Err-clause-time
returns-in-Err-clause-time c = Steps-same _ _ (returns-in-Err-clause-past c) (returns-in-Err-clause-present c)
