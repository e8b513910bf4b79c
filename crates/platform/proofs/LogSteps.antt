-- A change that is logged before it is made adds a moment to the history.
use Rattle.std.proofs.Common.{◌≡◌, ℕ, zero, suc, ◌≤◌, Option, List, [], ◌∷◌, ◌++◌, length, take, refl, sym, ◌∙◌, ap, subst, arith}
use Rattle.std.specs.Prelude.{All, AllPairs}
use Rattle.std.proofs.lemmas.List.{take-take, take_all, map-append}
use Rattle.std.proofs.lemmas.List.Elements.{All-nil, All-head, All-tail, All-push, All-take, All-weaker}
use Rattle.std.proofs.lemmas.List.Kept.{AllPairs-cons}
use Rattle.medium_trace.specs.Trace.{Trace, IsWhole as IsTrace}
use Rattle.erasable_root.specs.Cell.{IsCell}
use Rattle.platform.specs.declared.store.Moment.{Moment}
use Rattle.platform.specs.Image.{Image}
use Rattle.platform.specs.Log.{HasBeen, IsBefore, IsLog, IsNow, image_now, image_then, past_images}
use Rattle.platform.specs.Logged.{AllPairs-nil, AllPairs-first, AllPairs-rest}

-- pairs of a list

AllPairs-push : {X : Type 0} (R : X → X → Type 0) (xs : List X) (last : X) → AllPairs R xs → All (λ x. R x last) xs → AllPairs R (xs ++ last ∷ [])
AllPairs-push R [] last pairs all = AllPairs-cons R last [] (All-nil (R last)) (AllPairs-nil R)
AllPairs-push R (x ∷ xs) last pairs all =
    AllPairs-cons R x (xs ++ last ∷ []) (All-push (R x) xs last (AllPairs-first R x xs pairs) (All-head (λ y. R y last) x xs all))
    (AllPairs-push R xs last (AllPairs-rest R x xs pairs) (All-tail (λ y. R y last) x xs all))

AllPairs-take : {X : Type 0} (R : X → X → Type 0) (n : ℕ) (xs : List X) → AllPairs R xs → AllPairs R (take n xs)
AllPairs-take R zero xs pairs = AllPairs-nil R
AllPairs-take R (suc n) [] pairs = AllPairs-nil R
AllPairs-take R (suc n) (x ∷ xs) pairs =
    AllPairs-cons R x (take n xs) (All-take (R x) n xs (AllPairs-first R x xs pairs)) (AllPairs-take R n xs (AllPairs-rest R x xs pairs))

-- changes of a log

-- the present moment is logged
pub IsLog-push : (trace : Trace) (held : Option (List ℕ)) (log : List Moment) (now : Moment) → IsLog trace held log → IsNow trace held now → IsLog trace held (log ++ now ∷ [])
IsLog-push trace held log now is_log is_now = record {
  medium = is_log.medium;
  cell = is_log.cell;
  past = All-push (HasBeen trace) log now is_log.past record {
    cell = subst IsCell (sym is_now.cell) is_log.cell;
    within = omega (arith, is_now.pages, is_now.synced, is_log.medium.synced);
    pages = omega (arith, is_now.pages);
    synced = omega (arith, is_now.synced);
  };
  ordered = AllPairs-push IsBefore log now is_log.ordered
      (All-weaker (HasBeen trace) (λ then. IsBefore then now) (λ then been. record { pages = omega (arith, is_now.pages, been.pages); synced = omega (arith, is_now.synced, been.synced) }) log is_log.past);
}

-- the last moment is taken back
pub IsLog-take : (trace : Trace) (held : Option (List ℕ)) (n : ℕ) (log : List Moment) → IsLog trace held log → IsLog trace held (take n log)
IsLog-take trace held n log is_log = record {
  medium = is_log.medium;
  cell = is_log.cell;
  past = All-take (HasBeen trace) n log is_log.past;
  ordered = AllPairs-take IsBefore n log is_log.ordered;
}

-- the medium grows
pub IsLog-grown : (old new : Trace) (held : Option (List ℕ)) (log : List Moment) → IsTrace new → length old.recorded ≤ length new.recorded → old.synced ≤ new.synced → IsLog old held log → IsLog new held log
IsLog-grown old new held log is_trace pages synced is_log = record {
  medium = is_trace;
  cell = is_log.cell;
  past = All-weaker (HasBeen old) (HasBeen new)
      (λ then been. record { cell = been.cell; within = been.within; pages = omega (arith, pages, been.pages); synced = omega (arith, synced, been.synced) }) log is_log.past;
  ordered = is_log.ordered;
}

-- the cell changes
pub IsLog-cell : (trace : Trace) (old new : Option (List ℕ)) (log : List Moment) → IsCell new → IsLog trace old log → IsLog trace new log
IsLog-cell trace old new log is_cell is_log = record { medium = is_log.medium; cell = is_cell; past = is_log.past; ordered = is_log.ordered }

-- nothing is logged
pub IsLog-nil : (trace : Trace) (held : Option (List ℕ)) → IsTrace trace → IsCell held → IsLog trace held []
IsLog-nil trace held is_trace is_cell = record { medium = is_trace; cell = is_cell; past = All-nil (HasBeen trace); ordered = AllPairs-nil IsBefore }

image_then-kept : (old new : Trace) (then : Moment) → HasBeen old then → take (length old.recorded) new.recorded ≡ old.recorded → take (length old.recorded) new.readable ≡ old.readable → image_then new then ≡ image_then old then
image_then-kept old new then been recorded readable =
    let pages : take then.pages new.recorded ≡ take then.pages old.recorded = sym (take-take then.pages (length old.recorded) new.recorded been.pages) ∙ ap (λ (xs : List (List ℕ)). take then.pages xs) recorded in
    let reads : take then.pages new.readable ≡ take then.pages old.readable = sym (take-take then.pages (length old.recorded) new.readable been.pages) ∙ ap (λ (xs : List (List ℕ)). take then.pages xs) readable in
    ap (λ (xs : List (List ℕ)). record { cell = then.cell; recorded = xs; readable = take then.pages new.readable; synced = then.synced }) pages
    ∙ ap (λ (xs : List (List ℕ)). record { cell = then.cell; recorded = take then.pages old.recorded; readable = xs; synced = then.synced }) reads

past_images-kept : (old new : Trace) (log : List Moment) → All (HasBeen old) log → take (length old.recorded) new.recorded ≡ old.recorded → take (length old.recorded) new.readable ≡ old.readable → past_images new log ≡ past_images old log
past_images-kept old new [] been recorded readable = refl
past_images-kept old new (then ∷ log) been recorded readable =
    let here = image_then-kept old new then (All-head (HasBeen old) then log been) recorded readable in
    let rest = past_images-kept old new log (All-tail (HasBeen old) then log been) recorded readable in
    ap (λ (image : Image). image ∷ past_images new log) here ∙ ap (λ (images : List Image). image_then old then ∷ images) rest

-- what was the present moment is the last one of the past, once it is logged and the medium has grown
pub past_images-push : (old new : Trace) (held : Option (List ℕ)) (log : List Moment) (now : Moment) → IsLog old held log → IsNow old held now → take (length old.recorded) new.recorded ≡ old.recorded → take (length old.recorded) new.readable ≡ old.readable → past_images new (log ++ now ∷ []) ≡ past_images old log ++ image_now old held ∷ []
past_images-push old new held log now is_log is_now recorded readable =
    let pages : take now.pages new.recorded ≡ old.recorded = ap (λ n. take n new.recorded) is_now.pages ∙ recorded in
    let reads : take now.pages new.readable ≡ old.readable = ap (λ n. take n new.readable) is_now.pages ∙ readable in
    let last : image_then new now ≡ image_now old held =
    ap (λ (xs : List (List ℕ)). record { cell = now.cell; recorded = xs; readable = take now.pages new.readable; synced = now.synced }) pages
    ∙ ap (λ (xs : List (List ℕ)). record { cell = now.cell; recorded = old.recorded; readable = xs; synced = now.synced }) reads
    ∙ ap (λ cell. record { cell = cell; recorded = old.recorded; readable = old.readable; synced = now.synced }) is_now.cell
    ∙ ap (λ synced. record { cell = held; recorded = old.recorded; readable = old.readable; synced = synced }) is_now.synced in
    map-append (image_then new) log (now ∷ [])
    ∙ ap (λ (images : List Image). images ++ image_then new now ∷ []) (past_images-kept old new log is_log.past recorded readable)
    ∙ ap (λ (image : Image). past_images old log ++ image ∷ []) last

-- the same, where no page was added
pub past_images-same : (old new : Trace) (held : Option (List ℕ)) (log : List Moment) (now : Moment) → IsLog old held log → IsNow old held now → new.recorded ≡ old.recorded → new.readable ≡ old.readable → past_images new (log ++ now ∷ []) ≡ past_images old log ++ image_now old held ∷ []
past_images-same old new held log now is_log is_now recorded readable =
    past_images-push old new held log now is_log is_now
    (ap (take (length old.recorded)) recorded ∙ take_all (length old.recorded) old.recorded (omega arith))
    (ap (take (length old.recorded)) readable ∙ take_all (length old.recorded) old.readable (omega (arith, is_log.medium.as_many)))
