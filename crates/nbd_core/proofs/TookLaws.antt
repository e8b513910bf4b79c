-- How much a run takes of its input.
use Rattle.std.proofs.Common.{◌≡◌, ◌≤◌, ◌+◌, ◌^◌, ◌++◌, ℕ, List, [], Option, Result, Ok, Err, inl, inr, length, length-append, refl, sym, subst, arith}
use Rattle.sdbt_base.specs.Told.{Gave}
use Rattle.sdbt_base.proofs.ToldLaws.{Gave-nothing, Gave-then}
use Rattle.device_course.specs.States.{Outside}
use Rattle.device_course.specs.Held.{Held}
use Rattle.nbd_core.specs.Haggling.{Haggled}
use Rattle.nbd_core.specs.Room.{Room}
use Rattle.nbd_core.specs.Running.{GoesOn, IsEarly, Talks}
use Rattle.nbd_core.specs.declared.haggling.Agreed.{Agreed}
use Rattle.nbd_core.specs.declared.haggling.Agreed.TheVariants as agreed
use Rattle.nbd_core.specs.declared.stop.Stop.{Stop}
use Rattle.nbd_core.specs.declared.stop.Stop.TheVariants as stops
use Rattle.nbd_core.specs.declared.halts.Halt.{Halt}
use Rattle.nbd_core.specs.declared.halts.Halt.TheVariants as halts
use Rattle.nbd_core.specs.Changes.{Tally}

-- these bytes were taken: as many as may be at most, and all of them where the run ended so
pub record Taken (left left_now : Option (List ℕ)) (result : Result (Unit {0}) Halt) : Type 0 where
  pub bytes : List ℕ
  pub gave : Gave left bytes left_now
  pub most : length bytes ≤ 2 ^ 40
  pub limit : result ≡ Err (halts.Client stops.Limit) → length bytes ≡ 2 ^ 40

early_limit : (result : Result (Unit {0}) Halt) → IsEarly result → result ≡ Err (halts.Client stops.Limit) → ⊥
early_limit result early is = subst IsEarly is early

-- the greeting and options
record Heard (left left_now : Option (List ℕ)) (old new : Room) : Type 0 where
  bytes : List ℕ
  gave : Gave left bytes left_now
  count : new.left + length bytes ≡ old.left

heard_of : (size : ℕ) (left left_now : Option (List ℕ)) (old new : Room) (written written_now : Option (List ℕ)) (result : Result Agreed Stop) → Haggled size left left_now old new written written_now result → Heard left left_now old new
heard_of size left left_now old new written written_now result (inl greeted) = record { bytes = greeted.takes.taken; gave = greeted.takes.gave; count = greeted.takes.count }
heard_of size left left_now old new written written_now result (inr talked) = record { bytes = talked.takes.taken; gave = talked.takes.gave; count = talked.takes.count }

goes_taken : (From : Held → Type 0) (tells : Type 0) (count : Tally) (before after : Outside) (size : ℕ) (result_of : Result Agreed Stop) (first room : Room) (left left_then left_now written written_now : Option (List ℕ)) (result : Result (Unit {0}) Halt) → first.left ≡ 2 ^ 40
    → Heard left left_then first room → ((stop : Stop) → result_of ≡ Err stop → stop ≡ stops.Limit → room.left ≡ 0) → GoesOn From tells count before after size result_of room left_then left_now written written_now result → Taken left left_now result
goes_taken From tells count before after size (Ok agreed.Requests) first room left left_then left_now written written_now result most heard limit (last, served) = record {
  bytes = heard.bytes ++ served.takes.taken;
  gave = Gave-then left heard.bytes left_then served.takes.taken left_now heard.gave served.takes.gave;
  most = omega (arith, most, heard.count, served.takes.count, length-append heard.bytes served.takes.taken);
  limit = λ is.
      let none : last.left ≡ 0 = by result is served.limit in
      omega (arith, most, heard.count, served.takes.count, none, length-append heard.bytes served.takes.taken);
}
  where
    by : (r : Result (Unit {0}) Halt) → r ≡ Err (halts.Client stops.Limit) → Rattle.std.specs.Prelude.IfErr r (λ halt. halt ≡ halts.Client stops.Limit → last.left ≡ 0) → last.left ≡ 0
    by (Ok done) is l = absurd cc
    by (Err halt) is l = l (let e : halt ≡ halts.Client stops.Limit = cc in e)
goes_taken From tells count before after size (Ok agreed.Nothing) first room left left_then left_now written written_now result most heard limit (same, unput, is, stayed) = record {
  bytes = heard.bytes;
  gave = subst (λ (l : Option (List ℕ)). Gave left heard.bytes l) (sym same) heard.gave;
  most = omega (arith, most, heard.count);
  limit = λ at_limit. absurd cc;
}
goes_taken From tells count before after size (Err stop) first room left left_then left_now written written_now result most heard limit (same, unput, is, stayed) = record {
  bytes = heard.bytes;
  gave = subst (λ (l : Option (List ℕ)). Gave left heard.bytes l) (sym same) heard.gave;
  most = omega (arith, most, heard.count);
  limit = λ at_limit.
      let e : stop ≡ stops.Limit = cc in
      omega (arith, most, heard.count, limit stop refl e);
}

limit_of : (room : Room) (result_of : Result Agreed Stop) → Rattle.std.specs.Prelude.IfErr result_of (λ stop. stop ≡ stops.Limit → room.left ≡ 0) → (stop : Stop) → result_of ≡ Err stop → stop ≡ stops.Limit → room.left ≡ 0
limit_of room (Ok it) limit stop is = absurd cc
limit_of room (Err other) limit stop is = λ at_limit. limit (let e : other ≡ stops.Limit = cc in e)

pub talks_taken : (tells : Type 0) (count : Tally) (before after : Outside) (left left_now written written_now : Option (List ℕ)) (result : Result (Unit {0}) Halt) → Talks tells count before after left left_now written written_now result → Taken left left_now result
talks_taken tells count before after left left_now written written_now result (inl silent) = record {
  bytes = [];
  gave = subst (λ (l : Option (List ℕ)). Gave left [] l) (sym silent.untaken) (Gave-nothing left);
  most = omega arith;
  limit = λ is. absurd (early_limit result silent.early is);
}
talks_taken tells count before after left left_now written written_now result (inr there) =
    let conversed = there.conversed in
    goes_taken _ tells count before after there.size conversed.agreed conversed.first conversed.room left conversed.left_then left_now conversed.written_then written_now result conversed.fresh.1
    (heard_of there.size left conversed.left_then conversed.first conversed.room written conversed.written_then conversed.agreed conversed.haggled) (limit_of conversed.room conversed.agreed conversed.limit) conversed.goes_on
