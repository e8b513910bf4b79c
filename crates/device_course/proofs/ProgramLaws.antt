-- What the end of a program over a device gives: what the ledger got; and an order that does nothing, or only looks.
use Rattle.std.proofs.Common.{◌≡◌, ◌≤◌, ℕ, List, [], Option, None, refl, sym, subst, arith}
use Rattle.sdbt_base.specs.Arrays.{Device, closed}
use Rattle.platform.specs.History.{Steps}
use Rattle.platform.proofs.Moments.{During-start}
use Rattle.page_store.specs.Stands.{Stands}
use Rattle.device_terms.specs.Served.{IsServedImage}
use Rattle.device_terms.proofs.MomentLaws.{one_look}
use Rattle.device_course.specs.Course.{Made}
use Rattle.device_course.specs.Keys.{KeepsOn}
use Rattle.device_course.specs.Marks.{last_mark}
use Rattle.device_course.specs.Programs.{KeepsLedger}
use Rattle.device_course.specs.States.{Outside, IsLater}
use Rattle.device_course.proofs.CertifiedLaws.{certified_going}
use Rattle.device_course.proofs.KeysLaws.{on_look}
use Rattle.device_course.proofs.MadeLaws.{made_look, made_start, shut}
use Rattle.device_course.proofs.ReachingLaws.{fits}

-- an order over the outside, which made some devices
pub record Ended (tells : Type 0) (old new : Outside) (Going : Type 0) : Type 0 where
  pub later : IsLater old new
  pub keeps : KeepsOn tells old.drawn new.drawn old.written new.written None old.history new.history Going (λ keys. Unit {0})
  pub made : tells → (device : Option Device) → Stands old.history.present device → IsServedImage old.history.present
      → (marks : List (Option Device)) × Made old.history new.history None (closed device) marks (closed (last_mark device marks))

pub keeps_ledger : (tells : Type 0) (old new : Outside) (Going Done : Type 0) → (Done → Going) → Ended tells old new Going → KeepsLedger tells old.written new.written old.history new.history Done
keeps_ledger tells old new Going Done going e = record {
  certified = certified_going tells old.written new.written old.history new.history Going Done going e.keeps.certified;
  fits = λ told there stands served. fits tells old new Going (λ keys. Unit {0}) e.keeps e.made told there stands served;
}

-- no order
pub ended_not : (tells : Type 0) (here : Outside) → here.head ≤ here.capacity → Ended tells here here (Unit {0})
ended_not tells here room = record {
  later = record { capacity = refl; rises = omega arith; within = room };
  keeps = on_look tells here.drawn here.written None here.history here.history (Unit {0}) (λ keys. Unit {0}) (λ told. refl)
      (λ told. During-start here.history (λ image. image.cell ≡ here.history.present.cell) refl) (λ told keys kept h. tt);
  made = λ told device stands served. ([], made_start here.history None (closed device) (shut here.history.present device stands served));
}

-- an order that only looks
pub ended_look : (tells : Type 0) (old new : Outside) (Going : Type 0) → IsLater old new → new.drawn ≡ old.drawn → new.written ≡ old.written
    → (tells → Steps old.history new.history) → (tells → new.history.present ≡ old.history.present) → Ended tells old new Going
ended_look tells old new Going later undrawn unput steps same = record {
  later = later;
  keeps = subst (λ (drawn : Option (List (List ℕ))). KeepsOn tells old.drawn drawn old.written new.written None old.history new.history Going (λ keys. Unit {0})) (sym undrawn)
      (subst (λ (written : Option (List ℕ)). KeepsOn tells old.drawn old.drawn old.written written None old.history new.history Going (λ keys. Unit {0})) (sym unput)
      (on_look tells old.drawn old.written None old.history new.history Going (λ keys. Unit {0}) same (λ told. one_look old.history new.history (steps told) (same told)) (λ told keys kept h. tt)));
  made = λ told device stands served. made_look old.history new.history device stands served (steps told) (same told);
}
