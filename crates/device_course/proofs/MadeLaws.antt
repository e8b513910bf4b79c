-- Which devices a call makes, and how parts of a run compose.
use Rattle.std.proofs.Common.{◌≡◌, ◌+◌, ℕ, zero, suc, List, [], ◌∷◌, ◌++◌, Option, None, Some, inl, inr, length, refl, sym, ◌∙◌, subst, ap, arith, length-append}
use Rattle.std.specs.Prelude.{◌⊎◌}
use Rattle.sdbt_base.specs.Arrays.{Device, State, closed}
use Rattle.platform.specs.Image.{Image, LeavesOnly}
use Rattle.platform.specs.History.{History, CellStays, Steps, During, Turns, image_at}
use Rattle.platform.specs.Runs.{Passes}
use Rattle.platform.proofs.Moments.{During-now, During-turns, LeavesOnly-now, Turns-not}
use Rattle.platform.proofs.RunLaws.{Passes-start, Passes-during, Passes-turns, Passes-then, Turns-cases}
use Rattle.page_store.specs.Stands.{Stands}
use Rattle.page_store.proofs.StandsLaws.{one_device, stands_during, stands_leaves}
use Rattle.device_terms.specs.Served.{IsServedImage}
use Rattle.device_terms.proofs.MomentLaws.{one_look}
use Rattle.device_terms.proofs.ServedLaws.{serves_still}
use Rattle.device_session.specs.Sessions.{Session}
use Rattle.device_course.specs.Marks.{Leaves, HasMark, mark_at, last_mark}
use Rattle.device_course.specs.States.{IsAt}
use Rattle.device_course.specs.Course.{Made, MadeBetween}
use Rattle.device_course.proofs.MarkLaws.{last_mark-append, mark_at-front, mark_at-behind}

-- without a session
pub shut : (image : Image) (device : Option Device) → Stands image device → IsServedImage image → IsAt image None (closed device)
shut image device stands served = record { there = record { device = stands; session = tt }; served = served }

-- nothing happened
pub made_start : (history : History) (session : Option Session) (entry : State) → IsAt history.present session entry → Made history history session entry [] entry
made_start history session entry at = record {
  passes = Passes-start history (HasMark entry.device []) 0 (stands_leaves history.present entry.device at.there.device);
  last = refl;
  exits = at;
}

-- the device stayed
pub made_none : (old new : History) (after : Option Session) (entry exit : State) → Stands old.present entry.device → During old new (Leaves entry.device)
    → exit.device ≡ entry.device → IsAt new.present after exit → Made old new after entry [] exit
made_none old new after entry exit stands during same there =
    let d : Option Device = entry.device in record {
      passes = Passes-during old old new (HasMark d []) 0 (Passes-start old (HasMark d []) 0 (stands_leaves old.present d stands)) during;
      last = same;
      exits = there;
    }

-- a look at the platform makes no device
pub made_look : (old new : History) (device : Option Device) → Stands old.present device → IsServedImage old.present → Steps old new → new.present ≡ old.present
    → (marks : List (Option Device)) × Made old new None (closed device) marks (closed (last_mark device marks))
made_look old new device stands served steps same = (
  [],
  made_none old new None (closed device) (closed device) stands (stands_during old new device stands (one_look old new steps same)) refl
      (shut new.present device (subst (λ (i : Image). Stands i device) (sym same) stands) (subst IsServedImage (sym same) served)),
)

-- it may have come to be another one, and at the end the image stands for this one
made : (old new : History) (d next here : Option Device) → Turns old new (Leaves d) (Leaves next) → Stands new.present here → Turns old new (Leaves d) (Leaves here)
made old new d next here turns stands = elim (Turns-cases old new (Leaves d) (Leaves next) turns) as (λ e. Turns old new (Leaves d) (Leaves here)) [
  | inl during ↦ Turns-not old new (Leaves d) (Leaves here) during
  | inr come ↦
      let same : next ≡ here = one_device new.present next here (LeavesOnly-now new (λ left. Stands left next) come) stands in
      subst (λ (x : Option Device). Turns old new (Leaves d) (Leaves x)) same turns
]

pub made_one : (old new : History) (after : Option Session) (entry exit : State) (next : Option Device) → Stands old.present entry.device
    → Turns old new (Leaves entry.device) (Leaves next) → IsAt new.present after exit → Made old new after entry (exit.device ∷ []) exit
made_one old new after entry exit next stands turns there =
    let d : Option Device = entry.device in
    let marks : List (Option Device) = exit.device ∷ [] in record {
      passes = Passes-turns old old new (HasMark d marks) 0 (Passes-start old (HasMark d marks) 0 (stands_leaves old.present d stands))
          (made old new d next exit.device turns there.there.device);
      last = refl;
      exits = there;
    }

-- the device stayed, and a mark tells of it again
pub made_same : (old new : History) (after : Option Session) (entry exit : State) → Stands old.present entry.device → During old new (Leaves entry.device)
    → IsAt new.present after exit → Made old new after entry (exit.device ∷ []) exit
made_same old new after entry exit stands during there =
    made_one old new after entry exit entry.device stands (Turns-not old new (Leaves entry.device) (Leaves entry.device) during) there

-- at the end of which the image stands for the device that there was
pub stayed : (old new : History) (d next : Option Device) → Turns old new (Leaves d) (Leaves next) → Stands new.present d → During old new (Leaves d)
stayed old new d next turns stands =
    let either = During-turns old new (Leaves d) (Leaves d) (made old new d next d turns stands) in
    record { extends = either.extends; each = λ i from to. elim (either.each i from to) [ inl one ↦ one | inr other ↦ other ] }

-- a call that stopped on its way to another device: it made nothing, or that one
pub made_stopped : (old new : History) (entry : State) (next : Option Device) → Stands old.present entry.device → IsServedImage new.present
    → Turns old new (Leaves entry.device) (Leaves next)
    → Made old new None entry [] (closed entry.device) ⊎ Made old new None entry (next ∷ []) (closed next)
made_stopped old new entry next stands served turns =
    let d : Option Device = entry.device in
    elim (Turns-cases old new (Leaves d) (Leaves next) turns) as (λ e. Made old new None entry [] (closed d) ⊎ Made old new None entry (next ∷ []) (closed next)) [
      | inl during ↦ inl (made_none old new None entry (closed d) stands during refl
          (shut new.present d (LeavesOnly-now new (λ left. Stands left d) (During-now old new (Leaves d) during)) served))
      | inr come ↦ inr (made_one old new None entry (closed next) next stands turns
          (shut new.present next (LeavesOnly-now new (λ left. Stands left next) come) served))
    ]

-- one part after another
pub made_then : (first second third : History) (between after : Option Session) (entry mid exit : State) (one two : List (Option Device))
    → Made first second between entry one mid → Made second third after mid two exit → Made first third after entry (one ++ two) exit
made_then first second third between after entry mid exit one two a b =
    let start : Option Device = entry.device in
    let passes : Passes first third (HasMark start (one ++ two)) (length one + length two)
    = Passes-then first second third (HasMark start one) (HasMark mid.device two) (HasMark start (one ++ two)) (length one) (length two)
    (λ n image within has. subst (λ (d : Option Device). Leaves d image) (sym (mark_at-front start one two n within)) has)
    (λ n image has. subst (λ (d : Option Device). Leaves d image) (ap (λ (d : Option Device). mark_at d two n) a.last ∙ sym (mark_at-behind start one two n)) has)
    a.passes b.passes in
    record {
      passes = subst (Passes first third (HasMark start (one ++ two))) (sym (length-append one two)) passes;
      last = b.last ∙ (ap (λ (d : Option Device). last_mark d two) a.last ∙ sym (last_mark-append start one two));
      exits = b.exits;
    }

-- the session is given up
pub made_closed : (old new : History) (after : Option Session) (entry exit : State) (marks : List (Option Device))
    → Made old new after entry marks exit → Made old new None entry marks (closed exit.device)
made_closed old new after entry exit marks m = record { passes = m.passes; last = m.last; exits = shut new.present exit.device m.exits.there.device m.exits.served }

-- each mark is a device
pub made_stands : (old new : History) (after : Option Session) (entry exit : State) (marks : List (Option Device)) → Made old new after entry marks exit
    → During old new (λ image. (d : Option Device) × LeavesOnly (λ left. Stands left d) image)
made_stands old new after entry exit marks m = record {
  extends = m.passes.extends;
  each = λ i from to. (mark_at entry.device marks (m.passes.mark i), m.passes.each i from to);
}

-- and at the end the image stands for the last of them
pub made_marks : (old new : History) (after : Option Session) (entry exit : State) (marks : List (Option Device)) → Made old new after entry marks exit
    → Stands new.present (last_mark entry.device marks)
made_marks old new after entry exit marks m = subst (λ (d : Option Device). Stands new.present d) m.last m.exits.there.device

-- ---- a device with no session on it

-- stayed while the cell did
pub made_kept : (old new : History) (there : Device) → Stands old.present (Some there) → IsServedImage old.present → CellStays old new → MadeBetween old new there [] there
made_kept old new there stands served stays =
    let during : During old new (Leaves (Some there)) = stands_during old new (Some there) stands stays in
    made_none old new None (closed (Some there)) (closed (Some there)) stands during refl
    (shut new.present (Some there) (LeavesOnly-now new (λ left. Stands left (Some there)) (During-now old new (Leaves (Some there)) during)) (During-now old new IsServedImage (serves_still old new stays served)))

-- and a mark may tell of it again
pub made_again : (old new : History) (there : Device) → MadeBetween old new there [] there → MadeBetween old new there (Some there ∷ []) there
made_again old new there m = record {
  passes = record {
    extends = m.passes.extends;
    mark = λ i. 0;
    rises = λ i j le. omega arith;
    within = λ i. omega arith;
    each = m.passes.each;
  };
  last = refl;
  exits = m.exits;
}

mark_same : (first : Option Device) (k : ℕ) → mark_at first (first ∷ []) k ≡ first
mark_same first zero = refl
mark_same first (suc k) = refl

-- or no mark does
pub made_quiet : (old new : History) (there : Device) → MadeBetween old new there (Some there ∷ []) there → MadeBetween old new there [] there
made_quiet old new there m = record {
  passes = record {
    extends = m.passes.extends;
    mark = λ i. 0;
    rises = λ i j le. omega arith;
    within = λ i. omega arith;
    each = λ i from to. subst (λ (d : Option Device). Leaves d (image_at new i)) (mark_same (Some there) (m.passes.mark i)) (m.passes.each i from to);
  };
  last = refl;
  exits = m.exits;
}

-- from an earlier moment on, since which the device stayed
pub made_since : (first second third : History) (entry last : Device) (marks : List (Option Device)) → MadeBetween first second entry [] entry → MadeBetween second third entry marks last → MadeBetween first third entry marks last
made_since first second third entry last marks one two = made_then first second third None None (closed (Some entry)) (closed (Some entry)) (closed (Some last)) [] marks one two
