-- How parts of a run compose, and what follows of each.
use Rattle.std.proofs.Common.{ℕ, ◌≤◌, List, [], ◌++◌, Option, None, refl, ◌∙◌, subst, arith}
use Rattle.sdbt_base.specs.Arrays.{Device, State, closed}
use Rattle.page_store.specs.Stands.{Stands}
use Rattle.page_store.specs.Kept.{Kept}
use Rattle.page_store.specs.Disclosing.{DisclosesBy}
use Rattle.page_store.proofs.DisclosingLaws.{discloses as run_discloses}
use Rattle.device_terms.specs.Served.{IsServedImage}
use Rattle.device_session.specs.Sessions.{Session}
use Rattle.device_course.specs.States.{Outside, IsAt, IsLater, IsListed}
use Rattle.device_course.specs.Keys.{KeepsOn}
use Rattle.device_course.specs.Course.{Made, Course, Part, Ended, Promised}
use Rattle.device_course.proofs.CertifiedLaws.{certified_going}
use Rattle.device_course.proofs.FitsLaws.{leaves_fitting}
use Rattle.device_course.proofs.MadeLaws.{made_start, made_then, made_closed, made_stands}
use Rattle.device_course.proofs.KeysLaws.{sound_of, on_start, on_then, on_done}

-- nothing happened
pub course_start : (old : Outside) (session : Option Session) (entry : State) → old.head ≤ old.capacity → IsAt old.history.present session entry → Course old old session session entry [] entry
course_start old session entry room at = record {
  made = made_start old.history session entry at;
  later = record { capacity = refl; rises = omega arith; within = room };
  on = on_start (Unit {0}) old.drawn old.written session old.history (Unit {0});
}

-- one part after another
pub course_then : (Going : Type 0) (first second third : Outside) (before between after : Option Session) (entry mid exit : State) (one two : List (Option Device))
    → Course first second before between entry one mid → Part Going second third between after mid two exit → Part Going first third before after entry (one ++ two) exit
course_then Going first second third before between after entry mid exit one two a b = record {
  made = made_then first.history second.history third.history between after entry mid exit one two a.made b.made;
  later = record { capacity = b.later.capacity ∙ a.later.capacity; rises = omega (arith, a.later.rises, b.later.rises); within = b.later.within };
  on =
      on_then (Unit {0}) first.drawn second.drawn third.drawn first.written second.written third.written before between first.history second.history third.history (Unit {0}) Going (IsListed after third.history.present) tt
      a.on b.on (λ told state there. (mid, a.made.exits));
}

-- the session is given up
pub course_closed : (Going : Type 0) (old new : Outside) (before after : Option Session) (entry exit : State) (marks : List (Option Device)) → Part Going old new before after entry marks exit → Part Going old new before None entry marks (closed exit.device)
course_closed Going old new before after entry exit marks c = record {
  made = made_closed old.history new.history after entry exit marks c.made;
  later = c.later;
  on =
      on_done (Unit {0}) old.drawn new.drawn old.written new.written before old.history new.history Going Going (IsListed after new.history.present) (IsListed None new.history.present) c.on (λ going. going)
      (λ keys h. sound_of after new.history.present keys h);
}

-- where a run goes on it may also stop
pub course_stops : (old new : Outside) (before after : Option Session) (entry exit : State) (marks : List (Option Device)) → Course old new before after entry marks exit → Ended old new before after entry marks exit
course_stops old new before after entry exit marks c = record {
  made = c.made;
  later = c.later;
  on =
      on_done (Unit {0}) old.drawn new.drawn old.written new.written before old.history new.history (Unit {0}) ⊥ (IsListed after new.history.present) (IsListed after new.history.present) c.on (λ never. tt)
      (λ keys h. h);
}

-- a run that ended without a session, from what it kept on any image and what it made from this one
unfoldable pub course_ended : (tells Going : Type 0) (told : tells) (old new : Outside) (before : Option Session) (entry exit : State) (marks : List (Option Device)) (Done : List (List ℕ) → Type 0)
    → Made old.history new.history None entry marks exit → IsLater old new → KeepsOn tells old.drawn new.drawn old.written new.written before old.history new.history Going Done → Part Going old new before None entry marks exit
course_ended tells Going told old new before entry exit marks Done made later on = record {
  made = made;
  later = later;
  on = record {
    keys = record {
      grew = on.keys.grew;
      drew = on.keys.drew;
      extends = λ yes. on.keys.extends told;
      handed = λ yes. on.keys.handed told;
      keeps = λ yes keys kept h. record { kept = (on.keys.keeps told keys kept h).kept; done = (exit.device, made.exits.there.device) };
    };
    deleted = λ yes. on.deleted told;
    serves = λ yes. on.serves told;
    certified = record { certs = on.certified.certs; more = on.certified.more; count = on.certified.count; got = on.certified.got; of = λ yes. on.certified.of told; whole = on.certified.whole };
    fits = λ yes. on.fits told;
  };
}

-- what the pages of a course disclose
pub course_discloses : (Going : Type 0) (old new : Outside) (before after : Option Session) (entry exit : State) (marks : List (Option Device)) (keys : List (List ℕ)) → (c : Part Going old new before after entry marks exit) → Kept keys old.history.present → IsListed before old.history.present keys → DisclosesBy keys c.on.keys.grew old.history new.history
course_discloses Going old new before after entry exit marks keys c kept listed =
    run_discloses keys c.on.keys.grew old.history new.history kept (c.on.keys.handed tt) (c.on.keys.keeps tt keys kept listed).kept (c.on.deleted tt keys kept listed)
    (made_stands old.history new.history after entry exit marks c.made)

-- a course that began without a session
pub promised : (Going : Type 0) (old new : Outside) (after : Option Session) (device : Option Device) (exit : State) (marks : List (Option Device)) → Stands old.history.present device → IsServedImage old.history.present → Part Going old new None after (closed device) marks exit → Promised old new device marks
promised Going old new after device exit marks stands served c = record {
  passes = c.made.passes;
  stands = subst (λ (d : Option Device). Stands new.history.present d) c.made.last c.made.exits.there.device;
  serves = c.on.serves tt served;
  later = c.later;
  grew = c.on.keys.grew;
  drew = c.on.keys.drew;
  handed = c.on.keys.handed tt;
  discloses = λ keys kept. course_discloses Going old new None after (closed device) exit marks keys c kept (device, stands);
  certified = certified_going (Unit {0}) old.written new.written old.history new.history Going ⊥ (λ never. absurd never) c.on.certified;
  fits = leaves_fitting old.written new.written old.history new.history (made_stands old.history new.history after (closed device) exit marks c.made) (c.on.fits tt (closed device) (record { there = record { device = stands; session = tt }; served = served }));
}
