-- What follows of the keys of a whole run, and of its ledger.
use Rattle.std.proofs.Common.{ℕ, List, [], ◌∷◌, Option, None, map, sym, subst}
use Rattle.std.proofs.lemmas.List.Elements.{All-contains}
use Rattle.sdbt_base.specs.Keys.{bare}
use Rattle.platform.specs.History.{History, image_at}
use Rattle.key_graph.specs.Chains.{Reached}
use Rattle.key_graph.proofs.ChainLaws.{contains_map, map_contains}
use Rattle.key_graph.proofs.LaterLaws.{by_one}
use Rattle.page_store.specs.Kept.{Kept}
use Rattle.page_store.specs.Floors.{ReachesStill}
use Rattle.page_store.specs.Disclosing.{DisclosesBy}
use Rattle.sdbt_base.specs.Arrays.{Device, closed}
use Rattle.page_store.specs.Stands.{Stands}
use Rattle.device_terms.specs.Served.{IsServedImage}
use Rattle.device_course.specs.Marks.{last_mark}
use Rattle.device_course.specs.States.{Outside, IsLater}
use Rattle.device_course.specs.Fitting.{LeavesFitting}
use Rattle.device_course.specs.Keys.{KeepsOn}
use Rattle.device_course.specs.Course.{Made}
use Rattle.device_course.proofs.CourseLaws.{course_ended, course_discloses}
use Rattle.device_course.proofs.FitsLaws.{leaves_fitting}
use Rattle.device_course.proofs.MadeLaws.{made_stands}
use Rattle.device_course.specs.Reaching.{Taken, WasTaken, ReachesUnion, DisclosesTree}

-- what the root record of each moment reaches, those of several do together
reaches_union : (old new : History) → ReachesStill old new → ReachesUnion old new
reaches_union old new still until within all each addr =
    let pages = (image_at new until).recorded in
    let key : Taken → List ℕ = λ t. bare t.root.key in (
      λ reached.
          let one = (by_one (map key all) pages addr).0 reached in
          let found = contains_map key all one.0 one.1 in
          let was = All-contains (WasTaken old new until) all found.0 each found.1 in
          record {
            taken = found.0;
            one = found.1;
            has = (still found.0.at until was.from was.before within found.0.root was.is addr).0 (subst (λ (k : List ℕ). Reached (k ∷ []) pages addr) (sym found.2) one.2);
          },
      λ is.
          let was = All-contains (WasTaken old new until) all is.taken each is.one in
          (by_one (map key all) pages addr).1 (
            key is.taken,
            map_contains key all is.taken is.one,
            (still is.taken.at until was.from was.before within is.taken.root was.is addr).1 is.has,
          ),
    )

-- the whole run, over an image from which it made some devices
pub discloses : (tells : Type 0) (old new : Outside) (Going : Type 0) (Done : List (List ℕ) → Type 0) → IsLater old new → KeepsOn tells old.drawn new.drawn old.written new.written None old.history new.history Going Done
    → (tells → (device : Option Device) → Stands old.history.present device → IsServedImage old.history.present
    → (marks : List (Option Device)) × Made old.history new.history None (closed device) marks (closed (last_mark device marks)))
    → DisclosesTree tells old.drawn new.drawn old.history new.history
unfolding course_ended
discloses tells old new Going Done later on made = record {
  grew = on.keys.grew;
  drew = on.keys.drew;
  handed = on.keys.handed;
  only = by;
  several = λ told device stands served keys kept premises. reaches_union old.history new.history ((by told device stands served keys kept).trees premises).still;
}
  where
    by : tells → (device : Option Device) → Stands old.history.present device → IsServedImage old.history.present → (keys : List (List ℕ)) → Kept keys old.history.present
        → DisclosesBy keys on.keys.grew old.history new.history
    by told device stands served keys kept =
        let m = made told device stands served in
        let exit = closed (last_mark device m.0) in
        course_discloses Going old new None None (closed device) exit m.0 keys (course_ended tells Going told old new None (closed device) exit m.0 Done m.1 later on) kept (device, stands)

-- with what was put, the ledgers that fitted the image at the start fit what is left at the end
pub fits : (tells : Type 0) (old new : Outside) (Going : Type 0) (Done : List (List ℕ) → Type 0) → KeepsOn tells old.drawn new.drawn old.written new.written None old.history new.history Going Done
    → (tells → (device : Option Device) → Stands old.history.present device → IsServedImage old.history.present
    → (marks : List (Option Device)) × Made old.history new.history None (closed device) marks (closed (last_mark device marks)))
    → tells → (device : Option Device) → Stands old.history.present device → IsServedImage old.history.present → LeavesFitting old.written new.written old.history.present old.history new.history
fits tells old new Going Done on made told device stands served =
    let m = made told device stands served in
    leaves_fitting old.written new.written old.history new.history (made_stands old.history new.history None (closed device) (closed (last_mark device m.0)) m.0 m.1)
    (on.fits told (closed device) (record { there = record { device = stands; session = tt }; served = served }))
