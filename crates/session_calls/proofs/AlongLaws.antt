-- How parts of a run compose in which a session goes on, and that its pages read as they did where none is added.
use Rattle.std.proofs.Common.{◌≡◌, ◌+◌, ℕ, Some, length, refl, sym, ◌∙◌, arith}
use Rattle.std.proofs.lemmas.List.{take_all}
use Rattle.platform.specs.History.{Extends, History}
use Rattle.platform.specs.declared.platforms.Platform.{Ghosts as PlatformGhosts}
use Rattle.platform.proofs.Moments.{Extends-earlier, whole-now}
use Rattle.device_terms.proofs.MomentLaws.{still, stays_then}
use Rattle.device_course.specs.States.{IsListed}
use Rattle.device_course.proofs.KeysLaws.{on_start, on_then}
use Rattle.device_session.specs.Open.{IsOpen}
use Rattle.device_session.specs.Sessions.{Session}
use Rattle.device_session.proofs.GoingLaws.{forgets_nothing, forgets_nothing_then}
use Rattle.session_calls.specs.Along.{Along, Drawn}

-- nothing happened
pub along_start : {S : Type 0} (P : PlatformGhosts S) (platform : S) (drawn : Drawn) (session : Session) → IsOpen session (P.head platform) → Along P 0 0 platform platform drawn drawn session session
along_start P platform drawn session there_open = record {
  is_open = there_open;
  mounted = λ told mounted. mounted;
  blocks = refl;
  forgets = forgets_nothing session;
  cell = λ told. still (P.history platform);
  capacity = refl;
  rises = omega arith;
  adds = omega arith;
  needs = omega arith;
  reads = λ told. omega arith;
  changes = λ told. refl;
  keeps = λ written. on_start P.tells drawn.keys written (Some session) (P.history platform) (Unit {0});
  through = λ told entry at. (entry, at);
  fell = record { platform = omega arith; tape = omega arith; input = omega arith; output = omega arith; ledger = omega arith };
}

-- one part after another
pub along_then : {S : Type 0} (P : PlatformGhosts S) (some more few others : ℕ) (first second third : S) (drawn mid drawn_now : Drawn) (session between now : Session)
    → Along P some few first second drawn mid session between → Along P more others second third mid drawn_now between now → Along P (some + more) (few + others) first third drawn drawn_now session now
along_then P some more few others first second third drawn mid drawn_now session between now a b = record {
  is_open = b.is_open;
  mounted = λ told mounted. b.mounted told (a.mounted told mounted);
  blocks = b.blocks ∙ a.blocks;
  forgets = forgets_nothing_then session between now a.forgets b.forgets;
  cell = λ told. stays_then (P.history first) (P.history second) (P.history third) (a.cell told) (b.cell told);
  capacity = b.capacity ∙ a.capacity;
  rises = omega (arith, a.rises, b.rises);
  adds = omega (arith, a.adds, b.adds);
  needs = omega (arith, a.needs, b.needs);
  reads = λ told. omega (arith, a.reads told, b.reads told);
  changes = λ told. b.changes told ∙ a.changes told;
  keeps = λ written. on_then P.tells drawn.keys mid.keys drawn_now.keys written written written (Some session) (Some between) (P.history first) (P.history second) (P.history third) (Unit {0}) (Unit {0}) (IsListed (Some now) (P.history third).present) tt
      (a.keeps written) (b.keeps written) a.through;
  through = λ told entry at.
      let there = a.through told entry at in
      b.through told there.0 there.1;
  fell = record {
    platform = omega (arith, a.fell.platform, b.fell.platform);
    tape = omega (arith, a.fell.tape, b.fell.tape);
    input = omega arith;
    output = omega arith;
    ledger = omega arith;
  };
}

-- where as many pages are handed over as were, each reads as it did
pub pages_still : (old new : History) (head head_now : ℕ) → Extends old new → length old.present.recorded ≡ head → length new.present.recorded ≡ head_now → head_now ≡ head → new.present.readable ≡ old.present.readable
pages_still old new head head_now extends many many_now same =
    let earlier = Extends-earlier old new extends in
    let size : length new.present.readable ≡ length old.present.recorded = omega (arith, (whole-now new).as_many, many, many_now, same) in
    sym (take_all (length old.present.recorded) new.present.readable (omega (arith, size))) ∙ earlier.readable
