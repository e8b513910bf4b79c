-- What calls add beside their purpose, one after the other.
use Rattle.std.proofs.Common.{◌≡◌, ◌∙◌, ◌+◌, ◌≤◌, ℕ, List, [], ◌∷◌, ◌++◌, Option, Some, None, Result, Ok, Err, refl, sym, ap, subst, arith, append-nil, length-append}
use Rattle.std.specs.Prelude.{IfOk, IsErrOf}
use Rattle.sdbt_base.specs.Keys.{bare}
use Rattle.sdbt_base.specs.declared.tapes.Tape.{Ghosts as TapeGhosts}
use Rattle.platform.specs.History.{During}
use Rattle.platform.proofs.Moments.{During-start, During-now, During-step, During-then}
use Rattle.platform.specs.declared.platforms.Platform.{Ghosts as PlatformGhosts}
use Rattle.page_store.specs.Appending.{AddsOne, IsPlaced, MayBePlaced}
use Rattle.page_store.specs.Keeping.{DrewAll}
use Rattle.page_store.specs.Reading.{ReadsPage}
use Rattle.page_store.specs.declared.appending.Placed.{Placed}
use Rattle.page_store.specs.declared.refusals.AppendFault.{AppendFault}
use Rattle.page_store.specs.declared.refusals.AppendFault.TheVariants.{TapeFault, PlatformFault}
use Rattle.page_store.proofs.KeepingLaws.{drew_then}
use Rattle.tree_build.specs.Building.{DrewFew, OnlyAdds}

-- ---- keys

-- no key
none_drawn : (drawn : Option (List (List ℕ))) → DrewAll drawn [] drawn
none_drawn None = refl
none_drawn (Some keys) = ap Some (sym (append-nil keys))

pub drew_none : (most : ℕ) (drawn drawn_now : Option (List (List ℕ))) → drawn_now ≡ drawn → DrewFew most drawn drawn_now
drew_none most drawn drawn_now same = ([], same ∙ none_drawn drawn, omega arith)

pub drew_after : (one two most : ℕ) (drawn mid drawn_now : Option (List (List ℕ))) → one + two ≤ most → DrewFew one drawn mid → DrewFew two mid drawn_now → DrewFew most drawn drawn_now
drew_after one two most drawn mid drawn_now within first second =
    (first.0 ++ second.0, drew_then drawn mid drawn_now first.0 second.0 first.1 second.1, omega (arith, length-append first.0 second.0, first.2, second.2, within))

-- an append draws one key at most, whatever it answers
pub drew_placed : {S R : Type 0} (P : PlatformGhosts S) (T : TapeGhosts R) (version : ℕ) (body : List ℕ) (x x' : S) (y y' : R) (result : Result Placed AppendFault)
    → IfOk result (IsPlaced P T version body x x' y y') → (IsErrOf result TapeFault → (x' ≡ x) × (T.drawn y' ≡ T.drawn y)) → (IsErrOf result PlatformFault → MayBePlaced P T body x x' y y')
    → DrewFew 1 (T.drawn y) (T.drawn y')
drew_placed P T version body x x' y y' (Ok placed) is idle spent = (bare placed.key ∷ [], is.drew, omega arith)
drew_placed P T version body x x' y y' (Err TapeFault) is idle spent = drew_none 1 (T.drawn y) (T.drawn y') (idle refl).1
drew_placed P T version body x x' y y' (Err PlatformFault) is idle spent = let may = spent refl in (may.key ∷ [], may.drew, omega arith)

-- ---- pages

pub adds_none : {S R : Type 0} (P : PlatformGhosts S) (T : TapeGhosts R) (x : S) (y : R) → OnlyAdds P T 0 0 x x y y
adds_none P T x y = record {
  cell = λ told. During-start (P.history x) (λ image. image.cell ≡ (P.history x).present.cell) refl;
  rises = omega arith;
  at_most = omega arith;
  capacity = refl;
  draws = drew_none 0 (T.drawn y) (T.drawn y) refl;
  reads_rise = λ told. omega arith;
  reads_most = λ told. omega arith;
  changes = λ told. refl;
  platform_faults = omega arith;
  tape_faults = omega arith;
}

-- a read of one page
pub adds_read : {S R : Type 0} (P : PlatformGhosts S) (T : TapeGhosts R) (x x' : S) (y : R) → ReadsPage P x x' → OnlyAdds P T 0 1 x x' y y
adds_read P T x x' y looks =
    let head = looks.head in
    record {
      cell = λ told. During-step (P.history x) (P.history x') (λ image. image.cell ≡ (P.history x).present.cell) (looks.time told) refl (ap (λ image. image.cell) (looks.image told));
      rises = omega (arith, head);
      at_most = omega (arith, head);
      capacity = looks.capacity;
      draws = drew_none 0 (T.drawn y) (T.drawn y) refl;
      reads_rise = looks.reads_rise;
      reads_most = looks.reads_by_one;
      changes = looks.changes;
      platform_faults = looks.faults;
      tape_faults = omega arith;
    }

-- an append of one record
pub adds_one : {S R : Type 0} (P : PlatformGhosts S) (T : TapeGhosts R) (x x' : S) (y y' : R) → AddsOne P T x x' y y' → DrewFew 1 (T.drawn y) (T.drawn y') → OnlyAdds P T 1 0 x x' y y'
adds_one P T x x' y y' one draws =
    let grows = one.grows in
    record {
      cell = λ told. During-step (P.history x) (P.history x') (λ image. image.cell ≡ (P.history x).present.cell) (one.time told) refl (one.cell told);
      rises = omega (arith, grows);
      at_most = omega (arith, grows);
      capacity = grows.capacity;
      draws = draws;
      reads_rise = λ told. omega (arith, one.reads told);
      reads_most = λ told. omega (arith, one.reads told);
      changes = one.changes;
      platform_faults = omega (arith, grows);
      tape_faults = one.tape_faults;
    }

-- one call after another
pub adds_then : {S R : Type 0} (P : PlatformGhosts S) (T : TapeGhosts R) (one two most few more reads : ℕ) (x x' x'' : S) (y y' y'' : R) → one + two ≤ most → few + more ≤ reads
    → OnlyAdds P T one few x x' y y' → OnlyAdds P T two more x' x'' y' y'' → OnlyAdds P T most reads x x'' y y''
adds_then P T one two most few more reads x x' x'' y y' y'' within seen a b = record {
  cell = λ told.
      let held = (P.history x).present.cell in
      let now : (P.history x').present.cell ≡ held = During-now (P.history x) (P.history x') (λ image. image.cell ≡ held) (a.cell told) in
      During-then (P.history x) (P.history x') (P.history x'') (λ image. image.cell ≡ held) (a.cell told) (subst (λ cell. During (P.history x') (P.history x'') (λ image. image.cell ≡ cell)) now (b.cell told));
  rises = omega (arith, a.rises, b.rises);
  at_most = omega (arith, a.at_most, b.at_most, within);
  capacity = b.capacity ∙ a.capacity;
  draws = drew_after one two most (T.drawn y) (T.drawn y') (T.drawn y'') within a.draws b.draws;
  reads_rise = λ told. omega (arith, a.reads_rise told, b.reads_rise told);
  reads_most = λ told. omega (arith, a.reads_most told, b.reads_most told, seen);
  changes = λ told. b.changes told ∙ a.changes told;
  platform_faults = omega (arith, a.platform_faults, b.platform_faults);
  tape_faults = omega (arith, a.tape_faults, b.tape_faults);
}

-- the same within greater bounds
pub adds_within : {S R : Type 0} (P : PlatformGhosts S) (T : TapeGhosts R) (fewer most few reads : ℕ) (x x' : S) (y y' : R) → fewer ≤ most → few ≤ reads → OnlyAdds P T fewer few x x' y y' → OnlyAdds P T most reads x x' y y'
adds_within P T fewer most few reads x x' y y' within seen a = record {
  cell = a.cell;
  rises = a.rises;
  at_most = omega (arith, a.at_most, within);
  capacity = a.capacity;
  draws = let draws = a.draws in (draws.0, draws.1, omega (arith, draws.2, within));
  reads_rise = a.reads_rise;
  reads_most = λ told. omega (arith, a.reads_most told, seen);
  changes = a.changes;
  platform_faults = a.platform_faults;
  tape_faults = a.tape_faults;
}
