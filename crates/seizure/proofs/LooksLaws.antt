-- Calls that only look, one after another.
use Rattle.std.proofs.Common.{◌≡◌, ℕ, inl, inr, refl, subst, ◌∙◌, arith}
use Rattle.std.specs.Prelude.{Result, Ok, Err, IsErrOf}
use Rattle.platform.specs.Image.{Image}
use Rattle.platform.specs.declared.platforms.Platform.{Ghosts}
use Rattle.platform.proofs.Moments.{During-then, During-step, Turns-not, Steps-refl}
use Rattle.seizure.specs.declared.refusals.SeizeRefusal.{SeizeRefusal}
use Rattle.seizure.specs.declared.refusals.SeizeRefusal.TheVariants.{BadRoot, Memory, PlatformFault}
use Rattle.seizure.specs.Looks.{Looks, Stops}

pub looks_none : {S : Type 0} (P : Ghosts S) (at : S) → Looks P at at
looks_none P at = record {
  image = λ told. refl;
  time = λ told. Steps-refl (P.history at);
  head = refl;
  capacity = refl;
  reads = λ told. omega arith;
  changes = λ told. refl;
  faults = omega arith;
}

pub looks_then : {S : Type 0} (P : Ghosts S) (a b c : S) → Looks P a b → Looks P b c → Looks P a c
looks_then P a b c one other = record {
  image = λ told. other.image told ∙ one.image told;
  time = λ told.
      (let Same : Image → Type 0 = λ image. image ≡ (P.history a).present in
      Turns-not (P.history a) (P.history c) Same (λ image. image ≡ (P.history c).present)
      (During-then (P.history a) (P.history b) (P.history c) Same
      (During-step (P.history a) (P.history b) Same (one.time told) refl (one.image told))
      (During-step (P.history b) (P.history c) Same (other.time told) (one.image told) (other.image told ∙ one.image told))));
  head = other.head ∙ one.head;
  capacity = other.capacity ∙ one.capacity;
  reads = λ told. omega (arith, one.reads told, other.reads told);
  changes = λ told. other.changes told ∙ one.changes told;
  faults = omega (arith, one.faults, other.faults);
}

-- a call stops as its last part does, before which the count is as it was
pub stops_since : {T : Type 0} (before mid now : ℕ) (result : Result T SeizeRefusal) → mid ≡ before → Stops mid now result → Stops before now result
stops_since before mid now result same = subst (λ (n : ℕ). Stops n now result) same

not_memory : {R : Type 0} (refusal : SeizeRefusal) → refusal ≡ Memory → (let result : Result R SeizeRefusal = Err refusal in result ≡ Err BadRoot) → ⊥
not_memory refusal memory bad = cc

not_fault : {R : Type 0} (refusal : SeizeRefusal) → refusal ≡ PlatformFault → (let result : Result R SeizeRefusal = Err refusal in result ≡ Err BadRoot) → ⊥
not_fault refusal fault bad = cc

-- a call that stops so never says that the cell is bad
pub not_bad_root : {R : Type 0} (result : Result R SeizeRefusal) (before now : ℕ) → Stops before now result → IsErrOf result BadRoot → ⊥
not_bad_root (Ok it) before now stops bad = cc
not_bad_root {R = R} (Err refusal) before now stops bad = elim stops [ inl memory ↦ not_memory {R = R} refusal memory.0 bad | inr fault ↦ not_fault {R = R} refusal fault.0 bad ]
