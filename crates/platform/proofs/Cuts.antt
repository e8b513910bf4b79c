-- What a loss of power tears is what it may leave.
use Rattle.std.proofs.Common.{◌≡◌, ℕ, zero, suc, ◌<◌, ◌≤◌, Option, Some, None, List, [], ◌∷◌, length, take, refl, ◌∙◌, ap, arith}
use Rattle.std.specs.Prelude.{All, slice_get}
use Rattle.std.proofs.lemmas.List.Elements.{All-contains}
use Rattle.medium_trace.specs.Trace.{Trace, Tears, IsWhole as IsTrace}
use Rattle.platform.specs.Image.{MayLeave}
use Rattle.platform.specs.Log.{image_now}

take-same : (n : ℕ) (xs ys : List (List ℕ)) → ((i : ℕ) → i < n → slice_get xs i ≡ slice_get ys i) → take n xs ≡ take n ys
take-same zero xs ys same = refl
take-same (suc n) [] [] same = refl
take-same (suc n) [] (y ∷ ys) same = let differ : None ≡ Some y = same 0 (omega arith) in cc
take-same (suc n) (x ∷ xs) [] same = let differ : Some x ≡ None = same 0 (omega arith) in cc
take-same (suc n) (x ∷ xs) (y ∷ ys) same =
    let first : Some x ≡ Some y = same 0 (omega arith) in
    let rest : take n xs ≡ take n ys = take-same n xs ys (λ i below. same (suc i) (omega arith)) in
    cc

pub MayLeave-torn : (old new : Trace) (held : Option (List ℕ)) (torn : List ℕ) → IsTrace new → new.recorded ≡ old.recorded → new.synced ≡ old.synced → All (λ addr. (old.synced ≤ addr) × (addr < length old.recorded)) torn → Tears torn old.readable new.readable → MayLeave (image_now old held) (image_now new held)
MayLeave-torn old new held torn is_trace recorded synced unsynced tears = record {
  cell = refl;
  recorded = recorded;
  synced = synced;
  readable = take-same old.synced new.readable old.readable
      (λ addr below. tears.other_pages addr (λ among. let is = All-contains (λ k. (old.synced ≤ k) × (k < length old.recorded)) torn addr unsynced among in absurd (omega (arith, is.0))));
  whole = is_trace.readable;
  as_many = is_trace.as_many ∙ ap length recorded;
}
