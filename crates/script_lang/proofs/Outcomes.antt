-- What `ok` of a `Result` tells of it.
use Rattle.std.proofs.Common.{◌≡◌, Some, None, Result, Ok, Err, ap, subst}
use Rattle.std.specs.Result.{MatchResult, result_ok}

-- no value: it failed
pub refused : {X E : Type 0} (P : X → Type 0) (Q : E → Type 0) (U : Type 0) (r : Result X E) → result_ok r ≡ None
    → MatchResult r P (λ e. ¬ U × Q e) → ¬ U
refused P Q U (Ok x) none h = absurd (cc)
refused P Q U (Err e) none h = h.0

-- a value: the call tells this of it
pub accepted : {X E : Type 0} (P : X → Type 0) (Q : E → Type 0) (r : Result X E) (x : X) → result_ok r ≡ Some x
    → MatchResult r P Q → P x
accepted P Q (Ok y) x some h = let e : y ≡ x = cc in subst P e h
accepted P Q (Err e) x some h = absurd (cc)

-- no value, so the call didn't succeed
pub only_value : {X E : Type 0} (r : Result X E) (x : X) → r ≡ Ok x → result_ok r ≡ None → ⊥
only_value r x ok none = let e : result_ok r ≡ Some x = ap result_ok ok in cc

-- a value, so the call succeeded with it
pub succeeded : {X E : Type 0} (r : Result X E) (x : X) → result_ok r ≡ Some x → r ≡ Ok x
succeeded (Ok y) x some = let e : y ≡ x = cc in ap Ok e
succeeded (Err e) x some = absurd (cc)
