-- The certificate of a device's first root record: it adds an empty leaf alone.
use Rattle.std.proofs.Common.{◌≡◌, inl, inr, ℕ, zero, suc, List, [], ◌∷◌, refl, sym, subst, ◌∙◌, arith}
use Rattle.std.specs.Prelude.{Contains, Some, Result, Ok, Err, OnOk, IfOk}
use Rattle.std.proofs.lemmas.Bool.{cases_eq, eq-eqb, ne_eqb}
use Rattle.std.proofs.lemmas.Option.{none-some, same_Some}
use Rattle.sdbt_base.specs.Traces.{Traced, NodeOver}
use Rattle.key_graph.specs.Trace.{entry_in}
use Rattle.cert_maker.specs.Differ.{Differ}
use Rattle.device_core.specs.Certifying.{empty_leaf}

-- what a certificate says of the leaf's address
leaf_said : (addr : ℕ) → entry_in (empty_leaf addr ∷ []) addr ≡ Some (NodeOver [])
leaf_said addr = rw (eq-eqb addr addr refl) refl

-- it says nothing else
only_leaf : (addr : ℕ) (t : Traced) → entry_in (empty_leaf addr ∷ []) t.addr ≡ Some t.trace → empty_leaf addr ≡ t
only_leaf addr t is = elim (cases_eq addr t.addr) [
  | inl same ↦
      (let found : NodeOver [] ≡ t.trace = same_Some (NodeOver []) t.trace (sym (rw (eq-eqb addr t.addr same) refl) ∙ is) in
      λ i. record { addr = same i; trace = found i })
  | inr other ↦ absurd (none-some t.trace (sym (rw (ne_eqb addr t.addr other) refl) ∙ is))
]

one_item : (x t : Traced) → Contains (x ∷ []) t → x ≡ t
one_item x t (zero, within, is) = is
one_item x t (suc k, within, is) = absurd (omega (arith, within))

-- a leaf is what its tree has and no tree doesn't
pub first_differ : (addr : ℕ) (added : List Traced) → added ≡ empty_leaf addr ∷ [] → Differ (entry_in []) (entry_in (empty_leaf addr ∷ [])) [] added [] []
first_differ addr added is = subst (λ (ts : List Traced). Differ (entry_in []) (entry_in (empty_leaf addr ∷ [])) [] ts [] []) (sym is) record {
  in_new = λ t. (
    λ has. (
      subst (λ (u : Traced). entry_in (empty_leaf addr ∷ []) u.addr ≡ Some u.trace) (one_item (empty_leaf addr) t has) (leaf_said addr),
      refl,
    ),
    λ both. (0, omega arith, only_leaf addr t both.0),
  );
  in_old = λ at. (λ has. absurd (omega (arith, has.1)), λ both. absurd (none-some both.0.trace both.0.is));
  in_neither = λ page. (λ has. absurd (omega (arith, has.1)), λ all. all.0);
}

-- a line that is what it should be, with a fact that holds where there is one
pub with_range : {X Y : Type 0} (result : Result X Y) (Fits : Type 0) (Is Has : X → Type 0) → ((line : X) → Fits → Is line → Has line) → OnOk result Fits → IfOk result Is → IfOk result Has
with_range (Ok line) Fits Is Has has fits is = has line fits is
with_range (Err fault) Fits Is Has has fits is = tt
