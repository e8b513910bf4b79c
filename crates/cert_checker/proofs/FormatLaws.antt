-- The certificate of a new device.
use Rattle.std.proofs.Common.{◌≡◌, inl, inr, ℕ, ◌+◌, List, [], ◌∷◌, ◌++◌, length, refl, sym, ap, subst, ◌∙◌, arith}
use Rattle.std.specs.Prelude.{None, Some}
use Rattle.std.proofs.lemmas.Bool.{cases_eq, eq-eqb, ne_eqb}
use Rattle.std.proofs.lemmas.Option.{none-some, same_Some}
use Rattle.key_graph.specs.Trace.{IsChild, IsTraceTree}
use Rattle.sdbt_base.specs.Traces.{TraceEntry, NodeOver}
use Rattle.page_store.specs.Tree.{Place}
use Rattle.root_codec.specs.declared.root.Root.{Root}
use Rattle.cert_maker.specs.Cert.{Cert}
use Rattle.cert_maker.specs.Trace.{entries_of}
use Rattle.cert_maker.specs.CertOf.{CertOf}
use Rattle.cert_checker.specs.Chain.{Fits}
use Rattle.cert_checker.specs.Succession.{Succeeds, format_cert}
use Rattle.cert_checker.proofs.FitsLaws.{fits_first}

abbrev leaf : ℕ → List ℕ → List Place
leaf base key = record { addr = base; key = key; trace = NodeOver [] } ∷ []

only : (base : ℕ) (key : List ℕ) (a : ℕ) (t : TraceEntry) → entries_of (leaf base key) a ≡ Some t → (a ≡ base) × (t ≡ NodeOver [])
only base key a t is = elim (cases_eq base a) [
  | inl same ↦ (let here : entries_of (leaf base key) a ≡ Some (NodeOver []) = rw (eq-eqb base a same) refl in (sym same, same_Some t (NodeOver []) (sym is ∙ here)))
  | inr other ↦ (let none : entries_of (leaf base key) a ≡ None = rw (ne_eqb base a other) refl in absurd (none-some t (sym none ∙ is)))
]

no_children : (children : List ℕ) → NodeOver children ≡ NodeOver [] → children ≡ []
no_children children same = cc

no_child : {P : Type 0} (base : ℕ) (key : List ℕ) (p c : ℕ) → IsChild (entries_of (leaf base key)) p c → P
no_child base key p c child =
    let e = no_children child.children (only base key p (NodeOver child.children) child.node).1 in
    let inside = child.inside.1 in
    absurd (omega (arith, ap length e))

leaf_tree : (base : ℕ) (key : List ℕ) → IsTraceTree (entries_of (leaf base key)) base
leaf_tree base key = record {
  rooted = record { trace = NodeOver []; is = rw (eq-eqb base base refl) refl };
  highest = λ a has. (let h = only base key a has.trace has.is in omega (arith, h.0));
  closed = λ p c child. no_child base key p c child;
  below = λ p c child. no_child base key p c child;
  parent = λ a has other. absurd (other (only base key a has.trace has.is).0);
  one_parent = λ p q c child other. no_child base key p c child;
  once = λ a children node. (let e = no_children children (only base key a (NodeOver children) node).1 in λ i j d low inside. absurd (omega (arith, ap length e)));
}

pub format_fits : (certs : List Cert) (root : Root) (base : ℕ) (key : List ℕ) → root.commit ≡ 0 → root.addr ≡ base → root.head ≡ base + 1 → Fits (certs ++ format_cert base ∷ []) root (record { addr = base; key = key; trace = NodeOver [] } ∷ [])
format_fits certs root base key number at head =
    let s : Succeeds base (base + 1) (entries_of []) (entries_of (leaf base key)) None base [] = record {
      ordered = omega arith;
      old_tree = λ a. refl;
      new_tree = leaf_tree base key;
      old_below = λ a has. absurd (none-some has.trace has.is);
      new_below = λ a has. (let h = only base key a has.trace has.is in omega (arith, h.0));
      same = λ a t is low. (let h = only base key a t is in absurd (omega (arith, h.0)));
      new_top = omega arith;
      old_top = tt;
      between = λ page inside. absurd (omega (arith, inside.1));
    } in
    let m : CertOf (entries_of []) (entries_of (leaf base key)) 0 base base (base + 1) [] (format_cert base) = record {
      numbered = refl;
      rooted = refl;
      begins = refl;
      ends = refl;
      added = λ a t. (λ is. (is, refl), λ both. both.0);
      gone = λ a. (λ inside. absurd (omega (arith, inside.1)), λ both. absurd (none-some both.0.trace both.0.is));
      never = λ page. (λ inside. absurd (omega (arith, inside.1)), λ both. both.0);
      added_ascend = λ i j d low inside. absurd (omega arith);
      gone_ascend = λ i j d low inside. absurd (omega arith);
      never_ascend = λ i j d low inside. absurd (omega arith);
    } in
    fits_first certs root base (leaf base key) (format_cert base) number
    (subst (λ (h : ℕ). Succeeds base h (entries_of []) (entries_of (leaf base key)) None root.addr []) (sym head)
    (subst (λ (a : ℕ). Succeeds base (base + 1) (entries_of []) (entries_of (leaf base key)) None a []) (sym at) s))
    (subst (λ (h : ℕ). CertOf (entries_of []) (entries_of (leaf base key)) 0 root.addr base h [] (format_cert base)) (sym head)
    (subst (λ (a : ℕ). CertOf (entries_of []) (entries_of (leaf base key)) 0 a base (base + 1) [] (format_cert base)) (sym at) m))
