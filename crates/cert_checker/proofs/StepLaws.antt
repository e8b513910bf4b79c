-- What holds before a certificate that keeps the rules holds after it.
use Rattle.std.proofs.Common.{◌≡◌, ◌≢◌, ◌⊎◌, inl, inr, ℕ, zero, suc, ◌+◌, ◌<◌, ◌≤◌, List, [], ◌∷◌, ◌++◌, refl, sym, ap, subst, ◌∙◌, arith, le_of_eq}
use Rattle.std.specs.Prelude.{Option, None, Some, IfSome, Contains, AllPairs}
use Rattle.std.proofs.lemmas.Bool.{cases_eq}
use Rattle.std.proofs.lemmas.Option.{none-some}
use Rattle.key_graph.specs.Trace.{Entries, Has, IsChild}
use Rattle.sdbt_base.specs.Traces.{TraceEntry, NodeOver}
use Rattle.cert_maker.specs.Cert.{Cert}
use Rattle.cert_checker.specs.Rules.{or_else, after, added_by, Keeps, Continues}
use Rattle.cert_checker.specs.Sound.{trace_of, Deletes, Gone, Never, Deleted, FiveFacts, Stay}
use Rattle.cert_checker.proofs.AfterLaws.{has_or_not, has_not, parent_has, IsAdded, Goes, Stays, fate}

-- ---- lists of certificates

or_else_none : (o : Option TraceEntry) → or_else o None ≡ o
or_else_none None = refl
or_else_none (Some t) = refl

or_else_assoc : (a b c : Option TraceEntry) → or_else a (or_else b c) ≡ or_else (or_else a b) c
or_else_assoc None b c = refl
or_else_assoc (Some t) b c = refl

trace_more : (chain : List Cert) (cert : Cert) (a : ℕ) → trace_of (chain ++ cert ∷ []) a ≡ or_else (trace_of chain a) (added_by cert a)
trace_more [] cert a = or_else_none (added_by cert a)
trace_more (c ∷ cs) cert a = ap (or_else (added_by c a)) (trace_more cs cert a) ∙ or_else_assoc (added_by c a) (trace_of cs a) (added_by cert a)

trace_old : (chain : List Cert) (cert : Cert) (a : ℕ) (t : TraceEntry) → trace_of chain a ≡ Some t → trace_of (chain ++ cert ∷ []) a ≡ Some t
trace_old chain cert a t is = trace_more chain cert a ∙ ap (λ o. or_else o (added_by cert a)) is

trace_new : (chain : List Cert) (cert : Cert) (a : ℕ) → trace_of chain a ≡ None → trace_of (chain ++ cert ∷ []) a ≡ added_by cert a
trace_new chain cert a none = trace_more chain cert a ∙ ap (λ o. or_else o (added_by cert a)) none

deleted_more : (chain : List Cert) (cert : Cert) (a : ℕ) → Deleted (chain ++ cert ∷ []) a → Deleted chain a ⊎ Deletes cert a
deleted_more [] cert a (inl here) = inr here
deleted_more [] cert a (inr none) = absurd none
deleted_more (c ∷ cs) cert a (inl here) = inl (inl here)
deleted_more (c ∷ cs) cert a (inr later) = elim (deleted_more cs cert a later) [ inl old ↦ inl (inr old) | inr new ↦ inr new ]

-- ---- before a certificate

abbrev pub IsFormerRoot : Option Cert → ℕ → Type 0
IsFormerRoot None a = ⊥
IsFormerRoot (Some former) a = a ≡ former.root

pub record Before (chain : List Cert) (live : Entries) (former : Option Cert) (base : ℕ) : Type 0 where
  pub closed : (p c : ℕ) → IsChild live p c → Has live c
  pub lower : (p c : ℕ) → IsChild live p c → c < p
  pub parent : (a : ℕ) → Has live a → IsFormerRoot former a ⊎ ((p : ℕ) × IsChild live p a)
  pub one_parent : (p q c : ℕ) → IsChild live p c → IsChild live q c → p ≡ q
  pub once : (a : ℕ) (children : List ℕ) → live a ≡ Some (NodeOver children) → AllPairs (λ x y. x ≢ y) children
  pub traced : (a : ℕ) → Has live a → trace_of chain a ≡ live a
  pub no_deleted : (a : ℕ) → Deleted chain a → live a ≡ None
  pub traced_below : (a : ℕ) → Has (trace_of chain) a → a < base
  pub deleted_below : (a : ℕ) → Deleted chain a → a < base

pub before : (chain : List Cert) (live : Entries) (former : Option Cert) (cert : Cert) → Stay chain live former → Continues former cert → Before chain live former cert.base
before chain live None cert stay continues = record {
  closed = λ p c child. has_not live p (parent_has live p c child) (stay.1 p);
  lower = λ p c child. has_not live p (parent_has live p c child) (stay.1 p);
  parent = λ a has. has_not live a has (stay.1 a);
  one_parent = λ p q c child other. has_not live p (parent_has live p c child) (stay.1 p);
  once = λ a children node. absurd (none-some (NodeOver children) (sym (stay.1 a) ∙ node));
  traced = λ a has. has_not live a has (stay.1 a);
  no_deleted = λ a deleted. stay.1 a;
  traced_below = λ a has. has_not (trace_of chain) a has (ap (λ (cs : List Cert). trace_of cs a) stay.0);
  deleted_below = λ a deleted. absurd (subst (λ (cs : List Cert). Deleted cs a) stay.0 deleted);
}
before chain live (Some former) cert facts continues = record {
  closed = facts.tree.closed;
  lower = facts.tree.below;
  parent = λ a has. elim (cases_eq a former.root) [ inl root ↦ inl root | inr other ↦ inr (facts.tree.parent a has other) ];
  one_parent = facts.tree.one_parent;
  once = facts.tree.once;
  traced = facts.traced;
  no_deleted = facts.no_deleted;
  traced_below = λ a has. subst (λ (n : ℕ). a < n) (sym continues.0) (facts.traced_below a has);
  deleted_below = λ a deleted. subst (λ (n : ℕ). a < n) (sym continues.0) (facts.deleted_below a deleted);
}

root_goes : (former : Option Cert) (cert : Cert) (a : ℕ) → IfSome former (λ f. Contains cert.gone f.root) → IsFormerRoot former a → Contains cert.gone a
root_goes None cert a goes root = absurd root
root_goes (Some former) cert a goes root = subst (λ (x : ℕ). Contains cert.gone x) (sym root) goes

module _ (chain : List Cert) (live : Entries) (former : Option Cert) (cert : Cert) (b : Before chain live former cert.base) (k : Keeps live former cert) where
  pub live_below : (a : ℕ) → Has live a → a < cert.base
  live_below a has = b.traced_below a (record { trace = has.trace; is = b.traced a has ∙ has.is })

  added_from : (a : ℕ) → Has (added_by cert) a → cert.base ≤ a
  added_from a has = (k.rule3.added a has).0

  both : {P : Type 0} (a : ℕ) → Has (added_by cert) a → Has live a → P
  both a added has =
      let low = live_below a has in
      let high = added_from a added in
      absurd (omega arith)

  has_added : (a : ℕ) → Has (added_by cert) a → Has (after live cert) a
  has_added a has = elim (fate live cert a) [
    | IsAdded t is now ↦ record { trace = t; is = now }
    | Goes none goes now ↦ has_not (added_by cert) a has none
    | Stays none stays now ↦ has_not (added_by cert) a has none
  ]

  has_kept : (a : ℕ) → Has live a → (Contains cert.gone a → ⊥) → Has (after live cert) a
  has_kept a has stays = elim (fate live cert a) [
    | IsAdded t is now ↦ record { trace = t; is = now }
    | Goes none goes now ↦ absurd (stays goes)
    | Stays none still now ↦ record { trace = has.trace; is = now ∙ has.is }
  ]

  child_added : (p c : ℕ) → IsChild (added_by cert) p c → IsChild (after live cert) p c
  child_added p c child = elim (fate live cert p) [
    | IsAdded t is now ↦ record { children = child.children; node = now ∙ sym is ∙ child.node; inside = child.inside }
    | Goes none goes now ↦ has_not (added_by cert) p (parent_has (added_by cert) p c child) none
    | Stays none stays now ↦ has_not (added_by cert) p (parent_has (added_by cert) p c child) none
  ]

  child_kept : (p c : ℕ) → IsChild live p c → (Contains cert.gone p → ⊥) → IsChild (after live cert) p c
  child_kept p c child stays = elim (fate live cert p) [
    | IsAdded t is now ↦ both p (record { trace = t; is = is }) (parent_has live p c child)
    | Goes none goes now ↦ absurd (stays goes)
    | Stays none still now ↦ record { children = child.children; node = now ∙ child.node; inside = child.inside }
  ]

  child_cases : (p c : ℕ) → IsChild (after live cert) p c → IsChild (added_by cert) p c ⊎ (IsChild live p c × (Contains cert.gone p → ⊥))
  child_cases p c child = elim (fate live cert p) [
    | IsAdded t is now ↦ inl (record { children = child.children; node = is ∙ sym now ∙ child.node; inside = child.inside })
    | Goes none goes now ↦ has_not (after live cert) p (parent_has (after live cert) p c child) now
    | Stays none stays now ↦ inr (record { children = child.children; node = sym now ∙ child.node; inside = child.inside }, stays)
  ]

  has_cases : (a : ℕ) → Has (after live cert) a → Has (added_by cert) a ⊎ (Has live a × (Contains cert.gone a → ⊥))
  has_cases a has = elim (fate live cert a) [
    | IsAdded t is now ↦ inl (record { trace = t; is = is })
    | Goes none goes now ↦ has_not (after live cert) a has now
    | Stays none stays now ↦ inr (record { trace = has.trace; is = sym now ∙ has.is }, stays)
  ]

  climb : (fuel a : ℕ) → cert.head ≤ a + fuel → Has (added_by cert) a → a ≤ cert.root
  climb zero a enough has = let high = (k.rule3.added a has).1 in absurd (omega arith)
  climb (suc fuel) a enough has = elim (cases_eq a cert.root) [
    | inl same ↦ le_of_eq same
    | inr other ↦
        (let taken = k.rule8.others a has other in
        let lower : a < taken.parent = (k.rule6 taken.parent a taken.child).0 in
        let above : taken.parent ≤ cert.root = climb fuel taken.parent (omega arith) (parent_has (added_by cert) taken.parent a taken.child) in
        omega arith)
  ]

  highest : (a : ℕ) → Has (after live cert) a → a ≤ cert.root
  highest a has = elim (has_cases a has) [
    | inl added ↦ climb cert.head a (omega arith) added
    | inr kept ↦
        (let low = live_below a kept.0 in
        let high = added_from cert.root k.rule8.root in
        omega arith)
  ]

  closed : (p c : ℕ) → IsChild (after live cert) p c → Has (after live cert) c
  closed p c child = elim (child_cases p c child) [
    | inl added ↦ elim (k.rule6 p c added).1 [
      | inl new ↦ has_added c new
      | inr over ↦ has_kept c over.live_before over.stays
    ]
    | inr kept ↦ has_kept c (b.closed p c kept.0) (λ goes. kept.1 (k.rule5.parents p c kept.0 goes))
  ]

  lower : (p c : ℕ) → IsChild (after live cert) p c → c < p
  lower p c child = elim (child_cases p c child) [
    | inl added ↦ (k.rule6 p c added).0
    | inr kept ↦ b.lower p c kept.0
  ]

  parent : (a : ℕ) → Has (after live cert) a → a ≢ cert.root → (p : ℕ) × IsChild (after live cert) p a
  parent a has other = elim (has_cases a has) [
    | inl added ↦ (let taken = k.rule8.others a added other in (taken.parent, child_added taken.parent a taken.child))
    | inr kept ↦ elim (b.parent a kept.0) [
      | inl root ↦ absurd (kept.1 (root_goes former cert a k.rule5.root root))
      | inr above ↦ elim (fate live cert above.0) [
        | IsAdded t is now ↦ both above.0 (record { trace = t; is = is }) (parent_has live above.0 a above.1)
        | Goes none goes now ↦ elim (k.rule9 above.0 a goes above.1) [
          | inl gone ↦ absurd (kept.1 gone)
          | inr taken ↦ (taken.parent, child_added taken.parent a taken.child)
        ]
        | Stays none stays now ↦ (above.0, child_kept above.0 a above.1 stays)
      ]
    ]
  ]

  -- an added node and a kept node have no child in common
  apart : {P : Type 0} (p q c : ℕ) → IsChild (added_by cert) p c → IsChild live q c → (Contains cert.gone q → ⊥) → P
  apart p q c added kept stays = elim (k.rule6 p c added).1 [
    | inl new ↦ both c new (b.closed q c kept)
    | inr over ↦ absurd (stays (subst (λ (x : ℕ). Contains cert.gone x) (b.one_parent over.parent q c over.child kept) over.parent_goes))
  ]

  one_parent : (p q c : ℕ) → IsChild (after live cert) p c → IsChild (after live cert) q c → p ≡ q
  one_parent p q c one other = elim (child_cases p c one) [
    | inl added ↦ elim (child_cases q c other) [
      | inl added' ↦ k.rule7.by_one p q c added added'
      | inr kept' ↦ apart p q c added kept'.0 kept'.1
    ]
    | inr kept ↦ elim (child_cases q c other) [
      | inl added' ↦ apart q p c added' kept.0 kept.1
      | inr kept' ↦ b.one_parent p q c kept.0 kept'.0
    ]
  ]

  once : (a : ℕ) (children : List ℕ) → after live cert a ≡ Some (NodeOver children) → AllPairs (λ x y. x ≢ y) children
  once a children node = elim (fate live cert a) [
    | IsAdded t is now ↦ k.rule7.once a children (is ∙ sym now ∙ node)
    | Goes none goes now ↦ absurd (none-some (NodeOver children) (sym now ∙ node))
    | Stays none stays now ↦ b.once a children (sym now ∙ node)
  ]

  traced : (a : ℕ) → Has (after live cert) a → trace_of (chain ++ cert ∷ []) a ≡ after live cert a
  traced a has = elim (fate live cert a) [
    | IsAdded t is now ↦ elim (has_or_not (trace_of chain) a) [
      | inl none ↦ trace_new chain cert a none ∙ is ∙ sym now
      | inr old ↦
          (let low = b.traced_below a old in
          let high = added_from a (record { trace = t; is = is }) in
          absurd (omega arith))
    ]
    | Goes none goes now ↦ has_not (after live cert) a has now
    | Stays none stays now ↦
        (let before : live a ≡ Some has.trace = sym now ∙ has.is in
        trace_old chain cert a has.trace (b.traced a (record { trace = has.trace; is = before }) ∙ before) ∙ sym has.is)
  ]

  below_stays : (a : ℕ) → a < cert.base → live a ≡ None → after live cert a ≡ None
  below_stays a low none = elim (fate live cert a) [
    | IsAdded t is now ↦ (let high = added_from a (record { trace = t; is = is }) in absurd (omega arith))
    | Goes not goes now ↦ now
    | Stays not stays now ↦ now ∙ none
  ]

  none_deleted : (a : ℕ) → Deletes cert a → after live cert a ≡ None
  none_deleted a (Gone gone) = elim (fate live cert a) [
    | IsAdded t is now ↦ both a (record { trace = t; is = is }) (k.rule4.live_before a gone)
    | Goes none goes now ↦ now
    | Stays none stays now ↦ absurd (stays gone)
  ]
  none_deleted a (Never page never at) = elim (fate live cert a) [
    | IsAdded t is now ↦ absurd (none-some t (sym (k.rule3.apart page never) ∙ ap (added_by cert) at ∙ is))
    | Goes none goes now ↦ now
    | Stays none stays now ↦ now ∙ elim (has_or_not live a) [
      | inl not ↦ not
      | inr has ↦
          (let low = live_below a has in
          let high = (k.rule3.never page never).0 in
          absurd (omega arith))
    ]
  ]

  no_deleted : (a : ℕ) → Deleted (chain ++ cert ∷ []) a → after live cert a ≡ None
  no_deleted a deleted = elim (deleted_more chain cert a deleted) [
    | inl old ↦ below_stays a (b.deleted_below a old) (b.no_deleted a old)
    | inr new ↦ none_deleted a new
  ]

  traced_below : (a : ℕ) → Has (trace_of (chain ++ cert ∷ [])) a → a < cert.head
  traced_below a has = elim (has_or_not (trace_of chain) a) [
    | inl none ↦ (k.rule3.added a (record { trace = has.trace; is = sym (trace_new chain cert a none) ∙ has.is })).1
    | inr old ↦
        (let low = b.traced_below a old in
        let most = k.rule2.1 in
        omega arith)
  ]

  deletes_below : (a : ℕ) → Deletes cert a → a < cert.head
  deletes_below a (Gone gone) =
      let low = live_below a (k.rule4.live_before a gone) in
      let most = k.rule2.1 in
      omega arith
  deletes_below a (Never page never at) = subst (λ (x : ℕ). x < cert.head) at (k.rule3.never page never).1

  deleted_below : (a : ℕ) → Deleted (chain ++ cert ∷ []) a → a < cert.head
  deleted_below a deleted = elim (deleted_more chain cert a deleted) [
    | inl old ↦
        (let low = b.deleted_below a old in
        let most = k.rule2.1 in
        omega arith)
    | inr new ↦ deletes_below a new
  ]

  facts : FiveFacts (chain ++ cert ∷ []) (after live cert) cert
  facts = record {
    tree = record {
      rooted = has_added cert.root k.rule8.root;
      highest = highest;
      closed = closed;
      below = lower;
      parent = parent;
      one_parent = one_parent;
      once = once;
    };
    traced = traced;
    no_deleted = no_deleted;
    traced_below = traced_below;
    deleted_below = deleted_below;
  }

pub facts_stay : (chain : List Cert) (live : Entries) (former : Option Cert) (cert : Cert) → Stay chain live former → Keeps live former cert → FiveFacts (chain ++ cert ∷ []) (after live cert) cert
facts_stay chain live former cert stay keeps = facts chain live former cert (before chain live former cert stay keeps.rule2) keeps
