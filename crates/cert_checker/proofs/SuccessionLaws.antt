-- The certificate of a commit keeps the rules, and what is live after it is the new tree.
use Rattle.std.proofs.Common.{◌≡◌, ◌≢◌, ◌⊎◌, inl, inr, ℕ, ◌<◌, ◌≤◌, List, sym, ap, ◌∙◌, arith}
use Rattle.std.specs.Prelude.{Option, None, Some, IfSome, Contains}
use Rattle.std.proofs.lemmas.Bool.{cases_eq, cases_lt}
use Rattle.std.proofs.lemmas.Option.{none-some}
use Rattle.sdbt_base.specs.declared.lists.Unkept.{Unkept}
use Rattle.key_graph.specs.Trace.{Entries, Has, IsChild}
use Rattle.sdbt_base.specs.Traces.{TraceEntry, NodeOver}
use Rattle.cert_maker.specs.Cert.{Cert}
use Rattle.cert_maker.specs.CertOf.{CertOf}
use Rattle.cert_checker.specs.Rules.{after, added_by, Keeps, Counts, IsHandedOver, IsTaken}
use Rattle.cert_checker.specs.Succession.{IsTreeOrNone, Succeeds, root_of}
use Rattle.cert_checker.proofs.AfterLaws.{has_or_not, has_not, parent_has, IsAdded, Goes, Stays, fate}

abbrev IsRoot : Option ℕ → ℕ → Type 0
IsRoot None a = ⊥
IsRoot (Some root) a = a ≡ root

-- a tree or none
record Forest (old : Entries) (root : Option ℕ) : Type 0 where
  closed : (p c : ℕ) → IsChild old p c → Has old c
  lower : (p c : ℕ) → IsChild old p c → c < p
  parent : (a : ℕ) → Has old a → IsRoot root a ⊎ ((p : ℕ) × IsChild old p a)
  one_parent : (p q c : ℕ) → IsChild old p c → IsChild old q c → p ≡ q

forest : (old : Entries) (root : Option ℕ) → IsTreeOrNone old root → Forest old root
forest old None none = record {
  closed = λ p c child. has_not old p (parent_has old p c child) (none p);
  lower = λ p c child. has_not old p (parent_has old p c child) (none p);
  parent = λ a has. has_not old a has (none a);
  one_parent = λ p q c child other. has_not old p (parent_has old p c child) (none p);
}
forest old (Some root) tree = record {
  closed = tree.closed;
  lower = tree.below;
  parent = λ a has. elim (cases_eq a root) [ inl same ↦ inl same | inr other ↦ inr (tree.parent a has other) ];
  one_parent = tree.one_parent;
}

root_none : (old new : Entries) (root : Option ℕ) (a : ℕ) → IfSome root (λ r. new r ≡ None) → IsRoot root a → new a ≡ None
root_none old new None a none is = absurd is
root_none old new (Some root) a none is = ap new is ∙ none

root_gone : (old new : Entries) (former : Option Cert) (cert : Cert) → IsTreeOrNone old (root_of former) → IfSome (root_of former) (λ r. new r ≡ None) → ((a : ℕ) → Has old a → new a ≡ None → Contains cert.gone a) → IfSome former (λ f. Contains cert.gone f.root)
root_gone old new None cert tree none goes = tt
root_gone old new (Some former) cert tree none goes = goes former.root tree.rooted none

module _ (former : Option Cert) (cert : Cert) (old new : Entries) (pages : List Unkept)
    (s : Succeeds cert.base cert.head old new (root_of former) cert.root pages)
    (m : CertOf old new cert.commit cert.root cert.base cert.head pages cert) where
  f : Forest old (root_of former)
  f = forest old (root_of former) s.old_tree

  -- an added address is in the new tree and not in the old one, and at or above the base
  in_new : (a : ℕ) → Has (added_by cert) a → Has new a
  in_new a has = record { trace = has.trace; is = ((m.added a has.trace).0 has.is).0 }

  not_old : (a : ℕ) → Has (added_by cert) a → old a ≡ None
  not_old a has = ((m.added a has.trace).0 has.is).1

  adds : (a : ℕ) → Has new a → old a ≡ None → Has (added_by cert) a
  adds a has none = record { trace = has.trace; is = (m.added a has.trace).1 (has.is, none) }

  high_not_old : (a : ℕ) → cert.base ≤ a → old a ≡ None
  high_not_old a high = elim (has_or_not old a) [
    | inl none ↦ none
    | inr has ↦ (let low = s.old_below a has in absurd (omega arith))
  ]

  new_high : (a : ℕ) → Has new a → old a ≡ None → cert.base ≤ a
  new_high a has none = elim (cases_lt a cert.base) [
    | inl low ↦ absurd (none-some has.trace (sym none ∙ s.same a has.trace has.is low))
    | inr high ↦ high
  ]

  -- a child of an added node is its child in the new tree
  child_new : (p c : ℕ) → IsChild (added_by cert) p c → IsChild new p c
  child_new p c child = record { children = child.children; node = ((m.added p (NodeOver child.children)).0 child.node).0; inside = child.inside }

  child_added : (p c : ℕ) → IsChild new p c → old p ≡ None → IsChild (added_by cert) p c
  child_added p c child none = record { children = child.children; node = (m.added p (NodeOver child.children)).1 (child.node, none); inside = child.inside }

  -- in both trees an address is the same
  both_same : (a : ℕ) (t u : TraceEntry) → old a ≡ Some t → new a ≡ Some u → old a ≡ Some u
  both_same a t u is is' = s.same a u is' (s.old_below a (record { trace = t; is = is }))

  child_old : (p c : ℕ) → Has old p → IsChild new p c → IsChild old p c
  child_old p c has child = record { children = child.children; node = both_same p has.trace (NodeOver child.children) has.is child.node; inside = child.inside }

  child_kept : (p c : ℕ) → IsChild old p c → Has new p → IsChild new p c
  child_kept p c child has = record { children = child.children; node = has.is ∙ sym (both_same p (NodeOver child.children) has.trace child.node has.is) ∙ child.node; inside = child.inside }

  gone_old : (a : ℕ) → Contains cert.gone a → Has old a
  gone_old a gone = ((m.gone a).0 gone).0

  gone_new : (a : ℕ) → Contains cert.gone a → new a ≡ None
  gone_new a gone = ((m.gone a).0 gone).1

  goes : (a : ℕ) → Has old a → new a ≡ None → Contains cert.gone a
  goes a has none = (m.gone a).1 (has, none)

  stays : (a : ℕ) → Has new a → Contains cert.gone a → ⊥
  stays a has gone = has_not new a has (gone_new a gone)

  between : (a : ℕ) → Has (added_by cert) a → (cert.base ≤ a) × (a < cert.head)
  between a has = (new_high a (in_new a has) (not_old a has), s.new_below a (in_new a has))

  apart : (page : Unkept) → Contains cert.never page → added_by cert page.addr ≡ None
  apart page never = elim (has_or_not (added_by cert) page.addr) [
    | inl none ↦ none
    | inr has ↦ has_not new page.addr (in_new page.addr has) ((m.never page).0 never).2
  ]

  parents : (p c : ℕ) → IsChild old p c → Contains cert.gone c → Contains cert.gone p
  parents p c child gone = elim (has_or_not new p) [
    | inl none ↦ goes p (parent_has old p c child) none
    | inr has ↦ has_not new c (s.new_tree.closed p c (child_kept p c child has)) (gone_new c gone)
  ]

  handed : (p c : ℕ) → IsChild (added_by cert) p c → Has old c → IsHandedOver old cert c
  handed p c child has =
      let here = s.new_tree.closed p c (child_new p c child) in
      elim (f.parent c has) [
        | inl root ↦ has_not new c here (root_none old new (root_of former) c s.old_top root)
        | inr above ↦ record {
          live_before = has;
          stays = stays c here;
          parent = above.0;
          child = above.1;
          parent_goes = elim (has_or_not new above.0) [
            | inl none ↦ goes above.0 (parent_has old above.0 c above.1) none
            | inr kept ↦
                (let same = s.new_tree.one_parent above.0 p c (child_kept above.0 c above.1 kept) (child_new p c child) in
                has_not old above.0 (parent_has old above.0 c above.1) (ap old same ∙ not_old p (parent_has (added_by cert) p c child)))
          ];
        }
      ]

  takes : (p c : ℕ) → IsChild (added_by cert) p c → (c < p) × (Has (added_by cert) c ⊎ IsHandedOver old cert c)
  takes p c child = (
    s.new_tree.below p c (child_new p c child),
    elim (has_or_not old c) [
      | inl none ↦ inl (adds c (s.new_tree.closed p c (child_new p c child)) none)
      | inr has ↦ inr (handed p c child has)
    ],
  )

  others : (a : ℕ) → Has (added_by cert) a → a ≢ cert.root → IsTaken cert a
  others a has other =
      let above = s.new_tree.parent a (in_new a has) other in
      let lower : a < above.0 = s.new_tree.below above.0 a above.1 in
      let high = (between a has).0 in
      record { parent = above.0; child = child_added above.0 a above.1 (high_not_old above.0 (omega arith)) }

  leaves : (p c : ℕ) → Contains cert.gone p → IsChild old p c → Contains cert.gone c ⊎ IsTaken cert c
  leaves p c gone child =
      let has = f.closed p c child in
      elim (has_or_not new c) [
        | inl none ↦ inl (goes c has none)
        | inr here ↦
            (let low = s.old_below c has in
            let top = s.new_top in
            let above = s.new_tree.parent c here (λ same. absurd (omega arith)) in
            elim (has_or_not old above.0) [
              | inl none ↦ inr (record { parent = above.0; child = child_added above.0 c above.1 none })
              | inr kept ↦
                  (let same = f.one_parent above.0 p c (child_old above.0 c kept above.1) child in
                  has_not new above.0 (parent_has new above.0 c above.1) (ap new same ∙ gone_new p gone))
            ])
      ]

  keeps : Counts former cert → IfSome former (λ f. cert.base ≡ f.head) → Keeps old former cert
  keeps counts begins = record {
    rule1 = counts;
    rule2 = (begins, s.ordered);
    rule3 = record {
      added_ascend = m.added_ascend;
      never_ascend = m.never_ascend;
      added = between;
      never = λ page never. s.between page ((m.never page).0 never).0;
      apart = apart;
    };
    rule4 = record { gone_ascend = m.gone_ascend; live_before = gone_old };
    rule5 = record { root = root_gone old new former cert s.old_tree s.old_top goes; parents = parents };
    rule6 = takes;
    rule7 = record {
      by_one = λ p q c child other. s.new_tree.one_parent p q c (child_new p c child) (child_new q c other);
      once = λ a children node. s.new_tree.once a children ((m.added a (NodeOver children)).0 node).0;
    };
    rule8 = record { root = adds cert.root s.new_tree.rooted (high_not_old cert.root s.new_top); others = others };
    rule9 = leaves;
  }

  becomes : (a : ℕ) → after old cert a ≡ new a
  becomes a = elim (fate old cert a) [
    | IsAdded t is now ↦ now ∙ sym ((m.added a t).0 is).0
    | Goes none gone now ↦ now ∙ sym (gone_new a gone)
    | Stays none not now ↦ elim (has_or_not old a) [
      | inl never ↦ elim (has_or_not new a) [
        | inl same ↦ now ∙ never ∙ sym same
        | inr has ↦ has_not (added_by cert) a (adds a has never) none
      ]
      | inr has ↦ elim (has_or_not new a) [
        | inl gone ↦ absurd (not (goes a has gone))
        | inr here ↦ now ∙ both_same a has.trace here.trace has.is here.is ∙ sym here.is
      ]
    ]
  ]

pub succession : (former : Option Cert) (cert : Cert) (old new : Entries) (pages : List Unkept) → Counts former cert → IfSome former (λ f. cert.base ≡ f.head) → Succeeds cert.base cert.head old new (root_of former) cert.root pages → CertOf old new cert.commit cert.root cert.base cert.head pages cert → Keeps old former cert × ((a : ℕ) → after old cert a ≡ new a)
succession former cert old new pages counts begins s m = (keeps former cert old new pages s m counts begins, becomes former cert old new pages s m)
