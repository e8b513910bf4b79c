-- What is live after a certificate, and the parents, as the maps say it.
use Rattle.std.proofs.Common.{◌≡◌, ◌⊎◌, inl, inr, if◌then◌else◌, ◌+◌, ◌<◌, Bool, true, false, ℕ, suc, Option, None, Some, Result, Ok, Err, OnOk, List, [], ◌∷◌, ◌++◌, length, get_or, take, refl, sym, ap, subst, ◌∙◌, arith}
use Rattle.std.specs.Prelude.{option_map, Contains}
use Rattle.std.specs.Ordering.{nat_cmp}
use Rattle.std.specs.BTreeMap.{BTreeMap, get}
use Rattle.std.proofs.lemmas.Bool.{cases_Bool, cases_eq, eq-eqb, ne_eqb, false≢true}
use Rattle.std.proofs.lemmas.List.{map-append, take_more}
use Rattle.std.proofs.lemmas.Option.{none-some, same_Some}
use Rattle.key_graph.specs.Trace.{Entries, Has, IsChild, entry_in}
use Rattle.sdbt_base.specs.Traces.{TraceEntry, DataOf, NodeOver, Traced}
use Rattle.cert_maker.specs.Cert.{Cert}
use Rattle.cert_checker.specs.declared.held.Held.{Held}
use Rattle.cert_checker.specs.declared.held.Held.TheVariants.{Data, Node}
use Rattle.cert_checker.specs.declared.held.Placed.{Placed}
use Rattle.cert_checker.specs.declared.change.Change.{Change}
use Rattle.cert_checker.specs.Rules.{is_listed, or_else, after, added_by, Keeps}
use Rattle.cert_checker.specs.Held.{trace_of_held, children_held, live_of, traced_of, traced_all}
use Rattle.cert_checker.specs.Kept.{KeepsParents, children_of, parent_or, taker, HasAdopted}
use Rattle.cert_checker.specs.Changes.{IsOf}
use Rattle.cert_checker.proofs.AfterLaws.{IsAdded, Goes, Stays, fate, listed, listed_contains}
use Rattle.cert_checker.proofs.ListLaws.{Climbs, climbs_at, climbs_tail, found_at}

pub then_ok : {A E : Type 0} (r : Result A E) (P Q : Type 0) → OnOk r P → (P → Q) → OnOk r Q
then_ok (Ok a) P Q p to = to p
then_ok (Err e) P Q p to = p

pub any_ok : {A E : Type 0} (r : Result A E) (P : Type 0) → P → OnOk r P
any_ok (Ok a) P p = p
any_ok (Err e) P p = tt

-- ---- what is live

traced_or_not : (b : Bool) (o : Option Held) → option_map trace_of_held (if b then None else o) ≡ (if b then None else option_map trace_of_held o)
traced_or_not true o = refl
traced_or_not false o = refl

after_is : (live : Entries) (cert : Cert) (addr : ℕ) → after live cert addr ≡ or_else (entry_in cert.added addr) (if is_listed cert.gone addr then None else live addr)
unfolding after
after_is live cert addr = refl

pub advances : (old mid new : BTreeMap ℕ Held) (gone : List ℕ) (change : Change) (cert : Cert) → gone ≡ change.gone.items → IsOf change cert
    → ((a : ℕ) → get nat_cmp mid a ≡ (if is_listed gone a then None else get nat_cmp old a))
    → ((a : ℕ) → live_of new a ≡ or_else (entry_in (traced_all change.added.items) a) (live_of mid a))
    → (a : ℕ) → live_of new a ≡ after (live_of old) cert a
advances old mid new gone change cert same of removed inserted a =
    inserted a
    ∙ ap (or_else (entry_in (traced_all change.added.items) a)) (ap (option_map trace_of_held) (removed a) ∙ traced_or_not (is_listed gone a) (get nat_cmp old a))
    ∙ ap (λ (l : List ℕ). or_else (entry_in (traced_all change.added.items) a) (if is_listed l a then None else live_of old a)) (same ∙ of.gone)
    ∙ ap (λ (l : List Traced). or_else (entry_in l a) (if is_listed cert.gone a then None else live_of old a)) of.added
    ∙ sym (after_is (live_of old) cert a)

-- ---- parents

abbrev here : Traced → ℕ → Option ℕ
here t child = if is_listed (children_of t.trace) child then Some t.addr else None

or_none : (o : Option ℕ) → parent_or o None ≡ o
or_none None = refl
or_none (Some p) = refl

or_assoc : (a b c : Option ℕ) → parent_or (parent_or a b) c ≡ parent_or a (parent_or b c)
or_assoc None b c = refl
or_assoc (Some p) b c = refl

taker_more : (ts : List Traced) (t : Traced) (child : ℕ) → taker (ts ++ t ∷ []) child ≡ parent_or (here t child) (taker ts child)
taker_more [] t child = sym (or_none (here t child))
taker_more (x ∷ xs) t child = ap (λ (o : Option ℕ). parent_or o (here x child)) (taker_more xs t child) ∙ or_assoc (here t child) (taker xs child) (here x child)

held_children : (held : Held) → children_of (trace_of_held held) ≡ children_held held
held_children (Data block) = refl
held_children (Node children) = refl

adopted : (b : Bool) (node : ℕ) (old : Option ℕ) (rest new : Option ℕ) → new ≡ (if b then Some node else parent_or rest old) → new ≡ parent_or (parent_or (if b then Some node else None) rest) old
adopted true node old rest new is = is
adopted false node old rest new is = is

pub adopts_more : (added : List Placed) (i : ℕ) (item : Placed) (q : ℕ) (old now new : Option ℕ) → i < length added → item ≡ get_or added i item
    → now ≡ parent_or (taker (traced_all (take i added)) q) old → new ≡ (if is_listed (children_held item.held) q then Some item.addr else now)
    → new ≡ parent_or (taker (traced_all (take (i + 1) added)) q) old
adopts_more added i item q old now new inside is before becomes =
    let b = is_listed (children_held item.held) q in
    let rest = taker (traced_all (take i added)) q in
    let list : traced_all (take (i + 1) added) ≡ traced_all (take i added) ++ traced_of item ∷ []
    = ap traced_all (take_more added i item inside ∙ ap (λ (x : Placed). take i added ++ x ∷ []) (sym is)) ∙ map-append traced_of (take i added) (item ∷ []) in
    adopted b item.addr old rest new (becomes ∙ ap (λ (o : Option ℕ). if b then Some item.addr else o) before)
    ∙ ap (λ (xs : List ℕ). parent_or (parent_or (if is_listed xs q then Some item.addr else None) rest) old) (sym (held_children item.held))
    ∙ ap (λ (o : Option ℕ). parent_or o old) (sym (taker_more (traced_all (take i added)) (traced_of item) q))
    ∙ ap (λ (ts : List Traced). parent_or (taker ts q) old) (sym list)

pub adopts : (old mid new : BTreeMap ℕ ℕ) (gone : List ℕ) (added : List Placed) (change : Change) (cert : Cert) → gone ≡ change.gone.items → added ≡ change.added.items → IsOf change cert
    → ((a : ℕ) → get nat_cmp mid a ≡ (if is_listed gone a then None else get nat_cmp old a))
    → ((a : ℕ) → get nat_cmp new a ≡ parent_or (taker (traced_all added) a) (get nat_cmp mid a))
    → HasAdopted cert old new
adopts old mid new gone added change cert same same' of removed taken a =
    taken a
    ∙ ap (parent_or (taker (traced_all added) a)) (removed a)
    ∙ ap (λ (l : List ℕ). parent_or (taker (traced_all added) a) (if is_listed l a then None else get nat_cmp old a)) (same ∙ of.gone)
    ∙ ap (λ (ts : List Traced). parent_or (taker ts a) (if is_listed cert.gone a then None else get nat_cmp old a)) (ap traced_all same' ∙ of.added)

-- ---- the parents that are kept are those of what is live

cases_parent : (o : Option ℕ) → (o ≡ None) ⊎ ((p : ℕ) × (o ≡ Some p))
cases_parent None = inl refl
cases_parent (Some p) = inr (p, refl)

node_of : (e : TraceEntry) (c : ℕ) → is_listed (children_of e) c ≡ true → (children : List ℕ) × (e ≡ NodeOver children) × Contains children c
node_of (DataOf block) c is_so = absurd (false≢true is_so)
node_of (NodeOver children) c is_so = (children, refl, listed_contains children c is_so)

or_some : (a b : Option ℕ) (p : ℕ) → parent_or a b ≡ Some p → (a ≡ Some p) ⊎ ((a ≡ None) × (b ≡ Some p))
or_some None b p is = inr (refl, is)
or_some (Some q) b p is = inl is

here_is : (t : Traced) (c p : ℕ) → here t c ≡ Some p → (is_listed (children_of t.trace) c ≡ true) × (t.addr ≡ p)
here_is t c p is = elim (cases_Bool (is_listed (children_of t.trace) c)) [
  | inl is_so ↦ (let at : here t c ≡ Some t.addr = rw is_so refl in (is_so, same_Some t.addr p (sym at ∙ is)))
  | inr not_so ↦ (let at : here t c ≡ None = rw not_so refl in absurd (none-some p (sym at ∙ is)))
]

-- a taker is a node that has the child
taker_child : (ts : List Traced) (p c : ℕ) → Climbs ts → taker ts c ≡ Some p → IsChild (entry_in ts) p c
taker_child [] p c asc is = absurd (none-some p is)
taker_child (t ∷ ts) p c asc is = elim (or_some (taker ts c) (here t c) p is) [
  | inl later ↦
      (let child = taker_child ts p c (climbs_tail t ts asc) later in
      let found = found_at ts p (NodeOver child.children) child.node in
      let up : t.addr < found.1.addr = climbs_at (t ∷ ts) 0 (suc found.0) t found.1 asc (omega arith) refl found.2 in
      let e = found.3 in
      let at : entry_in (t ∷ ts) p ≡ entry_in ts p = rw (ne_eqb t.addr p (λ same. absurd (omega arith))) refl in
      record { children = child.children; node = at ∙ child.node; inside = child.inside })
  | inr first ↦
      (let one = here_is t c p first.1 in
      let node = node_of t.trace c one.0 in
      let at : entry_in (t ∷ ts) p ≡ Some t.trace = rw (eq-eqb t.addr p one.1) refl in
      record { children = node.0; node = at ∙ ap (λ (e : TraceEntry). Some e) node.1; inside = node.2 })
]

-- a child of an added node has a taker
no_taker : (ts : List Traced) (p c : ℕ) → taker ts c ≡ None → IsChild (entry_in ts) p c → ⊥
no_taker [] p c none child = none-some (NodeOver child.children) child.node
no_taker (t ∷ ts) p c none child = elim (cases_parent (taker ts c)) [
  | inr some ↦ none-some some.0 (sym none ∙ ap (λ (o : Option ℕ). parent_or o (here t c)) some.1)
  | inl later ↦
      (let not_here : here t c ≡ None = ap (λ (o : Option ℕ). parent_or o (here t c)) (sym later) ∙ none in
      elim (cases_eq t.addr p) [
        | inl same ↦
            (let at : entry_in (t ∷ ts) p ≡ Some t.trace = rw (eq-eqb t.addr p same) refl in
            let trace : t.trace ≡ NodeOver child.children = same_Some t.trace (NodeOver child.children) (sym at ∙ child.node) in
            let is_so : is_listed (children_of t.trace) c ≡ true = ap (λ (e : TraceEntry). is_listed (children_of e) c) trace ∙ listed child.children c child.inside in
            let some : here t c ≡ Some t.addr = rw is_so refl in
            none-some t.addr (sym not_here ∙ some))
        | inr other ↦
            (let at : entry_in (t ∷ ts) p ≡ entry_in ts p = rw (ne_eqb t.addr p other) refl in
            no_taker ts p c later (record { children = child.children; node = sym at ∙ child.node; inside = child.inside }))
      ])
]

if_not : (b : Bool) (o : Option ℕ) → b ≡ false → (if b then None else o) ≡ o
if_not true o is = absurd (false≢true (sym is))
if_not false o is = refl

pub parents_stay : (live : Entries) (former : Option Cert) (cert : Cert) (old new : BTreeMap ℕ ℕ)
    → ((p c : ℕ) → IsChild live p c → Has live c) → ((p q c : ℕ) → IsChild live p c → IsChild live q c → p ≡ q) → ((a : ℕ) → Has live a → a < cert.base)
    → KeepsParents live old → Keeps live former cert → HasAdopted cert old new → KeepsParents (after live cert) new
parents_stay live former cert old new closed one_parent low kept keeps adopted p c child = elim (fate live cert p) [
  | IsAdded t is now ↦
      (let mine : IsChild (added_by cert) p c = record { children = child.children; node = is ∙ sym now ∙ child.node; inside = child.inside } in
      elim (cases_parent (taker cert.added c)) [
        | inl none ↦ absurd (no_taker cert.added p c none mine)
        | inr by ↦
            (let same = keeps.rule7.by_one by.0 p c (taker_child cert.added by.0 c keeps.rule3.added_ascend by.1) mine in
            adopted c ∙ ap (λ (o : Option ℕ). parent_or o (if is_listed cert.gone c then None else get nat_cmp old c)) by.1 ∙ ap (λ (n : ℕ). Some n) same)
      ])
  | Goes none goes now ↦ absurd (none-some (NodeOver child.children) (sym now ∙ child.node))
  | Stays none stays now ↦
      (let was : IsChild live p c = record { children = child.children; node = sym now ∙ child.node; inside = child.inside } in
      elim (cases_parent (taker cert.added c)) [
        | inl no_one ↦
            (let not_gone : is_listed cert.gone c ≡ false = elim (cases_Bool (is_listed cert.gone c)) [
              | inl is_so ↦ absurd (stays (keeps.rule5.parents p c was (listed_contains cert.gone c is_so)))
              | inr not_so ↦ not_so
            ] in
            adopted c ∙ ap (λ (o : Option ℕ). parent_or o (if is_listed cert.gone c then None else get nat_cmp old c)) no_one ∙ if_not (is_listed cert.gone c) (get nat_cmp old c) not_gone ∙ kept p c was)
        | inr by ↦
            (let taken = taker_child cert.added by.0 c keeps.rule3.added_ascend by.1 in
            elim (keeps.rule6 by.0 c taken).1 [
              | inl added ↦
                  (let high = (keeps.rule3.added c added).0 in
                  let below = low c (closed p c was) in
                  absurd (omega arith))
              | inr over ↦ absurd (stays (subst (λ (a : ℕ). Contains cert.gone a) (one_parent over.parent p c over.child was) over.parent_goes))
            ])
      ])
]
