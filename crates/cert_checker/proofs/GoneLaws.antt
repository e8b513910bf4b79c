-- Rules 4, 5 and 9, from what the looks answer.
use Rattle.std.proofs.Common.{◌≡◌, ◌⊎◌, inl, inr, ℕ, ◌+◌, ◌-◌, ◌<◌, ◌≤◌, true, Option, None, Some, List, length, get_or, refl, sym, ap, subst, ◌∙◌, arith}
use Rattle.std.specs.Prelude.{Contains, slice_get, slice_index, option_map}
use Rattle.std.specs.Ordering.{nat_cmp}
use Rattle.std.specs.BTreeMap.{BTreeMap, get}
use Rattle.std.specs.BTreeSet.{BTreeSet, contains}
use Rattle.std.proofs.lemmas.Bool.{cases_eq, cases_lt, cases_Bool, both_ways}
use Rattle.std.proofs.lemmas.List.Elements.{All-from_get_or, All-contains}
use Rattle.std.proofs.lemmas.List.Kept.{AllPairs-from_increasing}
use Rattle.std.proofs.lemmas.Option.{none-some, same_Some, slice_get-get_or, slice_get_within, get_or_from_slice_get}
use Rattle.key_graph.specs.Trace.{Entries, Has, IsChild, IsTraceTree}
use Rattle.sdbt_base.specs.Traces.{NodeOver}
use Rattle.cert_maker.specs.Cert.{Cert}
use Rattle.cert_checker.specs.declared.held.Held.{Held}
use Rattle.cert_checker.specs.declared.held.Held.TheVariants.{Data, Node}
use Rattle.cert_checker.specs.declared.live.Live.{Live}
use Rattle.cert_checker.specs.declared.numbers.Last.{Last}
use Rattle.cert_checker.specs.Rules.{IsFresh, WasLive, GoesFromTheTop, LeavesNone, IsTaken}
use Rattle.cert_checker.specs.Settles.{Tells, Stands, last_of}
use Rattle.cert_checker.specs.First.{IsFirst, IsLeast, IsNotAbove, BreaksLive, BreaksTop, IsTorn, IsDropped}
use Rattle.cert_checker.specs.Held.{live_of, children_at, children_held, children_or, trace_of_held}
use Rattle.cert_checker.specs.Kept.{KeepsParents}
use Rattle.cert_checker.specs.Looks.{FirstOf, LeastOf, IsBadGone, IsLed, IsUntakenChild, IsUntakenBefore, IsFoundOr, HasTaken}
use Rattle.cert_checker.proofs.AfterLaws.{has_or_not}
use Rattle.cert_checker.proofs.FirstLaws.{contains_at}
use Rattle.cert_checker.proofs.ListLaws.{get_contained, contains_or_not, first_is, least_is}
use Rattle.cert_checker.proofs.LeastLaws.{least_same, least_both}
use Rattle.cert_checker.proofs.TakenLaws.{taken_is, taken_back}

-- ---- rule 4

has_from : (entries : Entries) (a : ℕ) → (entries a ≡ None → ⊥) → Has entries a
has_from entries a some = elim (has_or_not entries a) [ inl none ↦ absurd (some none) | inr has ↦ has ]

was_live : (live : Entries) (cert : Cert) (gone : List ℕ) → gone ≡ cert.gone → FirstOf (IsBadGone live gone) (length gone) (slice_index gone) None → WasLive live cert
was_live live cert gone same none' =
    let none = subst (λ (xs : List ℕ). FirstOf (IsBadGone live xs) (length xs) (slice_index xs) None) same none' in
    record {
      gone_ascend = AllPairs-from_increasing cert.gone (λ k inside. elim (cases_lt (get_or cert.gone k 0) (get_or cert.gone (k + 1) 0)) [
        | inl low ↦ low
        | inr high ↦ absurd (none (k + 1) inside (inl (omega arith, subst (λ (j : ℕ). get_or cert.gone (k + 1) 0 ≤ get_or cert.gone j 0) (let e : k ≡ k + 1 - 1 = omega arith in e) high)))
      ]);
      live_before = λ addr inside. All-contains (λ (a : ℕ). Has live a) cert.gone addr
          (All-from_get_or (λ (a : ℕ). Has live a) cert.gone 0
          (λ k there. has_from live (get_or cert.gone k 0) (λ not. none k there (inr not))))
          inside;
    }

abbrev IsBad : Entries → List ℕ → ℕ → ℕ → Type 0
IsBad live gone k a = IsNotAbove gone k a ⊎ (live a ≡ None)

bad_gone : (live : Entries) (gone : List ℕ) (k a : ℕ) → slice_get gone k ≡ Some a → IsBadGone live gone k → IsBad live gone k a
bad_gone live gone k a at (inl low) =
    let e : get_or gone k 0 ≡ a = get_or_from_slice_get gone k a 0 at in
    let inside = slice_get_within gone k a at in
    let most : get_or gone k 0 ≤ get_or gone (k - 1) 0 = low.1 in
    let later : 1 ≤ k = low.0 in
    inl (record { later = later; former = get_or gone (k - 1) 0; at = slice_get-get_or gone (k - 1) 0 (omega arith); not_above = omega arith })
bad_gone live gone k a at (inr none) = inr (subst (λ (x : ℕ). live x ≡ None) (get_or_from_slice_get gone k a 0 at) none)

gone_bad : (live : Entries) (gone : List ℕ) (k a : ℕ) → slice_get gone k ≡ Some a → IsBad live gone k a → IsBadGone live gone k
gone_bad live gone k a at (inl low) =
    let e : get_or gone k 0 ≡ a = get_or_from_slice_get gone k a 0 at in
    let e' : get_or gone (k - 1) 0 ≡ low.former = get_or_from_slice_get gone (k - 1) low.former 0 low.at in
    let most = low.not_above in
    inl (low.later, omega arith)
gone_bad live gone k a at (inr none) = inr (subst (λ (x : ℕ). live x ≡ None) (sym (get_or_from_slice_get gone k a 0 at)) none)

breaks_live : (live : Entries) (cert : Cert) (gone : List ℕ) (v : ℕ) → gone ≡ cert.gone → FirstOf (IsBadGone live gone) (length gone) (slice_index gone) (Some v) → BreaksLive live cert v
breaks_live live cert gone v same first =
    subst (λ (xs : List ℕ). IsFirst (IsBad live xs) xs v) same
    (first_is (IsBadGone live gone) (IsBad live gone) gone v (bad_gone live gone) (gone_bad live gone) first)

-- ---- rule 5

module _ (live : Entries) (root : ℕ) (parents : BTreeMap ℕ ℕ) (cert : Cert) (tree : IsTraceTree live root) (kept : KeepsParents live parents) (was : WasLive live cert) where
  not_led : (a : ℕ) → Contains cert.gone a → (IsLed parents cert.gone root a → ⊥) → IsTorn live cert a
  not_led a gone bad =
      let above = tree.parent a (was.live_before a gone) (λ same. bad (inl same)) in
      record {
        gone = gone;
        parent = above.0;
        child = above.1;
        stays = λ goes. bad (inr (record { parent = above.0; is = kept above.0 a above.1; goes = goes }));
      }

  led : (a : ℕ) → IsTorn live cert a → IsLed parents cert.gone root a → ⊥
  led a torn (inl same) =
      let low : a < torn.parent = tree.below torn.parent a torn.child in
      let high : torn.parent ≤ root = tree.highest torn.parent (record { trace = NodeOver torn.child.children; is = torn.child.node }) in
      omega arith
  led a torn (inr orphan) =
      torn.stays (subst (λ (x : ℕ). Contains cert.gone x) (same_Some orphan.parent torn.parent (sym orphan.is ∙ kept torn.parent a torn.child)) orphan.goes)

  goes_from : FirstOf (λ k. IsLed parents cert.gone root (slice_index cert.gone k) → ⊥) (length cert.gone) (slice_index cert.gone) None → (p c : ℕ) → IsChild live p c → Contains cert.gone c → Contains cert.gone p
  goes_from none p c child gone = elim (contains_or_not cert.gone p) [
    | inl goes ↦ goes
    | inr stays ↦
        (let at = get_contained cert.gone c gone in
        let torn : IsTorn live cert c = record { gone = gone; parent = p; child = child; stays = stays } in
        absurd (none at.0 (slice_get_within cert.gone at.0 c at.1)
        (subst (λ (x : ℕ). IsLed parents cert.gone root x → ⊥) (sym (get_or_from_slice_get cert.gone at.0 c 0 at.1)) (led c torn))))
  ]

  least_torn : (v : ℕ) → FirstOf (λ k. IsLed parents cert.gone root (slice_index cert.gone k) → ⊥) (length cert.gone) (slice_index cert.gone) (Some v) → IsLeast (IsTorn live cert) v
  least_torn v first =
      least_is (λ k. IsLed parents cert.gone root (slice_index cert.gone k) → ⊥) (IsTorn live cert) cert.gone v was.gone_ascend
      (λ k a at bad. not_led a (contains_at cert.gone k a at) (subst (λ (x : ℕ). IsLed parents cert.gone root x → ⊥) (get_or_from_slice_get cert.gone k a 0 at) bad))
      (λ k a at torn. subst (λ (x : ℕ). IsLed parents cert.gone root x → ⊥) (sym (get_or_from_slice_get cert.gone k a 0 at)) (led a torn))
      (λ a torn. torn.gone)
      first

goes_top : (live : Entries) (former cert : Cert) (parents : BTreeMap ℕ ℕ) (gone : List ℕ) → gone ≡ cert.gone → IsTraceTree live former.root → KeepsParents live parents → WasLive live cert → Contains gone former.root
    → FirstOf (λ k. IsLed parents gone former.root (slice_index gone k) → ⊥) (length gone) (slice_index gone) None → GoesFromTheTop live (Some former) cert
goes_top live former cert parents gone same tree kept was root none = record {
  root = subst (λ (xs : List ℕ). Contains xs former.root) same root;
  parents = goes_from live former.root parents cert tree kept was (subst (λ (xs : List ℕ). FirstOf (λ k. IsLed parents xs former.root (slice_index xs k) → ⊥) (length xs) (slice_index xs) None) same none);
}

breaks_top : (live : Entries) (former cert : Cert) (parents : BTreeMap ℕ ℕ) (gone : List ℕ) (v : ℕ) → gone ≡ cert.gone → IsTraceTree live former.root → KeepsParents live parents → WasLive live cert → Contains gone former.root
    → FirstOf (λ k. IsLed parents gone former.root (slice_index gone k) → ⊥) (length gone) (slice_index gone) (Some v) → BreaksTop live (Some former) cert v
breaks_top live former cert parents gone v same tree kept was root first = inr (
  subst (λ (xs : List ℕ). Contains xs former.root) same root,
  least_torn live former.root parents cert tree kept was v (subst (λ (xs : List ℕ). FirstOf (λ k. IsLed parents xs former.root (slice_index xs k) → ⊥) (length xs) (slice_index xs) (Some v)) same first),
)

-- ---- rule 9

children_are : (o : Option Held) (children : List ℕ) → option_map trace_of_held o ≡ Some (NodeOver children) → children_or (option_map children_held o) ≡ children
children_are None children is = absurd (none-some (NodeOver children) is)
children_are (Some (Data block)) children is = cc
children_are (Some (Node kept)) children is = cc

node_at : (o : Option Held) (c : ℕ) → Contains (children_or (option_map children_held o)) c → (children : List ℕ) × (option_map trace_of_held o ≡ Some (NodeOver children)) × Contains children c
node_at None c inside = absurd (omega (arith, inside.1))
node_at (Some (Data block)) c inside = absurd (omega (arith, inside.1))
node_at (Some (Node kept)) c inside = (kept.items, refl, inside)

module _ (live : BTreeMap ℕ Held) (cert : Cert) (gone : List ℕ) (taken : BTreeSet ℕ) (same : gone ≡ cert.gone) (climbs : (a : ℕ) → contains nat_cmp taken a ≡ true → IsTaken cert a) (back : (a : ℕ) → IsTaken cert a → contains nat_cmp taken a ≡ true) where
  dropped : (a : ℕ) → IsUntakenBefore live gone taken (length gone) a → IsDropped (live_of live) cert a
  dropped a here =
      let p = get_or gone here.place 0 in
      let node = node_at (get nat_cmp live p) a here.untaken.0 in
      record {
        parent = p;
        gone = subst (λ (xs : List ℕ). Contains xs p) same (contains_at gone here.place p (slice_get-get_or gone here.place 0 here.inside));
        child = record { children = node.0; node = node.1; inside = node.2 };
        stays = λ goes. here.untaken.1.stays (subst (λ (xs : List ℕ). Contains xs a) (sym same) goes);
        loose = λ is. both_ways (contains nat_cmp taken a) here.untaken.1.loose (back a is);
      }

  found : (a : ℕ) → IsDropped (live_of live) cert a → IsUntakenBefore live gone taken (length gone) a
  found a is =
      let at = get_contained gone is.parent (subst (λ (xs : List ℕ). Contains xs is.parent) (sym same) is.gone) in
      let e : get_or gone at.0 0 ≡ is.parent = get_or_from_slice_get gone at.0 is.parent 0 at.1 in
      let inside : Contains (children_at live is.parent) a = subst (λ (xs : List ℕ). Contains xs a) (sym (children_are (get nat_cmp live is.parent) is.child.children is.child.node)) is.child.inside in
      record {
        place = at.0;
        inside = slice_get_within gone at.0 is.parent at.1;
        untaken = (
          subst (λ (p : ℕ). Contains (children_at live p) a) (sym e) inside,
          record {
            stays = λ goes. is.stays (subst (λ (xs : List ℕ). Contains xs a) same goes);
            loose = elim (cases_Bool (contains nat_cmp taken a)) [ inl is_so ↦ absurd (is.loose (climbs a is_so)) | inr not_so ↦ not_so ];
          },
        );
      }

  leaves_none : LeastOf (IsUntakenBefore live gone taken (length gone)) None → LeavesNone (live_of live) cert
  leaves_none none p c goes child = elim (contains_or_not cert.gone c) [
    | inl gone' ↦ inl gone'
    | inr stays ↦ elim (cases_Bool (contains nat_cmp taken c)) [
      | inl is_so ↦ inr (climbs c is_so)
      | inr not_so ↦ absurd (none c (found c (record { parent = p; gone = goes; child = child; stays = stays; loose = λ is. both_ways (contains nat_cmp taken c) not_so (back c is) })))
    ]
  ]

  least_dropped : (v : ℕ) → LeastOf (IsUntakenBefore live gone taken (length gone)) (Some v) → IsLeast (IsDropped (live_of live) cert) v
  least_dropped v least = record { bad = dropped v least.0; least = λ other is. least.1 other (found other is) }

-- ---- what the looks tell

pub tells_live : (live : Entries) (cert : Cert) (gone : List ℕ) (answer : Option ℕ) → gone ≡ cert.gone → FirstOf (IsBadGone live gone) (length gone) (slice_index gone) answer → Tells (WasLive live cert) (BreaksLive live cert) answer
tells_live live cert gone None same first = was_live live cert gone same first
tells_live live cert gone (Some v) same first = breaks_live live cert gone v same first

pub tells_top : (live : Live) (last : Last) (former : Option Cert) (cert : Cert) (gone : List ℕ) (answer : Option ℕ) → gone ≡ cert.gone → Stands live (Some last) former → WasLive (live_of live.entries) cert → Contains gone last.root
    → FirstOf (λ k. IsLed live.parents gone last.root (slice_index gone k) → ⊥) (length gone) (slice_index gone) answer
    → Tells (GoesFromTheTop (live_of live.entries) former cert) (BreaksTop (live_of live.entries) former cert) answer
tells_top live last None cert gone answer same stands was goes first = absurd (none-some last (sym stands.numbers))
tells_top live last (Some former) cert gone answer same stands was goes first =
    let root : last.root ≡ former.root = ap (λ (l : Last). l.root) (same_last last (last_of former) stands.numbers) in
    go answer (subst (λ (x : ℕ). Contains gone x) root goes) (subst (λ (x : ℕ). FirstOf (λ k. IsLed live.parents gone x (slice_index gone k) → ⊥) (length gone) (slice_index gone) answer) root first)
  where
    same_last : (a b : Last) → Some a ≡ Some b → a ≡ b
    same_last a b is = cc

    go : (answer : Option ℕ) → Contains gone former.root → FirstOf (λ k. IsLed live.parents gone former.root (slice_index gone k) → ⊥) (length gone) (slice_index gone) answer → Tells (GoesFromTheTop (live_of live.entries) (Some former) cert) (BreaksTop (live_of live.entries) (Some former) cert) answer
    go None goes first = goes_top (live_of live.entries) former cert live.parents gone same stands.tree stands.parents was goes first
    go (Some v) goes first = breaks_top (live_of live.entries) former cert live.parents gone v same stands.tree stands.parents was goes first

pub tells_left : (live : BTreeMap ℕ Held) (cert : Cert) (gone : List ℕ) (taken : BTreeSet ℕ) (answer : Option ℕ) → gone ≡ cert.gone → IsFresh cert → HasTaken cert.added taken
    → LeastOf (IsUntakenBefore live gone taken (length gone)) answer → Tells (LeavesNone (live_of live) cert) (IsLeast (IsDropped (live_of live) cert)) answer
tells_left live cert gone taken None same fresh has least = leaves_none live cert gone taken same (taken_is cert taken fresh.added_ascend has) (taken_back cert taken has) least
tells_left live cert gone taken (Some v) same fresh has least = least_dropped live cert gone taken same (taken_is cert taken fresh.added_ascend has) (taken_back cert taken has) v least

-- ---- the least child that is left behind, node after node

pub dropped_at : (found answer : Option ℕ) (live : BTreeMap ℕ Held) (gone : List ℕ) (taken : BTreeSet ℕ) (addr : ℕ) (held : Held) (xs : List ℕ) → Some held ≡ get nat_cmp live addr → xs ≡ children_held held
    → LeastOf (IsFoundOr found (IsUntakenChild gone taken xs)) answer → LeastOf (IsFoundOr found (IsUntakenChild gone taken (children_at live addr))) answer
dropped_at found answer live gone taken addr held xs is same least =
    subst (λ (ys : List ℕ). LeastOf (IsFoundOr found (IsUntakenChild gone taken ys)) answer)
    (same ∙ ap (λ (o : Option Held). children_or (option_map children_held o)) is) least

pub dropped_next : (live : BTreeMap ℕ Held) (gone : List ℕ) (taken : BTreeSet ℕ) (i : ℕ) (least new : Option ℕ) → LeastOf (IsUntakenBefore live gone taken i) least
    → LeastOf (IsFoundOr least (IsUntakenChild gone taken (children_at live (get_or gone i 0)))) new → LeastOf (IsUntakenBefore live gone taken (i + 1)) new
dropped_next live gone taken i least new before now =
    let Here : ℕ → Type 0 = λ child. IsUntakenChild gone taken (children_at live (get_or gone i 0)) child in
    least_same (λ child. IsUntakenBefore live gone taken i child ⊎ Here child) (IsUntakenBefore live gone taken (i + 1)) new
    (λ child one. elim one [
      | inl early ↦ record { place = early.place; inside = (let low = early.inside in omega arith); untaken = early.untaken }
      | inr here ↦ record { place = i; inside = omega arith; untaken = here }
    ])
    (λ child one. elim (cases_eq one.place i) [
      | inl same ↦ inr (subst (λ (k : ℕ). IsUntakenChild gone taken (children_at live (get_or gone k 0)) child) same one.untaken)
      | inr other ↦ inl (record { place = one.place; inside = (let low = one.inside in omega arith); untaken = one.untaken })
    ])
    (least_both (IsUntakenBefore live gone taken i) Here least new before now)
