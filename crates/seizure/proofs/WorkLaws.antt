-- The set of keys beside their list, and what the list gains.
use Rattle.std.proofs.Common.{◌≡◌, ◌⊎◌, ◌↔◌, ◌<◌, ◌≤◌, ◌+◌, ◌*◌, inl, inr, true, false, not, Bool, ℕ, List, [], ◌∷◌, ◌++◌, take, length, get_or, refl, sym, ap, ap₂, map, subst, ◌∙◌, arith, append-nil, append_assoc}
use Rattle.std.specs.Prelude.{◌≢◌, Contains, IsTrue}
use Rattle.std.specs.Ordering.{nat_cmp}
use Rattle.std.specs.Cmp.Lexicographic.{slice_cmp}
use Rattle.std.specs.BTreeMap.{is_at}
use Rattle.std.specs.BTreeSet.{BTreeSet, contains, Updates}
use Rattle.std.specs.List.{list_any}
use Rattle.std.proofs.lemmas.Bool.{cases_lt}
use Rattle.std.proofs.lemmas.List.{take_more, map-append, get_or_default}
use Rattle.std.proofs.lemmas.List.Quantifiers.{all_pairs_push}
use Rattle.std.proofs.lemmas.List.Elements.{All-nil, All-cons, All-weaker, All-append, Contains-push, Contains-push_cases, Contains-append_left}
use Rattle.std.proofs.lemmas.Map.Lookups.{exact_bytes}
use Rattle.std.proofs.lemmas.Map.Views.{tells_apart}
use Rattle.key_graph.specs.Chains.{Distinct}
use Rattle.key_graph.specs.Opening.{kind_of, IsNodeKind, count_of, key_in}
use Rattle.seizure.specs.declared.opened.Opened.{Opened}
use Rattle.seizure.specs.declared.work.Work.{Work}
use Rattle.seizure.specs.Opened.{told_of}
use Rattle.seizure.specs.Work.{KnowsItsKeys, Gains, HasBelow, HasKey, HasOneBelow, Tried, body_at}

-- ---- the set

abbrev pub IsSetOf : BTreeSet (List ℕ) → List (List ℕ) → Type 0
IsSetOf set keys = (key : List ℕ) → IsTrue (contains (slice_cmp nat_cmp) set key) ↔ Contains keys key

either : (b : Bool) → (b ≡ true) ⊎ (b ≡ false)
either true = inl refl
either false = inr refl

pub set_more : (old new : BTreeSet (List ℕ)) (keys : List (List ℕ)) (x : List ℕ) → IsSetOf old keys → Updates (slice_cmp nat_cmp) old new x true → IsSetOf new (keys ++ x ∷ [])
set_more old new keys x is updates key = elim (either (is_at (slice_cmp nat_cmp x) key)) [
  | inl same ↦
      let one : x ≡ key = tells_apart exact_bytes x key same in
      (λ has. subst (Contains (keys ++ x ∷ [])) one (Contains-push keys x), λ has. subst (λ (k : List ℕ). IsTrue (contains (slice_cmp nat_cmp) new k)) one (updates.1))
  | inr other ↦
      let same : contains (slice_cmp nat_cmp) new key ≡ contains (slice_cmp nat_cmp) old key = updates.2 key other in (
        λ has. Contains-append_left keys (x ∷ []) key ((is key).0 (subst IsTrue same has)),
        λ has. elim (Contains-push_cases keys x key has) [
          | inl before ↦ subst IsTrue (sym same) ((is key).1 before)
          | inr one ↦ subst (λ (k : List ℕ). IsTrue (contains (slice_cmp nat_cmp) new k)) one (updates.1)
        ],
      )
]

pub set_same : (old new : BTreeSet (List ℕ)) (keys : List (List ℕ)) → new.keys ≡ old.keys → IsSetOf old keys → IsSetOf new keys
set_same old new keys same is key = subst (λ (ks : List (List ℕ)). IsTrue (list_any (is_at (slice_cmp nat_cmp key)) ks) ↔ Contains keys key) (sym same) (is key)

-- a key that isn't in a list, behind it
pub distinct_push : (keys : List (List ℕ)) (x : List ℕ) → Distinct keys → (Contains keys x → ⊥) → Distinct (keys ++ x ∷ [])
distinct_push keys x once other = all_pairs_push (λ a b. a ≢ b) keys x once (λ k d within same. other (k, within, get_or_default keys k x d within ∙ same))

pub was_new : (there added : Bool) → added ≡ not there → added ≡ true → there ≡ true → ⊥
was_new true added is new old = cc
was_new false added is new old = cc

pub was_there : (there added : Bool) → added ≡ not there → added ≡ false → there ≡ true
was_there true added is old = refl
was_there false added is old = sym old ∙ is

-- ---- what a list gains

pub gains_none : (keys : List (List ℕ)) (IsOne : List ℕ → Type 0) → ((key : List ℕ) → IsOne key → Contains keys key) → Gains keys keys IsOne
gains_none keys IsOne each = record { more = []; gained = sym (append-nil keys); some = All-nil IsOne; each = each }

pub gains_one : (keys : List (List ℕ)) (x : List ℕ) → Gains keys (keys ++ x ∷ []) (λ key. key ≡ x)
gains_one keys x = record {
  more = x ∷ [];
  gained = refl;
  some = All-cons (λ (key : List ℕ). key ≡ x) x [] refl (All-nil (λ (key : List ℕ). key ≡ x));
  each = λ key is. subst (Contains (keys ++ x ∷ [])) (sym is) (Contains-push keys x);
}

pub gains_old : (keys : List (List ℕ)) (x : List ℕ) → Contains keys x → Gains keys keys (λ key. key ≡ x)
gains_old keys x has = gains_none keys (λ key. key ≡ x) (λ key is. subst (Contains keys) (sym is) has)

pub still_has : (old new : List (List ℕ)) (IsOne : List ℕ → Type 0) (key : List ℕ) → Gains old new IsOne → Contains old key → Contains new key
still_has old new IsOne key gains has = subst (λ (l : List (List ℕ)). Contains l key) (sym gains.gained) (Contains-append_left old gains.more key has)

pub gains_then : (a b c : List (List ℕ)) (P Q R : List ℕ → Type 0) → Gains a b P → Gains b c Q → ((k : List ℕ) → P k → R k) → ((k : List ℕ) → Q k → R k)
    → ((k : List ℕ) → R k → P k ⊎ Q k) → Gains a c R
gains_then a b c P Q R one other from_one from_other either_one = record {
  more = one.more ++ other.more;
  gained = other.gained ∙ ap (λ (l : List (List ℕ)). l ++ other.more) one.gained ∙ append_assoc a one.more other.more;
  some = All-append R one.more other.more (All-weaker P R from_one one.more one.some) (All-weaker Q R from_other other.more other.some);
  each = λ key is. elim (either_one key is) [ inl is_one ↦ still_has b c Q key other (one.each key is_one) | inr is_other ↦ other.each key is_other ];
}

-- each key of a list, in turn
pub gains_listed : (a b c keys : List (List ℕ)) (i : ℕ) (x : List ℕ) → i < length keys → x ≡ get_or keys i x → Gains a b (Contains (take i keys)) → Gains b c (λ key. key ≡ x)
    → Gains a c (Contains (take (i + 1) keys))
gains_listed a b c keys i x within is one other =
    let more : take i keys ++ x ∷ [] ≡ take (i + 1) keys = ap (λ (y : List ℕ). take i keys ++ y ∷ []) is ∙ sym (take_more keys i x within) in
    subst (λ (l : List (List ℕ)). Gains a c (Contains l)) more
    (gains_then a b c (Contains (take i keys)) (λ key. key ≡ x) (Contains (take i keys ++ x ∷ [])) one other (Contains-append_left (take i keys) (x ∷ []))
    (λ key same. subst (Contains (take i keys ++ x ∷ [])) (sym same) (Contains-push (take i keys) x))
    (λ key has. elim (Contains-push_cases (take i keys) x key has) [ inl before ↦ inl before | inr same ↦ inr (sym same) ]))

-- the key in each entry of a node, in turn
pub gains_entry : (a b c : List (List ℕ)) (body : List ℕ) (size i : ℕ) → IsNodeKind (kind_of body) size → Gains a b (HasBelow body size i) → Gains b c (λ key. key ≡ key_in size body i) → Gains a c (HasBelow body size (i + 1))
gains_entry a b c body size i node one other = gains_then a b c (HasBelow body size i) (λ key. key ≡ key_in size body i) (HasBelow body size (i + 1)) one other
    (λ key has. record { entry = has.entry; node = node; within = omega (arith, has.within); here = has.here })
    (λ key same. record { entry = i; node = node; within = omega arith; here = same })
    (λ key has. elim (cases_lt has.entry i) [
      | inl before ↦ inl (record { entry = has.entry; node = node; within = before; here = has.here })
      | inr most ↦ let at : has.entry ≡ i = omega (arith, has.within) in inr (has.here ∙ ap (key_in size body) at)
    ])

-- no key is in an entry before the first
pub gains_no_entry : (keys : List (List ℕ)) (body : List ℕ) (size : ℕ) → Gains keys keys (HasBelow body size 0)
gains_no_entry keys body size = gains_none keys (HasBelow body size 0) (λ key has. absurd (omega (arith, has.within)))

-- nor in what is no node
pub gains_no_node : (keys : List (List ℕ)) (body : List ℕ) → ((size : ℕ) → IsNodeKind (kind_of body) size → ⊥) → Gains keys keys (HasKey body)
gains_no_node keys body other = gains_none keys (HasKey body) (λ key has. absurd (other has.0 has.1.node))

-- the size of an entry goes with the kind
pub one_size : (kind one other : ℕ) → IsNodeKind kind one → IsNodeKind kind other → other ≡ one
one_size kind one other is is' = omega (arith, is, is')

-- the keys in all entries of a node
pub gains_all_entries : (old new : List (List ℕ)) (body : List ℕ) (size count : ℕ) → IsNodeKind (kind_of body) size → count ≡ count_of size body → Gains old new (HasBelow body size count) → Gains old new (HasKey body)
gains_all_entries old new body size count node all gains = record {
  more = gains.more;
  gained = gains.gained;
  some = All-weaker (HasBelow body size count) (HasKey body)
      (λ key has. (size, record { entry = has.entry; node = has.node; within = omega (arith, has.within, all); here = has.here })) gains.more gains.some;
  each = λ key has.
      let mine = subst (λ (s : ℕ). HasBelow body s (count_of s body) key) (one_size (kind_of body) size has.0 node has.1.node) has.1 in
      gains.each key (record { entry = mine.entry; node = mine.node; within = omega (arith, mine.within, all); here = mine.here });
}

-- an entry of a node lies within the body
pub entry_within : (body : List ℕ) (size entry : ℕ) → IsNodeKind (kind_of body) size → entry < count_of size body → size * entry + 80 ≤ 4128
entry_within body size entry node below = elim node [
  | inl two ↦
      let few : entry < count_of 48 body = subst (λ (s : ℕ). entry < count_of s body) two.1 below in
      subst (λ (s : ℕ). s * entry + 80 ≤ 4128) (sym two.1) (omega (arith, few))
  | inr three ↦
      let few : entry < count_of 80 body = subst (λ (s : ℕ). entry < count_of s body) three.1 below in
      subst (λ (s : ℕ). s * entry + 80 ≤ 4128) (sym three.1) (omega (arith, few))
]

-- ---- keys that were tried

-- none yet
pub tried_none : (pages : List (List ℕ)) (key : List ℕ) (work : Work) → KnowsItsKeys work → Tried pages key [] work work
tried_none pages key work known = record {
  known = known;
  opened = sym (append-nil work.opened);
  keys = gains_none work.keys (HasOneBelow pages key []) (λ other has. absurd (omega (arith, has.inside.1)));
}

-- and on one more page
pub tried_more : (pages : List (List ℕ)) (key addrs : List ℕ) (addr : ℕ) (body : List ℕ) (old mid new : Work) → Tried pages key addrs old mid → body ≡ body_at pages key addr
    → KnowsItsKeys new → new.opened ≡ mid.opened ++ told_of addr body ∷ [] → Gains mid.keys new.keys (HasKey body) → Tried pages key (addrs ++ addr ∷ []) old new
tried_more pages key addrs addr body old mid new tried is known opened gains =
    let f : ℕ → Opened = λ a. told_of a (body_at pages key a) in
    let told : told_of addr body ≡ f addr = ap (told_of addr) is in
    record {
      known = known;
      opened = opened ∙ ap₂ (λ (l : List Opened) (o : Opened). l ++ o ∷ []) tried.opened told ∙ append_assoc old.opened (map f addrs) (f addr ∷ []) ∙ ap (λ (l : List Opened). old.opened ++ l) (sym (map-append f addrs (addr ∷ [])));
      keys = gains_then old.keys mid.keys new.keys (HasOneBelow pages key addrs) (HasKey body) (HasOneBelow pages key (addrs ++ addr ∷ [])) tried.keys gains
          (λ other has. record { addr = has.addr; inside = Contains-append_left addrs (addr ∷ []) has.addr has.inside; has = has.has })
          (λ other has. record { addr = addr; inside = Contains-push addrs addr; has = subst (λ (b : List ℕ). HasKey b other) is has })
          (λ other has. elim (Contains-push_cases addrs addr has.addr has.inside) [
            | inl before ↦ inl (record { addr = has.addr; inside = before; has = has.has })
            | inr same ↦ inr (subst (λ (b : List ℕ). HasKey b other) (sym is) (subst (λ (a : ℕ). HasKey (body_at pages key a) other) (sym same) has.has))
          ]);
    }
