-- What becomes of the slots of a cache where one of them is written.
use Rattle.std.proofs.Common.{◌≡◌, ◌≢◌, ℕ, zero, suc, ◌+◌, ◌-◌, ◌<◌, ◌≤◌, true, false, ◌⊎◌, List, [], ◌∷◌, ◌++◌, Option, None, Some, All, Contains, IsSome, cond, length, take, refl, sym, ap, subst, inl, inr, ◌∙◌, arith, slice_get, nat_eq, length-append}
use Rattle.std.specs.List.{AllByRecursion, IsDistinct}
use Rattle.std.specs.Map.{lookup, lookup_entry, remove_entry, set_value, keys_of}
use Rattle.std.proofs.lemmas.Bool.{eq-eqb}
use Rattle.std.proofs.lemmas.Bool.Decides.{eqb_tells}
use Rattle.std.proofs.lemmas.List.{take_all, length-set, get_or-set_same, get_or-set_other}
use Rattle.std.proofs.Math.ListN.{set}
use Rattle.std.proofs.lemmas.Option.{slice_get_past, slice_get_within, slice_get-get_or, slice_get_cases}
use Rattle.std.proofs.lemmas.List.Elements.{All-nil, All-cons, All-head, All-tail, All-append, All-weaker, All-contains}
use Rattle.node_cache.specs.declared.slots.CachedNode.{CachedNode}
use Rattle.node_cache.specs.Cached.{cached, cached_node, without, IsCached, IsOnlyCached, Uses}
use Rattle.lru.specs.LruCache.{lru_cache, put_entries, promoted, demoted}
use Rattle.lru.proofs.Splits.{Contains-head, Contains-tail, Contains-cons, Contains-nil}
use Rattle.node_codec.specs.declared.body.NodeBody.{NodeBody}
use Rattle.node_cache.specs.Slots.{nodes_in, address_in, IsFullFirst, AreApart, IsTied, IsUnlisted, IsSlotFor}

-- nothing of the address is kept
abbrev pub HasNone : ℕ → List CachedNode → Type 0
HasNone addr kept = All (λ k. k.addr ≢ addr) kept

pub without-none : (addr : ℕ) (ks : List CachedNode) → HasNone addr ks → without addr ks ≡ ks
without-none addr [] none = refl
without-none addr (k ∷ ks) none = elim (eqb_tells k.addr addr) [
  | inl same ↦ absurd (All-head (λ (j : CachedNode). j.addr ≢ addr) k ks none same.1)
  | inr other ↦ rw other.0 (ap (λ r. k ∷ r) (without-none addr ks (All-tail (λ (j : CachedNode). j.addr ≢ addr) k ks none)))
]

-- a node in a slot is among those that are kept
pub kept_at_slot : (P : CachedNode → Type 0) (s : ℕ) (k : CachedNode) (es : List (ℕ × Option CachedNode)) → lookup (nat_eq s) es ≡ Some (Some k) → All P (nodes_in es) → P k
kept_at_slot P s k [] found all = cc
kept_at_slot P s k ((t, None) ∷ es) found all = elim (eqb_tells s t) [
  | inl same ↦ let found' = rw same.0 at found in cc
  | inr other ↦ kept_at_slot P s k es (rw other.0 at found) all
]
kept_at_slot P s k ((t, Some j) ∷ es) found all = elim (eqb_tells s t) [
  | inl same ↦ let found' = rw same.0 at found in let e : j ≡ k = cc in subst P e (All-head P j (nodes_in es) all)
  | inr other ↦ kept_at_slot P s k es (rw other.0 at found) (All-tail P j (nodes_in es) all)
]

pub nodes_in-remove : (s : ℕ) (k : CachedNode) (es : List (ℕ × Option CachedNode)) → lookup (nat_eq s) es ≡ Some (Some k) → AreApart (nodes_in es) → nodes_in (remove_entry (nat_eq s) es) ≡ without k.addr (nodes_in es)
nodes_in-remove s k [] found apart = cc
nodes_in-remove s k ((t, None) ∷ es) found apart = elim (eqb_tells s t) [
  | inl same ↦ let found' = rw same.0 at found in cc
  | inr other ↦ rw other.0 (nodes_in-remove s k es (rw other.0 at found) apart)
]
nodes_in-remove s k ((t, Some j) ∷ es) found apart = elim (eqb_tells s t) [
  | inl same ↦ let found' = rw same.0 at found in let e : j ≡ k = cc in
      let here = eq-eqb j.addr k.addr (ap (λ (i : CachedNode). i.addr) e) in
      rw (same.0, here) (sym (without-none k.addr (nodes_in es) (subst (λ (i : CachedNode). HasNone i.addr (nodes_in es)) e apart.0)))
  | inr other ↦ let found' = rw other.0 at found in
      let differs : k.addr ≢ j.addr = kept_at_slot (λ (i : CachedNode). i.addr ≢ j.addr) s k es found' apart.0 in
      elim (eqb_tells j.addr k.addr) [
        | inl e ↦ absurd (differs (sym e.1))
        | inr e ↦ rw (other.0, e.0) (ap (λ r. j ∷ r) (nodes_in-remove s k es found' apart.1))
      ]
]

-- ---- without a slot

pub All-nodes_in-remove : (P : CachedNode → Type 0) (s : ℕ) (es : List (ℕ × Option CachedNode)) → All P (nodes_in es) → All P (nodes_in (remove_entry (nat_eq s) es))
All-nodes_in-remove P s [] all = all
All-nodes_in-remove P s ((t, None) ∷ es) all = elim (nat_eq s t) as (λ b. All P (nodes_in (cond b es ((t, None) ∷ remove_entry (nat_eq s) es)))) [
  | true ↦ all
  | false ↦ All-nodes_in-remove P s es all
]
All-nodes_in-remove P s ((t, Some j) ∷ es) all = elim (nat_eq s t) as (λ b. All P (nodes_in (cond b es ((t, Some j) ∷ remove_entry (nat_eq s) es)))) [
  | true ↦ All-tail P j (nodes_in es) all
  | false ↦ All-cons P j (nodes_in (remove_entry (nat_eq s) es)) (All-head P j (nodes_in es) all) (All-nodes_in-remove P s es (All-tail P j (nodes_in es) all))
]

pub apart-remove : (s : ℕ) (es : List (ℕ × Option CachedNode)) → AreApart (nodes_in es) → AreApart (nodes_in (remove_entry (nat_eq s) es))
apart-remove s [] apart = apart
apart-remove s ((t, None) ∷ es) apart = elim (nat_eq s t) as (λ b. AreApart (nodes_in (cond b es ((t, None) ∷ remove_entry (nat_eq s) es)))) [
  | true ↦ apart
  | false ↦ apart-remove s es apart
]
apart-remove s ((t, Some j) ∷ es) apart = elim (nat_eq s t) as (λ b. AreApart (nodes_in (cond b es ((t, Some j) ∷ remove_entry (nat_eq s) es)))) [
  | true ↦ apart.1
  | false ↦ (All-nodes_in-remove (λ (i : CachedNode). i.addr ≢ j.addr) s es apart.0, apart-remove s es apart.1)
]

none-remove : (s : ℕ) (es : List (ℕ × Option CachedNode)) → nodes_in es ≡ [] → nodes_in (remove_entry (nat_eq s) es) ≡ []
none-remove s [] none = none
none-remove s ((t, None) ∷ es) none = elim (nat_eq s t) as (λ b. nodes_in (cond b es ((t, None) ∷ remove_entry (nat_eq s) es)) ≡ []) [
  | true ↦ none
  | false ↦ none-remove s es none
]
none-remove s ((t, Some j) ∷ es) none = cc

none-full_first : (es : List (ℕ × Option CachedNode)) → nodes_in es ≡ [] → IsFullFirst es
none-full_first [] none = tt
none-full_first ((t, None) ∷ es) none = none
none-full_first ((t, Some j) ∷ es) none = cc

pub full_first-remove : (s : ℕ) (es : List (ℕ × Option CachedNode)) → IsFullFirst es → IsFullFirst (remove_entry (nat_eq s) es)
full_first-remove s [] first = first
full_first-remove s ((t, None) ∷ es) first = elim (nat_eq s t) as (λ b. IsFullFirst (cond b es ((t, None) ∷ remove_entry (nat_eq s) es))) [
  | true ↦ none-full_first es first
  | false ↦ none-remove s es first
]
full_first-remove s ((t, Some j) ∷ es) first = elim (nat_eq s t) as (λ b. IsFullFirst (cond b es ((t, Some j) ∷ remove_entry (nat_eq s) es))) [
  | true ↦ first
  | false ↦ full_first-remove s es first
]

pub length-remove_slot : (s : ℕ) (es : List (ℕ × Option CachedNode)) → IsSome (lookup (nat_eq s) es) → length (remove_entry (nat_eq s) es) + 1 ≡ length es
length-remove_slot s [] found = cc
length-remove_slot s ((t, v) ∷ es) found = elim (eqb_tells s t) [
  | inl same ↦ rw same.0 (omega arith)
  | inr other ↦ let rest = length-remove_slot s es (rw other.0 at found) in rw other.0 (omega arith)
]

length-nodes_in : (es : List (ℕ × Option CachedNode)) → length (nodes_in es) ≤ length es
length-nodes_in [] = omega arith
length-nodes_in ((t, None) ∷ es) = let rest = length-nodes_in es in omega arith
length-nodes_in ((t, Some j) ∷ es) = let rest = length-nodes_in es in omega arith

pub lookup-remove_other : (s t : ℕ) (es : List (ℕ × Option CachedNode)) → t ≢ s → IsSome (lookup (nat_eq t) es) → IsSome (lookup (nat_eq t) (remove_entry (nat_eq s) es))
lookup-remove_other s t [] other found = found
lookup-remove_other s t ((r, v) ∷ es) other found = elim (eqb_tells s r) [
  | inl same ↦ elim (eqb_tells t r) [
    | inl too ↦ absurd (other (too.1 ∙ sym same.1))
    | inr not_r ↦ rw same.0 (rw not_r.0 at found)
  ]
  | inr not_s ↦ elim (eqb_tells t r) [
    | inl too ↦ rw (not_s.0, too.0) refl
    | inr not_r ↦ rw (not_s.0, not_r.0) (lookup-remove_other s t es other (rw not_r.0 at found))
  ]
]

-- ---- the addresses beside the slots

abbrev pub Listed : List (Option ℕ) → ℕ × Option CachedNode → Type 0
Listed addrs slot = slice_get addrs slot.0 ≡ Some (address_in slot.1)

listed-remove : (addrs : List (Option ℕ)) (s : ℕ) (es : List (ℕ × Option CachedNode)) → All (Listed addrs) es → All (Listed addrs) (remove_entry (nat_eq s) es)
listed-remove addrs s [] all = all
listed-remove addrs s (e ∷ es) all = elim (nat_eq s e.0) as (λ b. All (Listed addrs) (cond b es (e ∷ remove_entry (nat_eq s) es))) [
  | true ↦ All-tail (Listed addrs) e es all
  | false ↦ All-cons (Listed addrs) e (remove_entry (nat_eq s) es) (All-head (Listed addrs) e es all) (listed-remove addrs s es (All-tail (Listed addrs) e es all))
]

listed_still : (addrs addrs' : List (Option ℕ)) (s : ℕ) (es : List (ℕ × Option CachedNode)) → ((t : ℕ) → t ≢ s → slice_get addrs' t ≡ slice_get addrs t) → AllByRecursion (λ t. nat_eq s t ≡ false) (keys_of es) → All (Listed addrs) es → All (Listed addrs') es
listed_still addrs addrs' s [] same others all = All-nil (Listed addrs')
listed_still addrs addrs' s (e ∷ es) same others all =
    let differs : e.0 ≢ s = λ (h : e.0 ≡ s). (let t : nat_eq s e.0 ≡ true = eq-eqb s e.0 (sym h) in let f = others.0 in let no : true ≡ false = sym t ∙ f in cc) in
    All-cons (Listed addrs') e es (same e.0 differs ∙ All-head (Listed addrs) e es all) (listed_still addrs addrs' s es same others.1 (All-tail (Listed addrs) e es all))

pub listed_at : (addrs : List (Option ℕ)) (s : ℕ) (v : Option CachedNode) (es : List (ℕ × Option CachedNode)) → All (Listed addrs) es → lookup (nat_eq s) es ≡ Some v → slice_get addrs s ≡ Some (address_in v)
listed_at addrs s v [] all found = cc
listed_at addrs s v ((t, w) ∷ es) all found = elim (eqb_tells s t) [
  | inl same ↦ let found' = rw same.0 at found in let e : w ≡ v = cc in
      subst (λ x. slice_get addrs x ≡ Some (address_in v)) (sym same.1) (subst (λ x. slice_get addrs t ≡ Some (address_in x)) e (All-head (Listed addrs) (t, w) es all))
  | inr other ↦ listed_at addrs s v es (All-tail (Listed addrs) (t, w) es all) (rw other.0 at found)
]

-- no slot has an address that isn't listed
pub none_listed : (addrs : List (Option ℕ)) (addr : ℕ) (es : List (ℕ × Option CachedNode)) → ((t : ℕ) → slice_get addrs t ≢ Some (Some addr)) → All (Listed addrs) es → HasNone addr (nodes_in es)
none_listed addrs addr [] unlisted all = All-nil (λ (k : CachedNode). k.addr ≢ addr)
none_listed addrs addr ((t, None) ∷ es) unlisted all = none_listed addrs addr es unlisted (All-tail (Listed addrs) (t, None) es all)
none_listed addrs addr ((t, Some j) ∷ es) unlisted all =
    All-cons (λ (k : CachedNode). k.addr ≢ addr) j (nodes_in es)
    (λ h. unlisted t (All-head (Listed addrs) (t, Some j) es all ∙ ap (λ a. Some (Some a)) h))
    (none_listed addrs addr es unlisted (All-tail (Listed addrs) (t, Some j) es all))

-- ---- a slot is written and comes first

pub tied_full : (s : ℕ) (k : CachedNode) (es : List (ℕ × Option CachedNode)) (addrs addrs' : List (Option ℕ)) → IsTied es addrs → s < length addrs → IsDistinct nat_eq (keys_of ((s, Some k) ∷ remove_entry (nat_eq s) es)) → length addrs' ≡ length addrs → slice_get addrs' s ≡ Some (Some k.addr) → ((t : ℕ) → t ≢ s → slice_get addrs' t ≡ slice_get addrs t) → HasNone k.addr (nodes_in (remove_entry (nat_eq s) es)) → IsTied ((s, Some k) ∷ remove_entry (nat_eq s) es) addrs'
unfolding IsDistinct
tied_full s k es addrs addrs' tied within distinct as_many here same none = record {
  listed = All-cons (Listed addrs') (s, Some k) (remove_entry (nat_eq s) es) here (listed_still addrs addrs' s (remove_entry (nat_eq s) es) same distinct.0 (listed-remove addrs s es tied.listed));
  each = λ t below. elim (eqb_tells t s) [
    | inl e ↦ rw e.0 refl
    | inr e ↦ rw e.0 (lookup-remove_other s t es e.1 (tied.each t (omega arith)))
  ];
  apart = (none, apart-remove s es tied.apart);
  full_first = full_first-remove s es tied.full_first;
  count = let gone = length-remove_slot s es (tied.each s within) in let was = tied.count in omega arith;
}

-- what is kept then, where the node's own slot was written
pub kept_again : (s : ℕ) (k j : CachedNode) (es : List (ℕ × Option CachedNode)) (addrs : List (Option ℕ)) → IsTied es addrs → s < length addrs → lookup (nat_eq s) es ≡ Some (Some j) → j.addr ≡ k.addr → take (length addrs) (k ∷ without k.addr (nodes_in es)) ≡ k ∷ nodes_in (remove_entry (nat_eq s) es)
kept_again s k j es addrs tied within found addr =
    let gone = length-remove_slot s es (tied.each s within) in let bound = length-nodes_in (remove_entry (nat_eq s) es) in let was = tied.count in
    let same : nodes_in (remove_entry (nat_eq s) es) ≡ without k.addr (nodes_in es) = subst (λ a. nodes_in (remove_entry (nat_eq s) es) ≡ without a (nodes_in es)) addr (nodes_in-remove s j es found tied.apart) in
    rw (← same) (take_all (length addrs) (k ∷ nodes_in (remove_entry (nat_eq s) es)) (omega arith))

-- ---- the slot that was used least

key_of_last : (s : ℕ) (v : Option CachedNode) (n : ℕ) (es : List (ℕ × Option CachedNode)) → slice_get es n ≡ Some (s, v) → AllByRecursion (λ t. nat_eq s t ≡ false) (keys_of es) → ⊥
key_of_last s v n [] last others = cc
key_of_last s v zero (e ∷ es) last others = let e' : e ≡ (s, v) = cc in let t : nat_eq s e.0 ≡ true = eq-eqb s e.0 (sym (ap (λ (p : ℕ × Option CachedNode). p.0) e')) in let no : true ≡ false = sym t ∙ others.0 in cc
key_of_last s v (suc n) (e ∷ es) last others = key_of_last s v n es last others.1

pub take-nodes_in : (s : ℕ) (v : Option CachedNode) (n : ℕ) (es : List (ℕ × Option CachedNode)) → length es ≡ suc n → slice_get es n ≡ Some (s, v) → IsDistinct nat_eq (keys_of es) → IsFullFirst es → take n (nodes_in es) ≡ nodes_in (remove_entry (nat_eq s) es)
unfolding IsDistinct
take-nodes_in s v n [] count last distinct first = cc
take-nodes_in s v zero (e ∷ []) count last distinct first =
    let e' : e ≡ (s, v) = cc in let t : nat_eq s e.0 ≡ true = eq-eqb s e.0 (sym (ap (λ (p : ℕ × Option CachedNode). p.0) e')) in
    rw t refl
take-nodes_in s v zero (e ∷ f ∷ es) count last distinct first = absurd (omega arith)
take-nodes_in s v (suc n) (e ∷ []) count last distinct first = cc
take-nodes_in s v (suc n) ((t, None) ∷ f ∷ es) count last distinct first =
    let none = none-remove s (f ∷ es) first in
    rw first (elim (nat_eq s t) as (λ b. [] ≡ nodes_in (cond b (f ∷ es) ((t, None) ∷ remove_entry (nat_eq s) (f ∷ es)))) [
      | true ↦ sym first
      | false ↦ sym none
    ])
take-nodes_in s v (suc n) ((t, Some j) ∷ f ∷ es) count last distinct first = elim (eqb_tells s t) [
  | inl same ↦ absurd (key_of_last s v n (f ∷ es) last (subst (λ x. AllByRecursion (λ y. nat_eq x y ≡ false) (keys_of (f ∷ es))) (sym same.1) distinct.0))
  | inr other ↦ rw other.0 (ap (λ r. j ∷ r) (take-nodes_in s v n (f ∷ es) (omega arith) last distinct.1 first))
]

-- ---- a slot is found by its number

pub entry_at : (s : ℕ) (es : List (ℕ × Option CachedNode)) → IsSome (lookup (nat_eq s) es) → (v : Option CachedNode) × (lookup_entry (nat_eq s) es ≡ Some (s, v)) × (lookup (nat_eq s) es ≡ Some v)
entry_at s [] found = cc
entry_at s ((t, v) ∷ es) found = elim (eqb_tells s t) [
  | inl same ↦ (v, rw same.0 (ap (λ x. Some (x, v)) (sym same.1)), rw same.0 refl)
  | inr other ↦ let rest = entry_at s es (rw other.0 at found) in (rest.0, rw other.0 rest.1, rw other.0 rest.2)
]

-- a slot that is there is written and comes first
pub written_at_slot : (s : ℕ) (v : Option CachedNode) (es : List (ℕ × Option CachedNode)) → IsSome (lookup (nat_eq s) es) → set_value (nat_eq s) (promoted (nat_eq s) es) v ≡ (s, v) ∷ remove_entry (nat_eq s) es
written_at_slot s v es found = let e = entry_at s es found in rw (e.1, eq-eqb s s refl) refl

pub set_here : {X : Type 0} (xs : List X) (s : ℕ) (v : X) → s < length xs → slice_get (set xs s v) s ≡ Some v
set_here xs s v within = let bound = length-set xs s v in slice_get-get_or (set xs s v) s v (omega arith) ∙ ap Some (get_or-set_same xs s v v within)

pub set_there : {X : Type 0} (xs : List X) (s : ℕ) (v : X) (t : ℕ) → t ≢ s → slice_get (set xs s v) t ≡ slice_get xs t
set_there xs s v t other =
    let bound = length-set xs s v in
    elim (slice_get_cases xs t).1 [
      | inl in' ↦ slice_get-get_or (set xs s v) t v (let h = in'.1 in omega arith) ∙ ap Some (get_or-set_other xs s t v v other) ∙ sym (slice_get-get_or xs t v in'.1)
      | inr past ↦ slice_get_past (set xs s v) t (let h = past.0 in omega arith) ∙ sym past.1
    ]

-- ---- a node is put

-- a slot with an address has a node of it
slot_of_addr : (s addr : ℕ) (es : List (ℕ × Option CachedNode)) (addrs : List (Option ℕ)) → IsTied es addrs → slice_get addrs s ≡ Some (Some addr) → (j : CachedNode) × (lookup (nat_eq s) es ≡ Some (Some j)) × (j.addr ≡ addr)
slot_of_addr s addr es addrs tied listed =
    let e = entry_at s es (tied.each s (slice_get_within addrs s (Some addr) listed)) in
    from e.0 e.2 (sym (listed_at addrs s e.0 es tied.listed e.2) ∙ listed)
  where
    from : (v : Option CachedNode) → lookup (nat_eq s) es ≡ Some v → Some (address_in v) ≡ Some (Some addr) → (j : CachedNode) × (lookup (nat_eq s) es ≡ Some (Some j)) × (j.addr ≡ addr)
    from None found says = cc
    from (Some j) found says = (j, found, cc)

none-without : (addr : ℕ) (ks : List CachedNode) → HasNone addr (without addr ks)
none-without addr [] = All-nil (λ (k : CachedNode). k.addr ≢ addr)
none-without addr (k ∷ ks) = elim (eqb_tells k.addr addr) [
  | inl same ↦ rw same.0 (none-without addr ks)
  | inr other ↦ rw other.0 (All-cons (λ (j : CachedNode). j.addr ≢ addr) k (without addr ks) other.1 (none-without addr ks))
]

listed_nth : (addrs : List (Option ℕ)) (n s : ℕ) (v : Option CachedNode) (es : List (ℕ × Option CachedNode)) → All (Listed addrs) es → slice_get es n ≡ Some (s, v) → slice_get addrs s ≡ Some (address_in v)
listed_nth addrs n s v [] all at = cc
listed_nth addrs zero s v (e ∷ es) all at = let same : e ≡ (s, v) = cc in subst (Listed addrs) same (All-head (Listed addrs) e es all)
listed_nth addrs (suc n) s v (e ∷ es) all at = listed_nth addrs n s v es (All-tail (Listed addrs) e es all) at

pub slot_within : (s addr : ℕ) (es : List (ℕ × Option CachedNode)) (addrs : List (Option ℕ)) → IsTied es addrs → IsSlotFor es addrs addr s → s < length addrs
slot_within s addr es addrs tied (inl listed) = slice_get_within addrs s (Some addr) listed
slot_within s addr es addrs tied (inr last) =
    slice_get_within addrs s (address_in last.1.content) (listed_nth addrs (length es - 1) s last.1.content es tied.listed last.1.is)

none_beside : (s addr : ℕ) (es : List (ℕ × Option CachedNode)) (addrs : List (Option ℕ)) → IsTied es addrs → IsSlotFor es addrs addr s → HasNone addr (nodes_in (remove_entry (nat_eq s) es))
none_beside s addr es addrs tied (inl listed) =
    let j = slot_of_addr s addr es addrs tied listed in
    subst (λ a. HasNone a (nodes_in (remove_entry (nat_eq s) es))) j.2 (subst (HasNone j.0.addr) (sym (nodes_in-remove s j.0 es j.1 tied.apart)) (none-without j.0.addr (nodes_in es)))
none_beside s addr es addrs tied (inr last) =
    All-nodes_in-remove (λ (k : CachedNode). k.addr ≢ addr) s es (none_listed addrs addr es last.0 tied.listed)

pub tied_put : (s : ℕ) (k : CachedNode) (es : List (ℕ × Option CachedNode)) (addrs : List (Option ℕ)) → IsTied es addrs → IsSlotFor es addrs k.addr s → IsDistinct nat_eq (keys_of ((s, Some k) ∷ remove_entry (nat_eq s) es)) → IsTied ((s, Some k) ∷ remove_entry (nat_eq s) es) (set addrs s (Some k.addr))
tied_put s k es addrs tied slot distinct =
    let within = slot_within s k.addr es addrs tied slot in
    tied_full s k es addrs (set addrs s (Some k.addr)) tied within distinct (length-set addrs s (Some k.addr)) (set_here addrs s (Some k.addr) within) (set_there addrs s (Some k.addr)) (none_beside s k.addr es addrs tied slot)

pub kept_put : (s : ℕ) (k : CachedNode) (es : List (ℕ × Option CachedNode)) (addrs : List (Option ℕ)) → 0 < length addrs → IsTied es addrs → IsSlotFor es addrs k.addr s → k ∷ nodes_in (remove_entry (nat_eq s) es) ≡ take (length addrs) (k ∷ without k.addr (nodes_in es))
kept_put s k es addrs some tied (inl listed) =
    let j = slot_of_addr s k.addr es addrs tied listed in
    sym (kept_again s k j.0 es addrs tied (slice_get_within addrs s (Some k.addr) listed) j.1 j.2)
kept_put s k es addrs some tied (inr last) =
    let n = length addrs - 1 in
    let count : length es ≡ suc n = let was = tied.count in omega arith in
    let size : length addrs ≡ suc n = omega arith in
    let at : slice_get es n ≡ Some (s, last.1.content) = subst (λ m. slice_get es (m - 1) ≡ Some (s, last.1.content)) tied.count last.1.is in
    let less = take-nodes_in s last.1.content n es count at last.1.distinct tied.full_first in
    let same = without-none k.addr (nodes_in es) (none_listed addrs k.addr es last.0 tied.listed) in
    rw (size, same) (ap (λ r. k ∷ r) (sym less))

-- ---- a node is forgotten

nodes_in-append_empty : (s : ℕ) (es : List (ℕ × Option CachedNode)) → nodes_in (es ++ (s, None) ∷ []) ≡ nodes_in es
nodes_in-append_empty s [] = refl
nodes_in-append_empty s ((t, None) ∷ es) = nodes_in-append_empty s es
nodes_in-append_empty s ((t, Some j) ∷ es) = ap (λ r. j ∷ r) (nodes_in-append_empty s es)

full_first-append_empty : (s : ℕ) (es : List (ℕ × Option CachedNode)) → IsFullFirst es → IsFullFirst (es ++ (s, None) ∷ [])
full_first-append_empty s [] first = refl
full_first-append_empty s ((t, None) ∷ es) first = nodes_in-append_empty s es ∙ first
full_first-append_empty s ((t, Some j) ∷ es) first = full_first-append_empty s es first

lookup-append_empty : (s t : ℕ) (es : List (ℕ × Option CachedNode)) → (t ≡ s) ⊎ IsSome (lookup (nat_eq t) es) → IsSome (lookup (nat_eq t) (es ++ (s, None) ∷ []))
lookup-append_empty s t [] (inl e) = rw (eq-eqb t s e) refl
lookup-append_empty s t [] (inr found) = cc
lookup-append_empty s t ((r, v) ∷ es) (inl e) = elim (nat_eq t r) as (λ b. IsSome (cond b (Some v) (lookup (nat_eq t) (es ++ (s, None) ∷ [])))) [
  | true ↦ refl
  | false ↦ lookup-append_empty s t es (inl e)
]
lookup-append_empty s t ((r, v) ∷ es) (inr found) = elim (eqb_tells t r) [
  | inl same ↦ rw same.0 refl
  | inr other ↦ rw other.0 (lookup-append_empty s t es (inr (rw other.0 at found)))
]

pub tied_forgotten : (s addr : ℕ) (es : List (ℕ × Option CachedNode)) (addrs : List (Option ℕ)) → IsTied es addrs → slice_get addrs s ≡ Some (Some addr) → IsDistinct nat_eq (keys_of ((s, None) ∷ remove_entry (nat_eq s) es)) → IsTied (remove_entry (nat_eq s) es ++ (s, None) ∷ []) (set addrs s None)
unfolding IsDistinct
tied_forgotten s addr es addrs tied listed distinct =
    let within = slice_get_within addrs s (Some addr) listed in
    let others = set addrs s None in
    let as_many = length-set addrs s None in
    let rest = remove_entry (nat_eq s) es in
    record {
      listed = All-append (Listed (set addrs s None)) rest ((s, None) ∷ [])
          (listed_still addrs (set addrs s None) s rest (set_there addrs s None) distinct.0 (listed-remove addrs s es tied.listed))
          (All-cons (Listed (set addrs s None)) (s, None) [] (set_here addrs s None within) (All-nil (Listed (set addrs s None))));
      each = λ t below. lookup-append_empty s t rest (elim (eqb_tells t s) [
        | inl e ↦ inl e.1
        | inr e ↦ inr (lookup-remove_other s t es e.1 (tied.each t (omega arith)))
      ]);
      apart = subst AreApart (sym (nodes_in-append_empty s rest)) (apart-remove s es tied.apart);
      full_first = full_first-append_empty s rest (full_first-remove s es tied.full_first);
      count = let gone = length-remove_slot s es (tied.each s within) in let was = tied.count in let sum = length-append rest ((s, None) ∷ []) in omega arith;
    }

pub kept_forgotten : (s addr : ℕ) (es : List (ℕ × Option CachedNode)) (addrs : List (Option ℕ)) → IsTied es addrs → slice_get addrs s ≡ Some (Some addr) → nodes_in (remove_entry (nat_eq s) es ++ (s, None) ∷ []) ≡ without addr (nodes_in es)
kept_forgotten s addr es addrs tied listed =
    let j = slot_of_addr s addr es addrs tied listed in
    nodes_in-append_empty s (remove_entry (nat_eq s) es) ∙ nodes_in-remove s j.0 es j.1 tied.apart ∙ ap (λ a. without a (nodes_in es)) j.2

-- ---- slots are added while a cache is made

-- so many slots, all of them empty
pub record IsFilled (es : List (ℕ × Option CachedNode)) (addrs : List (Option ℕ)) (n : ℕ) : Type 0 where
  pub empty : All (λ e. (e.1 ≡ None) × (e.0 < n)) es
  pub nones : (t : ℕ) → t < n → slice_get addrs t ≡ Some None
  pub each : (t : ℕ) → t < n → IsSome (lookup (nat_eq t) es)
  pub count : length es ≡ n
  pub as_many : length addrs ≡ n

abbrev IsEmptyBelow : ℕ → ℕ × Option CachedNode → Type 0
IsEmptyBelow n e = (e.1 ≡ None) × (e.0 < n)

pub filled_none : IsFilled [] [] 0
filled_none = record {
  empty = All-nil (IsEmptyBelow 0);
  nones = λ t h. absurd (omega arith);
  each = λ t h. absurd (omega arith);
  count = refl;
  as_many = refl;
}

fresh_number : (n : ℕ) (es : List (ℕ × Option CachedNode)) → All (IsEmptyBelow n) es → lookup_entry (nat_eq n) es ≡ None
fresh_number n [] all = refl
fresh_number n (e ∷ es) all =
    let here : e.0 < n = (All-head (IsEmptyBelow n) e es all).1 in
    elim (eqb_tells n e.0) [
      | inl same ↦ absurd (let h = same.1 in omega arith)
      | inr other ↦ rw other.0 (fresh_number n es (All-tail (IsEmptyBelow n) e es all))
    ]

still_below : (n : ℕ) (es : List (ℕ × Option CachedNode)) → All (IsEmptyBelow n) es → All (IsEmptyBelow (n + 1)) es
still_below n es all = All-weaker (IsEmptyBelow n) (IsEmptyBelow (n + 1)) (λ e h. (h.0, (let b = h.1 in omega arith))) es all

slice_get-push : (addrs : List (Option ℕ)) (t : ℕ) → t < length addrs → slice_get (addrs ++ None ∷ []) t ≡ slice_get addrs t
slice_get-push [] t h = absurd (omega arith)
slice_get-push (a ∷ addrs) zero h = refl
slice_get-push (a ∷ addrs) (suc t) h = slice_get-push addrs t (omega arith)

slice_get-pushed : (addrs : List (Option ℕ)) → slice_get (addrs ++ None ∷ []) (length addrs) ≡ Some None
slice_get-pushed [] = refl
slice_get-pushed (a ∷ addrs) = slice_get-pushed addrs

pub filled_more : (es : List (ℕ × Option CachedNode)) (addrs : List (Option ℕ)) (n most : ℕ) → n < most → IsFilled es addrs n → IsFilled (put_entries nat_eq (lru_cache es most) n None) (addrs ++ None ∷ []) (n + 1)
filled_more es addrs n most room filled =
    let fresh = fresh_number n es filled.empty in
    let all : take (most - 1) es ≡ es = take_all (most - 1) es (let c = filled.count in omega arith) in
    rw (fresh, all) (record {
      empty = All-cons (IsEmptyBelow (n + 1)) (n, None) es (refl, omega arith) (still_below n es filled.empty);
      nones = λ t below. elim (eqb_tells t n) [
        | inl e ↦ subst (λ x. slice_get (addrs ++ None ∷ []) x ≡ Some None) (filled.as_many ∙ sym e.1) (slice_get-pushed addrs)
        | inr e ↦ (let m = filled.as_many in let h = e.1 in slice_get-push addrs t (omega arith) ∙ filled.nones t (omega arith))
      ];
      each = λ t below. elim (eqb_tells t n) [
        | inl e ↦ rw e.0 refl
        | inr e ↦ rw e.0 (filled.each t (let h = e.1 in omega arith))
      ];
      count = let c = filled.count in omega arith;
      as_many = let c = filled.as_many in let sum = length-append addrs (None ∷ []) in omega arith;
    })

pub filled_kept : (n : ℕ) (es : List (ℕ × Option CachedNode)) → All (IsEmptyBelow n) es → nodes_in es ≡ []
filled_kept n [] all = refl
filled_kept n ((t, None) ∷ es) all = filled_kept n es (All-tail (IsEmptyBelow n) (t, None) es all)
filled_kept n ((t, Some j) ∷ es) all = let no : Some j ≡ None = (All-head (IsEmptyBelow n) (t, Some j) es all).0 in cc

pub filled_tied : (es : List (ℕ × Option CachedNode)) (addrs : List (Option ℕ)) (n : ℕ) → IsFilled es addrs n → IsTied es addrs
filled_tied es addrs n filled =
    let none = filled_kept n es filled.empty in
    record {
      listed = All-weaker (IsEmptyBelow n) (Listed addrs) (λ e h. filled.nones e.0 h.1 ∙ ap (λ v. Some (address_in v)) (sym h.0)) es filled.empty;
      each = λ t below. filled.each t (let m = filled.as_many in omega arith);
      apart = subst AreApart (sym none) tt;
      full_first = none-full_first es none;
      count = filled.count ∙ sym filled.as_many;
    }

pub demoted_first : (s : ℕ) (v : Option CachedNode) (es : List (ℕ × Option CachedNode)) → demoted (nat_eq s) ((s, v) ∷ es) ≡ es ++ (s, v) ∷ []
demoted_first s v es = rw (eq-eqb s s refl) refl

-- ---- the same, of what a cache has afterwards

module _ (es after : List (ℕ × Option CachedNode)) (addrs : List (Option ℕ)) (s : ℕ) where
  pub tied_after_put : (k : CachedNode) → IsTied es addrs → IsSlotFor es addrs k.addr s → after ≡ (s, Some k) ∷ remove_entry (nat_eq s) es → IsDistinct nat_eq (keys_of after) → IsTied after (set addrs s (Some k.addr))
  tied_after_put k tied slot is distinct =
      subst (λ (l : List (ℕ × Option CachedNode)). IsTied l (set addrs s (Some k.addr))) (sym is) (tied_put s k es addrs tied slot (subst (λ (l : List (ℕ × Option CachedNode)). IsDistinct nat_eq (keys_of l)) is distinct))

  pub cached_after_put : (k : CachedNode) → 0 < length addrs → IsTied es addrs → IsSlotFor es addrs k.addr s → after ≡ (s, Some k) ∷ remove_entry (nat_eq s) es
      → cached (length (set addrs s (Some k.addr))) (nodes_in after) ≡ cached (length addrs) (take (length addrs) (k ∷ without k.addr (nodes_in es)))
  cached_after_put k some tied slot is =
      let kept : nodes_in after ≡ take (length addrs) (k ∷ without k.addr (nodes_in es)) = ap nodes_in is ∙ kept_put s k es addrs some tied slot in
      let size = length-set addrs s (Some k.addr) in
      λ i. cached (size i) (kept i)

  pub tied_after_forget : (addr : ℕ) → IsTied es addrs → slice_get addrs s ≡ Some (Some addr) → after ≡ remove_entry (nat_eq s) es ++ (s, None) ∷ [] → IsDistinct nat_eq (keys_of ((s, None) ∷ remove_entry (nat_eq s) es)) → IsTied after (set addrs s None)
  tied_after_forget addr tied listed is distinct =
      subst (λ (l : List (ℕ × Option CachedNode)). IsTied l (set addrs s None)) (sym is) (tied_forgotten s addr es addrs tied listed distinct)

  pub cached_after_forget : (addr : ℕ) → IsTied es addrs → slice_get addrs s ≡ Some (Some addr) → after ≡ remove_entry (nat_eq s) es ++ (s, None) ∷ []
      → cached (length (set addrs s None)) (nodes_in after) ≡ cached (length addrs) (without addr (nodes_in es))
  cached_after_forget addr tied listed is =
      let kept : nodes_in after ≡ without addr (nodes_in es) = ap nodes_in is ∙ kept_forgotten s addr es addrs tied listed in
      let size = length-set addrs s None in
      λ i. cached (size i) (kept i)

-- where nothing of an address is kept, nothing is forgotten
pub cached_as_before : (addr : ℕ) (es : List (ℕ × Option CachedNode)) (addrs : List (Option ℕ)) → IsTied es addrs → IsUnlisted addrs addr → cached (length addrs) (nodes_in es) ≡ cached (length addrs) (without addr (nodes_in es))
cached_as_before addr es addrs tied unlisted = ap (cached (length addrs)) (sym (without-none addr (nodes_in es) (none_listed addrs addr es unlisted tied.listed)))

-- ---- a node is looked up

contains_at_slot : (s : ℕ) (k : CachedNode) (es : List (ℕ × Option CachedNode)) → lookup (nat_eq s) es ≡ Some (Some k) → Contains (nodes_in es) k
contains_at_slot s k [] found = cc
contains_at_slot s k ((t, None) ∷ es) found = elim (eqb_tells s t) [
  | inl same ↦ let found' = rw same.0 at found in cc
  | inr other ↦ contains_at_slot s k es (rw other.0 at found)
]
contains_at_slot s k ((t, Some j) ∷ es) found = elim (eqb_tells s t) [
  | inl same ↦ let found' = rw same.0 at found in let e : j ≡ k = cc in subst (Contains (j ∷ nodes_in es)) e (Contains-head j (nodes_in es))
  | inr other ↦ Contains-tail j (nodes_in es) k (contains_at_slot s k es (rw other.0 at found))
]

-- of nodes that are apart only one has an address
one_of_apart : (ks : List CachedNode) (a b : CachedNode) → AreApart ks → Contains ks a → Contains ks b → a.addr ≡ b.addr → a ≡ b
one_of_apart [] a b apart in' too same = absurd (Contains-nil a in')
one_of_apart (k ∷ ks) a b apart in' too same = elim (Contains-cons k ks a in') [
  | inl first ↦ elim (Contains-cons k ks b too) [
    | inl second ↦ sym first ∙ second
    | inr later ↦ absurd (All-contains (λ (j : CachedNode). j.addr ≢ k.addr) ks b apart.0 later (sym same ∙ sym (ap (λ (j : CachedNode). j.addr) first)))
  ]
  | inr earlier ↦ elim (Contains-cons k ks b too) [
    | inl second ↦ absurd (All-contains (λ (j : CachedNode). j.addr ≢ k.addr) ks a apart.0 earlier (same ∙ sym (ap (λ (j : CachedNode). j.addr) second)))
    | inr later ↦ one_of_apart ks a b apart.1 earlier later same
  ]
]

promoted_at : (s : ℕ) (v : Option CachedNode) (es : List (ℕ × Option CachedNode)) → lookup (nat_eq s) es ≡ Some v → promoted (nat_eq s) es ≡ (s, v) ∷ remove_entry (nat_eq s) es
promoted_at s v es found =
    let some : IsSome (lookup (nat_eq s) es) = rw found refl in
    let e = entry_at s es some in
    let same : e.0 ≡ v = cc (found, e.2) in
    rw e.1 (ap (λ w. (s, w) ∷ remove_entry (nat_eq s) es) same)

module _ (es after : List (ℕ × Option CachedNode)) (addrs : List (Option ℕ)) (s addr : ℕ) (key : List ℕ) (k : CachedNode) where
  own_address : IsTied es addrs → slice_get addrs s ≡ Some (Some addr) → lookup (nat_eq s) es ≡ Some (Some k) → k.addr ≡ addr
  own_address tied listed found = let e : Some (Some k.addr) ≡ Some (Some addr) = sym (listed_at addrs s (Some k) es tied.listed found) ∙ listed in cc

  pub tied_after_use : IsTied es addrs → slice_get addrs s ≡ Some (Some addr) → lookup (nat_eq s) es ≡ Some (Some k) → after ≡ promoted (nat_eq s) es → IsDistinct nat_eq (keys_of after) → IsTied after addrs
  tied_after_use tied listed found is distinct =
      let is' = is ∙ promoted_at s (Some k) es found in
      let none = subst (HasNone k.addr) (sym (nodes_in-remove s k es found tied.apart)) (none-without k.addr (nodes_in es)) in
      subst (λ (l : List (ℕ × Option CachedNode)). IsTied l addrs) (sym is')
      (tied_full s k es addrs addrs tied (slice_get_within addrs s (Some addr) listed) (subst (λ (l : List (ℕ × Option CachedNode)). IsDistinct nat_eq (keys_of l)) is' distinct) refl (listed_at addrs s (Some k) es tied.listed found) (λ t other. refl) none)

  pub uses_after : IsTied es addrs → slice_get addrs s ≡ Some (Some addr) → lookup (nat_eq s) es ≡ Some (Some k) → k.key ≡ key → after ≡ promoted (nat_eq s) es
      → Uses (cached (length addrs) (nodes_in es)) addr key (Some k.node) (cached (length addrs) (nodes_in after))
  uses_after tied listed found keyed is =
      let a = own_address tied listed found in
      let same : k ≡ cached_node addr key k.node = (λ i. cached_node (a i) (keyed i) k.node) in
      let front : nodes_in after ≡ k ∷ without k.addr (nodes_in es) = ap nodes_in (is ∙ promoted_at s (Some k) es found) ∙ ap (λ r. k ∷ r) (nodes_in-remove s k es found tied.apart) in
      let kept : nodes_in after ≡ cached_node addr key k.node ∷ without addr (nodes_in es) = front ∙ (λ i. same i ∷ without (a i) (nodes_in es)) in
      let here = subst (Contains (nodes_in es)) same (contains_at_slot s k es found) in
      let only = λ (other : NodeBody) (too : IsCached (nodes_in es) addr key other). ap (λ (j : CachedNode). j.node) (one_of_apart (nodes_in es) (cached_node addr key other) (cached_node addr key k.node) tied.apart too here refl) in
      (record { here = here; only = only }, ap (cached (length addrs)) kept)

-- the node in the slot of an address is the one that is cached for it
pub only_at_slot : (es : List (ℕ × Option CachedNode)) (addrs : List (Option ℕ)) (s addr : ℕ) (key : List ℕ) (k : CachedNode) → IsTied es addrs → slice_get addrs s ≡ Some (Some addr)
    → lookup (nat_eq s) es ≡ Some (Some k) → k.key ≡ key → IsOnlyCached (nodes_in es) addr key k.node
only_at_slot es addrs s addr key k tied listed found keyed = (uses_after es (promoted (nat_eq s) es) addrs s addr key k tied listed found keyed refl).0

-- nothing is found where the address has no slot
pub none_unlisted : (es : List (ℕ × Option CachedNode)) (addrs : List (Option ℕ)) (addr : ℕ) (key : List ℕ) → IsTied es addrs → IsUnlisted addrs addr → (node : NodeBody) → IsCached (nodes_in es) addr key node → ⊥
none_unlisted es addrs addr key tied unlisted node kept =
    All-contains (λ (j : CachedNode). j.addr ≢ addr) (nodes_in es) (cached_node addr key node) (none_listed addrs addr es unlisted tied.listed) kept refl

-- or where that has a node under another key
pub none_under_key : (es : List (ℕ × Option CachedNode)) (addrs : List (Option ℕ)) (s addr : ℕ) (key : List ℕ) → IsTied es addrs → slice_get addrs s ≡ Some (Some addr)
    → ¬ ((k : CachedNode) × (lookup (nat_eq s) es ≡ Some (Some k)) × (k.key ≡ key)) → (node : NodeBody) → IsCached (nodes_in es) addr key node → ⊥
none_under_key es addrs s addr key tied listed other node kept =
    let j = slot_of_addr s addr es addrs tied listed in
    let same : j.0 ≡ cached_node addr key node = one_of_apart (nodes_in es) j.0 (cached_node addr key node) tied.apart (contains_at_slot s j.0 es j.1) kept j.2 in
    other (j.0, j.1, ap (λ (k : CachedNode). k.key) same)

-- ---- the first node

-- the slot that was used last has the first node, if there is one
pub first_slot : (es : List (ℕ × Option CachedNode)) (k : CachedNode) (ks : List CachedNode) (e : ℕ × Option CachedNode) → IsFullFirst es → nodes_in es ≡ k ∷ ks → slice_get es 0 ≡ Some e → e.1 ≡ Some k
first_slot [] k ks e first kept at = cc
first_slot ((t, None) ∷ es) k ks e first kept at = let no_node : [] ≡ k ∷ ks = sym first ∙ kept in cc
first_slot ((t, Some j) ∷ es) k ks e first kept at = let same : j ≡ k = cc in let e' : (t, Some j) ≡ e = cc in sym (ap (λ (p : ℕ × Option CachedNode). p.1) e') ∙ ap Some same

pub some_slot : (es : List (ℕ × Option CachedNode)) (k : CachedNode) (ks : List CachedNode) → nodes_in es ≡ k ∷ ks → slice_get es 0 ≡ None → ⊥
some_slot [] k ks kept at = cc
some_slot (e ∷ es) k ks kept at = cc

-- where it has one it is the first, and where it has none there is none
pub first_of : (es : List (ℕ × Option CachedNode)) (e : ℕ × Option CachedNode) (k : CachedNode) → slice_get es 0 ≡ Some e → e.1 ≡ Some k → (others : List CachedNode) × (nodes_in es ≡ k ∷ others)
first_of [] e k at is = absurd (let no : None ≡ Some e = at in cc)
first_of ((t, None) ∷ es) e k at is = absurd (let e' : (t, None) ≡ e = cc in let no : None ≡ Some k = ap (λ (p : ℕ × Option CachedNode). p.1) e' ∙ is in cc)
first_of ((t, Some j) ∷ es) e k at is = let e' : (t, Some j) ≡ e = cc in let s : Some j ≡ Some k = ap (λ (p : ℕ × Option CachedNode). p.1) e' ∙ is in let same : j ≡ k = cc in (nodes_in es, ap (λ (n : CachedNode). n ∷ nodes_in es) same)

pub none_first : (es : List (ℕ × Option CachedNode)) → slice_get es 0 ≡ None → nodes_in es ≡ []
none_first [] at = refl
none_first (e ∷ es) at = cc

pub none_in_first : (es : List (ℕ × Option CachedNode)) (e : ℕ × Option CachedNode) → IsFullFirst es → slice_get es 0 ≡ Some e → e.1 ≡ None → nodes_in es ≡ []
none_in_first [] e first at is = refl
none_in_first ((t, None) ∷ es) e first at is = first
none_in_first ((t, Some j) ∷ es) e first at is = let e' : (t, Some j) ≡ e = cc in let no : Some j ≡ None = ap (λ (p : ℕ × Option CachedNode). p.1) e' ∙ is in cc
