-- The certificate of a tree with changes.
use Rattle.std.proofs.Common.{◌≡◌, ◌≢◌, ◌⊎◌, inl, inr, ℕ, zero, suc, ◌<◌, ◌≤◌, List, [], ◌∷◌, ◌++◌, All, length, refl, sym, ap, subst, ◌∙◌, arith}
use Rattle.std.specs.Prelude.{Contains, None, Some}
use Rattle.std.proofs.lemmas.Bool.{cases_eq, eq-eqb, ne_eqb}
use Rattle.std.proofs.lemmas.Option.{none-some}
use Rattle.std.proofs.lemmas.List.Elements.{All-head, All-weaker, All-contains, All-contains_itself, Contains-append_left, Contains-append_right, Contains-append_cases}
use Rattle.std.proofs.lemmas.List.Sorted.{IsPermutation-sym, Contains-permutation}
use Rattle.platform.specs.Image.{Image}
use Rattle.sdbt_base.specs.Traces.{Traced, DataOf, NodeOver}
use Rattle.sdbt_base.specs.declared.lists.Unkept.{Unkept}
use Rattle.key_graph.specs.Trace.{Has}
use Rattle.root_codec.specs.declared.root.Root.{Root}
use Rattle.page_store.specs.Tree.{Parts, Place, Subtree, joined}
use Rattle.page_store.proofs.ApartLaws.{all_left, all_right}
use Rattle.cert_maker.specs.Differ.{Differ}
use Rattle.cert_maker.specs.Trace.{entries_of}
use Rattle.cert_maker.proofs.SaidLaws.{said, says, silent, known_in}
use Rattle.btree_twigs.specs.Stubs.{Stub}
use Rattle.btree_walk.proofs.OrderLaws.{subtree_up_to}
use Rattle.btree_update.specs.declared.groves.Grove.{Grove}
use Rattle.btree_update.specs.Groves.{places_of}
use Rattle.btree_update.specs.GroveTree.{want_in}
use Rattle.grove_accounts.specs.Below.{HaveParts}
use Rattle.grove_accounts.specs.Accounts.{IsOwn, LacksAddress, HasAddress}
use Rattle.grove_accounts.specs.Holding.{HoldsTree}
use Rattle.grove_accounts.specs.Certs.{told, told_stub, page_at, IsOwnStub, AreWritten, AddsNodes, IsSealedTree}
use Rattle.grove_accounts.proofs.PartsLaws.{IsInner}

-- ---- what places say of an address

-- a place has its address
not_silent : (places : List Place) (p : Place) → Contains places p → entries_of places p.addr ≡ None → ⊥
not_silent [] p (i, within, is) none = omega (arith, within)
not_silent (q ∷ qs) p has none = elim (cases_eq q.addr p.addr) [
  | inl same ↦ none-some q.trace (sym none ∙ rw (eq-eqb q.addr p.addr same) refl)
  | inr other ↦ behind has other (not_silent qs p)
]
  where
    behind : Contains (q ∷ qs) p → q.addr ≢ p.addr → (Contains qs p → entries_of qs p.addr ≡ None → ⊥) → ⊥
    behind (zero, within, is) other rest = other (ap (λ (y : Place). y.addr) is)
    behind (suc i, within, is) other rest = rest (i, omega (arith, within), is) (sym (rw (ne_eqb q.addr p.addr other) refl) ∙ none)

-- ---- a tree's own data records

abbrev pub IsOldNode : ℕ → Place → Type 0
IsOldNode head p = IsInner p → p.addr < head

-- what stands below a place that is no data record came before the root record
pub old_below : (pages : List (List ℕ)) (order top head level : ℕ) (s : Stub) (q : Parts) → Subtree pages order (suc level) (want_in order top s) s.key q → All (IsOldNode head) q.places → All (λ p. p.addr < head) q.places
unfolding Subtree
old_below pages order top head level s q h old =
    let up = subtree_up_to pages order (suc level) (want_in order top s) s.key q h in
    let first = All-head (IsOldNode head) _ (joined h.children).places (subst (λ (x : Parts). All (IsOldNode head) x.places) h.has old) in
    All-weaker (λ (p : Place). p.addr ≤ s.addr) (λ p. p.addr < head) (λ p le. omega (arith, le, first (_, refl))) q.places up

one_own : (pages : List (List ℕ)) (order top head level : ℕ) (s : Stub) (q : Parts) (p : Place) → s.level ≡ level → Subtree pages order level (want_in order top s) s.key q → All (IsOldNode head) q.places → Contains q.places p → head ≤ p.addr →
    IsOwnStub head s × (told p ≡ told_stub s)
unfolding Subtree
one_own pages order top head (suc level) s q p is h old has own = absurd (let less = All-contains (λ p. p.addr < head) q.places p (old_below pages order top head level s q h old) has in omega (arith, less, own))
one_own pages order top head zero s q p is h old has own = only (subst (λ (x : Parts). Contains x.places p) h.has has)
  where
    only : Contains (record { addr = s.addr; key = s.key; trace = DataOf s.low } ∷ []) p → IsOwnStub head s × (told p ≡ told_stub s)
    only (zero, within, same) = (record { level = is; after = omega (arith, own, ap (λ (x : Place). x.addr) same) }, λ i. told (sym same i))
    only (suc i, within, same) = absurd (omega (arith, within))

-- a place that came after the root record is that of a data record in a leaf in memory
own_stub : (pages : List (List ℕ)) (order top head : ℕ) (ss : List Stub) (each : List Parts) (p : Place) → HaveParts pages order top ss each → All (IsOldNode head) (joined each).places → Contains (joined each).places p → head ≤ p.addr →
    (s : Stub) × Contains ss s × IsOwnStub head s × (told p ≡ told_stub s)
own_stub pages order top head [] [] p h old (i, within, is) own = absurd (omega (arith, within))
own_stub pages order top head [] (q ∷ qs) p h old has own = absurd h
own_stub pages order top head (s ∷ ss) [] p h old has own = absurd h
own_stub pages order top head (s ∷ ss) (q ∷ qs) p h old has own = elim (Contains-append_cases q.places (joined qs).places p has) [
  | inl here ↦ (let one = one_own pages order top head s.level s q p refl h.0 (all_left (IsOldNode head) q.places (joined qs).places old) here own in (s, (0, omega arith, refl), one.0, one.1))
  | inr there ↦ (let rest = own_stub pages order top head ss qs p h.1 (all_right (IsOldNode head) q.places (joined qs).places old) there own in (rest.0, Contains-append_right (s ∷ []) ss rest.0 rest.1, rest.2, rest.3))
]

one_place : (pages : List (List ℕ)) (order top : ℕ) (level : ℕ) (s : Stub) (q : Parts) → level ≡ zero → Subtree pages order level (want_in order top s) s.key q → (p : Place) × Contains q.places p × (told p ≡ told_stub s)
unfolding Subtree
one_place pages order top zero s q is h =
    let here : Place = record { addr = s.addr; key = s.key; trace = DataOf s.low } in
    (here, subst (λ (x : Parts). Contains x.places here) (sym h.has) (0, omega arith, refl), refl)
one_place pages order top (suc level) s q is h = absurd (omega (arith, is))

-- and there is one
stub_place : (pages : List (List ℕ)) (order top : ℕ) (ss : List Stub) (each : List Parts) (s : Stub) → HaveParts pages order top ss each → Contains ss s → s.level ≡ 0 → (p : Place) × Contains (joined each).places p × (told p ≡ told_stub s)
stub_place pages order top [] each s h (i, within, is) level = absurd (omega (arith, within))
stub_place pages order top (t ∷ ss) [] s h has level = absurd h
stub_place pages order top (t ∷ ss) (q ∷ qs) s h (zero, within, is) level =
    let one = one_place pages order top t.level t q (ap (λ (x : Stub). x.level) is ∙ level) h.0 in
    (one.0, Contains-append_left q.places (joined qs).places one.0 one.1, one.2 ∙ ap told_stub is)
stub_place pages order top (t ∷ ss) (q ∷ qs) s h (suc i, within, is) level =
    let rest = stub_place pages order top ss qs s h.1 (i, omega (arith, within), is) level in
    (rest.0, Contains-append_right q.places (joined qs).places rest.0 rest.1, rest.2)

-- ---- the two trees

pub old_nodes : (image : Image) (root : Root) (committed : List Place) (grove : Grove) (each : List Parts) → HoldsTree image root committed grove each → All (IsOldNode root.head) (joined each).places
old_nodes image root committed grove each h =
    All-weaker (λ p. Contains committed p ⊎ IsOwn root.head p) (IsOldNode root.head) one (joined each).places h.accounted.accounts.kept
  where
    differ : (block : ℕ) (children : List ℕ) → NodeOver children ≡ DataOf block → ⊥
    differ block children is = cc

    one : (p : Place) → Contains committed p ⊎ IsOwn root.head p → IsOldNode root.head p
    one p (inl has) node = All-contains (λ q. q.addr < root.head) committed p h.within has
    one p (inr own) node = absurd (differ own.block node.0 (sym node.1 ∙ own.is))

-- what the two trees differ by: the certificate of the commit
pub cert_differs : (image : Image) (root : Root) (committed : List Place) (grove : Grove) (each : List Parts) (nodes after : List Place) (added : List Traced) (pages : List Unkept) → HoldsTree image root committed grove each → root.head ≤ length image.recorded →
    IsSealedTree image each nodes after → AddsNodes root.head nodes (places_of grove) added → AreWritten root.head (places_of grove) grove.never.items pages →
    Differ (entries_of committed) (entries_of after) pages added grove.gone.items grove.never.items
cert_differs image root committed grove each nodes after added pages h more sealed adds written =
    let now = (joined each).places in
    let acc = h.accounted.accounts in
    let old = old_nodes image root committed grove each h in
    let to_after : (p : Place) → Contains (nodes ++ now) p → Contains after p = λ p has. Contains-permutation (nodes ++ now) after p sealed.same has in
    let from_after : (p : Place) → Contains after p → Contains (nodes ++ now) p = λ p has. Contains-permutation after (nodes ++ now) p (IsPermutation-sym (nodes ++ now) after sealed.same) has in
    let tells : (p : Place) → Contains after p → entries_of after p.addr ≡ Some p.trace = λ p has. says after has.0 p sealed.apart has.1 has.2 in
    let unknown : (addr : ℕ) → root.head ≤ addr → entries_of committed addr ≡ None = λ addr high. silent committed addr (All-weaker (λ p. p.addr < root.head) (λ p. p.addr ≢ addr) (λ p less same. absurd (omega (arith, less, same, high))) committed h.within) in
    let gone_from : (addr : ℕ) → addr < length image.recorded → LacksAddress now addr → entries_of after addr ≡ None = λ addr low none.
    silent after addr (All-weaker (Contains after) (λ p. p.addr ≢ addr) (λ p has. elim (Contains-append_cases nodes now p (from_after p has)) [
      | inl fresh ↦ (λ same. absurd (let new = All-contains (λ p. length image.recorded ≤ p.addr) nodes p sealed.new fresh in omega (arith, new, same, low)))
      | inr stays ↦ All-contains (λ p. p.addr ≢ addr) now p none stays
    ]) after (All-contains_itself after)) in
    record {
      in_new = λ t. (
        λ has. elim (All-contains (λ t. ((p : Place) × Contains nodes p × (t ≡ told p)) ⊎ ((s : Stub) × Contains (places_of grove) s × IsOwnStub root.head s × (t ≡ told_stub s))) added t adds.only has) [
          | inl node ↦ subst (λ (u : Traced). (entries_of after u.addr ≡ Some u.trace) × (entries_of committed u.addr ≡ None)) (sym node.2)
              (tells node.0 (to_after node.0 (Contains-append_left nodes now node.0 node.1)), unknown node.0.addr (let new = All-contains (λ p. length image.recorded ≤ p.addr) nodes node.0 sealed.new node.1 in omega (arith, new, more)))
          | inr own ↦ (
              let there = stub_place image.readable grove.order grove.level (places_of grove) each own.0 h.has own.1 own.2.level in
              let same : t ≡ told there.0 = own.3 ∙ sym there.2 in
              let at : there.0.addr ≡ own.0.addr = ap (λ (u : Traced). u.addr) there.2 in
              subst (λ (u : Traced). (entries_of after u.addr ≡ Some u.trace) × (entries_of committed u.addr ≡ None)) (sym same)
              (tells there.0 (to_after there.0 (Contains-append_right nodes now there.0 there.1)), unknown there.0.addr (let late = own.2.after in omega (arith, at, late))))
        ],
        λ both.
            let p = said after t.addr t.trace both.0 in
            let same : told p.0 ≡ t = traced_as p.0 t p.2 p.3 in
            elim (Contains-append_cases nodes now p.0 (from_after p.0 p.1)) [
              | inl fresh ↦ subst (Contains added) same (All-contains (λ p. Contains added (told p)) nodes p.0 adds.nodes_are fresh)
              | inr stays ↦ elim (All-contains (λ p. Contains committed p ⊎ IsOwn root.head p) now p.0 acc.kept stays) [
                | inl was ↦ absurd (not_silent committed p.0 was (ap (λ n. entries_of committed n) p.2 ∙ both.1))
                | inr own ↦ (let s = own_stub image.readable grove.order grove.level root.head (places_of grove) each p.0 h.has old stays own.after in subst (Contains added) (sym s.3 ∙ same) (adds.own s.0 s.1 s.2))
              ]
            ],
      );
      in_old = λ addr. (
        λ has.
            let is = All-contains (λ addr. HasAddress committed addr × LacksAddress now addr) grove.gone.items addr acc.gone_are has in
            let low = All-contains (λ q. q.addr < root.head) committed is.0.0 h.within is.0.1 in (
              known addr is.0,
              gone_from addr (omega (arith, low, is.0.2, more)) is.1,
            ),
        λ both.
            let p = said committed addr both.0.trace both.0.is in
            elim (All-contains (λ p. Contains now p ⊎ Contains grove.gone.items p.addr) committed p.0 acc.left p.1) [
              | inl there ↦ absurd (not_silent after p.0 (to_after p.0 (Contains-append_right nodes now p.0 there)) (ap (λ n. entries_of after n) p.2 ∙ both.1))
              | inr gone ↦ subst (Contains grove.gone.items) p.2 gone
            ],
      );
      in_neither = λ page. (
        λ has.
            let is = All-contains (λ (page : Unkept). (root.head ≤ page.addr) × (page.addr < length image.recorded) × LacksAddress now page.addr) grove.never.items page acc.never_are has in (
              All-contains (Contains pages) grove.never.items page written.unnamed has,
              unknown page.addr is.0,
              gone_from page.addr is.1 is.2,
            ),
        λ all. elim (All-contains (λ page. Contains grove.never.items page ⊎ ((s : Stub) × Contains (places_of grove) s × IsOwnStub root.head s × (page ≡ page_at s))) pages page written.only all.0) [
          | inl never ↦ never
          | inr own ↦ absurd (
              let there = stub_place image.readable grove.order grove.level (places_of grove) each own.0 h.has own.1 own.2.level in
              let at : there.0.addr ≡ page.addr = ap (λ (u : Traced). u.addr) there.2 ∙ sym (ap (λ (p : Unkept). p.addr) own.3) in
              not_silent after there.0 (to_after there.0 (Contains-append_right nodes now there.0 there.1)) (ap (λ n. entries_of after n) at ∙ all.2))
        ],
      );
    }
  where
    traced_as : (p : Place) (t : Traced) → p.addr ≡ t.addr → p.trace ≡ t.trace → told p ≡ t
    traced_as p t at is = λ i. record { addr = at i; trace = is i }

    known : (addr : ℕ) → HasAddress committed addr → Has (entries_of committed) addr
    known addr has = subst (Has (entries_of committed)) has.2 (known_in committed has.0 has.1)
