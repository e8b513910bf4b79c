-- The data records that a tree wrote itself, over an update.
use Rattle.std.proofs.Common.{◌≡◌, ◌⊎◌, inl, inr, ℕ, zero, suc, ◌<◌, ◌≤◌, List, [], ◌∷◌, ◌++◌, All, map, refl, sym, ap, subst, arith}
use Rattle.std.specs.Prelude.{Contains, Option, None, Some}
use Rattle.std.specs.List.{AllByRecursion}
use Rattle.std.proofs.lemmas.Bool.{cases_lt}
use Rattle.std.proofs.lemmas.List.Elements.{All-nil, All-cons, All-append, All-head, All-tail, All-weaker, All-contains, All-contains_itself, Contains-append_left, Contains-append_right, Contains-append_cases}
use Rattle.sdbt_base.specs.declared.lists.Unkept.{Unkept}
use Rattle.platform.specs.Image.{Image}
use Rattle.node_codec.specs.declared.body.Entry.{Entry}
use Rattle.root_codec.specs.declared.root.Root.{Root}
use Rattle.page_store.specs.Tree.{Parts, Place, Subtree, joined}
use Rattle.page_store.proofs.ApartLaws.{all_left, all_right}
use Rattle.btree_twigs.specs.Stubs.{Stub, Puts, Takes, datum}
use Rattle.btree_update.specs.declared.groves.Grove.{Grove}
use Rattle.btree_update.specs.GroveTree.{stubs_at, want_in}
use Rattle.btree_update.specs.Held.{stub_at}
use Rattle.btree_update.specs.Opens.{Opens, Same, Here, Within, Then}
use Rattle.btree_update.specs.Groves.{LetsGo, places_of}
use Rattle.btree_update.proofs.Readings.{read_same}
use Rattle.grove_accounts.specs.Below.{HaveParts}
use Rattle.grove_accounts.specs.Holding.{HoldsTree, Turns}
use Rattle.grove_accounts.specs.Certs.{IsOwnStub, page_at, AreWritten}
use Rattle.grove_accounts.proofs.ListLaws.{each_left, each_right, each_append}
use Rattle.grove_accounts.proofs.CertLaws.{IsOldNode, old_nodes}
use Rattle.grove_accounts.proofs.PlaceLaws.{IsPlaceOf, mid_at}

-- a place that is no data record came before the root record
abbrev pub IsOldStub : ℕ → Stub → Type 0
IsOldStub head s = 1 ≤ s.level → s.addr < head

one_old : (pages : List (List ℕ)) (order top head level : ℕ) (s : Stub) (q : Parts) → s.level ≡ level → Subtree pages order level (want_in order top s) s.key q → All (IsOldNode head) q.places → IsOldStub head s
unfolding Subtree
one_old pages order top head zero s q is h old = λ one. absurd (omega (arith, one, is))
one_old pages order top head (suc level) s q is h old = λ one. All-head (IsOldNode head) _ (joined h.children).places (subst (λ (x : Parts). All (IsOldNode head) x.places) h.has old) (_, refl)

stubs_old : (pages : List (List ℕ)) (order top head : ℕ) (ss : List Stub) (each : List Parts) → HaveParts pages order top ss each → All (IsOldNode head) (joined each).places → AllByRecursion (IsOldStub head) ss
stubs_old pages order top head [] [] h old = tt
stubs_old pages order top head [] (q ∷ qs) h old = absurd h
stubs_old pages order top head (s ∷ ss) [] h old = absurd h
stubs_old pages order top head (s ∷ ss) (q ∷ qs) h old =
    (one_old pages order top head s.level s q refl h.0 (all_left (IsOldNode head) q.places (joined qs).places old), stubs_old pages order top head ss qs h.1 (all_right (IsOldNode head) q.places (joined qs).places old))

at_low : (level high head bound : ℕ) (es : List Entry) (s : Stub) → bound ≤ head → All (λ e. e.addr < bound) es → Contains (stubs_at level high es) s → s.addr < head
at_low zero high head bound [] s le all (i, within, is) = absurd (omega (arith, within))
at_low (suc level) high head bound [] s le all (i, within, is) = absurd (omega (arith, within))
at_low zero high head bound (e ∷ es) s le all (zero, within, is) = let here = All-head (λ (e : Entry). e.addr < bound) e es all in let at = ap (λ (t : Stub). t.addr) is in omega (arith, here, at, le)
at_low zero high head bound (e ∷ es) s le all (suc i, within, is) = at_low zero high head bound es s le (All-tail (λ (e : Entry). e.addr < bound) e es all) (i, omega (arith, within), is)
at_low (suc level) high head bound (e ∷ es) s le all (zero, within, is) = let here = All-head (λ (e : Entry). e.addr < bound) e es all in let at = ap (λ (t : Stub). t.addr) is in omega (arith, here, at, le)
at_low (suc level) high head bound (e ∷ es) s le all (suc i, within, is) = at_low (suc level) high head bound es s le (All-tail (λ (e : Entry). e.addr < bound) e es all) (i, omega (arith, within), is)

each_low : (level high head bound : ℕ) (es : List Entry) → bound ≤ head → All (λ e. e.addr < bound) es → AllByRecursion (IsOldStub head) (stubs_at level high es)
each_low zero high head bound [] le all = tt
each_low (suc level) high head bound [] le all = tt
each_low zero high head bound (e ∷ es) le all = ((λ one. absurd (omega (arith, one))), each_low zero high head bound es le (All-tail (λ (e : Entry). e.addr < bound) e es all))
each_low (suc level) high head bound (e ∷ es) le all =
    ((λ one. let here = All-head (λ (e : Entry). e.addr < bound) e es all in omega (arith, here, le)), each_low (suc level) high head bound es le (All-tail (λ (e : Entry). e.addr < bound) e es all))

-- opening leaves only old nodes
opens_old : (pages : List (List ℕ)) (order head : ℕ) (places old new : List Stub) → Opens pages order places old new → AllByRecursion (IsOldStub head) old → AllByRecursion (IsOldStub head) new
opens_old pages order head places old new Same h = h
opens_old pages order head places old new (Here {below = below} {low = low} {high = high} {addr = addr} {key = key} {twig = twig} r) h =
    let less = h.0 (omega arith) in
    subst (AllByRecursion (IsOldStub head)) (sym (read_same pages order below (stub_at (suc below) low high addr key) twig r)) (each_low below high head addr r.entries (omega (arith, less)) r.here.in_range.0.below)
opens_old pages order head places old new (Within {places = first} {old = xs} {new = ys} fs bs o) h =
    each_append (IsOldStub head) fs (ys ++ bs) (each_left (IsOldStub head) fs (xs ++ bs) h)
    (each_append (IsOldStub head) ys bs (opens_old pages order head first xs ys o (each_left (IsOldStub head) xs bs (each_right (IsOldStub head) fs (xs ++ bs) h))) (each_right (IsOldStub head) xs bs (each_right (IsOldStub head) fs (xs ++ bs) h)))
opens_old pages order head places old new (Then {first = first} {second = second} {old = xs} {mid = mid} {new = ys} o p) h = opens_old pages order head second mid ys p (opens_old pages order head first xs mid o h)

-- a data record of the tree's own was there before the opening
opens_own : (pages : List (List ℕ)) (order head : ℕ) (places old new : List Stub) (s : Stub) → Opens pages order places old new → AllByRecursion (IsOldStub head) old → IsOwnStub head s → Contains new s → Contains old s
opens_own pages order head places old new s Same h own has = has
opens_own pages order head places old new s (Here {below = below} {low = low} {high = high} {addr = addr} {key = key} {twig = twig} r) h own has =
    let less = h.0 (omega arith) in
    let low_is = at_low below high head addr r.entries s (omega (arith, less)) r.here.in_range.0.below (subst (λ ss. Contains ss s) (read_same pages order below (stub_at (suc below) low high addr key) twig r) has) in
    absurd (let late = own.after in omega (arith, low_is, late))
opens_own pages order head places old new s (Within {places = first} {old = xs} {new = ys} fs bs o) h own has = elim (Contains-append_cases fs (ys ++ bs) s has) [
  | inl front ↦ Contains-append_left fs (xs ++ bs) s front
  | inr rest ↦ elim (Contains-append_cases ys bs s rest) [
    | inl mid ↦ Contains-append_right fs (xs ++ bs) s (Contains-append_left xs bs s (opens_own pages order head first xs ys s o (each_left (IsOldStub head) xs bs (each_right (IsOldStub head) fs (xs ++ bs) h)) own mid))
    | inr back ↦ Contains-append_right fs (xs ++ bs) s (Contains-append_right xs bs s back)
  ]
]
opens_own pages order head places old new s (Then {first = first} {second = second} {old = xs} {mid = mid} {new = ys} o p) h own has =
    opens_own pages order head first xs mid s o h own (opens_own pages order head second mid ys s p (opens_old pages order head first xs mid o h) own has)

tree_old : (image : Image) (root : Root) (committed : List Place) (grove : Grove) (each : List Parts) → HoldsTree image root committed grove each → AllByRecursion (IsOldStub root.head) (places_of grove)
tree_old image root committed grove each h = stubs_old image.readable grove.order grove.level root.head (places_of grove) each h.has (old_nodes image root committed grove each h)

-- after an insertion the tree's own data records are those before, and the new one
pub insertion_own : (image : Image) (root : Root) (committed : List Place) (old new : Grove) (each : List Parts) (block addr : ℕ) (key : List ℕ) (May : Stub → Type 0) → HoldsTree image root committed old each →
    Turns image.readable block May (λ opened. Puts 0 old.blocks (datum block addr key) opened (places_of new)) old new → (s : Stub) → IsOwnStub root.head s → Contains (places_of new) s → (s ≡ datum block addr key) ⊎ Contains (places_of old) s
insertion_own image root committed old new each block addr key May h g s own has =
    let p = g.makes in
    let before : Contains g.opened s → Contains (places_of old) s = opens_own image.readable old.order root.head g.places (places_of old) g.opened s g.opens (tree_old image root committed old each h) own in
    let back : Contains (p.front ++ (p.mid ++ p.back)) s → Contains (places_of old) s = λ there. before (subst (λ ss. Contains ss s) (sym p.was) there) in
    elim (Contains-append_cases p.front (datum block addr key ∷ p.back) s (subst (λ ss. Contains ss s) p.now has)) [
      | inl front ↦ inr (back (Contains-append_left p.front (p.mid ++ p.back) s front))
      | inr rest ↦ elim (Contains-append_cases (datum block addr key ∷ []) p.back s rest) [
        | inl here ↦ inl (one here)
        | inr behind ↦ inr (back (Contains-append_right p.front (p.mid ++ p.back) s (Contains-append_right p.mid p.back s behind)))
      ]
    ]
  where
    one : Contains (datum block addr key ∷ []) s → s ≡ datum block addr key
    one (zero, within, is) = sym is
    one (suc i, within, is) = absurd (omega (arith, within))

-- after a removal they are among those before
pub removal_own : (image : Image) (root : Root) (committed : List Place) (old new : Grove) (each : List Parts) (block : ℕ) (May : Stub → Type 0) → HoldsTree image root committed old each →
    Turns image.readable block May (λ opened. Takes 0 old.blocks block opened (places_of new)) old new → (s : Stub) → IsOwnStub root.head s → Contains (places_of new) s → Contains (places_of old) s
removal_own image root committed old new each block May h g s own has =
    let p = g.makes in
    let before : Contains g.opened s → Contains (places_of old) s = opens_own image.readable old.order root.head g.places (places_of old) g.opened s g.opens (tree_old image root committed old each h) own in
    let back : Contains (p.front ++ (p.mid ++ p.back)) s → Contains (places_of old) s = λ there. before (subst (λ ss. Contains ss s) (sym p.was) there) in
    elim (Contains-append_cases p.front p.back s (subst (λ ss. Contains ss s) p.now has)) [
      | inl front ↦ back (Contains-append_left p.front (p.mid ++ p.back) s front)
      | inr behind ↦ back (Contains-append_right p.front (p.mid ++ p.back) s (Contains-append_right p.mid p.back s behind))
    ]

-- ---- the pages that were written

-- a data record of the tree's own is there after an opening too
opens_keep : (pages : List (List ℕ)) (order head : ℕ) (places old new : List Stub) (s : Stub) → Opens pages order places old new → IsOwnStub head s → Contains old s → Contains new s
opens_keep pages order head places old new s Same own has = has
opens_keep pages order head places old new s (Here {below = below} {low = low} {high = high} {addr = addr} {key = key} {twig = twig} r) own has = absurd (one has)
  where
    one : Contains (stub_at (suc below) low high addr key ∷ []) s → ⊥
    one (zero, within, is) = let level = ap (λ (t : Stub). t.level) is in omega (arith, level, own.level)
    one (suc i, within, is) = omega (arith, within)
opens_keep pages order head places old new s (Within {places = first} {old = xs} {new = ys} fs bs o) own has = elim (Contains-append_cases fs (xs ++ bs) s has) [
  | inl front ↦ Contains-append_left fs (ys ++ bs) s front
  | inr rest ↦ elim (Contains-append_cases xs bs s rest) [
    | inl mid ↦ Contains-append_right fs (ys ++ bs) s (Contains-append_left ys bs s (opens_keep pages order head first xs ys s o own mid))
    | inr back ↦ Contains-append_right fs (ys ++ bs) s (Contains-append_right ys bs s back)
  ]
]
opens_keep pages order head places old new s (Then {first = first} {second = second} {old = xs} {mid = mid} {new = ys} o p) own has =
    opens_keep pages order head second mid ys s p own (opens_keep pages order head first xs mid s o own has)

-- of what is let go the pages of own data records come to those that were never kept, and no others
record LetsOwn (head : ℕ) (mid : List Stub) (never most : List Unkept) : Type 0 where
  own : (s : Stub) → Contains mid s → IsOwnStub head s → Contains most (page_at s)
  more : (page : Unkept) → Contains never page → Contains most page
  only : (page : Unkept) → Contains most page → Contains never page ⊎ ((s : Stub) × Contains mid s × IsOwnStub head s × (page ≡ page_at s))

one_datum : (block addr : ℕ) (key : List ℕ) (mid : List Stub) (s : Stub) → mid ≡ datum block addr key ∷ [] → Contains mid s → s ≡ datum block addr key
one_datum block addr key mid s is has = only (subst (λ ss. Contains ss s) is has)
  where
    only : Contains (datum block addr key ∷ []) s → s ≡ datum block addr key
    only (zero, within, same) = sym same
    only (suc i, within, same) = absurd (omega (arith, within))

lets_own : (head block : ℕ) (replaced : Option ℕ) (mid : List Stub) (gone more : List ℕ) (never most : List Unkept) → IsPlaceOf block replaced mid → LetsGo head block replaced gone more never most → LetsOwn head mid never most
lets_own head block None mid gone more never most is goes = record {
  own = λ s has own. absurd (let within = (subst (λ ss. Contains ss s) is has).1 in omega (arith, within));
  more = λ page has. subst (λ ns. Contains ns page) (sym goes.1) has;
  only = λ page has. inl (subst (λ ns. Contains ns page) goes.1 has);
}
lets_own head block (Some addr) mid gone more never most (key, is) goes = elim (cases_lt addr head) [
  | inl low ↦ (let went = goes.0 low in record {
    own = λ s has own. absurd (let at = ap (λ (t : Stub). t.addr) (one_datum block addr key mid s is has) in let late = own.after in omega (arith, at, late, low));
    more = λ page has. subst (λ ns. Contains ns page) (sym went.1) has;
    only = λ page has. inl (subst (λ ns. Contains ns page) went.1 has);
  })
  | inr high ↦ (let went = goes.1 high in let page : Unkept = record { block = block; addr = addr } in record {
    own = λ s has own. subst (Contains most) (ap page_at (sym (one_datum block addr key mid s is has))) (subst (λ ns. Contains ns page) (sym went.1) (Contains-append_right never (page ∷ []) page (0, omega arith, refl)));
    more = λ other has. subst (λ ns. Contains ns other) (sym went.1) (Contains-append_left never (page ∷ []) other has);
    only = λ other has. elim (Contains-append_cases never (page ∷ []) other (subst (λ ns. Contains ns other) went.1 has)) [
      | inl was ↦ inl was
      | inr here ↦ inr (datum block addr key, subst (λ ss. Contains ss (datum block addr key)) (sym is) (0, omega arith, refl), record { level = refl; after = high }, last other here)
    ];
  })
]
  where
    last : (other : Unkept) → Contains (record { block = block; addr = addr } ∷ []) other → other ≡ record { block = block; addr = addr }
    last other (zero, within, same) = sym same
    last other (suc i, within, same) = absurd (omega (arith, within))

-- after a removal the pages that were written are those before
pub removal_written : (image : Image) (root : Root) (committed : List Place) (old new : Grove) (each : List Parts) (block : ℕ) (May : Stub → Type 0) (pages : List Unkept) → HoldsTree image root committed old each →
    Turns image.readable block May (λ opened. Takes 0 old.blocks block opened (places_of new)) old new → AreWritten root.head (places_of old) old.never.items pages → AreWritten root.head (places_of new) new.never.items pages
removal_written image root committed old new each block May pages h g w =
    let p = g.makes in
    let goes = subst (λ n. LetsGo n block g.replaced (old.gone.items ++ map (λ (s : Stub). s.addr) g.places) new.gone.items old.never.items new.never.items) h.head g.goes in
    let lets = lets_own root.head block g.replaced p.mid (old.gone.items ++ map (λ (s : Stub). s.addr) g.places) new.gone.items old.never.items new.never.items (mid_at 0 old.blocks block g.opened p.front p.mid p.back g.replaced p.was p.before p.here p.after g.was) goes in
    let were : (s : Stub) → IsOwnStub root.head s → Contains g.opened s → Contains (places_of old) s = λ s own has. opens_own image.readable old.order root.head g.places (places_of old) g.opened s g.opens (tree_old image root committed old each h) own has in
    let in_mid : (s : Stub) → Contains p.mid s → Contains g.opened s = λ s has. subst (λ ss. Contains ss s) (sym p.was) (Contains-append_right p.front (p.mid ++ p.back) s (Contains-append_left p.mid p.back s has)) in
    record {
      named = λ s has own. w.named s (removal_own image root committed old new each block May h g s own has) own;
      unnamed = All-weaker (Contains new.never.items) (Contains pages) (λ page has. elim (lets.only page has) [
        | inl never ↦ All-contains (Contains pages) old.never.items page w.unnamed never
        | inr own ↦ subst (Contains pages) (sym own.3) (w.named own.0 (were own.0 own.2 (in_mid own.0 own.1)) own.2)
      ]) new.never.items (All-contains_itself new.never.items);
      only = All-weaker (λ page. Contains old.never.items page ⊎ ((s : Stub) × Contains (places_of old) s × IsOwnStub root.head s × (page ≡ page_at s)))
          (λ page. Contains new.never.items page ⊎ ((s : Stub) × Contains (places_of new) s × IsOwnStub root.head s × (page ≡ page_at s))) (λ page is. elim is [
            | inl never ↦ inl (lets.more page never)
            | inr own ↦ stays page own.0 own.2 own.3 (subst (λ ss. Contains ss own.0) p.was (opens_keep image.readable old.order root.head g.places (places_of old) g.opened own.0 g.opens own.2 own.1)) lets
          ]) pages w.only;
    }
  where
    stays : (page : Unkept) (s : Stub) → IsOwnStub root.head s → page ≡ page_at s → Contains (g.makes.front ++ (g.makes.mid ++ g.makes.back)) s → LetsOwn root.head g.makes.mid old.never.items new.never.items →
        Contains new.never.items page ⊎ ((s : Stub) × Contains (places_of new) s × IsOwnStub root.head s × (page ≡ page_at s))
    stays page s own is has lets =
        let there : Contains (g.makes.front ++ g.makes.back) s → Contains (places_of new) s = λ k. subst (λ ss. Contains ss s) (sym g.makes.now) k in
        elim (Contains-append_cases g.makes.front (g.makes.mid ++ g.makes.back) s has) [
          | inl front ↦ inr (s, there (Contains-append_left g.makes.front g.makes.back s front), own, is)
          | inr rest ↦ elim (Contains-append_cases g.makes.mid g.makes.back s rest) [
            | inl mid ↦ inl (subst (Contains new.never.items) (sym is) (lets.own s mid own))
            | inr back ↦ inr (s, there (Contains-append_right g.makes.front g.makes.back s back), own, is)
          ]
        ]

-- after an insertion they are those before, and the new one
pub insertion_written : (image : Image) (root : Root) (committed : List Place) (old new : Grove) (each : List Parts) (block addr : ℕ) (key : List ℕ) (May : Stub → Type 0) (pages : List Unkept) → HoldsTree image root committed old each → root.head ≤ addr →
    Turns image.readable block May (λ opened. Puts 0 old.blocks (datum block addr key) opened (places_of new)) old new → AreWritten root.head (places_of old) old.never.items pages →
    AreWritten root.head (places_of new) new.never.items (pages ++ record { block = block; addr = addr } ∷ [])
insertion_written image root committed old new each block addr key May pages h late g w =
    let p = g.makes in
    let page : Unkept = record { block = block; addr = addr } in
    let more : (other : Unkept) → Contains pages other → Contains (pages ++ page ∷ []) other = λ other has. Contains-append_left pages (page ∷ []) other has in
    let last : Contains (pages ++ page ∷ []) page = Contains-append_right pages (page ∷ []) page (0, omega arith, refl) in
    let goes = subst (λ n. LetsGo n block g.replaced (old.gone.items ++ map (λ (s : Stub). s.addr) g.places) new.gone.items old.never.items new.never.items) h.head g.goes in
    let lets = lets_own root.head block g.replaced p.mid (old.gone.items ++ map (λ (s : Stub). s.addr) g.places) new.gone.items old.never.items new.never.items (mid_at 0 old.blocks block g.opened p.front p.mid p.back g.replaced p.was p.before p.here p.after g.was) goes in
    let were : (s : Stub) → IsOwnStub root.head s → Contains g.opened s → Contains (places_of old) s = λ s own has. opens_own image.readable old.order root.head g.places (places_of old) g.opened s g.opens (tree_old image root committed old each h) own has in
    let in_mid : (s : Stub) → Contains p.mid s → Contains g.opened s = λ s has. subst (λ ss. Contains ss s) (sym p.was) (Contains-append_right p.front (p.mid ++ p.back) s (Contains-append_left p.mid p.back s has)) in
    record {
      named = λ s has own. elim (insertion_own image root committed old new each block addr key May h g s own has) [
        | inl is ↦ subst (Contains (pages ++ page ∷ [])) (ap page_at (sym is)) last
        | inr was ↦ more (page_at s) (w.named s was own)
      ];
      unnamed = All-weaker (Contains new.never.items) (Contains (pages ++ page ∷ [])) (λ other has. elim (lets.only other has) [
        | inl never ↦ more other (All-contains (Contains pages) old.never.items other w.unnamed never)
        | inr own ↦ more other (subst (Contains pages) (sym own.3) (w.named own.0 (were own.0 own.2 (in_mid own.0 own.1)) own.2))
      ]) new.never.items (All-contains_itself new.never.items);
      only = all_and_last pages (All-weaker (λ other. Contains old.never.items other ⊎ ((s : Stub) × Contains (places_of old) s × IsOwnStub root.head s × (other ≡ page_at s))) IsOf (λ other is. elim is [
        | inl never ↦ inl (lets.more other never)
        | inr own ↦ stays other own.0 own.2 own.3 (subst (λ ss. Contains ss own.0) p.was (opens_keep image.readable old.order root.head g.places (places_of old) g.opened own.0 g.opens own.2 own.1)) lets
      ]) pages w.only);
    }
  where
    IsOf : Unkept → Type 0
    IsOf other = Contains new.never.items other ⊎ ((s : Stub) × Contains (places_of new) s × IsOwnStub root.head s × (other ≡ page_at s))

    there : (s : Stub) → Contains (g.makes.front ++ (datum block addr key ∷ g.makes.back)) s → Contains (places_of new) s
    there s k = subst (λ ss. Contains ss s) (sym g.makes.now) k

    all_and_last : (pages : List Unkept) → All IsOf pages → All IsOf (pages ++ record { block = block; addr = addr } ∷ [])
    all_and_last pages each_is = All-append IsOf pages (record { block = block; addr = addr } ∷ []) each_is
        (All-cons IsOf (record { block = block; addr = addr }) [] (inr (datum block addr key, there (datum block addr key) (Contains-append_right g.makes.front (datum block addr key ∷ g.makes.back) (datum block addr key) (0, omega arith, refl)), record { level = refl; after = late }, refl)) (All-nil IsOf))

    stays : (other : Unkept) (s : Stub) → IsOwnStub root.head s → other ≡ page_at s → Contains (g.makes.front ++ (g.makes.mid ++ g.makes.back)) s → LetsOwn root.head g.makes.mid old.never.items new.never.items → IsOf other
    stays other s own is has lets = elim (Contains-append_cases g.makes.front (g.makes.mid ++ g.makes.back) s has) [
      | inl front ↦ inr (s, there s (Contains-append_left g.makes.front (datum block addr key ∷ g.makes.back) s front), own, is)
      | inr rest ↦ elim (Contains-append_cases g.makes.mid g.makes.back s rest) [
        | inl mid ↦ inl (subst (Contains new.never.items) (sym is) (lets.own s mid own))
        | inr back ↦ inr (s, there s (Contains-append_right g.makes.front (datum block addr key ∷ g.makes.back) s (Contains-append_right (datum block addr key ∷ []) g.makes.back s back)), own, is)
      ]
    ]
