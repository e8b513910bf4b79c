-- Chains, and the maps that opening does not lead out of.
use Rattle.std.proofs.Common.{◌≡◌, inl, inr, ℕ, zero, suc, List, [], ◌∷◌, ◌++◌, map, length, take, get_or, refl, sym, ◌∙◌, ap, subst, arith}
use Rattle.std.specs.Prelude.{Some, All, Contains, slice_get}
use Rattle.std.proofs.lemmas.Bool.{cases_lt}
use Rattle.std.proofs.lemmas.Option.{slice_get_within, get_or_from_slice_get}
use Rattle.std.proofs.lemmas.List.Elements.{All-nil, All-cons, All-append, All-weaker, All-contains, Contains-append_left, Contains-append_right}
use Rattle.key_graph.specs.Chains.{Link, link, OpensAt, YieldsAt, IsChain, Reached, Distinct, OneOpener}
use Rattle.key_graph.specs.OwnKeys.{HaveOwnKeys}
use Rattle.key_graph.specs.Maps.{keys_of, IsClosed, AreListed, ReachesExactly, AreFirst}

-- ---- lists

same_some : {A : Type 0} (x y : A) → Some x ≡ Some y → x ≡ y
same_some x y same = cc

pub contains_at : {A : Type 0} (xs : List A) (i : ℕ) (x : A) → slice_get xs i ≡ Some x → Contains xs x
contains_at xs i x there = (i, slice_get_within xs i x there, get_or_from_slice_get xs i x x there)

pub slice_get-take_front : (n : ℕ) (pages : List (List ℕ)) (addr : ℕ) (page : List ℕ) → slice_get (take n pages) addr ≡ Some page → slice_get pages addr ≡ Some page
slice_get-take_front zero pages addr page reads = absurd cc
slice_get-take_front (suc n) [] addr page reads = absurd cc
slice_get-take_front (suc n) (first ∷ pages) zero page reads = reads
slice_get-take_front (suc n) (first ∷ pages) (suc addr) page reads = slice_get-take_front n pages addr page reads

-- an element of a list that a function makes comes from one of the list
pub contains_map : {A B : Type 0} (f : A → B) (xs : List A) (y : B) → Contains (map f xs) y → (x : A) × Contains xs x × (f x ≡ y)
contains_map f [] y has = absurd (omega (arith, has.1))
contains_map f (x ∷ xs) y (zero, within, is) = (x, (zero, omega arith, refl), is)
contains_map f (x ∷ xs) y (suc k, within, is) =
    let rest = contains_map f xs y (k, omega (arith, within), is) in
    (rest.0, (suc rest.1.0, omega (arith, rest.1.1), rest.1.2), rest.2)

pub map_contains : {A B : Type 0} (f : A → B) (xs : List A) (x : A) → Contains xs x → Contains (map f xs) (f x)
map_contains f [] x has = absurd (omega (arith, has.1))
map_contains f (first ∷ xs) x (zero, within, is) = (zero, omega arith, ap f is)
map_contains f (first ∷ xs) x (suc k, within, is) =
    let rest = map_contains f xs x (k, omega (arith, within), is) in
    (suc rest.0, omega (arith, rest.1), rest.2)

-- ---- pages that come first

pub front_reads : (pages longer : List (List ℕ)) (addr : ℕ) (page : List ℕ) → AreFirst pages longer → slice_get pages addr ≡ Some page → slice_get longer addr ≡ Some page
front_reads pages longer addr page first there =
    slice_get-take_front (length pages) longer addr page (ap (λ (ps : List (List ℕ)). slice_get ps addr) first ∙ there)

pub opens_later : (pages longer : List (List ℕ)) (at : Link) → AreFirst pages longer → OpensAt pages at → OpensAt longer at
opens_later pages longer at first opens = record { page = opens.page; there = front_reads pages longer at.addr opens.page first opens.there; opens = opens.opens }

pub yields_later : (pages longer : List (List ℕ)) (at : Link) (key : List ℕ) → AreFirst pages longer → YieldsAt pages at key → YieldsAt longer at key
yields_later pages longer at key first yields = record { page = yields.page; there = front_reads pages longer at.addr yields.page first yields.there; opens = yields.opens; yields = yields.yields }

-- what a page yields that was there before it yielded then
pub yields_before : (pages longer : List (List ℕ)) (at : Link) (key : List ℕ) → AreFirst pages longer → OpensAt pages at → YieldsAt longer at key → YieldsAt pages at key
yields_before pages longer at key first opens yields =
    let same : opens.page ≡ yields.page = same_some _ _ (sym (front_reads pages longer at.addr opens.page first opens.there) ∙ yields.there) in
    record { page = yields.page; there = opens.there ∙ ap Some same; opens = yields.opens; yields = yields.yields }

chain_later : (pages longer : List (List ℕ)) (May May' : List ℕ → Type 0) (chain : List Link) → AreFirst pages longer → ((key : List ℕ) → May key → May' key) → IsChain pages May chain → IsChain longer May' chain
chain_later pages longer May May' [] first weaker is = tt
chain_later pages longer May May' (at ∷ chain) first weaker is = (
  weaker at.key is.0,
  opens_later pages longer at first is.1,
  chain_later pages longer (YieldsAt pages at) (YieldsAt longer at) chain first (λ key yields. yields_later pages longer at key first yields) is.2,
)

pub reached_later : (keys pages longer : List (List ℕ)) (addr : ℕ) → AreFirst pages longer → Reached keys pages addr → Reached keys longer addr
reached_later keys pages longer addr first (key, ends) =
    (key, record { before = ends.before; chain = chain_later pages longer (Contains keys) (Contains keys) (ends.before ++ link addr key ∷ []) first (λ k has. has) ends.chain })

-- a map stays closed as pages are added
pub closed_later : (pages later roots : List (List ℕ)) (links : List Link) → AreFirst pages later → IsClosed pages roots links → IsClosed later roots links
closed_later pages later roots links first closed = record {
  opens = All-weaker (OpensAt pages) (OpensAt later) (λ l opens. opens_later pages later l first opens) links closed.opens;
  yields = λ k d inside key yields. closed.yields k d inside key (yields_before pages later (get_or links k d) key first (closed.opens k d inside) yields);
  begins = closed.begins;
  reached = All-weaker (λ (l : Link). Reached roots pages l.addr) (λ (l : Link). Reached roots later l.addr) (λ l there. reached_later roots pages later l.addr first there) links closed.reached;
}

-- ---- one key opens one page

one_place : (keys : List (List ℕ)) (i j : ℕ) (key : List ℕ) → Distinct keys → slice_get keys i ≡ Some key → slice_get keys j ≡ Some key → i ≡ j
one_place keys i j key distinct at at' =
    let here : get_or keys i key ≡ key = get_or_from_slice_get keys i key key at in
    let there : get_or keys j key ≡ key = get_or_from_slice_get keys j key key at' in
    elim (cases_lt i j) [
      | inl below ↦ absurd (distinct i j key below (slice_get_within keys j key at') (here ∙ sym there))
      | inr not_below ↦ elim (cases_lt j i) [
        | inl above ↦ absurd (distinct j i key above (slice_get_within keys i key at) (there ∙ sym here))
        | inr same ↦ omega arith
      ]
    ]

-- the key at the page's own position is the key that opens it
pub own_key : (keys pages : List (List ℕ)) (own : HaveOwnKeys keys pages) (at : Link) → OneOpener keys pages → Contains keys at.key → (opens : OpensAt pages at) → slice_get keys (own.position at.addr) ≡ Some at.key
own_key keys pages own at one known opens =
    let sealed = own.sealed at.addr opens.page opens.there in
    let same : sealed.key ≡ at.key = one at.addr sealed.key at.key (contains_at keys (own.position at.addr) sealed.key sealed.listed) known (record { page = opens.page; there = opens.there; opens = sealed.opens }) opens in
    sealed.listed ∙ ap Some same

-- a key of the list opens one page at most
pub one_page : (keys pages : List (List ℕ)) (one other : ℕ) (key : List ℕ) → HaveOwnKeys keys pages → Distinct keys → OneOpener keys pages → Contains keys key → OpensAt pages (link one key) → OpensAt pages (link other key) → one ≡ other
one_page keys pages one other key own distinct opener known opens opens' =
    let place : own.position one ≡ own.position other = one_place keys (own.position one) (own.position other) key distinct (own_key keys pages own (link one key) opener known opens) (own_key keys pages own (link other key) opener known opens') in
    own.apart one other (slice_get_within pages one opens.page opens.there) (slice_get_within pages other opens'.page opens'.there) place

-- ---- the law

same_link : (at : Link) (addr : ℕ) (key : List ℕ) → at.addr ≡ addr → at.key ≡ key → at ≡ link addr key
same_link at addr key addr_is key_is = λ i. record { addr = addr_is i; key = key_is i }

-- a key of the map opens no page but its own
in_map : (keys pages longer roots : List (List ℕ)) (links : List Link) (at : Link) → IsClosed pages roots links → AreListed keys links → AreFirst pages longer → HaveOwnKeys keys longer → Distinct keys → OneOpener keys longer → Contains (keys_of links) at.key → OpensAt pages at → Contains links at
in_map keys pages longer roots links at closed listed first own distinct opener key_in opens =
    let found = contains_map (λ (l : Link). l.key) links at.key key_in in
    let other : Link = found.0 in
    let there : OpensAt pages other = All-contains (OpensAt pages) links other closed.opens found.1 in
    let known : Contains keys at.key = subst (Contains keys) found.2 (All-contains (λ (l : Link). Contains keys l.key) links other listed found.1) in
    let opened : OpensAt longer (link other.addr at.key) = subst (λ (k : List ℕ). OpensAt longer (link other.addr k)) found.2 (opens_later pages longer other first there) in
    let same : other.addr ≡ at.addr = one_page keys longer other.addr at.addr at.key own distinct opener known opened (opens_later pages longer at first opens) in
    subst (Contains links) (same_link other at.addr at.key same found.2) found.1

chain_in_map : (keys pages longer roots : List (List ℕ)) (links : List Link) (May : List ℕ → Type 0) (before : List Link) (at : Link) → IsClosed pages roots links → AreListed keys links → AreFirst pages longer → HaveOwnKeys keys longer → Distinct keys → OneOpener keys longer → ((key : List ℕ) → May key → Contains (keys_of links) key) → IsChain pages May (before ++ at ∷ []) → Contains links at
chain_in_map keys pages longer roots links May [] at closed listed first own distinct opener may chain =
    in_map keys pages longer roots links at closed listed first own distinct opener (may at.key chain.0) chain.1
chain_in_map keys pages longer roots links May (next ∷ before) at closed listed first own distinct opener may chain =
    let here : Contains links next = in_map keys pages longer roots links next closed listed first own distinct opener (may next.key chain.0) chain.1 in
    let yields = All-contains (λ (l : Link). (key : List ℕ) → YieldsAt pages l key → Contains (keys_of links) key) links next closed.yields here in
    chain_in_map keys pages longer roots links (YieldsAt pages next) before at closed listed first own distinct opener yields chain.2

pub reaches_exactly : (keys pages longer roots : List (List ℕ)) (links : List Link) → IsClosed pages roots links → AreListed keys links → AreFirst pages longer → HaveOwnKeys keys longer → Distinct keys → OneOpener keys longer → ReachesExactly roots pages links
reaches_exactly keys pages longer roots links closed listed first own distinct opener addr = (
  λ reached.
      let may : (key : List ℕ) → Contains roots key → Contains (keys_of links) key = λ key has. All-contains (Contains (keys_of links)) roots key closed.begins has in
      map_contains (λ (l : Link). l.addr) links (link addr reached.0)
      (chain_in_map keys pages longer roots links (Contains roots) reached.1.before (link addr reached.0) closed listed first own distinct opener may reached.1.chain),
  λ has.
      let found = contains_map (λ (l : Link). l.addr) links addr has in
      subst (Reached roots pages) found.2 (All-contains (λ (l : Link). Reached roots pages l.addr) links found.0 closed.reached found.1),
)

pub earlier_map : (keys pages later longer roots : List (List ℕ)) (links : List Link) → IsClosed pages roots links → AreListed keys links → AreFirst pages later → AreFirst later longer → HaveOwnKeys keys longer → Distinct keys → OneOpener keys longer → ReachesExactly roots later links
earlier_map keys pages later longer roots links closed listed first first' own distinct opener =
    reaches_exactly keys later longer roots links (closed_later pages later roots links first closed) listed first' own distinct opener

-- ---- maps that are made of others

pub chain_may : (pages : List (List ℕ)) (May May' : List ℕ → Type 0) (chain : List Link) → ((key : List ℕ) → May key → May' key) → IsChain pages May chain → IsChain pages May' chain
chain_may pages May May' [] weaker is = tt
chain_may pages May May' (at ∷ chain) weaker is = (weaker at.key is.0, is.1, is.2)

reached_from : (pages roots more : List (List ℕ)) (addr : ℕ) → ((key : List ℕ) → Contains roots key → Contains more key) → Reached roots pages addr → Reached more pages addr
reached_from pages roots more addr weaker (key, ends) =
    (key, record { before = ends.before; chain = chain_may pages (Contains roots) (Contains more) (ends.before ++ link addr key ∷ []) weaker ends.chain })

contains_keys_left : (one other : List Link) (key : List ℕ) → Contains (keys_of one) key → Contains (keys_of (one ++ other)) key
contains_keys_left one other key has =
    let found = contains_map (λ (l : Link). l.key) one key has in
    subst (Contains (keys_of (one ++ other))) found.2 (map_contains (λ (l : Link). l.key) (one ++ other) found.0 (Contains-append_left one other found.0 found.1))

contains_keys_right : (one other : List Link) (key : List ℕ) → Contains (keys_of other) key → Contains (keys_of (one ++ other)) key
contains_keys_right one other key has =
    let found = contains_map (λ (l : Link). l.key) other key has in
    subst (Contains (keys_of (one ++ other))) found.2 (map_contains (λ (l : Link). l.key) (one ++ other) found.0 (Contains-append_right one other found.0 found.1))

pub joined_maps : (pages roots others : List (List ℕ)) (one other : List Link) → IsClosed pages roots one → IsClosed pages others other → IsClosed pages (roots ++ others) (one ++ other)
joined_maps pages roots others one other first second = record {
  opens = All-append (OpensAt pages) one other first.opens second.opens;
  yields = All-append (λ (l : Link). (key : List ℕ) → YieldsAt pages l key → Contains (keys_of (one ++ other)) key) one other
      (λ k d inside key yields. contains_keys_left one other key (first.yields k d inside key yields))
      (λ k d inside key yields. contains_keys_right one other key (second.yields k d inside key yields));
  begins = All-append (Contains (keys_of (one ++ other))) roots others
      (All-weaker (Contains (keys_of one)) (Contains (keys_of (one ++ other))) (contains_keys_left one other) roots first.begins)
      (All-weaker (Contains (keys_of other)) (Contains (keys_of (one ++ other))) (contains_keys_right one other) others second.begins);
  reached = All-append (λ (l : Link). Reached (roots ++ others) pages l.addr) one other
      (All-weaker (λ (l : Link). Reached roots pages l.addr) (λ (l : Link). Reached (roots ++ others) pages l.addr) (λ l. reached_from pages roots (roots ++ others) l.addr (Contains-append_left roots others)) one first.reached)
      (All-weaker (λ (l : Link). Reached others pages l.addr) (λ (l : Link). Reached (roots ++ others) pages l.addr) (λ l. reached_from pages others (roots ++ others) l.addr (Contains-append_right roots others)) other second.reached);
}

pub contains_first : (x : List ℕ) (xs : List (List ℕ)) → Contains (x ∷ xs) x
contains_first x xs = (0, omega arith, refl)

pub map_below : (pages roots : List (List ℕ)) (links : List Link) (at : Link) → IsClosed pages roots links → OpensAt pages at → All (YieldsAt pages at) roots → ((key : List ℕ) → YieldsAt pages at key → Contains roots key) → IsClosed pages (at.key ∷ []) (at ∷ links)
map_below pages roots links at closed opens all only =
    let inside : (key : List ℕ) → Contains (keys_of links) key → Contains (keys_of (at ∷ links)) key = λ key has. (suc has.0, omega (arith, has.1), has.2) in
    record {
      opens = All-cons (OpensAt pages) at links opens closed.opens;
      yields = All-cons (λ (l : Link). (key : List ℕ) → YieldsAt pages l key → Contains (keys_of (at ∷ links)) key) at links
          (λ key yields. inside key (All-contains (Contains (keys_of links)) roots key closed.begins (only key yields)))
          (λ k d within key yields. inside key (closed.yields k d within key yields));
      begins = All-cons (Contains (keys_of (at ∷ links))) at.key [] (contains_first at.key (keys_of links)) (All-nil (Contains (keys_of (at ∷ links))));
      reached = All-cons (λ (l : Link). Reached (at.key ∷ []) pages l.addr) at links
          (at.key, record { before = []; chain = (contains_first at.key [], opens, tt) })
          (All-weaker (λ (l : Link). Reached roots pages l.addr) (λ (l : Link). Reached (at.key ∷ []) pages l.addr)
          (λ l there. (
            there.0,
            record {
              before = at ∷ there.1.before;
              chain = (contains_first at.key [], opens, chain_may pages (Contains roots) (YieldsAt pages at) (there.1.before ++ link l.addr there.0 ∷ []) (λ key has. All-contains (YieldsAt pages at) roots key all has) there.1.chain);
            },
          )) links closed.reached);
    }
