-- What a tree keeps account of, as places leave it and come to it.
use Rattle.std.proofs.Common.{◌≡◌, ◌≢◌, ◌⊎◌, inl, inr, ℕ, zero, suc, ◌<◌, ◌≤◌, List, [], ◌∷◌, ◌++◌, All, map, refl, sym, ap, ◌∙◌, arith}
use Rattle.std.specs.Prelude.{AllPairs, Contains}
use Rattle.std.specs.List.Sorted.{IsPermutation}
use Rattle.std.proofs.lemmas.List.Elements.{All-nil, All-cons, All-head, All-weaker, All-append, All-map, All-contains, All-contains_itself, Contains-append_left, Contains-append_right, Contains-append_cases}
use Rattle.std.proofs.lemmas.List.Kept.{AllPairs-cons}
use Rattle.std.proofs.lemmas.List.Sorted.{IsPermutation-sym, All-permutation, Contains-permutation}
use Rattle.platform.specs.Logged.{AllPairs-first, AllPairs-rest, AllPairs-nil}
use Rattle.key_graph.proofs.ChainLaws.{map_contains}
use Rattle.sdbt_base.specs.Traces.{DataOf, NodeOver}
use Rattle.sdbt_base.specs.declared.lists.Unkept.{Unkept}
use Rattle.page_store.specs.Tree.{Place}
use Rattle.page_store.proofs.ApartLaws.{AreApart, all_right, apart_from}
use Rattle.grove_accounts.specs.Accounts.{Accounts, IsOwn, LacksAddress, HasAddress}
use Rattle.grove_accounts.proofs.PartsLaws.{IsInner}

-- ---- the tree of a root record itself

-- of which nothing was let go
pub accounts_start : (head pages : ℕ) (committed : List Place) → Accounts head pages committed committed [] []
accounts_start head pages committed = record {
  kept = All-weaker (Contains committed) (λ p. Contains committed p ⊎ IsOwn head p) (λ p has. inl has) committed (All-contains_itself committed);
  left = All-weaker (Contains committed) (λ p. Contains committed p ⊎ Contains [] p.addr) (λ p has. inl has) committed (All-contains_itself committed);
  gone_are = All-nil (λ (addr : ℕ). HasAddress committed addr × LacksAddress committed addr);
  never_are = All-nil (λ (page : Unkept). (head ≤ page.addr) × (page.addr < pages) × LacksAddress committed page.addr);
  once = AllPairs-nil (λ (page : Unkept) (other : Unkept). page.addr ≢ other.addr);
}

-- ---- in another order, and over more pages

lacks_as : (places others : List Place) → ((p : Place) → Contains others p → Contains places p) → (addr : ℕ) → LacksAddress places addr → LacksAddress others addr
lacks_as places others among addr lacks =
    All-weaker (Contains others) (λ p. p.addr ≢ addr) (λ p has. All-contains (λ p. p.addr ≢ addr) places p lacks (among p has)) others (All-contains_itself others)

pub accounts_permuted : (head pages : ℕ) (committed places others : List Place) (gone : List ℕ) (never : List Unkept) → IsPermutation places others → Accounts head pages committed places gone never → Accounts head pages committed others gone never
accounts_permuted head pages committed places others gone never moved a =
    let back : (p : Place) → Contains others p → Contains places p = λ p has. Contains-permutation others places p (IsPermutation-sym places others moved) has in
    record {
      kept = All-permutation (λ p. Contains committed p ⊎ IsOwn head p) places others moved a.kept;
      left = All-weaker (λ p. Contains places p ⊎ Contains gone p.addr) (λ p. Contains others p ⊎ Contains gone p.addr) (λ p is. elim is [
        | inl has ↦ inl (Contains-permutation places others p moved has)
        | inr was ↦ inr was
      ]) committed a.left;
      gone_are = All-weaker (λ addr. HasAddress committed addr × LacksAddress places addr) (λ addr. HasAddress committed addr × LacksAddress others addr)
          (λ addr is. (is.0, lacks_as places others back addr is.1)) gone a.gone_are;
      never_are = All-weaker (λ (page : Unkept). (head ≤ page.addr) × (page.addr < pages) × LacksAddress places page.addr) (λ (page : Unkept). (head ≤ page.addr) × (page.addr < pages) × LacksAddress others page.addr)
          (λ page is. (is.0, is.1, lacks_as places others back page.addr is.2)) never a.never_are;
      once = a.once;
    }

pub accounts_later : (head pages now : ℕ) (committed places : List Place) (gone : List ℕ) (never : List Unkept) → pages ≤ now → Accounts head pages committed places gone never → Accounts head now committed places gone never
accounts_later head pages now committed places gone never more a = record {
  kept = a.kept;
  left = a.left;
  gone_are = a.gone_are;
  never_are = All-weaker (λ (page : Unkept). (head ≤ page.addr) × (page.addr < pages) × LacksAddress places page.addr) (λ (page : Unkept). (head ≤ page.addr) × (page.addr < now) × LacksAddress places page.addr)
      (λ page is. (is.0, omega (arith, is.1, more), is.2)) never a.never_are;
  once = a.once;
}

-- ---- places leave

-- a place of an inner node is a committed one
pub inner_committed : (head pages : ℕ) (committed nodes rest : List Place) (gone : List ℕ) (never : List Unkept) → Accounts head pages committed (nodes ++ rest) gone never → All IsInner nodes → All (Contains committed) nodes
inner_committed head pages committed nodes rest gone never a inner =
    All-weaker (Contains nodes) (Contains committed) (λ p has. one p (All-contains IsInner nodes p inner has) (All-contains (λ p. Contains committed p ⊎ IsOwn head p) (nodes ++ rest) p a.kept (Contains-append_left nodes rest p has))) nodes (All-contains_itself nodes)
  where
    differ : (block : ℕ) (children : List ℕ) → NodeOver children ≡ DataOf block → ⊥
    differ block children is = cc

    one : (p : Place) → IsInner p → Contains committed p ⊎ IsOwn head p → Contains committed p
    one p node (inl has) = has
    one p node (inr own) = absurd (differ own.block node.0 (sym node.1 ∙ own.is))

-- committed places leave, and their pages are gone
pub accounts_gone : (head pages : ℕ) (committed left rest : List Place) (gone : List ℕ) (never : List Unkept) → AllPairs AreApart (left ++ rest) → All (Contains committed) left → Accounts head pages committed (left ++ rest) gone never →
    Accounts head pages committed rest (gone ++ map (λ (p : Place). p.addr) left) never
accounts_gone head pages committed left rest gone never apart were a =
    let addrs = map (λ (p : Place). p.addr) left in
    let among : (p : Place) → Contains rest p → Contains (left ++ rest) p = λ p has. Contains-append_right left rest p has in
    let Gone : ℕ → Type 0 = λ addr. HasAddress committed addr × LacksAddress rest addr in
    record {
      kept = all_right (λ p. Contains committed p ⊎ IsOwn head p) left rest a.kept;
      left = All-weaker (λ p. Contains (left ++ rest) p ⊎ Contains gone p.addr) (λ p. Contains rest p ⊎ Contains (gone ++ addrs) p.addr) (λ p is. one p is) committed a.left;
      gone_are = All-append Gone gone addrs
          (All-weaker (λ addr. HasAddress committed addr × LacksAddress (left ++ rest) addr) Gone (λ addr is. (is.0, lacks_as (left ++ rest) rest among addr is.1)) gone a.gone_are)
          (All-map Gone (λ (p : Place). p.addr) left (All-weaker (Contains left) (λ p. Gone p.addr) (λ p has. ((p, All-contains (Contains committed) left p were has, refl), All-contains (λ (x : Place). All (λ y. y.addr ≢ x.addr) rest) left p (apart_from left rest apart) has)) left (All-contains_itself left)));
      never_are = All-weaker (λ (page : Unkept). (head ≤ page.addr) × (page.addr < pages) × LacksAddress (left ++ rest) page.addr) (λ (page : Unkept). (head ≤ page.addr) × (page.addr < pages) × LacksAddress rest page.addr)
          (λ page is. (is.0, is.1, lacks_as (left ++ rest) rest among page.addr is.2)) never a.never_are;
      once = a.once;
    }
  where
    one : (p : Place) → Contains (left ++ rest) p ⊎ Contains gone p.addr → Contains rest p ⊎ Contains (gone ++ map (λ (p : Place). p.addr) left) p.addr
    one p (inr was) = inr (Contains-append_left gone (map (λ (p : Place). p.addr) left) p.addr was)
    one p (inl has) = elim (Contains-append_cases left rest p has) [
      | inl off ↦ inr (Contains-append_right gone (map (λ (p : Place). p.addr) left) p.addr (map_contains (λ (p : Place). p.addr) left p off))
      | inr stays ↦ inl stays
    ]

abbrev Once : List Unkept → Type 0
Once = AllPairs (λ page other. page.addr ≢ other.addr)

once_more : (pages : List Unkept) (page : Unkept) → Once pages → All (λ p. p.addr ≢ page.addr) pages → Once (pages ++ page ∷ [])
once_more [] page once none = AllPairs-cons (λ (p : Unkept) (q : Unkept). p.addr ≢ q.addr) page [] (All-nil (λ (q : Unkept). page.addr ≢ q.addr)) (AllPairs-nil (λ (p : Unkept) (q : Unkept). p.addr ≢ q.addr))
once_more (p ∷ pages) page once none =
    AllPairs-cons (λ (p : Unkept) (q : Unkept). p.addr ≢ q.addr) p (pages ++ page ∷ [])
    (All-append (λ (q : Unkept). p.addr ≢ q.addr) pages (page ∷ []) (AllPairs-first (λ (p : Unkept) (q : Unkept). p.addr ≢ q.addr) p pages once)
    (All-cons (λ (q : Unkept). p.addr ≢ q.addr) page [] (All-head (λ (p : Unkept). p.addr ≢ page.addr) p pages none) (All-nil (λ (q : Unkept). p.addr ≢ q.addr))))
    (once_more pages page (AllPairs-rest (λ (p : Unkept) (q : Unkept). p.addr ≢ q.addr) p pages once) (all_right (λ (p : Unkept). p.addr ≢ page.addr) (p ∷ []) pages none))

-- a data record of the tree's own leaves, and its page was never kept
pub accounts_never : (head pages block : ℕ) (committed rest : List Place) (p : Place) (gone : List ℕ) (never : List Unkept) → AllPairs AreApart (p ∷ rest) → All (λ q. q.addr < head) committed → head ≤ p.addr → p.addr < pages →
    Accounts head pages committed (p ∷ rest) gone never → Accounts head pages committed rest gone (never ++ record { block = block; addr = p.addr } ∷ [])
accounts_never head pages block committed rest p gone never apart within own small a =
    let page : Unkept = record { block = block; addr = p.addr } in
    let among : (q : Place) → Contains rest q → Contains (p ∷ rest) q = λ q has. Contains-append_right (p ∷ []) rest q has in
    let Never : Unkept → Type 0 = λ page. (head ≤ page.addr) × (page.addr < pages) × LacksAddress rest page.addr in
    record {
      kept = all_right (λ p. Contains committed p ⊎ IsOwn head p) (p ∷ []) rest a.kept;
      left = All-weaker (Contains committed) (λ q. Contains rest q ⊎ Contains gone q.addr) (λ q has. one q (All-contains (λ q. q.addr < head) committed q within has) (All-contains (λ q. Contains (p ∷ rest) q ⊎ Contains gone q.addr) committed q a.left has)) committed (All-contains_itself committed);
      gone_are = All-weaker (λ addr. HasAddress committed addr × LacksAddress (p ∷ rest) addr) (λ addr. HasAddress committed addr × LacksAddress rest addr) (λ addr is. (is.0, lacks_as (p ∷ rest) rest among addr is.1)) gone a.gone_are;
      never_are = All-append Never never (page ∷ [])
          (All-weaker (λ (page : Unkept). (head ≤ page.addr) × (page.addr < pages) × LacksAddress (p ∷ rest) page.addr) Never (λ page is. (is.0, is.1, lacks_as (p ∷ rest) rest among page.addr is.2)) never a.never_are)
          (All-cons Never page [] (own, small, All-weaker (AreApart p) (λ (y : Place). y.addr ≢ p.addr) (λ y other same. other (sym same)) rest (AllPairs-first AreApart p rest apart)) (All-nil Never));
      once = once_more never page a.once (All-weaker (λ (page : Unkept). (head ≤ page.addr) × (page.addr < pages) × LacksAddress (p ∷ rest) page.addr) (λ (q : Unkept). q.addr ≢ p.addr)
          (λ q is same. All-head (λ (x : Place). x.addr ≢ q.addr) p rest is.2 (sym same)) never a.never_are);
    }
  where
    one : (q : Place) → q.addr < head → Contains (p ∷ rest) q ⊎ Contains gone q.addr → Contains rest q ⊎ Contains gone q.addr
    one q less (inr was) = inr was
    one q less (inl (zero, within, is)) = absurd (let same : p.addr ≡ q.addr = ap (λ (x : Place). x.addr) is in omega (arith, less, own, same))
    one q less (inl (suc i, within, is)) = inl (i, omega (arith, within), is)

-- ---- a place comes

-- a data record on a new page
pub accounts_come : (head pages block : ℕ) (committed places : List Place) (p : Place) (gone : List ℕ) (never : List Unkept) → All (λ q. q.addr < head) committed → head ≤ pages → p.addr ≡ pages → p.trace ≡ DataOf block →
    Accounts head pages committed places gone never → Accounts head (suc pages) committed (p ∷ places) gone never
accounts_come head pages block committed places p gone never within more new data_is a =
    let Kept : Place → Type 0 = λ q. Contains committed q ⊎ IsOwn head q in
    let After : (q : Place) → Contains places q → Contains (p ∷ places) q = λ q has. Contains-append_right (p ∷ []) places q has in
    record {
      kept = All-cons Kept p places (inr (record { after = omega (arith, more, new); block = block; is = data_is })) a.kept;
      left = All-weaker (λ q. Contains places q ⊎ Contains gone q.addr) (λ q. Contains (p ∷ places) q ⊎ Contains gone q.addr) (λ q is. elim is [
        | inl has ↦ inl (After q has)
        | inr was ↦ inr was
      ]) committed a.left;
      gone_are = All-weaker (λ addr. HasAddress committed addr × LacksAddress places addr) (λ addr. HasAddress committed addr × LacksAddress (p ∷ places) addr)
          (λ addr is. (is.0, All-cons (λ q. q.addr ≢ addr) p places (λ same. old addr is.0 same) is.1)) gone a.gone_are;
      never_are = All-weaker (λ (page : Unkept). (head ≤ page.addr) × (page.addr < pages) × LacksAddress places page.addr) (λ (page : Unkept). (head ≤ page.addr) × (page.addr < suc pages) × LacksAddress (p ∷ places) page.addr)
          (λ page is. (is.0, omega (arith, is.1), All-cons (λ q. q.addr ≢ page.addr) p places (λ same. absurd (omega (arith, same, is.1, new))) is.2)) never a.never_are;
      once = a.once;
    }
  where
    old : (addr : ℕ) → HasAddress committed addr → p.addr ≡ addr → ⊥
    old addr has same = let low : has.0.addr < head = All-contains (λ q. q.addr < head) committed has.0 within has.1 in omega (arith, low, has.2, same, new, more)
