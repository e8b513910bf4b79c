-- What keys reach over pages that came later, and what several of them reach.
use Rattle.std.proofs.Common.{◌≡◌, ◌↔◌, inl, inr, ℕ, zero, suc, ◌+◌, ◌<◌, List, [], ◌∷◌, ◌++◌, length, take, get_or, refl, sym, ◌∙◌, ap, subst, arith, length-append}
use Rattle.std.specs.Prelude.{All, Contains, slice_get}
use Rattle.std.proofs.lemmas.Bool.{cases_lt}
use Rattle.std.proofs.lemmas.List.Elements.{All-contains, Contains-append_left, Contains-append_right}
use Rattle.key_graph.specs.Opening.{Yields}
use Rattle.key_graph.specs.Chains.{Link, link, OpensAt, YieldsAt, IsChain, Reached, Distinct, OneOpener}
use Rattle.key_graph.specs.OwnKeys.{HaveOwnKeys}
use Rattle.key_graph.specs.Maps.{AreFirst, AreOpenedBy}
use Rattle.key_graph.proofs.ChainLaws.{contains_first, chain_may, opens_later, reached_later, yields_before, contains_at}

-- ---- keys that stand in one part of a list

get_or-front : (xs ys : List (List ℕ)) (i : ℕ) (d : List ℕ) → i < length xs → get_or (xs ++ ys) i d ≡ get_or xs i d
get_or-front [] ys i d below = absurd (omega arith)
get_or-front (x ∷ xs) ys zero d below = refl
get_or-front (x ∷ xs) ys (suc i) d below = get_or-front xs ys i d (omega arith)

get_or-behind : (xs ys : List (List ℕ)) (i : ℕ) (d : List ℕ) → get_or (xs ++ ys) (length xs + i) d ≡ get_or ys i d
get_or-behind [] ys i d = let same : zero + i ≡ i = omega arith in ap (λ (n : ℕ). get_or ys n d) same
get_or-behind (x ∷ xs) ys i d = let same : length (x ∷ xs) + i ≡ suc (length xs + i) = omega arith in ap (λ (n : ℕ). get_or (x ∷ (xs ++ ys)) n d) same ∙ get_or-behind xs ys i d

apart : (keys more : List (List ℕ)) (key : List ℕ) → Distinct (keys ++ more) → Contains keys key → Contains more key → ⊥
apart keys more key distinct (i, below, here) (j, below', there) =
    distinct i (length keys + j) key (omega (arith, below)) (omega (arith, below', length-append keys more))
    (get_or-front keys more i key below ∙ (here ∙ sym (get_or-behind keys more j key ∙ there)))

-- ---- later pages

first_reads : (n : ℕ) (pages : List (List ℕ)) (addr : ℕ) → addr < n → slice_get (take n pages) addr ≡ slice_get pages addr
first_reads zero pages addr below = absurd (omega arith)
first_reads (suc n) [] addr below = refl
first_reads (suc n) (page ∷ pages) zero below = refl
first_reads (suc n) (page ∷ pages) (suc addr) below = first_reads n pages addr (omega arith)

one_before : (keys more pages longer : List (List ℕ)) → AreFirst pages longer → OneOpener (keys ++ more) longer → OneOpener keys pages
one_before keys more pages longer first one addr key other has has' opens opens' =
    one addr key other (Contains-append_left keys more key has) (Contains-append_left keys more other has') (opens_later pages longer (link addr key) first opens) (opens_later pages longer (link addr other) first opens')

-- an old key opens no new page
opens_before : (keys more pages longer : List (List ℕ)) (at : Link) → AreFirst pages longer → Distinct (keys ++ more) → OneOpener (keys ++ more) longer → AreOpenedBy more pages longer → Contains keys at.key → OpensAt longer at → OpensAt pages at
opens_before keys more pages longer at first distinct one opened has opens = elim (cases_lt at.addr (length pages)) [
  | inl before ↦ record {
    page = opens.page;
    there = ap (λ (ps : List (List ℕ)). slice_get ps at.addr) (sym first) ∙ (first_reads (length pages) longer at.addr before ∙ opens.there);
    opens = opens.opens;
  }
  | inr after ↦
      let found = opened at.addr opens.page after opens.there in
      let same : at.key ≡ found.0 = one at.addr at.key found.0 (Contains-append_left keys more at.key has) (Contains-append_right keys more found.0 found.1) opens (record { page = opens.page; there = opens.there; opens = found.2 }) in
      absurd (apart keys more found.0 distinct (subst (Contains keys) same has) found.1)
]

-- what it yields is an old key
yields_old : (keys pages : List (List ℕ)) (at : Link) (other : List ℕ) → HaveOwnKeys keys pages → OneOpener keys pages → Contains keys at.key → YieldsAt pages at other → Contains keys other
yields_old keys pages at other own one has yields =
    let sealed = own.sealed at.addr yields.page yields.there in
    let same : sealed.key ≡ at.key = one at.addr sealed.key at.key (contains_at keys (own.position at.addr) sealed.key sealed.listed) has (record { page = yields.page; there = yields.there; opens = sealed.opens }) (record { page = yields.page; there = yields.there; opens = yields.opens }) in
    sealed.yields other (subst (λ (k : List ℕ). Yields k yields.page other) (sym same) yields.yields)

chain_before : (keys more pages longer : List (List ℕ)) (May May' : List ℕ → Type 0) (chain : List Link) → AreFirst pages longer → HaveOwnKeys keys pages → Distinct (keys ++ more) → OneOpener (keys ++ more) longer → AreOpenedBy more pages longer → ((key : List ℕ) → May key → Contains keys key) → ((key : List ℕ) → May key → May' key) → IsChain longer May chain → IsChain pages May' chain
chain_before keys more pages longer May May' [] first own distinct one opened old weaker is = tt
chain_before keys more pages longer May May' (at ∷ chain) first own distinct one opened old weaker is =
    let has = old at.key is.0 in
    let opens = opens_before keys more pages longer at first distinct one opened has is.1 in
    let back : (key : List ℕ) → YieldsAt longer at key → YieldsAt pages at key = λ key yields. yields_before pages longer at key first opens yields in (
      weaker at.key is.0,
      opens,
      chain_before keys more pages longer (YieldsAt longer at) (YieldsAt pages at) chain first own distinct one opened
          (λ key yields. yields_old keys pages at key own (one_before keys more pages longer first one) has (back key yields)) back is.2,
    )

pub no_more : (keys more pages longer roots : List (List ℕ)) → HaveOwnKeys keys pages → AreFirst pages longer → AreOpenedBy more pages longer → Distinct (keys ++ more) → OneOpener (keys ++ more) longer → All (Contains keys) roots → (addr : ℕ) → Reached roots longer addr ↔ Reached roots pages addr
no_more keys more pages longer roots own first opened distinct one old addr = (
  λ reached. (
    reached.0,
    record {
      before = reached.1.before;
      chain = chain_before keys more pages longer (Contains roots) (Contains roots) (reached.1.before ++ link addr reached.0 ∷ []) first own distinct one opened (λ key has. All-contains (Contains keys) roots key old has) (λ key has. has) reached.1.chain;
    },
  ),
  λ reached. reached_later roots pages longer addr first reached,
)

-- ---- several keys

first_of : (pages : List (List ℕ)) (roots : List (List ℕ)) (before : List Link) (at : Link) → IsChain pages (Contains roots) (before ++ at ∷ []) → (key : List ℕ) × Contains roots key × IsChain pages (Contains (key ∷ [])) (before ++ at ∷ [])
first_of pages roots [] at is = (at.key, is.0, (contains_first at.key [], is.1, is.2))
first_of pages roots (next ∷ before) at is = (next.key, is.0, (contains_first next.key [], is.1, is.2))

pub by_one : (roots pages : List (List ℕ)) (addr : ℕ) → Reached roots pages addr ↔ ((key : List ℕ) × Contains roots key × Reached (key ∷ []) pages addr)
by_one roots pages addr = (
  λ reached.
      let first = first_of pages roots reached.1.before (link addr reached.0) reached.1.chain in
      (first.0, first.1, (reached.0, record { before = reached.1.before; chain = first.2 })),
  λ one. (
    one.2.0,
    record {
      before = one.2.1.before;
      chain = chain_may pages (Contains (one.0 ∷ [])) (Contains roots) (one.2.1.before ++ link addr one.2.0 ∷ []) (λ key has. only one.0 key roots one.1 has) one.2.1.chain;
    },
  ),
)
  where
    only : (one key : List ℕ) (roots : List (List ℕ)) → Contains roots one → Contains (one ∷ []) key → Contains roots key
    only one key roots has (zero, within, is) = subst (Contains roots) is has
    only one key roots has (suc k, within, is) = absurd (omega (arith, within))
