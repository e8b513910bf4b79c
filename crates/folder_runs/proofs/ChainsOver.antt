-- Chains over the pages of two runs, of which the second began with the first pages of the first.
use Rattle.std.proofs.Common.{◌≡◌, inl, inr, ℕ, zero, suc, ◌+◌, ◌<◌, List, [], ◌∷◌, ◌++◌, length, take, get_or, refl, sym, ◌∙◌, ap, subst, arith, length-append}
use Rattle.std.specs.Prelude.{Some, All, Contains, slice_get}
use Rattle.std.proofs.lemmas.Bool.{cases_lt}
use Rattle.std.proofs.lemmas.Option.{slice_get_within}
use Rattle.std.proofs.lemmas.List.{take_all, get_or_append_left}
use Rattle.std.proofs.lemmas.List.Elements.{All-contains, Contains-append_left, Contains-append_right}
use Rattle.seal_record.specs.Sealing.{Opens}
use Rattle.key_graph.specs.Opening.{Yields}
use Rattle.key_graph.specs.Chains.{Link, link, OpensAt, YieldsAt, IsChain, Reached, Distinct, KeyPremises}
use Rattle.key_graph.specs.OwnKeys.{HaveOwnKeys}
use Rattle.key_graph.specs.Maps.{keys_of, IsClosed, AreListed, AreFirst, AreOpenedBy}
use Rattle.key_graph.proofs.ChainLaws.{contains_at, contains_map, front_reads, opens_later, yields_later, one_page}
use Rattle.page_store.proofs.DisclosingLaws.{first_premises}
use Rattle.folder_runs.specs.Chains.{OpensEither, YieldsEither, IsChainOver, ReachedOver, ReachedFirst, PremisesOver}

-- ---- lists

get_or-behind : (xs ys : List (List ℕ)) (i : ℕ) (d : List ℕ) → get_or (xs ++ ys) (length xs + i) d ≡ get_or ys i d
get_or-behind [] ys i d = let same : zero + i ≡ i = omega arith in ap (λ (n : ℕ). get_or ys n d) same
get_or-behind (x ∷ xs) ys i d = let same : length (x ∷ xs) + i ≡ suc (length xs + i) = omega arith in ap (λ (n : ℕ). get_or (x ∷ (xs ++ ys)) n d) same ∙ get_or-behind xs ys i d

-- no key stands in both parts of a list in which none stands twice
apart : (keys more : List (List ℕ)) (key : List ℕ) → Distinct (keys ++ more) → Contains keys key → Contains more key → ⊥
apart keys more key distinct (i, below, here) (j, below', there) =
    distinct i (length keys + j) key (omega (arith, below)) (omega (arith, below', length-append keys more))
    (get_or_append_left keys more key i below ∙ (here ∙ sym (get_or-behind keys more j key ∙ there)))

pub first_reads : (n : ℕ) (pages : List (List ℕ)) (addr : ℕ) → addr < n → slice_get (take n pages) addr ≡ slice_get pages addr
first_reads zero pages addr below = absurd (omega arith)
first_reads (suc n) [] addr below = refl
first_reads (suc n) (page ∷ pages) zero below = refl
first_reads (suc n) (page ∷ pages) (suc addr) below = first_reads n pages addr (omega arith)

-- a page of the longer list that lies in the first part is one of that
front_has : (front longer : List (List ℕ)) (addr : ℕ) (page : List ℕ) → AreFirst front longer → addr < length front → slice_get longer addr ≡ Some page → slice_get front addr ≡ Some page
front_has front longer addr page first below there =
    ap (λ (pages : List (List ℕ)). slice_get pages addr) (sym first) ∙ (first_reads (length front) longer addr below ∙ there)

-- ---- chains over both

-- a chain over the pages of one of the runs
chain_over : (pages first second : List (List ℕ)) (May May' : List ℕ → Type 0) (chain : List Link)
    → ((at : Link) → OpensAt pages at → OpensEither first second at) → ((at : Link) (other : List ℕ) → YieldsAt pages at other → YieldsEither first second at other)
    → ((key : List ℕ) → May key → May' key) → IsChain pages May chain → IsChainOver first second May' chain
chain_over pages first second May May' [] opens yields weaker is = tt
chain_over pages first second May May' (at ∷ chain) opens yields weaker is =
    (weaker at.key is.0, opens at is.1, chain_over pages first second (YieldsAt pages at) (YieldsEither first second at) chain opens yields (λ other y. yields at other y) is.2)

pub over_first : (roots first second : List (List ℕ)) (addr : ℕ) → Reached roots first addr → ReachedOver roots first second addr
over_first roots first second addr (key, ends) = record {
  key = key;
  before = ends.before;
  chain = chain_over first first second (Contains roots) (Contains roots) (ends.before ++ link addr key ∷ []) (λ at o. inl o) (λ at other y. inl y) (λ k has. has) ends.chain;
}

pub over_second : (roots first second : List (List ℕ)) (addr : ℕ) → Reached roots second addr → ReachedOver roots first second addr
over_second roots first second addr (key, ends) = record {
  key = key;
  before = ends.before;
  chain = chain_over second first second (Contains roots) (Contains roots) (ends.before ++ link addr key ∷ []) (λ at o. inr o) (λ at other y. inr y) (λ k has. has) ends.chain;
}

-- pages that came later
chain_grows : (first second later : List (List ℕ)) (May May' : List ℕ → Type 0) (chain : List Link) → AreFirst second later → ((key : List ℕ) → May key → May' key) → IsChainOver first second May chain → IsChainOver first later May' chain
chain_grows first second later May May' [] front weaker is = tt
chain_grows first second later May May' (at ∷ chain) front weaker is = (
  weaker at.key is.0,
  opens is.1,
  chain_grows first second later (YieldsEither first second at) (YieldsEither first later at) chain front yields is.2,
)
  where
    opens : OpensEither first second at → OpensEither first later at
    opens (inl o) = inl o
    opens (inr o) = inr (opens_later second later at front o)

    yields : (other : List ℕ) → YieldsEither first second at other → YieldsEither first later at other
    yields other (inl y) = inl y
    yields other (inr y) = inr (yields_later second later at other front y)

pub over_grows : (roots first second later : List (List ℕ)) (addr : ℕ) → AreFirst second later → ReachedOver roots first second addr → ReachedOver roots first later addr
over_grows roots first second later addr front r = record {
  key = r.key;
  before = r.before;
  chain = chain_grows first second later (Contains roots) (Contains roots) (r.before ++ link addr r.key ∷ []) front (λ k has. has) r.chain;
}

pub first_grows : (roots first second later : List (List ℕ)) (addr : ℕ) → AreFirst second later → ReachedFirst roots first second addr → ReachedFirst roots first later addr
unfolding over_grows
first_grows roots first second later addr front r = record { reached = over_grows roots first second later addr front r.reached; opens = r.opens }

-- ---- keys of the first run open none but its pages

module _ (keys two first front second : List (List ℕ)) (begins : AreFirst front first) (goes_on : AreFirst front second) (own : HaveOwnKeys keys first) (added : AreOpenedBy two front second) (premises : PremisesOver (keys ++ two) first second) where
  old_page : (at : Link) (page : List ℕ) → Contains keys at.key → slice_get second at.addr ≡ Some page → Opens at.key at.addr page → slice_get front at.addr ≡ Some page
  old_page at page has there opens = elim (cases_lt at.addr (length front)) [
    | inl below ↦ front_has front second at.addr page goes_on below there
    | inr behind ↦
        let found = added at.addr page behind there in
        let same : at.key ≡ found.0 = premises.of_second.one_opener at.addr at.key found.0 (Contains-append_left keys two at.key has) (Contains-append_right keys two found.0 found.1)
        (record { page = page; there = there; opens = opens }) (record { page = page; there = there; opens = found.2 }) in
        absurd (apart keys two found.0 premises.of_first.distinct (subst (Contains keys) same has) found.1)
  ]

  premises_first : KeyPremises keys first
  premises_first = first_premises keys two first first (take_all (length first) first (omega arith)) premises.of_first

  opens_first : (at : Link) → Contains keys at.key → OpensEither first second at → OpensAt first at
  opens_first at has (inl o) = o
  opens_first at has (inr o) = record { page = o.page; there = front_reads front first at.addr o.page begins (old_page at o.page has o.there o.opens); opens = o.opens }

  yields_first : (at : Link) (other : List ℕ) → Contains keys at.key → YieldsEither first second at other → YieldsAt first at other
  yields_first at other has (inl y) = y
  yields_first at other has (inr y) = record { page = y.page; there = front_reads front first at.addr y.page begins (old_page at y.page has y.there y.opens); opens = y.opens; yields = y.yields }

  -- what such a page yields is a key of the first run
  yields_own : (at : Link) (other : List ℕ) → Contains keys at.key → YieldsAt first at other → Contains keys other
  yields_own at other has yields =
      let sealed = own.sealed at.addr yields.page yields.there in
      let same : sealed.key ≡ at.key = premises_first.one_opener at.addr sealed.key at.key (contains_at keys (own.position at.addr) sealed.key sealed.listed) has
      (record { page = yields.page; there = yields.there; opens = sealed.opens }) (record { page = yields.page; there = yields.there; opens = yields.opens }) in
      sealed.yields other (subst (λ (k : List ℕ). Yields k yields.page other) (sym same) yields.yields)

  chain_first : (May May' : List ℕ → Type 0) (chain : List Link) → ((key : List ℕ) → May key → Contains keys key) → ((key : List ℕ) → May key → May' key) → IsChainOver first second May chain → IsChain first May' chain
  chain_first May May' [] old weaker is = tt
  chain_first May May' (at ∷ chain) old weaker is =
      let has = old at.key is.0 in (
        weaker at.key is.0,
        opens_first at has is.1,
        chain_first (YieldsEither first second at) (YieldsAt first at) chain (λ other y. yields_own at other has (yields_first at other has y)) (λ other y. yields_first at other has y) is.2,
      )

  -- keys of the first run reach what they reach over its pages
  pub reached_first : (roots : List (List ℕ)) → All (Contains keys) roots → (addr : ℕ) → ReachedOver roots first second addr → Reached roots first addr
  reached_first roots all addr r = (
    r.key,
    record {
      before = r.before;
      chain = chain_first (Contains roots) (Contains roots) (r.before ++ link addr r.key ∷ []) (λ key has. All-contains (Contains keys) roots key all has) (λ key has. has) r.chain;
    },
  )

  -- ---- keys of a map over the pages of the second run open none of the first that was lost

  module _ (roots : List (List ℕ)) (links : List Link) (closed : IsClosed second roots links) (listed : AreListed (keys ++ two) links) (all_own : HaveOwnKeys (keys ++ two) second) where
    -- the key opens a page of the second run, and it is a key of both
    record IsOfMap (key : List ℕ) : Type 0 where
      pub known : Contains (keys ++ two) key
      pub addr : ℕ
      pub opens : OpensAt second (link addr key)
      pub in_links : Contains links (link addr key)

    of_map : (key : List ℕ) → Contains (keys_of links) key → IsOfMap key
    of_map key has =
        let found = contains_map (λ (l : Link). l.key) links key has in
        subst IsOfMap found.2 (record {
          known = All-contains (λ (l : Link). Contains (keys ++ two) l.key) links found.0 listed found.1;
          addr = found.0.addr;
          opens = All-contains (OpensAt second) links found.0 closed.opens found.1;
          in_links = found.1;
        })

    kept_page : (at : Link) (page : List ℕ) → Contains (keys_of links) at.key → slice_get first at.addr ≡ Some page → Opens at.key at.addr page → slice_get front at.addr ≡ Some page
    kept_page at page has there opens = elim (cases_lt at.addr (length front)) [
      | inl below ↦ front_has front first at.addr page begins below there
      | inr behind ↦
          let of = of_map at.key has in
          let sealed = own.sealed at.addr page there in
          let its = contains_at keys (own.position at.addr) sealed.key sealed.listed in
          let same : sealed.key ≡ at.key = premises.of_first.one_opener at.addr sealed.key at.key (Contains-append_left keys two sealed.key its) of.known
          (record { page = page; there = there; opens = sealed.opens }) (record { page = page; there = there; opens = opens }) in
          let mine : Contains keys at.key = subst (Contains keys) same its in
          let back : slice_get front of.addr ≡ Some of.opens.page = old_page (link of.addr at.key) of.opens.page mine of.opens.there of.opens.opens in
          let below = slice_get_within front of.addr of.opens.page back in
          let one : of.addr ≡ at.addr = one_page keys first of.addr at.addr at.key own premises_first.distinct premises_first.one_opener mine
          (record { page = of.opens.page; there = front_reads front first of.addr of.opens.page begins back; opens = of.opens.opens }) (record { page = page; there = there; opens = opens }) in
          absurd (omega (arith, below, behind, one))
    ]

    opens_second : (at : Link) → Contains (keys_of links) at.key → OpensEither first second at → OpensAt second at
    opens_second at has (inr o) = o
    opens_second at has (inl o) = record { page = o.page; there = front_reads front second at.addr o.page goes_on (kept_page at o.page has o.there o.opens); opens = o.opens }

    yields_second : (at : Link) (other : List ℕ) → Contains (keys_of links) at.key → YieldsEither first second at other → YieldsAt second at other
    yields_second at other has (inr y) = y
    yields_second at other has (inl y) = record { page = y.page; there = front_reads front second at.addr y.page goes_on (kept_page at y.page has y.there y.opens); opens = y.opens; yields = y.yields }

    same_link : (at : Link) (addr : ℕ) → addr ≡ at.addr → link addr at.key ≡ at
    same_link at addr same = λ i. record { addr = same i; key = at.key }

    in_links : (at : Link) → Contains (keys_of links) at.key → OpensAt second at → Contains links at
    in_links at has opens =
        let of = of_map at.key has in
        let one : of.addr ≡ at.addr = one_page (keys ++ two) second of.addr at.addr at.key all_own premises.of_second.distinct premises.of_second.one_opener of.known of.opens opens in
        subst (Contains links) (same_link at of.addr one) of.in_links

    yields_in : (at : Link) (other : List ℕ) → Contains (keys_of links) at.key → OpensAt second at → YieldsAt second at other → Contains (keys_of links) other
    yields_in at other has opens yields = All-contains (λ (l : Link). (key : List ℕ) → YieldsAt second l key → Contains (keys_of links) key) links at closed.yields (in_links at has opens) other yields

    chain_second : (May May' : List ℕ → Type 0) (chain : List Link) → ((key : List ℕ) → May key → Contains (keys_of links) key) → ((key : List ℕ) → May key → May' key) → IsChainOver first second May chain → IsChain second May' chain
    chain_second May May' [] may weaker is = tt
    chain_second May May' (at ∷ chain) may weaker is =
        let has = may at.key is.0 in
        let opens = opens_second at has is.1 in (
          weaker at.key is.0,
          opens,
          chain_second (YieldsEither first second at) (YieldsAt second at) chain (λ other y. yields_in at other has opens (yields_second at other has y)) (λ other y. yields_second at other has y) is.2,
        )

    last_in : (May : List ℕ → Type 0) (before : List Link) (at : Link) → ((key : List ℕ) → May key → Contains (keys_of links) key) → IsChainOver first second May (before ++ at ∷ []) → Contains (keys_of links) at.key
    last_in May [] at may is = may at.key is.0
    last_in May (next ∷ before) at may is =
        let has = may next.key is.0 in
        let opens = opens_second next has is.1 in
        last_in (YieldsEither first second next) before at (λ other y. yields_in next other has opens (yields_second next other has y)) is.2

    begin : (key : List ℕ) → Contains roots key → Contains (keys_of links) key
    begin key has = All-contains (Contains (keys_of links)) roots key closed.begins has

    -- the roots of the map reach what they reach over the pages of the second run
    pub reached_second : (addr : ℕ) → ReachedOver roots first second addr → Reached roots second addr
    reached_second addr r = (r.key, record { before = r.before; chain = chain_second (Contains roots) (Contains roots) (r.before ++ link addr r.key ∷ []) begin (λ key has. has) r.chain })

    -- and no page that was lost
    pub reached_kept : (addr : ℕ) → ReachedFirst roots first second addr → addr < length front
    reached_kept addr r =
        let has = last_in (Contains roots) r.reached.before (link addr r.reached.key) begin r.reached.chain in
        slice_get_within front addr r.opens.page (kept_page (link addr r.reached.key) r.opens.page has r.opens.there r.opens.opens)
