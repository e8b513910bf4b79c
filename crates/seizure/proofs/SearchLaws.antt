-- The search: each key is tried in turn, and at the end nothing is left out.
use Rattle.std.proofs.Common.{◌≡◌, ◌⊎◌, ◌↔◌, ◌<◌, ◌≤◌, ◌+◌, inl, inr, ℕ, List, [], ◌∷◌, ◌++◌, map, length, get_or, refl, sym, ap, subst, ◌∙◌, arith}
use Rattle.std.specs.Prelude.{◌≢◌, All, Contains, Option, None, Some, Result, Ok, Err, MatchOption, IfSome, IfNone, IsOk, IsErrOf, slice_get}
use Rattle.std.proofs.Math.ListN.{get_or-append}
use Rattle.std.proofs.lemmas.Bool.{cases_lt}
use Rattle.std.proofs.lemmas.List.{get_or_default}
use Rattle.std.proofs.lemmas.List.Elements.{All-nil, All-head, All-append, All-weaker, All-map, All-contains, All-get_or, All-contains_itself, Contains-append_left, Contains-append_right, Contains-push, Contains-push_cases}
use Rattle.std.proofs.lemmas.Option.{get_or_from_slice_get}
use Rattle.sdbt_base.specs.Keys.{bare}
use Rattle.seal_record.specs.Sealing.{masked}
use Rattle.key_graph.specs.Opening.{kind_of, block_of}
use Rattle.key_graph.specs.Chains.{Link, link, OpensAt, YieldsAt, ChainEnds, ReachedBody}
use Rattle.key_graph.proofs.ChainLaws.{map_contains}
use Rattle.key_graph.proofs.SeizureLaws.{chain_begins, chain_goes_on, end_opens, keys_found}
use Rattle.seizure.specs.declared.opened.Opened.{Opened}
use Rattle.seizure.specs.Opened.{told_of, IsOrderOf}
use Rattle.root_codec.specs.declared.root.Root.{Root}
use Rattle.root_codec.specs.RootRecord.{root_bytes}
use Rattle.page_store.specs.Roots.{IsRootWithin}
use Rattle.seizure.specs.Report.{Seized, IsSeizure, Holds, roots_of}
use Rattle.seizure.specs.Work.{Gains, HasKey, body_at, HasOneBelow, IsAllReached}
use Rattle.seizure.proofs.WorkLaws.{still_has, gains_then}

-- a key that a chain may go on with
abbrev pub IsFound : List (List ℕ) → List (List ℕ) → List ℕ → Type 0
IsFound roots pages key = Contains roots key ⊎ ((one : Link) × ChainEnds roots pages one × YieldsAt pages one key)

-- what is told of the page that a key opens is in the list, and the keys that it yields there are among those to try
pub record IsDone (pages : List (List ℕ)) (at : Link) (keys : List (List ℕ)) (opened : List Opened) : Type 0 where
  pub told : Contains opened (told_of at.addr (body_at pages at.key at.addr))
  pub yields : (other : List ℕ) → YieldsAt pages at other → Contains keys other

-- a search from these roots, with so many of its keys tried
pub record IsSearched (roots pages keys : List (List ℕ)) (opened : List Opened) (next : ℕ) : Type 0 where
  pub begins : All (Contains keys) roots
  pub found : All (IsFound roots pages) keys
  pub sound : All (λ o. ReachedBody roots pages o.addr o.kind o.block) opened
  pub done : (i : ℕ) (at : Link) → i < next → get_or keys i at.key ≡ at.key → OpensAt pages at → IsDone pages at keys opened

-- a page that is there is the one that a look finds
pub page_is : (pages : List (List ℕ)) (key : List ℕ) (addr : ℕ) (page : List ℕ) → slice_get pages addr ≡ Some page → body_at pages key addr ≡ masked key page
page_is pages key addr page there = ap (masked key) (get_or_from_slice_get pages addr page [] there)

pub ends_at : (roots pages : List (List ℕ)) (addr : ℕ) (key : List ℕ) → IsFound roots pages key → OpensAt pages (link addr key) → ChainEnds roots pages (link addr key)
ends_at roots pages addr key found opens = elim found [
  | inl root ↦ chain_begins roots pages (link addr key) root opens
  | inr on ↦ chain_goes_on roots pages on.0 (link addr key) on.1 on.2 opens
]

body_reached : (roots pages : List (List ℕ)) (addr : ℕ) (key : List ℕ) → IsFound roots pages key → OpensAt pages (link addr key)
    → ReachedBody roots pages addr (kind_of (body_at pages key addr)) (block_of (body_at pages key addr))
body_reached roots pages addr key found opens = record {
  key = key;
  page = opens.page;
  ends = ends_at roots pages addr key found opens;
  there = opens.there;
  kind_is = ap kind_of (page_is pages key addr opens.page opens.there);
  block_is = ap block_of (page_is pages key addr opens.page opens.there);
}

yields_there : (pages : List (List ℕ)) (addr : ℕ) (key other : List ℕ) → OpensAt pages (link addr key) → HasKey (body_at pages key addr) other → YieldsAt pages (link addr key) other
yields_there pages addr key other opens has =
    let is = subst (λ (body : List ℕ). HasKey body other) (page_is pages key addr opens.page opens.there) has in
    record { page = opens.page; there = opens.there; opens = opens.opens; yields = record { entry = is.1.entry; size = is.0; node = is.1.node; within = is.1.within; here = is.1.here } }

has_there : (pages : List (List ℕ)) (at : Link) (other : List ℕ) → YieldsAt pages at other → HasKey (body_at pages at.key at.addr) other
has_there pages at other yields =
    subst (λ (body : List ℕ). HasKey body other) (sym (page_is pages at.key at.addr yields.page yields.there))
    (yields.yields.size, record { entry = yields.yields.entry; node = yields.yields.node; within = yields.yields.within; here = yields.yields.here })

opens_there : (pages : List (List ℕ)) (at : Link) (other : List ℕ) → YieldsAt pages at other → OpensAt pages at
opens_there pages at other yields = record { page = yields.page; there = yields.there; opens = yields.opens }

-- no key was tried
pub searched_none : (roots pages keys : List (List ℕ)) → Gains [] keys (Contains roots) → IsSearched roots pages keys [] 0
searched_none roots pages keys gains = record {
  begins = All-weaker (Contains roots) (Contains keys) gains.each roots (All-contains_itself roots);
  found = subst (All (IsFound roots pages)) (sym gains.gained) (All-weaker (Contains roots) (IsFound roots pages) (λ key has. inl has) gains.more gains.some);
  sound = All-nil (λ (o : Opened). ReachedBody roots pages o.addr o.kind o.block);
  done = λ i at below. absurd (omega arith);
}

-- one more key was tried
pub searched_more : (roots pages keys keys' : List (List ℕ)) (opened opened' : List Opened) (next : ℕ) (key addrs : List ℕ) → IsSearched roots pages keys opened next
    → next < length keys → key ≡ get_or keys next key → ((addr : ℕ) → Contains addrs addr ↔ OpensAt pages (link addr key))
    → opened' ≡ opened ++ map (λ addr. told_of addr (body_at pages key addr)) addrs → Gains keys keys' (HasOneBelow pages key addrs) → IsSearched roots pages keys' opened' (next + 1)
searched_more roots pages keys keys' opened opened' next key addrs is within here all told gains =
    let f : ℕ → Opened = λ addr. told_of addr (body_at pages key addr) in
    let Sound : Opened → Type 0 = λ o. ReachedBody roots pages o.addr o.kind o.block in
    let found : IsFound roots pages key = subst (IsFound roots pages) (sym here) (All-get_or (IsFound roots pages) keys next key within is.found) in
    let still : (k : List ℕ) → Contains keys k → Contains keys' k = λ k has. still_has keys keys' (HasOneBelow pages key addrs) k gains has in
    let kept : (o : Opened) → Contains opened o → Contains opened' o = λ o has. subst (λ (l : List Opened). Contains l o) (sym told) (Contains-append_left opened (map f addrs) o has) in
    record {
      begins = All-weaker (Contains keys) (Contains keys') still roots is.begins;
      found = subst (All (IsFound roots pages)) (sym gains.gained) (All-append (IsFound roots pages) keys gains.more is.found
          (All-weaker (HasOneBelow pages key addrs) (IsFound roots pages)
          (λ other has.
          let opens : OpensAt pages (link has.addr key) = (all has.addr).0 has.inside in
          inr (link has.addr key, ends_at roots pages has.addr key found opens, yields_there pages has.addr key other opens has.has)) gains.more gains.some));
      sound = subst (All Sound) (sym told) (All-append Sound opened (map f addrs) is.sound
          (All-map Sound f addrs (All-weaker (Contains addrs) (λ (addr : ℕ). Sound (f addr)) (λ addr has. body_reached roots pages addr key found ((all addr).0 has)) addrs (All-contains_itself addrs))));
      done = λ i at below is_at opens.
          let early : i < length keys = omega arith in
          let before : get_or keys i at.key ≡ at.key = sym (ap (λ (l : List (List ℕ)). get_or l i at.key) gains.gained ∙ get_or-append keys gains.more at.key i early) ∙ is_at in
          elim (cases_lt i next) [
            | inl old ↦
                let done = is.done i at old before opens in
                record { told = kept (told_of at.addr (body_at pages at.key at.addr)) done.told; yields = λ other yields. still other (done.yields other yields) }
            | inr most ↦
                let last : i ≡ next = omega arith in
                let same : key ≡ at.key = here ∙ get_or_default keys next key at.key within ∙ ap (λ (j : ℕ). get_or keys j at.key) (sym last) ∙ before in
                let inside : Contains addrs at.addr = (all at.addr).1 (subst (λ (k : List ℕ). OpensAt pages (link at.addr k)) (sym same) opens) in
                record {
                  told = subst (λ (k : List ℕ). Contains opened' (told_of at.addr (body_at pages k at.addr))) same
                      (subst (λ (l : List Opened). Contains l (f at.addr)) (sym told) (Contains-append_right opened (map f addrs) (f at.addr) (map_contains f addrs at.addr inside)));
                  yields = λ other yields. gains.each other
                      (record { addr = at.addr; inside = inside; has = subst (λ (k : List ℕ). HasKey (body_at pages k at.addr) other) (sym same) (has_there pages at other yields) });
                }
          ];
    }

same_told : (addr : ℕ) (body : List ℕ) (o : Opened) → kind_of body ≡ o.kind → block_of body ≡ o.block → o.addr ≡ addr → told_of addr body ≡ o
same_told addr body o kind block at = λ i. record { addr = sym at i; kind = kind i; block = block i }

-- every key was tried
pub searched_all : (roots pages keys : List (List ℕ)) (opened : List Opened) (next : ℕ) → IsSearched roots pages keys opened next → length keys ≤ next → IsAllReached roots pages opened
searched_all roots pages keys opened next is all o = (
  λ has. All-contains (λ (o : Opened). ReachedBody roots pages o.addr o.kind o.block) opened o is.sound has,
  λ reached.
      let at : Link = link o.addr reached.key in
      let has : Contains keys reached.key = keys_found roots pages keys at is.begins
      (λ one other has yields. (is.done has.0 one (omega (arith, has.1)) has.2 (opens_there pages one other yields)).yields other yields) reached.ends in
      let done = is.done has.0 at (omega (arith, has.1)) has.2 (end_opens roots pages at reached.ends) in
      let body : body_at pages reached.key o.addr ≡ masked reached.key reached.page = page_is pages reached.key o.addr reached.page reached.there in
      subst (Contains opened) (same_told o.addr (body_at pages reached.key o.addr) o (ap kind_of body ∙ sym reached.kind_is) (ap block_of body ∙ sym reached.block_is) refl) done.told,
)

-- no key is wanted
pub none_wanted : (roots pages keys : List (List ℕ)) (opened : List Opened) → Gains [] keys (Contains roots) → keys ≡ [] → opened ≡ [] → IsAllReached roots pages opened
none_wanted roots pages keys opened gains none nothing =
    searched_all roots pages keys opened 0 (subst (λ (l : List Opened). IsSearched roots pages keys l 0) (sym nothing) (searched_none roots pages keys gains)) (omega (arith, ap length none))

-- the report of all that was reached
pub reported : (roots pages : List (List ℕ)) (opened : List Opened) (seized : Seized) → IsAllReached roots pages opened → IsOrderOf opened seized.opened → seized.pages ≡ length pages → IsSeizure roots pages seized
reported roots pages opened seized all order count = record {
  pages = count;
  exact = λ o. (λ has. (all o).0 ((order.same o).0 has), λ reached. (order.same o).1 ((all o).1 reached));
  ascends = order.ascends;
}

-- the root record's key, after those that were given
pub gains_root : (keys wanted more : List (List ℕ)) (root : Option Root) → Gains [] wanted (Contains (map bare keys))
    → MatchOption root (more ≡ wanted) (λ r. Gains wanted more (λ key. key ≡ bare r.key)) → Gains [] more (Contains (roots_of keys root))
gains_root keys wanted more None gains same = subst (λ (l : List (List ℕ)). Gains [] l (Contains (map bare keys))) (sym same) gains
gains_root keys wanted more (Some root) gains one =
    let given = map bare keys in
    let own = bare root.key in
    gains_then [] wanted more (Contains given) (λ key. key ≡ own) (Contains (given ++ own ∷ [])) gains one (Contains-append_left given (own ∷ []))
    (λ key same. subst (Contains (given ++ own ∷ [])) (sym same) (Contains-push given own))
    (λ key has. elim (Contains-push_cases given own key has) [ inl before ↦ inl before | inr same ↦ inr (sym same) ])

-- with no key and an empty cell, none is wanted
no_more : (more : List (List ℕ)) → All (Contains []) more → more ≡ []
no_more [] all = refl
no_more (key ∷ more) all = absurd (omega (arith, (All-head (Contains []) key more all).1))

some_none : {A : Type 0} (x : A) → Some x ≡ None → ⊥
some_none x same = cc

pub nothing_wanted : (wanted roots : List (List ℕ)) → Gains [] wanted (Contains roots) → roots ≡ [] → wanted ≡ []
nothing_wanted wanted roots gains none = gains.gained ∙ no_more gains.more (subst (λ (l : List (List ℕ)). All (Contains l) gains.more) none gains.some)

pub root_none : (cell : Option (List ℕ)) (root : Option Root) → cell ≡ None → IfSome root (λ r. cell ≡ Some (root_bytes r)) → root ≡ None
root_none cell None empty is = refl
root_none cell (Some root) empty is = absurd (some_none (root_bytes root) (sym is ∙ empty))

-- the cell holds what a look at it found
pub holds_found : (head : ℕ) (cell : Option (List ℕ)) (root : Option Root) → IfSome root (λ r. cell ≡ Some (root_bytes r)) → IfSome root (IsRootWithin head) → IfNone root (cell ≡ None) → Holds head cell root
holds_found head cell None found within none = none
holds_found head cell (Some root) found within none = (within, found)

pushed_some : (keys : List (List ℕ)) (key : List ℕ) → keys ++ key ∷ [] ≢ []
pushed_some [] key none = cc
pushed_some (first ∷ keys) key none = cc

-- chains begin with the keys that are given
pub given_some : (keys : List (List ℕ)) (root : Option Root) → keys ≢ [] → roots_of keys root ≢ []
given_some [] root some none = some refl
given_some (key ∷ keys) None some none = cc
given_some (key ∷ keys) (Some root) some none = cc

-- and with that of a root record
pub root_some : (keys : List (List ℕ)) (root : Root) → roots_of keys (Some root) ≢ []
root_some keys root = pushed_some (map bare keys) (bare root.key)

err_not_ok : (T : Type 0) {E : Type 0} (e : E) → (let result : Result T E = Err e in IsOk result) → ⊥
err_not_ok T e is = cc

-- where none is wanted the call is done, and so lacks no memory
pub some_wanted : {T E : Type 0} (result : Result T E) (refusal : E) (wanted roots : List (List ℕ)) → Gains [] wanted (Contains roots) → (wanted ≡ [] → IsOk result) → IsErrOf result refusal → roots ≢ []
some_wanted (Ok done) refusal wanted roots gains is_done err none = cc
some_wanted {T = T} (Err e) refusal wanted roots gains is_done err none = err_not_ok T e (is_done (nothing_wanted wanted roots gains none))
