-- What a seizure needs, which tries each key that it found on every page.
use Rattle.std.proofs.Common.{ℕ, List, [], ◌∷◌, ◌++◌, sym, subst, append_assoc}
use Rattle.std.specs.Prelude.{All, Contains}
use Rattle.std.proofs.lemmas.List.Elements.{All-contains}
use Rattle.key_graph.specs.Chains.{Link, OpensAt, YieldsAt, IsChain, ChainEnds}

-- a chain begins
pub chain_begins : (roots pages : List (List ℕ)) (at : Link) → Contains roots at.key → OpensAt pages at → ChainEnds roots pages at
chain_begins roots pages at has opens = record { before = []; chain = (has, opens, tt) }

-- and goes on
chain_on : (pages : List (List ℕ)) (May : List ℕ → Type 0) (before : List Link) (at next : Link) → IsChain pages May (before ++ at ∷ []) → YieldsAt pages at next.key → OpensAt pages next → IsChain pages May (before ++ (at ∷ next ∷ []))
chain_on pages May [] at next is yields opens = (is.0, is.1, (yields, opens, tt))
chain_on pages May (first ∷ before) at next is yields opens = (is.0, is.1, chain_on pages (YieldsAt pages first) before at next is.2 yields opens)

pub chain_goes_on : (roots pages : List (List ℕ)) (at next : Link) → ChainEnds roots pages at → YieldsAt pages at next.key → OpensAt pages next → ChainEnds roots pages next
chain_goes_on roots pages at next ends yields opens = record {
  before = ends.before ++ at ∷ [];
  chain = subst (IsChain pages (Contains roots)) (sym (append_assoc ends.before (at ∷ []) (next ∷ []))) (chain_on pages (Contains roots) ends.before at next ends.chain yields opens);
}

-- where nothing leads out of what was found, that is all
all_found : (pages : List (List ℕ)) (found : List Link) (May : List ℕ → Type 0) (before : List Link) (at : Link) → ((next : Link) → May next.key → OpensAt pages next → Contains found next) → ((one next : Link) → Contains found one → YieldsAt pages one next.key → OpensAt pages next → Contains found next) → IsChain pages May (before ++ at ∷ []) → Contains found at
all_found pages found May [] at begins goes_on is = begins at is.0 is.1
all_found pages found May (first ∷ before) at begins goes_on is =
    all_found pages found (YieldsAt pages first) before at (λ next. goes_on first next (begins first is.0 is.1)) goes_on is.2

pub chains_found : (roots pages : List (List ℕ)) (found : List Link) (at : Link) → ((next : Link) → Contains roots next.key → OpensAt pages next → Contains found next) → ((one next : Link) → Contains found one → YieldsAt pages one next.key → OpensAt pages next → Contains found next) → ChainEnds roots pages at → Contains found at
chains_found roots pages found at begins goes_on ends = all_found pages found (Contains roots) ends.before at begins goes_on ends.chain

-- the last key of a chain opens the page at its end
chain_opens : (pages : List (List ℕ)) (May : List ℕ → Type 0) (before : List Link) (at : Link) → IsChain pages May (before ++ at ∷ []) → OpensAt pages at
chain_opens pages May [] at is = is.1
chain_opens pages May (first ∷ before) at is = chain_opens pages (YieldsAt pages first) before at is.2

pub end_opens : (roots pages : List (List ℕ)) (at : Link) → ChainEnds roots pages at → OpensAt pages at
end_opens roots pages at ends = chain_opens pages (Contains roots) ends.before at ends.chain

-- and is one of any list that has the roots and what its keys yield
chain_keys : (pages keys : List (List ℕ)) (May : List ℕ → Type 0) (before : List Link) (at : Link) → ((key : List ℕ) → May key → Contains keys key)
    → ((one : Link) (other : List ℕ) → Contains keys one.key → YieldsAt pages one other → Contains keys other) → IsChain pages May (before ++ at ∷ []) → Contains keys at.key
chain_keys pages keys May [] at begins goes_on is = begins at.key is.0
chain_keys pages keys May (first ∷ before) at begins goes_on is =
    chain_keys pages keys (YieldsAt pages first) before at (λ other. goes_on first other (begins first.key is.0)) goes_on is.2

pub keys_found : (roots pages keys : List (List ℕ)) (at : Link) → All (Contains keys) roots
    → ((one : Link) (other : List ℕ) → Contains keys one.key → YieldsAt pages one other → Contains keys other) → ChainEnds roots pages at → Contains keys at.key
keys_found roots pages keys at begins goes_on ends =
    chain_keys pages keys (Contains roots) ends.before at (λ key has. All-contains (Contains keys) roots key begins has) goes_on ends.chain
