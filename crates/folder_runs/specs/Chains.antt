-- Chains of opening over the pages of two runs: at an address that was lost and handed out anew each run has a page of its own.
use Rattle.std.specs.Prelude.{◌⊎◌, ℕ, List, [], ◌∷◌, ◌++◌, Contains}
use Rattle.key_graph.specs.Chains.{Link, link, OpensAt, YieldsAt, KeyPremises}

-- the key opens the page that one of the two runs has at the address
abbrev pub OpensEither : List (List ℕ) → List (List ℕ) → Link → Type 0
OpensEither first second at = OpensAt first at ⊎ OpensAt second at

-- the key opens the page that one of the two runs has at the address, and yields this other key there
abbrev pub YieldsEither : List (List ℕ) → List (List ℕ) → Link → List ℕ → Type 0
YieldsEither first second at other = YieldsAt first at other ⊎ YieldsAt second at other

-- a chain whose first key may begin it: each key opens a page of one of the runs at its address, and yields the next one there
abbrev pub IsChainOver : List (List ℕ) → List (List ℕ) → (List ℕ → Type 0) → List Link → Type 0
IsChainOver first second May [] = Unit {0}
IsChainOver first second May (at ∷ chain) = May at.key × OpensEither first second at × IsChainOver first second (YieldsEither first second at) chain

-- a chain from one of these keys over the pages of both runs ends at the address
pub record ReachedOver (keys first second : List (List ℕ)) (addr : ℕ) : Type 0 where
  pub key : List ℕ
  pub before : List Link
  pub chain : IsChainOver first second (Contains keys) (before ++ link addr key ∷ [])

-- the same, and its last key opens the page of the first run there
pub record ReachedFirst (keys first second : List (List ℕ)) (addr : ℕ) : Type 0 where
  pub reached : ReachedOver keys first second addr
  pub opens : OpensAt first (link addr reached.key)

-- the premises on keys, over the pages of both runs
pub record PremisesOver (keys first second : List (List ℕ)) : Type 0 where
  pub of_first : KeyPremises keys first
  pub of_second : KeyPremises keys second
