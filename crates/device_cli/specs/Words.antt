-- The words of a command line.
use Rattle.std.specs.Prelude.{◌≡◌, ◌⊎◌, ◌≤◌, ℕ, List, [], ◌∷◌, codes, drop, Option, None, Some}
use Rattle.script_lang.specs.Grammar.{IsNumber}
use Rattle.device_cli.specs.Given.{AreRecordWords}
use Rattle.device_cli.specs.declared.words.Order.{Order}
use Rattle.device_cli.specs.declared.words.Order.TheVariants as orders

-- no words, or the one word `run`
abbrev pub AreRunWords : List (List ℕ) → Type 0
AreRunWords [] = Unit {0}
AreRunWords (word ∷ []) = word ≡ codes "run"
AreRunWords (word ∷ next ∷ words) = ⊥

-- the one word `check`
abbrev pub AreCheckWords : List (List ℕ) → Type 0
AreCheckWords [] = ⊥
AreCheckWords (word ∷ []) = word ≡ codes "check"
AreCheckWords (word ∷ next ∷ words) = ⊥

-- the word `seize`, and behind it at most 64 words of 256 hex digits each
abbrev pub AreSeizeWords : List (List ℕ) → Type 0
AreSeizeWords [] = ⊥
AreSeizeWords (word ∷ records) = (word ≡ codes "seize") × AreRecordWords records

-- the word `work`, a seed, and how many lines are generated, 1 to 5,000
abbrev pub AreWorkWords : ℕ → ℕ → List (List ℕ) → Type 0
AreWorkWords seed count [] = ⊥
AreWorkWords seed count (word ∷ []) = ⊥
AreWorkWords seed count (word ∷ first ∷ []) = ⊥
AreWorkWords seed count (word ∷ first ∷ second ∷ []) = (word ≡ codes "work") × IsNumber first seed × IsNumber second count × (1 ≤ count) × (count ≤ 5000)
AreWorkWords seed count (word ∷ first ∷ second ∷ third ∷ words) = ⊥

abbrev pub AreSomeWorkWords : List (List ℕ) → Type 0
AreSomeWorkWords words = (seed count : ℕ) × AreWorkWords seed count words

-- the words behind the first one: root records behind `seize`, and none behind `run` and `check`
abbrev pub records_of : List (List ℕ) → List (List ℕ)
records_of words = drop 1 words

-- a form whose work is over a device that is served
abbrev pub AreServingWords : List (List ℕ) → Type 0
AreServingWords words = AreRunWords words ⊎ AreCheckWords words

-- a form whose work is the serving of lines
abbrev pub AreLineWords : List (List ℕ) → Type 0
AreLineWords words = AreRunWords words ⊎ AreSomeWorkWords words

-- one of the forms
abbrev pub AreWords : List (List ℕ) → Type 0
AreWords words = AreServingWords words ⊎ AreSeizeWords words ⊎ AreSomeWorkWords words

-- the words ask for this, or for nothing
abbrev pub Asks : List (List ℕ) → Option Order → Type 0
Asks words (Some orders.Run) = AreRunWords words
Asks words (Some orders.Check) = AreCheckWords words
Asks words (Some orders.Seize) = AreSeizeWords words
Asks words (Some (orders.Work seed count)) = AreWorkWords seed count words
Asks words None = AreWords words → ⊥
