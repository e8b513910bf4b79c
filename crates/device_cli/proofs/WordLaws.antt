-- Which words name a script.
use Rattle.std.proofs.Common.{◌≡◌, ℕ, ◌≤◌, List, [], ◌∷◌, inl, inr, sym, ◌∙◌, ap, arith}
use Rattle.std.specs.Prelude.{codes}
use Rattle.std.specs.Str.Parse.{digits_value}
use Rattle.std.proofs.lemmas.Fmt.{decimal_is_IsNumeral}
use Rattle.script_lang.specs.Grammar.{IsNumber}
use Rattle.device_cli.specs.Words.{AreWords, AreRunWords, AreServingWords, AreWorkWords}

-- a text is one number's
one_number : (text : List ℕ) (a b : ℕ) → IsNumber text a → IsNumber text b → a ≡ b
one_number text a b p q = sym (decimal_is_IsNumeral a p.0).1 ∙ ap (digits_value 10) (sym p.1 ∙ q.1) ∙ (decimal_is_IsNumeral b q.0).1

-- the words behind `work` name a script where they are numbers, the second one 1 to 5,000
pub script_words : (first second : List ℕ) → AreWords (codes "work" ∷ first ∷ second ∷ []) → (seed count : ℕ) × IsNumber first seed × IsNumber second count × (1 ≤ count) × (count ≤ 5000)
script_words first second (inl (inl run)) = absurd run
script_words first second (inl (inr check)) = absurd check
script_words first second (inr (inl seize)) = cc
script_words first second (inr (inr (seed, count, work))) = (seed, count, work.1, work.2, work.3, work.4)

-- no other number of lines is asked for
pub not_so_many : (first second : List ℕ) (lines : ℕ) → IsNumber second lines → ((1 ≤ lines) → (lines ≤ 5000) → ⊥) → AreWords (codes "work" ∷ first ∷ second ∷ []) → ⊥
not_so_many first second lines is never words =
    let named = script_words first second words in
    let same : named.1 ≡ lines = one_number second named.1 lines named.3 is in
    never (omega (arith, same, named.4)) (omega (arith, same, named.5))

-- words name one script
pub one_script : (words : List (List ℕ)) (seed count other lines : ℕ) → AreWorkWords seed count words → AreWorkWords other lines words → (seed ≡ other) × (count ≡ lines)
one_script [] seed count other lines p q = absurd p
one_script (word ∷ []) seed count other lines p q = absurd p
one_script (word ∷ first ∷ []) seed count other lines p q = absurd p
one_script (word ∷ first ∷ second ∷ []) seed count other lines p q = (one_number first seed other p.1 q.1, one_number second count lines p.2 q.2)
one_script (word ∷ first ∷ second ∷ third ∷ words) seed count other lines p q = absurd p

-- they are none that serve the input's script
pub not_run : (words : List (List ℕ)) (seed count : ℕ) → AreWorkWords seed count words → AreRunWords words → ⊥
not_run [] seed count p q = absurd p
not_run (word ∷ []) seed count p q = absurd p
not_run (word ∷ first ∷ []) seed count p q = absurd q
not_run (word ∷ first ∷ second ∷ words) seed count p q = absurd q

pub not_serving : (words : List (List ℕ)) (seed count : ℕ) → AreWorkWords seed count words → AreServingWords words → ⊥
not_serving words seed count p (inl q) = not_run words seed count p q
not_serving [] seed count p (inr q) = absurd p
not_serving (word ∷ []) seed count p (inr q) = absurd p
not_serving (word ∷ first ∷ []) seed count p (inr q) = absurd q
not_serving (word ∷ first ∷ second ∷ words) seed count p (inr q) = absurd q

pub at_most : (words : List (List ℕ)) (seed count : ℕ) → AreWorkWords seed count words → count ≤ 5000
at_most [] seed count p = absurd p
at_most (word ∷ []) seed count p = absurd p
at_most (word ∷ first ∷ []) seed count p = absurd p
at_most (word ∷ first ∷ second ∷ []) seed count p = p.4
at_most (word ∷ first ∷ second ∷ third ∷ words) seed count p = absurd p
