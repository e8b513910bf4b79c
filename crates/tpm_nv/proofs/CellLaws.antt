-- Texts and their marks.
use Rattle.std.proofs.Common.{◌≡◌, ◌≢◌, ℕ, zero, suc, ◌<◌, ◌≤◌, ◌^◌, List, [], ◌∷◌, ◌++◌, Option, None, Some, IfSome, IfNone, Result, Ok, Err, length, get_or, refl, sym, ap, ◌∙◌, subst, arith, length-append}
use Rattle.std.specs.Prelude.{codes}
use Rattle.std.specs.Option.{IsSomeAnd}
use Rattle.std.specs.Result.{OkIff, result_ok}
use Rattle.std.specs.Char.{digit_value}
use Rattle.std.specs.Str.Parse.{AllDigits, IsNumeral, digits_value, ParsesUnsigned}
use Rattle.std.proofs.lemmas.Str.Pattern.{IsSplitOnceResult, split_after, split_parts}
use Rattle.std.proofs.lemmas.Str.Parse.{without_leading_plus_none}
use Rattle.std.proofs.Math.Seq.{get_or-append_seam}
use denote.Ref.{Bor}
use Rattle.tpm_nv.specs.Cells.{Lacks, IsHexNumber, IsIndexText, SpellsOnTpm}

-- ---- the first mark of a text

pub cut_found : (mark : ℕ) (text : List ℕ) (cut : Option (Bor (List ℕ) × Bor (List ℕ))) → mark < 128 → IsSplitOnceResult mark text cut
    → IfSome cut (λ parts. Lacks mark parts.0.now × (text ≡ parts.0.now ++ mark ∷ parts.1.now))
cut_found mark text None below is = tt
cut_found mark text (Some parts) below is = let h = split_parts mark text (Some parts) is below in (h.1, h.0)

pub cut_only : (mark : ℕ) (text a b : List ℕ) (cut : Option (Bor (List ℕ) × Bor (List ℕ))) → mark < 128 → IsSplitOnceResult mark text cut → Lacks mark a → text ≡ a ++ mark ∷ b
    → IsSomeAnd cut (λ parts. (parts.0.now ≡ a) × (parts.1.now ≡ b))
cut_only mark text a b None below is lacks same = split_after mark text a b None is below same lacks
cut_only mark text a b (Some parts) below is lacks same = split_after mark text a b (Some parts) is below same lacks

pub cut_none : (mark : ℕ) (text : List ℕ) (cut : Option (Bor (List ℕ) × Bor (List ℕ))) → mark < 128 → IsSplitOnceResult mark text cut → IfNone cut (Lacks mark text)
cut_none mark text None below is = split_parts mark text None is below
cut_none mark text (Some parts) below is = tt

-- ---- which bytes stand where

pub lacks_cons : (mark byte : ℕ) (text : List ℕ) → byte ≢ mark → Lacks mark text → Lacks mark (byte ∷ text)
lacks_cons mark byte text other lacks zero within = other
lacks_cons mark byte text other lacks (suc i) within = lacks i (omega (arith, within))

pub lacks_nil : (mark : ℕ) → Lacks mark []
lacks_nil mark i within = absurd (omega (arith, within))

-- a mark that is no digit
pub digits_lack : (mark : ℕ) (text : List ℕ) → 16 ≤ digit_value mark → AllDigits 16 text → Lacks mark text
digits_lack mark [] above all = lacks_nil mark
digits_lack mark (c ∷ cs) above all =
    lacks_cons mark c cs (λ same. omega (arith, all.0, above, ap digit_value same)) (digits_lack mark cs above all.1)

pub index_lacks_at : (text : List ℕ) (index : ℕ) → IsIndexText text index → Lacks 64 text
index_lacks_at text index is =
    subst (Lacks 64) (sym is.spelled)
    (lacks_cons 64 48 (120 ∷ is.digits) (omega arith) (lacks_cons 64 120 is.digits (omega arith) (digits_lack 64 is.digits (omega arith) is.number.numeral.1)))

pub tpm_lacks_colon : Lacks 58 (codes "tpm")
tpm_lacks_colon = lacks_cons 58 116 (112 ∷ 109 ∷ []) (omega arith) (lacks_cons 58 112 (109 ∷ []) (omega arith) (lacks_cons 58 109 [] (omega arith) (lacks_nil 58)))

pub zero_lacks_x : Lacks 120 (codes "0")
zero_lacks_x = lacks_cons 120 48 [] (omega arith) (lacks_nil 120)

-- ---- numbers

pub no_plus : (digits : List ℕ) → AllDigits 16 digits → get_or digits 0 0 ≢ 43
no_plus [] all same = absurd (omega (arith, same))
no_plus (c ∷ cs) all same = omega (arith, all.0, ap digit_value same)

pub reads : {E : Type 0} (digits : List ℕ) (read : Result ℕ E) → get_or digits 0 0 ≢ 43 → ParsesUnsigned 32 16 digits read
    → OkIff read (IsNumeral 16 digits × (digits_value 16 digits < 2 ^ 32)) (digits_value 16 digits)
reads digits read other is =
    subst (λ (ds : List ℕ). OkIff read (IsNumeral 16 ds × (digits_value 16 ds < 2 ^ 32)) (digits_value 16 ds)) (without_leading_plus_none digits other) is

pub hex_found : {E : Type 0} (digits : List ℕ) (read : Result ℕ E) → length digits ≤ 8
    → OkIff read (IsNumeral 16 digits × (digits_value 16 digits < 2 ^ 32)) (digits_value 16 digits) → IfSome (result_ok read) (IsHexNumber digits)
hex_found digits (Ok n) short is = record { numeral = is.0.0; short = short; value = sym is.1 }
hex_found digits (Err e) short is = tt

pub hex_only : {E : Type 0} (digits : List ℕ) (read : Result ℕ E) (n : ℕ) → n < 2 ^ 32
    → OkIff read (IsNumeral 16 digits × (digits_value 16 digits < 2 ^ 32)) (digits_value 16 digits) → IsHexNumber digits n → result_ok read ≡ Some n
hex_only digits (Ok m) n below is number = ap Some (is.1 ∙ number.value)
hex_only digits (Err e) n below is number = absurd (is (number.numeral, omega (arith, number.value)))

-- ---- words

-- where a mark stands, the text doesn't lack it
pub has_mark : (mark : ℕ) (a b text : List ℕ) → text ≡ a ++ mark ∷ b → Lacks mark text → ⊥
has_mark mark a b text same lacks =
    lacks (length a) (omega (arith, ap length same, length-append a (mark ∷ b))) (ap (λ (xs : List ℕ). get_or xs (length a) 0) same ∙ get_or-append_seam a mark b 0)

-- what stands behind `tpm:` is one thing
pub rest_same : (word a b : List ℕ) → word ≡ codes "tpm:" ++ a → word ≡ codes "tpm:" ++ b → a ≡ b
rest_same word a b is is' = cc

-- the text of an index is one number's
pub one_index : (text : List ℕ) (m n : ℕ) → IsIndexText text m → IsIndexText text n → m ≡ n
one_index text m n is is' =
    let same : is.digits ≡ is'.digits = cc (is.spelled, is'.spelled) in
    sym is.number.value ∙ ap (digits_value 16) same ∙ is'.number.value

-- where no mark stands, no device is named
pub no_device : (rest : List ℕ) (index : ℕ) (device : Option (List ℕ)) → Lacks 64 rest → SpellsOnTpm rest index device → (device ≡ None) × IsIndexText rest index
no_device rest index None lacks is = (refl, is)
no_device rest index (Some device) lacks is = absurd (has_mark 64 is.0 device rest is.3 lacks)

-- where one stands, what is before it is the index, and what is behind it the device
pub record Named (text device : List ℕ) (index : ℕ) (named : Option (List ℕ)) : Type 0 where
  pub same : named ≡ Some device
  pub some : 1 ≤ length device
  pub number : IsIndexText text index

pub a_device : (rest text device : List ℕ) (index : ℕ) (named : Option (List ℕ)) → rest ≡ text ++ 64 ∷ device
    → ((a b : List ℕ) → Lacks 64 a → rest ≡ a ++ 64 ∷ b → (text ≡ a) × (device ≡ b)) → SpellsOnTpm rest index named → Named text device index named
a_device rest text device index None same only is = absurd (has_mark 64 text device rest same (index_lacks_at rest index is))
a_device rest text device index (Some named) same only is =
    let parts = only is.0 named (index_lacks_at is.0 index is.1) is.3 in
    record {
      same = ap Some (sym parts.1);
      some = omega (arith, is.2, ap length parts.1);
      number = subst (λ (t : List ℕ). IsIndexText t index) (sym parts.0) is.1;
    }
