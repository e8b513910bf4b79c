-- Root records that are given in words.
use Rattle.std.proofs.Common.{◌≡◌, ℕ, ◌+◌, ◌<◌, ◌≤◌, List, [], ◌∷◌, ◌++◌, Option, None, Some, Ok, length, get_or, take, refl, sym, ◌∙◌, subst, ap, arith}
use Rattle.std.specs.Prelude.{All, IfNone, map}
use Rattle.std.proofs.lemmas.List.{get_or-map, length-map, take_all, take_more}
use Rattle.std.proofs.lemmas.List.Elements.{AllZip-get_or, AllZip-push, All-push}
use Rattle.sdbt_base.specs.Keys.{bare}
use Rattle.hex.specs.Hex.{decode_of}
use Rattle.hex.proofs.HexLemmas.{decode_of-ok, decode_of-digits}
use Rattle.root_codec.specs.declared.root.Root.{Root}
use Rattle.root_codec.specs.RootRecord.{root_bytes}
use Rattle.root_codec.specs.Laws.{length-root_bytes}
use Rattle.device_cli.specs.Words.{AreSeizeWords, records_of}
use Rattle.device_cli.specs.Given.{IsRecordWord, AreRecordWords, IsRecordOf, IsGiven, AreGiven, HasBadRecord}

-- a word that is a root record has 256 hex digits
pub record_word : (head : ℕ) (word : List ℕ) (root : Root) → IsRecordOf head word root → IsRecordWord word
record_word head word root is =
    let ok = decode_of-ok word (root_bytes root) is.decoded in
    record { digits = ok.1; count = omega (arith, ok.2, length-root_bytes root is.within.in_range) }

-- such a word stands for bytes
pub stands_for : (word : List ℕ) → IsRecordWord word → (bytes : List ℕ) × (decode_of word ≡ Ok bytes)
stands_for word is = decode_of-digits word (rw is.count refl) is.digits

-- and what stands for 128 bytes is such a word
pub is_word : (word bytes : List ℕ) → length word ≡ 256 → decode_of word ≡ Ok bytes → IsRecordWord word
is_word word bytes count decoded = record { digits = (decode_of-ok word bytes decoded).1; count = count }

-- where there is none, what follows from that
pub if_none : {A : Type 0} (found : Option A) (P : Type 0) → P → IfNone found P
if_none None P p = p
if_none (Some x) P p = tt

-- ---- lists of words

-- the word at a place
word_at : {X : Type 0} (f : X → List ℕ) (xs : List X) (i : ℕ) (x : X) (d : List ℕ) → i < length xs → x ≡ get_or xs i x → get_or (map f xs) i d ≡ f x
word_at f xs i x d within is = get_or-map f xs i x d within ∙ ap f (sym is)

-- the words up to it, and it
front_more : {X : Type 0} (f : X → List ℕ) (xs : List X) (i : ℕ) (x : X) → i < length xs → x ≡ get_or xs i x → take (i + 1) (map f xs) ≡ take i (map f xs) ++ f x ∷ []
front_more f xs i x within is =
    take_more (map f xs) i (f x) (omega (arith, within, length-map xs f)) ∙ ap (λ (w : List ℕ). take i (map f xs) ++ w ∷ []) (word_at f xs i x (f x) within is)

-- one more word of 256 digits
pub words_more : {X : Type 0} (f : X → List ℕ) (xs : List X) (i : ℕ) (x : X) → All IsRecordWord (take i (map f xs)) → i < length xs → x ≡ get_or xs i x → IsRecordWord (f x)
    → All IsRecordWord (take (i + 1) (map f xs))
words_more f xs i x all within is word =
    subst (λ (front : List (List ℕ)). All IsRecordWord front) (sym (front_more f xs i x within is)) (All-push IsRecordWord (take i (map f xs)) (f x) all word)

-- one of another kind
pub other_word : {X : Type 0} (f : X → List ℕ) (xs : List X) (i : ℕ) (x : X) → i < length xs → x ≡ get_or xs i x → (IsRecordWord (f x) → ⊥) → AreRecordWords (map f xs) → ⊥
other_word f xs i x within is other are =
    other (subst IsRecordWord (word_at f xs i x (f x) within is) (are.each i (f x) (omega (arith, within, length-map xs f))))

-- all of them
pub words_all : {X : Type 0} (f : X → List ℕ) (xs : List X) (i : ℕ) → All IsRecordWord (take i (map f xs)) → length xs ≤ i → length xs ≤ 64 → AreRecordWords (map f xs)
words_all f xs i all end most = record {
  each = subst (λ (words : List (List ℕ)). All IsRecordWord words) (take_all i (map f xs) (omega (arith, end, length-map xs f))) all;
  most = omega (arith, most, length-map xs f);
}

-- one more word, which is a root record of a root with one more key
pub given_more : {X : Type 0} (f : X → List ℕ) (xs : List X) (head : ℕ) (keys : List (List ℕ)) (i : ℕ) (x : X) (root : Root) → AreGiven head (take i (map f xs)) keys → i < length xs → x ≡ get_or xs i x
    → IsRecordOf head (f x) root → AreGiven head (take (i + 1) (map f xs)) (keys ++ bare root.key ∷ [])
given_more f xs head keys i x root given within is of =
    subst (λ (front : List (List ℕ)). AreGiven head front (keys ++ bare root.key ∷ [])) (sym (front_more f xs i x within is))
    (AllZip-push (IsGiven head) (take i (map f xs)) keys (f x) (bare root.key) given (record { root = root; is_record = of; key_is = refl }))

-- where each word is one, none is bad
pub given_not_bad : (head : ℕ) (words keys : List (List ℕ)) → AreGiven head words keys → HasBadRecord head words → ⊥
given_not_bad head words keys given bad =
    let k = bad.there.0 in
    let is = AllZip-get_or (IsGiven head) words keys k bad.word bad.word given bad.there.1 in
    bad.bad is.root (subst (λ (word : List ℕ). IsRecordOf head word is.root) bad.there.2 is.is_record)

-- there are at most 64 words behind `seize`
pub few_records : (words : List (List ℕ)) → AreSeizeWords words → length (records_of words) ≤ 64
few_records [] seize = absurd seize
few_records (word ∷ records) seize = seize.1.most
