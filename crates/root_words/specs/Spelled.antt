-- Words of a command line, and what is handed on in their place.
use Rattle.std.specs.Prelude.{◌≡◌, ℕ, List, [], ◌∷◌, codes, length, Ok, ⊤}
use Rattle.hex.specs.Hex.{decode_of}
use Rattle.root_words.specs.declared.refusals.NotSpelled.{NotSpelled}
use Rattle.root_words.specs.declared.refusals.NotSpelled.TheVariants.{File, Memory}

-- the first of the words is `seize`
abbrev pub IsSeizure : List (List ℕ) → Type 0
IsSeizure [] = ⊥
IsSeizure (word ∷ words) = word ≡ codes "seize"

-- the word names a file: it begins with an @
abbrev pub NamesFile : List ℕ → Type 0
NamesFile [] = ⊥
NamesFile (first ∷ name) = first ≡ 64

-- the hex digits of 128 bytes
pub record IsRecordInHex (digits : List ℕ) : Type 0 where
  pub bytes : List ℕ
  pub size : length bytes ≡ 128
  pub decoded : decode_of digits ≡ Ok bytes

-- a root record in the place of a word that names a file, and every other word as it was
pub record IsSpelled (word spelled : List ℕ) : Type 0 where
  pub read : NamesFile word → IsRecordInHex spelled
  pub kept : (NamesFile word → ⊥) → spelled ≡ word

-- the refusal of a word: the file that it names gives no root record, or no memory was given
abbrev pub IsRefusalOf : List ℕ → NotSpelled → Type 0
IsRefusalOf word (File name why) = word ≡ 64 ∷ name.now
IsRefusalOf word Memory = ⊤
