-- An array, written from its front.
use Rattle.std.proofs.Common.{◌≡◌, ℕ, ◌+◌, ◌≤◌, List, [], ◌∷◌, ◌++◌, map, length, drop, Bool, true, Some, refl, sym, ap, ◌∙◌, append_assoc}
use Rattle.std.proofs.lemmas.List.{drop_more, drop_all}
use Rattle.std.proofs.lemmas.Option.{get_or_from_slice_get, slice_get_within}
use Rattle.std.specs.List.{slice_get}
use Rattle.serde_json.specs.Data.{Data}
use Rattle.serde_json.specs.View.{items_of}
use Rattle.serde_json.specs.Written.{items_text, compact_text, comma_if}
use Rattle.std.specs.Fmt.{digits}
use Rattle.std.specs.Prelude.{codes, decimal}
use Rattle.serde_json.proofs.OnLiterals.{serde_json_on_literals}
use Rattle.cert_maker.specs.Cert.{Cert}
use Rattle.cert_codec.specs.Text.{numbers, array_of, added_json, never_json, cert_json, entry}

module _ {X : Type 0} (json : X → Data) (xs : List X) where
  -- what is still to be written from this place on
  abbrev pub to_write : Bool → ℕ → List ℕ
  to_write after i = items_text after (items_of (map json (drop i xs)))

  pub write_more : (out : List ℕ) (after : Bool) (i : ℕ) (x : X) → slice_get xs i ≡ Some x → ((out ++ comma_if after) ++ compact_text (json x)) ++ to_write true (i + 1) ≡ out ++ to_write after i
  write_more out after i x is =
      let here : drop i xs ≡ x ∷ drop (i + 1) xs =
      drop_more xs i x (slice_get_within xs i x is) ∙ ap (λ y. y ∷ drop (i + 1) xs) (get_or_from_slice_get xs i x x is) in
      append_assoc (out ++ comma_if after) (compact_text (json x)) (to_write true (i + 1)) ∙ append_assoc out (comma_if after) _
      ∙ ap (λ ys. out ++ items_text after (items_of (map json ys))) (sym here)

  pub write_end : (out : List ℕ) (after : Bool) (i : ℕ) → length xs ≤ i → out ++ 93 ∷ [] ≡ out ++ to_write after i
  write_end out after i past = ap (λ ys. out ++ items_text after (items_of (map json ys))) (sym (drop_all i xs past))

pub decimal-0 : decimal 0 ≡ 48 ∷ []
unfolding digits
decimal-0 = refl

-- a certificate's JSON, a member after the other
pub compact_is : (cert : Cert) → compact_text (cert_json cert) ≡
    codes "{\"added\":" ++ (compact_text (array_of added_json cert.added) ++ (codes ",\"base\":" ++ (decimal cert.base ++ (codes ",\"commit\":" ++ (decimal cert.commit
    ++ (codes ",\"gone\":" ++ (compact_text (numbers cert.gone) ++ (codes ",\"head\":" ++ (decimal cert.head ++ (codes ",\"never\":" ++ (compact_text (array_of never_json cert.never)
    ++ (codes ",\"root\":" ++ (decimal cert.root ++ codes "}")))))))))))))
unfolding serde_json_on_literals
compact_is cert = refl

pub decimal-1 : decimal 1 ≡ 49 ∷ []
unfolding digits
decimal-1 = refl

from_right : (a b c d e f g h i j k l m n z : List ℕ) → (((((((((((((([] ++ a) ++ b) ++ c) ++ d) ++ e) ++ f) ++ g) ++ h) ++ i) ++ j) ++ k) ++ l) ++ m) ++ n) ++ z ≡ a ++ (b ++ (c ++ (d ++ (e ++ (f ++ (g ++ (h ++ (i ++ (j ++ (k ++ (l ++ (m ++ (n ++ z)))))))))))))
from_right a b c d e f g h i j k l m n z = simp append_assoc refl

with_end : (a b c d e f g h i j k l m n z end : List ℕ) → (a ++ (b ++ (c ++ (d ++ (e ++ (f ++ (g ++ (h ++ (i ++ (j ++ (k ++ (l ++ (m ++ (n ++ z)))))))))))))) ++ end ≡ a ++ (b ++ (c ++ (d ++ (e ++ (f ++ (g ++ (h ++ (i ++ (j ++ (k ++ (l ++ (m ++ (n ++ (z ++ end))))))))))))))
with_end a b c d e f g h i j k l m n z end = simp append_assoc refl

-- the pieces in which an entry is written
pub entry_pieces : (cert : Cert) → (((((((((((((([] ++ codes "\n{\"added\":") ++ compact_text (array_of added_json cert.added)) ++ codes ",\"base\":") ++ decimal cert.base) ++ codes ",\"commit\":")
    ++ decimal cert.commit) ++ codes ",\"gone\":") ++ compact_text (numbers cert.gone)) ++ codes ",\"head\":") ++ decimal cert.head) ++ codes ",\"never\":") ++ compact_text (array_of never_json cert.never))
    ++ codes ",\"root\":") ++ decimal cert.root) ++ codes "}\n" ≡ entry cert
entry_pieces cert =
    from_right (codes "\n{\"added\":") (compact_text (array_of added_json cert.added)) (codes ",\"base\":") (decimal cert.base) (codes ",\"commit\":") (decimal cert.commit) (codes ",\"gone\":") (compact_text (numbers cert.gone)) (codes ",\"head\":") (decimal cert.head) (codes ",\"never\":") (compact_text (array_of never_json cert.never)) (codes ",\"root\":") (decimal cert.root) (codes "}\n")
    ∙ ap (λ text. 10 ∷ text) (sym (with_end (codes "{\"added\":") (compact_text (array_of added_json cert.added)) (codes ",\"base\":") (decimal cert.base) (codes ",\"commit\":") (decimal cert.commit) (codes ",\"gone\":") (compact_text (numbers cert.gone)) (codes ",\"head\":") (decimal cert.head) (codes ",\"never\":") (compact_text (array_of never_json cert.never)) (codes ",\"root\":") (decimal cert.root) (codes "}") (10 ∷ [])))
    ∙ ap (λ text. 10 ∷ (text ++ 10 ∷ [])) (sym (compact_is cert))
