-- Bytes as fields of given sizes, one after the other, and the laws of that.
use Rattle.std.proofs.Common.{◌≡◌, ℕ, ◌+◌, ◌<◌, ◌^◌, List, [], ◌∷◌, ◌++◌, map, length, take, drop, refl, sym, ap, ◌∙◌, append_assoc, arith, length-append}
use Rattle.std.specs.List.{concat}
use Rattle.std.specs.Int.{w16, w64, to_be_bytes, from_be_bytes}
use Rattle.std.proofs.lemmas.List.{take-append-drop, take_at, drop_at, drop-drop, drop_all}
use Rattle.std.proofs.lemmas.Nat.{from_be_bytes-to_be_bytes_2, from_be_bytes-to_be_bytes_8}

-- the fields of these sizes, from a place on
abbrev pub fields_from : ℕ → List ℕ → List ℕ → List (List ℕ)
fields_from at [] bytes = []
fields_from at (size ∷ sizes) bytes = take size (drop at bytes) ∷ fields_from (at + size) sizes bytes

-- where fields of these sizes end, that begin at a place
abbrev pub end_from : ℕ → List ℕ → ℕ
end_from at [] = at
end_from at (size ∷ sizes) = end_from (at + size) sizes

-- bytes are their fields, one after the other
pub fields_whole : (sizes : List ℕ) (at : ℕ) (bytes : List ℕ) → end_from at sizes ≡ length bytes → concat (fields_from at sizes bytes) ≡ drop at bytes
fields_whole [] at bytes end = sym (drop_all at bytes (omega arith))
fields_whole (size ∷ sizes) at bytes end =
    ap (λ (rest : List ℕ). take size (drop at bytes) ++ rest) (fields_whole sizes (at + size) bytes end ∙ sym (drop-drop size at bytes)) ∙ take-append-drop size (drop at bytes)

-- what was joined is cut into the same pieces again
pub fields_again : (pieces : List (List ℕ)) (front : List ℕ) → fields_from (length front) (map length pieces) (front ++ concat pieces) ≡ pieces
fields_again [] front = refl
fields_again (piece ∷ pieces) front =
    let here : take (length piece) (drop (length front) (front ++ (piece ++ concat pieces))) ≡ piece =
    ap (take (length piece)) (drop_at front (piece ++ concat pieces) (length front) refl) ∙ take_at piece (concat pieces) (length piece) refl in
    let there : fields_from (length front + length piece) (map length pieces) (front ++ (piece ++ concat pieces)) ≡ pieces =
    ap (λ (n : ℕ). fields_from n (map length pieces) (front ++ (piece ++ concat pieces))) (sym (length-append front piece))
    ∙ ap (fields_from (length (front ++ piece)) (map length pieces)) (sym (append_assoc front piece (concat pieces)))
    ∙ fields_again pieces (front ++ piece) in
    cc

-- pieces of the same lengths that join to the same bytes are the same
pub pieces_same : (xs ys : List (List ℕ)) → map length xs ≡ map length ys → concat xs ≡ concat ys → xs ≡ ys
pieces_same xs ys lengths joined =
    sym (fields_again xs []) ∙ ap (λ (sizes : List ℕ). fields_from 0 sizes (concat xs)) lengths ∙ ap (fields_from 0 (map length ys)) joined ∙ fields_again ys []

-- two parts of a list are the same as those of another, where the first parts are as long
pub append_same : (a b c d : List ℕ) → length a ≡ length c → a ++ b ≡ c ++ d → (a ≡ c) × (b ≡ d)
append_same a b c d lengths same =
    (sym (take_at a b (length c) lengths) ∙ ap (take (length c)) same ∙ take_at c d (length c) refl, sym (drop_at a b (length c) lengths) ∙ ap (drop (length c)) same ∙ drop_at c d (length c) refl)

-- numbers with the same bytes are the same
pub number_same_2 : (m n : ℕ) → m < 2 ^ 16 → n < 2 ^ 16 → to_be_bytes w16 m ≡ to_be_bytes w16 n → m ≡ n
number_same_2 m n below-m below-n same =
    sym (from_be_bytes-to_be_bytes_2 m below-m) ∙ ap (from_be_bytes w16) same ∙ from_be_bytes-to_be_bytes_2 n below-n

pub number_same_8 : (m n : ℕ) → m < 2 ^ 64 → n < 2 ^ 64 → to_be_bytes w64 m ≡ to_be_bytes w64 n → m ≡ n
number_same_8 m n below-m below-n same =
    sym (from_be_bytes-to_be_bytes_8 m below-m) ∙ ap (from_be_bytes w64) same ∙ from_be_bytes-to_be_bytes_8 n below-n
