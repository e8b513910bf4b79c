-- Bytes and their first field.
use Rattle.std.proofs.Common.{◌≡◌, ℕ, ◌+◌, ◌<◌, ◌^◌, List, ◌++◌, length, take, drop, sym, ap, ◌∙◌, arith}
use Rattle.std.specs.Int.{w16, w32, to_be_bytes, from_be_bytes}
use Rattle.std.proofs.lemmas.List.{take-append-drop}
use Rattle.std.proofs.lemmas.Nat.{from_be_bytes-to_be_bytes_4}
use Rattle.record_fields.specs.Fields.{append_same, number_same_2}
use Rattle.tpm_nv.specs.Fields.{sized}

-- bytes are their first field and the rest
pub joined : (bytes front back spelled : List ℕ) (n : ℕ) → front ≡ take n bytes → back ≡ drop n bytes → front ≡ spelled → bytes ≡ spelled ++ back
joined bytes front back spelled n is-front is-back is-spelled =
    let whole : take n bytes ++ drop n bytes ≡ spelled ++ back = cc in
    sym (take-append-drop n bytes) ∙ whole

pub number_same_4 : (m n : ℕ) → m < 2 ^ 32 → n < 2 ^ 32 → to_be_bytes w32 m ≡ to_be_bytes w32 n → m ≡ n
number_same_4 m n below-m below-n same =
    sym (from_be_bytes-to_be_bytes_4 m below-m) ∙ ap (from_be_bytes w32) same ∙ from_be_bytes-to_be_bytes_4 n below-n

pub length-sized : (bytes : List ℕ) → length (sized bytes) ≡ 2 + length bytes
unfolding sized
length-sized bytes = omega arith

-- bytes with their number before them, and what follows, fall apart in one way
pub sized_same : (a b r s : List ℕ) → length a < 2 ^ 16 → length b < 2 ^ 16 → sized a ++ r ≡ sized b ++ s → (a ≡ b) × (r ≡ s)
unfolding sized
sized_same a b r s below-a below-b same =
    let heads = append_same (to_be_bytes w16 (length a)) (a ++ r) (to_be_bytes w16 (length b)) (b ++ s) (search arith) same in
    append_same a r b s (number_same_2 (length a) (length b) below-a below-b heads.0) heads.1
