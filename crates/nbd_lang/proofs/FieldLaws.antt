-- Words field by field, and the numbers in them.
use Rattle.std.proofs.Common.{◌≡◌, ℕ, ◌+◌, ◌<◌, ◌^◌, List, [], ◌∷◌, ◌++◌, length, take, drop, refl, sym, ap, ◌∙◌, append-nil, lit<}
use Rattle.std.specs.Prelude.{nat_lt, nat_eq, Bool, true, false, if◌then◌else◌}
use Rattle.std.specs.List.{concat}
use Rattle.std.specs.Int.{w32, to_be_bytes, from_be_bytes}
use Rattle.std.proofs.lemmas.Nat.{from_be_bytes-to_be_bytes_4}
use Rattle.std.proofs.lemmas.Bool.{lt-ltb, ne_eqb}
use Rattle.record_fields.specs.Fields.{fields_from, fields_whole}
use Rattle.nbd_lang.specs.Options.{FitsOptionKind, option_number}
use Rattle.nbd_lang.specs.Requests.{FitsRequestKind, request_number}
use Rattle.nbd_lang.specs.declared.options.OptionKind.{OptionKind}
use Rattle.nbd_lang.specs.declared.options.OptionKind.TheVariants as options
use Rattle.nbd_lang.specs.declared.requests.RequestKind.{RequestKind}
use Rattle.nbd_lang.specs.declared.requests.RequestKind.TheVariants as requests

-- what stands behind an option's magic is its fields
pub option_spelled : (bytes number count : List ℕ) → length bytes ≡ 8 → take 4 (drop 0 bytes) ≡ number → take 4 (drop 4 bytes) ≡ count → bytes ≡ number ++ count
option_spelled bytes number count len is_number is_count =
    let fields : fields_from 0 (4 ∷ 4 ∷ []) bytes ≡ number ∷ count ∷ [] = cc in
    sym (fields_whole (4 ∷ 4 ∷ []) 0 bytes (sym len)) ∙ ap concat fields ∙ ap (λ (rest : List ℕ). number ++ rest) (append-nil count)

-- what stands behind a request's magic is its fields
pub request_spelled : (bytes flags kind cookie offset count : List ℕ) → length bytes ≡ 24 → take 2 (drop 0 bytes) ≡ flags → take 2 (drop 2 bytes) ≡ kind → take 8 (drop 4 bytes) ≡ cookie → take 8 (drop 12 bytes) ≡ offset → take 4 (drop 20 bytes) ≡ count
    → bytes ≡ flags ++ (kind ++ (cookie ++ (offset ++ count)))
request_spelled bytes flags kind cookie offset count len is_flags is_kind is_cookie is_offset is_count =
    let sizes : List ℕ = 2 ∷ 2 ∷ 8 ∷ 8 ∷ 4 ∷ [] in
    let fields : fields_from 0 sizes bytes ≡ flags ∷ kind ∷ cookie ∷ offset ∷ count ∷ [] = cc in
    sym (fields_whole sizes 0 bytes (sym len)) ∙ ap concat fields ∙ ap (λ (rest : List ℕ). flags ++ (kind ++ (cookie ++ (offset ++ rest)))) (append-nil count)

-- numbers with the same bytes are the same
pub number_same_4 : (m n : ℕ) → m < 2 ^ 32 → n < 2 ^ 32 → to_be_bytes w32 m ≡ to_be_bytes w32 n → m ≡ n
number_same_4 m n below-m below-n same =
    sym (from_be_bytes-to_be_bytes_4 m below-m) ∙ ap (from_be_bytes w32) same ∙ from_be_bytes-to_be_bytes_4 n below-n

-- the kind with a number
abbrev option_kind : ℕ → OptionKind
option_kind number = if nat_eq number 1 then options.Export else (if nat_eq number 2 then options.Abort else options.Other number)

option_kind-number : (kind : OptionKind) → FitsOptionKind kind → option_kind (option_number kind) ≡ kind
option_kind-number options.Export fits = refl
option_kind-number options.Abort fits = refl
option_kind-number (options.Other number) fits = rw (ne_eqb number 1 fits.0, ne_eqb number 2 fits.1) refl

pub option_number_below : (kind : OptionKind) → FitsOptionKind kind → option_number kind < 2 ^ 32
option_number_below options.Export fits = lit< tt
option_number_below options.Abort fits = lit< tt
option_number_below (options.Other number) fits = fits.2

pub option_kind_same : (one other : OptionKind) → FitsOptionKind one → FitsOptionKind other → option_number one ≡ option_number other → one ≡ other
option_kind_same one other fits fits_other same = sym (option_kind-number one fits) ∙ ap option_kind same ∙ option_kind-number other fits_other

abbrev request_kind : ℕ → RequestKind
request_kind number =
    if nat_lt 4 number then requests.Other number else (if nat_eq number 0 then requests.Read else (if nat_eq number 1 then requests.Write else (if nat_eq number 2 then requests.Disconnect else (if nat_eq number 3 then requests.Flush else requests.Trim))))

request_kind-number : (kind : RequestKind) → FitsRequestKind kind → request_kind (request_number kind) ≡ kind
request_kind-number requests.Read fits = refl
request_kind-number requests.Write fits = refl
request_kind-number requests.Disconnect fits = refl
request_kind-number requests.Flush fits = refl
request_kind-number requests.Trim fits = refl
request_kind-number (requests.Other number) fits = rw (lt-ltb 4 number fits.0) refl

pub request_number_below : (kind : RequestKind) → FitsRequestKind kind → request_number kind < 2 ^ 16
request_number_below requests.Read fits = lit< tt
request_number_below requests.Write fits = lit< tt
request_number_below requests.Disconnect fits = lit< tt
request_number_below requests.Flush fits = lit< tt
request_number_below requests.Trim fits = lit< tt
request_number_below (requests.Other number) fits = fits.1

pub request_kind_same : (one other : RequestKind) → FitsRequestKind one → FitsRequestKind other → request_number one ≡ request_number other → one ≡ other
request_kind_same one other fits fits_other same = sym (request_kind-number one fits) ∙ ap request_kind same ∙ request_kind-number other fits_other

-- the number of the client's flags
abbrev pub flags_number : Bool → Bool → ℕ
flags_number fixed no_zeroes = (if fixed then 1 else 0) + (if no_zeroes then 2 else 0)

pub flags_number_below : (fixed no_zeroes : Bool) → flags_number fixed no_zeroes < 4
flags_number_below true true = lit< tt
flags_number_below true false = lit< tt
flags_number_below false true = lit< tt
flags_number_below false false = lit< tt
