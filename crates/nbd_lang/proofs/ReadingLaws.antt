-- Bytes that begin with words have one reading.
use Rattle.std.proofs.Common.{◌≡◌, ℕ, suc, List, [], ◌∷◌, ◌++◌, length, get_or, refl, sym, ap, ◌∙◌, append_assoc, arith}
use Rattle.std.specs.Prelude.{All}
use Rattle.std.specs.List.{flat_map}
use Rattle.record_fields.specs.Fields.{pieces_same, append_same, number_same_2, number_same_8}
use Rattle.nbd_lang.specs.Options.{FitsOptionHead, OptionSent, FitsOption, option_number, option_fields, option_head, option_bytes}
use Rattle.nbd_lang.specs.Requests.{FitsRequest, RequestSent, FitsSent, request_number, request_fields, request_head, request_bytes, bytes_behind}
use Rattle.nbd_lang.specs.declared.options.OptionHead.{OptionHead}
use Rattle.nbd_lang.specs.declared.requests.Request.{Request}
use Rattle.nbd_lang.proofs.FieldLaws.{number_same_4, option_number_below, option_kind_same, request_number_below, request_kind_same}

-- a field of a word
abbrev field : ℕ → List (List ℕ) → List ℕ
field place fields = get_or fields place []

-- words that are read one way, each, are so one behind the other
pub words_read_one_way : {A : Type 0} (Fits : A → Type 0) (word : A → List ℕ) → ((one other : A) (rest rest_of_other : List ℕ) → Fits one → Fits other → word one ++ rest ≡ word other ++ rest_of_other → (one ≡ other) × (rest ≡ rest_of_other))
    → (ones others : List A) (rest rest_of_others : List ℕ) → All Fits ones → All Fits others → length ones ≡ length others → flat_map word ones ++ rest ≡ flat_map word others ++ rest_of_others → (ones ≡ others) × (rest ≡ rest_of_others)
words_read_one_way Fits word reads [] [] rest rest_of_others fit others_fit same joined = (refl, joined)
words_read_one_way Fits word reads [] (other ∷ others) rest rest_of_others fit others_fit same joined = absurd (omega (arith, same))
words_read_one_way Fits word reads (one ∷ ones) [] rest rest_of_others fit others_fit same joined = absurd (omega (arith, same))
words_read_one_way Fits word reads (one ∷ ones) (other ∷ others) rest rest_of_others fit others_fit same joined =
    let first = reads one other (flat_map word ones ++ rest) (flat_map word others ++ rest_of_others) (fit 0 one (omega arith)) (others_fit 0 other (omega arith))
    (sym (append_assoc (word one) (flat_map word ones) rest) ∙ joined ∙ append_assoc (word other) (flat_map word others) rest_of_others) in
    let more = words_read_one_way Fits word reads ones others rest rest_of_others (λ k d below. fit (suc k) d (omega (arith, below))) (λ k d below. others_fit (suc k) d (omega (arith, below))) (omega (arith, same)) first.1 in
    (λ i. first.0 i ∷ more.0 i, more.1)

-- ---- options

pub option_head_same : (one other : OptionHead) → FitsOptionHead one → FitsOptionHead other → option_head one ≡ option_head other → one ≡ other
option_head_same one other fits fits_other same =
    let fields : option_fields one ≡ option_fields other = pieces_same (option_fields one) (option_fields other) refl same in
    let number : option_number one.kind ≡ option_number other.kind = number_same_4 (option_number one.kind) (option_number other.kind) (option_number_below one.kind fits.kind) (option_number_below other.kind fits_other.kind) (ap (field 1) fields) in
    let kind : one.kind ≡ other.kind = option_kind_same one.kind other.kind fits.kind fits_other.kind number in
    let count : one.length ≡ other.length = number_same_4 one.length other.length fits.length fits_other.length (ap (field 2) fields) in
    λ i. record { kind = kind i; length = count i }

pub option_reads : (one other : OptionSent) (rest rest_of_other : List ℕ) → FitsOption one → FitsOption other → option_bytes one ++ rest ≡ option_bytes other ++ rest_of_other → (one ≡ other) × (rest ≡ rest_of_other)
option_reads one other rest rest_of_other fits fits_other joined =
    let parts = append_same (option_head one.head) (one.bytes ++ rest) (option_head other.head) (other.bytes ++ rest_of_other) refl joined in
    let head : one.head ≡ other.head = option_head_same one.head other.head fits.head fits_other.head parts.0 in
    let count : length one.bytes ≡ length other.bytes = fits.bytes ∙ ap (λ (h : OptionHead). h.length) head ∙ sym fits_other.bytes in
    let behind = append_same one.bytes rest other.bytes rest_of_other count parts.1 in
    (λ i. record { head = head i; bytes = behind.0 i }, behind.1)

-- ---- requests

pub request_head_same : (one other : Request) → FitsRequest one → FitsRequest other → request_head one ≡ request_head other → one ≡ other
request_head_same one other fits fits_other same =
    let fields : request_fields one ≡ request_fields other = pieces_same (request_fields one) (request_fields other) refl same in
    let flags : one.flags ≡ other.flags = number_same_2 one.flags other.flags fits.flags fits_other.flags (ap (field 1) fields) in
    let number : request_number one.kind ≡ request_number other.kind = number_same_2 (request_number one.kind) (request_number other.kind) (request_number_below one.kind fits.kind) (request_number_below other.kind fits_other.kind) (ap (field 2) fields) in
    let kind : one.kind ≡ other.kind = request_kind_same one.kind other.kind fits.kind fits_other.kind number in
    let cookie : one.cookie ≡ other.cookie = number_same_8 one.cookie other.cookie fits.cookie fits_other.cookie (ap (field 3) fields) in
    let offset : one.offset ≡ other.offset = number_same_8 one.offset other.offset fits.offset fits_other.offset (ap (field 4) fields) in
    let count : one.length ≡ other.length = number_same_4 one.length other.length fits.length fits_other.length (ap (field 5) fields) in
    λ i. record { flags = flags i; kind = kind i; cookie = cookie i; offset = offset i; length = count i }

pub request_reads : (one other : RequestSent) (rest rest_of_other : List ℕ) → FitsSent one → FitsSent other → request_bytes one ++ rest ≡ request_bytes other ++ rest_of_other → (one ≡ other) × (rest ≡ rest_of_other)
request_reads one other rest rest_of_other fits fits_other joined =
    let parts = append_same (request_head one.head) (one.bytes ++ rest) (request_head other.head) (other.bytes ++ rest_of_other) refl joined in
    let head : one.head ≡ other.head = request_head_same one.head other.head fits.head fits_other.head parts.0 in
    let count : length one.bytes ≡ length other.bytes = fits.bytes ∙ ap (λ (h : Request). bytes_behind h.kind h.length) head ∙ sym fits_other.bytes in
    let behind = append_same one.bytes rest other.bytes rest_of_other count parts.1 in
    (λ i. record { head = head i; bytes = behind.0 i }, behind.1)
