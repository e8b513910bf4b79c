-- What a caller can rely on about masked pages, with no look at the keystream itself.
use Rattle.std.proofs.Common.{◌≡◌, ◌↔◌, ℕ, ◌^◌, ◌<◌, ◌≤◌, List, [], ◌∷◌, length, take, bit_xor, refl, sym, ap, ◌∙◌, arith}
use Rattle.std.specs.Simd.Lanes.{zip2}
use Rattle.std.specs.List.{All}
use Rattle.std.specs.Int.{w64, to_be_bytes, from_be_bytes}
use Rattle.std.proofs.lemmas.List.{take_all, append_cancel_left, length-take-le}
use Rattle.std.proofs.lemmas.Nat.{from_be_bytes-to_be_bytes_8}
use Rattle.std.proofs.lemmas.Simd.{length-zip2}
use Rattle.rand_chacha.specs.ChaCha.{key_of}
use Rattle.sdbt_base.specs.Bytes.{IsBytes}
use Rattle.sdbt_base.specs.Keys.{bare}
use Rattle.seal_record.specs.Keystream.{stream}
use Rattle.seal_record.specs.Sealing.{masked, stamp_of, Opens}
use Rattle.chacha_words.proofs.WordLaws.{length-words, All-words}
use Rattle.seal_record.proofs.XorLemmas.{take-zip2, xor_twice, xor_back, All-xor}

-- the keystream is as long as a record
pub length-stream : (key : List ℕ) → length (stream key) ≡ 4128
unfolding stream
length-stream key = length-words (key_of (bare key)) 0 0 1032

-- and it is bytes
pub All-stream : (key : List ℕ) → All (λ b. b < 256) (stream key)
unfolding stream
All-stream key = All-words (key_of (bare key)) 0 0 1032

-- a front as long as a record is the whole of it
pub whole_stream : (key : List ℕ) → take 4128 (stream key) ≡ stream key
whole_stream key = take_all 4128 (stream key) (omega (arith, length-stream key))

-- a masked record is as long as the record
pub length-masked : (key bytes : List ℕ) → length bytes ≡ 4128 → length (masked key bytes) ≡ 4128
length-masked key bytes size =
    length-zip2 bit_xor bytes (stream key) (size ∙ sym (length-stream key)) ∙ size

-- a masked record is bytes
pub All-masked : (key bytes : List ℕ) → All (λ b. b < 256) bytes → All (λ b. b < 256) (masked key bytes)
All-masked key bytes each = All-xor bytes (stream key) each (All-stream key)

-- both at once
pub IsBytes-masked : (key bytes : List ℕ) → IsBytes 4128 bytes → IsBytes 4128 (masked key bytes)
IsBytes-masked key bytes whole = (length-masked key bytes whole.0, All-masked key bytes whole.1)

-- masking twice under one key gives the bytes back
pub masked-masked : (key bytes : List ℕ) → length bytes ≤ 4128 → masked key (masked key bytes) ≡ bytes
masked-masked key bytes size = xor_twice bytes (stream key) (omega (arith, length-stream key))

-- so no two records have one page under a key
pub masked-injective : (key one other : List ℕ) → length one ≤ 4128 → length other ≤ 4128
    → masked key one ≡ masked key other → one ≡ other
masked-injective key one other size size' same =
    sym (masked-masked key one size) ∙ ap (masked key) same ∙ masked-masked key other size'

-- the front of a masked page needs the front of the page alone
pub front_of_masked : (n : ℕ) (key page : List ℕ) → zip2 bit_xor (take n page) (take n (stream key)) ≡ take n (masked key page)
front_of_masked n key page = sym (take-zip2 n bit_xor page (stream key))

-- a record that begins with the stamp of its address is opened there by the key that sealed it
pub Opens-masked : (key body : List ℕ) (addr : ℕ) → length body ≤ 4128 → take 16 body ≡ stamp_of addr → Opens key addr (masked key body)
Opens-masked key body addr size stamped = ap (take 16) (masked-masked key body size) ∙ stamped

-- and only such a record is
pub begins-Opens : (key body : List ℕ) (addr : ℕ) → length body ≤ 4128 → Opens key addr (masked key body) → take 16 body ≡ stamp_of addr
begins-Opens key body addr size opens = sym (ap (take 16) (masked-masked key body size)) ∙ opens

pub length-stamp_of : (addr : ℕ) → length (stamp_of addr) ≡ 16
unfolding stamp_of
length-stamp_of addr = refl

-- different addresses have different stamps
pub stamp_of-injective : (one other : ℕ) → one < 2 ^ 64 → other < 2 ^ 64 → stamp_of one ≡ stamp_of other → one ≡ other
unfolding stamp_of
stamp_of-injective one other small small' same =
    sym (from_be_bytes-to_be_bytes_8 one small)
    ∙ ap (from_be_bytes w64) (append_cancel_left (83 ∷ 68 ∷ 66 ∷ 84 ∷ 82 ∷ 69 ∷ 67 ∷ 49 ∷ []) (to_be_bytes w64 one) (to_be_bytes w64 other) same)
    ∙ from_be_bytes-to_be_bytes_8 other small'

-- a key opens a page at one address at most
pub Opens-one_address : (key page : List ℕ) (one other : ℕ) → one < 2 ^ 64 → other < 2 ^ 64
    → Opens key one page → Opens key other page → one ≡ other
Opens-one_address key page one other small small' opens opens' =
    stamp_of-injective one other small small' (sym opens ∙ opens')

-- the front of a page, mixed with a stamp, is the front of the keystreams that give that stamp back
pub front_wanted : (page key stamp : List ℕ) → length page ≡ 4128 → length stamp ≡ 16
    → (zip2 bit_xor (take 16 page) stamp ≡ take 16 (stream key)) ↔ (take 16 (masked key page) ≡ stamp)
front_wanted page key stamp size stamped =
    let long : length (take 16 page) ≡ 16 = length-take-le 16 page (omega arith) in
    let front : length (take 16 (stream key)) ≡ 16 = length-take-le 16 (stream key) (omega (arith, length-stream key)) in (
      λ is. sym (front_of_masked 16 key page) ∙ ap (zip2 bit_xor (take 16 page)) (sym is) ∙ xor_back (take 16 page) stamp (omega arith),
      λ is. ap (zip2 bit_xor (take 16 page)) (sym is ∙ sym (front_of_masked 16 key page)) ∙ xor_back (take 16 page) (take 16 (stream key)) (omega arith),
    )
