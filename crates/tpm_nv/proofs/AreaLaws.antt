-- What an index is, out of a reply.
use Rattle.std.proofs.Common.{lit<, ◌≡◌, ℕ, ◌+◌, ◌<◌, ◌^◌, ◌⊎◌, inl, inr, List, [], ◌∷◌, ◌++◌, length, refl, arith, length-append}
use Rattle.std.specs.Int.{w16, w32, to_be_bytes}
use Rattle.std.specs.List.{concat}
use Rattle.record_fields.specs.Fields.{append_same, number_same_2}
use Rattle.tpm_nv.specs.Fields.{sized}
use Rattle.tpm_nv.specs.Messages.{IsReply, IsRefusal, IsData, session}
use Rattle.tpm_nv.specs.Replies.{IsDone}
use Rattle.tpm_nv.specs.Areas.{Area, area_bytes, described, Describes, IsPublic}
use Rattle.tpm_nv.proofs.FieldLaws.{length-sized, sized_same, number_same_4}
use Rattle.tpm_nv.proofs.MessageLaws.{length-reply, one_reply}

pub length-area_bytes : (index : ℕ) (area : Area) → length (area_bytes index area) ≡ 14 + length area.policy
unfolding area_bytes sized
length-area_bytes index area = omega (arith, length-append area.policy (to_be_bytes w16 area.size))

-- a reply is too short for fields whose sizes could not be told
pub record IsShort (index : ℕ) (area : Area) : Type 0 where
  pub whole : length (area_bytes index area) < 2 ^ 16
  pub name : length area.name < 2 ^ 16

pub short : {index : ℕ} {area : Area} {reply : List ℕ} → Describes index area reply → IsShort index area
short {index} {area} {reply} is =
    let size : length reply ≡ 10 + length (described index area) = length-reply is.spelled in
    let parts : length (described index area) ≡ length (sized (area_bytes index area)) + length (sized area.name) =
    simp length-append (omega arith) in
    record {
      whole = omega (arith, length-sized (area_bytes index area), length-sized area.name, is.spelled.most);
      name = omega (arith, length-sized (area_bytes index area), length-sized area.name, is.spelled.most);
    }

pub public_awaited : (index : ℕ) (reply : List ℕ) → IsPublic index reply → IsDone 0x8001 reply ⊎ IsRefusal 0x18b reply
public_awaited index reply (inl absent) = inr absent
public_awaited index reply (inr found) = inl (described index found.0, found.1.spelled)

-- what a reply carries that says what an index is
pub carries : {index : ℕ} {area : Area} {body reply : List ℕ} → IsReply 0x8001 0 body reply → Describes index area reply → body ≡ described index area
carries is says = (one_reply (lit< tt) (lit< tt) (lit< tt) (lit< tt) is says.spelled).2

-- ---- the bytes decide what they say

abbrev tail_1 : Area → List ℕ
tail_1 x = concat (to_be_bytes w16 x.algorithm ∷ to_be_bytes w32 x.attributes ∷ sized x.policy ∷ to_be_bytes w16 x.size ∷ [])

abbrev tail_2 : Area → List ℕ
tail_2 x = concat (to_be_bytes w32 x.attributes ∷ sized x.policy ∷ to_be_bytes w16 x.size ∷ [])

abbrev tail_3 : Area → List ℕ
tail_3 x = concat (sized x.policy ∷ to_be_bytes w16 x.size ∷ [])

area_same : (a b : Area) → a.algorithm ≡ b.algorithm → a.attributes ≡ b.attributes → a.policy ≡ b.policy → a.size ≡ b.size → a.name ≡ b.name → a ≡ b
area_same a b algorithm attributes policy size name = λ i. record { algorithm = algorithm i; attributes = attributes i; policy = policy i; size = size i; name = name i }

pub one_public : (index other : ℕ) (a b : Area) (reply : List ℕ) → index < 2 ^ 32 → other < 2 ^ 32 → Describes index a reply → Describes other b reply
    → (index ≡ other) × (a ≡ b)
unfolding area_bytes
one_public index other a b reply below below' is is' =
    let fits = short is in
    let fits' = short is' in
    let policy : length a.policy < 2 ^ 16 = omega (arith, length-area_bytes index a, fits.whole) in
    let policy' : length b.policy < 2 ^ 16 = omega (arith, length-area_bytes other b, fits'.whole) in
    let parts = sized_same (area_bytes index a) (area_bytes other b) (sized a.name ++ []) (sized b.name ++ []) fits.whole fits'.whole (carries is.spelled is') in
    let names = sized_same a.name b.name [] [] fits.name fits'.name parts.1 in
    let p1 = append_same (to_be_bytes w32 index) (tail_1 a) (to_be_bytes w32 other) (tail_1 b) refl parts.0 in
    let p2 = append_same (to_be_bytes w16 a.algorithm) (tail_2 a) (to_be_bytes w16 b.algorithm) (tail_2 b) refl p1.1 in
    let p3 = append_same (to_be_bytes w32 a.attributes) (tail_3 a) (to_be_bytes w32 b.attributes) (tail_3 b) refl p2.1 in
    let p4 = sized_same a.policy b.policy (to_be_bytes w16 a.size ++ []) (to_be_bytes w16 b.size ++ []) policy policy' p3.1 in (
      number_same_4 index other below below' p1.0,
      area_same a b (number_same_2 a.algorithm b.algorithm is.fits.algorithm is'.fits.algorithm p2.0)
          (number_same_4 a.attributes b.attributes is.fits.attributes is'.fits.attributes p3.0) p4.0
          (number_same_2 a.size b.size is.fits.size is'.fits.size p4.1) names.0,
    )

pub one_content : (a b reply : List ℕ) → IsData a reply → IsData b reply → a ≡ b
one_content a b reply is is' =
    let same = (one_reply (lit< tt) (lit< tt) (lit< tt) (lit< tt) is.spelled is'.spelled).2 in
    let bodies = append_same (to_be_bytes w32 (length (sized a))) (sized a ++ session) (to_be_bytes w32 (length (sized b))) (sized b ++ session) refl same in
    (sized_same a b session session (omega (arith, is.whole)) (omega (arith, is'.whole)) bodies.1).0
