-- Replies fall apart in one way.
use Rattle.std.proofs.Common.{◌≡◌, ℕ, ◌+◌, ◌<◌, ◌≤◌, ◌^◌, List, [], ◌∷◌, ◌++◌, length, take, drop, refl, sym, ap, ◌∙◌, arith, length-append}
use Rattle.std.specs.Int.{w16, w32, to_be_bytes}
use Rattle.std.proofs.lemmas.List.{take_at, drop_at}
use Rattle.record_fields.specs.Fields.{pieces_same, number_same_2}
use Rattle.tpm_nv.specs.Messages.{head_bytes, IsReply}
use Rattle.tpm_nv.specs.Replies.{FitsHead}
use Rattle.tpm_nv.specs.declared.heads.Head.{Head}
use Rattle.tpm_nv.proofs.FieldLaws.{number_same_4}

pub length-head_bytes : (tag size code : ℕ) → length (head_bytes tag size code) ≡ 10
unfolding head_bytes
length-head_bytes tag size code = refl

pub head_same : (a b : Head) → FitsHead a → FitsHead b → head_bytes a.tag a.size a.code ≡ head_bytes b.tag b.size b.code → (a.tag ≡ b.tag) × (a.size ≡ b.size) × (a.code ≡ b.code)
unfolding head_bytes
head_same a b fits-a fits-b same =
    let pieces = pieces_same
    (to_be_bytes w16 a.tag ∷ to_be_bytes w32 a.size ∷ to_be_bytes w32 a.code ∷ [])
    (to_be_bytes w16 b.tag ∷ to_be_bytes w32 b.size ∷ to_be_bytes w32 b.code ∷ []) refl same in (
      number_same_2 a.tag b.tag fits-a.tag fits-b.tag cc,
      number_same_4 a.size b.size (omega (arith, fits-a.size_most)) (omega (arith, fits-b.size_most)) cc,
      number_same_4 a.code b.code fits-a.code fits-b.code cc,
    )

-- the size in the head is that of the reply
pub length-reply : {tag code : ℕ} {body reply : List ℕ} → IsReply tag code body reply → length reply ≡ 10 + length body
length-reply {tag} {code} {body} {reply} is =
    omega (arith, ap length is.spelled, length-append (head_bytes tag (10 + length body) code) body, length-head_bytes tag (10 + length body) code)

-- the head of a reply
abbrev pub head_in : ℕ → ℕ → List ℕ → Head
head_in tag code reply = record { tag = tag; size = length reply; code = code }

pub fits_in : {tag code : ℕ} {body reply : List ℕ} → tag < 2 ^ 16 → code < 2 ^ 32 → IsReply tag code body reply → FitsHead (head_in tag code reply)
fits_in below-tag below-code is = record { tag = below-tag; code = below-code; size_least = omega (arith, length-reply is); size_most = is.most }

-- a reply is its head and what it carries
pub reply_parts : {tag code : ℕ} {body reply : List ℕ} → IsReply tag code body reply → (take 10 reply ≡ head_bytes tag (length reply) code) × (drop 10 reply ≡ body)
reply_parts {tag} {code} {body} {reply} is =
    let head = head_bytes tag (10 + length body) code in
    let size : length head ≡ 10 = length-head_bytes tag (10 + length body) code in (
      ap (take 10) is.spelled ∙ take_at head body 10 size ∙ ap (λ n. head_bytes tag n code) (sym (length-reply is)),
      ap (drop 10) is.spelled ∙ drop_at head body 10 size,
    )

pub reply_of_parts : (tag code : ℕ) (front body reply : List ℕ) → length reply ≤ 4096 → reply ≡ front ++ body → front ≡ head_bytes tag (length reply) code → IsReply tag code body reply
reply_of_parts tag code front body reply most whole is-front =
    let size : length reply ≡ 10 + length body =
    omega (arith, ap length whole, ap length is-front, length-head_bytes tag (length reply) code, length-append front body) in
    let head : front ≡ head_bytes tag (10 + length body) code = is-front ∙ ap (λ n. head_bytes tag n code) size in
    record { most = most; spelled = cc }

-- a reply has one tag, one code and one body
pub one_reply : {tag code tag' code' : ℕ} {body body' reply : List ℕ} → tag < 2 ^ 16 → code < 2 ^ 32 → tag' < 2 ^ 16 → code' < 2 ^ 32
    → IsReply tag code body reply → IsReply tag' code' body' reply → (tag ≡ tag') × (code ≡ code') × (body ≡ body')
one_reply {tag} {code} {tag'} {code'} {body} {body'} {reply} below-tag below-code below-tag' below-code' is is' =
    let parts = reply_parts is in
    let parts' = reply_parts is' in
    let heads = head_same (head_in tag code reply) (head_in tag' code' reply) (fits_in below-tag below-code is) (fits_in below-tag' below-code' is') (sym parts.0 ∙ parts'.0) in
    (heads.0, heads.2, sym parts.1 ∙ parts'.1)
