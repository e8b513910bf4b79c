-- Why a reply is none of those that were waited for.
use Rattle.std.proofs.Common.{◌≡◌, ℕ, ◌<◌, ◌^◌, ◌⊎◌, inl, inr, List, ◌++◌, Option, None, Some, length, lit<, refl, ap, ◌∙◌, arith, subst}
use Rattle.std.specs.Int.{w32, to_be_bytes}
use Rattle.tpm_nv.specs.Fields.{sized}
use Rattle.tpm_nv.specs.Messages.{IsReply, IsRefusal, session, with_session}
use Rattle.tpm_nv.specs.Replies.{IsCause, IsDone, IsContent, SaysContent}
use Rattle.tpm_nv.specs.declared.heads.Failure.{Failure}
use Rattle.tpm_nv.specs.declared.heads.Failure.TheVariants.{Code, Malformed}
use Rattle.tpm_nv.proofs.MessageLaws.{one_reply}

pub refusal_of : (A : Type 0) (n : ℕ) (reply : List ℕ) (failure : Failure) → IsCause A reply failure → failure ≡ Code n → IsRefusal n reply
refusal_of A n reply (Code m) cause is = let same : m ≡ n = cc in subst (λ k. IsRefusal k reply) same cause.2
refusal_of A n reply Malformed cause is = absurd cc

pub not_awaited : (A : Type 0) (reply : List ℕ) (failure : Failure) → IsCause A reply failure → A → ⊥
not_awaited A reply (Code n) cause = cause.3
not_awaited A reply Malformed cause = cause.0

-- no reply is a refusal for two causes, nor one that a command was done
pub one_refusal : (m n : ℕ) (reply : List ℕ) → m < 2 ^ 32 → n < 2 ^ 32 → IsRefusal m reply → IsRefusal n reply → m ≡ n
one_refusal m n reply below-m below-n is is' = (one_reply (lit< tt) below-m (lit< tt) below-n is is').1

pub not_both : (tag n : ℕ) (body reply : List ℕ) → tag < 2 ^ 16 → 0 < n → n < 2 ^ 32 → IsReply tag 0 body reply → IsRefusal n reply → ⊥
not_both tag n body reply below-tag above below is refusal =
    omega (arith, (one_reply below-tag (lit< tt) (lit< tt) below is refusal).1)

-- where one code is waited for, too
pub cause_with : (A B : Type 0) (code : ℕ) (reply : List ℕ) (failure : Failure) → 0 < code → code < 2 ^ 32
    → IsCause A reply failure → (failure ≡ Code code → ⊥) → (B → A ⊎ IsRefusal code reply) → IsCause B reply failure
cause_with A B code reply (Code n) above below cause other awaited = (
  cause.0,
  cause.1,
  cause.2,
  λ b. elim (awaited b) [
    | inl a ↦ cause.3 a
    | inr refusal ↦ other (ap Code (one_refusal n code reply cause.1 below cause.2 refusal))
  ],
)
cause_with A B code reply Malformed above below cause other awaited = (
  λ b. elim (awaited b) [
    | inl a ↦ cause.0 a
    | inr refusal ↦ cause.1 code above below refusal
  ],
  cause.1,
)

-- what an index holds is waited for: that the command was done, or that it was never written
pub content_awaited : (reply : List ℕ) → IsContent reply → IsDone 0x8002 reply ⊎ IsRefusal 0x14a reply
content_awaited reply (None, says) = inr says
content_awaited reply (Some bytes, says) = inl (with_session (sized bytes), says.spelled)

-- what a reply carries that says what an index holds
pub record Carries (held : Option (List ℕ)) (body : List ℕ) : Type 0 where
  pub bytes : List ℕ
  pub are : held ≡ Some bytes
  pub whole : length bytes ≡ 128
  pub spelled : body ≡ with_session (sized bytes)

pub content_known : (held : Option (List ℕ)) (body reply : List ℕ) → IsReply 0x8002 0 body reply → SaysContent reply held → Carries held body
content_known None body reply is says = absurd (not_both 0x8002 0x14a body reply (lit< tt) (lit< tt) (lit< tt) is says)
content_known (Some bytes) body reply is says =
    record { bytes = bytes; are = refl; whole = says.whole; spelled = (one_reply (lit< tt) (lit< tt) (lit< tt) (lit< tt) is says.spelled).2 }

-- bytes are carried by their parts
pub carried : (body behind rest bytes : List ℕ) (size : ℕ) → body ≡ to_be_bytes w32 size ++ behind → behind ≡ sized bytes ++ rest → rest ≡ session
    → size ≡ length (sized bytes) → body ≡ with_session (sized bytes)
carried body behind rest bytes size is-body is-behind is-rest is-size =
    is-body ∙ ap (λ (xs : List ℕ). to_be_bytes w32 size ++ xs) (is-behind ∙ ap (λ (xs : List ℕ). sized bytes ++ xs) is-rest)
    ∙ ap (λ (n : ℕ). to_be_bytes w32 n ++ (sized bytes ++ session)) is-size
