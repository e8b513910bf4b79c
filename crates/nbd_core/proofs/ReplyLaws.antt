-- The bytes of a reply.
use Rattle.std.proofs.Common.{◌≡◌, ◌+◌, ◌∙◌, ℕ, List, [], take, drop, refl, sym, ap}
use Rattle.std.proofs.lemmas.List.{drop-take}
use Rattle.nbd_lang.specs.declared.requests.RequestKind.{RequestKind}
use Rattle.nbd_lang.specs.declared.requests.RequestKind.TheVariants as kinds
use Rattle.nbd_lang.specs.declared.replies.Outcome.{Outcome}
use Rattle.nbd_lang.specs.declared.replies.Outcome.TheVariants as outcomes
use Rattle.nbd_core.specs.Serving.{bytes_of_reply}

-- a read that was done has those behind the room for the head
pub read_bytes : (kind : RequestKind) (count : ℕ) (outcome : Outcome) (room : List ℕ) → kind ≡ kinds.Read → outcome ≡ outcomes.Done → bytes_of_reply kind count outcome room ≡ take count (drop 16 room)
read_bytes kind count outcome room is done = ap (λ (k : RequestKind). bytes_of_reply k count outcome room) is ∙ ap (λ (o : Outcome). bytes_of_reply kinds.Read count o room) done

-- and nothing else has any
pub no_bytes : (kind : RequestKind) (count : ℕ) (outcome : Outcome) (room : List ℕ) → (kind ≡ kinds.Read → outcome ≡ outcomes.Done → ⊥) → bytes_of_reply kind count outcome room ≡ []
no_bytes kinds.Read count outcomes.Done room other = absurd (other refl refl)
no_bytes kinds.Read count outcomes.Damaged room other = refl
no_bytes kinds.Read count outcomes.NoMemory room other = refl
no_bytes kinds.Read count outcomes.Invalid room other = refl
no_bytes kinds.Read count outcomes.NoSpace room other = refl
no_bytes kinds.Write count outcome room other = refl
no_bytes kinds.Disconnect count outcome room other = refl
no_bytes kinds.Flush count outcome room other = refl
no_bytes kinds.Trim count outcome room other = refl
no_bytes (kinds.Other number) count outcome room other = refl

-- the same of a slice of the room, with the head
pub room_bytes : (kind : RequestKind) (count : ℕ) (outcome : Outcome) (room there : List ℕ) → kind ≡ kinds.Read → outcome ≡ outcomes.Done → there ≡ room → bytes_of_reply kind count outcome room ≡ drop 16 (take (16 + count) there)
room_bytes kind count outcome room there is done same =
    read_bytes kind count outcome room is done ∙ sym (drop-take 16 count room) ∙ ap (λ (l : List ℕ). drop 16 (take (16 + count) l)) (sym same)
