-- How often requests sync, or change the cell.
use Rattle.std.specs.Prelude.{◌≡◌, ◌⊎◌, ◌+◌, ◌++◌, ℕ, List, [], ◌∷◌}
use Rattle.sdbt_base.specs.Rises.{MayRiseBy}
use Rattle.nbd_lang.specs.Refusals.{refusal}
use Rattle.nbd_lang.specs.Requests.{FitsRequest, request_head}
use Rattle.nbd_lang.specs.declared.requests.Request.{Request}
use Rattle.nbd_lang.specs.declared.requests.RequestKind.{RequestKind}
use Rattle.nbd_lang.specs.declared.requests.RequestKind.TheVariants as kinds
use Rattle.nbd_core.specs.Ample.{unless_refused}
use Rattle.nbd_core.specs.Exchanges.{Exchange}

-- how often a request of this kind syncs or changes the cell at most: one that makes a commit does each once, and another one neither
abbrev pub changes_at : RequestKind → ℕ
changes_at kinds.Flush = 2
changes_at kinds.Disconnect = 2
changes_at kinds.Read = 0
changes_at kinds.Write = 0
changes_at kinds.Trim = 0
changes_at (kinds.Other number) = 0

-- and a request on a device of so many bytes: never where its head is refused
abbrev pub changes_for : ℕ → Request → ℕ
changes_for size request = unless_refused (refusal size request) (changes_at request.kind)

-- the same of requests with their replies
abbrev pub changes_in : ℕ → List Exchange → ℕ
changes_in size [] = 0
changes_in size (exchange ∷ more) = changes_for size exchange.sent.head + changes_in size more

-- the count rose by no more than this, and what belongs to the request, if there is one, with which these bytes begin
abbrev pub HasChanged : ℕ → List ℕ → ℕ → ℕ → ℕ → Type 0
HasChanged size rest most old new =
    MayRiseBy most old new
    ⊎ ((request : Request) × (more : List ℕ) × FitsRequest request × (rest ≡ request_head request ++ more) × MayRiseBy (most + changes_for size request) old new)

-- what is counted of a part of a run: how often the cell was looked at before it, and how often the platform had synced or changed the cell where it began, and where it ended
pub record Tally : Type 0 where
  pub looks : ℕ
  pub changes : ℕ
  pub changes_now : ℕ

abbrev pub tally : ℕ → ℕ → ℕ → Tally
tally looks changes changes_now = record { looks = looks; changes = changes; changes_now = changes_now }
