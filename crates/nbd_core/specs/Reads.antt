-- How many pages are read.
use Rattle.std.specs.Prelude.{◌≡◌, ◌≤◌, ◌⊎◌, ◌+◌, ◌-◌, ◌*◌, ◌++◌, ℕ, List, [], ◌∷◌, length}
use Rattle.byte_arrays.specs.Ranges.{covered_blocks, touched_blocks}
use Rattle.nbd_lang.specs.Refusals.{refusal}
use Rattle.nbd_lang.specs.Requests.{FitsRequest, request_head}
use Rattle.nbd_lang.specs.declared.requests.Request.{Request}
use Rattle.nbd_lang.specs.declared.requests.RequestKind.{RequestKind}
use Rattle.nbd_lang.specs.declared.requests.RequestKind.TheVariants as kinds
use Rattle.nbd_core.specs.Ample.{unless_refused}
use Rattle.nbd_core.specs.Exchanges.{Exchange}

-- how many blocks a range cuts: those that it touches and doesn't cover whole
abbrev pub cut_blocks : ℕ → ℕ → ℕ
cut_blocks offset n = length (touched_blocks offset n) - length (covered_blocks offset n)

-- how many pages a request of this kind reads at most: a read 21 for each block that it touches; a write 40,
-- and 21 more for each that it cuts; a trim 40 for each block that it covers; another one none
abbrev pub reads_at : RequestKind → ℕ → ℕ → ℕ
reads_at kinds.Read offset n = 21 * length (touched_blocks offset n)
reads_at kinds.Write offset n = 40 * length (touched_blocks offset n) + 21 * cut_blocks offset n
reads_at kinds.Trim offset n = 40 * length (covered_blocks offset n)
reads_at kinds.Flush offset n = 0
reads_at kinds.Disconnect offset n = 0
reads_at (kinds.Other number) offset n = 0

-- and a request on a device of so many bytes: none where its head is refused
abbrev pub reads_for : ℕ → Request → ℕ
reads_for size request = unless_refused (refusal size request) (reads_at request.kind request.offset request.length)

-- the same of requests with their replies
abbrev pub reads_in : ℕ → List Exchange → ℕ
reads_in size [] = 0
reads_in size (exchange ∷ more) = reads_for size exchange.sent.head + reads_in size more

-- no more pages were read than these, and those of the request, if there is one, with which these bytes begin
abbrev pub HasRead : ℕ → List ℕ → ℕ → ℕ → Type 0
HasRead size rest most now =
    (now ≤ most)
    ⊎ ((request : Request) × (more : List ℕ) × FitsRequest request × (rest ≡ request_head request ++ more) × (now ≤ most + reads_for size request))
