-- Which reply belongs to a request of an array, and which array it leaves.
use Rattle.std.specs.Prelude.{◌≡◌, ◌-◌, ◌<◌, ◌≤◌, ℕ, List, [], length, take, Option, None, Some, true}
use Rattle.byte_arrays.specs.Arrays.{bytes_at}
use Rattle.byte_arrays.specs.Ranges.{touched_blocks, covered_blocks}
use Rattle.nbd_lang.specs.Requests.{RequestSent}
use Rattle.nbd_lang.specs.Replies.{Reply}
use Rattle.nbd_lang.specs.Refusals.{refusal}
use Rattle.nbd_lang.specs.declared.requests.Request.{Request}
use Rattle.nbd_lang.specs.declared.requests.RequestKind.{RequestKind}
use Rattle.nbd_lang.specs.declared.requests.RequestKind.TheVariants.{Read, Write, Disconnect, Flush, Trim, Other}
use Rattle.nbd_lang.specs.declared.replies.Outcome.{Outcome}
use Rattle.nbd_lang.specs.declared.replies.Outcome.TheVariants.{Done, NoMemory, NoSpace}
use Rattle.device_course.specs.Held.{Held, after_commit, Needs}
use Rattle.nbd_terms.specs.Bytes.{array_of, size_of, after_writes, after_trims}

-- a read: the bytes of the array; or no memory was given
abbrev pub Reads : Held → Request → Outcome → List ℕ → Held → Type 0
Reads old request Done bytes new = (bytes ≡ bytes_at (array_of old.session) request.offset request.length) × (new ≡ old)
Reads old request NoMemory bytes new = (bytes ≡ []) × (new ≡ old)
Reads old request _ bytes new = ⊥

-- a write, where so many pages are free: done; refused where it touches more blocks than that; or,
-- without memory, done in its first blocks alone
abbrev pub Writes : ℕ → Held → ℕ → List ℕ → List ℕ → Outcome → Held → Type 0
Writes free old offset bytes blocks Done new = (length blocks ≤ free) × (new ≡ after_writes old offset bytes blocks)
Writes free old offset bytes blocks NoSpace new = (free < length blocks) × (new ≡ old)
Writes free old offset bytes blocks NoMemory new = (length blocks ≤ free) × (n : ℕ) × (n ≤ length blocks) × (new ≡ after_writes old offset bytes (take n blocks))
Writes free old offset bytes blocks _ new = ⊥

-- a trim: done; or, without memory, done in its first blocks alone
abbrev pub Trims : Held → List ℕ → Outcome → Held → Type 0
Trims old blocks Done new = new ≡ after_trims old blocks
Trims old blocks NoMemory new = (n : ℕ) × (n ≤ length blocks) × (new ≡ after_trims old (take n blocks))
Trims old blocks _ new = ⊥

-- a flush, where so many pages are free: done; or refused where its commit needs more
abbrev pub Flushes : ℕ → Held → Outcome → Held → Type 0
Flushes free old Done new = (needed : ℕ) × Needs old needed × (needed ≤ free) × (new ≡ after_commit old needed)
Flushes free old NoSpace new = (needed : ℕ) × Needs old needed × (free < needed) × (new ≡ old)
Flushes free old _ new = ⊥

-- a request that isn't refused by its head, by its kind
abbrev pub Serves : ℕ → RequestKind → Held → RequestSent → Outcome → List ℕ → Held → Type 0
Serves free Read old sent outcome bytes new = Reads old sent.head outcome bytes new
Serves free Write old sent outcome bytes new = (bytes ≡ []) × Writes free old sent.head.offset sent.bytes (touched_blocks sent.head.offset sent.head.length) outcome new
Serves free Trim old sent outcome bytes new = (bytes ≡ []) × Trims old (covered_blocks sent.head.offset sent.head.length) outcome new
Serves free Flush old sent outcome bytes new = (bytes ≡ []) × Flushes free old outcome new
Serves free Disconnect old sent outcome bytes new = ⊥
Serves free (Other number) old sent outcome bytes new = ⊥

-- one that is refused by its head changes nothing
abbrev pub Answers : ℕ → Option Outcome → Held → RequestSent → Outcome → List ℕ → Held → Type 0
Answers free (Some why) old sent outcome bytes new = (outcome ≡ why) × (bytes ≡ []) × (new ≡ old)
Answers free None old sent outcome bytes new = Serves free sent.head.kind old sent outcome bytes new

-- this reply belongs to this request of an array, on a medium with room for so many pages, and
-- leads to that array
pub record Turn (capacity : ℕ) (old : Held) (sent : RequestSent) (reply : Reply) (new : Held) : Type 0 where
  pub cookie : reply.cookie ≡ sent.head.cookie
  pub answers : Answers (capacity - old.pages) (refusal (size_of old) sent.head) old sent reply.outcome reply.bytes new

-- a disconnect has no reply: its commit was done, or too few pages are free
abbrev pub Ends : ℕ → Held → Held → Type 0
Ends capacity old new = Flushes (capacity - old.pages) old Done new

abbrev pub IsUnfinished : ℕ → Held → Type 0
IsUnfinished capacity old = Flushes (capacity - old.pages) old NoSpace old

-- there is something to commit: a change was made, and enough pages are free
pub record HasToCommit (capacity : ℕ) (old : Held) : Type 0 where
  pub touched : old.session.touched ≡ true
  pub needed : ℕ
  pub needs : Needs old needed
  pub room : needed ≤ capacity - old.pages
