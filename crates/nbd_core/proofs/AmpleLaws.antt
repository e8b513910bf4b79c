-- With enough pages free each request is done.
use Rattle.std.proofs.Common.{◌≡◌, ◌≤◌, ◌+◌, ◌-◌, ◌*◌, ◌∙◌, ◌∷◌, ℕ, Bool, true, false, List, [], Option, None, Some, inl, inr, length, take, refl, sym, ap, arith, length-take}
use Rattle.std.specs.Prelude.{All, map}
use Rattle.std.proofs.lemmas.List.Elements.{All-cons}
use Rattle.sdbt_base.specs.Arrays.{Device, Session as OpenSession, committed_if}
use Rattle.nbd_lang.specs.Refusals.{refusal}
use Rattle.nbd_lang.specs.Requests.{RequestSent}
use Rattle.nbd_lang.specs.declared.replies.Outcome.{Outcome}
use Rattle.nbd_lang.specs.declared.replies.Outcome.TheVariants as outcomes
use Rattle.nbd_lang.specs.declared.requests.RequestKind.{RequestKind}
use Rattle.nbd_lang.specs.declared.requests.RequestKind.TheVariants as kinds
use Rattle.byte_arrays.specs.Ranges.{touched_blocks, covered_blocks}
use Rattle.device_course.specs.Held.{Held}
use Rattle.nbd_terms.specs.Bytes.{size_of}
use Rattle.device_course.specs.Leading.{Leads, last_of}
use Rattle.nbd_terms.specs.Turn.{Answers, IsUnfinished, Serves, Turn}
use Rattle.nbd_core.specs.Ample.{HasRoom, IsServed, IsServedOut, blocks_of_range, changed_by, unless_refused}
use Rattle.nbd_core.specs.Exchanges.{Exchange, sent_of, told_of}

-- what a request with a reply does to the pages that are free
record Spends (cost : ℕ) (entry next : Held) (kind : RequestKind) (outcome : Outcome) (Served : Type 0) : Type 0 where
  done : Served → IsServed kind outcome
  blocks : next.device.blocks ≡ entry.device.blocks
  pages : next.pages + 41 * next.updates ≤ entry.pages + 41 * entry.updates + 42 * cost

same_held : (cost : ℕ) (entry next : Held) (kind : RequestKind) (outcome : Outcome) (Served : Type 0) → (Served → IsServed kind outcome) → next ≡ entry → Spends cost entry next kind outcome Served
same_held cost entry next kind outcome Served done same = record {
  done = done;
  blocks = ap (λ (h : Held). h.device.blocks) same;
  pages = omega (arith, ap (λ (h : Held). h.pages) same, ap (λ (h : Held). h.updates) same);
}

committed_blocks : (touched : Bool) (there : Device) (array : OpenSession) → (committed_if touched there array).blocks ≡ there.blocks
committed_blocks true there array = refl
committed_blocks false there array = refl

first_few : (blocks : List ℕ) (n : ℕ) → length (take n blocks) ≤ length blocks
first_few blocks n = omega (arith, length-take n blocks)

serves_room : (capacity : ℕ) (kind : RequestKind) (entry next : Held) (sent : RequestSent) (outcome : Outcome) (bytes : List ℕ) → entry.pages + 41 * entry.updates + 42 * blocks_of_range kind sent.head.offset sent.head.length ≤ capacity
    → Serves (capacity - entry.pages) kind entry sent outcome bytes next → Spends (blocks_of_range kind sent.head.offset sent.head.length) entry next kind outcome (Unit {0})
serves_room capacity kinds.Read entry next sent outcomes.Done bytes room (is, same) = same_held 0 entry next kinds.Read outcomes.Done (Unit {0}) (λ s. inl refl) same
serves_room capacity kinds.Read entry next sent outcomes.NoMemory bytes room (is, same) = same_held 0 entry next kinds.Read outcomes.NoMemory (Unit {0}) (λ s. inr refl) same
serves_room capacity kinds.Read entry next sent outcomes.Damaged bytes room serves = absurd serves
serves_room capacity kinds.Read entry next sent outcomes.Invalid bytes room serves = absurd serves
serves_room capacity kinds.Read entry next sent outcomes.NoSpace bytes room serves = absurd serves
serves_room capacity kinds.Write entry next sent outcomes.Done bytes room (none, (fits, is)) =
    let blocks : List ℕ = touched_blocks sent.head.offset sent.head.length in
    record { done = λ s. inl refl; blocks = ap (λ (h : Held). h.device.blocks) is; pages = omega (arith, ap (λ (h : Held). h.pages) is, ap (λ (h : Held). h.updates) is) }
serves_room capacity kinds.Write entry next sent outcomes.NoMemory bytes room (none, (fits, n, few, is)) =
    let blocks : List ℕ = touched_blocks sent.head.offset sent.head.length in
    record { done = λ s. inr refl; blocks = ap (λ (h : Held). h.device.blocks) is; pages = omega (arith, ap (λ (h : Held). h.pages) is, ap (λ (h : Held). h.updates) is, first_few blocks n) }
serves_room capacity kinds.Write entry next sent outcomes.NoSpace bytes room (none, (lack, same)) = absurd (omega (arith, room, lack))
serves_room capacity kinds.Write entry next sent outcomes.Damaged bytes room (none, serves) = absurd serves
serves_room capacity kinds.Write entry next sent outcomes.Invalid bytes room (none, serves) = absurd serves
serves_room capacity kinds.Trim entry next sent outcomes.Done bytes room (none, is) =
    record { done = λ s. inl refl; blocks = ap (λ (h : Held). h.device.blocks) is; pages = omega (arith, ap (λ (h : Held). h.pages) is, ap (λ (h : Held). h.updates) is) }
serves_room capacity kinds.Trim entry next sent outcomes.NoMemory bytes room (none, (n, few, is)) =
    let blocks : List ℕ = covered_blocks sent.head.offset sent.head.length in
    record { done = λ s. inr refl; blocks = ap (λ (h : Held). h.device.blocks) is; pages = omega (arith, ap (λ (h : Held). h.pages) is, ap (λ (h : Held). h.updates) is, first_few blocks n) }
serves_room capacity kinds.Trim entry next sent outcomes.NoSpace bytes room (none, serves) = absurd serves
serves_room capacity kinds.Trim entry next sent outcomes.Damaged bytes room (none, serves) = absurd serves
serves_room capacity kinds.Trim entry next sent outcomes.Invalid bytes room (none, serves) = absurd serves
serves_room capacity kinds.Flush entry next sent outcomes.Done bytes room (none, (needed, needs, fits, is)) = record {
  done = λ s. refl;
  blocks = ap (λ (h : Held). h.device.blocks) is ∙ committed_blocks entry.session.touched entry.device entry.session;
  pages = omega (arith, ap (λ (h : Held). h.pages) is, ap (λ (h : Held). h.updates) is, needs.most);
}
serves_room capacity kinds.Flush entry next sent outcomes.NoSpace bytes room (none, (needed, needs, lack, same)) = absurd (omega (arith, room, lack, needs.most))
serves_room capacity kinds.Flush entry next sent outcomes.NoMemory bytes room (none, serves) = absurd serves
serves_room capacity kinds.Flush entry next sent outcomes.Damaged bytes room (none, serves) = absurd serves
serves_room capacity kinds.Flush entry next sent outcomes.Invalid bytes room (none, serves) = absurd serves
serves_room capacity kinds.Disconnect entry next sent outcome bytes room serves = absurd serves
serves_room capacity (kinds.Other number) entry next sent outcome bytes room serves = absurd serves

answers_room : (capacity : ℕ) (refused : Option Outcome) (entry next : Held) (sent : RequestSent) (outcome : Outcome) (bytes : List ℕ)
    → entry.pages + 41 * entry.updates + 42 * unless_refused refused (blocks_of_range sent.head.kind sent.head.offset sent.head.length) ≤ capacity → Answers (capacity - entry.pages) refused entry sent outcome bytes next
    → Spends (unless_refused refused (blocks_of_range sent.head.kind sent.head.offset sent.head.length)) entry next sent.head.kind outcome (refused ≡ None)
answers_room capacity (Some why) entry next sent outcome bytes room (is, none, same) = same_held 0 entry next sent.head.kind outcome (Some why ≡ None) (λ never. absurd cc) same
answers_room capacity None entry next sent outcome bytes room answers =
    let spends = serves_room capacity sent.head.kind entry next sent outcome bytes room answers in
    record { done = λ s. spends.done tt; blocks = spends.blocks; pages = spends.pages }

all_first : (size : ℕ) (exchange : Exchange) (more : List Exchange) → IsServedOut size exchange → All (IsServedOut size) more → All (IsServedOut size) (exchange ∷ more)
all_first size exchange more first rest = All-cons (IsServedOut size) exchange more first rest

-- so are all of them, and a commit's pages are free at their end
pub leads_room : (capacity size : ℕ) (entry : Held) (exchanges : List Exchange) (states : List Held) → size ≡ size_of entry → HasRoom capacity size entry exchanges → Leads (Turn capacity) entry (map sent_of exchanges) (map told_of exchanges) states
    → All (IsServedOut size) exchanges × ((last_of entry states).pages + 41 * (last_of entry states).updates ≤ capacity)
leads_room capacity size entry [] [] is room leads = ((λ k d below. absurd (omega (arith, below))), omega (arith, room))
leads_room capacity size entry [] (state ∷ states) is room leads = absurd leads
leads_room capacity size entry (exchange ∷ more) [] is room leads = absurd leads
leads_room capacity size entry (exchange ∷ more) (state ∷ states) is room (turn, leads) =
    let head = exchange.sent.head in
    let cost : ℕ = changed_by size head in
    let whole : unless_refused (refusal (size_of entry) head) (blocks_of_range head.kind head.offset head.length) ≡ cost = ap (λ (n : ℕ). unless_refused (refusal n head) (blocks_of_range head.kind head.offset head.length)) (sym is) in
    let spends = answers_room capacity (refusal (size_of entry) head) entry state exchange.sent exchange.reply.outcome exchange.reply.bytes (omega (arith, room, whole)) turn.answers in
    let next : size ≡ size_of state = is ∙ ap (λ (n : ℕ). 4096 * n) (sym spends.blocks) in
    let rest = leads_room capacity size state more states next (omega (arith, room, whole, spends.pages)) leads in
    let first : IsServedOut size exchange = λ served. spends.done (ap (λ (n : ℕ). refusal n head) (sym is) ∙ served) in
    (all_first size exchange more first rest.0, rest.1)

-- no commit is refused then
pub room_finished : (capacity : ℕ) (last : Held) → last.pages + 41 * last.updates ≤ capacity → IsUnfinished capacity last → ⊥
room_finished capacity last room (needed, needs, lack, same) = omega (arith, room, needs.most, lack)
