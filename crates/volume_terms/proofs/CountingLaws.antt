-- With enough pages free no line is refused for want of them.
use Rattle.std.proofs.Common.{ℕ, suc, ◌+◌, ◌*◌, ◌≤◌, inl, inr, List, [], ◌∷◌, Option, length, sym, ap, subst, arith}
use Rattle.std.specs.List.{All}
use Rattle.std.proofs.Math.Nat.{mul-suc}
use Rattle.std.proofs.lemmas.List.Elements.{All-nil, All-cons}
use Rattle.device_course.specs.Held.{Held}
use Rattle.device_course.specs.Leading.{Leads, last_of}
use Rattle.volume_table.specs.declared.volume.Volume.{Volume}
use Rattle.volume_lines.specs.Lines.{Line, Create, Read, Write, Trim, Destroy, Commit}
use Rattle.volume_lines.specs.Replies.{Reply, Full, Uncommitted}
use Rattle.volume_terms.specs.Volumes.{IsTabled, IsTaken}
use Rattle.volume_terms.specs.Turn.{Serves, Turn}
use Rattle.volume_terms.specs.Own.{named_by}
use Rattle.volume_terms.specs.Counting.{needed_for_line, pages_ahead, IsRoomy, IsNotShort}
use Rattle.volume_terms.proofs.TableLaws.{inside_of, taken_had}
use Rattle.volume_terms.proofs.KeepingLaws.{Change, Nothing, Wrote, Trimmed, Placed, Taken, Ended, Saved, change_of}
use Rattle.volume_terms.proofs.OwnLaws.{turn_blocks}

-- ---- what a line adds

taken_fits : (held : Held) (table left : List Volume) (v : Volume) → IsTabled held table → IsTaken table v left → v.count + 1 ≤ held.device.blocks
taken_fits held table left v tabled taken =
    let inside = inside_of held.device.blocks table v tabled.is (taken_had table v left taken) in omega (arith, inside.start, inside.within)

changes_grow : (table : List Volume) (old : Held) (owner : Option (List ℕ)) (new : Held) → IsTabled old table → Change table old owner new → pages_ahead new ≤ pages_ahead old + needed_for_line old.device.blocks
changes_grow table old owner new tabled (Nothing e) = omega (arith, ap pages_ahead e)
changes_grow table old owner new tabled (Wrote v block content there is has e) = omega (arith, ap pages_ahead e)
changes_grow table old owner new tabled (Trimmed v block there is has e) = omega (arith, ap pages_ahead e)
changes_grow table old owner new tabled (Placed v placed name count is owns e) = omega (arith, ap pages_ahead e, is.counted, is.start.fits.least, is.start.fits.within)
changes_grow table old owner new tabled (Taken v left taken is e) = omega (arith, ap pages_ahead e, taken_fits old table left v tabled taken)
changes_grow table old owner new tabled (Ended v left needed taken is needs e) = omega (arith, ap pages_ahead e, needs.most, taken_fits old table left v tabled taken)
changes_grow table old owner new tabled (Saved needed needs e) = omega (arith, ap pages_ahead e, needs.most)

turn_grows : (capacity : ℕ) (old : Held) (line : List ℕ) (reply : Reply) (new : Held) → Turn capacity old line reply new → pages_ahead new ≤ pages_ahead old + needed_for_line old.device.blocks
turn_grows capacity old line reply new (inl served) = changes_grow served.table old (named_by served.it) new served.tabled (change_of capacity served.table old new served.it reply served.serves)
turn_grows capacity old line reply new (inr (bad, is, e)) = omega (arith, ap pages_ahead e)

-- ---- what it is refused for

not_full : (capacity : ℕ) (table : List Volume) (old new : Held) (it : Line) → pages_ahead old + needed_for_line old.device.blocks ≤ capacity → Serves capacity table old it Full new → ⊥
not_full capacity table old new (Create name count) room (lacks, fits, v, placed, is, full, e) = omega (arith, room, full)
not_full capacity table old new (Read name block) room serves = serves.3
not_full capacity table old new (Write name block content) room (v, named, within, (full, e)) = omega (arith, room, full)
not_full capacity table old new (Trim name block) room serves = serves.3
not_full capacity table old new (Destroy name) room (v, named, full, e) = omega (arith, room, full)
not_full capacity table old new Commit room (needed, needs, short, e) = omega (arith, room, needs.most, short)

not_uncommitted : (capacity : ℕ) (table : List Volume) (old new : Held) (it : Line) → IsTabled old table → pages_ahead old + needed_for_line old.device.blocks ≤ capacity
    → Serves capacity table old it Uncommitted new → ⊥
not_uncommitted capacity table old new (Create name count) tabled room serves = serves
not_uncommitted capacity table old new (Read name block) tabled room serves = serves.3
not_uncommitted capacity table old new (Write name block content) tabled room serves = serves.3
not_uncommitted capacity table old new (Trim name block) tabled room serves = serves.3
not_uncommitted capacity table old new (Destroy name) tabled room (v, left, same, taken, free, (needed, needs, short, e)) =
    omega (arith, room, needs.most, short, taken_fits old table left v tabled taken)
not_uncommitted capacity table old new Commit tabled room serves = serves

not_short : (capacity : ℕ) (old : Held) (line : List ℕ) (reply : Reply) (new : Held) → pages_ahead old + needed_for_line old.device.blocks ≤ capacity → Turn capacity old line reply new → IsNotShort reply
not_short capacity old line reply new room (inl served) = (
  λ same. not_full capacity served.table old new served.it room (subst (λ (r : Reply). Serves capacity served.table old served.it r new) same served.serves),
  λ same. not_uncommitted capacity served.table old new served.it served.tabled room (subst (λ (r : Reply). Serves capacity served.table old served.it r new) same served.serves),
)
not_short capacity old line reply new room (inr (bad, is, e)) = (λ same. cc, λ same. cc)

-- ---- lines one after another

-- room for a line less
room_behind : (needed lines ahead ahead_now capacity : ℕ) → ahead + needed * suc lines ≤ capacity → ahead_now ≤ ahead + needed → ahead_now + needed * lines ≤ capacity
room_behind needed lines ahead ahead_now capacity room grows = omega (arith, room, grows, mul-suc needed lines)

room_here : (needed lines ahead capacity : ℕ) → ahead + needed * suc lines ≤ capacity → ahead + needed ≤ capacity
room_here needed lines ahead capacity room = omega (arith, room, mul-suc needed lines)

pub none_short : (capacity : ℕ) (entry : Held) (lines : List (List ℕ)) (replies : List Reply) (states : List Held) → IsRoomy capacity entry (length lines)
    → Leads (Turn capacity) entry lines replies states → All IsNotShort replies
none_short capacity entry lines [] states room leads = All-nil IsNotShort
none_short capacity entry lines (reply ∷ replies) [] room leads = absurd leads
none_short capacity entry [] (reply ∷ replies) (state ∷ states) room leads = absurd leads
none_short capacity entry (line ∷ lines) (reply ∷ replies) (state ∷ states) room (turn, more) =
    let needed : ℕ = needed_for_line entry.device.blocks in
    let blocks = turn_blocks capacity entry line reply state turn in
    let later : pages_ahead state + needed * length lines ≤ capacity =
    room_behind needed (length lines) (pages_ahead entry) (pages_ahead state) capacity room (turn_grows capacity entry line reply state turn) in
    All-cons IsNotShort reply replies (not_short capacity entry line reply state (room_here needed (length lines) (pages_ahead entry) capacity room) turn)
    (none_short capacity state lines replies states (subst (λ (b : ℕ). pages_ahead state + needed_for_line b * length lines ≤ capacity) (sym blocks) later) more)

-- what some lines add
pub lines_grow : (capacity : ℕ) (entry : Held) (lines : List (List ℕ)) (replies : List Reply) (states : List Held) → Leads (Turn capacity) entry lines replies states
    → pages_ahead (last_of entry states) ≤ pages_ahead entry + needed_for_line entry.device.blocks * length replies
lines_grow capacity entry lines [] [] leads = omega arith
lines_grow capacity entry lines [] (state ∷ states) leads = absurd leads
lines_grow capacity entry lines (reply ∷ replies) [] leads = absurd leads
lines_grow capacity entry [] (reply ∷ replies) (state ∷ states) leads = absurd leads
lines_grow capacity entry (line ∷ lines) (reply ∷ replies) (state ∷ states) (turn, more) =
    let needed : ℕ = needed_for_line entry.device.blocks in
    let blocks = turn_blocks capacity entry line reply state turn in
    let later : pages_ahead (last_of state states) ≤ pages_ahead state + needed * length replies =
    subst (λ (b : ℕ). pages_ahead (last_of state states) ≤ pages_ahead state + needed_for_line b * length replies) blocks (lines_grow capacity state lines replies states more) in
    omega (arith, later, turn_grows capacity entry line reply state turn, mul-suc needed (length replies))
