-- What is left of volumes that were destroyed.
use Rattle.std.proofs.Common.{◌≡◌, ◌≤◌, ◌<◌, ◌^◌, ◌++◌, ℕ, List, [], ◌∷◌, Option, Some, Ok, Err, inl, inr, subst, arith}
use Rattle.platform.specs.Image.{Image}
use Rattle.platform.specs.History.{History, image_at, moment}
use Rattle.page_store.specs.Stands.{Stands}
use Rattle.sdbt_base.specs.Arrays.{Device}
use Rattle.device_course.specs.Held.{Held}
use Rattle.device_course.specs.States.{Outside}
use Rattle.device_session.specs.Sessions.{Session}
use Rattle.volume_table.specs.declared.volume.Volume.{Volume}
use Rattle.device_course.specs.Leading.{Leads, last_of}
use Rattle.line_run.specs.Stops.{Ending}
use Rattle.line_run.specs.declared.stop.Stop.TheVariants as stops
use Rattle.session_calls.specs.declared.stops.DeviceStop.TheVariants as device
use Rattle.volume_lines.specs.Replies.{Reply, Destroyed}
use Rattle.volume_terms.specs.Destroyed.{IfDestroyed}
use Rattle.volume_terms.specs.Turn.{Turn}
use Rattle.volume_terms.proofs.DestroyedLaws.{IsAhead, if_destroyed, leaves_nothing, stays_free_ahead}
use Rattle.volume_terms.proofs.OwnLaws.{turn_blocks}
use Rattle.volume_terms.proofs.TableLaws.{not_first}
use Rattle.volume_desk.specs.Turns.{IsOfAll, Shows}
use Rattle.volume_serving.specs.Handled.{AreShown, EndsOn}
use Rattle.volume_serving.specs.Tabled.{IfNext}
use Rattle.volumes.specs.Destroyed.{AreDestroyed, IsDestroyed}
use Rattle.volumes.proofs.ReachLaws.{never_later}

-- ---- what is ahead of the replies

next_line : (replies : List Reply) (lines : List (List ℕ)) (Claim : List ℕ → Type 0) → IfNext replies lines Claim → (line : List ℕ) × Claim line
next_line [] [] Claim next = absurd next
next_line [] (line ∷ lines) Claim next = (line, next)
next_line (reply ∷ replies) [] Claim next = absurd next
next_line (reply ∷ replies) (line ∷ lines) Claim next = next_line replies lines Claim next

pub ahead_of : (new : Outside) (after : Option Session) (table : List Volume) (capacity : ℕ) (last : Held) (lines : List (List ℕ)) (replies : List Reply) (part : List ℕ) (ahead : List Held) (ending : Ending) → EndsOn new after table capacity last lines replies part ahead ending → IsAhead capacity last ahead
ahead_of new after table capacity last lines replies part ahead (Ok done) ends = inl ends.0
ahead_of new after table capacity last lines replies part ahead (Err stops.Source) ends = inl ends.0
ahead_of new after table capacity last lines replies part ahead (Err stops.Limit) ends = inl ends.0
ahead_of new after table capacity last lines replies part ahead (Err stops.Sink) (reply, next, is, first, turn) =
    let line = next_line replies lines (λ l. Turn capacity last l reply next) turn in inr (line.0, reply, next, is, line.1)
ahead_of new after table capacity last lines replies part ahead (Err (stops.Device device.Platform)) (inl none) = inl none
ahead_of new after table capacity last lines replies part ahead (Err (stops.Device device.Platform)) (inr (reply, next, is, turn)) =
    let line = next_line replies lines (λ l. Turn capacity last l reply next) turn in inr (line.0, reply, next, is, line.1)
ahead_of new after table capacity last lines replies part ahead (Err (stops.Device device.Tape)) ends = inl ends
ahead_of new after table capacity last lines replies part ahead (Err (stops.Device device.Ledger)) ends = inl ends
ahead_of new after table capacity last lines replies part ahead (Err (stops.Device device.Memory)) ends = inl ends
ahead_of new after table capacity last lines replies part ahead (Err (stops.Device device.BadRoot)) ends = absurd ends
ahead_of new after table capacity last lines replies part ahead (Err (stops.Device (device.BadRecord addr))) ends = absurd ends

-- ---- volumes that were destroyed

pub blocks_below : (image : Image) (there : Device) → Stands image (Some there) → there.blocks < 2 ^ 64
blocks_below image there (root, parts, stands) = omega (arith, stands.blocks, stands.in_range.blocks_most)

settled_of : (image : Image) (reply : Reply) (number : ℕ) (held : Held) → reply ≡ Destroyed number → Shows image reply held → IsOfAll image
settled_of image reply number held is shows = subst (λ (r : Reply). IfDestroyed r (IsOfAll image)) is shows.settled

line_destroyed : (capacity : ℕ) (old new : History) (from : ℕ) (entry : Held) (line : List ℕ) (lines : List (List ℕ)) (reply : Reply) (replies : List Reply) (state : Held) (states ahead : List Held) (number : ℕ) → entry.device.blocks < 2 ^ 64 → moment old ≤ from
    → Turn capacity entry line reply state → Leads (Turn capacity) state lines replies states → IsAhead capacity (last_of state states) ahead → AreShown new from (reply ∷ replies) (state ∷ states) → reply ≡ Destroyed number
    → IsDestroyed old new entry line state (states ++ ahead)
line_destroyed capacity old new from entry line lines reply replies state states ahead number below start turn leads is_ahead (at, above, until, shows, more) is =
    let leaves = leaves_nothing capacity entry line number state (subst (λ (r : Reply). Turn capacity entry line r state) is turn) in
    let blocks = turn_blocks capacity entry line reply state turn in
    let all : IsOfAll (image_at new at) = settled_of (image_at new at) reply number state is shows in
    let since : moment old ≤ at = omega (arith, start, above) in
    record {
      leaves = leaves;
      at = at;
      ends = record { from = since; to = until; stands = shows.stands; all = all };
      free = λ block has. stays_free_ahead capacity block state lines replies states ahead (omega (arith, below, blocks)) (not_first entry.device.blocks leaves.table leaves.v block leaves.tabled.is leaves.named.0 has) (leaves.free block has) leads is_ahead;
      never = λ keys grew by premises block has later after stop addr page.
          never_later old new keys grew at state.device block addr later since until shows.stands (leaves.destroyed.gone block has) all by premises page after stop;
    }

pub are_destroyed : (capacity : ℕ) (old new : History) (from : ℕ) (entry : Held) (lines : List (List ℕ)) (replies : List Reply) (states ahead : List Held) → entry.device.blocks < 2 ^ 64 → moment old ≤ from
    → Leads (Turn capacity) entry lines replies states → IsAhead capacity (last_of entry states) ahead → AreShown new from replies states → AreDestroyed old new entry lines replies states ahead
are_destroyed capacity old new from entry [] replies states ahead below start leads is_ahead shown = tt
are_destroyed capacity old new from entry (line ∷ lines) [] states ahead below start leads is_ahead shown = tt
are_destroyed capacity old new from entry (line ∷ lines) (reply ∷ replies) [] ahead below start leads is_ahead shown = tt
are_destroyed capacity old new from entry (line ∷ lines) (reply ∷ replies) (state ∷ states) ahead below start (turn, leads) is_ahead (at, above, until, shows, more) =
    let blocks = turn_blocks capacity entry line reply state turn in (
      if_destroyed reply (IsDestroyed old new entry line state (states ++ ahead))
          (λ number is. line_destroyed capacity old new from entry line lines reply replies state states ahead number below start turn leads is_ahead (at, above, until, shows, more) is),
      are_destroyed capacity old new at state lines replies states ahead (omega (arith, below, blocks)) (omega (arith, start, above)) leads is_ahead more,
    )
