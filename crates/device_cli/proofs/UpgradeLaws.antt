-- How many pages an upgrade needs: by the root record as by the device, at most, and of how many blocks lines come to map.
use Rattle.std.proofs.Common.{◌≡◌, ℕ, zero, suc, ◌+◌, ◌*◌, ◌/◌, ◌≤◌, Bool, true, false, List, Option, None, Some, inl, inr, refl, sym, ◌∙◌, subst, ap, arith}
use Rattle.std.specs.Prelude.{◌⊎◌, ◌&&◌, ◌==◌, nat_le, nat_lt, IfSome, if◌then◌else◌}
use Rattle.std.specs.FinMap as map
use Rattle.std.specs.Ordering.{nat_cmp}
use Rattle.std.proofs.lemmas.Cmp.{nat_cmp_total}
use Rattle.std.proofs.lemmas.Bool.{cases_Bool}
use Rattle.std.proofs.lemmas.Grind.{common_steps}
use Rattle.std.proofs.Math.Nat.{mul-div-le}
use Rattle.platform.specs.Image.{Image}
use Rattle.root_codec.specs.declared.root.Root.{Root}
use Rattle.root_codec.specs.RootRecord.{FitsRoot, root_bytes}
use Rattle.root_codec.specs.Laws.{one_root}
use Rattle.page_store.proofs.AscendLaws.{mapped_len}
use Rattle.sdbt_base.specs.Arrays.{Blocks, Device, Session as OpenSession, State, padded}
use Rattle.tree_build.specs.Shape.{built_from, built}
use Rattle.device_core.specs.Upgrading.{IsOn, order_above, needed_of_device, needed_of_root, pages_over}
use Rattle.script_lang.specs.Arrays.{Counted, in_limits, needs_room, step}
use Rattle.script_lang.specs.Answers.{answer}
use Rattle.script_lang.specs.Commands.{Command, Format, Mount, Read, Write, Trim, Commit, Drop, Erase, Upgrade, Seize}
use Rattle.script_lang.specs.Commands as commands
use Rattle.script_lang.specs.Replies.{Reply, Formatted, Done, Committed, Upgraded}
use Rattle.session_calls.specs.declared.stops.DeviceStop.{DeviceStop}
use Rattle.session_calls.specs.declared.stops.DeviceStop.TheVariants as stops
use Rattle.device_cli.specs.Added.{LeavesFew, left_by}
use Rattle.device_cli.specs.Pages.{Standing, TurnOn, most_upgrade, upgrade_of}
use Rattle.device_cli.specs.Parts.{Adds, added_by}
use Rattle.device_cli.specs.Represents.{StandsFor}
use Rattle.device_cli.specs.Seen.{mapped_of}

-- ---- how many nodes stand over so many data records

-- a level has at most half as many nodes as there are items below it, where it has more than one
half_over : (order count : ℕ) → 4 ≤ order → 2 * (count / (order / 2)) ≤ count
half_over order count least =
    let half : 2 ≤ order / 2 = omega arith in
    omega (arith, mul-div-le count (order / 2), less half)
  where
    less : 2 ≤ order / 2 → 2 * (count / (order / 2)) ≤ order / 2 * (count / (order / 2))
    less half = grind arith

few_from : (more order count : ℕ) → 4 ≤ order → built_from more order count ≤ count + 1
unfolding built_from
few_from zero order count least = omega arith
few_from (suc more) order count least = elim (cases_Bool (nat_le count order)) [
  | inl all ↦ rw all (omega arith)
  | inr not_all ↦ rw not_all (omega (arith, half_over order count least, few_from more order (count / (order / 2)) least))
]

pub few_built : (order count : ℕ) → 4 ≤ order → built order count ≤ count + 1
few_built order count least = few_from 20 order count least

none_least : (order : ℕ) → nat_le 0 order ≡ true
none_least order = grind (arith, common_steps)

-- one, where there are none
one_from : (more order : ℕ) → built_from (suc more) order 0 ≡ 1
unfolding built_from
one_from more order = rw (none_least order) refl

pub some_over : (order mapped : ℕ) → 1 ≤ pages_over order mapped
some_over order zero = omega (arith, one_from 19 (order_above order))
some_over order (suc mapped) = omega arith

-- ---- how many pages an upgrade needs

order_least : (order : ℕ) → 4 ≤ order → 4 ≤ order_above order
order_least order least = omega (arith, least)

pub over_most : (order mapped most : ℕ) → 4 ≤ order → mapped ≤ most → pages_over order mapped ≤ most_upgrade most
over_most order mapped most least within = omega (arith, within, few_built (order_above order) mapped (order_least order least))

pub root_most : (root : Root) → FitsRoot root → needed_of_root root ≤ most_upgrade 1048576
root_most root fits = over_most root.order root.mapped 1048576 fits.order_least (omega (arith, fits.mapped, fits.blocks_most))

same_some : {A : Type 0} (x y : A) → Some x ≡ Some y → x ≡ y
same_some x y same = cc

-- by the root record in the cell of an image that stands for the device, as by the device
pub same_needed : (image : Image) (d : Device) (root : Root) → StandsFor image (Some d) → FitsRoot root → image.cell ≡ Some (root_bytes root) → needed_of_root root ≡ needed_of_device d
same_needed image d root (other, parts, s) fits cell =
    let roots : other ≡ root = one_root other root s.in_range fits (same_some _ _ (sym s.cell ∙ cell)) in
    let order : root.order ≡ d.order = ap (λ (r : Root). r.order) (sym roots) ∙ s.order in
    let mapped : root.mapped ≡ map.len d.contents = ap (λ (r : Root). r.mapped) (sym roots) ∙ sym s.count ∙ mapped_len image d other parts s in
    ap (λ (n : ℕ). pages_over n root.mapped) order ∙ ap (λ (n : ℕ). pages_over d.order n) mapped

no_cell : (bytes : List ℕ) (cell : Option (List ℕ)) → cell ≡ None → cell ≡ Some bytes → ⊥
no_cell bytes cell none some = let e : None ≡ Some bytes = sym none ∙ some in cc

pub state_needs : (image : Image) (there : Option Device) (opened : Option OpenSession) (root : Root) → StandsFor image there → FitsRoot root → image.cell ≡ Some (root_bytes root)
    → needed_of_root root ≡ upgrade_of (record { device = there; session = opened })
state_needs image None opened root stands fits cell = absurd (no_cell (root_bytes root) image.cell stands cell)
state_needs image (Some d) opened root stands fits cell = same_needed image d root stands fits cell

-- what a command that has a reply added, by the device
adds_upgraded : (tells : Type 0) (image : Image) (entry : State) (changes head now : ℕ) → tells → StandsFor image entry.device
    → ((root : Root) × IsOn tells image head root × (now ≡ head + needed_of_root root)) → now ≡ head + upgrade_of entry
adds_upgraded tells image entry changes head now told stands (root, on, is) =
    omega (arith, is, state_needs image entry.device entry.session root stands on.within.in_range (on.cell told))

pub adds_device : (tells : Type 0) (image : Image) (entry : State) (command : Command) (reply : Reply) (changes head now : ℕ) → tells → StandsFor image entry.device
    → Adds tells image command reply changes head now → now ≡ head + added_by command reply changes (upgrade_of entry)
adds_device tells image entry Upgrade (Upgraded number) changes head now told stands h = adds_upgraded tells image entry changes head now told stands h
adds_device tells image entry Upgrade _ changes head now told stands h = h
adds_device tells image entry (Format blocks order) Formatted changes head now told stands h = h
adds_device tells image entry (Format blocks order) _ changes head now told stands h = h
adds_device tells image entry (Write block content) Done changes head now told stands h = h
adds_device tells image entry (Write block content) _ changes head now told stands h = h
adds_device tells image entry Commit (Committed number) changes head now told stands h = h
adds_device tells image entry Commit _ changes head now told stands h = h
adds_device tells image entry _ _ changes head now told stands h = h

-- what a stop left
leaves_upgrade : (tells : Type 0) (image : Image) (entry : State) (stop : DeviceStop) (changes head now : ℕ) → tells → StandsFor image entry.device
    → (now ≡ head) ⊎ ((root : Root) × IsOn tells image head root × (now ≤ head + left_by stop Upgrade changes (needed_of_root root))) → now ≤ head + left_by stop Upgrade changes (upgrade_of entry)
leaves_upgrade tells image entry stop changes head now told stands (inl same) = omega (arith, same)
leaves_upgrade tells image entry stop changes head now told stands (inr (root, on, few)) =
    subst (λ (n : ℕ). now ≤ head + left_by stop Upgrade changes n) (state_needs image entry.device entry.session root stands on.within.in_range (on.cell told)) few

pub leaves_device : (tells : Type 0) (image : Image) (entry : State) (stop : DeviceStop) (command : Command) (changes head now : ℕ) → tells → StandsFor image entry.device
    → LeavesFew tells image stop command changes head now → now ≤ head + left_by stop command changes (upgrade_of entry)
leaves_device tells image entry stop Upgrade changes head now told stands h = leaves_upgrade tells image entry stop changes head now told stands h
leaves_device tells image entry stops.Platform _ changes head now told stands h = h
leaves_device tells image entry stops.Ledger _ changes head now told stands h = h
leaves_device tells image entry stops.Tape _ changes head now told stands h = h
leaves_device tells image entry stops.Memory _ changes head now told stands h = h
leaves_device tells image entry stops.BadRoot _ changes head now told stands h = h
leaves_device tells image entry (stops.BadRecord addr) _ changes head now told stands h = h

-- ---- how many blocks are mapped

-- how many blocks the session's array has mapped
abbrev pub opened_of : Option OpenSession → ℕ
opened_of None = 0
opened_of (Some session) = map.len session.contents

-- at most so many blocks are mapped, by the device and in the session, and the order is that of a device
pub record IsWithin (state : State) (most : ℕ) : Type 0 where
  pub order : IfSome state.device (λ d. 4 ≤ d.order)
  pub mapped : mapped_of state.device ≤ most
  pub opened : opened_of state.session ≤ most

-- the device that an image stands for
pub within_closed : (image : Image) (there : Option Device) → StandsFor image there → IsWithin (record { device = there; session = None }) (mapped_of there)
within_closed image None stands = record { order = tt; mapped = omega arith; opened = omega arith }
within_closed image (Some d) (root, parts, s) = record { order = omega (arith, s.in_range.order_least, s.order); mapped = omega arith; opened = omega arith }

pub within_more : (state : State) (most more : ℕ) → most ≤ more → IsWithin state most → IsWithin state more
within_more state most more less w = record { order = w.order; mapped = omega (arith, w.mapped, less); opened = omega (arith, w.opened, less) }

pub needs_within : (state : State) (most : ℕ) → IsWithin state most → upgrade_of state ≤ most_upgrade most
needs_within state most w = cases state.device w.order w.mapped
  where
    cases : (there : Option Device) → IfSome there (λ d. 4 ≤ d.order) → mapped_of there ≤ most → upgrade_of (record { device = there; session = state.session }) ≤ most_upgrade most
    cases None least mapped = omega arith
    cases (Some d) least mapped = over_most d.order (map.len d.contents) most least mapped

-- an accepted upgrade needs some
pub some_needed : (state : State) → needs_room state Upgrade ≡ true → 1 ≤ upgrade_of state
some_needed state h = cases state.device state.session h
  where
    cases : (there : Option Device) (opened : Option OpenSession) → needs_room (record { device = there; session = opened }) Upgrade ≡ true → 1 ≤ upgrade_of (record { device = there; session = opened })
    cases None None h = absurd cc
    cases None (Some t) h = absurd cc
    cases (Some d) opened h = some_over d.order (map.len d.contents)

-- ---- one step maps one more block at most

put_most : (blocks : Blocks) (block : ℕ) (content : List ℕ) → map.len (map.insert blocks block content) ≤ map.len blocks + 1
put_most blocks block content = elim (cases_Bool (map.contains_key blocks block)) [
  | inl is ↦ (let e = map.len-insert nat_cmp_total blocks block content in let f = rw is at e in omega (arith, f))
  | inr not ↦ (let e = map.len-insert nat_cmp_total blocks block content in let f = rw not at e in omega (arith, f))
]

taken_most : (blocks : Blocks) (block : ℕ) → map.len (map.remove blocks block) ≤ map.len blocks
taken_most blocks block = elim (cases_Bool (map.contains_key blocks block)) [
  | inl is ↦ (let e = map.len-remove nat_cmp_total blocks block in let f = rw is at e in omega (arith, f))
  | inr not ↦ (let e = map.len-remove nat_cmp_total blocks block in let f = rw not at e in omega (arith, f))
]

abbrev parts : Option Device → Option OpenSession → State
parts there opened = record { device = there; session = opened }

-- one of two
picked : (test : Bool) (x y : Reply × State) (most : ℕ) → (test ≡ true → IsWithin x.1 most) → IsWithin y.1 most → IsWithin (if test then x else y).1 most
picked true x y most p q = p refl
picked false x y most p q = q

least_order : (blocks order : ℕ) → in_limits blocks order ≡ true → 4 ≤ order
least_order blocks order within = grind (arith, common_steps)

one_more : (state : State) (most : ℕ) → IsWithin state most → IsWithin state (most + 1)
one_more state most w = within_more state most (most + 1) (omega arith) w

-- a device's array as its session's, and the session's as its device's
as_opened : (d : Device) (opened : Option OpenSession) (t : OpenSession) (most : ℕ) → IsWithin (parts (Some d) opened) most → t.contents ≡ d.contents → IsWithin (parts (Some d) (Some t)) (most + 1)
as_opened d opened t most w same = record { order = w.order; mapped = omega (arith, w.mapped); opened = omega (arith, w.mapped, ap (λ (b : Blocks). map.len b) same) }

as_committed : (d now : Device) (t after : OpenSession) (most : ℕ) → IsWithin (parts (Some d) (Some t)) most → now.order ≡ d.order → now.contents ≡ t.contents → after.contents ≡ t.contents
    → IsWithin (parts (Some now) (Some after)) (most + 1)
as_committed d now t after most w order contents same = record {
  order = omega (arith, w.order, order);
  mapped = omega (arith, w.opened, ap (λ (b : Blocks). map.len b) contents);
  opened = omega (arith, w.opened, ap (λ (b : Blocks). map.len b) same);
}

put_in : (d : Device) (t : OpenSession) (block : ℕ) (content : List ℕ) (most : ℕ) → IsWithin (parts (Some d) (Some t)) most
    → IsWithin (parts (Some d) (Some (record { contents = map.insert t.contents block content; touched = true }))) (most + 1)
put_in d t block content most w = record { order = w.order; mapped = omega (arith, w.mapped); opened = omega (arith, w.opened, put_most t.contents block content) }

taken_out : (d : Device) (t : OpenSession) (block : ℕ) (touched : Bool) (most : ℕ) → IsWithin (parts (Some d) (Some t)) most
    → IsWithin (parts (Some d) (Some (record { contents = map.remove t.contents block; touched = touched }))) (most + 1)
taken_out d t block touched most w = record { order = w.order; mapped = omega (arith, w.mapped); opened = omega (arith, w.opened, taken_most t.contents block) }

step_within : (counted : Counted) (there : Option Device) (opened : Option OpenSession) (command : Command) (most : ℕ) → IsWithin (parts there opened) most → IsWithin (step counted (parts there opened) command).1 (most + 1)
step_within counted None opened (Format blocks order) most w =
    picked (in_limits blocks order) _ _ (most + 1)
    (λ within. record { order = least_order blocks order within; mapped = omega (arith, map.len-empty nat_cmp (List ℕ)); opened = omega (arith, w.opened) }) (one_more (parts None opened) most w)
step_within counted (Some d) opened (Format blocks order) most w = one_more (parts (Some d) opened) most w
step_within counted None None Mount most w = one_more (parts None None) most w
step_within counted (Some d) None Mount most w = as_opened d None _ most w refl
step_within counted there (Some t) Mount most w = one_more (parts there (Some t)) most w
step_within counted None opened (Read block) most w = one_more (parts None opened) most w
step_within counted (Some d) None (Read block) most w = one_more (parts (Some d) None) most w
step_within counted (Some d) (Some t) (Read block) most w =
    picked (nat_lt block d.blocks) _ _ (most + 1) (λ is. one_more (parts (Some d) (Some t)) most w) (one_more (parts (Some d) (Some t)) most w)
step_within counted None opened (Write block content) most w = one_more (parts None opened) most w
step_within counted (Some d) None (Write block content) most w = one_more (parts (Some d) None) most w
step_within counted (Some d) (Some t) (Write block content) most w =
    picked (nat_lt block d.blocks) _ _ (most + 1) (λ is. put_in d t block (padded content) most w) (one_more (parts (Some d) (Some t)) most w)
step_within counted None opened (Trim block) most w = one_more (parts None opened) most w
step_within counted (Some d) None (Trim block) most w = one_more (parts (Some d) None) most w
step_within counted (Some d) (Some t) (Trim block) most w =
    picked (nat_lt block d.blocks) _ _ (most + 1) (λ is. taken_out d t block _ most w) (one_more (parts (Some d) (Some t)) most w)
step_within counted None opened Commit most w = one_more (parts None opened) most w
step_within counted (Some d) None Commit most w = one_more (parts (Some d) None) most w
step_within counted (Some d) (Some t) Commit most w =
    picked t.touched _ _ (most + 1) (λ is. as_committed d _ t _ most w refl refl refl) (one_more (parts (Some d) (Some t)) most w)
step_within counted None opened Drop most w = one_more (parts None opened) most w
step_within counted (Some d) None Drop most w = one_more (parts (Some d) None) most w
step_within counted (Some d) (Some t) Drop most w = record { order = w.order; mapped = omega (arith, w.mapped); opened = omega arith }
step_within counted None opened Erase most w = one_more (parts None opened) most w
step_within counted (Some d) opened Erase most w = record { order = tt; mapped = omega arith; opened = omega arith }
step_within counted None None Upgrade most w = one_more (parts None None) most w
step_within counted (Some d) None Upgrade most w =
    picked (d.version == 2) _ _ (most + 1) (λ is. one_more (parts (Some d) None) most w)
    (record { order = order_least d.order w.order; mapped = omega (arith, w.mapped); opened = omega arith })
step_within counted there (Some t) Upgrade most w = one_more (parts there (Some t)) most w
step_within counted None opened commands.Stat most w = one_more (parts None opened) most w
step_within counted (Some d) None commands.Stat most w = one_more (parts (Some d) None) most w
step_within counted (Some d) (Some t) commands.Stat most w = one_more (parts (Some d) (Some t)) most w
step_within counted there opened Seize most w = one_more (parts there opened) most w

answer_within : (full : Bool) (counted : Counted) (old : State) (command : Command) (reply : Reply) (new : State) (most : ℕ) → IsWithin old most → (reply, new) ≡ answer full counted old command → IsWithin new (most + 1)
answer_within full counted old command reply new most w is =
    subst (λ (state : State). IsWithin state (most + 1)) (sym (ap (λ (p : Reply × State). p.1) is))
    (picked (needs_room old command && full) _ _ (most + 1) (λ none. one_more old most w) (step_within counted old.device old.session command most w))

pub turn_within : (capacity : ℕ) (old : Standing) (line : List ℕ) (reply : Reply) (new : Standing) (most : ℕ) → IsWithin old.state most → TurnOn capacity old line reply new → IsWithin new.state (most + 1)
turn_within capacity old line reply new most w (inl (command, spells, needed, needs, (counted, is), added, updated)) = answer_within _ counted old.state command reply new.state most w is
turn_within capacity old line reply new most w (inr (bad, is, same)) = subst (λ (s : Standing). IsWithin s.state (most + 1)) (sym same) (one_more old.state most w)
