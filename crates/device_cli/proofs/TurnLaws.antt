-- From how many pages a session's commit needs to how many a line adds, and how many pages some lines add at most.
use Rattle.std.proofs.Common.{◌≡◌, ℕ, ◌+◌, ◌-◌, ◌*◌, ◌≤◌, Bool, true, false, List, [], ◌∷◌, Option, None, Some, length, inl, inr, refl, sym, subst, ap, arith}
use Rattle.std.specs.Prelude.{◌⊎◌, ◌==◌, not, nat_lt, codes, if◌then◌else◌}
use Rattle.sdbt_base.specs.Arrays.{Device, Session as OpenSession, State}
use Rattle.script_lang.specs.Arrays.{Counted, in_limits, needs_room}
use Rattle.script_lang.specs.Answers.{IsAnswer, answer}
use Rattle.script_lang.specs.Commands.{Command}
use Rattle.script_lang.specs.Commands.{Format, Mount, Read, Write, Trim, Commit, Drop, Erase, Upgrade, Seize}
use Rattle.script_lang.specs.Commands as commands
use Rattle.script_lang.specs.Replies.{Reply}
use Rattle.script_lang.specs.Replies.{Formatted, Mounted, Done, Committed, Upgraded, Full, Range, Unmounted, AlreadyMounted, AlreadyUpgraded, NoDevice, NotEmpty}
use Rattle.script_lang.specs.Grammar.{Spells}
use Rattle.device_cli.specs.Pages.{needed_for, Needs, pages_after, updates_after, upgrade_of, upgraded_by, upgrades, most_upgrade, is_same, Standing, TurnOn, AnswersOn, accepted_by, accepted}
use Rattle.device_cli.specs.Parts.{added_by}
use Rattle.device_cli.proofs.PageLaws.{pages_cases}
use Rattle.device_cli.proofs.UpgradeLaws.{IsWithin, needs_within, some_needed, turn_within, within_more}

-- a state of these parts
abbrev pub parts : Option Device → Option OpenSession → State
parts there opened = record { device = there; session = opened }

-- a command that needs room is answered so, where it is taken
abbrev IsTaken : Command → Reply → Type 0
IsTaken (Format blocks order) reply = reply ≡ Formatted
IsTaken (Write block content) reply = reply ≡ Done
IsTaken Commit reply = (number : ℕ) × (reply ≡ Committed number)
IsTaken Upgrade reply = (number : ℕ) × (reply ≡ Upgraded number)
IsTaken _ reply = ⊥

-- too few pages are free, or it is taken
abbrev AreRoomReplies : Command → Reply → Type 0
AreRoomReplies command reply = (reply ≡ Full) ⊎ IsTaken command reply

room_format : (opened : Option OpenSession) (blocks order : ℕ) (full : Bool) (counted : Counted) (reply : Reply)
    → in_limits blocks order ≡ true → reply ≡ (answer full counted (parts None opened) (Format blocks order)).0 → AreRoomReplies (Format blocks order) reply
room_format opened blocks order true counted reply h e = let f : reply ≡ Full = rw h at e in inl f
room_format opened blocks order false counted reply h e = let f : reply ≡ Formatted = rw h at e in inr f

room_write : (d : Device) (t : OpenSession) (block : ℕ) (content : List ℕ) (full : Bool) (counted : Counted) (reply : Reply)
    → nat_lt block d.blocks ≡ true → reply ≡ (answer full counted (parts (Some d) (Some t)) (Write block content)).0 → AreRoomReplies (Write block content) reply
room_write d t block content true counted reply h e = let f : reply ≡ Full = rw h at e in inl f
room_write d t block content false counted reply h e = let f : reply ≡ Done = rw h at e in inr f

room_commit : (d : Device) (t : OpenSession) (full : Bool) (counted : Counted) (reply : Reply)
    → t.touched ≡ true → reply ≡ (answer full counted (parts (Some d) (Some t)) Commit).0 → AreRoomReplies Commit reply
room_commit d t true counted reply h e = let f : reply ≡ Full = rw h at e in inl f
room_commit d t false counted reply h e = let f : reply ≡ Committed (d.number + 1) = rw h at e in inr (d.number + 1, f)

room_upgrade : (d : Device) (full : Bool) (counted : Counted) (reply : Reply)
    → (d.version == 2) ≡ false → reply ≡ (answer full counted (parts (Some d) None) Upgrade).0 → AreRoomReplies Upgrade reply
room_upgrade d true counted reply h e = let f : reply ≡ Full = rw h at e in inl f
room_upgrade d false counted reply h e = let f : reply ≡ Upgraded (d.number + 1) = rw h at e in inr (d.number + 1, f)

-- a device that can be upgraded isn't of version 2
not_two : (test : Bool) → not test ≡ true → test ≡ false
not_two true h = cc
not_two false h = refl

is_two : (test : Bool) → not test ≡ false → test ≡ true
is_two true h = refl
is_two false h = cc

-- the reply of an answer
reply_of : (reply : Reply) (now : State) (answered : Reply × State) → (reply, now) ≡ answered → reply ≡ answered.0
reply_of reply now answered is = ap (λ (p : Reply × State). p.0) is

-- the replies to a command that needs room
room_replies : (there : Option Device) (opened : Option OpenSession) (command : Command) (full : Bool) (counted : Counted) (reply : Reply) (now : State)
    → needs_room (parts there opened) command ≡ true → (reply, now) ≡ answer full counted (parts there opened) command → AreRoomReplies command reply
room_replies None opened (Format blocks order) full counted reply now h is = room_format opened blocks order full counted reply h (reply_of reply now _ is)
room_replies (Some d) opened (Format blocks order) full counted reply now h is = absurd cc
room_replies None opened (Write block content) full counted reply now h is = absurd cc
room_replies (Some d) None (Write block content) full counted reply now h is = absurd cc
room_replies (Some d) (Some t) (Write block content) full counted reply now h is = room_write d t block content full counted reply h (reply_of reply now _ is)
room_replies None opened Commit full counted reply now h is = absurd cc
room_replies (Some d) None Commit full counted reply now h is = absurd cc
room_replies (Some d) (Some t) Commit full counted reply now h is = room_commit d t full counted reply h (reply_of reply now _ is)
room_replies None None Upgrade full counted reply now h is = absurd cc
room_replies (Some d) None Upgrade full counted reply now h is = room_upgrade d full counted reply (not_two (d.version == 2) h) (reply_of reply now _ is)
room_replies there (Some t) Upgrade full counted reply now h is = absurd cc
room_replies there opened Mount full counted reply now h is = absurd cc
room_replies there opened (Read block) full counted reply now h is = absurd cc
room_replies there opened (Trim block) full counted reply now h is = absurd cc
room_replies there opened Drop full counted reply now h is = absurd cc
room_replies there opened Erase full counted reply now h is = absurd cc
room_replies there opened commands.Stat full counted reply now h is = absurd cc
room_replies there opened Seize full counted reply now h is = absurd cc

-- a format and a write that need no room are refused alike on a full medium, and add nothing
idle_format : (there : Option Device) (opened : Option OpenSession) (blocks order : ℕ) (full other : Bool) (counted : Counted) (reply : Reply) (now : State) (changes upgrade : ℕ)
    → needs_room (parts there opened) (Format blocks order) ≡ false → (reply, now) ≡ answer full counted (parts there opened) (Format blocks order)
    → ((reply, now) ≡ answer other counted (parts there opened) (Format blocks order)) × (added_by (Format blocks order) reply changes upgrade ≡ 0)
idle_format None opened blocks order full other counted reply now changes upgrade h is =
    let f : (reply, now) ≡ (Range, parts None opened) = rw h at is in
    let e : reply ≡ Range = ap (λ (p : Reply × State). p.0) f in
    (rw h f, subst (λ (r : Reply). added_by (Format blocks order) r changes upgrade ≡ 0) (sym e) refl)
idle_format (Some d) opened blocks order full other counted reply now changes upgrade h is =
    let f : (reply, now) ≡ (NotEmpty, parts (Some d) opened) = is in
    let e : reply ≡ NotEmpty = ap (λ (p : Reply × State). p.0) f in
    (is, subst (λ (r : Reply). added_by (Format blocks order) r changes upgrade ≡ 0) (sym e) refl)

idle_write : (there : Option Device) (opened : Option OpenSession) (block : ℕ) (content : List ℕ) (full other : Bool) (counted : Counted) (reply : Reply) (now : State) (changes upgrade : ℕ)
    → needs_room (parts there opened) (Write block content) ≡ false → (reply, now) ≡ answer full counted (parts there opened) (Write block content)
    → ((reply, now) ≡ answer other counted (parts there opened) (Write block content)) × (added_by (Write block content) reply changes upgrade ≡ 0)
idle_write None opened block content full other counted reply now changes upgrade h is =
    let f : (reply, now) ≡ (Unmounted, parts None opened) = is in
    let e : reply ≡ Unmounted = ap (λ (p : Reply × State). p.0) f in
    (is, subst (λ (r : Reply). added_by (Write block content) r changes upgrade ≡ 0) (sym e) refl)
idle_write (Some d) None block content full other counted reply now changes upgrade h is =
    let f : (reply, now) ≡ (Unmounted, parts (Some d) None) = is in
    let e : reply ≡ Unmounted = ap (λ (p : Reply × State). p.0) f in
    (is, subst (λ (r : Reply). added_by (Write block content) r changes upgrade ≡ 0) (sym e) refl)
idle_write (Some d) (Some t) block content full other counted reply now changes upgrade h is =
    let f : (reply, now) ≡ (Range, parts (Some d) (Some t)) = rw h at is in
    let e : reply ≡ Range = ap (λ (p : Reply × State). p.0) f in
    (rw h f, subst (λ (r : Reply). added_by (Write block content) r changes upgrade ≡ 0) (sym e) refl)

idle_upgrade : (there : Option Device) (opened : Option OpenSession) (full other : Bool) (counted : Counted) (reply : Reply) (now : State) (changes upgrade : ℕ)
    → needs_room (parts there opened) Upgrade ≡ false → (reply, now) ≡ answer full counted (parts there opened) Upgrade
    → ((reply, now) ≡ answer other counted (parts there opened) Upgrade) × (added_by Upgrade reply changes upgrade ≡ 0)
idle_upgrade None None full other counted reply now changes upgrade h is =
    let f : (reply, now) ≡ (NoDevice, parts None None) = is in
    let e : reply ≡ NoDevice = ap (λ (p : Reply × State). p.0) f in
    (is, subst (λ (r : Reply). added_by Upgrade r changes upgrade ≡ 0) (sym e) refl)
idle_upgrade (Some d) None full other counted reply now changes upgrade h is =
    let two : (d.version == 2) ≡ true = is_two (d.version == 2) h in
    let f : (reply, now) ≡ (AlreadyUpgraded, parts (Some d) None) = rw two at is in
    let e : reply ≡ AlreadyUpgraded = ap (λ (p : Reply × State). p.0) f in
    (rw two f, subst (λ (r : Reply). added_by Upgrade r changes upgrade ≡ 0) (sym e) refl)
idle_upgrade there (Some t) full other counted reply now changes upgrade h is =
    let f : (reply, now) ≡ (AlreadyMounted, parts there (Some t)) = is in
    let e : reply ≡ AlreadyMounted = ap (λ (p : Reply × State). p.0) f in
    (is, subst (λ (r : Reply). added_by Upgrade r changes upgrade ≡ 0) (sym e) refl)

-- a commit adds no more than it needs
added_commit : (reply : Reply) (changes upgrade : ℕ) → added_by Commit reply changes upgrade ≤ changes
added_commit (Committed number) changes upgrade = omega arith
added_commit _ changes upgrade = omega arith

-- what a command that needs so many pages makes of the pages
abbrev pub Turning : ℕ → State → Command → ℕ → ℕ → Reply → State → ℕ → Type 0
Turning free state command updates pages reply now pages_now =
    (needed : ℕ) × Needs state command updates needed × IsAnswer (nat_lt free needed) state command reply now × (pages_now ≡ pages_after reply needed pages)

turning_none : (there : Option Device) (opened : Option OpenSession) (command : Command) (free updates pages pages_now : ℕ) (reply : Reply) (now : State) → needs_room (parts there opened) command ≡ false
    → IsAnswer (nat_lt free 0) (parts there opened) command reply now → pages_now ≡ pages → Turning free (parts there opened) command updates pages reply now pages_now
turning_none there opened command free updates pages pages_now reply now none is same = (
  0,
  record { within = omega arith; some = λ e. absurd cc; none = λ e. refl; exact = λ e held. absurd cc },
  is,
  elim (pages_cases reply 0 pages) [ inl stays ↦ omega (arith, stays, same) | inr more ↦ omega (arith, more, same) ],
)

turning_format : (there : Option Device) (opened : Option OpenSession) (blocks order free changes upgrade updates pages pages_now : ℕ) (reply : Reply) (now : State) (room : Bool)
    → needs_room (parts there opened) (Format blocks order) ≡ room → IsAnswer (nat_lt free 1) (parts there opened) (Format blocks order) reply now
    → pages_now ≡ pages + added_by (Format blocks order) reply changes upgrade → Turning free (parts there opened) (Format blocks order) updates pages reply now pages_now
turning_format there opened blocks order free changes upgrade updates pages pages_now reply now false h (counted, is) added =
    let idle = idle_format there opened blocks order (nat_lt free 1) (nat_lt free 0) counted reply now changes upgrade h is in
    turning_none there opened (Format blocks order) free updates pages pages_now reply now h (counted, idle.0) (omega (arith, added, idle.1))
turning_format there opened blocks order free changes upgrade updates pages pages_now reply now true h (counted, is) added = (
  1,
  record { within = omega arith; some = λ e. omega arith; none = λ e. absurd cc; exact = λ e. absurd cc },
  (counted, is),
  elim (room_replies there opened (Format blocks order) (nat_lt free 1) counted reply now h is) [
    | inl e ↦ rw e (let f = rw e at added in omega (arith, f))
    | inr e ↦ rw e (let f = rw e at added in omega (arith, f))
  ],
)

turning_write : (there : Option Device) (opened : Option OpenSession) (block : ℕ) (content : List ℕ) (free changes upgrade updates pages pages_now : ℕ) (reply : Reply) (now : State) (room : Bool)
    → needs_room (parts there opened) (Write block content) ≡ room → IsAnswer (nat_lt free 1) (parts there opened) (Write block content) reply now
    → pages_now ≡ pages + added_by (Write block content) reply changes upgrade → Turning free (parts there opened) (Write block content) updates pages reply now pages_now
turning_write there opened block content free changes upgrade updates pages pages_now reply now false h (counted, is) added =
    let idle = idle_write there opened block content (nat_lt free 1) (nat_lt free 0) counted reply now changes upgrade h is in
    turning_none there opened (Write block content) free updates pages pages_now reply now h (counted, idle.0) (omega (arith, added, idle.1))
turning_write there opened block content free changes upgrade updates pages pages_now reply now true h (counted, is) added = (
  1,
  record { within = omega arith; some = λ e. omega arith; none = λ e. absurd cc; exact = λ e. absurd cc },
  (counted, is),
  elim (room_replies there opened (Write block content) (nat_lt free 1) counted reply now h is) [
    | inl e ↦ rw e (let f = rw e at added in omega (arith, f))
    | inr e ↦ rw e (let f = rw e at added in omega (arith, f))
  ],
)

turning_commit : (there : Option Device) (opened : Option OpenSession) (free changes upgrade updates pages pages_now : ℕ) (reply : Reply) (now : State) (room : Bool) → changes ≤ 41 * updates
    → (needs_room (parts there opened) Commit ≡ true → 1 ≤ changes) → (needs_room (parts there opened) Commit ≡ false → changes ≡ 0)
    → needs_room (parts there opened) Commit ≡ room → IsAnswer (nat_lt free changes) (parts there opened) Commit reply now
    → pages_now ≡ pages + added_by Commit reply changes upgrade → Turning free (parts there opened) Commit updates pages reply now pages_now
turning_commit there opened free changes upgrade updates pages pages_now reply now false enough some none h (counted, is) added = (
  changes,
  record { within = enough; some = some; none = none; exact = λ e. absurd cc },
  (counted, is),
  elim (pages_cases reply changes pages) [
    | inl stays ↦ omega (arith, stays, added, none h, added_commit reply changes upgrade)
    | inr more ↦ omega (arith, more, added, none h, added_commit reply changes upgrade)
  ],
)
turning_commit there opened free changes upgrade updates pages pages_now reply now true enough some none h (counted, is) added = (
  changes,
  record { within = enough; some = some; none = none; exact = λ e. absurd cc },
  (counted, is),
  elim (room_replies there opened Commit (nat_lt free changes) counted reply now h is) [
    | inl e ↦ rw e (let f = rw e at added in omega (arith, f))
    | inr (number, e) ↦ rw e (let f = rw e at added in omega (arith, f))
  ],
)

turning_upgrade : (there : Option Device) (opened : Option OpenSession) (free changes updates pages pages_now : ℕ) (reply : Reply) (now : State) (room : Bool)
    → needs_room (parts there opened) Upgrade ≡ room → IsAnswer (nat_lt free (upgrade_of (parts there opened))) (parts there opened) Upgrade reply now
    → pages_now ≡ pages + added_by Upgrade reply changes (upgrade_of (parts there opened)) → Turning free (parts there opened) Upgrade updates pages reply now pages_now
turning_upgrade there opened free changes updates pages pages_now reply now false h (counted, is) added =
    let upgrade : ℕ = upgrade_of (parts there opened) in
    let idle = idle_upgrade there opened (nat_lt free upgrade) (nat_lt free 0) counted reply now changes upgrade h is in
    turning_none there opened Upgrade free updates pages pages_now reply now h (counted, idle.0) (omega (arith, added, idle.1))
turning_upgrade there opened free changes updates pages pages_now reply now true h (counted, is) added = (
  upgrade_of (parts there opened),
  record { within = omega arith; some = λ e. some_needed (parts there opened) h; none = λ e. absurd cc; exact = λ e held. refl },
  (counted, is),
  elim (room_replies there opened Upgrade (nat_lt free (upgrade_of (parts there opened))) counted reply now h is) [
    | inl e ↦ rw e (let f = rw e at added in omega (arith, f))
    | inr (number, e) ↦ rw e (let f = rw e at added in omega (arith, f))
  ],
)

-- a command was served over a session whose commit needs so many pages
pub turning : (there : Option Device) (opened : Option OpenSession) (command : Command) (free changes updates pages pages_now : ℕ) (reply : Reply) (now : State) → changes ≤ 41 * updates
    → (needs_room (parts there opened) Commit ≡ true → 1 ≤ changes) → (needs_room (parts there opened) Commit ≡ false → changes ≡ 0)
    → IsAnswer (nat_lt free (needed_for command changes (upgrade_of (parts there opened)))) (parts there opened) command reply now
    → pages_now ≡ pages + added_by command reply changes (upgrade_of (parts there opened)) → Turning free (parts there opened) command updates pages reply now pages_now
turning there opened (Format blocks order) free changes updates pages pages_now reply now enough some none is added =
    turning_format there opened blocks order free changes (upgrade_of (parts there opened)) updates pages pages_now reply now _ refl is added
turning there opened (Write block content) free changes updates pages pages_now reply now enough some none is added =
    turning_write there opened block content free changes (upgrade_of (parts there opened)) updates pages pages_now reply now _ refl is added
turning there opened Commit free changes updates pages pages_now reply now enough some none is added =
    turning_commit there opened free changes (upgrade_of (parts there opened)) updates pages pages_now reply now _ enough some none refl is added
turning there opened Upgrade free changes updates pages pages_now reply now enough some none is added =
    turning_upgrade there opened free changes updates pages pages_now reply now _ refl is added
turning there opened Mount free changes updates pages pages_now reply now enough some none is added = turning_none there opened Mount free updates pages pages_now reply now refl is (omega (arith, added))
turning there opened (Read block) free changes updates pages pages_now reply now enough some none is added = turning_none there opened (Read block) free updates pages pages_now reply now refl is (omega (arith, added))
turning there opened (Trim block) free changes updates pages pages_now reply now enough some none is added = turning_none there opened (Trim block) free updates pages pages_now reply now refl is (omega (arith, added))
turning there opened Drop free changes updates pages pages_now reply now enough some none is added = turning_none there opened Drop free updates pages pages_now reply now refl is (omega (arith, added))
turning there opened Erase free changes updates pages pages_now reply now enough some none is added = turning_none there opened Erase free updates pages pages_now reply now refl is (omega (arith, added))
turning there opened commands.Stat free changes updates pages pages_now reply now enough some none is added = turning_none there opened commands.Stat free updates pages pages_now reply now refl is (omega (arith, added))
turning there opened Seize free changes updates pages pages_now reply now enough some none is added = turning_none there opened Seize free updates pages pages_now reply now refl is (omega (arith, added))

-- ---- how many pages lines add at most

-- one where the line spells `upgrade`, and else none
abbrev pub spelled : List ℕ → ℕ
spelled line = if is_same line (codes "upgrade") then 1 else 0

spelled_one : (line : List ℕ) → line ≡ codes "upgrade" → spelled line ≡ 1
spelled_one line is = subst (λ (l : List ℕ). spelled l ≡ 1) (sym is) refl

-- one, or as many as a commit needs, or an upgrade
pub needed_most : (line : List ℕ) (command : Command) (changes upgrade : ℕ) → Spells line command → needed_for command changes upgrade ≤ changes + 1 + spelled line * upgrade
needed_most line (Format blocks order) changes upgrade spells = omega arith
needed_most line (Write block content) changes upgrade spells = omega arith
needed_most line Commit changes upgrade spells = omega arith
needed_most line Upgrade changes upgrade spells = rw (spelled_one line spells) (omega arith)
needed_most line _ changes upgrade spells = omega arith

updates_most : (reply : Reply) (updates : ℕ) → updates_after reply updates ≤ updates + accepted_by reply
updates_most Done updates = omega arith
updates_most (Mounted number) updates = omega arith
updates_most (Committed number) updates = omega arith
updates_most Formatted updates = omega arith
updates_most _ updates = omega arith

-- with 41 pages kept for each update, a reply takes 42 where it accepts a format or an update, at most so many where it accepts an upgrade, and else none
abbrev IsBound : ℕ → ℕ → ℕ → ℕ → Reply → Type 0
IsBound most updates pages needed reply = pages_after reply needed pages + 41 * updates_after reply updates ≤ pages + 41 * updates + 42 * accepted_by reply + upgraded_by reply * most

bound_taken : (command : Command) (most upgrade updates pages needed : ℕ) (reply : Reply) → needed ≤ needed_for command (41 * updates) upgrade → upgrade ≤ most → IsTaken command reply → IsBound most updates pages needed reply
bound_taken (Format blocks order) most upgrade updates pages needed reply within few e = subst (λ (r : Reply). IsBound most updates pages needed r) (sym e) (omega (arith, within))
bound_taken (Write block content) most upgrade updates pages needed reply within few e = subst (λ (r : Reply). IsBound most updates pages needed r) (sym e) (omega (arith, within))
bound_taken Commit most upgrade updates pages needed reply within few (number, e) = subst (λ (r : Reply). IsBound most updates pages needed r) (sym e) (omega (arith, within))
bound_taken Upgrade most upgrade updates pages needed reply within few (number, e) = subst (λ (r : Reply). IsBound most updates pages needed r) (sym e) (omega (arith, within, few))
bound_taken _ most upgrade updates pages needed reply within few e = absurd e

bound_command : (there : Option Device) (opened : Option OpenSession) (command : Command) (most updates pages needed : ℕ) (full : Bool) (counted : Counted) (reply : Reply) (now : State) (room : Bool) → upgrade_of (parts there opened) ≤ most
    → Needs (parts there opened) command updates needed → needs_room (parts there opened) command ≡ room → (reply, now) ≡ answer full counted (parts there opened) command → IsBound most updates pages needed reply
bound_command there opened command most updates pages needed full counted reply now false few needs h is = elim (pages_cases reply needed pages) [
  | inl stays ↦ omega (arith, stays, updates_most reply updates)
  | inr more ↦ omega (arith, more, needs.none h, updates_most reply updates)
]
bound_command there opened command most updates pages needed full counted reply now true few needs h is = elim (room_replies there opened command full counted reply now h is) [
  | inl e ↦ subst (λ (r : Reply). IsBound most updates pages needed r) (sym e) (omega arith)
  | inr e ↦ bound_taken command most (upgrade_of (parts there opened)) updates pages needed reply needs.within few e
]

turn_bound : (capacity : ℕ) (old : Standing) (line : List ℕ) (reply : Reply) (new : Standing) (mapped most : ℕ) → IsWithin old.state mapped → most_upgrade mapped ≤ most → TurnOn capacity old line reply new
    → new.pages + 41 * new.updates ≤ old.pages + 41 * old.updates + 42 * accepted_by reply + upgraded_by reply * most
turn_bound capacity old line reply new mapped most held within (inl (command, spells, needed, needs, (counted, is), added, updated)) =
    let few : upgrade_of old.state ≤ most = omega (arith, needs_within old.state mapped held, within) in
    let bound : IsBound most old.updates old.pages needed reply = bound_command old.state.device old.state.session command most old.updates old.pages needed (nat_lt (capacity - old.pages) needed) counted reply new.state _ few needs refl is in
    omega (arith, added, updated, bound)
turn_bound capacity old line reply new mapped most held within (inr (bad, is, same)) = rw (is, same) (omega arith)

pub answers_bound : (capacity : ℕ) (old : Standing) (lines : List (List ℕ)) (replies : List Reply) (new : Standing) (mapped most : ℕ) → IsWithin old.state mapped → most_upgrade (mapped + length replies) ≤ most
    → AnswersOn capacity old lines replies new → new.pages + 41 * new.updates ≤ old.pages + 41 * old.updates + 42 * accepted replies + upgrades replies * most
answers_bound capacity old lines [] new mapped most held within h = rw h (omega arith)
answers_bound capacity old [] (reply ∷ replies) new mapped most held within h = absurd h
answers_bound capacity old (line ∷ lines) (reply ∷ replies) new mapped most held within (mid, turn, rest) =
    omega (
      arith,
      turn_bound capacity old line reply mid mapped most held (omega (arith, within)) turn,
      answers_bound capacity mid lines replies new (mapped + 1) most (turn_within capacity old line reply mid mapped held turn) (omega (arith, within)) rest,
    )

-- and the state behind them maps one more block for each line at most
pub answers_within : (capacity : ℕ) (old : Standing) (lines : List (List ℕ)) (replies : List Reply) (new : Standing) (mapped : ℕ) → IsWithin old.state mapped
    → AnswersOn capacity old lines replies new → IsWithin new.state (mapped + length replies)
answers_within capacity old lines [] new mapped held h =
    subst (λ (s : Standing). IsWithin s.state (mapped + 0)) (sym h) (within_more old.state mapped (mapped + 0) (omega arith) held)
answers_within capacity old [] (reply ∷ replies) new mapped held h = absurd h
answers_within capacity old (line ∷ lines) (reply ∷ replies) new mapped held (mid, turn, rest) =
    within_more new.state (mapped + 1 + length replies) (mapped + length (reply ∷ replies)) (omega arith)
    (answers_within capacity mid lines replies new (mapped + 1) (turn_within capacity old line reply mid mapped held turn) rest)

-- and a line takes 42 at most, or as many as an upgrade needs, where it spells one
pub accepted_most : (reply : Reply) → accepted_by reply ≤ 1
accepted_most Formatted = omega arith
accepted_most Done = omega arith
accepted_most _ = omega arith

abbrev IsLineBound : List ℕ → ℕ → ℕ → ℕ → ℕ → Reply → Type 0
IsLineBound line most updates pages needed reply = pages_after reply needed pages + 41 * updates_after reply updates ≤ pages + 41 * updates + 42 + spelled line * most

line_taken : (line : List ℕ) (command : Command) (most upgrade updates pages needed : ℕ) (reply : Reply) → Spells line command → needed ≤ needed_for command (41 * updates) upgrade → upgrade ≤ most → IsTaken command reply
    → IsLineBound line most updates pages needed reply
line_taken line (Format blocks order) most upgrade updates pages needed reply spells within few e = subst (λ (r : Reply). IsLineBound line most updates pages needed r) (sym e) (omega (arith, within))
line_taken line (Write block content) most upgrade updates pages needed reply spells within few e = subst (λ (r : Reply). IsLineBound line most updates pages needed r) (sym e) (omega (arith, within))
line_taken line Commit most upgrade updates pages needed reply spells within few (number, e) = subst (λ (r : Reply). IsLineBound line most updates pages needed r) (sym e) (omega (arith, within))
line_taken line Upgrade most upgrade updates pages needed reply spells within few (number, e) =
    subst (λ (r : Reply). IsLineBound line most updates pages needed r) (sym e) (rw (spelled_one line spells) (omega (arith, within, few)))
line_taken line _ most upgrade updates pages needed reply spells within few e = absurd e

line_command : (line : List ℕ) (there : Option Device) (opened : Option OpenSession) (command : Command) (most updates pages needed : ℕ) (full : Bool) (counted : Counted) (reply : Reply) (now : State) (room : Bool) → Spells line command
    → upgrade_of (parts there opened) ≤ most → Needs (parts there opened) command updates needed → needs_room (parts there opened) command ≡ room → (reply, now) ≡ answer full counted (parts there opened) command
    → IsLineBound line most updates pages needed reply
line_command line there opened command most updates pages needed full counted reply now false spells few needs h is = elim (pages_cases reply needed pages) [
  | inl stays ↦ omega (arith, stays, updates_most reply updates, accepted_most reply)
  | inr more ↦ omega (arith, more, needs.none h, updates_most reply updates, accepted_most reply)
]
line_command line there opened command most updates pages needed full counted reply now true spells few needs h is = elim (room_replies there opened command full counted reply now h is) [
  | inl e ↦ subst (λ (r : Reply). IsLineBound line most updates pages needed r) (sym e) (omega arith)
  | inr e ↦ line_taken line command most (upgrade_of (parts there opened)) updates pages needed reply spells needs.within few e
]

pub line_bound : (capacity : ℕ) (old : Standing) (line : List ℕ) (reply : Reply) (new : Standing) (most : ℕ) → upgrade_of old.state ≤ most
    → TurnOn capacity old line reply new → new.pages + 41 * new.updates ≤ old.pages + 41 * old.updates + 42 + spelled line * most
line_bound capacity old line reply new most few (inl (command, spells, needed, needs, (counted, is), added, updated)) =
    let bound : IsLineBound line most old.updates old.pages needed reply = line_command line old.state.device old.state.session command most old.updates old.pages needed (nat_lt (capacity - old.pages) needed) counted reply new.state _ spells few needs refl is in
    omega (arith, added, updated, bound)
line_bound capacity old line reply new most few (inr (bad, is, same)) = rw same (omega arith)
