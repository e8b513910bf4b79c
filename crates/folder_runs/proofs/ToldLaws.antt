-- What a run says of its replies and of want of memory, where it is told.
use Rattle.std.proofs.Common.{◌≡◌, ◌⊎◌, ℕ, List, [], ◌∷◌, Option, None, Some, inl, inr}
use Rattle.platform.specs.Image.{Image}
use Rattle.platform.specs.History.{History, image_at}
use Rattle.device_session.specs.Open.{blocks_of, is_touched}
use Rattle.device_session.specs.Sessions.{Session}
use Rattle.sdbt_base.specs.Arrays.{padded}
use Rattle.device_session.specs.Damage.{HasPut, HasTaken}
use Rattle.std.specs.Prelude.{◌<◌, ◌≤◌, true, false}
use Rattle.script_lang.specs.Grammar.{IsBad}
use Rattle.script_lang.specs.Commands.{Command}
use Rattle.script_lang.specs.Commands as commands
use Rattle.script_lang.specs.Replies.{Reply}
use Rattle.script_lang.specs.Replies as given
use Rattle.device_cli.specs.Causes.{AreSo, HasDone, HasContent, IsLookedUp, LacksMemory, LineSo, MayReply, OnHeld, OnMounted}

-- ---- replies

pub told_held : (tells : Type 0) (held : Option Session) (P : Session → Type 0) → tells → OnHeld held (λ session. tells → P session) → OnHeld held (λ session. Unit {0} → P session)
told_held tells None P told h = absurd h
told_held tells (Some session) P told h = λ _. h told

told_content : (tells : Type 0) (image : Image) (held : Option Session) (command : Command) (bytes : List ℕ) → tells → HasContent tells image held command bytes → HasContent (Unit {0}) image held command bytes
told_content tells image held (commands.Read block) bytes told h = told_held tells held (λ (s : Session). IsLookedUp image block bytes s) told h
told_content tells image held (commands.Format blocks order) bytes told h = absurd h
told_content tells image held commands.Mount bytes told h = absurd h
told_content tells image held (commands.Write block content) bytes told h = absurd h
told_content tells image held (commands.Trim block) bytes told h = absurd h
told_content tells image held commands.Commit bytes told h = absurd h
told_content tells image held commands.Drop bytes told h = absurd h
told_content tells image held commands.Erase bytes told h = absurd h
told_content tells image held commands.Upgrade bytes told h = absurd h
told_content tells image held commands.Stat bytes told h = absurd h
told_content tells image held commands.Seize bytes told h = absurd h

told_both : (tells : Type 0) (held next : Option Session) (P : Session → Session → Type 0) → tells → OnHeld held (λ session. OnHeld next (λ now. tells → P session now)) → OnHeld held (λ session. OnHeld next (λ now. Unit {0} → P session now))
told_both tells None next P told h = absurd h
told_both tells (Some session) None P told h = absurd h
told_both tells (Some session) (Some now) P told h = λ _. h told

told_done : (tells : Type 0) (image after : Image) (held next : Option Session) (command : Command) → tells → HasDone tells image after held next command → HasDone (Unit {0}) image after held next command
told_done tells image after held next (commands.Write block content) told h = told_both tells held next (λ (s n : Session). HasPut image.readable after.readable s n block (padded content)) told h
told_done tells image after held next (commands.Trim block) told h = told_both tells held next (λ (s n : Session). HasTaken image.readable after.readable s n block) told h
told_done tells image after held next (commands.Format blocks order) told h = absurd h
told_done tells image after held next commands.Mount told h = absurd h
told_done tells image after held next (commands.Read block) told h = absurd h
told_done tells image after held next commands.Commit told h = absurd h
told_done tells image after held next commands.Drop told h = absurd h
told_done tells image after held next commands.Erase told h = absurd h
told_done tells image after held next commands.Upgrade told h = absurd h
told_done tells image after held next commands.Stat told h = absurd h
told_done tells image after held next commands.Seize told h = absurd h

told_reply : (tells : Type 0) (image after : Image) (held next : Option Session) (command : Command) (reply : Reply) → tells → MayReply tells image after held next command reply → MayReply (Unit {0}) image after held next command reply
told_reply tells image after held next command (given.Content bytes) told h = told_content tells image held command bytes told h
told_reply tells image after held next command given.Done told h = told_done tells image after held next command told h
told_reply tells image after held next command given.Range told h = h
told_reply tells image after held next command given.Unmounted told h = h
told_reply tells image after held next command given.Formatted told h = (h.0, λ _. h.1 told)
told_reply tells image after held next command (given.Mounted number) told h = (h.0, λ _. h.1 told)
told_reply tells image after held next command (given.Committed number) told h = (h.0, λ _. h.1 told)
told_reply tells image after held next command given.Dropped told h = (h.0, λ _. h.1 told)
told_reply tells image after held next command given.Erased told h = (h.0, λ _. h.1 told)
told_reply tells image after held next command (given.Upgraded number) told h = (h.0, λ _. h.1 told)
told_reply tells image after held next command (given.Stat mapped number) told h = (h.0, λ _. h.1 told)
told_reply tells image after held next command (given.Seized pages nodes blocks) told h = (h.0, λ _. h.1 told)
told_reply tells image after held next command given.Bad told h = (h.0, λ _. h.1 told)
told_reply tells image after held next command given.AlreadyMounted told h = (h.0, λ _. h.1 told)
told_reply tells image after held next command given.NotEmpty told h = (h.0, λ _. h.1 told)
told_reply tells image after held next command given.NoDevice told h = (h.0, λ _. h.1 told)
told_reply tells image after held next command given.AlreadyUpgraded told h = (h.0, λ _. h.1 told)
told_reply tells image after held next command given.Full told h = (h.0, λ _. h.1 told)

told_line : (tells : Type 0) (history : History) (from : ℕ) (held next : Option Session) (behind : ℕ) (line : List ℕ) (reply : Reply) → tells → LineSo tells history from held next behind line reply → LineSo (Unit {0}) history from held next behind line reply
told_line tells history from held next behind line reply told (inl bad) = inl bad
told_line tells history from held next behind line reply told (inr (command, spells, so)) = inr (
  command,
  spells,
  record {
    at = so.at;
    later = so.later;
    still = so.still;
    after = so.after;
    within = so.within;
    in_range = so.in_range;
    mounted = so.mounted;
    mounted_then = so.mounted_then;
    may = told_reply tells (image_at history so.at) (image_at history behind) held next command reply told so.may;
    leaves = so.leaves;
  },
)

pub told_so : (tells : Type 0) (history : History) (from : ℕ) (held : Option Session) (lines : List (List ℕ)) (replies : List Reply) (end : ℕ) (last : Option Session) → tells → AreSo tells history from held lines replies end last → AreSo (Unit {0}) history from held lines replies end last
told_so tells history from held lines [] end last told h = h
told_so tells history from held [] (reply ∷ replies) end last told h = absurd h
told_so tells history from held (line ∷ lines) (reply ∷ replies) end last told (behind, next, first, rest) =
    (behind, next, told_line tells history from held next behind line reply told first, told_so tells history behind next lines replies end last told rest)

-- ---- want of memory

told_mounted : (tells : Type 0) (image : Image) (held : Option Session) (P : Session → Type 0) → tells → OnMounted tells image held P → OnMounted (Unit {0}) image held P
told_mounted tells image None P told h = absurd h
told_mounted tells image (Some session) P told h = (λ _. h.0 told, h.1)

pub told_lacks : (tells : Type 0) (held : Option Session) (image : Image) (head capacity : ℕ) (command : Command) → tells → LacksMemory tells held image head capacity command → LacksMemory (Unit {0}) held image head capacity command
told_lacks tells held image head capacity (commands.Format blocks order) told h = (h.0, h.1, λ _. h.2 told)
told_lacks tells held image head capacity commands.Mount told h = (h.0, λ _. h.1 told)
told_lacks tells held image head capacity (commands.Write block content) told h = (h.0, told_mounted tells image held (λ (s : Session). block < blocks_of s) told h.1)
told_lacks tells held image head capacity (commands.Trim block) told h = told_mounted tells image held (λ (s : Session). block < blocks_of s) told h
told_lacks tells held image head capacity commands.Commit told h = (h.0, told_mounted tells image held (λ (s : Session). is_touched s ≡ true) told h.1)
told_lacks tells held image head capacity commands.Upgrade told h =
    (h.0, h.1, record { on = record { within = h.2.on.within; cell = λ _. h.2.on.cell told }; version = h.2.version; room = h.2.room })
told_lacks tells held image head capacity commands.Seize told h = λ _. h told
told_lacks tells held image head capacity (commands.Read block) told h = absurd h
told_lacks tells held image head capacity commands.Drop told h = absurd h
told_lacks tells held image head capacity commands.Erase told h = absurd h
told_lacks tells held image head capacity commands.Stat told h = absurd h
