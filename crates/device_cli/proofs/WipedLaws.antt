-- A line behind which a session is over has wiped the buffers.
use Rattle.std.proofs.Common.{◌≡◌, Option, None, Some, Ok, refl, sym, ◌∙◌}
use Rattle.std.specs.Prelude.{◌≢◌}
use Rattle.platform.specs.Image.{Image}
use Rattle.sdbt_base.specs.Arrays.{padded}
use Rattle.device_session.specs.Damage.{HasPut, HasTaken}
use Rattle.device_session.specs.Sessions.{Session}
use Rattle.script_lang.specs.Commands.{Command}
use Rattle.script_lang.specs.Commands as commands
use Rattle.script_lang.specs.Replies.{said}
use Rattle.script_lang.specs.declared.replies.Reply.{Reply as Given}
use Rattle.script_lang.specs.declared.replies.Reply.TheVariants as given
use Rattle.device_cli.specs.Causes.{AnswersAny, HasDone, OnHeld}
use Rattle.device_cli.specs.Desk.{IsWiped, IsWipedAt}
use Rattle.device_cli.specs.World.{World}
use Rattle.device_cli.specs.declared.desk.Desk.{Desk}

-- a session that is over has nothing
none_held : (next : Option Session) (P : Session → Type 0) → next ≡ None → OnHeld next P → ⊥
none_held None P over h = h
none_held (Some session) P over h = cc

none_behind : (held next : Option Session) (P : Session → Session → Type 0) → next ≡ None → OnHeld held (λ session. OnHeld next (P session)) → ⊥
none_behind None next P over h = h
none_behind (Some session) next P over h = none_held next (P session) over h

-- an update that is done leaves a session
done_goes_on : (tells : Type 0) (image after : Image) (held next : Option Session) (command : Command) → next ≡ None → HasDone tells image after held next command → ⊥
done_goes_on tells image after held next (commands.Write block content) over h = none_behind held next (λ session now. tells → HasPut image.readable after.readable session now block (padded content)) over h
done_goes_on tells image after held next (commands.Trim block) over h = none_behind held next (λ session now. tells → HasTaken image.readable after.readable session now block) over h
done_goes_on tells image after held next (commands.Format blocks order) over h = h
done_goes_on tells image after held next commands.Mount over h = h
done_goes_on tells image after held next (commands.Read block) over h = h
done_goes_on tells image after held next commands.Commit over h = h
done_goes_on tells image after held next commands.Drop over h = h
done_goes_on tells image after held next commands.Erase over h = h
done_goes_on tells image after held next commands.Upgrade over h = h
done_goes_on tells image after held next commands.Stat over h = h
done_goes_on tells image after held next commands.Seize over h = h

-- two replies end a session, behind which the buffers are wiped
pub ended_wiped : (tells : Type 0) (old now : World) (command : Command) (reply : Given) (desk : Desk) → AnswersAny tells old now command (Ok (said reply desk.buffer)) → IsWipedAt reply desk
    → old.session ≢ None → now.session ≡ None → IsWiped desk
ended_wiped tells old now command given.Dropped desk any wiped mounted over = wiped.0 refl
ended_wiped tells old now command given.Erased desk any wiped mounted over = wiped.1 refl
ended_wiped tells old now command given.Done desk any wiped mounted over = absurd (done_goes_on tells old.history.present now.history.present old.session now.session command over any.0)
ended_wiped tells old now command (given.Mounted number) desk any wiped mounted over = absurd (none_held now.session _ over any.1)
ended_wiped tells old now command (given.Committed number) desk any wiped mounted over = absurd (none_held now.session _ over any.1)
ended_wiped tells old now command (given.Content count) desk any wiped mounted over = absurd (none_behind old.session now.session (λ session next. next.grove ≡ session.grove) over any.1)
ended_wiped tells old now command given.Formatted desk any wiped mounted over = absurd (mounted (sym any.1 ∙ over))
ended_wiped tells old now command (given.Upgraded number) desk any wiped mounted over = absurd (mounted (sym any.1 ∙ over))
ended_wiped tells old now command (given.Stat mapped number) desk any wiped mounted over = absurd (mounted (sym any.1 ∙ over))
ended_wiped tells old now command (given.Seized pages nodes blocks) desk any wiped mounted over = absurd (mounted (sym any.1 ∙ over))
ended_wiped tells old now command given.Bad desk any wiped mounted over = absurd (mounted (sym any.1 ∙ over))
ended_wiped tells old now command given.Unmounted desk any wiped mounted over = absurd (mounted (sym any.1 ∙ over))
ended_wiped tells old now command given.AlreadyMounted desk any wiped mounted over = absurd (mounted (sym any.1 ∙ over))
ended_wiped tells old now command given.NotEmpty desk any wiped mounted over = absurd (mounted (sym any.1 ∙ over))
ended_wiped tells old now command given.NoDevice desk any wiped mounted over = absurd (mounted (sym any.1 ∙ over))
ended_wiped tells old now command given.AlreadyUpgraded desk any wiped mounted over = absurd (mounted (sym any.1 ∙ over))
ended_wiped tells old now command given.Range desk any wiped mounted over = absurd (mounted (sym any.1 ∙ over))
ended_wiped tells old now command given.Full desk any wiped mounted over = absurd (mounted (sym any.1 ∙ over))
