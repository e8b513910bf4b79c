use Rattle.std.specs.Prelude.{IfOk}
use Rattle.device_cli.specs.Parts.{Adds}
use Rattle.std.proofs.Common.{refl, sym, subst, take}
use Rattle.device_cli.specs.World.{World, needed_of, world_of}
use Rattle.device_cli.specs.Replied.{Serves, outcome}
use Rattle.script_lang.specs.Commands.{asked}
use Rattle.script_lang.specs.declared.commands.Command.{Command as Parsed}
use Rattle.device_cli.proofs.SeizingLaws.{saw_of}
use Rattle.script_lang.specs.Commands as commands
use Rattle.device_course.proofs.KeysLaws.{on_start, on_done, listed_none}
use Rattle.device_cli.specs.Drawing.{Spends}
use Rattle.device_cli.proofs.DrawingLaws.{uncalled}
use Rattle.device_cli.proofs.Choices.{on_ok}
use Rattle.device_cli.proofs.desk.Desk.serve.Goals as goal

pub returns-in-Write-clause-answered : goal.returns-in-Write-clause-answered
returns-in-Write-clause-answered g c told entry rep =
    let P = g.P.Platform in
    let old : World = world_of P c.args.self.now.session c.args.platform.now in
    let new : World = world_of P c.write.new.self.session c.write.new.platform in
    let buffer = c.args.self.now.buffer in
    subst (λ (command : Parsed). Serves old new entry (asked command buffer) (outcome c.write.result c.write.new.self.buffer)) (sym c.in-Write.is)
    (c.write.ensures.answered told entry rep)

pub returns-in-Seize-clause-answered : goal.returns-in-Seize-clause-answered
returns-in-Seize-clause-answered g c told entry rep =
    let P = g.P.Platform in
    let old : World = world_of P c.args.self.now.session c.args.platform.now in
    let new : World = world_of P c.args.self.now.session c.seize.new.platform in
    let buffer = c.args.self.now.buffer in
    subst (λ (command : Parsed). Serves old new entry (asked command buffer) (outcome c.seize.result buffer)) (sym c.in-Seize.is)
    (c.seize.ensures.answered told entry rep)

pub returns-in-Stat-clause-answered : goal.returns-in-Stat-clause-answered
returns-in-Stat-clause-answered g c told entry rep =
    let P = g.P.Platform in
    let old : World = world_of P c.args.self.now.session c.args.platform.now in
    let buffer = c.args.self.now.buffer in
    subst (λ (command : Parsed). Serves old old entry (asked command buffer) (outcome c.stat.result buffer)) (sym c.in-Stat.is)
    (c.stat.ensures.answered told entry rep)

pub returns-in-Write-clause-pages : goal.returns-in-Write-clause-pages
returns-in-Write-clause-pages g c =
    let P = g.P.Platform in
    let buffer = c.args.self.now.buffer in
    subst (λ (command : Parsed). IfOk (outcome c.write.result c.write.new.self.buffer) (λ reply. Adds P.tells (P.history c.args.platform.now).present (asked command buffer) reply (needed_of c.args.self.now.session) (P.head c.args.platform.now) (P.head c.write.new.platform))) (sym c.in-Write.is)
    c.write.ensures.pages

pub returns-in-Drop-clause-keeps : goal.returns-in-Drop-clause-keeps
returns-in-Drop-clause-keeps g c = on_done _ _ _ _ _ c.args.self.now.session _ _ _ _ _ _ (on_start _ _ _ c.args.self.now.session _ _) (λ going. going) (λ keys h. on_ok c.give_up.result _ (listed_none c.args.self.now.session c.give_up.new.self.session _ keys c.give_up.ensures.session h))

pub returns-in-Stat-clause-keeps : goal.returns-in-Stat-clause-keeps
returns-in-Stat-clause-keeps g c = on_done _ _ _ _ _ c.args.self.now.session _ _ _ _ _ _ (on_start _ _ _ c.args.self.now.session _ _) (λ going. going) (λ keys h. on_ok c.stat.result _ h)

pub returns-in-Seize-clause-keeps : goal.returns-in-Seize-clause-keeps
returns-in-Seize-clause-keeps g c = c.seize.ensures.keeps (g.T.Tape.drawn c.args.tape.now) (g.L.Sink.written c.args.ledger.now)

pub returns-in-Mount-clause-keeps : goal.returns-in-Mount-clause-keeps
returns-in-Mount-clause-keeps g c = c.mount.ensures.keeps (g.T.Tape.drawn c.args.tape.now) (g.L.Sink.written c.args.ledger.now)

pub returns-in-Read-clause-keeps : goal.returns-in-Read-clause-keeps
returns-in-Read-clause-keeps g c = c.read.ensures.keeps (g.T.Tape.drawn c.args.tape.now) (g.L.Sink.written c.args.ledger.now)

pub returns-in-Trim-clause-keeps : goal.returns-in-Trim-clause-keeps
returns-in-Trim-clause-keeps g c = c.trim.ensures.keeps (g.T.Tape.drawn c.args.tape.now) (g.L.Sink.written c.args.ledger.now)

pub returns-in-Erase-clause-keeps : goal.returns-in-Erase-clause-keeps
returns-in-Erase-clause-keeps g c = c.erase.ensures.keeps (g.T.Tape.drawn c.args.tape.now) (g.L.Sink.written c.args.ledger.now)

pub returns-in-Write-clause-keeps : goal.returns-in-Write-clause-keeps
returns-in-Write-clause-keeps g c = c.write.ensures.keeps (g.L.Sink.written c.args.ledger.now)

pub returns-in-Format-clause-seen : goal.returns-in-Format-clause-seen
returns-in-Format-clause-seen g c told entry rep =
    let P = g.P.Platform in
    saw_of (world_of P c.args.self.now.session c.args.platform.now) (world_of P c.format.new.self.session c.format.new.platform) entry (commands.Format c.in-Format.blocks c.in-Format.order) (outcome c.format.result c.format.new.self.buffer) (λ e. cc)
    (c.format.ensures.answered told entry rep)

pub returns-in-Mount-clause-seen : goal.returns-in-Mount-clause-seen
returns-in-Mount-clause-seen g c told entry rep =
    let P = g.P.Platform in
    saw_of (world_of P c.args.self.now.session c.args.platform.now) (world_of P c.mount.new.self.session c.mount.new.platform) entry (commands.Mount) (outcome c.mount.result c.mount.new.self.buffer) (λ e. cc)
    (c.mount.ensures.answered told entry rep)

pub returns-in-Read-clause-seen : goal.returns-in-Read-clause-seen
returns-in-Read-clause-seen g c told entry rep =
    let P = g.P.Platform in
    saw_of (world_of P c.args.self.now.session c.args.platform.now) (world_of P c.read.new.self.session c.read.new.platform) entry (commands.Read c.in-Read.block) (outcome c.read.result c.read.new.self.buffer) (λ e. cc)
    (c.read.ensures.answered told entry rep)

pub returns-in-Write-clause-seen : goal.returns-in-Write-clause-seen
returns-in-Write-clause-seen g c told entry rep =
    let P = g.P.Platform in
    saw_of (world_of P c.args.self.now.session c.args.platform.now) (world_of P c.write.new.self.session c.write.new.platform) entry (commands.Write c.in-Write.block (take c.in-Write.count c.args.self.now.buffer)) (outcome c.write.result c.write.new.self.buffer) (λ e. cc)
    (c.write.ensures.answered told entry rep)

pub returns-in-Trim-clause-seen : goal.returns-in-Trim-clause-seen
returns-in-Trim-clause-seen g c told entry rep =
    let P = g.P.Platform in
    saw_of (world_of P c.args.self.now.session c.args.platform.now) (world_of P c.trim.new.self.session c.trim.new.platform) entry (commands.Trim c.in-Trim.block) (outcome c.trim.result c.trim.new.self.buffer) (λ e. cc)
    (c.trim.ensures.answered told entry rep)

pub returns-in-Commit-clause-seen : goal.returns-in-Commit-clause-seen
returns-in-Commit-clause-seen g c told entry rep =
    let P = g.P.Platform in
    saw_of (world_of P c.args.self.now.session c.args.platform.now) (world_of P c.commit.new.self.session c.commit.new.platform) entry (commands.Commit) (outcome c.commit.result c.commit.new.self.buffer) (λ e. cc)
    (c.commit.ensures.answered told entry rep)

pub returns-in-Erase-clause-seen : goal.returns-in-Erase-clause-seen
returns-in-Erase-clause-seen g c told entry rep =
    let P = g.P.Platform in
    saw_of (world_of P c.args.self.now.session c.args.platform.now) (world_of P c.erase.new.self.session c.erase.new.platform) entry (commands.Erase) (outcome c.erase.result c.erase.new.self.buffer) (λ e. cc)
    (c.erase.ensures.answered told entry rep)

pub returns-in-Drop-clause-seen : goal.returns-in-Drop-clause-seen
returns-in-Drop-clause-seen g c told entry rep =
    let P = g.P.Platform in
    saw_of (world_of P c.args.self.now.session c.args.platform.now) (world_of P c.give_up.new.self.session c.args.platform.now) entry commands.Drop (outcome c.give_up.result c.give_up.new.self.buffer) (λ e. cc)
    (c.give_up.ensures.answered told entry rep)

pub returns-in-Stat-clause-seen : goal.returns-in-Stat-clause-seen
returns-in-Stat-clause-seen g c told entry rep =
    let P = g.P.Platform in
    let here : World = world_of P c.args.self.now.session c.args.platform.now in
    saw_of here here entry commands.Stat (outcome c.stat.result c.args.self.now.buffer) (λ e. cc) (c.stat.ensures.answered told entry rep)

pub returns-in-Mount-clause-still : goal.returns-in-Mount-clause-still
returns-in-Mount-clause-still g c =
    let drawn = g.T.Tape.drawn c.args.tape.now in
    let buffer = c.args.self.now.buffer in
    subst (λ (command : Parsed). Spends c.args.tape.now c.args.tape.now c.args.ledger.now c.args.ledger.now drawn drawn (asked command buffer) (outcome c.mount.result c.mount.new.self.buffer)) (sym c.in-Mount.is)
    (uncalled c.args.tape.now c.args.ledger.now drawn commands.Mount (outcome c.mount.result c.mount.new.self.buffer) (λ draws. draws) (λ puts. puts))

pub returns-in-Read-clause-still : goal.returns-in-Read-clause-still
returns-in-Read-clause-still g c =
    let drawn = g.T.Tape.drawn c.args.tape.now in
    let buffer = c.args.self.now.buffer in
    subst (λ (command : Parsed). Spends c.args.tape.now c.args.tape.now c.args.ledger.now c.args.ledger.now drawn drawn (asked command buffer) (outcome c.read.result c.read.new.self.buffer)) (sym c.in-Read.is)
    (uncalled c.args.tape.now c.args.ledger.now drawn (commands.Read c.in-Read.block) (outcome c.read.result c.read.new.self.buffer) (λ draws. draws) (λ puts. puts))

pub returns-in-Trim-clause-still : goal.returns-in-Trim-clause-still
returns-in-Trim-clause-still g c =
    let drawn = g.T.Tape.drawn c.args.tape.now in
    let buffer = c.args.self.now.buffer in
    subst (λ (command : Parsed). Spends c.args.tape.now c.args.tape.now c.args.ledger.now c.args.ledger.now drawn drawn (asked command buffer) (outcome c.trim.result c.trim.new.self.buffer)) (sym c.in-Trim.is)
    (uncalled c.args.tape.now c.args.ledger.now drawn (commands.Trim c.in-Trim.block) (outcome c.trim.result c.trim.new.self.buffer) (λ draws. draws) (λ puts. puts))

pub returns-in-Drop-clause-still : goal.returns-in-Drop-clause-still
returns-in-Drop-clause-still g c =
    let drawn = g.T.Tape.drawn c.args.tape.now in
    let buffer = c.args.self.now.buffer in
    subst (λ (command : Parsed). Spends c.args.tape.now c.args.tape.now c.args.ledger.now c.args.ledger.now drawn drawn (asked command buffer) (outcome c.give_up.result c.give_up.new.self.buffer)) (sym c.in-Drop.is)
    (uncalled c.args.tape.now c.args.ledger.now drawn commands.Drop (outcome c.give_up.result c.give_up.new.self.buffer) (λ draws. draws) (λ puts. puts))

pub returns-in-Erase-clause-still : goal.returns-in-Erase-clause-still
returns-in-Erase-clause-still g c =
    let drawn = g.T.Tape.drawn c.args.tape.now in
    let buffer = c.args.self.now.buffer in
    subst (λ (command : Parsed). Spends c.args.tape.now c.args.tape.now c.args.ledger.now c.args.ledger.now drawn drawn (asked command buffer) (outcome c.erase.result c.erase.new.self.buffer)) (sym c.in-Erase.is)
    (uncalled c.args.tape.now c.args.ledger.now drawn commands.Erase (outcome c.erase.result c.erase.new.self.buffer) (λ draws. draws) (λ puts. puts))

pub returns-in-Stat-clause-still : goal.returns-in-Stat-clause-still
returns-in-Stat-clause-still g c =
    let drawn = g.T.Tape.drawn c.args.tape.now in
    let buffer = c.args.self.now.buffer in
    subst (λ (command : Parsed). Spends c.args.tape.now c.args.tape.now c.args.ledger.now c.args.ledger.now drawn drawn (asked command buffer) (outcome c.stat.result c.args.self.now.buffer)) (sym c.in-Stat.is)
    (uncalled c.args.tape.now c.args.ledger.now drawn commands.Stat (outcome c.stat.result c.args.self.now.buffer) (λ draws. draws) (λ puts. puts))

pub returns-in-Seize-clause-still : goal.returns-in-Seize-clause-still
returns-in-Seize-clause-still g c =
    let drawn = g.T.Tape.drawn c.args.tape.now in
    let buffer = c.args.self.now.buffer in
    subst (λ (command : Parsed). Spends c.args.tape.now c.args.tape.now c.args.ledger.now c.args.ledger.now drawn drawn (asked command buffer) (outcome c.seize.result c.args.self.now.buffer)) (sym c.in-Seize.is)
    (uncalled c.args.tape.now c.args.ledger.now drawn commands.Seize (outcome c.seize.result c.args.self.now.buffer) (λ draws. draws) (λ puts. puts))

pub returns-in-Format-clause-still : goal.returns-in-Format-clause-still
returns-in-Format-clause-still g c =
    let buffer = c.args.self.now.buffer in
    subst (λ (command : Parsed). Spends c.args.tape.now c.format.new.tape c.args.ledger.now c.format.new.ledger (g.T.Tape.drawn c.args.tape.now) (g.T.Tape.drawn c.format.new.tape) (asked command buffer) (outcome c.format.result c.format.new.self.buffer)) (sym c.in-Format.is)
    (record { undrawn = λ none. absurd (none tt); unput = λ none. absurd (none tt); drew = c.format.ensures.drew })

pub returns-in-Write-clause-still : goal.returns-in-Write-clause-still
returns-in-Write-clause-still g c =
    let buffer = c.args.self.now.buffer in
    subst (λ (command : Parsed). Spends c.args.tape.now c.write.new.tape c.args.ledger.now c.args.ledger.now (g.T.Tape.drawn c.args.tape.now) (g.T.Tape.drawn c.write.new.tape) (asked command buffer) (outcome c.write.result c.write.new.self.buffer)) (sym c.in-Write.is)
    (record { undrawn = λ none. absurd (none tt); unput = λ puts. refl; drew = c.write.ensures.drew })

pub returns-in-Commit-clause-still : goal.returns-in-Commit-clause-still
returns-in-Commit-clause-still g c =
    let buffer = c.args.self.now.buffer in
    subst (λ (command : Parsed). Spends c.args.tape.now c.commit.new.tape c.args.ledger.now c.commit.new.ledger (g.T.Tape.drawn c.args.tape.now) (g.T.Tape.drawn c.commit.new.tape) (asked command buffer) (outcome c.commit.result c.commit.new.self.buffer)) (sym c.in-Commit.is)
    (record { undrawn = λ none. absurd (none tt); unput = λ none. absurd (none tt); drew = c.commit.ensures.drew })

-- ---- an upgrade

pub returns-in-Upgrade-clause-answered : goal.returns-in-Upgrade-clause-answered
returns-in-Upgrade-clause-answered g c told entry rep =
    let P = g.P.Platform in
    let old : World = world_of P c.args.self.now.session c.args.platform.now in
    let new : World = world_of P c.args.self.now.session c.upgrade.new.platform in
    let buffer = c.args.self.now.buffer in
    subst (λ (command : Parsed). Serves old new entry (asked command buffer) (outcome c.upgrade.result buffer)) (sym c.in-Upgrade.is)
    (c.upgrade.ensures.answered told entry rep)

pub returns-in-Upgrade-clause-seen : goal.returns-in-Upgrade-clause-seen
returns-in-Upgrade-clause-seen g c told entry rep =
    let P = g.P.Platform in
    saw_of (world_of P c.args.self.now.session c.args.platform.now) (world_of P c.args.self.now.session c.upgrade.new.platform) entry commands.Upgrade (outcome c.upgrade.result c.args.self.now.buffer) (λ e. cc)
    (c.upgrade.ensures.answered told entry rep)

pub returns-in-Upgrade-clause-still : goal.returns-in-Upgrade-clause-still
returns-in-Upgrade-clause-still g c =
    let buffer = c.args.self.now.buffer in
    subst (λ (command : Parsed). Spends c.args.tape.now c.upgrade.new.tape c.args.ledger.now c.upgrade.new.ledger (g.T.Tape.drawn c.args.tape.now) (g.T.Tape.drawn c.upgrade.new.tape) (asked command buffer) (outcome c.upgrade.result buffer)) (sym c.in-Upgrade.is)
    (record { undrawn = λ none. absurd (none tt); unput = λ none. absurd (none tt); drew = c.upgrade.ensures.drew })
