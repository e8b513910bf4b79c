use Rattle.std.proofs.Common.{◌+◌, ℕ, Ok, Err, ap, refl, subst, sym, ◌∙◌, arith}
use Rattle.sdbt_base.specs.Arrays.{content_of}
use Rattle.device_session.specs.Open.{blocks_of, needed_by}
use Rattle.script_lang.specs.Arrays.{trimmed}
use Rattle.volume_lines.specs.Lines.{Read}
use Rattle.volume_lines.specs.Replies.{Reply}
use Rattle.volume_terms.specs.Turn.{OnBlock, Reads}
use Rattle.session_calls.proofs.CallLaws.{calls_done, calls_none, calls_of, calls_stopped, no_draw}
use Rattle.volume_desk.specs.Causes.{sizes}
use Rattle.volume_desk.proofs.CauseLaws.{has_block, read_may, read_refused}
use Rattle.volume_desk.proofs.DoneLaws.{keeps_still, read_over, refused_over}
use Rattle.volume_desk.proofs.DeskLaws.{changed_none, no_block, read_sound}
use Rattle.volume_desk.proofs.ReadLaws.{read_most}
use Rattle.volume_desk.proofs.TurnLaws.{held_still}
use Rattle.volume_desk.proofs.blocks.read.Goals as goal

pub returns-in-Err-clause-calls : goal.returns-in-Err-clause-calls
returns-in-Err-clause-calls g c drawn = calls_none g.P.Platform 0 _ _ drawn _ _ c.requires.open

pub returns-in-Err-clause-turns : goal.returns-in-Err-clause-turns
returns-in-Err-clause-turns g c told entry held =
    changed_none _ _ _ _ entry _ _ held (no_block c.args.table.now entry c.args.name.now c.args.block Reads c.in-Err.reply _ c.in-Err.ensures.none)

pub returns-in-Ok-read_block-clause-calls : goal.returns-in-Ok-read_block-clause-calls
returns-in-Ok-read_block-clause-calls g c drawn =
    let level : ℕ = c.args.session.now.grove.level in
    calls_done g.P.Platform 0 0 (level + 1) _ _ _ drawn drawn _ _ tt _ (omega arith) (read_most c.args.table.now c.args.name.now c.args.block _ _ level c.reply_with_content.ensures.value c.requires.open.level)
    (calls_of g.P.Platform 0 (level + 1) _ _ drawn drawn _ _ (Ok tt) (c.in-Ok-read_block.ensures.goes drawn))

pub returns-in-Ok-read_block-clause-turns : goal.returns-in-Ok-read_block-clause-turns
returns-in-Ok-read_block-clause-turns g c told entry held =
    let is = c.in-Ok.ensures.found in
    let led = c.in-Ok-read_block.ensures.leads told entry.device entry.session held.at in
    let along = (c.in-Ok-read_block.ensures.goes no_draw).along in
    record {
      next = entry;
      held = held_still _ _ _ _ _ _ _ entry held led.0 (omega (arith, along.adds, along.rises)) (omega (arith, along.needs));
      does = subst (λ (r : Reply). OnBlock c.args.table.now entry c.args.name.now c.args.block Reads r entry) (sym c.reply_with_content.ensures.value)
          (is.v, is.named, is.below, (ap trimmed (led.1 ∙ ap (content_of entry.session.contents) is.is), refl));
      same = refl;
    }

pub returns-in-Err-read_block-clause-calls : goal.returns-in-Err-read_block-clause-calls
returns-in-Err-read_block-clause-calls g c drawn =
    let level : ℕ = c.args.session.now.grove.level in
    calls_stopped g.P.Platform 0 0 (level + 1) 21 _ _ drawn drawn _ _ c.in-Err-read_block.stop (omega arith) (omega (arith, c.requires.open.level))
    (calls_of g.P.Platform 0 (level + 1) _ _ drawn drawn _ _ (Err c.in-Err-read_block.stop) (c.in-Err-read_block.ensures.goes drawn))

pub returns-in-Err-read_block-clause-turns : goal.returns-in-Err-read_block-clause-turns
returns-in-Err-read_block-clause-turns g c told entry held =
    (read_sound (g.P.Platform.history c.read_block.new.platform).present c.read_block.new.session entry.device entry.session c.in-Ok.at c.read_block.new.out c.in-Err-read_block.stop (c.in-Err-read_block.ensures.leads told entry.device entry.session held.at), tt)

pub returns-in-Err-clause-any : goal.returns-in-Err-clause-any
returns-in-Err-clause-any g c =
    let here = (sizes (blocks_of c.args.session.now) (g.P.Platform.head c.args.platform.now) (g.P.Platform.capacity c.args.platform.now)) in
    refused_over g.P.Platform.tells (g.P.Platform.history c.args.platform.now).present c.args.session.now here c.args.table.now (Read c.args.name.now c.args.block) c.args.name.now c.args.block c.in-Err.reply c.args.buffer.now c.in-Err.ensures.none
    (read_refused here (needed_by c.args.session.now) (needed_by c.args.session.now) c.args.table.now c.args.name.now c.args.block c.in-Err.reply c.args.buffer.now c.in-Err.ensures.none)

pub returns-in-Ok-read_block-clause-any : goal.returns-in-Ok-read_block-clause-any
returns-in-Ok-read_block-clause-any g c =
    read_over g.P.Platform.tells (g.P.Platform.history c.args.platform.now).present (g.P.Platform.history c.read_block.new.platform).present c.args.session.now c.read_block.new.session
    (sizes (blocks_of c.args.session.now) (g.P.Platform.head c.read_block.new.platform) (g.P.Platform.capacity c.read_block.new.platform)) c.args.table.now c.args.name.now c.args.block c.in-Ok.at c.reply_with_content.result c.read_block.new.out _
    (λ told. keeps_still (g.P.Platform.history c.args.platform.now) (g.P.Platform.history c.read_block.new.platform) (g.P.Platform.head c.args.platform.now) (g.P.Platform.head c.read_block.new.platform) c.args.session.now c.read_block.new.session (((c.in-Ok-read_block.ensures.goes no_draw).along.cell told).extends) (g.met.P.Platform.counts_pages told c.args.platform.now) (g.met.P.Platform.counts_pages told c.read_block.new.platform) (let along = (c.in-Ok-read_block.ensures.goes no_draw).along in omega (arith, along.rises, along.adds)) c.in-Ok-read_block.ensures.same.1)
    c.reply_with_content.ensures.value
    c.in-Ok.ensures.found c.in-Ok-read_block.ensures.any

pub returns-in-Err-read_block-clause-any : goal.returns-in-Err-read_block-clause-any
returns-in-Err-read_block-clause-any g c = (
  read_may _ (g.P.Platform.history c.args.platform.now).present (g.P.Platform.history c.read_block.new.platform).present c.args.session.now c.in-Ok.at c.read_block.new.out c.args.name.now c.args.block c.in-Err-read_block.stop c.args.table.now c.in-Err-read_block.ensures.any,
  (c.args.table.now, (has_block c.args.table.now c.args.name.now c.args.block c.in-Ok.at c.in-Ok.ensures.found, refl)),
)
