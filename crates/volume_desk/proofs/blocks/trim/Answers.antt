use Rattle.std.proofs.Common.{ℕ, Ok, Err, inl, inr, ap, refl, arith}
use Rattle.device_session.specs.Open.{blocks_of, needed_by}
use Rattle.volume_lines.specs.Lines.{Trim}
use Rattle.volume_terms.specs.Turn.{Trims}
use Rattle.volume_terms.proofs.KeepingLaws.{trimmed_at}
use Rattle.session_calls.proofs.CallLaws.{calls_done, calls_none, calls_stopped, no_draw}
use Rattle.volume_desk.specs.Causes.{sizes}
use Rattle.volume_desk.proofs.CauseLaws.{has_block, trim_may, trim_refused}
use Rattle.volume_desk.proofs.DoneLaws.{refused_over, unmapped_at}
use Rattle.volume_desk.proofs.DeskLaws.{changed_none, held_trimmed, no_block, trim_sound}
use Rattle.volume_desk.proofs.ReadLaws.{calls_block}
use Rattle.volume_desk.proofs.blocks.trim.Goals as goal

pub returns-in-Err-clause-calls : goal.returns-in-Err-clause-calls
returns-in-Err-clause-calls g c drawn buffer = calls_none g.P.Platform 1 _ _ drawn _ _ c.requires.open

pub returns-in-Err-clause-turns : goal.returns-in-Err-clause-turns
returns-in-Err-clause-turns g c told entry buffer held =
    changed_none _ _ _ _ entry _ _ held (no_block c.args.table.now entry c.args.name.now c.args.block Trims c.in-Err.reply buffer c.in-Err.ensures.none)

pub returns-in-Ok-trim_block-clause-calls : goal.returns-in-Ok-trim_block-clause-calls
returns-in-Ok-trim_block-clause-calls g c drawn buffer =
    calls_done g.P.Platform 1 1 40 40 _ _ drawn drawn _ _ tt _ (omega arith) (omega arith) (calls_block g.P.Platform 1 _ _ drawn drawn _ _ (Ok tt) _ c.requires.open (c.in-Ok-trim_block.ensures.goes drawn))

pub returns-in-Ok-trim_block-clause-turns : goal.returns-in-Ok-trim_block-clause-turns
returns-in-Ok-trim_block-clause-turns g c told entry buffer held =
    let is = c.in-Ok.ensures.found in
    let led = c.in-Ok-trim_block.ensures.leads told entry.device entry.session held.at in
    let along = (c.in-Ok-trim_block.ensures.goes no_draw).along in
    record {
      next = trimmed_at entry c.in-Ok.at;
      held = held_trimmed _ _ _ _ _ _ _ entry c.args.name.now c.args.block c.in-Ok.at is held led c.in-Ok-trim_block.ensures.head along.needs;
      does = (is.v, is.named, is.below, ap (λ (at : ℕ). trimmed_at entry at) is.is);
      same = refl;
    }

pub returns-in-Err-trim_block-clause-calls : goal.returns-in-Err-trim_block-clause-calls
returns-in-Err-trim_block-clause-calls g c drawn buffer =
    calls_stopped g.P.Platform 1 1 40 40 _ _ drawn drawn _ _ c.in-Err-trim_block.stop (omega arith) (omega arith) (calls_block g.P.Platform 1 _ _ drawn drawn _ _ (Err c.in-Err-trim_block.stop) _ c.requires.open (c.in-Err-trim_block.ensures.goes drawn))

pub returns-in-Err-trim_block-clause-turns : goal.returns-in-Err-trim_block-clause-turns
returns-in-Err-trim_block-clause-turns g c told entry buffer held =
    (trim_sound (g.P.Platform.history c.trim_block.new.platform).present c.trim_block.new.session entry.device entry.session c.in-Ok.at c.in-Err-trim_block.stop (c.in-Err-trim_block.ensures.leads told entry.device entry.session held.at), tt)

pub returns-in-Err-clause-any : goal.returns-in-Err-clause-any
returns-in-Err-clause-any g c buffer =
    let here = (sizes (blocks_of c.args.session.now) (g.P.Platform.head c.args.platform.now) (g.P.Platform.capacity c.args.platform.now)) in
    refused_over g.P.Platform.tells (g.P.Platform.history c.args.platform.now).present c.args.session.now here c.args.table.now (Trim c.args.name.now c.args.block) c.args.name.now c.args.block c.in-Err.reply buffer c.in-Err.ensures.none
    (trim_refused here (needed_by c.args.session.now) (needed_by c.args.session.now) c.args.table.now c.args.name.now c.args.block c.in-Err.reply buffer c.in-Err.ensures.none)

pub returns-in-Ok-trim_block-clause-any : goal.returns-in-Ok-trim_block-clause-any
returns-in-Ok-trim_block-clause-any g c buffer = (
  inr (c.args.table.now, (has_block c.args.table.now c.args.name.now c.args.block c.in-Ok.at c.in-Ok.ensures.found, refl), inl (tt, refl)),
  λ known. unmapped_at (g.P.Platform.history c.args.platform.now).present (g.P.Platform.history c.trim_block.new.platform).present c.args.session.now c.trim_block.new.session c.args.table.now c.args.name.now c.args.block c.in-Ok.at c.in-Ok.ensures.found (c.in-Ok-trim_block.ensures.taken known.0 known.1),
)

pub returns-in-Err-trim_block-clause-any : goal.returns-in-Err-trim_block-clause-any
returns-in-Err-trim_block-clause-any g c buffer = (
  trim_may _ (g.P.Platform.history c.args.platform.now).present (g.P.Platform.history c.trim_block.new.platform).present c.args.session.now c.in-Ok.at c.args.name.now c.args.block c.in-Err-trim_block.stop c.args.table.now c.in-Err-trim_block.ensures.any,
  (c.args.table.now, (has_block c.args.table.now c.args.name.now c.args.block c.in-Ok.at c.in-Ok.ensures.found, refl)),
)

pub returns-in-Ok-trim_block-clause-head : goal.returns-in-Ok-trim_block-clause-head
returns-in-Ok-trim_block-clause-head g c = c.in-Ok-trim_block.ensures.head

pub returns-in-Err-trim_block-clause-head : goal.returns-in-Err-trim_block-clause-head
returns-in-Err-trim_block-clause-head g c = c.in-Err-trim_block.ensures.head
