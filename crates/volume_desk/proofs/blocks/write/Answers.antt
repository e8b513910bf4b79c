use Rattle.std.proofs.Common.{◌≡◌, ◌≢◌, ◌≤◌, ℕ, [], ◌∷◌, Ok, Err, inl, inr, ap, refl, arith}
use Rattle.device_session.specs.Open.{blocks_of, needed_by}
use Rattle.session_calls.specs.Along.{drawn_by}
use Rattle.volume_lines.specs.Lines.{Write}
use Rattle.volume_terms.specs.Turn.{Writes}
use Rattle.volume_terms.proofs.KeepingLaws.{wrote}
use Rattle.session_calls.proofs.CallLaws.{calls_done, calls_none, calls_stopped}
use Rattle.volume_desk.specs.Causes.{sizes}
use Rattle.volume_desk.proofs.CauseLaws.{has_block, write_may, write_refused}
use Rattle.volume_desk.specs.Drawing.{tally}
use Rattle.volume_desk.proofs.DrawingLaws.{refused_drew, seals_none, seals_one}
use Rattle.volume_desk.proofs.DoneLaws.{keeps_all, refused_over, written_at}
use Rattle.volume_desk.proofs.DeskLaws.{changed_none, held_wrote, no_block, write_sound}
use Rattle.volume_desk.proofs.ReadLaws.{calls_block}
use Rattle.volume_desk.proofs.blocks.write.Goals as goal

pub returns-in-Err-clause-calls : goal.returns-in-Err-clause-calls
returns-in-Err-clause-calls g c buffer = calls_none g.P.Platform 1 _ _ (drawn_by g.T.Tape c.args.tape.now) _ _ c.requires.open

pub returns-in-Err-clause-turns : goal.returns-in-Err-clause-turns
returns-in-Err-clause-turns g c told entry buffer held =
    changed_none _ _ _ _ entry _ _ held (no_block c.args.table.now entry c.args.name.now c.args.block (Writes (g.P.Platform.capacity c.args.platform.now) c.args.content.now) c.in-Err.reply buffer c.in-Err.ensures.none)

pub returns-then-head-capacity-clause-calls : goal.returns-then-head-capacity-clause-calls
returns-then-head-capacity-clause-calls g c buffer = calls_none g.P.Platform 1 _ _ (drawn_by g.T.Tape c.args.tape.now) _ _ c.requires.open

pub returns-then-head-capacity-clause-turns : goal.returns-then-head-capacity-clause-turns
returns-then-head-capacity-clause-turns g c told entry buffer held =
    let is = c.in-Ok.ensures.found in
    let full : entry.pages ≡ g.P.Platform.capacity c.args.platform.now = omega (arith, held.pages, c.if-head-capacity.true, c.head.ensures, c.capacity.ensures) in
    changed_none _ _ _ _ entry _ _ held (is.v, is.named, is.below, (full, refl))

pub returns-in-Ok-write_block-clause-calls : goal.returns-in-Ok-write_block-clause-calls
returns-in-Ok-write_block-clause-calls g c buffer =
    calls_done g.P.Platform 1 1 40 40 _ _ _ _ _ _ tt _ (omega arith) (omega arith) (calls_block g.P.Platform 1 _ _ _ _ _ _ (Ok tt) _ c.requires.open c.in-Ok-write_block.ensures.goes)

pub returns-in-Ok-write_block-clause-turns : goal.returns-in-Ok-write_block-clause-turns
returns-in-Ok-write_block-clause-turns g c told entry buffer held =
    let is = c.in-Ok.ensures.found in
    let led = c.in-Ok-write_block.ensures.leads told entry.device entry.session held.at in
    let along = c.in-Ok-write_block.ensures.goes.along in
    let free : entry.pages ≢ g.P.Platform.capacity c.args.platform.now = λ full. omega (arith, held.pages, full, c.if-head-capacity.false, c.head.ensures, c.capacity.ensures) in
    record {
      next = wrote entry c.in-Ok.at c.args.content.now;
      held = held_wrote _ _ _ _ _ _ _ entry c.args.name.now c.args.block c.in-Ok.at c.args.content.now is held led c.in-Ok-write_block.ensures.adds.0 along.needs;
      does = (is.v, is.named, is.below, (free, ap (λ (at : ℕ). wrote entry at c.args.content.now) is.is));
      same = refl;
    }

pub returns-in-Err-write_block-clause-calls : goal.returns-in-Err-write_block-clause-calls
returns-in-Err-write_block-clause-calls g c buffer =
    calls_stopped g.P.Platform 1 1 40 40 _ _ _ _ _ _ c.in-Err-write_block.stop (omega arith) (omega arith) (calls_block g.P.Platform 1 _ _ _ _ _ _ (Err c.in-Err-write_block.stop) _ c.requires.open c.in-Err-write_block.ensures.goes)

pub returns-in-Err-write_block-clause-turns : goal.returns-in-Err-write_block-clause-turns
returns-in-Err-write_block-clause-turns g c told entry buffer held = (
  write_sound (g.P.Platform.history c.write_block.new.platform).present c.write_block.new.session entry.device entry.session c.in-Ok.at c.args.content.now c.in-Err-write_block.stop (c.in-Err-write_block.ensures.leads told entry.device entry.session held.at),
  λ full. omega (arith, held.pages, full, c.if-head-capacity.false, c.head.ensures, c.capacity.ensures),
)

pub returns-in-Err-clause-any : goal.returns-in-Err-clause-any
returns-in-Err-clause-any g c buffer =
    let here = (sizes (blocks_of c.args.session.now) (g.P.Platform.head c.args.platform.now) (g.P.Platform.capacity c.args.platform.now)) in
    refused_over g.P.Platform.tells (g.P.Platform.history c.args.platform.now).present c.args.session.now here c.args.table.now (Write c.args.name.now c.args.block c.args.content.now) c.args.name.now c.args.block c.in-Err.reply buffer c.in-Err.ensures.none
    (write_refused here (needed_by c.args.session.now) (needed_by c.args.session.now) c.args.table.now c.args.name.now c.args.block c.args.content.now c.in-Err.reply buffer c.in-Err.ensures.none)

pub returns-then-head-capacity-clause-any : goal.returns-then-head-capacity-clause-any
returns-then-head-capacity-clause-any g c buffer =
    let full : g.P.Platform.capacity c.args.platform.now ≤ g.P.Platform.head c.args.platform.now = omega (arith, c.if-head-capacity.true, c.head.ensures, c.capacity.ensures) in
    (inr (c.args.table.now, (has_block c.args.table.now c.args.name.now c.args.block c.in-Ok.at c.in-Ok.ensures.found, refl), inr (full, refl, refl)), λ known. keeps_all (g.P.Platform.history c.args.platform.now).present c.args.session.now)

pub returns-in-Ok-write_block-clause-any : goal.returns-in-Ok-write_block-clause-any
returns-in-Ok-write_block-clause-any g c buffer = (
  inr (c.args.table.now, (has_block c.args.table.now c.args.name.now c.args.block c.in-Ok.at c.in-Ok.ensures.found, refl), inl (tt, refl)),
  λ known. written_at (g.P.Platform.history c.args.platform.now).present (g.P.Platform.history c.write_block.new.platform).present c.args.session.now c.write_block.new.session c.args.table.now c.args.name.now c.args.block c.in-Ok.at c.args.content.now c.in-Ok.ensures.found (c.in-Ok-write_block.ensures.written known.0 known.1),
)

pub returns-in-Err-write_block-clause-any : goal.returns-in-Err-write_block-clause-any
returns-in-Err-write_block-clause-any g c buffer = (
  write_may _ (g.P.Platform.history c.args.platform.now).present (g.P.Platform.history c.write_block.new.platform).present c.args.session.now c.in-Ok.at c.args.name.now c.args.block c.args.content.now c.in-Err-write_block.stop c.args.table.now c.in-Err-write_block.ensures.any,
  (c.args.table.now, (has_block c.args.table.now c.args.name.now c.args.block c.in-Ok.at c.in-Ok.ensures.found, refl)),
)

pub returns-in-Err-clause-drew : goal.returns-in-Err-clause-drew
returns-in-Err-clause-drew g c buffer =
    refused_drew (tally (g.T.Tape.drawn c.args.tape.now) (g.P.Platform.head c.args.platform.now)) c.args.table.now c.args.name.now c.args.block c.args.content.now buffer c.in-Err.reply c.in-Err.ensures.none

pub returns-then-head-capacity-clause-drew : goal.returns-then-head-capacity-clause-drew
returns-then-head-capacity-clause-drew g c buffer = ([], refl, seals_none (g.T.Tape.drawn c.args.tape.now) (g.P.Platform.head c.args.platform.now) (g.P.Platform.head c.args.platform.now) refl)

pub returns-in-Ok-write_block-clause-drew : goal.returns-in-Ok-write_block-clause-drew
returns-in-Ok-write_block-clause-drew g c buffer =
    let adds = c.in-Ok-write_block.ensures.adds in
    (adds.1 ∷ [], refl, seals_one (g.T.Tape.drawn c.args.tape.now) (g.T.Tape.drawn c.write_block.new.tape) (g.P.Platform.head c.args.platform.now) (g.P.Platform.head c.write_block.new.platform) adds.1 adds.2 adds.0)
