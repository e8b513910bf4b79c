use Rattle.std.proofs.Common.{◌≤◌, ◌-◌, ◌∙◌, ℕ, List, None, Option, ap, arith, length, subst, sym}
use Rattle.device_terms.specs.Served.{IsServedCell}
use Rattle.device_session.specs.Sessions.{Session}
use Rattle.transfer.proofs.WholeLaws.{lists_none, moved_all, new_on}
use Rattle.root_codec.specs.declared.root.Root.{Root}
use Rattle.session_calls.proofs.AlongLaws.{along_start}
use Rattle.transfer.proofs.ChangesLaws.{changes_filled, changes_unopened, with_number}
use Rattle.transfer.proofs.BlameLaws.{blames_as, blames_then}
use Rattle.transfer.proofs.FillLaws.{new_blank, new_is_blank, reaches_opened, reaches_unopened}
use Rattle.session_calls.proofs.CallLaws.{no_draw}
use Rattle.transfer.specs.Running.{HasSome}
use Rattle.transfer.specs.Whole.{HasNone, SeesOther}
use Rattle.transfer.specs.Refusals.{IsIdle}
use Rattle.transfer.proofs.running.fill.Given.{Over}
use Rattle.transfer.proofs.running.fill.Goals.{After-fill_target}
use Rattle.std.specs.Prelude.{IsTrue}
use Rattle.transfer.proofs.DifferLaws.{differ_of}
use Rattle.transfer.proofs.HaltLaws.{behind_both_all, behind_opening, halted, meets_opening, meets_where_all}
use Rattle.transfer.proofs.ReadsLaws.{few_filled, few_unopened}
use Rattle.transfer.proofs.LookedLaws.{there_as, there_behind}
use Rattle.transfer.proofs.ToLaws.{spans_more, spans_opened}
use Rattle.transfer.proofs.RefusalLaws.{has_some, on_as, refusing_opened, refusing_unopened, root_there}
use Rattle.transfer.proofs.running.fill.Goals as goal

pub returns-clause-to : goal.returns-clause-to
returns-clause-to g c =
    spans_opened _ _ _ _ _ _ c.in_ok-target.target.session _ (g.met.Q.Platform.has_room c.fill_target.new.to) c.in_ok-target.ensures.target.opened c.fill_target.ensures.both.to

pub returns-clause-blame : goal.returns-clause-blame
returns-clause-blame g c output =
    blames_then _ _ _ _ (c.in_ok-target.ensures.target.blame (g.P.Platform.faults c.args.from.now) output).quiet (c.fill_target.ensures.both.blame output)

pub returns-in_err-target-clause-from : goal.returns-in_err-target-clause-from
returns-in_err-target-clause-from g c = (0, λ any. along_start g.P.Platform c.args.from.now any c.args.source.now c.requires.ready.0.is_open)

pub returns-in_err-target-clause-to : goal.returns-in_err-target-clause-to
returns-in_err-target-clause-to g c = rw (halted c.from_residual.result c.in_err-target.field-0.0 c.from_residual.ensures.1) (spans_more _ _ _ ⊥ _ (λ never. absurd cc) c.in_err-target.ensures.target.stopped)

pub returns-in_err-target-clause-blame : goal.returns-in_err-target-clause-blame
returns-in_err-target-clause-blame g c output = rw (halted c.from_residual.result c.in_err-target.field-0.0 c.from_residual.ensures.1) (blames_as _ _ c.in_err-target.field-0.0 (c.in_err-target.ensures.target.blame (g.P.Platform.faults c.args.from.now) output))

pub returns-in_err-target-clause-wrong : goal.returns-in_err-target-clause-wrong
returns-in_err-target-clause-wrong g c = rw (halted c.from_residual.result c.in_err-target.field-0.0 c.from_residual.ensures.1) (meets_opening _ _ _ _ _ _ c.in_err-target.field-0.0 c.in_err-target.ensures.target.stops)

pub returns-in_err-target-clause-behind : goal.returns-in_err-target-clause-behind
returns-in_err-target-clause-behind g c = rw (halted c.from_residual.result c.in_err-target.field-0.0 c.from_residual.ensures.1) (behind_opening c.in_err-target.field-0.0 c.in_err-target.ensures.target.stops)

pub returns-clause-leads : goal.returns-clause-leads
returns-clause-leads g c from_told to_told device there at stands served =
    let blank = new_blank (g.P.Platform.history c.args.from.now).present c.args.source.now device _ _ _ at c.blocks-blocks.ensures (ap (λ (r : Root). r.order) c.root.ensures) in
    let opened = c.in_ok-target.ensures.target.opened.made to_told there stands served in
    reaches_opened (g.Q.Platform.history c.args.to.now) (g.Q.Platform.history c.open_target.new.to) (g.Q.Platform.history c.fill_target.new.to) c.in_ok-target.target.session _ _ device opened.1 there _ _ opened.0 c.fill_target.result (λ short. omega (arith, short, c.in_ok-target.ensures.target.adds.0, c.in_ok-target.ensures.target.adds.1)) blank opened.2 opened.4
    (c.fill_target.ensures.leads from_told to_told device opened.1 at opened.4.exits (λ is. new_is_blank device opened.1 (c.in_ok-target.ensures.target.is_new to_told is opened.1 opened.4.exits.there.device ∙ blank)))

pub returns-in_err-target-clause-leads : goal.returns-in_err-target-clause-leads
returns-in_err-target-clause-leads g c from_told to_told device there at stands served =
    rw (halted c.from_residual.result c.in_err-target.field-0.0 c.from_residual.ensures.1) (reaches_unopened (g.Q.Platform.history c.args.to.now) (g.Q.Platform.history c.open_target.new.to) _ _ _ device there c.in_err-target.field-0.0 (new_blank (g.P.Platform.history c.args.from.now).present c.args.source.now device _ _ _ at c.blocks-blocks.ensures (ap (λ (r : Root). r.order) c.root.ensures))
    (c.in_err-target.ensures.target.none to_told there stands served))

pub returns-clause-behind : goal.returns-clause-behind
returns-clause-behind g c = behind_both_all c.fill_target.result c.fill_target.ensures.both.behind

pub returns-clause-there : goal.returns-clause-there
returns-clause-there g c = there_behind _ _ _ c.fill_target.result c.in_ok-target.ensures.there c.fill_target.ensures.both.behind

pub returns-in_err-target-clause-there : goal.returns-in_err-target-clause-there
returns-in_err-target-clause-there g c = rw (halted c.from_residual.result c.in_err-target.field-0.0 c.from_residual.ensures.1) (there_as _ _ c.in_err-target.field-0.0 c.in_err-target.ensures.there)

pub returns-clause-from : goal.returns-clause-from
returns-clause-from g c = (c.fill_target.ensures.both.few, λ any. c.fill_target.ensures.both.from any)

-- a new device has no block
new_none : (g : Over) (c : After-fill_target g) → IsTrue c.in_ok-target.target.is_new → g.Q.Platform.tells → HasNone (g.Q.Platform.history c.open_target.new.to).present
new_none g c new told =
    let Q = g.Q.Platform in
    let target = c.in_ok-target.ensures.target in
    let session : Session = c.in_ok-target.target.session in
    let image = (Q.history c.open_target.new.to).present in
    let on = new_on (Q.history c.args.to.now).present c.blocks-blocks.result c.root.result.now.order c.in_ok-target.target.is_new session new (target.on told) in
    let opened = target.opened.made told None on.0 (subst (λ (cell : Option (List ℕ)). IsServedCell cell (length (Q.history c.args.to.now).present.recorded)) (sym on.0) tt) in
    let stands = opened.4.exits.there.session.0.stands in
    record {
      root = session.root;
      is_root = root_there image session (Q.head c.open_target.new.to) target.opened.ready.is_open (target.opened.ready.mounted told).cell;
      blocks = lists_none image session.root opened.4.exits.there.session.0.committed stands.in_range stands.tree (stands.count ∙ on.1);
      count = on.1;
    }

pub returns-clause-wrong : goal.returns-clause-wrong
returns-clause-wrong g c =
    let Q = g.Q.Platform in
    let target = c.in_ok-target.ensures.target in
    let session : Session = c.in_ok-target.target.session in
    let is_new = c.in_ok-target.target.is_new in
    meets_where_all _ _ (1 ≤ session.root.mapped) (HasSome (Q.history c.args.to.now).present) ((IsTrue is_new → Q.tells → HasNone (Q.history c.open_target.new.to).present) → IsIdle session → ⊥) ⊥ _ _ c.fill_target.result
    (λ told some. has_some (Q.history c.args.to.now).present c.blocks-blocks.result c.root.result.now.order is_new session (target.on told) some)
    (λ told not. not (λ new told. new_none g c new told) target.idle) c.fill_target.ensures.both.wrong

pub returns-clause-refused : goal.returns-clause-refused
returns-clause-refused g c =
    let adds = c.in_ok-target.ensures.target.adds in
    refusing_opened (SeesOther g.P.Platform.tells g.Q.Platform.tells (g.P.Platform.history c.args.from.now).present (g.Q.Platform.history c.open_target.new.to).present c.args.source.now c.in_ok-target.target.session) _ _ _ _ _ (g.Q.Platform.capacity c.open_target.new.to - g.Q.Platform.head c.open_target.new.to) _ _ c.args.source.now c.in_ok-target.target.session c.in_ok-target.target.is_new c.fill_target.result (omega (arith, adds.0, adds.1))
    (λ told. root_there _ _ _ c.requires.ready.0.is_open (c.requires.ready.0.mounted told).cell) c.blocks-blocks.ensures (ap (λ (r : Root). r.order) c.root.ensures) c.in_ok-target.ensures.target.on
    (λ from_told to_told never. differ_of _ _ (g.P.Platform.history c.args.from.now).present (g.Q.Platform.history c.args.to.now).present (g.Q.Platform.history c.open_target.new.to).present c.args.source.now c.in_ok-target.target.session _ _ c.requires.ready.0.is_open c.requires.ready.1
    c.in_ok-target.ensures.target.opened.ready.is_open c.in_ok-target.ensures.target.idle.untouched (c.in_ok-target.ensures.target.still to_told never) from_told to_told)
    (c.fill_target.ensures.refused c.in_ok-target.ensures.target.idle) (λ apart. (c.fill_target.ensures.unlike apart).0)

pub returns-in_err-target-clause-refused : goal.returns-in_err-target-clause-refused
returns-in_err-target-clause-refused g c =
    rw (halted c.from_residual.result c.in_err-target.field-0.0 c.from_residual.ensures.1) (refusing_unopened _ _ _ _ _ c.args.source.now.root c.in_err-target.field-0.0 (λ told. root_there _ _ _ c.requires.ready.0.is_open (c.requires.ready.0.mounted told).cell)
    c.in_err-target.ensures.target.stops c.in_err-target.ensures.target.opens_not)

pub fill_target-requires-clause-room : goal.fill_target-requires-clause-room
fill_target-requires-clause-room g c = c.in_ok-target.ensures.target.room

pub returns-in_err-target-clause-moves : goal.returns-in_err-target-clause-moves
returns-in_err-target-clause-moves g c = rw (halted c.from_residual.result c.in_err-target.field-0.0 c.from_residual.ensures.1) tt

pub returns-clause-moves : goal.returns-clause-moves
returns-clause-moves g c =
    let P = g.P.Platform in
    let Q = g.Q.Platform in
    let target = c.in_ok-target.ensures.target in
    let session : Session = c.in_ok-target.target.session in
    with_number Q.tells _ _ c.fill_target.result
    (moved_all P.tells Q.tells (P.history c.args.from.now).present (Q.history c.args.to.now) (Q.history c.open_target.new.to) (Q.history c.fill_target.new.to) c.blocks-blocks.result c.root.result.now.order c.in_ok-target.target.is_new c.args.source.now session (P.head c.args.from.now) (Q.head c.open_target.new.to) c.fill_target.result
    c.requires.ready.0.is_open c.requires.ready.0.mounted target.opened.ready.is_open target.idle target.opened.ready.mounted target.on (λ told. target.opened.keeps.keys.extends told) c.fill_target.ensures.read
    (c.fill_target.ensures.fills (λ new told.
    (let on = new_on (Q.history c.args.to.now).present c.blocks-blocks.result c.root.result.now.order c.in_ok-target.target.is_new session new (target.on told) in
    let opened = target.opened.made told None on.0 (subst (λ (cell : Option (List ℕ)). IsServedCell cell (length (Q.history c.args.to.now).present.recorded)) (sym on.0) tt) in
    let stands = opened.4.exits.there.session.0.stands in
    lists_none (Q.history c.open_target.new.to).present session.root opened.4.exits.there.session.0.committed stands.in_range stands.tree (stands.count ∙ on.1))) target.idle))
    c.fill_target.ensures.both.number

pub returns-in_err-target-clause-reads : goal.returns-in_err-target-clause-reads
returns-in_err-target-clause-reads g c = (
  few_unopened g.P.Platform g.Q.Platform c.args.from.now c.args.to.now c.open_target.new.to c.open_target.ensures.looks,
  changes_unopened g.P.Platform g.Q.Platform c.args.from.now c.args.to.now c.open_target.new.to c.open_target.ensures.changes,
)

pub returns-clause-reads : goal.returns-clause-reads
returns-clause-reads g c =
    let P = g.P.Platform in
    let Q = g.Q.Platform in
    let target = c.in_ok-target.ensures.target in (
      few_filled P Q c.args.from.now c.fill_target.new.from c.args.to.now c.open_target.new.to c.fill_target.new.to c.args.source.now c.in_ok-target.target.session c.in_ok-target.target.is_new c.fill_target.ensures.both.few c.fill_target.ensures.both.most target.idle.mapped
          (λ told. root_there _ _ _ c.requires.ready.0.is_open (c.requires.ready.0.mounted told).cell)
          (λ told. on_as (Q.history c.args.to.now).present c.blocks-blocks.result c.args.source.now.root.blocks c.root.result.now.order c.args.source.now.root.order c.in_ok-target.target.is_new c.in_ok-target.target.session c.blocks-blocks.ensures (ap (λ (r : Root). r.order) c.root.ensures) (target.on told))
          c.open_target.ensures.looks target.still (c.fill_target.ensures.both.from no_draw).reads c.fill_target.ensures.both.reads_to (c.fill_target.ensures.both.reads target.idle) (λ apart. ((c.fill_target.ensures.unlike apart).1, (c.fill_target.ensures.unlike apart).2)),
      changes_filled P Q c.args.from.now c.fill_target.new.from c.args.to.now c.open_target.new.to c.fill_target.new.to c.args.source.now c.in_ok-target.target.session c.in_ok-target.target.is_new target.idle.mapped
          (λ told. root_there _ _ _ c.requires.ready.0.is_open (c.requires.ready.0.mounted told).cell)
          (λ told. on_as (Q.history c.args.to.now).present c.blocks-blocks.result c.args.source.now.root.blocks c.root.result.now.order c.args.source.now.root.order c.in_ok-target.target.is_new c.in_ok-target.target.session c.blocks-blocks.ensures (ap (λ (r : Root). r.order) c.root.ensures) (target.on told))
          c.open_target.ensures.changes (c.fill_target.ensures.both.from no_draw).changes c.fill_target.ensures.both.changes c.fill_target.ensures.both.unchanged (λ apart. ((c.fill_target.ensures.unlike apart).1, (c.fill_target.ensures.unlike apart).2)),
    )
