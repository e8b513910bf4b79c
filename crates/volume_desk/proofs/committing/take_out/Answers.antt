use Rattle.std.proofs.Common.{◌≡◌, ◌≢◌, ◌≤◌, ◌+◌, ◌*◌, [], inl, inr, refl, arith}
use Rattle.std.specs.List.{remove}
use Rattle.std.proofs.lemmas.Option.{slice_get_within}
use Rattle.device_session.specs.Open.{blocks_of}
use Rattle.session_calls.specs.Along.{drawn_by}
use Rattle.session_calls.specs.Damage.{IsMounted}
use Rattle.volume_lines.specs.Lines.{Destroy}
use Rattle.volume_desk.proofs.DoneLaws.{keeps_all}
use Rattle.volume_desk.specs.Causes.{IsBounded, IsNearBound}
use Rattle.volume_desk.proofs.CauseLaws.{call_may, names_where}
use Rattle.volume_terms.proofs.TableLaws.{inside_of}
use Rattle.session_calls.proofs.CallLaws.{calls_done, calls_none, calls_stopped}
use Rattle.volume_desk.proofs.DeskLaws.{changed_none, held_changed, named_at}
use Rattle.volume_desk.proofs.DrawingLaws.{seals_none}
use Rattle.volume_desk.proofs.ReadLaws.{counts_volume}
use Rattle.volume_desk.specs.Reads.{count_of}
use Rattle.volume_desk.proofs.committing.take_out.Goals as goal

pub returns-in_default-clause-calls : goal.returns-in_default-clause-calls
returns-in_default-clause-calls g c = calls_none g.P.Platform _ _ _ (drawn_by g.T.Tape c.args.tape.now) _ _ c.requires.open

pub returns-in_default-clause-turns : goal.returns-in_default-clause-turns
returns-in_default-clause-turns g c told entry buffer held = changed_none _ _ _ _ entry _ _ held (c.in_default.ensures.none, refl)

pub returns-then-head-capacity-clause-calls : goal.returns-then-head-capacity-clause-calls
returns-then-head-capacity-clause-calls g c = calls_none g.P.Platform _ _ _ (drawn_by g.T.Tape c.args.tape.now) _ _ c.requires.open

pub returns-then-head-capacity-clause-turns : goal.returns-then-head-capacity-clause-turns
returns-then-head-capacity-clause-turns g c told entry buffer held =
    let found = c.in-Some.ensures.found in
    let full : entry.pages ≡ g.P.Platform.capacity c.args.platform.now = omega (arith, held.pages, c.if-head-capacity.true, c.head.ensures, c.capacity.ensures) in
    changed_none _ _ _ _ entry _ _ held (c.in-Some.volume, named_at c.args.table.now c.args.name.now c.in-Some.at c.in-Some.volume found.0 found.1, full, refl)

pub remove-requires : goal.remove-requires
remove-requires g c = slice_get_within c.args.table.now c.in-Some.at c.in-Some.volume c.in-Some.ensures.found.0

pub change-requires-clause-inside : goal.change-requires-clause-inside
change-requires-clause-inside g c =
    let found = c.in-Some.ensures.found in
    inside_of (blocks_of c.args.session.now) c.args.table.now c.in-Some.volume c.requires.table (named_at c.args.table.now c.args.name.now c.in-Some.at c.in-Some.volume found.0 found.1).0

pub returns-in-Ok-clause-calls : goal.returns-in-Ok-clause-calls
returns-in-Ok-clause-calls g c =
    let found = c.in-Some.ensures.found in
    let inside = inside_of (blocks_of c.args.session.now) c.args.table.now c.in-Some.volume c.requires.table (named_at c.args.table.now c.args.name.now c.in-Some.at c.in-Some.volume found.0 found.1).0 in
    let counted = counts_volume c.args.table.now c.args.name.now c.in-Some.at c.in-Some.volume found.0 found.1 in
    calls_done g.P.Platform (1 + c.in-Some.volume.count) (1 + blocks_of c.args.session.now) (40 + 40 * c.in-Some.volume.count) (40 + 40 * count_of c.args.table.now c.args.name.now) _ _ _ _ _ _ tt _
    (omega (arith, inside.within)) (omega (arith, counted)) c.in-Ok.ensures.calls

pub returns-in-Ok-clause-table : goal.returns-in-Ok-clause-table
returns-in-Ok-clause-table g c = c.remove.ensures.table (blocks_of c.args.session.now) c.requires.table

pub returns-in-Ok-clause-turns : goal.returns-in-Ok-clause-turns
returns-in-Ok-clause-turns g c told entry buffer held =
    let found = c.in-Some.ensures.found in
    let inside = inside_of entry.device.blocks c.args.table.now c.in-Some.volume held.tabled.is (named_at c.args.table.now c.args.name.now c.in-Some.at c.in-Some.volume found.0 found.1).0 in
    let free : entry.pages ≢ g.P.Platform.capacity c.args.platform.now = λ full. omega (arith, held.pages, full, c.if-head-capacity.false, c.head.ensures, c.capacity.ensures) in
    let led = c.in-Ok.ensures.leads told entry.device entry.session held.at in
    record {
      v = c.in-Some.volume;
      same = found.1;
      taken = (c.in-Some.at, found.0, c.remove.ensures.removed);
      free = free;
      held = held_changed _ _ _ _ _ _ c.args.table.now c.remove.new.self entry c.in-Some.volume held led c.in-Ok.ensures.head c.in-Ok.ensures.calls.along.needs (c.remove.ensures.table entry.device.blocks held.tabled.is) inside.start;
    }

pub returns-in-Err-clause-calls : goal.returns-in-Err-clause-calls
returns-in-Err-clause-calls g c =
    let found = c.in-Some.ensures.found in
    let inside = inside_of (blocks_of c.args.session.now) c.args.table.now c.in-Some.volume c.requires.table (named_at c.args.table.now c.args.name.now c.in-Some.at c.in-Some.volume found.0 found.1).0 in
    let counted = counts_volume c.args.table.now c.args.name.now c.in-Some.at c.in-Some.volume found.0 found.1 in
    calls_stopped g.P.Platform (1 + c.in-Some.volume.count) (1 + blocks_of c.args.session.now) (40 + 40 * c.in-Some.volume.count) (40 + 40 * count_of c.args.table.now c.args.name.now) _ _ _ _ _ _ c.in-Err.stop
    (omega (arith, inside.within)) (omega (arith, counted)) c.in-Err.ensures.calls

pub returns-in-Err-clause-table : goal.returns-in-Err-clause-table
returns-in-Err-clause-table g c = c.remove.ensures.table (blocks_of c.args.session.now) c.requires.table

pub returns-in-Err-clause-turns : goal.returns-in-Err-clause-turns
returns-in-Err-clause-turns g c told entry buffer held = (
  c.in-Err.ensures.leads told entry.device entry.session held.at,
  λ full. omega (arith, held.pages, full, c.if-head-capacity.false, c.head.ensures, c.capacity.ensures),
)

pub returns-in_default-clause-any : goal.returns-in_default-clause-any
returns-in_default-clause-any g c buffer = (inl (c.in_default.ensures.none, refl), λ known. keeps_all (g.P.Platform.history c.args.platform.now).present c.args.session.now)

pub returns-then-head-capacity-clause-any : goal.returns-then-head-capacity-clause-any
returns-then-head-capacity-clause-any g c buffer =
    let found = c.in-Some.ensures.found in
    let full : g.P.Platform.capacity c.args.platform.now ≤ g.P.Platform.head c.args.platform.now = omega (arith, c.if-head-capacity.true, c.head.ensures, c.capacity.ensures) in
    (inr (remove c.args.table.now c.in-Some.at, (c.in-Some.volume, found.1, (c.in-Some.at, found.0, refl)), inr (full, refl, refl)), λ known. keeps_all (g.P.Platform.history c.args.platform.now).present c.args.session.now)

pub returns-in-Ok-clause-any : goal.returns-in-Ok-clause-any
returns-in-Ok-clause-any g c buffer =
    let found = c.in-Some.ensures.found in (
      (c.in-Some.volume, found.1, (c.in-Some.at, found.0, c.remove.ensures.removed)),
      λ known. (c.in-Some.volume, named_at c.args.table.now c.args.name.now c.in-Some.at c.in-Some.volume found.0 found.1, c.in-Ok.ensures.left known.0 known.1),
    )

pub returns-in-Err-clause-any : goal.returns-in-Err-clause-any
returns-in-Err-clause-any g c buffer =
    let found = c.in-Some.ensures.found in
    let image = (g.P.Platform.history c.change.new.platform).present in
    let near : Type 0 = IsNearBound c.args.session.now c.in-Some.volume.count in
    let bounded : Type 0 = IsBounded c.args.session.now c.args.table.now (Destroy c.args.name.now) in
    let may = call_may (g.P.Platform.tells × IsMounted (g.P.Platform.history c.args.platform.now).present c.args.session.now) image c.args.session.now c.args.table.now (Destroy c.args.name.now) c.in-Err.stop tt tt (λ addr met. met) c.in-Err.ensures.calls.stops
    (λ known. names_where near bounded image c.in-Err.stop (λ bound. (c.in-Some.volume, named_at c.args.table.now c.args.name.now c.in-Some.at c.in-Some.volume found.0 found.1, bound)) (c.in-Err.ensures.damage known.0 known.1)) in
    (may, (c.remove.new.self, (c.in-Some.volume, found.1, (c.in-Some.at, found.0, c.remove.ensures.removed))))

pub returns-in_default-clause-drew : goal.returns-in_default-clause-drew
returns-in_default-clause-drew g c buffer = ([], refl, seals_none (g.T.Tape.drawn c.args.tape.now) (g.P.Platform.head c.args.platform.now) (g.P.Platform.head c.args.platform.now) refl)

pub returns-then-head-capacity-clause-drew : goal.returns-then-head-capacity-clause-drew
returns-then-head-capacity-clause-drew g c buffer = ([], refl, seals_none (g.T.Tape.drawn c.args.tape.now) (g.P.Platform.head c.args.platform.now) (g.P.Platform.head c.args.platform.now) refl)

pub returns-in-Ok-clause-drew : goal.returns-in-Ok-clause-drew
returns-in-Ok-clause-drew g c buffer = c.in-Ok.ensures.drew
