use Rattle.std.proofs.Common.{◌≡◌, ◌≢◌, ◌≤◌, ◌+◌, ◌*◌, ℕ, [], ◌∷◌, inl, inr, refl, sym, subst, ◌∙◌, arith}
use Rattle.std.proofs.lemmas.Bool.{false≢true}
use Rattle.device_session.specs.Open.{blocks_of}
use Rattle.session_calls.specs.Along.{drawn_by}
use Rattle.session_calls.specs.Damage.{IsMounted}
use Rattle.volume_lines.specs.Lines.{Create}
use Rattle.volume_terms.specs.Volumes.{IsCount, changed}
use Rattle.volume_terms.proofs.TableLaws.{placed_has}
use Rattle.session_calls.proofs.CallLaws.{calls_done, calls_none, calls_stopped}
use Rattle.volume_desk.proofs.DoneLaws.{keeps_all}
use Rattle.volume_desk.specs.Causes.{IsNearBound, MeetsNode}
use Rattle.volume_desk.proofs.CauseLaws.{call_may}
use Rattle.volume_desk.proofs.DeskLaws.{changed_none, held_changed, is_new, no_room, out_of_range}
use Rattle.volume_desk.proofs.DrawingLaws.{seals_none}
use Rattle.volume_desk.proofs.TurnLaws.{blocks_held}
use Rattle.volume_desk.proofs.creating.create.Goals as goal

pub returns-then-has_volume-clause-calls : goal.returns-then-has_volume-clause-calls
returns-then-has_volume-clause-calls g c buffer = calls_none g.P.Platform _ _ _ (drawn_by g.T.Tape c.args.tape.now) _ _ c.requires.open

pub returns-then-has_volume-clause-turns : goal.returns-then-has_volume-clause-turns
returns-then-has_volume-clause-turns g c told entry buffer held =
    let v = c.has_volume.ensures.there c.if-has_volume.true in changed_none _ _ _ _ entry _ _ held (v.0, v.1, refl)

pub returns-in_default-clause-calls : goal.returns-in_default-clause-calls
returns-in_default-clause-calls g c buffer = calls_none g.P.Platform _ _ _ (drawn_by g.T.Tape c.args.tape.now) _ _ c.requires.open

pub returns-then-not-is_count-clause-calls : goal.returns-then-not-is_count-clause-calls
returns-then-not-is_count-clause-calls g c buffer = calls_none g.P.Platform _ _ _ (drawn_by g.T.Tape c.args.tape.now) _ _ c.requires.open

pub returns-then-not-is_count-clause-turns : goal.returns-then-not-is_count-clause-turns
returns-then-not-is_count-clause-turns g c told entry buffer held =
    let blocks = c.blocks-2.ensures ∙ blocks_held _ _ _ _ _ held in
    changed_none _ _ _ _ entry _ _ held (c.if-has_volume.ensures.lacks refl, out_of_range entry.device.blocks c.args.count (λ fits. absurd (false≢true (c.if-not-is_count.ensures.1 (subst (λ (b : ℕ). IsCount b c.args.count) (sym blocks) fits)))), refl)

pub returns-in_default-clause-turns : goal.returns-in_default-clause-turns
returns-in_default-clause-turns g c told entry buffer held =
    let there = blocks_held _ _ _ _ _ held in
    let fits = subst (λ (b : ℕ). IsCount b c.args.count) (c.blocks-2.ensures ∙ there) (c.if-not-is_count.ensures.0 refl) in
    changed_none _ _ _ _ entry _ _ held (
      c.if-has_volume.ensures.lacks refl,
      fits,
      no_room entry.device.blocks c.blocks-3.result c.args.count c.args.table.now c.duplicate-next.result (c.blocks-3.ensures ∙ there) c.duplicate-next.ensures c.in_default.ensures.none,
      refl,
    )

pub returns-then-head-capacity-clause-calls : goal.returns-then-head-capacity-clause-calls
returns-then-head-capacity-clause-calls g c buffer = calls_none g.P.Platform _ _ _ (drawn_by g.T.Tape c.args.tape.now) _ _ c.requires.open

pub returns-then-head-capacity-clause-turns : goal.returns-then-head-capacity-clause-turns
returns-then-head-capacity-clause-turns g c told entry buffer held =
    let there = blocks_held _ _ _ _ _ held in
    let fits = subst (λ (b : ℕ). IsCount b c.args.count) (c.blocks-2.ensures ∙ there) (c.if-not-is_count.ensures.0 refl) in
    let placed = c.in-Some.ensures.placed in
    let new = is_new entry.device.blocks c.blocks-3.result c.args.count c.args.table.now c.duplicate-next.result c.put.new.self c.args.name.now c.in-Some.volume (c.blocks-3.ensures ∙ there) c.duplicate-next.ensures placed.0 placed.1 placed.2
    c.in-Some.ensures.inserted c.in-Some.ensures.table in
    let full : entry.pages ≡ g.P.Platform.capacity c.args.platform.now = omega (arith, held.pages, c.if-head-capacity.true, c.head.ensures, c.capacity.ensures) in
    changed_none _ _ _ _ entry _ _ held (c.if-has_volume.ensures.lacks refl, fits, c.in-Some.volume, c.put.new.self, new, full, refl)

pub returns-in-Ok-clause-calls : goal.returns-in-Ok-clause-calls
returns-in-Ok-clause-calls g c buffer =
    let fits = subst (λ (b : ℕ). IsCount b c.args.count) c.blocks-2.ensures (c.if-not-is_count.ensures.0 refl) in
    let count : c.in-Some.volume.count ≡ c.args.count = c.in-Some.ensures.placed.1 in
    calls_done g.P.Platform (1 + c.in-Some.volume.count) (1 + blocks_of c.args.session.now) (40 + 40 * c.in-Some.volume.count) (40 + 40 * c.args.count) _ _ _ _ _ _ tt _ (omega (arith, fits.most, count)) (omega (arith, count)) c.in-Ok.ensures.calls

pub returns-in-Err-clause-calls : goal.returns-in-Err-clause-calls
returns-in-Err-clause-calls g c buffer =
    let fits = subst (λ (b : ℕ). IsCount b c.args.count) c.blocks-2.ensures (c.if-not-is_count.ensures.0 refl) in
    let count : c.in-Some.volume.count ≡ c.args.count = c.in-Some.ensures.placed.1 in
    calls_stopped g.P.Platform (1 + c.in-Some.volume.count) (1 + blocks_of c.args.session.now) (40 + 40 * c.in-Some.volume.count) (40 + 40 * c.args.count) _ _ _ _ _ _ c.in-Err.stop (omega (arith, fits.most, count)) (omega (arith, count)) c.in-Err.ensures.calls

pub returns-in-Ok-clause-turns : goal.returns-in-Ok-clause-turns
returns-in-Ok-clause-turns g c told entry buffer held =
    let there = blocks_held _ _ _ _ _ held in
    let fits = subst (λ (b : ℕ). IsCount b c.args.count) (c.blocks-2.ensures ∙ there) (c.if-not-is_count.ensures.0 refl) in
    let placed = c.in-Some.ensures.placed in
    let new = is_new entry.device.blocks c.blocks-3.result c.args.count c.args.table.now c.duplicate-next.result c.put.new.self c.args.name.now c.in-Some.volume (c.blocks-3.ensures ∙ there) c.duplicate-next.ensures placed.0 placed.1 placed.2
    c.in-Some.ensures.inserted c.in-Some.ensures.table in
    let free : entry.pages ≢ g.P.Platform.capacity c.args.platform.now = λ full. omega (arith, held.pages, full, c.if-head-capacity.false, c.head.ensures, c.capacity.ensures) in
    let led = c.in-Ok.ensures.leads told entry.device entry.session held.at in
    record {
      next = changed entry c.put.new.self c.in-Some.volume;
      held = held_changed _ _ _ _ _ _ c.args.table.now c.put.new.self entry c.in-Some.volume held led c.in-Ok.ensures.head c.in-Ok.ensures.calls.along.needs new.is new.start.fits.least;
      does = (c.if-has_volume.ensures.lacks refl, fits, c.in-Some.volume, c.put.new.self, new, free, refl);
      same = refl;
    }

pub returns-in-Err-clause-turns : goal.returns-in-Err-clause-turns
returns-in-Err-clause-turns g c told entry buffer held = (
  c.in-Err.ensures.leads told entry.device entry.session held.at,
  λ full. omega (arith, held.pages, full, c.if-head-capacity.false, c.head.ensures, c.capacity.ensures),
)

pub returns-then-has_volume-clause-any : goal.returns-then-has_volume-clause-any
returns-then-has_volume-clause-any g c buffer = (inl (c.has_volume.ensures.there c.if-has_volume.true, refl), λ known. keeps_all (g.P.Platform.history c.args.platform.now).present c.args.session.now)

pub returns-then-not-is_count-clause-any : goal.returns-then-not-is_count-clause-any
returns-then-not-is_count-clause-any g c buffer =
    let out = out_of_range (blocks_of c.args.session.now) c.args.count (λ fits. absurd (false≢true (c.if-not-is_count.ensures.1 (subst (λ (b : ℕ). IsCount b c.args.count) (sym c.blocks-2.ensures) fits)))) in
    (inl ((c.if-has_volume.ensures.lacks refl, out), refl), λ known. keeps_all (g.P.Platform.history c.args.platform.now).present c.args.session.now)

pub returns-in_default-clause-any : goal.returns-in_default-clause-any
returns-in_default-clause-any g c buffer =
    let fits = subst (λ (b : ℕ). IsCount b c.args.count) c.blocks-2.ensures (c.if-not-is_count.ensures.0 refl) in
    let none = no_room (blocks_of c.args.session.now) c.blocks-3.result c.args.count c.args.table.now c.duplicate-next.result c.blocks-3.ensures c.duplicate-next.ensures c.in_default.ensures.none in
    (inl ((c.if-has_volume.ensures.lacks refl, fits, none), refl), λ known. keeps_all (g.P.Platform.history c.args.platform.now).present c.args.session.now)

pub returns-then-head-capacity-clause-any : goal.returns-then-head-capacity-clause-any
returns-then-head-capacity-clause-any g c buffer =
    let fits = subst (λ (b : ℕ). IsCount b c.args.count) c.blocks-2.ensures (c.if-not-is_count.ensures.0 refl) in
    let placed = c.in-Some.ensures.placed in
    let new = is_new (blocks_of c.args.session.now) c.blocks-3.result c.args.count c.args.table.now c.duplicate-next.result c.put.new.self c.args.name.now c.in-Some.volume c.blocks-3.ensures c.duplicate-next.ensures placed.0 placed.1 placed.2
    c.in-Some.ensures.inserted c.in-Some.ensures.table in
    let full : g.P.Platform.capacity c.args.platform.now ≤ g.P.Platform.head c.args.platform.now = omega (arith, c.if-head-capacity.true, c.head.ensures, c.capacity.ensures) in
    (inr (c.put.new.self, (c.if-has_volume.ensures.lacks refl, fits, c.in-Some.volume, new), inr (full, refl, refl)), λ known. keeps_all (g.P.Platform.history c.args.platform.now).present c.args.session.now)

pub returns-in-Ok-clause-any : goal.returns-in-Ok-clause-any
returns-in-Ok-clause-any g c buffer =
    let fits = subst (λ (b : ℕ). IsCount b c.args.count) c.blocks-2.ensures (c.if-not-is_count.ensures.0 refl) in
    let placed = c.in-Some.ensures.placed in
    let new = is_new (blocks_of c.args.session.now) c.blocks-3.result c.args.count c.args.table.now c.duplicate-next.result c.put.new.self c.args.name.now c.in-Some.volume c.blocks-3.ensures c.duplicate-next.ensures placed.0 placed.1 placed.2
    c.in-Some.ensures.inserted c.in-Some.ensures.table in (
      inr (c.put.new.self, (c.if-has_volume.ensures.lacks refl, fits, c.in-Some.volume, new), inl (tt, refl)),
      λ known. (c.in-Some.volume, (placed_has c.duplicate-next.result c.in-Some.volume c.put.new.self c.in-Some.ensures.inserted, placed.0), c.in-Ok.ensures.left known.0 known.1),
    )

pub returns-in-Err-clause-any : goal.returns-in-Err-clause-any
returns-in-Err-clause-any g c buffer =
    let fits = subst (λ (b : ℕ). IsCount b c.args.count) c.blocks-2.ensures (c.if-not-is_count.ensures.0 refl) in
    let placed = c.in-Some.ensures.placed in
    let new = is_new (blocks_of c.args.session.now) c.blocks-3.result c.args.count c.args.table.now c.duplicate-next.result c.put.new.self c.args.name.now c.in-Some.volume c.blocks-3.ensures c.duplicate-next.ensures placed.0 placed.1 placed.2
    c.in-Some.ensures.inserted c.in-Some.ensures.table in
    let may = call_may (g.P.Platform.tells × IsMounted (g.P.Platform.history c.args.platform.now).present c.args.session.now) _ c.args.session.now c.args.table.now (Create c.args.name.now c.args.count) c.in-Err.stop tt tt (λ addr met. met) c.in-Err.ensures.calls.stops
    (λ known. subst (λ (n : ℕ). MeetsNode (IsNearBound c.args.session.now n) (g.P.Platform.history c.change.new.platform).present c.in-Err.stop) placed.1 (c.in-Err.ensures.damage known.0 known.1)) in
    (may, (c.put.new.self, (c.if-has_volume.ensures.lacks refl, fits, c.in-Some.volume, new)))

pub returns-then-has_volume-clause-drew : goal.returns-then-has_volume-clause-drew
returns-then-has_volume-clause-drew g c buffer = ([], refl, seals_none (g.T.Tape.drawn c.args.tape.now) (g.P.Platform.head c.args.platform.now) (g.P.Platform.head c.args.platform.now) refl)

pub returns-then-not-is_count-clause-drew : goal.returns-then-not-is_count-clause-drew
returns-then-not-is_count-clause-drew g c buffer = ([], refl, seals_none (g.T.Tape.drawn c.args.tape.now) (g.P.Platform.head c.args.platform.now) (g.P.Platform.head c.args.platform.now) refl)

pub returns-in_default-clause-drew : goal.returns-in_default-clause-drew
returns-in_default-clause-drew g c buffer = ([], refl, seals_none (g.T.Tape.drawn c.args.tape.now) (g.P.Platform.head c.args.platform.now) (g.P.Platform.head c.args.platform.now) refl)

pub returns-then-head-capacity-clause-drew : goal.returns-then-head-capacity-clause-drew
returns-then-head-capacity-clause-drew g c buffer = ([], refl, seals_none (g.T.Tape.drawn c.args.tape.now) (g.P.Platform.head c.args.platform.now) (g.P.Platform.head c.args.platform.now) refl)

pub returns-in-Ok-clause-drew : goal.returns-in-Ok-clause-drew
returns-in-Ok-clause-drew g c buffer = let one = c.in-Ok.ensures.drew in (one.0 ∷ [], refl, one.1)
