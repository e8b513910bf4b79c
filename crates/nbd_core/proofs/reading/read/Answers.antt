use Rattle.std.proofs.Common.{◌≡◌, ◌≤◌, ◌+◌, ◌∙◌, ℕ, List, ap, arith, length, length-take, refl, sym, take}
use Rattle.byte_arrays.specs.Arrays.{bytes_at}
use Rattle.nbd_terms.specs.Bytes.{array_of}
use Rattle.nbd_lang.specs.declared.requests.RequestKind.TheVariants.{Read}
use Rattle.session_calls.proofs.AlongLaws.{along_start}
use Rattle.session_calls.proofs.CallLaws.{along_more, draws_none, no_draw, platform_quiet}
use Rattle.nbd_core.proofs.BlameLaws.{blame_done, blame_platform, platform_halts, stop_comes, stop_lacks}
use Rattle.nbd_core.proofs.DamageLaws.{stop_after}
use Rattle.nbd_core.proofs.FoundLaws.{bytes_as, same_start}
use Rattle.nbd_core.specs.Reads.{reads_at}
use Rattle.nbd_core.proofs.TurnLaws.{held_still, read_halted, read_room}
use Rattle.nbd_core.proofs.reading.read.Goals as goal

pub returns-then-not-has_room-clause-along : goal.returns-then-not-has_room-clause-along
returns-then-not-has_room-clause-along g c drawn = along_more g.P.Platform 0 0 0 _ _ _ drawn drawn _ _ (omega arith) (omega arith) (along_start g.P.Platform _ drawn _ c.requires.open)

pub returns-in-Ok-clause-along : goal.returns-in-Ok-clause-along
returns-in-Ok-clause-along g c drawn =
    let size : length c.read_range.new.out ≡ c.args.request.now.length = omega (arith, c.in-Ok.ensures.size) in
    let same = ap (λ (n : ℕ). reads_at Read c.args.request.now.offset n) (sym c.in-Ok.ensures.size ∙ size) in
    along_more g.P.Platform 0 0 _ _ _ _ drawn drawn _ _ (omega arith) (omega (arith, same)) (c.in-Ok.ensures.calls drawn).along

pub returns-in-Err-clause-along : goal.returns-in-Err-clause-along
returns-in-Err-clause-along g c drawn =
    let size : length c.read_range.new.out ≡ c.args.request.now.length = omega (arith, c.in-Err.ensures.size) in
    let same = ap (λ (n : ℕ). reads_at Read c.args.request.now.offset n) (sym c.in-Err.ensures.size ∙ size) in
    along_more g.P.Platform 0 0 _ _ _ _ drawn drawn _ _ (omega arith) (omega (arith, same)) (c.in-Err.ensures.calls drawn).along

pub returns-then-not-has_room-clause-blame : goal.returns-then-not-has_room-clause-blame
returns-then-not-has_room-clause-blame g c rest = blame_done _ _ _ refl

pub returns-in-Ok-clause-blame : goal.returns-in-Ok-clause-blame
returns-in-Ok-clause-blame g c rest = blame_done _ _ _ (ap (λ (n : ℕ). record rest { platform = n }) (platform_quiet _ _ (c.in-Ok.ensures.calls no_draw).quiet))

pub returns-in-Err-clause-blame : goal.returns-in-Err-clause-blame
returns-in-Err-clause-blame g c rest =
    let calls = c.in-Err.ensures.calls (draws_none rest.tape) in
    blame_platform rest _ _ c.in-Err.stop _ calls.along.fell.platform calls.stops calls.cause c.after_stop.ensures

pub returns-in-Err-clause-halts : goal.returns-in-Err-clause-halts
returns-in-Err-clause-halts g c =
    let calls = c.in-Err.ensures.calls no_draw in
    platform_halts _ _ c.in-Err.stop _ calls.stops calls.cause c.after_stop.ensures

pub after_stop-requires : goal.after_stop-requires
after_stop-requires g c = (c.in-Err.ensures.calls no_draw).stops

pub returns-then-not-has_room-clause-leads : goal.returns-then-not-has_room-clause-leads
returns-then-not-has_room-clause-leads g c told entry held = (entry, held, refl, (refl, refl))

pub returns-in-Ok-clause-leads : goal.returns-in-Ok-clause-leads
returns-in-Ok-clause-leads g c told entry held =
    let led = c.in-Ok.ensures.reads told entry.device entry.session held.at in
    let calls = (c.in-Ok.ensures.calls no_draw).along in
    let n : ℕ = c.args.request.now.length in
    let room : List ℕ = c.deref_mut.result.now in
    let long : 16 + n ≤ length room = omega (arith, c.if-not-has_room.ensures.there refl, ap length c.deref_mut.ensures.value) in
    let out : List ℕ = c.read_range.new.out in
    let size : length out ≡ n = omega (arith, c.in-Ok.ensures.size) in (
      entry,
      held_still _ _ _ _ _ _ entry held led.0 (omega (arith, calls.rises, calls.adds)) (omega (arith, calls.needs)),
      refl,
      (read_room n _ (take 16 room) out _ _ (omega (arith, length-take 16 room, long)) size (omega (arith, long, c.deref_mut.ensures.len)) ∙ led.1 ∙ ap (bytes_at (array_of entry.session) c.args.request.now.offset) size, refl),
    )

pub returns-in-Err-clause-leads : goal.returns-in-Err-clause-leads
returns-in-Err-clause-leads g c told entry held = read_halted _ _ _ entry.device entry.session c.args.request.now.offset c.read_range.new.out c.in-Err.stop _ (c.in-Err.ensures.reads told entry.device entry.session held.at) c.after_stop.ensures

pub returns-then-not-has_room-clause-damage : goal.returns-then-not-has_room-clause-damage
returns-then-not-has_room-clause-damage g c told mounted = (same_start _ _, tt)

pub returns-in-Ok-clause-damage : goal.returns-in-Ok-clause-damage
returns-in-Ok-clause-damage g c told mounted =
    let n : ℕ = c.args.request.now.length in
    let room : List ℕ = c.deref_mut.result.now in
    let long : 16 + n ≤ length room = omega (arith, c.if-not-has_room.ensures.there refl, ap length c.deref_mut.ensures.value) in
    let out : List ℕ = c.read_range.new.out in
    let size : length out ≡ n = omega (arith, c.in-Ok.ensures.size) in
    let read = c.in-Ok.ensures.damage told mounted in
    (read.same, bytes_as _ _ c.args.request.now.offset _ out (read_room n _ (take 16 room) out _ _ (omega (arith, length-take 16 room, long)) size (omega (arith, long, c.deref_mut.ensures.len))) read.found)

pub returns-in-Err-clause-damage : goal.returns-in-Err-clause-damage
returns-in-Err-clause-damage g c told mounted =
    let read = c.in-Err.ensures.damage told mounted in
    (read.same, stop_after _ _ _ _ _ c.in-Err.stop _ (λ has. tt) (λ has addr met. (addr, met)) read.met c.after_stop.ensures)

pub returns-in-Err-clause-comes : goal.returns-in-Err-clause-comes
returns-in-Err-clause-comes g c = stop_comes Read c.in-Err.stop _ tt c.after_stop.ensures

pub returns-in-Err-clause-lacks : goal.returns-in-Err-clause-lacks
returns-in-Err-clause-lacks g c = stop_lacks _ c.in-Err.stop _ c.in-Err.ensures.memory c.after_stop.ensures
