use Rattle.std.proofs.Common.{Err, ◌≡◌, ◌+◌, ◌*◌, ◌<◌, ◌≤◌, inl, inr, ℕ, List, length, subst, sym, ◌∙◌, arith}
use Rattle.sdbt_base.specs.Arrays.{written}
use Rattle.byte_arrays.specs.Ranges.{blocks_from}
use Rattle.device_course.specs.Held.{trim_all}
use Rattle.session_calls.specs.Along.{drawn_by}
use Rattle.volume_table.specs.Tables.{IsInside}
use Rattle.volume_desk.specs.Turns.{ChangesTo}
use Rattle.session_calls.proofs.CallLaws.{calls_stopped, calls_then, platform_quiet, tape_quiet}
use Rattle.device_session.specs.Damage.{IsAtLimit}
use Rattle.volume_desk.specs.Causes.{IsNearBound}
use Rattle.volume_desk.proofs.CauseLaws.{names_all, names_where, write_names}
use Rattle.volume_desk.proofs.DeskLaws.{ok_follows, on_ok, write_sound}
use Rattle.volume_desk.proofs.DoneLaws.{cleared}
use Rattle.volume_desk.proofs.DrawingLaws.{one_then}
use Rattle.volume_desk.proofs.ReadLaws.{along_block, calls_block}
use Rattle.volume_desk.proofs.changing.change.Goals as goal

pub returns-in-Ok-clause-calls : goal.returns-in-Ok-clause-calls
returns-in-Ok-clause-calls g c =
    let P = g.P.Platform in
    let one = c.in-Ok.ensures.goes in
    calls_then P 1 c.args.volume.now.count 40 (40 * c.args.volume.now.count) _ _ _ (drawn_by g.T.Tape c.args.tape.now) (drawn_by g.T.Tape c.write_block.new.tape) (drawn_by g.T.Tape c.write_block.new.tape) _ _ _ c.trim_range.result
    (along_block P 1 _ _ _ _ _ _ _ c.requires.open one.along) (platform_quiet _ _ one.quiet) (tape_quiet _ _ one.quiet) (c.trim_range.ensures.calls (drawn_by g.T.Tape c.write_block.new.tape))

pub returns-in-Ok-clause-head : goal.returns-in-Ok-clause-head
returns-in-Ok-clause-head g c = on_ok c.trim_range.result _ (c.trim_range.ensures.head ∙ c.in-Ok.ensures.adds.0)

pub returns-in-Ok-clause-drew : goal.returns-in-Ok-clause-drew
returns-in-Ok-clause-drew g c =
    let adds = c.in-Ok.ensures.adds in
    one_then (g.T.Tape.drawn c.args.tape.now) (g.T.Tape.drawn c.write_block.new.tape) (g.P.Platform.head c.args.platform.now) (g.P.Platform.head c.trim_range.new.platform) adds.1 c.trim_range.result adds.2 (c.trim_range.ensures.head ∙ adds.0)

pub returns-in-Ok-clause-leads : goal.returns-in-Ok-clause-leads
returns-in-Ok-clause-leads g c told device array at =
    subst (λ (bytes : List ℕ). ChangesTo (g.P.Platform.history c.trim_range.new.platform).present c.trim_range.new.session device (trim_all (written array 0 bytes) (blocks_from c.args.volume.now.start c.args.volume.now.count)) c.trim_range.result)
    c.encode.ensures (c.trim_range.ensures.leads told device _ (c.in-Ok.ensures.leads told device array at))

pub returns-in-Ok-clause-damage : goal.returns-in-Ok-clause-damage
returns-in-Ok-clause-damage g c told mounted =
    let put = c.in-Ok.ensures.written told mounted in
    let more : c.args.session.now.mapped ≤ c.write_block.new.session.mapped = elim put.counts [ inl still ↦ (let same = still.1 in omega (arith, same)) | inr one ↦ (let next = one.2 in omega (arith, next)) ] in
    names_all (c.write_block.new.session.mapped < c.args.volume.now.count) (IsNearBound c.args.session.now c.args.volume.now.count) (g.P.Platform.history c.trim_range.new.platform).present c.trim_range.result (λ less. inr (omega (arith, more, less)))
    (c.trim_range.ensures.damage told (c.in-Ok.ensures.goes.along.mounted told mounted))

pub returns-in-Err-clause-calls : goal.returns-in-Err-clause-calls
returns-in-Err-clause-calls g c =
    calls_stopped g.P.Platform 1 (1 + c.args.volume.now.count) 40 (40 + 40 * c.args.volume.now.count) _ _ (drawn_by g.T.Tape c.args.tape.now) (drawn_by g.T.Tape c.write_block.new.tape) _ _ c.in-Err.stop (omega arith) (omega arith)
    (calls_block g.P.Platform 1 _ _ _ _ _ _ (Err c.in-Err.stop) _ c.requires.open c.in-Err.ensures.goes)

pub returns-in-Err-clause-leads : goal.returns-in-Err-clause-leads
returns-in-Err-clause-leads g c told device array at = write_sound (g.P.Platform.history c.write_block.new.platform).present c.write_block.new.session device array 0 c.encode.new.out c.in-Err.stop (c.in-Err.ensures.leads told device array at)

pub returns-in-Err-clause-damage : goal.returns-in-Err-clause-damage
returns-in-Err-clause-damage g c told mounted =
    names_where (IsAtLimit c.args.session.now) (IsNearBound c.args.session.now c.args.volume.now.count) (g.P.Platform.history c.write_block.new.platform).present c.in-Err.stop inl
    (write_names _ (g.P.Platform.history c.args.platform.now).present (g.P.Platform.history c.write_block.new.platform).present c.args.session.now 0 c.in-Err.stop c.in-Err.ensures.any (told, mounted))

pub returns-in-Ok-clause-left : goal.returns-in-Ok-clause-left
returns-in-Ok-clause-left g c told mounted =
    let one = c.in-Ok.ensures.goes.along in
    let size : length c.encode.new.out ≡ 4096 = omega arith in
    ok_follows c.trim_range.result _ _
    (λ trims. cleared (g.P.Platform.history c.args.platform.now).present _ (g.P.Platform.history c.trim_range.new.platform).present c.args.session.now c.write_block.new.session c.trim_range.new.session c.args.volume.now c.args.table.now c.encode.new.out c.encode.ensures size one.blocks
    (subst (λ (n : ℕ). IsInside n c.args.volume.now) (sym one.blocks) c.requires.inside) (c.in-Ok.ensures.written told mounted) trims)
    (c.trim_range.ensures.gone told (one.mounted told mounted))
