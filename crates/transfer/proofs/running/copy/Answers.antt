use Rattle.session_calls.proofs.CarryLaws.{carries_along, carries_end, carries_then}
use Rattle.std.proofs.Common.{◌≡◌, ◌-◌, ◌*◌, ℕ, List, Some, Err, ap, subst, length, arith}
use Rattle.std.specs.FinMap as maps
use Rattle.sdbt_base.proofs.RiseLaws.{counted_not}
use Rattle.sdbt_base.specs.Arrays.{Session as OpenSession, mounted, session_on}
use Rattle.device_session.specs.Open.{needed_by}
use Rattle.device_session.proofs.CountLaws.{needs_none}
use Rattle.device_course.specs.States.{IsAt}
use Rattle.device_course.proofs.MadeLaws.{made_kept}
use Rattle.transfer.specs.Copies.{copied}
use Rattle.transfer.specs.Moving.{IsShort}
use Rattle.transfer.proofs.FillLaws.{reaches_blank, reaches_committed, reaches_since, short_not_copy}
use Rattle.transfer.proofs.ChangesLaws.{changed_behind}
use Rattle.transfer.proofs.BlameLaws.{blames_as, blames_then}
use Rattle.transfer.proofs.HaltLaws.{behind_commit_all, halted, meets_commit_all, meets_there}
use Rattle.transfer.proofs.NoneLaws.{unwritten_there}
use Rattle.transfer.proofs.RefusalLaws.{commit_at_all, copy_at, copy_behind}
use Rattle.transfer.proofs.running.copy.Goals as goal
use Rattle.transfer.proofs.WholeLaws.{whatever, within_then}

pub returns-in_err-copy_blocks-clause-both : goal.returns-in_err-copy_blocks-clause-both
returns-in_err-copy_blocks-clause-both g c = rw (halted c.from_residual.result c.in_err-copy_blocks.field-0.0 c.from_residual.ensures.1) (record {
  few = 21 * length c.args.blocks.now;
  most = 40 * length c.args.blocks.now;
  reads = (omega arith, omega arith);
  from = λ any. c.copy_blocks.ensures.from any;
  reads_to = c.copy_blocks.ensures.to.reads;
  changes = λ told. counted_not 2 _ _ (c.copy_blocks.ensures.to.changes told);
  unchanged = λ told never. absurd never;
  number = λ told. tt;
  to = carries_end _ _ _ _ _ _ _ (λ going. tt)
      (carries_along g.Q.Platform g.T.Tape g.L.Sink (length c.args.blocks.now) (40 * length c.args.blocks.now) c.args.to.now c.copy_blocks.new.to c.args.tape.now c.copy_blocks.new.tape c.args.ledger.now _ _ c.requires.target c.copy_blocks.ensures.to);
  blame = λ output. blames_as _ _ c.in_err-copy_blocks.field-0.0 (c.in_err-copy_blocks.ensures.blame output (g.L.Sink.faults c.args.ledger.now));
  wrong = meets_there _ _ ⊥ ⊥ (Unit {0}) _ _ _ c.in_err-copy_blocks.field-0.0
      (λ told addr.
      (let Q = g.Q.Platform in
      unwritten_there (Q.history c.args.to.now) (Q.history c.copy_blocks.new.to) c.args.first (Q.head c.args.to.now) addr c.requires.target.is_open (g.met.Q.Platform.counts_pages told c.args.to.now) (c.requires.target.mounted told).cell (c.copy_blocks.ensures.to.cell told)))
      c.in_err-copy_blocks.ensures.wrong;
  behind = copy_behind c.in_err-copy_blocks.field-0.0 c.in_err-copy_blocks.ensures.behind;
})

pub returns-clause-both : goal.returns-clause-both
returns-clause-both g c = record {
  few = 21 * length c.args.blocks.now;
  most = 40 * length c.args.blocks.now;
  reads = (omega arith, omega arith);
  from = λ any. c.copy_blocks.ensures.from any;
  reads_to = λ told. let less = c.copy_blocks.ensures.to.reads told in
      let same = (c.commit_target.ensures.unread told).0 in
      omega (arith, less, same);
  changes = λ told. changed_behind 2 _ _ _ (c.copy_blocks.ensures.to.changes told) (c.commit_target.ensures.unread told).1;
  unchanged = λ told never. absurd never;
  number = c.commit_target.ensures.number;
  to = carries_then _ _ _ _ c.args.first c.copy_blocks.new.target _ _ _ tt
      (carries_along g.Q.Platform g.T.Tape g.L.Sink (length c.args.blocks.now) (40 * length c.args.blocks.now) c.args.to.now c.copy_blocks.new.to c.args.tape.now c.copy_blocks.new.tape c.args.ledger.now _ _ c.requires.target c.copy_blocks.ensures.to)
      c.commit_target.ensures.carries;
  blame = λ output. blames_then _ _ _ _ (c.in_ok-copy_blocks.ensures.blame output (g.L.Sink.faults c.args.ledger.now)).quiet (c.commit_target.ensures.blame (g.P.Platform.faults c.copy_blocks.new.from) output);
  wrong = meets_commit_all _ _ _ _ _ _ c.commit_target.result c.commit_target.ensures.wrong;
  behind = behind_commit_all c.commit_target.result c.commit_target.ensures.wrong;
}

pub commit_target-requires : goal.commit_target-requires
commit_target-requires g c = record { target = record { is_open = c.copy_blocks.ensures.to.is_open; mounted = λ told. c.copy_blocks.ensures.to.mounted told (c.requires.target.mounted told) } }

pub returns-in_err-copy_blocks-clause-leads : goal.returns-in_err-copy_blocks-clause-leads
returns-in_err-copy_blocks-clause-leads g c from_told to_told device there at at_there keys blank =
    rw (halted c.from_residual.result c.in_err-copy_blocks.field-0.0 c.from_residual.ensures.1) (reaches_blank (g.Q.Platform.history c.args.to.now) (g.Q.Platform.history c.copy_blocks.new.to) device there _ c.in_err-copy_blocks.field-0.0 (λ is.
    let full = c.in_err-copy_blocks.ensures.full (ap Err is) in
    let along = c.copy_blocks.ensures.to in
    let many : length c.args.blocks.now ≡ length (maps.keys device.contents) = ap length keys in
    let short : IsShort device 0 (g.Q.Platform.capacity c.args.to.now - g.Q.Platform.head c.args.to.now) = omega (arith, full.0, full.1, along.adds, along.capacity, many) in
    (short, short_not_copy device there _ blank short))
    blank (c.in_err-copy_blocks.ensures.leads from_told to_told device there (session_on device) (session_on there) at at_there)
    (made_kept (g.Q.Platform.history c.args.to.now) (g.Q.Platform.history c.copy_blocks.new.to) there at_there.there.device at_there.served (c.copy_blocks.ensures.to.cell to_told)))

pub returns-clause-leads : goal.returns-clause-leads
returns-clause-leads g c from_told to_told device there at at_there keys blank =
    let led = c.in_ok-copy_blocks.ensures.leads from_told to_told device there (session_on device) (session_on there) at at_there in
    let array : List ℕ → OpenSession = λ bs. copied device.contents bs (session_on there) in
    let here = subst (λ (bs : List ℕ). IsAt (g.Q.Platform.history c.copy_blocks.new.to).present (Some c.copy_blocks.new.target) (mounted there (array bs))) keys led.1 in
    let along = c.copy_blocks.ensures.to in
    let none : needed_by c.args.first ≡ 0 = needs_none c.args.first (g.Q.Platform.head c.args.to.now) c.requires.target.is_open at_there.there.session.1 in
    let many : length c.args.blocks.now ≡ length (maps.keys device.contents) = ap length keys in
    reaches_since (g.Q.Platform.history c.args.to.now) (g.Q.Platform.history c.copy_blocks.new.to) (g.Q.Platform.history c.commit_target.new.to) device there _ _ c.commit_target.result (λ short. short)
    (made_kept (g.Q.Platform.history c.args.to.now) (g.Q.Platform.history c.copy_blocks.new.to) there at_there.there.device at_there.served (c.copy_blocks.ensures.to.cell to_told))
    (reaches_committed (g.Q.Platform.history c.copy_blocks.new.to) (g.Q.Platform.history c.commit_target.new.to) device there _ c.commit_target.result (λ is.
    let full = c.commit_target.ensures.full is in
    let short : IsShort device 0 (g.Q.Platform.capacity c.args.to.now - g.Q.Platform.head c.args.to.now) = omega (arith, full, along.needs, along.adds, along.rises, along.capacity, none, many) in
    (short, short_not_copy device there _ blank short))
    blank
    (c.commit_target.ensures.leads to_told there (array (maps.keys device.contents)) here))

pub copy_blocks-requires : goal.copy_blocks-requires
copy_blocks-requires g c = record { source = c.requires.source; target = record { is_open = c.requires.target.is_open; mounted = c.requires.target.mounted }; within = c.requires.within; alike = c.requires.alike }

pub returns-in_err-copy_blocks-clause-refused : goal.returns-in_err-copy_blocks-clause-refused
returns-in_err-copy_blocks-clause-refused g c none =
    rw (halted c.from_residual.result c.in_err-copy_blocks.field-0.0 c.from_residual.ensures.1) (copy_at ⊥ (length c.args.blocks.now) _ c.in_err-copy_blocks.field-0.0 c.in_err-copy_blocks.ensures.behind (λ is.
    let full = c.in_err-copy_blocks.ensures.full (ap Err is) in
    let along = c.copy_blocks.ensures.to in
    omega (arith, full.0, full.1, along.adds, along.capacity)))

pub returns-clause-refused : goal.returns-clause-refused
returns-clause-refused g c none =
    let along = c.copy_blocks.ensures.to in
    commit_at_all ⊥ (length c.args.blocks.now) _ c.commit_target.result c.commit_target.ensures.wrong (λ is.
    let full = c.commit_target.ensures.full is in
    omega (arith, full, along.needs, along.adds, along.rises, along.capacity, none))

pub returns-in_err-copy_blocks-clause-copied : goal.returns-in_err-copy_blocks-clause-copied
returns-in_err-copy_blocks-clause-copied g c = rw (halted c.from_residual.result c.in_err-copy_blocks.field-0.0 c.from_residual.ensures.1) tt

pub returns-clause-copied : goal.returns-clause-copied
returns-clause-copied g c =
    let Q = g.Q.Platform in
    let first = Q.history c.args.to.now in
    let mid = Q.history c.copy_blocks.new.to in
    let last = Q.history c.commit_target.new.to in
    whatever _ c.commit_target.result (record {
      image = mid.present;
      within = λ told. within_then first mid last (c.copy_blocks.ensures.to.cell told).extends (c.commit_target.ensures.carries.keeps.keys.extends told);
      session = c.copy_blocks.new.target;
      mounted = λ told. c.copy_blocks.ensures.to.mounted told (c.requires.target.mounted told);
      copies = c.in_ok-copy_blocks.ensures.copies.1;
    })
