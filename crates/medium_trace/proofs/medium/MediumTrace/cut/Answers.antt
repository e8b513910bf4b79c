use Rattle.std.proofs.Common.{◌≡◌, ◌∙◌, refl, ap, subst, arith}
use Rattle.std.specs.Prelude.{slice_index_or, slice_set}
use Rattle.std.proofs.lemmas.Grind.{common_steps}
use Rattle.std.proofs.lemmas.List.{take_all}
use Rattle.medium_trace.specs.Page.{zero_page}
use Rattle.medium_trace.specs.Trace.{Trace, Tears}
use Rattle.medium_trace.proofs.Torn.{Tears-none, Tears-more}
use Rattle.medium_trace.proofs.medium.MediumTrace.cut.Goals as goal

pub loop-addr-init : goal.loop-addr-init
loop-addr-init c = record { recorded = refl; readable = Tears-none c.args.self.now.readable; synced = refl }

pub tear-requires-clause-unsynced : goal.tear-requires-clause-unsynced
tear-requires-clause-unsynced c =
    rw c.loop-addr.invariant.synced (c.requires c.loop-addr.addr-index 0 c.loop-addr-test.true).0

pub tear-requires-clause-within : goal.tear-requires-clause-within
tear-requires-clause-within c =
    rw c.loop-addr.invariant.recorded (c.requires c.loop-addr.addr-index 0 c.loop-addr-test.true).1

pub loop-addr-preserved : goal.loop-addr-preserved
loop-addr-preserved c =
    let addr = slice_index_or c.args.torn.now c.loop-addr.addr-index 0 in
    let changed = c.tear.ensures.changed in
    let readable_is : c.tear.new.self.readable ≡ slice_set c.loop-addr.self.readable addr zero_page = ap (λ (trace : Trace). trace.readable) changed in
    let at : addr ≡ slice_index_or c.args.torn.now c.loop-addr.addr-index addr = grind (arith, common_steps, c.loop-addr-test.true) in
    record {
      recorded = ap (λ (trace : Trace). trace.recorded) changed ∙ c.loop-addr.invariant.recorded;
      readable = rw readable_is (Tears-more c.args.torn.now c.args.self.now.readable c.loop-addr.self.readable c.loop-addr.addr-index addr c.loop-addr-test.true at
          (rw readable_is at c.tear.ensures.torn) c.loop-addr.invariant.readable);
      synced = ap (λ (trace : Trace). trace.synced) changed ∙ c.loop-addr.invariant.synced;
    }

pub returns-clause-readable : goal.returns-clause-readable
returns-clause-readable c = subst (λ done. Tears done c.args.self.now.readable c.loop-addr.self.readable) (take_all c.loop-addr.addr-index c.args.torn.now c.loop-addr-test.false) c.loop-addr.invariant.readable
