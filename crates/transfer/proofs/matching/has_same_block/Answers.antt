use Rattle.std.proofs.Common.{◌∙◌, ℕ, List, refl, subst, sym, arith}
use Rattle.device_session.specs.Reading.{FindsContent}
use Rattle.session_calls.proofs.AlongLaws.{along_start}
use Rattle.transfer.proofs.BlameLaws.{blames_as, blames_done, blames_then}
use Rattle.transfer.proofs.HaltLaws.{halted, meets_from, meets_to}
use Rattle.transfer.proofs.RefusalLaws.{reads_from, reads_to}
use Rattle.transfer.proofs.matching.has_same_block.Goals as goal

pub returns-in_err-read_source-clause-both : goal.returns-in_err-read_source-clause-both
returns-in_err-read_source-clause-both g c = rw (halted c.from_residual.result c.in_err-read_source.field-0.0 c.from_residual.ensures.1) (record {
  few = 21;
  most = 0;
  reads = (omega arith, omega arith);
  from = λ any. c.in_err-read_source.ensures.along any;
  to = λ any. along_start g.Q.Platform c.args.to.now any c.args.target.now c.requires.target.is_open;
  blame = λ tape output ledger. blames_as _ _ c.in_err-read_source.field-0.0 (c.in_err-read_source.ensures.blame (g.Q.Platform.faults c.args.to.now) tape output ledger);
  wrong = meets_from _ _ _ _ _ _ c.in_err-read_source.field-0.0 c.in_err-read_source.ensures.wrong;
  behind = reads_from _ _ c.in_err-read_source.field-0.0 c.in_err-read_source.ensures.wrong;
  trees = (c.in_err-read_source.ensures.reads.tree, refl);
})

pub returns-in-Ok-clause-both : goal.returns-in-Ok-clause-both
returns-in-Ok-clause-both g c = record {
  few = 21;
  most = 21;
  reads = (omega arith, omega arith);
  from = λ any. c.read_source.ensures.along any;
  to = λ any. c.read_target.ensures.along any;
  blame = λ tape output ledger. blames_then _ _ _ _ (c.in_ok-read_source.ensures.blame (g.Q.Platform.faults c.args.to.now) tape output ledger).quiet
      (blames_done _ _ _ (c.in-Ok.ensures.blame (g.P.Platform.faults c.read_source.new.from) tape output ledger).quiet);
  wrong = tt;
  behind = tt;
  trees = (c.in_ok-read_source.ensures.reads.tree, c.in-Ok.ensures.reads.tree);
}

pub returns-in-Err-clause-both : goal.returns-in-Err-clause-both
returns-in-Err-clause-both g c = record {
  few = 21;
  most = 21;
  reads = (omega arith, omega arith);
  from = λ any. c.read_source.ensures.along any;
  to = λ any. c.read_target.ensures.along any;
  blame = λ tape output ledger. blames_then _ _ _ _ (c.in_ok-read_source.ensures.blame (g.Q.Platform.faults c.args.to.now) tape output ledger).quiet
      (blames_as _ _ c.in-Err.halt (c.in-Err.ensures.blame (g.P.Platform.faults c.read_source.new.from) tape output ledger));
  wrong = meets_to _ _ _ _ _ _ c.in-Err.halt c.in-Err.ensures.wrong;
  behind = reads_to _ _ _ _ c.in-Err.halt c.in-Err.ensures.wrong c.in-Err.ensures.full;
  trees = (c.in_ok-read_source.ensures.reads.tree, c.in-Err.ensures.reads.tree);
}

pub returns-in_err-read_source-clause-leads : goal.returns-in_err-read_source-clause-leads
returns-in_err-read_source-clause-leads g c from_told to_told device there array other at at_other = rw (halted c.from_residual.result c.in_err-read_source.field-0.0 c.from_residual.ensures.1) (c.in_err-read_source.ensures.leads from_told device array at)

pub returns-in-Err-clause-leads : goal.returns-in-Err-clause-leads
returns-in-Err-clause-leads g c from_told to_told device there array other at at_other = c.in-Err.ensures.leads to_told there other at_other

pub returns-in-Ok-clause-leads : goal.returns-in-Ok-clause-leads
returns-in-Ok-clause-leads g c from_told to_told device there array other at at_other =
    let one = c.in_ok-read_source.ensures.leads from_told device array at in
    let two = c.in-Ok.ensures.leads to_told there other at_other in
    (one.0, two.0, (λ yes. sym one.1 ∙ (c.is_same.ensures.0 yes ∙ two.1), λ same. c.is_same.ensures.1 (one.1 ∙ (same ∙ sym two.1))))

pub returns-in_err-read_source-clause-same : goal.returns-in_err-read_source-clause-same
returns-in_err-read_source-clause-same g c = rw (halted c.from_residual.result c.in_err-read_source.field-0.0 c.from_residual.ensures.1) tt

pub returns-in-Ok-clause-same : goal.returns-in-Ok-clause-same
returns-in-Ok-clause-same g c = record {
  one = λ agrees. record {
    content = c.read_source.new.out;
    here = c.in_ok-read_source.ensures.reads.found;
    there = λ told. subst (λ (bytes : List ℕ). FindsContent (g.Q.Platform.history c.args.to.now).present.readable c.args.target.now.grove c.args.block bytes) (sym (c.is_same.ensures.0 agrees)) (c.in-Ok.ensures.reads.found told);
  };
  two = λ apart. record {
    content = c.read_source.new.out;
    other = c.read_target.new.out;
    differ = λ is. apart (c.is_same.ensures.1 is);
    here = c.in_ok-read_source.ensures.reads.found;
    there = c.in-Ok.ensures.reads.found;
  };
}

pub returns-in_err-read_source-clause-memory : goal.returns-in_err-read_source-clause-memory
returns-in_err-read_source-clause-memory g c = rw (halted c.from_residual.result c.in_err-read_source.field-0.0 c.from_residual.ensures.1) c.in_err-read_source.ensures.memory
