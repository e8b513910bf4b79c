use Rattle.std.proofs.Common.{None, Ok, sym}
use Rattle.nbd_core.proofs.BlameLaws.{blame_given, blame_halted, given_ends, stop_comes, write_halts}
use Rattle.nbd_lang.specs.declared.requests.RequestKind.TheVariants.{Write}
use Rattle.nbd_core.proofs.writing.give_up.Goals as goal

pub returns-in-Ok-clause-blame : goal.returns-in-Ok-clause-blame
returns-in-Ok-clause-blame g c before now fell cause = blame_given before now _ _ c.args.stop c.in-Ok.outcome _ (sym c.in-Ok.ensures) cause c.let_go.ensures.blame

pub returns-in-Err-clause-blame : goal.returns-in-Err-clause-blame
returns-in-Err-clause-blame g c before now fell cause = blame_halted before now _ c.args.stop c.in-Err.halt c.requires (sym c.in-Err.ensures) fell cause

pub returns-in-Ok-clause-ends : goal.returns-in-Ok-clause-ends
returns-in-Ok-clause-ends g c = given_ends Write c.in-Ok.outcome c.let_go.result (stop_comes Write c.args.stop (Ok c.in-Ok.outcome) tt c.in-Ok.ensures) c.let_go.ensures.outcome (c.let_go.ensures.halted Write None)

pub returns-in-Err-clause-ends : goal.returns-in-Err-clause-ends
returns-in-Err-clause-ends g c = write_halts c.args.stop c.in-Err.halt c.requires c.in-Err.ensures
