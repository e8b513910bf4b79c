use Rattle.session_calls.proofs.CarryLaws.{carries_committed, carries_stopped, carries_going}
use Rattle.nbd_core.proofs.BlameLaws.{blame_commit, blame_committed, commit_comes, commit_halts, of_commit}
use Rattle.platform.proofs.Moments.{During-now}
use Rattle.device_terms.specs.Served.{IsServedImage}
use Rattle.nbd_core.proofs.ChangeLaws.{replied_twice, stopped_twice}
use Rattle.nbd_core.proofs.DamageLaws.{commit_says}
use Rattle.nbd_core.proofs.NearLaws.{commit_adds}
use Rattle.nbd_core.proofs.ShortLaws.{flush_spent}
use Rattle.nbd_core.proofs.TurnLaws.{commit_halted, flushed_to}
use Rattle.nbd_core.proofs.serving.flush.Goals as goal

pub returns-in-Ok-clause-carries : goal.returns-in-Ok-clause-carries
returns-in-Ok-clause-carries g c =
    carries_going _ _ _ _ _ _ _ (λ going. tt) (carries_committed g.P.Platform g.T.Tape g.L.Sink _ _ _ _ _ _ _ c.in-Ok.done c.in-Ok.ensures.goes c.in-Ok.ensures.leads)

pub returns-in-Err-clause-carries : goal.returns-in-Err-clause-carries
returns-in-Err-clause-carries g c =
    carries_going _ _ _ _ _ _ _ (λ going. cc) (carries_stopped g.P.Platform g.T.Tape g.L.Sink _ _ _ _ _ _ _ c.in-Err.stop c.in-Err.ensures.goes c.in-Err.ensures.leads)

pub after_commit-requires : goal.after_commit-requires
after_commit-requires g c = of_commit g.P.Platform g.T.Tape _ _ _ _ c.in-Err.stop c.in-Err.ensures.answers.left

pub returns-in-Err-clause-halts : goal.returns-in-Err-clause-halts
returns-in-Err-clause-halts g c left came = commit_halts c.in-Err.stop _ left came (of_commit g.P.Platform g.T.Tape _ _ _ _ c.in-Err.stop c.in-Err.ensures.answers.left) c.after_commit.ensures

pub returns-in-Ok-clause-flushes : goal.returns-in-Ok-clause-flushes
returns-in-Ok-clause-flushes g c told entry held =
    flushed_to g.P.Platform g.T.Tape g.L.Sink _ _ _ _ _ _ _ c.in-Ok.done _ entry c.requires.ready.is_open c.outcome_of.ensures held c.in-Ok.ensures.answers (c.in-Ok.ensures.leads told entry.device entry.session held.at)

pub returns-in-Err-clause-flushes : goal.returns-in-Err-clause-flushes
returns-in-Err-clause-flushes g c told entry held =
    commit_halted g.P.Platform g.T.Tape g.L.Sink _ _ _ _ _ _ _ c.in-Err.stop _ entry c.requires.ready.is_open c.after_commit.ensures held c.in-Err.ensures.answers
    (During-now _ _ IsServedImage (c.in-Err.ensures.goes.keeps.serves told held.at.served)) (c.in-Err.ensures.leads told entry.device entry.session held.at)

pub returns-in-Ok-clause-blame : goal.returns-in-Ok-clause-blame
returns-in-Ok-clause-blame g c rest = blame_committed rest _ _ _ _ _ _ _ c.in-Ok.ensures.goes.blame.quiet

pub returns-in-Err-clause-blame : goal.returns-in-Err-clause-blame
returns-in-Err-clause-blame g c rest =
    let blame = c.in-Err.ensures.goes.blame in
    blame_commit rest _ _ _ _ _ _ c.in-Err.stop _ (of_commit g.P.Platform g.T.Tape _ _ _ _ c.in-Err.stop c.in-Err.ensures.answers.left) c.after_commit.ensures blame.fell blame.cause

pub returns-in-Ok-clause-says : goal.returns-in-Ok-clause-says
returns-in-Ok-clause-says g c = commit_says g.P.Platform _ _ _ _ _ _ _ _ c.in-Ok.done.reply _ c.outcome_of.ensures c.in-Ok.ensures.answers

pub returns-in-Ok-clause-spends : goal.returns-in-Ok-clause-spends
returns-in-Ok-clause-spends g c = flush_spent g.P.Platform _ _ _ _ _ _ _ _ c.in-Ok.done.reply _ c.outcome_of.ensures c.in-Ok.ensures.answers

pub returns-in-Ok-clause-comes : goal.returns-in-Ok-clause-comes
returns-in-Ok-clause-comes g c = commit_comes c.in-Ok.done.reply _ c.outcome_of.ensures

pub returns-in-Err-clause-adds : goal.returns-in-Err-clause-adds
returns-in-Err-clause-adds g c = commit_adds g.P.Platform g.T.Tape _ _ _ _ _ c.in-Err.stop _ c.after_commit.ensures c.in-Err.ensures.answers c.in-Err.ensures.goes.adds

pub returns-in-Ok-clause-changes : goal.returns-in-Ok-clause-changes
returns-in-Ok-clause-changes g c told = replied_twice c.in-Ok.done.reply _ _ (c.in-Ok.ensures.goes.changes told)

pub returns-in-Err-clause-changes : goal.returns-in-Err-clause-changes
returns-in-Err-clause-changes g c told = stopped_twice c.in-Err.stop _ _ (c.in-Err.ensures.goes.changes told)
