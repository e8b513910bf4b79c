use Rattle.btree_walk.proofs.finding.+find.Given as goal

abbrev pub decreases-find : goal.decreases-find
decreases-find g l = l.start.now.level
