use Rattle.btree_walk.proofs.lacking.+lacks_cached.Given as goal

abbrev pub decreases-lacks_cached : goal.decreases-lacks_cached
decreases-lacks_cached l = l.start.now.level
