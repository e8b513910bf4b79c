use Rattle.std.proofs.Common.{◌≡◌, ◌+◌, ◌*◌, length, take, drop}
use Rattle.std.specs.Vec.{vec_capacity}
use Rattle.btree_twigs.specs.Stubs.{children_of, level_of}
use Rattle.btree_twigs.specs.Top.{child_level}
use Rattle.shadow_commit.specs.Sealed.{Seals, SealsEach}
use Rattle.shadow_commit.specs.Caching.{AreCached}
use Rattle.shadow_commit.specs.Handing.{Adds, OnlyAdds}
use Rattle.shadow_commit.specs.CanSeal.{CanSeal}
use Rattle.shadow_commit.proofs.sealing.+seal.Given as goal

abbrev pub invariant-seal_twig-loop-child : goal.invariant-seal_twig-loop-child
invariant-seal_twig-loop-child g l = record {
  same : l.child-items ≡ children_of l.fn.twig;
  sealed : (at : CanSeal l.fn.version (g.P.Platform.head l.fn.platform) (g.P.Platform.capacity l.fn.platform) l.fn.twig) →
      Adds (AreCached (λ nodes. SealsEach (Seals l.fn.version at.level) (g.P.Platform.head l.fn.platform) (take l.child-index l.child-items) nodes (drop (length l.fn.entries.items) l.entries.items)) l.fn.reader.cache l.reader.cache)
      g.P.Platform.tells (g.P.Platform.history l.fn.platform).present (g.P.Platform.history l.platform).present
      (g.P.Platform.head l.fn.platform) (g.P.Platform.head l.platform) (g.T.Tape.drawn l.fn.tape) (g.T.Tape.drawn l.tape);
  front : take (length l.fn.entries.items) l.entries.items ≡ l.fn.entries.items;
  count : length l.entries.items ≡ length l.fn.entries.items + l.child-index;
  room : vec_capacity l.entries ≡ vec_capacity l.fn.entries;
  beside : OnlyAdds g.P.Platform g.T.Tape 0 l.fn.platform l.platform l.fn.tape l.tape;
  quiet : (g.P.Platform.faults l.platform ≡ g.P.Platform.faults l.fn.platform) × (g.T.Tape.faults l.tape ≡ g.T.Tape.faults l.fn.tape);
}

abbrev pub decreases-seal_child : goal.decreases-seal_child
decreases-seal_child g l = 2 * child_level l.child.now + 1

abbrev pub decreases-seal_twig : goal.decreases-seal_twig
decreases-seal_twig g l = 2 * level_of l.twig.now
