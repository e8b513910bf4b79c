use Rattle.std.proofs.Common.{arith, length, refl}
use Rattle.btree_update.specs.Held.{bound}
use Rattle.btree_twigs.specs.Levels.{rows_at}
use Rattle.btree_twigs.specs.declared.twigs.Child.TheVariants as made
use Rattle.page_store.specs.Places.{root_want}
use Rattle.btree_update.proofs.GroveLaws.{kept_place}
use Rattle.btree_update.proofs.MediumLaws.{tree_told, kept_told}
use Rattle.btree_update.proofs.groves.Grove.of.Goals as goal

pub returns-clause-below : goal.returns-clause-below
returns-clause-below c head lt = kept_place c.args.root.now.level c.args.root.now.blocks 0 c.args.root.now.addr (bound head (length c.args.root.now.key)) c.args.root.now.key c.requires.root.level_least lt refl

pub returns-clause-levels : goal.returns-clause-levels
returns-clause-levels c pages parts tree =
    let root = c.args.root.now in
    let t = tree_told pages root.order root.level (root_want root) root.key parts (omega (arith, c.requires.root.blocks_least)) tree in (
      rows_at t.medium root.level root.blocks (made.Kept 0 root.addr root.key),
      record {
        medium = t.medium;
        bounds = t.bounds;
        told = kept_told pages t.medium root.level root.blocks 0 root.addr root.key c.requires.root.level_least (t.told t.medium (λ s from to few j. refl));
        are = λ j. refl;
      },
    )
