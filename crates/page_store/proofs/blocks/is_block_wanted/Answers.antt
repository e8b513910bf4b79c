-- The data record is the one of its block.
use Rattle.std.proofs.Common.{None, Some, sym, ◌∙◌}
use Rattle.std.proofs.lemmas.Bool.{false≢true, eqb-true, eq-eqb}
use Rattle.page_store.proofs.FetchLaws.{same_some, block_wanted, no_block_wanted}
use Rattle.page_store.proofs.blocks.is_block_wanted.Goals as goal

pub returns-in-Some-clause-found : goal.returns-in-Some-clause-found
returns-in-Some-clause-found c = λ is. block_wanted c.args.want.now c.args.body.now c.in-Some.block c.requires.block (eqb-true c.in-Some.block c.args.want.now.low is) c.in-Some.ensures.found

pub returns-in-Some-clause-none : goal.returns-in-Some-clause-none
returns-in-Some-clause-none c = λ is. no_block_wanted c.args.want.now c.args.body.now (Some c.in-Some.block) c.requires.block c.in-Some.ensures.again
    (λ same. false≢true (sym is ∙ eq-eqb c.in-Some.block c.args.want.now.low (same_some _ _ same)))

pub returns-in-None-clause-none : goal.returns-in-None-clause-none
returns-in-None-clause-none c = λ is. no_block_wanted c.args.want.now c.args.body.now None c.requires.block c.in-None.ensures.again (λ same. absurd cc)
