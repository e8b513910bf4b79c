use Rattle.tpm_nv.proofs.CellLaws.{cut_found, cut_only, cut_none}
use Rattle.tpm_nv.proofs.cells.split_at_mark.Goals as goal

pub returns-clause-found : goal.returns-clause-found
returns-clause-found c = cut_found c.args.mark c.args.text.now c.split_once.result c.requires c.split_once.ensures.cases

pub returns-clause-only : goal.returns-clause-only
returns-clause-only c a b lacks same = cut_only c.args.mark c.args.text.now a b c.split_once.result c.requires c.split_once.ensures.cases lacks same

pub returns-clause-none : goal.returns-clause-none
returns-clause-none c = cut_none c.args.mark c.args.text.now c.split_once.result c.requires c.split_once.ensures.cases
