use Rattle.std.proofs.Common.{◌≡◌, ◌<◌, length, slice_get, slice_index_or, Some, sym, ◌∙◌, ◌≤◌, arith}
use Rattle.std.proofs.lemmas.Option.{slice_get-get_or}
use Rattle.btree_update.specs.LetGo.{IsWiped, width}
use Rattle.btree_update.proofs.WipeLaws.{each_set, same_set, each_all}
use Rattle.btree_update.proofs.groves.wipe_held.Goals as goal

pub loop-twig-preserved : goal.loop-twig-preserved
loop-twig-preserved c =
    let i = c.loop-twig.twig-index in
    let one = slice_index_or c.loop-twig.held i c.twig-item.result in
    let here = slice_get-get_or c.loop-twig.held i c.twig-item.result (let n = c.loop-twig.auto.held in let within = c.loop-twig-test.true in omega (arith, n, within)) in
    record {
      wiped = each_set c.loop-twig.held i one c.wipe.new.twig here IsWiped c.wipe.ensures.blank c.loop-twig.invariant.wiped;
      many = λ place. same_set c.loop-twig.held i one c.wipe.new.twig here width c.wipe.ensures.many place ∙ c.loop-twig.invariant.many place;
    }

pub returns-clause-wiped : goal.returns-clause-wiped
returns-clause-wiped c = each_all IsWiped c.loop-twig.held c.loop-twig.twig-index (let n = c.loop-twig.auto.held in let past = c.loop-twig-test.false in omega (arith, n, past)) c.loop-twig.invariant.wiped
