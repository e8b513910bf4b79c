-- One entry more is written behind the others.
use Rattle.std.proofs.Common.{◌≤◌, length, arith, subst}
use Rattle.std.proofs.lemmas.Grind.{common_steps}
use Rattle.std.proofs.lemmas.List.Elements.{All-more}
use Rattle.volume_table.specs.declared.volume.Volume.{Volume}
use Rattle.volume_table.proofs.encoding.put_entries.Goals as goal

pub loop-i-preserved : goal.loop-i-preserved
loop-i-preserved c = record {
  spelled = grind (arith, common_steps);
  names = All-more (λ (v : Volume). length v.name ≤ 47) c.args.volumes.now c.loop-i.i c.index-volumes-i.result (omega arith) c.loop-i.invariant.names
      (subst (λ (v : Volume). length v.name ≤ 47) c.index-volumes-i.is c.put.ensures.most);
}
