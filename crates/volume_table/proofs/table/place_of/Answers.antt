use Rattle.std.proofs.Common.{◌≡◌, ◌≢◌, Option, length, take, sym, refl, subst, arith}
use Rattle.std.specs.Option.{IsSomeAnd}
use Rattle.std.proofs.lemmas.Bool.{false≢true}
use Rattle.std.proofs.lemmas.List.{take_all}
use Rattle.std.proofs.lemmas.List.Elements.{All-more, All-same}
use Rattle.std.proofs.lemmas.Option.{slice_get_read}
use Rattle.volume_table.specs.declared.volume.Volume.{Volume}
use Rattle.volume_table.proofs.table.place_of.Goals as goal

pub returns-then-is_same-clause-found : goal.returns-then-is_same-clause-found
returns-then-is_same-clause-found c =
    let named : c.index-volumes-at.result.name ≡ c.args.name.now = c.is_same.ensures.0 c.if-is_same.true in
    subst (λ (o : Option Volume). IsSomeAnd o (λ v. v.name ≡ c.args.name.now))
    (sym (slice_get_read c.args.volumes.now (length c.args.volumes.now) c.loop-at.at c.index-volumes-at.result refl c.loop-at-test.true c.index-volumes-at.is)) named

pub loop-at-preserved : goal.loop-at-preserved
loop-at-preserved c =
    let other : c.index-volumes-at.result.name ≢ c.args.name.now = λ same. false≢true (c.if-is_same.ensures.1 same) in
    All-more (λ (v : Volume). v.name ≢ c.args.name.now) c.args.volumes.now c.loop-at.at c.index-volumes-at.result c.loop-at-test.true c.loop-at.invariant
    (subst (λ (v : Volume). v.name ≢ c.args.name.now) c.index-volumes-at.is other)

pub returns-clause-none : goal.returns-clause-none
returns-clause-none c =
    All-same (λ (v : Volume). v.name ≢ c.args.name.now) c.args.volumes.now (take c.loop-at.at c.args.volumes.now) (sym (take_all c.loop-at.at c.args.volumes.now (omega arith))) c.loop-at.invariant
