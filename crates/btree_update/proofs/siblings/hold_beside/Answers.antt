use Rattle.std.proofs.Common.{◌≡◌, ℕ, suc, ◌<◌, ◌≤◌, ◌+◌, ◌-◌, ◌++◌, [], ◌∷◌, List, None, Err, length, take, drop, sym, ap, subst, ◌∙◌, arith}
use Rattle.std.proofs.lemmas.Result.{err_from_is_err_and}
use Rattle.btree_twigs.specs.declared.twigs.Child.{Child, out-Child}
use Rattle.btree_twigs.specs.declared.twigs.Twig.{Twig}
use Rattle.btree_twigs.specs.Stubs.{start_by, low_of, children_of, stubs}
use Rattle.btree_twigs.specs.Shape.{EachBy, IsChild}
use Rattle.btree_twigs.specs.Updates.{stubs_under}
use Rattle.btree_twigs.proofs.ListLaws.{split_here, stubs_append, each_back}
use Rattle.btree_update.specs.declared.refusals.ReadyRefusal.TheVariants.{BadRecord}
use Rattle.btree_update.specs.declared.siblings.Left.{Left}
use Rattle.btree_update.specs.Held.{bound, AreBelow, AnyRead, IsReadAs}
use Rattle.btree_update.specs.Holding.{CanHoldBelow}
use Rattle.btree_update.specs.Wrong.{IsWrongChild}
use Rattle.btree_update.specs.Beside.{CanRead, loses_for, LendsFrom, HoldsBeside, HoldsHelp}
use Rattle.btree_update.proofs.OpenLaws.{below_front, below_back}
use Rattle.btree_update.proofs.WrongLaws.{wrong_at}
use Rattle.btree_update.proofs.FewLaws.{few_none, few_one}
use Rattle.btree_update.proofs.BesideLaws.{loses_few, after_for, helped_at}
use Rattle.page_store.specs.Tree.{Place}
use Rattle.btree_twigs.specs.Stubs.{stubs_below}
use Rattle.btree_update.specs.Among.{HaveNodes}
use Rattle.btree_update.proofs.AmongLaws.{child_among}
use Rattle.btree_update.proofs.CacheLaws.{caches_fewer}
use Rattle.btree_update.proofs.EarlyLaws.{stay_same}
use Rattle.btree_update.proofs.siblings.hold_beside.Goals as goal

end_is : (high i end : ℕ) (ds cs : List Child) → ds ≡ cs → end ≡ start_by low_of (drop (i + 1) ds) high → end ≡ start_by low_of (drop (suc i) cs) high
end_is high i end ds cs same e = let n : i + 1 ≡ suc i = omega arith in e ∙ ap (λ xs. start_by low_of (drop (i + 1) xs) high) same ∙ ap (λ m. start_by low_of (drop m cs) high) n

-- the neighbour can be read
can_read : (order level block high head end i : ℕ) (twig : Twig) (d : Child) → CanHoldBelow order level block high head twig → 1 ≤ level → children_of twig ≡ take i (children_of twig) ++ d ∷ drop (suc i) (children_of twig) →
    end ≡ start_by low_of (drop (suc i) (children_of twig)) high → CanRead order level end head d
can_read order level block high head end i twig d at one split is =
    let cs = children_of twig in
    let most = bound head at.size in
    let each = each_back low_of (IsChild order level) high (take i cs) (d ∷ drop (suc i) cs) (subst (EachBy low_of (IsChild order level) high) split at.shaped.node.each) in
    let all = subst (AreBelow most) (ap (stubs_under level high) split ∙ stubs_append low_of (stubs level) high (take i cs) (d ∷ drop (suc i) cs)) at.within in
    record {
      below = level - 1;
      level_is = omega (arith, one);
      four = at.four;
      most = at.most;
      shaped = subst (λ m. IsChild order level m d) (sym is) each.1;
      starts = omega (arith, each.0, is);
      size = at.size;
      within = subst (λ m. AreBelow most (stubs level m d)) (sym is) (below_front most (stubs level (start_by low_of (drop (suc i) cs) high) d) (stubs_under level high (drop (suc i) cs)) (below_back most (stubs_under level (low_of d) (take i cs)) _ all));
    }

pub read_help-requires : goal.read_help-requires
read_help-requires g c =
    let cs = children_of c.args.twig.now in
    let lt : c.beside_of-other.result < length cs = omega (arith, c.beside_of-other.ensures.within, c.len.ensures) in
    let split = split_here cs c.beside_of-other.result c.index.result.now lt c.index.ensures in
    let e = end_is c.args.high c.beside_of-other.result c.end_of-end.result c.deref.result.now cs c.deref.ensures.value c.end_of-end.ensures in
    record { can = can_read c.args.order c.args.level c.requires.can.0 c.args.high (g.P.Platform.head c.args.platform.now) c.end_of-end.result c.beside_of-other.result c.args.twig.now c.index.result.now c.requires.can.1 c.requires.inner split e }

pub returns-in_err-help-in-Short-clause-bad : goal.returns-in_err-help-in-Short-clause-bad
returns-in_err-help-in-Short-clause-bad g c =
    let p = err_from_is_err_and c.from_residual-in_err-help-in-Short.result c.from_residual-in_err-help-in-Short.ensures.1 in
    rw (p.1, p.2) (λ tells stands front d back split_is n addr is.
    let same : c.in_err-help-in-Short.field-0.0 ≡ BadRecord addr = cc in
    let cs = children_of c.args.twig.now in
    let lt : c.beside_of-other.result < length cs = omega (arith, c.beside_of-other.ensures.within, c.len.ensures) in
    let split = split_here cs c.beside_of-other.result c.index.result.now lt c.index.ensures in
    let e = end_is c.args.high c.beside_of-other.result c.end_of-end.result c.deref.result.now cs c.deref.ensures.value c.end_of-end.ensures in
    let pages = (g.P.Platform.history c.args.platform.now).present.readable in
    wrong_at (IsWrongChild pages c.args.order addr c.args.level) c.args.high c.beside_of-other.result cs c.index.result.now split lt
    (subst (λ m. IsWrongChild pages c.args.order addr c.args.level m c.index.result.now) e (c.in_err-help-in-Short.ensures.bad tells stands addr (ap Err same))) c.args.at front d back split_is n
    (λ lt. c.beside_of-other.ensures.next (omega (arith, lt, c.len.ensures))) (λ is. c.beside_of-other.ensures.last (omega (arith, is, c.len.ensures))))

pub returns-in_ok-keep-in-Short-clause-helps : goal.returns-in_ok-keep-in-Short-clause-helps
returns-in_ok-keep-in-Short-clause-helps g c = λ front d back split_is n.
    (let cs = children_of c.args.twig.now in
    let lt : c.beside_of-other.result < length cs = omega (arith, c.beside_of-other.ensures.within, c.len.ensures) in
    let split = split_here cs c.beside_of-other.result c.index.result.now lt c.index.ensures in
    let e = end_is c.args.high c.beside_of-other.result c.end_of-end.result c.deref.result.now cs c.deref.ensures.value c.end_of-end.ensures in
    let help = c.in_ok-help-in-Short.help in
    let loses = loses_for help.lends in
    let lends = subst (λ m. LendsFrom AnyRead c.args.order (c.args.level - 1) loses m (out-Child c.index.result.now) help.node) e c.in_ok-help-in-Short.ensures.helps in
    let h : HoldsHelp AnyRead c.args.order (c.args.level - 1) (length cs) c.args.high front d back c.args.beside.now.items c.keep-in-Short.new.beside.items c.left_of-in-Short.result = record {
      one = help.node;
      is = c.in_ok-keep-in-Short.ensures.kept;
      loses = loses;
      few = loses_few help.lends;
      helped = helped_at AnyRead c.args.order (c.args.level - 1) loses c.args.high c.beside_of-other.result cs c.index.result.now split lt help.node lends c.args.at front d back split_is n
          (λ lt. c.beside_of-other.ensures.next (omega (arith, lt, c.len.ensures))) (λ is. c.beside_of-other.ensures.last (omega (arith, is, c.len.ensures)));
      left = after_for c.args.order (length cs) help.lends c.left_of-in-Short.result c.left_of-in-Short.ensures.lends c.left_of-in-Short.ensures.merges;
    } in
    subst (λ (l : Left). HoldsBeside AnyRead c.args.order (c.args.level - 1) (length cs) c.args.high front d back c.args.beside.now.items c.keep-in-Short.new.beside.items l c.left_of-in-Short.result) (sym c.in-Short.is) h)

pub returns-in_ok-keep-in-Short-clause-reads : goal.returns-in_ok-keep-in-Short-clause-reads
returns-in_ok-keep-in-Short-clause-reads g c = λ tells stands front d back split_is n.
    (let cs = children_of c.args.twig.now in
    let Reads = IsReadAs (g.P.Platform.history c.args.platform.now).present.readable c.args.order in
    let lt : c.beside_of-other.result < length cs = omega (arith, c.beside_of-other.ensures.within, c.len.ensures) in
    let split = split_here cs c.beside_of-other.result c.index.result.now lt c.index.ensures in
    let e = end_is c.args.high c.beside_of-other.result c.end_of-end.result c.deref.result.now cs c.deref.ensures.value c.end_of-end.ensures in
    let help = c.in_ok-help-in-Short.help in
    let loses = loses_for help.lends in
    let lends = subst (λ m. LendsFrom Reads c.args.order (c.args.level - 1) loses m (out-Child c.index.result.now) help.node) e (c.in_ok-help-in-Short.ensures.reads tells stands) in
    let h : HoldsHelp Reads c.args.order (c.args.level - 1) (length cs) c.args.high front d back c.args.beside.now.items c.keep-in-Short.new.beside.items c.left_of-in-Short.result = record {
      one = help.node;
      is = c.in_ok-keep-in-Short.ensures.kept;
      loses = loses;
      few = loses_few help.lends;
      helped = helped_at Reads c.args.order (c.args.level - 1) loses c.args.high c.beside_of-other.result cs c.index.result.now split lt help.node lends c.args.at front d back split_is n
          (λ lt. c.beside_of-other.ensures.next (omega (arith, lt, c.len.ensures))) (λ is. c.beside_of-other.ensures.last (omega (arith, is, c.len.ensures)));
      left = after_for c.args.order (length cs) help.lends c.left_of-in-Short.result c.left_of-in-Short.ensures.lends c.left_of-in-Short.ensures.merges;
    } in
    subst (λ (l : Left). HoldsBeside Reads c.args.order (c.args.level - 1) (length cs) c.args.high front d back c.args.beside.now.items c.keep-in-Short.new.beside.items l c.left_of-in-Short.result) (sym c.in-Short.is) h)

-- the neighbour is among these places with the node
beside_among : (pages : List (List ℕ)) (places : List Place) (level high i end : ℕ) (twig : Twig) (ds : List Child) (d : Child) → children_of twig ≡ take i (children_of twig) ++ d ∷ drop (suc i) (children_of twig) → ds ≡ children_of twig →
    end ≡ start_by low_of (drop (i + 1) ds) high → HaveNodes pages (stubs_below level high twig) places → HaveNodes pages (stubs level end d) places
beside_among pages places level high i end twig ds d split same is such = (such.0, child_among places level high i end (children_of twig) d split (end_is high i end ds (children_of twig) same is) such.1)

pub returns-in_err-help-in-Short-clause-caches : goal.returns-in_err-help-in-Short-clause-caches
returns-in_err-help-in-Short-clause-caches g c =
    let lt : c.beside_of-other.result < length (children_of c.args.twig.now) = omega (arith, c.beside_of-other.ensures.within, c.len.ensures) in
    let split = split_here (children_of c.args.twig.now) c.beside_of-other.result c.index.result.now lt c.index.ensures in
    caches_fewer g.P.Platform (λ pages. HaveNodes pages (stubs_below c.args.level c.args.high c.args.twig.now)) (λ pages. HaveNodes pages (stubs c.args.level c.end_of-end.result c.index.result.now)) c.args.platform.now c.args.reader.now.cache c.read_help.new.reader.cache
    (λ pages places such. beside_among pages places c.args.level c.args.high c.beside_of-other.result c.end_of-end.result c.args.twig.now c.deref.result.now c.index.result.now split c.deref.ensures.value c.end_of-end.ensures such) c.in_err-help-in-Short.ensures.caches

pub returns-in_err-keep-in-Short-clause-caches : goal.returns-in_err-keep-in-Short-clause-caches
returns-in_err-keep-in-Short-clause-caches g c =
    let lt : c.beside_of-other.result < length (children_of c.args.twig.now) = omega (arith, c.beside_of-other.ensures.within, c.len.ensures) in
    let split = split_here (children_of c.args.twig.now) c.beside_of-other.result c.index.result.now lt c.index.ensures in
    caches_fewer g.P.Platform (λ pages. HaveNodes pages (stubs_below c.args.level c.args.high c.args.twig.now)) (λ pages. HaveNodes pages (stubs c.args.level c.end_of-end.result c.index.result.now)) c.args.platform.now c.args.reader.now.cache c.read_help.new.reader.cache
    (λ pages places such. beside_among pages places c.args.level c.args.high c.beside_of-other.result c.end_of-end.result c.args.twig.now c.deref.result.now c.index.result.now split c.deref.ensures.value c.end_of-end.ensures such) c.in_ok-help-in-Short.ensures.caches

pub returns-in_ok-keep-in-Short-clause-caches : goal.returns-in_ok-keep-in-Short-clause-caches
returns-in_ok-keep-in-Short-clause-caches g c =
    let lt : c.beside_of-other.result < length (children_of c.args.twig.now) = omega (arith, c.beside_of-other.ensures.within, c.len.ensures) in
    let split = split_here (children_of c.args.twig.now) c.beside_of-other.result c.index.result.now lt c.index.ensures in
    caches_fewer g.P.Platform (λ pages. HaveNodes pages (stubs_below c.args.level c.args.high c.args.twig.now)) (λ pages. HaveNodes pages (stubs c.args.level c.end_of-end.result c.index.result.now)) c.args.platform.now c.args.reader.now.cache c.read_help.new.reader.cache
    (λ pages places such. beside_among pages places c.args.level c.args.high c.beside_of-other.result c.end_of-end.result c.args.twig.now c.deref.result.now c.index.result.now split c.deref.ensures.value c.end_of-end.ensures such) c.in_ok-help-in-Short.ensures.caches

-- ---- how many

pub returns-in-Unmapped-clause-few : goal.returns-in-Unmapped-clause-few
returns-in-Unmapped-clause-few g c = few_none g.P.Platform 0 1 c.args.platform.now [] c.args.beside.now.items _

pub returns-in_ok-keep-in-Enough-clause-few : goal.returns-in_ok-keep-in-Enough-clause-few
returns-in_ok-keep-in-Enough-clause-few g c = few_one g.P.Platform c.args.platform.now c.args.platform.now c.args.beside.now.items c.keep.new.beside.items None _ c.in_ok-keep-in-Enough.ensures.kept (λ told. omega arith) (λ none. (let is = c.in-Enough.is in absurd cc))

pub returns-in_ok-keep-in-Short-clause-few : goal.returns-in_ok-keep-in-Short-clause-few
returns-in_ok-keep-in-Short-clause-few g c =
    few_one g.P.Platform c.args.platform.now c.read_help.new.platform c.args.beside.now.items c.keep-in-Short.new.beside.items c.in_ok-help-in-Short.help.node _ c.in_ok-keep-in-Short.ensures.kept c.in_ok-help-in-Short.ensures.few (λ none. (let is = c.in-Short.is in absurd cc))

-- ---- what stays cached

pub returns-in-Unmapped-clause-early : goal.returns-in-Unmapped-clause-early
returns-in-Unmapped-clause-early g c = λ tells stands places such one. stay_same _ places 1 c.args.reader.now.cache

pub returns-in_ok-keep-in-Enough-clause-early : goal.returns-in_ok-keep-in-Enough-clause-early
returns-in_ok-keep-in-Enough-clause-early g c = λ tells stands places such one. stay_same _ places 1 c.args.reader.now.cache

pub returns-in_ok-keep-in-Short-clause-early : goal.returns-in_ok-keep-in-Short-clause-early
returns-in_ok-keep-in-Short-clause-early g c = λ tells stands places such one.
    (let lt : c.beside_of-other.result < length (children_of c.args.twig.now) = omega (arith, c.beside_of-other.ensures.within, c.len.ensures) in
    let split = split_here (children_of c.args.twig.now) c.beside_of-other.result c.index.result.now lt c.index.ensures in
    c.in_ok-help-in-Short.ensures.early tells stands places
    (beside_among _ places c.args.level c.args.high c.beside_of-other.result c.end_of-end.result c.args.twig.now c.deref.result.now c.index.result.now split c.deref.ensures.value c.end_of-end.ensures such) one)
