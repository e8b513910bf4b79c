use Rattle.std.proofs.Common.{◌≡◌, suc, ◌<◌, ◌-◌, ◌/◌, ◌^◌, Err, Some, length, sym, ap, subst, arith}
use Rattle.std.proofs.lemmas.Result.{err_from_is_err_and}
use Rattle.btree_twigs.specs.declared.twigs.Child.{out-Child}
use Rattle.btree_twigs.specs.declared.twigs.Child.TheVariants as made
use Rattle.btree_twigs.specs.Stubs.{children_of}
use Rattle.btree_update.specs.declared.refusals.ReadyRefusal.TheVariants.{BadRecord}
use Rattle.btree_update.specs.Held.{AnyRead, IsReadAs}
use Rattle.btree_update.specs.Holding.{IsNodeOf}
use Rattle.btree_update.specs.Wrong.{IsWrongIn, IsWrongChild}
use Rattle.btree_update.specs.Beside.{CanRead, loses_for, LendsFrom}
use Rattle.btree_update.proofs.HoldLaws.{read_as}
use Rattle.btree_update.proofs.BesideLaws.{want_beside, spares_of, beside_lt, node_at, lends_kept}
use Rattle.btree_update.proofs.CacheLaws.{caches_read}
use Rattle.node_cache.specs.Cached.{cached_node}
use Rattle.btree_update.proofs.AmongLaws.{kept_among}
use Rattle.btree_update.proofs.EarlyLaws.{stay_read, stay_same}
use Rattle.btree_update.proofs.siblings.read_help.Goals as goal

pub read_node-requires-clause-within : goal.read_node-requires-clause-within
read_node-requires-clause-within g c =
    beside_lt c.args.order c.args.level c.args.high (g.P.Platform.head c.args.platform.now) c.in-Kept.low c.in-Kept.addr c.in-Kept.key
    (subst (CanRead c.args.order c.args.level c.args.high (g.P.Platform.head c.args.platform.now)) c.in-Kept.is c.requires.can)

pub returns-in_err-twig-in-Kept-clause-bad : goal.returns-in_err-twig-in-Kept-clause-bad
returns-in_err-twig-in-Kept-clause-bad g c =
    let p = err_from_is_err_and c.from_residual.result c.from_residual.ensures.1 in
    rw (p.1, p.2) (λ tells stands addr is.
    let same : c.in_err-twig-in-Kept.field-0.0 ≡ BadRecord addr = cc in
    let at = subst (CanRead c.args.order c.args.level c.args.high (g.P.Platform.head c.args.platform.now)) c.in-Kept.is c.requires.can in
    let pages = (g.P.Platform.history c.args.platform.now).present.readable in
    let b = c.in_err-twig-in-Kept.ensures.bad tells stands addr (ap Err same) in
    subst (IsWrongChild pages c.args.order addr c.args.level c.args.high) (sym c.in-Kept.is)
    (subst (IsWrongIn pages c.args.order addr c.args.level c.args.high) (sym (made.outs-Kept c.in-Kept.low c.in-Kept.addr c.in-Kept.key)) (omega (arith, at.level_is), b)))

pub returns-in_ok-twig-in-Kept-clause-helps : goal.returns-in_ok-twig-in-Kept-clause-helps
returns-in_ok-twig-in-Kept-clause-helps g c =
    let twig = c.in_ok-twig-in-Kept.twig in
    let loses = loses_for c.can_lend-lends.result in
    let at = subst (CanRead c.args.order c.args.level c.args.high (g.P.Platform.head c.args.platform.now)) c.in-Kept.is c.requires.can in
    let n = node_at c.args.order c.args.level c.args.high (g.P.Platform.head c.args.platform.now) c.in-Kept.low c.in-Kept.addr c.in-Kept.key at AnyRead twig c.in_ok-twig-in-Kept.ensures.fits tt in
    subst (λ x. LendsFrom AnyRead c.args.order (c.args.level - 1) loses c.args.high (out-Child x) (Some twig)) (sym c.in-Kept.is)
    (lends_kept c.args.order c.args.level c.args.high (g.P.Platform.head c.args.platform.now) c.in-Kept.low c.in-Kept.addr c.in-Kept.key at AnyRead twig loses n
    (spares_of c.args.order (length (children_of twig)) c.can_lend-lends.result c.can_lend-lends.ensures.spare c.can_lend-lends.ensures.none))

pub returns-in_ok-twig-in-Kept-clause-reads : goal.returns-in_ok-twig-in-Kept-clause-reads
returns-in_ok-twig-in-Kept-clause-reads g c = λ tells stands.
    (let twig = c.in_ok-twig-in-Kept.twig in
    let loses = loses_for c.can_lend-lends.result in
    let at = subst (CanRead c.args.order c.args.level c.args.high (g.P.Platform.head c.args.platform.now)) c.in-Kept.is c.requires.can in
    let pages = (g.P.Platform.history c.args.platform.now).present.readable in
    let Reads = IsReadAs pages c.args.order in
    let lt = beside_lt c.args.order c.args.level c.args.high (g.P.Platform.head c.args.platform.now) c.in-Kept.low c.in-Kept.addr c.in-Kept.key at in
    let small : c.in-Kept.addr < 2 ^ 64 = omega (arith, lt, g.met.P.Platform.has_room c.args.platform.now, g.met.P.Platform.is_limited c.args.platform.now) in
    let l : c.args.level ≡ suc (c.args.level - 1) = omega (arith, at.level_is) in
    let node = subst (λ k. IsNodeOf pages (want_beside c.args.order k c.in-Kept.low c.args.high c.in-Kept.addr) c.in-Kept.key twig) l
    (c.in_ok-twig-in-Kept.ensures.reads tells stands) in
    let reads = read_as pages c.args.order (c.args.level - 1) c.in-Kept.low c.args.high c.in-Kept.addr (c.args.order / 2) c.in-Kept.key twig small node in
    let n = node_at c.args.order c.args.level c.args.high (g.P.Platform.head c.args.platform.now) c.in-Kept.low c.in-Kept.addr c.in-Kept.key at Reads twig c.in_ok-twig-in-Kept.ensures.fits reads in
    subst (λ x. LendsFrom Reads c.args.order (c.args.level - 1) loses c.args.high (out-Child x) (Some twig)) (sym c.in-Kept.is)
    (lends_kept c.args.order c.args.level c.args.high (g.P.Platform.head c.args.platform.now) c.in-Kept.low c.in-Kept.addr c.in-Kept.key at Reads twig loses n
    (spares_of c.args.order (length (children_of twig)) c.can_lend-lends.result c.can_lend-lends.ensures.spare c.can_lend-lends.ensures.none)))

pub returns-in_err-twig-in-Kept-clause-caches : goal.returns-in_err-twig-in-Kept-clause-caches
returns-in_err-twig-in-Kept-clause-caches g c =
    let l = c.requires.can.level_is in
    caches_read g.P.Platform c.args.level c.args.high c.in-Kept.low c.in-Kept.addr c.in-Kept.key c.args.child.now c.args.platform.now c.args.reader.now.cache c.read_node.new.reader.cache c.in-Kept.is (omega (arith, l)) c.in_err-twig-in-Kept.ensures.forgets c.in_err-twig-in-Kept.ensures.stands c.in_err-twig-in-Kept.ensures.but

pub returns-in_ok-twig-in-Kept-clause-caches : goal.returns-in_ok-twig-in-Kept-clause-caches
returns-in_ok-twig-in-Kept-clause-caches g c =
    let l = c.requires.can.level_is in
    caches_read g.P.Platform c.args.level c.args.high c.in-Kept.low c.in-Kept.addr c.in-Kept.key c.args.child.now c.args.platform.now c.args.reader.now.cache c.read_node.new.reader.cache c.in-Kept.is (omega (arith, l)) c.in_ok-twig-in-Kept.ensures.forgets c.in_ok-twig-in-Kept.ensures.stands c.in_ok-twig-in-Kept.ensures.but

pub returns-in-Grown-clause-early : goal.returns-in-Grown-clause-early
returns-in-Grown-clause-early g c = λ tells stands places such one. stay_same _ places 1 c.args.reader.now.cache

pub returns-in_ok-twig-in-Kept-clause-early : goal.returns-in_ok-twig-in-Kept-clause-early
returns-in_ok-twig-in-Kept-clause-early g c = λ tells stands places such one.
    (let at = subst (CanRead c.args.order c.args.level c.args.high (g.P.Platform.head c.args.platform.now)) c.in-Kept.is c.requires.can in
    let read = c.in_ok-twig-in-Kept.ensures in
    let l = c.requires.can.level_is in
    let lt = beside_lt c.args.order c.args.level c.args.high (g.P.Platform.head c.args.platform.now) c.in-Kept.low c.in-Kept.addr c.in-Kept.key at in
    let small : c.in-Kept.addr < 2 ^ 64 = omega (arith, lt, g.met.P.Platform.has_room c.args.platform.now, g.met.P.Platform.is_limited c.args.platform.now) in
    let here = kept_among places c.args.level c.args.high c.in-Kept.low c.in-Kept.addr c.in-Kept.key c.args.child.now c.in-Kept.is (omega (arith, l)) such.1 in
    stay_read (g.P.Platform.history c.args.platform.now).present.readable places (cached_node c.in-Kept.addr c.in-Kept.key read.fills.0) c.args.reader.now.cache c.read_node.new.reader.cache small one here (read.stands tells stands) read.fills.2)
