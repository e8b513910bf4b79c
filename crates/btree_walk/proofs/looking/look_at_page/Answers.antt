use Rattle.std.proofs.Common.{rules, ◌≡◌, refl, ap, sym, subst, inr, Err}
use Rattle.std.proofs.lemmas.Result.{err_from_is_err_and}
use Rattle.page_store.specs.declared.refusals.FetchRefusal.TheVariants.{BadRecord}
use Rattle.node_codec.specs.declared.body.NodeBody.{NodeBody}
use Rattle.node_cache.specs.Cached.{Cached, cached_node}
use Rattle.btree_walk.specs.Sights.{KeepsOnly, ForgetsNone}
use Rattle.btree_walk.specs.Among.{KeepsBut}
use Rattle.btree_walk.proofs.SightLaws.{keeps_filled}
use Rattle.btree_walk.proofs.AmongLaws.{but_same, but_filled}
use Rattle.btree_walk.proofs.ForgetLaws.{forgets_same, forgets_filled}
use Rattle.btree_walk.proofs.looking.look_at_page.Goals as goal

pub returns-in_err-fetch_node : goal.returns-in_err-fetch_node
returns-in_err-fetch_node g c =
    let p = err_from_is_err_and c.from_residual.result c.from_residual.ensures.1 in
    rw (p.1, p.2) record {
      seen = λ tells. tt;
      bad = λ tells addr is.
          (let same : c.in_err-fetch_node.field-0.0 ≡ BadRecord addr = cc in
          record { here = c.in_err-fetch_node.ensures.bad addr (ap Err same); misfits = inr (c.in_err-fetch_node.ensures.nothing_fits tells addr (ap Err same)) });
      used = tt;
      forgets = forgets_same c.args.reader.now.cache c.args.reader.now.cache refl;
      keeps = search rules;
      but = but_same c.args.want.now.addr c.args.key.now c.args.reader.now.cache;
      looks = search rules;
      cause = record { done = tt; failed = λ is. c.in_err-fetch_node.ensures.cause.failed (cc); refused = λ other. c.in_err-fetch_node.ensures.cause.refused (λ is. other (cc)) };
    }

pub returns : goal.returns
returns g c =
    let node : NodeBody = record { level = c.args.want.now.level; version = c.version_of-node.result; entries = c.fetch_node.new.entries } in
    let kept = cached_node c.args.want.now.addr c.args.key.now node in
    let pages = (g.P.Platform.history c.args.platform.now).present.readable in
    record {
      seen = search rules;
      bad = search rules;
      used = record { node = node; fits = search rules; is = c.turn_at-turn.ensures; first = inr c.put.ensures.cached };
      forgets = subst (ForgetsNone c.args.reader.now.cache) (sym c.put.ensures.cached) (forgets_filled c.args.reader.now.cache kept c.put.ensures.apart);
      keeps = λ tells. subst (KeepsOnly pages c.args.reader.now.cache) (sym c.put.ensures.cached) (keeps_filled pages c.args.reader.now.cache kept (inr record { version = c.version_of-node.ensures.value; is = (c.in_ok-fetch_node.ensures.fits tells).0 }));
      but = subst (KeepsBut c.args.want.now.addr c.args.key.now c.args.reader.now.cache) (sym c.put.ensures.cached) (but_filled c.args.reader.now.cache kept);
      looks = search rules;
      cause = search rules;
    }
