use Rattle.std.proofs.Common.{◌∙◌, ap, refl}
use Rattle.node_cache.specs.Cached.{forgotten}
use Rattle.device_session.specs.contracts.session.Session.{the_view}
use Rattle.device_session.proofs.SessionLaws.{bare_tree}
use Rattle.device_session.proofs.session.Session.take_up.Goals as goal

pub returns : goal.returns
returns c = rw (← c.self.view_is) (record {
  root_is = refl;
  mapped = refl;
  untouched = refl;
  tree = bare_tree _ _ c.of.ensures.sound c.of.ensures.size c.of.ensures.top c.of.ensures.lists;
  none_held = c.of.ensures.none_held;
  cached = c.wipe-2.ensures.cache ∙ c.forget_all.ensures ∙ ap (λ gone. forgotten gone (the_view c.self.inside).cache) c.gone.ensures;
  wiped = c.wipe-2.ensures.wiped;
})
