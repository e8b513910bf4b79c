use Rattle.std.proofs.Common.{List, IsTrue, sym, subst}
use Rattle.std.specs.Prelude.{IfOk, box_value}
use Rattle.std.specs.Bool.{OnTrue, OnFalse}
use Rattle.sdbt_base.specs.Keys.{key_size}
use Rattle.platform.specs.Image.{Image}
use Rattle.page_store.specs.Tree.{Mapped}
use Rattle.btree_walk.specs.Sights.{StandsOver}
use Rattle.btree_walk.proofs.OnLaws.{IfOk_map}
use Rattle.btree_update.specs.Maps.{HasBlock, LacksBlock}
use Rattle.btree_update.specs.Groves.{IsReadFrom, IsReadBeside, IsWrongOnWay, GroveMaps}
use Rattle.device_session.specs.Sessions.{Session}
use Rattle.device_session.specs.Open.{IsOpen}
use Rattle.device_session.specs.Holds.{Holds}
use Rattle.device_session.specs.Keys.{HoldsListed}
use Rattle.device_session.specs.Damage.{IsFound}
use Rattle.device_session.proofs.DamageLaws.{found_by}
use Rattle.device_session.proofs.GoingLaws.{goes_ready}
use Rattle.device_session.specs.Ready.{IsReadyFor}
use Rattle.device_session.proofs.ReadLaws.{held_array, cached_looked}
use Rattle.device_session.proofs.UpdateLaws.{ready_holds, ready_listed, ready_maps, both}
use Rattle.device_session.specs.contracts.session.Session.{the_view}
use Rattle.device_session.proofs.session.Session.ready.Goals as goal

pub ready-requires-clause-within : goal.ready-requires-clause-within
ready-requires-clause-within g c =
    let o = subst (λ (s : Session). IsOpen s (g.P.Platform.head c.args.platform.now)) (sym c.self.view_is) c.requires.open in
    (key_size c.self.inside.root.version, o.below)

pub returns-clause-holds : goal.returns-clause-holds
returns-clause-holds g c = λ told device contents h.
    let image = (g.P.Platform.history c.args.platform.now).present in
    let k = subst (λ (s : Session). Holds s image device contents) (sym c.self.view_is) h in
    let a = held_array (the_view c.self.inside) image device contents k in (
      ready_holds (the_view c.self.inside) c.ready.new.self c.ready.new.reader.cache c.ready.new.reader.buffers (box_value c.ready.new.reader.node) image _ device contents (c.ready.ensures.looks.image told) c.ready.ensures.tree c.ready.ensures.sound (c.ready.ensures.caches.stands told) (c.ready.ensures.caches.among told) k,
      λ addr. (c.ready.ensures.bad told k.cached).never a.mapped a.maps_are addr,
    )

pub returns-clause-listed : goal.returns-clause-listed
returns-clause-listed g c = λ told keys h.
    let image = (g.P.Platform.history c.args.platform.now).present in
    let k = subst (λ (s : Session). HoldsListed s image keys) (sym c.self.view_is) h in
    ready_listed (the_view c.self.inside) c.ready.new.self c.ready.new.reader.cache c.ready.new.reader.buffers (box_value c.ready.new.reader.node) image _ keys (c.ready.ensures.looks.image told) c.ready.ensures.tree c.ready.ensures.sound (c.ready.ensures.caches.stands told) (c.ready.ensures.caches.among told) k

pub returns-clause-goes_on : goal.returns-clause-goes_on
returns-clause-goes_on g c =
    let P = g.P.Platform in
    goes_ready P.tells (P.history c.args.platform.now).present _ (P.head c.args.platform.now) _ c.args.self.now (the_view c.self.inside) c.ready.new.self c.ready.new.reader.cache c.ready.new.reader.buffers (box_value c.ready.new.reader.node) c.self.view_is c.ready.ensures.looks.image c.ready.ensures.looks.head c.ready.ensures.tree c.ready.ensures.sound c.ready.ensures.caches.stands c.ready.ensures.caches.forgets c.requires.open

pub returns-clause-ready : goal.returns-clause-ready
returns-clause-ready g c = λ told h.
    let image = (g.P.Platform.history c.args.platform.now).present in
    let grove = c.ready.new.self in
    let over = subst (λ (s : Session). StandsOver image.readable s.cache) (sym c.self.view_is) h in
    let all = both (λ b. IsReadFrom image.readable c.args.block grove × (IsTrue b → IsReadBeside image.readable c.args.block grove))
    (λ b. (map : List Mapped) → GroveMaps image.readable (the_view c.self.inside).grove map → OnTrue b (HasBlock c.args.block map) × OnFalse b (LacksBlock c.args.block map))
    (IsReadyFor image.readable c.args.block grove)
    (λ b reads mapped. record { way = reads.0; beside = reads.1; mapped = λ map m. mapped map (ready_maps image.readable (the_view c.self.inside).grove grove map c.ready.ensures.tree m) })
    c.ready.result (c.ready.ensures.reads told over) (c.ready.ensures.mapped told over) in
    record {
      cached = cached_looked image _ (the_view c.self.inside).cache c.ready.new.reader.cache (c.ready.ensures.looks.image told) (c.ready.ensures.caches.stands told) over;
      ready = subst (λ (i : Image). IfOk c.ready.result (IsReadyFor i.readable c.args.block grove)) (sym (c.ready.ensures.looks.image told)) all;
      found = subst (λ (s : Session). IfOk c.ready.result (λ mapped. IsFound mapped image.readable s c.args.block)) c.self.view_is (found_by image.readable c.args.block (the_view c.self.inside) c.ready.result (c.ready.ensures.finds told over));
      bad = λ addr is. subst (λ (s : Session). IsWrongOnWay image.readable c.args.block s.grove addr) c.self.view_is ((c.ready.ensures.bad told over).wrong addr is);
    }

pub returns-clause-can : goal.returns-clause-can
returns-clause-can g c = IfOk_map _ _ c.ready.result (λ mapped can. (can.0, can.1)) c.ready.ensures.can
