use Rattle.std.proofs.Common.{◌≡◌, ◌∙◌, inl, inr, [], ◌∷◌, ◌++◌, ◌<◌, ℕ, Bool, true, false, List, refl, sym, ap, subst}
use Rattle.std.specs.Prelude.{Result, Ok, Err, OnOk}
use Rattle.root_codec.specs.declared.root.Root.{Root}
use Rattle.platform.specs.Image.{Image}
use Rattle.platform.proofs.Moments.{During-start, During-step}
use Rattle.page_store.specs.Keeping.{KeepsKeys}
use Rattle.page_store.proofs.KeepingLaws.{keeps_idle, keeps_then}
use Rattle.btree_update.specs.Maps.{LacksBlock}
use Rattle.device_session.specs.Sessions.{Session}
use Rattle.device_session.specs.Open.{AreDataPages}
use Rattle.device_session.specs.Keys.{HoldsListed}
use Rattle.page_store.specs.Tree.{Wrong}
use Rattle.btree_walk.specs.Sights.{StandsOver}
use Rattle.btree_update.specs.Groves.{IsWrongOnWay}
use Rattle.sdbt_base.specs.declared.lists.Unkept.{Unkept}
use Rattle.sdbt_base.specs.Arrays.{padded}
use Rattle.device_session.specs.Reading.{KeepsBlock}
use Rattle.device_session.proofs.KeepLaws.{kept_keeps, block_then}
use Rattle.device_session.specs.Damage.{CountsPut, HasPut, LeavesPut, IsFound, IsPastLimit, IsMiscounted, HasRoom}
use Rattle.device_session.proofs.GoingLaws.{goes_start, goes_then, updates_none, updates_ready, updates_then, grows_start, grows_looked, grows_then}
use Rattle.device_session.specs.Ready.{IsReadyFor, counted_with}
use Rattle.device_session.specs.declared.refusals.WriteRefusal.{WriteRefusal}
use Rattle.device_session.proofs.DamageLaws.{update_is_wrong, miscounted_full, limit_same, room_same}
use Rattle.device_session.proofs.UpdateLaws.{ready_pages, on_false}
use Rattle.device_session.proofs.InsertLaws.{all_mapped}
use Rattle.device_session.proofs.session.Session.write.Given.{Over}
use Rattle.device_session.proofs.session.Session.write.Goals.{After-ready, else-not-is_mapped-via-then-not-is_mapped+else-is_at_limit, else-not-is_mapped-via-else-not-is_mapped}
use Rattle.device_session.proofs.session.Session.write.Goals as goal

pub returns-then-block-self-clause-keeps : goal.returns-then-block-self-clause-keeps
returns-then-block-self-clause-keeps g c =
    let old = g.P.Platform.history c.args.platform.now in
    keeps_idle _ _ _ old old (HoldsListed c.args.self.now old.present) _ refl (λ told. During-start old (λ image. image ≡ old.present) refl) (λ told keys kept h. h)

pub returns-then-head-capacity-clause-keeps : goal.returns-then-head-capacity-clause-keeps
returns-then-head-capacity-clause-keeps g c =
    let old = g.P.Platform.history c.args.platform.now in
    keeps_idle _ _ _ old old (HoldsListed c.args.self.now old.present) _ refl (λ told. During-start old (λ image. image ≡ old.present) refl) (λ told keys kept h. h)

-- a look keeps the keys
looked : (g : Over) (c : After-ready g) → KeepsKeys g.P.Platform.tells (g.T.Tape.drawn c.args.tape.now) (g.T.Tape.drawn c.args.tape.now) (g.P.Platform.history c.args.platform.now) (g.P.Platform.history c.ready.new.platform)
    (HoldsListed c.args.self.now (g.P.Platform.history c.args.platform.now).present) (HoldsListed c.ready.new.self (g.P.Platform.history c.ready.new.platform).present)
looked g c =
    keeps_idle _ _ _ (g.P.Platform.history c.args.platform.now) (g.P.Platform.history c.ready.new.platform) (HoldsListed c.args.self.now (g.P.Platform.history c.args.platform.now).present) _ refl
    (λ told. During-step _ _ (λ image. image ≡ (g.P.Platform.history c.args.platform.now).present) (c.ready.ensures.looks.time told) refl (c.ready.ensures.looks.image told)) (λ told keys kept h. c.ready.ensures.listed told keys h)

-- ---- the array

pub returns-then-block-self-clause-array : goal.returns-then-block-self-clause-array
returns-then-block-self-clause-array g c = λ told device contents h. record { array = h; pages = λ pages are. (are, tt) }

pub returns-then-head-capacity-clause-array : goal.returns-then-head-capacity-clause-array
returns-then-head-capacity-clause-array g c = λ told device contents h. record { array = h; pages = λ pages are. (are, tt) }

-- a look leaves the pages
looked_pages : (g : Over) (c : After-ready g) (pages : List Unkept) → AreDataPages c.args.self.now pages → AreDataPages c.ready.new.self pages
looked_pages g c pages are = ready_pages c.args.self.now c.ready.new.self pages c.ready.ensures.goes_on.root c.ready.ensures.same.2 are

pub returns-in-Err-BadRecord-clause-array : goal.returns-in-Err-BadRecord-clause-array
returns-in-Err-BadRecord-clause-array g c = λ told device contents h. absurd ((c.ready.ensures.holds told device contents h).1 c.in-Err-BadRecord.addr (cc))

pub returns-in-Err-PlatformFault-clause-array : goal.returns-in-Err-PlatformFault-clause-array
returns-in-Err-PlatformFault-clause-array g c = λ told device contents h.
    record { array = (c.ready.ensures.holds told device contents h).0; pages = λ pages are. (looked_pages g (goal.at.returns-in-Err-PlatformFault-clause-array g c).After-ready pages are, tt) }

pub returns-in-Err-Memory-clause-array : goal.returns-in-Err-Memory-clause-array
returns-in-Err-Memory-clause-array g c = λ told device contents h.
    record { array = (c.ready.ensures.holds told device contents h).0; pages = λ pages are. (looked_pages g (goal.at.returns-in-Err-Memory-clause-array g c).After-ready pages are, tt) }

pub returns-in-Err-BadRecord-clause-keeps : goal.returns-in-Err-BadRecord-clause-keeps
returns-in-Err-BadRecord-clause-keeps g c = looked g (goal.at.returns-in-Err-BadRecord-clause-keeps g c).After-ready

pub returns-in-Err-PlatformFault-clause-keeps : goal.returns-in-Err-PlatformFault-clause-keeps
returns-in-Err-PlatformFault-clause-keeps g c = looked g (goal.at.returns-in-Err-PlatformFault-clause-keeps g c).After-ready

pub returns-in-Err-Memory-clause-keeps : goal.returns-in-Err-Memory-clause-keeps
returns-in-Err-Memory-clause-keeps g c = looked g (goal.at.returns-in-Err-Memory-clause-keeps g c).After-ready

pub returns-then-is_at_limit-clause-array : goal.returns-then-is_at_limit-clause-array
returns-then-is_at_limit-clause-array g c = λ told device contents h.
    let image = (g.P.Platform.history c.ready.new.platform).present in
    let k = (c.ready.ensures.holds told device contents h).0 in
    let r = (c.in-Ok.ensures.ready told h.cached).ready in
    absurd (all_mapped c.ready.new.self image device contents c.args.block (g.P.Platform.head c.ready.new.platform) c.ready.ensures.goes_on.is_open k
    (subst (λ (n : Root). c.args.block < n.blocks) (sym c.ready.ensures.goes_on.root) (subst (λ (s : Session). c.args.block < s.root.blocks) c.self.view_is c.if-block-self.false))
    (c.is_at_limit.ensures.full c.if-is_at_limit.true) (λ mapped m. on_false c.in-Ok.is_mapped (LacksBlock c.args.block mapped) c.if-not-is_mapped.true (r.mapped mapped m).1))

pub returns-then-is_at_limit-clause-keeps : goal.returns-then-is_at_limit-clause-keeps
returns-then-is_at_limit-clause-keeps g c = looked g (goal.at.returns-then-is_at_limit-clause-keeps g c).After-ready

pub returns-clause-keeps : goal.returns-clause-keeps
returns-clause-keeps g c =
    let at = goal.at.returns-clause-keeps g c in
    let image = (g.P.Platform.history c.ready.new.platform).present in
    let over : KeepsKeys g.P.Platform.tells (g.T.Tape.drawn c.args.tape.now) (g.T.Tape.drawn c.args.tape.now) (g.P.Platform.history c.args.platform.now) (g.P.Platform.history c.ready.new.platform)
    (HoldsListed c.args.self.now (g.P.Platform.history c.args.platform.now).present) (λ keys. HoldsListed c.ready.new.self image keys × IsReadyFor image.readable c.args.block c.ready.new.self.grove c.in-Ok.is_mapped) =
    keeps_idle _ _ _ (g.P.Platform.history c.args.platform.now) (g.P.Platform.history c.ready.new.platform) (HoldsListed c.args.self.now (g.P.Platform.history c.args.platform.now).present) _ refl
    (λ told. During-step _ _ (λ image. image ≡ (g.P.Platform.history c.args.platform.now).present) (c.ready.ensures.looks.time told) refl (c.ready.ensures.looks.image told)) (λ told keys kept h. (c.ready.ensures.listed told keys h, (c.in-Ok.ensures.ready told h.holds.cached).ready)) in
    keeps_then _ _ _ _ _ (g.P.Platform.history c.ready.new.platform) _ _ _ _ _ _ over c.put.ensures.keeps (λ told keys kept h. h) (λ told keys more h done. done)

pub returns-clause-array : goal.returns-clause-array
returns-clause-array g c = λ told device contents h.
    let at = goal.at.returns-clause-array g c in
    let k = (c.ready.ensures.holds told device contents h).0 in
    let w = c.put.ensures.array told device contents k (c.in-Ok.ensures.ready told h.cached).ready in
    record {
      array = w.array;
      pages = λ pages are.
          let written = w.pages pages (looked_pages g at.After-ready pages are) in
          (written.0, subst (λ n. OnOk c.put.result (AreDataPages c.put.new.self (pages ++ record { block = c.args.block; addr = n } ∷ []))) c.ready.ensures.looks.head written.1);
    }

-- ---- on any pages

-- a count after a write that was done, where this says whether the block was mapped
counts_put : (result : Result (Unit {0}) WriteRefusal) (mapped is : Bool) (between before now : ℕ) → mapped ≡ is → between ≡ before → OnOk result (now ≡ counted_with mapped between) → (Is : Type 0) → (now ≡ counted_with is before → Is) → OnOk result Is
counts_put (Ok done) mapped is between before now same still counts Is then = let to : counted_with mapped between ≡ counted_with is before = λ i. counted_with (same i) (still i) in then (counts ∙ to)
counts_put (Err refusal) mapped is between before now same still counts Is then = tt

ok_then : (result : Result (Unit {0}) WriteRefusal) (A B : Type 0) → OnOk result A → (A → B) → OnOk result B
ok_then (Ok done) A B a f = f a
ok_then (Err refusal) A B a f = tt

has_put : (result : Result (Unit {0}) WriteRefusal) (pages after : List (List ℕ)) (session now : Session) (block : ℕ) (bytes : List ℕ) → OnOk result (CountsPut pages block session now) → OnOk result (LeavesPut pages after session now block bytes) → OnOk result (HasPut pages after session now block bytes)
has_put (Ok done) pages after session now block bytes counts left = record { counts = counts; left = left }
has_put (Err refusal) pages after session now block bytes counts left = tt

pub returns-in-Err-BadRecord-clause-damaged : goal.returns-in-Err-BadRecord-clause-damaged
returns-in-Err-BadRecord-clause-damaged g c = λ told addr is.
    let image = (g.P.Platform.history c.args.platform.now).present in
    let bad : StandsOver image.readable c.args.self.now.cache → IsWrongOnWay image.readable c.args.block c.args.self.now.grove addr = λ over. (c.ready.ensures.ready told over).bad addr (cc) in
    record {
      misfit = λ over. inl (bad over);
      damage = λ f.
          let wrong = update_is_wrong c.args.self.now image c.args.block addr (g.P.Platform.head c.args.platform.now) c.requires.open f (bad f.cached) in
          (inl wrong, inl (subst (λ (i : Image). Wrong i.readable c.args.self.now.root addr) (sym (c.ready.ensures.looks.image told)) wrong));
    }

pub returns-then-is_at_limit-clause-damaged : goal.returns-then-is_at_limit-clause-damaged
returns-then-is_at_limit-clause-damaged g c = λ told addr is.
    let image = (g.P.Platform.history c.ready.new.platform).present in
    let pages = (g.P.Platform.history c.args.platform.now).present.readable in
    let limit = c.is_at_limit.ensures.full c.if-is_at_limit.true in
    let at : c.self-2.inside.root.addr ≡ addr = cc in
    let named : addr ≡ c.args.self.now.root.addr = sym at ∙ ap (λ (s : Session). s.root.addr) c.self-2.view_is ∙ ap (λ (n : Root). n.addr) c.ready.ensures.goes_on.root in
    let small = subst (λ (n : Root). c.args.block < n.blocks) (sym c.ready.ensures.goes_on.root) (subst (λ (s : Session). c.args.block < s.root.blocks) c.self.view_is c.if-block-self.false) in
    let past : StandsOver pages c.args.self.now.cache → IsPastLimit pages c.args.self.now c.args.block addr = λ over. (
      named,
      limit_same c.args.self.now c.ready.new.self c.ready.ensures.goes_on.root c.ready.ensures.same.0 c.ready.ensures.same.2.level limit,
      subst (λ b. IsFound b pages c.args.self.now c.args.block) c.if-not-is_mapped.true (c.in-Ok.ensures.ready told over).found,
    ) in
    record {
      misfit = λ over. inr (past over);
      damage = λ f.
          let r = (c.in-Ok.ensures.ready told f.cached).ready in
          let miscounted = miscounted_full c.ready.new.self image c.args.block (g.P.Platform.head c.ready.new.platform) c.ready.ensures.goes_on.is_open small limit
          (λ mapped m. on_false c.in-Ok.is_mapped (LacksBlock c.args.block mapped) c.if-not-is_mapped.true (r.mapped mapped m).1) (c.ready.ensures.goes_on.follows told f) in
          (inr (past f.cached), inr (named, subst (IsMiscounted image.readable) c.ready.ensures.goes_on.root miscounted));
    }

pub returns-clause-damaged : goal.returns-clause-damaged
returns-clause-damaged g c = λ told addr is. absurd (rw is at c.put.ensures.cause)

pub returns-clause-written : goal.returns-clause-written
returns-clause-written g c = λ told h.
    let pages = (g.P.Platform.history c.args.platform.now).present.readable in
    let looked = (c.in-Ok.ensures.ready told h).found in
    let mid = (g.P.Platform.history c.ready.new.platform).present.readable in
    let after = (g.P.Platform.history c.put.new.platform).present.readable in
    let left = ok_then c.put.result _ (LeavesPut pages after c.args.self.now c.put.new.self c.args.block (padded c.args.content.now)) (c.put.ensures.left told (c.in-Ok.ensures.ready told h).ready) (λ l. record {
      content = l.content;
      others = λ other less apart.
          let within = subst (λ (r : Root). other < r.blocks) (sym c.ready.ensures.goes_on.root) less in
          let one = subst (λ (i : Image). KeepsBlock pages i.readable c.args.self.now c.ready.new.self other) (sym (c.ready.ensures.looks.image told)) (kept_keeps pages c.args.self.now c.ready.new.self other c.ready.ensures.same.2) in
          block_then pages mid after c.args.self.now c.ready.new.self c.put.new.self other one (l.others other within apart);
    }) in
    elim c.else-not-is_mapped.branch [
      | else-not-is_mapped-via-then-not-is_mapped+else-is_at_limit w ↦
          let room = room_same c.args.self.now c.ready.new.self c.ready.ensures.goes_on.root c.ready.ensures.same.0 c.ready.ensures.same.2.level (on_false w.is_at_limit.result (HasRoom c.ready.new.self) w.if-is_at_limit.false w.is_at_limit.ensures.room) in
          let lacks = subst (λ b. IsFound b pages c.args.self.now c.args.block) w.if-not-is_mapped.true looked in (
            has_put c.put.result _ _ _ _ _ _ (counts_put c.put.result c.in-Ok.is_mapped false c.ready.new.self.mapped c.args.self.now.mapped c.put.new.self.mapped w.if-not-is_mapped.true c.ready.ensures.same.0 c.put.ensures.counts (CountsPut pages c.args.block c.args.self.now c.put.new.self) (λ one. inr (lacks, room, one))) left,
            λ stop. inr room,
          )
      | else-not-is_mapped-via-else-not-is_mapped w ↦
          let has = subst (λ b. IsFound b pages c.args.self.now c.args.block) w.if-not-is_mapped.false looked in (
            has_put c.put.result _ _ _ _ _ _ (counts_put c.put.result c.in-Ok.is_mapped true c.ready.new.self.mapped c.args.self.now.mapped c.put.new.self.mapped w.if-not-is_mapped.false c.ready.ensures.same.0 c.put.ensures.counts (CountsPut pages c.args.block c.args.self.now c.put.new.self) (λ same. inl (has, same))) left,
            λ stop. inl has,
          )
    ]

-- ---- beside its purpose

pub returns-then-block-self-clause-goes_on : goal.returns-then-block-self-clause-goes_on
returns-then-block-self-clause-goes_on g c = goes_start _ _ _ _ c.requires.open

pub returns-then-head-capacity-clause-goes_on : goal.returns-then-head-capacity-clause-goes_on
returns-then-head-capacity-clause-goes_on g c = goes_start _ _ _ _ c.requires.open

pub returns-clause-goes_on : goal.returns-clause-goes_on
returns-clause-goes_on g c = goes_then _ _ _ _ _ _ _ _ _ _ c.ready.ensures.goes_on c.put.ensures.goes_on (λ told f. (told, (c.in-Ok.ensures.ready told f.cached).ready))

pub returns-then-block-self-clause-updates : goal.returns-then-block-self-clause-updates
returns-then-block-self-clause-updates g c = updates_none _ _ _ refl refl refl

pub returns-then-head-capacity-clause-updates : goal.returns-then-head-capacity-clause-updates
returns-then-head-capacity-clause-updates g c = updates_none _ _ _ refl refl refl

pub returns-in-Err-BadRecord-clause-updates : goal.returns-in-Err-BadRecord-clause-updates
returns-in-Err-BadRecord-clause-updates g c = updates_ready _ _ _ c.ready.ensures.same.0 c.ready.ensures.same.1 c.ready.ensures.same.2

pub returns-in-Err-PlatformFault-clause-updates : goal.returns-in-Err-PlatformFault-clause-updates
returns-in-Err-PlatformFault-clause-updates g c = updates_ready _ _ _ c.ready.ensures.same.0 c.ready.ensures.same.1 c.ready.ensures.same.2

pub returns-in-Err-Memory-clause-updates : goal.returns-in-Err-Memory-clause-updates
returns-in-Err-Memory-clause-updates g c = updates_ready _ _ _ c.ready.ensures.same.0 c.ready.ensures.same.1 c.ready.ensures.same.2

pub returns-then-is_at_limit-clause-updates : goal.returns-then-is_at_limit-clause-updates
returns-then-is_at_limit-clause-updates g c = updates_ready _ _ _ c.ready.ensures.same.0 c.ready.ensures.same.1 c.ready.ensures.same.2

pub returns-clause-updates : goal.returns-clause-updates
returns-clause-updates g c = updates_then _ _ _ _ c.ready.ensures.same.0 c.ready.ensures.same.1 c.ready.ensures.same.2 c.put.ensures.updates

pub returns-then-block-self-clause-grows : goal.returns-then-block-self-clause-grows
returns-then-block-self-clause-grows g c = grows_start _ _ _ _ _

pub returns-then-head-capacity-clause-grows : goal.returns-then-head-capacity-clause-grows
returns-then-head-capacity-clause-grows g c = grows_start _ _ _ _ _

pub returns-in-Err-BadRecord-clause-grows : goal.returns-in-Err-BadRecord-clause-grows
returns-in-Err-BadRecord-clause-grows g c = grows_looked _ _ _ _ _ _ c.ready.ensures.looks

pub returns-in-Err-PlatformFault-clause-grows : goal.returns-in-Err-PlatformFault-clause-grows
returns-in-Err-PlatformFault-clause-grows g c = grows_looked _ _ _ _ _ _ c.ready.ensures.looks

pub returns-in-Err-Memory-clause-grows : goal.returns-in-Err-Memory-clause-grows
returns-in-Err-Memory-clause-grows g c = grows_looked _ _ _ _ _ _ c.ready.ensures.looks

pub returns-then-is_at_limit-clause-grows : goal.returns-then-is_at_limit-clause-grows
returns-then-is_at_limit-clause-grows g c = grows_looked _ _ _ _ _ _ c.ready.ensures.looks

pub returns-clause-grows : goal.returns-clause-grows
returns-clause-grows g c = grows_then _ _ _ _ _ _ _ _ c.ready.ensures.looks c.put.ensures.grows
