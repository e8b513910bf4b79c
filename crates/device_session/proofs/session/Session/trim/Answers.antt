use Rattle.std.proofs.Common.{◌≡◌, ◌∙◌, ◌⊎◌, ◌||◌, ◌+◌, ◌<◌, ◌≤◌, ℕ, Bool, true, false, List, IsTrue, inl, inr, refl, sym, ap, subst, arith}
use Rattle.std.specs.Prelude.{None}
use Rattle.std.specs.FinMap as maps
use Rattle.sdbt_base.specs.Keys.{key_size}
use Rattle.platform.specs.Image.{Image}
use Rattle.root_codec.specs.declared.root.Root.{Root}
use Rattle.page_store.specs.Tree.{Mapped}
use Rattle.btree_twigs.specs.Stubs.{Stub}
use Rattle.btree_walk.specs.Sights.{StandsOver, ForgetsNone}
use Rattle.btree_update.specs.Held.{bound}
use Rattle.btree_update.specs.Maps.{HasBlock, LacksBlock}
use Rattle.btree_update.specs.Groves.{GroveMaps, IsWrongOnWay, grown_in}
use Rattle.grove_accounts.specs.Holding.{IsSameSize}
use Rattle.device_session.specs.Sessions.{Session}
use Rattle.device_session.specs.Open.{IsOpen, AreDataPages, needed_by}
use Rattle.device_session.specs.Holds.{Holds}
use Rattle.device_session.specs.Keys.{HoldsListed}
use Rattle.page_store.specs.Tree.{Wrong}
use Rattle.sdbt_base.specs.declared.lists.Unkept.{Unkept}
use Rattle.device_session.specs.Damage.{Follows, IsFound, IsUncounted, IsMiscounted, HasTaken}
use Rattle.device_session.specs.Reading.{KeepsBlock}
use Rattle.btree_update.proofs.KeepLaws.{TakesFrom, kept_same, taken}
use Rattle.device_session.proofs.KeepLaws.{same_keeps, kept_keeps, still_keeps, block_then}
use Rattle.device_session.proofs.GoingLaws.{goes_start, updates_none, updates_ready, updates_then}
use Rattle.device_session.specs.Ready.{IsReadyFor}
use Rattle.device_session.proofs.DamageLaws.{follows_removed, update_is_wrong, miscounted_empty}
use Rattle.device_session.proofs.UpdateLaws.{Removes, ready_pages, removed_pages, removed_open, removed_listed, trimmed, unmapped, counted, beside_anywhere, open_sound, with_removed, on_true, on_false}
use Rattle.device_session.specs.contracts.session.Session.{the_view}
use Rattle.device_session.proofs.session.Session.trim.Given.{Over}
use Rattle.device_session.proofs.session.Session.trim.Goals.{After-ready, After-remove}
use Rattle.device_session.proofs.session.Session.trim.Goals as goal

abbrev any : Stub → Bool
any s = true

-- ---- where the block isn't there, by the nodes in memory and the cache

pub lacks-requires-clause-within : goal.lacks-requires-clause-within
lacks-requires-clause-within g c =
    let o = subst (λ (s : Session). IsOpen s (g.P.Platform.head c.args.platform.now)) (sym c.self.view_is) c.requires in
    (g.P.Platform.head c.args.platform.now, key_size c.self.inside.root.version, omega (arith, g.met.P.Platform.has_room c.args.platform.now, g.met.P.Platform.is_limited c.args.platform.now), o.below)

pub returns-then-lacks-clause-array : goal.returns-then-lacks-clause-array
returns-then-lacks-clause-array g c = λ told device contents h.
    let image = (g.P.Platform.history c.args.platform.now).present in
    let k = subst (λ (s : Session). Holds s image device contents) (sym c.self.view_is) h in
    let u = unmapped (the_view c.self.inside) image device contents c.args.block (c.lacks.ensures.maps image.readable k.cached c.if-lacks.true) k in
    record { array = subst (λ (s : Session). Holds s image device (maps.remove contents c.args.block) × (s.is_touched ≡ (s.is_touched || maps.contains_key contents c.args.block))) c.self.view_is u; pages = λ pages are. are }

pub returns-then-lacks-clause-taken : goal.returns-then-lacks-clause-taken
returns-then-lacks-clause-taken g c = λ told over.
    let pages = (g.P.Platform.history c.args.platform.now).present.readable in
    let over' = subst (λ (s : Session). StandsOver pages s.cache) (sym c.self.view_is) over in
    let found = subst (λ (s : Session). IsFound false pages s c.args.block) c.self.view_is (c.lacks.ensures.found pages over' c.if-lacks.true) in
    record { counts = inl (found, refl); gone = found; others = λ other less apart. still_keeps pages c.args.self.now other }

pub returns-then-lacks-clause-goes_on : goal.returns-then-lacks-clause-goes_on
returns-then-lacks-clause-goes_on g c = goes_start _ _ _ _ c.requires

pub returns-then-lacks-clause-idle : goal.returns-then-lacks-clause-idle
returns-then-lacks-clause-idle g c = λ same. (refl, record { order = refl; blocks = refl; head = refl; level = refl; top = refl; gone = refl; never = refl })

pub returns-then-lacks-clause-updates : goal.returns-then-lacks-clause-updates
returns-then-lacks-clause-updates g c = updates_none _ _ _ refl refl refl

-- ---- the array

pub returns-then-block-self-clause-array : goal.returns-then-block-self-clause-array
returns-then-block-self-clause-array g c = λ told device contents h. record { array = h; pages = λ pages are. are }

-- a look leaves the pages
looked_pages : (g : Over) (c : After-ready g) (pages : List Unkept) → AreDataPages c.args.self.now pages → AreDataPages c.ready.new.self pages
looked_pages g c pages are = ready_pages c.args.self.now c.ready.new.self pages c.ready.ensures.goes_on.root c.ready.ensures.same.2 are

pub returns-in-Err-BadRecord-clause-array : goal.returns-in-Err-BadRecord-clause-array
returns-in-Err-BadRecord-clause-array g c = λ told device contents h. absurd ((c.ready.ensures.holds told device contents h).1 c.in-Err-BadRecord.addr (cc))

pub returns-in-Err-PlatformFault-clause-array : goal.returns-in-Err-PlatformFault-clause-array
returns-in-Err-PlatformFault-clause-array g c = λ told device contents h.
    record { array = (c.ready.ensures.holds told device contents h).0; pages = looked_pages g (goal.at.returns-in-Err-PlatformFault-clause-array g c).After-ready }

pub returns-in-Err-Memory-clause-array : goal.returns-in-Err-Memory-clause-array
returns-in-Err-Memory-clause-array g c = λ told device contents h.
    record { array = (c.ready.ensures.holds told device contents h).0; pages = looked_pages g (goal.at.returns-in-Err-Memory-clause-array g c).After-ready }

pub returns-then-not-is_mapped-clause-array : goal.returns-then-not-is_mapped-clause-array
returns-then-not-is_mapped-clause-array g c = λ told device contents h.
    let image = (g.P.Platform.history c.ready.new.platform).present in
    let k = (c.ready.ensures.holds told device contents h).0 in
    let r = (c.in-Ok.ensures.ready told h.cached).ready in
    let off : c.in-Ok.is_mapped ≡ false = c.if-not-is_mapped.true in
    let u = unmapped c.ready.new.self image device contents c.args.block (λ mapped m. on_false c.in-Ok.is_mapped (LacksBlock c.args.block mapped) off (r.mapped mapped m).1) k in
    record {
      array = (u.0, subst (λ b. c.ready.new.self.is_touched ≡ (b || maps.contains_key contents c.args.block)) c.ready.ensures.same.1 u.1);
      pages = looked_pages g (goal.at.returns-then-not-is_mapped-clause-array g c).After-ready;
    }

pub returns-then-self-eq0-clause-array : goal.returns-then-self-eq0-clause-array
returns-then-self-eq0-clause-array g c = λ told device contents h.
    let image = (g.P.Platform.history c.ready.new.platform).present in
    let k = (c.ready.ensures.holds told device contents h).0 in
    let r = (c.in-Ok.ensures.ready told h.cached).ready in
    let on : IsTrue c.in-Ok.is_mapped = c.if-not-is_mapped.false in
    let none : c.ready.new.self.mapped ≡ 0 = subst (λ (s : Session). s.mapped ≡ 0) c.self-2.view_is (omega (arith, c.if-self-eq0.true)) in
    absurd (counted c.ready.new.self image device contents c.args.block (λ mapped m. on_true c.in-Ok.is_mapped (HasBlock c.args.block mapped) on (r.mapped mapped m).0) k none)

-- ---- where the block was mapped

size : (g : Over) (c : After-remove g) → IsSameSize c.self-2.inside.grove c.remove.new.self
size g c = record { sound = c.remove.ensures.sound; order = c.remove.ensures.size.0; blocks = c.remove.ensures.size.1; head = c.remove.ensures.size.2 }

small : (g : Over) (c : After-remove g) → c.args.block < c.self-2.inside.root.blocks
small g c =
    let same : c.self-2.inside.root ≡ c.args.self.now.root = ap (λ (s : Session). s.root) c.self-2.view_is ∙ c.ready.ensures.goes_on.root in
    let less = subst (λ (s : Session). c.args.block < s.root.blocks) c.self.view_is c.if-block-self.false in
    subst (λ (r : Root). c.args.block < r.blocks) (sym same) less

is_ready : (g : Over) (c : After-remove g) → g.P.Platform.tells → StandsOver (g.P.Platform.history c.args.platform.now).present.readable c.args.self.now.cache → IsReadyFor (g.P.Platform.history c.ready.new.platform).present.readable c.args.block c.self-2.inside.grove c.in-Ok.is_mapped
is_ready g c told over = subst (λ (s : Session). IsReadyFor (g.P.Platform.history c.ready.new.platform).present.readable c.args.block s.grove c.in-Ok.is_mapped) (sym c.self-2.view_is) (c.in-Ok.ensures.ready told over).ready

was_mapped : (g : Over) (c : After-remove g) → IsTrue c.in-Ok.is_mapped
was_mapped g c = c.if-not-is_mapped.false

removes : (g : Over) (c : After-remove g) → g.P.Platform.tells → StandsOver (g.P.Platform.history c.args.platform.now).present.readable c.args.self.now.cache → Removes (g.P.Platform.history c.ready.new.platform).present c.args.block any c.self-2.inside.grove c.remove.new.self
removes g c told over =
    let r = is_ready g c told over in
    c.remove.ensures.goes (g.P.Platform.history c.ready.new.platform).present.readable any r.way (beside_anywhere _ c.args.block c.self-2.inside.grove (r.beside (was_mapped g c)))

was_open : (g : Over) (c : After-remove g) → IsOpen (the_view c.self-2.inside) (g.P.Platform.head c.ready.new.platform)
was_open g c = subst (λ (s : Session). IsOpen s (g.P.Platform.head c.ready.new.platform)) (sym c.self-2.view_is) c.ready.ensures.goes_on.is_open

has_block : (g : Over) (c : After-remove g) → g.P.Platform.tells → StandsOver (g.P.Platform.history c.args.platform.now).present.readable c.args.self.now.cache → (mapped : List Mapped) → GroveMaps (g.P.Platform.history c.ready.new.platform).present.readable c.self-2.inside.grove mapped → HasBlock c.args.block mapped
has_block g c told over mapped m = on_true c.in-Ok.is_mapped (HasBlock c.args.block mapped) (was_mapped g c) ((is_ready g c told over).mapped mapped m).0

pub returns-clause-array : goal.returns-clause-array
returns-clause-array g c = λ told device contents h.
    let at = (goal.at.returns-clause-array g c).After-remove in
    let session = the_view c.self-2.inside in
    let image = (g.P.Platform.history c.ready.new.platform).present in
    let pages = g.P.Platform.head c.ready.new.platform in
    let k = subst (λ (s : Session). Holds s image device contents) (sym c.self-2.view_is) (c.ready.ensures.holds told device contents h).0 in
    let r = removes g at told h.cached in
    record {
      array = trimmed session c.remove.new.self image device contents c.args.block pages any (was_open g at) (size g at) (small g at) r (has_block g at told h.cached) k c.args.self.now.is_touched;
      pages = λ written are. removed_pages session c.remove.new.self image device contents c.args.block any written r k (subst (λ (s : Session). AreDataPages s written) (sym c.self-2.view_is) (ready_pages c.args.self.now c.ready.new.self written c.ready.ensures.goes_on.root c.ready.ensures.same.2 are));
    }

pub returns-clause-listed : goal.returns-clause-listed
returns-clause-listed g c = λ told keys h.
    let at = goal.at.returns-clause-listed g c in
    let image = (g.P.Platform.history c.ready.new.platform).present in
    let k = subst (λ (s : Session). HoldsListed s image keys) (sym c.self-2.view_is) (c.ready.ensures.listed told keys h) in
    removed_listed (the_view c.self-2.inside) c.remove.new.self image keys c.args.block (g.P.Platform.head c.ready.new.platform) any (was_open g at.After-remove) (size g at.After-remove) (small g at.After-remove) (removes g at.After-remove told h.holds.cached) (has_block g at.After-remove told h.holds.cached) k

-- ---- on any pages

pub returns-in-Err-BadRecord-clause-damaged : goal.returns-in-Err-BadRecord-clause-damaged
returns-in-Err-BadRecord-clause-damaged g c = λ told addr is.
    let image = (g.P.Platform.history c.args.platform.now).present in
    let bad : StandsOver image.readable c.args.self.now.cache → IsWrongOnWay image.readable c.args.block c.args.self.now.grove addr = λ over. (c.ready.ensures.ready told over).bad addr (cc) in
    record {
      misfit = λ over. inl (bad over);
      damage = λ f.
          let wrong = update_is_wrong c.args.self.now image c.args.block addr (g.P.Platform.head c.args.platform.now) c.requires f (bad f.cached) in
          (inl wrong, inl (subst (λ (i : Image). Wrong i.readable c.args.self.now.root addr) (sym (c.ready.ensures.looks.image told)) wrong));
    }

pub returns-then-self-eq0-clause-damaged : goal.returns-then-self-eq0-clause-damaged
returns-then-self-eq0-clause-damaged g c = λ told addr is.
    let image = (g.P.Platform.history c.ready.new.platform).present in
    let pages = (g.P.Platform.history c.args.platform.now).present.readable in
    let on : IsTrue c.in-Ok.is_mapped = c.if-not-is_mapped.false in
    let none : c.ready.new.self.mapped ≡ 0 = subst (λ (s : Session). s.mapped ≡ 0) c.self-2.view_is (omega (arith, c.if-self-eq0.true)) in
    let at : c.self-2.inside.root.addr ≡ addr = cc in
    let named : addr ≡ c.args.self.now.root.addr = sym at ∙ ap (λ (s : Session). s.root.addr) c.self-2.view_is ∙ ap (λ (n : Root). n.addr) c.ready.ensures.goes_on.root in
    let uncounted : StandsOver pages c.args.self.now.cache → IsUncounted pages c.args.self.now c.args.block addr = λ over.
    (named, sym c.ready.ensures.same.0 ∙ none, subst (λ b. IsFound b pages c.args.self.now c.args.block) on (c.in-Ok.ensures.ready told over).found) in
    record {
      misfit = λ over. inr (uncounted over);
      damage = λ f.
          let r = (c.in-Ok.ensures.ready told f.cached).ready in
          let miscounted = miscounted_empty c.ready.new.self image c.args.block none (λ mapped m. on_true c.in-Ok.is_mapped (HasBlock c.args.block mapped) on (r.mapped mapped m).0) (c.ready.ensures.goes_on.follows told f) in
          (inr (uncounted f.cached), inr (named, subst (IsMiscounted image.readable) c.ready.ensures.goes_on.root miscounted));
    }

pub returns-then-not-is_mapped-clause-taken : goal.returns-then-not-is_mapped-clause-taken
returns-then-not-is_mapped-clause-taken g c = λ told h.
    let pages = (g.P.Platform.history c.args.platform.now).present.readable in
    let off : c.in-Ok.is_mapped ≡ false = c.if-not-is_mapped.true in
    let found = subst (λ b. IsFound b pages c.args.self.now c.args.block) off (c.in-Ok.ensures.ready told h).found in
    subst (λ (i : Image). HasTaken pages i.readable c.args.self.now c.ready.new.self c.args.block) (sym (c.ready.ensures.looks.image told)) (record {
      counts = inl (found, c.ready.ensures.same.0);
      gone = (kept_same pages c.args.self.now.grove c.ready.new.self.grove c.args.block c.ready.ensures.same.2 None).0 found;
      others = λ other less apart. kept_keeps pages c.args.self.now c.ready.new.self other c.ready.ensures.same.2;
    })

-- what the removal leaves of each look-up
takes_from : (g : Over) (c : After-remove g) → g.P.Platform.tells → StandsOver (g.P.Platform.history c.args.platform.now).present.readable c.args.self.now.cache → TakesFrom (g.P.Platform.history c.ready.new.platform).present.readable c.self-2.inside.grove c.remove.new.self c.args.block
takes_from g c told over =
    let o = open_sound (the_view c.self-2.inside) (g.P.Platform.head c.ready.new.platform) (was_open g c) in
    taken (g.P.Platform.history c.ready.new.platform).present.readable c.self-2.inside.grove c.remove.new.self c.args.block _ _ _ _ _ o.0 (omega (arith, small g c, o.1)) c.remove.ensures.sound.one c.remove.ensures.top c.remove.ensures.size.0 c.remove.ensures.size.1 (removes g c told over)

pub returns-clause-taken : goal.returns-clause-taken
returns-clause-taken g c = λ told h.
    let at = (goal.at.returns-clause-taken g c).After-remove in
    let pages = (g.P.Platform.history c.args.platform.now).present.readable in
    let after = (g.P.Platform.history c.ready.new.platform).present.readable in
    let on : c.in-Ok.is_mapped ≡ true = c.if-not-is_mapped.false in
    let same : c.self-2.inside.mapped ≡ c.args.self.now.mapped = ap (λ (s : Session). s.mapped) c.self-2.view_is ∙ c.ready.ensures.same.0 in
    let o = open_sound (the_view c.self-2.inside) (g.P.Platform.head c.ready.new.platform) (was_open g at) in
    let t = takes_from g at told h in
    let root : c.self-2.inside.root ≡ c.args.self.now.root = ap (λ (s : Session). s.root) c.self-2.view_is ∙ c.ready.ensures.goes_on.root in
    let now = with_removed (the_view c.self-2.inside) c.remove.new.self in
    record {
      counts = inr (subst (λ b. IsFound b pages c.args.self.now c.args.block) on (c.in-Ok.ensures.ready told h).found, omega (arith, same, c.if-self-eq0.false));
      gone = t.gone;
      others = λ other less apart.
          let within : other < c.self-2.inside.grove.blocks = subst (λ n. other < n) (sym (o.1 ∙ ap (λ (r : Root). r.blocks) root)) less in
          let one = subst (λ (i : Image). KeepsBlock pages i.readable c.args.self.now c.ready.new.self other) (sym (c.ready.ensures.looks.image told)) (kept_keeps pages c.args.self.now c.ready.new.self other c.ready.ensures.same.2) in
          let two = subst (λ (s : Session). KeepsBlock after after s now other) c.self-2.view_is (same_keeps after (the_view c.self-2.inside) now other (t.others other within apart)) in
          block_then pages after after c.args.self.now c.ready.new.self now other one two;
    }

-- ---- beside its purpose

pub returns-then-block-self-clause-goes_on : goal.returns-then-block-self-clause-goes_on
returns-then-block-self-clause-goes_on g c = goes_start _ _ _ _ c.requires

pub returns-clause-goes_on : goal.returns-clause-goes_on
returns-clause-goes_on g c =
    let at = (goal.at.returns-clause-goes_on g c).After-remove in
    let session = the_view c.self-2.inside in
    let image = (g.P.Platform.history c.ready.new.platform).present in
    let pages = g.P.Platform.head c.ready.new.platform in
    let o = was_open g at in
    record {
      follows = λ told f.
          let k = subst (λ (s : Session). Follows s image) (sym c.self-2.view_is) (c.ready.ensures.goes_on.follows told f) in
          let r = subst (IsReadyFor image.readable c.args.block c.self-2.inside.grove) (was_mapped g at) (is_ready g at told f.cached) in
          follows_removed session c.remove.new.self image c.args.block pages any o (size g at) (small g at) (removes g at told f.cached) r (λ mapped read beside maps. c.remove.ensures.maps image.readable mapped read beside maps) k;
      is_open = removed_open session c.remove.new.self pages (size g at) c.remove.ensures.top (level c.self-2.inside.grove.level c.remove.new.self.level c.remove.ensures.level o.level) (c.remove.ensures.below (bound pages (key_size c.self-2.inside.root.version)) o.below) o;
      root = ap (λ (s : Session). s.root) c.self-2.view_is ∙ c.ready.ensures.goes_on.root;
      forgets = subst (λ (s : Session). ForgetsNone c.args.self.now.cache s.cache) (sym c.self-2.view_is) c.ready.ensures.goes_on.forgets;
    }
  where
    level : (old new : ℕ) → (new ≡ old) ⊎ (new + 1 ≡ old) → old ≤ 20 → new ≤ 20
    level old new (inl e) le = omega (arith, e, le)
    level old new (inr e) le = omega (arith, e, le)

-- ---- what is touched

pub returns-then-block-self-clause-idle : goal.returns-then-block-self-clause-idle
returns-then-block-self-clause-idle g c = λ same. (refl, record { order = refl; blocks = refl; head = refl; level = refl; top = refl; gone = refl; never = refl })

pub returns-in-Err-BadRecord-clause-idle : goal.returns-in-Err-BadRecord-clause-idle
returns-in-Err-BadRecord-clause-idle g c = λ same. (c.ready.ensures.same.1, c.ready.ensures.same.2)

pub returns-in-Err-PlatformFault-clause-idle : goal.returns-in-Err-PlatformFault-clause-idle
returns-in-Err-PlatformFault-clause-idle g c = λ same. (c.ready.ensures.same.1, c.ready.ensures.same.2)

pub returns-in-Err-Memory-clause-idle : goal.returns-in-Err-Memory-clause-idle
returns-in-Err-Memory-clause-idle g c = λ same. (c.ready.ensures.same.1, c.ready.ensures.same.2)

pub returns-then-not-is_mapped-clause-idle : goal.returns-then-not-is_mapped-clause-idle
returns-then-not-is_mapped-clause-idle g c = λ same. (c.ready.ensures.same.1, c.ready.ensures.same.2)

pub returns-then-self-eq0-clause-idle : goal.returns-then-self-eq0-clause-idle
returns-then-self-eq0-clause-idle g c = λ same. (c.ready.ensures.same.1, c.ready.ensures.same.2)

pub returns-clause-idle : goal.returns-clause-idle
returns-clause-idle g c = λ same.
    let seen : c.self-2.inside.mapped ≡ c.ready.new.self.mapped = ap (λ (s : Session). s.mapped) c.self-2.view_is in
    absurd (omega (arith, same, seen, c.ready.ensures.same.0, c.if-self-eq0.false))

pub returns-then-block-self-clause-updates : goal.returns-then-block-self-clause-updates
returns-then-block-self-clause-updates g c = updates_none _ _ _ refl refl refl

pub returns-in-Err-BadRecord-clause-updates : goal.returns-in-Err-BadRecord-clause-updates
returns-in-Err-BadRecord-clause-updates g c = updates_ready _ _ _ c.ready.ensures.same.0 c.ready.ensures.same.1 c.ready.ensures.same.2

pub returns-in-Err-PlatformFault-clause-updates : goal.returns-in-Err-PlatformFault-clause-updates
returns-in-Err-PlatformFault-clause-updates g c = updates_ready _ _ _ c.ready.ensures.same.0 c.ready.ensures.same.1 c.ready.ensures.same.2

pub returns-in-Err-Memory-clause-updates : goal.returns-in-Err-Memory-clause-updates
returns-in-Err-Memory-clause-updates g c = updates_ready _ _ _ c.ready.ensures.same.0 c.ready.ensures.same.1 c.ready.ensures.same.2

pub returns-then-not-is_mapped-clause-updates : goal.returns-then-not-is_mapped-clause-updates
returns-then-not-is_mapped-clause-updates g c = updates_ready _ _ _ c.ready.ensures.same.0 c.ready.ensures.same.1 c.ready.ensures.same.2

pub returns-then-self-eq0-clause-updates : goal.returns-then-self-eq0-clause-updates
returns-then-self-eq0-clause-updates g c = updates_ready _ _ _ c.ready.ensures.same.0 c.ready.ensures.same.1 c.ready.ensures.same.2

pub returns-clause-updates : goal.returns-clause-updates
returns-clause-updates g c =
    let o = was_open g (goal.at.returns-clause-updates g c).After-remove in
    updates_then c.args.self.now c.ready.new.self _ _ c.ready.ensures.same.0 c.ready.ensures.same.1 c.ready.ensures.same.2 (record {
      needs = subst (λ (s : Session). grown_in c.remove.new.self ≤ needed_by s + 41) c.self-2.view_is (let grown = c.remove.ensures.grown in let low = o.level in omega (arith, grown, low));
      needs_still = tt;
      touched_still = tt;
      mapped_still = tt;
    })
