-- What a call leaves of a session beside its purpose.
use Rattle.std.proofs.Common.{◌≡◌, ◌+◌, ◌≤◌, ℕ, refl, sym, subst, ◌∙◌, arith}
use Rattle.std.specs.Prelude.{Result, Ok, Err, OnErr}
use Rattle.sdbt_base.specs.declared.tapes.Tape.{Ghosts as TapeGhosts}
use Rattle.platform.specs.declared.platforms.Platform.{Ghosts}
use Rattle.platform.specs.Image.{Image}
use Rattle.platform.proofs.CallLaws.{looks_start}
use Rattle.device_terms.proofs.MomentLaws.{stays_then}
use Rattle.node_codec.specs.declared.body.NodeBody.{NodeBody}
use Rattle.page_store.specs.Buffer.{Held}
use Rattle.node_cache.specs.Cached.{Cached}
use Rattle.btree_twigs.specs.Stubs.{nodes}
use Rattle.btree_walk.specs.Looks.{Looks as WalkLooks}
use Rattle.btree_walk.specs.Sights.{StandsOver, ForgetsNone}
use Rattle.btree_walk.proofs.ForgetLaws.{forgets_same, forgets_then}
use Rattle.btree_update.specs.declared.groves.Grove.{Grove}
use Rattle.btree_update.specs.Groves.{KeepsTree, IsSound, grown_in}
use Rattle.device_session.specs.Sessions.{Session}
use Rattle.device_session.specs.Open.{IsOpen, needed_by}
use Rattle.device_session.specs.Damage.{Follows}
use Rattle.device_session.specs.Changes.{WriteGrows}
use Rattle.device_session.specs.Going.{GoesOn, ForgetsNothing, Updates}
use Rattle.device_session.proofs.SessionLaws.{walk_looks}
use Rattle.device_session.proofs.DamageLaws.{follows_looked, follows_ready}
use Rattle.device_session.proofs.UpdateLaws.{with_ready, ready_open}

-- ---- what a session's cache forgets

pub forgets_nothing : (session : Session) → ForgetsNothing session session
forgets_nothing session = forgets_same session.cache session.cache refl

pub forgets_nothing_then : (session between now : Session) → ForgetsNothing session between → ForgetsNothing between now → ForgetsNothing session now
forgets_nothing_then session between now = forgets_then session.cache between.cache now.cache

-- ---- a session that goes on

-- nothing was done
pub goes_start : (Known : Type 0) (image : Image) (pages : ℕ) (session : Session) → IsOpen session pages → GoesOn Known image image pages session session
goes_start Known image pages session o = record { follows = λ known f. f; is_open = o; root = refl; forgets = forgets_nothing session }

-- one call after another, of which the second knows what the first one leaves
pub goes_then : (Known Next : Type 0) (image mid after : Image) (pages more : ℕ) (session between now : Session) → GoesOn Known image mid pages session between → GoesOn Next mid after more between now
    → (Known → Follows session image → Next) → GoesOn Known image after more session now
goes_then Known Next image mid after pages more session between now one two next = record {
  follows = λ known f. two.follows (next known f) (one.follows known f);
  is_open = two.is_open;
  root = two.root ∙ one.root;
  forgets = forgets_nothing_then session between now one.forgets two.forgets;
}

looked_open : (session : Session) (cache : Cached) (buffers : Held) (node : NodeBody) (pages : ℕ) → IsOpen session pages → IsOpen (record session { cache = cache; buffers = buffers; node = node }) pages
looked_open session cache buffers node pages o = record { served = o.served; mapped = o.mapped; tree = o.tree; level = o.level; below = o.below }

-- a look
pub goes_looked : (Known : Type 0) (image after : Image) (pages more : ℕ) (was session : Session) (cache : Cached) (buffers : Held) (node : NodeBody) → session ≡ was → (Known → after ≡ image) → more ≡ pages → (Known → StandsOver image.readable session.cache → StandsOver image.readable cache)
    → ForgetsNone session.cache cache → IsOpen was pages → GoesOn Known image after more was (record session { cache = cache; buffers = buffers; node = node })
goes_looked Known image after pages more was session cache buffers node same still head keeps forgets o =
    subst (λ (s : Session). GoesOn Known image after more s (record session { cache = cache; buffers = buffers; node = node })) same (record {
      follows = λ known f. follows_looked session cache buffers node image after (still known) (keeps known) f;
      is_open = subst (IsOpen (record session { cache = cache; buffers = buffers; node = node })) (sym head) (looked_open session cache buffers node pages (subst (λ (s : Session). IsOpen s pages) (sym same) o));
      root = refl;
      forgets = forgets;
    })

-- a look that brings nodes into memory
pub goes_ready : (Known : Type 0) (image after : Image) (pages more : ℕ) (was session : Session) (grove : Grove) (cache : Cached) (buffers : Held) (node : NodeBody) → session ≡ was → (Known → after ≡ image) → more ≡ pages → KeepsTree session.grove grove → IsSound grove
    → (Known → StandsOver image.readable session.cache → StandsOver image.readable cache) → ForgetsNone session.cache cache → IsOpen was pages → GoesOn Known image after more was (with_ready session grove cache buffers node)
goes_ready Known image after pages more was session grove cache buffers node same still head tree sound keeps forgets o =
    subst (λ (s : Session). GoesOn Known image after more s (with_ready session grove cache buffers node)) same (record {
      follows = λ known f. follows_ready session grove cache buffers node image after (still known) tree (keeps known) f;
      is_open = ready_open session grove cache buffers node pages more head tree sound (subst (λ (s : Session). IsOpen s pages) (sym same) o);
      root = refl;
      forgets = forgets;
    })

-- ---- what a commit needs

still : {E : Type 0} (P : Type 0) (result : Result (Unit {0}) E) → P → OnErr result P
still P (Ok done) h = tt
still P (Err refusal) h = h

needed_ready : (old new : Grove) → KeepsTree old new → grown_in new ≡ grown_in old
needed_ready old new k = let level = k.level in let top = k.top in (λ i. nodes (level i) (top i))

-- nothing was changed
pub updates_none : {E : Type 0} (session now : Session) (result : Result (Unit {0}) E) → needed_by now ≡ needed_by session → now.is_touched ≡ session.is_touched → now.mapped ≡ session.mapped → Updates session now result
updates_none session now result needs touched mapped = record {
  needs = omega (arith, needs);
  needs_still = still (needed_by now ≡ needed_by session) result needs;
  touched_still = still (now.is_touched ≡ session.is_touched) result touched;
  mapped_still = still (now.mapped ≡ session.mapped) result mapped;
}

-- an update after a look
pub updates_then : {E : Type 0} (session between now : Session) (result : Result (Unit {0}) E) → between.mapped ≡ session.mapped → between.is_touched ≡ session.is_touched → KeepsTree session.grove between.grove → Updates between now result → Updates session now result
updates_then session between now result mapped touched tree u =
    let same = needed_ready session.grove between.grove tree in
    record {
      needs = subst (λ n. needed_by now ≤ n + 41) same u.needs;
      needs_still = subst (λ n. OnErr result (needed_by now ≡ n)) same u.needs_still;
      touched_still = subst (λ b. OnErr result (now.is_touched ≡ b)) touched u.touched_still;
      mapped_still = subst (λ n. OnErr result (now.mapped ≡ n)) mapped u.mapped_still;
    }

-- a look alone
pub updates_ready : {E : Type 0} (session now : Session) (result : Result (Unit {0}) E) → now.mapped ≡ session.mapped → now.is_touched ≡ session.is_touched → KeepsTree session.grove now.grove → Updates session now result
updates_ready session now result mapped touched tree = updates_none session now result (needed_ready session.grove now.grove tree) touched mapped

-- ---- what a write is beside its purpose

pub grows_start : {S R : Type 0} (P : Ghosts S) (T : TapeGhosts R) (most : ℕ) (platform : S) (tape : R) → WriteGrows P T most platform platform tape tape
grows_start P T most platform tape = record {
  time = (looks_start P platform).time;
  by_one = record { rises = omega arith; by_one = omega arith; capacity = refl; faults = omega arith };
  reads = λ told. omega arith;
  changes = λ told. refl;
  tape_faults = omega arith;
}

-- after a look
pub grows_then : {S R : Type 0} (P : Ghosts S) (T : TapeGhosts R) (most : ℕ) (platform mid platform_now : S) (tape tape_now : R) → WalkLooks P most platform mid → WriteGrows P T 0 mid platform_now tape tape_now → WriteGrows P T most platform platform_now tape tape_now
grows_then P T most platform mid platform_now tape tape_now looks g =
    let by = g.by_one in
    let head = looks.head in
    let faults = looks.faults in
    record {
      time = λ told. stays_then (P.history platform) (P.history mid) (P.history platform_now) ((walk_looks P most platform mid looks).time told) (g.time told);
      by_one = record { rises = omega (arith, by.rises, head); by_one = omega (arith, by.by_one, head); capacity = by.capacity ∙ looks.capacity; faults = omega (arith, by.faults, faults) };
      reads = λ told. omega (arith, looks.reads_most told, g.reads told);
      changes = λ told. g.changes told ∙ looks.changes told;
      tape_faults = g.tape_faults;
    }

pub grows_looked : {S R : Type 0} (P : Ghosts S) (T : TapeGhosts R) (most : ℕ) (platform platform_now : S) (tape : R) → WalkLooks P most platform platform_now → WriteGrows P T most platform platform_now tape tape
grows_looked P T most platform platform_now tape looks = grows_then P T most platform platform_now platform_now tape tape looks (grows_start P T 0 platform_now tape)
