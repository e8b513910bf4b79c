use Rattle.std.proofs.Common.{◌≡◌, ◌∙◌, ℕ, [], ◌∷◌, ◌++◌, ◌+◌, ◌<◌, ◌≤◌, List, IsTrue, refl, sym, ap, subst, arith}
use Rattle.std.specs.Prelude.{Contains, Some, Err, length}
use Rattle.sdbt_base.specs.declared.lists.Unkept.{Unkept}
use Rattle.std.specs.Bool.{OnFalse}
use Rattle.std.specs.FinMap as maps
use Rattle.sdbt_base.specs.Arrays.{Device, Blocks, padded}
use Rattle.sdbt_base.specs.Keys.{bare, key_size, version_of}
use Rattle.platform.specs.Image.{with_page}
use Rattle.platform.proofs.Moments.{Extends-earlier, During-step, whole-now}
use Rattle.seal_record.specs.Sealing.{masked}
use Rattle.page_digest.specs.Digest.{FitsDigest}
use Rattle.node_codec.specs.Record.{DataRecord, record_bytes}
use Rattle.page_store.specs.Buffer.{Held}
use Rattle.page_store.specs.Keeping.{KeepsKeys, IsNextRecord}
use Rattle.page_store.proofs.KeepingLaws.{keeps_from}
use Rattle.btree_update.specs.Held.{bound, AreBelow}
use Rattle.btree_update.proofs.KeepLaws.{put}
use Rattle.btree_update.specs.Groves.{CanInsert, CanRemove, places_of, grown_in}
use Rattle.btree_twigs.specs.Stubs.{datum}
use Rattle.grove_accounts.specs.Holding.{Arrives, IsSameSize}
use Rattle.grove_accounts.proofs.FollowingLaws.{stays_later}
use Rattle.device_session.specs.Sessions.{Session}
use Rattle.device_session.specs.declared.refusals.WriteRefusal.{WriteRefusal}
use Rattle.device_session.specs.Changes.{WriteGrows}
use Rattle.btree_walk.proofs.ForgetLaws.{forgets_same}
use Rattle.device_session.specs.Going.{GoesOn, Updates}
use Rattle.device_session.specs.Open.{IsOpen, AreDataPages, needed_by}
use Rattle.device_session.proofs.GoingLaws.{updates_none}
use Rattle.device_session.specs.Holds.{Holds}
use Rattle.device_session.specs.Keys.{HoldsListed}
use Rattle.device_session.specs.Ready.{IsReadyFor, counted_with}
use Rattle.device_session.proofs.InsertLaws.{IsInsertion, with_inserted, arrived, padded_bytes, later_holds, later_listed, later_open, inserted_open, inserted_holds, inserted_listed, inserted_pages, below_more, level_stays, count_few, at_false, more_listed}
use Rattle.device_session.specs.Damage.{Follows, HasRoom}
use Rattle.device_session.specs.Reading.{KeepsBlock}
use Rattle.device_session.proofs.PageLaws.{read_later}
use Rattle.device_session.proofs.UpdateLaws.{open_sound}
use Rattle.device_session.proofs.DamageLaws.{are_alike, follows_later, follows_inserted}
use Rattle.device_session.proofs.KeepLaws.{alike_keeps, same_keeps, block_then}
use Rattle.device_session.specs.contracts.session.Session.{the_view}
use Rattle.device_session.proofs.session.Session.put.Given.{Over}
use Rattle.device_session.proofs.session.Session.put.Goals.{After-append, After-insert, In-Ok}
use Rattle.device_session.proofs.session.Session.put.Goals as goal

-- the session as the call finds it
here : (g : Over) (c : After-append g) → Session
here g c = the_view c.self.inside

is_open : (g : Over) (c : After-append g) → IsOpen (the_view c.self.inside) (g.P.Platform.head c.args.platform.now)
is_open g c = subst (λ (s : Session). IsOpen s (g.P.Platform.head c.args.platform.now)) (sym c.self.view_is) c.requires.open

small : (g : Over) (c : After-append g) → c.args.block < c.self.inside.root.blocks
small g c = subst (λ (s : Session). c.args.block < s.root.blocks) (sym c.self.view_is) c.requires.room.0

few : (g : Over) (c : After-append g) → c.args.block < 1048576
few g c = let o = is_open g c in omega (arith, small g c, o.served.in_range.blocks_most)

-- the body is the record of the block
body_is : (g : Over) (c : After-append g) → c.put_block.new.self.body ≡ record_bytes 1 (g.P.Platform.head c.args.platform.now) (DataRecord c.args.block (padded c.args.content.now))
body_is g c = ap (λ (b : Held). b.body) (c.put_block.ensures 1) ∙ ap (λ (n : ℕ). record_bytes 1 n (DataRecord c.args.block (padded c.args.content.now))) c.head-addr.ensures.value

size : (g : Over) (c : After-insert g) → IsSameSize c.self.inside.grove c.insert.new.self
size g c = record { sound = c.insert.ensures.sound; order = c.insert.ensures.size.0; blocks = c.insert.ensures.size.1; head = c.insert.ensures.size.2 }

-- the data record arrives
arrives : (g : Over) (c : In-Ok g) → g.P.Platform.tells → Arrives (g.P.Platform.history c.args.platform.now).present (g.P.Platform.history c.append.new.platform).present c.args.block c.in-Ok.placed.addr c.in-Ok.placed.key (padded c.args.content.now)
arrives g c told =
    let image = (g.P.Platform.history c.args.platform.now).present in
    let addr = c.in-Ok.placed.addr in
    let key = c.in-Ok.placed.key in
    let text = padded c.args.content.now in
    let address : addr ≡ g.P.Platform.head c.args.platform.now = c.in-Ok.ensures.placed.address in
    let body : c.put_block.new.self.body ≡ record_bytes (version_of key) addr (DataRecord c.args.block text) = ap (λ (b : Held). b.body) (c.put_block.ensures (version_of key)) ∙ ap (λ (n : ℕ). record_bytes (version_of key) n (DataRecord c.args.block text)) (c.head-addr.ensures.value ∙ sym address) in
    let o = subst (λ (s : Session). IsOpen s (g.P.Platform.head c.args.platform.now)) (sym c.self.view_is) c.requires.open in
    let to = subst (λ (s : Session). c.args.block < s.root.blocks) (sym c.self.view_is) c.requires.room.0 in
    arrived image (g.P.Platform.history c.append.new.platform).present c.args.block addr key text (whole-now (g.P.Platform.history c.args.platform.now)) (Extends-earlier _ _ (c.append.ensures.adds.time told).extends)
    (address ∙ sym (g.met.P.Platform.counts_pages told c.args.platform.now)) (omega (arith, address, g.met.P.Platform.has_room c.args.platform.now, g.met.P.Platform.is_limited c.args.platform.now))
    (omega (arith, to, o.served.in_range.blocks_most)) (padded_bytes c.args.content.now c.requires.size c.are_bytes.ensures)
    (subst (λ (b : List ℕ). FitsDigest key (masked key b)) body c.in-Ok.ensures.placed.digested)
    (c.in-Ok.ensures.placed.image told ∙ ap (λ (b : List ℕ). with_page image (masked key b) (masked key b)) body)

-- the insertion, over a tree that is ready for it
insertion : (g : Over) (c : After-insert g) → (g.P.Platform.tells → Arrives (g.P.Platform.history c.args.platform.now).present (g.P.Platform.history c.append.new.platform).present c.args.block c.in-Ok.placed.addr c.in-Ok.placed.key (padded c.args.content.now)) → g.P.Platform.tells → IsReadyFor (g.P.Platform.history c.args.platform.now).present.readable c.args.block c.args.self.now.grove c.args.is_mapped →
    IsInsertion (the_view c.self.inside) (g.P.Platform.history c.args.platform.now).present (g.P.Platform.history c.append.new.platform).present c.args.block c.in-Ok.placed.addr c.in-Ok.placed.key (padded c.args.content.now) c.args.is_mapped c.insert.new.self
insertion g c come told r =
    let image = (g.P.Platform.history c.args.platform.now).present in
    let o = subst (λ (s : Session). IsOpen s (g.P.Platform.head c.args.platform.now)) (sym c.self.view_is) c.requires.open in
    let ready = subst (λ (s : Session). IsReadyFor image.readable c.args.block s.grove c.args.is_mapped) (sym c.self.view_is) r in
    record {
      whole = whole-now (g.P.Platform.history c.args.platform.now);
      cell = c.append.ensures.adds.cell told;
      size = size g c;
      to = subst (λ (s : Session). c.args.block < s.root.blocks) (sym c.self.view_is) c.requires.room.0;
      arrives = come told;
      within = let pages = g.met.P.Platform.counts_pages told c.args.platform.now in omega (arith, pages, o.served.within);
      turns = c.insert.ensures.goes image.readable ready.way;
      ready = ready;
      pages = g.P.Platform.head c.args.platform.now;
      is_open = o;
    }

-- whatever became of the append
still_follows : (g : Over) (c : After-append g) → g.P.Platform.tells → Follows c.args.self.now (g.P.Platform.history c.args.platform.now).present → Follows (record (the_view c.self.inside) { buffers = c.append.new.self }) (g.P.Platform.history c.append.new.platform).present
still_follows g c told f =
    follows_later (the_view c.self.inside) c.append.new.self (g.P.Platform.history c.args.platform.now).present _ (g.P.Platform.head c.args.platform.now) (is_open g c) (sym (g.met.P.Platform.counts_pages told c.args.platform.now))
    (whole-now (g.P.Platform.history c.args.platform.now)) (Extends-earlier _ _ (c.append.ensures.adds.time told).extends) (subst (λ (s : Session). Follows s (g.P.Platform.history c.args.platform.now).present) (sym c.self.view_is) f)

-- an append that failed leaves the array and the pages
still_array : (g : Over) (c : After-append g) → g.P.Platform.tells → (device : Device) (contents : Blocks) → Holds c.args.self.now (g.P.Platform.history c.args.platform.now).present device contents → Holds (record (the_view c.self.inside) { buffers = c.append.new.self }) (g.P.Platform.history c.append.new.platform).present device contents
still_array g c told device contents h =
    later_holds (the_view c.self.inside) c.append.new.self _ _ device contents (whole-now (g.P.Platform.history c.args.platform.now)) (Extends-earlier _ _ (c.append.ensures.adds.time told).extends) (c.append.ensures.adds.cell told)
    (subst (λ (s : Session). Holds s (g.P.Platform.history c.args.platform.now).present device contents) (sym c.self.view_is) h)

still_pages : (g : Over) (c : After-append g) (pages : List Unkept) → AreDataPages c.args.self.now pages → AreDataPages (the_view c.self.inside) pages
still_pages g c pages are = subst (λ (s : Session). AreDataPages s pages) (sym c.self.view_is) are

pub returns-in-Err-TapeFault-clause-array : goal.returns-in-Err-TapeFault-clause-array
returns-in-Err-TapeFault-clause-array g c = λ told device contents h r.
    let at = (goal.at.returns-in-Err-TapeFault-clause-array g c).After-append in
    record { array = still_array g at told device contents h; pages = λ pages are. (still_pages g at pages are, tt) }

pub returns-in-Err-PlatformFault-clause-array : goal.returns-in-Err-PlatformFault-clause-array
returns-in-Err-PlatformFault-clause-array g c = λ told device contents h r.
    let at = (goal.at.returns-in-Err-PlatformFault-clause-array g c).After-append in
    record { array = still_array g at told device contents h; pages = λ pages are. (still_pages g at pages are, tt) }

still_goes_on : (g : Over) (c : After-append g) → GoesOn (g.P.Platform.tells × IsReadyFor (g.P.Platform.history c.args.platform.now).present.readable c.args.block c.args.self.now.grove c.args.is_mapped) (g.P.Platform.history c.args.platform.now).present
    (g.P.Platform.history c.append.new.platform).present (g.P.Platform.head c.append.new.platform) c.args.self.now (record (the_view c.self.inside) { buffers = c.append.new.self })
still_goes_on g c = record {
  follows = λ known f. still_follows g c known.0 f;
  is_open = later_open (the_view c.self.inside) c.append.new.self _ _ c.append.ensures.adds.grows.rises (is_open g c);
  root = ap (λ (s : Session). s.root) c.self.view_is;
  forgets = forgets_same _ _ (ap (λ (s : Session). s.cache) c.self.view_is);
}

pub returns-in-Err-PlatformFault-clause-goes_on : goal.returns-in-Err-PlatformFault-clause-goes_on
returns-in-Err-PlatformFault-clause-goes_on g c = still_goes_on g (goal.at.returns-in-Err-PlatformFault-clause-goes_on g c).After-append

pub returns-in-Err-TapeFault-clause-goes_on : goal.returns-in-Err-TapeFault-clause-goes_on
returns-in-Err-TapeFault-clause-goes_on g c = still_goes_on g (goal.at.returns-in-Err-TapeFault-clause-goes_on g c).After-append

still_updates : (g : Over) (c : After-append g) (refusal : WriteRefusal) → Updates c.args.self.now (record (the_view c.self.inside) { buffers = c.append.new.self }) (Err refusal)
still_updates g c refusal =
    subst (λ (s : Session). Updates s (record (the_view c.self.inside) { buffers = c.append.new.self }) (Err refusal)) c.self.view_is (updates_none (the_view c.self.inside) (record (the_view c.self.inside) { buffers = c.append.new.self }) (Err refusal) refl refl refl)

pub returns-in-Err-PlatformFault-clause-updates : goal.returns-in-Err-PlatformFault-clause-updates
returns-in-Err-PlatformFault-clause-updates g c = still_updates g (goal.at.returns-in-Err-PlatformFault-clause-updates g c).After-append _

pub returns-in-Err-TapeFault-clause-updates : goal.returns-in-Err-TapeFault-clause-updates
returns-in-Err-TapeFault-clause-updates g c = still_updates g (goal.at.returns-in-Err-TapeFault-clause-updates g c).After-append _

-- an append that was done or failed
grows : (g : Over) (c : After-append g) → WriteGrows g.P.Platform g.T.Tape 0 c.args.platform.now c.append.new.platform c.args.tape.now c.append.new.tape
grows g c = record {
  time = λ told. During-step _ _ (λ image. image.cell ≡ (g.P.Platform.history c.args.platform.now).present.cell) (c.append.ensures.adds.time told) refl (c.append.ensures.adds.cell told);
  by_one = c.append.ensures.adds.grows;
  reads = λ told. omega (arith, c.append.ensures.adds.reads told);
  changes = c.append.ensures.adds.changes;
  tape_faults = c.append.ensures.adds.tape_faults;
}

pub returns-in-Err-PlatformFault-clause-grows : goal.returns-in-Err-PlatformFault-clause-grows
returns-in-Err-PlatformFault-clause-grows g c = grows g (goal.at.returns-in-Err-PlatformFault-clause-grows g c).After-append

pub returns-in-Err-TapeFault-clause-grows : goal.returns-in-Err-TapeFault-clause-grows
returns-in-Err-TapeFault-clause-grows g c = grows g (goal.at.returns-in-Err-TapeFault-clause-grows g c).After-append

pub returns-clause-grows : goal.returns-clause-grows
returns-clause-grows g c = grows g (goal.at.returns-clause-grows g c).After-append

-- an append that failed keeps the keys
appends : (g : Over) (c : After-append g) (Done : List (List ℕ) → Type 0) → (g.P.Platform.tells → (keys more : List (List ℕ)) → HoldsListed (the_view c.self.inside) (g.P.Platform.history c.args.platform.now).present keys → IsReadyFor (g.P.Platform.history c.args.platform.now).present.readable c.args.block c.args.self.now.grove c.args.is_mapped →
    Done (keys ++ more)) →
    KeepsKeys g.P.Platform.tells (g.T.Tape.drawn c.args.tape.now) (g.T.Tape.drawn c.append.new.tape) (g.P.Platform.history c.args.platform.now) (g.P.Platform.history c.append.new.platform)
    (λ keys. HoldsListed c.args.self.now (g.P.Platform.history c.args.platform.now).present keys × IsReadyFor (g.P.Platform.history c.args.platform.now).present.readable c.args.block c.args.self.now.grove c.args.is_mapped) Done
appends g c Done done =
    let old = g.P.Platform.history c.args.platform.now in
    let value = DataRecord c.args.block (padded c.args.content.now) in
    keeps_from _ _ _ old _ (IsNextRecord old.present value) _ _ Done
    (c.append.ensures.keeps 1 value (few g c, padded_bytes c.args.content.now c.requires.size c.are_bytes.ensures) (body_is g c))
    (λ told keys h. record { device = Some h.0.device; stands = (c.args.self.now.root, h.0.holds.committed, h.0.holds.stands); listed = tt })
    (λ told keys more h then. done told keys more (subst (λ (s : Session). HoldsListed s old.present keys) (sym c.self.view_is) h.0) h.1)

pub returns-in-Err-TapeFault-clause-keeps : goal.returns-in-Err-TapeFault-clause-keeps
returns-in-Err-TapeFault-clause-keeps g c = appends g (goal.at.returns-in-Err-TapeFault-clause-keeps g c).After-append _ (λ told keys more h r.
    later_listed (the_view c.self.inside) c.append.new.self _ _ (keys ++ more) (whole-now (g.P.Platform.history c.args.platform.now)) (Extends-earlier _ _ (c.append.ensures.adds.time told).extends) (c.append.ensures.adds.cell told) (more_listed (the_view c.self.inside) _ keys more h))

pub returns-in-Err-PlatformFault-clause-keeps : goal.returns-in-Err-PlatformFault-clause-keeps
returns-in-Err-PlatformFault-clause-keeps g c = appends g (goal.at.returns-in-Err-PlatformFault-clause-keeps g c).After-append _ (λ told keys more h r.
    later_listed (the_view c.self.inside) c.append.new.self _ _ (keys ++ more) (whole-now (g.P.Platform.history c.args.platform.now)) (Extends-earlier _ _ (c.append.ensures.adds.time told).extends) (c.append.ensures.adds.cell told) (more_listed (the_view c.self.inside) _ keys more h))

-- ---- where the record was put

pub returns-clause-array : goal.returns-clause-array
returns-clause-array g c = λ told device contents h r.
    let at = goal.at.returns-clause-array g c in
    let session = the_view c.self.inside in
    let inserted = insertion g at.After-insert (arrives g at.In-Ok) told r in
    let k = subst (λ (s : Session). Holds s (g.P.Platform.history c.args.platform.now).present device contents) (sym c.self.view_is) h in
    let address : c.in-Ok.placed.addr ≡ g.P.Platform.head c.args.platform.now = c.in-Ok.ensures.placed.address in
    record {
      array = subst (λ n. Holds (with_inserted session c.insert.new.self n c.append.new.self) (g.P.Platform.history c.append.new.platform).present device (maps.insert contents c.args.block (padded c.args.content.now))) (sym c.count_with-self-inside.ensures)
          (inserted_holds session _ _ device contents c.args.block c.in-Ok.placed.addr c.in-Ok.placed.key (padded c.args.content.now) c.args.is_mapped c.insert.new.self c.append.new.self inserted k);
      pages = λ pages are. (
        tt,
        subst (λ n. AreDataPages (with_inserted session c.insert.new.self (counted_with c.args.is_mapped c.self.inside.mapped) c.append.new.self) (pages ++ record { block = c.args.block; addr = n } ∷ [])) address
            (inserted_pages session _ _ device contents c.args.block c.in-Ok.placed.addr c.in-Ok.placed.key (padded c.args.content.now) c.args.is_mapped c.insert.new.self c.append.new.self pages inserted k (still_pages g at.After-append pages are)),
      );
    }

pub returns-clause-goes_on : goal.returns-clause-goes_on
unfolding insertion
returns-clause-goes_on g c =
    let at = goal.at.returns-clause-goes_on g c in
    let session = the_view c.self.inside in
    let old = (g.P.Platform.history c.args.platform.now).present in
    let new = (g.P.Platform.history c.append.new.platform).present in
    let head = g.P.Platform.head c.args.platform.now in
    let now = g.P.Platform.head c.append.new.platform in
    let o = is_open g at.After-append in
    let grown : head + 1 ≡ now = omega (arith, c.in-Ok.ensures.placed.head) in
    let size_is = key_size c.self.inside.root.version in
    let below = c.insert.ensures.below (bound now size_is) (below_more head now size_is c.self.inside.grove (omega (arith, grown)) o.below) (omega (arith, c.in-Ok.ensures.placed.address, grown)) c.in-Ok.ensures.placed.key.0 in
    let limit = subst (λ (s : Session). OnFalse c.args.is_mapped (HasRoom s)) (sym c.self.view_is) c.requires.limit in
    let can = subst (λ (s : Session). CanInsert c.args.block s.grove × (IsTrue c.args.is_mapped → CanRemove c.args.block s.grove)) (sym c.self.view_is) c.requires.can in
    record {
      follows = λ known f.
          let k = subst (λ (s : Session). Follows s old) (sym c.self.view_is) f in
          subst (λ n. Follows (with_inserted session c.insert.new.self n c.append.new.self) new) (sym c.count_with-self-inside.ensures)
          (follows_inserted session _ _ c.args.block c.in-Ok.placed.addr c.in-Ok.placed.key (padded c.args.content.now) c.args.is_mapped c.insert.new.self c.append.new.self (insertion g at.After-insert (arrives g at.In-Ok) known.0 known.1)
          (sym (g.met.P.Platform.counts_pages known.0 c.args.platform.now)) (λ mapped content read maps there. c.insert.ensures.maps new.readable mapped content read maps there) k);
      is_open = subst (λ n. IsOpen (with_inserted session c.insert.new.self n c.append.new.self) now) (sym c.count_with-self-inside.ensures)
          (inserted_open session c.insert.new.self (counted_with c.args.is_mapped c.self.inside.mapped) c.append.new.self head now (size g at.After-insert) c.insert.ensures.top
          (level_stays c.args.is_mapped c.self.inside.grove.level c.insert.new.self.level (λ yes. c.insert.ensures.level.stays (can.1 yes)) c.insert.ensures.level.rises (at_false c.args.is_mapped _ _ (λ l. l.1) limit) o.level)
          below (count_few c.args.is_mapped c.self.inside.mapped c.self.inside.root.blocks (at_false c.args.is_mapped _ _ (λ l. l.0) limit) o.mapped) (omega (arith, grown)) o);
      root = ap (λ (s : Session). s.root) c.self.view_is;
      forgets = forgets_same _ _ (ap (λ (s : Session). s.cache) c.self.view_is);
    }

pub returns-clause-updates : goal.returns-clause-updates
returns-clause-updates g c =
    let o = is_open g (goal.at.returns-clause-updates g c).After-append in
    record {
      needs = subst (λ (s : Session). grown_in c.insert.new.self ≤ needed_by s + 41) c.self.view_is (let grown = c.insert.ensures.grown in let low = o.level in omega (arith, grown, low));
      needs_still = tt;
      touched_still = tt;
      mapped_still = tt;
    }

pub returns-clause-counts : goal.returns-clause-counts
returns-clause-counts g c = c.count_with-self-inside.ensures ∙ ap (λ (s : Session). counted_with c.args.is_mapped s.mapped) c.self.view_is

pub returns-clause-keeps : goal.returns-clause-keeps
returns-clause-keeps g c =
    let at = goal.at.returns-clause-keeps g c in
    let old = g.P.Platform.history c.args.platform.now in
    let value = DataRecord c.args.block (padded c.args.content.now) in
    keeps_from _ _ _ old _ (IsNextRecord old.present value) _ _ _
    (c.append.ensures.keeps 1 value (few g at.After-append, padded_bytes c.args.content.now c.requires.size c.are_bytes.ensures) (body_is g at.After-append))
    (λ told keys h. record { device = Some h.0.device; stands = (c.args.self.now.root, h.0.holds.committed, h.0.holds.stands); listed = tt })
    (λ told keys more h then.
    let k = subst (λ (s : Session). HoldsListed s old.present keys) (sym c.self.view_is) h.0 in
    let has : Contains (keys ++ more) (bare c.in-Ok.placed.key) = rw c.in-Ok.is at then in
    subst (λ n. HoldsListed (with_inserted (the_view c.self.inside) c.insert.new.self n c.append.new.self) (g.P.Platform.history c.append.new.platform).present (keys ++ more)) (sym c.count_with-self-inside.ensures)
    (inserted_listed (the_view c.self.inside) _ _ keys more c.args.block c.in-Ok.placed.addr c.in-Ok.placed.key (padded c.args.content.now) c.args.is_mapped c.insert.new.self c.append.new.self (insertion g at.After-insert (arrives g at.In-Ok) told h.1) k has))

pub returns-clause-adds : goal.returns-clause-adds
returns-clause-adds g c =
    let address : c.in-Ok.placed.addr ≡ g.P.Platform.head c.args.platform.now = c.in-Ok.ensures.placed.address in (
      c.in-Ok.ensures.placed.head,
      record {
        key = c.in-Ok.placed.key;
        drew = c.in-Ok.ensures.placed.drew;
        place = subst (λ n. Contains (places_of c.insert.new.self) (datum c.args.block n c.in-Ok.placed.key)) address c.insert.ensures.has;
      },
    )

-- ---- on any pages

pub returns-clause-left : goal.returns-clause-left
returns-clause-left g c = λ told r.
    let at = goal.at.returns-clause-left g c in
    let session = the_view c.self.inside in
    let old = (g.P.Platform.history c.args.platform.now).present in
    let new = (g.P.Platform.history c.append.new.platform).present in
    let head = g.P.Platform.head c.args.platform.now in
    let size_is = key_size c.self.inside.root.version in
    let come = arrives g at.In-Ok told in
    let opened = is_open g at.After-append in
    let o = open_sound session head opened in
    let ready = subst (λ (s : Session). IsReadyFor old.readable c.args.block s.grove c.args.is_mapped) (sym c.self.view_is) r in
    let way = read_later old.readable new.readable c.args.block c.self.inside.grove (stays_later old new come.earlier) ready.way in
    let less : c.args.block < c.self.inside.grove.blocks = omega (arith, small g at.After-append, o.1) in
    let p = put new.readable c.self.inside.grove c.insert.new.self c.args.block c.in-Ok.placed.addr c.in-Ok.placed.key _ _ _ _ _ o.0 less c.insert.ensures.sound.one c.insert.ensures.top c.insert.ensures.size.0 c.insert.ensures.size.1 (c.insert.ensures.goes new.readable way) in
    let now = with_inserted session c.insert.new.self c.count_with-self-inside.result c.append.new.self in
    let below = subst (λ n. AreBelow (bound n size_is) (places_of c.self.inside.grove)) (sym (g.met.P.Platform.counts_pages told c.args.platform.now)) opened.below in
    record {
      content = record { found = Some (record { low = c.args.block; addr = c.in-Ok.placed.addr; key = c.in-Ok.placed.key }); finds = p.here; reads = (come.there, (refl, refl)) };
      others = λ other within apart.
          let to : other < c.self.inside.grove.blocks = subst (λ (n : ℕ). other < n) (sym (o.1 ∙ ap (λ (s : Session). s.root.blocks) c.self.view_is)) within in
          let one = alike_keeps (bound (length old.recorded) size_is) old.readable new.readable session other o.0 to below (are_alike old new come.earlier) in
          let two = same_keeps new.readable session now other (p.others other to apart) in
          subst (λ (s : Session). KeepsBlock old.readable new.readable s now other) c.self.view_is (block_then old.readable new.readable new.readable session session now other one two);
    }
