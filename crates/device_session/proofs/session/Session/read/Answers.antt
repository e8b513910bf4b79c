use Rattle.std.proofs.Common.{◌≡◌, ◌∙◌, ◌<◌, ℕ, Err, None, Some, inl, inr, refl, ap, sym, subst, arith}
use Rattle.std.specs.Prelude.{box_value, replicate}
use Rattle.sdbt_base.specs.Arrays.{Device, Blocks}
use Rattle.sdbt_base.specs.Keys.{key_size}
use Rattle.platform.specs.Image.{Image}
use Rattle.node_codec.specs.Record.{DataRecord}
use Rattle.page_store.specs.Places.{FitsAt, NothingFits, block_want}
use Rattle.btree_walk.specs.Mapped.{IsMappedAs}
use Rattle.btree_walk.specs.Sights.{StandsOver}
use Rattle.btree_update.specs.Finding.{GroveFinds, GroveStops}
use Rattle.device_session.specs.Sessions.{Session}
use Rattle.device_session.specs.Holds.{Holds}
use Rattle.device_session.specs.Open.{IsOpen}
use Rattle.device_session.proofs.ReadLaws.{held_array, holds_looked, content_none, entry_read, entry_fits}
use Rattle.device_session.proofs.CostLaws.{few_none, few_found}
use Rattle.page_store.specs.Buffer.{Held}
use Rattle.device_session.specs.Going.{GoesOn}
use Rattle.device_session.specs.Keys.{StaysListed}
use Rattle.device_session.proofs.DamageLaws.{misfit_wrong}
use Rattle.device_session.proofs.ChangedLaws.{changed_read}
use Rattle.device_session.proofs.GoingLaws.{goes_start, goes_looked}
use Rattle.device_session.proofs.KeyLaws.{listed_looked}
use Rattle.device_session.specs.contracts.session.Session.{the_view}
use Rattle.device_session.proofs.session.Session.read.Given.{Over}
use Rattle.device_session.proofs.session.Session.read.Goals.{After-find, In-Some}
use Rattle.std.proofs.lemmas.Result.{err_from_is_err_and}
use Rattle.device_session.proofs.ReadLaws.{refused_bad, refused_array}
use Rattle.device_session.proofs.session.Session.read.Goals as goal

-- the session that was looked at
held : (g : Over) (c : After-find g) → (device : Device) (contents : Blocks) → Holds c.args.self.now (g.P.Platform.history c.args.platform.now).present device contents → Holds (the_view c.self.inside) (g.P.Platform.history c.args.platform.now).present device contents
held g c device contents h = subst (λ (s : Session). Holds s (g.P.Platform.history c.args.platform.now).present device contents) (sym c.self.view_is) h

cached : (g : Over) (c : After-find g) → StandsOver (g.P.Platform.history c.args.platform.now).present.readable c.args.self.now.cache → StandsOver (g.P.Platform.history c.args.platform.now).present.readable (the_view c.self.inside).cache
cached g c h = subst (λ (s : Session). StandsOver (g.P.Platform.history c.args.platform.now).present.readable s.cache) (sym c.self.view_is) h

-- what a look leaves
goes : (g : Over) (c : After-find g) (buffers : Held) (after : Image) (pages : ℕ) → (g.P.Platform.tells → after ≡ (g.P.Platform.history c.args.platform.now).present) → pages ≡ g.P.Platform.head c.args.platform.now →
    GoesOn g.P.Platform.tells (g.P.Platform.history c.args.platform.now).present after pages c.args.self.now (record (the_view c.self.inside) { cache = c.find.new.reader.cache; buffers = buffers; node = box_value c.find.new.reader.node })
goes g c buffers after pages still head =
    goes_looked g.P.Platform.tells (g.P.Platform.history c.args.platform.now).present after (g.P.Platform.head c.args.platform.now) pages c.args.self.now (the_view c.self.inside) c.find.new.reader.cache buffers (box_value c.find.new.reader.node) c.self.view_is still head c.find.ensures.caches.stands c.find.ensures.caches.forgets c.requires.open

listed : (g : Over) (c : After-find g) (buffers : Held) (after : Image) → g.P.Platform.tells → after ≡ (g.P.Platform.history c.args.platform.now).present →
    StaysListed (g.P.Platform.history c.args.platform.now).present after c.args.self.now (record (the_view c.self.inside) { cache = c.find.new.reader.cache; buffers = buffers; node = box_value c.find.new.reader.node })
listed g c buffers after told still = listed_looked c.args.self.now (the_view c.self.inside) c.find.new.reader.cache buffers (box_value c.find.new.reader.node) (g.P.Platform.history c.args.platform.now).present after c.self.view_is still (c.find.ensures.caches.stands told) (c.find.ensures.caches.among told)

pub returns-in_err-found-clause-array : goal.returns-in_err-found-clause-array
returns-in_err-found-clause-array g c =
    let p = err_from_is_err_and c.from_residual.result c.from_residual.ensures.1 in
    rw (p.1, p.2) (λ told device contents h.
    let k = held g (goal.at.returns-in_err-found-clause-array g c).After-find device contents h in
    let a = held_array (the_view c.self.inside) (g.P.Platform.history c.args.platform.now).present device contents k in
    let after = holds_looked (the_view c.self.inside) c.find.new.reader.cache c.find.new.reader.buffers (box_value c.find.new.reader.node) _ _ device contents (c.find.ensures.looks.image told) (c.find.ensures.caches.stands told) (c.find.ensures.caches.among told) k in
    (after, refused_array contents c.args.block c.args.out.now c.in_err-found.field-0.0 (λ addr is. c.in_err-found.ensures.fits told k.cached a.mapped a.maps_are addr (ap Err is))))

pub returns-in_err-found-clause-misfit : goal.returns-in_err-found-clause-misfit
returns-in_err-found-clause-misfit g c =
    let p = err_from_is_err_and c.from_residual.result c.from_residual.ensures.1 in
    rw (p.1, p.2) (λ told h addr is.
    let bad = refused_bad c.in_err-found.field-0.0 addr (cc) in
    let stops = c.in_err-found.ensures.bad told (cached g (goal.at.returns-in_err-found-clause-misfit g c).After-find h) addr (ap Err bad) in
    inl (subst (λ (s : Session). GroveStops (g.P.Platform.history c.args.platform.now).present.readable c.args.block addr s.grove) c.self.view_is stops))

-- a block that the tree lacks
pub returns-in_default-clause-array : goal.returns-in_default-clause-array
returns-in_default-clause-array g c = λ told device contents h.
    let k = held g (goal.at.returns-in_default-clause-array g c).After-find device contents h in
    let a = held_array (the_view c.self.inside) (g.P.Platform.history c.args.platform.now).present device contents k in
    let none = subst (IsMappedAs a.mapped c.args.block) c.in_default.is (c.in_ok-found.ensures.maps told k.cached a.mapped a.maps_are) in (
      holds_looked (the_view c.self.inside) c.find.new.reader.cache c.find.new.reader.buffers (box_value c.find.new.reader.node) _ _ device contents (c.find.ensures.looks.image told) (c.find.ensures.caches.stands told) (c.find.ensures.caches.among told) k,
      c.fill.ensures.after (λ y same. same) ∙ ap (λ (n : ℕ). replicate n 0) c.requires.size ∙ sym (content_none a.mapped contents c.args.block a.contents_are none),
    )

pub returns-in_default-clause-finds : goal.returns-in_default-clause-finds
returns-in_default-clause-finds g c = λ told h.
    let finds = c.in_ok-found.ensures.found told (cached g (goal.at.returns-in_default-clause-finds g c).After-find h) in
    record {
      found = None;
      finds = subst (λ (s : Session). GroveFinds (g.P.Platform.history c.args.platform.now).present.readable c.args.block s.grove None) c.self.view_is (subst (GroveFinds (g.P.Platform.history c.args.platform.now).present.readable c.args.block (the_view c.self.inside).grove) c.in_default.is finds);
      reads = c.fill.ensures.after (λ y same. same) ∙ ap (λ (n : ℕ). replicate n 0) c.requires.size;
    }

-- the entry that was found
found : (g : Over) (c : In-Some g) → g.P.Platform.tells → StandsOver (g.P.Platform.history c.args.platform.now).present.readable c.args.self.now.cache → GroveFinds (g.P.Platform.history c.args.platform.now).present.readable c.args.block c.args.self.now.grove (Some c.in-Some.entry)
found g c told h =
    let pages = (g.P.Platform.history c.args.platform.now).present.readable in
    let over = subst (λ (s : Session). StandsOver pages s.cache) (sym c.self.view_is) h in
    let finds = c.in_ok-found.ensures.found told over in
    subst (λ (s : Session). GroveFinds pages c.args.block s.grove (Some c.in-Some.entry)) c.self.view_is (subst (GroveFinds pages c.args.block (the_view c.self.inside).grove) c.in-Some.is finds)

pub find-requires-clause-within : goal.find-requires-clause-within
find-requires-clause-within g c =
    let o = subst (λ (s : Session). IsOpen s (g.P.Platform.head c.args.platform.now)) (sym c.self.view_is) c.requires.open in
    (key_size c.self.inside.root.version, o.below)

pub read_block-requires-clause-within : goal.read_block-requires-clause-within
read_block-requires-clause-within g c = subst (λ n. c.in-Some.entry.addr < n) (sym c.find.ensures.looks.head) ((rw c.in-Some.is at c.in_ok-found.ensures.entry).1)

pub returns-clause-array : goal.returns-clause-array
returns-clause-array g c = λ told device contents h.
    let at = goal.at.returns-clause-array g c in
    let old = g.P.Platform.history c.args.platform.now in
    let looked = g.P.Platform.history c.find.new.platform in
    let k = held g at.After-find device contents h in
    let a = held_array (the_view c.self.inside) old.present device contents k in
    let some = subst (IsMappedAs a.mapped c.args.block) c.in-Some.is (c.in_ok-found.ensures.maps told k.cached a.mapped a.maps_are) in
    let small = (rw c.in-Some.is at c.in_ok-found.ensures.entry).1 in
    let there = subst (λ (i : Image). FitsAt i.readable (block_want c.in-Some.entry.addr c.args.block) c.in-Some.entry.key (DataRecord c.args.block c.read_block.new.out)) (c.find.ensures.looks.image told) (c.in_ok-read_block.ensures.fits told) in (
      holds_looked (the_view c.self.inside) c.find.new.reader.cache c.read_block.new.buffers (box_value c.find.new.reader.node) old.present (g.P.Platform.history c.read_block.new.platform).present device contents (c.read_block.ensures.looks.image told ∙ c.find.ensures.looks.image told) (c.find.ensures.caches.stands told) (c.find.ensures.caches.among told) k,
      entry_read old.present (the_view c.self.inside).grove contents c.args.block c.in-Some.entry c.read_block.new.out a some (omega (arith, small, g.met.P.Platform.has_room c.args.platform.now, g.met.P.Platform.is_limited c.args.platform.now)) there.0,
    )

pub returns-clause-finds : goal.returns-clause-finds
returns-clause-finds g c = λ told h. record {
  found = Some c.in-Some.entry;
  finds = found g (goal.at.returns-clause-finds g c).In-Some told h;
  reads = subst (λ (i : Image). FitsAt i.readable (block_want c.in-Some.entry.addr c.args.block) c.in-Some.entry.key (DataRecord c.args.block c.read_block.new.out)) (c.find.ensures.looks.image told) (c.in_ok-read_block.ensures.fits told);
}

pub returns-in_err-read_block-clause-array : goal.returns-in_err-read_block-clause-array
returns-in_err-read_block-clause-array g c =
    let p = err_from_is_err_and c.from_residual-in_err-read_block.result c.from_residual-in_err-read_block.ensures.1 in
    rw (p.1, p.2) (λ told device contents h.
    let at = goal.at.returns-in_err-read_block-clause-array g c in
    let old = g.P.Platform.history c.args.platform.now in
    let k = held g at.After-find device contents h in
    let a = held_array (the_view c.self.inside) old.present device contents k in
    let some = subst (IsMappedAs a.mapped c.args.block) c.in-Some.is (c.in_ok-found.ensures.maps told k.cached a.mapped a.maps_are) in
    let after = holds_looked (the_view c.self.inside) c.find.new.reader.cache c.read_block.new.buffers (box_value c.find.new.reader.node) _ _ device contents (c.read_block.ensures.looks.image told ∙ c.find.ensures.looks.image told) (c.find.ensures.caches.stands told) (c.find.ensures.caches.among told) k in (
      after,
      refused_array contents c.args.block c.read_block.new.out c.in_err-read_block.field-0.0 (λ addr is.
          let nothing = subst (λ (i : Image). NothingFits i.readable (block_want c.in-Some.entry.addr c.args.block) c.in-Some.entry.key) (c.find.ensures.looks.image told) (c.in_err-read_block.ensures.nothing_fits told addr (ap Err is)).1 in
          entry_fits old.present (the_view c.self.inside).grove contents c.args.block c.in-Some.entry a some nothing),
    ))

pub returns-in_err-read_block-clause-misfit : goal.returns-in_err-read_block-clause-misfit
returns-in_err-read_block-clause-misfit g c =
    let p = err_from_is_err_and c.from_residual-in_err-read_block.result c.from_residual-in_err-read_block.ensures.1 in
    rw (p.1, p.2) (λ told h addr is.
    let bad = c.in_err-read_block.ensures.nothing_fits told addr (ap Err (refused_bad c.in_err-read_block.field-0.0 addr (cc))) in
    let nothing = subst (λ (i : Image). NothingFits i.readable (block_want c.in-Some.entry.addr c.args.block) c.in-Some.entry.key) (c.find.ensures.looks.image told) bad.1 in
    inr (c.in-Some.entry, found g (goal.at.returns-in_err-read_block-clause-misfit g c).In-Some told h, bad.0, nothing))

-- what is named is a wrong place
pub returns-in_err-found-clause-damaged : goal.returns-in_err-found-clause-damaged
returns-in_err-found-clause-damaged g c =
    let p = err_from_is_err_and c.from_residual.result c.from_residual.ensures.1 in
    rw (p.1, p.2) (λ told f addr is.
    let bad = refused_bad c.in_err-found.field-0.0 addr (cc) in
    let stops = c.in_err-found.ensures.bad told (cached g (goal.at.returns-in_err-found-clause-damaged g c).After-find f.cached) addr (ap Err bad) in
    misfit_wrong c.args.self.now (g.P.Platform.history c.args.platform.now).present c.args.block addr (g.P.Platform.head c.args.platform.now) c.requires.open f
    (inl (subst (λ (s : Session). GroveStops (g.P.Platform.history c.args.platform.now).present.readable c.args.block addr s.grove) c.self.view_is stops)))

pub returns-in_err-read_block-clause-damaged : goal.returns-in_err-read_block-clause-damaged
returns-in_err-read_block-clause-damaged g c =
    let p = err_from_is_err_and c.from_residual-in_err-read_block.result c.from_residual-in_err-read_block.ensures.1 in
    rw (p.1, p.2) (λ told f addr is.
    let bad = c.in_err-read_block.ensures.nothing_fits told addr (ap Err (refused_bad c.in_err-read_block.field-0.0 addr (cc))) in
    let nothing = subst (λ (i : Image). NothingFits i.readable (block_want c.in-Some.entry.addr c.args.block) c.in-Some.entry.key) (c.find.ensures.looks.image told) bad.1 in
    misfit_wrong c.args.self.now (g.P.Platform.history c.args.platform.now).present c.args.block addr (g.P.Platform.head c.args.platform.now) c.requires.open f
    (inr (c.in-Some.entry, found g (goal.at.returns-in_err-read_block-clause-damaged g c).In-Some told f.cached, bad.0, nothing)))

-- ---- over changed pages

pub returns-in_default-clause-unchanged : goal.returns-in_default-clause-unchanged
returns-in_default-clause-unchanged g c = λ told image device is.
    let changed = (g.P.Platform.history c.args.platform.now).present in
    let finds = c.in_ok-found.ensures.found told (cached g (goal.at.returns-in_default-clause-unchanged g c).After-find is.cached) in
    changed_read c.args.self.now image changed device c.args.block (g.P.Platform.head c.args.platform.now) _ c.requires.open is (record {
      found = None;
      finds = subst (λ (s : Session). GroveFinds changed.readable c.args.block s.grove None) c.self.view_is (subst (GroveFinds changed.readable c.args.block (the_view c.self.inside).grove) c.in_default.is finds);
      reads = c.fill.ensures.after (λ y same. same) ∙ ap (λ (n : ℕ). replicate n 0) c.requires.size;
    })

pub returns-clause-unchanged : goal.returns-clause-unchanged
returns-clause-unchanged g c = λ told image device is.
    changed_read c.args.self.now image (g.P.Platform.history c.args.platform.now).present device c.args.block (g.P.Platform.head c.args.platform.now) _ c.requires.open is (record {
      found = Some c.in-Some.entry;
      finds = found g (goal.at.returns-clause-unchanged g c).In-Some told is.cached;
      reads = subst (λ (i : Image). FitsAt i.readable (block_want c.in-Some.entry.addr c.args.block) c.in-Some.entry.key (DataRecord c.args.block c.read_block.new.out)) (c.find.ensures.looks.image told) (c.in_ok-read_block.ensures.fits told);
    })

-- ---- what it leaves

pub returns-then-block-self-clause-goes_on : goal.returns-then-block-self-clause-goes_on
returns-then-block-self-clause-goes_on g c = goes_start _ _ _ _ c.requires.open

pub returns-in_err-found-clause-goes_on : goal.returns-in_err-found-clause-goes_on
returns-in_err-found-clause-goes_on g c = goes g (goal.at.returns-in_err-found-clause-goes_on g c).After-find _ _ _ c.find.ensures.looks.image c.find.ensures.looks.head

pub returns-in_err-found-clause-listed : goal.returns-in_err-found-clause-listed
returns-in_err-found-clause-listed g c = λ told. listed g (goal.at.returns-in_err-found-clause-listed g c).After-find _ _ told (c.find.ensures.looks.image told)

pub returns-in_default-clause-goes_on : goal.returns-in_default-clause-goes_on
returns-in_default-clause-goes_on g c = goes g (goal.at.returns-in_default-clause-goes_on g c).After-find _ _ _ c.find.ensures.looks.image c.find.ensures.looks.head

pub returns-in_default-clause-listed : goal.returns-in_default-clause-listed
returns-in_default-clause-listed g c = λ told. listed g (goal.at.returns-in_default-clause-listed g c).After-find _ _ told (c.find.ensures.looks.image told)

pub returns-in_err-read_block-clause-goes_on : goal.returns-in_err-read_block-clause-goes_on
returns-in_err-read_block-clause-goes_on g c = goes g (goal.at.returns-in_err-read_block-clause-goes_on g c).After-find _ _ _ (λ told. c.read_block.ensures.looks.image told ∙ c.find.ensures.looks.image told) (c.read_block.ensures.looks.head ∙ c.find.ensures.looks.head)

pub returns-in_err-read_block-clause-listed : goal.returns-in_err-read_block-clause-listed
returns-in_err-read_block-clause-listed g c = λ told. listed g (goal.at.returns-in_err-read_block-clause-listed g c).After-find _ _ told (c.read_block.ensures.looks.image told ∙ c.find.ensures.looks.image told)

pub returns-clause-goes_on : goal.returns-clause-goes_on
returns-clause-goes_on g c = goes g (goal.at.returns-clause-goes_on g c).After-find _ _ _ (λ told. c.read_block.ensures.looks.image told ∙ c.find.ensures.looks.image told) (c.read_block.ensures.looks.head ∙ c.find.ensures.looks.head)

pub returns-clause-listed : goal.returns-clause-listed
returns-clause-listed g c = λ told. listed g (goal.at.returns-clause-listed g c).After-find _ _ told (c.read_block.ensures.looks.image told ∙ c.find.ensures.looks.image told)

-- ---- what it costs

pub returns-then-block-self-clause-reads : goal.returns-then-block-self-clause-reads
returns-then-block-self-clause-reads g c = few_none g.P.Platform c.args.block c.args.platform.now c.args.self.now _ tt

pub returns-in_err-found-clause-reads : goal.returns-in_err-found-clause-reads
returns-in_err-found-clause-reads g c =
    let p = err_from_is_err_and c.from_residual.result c.from_residual.ensures.1 in
    rw p.1 (few_found g.P.Platform c.args.block c.args.platform.now c.find.new.platform _ c.args.self.now (the_view c.self.inside) c.find.new.reader.cache c.find.new.reader.buffers (box_value c.find.new.reader.node) c.find.result _ c.self.view_is c.if-block-self.false c.find.ensures.looks c.find.ensures.uses
    (λ told. omega arith) (λ told. tt))

pub returns-in_default-clause-reads : goal.returns-in_default-clause-reads
returns-in_default-clause-reads g c =
    few_found g.P.Platform c.args.block c.args.platform.now c.find.new.platform _ c.args.self.now (the_view c.self.inside) c.find.new.reader.cache c.find.new.reader.buffers (box_value c.find.new.reader.node) c.find.result _ c.self.view_is c.if-block-self.false c.find.ensures.looks c.find.ensures.uses
    (λ told. omega arith) (λ told. c.in_ok-found.ensures.uses.fills told)

pub returns-in_err-read_block-clause-reads : goal.returns-in_err-read_block-clause-reads
returns-in_err-read_block-clause-reads g c =
    let p = err_from_is_err_and c.from_residual-in_err-read_block.result c.from_residual-in_err-read_block.ensures.1 in
    rw p.1 (few_found g.P.Platform c.args.block c.args.platform.now c.find.new.platform _ c.args.self.now (the_view c.self.inside) c.find.new.reader.cache c.read_block.new.buffers (box_value c.find.new.reader.node) c.find.result _ c.self.view_is c.if-block-self.false c.find.ensures.looks c.find.ensures.uses
    c.read_block.ensures.reads (λ told. tt))

pub returns-clause-reads : goal.returns-clause-reads
returns-clause-reads g c =
    few_found g.P.Platform c.args.block c.args.platform.now c.find.new.platform _ c.args.self.now (the_view c.self.inside) c.find.new.reader.cache c.read_block.new.buffers (box_value c.find.new.reader.node) c.find.result _ c.self.view_is c.if-block-self.false c.find.ensures.looks c.find.ensures.uses
    c.read_block.ensures.reads (λ told. c.in_ok-found.ensures.uses.fills told)

-- ---- what a refusal leaves

pub returns-in_err-found-clause-same : goal.returns-in_err-found-clause-same
returns-in_err-found-clause-same g c =
    let p = err_from_is_err_and c.from_residual.result c.from_residual.ensures.1 in
    rw p.1 (ap (λ (s : Session). s.mapped) c.self.view_is, ap (λ (s : Session). s.is_touched) c.self.view_is, ap (λ (s : Session). s.grove) c.self.view_is, refl)

pub returns-in_err-read_block-clause-same : goal.returns-in_err-read_block-clause-same
returns-in_err-read_block-clause-same g c =
    let p = err_from_is_err_and c.from_residual-in_err-read_block.result c.from_residual-in_err-read_block.ensures.1 in
    rw p.1 (ap (λ (s : Session). s.mapped) c.self.view_is, ap (λ (s : Session). s.is_touched) c.self.view_is, ap (λ (s : Session). s.grove) c.self.view_is, c.in_err-read_block.ensures.left)
