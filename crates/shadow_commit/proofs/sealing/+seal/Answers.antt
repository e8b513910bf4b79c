use Rattle.std.specs.Vec.{vec_len, vec_capacity}
use Rattle.btree_twigs.specs.Top.{child_level}
use Rattle.std.proofs.Common.{◌≡◌, ℕ, ◌≤◌, ◌*◌, suc, ◌+◌, List, [], ◌∷◌, ◌++◌, take, drop, length, refl, sym, ap, subst, ◌∙◌, arith, append-nil, length-append}
use Rattle.std.proofs.Common.{Ok, Err}
use Rattle.std.proofs.lemmas.Result.{err_from_is_err_and}
use Rattle.std.proofs.lemmas.List.{take_all}
use Rattle.std.proofs.lemmas.List.Elements.{All-from_recursion}
use Rattle.sdbt_base.specs.Told.{Drew}
use Rattle.sdbt_base.specs.Keys.{key_size, version_of, IsKeyOf}
use Rattle.platform.specs.Image.{MayHavePage}
use Rattle.seal_record.specs.Sealing.{masked}
use Rattle.page_digest.specs.Digest.{FitsDigest}
use Rattle.node_codec.specs.Laws.{most_at_most}
use Rattle.page_store.proofs.AppendLaws.{same_mask}
use Rattle.node_codec.specs.declared.body.Entry.{Entry}
use Rattle.node_codec.specs.Record.{NodeRecord, FitsNode, record_bytes}
use Rattle.page_store.specs.Buffer.{Held}
use Rattle.sdbt_base.proofs.FaultLaws.{tells_then, tells_on}
use Rattle.page_store.specs.declared.refusals.AppendFault.TheVariants.{TapeFault, PlatformFault}
use Rattle.std.specs.Prelude.{is_err}
use Rattle.sdbt_base.proofs.RiseLaws.{counted_not}
use Rattle.btree_twigs.specs.declared.twigs.Child.{Child}
use Rattle.btree_twigs.specs.Stubs.{children_of, sum_by, nodes, stubs, stubs_by, stubs_below, low_of}
use Rattle.btree_twigs.specs.Shape.{EachBy, IsChild}
use Rattle.shadow_commit.specs.NewTree.{AreNodesOver}
use Rattle.shadow_commit.proofs.OrderLaws.{over_append, over_node, so_far_over}
use Rattle.shadow_commit.specs.Sealed.{Sealed, page_of, SealsEach, SealsNode, Seals}
use Rattle.node_cache.specs.Cached.{cached_node, node_of, filled}
use Rattle.shadow_commit.specs.Caching.{AreCached, with_sealed}
use Rattle.shadow_commit.specs.Handing.{Adds, Stops}
use Rattle.btree_update.specs.Held.{bound, AreBelow}
use Rattle.shadow_commit.proofs.SealLaws.{grows_by, keeps_front, entries_are, children_count, each_snoc, node_fits, fits_by, version_is}
use Rattle.shadow_commit.proofs.CachingLaws.{sealed_then}
use Rattle.shadow_commit.proofs.StepLaws.{adds_none, adds_as, adds_then, adds_page, grown_at, kept_size, can_below, seals_grown, seals_kept, loop_child, can_child, end_at, beside_start, beside_call, beside_then, fits_as, body_as, adds_stops, stops_as, stops_none, stops_one, named_key, fault_cases, grown_level, level_within}
use Rattle.shadow_commit.proofs.sealing.+seal.Goals as goal

pub seal_child-kept_entry-requires-clause-version : goal.seal_child-kept_entry-requires-clause-version
seal_child-kept_entry-requires-clause-version g t c = (let at = c.requires.can in at.version_known)

pub seal_child-kept_entry-requires-clause-size : goal.seal_child-kept_entry-requires-clause-size
seal_child-kept_entry-requires-clause-size g t c =
    let at = c.requires.can in
    let head = g.P.Platform.head c.args.platform.now in
    kept_size c.args.version at.level at.high head c.args.child.now c.in-Kept.low c.in-Kept.addr c.in-Kept.key c.in-Kept.is at.below

pub seal_child-seal_twig-requires : goal.seal_child-seal_twig-requires
seal_child-seal_twig-requires g t c =
    let at = c.requires.can in
    let head = g.P.Platform.head c.args.platform.now in
    λ κs h. (omega (arith, c.decreases, grown_level c.args.child.now c.in-Grown.low c.in-Grown.twig c.in-Grown.is), (h.0, (h.1, (can_below c.args.version head (g.P.Platform.capacity c.args.platform.now) c.args.child.now c.in-Grown.low c.in-Grown.twig at (grown_at c.args.version at.order at.level at.high head c.args.child.now c.in-Grown.low c.in-Grown.twig c.in-Grown.is at.shaped at.below), omega (arith, c.requires.room, grown_level c.args.child.now c.in-Grown.low c.in-Grown.twig c.in-Grown.is)))))

pub seal_child-returns-in_err-placed-in-Grown-clause-within : goal.seal_child-returns-in_err-placed-in-Grown-clause-within
seal_child-returns-in_err-placed-in-Grown-clause-within g t c at =
    let head = g.P.Platform.head c.args.platform.now in
    let s = grown_at c.args.version at.order at.level at.high head c.args.child.now c.in-Grown.low c.in-Grown.twig c.in-Grown.is at.shaped at.below in
    let w = c.seal_twig.ensures.within (can_below c.args.version head (g.P.Platform.capacity c.args.platform.now) c.args.child.now c.in-Grown.low c.in-Grown.twig at s) in
    omega (arith, w, s.count)

pub seal_child-returns-in-Kept-clause-sealed : goal.seal_child-returns-in-Kept-clause-sealed
seal_child-returns-in-Kept-clause-sealed g t c at =
    adds_none (AreCached (λ ns. Seals c.args.version at.level (g.P.Platform.head c.args.platform.now) c.args.child.now ns c.kept_entry.result) c.args.reader.now.cache c.args.reader.now.cache) g.P.Platform.tells (g.P.Platform.history c.args.platform.now).present (g.P.Platform.head c.args.platform.now) (g.T.Tape.drawn c.args.tape.now) (
      seals_kept c.args.version at.level (g.P.Platform.head c.args.platform.now) c.args.child.now c.in-Kept.low c.in-Kept.addr c.in-Kept.key [] c.kept_entry.result c.in-Kept.is
          (record { none = refl; key_is = c.kept_entry.ensures.key; entry_is = c.kept_entry.ensures.entry }),
      refl,
    )

pub seal_child-returns-in_ok-placed-in-Grown-clause-sealed : goal.seal_child-returns-in_ok-placed-in-Grown-clause-sealed
seal_child-returns-in_ok-placed-in-Grown-clause-sealed g t c at =
    let head = g.P.Platform.head c.args.platform.now in
    let placed = c.in_ok-placed-in-Grown.placed in
    let s = grown_at c.args.version at.order at.level at.high head c.args.child.now c.in-Grown.low c.in-Grown.twig c.in-Grown.is at.shaped at.below in
    adds_as _ _ _ _ _ _ _ _ _ (λ ns h. (seals_grown c.args.version at.level s.below head c.args.child.now c.in-Grown.low c.in-Grown.twig ns placed.addr placed.key c.in-Grown.is s.level_is h.0, h.1))
    (c.in_ok-placed-in-Grown.ensures.sealed (can_below c.args.version head (g.P.Platform.capacity c.args.platform.now) c.args.child.now c.in-Grown.low c.in-Grown.twig at s))

pub seal_child-returns-in_ok-placed-in-Grown-clause-within : goal.seal_child-returns-in_ok-placed-in-Grown-clause-within
seal_child-returns-in_ok-placed-in-Grown-clause-within g t c at =
    let head = g.P.Platform.head c.args.platform.now in
    let s = grown_at c.args.version at.order at.level at.high head c.args.child.now c.in-Grown.low c.in-Grown.twig c.in-Grown.is at.shaped at.below in
    let w = c.seal_twig.ensures.within (can_below c.args.version head (g.P.Platform.capacity c.args.platform.now) c.args.child.now c.in-Grown.low c.in-Grown.twig at s) in
    omega (arith, w, s.count)

pub seal_twig-seal_child-requires : goal.seal_twig-seal_child-requires
seal_twig-seal_child-requires g t c =
    let at = c.requires.can in
    let head = g.P.Platform.head c.args.platform.now in
    let now = g.P.Platform.head c.loop-child.platform in
    let cs = c.deref-child-items.result.now in
    let i = c.loop-child.child-index in
    let inv = c.loop-child.invariant in
    let so_far = inv.sealed at in
    let count = children_count c.args.version at.level head (take i cs) so_far.nodes (drop (length c.args.entries.now.items) c.loop-child.entries.items) so_far.is.0 in
    let s = loop_child c.args.version head (g.P.Platform.capacity c.args.platform.now) c.args.twig.now cs i c.child-item.result at inv.same c.loop-child-test.true c.child-item.is in
    let can = can_child c.args.version head (g.P.Platform.capacity c.args.platform.now) now (g.P.Platform.capacity c.loop-child.platform) c.args.twig.now cs i c.child-item.result at s inv.same inv.beside.head (omega (arith, so_far.head, count)) inv.beside.capacity in
    let within = level_within at.order at.level _ c.child-item.result s.shaped in
    let few : i + 1 ≤ 64 = omega (arith, c.loop-child-test.true, ap length inv.same, at.shaped.node.within, most_at_most c.args.version at.order at.version_known at.order_most) in
    let room : vec_len c.loop-child.entries + 64 * child_level c.child-item.result ≤ vec_capacity c.loop-child.entries
    = omega (arith, c.requires.room, inv.room, inv.count, few, within, at.shaped.level_is, c.loop-child.entries.ok.0, c.args.entries.now.ok.0) in
    λ κs h. (omega (arith, c.decreases, at.shaped.level_is, within), (h.0, (h.1, (can, room))))

pub seal_twig-returns-in_err-entry-clause-within : goal.seal_twig-returns-in_err-entry-clause-within
seal_twig-returns-in_err-entry-clause-within g t c at =
    let head = g.P.Platform.head c.args.platform.now in
    let now = g.P.Platform.head c.loop-child.platform in
    let cs = c.deref-child-items.result.now in
    let i = c.loop-child.child-index in
    let inv = c.loop-child.invariant in
    let so_far = inv.sealed at in
    let count = children_count c.args.version at.level head (take i cs) so_far.nodes (drop (length c.args.entries.now.items) c.loop-child.entries.items) so_far.is.0 in
    let s = loop_child c.args.version head (g.P.Platform.capacity c.args.platform.now) c.args.twig.now cs i c.child-item.result at inv.same c.loop-child-test.true c.child-item.is in
    let can = can_child c.args.version head (g.P.Platform.capacity c.args.platform.now) now (g.P.Platform.capacity c.loop-child.platform) c.args.twig.now cs i c.child-item.result at s inv.same inv.beside.head (omega (arith, so_far.head, count)) inv.beside.capacity in
    omega (arith, c.seal_child.ensures.within can, so_far.head, count, s.count, ap (sum_by (nodes at.level)) inv.same)

pub seal_twig-loop-child-preserved : goal.seal_twig-loop-child-preserved
seal_twig-loop-child-preserved g t c =
    let inv = c.loop-child.invariant in
    record {
      same = inv.same;
      sealed = λ at.
          let head = g.P.Platform.head c.args.platform.now in
          let now = g.P.Platform.head c.loop-child.platform in
          let cs = c.deref-child-items.result.now in
          let i = c.loop-child.child-index in
          let inv = c.loop-child.invariant in
          let so_far = inv.sealed at in
          let count = children_count c.args.version at.level head (take i cs) so_far.nodes (drop (length c.args.entries.now.items) c.loop-child.entries.items) so_far.is.0 in
          let s = loop_child c.args.version head (g.P.Platform.capacity c.args.platform.now) c.args.twig.now cs i c.child-item.result at inv.same c.loop-child-test.true c.child-item.is in
          let can = can_child c.args.version head (g.P.Platform.capacity c.args.platform.now) now (g.P.Platform.capacity c.loop-child.platform) c.args.twig.now cs i c.child-item.result at s inv.same inv.beside.head (omega (arith, so_far.head, count)) inv.beside.capacity in
          let es = (drop (length c.args.entries.now.items) c.loop-child.entries.items) in
          let entry = c.in_ok-entry.entry in
          let history = g.P.Platform.history in
          let drawn = g.T.Tape.drawn in
          let more = grows_by c.args.entries.now.items c.loop-child.entries.items c.seal_child.new.entries.items c.add.new.entries.items entry (omega (arith, inv.count)) c.in_ok-entry.ensures.entries c.add.ensures.items in
          let first = c.args.reader.now.cache in
          let mid = c.loop-child.reader.cache in
          let last = c.seal_child.new.reader.cache in
          adds_then (AreCached (λ ns. SealsEach (Seals c.args.version at.level) head (take i cs) ns es) first mid) (AreCached (λ ms. Seals c.args.version at.level now c.child-item.result ms entry) mid last)
          (AreCached (λ ns. SealsEach (Seals c.args.version at.level) head (take (i + 1) cs) ns (drop (length c.args.entries.now.items) c.add.new.entries.items)) first last)
          g.P.Platform.tells (history c.args.platform.now).present (history c.loop-child.platform).present (history c.seal_child.new.platform).present head now (g.P.Platform.head c.seal_child.new.platform)
          (drawn c.args.tape.now) (drawn c.loop-child.tape) (drawn c.seal_child.new.tape)
          (λ ns ms up is one. (
            subst (λ xs. SealsEach (Seals c.args.version at.level) head (take (i + 1) cs) (ns ++ ms) xs) (sym more)
                (subst (λ ds. SealsEach (Seals c.args.version at.level) head ds (ns ++ ms) (es ++ entry ∷ [])) (sym s.more)
                (each_snoc (Seals c.args.version at.level) head (take i cs) c.child-item.result ns ms es entry is.0 (subst (λ n. Seals c.args.version at.level n c.child-item.result ms entry) up one.0))),
            sealed_then first mid last ns ms is.1 one.1,
          ))
          so_far (c.in_ok-entry.ensures.sealed can);
      front = keeps_front c.args.entries.now.items c.loop-child.entries.items c.seal_child.new.entries.items c.add.new.entries.items c.in_ok-entry.entry (omega (arith, inv.count)) inv.front c.in_ok-entry.ensures.entries c.add.ensures.items;
      count = omega (arith, inv.count, ap length c.in_ok-entry.ensures.entries, ap length c.add.ensures.items, length-append c.seal_child.new.entries.items (c.in_ok-entry.entry ∷ []));
      room = c.add.ensures.capacity ∙ c.seal_child.ensures.same_room ∙ inv.room;
      beside = beside_then g.P.Platform g.T.Tape 0 c.args.platform.now c.loop-child.platform c.seal_child.new.platform c.args.tape.now c.loop-child.tape c.seal_child.new.tape inv.beside c.seal_child.ensures.beside;
      quiet = (c.in_ok-entry.ensures.platform_cause.done ∙ inv.quiet.0, c.in_ok-entry.ensures.tape_cause.done ∙ inv.quiet.1);
    }

pub seal_twig-put_node-requires : goal.seal_twig-put_node-requires
seal_twig-put_node-requires g t c =
    let at = c.requires.can in
    let head = g.P.Platform.head c.args.platform.now in
    let now = g.P.Platform.head c.loop-child.platform in
    let cs = c.deref-child-items.result.now in
    let i = c.loop-child.child-index in
    let inv = c.loop-child.invariant in
    let so_far = inv.sealed at in
    let count = children_count c.args.version at.level head (take i cs) so_far.nodes (drop (length c.args.entries.now.items) c.loop-child.entries.items) so_far.is.0 in
    let all : take i cs ≡ children_of c.args.twig.now = take_all i cs (omega (arith, c.loop-child-test.false)) ∙ inv.same in
    let each = subst (λ xs. SealsEach (Seals c.args.version at.level) head xs so_far.nodes (drop (length c.args.entries.now.items) c.loop-child.entries.items)) all so_far.is.0 in
    let fits = node_fits c.args.version at.order at.level at.least at.low at.high head head c.args.twig.now so_far.nodes (drop (length c.args.entries.now.items) c.loop-child.entries.items) at.shaped (at.version_known, at.order_most) at.level_most at.blocks at.below (omega arith) each in
    fits_as c.args.version _ _ _ _ _ _ (sym (c.head.ensures.value ∙ so_far.head)) (sym at.shaped.level_is) (sym (c.split_at.ensures.back ∙ (λ i. drop ((c.len-begin.ensures ∙ c.args.entries.now.ok.0) i) (c.deref.ensures.value i)))) fits

pub seal_twig-append-requires-clause-version : goal.seal_twig-append-requires-clause-version
seal_twig-append-requires-clause-version g t c = (let at = c.requires.can in at.version_known)

pub seal_twig-append-requires-clause-room : goal.seal_twig-append-requires-clause-room
seal_twig-append-requires-clause-room g t c =
    let at = c.requires.can in
    let head = g.P.Platform.head c.args.platform.now in
    let now = g.P.Platform.head c.loop-child.platform in
    let cs = c.deref-child-items.result.now in
    let i = c.loop-child.child-index in
    let inv = c.loop-child.invariant in
    let so_far = inv.sealed at in
    let count = children_count c.args.version at.level head (take i cs) so_far.nodes (drop (length c.args.entries.now.items) c.loop-child.entries.items) so_far.is.0 in
    let all : take i cs ≡ children_of c.args.twig.now = take_all i cs (omega (arith, c.loop-child-test.false)) ∙ inv.same in
    omega (arith, at.room, inv.beside.capacity, so_far.head, count, ap (sum_by (nodes at.level)) all)

pub seal_twig-returns-clause-sealed : goal.seal_twig-returns-clause-sealed
seal_twig-returns-clause-sealed g t c at =
    let head = g.P.Platform.head c.args.platform.now in
    let now = g.P.Platform.head c.loop-child.platform in
    let cs = c.deref-child-items.result.now in
    let i = c.loop-child.child-index in
    let inv = c.loop-child.invariant in
    let so_far = inv.sealed at in
    let count = children_count c.args.version at.level head (take i cs) so_far.nodes (drop (length c.args.entries.now.items) c.loop-child.entries.items) so_far.is.0 in
    let all : take i cs ≡ children_of c.args.twig.now = take_all i cs (omega (arith, c.loop-child-test.false)) ∙ inv.same in
    let es = (drop (length c.args.entries.now.items) c.loop-child.entries.items) in
    let history = g.P.Platform.history in
    let drawn = g.T.Tape.drawn in
    let tells = g.P.Platform.tells in
    let old = (history c.args.platform.now).present in
    let mid = (history c.loop-child.platform).present in
    let new = (history c.append.new.platform).present in
    let twig = c.args.twig.now in
    let first = c.args.reader.now.cache in
    let before = c.loop-child.reader.cache in
    let after = c.put_node-2.new.self in
    let placed = c.in_ok-placed.placed in
    let at_head = c.in_ok-placed.ensures.placed in
    let address : placed.addr ≡ now = at_head.address in
    let body = c.put_node.new.self.body in
    let node : Sealed = record { addr = placed.addr; key = placed.key; level = suc at.level; entries = es } in
    let own_is : c.split_at.result.1.now ≡ es = c.split_at.ensures.back ∙ (λ i. drop ((c.len-begin.ensures ∙ c.args.entries.now.ok.0) i) (c.deref.ensures.value i)) in
    let version : version_of placed.key ≡ c.args.version = version_is c.args.version placed.key at.version_known at_head.key.0 in
    let body_is : body ≡ record_bytes (version_of placed.key) placed.addr (NodeRecord (suc at.level) es)
    = ap (λ (b : Held). b.body) c.put_node.ensures ∙ body_as c.args.version _ _ _ _ _ _ (c.head.ensures.value ∙ sym address) at.shaped.level_is own_is
    ∙ ap (λ (v : ℕ). record_bytes v placed.addr (NodeRecord (suc at.level) es)) (sym version) in
    let digested : FitsDigest placed.key (page_of node) = subst (λ (bytes : List ℕ). FitsDigest placed.key (masked placed.key bytes)) body_is at_head.digested in
    let cached : after ≡ with_sealed before (node ∷ []) = c.put_node-2.ensures.cached ∙ (λ i. filled before (cached_node placed.addr placed.key (node_of (at.shaped.level_is i) (sym version i) (own_is i)))) in
    let Each : List Child → List Sealed → Type 0 = λ xs. AreCached (λ ns. SealsEach (Seals c.args.version at.level) head xs ns es) first before in
    let each : Adds (Each (children_of twig)) tells old mid head now (drawn c.args.tape.now) (drawn c.loop-child.tape)
    = adds_as (Each (take i cs)) (Each (children_of twig)) tells old mid head now (drawn c.args.tape.now) (drawn c.loop-child.tape) (λ ns h. subst (λ xs. Each xs ns) all h) so_far in
    adds_then (Each (children_of twig)) (λ ms. ms ≡ node ∷ []) (AreCached (λ ns. SealsNode c.args.version (Seals c.args.version at.level) at.level head (children_of twig) ns placed.addr placed.key) first after)
    tells old mid new head now (g.P.Platform.head c.append.new.platform) (drawn c.args.tape.now) (drawn c.loop-child.tape) (drawn c.append.new.tape)
    (λ ns ms at_is each one. (
      record { entries = es; below = ns; each = each.0; addr_is = address ∙ at_is; key_is = at_head.key; digested = digested; is = ap (λ xs. ns ++ xs) one },
      sealed_then first before after ns ms each.1 (subst (λ xs. after ≡ with_sealed before xs) (sym one) cached),
    ))
    each (adds_page tells mid new now (g.P.Platform.head c.append.new.platform) (drawn c.loop-child.tape) (drawn c.append.new.tape) node body body_is at_head.image at_head.head at_head.drew)

pub seal_twig-returns-in_err-placed-clause-within : goal.seal_twig-returns-in_err-placed-clause-within
seal_twig-returns-in_err-placed-clause-within g t c at =
    let head = g.P.Platform.head c.args.platform.now in
    let now = g.P.Platform.head c.loop-child.platform in
    let cs = c.deref-child-items.result.now in
    let i = c.loop-child.child-index in
    let inv = c.loop-child.invariant in
    let so_far = inv.sealed at in
    let count = children_count c.args.version at.level head (take i cs) so_far.nodes (drop (length c.args.entries.now.items) c.loop-child.entries.items) so_far.is.0 in
    let all : take i cs ≡ children_of c.args.twig.now = take_all i cs (omega (arith, c.loop-child-test.false)) ∙ inv.same in
    omega (arith, c.append.ensures.adds.grows.by_one, so_far.head, count, ap (sum_by (nodes at.level)) all)

pub seal_twig-returns-clause-within : goal.seal_twig-returns-clause-within
seal_twig-returns-clause-within g t c at =
    let head = g.P.Platform.head c.args.platform.now in
    let now = g.P.Platform.head c.loop-child.platform in
    let cs = c.deref-child-items.result.now in
    let i = c.loop-child.child-index in
    let inv = c.loop-child.invariant in
    let so_far = inv.sealed at in
    let count = children_count c.args.version at.level head (take i cs) so_far.nodes (drop (length c.args.entries.now.items) c.loop-child.entries.items) so_far.is.0 in
    let all : take i cs ≡ children_of c.args.twig.now = take_all i cs (omega (arith, c.loop-child-test.false)) ∙ inv.same in
    omega (arith, c.append.ensures.adds.grows.by_one, so_far.head, count, ap (sum_by (nodes at.level)) all)

pub seal_child-returns-in-Kept-clause-beside : goal.seal_child-returns-in-Kept-clause-beside
seal_child-returns-in-Kept-clause-beside g t c = beside_start g.P.Platform g.T.Tape 0 c.args.platform.now c.args.tape.now

pub seal_child-returns-in_err-placed-in-Grown-clause-stops : goal.seal_child-returns-in_err-placed-in-Grown-clause-stops
seal_child-returns-in_err-placed-in-Grown-clause-stops g t c at = λ err.
    let head = g.P.Platform.head c.args.platform.now in
    let s = grown_at c.args.version at.order at.level at.high head c.args.child.now c.in-Grown.low c.in-Grown.twig c.in-Grown.is at.shaped at.below in
    let places = stubs_below s.below at.high c.in-Grown.twig in
    stops_as (AreNodesOver c.args.version head places) (AreNodesOver c.args.version head (stubs at.level at.high c.args.child.now)) _ _ _ _ _ (λ ms h. subst (λ ss. AreNodesOver c.args.version head ss ms) (sym s.places) h)
    (c.in_err-placed-in-Grown.ensures.stops (can_below c.args.version head (g.P.Platform.capacity c.args.platform.now) c.args.child.now c.in-Grown.low c.in-Grown.twig at s) refl)

pub seal_twig-returns-in_err-entry-clause-beside : goal.seal_twig-returns-in_err-entry-clause-beside
seal_twig-returns-in_err-entry-clause-beside g t c =
    beside_then g.P.Platform g.T.Tape 0 c.args.platform.now c.loop-child.platform c.seal_child.new.platform c.args.tape.now c.loop-child.tape c.seal_child.new.tape c.loop-child.invariant.beside c.seal_child.ensures.beside

pub seal_twig-returns-in_err-placed-clause-beside : goal.seal_twig-returns-in_err-placed-clause-beside
seal_twig-returns-in_err-placed-clause-beside g t c =
    let E = c.append.ensures.adds in
    let last = beside_call g.P.Platform g.T.Tape 0 c.loop-child.platform c.append.new.platform c.loop-child.tape c.append.new.tape E.time E.cell E.grows.rises E.grows.capacity E.reads (λ told. counted_not 0 _ _ (E.changes told)) E.grows.faults E.tape_faults in
    beside_then g.P.Platform g.T.Tape 0 c.args.platform.now c.loop-child.platform c.append.new.platform c.args.tape.now c.loop-child.tape c.append.new.tape c.loop-child.invariant.beside last

pub seal_twig-returns-clause-beside : goal.seal_twig-returns-clause-beside
seal_twig-returns-clause-beside g t c =
    let E = c.append.ensures.adds in
    let last = beside_call g.P.Platform g.T.Tape 0 c.loop-child.platform c.append.new.platform c.loop-child.tape c.append.new.tape E.time E.cell E.grows.rises E.grows.capacity E.reads (λ told. counted_not 0 _ _ (E.changes told)) E.grows.faults E.tape_faults in
    beside_then g.P.Platform g.T.Tape 0 c.args.platform.now c.loop-child.platform c.append.new.platform c.args.tape.now c.loop-child.tape c.append.new.tape c.loop-child.invariant.beside last

pub seal_twig-returns-in_err-entry-clause-stops : goal.seal_twig-returns-in_err-entry-clause-stops
seal_twig-returns-in_err-entry-clause-stops g t c at = λ err.
    let head = g.P.Platform.head c.args.platform.now in
    let now = g.P.Platform.head c.loop-child.platform in
    let cs = c.deref-child-items.result.now in
    let i = c.loop-child.child-index in
    let inv = c.loop-child.invariant in
    let so_far = inv.sealed at in
    let es = (drop (length c.args.entries.now.items) c.loop-child.entries.items) in
    let history = g.P.Platform.history in
    let drawn = g.T.Tape.drawn in
    let tells = g.P.Platform.tells in
    let places = stubs_by low_of (stubs at.level) at.high cs in
    let same : places ≡ stubs_below at.level at.high c.args.twig.now = ap (stubs_by low_of (stubs at.level) at.high) inv.same in
    let each = subst (EachBy low_of (IsChild at.order at.level) at.high) (sym inv.same) at.shaped.node.each in
    let below = subst (AreBelow (bound head (key_size c.args.version))) (sym same) at.below in
    let done = so_far_over c.args.version at.order at.level head at.high i cs so_far.nodes es so_far.is.0 each (at.version_known, at.order_most) (omega (arith, at.level_most)) at.blocks below in
    let count = children_count c.args.version at.level head (take i cs) so_far.nodes es so_far.is.0 in
    let s = loop_child c.args.version head (g.P.Platform.capacity c.args.platform.now) c.args.twig.now cs i c.child-item.result at inv.same c.loop-child-test.true c.child-item.is in
    let can = can_child c.args.version head (g.P.Platform.capacity c.args.platform.now) now (g.P.Platform.capacity c.loop-child.platform) c.args.twig.now cs i c.child-item.result at s inv.same inv.beside.head (omega (arith, so_far.head, count)) inv.beside.capacity in
    let some = stubs at.level (end_at at.high i cs) c.child-item.result in
    adds_stops (AreCached (λ ns. SealsEach (Seals c.args.version at.level) head (take i cs) ns es) c.args.reader.now.cache c.loop-child.reader.cache) (AreNodesOver c.args.version now some) (AreNodesOver c.args.version head (stubs_below at.level at.high c.args.twig.now)) tells (history c.args.platform.now).present (history c.loop-child.platform).present (history c.seal_child.new.platform).present
    head now (drawn c.args.tape.now) (drawn c.loop-child.tape) (drawn c.seal_child.new.tape) so_far
    (λ ms are. subst (λ ss. AreNodesOver c.args.version head ss (so_far.nodes ++ ms)) same (over_append c.args.version head places some so_far.nodes ms done.over (subst (λ n. AreNodesOver c.args.version n some ms) so_far.head are) s.places))
    (c.in_err-entry.ensures.stops can refl)

pub seal_twig-returns-in_err-placed-clause-stops : goal.seal_twig-returns-in_err-placed-clause-stops
seal_twig-returns-in_err-placed-clause-stops g t c at = λ _.
    let head = g.P.Platform.head c.args.platform.now in
    let now = g.P.Platform.head c.loop-child.platform in
    let cs = c.deref-child-items.result.now in
    let i = c.loop-child.child-index in
    let inv = c.loop-child.invariant in
    let so_far = inv.sealed at in
    let es = (drop (length c.args.entries.now.items) c.loop-child.entries.items) in
    let history = g.P.Platform.history in
    let drawn = g.T.Tape.drawn in
    let tells = g.P.Platform.tells in
    let twig = c.args.twig.now in
    let places = stubs_by low_of (stubs at.level) at.high cs in
    let same : places ≡ stubs_below at.level at.high twig = ap (stubs_by low_of (stubs at.level) at.high) inv.same in
    let each = subst (EachBy low_of (IsChild at.order at.level) at.high) (sym inv.same) at.shaped.node.each in
    let below = subst (AreBelow (bound head (key_size c.args.version))) (sym same) at.below in
    let done = so_far_over c.args.version at.order at.level head at.high i cs so_far.nodes es so_far.is.0 each (at.version_known, at.order_most) (omega (arith, at.level_most)) at.blocks below in
    let mid = (history c.loop-child.platform).present in
    let new = (history c.append.new.platform).present in
    let all : take i cs ≡ children_of twig = take_all i cs (omega (arith, c.loop-child-test.false)) ∙ inv.same in
    let under = subst (λ xs. SealsEach (Seals c.args.version at.level) head xs so_far.nodes es) all so_far.is.0 in
    let fits = subst (λ n. FitsNode c.args.version n (suc at.level) es) (sym so_far.head) (node_fits c.args.version at.order at.level at.least at.low at.high head head twig so_far.nodes es at.shaped (at.version_known, at.order_most) at.level_most at.blocks at.below (omega arith) under) in
    let keys = (entries_are c.args.version at.level head head at.high (children_of twig) so_far.nodes es under at.below (omega arith)).keys in
    let Are : List Sealed → Type 0 = λ ms. AreNodesOver c.args.version head (stubs_below at.level at.high twig) (so_far.nodes ++ ms) in
    let before : Are [] = subst (AreNodesOver c.args.version head (stubs_below at.level at.high twig)) (sym (append-nil so_far.nodes)) (subst (λ ss. AreNodesOver c.args.version head ss so_far.nodes) same done.over) in
    let stops : Stops Are tells mid new (drawn c.loop-child.tape) (drawn c.append.new.tape) =
    fault_cases c.append.result (Stops Are tells mid new (drawn c.loop-child.tape) (drawn c.append.new.tape)) (ap is_err c.in_err-placed.was)
    (λ is. stops_none Are tells mid new (drawn c.loop-child.tape) (drawn c.append.new.tape) before (λ told. ap (λ platform. (g.P.Platform.history platform).present) (c.append.ensures.idle is).0) (c.append.ensures.idle is).1)
    (λ is.
    let spent = c.append.ensures.spent is in
    let body = c.put_node.new.self.body in
    let named = named_key c.args.version spent.key body at.version_known spent.size.0 in
    let node : Sealed = record { addr = now; key = named.name; level = suc at.level; entries = es } in
    let version : version_of named.name ≡ c.args.version = version_is c.args.version named.name at.version_known named.sized in
    let body_is : body ≡ record_bytes (version_of named.name) now (NodeRecord (suc at.level) es)
    = ap (λ (b : Held). b.body) c.put_node.ensures ∙ body_as c.args.version _ _ _ _ _ _ c.head.ensures.value at.shaped.level_is (c.split_at.ensures.back ∙ (λ i. drop ((c.len-begin.ensures ∙ c.args.entries.now.ok.0) i) (c.deref.ensures.value i)))
    ∙ ap (λ (v : ℕ). record_bytes v now (NodeRecord (suc at.level) es)) (sym version) in
    let digested : FitsDigest named.name (page_of node) = subst (λ (bytes : List ℕ). FitsDigest named.name (masked named.name bytes)) body_is named.digested in
    let node_is = fits_by c.args.version node at.version_known named.sized fits (All-from_recursion (λ (e : Entry). IsKeyOf c.args.version e.key) es keys) digested in
    stops_one Are tells mid new (drawn c.loop-child.tape) (drawn c.append.new.tape) node body
    (subst (λ ss. AreNodesOver c.args.version head ss (so_far.nodes ++ node ∷ [])) same (over_node c.args.version head places so_far.nodes node done.over so_far.head node_is done.listed)) body_is
    (λ told. subst (λ (page : List ℕ). MayHavePage mid page new) (same_mask spent.key named.name body named.bare_is) (spent.image told))
    (subst (λ k. Drew (drawn c.loop-child.tape) k (drawn c.append.new.tape)) (sym named.bare_is) spent.drew))
    in
    adds_stops (AreCached (λ ns. SealsEach (Seals c.args.version at.level) head (take i cs) ns es) c.args.reader.now.cache c.loop-child.reader.cache) Are (AreNodesOver c.args.version head (stubs_below at.level at.high twig)) tells (history c.args.platform.now).present mid new
    head now (drawn c.args.tape.now) (drawn c.loop-child.tape) (drawn c.append.new.tape) so_far (λ ms are. are) stops

pub seal_twig-returns-in_err-entry-clause-platform_cause : goal.seal_twig-returns-in_err-entry-clause-platform_cause
seal_twig-returns-in_err-entry-clause-platform_cause g t c =
    let p = err_from_is_err_and c.from_residual.result c.from_residual.ensures.1 in
    let told = tells_then {T = Entry} PlatformFault (Err c.in_err-entry.field-0.0) _ _ _ c.loop-child.invariant.quiet.0 c.in_err-entry.ensures.platform_cause in
    rw (p.1, p.2) (tells_on PlatformFault c.in_err-entry.field-0.0 _ _ told)

pub seal_twig-returns-in_err-entry-clause-tape_cause : goal.seal_twig-returns-in_err-entry-clause-tape_cause
seal_twig-returns-in_err-entry-clause-tape_cause g t c =
    let p = err_from_is_err_and c.from_residual.result c.from_residual.ensures.1 in
    let told = tells_then {T = Entry} TapeFault (Err c.in_err-entry.field-0.0) _ _ _ c.loop-child.invariant.quiet.1 c.in_err-entry.ensures.tape_cause in
    rw (p.1, p.2) (tells_on TapeFault c.in_err-entry.field-0.0 _ _ told)

pub seal_twig-returns-clause-platform_cause : goal.seal_twig-returns-clause-platform_cause
seal_twig-returns-clause-platform_cause g t c = tells_then PlatformFault (Ok c.in_ok-placed.placed) _ _ _ c.loop-child.invariant.quiet.0 c.in_ok-placed.ensures.platform_cause

pub seal_twig-returns-clause-tape_cause : goal.seal_twig-returns-clause-tape_cause
seal_twig-returns-clause-tape_cause g t c = tells_then TapeFault (Ok c.in_ok-placed.placed) _ _ _ c.loop-child.invariant.quiet.1 c.in_ok-placed.ensures.tape_cause
