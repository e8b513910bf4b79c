use Rattle.std.proofs.Common.{◌≡◌, ℕ, List, length, refl, ap, sym, subst, inl, inr, ◌∙◌, Option, Bor, Err}
use Rattle.std.specs.Prelude.{vec_capacity}
use Rattle.std.proofs.lemmas.Bool.{false≢true}
use Rattle.sdbt_base.specs.Keys.{version_of, key_size}
use Rattle.node_codec.specs.Record.{FitsNode}
use Rattle.page_store.specs.declared.wants.Want.{Want}
use Rattle.page_store.specs.Places.{IsNodeWanted}
use Rattle.btree_twigs.specs.declared.twigs.Twig.{Twig, out-Twig}
use Rattle.btree_twigs.specs.Stubs.{level_of, children_of}
use Rattle.btree_update.specs.Holding.{IsNodeFor}
use Rattle.std.specs.Option.{option_copied}
use Rattle.node_cache.specs.Cached.{Cached, Uses, IsCached, cached_node, filled}
use Rattle.node_codec.specs.declared.body.NodeBody.{NodeBody}
use Rattle.btree_walk.specs.Sights.{NodeFits, KeepsOnly, ForgetsNone}
use Rattle.btree_walk.proofs.OnLaws.{IfOk_map}
use Rattle.btree_update.specs.Reading.{all_kept}
use Rattle.btree_walk.proofs.SightLaws.{keeps_filled, keeps_used}
use Rattle.btree_update.specs.declared.refusals.ReadyRefusal.TheVariants.{BadRecord}
use Rattle.std.proofs.lemmas.Result.{err_from_is_err_and}
use Rattle.btree_update.proofs.CacheLaws.{stands_on, kept_is_page, nothing_else, refused_bad}
use Rattle.btree_walk.specs.Among.{KeepsBut}
use Rattle.btree_walk.proofs.AmongLaws.{but_same, but_filled, but_used}
use Rattle.btree_walk.proofs.ForgetLaws.{forgets_used, forgets_same, forgets_filled, found_still}
use Rattle.btree_walk.proofs.RecentLaws.{still_used}
use Rattle.btree_update.proofs.reading.read_node.Goals as goal

-- a node that fits, in memory
node_for : (want : Want) (key : List ℕ) (node : NodeBody) (twig : Twig) (version : ℕ) → (version ≡ version_of key) × (length key ≡ key_size version) → NodeFits want key node →
    (level_of twig ≡ node.level) × (children_of twig ≡ all_kept node.entries.items) × (vec_capacity (out-Twig twig).children ≡ 65) → IsNodeFor want key twig
node_for want key node twig version is fits made = record {
  entries = node.entries.items;
  sized = is.1 ∙ ap key_size is.0;
  in_range = subst (λ l. FitsNode (version_of key) want.addr l node.entries.items) fits.wanted.same_level fits.in_range;
  wanted = subst (λ l. IsNodeWanted want l node.entries.items) fits.wanted.same_level fits.wanted;
  level_is = made.0 ∙ fits.wanted.same_level;
  children = made.1;
  room = made.2;
}

pub returns-in-Some-clause-fits : goal.returns-in-Some-clause-fits
returns-in-Some-clause-fits g c =
    IfOk_map _ _ c.in_memory.result (λ twig is. node_for c.args.want.now c.args.key.now c.in-Some.node.now twig c.version_of-version.result (c.version_of-version.ensures.value, c.version_of-version.ensures.size) (c.fits.ensures.0 c.if-not-fits.false) is) c.in_memory.ensures.node

pub returns-clause-fits : goal.returns-clause-fits
returns-clause-fits g c =
    let wanted = c.in_ok-fetch_node.ensures.wanted in
    IfOk_map _ _ c.in_memory-2.result
    (λ twig is. node_for c.args.want.now c.args.key.now (record { level = c.args.want.now.level; version = c.version_of-version.result; entries = c.fetch_node.new.entries }) twig c.version_of-version.result (c.version_of-version.ensures.value, c.version_of-version.ensures.size) (record { version = c.version_of-version.ensures.value; in_range = wanted.in_range.0; wanted = wanted.wanted }) is)
    c.in_memory-2.ensures.node

pub returns-then-not-fits-clause-bad : goal.returns-then-not-fits-clause-bad
returns-then-not-fits-clause-bad g c = λ tells stands addr is.
    let same : BadRecord c.args.want.now.addr ≡ BadRecord addr = cc in
    let addr_is : c.args.want.now.addr ≡ addr = cc in (
      sym addr_is,
      nothing_else (g.P.Platform.history c.args.platform.now).present.readable c.args.want.now c.args.key.now c.in-Some.node.now c.requires.small
          (kept_is_page (g.P.Platform.history c.args.platform.now).present.readable c.args.reader.now.cache c.args.want.now.addr c.args.key.now c.in-Some.node.now stands c.in-Some.ensures.found.here)
          (λ fits. false≢true (sym c.if-not-fits.true ∙ c.fits.ensures.1 fits)),
    )

pub returns-then-not-fits-clause-stands : goal.returns-then-not-fits-clause-stands
returns-then-not-fits-clause-stands g c = λ tells stands.
    (let uses = subst (λ (r : Option (Bor _)). Uses c.args.reader.now.cache c.args.want.now.addr c.args.key.now (option_copied r) c.get.follows.lender-at-none) c.in-Some.is c.get.follows.holds-at-none in
    stands_on (g.P.Platform.history c.args.platform.now).present.readable c.args.reader.now.cache c.get.follows.lender-at-none stands
    (keeps_used (g.P.Platform.history c.args.platform.now).present.readable c.args.reader.now.cache c.get.follows.lender-at-none c.args.want.now.addr c.args.key.now c.in-Some.node.now uses))

pub returns-in-Some-clause-stands : goal.returns-in-Some-clause-stands
returns-in-Some-clause-stands g c = λ tells stands.
    (let uses = subst (λ (r : Option (Bor _)). Uses c.args.reader.now.cache c.args.want.now.addr c.args.key.now (option_copied r) c.get.follows.lender-at-none) c.in-Some.is c.get.follows.holds-at-none in
    stands_on (g.P.Platform.history c.args.platform.now).present.readable c.args.reader.now.cache c.get.follows.lender-at-none stands
    (keeps_used (g.P.Platform.history c.args.platform.now).present.readable c.args.reader.now.cache c.get.follows.lender-at-none c.args.want.now.addr c.args.key.now c.in-Some.node.now uses))

pub returns-clause-stands : goal.returns-clause-stands
returns-clause-stands g c = λ tells stands.
    (let uses = subst (λ (r : Option (Bor _)). Uses c.args.reader.now.cache c.args.want.now.addr c.args.key.now (option_copied r) c.get.follows.lender-at-none) c.in_default.is c.get.follows.holds-at-none in
    let kept = cached_node c.args.want.now.addr c.args.key.now (record { level = c.args.want.now.level; version = c.version_of-version.result; entries = c.fetch_node.new.entries }) in
    let pages = (g.P.Platform.history c.args.platform.now).present.readable in
    let fits = c.in_ok-fetch_node.ensures.fits tells in
    let keeps = subst (KeepsOnly pages c.args.reader.now.cache) (sym (c.put.ensures.cached ∙ ap (λ (old : Cached). filled old kept) uses.0)) (keeps_filled pages c.args.reader.now.cache kept (inr record { version = c.version_of-version.ensures.value; is = fits.0 })) in
    stands_on pages c.args.reader.now.cache c.put.new.self stands keeps)

pub returns-in_err-fetch_node-clause-bad : goal.returns-in_err-fetch_node-clause-bad
returns-in_err-fetch_node-clause-bad g c =
    let p = err_from_is_err_and c.from_residual.result c.from_residual.ensures.1 in
    rw (p.1, p.2) (λ tells stands addr is.
    let told = ap Err (refused_bad c.in_err-fetch_node.field-0.0 addr (cc)) in
    (c.in_err-fetch_node.ensures.bad addr told, c.in_err-fetch_node.ensures.nothing_fits tells addr told))

-- ---- what is forgotten

pub returns-then-not-fits-clause-forgets : goal.returns-then-not-fits-clause-forgets
returns-then-not-fits-clause-forgets g c =
    let uses = subst (λ (r : Option (Bor _)). Uses c.args.reader.now.cache c.args.want.now.addr c.args.key.now (option_copied r) c.get.follows.lender-at-none) c.in-Some.is c.get.follows.holds-at-none in
    forgets_used c.args.reader.now.cache c.get.follows.lender-at-none c.args.want.now.addr c.args.key.now c.in-Some.node.now c.get.ensures.apart uses

pub returns-in-Some-clause-forgets : goal.returns-in-Some-clause-forgets
returns-in-Some-clause-forgets g c =
    let uses = subst (λ (r : Option (Bor _)). Uses c.args.reader.now.cache c.args.want.now.addr c.args.key.now (option_copied r) c.get.follows.lender-at-none) c.in-Some.is c.get.follows.holds-at-none in
    forgets_used c.args.reader.now.cache c.get.follows.lender-at-none c.args.want.now.addr c.args.key.now c.in-Some.node.now c.get.ensures.apart uses

pub returns-in_err-fetch_node-clause-forgets : goal.returns-in_err-fetch_node-clause-forgets
returns-in_err-fetch_node-clause-forgets g c =
    let uses = subst (λ (r : Option (Bor _)). Uses c.args.reader.now.cache c.args.want.now.addr c.args.key.now (option_copied r) c.get.follows.lender-at-none) c.in_default.is c.get.follows.holds-at-none in
    forgets_same c.args.reader.now.cache c.get.follows.lender-at-none uses.0

pub returns-clause-forgets : goal.returns-clause-forgets
returns-clause-forgets g c =
    let uses = subst (λ (r : Option (Bor _)). Uses c.args.reader.now.cache c.args.want.now.addr c.args.key.now (option_copied r) c.get.follows.lender-at-none) c.in_default.is c.get.follows.holds-at-none in
    let kept = cached_node c.args.want.now.addr c.args.key.now (record { level = c.args.want.now.level; version = c.version_of-version.result; entries = c.fetch_node.new.entries }) in
    subst (ForgetsNone c.args.reader.now.cache) (sym (c.put.ensures.cached ∙ ap (λ (old : Cached). filled old kept) uses.0)) (forgets_filled c.args.reader.now.cache kept c.get.ensures.apart)

pub returns-then-not-fits-clause-but : goal.returns-then-not-fits-clause-but
returns-then-not-fits-clause-but g c =
    let uses = subst (λ (r : Option (Bor _)). Uses c.args.reader.now.cache c.args.want.now.addr c.args.key.now (option_copied r) c.get.follows.lender-at-none) c.in-Some.is c.get.follows.holds-at-none in
    but_used c.args.reader.now.cache c.get.follows.lender-at-none c.args.want.now.addr c.args.key.now c.in-Some.node.now uses

pub returns-in-Some-clause-but : goal.returns-in-Some-clause-but
returns-in-Some-clause-but g c =
    let uses = subst (λ (r : Option (Bor _)). Uses c.args.reader.now.cache c.args.want.now.addr c.args.key.now (option_copied r) c.get.follows.lender-at-none) c.in-Some.is c.get.follows.holds-at-none in
    but_used c.args.reader.now.cache c.get.follows.lender-at-none c.args.want.now.addr c.args.key.now c.in-Some.node.now uses

pub returns-clause-but : goal.returns-clause-but
returns-clause-but g c =
    let uses = subst (λ (r : Option (Bor _)). Uses c.args.reader.now.cache c.args.want.now.addr c.args.key.now (option_copied r) c.get.follows.lender-at-none) c.in_default.is c.get.follows.holds-at-none in
    let kept = cached_node c.args.want.now.addr c.args.key.now (record { level = c.args.want.now.level; version = c.version_of-version.result; entries = c.fetch_node.new.entries }) in
    subst (KeepsBut c.args.want.now.addr c.args.key.now c.args.reader.now.cache) (sym (c.put.ensures.cached ∙ ap (λ (old : Cached). filled old kept) uses.0)) (but_filled c.args.reader.now.cache kept)

pub returns-in_err-fetch_node-clause-but : goal.returns-in_err-fetch_node-clause-but
returns-in_err-fetch_node-clause-but g c =
    let uses = subst (λ (r : Option (Bor _)). Uses c.args.reader.now.cache c.args.want.now.addr c.args.key.now (option_copied r) c.get.follows.lender-at-none) c.in_default.is c.get.follows.holds-at-none in
    subst (KeepsBut c.args.want.now.addr c.args.key.now c.args.reader.now.cache) (sym uses.0) (but_same c.args.want.now.addr c.args.key.now c.args.reader.now.cache)

-- ---- what is cached

pub returns-then-not-fits-clause-cached : goal.returns-then-not-fits-clause-cached
returns-then-not-fits-clause-cached g c = λ node here.
    let uses = subst (λ (r : Option (Bor _)). Uses c.args.reader.now.cache c.args.want.now.addr c.args.key.now (option_copied r) c.get.follows.lender-at-none) c.in-Some.is c.get.follows.holds-at-none in
    let same : node ≡ c.in-Some.node.now = c.in-Some.ensures.found.only node here in
    let still = found_still c.args.reader.now.cache c.get.follows.lender-at-none c.args.want.now.addr c.args.key.now c.in-Some.node.now uses in (
      refl,
      λ misfit. refl,
      tt,
      subst (λ (n : NodeBody). IsCached c.get.follows.lender-at-none.nodes c.args.want.now.addr c.args.key.now n) (sym same) still,
      still_used c.args.reader.now.cache c.get.follows.lender-at-none c.args.want.now.addr c.args.key.now c.in-Some.node.now uses,
    )

pub returns-in-Some-clause-cached : goal.returns-in-Some-clause-cached
returns-in-Some-clause-cached g c = λ node here.
    let uses = subst (λ (r : Option (Bor _)). Uses c.args.reader.now.cache c.args.want.now.addr c.args.key.now (option_copied r) c.get.follows.lender-at-none) c.in-Some.is c.get.follows.holds-at-none in
    let still = found_still c.args.reader.now.cache c.get.follows.lender-at-none c.args.want.now.addr c.args.key.now c.in-Some.node.now uses in
    let same : node ≡ c.in-Some.node.now = c.in-Some.ensures.found.only node here in (
      refl,
      λ misfit. absurd (misfit (subst (NodeFits c.args.want.now c.args.key.now) (sym same) (c.fits.ensures.0 c.if-not-fits.false))),
      IfOk_map _ _ c.in_memory.result (λ twig is. is.1 ∙ ap (λ (n : NodeBody). all_kept n.entries.items) (sym same)) c.in_memory.ensures.node,
      subst (λ (n : NodeBody). IsCached c.get.follows.lender-at-none.nodes c.args.want.now.addr c.args.key.now n) (sym same) still,
      still_used c.args.reader.now.cache c.get.follows.lender-at-none c.args.want.now.addr c.args.key.now c.in-Some.node.now uses,
    )

pub returns-in_err-fetch_node-clause-cached : goal.returns-in_err-fetch_node-clause-cached
returns-in_err-fetch_node-clause-cached g c = λ node here. absurd (c.in_default.ensures.none node here)

pub returns-clause-cached : goal.returns-clause-cached
returns-clause-cached g c = λ node here. absurd (c.in_default.ensures.none node here)

pub returns-in-Some-clause-fills : goal.returns-in-Some-clause-fills
returns-in-Some-clause-fills g c =
    let uses = subst (λ (r : Option (Bor _)). Uses c.args.reader.now.cache c.args.want.now.addr c.args.key.now (option_copied r) c.get.follows.lender-at-none) c.in-Some.is c.get.follows.holds-at-none in
    IfOk_map _ _ c.in_memory.result (λ twig is. (c.in-Some.node.now, is.1, inl uses.1)) c.in_memory.ensures.node

pub returns-clause-fills : goal.returns-clause-fills
returns-clause-fills g c =
    let uses = subst (λ (r : Option (Bor _)). Uses c.args.reader.now.cache c.args.want.now.addr c.args.key.now (option_copied r) c.get.follows.lender-at-none) c.in_default.is c.get.follows.holds-at-none in
    let node : NodeBody = record { level = c.args.want.now.level; version = c.version_of-version.result; entries = c.fetch_node.new.entries } in
    let first = c.put.ensures.cached ∙ ap (λ (old : Cached). filled old (cached_node c.args.want.now.addr c.args.key.now node)) uses.0 in
    IfOk_map _ _ c.in_memory-2.result (λ twig is. (node, is.1, inr first)) c.in_memory-2.ensures.node
