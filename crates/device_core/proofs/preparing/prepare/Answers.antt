use Rattle.std.proofs.Common.{◌≡◌, ◌∙◌, ℕ, List, ap, sym, subst, inl, inr, arith, length}
use Rattle.std.proofs.lemmas.Result.{err_from_is_err_and}
use Rattle.node_codec.specs.declared.body.Entry.{Entry}
use Rattle.tree_build.specs.Shape.{shape_of}
use Rattle.tree_build.proofs.ShapeLaws.{shape_many}
use Rattle.root_codec.specs.declared.root.Root.{Root}
use Rattle.device_core.specs.Upgrading.{order_above, ReadsCut}
use Rattle.device_core.specs.Surveying.{AreOf, ReadsTwice}
use Rattle.device_core.specs.UpgradeCalls.{IsUpgradeEntry}
use Rattle.device_core.proofs.BeginLaws.{shaped_root}
use Rattle.device_core.proofs.preparing.prepare.Goals as goal

pub upgrade_entry-requires-clause-room : goal.upgrade_entry-requires-clause-room
upgrade_entry-requires-clause-room g c =
    let looks = c.list_records.ensures.looks in
    omega (arith, c.requires.room, c.head.ensures.value, looks.head, g.met.P.Platform.is_limited c.args.platform.now)

pub returns-clause-prepared : goal.returns-clause-prepared
returns-clause-prepared g c =
    let P = g.P.Platform in
    let root = c.args.root.now in
    let pages = (P.history c.args.platform.now).present.readable in
    let found = c.in_ok-items.ensures.listed in
    let addrs = c.in_ok-items.field-0.nodes in
    let items = c.in_ok-items-2.items.items in
    let same : items ≡ c.in_ok-items.field-0.items.items = c.in_ok-items-2.ensures.items in
    let of : AreOf P.tells pages root items addrs = subst (λ (es : List Entry). AreOf P.tells pages root es addrs) (sym same) found in
    let long : c.len.result ≡ root.mapped = omega (arith, c.len.ensures, found.listing.0, c.in_ok-items.field-0.items.ok.0) in
    let shape : c.in_ok-shape.shape ≡ shape_of (order_above root.order) root.mapped = c.in_ok-shape.ensures ∙ (λ i. shape_of (c.order_over.ensures i) (long i)) in
    let many = shape_many (order_above root.order) root.mapped (shaped_root root c.requires.within.in_range) in
    let head : c.head.result ≡ P.head c.args.platform.now = c.head.ensures.value ∙ c.list_records.ensures.looks.head in
    record {
      has = record {
        listing = of.listing;
        shape = shape;
        room = omega (arith, c.in_ok-items-2.ensures.room, c.len-2.ensures, ap length shape, many, found.listing.0, c.in_ok-items.field-0.items.ok.0);
      };
      addrs = addrs;
      of = of;
      line = subst (λ (n : ℕ). IsUpgradeEntry root n items addrs c.in_ok-line.line) head
          (subst (λ (es : List Entry). IsUpgradeEntry root c.head.result es addrs c.in_ok-line.line) (c.deref.ensures.value ∙ sym same) c.in_ok-line.ensures);
    }

-- ---- where a walk was not done

pub returns-in_err-items-clause-cut : goal.returns-in_err-items-clause-cut
returns-in_err-items-clause-cut g c =
    let p = err_from_is_err_and c.from_residual-in_err-items.result c.from_residual-in_err-items.ensures.1 in
    rw p.1 c.in_err-items.ensures.cut

-- or both were done, and no memory was given behind them
twice_read : (pages : List (List ℕ)) (root : Root) (reads now : ℕ) → ReadsTwice pages root reads now → ReadsCut pages root reads now
twice_read pages root reads now twice = inr (inr (twice.nodes, twice.are, inr (twice.many, inl (omega (arith, twice.read)))))

pub returns-in_err-shape-clause-cut : goal.returns-in_err-shape-clause-cut
returns-in_err-shape-clause-cut g c =
    let p = err_from_is_err_and c.from_residual-in_err-shape.result c.from_residual-in_err-shape.ensures.1 in
    rw p.1 (λ told. twice_read _ _ _ _ (c.in_ok-items.ensures.reads told))

pub returns-in_err-line-clause-cut : goal.returns-in_err-line-clause-cut
returns-in_err-line-clause-cut g c =
    let p = err_from_is_err_and c.from_residual-in_err-line.result c.from_residual-in_err-line.ensures.1 in
    rw p.1 (λ told. twice_read _ _ _ _ (c.in_ok-items.ensures.reads told))

pub returns-in_err-items-2-clause-cut : goal.returns-in_err-items-2-clause-cut
returns-in_err-items-2-clause-cut g c =
    let p = err_from_is_err_and c.from_residual-in_err-items-2.result c.from_residual-in_err-items-2.ensures.1 in
    rw p.1 (λ told. twice_read _ _ _ _ (c.in_ok-items.ensures.reads told))
