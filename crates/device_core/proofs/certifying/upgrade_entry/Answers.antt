use Rattle.std.proofs.Common.{◌≡◌, ◌∙◌, ◌++◌, ℕ, List, [], map, length, ap, sym, subst, refl, arith}
use Rattle.sdbt_base.specs.Traces.{Traced}
use Rattle.node_codec.specs.declared.body.Entry.{Entry}
use Rattle.root_codec.specs.declared.root.Root.{Root}
use Rattle.root_codec.specs.RootRecord.{FitsRoot}
use Rattle.cert_maker.specs.Differ.{Differ}
use Rattle.tree_build.specs.declared.shapes.Span.{Span}
use Rattle.tree_build.specs.Nodes.{planned}
use Rattle.tree_build.specs.Shape.{IsShaped, built, shape_of}
use Rattle.tree_build.proofs.ShapeLaws.{shape_many}
use Rattle.device_core.specs.Upgrading.{order_above}
use Rattle.device_core.proofs.BeginLaws.{shaped_root}
use Rattle.device_core.proofs.OrderLaws.{root_needs}
use Rattle.device_core.proofs.CertifyingLaws.{with_range}
use Rattle.device_core.proofs.certifying.upgrade_entry.Goals as goal

-- the shape has as many nodes as are needed over the entries
many : (root : Root) (entries : List Entry) (shape : List Span) (n : ℕ) → FitsRoot root → length entries ≡ root.mapped → shape ≡ shape_of (order_above root.order) (length entries) → n ≡ length shape → n ≡ built (order_above root.order) root.mapped
many root entries shape n fits count is long =
    let order = order_above root.order in
    let shaped = subst (IsShaped order) (sym count) (shaped_root root fits) in
    long ∙ ap (λ (spans : List Span). length spans) is ∙ shape_many order (length entries) shaped ∙ ap (built order) count

pub plan-requires-clause-base : goal.plan-requires-clause-base
plan-requires-clause-base c = omega (arith, c.requires.room, root_needs c.args.root.now c.requires.root.in_range)

pub overflow_add-end : goal.overflow_add-end
overflow_add-end c = omega (arith, many c.args.root.now c.args.entries.now c.args.shape.now c.len.result c.requires.root.in_range c.requires.count c.requires.shape c.len.ensures, c.requires.room, c.requires.count)

pub overflow_add-end-2 : goal.overflow_add-end-2
overflow_add-end-2 c = omega (arith, many c.args.root.now c.args.entries.now c.args.shape.now c.len.result c.requires.root.in_range c.requires.count c.requires.shape c.len.ensures, c.requires.room, c.requires.count)

pub returns : goal.returns
returns c =
    let root = c.args.root.now in
    let entries = c.args.entries.now in
    let order = order_above root.order in
    let needs = root_needs root c.requires.root.in_range in
    let is = c.in_ok-cert.ensures in
    let plan_is : planned order c.args.head (map (λ (e : Entry). e.low) entries) ≡ c.in_ok-added.added
    = sym (c.in_ok-added.ensures ∙ ap (λ (n : ℕ). planned n c.args.head (map (λ (e : Entry). e.low) entries)) c.order_over.ensures) in
    let gone_is : c.args.nodes ++ map (λ (e : Entry). e.addr) entries ≡ c.deref.result.now = sym (c.deref.ensures.value ∙ c.in_ok-gone.ensures) in
    with_range c.line.result _ _ _ (λ line fits entry. record {
      cert = c.in_ok-cert.cert;
      in_text = fits;
      is = entry;
      commit = is.commit;
      begins = is.base;
      ends = omega (arith, is.head, many c.args.root.now c.args.entries.now c.args.shape.now c.len.result c.requires.root.in_range c.requires.count c.requires.shape c.len.ensures, c.requires.count);
      node = omega (arith, is.root, many c.args.root.now c.args.entries.now c.args.shape.now c.len.result c.requires.root.in_range c.requires.count c.requires.shape c.len.ensures, c.requires.count, needs);
      trees = λ old new differ.
          let of = is.trees old new [] (λ one other has there same. absurd (omega (arith, has.1)))
          (subst (λ (gone : List ℕ). Differ old new [] c.in_ok-added.added gone []) gone_is (subst (λ (added : List Traced). Differ old new [] added (c.args.nodes ++ map (λ (e : Entry). e.addr) entries) []) plan_is differ)) in
          record { numbered = refl; rooted = refl; begins = refl; ends = refl; added = of.added; gone = of.gone; never = of.never; added_ascend = of.added_ascend; gone_ascend = of.gone_ascend; never_ascend = of.never_ascend };
    }) c.line.ensures.in_range c.line.ensures.entry
