use Rattle.std.proofs.Common.{◌≡◌, ◌∙◌, ℕ, Bool, true, length, List, Err, ap, sym, subst, inl, inr, arith}
use Rattle.std.specs.Prelude.{IsTrue}
use Rattle.std.proofs.lemmas.Grind.{common_steps}
use Rattle.std.proofs.lemmas.Result.{err_from_is_err_and}
use Rattle.platform.specs.Image.{Image}
use Rattle.node_codec.specs.declared.body.Entry.{Entry}
use Rattle.page_store.specs.Places.{root_want}
use Rattle.btree_walk.specs.Nodes.{Node, NodesOf, CutShort, listed}
use Rattle.root_codec.specs.declared.root.Root.{Root}
use Rattle.btree_walk.proofs.OneWalkLaws.{one_nodes}
use Rattle.device_core.specs.Surveying.{IsListing}
use Rattle.device_core.specs.declared.surveying.Survey.{Survey}
use Rattle.device_core.proofs.SurveyLaws.{lists_another, walk_cause, walk_cause_then}
use Rattle.device_core.proofs.surveying.list_records.Goals as goal

pub returns-in_err-list-clause-cause : goal.returns-in_err-list-clause-cause
returns-in_err-list-clause-cause g c =
    let p = err_from_is_err_and c.from_residual.result c.from_residual.ensures.1 in
    rw (p.1, p.2) (walk_cause Survey g.P.Platform c.args.platform.now c.entries.new.platform c.args.root.now c.in_err-list.field-0.0 c.in_err-list.ensures.cause
    (λ told addr is. c.in_err-list.ensures.wrong told addr (ap Err is)))

pub returns-then-not-is_listing-clause-cause : goal.returns-then-not-is_listing-clause-cause
returns-then-not-is_listing-clause-cause g c = (
  λ told.
      let lists = c.in_ok-list.ensures.listed told in
      let root = c.args.root.now in
      lists_another (g.P.Platform.history c.args.platform.now).present.readable root lists.nodes c.into_vec-items.result.items c.requires.within.in_range lists.are (c.into_vec-items.ensures ∙ lists.is)
      (λ listing.
      let t : IsTrue c.is_listing.result = c.is_listing.ensures.1 (subst (λ (es : List Entry). IsListing root es) (sym c.deref.ensures.value) listing) in
      grind (arith, common_steps, t, c.if-not-is_listing.true)),
  c.in_ok-list.ensures.cause.done,
)

pub returns-in_err-nodes-clause-cause : goal.returns-in_err-nodes-clause-cause
returns-in_err-nodes-clause-cause g c =
    let P = g.P.Platform in
    let p = err_from_is_err_and c.from_residual-in_err-nodes.result c.from_residual-in_err-nodes.ensures.1 in
    rw (p.1, p.2) (walk_cause_then Survey P c.args.platform.now c.entries.new.platform c.addresses.new.platform c.args.root.now c.in_err-nodes.field-0.0 c.in_ok-list.ensures.cause.done c.entries.ensures.looks.image c.in_err-nodes.ensures.cause
    (λ told addr is. c.in_err-nodes.ensures.wrong told addr (ap Err is)))

-- a listing has as many entries as the root record says
many_listed : (root : Root) (items seen : List Entry) (nodes : List Node) → seen ≡ items → items ≡ listed nodes → IsListing root seen → length (listed nodes) ≡ root.mapped
many_listed root items seen nodes same is listing = sym (ap length (same ∙ is)) ∙ listing.0

listing_true : (b : Bool) → b ≡ true → IsTrue b
listing_true b is = is

pub returns-clause-reads : goal.returns-clause-reads
returns-clause-reads g c = λ told.
    let root = c.args.root.now in
    let pages = (g.P.Platform.history c.args.platform.now).present.readable in
    let lists = c.in_ok-list.ensures.listed told in
    let again = c.in_ok-nodes.ensures.listed told in
    let are : NodesOf pages root again.nodes = subst (λ (i : Image). NodesOf i.readable root again.nodes) (c.entries.ensures.looks.image told) again.are in
    let fits = c.requires.within.in_range in
    let one : lists.nodes ≡ again.nodes = one_nodes pages root.order root.level (root_want root) root.key lists.nodes again.nodes (omega (arith, fits.addr, fits.head)) lists.are are in
    record { nodes = lists.nodes; are = lists.are; many = many_listed root c.into_vec-items.result.items c.deref.result.now lists.nodes c.deref.ensures.value (c.into_vec-items.ensures ∙ lists.is) (c.is_listing.ensures.0 (listing_true c.is_listing.result c.if-not-is_listing.false)); read = omega (arith, lists.reads, again.reads, ap length one) }

-- ---- what a walk that was cut short has read

pub returns-in_err-list-clause-cut : goal.returns-in_err-list-clause-cut
returns-in_err-list-clause-cut g c =
    let p = err_from_is_err_and c.from_residual.result c.from_residual.ensures.1 in
    rw p.1 (λ told. inr (inl (c.in_err-list.ensures.cut told)))

pub returns-then-not-is_listing-clause-cut : goal.returns-then-not-is_listing-clause-cut
returns-then-not-is_listing-clause-cut g c = λ told.
    let lists = c.in_ok-list.ensures.listed told in
    inr (inr (lists.nodes, lists.are, inl lists.reads))

pub returns-in_err-nodes-clause-cut : goal.returns-in_err-nodes-clause-cut
returns-in_err-nodes-clause-cut g c =
    let p = err_from_is_err_and c.from_residual-in_err-nodes.result c.from_residual-in_err-nodes.ensures.1 in
    let P = g.P.Platform in
    let root = c.args.root.now in
    rw p.1 (λ told.
    let lists = c.in_ok-list.ensures.listed told in
    let cut = subst (λ (i : Image). CutShort i.readable (root_want root) root.key (P.reads c.entries.new.platform) (P.reads c.addresses.new.platform)) (c.entries.ensures.looks.image told) (c.in_err-nodes.ensures.cut told) in
    inr (inr (lists.nodes, lists.are, inr (many_listed root c.into_vec-items.result.items c.deref.result.now lists.nodes c.deref.ensures.value (c.into_vec-items.ensures ∙ lists.is) (c.is_listing.ensures.0 (listing_true c.is_listing.result c.if-not-is_listing.false)), inr (subst (λ (n : ℕ). CutShort (P.history c.args.platform.now).present.readable (root_want root) root.key n (P.reads c.addresses.new.platform)) lists.reads cut)))))
