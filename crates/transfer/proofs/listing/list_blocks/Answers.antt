use Rattle.std.proofs.Common.{◌≡◌, ◌<◌, List, Err, ap, subst, sym}
use Rattle.std.specs.Prelude.{All}
use Rattle.node_codec.specs.declared.body.Entry.{Entry}
use Rattle.root_codec.specs.RootRecord.{FitsRoot}
use Rattle.root_codec.specs.declared.root.Root.{Root}
use Rattle.btree_walk.specs.Nodes.{FirstWrongOf, NodesOf}
use Rattle.btree_walk.specs.declared.refusals.WalkRefusal.{WalkRefusal}
use Rattle.session_calls.specs.Damage.{IsMounted}
use Rattle.session_calls.specs.declared.stops.DeviceStop.{DeviceStop}
use Rattle.transfer.specs.Listing.{IsListStop, StopsListingAt}
use Rattle.std.proofs.Common.{◌-◌, ◌∙◌, ℕ, length, map, arith}
use Rattle.std.specs.FinMap as maps
use Rattle.std.specs.declared.vec.Vec.{Vec}
use Rattle.transfer.specs.Moving.{IsSoundStop}
use Rattle.transfer.proofs.CopyLaws.{listed_keys}
use Rattle.transfer.proofs.MovingLaws.{lists_done, walk_sound}
use Rattle.transfer.proofs.ListLaws.{entries_stopped, entries_within, list_counted, list_miscounted, list_stopped, lows_listed, lows_many}
use Rattle.transfer.specs.Reads.{Walks}
use Rattle.transfer.proofs.ReadsLaws.{walks_cut, walks_done, walks_none}
use Rattle.transfer.proofs.listing.list_blocks.Goals as goal

pub returns-then-len-root-clause-wrong : goal.returns-then-len-root-clause-wrong
returns-then-len-root-clause-wrong g c =
    let P = g.P.Platform in
    let root : Root = c.root-root.result.now in
    let same : root ≡ c.args.session.now.root = c.root-root.ensures in
    entries_stopped (P.tells × IsMounted (P.history c.args.platform.now).present c.args.session.now) (P.history c.entries.new.platform).present c.in-Ok-entries.list root.blocks root.addr c.lows_of.result c.lows_of.ensures.stops
    (λ known.
    let lists = c.in-Ok-entries.ensures.listed known.0 in
    subst (λ (l : List Entry). All (λ e. e.low < root.blocks) l) (sym lists.is) (entries_within (P.history c.args.platform.now).present.readable root lists.nodes (subst FitsRoot (sym same) c.requires.open.served.in_range) lists.are))

pub returns-clause-wrong : goal.returns-clause-wrong
returns-clause-wrong g c =
    let P = g.P.Platform in
    let Known : Type 0 = P.tells × IsMounted (P.history c.args.platform.now).present c.args.session.now in
    subst (λ (s : DeviceStop). IsListStop Known (P.history c.entries.new.platform).present s) (sym c.stop_of.ensures)
    (list_stopped Known (P.history c.args.platform.now).present (P.history c.entries.new.platform).present c.args.session.now c.in-Err.refusal (λ known. c.in-Err.ensures.looks.image known.0) c.requires.open.served.in_range (λ known. known.1)
    (λ known addr is. subst (λ (r : Root). FirstWrongOf (P.history c.args.platform.now).present.readable r addr) c.root-root.ensures (c.in-Err.ensures.wrong known.0 addr (ap (λ (r : WalkRefusal). Err r) is))))

pub returns-then-len-root-clause-lists : goal.returns-then-len-root-clause-lists
returns-then-len-root-clause-lists g c told there array at =
    let P = g.P.Platform in
    let image = (P.history c.args.platform.now).present in
    let root : Root = c.root-root.result.now in
    let same : root ≡ c.args.session.now.root = c.root-root.ensures in
    let holds = at.there.session.0 in
    let lists = c.in-Ok-entries.ensures.listed told in
    let of : NodesOf image.readable c.args.session.now.root lists.nodes = subst (λ (r : Root). NodesOf image.readable r lists.nodes) same lists.are in
    lists_done (λ (v : Vec ℕ _). v.items) c.lows_of.result c.in-Ok-entries.list root.blocks root.addr (maps.keys there.contents) c.lows_of.ensures.blocks c.lows_of.ensures.stops
    (subst (λ (l : List Entry). All (λ e. e.low < root.blocks) l) (sym lists.is) (entries_within image.readable root lists.nodes (subst FitsRoot (sym same) c.requires.open.served.in_range) lists.are))
    (ap (λ (l : List Entry). map (λ (e : Entry). e.low) l) lists.is ∙ listed_keys image there c.args.session.now.root holds.committed lists.nodes holds.stands of)

pub returns-clause-lists : goal.returns-clause-lists
returns-clause-lists g c told there array at =
    let P = g.P.Platform in
    let image = (P.history c.args.platform.now).present in
    let holds = at.there.session.0 in (
      tt,
      subst IsSoundStop (sym c.stop_of.ensures) (walk_sound image.readable c.args.session.now.root holds.committed c.in-Err.refusal holds.stands.in_range holds.stands.tree
          (λ addr is. subst (λ (r : Root). FirstWrongOf image.readable r addr) c.root-root.ensures (c.in-Err.ensures.wrong told addr (ap (λ (r : WalkRefusal). Err r) is)))),
    )

pub returns-then-len-root-clause-count : goal.returns-then-len-root-clause-count
returns-then-len-root-clause-count g c =
    let root : Root = c.root-root.result.now in
    let same : root ≡ c.args.session.now.root = c.root-root.ensures in
    lows_many (λ (v : Vec ℕ _). v.items) c.lows_of.result c.in-Ok-entries.list root.blocks c.args.session.now.root.mapped c.lows_of.ensures.blocks (sym c.len.ensures ∙ (c.if-len-root.true ∙ ap (λ (r : Root). r.mapped) same))

pub returns-in-Ok-entries-clause-wrong : goal.returns-in-Ok-entries-clause-wrong
returns-in-Ok-entries-clause-wrong g c known =
    let P = g.P.Platform in
    let image = (P.history c.args.platform.now).present in
    let root : Root = c.root-root.result.now in
    let same : root ≡ c.args.session.now.root = c.root-root.ensures in
    let lists = c.in-Ok-entries.ensures.listed known.0 in
    let of : NodesOf image.readable c.args.session.now.root lists.nodes = subst (λ (r : Root). NodesOf image.readable r lists.nodes) same lists.are in
    subst (λ (r : Root). StopsListingAt (P.history c.entries.new.platform).present r.addr) (sym same)
    (list_miscounted image (P.history c.entries.new.platform).present c.args.session.now lists.nodes c.requires.open.served.in_range known.1 of
    (λ many. absurd (c.if-len-root.false (c.len.ensures ∙ ap length lists.is ∙ many ∙ sym (ap (λ (r : Root). r.mapped) same)))) (c.in-Ok-entries.ensures.looks.image known.0))

pub returns-in-Ok-entries-clause-lists : goal.returns-in-Ok-entries-clause-lists
returns-in-Ok-entries-clause-lists g c told there array at =
    let image = (g.P.Platform.history c.args.platform.now).present in
    let root : Root = c.root-root.result.now in
    let same : root ≡ c.args.session.now.root = c.root-root.ensures in
    let lists = c.in-Ok-entries.ensures.listed told in
    let of : NodesOf image.readable c.args.session.now.root lists.nodes = subst (λ (r : Root). NodesOf image.readable r lists.nodes) same lists.are in
    absurd (c.if-len-root.false (c.len.ensures ∙ ap length lists.is ∙ list_counted image there c.args.session.now.root at.there.session.0.committed lists.nodes at.there.session.0.stands of ∙ sym (ap (λ (r : Root). r.mapped) same)))

pub returns-then-len-root-clause-listed : goal.returns-then-len-root-clause-listed
returns-then-len-root-clause-listed g c told =
    let image = (g.P.Platform.history c.args.platform.now).present in
    let root : Root = c.root-root.result.now in
    let same : root ≡ c.args.session.now.root = c.root-root.ensures in
    let lists = c.in-Ok-entries.ensures.listed told in
    lows_listed (λ (v : Vec ℕ _). v.items) c.lows_of.result c.in-Ok-entries.list image c.args.session.now.root lists.nodes root.blocks c.lows_of.ensures.blocks lists.is
    (subst (λ (r : Root). NodesOf image.readable r lists.nodes) same lists.are)

pub returns-then-len-root-clause-walks : goal.returns-then-len-root-clause-walks
returns-then-len-root-clause-walks g c told =
    let P = g.P.Platform in
    let image = (P.history c.args.platform.now).present in
    let reads = P.reads c.args.platform.now in
    let reads_now = P.reads c.entries.new.platform in
    subst (λ (r : Root). Walks image r 0 (reads_now - reads)) c.root-root.ensures (walks_done image c.root-root.result.now reads reads_now c.in-Ok-entries.list (c.in-Ok-entries.ensures.listed told))

pub returns-in-Ok-entries-clause-walks : goal.returns-in-Ok-entries-clause-walks
returns-in-Ok-entries-clause-walks g c told =
    let P = g.P.Platform in
    let image = (P.history c.args.platform.now).present in
    let reads = P.reads c.args.platform.now in
    let reads_now = P.reads c.entries.new.platform in
    subst (λ (r : Root). Walks image r 0 (reads_now - reads)) c.root-root.ensures (walks_done image c.root-root.result.now reads reads_now c.in-Ok-entries.list (c.in-Ok-entries.ensures.listed told))

pub returns-clause-walks : goal.returns-clause-walks
returns-clause-walks g c told =
    let P = g.P.Platform in
    let image = (P.history c.args.platform.now).present in
    let reads = P.reads c.args.platform.now in
    let reads_now = P.reads c.entries.new.platform in
    subst (λ (r : Root). Walks image r 0 (reads_now - reads)) c.root-root.ensures (walks_cut image c.root-root.result.now reads reads_now (c.in-Err.ensures.cut told))

pub returns-in_default-clause-walks : goal.returns-in_default-clause-walks
returns-in_default-clause-walks g c told =
    let P = g.P.Platform in
    walks_none (P.history c.args.platform.now).present c.args.session.now.root 0 (P.reads c.args.platform.now - P.reads c.args.platform.now) (omega arith)
