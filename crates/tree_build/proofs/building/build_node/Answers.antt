use Rattle.std.proofs.Common.{◌≡◌, ◌<◌, ◌^◌, refl, arith}
use Rattle.node_codec.specs.Record.{NodeRecord, record_bytes}
use Rattle.page_store.specs.Keeping.{IsNextRecord}
use Rattle.tree_build.specs.Building.{OnlyAdds}
use Rattle.tree_build.specs.Nodes.{children_in}
use Rattle.tree_build.proofs.AddingLaws.{adds_one, drew_placed}
use Rattle.tree_build.proofs.NodeLaws.{node_body, node_built, children_keys, keeps_placed}
use Rattle.tree_build.proofs.building.build_node.Given.{Over}
use Rattle.tree_build.proofs.building.build_node.Goals as goal
use Rattle.tree_build.proofs.building.build_node.Goals.{After-append}

pub returns-clause-built : goal.returns-clause-built
returns-clause-built g c =
    let head = g.P.Platform.head c.args.platform.now in
    let items = c.args.items.now in
    let body : c.put_node.new.self.body ≡ record_bytes 2 head (NodeRecord c.args.span.now.level (children_in items c.args.span.now))
    = node_body c.args.span.now items head c.head.result c.args.buffers.now c.put_node.new.self c.head.ensures.value c.put_node.ensures in
    let small : head < 2 ^ 64 = omega (arith, c.head.ensures.room, c.head.ensures.limit) in
    node_built g.P.Platform g.T.Tape c.args.platform.now c.append.new.platform c.args.tape.now c.append.new.tape c.args.span.now items c.put_node.new.self.body c.low_of.result c.in_ok-placed.placed
    small (λ told. g.met.P.Platform.counts_pages told c.args.platform.now) c.requires.fits c.requires.keys body (c.low_of.ensures c.args.span.now refl) c.in_ok-placed.ensures.placed

pub returns-clause-keeps : goal.returns-clause-keeps
returns-clause-keeps g c =
    let head = g.P.Platform.head c.args.platform.now in
    let items = c.args.items.now in
    let value = NodeRecord c.args.span.now.level (children_in items c.args.span.now) in
    let body : c.put_node.new.self.body ≡ record_bytes 2 head value
    = node_body c.args.span.now items head c.head.result c.args.buffers.now c.put_node.new.self c.head.ensures.value c.put_node.ensures in
    keeps_placed g.P.Platform.tells (g.T.Tape.drawn c.args.tape.now) (g.T.Tape.drawn c.append.new.tape) (g.P.Platform.history c.args.platform.now) (g.P.Platform.history c.append.new.platform)
    (IsNextRecord (g.P.Platform.history c.args.platform.now).present value) c.append.result c.in_ok-placed.placed c.in_ok-placed.was
    (c.append.ensures.keeps 2 value (c.requires.fits, children_keys c.args.span.now items c.requires.keys) body)

-- what was added, whatever the append answered
appended : (g : Over) (c : After-append g) → OnlyAdds g.P.Platform g.T.Tape 1 0 c.args.platform.now c.append.new.platform c.args.tape.now c.append.new.tape
appended g c = adds_one g.P.Platform g.T.Tape c.args.platform.now c.append.new.platform c.args.tape.now c.append.new.tape c.append.ensures.adds
    (drew_placed g.P.Platform g.T.Tape 2 c.put_node.new.self.body c.args.platform.now c.append.new.platform c.args.tape.now c.append.new.tape c.append.result c.append.ensures.placed c.append.ensures.idle c.append.ensures.spent)

pub returns-in_err-placed-clause-adds : goal.returns-in_err-placed-clause-adds
returns-in_err-placed-clause-adds g c = appended g (goal.at.returns-in_err-placed-clause-adds g c).After-append

pub returns-clause-adds : goal.returns-clause-adds
returns-clause-adds g c = appended g (goal.at.returns-clause-adds g c).After-append
