use Rattle.std.proofs.Common.{◌+◌, List, [], ◌∷◌, ◌++◌, length, refl, sym, ap, subst, ◌∙◌, arith}
use Rattle.std.specs.Prelude.{slice_get}
use Rattle.node_codec.specs.declared.body.Entry.{Entry}
use Rattle.tree_build.specs.declared.shapes.Span.{Span}
use Rattle.tree_build.specs.Shape.{built}
use Rattle.tree_build.proofs.AddingLaws.{adds_then, adds_within}
use Rattle.tree_build.proofs.ShapeLaws.{shape_many}
use Rattle.tree_build.proofs.RoundLaws.{IsMade, made_none, made_next, made_size, made_room, round_fits, round_within, all_made, all_keep, fault_keeps, none_ok}
use Rattle.tree_build.proofs.building.build.Goals as goal

pub loop-i-init : goal.loop-i-init
loop-i-init g c = record {
  made = made_none g.P.Platform g.T.Tape c.args.order c.requires.can.0 c.args.items.now.items c.args.platform.now c.args.tape.now c.requires.can.1;
  capacity = refl;
}

pub build_node-requires-clause-fits : goal.build_node-requires-clause-fits
build_node-requires-clause-fits g c =
    let records = c.args.items.now.items in
    let made = subst (λ (es : List Entry). IsMade g.P.Platform g.T.Tape c.args.order c.loop-i.i records es c.args.platform.now c.loop-i.platform c.args.tape.now c.loop-i.tape) (sym c.deref.ensures.value) c.loop-i.invariant.made in
    let there = ap (λ (ss : List Span). slice_get ss c.loop-i.i) (sym c.requires.shape) ∙ c.at-span.ensures in
    round_fits g.P.Platform g.T.Tape c.args.order c.requires.can.0 c.loop-i.i records c.deref.result.now c.args.platform.now c.loop-i.platform c.args.tape.now c.loop-i.tape c.at-span.result.now c.requires.can.1 made there

pub build_node-requires-clause-within : goal.build_node-requires-clause-within
build_node-requires-clause-within g c =
    let records = c.args.items.now.items in
    let made = subst (λ (es : List Entry). IsMade g.P.Platform g.T.Tape c.args.order c.loop-i.i records es c.args.platform.now c.loop-i.platform c.args.tape.now c.loop-i.tape) (sym c.deref.ensures.value) c.loop-i.invariant.made in
    let there = ap (λ (ss : List Span). slice_get ss c.loop-i.i) (sym c.requires.shape) ∙ c.at-span.ensures in
    round_within g.P.Platform g.T.Tape c.args.order c.loop-i.i records c.deref.result.now c.args.platform.now c.loop-i.platform c.args.tape.now c.loop-i.tape c.at-span.result.now c.requires.can.1.shaped made there

pub build_node-requires-clause-room : goal.build_node-requires-clause-room
build_node-requires-clause-room g c =
    let records = c.args.items.now.items in
    let count = ap length c.requires.shape in
    made_room g.P.Platform g.T.Tape c.args.order c.requires.can.0 c.loop-i.i records c.loop-i.items.items c.args.platform.now c.loop-i.platform c.args.tape.now c.loop-i.tape c.requires.can.1 c.loop-i.invariant.made
    (omega (arith, count, c.loop-i-test.true, c.len-i-end.ensures))

pub returns-in_err-entry-clause-keeps : goal.returns-in_err-entry-clause-keeps
returns-in_err-entry-clause-keeps g c =
    let records = c.args.items.now.items in
    let made = subst (λ (es : List Entry). IsMade g.P.Platform g.T.Tape c.args.order c.loop-i.i records es c.args.platform.now c.loop-i.platform c.args.tape.now c.loop-i.tape) (sym c.deref.ensures.value) c.loop-i.invariant.made in
    fault_keeps g.P.Platform g.T.Tape c.args.order c.loop-i.i records c.deref.result.now c.args.platform.now c.loop-i.platform c.build_node.new.platform c.args.tape.now c.loop-i.tape c.build_node.new.tape c.at-span.result.now _ _
    made c.build_node.ensures.keeps (λ keys. none_ok c.from_residual.result _ _ c.from_residual.ensures.1)

pub returns-in_err-entry-clause-beside : goal.returns-in_err-entry-clause-beside
returns-in_err-entry-clause-beside g c =
    let count = ap length c.requires.shape in
    let many = shape_many c.args.order (length c.args.items.now.items) c.requires.can.1.shaped in
    adds_then g.P.Platform g.T.Tape c.loop-i.i 1 (built c.args.order (length c.args.items.now.items)) 0 0 0 c.args.platform.now c.loop-i.platform c.build_node.new.platform c.args.tape.now c.loop-i.tape c.build_node.new.tape
    (omega (arith, count, many, c.loop-i-test.true, c.len-i-end.ensures)) (omega arith) c.loop-i.invariant.made.beside c.build_node.ensures.adds

pub add-requires : goal.add-requires
add-requires g c =
    let records = c.args.items.now.items in
    let count = ap length c.requires.shape in
    let many = shape_many c.args.order (length records) c.requires.can.1.shaped in
    let size = made_size g.P.Platform g.T.Tape c.args.order c.loop-i.i records c.loop-i.items.items c.args.platform.now c.loop-i.platform c.args.tape.now c.loop-i.tape c.loop-i.invariant.made in
    let same = ap length c.deref.ensures.value in
    omega (arith, count, many, size, same, c.deref.ensures.len, c.requires.room, c.loop-i.invariant.capacity, c.loop-i-test.true, c.len-i-end.ensures)

pub loop-i-preserved : goal.loop-i-preserved
loop-i-preserved g c =
    let records = c.args.items.now.items in
    let entry = c.in_ok-entry.entry in
    let made = subst (λ (es : List Entry). IsMade g.P.Platform g.T.Tape c.args.order c.loop-i.i records es c.args.platform.now c.loop-i.platform c.args.tape.now c.loop-i.tape) (sym c.deref.ensures.value) c.loop-i.invariant.made in
    let there = ap (λ (ss : List Span). slice_get ss c.loop-i.i) (sym c.requires.shape) ∙ c.at-span.ensures in
    let items = ap (λ (es : List Entry). es ++ entry ∷ []) c.deref.ensures.value ∙ sym c.add.ensures.items in
    record {
      made = subst (λ (es : List Entry). IsMade g.P.Platform g.T.Tape c.args.order (c.loop-i.i + 1) records es c.args.platform.now c.build_node.new.platform c.args.tape.now c.build_node.new.tape) items
          (made_next g.P.Platform g.T.Tape c.args.order c.requires.can.0 c.loop-i.i records c.deref.result.now c.args.platform.now c.loop-i.platform c.build_node.new.platform c.args.tape.now c.loop-i.tape c.build_node.new.tape
          c.at-span.result.now entry c.requires.can.1 made there c.in_ok-entry.ensures.built c.in_ok-entry.ensures.keeps c.in_ok-entry.ensures.adds c.in_ok-entry.ensures.platform_cause.done c.in_ok-entry.ensures.tape_cause.done);
      capacity = c.add.ensures.capacity ∙ c.loop-i.invariant.capacity;
    }

pub returns-clause-builds : goal.returns-clause-builds
returns-clause-builds g c =
    let count = ap length c.requires.shape in
    all_made g.P.Platform g.T.Tape c.args.order c.requires.can.0 c.loop-i.i c.args.items.now.items c.loop-i.items.items c.args.platform.now c.loop-i.platform c.args.tape.now c.loop-i.tape c.requires.can.1 c.loop-i.invariant.made
    (omega (arith, count, c.loop-i-test.false, c.loop-i.auto.i-end, c.len-i-end.ensures))

pub returns-clause-keeps : goal.returns-clause-keeps
returns-clause-keeps g c =
    all_keep g.P.Platform g.T.Tape c.args.order c.loop-i.i c.args.items.now.items c.loop-i.items.items c.args.platform.now c.loop-i.platform c.args.tape.now c.loop-i.tape c.loop-i.invariant.made

pub returns-clause-beside : goal.returns-clause-beside
returns-clause-beside g c =
    let count = ap length c.requires.shape in
    let many = shape_many c.args.order (length c.args.items.now.items) c.requires.can.1.shaped in
    adds_within g.P.Platform g.T.Tape c.loop-i.i (built c.args.order (length c.args.items.now.items)) 0 0 c.args.platform.now c.loop-i.platform c.args.tape.now c.loop-i.tape
    (omega (arith, count, many, c.loop-i.auto.i-end, c.len-i-end.ensures)) (omega arith) c.loop-i.invariant.made.beside
