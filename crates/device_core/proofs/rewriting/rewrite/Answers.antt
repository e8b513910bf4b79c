use Rattle.std.proofs.Common.{◌≡◌, ◌∙◌, ap, sym, subst, ◌+◌, ◌≤◌, ◌++◌, ℕ, List, All, arith, length, length-append, take, drop}
use Rattle.std.proofs.Math.Seq.{take-append_seam}
use Rattle.std.proofs.lemmas.Result.{err_from_is_err_and}
use Rattle.node_codec.specs.declared.body.Entry.{Entry}
use Rattle.page_store.specs.Keeping.{KeepsKeys}
use Rattle.page_store.specs.Stands.{IsSound}
use Rattle.page_store.proofs.KeepingLaws.{keeps_from, keeps_then}
use Rattle.tree_build.specs.Building.{Builds, CanBuild, KnowsItems, OnlyAdds}
use Rattle.tree_build.specs.Shape.{built}
use Rattle.tree_build.proofs.AddingLaws.{adds_then, adds_within}
use Rattle.tree_build.proofs.ShapeLaws.{shape_least, shape_many}
use Rattle.device_core.specs.Copying.{Copies}
use Rattle.device_core.specs.Upgrading.{order_above, needed_of_root}
use Rattle.device_core.proofs.BeginLaws.{shaped_root}
use Rattle.device_core.proofs.CopyingLaws.{IsListed, if_err, sound_still}
use Rattle.device_core.proofs.RewriteLaws.{can_build, counted, rewritten, knows_copies}
use Rattle.device_core.proofs.rewriting.rewrite.Given.{Over}
use Rattle.device_core.proofs.rewriting.rewrite.Goals.{In_ok-copy_records, In_ok-build}
use Rattle.device_core.proofs.rewriting.rewrite.Goals as goal

-- what is written over all of a list is that list
whole : (len : ℕ) (named items : List Entry) → length named ≡ len → take len (named ++ drop (length named) items) ≡ named
whole len named items long = subst (λ (n : ℕ). take n (named ++ drop (length named) items) ≡ named) long (take-append_seam named (drop (length named) items))

-- the copies, and what the items are then
abbrev named : (g : Over) → In_ok-copy_records g → List Entry
named g c = c.copy_records.new.entries

abbrev current : (g : Over) → In_ok-copy_records g → List Entry
current g c = take c.args.prepared.now.items.len (c.copy_records.new.entries ++ drop (length c.copy_records.new.entries) c.args.prepared.now.items.items)

copies : (g : Over) (c : In_ok-copy_records g) → Copies g.P.Platform.tells (g.P.Platform.head c.args.platform.now) (g.P.Platform.head c.copy_records.new.platform) (g.P.Platform.history c.args.platform.now).present (g.P.Platform.history c.copy_records.new.platform).present
    c.args.prepared.now.items.items (named g c)
copies g c = subst (λ (es : List Entry). Copies g.P.Platform.tells (g.P.Platform.head c.args.platform.now) (g.P.Platform.head c.copy_records.new.platform) (g.P.Platform.history c.args.platform.now).present (g.P.Platform.history c.copy_records.new.platform).present es (named g c))
    c.deref_mut.ensures.value c.in_ok-copy_records.ensures.copies

many : (g : Over) (c : In_ok-copy_records g) → length (named g c) ≡ c.args.root.now.mapped
many g c = counted g.P.Platform.tells (g.P.Platform.history c.args.platform.now).present (g.P.Platform.history c.copy_records.new.platform).present (g.P.Platform.head c.args.platform.now) (g.P.Platform.head c.copy_records.new.platform) c.args.root.now
    c.args.prepared.now.items.items (named g c) c.requires.has.listing (copies g c)

current_is : (g : Over) (c : In_ok-copy_records g) → current g c ≡ named g c
current_is g c = whole c.args.prepared.now.items.len (named g c) c.args.prepared.now.items.items (omega (arith, c.copy_records.auto.entries, c.deref_mut.ensures.len))

-- what the copying keeps
copied_keeps : (g : Over) (c : In_ok-copy_records g) → KeepsKeys g.P.Platform.tells (g.T.Tape.drawn c.args.tape.now) (g.T.Tape.drawn c.copy_records.new.tape) (g.P.Platform.history c.args.platform.now) (g.P.Platform.history c.copy_records.new.platform)
    (λ keys. IsSound (g.P.Platform.history c.args.platform.now).present) (λ keys. IsSound (g.P.Platform.history c.copy_records.new.platform).present × All (IsListed keys) (named g c))
copied_keeps g c =
    let old = g.P.Platform.history c.args.platform.now in let mid = g.P.Platform.history c.copy_records.new.platform in
    keeps_from g.P.Platform.tells (g.T.Tape.drawn c.args.tape.now) (g.T.Tape.drawn c.copy_records.new.tape) old mid (λ keys. IsSound old.present) (λ keys. IsSound old.present)
    (λ keys. All (IsListed keys) (named g c)) (λ keys. IsSound mid.present × All (IsListed keys) (named g c))
    c.in_ok-copy_records.ensures.keeps (λ told keys sound. sound) (λ told keys more sound done. (sound_still old mid (c.copy_records.ensures.beside.cell told) sound, done))

knows : (g : Over) (c : In_ok-copy_records g) (keys : List (List ℕ)) → IsSound (g.P.Platform.history c.copy_records.new.platform).present × All (IsListed keys) (named g c) → KnowsItems (g.P.Platform.history c.copy_records.new.platform).present (current g c) keys
knows g c keys is = subst (λ (es : List Entry). KnowsItems (g.P.Platform.history c.copy_records.new.platform).present es keys) (sym (current_is g c)) (knows_copies (g.P.Platform.history c.copy_records.new.platform).present (named g c) keys is.0 is.1)

-- how many nodes are built
as_needed : (g : Over) (c : In_ok-copy_records g) (order : ℕ) → order ≡ order_above c.args.root.now.order → built order (length (current g c)) ≡ built (order_above c.args.root.now.order) c.args.root.now.mapped
as_needed g c order is = λ i. built (is i) ((ap length (current_is g c) ∙ many g c) i)

-- so many copies were added
sized : (g : Over) (c : In_ok-copy_records g) → length c.deref_mut.result.now ≤ c.args.root.now.mapped
sized g c = omega (arith, ap length c.deref_mut.ensures.value, c.requires.has.listing.0)

copied_adds : (g : Over) (c : In_ok-copy_records g) → OnlyAdds g.P.Platform g.T.Tape c.args.root.now.mapped c.args.root.now.mapped c.args.platform.now c.copy_records.new.platform c.args.tape.now c.copy_records.new.tape
copied_adds g c =
    let long = length c.deref_mut.result.now in
    adds_within g.P.Platform g.T.Tape long c.args.root.now.mapped long c.args.root.now.mapped c.args.platform.now c.copy_records.new.platform c.args.tape.now c.copy_records.new.tape (sized g c) (sized g c) c.copy_records.ensures.beside

-- the nodes over the copies
builds : (g : Over) (c : In_ok-build g) → take c.args.prepared.now.items.len (c.copy_records.new.entries ++ drop (length c.copy_records.new.entries) c.args.prepared.now.items.items) ≡ c.copy_records.new.entries
    → Builds g.P.Platform.tells (order_above c.args.root.now.order) (g.P.Platform.head c.copy_records.new.platform) (g.P.Platform.head c.build.new.platform)
    (g.P.Platform.history c.copy_records.new.platform).present (g.P.Platform.history c.build.new.platform).present c.copy_records.new.entries c.build.new.items.items
builds g c same =
    let P = g.P.Platform in
    subst (λ (n : ℕ). Builds P.tells n (P.head c.copy_records.new.platform) (P.head c.build.new.platform) (P.history c.copy_records.new.platform).present (P.history c.build.new.platform).present c.copy_records.new.entries c.build.new.items.items) c.order_over.ensures
    (subst (λ (es : List Entry). Builds P.tells c.order_over.result (P.head c.copy_records.new.platform) (P.head c.build.new.platform) (P.history c.copy_records.new.platform).present (P.history c.build.new.platform).present es c.build.new.items.items)
    same c.in_ok-build.ensures.builds)

pub returns-in_err-copy_records-clause-keeps : goal.returns-in_err-copy_records-clause-keeps
returns-in_err-copy_records-clause-keeps g c =
    let p = err_from_is_err_and c.from_residual.result c.from_residual.ensures.1 in
    let old = g.P.Platform.history c.args.platform.now in
    keeps_from g.P.Platform.tells (g.T.Tape.drawn c.args.tape.now) (g.T.Tape.drawn c.copy_records.new.tape) old (g.P.Platform.history c.copy_records.new.platform) (λ keys. IsSound old.present) (λ keys. IsSound old.present) _ _
    c.copy_records.ensures.keeps (λ told keys sound. sound) (λ told keys more sound done. if_err c.from_residual.result p.0 _ p.1)

pub returns-in_err-copy_records-clause-beside : goal.returns-in_err-copy_records-clause-beside
returns-in_err-copy_records-clause-beside g c =
    let root = c.args.root.now in
    let long = length c.deref_mut.result.now in
    let same = ap length c.deref_mut.ensures.value in
    adds_within g.P.Platform g.T.Tape long (needed_of_root root) long root.mapped c.args.platform.now c.copy_records.new.platform c.args.tape.now c.copy_records.new.tape
    (omega (arith, same, c.requires.has.listing.0)) (omega (arith, same, c.requires.has.listing.0)) c.copy_records.ensures.beside

pub build-requires-clause-can : goal.build-requires-clause-can
build-requires-clause-can g c =
    let P = g.P.Platform in
    let at = (goal.at.build-requires-clause-can g c).In_ok-copy_records in
    let root = c.args.root.now in
    let capacity = P.capacity c.copy_records.new.platform in (
      root.blocks,
      subst (λ (es : List Entry). CanBuild c.order_over.result root.blocks (P.head c.copy_records.new.platform) capacity es) (sym (current_is g at))
          (can_build P.tells (P.history c.args.platform.now).present (P.history c.copy_records.new.platform).present c.order_over.result (P.head c.args.platform.now) (P.head c.copy_records.new.platform) capacity root c.args.prepared.now.items.items (named g at)
          c.requires.within c.requires.has.listing (omega (arith, c.requires.room, c.copy_records.ensures.beside.capacity)) (copies g at) c.order_over.ensures),
    )

pub returns-in_err-build-clause-keeps : goal.returns-in_err-build-clause-keeps
returns-in_err-build-clause-keeps g c =
    let P = g.P.Platform in
    let at = (goal.at.returns-in_err-build-clause-keeps g c).In_ok-copy_records in
    let p = err_from_is_err_and c.from_residual-in_err-build.result c.from_residual-in_err-build.ensures.1 in
    let old = P.history c.args.platform.now in let mid = P.history c.copy_records.new.platform in
    keeps_then P.tells (g.T.Tape.drawn c.args.tape.now) (g.T.Tape.drawn c.copy_records.new.tape) (g.T.Tape.drawn c.build.new.tape) old mid (P.history c.build.new.platform)
    (λ keys. IsSound old.present) (λ keys. IsSound mid.present × All (IsListed keys) (named g at)) (KnowsItems mid.present (current g at)) _ _
    (copied_keeps g at) c.build.ensures.keeps (λ told keys kept is. knows g at keys is) (λ told keys more is done. if_err c.from_residual-in_err-build.result p.0 _ p.1)

pub returns-in_err-build-clause-beside : goal.returns-in_err-build-clause-beside
returns-in_err-build-clause-beside g c =
    let at = (goal.at.returns-in_err-build-clause-beside g c).In_ok-copy_records in
    let root = c.args.root.now in
    let more = built (order_above root.order) root.mapped in
    adds_then g.P.Platform g.T.Tape root.mapped more (needed_of_root root) root.mapped 0 root.mapped c.args.platform.now c.copy_records.new.platform c.build.new.platform c.args.tape.now c.copy_records.new.tape c.build.new.tape (omega arith) (omega arith) (copied_adds g at)
    (adds_within g.P.Platform g.T.Tape (built c.order_over.result (length (current g at))) more 0 0 c.copy_records.new.platform c.build.new.platform c.copy_records.new.tape c.build.new.tape (omega (arith, as_needed g at c.order_over.result c.order_over.ensures)) (omega arith) c.build.ensures.beside)

pub top_level-level-requires : goal.top_level-level-requires
top_level-level-requires g c =
    let root = c.args.root.now in
    let shaped = shaped_root root c.requires.within.in_range in
    omega (arith, ap length c.requires.has.shape, shape_many (order_above root.order) root.mapped shaped, shape_least (order_above root.order) root.mapped shaped)

pub root_over-requires-clause-some : goal.root_over-requires-clause-some
root_over-requires-clause-some g c =
    let at = (goal.at.root_over-requires-clause-some g c).In_ok-copy_records in
    let root = c.args.root.now in
    let b = builds g (goal.at.root_over-requires-clause-some g c).In_ok-build (current_is g at) in
    let least = shape_least (order_above root.order) root.mapped (shaped_root root c.requires.within.in_range) in
    omega (arith, ap length c.deref.ensures.value, ap length b.items_are, length-append c.copy_records.new.entries b.nodes, b.many, ap (built (order_above root.order)) (many g at), least)

pub returns-clause-rewrites : goal.returns-clause-rewrites
returns-clause-rewrites g c =
    let P = g.P.Platform in
    let at = (goal.at.returns-clause-rewrites g c).In_ok-copy_records in
    let root = c.args.root.now in
    let shaped = shaped_root root c.requires.within.in_range in
    rewritten P.tells (P.history c.args.platform.now) (P.history c.copy_records.new.platform) (P.history c.build.new.platform) (P.head c.args.platform.now) (P.head c.copy_records.new.platform) (P.head c.build.new.platform) c.top_level-level.result root c.root_over.result
    c.args.prepared.now.items.items c.copy_records.new.entries c.build.new.items.items c.requires.within c.requires.has.listing
    (omega (arith, g.met.P.Platform.has_room c.build.new.platform, g.met.P.Platform.is_limited c.build.new.platform))
    (copies g at) c.copy_records.ensures.beside.cell (builds g (goal.at.returns-clause-rewrites g c).In_ok-build (current_is g at)) c.build.ensures.beside.cell
    (c.top_level-level.ensures (order_above root.order) root.mapped shaped c.requires.has.shape)
    (λ before node is. subst (λ (h : ℕ). c.root_over.result ≡ record {
      version = 2;
      order = order_above root.order;
      level = c.top_level-level.result;
      blocks = root.blocks;
      commit = root.commit + 1;
      addr = node.addr;
      key = node.key;
      mapped = root.mapped;
      head = h;
    }) c.head.ensures.value (c.root_over.ensures before node (c.deref.ensures.value ∙ is)))

pub returns-clause-keeps : goal.returns-clause-keeps
returns-clause-keeps g c =
    let P = g.P.Platform in
    let at = (goal.at.returns-clause-keeps g c).In_ok-copy_records in
    let old = P.history c.args.platform.now in let mid = P.history c.copy_records.new.platform in
    keeps_then P.tells (g.T.Tape.drawn c.args.tape.now) (g.T.Tape.drawn c.copy_records.new.tape) (g.T.Tape.drawn c.build.new.tape) old mid (P.history c.build.new.platform)
    (λ keys. IsSound old.present) (λ keys. IsSound mid.present × All (IsListed keys) (named g at)) (KnowsItems mid.present (current g at)) (λ keys. All (IsListed keys) c.build.new.items.items) (λ keys. All (IsListed keys) c.build.new.items.items)
    (copied_keeps g at) c.in_ok-build.ensures.keeps (λ told keys kept is. knows g at keys is) (λ told keys more is done. done)

pub returns-clause-beside : goal.returns-clause-beside
returns-clause-beside g c =
    let at = (goal.at.returns-clause-beside g c).In_ok-copy_records in
    let root = c.args.root.now in
    let more = built (order_above root.order) root.mapped in
    adds_then g.P.Platform g.T.Tape root.mapped more (needed_of_root root) root.mapped 0 root.mapped c.args.platform.now c.copy_records.new.platform c.build.new.platform c.args.tape.now c.copy_records.new.tape c.build.new.tape (omega arith) (omega arith) (copied_adds g at)
    (adds_within g.P.Platform g.T.Tape (built c.order_over.result (length (current g at))) more 0 0 c.copy_records.new.platform c.build.new.platform c.copy_records.new.tape c.build.new.tape (omega (arith, as_needed g at c.order_over.result c.order_over.ensures)) (omega arith) c.build.ensures.beside)
