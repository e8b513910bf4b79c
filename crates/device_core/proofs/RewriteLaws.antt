-- What the making of the new tree of an upgrade comes to: the copying of the data records, and then the making of the nodes over the copies.
use Rattle.std.proofs.Common.{◌≡◌, ◌∙◌, ap, sym, subst, refl, ◌+◌, ◌<◌, ◌≤◌, ◌^◌, inr, ℕ, suc, List, [], ◌∷◌, ◌++◌, arith, length, length-append, append_assoc, map, get_or}
use Rattle.std.specs.Prelude.{All}
use Rattle.std.specs.List.Sorted.{IsStrictlyIncreasing}
use Rattle.std.proofs.lemmas.List.{length-map, get_or-map}
use Rattle.sdbt_base.specs.Keys.{IsKeyOf}
use Rattle.platform.specs.Image.{Image}
use Rattle.platform.specs.History.{History, CellStays}
use Rattle.node_codec.specs.declared.body.Entry.{Entry}
use Rattle.root_codec.specs.declared.root.Root.{Root}
use Rattle.root_codec.specs.RootRecord.{FitsRoot}
use Rattle.page_store.specs.Roots.{IsRootWithin}
use Rattle.page_store.specs.Stands.{IsSound}
use Rattle.tree_build.specs.Shape.{IsShaped, built, levels_over}
use Rattle.tree_build.specs.Nodes.{AreFrom, AreInOrder, IsRootOver}
use Rattle.tree_build.specs.Building.{Builds, CanBuild, KnowsItems}
use Rattle.tree_build.proofs.ShapeLaws.{shape_least, shape_levels}
use Rattle.device_core.specs.Copying.{Copies}
use Rattle.device_core.specs.Surveying.{IsListing}
use Rattle.device_core.specs.Upgrading.{IsUpgradedRoot, order_above, needed_of_root}
use Rattle.device_core.specs.UpgradeCalls.{IsCopied}
use Rattle.device_core.specs.Rewriting.{Rewrites}
use Rattle.device_core.proofs.BeginLaws.{shaped_root}
use Rattle.device_core.proofs.CopyingLaws.{IsListed}

-- ---- what can be built over the copies

-- as many as before
copied_many : (entries named : List Entry) → map (λ (e : Entry). e.low) named ≡ map (λ (e : Entry). e.low) entries → length named ≡ length entries
copied_many entries named lows = sym (length-map named (λ (e : Entry). e.low)) ∙ (ap length lows ∙ length-map entries (λ (e : Entry). e.low))

same_lows : (blocks : ℕ) (entries named : List Entry) → map (λ (e : Entry). e.low) named ≡ map (λ (e : Entry). e.low) entries → All (λ (e : Entry). e.low < blocks) entries → All (λ (e : Entry). e.low < blocks) named
same_lows blocks entries named lows below k d within =
    let many = copied_many entries named lows in
    let there : k < length entries = omega (arith, many, within) in
    let one = get_or-map (λ (e : Entry). e.low) named k d 0 within in
    let other = get_or-map (λ (e : Entry). e.low) entries k d 0 there in
    let same : (get_or named k d).low ≡ (get_or entries k d).low = sym one ∙ (ap (λ (ns : List ℕ). get_or ns k 0) lows ∙ other) in
    omega (arith, same, below k d there)

in_order_of : (root : Root) (entries named : List Entry) → IsListing root entries → map (λ (e : Entry). e.low) named ≡ map (λ (e : Entry). e.low) entries → All (λ (e : Entry). IsKeyOf 2 e.key) named → AreInOrder root.blocks named
in_order_of root entries named listing lows keys = record {
  ascend = subst IsStrictlyIncreasing (sym lows) listing.1;
  lows = same_lows root.blocks entries named lows listing.2;
  keys = keys;
}

pub copied_of : (tells : Type 0) (old copied : History) (head head_now : ℕ) (root : Root) (entries named : List Entry) → IsListing root entries → Copies tells head head_now old.present copied.present entries named → (tells → CellStays old copied)
    → IsCopied tells old copied head root.blocks entries named
copied_of tells old copied head head_now root entries named listing c stays = record {
  lows = c.lows;
  in_order = in_order_of root entries named listing c.lows c.keys;
  from = c.from;
  time = stays;
  image = λ told. (c.pages, c.image told);
  contents = λ told. (c.contents, c.read told, c.made told);
}

pub counted : (tells : Type 0) (old copied : Image) (head head_now : ℕ) (root : Root) (entries named : List Entry) → IsListing root entries → Copies tells head head_now old copied entries named → length named ≡ root.mapped
counted tells old copied head head_now root entries named listing c = copied_many entries named c.lows ∙ listing.0

pub can_build : (tells : Type 0) (old copied : Image) (order head head_now capacity : ℕ) (root : Root) (entries named : List Entry) → IsRootWithin head root → IsListing root entries → head + needed_of_root root ≤ capacity
    → Copies tells head head_now old copied entries named → order ≡ order_above root.order → CanBuild order root.blocks head_now capacity named
can_build tells old copied order head head_now capacity root entries named within listing room c is =
    let many = counted tells old copied head head_now root entries named listing c in
    subst (λ (n : ℕ). CanBuild n root.blocks head_now capacity named) (sym is) record {
      shaped = subst (IsShaped (order_above root.order)) (sym many) (shaped_root root within.in_range);
      most = within.in_range.blocks_most;
      in_order = in_order_of root entries named listing c.lows c.keys;
      first = head;
      from = c.from;
      up_to = omega (arith, c.head_is, many, listing.0);
      room = subst (λ (n : ℕ). head_now + built (order_above root.order) n ≤ capacity) (sym many) (omega (arith, room, c.head_is, listing.0));
    }

-- ---- the root record that names the last node

-- the last of some entries
pub split_last : (es : List Entry) → 1 ≤ length es → (before : List Entry) × (last : Entry) × (es ≡ before ++ last ∷ [])
split_last [] some = absurd (omega (arith, some))
split_last (e ∷ []) some = ([], e, refl)
split_last (e ∷ f ∷ es) some =
    let rest = split_last (f ∷ es) (omega arith) in
    (e ∷ rest.0, rest.1, ap (λ (xs : List Entry). e ∷ xs) rest.2)

from_last : (first : ℕ) (before : List Entry) (last : Entry) → AreFrom first (before ++ last ∷ []) → last.addr ≡ first + length before
from_last first [] last from = omega (arith, from.0)
from_last first (e ∷ before) last from = omega (arith, from_last (suc first) before last from.1)

all_last : (P : Entry → Type 0) (before : List Entry) (last : Entry) → All P (before ++ last ∷ []) → P last
all_last P before last all = subst P (at_end before last) (all (length before) last (omega (arith, length-append before (last ∷ []))))
  where
    at_end : (xs : List Entry) (x : Entry) → get_or (xs ++ x ∷ []) (length xs) x ≡ x
    at_end [] x = refl
    at_end (y ∷ xs) x = at_end xs x

-- the root record over a last node
abbrev pub root_above : Root → ℕ → ℕ → Entry → Root
root_above root level head node = record {
  version = 2;
  order = order_above root.order;
  level = level;
  blocks = root.blocks;
  commit = root.commit + 1;
  addr = node.addr;
  key = node.key;
  mapped = root.mapped;
  head = head;
}

upgraded_root : (root : Root) (head level : ℕ) (node : Entry) → FitsRoot root → root.head + 1 ≤ head → head ≤ 2 ^ 32 → (1 ≤ level) × (level ≤ 20) → node.addr + 1 ≡ head → IsKeyOf 2 node.key → IsUpgradedRoot root head (root_above root level head node)
upgraded_root root head level node fits more limit levels at key = record {
  in_range = record {
    version = inr refl;
    order_even = (shaped_root root fits).even;
    order_least = omega (arith, fits.order_least);
    order_most = omega arith;
    level_least = levels.0;
    level_most = levels.1;
    blocks_least = fits.blocks_least;
    blocks_most = fits.blocks_most;
    commit = omega (arith, fits.commit, more);
    addr = omega (arith, at);
    mapped = fits.mapped;
    head = limit;
    sized = key.0;
  };
  key = key;
  version = refl;
  order = refl;
  blocks = refl;
  commit = refl;
  mapped = refl;
  node = at;
  head_is = refl;
}

pub rewritten : (tells : Type 0) (old copied new : History) (head mid head_now level : ℕ) (root next : Root) (entries named items : List Entry) → IsRootWithin head root → IsListing root entries → head_now ≤ 2 ^ 32
    → Copies tells head mid old.present copied.present entries named → (tells → CellStays old copied)
    → Builds tells (order_above root.order) mid head_now copied.present new.present named items → (tells → CellStays copied new)
    → level ≡ levels_over (order_above root.order) root.mapped
    → ((before : List Entry) (node : Entry) → items ≡ before ++ node ∷ [] → next ≡ root_above root level head_now node)
    → Rewrites tells old new head head_now root entries items next
rewritten tells old copied new head mid head_now level root next entries named items within listing limit c stays b stays' top is =
    let many = counted tells old.present copied.present head mid root entries named listing c in
    let shaped = shaped_root root within.in_range in
    let least = shape_least (order_above root.order) root.mapped shaped in
    let nodes_many : length b.nodes ≡ built (order_above root.order) root.mapped = b.many ∙ ap (built (order_above root.order)) many in
    let all : head_now ≡ head + needed_of_root root = omega (arith, b.head_is, ap (built (order_above root.order)) many, c.head_is, listing.0) in
    let behind : mid ≡ head + length named = omega (arith, c.head_is, many, listing.0) in
    let last = split_last b.nodes (omega (arith, nodes_many, least)) in
    let front : AreFrom mid (last.0 ++ last.1 ∷ []) = subst (AreFrom mid) last.2 b.from in
    let size : length last.0 + 1 ≡ length b.nodes = omega (arith, ap length last.2, length-append last.0 (last.1 ∷ [])) in
    let at : last.1.addr + 1 ≡ head_now = omega (arith, from_last mid last.0 last.1 front, size, nodes_many, all, c.head_is, listing.0) in
    let key : IsKeyOf 2 last.1.key = all_last (λ (e : Entry). IsKeyOf 2 e.key) last.0 last.1 (subst (All (λ (e : Entry). IsKeyOf 2 e.key)) last.2 b.keys) in
    let whole : items ≡ (named ++ last.0) ++ last.1 ∷ [] = b.items_are ∙ (ap (λ (es : List Entry). named ++ es) last.2 ∙ sym (append_assoc named last.0 (last.1 ∷ []))) in
    let next_is : next ≡ root_above root level head_now last.1 = is (named ++ last.0) last.1 whole in
    let levels : (1 ≤ level) × (level ≤ 20) = subst (λ (n : ℕ). (1 ≤ n) × (n ≤ 20)) (sym top) (shape_levels (order_above root.order) root.mapped shaped) in
    let made : IsUpgradedRoot root head_now next = subst (IsUpgradedRoot root head_now) (sym next_is)
    (upgraded_root root head_now level last.1 within.in_range (omega (arith, within.within, all, least)) limit levels at key) in
    let over : IsRootOver (order_above root.order) root.blocks named b.nodes (root_above root level head_now last.1) = record {
      order_is = refl;
      blocks_are = refl;
      level_is = top ∙ ap (levels_over (order_above root.order)) (sym many);
      last = (last.0, last.1.low, last.2);
    } in
    record {
      named = named;
      copied = copied;
      copy = copied_of tells old copied head mid root entries named listing c stays;
      build = record {
        nodes = b.nodes;
        items_are = b.items_are;
        from = subst (λ (n : ℕ). AreFrom n b.nodes) behind b.from;
        keys = b.keys;
        many = b.many;
        head_is = omega (arith, all, b.head_is, behind);
        pages = b.pages;
        image = b.image;
        made = b.made;
      };
      build_time = stays';
      head_is = all;
      next_is = subst (λ (n : ℕ). IsUpgradedRoot root n next) all made;
      over = subst (IsRootOver (order_above root.order) root.blocks named b.nodes) (sym next_is) over;
    }

-- ---- keys

pub knows_copies : (copied : Image) (named : List Entry) (keys : List (List ℕ)) → IsSound copied → All (IsListed keys) named → KnowsItems copied named keys
knows_copies copied named keys sound listed = record { device = sound.0; stands = sound.1; listed = listed }
