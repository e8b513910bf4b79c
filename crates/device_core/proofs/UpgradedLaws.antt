-- What an upgrade makes, whether its last step was taken or failed: an image that stands for the upgraded device.
use Rattle.std.proofs.Common.{◌≡◌, ◌∙◌, ℕ, zero, suc, ◌+◌, ◌<◌, ◌≤◌, List, [], ◌∷◌, ◌++◌, All, map, length, refl, ap, sym, subst, arith, length-append, append_assoc}
use Rattle.std.specs.Prelude.{AllPairs, min, slice_get}
use Rattle.std.proofs.lemmas.List.{length-map}
use Rattle.std.specs.FinMap.{from_entries}
use Rattle.std.proofs.lemmas.List.Elements.{All-weaker}
use Rattle.std.proofs.lemmas.List.Sorted.{All-permutation}
use Rattle.sdbt_base.specs.Arrays.{Device, upgraded}
use Rattle.sdbt_base.specs.Keys.{IsKeyOf}
use Rattle.platform.specs.Image.{Image}
use Rattle.platform.specs.History.{History, CellStays}
use Rattle.platform.proofs.Moments.{whole-now}
use Rattle.node_codec.specs.declared.body.Entry.{Entry}
use Rattle.node_codec.specs.Record.{DataRecord}
use Rattle.root_codec.specs.declared.root.Root.{Root}
use Rattle.page_store.specs.Tree.{Place, Mapped, Parts}
use Rattle.page_store.specs.Stands.{StandsBy, pairs_of}
use Rattle.page_store.proofs.RecordLaws.{record_stays}
use Rattle.page_store.proofs.ApartLaws.{AreApart, apart_permutation}
use Rattle.btree_walk.specs.Mapped.{entry_of}
use Rattle.btree_walk.proofs.LevelLaws.{tree_entries}
use Rattle.device_terms.proofs.MomentLaws.{stays_then}
use Rattle.tree_build.specs.Shape.{IsShaped, built, shape_of}
use Rattle.tree_build.specs.Nodes.{AreData, HasTree, data_place, node_places, places_of, mapped_of}
use Rattle.tree_build.specs.Building.{with_pages}
use Rattle.tree_build.proofs.TreeLaws.{builds_a_tree}
use Rattle.device_core.specs.Upgrading.{order_above, needed_of_root}
use Rattle.device_core.specs.UpgradeCalls.{IsUpgrading}
use Rattle.device_core.proofs.FirstLaws.{with_root}
use Rattle.device_core.proofs.BeginLaws.{shaped_root}
use Rattle.device_core.proofs.SpotLaws.{StandFrom, IsWithin, data_from_on, node_from_on, few_node_places, from_append, from_within, from_apart}
use Rattle.device_core.proofs.RecordLaws.{pair_of, tree_contents, same_pairs, entry_lows, mapped_many}

-- ---- lists of pages

-- what is behind as many pages as there are of others reads the same behind these
behind_alike : (pages others more : List (List ℕ)) (addr : ℕ) → length pages ≡ length others → length pages ≤ addr → slice_get (pages ++ more) addr ≡ slice_get (others ++ more) addr
behind_alike [] [] more addr many le = refl
behind_alike [] (o ∷ others) more addr many le = absurd (omega (arith, many))
behind_alike (p ∷ pages) [] more addr many le = absurd (omega (arith, many))
behind_alike (p ∷ pages) (o ∷ others) more zero many le = absurd (omega (arith, le))
behind_alike (p ∷ pages) (o ∷ others) more (suc addr) many le = behind_alike pages others more addr (omega (arith, many)) (omega (arith, le))

-- and so it does where more come
records_stay : (pages more : List (List ℕ)) (es : List Entry) (contents : List (List ℕ)) → AreData pages es contents → AreData (pages ++ more) es contents
records_stay pages more [] [] are = tt
records_stay pages more [] (c ∷ cs) are = absurd are
records_stay pages more (e ∷ es) [] are = absurd are
records_stay pages more (e ∷ es) (c ∷ cs) are = (record_stays pages more e.addr e.key (DataRecord e.low c) are.0, records_stay pages more es cs are.1)

-- ---- the sizes

module _ (tells : Type 0) (old looked copied mid new : History) (head : ℕ) (root next : Root) (list copies items : List Entry) (addrs : List ℕ) (u : IsUpgrading tells old looked copied mid new head root next list copies items addrs) where
  pub as_many : length copies ≡ root.mapped
  as_many =
      let lows : length (map (λ (e : Entry). e.low) copies) ≡ length (map (λ (e : Entry). e.low) list) = ap length u.copy.lows in
      sym (length-map copies (λ (e : Entry). e.low)) ∙ lows ∙ length-map list (λ (e : Entry). e.low) ∙ u.survey.count

  pub shaped : IsShaped (order_above root.order) (length copies)
  shaped = subst (IsShaped (order_above root.order)) (sym as_many) (shaped_root root u.survey.within.in_range)

  abbrev order : ℕ
  order = order_above root.order

  abbrev nodes : List Entry
  nodes = u.build.nodes

  abbrev pub new_places : List Place
  new_places = places_of (order_above root.order) copies u.build.nodes

  -- so many pages are needed
  pub needed : needed_of_root root ≡ length copies + length nodes
  needed =
      let nodes_are : built order root.mapped ≡ length nodes = sym (ap (built order) as_many) ∙ sym u.build.many in
      omega (arith, as_many, nodes_are)

  stand : StandFrom head new_places
  stand =
      let places = node_places (copies ++ nodes) (shape_of order (length copies)) nodes in
      from_append head (map data_place copies) places (data_from_on head copies u.copy.from)
      (subst (λ (n : ℕ). StandFrom (head + n) places) (sym (length-map copies data_place)) (node_from_on (head + length copies) (copies ++ nodes) (shape_of order (length copies)) nodes u.build.from))

  few : length new_places ≤ needed_of_root root
  few =
      let places = node_places (copies ++ nodes) (shape_of order (length copies)) nodes in
      let size = length-append (map data_place copies) places in
      let front = length-map copies data_place in
      let behind = few_node_places (copies ++ nodes) (shape_of order (length copies)) nodes in
      omega (arith, size, front, behind, needed)

  all_within : All (IsWithin head (head + needed_of_root root)) new_places
  all_within = from_within head (head + needed_of_root root) new_places stand (omega (arith, few))

  module _ (told : tells) where
    abbrev more : List (List ℕ)
    more = (u.copy.image told).0

    image_is : mid.present ≡ with_pages (with_pages old.present more) u.build.pages
    image_is =
        u.build.image told
        ∙ ap (λ (i : Image). with_pages i u.build.pages) ((u.copy.image told).1 ∙ ap (λ (i : Image). with_pages i more) (u.survey.same told))

    -- up to the last step the cell is as it was
    pub cell_stays : CellStays old mid
    cell_stays = stays_then old copied mid (stays_then old looked copied (u.survey.time told) (u.copy.time told)) (u.build_time told)

    -- pages from the first new one on read as they were recorded
    reads_alike : (addr : ℕ) → head ≤ addr → slice_get mid.present.readable addr ≡ slice_get mid.present.recorded addr
    reads_alike addr from =
        let image = old.present in
        let pages = u.build.pages in
        let many : length image.readable ≡ length image.recorded = (whole-now old).as_many in
        let last : length image.readable ≤ addr = omega (arith, many, u.survey.pages told, from) in
        ap (λ (i : Image). slice_get i.readable addr) image_is
        ∙ ap (λ (ps : List (List ℕ)). slice_get ps addr) (append_assoc image.readable more pages)
        ∙ behind_alike image.readable image.recorded (more ++ pages) addr many last
        ∙ sym (ap (λ (ps : List (List ℕ)). slice_get ps addr) (append_assoc image.recorded more pages))
        ∙ sym (ap (λ (i : Image). slice_get i.recorded addr) image_is)

    abbrev contents : List (List ℕ)
    contents = (u.copy.contents told).0

    -- the copies are there still, with their contents
    copies_now : AreData mid.present.readable copies contents
    copies_now =
        subst (λ (i : Image). AreData i.readable copies contents) (sym (u.build.image told))
        (records_stay copied.present.readable u.build.pages copies contents (u.copy.contents told).2)

    pub new_tree : HasTree mid.present.readable (order_above root.order) copies u.build.nodes contents next
    new_tree = builds_a_tree mid.present.readable order root.blocks copies nodes contents next shaped u.copy.in_order copies_now (u.build.made told) u.over

    abbrev pub new_parts : Parts
    new_parts = new_tree.parts

    -- its places are the new pages
    pub places_within : All (IsWithin head (head + needed_of_root root)) new_tree.parts.places
    places_within = All-permutation (IsWithin head (head + needed_of_root root)) new_places new_tree.parts.places new_tree.places all_within

    pub places_apart : AllPairs AreApart new_tree.parts.places
    places_apart = apart_permutation new_places new_tree.parts.places new_tree.places (from_apart head new_places stand)

    module _ (device : Device) (before : Parts) (stands : StandsBy old.present device root before) where
      -- the entries of the old tree
      pub list_is : list ≡ map entry_of before.mapped
      list_is =
          let walk = u.survey.listed_are told in
          walk.2 ∙ tree_entries old.present.readable root before walk.0 stands.in_range stands.tree walk.1

      -- the new tree maps the same blocks, with the same contents
      same_contents : pairs_of before ≡ pairs_of new_tree.parts
      same_contents =
          let looked_same : looked.present ≡ old.present = u.survey.same told in
          let was = subst (λ (i : Image). AreData i.readable list contents) looked_same (u.copy.contents told).1 in
          let held : contents ≡ map (λ (m : Mapped). m.content) before.mapped
          = tree_contents old.present.readable root before contents stands.in_range stands.tree (subst (λ (es : List Entry). AreData old.present.readable es contents) list_is was) in
          let lows : map (λ (e : Entry). e.low) copies ≡ map (λ (m : Mapped). m.block) before.mapped
          = u.copy.lows ∙ ap (map (λ (e : Entry). e.low)) list_is ∙ entry_lows before.mapped in
          sym (same_pairs copies before.mapped lows)
          ∙ ap (λ (cs : List (List ℕ)). map pair_of (mapped_of copies cs)) (sym held)
          ∙ ap (map pair_of) (sym new_tree.mapped)

      pub upgraded_stands : StandsBy (with_root mid.present next) (upgraded device) next new_tree.parts
      upgraded_stands = record {
        cell = refl;
        in_range = u.next_is.in_range;
        key = subst (λ (v : ℕ). IsKeyOf v next.key) (sym u.next_is.version) u.next_is.key;
        version = u.next_is.version;
        order = u.next_is.order ∙ ap (λ (n : ℕ). min n 48) stands.order;
        blocks = u.next_is.blocks ∙ stands.blocks;
        number = u.next_is.commit ∙ ap (λ (n : ℕ). n + 1) stands.number;
        head = omega (arith, u.next_is.head_is, u.size told);
        tree = new_tree.tree;
        apart = places_apart;
        count = ap (λ (ms : List Mapped). length ms) new_tree.mapped ∙ mapped_many mid.present.readable copies contents copies_now ∙ as_many ∙ sym u.next_is.mapped;
        below = All-weaker (IsWithin head (head + needed_of_root root)) (λ (p : Place). p.addr < next.head) (λ p is. omega (arith, is.1, u.next_is.head_is)) new_tree.parts.places places_within;
        recorded = All-weaker (IsWithin head (head + needed_of_root root)) (λ (p : Place). slice_get mid.present.readable p.addr ≡ slice_get mid.present.recorded p.addr) (λ p is. reads_alike p.addr is.0) new_tree.parts.places places_within;
        contents = stands.contents ∙ ap from_entries same_contents;
      }
