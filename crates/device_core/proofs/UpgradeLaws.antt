-- What an upgrade does, whether its last step was taken or failed.
use Rattle.std.proofs.Common.{◌≡◌, ◌∙◌, ◌+◌, ◌<◌, ◌≤◌, ◌⊎◌, ℕ, List, [], ◌∷◌, ◌++◌, All, map, Some, None, inr, refl, ap, sym, subst, arith, length, length-append}
use Rattle.std.specs.Prelude.{Option, Contains}
use Rattle.std.specs.Option.{option_map}
use Rattle.std.proofs.lemmas.List.Elements.{All-head, All-weaker, All-append, All-map, All-contains}
use Rattle.std.proofs.lemmas.List.Sorted.{All-permutation, Contains-permutation, IsPermutation-sym}
use Rattle.sdbt_base.specs.Arrays.{Device, upgraded}
use Rattle.sdbt_base.specs.Keys.{bare, IsKeyOf}
use Rattle.sdbt_base.specs.Traces.{Traced}
use Rattle.key_graph.proofs.ChainLaws.{contains_map, map_contains}
use Rattle.platform.specs.Image.{Image, LeavesOnly, all_synced}
use Rattle.platform.specs.History.{History, Turns, CellStays}
use Rattle.platform.proofs.Moments.{During-now, Extends-earlier}
use Rattle.node_codec.specs.declared.body.Entry.{Entry}
use Rattle.root_codec.specs.declared.root.Root.{Root}
use Rattle.root_codec.specs.RootRecord.{root_bytes}
use Rattle.page_store.specs.Tree.{Place, Mapped, Parts}
use Rattle.page_store.specs.Kept.{IsRootOf}
use Rattle.page_store.specs.Stands.{StandsBy, Stands, IsSound}
use Rattle.page_store.specs.Keeping.{KeepsKeys}
use Rattle.page_store.specs.Floors.{Forgets, HasPlace, low_of}
use Rattle.page_store.proofs.StandsLaws.{stands_by_left, stands_later}
use Rattle.page_store.proofs.ApartLaws.{all_left, all_right}
use Rattle.page_store.proofs.KeptLaws.{one_root_in, root_of_stands, same_during, tree_later}
use Rattle.page_store.proofs.KeepingLaws.{IsPublished, keeps_idle, keeps_from, keeps_then, keeps_published}
use Rattle.page_store.proofs.FloorLaws.{forgets_still, forgets_published, low_of_stands, place_at, place_of_stands, succeeds_tree}
use Rattle.btree_walk.specs.Mapped.{node_addrs}
use Rattle.btree_walk.proofs.LevelLaws.{tree_addrs}
use Rattle.cert_maker.specs.Trace.{entries_of}
use Rattle.device_terms.specs.Served.{IsServedImage}
use Rattle.device_terms.specs.Effects.{Discloses}
use Rattle.device_terms.proofs.MomentLaws.{then_published, once, stays_once, earlier}
use Rattle.device_terms.proofs.ServedLaws.{serves_still, serves_turned, served_published}
use Rattle.device_terms.proofs.StandingLaws.{turns_leaves}
use Rattle.device_terms.proofs.PuttingLaws.{Published, published_done, puts_entry}
use Rattle.tree_build.specs.Shape.{shape_of}
use Rattle.tree_build.specs.Nodes.{data_place, node_places, places_of, planned, traced_of}
use Rattle.tree_build.proofs.PlanLaws.{planned_places}
use Rattle.device_core.specs.Upgrading.{order_above, needed_of_root, IsOfUpgrade, CertifiesUpgrade, StandsFrom}
use Rattle.device_core.specs.UpgradeCalls.{IsUpgrading, IsUpgradeEntry}
use Rattle.device_core.proofs.FirstLaws.{with_root}
use Rattle.device_core.proofs.SpotLaws.{IsWithin, node_places_all}
use Rattle.device_core.proofs.RecordLaws.{entry_addrs, place_listed, listed_place}
use Rattle.device_core.proofs.AnewLaws.{IsAnew, anew_differs}
use Rattle.device_core.proofs.UpgradedLaws.{shaped, needed, cell_stays, new_tree, new_parts, places_within, places_apart, list_is, upgraded_stands}

-- ---- what calls that leave the cell disclose

-- the key of each of these entries is listed, without its digest
abbrev pub AreListed : List Entry → List (List ℕ) → Type 0
AreListed entries keys = All (λ e. Contains keys (bare e.key)) entries

-- an image that stood stands, with the same cell
sound_later : (old new : History) → CellStays old new → IsSound old.present → IsSound new.present
sound_later old new stays sound =
    (sound.0, stands_later old.present new.present sound.0 (earlier old new (λ image. image.cell ≡ old.present.cell) stays) (During-now old new (λ image. image.cell ≡ old.present.cell) stays) sound.1)

-- a call that keeps keys, over an image that stands, and leaves one that stands
abbrev pub BothStand : History → History → Type 0
BothStand old new = IsSound old.present × IsSound new.present

abbrev pub KeepsSound : Type 0 → Option (List (List ℕ)) → Option (List (List ℕ)) → History → History → (List (List ℕ) → Type 0) → Type 0
KeepsSound tells drawn drawn_now old new Done = KeepsKeys tells drawn drawn_now old new (λ keys. IsSound old.present) (λ keys. BothStand old new × Done keys)

-- looks
pub looks_keep : (tells : Type 0) (drawn : Option (List (List ℕ))) (old looked : History) → (tells → CellStays old looked) → (tells → looked.present ≡ old.present) → KeepsSound tells drawn drawn old looked (λ keys. Unit {0})
looks_keep tells drawn old looked stays same =
    keeps_idle tells drawn drawn old looked (λ keys. IsSound old.present) (λ keys. BothStand old looked × Unit {0}) refl
    (λ told. same_during old looked (same told) (stays told))
    (λ told keys kept sound. ((sound, subst IsSound (sym (same told)) sound), tt))

-- and then another call
pub then_keeps : (tells : Type 0) (drawn mid_drawn drawn_now : Option (List (List ℕ))) (old mid new : History) (Done Ready Then : List (List ℕ) → Type 0)
    → KeepsSound tells drawn mid_drawn old mid Done → KeepsKeys tells mid_drawn drawn_now mid new Ready Then → (tells → CellStays mid new)
    → (tells → (keys : List (List ℕ)) → IsSound mid.present → Done keys → Ready keys)
    → KeepsSound tells drawn drawn_now old new Then
then_keeps tells drawn mid_drawn drawn_now old mid new Done Ready Then one two stays meets =
    keeps_then tells drawn mid_drawn drawn_now old mid new (λ keys. IsSound old.present) (λ keys. BothStand old mid × Done keys) Ready Then (λ keys. BothStand old new × Then keys) one two
    (λ told keys kept mids. meets told keys mids.0.1 mids.1)
    (λ told keys more mids done. ((mids.0.0, sound_later mid new (stays told) mids.0.1), done))

-- what they disclose, where they leave the cell
pub still_discloses : (tells : Type 0) (drawn drawn_now : Option (List (List ℕ))) (old new : History) (Done : List (List ℕ) → Type 0) → KeepsSound tells drawn drawn_now old new Done → (tells → CellStays old new)
    → Discloses tells drawn drawn_now old new (λ keys. IsSound old.present) (λ keys. Unit {0})
still_discloses tells drawn drawn_now old new Done keeps stays = record {
  keys = keeps_from tells drawn drawn_now old new (λ keys. IsSound old.present) (λ keys. IsSound old.present) (λ keys. BothStand old new × Done keys) (λ keys. Unit {0}) keeps (λ told keys ready. ready) (λ told keys more ready done. tt);
  turns = λ told. stays_once old new (stays told);
  serves = λ told. serves_still old new (stays told);
  forgets = λ told keys sound. forgets_still old new sound (stays told);
}

-- ---- an upgrade

-- what a loss of power leaves stands by the same tree
from_leaves : (first : ℕ) (device : Option Device) (image : Image) → StandsFrom first device image → LeavesOnly (StandsFrom first device) image
from_leaves first None image empty left leaves = leaves.cell ∙ empty
from_leaves first (Some device) image (root, parts, stands, behind) left leaves = (root, parts, stands_by_left image left device root parts leaves stands, behind)

module _ (tells : Type 0) (old looked copied mid new : History) (head : ℕ) (root next : Root) (list copies items : List Entry) (addrs : List ℕ) (u : IsUpgrading tells old looked copied mid new head root next list copies items addrs) where
  abbrev pub made_image : Image
  made_image = with_root mid.present next

  -- the last step
  pub upgrade_once : tells → Turns old new (λ image. image.cell ≡ old.present.cell) (λ image. image ≡ with_root mid.present next)
  upgrade_once told = then_published old mid new (with_root mid.present next) (cell_stays tells old looked copied mid new head root next list copies items addrs u told) (u.turns told)

  -- an image that stands does so by the root record in its cell
  by_root : tells → (device : Device) → Stands old.present (Some device) → (before : Parts) × StandsBy old.present device root before
  by_root told device stands =
      let is : IsRootOf old.present root = record { cell = u.survey.cell told; in_range = u.survey.within.in_range; key = u.survey.within.key } in
      let same = one_root_in old.present old.present stands.0 root refl (root_of_stands old.present device stands.0 stands.1 stands.2) is in
      (stands.1, subst (λ (r : Root). StandsBy old.present device r stands.1) same stands.2)

  none_empty : tells → Stands old.present None → ⊥
  none_empty told empty = let no : None ≡ Some (root_bytes root) = sym empty ∙ u.survey.cell told in cc

  abbrev after : tells → Parts
  after told = new_parts tells old looked copied mid new head root next list copies items addrs u told

  stands_after : (told : tells) (device : Device) (stands : Stands old.present (Some device)) → StandsBy (with_root mid.present next) (upgraded device) next (after told)
  stands_after told device stands =
      let by = by_root told device stands in
      upgraded_stands tells old looked copied mid new head root next list copies items addrs u told device by.0 by.1

  -- what the last step makes stands for the upgraded device, by pages that came in this call
  made_from : (told : tells) (device : Device) → Stands old.present (Some device) → StandsFrom head (Some (upgraded device)) (with_root mid.present next)
  made_from told device stands =
      let within = places_within tells old looked copied mid new head root next list copies items addrs u told in (
        next,
        after told,
        stands_after told device stands,
        All-weaker (IsWithin head (head + needed_of_root root)) (λ (p : Place). head ≤ p.addr) (λ p is. is.0) (after told).places within,
      )

  made_of : (told : tells) (device : Option Device) → Stands old.present device → StandsFrom head (option_map upgraded device) (with_root mid.present next)
  made_of told None empty = absurd (none_empty told empty)
  made_of told (Some device) stands = made_from told device stands

  pub upgrade_time : tells → (device : Option Device) → Stands old.present device
      → Turns old new (LeavesOnly (λ left. Stands left device)) (LeavesOnly (StandsFrom head (option_map upgraded device)))
  upgrade_time told device stands =
      let after = option_map upgraded device in
      turns_leaves old new (with_root mid.present next) device (StandsFrom head after) stands (from_leaves head after (with_root mid.present next) (made_of told device stands)) (upgrade_once told)

  -- where the last step was taken, the image stands for the upgraded device
  pub upgrade_made : tells → new.present ≡ with_root mid.present next → (device : Device) → Stands old.present (Some device) → (number : ℕ) → number ≡ root.commit + 1
      → (number ≡ (upgraded device).number) × StandsFrom head (Some (upgraded device)) new.present
  upgrade_made told published device stands number is = (
    is ∙ ap (λ (n : ℕ). n + 1) (by_root told device stands).1.number,
    subst (StandsFrom head (Some (upgraded device))) (sym published) (made_from told device stands),
  )

  -- ---- what is disclosed

  -- the last page is behind what there was
  last_new : head ≤ next.addr
  last_new =
      let last = u.over.last in
      let size = ap (λ (es : List Entry). length es) last.2 in
      let behind = length-append last.0 (record { low = last.1; addr = next.addr; key = next.key } ∷ []) in
      let many = needed tells old looked copied mid new head root next list copies items addrs u in
      omega (arith, size, behind, many, u.next_is.node)

  made_served : tells → IsServedImage (with_root mid.present next)
  made_served told =
      served_published (all_synced mid.present) next (head + needed_of_root root) (u.size told)
      (record { in_range = u.next_is.in_range; key = subst (λ (v : ℕ). IsKeyOf v next.key) (sym u.next_is.version) u.next_is.key; within = omega (arith, u.next_is.head_is) })

  -- nothing of the old tree is in the new one
  pub upgrade_forgets : tells → IsSound old.present → Forgets old new
  upgrade_forgets told (None, empty) = absurd (none_empty told empty)
  upgrade_forgets told (Some device, stands) =
      let by = by_root told device stands in
      let X = with_root mid.present next in
      let made = stands_after told device stands in
      let within = places_within tells old looked copied mid new head root next list copies items addrs u told in
      let low : low_of old.present ≡ root.head = low_of_stands old.present device root by.0 by.1 in
      let most = u.survey.within.within in
      forgets_published old new X (Some device, stands) (Some (upgraded device), (next, after told, made)) (upgrade_once told)
      (succeeds_tree old.present X (upgraded device) next (after told) made
      (omega (arith, low, most, last_new)) u.next_is.in_range.addr (u.next_is.head_is ∙ sym (u.size told))
      (All-weaker (IsWithin head (head + needed_of_root root)) (λ (p : Place). HasPlace old.present p ⊎ (low_of old.present ≤ p.addr)) (λ p is. inr (omega (arith, is.0, low, most))) (after told).places within)
      (λ former is there.
      let same : root ≡ former = one_root_in old.present old.present root former refl (root_of_stands old.present device root by.0 by.1) is in
      let place = place_at X former.addr there in
      let has = place_of_stands X (upgraded device) next (after told) place.0 made place.2 in
      let from = (All-contains (IsWithin head (head + needed_of_root root)) (after told).places place.0 within has).0 in
      let here : place.0.addr ≡ root.addr = place.1 ∙ ap (λ (r : Root). r.addr) (sym same) in
      omega (arith, from, here, most, u.survey.within.in_range.addr)))

  -- the keys of all items are those of the new tree
  keys_listed : (told : tells) (keys : List (List ℕ)) → AreListed items keys → Contains keys (bare next.key) × All (λ p. Contains keys (bare p.key)) (after told).places
  keys_listed told keys listed =
      let nodes = u.build.nodes in
      let Listed : Entry → Type 0 = λ (e : Entry). Contains keys (bare e.key) in
      let ListedPlace : Place → Type 0 = λ (p : Place). Contains keys (bare p.key) in
      let all = subst (λ (es : List Entry). AreListed es keys) u.build.items_are listed in
      let front : All Listed copies = all_left Listed copies nodes all in
      let behind : All Listed nodes = all_right Listed copies nodes all in
      let last = u.over.last in
      let end : Entry = record { low = last.1; addr = next.addr; key = next.key } in
      let own = All-head Listed end [] (all_right Listed last.0 (end ∷ []) (subst (All Listed) last.2 behind)) in
      let tree = new_tree tells old looked copied mid new head root next list copies items addrs u told in (
        own,
        All-permutation ListedPlace (places_of (order_above root.order) copies nodes) tree.parts.places tree.places
            (All-append ListedPlace (map data_place copies) (node_places (copies ++ nodes) (shape_of (order_above root.order) (length copies)) nodes)
            (All-map ListedPlace data_place copies front)
            (node_places_all (λ (addr : ℕ) (key : List ℕ). Contains keys (bare key)) (copies ++ nodes) (shape_of (order_above root.order) (length copies)) nodes behind)),
      )

  -- what the last step publishes, where the keys of all items are listed
  publishes : (told : tells) (keys : List (List ℕ)) → IsSound old.present → IsSound mid.present → AreListed items keys → IsPublished mid.present (with_root mid.present next) keys
  publishes told keys (None, empty) mids listed = absurd (none_empty told empty)
  publishes told keys (Some device, stands) mids listed =
      let keys_are = keys_listed told keys listed in
      record {
        device = mids.0;
        stands = mids.1;
        next = upgraded device;
        root = next;
        parts = after told;
        tree = stands_after told device stands;
        own = keys_are.0;
        listed = keys_are.1;
      }

  -- where the keys of all items are listed behind the copying and the build
  pub upgrade_discloses : (drawn drawn_now : Option (List (List ℕ))) → KeepsSound tells drawn drawn_now old mid (AreListed items)
      → Discloses tells drawn drawn_now old new (λ keys. IsSound old.present) (λ keys. Unit {0})
  upgrade_discloses drawn drawn_now keeps =
      let X = with_root mid.present next in
      record {
        keys =
            keeps_then tells drawn drawn_now drawn_now old mid new (λ keys. IsSound old.present) (λ keys. BothStand old mid × AreListed items keys) (IsPublished mid.present X) (λ keys. Unit {0}) (λ keys. Unit {0})
            keeps (keeps_published tells drawn_now mid new X (λ keys. Unit {0}) refl u.stays u.turns (λ told keys ready. tt))
            (λ told keys kept mids. publishes told keys mids.0.0 mids.0.1 mids.1)
            (λ told keys more mids done. tt);
        turns = λ told. once old new X (upgrade_once told);
        serves = λ told served. serves_turned old new X (upgrade_once told) served (made_served told);
        forgets = λ told keys sound. upgrade_forgets told sound;
      }

  -- ---- what is put to the ledger

  -- the new tree's places are what was planned, and it has none of the old tree's
  anew : (told : tells) (device : Device) (before : Parts) → StandsBy old.present device root before
      → IsAnew before.places (after told).places head (planned (order_above root.order) head (map (λ e. e.low) list)) (addrs ++ map (λ e. e.addr) list)
  anew told device before stands =
      let tree = new_tree tells old looked copied mid new head root next list copies items addrs u told in
      let nodes = u.build.nodes in
      let first = places_of (order_above root.order) copies nodes in
      let plan = planned (order_above root.order) head (map (λ (e : Entry). e.low) list) in
      let within = places_within tells old looked copied mid new head root next list copies items addrs u told in
      let most = u.survey.within.within in
      let fits = shaped tells old looked copied mid new head root next list copies items addrs u in
      let plan_is : map traced_of first ≡ plan = planned_places (order_above root.order) head copies nodes fits u.build.many u.copy.from u.build.from ∙ ap (planned (order_above root.order) head) u.copy.lows in
      let entries = list_is tells old looked copied mid new head root next list copies items addrs u told device before stands in
      let walk = u.survey.addrs_are told in
      let nodes_are : addrs ≡ node_addrs before.places = walk.2 ∙ tree_addrs old.present.readable root before walk.0 stands.in_range stands.tree walk.1 in
      let records_are : map (λ (e : Entry). e.addr) list ≡ map (λ (m : Mapped). m.addr) before.mapped = ap (map (λ (e : Entry). e.addr)) entries ∙ entry_addrs before.mapped in
      let gone_is : addrs ++ map (λ (e : Entry). e.addr) list ≡ node_addrs before.places ++ map (λ (m : Mapped). m.addr) before.mapped = λ i. nodes_are i ++ records_are i in
      record {
        below = All-weaker (λ (p : Place). p.addr < root.head) (λ (p : Place). p.addr < head) (λ p under. omega (arith, under, most)) before.places stands.below;
        after = All-weaker (IsWithin head (head + needed_of_root root)) (λ (p : Place). head ≤ p.addr) (λ p is. is.0) tree.parts.places within;
        apart = places_apart tells old looked copied mid new head root next list copies items addrs u told;
        of_new = λ t has.
            let p = contains_map traced_of first t (subst (λ (ts : List Traced). Contains ts t) (sym plan_is) has) in
            (p.0, Contains-permutation first tree.parts.places p.0 tree.places p.1, p.2);
        adds = λ p has. subst (λ (ts : List Traced). Contains ts (traced_of p)) plan_is
            (map_contains traced_of first p (Contains-permutation tree.parts.places first p (IsPermutation-sym first tree.parts.places tree.places) has));
        of_old = λ addr has. listed_place old.present.readable root before addr stands.in_range stands.tree (subst (λ (xs : List ℕ). Contains xs addr) gone_is has);
        lets_go = λ p has. subst (λ (xs : List ℕ). Contains xs p.addr) (sym gone_is) (place_listed old.present.readable root before p stands.in_range stands.tree has);
      }

  -- its certificate is that of both
  upgrade_cert : (told : tells) (line : List ℕ) → (e : IsUpgradeEntry root head list addrs line) → IsOfUpgrade root old.present new.present next e.cert
  upgrade_cert told line e = λ device before stands.
      let made = upgraded_stands tells old looked copied mid new head root next list copies items addrs u told device before stands in
      let of = e.trees (entries_of before.places) (entries_of (after told).places)
      (anew_differs before.places (after told).places head (planned (order_above root.order) head (map (λ (x : Entry). x.low) list)) (addrs ++ map (λ (x : Entry). x.addr) list) (anew told device before stands)) in
      record {
        after = after told;
        tree = tree_later mid.present new.present next (after told) (Extends-earlier mid new (u.turns told).extends) made.tree;
        is = record {
          numbered = e.commit ∙ sym u.next_is.commit;
          rooted = omega (arith, e.node, u.next_is.node);
          begins = e.begins;
          ends = e.ends ∙ sym u.next_is.head_is;
          added = of.added;
          gone = of.gone;
          never = of.never;
          added_ascend = of.added_ascend;
          gone_ascend = of.gone_ascend;
          never_ascend = of.never_ascend;
        };
      }

  pub upgrade_certifies : (written written_now : Option (List ℕ)) (line : List ℕ) (Was Done : Type 0) → ((Was → ⊥) → Done → ⊥) → IsUpgradeEntry root head list addrs line
      → Published tells written written_now mid new line next Was → CertifiesUpgrade tells written written_now old new Done
  upgrade_certifies written written_now line Was Done never e put = inr (
    root,
    u.survey.within.in_range,
    u.survey.within.key,
    u.survey.cell,
    record {
      cert = e.cert;
      in_text = e.in_text;
      root = next;
      in_range = u.next_is.in_range;
      number = u.next_is.commit;
      speaks = record { commit = e.commit ∙ sym u.next_is.commit; begins = e.begins; node = omega (arith, e.node, u.next_is.node); head = e.ends ∙ sym u.next_is.head_is };
      is = λ told. upgrade_cert told line e;
      put = puts_entry tells written written_now old mid new line e.cert next Done e.is (λ told. cell_stays tells old looked copied mid new head root next list copies items addrs u told)
          (published_done tells written written_now mid new line next Was Done never put);
    },
  )
