-- What the pages of a run disclose, and those of two runs with a loss of power between them.
use Rattle.std.proofs.Common.{◌≡◌, ◌↔◌, ℕ, ◌<◌, ◌≤◌, List, [], ◌∷◌, ◌++◌, Option, length, sym, ◌∙◌, ap, subst, arith, length-append}
use Rattle.std.specs.Prelude.{Contains}
use Rattle.std.specs.Option.{option_map_or}
use Rattle.std.proofs.lemmas.List.{get_or_append_left}
use Rattle.std.proofs.lemmas.List.Elements.{All-nil, All-cons, All-weaker, Contains-append_left}
use Rattle.platform.specs.Image.{Image, MayLeave, LeavesOnly}
use Rattle.platform.specs.History.{History, Extends, During, image_at, moment}
use Rattle.platform.proofs.Moments.{image_at-now, earlier-now, Extends-earlier, Extends-since}
use Rattle.root_codec.specs.declared.root.Root.{Root}
use Rattle.sdbt_base.specs.Keys.{bare}
use Rattle.key_graph.specs.Chains.{Reached, KeyPremises, link}
use Rattle.key_graph.specs.Maps.{AreFirst}
use Rattle.key_graph.proofs.ChainLaws.{opens_later, reached_later}
use Rattle.key_graph.proofs.LaterLaws.{no_more}
use Rattle.sdbt_base.specs.Arrays.{Device}
use Rattle.page_store.specs.Stands.{Stands}
use Rattle.page_store.specs.Kept.{IsRootOf, Kept}
use Rattle.page_store.specs.Keeping.{HandedOver}
use Rattle.page_store.specs.Floors.{IsInTree, IsReached, head_in, low_of, floor_of, KeepsDeleted}
use Rattle.page_store.specs.Disclosing.{ReachNoMore, DisclosesTrees, DisclosesBy, DisclosesOn}
use Rattle.page_store.proofs.KeepingLaws.{handed_opened}
use Rattle.page_store.proofs.KeptLaws.{may_leave_itself, moments_reach}
use Rattle.page_store.proofs.FloorLaws.{floor_first, floor_below, never_reached, reaches_still}

-- ---- the premises

-- they hold of the first keys and of the first pages
pub first_premises : (keys more pages longer : List (List ℕ)) → AreFirst pages longer → KeyPremises (keys ++ more) longer → KeyPremises keys pages
first_premises keys more pages longer first premises = record {
  distinct = λ i j d order within same. premises.distinct i j d order (let all = length-append keys more in omega (arith, within, all))
      (get_or_append_left keys more d i (omega (arith, order, within)) ∙ (same ∙ sym (get_or_append_left keys more d j within)));
  one_opener = λ addr one other has has' opens opens'.
      premises.one_opener addr one other (Contains-append_left keys more one has) (Contains-append_left keys more other has')
      (opens_later pages longer (link addr one) first opens) (opens_later pages longer (link addr other) first opens');
}

-- ---- one run

pub discloses : (keys grew : List (List ℕ)) (old new : History) → Kept keys old.present → HandedOver grew old.present new.present → During old new (Kept (keys ++ grew)) → KeepsDeleted old new
    → During old new (λ image. (device : Option Device) × LeavesOnly (λ left. Stands left device) image) → DisclosesBy keys grew old new
discloses keys grew old new before handed kept deleted stands = record {
  kept = kept;
  trees = λ premises.
      let all = keys ++ grew in
      let exact = moments_reach all old new stands kept premises.distinct premises.one_opener in
      let first = (Extends-earlier old new kept.extends).recorded in
      record {
        exact = exact;
        still = reaches_still all old new stands kept premises.distinct premises.one_opener;
        deleted = never_reached old new deleted (record { extends = exact.extends; each = λ i from to. exact.each i from to (image_at new i) (may_leave_itself new i) });
        no_more = record {
          extends = kept.extends;
          each = λ i from to roots listed addr.
              let law = no_more keys grew old.present.recorded new.present.recorded roots before.pages first (handed_opened grew old.present new.present handed) premises.distinct premises.one_opener listed addr in (
                λ reached. law.0 (reached_later roots (image_at new i).recorded new.present.recorded addr (earlier-now new i to).recorded reached),
                λ reached. reached_later roots old.present.recorded (image_at new i).recorded addr (Extends-since old new i kept.extends from).recorded reached,
              );
        };
      };
}

-- ---- two runs

-- the image from which the second run goes on is its first one
at_start : (cut new : History) → Extends cut new → image_at new (moment cut) ≡ cut.present
at_start cut new extends = extends.same (moment cut) (omega arith) ∙ image_at-now cut (moment cut) (omega arith)

low_left : (image left : Image) → MayLeave image left → low_of left ≡ low_of image
low_left image left lost =
    ap (λ (c : Option (List ℕ)). option_map_or head_in c (length left.recorded)) lost.cell
    ∙ ap (λ (pages : List (List ℕ)). option_map_or head_in image.cell (length pages)) lost.recorded

root_left : (image left : Image) (root : Root) → MayLeave image left → IsRootOf left root → IsRootOf image root
root_left image left root lost is = record { cell = sym lost.cell ∙ is.cell; in_range = is.in_range; key = is.key }

-- floors of the first run are no higher than those of the second
floors_go_on : (keys one : List (List ℕ)) (old mid cut new : History) (i j : ℕ) → DisclosesTrees keys old mid → DisclosesTrees (keys ++ one) cut new → MayLeave mid.present cut.present
    → moment old ≤ i → i ≤ moment mid → moment cut ≤ j → j ≤ moment new → floor_of old mid i ≤ floor_of cut new j
floors_go_on keys one old mid cut new i j first second lost from to from' to' =
    let a = first.deleted.floors i (moment mid) from to (omega arith) in
    let b : floor_of old mid (moment mid) ≤ low_of mid.present
    = subst (λ (x : Image). floor_of old mid (moment mid) ≤ low_of x) (image_at-now mid (moment mid) (omega arith)) (floor_below old mid (moment mid) (omega (arith, from, to))) in
    let c = low_left mid.present cut.present lost in
    let d : floor_of cut new (moment cut) ≡ low_of cut.present = floor_first cut new ∙ ap low_of (at_start cut new second.deleted.extends) in
    let e = second.deleted.floors (moment cut) j (omega arith) from' to' in
    omega (arith, a, b, c, d, e)

deleted_goes_on : (keys one : List (List ℕ)) (old mid cut new : History) (i j addr : ℕ) → DisclosesTrees keys old mid → DisclosesTrees (keys ++ one) cut new → MayLeave mid.present cut.present
    → moment old ≤ i → i ≤ moment mid → moment cut ≤ j → j ≤ moment new → IsReached (image_at new j) addr → addr < floor_of old mid i → IsInTree (image_at mid i) addr
deleted_goes_on keys one old mid cut new i j addr first second lost from to from' to' reached below =
    let start = moment cut in
    let lower = floors_go_on keys one old mid cut new i start first second lost from to (omega arith) (omega (arith, from', to')) in
    let there : IsInTree (image_at new start) addr = second.deleted.kept start j (omega arith) from' to' addr reached (omega (arith, below, lower)) in
    let here = at_start cut new second.deleted.extends in
    let still = second.still start start (omega arith) (omega arith) (omega (arith, from', to')) there.root there.is addr in
    let root : IsRootOf cut.present there.root = subst (λ (x : Image). IsRootOf x there.root) here there.is in
    let over : Reached (bare there.root.key ∷ []) cut.present.recorded addr = subst (λ (x : Image). Reached (bare there.root.key ∷ []) x.recorded addr) here (still.1 there) in
    let last : IsReached mid.present addr = record {
      root = there.root;
      is = root_left mid.present cut.present there.root lost root;
      reached = subst (λ (pages : List (List ℕ)). Reached (bare there.root.key ∷ []) pages addr) lost.recorded over;
    } in
    first.deleted.kept i (moment mid) from to (omega arith) addr (subst (λ (x : Image). IsReached x addr) (sym (image_at-now mid (moment mid) (omega arith))) last) below

still_goes_on : (keys one : List (List ℕ)) (old mid cut new : History) (i j : ℕ) (root : Root) (addr : ℕ) → During old mid (Kept (keys ++ one)) → DisclosesTrees keys old mid → DisclosesTrees (keys ++ one) cut new → MayLeave mid.present cut.present
    → moment old ≤ i → i ≤ moment mid → moment cut ≤ j → j ≤ moment new → IsRootOf (image_at mid i) root → Reached (bare root.key ∷ []) (image_at new j).recorded addr ↔ IsInTree (image_at mid i) addr
still_goes_on keys one old mid cut new i j root addr kept first second lost from to from' to' is =
    let own : Contains (keys ++ one) (bare root.key) = ((kept.each i from to).cell root is).own in
    let listed = All-cons (Contains (keys ++ one)) (bare root.key) [] own (All-nil (Contains (keys ++ one))) in
    let later = second.no_more.each j from' to' (bare root.key ∷ []) listed addr in
    let pages : cut.present.recorded ≡ (image_at mid (moment mid)).recorded = lost.recorded ∙ ap (λ (x : Image). x.recorded) (sym (image_at-now mid (moment mid) (omega arith))) in
    let law = first.still i (moment mid) from to (omega arith) root is addr in (
      λ reached. law.0 (subst (λ (ps : List (List ℕ)). Reached (bare root.key ∷ []) ps addr) pages (later.0 reached)),
      λ there. later.1 (subst (λ (ps : List (List ℕ)). Reached (bare root.key ∷ []) ps addr) (sym pages) (law.1 there)),
    )

no_more_goes_on : (keys one : List (List ℕ)) (old mid cut new : History) → DisclosesTrees keys old mid → DisclosesTrees (keys ++ one) cut new → MayLeave mid.present cut.present → During cut new (ReachNoMore keys old.present)
no_more_goes_on keys one old mid cut new first second lost = record {
  extends = second.no_more.extends;
  each = λ j from to roots listed addr.
      let more = All-weaker (Contains keys) (Contains (keys ++ one)) (λ key has. Contains-append_left keys one key has) roots listed in
      let later = second.no_more.each j from to roots more addr in
      let pages : cut.present.recorded ≡ (image_at mid (moment mid)).recorded = lost.recorded ∙ ap (λ (x : Image). x.recorded) (sym (image_at-now mid (moment mid) (omega arith))) in
      let law = first.no_more.each (moment mid) first.no_more.extends.later (omega arith) roots listed addr in (
        λ reached. law.0 (subst (λ (ps : List (List ℕ)). Reached roots ps addr) pages (later.0 reached)),
        λ reached. later.1 (subst (λ (ps : List (List ℕ)). Reached roots ps addr) (sym pages) (law.1 reached)),
      );
}

pub discloses_on : (keys one two : List (List ℕ)) (old mid cut new : History) → DisclosesBy keys one old mid → DisclosesBy (keys ++ one) two cut new → MayLeave mid.present cut.present
    → KeyPremises ((keys ++ one) ++ two) new.present.recorded → DisclosesOn keys one old mid cut new
discloses_on keys one two old mid cut new a b lost premises =
    let ahead : AreFirst mid.present.recorded new.present.recorded
    = subst (λ (ps : List (List ℕ)). AreFirst ps new.present.recorded) lost.recorded (Extends-earlier cut new b.kept.extends).recorded in
    let first = a.trees (first_premises (keys ++ one) two mid.present.recorded new.present.recorded ahead premises) in
    let second = b.trees premises in
    record {
      first = first;
      second = second;
      floors = λ i j from to from' to'. floors_go_on keys one old mid cut new i j first second lost from to from' to';
      deleted = λ i j from to from' to' addr reached below. deleted_goes_on keys one old mid cut new i j addr first second lost from to from' to' reached below;
      still = λ i j from to from' to' root is addr. still_goes_on keys one old mid cut new i j root addr a.kept first second lost from to from' to' is;
      no_more = no_more_goes_on keys one old mid cut new first second lost;
    }
