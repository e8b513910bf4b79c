-- What keeps the keys of an image, and what follows at a moment.
use Rattle.std.proofs.Common.{◌≡◌, inl, inr, ℕ, ◌<◌, ◌≤◌, List, [], ◌∷◌, ◌++◌, map, length, refl, sym, ◌∙◌, ap, subst, arith, append-nil, drop, take-append-drop}
use Rattle.std.specs.Prelude.{Option, None, Some, All, Contains}
use Rattle.std.proofs.lemmas.List.{take_all}
use Rattle.std.proofs.lemmas.List.Elements.{All-cons, All-weaker, All-map, Contains-append_left}
use Rattle.platform.specs.Image.{Image, IsEarlier, MayLeave, LeavesOnly, MayHavePage, with_page, with_cell, all_synced}
use Rattle.platform.specs.History.{History, image_at, moment, Extends, During, Turns}
use Rattle.platform.proofs.Moments.{synced-stays, earlier-now, During-now, Extends-since}
use Rattle.std.proofs.lemmas.Bool.{cases_lt}
use Rattle.sdbt_base.specs.Keys.{bare}
use Rattle.node_codec.specs.declared.body.Entry.{Entry}
use Rattle.seal_record.specs.Sealing.{Opens}
use Rattle.root_codec.specs.declared.root.Root.{Root}
use Rattle.root_codec.specs.RootRecord.{FitsRoot, root_bytes}
use Rattle.root_codec.specs.Laws.{one_root}
use Rattle.sdbt_base.specs.Arrays.{Device}
use Rattle.sdbt_base.specs.Traces.{DataOf, NodeOver}
use Rattle.page_store.specs.Tree.{Place, Parts, Tree}
use Rattle.page_store.specs.Stands.{StandsBy, Stands}
use Rattle.page_store.specs.Leaf.{leaf_parts, StandsByLeaf}
use Rattle.page_store.proofs.LeafStandsLaws.{stands_by_leaf}
use Rattle.page_store.proofs.TreeLaws.{ReadsAlike, one_tree, tree_kept, tree_stays}
use Rattle.key_graph.specs.Opening.{Yields}
use Rattle.key_graph.specs.Chains.{Link, link, Distinct, OneOpener}
use Rattle.key_graph.specs.OwnKeys.{HaveOwnKeys}
use Rattle.key_graph.specs.Maps.{AreListed, ReachesExactly, AreFirst}
use Rattle.key_graph.proofs.ChainLaws.{reaches_exactly}
use Rattle.key_graph.proofs.OwnLaws.{own_none, own_more, own_page}
use Rattle.page_store.specs.Kept.{links_of, IsRootOf, KnowsTree, Kept, ReachesTree}
use Rattle.page_store.proofs.TreeMaps.{tree_closed}

same_some : {A : Type 0} (x y : A) → Some x ≡ Some y → x ≡ y
same_some x y same = cc

-- ---- the root record in the cell

pub one_root_in : (image other : Image) (one two : Root) → other.cell ≡ image.cell → IsRootOf image one → IsRootOf other two → one ≡ two
one_root_in image other one two same is is' = one_root one two is.in_range is'.in_range (same_some _ _ (sym is.cell ∙ sym same ∙ is'.cell))

pub root_of_stands : (image : Image) (device : Device) (root : Root) (parts : Parts) → StandsBy image device root parts → IsRootOf image root
root_of_stands image device root parts stands = record { cell = stands.cell; in_range = stands.in_range; key = stands.key }

-- the tree that an image stands by is the one tree of its root
knows_parts : (keys pages : List (List ℕ)) (root : Root) (parts : Parts) → FitsRoot root → Tree pages root parts → Contains keys (bare root.key) → All (λ p. Contains keys (bare p.key)) parts.places → KnowsTree keys pages root
knows_parts keys pages root parts fits tree own places = record {
  own = own;
  places = λ other is. subst (λ (p : Parts). All (λ q. Contains keys (bare q.key)) p.places) (one_tree pages root parts other fits tree is) places;
}

knows_more : (keys more pages : List (List ℕ)) (root : Root) → KnowsTree keys pages root → KnowsTree (keys ++ more) pages root
knows_more keys more pages root knows = record {
  own = Contains-append_left keys more (bare root.key) knows.own;
  places = λ parts tree. All-weaker (λ (p : Place). Contains keys (bare p.key)) (λ (p : Place). Contains (keys ++ more) (bare p.key)) (λ p. Contains-append_left keys more (bare p.key)) parts.places (knows.places parts tree);
}

-- another image with the same cell, where the tree reads as before
knows_kept : (keys : List (List ℕ)) (image other : Image) (device : Option Device) → Stands image device → Kept keys image → other.cell ≡ image.cell → ((d : Device) (root : Root) (parts : Parts) → StandsBy image d root parts → Tree other.readable root parts) → (root : Root) → IsRootOf other root → KnowsTree keys other.readable root
knows_kept keys image other None stands kept cell same root is = absurd (let no : None ≡ Some (root_bytes root) = sym stands ∙ (sym cell ∙ is.cell) in cc)
knows_kept keys image other (Some device) (root', parts, stands) kept cell same root is =
    let here = root_of_stands image device root' parts stands in
    let roots : root' ≡ root = one_root_in image other root' root cell here is in
    let knows = kept.cell root' here in
    subst (KnowsTree keys other.readable) roots
    (knows_parts keys other.readable root' parts stands.in_range (same device root' parts stands) knows.own (knows.places parts stands.tree))

-- ---- what keeps the keys

-- no page, and an empty cell
pub kept_blank : (keys : List (List ℕ)) (image : Image) → image.recorded ≡ [] → image.cell ≡ None → Kept keys image
kept_blank keys image pages cell = record {
  pages = subst (HaveOwnKeys keys) (sym pages) (own_none keys);
  cell = λ root is. absurd (let no : None ≡ Some (root_bytes root) = sym cell ∙ is.cell in cc);
}

-- keys that were drawn
pub kept_drawn : (keys more : List (List ℕ)) (image : Image) → Kept keys image → Kept (keys ++ more) image
kept_drawn keys more image kept = record {
  pages = own_more keys more image.recorded kept.pages;
  cell = λ root is. knows_more keys more image.readable root (kept.cell root is);
}

-- a page that was, or may have been, handed over, whatever a read gives of it
pub kept_append : (keys : List (List ℕ)) (key page : List ℕ) (image after : Image) (device : Option Device) → Stands image device → Kept keys image → Opens key (length image.recorded) page → ((other : List ℕ) → Yields key page other → Contains (keys ++ key ∷ []) other) → MayHavePage image page after → Kept (keys ++ key ∷ []) after
kept_append keys key page image after device stands kept opens yields (inl same) = subst (Kept (keys ++ key ∷ [])) (sym same) (kept_drawn keys (key ∷ []) image kept)
kept_append keys key page image after device stands kept opens yields (inr (reads, same)) =
    subst (Kept (keys ++ key ∷ [])) (sym same) (record {
      pages = own_page keys image.recorded key page kept.pages opens yields;
      cell = λ root is. knows_more keys (key ∷ []) (image.readable ++ reads ∷ []) root
          (knows_kept keys image (with_page image page reads) device stands kept refl
          (λ d root parts stands. tree_stays image.readable (reads ∷ []) root parts stands.tree) root is);
    })

-- a sync
pub kept_synced : (keys : List (List ℕ)) (image : Image) → Kept keys image → Kept keys (all_synced image)
kept_synced keys image kept = record {
  pages = kept.pages;
  cell = λ root is. kept.cell root (record { cell = is.cell; in_range = is.in_range; key = is.key });
}

-- an empty cell
pub kept_cleared : (keys : List (List ℕ)) (image : Image) → Kept keys image → Kept keys (with_cell image None)
kept_cleared keys image kept = record { pages = kept.pages; cell = λ root is. absurd (let no : None ≡ Some (root_bytes root) = is.cell in cc) }

-- another root record, whose tree's keys are listed
pub kept_swapped : (keys : List (List ℕ)) (image : Image) (device : Device) (root : Root) (parts : Parts) → Kept keys image → StandsBy (with_cell image (Some (root_bytes root))) device root parts → Contains keys (bare root.key) → All (λ p. Contains keys (bare p.key)) parts.places → Kept keys (with_cell image (Some (root_bytes root)))
kept_swapped keys image device root parts kept stands own places =
    let after = with_cell image (Some (root_bytes root)) in
    record {
      pages = kept.pages;
      cell = λ other is.
          subst (KnowsTree keys image.readable) (one_root_in after after root other refl (root_of_stands after device root parts stands) is)
          (knows_parts keys image.readable root parts stands.in_range stands.tree own places);
    }

-- a loss of power: what it leaves is what the next run begins with
pub kept_left : (keys : List (List ℕ)) (image left : Image) (device : Option Device) → Stands image device → Kept keys image → MayLeave image left → Kept keys left
kept_left keys image left device stands kept leaves = record {
  pages = subst (HaveOwnKeys keys) (sym leaves.recorded) kept.pages;
  cell = knows_kept keys image left device stands kept leaves.cell
      (λ d root parts stands. tree_kept image.readable left.readable root parts stands.tree
      (All-weaker (λ (p : Place). p.addr < root.head) (ReadsAlike image.readable left.readable) (λ place below. synced-stays image left place.addr leaves (omega (arith, stands.head))) parts.places stands.below));
}

-- ---- what follows

-- the tree over the recorded pages
pub recorded_tree : (image : Image) (device : Device) (root : Root) (parts : Parts) → StandsBy image device root parts → Tree image.recorded root parts
recorded_tree image device root parts stands = tree_kept image.readable image.recorded root parts stands.tree (λ k d inside. sym (stands.recorded k d inside))

-- an image that stands and keeps the keys, among longer pages
pub reaches_tree : (keys longer : List (List ℕ)) (image : Image) (device : Option Device) → Stands image device → Kept keys image → AreFirst image.recorded longer → HaveOwnKeys keys longer → Distinct keys → OneOpener keys longer → ReachesTree image
reaches_tree keys longer image None stands kept first own distinct opener root is = absurd (let no : None ≡ Some (root_bytes root) = sym stands ∙ is.cell in cc)
reaches_tree keys longer image (Some device) (root', parts, stands) kept first own distinct opener root is =
    let here = root_of_stands image device root' parts stands in
    let roots : root' ≡ root = one_root_in image image root' root refl here is in
    let known = (kept.cell root' here).places parts stands.tree in
    let listed : AreListed keys (links_of parts.places) = All-map (λ (l : Link). Contains keys l.key) (λ (p : Place). link p.addr (bare p.key)) parts.places known in
    subst (λ (r : Root). (parts : Parts) × Tree image.readable r parts × ReachesExactly (bare r.key ∷ []) image.recorded (links_of parts.places)) roots (
      parts,
      stands.tree,
      reaches_exactly keys image.recorded longer (bare root'.key ∷ []) (links_of parts.places)
          (tree_closed image.recorded root' parts (recorded_tree image device root' parts stands)) listed first own distinct opener,
    )

-- ---- moments

-- whatever a loss of power leaves of the image stands for one device
pub may_leave_itself : (history : History) (i : ℕ) → MayLeave (image_at history i) (image_at history i)
may_leave_itself history i =
    let whole = history.whole i in
    record { cell = refl; recorded = refl; synced = refl; readable = refl; whole = whole.readable; as_many = whole.as_many }

-- at each moment of a run, whatever a loss of power leaves reaches exactly its tree
pub moments_reach : (keys : List (List ℕ)) (old new : History) → During old new (λ image. (device : Option Device) × LeavesOnly (λ left. Stands left device) image) → During old new (Kept keys) → Distinct keys → OneOpener keys new.present.recorded → During old new (LeavesOnly ReachesTree)
moments_reach keys old new stands kept distinct opener = record {
  extends = stands.extends;
  each = λ i from to left leaves.
      let device = (stands.each i from to).0 in
      let here : Stands (image_at new i) device = (stands.each i from to).1 (image_at new i) (may_leave_itself new i) in
      let there : Stands left device = (stands.each i from to).1 left leaves in
      let keeps : Kept keys left = kept_left keys (image_at new i) left device here (kept.each i from to) leaves in
      let first : AreFirst left.recorded new.present.recorded = subst (λ (pages : List (List ℕ)). AreFirst pages new.present.recorded) (sym leaves.recorded) (earlier-now new i to).recorded in
      let last : Kept keys new.present = During-now old new (Kept keys) kept in
      reaches_tree keys new.present.recorded left device there keeps first last.pages distinct opener;
}

-- ---- as long as the cell stays

-- pages that came later keep a tree
pub tree_later : (image later : Image) (root : Root) (parts : Parts) → IsEarlier image later → Tree image.readable root parts → Tree later.readable root parts
tree_later image later root parts earlier tree =
    let n = length image.recorded in
    let whole : image.readable ++ drop n later.readable ≡ later.readable = ap (λ (pages : List (List ℕ)). pages ++ drop n later.readable) (sym earlier.readable) ∙ take-append-drop n later.readable in
    subst (λ (pages : List (List ℕ)). Tree pages root parts) whole (tree_stays image.readable (drop n later.readable) root parts tree)

-- a later image with the same cell keeps the keys that its pages have of their own
pub kept_later : (keys more : List (List ℕ)) (image later : Image) (device : Option Device) → Stands image device → Kept keys image → IsEarlier image later → later.cell ≡ image.cell → HaveOwnKeys (keys ++ more) later.recorded → Kept (keys ++ more) later
kept_later keys more image later device stands kept earlier cell own = record {
  pages = own;
  cell = λ root is. knows_more keys more later.readable root
      (knows_kept keys image later device stands kept cell (λ d root parts stands. tree_later image later root parts earlier stands.tree) root is);
}

-- an image that stands keeps the keys of its pages, if its tree's are among them
pub kept_stands : (keys : List (List ℕ)) (image : Image) (device : Device) (root : Root) (parts : Parts) → HaveOwnKeys keys image.recorded → StandsBy image device root parts → Contains keys (bare root.key) → All (λ p. Contains keys (bare p.key)) parts.places → Kept keys image
kept_stands keys image device root parts pages stands own places = record {
  pages = pages;
  cell = λ other is.
      subst (KnowsTree keys image.readable) (one_root_in image image root other refl (root_of_stands image device root parts stands) is)
      (knows_parts keys image.readable root parts stands.in_range stands.tree own places);
}

-- the same for a tree of one leaf
pub kept_leaf : (keys : List (List ℕ)) (image : Image) (device : Device) (root : Root) (entries : List Entry) (contents : List (List ℕ)) → HaveOwnKeys keys image.recorded → StandsByLeaf image device root entries contents → Contains keys (bare root.key) → All (λ e. Contains keys (bare e.key)) entries → Kept keys image
kept_leaf keys image device root entries contents pages stands own listed =
    let place : Entry → Place = λ e. record { addr = e.addr; key = e.key; trace = DataOf e.low } in
    kept_stands keys image device root (leaf_parts root.addr root.key entries contents) pages (stands_by_leaf image device root entries contents stands) own
    (All-cons (λ (p : Place). Contains keys (bare p.key)) (record { addr = root.addr; key = root.key; trace = NodeOver (map (λ (e : Entry). e.addr) entries) }) (map place entries) own
    (All-map (λ (p : Place). Contains keys (bare p.key)) place entries listed))

-- where no page was added, the pages of each moment are those from before
pub same_pages : (old new : History) (i : ℕ) → Extends old new → length new.present.recorded ≡ length old.present.recorded → moment old ≤ i → i ≤ moment new → (image_at new i).recorded ≡ old.present.recorded
same_pages old new i extends size from to =
    let since = Extends-since old new i extends from in
    let now = earlier-now new i to in
    sym (take_all (length old.present.recorded) (image_at new i).recorded (omega (arith, now.pages, size))) ∙ since.recorded

-- the cell stays, until it is that of an image that keeps the keys; no page is added
pub kept_published : (keys : List (List ℕ)) (old new : History) (X : Image) (device : Option Device) → Stands old.present device → Kept keys old.present → Kept keys X → length new.present.recorded ≡ length old.present.recorded → Turns old new (λ image. image.cell ≡ old.present.cell) (λ image. image ≡ X) → During old new (Kept keys)
kept_published keys old new X device stands kept next size turns = record {
  extends = turns.extends;
  each = λ i from to. elim (cases_lt i turns.turn) [
    | inl early ↦
        let own : HaveOwnKeys keys (image_at new i).recorded = subst (HaveOwnKeys keys) (sym (same_pages old new i turns.extends size from to)) kept.pages in
        subst (λ (ks : List (List ℕ)). Kept ks (image_at new i)) (append-nil keys)
        (kept_later keys [] old.present (image_at new i) device stands kept (Extends-since old new i turns.extends from) (turns.before i from to early)
        (subst (λ (ks : List (List ℕ)). HaveOwnKeys ks (image_at new i).recorded) (sym (append-nil keys)) own))
    | inr late ↦ subst (Kept keys) (sym (turns.after i from to late)) next
  ];
}

-- calls that leave the image as it was leave it so at each moment
pub same_during : (old new : History) → new.present ≡ old.present → During old new (λ image. image.cell ≡ old.present.cell) → During old new (λ image. image ≡ old.present)
same_during old new same during = record {
  extends = during.extends;
  each = λ i from to.
      let image = image_at new i in
      let since = Extends-since old new i during.extends from in
      let now = earlier-now new i to in
      let whole = new.whole i in
      let pages : image.recorded ≡ old.present.recorded = same_pages old new i during.extends (ap (λ (j : Image). length j.recorded) same) from to in
      let size : length image.readable ≡ length old.present.recorded = whole.as_many ∙ ap length pages in
      let reads : image.readable ≡ old.present.readable = sym (take_all (length old.present.recorded) image.readable (omega (arith, size))) ∙ since.readable in
      let last : new.present.synced ≡ old.present.synced = ap (λ (j : Image). j.synced) same in
      let synced : image.synced ≡ old.present.synced = omega (arith, since.synced, now.synced, last) in
      let cell : image.cell ≡ old.present.cell = during.each i from to in
      λ k. record { cell = cell k; recorded = pages k; readable = reads k; synced = synced k };
}
