-- What an image stands for, and what keeps it: more pages, a sync, and a loss of power.
use Rattle.std.proofs.Common.{◌≡◌, ℕ, zero, suc, ◌<◌, ◌≤◌, List, [], ◌∷◌, ◌++◌, length, take, get_or, refl, sym, ap, subst, ◌∙◌, arith}
use Rattle.std.specs.Prelude.{All, Option, None, Some, slice_get}
use Rattle.std.specs.FinMap.{from_entries}
use Rattle.std.proofs.lemmas.List.Elements.{All-weaker}
use Rattle.platform.specs.Image.{Image, IsEarlier, MayLeave, LeavesOnly, with_page, with_cell, all_synced}
use Rattle.platform.specs.History.{History, image_at, During}
use Rattle.platform.proofs.Moments.{synced-stays, Extends-since}
use Rattle.root_codec.specs.declared.root.Root.{Root}
use Rattle.root_codec.specs.Laws.{one_root}
use Rattle.sdbt_base.specs.Arrays.{Device}
use Rattle.page_store.specs.Tree.{Place, Parts, Tree}
use Rattle.page_store.specs.Stands.{pairs_of, StandsBy, Stands}
use Rattle.page_store.proofs.RecordLaws.{slice_get-front}
use Rattle.page_store.proofs.TreeLaws.{ReadsAlike, IsRead, tree_kept, tree_read, one_tree}

-- ---- one device

same_some : {A : Type 0} (x y : A) → Some x ≡ Some y → x ≡ y
same_some x y same = cc

-- an image stands by one root and one tree at most
pub one_root_of : (image : Image) (device other : Device) (root root' : Root) (parts parts' : Parts) → StandsBy image device root parts → StandsBy image other root' parts' → root ≡ root'
one_root_of image device other root root' parts parts' stands stands' =
    one_root root root' stands.in_range stands'.in_range (same_some _ _ (sym stands.cell ∙ stands'.cell))

pub one_parts_of : (image : Image) (device other : Device) (root root' : Root) (parts parts' : Parts) → StandsBy image device root parts → StandsBy image other root' parts' → parts ≡ parts'
one_parts_of image device other root root' parts parts' stands stands' =
    let roots = one_root_of image device other root root' parts parts' stands stands' in
    one_tree image.readable root parts parts' stands.in_range stands.tree (subst (λ (r : Root). Tree image.readable r parts') (sym roots) stands'.tree)

same_device : (device other : Device) → device.version ≡ other.version → device.blocks ≡ other.blocks → device.order ≡ other.order → device.number ≡ other.number → device.contents ≡ other.contents → device ≡ other
same_device device other version blocks order number same = λ i. record { version = version i; blocks = blocks i; order = order i; number = number i; contents = same i }

-- an image stands for one device at most
pub one_device : (image : Image) (one other : Option Device) → Stands image one → Stands image other → one ≡ other
one_device image None None stands stands' = refl
one_device image None (Some device) stands (root, parts, stands') = let same = sym stands ∙ stands'.cell in absurd cc
one_device image (Some device) None (root, parts, stands) stands' = let same = sym stands' ∙ stands.cell in absurd cc
one_device image (Some device) (Some other) (root, parts, stands) (root', parts', stands') =
    let roots = one_root_of image device other root root' parts parts' stands stands' in
    let all = one_parts_of image device other root root' parts parts' stands stands' in
    ap (λ (d : Device). Some d) (same_device device other
    (sym stands.version ∙ ap (λ (r : Root). r.version) roots ∙ stands'.version)
    (sym stands.blocks ∙ ap (λ (r : Root). r.blocks) roots ∙ stands'.blocks)
    (sym stands.order ∙ ap (λ (r : Root). r.order) roots ∙ stands'.order)
    (sym stands.number ∙ ap (λ (r : Root). r.commit) roots ∙ stands'.number)
    (stands.contents ∙ ap (λ (p : Parts). from_entries (pairs_of p)) all ∙ sym stands'.contents))

-- ---- what keeps it

-- an image stands for the same device as another one that has its cell, in which each place of the tree reads as before
pub stands_kept : (image other : Image) (device : Device) (root : Root) (parts : Parts) → StandsBy image device root parts → other.cell ≡ image.cell → root.head ≤ other.synced → All (ReadsAlike image.readable other.readable) parts.places → All (ReadsAlike image.recorded other.recorded) parts.places → StandsBy other device root parts
stands_kept image other device root parts stands cell head readable recorded = record {
  cell = cell ∙ stands.cell;
  in_range = stands.in_range;
  key = stands.key;
  version = stands.version;
  order = stands.order;
  blocks = stands.blocks;
  number = stands.number;
  head = head;
  tree = tree_kept image.readable other.readable root parts stands.tree readable;
  apart = stands.apart;
  count = stands.count;
  below = stands.below;
  recorded = λ k d inside. readable k d inside ∙ stands.recorded k d inside ∙ sym (recorded k d inside);
  contents = stands.contents;
}

slice_get-take : (n : ℕ) (pages : List (List ℕ)) (addr : ℕ) (page : List ℕ) → slice_get (take n pages) addr ≡ Some page → slice_get pages addr ≡ Some page
slice_get-take zero pages addr page reads = absurd cc
slice_get-take (suc n) [] addr page reads = absurd cc
slice_get-take (suc n) (first ∷ pages) zero page reads = reads
slice_get-take (suc n) (first ∷ pages) (suc addr) page reads = slice_get-take n pages addr page reads

-- where the front of the pages is what they were
front_alike : (n : ℕ) (pages others : List (List ℕ)) (places : List Place) → take n others ≡ pages → All (IsRead pages) places → All (ReadsAlike pages others) places
front_alike n pages others places front read =
    All-weaker (IsRead pages) (ReadsAlike pages others) (λ place is. slice_get-take n others place.addr is.0 (ap (λ (ps : List (List ℕ)). slice_get ps place.addr) front ∙ is.1) ∙ sym is.1) places read

-- each place of the tree was recorded
places_recorded : (image : Image) (device : Device) (root : Root) (parts : Parts) → StandsBy image device root parts → All (IsRead image.recorded) parts.places
places_recorded image device root parts stands =
    let read = tree_read image.readable root parts stands.tree in
    λ k d inside. ((read k d inside).0, sym (stands.recorded k d inside) ∙ (read k d inside).1)

-- a later image with the same cell stands for the same device
pub stands_later : (image later : Image) (device : Option Device) → IsEarlier image later → later.cell ≡ image.cell → Stands image device → Stands later device
stands_later image later None earlier cell stands = cell ∙ stands
stands_later image later (Some device) earlier cell (root, parts, stands) = (
  root,
  parts,
  stands_kept image later device root parts stands cell (omega (arith, stands.head, earlier.synced))
      (front_alike (length image.recorded) image.readable later.readable parts.places earlier.readable (tree_read image.readable root parts stands.tree))
      (front_alike (length image.recorded) image.recorded later.recorded parts.places earlier.recorded (places_recorded image device root parts stands)),
)

-- what a loss of power leaves stands for the same device, by the same tree
pub stands_by_left : (image left : Image) (device : Device) (root : Root) (parts : Parts) → MayLeave image left → StandsBy image device root parts → StandsBy left device root parts
stands_by_left image left device root parts leaves stands =
    stands_kept image left device root parts stands leaves.cell (omega (arith, stands.head, leaves.synced))
    (All-weaker (λ (p : Place). p.addr < root.head) (ReadsAlike image.readable left.readable) (λ place below. synced-stays image left place.addr leaves (omega (arith, stands.head))) parts.places stands.below)
    (λ k d inside. ap (λ (pages : List (List ℕ)). slice_get pages (get_or parts.places k d).addr) leaves.recorded)

pub stands_left : (image left : Image) (device : Option Device) → MayLeave image left → Stands image device → Stands left device
stands_left image left None leaves stands = leaves.cell ∙ stands
stands_left image left (Some device) leaves (root, parts, stands) = (root, parts, stands_by_left image left device root parts leaves stands)

pub stands_leaves : (image : Image) (device : Option Device) → Stands image device → LeavesOnly (λ left. Stands left device) image
stands_leaves image device stands left leaves = stands_left image left device leaves stands

-- a page more, of which a read may give anything
pub stands_with_page : (image : Image) (page reads : List ℕ) (device : Option Device) → Stands image device → Stands (with_page image page reads) device
stands_with_page image page reads None stands = stands
stands_with_page image page reads (Some device) (root, parts, stands) = (
  root,
  parts,
  stands_kept image (with_page image page reads) device root parts stands refl stands.head
      (All-weaker (IsRead image.readable) (ReadsAlike image.readable (image.readable ++ reads ∷ [])) (λ place is. slice_get-front image.readable (reads ∷ []) place.addr is.0 is.1 ∙ sym is.1) parts.places (tree_read image.readable root parts stands.tree))
      (All-weaker (IsRead image.recorded) (ReadsAlike image.recorded (image.recorded ++ page ∷ [])) (λ place is. slice_get-front image.recorded (page ∷ []) place.addr is.0 is.1 ∙ sym is.1) parts.places (places_recorded image device root parts stands)),
)

-- a sync
pub stands_synced : (image : Image) (device : Option Device) → image.synced ≤ length image.recorded → Stands image device → Stands (all_synced image) device
stands_synced image None within stands = stands
stands_synced image (Some device) within (root, parts, stands) =
    (root, parts, stands_kept image (all_synced image) device root parts stands refl (omega (arith, stands.head)) (λ k d inside. refl) (λ k d inside. refl))

-- an empty cell stands for no device
pub stands_empty : (image : Image) → Stands (with_cell image None) None
stands_empty image = refl

-- as long as the cell stays as it was, a loss of power at any moment leaves what stands for the same device
pub stands_during : (old new : History) (device : Option Device) → Stands old.present device → During old new (λ image. image.cell ≡ old.present.cell) → During old new (LeavesOnly (λ left. Stands left device))
stands_during old new device stands during = record {
  extends = during.extends;
  each = λ i from to.
      let earlier = Extends-since old new i during.extends from in
      stands_leaves (image_at new i) device (stands_later old.present (image_at new i) device earlier (during.each i from to) stands);
}
