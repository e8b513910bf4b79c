-- What was deleted stays deleted: one call after the other.
use Rattle.std.proofs.Common.{◌≡◌, ◌⊎◌, ◌↔◌, inl, inr, ℕ, zero, suc, ◌+◌, ◌-◌, ◌<◌, ◌≤◌, ◌^◌, List, [], ◌∷◌, map, length, take, drop, refl, sym, ◌∙◌, ap, subst, arith, drop-drop}
use Rattle.std.specs.Prelude.{All, Option, None, Some, Contains, is_some, if◌then◌else◌}
use Rattle.std.specs.Option.{option_map_or}
use Rattle.std.specs.Int.{w64, to_be_bytes, from_be_bytes}
use Rattle.std.proofs.lemmas.Bool.{cases_lt}
use Rattle.std.proofs.lemmas.List.{drop_at}
use Rattle.std.proofs.lemmas.Nat.{from_be_bytes-to_be_bytes_8}
use Rattle.sdbt_base.specs.Keys.{bare, key_size}
use Rattle.record_versions.specs.Versions.{IsVersion}
use Rattle.record_versions.specs.Laws.{size_of_key, length-bare}
use Rattle.platform.specs.Image.{Image, IsEarlier, LeavesOnly}
use Rattle.platform.specs.History.{History, Extends, During, Turns, image_at, moment}
use Rattle.platform.specs.Runs.{floor_at}
use Rattle.platform.proofs.Moments.{image_at-now, earlier-now, Extends-trans, Extends-refl, Extends-earlier, Extends-since, During-now, Turns-not, Turns-weaker}
use Rattle.page_store.proofs.StandsLaws.{stands_later}
use Rattle.platform.proofs.RunLaws.{Turns-cases}
use Rattle.root_codec.specs.declared.root.Root.{Root}
use Rattle.root_codec.specs.RootRecord.{root_fields, root_bytes}
use Rattle.key_graph.specs.Chains.{Link, link, Reached, Distinct, OneOpener}
use Rattle.key_graph.specs.OwnKeys.{HaveOwnKeys}
use Rattle.key_graph.specs.Maps.{addresses_of, AreListed, AreFirst, ReachesExactly}
use Rattle.key_graph.proofs.ChainLaws.{earlier_map, contains_map, map_contains}
use Rattle.std.proofs.lemmas.List.Elements.{All-map, All-contains}
use Rattle.sdbt_base.specs.Arrays.{Device}
use Rattle.page_store.specs.Tree.{Place, Parts, Tree}
use Rattle.page_store.specs.Stands.{StandsBy, Stands, IsSound}
use Rattle.page_store.specs.Kept.{links_of, IsRootOf, Kept, ReachesTree}
use Rattle.page_store.proofs.TreeMaps.{tree_closed}
use Rattle.page_store.specs.Floors.{IsInTree, HasPlace, IsNewRoot, Succeeds, head_in, floor_of, low_of, Forgets, KeepsDeleted, NeverReached, ReachesStill}
use Rattle.page_store.proofs.TreeLaws.{one_tree}
use Rattle.page_store.proofs.KeptLaws.{one_root_in, root_of_stands, tree_later, recorded_tree, may_leave_itself}

-- ---- the head field

pub head_is : (root : Root) → root.head ≤ 2 ^ 32 → IsVersion root.version → length root.key ≡ key_size root.version → head_in (root_bytes root) ≡ root.head
unfolding root_fields
head_is root most is sized =
    let bytes = root_bytes root in
    let size : length (bare root.key) ≡ 32 = length-bare root.key (size_of_key root.version root.key is sized) in
    let behind : take 8 (drop 80 bytes) ≡ to_be_bytes w64 root.head
    = ap (take 8) (sym (drop-drop 40 40 bytes) ∙ (sym (drop-drop 8 32 (drop 40 bytes)) ∙ ap (drop 8) (drop_at (bare root.key) _ 32 size))) in
    ap (from_be_bytes w64) behind ∙ from_be_bytes-to_be_bytes_8 root.head (omega arith)

-- ---- floors, by steps of a history

abbrev F : History → ℕ → ℕ → ℕ
F h first k = floor_at head_in h first k

abbrev cell_at : History → ℕ → Option (List ℕ)
cell_at h i = (image_at h i).cell

floor_some : (h : History) (first k : ℕ) (bytes : List ℕ) → cell_at h (first + k) ≡ Some bytes → F h first k ≡ head_in bytes
floor_some h first zero bytes is = ap (λ (c : Option (List ℕ)). option_map_or head_in c (length (image_at h first).recorded)) (ap (cell_at h) (omega arith) ∙ is)
floor_some h first (suc k) bytes is = ap (λ (c : Option (List ℕ)). option_map_or head_in c (if is_some (cell_at h (first + k)) then length (image_at h (first + suc k)).recorded else F h first k)) is

-- a step to an empty cell
floor_none : (h : History) (first k : ℕ) → cell_at h (first + suc k) ≡ None → F h first (suc k) ≡ (if is_some (cell_at h (first + k)) then length (image_at h (first + suc k)).recorded else F h first k)
floor_none h first k is = ap (λ (c : Option (List ℕ)). option_map_or head_in c (if is_some (cell_at h (first + k)) then length (image_at h (first + suc k)).recorded else F h first k)) is

split : (c : Option (List ℕ)) → (c ≡ None) ⊎ ((bytes : List ℕ) × (c ≡ Some bytes))
split None = inl refl
split (Some bytes) = inr (bytes, refl)

-- a step that keeps the cell keeps the floor
floor_step : (h : History) (first k : ℕ) → cell_at h (first + suc k) ≡ cell_at h (first + k) → F h first (suc k) ≡ F h first k
floor_step h first k same = elim (split (cell_at h (first + k))) [
  | inl none ↦ floor_none h first k (same ∙ none) ∙ ap (λ (c : Option (List ℕ)). if is_some c then length (image_at h (first + suc k)).recorded else F h first k) none
  | inr some ↦ floor_some h first (suc k) some.0 (same ∙ some.1) ∙ sym (floor_some h first k some.0 some.1)
]

-- so do many
floor_stays : (h : History) (first k more : ℕ) → ((j : ℕ) → j ≤ more → cell_at h (first + (k + j)) ≡ cell_at h (first + k)) → F h first (k + more) ≡ F h first k
floor_stays h first k zero same = ap (F h first) (omega arith)
floor_stays h first k (suc more) same =
    let next : k + suc more ≡ suc (k + more) = omega arith in
    ap (F h first) next
    ∙ floor_step h first (k + more) (ap (λ (n : ℕ). cell_at h (first + n)) (sym next) ∙ (same (suc more) (omega arith) ∙ sym (same more (omega arith))))
    ∙ floor_stays h first k more (λ j within. same j (omega arith))

-- a floor is no higher than the low of its moment
floor_low : (h : History) (first k : ℕ) → F h first k ≤ low_of (image_at h (first + k))
floor_low h first zero = let at : first + 0 ≡ first = omega arith in subst (λ (i : ℕ). F h first 0 ≤ low_of (image_at h i)) (sym at) (omega arith)
floor_low h first (suc k) = elim (split (cell_at h (first + suc k))) [
  | inr some ↦
      let a = floor_some h first (suc k) some.0 some.1 in
      let b : low_of (image_at h (first + suc k)) ≡ head_in some.0 = ap (λ (c : Option (List ℕ)). option_map_or head_in c (length (image_at h (first + suc k)).recorded)) some.1 in
      omega (arith, a, b)
  | inl none ↦
      let size = length (image_at h (first + suc k)).recorded in
      let low : low_of (image_at h (first + suc k)) ≡ size = ap (λ (c : Option (List ℕ)). option_map_or head_in c size) none in
      let is = floor_none h first k none in
      elim (split (cell_at h (first + k))) [
        | inr some ↦
            let a : F h first (suc k) ≡ size = is ∙ ap (λ (c : Option (List ℕ)). if is_some c then size else F h first k) some.1 in
            omega (arith, a, low)
        | inl none' ↦
            let a : F h first (suc k) ≡ F h first k = is ∙ ap (λ (c : Option (List ℕ)). if is_some c then size else F h first k) none' in
            let b = floor_low h first k in
            let c : low_of (image_at h (first + k)) ≡ length (image_at h (first + k)).recorded = ap (λ (c : Option (List ℕ)). option_map_or head_in c (length (image_at h (first + k)).recorded)) none' in
            let d = (h.ascends (first + k) (first + suc k) (omega arith)).pages in
            omega (arith, a, b, c, d, low)
      ]
]

-- two histories with the same images have the same floors
floor_same : (h other : History) (first k : ℕ) → ((j : ℕ) → j ≤ k → image_at h (first + j) ≡ image_at other (first + j)) → F h first k ≡ F other first k
floor_same h other first zero same =
    let at : first + 0 ≡ first = omega arith in
    ap (λ (i : Image). option_map_or head_in i.cell (length i.recorded)) (ap (image_at h) (sym at) ∙ (same zero (omega arith) ∙ ap (image_at other) at))
floor_same h other first (suc k) same =
    let rest = floor_same h other first k (λ j within. same j (omega arith)) in
    let here = same (suc k) (omega arith) in
    let before = same k (omega arith) in
    λ i. option_map_or head_in (here i).cell (if is_some (before i).cell then length (here i).recorded else rest i)

-- ---- trees of moments with one cell

root_kept : (image other : Image) (root : Root) → other.cell ≡ image.cell → IsRootOf image root → IsRootOf other root
root_kept image other root same is = record { cell = same ∙ is.cell; in_range = is.in_range; key = is.key }

pub in_tree_later : (image later : Image) (addr : ℕ) → IsEarlier image later → later.cell ≡ image.cell → IsInTree image addr → IsInTree later addr
in_tree_later image later addr earlier same is = record {
  root = is.root;
  parts = is.parts;
  is = root_kept image later is.root same is.is;
  tree = tree_later image later is.root is.parts earlier is.tree;
  has = is.has;
}

in_tree_before : (image later : Image) (addr : ℕ) → IsSound image → IsEarlier image later → later.cell ≡ image.cell → IsInTree later addr → IsInTree image addr
in_tree_before image later addr (None, stands) earlier same is = absurd (let no : None ≡ Some (root_bytes is.root) = sym stands ∙ (sym same ∙ is.is.cell) in cc)
in_tree_before image later addr (Some device, (root, parts, stands)) earlier same is =
    let here : IsRootOf image is.root = root_kept later image is.root (sym same) is.is in
    let roots : root ≡ is.root = one_root_in image image root is.root refl (root_of_stands image device root parts stands) here in
    let tree : Tree image.readable is.root parts = subst (λ (r : Root). Tree image.readable r parts) roots stands.tree in
    let one : is.parts ≡ parts = one_tree later.readable is.root is.parts parts is.is.in_range is.tree (tree_later image later is.root parts earlier tree) in
    record {
      root = is.root;
      parts = parts;
      is = here;
      tree = tree;
      has = subst (λ (p : Parts). Contains (addresses_of (links_of p.places)) addr) one is.has;
    }

-- ---- places of the tree

pub place_in_tree : (image : Image) (place : Place) → HasPlace image place → IsInTree image place.addr
place_in_tree image place is = record {
  root = is.root;
  parts = is.parts;
  is = is.is;
  tree = is.tree;
  has = map_contains (λ (l : Link). l.addr) (links_of is.parts.places) (link place.addr (bare place.key)) (map_contains (λ (p : Place). link p.addr (bare p.key)) is.parts.places place is.has);
}

-- a place at an address of the tree
pub place_at : (image : Image) (addr : ℕ) → IsInTree image addr → (place : Place) × (place.addr ≡ addr) × HasPlace image place
place_at image addr is =
    let spot : Place → Link = λ p. link p.addr (bare p.key) in
    let at = contains_map (λ (l : Link). l.addr) (map spot is.parts.places) addr is.has in
    let place = contains_map spot is.parts.places at.0 at.1 in
    (place.0, ap (λ (l : Link). l.addr) place.2 ∙ at.2, record { root = is.root; parts = is.parts; is = is.is; tree = is.tree; has = place.1 })

pub place_later : (image later : Image) (place : Place) → IsEarlier image later → later.cell ≡ image.cell → HasPlace image place → HasPlace later place
place_later image later place earlier same is = record {
  root = is.root;
  parts = is.parts;
  is = root_kept image later is.root same is.is;
  tree = tree_later image later is.root is.parts earlier is.tree;
  has = is.has;
}

place_before : (image later : Image) (place : Place) → IsSound image → IsEarlier image later → later.cell ≡ image.cell → HasPlace later place → HasPlace image place
place_before image later place (None, stands) earlier same is = absurd (let no : None ≡ Some (root_bytes is.root) = sym stands ∙ (sym same ∙ is.is.cell) in cc)
place_before image later place (Some device, (root, parts, stands)) earlier same is =
    let here : IsRootOf image is.root = root_kept later image is.root (sym same) is.is in
    let roots : root ≡ is.root = one_root_in image image root is.root refl (root_of_stands image device root parts stands) here in
    let tree : Tree image.readable is.root parts = subst (λ (r : Root). Tree image.readable r parts) roots stands.tree in
    let one : is.parts ≡ parts = one_tree later.readable is.root is.parts parts is.is.in_range is.tree (tree_later image later is.root parts earlier tree) in
    record {
      root = is.root;
      parts = parts;
      is = here;
      tree = tree;
      has = subst (λ (p : Parts). Contains p.places place) one is.has;
    }

-- the place of a tree that an image stands by is one of its parts
pub place_of_stands : (image : Image) (device : Device) (root : Root) (parts : Parts) (place : Place) → StandsBy image device root parts → HasPlace image place → Contains parts.places place
place_of_stands image device root parts place stands is =
    let roots : root ≡ is.root = one_root_in image image root is.root refl (root_of_stands image device root parts stands) is.is in
    let tree : Tree image.readable is.root parts = subst (λ (r : Root). Tree image.readable r parts) roots stands.tree in
    subst (λ (p : Parts). Contains p.places place) (one_tree image.readable is.root is.parts parts is.is.in_range is.tree tree) is.has

-- of the addresses below the old head the new tree has only those of the old
old_only_of : (old new : Image) (addr : ℕ) → Succeeds old new → IsInTree new addr → addr < low_of old → IsInTree old addr
old_only_of old new addr succeeds there below =
    let place = place_at new addr there in
    subst (IsInTree old) place.1 (place_in_tree old place.0 (succeeds.kept place.0 place.2 (let is = place.1 in omega (arith, is, below))))

-- ---- pairs of moments

-- the floor doesn't fall, and the later tree has below it only addresses of the earlier one
record IsKept (start new : History) (i j : ℕ) : Type 0 where
  floors : floor_of start new i ≤ floor_of start new j
  old_only : (addr : ℕ) → IsInTree (image_at new j) addr → addr < floor_of start new i → IsInTree (image_at new i) addr

kept_trans : (start new : History) (i m j : ℕ) → IsKept start new i m → IsKept start new m j → IsKept start new i j
kept_trans start new i m j one two = record {
  floors = let a = one.floors in let b = two.floors in omega arith;
  old_only = λ addr there below. one.old_only addr (two.old_only addr there (let a = one.floors in omega arith)) below;
}

-- between two moments the cell is the same
abbrev SameCell : History → ℕ → ℕ → Type 0
SameCell new i j = (x : ℕ) → i ≤ x → x ≤ j → cell_at new x ≡ cell_at new i

floor_between : (start new : History) (i j : ℕ) → moment start ≤ i → i ≤ j → SameCell new i j → floor_of start new j ≡ floor_of start new i
floor_between start new i j from order same =
    let s = moment start in
    let k = i - s in
    let at : j - s ≡ k + (j - i) = omega arith in
    let here : s + k ≡ i = omega arith in
    ap (F new s) at
    ∙ floor_stays new s k (j - i) (λ x within.
    let there : s + (k + x) ≡ i + x = omega arith in
    ap (cell_at new) there ∙ (same (i + x) (omega arith) (omega arith) ∙ ap (cell_at new) (sym here)))

kept_same : (start new : History) (i j : ℕ) → moment start ≤ i → i ≤ j → SameCell new i j → IsSound (image_at new i) → IsKept start new i j
kept_same start new i j from order same sound = record {
  floors = let a = floor_between start new i j from order same in omega arith;
  old_only = λ addr there below. in_tree_before (image_at new i) (image_at new j) addr sound (new.ascends i j order) (same j order (omega arith)) there;
}

-- ---- a call

pub low_of_stands : (image : Image) (device : Device) (root : Root) (parts : Parts) → StandsBy image device root parts → low_of image ≡ root.head
low_of_stands image device root parts stands =
    ap (λ (c : Option (List ℕ)). option_map_or head_in c (length image.recorded)) stands.cell ∙ head_is root stands.in_range.head stands.in_range.version stands.key.0

pub low_few : (image : Image) → IsSound image → image.synced ≤ length image.recorded → low_of image ≤ length image.recorded
low_few image (None, stands) within = let a : low_of image ≡ length image.recorded = ap (λ (c : Option (List ℕ)). option_map_or head_in c (length image.recorded)) stands in omega (arith, a)
low_few image (Some device, (root, parts, stands)) within = let a = low_of_stands image device root parts stands in omega (arith, a, stands.head)

-- the step at which the cell changes
floor_turns : (start new : History) (m t : ℕ) → moment start ≤ m → m < t → SameCell new m (t - 1) → IsSound (image_at new m) → low_of (image_at new m) ≤ low_of (image_at new t) → floor_of start new m ≤ floor_of start new t
floor_turns start new m t from before same sound rises =
    let s = moment start in
    let k = t - 1 - s in
    let next : t - s ≡ suc k = omega arith in
    let at : s + suc k ≡ t = omega arith in
    let prev : s + k ≡ t - 1 = omega arith in
    let first : floor_of start new m ≤ low_of (image_at new m) = subst (λ (x : ℕ). floor_of start new m ≤ low_of (image_at new x)) (omega arith) (floor_low new s (m - s)) in
    let kept : floor_of start new (t - 1) ≡ floor_of start new m = floor_between start new m (t - 1) from (omega arith) same in
    let cell : cell_at new (s + k) ≡ cell_at new m = ap (cell_at new) prev ∙ same (t - 1) (omega arith) (omega arith) in
    let there : cell_at new (s + suc k) ≡ cell_at new t = ap (cell_at new) at in
    let size : length (image_at new (s + suc k)).recorded ≡ length (image_at new t).recorded = ap (λ (x : ℕ). length (image_at new x).recorded) at in
    let is : floor_of start new t ≡ F new s (suc k) = ap (F new s) next in
    elim (split (cell_at new t)) [
      | inr some ↦
          let a = floor_some new s (suc k) some.0 (there ∙ some.1) in
          let b : low_of (image_at new t) ≡ head_in some.0 = ap (λ (c : Option (List ℕ)). option_map_or head_in c (length (image_at new t).recorded)) some.1 in
          omega (arith, first, rises, a, b, is)
      | inl none ↦
          let a = floor_none new s k (there ∙ none) in
          elim (split (cell_at new m)) [
            | inr some ↦
                let b : F new s (suc k) ≡ length (image_at new (s + suc k)).recorded = a ∙ ap (λ (c : Option (List ℕ)). if is_some c then length (image_at new (s + suc k)).recorded else F new s k) (cell ∙ some.1) in
                let few = low_few (image_at new m) sound (new.whole m).synced in
                let more = (new.ascends m t (omega arith)).pages in
                omega (arith, first, few, more, b, size, is)
            | inl none' ↦
                let b : F new s (suc k) ≡ F new s k = a ∙ ap (λ (c : Option (List ℕ)). if is_some c then length (image_at new (s + suc k)).recorded else F new s k) (cell ∙ none') in
                let c : floor_of start new (t - 1) ≡ F new s k = refl in
                omega (arith, b, c, kept, is)
          ]
    ]

-- a moment before the turn, and the turn
kept_turn : (start old new : History) (i t : ℕ) → moment start ≤ moment old → Forgets old new → During old new IsSound → moment old ≤ i → i < t → t ≤ moment new → SameCell new (moment old) (t - 1) → SameCell new t (moment new) → IsKept start new i t
kept_turn start old new i t from forgets sound low before high first last =
    let m = moment old in
    let n = moment new in
    let was : image_at new m ≡ old.present = forgets.turns.extends.same m (omega arith) ∙ image_at-now old m (omega arith) in
    let now : image_at new n ≡ new.present = image_at-now new n (omega arith) in
    let at_m : IsSound (image_at new m) = sound.each m (omega arith) (omega arith) in
    let to_i : SameCell new m i = λ x a b. first x a (omega arith) in
    let same : floor_of start new i ≡ floor_of start new m = floor_between start new m i from low to_i in
    let low_m : low_of (image_at new m) ≡ low_of old.present = ap low_of was in
    let low_n : low_of (image_at new n) ≡ low_of new.present = ap low_of now in
    let rises = forgets.succeeds.rises in
    let lows : low_of (image_at new m) ≤ low_of (image_at new t) = elim (split (cell_at new t)) [
      | inr some ↦
          let a : low_of (image_at new t) ≡ head_in some.0 = ap (λ (c : Option (List ℕ)). option_map_or head_in c (length (image_at new t).recorded)) some.1 in
          let b : low_of (image_at new n) ≡ head_in some.0 = ap (λ (c : Option (List ℕ)). option_map_or head_in c (length (image_at new n).recorded)) (last n high (omega arith) ∙ some.1) in
          omega (arith, low_m, low_n, rises, a, b)
      | inl none ↦
          let a : low_of (image_at new t) ≡ length (image_at new t).recorded = ap (λ (c : Option (List ℕ)). option_map_or head_in c (length (image_at new t).recorded)) none in
          let few = low_few (image_at new m) at_m (new.whole m).synced in
          let more = (new.ascends m t (omega arith)).pages in
          omega (arith, a, few, more)
    ] in
    let floors : floor_of start new m ≤ floor_of start new t = floor_turns start new m t from (omega arith) first at_m lows in
    let s = moment start in
    let under : floor_of start new m ≤ low_of (image_at new m) = subst (λ (x : ℕ). floor_of start new m ≤ low_of (image_at new x)) (omega arith) (floor_low new s (m - s)) in
    record {
      floors = omega (arith, same, floors);
      old_only = λ addr there below.
          let at_n : IsInTree (image_at new n) addr = in_tree_later (image_at new t) (image_at new n) addr (new.ascends t n high) (last n high (omega arith)) there in
          let gone : IsInTree old.present addr = old_only_of old.present new.present addr forgets.succeeds (subst (λ (x : Image). IsInTree x addr) now at_n) (omega (arith, below, same, under, low_m)) in
          in_tree_later (image_at new m) (image_at new i) addr (new.ascends m i low) (to_i i low (omega arith)) (subst (λ (x : Image). IsInTree x addr) (sym was) gone);
    }

-- of two moments of a call
kept_in_call : (start old new : History) (i j : ℕ) → moment start ≤ moment old → Forgets old new → During old new IsSound → moment old ≤ i → i ≤ j → j ≤ moment new → IsKept start new i j
kept_in_call start old new i j from forgets sound low order high =
    let m = moment old in
    let n = moment new in
    let turns = forgets.turns in
    let early : (x : ℕ) → m ≤ x → x ≤ n → x < turns.turn → cell_at new x ≡ old.present.cell = turns.before in
    let late : (x : ℕ) → m ≤ x → x ≤ n → turns.turn ≤ x → cell_at new x ≡ new.present.cell = turns.after in
    elim (cases_lt j turns.turn) [
      | inl both ↦ kept_same start new i j (omega arith) order (λ x a b. early x (omega arith) (omega arith) (omega arith) ∙ sym (early i low (omega arith) (omega arith))) (sound.each i low (omega arith))
      | inr after ↦ elim (cases_lt i turns.turn) [
        | inr both ↦ kept_same start new i j (omega arith) order (λ x a b. late x (omega arith) (omega arith) (omega arith) ∙ sym (late i low (omega arith) both)) (sound.each i low (omega arith))
        | inl before ↦
            kept_trans start new i turns.turn j
            (kept_turn start old new i turns.turn from forgets sound low before (omega arith)
            (λ x a b. early x a (omega arith) (omega arith) ∙ sym (early m (omega arith) (omega arith) (omega arith)))
            (λ x a b. late x (omega arith) b a ∙ sym (late turns.turn (omega arith) (omega arith) (omega arith))))
            (kept_same start new turns.turn j (omega arith) after (λ x a b. late x (omega arith) (omega arith) a ∙ sym (late turns.turn (omega arith) (omega arith) (omega arith))) (sound.each turns.turn (omega arith) (omega arith)))
      ]
    ]

-- ---- a run

-- of two moments before the call
kept_before : (start old new : History) (i j : ℕ) → KeepsDeleted start old → Extends old new → moment start ≤ i → i ≤ j → j ≤ moment old → IsKept start new i j
kept_before start old new i j deleted extends from order to =
    let s = moment start in
    let floor : (x : ℕ) → s ≤ x → x ≤ moment old → floor_of start new x ≡ floor_of start old x
    = λ x low high. floor_same new old s (x - s) (λ y within. extends.same (s + y) (omega arith)) in
    let floor_i = floor i from (omega arith) in
    let floor_j = floor j (omega arith) to in
    let rises = deleted.floors i j from order to in
    record {
      floors = omega (arith, floor_i, floor_j, rises);
      old_only = λ addr there below.
          subst (λ (x : Image). IsInTree x addr) (sym (extends.same i (omega arith)))
          (deleted.kept i j from order to addr (subst (λ (x : Image). IsInTree x addr) (extends.same j to) there) (omega (arith, below, floor_i)));
    }

-- nothing has happened yet
pub deleted_start : (history : History) → IsSound history.present → KeepsDeleted history history
deleted_start history sound =
    let all : (i j : ℕ) → moment history ≤ i → i ≤ j → j ≤ moment history → IsKept history history i j
    = λ i j from order to.
    let same : (x : ℕ) → i ≤ x → x ≤ j → cell_at history x ≡ cell_at history i = λ x a b. ap (λ (y : ℕ). cell_at history y) (omega arith) in
    kept_same history history i j from order same (subst IsSound (sym (image_at-now history i from)) sound) in
    record {
      extends = Extends-refl history;
      floors = λ i j from order to. (all i j from order to).floors;
      kept = λ i j from order to addr there below. (all i j from order to).old_only addr there below;
    }

-- one call more
pub deleted_more : (start old new : History) → KeepsDeleted start old → Forgets old new → KeepsDeleted start new
deleted_more start old new deleted forgets =
    let sound = forgets.sound in
    let m = moment old in
    let from = deleted.extends.later in
    let extends = forgets.turns.extends in
    let all : (i j : ℕ) → moment start ≤ i → i ≤ j → j ≤ moment new → IsKept start new i j
    = λ i j low order high. elim (cases_lt m j) [
      | inr both ↦ kept_before start old new i j deleted extends low order both
      | inl after ↦ elim (cases_lt i m) [
        | inr both ↦ kept_in_call start old new i j from forgets sound both order high
        | inl before ↦ kept_trans start new i m j (kept_before start old new i m deleted extends low (omega arith) (omega arith)) (kept_in_call start old new m j from forgets sound (omega arith) (omega arith) high)
      ]
    ] in
    record {
      extends = Extends-trans start old new deleted.extends extends;
      floors = λ i j low order high. (all i j low order high).floors;
      kept = λ i j low order high addr there below. (all i j low order high).old_only addr there below;
    }

-- what is reached is in the tree, and so what was deleted is reached no more
pub never_reached : (old new : History) → KeepsDeleted old new → During old new ReachesTree → NeverReached old new
never_reached old new deleted reaches = record {
  extends = deleted.extends;
  floors = deleted.floors;
  kept = λ i j from order to addr reached below.
      let tree = reaches.each j (omega arith) to reached.root reached.is in
      deleted.kept i j from order to addr (record { root = reached.root; parts = tree.0; is = reached.is; tree = tree.1; has = (tree.2 addr).0 reached.reached }) below;
}

-- ---- what a call forgets

low_later : (image later : Image) → length image.recorded ≤ length later.recorded → later.cell ≡ image.cell → low_of image ≤ low_of later
low_later image later more same = elim (split image.cell) [
  | inl none ↦
      let a : low_of image ≡ length image.recorded = ap (λ (c : Option (List ℕ)). option_map_or head_in c (length image.recorded)) none in
      let b : low_of later ≡ length later.recorded = ap (λ (c : Option (List ℕ)). option_map_or head_in c (length later.recorded)) (same ∙ none) in
      omega (arith, a, b)
  | inr some ↦
      let a : low_of image ≡ head_in some.0 = ap (λ (c : Option (List ℕ)). option_map_or head_in c (length image.recorded)) some.1 in
      let b : low_of later ≡ head_in some.0 = ap (λ (c : Option (List ℕ)). option_map_or head_in c (length later.recorded)) (same ∙ some.1) in
      omega (arith, a, b)
]

-- calls that leave the cell
still_sound : (old new : History) → IsSound old.present → During old new (λ image. image.cell ≡ old.present.cell) → During old new IsSound
still_sound old new sound during = record {
  extends = during.extends;
  each = λ i from to. (sound.0, stands_later old.present (image_at new i) sound.0 (Extends-since old new i during.extends from) (during.each i from to) sound.1);
}

pub forgets_still : (old new : History) → IsSound old.present → During old new (λ image. image.cell ≡ old.present.cell) → Forgets old new
forgets_still old new sound during =
    let now = During-now old new (λ image. image.cell ≡ old.present.cell) during in
    let earlier = Extends-earlier old new during.extends in
    record {
      sound = still_sound old new sound during;
      turns = Turns-not old new (λ image. image.cell ≡ old.present.cell) (λ image. image.cell ≡ new.present.cell) during;
      succeeds = record {
        rises = low_later old.present new.present earlier.pages now;
        kept = λ place there below. place_before old.present new.present place sound earlier now there;
        root = λ root is. inl (root_kept new.present old.present root (sym now) is);
      };
    }

-- calls that leave the cell until it is that of another image
pub forgets_published : (old new : History) (X : Image) → IsSound old.present → IsSound X → Turns old new (λ image. image.cell ≡ old.present.cell) (λ image. image ≡ X) → Succeeds old.present X → Forgets old new
forgets_published old new X sound next turns succeeds = elim (Turns-cases old new (λ image. image.cell ≡ old.present.cell) (λ image. image ≡ X) turns) [
  | inl still ↦ forgets_still old new sound still
  | inr is ↦ record {
    sound = record {
      extends = turns.extends;
      each = λ i from to. elim (cases_lt i turns.turn) [
        | inl early ↦ (sound.0, stands_later old.present (image_at new i) sound.0 (Extends-since old new i turns.extends from) (turns.before i from to early) sound.1)
        | inr late ↦ subst IsSound (sym (turns.after i from to late)) next
      ];
    };
    turns = Turns-weaker old new (λ image. image.cell ≡ old.present.cell) (λ image. image ≡ X) (λ image. image.cell ≡ old.present.cell) (λ image. image.cell ≡ new.present.cell)
        (λ image same. same) (λ image same. ap (λ (i : Image). i.cell) same ∙ ap (λ (i : Image). i.cell) (sym is)) turns;
    succeeds = subst (Succeeds old.present) (sym is) succeeds;
  }
]

-- an image without a root record has no tree
pub no_tree : (image : Image) (addr : ℕ) → image.cell ≡ None → IsInTree image addr → ⊥
no_tree image addr none is = let no : None ≡ Some (root_bytes is.root) = sym none ∙ is.is.cell in cc

-- the tree of an image that stands is the one that it stands by
pub tree_of_stands : (image : Image) (device : Device) (root : Root) (parts : Parts) (addr : ℕ) → StandsBy image device root parts → IsInTree image addr → Contains (addresses_of (links_of parts.places)) addr
tree_of_stands image device root parts addr stands is =
    let roots : root ≡ is.root = one_root_in image image root is.root refl (root_of_stands image device root parts stands) is.is in
    let tree : Tree image.readable is.root parts = subst (λ (r : Root). Tree image.readable r parts) roots stands.tree in
    subst (λ (p : Parts). Contains (addresses_of (links_of p.places)) addr) (one_tree image.readable is.root is.parts parts is.is.in_range is.tree tree) is.has

-- ---- one run after another

pub floor_first : (old new : History) → floor_of old new (moment old) ≡ low_of (image_at new (moment old))
floor_first old new = let none : moment old - moment old ≡ 0 = omega arith in ap (F new (moment old)) none

-- a floor is no higher than the low of its moment
pub floor_below : (old new : History) (i : ℕ) → moment old ≤ i → floor_of old new i ≤ low_of (image_at new i)
floor_below old new i from = subst (λ (x : ℕ). floor_of old new i ≤ low_of (image_at new x)) (omega arith) (floor_low new (moment old) (i - moment old))

-- the floor by an earlier start is that by a later one, or the cell has been empty since then
record IsEmptySince (start mid new : History) (x : ℕ) : Type 0 where
  empty : (y : ℕ) → moment mid ≤ y → y ≤ x → cell_at new y ≡ None
  floor : floor_of start new x ≡ floor_of start new (moment mid)

floor_starts : (start mid new : History) (k : ℕ) → moment start ≤ moment mid → (floor_of start new (moment mid + k) ≡ floor_of mid new (moment mid + k)) ⊎ IsEmptySince start mid new (moment mid + k)
floor_starts start mid new zero from =
    let m = moment mid in
    let s = moment start in
    let at : m + 0 ≡ m = omega arith in
    elim (split (cell_at new m)) [
      | inl none ↦ inr record {
        empty = λ y low high. ap (cell_at new) (omega arith) ∙ none;
        floor = ap (floor_of start new) at;
      }
      | inr some ↦
          let here : s + (m + 0 - s) ≡ m = omega arith in
          let there : m + (m + 0 - m) ≡ m = omega arith in
          inl (floor_some new s (m + 0 - s) some.0 (ap (cell_at new) here ∙ some.1) ∙ sym (floor_some new m (m + 0 - m) some.0 (ap (cell_at new) there ∙ some.1)))
    ]
floor_starts start mid new (suc k) from =
    let m = moment mid in
    let s = moment start in
    let x = m + k in
    let is : m + suc k ≡ suc x = omega arith in
    let one : m + suc k - s ≡ suc (x - s) = omega arith in
    let two : m + suc k - m ≡ suc (x - m) = omega arith in
    let at_one : s + suc (x - s) ≡ m + suc k = omega arith in
    let at_two : m + suc (x - m) ≡ m + suc k = omega arith in
    let was_one : s + (x - s) ≡ x = omega arith in
    let was_two : m + (x - m) ≡ x = omega arith in
    elim (split (cell_at new (m + suc k))) [
      | inr some ↦ inl (
          ap (F new s) one ∙ (floor_some new s (suc (x - s)) some.0 (ap (cell_at new) at_one ∙ some.1)
          ∙ (sym (floor_some new m (suc (x - m)) some.0 (ap (cell_at new) at_two ∙ some.1)) ∙ ap (F new m) (sym two))))
      | inl none ↦
          let a = floor_none new s (x - s) (ap (cell_at new) at_one ∙ none) in
          let b = floor_none new m (x - m) (ap (cell_at new) at_two ∙ none) in
          elim (split (cell_at new x)) [
            | inr some ↦
                let c = a ∙ ap (λ (c : Option (List ℕ)). if is_some c then length (image_at new (s + suc (x - s))).recorded else F new s (x - s)) (ap (cell_at new) was_one ∙ some.1) in
                let d = b ∙ ap (λ (c : Option (List ℕ)). if is_some c then length (image_at new (m + suc (x - m))).recorded else F new m (x - m)) (ap (cell_at new) was_two ∙ some.1) in
                inl (ap (F new s) one ∙ (c ∙ (ap (λ (y : ℕ). length (image_at new y).recorded) (at_one ∙ sym at_two) ∙ (sym d ∙ ap (F new m) (sym two)))))
            | inl none' ↦
                let c = ap (F new s) one ∙ (a ∙ ap (λ (c : Option (List ℕ)). if is_some c then length (image_at new (s + suc (x - s))).recorded else F new s (x - s)) (ap (cell_at new) was_one ∙ none')) in
                let d = ap (F new m) two ∙ (b ∙ ap (λ (c : Option (List ℕ)). if is_some c then length (image_at new (m + suc (x - m))).recorded else F new m (x - m)) (ap (cell_at new) was_two ∙ none')) in
                elim (floor_starts start mid new k from) [
                  | inl same ↦ inl (c ∙ (same ∙ sym d))
                  | inr since ↦ inr record {
                    empty = λ y low high. elim (cases_lt y (m + suc k)) [
                      | inl before ↦ since.empty y low (omega arith)
                      | inr at ↦ ap (cell_at new) (omega arith) ∙ none
                    ];
                    floor = c ∙ since.floor;
                  }
                ]
          ]
    ]

floor_start : (start mid new : History) (x : ℕ) → moment start ≤ moment mid → moment mid ≤ x → (floor_of start new x ≡ floor_of mid new x) ⊎ IsEmptySince start mid new x
floor_start start mid new x from low =
    subst (λ (y : ℕ). (floor_of start new y ≡ floor_of mid new y) ⊎ IsEmptySince start mid new y) (omega arith) (floor_starts start mid new (x - moment mid) from)

-- a floor by an earlier start is no higher
floor_lower : (start mid new : History) (x : ℕ) → moment start ≤ moment mid → moment mid ≤ x → x ≤ moment new → KeepsDeleted mid new → floor_of start new x ≤ floor_of mid new x
floor_lower start mid new x from low high deleted = elim (floor_start start mid new x from low) [
  | inl same ↦ omega (arith, same)
  | inr since ↦
      let m = moment mid in
      let s = moment start in
      let a = since.floor in
      let b : floor_of start new m ≤ low_of (image_at new m) = subst (λ (y : ℕ). floor_of start new m ≤ low_of (image_at new y)) (omega arith) (floor_low new s (m - s)) in
      let c = floor_first mid new in
      let d = deleted.floors m x (omega arith) low high in
      omega (arith, a, b, c, d)
]

-- a run, and then another one
pub deleted_then : (start mid new : History) → KeepsDeleted start mid → KeepsDeleted mid new → KeepsDeleted start new
deleted_then start mid new one two =
    let m = moment mid in
    let s = moment start in
    let from = one.extends.later in
    let first : floor_of start new m ≤ floor_of mid new m = floor_lower start mid new m from (omega arith) two.extends.later two in
    let later : (i j : ℕ) → m ≤ i → i ≤ j → j ≤ moment new → IsKept start new i j
    = λ i j low order high.
    let lower = floor_lower start mid new i from low (omega arith) two in
    record {
      floors = elim (floor_start start mid new j from (omega arith)) [
        | inl same_j ↦ let rises = two.floors i j low order high in omega (arith, same_j, lower, rises)
        | inr since_j ↦
            let constant : floor_of start new i ≡ floor_of start new m = floor_between start new m i from low (λ x a b. since_j.empty x a (omega arith) ∙ sym (since_j.empty m (omega arith) (omega arith))) in
            let b = since_j.floor in
            omega (arith, constant, b)
      ];
      old_only = λ addr there below. two.kept i j low order high addr there (omega (arith, lower, below));
    } in
    let all : (i j : ℕ) → s ≤ i → i ≤ j → j ≤ moment new → IsKept start new i j
    = λ i j low order high. elim (cases_lt m j) [
      | inr both ↦ kept_before start mid new i j one two.extends low order both
      | inl after ↦ elim (cases_lt i m) [
        | inr both ↦ later i j both order high
        | inl before ↦ kept_trans start new i m j (kept_before start mid new i m one two.extends low (omega arith) (omega arith)) (later m j (omega arith) (omega arith) high)
      ]
    ] in
    record {
      extends = Extends-trans start mid new one.extends two.extends;
      floors = λ i j low order high. (all i j low order high).floors;
      kept = λ i j low order high addr there below. (all i j low order high).old_only addr there below;
    }

-- one call
pub deleted_call : (old new : History) → Forgets old new → KeepsDeleted old new
deleted_call old new forgets =
    let m = moment old in
    let was : image_at new m ≡ old.present = forgets.turns.extends.same m (omega arith) ∙ image_at-now old m (omega arith) in
    deleted_more old old new (deleted_start old (subst IsSound was (forgets.sound.each m (omega arith) forgets.sound.extends.later))) forgets

-- ---- what an earlier root record reaches

tree_reached : (keys longer : List (List ℕ)) (image later : Image) (device : Option Device) (root : Root) → Stands image device → Kept keys image → AreFirst image.recorded later.recorded → AreFirst later.recorded longer → HaveOwnKeys keys longer → Distinct keys → OneOpener keys longer → IsRootOf image root → (addr : ℕ) → Reached (bare root.key ∷ []) later.recorded addr ↔ IsInTree image addr
tree_reached keys longer image later None root stands kept first then' own distinct one is addr = absurd (let no : None ≡ Some (root_bytes root) = sym stands ∙ is.cell in cc)
tree_reached keys longer image later (Some device) root (root', parts, stands) kept first then' own distinct one is addr =
    let here = root_of_stands image device root' parts stands in
    let roots : root' ≡ root = one_root_in image image root' root refl here is in
    let known = (kept.cell root' here).places parts stands.tree in
    let listed : AreListed keys (links_of parts.places) = All-map (λ (l : Link). Contains keys l.key) (λ (p : Place). link p.addr (bare p.key)) parts.places known in
    let law : ReachesExactly (bare root'.key ∷ []) later.recorded (links_of parts.places)
    = earlier_map keys image.recorded later.recorded longer (bare root'.key ∷ []) (links_of parts.places)
    (tree_closed image.recorded root' parts (recorded_tree image device root' parts stands)) listed first then' own distinct one in
    let exact : ReachesExactly (bare root.key ∷ []) later.recorded (links_of parts.places) = subst (λ (r : Root). ReachesExactly (bare r.key ∷ []) later.recorded (links_of parts.places)) roots law in (
      λ reached. record { root = root'; parts = parts; is = here; tree = stands.tree; has = (exact addr).0 reached },
      λ there. (exact addr).1 (tree_of_stands image device root' parts addr stands there),
    )

pub reaches_still : (keys : List (List ℕ)) (old new : History) → During old new (λ image. (device : Option Device) × LeavesOnly (λ left. Stands left device) image) → During old new (Kept keys) → Distinct keys → OneOpener keys new.present.recorded → ReachesStill old new
reaches_still keys old new stands kept distinct one i j from order to root is addr =
    let at = stands.each i from (omega arith) in
    let last : Kept keys new.present = During-now old new (Kept keys) kept in
    tree_reached keys new.present.recorded (image_at new i) (image_at new j) at.0 root (at.1 (image_at new i) (may_leave_itself new i)) (kept.each i from (omega arith))
    (new.ascends i j order).recorded (earlier-now new j to).recorded last.pages distinct one is addr

-- an image without a root record succeeds each one with as many pages at most
pub succeeds_none : (old new : Image) → new.cell ≡ None → low_of old ≤ low_of new → Succeeds old new
succeeds_none old new none rises = record {
  rises = rises;
  kept = λ place there below. absurd (no_tree new place.addr none (place_in_tree new place there));
  root = λ root is. absurd (let no : None ≡ Some (root_bytes root) = sym none ∙ is.cell in cc);
}

-- a root record whose tree has, below the low of the image from before, only places of that image's tree, and not that of its root node: of any
-- number of levels
pub succeeds_tree : (old X : Image) (device : Device) (root : Root) (parts : Parts) → StandsBy X device root parts → low_of old ≤ root.addr → root.addr < root.head → root.head ≡ length X.recorded
    → All (λ p. HasPlace old p ⊎ (low_of old ≤ p.addr)) parts.places
    → ((former : Root) → IsRootOf old former → IsInTree X former.addr → ⊥) → Succeeds old X
succeeds_tree old X device root parts stands low within size newer gone = record {
  rises = let head = low_of_stands X device root parts stands in omega (arith, low, within, head);
  kept = λ place there below.
      elim (All-contains (λ (p : Place). HasPlace old p ⊎ (low_of old ≤ p.addr)) parts.places place newer (place_of_stands X device root parts place stands there)) [
        | inl was ↦ was
        | inr after ↦ absurd (omega (arith, below, after))
      ];
  root = λ other is. inr (subst (IsNewRoot old X) (one_root_in X X root other refl (root_of_stands X device root parts stands) is) (record { node = low; head = size; gone = gone }));
}
