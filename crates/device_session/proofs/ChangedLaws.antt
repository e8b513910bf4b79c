-- Over changed pages a read finds what the standing image has, or meets a page of the same digest as the recorded one.
use Rattle.std.proofs.Common.{◌≡◌, ◌⊎◌, inl, inr, ℕ, zero, suc, ◌-◌, ◌<◌, ◌^◌, List, [], ◌∷◌, ◌++◌, Option, None, Some, length, refl, sym, ap, subst, ◌∙◌, arith, append-nil}
use Rattle.std.specs.Prelude.{slice_get}
use Rattle.std.specs.List.{AllByRecursion}
use Rattle.std.proofs.lemmas.List.Elements.{All-contains, All-from_recursion, recursion_from_All}
use Rattle.sdbt_base.specs.Arrays.{Device, content_of}
use Rattle.sdbt_base.specs.Keys.{key_size, version_of}
use Rattle.sdbt_base.proofs.KeyLaws.{version_with}
use Rattle.platform.specs.Image.{Image}
use Rattle.node_codec.specs.declared.body.Entry.{Entry}
use Rattle.node_codec.specs.Record.{Record, DataRecord, NodeRecord}
use Rattle.root_codec.specs.declared.root.Root.{Root}
use Rattle.page_store.specs.declared.wants.Want.{Want}
use Rattle.page_store.specs.Places.{IsRecordAt, FitsAt, child_want, root_want}
use Rattle.page_store.specs.Tree.{Parts, Place, Mapped, Subtree, EachChild, joined, bound_of}
use Rattle.page_store.specs.Stands.{StandsBy}
use Rattle.page_store.specs.Kept.{IsRootOf}
use Rattle.page_store.specs.Changing.{IsChangeOf, Collides}
use Rattle.page_store.proofs.KeptLaws.{one_root_in, root_of_stands}
use Rattle.page_store.proofs.ChangeLaws.{same_value}
use Rattle.btree_walk.specs.Finds.{Finds, Stops}
use Rattle.btree_walk.specs.Mapped.{mapped_as, IsMappedAs}
use Rattle.btree_walk.proofs.WayLaws.{way_entry}
use Rattle.btree_walk.proofs.MappedLaws.{found_is_mapped}
use Rattle.btree_twigs.specs.declared.twigs.Child.{out-Child}
use Rattle.btree_twigs.specs.declared.twigs.Child.TheOpen.{Kept}
use Rattle.btree_twigs.specs.declared.twigs.Child.TheVariants as made
use Rattle.btree_update.specs.declared.groves.Grove.{Grove}
use Rattle.btree_update.specs.Finding.{GroveFinds, RootFindsBy, FindsBelow}
use Rattle.btree_update.specs.GroveTree.{top_want}
use Rattle.btree_update.proofs.AscendLaws.{Ascends, grove_up}
use Rattle.btree_update.proofs.GroveLaws.{above_it}
use Rattle.grove_accounts.specs.Holding.{IsTreeOf}
use Rattle.grove_accounts.proofs.HoldingLaws.{tree_has}
use Rattle.grove_accounts.proofs.ListLaws.{each_left, each_right, each_append}
use Rattle.device_session.specs.Sessions.{Session}
use Rattle.device_session.specs.Open.{IsOpen, IsTreeFor}
use Rattle.device_session.specs.Reading.{FindsContent, ReadsAs}
use Rattle.device_session.specs.Changed.{CollidesOnWay, IsChangedBelow}
use Rattle.device_session.proofs.ReadLaws.{content_none, content_some, grove_maps}

-- below an entry stands what is wanted there, and so it is of all its places
pub record StandsWith (Below : Want → List ℕ → Parts → Type 0) (R : Place → Type 0) (want : Want) (key : List ℕ) : Type 0 where
  pub parts : Parts
  pub stands : Below want key parts
  pub places : AllByRecursion R parts.places

child_with : (Below : Want → List ℕ → Parts → Type 0) (R : Place → Type 0) (order level high : ℕ) (before after : List Entry) (entry : Entry) (children : List Parts) → EachChild Below order level high (before ++ entry ∷ after) children →
    AllByRecursion R (joined children).places → StandsWith Below R (child_want order level entry (bound_of after high)) entry.key
child_with Below R order level high [] after entry [] each all = absurd each
child_with Below R order level high [] after entry (p ∷ ps) each all = record { parts = p; stands = each.0; places = each_left R p.places (joined ps).places all }
child_with Below R order level high (e ∷ before) after entry [] each all = absurd each
child_with Below R order level high (e ∷ before) after entry (p ∷ ps) each all = child_with Below R order level high before after entry ps each.1 (each_right R p.places (joined ps).places all)

-- the keys of a node's entries have digests where its own key has one
long_keys : (addr level : ℕ) (key : List ℕ) (entries : List Entry) (pages : List (List ℕ)) → length key ≡ 64 → IsRecordAt pages addr key (NodeRecord level entries) → AllByRecursion (λ (e : Entry). length e.key ≡ 64) entries
long_keys addr level key entries pages long is =
    subst (λ n. AllByRecursion (λ (e : Entry). length e.key ≡ n) entries) (ap key_size (version_with key long)) (recursion_from_All (λ (e : Entry). length e.key ≡ key_size (version_of key)) entries is.in_range.0.sized)

module _ (image changed : Image) (change : IsChangeOf image changed) (order block : ℕ) where
  -- the page of a place reads as it was recorded
  abbrev pub IsKept : Place → Type 0
  IsKept p = (slice_get image.readable p.addr ≡ slice_get image.recorded p.addr) × (p.addr < 2 ^ 64)

  -- the same of a mapped block's, whose key has a digest
  abbrev pub IsKeptRecord : Mapped → Type 0
  IsKeptRecord m = (length m.key ≡ 64) × (slice_get image.readable m.addr ≡ slice_get image.recorded m.addr) × (m.addr < 2 ^ 64) × IsRecordAt image.readable m.addr m.key (DataRecord m.block m.content)

  -- from a node on the way comes to a collision
  abbrev pub Meets : ℕ → Want → List ℕ → Type 0
  Meets level want key = (addr : ℕ) × Stops (FitsAt image.readable) order block (λ want key. Unit {0}) addr level want key × Collides changed addr

  one_place : (addr : ℕ) (key : List ℕ) (value other : Record) → length key ≡ 64 → (slice_get image.readable addr ≡ slice_get image.recorded addr) → addr < 2 ^ 64 → IsRecordAt image.readable addr key value → IsRecordAt changed.readable addr key other →
      (other ≡ value) ⊎ Collides changed addr
  one_place addr key value other long recorded small before after = same_value image changed addr key value other small (record { change = change; long = long; recorded = recorded; before = before; after = after })

  -- what is found over the changed pages is found over the image, or the way meets a collision
  way_same : (level : ℕ) (want : Want) (key path : List ℕ) (parts : Parts) (found : Option Entry) → length key ≡ 64 → Subtree image.readable order (suc level) want key parts → AllByRecursion IsKept parts.places →
      Finds (FitsAt changed.readable) order block found level want key path → Finds (FitsAt image.readable) order block found level want key path ⊎ Meets level want key
  unfolding Subtree Finds Stops
  way_same zero want key path parts found long tree kept is =
      let places = subst (λ (p : Parts). AllByRecursion IsKept p.places) tree.has kept in
      elim (one_place want.addr key (NodeRecord 1 tree.entries) (NodeRecord 1 is.entries) long places.0.0 places.0.1 tree.fits.0 is.fits.0) [
        | inl value ↦
            let entries : is.entries ≡ tree.entries = cc in
            inl (record { entries = is.entries; fits = subst (λ es. FitsAt image.readable want key (NodeRecord 1 es)) (sym entries) tree.fits; is = is.is; path_is = is.path_is })
        | inr collides ↦ inr (want.addr, record { here = refl; misfits = tt }, collides)
      ]
  way_same (suc level) want key path parts found long tree kept is =
      let places = subst (λ (p : Parts). AllByRecursion IsKept p.places) tree.has kept in
      elim (one_place want.addr key (NodeRecord (suc (suc level)) tree.entries) (NodeRecord (suc (suc level)) is.entries) long places.0.0 places.0.1 tree.fits.0 is.fits.0) [
        | inl value ↦
            let entries : is.entries ≡ tree.entries = cc in
            let fits = subst (λ es. FitsAt image.readable want key (NodeRecord (suc (suc level)) es)) (sym entries) tree.fits in
            let each = subst (λ (es : List Entry). EachChild (Subtree image.readable order (suc level)) order (suc level) want.high es tree.children) (sym entries ∙ is.way.split) tree.each in
            let child = child_with (Subtree image.readable order (suc level)) IsKept order (suc level) want.high is.way.before is.way.after is.entry tree.children each places.1 in
            let stands = subst (λ n. Subtree image.readable order (suc level) (child_want order (suc level) is.entry n) is.entry.key child.parts) (sym is.way.ends) child.stands in
            let key_long = way_entry (λ (e : Entry). length e.key ≡ 64) is.entries want.high block is.bound is.entry
            (All-from_recursion (λ (e : Entry). length e.key ≡ 64) is.entries (long_keys want.addr (suc (suc level)) key is.entries changed.readable long is.fits.0)) is.way in
            elim (way_same level (child_want order (suc level) is.entry is.bound) is.entry.key is.rest child.parts found key_long stands child.places is.goes) [
              | inl goes ↦ inl (record { entries = is.entries; fits = fits; entry = is.entry; bound = is.bound; way = is.way; rest = is.rest; goes = goes; path_is = is.path_is })
              | inr meets ↦ inr (meets.0, inr (record { entries = is.entries; fits = fits; entry = is.entry; bound = is.bound; way = is.way; stops = meets.1 }), meets.2)
            ]
        | inr collides ↦ inr (want.addr, inl (record { here = refl; misfits = tt }), collides)
      ]

  -- the data records of mapped blocks are kept, as their places are
  each_kept : (level high : ℕ) (es : List Entry) (ps : List Parts) → ((want : Want) (key : List ℕ) (parts : Parts) → length key ≡ 64 → Subtree image.readable order level want key parts → AllByRecursion IsKept parts.places → AllByRecursion IsKeptRecord parts.mapped) →
      AllByRecursion (λ (e : Entry). length e.key ≡ 64) es → EachChild (Subtree image.readable order level) order level high es ps → AllByRecursion IsKept (joined ps).places → AllByRecursion IsKeptRecord (joined ps).mapped
  each_kept level high [] [] below long each kept = tt
  each_kept level high [] (p ∷ ps) below long each kept = absurd each
  each_kept level high (e ∷ es) [] below long each kept = absurd each
  each_kept level high (e ∷ es) (p ∷ ps) below long each kept =
      each_append IsKeptRecord p.mapped (joined ps).mapped (below (child_want order level e (bound_of es high)) e.key p long.0 each.0 (each_left IsKept p.places (joined ps).places kept))
      (each_kept level high es ps below long.1 each.1 (each_right IsKept p.places (joined ps).places kept))

  mapped_kept : (level : ℕ) (want : Want) (key : List ℕ) (parts : Parts) → length key ≡ 64 → Subtree image.readable order level want key parts → AllByRecursion IsKept parts.places → AllByRecursion IsKeptRecord parts.mapped
  unfolding Subtree
  mapped_kept zero want key parts long is kept =
      let places = subst (λ (p : Parts). AllByRecursion IsKept p.places) is.has kept in
      subst (λ (p : Parts). AllByRecursion IsKeptRecord p.mapped) (sym is.has) ((long, places.0.0, places.0.1, is.fits.0), tt)
  mapped_kept (suc level) want key parts long is kept =
      let places = subst (λ (p : Parts). AllByRecursion IsKept p.places) is.has kept in
      subst (λ (p : Parts). AllByRecursion IsKeptRecord p.mapped) (sym is.has)
      (each_kept level want.high is.entries is.children (mapped_kept level) (long_keys want.addr (suc level) key is.entries image.readable long is.fits.0) is.each places.1)

-- what is wanted of the root of a tree without a change
pub wanted_root : (root : Root) (grove : Grove) → IsTreeOf root grove → top_want grove.order grove.blocks (suc (grove.level - 1)) root.addr ≡ root_want root
wanted_root root grove tree =
    let level : suc (grove.level - 1) ≡ root.level = sym (above_it grove.level tree.sound.one) ∙ tree.level in
    ap (λ n. top_want n grove.blocks (suc (grove.level - 1)) root.addr) tree.order ∙ (ap (λ n. top_want root.order n (suc (grove.level - 1)) root.addr) tree.blocks ∙ ap (λ n. top_want root.order root.blocks n root.addr) level)

-- what is found in the bare tree of a root record is found from its root
pub from_root : (pages : List (List ℕ)) (root : Root) (grove : Grove) (block : ℕ) (found : Option Entry) → IsTreeOf root grove → GroveFinds pages block grove found → FindsBelow (FitsAt pages) block (root_want root) root.key found
from_root pages root grove block found tree f =
    let out : out-Child grove.top ≡ Kept 0 root.addr root.key = ap out-Child tree.top ∙ made.outs-Kept 0 root.addr root.key in
    subst (λ w. FindsBelow (FitsAt pages) block w root.key found) (wanted_root root grove tree)
    (subst (λ x. RootFindsBy (FitsAt pages) grove.order block (grove.level - 1) grove.blocks x found) out f)

-- the root record that the session is on is the one that the image stands by
stands_by : (session : Session) (image changed : Image) (device : Device) (pages : ℕ) → IsOpen session pages → IsChangedBelow session image changed device → (parts : Parts) × StandsBy image device session.root parts
stands_by session image changed device pages o is =
    let here : IsRootOf image session.root = record { cell = is.cell; in_range = o.served.in_range; key = o.served.key } in
    let by = is.stands in
    let same : by.0 ≡ session.root = one_root_in image image by.0 session.root refl (root_of_stands image device by.0 by.1 by.2) here in
    (by.1, subst (λ (r : Root). StandsBy image device r by.1) same by.2)

-- what was found over the changed pages is the block's content, or there is a collision on its way
pub changed_read : (session : Session) (image changed : Image) (device : Device) (block pages : ℕ) (content : List ℕ) → IsOpen session pages → IsChangedBelow session image changed device → FindsContent changed.readable session.grove block content →
    (content ≡ content_of device.contents block) ⊎ CollidesOnWay image changed session.root block
changed_read session image changed device block pages content o is f =
    let root = session.root in
    let tree = subst (λ t. IsTreeFor t root session.grove) is.untouched o.tree in
    let stood = stands_by session image changed device pages o is in
    let parts = stood.0 in
    let by = stood.1 in
    let Kept' : Place → Type 0 = IsKept image changed is.change root.order block in
    let long : length root.key ≡ 64 = by.key.0 ∙ ap key_size (by.version ∙ is.version) in
    let sub = subst (λ n. Subtree image.readable root.order n (root_want root) root.key parts) (above_it root.level by.in_range.level_least) by.tree in
    let kept : AllByRecursion Kept' parts.places = recursion_from_All Kept' parts.places (λ k d inside. (by.recorded k d inside, (let less = by.below k d inside in let most = by.in_range.head in omega (arith, less, most)))) in
    let way = from_root changed.readable root session.grove block f.found tree f.finds in
    elim (way_same image changed is.change root.order block (root.level - 1) (root_want root) root.key way.0 parts f.found long sub kept way.1) [
      | inl finds ↦
          let mapped = found_is_mapped image.readable root.order (root.level - 1) block (root_want root) root.key way.0 parts f.found (let addr = by.in_range.addr in let most = by.in_range.head in omega (arith, addr, most)) sub finds in
          told parts by tree (mapped_kept image changed is.change root.order block (suc (root.level - 1)) (root_want root) root.key parts long sub kept) f.found way.0 finds mapped f.reads
      | inr meets ↦ inr (record { addr = meets.0; on_way = inl meets.1; collides = meets.2 })
    ]
  where
    told : (parts : Parts) → StandsBy image device session.root parts → IsTreeOf session.root session.grove → AllByRecursion (IsKeptRecord image changed is.change session.root.order block) parts.mapped → (found : Option Entry) (path : List ℕ) →
        Finds (FitsAt image.readable) session.root.order block found (session.root.level - 1) (root_want session.root) session.root.key path → IsMappedAs parts.mapped block found → ReadsAs changed.readable block found content →
        (content ≡ content_of device.contents block) ⊎ CollidesOnWay image changed session.root block
    told parts by tree kept None path finds mapped reads = inl (reads ∙ sym (content_none parts.mapped device.contents block by.contents mapped))
    told parts by tree kept (Some entry) path finds mapped reads =
        let Record' : Mapped → Type 0 = IsKeptRecord image changed is.change session.root.order block in
        let there = All-contains Record' parts.mapped (mapped_as entry mapped.1.0) (All-from_recursion Record' parts.mapped kept) mapped.1.1 in
        let up = subst (Ascends 0) (append-nil parts.mapped) (grove_up image.readable session.grove (joined (parts ∷ [])).mapped tree.sound
        (grove_maps image.readable session.grove (parts ∷ []) tree.sound (tree_has image.readable session.root session.grove parts tree by.tree))) in
        elim (one_place image changed is.change session.root.order block entry.addr entry.key (DataRecord entry.low mapped.1.0) (DataRecord block content) there.0 there.1 there.2 there.3 reads.0) [
          | inl value ↦ (let same : content ≡ mapped.1.0 = cc in inl (same ∙ sym (content_some 0 parts.mapped device.contents block entry mapped.1.0 up by.contents mapped.0 mapped.1.1)))
          | inr collides ↦ inr (record { addr = entry.addr; on_way = inr (entry, path, finds, refl); collides = collides })
        ]
