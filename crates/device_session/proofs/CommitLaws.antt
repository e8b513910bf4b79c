-- What a commit makes of a device, whether its last step was taken or failed.
use Rattle.std.proofs.Common.{◌≡◌, ◌≢◌, ◌⊎◌, inl, inr, ℕ, suc, ◌+◌, ◌-◌, ◌≤◌, true, List, [], ◌∷◌, ◌++◌, All, map, length, Some, refl, sym, ap, subst, ◌∙◌, arith}
use Rattle.std.specs.Prelude.{Contains, Option}
use Rattle.std.proofs.lemmas.List.{map-append}
use Rattle.std.proofs.lemmas.List.Elements.{All-weaker, All-append, All-contains, All-from_recursion, Contains-append_left, Contains-append_cases}
use Rattle.std.proofs.lemmas.List.Sorted.{All-permutation, Contains-permutation, IsPermutation-sym}
use Rattle.sdbt_base.specs.Arrays.{Device, Blocks, committed_with}
use Rattle.sdbt_base.specs.Keys.{bare}
use Rattle.platform.specs.Image.{Image, LeavesOnly, with_cell}
use Rattle.platform.specs.History.{History, Turns, CellStays}
use Rattle.platform.proofs.Moments.{During-now, Extends-earlier}
use Rattle.root_codec.specs.declared.root.Root.{Root}
use Rattle.root_codec.specs.RootRecord.{root_bytes}
use Rattle.page_store.specs.Roots.{IsRootWithin}
use Rattle.page_store.specs.Tree.{Parts, Place, joined}
use Rattle.page_store.specs.Stands.{StandsBy, Stands, IsSound}
use Rattle.page_store.specs.Keeping.{KeepsKeys}
use Rattle.page_store.specs.Floors.{HasPlace, low_of, Forgets}
use Rattle.page_store.proofs.StandsLaws.{stands_later}
use Rattle.page_store.proofs.KeptLaws.{one_root_in, root_of_stands}
use Rattle.page_store.proofs.KeepingLaws.{IsPublished, keeps_then, keeps_published}
use Rattle.page_store.proofs.FloorLaws.{low_of_stands, place_at, place_of_stands, succeeds_tree, forgets_published}
use Rattle.btree_twigs.specs.declared.twigs.Child.{Child, Child-F, out-Child}
use Rattle.btree_twigs.specs.declared.twigs.Child.TheOpen.{Kept as KeptChild, Grown}
use Rattle.btree_twigs.specs.declared.twigs.Twig.{Twig}
use Rattle.btree_twigs.specs.Top.{IsTop, IsTopBy}
use Rattle.node_codec.specs.declared.body.Entry.{Entry}
use Rattle.node_cache.specs.Cached.{Cached}
use Rattle.btree_update.specs.Groves.{places_of}
use Rattle.btree_update.proofs.GroveLaws.{above_it}
use Rattle.grove_accounts.specs.Accounts.{IsOwn, HasAddress, LacksAddress}
use Rattle.shadow_commit.specs.Sealed.{Sealed, Seals, SealsIn}
use Rattle.shadow_commit.specs.NewTree.{place_of}
use Rattle.shadow_commit.specs.Handing.{KnowsPlaces}
use Rattle.shadow_commit.specs.Ready.{Stand, StandsWith, IsReady, ListsNewTree, device_with}
use Rattle.shadow_commit.specs.declared.prepared.Prepared.{Prepared}
use Rattle.shadow_commit.proofs.ApartLaws.{IsWithin, fresh_within}
use Rattle.shadow_commit.proofs.CommitLaws.{stands_changed}
use Rattle.device_session.specs.Sessions.{Session}
use Rattle.device_session.specs.Open.{IsOpen, IsChangedTree, IsTreeFor}
use Rattle.device_session.specs.Holds.{Holds}
use Rattle.device_session.specs.Keys.{HoldsListed}
use Rattle.device_terms.proofs.MomentLaws.{then_published}
use Rattle.device_terms.proofs.StandingLaws.{turns_stands}
use Rattle.device_session.proofs.KeyLaws.{keeps_by, parts_listed, places_listed}

-- ---- moments

-- what a held image stands for
pub held_stands : (session : Session) (image : Image) (device : Device) (contents : Blocks) → Holds session image device contents → Stands image (Some device)
held_stands session image device contents h = (session.root, h.committed, h.stands)

pub listed_sound : (session : Session) (image : Image) (keys : List (List ℕ)) → HoldsListed session image keys → IsSound image
listed_sound session image keys h = (Some h.device, held_stands session image h.device h.contents h.holds)

-- ---- the last of the nodes that are sealed

-- the root node comes last, under the key that was drawn last
pub record IsSealedLast (first : ℕ) (ns : List Sealed) (e : Entry) : Type 0 where
  pub from : first ≤ e.addr
  pub earlier : List (List ℕ)
  pub keys : map (λ (n : Sealed). bare n.key) ns ≡ earlier ++ bare e.key ∷ []

top_sealed : (version order below first high : ℕ) (c : Child) (ns : List Sealed) (e : Entry) → IsTop order below high c → Seals version (suc below) first c ns e → IsSealedLast first ns e
unfolding Seals
top_sealed version order below first high c ns e top h = here (out-Child c) top h
  where
    here : (x : Child-F Child Twig) → IsTopBy order below high x → SealsIn version (Seals version below) below first x ns e → IsSealedLast first ns e
    here (KeptChild low addr key) is s = absurd is
    here (Grown low twig) is s = record {
      from = omega (arith, s.node.addr_is);
      earlier = map (λ (n : Sealed). bare n.key) s.node.below;
      keys = ap (map (λ (n : Sealed). bare n.key)) s.node.is ∙ map-append (λ (n : Sealed). bare n.key) s.node.below (record { addr = e.addr; key = e.key; level = suc below; entries = s.node.entries } ∷ []);
    }

-- ---- a commit up to its root record

-- a session that is open and was changed, whose tree was sealed: all but the root record was done
pub record IsReadied (tells : Type 0) (old mid : History) (drawn drawn_now : Option (List (List ℕ))) (session : Session) (pages now : ℕ) (prepared : Prepared) : Type 0 where
  pub is_open : IsOpen session pages
  pub touched : session.is_touched ≡ true
  pub counts : tells → length old.present.recorded ≡ pages
  pub counts_now : tells → length mid.present.recorded ≡ now
  pub cache : Cached
  pub ready : IsReady tells old.present mid.present pages now drawn drawn_now session.cache cache session.root session.mapped session.grove prepared
  pub cell : tells → CellStays old mid

-- the session's tree was changed
pub changed : (session : Session) (pages : ℕ) → IsOpen session pages → session.is_touched ≡ true → IsChangedTree session.root session.grove
changed session pages opened touched = subst (λ t. IsTreeFor t session.root session.grove) touched opened.tree

pub last_sealed : (tells : Type 0) (old mid : History) (drawn drawn_now : Option (List (List ℕ))) (session : Session) (pages now : ℕ) (prepared : Prepared) → (r : IsReadied tells old mid drawn drawn_now session pages now prepared) →
    IsSealedLast pages r.ready.is.adds.nodes (record { low = 0; addr = prepared.root.addr; key = prepared.root.key })
last_sealed tells old mid drawn drawn_now session pages now prepared r =
    let tree = changed session pages r.is_open r.touched in
    let grove = session.grove in
    let e : Entry = record { low = 0; addr = prepared.root.addr; key = prepared.root.key } in
    top_sealed session.root.version grove.order (grove.level - 1) pages grove.blocks grove.top r.ready.is.adds.nodes e tree.top
    (subst (λ n. Seals session.root.version n pages grove.top r.ready.is.adds.nodes e) (above_it grove.level tree.sound.one) r.ready.is.adds.is)

-- the new root record can be served over the pages that there are now
pub next_within : (tells : Type 0) (old mid : History) (drawn drawn_now : Option (List (List ℕ))) (session : Session) (pages now : ℕ) (prepared : Prepared) → IsReadied tells old mid drawn drawn_now session pages now prepared → IsRootWithin now prepared.root
next_within tells old mid drawn drawn_now session pages now prepared r = record {
  in_range = r.ready.is.in_range;
  key = r.ready.is.next_is.key;
  within = omega (arith, r.ready.is.next_is.head_is);
}

-- what stands below the tree's places
stand : (session : Session) (pages : ℕ) (image : Image) (device : Device) (contents : Blocks) → IsOpen session pages → session.is_touched ≡ true → (h : Holds session image device contents) → Stand image session.root.order (places_of session.grove) h.each session.mapped
stand session pages image device contents opened touched h =
    subst (Stand image session.root.order (places_of session.grove) h.each) (sym h.count)
    (stands_changed image session.root h.committed.places session.grove h.each h.tree (changed session pages opened touched).top)

-- the image with the new root record, and its tree
abbrev pub with_next : History → Prepared → Image
with_next mid prepared = with_cell mid.present (Some (root_bytes prepared.root))

pub next_tree : (tells : Type 0) (old mid : History) (drawn drawn_now : Option (List (List ℕ))) (session : Session) (pages now : ℕ) (prepared : Prepared) (device : Device) (contents : Blocks) → (r : IsReadied tells old mid drawn drawn_now session pages now prepared) → tells →
    (h : Holds session old.present device contents) → StandsWith mid.present prepared.root r.ready.is.adds.nodes h.each
next_tree tells old mid drawn drawn_now session pages now prepared device contents r told h = r.ready.is.stands told h.each (stand session pages old.present device contents r.is_open r.touched h)

-- the device that it is
next_device : (device : Device) (contents : Blocks) (root next : Root) (each : List Parts) → (next.order ≡ root.order) → (next.blocks ≡ root.blocks) → next.commit ≡ root.commit + 1 → (next.version ≡ device.version) → (root.order ≡ device.order) → (root.blocks ≡ device.blocks) → root.commit ≡ device.number →
    contents ≡ (device_with next each).contents → device_with next each ≡ committed_with device contents
next_device device contents root next each order blocks commit version was_order was_blocks was_number are = λ i. record {
  version = version i;
  blocks = (blocks ∙ was_blocks) i;
  order = (order ∙ was_order) i;
  number = (commit ∙ ap (λ (n : ℕ). n + 1) was_number) i;
  contents = sym are i;
}

pub next_stands : (tells : Type 0) (old mid : History) (drawn drawn_now : Option (List (List ℕ))) (session : Session) (pages now : ℕ) (prepared : Prepared) (device : Device) (contents : Blocks) → (r : IsReadied tells old mid drawn drawn_now session pages now prepared) → (told : tells) →
    (h : Holds session old.present device contents) → StandsBy (with_next mid prepared) (committed_with device contents) prepared.root (next_tree tells old mid drawn drawn_now session pages now prepared device contents r told h).parts
next_stands tells old mid drawn drawn_now session pages now prepared device contents r told h =
    let with = next_tree tells old mid drawn drawn_now session pages now prepared device contents r told h in
    let next = r.ready.is.next_is in
    subst (λ (d : Device). StandsBy (with_next mid prepared) d prepared.root with.parts)
    (next_device device contents session.root prepared.root h.each next.order next.blocks next.commit (next.version ∙ h.stands.version) h.stands.order h.stands.blocks h.stands.number h.contents_are) with.stands

-- ---- a commit whose last step was taken or failed

-- the cell stays until it is the new root record
abbrev pub Publishes : History → History → Prepared → Type 0
Publishes mid new prepared = Turns mid new (λ image. image.cell ≡ mid.present.cell) (λ image. image ≡ with_next mid prepared)

-- at each moment a loss of power leaves the device, and then the new one
pub commit_turns : (tells : Type 0) (old mid new : History) (drawn drawn_now : Option (List (List ℕ))) (session : Session) (pages now : ℕ) (prepared : Prepared) (device : Device) (contents : Blocks) → IsReadied tells old mid drawn drawn_now session pages now prepared → tells →
    Publishes mid new prepared → Holds session old.present device contents → Turns old new (LeavesOnly (λ left. Stands left (Some device))) (LeavesOnly (λ left. Stands left (Some (committed_with device contents))))
commit_turns tells old mid new drawn drawn_now session pages now prepared device contents r told turns h =
    turns_stands old new (with_next mid prepared) (Some device) (Some (committed_with device contents)) (held_stands session old.present device contents h)
    (prepared.root, (next_tree tells old mid drawn drawn_now session pages now prepared device contents r told h).parts, next_stands tells old mid drawn drawn_now session pages now prepared device contents r told h)
    (then_published old mid new (with_next mid prepared) (r.cell told) turns)

-- ---- its keys

-- the session had an array
pub record HadArray (session : Session) (image : Image) : Type 0 where
  pub device : Device
  pub contents : Blocks
  pub holds : Holds session image device contents

-- what was sealed keeps the keys, and lists those of the new tree
abbrev pub KeepsSealed : Type 0 → Option (List (List ℕ)) → Option (List (List ℕ)) → History → History → Session → Prepared → Type 0
KeepsSealed tells drawn drawn_now old mid session prepared =
    KeepsKeys tells drawn drawn_now old mid (KnowsPlaces old.present (places_of session.grove))
    (ListsNewTree old.present mid.present session.root.order (places_of session.grove) session.mapped prepared.root)

more_listed : (keys more : List (List ℕ)) (ps : List Place) → All (λ p. Contains keys (bare p.key)) ps → All (λ p. Contains (keys ++ more) (bare p.key)) ps
more_listed keys more ps h = All-weaker (λ (p : Place). Contains keys (bare p.key)) (λ (p : Place). Contains (keys ++ more) (bare p.key)) (λ p has. Contains-append_left keys more (bare p.key) has) ps h

sealed_keys : (tells : Type 0) (old mid : History) (drawn drawn_now : Option (List (List ℕ))) (session : Session) (pages now : ℕ) (prepared : Prepared) → IsReadied tells old mid drawn drawn_now session pages now prepared → KeepsSealed tells drawn drawn_now old mid session prepared →
    KeepsKeys tells drawn drawn_now old mid (HoldsListed session old.present) (λ keys. IsPublished mid.present (with_next mid prepared) keys × HadArray session old.present)
sealed_keys tells old mid drawn drawn_now session pages now prepared r keeps =
    keeps_by tells drawn drawn_now old mid (KnowsPlaces old.present (places_of session.grove)) (HoldsListed session old.present)
    (ListsNewTree old.present mid.present session.root.order (places_of session.grove) session.mapped prepared.root) (λ keys. IsPublished mid.present (with_next mid prepared) keys × HadArray session old.present)
    keeps (λ told keys kept h. places_listed session old.present keys kept h)
    (λ told keys more kept h lists.
    let with = next_tree tells old mid drawn drawn_now session pages now prepared h.device h.contents r told h.holds in
    let stands = next_stands tells old mid drawn drawn_now session pages now prepared h.device h.contents r told h.holds in
    let knows = lists h.holds.each (stand session pages old.present h.device h.contents r.is_open r.touched h.holds) (more_listed keys more (joined h.holds.each).places (parts_listed session old.present keys kept h)) in (
      record {
        device = Some h.device;
        stands = stands_later old.present mid.present (Some h.device) (Extends-earlier old mid (r.cell told).extends) (During-now old mid (λ image. image.cell ≡ old.present.cell) (r.cell told)) (held_stands session old.present h.device h.contents h.holds);
        next = committed_with h.device h.contents;
        root = prepared.root;
        parts = with.parts;
        tree = stands;
        own = knows.own;
        listed = knows.places with.parts stands.tree;
      },
      record { device = h.device; contents = h.contents; holds = h.holds },
    ))

pub commit_keys : (tells : Type 0) (old mid new : History) (drawn drawn_now : Option (List (List ℕ))) (session : Session) (pages now : ℕ) (prepared : Prepared) (Done : List (List ℕ) → Type 0) → IsReadied tells old mid drawn drawn_now session pages now prepared →
    KeepsSealed tells drawn drawn_now old mid session prepared → (tells → length new.present.recorded ≡ length mid.present.recorded) → (tells → Publishes mid new prepared) →
    (tells → (device : Device) (contents : Blocks) → Holds session old.present device contents → (keys : List (List ℕ)) → Done keys) → KeepsKeys tells drawn drawn_now old new (HoldsListed session old.present) Done
commit_keys tells old mid new drawn drawn_now session pages now prepared Done r keeps size turns done =
    let X = with_next mid prepared in
    keeps_then tells drawn drawn_now drawn_now old mid new (HoldsListed session old.present) (λ keys. IsPublished mid.present X keys × HadArray session old.present) (IsPublished mid.present X) (λ keys. Unit {0}) Done
    (sealed_keys tells old mid drawn drawn_now session pages now prepared r keeps)
    (keeps_published tells drawn_now mid new X (λ keys. Unit {0}) refl size turns (λ told keys ready. tt))
    (λ told keys kept ready. ready.0)
    (λ told keys more ready never. done told ready.1.device ready.1.contents ready.1.holds (keys ++ more))

-- a sealing that a fault cut off, or that was not begun
pub stopped_keys : (tells : Type 0) (old mid : History) (drawn drawn_now : Option (List (List ℕ))) (session : Session) → KeepsKeys tells drawn drawn_now old mid (KnowsPlaces old.present (places_of session.grove)) (λ keys. Unit {0}) →
    KeepsKeys tells drawn drawn_now old mid (HoldsListed session old.present) (λ keys. Unit {0})
stopped_keys tells old mid drawn drawn_now session keeps =
    keeps_by tells drawn drawn_now old mid (KnowsPlaces old.present (places_of session.grove)) (HoldsListed session old.present) (λ keys. Unit {0}) (λ keys. Unit {0}) keeps
    (λ told keys kept h. places_listed session old.present keys kept h) (λ told keys more kept h done. tt)

-- ---- what it forgets

-- each place of the new tree is one of the tree before it, or came after its root record
next_newer : (tells : Type 0) (old mid : History) (drawn drawn_now : Option (List (List ℕ))) (session : Session) (pages now : ℕ) (prepared : Prepared) (device : Device) (contents : Blocks) → (r : IsReadied tells old mid drawn drawn_now session pages now prepared) → (told : tells) →
    (h : Holds session old.present device contents) → (low : ℕ) → low ≡ session.root.head →
    All (λ p. HasPlace old.present p ⊎ (low ≤ p.addr)) (next_tree tells old mid drawn drawn_now session pages now prepared device contents r told h).parts.places
next_newer tells old mid drawn drawn_now session pages now prepared device contents r told h low low_is =
    let with = next_tree tells old mid drawn drawn_now session pages now prepared device contents r told h in
    let ns = r.ready.is.adds.nodes in
    let Newer : Place → Type 0 = λ p. HasPlace old.present p ⊎ (low ≤ p.addr) in
    let new : All Newer (map place_of ns) = All-weaker (IsWithin pages (pages + length ns)) Newer (λ p within. inr (omega (arith, within.0, low_is, r.is_open.served.within))) (map place_of ns)
    (All-from_recursion (IsWithin pages (pages + length ns)) (map place_of ns) (fresh_within pages (pages + length ns) ns r.ready.is.over.order.from (omega arith))) in
    let was : All Newer (joined h.each).places = All-weaker (λ p. Contains h.committed.places p ⊎ IsOwn session.root.head p) Newer (λ p either. one p either) (joined h.each).places h.tree.accounted.accounts.kept in
    All-permutation Newer (map place_of ns ++ (joined h.each).places) with.parts.places with.are.places (All-append Newer (map place_of ns) (joined h.each).places new was)
  where
    one : (p : Place) → Contains h.committed.places p ⊎ IsOwn session.root.head p → HasPlace old.present p ⊎ (low ≤ p.addr)
    one p (inl has) = inl (record { root = session.root; parts = h.committed; is = root_of_stands old.present device session.root h.committed h.stands; tree = h.stands.tree; has = has })
    one p (inr own) = inr (omega (arith, own.after, low_is))

-- the page of the root node from before is none of its places
next_without : (tells : Type 0) (old mid : History) (drawn drawn_now : Option (List (List ℕ))) (session : Session) (pages now : ℕ) (prepared : Prepared) (device : Device) (contents : Blocks) → (r : IsReadied tells old mid drawn drawn_now session pages now prepared) → (told : tells) →
    (h : Holds session old.present device contents) → Contains session.grove.gone.items session.root.addr → (p : Place) → Contains (next_tree tells old mid drawn drawn_now session pages now prepared device contents r told h).parts.places p → p.addr ≡ session.root.addr → ⊥
next_without tells old mid drawn drawn_now session pages now prepared device contents r told h gone p has same =
    let with = next_tree tells old mid drawn drawn_now session pages now prepared device contents r told h in
    let ns = r.ready.is.adds.nodes in
    let all = map place_of ns ++ (joined h.each).places in
    let lacks = (All-contains (λ addr. HasAddress h.committed.places addr × LacksAddress (joined h.each).places addr) session.grove.gone.items session.root.addr h.tree.accounted.accounts.gone_are gone).1 in
    elim (Contains-append_cases (map place_of ns) (joined h.each).places p (Contains-permutation with.parts.places all p (IsPermutation-sym all with.parts.places with.are.places) has)) [
      | inl new ↦
          let within = All-contains (IsWithin pages (pages + length ns)) (map place_of ns) p (All-from_recursion (IsWithin pages (pages + length ns)) (map place_of ns) (fresh_within pages (pages + length ns) ns r.ready.is.over.order.from (omega arith))) new in
          omega (arith, within.0, same, r.is_open.served.within, r.is_open.served.in_range.addr)
      | inr was ↦ All-contains (λ (q : Place). q.addr ≢ session.root.addr) (joined h.each).places p lacks was same
    ]

pub commit_forgets : (tells : Type 0) (old mid new : History) (drawn drawn_now : Option (List (List ℕ))) (session : Session) (pages now : ℕ) (prepared : Prepared) (keys : List (List ℕ)) → IsReadied tells old mid drawn drawn_now session pages now prepared → tells → Publishes mid new prepared →
    HoldsListed session old.present keys → Forgets old new
commit_forgets tells old mid new drawn drawn_now session pages now prepared keys r told turns h =
    let root = session.root in
    let next = prepared.root in
    let X = with_next mid prepared in
    let device = committed_with h.device h.contents in
    let with = next_tree tells old mid drawn drawn_now session pages now prepared h.device h.contents r told h.holds in
    let stands = next_stands tells old mid drawn drawn_now session pages now prepared h.device h.contents r told h.holds in
    let low : low_of old.present ≡ root.head = low_of_stands old.present h.device root h.holds.committed h.holds.stands in
    let last = last_sealed tells old mid drawn drawn_now session pages now prepared r in
    forgets_published old new X (listed_sound session old.present keys h) (Some device, (next, with.parts, stands)) (then_published old mid new X (r.cell told) turns)
    (succeeds_tree old.present X device next with.parts stands (omega (arith, low, last.from, r.is_open.served.within)) r.ready.is.in_range.addr (omega (arith, r.ready.is.next_is.head_is, r.counts_now told))
    (next_newer tells old mid drawn drawn_now session pages now prepared h.device h.contents r told h.holds (low_of old.present) low)
    (λ former is there.
    let same : root ≡ former = one_root_in old.present old.present root former refl (root_of_stands old.present h.device root h.holds.committed h.holds.stands) is in
    let place = place_at X former.addr there in
    next_without tells old mid drawn drawn_now session pages now prepared h.device h.contents r told h.holds (h.holds.left r.touched) place.0 (place_of_stands X device next with.parts place.0 stands place.2)
    (place.1 ∙ ap (λ (r : Root). r.addr) (sym same))))
