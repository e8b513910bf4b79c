-- The keys of a session's places, and of those of its tree.
use Rattle.std.proofs.Common.{◌≡◌, ◌⊎◌, inl, inr, ℕ, zero, suc, ◌<◌, ◌≤◌, List, [], ◌∷◌, ◌++◌, All, map, refl, sym, ap, subst, ◌∙◌, arith}
use Rattle.std.specs.Prelude.{Option, Some, Contains}
use Rattle.std.proofs.lemmas.List.Elements.{All-weaker, All-contains, All-contains_itself, Contains-append_left, Contains-append_right, Contains-append_cases, recursion_from_All}
use Rattle.sdbt_base.specs.Arrays.{Device, Blocks}
use Rattle.sdbt_base.specs.Traces.{DataOf, NodeOver}
use Rattle.node_codec.specs.declared.body.Entry.{Entry}
use Rattle.sdbt_base.specs.Keys.{bare}
use Rattle.platform.specs.Image.{Image}
use Rattle.platform.specs.History.{History}
use Rattle.key_graph.proofs.ChainLaws.{map_contains}
use Rattle.page_store.specs.Tree.{Parts, Place, Subtree, joined}
use Rattle.page_store.specs.Kept.{Kept}
use Rattle.page_store.specs.Keeping.{KeepsKeys}
use Rattle.node_codec.specs.declared.body.NodeBody.{NodeBody}
use Rattle.page_store.specs.Buffer.{Held}
use Rattle.page_store.proofs.KeptLaws.{root_of_stands}
use Rattle.page_store.proofs.ApartLaws.{all_left, all_right}
use Rattle.btree_twigs.specs.Stubs.{Stub}
use Rattle.node_cache.specs.Cached.{Cached}
use Rattle.btree_walk.specs.Sights.{StandsOver}
use Rattle.btree_walk.specs.Among.{StaysAmong}
use Rattle.btree_update.specs.Among.{HaveNodes}
use Rattle.btree_update.specs.Groves.{places_of}
use Rattle.grove_accounts.specs.Accounts.{IsOwn}
use Rattle.btree_update.specs.GroveTree.{want_in}
use Rattle.grove_accounts.specs.Below.{HaveParts}
use Rattle.grove_accounts.specs.Certs.{IsOwnStub}
use Rattle.grove_accounts.proofs.CertLaws.{IsOldNode, old_below, old_nodes}
use Rattle.shadow_commit.specs.Handing.{KnowsPlaces}
use Rattle.device_session.specs.Sessions.{Session}
use Rattle.device_session.specs.Open.{AreDataPages}
use Rattle.device_session.specs.Holds.{Holds}
use Rattle.device_session.specs.Keys.{HoldsListed, StaysListed}
use Rattle.device_session.proofs.ReadLaws.{holds_looked}

-- what a caller has, of an image that keeps its keys, and what it wants
pub keeps_by : (tells : Type 0) (drawn drawn_now : Option (List (List ℕ))) (old new : History) (Ready Ready' Done Done' : List (List ℕ) → Type 0) → KeepsKeys tells drawn drawn_now old new Ready Done
    → (tells → (keys : List (List ℕ)) → Kept keys old.present → Ready' keys → Ready keys)
    → (tells → (keys more : List (List ℕ)) → Kept keys old.present → Ready' keys → Done (keys ++ more) → Done' (keys ++ more))
    → KeepsKeys tells drawn drawn_now old new Ready' Done'
keeps_by tells drawn drawn_now old new Ready Ready' Done Done' k ready done = record {
  grew = k.grew;
  drew = k.drew;
  extends = k.extends;
  handed = k.handed;
  keeps = λ told keys kept is.
      let a = k.keeps told keys kept (ready told keys kept is) in
      record { kept = a.kept; done = done told keys k.grew kept is a.done };
}

-- ---- the key of a place on the medium

one_key : (pages : List (List ℕ)) (order top head level : ℕ) (s : Stub) (q : Parts) (p : Place) → s.level ≡ level → Subtree pages order level (want_in order top s) s.key q → All (IsOldNode head) q.places → Contains q.places p → head ≤ p.addr → IsOwnStub head s × (s.key ≡ p.key)
unfolding Subtree
one_key pages order top head (suc level) s q p is h old has own = absurd (let less = All-contains (λ p. p.addr < head) q.places p (old_below pages order top head level s q h old) has in omega (arith, less, own))
one_key pages order top head zero s q p is h old has own = only (subst (λ (x : Parts). Contains x.places p) h.has has)
  where
    only : Contains (record { addr = s.addr; key = s.key; trace = DataOf s.low } ∷ []) p → IsOwnStub head s × (s.key ≡ p.key)
    only (zero, within, same) = (record { level = is; after = omega (arith, own, ap (λ (x : Place). x.addr) same) }, ap (λ (x : Place). x.key) same)
    only (suc i, within, same) = absurd (omega (arith, within))

-- a place that came after the root record has the key of a data record in a leaf in memory
own_key : (pages : List (List ℕ)) (order top head : ℕ) (ss : List Stub) (each : List Parts) (p : Place) → HaveParts pages order top ss each → All (IsOldNode head) (joined each).places → Contains (joined each).places p → head ≤ p.addr →
    (s : Stub) × Contains ss s × IsOwnStub head s × (s.key ≡ p.key)
own_key pages order top head [] [] p h old (i, within, is) own = absurd (omega (arith, within))
own_key pages order top head [] (q ∷ qs) p h old has own = absurd h
own_key pages order top head (s ∷ ss) [] p h old has own = absurd h
own_key pages order top head (s ∷ ss) (q ∷ qs) p h old has own = elim (Contains-append_cases q.places (joined qs).places p has) [
  | inl here ↦ (let one = one_key pages order top head s.level s q p refl h.0 (all_left (IsOldNode head) q.places (joined qs).places old) here own in (s, (0, omega arith, refl), one.0, one.1))
  | inr there ↦ (let rest = own_key pages order top head ss qs p h.1 (all_right (IsOldNode head) q.places (joined qs).places old) there own in (rest.0, Contains-append_right (s ∷ []) ss rest.0 rest.1, rest.2, rest.3))
]

-- a place in memory's reach is one of the tree
top_place : (pages : List (List ℕ)) (order top level : ℕ) (s : Stub) (q : Parts) → Subtree pages order level (want_in order top s) s.key q → (p : Place) × Contains q.places p × (p.key ≡ s.key)
unfolding Subtree
top_place pages order top zero s q h =
    let here : Place = record { addr = s.addr; key = s.key; trace = DataOf s.low } in
    (here, subst (λ (x : Parts). Contains x.places here) (sym h.has) (0, omega arith, refl), refl)
top_place pages order top (suc level) s q h =
    let here : Place = record { addr = s.addr; key = s.key; trace = NodeOver (map (λ (e : Entry). e.addr) h.entries) } in
    (here, subst (λ (x : Parts). Contains x.places here) (sym h.has) (0, omega arith, refl), refl)

stub_key : (pages : List (List ℕ)) (order top : ℕ) (ss : List Stub) (each : List Parts) (s : Stub) → HaveParts pages order top ss each → Contains ss s → (p : Place) × Contains (joined each).places p × (p.key ≡ s.key)
stub_key pages order top [] each s h (i, within, is) = absurd (omega (arith, within))
stub_key pages order top (t ∷ ss) [] s h has = absurd h
stub_key pages order top (t ∷ ss) (q ∷ qs) s h (zero, within, is) =
    let one = top_place pages order top t.level t q h.0 in
    (one.0, Contains-append_left q.places (joined qs).places one.0 one.1, one.2 ∙ ap (λ (x : Stub). x.key) is)
stub_key pages order top (t ∷ ss) (q ∷ qs) s h (suc i, within, is) =
    let rest = stub_key pages order top ss qs s h.1 (i, omega (arith, within), is) in
    (rest.0, Contains-append_right q.places (joined qs).places rest.0 rest.1, rest.2)

-- ---- a session's keys are listed

-- a session that wrote no data record has no key of its own
pub listed_fresh : (session : Session) (image : Image) (device : Device) (contents : Blocks) (keys : List (List ℕ)) → AreDataPages session [] → Holds session image device contents → HoldsListed session image keys
listed_fresh session image device contents keys none h = record {
  device = device;
  contents = contents;
  holds = h;
  listed = λ s has own. absurd (let has = none.named s has own in omega (arith, has.1));
}

-- a look leaves them so
pub listed_looked : (was session : Session) (cache : Cached) (buffers : Held) (node : NodeBody) (image after : Image) → session ≡ was → after ≡ image → (StandsOver image.readable session.cache → StandsOver image.readable cache)
    → (StandsOver image.readable session.cache → StaysAmong (HaveNodes image.readable (places_of session.grove)) session.cache cache) → StaysListed image after was (record session { cache = cache; buffers = buffers; node = node })
listed_looked was session cache buffers node image after is same keeps stays keys listed =
    let h = subst (λ (s : Session). HoldsListed s image keys) (sym is) listed in
    record { device = h.device; contents = h.contents; holds = holds_looked session cache buffers node image after h.device h.contents same keeps stays h.holds; listed = h.listed }

-- one that has an array has a list of its keys
pub listed_itself : (session : Session) (image : Image) (device : Device) (contents : Blocks) → Holds session image device contents → HoldsListed session image (map (λ s. bare s.key) (places_of session.grove))
listed_itself session image device contents h = record {
  device = device;
  contents = contents;
  holds = h;
  listed = λ s has own. map_contains (λ (s : Stub). bare s.key) (places_of session.grove) s has;
}

-- those of the committed tree, in the image
committed_listed : (session : Session) (image : Image) (device : Device) (contents : Blocks) (keys : List (List ℕ)) → Kept keys image → (h : Holds session image device contents) → All (λ p. Contains keys (bare p.key)) h.committed.places
committed_listed session image device contents keys kept h =
    (kept.cell session.root (root_of_stands image device session.root h.committed h.stands)).places h.committed h.stands.tree

-- those of all that stands below the session's places
pub parts_listed : (session : Session) (image : Image) (keys : List (List ℕ)) → Kept keys image → (h : HoldsListed session image keys) → All (λ p. Contains keys (bare p.key)) (joined h.holds.each).places
parts_listed session image keys kept h =
    let root = session.root in
    let tree = h.holds.tree in
    let places = (joined h.holds.each).places in
    let old = old_nodes image root h.holds.committed.places session.grove h.holds.each tree in
    let before = committed_listed session image h.device h.contents keys kept h.holds in
    All-weaker (Contains places) (λ p. Contains keys (bare p.key)) (λ p has. elim (All-contains (λ p. Contains h.holds.committed.places p ⊎ IsOwn root.head p) places p tree.accounted.accounts.kept has) [
      | inl was ↦ All-contains (λ p. Contains keys (bare p.key)) h.holds.committed.places p before was
      | inr own ↦ (let s = own_key image.readable session.grove.order session.grove.level root.head (places_of session.grove) h.holds.each p tree.has old has own.after in subst (λ (k : List ℕ). Contains keys (bare k)) s.3 (h.listed s.0 s.1 s.2))
    ]) places (All-contains_itself places)

-- and those of its places
pub places_listed : (session : Session) (image : Image) (keys : List (List ℕ)) → Kept keys image → HoldsListed session image keys → KnowsPlaces image (places_of session.grove) keys
places_listed session image keys kept h =
    let places = places_of session.grove in
    let all = parts_listed session image keys kept h in
    record {
      device = Some h.device;
      stands = (session.root, h.holds.committed, h.holds.stands);
      listed = recursion_from_All (λ (s : Stub). Contains keys (bare s.key)) places (All-weaker (Contains places) (λ s. Contains keys (bare s.key))
          (λ s has. let p = stub_key image.readable session.grove.order session.grove.level places h.holds.each s h.holds.tree.has has in subst (λ (k : List ℕ). Contains keys (bare k)) p.2 (All-contains (λ p. Contains keys (bare p.key)) (joined h.holds.each).places p.0 all p.1))
          places (All-contains_itself places));
    }
