-- A commit over a tree that keeps account of what it let go of.
use Rattle.std.proofs.Common.{◌≡◌, ◌≢◌, ◌⊎◌, inl, inr, ℕ, zero, suc, ◌-◌, ◌<◌, ◌≤◌, Bool, true, false, cond, List, [], ◌∷◌, map, filter, length, refl, sym, ap, subst, ◌∙◌, arith}
use Rattle.std.specs.Prelude.{AllPairs, Contains}
use Rattle.std.specs.List.{AllByRecursion}
use Rattle.std.proofs.lemmas.List.Elements.{All-weaker, All-map, All-contains_itself, All-from_recursion, Contains-append_left, Contains-append_right, Contains-append_cases}
use Rattle.sdbt_base.specs.Traces.{Traced}
use Rattle.sdbt_base.specs.declared.lists.Unkept.{Unkept}
use Rattle.key_graph.proofs.ChainLaws.{contains_map, map_contains}
use Rattle.platform.specs.Image.{Image}
use Rattle.root_codec.specs.declared.root.Root.{Root}
use Rattle.page_store.specs.Tree.{Parts, Place, joined}
use Rattle.cert_maker.specs.Differ.{Differ}
use Rattle.cert_maker.specs.Trace.{entries_of}
use Rattle.btree_twigs.specs.declared.twigs.Child.{Child, Child-F, out-Child}
use Rattle.btree_twigs.specs.declared.twigs.Child.TheOpen.{Kept, Grown}
use Rattle.btree_twigs.specs.declared.twigs.Twig.{Twig}
use Rattle.btree_twigs.specs.Stubs.{Stub, stubs, stubs_in, stubs_below}
use Rattle.btree_twigs.specs.Top.{IsTop, IsTopBy}
use Rattle.btree_update.specs.declared.groves.Grove.{Grove}
use Rattle.btree_update.specs.GroveTree.{HasEach}
use Rattle.btree_update.specs.Groves.{places_of}
use Rattle.btree_update.proofs.FoundLaws.{up_twig}
use Rattle.btree_update.proofs.GroveLaws.{above_it}
use Rattle.grove_accounts.specs.Holding.{HoldsTree}
use Rattle.grove_accounts.specs.Certs.{told, told_stub, IsOwnStub, AreWritten, AddsNodes}
use Rattle.grove_accounts.proofs.ListLaws.{each_weaker}
use Rattle.grove_accounts.proofs.PartsLaws.{parts_each}
use Rattle.grove_accounts.proofs.CertLaws.{cert_differs}
use Rattle.shadow_commit.specs.Sealed.{Sealed}
use Rattle.shadow_commit.specs.NewTree.{place_of, AreFrom, AreParts}
use Rattle.shadow_commit.specs.Planned.{traced_of, is_new_record, traced_record, new_records, added_by}
use Rattle.shadow_commit.specs.Ready.{Stand}

-- ---- what stands below the places

top_stubs : (order below high : ℕ) (c : Child) → IsTop order below high c → AllByRecursion (λ s. s.level < suc below) (stubs (suc below) high c)
unfolding stubs
top_stubs order below high c top = here (out-Child c) top
  where
    here : (x : Child-F Child Twig) → IsTopBy order below high x → AllByRecursion (λ s. s.level < suc below) (stubs_in (stubs below) (suc below) high x)
    here (Kept low addr key) is = absurd is
    here (Grown low twig) is = each_weaker (λ (s : Stub). s.level ≤ below) (λ (s : Stub). s.level < suc below) (λ s le. omega (arith, le)) (stubs_below below high twig) (up_twig below high twig)

pub stands_changed : (image : Image) (root : Root) (committed : List Place) (grove : Grove) (each : List Parts) → HoldsTree image root committed grove each → IsTop grove.order (grove.level - 1) grove.blocks grove.top →
    Stand image root.order (places_of grove) each (length (joined each).mapped)
stands_changed image root committed grove each h top =
    let one = above_it grove.level h.sound.one in
    let under = subst (λ n. AllByRecursion (λ s. s.level < n) (stubs n grove.blocks grove.top)) (sym one) (top_stubs grove.order (grove.level - 1) grove.blocks grove.top top) in
    let has = parts_each image.readable grove.order grove.level (places_of grove) each under h.has in
    record {
      has = subst (λ n. HasEach image.readable n (places_of grove) each) h.order has;
      apart = h.accounted.apart;
      below = h.accounted.below;
      recorded = h.accounted.recorded;
      count = refl;
    }

-- ---- what is added

new_after : (first : ℕ) (ns : List Sealed) → AreFrom first ns → AllByRecursion (λ n. first ≤ n.addr) ns
new_after first [] from = tt
new_after first (n ∷ ns) from = (omega (arith, from.0), each_weaker (λ (m : Sealed). suc first ≤ m.addr) (λ (m : Sealed). first ≤ m.addr) (λ m le. omega (arith, le)) ns (new_after (suc first) ns from.1))

own_is : (head : ℕ) (s : Stub) → IsOwnStub head s → is_new_record head s ≡ true
own_is head s own = grind (arith, own.level, own.after)

is_own : (head : ℕ) (s : Stub) → is_new_record head s ≡ true → IsOwnStub head s
is_own head s is = record { level = grind (arith, is); after = grind (arith, is) }

kept_in : (head : ℕ) (ss : List Stub) (s : Stub) → Contains ss s → is_new_record head s ≡ true → Contains (filter (is_new_record head) ss) s
kept_in head [] s (i, within, same) is = absurd (omega (arith, within))
kept_in head (t ∷ ss) s (zero, within, same) is = rw (ap (is_new_record head) same ∙ is) (zero, omega arith, same)
kept_in head (t ∷ ss) s (suc i, within, same) is = behind (is_new_record head t) (kept_in head ss s (i, omega (arith, within), same) is)
  where
    behind : (b : Bool) → Contains (filter (is_new_record head) ss) s → Contains (cond b (t ∷ filter (is_new_record head) ss) (filter (is_new_record head) ss)) s
    behind true has = Contains-append_right (t ∷ []) (filter (is_new_record head) ss) s has
    behind false has = has

from_kept : (head : ℕ) (ss : List Stub) (s : Stub) → Contains (filter (is_new_record head) ss) s → Contains ss s × (is_new_record head s ≡ true)
from_kept head [] s (i, within, same) = absurd (omega (arith, within))
from_kept head (t ∷ ss) s has = elim (is_new_record head t) as (λ b. is_new_record head t ≡ b → Contains (cond b (t ∷ filter (is_new_record head) ss) (filter (is_new_record head) ss)) s → Contains (t ∷ ss) s × (is_new_record head s ≡ true)) [
  | true ↦ λ is here. first is here (from_kept head ss s)
  | false ↦ λ is here. (let rest = from_kept head ss s here in (Contains-append_right (t ∷ []) ss s rest.0, rest.1))
] refl has
  where
    first : is_new_record head t ≡ true → Contains (t ∷ filter (is_new_record head) ss) s → (Contains (filter (is_new_record head) ss) s → Contains ss s × (is_new_record head s ≡ true)) → Contains (t ∷ ss) s × (is_new_record head s ≡ true)
    first is (zero, within, same) rest = ((zero, omega arith, same), ap (is_new_record head) (sym same) ∙ is)
    first is (suc i, within, same) rest = let r = rest (i, omega (arith, within), same) in (Contains-append_right (t ∷ []) ss s r.0, r.1)

pub adds_nodes : (head : ℕ) (ss : List Stub) (ns : List Sealed) → AddsNodes head (map place_of ns) ss (added_by head ss ns)
adds_nodes head ss ns = record {
  nodes_are = All-map (λ p. Contains (added_by head ss ns) (told p)) place_of ns (All-weaker (Contains ns) (λ n. Contains (added_by head ss ns) (told (place_of n)))
      (λ n has. Contains-append_left (map traced_of ns) (new_records head ss) (traced_of n) (map_contains traced_of ns n has)) ns (All-contains_itself ns));
  own = λ s has own. Contains-append_right (map traced_of ns) (new_records head ss) (told_stub s) (map_contains traced_record (filter (is_new_record head) ss) s (kept_in head ss s has (own_is head s own)));
  only = All-weaker (Contains (added_by head ss ns)) Of (λ t has. elim (Contains-append_cases (map traced_of ns) (new_records head ss) t has) [
    | inl node ↦ (let n = contains_map traced_of ns t node in inl (place_of n.0, map_contains place_of ns n.0 n.1, sym n.2))
    | inr own ↦ (let s = contains_map traced_record (filter (is_new_record head) ss) t own in let k = from_kept head ss s.0 s.1 in inr (s.0, k.0, is_own head s.0 k.1, sym s.2))
  ]) (added_by head ss ns) (All-contains_itself (added_by head ss ns));
}
  where
    Of : Traced → Type 0
    Of t = ((p : Place) × Contains (map place_of ns) p × (t ≡ told p)) ⊎ ((s : Stub) × Contains ss s × IsOwnStub head s × (t ≡ told_stub s))

pub commit_differs : (image : Image) (root : Root) (committed : List Place) (grove : Grove) (each : List Parts) (nodes : List Sealed) (parts : Parts) (pages : List Unkept) → HoldsTree image root committed grove each → root.head ≤ length image.recorded →
    AreFrom (length image.recorded) nodes → AreParts nodes each parts → AllPairs (λ p q. p.addr ≢ q.addr) parts.places → AreWritten root.head (places_of grove) grove.never.items pages →
    Differ (entries_of committed) (entries_of parts.places) pages (added_by root.head (places_of grove) nodes) grove.gone.items grove.never.items
commit_differs image root committed grove each nodes parts pages h more from are apart written =
    let new = All-map (λ (p : Place). length image.recorded ≤ p.addr) place_of nodes (All-from_recursion (λ (n : Sealed). length image.recorded ≤ n.addr) nodes (new_after (length image.recorded) nodes from)) in
    cert_differs image root committed grove each (map place_of nodes) parts.places (added_by root.head (places_of grove) nodes) pages h more (record { new = new; apart = apart; same = are.places }) (adds_nodes root.head (places_of grove) nodes) written
