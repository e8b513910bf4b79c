-- The records of sealed nodes, and where they are.
use Rattle.std.proofs.Common.{◌≡◌, ℕ, zero, suc, ◌+◌, ◌/◌, ◌<◌, ◌≤◌, ◌^◌, List, [], ◌∷◌, ◌++◌, length, map, take, drop, refl, sym, ap, subst, ◌∙◌, arith, append_assoc, length-append}
use Rattle.std.specs.List.{AllByRecursion}
use Rattle.std.proofs.lemmas.List.{take-append-drop}
use Rattle.std.specs.Prelude.{Contains}
use Rattle.std.proofs.lemmas.List.Elements.{All-from_recursion, Contains-append_left, Contains-append_right}
use Rattle.sdbt_base.specs.Keys.{key_size, version_of, IsKeyOf}
use Rattle.node_codec.specs.declared.body.Entry.{Entry}
use Rattle.seal_record.proofs.SealingLaws.{masked-masked}
use Rattle.node_codec.specs.Record.{NodeRecord, FitsNode, record_bytes}
use Rattle.node_codec.specs.Laws.{record_length}
use Rattle.page_store.proofs.RecordLaws.{slice_get-end, record_stays}
use Rattle.btree_twigs.specs.declared.twigs.Child.{Child, Child-F, out-Child}
use Rattle.btree_twigs.specs.declared.twigs.Child.TheOpen.{Kept, Grown}
use Rattle.btree_twigs.specs.declared.twigs.Twig.{Twig}
use Rattle.btree_twigs.specs.Stubs.{Stub, start_by, stubs_by, stubs_in, low_of, children_of, stubs, stubs_below}
use Rattle.btree_twigs.specs.Shape.{EachBy, IsChildBy, IsChild, IsTwig}
use Rattle.btree_twigs.proofs.ListLaws.{each_le, each_front, each_back, stubs_append}
use Rattle.shadow_commit.specs.Sealed.{Sealed, page_of, SealsEach, SealsNode, SealsDatum, SealsIn, Seals}
use Rattle.btree_update.specs.Held.{bound, AreBelow}
use Rattle.shadow_commit.specs.NewTree.{IsNodeAt, AreFrom, Fits, AreInOrder, AreNodesOver, keys_at}
use Rattle.shadow_commit.proofs.KeyLaws.{Within, AreListed, keys_in, keys_append, keys_more, listed_more, append_within, in_places_left, children_keys}
use Rattle.shadow_commit.proofs.SealLaws.{FitsOrder, entries_are, node_fits, fits_by, below_front, below_back}
use Rattle.shadow_commit.proofs.TreeLaws.{all_append}

from_append : (first : ℕ) (xs ys : List Sealed) → AreFrom first xs → AreFrom (first + length xs) ys → AreFrom first (xs ++ ys)
from_append first [] ys h k = let e : first + 0 ≡ first = omega arith in subst (λ n. AreFrom n ys) e k
from_append first (x ∷ xs) ys h k = (h.0, from_append (suc first) xs ys h.1 (let e : first + suc (length xs) ≡ suc first + length xs = omega arith in subst (λ n. AreFrom n ys) e k))

pub order_append : (version first : ℕ) (xs ys all : List Sealed) → all ≡ xs ++ ys → AreInOrder version first xs → AreInOrder version (first + length xs) ys → AreInOrder version first all
order_append version first xs ys all is h k = subst (AreInOrder version first) (sym is) (record { from = from_append first xs ys h.from k.from; fits = all_append (Fits version) xs ys h.fits k.fits })

none_in_order : (version first : ℕ) (ns : List Sealed) → ns ≡ [] → AreInOrder version first ns
none_in_order version first ns is = subst (AreInOrder version first) (sym is) (record { from = tt; fits = tt })

abbrev ChildFits : ℕ → ℕ → ℕ → ℕ → Type 0
ChildFits version order level head = (first high : ℕ) (c : Child) (ns : List Sealed) (e : Entry) → Seals version level first c ns e → IsChild order level high c → FitsOrder version order → level ≤ 20 → high ≤ 1048576 →
    AreBelow (bound head (key_size version)) (stubs level high c) → head ≤ first → AreInOrder version first ns

children_fit_by : (version order level head : ℕ) → ChildFits version order level head → (first high : ℕ) (cs : List Child) (ns : List Sealed) (es : List Entry) → SealsEach (Seals version level) first cs ns es → EachBy low_of (IsChild order level) high cs →
    FitsOrder version order → level ≤ 20 → high ≤ 1048576 → AreBelow (bound head (key_size version)) (stubs_by low_of (stubs level) high cs) → head ≤ first → AreInOrder version first ns
children_fit_by version order level head one first high [] ns es h shaped most deep blocks below le = none_in_order version first ns h.0
children_fit_by version order level head one first high (c ∷ cs) ns es h shaped most deep blocks below le =
    let end = each_le low_of (IsChild order level) high cs shaped.2 in
    let here = one first (start_by low_of cs high) c h.here h.entry h.one shaped.1 most deep (omega (arith, end, blocks)) (below_front (bound head (key_size version)) (stubs level (start_by low_of cs high) c) _ below) le in
    let rest = children_fit_by version order level head one (first + length h.here) high cs h.rest h.others h.more shaped.2 most deep blocks (below_back (bound head (key_size version)) (stubs level (start_by low_of cs high) c) _ below) (omega (arith, le)) in
    order_append version first h.here h.rest ns h.nodes_are here rest

node_in_order_by : (version order level head : ℕ) → ChildFits version order level head → (least first low high addr : ℕ) (key : List ℕ) (twig : Twig) (ns : List Sealed) → SealsNode version (Seals version level) level first (children_of twig) ns addr key →
    IsTwig order level least order low high twig → FitsOrder version order → level < 20 → high ≤ 1048576 → AreBelow (bound head (key_size version)) (stubs_below level high twig) → head ≤ first → AreInOrder version first ns
node_in_order_by version order level head one least first low high addr key twig ns h shaped most deep blocks below le =
    let under = children_fit_by version order level head one first high (children_of twig) h.below h.entries h.each shaped.node.each most (omega (arith, deep)) blocks below le in
    let are = entries_are version level first head high (children_of twig) h.below h.entries h.each below le in
    let fits = subst (λ n. FitsNode version n (suc level) h.entries) (sym h.addr_is) (node_fits version order level least low high first head twig h.below h.entries shaped most deep blocks below le h.each) in
    order_append version first h.below (record { addr = addr; key = key; level = suc level; entries = h.entries } ∷ []) ns h.is under
    (record { from = (h.addr_is, tt); fits = (fits_by version (record { addr = addr; key = key; level = suc level; entries = h.entries }) most.0 h.key_is.0 fits (All-from_recursion (λ (e : Entry). IsKeyOf version e.key) h.entries are.keys) h.digested, tt) })

pub child_in_order : (version order level head : ℕ) → ChildFits version order level head
unfolding Seals IsChild stubs
child_in_order version order zero head first high c ns e h shaped most deep blocks below le = here (out-Child c) h
  where
    here : (x : Child-F Child Twig) → SealsDatum version x ns e → AreInOrder version first ns
    here (Kept low addr key) h = none_in_order version first ns h.none
    here (Grown low twig) h = absurd h
child_in_order version order (suc level) head first high c ns e h shaped most deep blocks below le = here (child_in_order version order level head) (out-Child c) h shaped below
  where
    here : ChildFits version order level head → (x : Child-F Child Twig) → SealsIn version (Seals version level) level first x ns e → IsChildBy (IsChild order level) order level high x → AreBelow (bound head (key_size version)) (stubs_in (stubs level) (suc level) high x) → AreInOrder version first ns
    here one (Kept low addr key) h shaped below = none_in_order version first ns h.none
    here one (Grown low twig) h shaped below = node_in_order_by version order level head one (order / 2) first low high e.addr e.key twig ns h.node shaped most (omega (arith, deep)) blocks below le

pub node_in_order : (version order level least head first low high addr : ℕ) (key : List ℕ) (twig : Twig) (ns : List Sealed) → SealsNode version (Seals version level) level first (children_of twig) ns addr key →
    IsTwig order level least order low high twig → FitsOrder version order → level < 20 → high ≤ 1048576 → AreBelow (bound head (key_size version)) (stubs_below level high twig) → head ≤ first → AreInOrder version first ns
node_in_order version order level least head first low high addr key twig ns h shaped most deep blocks below le =
    node_in_order_by version order level head (child_in_order version order level head) least first low high addr key twig ns h shaped most deep blocks below le

-- a page that is appended in its order is the record
one_at : (version : ℕ) (pages : List (List ℕ)) (n : Sealed) → n.addr < 2 ^ 64 → n.addr ≡ length pages → Fits version n → IsNodeAt (pages ++ page_of n ∷ []) n
one_at version pages n small at fits =
    let bytes = record_bytes (version_of n.key) n.addr (NodeRecord n.level n.entries) in
    record {
      page = page_of n;
      reads = slice_get-end pages (page_of n) n.addr at;
      in_range = fits.in_range;
      spelled = masked-masked n.key bytes (omega (arith, record_length (version_of n.key) n.addr (NodeRecord n.level n.entries) small fits.in_range));
      digested = fits.digested;
    }

-- pages that are appended in order are the records
pub records_at : (version first : ℕ) (pages : List (List ℕ)) (ns : List Sealed) → first ≡ length pages → AreFrom first ns → AllByRecursion (Fits version) ns → first + length ns ≤ 2 ^ 64 → AllByRecursion (IsNodeAt (pages ++ map page_of ns)) ns
records_at version first pages [] at from fits small = tt
records_at version first pages (n ∷ ns) at from fits small =
    let page = page_of n in
    let assoc : (pages ++ page ∷ []) ++ map page_of ns ≡ pages ++ (page ∷ map page_of ns) = append_assoc pages (page ∷ []) (map page_of ns) in
    let there = one_at version pages n (omega (arith, from.0, small)) (from.0 ∙ at) fits.0 in
    let here = record_stays (pages ++ page ∷ []) (map page_of ns) n.addr n.key (NodeRecord n.level n.entries) there in
    let rest = records_at version (suc first) (pages ++ page ∷ []) ns (omega (arith, at, length-append pages (page ∷ []))) from.1 fits.1 (omega (arith, small)) in
    subst (λ all. IsNodeAt all n × AllByRecursion (IsNodeAt all) ns) assoc (here, rest)

pub children_fit : (version order level head first high : ℕ) (cs : List Child) (ns : List Sealed) (es : List Entry) → SealsEach (Seals version level) first cs ns es → EachBy low_of (IsChild order level) high cs →
    FitsOrder version order → level ≤ 20 → high ≤ 1048576 → AreBelow (bound head (key_size version)) (stubs_by low_of (stubs level) high cs) → head ≤ first → AreInOrder version first ns
children_fit version order level head first high cs ns es h shaped most deep blocks below le = children_fit_by version order level head (child_in_order version order level head) first high cs ns es h shaped most deep blocks below le

each_take : (Below : ℕ → Child → Type 0) (high i : ℕ) (cs : List Child) → EachBy low_of Below high cs → EachBy low_of Below (start_by low_of (drop i cs) high) (take i cs)
each_take Below high i cs h = each_front low_of Below high (take i cs) (drop i cs) (subst (EachBy low_of Below high) (sym (take-append-drop i cs)) h)

-- what was sealed so far is in order
pub so_far_in_order : (version order level head high i : ℕ) (cs : List Child) (ns : List Sealed) (es : List Entry) → SealsEach (Seals version level) head (take i cs) ns es → EachBy low_of (IsChild order level) high cs →
    FitsOrder version order → level ≤ 20 → high ≤ 1048576 → AreBelow (bound head (key_size version)) (stubs_by low_of (stubs level) high cs) → AreInOrder version head ns
so_far_in_order version order level head high i cs ns es h each most deep blocks below =
    let split = sym (take-append-drop i cs) in
    let front = each_take (IsChild order level) high i cs each in
    let back = each_back low_of (IsChild order level) high (take i cs) (drop i cs) (subst (EachBy low_of (IsChild order level) high) split each) in
    let end = each_le low_of (IsChild order level) high (drop i cs) back in
    let places = subst (AreBelow (bound head (key_size version))) (ap (stubs_by low_of (stubs level) high) split ∙ stubs_append low_of (stubs level) high (take i cs) (drop i cs)) below in
    children_fit version order level head head (start_by low_of (drop i cs) high) (take i cs) ns es h front most deep (omega (arith, end, blocks)) (below_front (bound head (key_size version)) _ _ places) (omega arith)

-- ---- nodes over places

-- nodes over places, and then nodes over some of them
pub over_append : (version first : ℕ) (places some : List Stub) (xs ys : List Sealed) → AreNodesOver version first places xs → AreNodesOver version (first + length xs) some ys → Within (keys_at some) (keys_at places) → AreNodesOver version first places (xs ++ ys)
over_append version first places some xs ys h k within = record {
  order = order_append version first xs ys (xs ++ ys) refl h.order k.order;
  keys = keys_append (keys_at places) xs ys h.keys (keys_more (keys_at some) (keys_at places ++ keys_in xs) ys (λ x has. Contains-append_left (keys_at places) (keys_in xs) x (within x has)) k.keys);
}

-- what was sealed so far, and the keys in its entries
pub record IsSoFar (version head : ℕ) (places : List Stub) (ns : List Sealed) (es : List Entry) : Type 0 where
  pub over : AreNodesOver version head places ns
  pub listed : AreListed (keys_at places ++ keys_in ns) es

pub so_far_over : (version order level head high i : ℕ) (cs : List Child) (ns : List Sealed) (es : List Entry) → SealsEach (Seals version level) head (take i cs) ns es → EachBy low_of (IsChild order level) high cs →
    FitsOrder version order → level ≤ 20 → high ≤ 1048576 → AreBelow (bound head (key_size version)) (stubs_by low_of (stubs level) high cs) → IsSoFar version head (stubs_by low_of (stubs level) high cs) ns es
so_far_over version order level head high i cs ns es h each most deep blocks below =
    let end = start_by low_of (drop i cs) high in
    let front = stubs_by low_of (stubs level) end (take i cs) in
    let back = stubs_by low_of (stubs level) high (drop i cs) in
    let all : stubs_by low_of (stubs level) high cs ≡ front ++ back = ap (stubs_by low_of (stubs level) high) (sym (take-append-drop i cs)) ∙ stubs_append low_of (stubs level) high (take i cs) (drop i cs) in
    let within : Within (keys_at front) (keys_at (stubs_by low_of (stubs level) high cs)) = λ x has. subst (λ ss. Contains (keys_at ss) x) (sym all) (in_places_left front back x has) in
    let known = children_keys version level head end (take i cs) ns es h in
    record {
      over = record {
        order = so_far_in_order version order level head high i cs ns es h each most deep blocks below;
        keys = keys_more (keys_at front) (keys_at (stubs_by low_of (stubs level) high cs)) ns within known.nodes;
      };
      listed = listed_more (keys_at front ++ keys_in ns) (keys_at (stubs_by low_of (stubs level) high cs) ++ keys_in ns) es
          (append_within (keys_at front) (keys_in ns) (keys_at (stubs_by low_of (stubs level) high cs) ++ keys_in ns)
          (λ x has. Contains-append_left (keys_at (stubs_by low_of (stubs level) high cs)) (keys_in ns) x (within x has))
          (λ x has. Contains-append_right (keys_at (stubs_by low_of (stubs level) high cs)) (keys_in ns) x has)) known.own;
    }

-- one node after them, over the same places
pub over_node : (version first : ℕ) (places : List Stub) (xs : List Sealed) (n : Sealed) → AreNodesOver version first places xs → n.addr ≡ first + length xs → Fits version n → AreListed (keys_at places ++ keys_in xs) n.entries → AreNodesOver version first places (xs ++ n ∷ [])
over_node version first places xs n h at fits listed = record {
  order = order_append version first xs (n ∷ []) (xs ++ n ∷ []) refl h.order (record { from = (at, tt); fits = (fits, tt) });
  keys = keys_append (keys_at places) xs (n ∷ []) h.keys (listed, tt);
}
