-- What pages that are added leave as it was: what a tree maps, and what was read for an update.
use Rattle.std.proofs.Common.{◌≡◌, ℕ, zero, suc, ◌-◌, ◌/◌, ◌<◌, ◌≤◌, All, List, [], ◌∷◌, sym, subst, arith}
use Rattle.std.specs.Prelude.{slice_get}
use Rattle.std.proofs.lemmas.List.Elements.{All-nil, All-cons, All-head, All-tail, All-weaker, All-append}
use Rattle.node_codec.specs.declared.body.Entry.{Entry}
use Rattle.root_codec.specs.declared.root.Root.{Root}
use Rattle.page_store.specs.declared.wants.Want.{Want}
use Rattle.page_store.specs.Places.{IsRecordAt, root_want, child_want}
use Rattle.page_store.specs.Tree.{Parts, Place, Mapped, Subtree, EachChild, Tree, joined, bound_of}
use Rattle.page_store.proofs.TreeLaws.{subtree_kept}
use Rattle.btree_twigs.specs.declared.twigs.Child.{Child, Child-F, out-Child}
use Rattle.btree_twigs.specs.declared.twigs.Child.TheOpen.{Kept, Grown}
use Rattle.btree_twigs.specs.declared.twigs.Twig.{Twig}
use Rattle.btree_twigs.specs.Stubs.{Stub, start_by, low_of, stubs, stubs_in, stubs_below}
use Rattle.btree_twigs.specs.Top.{top_least}
use Rattle.btree_update.specs.declared.groves.Grove.{Grove}
use Rattle.btree_update.specs.GroveTree.{MapsIn, HasEach, want_of, want_at}
use Rattle.btree_update.specs.Held.{Bound, AreBelow, IsReadAs, HeldFor, HeldIn}
use Rattle.btree_update.specs.Roots.{HeldRoot}
use Rattle.btree_update.specs.Groves.{IsSound, IsReadFrom, GroveMaps, places_of}
use Rattle.btree_update.proofs.GroveLaws.{above_it}

-- ---- a tree's places lie no higher than its root's

each_low : (pages : List (List ℕ)) (order level high bound : ℕ) (es : List Entry) (ps : List Parts) → ((want : Want) (key : List ℕ) (parts : Parts) → Subtree pages order level want key parts → All (λ p. p.addr ≤ want.addr) parts.places) →
    All (λ e. e.addr < bound) es → EachChild (Subtree pages order level) order level high es ps → All (λ p. p.addr ≤ bound) (joined ps).places
each_low pages order level high bound [] [] below less each = All-nil (λ (p : Place). p.addr ≤ bound)
each_low pages order level high bound [] (p ∷ ps) below less each = absurd each
each_low pages order level high bound (e ∷ es) [] below less each = absurd each
each_low pages order level high bound (e ∷ es) (p ∷ ps) below less each =
    let here = All-head (λ (e : Entry). e.addr < bound) e es less in
    All-append (λ (q : Place). q.addr ≤ bound) p.places (joined ps).places
    (All-weaker (λ (q : Place). q.addr ≤ e.addr) (λ (q : Place). q.addr ≤ bound) (λ q le. omega (arith, le, here)) p.places (below (child_want order level e (bound_of es high)) e.key p each.0))
    (each_low pages order level high bound es ps below (All-tail (λ (e : Entry). e.addr < bound) e es less) each.1)

subtree_low : (pages : List (List ℕ)) (order level : ℕ) (want : Want) (key : List ℕ) (parts : Parts) → Subtree pages order level want key parts → All (λ p. p.addr ≤ want.addr) parts.places
unfolding Subtree
subtree_low pages order zero want key parts is = subst (λ (p : Parts). All (λ q. q.addr ≤ want.addr) p.places) (sym is.has) (All-cons (λ (q : Place). q.addr ≤ want.addr) _ [] (omega arith) (All-nil (λ (q : Place). q.addr ≤ want.addr)))
subtree_low pages order (suc level) want key parts is =
    subst (λ (p : Parts). All (λ q. q.addr ≤ want.addr) p.places) (sym is.has)
    (All-cons (λ (q : Place). q.addr ≤ want.addr) _ (joined is.children).places (omega arith) (each_low pages order level want.high want.addr is.entries is.children (subtree_low pages order level) is.fits.0.in_range.0.below is.each))

-- these pages are alike below an address
abbrev pub AreAlike : ℕ → List (List ℕ) → List (List ℕ) → Type 0
AreAlike n pages others = (addr : ℕ) → addr < n → slice_get others addr ≡ slice_get pages addr

subtree_alike : (n : ℕ) (pages others : List (List ℕ)) (order level : ℕ) (want : Want) (key : List ℕ) (parts : Parts) → AreAlike n pages others → want.addr < n → Subtree pages order level want key parts → Subtree others order level want key parts
subtree_alike n pages others order level want key parts alike less is =
    subtree_kept pages others order level want key parts is (All-weaker (λ (q : Place). q.addr ≤ want.addr) (λ (q : Place). slice_get others q.addr ≡ slice_get pages q.addr) (λ q le. alike q.addr (omega (arith, le, less))) parts.places (subtree_low pages order level want key parts is))

-- the tree of a root record whose node is one of them
pub tree_alike : (n : ℕ) (pages others : List (List ℕ)) (root : Root) (parts : Parts) → AreAlike n pages others → root.addr < n → Tree pages root parts → Tree others root parts
tree_alike n pages others root parts alike less is = subtree_alike n pages others root.order root.level (root_want root) root.key parts alike less is

each_alike : (most : Bound) (pages others : List (List ℕ)) (order : ℕ) (ss : List Stub) (ps : List Parts) → AreAlike most.head pages others → AreBelow most ss → HasEach pages order ss ps → HasEach others order ss ps
each_alike most pages others order [] [] alike below has = tt
each_alike most pages others order [] (p ∷ ps) alike below has = absurd has
each_alike most pages others order (s ∷ ss) [] alike below has = absurd has
each_alike most pages others order (s ∷ ss) (p ∷ ps) alike below has =
    (subtree_alike most.head pages others order s.level (want_of order s) s.key p alike below.0.0 has.0, each_alike most pages others order ss ps alike below.1 has.1)

root_alike : (most : Bound) (pages others : List (List ℕ)) (order below high : ℕ) (x : Child-F Child Twig) (mapped : List Mapped) → AreAlike most.head pages others → AreBelow most (stubs_in (stubs below) (suc below) high x) → MapsIn pages order (top_least below) below high x mapped →
    MapsIn others order (top_least below) below high x mapped
root_alike most pages others order below high (Kept low addr key) mapped alike lower m = (m.0, subtree_alike most.head pages others order (suc below) (want_at order (suc below) low high addr (top_least below)) key m.0 alike lower.0.0 m.1, m.2)
root_alike most pages others order below high (Grown low twig) mapped alike lower m = record { each = m.each; has = each_alike most pages others order (stubs_below below high twig) m.each alike lower m.has; is = m.is }

below_in : (most : Bound) (level high : ℕ) (c : Child) → AreBelow most (stubs (suc level) high c) → AreBelow most (stubs_in (stubs level) (suc level) high (out-Child c))
unfolding stubs
below_in most level high c h = h

-- what a tree maps whose places are among them
pub maps_alike : (most : Bound) (pages others : List (List ℕ)) (grove : Grove) (mapped : List Mapped) → IsSound grove → AreAlike most.head pages others → AreBelow most (places_of grove) → GroveMaps pages grove mapped → GroveMaps others grove mapped
maps_alike most pages others grove mapped sound alike below m =
    let lower = below_in most (grove.level - 1) grove.blocks grove.top (subst (λ l. AreBelow most (stubs l grove.blocks grove.top)) (above_it grove.level sound.one) below) in
    root_alike most pages others grove.order (grove.level - 1) grove.blocks (out-Child grove.top) mapped alike lower m

-- ---- what was read for an update

module _ (Reads Other : ℕ → Stub → Twig → Type 0) (weaker : (l : ℕ) (s : Stub) (t : Twig) → Reads l s t → Other l s t) (order block : ℕ) where
  held_in : (least : ℕ) (Rest RestOther : ℕ → Child → List Twig → Type 0) (below high : ℕ) (x : Child-F Child Twig) (held : List Twig) → ((high : ℕ) (c : Child) (held : List Twig) → Rest high c held → RestOther high c held) →
      HeldIn Reads order least block Rest below high x held → HeldIn Other order least block RestOther below high x held
  held_in least Rest RestOther below high (Kept low addr key) held rest h = record {
    rest = h.rest;
    twig = h.twig;
    is = h.is;
    reads = weaker below _ h.twig h.reads;
    shaped = h.shaped;
    bare = h.bare;
    lower = h.lower;
    on_way = λ front back c is from to. rest (start_by low_of back high) c h.rest (h.on_way front back c is from to);
  }
  held_in least Rest RestOther below high (Grown low twig) held rest h = λ front back c is from to. rest (start_by low_of back high) c held (h front back c is from to)

  held_for : (level high : ℕ) (child : Child) (held : List Twig) → HeldFor Reads order block level high child held → HeldFor Other order block level high child held
  unfolding HeldFor
  held_for zero high child held h = tt
  held_for (suc level) high child held h = held_in (order / 2) (HeldFor Reads order block level) (HeldFor Other order block level) level high (out-Child child) held (held_for level) h

  pub held_weaker : (below high : ℕ) (child : Child) (held : List Twig) → HeldRoot Reads order block below high child held → HeldRoot Other order block below high child held
  held_weaker below high child held h = held_in (top_least below) (HeldFor Reads order block below) (HeldFor Other order block below) below high (out-Child child) held (held_for below) h

-- the nodes that are held are what later pages say too
pub read_later : (pages others : List (List ℕ)) (block : ℕ) (grove : Grove) → ((addr : ℕ) (key : List ℕ) (value : _) → IsRecordAt pages addr key value → IsRecordAt others addr key value) → IsReadFrom pages block grove → IsReadFrom others block grove
read_later pages others block grove stays h =
    held_weaker (IsReadAs pages grove.order) (IsReadAs others grove.order) (λ l s t r. record { small = r.small; entries = r.entries; here = stays s.addr s.key _ r.here; children = r.children }) grove.order block (grove.level - 1) grove.blocks grove.top grove.held.items h
