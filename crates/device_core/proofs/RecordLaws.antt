-- The data records of a tree: each has one content, and each place of the tree is a node or one of them.
use Rattle.std.proofs.Common.{◌≡◌, ◌⊎◌, inl, inr, ℕ, zero, suc, ◌<◌, ◌^◌, Bool, true, false, cond, List, [], ◌∷◌, ◌++◌, All, map, filter, length, refl, sym, ap, subst, ◌∙◌, arith}
use Rattle.std.specs.Prelude.{Contains}
use Rattle.std.proofs.lemmas.List.Elements.{All-nil, All-cons, All-head, All-tail, All-weaker, All-append, All-contains, Contains-append_left, Contains-append_right, Contains-append_cases}
use Rattle.key_graph.proofs.ChainLaws.{contains_map, map_contains}
use Rattle.sdbt_base.specs.Traces.{DataOf, NodeOver}
use Rattle.node_codec.specs.declared.body.Entry.{Entry}
use Rattle.node_codec.specs.Record.{DataRecord}
use Rattle.root_codec.specs.declared.root.Root.{Root}
use Rattle.root_codec.specs.RootRecord.{FitsRoot}
use Rattle.page_store.specs.declared.wants.Want.{Want}
use Rattle.page_store.specs.Places.{IsRecordAt, root_want, child_want}
use Rattle.page_store.specs.Tree.{Place, Mapped, Parts, joined, data_parts, node_parts, bound_of, EachChild, Subtree, Tree}
use Rattle.page_store.proofs.RecordLaws.{one_record}
use Rattle.btree_walk.specs.Mapped.{entry_of, is_node, node_addrs}
use Rattle.tree_build.specs.Nodes.{AreData, mapped_of}

-- ---- what a tree has

-- the data record of a mapped block is there, with its content
record IsThere (pages : List (List ℕ)) (m : Mapped) : Type 0 where
  small : m.addr < 2 ^ 64
  is : IsRecordAt pages m.addr m.key (DataRecord m.block m.content)

-- an address is that of a mapped block, and that of a place
abbrev AtMapped : List Mapped → ℕ → Type 0
AtMapped mapped addr = (m : Mapped) × Contains mapped m × (m.addr ≡ addr)

abbrev AtPlace : List Place → ℕ → Type 0
AtPlace places addr = (p : Place) × Contains places p × (p.addr ≡ addr)

abbrev IsEither : List Mapped → Place → Type 0
IsEither mapped p = (is_node p.trace ≡ true) ⊎ AtMapped mapped p.addr

-- the data record of each mapped block is there; each place is a node or such a data record, and each of these a place
record IsFull (pages : List (List ℕ)) (parts : Parts) : Type 0 where
  there : All (IsThere pages) parts.mapped
  either : All (IsEither parts.mapped) parts.places
  placed : All (λ m. AtPlace parts.places m.addr) parts.mapped

at_left : (xs ys : List Mapped) (addr : ℕ) → AtMapped xs addr → AtMapped (xs ++ ys) addr
at_left xs ys addr is = (is.0, Contains-append_left xs ys is.0 is.1, is.2)

at_right : (xs ys : List Mapped) (addr : ℕ) → AtMapped ys addr → AtMapped (xs ++ ys) addr
at_right xs ys addr is = (is.0, Contains-append_right xs ys is.0 is.1, is.2)

either_left : (xs ys : List Mapped) (p : Place) → IsEither xs p → IsEither (xs ++ ys) p
either_left xs ys p (inl node) = inl node
either_left xs ys p (inr at) = inr (at_left xs ys p.addr at)

either_right : (xs ys : List Mapped) (p : Place) → IsEither ys p → IsEither (xs ++ ys) p
either_right xs ys p (inl node) = inl node
either_right xs ys p (inr at) = inr (at_right xs ys p.addr at)

full_none : (pages : List (List ℕ)) → IsFull pages (record { mapped = []; places = [] })
full_none pages = record { there = All-nil (IsThere pages); either = All-nil (IsEither []); placed = All-nil (λ (m : Mapped). AtPlace [] m.addr) }

full_both : (pages : List (List ℕ)) (p q : Parts) → IsFull pages p → IsFull pages q → IsFull pages (record { mapped = p.mapped ++ q.mapped; places = p.places ++ q.places })
full_both pages p q one two = record {
  there = All-append (IsThere pages) p.mapped q.mapped one.there two.there;
  either = All-append (IsEither (p.mapped ++ q.mapped)) p.places q.places
      (All-weaker (IsEither p.mapped) (IsEither (p.mapped ++ q.mapped)) (either_left p.mapped q.mapped) p.places one.either)
      (All-weaker (IsEither q.mapped) (IsEither (p.mapped ++ q.mapped)) (either_right p.mapped q.mapped) q.places two.either);
  placed = All-append (λ (m : Mapped). AtPlace (p.places ++ q.places) m.addr) p.mapped q.mapped
      (All-weaker (λ (m : Mapped). AtPlace p.places m.addr) (λ (m : Mapped). AtPlace (p.places ++ q.places) m.addr) (λ m at. (at.0, Contains-append_left p.places q.places at.0 at.1, at.2)) p.mapped one.placed)
      (All-weaker (λ (m : Mapped). AtPlace q.places m.addr) (λ (m : Mapped). AtPlace (p.places ++ q.places) m.addr) (λ m at. (at.0, Contains-append_right p.places q.places at.0 at.1, at.2)) q.mapped two.placed);
}

full_node : (pages : List (List ℕ)) (addr : ℕ) (key : List ℕ) (entries : List Entry) (below : Parts) → IsFull pages below → IsFull pages (node_parts addr key entries below)
full_node pages addr key entries below is =
    let here : Place = record { addr = addr; key = key; trace = NodeOver (map (λ (e : Entry). e.addr) entries) } in
    record {
      there = is.there;
      either = All-cons (IsEither below.mapped) here below.places (inl refl) is.either;
      placed = All-weaker (λ (m : Mapped). AtPlace below.places m.addr) (λ (m : Mapped). AtPlace (here ∷ below.places) m.addr)
          (λ m at. (at.0, Contains-append_right (here ∷ []) below.places at.0 at.1, at.2)) below.mapped is.placed;
    }

full_data : (pages : List (List ℕ)) (addr block : ℕ) (key content : List ℕ) → addr < 2 ^ 64 → IsRecordAt pages addr key (DataRecord block content) → IsFull pages (data_parts addr key block content)
full_data pages addr block key content small is =
    let m : Mapped = record { block = block; addr = addr; key = key; content = content } in
    let p : Place = record { addr = addr; key = key; trace = DataOf block } in
    record {
      there = All-cons (IsThere pages) m [] (record { small = small; is = is }) (All-nil (IsThere pages));
      either = All-cons (IsEither (m ∷ [])) p [] (inr (m, (0, omega arith, refl), refl)) (All-nil (IsEither (m ∷ [])));
      placed = All-cons (λ (n : Mapped). AtPlace (p ∷ []) n.addr) m [] (p, (0, omega arith, refl), refl) (All-nil (λ (n : Mapped). AtPlace (p ∷ []) n.addr));
    }

abbrev AreFull : List (List ℕ) → (Want → List ℕ → Parts → Type 0) → Type 0
AreFull pages Below = (want : Want) (key : List ℕ) (parts : Parts) → want.addr < 2 ^ 64 → Below want key parts → IsFull pages parts

each_full : (pages : List (List ℕ)) (Below : Want → List ℕ → Parts → Type 0) (order level high : ℕ) (entries : List Entry) (children : List Parts) → AreFull pages Below → All (λ e. e.addr < 2 ^ 64) entries → EachChild Below order level high entries children → IsFull pages (joined children)
each_full pages Below order level high [] [] full small each = full_none pages
each_full pages Below order level high [] (parts ∷ children) full small each = absurd each
each_full pages Below order level high (entry ∷ entries) [] full small each = absurd each
each_full pages Below order level high (entry ∷ entries) (parts ∷ children) full small each =
    full_both pages parts (joined children)
    (full (child_want order level entry (bound_of entries high)) entry.key parts (All-head (λ (e : Entry). e.addr < 2 ^ 64) entry entries small) each.0)
    (each_full pages Below order level high entries children full (All-tail (λ (e : Entry). e.addr < 2 ^ 64) entry entries small) each.1)

subtree_full : (pages : List (List ℕ)) (order level : ℕ) → AreFull pages (Subtree pages order level)
unfolding Subtree
subtree_full pages order zero want key parts small is = subst (IsFull pages) (sym is.has) (full_data pages want.addr want.low key is.content small is.fits.0)
subtree_full pages order (suc level) want key parts small is =
    subst (IsFull pages) (sym is.has)
    (full_node pages want.addr key is.entries (joined is.children)
    (each_full pages (Subtree pages order level) order level want.high is.entries is.children (subtree_full pages order level)
    (All-weaker (λ (e : Entry). e.addr < want.addr) (λ (e : Entry). e.addr < 2 ^ 64) (λ e below. omega (arith, below, small)) is.entries is.fits.0.in_range.0.below) is.each))

tree_full : (pages : List (List ℕ)) (root : Root) (parts : Parts) → FitsRoot root → Tree pages root parts → IsFull pages parts
tree_full pages root parts fits is = subtree_full pages root.order root.level (root_want root) root.key parts (omega (arith, fits.addr, fits.head)) is

-- ---- one content each

contents_are : (pages : List (List ℕ)) (ms : List Mapped) (contents : List (List ℕ)) → All (IsThere pages) ms → AreData pages (map entry_of ms) contents → contents ≡ map (λ m. m.content) ms
contents_are pages [] [] there are = refl
contents_are pages [] (content ∷ contents) there are = absurd are
contents_are pages (m ∷ ms) [] there are = absurd are
contents_are pages (m ∷ ms) (content ∷ contents) there are =
    let here = All-head (IsThere pages) m ms there in
    let value : DataRecord m.block content ≡ DataRecord m.block m.content = one_record pages m.addr m.key _ _ here.small are.0 here.is in
    let first : content ≡ m.content = cc in
    let rest : contents ≡ map (λ (n : Mapped). n.content) ms = contents_are pages ms contents (All-tail (IsThere pages) m ms there) are.1 in
    λ i. first i ∷ rest i

-- the data records of a tree's entries have the contents that the tree has
pub tree_contents : (pages : List (List ℕ)) (root : Root) (parts : Parts) (contents : List (List ℕ)) → FitsRoot root → Tree pages root parts → AreData pages (map entry_of parts.mapped) contents → contents ≡ map (λ m. m.content) parts.mapped
tree_contents pages root parts contents fits is are = contents_are pages parts.mapped contents (tree_full pages root parts fits is).there are

-- ---- the same blocks with the same contents

abbrev pub pair_of : Mapped → ℕ × List ℕ
pair_of m = (m.block, m.content)

pub same_pairs : (copies : List Entry) (ms : List Mapped) → map (λ e. e.low) copies ≡ map (λ m. m.block) ms → map pair_of (mapped_of copies (map (λ m. m.content) ms)) ≡ map pair_of ms
same_pairs [] [] same = refl
same_pairs [] (m ∷ ms) same = absurd (cc)
same_pairs (e ∷ es) [] same = absurd (cc)
same_pairs (e ∷ es) (m ∷ ms) same =
    let first : e.low ≡ m.block = cc in
    let lows : map (λ (x : Entry). x.low) es ≡ map (λ (n : Mapped). n.block) ms = cc in
    let rest = same_pairs es ms lows in
    ap (λ (b : ℕ). pair_of (record { block = b; addr = e.addr; key = e.key; content = m.content }) ∷ map pair_of (mapped_of es (map (λ (n : Mapped). n.content) ms))) first ∙ ap (λ (ps : List (ℕ × List ℕ)). pair_of m ∷ ps) rest

pub entry_lows : (ms : List Mapped) → map (λ e. e.low) (map entry_of ms) ≡ map (λ m. m.block) ms
entry_lows [] = refl
entry_lows (m ∷ ms) = ap (λ (ns : List ℕ). m.block ∷ ns) (entry_lows ms)

pub entry_addrs : (ms : List Mapped) → map (λ e. e.addr) (map entry_of ms) ≡ map (λ m. m.addr) ms
entry_addrs [] = refl
entry_addrs (m ∷ ms) = ap (λ (ns : List ℕ). m.addr ∷ ns) (entry_addrs ms)

-- as many as there are data records
pub mapped_many : (pages : List (List ℕ)) (copies : List Entry) (contents : List (List ℕ)) → AreData pages copies contents → length (mapped_of copies contents) ≡ length copies
mapped_many pages [] contents are = refl
mapped_many pages (e ∷ es) [] are = absurd are
mapped_many pages (e ∷ es) (content ∷ contents) are = ap suc (mapped_many pages es contents are.1)

-- ---- the addresses of a tree

filtered : (ps : List Place) (p : Place) → Contains ps p → is_node p.trace ≡ true → Contains (filter (λ q. is_node q.trace) ps) p
filtered [] p (i, within, same) is = absurd (omega (arith, within))
filtered (q ∷ ps) p (zero, within, same) is = rw (ap (λ (x : Place). is_node x.trace) same ∙ is) (zero, omega arith, same)
filtered (q ∷ ps) p (suc i, within, same) is = behind (is_node q.trace) (filtered ps p (i, omega (arith, within), same) is)
  where
    behind : (b : Bool) → Contains (filter (λ x. is_node x.trace) ps) p → Contains (cond b (q ∷ filter (λ x. is_node x.trace) ps) (filter (λ x. is_node x.trace) ps)) p
    behind true has = Contains-append_right (q ∷ []) (filter (λ (x : Place). is_node x.trace) ps) p has
    behind false has = has

from_filtered : (ps : List Place) (p : Place) → Contains (filter (λ q. is_node q.trace) ps) p → Contains ps p
from_filtered [] p (i, within, same) = absurd (omega (arith, within))
from_filtered (q ∷ ps) p has = by (is_node q.trace) has (from_filtered ps p)
  where
    by : (b : Bool) → Contains (cond b (q ∷ filter (λ x. is_node x.trace) ps) (filter (λ x. is_node x.trace) ps)) p → (Contains (filter (λ x. is_node x.trace) ps) p → Contains ps p) → Contains (q ∷ ps) p
    by true (zero, within, same) rest = (zero, omega arith, same)
    by true (suc i, within, same) rest = Contains-append_right (q ∷ []) ps p (rest (i, omega (arith, within), same))
    by false has rest = Contains-append_right (q ∷ []) ps p (rest has)

-- each place of a tree has an address of its nodes or of its data records
pub place_listed : (pages : List (List ℕ)) (root : Root) (parts : Parts) (p : Place) → FitsRoot root → Tree pages root parts → Contains parts.places p → Contains (node_addrs parts.places ++ map (λ m. m.addr) parts.mapped) p.addr
place_listed pages root parts p fits tree has = elim (All-contains (IsEither parts.mapped) parts.places p (tree_full pages root parts fits tree).either has) [
  | inl node ↦ Contains-append_left (node_addrs parts.places) (map (λ (m : Mapped). m.addr) parts.mapped) p.addr
      (map_contains (λ (q : Place). q.addr) (filter (λ (q : Place). is_node q.trace) parts.places) p (filtered parts.places p has node))
  | inr at ↦ Contains-append_right (node_addrs parts.places) (map (λ (m : Mapped). m.addr) parts.mapped) p.addr
      (subst (Contains (map (λ (m : Mapped). m.addr) parts.mapped)) at.2 (map_contains (λ (m : Mapped). m.addr) parts.mapped at.0 at.1))
]

-- and each of these is that of a place
pub listed_place : (pages : List (List ℕ)) (root : Root) (parts : Parts) (addr : ℕ) → FitsRoot root → Tree pages root parts → Contains (node_addrs parts.places ++ map (λ m. m.addr) parts.mapped) addr → (p : Place) × Contains parts.places p × (p.addr ≡ addr)
listed_place pages root parts addr fits tree has = elim (Contains-append_cases (node_addrs parts.places) (map (λ (m : Mapped). m.addr) parts.mapped) addr has) [
  | inl node ↦ (let p = contains_map (λ (q : Place). q.addr) (filter (λ (q : Place). is_node q.trace) parts.places) addr node in (p.0, from_filtered parts.places p.0 p.1, p.2))
  | inr at ↦
      (let m = contains_map (λ (n : Mapped). n.addr) parts.mapped addr at in
      let p = All-contains (λ (n : Mapped). AtPlace parts.places n.addr) parts.mapped m.0 (tree_full pages root parts fits tree).placed m.1 in
      (p.0, p.1, p.2 ∙ m.2))
]
