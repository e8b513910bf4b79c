-- Trees: that there is one at most, what keeps it, and that none has a wrong place.
use Rattle.std.proofs.Common.{◌≡◌, inl, inr, ℕ, zero, suc, ◌<◌, ◌^◌, List, [], ◌∷◌, ◌++◌, map, refl, sym, ap, subst, ◌∙◌, arith}
use Rattle.std.specs.Prelude.{All, Some, slice_get}
use Rattle.std.proofs.lemmas.List.Elements.{All-nil, All-cons, All-head, All-tail, All-weaker, All-append}
use Rattle.node_codec.specs.declared.body.Entry.{Entry}
use Rattle.node_codec.specs.Record.{DataRecord, NodeRecord}
use Rattle.root_codec.specs.declared.root.Root.{Root}
use Rattle.root_codec.specs.RootRecord.{FitsRoot}
use Rattle.page_store.specs.declared.wants.Want.{Want}
use Rattle.page_store.specs.Places.{FitsAt, root_want, child_want}
use Rattle.sdbt_base.specs.Traces.{DataOf, NodeOver}
use Rattle.page_store.specs.Tree.{Place, Parts, joined, data_parts, node_parts, bound_of, EachChild, SomeChild, Subtree, Tree, WrongBelow, Wrong}
use Rattle.page_store.proofs.RecordLaws.{one_record, record_kept, slice_get-front}

All-left : {A : Type 0} (P : A → Type 0) (xs ys : List A) → All P (xs ++ ys) → All P xs
All-left P [] ys all = All-nil P
All-left P (x ∷ xs) ys all = All-cons P x xs (All-head P x (xs ++ ys) all) (All-left P xs ys (All-tail P x (xs ++ ys) all))

All-right : {A : Type 0} (P : A → Type 0) (xs ys : List A) → All P (xs ++ ys) → All P ys
All-right P [] ys all = all
All-right P (x ∷ xs) ys all = All-right P xs ys (All-tail P x (xs ++ ys) all)

-- the children of a node that fits have lower addresses
small_children : (pages : List (List ℕ)) (want : Want) (key : List ℕ) (level : ℕ) (entries : List Entry) → want.addr < 2 ^ 64 → FitsAt pages want key (NodeRecord level entries) → All (λ e. e.addr < 2 ^ 64) entries
small_children pages want key level entries small fits =
    All-weaker (λ (e : Entry). e.addr < want.addr) (λ (e : Entry). e.addr < 2 ^ 64) (λ e below. omega arith) entries fits.0.in_range.0.below

-- ---- one tree

abbrev IsOne : (Want → List ℕ → Parts → Type 0) → Type 0
IsOne Below = (want : Want) (key : List ℕ) (one other : Parts) → want.addr < 2 ^ 64 → Below want key one → Below want key other → one ≡ other

each_same : (Below : Want → List ℕ → Parts → Type 0) (order level high : ℕ) (entries : List Entry) (ones others : List Parts) → IsOne Below → All (λ e. e.addr < 2 ^ 64) entries → EachChild Below order level high entries ones → EachChild Below order level high entries others → ones ≡ others
each_same Below order level high [] [] [] same small each each' = refl
each_same Below order level high [] [] (other ∷ others) same small each each' = absurd each'
each_same Below order level high [] (one ∷ ones) others same small each each' = absurd each
each_same Below order level high (entry ∷ entries) [] others same small each each' = absurd each
each_same Below order level high (entry ∷ entries) (one ∷ ones) [] same small each each' = absurd each'
each_same Below order level high (entry ∷ entries) (one ∷ ones) (other ∷ others) same small each each' =
    let first : one ≡ other = same (child_want order level entry (bound_of entries high)) entry.key one other (All-head (λ (e : Entry). e.addr < 2 ^ 64) entry entries small) each.0 each'.0 in
    let rest : ones ≡ others = each_same Below order level high entries ones others same (All-tail (λ (e : Entry). e.addr < 2 ^ 64) entry entries small) each.1 each'.1 in
    λ i. first i ∷ rest i

one_subtree : (pages : List (List ℕ)) (order level : ℕ) → IsOne (Subtree pages order level)
unfolding Subtree
one_subtree pages order zero want key one other small is is' =
    let value : DataRecord want.low is.content ≡ DataRecord want.low is'.content = one_record pages want.addr key _ _ small is.fits.0 is'.fits.0 in
    let content : is.content ≡ is'.content = cc in
    is.has ∙ ap (data_parts want.addr key want.low) content ∙ sym is'.has
one_subtree pages order (suc level) want key one other small is is' =
    let value : NodeRecord (suc level) is.entries ≡ NodeRecord (suc level) is'.entries = one_record pages want.addr key _ _ small is.fits.0 is'.fits.0 in
    let entries : is.entries ≡ is'.entries = cc in
    let each' = subst (λ (es : List Entry). EachChild (Subtree pages order level) order level want.high es is'.children) (sym entries) is'.each in
    let children : is.children ≡ is'.children = each_same (Subtree pages order level) order level want.high is.entries is.children is'.children (one_subtree pages order level) (small_children pages want key (suc level) is.entries small is.fits) is.each each' in
    is.has ∙ (λ i. node_parts want.addr key (entries i) (joined (children i))) ∙ sym is'.has

-- over the same pages a root has one tree at most
pub one_tree : (pages : List (List ℕ)) (root : Root) (one other : Parts) → FitsRoot root → Tree pages root one → Tree pages root other → one ≡ other
one_tree pages root one other fits is is' = one_subtree pages root.order root.level (root_want root) root.key one other (omega (arith, fits.addr, fits.head)) is is'

-- ---- pages that read as before

-- a place reads in the one as in the other
abbrev pub ReadsAlike : List (List ℕ) → List (List ℕ) → Place → Type 0
ReadsAlike pages others place = slice_get others place.addr ≡ slice_get pages place.addr

each_kept : (pages others : List (List ℕ)) (Below Below' : Want → List ℕ → Parts → Type 0) (order level high : ℕ) (entries : List Entry) (children : List Parts) → ((want : Want) (key : List ℕ) (parts : Parts) → Below want key parts → All (ReadsAlike pages others) parts.places → Below' want key parts) → EachChild Below order level high entries children → All (ReadsAlike pages others) (joined children).places → EachChild Below' order level high entries children
each_kept pages others Below Below' order level high [] [] kept each alike = tt
each_kept pages others Below Below' order level high [] (parts ∷ children) kept each alike = absurd each
each_kept pages others Below Below' order level high (entry ∷ entries) [] kept each alike = absurd each
each_kept pages others Below Below' order level high (entry ∷ entries) (parts ∷ children) kept each alike = (
  kept (child_want order level entry (bound_of entries high)) entry.key parts each.0 (All-left (ReadsAlike pages others) parts.places (joined children).places alike),
  each_kept pages others Below Below' order level high entries children kept each.1 (All-right (ReadsAlike pages others) parts.places (joined children).places alike),
)

-- what stands from a place on depends on what its own places read alone
pub subtree_kept : (pages others : List (List ℕ)) (order level : ℕ) (want : Want) (key : List ℕ) (parts : Parts) → Subtree pages order level want key parts → All (ReadsAlike pages others) parts.places → Subtree others order level want key parts
unfolding Subtree
subtree_kept pages others order zero want key parts is alike =
    let here = All-head (ReadsAlike pages others) (record { addr = want.addr; key = key; trace = DataOf want.low }) [] (subst (λ (p : Parts). All (ReadsAlike pages others) p.places) is.has alike) in
    record { content = is.content; fits = (record_kept pages others want.addr key _ here is.fits.0, is.fits.1); has = is.has }
subtree_kept pages others order (suc level) want key parts is alike =
    let all = subst (λ (p : Parts). All (ReadsAlike pages others) p.places) is.has alike in
    let first : Place = record { addr = want.addr; key = key; trace = NodeOver (map (λ (e : Entry). e.addr) is.entries) } in
    let here = All-head (ReadsAlike pages others) first (joined is.children).places all in
    let below = All-tail (ReadsAlike pages others) first (joined is.children).places all in
    record {
      entries = is.entries;
      children = is.children;
      fits = (record_kept pages others want.addr key _ here is.fits.0, is.fits.1);
      each = each_kept pages others (Subtree pages order level) (Subtree others order level) order level want.high is.entries is.children (subtree_kept pages others order level) is.each below;
      has = is.has;
    }

-- a tree depends on what its own places read alone
pub tree_kept : (pages others : List (List ℕ)) (root : Root) (parts : Parts) → Tree pages root parts → All (ReadsAlike pages others) parts.places → Tree others root parts
tree_kept pages others root parts is alike = subtree_kept pages others root.order root.level (root_want root) root.key parts is alike

-- each place of a tree can be read
abbrev pub IsRead : List (List ℕ) → Place → Type 0
IsRead pages place = (page : List ℕ) × (slice_get pages place.addr ≡ Some page)

each_read : (pages : List (List ℕ)) (Below : Want → List ℕ → Parts → Type 0) (order level high : ℕ) (entries : List Entry) (children : List Parts) → ((want : Want) (key : List ℕ) (parts : Parts) → Below want key parts → All (IsRead pages) parts.places) → EachChild Below order level high entries children → All (IsRead pages) (joined children).places
each_read pages Below order level high [] [] read each = All-nil (IsRead pages)
each_read pages Below order level high [] (parts ∷ children) read each = absurd each
each_read pages Below order level high (entry ∷ entries) [] read each = absurd each
each_read pages Below order level high (entry ∷ entries) (parts ∷ children) read each =
    All-append (IsRead pages) parts.places (joined children).places
    (read (child_want order level entry (bound_of entries high)) entry.key parts each.0)
    (each_read pages Below order level high entries children read each.1)

pub subtree_read : (pages : List (List ℕ)) (order level : ℕ) (want : Want) (key : List ℕ) (parts : Parts) → Subtree pages order level want key parts → All (IsRead pages) parts.places
unfolding Subtree
subtree_read pages order zero want key parts is =
    let here : Place = record { addr = want.addr; key = key; trace = DataOf want.low } in
    subst (λ (p : Parts). All (IsRead pages) p.places) (sym is.has) (All-cons (IsRead pages) here [] (is.fits.0.page, is.fits.0.reads) (All-nil (IsRead pages)))
subtree_read pages order (suc level) want key parts is =
    let here : Place = record { addr = want.addr; key = key; trace = NodeOver (map (λ (e : Entry). e.addr) is.entries) } in
    let below = each_read pages (Subtree pages order level) order level want.high is.entries is.children (subtree_read pages order level) is.each in
    subst (λ (p : Parts). All (IsRead pages) p.places) (sym is.has) (All-cons (IsRead pages) here (joined is.children).places (is.fits.0.page, is.fits.0.reads) below)

pub tree_read : (pages : List (List ℕ)) (root : Root) (parts : Parts) → Tree pages root parts → All (IsRead pages) parts.places
tree_read pages root parts is = subtree_read pages root.order root.level (root_want root) root.key parts is

-- pages that are added keep a tree
pub tree_stays : (pages more : List (List ℕ)) (root : Root) (parts : Parts) → Tree pages root parts → Tree (pages ++ more) root parts
tree_stays pages more root parts is =
    tree_kept pages (pages ++ more) root parts is
    (All-weaker (IsRead pages) (ReadsAlike pages (pages ++ more)) (λ place read. slice_get-front pages more place.addr read.0 read.1 ∙ sym read.1) parts.places (tree_read pages root parts is))

-- ---- no place of a tree is wrong

none_below : (Below : Want → List ℕ → Parts → Type 0) (Bad : Want → List ℕ → Type 0) (order level high : ℕ) (entries : List Entry) (children : List Parts) → ((want : Want) (key : List ℕ) (parts : Parts) → want.addr < 2 ^ 64 → Below want key parts → Bad want key → ⊥) → All (λ e. e.addr < 2 ^ 64) entries → EachChild Below order level high entries children → SomeChild Bad order level high entries → ⊥
none_below Below Bad order level high [] children never small each bad = bad
none_below Below Bad order level high (entry ∷ entries) [] never small each bad = each
none_below Below Bad order level high (entry ∷ entries) (parts ∷ children) never small each (inl first) =
    never (child_want order level entry (bound_of entries high)) entry.key parts (All-head (λ (e : Entry). e.addr < 2 ^ 64) entry entries small) each.0 first
none_below Below Bad order level high (entry ∷ entries) (parts ∷ children) never small each (inr rest) =
    none_below Below Bad order level high entries children never (All-tail (λ (e : Entry). e.addr < 2 ^ 64) entry entries small) each.1 rest

none_wrong : (pages : List (List ℕ)) (addr order level : ℕ) (want : Want) (key : List ℕ) (parts : Parts) → want.addr < 2 ^ 64 → Subtree pages order level want key parts → WrongBelow pages addr order level want key → ⊥
unfolding Subtree WrongBelow
none_wrong pages addr order zero want key parts small is wrong = wrong.nothing _ is.fits
none_wrong pages addr order (suc level) want key parts small is (inl wrong) = wrong.nothing _ is.fits
none_wrong pages addr order (suc level) want key parts small is (inr above) =
    let value : NodeRecord (suc level) above.entries ≡ NodeRecord (suc level) is.entries = one_record pages want.addr key _ _ small above.fits.0 is.fits.0 in
    let entries : above.entries ≡ is.entries = cc in
    let some = subst (λ (es : List Entry). SomeChild (WrongBelow pages addr order level) order level want.high es) entries above.some in
    none_below (Subtree pages order level) (WrongBelow pages addr order level) order level want.high is.entries is.children (none_wrong pages addr order level) (small_children pages want key (suc level) is.entries small is.fits) is.each some

-- where there is a tree, no place is wrong
pub tree_not_wrong : (pages : List (List ℕ)) (root : Root) (parts : Parts) (addr : ℕ) → FitsRoot root → Tree pages root parts → Wrong pages root addr → ⊥
tree_not_wrong pages root parts addr fits is wrong = none_wrong pages addr root.order root.level (root_want root) root.key parts (omega (arith, fits.addr, fits.head)) is wrong
