-- What is planned is what is sealed.
use Rattle.std.proofs.Common.{◌≡◌, ℕ, zero, suc, ◌+◌, ◌≤◌, ◌<◌, Bool, false, List, [], ◌∷◌, ◌++◌, length, map, take, drop, get_or, refl, sym, ap, subst, ◌∙◌, arith, append_assoc, append-nil, length-append}
use Rattle.std.specs.Prelude.{◌==◌, ◌&&◌, nat_le, if◌then◌else◌}
use Rattle.std.proofs.lemmas.Bool.Decides.{nat_tests}
use Rattle.std.specs.List.{filter}
use Rattle.std.specs.List.Sorted.{IsPermutation}
use Rattle.std.proofs.lemmas.List.{map-append, take_all, drop_all}
use Rattle.std.proofs.lemmas.List.Elements.{filter-append}
use Rattle.std.proofs.lemmas.List.Sorted.{IsPermutation-refl, IsPermutation-trans, IsPermutation-append_left, IsPermutation-append_right, IsPermutation-append_comm}
use Rattle.sdbt_base.specs.Traces.{Traced, NodeOver}
use Rattle.node_codec.specs.declared.body.Entry.{Entry}
use Rattle.btree_twigs.specs.declared.twigs.Child.{Child, out-Child}
use Rattle.btree_twigs.specs.declared.twigs.Child.TheVariants as made
use Rattle.btree_twigs.specs.declared.twigs.Twig.{Twig}
use Rattle.btree_twigs.specs.Stubs.{Stub, datum, datum_in, start_by, stubs_by, stubs_in, low_of, children_of, stubs, nodes, nodes_in}
use Rattle.shadow_commit.specs.Sealed.{Sealed, SealsEach, SealsNode, SealsKept, SealsDatum, SealsIn, Seals}
use Rattle.shadow_commit.specs.Planned.{traced_of, is_new_record, traced_record, new_records, added_by, AddsOf}

-- ---- one child behind others

-- a sealing of children, and of one behind them
pub record IsSnoc (Below : ℕ → Child → List Sealed → Entry → Type 0) (first : ℕ) (cs : List Child) (c : Child) (ns : List Sealed) (es : List Entry) : Type 0 where
  pub front : List Sealed
  pub here : List Sealed
  pub entries : List Entry
  pub entry : Entry
  pub each : SealsEach Below first cs front entries
  pub one : Below (first + length front) c here entry
  pub nodes_are : ns ≡ front ++ here
  pub entries_are : es ≡ entries ++ entry ∷ []

pub unsnoc : (Below : ℕ → Child → List Sealed → Entry → Type 0) (first : ℕ) (cs : List Child) (c : Child) (ns : List Sealed) (es : List Entry) → SealsEach Below first (cs ++ c ∷ []) ns es → IsSnoc Below first cs c ns es
unsnoc Below first [] c ns es h =
    let zero_more : first ≡ first + 0 = omega arith in
    record {
      front = [];
      here = h.here;
      entries = [];
      entry = h.entry;
      each = (refl, refl);
      one = subst (λ n. Below n c h.here h.entry) zero_more h.one;
      nodes_are = h.nodes_are ∙ ap (λ xs. h.here ++ xs) h.more.0 ∙ append-nil h.here;
      entries_are = h.entries_are ∙ ap (λ xs. h.entry ∷ xs) h.more.1;
    }
unsnoc Below first (d ∷ cs) c ns es h =
    let rest = unsnoc Below (first + length h.here) cs c h.rest h.others h.more in
    let at : first + length h.here + length rest.front ≡ first + length (h.here ++ rest.front) = omega (arith, length-append h.here rest.front) in
    record {
      front = h.here ++ rest.front;
      here = rest.here;
      entries = h.entry ∷ rest.entries;
      entry = rest.entry;
      each = record { here = h.here; rest = rest.front; entry = h.entry; others = rest.entries; one = h.one; more = rest.each; nodes_are = refl; entries_are = refl };
      one = subst (λ n. Below n c rest.here rest.entry) at rest.one;
      nodes_are = h.nodes_are ∙ ap (λ xs. h.here ++ xs) rest.nodes_are ∙ sym (append_assoc h.here rest.front rest.here);
      entries_are = h.entries_are ∙ ap (λ xs. h.entry ∷ xs) rest.entries_are;
    }

pub kept_is : (version level first : ℕ) (c : Child) (low addr : ℕ) (key : List ℕ) (ns : List Sealed) (e : Entry) → c ≡ made.Kept low addr key → Seals version level first c ns e → SealsKept version low addr key ns e
unfolding Seals
kept_is version zero first c low addr key ns e is h = subst (λ x. SealsDatum version x ns e) (ap out-Child is ∙ made.outs-Kept low addr key) h
kept_is version (suc level) first c low addr key ns e is h = subst (λ x. SealsIn version (Seals version level) level first x ns e) (ap out-Child is ∙ made.outs-Kept low addr key) h

pub kept_none : (level low addr : ℕ) (key : List ℕ) (c : Child) → c ≡ made.Kept low addr key → nodes level c ≡ 0
unfolding nodes
kept_none zero low addr key c is = refl
kept_none (suc level) low addr key c is = ap (nodes_in (nodes level)) (ap out-Child is ∙ made.outs-Kept low addr key)

pub grown_is : (version level below first : ℕ) (c : Child) (low : ℕ) (twig : Twig) (ns : List Sealed) (e : Entry) → c ≡ made.Grown low twig → level ≡ suc below → Seals version level first c ns e → SealsNode version (Seals version below) below first (children_of twig) ns e.addr e.key
unfolding Seals
grown_is version level below first c low twig ns e is level_is h =
    let at = subst (λ m. Seals version m first c ns e) level_is h in
    (subst (λ x. SealsIn version (Seals version below) below first x ns e) (ap out-Child is ∙ made.outs-Grown low twig) at).node

-- ---- data records

records_append : (base : ℕ) (xs ys : List Stub) → new_records base (xs ++ ys) ≡ new_records base xs ++ new_records base ys
records_append base xs ys = ap (map traced_record) (filter-append (is_new_record base) xs ys) ∙ map-append traced_record (filter (is_new_record base) xs) (filter (is_new_record base) ys)

-- a data record that is kept is one of the places of a leaf
pub datum_is : (high low addr : ℕ) (key : List ℕ) (c : Child) (level : ℕ) → c ≡ made.Kept low addr key → level ≡ 0 → stubs level high c ≡ datum low addr key ∷ []
unfolding stubs
datum_is high low addr key c zero is h = ap datum_in (ap out-Child is ∙ made.outs-Kept low addr key)
datum_is high low addr key c (suc level) is h = absurd (omega (arith, h))

not_zero : (n : ℕ) → (suc n == 0) ≡ false
not_zero n = grind (arith, nat_tests)

none_one : (base : ℕ) (s : Stub) → (s.level == 0) ≡ false → new_records base (s ∷ []) ≡ []
none_one base s apart = ap (λ (b : Bool). map traced_record (if b && nat_le base s.addr then s ∷ [] else [])) apart

-- below a node that is kept there is none that is new
pub none_new : (base high low addr : ℕ) (key : List ℕ) (c : Child) (level : ℕ) → c ≡ made.Kept low addr key → (level ≡ 0 → ⊥) → new_records base (stubs level high c) ≡ []
unfolding stubs
none_new base high low addr key c zero is h = absurd (h refl)
none_new base high low addr key c (suc level) is h =
    ap (new_records base) (ap (stubs_in (stubs level) (suc level) high) (ap out-Child is ∙ made.outs-Kept low addr key))
    ∙ none_one base (record { level = suc level; low = low; high = high; addr = addr; key = key }) (not_zero level)

-- ---- what a list has

-- nothing is sealed
pub adds_records : (base : ℕ) (places : List Stub) (ns : List Sealed) (old new : List Traced) → ns ≡ [] → new ≡ old ++ new_records base places → AddsOf base places ns old new
adds_records base places ns old new none is =
    subst (λ xs. IsPermutation xs new) (is ∙ ap (λ ms. old ++ (map traced_of ms ++ new_records base places)) (sym none)) (IsPermutation-refl new)

-- of a child that is kept
pub adds_kept : (base high low addr : ℕ) (key : List ℕ) (c : Child) (level : ℕ) (in_leaf : Bool) (ns : List Sealed) (old new : List Traced) → c ≡ made.Kept low addr key → in_leaf ≡ (level == 0) → ns ≡ [] →
    new ≡ old ++ (if in_leaf then new_records base (datum low addr key ∷ []) else []) → AddsOf base (stubs level high c) ns old new
adds_kept base high low addr key c zero in_leaf ns old new is leaf none new_is =
    let places = datum_is high low addr key c 0 is refl in
    adds_records base (stubs 0 high c) ns old new none (new_is ∙ (λ i. old ++ (if leaf i then new_records base (datum low addr key ∷ []) else [])) ∙ ap (λ ss. old ++ new_records base ss) (sym places))
adds_kept base high low addr key c (suc level) in_leaf ns old new is leaf none new_is =
    let nothing = none_new base high low addr key c (suc level) is (λ e. absurd (omega (arith, e))) in
    let off : in_leaf ≡ false = leaf ∙ not_zero level in
    adds_records base (stubs (suc level) high c) ns old new none (new_is ∙ (λ i. old ++ (if off i then new_records base (datum low addr key ∷ []) else [])) ∙ ap (λ xs. old ++ xs) (sym nothing))

-- a node is a leaf where its children are at level 0
pub leaf_test : (level of_twig : ℕ) → of_twig ≡ suc level → (of_twig == 1) ≡ (level == 0)
leaf_test level of_twig is = ap (λ n. n == 1) is ∙ by level
  where
    by : (level : ℕ) → (suc level == 1) ≡ (level == 0)
    by zero = refl
    by (suc level) = grind (arith, nat_tests)

crossed : (a b c d : List Traced) → IsPermutation ((a ++ b) ++ (c ++ d)) ((a ++ c) ++ (b ++ d))
crossed a b c d =
    let mid = IsPermutation-append_right a ((b ++ c) ++ d) ((c ++ b) ++ d) (IsPermutation-append_left d (b ++ c) (c ++ b) (IsPermutation-append_comm b c)) in
    let one : a ++ ((b ++ c) ++ d) ≡ (a ++ b) ++ (c ++ d) = ap (λ xs. a ++ xs) (append_assoc b c d) ∙ sym (append_assoc a b (c ++ d)) in
    let two : a ++ ((c ++ b) ++ d) ≡ (a ++ c) ++ (b ++ d) = ap (λ xs. a ++ xs) (append_assoc c b d) ∙ sym (append_assoc a c (b ++ d)) in
    subst (λ xs. IsPermutation xs ((a ++ c) ++ (b ++ d))) one (subst (IsPermutation (a ++ ((b ++ c) ++ d))) two mid)

-- one child more
pub adds_more : (base : ℕ) (front_places here_places places : List Stub) (old mid new : List Traced) (front here ns : List Sealed) → places ≡ front_places ++ here_places → ns ≡ front ++ here →
    AddsOf base front_places front old mid → AddsOf base here_places here mid new → AddsOf base places ns old new
adds_more base fs hs places old mid new front here ns places_are ns_are one two =
    let a = map traced_of front in
    let b = new_records base fs in
    let c = map traced_of here in
    let d = new_records base hs in
    let all : added_by base places ns ≡ (a ++ c) ++ (b ++ d)
    = (λ i. added_by base (places_are i) (ns_are i)) ∙ (λ i. map-append traced_of front here i ++ records_append base fs hs i) in
    let cross = IsPermutation-append_right old ((a ++ c) ++ (b ++ d)) ((a ++ b) ++ (c ++ d)) (crossed a c b d) in
    let first = IsPermutation-append_left (c ++ d) (old ++ (a ++ b)) mid one in
    let both = IsPermutation-trans (old ++ ((a ++ b) ++ (c ++ d))) (mid ++ (c ++ d)) new (subst (λ xs. IsPermutation xs (mid ++ (c ++ d))) (append_assoc old (a ++ b) (c ++ d)) first) two in
    subst (λ xs. IsPermutation (old ++ xs) new) (sym all) (IsPermutation-trans (old ++ ((a ++ c) ++ (b ++ d))) (old ++ ((a ++ b) ++ (c ++ d))) new cross both)

-- and then the node over the children
pub adds_node : (base : ℕ) (places : List Stub) (old mid new : List Traced) (below ns : List Sealed) (n : Sealed) → ns ≡ below ++ n ∷ [] → AddsOf base places below old mid → new ≡ mid ++ traced_of n ∷ [] → AddsOf base places ns old new
adds_node base places old mid new below ns n is one two =
    let none : places ≡ places ++ [] = sym (append-nil places) in
    let last : AddsOf base [] (n ∷ []) mid new = subst (λ xs. IsPermutation xs new) two (IsPermutation-refl new) in
    adds_more base places [] places old mid new below (n ∷ []) ns none is one last

-- ---- the places below the children so far

start_take : (high i : ℕ) (cs : List Child) → start_by low_of (take i cs) (start_by low_of (drop i cs) high) ≡ start_by low_of cs high
start_take high zero cs = refl
start_take high (suc i) [] = refl
start_take high (suc i) (c ∷ cs) = refl

-- the places below the first children, up to where the next one begins
abbrev pub places_so_far : ℕ → ℕ → ℕ → List Child → List Stub
places_so_far level high i cs = stubs_by low_of (stubs level) (start_by low_of (drop i cs) high) (take i cs)

places_next : (level high i : ℕ) (cs : List Child) (c : Child) → i < length cs → c ≡ get_or cs i c → places_so_far level high (suc i) cs ≡ places_so_far level high i cs ++ stubs level (start_by low_of (drop (suc i) cs) high) c
places_next level high i [] c lt is = absurd (omega (arith, lt))
places_next level high zero (d ∷ cs) c lt is = append-nil (stubs level (start_by low_of cs high) d) ∙ ap (stubs level (start_by low_of cs high)) (sym is)
places_next level high (suc i) (d ∷ cs) c lt is =
    let rest = places_next level high i cs c (omega (arith, lt)) is in
    let one : start_by low_of (take (suc i) cs) (start_by low_of (drop (suc i) cs) high) ≡ start_by low_of (take i cs) (start_by low_of (drop i cs) high) = start_take high (suc i) cs ∙ sym (start_take high i cs) in
    (λ j. stubs level (one j) d ++ rest j) ∙ sym (append_assoc (stubs level (start_by low_of (take i cs) (start_by low_of (drop i cs) high)) d) (places_so_far level high i cs) (stubs level (start_by low_of (drop (suc i) cs) high) c))

pub places_more : (level high i : ℕ) (cs : List Child) (c : Child) → i < length cs → c ≡ get_or cs i c → places_so_far level high (i + 1) cs ≡ places_so_far level high i cs ++ stubs level (start_by low_of (drop (suc i) cs) high) c
places_more level high i cs c lt is =
    let next : i + 1 ≡ suc i = omega arith in
    ap (λ n. places_so_far level high n cs) next ∙ places_next level high i cs c lt is

pub places_all : (level high i : ℕ) (cs : List Child) → length cs ≤ i → places_so_far level high i cs ≡ stubs_by low_of (stubs level) high cs
places_all level high i cs le = λ j. stubs_by low_of (stubs level) (start_by low_of (none j) high) (all j)
  where
    none : drop i cs ≡ []
    none = drop_all i cs le

    all : take i cs ≡ cs
    all = take_all i cs le

pub more_addrs : (addrs new : List ℕ) (addr : ℕ) (es all : List Entry) (e : Entry) → all ≡ es ++ e ∷ [] → addrs ≡ map (λ (e : Entry). e.addr) es → new ≡ addrs ++ addr ∷ [] → e.addr ≡ addr → new ≡ map (λ (e : Entry). e.addr) all
more_addrs addrs new addr es all e is one two at =
    two ∙ ap (λ xs. xs ++ addr ∷ []) one ∙ ap (λ n. map (λ (e : Entry). e.addr) es ++ n ∷ []) (sym at) ∙ sym (map-append (λ (e : Entry). e.addr) es (e ∷ [])) ∙ ap (map (λ (e : Entry). e.addr)) (sym is)

-- the item of a node
pub item_is : (addr : ℕ) (children : List ℕ) (n : Sealed) → n.addr ≡ addr → children ≡ map (λ (e : Entry). e.addr) n.entries → record { addr = addr; trace = NodeOver children } ≡ traced_of n
item_is addr children n is are = λ i. record { addr = sym is i; trace = NodeOver (are i) }
