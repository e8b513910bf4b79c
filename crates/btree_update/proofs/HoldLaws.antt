-- What is held of the way to a block.
use Rattle.std.proofs.Common.{◌≡◌, ℕ, zero, suc, ◌-◌, ◌/◌, ◌<◌, ◌≤◌, ◌^◌, List, [], ◌∷◌, ◌++◌, length, take, drop, refl, sym, ap, subst, ◌∙◌, arith}
use Rattle.std.specs.List.{AllByRecursion}
use Rattle.std.proofs.lemmas.List.Elements.{recursion_from_All}
use Rattle.sdbt_base.specs.Keys.{version_of}
use Rattle.node_codec.specs.declared.body.Entry.{Entry}
use Rattle.page_store.specs.declared.wants.Want.{Want}
use Rattle.btree_twigs.specs.declared.twigs.Child.{Child}
use Rattle.btree_twigs.specs.declared.twigs.Child.TheVariants as made
use Rattle.btree_twigs.specs.declared.twigs.Twig.{Twig}
use Rattle.btree_twigs.specs.Stubs.{Stub, start_by, low_of, children_of, stubs, stubs_in, stubs_below, nodes, nodes_in, nodes_below, sum_by}
use Rattle.btree_twigs.specs.Shape.{EachBy, IsChild, IsTwig}
use Rattle.btree_twigs.specs.Updates.{stubs_under}
use Rattle.btree_twigs.proofs.Nodes.{stubs_of_grown, low_of_grown}
use Rattle.btree_twigs.proofs.Children.{low_of_kept}
use Rattle.btree_twigs.proofs.ListLaws.{start_append, stubs_append, each_front, each_le}
use Rattle.btree_update.specs.GroveTree.{stubs_at, want_at}
use Rattle.btree_update.specs.Reading.{kept_of, all_kept}
use Rattle.btree_update.specs.Held.{stub_at, HasLeast, IsReadAs, OnWay, HeldIn, HeldFor, HeldFrom}
use Rattle.btree_update.specs.Holding.{CanHold, CanHoldBelow, IsNodeFor, IsNodeOf}
use Rattle.btree_update.specs.Held.{Bound, bound, AreBelow}
use Rattle.btree_update.proofs.OpenLaws.{IsOnWay, below_front, below_back, lower}
use Rattle.btree_update.proofs.Readings.{kept_stubs, read_is_twig}
use Rattle.btree_update.proofs.GroveLaws.{above_it}

starts_before : (order level high : ℕ) (gs es : List Child) (d : Child) → EachBy low_of (IsChild order level) high (gs ++ d ∷ es) → start_by low_of (gs ++ d ∷ es) high ≤ low_of d
starts_before order level high gs es d each =
    omega (arith, ap (λ n. n) (start_append low_of gs (d ∷ es) high), each_le low_of (IsChild order level) (low_of d) gs (each_front low_of (IsChild order level) high gs (d ∷ es) each))

-- the way leads to one child alone
pub same_way : (order level high block : ℕ) (fs gs : List Child) (c d : Child) (bs es : List Child) → EachBy low_of (IsChild order level) high (fs ++ c ∷ bs) → fs ++ c ∷ bs ≡ gs ++ d ∷ es →
    low_of c ≤ block → block < start_by low_of bs high → low_of d ≤ block → block < start_by low_of es high → (c ≡ d) × (bs ≡ es)
same_way order level high block [] [] c d bs es each e from to from' to' = (cc, cc)
same_way order level high block [] (g ∷ gs) c d bs es each e from to from' to' =
    let rest : bs ≡ gs ++ d ∷ es = cc in
    let le = starts_before order level high gs es d (subst (EachBy low_of (IsChild order level) high) rest each.2) in
    let lt = subst (λ xs. block < start_by low_of xs high) rest to in
    absurd (omega (arith, le, lt, from'))
same_way order level high block (f ∷ fs) [] c d bs es each e from to from' to' =
    let rest : fs ++ c ∷ bs ≡ es = cc in
    let le = starts_before order level high fs bs c each.2 in
    let lt = subst (λ xs. block < start_by low_of xs high) (sym rest) to' in
    absurd (omega (arith, le, lt, from))
same_way order level high block (f ∷ fs) (g ∷ gs) c d bs es each e from to from' to' =
    let rest : fs ++ c ∷ bs ≡ gs ++ d ∷ es = cc in
    same_way order level high block fs gs c d bs es each.2 rest from to from' to'

-- nothing is on the way
pub no_way : (Rest : ℕ → Child → Type 0) (order level least low high block : ℕ) (twig : Twig) → IsTwig order level least order low high twig → block < start_by low_of (children_of twig) high → OnWay block Rest high twig
no_way Rest order level least low high block twig h lt = λ front back c split from to.
    let each = subst (EachBy low_of (IsChild order level) high) split h.node.each in
    let le = starts_before order level high front back c each in
    absurd (omega (arith, le, subst (λ xs. block < start_by low_of xs high) split lt, from))

pub leaf_way : (Reads : ℕ → Stub → Twig → Type 0) (order block level high : ℕ) (twig : Twig) (held : List Twig) → level ≡ 0 → OnWay block (λ end c. HeldFor Reads order block level end c held) high twig
unfolding HeldFor
leaf_way Reads order block zero high twig held is = λ front back c split from to. tt
leaf_way Reads order block (suc level) high twig held is = absurd (omega (arith, is))

-- what holds of the child on the way holds on the way
pub one_way : (Rest : ℕ → Child → Type 0) (order level least low high block n end : ℕ) (twig : Twig) (c : Child) → IsTwig order level least order low high twig → (w : IsOnWay order block level high (children_of twig) n c) →
    Rest (start_by low_of (drop (suc w.at) (children_of twig)) high) c → OnWay block Rest high twig
one_way Rest order level least low high block n end twig c h w r = λ front back d split from to.
    let each = subst (EachBy low_of (IsChild order level) high) w.split h.node.each in
    let same = same_way order level high block (take w.at (children_of twig)) front c d (drop (suc w.at) (children_of twig)) back each (sym w.split ∙ split) w.from w.to from to in
    subst (λ xs. Rest (start_by low_of xs high) d) same.1 (subst (Rest (start_by low_of (drop (suc w.at) (children_of twig)) high)) same.0 r)

-- the places below the child on the way are among those of the node
pub below_child : (order level high block n : ℕ) (most : Bound) (twig : Twig) (c : Child) → (w : IsOnWay order block level high (children_of twig) n c) → AreBelow most (stubs_below level high twig) →
    AreBelow most (stubs level (start_by low_of (drop (suc w.at) (children_of twig)) high) c)
below_child order level high block n most twig c w h =
    let cs = children_of twig in
    let all = subst (AreBelow most) (ap (stubs_under level high) w.split ∙ stubs_append low_of (stubs level) high (take w.at cs) (c ∷ drop (suc w.at) cs)) h in
    below_front most (stubs level (start_by low_of (drop (suc w.at) cs) high) c) (stubs_under level high (drop (suc w.at) cs)) (below_back most (stubs_under level (low_of c) (take w.at cs)) _ all)

-- a node that was read has no node in memory below it
kept_nodes_of : (level : ℕ) (e : Entry) → nodes level (kept_of e) ≡ 0
unfolding nodes
kept_nodes_of zero e = refl
kept_nodes_of (suc level) e = ap (nodes_in (nodes level)) (made.outs-Kept e.low e.addr e.key)

kept_nodes : (level : ℕ) (es : List Entry) → sum_by (nodes level) (all_kept es) ≡ 0
kept_nodes level [] = refl
kept_nodes level (e ∷ es) = omega (arith, kept_nodes_of level e, kept_nodes level es)

pub bare_of : (level : ℕ) (want : Want) (key : List ℕ) (twig : Twig) → IsNodeFor want key twig → nodes_below level twig ≡ 0
bare_of level want key twig h = ap (sum_by (nodes level)) h.children ∙ kept_nodes level h.entries

-- its places have addresses below its own, and keys as long as its own
entries_below : (level high : ℕ) (most : Bound) (es : List Entry) → AllByRecursion (λ (e : Entry). (e.addr < most.head) × (length e.key ≡ most.size)) es → AreBelow most (stubs_at level high es)
entries_below zero high most [] h = tt
entries_below (suc level) high most [] h = tt
entries_below zero high most (e ∷ es) h = (h.0, entries_below zero high most es h.1)
entries_below (suc level) high most (e ∷ es) h = (h.0, entries_below (suc level) high most es h.1)

want_below : (want : Want) (key : List ℕ) (twig : Twig) (h : IsNodeFor want key twig) → AllByRecursion (λ (e : Entry). (e.addr < want.addr) × (length e.key ≡ length key)) h.entries
want_below want key twig h = recursion_from_All (λ (e : Entry). (e.addr < want.addr) × (length e.key ≡ length key)) h.entries (λ k d inside. (h.in_range.below k d inside, h.in_range.sized k d inside ∙ sym h.sized))

pub read_lower : (level high : ℕ) (want : Want) (key : List ℕ) (twig : Twig) → IsNodeFor want key twig → AreBelow (bound want.addr (length key)) (stubs_below level high twig)
read_lower level high want key twig h =
    let own = bound want.addr (length key) in
    subst (AreBelow own) (sym (ap (stubs_under level high) h.children ∙ kept_stubs level high h.entries)) (entries_below level high own h.entries (want_below want key twig h))

read_below : (level high head : ℕ) (want : Want) (key : List ℕ) (twig : Twig) → IsNodeFor want key twig → want.addr < head → AreBelow (bound head (length key)) (stubs_below level high twig)
read_below level high head want key twig h lt = lower (bound want.addr (length key)) (bound head (length key)) _ (omega (arith, lt)) refl (read_lower level high want key twig h)

-- a node that was read is a node in memory
pub node_is_twig : (order level least low high addr : ℕ) (key : List ℕ) (twig : Twig) → order ≤ 64 → (1 ≤ level → 1 ≤ least) → low ≤ high →
    IsNodeFor (record { addr = addr; level = suc level; low = low; high = high; least = least; most = order }) key twig → IsTwig order level least order low high twig
node_is_twig order level least low high addr key twig most some le h =
    read_is_twig order level least (version_of key) (record { addr = addr; level = suc level; low = low; high = high; least = least; most = order }) h.entries twig some refl refl le h.in_range h.wanted h.level_is (omega (arith, h.room, most)) h.children

pub read_as : (pages : List (List ℕ)) (order level low high addr least : ℕ) (key : List ℕ) (twig : Twig) → addr < 2 ^ 64 →
    IsNodeOf pages (record { addr = addr; level = suc level; low = low; high = high; least = least; most = order }) key twig → IsReadAs pages order level (stub_at (suc level) low high addr key) twig
read_as pages order level low high addr least key twig small h = record {
  small = small;
  entries = h.entries;
  here = h.here;
  children = h.children;
}

-- the place of a child on the medium
pub kept_below : (most : Bound) (level high low addr : ℕ) (key : List ℕ) → AreBelow most (stubs (suc level) high (made.Kept low addr key)) → addr < most.head
unfolding stubs
kept_below most level high low addr key h = (subst (λ x. AreBelow most (stubs_in (stubs level) (suc level) high x)) (made.outs-Kept low addr key) h).0.0

-- a child in memory
pub way_grown : (order least level block high head low : ℕ) (twig : Twig) → CanHold order least level block high head (made.Grown low twig) → CanHoldBelow order (level - 1) block high head twig
way_grown order least level block high head low twig at = record {
  least = least;
  low = low;
  two = λ one. at.two (omega (arith, one));
  four = at.four;
  most = at.most;
  shaped = subst (HasLeast order least (level - 1) high) (made.outs-Grown low twig) at.shaped;
  from = omega (arith, at.from, low_of_grown low twig);
  to = at.to;
  size = at.size;
  within = subst (AreBelow (bound head at.size)) (stubs_of_grown (level - 1) high low twig) (subst (λ k. AreBelow (bound head at.size) (stubs k high (made.Grown low twig))) (above_it level at.one) at.within);
}

pub held_grown : (Reads : ℕ → Stub → Twig → Type 0) (order least block level high low : ℕ) (twig : Twig) (held : List Twig) → OnWay block (λ end c. HeldFor Reads order block level end c held) high twig → HeldFrom Reads order least block level high (made.Grown low twig) held
held_grown Reads order least block level high low twig held way = subst (λ x. HeldIn Reads order least block (HeldFor Reads order block level) level high x held) (sym (made.outs-Grown low twig)) way

-- a child on the medium
pub way_lt : (order least level block high head low addr : ℕ) (key : List ℕ) → CanHold order least level block high head (made.Kept low addr key) → addr < head
way_lt order least level block high head low addr key at = kept_below (bound head at.size) (level - 1) high low addr key (subst (λ k. AreBelow (bound head at.size) (stubs k high (made.Kept low addr key))) (above_it level at.one) at.within)

module _ (order least level block high head low addr : ℕ) (key : List ℕ) (twig : Twig) (at : CanHold order least level block high head (made.Kept low addr key)) (h : IsNodeFor (want_at order level low high addr least) key twig) where
  way_shaped : IsTwig order (level - 1) least order low high twig
  way_shaped = node_is_twig order (level - 1) least low high addr key twig at.most (λ one. omega (arith, at.two (omega (arith, one)))) (omega (arith, at.from, at.to, low_of_kept low addr key))
      (subst (λ k. IsNodeFor (want_at order k low high addr least) key twig) (above_it level at.one) h)

  pub way_read : CanHoldBelow order (level - 1) block high head twig
  way_read = record {
    least = least;
    low = low;
    two = λ one. at.two (omega (arith, one));
    four = at.four;
    most = at.most;
    shaped = way_shaped;
    from = omega (arith, at.from, low_of_kept low addr key);
    to = at.to;
    size = length key;
    within = read_below (level - 1) high head (want_at order level low high addr least) key twig h (way_lt order least level block high head low addr key at);
  }

  pub way_held : (Reads : ℕ → Stub → Twig → Type 0) (rest held : List Twig) → held ≡ rest ++ twig ∷ [] → Reads (level - 1) (stub_at (suc (level - 1)) low high addr key) twig →
      OnWay block (λ end c. HeldFor Reads order block (level - 1) end c rest) high twig → HeldFrom Reads order least block (level - 1) high (made.Kept low addr key) held
  way_held Reads rest held is reads way = subst (λ x. HeldIn Reads order least block (HeldFor Reads order block (level - 1)) (level - 1) high x held) (sym (made.outs-Kept low addr key))
      (record { rest = rest; twig = twig; is = is; reads = reads; shaped = way_shaped; bare = bare_of (level - 1) (want_at order level low high addr least) key twig h; lower = read_lower (level - 1) high (want_at order level low high addr least) key twig h; on_way = way })

-- what is held from a child on
pub held_for : (Reads : ℕ → Stub → Twig → Type 0) (order block level below high : ℕ) (c : Child) (held : List Twig) → level ≡ suc below → HeldFrom Reads order (order / 2) block below high c held → HeldFor Reads order block level high c held
unfolding HeldFor
held_for Reads order block zero below high c held is h = absurd (omega (arith, is))
held_for Reads order block (suc level) below high c held is h = subst (λ k. HeldFrom Reads order (order / 2) block k high c held) (omega (arith, is)) h
