-- The way that an update takes down, and what it leaves on the way up.
use Rattle.std.proofs.Common.{◌≡◌, ℕ, zero, suc, ◌+◌, ◌-◌, ◌/◌, ◌<◌, ◌≤◌, List, [], ◌∷◌, ◌++◌, None, Some, length, take, drop, get_or, set, refl, sym, ap, subst, ◌∙◌, arith, append_assoc, length-append, add-one, vec_capacity}
use Rattle.std.specs.List.{AllByRecursion, insert}
use Rattle.std.proofs.lemmas.List.{set_split, length-take-le, get_or_at, take_at, drop_at}
use Rattle.std.specs.declared.vec.Vec.{Vec}
use Rattle.std.specs.declared.alloc.Global.{Global}
use Rattle.btree_twigs.specs.declared.twigs.Child.{Child}
use Rattle.btree_twigs.specs.declared.twigs.Child.TheVariants as made
use Rattle.btree_twigs.specs.declared.twigs.Twig.{Twig, roll-Twig}
use Rattle.btree_twigs.specs.Stubs.{Stub, Puts, datum, start_by, stubs_in, low_in, low_of, children_of, stubs, stubs_below}
use Rattle.btree_twigs.specs.Shape.{EachBy, IsChildBy, IsChild, IsTwig}
use Rattle.btree_twigs.specs.Updates.{IsNode, IsOpen, HasSpares, IsSplit, IsTwigPut, IsChildPut, IsPut, stubs_under}
use Rattle.btree_twigs.proofs.ListLaws.{stubs_append, each_back, split_here, insert_here, at_end, node_with, node_with_two, node_puts}
use Rattle.btree_twigs.proofs.Children.{begins_le, tiles_child}
use Rattle.btree_twigs.proofs.Nodes.{low_of_grown, stubs_of_grown, grown_is_child, twig_of, children_of_roll}

pub open_front : (block : ℕ) (xs ys : List Stub) → IsOpen block (xs ++ ys) → IsOpen block xs
open_front block [] ys h = tt
open_front block (x ∷ xs) ys h = (h.0, open_front block xs ys h.1)

pub open_back : (block : ℕ) (xs ys : List Stub) → IsOpen block (xs ++ ys) → IsOpen block ys
open_back block [] ys h = h
open_back block (x ∷ xs) ys h = open_back block xs ys h.1

pub fewer : (order count more : ℕ) (spares : List (Vec Child Global)) → count ≤ more → HasSpares order more spares → HasSpares order count spares
fewer order count more spares le h = record { many = omega (arith, h.many, le); each = h.each }

-- a child in memory is a node
pub child_is_twig : (order level high low : ℕ) (twig : Twig) → IsChild order (suc level) high (made.Grown low twig) → IsTwig order level (order / 2) order low high twig
unfolding IsChild
child_is_twig order level high low twig h = subst (IsChildBy (IsChild order level) order level high) (made.outs-Grown low twig) h

-- a child on the medium ends an open way
pub open_is_grown : (order block level high low addr : ℕ) (key : List ℕ) → low_of (made.Kept low addr key) ≤ block → block < high →
    IsOpen block (stubs (suc level) high (made.Kept low addr key)) → ⊥
unfolding stubs
open_is_grown order block level high low addr key from to h =
    let e = subst (λ x. IsOpen block (stubs_in (stubs level) (suc level) high x)) (made.outs-Kept low addr key) h in
    let z : suc level ≡ 0 = e.0 (subst (λ x. low_in x ≤ block) (made.outs-Kept low addr key) from) to in
    omega (arith, z)

-- the child on the way
pub record IsWay (order block level high : ℕ) (cs : List Child) (n : ℕ) (c : Child) : Type 0 where
  pub below : ℕ
  pub level_is : level ≡ suc below
  pub at : ℕ
  pub at_is : suc at ≡ n
  pub within : at < length cs
  pub here : c ≡ get_or cs at c
  pub child : IsChild order (suc below) (start_by low_of (drop n cs) high) c
  pub from : low_of c ≤ block
  pub to : block < start_by low_of (drop n cs) high
  pub is_open : IsOpen block (stubs (suc below) (start_by low_of (drop n cs) high) c)

one_before : (order block below least most low high n : ℕ) (cs : List Child) → IsNode order (suc below) least most low high cs → low ≤ block →
    block < start_by low_of (drop n cs) high → 0 < n
one_before order block below least most low high zero cs h from to = absurd (omega (arith, h.begins, from, to))
one_before order block below least most low high (suc n) cs h from to = omega arith

pub way : (order block level least most low high lev n : ℕ) (cs : List Child) (c : Child) → lev ≡ suc level → (lev ≡ 1 → ⊥) → IsNode order level least most low high cs →
    low ≤ block → IsOpen block (stubs_under level high cs) → n ≤ length cs → AllByRecursion (λ d. low_of d ≤ block) (take n cs) → block < start_by low_of (drop n cs) high →
    c ≡ get_or cs (n - 1) c → IsWay order block level high cs n c
way order block zero least most low high lev n cs c is other h from is_open within before after here = absurd (other is)
way order block (suc below) least most low high lev n cs c is other h from is_open within before after here =
    let one = one_before order block below least most low high n cs h from after in
    let i = n - 1 in
    let at_is : suc i ≡ n = omega (arith, one) in
    let lt : i < length cs = omega (arith, one, within) in
    let fs = take i cs in
    let bs = drop (suc i) cs in
    let same : bs ≡ drop n cs = ap (λ m. drop m cs) at_is in
    let split = split_here cs i c lt here in
    let each = subst (EachBy low_of (IsChild order (suc below)) high) split h.each in
    let back = each_back low_of (IsChild order (suc below)) high fs (c ∷ bs) each in
    let opened = subst (λ xs. IsOpen block (stubs_under (suc below) high xs)) split is_open in
    let opened_back = open_back block _ _ (subst (IsOpen block) (stubs_append low_of (stubs (suc below)) high fs (c ∷ bs)) opened) in
    record {
      below = below;
      level_is = refl;
      at = i;
      at_is = at_is;
      within = lt;
      here = here;
      child = subst (λ xs. IsChild order (suc below) (start_by low_of xs high) c) same back.1;
      from = at_end (λ d. low_of d ≤ block) cs i n c at_is lt here before;
      to = after;
      is_open = subst (λ xs. IsOpen block (stubs (suc below) (start_by low_of xs high) c)) same (open_front block _ _ opened_back);
    }

module _ (order block level least low high n : ℕ) (stub : Stub) (cs : List Child) (c d : Child) (h : IsNode order level least order low high cs) (w : IsWay order block level high cs n c) where
  bound : ℕ
  bound = start_by low_of (drop n cs) high

  bound_is : start_by low_of (drop (suc w.at) cs) high ≡ start_by low_of (drop n cs) high
  bound_is = ap (λ m. start_by low_of (drop m cs) high) w.at_is

  split : cs ≡ take w.at cs ++ c ∷ drop (suc w.at) cs
  split = split_here cs w.at c w.within w.here

  node : IsNode order level least order low high (take w.at cs ++ c ∷ drop (suc w.at) cs)
  node = subst (IsNode order level least order low high) split h

  puts_in : (news : List Stub) → Puts (low_of c) (start_by low_of (drop n cs) high) stub (stubs level (start_by low_of (drop n cs) high) c) news →
      Puts low high stub (stubs_under level high cs) (stubs_under level (low_of c) (take w.at cs) ++ (news ++ stubs_under level high (drop (suc w.at) cs)))
  puts_in news p = subst (λ xs. Puts low high stub (stubs_under level high xs) (stubs_under level (low_of c) (take w.at cs) ++ (news ++ stubs_under level high (drop (suc w.at) cs)))) (sym split)
      (node_puts low_of (IsChild order level) (stubs level) (λ high c. tiles_child order level high c) low high stub (take w.at cs) c (drop (suc w.at) cs) news
      (begins_le level low _ node.begins) node.each
      (subst (λ m. Puts (low_of c) m stub (stubs level m c) news) (sym bound_is) p))

  -- the child alone
  pub put_alone : IsChildPut order level (start_by low_of (drop n cs) high) stub c d None →
      IsPut order level least (order + 1) low high stub cs (take w.at cs ++ d ∷ drop (suc w.at) cs)
  put_alone p =
      let shaped = subst (λ m. IsChild order level m d) (sym bound_is) p.1 in
      let bs = drop (suc w.at) cs in
      let made_node = node_with low_of (IsChild order level) level least order low high (take w.at cs) c d bs node p.0 shaped in
      record {
        node = record { enough = made_node.enough; within = omega (arith, made_node.within); begins = made_node.begins; each = made_node.each };
        puts = subst (Puts low high stub (stubs_under level high cs))
            (ap (λ m. stubs_under level m (take w.at cs) ++ (stubs level (start_by low_of (drop n cs) high) d ++ stubs_under level high bs)) (sym p.0)
            ∙ ap (λ m. stubs_under level (low_of d) (take w.at cs) ++ (stubs level m d ++ stubs_under level high bs)) (sym bound_is)
            ∙ sym (stubs_append low_of (stubs level) high (take w.at cs) (d ∷ bs)))
            (puts_in _ p.2);
      }

  -- the child, and what was cut off it
  pub put_two : (part : Child) → IsChildPut order level (start_by low_of (drop n cs) high) stub c d (Some part) →
      IsPut order level least (order + 1) low high stub cs (take w.at cs ++ d ∷ part ∷ drop (suc w.at) cs)
  put_two part p =
      let bs = drop (suc w.at) cs in
      let high' = start_by low_of (drop n cs) high in
      let shaped = subst (λ m. IsChild order level m part) (sym bound_is) p.4 in
      record {
        node = node_with_two low_of (IsChild order level) level least order low high (take w.at cs) c d part bs node p.0 (omega (arith, p.0, p.1)) (omega (arith, p.2, bound_is)) p.3 shaped;
        puts = subst (Puts low high stub (stubs_under level high cs))
            (ap (λ m. stubs_under level m (take w.at cs) ++ ((stubs level (low_of part) d ++ stubs level high' part) ++ stubs_under level high bs)) (sym p.0)
            ∙ ap (λ m. stubs_under level (low_of d) (take w.at cs) ++ ((stubs level (low_of part) d ++ stubs level m part) ++ stubs_under level high bs)) (sym bound_is)
            ∙ ap (λ xs. stubs_under level (low_of d) (take w.at cs) ++ xs) (append_assoc (stubs level (low_of part) d) (stubs level (start_by low_of bs high) part) (stubs_under level high bs))
            ∙ sym (stubs_append low_of (stubs level) high (take w.at cs) (d ∷ part ∷ bs)))
            (puts_in _ p.5);
      }

pub set_on_way : (n i : ℕ) (cs : List Child) (d : Child) → suc i ≡ n → i < length cs → set cs (n - 1) d ≡ take i cs ++ d ∷ drop (suc i) cs
set_on_way n i cs d is lt = let e : n - 1 ≡ i = omega arith in ap (λ m. set cs m d) e ∙ set_split cs i d lt

pub insert_on_way : (n i : ℕ) (cs : List Child) (d part : Child) → suc i ≡ n → i < length cs →
    insert (set cs (n - 1) d) n part ≡ take i cs ++ d ∷ part ∷ drop (suc i) cs
insert_on_way n i cs d part is lt =
    let e = set_on_way n i cs d is lt in
    let k : length (take i cs) ≡ i = length-take-le i cs (omega arith) in
    ap (λ xs. insert xs n part) e
    ∙ ap (λ m. insert (take i cs ++ d ∷ drop (suc i) cs) m part) (sym is ∙ sym (add-one i))
    ∙ insert_here (take i cs ++ d ∷ drop (suc i) cs) i d part (omega (arith, k, length-append (take i cs) (d ∷ drop (suc i) cs))) (sym (get_or_at (take i cs) d (drop (suc i) cs) d i k))
    ∙ rw (take_at (take i cs) (d ∷ drop (suc i) cs) i k) (ap (λ xs. take i cs ++ d ∷ part ∷ xs)
    (ap (λ xs. drop (suc i) xs) (sym (append_assoc (take i cs) (d ∷ []) (drop (suc i) cs))) ∙ drop_at (take i cs ++ d ∷ []) (drop (suc i) cs) (suc i) (omega (arith, k, length-append (take i cs) (d ∷ [])))))

pub twig_put : (order level least low high lev : ℕ) (stub : Stub) (t : Twig) (new : Vec Child Global) → lev ≡ suc level → order < vec_capacity new →
    IsPut order level least (order + 1) low high stub (children_of t) new.items →
    IsTwigPut order level least low high stub t (roll-Twig (record { level = lev; children = new }))
twig_put order level least low high lev stub t new is room p = record {
  shaped = twig_of order level least (order + 1) low high (record { level = lev; children = new }) (record { level_is = is; room = room; node = p.node });
  puts = subst (λ xs. Puts low high stub (stubs_below level high t) (stubs_under level high xs)) (sym (children_of_roll (record { level = lev; children = new }))) p.puts;
}

pub child_put : (order level low high : ℕ) (stub : Stub) (old new : Twig) → IsTwigPut order level (order / 2) low high stub old new → length (children_of new) ≤ order →
    IsChildPut order (suc level) high stub (made.Grown low old) (made.Grown low new) None
child_put order level low high stub old new p le = (
  low_of_grown low new ∙ sym (low_of_grown low old),
  grown_is_child order level low high new (record {
    level_is = p.shaped.level_is;
    room = p.shaped.room;
    node = record { enough = p.shaped.node.enough; within = le; begins = p.shaped.node.begins; each = p.shaped.node.each };
  }),
  subst (λ m. Puts m high stub (stubs (suc level) high (made.Grown low old)) (stubs (suc level) high (made.Grown low new))) (sym (low_of_grown low old))
      (subst (λ xs. Puts low high stub xs (stubs (suc level) high (made.Grown low new))) (sym (stubs_of_grown level high low old))
      (subst (Puts low high stub (stubs_below level high old)) (sym (stubs_of_grown level high low new)) p.puts)),
)

pub child_cut : (order level low high : ℕ) (stub : Stub) (old new left : Twig) (part : Child) → IsTwigPut order level (order / 2) low high stub old new →
    IsSplit order level low high new left part →
    IsChildPut order (suc level) high stub (made.Grown low old) (made.Grown low left) (Some part)
child_cut order level low high stub old new left part p s = (
  low_of_grown low left ∙ sym (low_of_grown low old),
  omega (arith, s.above, low_of_grown low old),
  s.below,
  grown_is_child order level low (low_of part) left s.left,
  s.right,
  subst (λ m. Puts m high stub (stubs (suc level) high (made.Grown low old)) (stubs (suc level) (low_of part) (made.Grown low left) ++ stubs (suc level) high part)) (sym (low_of_grown low old))
      (subst (λ xs. Puts low high stub xs (stubs (suc level) (low_of part) (made.Grown low left) ++ stubs (suc level) high part)) (sym (stubs_of_grown level high low old))
      (subst (λ xs. Puts low high stub (stubs_below level high old) (xs ++ stubs (suc level) high part)) (sym (stubs_of_grown level (low_of part) low left))
      (subst (Puts low high stub (stubs_below level high old)) s.same p.puts))),
)

pub leaf_put : (order block level least low high lev addr : ℕ) (key : List ℕ) (t : Twig) (new : Vec Child Global) → IsTwig order level least order low high t → lev ≡ suc level → lev ≡ 1 →
    low ≤ block → block < high → order < vec_capacity new →
    (IsNode order 0 least order low high (children_of t) → low ≤ block → block < high → IsPut order 0 least (order + 1) low high (datum block addr key) (children_of t) new.items) →
    IsTwigPut order level least low high (datum block addr key) t (roll-Twig (record { level = lev; children = new }))
leaf_put order block zero least low high lev addr key t new h is one from to room put = twig_put order 0 least low high lev (datum block addr key) t new is room (put h.node from to)
leaf_put order block (suc level) least low high lev addr key t new h is one from to room put = absurd (omega (arith, is, one))
