-- The root node in memory.
use Rattle.std.proofs.Common.{◌≡◌, ℕ, zero, suc, ◌+◌, ◌/◌, ◌<◌, ◌≤◌, List, [], ◌∷◌, ◌++◌, length, vec_capacity, inl, inr, refl, sym, ap, subst, ◌∙◌, arith, append-nil}
use Rattle.btree_twigs.specs.declared.twigs.Child.{Child, Child-F, out-Child}
use Rattle.btree_twigs.specs.declared.twigs.Child.TheOpen.{Kept, Grown}
use Rattle.btree_twigs.specs.declared.twigs.Child.TheVariants as made
use Rattle.std.specs.declared.vec.Vec.{Vec}
use Rattle.std.specs.declared.alloc.Global.{Global}
use Rattle.btree_twigs.specs.declared.twigs.Twig.{Twig}
use Rattle.btree_twigs.specs.Stubs.{Stub, Puts, Takes, nodes, nodes_in, nodes_below, sum_by, start_by, low_in, low_of, children_of, stubs, stubs_in, stubs_below}
use Rattle.btree_twigs.specs.Shape.{EachBy, IsChildBy, IsChild, IsTwig}
use Rattle.btree_twigs.specs.Updates.{IsNode, IsOpen, IsSplit, IsTwigPut, stubs_under, room_of, room_in, rooms, rooms_in, rooms_below, list_rooms, TakesRoom}
use Rattle.btree_twigs.specs.Top.{level_in, child_level, IsTop, IsTopBy, top_least, IsRaised, IsTopPut, IsTopTaken}
use Rattle.btree_twigs.specs.Removal.{IsTwigTaken}
use Rattle.btree_twigs.proofs.Ways.{open_front, open_back}
use Rattle.btree_twigs.proofs.Counts.{sum_append, nodes_grown, rooms_grown, split_rooms}
use Rattle.btree_twigs.specs.Levels.{IsCut}
use Rattle.btree_twigs.proofs.Nodes.{low_of_grown, stubs_of_grown, grown_is_child}

-- the root has room for all its children
pub top_kept : (order level high : ℕ) (stub : Stub) (old new : Twig) (low : ℕ) → low ≡ 0 → IsTwigPut order level (top_least level) 0 high stub old new → nodes_below level new ≤ nodes_below level old + level → length (children_of new) ≤ order →
    IsTopPut order level high stub (made.Grown low old) (made.Grown low new)
top_kept order level high stub old new low zero_is p few le = record {
  new_level = level;
  level_is = inl refl;
  shaped = subst (IsTopBy order level high) (sym (made.outs-Grown low new)) (
    zero_is,
    record {
      level_is = p.shaped.level_is;
      room = p.shaped.room;
      node = record { enough = p.shaped.node.enough; within = le; begins = p.shaped.node.begins; each = p.shaped.node.each };
    },
  );
  puts = subst (λ xs. Puts 0 high stub xs (stubs (suc level) high (made.Grown low new))) (sym (stubs_of_grown level high low old))
      (subst (Puts 0 high stub (stubs_below level high old)) (sym (stubs_of_grown level high low new)) p.puts);
  few = omega (arith, few, nodes_grown level low old, nodes_grown level low new);
}

nodes_when : (level : ℕ) (new : Child) (twig : Twig) → out-Child new ≡ Grown 0 twig → nodes (suc level) new ≡ suc (nodes_below level twig)
unfolding nodes
nodes_when level new twig is = ap (nodes_in (nodes level)) is

stubs_when : (level high : ℕ) (new : Child) (twig : Twig) → out-Child new ≡ Grown 0 twig → stubs (suc (suc level)) high new ≡ stubs_below (suc level) high twig
unfolding stubs
stubs_when level high new twig is = ap (stubs_in (stubs (suc level)) (suc (suc level)) high) is

-- a root that was cut in two, under a new one
pub top_raised : (order level high : ℕ) (stub : Stub) (old put left : Twig) (low : ℕ) (part new : Child) → 4 ≤ order → low ≡ 0 → IsTwigPut order level (top_least level) 0 high stub old put →
    nodes_below level put ≤ nodes_below level old + level → nodes_below level left + nodes (suc level) part ≡ nodes_below level put + 1 →
    IsSplit order level 0 high put left part → IsRaised order level (made.Grown low left) part new →
    IsTopPut order level high stub (made.Grown low old) new
top_raised order level high stub old put left low part new four zero_is p few cut s r =
    let a = made.Grown low left in
    let low_a : low_of a ≡ 0 = low_of_grown low left ∙ zero_is in
    let a_is = grown_is_child order level low (low_of part) left (subst (λ m. IsTwig order level (order / 2) order m (low_of part) left) (sym zero_is) s.left) in
    let node : IsNode order (suc level) 2 order 0 high (a ∷ part ∷ []) = record {
      enough = omega arith;
      within = omega (arith, four);
      begins = low_a;
      each = (omega (arith, low_a, s.above), a_is, (s.below, s.right, tt));
    } in
    let shaped : IsTwig order (suc level) 2 order 0 high r.twig = record { level_is = r.level_is; room = r.room; node = subst (IsNode order (suc level) 2 order 0 high) (sym r.children) node } in
    record {
      new_level = suc level;
      level_is = inr refl;
      shaped = subst (IsTopBy order (suc level) high) (sym r.is) (refl, shaped);
      puts = subst (λ xs. Puts 0 high stub xs (stubs (suc (suc level)) high new)) (sym (stubs_of_grown level high low old))
          (subst (Puts 0 high stub (stubs_below level high old))
          (s.same ∙ ap (λ xs. xs ++ stubs (suc level) high part) (sym (stubs_of_grown level (low_of part) low left))
          ∙ ap (λ xs. stubs (suc level) (low_of part) a ++ xs) (sym (append-nil (stubs (suc level) high part)))
          ∙ ap (stubs_under (suc level) high) (sym r.children) ∙ sym (stubs_when level high new r.twig r.is))
          p.puts);
      few = omega (arith, few, cut, nodes_grown level low old, nodes_grown level low left, nodes_when (suc level) new r.twig r.is, ap (sum_by (nodes (suc level))) r.children);
    }

rooms_when : (level : ℕ) (new : Child) (twig : Twig) → out-Child new ≡ Grown 0 twig → rooms (suc level) new ≡ room_of twig + rooms_below level twig
unfolding rooms
rooms_when level new twig is = ap (rooms_in (rooms level)) is

-- a new root has the room of a spare list
pub raised_rooms : (order level : ℕ) (a part new : Child) (spares left : Vec (Vec Child Global) Global) → IsRaised order level a part new → TakesRoom spares left new →
    rooms (suc (suc level)) new + list_rooms left.items ≡ rooms (suc level) a + (rooms (suc level) part + list_rooms spares.items)
raised_rooms order level a part new spares left r t =
    let w = rooms_when (suc level) new r.twig r.is in
    let s = ap (sum_by (rooms (suc level))) r.children in
    let room = ap room_in r.is in
    let lists = ap list_rooms t.all ∙ sum_append (λ (v : Vec Child Global). vec_capacity v) left.items (t.last ∷ []) in
    omega (arith, w, s, room, lists, t.has)

-- a root that was cut in two, under a new one
pub cut_rooms : (order level low : ℕ) (old put left : Twig) (part new : Child) (first second third fourth : Vec (Vec Child Global) Global) → room_of put ≡ room_of old → room_of left ≡ room_of put →
    rooms_below level put + list_rooms second.items ≡ rooms_below level old + list_rooms first.items → IsCut order put left part → TakesRoom second third part →
    IsRaised order level (made.Grown low left) part new → TakesRoom third fourth new → rooms (child_level new) new + list_rooms fourth.items ≡ rooms (suc level) (made.Grown low old) + list_rooms first.items
cut_rooms order level low old put left part new first second third fourth same same' put_is cut part_is raised new_is =
    let level_is : child_level new ≡ suc (suc level) = ap level_in raised.is ∙ raised.level_is in
    let now = ap (λ l. rooms l new) level_is in
    let a = rooms_grown level low old in
    let b = rooms_grown level low left in
    let p = split_rooms order level put left part second third cut part_is in
    let q = raised_rooms order level (made.Grown low left) part new third fourth raised new_is in
    omega (arith, now, a, b, p, q, put_is, same, same')

top_enough : (level n : ℕ) → (1 ≤ level → 2 ≤ n) → top_least level ≤ n
top_enough zero n h = omega arith
top_enough (suc level) n h = h (omega arith)

-- the root keeps children enough
pub top_taken : (order level high block loses : ℕ) (old new : Twig) (low : ℕ) → low ≡ 0 → IsTwigTaken order level (top_least level) 0 high block loses old new → (1 ≤ level → 2 ≤ length (children_of new)) → room_of new ≡ room_of old →
    IsTopTaken order level high block (made.Grown low old) (made.Grown low new)
top_taken order level high block loses old new low zero_is p two room = record {
  new_level = level;
  level_is = inl refl;
  shaped = subst (IsTopBy order level high) (sym (made.outs-Grown low new)) (
    zero_is,
    record {
      level_is = p.shaped.level_is;
      room = p.shaped.room;
      node = record { enough = top_enough level (length (children_of new)) two; within = p.shaped.node.within; begins = p.shaped.node.begins; each = p.shaped.node.each };
    },
  );
  takes = subst (λ xs. Takes 0 high block xs (stubs (suc level) high (made.Grown low new))) (sym (stubs_of_grown level high low old))
      (subst (Takes 0 high block (stubs_below level high old)) (sym (stubs_of_grown level high low new)) p.takes);
  few = omega (arith, nodes_grown level low new, nodes_grown level low old, p.few);
  no_more_room = omega (arith, rooms_grown level low new, rooms_grown level low old, p.no_more_room, room);
}

least_half : (order level : ℕ) → 4 ≤ order → top_least level ≤ order / 2
least_half order zero four = omega arith
least_half order (suc level) four = omega (arith, four)

only_top : (order level high block : ℕ) (x : Child-F Child Twig) → 4 ≤ order → IsChildBy (IsChild order level) order level high x → low_in x ≡ 0 → IsOpen block (stubs_in (stubs level) (suc level) high x) → block < high →
    IsTopBy order level high x
only_top order level high block (Kept low addr key) four h zero_is is_open lt = absurd (omega (arith, is_open.0 (omega (arith, zero_is)) lt))
only_top order level high block (Grown low twig) four h zero_is is_open lt = (
  zero_is,
  subst (λ m. IsTwig order level (top_least level) order m high twig) zero_is (record {
    level_is = h.level_is;
    room = h.room;
    node = record { enough = omega (arith, h.node.enough, least_half order level four); within = h.node.within; begins = h.node.begins; each = h.node.each };
  }),
)

only_is_top : (order level high block : ℕ) (x : Child) → 4 ≤ order → IsChild order (suc level) high x → low_of x ≡ 0 → IsOpen block (stubs (suc level) high x) → block < high → IsTop order level high x
unfolding IsChild stubs
only_is_top order level high block x four h zero_is is_open lt = only_top order level high block (out-Child x) four h zero_is is_open lt

open_after : (block low high : ℕ) (old new : List Stub) → Takes low high block old new → IsOpen block old → IsOpen block new
open_after block low high old new t h =
    let all = subst (IsOpen block) t.was h in
    subst (IsOpen block) (sym t.now) (go t.front (open_front block t.front (t.mid ++ t.back) all) (open_back block t.mid t.back (open_back block t.front (t.mid ++ t.back) all)))
  where
    go : (xs : List Stub) → IsOpen block xs → IsOpen block t.back → IsOpen block (xs ++ t.back)
    go [] h k = k
    go (x ∷ xs) h k = (h.0, go xs h.1 k)

top_level_by : (order level high : ℕ) (x : Child-F Child Twig) → IsTopBy order level high x → level_in x ≡ suc level
top_level_by order level high (Kept low addr key) h = absurd h
top_level_by order level high (Grown low twig) h = h.1.level_is

pub top_level : (order level high : ℕ) (c : Child) → IsTop order level high c → child_level c ≡ suc level
top_level order level high c h = top_level_by order level high (out-Child c) h

-- the only child of a root
pub record IsOnly (order level high block : ℕ) (new : Twig) (x : Child) : Type 0 where
  pub same : stubs_below (suc level) high new ≡ stubs (suc level) high x
  pub shaped : IsTop order level high x

pub only_of : (order level high block loses : ℕ) (old new : Twig) (x : Child) → 4 ≤ order → block < high → IsOpen block (stubs_below (suc level) high old) →
    IsTwigTaken order (suc level) (top_least (suc level)) 0 high block loses old new → children_of new ≡ x ∷ [] → IsOnly order level high block new x
only_of order level high block loses old new x four lt is_open p e =
    let each = subst (EachBy low_of (IsChild order (suc level)) high) e p.shaped.node.each in
    let begins : low_of x ≡ 0 = subst (λ xs. start_by low_of xs high ≡ 0) e p.shaped.node.begins in
    let stubs_are : stubs_below (suc level) high new ≡ stubs (suc level) high x = ap (stubs_under (suc level) high) e ∙ append-nil (stubs (suc level) high x) in
    let opened = subst (IsOpen block) stubs_are (open_after block 0 high _ _ p.takes is_open) in
    record { same = stubs_are; shaped = only_is_top order level high block x four each.1 begins opened lt }

-- the root gives way to its only child
pub top_gone : (order level high block loses : ℕ) (old new : Twig) (low : ℕ) (x : Child) → 4 ≤ order → low ≡ 0 → block < high → IsOpen block (stubs_below (suc level) high old) →
    IsTwigTaken order (suc level) (top_least (suc level)) 0 high block loses old new → children_of new ≡ x ∷ [] → IsTopTaken order (suc level) high block (made.Grown low old) x
top_gone order level high block loses old new low x four zero_is lt is_open p e =
    let only = only_of order level high block loses old new x four lt is_open p e in
    record {
      new_level = level;
      level_is = inr refl;
      shaped = only.shaped;
      takes = subst (λ xs. Takes 0 high block xs (stubs (suc level) high x)) (sym (stubs_of_grown (suc level) high low old)) (subst (Takes 0 high block (stubs_below (suc level) high old)) only.same p.takes);
      few = omega (arith, nodes_grown (suc level) low old, p.few, ap (sum_by (nodes (suc level))) e);
      no_more_room = omega (arith, rooms_grown (suc level) low old, p.no_more_room, ap (sum_by (rooms (suc level))) e);
    }
