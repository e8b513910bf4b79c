-- The way of a removal, and what it leaves on the way up.
use Rattle.std.proofs.Common.{◌≡◌, ◌⊎◌, ℕ, zero, suc, ◌+◌, ◌-◌, ◌/◌, ◌<◌, ◌≤◌, List, [], ◌∷◌, ◌++◌, length, take, inl, inr, refl, sym, ap, subst, ◌∙◌, arith, append_assoc, append-nil, length-append, vec_capacity}
use Rattle.std.specs.declared.vec.Vec.{Vec}
use Rattle.std.specs.declared.alloc.Global.{Global}
use Rattle.btree_twigs.specs.declared.twigs.Child.{Child, Child-F, out-Child}
use Rattle.btree_twigs.specs.declared.twigs.Child.TheOpen.{Kept, Grown}
use Rattle.btree_twigs.specs.declared.twigs.Child.TheVariants as made
use Rattle.btree_twigs.specs.declared.twigs.Twig.{Twig, roll-Twig}
use Rattle.btree_twigs.specs.Stubs.{Tiles, Takes, start_by, low_of, children_of, stubs, stubs_below, nodes, nodes_below, sum_by}
use Rattle.btree_twigs.specs.Shape.{EachBy, Begins, IsChildBy, IsChild, IsTwig}
use Rattle.btree_twigs.specs.Updates.{IsNode, IsGrownBy, IsGrown, width_in, width_of, CanMend, IsMended, OneShort, stubs_under, room_of, rooms, rooms_below}
use Rattle.btree_twigs.specs.Removal.{IsTaken, IsHeldIn, IsHelped, HelpsOne, Helps, MendsAt, AreMended, IsTwigTaken, IsChildTaken, CanMendBeside}
use Rattle.btree_twigs.proofs.ListLaws.{start_append, stubs_append, each_append, each_front, each_back, tiles_by, node_with}
use Rattle.btree_twigs.proofs.Children.{tiles_child}
use Rattle.btree_twigs.proofs.Nodes.{low_of_grown, stubs_of_grown, twig_of, children_of_roll}
use Rattle.btree_twigs.proofs.Counts.{sum_append, nodes_grown, rooms_grown}
use Rattle.btree_twigs.proofs.Takings.{takes_lift}

-- a child in memory, by how many children it has
wide_by : (order level high : ℕ) (x : Child-F Child Twig) → IsGrownBy order level (order / 2 - 1) high x → order / 2 ≤ width_in x → IsChildBy (IsChild order level) order level high x
wide_by order level high (Kept low addr key) h le = absurd h
wide_by order level high (Grown low twig) h le = record {
  level_is = h.level_is;
  room = h.room;
  node = record { enough = le; within = h.node.within; begins = h.node.begins; each = h.node.each };
}

pub wide : (order level high : ℕ) (d : Child) → IsGrown order level (order / 2 - 1) high d → order / 2 ≤ width_of d → IsChild order (suc level) high d
unfolding IsChild
wide order level high d h le = wide_by order level high (out-Child d) h le

pub least_by : (order level least high : ℕ) (x : Child-F Child Twig) → IsGrownBy order level least high x → IsGrownBy order level 0 high x × (least ≤ width_in x) × (width_in x ≤ order)
least_by order level least high (Kept low addr key) h = absurd h
least_by order level least high (Grown low twig) h = (
  record {
    level_is = h.level_is;
    room = h.room;
    node = record { enough = omega arith; within = h.node.within; begins = h.node.begins; each = h.node.each };
  },
  h.node.enough,
  h.node.within,
)

held_by : (order level high : ℕ) (x : Child-F Child Twig) → IsHeldIn x → IsChildBy (IsChild order level) order level high x → IsGrownBy order level (order / 2) high x
held_by order level high (Kept low addr key) held h = absurd held
held_by order level high (Grown low twig) held h = h

pub held : (order level high : ℕ) (c : Child) → IsHeldIn (out-Child c) → IsChild order (suc level) high c → IsGrown order level 0 high c × (order / 2 ≤ width_of c) × (width_of c ≤ order)
unfolding IsChild
held order level high c h k = least_by order level (order / 2) high (out-Child c) (held_by order level high (out-Child c) h k)

pub short_one : (order : ℕ) (a b : ℕ) → order / 2 - 1 ≤ a → a < order / 2 → order / 2 ≤ b → b ≤ order → OneShort order a b × OneShort order b a
short_one order a b h k l m = (inl (omega (arith, h, k), l, m), inr (omega (arith, h, k), l, m))

one_tiles : (order level : ℕ) (high : ℕ) (c : Child) → low_of c < high → IsChild order level high c → Tiles (low_of c) high (stubs level high c)
one_tiles order level high c = tiles_child order level high c

sooner : (block high : ℕ) (bs : List Child) → block < start_by low_of bs high → block < start_by low_of bs (suc block)
sooner block high [] h = omega arith
sooner block high (b ∷ bs) h = h

pub help_at : (order block level below loses : ℕ) (cs fs bs : List Child) (c : Child) → level ≡ suc below → Helps order block level cs loses → cs ≡ fs ++ c ∷ bs → low_of c ≤ block → (high : ℕ) → block < start_by low_of bs high →
    HelpsOne (Helps order block below) order loses fs bs c
unfolding Helps
help_at order block level below loses cs fs bs c is h split from high to =
    let k = subst (λ l. Helps order block l cs loses) is h in
    k fs bs c split from (sooner block high bs to)

-- a child that is short gets help
pub helped_if : (order block below loses : ℕ) (fs bs : List Child) (c d : Child) → (h : HelpsOne (Helps order block below) order loses fs bs c) → width_of c ≤ width_of d + h.fewer → width_of d < order / 2 → IsHelped order loses fs bs
helped_if order block below loses fs bs c d h le lt = by h.helped
  where
    by : (order / 2 + h.fewer ≤ width_of c) ⊎ IsHelped order loses fs bs → IsHelped order loses fs bs
    by (inl wide) = absurd (omega (arith, wide, le, lt))
    by (inr helped) = helped

pub width_of_grown : (low : ℕ) (twig : Twig) → width_of (made.Grown low twig) ≡ length (children_of twig)
width_of_grown low twig = ap width_in (made.outs-Grown low twig)

-- after a mend there are as many as before, or one less
pub mended_wide : (order loses left : ℕ) (cs new : List Child) (m : MendsAt order cs left) → AreMended order cs left m new → ((order / 2 < width_of m.one) ⊎ (order / 2 < width_of m.other)) ⊎ (1 ≤ loses) → length cs ≤ length new + loses
mended_wide order loses left cs new m a (inl spare) =
    omega (arith, ap length m.is, length-append m.front (m.one ∷ m.other ∷ m.back), ap length a.now, length-append m.front (a.news ++ m.back), length-append a.news m.back, a.two spare)
mended_wide order loses left cs new m a (inr one) =
    omega (arith, ap length m.is, length-append m.front (m.one ∷ m.other ∷ m.back), ap length a.now, length-append m.front (a.news ++ m.back), length-append a.news m.back, a.some, one)

-- children in the place of others
module _ (order level least most low high : ℕ) (fs xs ys bs : List Child) (h : IsNode order level least most low high (fs ++ (xs ++ bs))) (some : 0 < length xs) (some' : 0 < length ys)
    (start : start_by low_of ys (start_by low_of bs high) ≡ start_by low_of xs (start_by low_of bs high)) (each : EachBy low_of (IsChild order level) (start_by low_of bs high) ys) where
  begins_alike : (fs : List Child) → Begins level low (start_by low_of (fs ++ (xs ++ bs)) high) → Begins level low (start_by low_of (fs ++ (ys ++ bs)) high)
  begins_alike [] k = subst (Begins level low) (start_append low_of xs bs high ∙ sym start ∙ sym (start_append low_of ys bs high)) k
  begins_alike (f ∷ fs) k = k

  pub other_each : EachBy low_of (IsChild order level) high (fs ++ (ys ++ bs))
  other_each =
      let back = each_back low_of (IsChild order level) high fs (xs ++ bs) h.each in
      let front = each_front low_of (IsChild order level) high fs (xs ++ bs) h.each in
      each_append low_of (IsChild order level) high fs (ys ++ bs)
      (subst (λ s. EachBy low_of (IsChild order level) s fs) (start_append low_of xs bs high ∙ sym start ∙ sym (start_append low_of ys bs high)) front)
      (each_append low_of (IsChild order level) high ys bs each (each_back low_of (IsChild order level) high xs bs back))

  pub other_node : length ys ≤ length xs → length xs ≤ length ys + 1 → IsNode order level (least - 1) most low high (fs ++ (ys ++ bs))
  other_node le ge = record {
    enough = omega (arith, h.enough, length-append fs (xs ++ bs), length-append xs bs, length-append fs (ys ++ bs), length-append ys bs, ge);
    within = omega (arith, h.within, length-append fs (xs ++ bs), length-append xs bs, length-append fs (ys ++ bs), length-append ys bs, le);
    begins = begins_alike fs h.begins;
    each = other_each;
  }

module _ (order l least low high block : ℕ) (fs : List Child) (c : Child) (bs : List Child) (d : Child) (h : IsNode order (suc l) least order low high (fs ++ c ∷ bs)) (fewer : ℕ) (t : IsChildTaken order l (start_by low_of bs high) block fewer c d) where
  -- what is taken below the child is taken below the node
  takes_node : Takes low high block (stubs_under (suc l) high (fs ++ c ∷ bs)) (stubs_under (suc l) (low_of c) fs ++ (stubs (suc l) (start_by low_of bs high) d ++ stubs_under (suc l) high bs))
  takes_node =
      let back = each_back low_of (IsChild order (suc l)) high fs (c ∷ bs) h.each in
      let front = each_front low_of (IsChild order (suc l)) high fs (c ∷ bs) h.each in
      let begins : start_by low_of fs (low_of c) ≡ low = sym (start_append low_of fs (c ∷ bs) high) ∙ h.begins in
      subst (λ ss. Takes low high block ss (stubs_under (suc l) (low_of c) fs ++ (stubs (suc l) (start_by low_of bs high) d ++ stubs_under (suc l) high bs))) (sym (stubs_append low_of (stubs (suc l)) high fs (c ∷ bs)))
      (takes_lift low (low_of c) (start_by low_of bs high) high block _ _ _ _
      (subst (λ m. Tiles m (low_of c) (stubs_under (suc l) (low_of c) fs)) begins (tiles_by low_of (IsChild order (suc l)) (stubs (suc l)) (one_tiles order (suc l)) (low_of c) fs front))
      t.takes (tiles_by low_of (IsChild order (suc l)) (stubs (suc l)) (one_tiles order (suc l)) high bs back.2))

  -- the child has enough children still
  pub still_wide : order / 2 ≤ width_of d → IsTaken order (suc l) least low high block (fs ++ c ∷ bs) (fs ++ d ∷ bs)
  still_wide le =
      let n = node_with low_of (IsChild order (suc l)) (suc l) least order low high fs c d bs h t.low_is (wide order l (start_by low_of bs high) d t.grown le) in
      record {
        node = record { enough = omega (arith, n.enough); within = n.within; begins = n.begins; each = n.each };
        takes = subst (Takes low high block (stubs_under (suc l) high (fs ++ c ∷ bs)))
            (ap (λ m. stubs_under (suc l) m fs ++ (stubs (suc l) (start_by low_of bs high) d ++ stubs_under (suc l) high bs)) (sym t.low_is) ∙ sym (stubs_append low_of (stubs (suc l)) high fs (d ∷ bs)))
            takes_node;
        few = omega (arith, sum_append (nodes (suc l)) fs (c ∷ bs), sum_append (nodes (suc l)) fs (d ∷ bs), t.few);
        no_more_room = omega (arith, sum_append (rooms (suc l)) fs (c ∷ bs), sum_append (rooms (suc l)) fs (d ∷ bs), t.no_more_room);
      }

-- it is mended with the one that follows
module _ (order l least low high block : ℕ) (four : 4 ≤ order) (fs : List Child) (c b : Child) (bs : List Child) (d : Child) (h : IsNode order (suc l) least order low high (fs ++ c ∷ b ∷ bs)) (fewer : ℕ) (t : IsChildTaken order l (low_of b) block fewer c d)
    (in_memory : IsHeldIn (out-Child b)) (short : width_of d < order / 2) where
  abbrev pub can_next : CanMend order d b
  can_next =
      let back = each_back low_of (IsChild order (suc l)) high fs (c ∷ b ∷ bs) h.each in
      let g = least_by order l (order / 2 - 1) (low_of b) (out-Child d) t.grown in
      let k = held order l (start_by low_of bs high) b in_memory back.2.1 in
      record { level = l; high = start_by low_of bs high; on_left = g.0; on_right = k.0; short = (short_one order (width_of d) (width_of b) g.1 short k.1 k.2).0 }

  pub next_mended : (news : List Child) → 1 ≤ length news → length news ≤ 2 → IsMended order (suc l) (start_by low_of bs high) d b news →
      IsTaken order (suc l) least low high block (fs ++ c ∷ b ∷ bs) (fs ++ (news ++ bs))
  next_mended news some few m =
      let start : start_by low_of news (start_by low_of bs high) ≡ low_of c = m.begins ∙ t.low_is in
      record {
        node = other_node order (suc l) least order low high fs (c ∷ b ∷ []) news bs h (omega arith) (omega (arith, some)) start m.each (omega (arith, few)) (omega (arith, some));
        takes = subst (Takes low high block (stubs_under (suc l) high (fs ++ c ∷ b ∷ bs)))
            (ap (λ ss. stubs_under (suc l) (low_of c) fs ++ ss)
            (sym (append_assoc (stubs (suc l) (low_of b) d) (stubs (suc l) (start_by low_of bs high) b) (stubs_under (suc l) high bs))
            ∙ ap (λ ss. ss ++ stubs_under (suc l) high bs) (sym m.same) ∙ sym (stubs_append low_of (stubs (suc l)) high news bs))
            ∙ ap (λ s. stubs_under (suc l) s fs ++ stubs_under (suc l) high (news ++ bs)) (sym start ∙ sym (start_append low_of news bs high))
            ∙ sym (stubs_append low_of (stubs (suc l)) high fs (news ++ bs)))
            (takes_node order l least low high block fs c (b ∷ bs) d h fewer t);
        few = omega (arith, sum_append (nodes (suc l)) fs (news ++ bs), sum_append (nodes (suc l)) news bs, sum_append (nodes (suc l)) fs (c ∷ b ∷ bs), m.none_more, t.few);
        no_more_room = omega (arith, sum_append (rooms (suc l)) fs (news ++ bs), sum_append (rooms (suc l)) news bs, sum_append (rooms (suc l)) fs (c ∷ b ∷ bs), m.no_more_room, t.no_more_room);
      }

-- or with the one before
module _ (order l least low high block : ℕ) (four : 4 ≤ order) (fs : List Child) (g c : Child) (d : Child) (h : IsNode order (suc l) least order low high ((fs ++ g ∷ []) ++ c ∷ [])) (fewer : ℕ) (t : IsChildTaken order l high block fewer c d)
    (in_memory : IsHeldIn (out-Child g)) (short : width_of d < order / 2) where
  pub regrouped : IsNode order (suc l) least order low high (fs ++ ((g ∷ c ∷ []) ++ []))
  regrouped = subst (IsNode order (suc l) least order low high) (append_assoc fs (g ∷ []) (c ∷ [])) h

  abbrev pub can_last : CanMend order g d
  can_last =
      let back = each_back low_of (IsChild order (suc l)) high fs (g ∷ c ∷ []) regrouped.each in
      let k = held order l (low_of c) g in_memory back.1 in
      let w = least_by order l (order / 2 - 1) high (out-Child d) t.grown in
      record { level = l; high = high; on_left = subst (λ m. IsGrown order l 0 m g) (sym t.low_is) k.0; on_right = w.0; short = (short_one order (width_of d) (width_of g) w.1 short k.1 k.2).1 }

  pub last_mended : (news : List Child) → 1 ≤ length news → length news ≤ 2 → IsMended order (suc l) high g d news →
      IsTaken order (suc l) least low high block ((fs ++ g ∷ []) ++ c ∷ []) (fs ++ (news ++ []))
  last_mended news some few m = record {
    node = other_node order (suc l) least order low high fs (g ∷ c ∷ []) news [] regrouped (omega arith) (omega (arith, some)) m.begins m.each (omega (arith, few)) (omega (arith, some));
    takes = subst (Takes low high block (stubs_under (suc l) high ((fs ++ g ∷ []) ++ c ∷ []))) news_are (takes_node order l least low high block (fs ++ g ∷ []) c [] d h fewer t);
    few = omega (arith, sum_append (nodes (suc l)) (fs ++ g ∷ []) (c ∷ []), sum_append (nodes (suc l)) fs (g ∷ []), sum_append (nodes (suc l)) fs (news ++ []), sum_append (nodes (suc l)) news [], m.none_more, t.few);
    no_more_room = omega (arith, sum_append (rooms (suc l)) (fs ++ g ∷ []) (c ∷ []), sum_append (rooms (suc l)) fs (g ∷ []), sum_append (rooms (suc l)) fs (news ++ []), sum_append (rooms (suc l)) news [], m.no_more_room, t.no_more_room);
  }
    where
      news_are : stubs_under (suc l) (low_of c) (fs ++ g ∷ []) ++ (stubs (suc l) high d ++ []) ≡ stubs_under (suc l) high (fs ++ (news ++ []))
      news_are =
          ap (λ ss. ss ++ (stubs (suc l) high d ++ [])) (stubs_append low_of (stubs (suc l)) (low_of c) fs (g ∷ []))
          ∙ append_assoc (stubs_under (suc l) (low_of g) fs) (stubs (suc l) (low_of c) g ++ []) (stubs (suc l) high d ++ [])
          ∙ ap (λ ss. stubs_under (suc l) (low_of g) fs ++ ss)
          (ap (λ ss. ss ++ (stubs (suc l) high d ++ [])) (append-nil (stubs (suc l) (low_of c) g))
          ∙ ap (λ s. stubs (suc l) s g ++ (stubs (suc l) high d ++ [])) (sym t.low_is)
          ∙ ap (λ ss. stubs (suc l) (low_of d) g ++ ss) (append-nil (stubs (suc l) high d))
          ∙ sym m.same ∙ ap (stubs_under (suc l) high) (sym (append-nil news)))
          ∙ ap (λ s. stubs_under (suc l) s fs ++ stubs_under (suc l) high (news ++ [])) (sym m.begins ∙ ap (λ ys. start_by low_of ys high) (sym (append-nil news)))
          ∙ sym (stubs_append low_of (stubs (suc l)) high fs (news ++ []))

-- a node whose list of children has changed
pub twig_taken : (order level least low high block loses lev : ℕ) (t : Twig) (new : Vec Child Global) → lev ≡ suc level → order < vec_capacity new →
    IsTaken order level least low high block (children_of t) new.items → length (children_of t) ≤ length new.items + loses →
    IsTwigTaken order level least low high block loses t (roll-Twig (record { level = lev; children = new }))
twig_taken order level least low high block loses lev t new is room p wide = record {
  shaped = twig_of order level (least - 1) order low high (record { level = lev; children = new }) (record { level_is = is; room = room; node = p.node });
  takes = subst (λ xs. Takes low high block (stubs_below level high t) (stubs_under level high xs)) (sym (children_of_roll (record { level = lev; children = new }))) p.takes;
  wide = subst (λ xs. length (children_of t) ≤ length xs + loses) (sym (children_of_roll (record { level = lev; children = new }))) wide;
  few = subst (λ xs. sum_by (nodes level) xs ≤ nodes_below level t) (sym (children_of_roll (record { level = lev; children = new }))) p.few;
  no_more_room = subst (λ xs. sum_by (rooms level) xs ≤ rooms_below level t) (sym (children_of_roll (record { level = lev; children = new }))) p.no_more_room;
}

-- a node without the place is a child without it
pub child_taken : (order level low high block loses : ℕ) (old new : Twig) → IsTwigTaken order level (order / 2) low high block loses old new → room_of new ≡ room_of old →
    IsChildTaken order level high block loses (made.Grown low old) (made.Grown low new)
child_taken order level low high block loses old new p room = record {
  low_is = low_of_grown low new ∙ sym (low_of_grown low old);
  grown = subst (IsGrownBy order level (order / 2 - 1) high) (sym (made.outs-Grown low new)) p.shaped;
  takes = subst (λ m. Takes m high block (stubs (suc level) high (made.Grown low old)) (stubs (suc level) high (made.Grown low new))) (sym (low_of_grown low old))
      (subst (λ xs. Takes low high block xs (stubs (suc level) high (made.Grown low new))) (sym (stubs_of_grown level high low old))
      (subst (Takes low high block (stubs_below level high old)) (sym (stubs_of_grown level high low new)) p.takes));
  wide = omega (arith, width_of_grown low old, width_of_grown low new, p.wide);
  few = omega (arith, nodes_grown level low new, nodes_grown level low old, p.few);
  no_more_room = omega (arith, rooms_grown level low new, rooms_grown level low old, p.no_more_room, room);
}

-- the last of a list
pub record IsSnoc (fs : List Child) : Type 0 where
  pub front : List Child
  pub last : Child
  pub is : fs ≡ front ++ last ∷ []

pub snoc : (fs : List Child) → 0 < length fs → IsSnoc fs
snoc [] h = absurd (omega (arith, h))
snoc (f ∷ []) h = record { front = []; last = f; is = refl }
snoc (f ∷ g ∷ fs) h = let s = snoc (g ∷ fs) (omega arith) in record { front = f ∷ s.front; last = s.last; is = ap (λ ys. f ∷ ys) s.is }

module _ (order l least low high block i loses fewer : ℕ) (four : 4 ≤ order) (fs : List Child) (c d : Child) (at : length fs ≡ i) (short : width_of d < order / 2) where
  abbrev pub next_at : (b : Child) (bs : List Child) → IsNode order (suc l) least order low high (fs ++ c ∷ b ∷ bs) → IsChildTaken order l (low_of b) block fewer c d → IsHeldIn (out-Child b) → MendsAt order (fs ++ d ∷ b ∷ bs) i
  next_at b bs h t in_memory = record { front = fs; one = d; other = b; back = bs; is = refl; at = at; can = can_next order l least low high block four fs c b bs d h fewer t in_memory short }

  pub last_is : (gs : List Child) (g : Child) → fs ≡ gs ++ g ∷ [] → (fs ++ d ∷ []) ≡ gs ++ g ∷ d ∷ []
  last_is gs g e = ap (λ ys. ys ++ d ∷ []) e ∙ append_assoc gs (g ∷ []) (d ∷ [])

  pub last_place : (gs : List Child) (g : Child) → fs ≡ gs ++ g ∷ [] → length gs ≡ i - 1
  last_place gs g e = omega (arith, at, ap length e, length-append gs (g ∷ []))

  abbrev pub last_at : (gs : List Child) (g : Child) → fs ≡ gs ++ g ∷ [] → IsNode order (suc l) least order low high (fs ++ c ∷ []) → IsChildTaken order l high block fewer c d → IsHeldIn (out-Child g) → MendsAt order (fs ++ d ∷ []) (i - 1)
  last_at gs g e h t in_memory = record {
    front = gs;
    one = g;
    other = d;
    back = [];
    is = last_is gs g e;
    at = last_place gs g e;
    can = can_last order l least low high block four gs g c d (subst (λ ys. IsNode order (suc l) least order low high (ys ++ c ∷ [])) e h) fewer t in_memory short;
  }

  pub beside : (bs : List Child) → IsNode order (suc l) least order low high (fs ++ c ∷ bs) → IsChildTaken order l (start_by low_of bs high) block fewer c d → IsHelped order loses fs bs → 2 ≤ least →
      CanMendBeside order (fs ++ d ∷ bs) i
  beside [] h t n two =
      let some : 0 < length fs = omega (arith, h.enough, two, length-append fs (c ∷ [])) in
      let s = snoc fs some in
      (omega (arith, at, length-append fs (d ∷ [])), omega (arith, some, length-append fs (d ∷ [])), (λ lt. absurd (omega (arith, lt, at, length-append fs (d ∷ [])))), (λ e. last_at s.front s.last s.is h t (n s.front s.last s.is).0))
  beside (b ∷ bs) h t n two =
      (omega (arith, at, length-append fs (d ∷ b ∷ bs)), omega (arith, length-append fs (d ∷ b ∷ bs)), (λ lt. next_at b bs h t n.0), (λ e. absurd (omega (arith, e, at, length-append fs (d ∷ b ∷ bs)))))

  one_way : {A B C : Type 0} → B ⊎ C → (A ⊎ B) ⊎ C
  one_way (inl b) = inl (inr b)
  one_way (inr c) = inr c

  other_way : {A B C : Type 0} → A ⊎ C → (A ⊎ B) ⊎ C
  other_way (inl a) = inl (inl a)
  other_way (inr c) = inr c

  same_length : (bs : List Child) → length (fs ++ c ∷ bs) ≡ length (fs ++ d ∷ bs)
  same_length bs = omega (arith, length-append fs (c ∷ bs), length-append fs (d ∷ bs))

  pub after_mend : (bs new : List Child) → IsNode order (suc l) least order low high (fs ++ c ∷ bs) → IsChildTaken order l (start_by low_of bs high) block fewer c d → IsHelped order loses fs bs → 2 ≤ least →
      (suc i < length (fs ++ d ∷ bs) → (m : MendsAt order (fs ++ d ∷ bs) i) → AreMended order (fs ++ d ∷ bs) i m new) →
      (suc i ≡ length (fs ++ d ∷ bs) → (m : MendsAt order (fs ++ d ∷ bs) (i - 1)) → AreMended order (fs ++ d ∷ bs) (i - 1) m new) →
      IsTaken order (suc l) least low high block (fs ++ c ∷ bs) new × (length (fs ++ c ∷ bs) ≤ length new + loses)
  after_mend [] new h t n two next last =
      let some : 0 < length fs = omega (arith, h.enough, two, length-append fs (c ∷ [])) in
      let s = snoc fs some in
      let lent = n s.front s.last s.is in
      let here = last_at s.front s.last s.is h t lent.0 in
      let m = last (omega (arith, at, length-append fs (d ∷ []))) here in (
        subst (IsTaken order (suc l) least low high block (fs ++ c ∷ [])) (sym m.now)
            (subst (λ ys. IsTaken order (suc l) least low high block (ys ++ c ∷ []) (s.front ++ (m.news ++ []))) (sym s.is)
            (last_mended order l least low high block four s.front s.last c d (subst (λ ys. IsNode order (suc l) least order low high (ys ++ c ∷ [])) s.is h) fewer t lent.0 short m.news m.some m.few m.mended)),
        omega (arith, same_length [], mended_wide order loses (i - 1) (fs ++ d ∷ []) new here m (other_way lent.1)),
      )
  after_mend (b ∷ bs) new h t n two next last =
      let here = next_at b bs h t n.0 in
      let m = next (omega (arith, at, length-append fs (d ∷ b ∷ bs))) here in (
        subst (IsTaken order (suc l) least low high block (fs ++ c ∷ b ∷ bs)) (sym m.now)
            (next_mended order l least low high block four fs c b bs d h fewer t n.0 short m.news m.some m.few m.mended),
        omega (arith, same_length (b ∷ bs), mended_wide order loses i (fs ++ d ∷ b ∷ bs) new here m (one_way n.1)),
      )

pub leaf_taken : (order block level least low high loses lev : ℕ) (t : Twig) (new : Vec Child Global) → IsTwig order level least order low high t → lev ≡ suc level → lev ≡ 1 →
    low ≤ block → block < high → order < vec_capacity new → Helps order block level (children_of t) loses → length (children_of t) ≤ length new.items + 1 →
    (IsNode order 0 least order low high (children_of t) → low ≤ block → block < high → IsTaken order 0 least low high block (children_of t) new.items) →
    IsTwigTaken order level least low high block loses t (roll-Twig (record { level = lev; children = new }))
unfolding Helps
leaf_taken order block zero least low high loses lev t new h is one from to room helps wide take = twig_taken order 0 least low high block loses lev t new is room (take h.node from to) (omega (arith, helps, wide))
leaf_taken order block (suc level) least low high loses lev t new h is one from to room helps wide take = absurd (omega (arith, is, one))
