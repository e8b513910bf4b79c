-- A data record that is put into a leaf.
use Rattle.std.proofs.Common.{◌≡◌, ℕ, suc, ◌+◌, ◌<◌, ◌≤◌, List, [], ◌∷◌, ◌++◌, refl, sym, ap, subst, ◌∙◌, arith, append_assoc, append-nil}
use Rattle.btree_twigs.specs.declared.twigs.Child.{Child}
use Rattle.btree_twigs.specs.declared.twigs.Child.TheVariants as made
use Rattle.btree_twigs.specs.Stubs.{Stub, Puts, datum, start_by, low_of, stubs}
use Rattle.btree_twigs.specs.Shape.{IsChild}
use Rattle.btree_twigs.specs.Updates.{IsNode, IsPut, stubs_under}
use Rattle.btree_twigs.proofs.ListLaws.{each_back, tiles_by, tiles_from, stubs_append, node_with, node_with_two, node_puts}
use Rattle.btree_twigs.proofs.Children.{tiles_child, low_of_kept, stubs_of_kept, kept_is_datum, one_datum}

abbrev pub IsLeaf : ℕ → ℕ → ℕ → ℕ → ℕ → List Child → Type 0
IsLeaf order = IsNode order 0

abbrev pub leaf_stubs : ℕ → List Child → List Stub
leaf_stubs = stubs_under 0

pub more : (order least most low high : ℕ) (cs : List Child) → IsLeaf order least most low high cs → IsLeaf order least (most + 1) low high cs
more order least most low high cs h = record { enough = h.enough; within = omega (arith, h.within); begins = h.begins; each = h.each }

module _ (order least most low high block addr : ℕ) (key : List ℕ) where
  made_of : (fs : List Child) (c : Child) (bs ds : List Child) → IsLeaf order least most low high (fs ++ c ∷ bs) →
      (news : List Stub) → Puts (low_of c) (start_by low_of bs high) (datum block addr key) (stubs 0 (start_by low_of bs high) c) news →
      leaf_stubs high ds ≡ leaf_stubs (low_of c) fs ++ (news ++ leaf_stubs high bs) →
      Puts low high (datum block addr key) (leaf_stubs high (fs ++ c ∷ bs)) (leaf_stubs high ds)
  made_of fs c bs ds h news p e = subst (Puts low high (datum block addr key) (leaf_stubs high (fs ++ c ∷ bs))) (sym e)
      (node_puts low_of (IsChild order 0) (stubs 0) (λ high c. tiles_child order 0 high c) low high (datum block addr key) fs c bs news h.begins h.each p)

  -- in the place of the one that is there
  pub replaced : (fs : List Child) (c : Child) (bs : List Child) → IsLeaf order least most low high (fs ++ c ∷ bs) → low_of c ≡ block →
      IsPut order 0 least (most + 1) low high (datum block addr key) (fs ++ c ∷ bs) (fs ++ made.Kept block addr key ∷ bs)
  replaced fs c bs h same =
      let d = made.Kept block addr key in
      let back = each_back low_of (IsChild order 0) high fs (c ∷ bs) h.each in
      let low_d = low_of_kept block addr key ∙ sym same in
      let was = one_datum order (start_by low_of bs high) c back.1 in
      record {
        node = more order least most low high _ (node_with low_of (IsChild order 0) 0 least most low high fs c d bs h low_d (kept_is_datum order _ block addr key));
        puts = made_of fs c bs (fs ++ d ∷ bs) h (datum block addr key ∷ [])
            (record {
              front = [];
              mid = stubs 0 (start_by low_of bs high) c;
              back = [];
              was = sym (append-nil _);
              now = refl;
              before = omega (arith, same);
              here = rw (was.stubs_are (start_by low_of bs high)) (omega (arith, same), omega arith, omega (arith, same));
              after = omega (arith, same, back.0);
            })
            (stubs_append low_of (stubs 0) high fs (d ∷ bs) ∙ rw (low_d, stubs_of_kept (start_by low_of bs high) block addr key) refl);
      }

  -- behind the last one before it
  pub inserted : (fs : List Child) (c : Child) (bs : List Child) → IsLeaf order least most low high (fs ++ c ∷ bs) → low_of c < block → block < start_by low_of bs high →
      IsPut order 0 least (most + 1) low high (datum block addr key) (fs ++ c ∷ bs) (fs ++ c ∷ made.Kept block addr key ∷ bs)
  inserted fs c bs h lt lt' =
      let d = made.Kept block addr key in
      let back = each_back low_of (IsChild order 0) high fs (c ∷ bs) h.each in
      let low_d = low_of_kept block addr key in
      let was = one_datum order (start_by low_of bs high) c back.1 in
      record {
        node = node_with_two low_of (IsChild order 0) 0 least most low high fs c c d bs h refl (omega (arith, lt, low_d)) (omega (arith, lt', low_d)) (was.any order (low_of d)) (kept_is_datum order _ block addr key);
        puts = made_of fs c bs (fs ++ c ∷ d ∷ bs) h (stubs 0 (low_of d) c ++ datum block addr key ∷ [])
            (record {
              front = stubs 0 (start_by low_of bs high) c;
              mid = [];
              back = [];
              was = sym (append-nil _);
              now = rw (was.stubs_are (low_of d), was.stubs_are (start_by low_of bs high)) refl;
              before = rw (was.stubs_are (start_by low_of bs high)) (omega arith, omega arith, omega (arith, lt));
              here = omega arith;
              after = omega (arith, lt');
            })
            (stubs_append low_of (stubs 0) high fs (c ∷ d ∷ bs) ∙ rw (stubs_of_kept (start_by low_of bs high) block addr key) (ap (λ ys. leaf_stubs (low_of c) fs ++ ys) (sym (append_assoc (stubs 0 (low_of d) c) _ _))));
      }

  -- before all others
  pub first : (cs : List Child) → IsLeaf order least most low high cs → low ≤ block → block < start_by low_of cs high →
      IsPut order 0 least (most + 1) low high (datum block addr key) cs (made.Kept block addr key ∷ cs)
  first cs h le lt =
      let d = made.Kept block addr key in
      let low_d = low_of_kept block addr key in
      record {
        node = record { enough = omega (arith, h.enough); within = omega (arith, h.within); begins = omega (arith, le, low_d); each = (omega (arith, lt, low_d), kept_is_datum order _ block addr key, h.each) };
        puts = record {
          front = [];
          mid = [];
          back = leaf_stubs high cs;
          was = refl;
          now = rw (stubs_of_kept (start_by low_of cs high) block addr key) refl;
          before = le;
          here = omega arith;
          after = tiles_from (start_by low_of cs high) (suc block) high (leaf_stubs high cs) (omega (arith, lt)) (tiles_by low_of (IsChild order 0) (stubs 0) (λ high c. tiles_child order 0 high c) high cs h.each);
        };
      }
