-- A data record that is taken out.
use Rattle.std.proofs.Common.{◌≡◌, ℕ, suc, ◌<◌, ◌≤◌, List, [], ◌∷◌, ◌++◌, refl, sym, ap, subst, ◌∙◌, arith, append_assoc, length-append}
use Rattle.btree_twigs.specs.declared.twigs.Child.{Child}
use Rattle.btree_twigs.specs.Stubs.{Stub, Tiles, Takes, start_by, low_of, stubs}
use Rattle.btree_twigs.specs.Shape.{IsChild}
use Rattle.btree_twigs.specs.Updates.{IsNode, stubs_under}
use Rattle.btree_twigs.proofs.Counts.{no_nodes, no_rooms}
use Rattle.btree_twigs.specs.Removal.{IsTaken}
use Rattle.btree_twigs.proofs.ListLaws.{start_append, stubs_append, each_append, each_front, each_back, tiles_by, tiles_from, tiles_append}
use Rattle.btree_twigs.proofs.Children.{tiles_child, one_datum}
use Rattle.btree_twigs.proofs.Mends.{widen, widen_stubs}

pub takes_lift : (low from to high block : ℕ) (xs old new bs : List Stub) → Tiles low from xs → Takes from to block old new → Tiles to high bs →
    Takes low high block (xs ++ (old ++ bs)) (xs ++ (new ++ bs))
takes_lift low from to high block xs old new bs h p k = record {
  front = xs ++ p.front;
  mid = p.mid;
  back = p.back ++ bs;
  was = rw (p.was, append_assoc, append_assoc, append_assoc) refl;
  now = rw (p.now, append_assoc, append_assoc) refl;
  before = tiles_append low from block xs p.front h p.before;
  here = p.here;
  after = tiles_append (suc block) to high p.back bs p.after k;
}

one_tiles : (order level : ℕ) (high : ℕ) (c : Child) → low_of c < high → IsChild order level high c → Tiles (low_of c) high (stubs level high c)
one_tiles order level high c = tiles_child order level high c

module _ (order least low high block : ℕ) where
  -- nothing is there
  pub nothing_first : (cs : List Child) → IsNode order 0 least order low high cs → low ≤ block → block < start_by low_of cs high → IsTaken order 0 least low high block cs cs
  nothing_first cs h from lt = record {
    node = record { enough = omega (arith, h.enough); within = h.within; begins = h.begins; each = h.each };
    takes = record {
      front = [];
      mid = [];
      back = stubs_under 0 high cs;
      was = refl;
      now = refl;
      before = from;
      here = omega arith;
      after = tiles_from (start_by low_of cs high) (suc block) high _ (omega (arith, lt)) (tiles_by low_of (IsChild order 0) (stubs 0) (one_tiles order 0) high cs h.each);
    };
    few = omega arith;
    no_more_room = omega arith;
  }

  pub nothing_behind : (fs : List Child) (c : Child) (bs : List Child) → IsNode order 0 least order low high (fs ++ c ∷ bs) → low_of c < block → block < start_by low_of bs high →
      IsTaken order 0 least low high block (fs ++ c ∷ bs) (fs ++ c ∷ bs)
  nothing_behind fs c bs h less lt =
      let back = each_back low_of (IsChild order 0) high fs (c ∷ bs) h.each in
      let front = each_front low_of (IsChild order 0) high fs (c ∷ bs) h.each in
      let one = one_datum order (start_by low_of bs high) c back.1 in
      let begins = subst (λ s. low ≤ s) (start_append low_of fs (c ∷ bs) high) h.begins in
      record {
        node = record { enough = omega (arith, h.enough); within = h.within; begins = h.begins; each = h.each };
        takes = record {
          front = stubs_under 0 (low_of c) fs ++ stubs 0 (start_by low_of bs high) c;
          mid = [];
          back = stubs_under 0 high bs;
          was = stubs_append low_of (stubs 0) high fs (c ∷ bs) ∙ sym (append_assoc (stubs_under 0 (low_of c) fs) (stubs 0 (start_by low_of bs high) c) (stubs_under 0 high bs));
          now = stubs_append low_of (stubs 0) high fs (c ∷ bs) ∙ sym (append_assoc (stubs_under 0 (low_of c) fs) (stubs 0 (start_by low_of bs high) c) (stubs_under 0 high bs));
          before = tiles_append low (low_of c) block _ _ (tiles_from (start_by low_of fs (low_of c)) low (low_of c) _ begins (tiles_by low_of (IsChild order 0) (stubs 0) (one_tiles order 0) (low_of c) fs front))
              (rw (one.stubs_are (start_by low_of bs high)) (omega arith, omega arith, omega (arith, less)));
          here = omega arith;
          after = tiles_from (start_by low_of bs high) (suc block) high _ (omega (arith, lt)) (tiles_by low_of (IsChild order 0) (stubs 0) (one_tiles order 0) high bs back.2);
        };
        few = omega arith;
        no_more_room = omega arith;
      }

  -- it is taken
  pub taken : (fs : List Child) (c : Child) (bs : List Child) → IsNode order 0 least order low high (fs ++ c ∷ bs) → low_of c ≡ block →
      IsTaken order 0 least low high block (fs ++ c ∷ bs) (fs ++ bs)
  taken fs c bs h same =
      let back = each_back low_of (IsChild order 0) high fs (c ∷ bs) h.each in
      let front = each_front low_of (IsChild order 0) high fs (c ∷ bs) h.each in
      let one = one_datum order (start_by low_of bs high) c back.1 in
      let begins = subst (λ s. low ≤ s) (start_append low_of fs (c ∷ bs) high) h.begins in
      record {
        node = record {
          enough = omega (arith, h.enough, length-append fs (c ∷ bs), length-append fs bs);
          within = omega (arith, h.within, length-append fs (c ∷ bs), length-append fs bs);
          begins = subst (λ s. low ≤ s) (sym (start_append low_of fs bs high)) (later fs begins back.0);
          each = each_append low_of (IsChild order 0) high fs bs (widen order (low_of c) (start_by low_of bs high) fs (omega (arith, back.0)) front) back.2;
        };
        takes = record {
          front = stubs_under 0 (low_of c) fs;
          mid = stubs 0 (start_by low_of bs high) c;
          back = stubs_under 0 high bs;
          was = stubs_append low_of (stubs 0) high fs (c ∷ bs);
          now = stubs_append low_of (stubs 0) high fs bs ∙ ap (λ s. s ++ stubs_under 0 high bs) (widen_stubs order (low_of c) (start_by low_of bs high) fs front);
          before = subst (λ b. Tiles low b (stubs_under 0 (low_of c) fs)) same (tiles_from (start_by low_of fs (low_of c)) low (low_of c) _ begins (tiles_by low_of (IsChild order 0) (stubs 0) (one_tiles order 0) (low_of c) fs front));
          here = rw (one.stubs_are (start_by low_of bs high)) (omega (arith, same), omega arith, omega (arith, same));
          after = tiles_from (start_by low_of bs high) (suc block) high _ (omega (arith, back.0, same)) (tiles_by low_of (IsChild order 0) (stubs 0) (one_tiles order 0) high bs back.2);
        };
        few = omega (arith, no_nodes (fs ++ bs));
        no_more_room = omega (arith, no_rooms (fs ++ bs));
      }
    where
      later : (fs : List Child) → low ≤ start_by low_of fs (low_of c) → low_of c < start_by low_of bs high → low ≤ start_by low_of fs (start_by low_of bs high)
      later [] h lt = omega (arith, h, lt)
      later (f ∷ fs) h lt = h
