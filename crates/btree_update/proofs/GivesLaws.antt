-- How what gives way below a child gives way below its node.
use Rattle.std.proofs.Common.{◌≡◌, ℕ, suc, ◌<◌, ◌≤◌, List, [], ◌∷◌, ◌++◌, map, refl, sym, ap, subst, ◌∙◌, arith, append_assoc, append-nil, ◌/◌}
use Rattle.std.proofs.lemmas.List.{same_from_push, map-append}
use Rattle.btree_twigs.specs.declared.twigs.Child.{Child, Child-F, out-Child}
use Rattle.btree_twigs.specs.declared.twigs.Child.TheOpen.{Kept, Grown}
use Rattle.btree_twigs.specs.declared.twigs.Child.TheVariants as made
use Rattle.btree_twigs.specs.declared.twigs.Twig.{Twig}
use Rattle.btree_twigs.specs.Stubs.{Stub, start_by, low_in, low_of, children_of, stubs, stubs_in, stubs_below}
use Rattle.btree_twigs.specs.Updates.{IsNode, stubs_under}
use Rattle.btree_twigs.specs.Levels.{Node, row_in, row}
use Rattle.btree_twigs.proofs.Nodes.{stubs_of_grown}
use Rattle.page_store.specs.declared.wants.Want.{Want}
use Rattle.btree_update.specs.GroveTree.{want_of, want_at, want_in}
use Rattle.btree_update.specs.Held.{stub_at, IsReadAs, HeldIn, HeldFor, IsTakenUp, IsNoted}
use Rattle.btree_twigs.specs.Top.{top_least}
use Rattle.btree_update.specs.Roots.{IsRoot, IsRootBy, HeldRoot}
use Rattle.btree_update.specs.Tells.{node_row, Tells}
use Rattle.btree_update.specs.Opens.{Opens, Same, Here, Then, HasWay, IsThere, Fitting, GivesWay, GivesChild, GivesBelow}
use Rattle.btree_update.proofs.OpenLaws.{still_opens}
use Rattle.btree_update.proofs.ThereLaws.{twig_there, least_root}
use Rattle.btree_update.proofs.RowLaws.{all_append, all_weaker, kept_row, tells_opened, tells_child, still_rows, row_of_grown}

module _ (pages : List (List ℕ)) (order : ℕ) (May : Stub → Type 0) where
  -- nothing gives way
  gives_none : (old : List Stub) (gone : List ℕ) → GivesWay pages order May old old gone gone
  gives_none old gone = record { places = []; opens = Same; may = tt; more_is = sym (append-nil gone) }

  -- one after the other
  pub gives_then : (old mid new : List Stub) (gone more most : List ℕ) → GivesWay pages order May old mid gone more → GivesWay pages order May mid new more most → GivesWay pages order May old new gone most
  gives_then old mid new gone more most h k = record {
    places = h.places ++ k.places;
    opens = Then h.opens k.opens;
    may = all_append May h.places k.places h.may k.may;
    more_is = k.more_is ∙ ap (λ g. g ++ map (λ s. s.addr) k.places) h.more_is ∙ append_assoc gone (map (λ s. s.addr) h.places) (map (λ s. s.addr) k.places) ∙ ap (λ a. gone ++ a) (sym (map-append (λ s. s.addr) h.places k.places));
  }

  pub child_none : (level high : ℕ) (c : Child) (gone : List ℕ) → GivesChild pages order May level high c c gone gone
  child_none level high c gone = record { places = gives_none _ gone; rows = λ medium t j. refl }

  pub below_none : (level high : ℕ) (twig : Twig) (gone : List ℕ) → GivesBelow pages order May level high twig twig gone gone
  below_none level high twig gone = record { places = gives_none _ gone; rows = λ medium t low j. refl }

  pub below_then : (level high : ℕ) (old mid new : Twig) (gone more most : List ℕ) → GivesBelow pages order May level high old mid gone more → GivesBelow pages order May level high mid new more most → GivesBelow pages order May level high old new gone most
  below_then level high old mid new gone more most h k = record {
    places = gives_then _ _ _ gone more most h.places k.places;
    rows = λ medium t low j. k.rows medium (tells_opened pages medium order h.places.places _ _ h.places.opens t) low j ∙ h.rows medium t low j;
  }

  -- a child that took a node
  pub record TakesUp (l high : ℕ) (x : Child-F Child Twig) (low : ℕ) (twig : Twig) (gone more : List ℕ) : Type 0 where
    pub places : GivesWay pages order May (stubs_in (stubs l) (suc l) high x) (stubs_below l high twig) gone more
    pub rows : (medium : Stub → ℕ → List Node) → Tells pages medium (stubs_in (stubs l) (suc l) high x) → (j : ℕ) → node_row (row medium j l) j l low high (children_of twig) ≡ row_in medium j (row medium j l) l high x

  pub kept_takes : (l high low' addr low : ℕ) (key : List ℕ) (twig : Twig) (gone more : List ℕ) → low' ≡ low → IsReadAs pages order l (stub_at (suc l) low' high addr key) twig → May (stub_at (suc l) low' high addr key) → more ≡ gone ++ addr ∷ [] →
      TakesUp l high (Kept low' addr key) low twig gone more
  kept_takes l high low' addr low key twig gone more lows r may is = record {
    places = record { places = stub_at (suc l) low' high addr key ∷ []; opens = Here r; may = (may, tt); more_is = is };
    rows = λ medium t j. ap (λ m. node_row (row medium j l) j l m high (children_of twig)) (sym lows) ∙ kept_row pages medium order l low' high addr key twig r t.0 j;
  }

  pub grown_takes : (l high low' low : ℕ) (twig' twig : Twig) (gone more : List ℕ) → low' ≡ low → twig' ≡ twig → more ≡ gone → TakesUp l high (Grown low' twig') low twig gone more
  grown_takes l high low' low twig' twig gone more lows twigs is = record {
    places = subst (GivesWay pages order May (stubs_below l high twig') (stubs_below l high twig) gone) (sym is)
        (subst (λ w. GivesWay pages order May (stubs_below l high twig') (stubs_below l high w) gone gone) twigs (gives_none (stubs_below l high twig') gone));
    rows = λ medium t j. ap (λ m. node_row (row medium j l) j l m high (children_of twig)) (sym lows) ∙ ap (λ w. node_row (row medium j l) j l low' high (children_of w)) (sym twigs);
  }

  -- and what gives way below the node then
  pub grown_gives : (l high : ℕ) (c : Child) (low : ℕ) (twig new : Twig) (gone mid more : List ℕ) → TakesUp l high (out-Child c) low twig gone mid → GivesBelow pages order May l high twig new mid more →
      GivesChild pages order May (suc l) high c (made.Grown low new) gone more
  unfolding stubs row
  grown_gives l high c low twig new gone mid more u g = record {
    places = subst (λ ss. GivesWay pages order May (stubs_in (stubs l) (suc l) high (out-Child c)) ss gone more) (sym (stubs_of_grown l high low new)) (gives_then _ _ _ gone mid more u.places g.places);
    rows = λ medium t j. row_of_grown medium j l high low new ∙ g.rows medium (tells_opened pages medium order u.places.places _ _ u.places.opens t) low j ∙ u.rows medium t j;
  }

  -- the same of a child that stands in memory
  pub child_gives : (l high low : ℕ) (twig new : Twig) (gone more : List ℕ) → GivesBelow pages order May l high twig new gone more → GivesChild pages order May (suc l) high (made.Grown low twig) (made.Grown low new) gone more
  child_gives l high low twig new gone more g =
      grown_gives l high (made.Grown low twig) low twig new gone gone more (subst (λ x. TakesUp l high x low twig gone gone) (sym (made.outs-Grown low twig)) (grown_takes l high low low twig twig gone gone refl refl refl)) g

  -- what gives way below a child of a node
  pub node_gives : (level least low high : ℕ) (old new : Twig) (fs : List Child) (c d : Child) (bs : List Child) (gone more : List ℕ) → IsNode order level least order low high (fs ++ c ∷ bs) → children_of old ≡ fs ++ c ∷ bs → children_of new ≡ fs ++ d ∷ bs → low_of d ≡ low_of c →
      GivesChild pages order May level (start_by low_of bs high) c d gone more → GivesBelow pages order May level high old new gone more
  node_gives level least low high old new fs c d bs gone more node was now low_is g =
      let ps = g.places.places in
      let o = still_opens order level least low high 0 fs c bs node pages d ps low_is g.places.opens in
      record {
        places = record {
          places = ps;
          opens = subst (λ xs. Opens pages order ps (stubs_under level high xs) (stubs_below level high new)) (sym was) (subst (λ xs. Opens pages order ps (stubs_under level high (fs ++ c ∷ bs)) (stubs_under level high xs)) (sym now) o);
          may = g.places.may;
          more_is = g.places.more_is;
        };
        rows = λ medium t m j. ap (node_row (row medium j level) j level m high) now
            ∙ still_rows medium j level m high fs c d bs low_is (g.rows medium (tells_child pages medium level high fs c bs (subst (λ xs. Tells pages medium (stubs_under level high xs)) was t)) j)
            ∙ ap (node_row (row medium j level) j level m high) (sym was);
      }

-- where such places may give way, so may others
pub gives_weaker : (pages : List (List ℕ)) (order : ℕ) (May Might : Stub → Type 0) → ((s : Stub) → May s → Might s) → (old new : List Stub) (gone more : List ℕ) → GivesWay pages order May old new gone more → GivesWay pages order Might old new gone more
gives_weaker pages order May Might f old new gone more h = record { places = h.places; opens = h.opens; may = all_weaker May Might f h.places h.may; more_is = h.more_is }

abbrev grown_of : ℕ → Twig → Child-F Child Twig
grown_of low twig = Grown low twig

-- a child takes what is held for it
takes_up_by : (pages : List (List ℕ)) (order least block l high : ℕ) (want : Stub → Want) → ((low addr : ℕ) (key : List ℕ) → want (stub_at (suc l) low high addr key) ≡ want_at order (suc l) low high addr least) →
    (Rest : ℕ → Child → List Twig → Type 0) (x : Child-F Child Twig) (new : Child) (held rest : List Twig) (low : ℕ) (twig : Twig) (gone more : List ℕ) → low_in x ≤ block → block < high →
    HeldIn (IsReadAs pages order) order least block Rest l high x held → IsTakenUp x new held rest → IsNoted x gone more → out-Child new ≡ Grown low twig → TakesUp pages order (Fitting pages want (HasWay block)) l high x low twig gone more
takes_up_by pages order least block l high want wants Rest (Kept low' addr key) new held rest low twig gone more from to h t n is =
    let same = same_from_push h.rest rest h.twig t.0 (sym h.is ∙ t.1) in
    let grown : grown_of low' t.0 ≡ grown_of low twig = sym t.2 ∙ is in
    let lows : low' ≡ low = cc in
    let twigs : t.0 ≡ twig = cc in
    let there = subst (λ w. IsThere pages w key) (sym (wants low' addr key)) (twig_there pages order l least low' high addr key h.twig h.reads h.shaped) in
    kept_takes pages order (Fitting pages want (HasWay block)) l high low' addr low key twig gone more lows (subst (IsReadAs pages order l (stub_at (suc l) low' high addr key)) (same.1 ∙ twigs) h.reads) ((from, to), there) n
takes_up_by pages order least block l high want wants Rest (Grown low' twig') new held rest low twig gone more from to h t n is =
    let grown : grown_of low' twig' ≡ grown_of low twig = sym t.0 ∙ is in
    let lows : low' ≡ low = cc in
    let twigs : twig' ≡ twig = cc in
    grown_takes pages order (Fitting pages want (HasWay block)) l high low' low twig' twig gone more lows twigs n

pub takes_up : (pages : List (List ℕ)) (order block l high : ℕ) (c new : Child) (held rest : List Twig) (low : ℕ) (twig : Twig) (gone more : List ℕ) → low_of c ≤ block → block < high →
    HeldFor (IsReadAs pages order) order block (suc l) high c held → IsTakenUp (out-Child c) new held rest → IsNoted (out-Child c) gone more → out-Child new ≡ Grown low twig →
    TakesUp pages order (Fitting pages (want_of order) (HasWay block)) l high (out-Child c) low twig gone more
unfolding HeldFor
takes_up pages order block l high c new held rest low twig gone more from to h t n is = takes_up_by pages order (order / 2) block l high (want_of order) (λ low addr key. refl) (HeldFor (IsReadAs pages order) order block l) (out-Child c) new held rest low twig gone more from to h t n is

-- so does a root
root_from : (order block l high : ℕ) (x : Child-F Child Twig) → IsRootBy order l high x → low_in x ≤ block
root_from order block l high (Kept low addr key) h = omega (arith, h)
root_from order block l high (Grown low twig) h = omega (arith, h.0)

pub root_takes_up : (pages : List (List ℕ)) (order block l high : ℕ) (top new : Child) (held rest : List Twig) (low : ℕ) (twig : Twig) (gone more : List ℕ) → IsRoot order l high top → block < high →
    HeldRoot (IsReadAs pages order) order block l high top held → IsTakenUp (out-Child top) new held rest → IsNoted (out-Child top) gone more → out-Child new ≡ Grown low twig →
    TakesUp pages order (Fitting pages (want_in order (suc l)) (HasWay block)) l high (out-Child top) low twig gone more
root_takes_up pages order block l high top new held rest low twig gone more root to h t n is =
    takes_up_by pages order (top_least l) block l high (want_in order (suc l)) (λ low addr key. ap (λ n. want_at order (suc l) low high addr n) (least_root order l)) (HeldFor (IsReadAs pages order) order block l) (out-Child top) new held rest low twig gone more (root_from order block l high (out-Child top) root) to h t n is
