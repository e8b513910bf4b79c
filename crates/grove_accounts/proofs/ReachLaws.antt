-- What a misfit below a reached place means: it is a wrong place of the root record's tree.
use Rattle.std.proofs.Common.{◌≡◌, inl, inr, ℕ, zero, suc, ◌/◌, List, [], ◌∷◌, ◌++◌, refl, sym, ap, subst, ◌∙◌, arith, append_assoc}
use Rattle.std.specs.Prelude.{Contains, Some}
use Rattle.node_codec.specs.declared.body.Entry.{Entry}
use Rattle.node_codec.specs.Record.{DataRecord, NodeRecord}
use Rattle.root_codec.specs.declared.root.Root.{Root}
use Rattle.page_store.specs.declared.wants.Want.{Want}
use Rattle.page_store.specs.Places.{FitsAt, NothingFits, root_want, child_want, block_want}
use Rattle.page_store.specs.Tree.{bound_of, SomeChild, WrongBelow, Wrong}
use Rattle.page_store.proofs.WrongLaws.{wrong_here}
use Rattle.btree_walk.specs.Finds.{Finds, Stops}
use Rattle.btree_twigs.specs.Stubs.{start_by}
use Rattle.btree_update.specs.Wrong.{IsWrongBeside, entry_low, IsWrongEntry, ComesToWrong, Here, Below, Beside}
use Rattle.grove_accounts.specs.Followed.{IsReached, AtRoot, AtEntry}

some_at : (Wrong : Want → List ℕ → Type 0) (order level high : ℕ) (front back : List Entry) (e : Entry) → Wrong (child_want order level e (bound_of back high)) e.key → SomeChild Wrong order level high (front ++ e ∷ back)
some_at Wrong order level high [] back e wrong = inl wrong
some_at Wrong order level high (f ∷ front) back e wrong = inr (some_at Wrong order level high front back e wrong)

module _ (pages : List (List ℕ)) (root : Root) where
  -- what is wrong below a place of the tree is wrong in the tree
  reached_wrong : (addr level : ℕ) (want : Want) (key : List ℕ) → IsReached pages root want key → level ≡ want.level → WrongBelow pages addr root.order level want key → Wrong pages root addr
  unfolding WrongBelow
  reached_wrong addr level want key AtRoot is wrong = subst (λ n. WrongBelow pages addr root.order n (root_want root) root.key) is wrong
  reached_wrong addr level want key (AtEntry {want = above} {key = over} l front e back r fits) is wrong =
      let here = subst (λ n. WrongBelow pages addr root.order n (child_want root.order l e (bound_of back above.high)) e.key) is wrong in
      reached_wrong addr (suc l) above over r fits.1.same_level
      (inr record { entries = front ++ e ∷ back; fits = fits; some = some_at (WrongBelow pages addr root.order l) root.order l above.high front back e here })

  -- so is a place of the tree where nothing fits
  pub reached_misfit : (want : Want) (key : List ℕ) → IsReached pages root want key → NothingFits pages want key → Wrong pages root want.addr
  reached_misfit want key r nothing = reached_wrong want.addr want.level want key r refl (wrong_here pages root.order want.level want key nothing)

  misfit_at : (addr : ℕ) (want : Want) (key : List ℕ) → IsReached pages root want key → addr ≡ want.addr → NothingFits pages want key → Wrong pages root addr
  misfit_at addr want key r is nothing = subst (Wrong pages root) (sym is) (reached_misfit want key r nothing)

  module _ (order : ℕ) (order_is : order ≡ root.order) where
    -- below a node that fits each entry's place is one of the tree
    pub reached_child : (level bound : ℕ) (want : Want) (key : List ℕ) (entries front : List Entry) (e : Entry) (back : List Entry) → IsReached pages root want key → FitsAt pages want key (NodeRecord (suc level) entries) →
        entries ≡ front ++ e ∷ back → bound ≡ bound_of back want.high → IsReached pages root (child_want order level e bound) e.key
    reached_child level bound want key entries front e back r fits split ends =
        subst (λ n. IsReached pages root (child_want n level e bound) e.key) (sym order_is)
        (subst (λ n. IsReached pages root (child_want root.order level e n) e.key) (sym ends)
        (AtEntry level front e back r (subst (λ es. FitsAt pages want key (NodeRecord (suc level) es)) split fits)))

    -- ---- the way of an update

    ends_as : (back : List Entry) (high : ℕ) → start_by entry_low back high ≡ bound_of back high
    ends_as [] high = refl
    ends_as (e ∷ back) high = refl

    wrong_beside : (addr level : ℕ) (want : Want) (key : List ℕ) (front : List Entry) (e : Entry) (back : List Entry) → IsReached pages root want key → FitsAt pages want key (NodeRecord (suc level) (front ++ e ∷ back)) →
        IsWrongBeside entry_low (IsWrongEntry pages order addr level) want.high front e back → Wrong pages root addr
    wrong_beside addr level want key front e (next ∷ back) r fits h =
        misfit_at addr (child_want order level next (start_by entry_low back want.high)) next.key
        (reached_child level (start_by entry_low back want.high) want key (front ++ e ∷ next ∷ back) (front ++ e ∷ []) next back r fits (sym (append_assoc front (e ∷ []) (next ∷ back))) (ends_as back want.high)) h.1.0 h.1.1
    wrong_beside addr level want key front e [] r fits (others, last, is, h) =
        misfit_at addr (child_want order level last e.low) last.key
        (reached_child level e.low want key (front ++ e ∷ []) others last (e ∷ []) r fits (ap (λ fs. fs ++ e ∷ []) is ∙ append_assoc others (last ∷ []) (e ∷ [])) refl) h.1.0 h.1.1

    -- where the way of an update comes from a place of the tree to a wrong place, that is wrong in the tree
    pub comes_wrong : (block addr : ℕ) (want : Want) (key : List ℕ) → IsReached pages root want key → ComesToWrong pages order block addr want key → Wrong pages root addr
    comes_wrong block addr want key r (Here is) = misfit_at addr want key r is.0 is.1
    comes_wrong block addr want key r (Below level front e back fits one from to rest) =
        comes_wrong block addr (child_want order level e (start_by entry_low back want.high)) e.key
        (reached_child level (start_by entry_low back want.high) want key (front ++ e ∷ back) front e back r fits refl (ends_as back want.high)) rest
    comes_wrong block addr want key r (Beside level front e back fits from to near) = wrong_beside addr level want key front e back r fits near

    -- ---- the way of a look-up

    pub stops_wrong : (block addr level : ℕ) (want : Want) (key : List ℕ) → IsReached pages root want key → Stops (FitsAt pages) order block (NothingFits pages) addr level want key → Wrong pages root addr
    unfolding Stops
    stops_wrong block addr zero want key r h = misfit_at addr want key r h.here h.misfits
    stops_wrong block addr (suc level) want key r (inl h) = misfit_at addr want key r h.here h.misfits
    stops_wrong block addr (suc level) want key r (inr h) =
        stops_wrong block addr level (child_want order (suc level) h.entry h.bound) h.entry.key
        (reached_child (suc level) h.bound want key h.entries h.way.before h.entry h.way.after r h.fits h.way.split h.way.ends) h.stops

    -- ---- a data record that isn't there

    -- what is wanted below an entry of a leaf is the data record of its block, whatever the bounds
    pub block_misfits : (addr low least most high : ℕ) (key : List ℕ) → NothingFits pages (block_want addr low) key → NothingFits pages (record { addr = addr; level = 0; low = low; high = high; least = least; most = most }) key
    block_misfits addr low least most high key nothing (DataRecord block content) fits = nothing (DataRecord block content) fits
    block_misfits addr low least most high key nothing (NodeRecord level entries) fits = omega (arith, fits.0.in_range.0.level_least, fits.1.same_level)

    record SplitsAt (entries : List Entry) (e : Entry) : Type 0 where
      front : List Entry
      back : List Entry
      is : entries ≡ front ++ e ∷ back

    splits_at : (entries : List Entry) (e : Entry) → Contains entries e → SplitsAt entries e
    splits_at [] e (i, within, is) = absurd (omega (arith, within))
    splits_at (x ∷ xs) e (zero, within, is) = record { front = []; back = xs; is = ap (λ y. y ∷ xs) is }
    splits_at (x ∷ xs) e (suc i, within, is) =
        let s = splits_at xs e (i, omega (arith, within), is) in
        record { front = x ∷ s.front; back = s.back; is = ap (λ ys. x ∷ ys) s.is }

    pub finds_wrong : (block level : ℕ) (want : Want) (key path : List ℕ) (e : Entry) → IsReached pages root want key → Finds (FitsAt pages) order block (Some e) level want key path → NothingFits pages (block_want e.addr block) e.key → Wrong pages root e.addr
    unfolding Finds
    finds_wrong block zero want key path e r h nothing =
        let s = splits_at h.entries e h.is.0 in
        reached_misfit (child_want order 0 e (bound_of s.back want.high)) e.key (reached_child 0 (bound_of s.back want.high) want key h.entries s.front e s.back r h.fits s.is refl)
        (block_misfits e.addr e.low (order / 2) order (bound_of s.back want.high) e.key (subst (λ n. NothingFits pages (block_want e.addr n) e.key) (sym h.is.1) nothing))
    finds_wrong block (suc level) want key path e r h nothing =
        finds_wrong block level (child_want order (suc level) h.entry h.bound) h.entry.key h.rest e
        (reached_child (suc level) h.bound want key h.entries h.way.before h.entry h.way.after r h.fits h.way.split h.way.ends) h.goes nothing
