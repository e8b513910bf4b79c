use Rattle.std.proofs.Common.{◌≡◌, ℕ, suc, ◌+◌, ◌-◌, ◌<◌, ◌≤◌, List, ◌∷◌, ◌++◌, length, take, drop, get_or, set, map, sym, ap, subst, ◌∙◌, arith, add-one}
use Rattle.std.specs.List.{AllByRecursion, insert}
use Rattle.std.proofs.lemmas.List.{set_split}
use Rattle.btree_twigs.specs.declared.twigs.Child.{Child}
use Rattle.btree_twigs.specs.declared.twigs.Child.TheVariants as made
use Rattle.btree_twigs.specs.Stubs.{datum, start_by, low_of}
use Rattle.btree_twigs.specs.Updates.{IsPut}
use Rattle.btree_twigs.proofs.ListLaws.{split_here, insert_here, at_end}
use Rattle.btree_twigs.proofs.Leaf.{IsLeaf, replaced, inserted, first}
use Rattle.btree_twigs.proofs.Children.{low_of_kept}
use Rattle.btree_twigs.specs.Levels.{TakesLow}
use Rattle.btree_twigs.proofs.LevelLaws.{lows_in, lows_first, lows_same}
use Rattle.btree_twigs.proofs.Stays.{none_before_all, leaf_low}
use Rattle.btree_twigs.proofs.putting.put_datum.Goals as goal

module _ (order least most low high block addr : ℕ) (key : List ℕ) (cs : List Child) (h : IsLeaf order least most low high cs) where
  at_replaced : (i : ℕ) (c : Child) → i < length cs → c ≡ get_or cs i c → low_of c ≡ block →
      IsPut order 0 least (most + 1) low high (datum block addr key) cs (set cs i (made.Kept block addr key))
  at_replaced i c lt e same =
      let split = split_here cs i c lt e in
      subst (λ ds. IsPut order 0 least (most + 1) low high (datum block addr key) ds (set cs i (made.Kept block addr key))) (sym split)
      (subst (IsPut order 0 least (most + 1) low high (datum block addr key) (take i cs ++ c ∷ drop (suc i) cs)) (sym (set_split cs i (made.Kept block addr key) lt))
      (replaced order least most low high block addr key (take i cs) c (drop (suc i) cs) (subst (IsLeaf order least most low high) split h) same))

  at_inserted : (i n : ℕ) (c : Child) → suc i ≡ n → i < length cs → c ≡ get_or cs i c → low_of c < block → block < start_by low_of (drop n cs) high →
      IsPut order 0 least (most + 1) low high (datum block addr key) cs (insert cs n (made.Kept block addr key))
  at_inserted i n c is lt e less less' =
      let split = split_here cs i c lt e in
      subst (λ ds. IsPut order 0 least (most + 1) low high (datum block addr key) ds (insert cs n (made.Kept block addr key))) (sym split)
      (subst (IsPut order 0 least (most + 1) low high (datum block addr key) (take i cs ++ c ∷ drop (suc i) cs))
      (sym (ap (λ m. insert cs m (made.Kept block addr key)) (sym is ∙ sym (add-one i)) ∙ insert_here cs i c (made.Kept block addr key) lt e))
      (inserted order least most low high block addr key (take i cs) c (drop (suc i) cs) (subst (IsLeaf order least most low high) split h) less
      (subst (λ m. block < start_by low_of (drop m cs) high) (sym is) less')))

pub returns-then-at-eq0-clause-put : goal.returns-then-at-eq0-clause-put
returns-then-at-eq0-clause-put c order least most low high h le lt =
    let cs = c.args.children.now.items in
    let after = subst (λ ds. c.args.block < start_by low_of (drop c.place-at.result ds) high) c.deref.ensures.value (c.place-at.ensures.after high lt) in
    let before = subst (λ n. c.args.block < start_by low_of (drop n cs) high) c.if-at-eq0.true after in
    subst (IsPut order 0 least (most + 1) low high (datum c.args.block c.args.addr c.args.key) cs) (sym c.insert.ensures.items)
    (first order least most low high c.args.block c.args.addr c.args.key cs h le before)

pub returns-then-low_of-block-clause-put : goal.returns-then-low_of-block-clause-put
returns-then-low_of-block-clause-put c order least most low high h le lt =
    let cs = c.args.children.now.items in
    let after = subst (λ ds. c.args.block < start_by low_of (drop c.place-at.result ds) high) c.deref.ensures.value (c.place-at.ensures.after high lt) in
    subst (IsPut order 0 least (most + 1) low high (datum c.args.block c.args.addr c.args.key) cs) (sym c.insert-then-low_of-block.ensures.items)
    (at_inserted order least most low high c.args.block c.args.addr c.args.key cs h (c.place-at.result - 1) c.place-at.result c.index.result.now
    (omega arith) (omega arith) c.index.ensures (omega arith) after)

pub returns-clause-put : goal.returns-clause-put
returns-clause-put c order least most low high h le lt =
    let cs = c.args.children.now.items in
    let n = c.place-at.result in
    let last = c.index.result.now in
    let before = subst (λ ds. AllByRecursion (λ d. low_of d ≤ c.args.block) (take n ds)) c.deref.ensures.value c.place-at.ensures.before in
    let at_most = at_end (λ d. low_of d ≤ c.args.block) cs (n - 1) n last (omega arith) (omega arith) c.index.ensures before in
    at_replaced order least most low high c.args.block c.args.addr c.args.key cs h (n - 1) last
    (omega arith) c.index.ensures (omega arith)

-- the lows: before all others, behind the last one before it, and in the place of the one that is there
lows_inserted : (cs : List Child) (i n : ℕ) (c d : Child) → suc i ≡ n → i < length cs → c ≡ get_or cs i c → TakesLow (low_of d) (map low_of cs) (map low_of (insert cs n d))
lows_inserted cs i n c d is lt e =
    subst (λ ds. TakesLow (low_of d) (map low_of ds) (map low_of (insert cs n d))) (sym (split_here cs i c lt e))
    (subst (λ ds. TakesLow (low_of d) (map low_of (take i cs ++ c ∷ drop (suc i) cs)) (map low_of ds)) (sym (ap (λ m. insert cs m d) (sym is ∙ sym (add-one i)) ∙ insert_here cs i c d lt e))
    (lows_in (take i cs) c d (drop (suc i) cs)))

lows_replaced : (cs : List Child) (i : ℕ) (c d : Child) → i < length cs → c ≡ get_or cs i c → low_of d ≡ low_of c → TakesLow (low_of d) (map low_of cs) (map low_of (set cs i d))
lows_replaced cs i c d lt e same =
    subst (λ ds. TakesLow (low_of d) (map low_of ds) (map low_of (set cs i d))) (sym (split_here cs i c lt e))
    (subst (λ ds. TakesLow (low_of d) (map low_of (take i cs ++ c ∷ drop (suc i) cs)) (map low_of ds)) (sym (set_split cs i d lt))
    (lows_same (take i cs) c d (drop (suc i) cs) same))

pub returns-then-at-eq0-clause-lows : goal.returns-then-at-eq0-clause-lows
returns-then-at-eq0-clause-lows c =
    let cs = c.args.children.now.items in
    subst (λ ds. TakesLow c.args.block (map low_of cs) (map low_of ds)) (sym c.insert.ensures.items)
    (subst (λ l. TakesLow l (map low_of cs) (map low_of (made.Kept c.args.block c.args.addr c.args.key ∷ cs))) (low_of_kept c.args.block c.args.addr c.args.key)
    (lows_first (made.Kept c.args.block c.args.addr c.args.key) cs))

pub returns-then-low_of-block-clause-lows : goal.returns-then-low_of-block-clause-lows
returns-then-low_of-block-clause-lows c =
    let cs = c.args.children.now.items in
    let n = c.place-at.result in
    let d = made.Kept c.args.block c.args.addr c.args.key in
    subst (λ ds. TakesLow c.args.block (map low_of cs) (map low_of ds)) (sym c.insert-then-low_of-block.ensures.items)
    (subst (λ l. TakesLow l (map low_of cs) (map low_of (insert cs n d))) (low_of_kept c.args.block c.args.addr c.args.key)
    (lows_inserted cs (n - 1) n c.index.result.now d (omega arith) (omega arith) c.index.ensures))

pub returns-clause-lows : goal.returns-clause-lows
returns-clause-lows c =
    let cs = c.args.children.now.items in
    let n = c.place-at.result in
    let last = c.index.result.now in
    let d = made.Kept c.args.block c.args.addr c.args.key in
    let before = subst (λ ds. AllByRecursion (λ d. low_of d ≤ c.args.block) (take n ds)) c.deref.ensures.value c.place-at.ensures.before in
    let at_most = at_end (λ d. low_of d ≤ c.args.block) cs (n - 1) n last (omega arith) (omega arith) c.index.ensures before in
    let low_d = low_of_kept c.args.block c.args.addr c.args.key in
    subst (λ l. TakesLow l (map low_of cs) (map low_of (set cs (n - 1) d))) low_d
    (lows_replaced cs (n - 1) last d (omega arith) c.index.ensures (omega (arith, low_d, at_most)))

pub returns-then-at-eq0-clause-stays : goal.returns-then-at-eq0-clause-stays
returns-then-at-eq0-clause-stays c order least most low high h lt has =
    let cs = c.args.children.now.items in
    let after = subst (λ ds. c.args.block < start_by low_of (drop c.place-at.result ds) high) c.deref.ensures.value (c.place-at.ensures.after high lt) in
    absurd (none_before_all order 0 least most low high c.args.block cs h (subst (λ n. c.args.block < start_by low_of (drop n cs) high) c.if-at-eq0.true after) has)

pub returns-then-low_of-block-clause-stays : goal.returns-then-low_of-block-clause-stays
returns-then-low_of-block-clause-stays c order least most low high h lt has =
    let cs = c.args.children.now.items in
    let n = c.place-at.result in
    let last = c.index.result.now in
    let after = subst (λ ds. c.args.block < start_by low_of (drop n ds) high) c.deref.ensures.value (c.place-at.ensures.after high lt) in
    let is = leaf_low order least most low high c.args.block (n - 1) n cs last h (omega arith) (omega arith) c.index.ensures (omega arith) after has in
    absurd (omega (arith, is))
