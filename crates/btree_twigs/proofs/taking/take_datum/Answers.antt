use Rattle.std.proofs.Common.{map, inr, ap, ◌≡◌, ◌≢◌, ℕ, suc, ◌<◌, ◌≤◌, ◌-◌, ◌++◌, ◌∷◌, List, length, take, drop, get_or, sym, subst, ◌∙◌, arith}
use Rattle.std.specs.List.{AllByRecursion, remove}
use Rattle.std.proofs.lemmas.List.{map-append}
use Rattle.btree_twigs.specs.declared.twigs.Child.{Child}
use Rattle.btree_twigs.specs.Stubs.{start_by, low_of}
use Rattle.btree_twigs.specs.Updates.{IsNode}
use Rattle.btree_twigs.specs.Removal.{IsTaken}
use Rattle.btree_twigs.proofs.ListLaws.{split_here, at_end}
use Rattle.btree_twigs.proofs.Takings.{nothing_first, nothing_behind, taken}
use Rattle.btree_twigs.proofs.taking.take_datum.Goals as goal

module _ (order least low high block n : ℕ) (cs ds : List Child) (c : Child) (h : IsNode order 0 least order low high cs) (same : ds ≡ cs) (some : n ≡ 0 → ⊥) (within : n ≤ length ds)
    (before : AllByRecursion (λ d. low_of d ≤ block) (take n ds)) (after : (high : ℕ) → block < high → block < start_by low_of (drop n ds) high) (here : c ≡ get_or cs (n - 1) c) (to : block < high) where
  at_is : suc (n - 1) ≡ n
  at_is = omega (arith, some)

  within' : n - 1 < length cs
  within' = let w = subst (λ xs. n ≤ length xs) same within in omega (arith, some, w)

  split : cs ≡ take (n - 1) cs ++ c ∷ drop (suc (n - 1)) cs
  split = split_here cs (n - 1) c within' here

  le : low_of c ≤ block
  le = at_end (λ d. low_of d ≤ block) cs (n - 1) n c at_is within' here (subst (λ xs. AllByRecursion (λ d. low_of d ≤ block) (take n xs)) same before)

  behind : block < start_by low_of (drop (suc (n - 1)) cs) high
  behind = subst (λ m. block < start_by low_of (drop m cs) high) (sym at_is) (subst (λ xs. block < start_by low_of (drop n xs) high) same (after high to))

  not_there : low_of c ≢ block → IsTaken order 0 least low high block cs cs
  not_there other = subst (λ xs. IsTaken order 0 least low high block xs xs) (sym split)
      (nothing_behind order least low high block (take (n - 1) cs) c (drop (suc (n - 1)) cs) (subst (IsNode order 0 least order low high) split h) (omega (arith, le, other)) behind)

  there : low_of c ≡ block → IsTaken order 0 least low high block cs (remove cs (n - 1))
  there is = subst (λ xs. IsTaken order 0 least low high block xs (remove cs (n - 1))) (sym split)
      (taken order least low high block (take (n - 1) cs) c (drop (suc (n - 1)) cs) (subst (IsNode order 0 least order low high) split h) is)

pub returns-then-at-eq0-clause-take : goal.returns-then-at-eq0-clause-take
returns-then-at-eq0-clause-take c order least low high h from to =
    let after = subst (λ ds. c.args.block < start_by low_of (drop c.place-at.result ds) high) c.deref.ensures.value (c.place-at.ensures.after high to) in
    nothing_first order least low high c.args.block c.args.children.now.items h from (subst (λ n. c.args.block < start_by low_of (drop n c.args.children.now.items) high) c.if-at-eq0.true after)

pub returns-then-low_of-block-clause-take : goal.returns-then-low_of-block-clause-take
returns-then-low_of-block-clause-take c order least low high h from to =
    not_there order least low high c.args.block c.place-at.result c.args.children.now.items c.deref.result.now c.index.result.now h c.deref.ensures.value c.if-at-eq0.false c.place-at.ensures.within
    c.place-at.ensures.before c.place-at.ensures.after c.index.ensures to (λ e. c.if-low_of-block.true (c.low_of.ensures ∙ e))

pub returns-clause-take : goal.returns-clause-take
returns-clause-take c order least low high h from to =
    subst (IsTaken order 0 least low high c.args.block c.args.children.now.items) (sym (c.cover.ensures.items ∙ c.remove-child.ensures.items))
    (there order least low high c.args.block c.place-at.result c.args.children.now.items c.deref.result.now c.index.result.now h c.deref.ensures.value c.if-at-eq0.false c.place-at.ensures.within
    c.place-at.ensures.before c.place-at.ensures.after c.index.ensures to (sym c.low_of.ensures ∙ c.if-low_of-block.false))

pub returns-clause-lows : goal.returns-clause-lows
returns-clause-lows c =
    let cs = c.args.children.now.items in
    let n = c.place-at.result in
    let within = subst (λ xs. n ≤ length xs) c.deref.ensures.value c.place-at.ensures.within in
    let here : low_of c.index.result.now ≡ c.args.block = sym c.low_of.ensures ∙ c.if-low_of-block.false in
    let split = split_here cs (n - 1) c.index.result.now (omega (arith, c.if-at-eq0.false, within)) c.index.ensures in
    inr (
      map low_of (take (n - 1) cs),
      map low_of (drop (suc (n - 1)) cs),
      ap (map low_of) split ∙ map-append low_of (take (n - 1) cs) (c.index.result.now ∷ drop (suc (n - 1)) cs) ∙ ap (λ x. map low_of (take (n - 1) cs) ++ (x ∷ map low_of (drop (suc (n - 1)) cs))) here,
      ap (map low_of) (c.cover.ensures.items ∙ c.remove-child.ensures.items) ∙ map-append low_of (take (n - 1) cs) (drop (suc (n - 1)) cs),
    )
