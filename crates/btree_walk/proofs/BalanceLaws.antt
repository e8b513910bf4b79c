-- How many entries a tree has, at least.
use Rattle.std.proofs.Common.{◌≡◌, ℕ, zero, suc, ◌-◌, ◌*◌, ◌/◌, ◌^◌, ◌≤◌, List, [], ◌∷◌, length, refl, sym, subst, arith, length-append, cond, ◌==◌, inl, inr}
use Rattle.std.proofs.Math.Nat.{mul-le-mul_right, pow-zero, pow-succ', suc-mul}
use Rattle.std.proofs.lemmas.Bool.Decides.{eqb_tells}
use Rattle.node_codec.specs.declared.body.Entry.{Entry}
use Rattle.root_codec.specs.declared.root.Root.{Root}
use Rattle.page_store.specs.declared.wants.Want.{Want}
use Rattle.page_store.specs.Places.{child_want, root_want}
use Rattle.page_store.specs.Tree.{Parts, joined, bound_of, EachChild, Subtree, Tree}

-- children of k entries each, at least
each_many : (Below : Want → List ℕ → Parts → Type 0) (order level high k : ℕ) (entries : List Entry) (children : List Parts)
    → ((entry : Entry) (bound : ℕ) (parts : Parts) → Below (child_want order level entry bound) entry.key parts → k ≤ length parts.mapped)
    → EachChild Below order level high entries children → length entries * k ≤ length (joined children).mapped
each_many Below order level high k [] [] many each = omega arith
each_many Below order level high k [] (parts ∷ children) many each = absurd each
each_many Below order level high k (entry ∷ entries) [] many each = absurd each
each_many Below order level high k (entry ∷ entries) (parts ∷ children) many each =
    let first = many entry (bound_of entries high) parts each.0 in
    let rest = each_many Below order level high k entries children many each.1 in
    let both = length-append parts.mapped (joined children).mapped in
    let one = suc-mul (length entries) k in
    omega arith

module _ (pages : List (List ℕ)) (order : ℕ) where
  -- a node has, for each entry that it must have, as many as a tree below it has
  pub subtree_many : (level : ℕ) (want : Want) (key : List ℕ) (parts : Parts) → Subtree pages order (suc level) want key parts → want.least * (order / 2) ^ level ≤ length parts.mapped
  unfolding Subtree
  subtree_many zero want key parts is =
      let sum = each_many (Subtree pages order zero) order zero want.high 1 is.entries is.children
      (λ entry bound below leaf. subst (λ (p : Parts). 1 ≤ length p.mapped) (sym leaf.has) (omega arith)) is.each in
      let least = is.fits.1.least in
      let one : (order / 2) ^ zero ≡ 1 = pow-zero (order / 2) in
      subst (λ (p : Parts). want.least * (order / 2) ^ zero ≤ length p.mapped) (sym is.has) (subst (λ n. want.least * n ≤ length (joined is.children).mapped) (sym one) (omega arith))
  subtree_many (suc level) want key parts is =
      let k = (order / 2) ^ suc level in
      let each = each_many (Subtree pages order (suc level)) order (suc level) want.high k is.entries is.children
      (λ entry bound below sub. subst (λ n. n ≤ length below.mapped) (sym (pow-succ' (order / 2) level)) (subtree_many level (child_want order (suc level) entry bound) entry.key below sub)) is.each in
      let least = mul-le-mul_right k is.fits.1.least in
      subst (λ (p : Parts). want.least * k ≤ length p.mapped) (sym is.has) (omega arith)

abbrev least_at : ℕ → ℕ
least_at n = cond (n == 1) 0 2

-- a tree of two levels or more has so many entries
pub tree_many : (pages : List (List ℕ)) (root : Root) (parts : Parts) → Tree pages root parts → 2 ≤ root.level → 2 * (root.order / 2) ^ (root.level - 1) ≤ length parts.mapped
tree_many pages root parts is deep =
    let level : root.level ≡ suc (root.level - 1) = omega arith in
    let is' = subst (λ (n : ℕ). Subtree pages root.order n (root_want root) root.key parts) level is in
    let many = subtree_many pages root.order (root.level - 1) (root_want root) root.key parts is' in
    let least : (root_want root).least ≡ 2 = two root.level deep in
    subst (λ n. n * (root.order / 2) ^ (root.level - 1) ≤ length parts.mapped) least many
  where
    two : (n : ℕ) → 2 ≤ n → least_at n ≡ 2
    two n deep' = elim (eqb_tells n 1) [
      | inl one ↦ absurd (let e = one.1 in omega arith)
      | inr more ↦ rw more.0 refl
    ]
