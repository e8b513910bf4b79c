-- How many blocks a tree that is partly in memory maps, at least.
use Rattle.std.proofs.Common.{◌≡◌, ℕ, zero, suc, ◌-◌, ◌*◌, ◌/◌, ◌^◌, ◌≤◌, List, [], ◌∷◌, length, sym, ap, subst, ◌∙◌, arith, length-append}
use Rattle.std.proofs.Math.Nat.{mul-le-mul_right, pow-zero, pow-succ', suc-mul, pow-le-pow_left}
use Rattle.page_store.specs.Tree.{Parts, Mapped, Subtree}
use Rattle.btree_walk.proofs.BalanceLaws.{subtree_many}
use Rattle.btree_twigs.specs.declared.twigs.Child.{Child, Child-F, out-Child}
use Rattle.btree_twigs.specs.declared.twigs.Child.TheOpen.{Kept, Grown}
use Rattle.btree_twigs.specs.declared.twigs.Twig.{Twig}
use Rattle.btree_twigs.specs.Stubs.{datum, start_by, low_of, children_of, stubs, stubs_in, stubs_below}
use Rattle.btree_twigs.specs.Shape.{EachBy, IsChildBy, IsChild, IsTwig}
use Rattle.btree_twigs.specs.Updates.{stubs_under}
use Rattle.btree_twigs.specs.Top.{top_least}
use Rattle.btree_twigs.proofs.Children.{one_datum}
use Rattle.btree_update.specs.declared.groves.Grove.{Grove}
use Rattle.btree_update.specs.GroveTree.{want_of, want_at, Maps, MapsIn}
use Rattle.btree_update.specs.Held.{stub_at}
use Rattle.btree_update.specs.Roots.{IsRootBy, IsRoot, RootMaps}
use Rattle.btree_update.specs.Groves.{IsSound, GroveMaps}
use Rattle.btree_update.proofs.Places.{maps_split, one_place}

module _ (pages : List (List ℕ)) (order : ℕ) where
  -- children that map so many each
  each_many : (level k : ℕ) → ((high : ℕ) (c : Child) (ms : List Mapped) → IsChild order level high c → Maps pages order (stubs level high c) ms → k ≤ length ms) →
      (high : ℕ) (cs : List Child) (mapped : List Mapped) → EachBy low_of (IsChild order level) high cs → Maps pages order (stubs_under level high cs) mapped → length cs * k ≤ length mapped
  each_many level k one high [] mapped each m = omega arith
  each_many level k one high (c ∷ cs) mapped each m =
      let end = start_by low_of cs high in
      let s = maps_split pages order (stubs level end c) (stubs_under level high cs) mapped m in
      let first = one end c s.left each.1 s.on_left in
      let rest = each_many level k one high cs s.right each.2 s.on_right in
      let both = ap length s.is ∙ length-append s.left s.right in
      let again = suc-mul (length cs) k in
      omega arith

  datum_many : (low addr : ℕ) (key : List ℕ) (mapped : List Mapped) → Maps pages order (datum low addr key ∷ []) mapped → 1 ≤ length mapped
  unfolding Subtree
  datum_many low addr key mapped m =
      let p = one_place pages order (datum low addr key) mapped m in
      let one : length mapped ≡ 1 = ap length (p.2 ∙ ap (λ (x : Parts). x.mapped) p.1.has) in
      omega (arith, one)

  -- a node in memory
  twig_many : (level least low high : ℕ) (twig : Twig) (mapped : List Mapped) → ((high : ℕ) (c : Child) (ms : List Mapped) → IsChild order level high c → Maps pages order (stubs level high c) ms → (order / 2) ^ level ≤ length ms) →
      IsTwig order level least order low high twig → Maps pages order (stubs_below level high twig) mapped → least * (order / 2) ^ level ≤ length mapped
  twig_many level least low high twig mapped one h m =
      let all = each_many level ((order / 2) ^ level) one high (children_of twig) mapped h.node.each m in
      let enough = mul-le-mul_right ((order / 2) ^ level) h.node.enough in
      omega arith

  child_by : (level high : ℕ) (x : Child-F Child Twig) (mapped : List Mapped) → ((high : ℕ) (c : Child) (ms : List Mapped) → IsChild order level high c → Maps pages order (stubs level high c) ms → (order / 2) ^ level ≤ length ms) →
      IsChildBy (IsChild order level) order level high x → Maps pages order (stubs_in (stubs level) (suc level) high x) mapped → order / 2 * (order / 2) ^ level ≤ length mapped
  child_by level high (Kept low addr key) mapped one h m =
      let s = stub_at (suc level) low high addr key in
      let p = one_place pages order s mapped m in
      omega (arith, subtree_many pages order level (want_of order s) key p.0 p.1, ap length p.2)
  child_by level high (Grown low twig) mapped one h m = twig_many level (order / 2) low high twig mapped one h m

  -- a child of each level
  child_many : (level high : ℕ) (c : Child) (mapped : List Mapped) → IsChild order level high c → Maps pages order (stubs level high c) mapped → (order / 2) ^ level ≤ length mapped
  unfolding IsChild stubs
  child_many zero high c mapped h m =
      let one = one_datum order high c h in
      subst (λ n. n ≤ length mapped) (sym (pow-zero (order / 2))) (datum_many (low_of c) one.addr one.key mapped (subst (λ ss. Maps pages order ss mapped) (one.stubs_are high) m))
  child_many (suc level) high c mapped h m =
      subst (λ n. n ≤ length mapped) (sym (pow-succ' (order / 2) level)) (child_by level high (out-Child c) mapped (λ high c ms. child_many level high c ms) h m)

  -- a root, which is a node of its own
  root_by : (below high : ℕ) (x : Child-F Child Twig) (mapped : List Mapped) → IsRootBy order below high x → MapsIn pages order (top_least below) below high x mapped → top_least below * (order / 2) ^ below ≤ length mapped
  root_by below high (Kept low addr key) mapped h m = omega (arith, subtree_many pages order below (want_at order (suc below) low high addr (top_least below)) key m.0 m.1, ap length m.2)
  root_by below high (Grown low twig) mapped h m = twig_many below (top_least below) 0 high twig mapped (child_many below) h.1 m

  root_many : (below high : ℕ) (top : Child) (mapped : List Mapped) → 4 ≤ order → IsRoot order (suc below) high top → RootMaps pages order (suc below) high top mapped → 2 ^ suc (suc below) ≤ length mapped
  root_many below high top mapped four h m =
      let many = root_by (suc below) high (out-Child top) mapped h m in
      let half : 2 ≤ order / 2 = omega (arith, four) in
      let powers : 2 ^ suc below ≤ (order / 2) ^ suc below = pow-le-pow_left half (suc below) in
      omega (arith, many, powers, pow-succ' 2 (suc below))

pub grove_many : (pages : List (List ℕ)) (grove : Grove) (mapped : List Mapped) → IsSound grove → GroveMaps pages grove mapped → 2 ≤ grove.level → 2 ^ grove.level ≤ length mapped
grove_many pages grove mapped sound m two =
    let less : grove.level - 1 ≡ suc (grove.level - 2) = omega (arith, two) in
    let all : suc (suc (grove.level - 2)) ≡ grove.level = omega (arith, two) in
    let shaped = subst (λ k. IsRoot grove.order k grove.blocks grove.top) less sound.shaped in
    let maps = subst (λ k. RootMaps pages grove.order k grove.blocks grove.top mapped) less m in
    subst (λ k. 2 ^ k ≤ length mapped) all (root_many pages grove.order (grove.level - 2) grove.blocks grove.top mapped sound.least shaped maps)
