-- That nodes which are read are among these places.
use Rattle.std.proofs.Common.{◌≡◌, ℕ, zero, suc, ◌-◌, ◌≤◌, List, [], ◌∷◌, ◌++◌, take, drop, sym, ap, subst, ◌∙◌, arith}
use Rattle.std.specs.List.{AllByRecursion}
use Rattle.std.proofs.lemmas.List.Elements.{recursion_from_All}
use Rattle.node_codec.specs.declared.body.Entry.{Entry}
use Rattle.page_store.specs.declared.wants.Want.{Want}
use Rattle.page_store.specs.Tree.{Place}
use Rattle.node_cache.specs.Cached.{Cached}
use Rattle.btree_walk.specs.Among.{IsAmong, GoDown, KeepsAmong, KeepsBut}
use Rattle.btree_walk.proofs.AmongLaws.{among_but}
use Rattle.btree_twigs.specs.declared.twigs.Child.{Child}
use Rattle.btree_twigs.specs.declared.twigs.Child.TheVariants as made
use Rattle.btree_twigs.specs.declared.twigs.Twig.{Twig}
use Rattle.btree_twigs.specs.declared.twigs.Spot.{Spot}
use Rattle.btree_twigs.specs.declared.twigs.Spot.TheVariants.{Found, Absent, Below}
use Rattle.btree_twigs.specs.Stubs.{Stub, start_by, low_of, stubs, stubs_in, stubs_below}
use Rattle.btree_twigs.specs.Search.{IsSpot}
use Rattle.btree_twigs.specs.Updates.{stubs_under}
use Rattle.btree_twigs.proofs.Nodes.{stubs_of_grown}
use Rattle.btree_twigs.proofs.ListLaws.{stubs_append}
use Rattle.btree_update.specs.GroveTree.{stubs_at}
use Rattle.btree_update.specs.Holding.{IsNodeOf}
use Rattle.btree_update.specs.Among.{NodesAmong, HaveSpot}
use Rattle.btree_update.proofs.Readings.{kept_stubs}
use Rattle.btree_update.proofs.GroveLaws.{above_it}

front_among : (places : List Place) (xs ys : List Stub) → NodesAmong places (xs ++ ys) → NodesAmong places xs
front_among places [] ys h = tt
front_among places (x ∷ xs) ys h = (h.0, front_among places xs ys h.1)

back_among : (places : List Place) (xs ys : List Stub) → NodesAmong places (xs ++ ys) → NodesAmong places ys
back_among places [] ys h = h
back_among places (x ∷ xs) ys h = back_among places xs ys h.1

-- a child of a node
pub child_among : (places : List Place) (level high i end : ℕ) (cs : List Child) (c : Child) → cs ≡ take i cs ++ c ∷ drop (suc i) cs → end ≡ start_by low_of (drop (suc i) cs) high → NodesAmong places (stubs_under level high cs)
    → NodesAmong places (stubs level end c)
child_among places level high i end cs c split is h =
    let all = subst (NodesAmong places) (ap (stubs_under level high) split ∙ stubs_append low_of (stubs level) high (take i cs) (c ∷ drop (suc i) cs)) h in
    subst (λ m. NodesAmong places (stubs level m c)) (sym is)
    (front_among places (stubs level (start_by low_of (drop (suc i) cs) high) c) (stubs_under level high (drop (suc i) cs)) (back_among places (stubs_under level (low_of c) (take i cs)) _ all))

-- what is below a child in memory
pub grown_among : (places : List Place) (level high low : ℕ) (twig : Twig) (c : Child) → c ≡ made.Grown low twig → 1 ≤ level → NodesAmong places (stubs level high c) → NodesAmong places (stubs_below (level - 1) high twig)
grown_among places level high low twig c is one h =
    subst (NodesAmong places) (stubs_of_grown (level - 1) high low twig) (subst (λ k. NodesAmong places (stubs k high (made.Grown low twig))) (above_it level one) (subst (λ x. NodesAmong places (stubs level high x)) is h))

kept_here : (places : List Place) (level high low addr : ℕ) (key : List ℕ) → NodesAmong places (stubs (suc level) high (made.Kept low addr key)) → IsAmong places addr key
unfolding stubs
kept_here places level high low addr key h = (subst (λ x. NodesAmong places (stubs_in (stubs level) (suc level) high x)) (made.outs-Kept low addr key) h).0 (omega arith)

-- a child on the medium
pub kept_among : (places : List Place) (level high low addr : ℕ) (key : List ℕ) (c : Child) → c ≡ made.Kept low addr key → 1 ≤ level → NodesAmong places (stubs level high c) → IsAmong places addr key
kept_among places level high low addr key c is one h =
    kept_here places (level - 1) high low addr key (subst (λ k. NodesAmong places (stubs k high (made.Kept low addr key))) (above_it level one) (subst (λ x. NodesAmong places (stubs level high x)) is h))

-- the cache then keeps nothing else
pub read_among : (places : List Place) (level high low addr : ℕ) (key : List ℕ) (c : Child) (old new : Cached) → c ≡ made.Kept low addr key → 1 ≤ level → NodesAmong places (stubs level high c) → KeepsBut addr key old new
    → KeepsAmong places old → KeepsAmong places new
read_among places level high low addr key c old new is one h but kept = among_but places addr key old new (kept_among places level high low addr key c is one h) but kept

entries_among : (places : List Place) (level high : ℕ) (es : List Entry) → AllByRecursion (λ (e : Entry). IsAmong places e.addr e.key) es → NodesAmong places (stubs_at level high es)
entries_among places zero high [] h = tt
entries_among places (suc level) high [] h = tt
entries_among places zero high (e ∷ es) h = (λ one. absurd (omega (arith, one)), entries_among places zero high es h.1)
entries_among places (suc level) high (e ∷ es) h = (λ one. h.0, entries_among places (suc level) high es h.1)

-- what is below a node that was read
pub below_among : (pages : List (List ℕ)) (places : List Place) (level high : ℕ) (want : Want) (key : List ℕ) (twig : Twig) → GoDown pages places → IsAmong places want.addr key → IsNodeOf pages want key twig
    → NodesAmong places (stubs_below level high twig)
below_among pages places level high want key twig down here h =
    subst (NodesAmong places) (sym (ap (stubs_under level high) h.children ∙ kept_stubs level high h.entries))
    (entries_among places level high h.entries (recursion_from_All (λ (e : Entry). IsAmong places e.addr e.key) h.entries (down want.addr key want.level h.entries here h.here)))

-- the node below which a search goes on
pub spot_among : (pages : List (List ℕ)) (places : List Place) (block : ℕ) (ss : List Stub) (spot : Spot) → GoDown pages places → NodesAmong places ss → IsSpot block ss spot → HaveSpot pages spot places
spot_among pages places block ss (Found addr key) down h is = tt
spot_among pages places block ss Absent down h is = tt
spot_among pages places block ss (Below level low high addr key) down h is =
    let at = is.3 in
    (down, (back_among places at.front _ (subst (NodesAmong places) at.all h)).0 is.0)
