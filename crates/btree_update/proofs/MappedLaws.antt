-- Whether a block is mapped below the way to it.
use Rattle.std.proofs.Common.{Option, ◌≡◌, ◌≢◌, ◌↔◌, ℕ, zero, suc, ◌/◌, ◌<◌, List, [], ◌∷◌, ◌++◌, Bool, true, false, IsTrue, take, drop, refl, sym, ap, subst, ◌∙◌, arith}
use Rattle.std.specs.Bool.{OnTrue, OnFalse}
use Rattle.std.specs.List.{AllByRecursion}
use Rattle.std.proofs.lemmas.Bool.{false≢true}
use Rattle.std.proofs.lemmas.List.Elements.{Contains-append_left, Contains-append_right}
use Rattle.page_store.specs.Tree.{Parts, Mapped, Subtree, joined}
use Rattle.btree_twigs.specs.declared.twigs.Child.{Child, Child-F, out-Child}
use Rattle.btree_twigs.specs.declared.twigs.Child.TheOpen.{Kept, Grown}
use Rattle.btree_twigs.specs.declared.twigs.Child.TheVariants as made
use Rattle.btree_twigs.specs.declared.twigs.Twig.{Twig}
use Rattle.btree_twigs.specs.Stubs.{Stub, Tiles, datum, start_by, low_of, children_of, stubs, stubs_in, stubs_below}
use Rattle.btree_twigs.specs.Shape.{EachBy, IsChild, IsTwig}
use Rattle.btree_twigs.specs.Updates.{stubs_under}
use Rattle.btree_twigs.proofs.ListLaws.{stubs_append, each_front, each_back, tiles_by}
use Rattle.btree_twigs.proofs.Children.{tiles_child, one_datum}
use Rattle.btree_update.specs.declared.siblings.Left.{Left}
use Rattle.btree_update.specs.declared.siblings.Left.TheVariants.{Unmapped, Enough, Short}
use Rattle.btree_update.specs.GroveTree.{HasEach, Maps, MapsIn, MapsFrom, want_at}
use Rattle.btree_update.specs.Held.{stub_at, IsReadAs}
use Rattle.btree_update.specs.Maps.{HasBlock, LacksBlock}
use Rattle.btree_update.specs.Beside.{HoldsBeside, IsMappedBy, IsAfter}
use Rattle.btree_update.proofs.OpenLaws.{IsOnWay}
use Rattle.btree_update.proofs.Readings.{read_same}
use Rattle.btree_update.proofs.Places.{maps_split, in_maps, weaker, IsIn, read_maps, one_place}

lacks_append : (block : ℕ) (xs ys : List Mapped) → LacksBlock block xs → LacksBlock block ys → LacksBlock block (xs ++ ys)
lacks_append block [] ys h k = k
lacks_append block (x ∷ xs) ys h k = (h.0, lacks_append block xs ys h.1 k)

has_within : (block : ℕ) (xs m ys : List Mapped) → HasBlock block m → HasBlock block (xs ++ (m ++ ys))
has_within block xs m ys h = (h.0, Contains-append_right xs (m ++ ys) h.0 (Contains-append_left m ys h.0 h.1), h.2)

within : (block : ℕ) (xs m ys : List Mapped) (left : Left) → LacksBlock block xs → LacksBlock block ys → IsMappedBy block m left → IsMappedBy block (xs ++ (m ++ ys)) left
within block xs m ys Unmapped h k one = lacks_append block xs (m ++ ys) h (lacks_append block m ys one k)
within block xs m ys Enough h k one = has_within block xs m ys one
within block xs m ys Short h k one = has_within block xs m ys one

one_tiles : (order level : ℕ) (high : ℕ) (c : Child) → low_of c < high → IsChild order level high c → Tiles (low_of c) high (stubs level high c)
one_tiles order level high c = tiles_child order level high c

-- the child on the way decides
pub way_mapped : (pages : List (List ℕ)) (order level least low high block n : ℕ) (twig : Twig) (c : Child) → IsTwig order level least order low high twig → (w : IsOnWay order block level high (children_of twig) n c) → (left : Left) →
    ((mapped : List Mapped) → Maps pages order (stubs level (start_by low_of (drop (suc w.at) (children_of twig)) high) c) mapped → IsMappedBy block mapped left) →
    (mapped : List Mapped) → Maps pages order (stubs_below level high twig) mapped → IsMappedBy block mapped left
way_mapped pages order level least low high block n twig c shaped w left one mapped m =
    let cs = children_of twig in
    let fs = take w.at cs in
    let bs = drop (suc w.at) cs in
    let end = start_by low_of bs high in
    let each = subst (EachBy low_of (IsChild order level) high) w.split shaped.node.each in
    let back = each_back low_of (IsChild order level) high fs (c ∷ bs) each in
    let front = each_front low_of (IsChild order level) high fs (c ∷ bs) each in
    let all = subst (λ ss. Maps pages order ss mapped) (ap (stubs_under level high) w.split ∙ stubs_append low_of (stubs level) high fs (c ∷ bs)) m in
    let a = maps_split pages order (stubs_under level (low_of c) fs) (stubs level end c ++ stubs_under level high bs) mapped all in
    let b = maps_split pages order (stubs level end c) (stubs_under level high bs) a.right a.on_right in
    let before = weaker (IsIn (start_by low_of fs (low_of c)) (low_of c)) (λ m. m.block ≢ block) (λ m i e. omega (arith, i.1, e, w.from)) a.left
    (in_maps pages order (start_by low_of fs (low_of c)) (low_of c) (stubs_under level (low_of c) fs) a.left (tiles_by low_of (IsChild order level) (stubs level) (one_tiles order level) (low_of c) fs front) a.on_left) in
    let after = weaker (IsIn end high) (λ m. m.block ≢ block) (λ m i e. omega (arith, i.0, e, w.to)) b.right
    (in_maps pages order end high (stubs_under level high bs) b.right (tiles_by low_of (IsChild order level) (stubs level) (one_tiles order level) high bs back.2) b.on_right) in
    subst (λ xs. IsMappedBy block xs left) (sym (a.is ∙ ap (λ xs. a.left ++ xs) b.is)) (within block a.left b.left b.right left before after (one b.left b.on_left))

-- before the first child there is nothing
pub first_lacks : (pages : List (List ℕ)) (order level least low high block : ℕ) (twig : Twig) → IsTwig order level least order low high twig → block < start_by low_of (children_of twig) high → (mapped : List Mapped) → Maps pages order (stubs_below level high twig) mapped → LacksBlock block mapped
first_lacks pages order level least low high block twig shaped lt mapped m =
    weaker (IsIn (start_by low_of (children_of twig) high) high) (λ m. m.block ≢ block) (λ m i e. omega (arith, i.0, e, lt)) mapped
    (in_maps pages order (start_by low_of (children_of twig) high) high (stubs_below level high twig) mapped (tiles_by low_of (IsChild order level) (stubs level) (one_tiles order level) high (children_of twig) shaped.node.each) m)

-- a data record maps its block
datum_maps : (pages : List (List ℕ)) (order low addr : ℕ) (key : List ℕ) (ps : List Parts) (mapped : List Mapped) → HasEach pages order (datum low addr key ∷ []) ps → mapped ≡ (joined ps).mapped → HasBlock low mapped
unfolding Subtree
datum_maps pages order low addr key [] mapped h is = absurd h
datum_maps pages order low addr key (p ∷ q ∷ ps) mapped h is = absurd h.1
datum_maps pages order low addr key (p ∷ []) mapped h is =
    let all = is ∙ ap (λ (x : Parts). x.mapped ++ []) h.0.has in
    subst (HasBlock low) (sym all) (record { block = low; addr = addr; key = key; content = h.0.content }, (0, omega arith, refl), refl)

datum_left : (block low : ℕ) (mapped : List Mapped) (left : Left) → HasBlock low mapped → AllByRecursion (IsIn low (suc low)) mapped → (is_it : Bool) → (IsTrue is_it → low ≡ block) → (low ≡ block → IsTrue is_it) → OnTrue is_it (left ≢ Unmapped) → OnFalse is_it (left ≡ Unmapped) → IsMappedBy block mapped left
datum_left block low mapped Unmapped h all true f g t u = absurd (t refl)
datum_left block low mapped Enough h all true f g t u = subst (λ b. HasBlock b mapped) (f refl) h
datum_left block low mapped Short h all true f g t u = subst (λ b. HasBlock b mapped) (f refl) h
datum_left block low mapped left h all false f g t u = subst (IsMappedBy block mapped) (sym u) (weaker (IsIn low (suc low)) (λ m. m.block ≢ block) (λ m i e. false≢true (g (omega (arith, i.0, i.1, e)))) mapped all)

pub leaf_mapped : (pages : List (List ℕ)) (order level least low high block n : ℕ) (twig : Twig) (c : Child) → level ≡ 0 → IsTwig order level least order low high twig → (w : IsOnWay order block level high (children_of twig) n c) → (left : Left) →
    (is_it : Bool) → (IsTrue is_it → low_of c ≡ block) → (low_of c ≡ block → IsTrue is_it) → OnTrue is_it (left ≢ Unmapped) → OnFalse is_it (left ≡ Unmapped) →
    (mapped : List Mapped) → Maps pages order (stubs_below level high twig) mapped → IsMappedBy block mapped left
leaf_mapped pages order (suc level) least low high block n twig c is shaped w left is_it f g t u mapped m = absurd (omega (arith, is))
leaf_mapped pages order zero least low high block n twig c is shaped w left is_it f g t u mapped m =
    let each = subst (EachBy low_of (IsChild order 0) high) w.split shaped.node.each in
    let back = each_back low_of (IsChild order 0) high (take w.at (children_of twig)) (c ∷ drop (suc w.at) (children_of twig)) each in
    let one = one_datum order (start_by low_of (drop (suc w.at) (children_of twig)) high) c back.1 in
    way_mapped pages order 0 least low high block n twig c shaped w left
    (λ here k.
    (let d = subst (λ ss. Maps pages order ss here) (one.stubs_are (start_by low_of (drop (suc w.at) (children_of twig)) high)) k in
    datum_left block (low_of c) here left (datum_maps pages order (low_of c) one.addr one.key d.each here d.has d.is)
    (in_maps pages order (low_of c) (suc (low_of c)) (datum (low_of c) one.addr one.key ∷ []) here (omega arith, omega arith, omega arith) d) is_it f g t u)) mapped m

-- a child whose node was read maps what the node maps
pub kept_mapped : (pages : List (List ℕ)) (order least l high low addr : ℕ) (key : List ℕ) (twig : Twig) → IsReadAs pages order l (stub_at (suc l) low high addr key) twig → (mapped : List Mapped) → MapsFrom pages order least l high (made.Kept low addr key) mapped →
    Maps pages order (stubs_below l high twig) mapped
kept_mapped pages order least l high low addr key twig r mapped m =
    let k = subst (λ x. MapsIn pages order least l high x mapped) (made.outs-Kept low addr key) m in
    subst (λ ss. Maps pages order ss mapped) (sym (read_same pages order l (stub_at (suc l) low high addr key) twig r)) (subst (Maps pages order _) (sym k.2) (read_maps pages order l (want_at order (suc l) low high addr least) key k.0 r.entries r.small k.1 r.here))

pub grown_mapped : (pages : List (List ℕ)) (order least l high low : ℕ) (twig : Twig) (mapped : List Mapped) → MapsFrom pages order least l high (made.Grown low twig) mapped → Maps pages order (stubs_below l high twig) mapped
grown_mapped pages order least l high low twig mapped m = subst (λ x. MapsIn pages order least l high x mapped) (made.outs-Grown low twig) m

maps_in : (pages : List (List ℕ)) (order l high : ℕ) (x : Child-F Child Twig) (mapped : List Mapped) → Maps pages order (stubs_in (stubs l) (suc l) high x) mapped → MapsIn pages order (order / 2) l high x mapped
maps_in pages order l high (Kept low addr key) mapped m = one_place pages order (stub_at (suc l) low high addr key) mapped m
maps_in pages order l high (Grown low twig) mapped m = m

-- and a child maps what is below its places
pub maps_from : (pages : List (List ℕ)) (order level below high : ℕ) (c : Child) (mapped : List Mapped) → level ≡ suc below → Maps pages order (stubs level high c) mapped → MapsFrom pages order (order / 2) below high c mapped
unfolding stubs
maps_from pages order zero below high c mapped is m = absurd (omega (arith, is))
maps_from pages order (suc level) below high c mapped is m = subst (λ k. MapsFrom pages order (order / 2) k high c mapped) (omega (arith, is)) (maps_in pages order level high (out-Child c) mapped m)

-- what is held beside does not change that
pub beside_mapped : (Reads : ℕ → Stub → Twig → Type 0) (order below width high block : ℕ) (fs : List Child) (c : Child) (bs : List Child) (old new : List (Option Twig)) (left after : Left) (mapped : List Mapped) → HoldsBeside Reads order below width high fs c bs old new left after →
    IsMappedBy block mapped left → IsMappedBy block mapped after
beside_mapped Reads order below width high block fs c bs old new Unmapped after mapped h m = subst (IsMappedBy block mapped) (sym h) m
beside_mapped Reads order below width high block fs c bs old new Enough Unmapped mapped h m = absurd h.1
beside_mapped Reads order below width high block fs c bs old new Enough Enough mapped h m = m
beside_mapped Reads order below width high block fs c bs old new Enough Short mapped h m = m
beside_mapped Reads order below width high block fs c bs old new Short Unmapped mapped h m = absurd h.left
beside_mapped Reads order below width high block fs c bs old new Short Enough mapped h m = m
beside_mapped Reads order below width high block fs c bs old new Short Short mapped h m = m

after_not : (order width loses : ℕ) (after : Left) → IsAfter order width loses after → after ≢ Unmapped
after_not order width loses Unmapped h = absurd h
after_not order width loses Enough h = λ e. absurd cc
after_not order width loses Short h = λ e. absurd cc

pub leaf_not : (order width : ℕ) (is_it : Bool) (after : Left) → OnTrue is_it (IsAfter order width 1 after) → OnTrue is_it (after ≢ Unmapped)
leaf_not order width true after h = after_not order width 1 after h
leaf_not order width false after h = tt

-- as a truth value
pub told : (block : ℕ) (mapped : List Mapped) (left : Left) (b : Bool) → IsTrue b ↔ ¬ (left ≡ Unmapped) → IsMappedBy block mapped left → OnTrue b (HasBlock block mapped) × OnFalse b (LacksBlock block mapped)
told block mapped Unmapped true i h = absurd (i.0 refl refl)
told block mapped Unmapped false i h = (tt, h)
told block mapped Enough true i h = (h, tt)
told block mapped Enough false i h = absurd (false≢true (i.1 (λ e. absurd cc)))
told block mapped Short true i h = (h, tt)
told block mapped Short false i h = absurd (false≢true (i.1 (λ e. absurd cc)))
