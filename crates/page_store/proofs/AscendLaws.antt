-- The blocks that a tree maps ascend, so that a device has as many as the tree has entries.
use Rattle.std.proofs.Common.{◌≡◌, ℕ, zero, suc, ◌+◌, ◌<◌, ◌≤◌, List, [], ◌∷◌, ◌++◌, None, map, length, refl, sym, ◌∙◌, ap, subst, arith}
use Rattle.std.specs.Prelude.{All, slice_index}
use Rattle.std.specs.Cmp.{nat_cmp_total, nat_cmp_is}
use Rattle.std.specs.Ordering.{nat_cmp}
use Rattle.std.specs.declared.cmp.Ordering.TheVariants.{Less}
use Rattle.std.specs.FinMap as maps
use Rattle.std.specs.List.Sorted.{IsStrictlyIncreasing}
use Rattle.std.proofs.lemmas.List.Elements.{All-head, All-tail}
use Rattle.platform.specs.Image.{Image}
use Rattle.node_codec.specs.declared.body.Entry.{Entry}
use Rattle.root_codec.specs.declared.root.Root.{Root}
use Rattle.sdbt_base.specs.Arrays.{Device}
use Rattle.page_store.specs.declared.wants.Want.{Want}
use Rattle.page_store.specs.Places.{root_want, child_want}
use Rattle.page_store.specs.Tree.{Mapped, Parts, joined, bound_of, EachChild, Subtree}
use Rattle.page_store.specs.Stands.{StandsBy}

-- blocks ascend from a number on, below another
abbrev Ascend : ℕ → ℕ → List Mapped → Type 0
Ascend low high [] = Unit {0}
Ascend low high (m ∷ ms) = (low ≤ m.block) × (m.block < high) × Ascend (suc m.block) high ms

wider : (low high from to : ℕ) (ms : List Mapped) → low ≤ from → to ≤ high → Ascend from to ms → Ascend low high ms
wider low high from to [] less more up = tt
wider low high from to (m ∷ ms) less more up = (omega (arith, less, up.0), omega (arith, more, up.1), wider (suc m.block) high (suc m.block) to ms (omega arith) more up.2)

appended : (low mid high : ℕ) (xs ys : List Mapped) → low ≤ mid → mid ≤ high → Ascend low mid xs → Ascend mid high ys → Ascend low high (xs ++ ys)
appended low mid high [] ys less more one other = wider low high mid high ys less (omega arith) other
appended low mid high (x ∷ xs) ys less more one other = (one.0, omega (arith, more, one.1), appended (suc x.block) mid high xs ys (omega (arith, one.1)) more one.2 other)

-- ---- entries

abbrev lows : List Entry → List ℕ
lows entries = map (λ e. e.low) entries

tail_ascends : (e : Entry) (es : List Entry) → IsStrictlyIncreasing (lows (e ∷ es)) → IsStrictlyIncreasing (lows es)
tail_ascends e es up k within =
    let one : suc k + 1 ≡ suc (k + 1) = omega arith in
    let next : slice_index (lows (e ∷ es)) (suc k) < slice_index (lows (e ∷ es)) (suc k + 1) = up (suc k) (omega arith) in
    subst (λ (n : ℕ). slice_index (lows es) k < slice_index (lows (e ∷ es)) n) one next

-- an entry begins before the next one
bound_above : (e : Entry) (es : List Entry) (high : ℕ) → e.low < high → IsStrictlyIncreasing (lows (e ∷ es)) → e.low < bound_of es high
bound_above e [] high less up = less
bound_above e (next ∷ es) high less up = up 0 (omega arith)

bound_most : (es : List Entry) (high : ℕ) → All (λ e. e.low < high) es → bound_of es high ≤ high
bound_most [] high below = omega arith
bound_most (e ∷ es) high below = let less = All-head (λ (x : Entry). x.low < high) e es below in omega (arith, less)

-- ---- a tree

-- where the blocks below a place end
end_of : ℕ → Want → ℕ
end_of zero want = suc want.low
end_of (suc level) want = want.high

ends : (order level bound : ℕ) (e : Entry) → e.low < bound → end_of level (child_want order level e bound) ≤ bound
unfolding end_of
ends order zero bound e less = omega (arith, less)
ends order (suc level) bound e less = omega arith

-- below a place of a level blocks ascend
abbrev AscendBelow : List (List ℕ) → ℕ → ℕ → Type 0
AscendBelow pages order level = (want : Want) (key : List ℕ) (parts : Parts) → Subtree pages order level want key parts → Ascend want.low (end_of level want) parts.mapped

each_up : (pages : List (List ℕ)) (order level high : ℕ) (es : List Entry) (ps : List Parts) → AscendBelow pages order level → IsStrictlyIncreasing (lows es) → All (λ e. e.low < high) es
    → EachChild (Subtree pages order level) order level high es ps → Ascend (bound_of es high) high (joined ps).mapped
each_up pages order level high [] [] below up to each = tt
each_up pages order level high [] (p ∷ ps) below up to each = absurd each
each_up pages order level high (e ∷ es) [] below up to each = absurd each
each_up pages order level high (e ∷ es) (p ∷ ps) below up to each =
    let bound = bound_of es high in
    let want = child_want order level e bound in
    let to' = All-tail (λ (x : Entry). x.low < high) e es to in
    let less = bound_above e es high (All-head (λ (x : Entry). x.low < high) e es to) up in
    appended e.low bound high p.mapped (joined ps).mapped (omega (arith, less)) (bound_most es high to')
    (wider e.low bound e.low (end_of level want) p.mapped (omega arith) (ends order level bound e less) (below want e.key p each.0))
    (each_up pages order level high es ps below (tail_ascends e es up) to' each.1)

from_first : (low high : ℕ) (es : List Entry) (ms : List Mapped) → All (λ e. low ≤ e.low) es → Ascend (bound_of es high) high ms → Ascend low high ms
from_first low high [] [] from up = tt
from_first low high [] (m ∷ ms) from up = absurd (omega (arith, up.0, up.1))
from_first low high (e ∷ es) ms from up = wider low high e.low high ms (All-head (λ (x : Entry). low ≤ x.low) e es from) (omega arith) up

subtree_up : (pages : List (List ℕ)) (order level : ℕ) → AscendBelow pages order level
unfolding Subtree end_of
subtree_up pages order zero want key parts is = subst (λ (p : Parts). Ascend want.low (suc want.low) p.mapped) (sym is.has) (omega arith, omega arith, tt)
subtree_up pages order (suc level) want key parts is =
    let fits = is.fits in
    let up = each_up pages order level want.high is.entries is.children (subtree_up pages order level) fits.0.in_range.0.ascend fits.1.below_high is.each in
    subst (λ (p : Parts). Ascend want.low want.high p.mapped) (sym is.has) (from_first want.low want.high is.entries (joined is.children).mapped fits.1.from_low up)

-- ---- as many

abbrev pairs : List Mapped → List (ℕ × List ℕ)
pairs ms = map (λ m. (m.block, m.content)) ms

-- a block before all of them isn't one
absent : (low high block : ℕ) (ms : List Mapped) → block < low → Ascend low high ms → maps.find nat_cmp block (pairs ms) ≡ None
absent low high block [] less up = refl
absent low high block (m ∷ ms) less up =
    let below : block < m.block = omega (arith, less, up.0) in
    rw (sym (nat_cmp_is block m.block Less below)) (absent (suc m.block) high block ms (omega (arith, below)) up.2)

as_many : (low high : ℕ) (ms : List Mapped) → Ascend low high ms → maps.len (maps.from_entries {R = nat_cmp} (pairs ms)) ≡ length ms
as_many low high [] up = maps.len-empty nat_cmp (List ℕ)
as_many low high (m ∷ ms) up =
    let none = maps.get-from_entries nat_cmp_total (pairs ms) m.block ∙ absent (suc m.block) high m.block ms (omega arith) up.2 in
    let further = as_many (suc m.block) high ms up.2 in
    maps.len-insert nat_cmp_total (maps.from_entries (pairs ms)) m.block m.content ∙ rw (none, further) (omega arith)

pub mapped_len : (image : Image) (device : Device) (root : Root) (parts : Parts) → StandsBy image device root parts → length parts.mapped ≡ maps.len device.contents
mapped_len image device root parts stands =
    sym (as_many 0 (end_of root.level (root_want root)) parts.mapped (subtree_up image.readable root.order root.level (root_want root) root.key parts stands.tree))
    ∙ ap (λ c. maps.len c) (sym stands.contents)
