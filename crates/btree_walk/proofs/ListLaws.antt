-- How many entries a listing has at most.
use Rattle.std.proofs.Common.{◌≡◌, ℕ, zero, suc, ◌+◌, ◌<◌, ◌≤◌, List, [], ◌∷◌, ◌++◌, length, sym, ap, subst, ◌∙◌, arith, length-append, append-nil}
use Rattle.std.specs.Prelude.{All}
use Rattle.std.specs.List.Sorted.{IsStrictlyIncreasing}
use Rattle.std.proofs.lemmas.List.Elements.{All-head, All-tail}
use Rattle.node_codec.specs.declared.body.Entry.{Entry}
use Rattle.page_store.specs.declared.wants.Want.{Want}
use Rattle.page_store.specs.Places.{child_want}
use Rattle.page_store.specs.Tree.{bound_of}
use Rattle.btree_walk.specs.declared.branches.Branch.{Branch}
use Rattle.btree_walk.specs.Nodes.{Node, node_at, branches, Joined, Nodes, listed}
use Rattle.btree_walk.proofs.ShowsLaws.{listed-inner, listed-append}
use Rattle.btree_walk.proofs.TurnLaws.{lows}
use Rattle.btree_walk.proofs.WayLaws.{up_tail, up_head}

-- an entry's low is below where it ends
pub below_bound : (e : Entry) (es : List Entry) (high : ℕ) → IsStrictlyIncreasing (lows (e ∷ es)) → All (λ x. x.low < high) (e ∷ es) → e.low < bound_of es high
below_bound e [] high up below = All-head (λ (x : Entry). x.low < high) e [] below
below_bound e (f ∷ es) high up below = up_head e f es up

few_lows : (high : ℕ) (es : List Entry) → IsStrictlyIncreasing (lows es) → All (λ e. e.low < high) es → bound_of es high + length es ≤ high
few_lows high [] up below = omega arith
few_lows high (e ∷ es) up below =
    let rest = few_lows high es (up_tail e es up) (All-tail (λ (x : Entry). x.low < high) e es below) in
    let less = below_bound e es high up below in
    omega arith

from_low : (low high : ℕ) (es : List Entry) → low ≤ high → All (λ e. low ≤ e.low) es → low ≤ bound_of es high
from_low low high [] le all = le
from_low low high (e ∷ es) le all = All-head (λ (x : Entry). low ≤ x.low) e es all

abbrev AreFew : (Want → List ℕ → List Node → Type 0) → Type 0
AreFew Below = (want : Want) (key : List ℕ) (nodes : List Node) → want.low ≤ want.high → Below want key nodes → want.low + length (listed nodes) ≤ want.high

few_below : (Below : Want → List ℕ → List Node → Type 0) (order level high : ℕ) (es : List Entry) (nodes : List Node) → AreFew Below → IsStrictlyIncreasing (lows es) → All (λ e. e.low < high) es
    → Joined (λ b. Below b.want b.key) (branches order level high es) nodes → bound_of es high + length (listed nodes) ≤ high
few_below Below order level high [] nodes few up below is = subst (λ (ns : List Node). high + length (listed ns) ≤ high) (sym is) (omega arith)
few_below Below order level high (e ∷ es) nodes few up below is =
    let less = below_bound e es high up below in
    let first : e.low + length (listed is.first) ≤ bound_of es high = few (child_want order level e (bound_of es high)) e.key is.first (omega arith) is.one in
    let rest = few_below Below order level high es is.rest few (up_tail e es up) (All-tail (λ (x : Entry). x.low < high) e es below) is.others in
    let size : length (listed (is.first ++ is.rest)) ≡ length (listed is.first) + length (listed is.rest) = ap length (listed-append is.first is.rest) ∙ length-append (listed is.first) (listed is.rest) in
    subst (λ (ns : List Node). e.low + length (listed ns) ≤ high) (sym is.is) (omega arith)

-- below a leaf are no nodes
pub none_below : (pages : List (List ℕ)) (order : ℕ) (bs : List Branch) (nodes : List Node) → Joined (λ b. Nodes pages order zero b.want b.key) bs nodes → nodes ≡ []
unfolding Nodes
none_below pages order [] nodes is = is
none_below pages order (b ∷ bs) nodes is =
    let rest : is.rest ≡ [] = none_below pages order bs is.rest is.others in
    is.is ∙ (λ i. is.one i ++ rest i)

-- a place lists at most as many entries as there are blocks within its bounds
pub few_listed : (pages : List (List ℕ)) (order level : ℕ) → AreFew (Nodes pages order (suc level))
unfolding Nodes
few_listed pages order zero want key nodes le is =
    let none : is.below ≡ [] = none_below pages order (branches order zero want.high is.entries) is.below is.each in
    let lows' = few_lows want.high is.entries is.fits.0.in_range.0.ascend is.fits.1.below_high in
    let least = from_low want.low want.high is.entries le is.fits.1.from_low in
    let whole : length (listed (node_at want.addr 1 is.entries ∷ [])) ≡ length is.entries = ap length (append-nil is.entries) in
    subst (λ (ns : List Node). want.low + length (listed ns) ≤ want.high) (sym (is.is ∙ ap (λ (ns : List Node). node_at want.addr 1 is.entries ∷ ns) none)) (omega arith)
few_listed pages order (suc level) want key nodes le is =
    let below = few_below (Nodes pages order (suc level)) order (suc level) want.high is.entries is.below (few_listed pages order level) is.fits.0.in_range.0.ascend is.fits.1.below_high is.each in
    let least = from_low want.low want.high is.entries le is.fits.1.from_low in
    let same : length (listed (node_at want.addr (suc (suc level)) is.entries ∷ is.below)) ≡ length (listed is.below) = ap length (listed-inner want.addr level is.entries is.below) in
    subst (λ (ns : List Node). want.low + length (listed ns) ≤ want.high) (sym is.is) (omega arith)
