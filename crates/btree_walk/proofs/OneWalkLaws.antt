-- Pages decide what a walk over a tree meets, and where it stops.
use Rattle.std.proofs.Common.{◌≡◌, ℕ, zero, suc, ◌<◌, ◌^◌, List, [], ◌∷◌, ◌++◌, sym, ap, subst, inl, inr, ◌∙◌, arith}
use Rattle.std.specs.Prelude.{All}
use Rattle.std.proofs.lemmas.List.Elements.{All-nil, All-cons, All-head, All-tail, All-weaker}
use Rattle.node_codec.specs.declared.body.Entry.{Entry}
use Rattle.node_codec.specs.Record.{NodeRecord}
use Rattle.page_store.specs.declared.wants.Want.{Want}
use Rattle.page_store.specs.Places.{FitsAt, child_want}
use Rattle.page_store.specs.Tree.{bound_of}
use Rattle.page_store.proofs.RecordLaws.{one_record}
use Rattle.btree_walk.specs.declared.branches.Branch.{Branch}
use Rattle.btree_walk.specs.Nodes.{Node, node_at, branches, Joined, Nodes, FirstWrong}

abbrev pub IsSmall : Branch → Type 0
IsSmall branch = branch.want.addr < 2 ^ 64

pub small_branches : (order level high : ℕ) (entries : List Entry) → All (λ e. e.addr < 2 ^ 64) entries → All IsSmall (branches order level high entries)
small_branches order level high [] small = All-nil IsSmall
small_branches order level high (e ∷ es) small =
    All-cons IsSmall (record { want = child_want order level e (bound_of es high); key = e.key }) (branches order level high es)
    (All-head (λ (x : Entry). x.addr < 2 ^ 64) e es small) (small_branches order level high es (All-tail (λ (x : Entry). x.addr < 2 ^ 64) e es small))

pub small_entries : (pages : List (List ℕ)) (want : Want) (key : List ℕ) (level : ℕ) (entries : List Entry) → want.addr < 2 ^ 64 → FitsAt pages want key (NodeRecord level entries) → All (λ e. e.addr < 2 ^ 64) entries
small_entries pages want key level entries small fits =
    All-weaker (λ (e : Entry). e.addr < want.addr) (λ (e : Entry). e.addr < 2 ^ 64) (λ e below. omega arith) entries fits.0.in_range.0.below

small_below : (pages : List (List ℕ)) (order : ℕ) (want : Want) (key : List ℕ) (level : ℕ) (entries : List Entry) → want.addr < 2 ^ 64 → FitsAt pages want key (NodeRecord (suc level) entries) → All IsSmall (branches order level want.high entries)
small_below pages order want key level entries small fits = small_branches order level want.high entries (small_entries pages want key (suc level) entries small fits)

-- a place has one node at most
one_fit : (pages : List (List ℕ)) (want : Want) (key : List ℕ) (level : ℕ) (one other : List Entry) → want.addr < 2 ^ 64 → FitsAt pages want key (NodeRecord level one) → FitsAt pages want key (NodeRecord level other) → one ≡ other
one_fit pages want key level one other small fits fits' =
    let value : NodeRecord level one ≡ NodeRecord level other = one_record pages want.addr key _ _ small fits.0 fits'.0 in
    cc

one_joined : (Below : Branch → List Node → Type 0) (bs : List Branch) (ns ms : List Node) → All IsSmall bs → ((b : Branch) (n m : List Node) → IsSmall b → Below b n → Below b m → n ≡ m) → Joined Below bs ns → Joined Below bs ms → ns ≡ ms
one_joined Below [] ns ms small one is is' = is ∙ sym is'
one_joined Below (b ∷ bs) ns ms small one is is' =
    let first : is.first ≡ is'.first = one b is.first is'.first (All-head IsSmall b bs small) is.one is'.one in
    let rest : is.rest ≡ is'.rest = one_joined Below bs is.rest is'.rest (All-tail IsSmall b bs small) one is.others is'.others in
    is.is ∙ (λ i. first i ++ rest i) ∙ sym is'.is

pub one_nodes : (pages : List (List ℕ)) (order level : ℕ) (want : Want) (key : List ℕ) (ns ms : List Node) → want.addr < 2 ^ 64 → Nodes pages order level want key ns → Nodes pages order level want key ms → ns ≡ ms
unfolding Nodes
one_nodes pages order zero want key ns ms small is is' = is ∙ sym is'
one_nodes pages order (suc level) want key ns ms small is is' =
    let same : is.entries ≡ is'.entries = one_fit pages want key (suc level) is.entries is'.entries small is.fits is'.fits in
    let each = subst (λ (es : List Entry). Joined (λ b. Nodes pages order level b.want b.key) (branches order level want.high es) is'.below) (sym same) is'.each in
    let below : is.below ≡ is'.below = one_joined (λ b. Nodes pages order level b.want b.key) (branches order level want.high is.entries) is.below is'.below
    (small_below pages order want key level is.entries small is.fits)
    (λ b n m small'. one_nodes pages order level b.want b.key n m small') is.each each in
    is.is ∙ (λ i. node_at want.addr (suc level) (same i) ∷ below i) ∙ sym is'.is

-- ---- nodes that all fit, and one that doesn't

joined_at : (Below : Branch → List Node → Type 0) (before after : List Branch) (branch : Branch) (ns : List Node) → Joined Below (before ++ branch ∷ after) ns → (n : List Node) × Below branch n
joined_at Below [] after branch ns is = (is.first, is.one)
joined_at Below (b ∷ before) after branch ns is = joined_at Below before after branch is.rest is.others

small_at : (before after : List Branch) (branch : Branch) → All IsSmall (before ++ branch ∷ after) → IsSmall branch
small_at [] after branch small = All-head IsSmall branch after small
small_at (b ∷ before) after branch small = small_at before after branch (All-tail IsSmall b (before ++ branch ∷ after) small)

pub never_both : (pages : List (List ℕ)) (addr order level : ℕ) (want : Want) (key : List ℕ) (ns : List Node) → want.addr < 2 ^ 64 → Nodes pages order level want key ns → FirstWrong pages addr order level want key → ⊥
unfolding Nodes FirstWrong
never_both pages addr order zero want key ns small is wrong = wrong
never_both pages addr order (suc level) want key ns small is (inl misfit) = misfit.nothing _ is.fits
never_both pages addr order (suc level) want key ns small is (inr later) =
    let same : is.entries ≡ later.entries = one_fit pages want key (suc level) is.entries later.entries small is.fits later.fits in
    let split = ap (λ (es : List Entry). branches order level want.high es) same ∙ later.split in
    let each = subst (λ (bs : List Branch). Joined (λ b. Nodes pages order level b.want b.key) bs is.below) split is.each in
    let here = joined_at (λ b. Nodes pages order level b.want b.key) later.before later.after later.branch is.below each in
    let small' = small_at later.before later.after later.branch (subst (All IsSmall) later.split (small_below pages order want key level later.entries small later.fits)) in
    never_both pages addr order level later.branch.want later.branch.key here.0 small' here.1 later.stops

-- of two first places that don't fit among neighbours, neither comes before the other
one_split : (Fits : Branch → List Node → Type 0) (Stops Stops' : Branch → Type 0) (Goal : Type 0) (b1 a1 b2 a2 : List Branch) (x1 x2 : Branch) (ns ms : List Node)
    → b1 ++ x1 ∷ a1 ≡ b2 ++ x2 ∷ a2 → All IsSmall (b1 ++ x1 ∷ a1)
    → ((b : Branch) → IsSmall b → Stops b → Stops' b → Goal) → ((b : Branch) (n : List Node) → IsSmall b → Fits b n → Stops b → ⊥) → ((b : Branch) (n : List Node) → IsSmall b → Fits b n → Stops' b → ⊥)
    → Joined Fits b1 ns → Joined Fits b2 ms → Stops x1 → Stops' x2 → Goal
one_split Fits Stops Stops' Goal [] a1 [] a2 x1 x2 ns ms same small both not not' is is' stops stops' =
    let one : x2 ≡ x1 = cc in
    both x1 (All-head IsSmall x1 a1 small) stops (subst Stops' one stops')
one_split Fits Stops Stops' Goal [] a1 (y ∷ b2) a2 x1 x2 ns ms same small both not not' is is' stops stops' =
    let one : y ≡ x1 = cc in
    absurd (not x1 is'.first (All-head IsSmall x1 a1 small) (subst (λ (b : Branch). Fits b is'.first) one is'.one) stops)
one_split Fits Stops Stops' Goal (y ∷ b1) a1 [] a2 x1 x2 ns ms same small both not not' is is' stops stops' =
    let one : y ≡ x2 = cc in
    absurd (not' x2 is.first (subst IsSmall one (All-head IsSmall y (b1 ++ x1 ∷ a1) small)) (subst (λ (b : Branch). Fits b is.first) one is.one) stops')
one_split Fits Stops Stops' Goal (y ∷ b1) a1 (z ∷ b2) a2 x1 x2 ns ms same small both not not' is is' stops stops' =
    let rest : b1 ++ x1 ∷ a1 ≡ b2 ++ x2 ∷ a2 = cc in
    one_split Fits Stops Stops' Goal b1 a1 b2 a2 x1 x2 is.rest is'.rest rest (All-tail IsSmall y (b1 ++ x1 ∷ a1) small) both not not' is.others is'.others stops stops'

pub one_first_wrong : (pages : List (List ℕ)) (addr other order level : ℕ) (want : Want) (key : List ℕ) → want.addr < 2 ^ 64 → FirstWrong pages addr order level want key → FirstWrong pages other order level want key → addr ≡ other
unfolding FirstWrong
one_first_wrong pages addr other order zero want key small wrong wrong' = absurd wrong
one_first_wrong pages addr other order (suc level) want key small (inl misfit) (inl misfit') = misfit.here ∙ sym misfit'.here
one_first_wrong pages addr other order (suc level) want key small (inl misfit) (inr later') = absurd (misfit.nothing _ later'.fits)
one_first_wrong pages addr other order (suc level) want key small (inr later) (inl misfit') = absurd (misfit'.nothing _ later.fits)
one_first_wrong pages addr other order (suc level) want key small (inr later) (inr later') =
    let same : later.entries ≡ later'.entries = one_fit pages want key (suc level) later.entries later'.entries small later.fits later'.fits in
    let split = sym later.split ∙ ap (λ (es : List Entry). branches order level want.high es) same ∙ later'.split in
    let small' = subst (All IsSmall) later.split (small_below pages order want key level later.entries small later.fits) in
    one_split (λ b. Nodes pages order level b.want b.key) (λ b. FirstWrong pages addr order level b.want b.key) (λ b. FirstWrong pages other order level b.want b.key) (addr ≡ other)
    later.before later.after later'.before later'.after later.branch later'.branch later.met later'.met split small'
    (λ b s. one_first_wrong pages addr other order level b.want b.key s)
    (λ b n s. never_both pages addr order level b.want b.key n s)
    (λ b n s. never_both pages other order level b.want b.key n s)
    later.each later'.each later.stops later'.stops
