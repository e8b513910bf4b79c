-- The nodes below the entries of a node, one entry after the other.
use Rattle.std.proofs.Common.{◌≡◌, ℕ, zero, suc, ◌+◌, ◌-◌, ◌<◌, ◌≤◌, List, [], ◌∷◌, ◌++◌, Some, length, take, drop, slice_get, get_or, refl, sym, ap, subst, inl, inr, ◌∙◌, arith, append_assoc, append-nil, length-append}
use Rattle.std.specs.Prelude.{All, OnErr, Result, Ok, Err}
use Rattle.std.proofs.lemmas.List.Elements.{All-head, All-tail}
use Rattle.node_codec.specs.declared.body.Entry.{Entry}
use Rattle.node_codec.specs.Record.{NodeRecord}
use Rattle.page_store.specs.declared.wants.Want.{Want}
use Rattle.page_store.specs.declared.refusals.FetchRefusal.{FetchRefusal}
use Rattle.page_store.specs.declared.refusals.FetchRefusal.TheVariants as fetches
use Rattle.btree_walk.specs.declared.refusals.WalkRefusal.TheVariants as walks
use Rattle.root_codec.specs.declared.root.Root.{Root}
use Rattle.page_store.specs.Places.{FitsAt, root_want, child_want}
use Rattle.page_store.specs.Tree.{bound_of, IsMisfit}
use Rattle.btree_walk.specs.declared.branches.Branch.{Branch}
use Rattle.btree_walk.specs.Nodes.{Node, node_at, branches, Joined, Nodes, Adds, Meets, Lists, FirstWrong, FirstNodes, CutShort}
use Rattle.btree_walk.specs.Refusals.{refused}

-- a walk is refused by a bad record where a fetch was
pub refused_bad : (fetch : FetchRefusal) (addr : ℕ) → refused fetch ≡ walks.BadRecord addr → fetch ≡ fetches.BadRecord addr
refused_bad (fetches.BadRecord a) addr is = cc
refused_bad fetches.PlatformFault addr is = absurd cc

pub refused_fault : (fetch : FetchRefusal) → refused fetch ≡ walks.PlatformFault → fetch ≡ fetches.PlatformFault
refused_fault (fetches.BadRecord a) is = absurd cc
refused_fault fetches.PlatformFault is = refl

-- ---- what is wanted below an entry

pub branch_get : (order level high place : ℕ) (entries : List Entry) (entry : Entry) → place < length entries → entry ≡ get_or entries place entry → slice_get (branches order level high entries) place ≡ Some (record { want = child_want order level entry (bound_of (drop (suc place) entries) high); key = entry.key })
branch_get order level high place [] entry within is = absurd (omega arith)
branch_get order level high zero (e ∷ es) entry within is = ap (λ (x : Entry). Some (record { want = child_want order level x (bound_of es high); key = x.key })) (sym is)
branch_get order level high (suc place) (e ∷ es) entry within is = branch_get order level high place es entry (omega arith) is

pub branches_length : (order level high : ℕ) (entries : List Entry) → length (branches order level high entries) ≡ length entries
branches_length order level high [] = refl
branches_length order level high (e ∷ es) = ap suc (branches_length order level high es)

-- what is so of what is wanted below each entry
pub branch_is : (Is : Branch → Type 0) (order level high place : ℕ) (entries : List Entry) (branch : Branch) → ((bound : ℕ) → All (λ e. Is (record { want = child_want order level e bound; key = e.key })) entries) → slice_get (branches order level high entries) place ≡ Some branch → Is branch
branch_is Is order level high place [] branch all at = absurd cc
branch_is Is order level high zero (e ∷ es) branch all at =
    let here = All-head (λ (x : Entry). Is (record { want = child_want order level x (bound_of es high); key = x.key })) e es (all (bound_of es high)) in
    let same : record { want = child_want order level e (bound_of es high); key = e.key } ≡ branch = cc in
    subst Is same here
branch_is Is order level high (suc place) (e ∷ es) branch all at =
    branch_is Is order level high place es branch (λ bound. All-tail (λ (x : Entry). Is (record { want = child_want order level x bound; key = x.key })) e es (all bound)) at

pub branch_level : (order level high place : ℕ) (entries : List Entry) (branch : Branch) → slice_get (branches order level high entries) place ≡ Some branch → branch.want.level ≡ level
branch_level order level high place entries branch at = branch_is (λ b. b.want.level ≡ level) order level high place entries branch (λ bound k d within. refl) at

pub branch_most : (order level high place : ℕ) (entries : List Entry) (branch : Branch) → slice_get (branches order level high entries) place ≡ Some branch → branch.want.most ≡ order
branch_most order level high place entries branch at = branch_is (λ b. b.want.most ≡ order) order level high place entries branch (λ bound k d within. refl) at

pub branch_below : (order level high place addr : ℕ) (entries : List Entry) (branch : Branch) → All (λ e. e.addr < addr) entries → slice_get (branches order level high entries) place ≡ Some branch → branch.want.addr < addr
branch_below order level high place addr entries branch below at = branch_is (λ b. b.want.addr < addr) order level high place entries branch (λ bound. below) at

-- ---- lists cut at a place

pub cut_at : {X : Type 0} (xs : List X) (i : ℕ) (x : X) → slice_get xs i ≡ Some x → xs ≡ take i xs ++ x ∷ drop (suc i) xs
cut_at [] i x at = absurd cc
cut_at (y ∷ ys) zero x at = (let same : y ≡ x = cc in ap (λ z. z ∷ ys) same)
cut_at (y ∷ ys) (suc i) x at = ap (λ zs. y ∷ zs) (cut_at ys i x at)

pub take_more : {X : Type 0} (xs : List X) (i : ℕ) (x : X) → slice_get xs i ≡ Some x → take (suc i) xs ≡ take i xs ++ x ∷ []
take_more [] i x at = absurd cc
take_more (y ∷ ys) zero x at = (let same : y ≡ x = cc in ap (λ z. z ∷ []) same)
take_more (y ∷ ys) (suc i) x at = ap (λ zs. y ∷ zs) (take_more ys i x at)

pub take_whole : {X : Type 0} (xs : List X) (i : ℕ) → length xs ≤ i → take i xs ≡ xs
take_whole [] zero size = refl
take_whole [] (suc i) size = refl
take_whole (y ∷ ys) zero size = absurd (omega arith)
take_whole (y ∷ ys) (suc i) size = ap (λ zs. y ∷ zs) (take_whole ys i (omega arith))

-- ---- joined lists

pub joined_more : (Below : Branch → List Node → Type 0) (bs : List Branch) (b : Branch) (ns n : List Node) → Joined Below bs ns → Below b n → Joined Below (bs ++ b ∷ []) (ns ++ n)
joined_more Below [] b ns n is last = record { first = n; rest = []; one = last; others = refl; is = ap (λ xs. xs ++ n) is ∙ sym (append-nil n) }
joined_more Below (c ∷ bs) b ns n is last = record {
  first = is.first;
  rest = is.rest ++ n;
  one = is.one;
  others = joined_more Below bs b is.rest n is.others last;
  is = ap (λ xs. xs ++ n) is.is ∙ append_assoc is.first is.rest n;
}

-- below the entries of a leaf stand no nodes
pub joined_none : (Below : Branch → List Node → Type 0) (bs : List Branch) → ((b : Branch) → Below b []) → Joined Below bs []
joined_none Below [] none = refl
joined_none Below (b ∷ bs) none = record { first = []; rest = []; one = none b; others = joined_none Below bs none; is = refl }

-- ---- what a walk has met so far

pub adds_then : {S : Type 0} (holds : S → List Node → Type 0) (a b c : S) (xs ys : List Node) → Adds holds a b xs → Adds holds b c ys → Adds holds a c (xs ++ ys)
adds_then holds a b c xs ys one two before held = subst (holds c) (append_assoc before xs ys) (two (before ++ xs) (one before held))

-- of the entries of a node so many were walked over
pub record Ahead (pages : List (List ℕ)) (order level : ℕ) (bs : List Branch) (place : ℕ) (Of : List Node → Type 0) (node : Node) (reads_old reads_new : ℕ) : Type 0 where
  pub below : List Node
  pub joined : Joined (λ b. Nodes pages order level b.want b.key) (take place bs) below
  pub of : Of (node ∷ below)
  pub reads : reads_new ≡ reads_old + 1 + length below

pub ahead_none : (pages : List (List ℕ)) (order level : ℕ) (bs : List Branch) (Of : List Node → Type 0) (node : Node) (reads_old reads_new : ℕ) → Of (node ∷ []) → reads_new ≡ reads_old + 1 → Ahead pages order level bs 0 Of node reads_old reads_new
ahead_none pages order level bs Of node reads_old reads_new of reads = record { below = []; joined = refl; of = of; reads = omega arith }

pub ahead_more : {S : Type 0} (holds : S → List Node → Type 0) (a b c : S) (pages : List (List ℕ)) (order level : ℕ) (bs : List Branch) (place : ℕ) (branch : Branch) (node : Node) (reads_old reads_mid reads_new : ℕ)
    → slice_get bs place ≡ Some branch → branch.want.level ≡ level → branch.want.most ≡ order
    → Ahead pages order level bs place (Adds holds a b) node reads_old reads_mid → Meets pages branch.want branch.key (Adds holds b c) reads_mid reads_new
    → Ahead pages order level bs (place + 1) (Adds holds a c) node reads_old reads_new
ahead_more holds a b c pages order level bs place branch node reads_old reads_mid reads_new at same_level same_order ahead meets =
    let are : Nodes pages order level branch.want branch.key meets.nodes =
    subst (λ (o : ℕ). Nodes pages o level branch.want branch.key meets.nodes) same_order (subst (λ (n : ℕ). Nodes pages branch.want.most n branch.want branch.key meets.nodes) same_level meets.are) in
    let next : suc place ≡ place + 1 = omega arith in
    record {
      below = ahead.below ++ meets.nodes;
      joined = subst (λ (xs : List Branch). Joined (λ b. Nodes pages order level b.want b.key) xs (ahead.below ++ meets.nodes)) (sym (take_more bs place branch at) ∙ ap (λ n. take n bs) next)
          (joined_more (λ b. Nodes pages order level b.want b.key) (take place bs) branch ahead.below meets.nodes ahead.joined are);
      of = adds_then holds a b c (node ∷ ahead.below) meets.nodes ahead.of meets.of;
      reads =
          let size = length-append ahead.below meets.nodes in
          let one = ahead.reads in
          let two = meets.reads in
          omega arith;
    }

pub level_again : (level : ℕ) → 1 ≤ level → suc (level - 1) ≡ level
level_again level some = omega arith

pub ahead_all : (pages : List (List ℕ)) (want : Want) (key : List ℕ) (entries : List Entry) (place : ℕ) (Of : List Node → Type 0) (reads_old reads_new : ℕ)
    → 1 ≤ want.level → length entries ≤ place → FitsAt pages want key (NodeRecord want.level entries)
    → Ahead pages want.most (want.level - 1) (branches want.most (want.level - 1) want.high entries) place Of (node_at want.addr want.level entries) reads_old reads_new
    → Meets pages want key Of reads_old reads_new
unfolding Nodes
ahead_all pages want key entries place Of reads_old reads_new some size fits ahead =
    let bs = branches want.most (want.level - 1) want.high entries in
    let whole : take place bs ≡ bs = take_whole bs place (let n = branches_length want.most (want.level - 1) want.high entries in omega arith) in
    let joined = subst (λ (xs : List Branch). Joined (λ b. Nodes pages want.most (want.level - 1) b.want b.key) xs ahead.below) whole ahead.joined in
    let again : suc (want.level - 1) ≡ want.level = level_again want.level some in
    let all : Nodes pages want.most (suc (want.level - 1)) want key (node_at want.addr want.level entries ∷ ahead.below) = record {
      entries = entries;
      fits = subst (λ (n : ℕ). FitsAt pages want key (NodeRecord n entries)) (sym again) fits;
      below = ahead.below;
      each = joined;
      is = ap (λ (n : ℕ). node_at want.addr n entries ∷ ahead.below) (sym again);
    } in
    record {
      nodes = node_at want.addr want.level entries ∷ ahead.below;
      are = subst (λ (n : ℕ). Nodes pages want.most n want key (node_at want.addr want.level entries ∷ ahead.below)) again all;
      of = ahead.of;
      reads = let r = ahead.reads in omega arith;
    }

-- a leaf has no nodes below it
pub leaf_met : (pages : List (List ℕ)) (want : Want) (key : List ℕ) (entries : List Entry) (Of : List Node → Type 0) (reads_old reads_new : ℕ)
    → want.level ≡ 1 → FitsAt pages want key (NodeRecord want.level entries) → Of (node_at want.addr want.level entries ∷ []) → reads_new ≡ reads_old + 1 → Meets pages want key Of reads_old reads_new
unfolding Nodes
leaf_met pages want key entries Of reads_old reads_new leaf fits of reads =
    let level : want.level - 1 ≡ zero = omega arith in
    let bs = branches want.most (want.level - 1) want.high entries in
    let joined = joined_none (λ b. Nodes pages want.most zero b.want b.key) (take (length entries) bs) (λ b. refl) in
    ahead_all pages want key entries (length entries) Of reads_old reads_new (omega arith) (omega arith) fits record {
      below = [];
      joined = subst (λ (n : ℕ). Joined (λ b. Nodes pages want.most n b.want b.key) (take (length entries) bs) []) (sym level) joined;
      of = of;
      reads = omega arith;
    }

-- ---- where a walk stops

pub wrong_here : (pages : List (List ℕ)) (addr order : ℕ) (want : Want) (key : List ℕ) → 1 ≤ want.level → IsMisfit pages addr want key → FirstWrong pages addr order want.level want key
unfolding FirstWrong
wrong_here pages addr order want key some misfit =
    let here : FirstWrong pages addr order (suc (want.level - 1)) want key = inl misfit in
    subst (λ (n : ℕ). FirstWrong pages addr order n want key) (level_again want.level some) here

pub wrong_later : (pages : List (List ℕ)) (addr : ℕ) (want : Want) (key : List ℕ) (entries : List Entry) (place : ℕ) (branch : Branch) (Of : List Node → Type 0) (reads_old reads_new : ℕ)
    → 1 ≤ want.level → FitsAt pages want key (NodeRecord want.level entries)
    → slice_get (branches want.most (want.level - 1) want.high entries) place ≡ Some branch
    → Ahead pages want.most (want.level - 1) (branches want.most (want.level - 1) want.high entries) place Of (node_at want.addr want.level entries) reads_old reads_new
    → FirstWrong pages addr branch.want.most branch.want.level branch.want branch.key → FirstWrong pages addr want.most want.level want key
unfolding FirstWrong
wrong_later pages addr want key entries place branch Of reads_old reads_new some fits at ahead wrong =
    let bs = branches want.most (want.level - 1) want.high entries in
    let again : suc (want.level - 1) ≡ want.level = level_again want.level some in
    let same_level = branch_level want.most (want.level - 1) want.high place entries branch at in
    let same_order = branch_most want.most (want.level - 1) want.high place entries branch at in
    let stops : FirstWrong pages addr want.most (want.level - 1) branch.want branch.key =
    subst (λ (o : ℕ). FirstWrong pages addr o (want.level - 1) branch.want branch.key) same_order (subst (λ (n : ℕ). FirstWrong pages addr branch.want.most n branch.want branch.key) same_level wrong) in
    let here : FirstWrong pages addr want.most (suc (want.level - 1)) want key = inr record {
      entries = entries;
      fits = subst (λ (n : ℕ). FitsAt pages want key (NodeRecord n entries)) (sym again) fits;
      before = take place bs;
      branch = branch;
      after = drop (suc place) bs;
      split = cut_at bs place branch at;
      met = ahead.below;
      each = ahead.joined;
      stops = stops;
    } in
    subst (λ (n : ℕ). FirstWrong pages addr want.most n want key) again here

-- ---- how far a walk came that was cut short

pub none_met : (pages : List (List ℕ)) (order level : ℕ) (want : Want) (key : List ℕ) → FirstNodes pages order level want key []
unfolding FirstNodes
none_met pages order zero want key = refl
none_met pages order (suc level) want key = inl refl

pub cut_here : (pages : List (List ℕ)) (want : Want) (key : List ℕ) (reads_old reads_new : ℕ) → reads_new ≤ reads_old + 1 → CutShort pages want key reads_old reads_new
cut_here pages want key reads_old reads_new few = record { nodes = []; are = none_met pages want.most want.level want key; reads = omega (arith, few) }

pub cut_later : (pages : List (List ℕ)) (want : Want) (key : List ℕ) (entries : List Entry) (place : ℕ) (branch : Branch) (Of : List Node → Type 0) (reads_old reads_mid reads_new : ℕ)
    → 1 ≤ want.level → FitsAt pages want key (NodeRecord want.level entries)
    → slice_get (branches want.most (want.level - 1) want.high entries) place ≡ Some branch
    → Ahead pages want.most (want.level - 1) (branches want.most (want.level - 1) want.high entries) place Of (node_at want.addr want.level entries) reads_old reads_mid
    → CutShort pages branch.want branch.key reads_mid reads_new → CutShort pages want key reads_old reads_new
unfolding FirstNodes
cut_later pages want key entries place branch Of reads_old reads_mid reads_new some fits at ahead cut =
    let bs = branches want.most (want.level - 1) want.high entries in
    let again : suc (want.level - 1) ≡ want.level = level_again want.level some in
    let same_level = branch_level want.most (want.level - 1) want.high place entries branch at in
    let same_order = branch_most want.most (want.level - 1) want.high place entries branch at in
    let last : FirstNodes pages want.most (want.level - 1) branch.want branch.key cut.nodes =
    subst (λ (o : ℕ). FirstNodes pages o (want.level - 1) branch.want branch.key cut.nodes) same_order (subst (λ (n : ℕ). FirstNodes pages branch.want.most n branch.want branch.key cut.nodes) same_level cut.are) in
    let met : List Node = node_at want.addr want.level entries ∷ (ahead.below ++ cut.nodes) in
    let here : FirstNodes pages want.most (suc (want.level - 1)) want key met = inr record {
      entries = entries;
      fits = subst (λ (n : ℕ). FitsAt pages want key (NodeRecord n entries)) (sym again) fits;
      before = take place bs;
      branch = branch;
      after = drop (suc place) bs;
      split = cut_at bs place branch at;
      whole = ahead.below;
      each = ahead.joined;
      last = cut.nodes;
      cut = last;
      is = ap (λ (n : ℕ). node_at want.addr n entries ∷ (ahead.below ++ cut.nodes)) (sym again);
    } in
    record {
      nodes = met;
      are = subst (λ (n : ℕ). FirstNodes pages want.most n want key met) again here;
      reads = let size = length-append ahead.below cut.nodes in let one = ahead.reads in let two = cut.reads in omega arith;
    }

-- what is so anyway is so where there is an error
pub on_error : {T E : Type 0} (result : Result T E) (X : Type 0) → X → OnErr result X
on_error (Ok value) X so = tt
on_error (Err e) X so = so

-- what a walk from the root gathers of the nodes that it meets, where there was nothing, is what the tree lists
pub lists_met : {A : Type 0} (pages : List (List ℕ)) (root : Root) (has : List Node → List A) (want : Want) (old new : List A) (before after : ℕ) → want ≡ root_want root → old ≡ has [] → Meets pages want root.key (Adds (λ list nodes. list ≡ has nodes) old new) before after → Lists pages root has before after new
lists_met pages root has want old new before after want_is none meets = record {
  nodes = meets.nodes;
  are = subst (λ (w : Want). Nodes pages w.most w.level w root.key meets.nodes) want_is meets.are;
  is = meets.of [] none;
  reads = meets.reads;
}
