-- That a block lies below one entry of a node, and that a leaf has one entry of it.
use Rattle.std.proofs.Common.{◌≡◌, ◌≢◌, ℕ, suc, ◌+◌, ◌<◌, ◌≤◌, List, [], ◌∷◌, ◌++◌, Option, None, Some, All, refl, sym, ap, subst, inl, inr, ◌∙◌, arith, get_or, slice_index}
use Rattle.std.specs.List.Sorted.{IsStrictlyIncreasing}
use Rattle.std.proofs.lemmas.Bool.{cases_lt, cases_eq}
use Rattle.std.proofs.lemmas.List.{get_or_default}
use Rattle.std.proofs.lemmas.List.Elements.{All-head, All-tail, All-contains}
use Rattle.node_codec.specs.declared.body.Entry.{Entry}
use Rattle.page_store.specs.Tree.{bound_of}
use Rattle.btree_walk.specs.Ways.{IsWay, IsEntryOf}
use Rattle.btree_walk.proofs.TurnLaws.{lows, ascends}

at_split : (P : Entry → Type 0) (before after : List Entry) (entry : Entry) → All P (before ++ entry ∷ after) → P entry
at_split P [] after entry all = All-head P entry after all
at_split P (e ∷ before) after entry all = at_split P before after entry (All-tail P e (before ++ entry ∷ after) all)

-- what holds of each entry holds of the one on the way
pub way_entry : (P : Entry → Type 0) (es : List Entry) (high block bound : ℕ) (entry : Entry) → All P es → IsWay es high block entry bound → P entry
way_entry P es high block bound entry all way = at_split P way.before way.after entry (subst (All P) way.split all)

pub up_tail : (e : Entry) (es : List Entry) → IsStrictlyIncreasing (lows (e ∷ es)) → IsStrictlyIncreasing (lows es)
up_tail e es up k within =
    let one : suc k + 1 ≡ suc (k + 1) = omega arith in
    let next : slice_index (lows (e ∷ es)) (suc k) < slice_index (lows (e ∷ es)) (suc k + 1) = up (suc k) (omega arith) in
    subst (λ (n : ℕ). slice_index (lows es) k < slice_index (lows (e ∷ es)) n) one next

pub up_head : (e f : Entry) (es : List Entry) → IsStrictlyIncreasing (lows (e ∷ f ∷ es)) → e.low < f.low
up_head e f es up = up 0 (omega arith)

-- where a list of entries begins is not above any of them
pub begins_below : (before after : List Entry) (entry : Entry) (high : ℕ) → IsStrictlyIncreasing (lows (before ++ entry ∷ after)) → bound_of (before ++ entry ∷ after) high ≤ entry.low
begins_below [] after entry high up = omega arith
begins_below (e ∷ []) after entry high up = let less = up_head e entry after up in omega arith
begins_below (e ∷ f ∷ before) after entry high up =
    let less = up_head e f (before ++ entry ∷ after) up in
    let rest = begins_below (f ∷ before) after entry high (up_tail e (f ∷ (before ++ entry ∷ after)) up) in
    omega arith

abbrev Same : Entry → Entry → List Entry → List Entry → Type 0
Same e f xs ys = (e ≡ f) × (xs ≡ ys)

split_is_one : (b1 a1 b2 a2 : List Entry) (e1 e2 : Entry) (high block : ℕ) → IsStrictlyIncreasing (lows (b1 ++ e1 ∷ a1)) → b1 ++ e1 ∷ a1 ≡ b2 ++ e2 ∷ a2 → e1.low ≤ block → block < bound_of a1 high → e2.low ≤ block → block < bound_of a2 high → Same e1 e2 a1 a2
split_is_one [] a1 [] a2 e1 e2 high block up same from1 below1 from2 below2 = (cc, cc)
split_is_one [] a1 (x ∷ b2) a2 e1 e2 high block up same from1 below1 from2 below2 =
    let rest : a1 ≡ b2 ++ e2 ∷ a2 = cc in
    let begin = begins_below b2 a2 e2 high (subst (λ (l : List Entry). IsStrictlyIncreasing (lows l)) rest (up_tail e1 a1 up)) in
    let above : block < bound_of (b2 ++ e2 ∷ a2) high = subst (λ (l : List Entry). block < bound_of l high) rest below1 in
    absurd (omega arith)
split_is_one (x ∷ b1) a1 [] a2 e1 e2 high block up same from1 below1 from2 below2 =
    let rest : b1 ++ e1 ∷ a1 ≡ a2 = cc in
    let begin = begins_below b1 a1 e1 high (up_tail x (b1 ++ e1 ∷ a1) up) in
    let above : block < bound_of (b1 ++ e1 ∷ a1) high = subst (λ (l : List Entry). block < bound_of l high) (sym rest) below2 in
    absurd (omega arith)
split_is_one (x ∷ b1) a1 (y ∷ b2) a2 e1 e2 high block up same from1 below1 from2 below2 =
    let rest : b1 ++ e1 ∷ a1 ≡ b2 ++ e2 ∷ a2 = cc in
    split_is_one b1 a1 b2 a2 e1 e2 high block (up_tail x (b1 ++ e1 ∷ a1) up) rest from1 below1 from2 below2

-- a block lies below one entry
pub way_is_one : (es : List Entry) (high block b1 b2 : ℕ) (e1 e2 : Entry) → IsStrictlyIncreasing (lows es) → IsWay es high block e1 b1 → IsWay es high block e2 b2 → (e1 ≡ e2) × (b1 ≡ b2)
way_is_one es high block b1 b2 e1 e2 up one two =
    let same = split_is_one one.before one.after two.before two.after e1 e2 high block (subst (λ (l : List Entry). IsStrictlyIncreasing (lows l)) one.split up) (sym one.split ∙ two.split) one.from (subst (λ n. block < n) one.ends one.below) two.from (subst (λ n. block < n) two.ends two.below) in
    (same.0, one.ends ∙ ap (λ (l : List Entry). bound_of l high) same.1 ∙ sym two.ends)

-- a leaf has one entry of a block
pub entry_is_one : (es : List Entry) (block : ℕ) (a b : Option Entry) → IsStrictlyIncreasing (lows es) → IsEntryOf es block a → IsEntryOf es block b → a ≡ b
entry_is_one es block None None up one two = refl
entry_is_one es block None (Some b) up one two = absurd (All-contains (λ (e : Entry). e.low ≢ block) es b one two.0 two.1)
entry_is_one es block (Some a) None up one two = absurd (All-contains (λ (e : Entry). e.low ≢ block) es a two one.0 one.1)
entry_is_one es block (Some a) (Some b) up one two =
    let i = one.0.0 in let j = two.0.0 in
    let at : get_or es i a ≡ a = one.0.2 in
    let to : get_or es j b ≡ b = two.0.2 in
    let to' : get_or es j a ≡ b = get_or_default es j a b two.0.1 ∙ to in
    let low_a : (get_or es i a).low ≡ block = ap (λ (e : Entry). e.low) at ∙ one.1 in
    let low_b : (get_or es j a).low ≡ block = ap (λ (e : Entry). e.low) to' ∙ two.1 in
    elim (cases_lt i j) [
      | inl less ↦ let more = ascends es i j a up less two.0.1 in absurd (omega arith)
      | inr not_less ↦ elim (cases_eq i j) [
        | inl same ↦ ap Some (sym at ∙ ap (λ k. get_or es k a) same ∙ to')
        | inr other ↦ let more = ascends es j i a up (omega arith) one.0.1 in absurd (omega arith)
      ]
    ]
