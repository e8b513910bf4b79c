-- Taking the children of one item after another.
use Rattle.std.proofs.Common.{◌≡◌, ℕ, ◌+◌, ◌<◌, ◌||◌, ◌==◌, Bool, true, false, is_some, Option, None, Some, List, [], ◌∷◌, ◌++◌, length, get_or, take, refl, sym, ap, ◌∙◌, append_assoc}
use Rattle.std.specs.Prelude.{IfNone, slice_index}
use Rattle.std.specs.Ordering.{nat_cmp}
use Rattle.std.specs.BTreeSet.{BTreeSet, contains}
use Rattle.std.proofs.lemmas.Bool.{false≢true}
use Rattle.std.proofs.lemmas.List.{map-append, take_more, append-nil}
use Rattle.std.proofs.lemmas.List.Folds.{list_any-append}
use Rattle.sdbt_base.specs.Traces.{Traced}
use Rattle.cert_checker.specs.declared.held.Held.{Held}
use Rattle.cert_checker.specs.declared.held.Held.TheVariants.{Data, Node}
use Rattle.cert_checker.specs.declared.held.Placed.{Placed}
use Rattle.cert_checker.specs.Rules.{is_listed}
use Rattle.cert_checker.specs.Held.{children_held, trace_of_held, traced_of, traced_all}
use Rattle.cert_checker.specs.Kept.{all_children, children_of}
use Rattle.cert_checker.specs.Looks.{FirstOf, FirstAgain, children_before, is_taken, HasTaken}

first_same : (Bad Bad' : ℕ → Type 0) (n : ℕ) (value : ℕ → ℕ) (answer : Option ℕ) → ((k : ℕ) → Bad k → Bad' k) → ((k : ℕ) → Bad' k → Bad k) → FirstOf Bad n value answer → FirstOf Bad' n value answer
first_same Bad Bad' n value None to back none = λ k low bad. none k low (back k bad)
first_same Bad Bad' n value (Some v) to back first = (first.0, first.1, first.2, to first.0 first.3, λ j low bad. first.4 j low (back j bad))

pub again_from : (added : List Placed) (i : ℕ) (item : Placed) (taken : BTreeSet ℕ) (answer : Option ℕ) → HasTaken (traced_all (take i added)) taken
    → FirstOf (λ k. is_taken taken (take k (children_held item.held)) (slice_index (children_held item.held) k) ≡ true) (length (children_held item.held)) (slice_index (children_held item.held)) answer
    → FirstAgain added i item answer
again_from added i item taken answer has first =
    let children = children_held item.held in
    let same : (k : ℕ) → is_taken taken (take k children) (get_or children k 0) ≡ (is_listed (children_before added i) (get_or children k 0) || is_listed (take k children) (get_or children k 0))
    = λ k. ap (λ (b : Bool). b || is_listed (take k children) (get_or children k 0)) (has (get_or children k 0)) in
    first_same (λ k. is_taken taken (take k children) (slice_index children k) ≡ true)
    (λ k. (is_listed (children_before added i) (slice_index children k) || is_listed (take k children) (slice_index children k)) ≡ true)
    (length children) (slice_index children) answer
    (λ k is. sym (same k) ∙ is) (λ k is. same k ∙ is) first

none_then : {P : Type 0} (answer : Option ℕ) → is_some answer ≡ false → IfNone answer P → P
none_then None is p = p
none_then (Some v) is p = absurd (false≢true (sym is))

all-append : (xs ys : List Traced) → all_children (xs ++ ys) ≡ all_children xs ++ all_children ys
all-append [] ys = refl
all-append (x ∷ xs) ys = ap (λ (l : List ℕ). children_of x.trace ++ l) (all-append xs ys) ∙ sym (append_assoc (children_of x.trace) (all_children xs) (all_children ys))

held_children : (held : Held) → children_of (trace_of_held held) ≡ children_held held
held_children (Data block) = refl
held_children (Node children) = refl

one_more : (added : List Placed) (i : ℕ) (item : Placed) → i < length added → item ≡ get_or added i item → all_children (traced_all (take (i + 1) added)) ≡ all_children (traced_all (take i added)) ++ children_held item.held
one_more added i item inside is =
    ap (λ (l : List Placed). all_children (traced_all l)) (take_more added i item inside ∙ ap (λ (x : Placed). take i added ++ x ∷ []) (sym is))
    ∙ ap all_children (map-append traced_of (take i added) (item ∷ []))
    ∙ all-append (traced_all (take i added)) (traced_of item ∷ [])
    ∙ ap (λ (l : List ℕ). all_children (traced_all (take i added)) ++ l) (append-nil (children_of (trace_of_held item.held)) ∙ held_children item.held)

pub takes_more : (added : List Placed) (i : ℕ) (item : Placed) (taken new : BTreeSet ℕ) (answer : Option ℕ) → i < length added → item ≡ get_or added i item → HasTaken (traced_all (take i added)) taken
    → is_some answer ≡ false → IfNone answer ((addr : ℕ) → contains nat_cmp new addr ≡ is_taken taken (children_held item.held) addr)
    → HasTaken (traced_all (take (i + 1) added)) new
takes_more added i item taken new answer inside is has none now = λ addr.
    none_then answer none now addr
    ∙ ap (λ (b : Bool). b || is_listed (children_held item.held) addr) (has addr)
    ∙ sym (list_any-append (λ x. x == addr) (all_children (traced_all (take i added))) (children_held item.held))
    ∙ ap (λ (l : List ℕ). is_listed l addr) (sym (one_more added i item inside is))
