-- A node that was read is a node in memory.
use Rattle.std.proofs.Common.{◌≡◌, ℕ, zero, suc, ◌+◌, ◌<◌, ◌≤◌, List, [], ◌∷◌, ◌++◌, length, map, refl, sym, ap, subst, ◌∙◌, arith, vec_capacity}
use Rattle.std.specs.Prelude.{IfSome, slice_get, slice_index}
use Rattle.std.specs.List.{AllByRecursion}
use Rattle.std.specs.List.Sorted.{IsStrictlyIncreasing}
use Rattle.std.proofs.lemmas.List.{length-map}
use Rattle.std.proofs.lemmas.List.Elements.{recursion_from_All}
use Rattle.node_codec.specs.declared.body.Entry.{Entry}
use Rattle.node_codec.specs.Record.{FitsNode}
use Rattle.page_store.specs.declared.wants.Want.{Want}
use Rattle.page_store.specs.Places.{IsNodeWanted}
use Rattle.page_store.specs.Tree.{bound_of}
use Rattle.btree_twigs.specs.declared.twigs.Child.TheVariants as made
use Rattle.btree_twigs.specs.declared.twigs.Twig.{Twig, out-Twig}
use Rattle.btree_twigs.specs.Stubs.{Stub, datum, start_by, low_of, level_of, children_of, stubs_below}
use Rattle.btree_twigs.specs.Shape.{EachBy, Begins, IsChildBy, IsChild, IsTwig}
use Rattle.btree_twigs.specs.Updates.{IsNode, stubs_under}
use Rattle.btree_twigs.proofs.Children.{low_of_kept, stubs_of_kept, kept_is_datum}
use Rattle.btree_twigs.proofs.Finds.{kept_stub}
use Rattle.btree_update.specs.GroveTree.{stubs_at}
use Rattle.btree_update.specs.Reading.{kept_of, all_kept}
use Rattle.btree_update.specs.Held.{IsReadAs}

pub tail_ascends : (x : ℕ) (xs : List ℕ) → IsStrictlyIncreasing (x ∷ xs) → IsStrictlyIncreasing xs
tail_ascends x xs h k lt = let i = h (suc k) (omega (arith, lt)) in let e : suc k + 1 ≡ suc (k + 1) = omega arith in subst (λ n. slice_index xs k < slice_index (x ∷ xs) n) e i

pub start_is : (es : List Entry) (high : ℕ) → start_by low_of (all_kept es) high ≡ bound_of es high
start_is [] high = refl
start_is (e ∷ es) high = low_of_kept e.low e.addr e.key

pub bound_above : (e : Entry) (es : List Entry) (high : ℕ) → e.low < high → IsStrictlyIncreasing (map (λ (e : Entry). e.low) (e ∷ es)) → e.low < bound_of es high
bound_above e [] high lt h = lt
bound_above e (f ∷ es) high lt h = h 0 (omega arith)

kept_is_child : (order level high : ℕ) (e : Entry) → IsChild order level high (kept_of e)
unfolding IsChild
kept_is_child order zero high e = kept_is_datum order high e.low e.addr e.key
kept_is_child order (suc level) high e = subst (IsChildBy (IsChild order level) order level high) (sym (made.outs-Kept e.low e.addr e.key)) tt

pub each_kept : (order level high : ℕ) (es : List Entry) → AllByRecursion (λ e. e.low < high) es → IsStrictlyIncreasing (map (λ (e : Entry). e.low) es) → EachBy low_of (IsChild order level) high (all_kept es)
each_kept order level high [] below h = tt
each_kept order level high (e ∷ es) below h =
    (omega (arith, low_of_kept e.low e.addr e.key, start_is es high, bound_above e es high below.0 h), kept_is_child order level _ e, each_kept order level high es below.1 (tail_ascends e.low (map (λ (e : Entry). e.low) es) h))

-- the places below such children are those of the entries
pub kept_stubs : (level high : ℕ) (es : List Entry) → stubs_under level high (all_kept es) ≡ stubs_at level high es
kept_stubs zero high [] = refl
kept_stubs (suc level) high [] = refl
kept_stubs zero high (e ∷ es) = ap (λ s. s ++ stubs_under 0 high (all_kept es)) (stubs_of_kept (start_by low_of (all_kept es) high) e.low e.addr e.key) ∙ ap (λ s. datum e.low e.addr e.key ∷ s) (kept_stubs zero high es)
kept_stubs (suc level) high (e ∷ es) =
    ap (λ s. s ++ stubs_under (suc level) high (all_kept es)) (kept_stub level (start_by low_of (all_kept es) high) e.low e.addr e.key)
    ∙ ap (λ m. record { level = suc level; low = e.low; high = m; addr = e.addr; key = e.key } ∷ stubs_under (suc level) high (all_kept es)) (start_is es high)
    ∙ ap (λ s. record { level = suc level; low = e.low; high = bound_of es high; addr = e.addr; key = e.key } ∷ s) (kept_stubs (suc level) high es)

-- the places below a node that was read are those of its page
pub read_same : (pages : List (List ℕ)) (order below : ℕ) (stub : Stub) (twig : Twig) (r : IsReadAs pages order below stub twig) → stubs_below below stub.high twig ≡ stubs_at below stub.high r.entries
read_same pages order below stub twig r = ap (stubs_under below stub.high) r.children ∙ kept_stubs below stub.high r.entries

first_is : (low high : ℕ) (es : List Entry) → 0 < length es → IfSome (slice_get es 0) (λ (e : Entry). e.low ≡ low) → start_by low_of (all_kept es) high ≡ low
first_is low high [] lt h = absurd (omega (arith, lt))
first_is low high (e ∷ es) lt h = low_of_kept e.low e.addr e.key ∙ h

first_from : (low high : ℕ) (es : List Entry) → low ≤ high → AllByRecursion (λ (e : Entry). low ≤ e.low) es → low ≤ start_by low_of (all_kept es) high
first_from low high [] le h = le
first_from low high (e ∷ es) le h = omega (arith, h.0, low_of_kept e.low e.addr e.key)

begins_kept : (level low high : ℕ) (es : List Entry) → low ≤ high → (1 ≤ level → 0 < length es) → AllByRecursion (λ (e : Entry). low ≤ e.low) es → (2 ≤ suc level → IfSome (slice_get es 0) (λ (e : Entry). e.low ≡ low)) →
    Begins level low (start_by low_of (all_kept es) high)
begins_kept zero low high es le some h first = first_from low high es le h
begins_kept (suc level) low high es le some h first = first_is low high es (some (omega arith)) (first (omega arith))

-- the node that a wanted record is
pub read_is_twig : (order level least version : ℕ) (want : Want) (es : List Entry) (twig : Twig) → (1 ≤ level → 1 ≤ least) → want.least ≡ least → want.most ≡ order → want.low ≤ want.high →
    FitsNode version want.addr (suc level) es → IsNodeWanted want (suc level) es → level_of twig ≡ suc level → order < vec_capacity (out-Twig twig).children → children_of twig ≡ all_kept es →
    IsTwig order level least order want.low want.high twig
read_is_twig order level few version want es twig some least most le fits wanted is room all =
    let n : length (all_kept es) ≡ length es = length-map es kept_of in
    let node : IsNode order level few order want.low want.high (all_kept es) = record {
      enough = omega (arith, n, least, wanted.least);
      within = omega (arith, n, most, wanted.most);
      begins = begins_kept level want.low want.high es le (λ one. omega (arith, some one, least, wanted.least)) (recursion_from_All (λ (e : Entry). want.low ≤ e.low) es wanted.from_low) wanted.first;
      each = each_kept order level want.high es (recursion_from_All (λ (e : Entry). e.low < want.high) es wanted.below_high) fits.ascend;
    } in
    record { level_is = is; room = room; node = subst (IsNode order level few order want.low want.high) (sym all) node }
