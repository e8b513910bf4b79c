-- A map of blocks, kept as sorted entries, as a finite map.
use Rattle.std.proofs.Common.{◌≡◌, ℕ, cond, List, [], ◌∷◌, length, Some, None, refl, sym, ap, ◌∙◌, arith}
use Rattle.std.specs.Prelude.{map}
use Rattle.std.specs.List.{AllByRecursion}
use Rattle.std.specs.Cmp.{nat_cmp_total, eq_by_cmp_equiv}
use Rattle.std.specs.Ordering.{nat_cmp}
use Rattle.std.specs.declared.cmp.Ordering.TheVariants.{Less}
use Rattle.std.specs.FinMap.{from_entries, find, get, insert, remove, len, get-from_entries, get-insert, get-remove, len-insert, len-empty, same_map, nat_cmp-IsAntisymmetric}
use Rattle.std.specs.Map.{lookup}
use Rattle.std.specs.List.Sorted.{IsStrictlySortedBy}
use Rattle.std.specs.BTreeMap.{is_at}
use Rattle.std.proofs.lemmas.Map.Keys.{sorted_head, sorted_tail}

find_block : (es : List (ℕ × List ℕ)) (q : ℕ) → find nat_cmp q es ≡ lookup (is_at (nat_cmp q)) es
find_block [] q = refl
find_block (e ∷ es) q = ap (cond (is_at (nat_cmp q) e.0) (Some e.1)) (find_block es q)

-- what the map that the entries make has at a block
pub get_block : (es : List (ℕ × List ℕ)) (q : ℕ) → get (from_entries {R = nat_cmp} es) q ≡ lookup (is_at (nat_cmp q)) es
get_block es q = get-from_entries nat_cmp_total es q ∙ find_block es q

-- entries that differ at one block make maps that differ there
pub one_put : (es fs : List (ℕ × List ℕ)) (k : ℕ) (v : List ℕ)
    → ((q : ℕ) → lookup (is_at (nat_cmp q)) fs ≡ cond (is_at (nat_cmp k) q) (Some v) (lookup (is_at (nat_cmp q)) es))
    → from_entries {R = nat_cmp} fs ≡ insert (from_entries es) k v
one_put es fs k v h = same_map nat_cmp_total nat_cmp-IsAntisymmetric _ _ (λ q.
    get_block fs q ∙ h q ∙ ap (λ b. cond b (Some v) (lookup (is_at (nat_cmp q)) es)) ((eq_by_cmp_equiv nat_cmp_total).symm k q)
    ∙ sym (get-insert nat_cmp_total (from_entries es) k v q ∙ ap (cond (is_at (nat_cmp q) k) (Some v)) (get_block es q)))

pub one_removed : (es fs : List (ℕ × List ℕ)) (k : ℕ)
    → ((q : ℕ) → lookup (is_at (nat_cmp q)) fs ≡ cond (is_at (nat_cmp k) q) None (lookup (is_at (nat_cmp q)) es))
    → from_entries {R = nat_cmp} fs ≡ remove (from_entries es) k
one_removed es fs k h = same_map nat_cmp_total nat_cmp-IsAntisymmetric _ _ (λ q.
    get_block fs q ∙ h q ∙ ap (λ b. cond b None (lookup (is_at (nat_cmp q)) es)) ((eq_by_cmp_equiv nat_cmp_total).symm k q)
    ∙ sym (get-remove nat_cmp_total (from_entries es) k q ∙ ap (cond (is_at (nat_cmp q) k) None) (get_block es q)))

-- a key below all keys isn't one of them
absent : (es : List (ℕ × List ℕ)) (k : ℕ) → AllByRecursion (λ y. nat_cmp k y ≡ Less) (map (λ e. e.0) es) → lookup (is_at (nat_cmp k)) es ≡ None
absent [] k h = refl
absent (e ∷ es) k h = rw h.0 (absent es k h.1)

-- sorted entries make a map of as many
pub as_many : (es : List (ℕ × List ℕ)) → IsStrictlySortedBy nat_cmp (map (λ e. e.0) es) → len (from_entries {R = nat_cmp} es) ≡ length es
as_many [] h = len-empty nat_cmp (List ℕ)
as_many (e ∷ es) h =
    let none = get_block es e.0 ∙ absent es e.0 (sorted_head nat_cmp e.0 (map (λ e. e.0) es) h) in
    let further = as_many es (sorted_tail nat_cmp e.0 (map (λ e. e.0) es) h) in
    len-insert nat_cmp_total (from_entries es) e.0 e.1 ∙ rw (none, further) (omega arith)
