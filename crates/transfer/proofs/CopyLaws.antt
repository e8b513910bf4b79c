-- What the copying of a device's mapped blocks comes to, and when two devices have the same.
use Rattle.std.proofs.Common.{◌≡◌, ◌≢◌, ◌<◌, ◌∙◌, ◌∷◌, ◌++◌, ℕ, List, [], Option, None, Some, Bool, true, false, cond, refl, sym, ap, subst, map, arith}
use Rattle.std.specs.Prelude.{All, AllPairs, Contains, ◌||◌, ◌&&◌, is_some, unwrap_or, replicate, T}
use Rattle.std.specs.List.{list_any}
use Rattle.std.specs.Ordering.{eq_by_cmp, is_lt, nat_cmp}
use Rattle.std.specs.declared.cmp.Ordering.TheVariants.{Less}
use Rattle.std.specs.Cmp.{nat_cmp_is, nat_cmp_total, unsigned_tied}
use Rattle.std.specs.FinMap as maps
use Rattle.std.specs.FinMap.{contains_key-keys, entries-from_sorted, get-empty, get-from_entries, get-from_sorted, get-insert, is_sorted, nat_cmp-IsAntisymmetric, same_map}
use Rattle.std.specs.FinMap.Entries.{below_all}
use Rattle.std.proofs.lemmas.Bool.{eqb-true}
use Rattle.std.proofs.lemmas.List.Elements.{All-head, All-tail}
use Rattle.platform.specs.Image.{Image}
use Rattle.platform.specs.Logged.{AllPairs-first, AllPairs-rest}
use Rattle.node_codec.specs.declared.body.Entry.{Entry}
use Rattle.root_codec.specs.declared.root.Root.{Root}
use Rattle.page_store.specs.Stands.{StandsBy, pairs_of}
use Rattle.page_store.specs.Tree.{Mapped, Parts}
use Rattle.btree_walk.specs.Mapped.{ComesBefore, entry_of}
use Rattle.btree_walk.specs.Nodes.{Node, NodesOf, listed}
use Rattle.btree_walk.proofs.Elements.{Contains-tail}
use Rattle.btree_walk.proofs.LevelLaws.{tree_entries}
use Rattle.btree_walk.proofs.OrderLaws.{root_ordered}
use Rattle.sdbt_base.specs.Arrays.{Blocks, Device, Session as OpenSession, content_of}
use Rattle.transfer.specs.Copies.{copied, copy_block}

-- ---- the array after a copy

merge : {X : Type 0} (same some : Bool) (x y : X) (z : Option X) → (same ≡ true → y ≡ x) → cond some (Some x) (cond same (Some y) z) ≡ cond (same || some) (Some x) z
merge true true x y z is = refl
merge true false x y z is = ap (λ v. Some v) (is refl)
merge false some x y z is = refl

same_block : (q block : ℕ) → eq_by_cmp nat_cmp q block ≡ true → q ≡ block
same_block q block tied = eqb-true q block (sym (unsigned_tied q block) ∙ tied)

-- a block that was copied has what it has there, and each other one what it had
pub get_copied : (contents : Blocks) (blocks : List ℕ) (array : OpenSession) (q : ℕ) → maps.get (copied contents blocks array).contents q ≡ cond (list_any (eq_by_cmp nat_cmp q) blocks) (Some (content_of contents q)) (maps.get array.contents q)
get_copied contents [] array q = refl
get_copied contents (block ∷ blocks) array q =
    get_copied contents blocks (copy_block contents array block) q
    ∙ ap (λ o. cond (list_any (eq_by_cmp nat_cmp q) blocks) (Some (content_of contents q)) o) (get-insert nat_cmp_total array.contents block (content_of contents block) q)
    ∙ merge (eq_by_cmp nat_cmp q block) (list_any (eq_by_cmp nat_cmp q) blocks) (content_of contents q) (content_of contents block) (maps.get array.contents q) (λ tied. ap (content_of contents) (sym (same_block q block tied)))

kept : (o : Option (List ℕ)) (zeros : List ℕ) → cond (is_some o) (Some (unwrap_or o zeros)) None ≡ o
kept None zeros = refl
kept (Some content) zeros = refl

-- all mapped blocks onto an array that has none
pub copied_all : (contents : Blocks) (array : OpenSession) → array.contents ≡ maps.empty → (copied contents (maps.keys contents) array).contents ≡ contents
copied_all contents array empty = same_map nat_cmp_total nat_cmp-IsAntisymmetric (copied contents (maps.keys contents) array).contents contents (λ q.
    get_copied contents (maps.keys contents) array q
    ∙ ap (λ b. cond b (Some (content_of contents q)) (maps.get array.contents q)) (sym (contains_key-keys contents q))
    ∙ ap (λ o. cond (is_some (maps.get contents q)) (Some (content_of contents q)) o) (ap (λ m. maps.get m q) empty ∙ get-empty nat_cmp q)
    ∙ kept (maps.get contents q) (replicate 4096 0))

-- one block more
pub copied-more : (contents : Blocks) (blocks : List ℕ) (block : ℕ) (array : OpenSession) → copied contents (blocks ++ block ∷ []) array ≡ copy_block contents (copied contents blocks array) block
copied-more contents [] block array = refl
copied-more contents (first ∷ blocks) block array = copied-more contents blocks block (copy_block contents array first)

-- whether something was copied
pub copied_touched : (contents : Blocks) (blocks : List ℕ) (array : OpenSession) → blocks ≢ [] → (copied contents blocks array).touched ≡ true
copied_touched contents [] array some = absurd (some refl)
copied_touched contents (block ∷ []) array some = refl
copied_touched contents (block ∷ next ∷ blocks) array some = copied_touched contents (next ∷ blocks) (copy_block contents array block) (λ is. cc)

-- ---- equal contents

-- a block among some is one of them
contains_next : (q block : ℕ) (blocks : List ℕ) (same some : Bool) → eq_by_cmp nat_cmp q block ≡ same → (some ≡ true → Contains blocks q) → (same || some) ≡ true → Contains (block ∷ blocks) q
contains_next q block blocks true some tied rest any = subst (λ (x : ℕ). Contains (block ∷ blocks) x) (sym (same_block q block tied)) (0, omega arith, refl)
contains_next q block blocks false some tied rest any = Contains-tail block blocks q (rest any)

contains_any : (q : ℕ) (blocks : List ℕ) → list_any (eq_by_cmp nat_cmp q) blocks ≡ true → Contains blocks q
contains_any q [] is = cc
contains_any q (block ∷ blocks) is = contains_next q block blocks (eq_by_cmp nat_cmp q block) (list_any (eq_by_cmp nat_cmp q) blocks) refl (contains_any q blocks) is

alike : (one other : Option (List ℕ)) (zeros : List ℕ) → is_some one ≡ is_some other → (is_some one ≡ true → unwrap_or one zeros ≡ unwrap_or other zeros) → one ≡ other
alike None None zeros some same = refl
alike None (Some y) zeros some same = cc
alike (Some x) None zeros some same = cc
alike (Some x) (Some y) zeros some same = ap (λ v. Some v) (same refl)

-- the same blocks are mapped, and each has the same content
pub one_contents : (one other : Blocks) → maps.keys other ≡ maps.keys one → ((q : ℕ) → Contains (maps.keys one) q → content_of one q ≡ content_of other q) → one ≡ other
one_contents one other keys same = same_map nat_cmp_total nat_cmp-IsAntisymmetric one other (λ q.
    alike (maps.get one q) (maps.get other q) (replicate 4096 0)
    (contains_key-keys one q ∙ ap (λ ks. list_any (eq_by_cmp nat_cmp q) ks) (sym keys) ∙ sym (contains_key-keys other q))
    (λ some. same q (contains_any q (maps.keys one) (sym (contains_key-keys one q) ∙ some))))

-- ---- the mapped blocks of a device

lower : (one other : ℕ) → one < other → is_lt (nat_cmp one other) ≡ true
lower one other less = ap is_lt (sym (nat_cmp_is one other Less less))

below : (m : Mapped) (ms : List Mapped) → All (ComesBefore (entry_of m)) (map entry_of ms) → T (below_all nat_cmp m.block (map (λ (n : Mapped). (n.block, n.content)) ms))
below m [] all = tt
below m (next ∷ ms) all =
    subst (λ (b : Bool). T (b && below_all nat_cmp m.block (map (λ (n : Mapped). (n.block, n.content)) ms))) (sym (lower m.block next.block (All-head (ComesBefore (entry_of m)) (entry_of next) (map entry_of ms) all)))
    (below m ms (All-tail (ComesBefore (entry_of m)) (entry_of next) (map entry_of ms) all))

both : (a b : Bool) → T a → T b → T (a && b)
both true b p q = q
both false b p q = p

sorted : (ms : List Mapped) → AllPairs ComesBefore (map entry_of ms) → T (is_sorted nat_cmp (map (λ (n : Mapped). (n.block, n.content)) ms))
sorted [] pairs = tt
sorted (m ∷ ms) pairs = both _ _ (below m ms (AllPairs-first ComesBefore (entry_of m) (map entry_of ms) pairs)) (sorted ms (AllPairs-rest ComesBefore (entry_of m) (map entry_of ms) pairs))

firsts : (ms : List Mapped) → map (λ (e : ℕ × List ℕ). e.0) (map (λ (n : Mapped). (n.block, n.content)) ms) ≡ map (λ (n : Mapped). n.block) ms
firsts [] = refl
firsts (m ∷ ms) = ap (λ ns. m.block ∷ ns) (firsts ms)

lows : (ms : List Mapped) → map (λ (e : Entry). e.low) (map entry_of ms) ≡ map (λ (n : Mapped). n.block) ms
lows [] = refl
lows (m ∷ ms) = ap (λ ns. m.block ∷ ns) (lows ms)

keys_sorted : (es : List (ℕ × List ℕ)) → T (is_sorted nat_cmp es) → maps.keys (maps.from_entries {R = nat_cmp} es) ≡ map (λ (e : ℕ × List ℕ). e.0) es
keys_sorted es up =
    ap (λ m. maps.keys m) (same_map nat_cmp_total nat_cmp-IsAntisymmetric (maps.from_entries es) (maps.from_sorted es) (λ q. get-from_entries nat_cmp_total es q ∙ sym (get-from_sorted nat_cmp es q up)))
    ∙ ap (λ (l : List (ℕ × List ℕ)). map (λ (e : ℕ × List ℕ). e.0) l) (entries-from_sorted nat_cmp es up)

-- the blocks of the entries that a listing of a device's tree has are those that it maps
pub listed_keys : (image : Image) (device : Device) (root : Root) (parts : Parts) (nodes : List Node) → StandsBy image device root parts → NodesOf image.readable root nodes → map (λ (e : Entry). e.low) (listed nodes) ≡ maps.keys device.contents
listed_keys image device root parts nodes stands of =
    let same : listed nodes ≡ map entry_of parts.mapped = tree_entries image.readable root parts nodes stands.in_range stands.tree of in
    let up : AllPairs ComesBefore (map entry_of parts.mapped) = subst (AllPairs ComesBefore) same (root_ordered image.readable root nodes stands.in_range of) in
    ap (λ (es : List Entry). map (λ (e : Entry). e.low) es) same ∙ lows parts.mapped ∙ sym (firsts parts.mapped) ∙ sym (keys_sorted (pairs_of parts) (sorted parts.mapped up)) ∙ ap (λ m. maps.keys m) (sym stands.contents)
