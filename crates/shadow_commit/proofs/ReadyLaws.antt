-- Why a commit that is ready stands.
use Rattle.std.proofs.Common.{◌≡◌, inl, inr, false, ℕ, zero, suc, ◌+◌, ◌-◌, ◌%◌, ◌<◌, ◌≤◌, ◌^◌, List, [], ◌∷◌, ◌++◌, Some, length, map, refl, sym, ap, subst, ◌∙◌, arith, length-append}
use Rattle.std.specs.Prelude.{All, Contains, Option, None, Err, IsErrOf, ◌==◌, if◌then◌else◌}
use Rattle.std.proofs.lemmas.Bool.Decides.{nat_tests}
use Rattle.std.specs.List.{AllByRecursion}
use Rattle.std.specs.FinMap.{from_entries}
use Rattle.std.proofs.lemmas.List.{length-map}
use Rattle.std.proofs.lemmas.List.Elements.{All-from_recursion, recursion_from_All}
use Rattle.std.proofs.lemmas.List.Sorted.{All-permutation, Contains-permutation, IsPermutation-sym}
use Rattle.std.specs.List.Sorted.{IsPermutation}
use Rattle.sdbt_base.specs.Faults.{TellsOf}
use Rattle.sdbt_base.specs.declared.tapes.Tape.{Ghosts as TapeGhosts}
use Rattle.platform.specs.declared.platforms.Platform.{Ghosts as PlatformGhosts}
use Rattle.page_store.specs.declared.refusals.AppendFault.{AppendFault}
use Rattle.page_store.specs.declared.refusals.AppendFault.TheVariants as appends
use Rattle.shadow_commit.specs.Refusals.{refused}
use Rattle.platform.specs.Image.{Image, IsWhole, all_synced, with_cell}
use Rattle.sdbt_base.specs.Keys.{bare, key_size, most_entries}
use Rattle.record_versions.specs.Versions.{IsVersion}
use Rattle.root_codec.specs.declared.root.Root.{Root}
use Rattle.root_codec.specs.RootRecord.{FitsRoot, root_bytes}
use Rattle.page_store.specs.declared.wants.Want.{Want}
use Rattle.page_store.specs.Places.{root_want}
use Rattle.page_store.specs.Tree.{Parts, Place, Mapped, Subtree, joined}
use Rattle.btree_twigs.specs.declared.twigs.Child.{Child, Child-F, out-Child}
use Rattle.btree_twigs.specs.declared.twigs.Child.TheOpen.{Kept as KeptChild, Grown}
use Rattle.btree_twigs.specs.declared.twigs.Child.TheVariants as made
use Rattle.btree_twigs.specs.declared.twigs.Twig.{Twig}
use Rattle.btree_twigs.specs.Stubs.{Stub, addr_in, addr_of, stubs_in, children_of, stubs, stubs_below, nodes_in, nodes, nodes_below}
use Rattle.btree_twigs.specs.Shape.{IsTwig}
use Rattle.btree_twigs.specs.Top.{IsTopBy, IsTop, top_least}
use Rattle.btree_update.specs.GroveTree.{HasEach}
use Rattle.btree_update.specs.Roots.{IsRootBy, IsRoot}
use Rattle.btree_update.specs.Groves.{IsSound, places_of, grown_in}
use Rattle.btree_update.specs.declared.groves.Grove.{Grove}
use Rattle.node_cache.specs.Cached.{Cached}
use Rattle.cert_maker.specs.Cert.{Cert}
use Rattle.sdbt_base.specs.Traces.{Traced}
use Rattle.sdbt_base.specs.declared.lists.Unkept.{Unkept}
use Rattle.page_store.proofs.TreeLaws.{one_tree}
use Rattle.page_store.proofs.ApartLaws.{apart_permutation}
use Rattle.shadow_commit.specs.Sealed.{Sealed, page_of, with_nodes, SealsNode, Seals}
use Rattle.btree_update.specs.Held.{bound, AreBelow}
use Rattle.shadow_commit.specs.CanSeal.{CanSeal}
use Rattle.shadow_commit.specs.Caching.{with_sealed}
use Rattle.shadow_commit.specs.NewTree.{place_of, keys_at, AreNodesOver}
use Rattle.shadow_commit.specs.Handing.{StopsFrom}
use Rattle.shadow_commit.proofs.StepLaws.{stops_none}
use Rattle.shadow_commit.proofs.KeyLaws.{AreKnown, keys_in, append_within, known_within, listed_at, child_known}
use Rattle.shadow_commit.specs.Ready.{CanPrepare, CanSealTop, Stand, IsNextRoot, StandsWith, CertifiesBy, IsSealed, IsPrepareCause, ListsNewTree, SyncsBehind}
use Rattle.shadow_commit.proofs.TreeLaws.{node_tree, has_stays, all_append}
use Rattle.shadow_commit.proofs.OrderLaws.{node_in_order, records_at}
use Rattle.shadow_commit.proofs.ApartLaws.{IsWithin, ReadsAs, with_fresh, fresh_within, kept_reads, fresh_reads}

-- the root node in memory
pub record IsRootTwig (version order blocks level head : ℕ) (top : Child) (twig : Twig) : Type 0 where
  pub shaped : IsTwig order level (top_least level) order 0 blocks twig
  pub under : AreBelow (bound head (key_size version)) (stubs_below level blocks twig)
  pub count : nodes (suc level) top ≡ suc (nodes_below level twig)
  pub places : stubs (suc level) blocks top ≡ stubs_below level blocks twig

pub root_twig : (version order blocks level head low : ℕ) (top : Child) (twig : Twig) → top ≡ made.Grown low twig → IsTop order level blocks top → AreBelow (bound head (key_size version)) (stubs (suc level) blocks top) → IsRootTwig version order blocks level head top twig
unfolding stubs nodes
root_twig version order blocks level head low top twig is shaped under =
    let out = ap out-Child is ∙ made.outs-Grown low twig in
    record {
      shaped = (subst (IsTopBy order level blocks) out shaped).1;
      under = subst (λ x. AreBelow (bound head (key_size version)) (stubs_in (stubs level) (suc level) blocks x)) out under;
      count = ap (nodes_in (nodes level)) out;
      places = ap (stubs_in (stubs level) (suc level) blocks) out;
    }

pub top_low : (order blocks level low : ℕ) (top : Child) (twig : Twig) → top ≡ made.Grown low twig → IsTop order level blocks top → low ≡ 0
top_low order blocks level low top twig is shaped = (subst (IsTopBy order level blocks) (ap out-Child is ∙ made.outs-Grown low twig) shaped).0

not_one : (level : ℕ) → (suc (suc level) == 1) ≡ false
not_one level = grind (arith, nat_tests)

least_is : (level : ℕ) → top_least level ≡ (if suc level == 1 then 0 else 2)
least_is zero = refl
least_is (suc level) = rw (not_one level) refl

abbrev pub can_root : (head capacity : ℕ) (root : Root) (mapped : ℕ) (top : Child) (twig : Twig) (at : CanSealTop head capacity root mapped top) → IsRootTwig root.version root.order root.blocks at.level head top twig → CanSeal root.version head capacity twig
can_root head capacity root mapped top twig at s = record {
  order = root.order;
  level = at.level;
  least = top_least at.level;
  low = 0;
  high = root.blocks;
  shaped = s.shaped;
  version_known = at.in_range.version;
  order_most = at.in_range.order_most;
  level_most = at.level_most;
  blocks = at.in_range.blocks_most;
  below = s.under;
  room = omega (arith, at.room, s.count);
}

abbrev want_at : ℕ → ℕ → ℕ → ℕ → Want
want_at order blocks level addr = record { addr = addr; level = suc level; low = 0; high = blocks; least = top_least level; most = order }

below_all : (n : ℕ) (ps : List Place) → AllByRecursion (λ p. p.addr < n) ps → (m : ℕ) → n ≤ m → AllByRecursion (λ p. p.addr < m) ps
below_all n [] h m le = tt
below_all n (p ∷ ps) h m le = (omega (arith, h.0, le), below_all n ps h.1 m le)

fresh_below : (first end : ℕ) (ps : List Place) → AllByRecursion (IsWithin first end) ps → AllByRecursion (λ p. p.addr < end) ps
fresh_below first end [] h = tt
fresh_below first end (p ∷ ps) h = (h.0.1, fresh_below first end ps h.1)

-- the tree of the next root record
pub stands_with : (old new : Image) (root next : Root) (mapped level head : ℕ) (top : Child) (twig : Twig) (ns : List Sealed) (each : List Parts) → IsWhole old → head ≡ length old.recorded →
    FitsRoot root → level < 20 → IsRootTwig root.version root.order root.blocks level head top twig → SealsNode root.version (Seals root.version level) level head (children_of twig) ns next.addr next.key → head + length ns ≤ 2 ^ 32 →
    IsNextRoot root mapped (suc level) (head + length ns) next → FitsRoot next → new ≡ all_synced (with_nodes old ns) →
    Stand old root.order (stubs (suc level) root.blocks top) each mapped → StandsWith new next ns each
stands_with old new root next mapped level head top twig ns each whole head_is fits deep s sealed small next_is next_fits new_is h =
    let in_order = node_in_order root.version root.order level (top_least level) head head 0 root.blocks next.addr next.key twig ns sealed s.shaped (fits.version, fits.order_most) deep fits.blocks_most s.under (omega arith) in
    let more = map page_of ns in
    let at = records_at root.version head old.readable ns (head_is ∙ sym whole.as_many) in_order.from in_order.fits (omega (arith, small)) in
    let has = has_stays old.readable more root.order (stubs_below level root.blocks twig) each (subst (λ ss. HasEach old.readable root.order ss each) s.places h.has) in
    let want = want_at root.order root.blocks level next.addr in
    let t = node_tree root.version (old.readable ++ more) root.order level head want next.key twig ns each sealed s.shaped refl refl at has in
    let parts = t.0 in
    let are = t.2 in
    let fresh = fresh_within head (head + length ns) ns in_order.from (omega arith) in
    let kept_below = recursion_from_All (λ (p : Place). p.addr < length old.recorded) (joined each).places h.below in
    let image = with_cell new (Some (root_bytes next)) in
    let want_is : want ≡ root_want next = λ i. record {
      addr = next.addr;
      level = sym next_is.level_is i;
      low = 0;
      high = sym next_is.blocks i;
      least = (least_is level ∙ ap (λ (l : ℕ). if l == 1 then 0 else 2) (sym next_is.level_is)) i;
      most = sym next_is.order i;
    } in
    let readable : image.readable ≡ old.readable ++ more = ap (λ (i : Image). i.readable) new_is in
    let recorded : image.recorded ≡ old.recorded ++ more = ap (λ (i : Image). i.recorded) new_is in
    let synced : image.synced ≡ length (old.recorded ++ more) = ap (λ (i : Image). i.synced) new_is in
    let tree : Subtree (old.readable ++ more) next.order next.level (root_want next) next.key parts =
    subst (λ (o : ℕ). Subtree (old.readable ++ more) o next.level (root_want next) next.key parts) (sym next_is.order)
    (subst (λ (l : ℕ). Subtree (old.readable ++ more) root.order l (root_want next) next.key parts) (sym next_is.level_is)
    (subst (λ (w : Want). Subtree (old.readable ++ more) root.order (suc level) w next.key parts) want_is t.1)) in
    let all_below = all_append (λ (p : Place). p.addr < head + length ns) (map place_of ns) (joined each).places (fresh_below head (head + length ns) (map place_of ns) fresh)
    (below_all (length old.recorded) (joined each).places kept_below (head + length ns) (omega (arith, head_is))) in
    let all_read = all_append (ReadsAs (old.readable ++ more) (old.recorded ++ more)) (map place_of ns) (joined each).places
    (fresh_reads old.readable old.recorded more (head + length ns) (map place_of ns) whole.as_many (subst (λ n. AllByRecursion (IsWithin n (head + length ns)) (map place_of ns)) head_is fresh))
    (kept_reads old.readable old.recorded more (joined each).places whole.as_many kept_below (recursion_from_All (ReadsAs old.readable old.recorded) (joined each).places h.recorded)) in
    record {
      parts = parts;
      are = are;
      stands = record {
        cell = refl;
        in_range = next_fits;
        key = next_is.key;
        version = refl;
        order = refl;
        blocks = refl;
        number = refl;
        head = omega (arith, next_is.head_is, synced, length-append old.recorded more, length-map ns page_of, head_is);
        tree = subst (λ (pages : List (List ℕ)). Subtree pages next.order next.level (root_want next) next.key parts) (sym readable) tree;
        apart = apart_permutation (map place_of ns ++ (joined each).places) parts.places are.places
            (with_fresh head ns (joined each).places in_order.from (subst (λ n. AllByRecursion (λ (p : Place). p.addr < n) (joined each).places) (sym head_is) kept_below) h.apart);
        count = ap length are.mapped ∙ h.count ∙ sym next_is.mapped_is;
        below = subst (λ n. All (λ (p : Place). p.addr < n) parts.places) (sym next_is.head_is)
            (All-permutation (λ (p : Place). p.addr < head + length ns) (map place_of ns ++ (joined each).places) parts.places are.places
            (All-from_recursion (λ (p : Place). p.addr < head + length ns) (map place_of ns ++ (joined each).places) all_below));
        recorded = subst (λ (pages : List (List ℕ)). All (ReadsAs pages image.recorded) parts.places) (sym readable)
            (subst (λ (pages : List (List ℕ)). All (ReadsAs (old.readable ++ more) pages) parts.places) (sym recorded)
            (All-permutation (ReadsAs (old.readable ++ more) (old.recorded ++ more)) (map place_of ns ++ (joined each).places) parts.places are.places
            (All-from_recursion (ReadsAs (old.readable ++ more) (old.recorded ++ more)) (map place_of ns ++ (joined each).places) all_read)));
        contents = ap (λ (ms : List Mapped). from_entries (map (λ (m : Mapped). (m.block, m.content)) ms)) (sym are.mapped);
      };
    }

-- the next root record is in range
pub next_fits : (root next : Root) (mapped level head count : ℕ) → FitsRoot root → root.head ≤ head → mapped ≤ root.blocks → level < 20 → IsNextRoot root mapped (suc level) (head + count) next → 1 ≤ count → head + count ≤ 2 ^ 32 → FitsRoot next
next_fits root next mapped level head count fits within most deep is some small = record {
  version = subst IsVersion (sym is.version) fits.version;
  order_even = subst (λ (n : ℕ). n % 2 ≡ 0) (sym is.order) fits.order_even;
  order_least = omega (arith, is.order, fits.order_least);
  order_most = subst (λ (v : ℕ). next.order ≤ most_entries v) (sym is.version) (subst (λ (n : ℕ). n ≤ most_entries root.version) (sym is.order) fits.order_most);
  level_least = omega (arith, is.level_is);
  level_most = omega (arith, is.level_is, deep);
  blocks_least = omega (arith, is.blocks, fits.blocks_least);
  blocks_most = omega (arith, is.blocks, fits.blocks_most);
  commit = omega (arith, is.commit, is.head_is, fits.commit, within, some);
  addr = omega (arith, is.addr, is.head_is);
  mapped = omega (arith, is.mapped_is, is.blocks, most);
  head = omega (arith, is.head_is, small);
  sized = is.key.0;
}

pub one_more : (version level first : ℕ) (cs : List Child) (ns : List Sealed) (addr : ℕ) (key : List ℕ) → SealsNode version (Seals version level) level first cs ns addr key → addr + 1 ≡ first + length ns
one_more version level first cs ns addr key h = omega (arith, h.addr_is, ap length h.is, length-append h.below (record { addr = addr; key = key; level = suc level; entries = h.entries } ∷ []))

-- ---- a tree whose root node is in memory

top_in_memory : (order below high : ℕ) (top : Child) → IsRoot order below high top → addr_of top ≡ None → IsTop order below high top
top_in_memory order below high top root none = here (out-Child top) root none
  where
    here : (x : Child-F Child Twig) → IsRootBy order below high x → addr_in x ≡ None → IsTopBy order below high x
    here (KeptChild low addr key) root none = absurd cc
    here (Grown low twig) root none = root

pub top_shaped : (head : ℕ) (root : Root) (mapped : ℕ) (grove : Grove) → CanPrepare head root mapped grove → IsTop root.order (grove.level - 1) root.blocks grove.top
top_shaped head root mapped grove can =
    subst (λ order. IsTop order (grove.level - 1) root.blocks grove.top) can.order
    (subst (λ blocks. IsTop grove.order (grove.level - 1) blocks grove.top) can.blocks (top_in_memory grove.order (grove.level - 1) grove.blocks grove.top can.sound.shaped can.in_memory))

pub level_is : (grove : Grove) → IsSound grove → suc (grove.level - 1) ≡ grove.level
level_is grove sound = let one = sound.one in omega (arith, one)

pub places_are : (head : ℕ) (root : Root) (mapped : ℕ) (grove : Grove) → CanPrepare head root mapped grove → stubs (suc (grove.level - 1)) root.blocks grove.top ≡ places_of grove
places_are head root mapped grove can = λ i. stubs (level_is grove can.sound i) (sym can.blocks i) grove.top

pub grown_are : (grove : Grove) → IsSound grove → nodes (suc (grove.level - 1)) grove.top ≡ grown_in grove
grown_are grove sound = ap (λ n. nodes n grove.top) (level_is grove sound)

pub same_places : (head : ℕ) (root : Root) (mapped : ℕ) (grove : Grove) (top : Child) → CanPrepare head root mapped grove → top ≡ grove.top → stubs (suc (grove.level - 1)) root.blocks top ≡ places_of grove
same_places head root mapped grove top can same = ap (stubs (suc (grove.level - 1)) root.blocks) same ∙ places_are head root mapped grove can

-- the root node can be sealed where there is room
abbrev pub can_top : (head capacity : ℕ) (root : Root) (mapped : ℕ) (grove : Grove) (top : Child) → top ≡ grove.top → CanPrepare head root mapped grove → head + grown_in grove ≤ capacity → CanSealTop head capacity root mapped top
can_top head capacity root mapped grove top same can room = record {
  in_range = can.in_range;
  within = can.within;
  most = can.most;
  level = grove.level - 1;
  level_most = omega (arith, can.level_most, level_is grove can.sound);
  shaped = subst (IsTop root.order (grove.level - 1) root.blocks) (sym same) (top_shaped head root mapped grove can);
  below = subst (λ t. AreBelow (bound head (key_size root.version)) (stubs (suc (grove.level - 1)) root.blocks t)) (sym same) (subst (AreBelow (bound head (key_size root.version))) (sym (places_are head root mapped grove can)) can.below);
  room = omega (arith, room, ap (nodes (suc (grove.level - 1))) same, grown_are grove can.sound);
}

pub grove_twig : (head at : ℕ) (root : Root) (mapped : ℕ) (grove : Grove) (top : Child) (low : ℕ) (twig : Twig) → at ≡ head → CanPrepare head root mapped grove → top ≡ grove.top → top ≡ made.Grown low twig →
    IsRootTwig root.version root.order root.blocks (grove.level - 1) at top twig
grove_twig head at root mapped grove top low twig at_is can same is =
    let shaped = subst (IsTop root.order (grove.level - 1) root.blocks) (sym same) (top_shaped head root mapped grove can) in
    let below = subst (λ t. AreBelow (bound head (key_size root.version)) (stubs (suc (grove.level - 1)) root.blocks t)) (sym same) (subst (AreBelow (bound head (key_size root.version))) (sym (places_are head root mapped grove can)) can.below) in
    root_twig root.version root.order root.blocks (grove.level - 1) at low top twig is shaped (subst (λ n. AreBelow (bound n (key_size root.version)) (stubs (suc (grove.level - 1)) root.blocks top)) (sym at_is) below)

abbrev pub can_twig : (head at capacity : ℕ) (root : Root) (mapped : ℕ) (grove : Grove) (top : Child) (twig : Twig) → at ≡ head → top ≡ grove.top → (can : CanPrepare head root mapped grove) → IsRootTwig root.version root.order root.blocks (grove.level - 1) at top twig →
    head + grown_in grove ≤ capacity → CanSeal root.version at capacity twig
can_twig head at capacity root mapped grove top twig at_is same can s room = record {
  order = root.order;
  level = grove.level - 1;
  least = top_least (grove.level - 1);
  low = 0;
  high = root.blocks;
  shaped = s.shaped;
  version_known = can.in_range.version;
  order_most = can.in_range.order_most;
  level_most = omega (arith, can.level_most, level_is grove can.sound);
  blocks = can.in_range.blocks_most;
  below = s.under;
  room = omega (arith, room, at_is, s.count, ap (nodes (suc (grove.level - 1))) same, grown_are grove can.sound);
}

-- what was sealed of the root node is the sealing of the tree
abbrev pub sealed_as : (tells : Type 0) (old new : Image) (head head_now : ℕ) (drawn drawn_now : Option (List (List ℕ))) (cache cache' cache_now : Cached) (root : Root) (mapped : ℕ) (grove : Grove) (top : Child) (next : Root) → CanPrepare head root mapped grove → top ≡ grove.top → cache ≡ cache' →
    IsSealed tells old new head head_now drawn drawn_now cache cache_now root mapped (suc (grove.level - 1)) top (stubs (suc (grove.level - 1)) root.blocks top) next →
    IsSealed tells old new head head_now drawn drawn_now cache' cache_now root mapped grove.level grove.top (places_of grove) next
sealed_as tells old new head head_now drawn drawn_now cache cache' cache_now root mapped grove top next can same same_cache s = record {
  written = s.written;
  adds = record {
    nodes = s.adds.nodes;
    is = subst (λ n. Seals root.version n head grove.top s.adds.nodes (record { low = 0; addr = next.addr; key = next.key })) (level_is grove can.sound)
        (subst (λ t. Seals root.version (suc (grove.level - 1)) head t s.adds.nodes (record { low = 0; addr = next.addr; key = next.key })) same s.adds.is);
    image = s.adds.image;
    head = s.adds.head;
    drew = s.adds.drew;
  };
  over = subst (λ ss. AreNodesOver root.version head ss s.adds.nodes) (same_places head root mapped grove top can same) s.over;
  cached = s.cached ∙ ap (λ (c : Cached). with_sealed c s.adds.nodes) same_cache;
  synced = s.synced;
  next_is = record {
    version = s.next_is.version;
    order = s.next_is.order;
    blocks = s.next_is.blocks;
    commit = s.next_is.commit;
    level_is = s.next_is.level_is ∙ level_is grove can.sound;
    mapped_is = s.next_is.mapped_is;
    addr = s.next_is.addr;
    key = s.next_is.key;
    head_is = s.next_is.head_is;
  };
  in_range = s.in_range;
  grown = s.grown ∙ ap (λ n. head + n) (ap (nodes (suc (grove.level - 1))) same ∙ grown_are grove can.sound);
  stands = λ told each h. s.stands told each (subst (λ ss. Stand old root.order ss each mapped) (sym (same_places head root mapped grove top can same)) h);
}

-- ---- the certificate

-- another order of what is added makes no difference
pub certifies_as : (commit base head node : ℕ) (planned added : List Traced) (gone : List ℕ) (never : List Unkept) (cert : Cert) → IsPermutation planned added → CertifiesBy commit base head node added gone never cert → CertifiesBy commit base head node planned gone never cert
certifies_as commit base head node planned added gone never cert perm h =
    let there : (t : Traced) → Contains planned t → Contains added t = λ t. Contains-permutation planned added t perm in
    let back : (t : Traced) → Contains added t → Contains planned t = λ t. Contains-permutation added planned t (IsPermutation-sym planned added perm) in
    record {
      commit_is = h.commit_is;
      base_is = h.base_is;
      head_is = h.head_is;
      node_is = h.node_is;
      added_are = λ one.
          let all = h.added_are (λ x y has has' same. one x y (back x has) (back y has') same) in
          record { same = λ t. (λ c. back t ((all.same t).0 c), λ c. (all.same t).1 (there t c)); ascends = all.ascends };
      gone_are = h.gone_are;
      never_are = h.never_are;
      trees = λ old new pages apart differ. h.trees old new pages apart
          (record { in_new = λ t. (λ c. (differ.in_new t).0 (back t c), λ c. there t ((differ.in_new t).1 c)); in_old = differ.in_old; in_neither = differ.in_neither });
    }

-- nor do numbers and lists that are the same
pub certifies_same : (commit commit' base head head' node : ℕ) (added added' : List Traced) (gone gone' : List ℕ) (never never' : List Unkept) (cert : Cert) → commit ≡ commit' → head ≡ head' → added ≡ added' → gone ≡ gone' → never ≡ never' →
    CertifiesBy commit base head node added gone never cert → CertifiesBy commit' base head' node added' gone' never' cert
certifies_same commit commit' base head head' node added added' gone gone' never never' cert commits heads adds goes lapses h =
    subst (λ c. CertifiesBy c base head' node added' gone' never' cert) commits
    (subst (λ n. CertifiesBy commit base n node added' gone' never' cert) heads
    (subst (λ xs. CertifiesBy commit base head node xs gone' never' cert) adds
    (subst (λ xs. CertifiesBy commit base head node added xs never' cert) goes
    (subst (λ xs. CertifiesBy commit base head node added gone xs cert) lapses h))))

-- ---- the keys of the new tree

sealed_known : (keys : List (List ℕ)) (ns : List Sealed) → AllByRecursion (λ (n : Sealed). Contains keys (bare n.key)) ns → AllByRecursion (λ (p : Place). Contains keys (bare p.key)) (map place_of ns)
sealed_known keys [] h = tt
sealed_known keys (n ∷ ns) h = (h.0, sealed_known keys ns h.1)

pub knows_new_tree : (tells : Type 0) (old new : Image) (head head_now : ℕ) (drawn drawn_now : Option (List (List ℕ))) (cache cache_now : Cached) (root : Root) (mapped level : ℕ) (top : Child) (next : Root)
    (high : ℕ) (is : IsSealed tells old new head head_now drawn drawn_now cache cache_now root mapped level top (stubs level high top) next) (keys : List (List ℕ)) → tells →
    AllByRecursion (λ s. Contains keys (bare s.key)) (stubs level high top) → AreKnown is.adds.nodes keys → ListsNewTree old new root.order (stubs level high top) mapped next keys
knows_new_tree tells old new head head_now drawn drawn_now cache cache_now root mapped level top next high is keys told places nodes each stand below =
    let ns = is.adds.nodes in
    let with = is.stands told each stand in
    let own = child_known root.version level head high top ns (record { low = 0; addr = next.addr; key = next.key }) is.adds.is in
    let listed = listed_at keys (stubs level high top) places in
    let all : All (λ p. Contains keys (bare p.key)) with.parts.places =
    All-permutation (λ (p : Place). Contains keys (bare p.key)) (map place_of ns ++ (joined each).places) with.parts.places with.are.places
    (All-from_recursion (λ (p : Place). Contains keys (bare p.key)) (map place_of ns ++ (joined each).places)
    (all_append (λ (p : Place). Contains keys (bare p.key)) (map place_of ns) (joined each).places (sealed_known keys ns nodes) (recursion_from_All (λ (p : Place). Contains keys (bare p.key)) (joined each).places below))) in
    record {
      own = append_within (keys_at (stubs level high top)) (keys_in ns) keys listed (known_within keys ns nodes) (bare next.key) own.own;
      places = λ parts tree. subst (λ (p : Parts). All (λ q. Contains keys (bare q.key)) p.places) (one_tree new.readable next with.parts parts is.in_range with.stands.tree tree) all;
    }

-- ---- a commit that was not begun

pub stops_before : (version head : ℕ) (places : List Stub) (tells : Type 0) (image : Image) (drawn : Option (List (List ℕ))) → StopsFrom version head places tells image image drawn drawn
stops_before version head places tells image drawn = record {
  written = image;
  stops = stops_none (AreNodesOver version head places) tells image image drawn drawn (record { order = record { from = tt; fits = tt }; keys = tt }) (λ told. refl) refl;
  synced = λ told. inl refl;
}

-- a sealing that a fault cut off, over the same places
pub stops_at : (version head : ℕ) (places places' : List Stub) (tells : Type 0) (old new : Image) (drawn drawn_now : Option (List (List ℕ))) → places ≡ places' → StopsFrom version head places tells old new drawn drawn_now → StopsFrom version head places' tells old new drawn drawn_now
stops_at version head places places' tells old new drawn drawn_now same h = subst (λ ss. StopsFrom version head ss tells old new drawn drawn_now) same h

pub within_as : (head : ℕ) (root : Root) (mapped : ℕ) (grove : Grove) (top : Child) → CanPrepare head root mapped grove → top ≡ grove.top → (now : ℕ) → now ≤ head + nodes (suc (grove.level - 1)) top → now ≤ head + grown_in grove
within_as head root mapped grove top can same now h = omega (arith, h, ap (nodes (suc (grove.level - 1))) same, grown_are grove can.sound)

-- the nodes of the top are those in memory
pub behind_as : {S : Type 0} (P : PlatformGhosts S) (platform platform_now : S) (root : Root) (mapped : ℕ) (grove : Grove) (top : Child) → CanPrepare (P.head platform) root mapped grove → top ≡ grove.top
    → SyncsBehind P (nodes (suc (grove.level - 1)) top) platform platform_now → SyncsBehind P (grown_in grove) platform platform_now
behind_as P platform platform_now root mapped grove top can same behind told = elim (behind told) [
  | inl unsynced ↦ inl unsynced
  | inr all ↦ inr (omega (arith, all, ap (nodes (suc (grove.level - 1))) same, grown_are grove can.sound))
]

-- why a commit was not prepared where the sealing of its tree failed
pub next_refused : {S R : Type 0} (P : PlatformGhosts S) (T : TapeGhosts R) (platform platform_now : S) (tape tape_now : R) (grown : ℕ) (fault : AppendFault) → grown ≤ P.capacity platform - P.head platform
    → TellsOf {T = Root} {E = AppendFault} appends.PlatformFault (Err fault) (P.faults platform) (P.faults platform_now) → TellsOf {T = Root} {E = AppendFault} appends.TapeFault (Err fault) (T.faults tape) (T.faults tape_now)
    → (P.tells → IsErrOf {T = Root} {E = AppendFault} (Err fault) appends.TapeFault → P.changes platform_now ≡ P.changes platform) → SyncsBehind P grown platform platform_now
    → IsPrepareCause P T platform platform_now tape tape_now grown (Err (refused fault))
next_refused P T platform platform_now tape tape_now grown appends.TapeFault fits one other unsynced behind = (fits, other.failed (cc), one.refused (λ same. absurd cc), λ told. unsynced told (cc))
next_refused P T platform platform_now tape tape_now grown appends.PlatformFault fits one other unsynced behind = (fits, one.failed (cc), other.refused (λ same. absurd cc), behind)

pub pages_sealed : (old written new : Image) (ns : List Sealed) → new ≡ all_synced written → written ≡ with_nodes old ns → new.recorded ≡ old.recorded ++ map page_of ns
pages_sealed old written new ns synced is = ap (λ (i : Image). i.recorded) synced ∙ ap (λ (i : Image). i.recorded) is
