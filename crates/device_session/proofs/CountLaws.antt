-- How many blocks a session counts, and how many pages a commit of it needs.
use Rattle.std.proofs.Common.{◌≡◌, ℕ, suc, ◌+◌, ◌-◌, ◌<◌, ◌≤◌, true, false, cond, List, [], ◌∷◌, length, refl, sym, ◌∙◌, ap, subst, arith}
use Rattle.std.specs.Prelude.{Option, is_some}
use Rattle.std.specs.List.{AllByRecursion}
use Rattle.std.specs.Cmp.{nat_cmp_total}
use Rattle.std.specs.Ordering.{nat_cmp}
use Rattle.std.specs.FinMap as maps
use Rattle.platform.specs.Image.{Image}
use Rattle.sdbt_base.specs.Arrays.{Device, Blocks}
use Rattle.page_store.specs.Tree.{Mapped, joined}
use Rattle.btree_twigs.specs.declared.twigs.Child.{Child, Child-F, out-Child}
use Rattle.btree_twigs.specs.declared.twigs.Child.TheOpen.{Kept, Grown}
use Rattle.btree_twigs.specs.declared.twigs.Child.TheVariants as made
use Rattle.btree_twigs.specs.declared.twigs.Twig.{Twig}
use Rattle.btree_twigs.specs.Stubs.{nodes, nodes_in}
use Rattle.btree_twigs.specs.Top.{IsTop, IsTopBy}
use Rattle.btree_update.specs.Maps.{LacksBlock}
use Rattle.btree_update.proofs.AscendLaws.{Ascends}
use Rattle.btree_update.proofs.GroveLaws.{above_it}
use Rattle.grove_accounts.specs.Holding.{IsTreeOf}
use Rattle.device_session.specs.Sessions.{Session}
use Rattle.device_session.specs.Open.{IsOpen, IsChangedTree, IsTreeFor, needed_by}
use Rattle.device_session.specs.Holds.{Holds}
use Rattle.device_session.proofs.ArrayLaws.{array_of, array_put, array_lacks}
use Rattle.device_session.proofs.ReadLaws.{held_up}

above : (low block : ℕ) (ms : List Mapped) → block < low → Ascends low ms → AllByRecursion (λ m. block < m.block) ms
above low block [] less up = tt
above low block (m ∷ ms) less up = (omega (arith, less, up.0), above (suc m.block) block ms (omega (arith, less, up.0)) up.1)

lacks : (block : ℕ) (ms : List Mapped) → AllByRecursion (λ m. block < m.block) ms → LacksBlock block ms
lacks block [] h = tt
lacks block (m ∷ ms) h = ((λ e. omega (arith, e, h.0)), lacks block ms h.1)

-- an array of blocks that ascend has as many
map_len : (low : ℕ) (ms : List Mapped) → Ascends low ms → maps.len (array_of ms) ≡ length ms
map_len low [] up = maps.len-empty nat_cmp (List ℕ)
map_len low (m ∷ ms) up =
    let after = above (suc m.block) m.block ms (omega arith) up.1 in
    let none = array_lacks m.block ms (lacks m.block ms after) in
    let further = map_len (suc m.block) ms up.1 in
    ap (λ c. maps.len c) (array_put m ms (m ∷ ms) (record { front = []; mid = []; back = ms; was = refl; now = refl; before = tt; here = tt; after = after }))
    ∙ maps.len-insert nat_cmp_total (array_of ms) m.block m.content
    ∙ ap (λ (o : Option (List ℕ)). cond (is_some o) (maps.len (array_of ms)) (maps.len (array_of ms) + 1)) none
    ∙ ap (λ n. n + 1) further ∙ omega arith

-- a session's count is the number of its array's blocks
pub mapped_len : (session : Session) (image : Image) (device : Device) (contents : Blocks) → Holds session image device contents → session.mapped ≡ maps.len contents
mapped_len session image device contents h =
    h.count ∙ sym (map_len 0 (joined h.each).mapped (held_up session image device contents h)) ∙ ap (λ c. maps.len c) (sym h.contents_are)

-- ---- pages for a commit

none_by : (level : ℕ) (x : Child-F Child Twig) (low addr : ℕ) (key : List ℕ) → x ≡ Kept low addr key → nodes_in (nodes level) x ≡ 0
none_by level x low addr key is = ap (nodes_in (nodes level)) is

kept_none : (level low addr : ℕ) (key : List ℕ) → nodes (suc level) (made.Kept low addr key) ≡ 0
unfolding nodes
kept_none level low addr key = none_by level (out-Child (made.Kept low addr key)) low addr key (made.outs-Kept low addr key)

some_by : (order below high level : ℕ) (x : Child-F Child Twig) → IsTopBy order below high x → 1 ≤ nodes_in (nodes level) x
some_by order below high level (Kept low addr key) h = absurd h
some_by order below high level (Grown low twig) h = omega arith

top_some : (order below high level : ℕ) (c : Child) → IsTop order below high c → 1 ≤ nodes (suc level) c
unfolding nodes
top_some order below high level c h = some_by order below high level (out-Child c) h

tree_none : (session : Session) → IsTreeOf session.root session.grove → needed_by session ≡ 0
tree_none session t =
    let one = above_it session.grove.level t.sound.one in
    ap (λ n. nodes n session.grove.top) one ∙ ap (λ c. nodes (suc (session.grove.level - 1)) c) t.top ∙ kept_none (session.grove.level - 1) 0 session.root.addr session.root.key

tree_some : (session : Session) → IsChangedTree session.root session.grove → 1 ≤ needed_by session
tree_some session t =
    let one = above_it session.grove.level t.sound.one in
    subst (λ n. 1 ≤ nodes n session.grove.top) (sym one) (top_some session.grove.order (session.grove.level - 1) session.grove.blocks (session.grove.level - 1) session.grove.top t.top)

-- an untouched session needs none
pub needs_none : (session : Session) (pages : ℕ) → IsOpen session pages → session.is_touched ≡ false → needed_by session ≡ 0
needs_none session pages o untouched = tree_none session (subst (λ t. IsTreeFor t session.root session.grove) untouched o.tree)

-- a touched one needs a page for its root node
pub needs_some : (session : Session) (pages : ℕ) → IsOpen session pages → session.is_touched ≡ true → 1 ≤ needed_by session
needs_some session pages o touched = tree_some session (subst (λ t. IsTreeFor t session.root session.grove) touched o.tree)
