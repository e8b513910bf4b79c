-- What one look at a node says.
use Rattle.std.proofs.Common.{◌≡◌, ℕ, ◌+◌, ◌-◌, ◌/◌, ◌<◌, ◌≤◌, List, refl, sym, ap, subst, ◌∙◌, arith}
use Rattle.platform.specs.declared.platforms.Platform.{Ghosts}
use Rattle.platform.proofs.Moments.{Steps-refl}
use Rattle.sdbt_base.specs.Keys.{version_of}
use Rattle.node_codec.specs.declared.body.NodeBody.{NodeBody}
use Rattle.node_codec.specs.declared.body.Entry.{Entry}
use Rattle.node_codec.specs.Record.{NodeRecord, FitsNode}
use Rattle.page_store.specs.declared.wants.Want.{Want}
use Rattle.node_cache.specs.declared.slots.CachedNode.{CachedNode}
use Rattle.node_cache.specs.Cached.{Cached, IsOnlyCached}
use Rattle.btree_walk.specs.declared.turns.Turn.{Turn}
use Rattle.btree_walk.specs.Ways.{GoesBelow}
use Rattle.btree_walk.specs.Sights.{NodeFits, CachedFits}
use Rattle.btree_walk.specs.Finds.{AsksFor, UsesNode}
use Rattle.btree_walk.specs.Looks.{Looks}
use Rattle.btree_walk.proofs.WayLaws.{way_entry}

-- nothing is read
pub looks_still : {S : Type 0} (P : Ghosts S) (x : S) → Looks P 1 x x
looks_still P x = record {
  image = λ tells. refl;
  time = λ tells. Steps-refl (P.history x);
  head = refl;
  capacity = refl;
  reads_rise = λ tells. omega arith;
  reads_most = λ tells. omega arith;
  changes = λ tells. refl;
  pages = λ tells. refl;
  faults = omega arith;
}

-- a node that fits where another is cached is that one
pub same_entries : (kept : List CachedNode) (want : Want) (key : List ℕ) (node : NodeBody) (entries : List Entry) → IsOnlyCached kept want.addr key node → CachedFits kept want key (NodeRecord want.level entries) → entries ≡ node.entries.items
same_entries kept want key node entries only is =
    let same : is.node ≡ node = only.only is.node is.here in
    let value = is.is in
    let mine : entries ≡ is.node.entries.items = cc in
    mine ∙ ap (λ (n : NodeBody). n.entries.items) same

-- the cached node fits, where some cached node does
pub fits_too : (kept : List CachedNode) (want : Want) (key : List ℕ) (node : NodeBody) (entries : List Entry) → IsOnlyCached kept want.addr key node → CachedFits kept want key (NodeRecord want.level entries) → NodeFits want key node
fits_too kept want key node entries only is = subst (NodeFits want key) (only.only is.node is.here) is.fits

div_some : (n : ℕ) → 2 ≤ n → 1 ≤ n / 2
div_some n two = omega arith

-- the node that was used is in range
pub used_range : (want : Want) (key : List ℕ) (block : ℕ) (old new : Cached) (turn : Turn) (used : UsesNode want key block old new turn) → FitsNode (version_of key) want.addr want.level used.node.entries.items
used_range want key block old new turn used = subst (λ n. FitsNode (version_of key) want.addr n used.node.entries.items) used.fits.wanted.same_level used.fits.in_range

-- where a look-up goes on, it can go on
pub asks_next : {version : ℕ} (want next : Want) (key : List ℕ) (entries : List Entry) (block : ℕ) → AsksFor want block → FitsNode version want.addr want.level entries → GoesBelow want entries block next key → AsksFor next block
asks_next want next key entries block asks fits goes =
    subst (λ (w : Want). AsksFor w block) (sym goes.next_is) record {
      level = let inner = goes.inner in omega arith;
      from = goes.way.from;
      below = goes.way.below;
      order = asks.order;
      some = λ inner. div_some want.most asks.order;
    }

pub next_below : {version : ℕ} (want next : Want) (key : List ℕ) (entries : List Entry) (block : ℕ) → FitsNode version want.addr want.level entries → GoesBelow want entries block next key → next.addr < want.addr
next_below want next key entries block fits goes =
    let less = way_entry (λ (e : Entry). e.addr < want.addr) entries want.high block goes.bound goes.entry fits.below goes.way in
    subst (λ (w : Want). w.addr < want.addr) (sym goes.next_is) less

pub next_less : (want next : Want) (key : List ℕ) (entries : List Entry) (block : ℕ) → GoesBelow want entries block next key → next.level + 1 ≡ want.level
next_less want next key entries block goes = let inner = goes.inner in ap (λ (w : Want). w.level + 1) goes.next_is ∙ (let e : want.level - 1 + 1 ≡ want.level = omega arith in e)
