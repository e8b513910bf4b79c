-- What a cache keeps, where what is read are nodes among these places.
use Rattle.std.specs.Prelude.{◌≡◌, ◌⊎◌, ℕ, List, All, Contains}
use Rattle.node_codec.specs.declared.body.Entry.{Entry}
use Rattle.node_codec.specs.Record.{NodeRecord}
use Rattle.page_store.specs.Places.{IsRecordAt}
use Rattle.page_store.specs.Tree.{Place}
use Rattle.node_cache.specs.Cached.{Cached}

-- one of these places has this address and this key
pub record IsAmong (places : List Place) (addr : ℕ) (key : List ℕ) : Type 0 where
  pub place : Place
  pub here : Contains places place
  pub addr_is : place.addr ≡ addr
  pub key_is : place.key ≡ key

-- where one of these places is a node on the pages, each of its entries names one of them
abbrev pub GoDown : List (List ℕ) → List Place → Type 0
GoDown pages places =
    (addr : ℕ) (key : List ℕ) (level : ℕ) (entries : List Entry) → IsAmong places addr key → IsRecordAt pages addr key (NodeRecord level entries) → All (λ e. IsAmong places e.addr e.key) entries

-- each node that is cached has the address and the key of one of these places
abbrev pub KeepsAmong : List Place → Cached → Type 0
KeepsAmong places cache = All (λ k. IsAmong places k.addr k.key) cache.nodes

-- each node that is cached now was cached before, or is cached for this address under this key
abbrev pub KeepsBut : ℕ → List ℕ → Cached → Cached → Type 0
KeepsBut addr key old new = All (λ k. Contains old.nodes k ⊎ ((k.addr ≡ addr) × (k.key ≡ key))) new.nodes

-- where the nodes that were cached are among such places, those that are cached now are
abbrev pub StaysAmong : (List Place → Type 0) → Cached → Cached → Type 0
StaysAmong Such old new = (places : List Place) → Such places → KeepsAmong places old → KeepsAmong places new
