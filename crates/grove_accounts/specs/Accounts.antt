-- What a tree keeps account of, for the next certificate: which pages it let go of since its root record.
use Rattle.std.specs.Prelude.{◌≡◌, ◌≢◌, ◌<◌, ◌≤◌, ◌⊎◌, ℕ, List, All, AllPairs, Contains}
use Rattle.sdbt_base.specs.Traces.{DataOf}
use Rattle.sdbt_base.specs.declared.lists.Unkept.{Unkept}
use Rattle.page_store.specs.Tree.{Place}

-- a data record whose page came after a root record with this head
pub record IsOwn (head : ℕ) (place : Place) : Type 0 where
  pub after : head ≤ place.addr
  pub block : ℕ
  pub is : place.trace ≡ DataOf block

-- no place is at the address
abbrev pub LacksAddress : List Place → ℕ → Type 0
LacksAddress places addr = All (λ p. p.addr ≢ addr) places

-- one is
abbrev pub HasAddress : List Place → ℕ → Type 0
HasAddress places addr = (p : Place) × Contains places p × (p.addr ≡ addr)

-- what a tree of these places, without its nodes in memory, let go of, over the committed tree of a root record with this head, and so many pages:
-- each place is a committed one, or a data record that came after; each committed one is there still, or its page is gone, and what is gone was
-- committed; and the tree's own pages that were never kept came after the root record, each once. No place has a page that was let go of
pub record Accounts (head pages : ℕ) (committed places : List Place) (gone : List ℕ) (never : List Unkept) : Type 0 where
  pub kept : All (λ p. Contains committed p ⊎ IsOwn head p) places
  pub left : All (λ p. Contains places p ⊎ Contains gone p.addr) committed
  pub gone_are : All (λ addr. HasAddress committed addr × LacksAddress places addr) gone
  pub never_are : All (λ page. (head ≤ page.addr) × (page.addr < pages) × LacksAddress places page.addr) never
  pub once : AllPairs (λ page other. page.addr ≢ other.addr) never
