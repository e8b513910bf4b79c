-- What is left of the keys of nodes in memory that are let go.
use Rattle.std.specs.Prelude.{◌≡◌, ℕ, List, Option, IfSome, length, option_map, replicate, slice_get}
use Rattle.btree_twigs.specs.Stubs.{children_of}
use Rattle.btree_twigs.specs.Wiped.{AreBlank}
use Rattle.btree_twigs.specs.declared.twigs.Child.{Child, Child-F, out-Child}
use Rattle.btree_twigs.specs.declared.twigs.Child.TheOpen.{Kept, Grown}
use Rattle.btree_twigs.specs.declared.twigs.Twig.{Twig}
use Rattle.btree_twigs.specs.Updates.{width_of}
use Rattle.btree_update.specs.declared.groves.Grove.{Grove}

-- each child is one of zeros
abbrev pub IsWiped : Twig → Type 0
IsWiped twig = AreBlank (children_of twig)

-- so is each of these nodes
abbrev pub AreWiped : List Twig → Type 0
AreWiped nodes = (place : ℕ) → IfSome (slice_get nodes place) IsWiped

-- and each that is there
abbrev pub AreWipedBeside : List (Option Twig) → Type 0
AreWipedBeside nodes = (place : ℕ) → IfSome (slice_get nodes place) (λ node. IfSome node IsWiped)

-- how many children a node has
abbrev pub width : Twig → ℕ
width twig = length (children_of twig)

-- each of these nodes has as many children as before: none was let go before it was wiped
abbrev pub AreAsWide : List Twig → List Twig → Type 0
AreAsWide old new = (place : ℕ) → option_map width (slice_get new place) ≡ option_map width (slice_get old place)

-- so has each that is there
abbrev pub AreAsWideBeside : List (Option Twig) → List (Option Twig) → Type 0
AreAsWideBeside old new = (place : ℕ) → option_map (option_map width) (slice_get new place) ≡ option_map (option_map width) (slice_get old place)

-- a root of which no key is left: neither its own, nor one in its node, where that is in memory
abbrev pub IsWipedRoot : Child-F Child Twig → Type 0
IsWipedRoot (Kept low addr key) = key ≡ replicate 32 0
IsWipedRoot (Grown low twig) = IsWiped twig

-- a tree of which no key is left: none in its nodes in memory, nor in those that it holds
pub record IsWipedGrove (grove : Grove) : Type 0 where
  pub top : IsWipedRoot (out-Child grove.top)
  pub held : AreWiped grove.held.items
  pub beside : AreWipedBeside grove.beside.items

-- it has the root and the held nodes that it had, each with as many children: none was let go before it was wiped
pub record IsAsWide (old new : Grove) : Type 0 where
  pub top : width_of new.top ≡ width_of old.top
  pub held : AreAsWide old.held.items new.held.items
  pub beside : AreAsWideBeside old.beside.items new.beside.items
