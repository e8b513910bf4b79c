-- What stands below the places on the medium of a tree that is partly in memory.
use Rattle.std.specs.Prelude.{ℕ, List}
use Rattle.std.specs.List.{AllZip}
use Rattle.page_store.specs.Tree.{Parts, Subtree}
use Rattle.btree_twigs.specs.Stubs.{Stub}
use Rattle.btree_update.specs.declared.groves.Grove.{Grove}
use Rattle.btree_update.specs.GroveTree.{want_in}
use Rattle.btree_update.specs.Groves.{places_of}

-- at each of these places there is what is wanted, and it has these parts
abbrev pub HaveParts : List (List ℕ) → ℕ → ℕ → List Stub → List Parts → Type 0
HaveParts pages order top = AllZip (λ s p. Subtree pages order s.level (want_in order top s) s.key p)

-- below a grove's places there are these parts; a node in memory is no place, since it has no address yet
abbrev pub GroveHas : List (List ℕ) → Grove → List Parts → Type 0
GroveHas pages grove = HaveParts pages grove.order grove.level (places_of grove)
