-- The children that a node's entries are.
use Rattle.std.specs.Prelude.{List, map}
use Rattle.node_codec.specs.declared.body.Entry.{Entry}
use Rattle.btree_twigs.specs.declared.twigs.Child.{Child}
use Rattle.btree_twigs.specs.declared.twigs.Child.TheVariants.{Kept}

abbrev pub kept_of : Entry → Child
kept_of e = Kept e.low e.addr e.key

-- each entry as a child on the medium
abbrev pub all_kept : List Entry → List Child
all_kept entries = map kept_of entries
