-- What the places of a tree say of their addresses.
use Rattle.std.specs.Prelude.{List, map}
use Rattle.key_graph.specs.Trace.{Entries, entry_in}
use Rattle.page_store.specs.Tree.{Place}

abbrev pub entries_of : List Place → Entries
entries_of places = entry_in (map (λ place. record { addr = place.addr; trace = place.trace }) places)
