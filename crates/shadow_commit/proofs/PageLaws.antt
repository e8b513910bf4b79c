-- What pages that are added keep.
use Rattle.std.proofs.Common.{ℕ, zero, suc, List, [], ◌∷◌, ◌++◌}
use Rattle.node_codec.specs.declared.body.Entry.{Entry}
use Rattle.node_codec.specs.Record.{DataRecord, NodeRecord}
use Rattle.page_store.specs.declared.wants.Want.{Want}
use Rattle.page_store.specs.Places.{child_want}
use Rattle.page_store.specs.Tree.{Parts, Subtree, EachChild, bound_of}
use Rattle.page_store.proofs.RecordLaws.{record_stays}

abbrev Stays : List (List ℕ) → List (List ℕ) → ℕ → ℕ → Type 0
Stays pages more order level = (want : Want) (key : List ℕ) (parts : Parts) → Subtree pages order level want key parts → Subtree (pages ++ more) order level want key parts

each_stays : (pages more : List (List ℕ)) (order level high : ℕ) (entries : List Entry) (children : List Parts) → Stays pages more order level →
    EachChild (Subtree pages order level) order level high entries children → EachChild (Subtree (pages ++ more) order level) order level high entries children
each_stays pages more order level high [] [] stays each = tt
each_stays pages more order level high [] (p ∷ ps) stays each = absurd each
each_stays pages more order level high (e ∷ es) [] stays each = absurd each
each_stays pages more order level high (e ∷ es) (p ∷ ps) stays each = (stays (child_want order level e (bound_of es high)) e.key p each.0, each_stays pages more order level high es ps stays each.1)

-- pages that are added keep what is below a place
pub subtree_stays : (pages more : List (List ℕ)) (order level : ℕ) (want : Want) (key : List ℕ) (parts : Parts) → Subtree pages order level want key parts → Subtree (pages ++ more) order level want key parts
unfolding Subtree
subtree_stays pages more order zero want key parts is = record {
  content = is.content;
  fits = (record_stays pages more want.addr key (DataRecord want.low is.content) is.fits.0, is.fits.1);
  has = is.has;
}
subtree_stays pages more order (suc level) want key parts is = record {
  entries = is.entries;
  children = is.children;
  fits = (record_stays pages more want.addr key (NodeRecord (suc level) is.entries) is.fits.0, is.fits.1);
  each = each_stays pages more order level want.high is.entries is.children (subtree_stays pages more order level) is.each;
  has = is.has;
}
