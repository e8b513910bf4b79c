-- A tree gives a map from addresses to keys that opening does not lead out of.
use Rattle.std.proofs.Common.{◌≡◌, ℕ, zero, suc, List, [], ◌∷◌, map, sym, ◌∙◌, subst}
use Rattle.std.specs.Prelude.{All, Some, Contains}
use Rattle.std.proofs.lemmas.List.{map-append}
use Rattle.std.proofs.lemmas.List.Elements.{All-nil}
use Rattle.sdbt_base.specs.Keys.{bare, version_of}
use Rattle.node_codec.specs.declared.body.Entry.{Entry}
use Rattle.node_codec.specs.Record.{Record, DataRecord, NodeRecord}
use Rattle.root_codec.specs.declared.root.Root.{Root}
use Rattle.page_store.specs.declared.wants.Want.{Want}
use Rattle.page_store.specs.Places.{IsRecordAt, root_want, child_want}
use Rattle.page_store.specs.Tree.{Place, Parts, joined, bound_of, EachChild, Subtree, Tree}
use Rattle.key_graph.specs.Opening.{Yields}
use Rattle.key_graph.specs.Chains.{Link, link, OpensAt, YieldsAt, Reached}
use Rattle.key_graph.specs.Maps.{keys_of, IsClosed}
use Rattle.key_graph.proofs.ChainLaws.{joined_maps, map_below}
use Rattle.page_store.specs.Kept.{links_of}
use Rattle.page_store.proofs.RecordYields.{masked_bare, opens_record, data_yields, node_yields, yields_node}

same_some : {A : Type 0} (x y : A) → Some x ≡ Some y → x ≡ y
same_some x y same = cc

-- ---- one record

record_opens : (pages : List (List ℕ)) (addr : ℕ) (key : List ℕ) (value : Record) → IsRecordAt pages addr key value → OpensAt pages (link addr (bare key))
record_opens pages addr key value is = record { page = is.page; there = is.reads; opens = opens_record (bare key) is.page (version_of key) addr value (masked_bare key is.page ∙ is.spelled) }

yields_there : (pages : List (List ℕ)) (addr : ℕ) (key other : List ℕ) (value : Record) (is : IsRecordAt pages addr key value) → YieldsAt pages (link addr (bare key)) other → Yields (bare key) is.page other
yields_there pages addr key other value is yields = subst (λ (p : List ℕ). Yields (bare key) p other) (same_some _ _ (sym yields.there ∙ is.reads)) yields.yields

data_only : (pages : List (List ℕ)) (addr : ℕ) (key other : List ℕ) (block : ℕ) (content : List ℕ) → IsRecordAt pages addr key (DataRecord block content) → YieldsAt pages (link addr (bare key)) other → Contains [] other
data_only pages addr key other block content is yields = absurd (data_yields (bare key) is.page other (version_of key) addr block content (masked_bare key is.page ∙ is.spelled) (yields_there pages addr key other (DataRecord block content) is yields))

node_only : (pages : List (List ℕ)) (addr : ℕ) (key other : List ℕ) (level : ℕ) (entries : List Entry) → IsRecordAt pages addr key (NodeRecord level entries) → YieldsAt pages (link addr (bare key)) other → Contains (map (λ e. bare e.key) entries) other
node_only pages addr key other level entries is yields = node_yields (bare key) is.page other (version_of key) addr level entries is.in_range (masked_bare key is.page ∙ is.spelled) (yields_there pages addr key other (NodeRecord level entries) is yields)

node_all : (pages : List (List ℕ)) (addr : ℕ) (key : List ℕ) (level : ℕ) (entries : List Entry) → IsRecordAt pages addr key (NodeRecord level entries) → All (YieldsAt pages (link addr (bare key))) (map (λ e. bare e.key) entries)
node_all pages addr key level entries is =
    let spelled = masked_bare key is.page ∙ is.spelled in
    let all = yields_node (bare key) is.page (version_of key) addr level entries is.in_range spelled in
    λ k d inside. record { page = is.page; there = is.reads; opens = opens_record (bare key) is.page (version_of key) addr (NodeRecord level entries) spelled; yields = all k d inside }

-- ---- trees

no_map : (pages : List (List ℕ)) → IsClosed pages [] []
no_map pages = record {
  opens = All-nil (OpensAt pages);
  yields = All-nil (λ (l : Link). (key : List ℕ) → YieldsAt pages l key → Contains (keys_of []) key);
  begins = All-nil (Contains (keys_of []));
  reached = All-nil (λ (l : Link). Reached [] pages l.addr);
}

each_closed : (pages : List (List ℕ)) (Below : Want → List ℕ → Parts → Type 0) (order level high : ℕ) (entries : List Entry) (children : List Parts) → ((want : Want) (key : List ℕ) (parts : Parts) → Below want key parts → IsClosed pages (bare key ∷ []) (links_of parts.places)) → EachChild Below order level high entries children → IsClosed pages (map (λ e. bare e.key) entries) (links_of (joined children).places)
each_closed pages Below order level high [] [] below each = no_map pages
each_closed pages Below order level high [] (parts ∷ children) below each = absurd each
each_closed pages Below order level high (entry ∷ entries) [] below each = absurd each
each_closed pages Below order level high (entry ∷ entries) (parts ∷ children) below each =
    let first = below (child_want order level entry (bound_of entries high)) entry.key parts each.0 in
    let rest = each_closed pages Below order level high entries children below each.1 in
    subst (IsClosed pages (bare entry.key ∷ map (λ (e : Entry). bare e.key) entries)) (sym (map-append (λ (p : Place). link p.addr (bare p.key)) parts.places (joined children).places))
    (joined_maps pages (bare entry.key ∷ []) (map (λ (e : Entry). bare e.key) entries) (links_of parts.places) (links_of (joined children).places) first rest)

subtree_closed : (pages : List (List ℕ)) (order level : ℕ) (want : Want) (key : List ℕ) (parts : Parts) → Subtree pages order level want key parts → IsClosed pages (bare key ∷ []) (links_of parts.places)
unfolding Subtree
subtree_closed pages order zero want key parts is =
    let opens = record_opens pages want.addr key (DataRecord want.low is.content) is.fits.0 in
    subst (λ (p : Parts). IsClosed pages (bare key ∷ []) (links_of p.places)) (sym is.has)
    (map_below pages [] [] (link want.addr (bare key)) (no_map pages) opens (All-nil (YieldsAt pages (link want.addr (bare key)))) (λ other yields. data_only pages want.addr key other want.low is.content is.fits.0 yields))
subtree_closed pages order (suc level) want key parts is =
    let opens = record_opens pages want.addr key (NodeRecord (suc level) is.entries) is.fits.0 in
    let below = each_closed pages (Subtree pages order level) order level want.high is.entries is.children (subtree_closed pages order level) is.each in
    subst (λ (p : Parts). IsClosed pages (bare key ∷ []) (links_of p.places)) (sym is.has)
    (map_below pages (map (λ (e : Entry). bare e.key) is.entries) (links_of (joined is.children).places) (link want.addr (bare key)) below opens
    (node_all pages want.addr key (suc level) is.entries is.fits.0)
    (λ other yields. node_only pages want.addr key other (suc level) is.entries is.fits.0 yields))

-- a tree of any number of levels
pub tree_closed : (pages : List (List ℕ)) (root : Root) (parts : Parts) → Tree pages root parts → IsClosed pages (bare root.key ∷ []) (links_of parts.places)
tree_closed pages root parts is = subtree_closed pages root.order root.level (root_want root) root.key parts is
