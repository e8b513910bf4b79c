-- Where an upgrade of a root record stops, it stops over more pages too: each page of its tree lies below the root node's.
use Rattle.std.proofs.Common.{◌≡◌, ◌<◌, ℕ, zero, suc, List, [], ◌∷◌, All, inl, inr, length, take, refl, sym, subst, arith}
use Rattle.std.specs.Prelude.{slice_get}
use Rattle.std.proofs.lemmas.List.Elements.{All-cons, All-head, All-nil, All-tail, All-weaker}
use Rattle.platform.specs.Image.{Image, IsEarlier}
use Rattle.node_codec.specs.declared.body.Entry.{Entry}
use Rattle.node_codec.specs.Record.{Record, DataRecord, NodeRecord}
use Rattle.root_codec.specs.declared.root.Root.{Root}
use Rattle.root_codec.specs.RootRecord.{FitsRoot}
use Rattle.page_store.specs.declared.wants.Want.{Want}
use Rattle.page_store.specs.Places.{FitsAt, NothingFits, root_want, child_want, block_want}
use Rattle.page_store.specs.Tree.{bound_of}
use Rattle.page_store.proofs.ApartLaws.{all_left, all_right}
use Rattle.page_store.proofs.RecordLaws.{record_kept}
use Rattle.btree_walk.specs.Mapped.{IsListedWithin}
use Rattle.btree_walk.specs.Nodes.{Node, Nodes, NodesOf, FirstWrong, Joined, branches, listed}
use Rattle.btree_walk.proofs.OrderLaws.{root_within}
use Rattle.tree_build.specs.Nodes.{AreData}
use Rattle.device_core.specs.Copying.{StopsAt}
use Rattle.device_core.specs.Upgrading.{IsDamaged}

-- the pages below this address read alike
abbrev ReadAlike : ℕ → List (List ℕ) → List (List ℕ) → Type 0
ReadAlike bound pages others = (addr : ℕ) → addr < bound → slice_get others addr ≡ slice_get pages addr

flipped : (bound : ℕ) (pages others : List (List ℕ)) → ReadAlike bound pages others → ReadAlike bound others pages
flipped bound pages others alike addr less = sym (alike addr less)

front_alike : (n : ℕ) (pages : List (List ℕ)) → ReadAlike n (take n pages) pages
front_alike zero pages addr less = absurd (omega (arith, less))
front_alike (suc n) [] addr less = refl
front_alike (suc n) (page ∷ pages) zero less = refl
front_alike (suc n) (page ∷ pages) (suc addr) less = front_alike n pages addr (omega (arith, less))

later_alike : (image later : Image) → IsEarlier image later → ReadAlike (length image.recorded) image.readable later.readable
later_alike image later earlier =
    subst (λ (pages : List (List ℕ)). ReadAlike (length image.recorded) pages later.readable) earlier.readable (front_alike (length image.recorded) later.readable)

-- ---- a place

fits_alike : (bound : ℕ) (pages others : List (List ℕ)) (want : Want) (key : List ℕ) (value : Record) → ReadAlike bound pages others → want.addr < bound → FitsAt pages want key value → FitsAt others want key value
fits_alike bound pages others want key value alike less fits = (record_kept pages others want.addr key value (alike want.addr less) fits.0, fits.1)

nothing_alike : (bound : ℕ) (pages others : List (List ℕ)) (want : Want) (key : List ℕ) → ReadAlike bound pages others → want.addr < bound → NothingFits pages want key → NothingFits others want key
nothing_alike bound pages others want key alike less nothing value fits = nothing value (fits_alike bound others pages want key value (flipped bound pages others alike) less fits)

-- the children of a node lie below it
below_node : (bound : ℕ) (pages : List (List ℕ)) (want : Want) (key : List ℕ) (level : ℕ) (entries : List Entry) → want.addr < bound → FitsAt pages want key (NodeRecord level entries) → All (λ e. e.addr < bound) entries
below_node bound pages want key level entries less fits =
    All-weaker (λ (e : Entry). e.addr < want.addr) (λ (e : Entry). e.addr < bound) (λ e below. omega (arith, below, less)) entries fits.0.in_range.0.below

-- ---- the nodes

-- what is wanted below an entry: its type has no name outside of its crate
abbrev item_of : {X : Type 0} → List X → Type 0
item_of {X = X} xs = X

abbrev Branch : Type 0
Branch = item_of (branches zero zero zero [])

abbrev IsUnder : ℕ → Branch → Type 0
IsUnder bound branch = branch.want.addr < bound

branches_under : (bound order level high : ℕ) (entries : List Entry) → All (λ e. e.addr < bound) entries → All (IsUnder bound) (branches order level high entries)
branches_under bound order level high [] below = All-nil (IsUnder bound)
branches_under bound order level high (entry ∷ entries) below =
    All-cons (IsUnder bound) (record { want = child_want order level entry (bound_of entries high); key = entry.key }) (branches order level high entries)
    (All-head (λ (e : Entry). e.addr < bound) entry entries below) (branches_under bound order level high entries (All-tail (λ (e : Entry). e.addr < bound) entry entries below))

joined_alike : (Below Other : Branch → List Node → Type 0) (bound : ℕ) (bs : List Branch) (nodes : List Node) → ((b : Branch) (ns : List Node) → IsUnder bound b → Below b ns → Other b ns) → All (IsUnder bound) bs → Joined Below bs nodes → Joined Other bs nodes
joined_alike Below Other bound [] nodes each under is = is
joined_alike Below Other bound (b ∷ bs) nodes each under is = record {
  first = is.first;
  rest = is.rest;
  one = each b is.first (All-head (IsUnder bound) b bs under) is.one;
  others = joined_alike Below Other bound bs is.rest each (All-tail (IsUnder bound) b bs under) is.others;
  is = is.is;
}

nodes_alike : (bound : ℕ) (pages others : List (List ℕ)) (order level : ℕ) (want : Want) (key : List ℕ) (nodes : List Node) → ReadAlike bound pages others → want.addr < bound → Nodes pages order level want key nodes → Nodes others order level want key nodes
unfolding Nodes
nodes_alike bound pages others order zero want key nodes alike less is = is
nodes_alike bound pages others order (suc level) want key nodes alike less is = record {
  entries = is.entries;
  fits = fits_alike bound pages others want key (NodeRecord (suc level) is.entries) alike less is.fits;
  below = is.below;
  each = joined_alike (λ b. Nodes pages order level b.want b.key) (λ b. Nodes others order level b.want b.key) bound (branches order level want.high is.entries) is.below (λ b ns under. nodes_alike bound pages others order level b.want b.key ns alike under)
      (branches_under bound order level want.high is.entries (below_node bound pages want key (suc level) is.entries less is.fits)) is.each;
  is = is.is;
}

-- the first one that doesn't fit
first_alike : (bound : ℕ) (pages others : List (List ℕ)) (addr order level : ℕ) (want : Want) (key : List ℕ) → ReadAlike bound pages others → want.addr < bound → FirstWrong pages addr order level want key → FirstWrong others addr order level want key
unfolding FirstWrong
first_alike bound pages others addr order zero want key alike less wrong = absurd wrong
first_alike bound pages others addr order (suc level) want key alike less (inl misfit) = inl (record { here = misfit.here; nothing = nothing_alike bound pages others want key alike less misfit.nothing })
first_alike bound pages others addr order (suc level) want key alike less (inr later) =
    let under = branches_under bound order level want.high later.entries (below_node bound pages want key (suc level) later.entries less later.fits) in
    let under' = subst (All (IsUnder bound)) later.split under in
    inr (record {
      entries = later.entries;
      fits = fits_alike bound pages others want key (NodeRecord (suc level) later.entries) alike less later.fits;
      before = later.before;
      branch = later.branch;
      after = later.after;
      split = later.split;
      met = later.met;
      each = joined_alike (λ b. Nodes pages order level b.want b.key) (λ b. Nodes others order level b.want b.key) bound later.before later.met (λ b ns below. nodes_alike bound pages others order level b.want b.key ns alike below)
          (all_left (IsUnder bound) later.before (later.branch ∷ later.after) under') later.each;
      stops = first_alike bound pages others addr order level later.branch.want later.branch.key alike
          (All-head (IsUnder bound) later.branch later.after (all_right (IsUnder bound) later.before (later.branch ∷ later.after) under')) later.stops;
    })

-- ---- the data records

data_alike : (bound : ℕ) (pages others : List (List ℕ)) (entries : List Entry) (contents : List (List ℕ)) → ReadAlike bound pages others → All (λ e. e.addr < bound) entries → AreData pages entries contents → AreData others entries contents
data_alike bound pages others [] [] alike below are = tt
data_alike bound pages others [] (content ∷ contents) alike below are = absurd are
data_alike bound pages others (entry ∷ entries) [] alike below are = absurd are
data_alike bound pages others (entry ∷ entries) (content ∷ contents) alike below are = (
  record_kept pages others entry.addr entry.key (DataRecord entry.low content) (alike entry.addr (All-head (λ (e : Entry). e.addr < bound) entry entries below)) are.0,
  data_alike bound pages others entries contents alike (All-tail (λ (e : Entry). e.addr < bound) entry entries below) are.1,
)

stops_alike : (bound : ℕ) (pages others : List (List ℕ)) (addr : ℕ) (entries : List Entry) → ReadAlike bound pages others → All (λ e. e.addr < bound) entries → StopsAt pages addr entries → StopsAt others addr entries
stops_alike bound pages others addr entries alike below stops =
    let split = subst (All (λ (e : Entry). e.addr < bound)) stops.split below in
    record {
      before = stops.before;
      entry = stops.entry;
      after = stops.after;
      split = stops.split;
      contents = stops.contents;
      read = data_alike bound pages others stops.before stops.contents alike (all_left (λ (e : Entry). e.addr < bound) stops.before (stops.entry ∷ stops.after) split) stops.read;
      here = stops.here;
      nothing = nothing_alike bound pages others (block_want stops.entry.addr stops.entry.low) stops.entry.key alike
          (All-head (λ (e : Entry). e.addr < bound) stops.entry stops.after (all_right (λ (e : Entry). e.addr < bound) stops.before (stops.entry ∷ stops.after) split)) stops.nothing;
    }

-- ---- of an image and a later one

pub nodes_later : (image later : Image) (root : Root) (nodes : List Node) → IsEarlier image later → root.addr < length image.recorded → NodesOf image.readable root nodes → NodesOf later.readable root nodes
nodes_later image later root nodes earlier less are =
    nodes_alike (length image.recorded) image.readable later.readable root.order root.level (root_want root) root.key nodes (later_alike image later earlier) less are

pub damaged_later : (image later : Image) (root : Root) (addr : ℕ) → FitsRoot root → IsEarlier image later → root.addr < length image.recorded → IsDamaged image.readable root addr → IsDamaged later.readable root addr
damaged_later image later root addr fits earlier less damaged =
    let bound = length image.recorded in
    let pages = image.readable in
    let others = later.readable in
    let alike : ReadAlike bound pages others = later_alike image later earlier in
    elim damaged [
      | inl (inl first) ↦ inl (inl (first_alike bound pages others addr root.order root.level (root_want root) root.key alike less first))
      | inl (inr node) ↦ inl (inr (node.0, record { nodes = node.1.nodes; are = nodes_later image later root node.1.nodes earlier less node.1.are; another = node.1.another }))
      | inr copying ↦
          let within = root_within pages root copying.nodes fits copying.are in
          inr (record {
            nodes = copying.nodes;
            are = nodes_later image later root copying.nodes earlier less copying.are;
            many = copying.many;
            stops = stops_alike bound pages others addr (listed copying.nodes) alike
                (All-weaker (IsListedWithin 0 root.blocks root.addr) (λ (e : Entry). e.addr < bound) (λ e is. omega (arith, is.under, less)) (listed copying.nodes) within) copying.stops;
          })
    ]
