-- How many data records a seizure counts of an image that stands for a device: as many as blocks are mapped, under the premises on keys.
use Rattle.sdbt_base.specs.Keys.{bare, version_of}
use Rattle.std.proofs.Common.{◌≡◌, ◌==◌, ◌<◌, ◌+◌, true, false, Bool, if◌then◌else◌, ℕ, zero, suc, List, [], ◌∷◌, ◌++◌, Some, map, length, refl, sym, ◌∙◌, ap, subst, arith}
use Rattle.std.specs.Prelude.{◌≢◌, All, AllPairs, Contains, slice_get}
use Rattle.std.specs.List.{filter}
use Rattle.std.proofs.lemmas.Bool.{eqb-true}
use Rattle.std.proofs.lemmas.List.{map-append, get_or-map, length-map}
use Rattle.std.proofs.lemmas.List.Elements.{All-nil, All-cons, All-map, All-append, All-contains, filter-append, filter_passes}
use Rattle.std.proofs.lemmas.List.Kept.{AllPairs-filter}
use Rattle.platform.specs.Image.{Image}
use Rattle.seal_record.specs.Sealing.{masked}
use Rattle.node_codec.specs.declared.body.Entry.{Entry}
use Rattle.node_codec.specs.Record.{DataRecord, NodeRecord, record_bytes}
use Rattle.root_codec.specs.declared.root.Root.{Root}
use Rattle.sdbt_base.specs.Arrays.{Device}
use Rattle.sdbt_base.specs.Traces.{TraceEntry, DataOf, NodeOver}
use Rattle.key_graph.specs.Opening.{kind_of, block_of}
use Rattle.key_graph.specs.Chains.{Link, link, OpensAt, YieldsAt, ChainEnds, Reached, ReachedBody, KeyPremises}
use Rattle.key_graph.specs.Maps.{keys_of, IsClosed, AreListed}
use Rattle.key_graph.specs.OwnKeys.{HaveOwnKeys}
use Rattle.key_graph.proofs.ChainLaws.{contains_map, map_contains, one_page}
use Rattle.key_graph.proofs.SeizureLaws.{chains_found}
use Rattle.page_store.specs.declared.wants.Want.{Want}
use Rattle.page_store.specs.Places.{root_want, child_want}
use Rattle.page_store.specs.Tree.{Place, Mapped, Parts, joined, bound_of, EachChild, Subtree}
use Rattle.page_store.specs.Kept.{IsRootOf, Kept, links_of}
use Rattle.page_store.specs.Stands.{StandsBy}
use Rattle.page_store.proofs.TreeMaps.{tree_closed}
use Rattle.page_store.proofs.RecordYields.{masked_bare, data_kind, node_kind}
use Rattle.seizure.specs.Opened.{count_of_kind}
use Rattle.seizure.specs.Report.{Seized, IsSeizure}
use Rattle.seizure.proofs.CountLaws.{counted, kept_inside, inside_kept}

same_some : {A : Type 0} (x y : A) → Some x ≡ Some y → x ≡ y
same_some x y same = cc

-- ---- which kinds of records a tree has

-- the record that a trace tells of is a data record
abbrev is_data : TraceEntry → Bool
is_data (DataOf block) = true
is_data (NodeOver children) = false

-- the page at a place is, under the place's key, a data record exactly where its trace tells of one
record IsOfKind (pages : List (List ℕ)) (place : Place) : Type 0 where
  page : List ℕ
  there : slice_get pages place.addr ≡ Some page
  kind : (kind_of (masked (bare place.key) page) == 1) ≡ is_data place.trace

-- no node is of the kind of a data record
no_data_kind : (is_long : Bool) → ((if is_long then 2 else 1) + 1 == 1) ≡ false
no_data_kind true = refl
no_data_kind false = refl

data_is : (key page : List ℕ) (version addr block : ℕ) (content : List ℕ) → masked key page ≡ record_bytes version addr (DataRecord block content) → (kind_of (masked (bare key) page) == 1) ≡ true
data_is key page version addr block content spelled = ap (λ (body : List ℕ). kind_of body == 1) (masked_bare key page ∙ spelled) ∙ ap (λ (kind : ℕ). kind == 1) (data_kind version addr block content)

node_is : (key page : List ℕ) (addr level : ℕ) (entries : List Entry) → masked key page ≡ record_bytes (version_of key) addr (NodeRecord level entries) → (kind_of (masked (bare key) page) == 1) ≡ false
node_is key page addr level entries spelled =
    ap (λ (body : List ℕ). kind_of body == 1) (masked_bare key page ∙ spelled) ∙ ap (λ (kind : ℕ). kind == 1) (node_kind (version_of key) addr level entries) ∙ no_data_kind (length key == 64)

-- the places of data records among these
abbrev data_among : List Place → List Place
data_among places = filter (λ p. is_data p.trace) places

-- the place of a mapped block's data record
abbrev place_of : Mapped → Place
place_of m = record { addr = m.addr; key = m.key; trace = DataOf m.block }

-- each place is of its kind, and the data records are those of the mapped blocks, in order
record HasData (pages : List (List ℕ)) (parts : Parts) : Type 0 where
  kinds : All (IsOfKind pages) parts.places
  blocks : data_among parts.places ≡ map place_of parts.mapped

each_data : (pages : List (List ℕ)) (Below : Want → List ℕ → Parts → Type 0) (order level high : ℕ) (entries : List Entry) (children : List Parts)
    → ((want : Want) (key : List ℕ) (parts : Parts) → Below want key parts → HasData pages parts) → EachChild Below order level high entries children → HasData pages (joined children)
each_data pages Below order level high [] [] below each = record { kinds = All-nil (IsOfKind pages); blocks = refl }
each_data pages Below order level high [] (parts ∷ children) below each = absurd each
each_data pages Below order level high (entry ∷ entries) [] below each = absurd each
each_data pages Below order level high (entry ∷ entries) (parts ∷ children) below each =
    let first = below (child_want order level entry (bound_of entries high)) entry.key parts each.0 in
    let rest = each_data pages Below order level high entries children below each.1 in
    record {
      kinds = All-append (IsOfKind pages) parts.places (joined children).places first.kinds rest.kinds;
      blocks = filter-append (λ (p : Place). is_data p.trace) parts.places (joined children).places
          ∙ (λ i. first.blocks i ++ rest.blocks i)
          ∙ sym (map-append place_of parts.mapped (joined children).mapped);
    }

subtree_data : (pages : List (List ℕ)) (order level : ℕ) (want : Want) (key : List ℕ) (parts : Parts) → Subtree pages order level want key parts → HasData pages parts
unfolding Subtree
subtree_data pages order zero want key parts is =
    let fits = is.fits.0 in
    let here : Place = record { addr = want.addr; key = key; trace = DataOf want.low } in
    let kind : IsOfKind pages here = record { page = fits.page; there = fits.reads; kind = data_is key fits.page (version_of key) want.addr want.low is.content fits.spelled } in
    subst (HasData pages) (sym is.has) (record { kinds = All-cons (IsOfKind pages) here [] kind (All-nil (IsOfKind pages)); blocks = refl })
subtree_data pages order (suc level) want key parts is =
    let fits = is.fits.0 in
    let here : Place = record { addr = want.addr; key = key; trace = NodeOver (map (λ (e : Entry). e.addr) is.entries) } in
    let kind : IsOfKind pages here = record { page = fits.page; there = fits.reads; kind = node_is key fits.page want.addr (suc level) is.entries fits.spelled } in
    let below = each_data pages (Subtree pages order level) order level want.high is.entries is.children (subtree_data pages order level) is.each in
    subst (HasData pages) (sym is.has) (record { kinds = All-cons (IsOfKind pages) here (joined is.children).places kind below.kinds; blocks = below.blocks })

-- ---- where chains end

-- a key of the map opens no page but its own
in_links : (keys pages : List (List ℕ)) (links : List Link) (at : Link) → All (OpensAt pages) links → AreListed keys links → HaveOwnKeys keys pages → KeyPremises keys pages
    → Contains (keys_of links) at.key → OpensAt pages at → Contains links at
in_links keys pages links at each listed own premises has opens =
    let found = contains_map (λ (l : Link). l.key) links at.key has in
    let other : Link = found.0 in
    let there : OpensAt pages other = All-contains (OpensAt pages) links other each found.1 in
    let known : Contains keys at.key = subst (Contains keys) found.2 (All-contains (λ (l : Link). Contains keys l.key) links other listed found.1) in
    let opened : OpensAt pages (link other.addr at.key) = subst (λ (k : List ℕ). OpensAt pages (link other.addr k)) found.2 there in
    let same : other.addr ≡ at.addr = one_page keys pages other.addr at.addr at.key own premises.distinct premises.one_opener known opened opens in
    subst (Contains links) (let e : other ≡ at = λ i. record { addr = same i; key = found.2 i } in e) found.1

ends_in_links : (keys pages roots : List (List ℕ)) (links : List Link) (at : Link) → IsClosed pages roots links → AreListed keys links → HaveOwnKeys keys pages → KeyPremises keys pages
    → ChainEnds roots pages at → Contains links at
ends_in_links keys pages roots links at closed listed own premises ends =
    chains_found roots pages links at
    (λ next has opens. in_links keys pages links next closed.opens listed own premises (All-contains (Contains (keys_of links)) roots next.key closed.begins has) opens)
    (λ one next has yields opens. in_links keys pages links next closed.opens listed own premises
    (All-contains (λ (l : Link). (key : List ℕ) → YieldsAt pages l key → Contains (keys_of links) key) links one closed.yields has next.key yields) opens)
    ends

-- ---- bodies of data records

-- what is known of a tree and of keys
record IsKnown (keys pages roots : List (List ℕ)) (parts : Parts) : Type 0 where
  has : HasData pages parts
  apart : AllPairs (λ p q. p.addr ≢ q.addr) parts.places
  closed : IsClosed pages roots (links_of parts.places)
  listed : AreListed keys (links_of parts.places)
  own : HaveOwnKeys keys pages
  premises : KeyPremises keys pages

module _ (keys pages roots : List (List ℕ)) (parts : Parts) (known : IsKnown keys pages roots parts) where
  -- a chain ends at a place of the tree
  ends_inside : (at : Link) → ChainEnds roots pages at → Contains (links_of parts.places) at
  ends_inside at ends = ends_in_links keys pages roots (links_of parts.places) at known.closed known.listed known.own known.premises ends

  is_listed : (at : Link) → Contains (links_of parts.places) at → Contains keys at.key
  is_listed at has = All-contains (λ (l : Link). Contains keys l.key) (links_of parts.places) at known.listed has

  -- with the key of that place
  one_key : (addr : ℕ) (one other : List ℕ) → Contains (links_of parts.places) (link addr one) → Contains (links_of parts.places) (link addr other) → one ≡ other
  one_key addr one other first second =
      let opens : (at : Link) → Contains (links_of parts.places) at → OpensAt pages at = λ at. All-contains (OpensAt pages) (links_of parts.places) at known.closed.opens in
      known.premises.one_opener addr one other (is_listed (link addr one) first) (is_listed (link addr other) second) (opens (link addr one) first) (opens (link addr other) second)

  -- a body of kind 1 is that of a data record
  body_place : (addr block : ℕ) → ReachedBody roots pages addr 1 block → (place : Place) × Contains (data_among parts.places) place × (place.addr ≡ addr)
  body_place addr block body =
      let found = contains_map (λ (p : Place). link p.addr (bare p.key)) parts.places (link addr body.key) (ends_inside (link addr body.key) body.ends) in
      let place : Place = found.0 in
      let is : IsOfKind pages place = All-contains (IsOfKind pages) parts.places place known.has.kinds found.1 in
      let at : place.addr ≡ addr = ap (λ (l : Link). l.addr) found.2 in
      let key : bare place.key ≡ body.key = ap (λ (l : Link). l.key) found.2 in
      let page : is.page ≡ body.page = same_some _ _ (sym is.there ∙ ap (slice_get pages) at ∙ body.there) in
      let one : kind_of (masked (bare place.key) is.page) ≡ 1 = ap (λ (k : List ℕ). kind_of (masked k is.page)) key ∙ ap (λ (p : List ℕ). kind_of (masked body.key p)) page ∙ sym body.kind_is in
      let kind : is_data place.trace ≡ true = sym is.kind ∙ ap (λ (n : ℕ). n == 1) one in
      (place, inside_kept (λ (p : Place). is_data p.trace) parts.places place found.1 kind, at)

  -- the body of a data record is reached
  place_body : (place : Place) → Contains (data_among parts.places) place → (block : ℕ) × ReachedBody roots pages place.addr 1 block
  place_body place has =
      let test : Place → Bool = λ p. is_data p.trace in
      let inside : Contains parts.places place = kept_inside test parts.places place has in
      let linked : Contains (links_of parts.places) (link place.addr (bare place.key)) = map_contains (λ (p : Place). link p.addr (bare p.key)) parts.places place inside in
      let is : IsOfKind pages place = All-contains (IsOfKind pages) parts.places place known.has.kinds inside in
      let holds : is_data place.trace ≡ true = All-contains (λ (p : Place). test p ≡ true) (data_among parts.places) place (filter_passes test parts.places) has in
      let kind : kind_of (masked (bare place.key) is.page) ≡ 1 = eqb-true (kind_of (masked (bare place.key) is.page)) 1 (is.kind ∙ holds) in
      let reached = All-contains (λ (l : Link). Reached roots pages l.addr) (links_of parts.places) (link place.addr (bare place.key)) known.closed.reached linked in
      let key : reached.0 ≡ bare place.key = one_key place.addr reached.0 (bare place.key) (ends_inside (link place.addr reached.0) reached.1) linked in (
        block_of (masked (bare place.key) is.page),
        record {
          key = bare place.key;
          page = is.page;
          ends = subst (λ (k : List ℕ). ChainEnds roots pages (link place.addr k)) key reached.1;
          there = is.there;
          kind_is = sym kind;
          block_is = refl;
        },
      )

  -- one body of kind 1 at an address
  one_body : (addr one other : ℕ) → ReachedBody roots pages addr 1 one → ReachedBody roots pages addr 1 other → one ≡ other
  one_body addr one other a b =
      let key : a.key ≡ b.key = one_key addr a.key b.key (ends_inside (link addr a.key) a.ends) (ends_inside (link addr b.key) b.ends) in
      let page : a.page ≡ b.page = same_some _ _ (sym a.there ∙ b.there) in
      a.block_is ∙ (ap (λ (k : List ℕ). block_of (masked k a.page)) key ∙ ap (λ (p : List ℕ). block_of (masked b.key p)) page) ∙ sym b.block_is

addresses_apart : (places : List Place) → AllPairs (λ p q. p.addr ≢ q.addr) places → AllPairs (λ a b. a ≢ b) (map (λ p. p.addr) places)
addresses_apart places apart i j d below inside same =
    let none : Place = record { addr = 0; key = []; trace = DataOf 0 } in
    let within : j < length places = omega (arith, inside, length-map places (λ (p : Place). p.addr)) in
    apart i j none below within (sym (get_or-map (λ (p : Place). p.addr) places i none d (omega (arith, within, below))) ∙ same ∙ get_or-map (λ (p : Place). p.addr) places j none d within)

known_counted : (keys pages roots : List (List ℕ)) (parts : Parts) (seized : Seized) → IsKnown keys pages roots parts → IsSeizure roots pages seized → count_of_kind 1 seized.opened ≡ length parts.mapped
known_counted keys pages roots parts seized known is =
    let places : List Place = data_among parts.places in
    let apart = AllPairs-filter (λ p q. p.addr ≢ q.addr) (λ (p : Place). is_data p.trace) parts.places known.apart in
    counted roots pages seized 1 (map (λ (p : Place). p.addr) places) is (addresses_apart places apart)
    (λ addr. (
      λ has.
          let found = contains_map (λ (p : Place). p.addr) places addr has in
          subst (λ (a : ℕ). (block : ℕ) × ReachedBody roots pages a 1 block) found.2 (place_body keys pages roots parts known found.0 found.1),
      λ there.
          let place = body_place keys pages roots parts known addr there.0 there.1 in
          subst (Contains (map (λ (p : Place). p.addr) places)) place.2 (map_contains (λ (p : Place). p.addr) places place.0 place.1),
    ))
    (one_body keys pages roots parts known)
    ∙ length-map places (λ (p : Place). p.addr)
    ∙ ap (λ (ps : List Place). length ps) known.has.blocks
    ∙ length-map parts.mapped place_of

-- ---- an image that stands for a device

is_known : (keys : List (List ℕ)) (image : Image) (device : Device) (root : Root) (parts : Parts) → StandsBy image device root parts → Kept keys image → KeyPremises keys image.recorded
    → image.readable ≡ image.recorded → IsKnown keys image.readable (bare root.key ∷ []) parts
is_known keys image device root parts stands kept premises same =
    let is : IsRootOf image root = record { cell = stands.cell; in_range = stands.in_range; key = stands.key } in
    record {
      has = subtree_data image.readable root.order root.level (root_want root) root.key parts stands.tree;
      apart = stands.apart;
      closed = tree_closed image.readable root parts stands.tree;
      listed = All-map (λ (l : Link). Contains keys l.key) (λ (p : Place). link p.addr (bare p.key)) parts.places ((kept.cell root is).places parts stands.tree);
      own = subst (HaveOwnKeys keys) (sym same) kept.pages;
      premises = subst (KeyPremises keys) (sym same) premises;
    }

pub mapped_counted : (keys : List (List ℕ)) (image : Image) (device : Device) (root : Root) (parts : Parts) (seized : Seized) → StandsBy image device root parts → Kept keys image
    → KeyPremises keys image.recorded → image.readable ≡ image.recorded → IsSeizure (bare root.key ∷ []) image.readable seized → count_of_kind 1 seized.opened ≡ length parts.mapped
mapped_counted keys image device root parts seized stands kept premises same is =
    known_counted keys image.readable (bare root.key ∷ []) parts seized (is_known keys image device root parts stands kept premises same) is
