-- The first broken rule, and the value of its refusal.
use Rattle.std.specs.Prelude.{◌≡◌, ◌<◌, ◌≤◌, ◌-◌, ◌⊎◌, ℕ, List, [], ◌∷◌, map, Option, None, Some, Contains, slice_get}
use Rattle.root_codec.specs.declared.root.Root.{Root}
use Rattle.key_graph.specs.Trace.{Entries, Has, IsChild}
use Rattle.sdbt_base.specs.Traces.{NodeOver}
use Rattle.cert_maker.specs.Cert.{Cert}
use Rattle.cert_checker.specs.Rules.{after, added_by, Counts, Continues, IsBetween, IsFresh, WasLive, GoesFromTheTop, IsHandedOver, TakesOver, TakesOnce, IsTaken, HangsTogether, LeavesNone, Keeps}
use Rattle.cert_checker.specs.Chain.{EachKeeps, nothing, EndsAt}

-- ---- first and least

-- the first item of a list that is bad at its place
pub record IsFirst (Bad : ℕ → ℕ → Type 0) (items : List ℕ) (item : ℕ) : Type 0 where
  pub place : ℕ
  pub here : slice_get items place ≡ Some item
  pub bad : Bad place item
  pub before : (k other : ℕ) → k < place → slice_get items k ≡ Some other → Bad k other → ⊥

-- the least bad number
pub record IsLeast (Bad : ℕ → Type 0) (number : ℕ) : Type 0 where
  pub bad : Bad number
  pub least : (other : ℕ) → Bad other → number ≤ other

-- an address stands at a place among the children of a node
pub record IsChildAt (entries : Entries) (parent place child : ℕ) : Type 0 where
  pub children : List ℕ
  pub node : entries parent ≡ Some (NodeOver children)
  pub at : slice_get children place ≡ Some child

-- a place among the children of a node is before another one: nodes go by their addresses
abbrev pub IsBefore : ℕ → ℕ → ℕ → ℕ → Type 0
IsBefore parent place other_parent other_place = (parent < other_parent) ⊎ ((parent ≡ other_parent) × (place < other_place))

-- the first child that is bad at its place, in the order of the nodes and of their children
pub record IsFirstChild (entries : Entries) (Bad : ℕ → ℕ → ℕ → Type 0) (child : ℕ) : Type 0 where
  pub parent : ℕ
  pub place : ℕ
  pub here : IsChildAt entries parent place child
  pub bad : Bad parent place child
  pub before : (p k other : ℕ) → IsBefore p k parent place → IsChildAt entries p k other → Bad p k other → ⊥

-- ---- the value of each rule's refusal

-- at a place of a list stands an address that isn't above the one before it
pub record IsNotAbove (addrs : List ℕ) (place addr : ℕ) : Type 0 where
  pub later : 1 ≤ place
  pub former : ℕ
  pub at : slice_get addrs (place - 1) ≡ Some former
  pub not_above : addr ≤ former

abbrev pub added_addrs : Cert → List ℕ
added_addrs cert = map (λ traced. traced.addr) cert.added

abbrev pub never_addrs : Cert → List ℕ
never_addrs cert = map (λ page. page.addr) cert.never

-- the address isn't above the one before it, or isn't from base to below head
abbrev pub IsMisplaced : Cert → List ℕ → ℕ → ℕ → Type 0
IsMisplaced cert addrs place addr = IsNotAbove addrs place addr ⊎ (IsBetween cert addr → ⊥)

-- the first address, added before never, that breaks rule 3
abbrev pub BreaksFresh : Cert → ℕ → Type 0
BreaksFresh cert value =
    IsFirst (IsMisplaced cert (added_addrs cert)) (added_addrs cert) value
    ⊎ (((place addr : ℕ) → slice_get (added_addrs cert) place ≡ Some addr → IsMisplaced cert (added_addrs cert) place addr → ⊥)
    × IsFirst (λ place addr. IsMisplaced cert (never_addrs cert) place addr ⊎ Has (added_by cert) addr) (never_addrs cert) value)

-- the first gone address that isn't above the one before it, or isn't live
abbrev pub BreaksLive : Entries → Cert → ℕ → Type 0
BreaksLive live cert value = IsFirst (λ place addr. IsNotAbove cert.gone place addr ⊎ (live addr ≡ None)) cert.gone value

-- a gone address whose parent isn't gone
pub record IsTorn (live : Entries) (cert : Cert) (addr : ℕ) : Type 0 where
  pub gone : Contains cert.gone addr
  pub parent : ℕ
  pub child : IsChild live parent addr
  pub stays : Contains cert.gone parent → ⊥

-- the former root where it isn't gone, else the least gone address whose parent isn't gone
abbrev pub BreaksTop : Entries → Option Cert → Cert → ℕ → Type 0
BreaksTop live None cert value = IsLeast (IsTorn live cert) value
BreaksTop live (Some former) cert value =
    ((value ≡ former.root) × (Contains cert.gone former.root → ⊥)) ⊎ (Contains cert.gone former.root × IsLeast (IsTorn live cert) value)

-- the first child of an added node that isn't below it, or is neither added nor handed over
abbrev pub BreaksTakeover : Entries → Cert → ℕ → Type 0
BreaksTakeover live cert value =
    IsFirstChild (added_by cert) (λ parent place child. (child < parent) × (Has (added_by cert) child ⊎ IsHandedOver live cert child) → ⊥) value

-- an address was met as a child before
pub record IsMetAgain (entries : Entries) (parent place child : ℕ) : Type 0 where
  pub other : ℕ
  pub other_place : ℕ
  pub before : IsBefore other other_place parent place
  pub same : IsChildAt entries other other_place child

-- the first child met for the second time
abbrev pub BreaksOnce : Cert → ℕ → Type 0
BreaksOnce cert value = IsFirstChild (added_by cert) (IsMetAgain (added_by cert)) value

-- an added address other than the root that is no child of an added node
pub record IsLoose (cert : Cert) (addr : ℕ) : Type 0 where
  pub added : Has (added_by cert) addr
  pub other : addr ≡ cert.root → ⊥
  pub loose : IsTaken cert addr → ⊥

-- the root where it isn't added, else the least added address that is no child
abbrev pub BreaksTogether : Cert → ℕ → Type 0
BreaksTogether cert value =
    ((value ≡ cert.root) × (Has (added_by cert) cert.root → ⊥)) ⊎ (Has (added_by cert) cert.root × IsLeast (IsLoose cert) value)

-- a child of a gone node that is neither gone nor a child of an added node
pub record IsDropped (live : Entries) (cert : Cert) (addr : ℕ) : Type 0 where
  pub parent : ℕ
  pub gone : Contains cert.gone parent
  pub child : IsChild live parent addr
  pub stays : Contains cert.gone addr → ⊥
  pub loose : IsTaken cert addr → ⊥

-- ---- the first broken rule

-- the rule of this number is broken with this value; or it is kept, and a later one is the first broken
abbrev pub OrLater : ℕ → Type 0 → (ℕ → Type 0) → (ℕ → ℕ → Type 0) → ℕ → ℕ → Type 0
OrLater rule Kept Breaks Later number value = ((number ≡ rule) × Breaks value) ⊎ (Kept × Later number value)

-- of the rules on what the certificate makes of the tree, the first that is broken, and the value
abbrev pub BreaksTree : Entries → Option Cert → Cert → ℕ → ℕ → Type 0
BreaksTree live former cert =
    OrLater 5 (GoesFromTheTop live former cert) (BreaksTop live former cert)
    (OrLater 6 (TakesOver live cert) (BreaksTakeover live cert)
    (OrLater 7 (TakesOnce cert) (BreaksOnce cert)
    (OrLater 8 (HangsTogether cert) (BreaksTogether cert)
    (OrLater 9 (LeavesNone live cert) (IsLeast (IsDropped live cert)) (λ number value. ⊥)))))

-- the first rule that a certificate breaks, and the value
abbrev pub Breaks : Entries → Option Cert → Cert → ℕ → ℕ → Type 0
Breaks live former cert =
    OrLater 1 (Counts former cert) (λ value. (value ≡ cert.commit) × (¬ (Counts former cert)))
    (OrLater 2 (Continues former cert) (λ value. (value ≡ cert.base) × (¬ (Continues former cert)))
    (OrLater 3 (IsFresh cert) (BreaksFresh cert)
    (OrLater 4 (WasLive live cert) (BreaksLive live cert) (BreaksTree live former cert))))

-- the first rule that one of the certificates breaks, after those before it keep all
abbrev pub FirstBroken : Entries → Option Cert → List Cert → ℕ → ℕ → Type 0
FirstBroken live former [] number value = ⊥
FirstBroken live former (cert ∷ others) number value =
    Breaks live former cert number value ⊎ (Keeps live former cert × FirstBroken (after live cert) (Some cert) others number value)

-- the first broken rule of a chain, with its value: of a certificate, or at the end rule 10
abbrev pub First : List Cert → Root → ℕ → ℕ → Type 0
First chain root number value =
    FirstBroken nothing None chain number value
    ⊎ (EachKeeps nothing None chain × (EndsAt chain root → ⊥) × (number ≡ 10) × (value ≡ root.commit))
