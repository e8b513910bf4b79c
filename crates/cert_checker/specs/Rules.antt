-- The rules that a certificate keeps, over what is live before it and the certificate before it.
use Rattle.std.specs.Prelude.{◌≡◌, ◌≢◌, ◌<◌, ◌≤◌, ◌+◌, ◌⊎◌, ◌==◌, if◌then◌else◌, Bool, ℕ, List, Option, None, Some, IfSome, Contains, AllPairs}
use Rattle.std.specs.List.{list_any}
use Rattle.sdbt_base.specs.declared.lists.Unkept.{Unkept}
use Rattle.key_graph.specs.Trace.{Entries, Has, IsChild, entry_in}
use Rattle.sdbt_base.specs.Traces.{TraceEntry, NodeOver}
use Rattle.cert_maker.specs.Cert.{Cert}

-- whether an address is listed
abbrev pub is_listed : List ℕ → ℕ → Bool
is_listed addrs addr = list_any (λ listed. listed == addr) addrs

-- what is said first, or else what is said second
abbrev pub or_else : Option TraceEntry → Option TraceEntry → Option TraceEntry
or_else (Some trace) second = Some trace
or_else None second = second

-- what is live after a certificate: the former less gone, together with added
unfoldable pub after : Entries → Cert → Entries
after live cert addr = or_else (entry_in cert.added addr) (if is_listed cert.gone addr then None else live addr)

-- what the certificate adds
abbrev pub added_by : Cert → Entries
added_by cert = entry_in cert.added

-- 1: the first number is 0, and each next is one higher
abbrev pub Counts : Option Cert → Cert → Type 0
Counts None cert = cert.commit ≡ 0
Counts (Some former) cert = cert.commit ≡ former.commit + 1

-- 2: the base is the former certificate's head (free for the first), and head is not below base
abbrev pub Continues : Option Cert → Cert → Type 0
Continues former cert = IfSome former (λ f. cert.base ≡ f.head) × (cert.base ≤ cert.head)

-- from base to below head
abbrev pub IsBetween : Cert → ℕ → Type 0
IsBetween cert addr = (cert.base ≤ addr) × (addr < cert.head)

-- 3: added and never ascend strictly by address, lie from base to below head, and share no address
pub record IsFresh (cert : Cert) : Type 0 where
  pub added_ascend : AllPairs (λ one next. one.addr < next.addr) cert.added
  pub never_ascend : AllPairs (λ one next. one.addr < next.addr) cert.never
  pub added : (addr : ℕ) → Has (added_by cert) addr → IsBetween cert addr
  pub never : (page : Unkept) → Contains cert.never page → IsBetween cert page.addr
  pub apart : (page : Unkept) → Contains cert.never page → added_by cert page.addr ≡ None

-- 4: gone ascends strictly, and every address in it is live
pub record WasLive (live : Entries) (cert : Cert) : Type 0 where
  pub gone_ascend : AllPairs (λ one next. one < next) cert.gone
  pub live_before : (addr : ℕ) → Contains cert.gone addr → Has live addr

-- 5: the former root, if there is one, is gone, and the parent of every other gone address is gone
pub record GoesFromTheTop (live : Entries) (former : Option Cert) (cert : Cert) : Type 0 where
  pub root : IfSome former (λ f. Contains cert.gone f.root)
  pub parents : (parent child : ℕ) → IsChild live parent child → Contains cert.gone child → Contains cert.gone parent

-- a live address that stays, and whose parent goes
pub record IsHandedOver (live : Entries) (cert : Cert) (addr : ℕ) : Type 0 where
  pub live_before : Has live addr
  pub stays : Contains cert.gone addr → ⊥
  pub parent : ℕ
  pub child : IsChild live parent addr
  pub parent_goes : Contains cert.gone parent

-- 6: each child of an added node is below that node's address, and is either added, or live, not gone and with a gone parent
abbrev pub TakesOver : Entries → Cert → Type 0
TakesOver live cert = (parent child : ℕ) → IsChild (added_by cert) parent child → (child < parent) × (Has (added_by cert) child ⊎ IsHandedOver live cert child)

-- 7: no address is a child twice among the added nodes
pub record TakesOnce (cert : Cert) : Type 0 where
  pub by_one : (one other child : ℕ) → IsChild (added_by cert) one child → IsChild (added_by cert) other child → one ≡ other
  pub once : (addr : ℕ) (children : List ℕ) → added_by cert addr ≡ Some (NodeOver children) → AllPairs (λ a b. a ≢ b) children

-- an address is a child of an added node
pub record IsTaken (cert : Cert) (addr : ℕ) : Type 0 where
  pub parent : ℕ
  pub child : IsChild (added_by cert) parent addr

-- 8: the root is added, and every other added address is a child of an added node
pub record HangsTogether (cert : Cert) : Type 0 where
  pub root : Has (added_by cert) cert.root
  pub others : (addr : ℕ) → Has (added_by cert) addr → addr ≢ cert.root → IsTaken cert addr

-- 9: each child of a gone node is gone or is a child of an added node
abbrev pub LeavesNone : Entries → Cert → Type 0
LeavesNone live cert = (parent child : ℕ) → Contains cert.gone parent → IsChild live parent child → Contains cert.gone child ⊎ IsTaken cert child

-- a certificate keeps the nine rules
pub record Keeps (live : Entries) (former : Option Cert) (cert : Cert) : Type 0 where
  pub rule1 : Counts former cert
  pub rule2 : Continues former cert
  pub rule3 : IsFresh cert
  pub rule4 : WasLive live cert
  pub rule5 : GoesFromTheTop live former cert
  pub rule6 : TakesOver live cert
  pub rule7 : TakesOnce cert
  pub rule8 : HangsTogether cert
  pub rule9 : LeavesNone live cert
