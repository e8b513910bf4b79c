-- What a look at one rule, or at all of them, answers.
use Rattle.std.specs.Prelude.{◌≡◌, ◌+◌, ℕ, Option, None, Some, Result, Ok, Err, option_map}
use Rattle.root_codec.specs.declared.root.Root.{Root}
use Rattle.key_graph.specs.Trace.{Entries}
use Rattle.cert_maker.specs.Cert.{Cert}
use Rattle.cert_checker.specs.declared.verdict.CheckRefusal.{CheckRefusal}
use Rattle.cert_checker.specs.declared.verdict.CheckRefusal.TheVariants.{Rule, Memory}
use Rattle.cert_checker.specs.declared.live.Live.{Live}
use Rattle.cert_checker.specs.declared.numbers.Last.{Last}
use Rattle.cert_checker.specs.Held.{live_of}
use Rattle.cert_checker.specs.Kept.{KeepsParents}
use Rattle.cert_checker.specs.Rules.{Counts, Continues, IsFresh, WasLive, GoesFromTheTop, TakesOver, TakesOnce, HangsTogether, LeavesNone}
use Rattle.cert_checker.specs.Succession.{IsTreeOrNone, root_of}

-- what was asked is kept; or it is broken with this number and value. Want of memory says nothing
abbrev pub Settles : {A : Type 0} → Type 0 → (ℕ → ℕ → Type 0) → Result A CheckRefusal → Type 0
Settles Kept Breaks (Ok a) = Kept
Settles Kept Breaks (Err (Rule number value)) = Breaks number value
Settles Kept Breaks (Err Memory) = Unit {0}

-- a look at one rule finds nothing where it is kept, and else the value that shows it broken
abbrev pub Tells : Type 0 → (ℕ → Type 0) → Option ℕ → Type 0
Tells Kept Breaks None = Kept
Tells Kept Breaks (Some value) = Breaks value

-- the three numbers of a certificate that the next one goes on from
abbrev pub last_of : Cert → Last
last_of cert = record { commit = cert.commit; head = cert.head; root = cert.root }

-- a number counts on from the last one
abbrev pub CountsOn : Option Last → ℕ → Type 0
CountsOn None commit = commit ≡ 0
CountsOn (Some last) commit = commit ≡ last.commit + 1

-- the last numbers are the root record's
abbrev pub EndsOn : Option Last → Root → Type 0
EndsOn None root = ⊥
EndsOn (Some last) root = (last.commit ≡ root.commit) × (last.root ≡ root.addr) × (last.head ≡ root.head)

-- what the checker keeps after a certificate, or before the first: what is live is a tree under its root, or nothing, each live
-- child's parent is kept, and so are the numbers of that certificate
pub record Stands (live : Live) (last : Option Last) (former : Option Cert) : Type 0 where
  pub tree : IsTreeOrNone (live_of live.entries) (root_of former)
  pub parents : KeepsParents (live_of live.entries) live.parents
  pub numbers : last ≡ option_map last_of former

-- the first four rules are kept
pub record KeepsLists (live : Entries) (former : Option Cert) (cert : Cert) : Type 0 where
  pub rule1 : Counts former cert
  pub rule2 : Continues former cert
  pub rule3 : IsFresh cert
  pub rule4 : WasLive live cert

-- the other five are kept
pub record KeepsTree (live : Entries) (former : Option Cert) (cert : Cert) : Type 0 where
  pub rule5 : GoesFromTheTop live former cert
  pub rule6 : TakesOver live cert
  pub rule7 : TakesOnce cert
  pub rule8 : HangsTogether cert
  pub rule9 : LeavesNone live cert
