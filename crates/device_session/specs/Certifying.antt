-- Which certificate a commit puts to the ledger.
use Rattle.std.specs.Prelude.{List}
use Rattle.sdbt_base.specs.Arrays.{Device, Blocks}
use Rattle.sdbt_base.specs.declared.lists.Unkept.{Unkept}
use Rattle.platform.specs.Image.{Image}
use Rattle.root_codec.specs.declared.root.Root.{Root}
use Rattle.page_store.specs.Tree.{Parts, Tree}
use Rattle.cert_maker.specs.Cert.{Cert}
use Rattle.device_terms.specs.Certifying.{IsOfTrees}
use Rattle.device_session.specs.Sessions.{Session}
use Rattle.device_session.specs.Open.{AreDataPages}
use Rattle.device_session.specs.Holds.{Holds}

-- a commit's certificate, where the session has an array over the image: that of the tree before it, of the tree after it, and of the session's data pages
abbrev pub IsOfCommit : Session → Image → Image → Root → Cert → Type 0
IsOfCommit session old new root cert =
    (device : Device) (contents : Blocks) → Holds session old device contents → (pages : List Unkept) → AreDataPages session pages
    → (before : Parts) → Tree old.readable session.root before → IsOfTrees before.places session.root.head new.readable root pages cert
