-- That a session is open on a medium of so many pages.
use Rattle.std.specs.Prelude.{◌≡◌, ◌-◌, ◌≤◌, ℕ, Bool, true, false, List}
use Rattle.sdbt_base.specs.declared.lists.Unkept.{Unkept}
use Rattle.sdbt_base.specs.Keys.{key_size}
use Rattle.root_codec.specs.declared.root.Root.{Root}
use Rattle.page_store.specs.Roots.{IsRootWithin}
use Rattle.btree_twigs.specs.Top.{IsTop}
use Rattle.btree_update.specs.declared.groves.Grove.{Grove}
use Rattle.btree_update.specs.Held.{bound, AreBelow}
use Rattle.btree_update.specs.Groves.{IsSound, places_of, grown_in}
use Rattle.grove_accounts.specs.Holding.{IsTreeOf}
use Rattle.grove_accounts.specs.Certs.{AreWritten}
use Rattle.device_session.specs.Sessions.{Session}

-- the device's number of blocks
abbrev pub blocks_of : Session → ℕ
blocks_of session = session.root.blocks

-- the commit number of the mount or the last commit
abbrev pub number_of : Session → ℕ
number_of session = session.root.commit

-- whether something was changed since
abbrev pub is_touched : Session → Bool
is_touched session = session.is_touched

-- the root record
abbrev pub root_of : Session → Root
root_of session = session.root

-- a tree of a root record's size, whose root node is in memory
pub record IsChangedTree (root : Root) (grove : Grove) : Type 0 where
  pub sound : IsSound grove
  pub order : grove.order ≡ root.order
  pub blocks : grove.blocks ≡ root.blocks
  pub head : grove.head ≡ root.head
  pub top : IsTop grove.order (grove.level - 1) grove.blocks grove.top

-- the session's tree is its root record's, or one that was changed since
abbrev pub IsTreeFor : Bool → Root → Grove → Type 0
IsTreeFor false root grove = IsTreeOf root grove
IsTreeFor true root grove = IsChangedTree root grove

-- the session was opened on a medium of at most so many pages: its root record can be served, and each place of its tree on the medium was
-- handed over and has a key as the root record's version says
pub record IsOpen (session : Session) (pages : ℕ) : Type 0 where
  pub served : IsRootWithin pages session.root
  pub mapped : session.mapped ≤ session.root.blocks
  pub tree : IsTreeFor session.is_touched session.root session.grove
  pub level : session.grove.level ≤ 20
  pub below : AreBelow (bound pages (key_size session.root.version)) (places_of session.grove)

-- these are the pages of the data records that a session wrote since its mount or its last commit, whether they are mapped still or not
abbrev pub AreDataPages : Session → List Unkept → Type 0
AreDataPages session pages = AreWritten session.root.head (places_of session.grove) session.grove.never.items pages

-- how many pages a commit of the session's changes needs: one for each node in memory
abbrev pub needed_by : Session → ℕ
needed_by session = grown_in session.grove
