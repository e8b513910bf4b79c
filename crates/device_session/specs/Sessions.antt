-- What contracts see of a session.
use Rattle.std.specs.Prelude.{ℕ, Bool}
use Rattle.root_codec.specs.declared.root.Root.{Root}
use Rattle.node_codec.specs.declared.body.NodeBody.{NodeBody}
use Rattle.node_cache.specs.Cached.{Cached}
use Rattle.page_store.specs.Buffer.{Held}
use Rattle.btree_update.specs.declared.groves.Grove.{Grove}

-- an array of blocks with changes that are the device's only with a commit
pub record Session : Type 0 where
  -- the root record that the session was opened on, or that its last commit made
  pub root : Root
  -- how many blocks are mapped, changes included
  pub mapped : ℕ
  -- whether something was changed since the mount or the last commit
  pub is_touched : Bool
  -- the tree, changes included
  pub grove : Grove
  -- the nodes that were used last
  pub cache : Cached
  -- the bytes of the last page that was read or sealed, and of its record
  pub buffers : Held
  -- the node that was read last
  pub node : NodeBody
