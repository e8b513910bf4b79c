-- What nodes are read with.
use Rattle.std.specs.Prelude.{◌≡◌, []}
use Rattle.node_codec.specs.declared.body.NodeBody.{NodeBody}
use Rattle.page_store.specs.Buffer.{Held, IsBlank}

-- nothing of what was read or sealed is left: all bytes of the buffers are zero, and the node that was read last has no entries
pub record IsWiped (held : Held) (node : NodeBody) : Type 0 where
  pub buffers : IsBlank held
  pub level : node.level ≡ 0
  pub entries : node.entries.items ≡ []
