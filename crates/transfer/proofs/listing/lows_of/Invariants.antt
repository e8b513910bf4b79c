use Rattle.std.proofs.Common.{◌≡◌, ◌<◌, map, take}
use Rattle.std.specs.Prelude.{All}
use Rattle.node_codec.specs.declared.body.Entry.{Entry}
use Rattle.transfer.proofs.listing.lows_of.Given as goal

abbrev pub invariant-loop-place : goal.invariant-loop-place
invariant-loop-place l = record {
  are : l.lows.items ≡ map (λ (e : Entry). e.low) (take l.place l.list);
  within : All (λ block. block < l.blocks) l.lows.items;
}
