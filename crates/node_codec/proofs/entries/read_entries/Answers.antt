-- One entry more stands behind those that were read.
use Rattle.std.proofs.Common.{rules, ◌≡◌, ◌*◌, ◌+◌, arith, take, sym, ap, ◌∙◌}
use Rattle.std.specs.List.{flat_map}
use Rattle.std.proofs.lemmas.Grind.{common_steps}
use Rattle.std.proofs.lemmas.List.Elements.{All-push}
use Rattle.sdbt_base.specs.Keys.{entry_size}
use Rattle.node_codec.specs.Record.{entry_bytes}
use Rattle.node_codec.specs.Parts.{IsEntry}
use Rattle.node_codec.specs.Laws.{entries_more, most_at_most}
use Rattle.node_codec.proofs.entries.read_entries.Goals as goal

pub loop-i-preserved : goal.loop-i-preserved
loop-i-preserved c =
    let size = entry_size c.args.version in
    let more : take (size * (c.loop-i.i + 1)) c.args.payload.now ≡ flat_map entry_bytes c.push.new.self.items = entries_more c.args.payload.now c.loop-i.entries.items c.entry_of.result c.loop-i.i size c.loop-i.invariant.spelled (sym c.place_of.ensures.bytes ∙ c.entry_of.ensures.spelled) ∙ ap (flat_map entry_bytes) (sym c.push.ensures.items) in
    record {
      count = search rules;
      spelled = more;
      are = rw (c.push.ensures.items) (All-push (IsEntry c.args.version) c.loop-i.entries.items c.entry_of.result c.loop-i.invariant.are c.entry_of.ensures.entry);
    }

pub push-requires : goal.push-requires
push-requires c = grind (arith, common_steps, most_at_most c.args.version c.args.count c.requires.version c.requires.count)
