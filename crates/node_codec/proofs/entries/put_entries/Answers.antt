-- One entry more is written behind the others.
use Rattle.std.proofs.Common.{◌≡◌, ◌*◌, ℕ, [], ◌∷◌, ◌++◌, length, take, arith, ap, subst, sym, ◌∙◌}
use Rattle.std.specs.List.{flat_map}
use Rattle.std.proofs.lemmas.List.{take_more}
use Rattle.std.proofs.lemmas.List.Elements.{All-nil, All-more, All-get_or}
use Rattle.sdbt_base.specs.Keys.{IsKeyOf, entry_size, key_size}
use Rattle.node_codec.specs.declared.body.Entry.{Entry}
use Rattle.node_codec.specs.Record.{entry_bytes}
use Rattle.node_codec.specs.Laws.{entries_more}
use Rattle.node_codec.proofs.entries.put_entries.Goals as goal

pub loop-i-init : goal.loop-i-init
loop-i-init c =
    let none : entry_size c.args.version * 0 ≡ 0 = omega arith in
    record {
      spelled = ap (λ (n : ℕ). take n c.args.out.now) none;
      keys = All-nil (λ (e : Entry). IsKeyOf c.args.version e.key);
    }

pub loop-i-preserved : goal.loop-i-preserved
loop-i-preserved c =
    let size = entry_size c.args.version in
    let entry = c.index-entries-i.result in
    let before = take c.loop-i.i c.args.entries.now in
    let more = entries_more c.put_at.new.out before entry c.loop-i.i size (c.put_at.ensures.front ∙ c.loop-i.invariant.spelled) c.put_at.ensures.spelled in
    record {
      spelled = more ∙ ap (λ (e : Entry). flat_map entry_bytes (before ++ e ∷ [])) c.index-entries-i.is ∙ ap (flat_map entry_bytes) (sym (take_more c.args.entries.now c.loop-i.i entry (omega arith)));
      keys = All-more (λ (e : Entry). IsKeyOf c.args.version e.key) c.args.entries.now c.loop-i.i entry (omega arith) c.loop-i.invariant.keys (subst (λ (e : Entry). IsKeyOf c.args.version e.key) c.index-entries-i.is c.put_at.ensures.key);
    }

pub put_at-requires-clause-sized : goal.put_at-requires-clause-sized
put_at-requires-clause-sized c =
    let P : Entry → Type 0 = λ e. length e.key ≡ key_size c.args.version in
    subst P (sym c.index-entries-i.is) (All-get_or P c.args.entries.now c.loop-i.i c.index-entries-i.result (omega arith) c.requires.sized)
