use Rattle.std.proofs.Common.{◌≡◌, List, ℕ, subst, ◌∙◌}
use Rattle.sdbt_base.proofs.KeyLaws.{bare_plain}
use Rattle.seizure.specs.Work.{Gains}
use Rattle.seizure.proofs.WorkLaws.{gains_entry}
use Rattle.seizure.proofs.work.Work.want_entries.Goals as goal

pub loop-entry-preserved : goal.loop-entry-preserved
loop-entry-preserved c = record {
  known = c.in_ok-want.ensures.known;
  keys = gains_entry c.args.self.now.keys c.loop-entry.self.keys c.want.new.self.keys c.args.body.now c.args.size c.loop-entry.entry c.requires.node c.loop-entry.invariant.keys
      (subst (λ (k : List ℕ). Gains c.loop-entry.self.keys c.want.new.self.keys (λ other. other ≡ k)) (bare_plain c.key_at.result c.key_at.ensures.plain ∙ c.key_at.ensures.value) c.in_ok-want.ensures.keys);
  opened = c.want.ensures.opened ∙ c.loop-entry.invariant.opened;
}
