use Rattle.std.proofs.Common.{◌≡◌, ◌++◌, ◌∷◌, [], ◌∙◌, true, List, ℕ, ap, sym, subst}
use Rattle.std.specs.Ordering.{nat_cmp}
use Rattle.std.specs.Cmp.Lexicographic.{slice_cmp}
use Rattle.std.specs.BTreeSet.{contains, Updates}
use Rattle.sdbt_base.specs.Keys.{bare}
use Rattle.key_graph.specs.Chains.{Distinct}
use Rattle.seizure.specs.Work.{Gains}
use Rattle.seizure.proofs.WorkLaws.{IsSetOf, set_more, distinct_push, was_new, was_there, gains_one, gains_old}
use Rattle.seizure.proofs.work.Work.want.Goals as goal

pub returns-in_ok-push-clause-known : goal.returns-in_ok-push-clause-known
returns-in_ok-push-clause-known c =
    let keys = c.args.self.now.keys in let key = bare c.args.key.now in
    let pushed = c.in_ok-push.ensures ∙ ap (λ (k : List ℕ). keys ++ k ∷ []) c.bare.ensures in
    record {
      same = subst (IsSetOf c.insert.new.self) (sym pushed)
          (set_more c.args.self.now.known c.insert.new.self keys key c.requires.same
          (subst (λ (k : List ℕ). Updates (slice_cmp nat_cmp) c.args.self.now.known c.insert.new.self k true) c.bytes.ensures.value c.in_ok-insert.ensures.updates));
      once = subst Distinct (sym pushed)
          (distinct_push keys key c.requires.once
          (λ has. was_new _ _ c.in_ok-insert.ensures.added c.if-branch.true
          (subst (λ (k : List ℕ). contains (slice_cmp nat_cmp) c.args.self.now.known k ≡ true) (sym c.bytes.ensures.value) ((c.requires.same key).1 has))));
    }

pub returns-in_ok-push-clause-keys : goal.returns-in_ok-push-clause-keys
returns-in_ok-push-clause-keys c =
    let pushed = c.in_ok-push.ensures ∙ ap (λ (k : List ℕ). c.args.self.now.keys ++ k ∷ []) c.bare.ensures in
    subst (λ (l : List (List ℕ)). Gains c.args.self.now.keys l (λ other. other ≡ bare c.args.key.now)) (sym pushed) (gains_one c.args.self.now.keys (bare c.args.key.now))

pub returns-else-branch-clause-keys : goal.returns-else-branch-clause-keys
returns-else-branch-clause-keys c =
    let there = was_there _ _ c.in_ok-insert.ensures.added c.if-branch.false in
    gains_old c.args.self.now.keys (bare c.args.key.now) ((c.requires.same (bare c.args.key.now)).0 (subst (λ (k : List ℕ). contains (slice_cmp nat_cmp) c.args.self.now.known k ≡ true) c.bytes.ensures.value there))
