use Rattle.std.proofs.Common.{◌≡◌, ℕ, List, [], map, sym, subst, ap}
use Rattle.std.specs.Prelude.{◌≢◌, Contains, Option, None, Some}
use Rattle.std.proofs.lemmas.Result.{err_from_is_err_and}
use Rattle.sdbt_base.specs.Keys.{bare}
use Rattle.root_codec.specs.declared.root.Root.{Root}
use Rattle.seizure.specs.declared.work.Work.{Work}
use Rattle.seizure.specs.Report.{roots_of}
use Rattle.seizure.specs.Work.{Gains}
use Rattle.seizure.proofs.SearchLaws.{gains_root, given_some, root_some}
use Rattle.seizure.proofs.seizing.wanted.Goals.{in-Some+in_ok-want, in_default}
use Rattle.seizure.proofs.seizing.wanted.Goals as goal

pub returns-clause-keys : goal.returns-clause-keys
returns-clause-keys c =
    let keys = c.args.keys.now in let wanted = c.want_all.new.self in let more = c.match-root.work in
    let gains : Gains [] wanted.keys (Contains (map bare keys)) = subst (λ (l : List (List ℕ)). Gains l wanted.keys (Contains (map bare keys))) c.new-work.ensures.keys c.in_ok-want_all.ensures.keys in
    elim c.match-root.branch [
      | in-Some+in_ok-want w ↦ subst (λ (root : Option Root). Gains [] more.keys (Contains (roots_of keys root))) (sym w.in-Some.is)
          (gains_root keys wanted.keys more.keys (Some w.in-Some.root) gains
          (subst (λ (work : Work). Gains wanted.keys work.keys (λ key. key ≡ bare w.in-Some.root.key)) (sym w.work-is) w.in_ok-want.ensures.keys))
      | in_default w ↦ subst (λ (root : Option Root). Gains [] more.keys (Contains (roots_of keys root))) (sym w.in_default.is)
          (gains_root keys wanted.keys more.keys None gains (ap (λ (work : Work). work.keys) w.work-is))
    ]

pub returns-in_err-want_all-clause-memory : goal.returns-in_err-want_all-clause-memory
returns-in_err-want_all-clause-memory c =
    let p = err_from_is_err_and c.from_residual.result c.from_residual.ensures.1 in
    rw p.1 (given_some c.args.keys.now c.args.root.now c.in_err-want_all.ensures.memory)

pub returns-in_err-want-clause-memory : goal.returns-in_err-want-clause-memory
returns-in_err-want-clause-memory c =
    let p = err_from_is_err_and c.from_residual-in_err-want.result c.from_residual-in_err-want.ensures.1 in
    rw p.1 (subst (λ (root : Option Root). roots_of c.args.keys.now root ≢ []) (sym c.in-Some.is) (root_some c.args.keys.now c.in-Some.root))
