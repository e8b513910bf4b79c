use Rattle.std.proofs.Common.{◌≡◌, ◌∷◌, ◌++◌, [], ℕ, List, Option, None, refl, sym, subst}
use Rattle.erasable_root.specs.Cell.{IsCell}
use Rattle.platform.specs.Log.{IsLog}
use Rattle.platform.proofs.LogSteps.{IsLog-push, IsLog-cell, past_images-same}
use Rattle.platform.proofs.Moments.{Steps-push}
use Rattle.platform.proofs.store.Store.clear.Goals as goal

-- an empty cell holds no record
no_record : (held : Option (List ℕ)) → held ≡ None → IsCell held
no_record held none bytes is = absurd (cc)

pub invariant_of-self-2-clause-logged : goal.invariant_of-self-2-clause-logged
invariant_of-self-2-clause-logged c =
    let old = c.args.self.now in
    let logged = IsLog-push old.medium old.cell old.log.items c.now-now.result old.logged c.now-now.ensures in
    subst (IsLog old.medium c.clear.new.self) (sym c.in_ok-push.ensures.items) (IsLog-cell old.medium old.cell c.clear.new.self (old.log.items ++ c.now-now.result ∷ []) (no_record c.clear.new.self c.clear.ensures) logged)

pub returns-clause-past : goal.returns-clause-past
returns-clause-past c =
    let old = c.args.self.now in
    rw c.in_ok-push.ensures.items (past_images-same old.medium old.medium old.cell old.log.items c.now-now.result old.logged c.now-now.ensures refl refl)

pub returns-clause-time : goal.returns-clause-time
returns-clause-time c = Steps-push _ _ (returns-clause-past c)
