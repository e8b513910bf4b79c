use Rattle.std.proofs.Common.{◌≡◌, refl, inl, inr, [], None, map, ap, ◌∙◌, arith}
use Rattle.sdbt_base.specs.Keys.{bare}
use Rattle.seizure.specs.declared.refusals.SeizeRefusal.TheVariants.{Memory}
use Rattle.seizure.specs.Report.{roots_of}
use Rattle.seizure.proofs.LooksLaws.{not_bad_root}
use Rattle.seizure.proofs.SearchLaws.{root_none, nothing_wanted, holds_found, some_wanted}
use Rattle.seizure.proofs.seizing.seize_all.Goals as goal

pub returns-clause-unread : goal.returns-clause-unread
returns-clause-unread g c = λ told either.
    elim either [
      | inl bad ↦ absurd (not_bad_root c.seize_from.result _ _ c.seize_from.ensures.stops bad)
      | inr nothing ↦
          (let P = g.P.Platform in
          let none : c.in-Ok.root ≡ None = root_none (P.history c.args.platform.now).present.cell c.in-Ok.root nothing.1 (c.in-Ok.ensures.found told) in
          let no_keys : c.in_ok-work.work.keys ≡ [] = nothing_wanted c.in_ok-work.work.keys (roots_of c.args.keys.now c.in-Ok.root) c.in_ok-work.ensures.keys (ap (roots_of c.args.keys.now) none ∙ ap (map bare) nothing.0) in
          let same = ap P.reads (c.seize_from.ensures.unread no_keys).1 in
          let once = c.current.ensures.reads_cell.reads told in
          record { rises = omega (arith, same, once.rises); by_one = omega (arith, same, once.by_one) })
    ]

pub returns-clause-memory : goal.returns-clause-memory
returns-clause-memory g c = λ told lacks.
    (let P = g.P.Platform in
    let cell = (P.history c.args.platform.now).present.cell in
    let head = P.head c.args.platform.now in
    let root = c.in-Ok.root in
    let roots = roots_of c.args.keys.now root in (
      roots,
      (root, holds_found head cell root (c.in-Ok.ensures.found told) c.in-Ok.ensures.within (c.in-Ok.ensures.none told), refl),
      some_wanted c.seize_from.result Memory c.in_ok-work.work.keys roots c.in_ok-work.ensures.keys (λ none. (c.seize_from.ensures.unread none).0) lacks,
    ))

pub returns-in_err-work-clause-memory : goal.returns-in_err-work-clause-memory
returns-in_err-work-clause-memory g c = λ told lacks.
    (let P = g.P.Platform in
    let cell = (P.history c.args.platform.now).present.cell in
    let head = P.head c.args.platform.now in
    let root = c.in-Ok.root in (
      roots_of c.args.keys.now root,
      (root, holds_found head cell root (c.in-Ok.ensures.found told) c.in-Ok.ensures.within (c.in-Ok.ensures.none told), refl),
      c.in_err-work.ensures.memory,
    ))
