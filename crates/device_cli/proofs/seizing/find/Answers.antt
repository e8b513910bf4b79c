use Rattle.std.proofs.Common.{◌≡◌, ℕ, List, ◌∙◌, subst}
use Rattle.std.specs.Prelude.{map, string_bytes}
use Rattle.device_cli.specs.Given.{AreGiven}
use Rattle.device_cli.proofs.SeizeWordLaws.{begins_for, held_not_bad, not_refused, few_for}
use Rattle.device_cli.proofs.seizing.find.Goals as goal

pub returns-in-Some-clause-memory : goal.returns-in-Some-clause-memory
returns-in-Some-clause-memory g c told memory =
    let P = g.P.Platform in
    let head = P.head c.args.platform.now in let image = (P.history c.args.platform.now).present in
    let records : List (List ℕ) = map string_bytes c.args.records.now in let keys = c.in-Some.keys.items in
    let there : c.head.result ≡ head = c.head.ensures.value ∙ c.check_root.ensures.looks.head in (
      keys,
      subst (λ (pages : ℕ). AreGiven pages records keys) there c.in-Some.ensures.found,
      begins_for head (P.head c.check_root.new.platform) image (P.history c.check_root.new.platform).present keys c.as_slice.result.now
          c.check_root.ensures.looks.head (c.check_root.ensures.looks.image told) c.as_slice.ensures.value (c.in_ok-check_root.ensures.good told) (c.open_all.ensures.memory told memory),
    )

-- the keys are those of the words, and the cell was looked at first
pub returns-in-Some-clause-reads : goal.returns-in-Some-clause-reads
returns-in-Some-clause-reads g c = λ told.
    (let P = g.P.Platform in
    let head = P.head c.args.platform.now in let image = (P.history c.args.platform.now).present in
    let records : List (List ℕ) = map string_bytes c.args.records.now in let keys = c.in-Some.keys.items in
    let there : c.head.result ≡ head = c.head.ensures.value ∙ c.check_root.ensures.looks.head in
    let given = subst (λ (pages : ℕ). AreGiven pages records keys) there c.in-Some.ensures.found in
    few_for head (P.head c.check_root.new.platform) image (P.history c.check_root.new.platform).present records keys c.as_slice.result.now
    (P.reads c.args.platform.now) (P.reads c.check_root.new.platform) (P.reads c.open_all.new.platform)
    c.check_root.ensures.looks.head (c.check_root.ensures.looks.image told) c.as_slice.ensures.value (c.in_ok-check_root.ensures.looked told (λ e. cc))
    (not_refused head image records keys (held_not_bad head image.cell (c.in_ok-check_root.ensures.good told)) given) given (c.open_all.ensures.reads told))

-- where they are root records the seizure isn't refused
pub returns-in-Some-clause-unread : goal.returns-in-Some-clause-unread
returns-in-Some-clause-unread g c told refused =
    let P = g.P.Platform in
    let head = P.head c.args.platform.now in let image = (P.history c.args.platform.now).present in
    let records : List (List ℕ) = map string_bytes c.args.records.now in
    let there : c.head.result ≡ head = c.head.ensures.value ∙ c.check_root.ensures.looks.head in
    absurd (not_refused head image records c.in-Some.keys.items (held_not_bad head image.cell (c.in_ok-check_root.ensures.good told))
    (subst (λ (pages : ℕ). AreGiven pages records c.in-Some.keys.items) there c.in-Some.ensures.found) refused)
