use Rattle.std.proofs.Common.{◌≡◌, ℕ, List, [], ◌∷◌, ◌++◌, sym, ◌∙◌, subst, arith}
use Rattle.std.specs.Prelude.{OnOk}
use Rattle.std.proofs.lemmas.Bool.{eqb-true}
use Rattle.std.proofs.lemmas.List.{nil_from_length}
use Rattle.ledger_check.specs.Reading.{Fed}
use Rattle.ledger_check.proofs.reader.LedgerReader.end_line.Goals as goal

pub returns-then-is_empty-clause-fed : goal.returns-then-is_empty-clause-fed
returns-then-is_empty-clause-fed c =
    let line = c.args.self.now.line in
    let none : line.len ≡ 0 = eqb-true line.len 0 (sym c.is_empty.ensures ∙ c.if-is_empty.true) in
    let empty : line.items ≡ [] = nil_from_length line.items (omega (arith, none, line.ok.0)) in
    subst (λ (l : List ℕ). OnOk c.feed_line.result (Fed ((l ++ c.args.end.now) ∷ []) c.args.self.now.checker c.feed_line.new.checker)) (sym empty) c.feed_line.ensures
