use Rattle.std.proofs.Common.{◌≡◌, ◌==◌, ℕ, List, [], false, length, sym, ◌∙◌, subst, ap, arith}
use Rattle.std.proofs.lemmas.Bool.{eqb-true, eq-eqb, false≢true}
use Rattle.std.proofs.lemmas.List.{nil_from_length}
use Rattle.cert_maker.specs.Cert.{Cert}
use Rattle.cert_codec.specs.Ledger.{IsLedger}
use Rattle.ledger_check.proofs.ReadingLaws.{ledger_some, ledger_none}
use Rattle.ledger_check.proofs.reader.LedgerReader.finish.Goals as goal
use Rattle.ledger_check.proofs.reader.LedgerReader.finish.Goals.{then-not-is_empty+in_ok-feed_line, else-not-is_empty}

-- a list whose length isn't 0
not_empty : (n : ℕ) (items : List ℕ) → (n == 0) ≡ false → n ≡ length items → items ≡ [] → ⊥
not_empty n items isnt long e =
    let zero : n ≡ 0 = long ∙ ap (λ (l : List ℕ). length l) e in
    false≢true (sym isnt ∙ eq-eqb n 0 zero)

pub returns-clause-ledger : goal.returns-clause-ledger
returns-clause-ledger c taken has =
    let line = c.args.self.line in
    elim c.if-not-is_empty.branch [
      | then-not-is_empty+in_ok-feed_line w ↦
          let some : line.items ≡ [] → ⊥ = not_empty line.len line.items (sym c.is_empty.ensures ∙ w.if-not-is_empty.true) line.ok.0 in
          subst (λ (certs : List Cert). IsLedger taken certs) (sym w.checker-is)
          (ledger_some taken line.items w.deref.result.now c.args.self.checker w.feed_line.new.checker has.certs has.line w.deref.ensures.value some w.in_ok-feed_line.ensures)
      | else-not-is_empty w ↦
          let zero : line.len ≡ 0 = eqb-true line.len 0 (sym c.is_empty.ensures ∙ w.if-not-is_empty.false) in
          let none : line.items ≡ [] = nil_from_length line.items (omega (arith, zero, line.ok.0)) in
          subst (λ (certs : List Cert). IsLedger taken certs) (sym w.checker-is) (ledger_none taken line.items c.args.self.checker has.certs has.line none)
    ]
