-- The kind says the version.
use Rattle.std.proofs.Common.{◌≡◌, ℕ, sym, ap, subst, ◌∙◌}
use Rattle.node_codec.specs.Record.{NodeRecord, FitsRecord, record_bytes}
use Rattle.node_codec.specs.Laws.{node_one}
use Rattle.node_codec.proofs.decoding.decode_any_node.Goals as goal

pub returns-in-Some-clause-again : goal.returns-in-Some-clause-again
returns-in-Some-clause-again c = λ version level items is fits same.
    let read : c.version_of_kind-version.result ≡ version = c.version_of_kind-version.ensures.only version c.args.addr level items is same in
    let fits-too = subst (λ v. FitsRecord v c.args.addr (NodeRecord level items)) (sym read) fits in
    let same-too = same ∙ ap (λ (v : ℕ). record_bytes v c.args.addr (NodeRecord level items)) (sym read) in
    let one = c.in-Some.ensures.again level items fits-too same-too in
    (node_one _ level _ items one.0 one.1, read)

pub returns-in-None-clause-none : goal.returns-in-None-clause-none
returns-in-None-clause-none c = λ version level items is fits same.
    let read : c.version_of_kind-version.result ≡ version = c.version_of_kind-version.ensures.only version c.args.addr level items is same in
    c.in-None.ensures.none level items (subst (λ v. FitsRecord v c.args.addr (NodeRecord level items)) (sym read) fits) (same ∙ ap (λ (v : ℕ). record_bytes v c.args.addr (NodeRecord level items)) (sym read))

pub returns-in-None-clause-again : goal.returns-in-None-clause-again
returns-in-None-clause-again c = λ version level items is fits same. absurd (returns-in-None-clause-none c version level items is fits same)
