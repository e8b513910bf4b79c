-- The bytes are a record where they are a data record or a node's, and no other one.
use Rattle.std.proofs.Common.{◌≡◌, ℕ, drop}
use Rattle.std.specs.Prelude.{IsSomeAnd}
use Rattle.node_codec.specs.Record.{Record, IsOfVersion, value_of}
use Rattle.node_codec.specs.Laws.{only_record, no_record_of, again_by_node}
use Rattle.node_codec.proofs.decoding.decode.Goals as goal

pub returns-in-Some-clause-found : goal.returns-in-Some-clause-found
returns-in-Some-clause-found c = c.in-Some.ensures.found 1

pub returns-in-Some-clause-again : goal.returns-in-Some-clause-again
returns-in-Some-clause-again c = λ version value is fits same.
    let found = c.in-Some.ensures.found version in
    (only_record version c.args.addr c.args.body.now _ value c.ranges.addr.fits found.0 found.1 fits same, tt)

pub returns-in-None-clause-none : goal.returns-in-None-clause-none
returns-in-None-clause-none c = no_record_of c.args.addr c.args.body.now c.decode_any_node.result c.in-None.ensures.none c.decode_any_node.ensures.none

pub returns-in-None-clause-again : goal.returns-in-None-clause-again
returns-in-None-clause-again c =
    again_by_node c.args.addr c.args.body.now (λ (version : ℕ) (value : Record). IsSomeAnd c.decode_any_node.result (λ b. (value_of b (drop 32 c.args.body.now) ≡ value) × IsOfVersion version b))
    c.in-None.ensures.none c.decode_any_node.ensures.again
