-- Each turn looks at the entry at a place, and at the low that it must have at least.
use Rattle.std.proofs.Common.{refl, arith, ◌<◌}
use Rattle.node_codec.specs.Parts.{IsWithin}
use Rattle.node_codec.specs.Laws.{in_range, range_at, range_behind}
use Rattle.node_codec.proofs.entries.are_in_range.Goals as goal
use Rattle.node_codec.proofs.entries.are_in_range.Goals.{then-entry-least-via-then-entry-least, then-entry-least-via-else-entry-least+then-not-is_within}

pub loop-entry-init : goal.loop-entry-init
loop-entry-init c = record { so_far = λ h. h; left = λ h. h }

pub loop-entry-preserved : goal.loop-entry-preserved
loop-entry-preserved c =
    let version = c.args.version in
    let addr = c.args.addr in
    let one = range_at version addr c.loop-entry.least c.loop-entry.entry-index c.entry-item.result c.args.entries.now c.loop-entry-test.true c.entry-item.is in
    let within : IsWithin version addr c.entry-item.result = c.is_within.ensures.0 c.if-not-is_within.false in
    record {
      so_far = λ h. c.loop-entry.invariant.so_far (one.1 (c.if-entry-least.false, within, h));
      left = λ h. (one.0 (c.loop-entry.invariant.left h)).2;
    }

pub returns-then-entry-least : goal.returns-then-entry-least
returns-then-entry-least c =
    let version = c.args.version in
    let addr = c.args.addr in
    let one = range_at version addr c.loop-entry.least c.loop-entry.entry-index c.entry-item.result c.args.entries.now c.loop-entry-test.true c.entry-item.is in
    let all = in_range version addr c.args.entries.now in
    elim c.then-entry-least.branch [
      | then-entry-least-via-then-entry-least w ↦
          let below : c.entry-item.result.low < c.loop-entry.least = w.if-entry-least.true in
          (λ h. absurd cc, λ h. absurd (omega (arith, below, (one.0 (c.loop-entry.invariant.left (all.1 h))).0)))
      | then-entry-least-via-else-entry-least+then-not-is_within w ↦
          (λ h. absurd cc, λ h. grind (arith, w.if-not-is_within.true, w.is_within.ensures.1 (one.0 (c.loop-entry.invariant.left (all.1 h))).1))
    ]

pub returns : goal.returns
returns c =
    let all = in_range c.args.version c.args.addr c.args.entries.now in
    let none = range_behind c.args.version c.args.addr c.loop-entry.least c.loop-entry.entry-index c.args.entries.now c.loop-entry-test.false in
    (λ _. all.0 (c.loop-entry.invariant.so_far none), λ _. refl)
