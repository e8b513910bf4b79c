use Rattle.std.proofs.Common.{◌≡◌, ◌<◌, ◌≤◌, ◌+◌, ℕ, List, Option, Some, IfSome, length, slice_get, slice_index_or, refl, sym, ap, subst, ◌∙◌, arith}
use Rattle.std.specs.Prelude.{option_map, slice_set}
use Rattle.std.proofs.lemmas.Option.{slice_get-get_or}
use Rattle.btree_twigs.specs.declared.twigs.Twig.{Twig}
use Rattle.btree_update.specs.LetGo.{IsWiped, AreAsWideBeside, width}
use Rattle.btree_update.proofs.WipeLaws.{each_set, same_set, each_all}
use Rattle.btree_update.proofs.groves.wipe_beside.Goals as goal

-- one node more is wiped, or there is none
record Step (old before new : List (Option Twig)) (i : ℕ) : Type 0 where
  pub wiped : (k : ℕ) → k < i + 1 → IfSome (slice_get new k) (λ node. IfSome node IsWiped)
  pub many : AreAsWideBeside old new

step : (old before new : List (Option Twig)) (i : ℕ) (x y : Option Twig) → slice_get before i ≡ Some x → IfSome y IsWiped → option_map width y ≡ option_map width x → new ≡ slice_set before i y →
    ((k : ℕ) → k < i → IfSome (slice_get before k) (λ node. IfSome node IsWiped)) → AreAsWideBeside old before → Step old before new i
step old before new i x y here is wide now wiped many = record {
  wiped = λ k lt. subst (λ xs. IfSome (slice_get xs k) (λ node. IfSome node IsWiped)) (sym now) (each_set before i x y here (λ node. IfSome node IsWiped) is wiped k lt);
  many = λ k. ap (λ xs. option_map (option_map width) (slice_get xs k)) now ∙ same_set before i x y here (option_map width) wide k ∙ many k;
}

pub loop-node-preserved : goal.loop-node-preserved
loop-node-preserved c =
    let i = c.loop-node.node-index in
    let lt : i < length c.loop-node.beside = (let n = c.loop-node.auto.beside in let within = c.loop-node-test.true in omega (arith, n, within)) in
    let here = slice_get-get_or c.loop-node.beside i c.node-item.result lt in
    elim c.match-node.branch [
      | goal.in-Some w ↦ (let s = step c.args.beside.now c.loop-node.beside c.match-node.beside i (Some w.in-Some.twig) (Some w.wipe.new.twig) (here ∙ ap Some w.in-Some.is) w.wipe.ensures.blank (ap Some w.wipe.ensures.many) w.beside-is c.loop-node.invariant.wiped c.loop-node.invariant.many in
          record { wiped = s.wiped; many = s.many })
      | goal.in_default w ↦ (let one = slice_index_or c.loop-node.beside i c.node-item.result in
          let s = step c.args.beside.now c.loop-node.beside c.match-node.beside i one one here (subst (λ o. IfSome o IsWiped) (sym w.in_default.is) tt) refl w.beside-is c.loop-node.invariant.wiped c.loop-node.invariant.many in
          record { wiped = s.wiped; many = s.many })
    ]

pub returns-clause-wiped : goal.returns-clause-wiped
returns-clause-wiped c = each_all (λ node. IfSome node IsWiped) c.loop-node.beside c.loop-node.node-index (let n = c.loop-node.auto.beside in let past = c.loop-node-test.false in omega (arith, n, past)) c.loop-node.invariant.wiped
