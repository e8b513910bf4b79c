use Rattle.std.proofs.Common.{◌≡◌, ◌<◌, rules, arith, true, false, nat_le, nat_lt, get_or, length, take, drop, List, ap, sym, subst, ◌∙◌}
use Rattle.std.specs.Prelude.{All, Contains}
use Rattle.std.specs.List.Sorted.{IsNonDecreasingBy}
use Rattle.std.proofs.lemmas.Bool.{leb-false, ltb-true}
use Rattle.std.proofs.lemmas.List.Sorted.{IsPartitionedBy-leb, IsPartitionedBy-ltb, IsPartitionPoint-from_clause, IsNonDecreasingBy-drop}
use Rattle.seizure.specs.Index.{number_of, AreApart}
use Rattle.seizure.specs.declared.index.Marked.{Marked}
use Rattle.seizure.proofs.IndexLaws.{part_some, part_all, apart_part}
use Rattle.seizure.proofs.index.Index.near.Goals as goal

pub returns-clause-some : goal.returns-clause-some
returns-clause-some c =
    let marks = c.args.self.now.marks.items in
    let near : c.split_at-2.result.0.now ≡ take c.partition_point.result (drop c.partition_point-start.result marks) =
    c.split_at-2.ensures.front ∙ ap (take c.partition_point.result) (c.split_at.ensures.back ∙ ap (drop c.partition_point-start.result) c.deref-2.ensures.value) in
    subst (All (Contains marks)) (sym near) (part_some marks c.partition_point-start.result c.partition_point.result)

pub returns-clause-all : goal.returns-clause-all
returns-clause-all c = λ mark has is.
    (let marks = c.args.self.now.marks.items in
    let n = c.args.number in
    let number = λ (m : Marked). number_of m.front in
    let rest : c.split_at.result.1.now ≡ drop c.partition_point-start.result marks = c.split_at.ensures.back ∙ ap (drop c.partition_point-start.result) c.deref-2.ensures.value in
    let near : c.split_at-2.result.0.now ≡ take c.partition_point.result (drop c.partition_point-start.result marks) = c.split_at-2.ensures.front ∙ ap (take c.partition_point.result) rest in
    let rising : IsNonDecreasingBy number c.deref.result.now = subst (IsNonDecreasingBy number) (sym c.deref.ensures.value) c.requires in
    let rising' : IsNonDecreasingBy number c.split_at.result.1.now = subst (IsNonDecreasingBy number) (sym rest) (IsNonDecreasingBy-drop number c.partition_point-start.result marks c.requires) in
    let start = IsPartitionPoint-from_clause (λ (m : Marked). nat_lt (number m) n) c.deref.result.now c.partition_point-start.result c.partition_point-start.ensures.partitioned (IsPartitionedBy-ltb number c.deref.result.now n rising) (λ a r q k. search rules) in
    let end = IsPartitionPoint-from_clause (λ (m : Marked). nat_le (number m) n) c.split_at.result.1.now c.partition_point.result c.partition_point.ensures.partitioned (IsPartitionedBy-leb number c.split_at.result.1.now n rising') (λ a r q k. search rules) in
    subst (λ (l : List Marked). Contains l mark) (sym near)
    (part_all number marks n c.partition_point-start.result c.partition_point.result
    (λ k d below. ltb-true _ _ (subst (λ (l : List Marked). nat_lt (number (get_or l k d)) n ≡ true) c.deref.ensures.value (start.0 k d (omega arith) below)))
    (λ k d from to. leb-false _ _ (subst (λ (l : List Marked). nat_le (number (get_or l k d)) n ≡ false) rest (end.1 k d from (subst (λ (l : List Marked). k < length l) (sym rest) to))))
    mark has is))

pub returns-clause-apart : goal.returns-clause-apart
returns-clause-apart c = λ apart.
    (let marks = c.args.self.now.marks.items in
    let near : c.split_at-2.result.0.now ≡ take c.partition_point.result (drop c.partition_point-start.result marks) =
    c.split_at-2.ensures.front ∙ ap (take c.partition_point.result) (c.split_at.ensures.back ∙ ap (drop c.partition_point-start.result) c.deref-2.ensures.value) in
    subst AreApart (sym near) (apart_part marks c.partition_point-start.result c.partition_point.result apart))
