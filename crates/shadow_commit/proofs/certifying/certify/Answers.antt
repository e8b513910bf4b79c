use Rattle.std.proofs.Common.{◌+◌, ◌≤◌, ◌++◌, sym, subst, arith, rules}
use Rattle.std.specs.List.Sorted.{IsPermutation}
use Rattle.btree_twigs.specs.Stubs.{stubs_below}
use Rattle.shadow_commit.specs.Planned.{added_by}
use Rattle.shadow_commit.specs.Ready.{CertifiesBy}
use Rattle.shadow_commit.proofs.ReadyLaws.{certifies_as}
use Rattle.shadow_commit.proofs.certifying.certify.Goals as goal

pub overflow_add-addr : goal.overflow_add-addr
overflow_add-addr c =
    let at = c.requires.can in
    let is = c.in_ok-addr.ensures.addr c.args.root.now.version at in
    let small : c.in_ok-addr.addr + 1 ≤ 4294967296 = omega (arith, is, at.room) in
    search rules

pub returns-clause-cert : goal.returns-clause-cert
returns-clause-cert c = λ at ns addr key h.
    let root = c.args.root.now in
    let gone = c.args.gone.now in
    let never = c.args.never.now in
    let cert = c.in_ok-cert.cert in
    let B = c.in_ok-cert.ensures in
    let planned = added_by root.head (stubs_below at.level at.high c.args.twig.now) ns in
    let p = c.in_ok-addr.ensures.planned root.version at ns addr key h in
    let perm = subst (λ xs. IsPermutation (xs ++ planned) c.plan_twig.new.added) c.new-added.ensures p.1 in
    subst (λ n. CertifiesBy (root.commit + 1) root.head (n + 1) n planned gone never cert) (sym p.0)
    (certifies_as (root.commit + 1) root.head (c.in_ok-addr.addr + 1) c.in_ok-addr.addr planned c.plan_twig.new.added gone never cert perm (record {
      commit_is = B.commit;
      base_is = B.base;
      head_is = B.head;
      node_is = B.root;
      added_are = B.added;
      gone_are = B.gone;
      never_are = B.never;
      trees = B.trees;
    }))
