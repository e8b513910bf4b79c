use Rattle.std.proofs.Common.{◌≡◌, ◌≤◌, ◌-◌, ℕ, List, Err, ap, ◌∙◌, subst, arith, rules, length, Some, slice_get}
use Rattle.node_codec.specs.declared.body.Entry.{Entry}
use Rattle.std.proofs.lemmas.Result.{err_from_is_err_and}
use Rattle.btree_walk.specs.declared.refusals.WalkRefusal.TheVariants.{BadRecord, PlatformFault}
use Rattle.sdbt_base.specs.Faults.{TellsOf}
use Rattle.btree_walk.specs.Nodes.{node_at, branches, Adds, Meets, FirstWrong, CutShort}
use Rattle.btree_walk.proofs.NodeLaws.{branch_level, branch_most, branch_below, ahead_more, ahead_all, leaf_met, wrong_here, wrong_later, cut_here, cut_later, on_error}
use Rattle.btree_walk.proofs.walking.+walk.Goals as goal

pub returns-in_err-read_node-clause-wrong : goal.returns-in_err-read_node-clause-wrong
returns-in_err-read_node-clause-wrong g t c =
    let p = err_from_is_err_and c.from_residual.result c.from_residual.ensures.1 in
    let want = c.args.want.now in let pages = (g.P.Platform.history c.args.platform.now).present.readable in
    rw (p.1, p.2) (λ tells addr is.
    let same : c.in_err-read_node.field-0.0 ≡ BadRecord addr = cc in
    wrong_here pages addr want.most want c.args.key.now c.requires.level (c.in_err-read_node.ensures.misfit tells addr (ap Err same)))

pub returns-then-want-eq1-clause-met : goal.returns-then-want-eq1-clause-met
returns-then-want-eq1-clause-met g t c = λ tells.
    (let want = c.args.want.now in let pages = (g.P.Platform.history c.args.platform.now).present.readable in
    let entries = c.read_node.new.entries.items in
    let fits = c.in_ok-read_node.ensures.fits tells in
    leaf_met pages want c.args.key.now entries (Adds g.G.Gather.holds c.args.gathered.now c.node.new.self) (g.P.Platform.reads c.args.platform.now) (g.P.Platform.reads c.read_node.new.platform)
    (omega (arith, c.if-want-eq1.true)) fits c.in_ok-node.ensures (c.in_ok-read_node.ensures.reads tells))

pub walk-requires : goal.walk-requires
walk-requires g t c κs within =
    let want = c.args.want.now in let branch = c.branch_at-branch.result in
    let entries = c.read_node.new.entries.items in
    let at = subst (λ (es : List Entry). slice_get (branches want.most (want.level - 1) want.high es) c.loop-place.place ≡ Some branch) c.deref.ensures.0 c.branch_at-branch.ensures in
    let level : branch.want.level ≡ want.level - 1 = branch_level want.most (want.level - 1) want.high c.loop-place.place entries branch at in
    let below = branch_below want.most (want.level - 1) want.high c.loop-place.place want.addr entries branch c.in_ok-read_node.ensures.range.below at in
    let head = c.loop-place.invariant.looks.head in
    let some = c.requires.level in
    let inner : 2 ≤ want.level = omega (arith, c.if-want-eq1.false) in
    (first_of (omega arith, search rules), (within.0, (within.1, (omega (arith, c.requires.within), omega arith))))

pub returns-in_err-walk-clause-wrong : goal.returns-in_err-walk-clause-wrong
returns-in_err-walk-clause-wrong g t c =
    let p = err_from_is_err_and c.from_residual-in_err-walk.result c.from_residual-in_err-walk.ensures.1 in
    let want = c.args.want.now in let branch = c.branch_at-branch.result in
    let pages = (g.P.Platform.history c.args.platform.now).present.readable in
    let entries = c.read_node.new.entries.items in
    let at = subst (λ (es : List Entry). slice_get (branches want.most (want.level - 1) want.high es) c.loop-place.place ≡ Some branch) c.deref.ensures.0 c.branch_at-branch.ensures in
    rw (p.1, p.2) (λ tells addr is.
    let same : c.in_err-walk.field-0.0 ≡ BadRecord addr = cc in
    let image : (g.P.Platform.history c.loop-place.platform).present.readable ≡ pages = ap (λ i. i.readable) (c.loop-place.invariant.looks.image tells) in
    let wrong = subst (λ (ps : List (List ℕ)). FirstWrong ps addr branch.want.most branch.want.level branch.want branch.key) image (c.in_err-walk.ensures.wrong tells addr (ap Err same)) in
    wrong_later pages addr want c.args.key.now entries c.loop-place.place branch (Adds g.G.Gather.holds c.args.gathered.now c.loop-place.gathered) (g.P.Platform.reads c.args.platform.now) (g.P.Platform.reads c.loop-place.platform)
    c.requires.level (c.in_ok-read_node.ensures.fits tells) at (c.loop-place.invariant.ahead tells) wrong)

pub returns-in_err-walk-clause-cause : goal.returns-in_err-walk-clause-cause
returns-in_err-walk-clause-cause g t c =
    let p = err_from_is_err_and c.from_residual-in_err-walk.result c.from_residual-in_err-walk.ensures.1 in
    let cause = subst (λ (n : ℕ). TellsOf {T = Unit {0}} PlatformFault (Err c.in_err-walk.field-0.0) n (g.P.Platform.faults c.walk.new.platform)) c.loop-place.invariant.quiet c.in_err-walk.ensures.cause in
    rw (p.1, p.2) cause

pub loop-place-preserved : goal.loop-place-preserved
loop-place-preserved g t c =
    let want = c.args.want.now in let branch = c.branch_at-branch.result in
    let pages = (g.P.Platform.history c.args.platform.now).present.readable in
    let entries = c.read_node.new.entries.items in
    let at = subst (λ (es : List Entry). slice_get (branches want.most (want.level - 1) want.high es) c.loop-place.place ≡ Some branch) c.deref.ensures.0 c.branch_at-branch.ensures in
    record {
      ahead = λ tells.
          (let image : (g.P.Platform.history c.loop-place.platform).present.readable ≡ pages = ap (λ i. i.readable) (c.loop-place.invariant.looks.image tells) in
          let meets = subst (λ (ps : List (List ℕ)). Meets ps branch.want branch.key (Adds g.G.Gather.holds c.loop-place.gathered c.walk.new.gathered) (g.P.Platform.reads c.loop-place.platform) (g.P.Platform.reads c.walk.new.platform)) image (c.in_ok-walk.ensures.met tells) in
          ahead_more g.G.Gather.holds c.args.gathered.now c.loop-place.gathered c.walk.new.gathered pages want.most (want.level - 1) (branches want.most (want.level - 1) want.high entries) c.loop-place.place branch
          (node_at want.addr want.level entries) (g.P.Platform.reads c.args.platform.now) (g.P.Platform.reads c.loop-place.platform) (g.P.Platform.reads c.walk.new.platform)
          at (branch_level want.most (want.level - 1) want.high c.loop-place.place entries branch at) (branch_most want.most (want.level - 1) want.high c.loop-place.place entries branch at)
          (c.loop-place.invariant.ahead tells) meets);
      looks = search rules;
      quiet = c.in_ok-walk.ensures.cause.done ∙ c.loop-place.invariant.quiet;
    }

pub returns-clause-met : goal.returns-clause-met
returns-clause-met g t c = λ tells.
    (let want = c.args.want.now in let pages = (g.P.Platform.history c.args.platform.now).present.readable in
    let entries = c.read_node.new.entries.items in
    let size : length entries ≤ c.loop-place.place = omega (arith, c.loop-place-test.false, c.loop-place.auto.place-end, c.len-place-end.ensures.value) in
    ahead_all pages want c.args.key.now entries c.loop-place.place (Adds g.G.Gather.holds c.args.gathered.now c.loop-place.gathered) (g.P.Platform.reads c.args.platform.now) (g.P.Platform.reads c.loop-place.platform)
    c.requires.level size (c.in_ok-read_node.ensures.fits tells) (c.loop-place.invariant.ahead tells))

-- ---- where it is cut short

pub returns-in_err-read_node-clause-cut : goal.returns-in_err-read_node-clause-cut
returns-in_err-read_node-clause-cut g t c = λ tells.
    on_error c.from_residual.result _ (cut_here (g.P.Platform.history c.args.platform.now).present.readable c.args.want.now c.args.key.now (g.P.Platform.reads c.args.platform.now) (g.P.Platform.reads c.read_node.new.platform) (c.read_node.ensures.reads_most tells))

pub returns-in_err-node-clause-cut : goal.returns-in_err-node-clause-cut
returns-in_err-node-clause-cut g t c = λ tells.
    on_error c.from_residual-in_err-node.result _ (cut_here (g.P.Platform.history c.args.platform.now).present.readable c.args.want.now c.args.key.now (g.P.Platform.reads c.args.platform.now) (g.P.Platform.reads c.read_node.new.platform) (c.read_node.ensures.reads_most tells))

pub returns-in_err-walk-clause-cut : goal.returns-in_err-walk-clause-cut
returns-in_err-walk-clause-cut g t c = λ tells.
    (let want = c.args.want.now in let branch = c.branch_at-branch.result in
    let pages = (g.P.Platform.history c.args.platform.now).present.readable in
    let entries = c.read_node.new.entries.items in
    let at = subst (λ (es : List Entry). slice_get (branches want.most (want.level - 1) want.high es) c.loop-place.place ≡ Some branch) c.deref.ensures.0 c.branch_at-branch.ensures in
    let image : (g.P.Platform.history c.loop-place.platform).present.readable ≡ pages = ap (λ i. i.readable) (c.loop-place.invariant.looks.image tells) in
    let cut = subst (λ (ps : List (List ℕ)). CutShort ps branch.want branch.key (g.P.Platform.reads c.loop-place.platform) (g.P.Platform.reads c.walk.new.platform)) image (c.in_err-walk.ensures.cut tells) in
    on_error c.from_residual-in_err-walk.result _ (cut_later pages want c.args.key.now entries c.loop-place.place branch (Adds g.G.Gather.holds c.args.gathered.now c.loop-place.gathered)
    (g.P.Platform.reads c.args.platform.now) (g.P.Platform.reads c.loop-place.platform) (g.P.Platform.reads c.walk.new.platform)
    c.requires.level (c.in_ok-read_node.ensures.fits tells) at (c.loop-place.invariant.ahead tells) cut))
