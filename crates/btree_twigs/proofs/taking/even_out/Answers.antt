use Rattle.std.proofs.Common.{◌≡◌, ◌+◌, ◌++◌, length, ap, ◌∙◌, arith, append-nil, length-append}
use Rattle.btree_twigs.proofs.taking.even_out.Goals as goal

pub returns-then-len-half-2-clause-two : goal.returns-then-len-half-2-clause-two
returns-then-len-half-2-clause-two c =
    let all = ap length c.lend_last.ensures.all in
    let e : length c.lend_last.new.left.items + length c.lend_last.new.right.items ≡ length c.args.left.now.items + length c.args.right.now.items
    = omega (arith, all, length-append c.lend_last.new.left.items c.lend_last.new.right.items, length-append c.args.left.now.items c.args.right.now.items) in
    let fewer = c.lend_last.ensures.fewer in
    let short = c.requires.short in
    (omega arith, omega arith, omega arith, omega arith)

pub returns-then-len-half-2-clause-lent : goal.returns-then-len-half-2-clause-lent
returns-then-len-half-2-clause-lent c =
    let all = ap length c.lend_last.ensures.all in
    let e : length c.lend_last.new.left.items + length c.lend_last.new.right.items ≡ length c.args.left.now.items + length c.args.right.now.items
    = omega (arith, all, length-append c.lend_last.new.left.items c.lend_last.new.right.items, length-append c.args.left.now.items c.args.right.now.items) in
    let fewer = c.lend_last.ensures.fewer in
    ((λ lt. omega arith), (λ le. omega arith))

pub returns-clause-all : goal.returns-clause-all
returns-clause-all c =
    ap (λ xs. c.append.new.left.items ++ xs) c.append.ensures.none ∙ append-nil c.append.new.left.items ∙ c.append.ensures.all
