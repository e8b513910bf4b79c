-- Head, content and zeros are written one behind the other.
use Rattle.std.proofs.Common.{◌≡◌, ◌-◌, ◌+◌, ◌++◌, ◌∙◌, ℕ, List, ap, sym, subst, drop, replicate, length, arith}
use Rattle.std.proofs.Math.Seq.{drop-append-add}
use Rattle.std.proofs.lemmas.List.{drop-drop, drop-replicate, drop_at, length-drop}
use Rattle.node_codec.specs.Record.{record_bytes}
use Rattle.node_codec.proofs.encoding.encode_block_over.Goals as goal

-- what is left of zeros that begin at a place, behind another place
zeros_left : (start used : ℕ) (bytes : List ℕ) → length bytes ≡ 4128 → drop start bytes ≡ replicate (4128 - start) 0
    → drop (start - used) (drop used bytes) ≡ replicate (length (drop used bytes) - (start - used)) 0
zeros_left start used bytes size are =
    drop-drop (start - used) used bytes
    ∙ ap (λ n. drop n bytes) (omega arith)
    ∙ sym (drop-drop (used - start) start bytes)
    ∙ ap (drop (used - start)) are
    ∙ drop-replicate (used - start) (4128 - start) 0
    ∙ ap (λ n. replicate n 0) (omega (length-drop used bytes, size, arith))

-- what stands behind a head and so many bytes
behind_both : (head start rest : List ℕ) (n : ℕ) → length head ≡ 32 → length start ≡ n → drop (32 + n) (head ++ (start ++ rest)) ≡ rest
behind_both head start rest n size here =
    ap (λ (k : ℕ). drop (k + n) (head ++ (start ++ rest))) (sym size) ∙ drop-append-add head (start ++ rest) n ∙ drop_at start rest n here

pub put_zeros_before-requires : goal.put_zeros_before-requires
put_zeros_before-requires c =
    let used : ℕ = 32 + length c.args.content.now in
    let rest : c.split_at_mut-start.result.1.now ≡ drop used c.args.out.now =
    c.split_at_mut-start.ensures.back ∙ ap (drop (length c.args.content.now)) c.split_at_mut-front.ensures.back ∙ drop-drop _ 32 c.args.out.now in
    subst (λ bytes. drop c.saturating_sub.result bytes ≡ replicate (length bytes - c.saturating_sub.result) 0) (sym rest)
    (subst (λ n. drop n (drop used c.args.out.now) ≡ replicate (length (drop used c.args.out.now) - n) 0) (sym c.saturating_sub.ensures)
    (zeros_left c.args.zeros used c.args.out.now c.requires.size c.requires.zeros))

pub returns-clause-record : goal.returns-clause-record
unfolding record_bytes
returns-clause-record c = λ version.
    let left : length c.split_at_mut-start.result.1.now ≡ 4096 - length c.args.content.now = omega arith in
    simp (c.put_head.ensures, c.copy_from_slice.ensures.after, c.put_zeros_before.ensures, left)

pub returns-clause-zeros : goal.returns-clause-zeros
returns-clause-zeros c =
    let head : length c.put_head.new.out ≡ 32 = omega (arith, c.requires.size) in
    let start : length c.copy_from_slice.new.self ≡ length c.args.content.now = ap length c.copy_from_slice.ensures.after in
    let left : length c.split_at_mut-start.result.1.now ≡ 4128 - (32 + length c.args.content.now) = omega arith in
    behind_both c.put_head.new.out c.copy_from_slice.new.self c.put_zeros_before.new.out (length c.args.content.now) head start
    ∙ c.put_zeros_before.ensures
    ∙ ap (λ (n : ℕ). replicate n 0) left
