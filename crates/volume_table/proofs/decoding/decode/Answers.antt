use Rattle.std.proofs.Common.{◌≡◌, ℕ, ◌+◌, ◌*◌, ◌-◌, List, [], ◌∷◌, ◌++◌, subst, Some, length, get_or, replicate, take, drop, sym, ap, ◌∙◌, arith}
use Rattle.std.proofs.lemmas.Bool.{false≢true}
use Rattle.std.specs.List.{flat_map}
use Rattle.std.proofs.lemmas.List.{length-replicate, length_push}
use Rattle.std.proofs.lemmas.Option.{none-some, same_Some}
use Rattle.volume_table.specs.Tables.{IsTable, volume_bytes}
use Rattle.volume_table.specs.declared.volume.Volume.{Volume}
use Rattle.volume_table.proofs.TableLaws.{Continues, pushed, ends_at, goes_on, is_full, continues_more, spelled_more}
use Rattle.volume_table.proofs.decoding.decode.Goals as goal

pub returns-then-are_zero-clause-again : goal.returns-then-are_zero-clause-again
returns-then-are_zero-clause-again c table is same =
    let back = c.split_at.ensures.back in
    let ends = ends_at c.args.blocks c.loop-i.table table (drop (64 * c.loop-i.i) c.args.bytes.now) (c.loop-i.invariant.only table is same) is
    (ap (λ (xs : List ℕ). get_or xs 0 0) (sym back) ∙ c.if-rest-eq0.true) in
    ap Some (sym ends.same)

pub returns-else-are_zero-clause-none : goal.returns-else-are_zero-clause-none
returns-else-are_zero-clause-none c table is same =
    let rest = c.split_at.result.1.now in
    let back = c.split_at.ensures.back in
    let ends = ends_at c.args.blocks c.loop-i.table table (drop (64 * c.loop-i.i) c.args.bytes.now) (c.loop-i.invariant.only table is same) is
    (ap (λ (xs : List ℕ). get_or xs 0 0) (sym back) ∙ c.if-rest-eq0.true) in
    let zeros : rest ≡ replicate (4096 - 64 * length table) 0 = back ∙ ends.zeros in
    let size : length rest ≡ 4096 - 64 * length table = ap length zeros ∙ length-replicate {A = ℕ} (4096 - 64 * length table) 0 in
    false≢true (c.if-are_zero.ensures.1 (zeros ∙ ap (λ (n : ℕ). replicate n 0) (sym size)))

pub returns-else-are_zero-clause-again : goal.returns-else-are_zero-clause-again
returns-else-are_zero-clause-again c table is same = absurd (returns-else-are_zero-clause-none c table is same)

pub returns-in_err-volume-clause-none : goal.returns-in_err-volume-clause-none
returns-in_err-volume-clause-none c = rw c.from_residual.ensures (λ table is same.
    let back = c.split_at.ensures.back in
    let next = goes_on c.args.blocks c.loop-i.table table (drop (64 * c.loop-i.i) c.args.bytes.now) (c.loop-i.invariant.only table is same) is
    (λ first. c.if-rest-eq0.false (ap (λ (xs : List ℕ). get_or xs 0 0) back ∙ first)) in
    none-some next.volume (c.in_err-volume.ensures.only next.volume next.follows (ap (take 64) back ∙ next.entry)))

pub returns-in_err-volume-clause-again : goal.returns-in_err-volume-clause-again
returns-in_err-volume-clause-again c table is same =
    let back = c.split_at.ensures.back in
    let next = goes_on c.args.blocks c.loop-i.table table (drop (64 * c.loop-i.i) c.args.bytes.now) (c.loop-i.invariant.only table is same) is
    (λ first. c.if-rest-eq0.false (ap (λ (xs : List ℕ). get_or xs 0 0) back ∙ first)) in
    absurd (none-some next.volume (c.in_err-volume.ensures.only next.volume next.follows (ap (take 64) back ∙ next.entry)))

pub loop-i-preserved : goal.loop-i-preserved
loop-i-preserved c =
    let so_far = c.loop-i.invariant in
    let back = c.split_at.ensures.back in
    let found = c.in_ok-volume.ensures.found in
    let table = c.loop-i.table ++ c.in_ok-volume.volume ∷ [] in
    let now : c.push.new.self ≡ table = c.push.ensures in
    let size : length table ≡ c.loop-i.i + 1 = omega (arith, length_push c.loop-i.table c.in_ok-volume.volume) in
    record {
      count = ap length now ∙ size;
      table = subst (IsTable c.args.blocks) (sym now) (pushed c.args.blocks c.loop-i.table c.in_ok-volume.volume so_far.table (omega arith) found.0);
      spelled = ap (λ (t : List Volume). flat_map volume_bytes t ++ drop (64 * (c.loop-i.i + 1)) c.args.bytes.now) now
          ∙ spelled_more c.loop-i.i c.loop-i.table c.in_ok-volume.volume c.args.bytes.now so_far.spelled (ap (take 64) (sym back) ∙ found.1);
      only = λ other is same.
          let next = goes_on c.args.blocks c.loop-i.table other (drop (64 * c.loop-i.i) c.args.bytes.now) (so_far.only other is same) is
          (λ first. c.if-rest-eq0.false (ap (λ (xs : List ℕ). get_or xs 0 0) back ∙ first)) in
          let read = c.in_ok-volume.ensures.only next.volume next.follows (ap (take 64) back ∙ next.entry) in
          let volume : next.volume ≡ c.in_ok-volume.volume = sym (same_Some _ _ read) in
          subst (λ (t : List Volume). Continues t other (drop (64 * (c.loop-i.i + 1)) c.args.bytes.now)) (sym now)
          (continues_more c.args.blocks c.loop-i.i c.loop-i.table other c.in_ok-volume.volume c.args.bytes.now next volume);
    }

pub returns-clause-again : goal.returns-clause-again
returns-clause-again c table is same =
    ap Some (sym (is_full c.loop-i.table table _ (c.loop-i.invariant.only table is same) (omega arith) is.most))
