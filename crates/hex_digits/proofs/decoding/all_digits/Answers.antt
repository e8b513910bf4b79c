use Rattle.std.proofs.Common.{◌≡◌, arith, sym, ◌∙◌, ap, nat_lt}
use Rattle.std.specs.List.{list_all}
use Rattle.std.proofs.lemmas.List.{take_all}
use Rattle.std.proofs.lemmas.List.Sums.{AllPass-from_list_all, list_all-from_AllPass}
use Rattle.hex.specs.Hex.{is_hex_digit}
use Rattle.hex_digits.proofs.decoding.all_digits.Goals as goal

pub returns : goal.returns
returns c =
    let whole : nat_lt c.digits.worst 10 ≡ list_all is_hex_digit c.args.digits.now =
    c.digits.invariant ∙ ap (list_all is_hex_digit) (take_all c.digits.i c.args.digits.now (omega arith)) in (
      λ h. AllPass-from_list_all is_hex_digit _ (sym whole ∙ h),
      λ h. whole ∙ list_all-from_AllPass is_hex_digit _ h,
    )
