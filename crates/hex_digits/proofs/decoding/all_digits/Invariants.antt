use Rattle.std.proofs.Common.{◌≡◌, nat_lt, take}
use Rattle.std.specs.List.{list_all}
use Rattle.hex.specs.Hex.{is_hex_digit}
use Rattle.hex_digits.proofs.decoding.all_digits.Given as goal

abbrev pub invariant-digits : goal.invariant-digits
invariant-digits l = nat_lt l.worst 10 ≡ list_all is_hex_digit (take l.i l.digits)
