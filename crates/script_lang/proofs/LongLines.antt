-- How long a line of the grammar can be.
use Rattle.std.proofs.Common.{ℕ, ◌<◌, ◌≤◌, List, length, ap, arith, length-append}
use Rattle.std.proofs.lemmas.Fmt.{length-decimal-le}
use Rattle.hex.proofs.HexLemmas.{decode_of-ok}
use Rattle.script_lang.specs.Grammar.{IsBad, IsNumber, IsHex}
use Rattle.script_lang.specs.Commands.{Format, Mount, Read, Write, Trim, Commit, Drop, Erase, Upgrade, Stat, Seize}

pub number_is_short : (text : List ℕ) (n : ℕ) → IsNumber text n → length text ≤ 20
number_is_short text n h = omega (arith, ap length h.1, length-decimal-le 20 n (omega arith) (omega (arith, h.0)) h.0)

pub hex_is_short : (text content : List ℕ) → IsHex text content → length text ≤ 8192
hex_is_short text content h = omega (arith, (decode_of-ok text content h.0).2, h.2)

-- no line of more than 8,300 bytes is in the grammar
pub long_is_bad : (line : List ℕ) → 8300 < length line → IsBad line
long_is_bad line long (Format blocks order) (a, b, m, n, e) = omega (arith, long, simp length-append at (ap length e), number_is_short a blocks m, number_is_short b order n)
long_is_bad line long Mount e = omega (arith, long, ap length e)
long_is_bad line long (Read block) (a, m, e) = omega (arith, long, simp length-append at (ap length e), number_is_short a block m)
long_is_bad line long (Write block content) (a, b, m, n, e) = omega (arith, long, simp length-append at (ap length e), number_is_short a block m, hex_is_short b content n)
long_is_bad line long (Trim block) (a, m, e) = omega (arith, long, simp length-append at (ap length e), number_is_short a block m)
long_is_bad line long Commit e = omega (arith, long, ap length e)
long_is_bad line long Drop e = omega (arith, long, ap length e)
long_is_bad line long Erase e = omega (arith, long, ap length e)
long_is_bad line long Upgrade e = omega (arith, long, ap length e)
long_is_bad line long Stat e = omega (arith, long, ap length e)
long_is_bad line long Seize e = omega (arith, long, ap length e)
