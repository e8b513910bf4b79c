-- The lines of the commands that a script has.
use Rattle.std.proofs.Common.{◌≡◌, ◌≢◌, ℕ, zero, suc, ◌/◌, ◌%◌, ◌^◌, ◌<◌, ◌≤◌, Bool, true, false, cond, ◌==◌, inl, inr, List, [], ◌∷◌, ◌++◌, length, get_or, refl, arith, length-append}
use Rattle.std.specs.Prelude.{codes}
use Rattle.std.specs.Fmt.{decimal}
use Rattle.std.specs.Int.{w32, to_be_bytes}
use Rattle.std.proofs.lemmas.Bool.{cases_Bool, eqb-false}
use Rattle.std.proofs.lemmas.Fmt.{length-decimal-le}
use Rattle.std.proofs.lemmas.Nat.{mod_below}
use Rattle.hex.specs.Hex.{encode_lower, encode_with, lower_digits}
use Rattle.hex.proofs.HexLemmas.{decode_of-encode_lower}
use Rattle.text_lines.specs.Lines.{HasNone}
use Rattle.text_lines.proofs.LineLaws.{HasNone-append}
use Rattle.script_lang.specs.Commands.{Command}
use Rattle.script_lang.specs.Commands.{Format, Mount, Read, Write, Trim, Commit, Stat, Seize}
use Rattle.script_lang.specs.Grammar.{Spells}
use Rattle.script_lang.proofs.Numbers.{number_has_none}
use Rattle.workload.specs.Lines.{text_of, line_of}

-- whether the byte stands nowhere in the text
abbrev lacks : ℕ → List ℕ → Bool
lacks byte [] = true
lacks byte (b ∷ text) = cond (b == byte) false (lacks byte text)

none_from_test : (byte : ℕ) (text : List ℕ) → lacks byte text ≡ true → HasNone byte text
none_from_test byte [] h = tt
none_from_test byte (b ∷ text) h =
    elim (cases_Bool (b == byte)) [
      | inl same ↦ absurd (cc (rw same at h))
      | inr other ↦ ((λ e. absurd (omega (arith, eqb-false b byte other, e))), none_from_test byte text (rw other at h))
    ]

none_in_number : (n : ℕ) → n < 2 ^ 64 → HasNone 10 (decimal n)
none_in_number n h = number_has_none 10 (inl (omega arith)) (decimal n) n (h, refl)

-- what stands at a place of a text without line feed is none
at_place : (text : List ℕ) → HasNone 10 text → (i : ℕ) → get_or text i 0 ≢ 10
at_place [] h i = λ e. absurd (omega (arith, e))
at_place (b ∷ text) h zero = h.0
at_place (b ∷ text) h (suc i) = at_place text h.1 i

none_in_hex : (bytes : List ℕ) → HasNone 10 (encode_lower bytes)
unfolding encode_with
none_in_hex [] = tt
none_in_hex (b ∷ bytes) =
    let digits : HasNone 10 lower_digits = none_from_test 10 lower_digits refl in
    (at_place lower_digits digits (b / 16), (at_place lower_digits digits (b % 16), none_in_hex bytes))

-- a command's line spells it, is one line, and is short
pub record IsPlain (command : Command) : Type 0 where
  pub spelled : Spells (text_of command) command
  pub one_line : HasNone 10 (text_of command)
  pub short : length (line_of command) ≤ 20

pub format_is_plain : IsPlain (Format 4096 16)
unfolding text_of
format_is_plain = record {
  spelled = (decimal 4096, decimal 16, (omega arith, refl), (omega arith, refl), refl);
  one_line = HasNone-append 10 (codes "format ") (decimal 4096 ++ 32 ∷ decimal 16) (none_from_test 10 (codes "format ") refl)
      (HasNone-append 10 (decimal 4096) (32 ∷ decimal 16) (none_in_number 4096 (omega arith))
      ((λ e. absurd (omega (arith, e))), none_in_number 16 (omega arith)));
  short = simp length-append (omega (arith, length-decimal-le 4 4096 (omega arith) (omega arith) (omega arith), length-decimal-le 2 16 (omega arith) (omega arith) (omega arith)));
}

pub mount_is_plain : IsPlain Mount
unfolding text_of
mount_is_plain = record { spelled = refl; one_line = none_from_test 10 (codes "mount") refl; short = omega arith }

pub read_is_plain : (block : ℕ) → block < 4096 → IsPlain (Read block)
unfolding text_of
read_is_plain block h = record {
  spelled = (decimal block, (omega arith, refl), refl);
  one_line = HasNone-append 10 (codes "read ") (decimal block) (none_from_test 10 (codes "read ") refl) (none_in_number block (omega arith));
  short = simp length-append (omega (arith, length-decimal-le 4 block (omega arith) (omega arith) (omega arith)));
}

-- the bytes of a number are bytes
small_bytes : (n i : ℕ) → get_or (to_be_bytes w32 n) i 0 < 256
small_bytes n zero = mod_below (n / 256 ^ 3) 256 (omega arith)
small_bytes n (suc zero) = mod_below (n / 256 ^ 2) 256 (omega arith)
small_bytes n (suc (suc zero)) = mod_below (n / 256 ^ 1) 256 (omega arith)
small_bytes n (suc (suc (suc zero))) = mod_below n 256 (omega arith)
small_bytes n (suc (suc (suc (suc i)))) = omega arith

pub write_is_plain : (block n : ℕ) → block < 4096 → IsPlain (Write block (to_be_bytes w32 n))
unfolding text_of encode_with
write_is_plain block n h = record {
  spelled = (
    decimal block,
    encode_lower (to_be_bytes w32 n),
    (omega arith, refl),
    (decode_of-encode_lower (to_be_bytes w32 n) (small_bytes n), omega arith, omega arith),
    refl,
  );
  one_line = HasNone-append 10 (codes "write ") (decimal block ++ 32 ∷ encode_lower (to_be_bytes w32 n)) (none_from_test 10 (codes "write ") refl)
      (HasNone-append 10 (decimal block) (32 ∷ encode_lower (to_be_bytes w32 n)) (none_in_number block (omega arith))
      ((λ e. absurd (omega (arith, e))), none_in_hex (to_be_bytes w32 n)));
  short = simp length-append (omega (arith, length-decimal-le 4 block (omega arith) (omega arith) (omega arith)));
}

pub trim_is_plain : (block : ℕ) → block < 4096 → IsPlain (Trim block)
unfolding text_of
trim_is_plain block h = record {
  spelled = (decimal block, (omega arith, refl), refl);
  one_line = HasNone-append 10 (codes "trim ") (decimal block) (none_from_test 10 (codes "trim ") refl) (none_in_number block (omega arith));
  short = simp length-append (omega (arith, length-decimal-le 4 block (omega arith) (omega arith) (omega arith)));
}

pub commit_is_plain : IsPlain Commit
unfolding text_of
commit_is_plain = record { spelled = refl; one_line = none_from_test 10 (codes "commit") refl; short = omega arith }

pub stat_is_plain : IsPlain Stat
unfolding text_of
stat_is_plain = record { spelled = refl; one_line = none_from_test 10 (codes "stat") refl; short = omega arith }

pub seize_is_plain : IsPlain Seize
unfolding text_of
seize_is_plain = record { spelled = refl; one_line = none_from_test 10 (codes "seize") refl; short = omega arith }
