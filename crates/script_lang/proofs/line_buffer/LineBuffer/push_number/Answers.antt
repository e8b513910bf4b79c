use Rattle.std.proofs.Common.{arith, ◌≡◌, ◌∙◌, ◌+◌, ◌≤◌, ◌<◌, ◌^◌, ◌++◌, ℕ, List, length, take, drop, ap, subst}
use Rattle.std.specs.Fmt.{decimal}
use Rattle.std.proofs.lemmas.Fmt.{length-decimal-le}
use Rattle.std.proofs.lemmas.List.{length-append, length-take-le}
use Rattle.script_lang.specs.Lines.{Line}
use Rattle.script_lang.proofs.RoomLaws.{IsWritten, front_written, behind_written}
use Rattle.script_lang.proofs.line_buffer.LineBuffer.push_number.Goals as goal

-- a number has 20 digits at most, and a line that leaves room for 20 has room for them
room : (number count len : ℕ) (bytes line : List ℕ) → number < 2 ^ 64 → count ≡ length (decimal number) → length bytes ≡ 8300 → len ≤ 8300 → take len bytes ≡ line → length line + 20 ≤ 8300
    → (count ≤ 20) × (len + 20 ≤ 8300)
room number count len bytes line small is told fits view short =
    let most = length-decimal-le 20 number (omega arith) (omega arith) small in
    let same = length-take-le len bytes (omega arith) in
    (omega arith, omega (arith, same, ap length view))

pub overflow_add-end : goal.overflow_add-end
overflow_add-end c = let it = room c.args.number c.count_digits.result c.self.inside.len c.self.inside.bytes c.args.self.now.text (omega arith) c.count_digits.ensures c.self.told c.self.invariant.fits (ap (λ (line : Line). line.text) c.self.view_is) c.requires in omega (arith, it.0, it.1)

pub write_digits-requires : goal.write_digits-requires
write_digits-requires c =
    let it = room c.args.number c.count_digits.result c.self.inside.len c.self.inside.bytes c.args.self.now.text (omega arith) c.count_digits.ensures c.self.told c.self.invariant.fits (ap (λ (line : Line). line.text) c.self.view_is) c.requires in
    (omega (arith, c.count_digits.ensures), omega (arith, it.0, it.1, c.self.told))

-- the digits stand behind the line, and all else in the room as it was
put : (c : goal.After-self-1) → IsWritten c.self.inside.len (decimal c.args.number) c.self.inside.bytes c.write_digits.new.buf
put c =
    let P : ℕ → Type 0 = λ at. take at c.write_digits.new.buf ≡ take at c.self.inside.bytes in
    let Q : ℕ → ℕ → Type 0 = λ at end. drop at c.write_digits.new.buf ≡ decimal c.args.number ++ drop end c.self.inside.bytes in
    let start : c.write_digits.result ≡ c.self.inside.len = omega (arith, c.write_digits.ensures.start, c.count_digits.ensures) in
    record {
      before = subst P start c.write_digits.ensures.before;
      written = subst (λ at. Q at (c.self.inside.len + length (decimal c.args.number))) start (subst (λ count. Q c.write_digits.result (c.self.inside.len + count)) c.count_digits.ensures c.write_digits.ensures.written);
      fits = omega (arith, c.self.told, c.self.invariant.fits);
    }

pub invariant_of-self : goal.invariant_of-self
invariant_of-self c =
    let it = room c.args.number c.count_digits.result c.self.inside.len c.self.inside.bytes c.args.self.now.text (omega arith) c.count_digits.ensures c.self.told c.self.invariant.fits (ap (λ (line : Line). line.text) c.self.view_is) c.requires in
    record {
      fits = omega (arith, it.0, it.1);
      short = c.self.invariant.short;
      zeros = λ place behind unused. behind_written c.self.inside.len (decimal c.args.number) c.self.inside.bytes c.write_digits.new.buf (put c) place (omega (arith, c.count_digits.ensures))
          ∙ c.self.invariant.zeros place (omega arith) unused;
    }

text : (c : goal.After-self-1) → take (c.self.inside.len + c.count_digits.result) c.write_digits.new.buf ≡ c.args.self.now.text ++ decimal c.args.number
text c =
    ap (λ count. take (c.self.inside.len + count) c.write_digits.new.buf) c.count_digits.ensures
    ∙ front_written c.self.inside.len (decimal c.args.number) c.self.inside.bytes c.write_digits.new.buf (put c)
    ∙ ap (λ (line : Line). line.text ++ decimal c.args.number) c.self.view_is

pub returns-clause-text : goal.returns-clause-text
returns-clause-text c = text c

pub returns-clause-short : goal.returns-clause-short
returns-clause-short c =
    let it = room c.args.number c.count_digits.result c.self.inside.len c.self.inside.bytes c.args.self.now.text (omega arith) c.count_digits.ensures c.self.told c.self.invariant.fits (ap (λ (line : Line). line.text) c.self.view_is) c.requires in
    omega (arith, ap length (text c), length-append c.args.self.now.text (decimal c.args.number), it.0, c.count_digits.ensures)
