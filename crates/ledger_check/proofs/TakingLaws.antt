-- How far the taking of a ledger has come.
use Rattle.std.proofs.Common.{◌≡◌, ℕ, ◌+◌, ◌<◌, ◌^◌, List, [], ◌∷◌, ◌++◌, Result, Ok, Err, length, refl, sym, ◌∙◌, ap, subst, arith, length-append}
use Rattle.std.specs.Prelude.{◌≢◌, Option}
use Rattle.text_lines.specs.Lines.{rest_of}
use Rattle.std.specs.Result.{IsErrAnd}
use Rattle.sdbt_base.specs.Told.{Gave, IsAtEnd}
use Rattle.sdbt_base.proofs.ToldLaws.{Gave-nothing, Gave-then}
use Rattle.cert_maker.specs.Cert.{Cert}
use Rattle.cert_codec.specs.Ledger.{IsLedger}
use Rattle.ledger_check.specs.declared.reader.LedgerReader.{LedgerReader}
use Rattle.ledger_check.specs.declared.refusals.JudgeRefusal.{JudgeRefusal}
use Rattle.ledger_check.specs.declared.refusals.JudgeRefusal.TheVariants as judges
use Rattle.ledger_check.specs.Judging.{FromInput, IsRead}
use Rattle.ledger_check.specs.Reading.{HasRead}

-- so much was taken that with the room that is left it is the limit, and all of it was read
pub record IsTaking (left left_now : Option (List ℕ)) (reader : LedgerReader) (room : ℕ) : Type 0 where
  pub taken : List ℕ
  pub gave : Gave left taken left_now
  pub most : length taken + room ≡ 2 ^ 32
  pub read : HasRead reader taken

pub IsTaking-start : (left : Option (List ℕ)) (reader : LedgerReader) (room : ℕ) → HasRead reader [] → room ≡ 2 ^ 32 → IsTaking left left reader room
IsTaking-start left reader room read all = record { taken = []; gave = Gave-nothing left; most = omega (arith, all); read = read }

-- one piece more
pub IsTaking-more : (left half left_now : Option (List ℕ)) (reader reader_now : LedgerReader) (room room_now : ℕ) (piece : List ℕ)
    → IsTaking left half reader room → Gave half piece left_now → room ≡ length piece + room_now
    → ((taken : List ℕ) → HasRead reader taken → HasRead reader_now (taken ++ piece)) → IsTaking left left_now reader_now room_now
IsTaking-more left half left_now reader reader_now room room_now piece t gave less read = record {
  taken = t.taken ++ piece;
  gave = Gave-then left t.taken half piece left_now t.gave gave;
  most = omega (arith, t.most, less, length-append t.taken piece);
  read = read t.taken t.read;
}

first_none : (first second : List ℕ) → first ++ second ≡ [] → first ≡ []
first_none [] second none = refl
first_none (byte ∷ first) second none = absurd (let no : byte ∷ (first ++ second) ≡ [] = none in cc)

-- nothing follows the last line feed of nothing
rest_none : (taken : List ℕ) → taken ≡ [] → rest_of taken ≡ []
unfolding rest_of
rest_none taken none = ap (λ (t : List ℕ). rest_of t) none

-- the end of the input
pub took_all : (left left_now : Option (List ℕ)) (reader : LedgerReader) (room : ℕ) (certs : List Cert) → IsTaking left left_now reader room → 0 < room → IsAtEnd left_now
    → ((taken : List ℕ) → HasRead reader taken → IsLedger taken certs) → FromInput IsRead left left_now (Ok certs)
took_all left left_now reader room certs t some end ledger = record {
  taken = t.taken;
  gave = t.gave;
  most = omega (arith, t.most);
  is = record { short = omega (arith, t.most, some); end = end; ledger = ledger t.taken t.read };
}

-- the input failed
pub took_part : (left left_now : Option (List ℕ)) (reader : LedgerReader) (room : ℕ) → IsTaking left left_now reader room → 0 < room → FromInput IsRead left left_now (Err judges.Source)
took_part left left_now reader room t some = record { taken = t.taken; gave = t.gave; most = omega (arith, t.most); is = omega (arith, t.most, some) }

-- the limit is reached
pub took_most : (left left_now : Option (List ℕ)) (reader : LedgerReader) (room : ℕ) → IsTaking left left_now reader room → room ≡ 0 → FromInput IsRead left left_now (Err judges.Limit)
took_most left left_now reader room t none = record { taken = t.taken; gave = t.gave; most = omega (arith, t.most, none); is = omega (arith, t.most, none) }

-- the last piece that there is room for reaches the limit
pub took_last : (left half left_now : Option (List ℕ)) (reader : LedgerReader) (room : ℕ) (piece : List ℕ) → IsTaking left half reader room → Gave half piece left_now → length piece ≡ room
    → FromInput IsRead left left_now (Err judges.Limit)
took_last left half left_now reader room piece t gave all =
    let whole = length-append t.taken piece in
    record { taken = t.taken ++ piece; gave = Gave-then left t.taken half piece left_now t.gave gave; most = omega (arith, t.most, all, whole); is = omega (arith, t.most, all, whole) }

-- something was taken
some_taken : (taken piece : List ℕ) → 0 < length piece → taken ++ piece ≢ []
some_taken taken piece some = λ none. absurd (omega (arith, some, length-append taken piece, ap length none))

-- no memory was given, for a piece that isn't the last
pub took_some : (left half left_now : Option (List ℕ)) (reader : LedgerReader) (room : ℕ) (piece : List ℕ) → IsTaking left half reader room → Gave half piece left_now → 0 < length piece → length piece < room
    → FromInput IsRead left left_now (Err judges.Memory)
took_some left half left_now reader room piece t gave some short =
    let whole = length-append t.taken piece in
    record {
      taken = t.taken ++ piece;
      gave = Gave-then left t.taken half piece left_now t.gave gave;
      most = omega (arith, t.most, short, whole);
      is = (some_taken t.taken piece some, omega (arith, t.most, short, whole));
    }

-- nor for a last line, where the take of the end gave nothing
pub took_rest : (left half left_now : Option (List ℕ)) (reader : LedgerReader) (room : ℕ) (piece : List ℕ) → IsTaking left half reader room → Gave half piece left_now → length piece ≡ 0 → 0 < room → reader.line.items ≢ []
    → FromInput IsRead left left_now (Err judges.Memory)
took_rest left half left_now reader room piece t gave end some line =
    let whole = length-append t.taken piece in
    record {
      taken = t.taken ++ piece;
      gave = Gave-then left t.taken half piece left_now t.gave gave;
      most = omega (arith, t.most, end, whole);
      is = (λ none. line (t.read.line ∙ rest_none t.taken (first_none t.taken piece none)), omega (arith, t.most, end, some, whole));
    }

-- the same of what `?` made of it
pub took_less : (left half left_now : Option (List ℕ)) (reader : LedgerReader) (room : ℕ) (piece : List ℕ) (result : Result (List Cert) JudgeRefusal) → IsTaking left half reader room
    → Gave half piece left_now → 0 < length piece → length piece < room → IsErrAnd result (λ refusal. refusal ≡ judges.Memory) → FromInput IsRead left left_now result
took_less left half left_now reader room piece (Ok certs) t gave some short is = absurd is
took_less left half left_now reader room piece (Err refusal) t gave some short is =
    subst (λ (e : JudgeRefusal). FromInput IsRead left left_now (Err e)) (sym is) (took_some left half left_now reader room piece t gave some short)

pub took_fewer : (left half left_now : Option (List ℕ)) (reader : LedgerReader) (room : ℕ) (piece : List ℕ) (result : Result (List Cert) JudgeRefusal) → IsTaking left half reader room → Gave half piece left_now
    → length piece ≡ 0 → 0 < room → reader.line.items ≢ [] → IsErrAnd result (λ refusal. refusal ≡ judges.Memory) → FromInput IsRead left left_now result
took_fewer left half left_now reader room piece (Ok certs) t gave end some line is = absurd is
took_fewer left half left_now reader room piece (Err refusal) t gave end some line is =
    subst (λ (e : JudgeRefusal). FromInput IsRead left left_now (Err e)) (sym is) (took_rest left half left_now reader room piece t gave end some line)
