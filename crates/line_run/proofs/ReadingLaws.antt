-- How far the serving of an input has come, whatever a server says of its lines.
use Rattle.std.proofs.Common.{◌≡◌, ℕ, ◌+◌, ◌<◌, ◌≤◌, ◌^◌, List, [], ◌++◌, Option, Ok, Err, length, inl, inr, refl, sym, subst, arith, length-append}
use Rattle.std.specs.Prelude.{IfErr}
use Rattle.std.proofs.lemmas.List.{append-nil}
use Rattle.sdbt_base.specs.Told.{Gave, IsAtEnd}
use Rattle.sdbt_base.proofs.ToldLaws.{Gave-nothing, Gave-then}
use Rattle.text_lines.specs.Lines.{whole_lines_of, rest_of, lines_of, last_line as line_at_end}
use Rattle.text_lines.proofs.LineLaws.{whole_lines_of-append, rest_of-append, lines_of-whole}
use Rattle.line_run.specs.Pending.{IsPending, IsUnfinished}
use Rattle.line_run.specs.Puts.{AreLines, HaveCome, IsPrompt}
use Rattle.line_run.specs.Runs.{Ran}
use Rattle.line_run.specs.Stops.{IsOfLine, TookUntil, Ending}
use Rattle.line_run.specs.declared.stop.Stop.{Stop}
use Rattle.line_run.specs.declared.stop.Stop.TheVariants as stops
use Rattle.line_run.proofs.LineLaws.{Handling}
use Rattle.line_run.proofs.StopLaws.{TookUntil-line}

-- what a server says of lines adds up, and so do its replies: there is one for each line; none is lost by lines behind them; and none where the input fails behind them, or its limit is reached
pub record Replying (W : Type 0) (Fits : W → Type 0) (Handled : W → W → Ending → List (List ℕ) → Option (List ℕ) → Option (List ℕ) → Type 0) (count : (old new : W) (ending : Ending) (lines : List (List ℕ)) (a b : Option (List ℕ)) → Handled old new ending lines a b → ℕ) : Type 0 where
  pub handling : Handling W Fits Handled
  pub each : (old new : W) (lines : List (List ℕ)) (a b : Option (List ℕ)) (p : Handled old new (Ok tt) lines a b) → count old new (Ok tt) lines a b p ≡ length lines
  pub behind : (old mid new : W) (ending : Ending) (lines more : List (List ℕ)) (a b c : Option (List ℕ)) (p : Handled old mid (Ok tt) lines a b) (q : Handled mid new ending more b c)
      → count old mid (Ok tt) lines a b p ≤ count old new ending (lines ++ more) a c (handling.behind old mid new ending lines more a b c p q)
  pub failed : (old new : W) (lines : List (List ℕ)) (a b : Option (List ℕ)) (p : Handled old new (Ok tt) lines a b) → (q : Handled old new (Err stops.Source) lines a b) × (count old new (Ok tt) lines a b p ≤ count old new (Err stops.Source) lines a b q)
  pub limit : (old new : W) (lines : List (List ℕ)) (a b : Option (List ℕ)) (p : Handled old new (Ok tt) lines a b) → (q : Handled old new (Err stops.Limit) lines a b) × (count old new (Ok tt) lines a b p ≤ count old new (Err stops.Limit) lines a b q)

-- so much was taken that with the room that is left it is the limit; the whole lines in it are handled, and this is pending of the rest
pub record IsReading {W : Type 0} (Handled : W → W → Ending → List (List ℕ) → Option (List ℕ) → Option (List ℕ) → Type 0) (old new : W) (left left_now written written_now : Option (List ℕ)) (pending : Option (List ℕ)) (room : ℕ) : Type 0 where
  pub taken : List ℕ
  pub gave : Gave left taken left_now
  pub most : length taken + room ≡ 2 ^ 32
  pub unfinished : IsUnfinished pending (rest_of taken)
  pub handled : Handled old new (Ok tt) (whole_lines_of taken) written written_now

pub IsReading-start : {W : Type 0} (Fits : W → Type 0) (Handled : W → W → Ending → List (List ℕ) → Option (List ℕ) → Option (List ℕ) → Type 0) → Handling W Fits Handled → (w : W) (left written pending : Option (List ℕ)) (room : ℕ) → Fits w → IsPending pending [] → room ≡ 2 ^ 32
    → IsReading Handled w w left left written written pending room
unfolding whole_lines_of rest_of
IsReading-start Fits Handled h w left written pending room fits clear all = record {
  taken = [];
  gave = Gave-nothing left;
  most = omega (arith, all);
  unfinished = record { is_pending = clear; feedless = tt };
  handled = h.nothing w written fits;
}

-- more lines behind those that were read, which together are these: those that were read have their replies
with_lines : {W : Type 0} {Fits : W → Type 0} {Handled : W → W → Ending → List (List ℕ) → Option (List ℕ) → Option (List ℕ) → Type 0} {count : (old new : W) (ending : Ending) (lines : List (List ℕ)) (a b : Option (List ℕ)) → Handled old new ending lines a b → ℕ} → Replying W Fits Handled count
    → (old mid new : W) (ending : Ending) (lines more all : List (List ℕ)) (a b c : Option (List ℕ)) → lines ++ more ≡ all → Handled old mid (Ok tt) lines a b → Handled mid new ending more b c
    → (q : Handled old new ending all a c) × (length lines ≤ count old new ending all a c q)
with_lines {Handled = Handled} {count = count} h old mid new ending lines more all a b c same one two =
    subst (λ (ls : List (List ℕ)). (q : Handled old new ending ls a c) × (length lines ≤ count old new ending ls a c q)) same
    (h.handling.behind old mid new ending lines more a b c one two, omega (arith, h.each old mid lines a b one, h.behind old mid new ending lines more a b c one two))

-- one piece more
pub IsReading-more : {W : Type 0} {Fits : W → Type 0} {Handled : W → W → Ending → List (List ℕ) → Option (List ℕ) → Option (List ℕ) → Type 0} {count : (old new : W) (ending : Ending) (lines : List (List ℕ)) (a b : Option (List ℕ)) → Handled old new ending lines a b → ℕ} → Replying W Fits Handled count
    → (old mid new : W) (left half left_now a b c pending pending_now : Option (List ℕ)) (room room_now : ℕ) (piece : List ℕ) → (r : IsReading Handled old mid left half a b pending room) → Gave half piece left_now → room ≡ length piece + room_now
    → IsUnfinished pending_now (rest_of (rest_of r.taken ++ piece)) → Handled mid new (Ok tt) (whole_lines_of (rest_of r.taken ++ piece)) b c → IsReading Handled old new left left_now a c pending_now room_now
IsReading-more h old mid new left half left_now a b c pending pending_now room room_now piece r gave less unfinished handled = record {
  taken = r.taken ++ piece;
  gave = Gave-then left r.taken half piece left_now r.gave gave;
  most = omega (arith, r.most, less, length-append r.taken piece);
  unfinished = subst (λ (rest : List ℕ). IsUnfinished pending_now rest) (sym (rest_of-append r.taken piece)) unfinished;
  handled = (with_lines h old mid new (Ok tt) (whole_lines_of r.taken) (whole_lines_of (rest_of r.taken ++ piece)) (whole_lines_of (r.taken ++ piece)) a b c (sym (whole_lines_of-append r.taken piece)) r.handled handled).0;
}

AreLines-line : (stop : Stop) (taken : List ℕ) (left : Option (List ℕ)) (lines : List (List ℕ)) → IsOfLine stop → HaveCome taken left lines → AreLines (Err stop) taken left lines
AreLines-line stops.Source taken left lines line come = absurd line
AreLines-line stops.Limit taken left lines line come = absurd line
AreLines-line stops.Sink taken left lines line come = come
AreLines-line (stops.Device stop) taken left lines line come = come

-- a stop at a line of one piece more
pub IsReading-stop : {W : Type 0} {Fits : W → Type 0} {Handled : W → W → Ending → List (List ℕ) → Option (List ℕ) → Option (List ℕ) → Type 0} {count : (old new : W) (ending : Ending) (lines : List (List ℕ)) (a b : Option (List ℕ)) → Handled old new ending lines a b → ℕ} → Replying W Fits Handled count
    → (old mid new : W) (left half left_now a b c pending : Option (List ℕ)) (room : ℕ) (piece : List ℕ) (stop : Stop) → (r : IsReading Handled old mid left half a b pending room) → Gave half piece left_now → length piece ≤ room → length piece ≤ 4096 → IsOfLine stop
    → Handled mid new (Err stop) (whole_lines_of (rest_of r.taken ++ piece)) b c → Ran Handled count old new (Err stop) left left_now a c
IsReading-stop h old mid new left half left_now a b c pending room piece stop r gave less few line handled =
    let all = with_lines h old mid new (Err stop) (whole_lines_of r.taken) (whole_lines_of (rest_of r.taken ++ piece)) (whole_lines_of (r.taken ++ piece)) a b c (sym (whole_lines_of-append r.taken piece)) r.handled handled in
    record {
      taken = r.taken ++ piece;
      lines = whole_lines_of (r.taken ++ piece);
      gave = Gave-then left r.taken half piece left_now r.gave gave;
      took = TookUntil-line stop (r.taken ++ piece) left_now line (omega (arith, r.most, less, length-append r.taken piece));
      come = AreLines-line stop (r.taken ++ piece) left_now (whole_lines_of (r.taken ++ piece)) line (inl refl);
      handled = all.0;
      prompt = record { before = r.taken; last = piece; parts = refl; piece = few; served = all.1 };
    }

-- a run whose whole lines all have their replies took no piece too much
prompt_all : (taken : List ℕ) (replies : ℕ) → length (whole_lines_of taken) ≤ replies → IsPrompt taken replies
prompt_all taken replies all = record { before = taken; last = []; parts = sym (append-nil taken); piece = omega arith; served = all }

-- the end of the input
pub IsReading-end : {W : Type 0} {Fits : W → Type 0} {Handled : W → W → Ending → List (List ℕ) → Option (List ℕ) → Option (List ℕ) → Type 0} {count : (old new : W) (ending : Ending) (lines : List (List ℕ)) (a b : Option (List ℕ)) → Handled old new ending lines a b → ℕ} → Replying W Fits Handled count
    → (old mid new : W) (ending : Ending) (left left_now a b c pending : Option (List ℕ)) (room : ℕ) → (r : IsReading Handled old mid left left_now a b pending room) → 0 < room → IsAtEnd left_now → IfErr ending IsOfLine
    → Handled mid new ending (line_at_end (rest_of r.taken)) b c → Ran Handled count old new ending left left_now a c
IsReading-end h old mid new ending left left_now a b c pending room r some end ends handled =
    let all = with_lines h old mid new ending (whole_lines_of r.taken) (line_at_end (rest_of r.taken)) (lines_of r.taken) a b c (sym (lines_of-whole r.taken)) r.handled handled in
    record {
      taken = r.taken;
      lines = lines_of r.taken;
      gave = r.gave;
      took = took ending r.taken left_now ends (omega (arith, r.most, some)) end;
      come = come ending r.taken left_now ends end;
      handled = all.0;
      prompt = prompt_all r.taken _ all.1;
    }
  where
    took : (e : Ending) (t : List ℕ) (l : Option (List ℕ)) → IfErr e IsOfLine → length t < 2 ^ 32 → IsAtEnd l → TookUntil e t l
    took (Ok done) t l h below e = record { most = omega (arith, below); whole = (below, e); failed = λ p. cc; limit = λ p. cc }
    took (Err stop) t l h below e = TookUntil-line stop t l h (omega (arith, below))

    come : (e : Ending) (t : List ℕ) (l : Option (List ℕ)) → IfErr e IsOfLine → IsAtEnd l → AreLines e t l (lines_of t)
    come (Ok done) t l h e = (e, refl)
    come (Err stop) t l h e = AreLines-line stop t l (lines_of t) h (inr (e, refl))

-- the input failed
pub IsReading-failed : {W : Type 0} {Fits : W → Type 0} {Handled : W → W → Ending → List (List ℕ) → Option (List ℕ) → Option (List ℕ) → Type 0} {count : (old new : W) (ending : Ending) (lines : List (List ℕ)) (a b : Option (List ℕ)) → Handled old new ending lines a b → ℕ} → Replying W Fits Handled count
    → (old new : W) (left left_now a b pending : Option (List ℕ)) (room : ℕ) → (r : IsReading Handled old new left left_now a b pending room) → 0 < room → Ran Handled count old new (Err stops.Source) left left_now a b
IsReading-failed h old new left left_now a b pending room r some =
    let cut = h.failed old new (whole_lines_of r.taken) a b r.handled in
    record {
      taken = r.taken;
      lines = whole_lines_of r.taken;
      gave = r.gave;
      took = record { most = omega (arith, r.most); whole = tt; failed = λ p. omega (arith, r.most, some); limit = λ p. cc };
      come = refl;
      handled = cut.0;
      prompt = prompt_all r.taken _ (omega (arith, cut.1, h.each old new (whole_lines_of r.taken) a b r.handled));
    }

-- the limit is reached
pub IsReading-limit : {W : Type 0} {Fits : W → Type 0} {Handled : W → W → Ending → List (List ℕ) → Option (List ℕ) → Option (List ℕ) → Type 0} {count : (old new : W) (ending : Ending) (lines : List (List ℕ)) (a b : Option (List ℕ)) → Handled old new ending lines a b → ℕ} → Replying W Fits Handled count
    → (old new : W) (left left_now a b pending : Option (List ℕ)) (room : ℕ) → (r : IsReading Handled old new left left_now a b pending room) → room ≡ 0 → Ran Handled count old new (Err stops.Limit) left left_now a b
IsReading-limit h old new left left_now a b pending room r none =
    let cut = h.limit old new (whole_lines_of r.taken) a b r.handled in
    record {
      taken = r.taken;
      lines = whole_lines_of r.taken;
      gave = r.gave;
      took = record { most = omega (arith, r.most); whole = tt; failed = λ p. cc; limit = λ p. omega (arith, r.most, none) };
      come = refl;
      handled = cut.0;
      prompt = prompt_all r.taken _ (omega (arith, cut.1, h.each old new (whole_lines_of r.taken) a b r.handled));
    }
