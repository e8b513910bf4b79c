-- How lines that are handled one after another add up, whatever a server says of each.
use Rattle.std.proofs.Common.{◌≡◌, ℕ, List, [], ◌∷◌, ◌++◌, Option, Ok, Err, refl, sym, ap, ◌∙◌, subst, append_assoc, arith}
use Rattle.std.proofs.lemmas.Grind.{common_steps}
use Rattle.text_lines.specs.Lines.{HasNone, whole_lines_of, rest_of}
use Rattle.text_lines.proofs.LineLaws.{whole_lines_of-line, rest_of-line, whole_lines_of-none, rest_of-none, HasNone-append}
use Rattle.line_run.specs.Pending.{IsPending, IsUnfinished}
use Rattle.line_run.specs.Stops.{Ending, IsOfLine}
use Rattle.line_run.specs.declared.stop.Stop.{Stop}

-- what a server says of the lines that it handled, from one world to another, by how that ended and by what its output had got: it holds of no line, of lines and of those behind them, and of
-- lines of which a stop left the last ones
pub record Handling (W : Type 0) (Fits : W → Type 0) (Handled : W → W → Ending → List (List ℕ) → Option (List ℕ) → Option (List ℕ) → Type 0) : Type 0 where
  pub nothing : (w : W) (written : Option (List ℕ)) → Fits w → Handled w w (Ok tt) [] written written
  pub behind : (old mid new : W) (ending : Ending) (lines more : List (List ℕ)) (a b c : Option (List ℕ)) → Handled old mid (Ok tt) lines a b → Handled mid new ending more b c → Handled old new ending (lines ++ more) a c
  pub longer : (old new : W) (stop : Stop) (lines more : List (List ℕ)) (a b : Option (List ℕ)) → IsOfLine stop → Handled old new (Err stop) lines a b → Handled old new (Err stop) (lines ++ more) a b

-- of a text, some lines are handled; the next has begun, and this is still behind it
pub record IsServing {W : Type 0} (Handled : W → W → Ending → List (List ℕ) → Option (List ℕ) → Option (List ℕ) → Type 0) (old new : W) (written written_now : Option (List ℕ)) (text : List ℕ) (pending : Option (List ℕ)) (behind : List ℕ) : Type 0 where
  pub line : List ℕ
  pub unfinished : IsUnfinished pending line
  pub done : List (List ℕ)
  pub lines : whole_lines_of text ≡ done ++ whole_lines_of (line ++ behind)
  pub rest : rest_of text ≡ rest_of (line ++ behind)
  pub handled : Handled old new (Ok tt) done written written_now

pub IsServing-start : {W : Type 0} (Fits : W → Type 0) (Handled : W → W → Ending → List (List ℕ) → Option (List ℕ) → Option (List ℕ) → Type 0) → Handling W Fits Handled → (w : W) (written pending : Option (List ℕ)) (rest piece : List ℕ) → Fits w → IsUnfinished pending rest
    → IsServing Handled w w written written (rest ++ piece) pending piece
IsServing-start Fits Handled h w written pending rest piece fits unfinished = record {
  line = rest;
  unfinished = unfinished;
  done = [];
  lines = refl;
  rest = refl;
  handled = h.nothing w written fits;
}

-- the line that ends in a text
IsServing-lines : {W : Type 0} (Handled : W → W → Ending → List (List ℕ) → Option (List ℕ) → Option (List ℕ) → Type 0) (old new : W) (a b : Option (List ℕ)) (text : List ℕ) (pending : Option (List ℕ)) (all front behind : List ℕ)
    → (s : IsServing Handled old new a b text pending all) → HasNone 10 front → all ≡ front ++ 10 ∷ behind
    → (whole_lines_of text ≡ (s.done ++ (s.line ++ front) ∷ []) ++ whole_lines_of behind) × (rest_of text ≡ rest_of behind)
IsServing-lines Handled old new a b text pending all front behind s none e =
    let whole : s.line ++ all ≡ (s.line ++ front) ++ 10 ∷ behind = ap (λ (l : List ℕ). s.line ++ l) e ∙ sym (append_assoc s.line front (10 ∷ behind)) in (
      s.lines ∙ ap (λ (rest : List ℕ). s.done ++ whole_lines_of rest) whole
          ∙ ap (λ (lines : List (List ℕ)). s.done ++ lines) (whole_lines_of-line (s.line ++ front) behind (HasNone-append 10 s.line front s.unfinished.feedless none))
          ∙ sym (append_assoc s.done ((s.line ++ front) ∷ []) (whole_lines_of behind)),
      s.rest ∙ ap (λ (rest : List ℕ). rest_of rest) whole ∙ rest_of-line (s.line ++ front) behind,
    )

-- one line more
pub IsServing-line : {W : Type 0} (Fits : W → Type 0) (Handled : W → W → Ending → List (List ℕ) → Option (List ℕ) → Option (List ℕ) → Type 0) → Handling W Fits Handled → (old mid new : W) (a b c : Option (List ℕ)) (text : List ℕ) (pending pending_now : Option (List ℕ)) (all front behind : List ℕ)
    → (s : IsServing Handled old mid a b text pending all) → HasNone 10 front → all ≡ front ++ 10 ∷ behind → IsPending pending_now []
    → Handled mid new (Ok tt) ((s.line ++ front) ∷ []) b c → IsServing Handled old new a c text pending_now behind
IsServing-line Fits Handled h old mid new a b c text pending pending_now all front behind s none e clear handled =
    let both = IsServing-lines Handled old mid a b text pending all front behind s none e in record {
      line = [];
      unfinished = record { is_pending = clear; feedless = tt };
      done = s.done ++ (s.line ++ front) ∷ [];
      lines = both.0;
      rest = both.1;
      handled = h.behind old mid new (Ok tt) s.done ((s.line ++ front) ∷ []) a b c s.handled handled;
    }

-- a stop at one line more
pub IsServing-stop : {W : Type 0} (Fits : W → Type 0) (Handled : W → W → Ending → List (List ℕ) → Option (List ℕ) → Option (List ℕ) → Type 0) → Handling W Fits Handled → (old mid new : W) (a b c : Option (List ℕ)) (text : List ℕ) (pending : Option (List ℕ)) (all front behind : List ℕ) (stop : Stop)
    → (s : IsServing Handled old mid a b text pending all) → HasNone 10 front → all ≡ front ++ 10 ∷ behind → IsOfLine stop
    → Handled mid new (Err stop) ((s.line ++ front) ∷ []) b c → Handled old new (Err stop) (whole_lines_of text) a c
IsServing-stop Fits Handled h old mid new a b c text pending all front behind stop s none e line handled =
    let both = IsServing-lines Handled old mid a b text pending all front behind s none e in
    subst (λ (lines : List (List ℕ)). Handled old new (Err stop) lines a c) (sym both.0)
    (h.longer old new stop (s.done ++ (s.line ++ front) ∷ []) (whole_lines_of behind) a c line
    (h.behind old mid new (Err stop) s.done ((s.line ++ front) ∷ []) a b c s.handled handled))

-- no line ends any more
pub IsServing-end : {W : Type 0} (Handled : W → W → Ending → List (List ℕ) → Option (List ℕ) → Option (List ℕ) → Type 0) (old new : W) (a b : Option (List ℕ)) (text : List ℕ) (pending : Option (List ℕ)) (behind : List ℕ)
    → (s : IsServing Handled old new a b text pending behind) → HasNone 10 behind
    → Handled old new (Ok tt) (whole_lines_of text) a b × (rest_of text ≡ s.line ++ behind) × HasNone 10 (s.line ++ behind)
IsServing-end Handled old new a b text pending behind s none =
    let feedless : HasNone 10 (s.line ++ behind) = HasNone-append 10 s.line behind s.unfinished.feedless none in
    let nothing : whole_lines_of (s.line ++ behind) ≡ [] = whole_lines_of-none (s.line ++ behind) feedless in
    let all : s.done ≡ whole_lines_of text = sym (s.lines ∙ ap (λ (lines : List (List ℕ)). s.done ++ lines) nothing ∙ grind (arith, common_steps)) in (
      subst (λ (lines : List (List ℕ)). Handled old new (Ok tt) lines a b) all s.handled,
      s.rest ∙ rest_of-none (s.line ++ behind) feedless,
      feedless,
    )
