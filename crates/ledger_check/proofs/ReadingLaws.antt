-- How the reading of a ledger goes on.
use Rattle.std.proofs.Common.{◌≡◌, ℕ, List, [], ◌∷◌, ◌++◌, inl, inr, refl, sym, ap, ◌∙◌, subst, append_assoc}
use Rattle.std.proofs.lemmas.List.{append-nil}
use Rattle.text_lines.specs.Lines.{HasNone, whole_lines_of, rest_of, last_line}
use Rattle.text_lines.proofs.LineLaws.{whole_lines_of-append, rest_of-append, lines_of-whole, rest_has_no_feed, whole_lines_of-line, rest_of-line, whole_lines_of-none, rest_of-none, HasNone-append}
use Rattle.cert_maker.specs.Cert.{Cert}
use Rattle.cert_codec.specs.Text.{Spells}
use Rattle.cert_codec.specs.Ledger.{AreCertsOf, IsLedger}
use Rattle.ledger_check.specs.Reading.{Fed}

-- the certificates of some lines, and of those behind them
certs_then : (a b : List (List ℕ)) (one two : List Cert) → AreCertsOf a one → AreCertsOf b two → AreCertsOf (a ++ b) (one ++ two)
certs_then [] b one two first second = subst (λ (cs : List Cert). AreCertsOf b (cs ++ two)) (sym first) second
certs_then (line ∷ a) b one two first second = elim first [
  | inl x ↦ inl (x.0, x.1 ++ two, x.2, certs_then a b x.1 two x.3 second, ap (λ (cs : List Cert). cs ++ two) x.4)
  | inr x ↦ inr (x.0, certs_then a b one two x.1 second)
]

-- a line that spells a certificate
pub fed_one : (line : List ℕ) (before now : List Cert) (cert : Cert) → Spells line cert → now ≡ before ++ cert ∷ [] → Fed (line ∷ []) before now
fed_one line before now cert spells is = (cert ∷ [], inl (cert, [], spells, refl, refl), is)

-- a line that spells none
pub fed_none : (line : List ℕ) (certs : List Cert) → ((cert : Cert) → Spells line cert → ⊥) → Fed (line ∷ []) certs certs
fed_none line certs none = ([], inr (none, refl), sym (append-nil certs))

-- some lines of a text were read, and of the rest the next line has begun
pub record IsReading (text : List ℕ) (certs : List Cert) (line behind : List ℕ) : Type 0 where
  pub done : List (List ℕ)
  pub are : AreCertsOf done certs
  pub feedless : HasNone 10 line
  pub lines : whole_lines_of text ≡ done ++ whole_lines_of (line ++ behind)
  pub rest : rest_of text ≡ rest_of (line ++ behind)

pub IsReading-start : (taken piece : List ℕ) (certs : List Cert) (line : List ℕ) → AreCertsOf (whole_lines_of taken) certs → line ≡ rest_of taken
    → IsReading (taken ++ piece) certs line piece
IsReading-start taken piece certs line are is = record {
  done = whole_lines_of taken;
  are = are;
  feedless = subst (λ (l : List ℕ). HasNone 10 l) (sym is) (rest_has_no_feed taken);
  lines = whole_lines_of-append taken piece ∙ ap (λ (l : List ℕ). whole_lines_of taken ++ whole_lines_of (l ++ piece)) (sym is);
  rest = rest_of-append taken piece ∙ ap (λ (l : List ℕ). rest_of (l ++ piece)) (sym is);
}

-- one line more
pub IsReading-line : (text : List ℕ) (certs certs_now : List Cert) (line line_now all front behind : List ℕ) → IsReading text certs line all
    → HasNone 10 front → all ≡ front ++ 10 ∷ behind → Fed ((line ++ front) ∷ []) certs certs_now → line_now ≡ [] → IsReading text certs_now line_now behind
IsReading-line text certs certs_now line line_now all front behind reading none is fed empty =
    let whole : line ++ all ≡ (line ++ front) ++ 10 ∷ behind = ap (λ (l : List ℕ). line ++ l) is ∙ sym (append_assoc line front (10 ∷ behind)) in
    let flat : HasNone 10 (line ++ front) = HasNone-append 10 line front reading.feedless none in
    record {
      done = reading.done ++ (line ++ front) ∷ [];
      are = subst (λ (cs : List Cert). AreCertsOf (reading.done ++ (line ++ front) ∷ []) cs) (sym fed.2) (certs_then reading.done ((line ++ front) ∷ []) certs fed.0 reading.are fed.1);
      feedless = subst (λ (l : List ℕ). HasNone 10 l) (sym empty) tt;
      lines = reading.lines ∙ ap (λ (l : List ℕ). reading.done ++ whole_lines_of l) whole
          ∙ ap (λ (ls : List (List ℕ)). reading.done ++ ls) (whole_lines_of-line (line ++ front) behind flat)
          ∙ sym (append_assoc reading.done ((line ++ front) ∷ []) (whole_lines_of behind))
          ∙ ap (λ (l : List ℕ). (reading.done ++ (line ++ front) ∷ []) ++ whole_lines_of (l ++ behind)) (sym empty);
      rest = reading.rest ∙ ap (λ (l : List ℕ). rest_of l) whole ∙ rest_of-line (line ++ front) behind ∙ ap (λ (l : List ℕ). rest_of (l ++ behind)) (sym empty);
    }

-- no line ends any more
pub IsReading-end : (text : List ℕ) (certs : List Cert) (line behind : List ℕ) → IsReading text certs line behind → HasNone 10 behind
    → AreCertsOf (whole_lines_of text) certs × (line ++ behind ≡ rest_of text)
IsReading-end text certs line behind reading none =
    let flat : HasNone 10 (line ++ behind) = HasNone-append 10 line behind reading.feedless none in
    let all : reading.done ≡ whole_lines_of text =
    sym (reading.lines ∙ ap (λ (ls : List (List ℕ)). reading.done ++ ls) (whole_lines_of-none (line ++ behind) flat) ∙ append-nil reading.done) in (
      subst (λ (ls : List (List ℕ)). AreCertsOf ls certs) all reading.are,
      sym (reading.rest ∙ rest_of-none (line ++ behind) flat),
    )

-- the end of the text: the rest of it, if there is one, is a line
pub ledger_of : (taken line : List ℕ) (certs certs_now : List Cert) → AreCertsOf (whole_lines_of taken) certs → line ≡ rest_of taken → Fed (last_line line) certs certs_now → IsLedger taken certs_now
ledger_of taken line certs certs_now are is fed =
    subst (λ (ls : List (List ℕ)). AreCertsOf ls certs_now) (sym (lines_of-whole taken ∙ ap (λ (l : List ℕ). whole_lines_of taken ++ last_line l) (sym is)))
    (subst (λ (cs : List Cert). AreCertsOf (whole_lines_of taken ++ last_line line) cs) (sym fed.2) (certs_then (whole_lines_of taken) (last_line line) certs fed.0 are fed.1))

-- nothing more was fed
pub fed_nothing : (certs : List Cert) → Fed [] certs certs
fed_nothing certs = ([], refl, sym (append-nil certs))

-- a last line that lacks its line feed
pub ledger_some : (taken line shown : List ℕ) (certs certs_now : List Cert) → AreCertsOf (whole_lines_of taken) certs → line ≡ rest_of taken → shown ≡ line → (line ≡ [] → ⊥)
    → Fed (shown ∷ []) certs certs_now → IsLedger taken certs_now
ledger_some taken line shown certs certs_now are is same some fed =
    ledger_of taken line certs certs_now are is (subst (λ (ls : List (List ℕ)). Fed ls certs certs_now) (alone line shown same some) fed)
  where
    alone : (l s : List ℕ) → s ≡ l → (l ≡ [] → ⊥) → s ∷ [] ≡ last_line l
    alone [] s same some = absurd (some refl)
    alone (byte ∷ l) s same some = ap (λ (t : List ℕ). t ∷ []) same

-- or none
pub ledger_none : (taken line : List ℕ) (certs : List Cert) → AreCertsOf (whole_lines_of taken) certs → line ≡ rest_of taken → line ≡ [] → IsLedger taken certs
ledger_none taken line certs are is none =
    ledger_of taken line certs certs are is (subst (λ (l : List ℕ). Fed (last_line l) certs certs) (sym none) (fed_nothing certs))
