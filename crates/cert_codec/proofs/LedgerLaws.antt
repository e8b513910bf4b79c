-- The certificates of a ledger that grows.
use Rattle.std.proofs.Common.{◌≡◌, ◌<◌, ◌≤◌, ◌⊎◌, inl, inr, ℕ, zero, suc, List, [], ◌∷◌, ◌++◌, take, length, refl, sym, subst, ap, ◌∙◌, arith}
use Rattle.std.proofs.lemmas.Grind.{common_steps}
use Rattle.std.proofs.lemmas.Bool.{cases_lt}
use Rattle.std.proofs.lemmas.List.{take-append-le, append-nil}
use Rattle.serde_json.specs.Written.{compact_text}
use Rattle.text_lines.specs.Lines.{HasNone, lines_of, whole_lines_of, rest_of, last_line}
use Rattle.text_lines.proofs.LineLaws.{lines_of-feed, lines_of-none, lines_of-whole, whole_lines_of-none, rest_of-none}
use Rattle.cert_maker.specs.Cert.{Cert}
use Rattle.cert_codec.specs.Text.{cert_json, Spells, Fits, entry}
use Rattle.cert_codec.specs.Ledger.{AreCertsOf, IsLedger}
use Rattle.cert_codec.proofs.RoundTrip.{one_cert, written_is_read}
use Rattle.cert_codec.proofs.Lacks.{flat_cert}
use Rattle.cert_codec.proofs.Torn.{no_first_part}

-- ---- one list

certs_one : (lines : List (List ℕ)) (certs others : List Cert) → AreCertsOf lines certs → AreCertsOf lines others → certs ≡ others
certs_one [] certs others a b = a ∙ sym b
certs_one (line ∷ lines) certs others a b = elim a [
  | inl x ↦ elim b [
    | inl y ↦
        let same : x.0 ≡ y.0 = one_cert line x.0 y.0 x.2 y.2 in
        let rest : x.1 ≡ y.1 = certs_one lines x.1 y.1 x.3 y.3 in
        x.4 ∙ ap (λ (c : Cert). c ∷ x.1) same ∙ ap (λ (cs : List Cert). y.0 ∷ cs) rest ∙ sym y.4
    | inr y ↦ absurd (y.0 x.0 x.2)
  ]
  | inr x ↦ elim b [
    | inl y ↦ absurd (x.0 y.0 y.2)
    | inr y ↦ certs_one lines certs others x.1 y.1
  ]
]

pub one_ledger : (text : List ℕ) (certs others : List Cert) → IsLedger text certs → IsLedger text others → certs ≡ others
one_ledger text = certs_one (lines_of text)

-- ---- more lines

certs_then : (a b : List (List ℕ)) (one two : List Cert) → AreCertsOf a one → AreCertsOf b two → AreCertsOf (a ++ b) (one ++ two)
certs_then [] b one two first second = subst (λ (cs : List Cert). AreCertsOf b (cs ++ two)) (sym first) second
certs_then (line ∷ a) b one two first second = elim first [
  | inl x ↦ inl (x.0, x.1 ++ two, x.2, certs_then a b x.1 two x.3 second, ap (λ (cs : List Cert). cs ++ two) x.4)
  | inr x ↦ inr (x.0, certs_then a b one two x.1 second)
]

-- the certificates of the first lines and of those behind them
certs_apart : (a b : List (List ℕ)) (certs : List Cert) → AreCertsOf (a ++ b) certs → (one two : List Cert) × AreCertsOf a one × AreCertsOf b two × (certs ≡ one ++ two)
certs_apart [] b certs all = ([], certs, refl, all, refl)
certs_apart (line ∷ a) b certs all = elim all [
  | inl x ↦ let r = certs_apart a b x.1 x.3 in (x.0 ∷ r.0, r.1, inl (x.0, r.0, x.2, r.2, refl), r.3, x.4 ∙ ap (λ (cs : List Cert). x.0 ∷ cs) r.4)
  | inr x ↦ let r = certs_apart a b certs x.1 in (r.0, r.1, inr (x.0, r.2), r.3, r.4)
]

-- what follows the last line feed, as a line of its own: where it is empty it spells nothing
rest_as_line : (rest : List ℕ) (certs : List Cert) → ((cert : Cert) → Spells [] cert → ⊥) → AreCertsOf (last_line rest) certs → AreCertsOf (rest ∷ []) certs
rest_as_line [] certs empty all = inr (empty, all)
rest_as_line (byte ∷ rest) certs empty all = all

-- the certificates of a text, and of what comes behind a line feed
after_feed : (text more : List ℕ) (certs others : List Cert) → ((cert : Cert) → Spells [] cert → ⊥) → IsLedger text certs → AreCertsOf (lines_of more) others → IsLedger (text ++ 10 ∷ more) (certs ++ others)
after_feed text more certs others empty ledger next =
    let parts = certs_apart (whole_lines_of text) (last_line (rest_of text)) certs (subst (λ (ls : List (List ℕ)). AreCertsOf ls certs) (lines_of-whole text) ledger) in
    let rest : AreCertsOf (rest_of text ∷ lines_of more) (parts.1 ++ others) =
    certs_then (rest_of text ∷ []) (lines_of more) parts.1 others (rest_as_line (rest_of text) parts.1 empty parts.3) next in
    let all : AreCertsOf (whole_lines_of text ++ rest_of text ∷ lines_of more) (parts.0 ++ (parts.1 ++ others)) =
    certs_then (whole_lines_of text) (rest_of text ∷ lines_of more) parts.0 (parts.1 ++ others) parts.2 rest in
    subst (λ (ls : List (List ℕ)). AreCertsOf ls (certs ++ others)) (sym (lines_of-feed text more))
    (subst (λ (cs : List Cert). AreCertsOf (whole_lines_of text ++ rest_of text ∷ lines_of more) cs) (grind (arith, common_steps, parts.4)) all)

-- ---- an entry

abbrev text_of : Cert → List ℕ
text_of cert = compact_text (cert_json cert)

-- nothing spells nothing
empty_spells_none : (cert : Cert) → Fits cert → (other : Cert) → Spells [] other → ⊥
empty_spells_none cert fits other spells = no_first_part cert fits 0 (omega arith) other spells

spelled_line : (cert : Cert) → Fits cert → AreCertsOf (text_of cert ∷ []) (cert ∷ [])
spelled_line cert fits = inl (cert, [], written_is_read cert fits, refl, refl)

-- the text of a certificate, with its line feed
spelled : (cert : Cert) → Fits cert → AreCertsOf (lines_of (text_of cert ++ 10 ∷ [])) (cert ∷ [])
spelled cert fits =
    let flat : HasNone 10 (text_of cert) = flat_cert cert fits in
    let lines : lines_of (text_of cert ++ 10 ∷ []) ≡ text_of cert ∷ lines_of [] =
    lines_of-feed (text_of cert) [] ∙ ap (λ (ls : List (List ℕ)). ls ++ rest_of (text_of cert) ∷ lines_of []) (whole_lines_of-none (text_of cert) flat)
    ∙ ap (λ (rest : List ℕ). rest ∷ lines_of []) (rest_of-none (text_of cert) flat) in
    let nothing : lines_of [] ≡ [] = lines_of-none [] tt in
    subst (λ (ls : List (List ℕ)). AreCertsOf ls (cert ∷ [])) (sym (lines ∙ ap (λ (ls : List (List ℕ)). text_of cert ∷ ls) nothing)) (spelled_line cert fits)

pub entry_adds : (text : List ℕ) (certs : List Cert) (cert : Cert) → Fits cert → IsLedger text certs → IsLedger (text ++ entry cert) (certs ++ cert ∷ [])
entry_adds text certs cert fits ledger = after_feed text (text_of cert ++ 10 ∷ []) certs (cert ∷ []) (empty_spells_none cert fits) ledger (spelled cert fits)

take_none : (byte n : ℕ) (text : List ℕ) → HasNone byte text → HasNone byte (take n text)
take_none byte zero text none = tt
take_none byte (suc n) [] none = tt
take_none byte (suc n) (b ∷ text) none = (none.0, take_none byte n text none.1)

-- a line without line feed that spells no certificate
unspelled : (line : List ℕ) → HasNone 10 line → ((cert : Cert) → Spells line cert → ⊥) → AreCertsOf (lines_of line) []
unspelled line none other = subst (λ (ls : List (List ℕ)). AreCertsOf ls []) (sym (lines_of-none line none)) (go line other)
  where
    go : (line : List ℕ) → ((cert : Cert) → Spells line cert → ⊥) → AreCertsOf (last_line line) []
    go [] other = refl
    go (byte ∷ line) other = inr (other, refl)

take_past : (m : ℕ) (text : List ℕ) → length text < m → take m (text ++ 10 ∷ []) ≡ text ++ 10 ∷ []
take_past zero text past = absurd (omega (arith, past))
take_past (suc m) [] past = grind (arith, common_steps)
take_past (suc m) (b ∷ text) past = ap (λ (t : List ℕ). b ∷ t) (take_past m text (omega (arith, past)))

take_all : (text : List ℕ) → take (length text) (text ++ 10 ∷ []) ≡ text
take_all [] = refl
take_all (b ∷ text) = ap (λ (t : List ℕ). b ∷ t) (take_all text)

pub part_adds : (text : List ℕ) (certs : List Cert) (cert : Cert) (n : ℕ) → Fits cert → IsLedger text certs
    → IsLedger (text ++ take n (entry cert)) certs ⊎ IsLedger (text ++ take n (entry cert)) (certs ++ cert ∷ [])
part_adds text certs cert zero fits ledger = inl (subst (λ (t : List ℕ). IsLedger t certs) (sym (append-nil text)) ledger)
part_adds text certs cert (suc m) fits ledger =
    let empty = empty_spells_none cert fits in
    let flat : HasNone 10 (text_of cert) = flat_cert cert fits in
    elim (cases_lt m (length (text_of cert))) [
      | inl less ↦
          let cut : take m (text_of cert ++ 10 ∷ []) ≡ take m (text_of cert) = take-append-le m (text_of cert) (10 ∷ []) (omega (arith, less)) in
          let none : AreCertsOf (lines_of (take m (text_of cert ++ 10 ∷ []))) [] =
          subst (λ (t : List ℕ). AreCertsOf (lines_of t) []) (sym cut) (unspelled (take m (text_of cert)) (take_none 10 m (text_of cert) flat) (no_first_part cert fits m less)) in
          inl (subst (λ (cs : List Cert). IsLedger (text ++ 10 ∷ take m (text_of cert ++ 10 ∷ [])) cs) (append-nil certs) (after_feed text (take m (text_of cert ++ 10 ∷ [])) certs [] empty ledger none))
      | inr most ↦ inr (after_feed text (take m (text_of cert ++ 10 ∷ [])) certs (cert ∷ []) empty ledger (whole m most))
    ]
  where
    whole : (m : ℕ) → length (text_of cert) ≤ m → AreCertsOf (lines_of (take m (text_of cert ++ 10 ∷ []))) (cert ∷ [])
    whole m most =
        let flat : HasNone 10 (text_of cert) = flat_cert cert fits in
        elim (cases_lt (length (text_of cert)) m) [
          | inl past ↦ subst (λ (t : List ℕ). AreCertsOf (lines_of t) (cert ∷ [])) (sym (take_past m (text_of cert) past)) (spelled cert fits)
          | inr end ↦
              let is : m ≡ length (text_of cert) = omega (arith, most, end) in
              subst (λ (t : List ℕ). AreCertsOf (lines_of t) (cert ∷ [])) (sym (ap (λ (k : ℕ). take k (text_of cert ++ 10 ∷ [])) is ∙ take_all (text_of cert)))
              (subst (λ (ls : List (List ℕ)). AreCertsOf ls (cert ∷ [])) (sym (lines_of-none (text_of cert) flat)) (last_spelled (text_of cert) (written_is_read cert fits) empty_is))
        ]
      where
        empty_is : (other : Cert) → Spells [] other → ⊥
        empty_is = empty_spells_none cert fits

        last_spelled : (line : List ℕ) → Spells line cert → ((other : Cert) → Spells [] other → ⊥) → AreCertsOf (last_line line) (cert ∷ [])
        last_spelled [] s none = absurd (none cert s)
        last_spelled (byte ∷ line) s none = inl (cert, [], s, refl, refl)
