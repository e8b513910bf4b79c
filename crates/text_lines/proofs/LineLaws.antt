-- The laws of lines, by which text may be read in pieces.
use Rattle.std.proofs.Common.{◌≡◌, ℕ, true, false, ◌==◌, ◌||◌, inl, inr, List, [], ◌∷◌, ◌++◌, refl, ap, append_assoc}
use Rattle.std.proofs.lemmas.Bool.{cases_Bool, eqb-true}
use Rattle.text_lines.specs.Lines.{HasNone, begun_by, has_feed, whole_lines_of, rest_of, last_line, lines_of}

-- with a line feed in it, a text has a first line
first_line : (text : List ℕ) → has_feed text ≡ true → (line : List ℕ) × (lines : List (List ℕ)) × (whole_lines_of text ≡ line ∷ lines)
unfolding has_feed whole_lines_of
first_line [] h = absurd (cc)
first_line (byte ∷ text) h =
    elim (cases_Bool (byte == 10)) [
      | inl feed ↦ ([], whole_lines_of text, rw feed refl)
      | inr other ↦ let further = first_line text (rw other at h) in
          (byte ∷ further.0, further.1, rw (other, further.2) refl)
    ]

-- without one, no line
no_line : (text : List ℕ) → has_feed text ≡ false → whole_lines_of text ≡ []
unfolding has_feed whole_lines_of
no_line [] h = refl
no_line (byte ∷ text) h =
    elim (cases_Bool (byte == 10)) [
      | inl feed ↦ absurd (cc (rw feed at h))
      | inr other ↦ rw (other, no_line text (rw other at h)) refl
    ]

-- and the rest is all of it
all_rest : (text : List ℕ) → has_feed text ≡ false → rest_of text ≡ text
unfolding has_feed rest_of
all_rest [] h = refl
all_rest (byte ∷ text) h = rw h refl

feed_in_front : (text more : List ℕ) → has_feed text ≡ true → has_feed (text ++ more) ≡ true
unfolding has_feed
feed_in_front [] more h = absurd (cc)
feed_in_front (byte ∷ text) more h =
    elim (cases_Bool (byte == 10)) [
      | inl feed ↦ rw feed refl
      | inr other ↦ rw other (feed_in_front text more (rw other at h))
    ]

-- the lines of a text that grows: those that were whole, and those of the rest with what is new
pub whole_lines_of-append : (text more : List ℕ) → whole_lines_of (text ++ more) ≡ whole_lines_of text ++ whole_lines_of (rest_of text ++ more)
unfolding whole_lines_of rest_of
whole_lines_of-append [] more = refl
whole_lines_of-append (byte ∷ text) more =
    let further = whole_lines_of-append text more in
    elim (cases_Bool (byte == 10)) [
      | inl feed ↦ rw (feed, further) refl
      | inr other ↦ elim (cases_Bool (has_feed text)) [
        | inl feeds ↦ let first = first_line text feeds in rw (other, feeds, further, first.2) refl
        | inr none ↦ rw (other, none, no_line text none) (rw other refl)
      ]
    ]

-- the rest of a text that grows is that of its rest with what is new
pub rest_of-append : (text more : List ℕ) → rest_of (text ++ more) ≡ rest_of (rest_of text ++ more)
unfolding rest_of has_feed
rest_of-append [] more = refl
rest_of-append (byte ∷ text) more =
    elim (cases_Bool (byte == 10)) [
      | inl feed ↦ rw feed (rest_of-append text more)
      | inr other ↦ elim (cases_Bool (has_feed text)) [
        | inl feeds ↦ rw (other, feeds, feed_in_front text more feeds) (rest_of-append text more)
        | inr none ↦ rw (other, none) (rw other refl)
      ]
    ]

-- all lines are the whole ones, and the rest
pub lines_of-whole : (text : List ℕ) → lines_of text ≡ whole_lines_of text ++ last_line (rest_of text)
unfolding lines_of whole_lines_of rest_of
lines_of-whole [] = refl
lines_of-whole (byte ∷ text) =
    let further = lines_of-whole text in
    elim (cases_Bool (byte == 10)) [
      | inl feed ↦ rw (feed, further) refl
      | inr other ↦ elim (cases_Bool (has_feed text)) [
        | inl feeds ↦ let first = first_line text feeds in rw (other, feeds, further, first.2) refl
        | inr none ↦ rw (other, none, further, no_line text none, all_rest text none) (begun_last byte text)
      ]
    ]
  where
    begun_last : (b : ℕ) (t : List ℕ) → begun_by b (last_line t) ≡ (b ∷ t) ∷ []
    begun_last b [] = refl
    begun_last b (c ∷ t) = refl

no_feed : (text : List ℕ) → has_feed text ≡ false → HasNone 10 text
unfolding has_feed
no_feed [] h = tt
no_feed (byte ∷ text) h =
    elim (cases_Bool (byte == 10)) [
      | inl feed ↦ absurd (cc (rw feed at h))
      | inr other ↦ (λ e. absurd (cc (other, ap (λ (b : ℕ). b == 10) e)), no_feed text (rw other at h))
    ]

-- no line feed stands in the rest
pub rest_has_no_feed : (text : List ℕ) → HasNone 10 (rest_of text)
unfolding rest_of
rest_has_no_feed [] = tt
rest_has_no_feed (byte ∷ text) =
    elim (cases_Bool ((byte == 10) || has_feed text)) [
      | inl feed ↦ rw feed (rest_has_no_feed text)
      | inr none ↦ rw none (no_feed (byte ∷ text) (unfold has_feed in none))
    ]

-- ---- a text that begins with a line

-- the first line of a text
pub whole_lines_of-line : (line behind : List ℕ) → HasNone 10 line → whole_lines_of (line ++ 10 ∷ behind) ≡ line ∷ whole_lines_of behind
unfolding whole_lines_of
whole_lines_of-line [] behind none = refl
whole_lines_of-line (byte ∷ line) behind none =
    elim (cases_Bool (byte == 10)) [
      | inl feed ↦ absurd (none.0 (eqb-true byte 10 feed))
      | inr other ↦ rw (other, whole_lines_of-line line behind none.1) refl
    ]

has_feed-line : (line behind : List ℕ) → has_feed (line ++ 10 ∷ behind) ≡ true
unfolding has_feed
has_feed-line [] behind = refl
has_feed-line (byte ∷ line) behind =
    elim (cases_Bool (byte == 10)) [
      | inl feed ↦ rw feed refl
      | inr other ↦ rw other (has_feed-line line behind)
    ]

-- and what follows
pub rest_of-line : (line behind : List ℕ) → rest_of (line ++ 10 ∷ behind) ≡ rest_of behind
unfolding rest_of
rest_of-line [] behind = refl
rest_of-line (byte ∷ line) behind =
    elim (cases_Bool (byte == 10)) [
      | inl feed ↦ rw feed (rest_of-line line behind)
      | inr other ↦ rw (other, has_feed-line line behind) (rest_of-line line behind)
    ]

has_feed-none : (text : List ℕ) → HasNone 10 text → has_feed text ≡ false
unfolding has_feed
has_feed-none [] none = refl
has_feed-none (byte ∷ text) none =
    elim (cases_Bool (byte == 10)) [
      | inl feed ↦ absurd (none.0 (eqb-true byte 10 feed))
      | inr other ↦ rw other (has_feed-none text none.1)
    ]

-- a text without a line feed has no whole line
pub whole_lines_of-none : (text : List ℕ) → HasNone 10 text → whole_lines_of text ≡ []
unfolding whole_lines_of
whole_lines_of-none [] none = refl
whole_lines_of-none (byte ∷ text) none =
    elim (cases_Bool (byte == 10)) [
      | inl feed ↦ absurd (none.0 (eqb-true byte 10 feed))
      | inr other ↦ rw (other, whole_lines_of-none text none.1) refl
    ]

-- and all of it is the rest
pub rest_of-none : (text : List ℕ) → HasNone 10 text → rest_of text ≡ text
unfolding rest_of
rest_of-none [] none = refl
rest_of-none (byte ∷ text) none =
    elim (cases_Bool (byte == 10)) [
      | inl feed ↦ absurd (none.0 (eqb-true byte 10 feed))
      | inr other ↦ rw (other, has_feed-none text none.1) refl
    ]

pub HasNone-append : (byte : ℕ) (text more : List ℕ) → HasNone byte text → HasNone byte more → HasNone byte (text ++ more)
HasNone-append byte [] more p q = q
HasNone-append byte (b ∷ text) more p q = (p.0, HasNone-append byte text more p.1 q)

-- the lines of a text with a line feed in it: those that are whole before it, the one that it ends, and those behind it
pub lines_of-feed : (text more : List ℕ) → lines_of (text ++ 10 ∷ more) ≡ whole_lines_of text ++ rest_of text ∷ lines_of more
lines_of-feed text more =
    rw (
      lines_of-whole (text ++ 10 ∷ more),
      whole_lines_of-append text (10 ∷ more),
      rest_of-append text (10 ∷ more),
      whole_lines_of-line (rest_of text) more (rest_has_no_feed text),
      rest_of-line (rest_of text) more,
      lines_of-whole more,
    )
    (append_assoc (whole_lines_of text) (rest_of text ∷ whole_lines_of more) (last_line (rest_of more)))

-- a text without a line feed is one line, or none
pub lines_of-none : (text : List ℕ) → HasNone 10 text → lines_of text ≡ last_line text
lines_of-none text none = rw (lines_of-whole text, whole_lines_of-none text none, rest_of-none text none) refl
