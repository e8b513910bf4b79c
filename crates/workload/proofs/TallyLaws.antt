-- How the lines of replies are counted.
use Rattle.std.proofs.Common.{◌≡◌, ℕ, zero, suc, ◌+◌, ◌≤◌, Bool, true, false, List, [], ◌∷◌, ◌++◌, length, drop, refl, sym, ap, ◌∙◌, subst, arith, append_assoc, length-append}
use Rattle.std.specs.Prelude.{flat_map, if◌then◌else◌}
use Rattle.text_lines.specs.Lines.{HasNone}
use Rattle.script_lang.specs.Replies.{Reply, text_of, line_of, is_refusal}
use Rattle.script_lang.proofs.ReplyLaws.{text_has_no_feed}
use Rattle.script_lang.proofs.Spaces.{split_once}
use Rattle.workload.specs.Summaries.{refused}

-- a text of lines that has a first line has a first reply, whose line it is
record Begins (line behind : List ℕ) (replies : List Reply) : Type 0 where
  pub first : Reply
  pub others : List Reply
  pub are : replies ≡ first ∷ others
  pub line_is : line ≡ text_of first
  pub behind_is : behind ≡ flat_map line_of others

line_then : (text rest : List ℕ) → (text ++ 10 ∷ []) ++ rest ≡ text ++ 10 ∷ rest
line_then text rest = append_assoc text (10 ∷ []) rest

begins : (line behind : List ℕ) (replies : List Reply) → HasNone 10 line → line ++ 10 ∷ behind ≡ flat_map line_of replies → Begins line behind replies
begins line behind [] none e = absurd (omega (arith, length-append line (10 ∷ behind), ap (λ (l : List ℕ). length l) e))
begins line behind (reply ∷ replies) none e =
    let parts = split_once 10 line behind (text_of reply) (flat_map line_of replies) none (text_has_no_feed reply) (e ∙ line_then (text_of reply) (flat_map line_of replies)) in
    record { first = reply; others = replies; are = refl; line_is = parts.0; behind_is = parts.1 }

-- a line feed is somewhere behind a front
not_none : (front behind : List ℕ) → HasNone 10 (front ++ 10 ∷ behind) → ⊥
not_none [] behind h = h.0 refl
not_none (b ∷ front) behind h = not_none front behind h.1

-- a text of lines without a line feed is that of no reply
none_left : (rest : List ℕ) (replies : List Reply) → HasNone 10 rest → rest ≡ flat_map line_of replies → replies ≡ []
none_left rest [] none e = refl
none_left rest (reply ∷ replies) none e =
    absurd (not_none (text_of reply) (flat_map line_of replies)
    (subst (λ (text : List ℕ). HasNone 10 text) (e ∙ line_then (text_of reply) (flat_map line_of replies)) none))

-- what stands behind the lines that were counted are lines of replies, which are still to be counted
pub record StillHas (rest : List ℕ) (accepted declined : ℕ) (replies : List Reply) : Type 0 where
  pub behind : List Reply
  pub rest_is : rest ≡ flat_map line_of behind
  pub refused_are : refused replies ≡ declined + refused behind
  pub all : length replies ≡ accepted + declined + length behind

-- so far these lines were counted, and no more than there are bytes
pub record IsCounting (told rest : List ℕ) (accepted declined : ℕ) : Type 0 where
  pub few : accepted + declined + length rest ≤ length told
  pub still : (replies : List Reply) → told ≡ flat_map line_of replies → StillHas rest accepted declined replies

pub counting_none : (told : List ℕ) → IsCounting told told 0 0
counting_none told = record {
  few = omega arith;
  still = λ replies e. record { behind = replies; rest_is = e; refused_are = omega arith; all = omega arith };
}

pub counting_one : (told rest line behind : List ℕ) (accepted declined : ℕ) → IsCounting told rest accepted declined → rest ≡ line ++ 10 ∷ behind → accepted + declined + 1 + length behind ≤ length told
counting_one told rest line behind accepted declined c e =
    omega (arith, c.few, ap (λ (l : List ℕ). length l) e, length-append line (10 ∷ behind))

-- one line more, which was refused
pub counting_refused : (told rest line behind : List ℕ) (accepted declined : ℕ) → HasNone 10 line → rest ≡ line ++ 10 ∷ behind
    → ((reply : Reply) → line ≡ text_of reply → true ≡ is_refusal reply) → IsCounting told rest accepted declined → IsCounting told behind accepted (declined + 1)
counting_refused told rest line behind accepted declined none e says c = record {
  few = omega (arith, counting_one told rest line behind accepted declined c e);
  still = λ replies is.
      let s = c.still replies is in
      let b = begins line behind s.behind none (sym e ∙ s.rest_is) in
      let refusal : is_refusal b.first ≡ true = sym (says b.first b.line_is) in
      let one : refused s.behind ≡ 1 + refused b.others = ap refused b.are ∙ ap (λ (t : Bool). (if t then 1 else 0) + refused b.others) refusal in
      record {
        behind = b.others;
        rest_is = b.behind_is;
        refused_are = omega (arith, s.refused_are, one);
        all = omega (arith, s.all, ap (λ (l : List Reply). length l) b.are);
      };
}

-- one line more, which was accepted
pub counting_accepted : (told rest line behind : List ℕ) (accepted declined : ℕ) → HasNone 10 line → rest ≡ line ++ 10 ∷ behind
    → ((reply : Reply) → line ≡ text_of reply → false ≡ is_refusal reply) → IsCounting told rest accepted declined → IsCounting told behind (accepted + 1) declined
counting_accepted told rest line behind accepted declined none e says c = record {
  few = omega (arith, counting_one told rest line behind accepted declined c e);
  still = λ replies is.
      let s = c.still replies is in
      let b = begins line behind s.behind none (sym e ∙ s.rest_is) in
      let served : is_refusal b.first ≡ false = sym (says b.first b.line_is) in
      let none_more : refused s.behind ≡ 0 + refused b.others = ap refused b.are ∙ ap (λ (t : Bool). (if t then 1 else 0) + refused b.others) served in
      record {
        behind = b.others;
        rest_is = b.behind_is;
        refused_are = omega (arith, s.refused_are, none_more);
        all = omega (arith, s.all, ap (λ (l : List Reply). length l) b.are);
      };
}

-- all lines were counted
pub counted_refused : (told rest : List ℕ) (accepted declined : ℕ) → HasNone 10 rest → IsCounting told rest accepted declined → (replies : List Reply) → told ≡ flat_map line_of replies → declined ≡ refused replies
counted_refused told rest accepted declined none c replies is =
    let s = c.still replies is in
    omega (arith, s.refused_are, ap refused (none_left rest s.behind none s.rest_is))

pub counted_all : (told rest : List ℕ) (accepted declined : ℕ) → HasNone 10 rest → IsCounting told rest accepted declined → (replies : List Reply) → told ≡ flat_map line_of replies → accepted + declined ≡ length replies
counted_all told rest accepted declined none c replies is =
    let s = c.still replies is in
    omega (arith, s.all, ap (λ (l : List Reply). length l) (none_left rest s.behind none s.rest_is))

-- what stands behind the lines that were passed over are the lines of these replies, and so many are still to be passed over
pub record StillPasses (rest : List ℕ) (left lines : ℕ) (replies : List Reply) : Type 0 where
  pub behind : List Reply
  pub rest_is : rest ≡ flat_map line_of behind
  pub dropped : drop lines replies ≡ drop left behind

-- lines are passed over, of which so many are left
abbrev pub IsPassing : List ℕ → ℕ → List ℕ → ℕ → Type 0
IsPassing told lines rest left = (replies : List Reply) → told ≡ flat_map line_of replies → StillPasses rest left lines replies

pub passing_none : (told : List ℕ) (lines : ℕ) → IsPassing told lines told lines
passing_none told lines replies is = record { behind = replies; rest_is = is; dropped = refl }

pub passing_one : (told rest line behind : List ℕ) (lines left : ℕ) → HasNone 10 line → rest ≡ line ++ 10 ∷ behind → IsPassing told lines rest (suc left) → IsPassing told lines behind left
passing_one told rest line behind lines left none e p replies is =
    let s = p replies is in
    let b = begins line behind s.behind none (sym e ∙ s.rest_is) in
    record { behind = b.others; rest_is = b.behind_is; dropped = s.dropped ∙ ap (λ (l : List Reply). drop (suc left) l) b.are }

abbrev none_of : List Reply
none_of = []

drop_nothing : (n : ℕ) → drop n none_of ≡ none_of
drop_nothing zero = refl
drop_nothing (suc n) = refl

pub passing_end : (told rest : List ℕ) (lines left : ℕ) → HasNone 10 rest → IsPassing told lines rest (suc left) → IsPassing told lines rest left
passing_end told rest lines left none p replies is =
    let s = p replies is in
    let nothing = none_left rest s.behind none s.rest_is in
    record {
      behind = [];
      rest_is = s.rest_is ∙ ap (λ (l : List Reply). flat_map line_of l) nothing;
      dropped = s.dropped ∙ ap (λ (l : List Reply). drop (suc left) l) nothing ∙ drop_nothing (suc left) ∙ sym (drop_nothing left);
    }

pub passed : (told rest : List ℕ) (lines : ℕ) → IsPassing told lines rest 0 → (replies : List Reply) → told ≡ flat_map line_of replies → rest ≡ flat_map line_of (drop lines replies)
passed told rest lines p replies is =
    let s = p replies is in
    s.rest_is ∙ ap (λ (l : List Reply). flat_map line_of l) (sym s.dropped)
