-- A reply is determined by its text, and replies by their lines.
use Rattle.std.proofs.Common.{◌≡◌, ◌≢◌, ℕ, zero, suc, ◌+◌, ◌*◌, ◌<◌, ◌^◌, Bool, true, false, cond, ◌==◌, inl, inr, List, [], ◌∷◌, ◌++◌, length, get_or, drop, refl, sym, ap, ◌∙◌, arith, append_assoc, length-append, ◌/◌, ◌%◌}
use Rattle.std.specs.Prelude.{codes, flat_map}
use Rattle.std.specs.List.{AllByRecursion}
use Rattle.std.specs.Result.{result_unwrap_or}
use Rattle.std.specs.Fmt.{decimal, digits, digits_onto, digit_glyph}
use Rattle.std.specs.Str.Parse.{digits_value}
use Rattle.std.proofs.lemmas.Fmt.{decimal_is_IsNumeral}
use Rattle.hex.specs.Hex.{decode_of, encode_lower, encode_with, lower_digits}
use Rattle.hex.proofs.HexLemmas.{decode_of-encode_lower}
use Rattle.text_lines.specs.Lines.{HasNone}
use Rattle.script_lang.specs.Replies.{text_of, line_of, hex_or_dash, IsReply, IsFront}
use Rattle.script_lang.specs.Replies.{Reply}
use Rattle.script_lang.specs.Replies.{Formatted, Mounted, Content, Done, Committed, Dropped, Erased, Upgraded, Stat, Seized, Bad, Unmounted, AlreadyMounted, NotEmpty, NoDevice, AlreadyUpgraded, Range, Full}
use Rattle.script_lang.proofs.Spaces.{split_once, no_space}
use Rattle.std.proofs.lemmas.Bool.{cases_Bool, eqb-false}
use Rattle.script_lang.proofs.Fronts.{small_at}

-- what stands before the first space, and what behind it
abbrev pub before_space : List ℕ → List ℕ
before_space [] = []
before_space (b ∷ text) = cond (b == 32) [] (b ∷ before_space text)

abbrev pub behind_space : List ℕ → List ℕ
behind_space [] = []
behind_space (b ∷ text) = cond (b == 32) text (behind_space text)

-- the first three bytes as one number
abbrev begins : List ℕ → ℕ
begins text = get_or text 0 0 * 65536 + get_or text 1 0 * 256 + get_or text 2 0

abbrev number_at : ℕ → List ℕ → ℕ
number_at place text = digits_value 10 (drop place text)

-- a reply whose text this is
abbrev reply_of : List ℕ → Reply
reply_of text =
    cond (begins text == begins (codes "formatted")) Formatted
    (cond (begins text == begins (codes "mounted ")) (Mounted (number_at 8 text))
    (cond (begins text == begins (codes "data ")) (Content (result_unwrap_or (decode_of (drop 5 text)) []))
    (cond (begins text == begins (codes "ok")) Done
    (cond (begins text == begins (codes "committed ")) (Committed (number_at 10 text))
    (cond (begins text == begins (codes "dropped")) Dropped
    (cond (begins text == begins (codes "erased")) Erased
    (cond (begins text == begins (codes "upgraded ")) (Upgraded (number_at 9 text))
    (cond (begins text == begins (codes "stat mapped ")) (Stat (digits_value 10 (before_space (drop 12 text))) (number_at 7 (behind_space (drop 12 text))))
    (cond (begins text == begins (codes "seized pages ")) (Seized (digits_value 10 (before_space (drop 13 text)))
    (digits_value 10 (before_space (drop 6 (behind_space (drop 13 text)))))
    (number_at 7 (behind_space (drop 6 (behind_space (drop 13 text))))))
    (cond (begins text == begins (codes "bad")) Bad
    (cond (begins text == begins (codes "unmounted")) Unmounted
    (cond (begins text == begins (codes "already mounted")) (cond (get_or text 8 0 == 109) AlreadyMounted AlreadyUpgraded)
    (cond (begins text == begins (codes "not empty")) NotEmpty
    (cond (begins text == begins (codes "no device")) NoDevice
    (cond (begins text == begins (codes "range")) Range Full)))))))))))))))

digits_back : (n : ℕ) → n < 2 ^ 64 → digits_value 10 (decimal n) ≡ n
digits_back n h = (decimal_is_IsNumeral n h).1

not_space : (b : ℕ) → b ≢ 32 → (b == 32) ≡ false
not_space b other = grind arith

pub before-space : (a b : List ℕ) → HasNone 32 a → before_space (a ++ 32 ∷ b) ≡ a
before-space [] b h = refl
before-space (x ∷ a) b h = rw (not_space x h.0, before-space a b h.1) refl

pub behind-space : (a b : List ℕ) → HasNone 32 a → behind_space (a ++ 32 ∷ b) ≡ b
behind-space [] b h = refl
behind-space (x ∷ a) b h = rw (not_space x h.0) (behind-space a b h.1)

hex_back : (bytes : List ℕ) → IsFront bytes → result_unwrap_or (decode_of (hex_or_dash bytes)) [] ≡ bytes
hex_back [] f = refl
hex_back (b ∷ bytes) f = rw (decode_of-encode_lower (b ∷ bytes) (small_at (b ∷ bytes) f.small)) refl

number_has_no_space : (n : ℕ) → n < 2 ^ 64 → HasNone 32 (decimal n)
number_has_no_space n h = no_space (decimal n) n (h, refl)

-- each reply is read back from its text
reply_back : (reply : Reply) → IsReply reply → reply_of (text_of reply) ≡ reply
unfolding text_of
reply_back Formatted is = refl
reply_back (Mounted number) is = ap Mounted (digits_back number is)
reply_back (Content bytes) is = ap (λ (items : List ℕ). Content items) (hex_back bytes is)
reply_back Done is = refl
reply_back (Committed number) is = ap Committed (digits_back number is)
reply_back Dropped is = refl
reply_back Erased is = refl
reply_back (Upgraded number) is = ap Upgraded (digits_back number is)
reply_back (Stat mapped number) is =
    let front = before-space (decimal mapped) (codes "commit " ++ decimal number) (number_has_no_space mapped is.0) in
    let back = behind-space (decimal mapped) (codes "commit " ++ decimal number) (number_has_no_space mapped is.0) in
    ap (λ (n : ℕ). Stat n (number_at 7 (behind_space (decimal mapped ++ 32 ∷ (codes "commit " ++ decimal number))))) (ap (digits_value 10) front ∙ digits_back mapped is.0)
    ∙ ap (λ (text : List ℕ). Stat mapped (number_at 7 text)) back ∙ ap (Stat mapped) (digits_back number is.1)
reply_back (Seized pages nodes blocks) is =
    let tail = codes "nodes " ++ (decimal nodes ++ (32 ∷ (codes "blocks " ++ decimal blocks))) in
    let front = before-space (decimal pages) tail (number_has_no_space pages is.0) in
    let back = behind-space (decimal pages) tail (number_has_no_space pages is.0) in
    let front' = before-space (decimal nodes) (codes "blocks " ++ decimal blocks) (number_has_no_space nodes is.1) in
    let back' = behind-space (decimal nodes) (codes "blocks " ++ decimal blocks) (number_has_no_space nodes is.1) in
    let rest = behind_space (decimal pages ++ 32 ∷ tail) in
    ap (λ (n : ℕ). Seized n (digits_value 10 (before_space (drop 6 rest))) (number_at 7 (behind_space (drop 6 rest)))) (ap (digits_value 10) front ∙ digits_back pages is.0)
    ∙ ap (λ (text : List ℕ). Seized pages (digits_value 10 (before_space (drop 6 text))) (number_at 7 (behind_space (drop 6 text)))) back
    ∙ ap (λ (n : ℕ). Seized pages n (number_at 7 (behind_space (drop 6 tail)))) (ap (digits_value 10) front' ∙ digits_back nodes is.1)
    ∙ ap (λ (text : List ℕ). Seized pages nodes (number_at 7 text)) back' ∙ ap (Seized pages nodes) (digits_back blocks is.2)
reply_back Bad is = refl
reply_back Unmounted is = refl
reply_back AlreadyMounted is = refl
reply_back NotEmpty is = refl
reply_back NoDevice is = refl
reply_back AlreadyUpgraded is = refl
reply_back Range is = refl
reply_back Full is = refl

-- a text is one reply's
pub one_reply : (a b : Reply) → IsReply a → IsReply b → text_of a ≡ text_of b → a ≡ b
one_reply a b is also e = sym (reply_back a is) ∙ ap reply_of e ∙ reply_back b also

-- whether the byte stands nowhere in the text
abbrev lacks : ℕ → List ℕ → Bool
lacks byte [] = true
lacks byte (b ∷ text) = cond (b == byte) false (lacks byte text)

none_from_test : (byte : ℕ) (text : List ℕ) → lacks byte text ≡ true → HasNone byte text
none_from_test byte [] h = tt
none_from_test byte (b ∷ text) h =
    elim (cases_Bool (b == byte)) [
      | inl same ↦ absurd (cc (rw same at h))
      | inr other ↦ ((λ e. absurd (omega (arith, eqb-false b byte other, e))), none_from_test byte text (rw other at h))
    ]

none_in_both : (byte : ℕ) (a b : List ℕ) → HasNone byte a → HasNone byte b → HasNone byte (a ++ b)
none_in_both byte [] b p q = q
none_in_both byte (x ∷ a) b p q = (p.0, none_in_both byte a b p.1 q)

-- a digit is no line feed
no_feed_glyph : (d : ℕ) → digit_glyph false d ≢ 10
no_feed_glyph d e = grind (arith, e)

no_feed_onto : (k n : ℕ) (acc : List ℕ) → HasNone 10 acc → HasNone 10 (digits_onto k 10 false n acc)
no_feed_onto zero n acc h = h
no_feed_onto (suc k) n acc h =
    elim (cases_Bool (n / 10 == 0)) [
      | inl last ↦ rw last (no_feed_glyph (n % 10), h)
      | inr more ↦ rw more (no_feed_onto k (n / 10) (digit_glyph false (n % 10) ∷ acc) (no_feed_glyph (n % 10), h))
    ]

no_feed_in_number : (n : ℕ) → HasNone 10 (decimal n)
unfolding digits
no_feed_in_number n = no_feed_onto 64 n [] tt

-- what stands at a place of a text without line feed is none
at_place : (text : List ℕ) → HasNone 10 text → (i : ℕ) → get_or text i 0 ≢ 10
at_place [] h i = λ e. absurd (omega (arith, e))
at_place (b ∷ text) h zero = h.0
at_place (b ∷ text) h (suc i) = at_place text h.1 i

no_feed_in_hex : (bytes : List ℕ) → HasNone 10 (encode_lower bytes)
unfolding encode_with
no_feed_in_hex [] = tt
no_feed_in_hex (b ∷ bytes) =
    let digits : HasNone 10 lower_digits = none_from_test 10 lower_digits refl in
    (at_place lower_digits digits (b / 16), (at_place lower_digits digits (b % 16), no_feed_in_hex bytes))

no_feed_in_content : (bytes : List ℕ) → HasNone 10 (hex_or_dash bytes)
no_feed_in_content [] = none_from_test 10 (codes "-") refl
no_feed_in_content (b ∷ bytes) = no_feed_in_hex (b ∷ bytes)

-- no line feed stands in a reply's text
pub text_has_no_feed : (reply : Reply) → HasNone 10 (text_of reply)
unfolding text_of
text_has_no_feed Formatted = none_from_test 10 (codes "formatted") refl
text_has_no_feed (Mounted number) = none_in_both 10 (codes "mounted ") (decimal number) (none_from_test 10 (codes "mounted ") refl) (no_feed_in_number number)
text_has_no_feed (Content bytes) = none_in_both 10 (codes "data ") (hex_or_dash bytes) (none_from_test 10 (codes "data ") refl) (no_feed_in_content bytes)
text_has_no_feed Done = none_from_test 10 (codes "ok") refl
text_has_no_feed (Committed number) = none_in_both 10 (codes "committed ") (decimal number) (none_from_test 10 (codes "committed ") refl) (no_feed_in_number number)
text_has_no_feed Dropped = none_from_test 10 (codes "dropped") refl
text_has_no_feed Erased = none_from_test 10 (codes "erased") refl
text_has_no_feed (Upgraded number) = none_in_both 10 (codes "upgraded ") (decimal number) (none_from_test 10 (codes "upgraded ") refl) (no_feed_in_number number)
text_has_no_feed (Stat mapped number) =
    none_in_both 10 (codes "stat mapped ") (decimal mapped ++ (codes " commit " ++ decimal number)) (none_from_test 10 (codes "stat mapped ") refl)
    (none_in_both 10 (decimal mapped) (codes " commit " ++ decimal number) (no_feed_in_number mapped)
    (none_in_both 10 (codes " commit ") (decimal number) (none_from_test 10 (codes " commit ") refl) (no_feed_in_number number)))
text_has_no_feed (Seized pages nodes blocks) =
    none_in_both 10 (codes "seized pages ") (decimal pages ++ (codes " nodes " ++ (decimal nodes ++ (codes " blocks " ++ decimal blocks)))) (none_from_test 10 (codes "seized pages ") refl)
    (none_in_both 10 (decimal pages) (codes " nodes " ++ (decimal nodes ++ (codes " blocks " ++ decimal blocks))) (no_feed_in_number pages)
    (none_in_both 10 (codes " nodes ") (decimal nodes ++ (codes " blocks " ++ decimal blocks)) (none_from_test 10 (codes " nodes ") refl)
    (none_in_both 10 (decimal nodes) (codes " blocks " ++ decimal blocks) (no_feed_in_number nodes)
    (none_in_both 10 (codes " blocks ") (decimal blocks) (none_from_test 10 (codes " blocks ") refl) (no_feed_in_number blocks)))))
text_has_no_feed Bad = none_from_test 10 (codes "bad") refl
text_has_no_feed Unmounted = none_from_test 10 (codes "unmounted") refl
text_has_no_feed AlreadyMounted = none_from_test 10 (codes "already mounted") refl
text_has_no_feed NotEmpty = none_from_test 10 (codes "not empty") refl
text_has_no_feed NoDevice = none_from_test 10 (codes "no device") refl
text_has_no_feed AlreadyUpgraded = none_from_test 10 (codes "already upgraded") refl
text_has_no_feed Range = none_from_test 10 (codes "range") refl
text_has_no_feed Full = none_from_test 10 (codes "full") refl

line_then : (text rest : List ℕ) → (text ++ 10 ∷ []) ++ rest ≡ text ++ 10 ∷ rest
line_then text rest = append_assoc text (10 ∷ []) rest

ends : (text rest : List ℕ) → [] ≡ text ++ 10 ∷ rest → ⊥
ends text rest e = omega (arith, simp length-append at (ap length e))

-- replies are determined by their lines
pub one_list : (first second : List Reply) → AllByRecursion IsReply first → AllByRecursion IsReply second
    → flat_map line_of first ≡ flat_map line_of second → first ≡ second
one_list [] [] p q e = refl
one_list [] (b ∷ second) p q e = absurd (ends (text_of b) (flat_map line_of second) (e ∙ line_then (text_of b) (flat_map line_of second)))
one_list (a ∷ first) [] p q e = absurd (ends (text_of a) (flat_map line_of first) (sym e ∙ line_then (text_of a) (flat_map line_of first)))
one_list (a ∷ first) (b ∷ second) p q e =
    let parts = split_once 10 (text_of a) (flat_map line_of first) (text_of b) (flat_map line_of second) (text_has_no_feed a) (text_has_no_feed b)
    (sym (line_then (text_of a) (flat_map line_of first)) ∙ e ∙ line_then (text_of b) (flat_map line_of second)) in
    let heads : a ≡ b = one_reply a b p.0 q.0 parts.0 in
    let tails : first ≡ second = one_list first second p.1 q.1 parts.1 in
    cc
