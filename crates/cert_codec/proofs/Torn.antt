-- A text that reads as an object has a closing brace.
use Rattle.std.proofs.Common.{Bool, true, false, cond, ◌≡◌, ℕ, List, [], ◌∷◌, ◌++◌, take, length, ◌<◌, Option, None, Some, refl, subst, append_assoc}
use Rattle.std.specs.Prelude.{◌≢◌, ◌==◌, ◌&&◌, nat_eq, drop, option_and_then, option_map}
use Rattle.std.specs.List.{AllByRecursion, starts_with}
use Rattle.std.proofs.lemmas.Bool.{ne_eqb}
use Rattle.std.proofs.lemmas.Option.{none-some, same_Some}
use Rattle.json.specs.Token.{Token, begin_object, end_object, begin_array, end_array, key, string, number, boolean, null, bad}
use Rattle.json.specs.Ascii as ascii
use Rattle.json.specs.Word.{word, literal, head, number_before, after_number, ends_word}
use Rattle.json.specs.Lex as lexer
use Rattle.json.specs.Lex.{Lexeme, Class, quote, backslash, operator, space, other, Mode, between, in_word, in_string, in_escape, class, lex, lex_byte, operator_lexeme, string_token, Place, fresh, after_value, after_comma, after_key, if_allowed, place_token, begins_colon, punctuate, tokens}
use Rattle.json.specs.Json as json
use Rattle.json.specs.Tree.{json_tokens, members_tokens}
use Rattle.json.proofs.Unique.Spelling.{value-json_tokens_back}
use Rattle.serde_json.specs.Data as values
use Rattle.serde_json.specs.Read.{read, of_json, of_items, max_depth, number_of}
use Rattle.cert_maker.specs.Cert.{Cert}
use Rattle.cert_codec.specs.Text.{cert_json, Spells, Fits}
use Rattle.serde_json.specs.Written.{compact_text}
use Rattle.cert_codec.proofs.Lacks.{Lacks, closes_last}

-- ---- a text without a closing brace has no token for one

abbrev Other : Token → Type 0
Other begin_object = Unit {0}
Other end_object = ⊥
Other begin_array = Unit {0}
Other end_array = Unit {0}
Other (key s) = Unit {0}
Other (string s) = Unit {0}
Other (number s) = Unit {0}
Other (boolean b) = Unit {0}
Other null = Unit {0}
Other bad = Unit {0}

abbrev OtherLexeme : Lexeme → Type 0
OtherLexeme (lexer.token t) = Other t
OtherLexeme lexer.comma = Unit {0}
OtherLexeme lexer.colon = Unit {0}

either : (b : Bool) (x y : Token) → Other x → Other y → Other (cond b x y)
either true x y p q = p
either false x y p q = q

either_lexeme : (b : Bool) (x y : Lexeme) → OtherLexeme x → OtherLexeme y → OtherLexeme (cond b x y)
either_lexeme true x y p q = p
either_lexeme false x y p q = q

number_other : (t : List ℕ) (o : Option (List ℕ)) → Other (number_before t o)
number_other t None = tt
number_other t (Some r) = either (ends_word r) _ bad tt tt

literal_other : (name : List ℕ) (k : Token) (t : List ℕ) → Other k → Other (literal name k t)
literal_other name k t h = either (starts_with nat_eq t name && ends_word (drop (length name) t)) k bad h tt

word_other : (t : List ℕ) → Other (word t)
unfolding word
word_other t =
    let or_number = number_before t (after_number t) in
    let or_null = cond (head t == ascii.lower_n) (literal ascii.null_text null t) or_number in
    let or_false = cond (head t == ascii.lower_f) (literal ascii.false_text (boolean false) t) or_null in
    let last : Other or_null = either (head t == ascii.lower_n) (literal ascii.null_text null t) or_number (literal_other ascii.null_text null t tt) (number_other t (after_number t)) in
    let later : Other or_false = either (head t == ascii.lower_f) (literal ascii.false_text (boolean false) t) or_null (literal_other ascii.false_text (boolean false) t tt) last in
    either (head t == ascii.lower_t) (literal ascii.true_text (boolean true) t) or_false (literal_other ascii.true_text (boolean true) t tt) later

string_other : (o : Option (List ℕ)) → Other (string_token o)
string_other None = tt
string_other (Some s) = tt

operator_other : (x : ℕ) → x ≢ 125 → OtherLexeme (operator_lexeme x)
operator_other x ne =
    either_lexeme (x == 123) (lexer.token begin_object) _ tt
    (rw (ne_eqb x 125 ne)
    (either_lexeme (x == 91) (lexer.token begin_array) _ tt (either_lexeme (x == 93) (lexer.token end_array) _ tt (either_lexeme (x == 44) lexer.comma lexer.colon tt tt))))

byte_other : (m : Mode) (c : Class) (x : ℕ) (xs : List ℕ) → x ≢ 125 → (k : Mode → List Lexeme) → ((next : Mode) → AllByRecursion OtherLexeme (k next)) → AllByRecursion OtherLexeme (lex_byte m c x xs k)
byte_other between quote x xs ne k h = (string_other _, h in_string)
byte_other between backslash x xs ne k h = (tt, h in_word)
byte_other between operator x xs ne k h = (operator_other x ne, h between)
byte_other between space x xs ne k h = h between
byte_other between other x xs ne k h = (word_other (x ∷ xs), h in_word)
byte_other in_word quote x xs ne k h = h in_word
byte_other in_word backslash x xs ne k h = h in_word
byte_other in_word operator x xs ne k h = (operator_other x ne, h between)
byte_other in_word space x xs ne k h = h between
byte_other in_word other x xs ne k h = h in_word
byte_other in_string quote x xs ne k h = h between
byte_other in_string backslash x xs ne k h = h in_escape
byte_other in_string operator x xs ne k h = h in_string
byte_other in_string space x xs ne k h = h in_string
byte_other in_string other x xs ne k h = h in_string
byte_other in_escape c x xs ne k h = h in_string

lex_other : (m : Mode) (xs : List ℕ) → Lacks 125 xs → AllByRecursion OtherLexeme (lex m xs)
unfolding lex
lex_other m [] h = tt
lex_other m (x ∷ xs) h = byte_other m (class x) x xs h.0 (λ next. lex next xs) (λ next. lex_other next xs h.1)

allowed_other : (b : Bool) (t : Token) (k : Place → List Token) (next : Place) → Other t → AllByRecursion Other (k next) → AllByRecursion Other (if_allowed b t k next)
allowed_other true t k next one rest = (one, rest)
allowed_other false t k next one rest = (tt, tt)

place_other : (p : Place) (t : Token) (colon : Bool) (k : Place → List Token) → Other t → ((next : Place) → AllByRecursion Other (k next)) → AllByRecursion Other (place_token p t colon k)
place_other p begin_object colon k one rest = allowed_other _ begin_object k fresh tt (rest fresh)
place_other p end_object colon k one rest = absurd one
place_other p begin_array colon k one rest = allowed_other _ begin_array k fresh tt (rest fresh)
place_other p end_array colon k one rest = allowed_other _ end_array k after_value tt (rest after_value)
place_other p (key s) colon k one rest = (tt, tt)
place_other p (string s) true k one rest = allowed_other _ (key s) k after_key tt (rest after_key)
place_other p (string s) false k one rest = allowed_other _ (string s) k after_value tt (rest after_value)
place_other p (number s) colon k one rest = allowed_other _ (number s) k after_value tt (rest after_value)
place_other p (boolean b) colon k one rest = allowed_other _ (boolean b) k after_value tt (rest after_value)
place_other p null colon k one rest = allowed_other _ null k after_value tt (rest after_value)
place_other p bad colon k one rest = (tt, tt)

punctuate_other : (p : Place) (ls : List Lexeme) → AllByRecursion OtherLexeme ls → AllByRecursion Other (punctuate p ls)
unfolding punctuate
punctuate_other fresh [] h = tt
punctuate_other after_value [] h = tt
punctuate_other after_comma [] h = (tt, tt)
punctuate_other after_key [] h = (tt, tt)
punctuate_other fresh (lexer.token t ∷ ls) h = place_other fresh t (begins_colon ls) (λ next. punctuate next ls) h.0 (λ next. punctuate_other next ls h.1)
punctuate_other after_value (lexer.token t ∷ ls) h = place_other after_value t (begins_colon ls) (λ next. punctuate next ls) h.0 (λ next. punctuate_other next ls h.1)
punctuate_other after_comma (lexer.token t ∷ ls) h = place_other after_comma t (begins_colon ls) (λ next. punctuate next ls) h.0 (λ next. punctuate_other next ls h.1)
punctuate_other after_key (lexer.token t ∷ ls) h = place_other after_key t (begins_colon ls) (λ next. punctuate next ls) h.0 (λ next. punctuate_other next ls h.1)
punctuate_other fresh (lexer.comma ∷ ls) h = (tt, tt)
punctuate_other after_value (lexer.comma ∷ ls) h = punctuate_other after_comma ls h.1
punctuate_other after_comma (lexer.comma ∷ ls) h = (tt, tt)
punctuate_other after_key (lexer.comma ∷ ls) h = (tt, tt)
punctuate_other fresh (lexer.colon ∷ ls) h = (tt, tt)
punctuate_other after_value (lexer.colon ∷ ls) h = (tt, tt)
punctuate_other after_comma (lexer.colon ∷ ls) h = (tt, tt)
punctuate_other after_key (lexer.colon ∷ ls) h = punctuate_other fresh ls h.1

-- ---- an object has one

on_the_right : (xs ys : List Token) → AllByRecursion Other (xs ++ ys) → AllByRecursion Other ys
on_the_right [] ys h = h
on_the_right (x ∷ xs) ys h = on_the_right xs ys h.1

members_close : (ms : json.Members) (rest : List Token) → AllByRecursion Other (members_tokens ms ++ rest) → ⊥
members_close json.no_members rest h = h.0
members_close (json.member k j ms) rest h =
    members_close ms rest (on_the_right (json_tokens j) (members_tokens ms ++ rest) (subst (AllByRecursion Other) (append_assoc (json_tokens j) (members_tokens ms) rest) h.1))

number_is : (o : Option values.Num) (ms : values.Members) → option_map values.number o ≡ Some (values.object ms) → ⊥
number_is None ms e = none-some _ e
number_is (Some n) ms e = let clash : values.number n ≡ values.object ms = same_Some _ _ e in cc

array_is_no_object : (o : Option values.Items) (ms : values.Members) → option_map values.array o ≡ Some (values.object ms) → ⊥
array_is_no_object None ms e = none-some _ e
array_is_no_object (Some is) ms e = let clash : values.array is ≡ values.object ms = same_Some _ _ e in cc

object_read : (r : Option (json.Json × List Token)) (ms : values.Members) → option_and_then of_json (option_and_then (λ p. json.if_last p.0 p.1) r) ≡ Some (values.object ms)
    → (ks : json.Members) × (rest : List Token) × (r ≡ Some (json.object ks, rest))
object_read None ms e = absurd (none-some _ e)
object_read (Some (j, t ∷ ts)) ms e = absurd (none-some _ e)
object_read (Some (json.null, [])) ms e = absurd (let clash : values.null ≡ values.object ms = same_Some _ _ e in cc)
object_read (Some (json.boolean b, [])) ms e = absurd (let clash : values.boolean b ≡ values.object ms = same_Some _ _ e in cc)
object_read (Some (json.number s, [])) ms e = absurd (number_is (number_of s) ms e)
object_read (Some (json.string s, [])) ms e = absurd (let clash : values.string s ≡ values.object ms = same_Some _ _ e in cc)
object_read (Some (json.array js, [])) ms e = absurd (array_is_no_object (of_items js) ms e)
object_read (Some (json.object ks, [])) ms e = (ks, [], refl)

pub no_object : (bytes : List ℕ) (ms : values.Members) → Lacks 125 bytes → read bytes ≡ Some (values.object ms) → ⊥
no_object bytes ms free is =
    let found = object_read (json.value max_depth (tokens bytes)) ms is in
    let spelled : tokens bytes ≡ json_tokens (json.object found.0) ++ found.1 = value-json_tokens_back max_depth (tokens bytes) found.1 (json.object found.0) found.2 in
    let others : AllByRecursion Other (tokens bytes) = punctuate_other fresh (lex between bytes) (lex_other between bytes free) in
    members_close found.0 found.1 (subst (AllByRecursion Other) spelled others).1

pub no_first_part : (cert : Cert) → Fits cert → (n : ℕ) → n < length (compact_text (cert_json cert)) → (other : Cert) → Spells (take n (compact_text (cert_json cert))) other → ⊥
no_first_part cert fits n below one spells = no_object (take n (compact_text (cert_json cert))) _ (closes_last cert fits n below) spells.1
