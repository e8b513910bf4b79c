-- The bytes of a name.
use Rattle.std.proofs.Common.{◌≡◌, ℕ, ◌-◌, ◌≤◌, List, [], ◌∷◌, Option, None, Some, IfSome, IfNone, subst, ◌++◌, length, get_or, replicate, take, drop, refl, sym, ap, ◌∙◌, arith, length-append}
use Rattle.std.proofs.lemmas.List.{length-replicate, length-take, length-drop, drop-replicate, take_at, drop_at, take-append-drop}
use Rattle.record_fields.specs.Fields.{append_same}
use Rattle.volume_table.specs.Names.{IsName, name_bytes, unpadded}

pub length-name_bytes : (name : List ℕ) → length name ≤ 47 → length (name_bytes name) ≡ 48
unfolding name_bytes
length-name_bytes name most = omega (arith, length-append name (replicate (47 - length name) 0), length-replicate {A = ℕ} (47 - length name) 0)

-- the bytes decide the name
pub name_same : (a b : List ℕ) → name_bytes a ≡ name_bytes b → a ≡ b
unfolding name_bytes
name_same a b same =
    let lengths : length a ≡ length b = cc in
    let tails : a ++ replicate (47 - length a) 0 ≡ b ++ replicate (47 - length b) 0 = cc in
    (append_same a (replicate (47 - length a) 0) b (replicate (47 - length b) 0) lengths tails).0

-- bytes that are a name with its length before it and zeros behind it
pub name_spelled : (field text zeros : List ℕ) (len : ℕ) → length text ≡ len → len ≤ 47 → field ≡ len ∷ (text ++ zeros) → zeros ≡ replicate (length zeros) 0 → length zeros ≡ 47 - len
    → field ≡ name_bytes text
unfolding name_bytes
name_spelled field text zeros len is-text most whole is-zeros size =
    whole ∙ ap (λ (n : ℕ). n ∷ (text ++ zeros)) (sym is-text)
    ∙ ap (λ (xs : List ℕ). length text ∷ (text ++ xs)) (is-zeros ∙ ap (λ (n : ℕ). replicate n 0) (size ∙ ap (λ (n : ℕ). 47 - n) (sym is-text)))

pub put_name : (bytes name : List ℕ) (len : ℕ) → len ≤ 47 → length bytes ≡ 47 → drop len bytes ≡ replicate (47 - len) 0 → name ≡ take len bytes → len ∷ bytes ≡ name_bytes name
unfolding name_bytes
put_name bytes name len most size zeros is-name =
    let known = unpadded bytes len most size zeros in
    rw is-name (cc (known.0, known.1))

-- a name copied over zeros
abbrev zeros : List ℕ
zeros = replicate 47 0

pub filled : (copied text : List ℕ) → copied ≡ text → length text ≤ 47
    → (length text ≤ 47) × (length (copied ++ drop (length text) zeros) ≡ 47) × (drop (length text) (copied ++ drop (length text) zeros) ≡ replicate (47 - length text) 0)
filled copied text same most =
    let behind : drop (length text) zeros ≡ replicate (47 - length text) 0 = drop-replicate {X = ℕ} (length text) 47 0 in
    let size : length copied ≡ length text = ap length same in
    let left : length (drop (length text) zeros) ≡ 47 - length text = length-drop (length text) zeros in (
      most,
      omega (arith, length-append copied (drop (length text) zeros), left, size),
      drop_at copied (drop (length text) zeros) (length text) size ∙ behind,
    )

first_and_rest : (xs : List ℕ) → 1 ≤ length xs → xs ≡ get_or xs 0 0 ∷ drop 1 xs
first_and_rest [] least = absurd (omega (arith, least))
first_and_rest (x ∷ xs) least = refl

-- what the 48 bytes say
pub field_spelled : (field text zeros : List ℕ) (len : ℕ) → length field ≡ 48 → len ≡ get_or field 0 0 → length text ≤ 47 → len ≤ length (drop 1 field)
    → text ≡ take len (drop 1 field) → zeros ≡ drop len (drop 1 field) → zeros ≡ replicate (length zeros) 0 → field ≡ name_bytes text
field_spelled field text zeros len size first most within is-text is-zeros are-zero =
    let rest : length (drop 1 field) ≡ 47 = length-drop 1 field ∙ omega arith in
    let text-size : length text ≡ len = ap length is-text ∙ length-take len (drop 1 field) ∙ omega arith in
    let whole : drop 1 field ≡ text ++ zeros = sym (take-append-drop len (drop 1 field)) ∙ cc (is-text, is-zeros) in
    let zeros-size : length zeros ≡ 47 - len = ap length is-zeros ∙ length-drop len (drop 1 field) ∙ omega arith in
    name_spelled field text zeros len text-size (omega arith)
    (first_and_rest field (omega arith) ∙ cc (sym first, whole)) are-zero zeros-size

-- what the 48 bytes of a name have
pub record FieldParts (field name : List ℕ) : Type 0 where
  pub first : get_or field 0 0 ≡ length name
  pub rest : length (drop 1 field) ≡ 47
  pub text : take (length name) (drop 1 field) ≡ name
  pub zeros : drop (length name) (drop 1 field) ≡ replicate (47 - length name) 0

pub field_parts : (field name : List ℕ) → length name ≤ 47 → field ≡ name_bytes name → FieldParts field name
unfolding name_bytes
field_parts field name most same =
    let rest : drop 1 field ≡ name ++ replicate (47 - length name) 0 = ap (drop 1) same in
    record {
      first = ap (λ (xs : List ℕ). get_or xs 0 0) same;
      rest = ap length rest ∙ length-append name (replicate (47 - length name) 0) ∙ omega (arith, length-replicate {A = ℕ} (47 - length name) 0);
      text = ap (take (length name)) rest ∙ take_at name (replicate (47 - length name) 0) (length name) refl;
      zeros = ap (drop (length name)) rest ∙ drop_at name (replicate (47 - length name) 0) (length name) refl;
    }

-- what reading a text as a name says
pub some_name : (read : Option (List ℕ)) (text name : List ℕ) → IfSome read (λ n. (n ≡ text) × IsName text) → IfNone read (IsName text → ⊥) → text ≡ name → IsName name → read ≡ Some name
some_name None text name found none same is = absurd (none (subst IsName (sym same) is))
some_name (Some n) text name found none same is = ap Some (found.0 ∙ same)
