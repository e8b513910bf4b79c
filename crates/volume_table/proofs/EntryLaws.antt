-- The bytes of an entry, and of several.
use Rattle.std.proofs.Common.{◌≡◌, ℕ, zero, suc, ◌≤◌, List, [], ◌∷◌, ◌++◌, length, get_or, replicate, take, drop, refl, sym, ap, ◌∙◌, append_assoc, arith, length-append}
use Rattle.std.specs.Int.{w64, to_be_bytes}
use Rattle.std.specs.List.{All, concat, flat_map}
use Rattle.std.proofs.lemmas.List.Elements.{All-head, All-tail}
use Rattle.record_fields.specs.Fields.{append_same, number_same_8, fields_from, fields_whole}
use Rattle.std.proofs.lemmas.List.{take_at, drop_at, drop-drop}
use Rattle.volume_table.specs.Names.{name_bytes}
use Rattle.volume_table.specs.Tables.{volume_bytes, FitsEntry}
use Rattle.volume_table.specs.declared.volume.Volume.{Volume}
use Rattle.volume_table.proofs.NameLaws.{length-name_bytes, name_same}

abbrev numbers : Volume → List ℕ
numbers v = concat (to_be_bytes w64 v.start ∷ to_be_bytes w64 v.count ∷ [])

pub volume_bytes_is : (v : Volume) → volume_bytes v ≡ name_bytes v.name ++ (to_be_bytes w64 v.start ++ to_be_bytes w64 v.count)
unfolding volume_bytes
volume_bytes_is v = refl

pub length-volume_bytes : (v : Volume) → length v.name ≤ 47 → length (volume_bytes v) ≡ 64
unfolding volume_bytes
length-volume_bytes v most = omega (arith, length-append (name_bytes v.name) (numbers v), length-name_bytes v.name most)

-- an entry begins with the length of a name
pub first_byte : (v : Volume) (rest : List ℕ) → get_or (volume_bytes v ++ rest) 0 0 ≡ length v.name
unfolding volume_bytes name_bytes
first_byte v rest = refl

pub volume_is : (a b : Volume) → a.name ≡ b.name → a.start ≡ b.start → a.count ≡ b.count → a ≡ b
volume_is a b name start count = λ i. record { name = name i; start = start i; count = count i }

-- the bytes decide the volume
pub volume_same : (a b : Volume) → FitsEntry a → FitsEntry b → volume_bytes a ≡ volume_bytes b → a ≡ b
unfolding volume_bytes
volume_same a b fits-a fits-b same =
    let parts = append_same (name_bytes a.name) (numbers a) (name_bytes b.name) (numbers b) (length-name_bytes a.name fits-a.name.most ∙ sym (length-name_bytes b.name fits-b.name.most)) same in
    let starts = append_same (to_be_bytes w64 a.start) (to_be_bytes w64 a.count) (to_be_bytes w64 b.start) (to_be_bytes w64 b.count) refl parts.1 in
    volume_is a b (name_same a.name b.name parts.0) (number_same_8 a.start b.start fits-a.start fits-b.start starts.0) (number_same_8 a.count b.count fits-a.count fits-b.count starts.1)

pub zeros_first : (n : ℕ) → get_or {A = ℕ} (replicate n 0) 0 0 ≡ 0
zeros_first zero = refl
zeros_first (suc n) = refl

-- entries and the zeros behind them decide the volumes
pub entries_same : (a b : List Volume) (m n : ℕ) → All FitsEntry a → All FitsEntry b
    → flat_map volume_bytes a ++ replicate m 0 ≡ flat_map volume_bytes b ++ replicate n 0 → a ≡ b
entries_same [] [] m n fits-a fits-b same = refl
entries_same [] (w ∷ b) m n fits-a fits-b same =
    let fits = All-head FitsEntry w b fits-b in
    let first : get_or (replicate m 0) 0 0 ≡ length w.name =
    ap (λ (xs : List ℕ). get_or xs 0 0) (same ∙ append_assoc (volume_bytes w) (flat_map volume_bytes b) (replicate n 0)) ∙ first_byte w (flat_map volume_bytes b ++ replicate n 0) in
    absurd (omega (arith, first, zeros_first m, fits.name.least))
entries_same (v ∷ a) [] m n fits-a fits-b same =
    let fits = All-head FitsEntry v a fits-a in
    let first : get_or (replicate n 0) 0 0 ≡ length v.name =
    ap (λ (xs : List ℕ). get_or xs 0 0) (sym same ∙ append_assoc (volume_bytes v) (flat_map volume_bytes a) (replicate m 0)) ∙ first_byte v (flat_map volume_bytes a ++ replicate m 0) in
    absurd (omega (arith, first, zeros_first n, fits.name.least))
entries_same (v ∷ a) (w ∷ b) m n fits-a fits-b same =
    let fits-v = All-head FitsEntry v a fits-a in
    let fits-w = All-head FitsEntry w b fits-b in
    let parts = append_same (volume_bytes v) (flat_map volume_bytes a ++ replicate m 0) (volume_bytes w) (flat_map volume_bytes b ++ replicate n 0)
    (length-volume_bytes v fits-v.name.most ∙ sym (length-volume_bytes w fits-w.name.most))
    (sym (append_assoc (volume_bytes v) (flat_map volume_bytes a) (replicate m 0)) ∙ same ∙ append_assoc (volume_bytes w) (flat_map volume_bytes b) (replicate n 0)) in
    let heads : v ≡ w = volume_same v w fits-v fits-w parts.0 in
    let tails : a ≡ b = entries_same a b m n (All-tail FitsEntry v a fits-a) (All-tail FitsEntry w b fits-b) parts.1 in
    cc

-- an entry and its fields
abbrev sizes : List ℕ
sizes = 48 ∷ 8 ∷ 8 ∷ []

pub entry_spelled : (entry : List ℕ) (v : Volume) → length entry ≡ 64 → take 48 entry ≡ name_bytes v.name → take 8 (drop 48 entry) ≡ to_be_bytes w64 v.start
    → take 8 (drop 56 entry) ≡ to_be_bytes w64 v.count → entry ≡ volume_bytes v
unfolding volume_bytes
entry_spelled entry v size name start count =
    let fields : fields_from 0 sizes entry ≡ name_bytes v.name ∷ to_be_bytes w64 v.start ∷ to_be_bytes w64 v.count ∷ [] = cc in
    sym (fields_whole sizes 0 entry (sym size)) ∙ ap concat fields

pub record EntryParts (entry : List ℕ) (v : Volume) : Type 0 where
  pub name : take 48 entry ≡ name_bytes v.name
  pub start : take 8 (drop 48 entry) ≡ to_be_bytes w64 v.start
  pub count : take 8 (drop 56 entry) ≡ to_be_bytes w64 v.count

pub entry_parts : (entry : List ℕ) (v : Volume) → length v.name ≤ 47 → entry ≡ volume_bytes v → EntryParts entry v
unfolding volume_bytes
entry_parts entry v most same =
    let size = length-name_bytes v.name most in
    let behind : drop 48 entry ≡ numbers v = ap (drop 48) same ∙ drop_at (name_bytes v.name) (numbers v) 48 size in
    record {
      name = ap (take 48) same ∙ take_at (name_bytes v.name) (numbers v) 48 size;
      start = ap (take 8) behind;
      count = ap (take 8) (sym (drop-drop 8 48 entry) ∙ ap (drop 8) behind);
    }
