-- Tables with a volume more and with one less, by which volumes they have.
use Rattle.std.proofs.Common.{◌≡◌, ◌≢◌, ℕ, suc, ◌+◌, ◌-◌, ◌*◌, ◌^◌, ◌<◌, inl, inr, List, [], ◌∷◌, ◌++◌, length, get_or, replicate, take, drop, refl, sym, ap, ◌∙◌, subst, arith, length-append}
use Rattle.std.specs.Prelude.{◌⊎◌}
use Rattle.std.specs.List.{All, AllPairs, Contains, flat_map}
use Rattle.std.proofs.lemmas.Bool.{cases_lt}
use Rattle.std.proofs.lemmas.List.{get_or_read, get_or-take, get_or-drop, length-take, length-drop, length-replicate, take-append-drop}
use Rattle.std.proofs.lemmas.List.Elements.{All-head, All-tail, All-append, All-contains, Contains-append_left, Contains-append_right, Contains-append_cases, Contains-push_cases, Contains-push}
use Rattle.std.proofs.lemmas.Option.{get_or_from_slice_get, slice_get_within}
use Rattle.std.proofs.Math.Seq.{drop-cons}
use Rattle.volume_table.specs.Names.{IsName}
use Rattle.volume_table.specs.Tables.{IsTable, IsInside, EndsBefore, IsPlaced, Lacks, table_bytes, volume_bytes}
use Rattle.volume_table.specs.declared.volume.Volume.{Volume}
use Rattle.volume_table.proofs.EntryLaws.{length-volume_bytes}
use Rattle.volume_table.proofs.TableLaws.{All-insert, All-remove, one_table, removed}
use Rattle.device_course.specs.Held.{Held}
use Rattle.volume_terms.specs.Volumes.{IsTabled, IsNamed, IsTaken, IsBlockOf}

-- ---- the bytes of a table

entries_size : (table : List Volume) → All (λ v. IsName v.name) table → length (flat_map volume_bytes table) ≡ 64 * length table
entries_size [] names = refl
entries_size (v ∷ table) names =
    let here : IsName v.name = All-head (λ (w : Volume). IsName w.name) v table names in
    omega (arith, length-append (volume_bytes v) (flat_map volume_bytes table), length-volume_bytes v here.most, entries_size table (All-tail (λ (w : Volume). IsName w.name) v table names))

pub table_size : (blocks : ℕ) (table : List Volume) → IsTable blocks table → length (table_bytes table) ≡ 4096
table_size blocks table is =
    omega (arith, length-append (flat_map volume_bytes table) (replicate (4096 - 64 * length table) 0), entries_size table is.names, length-replicate {A = ℕ} (4096 - 64 * length table) 0, is.most)

-- block 0 spells one table
pub one_tabled : (held : Held) (a b : List Volume) → held.device.blocks < 2 ^ 64 → IsTabled held a → IsTabled held b → a ≡ b
one_tabled held a b below tabled tabled' = one_table held.device.blocks held.device.blocks a b below below tabled.is tabled'.is (sym tabled.spelled ∙ tabled'.spelled)

-- ---- two volumes of a table

-- they are the same, or stand in its order
in_order : (R : Volume → Volume → Type 0) (table : List Volume) (v w : Volume) → AllPairs R table → Contains table v → Contains table w → (v ≡ w) ⊎ (R v w ⊎ R w v)
in_order R table v w pairs (i, below, is) (j, below', is') =
    let second : w ≡ get_or table j v = get_or_read table j w below' (sym is') v in
    elim (cases_lt i j) [
      | inl under ↦ inr (inl (subst (λ (x : Volume). R x w) is (subst (λ (y : Volume). R (get_or table i v) y) (sym second) (pairs i j v under below'))))
      | inr over ↦ elim (cases_lt j i) [
        | inl above ↦ inr (inr (subst (λ (x : Volume). R w x) is (subst (λ (y : Volume). R y (get_or table i v)) (sym second) (pairs j i v above below))))
        | inr under ↦
            let same : j ≡ i = omega (arith, over, under) in
            inl (sym is ∙ ap (λ (k : ℕ). get_or table k v) (sym same) ∙ sym second)
      ]
    ]

-- a name is that of one
pub one_named : (blocks : ℕ) (table : List Volume) (name : List ℕ) (v w : Volume) → IsTable blocks table → IsNamed table name v → IsNamed table name w → v ≡ w
one_named blocks table name v w is (there, same) (there', same') =
    elim (in_order (λ (a b : Volume). a.name ≢ b.name) table v w is.named there there') [
      | inl one ↦ one
      | inr (inl apart) ↦ absurd (apart (same ∙ sym same'))
      | inr (inr apart) ↦ absurd (apart (same' ∙ sym same))
    ]

-- a block is that of one
pub one_has : (blocks : ℕ) (table : List Volume) (v w : Volume) (block : ℕ) → IsTable blocks table → Contains table v → Contains table w → v ≢ w → IsBlockOf v block → IsBlockOf w block → ⊥
one_has blocks table v w block is there there' other mine yours =
    elim (in_order EndsBefore table v w is.ordered there there') [
      | inl one ↦ other one
      | inr (inl before) ↦ omega (arith, before, mine.below, yours.from)
      | inr (inr before) ↦ omega (arith, before, yours.below, mine.from)
    ]

-- the first is that of none
pub inside_of : (blocks : ℕ) (table : List Volume) (v : Volume) → IsTable blocks table → Contains table v → IsInside blocks v
inside_of blocks table v is there = All-contains (IsInside blocks) table v is.inside there

pub not_first : (blocks : ℕ) (table : List Volume) (v : Volume) (block : ℕ) → IsTable blocks table → Contains table v → IsBlockOf v block → block ≢ 0
not_first blocks table v block is there has same = let inside = inside_of blocks table v is there in omega (arith, inside.start, has.from, same)

pub lacks_not : (table : List Volume) (name : List ℕ) (v : Volume) → Lacks table name → IsNamed table name v → ⊥
lacks_not table name v lacks (there, same) = All-contains (λ (w : Volume). w.name ≢ name) table v lacks there same

-- ---- a volume more

pub placed_has : (old : List Volume) (v : Volume) (new : List Volume) → IsPlaced old v new → Contains new v
placed_has old v new (at, within, is) =
    subst (λ (xs : List Volume). Contains xs v) (sym is)
    (Contains-append_right (take at old) (v ∷ drop at old) v (Contains-append_left (v ∷ []) (drop at old) v (Contains-push [] v)))

pub placed_keeps : (old : List Volume) (v : Volume) (new : List Volume) (w : Volume) → IsPlaced old v new → Contains old w → Contains new w
placed_keeps old v new w (at, within, is) there =
    subst (λ (xs : List Volume). Contains xs w) (sym is)
    (elim (Contains-append_cases (take at old) (drop at old) w (subst (λ (xs : List Volume). Contains xs w) (sym (take-append-drop at old)) there)) [
      | inl front ↦ Contains-append_left (take at old) (v ∷ drop at old) w front
      | inr back ↦ Contains-append_right (take at old) (v ∷ drop at old) w (Contains-append_right (v ∷ []) (drop at old) w back)
    ])

first_or_rest : (v : Volume) (rest : List Volume) (w : Volume) → Contains (v ∷ rest) w → (v ≡ w) ⊎ Contains rest w
first_or_rest v rest w there =
    elim (Contains-append_cases (v ∷ []) rest w there) [
      | inl first ↦ elim (Contains-push_cases [] v w first) [
        | inl none ↦ absurd (omega (arith, none.1))
        | inr same ↦ inl same
      ]
      | inr behind ↦ inr behind
    ]

pub placed_only : (old : List Volume) (v : Volume) (new : List Volume) (w : Volume) → IsPlaced old v new → Contains new w → (v ≡ w) ⊎ Contains old w
placed_only old v new w (at, within, is) there =
    elim (Contains-append_cases (take at old) (v ∷ drop at old) w (subst (λ (xs : List Volume). Contains xs w) is there)) [
      | inl front ↦ inr (subst (λ (xs : List Volume). Contains xs w) (take-append-drop at old) (Contains-append_left (take at old) (drop at old) w front))
      | inr back ↦ elim (first_or_rest v (drop at old) w back) [
        | inl same ↦ inl same
        | inr behind ↦ inr (subst (λ (xs : List Volume). Contains xs w) (take-append-drop at old) (Contains-append_right (take at old) (drop at old) w behind))
      ]
    ]

pub placed_lacks : (old : List Volume) (v : Volume) (new : List Volume) (name : List ℕ) → IsPlaced old v new → Lacks old name → v.name ≢ name → Lacks new name
placed_lacks old v new name (at, within, is) lacks other =
    subst (λ (xs : List Volume). Lacks xs name) (sym is) (All-insert (λ (w : Volume). w.name ≢ name) old at v lacks other)

-- ---- a volume less

-- the table falls into what stands before it, it, and what stands behind it
parts : (old : List Volume) (v : Volume) (at : ℕ) → at < length old → get_or old at v ≡ v → take at old ++ (v ∷ drop (suc at) old) ≡ old
parts old v at within there =
    ap (λ (xs : List Volume). take at old ++ xs) (sym (drop-cons old at v within ∙ ap (λ (x : Volume). x ∷ drop (suc at) old) there)) ∙ take-append-drop at old

pub taken_had : (old : List Volume) (v : Volume) (new : List Volume) → IsTaken old v new → Contains old v
taken_had old v new (at, there, is) = (at, slice_get_within old at v there, get_or_from_slice_get old at v v there)

pub taken_keeps : (old : List Volume) (v : Volume) (new : List Volume) (w : Volume) → IsTaken old v new → Contains old w → v ≢ w → Contains new w
taken_keeps old v new w (at, there, is) had other =
    let whole = parts old v at (slice_get_within old at v there) (get_or_from_slice_get old at v v there) in
    subst (λ (xs : List Volume). Contains xs w) (sym is)
    (elim (Contains-append_cases (take at old) (v ∷ drop (suc at) old) w (subst (λ (xs : List Volume). Contains xs w) (sym whole) had)) [
      | inl front ↦ Contains-append_left (take at old) (drop (suc at) old) w front
      | inr back ↦ elim (first_or_rest v (drop (suc at) old) w back) [
        | inl same ↦ absurd (other same)
        | inr behind ↦ Contains-append_right (take at old) (drop (suc at) old) w behind
      ]
    ])

pub taken_only : (old : List Volume) (v : Volume) (new : List Volume) (w : Volume) → IsTaken old v new → Contains new w → Contains old w
taken_only old v new w (at, there, is) has =
    let whole = parts old v at (slice_get_within old at v there) (get_or_from_slice_get old at v v there) in
    subst (λ (xs : List Volume). Contains xs w) whole
    (elim (Contains-append_cases (take at old) (drop (suc at) old) w (subst (λ (xs : List Volume). Contains xs w) is has)) [
      | inl front ↦ Contains-append_left (take at old) (v ∷ drop (suc at) old) w front
      | inr back ↦ Contains-append_right (take at old) (v ∷ drop (suc at) old) w (Contains-append_right (v ∷ []) (drop (suc at) old) w back)
    ])

pub taken_lacks : (old : List Volume) (v : Volume) (new : List Volume) (name : List ℕ) → IsTaken old v new → Lacks old name → Lacks new name
taken_lacks old v new name (at, there, is) lacks = subst (λ (xs : List Volume). Lacks xs name) (sym is) (All-remove (λ (w : Volume). w.name ≢ name) old at lacks)

pub taken_table : (blocks : ℕ) (old : List Volume) (v : Volume) (new : List Volume) → IsTable blocks old → IsTaken old v new → IsTable blocks new
taken_table blocks old v new table (at, there, is) = subst (IsTable blocks) (sym is) (removed blocks old at table (slice_get_within old at v there))

-- it was the only one of its name
pub taken_name : (blocks : ℕ) (old : List Volume) (v : Volume) (new : List Volume) → IsTable blocks old → IsTaken old v new → Lacks new v.name
taken_name blocks old v new table (at, there, is) =
    let within = slice_get_within old at v there in
    let here : (d : Volume) → get_or old at d ≡ v = λ d. get_or_from_slice_get old at v d there in
    subst (λ (xs : List Volume). Lacks xs v.name) (sym is)
    (All-append (λ (w : Volume). w.name ≢ v.name) (take at old) (drop (suc at) old)
    (λ k d below same.
    let under : k < at = omega (arith, below, length-take at old) in
    let first : get_or (take at old) k d ≡ get_or old k d = get_or-take at old k d under in
    table.named k at d under within (ap (λ (w : Volume). w.name) (sym first) ∙ same ∙ ap (λ (w : Volume). w.name) (sym (here d))))
    (λ k d below same.
    let over : suc at + k < length old = omega (arith, below, length-drop (suc at) old) in
    let second : get_or (drop (suc at) old) k d ≡ get_or old (suc at + k) d = get_or-drop (suc at) old k d in
    table.named at (suc at + k) d (omega arith) over (ap (λ (w : Volume). w.name) (here d) ∙ sym same ∙ ap (λ (w : Volume). w.name) second)))
