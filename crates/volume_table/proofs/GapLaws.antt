-- Looking for a gap from the first volume on.
use Rattle.std.proofs.Common.{◌≡◌, ℕ, ◌+◌, ◌-◌, ◌<◌, ◌≤◌, inl, inr, List, length, get_or, take, drop, sym, ap, ◌∙◌, subst, arith}
use Rattle.std.specs.List.{All}
use Rattle.std.proofs.lemmas.Bool.{cases_lt}
use Rattle.std.proofs.lemmas.List.{get_or_read, get_or-drop, length-drop}
use Rattle.std.proofs.lemmas.List.Elements.{All-more, All-weaker}
use Rattle.volume_table.specs.Tables.{IsTable, FitsAt, IsGap}
use Rattle.volume_table.specs.declared.volume.Volume.{Volume}
use Rattle.volume_table.proofs.TableLaws.{at_front, at_back}

-- all up to a place end before this block, no other begins before it, and nothing fits before it
pub record Walked (blocks count : ℕ) (table : List Volume) (at start : ℕ) : Type 0 where
  pub least : 1 ≤ start
  pub before : All (λ v. v.start + v.count ≤ start) (take at table)
  pub behind : All (λ v. start ≤ v.start) (drop at table)
  pub none : (other : ℕ) → FitsAt blocks table count other → start ≤ other

module _ (blocks count : ℕ) (table : List Volume) (is : IsTable blocks table) (at start : ℕ) (walked : Walked blocks count table at start) where
  pub begins_behind : (v : Volume) → v ≡ get_or table at v → at < length table → start ≤ v.start
  begins_behind v read within =
      let here = at_back (λ (w : Volume). start ≤ w.start) table at at v walked.behind (omega arith) within in
      omega (arith, here, ap (λ (w : Volume). w.start) read)

  inside_of : (v : Volume) → v ≡ get_or table at v → at < length table → v.start + v.count ≤ blocks
  inside_of v read within = omega (arith, (is.inside at v within).within, ap (λ (w : Volume). w.start) read, ap (λ (w : Volume). w.count) read)

  -- what stands behind a volume begins where it ends
  pub later : (v : Volume) → v ≡ get_or table at v → (j : ℕ) (d : Volume) → at < j → j < length table → v.start + v.count ≤ (get_or table j d).start
  later v read j d over within =
      let here : v ≡ get_or table at d = get_or_read table at v (omega arith) read d in
      omega (arith, is.ordered at j d over within, ap (λ (w : Volume). w.start) here, ap (λ (w : Volume). w.count) here)

  pub gap_before : (v : Volume) → v ≡ get_or table at v → at < length table → count ≤ v.start - start → 1 ≤ count → IsGap blocks table count at start
  gap_before v read within room some =
      let first = begins_behind v read within in
      let last = inside_of v read within in
      let behind : All (λ (w : Volume). start + count ≤ w.start) (drop at table) = λ k d h.
      let size : k < length table - at = omega (arith, h, length-drop at table) in
      let same : get_or (drop at table) k d ≡ get_or table (at + k) d = get_or-drop at table k d in
      elim (cases_lt 0 k) [
        | inl over ↦ omega (arith, ap (λ (w : Volume). w.start) same, later v read (at + k) d (omega arith) (omega arith))
        | inr none ↦
            let place : at + k ≡ at = omega arith in
            let here : v ≡ get_or (drop at table) k d = get_or_read table at v within read d ∙ ap (λ (n : ℕ). get_or table n d) (sym place) ∙ sym same in
            omega (arith, ap (λ (w : Volume). w.start) here)
      ] in
      record {
        place = omega arith;
        least = record {
          fits = record {
            least = walked.least;
            within = omega arith;
            free = λ k d h. elim (cases_lt k at) [
              | inl low ↦ inr (at_front (λ (w : Volume). w.start + w.count ≤ start) table at k d walked.before low h)
              | inr high ↦ inl (at_back (λ (w : Volume). start + count ≤ w.start) table at k d behind high h)
            ];
          };
          least = walked.none;
        };
        before = walked.before;
        behind = behind;
      }

  pub walked_more : (v : Volume) → v ≡ get_or table at v → at < length table → v.start - start < count → Walked blocks count table (at + 1) (v.start + v.count)
  walked_more v read within narrow =
      let first = begins_behind v read within in
      record {
        least = omega (arith, walked.least);
        before = All-more (λ (w : Volume). w.start + w.count ≤ v.start + v.count) table at v within
            (All-weaker (λ (w : Volume). w.start + w.count ≤ start) (λ (w : Volume). w.start + w.count ≤ v.start + v.count) (λ w h. omega arith) (take at table) walked.before)
            (omega (arith, ap (λ (w : Volume). w.start) read, ap (λ (w : Volume). w.count) read));
        behind = λ k d h.
            let size : k < length table - (at + 1) = omega (arith, h, length-drop (at + 1) table) in
            let same : get_or (drop (at + 1) table) k d ≡ get_or table (at + 1 + k) d = get_or-drop (at + 1) table k d in
            omega (arith, ap (λ (w : Volume). w.start) same, later v read (at + 1 + k) d (omega arith) (omega arith));
        none = λ other fits. elim (fits.free at v within) [
          | inl before ↦ absurd (omega (arith, before, walked.none other fits, ap (λ (w : Volume). w.start) read))
          | inr behind ↦ omega (arith, behind, ap (λ (w : Volume). w.start) read, ap (λ (w : Volume). w.count) read)
        ];
      }

  pub gap_behind_all : at ≡ length table → count ≤ blocks → start ≤ blocks - count → IsGap blocks table count (length table) start
  gap_behind_all all fits room =
      record {
        place = omega arith;
        least = record {
          fits = record {
            least = walked.least;
            within = omega arith;
            free = λ k d h. inr (at_front (λ (w : Volume). w.start + w.count ≤ start) table at k d walked.before (omega arith) h);
          };
          least = walked.none;
        };
        before = subst (λ (n : ℕ). All (λ (w : Volume). w.start + w.count ≤ start) (take n table)) all walked.before;
        behind = λ k d h. absurd (omega (arith, h, length-drop (length table) table));
      }
