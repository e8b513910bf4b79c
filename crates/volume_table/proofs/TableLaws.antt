-- Tables: with a volume more, with one less, and what follows of their bytes.
use Rattle.std.proofs.Common.{◌≡◌, ◌≢◌, ℕ, suc, ◌+◌, ◌-◌, ◌*◌, ◌^◌, ◌<◌, ◌≤◌, inl, inr, List, [], ◌∷◌, ◌++◌, length, get_or, replicate, take, drop, refl, sym, ap, ◌∙◌, subst, append_assoc, append-nil, arith, length-append}
use Rattle.std.specs.List.{All, AllPairs, flat_map, insert, remove}
use Rattle.std.proofs.lemmas.List.Elements.{All-append, All-cons, All-take, All-drop, All-push}
use Rattle.std.proofs.lemmas.List.Quantifiers.{all_pairs_push, all_pairs_remove}
use Rattle.std.proofs.lemmas.List.Edits.{length-insert, length-remove, get_or-insert_below, get_or-insert_at, get_or-insert_above}
use Rattle.std.proofs.lemmas.List.{take_at, drop_at, drop-drop, take-append-drop, length-take, length-drop, get_or-take, get_or-drop, get_or_append_left}
use Rattle.std.proofs.lemmas.List.Concat.{flat_map-append}
use Rattle.std.proofs.lemmas.Bool.{cases_lt}
use Rattle.std.proofs.lemmas.Option.{get_or_from_slice_get, slice_get_within}
use Rattle.std.proofs.Math.Seq.{get_or-append_seam}
use Rattle.volume_table.specs.Names.{IsName}
use Rattle.volume_table.specs.Tables.{IsTable, IsInside, EndsBefore, Leads, Follows, FitsEntry, Lacks, IsGap, Has, table_bytes, volume_bytes}
use Rattle.volume_table.specs.declared.volume.Volume.{Volume}
use Rattle.volume_table.proofs.EntryLaws.{first_byte, zeros_first, length-volume_bytes, entries_same}

-- ---- lists

module _ {X : Type 0} where
  pub All-insert : (P : X → Type 0) (xs : List X) (at : ℕ) (y : X) → All P xs → P y → All P (insert xs at y)
  All-insert P xs at y all here = All-append P (take at xs) (y ∷ drop at xs) (All-take P at xs all) (All-cons P y (drop at xs) here (All-drop P at xs all))

  pub All-remove : (P : X → Type 0) (xs : List X) (at : ℕ) → All P xs → All P (remove xs at)
  All-remove P xs at all = All-append P (take at xs) (drop (suc at) xs) (All-take P at xs all) (All-drop P (suc at) xs all)

  -- what holds of the first, and of those behind them
  pub at_front : (P : X → Type 0) (xs : List X) (n i : ℕ) (d : X) → All P (take n xs) → i < n → i < length xs → P (get_or xs i d)
  at_front P xs n i d all below within =
      subst P (get_or-take n xs i d below) (all i d (simp length-take (omega arith)))

  pub at_back : (P : X → Type 0) (xs : List X) (n i : ℕ) (d : X) → All P (drop n xs) → n ≤ i → i < length xs → P (get_or xs i d)
  at_back P xs n i d all above within =
      let place : n + (i - n) ≡ i = omega arith in
      subst P (get_or-drop n xs (i - n) d ∙ ap (λ (k : ℕ). get_or xs k d) place) (all (i - n) d (simp length-drop (omega arith)))

  relate : (R : X → X → Type 0) (a a' b b' : X) → a ≡ a' → b ≡ b' → R a' b' → R a b
  relate R a a' b b' p q r = subst (λ (x : X). R x b) (sym p) (subst (λ (y : X). R a' y) (sym q) r)

  above : (xs : List X) (at : ℕ) (y d : X) (k : ℕ) → at < k → at ≤ length xs → get_or (insert xs at y) k d ≡ get_or xs (k - 1) d
  above xs at y d k over place =
      let back : k ≡ (k - 1) + 1 = omega arith in
      ap (λ (n : ℕ). get_or (insert xs at y) n d) back ∙ get_or-insert_above xs at y d (k - 1) (omega arith) place

  -- one put between those that stand in relation to it
  pub AllPairs-insert : (R : X → X → Type 0) (xs : List X) (at : ℕ) (y : X) → at ≤ length xs → AllPairs R xs → All (λ a. R a y) (take at xs) → All (R y) (drop at xs)
      → AllPairs R (insert xs at y)
  AllPairs-insert R xs at y place pairs before behind i j d under within =
      let size : length (insert xs at y) ≡ length xs + 1 = length-insert xs at y place in
      elim (cases_lt j at) [
        | inl j-low ↦ relate R _ _ _ _ (get_or-insert_below xs at y d i (omega arith) place) (get_or-insert_below xs at y d j j-low place) (pairs i j d under (omega arith))
        | inr j-high ↦ elim (cases_lt at j) [
          | inr j-at ↦
              let here : j ≡ at = omega arith in
              relate R _ _ _ _ (get_or-insert_below xs at y d i (omega arith) place) (ap (λ (n : ℕ). get_or (insert xs at y) n d) here ∙ get_or-insert_at xs at y d place)
              (at_front (λ a. R a y) xs at i d before (omega arith) (omega arith))
          | inl j-over ↦ elim (cases_lt i at) [
            | inl i-low ↦ relate R _ _ _ _ (get_or-insert_below xs at y d i i-low place) (above xs at y d j j-over place) (pairs i (j - 1) d (omega arith) (omega arith))
            | inr i-high ↦ elim (cases_lt at i) [
              | inr i-at ↦
                  let here : i ≡ at = omega arith in
                  relate R _ _ _ _ (ap (λ (n : ℕ). get_or (insert xs at y) n d) here ∙ get_or-insert_at xs at y d place) (above xs at y d j j-over place)
                  (at_back (R y) xs at (j - 1) d behind (omega arith) (omega arith))
              | inl i-over ↦ relate R _ _ _ _ (above xs at y d i i-over place) (above xs at y d j j-over place) (pairs (i - 1) (j - 1) d (omega arith) (omega arith))
            ]
          ]
        ]
      ]

-- ---- tables

pub table_fits : (blocks : ℕ) (table : List Volume) → blocks < 2 ^ 64 → IsTable blocks table → All FitsEntry table
table_fits blocks table below is k d within =
    let inside = is.inside k d within in
    record { name = is.names k d within; start = omega (arith, inside.within); count = omega (arith, inside.within) }

-- no two tables have the same bytes
pub one_table : (blocks other : ℕ) (a b : List Volume) → blocks < 2 ^ 64 → other < 2 ^ 64 → IsTable blocks a → IsTable other b → table_bytes a ≡ table_bytes b → a ≡ b
one_table blocks other a b below below' is is' same =
    entries_same a b (4096 - 64 * length a) (4096 - 64 * length b) (table_fits blocks a below is) (table_fits other b below' is') same

apart_below : (blocks block i j : ℕ) (table : List Volume) → IsTable blocks table → i < j → Has table i block → Has table j block → ⊥
apart_below blocks block i j table is under a b =
    let pair = is.ordered i j b.0 under (slice_get_within table j b.0 b.1) in
    let first : get_or table i b.0 ≡ a.0 = get_or_from_slice_get table i a.0 b.0 a.1 in
    let second : get_or table j b.0 ≡ b.0 = get_or_from_slice_get table j b.0 b.0 b.1 in
    let order : EndsBefore a.0 b.0 = subst (λ (v : Volume). EndsBefore v b.0) first (subst (λ (v : Volume). EndsBefore (get_or table i b.0) v) second pair) in
    omega (arith, order, a.3, b.2)

-- no block is in two volumes, and the first is in none
pub apart : (blocks block i j : ℕ) (table : List Volume) → IsTable blocks table → i ≢ j → Has table i block → Has table j block → ⊥
apart blocks block i j table is other a b =
    elim (cases_lt i j) [
      | inl under ↦ apart_below blocks block i j table is under a b
      | inr over ↦ apart_below blocks block j i table is (omega arith) b a
    ]

pub no_first : (blocks i : ℕ) (table : List Volume) → IsTable blocks table → Has table i 0 → ⊥
no_first blocks i table is a =
    let inside = is.inside i a.0 (slice_get_within table i a.0 a.1) in
    let here : get_or table i a.0 ≡ a.0 = get_or_from_slice_get table i a.0 a.0 a.1 in
    omega (arith, inside.start, ap (λ (v : Volume). v.start) here, a.2)

-- a volume behind all
pub pushed : (blocks : ℕ) (xs : List Volume) (v : Volume) → IsTable blocks xs → length xs < 64 → Follows blocks xs v → IsTable blocks (xs ++ v ∷ [])
pushed blocks xs v is room follows = record {
  most = omega (arith, length-append xs (v ∷ []));
  names = All-push (λ (w : Volume). IsName w.name) xs v is.names follows.name;
  inside = All-push (IsInside blocks) xs v is.inside follows.inside;
  ordered = all_pairs_push EndsBefore xs v is.ordered (λ k d within. (follows.led k d within).0);
  named = all_pairs_push (λ (a b : Volume). a.name ≢ b.name) xs v is.named (λ k d within. (follows.led k d within).1);
}

-- a volume in a table stands behind those before it
pub follows_in : (blocks : ℕ) (xs ys : List Volume) (v : Volume) → IsTable blocks (xs ++ v ∷ ys) → Follows blocks xs v
follows_in blocks xs ys v is =
    let size : length xs < length (xs ++ v ∷ ys) = omega (arith, length-append xs (v ∷ ys)) in
    let here : (d : Volume) → get_or (xs ++ v ∷ ys) (length xs) d ≡ v = λ d. get_or-append_seam xs v ys d in
    record {
      name = subst (λ (w : Volume). IsName w.name) (here v) (is.names (length xs) v size);
      inside = subst (IsInside blocks) (here v) (is.inside (length xs) v size);
      led = λ k d within. relate (λ (a b : Volume). Leads a b) (get_or xs k d) (get_or (xs ++ v ∷ ys) k d) v (get_or (xs ++ v ∷ ys) (length xs) d)
          (sym (get_or_append_left xs (v ∷ ys) d k within)) (sym (here d)) (is.ordered k (length xs) d within size, is.named k (length xs) d within size);
    }

-- a volume put into a gap
pub placed : (blocks : ℕ) (table : List Volume) (v : Volume) (at : ℕ) → IsTable blocks table → length table < 64 → IsName v.name → Lacks table v.name → 1 ≤ v.count
    → IsGap blocks table v.count at v.start → IsTable blocks (insert table at v)
placed blocks table v at is room name new count gap =
    let other : All (λ (a : Volume). v.name ≢ a.name) table = λ k d within same. new k d within (sym same) in
    record {
      most = omega (arith, length-insert table at v gap.place);
      names = All-insert (λ (w : Volume). IsName w.name) table at v is.names name;
      inside = All-insert (IsInside blocks) table at v is.inside (record { start = gap.least.fits.least; count = count; within = gap.least.fits.within });
      ordered = AllPairs-insert EndsBefore table at v gap.place is.ordered gap.before gap.behind;
      named = AllPairs-insert (λ (a b : Volume). a.name ≢ b.name) table at v gap.place is.named
          (All-take (λ (a : Volume). a.name ≢ v.name) at table new) (All-drop (λ (a : Volume). v.name ≢ a.name) at table other);
    }

-- a table without one of its volumes
pub removed : (blocks : ℕ) (table : List Volume) (at : ℕ) → IsTable blocks table → at < length table → IsTable blocks (remove table at)
removed blocks table at is within = record {
  most = omega (arith, length-remove table at within, is.most);
  names = All-remove (λ (w : Volume). IsName w.name) table at is.names;
  inside = All-remove (IsInside blocks) table at is.inside;
  ordered = all_pairs_remove EndsBefore table at within is.ordered;
  named = all_pairs_remove (λ (a b : Volume). a.name ≢ b.name) table at within is.named;
}

-- ---- reading: what any table with these bytes has

-- the table goes on as the other, whose bytes the rest are
pub record Continues (table other : List Volume) (rest : List ℕ) : Type 0 where
  pub more : List Volume
  pub whole : other ≡ table ++ more
  pub behind : rest ≡ flat_map volume_bytes more ++ replicate (4096 - 64 * length other) 0

pub begins : (other : List Volume) (bytes : List ℕ) → bytes ≡ table_bytes other → Continues [] other bytes
begins other bytes same = record { more = other; whole = refl; behind = same }

-- it goes on with this volume
pub record Next (blocks : ℕ) (table other : List Volume) (rest : List ℕ) : Type 0 where
  pub volume : Volume
  pub more : List Volume
  pub whole : other ≡ table ++ (volume ∷ more)
  pub follows : Follows blocks table volume
  pub entry : take 64 rest ≡ volume_bytes volume
  pub behind : drop 64 rest ≡ flat_map volume_bytes more ++ replicate (4096 - 64 * length other) 0

next_of : (blocks n : ℕ) (more table other : List Volume) (rest : List ℕ) → n ≡ 4096 - 64 * length other → other ≡ table ++ more → rest ≡ flat_map volume_bytes more ++ replicate n 0
    → IsTable blocks other → get_or rest 0 0 ≢ 0 → Next blocks table other rest
next_of blocks n [] table other rest count whole behind is first = absurd (first (ap (λ (xs : List ℕ). get_or xs 0 0) behind ∙ zeros_first n))
next_of blocks n (v ∷ more) table other rest count whole behind is first =
    let follows : Follows blocks table v = follows_in blocks table more v (subst (IsTable blocks) whole is) in
    let size = length-volume_bytes v follows.name.most in
    let parts : rest ≡ volume_bytes v ++ (flat_map volume_bytes more ++ replicate n 0) = behind ∙ append_assoc (volume_bytes v) (flat_map volume_bytes more) (replicate n 0) in
    record {
      volume = v;
      more = more;
      whole = whole;
      follows = follows;
      entry = ap (take 64) parts ∙ take_at (volume_bytes v) (flat_map volume_bytes more ++ replicate n 0) 64 size;
      behind = ap (drop 64) parts ∙ drop_at (volume_bytes v) (flat_map volume_bytes more ++ replicate n 0) 64 size
          ∙ ap (λ (m : ℕ). flat_map volume_bytes more ++ replicate m 0) count;
    }

pub goes_on : (blocks : ℕ) (table other : List Volume) (rest : List ℕ) → Continues table other rest → IsTable blocks other → get_or rest 0 0 ≢ 0 → Next blocks table other rest
goes_on blocks table other rest c is first = next_of blocks (4096 - 64 * length other) c.more table other rest refl c.whole c.behind is first

-- it ends here
pub record Ends (table other : List Volume) (rest : List ℕ) : Type 0 where
  pub same : other ≡ table
  pub zeros : rest ≡ replicate (4096 - 64 * length other) 0

ends_of : (blocks n : ℕ) (more table other : List Volume) (rest : List ℕ) → n ≡ 4096 - 64 * length other → other ≡ table ++ more → rest ≡ flat_map volume_bytes more ++ replicate n 0
    → IsTable blocks other → get_or rest 0 0 ≡ 0 → Ends table other rest
ends_of blocks n [] table other rest count whole behind is first =
    record { same = whole ∙ append-nil table; zeros = behind ∙ ap (λ (m : ℕ). replicate m 0) count }
ends_of blocks n (v ∷ more) table other rest count whole behind is first =
    let follows : Follows blocks table v = follows_in blocks table more v (subst (IsTable blocks) whole is) in
    let parts : rest ≡ volume_bytes v ++ (flat_map volume_bytes more ++ replicate n 0) = behind ∙ append_assoc (volume_bytes v) (flat_map volume_bytes more) (replicate n 0) in
    let byte : get_or rest 0 0 ≡ length v.name = ap (λ (xs : List ℕ). get_or xs 0 0) parts ∙ first_byte v (flat_map volume_bytes more ++ replicate n 0) in
    absurd (omega (arith, byte, first, follows.name.least))

pub ends_at : (blocks : ℕ) (table other : List Volume) (rest : List ℕ) → Continues table other rest → IsTable blocks other → get_or rest 0 0 ≡ 0 → Ends table other rest
ends_at blocks table other rest c is first = ends_of blocks (4096 - 64 * length other) c.more table other rest refl c.whole c.behind is first

ends_full : (more table other : List Volume) → other ≡ table ++ more → length table ≡ 64 → length other ≤ 64 → other ≡ table
ends_full [] table other whole full most = whole ∙ append-nil table
ends_full (v ∷ more) table other whole full most = absurd (omega (arith, ap length whole, length-append table (v ∷ more)))

-- a table has 64 volumes at most
pub is_full : (table other : List Volume) (rest : List ℕ) → Continues table other rest → length table ≡ 64 → length other ≤ 64 → other ≡ table
is_full table other rest c full most = ends_full c.more table other c.whole full most

-- one volume more was read
pub continues_more : (blocks i : ℕ) (table other : List Volume) (v : Volume) (bytes : List ℕ) (next : Next blocks table other (drop (64 * i) bytes)) → next.volume ≡ v
    → Continues (table ++ v ∷ []) other (drop (64 * (i + 1)) bytes)
continues_more blocks i table other v bytes next same =
    let place : 64 * i + 64 ≡ 64 * (i + 1) = omega arith in
    record {
      more = next.more;
      whole = next.whole ∙ ap (λ (w : Volume). table ++ (w ∷ next.more)) same ∙ sym (append_assoc table (v ∷ []) next.more);
      behind = ap (λ (n : ℕ). drop n bytes) (sym place) ∙ sym (drop-drop 64 (64 * i) bytes) ∙ next.behind;
    }

-- what was read so far, and the rest
pub spelled_more : (i : ℕ) (table : List Volume) (v : Volume) (bytes : List ℕ) → flat_map volume_bytes table ++ drop (64 * i) bytes ≡ bytes → take 64 (drop (64 * i) bytes) ≡ volume_bytes v
    → flat_map volume_bytes (table ++ v ∷ []) ++ drop (64 * (i + 1)) bytes ≡ bytes
spelled_more i table v bytes so_far entry =
    let place : 64 * i + 64 ≡ 64 * (i + 1) = omega arith in
    let rest : drop (64 * i) bytes ≡ volume_bytes v ++ drop (64 * (i + 1)) bytes =
    sym (take-append-drop 64 (drop (64 * i) bytes)) ∙ ap (λ (xs : List ℕ). xs ++ drop 64 (drop (64 * i) bytes)) entry
    ∙ ap (λ (xs : List ℕ). volume_bytes v ++ xs) (drop-drop 64 (64 * i) bytes ∙ ap (λ (n : ℕ). drop n bytes) place) in
    ap (λ (xs : List ℕ). xs ++ drop (64 * (i + 1)) bytes) (flat_map-append volume_bytes table (v ∷ []) ∙ ap (λ (xs : List ℕ). flat_map volume_bytes table ++ xs) (append-nil (volume_bytes v)))
    ∙ append_assoc (flat_map volume_bytes table) (volume_bytes v) (drop (64 * (i + 1)) bytes)
    ∙ ap (λ (xs : List ℕ). flat_map volume_bytes table ++ xs) (sym rest) ∙ so_far

pub spelled_end : (i : ℕ) (table : List Volume) (bytes : List ℕ) → length bytes ≡ 4096 → length table ≡ i → i ≤ 64 → flat_map volume_bytes table ++ drop (64 * i) bytes ≡ bytes
    → drop (64 * i) bytes ≡ replicate (length (drop (64 * i) bytes)) 0 → bytes ≡ table_bytes table
spelled_end i table bytes size count most so_far zeros =
    let left : length (drop (64 * i) bytes) ≡ 4096 - 64 * length table = length-drop (64 * i) bytes ∙ omega arith in
    sym so_far ∙ ap (λ (xs : List ℕ). flat_map volume_bytes table ++ xs) (zeros ∙ ap (λ (n : ℕ). replicate n 0) left)
