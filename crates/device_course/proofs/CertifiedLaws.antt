-- How parts of a run compose that put certificates to the ledger, and which calls do.
use Rattle.std.proofs.Common.{◌≡◌, ◌≢◌, ◌⊎◌, inl, inr, ℕ, zero, suc, ◌+◌, ◌<◌, ◌≤◌, List, [], ◌∷◌, ◌++◌, Option, None, Some, take, length, refl, sym, subst, ap, ◌∙◌, arith}
use Rattle.std.specs.Prelude.{flat_map, Result, Ok, Err, IsOk}
use Rattle.std.specs.List.{AllZip}
use Rattle.std.proofs.lemmas.Grind.{flat_map-append, common_steps}
use Rattle.std.proofs.lemmas.Bool.{cases_lt}
use Rattle.std.proofs.lemmas.Option.{same_Some}
use Rattle.sdbt_base.specs.Told.{Got}
use Rattle.sdbt_base.proofs.ToldLaws.{Got-nothing, Got-then}
use Rattle.platform.specs.Image.{Image}
use Rattle.platform.specs.History.{History, Extends, Turns, CellStays, CellTurns, image_at, moment}
use Rattle.platform.proofs.Moments.{image_at-now}
use Rattle.root_codec.specs.declared.root.Root.{Root}
use Rattle.root_codec.specs.RootRecord.{FitsRoot, root_bytes}
use Rattle.root_codec.specs.Laws.{one_root}
use Rattle.cert_maker.specs.Cert.{Cert}
use Rattle.cert_codec.specs.Text.{entry}
use Rattle.device_session.specs.Sessions.{Session}
use Rattle.device_terms.specs.Certifying.{Certifies, PutsEntry, SpeaksOf}
use Rattle.device_core.specs.Upgrading.{CertifiesUpgrade, IsOfUpgrade}
use Rattle.device_course.specs.Certified.{Came, CameBetween, Certificate, Certified}

-- ---- what came into the cell

cell_at : History → ℕ → Option (List ℕ)
cell_at history i = (image_at history i).cell

-- over a history that goes on
came_same : (history other : History) (from k : ℕ) (records : List (List ℕ)) → ((i : ℕ) → i ≤ from + k → image_at other i ≡ image_at history i) → Came history from k records → Came other from k records
came_same history other from zero records same came = came
came_same history other from (suc k) records same came =
    let now : (image_at other (from + suc k)).cell ≡ (image_at history (from + suc k)).cell = ap (λ (i : Image). i.cell) (same (from + suc k) (omega arith)) in
    let before : (image_at other (from + k)).cell ≡ (image_at history (from + k)).cell = ap (λ (i : Image). i.cell) (same (from + k) (omega arith)) in
    elim came [
      | inl stays ↦ inl (
        came_same history other from k records (λ i past. same i (omega (arith, past))) stays.0,
        elim stays.1 [ inl is ↦ inl (now ∙ is ∙ sym before) | inr none ↦ inr (now ∙ none) ],
      )
      | inr next ↦ inr (
        next.0,
        next.1,
        next.2,
        came_same history other from k next.0 (λ i past. same i (omega (arith, past))) next.3,
        now ∙ next.4,
        λ is. next.5 (sym before ∙ is),
      )
    ]

-- one time after another
came_then : (history : History) (from m n : ℕ) (one two : List (List ℕ)) → Came history from m one → Came history (from + m) n two → Came history from (m + n) (one ++ two)
came_then history from m zero one two first second =
    let many : m ≡ m + zero = omega arith in
    subst (λ (k : ℕ). Came history from k (one ++ two)) many
    (subst (λ (records : List (List ℕ)). Came history from m (one ++ records)) (sym second) (subst (Came history from m) (grind (arith, common_steps)) first))
came_then history from m (suc n) one two first second =
    let now : from + m + suc n ≡ from + suc (m + n) = omega arith in
    let before : from + m + n ≡ from + (m + n) = omega arith in
    let there : Came history from (suc (m + n)) (one ++ two) = elim second [
      | inl stays ↦ inl (
        came_then history from m n one two first stays.0,
        subst (λ (k : ℕ). ((image_at history k).cell ≡ (image_at history (from + (m + n))).cell) ⊎ ((image_at history k).cell ≡ None)) now
            (subst (λ (k : ℕ). ((image_at history (from + m + suc n)).cell ≡ (image_at history k).cell) ⊎ ((image_at history (from + m + suc n)).cell ≡ None)) before stays.1),
      )
      | inr next ↦ inr (
        one ++ next.0,
        next.1,
        ap (λ (records : List (List ℕ)). one ++ records) next.2 ∙ grind (arith, common_steps),
        came_then history from m n one next.0 first next.3,
        subst (λ (k : ℕ). (image_at history k).cell ≡ Some next.1) now next.4,
        subst (λ (k : ℕ). (image_at history k).cell ≢ Some next.1) before next.5,
      )
    ] in
    let many : suc (m + n) ≡ m + suc n = omega arith in
    subst (λ (k : ℕ). Came history from k (one ++ two)) many there

-- the cell stays or is emptied
came_none : (history : History) (from k : ℕ) → ((i : ℕ) → i < k → ((image_at history (from + suc i)).cell ≡ (image_at history (from + i)).cell) ⊎ ((image_at history (from + suc i)).cell ≡ None)) → Came history from k []
came_none history from zero each = refl
came_none history from (suc k) each = inl (came_none history from k (λ i less. each i (omega (arith, less))), each k (omega arith))

-- the cell turns to a record
came_one : (history : History) (from k turn : ℕ) (was : Option (List ℕ)) (last : List ℕ) → from < turn → was ≢ Some last
    → ((i : ℕ) → from ≤ i → i ≤ from + k → i < turn → (image_at history i).cell ≡ was) → ((i : ℕ) → from ≤ i → i ≤ from + k → turn ≤ i → (image_at history i).cell ≡ Some last)
    → (from + k < turn → Came history from k []) × (turn ≤ from + k → Came history from k (last ∷ []))
came_one history from zero turn was last early other before after = (λ yet. refl, λ come. absurd (omega (arith, come, early)))
came_one history from (suc k) turn was last early other before after =
    let earlier = came_one history from k turn was last early other (λ i low high less. before i low (omega (arith, high)) less) (λ i low high late. after i low (omega (arith, high)) late) in (
      λ yet. inl (
        earlier.0 (omega (arith, yet)),
        inl (before (from + suc k) (omega arith) (omega arith) yet ∙ sym (before (from + k) (omega arith) (omega arith) (omega (arith, yet)))),
      ),
      λ come. elim (cases_lt (from + k) turn) [
        | inl yet ↦ inr (
          [],
          last,
          refl,
          earlier.0 yet,
          after (from + suc k) (omega arith) (omega arith) come,
          λ is. other (sym (before (from + k) (omega arith) (omega arith) yet) ∙ is),
        )
        | inr there ↦ inl (
          earlier.1 there,
          inl (after (from + suc k) (omega arith) (omega arith) come ∙ sym (after (from + k) (omega arith) (omega arith) there)),
        )
      ],
    )

count_of : (old new : History) → moment old ≤ moment new → (k : ℕ) × (moment new ≡ moment old + k)
count_of old new later = go (moment old) (moment new) later
  where
    go : (m n : ℕ) → m ≤ n → (k : ℕ) × (n ≡ m + k)
    go zero n less = (n, omega arith)
    go (suc m) zero less = absurd (omega (arith, less))
    go (suc m) (suc n) less = let rest = go m n (omega (arith, less)) in (rest.0, omega (arith, rest.1))

-- nothing came
between_start : (history : History) → CameBetween history history []
between_start history = record { count = 0; until = omega arith; came = refl }

between_stays : (old new : History) → CellStays old new → CameBetween old new []
between_stays old new during =
    let many = count_of old new during.extends.later in
    record {
      count = many.0;
      until = many.1;
      came = came_none new (moment old) many.0 (λ i less. inl (during.each (moment old + suc i) (omega arith) (omega (arith, many.1, less)) ∙ sym (during.each (moment old + i) (omega arith) (omega (arith, many.1, less)))));
    }

-- the cell stays until it is empty
between_empty : (old new : History) → Turns old new (λ image. image.cell ≡ old.present.cell) (λ image. image.cell ≡ None) → CameBetween old new []
between_empty old new turns =
    let many = count_of old new turns.extends.later in
    record { count = many.0; until = many.1; came = came_none new (moment old) many.0 (λ i less. step i (omega (arith, many.1, less))) }
  where
    step : (i : ℕ) → moment old + suc i ≤ moment new → ((image_at new (moment old + suc i)).cell ≡ (image_at new (moment old + i)).cell) ⊎ ((image_at new (moment old + suc i)).cell ≡ None)
    step i within = elim (cases_lt (moment old + suc i) turns.turn) [
      | inl yet ↦ inl (turns.before (moment old + suc i) (omega arith) within yet ∙ sym (turns.before (moment old + i) (omega arith) (omega (arith, within)) (omega (arith, yet))))
      | inr late ↦ inr (turns.after (moment old + suc i) (omega arith) within late)
    ]

-- the cell came to hold another record
between_one : (old new : History) (last : List ℕ) → CellTurns old new → new.present.cell ≡ Some last → old.present.cell ≢ Some last → CameBetween old new (last ∷ [])
between_one old new last turns is other =
    let many = count_of old new turns.extends.later in
    let start : image_at new (moment old) ≡ old.present = turns.extends.same (moment old) (omega arith) ∙ image_at-now old (moment old) (omega arith) in
    let early : moment old < turns.turn = elim (cases_lt (moment old) turns.turn) [
      | inl yet ↦ yet
      | inr there ↦ absurd (other (sym (ap (λ (i : Image). i.cell) start) ∙ turns.after (moment old) (omega arith) turns.extends.later there ∙ is))
    ] in
    let come : turns.turn ≤ moment new = elim (cases_lt (moment new) turns.turn) [
      | inl yet ↦ absurd (other (sym (turns.before (moment new) turns.extends.later (omega arith) yet) ∙ ap (λ (i : Image). i.cell) (image_at-now new (moment new) (omega arith)) ∙ is))
      | inr there ↦ there
    ] in
    let both = came_one new (moment old) many.0 turns.turn old.present.cell last early other (λ i from to yet. turns.before i from (omega (arith, to, many.1)) yet) (λ i from to late. turns.after i from (omega (arith, to, many.1)) late ∙ is) in
    record { count = many.0; until = many.1; came = both.1 (omega (arith, come, many.1)) }

between_then : (first second third : History) (one two : List (List ℕ)) → Extends second third → CameBetween first second one → CameBetween second third two → CameBetween first third (one ++ two)
between_then first second third one two extends a b = record {
  count = a.count + b.count;
  until = omega (arith, a.until, b.until);
  came = came_then third (moment first) a.count b.count one two
      (came_same second third (moment first) a.count one (λ i past. extends.same i (omega (arith, past, a.until))) a.came)
      (subst (λ (k : ℕ). Came third k b.count two) a.until b.came);
}

-- ---- what was put

no_cert : Cert
no_cert = record { commit = 0; base = 0; head = 0; root = 0; added = []; gone = []; never = [] }

zip_none : AllZip Certificate [] []
zip_none = tt

zip_then : (certs more : List Cert) (one two : List (List ℕ)) → AllZip Certificate certs one → AllZip Certificate more two → AllZip Certificate (certs ++ more) (one ++ two)
zip_then [] more [] two first second = second
zip_then [] more (b ∷ one) two first second = absurd first
zip_then (c ∷ certs) more [] two first second = absurd first
zip_then (c ∷ certs) more (b ∷ one) two first second = (first.0, zip_then certs more one two first.1 second)

-- nothing was put, and nothing came
pub certified_none : (tells : Type 0) (written : Option (List ℕ)) (old new : History) (Going : Type 0) → (tells → CameBetween old new []) → Certified tells written written old new Going
certified_none tells written old new Going none = record {
  certs = [];
  more = no_cert;
  count = 0;
  got = Got-nothing written;
  of = λ told. record { records = []; came = none told; each = inl zip_none };
  whole = λ going. refl;
}

pub certified_start : (tells : Type 0) (written : Option (List ℕ)) (history : History) (Going : Type 0) → Certified tells written written history history Going
certified_start tells written history Going = certified_none tells written history history Going (λ told. between_start history)

pub certified_stays : (tells : Type 0) (written : Option (List ℕ)) (old new : History) (Going : Type 0) → (tells → CellStays old new) → Certified tells written written old new Going
certified_stays tells written old new Going stays = certified_none tells written old new Going (λ told. between_stays old new (stays told))

-- where the ledger is as it was
pub certified_unput : (tells : Type 0) (written written_now : Option (List ℕ)) (old new : History) (Going : Type 0) → written_now ≡ written → (tells → CellStays old new) → Certified tells written written_now old new Going
certified_unput tells written written_now old new Going same stays = subst (λ (w : Option (List ℕ)). Certified tells written w old new Going) (sym same) (certified_stays tells written old new Going stays)

pub certified_emptied : (tells : Type 0) (written : Option (List ℕ)) (old new : History) (Going : Type 0) → (tells → Turns old new (λ image. image.cell ≡ old.present.cell) (λ image. image.cell ≡ None)) → Certified tells written written old new Going
certified_emptied tells written old new Going turns = certified_none tells written old new Going (λ told. between_empty old new (turns told))

pub certified_going : (tells : Type 0) (written written_now : Option (List ℕ)) (old new : History) (Was Going : Type 0) → (Going → Was) → Certified tells written written_now old new Was → Certified tells written written_now old new Going
certified_going tells written written_now old new Was Going was c = record { certs = c.certs; more = c.more; count = c.count; got = c.got; of = c.of; whole = λ going. c.whole (was going) }

-- one part after another
pub certified_then : (tells : Type 0) (written mid written_now : Option (List ℕ)) (first second third : History) (Was Going : Type 0) → Was → (tells → Extends second third) → Certified tells written mid first second Was → Certified tells mid written_now second third Going
    → Certified tells written written_now first third Going
certified_then tells written mid written_now first second third Was Going was extends a b =
    let none : take a.count (entry a.more) ≡ [] = ap (λ (n : ℕ). take n (entry a.more)) (a.whole was) in
    let put : flat_map entry a.certs ++ take a.count (entry a.more) ≡ flat_map entry a.certs = ap (λ (rest : List ℕ). flat_map entry a.certs ++ rest) none ∙ grind (arith, common_steps) in
    record {
      certs = a.certs ++ b.certs;
      more = b.more;
      count = b.count;
      got = subst (λ (bytes : List ℕ). Got written bytes written_now) (grind (arith, common_steps, flat_map-append entry a.certs b.certs, put))
          (Got-then written (flat_map entry a.certs ++ take a.count (entry a.more)) mid (flat_map entry b.certs ++ take b.count (entry b.more)) written_now a.got b.got);
      of = λ told.
          let one = a.of told in
          let two = b.of told in
          let zipped : AllZip Certificate a.certs one.records = elim one.each [ inl is ↦ is | inr more ↦ absurd (let no : [] ≡ entry a.more = sym none ∙ more.0 in cc) ] in
          record {
            records = one.records ++ two.records;
            came = between_then first second third one.records two.records (extends told) one.came two.came;
            each = elim two.each [
              | inl is ↦ inl (zip_then a.certs b.certs one.records two.records zipped is)
              | inr more ↦ inr (more.0, subst (λ (cs : List Cert). AllZip Certificate cs (one.records ++ two.records)) (grind (arith, common_steps)) (zip_then a.certs (b.certs ++ b.more ∷ []) one.records two.records zipped more.1))
            ];
          };
      whole = b.whole;
    }

-- ---- the calls

cert_of : (cert : Cert) (base : ℕ) (root : Root) → FitsRoot root → SpeaksOf cert base root → Certificate cert (root_bytes root)
cert_of cert base root fits speaks = record { base = base; root = root; in_range = fits; spelled = refl; speaks = speaks }

-- where a root record comes into the cell it is another one; or the cell stays, and the call isn't done
abbrev IsOther : Type 0 → History → History → ℕ → Type 0 → Type 0
IsOther tells old new commit Done = (root : Root) → FitsRoot root → root.commit ≡ commit → tells → (old.present.cell ≢ Some (root_bytes root)) ⊎ (CellStays old new × (Done → ⊥))

-- an entry was put
certified_puts : (tells : Type 0) (written written_now : Option (List ℕ)) (old new : History) (base commit : ℕ) (Is : Root → Cert → Type 0) (Done : Type 0) → (tells → CellTurns old new) → IsOther tells old new commit Done
    → PutsEntry tells written written_now old new base commit Is Done → Done ⊎ (Done → ⊥) → Certified tells written written_now old new Done
certified_puts tells written written_now old new base commit Is Done turns other p (inl done) = record {
  certs = p.cert ∷ [];
  more = no_cert;
  count = 0;
  got = elim p.put [
    | inl whole ↦ subst (λ (bytes : List ℕ). Got written bytes written_now) (grind (arith, common_steps)) whole.0
    | inr part ↦ absurd (part.2 done)
  ];
  of = λ told. record {
    records = root_bytes p.root ∷ [];
    came = elim p.put [
      | inl whole ↦ elim (whole.1 told) [
        | inl came ↦ elim (other p.root p.in_range p.number told) [
          | inl differs ↦ between_one old new (root_bytes p.root) (turns told) came differs
          | inr stays ↦ absurd (stays.1 done)
        ]
        | inr stays ↦ absurd (stays.1 done)
      ]
      | inr part ↦ absurd (part.2 done)
    ];
    each = inl (cert_of p.cert base p.root p.in_range p.speaks, tt);
  };
  whole = λ going. refl;
}
certified_puts tells written written_now old new base commit Is Done turns other p (inr undone) = elim p.put [
  | inl whole ↦ record {
    certs = [];
    more = p.cert;
    count = length (entry p.cert);
    got = subst (λ (bytes : List ℕ). Got written bytes written_now) (sym (take_all (entry p.cert))) whole.0;
    of = λ told. elim (whole.1 told) [
      | inl came ↦ elim (other p.root p.in_range p.number told) [
        | inl differs ↦ record {
          records = root_bytes p.root ∷ [];
          came = between_one old new (root_bytes p.root) (turns told) came differs;
          each = inr (take_all (entry p.cert), (cert_of p.cert base p.root p.in_range p.speaks, tt));
        }
        | inr stays ↦ record { records = []; came = between_stays old new stays.0; each = inl zip_none }
      ]
      | inr stays ↦ record { records = []; came = between_stays old new stays.0; each = inl zip_none }
    ];
    whole = λ going. absurd (undone going);
  }
  | inr part ↦ record {
    certs = [];
    more = p.cert;
    count = part.0.0;
    got = part.0.1;
    of = λ told. record { records = []; came = between_stays old new (part.1 told); each = inl zip_none };
    whole = λ going. absurd (undone going);
  }
]
  where
    take_all : (bytes : List ℕ) → take (length bytes) bytes ≡ bytes
    take_all [] = refl
    take_all (b ∷ bytes) = ap (λ (bs : List ℕ). b ∷ bs) (take_all bytes)

certified_call : (tells : Type 0) (written written_now : Option (List ℕ)) (old new : History) (base commit : ℕ) (Is : Root → Cert → Type 0) (Done : Type 0) → Done ⊎ (Done → ⊥) → (tells → CellTurns old new) → IsOther tells old new commit Done
    → Certifies tells written written_now old new base commit Is Done → Certified tells written written_now old new Done
certified_call tells written written_now old new base commit Is Done done turns other certifies = elim certifies [
  | inl none ↦ subst (λ (w : Option (List ℕ)). Certified tells written w old new Done) (sym none.0) (certified_stays tells written old new Done none.1)
  | inr puts ↦ certified_puts tells written written_now old new base commit Is Done turns other puts done
]

done_or_not : {X Y : Type 0} (result : Result X Y) → IsOk result ⊎ (IsOk result → ⊥)
done_or_not (Ok x) = inl refl
done_or_not (Err y) = inr (λ ok. absurd cc)

-- a root record with the next number is another one than the one in the cell
next_differs : (cell : Option (List ℕ)) (root next : Root) → FitsRoot root → FitsRoot next → next.commit ≡ root.commit + 1 → cell ≡ Some (root_bytes root) → cell ≢ Some (root_bytes next)
next_differs cell root next fits in_range number there is =
    let same : root ≡ next = one_root root next fits in_range (same_Some _ _ (sym there ∙ is)) in
    let numbers : root.commit ≡ next.commit = ap (λ (r : Root). r.commit) same in omega (arith, number, numbers)

-- a commit of a session on the root record in the cell
pub certified_commit : {X Y : Type 0} (tells : Type 0) (written written_now : Option (List ℕ)) (old new : History) (session : Session) (Is : Root → Cert → Type 0) (result : Result X Y) → FitsRoot session.root → (tells → CellTurns old new) → (tells → old.present.cell ≡ Some (root_bytes session.root))
    → Certifies tells written written_now old new session.root.head (session.root.commit + 1) Is (IsOk result) → Certified tells written written_now old new (IsOk result)
certified_commit tells written written_now old new session Is result fits turns cell certifies =
    certified_call tells written written_now old new session.root.head (session.root.commit + 1) Is (IsOk result) (done_or_not result) turns
    (λ root in_range number told. inl (next_differs old.present.cell session.root root fits in_range number (cell told))) certifies

-- an upgrade of the root record in the cell
pub certified_upgrade : {X Y : Type 0} (tells : Type 0) (written written_now : Option (List ℕ)) (old new : History) (result : Result X Y) → (tells → CellTurns old new) → CertifiesUpgrade tells written written_now old new (IsOk result)
    → Certified tells written written_now old new (IsOk result)
certified_upgrade tells written written_now old new result turns (inl none) = certified_unput tells written written_now old new (IsOk result) none.0 none.1
certified_upgrade tells written written_now old new result turns (inr (root, fits, key, cell, puts)) =
    certified_puts tells written written_now old new root.head (root.commit + 1) (IsOfUpgrade root old.present new.present) (IsOk result) turns
    (λ next in_range number told. inl (next_differs old.present.cell root next fits in_range number (cell told))) puts (done_or_not result)

-- a format, which is not done where the cell is full
pub certified_format : {X Y : Type 0} (tells : Type 0) (written written_now : Option (List ℕ)) (old new : History) (base : ℕ) (Is : Root → Cert → Type 0) (result : Result X Y) → (tells → CellTurns old new) → (tells → old.present.cell ≢ None → CellStays old new) → (tells → IsOk result → old.present.cell ≡ None)
    → Certifies tells written written_now old new base 0 Is (IsOk result) → Certified tells written written_now old new (IsOk result)
certified_format tells written written_now old new base Is result turns full empty certifies =
    certified_call tells written written_now old new base 0 Is (IsOk result) (done_or_not result) turns
    (λ root in_range number told. cell_or_none old.present.cell (root_bytes root) (CellStays old new) (IsOk result) (full told) (empty told)) certifies
  where
    cell_or_none : (cell : Option (List ℕ)) (bytes : List ℕ) (Stays Done : Type 0) → (cell ≢ None → Stays) → (Done → cell ≡ None) → (cell ≢ Some bytes) ⊎ (Stays × (Done → ⊥))
    cell_or_none None bytes Stays Done stays none = inl (λ is. absurd cc)
    cell_or_none (Some there) bytes Stays Done stays none = inr (stays (λ is. absurd cc), λ done. absurd (let no = none done in cc))
