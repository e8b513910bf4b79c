-- Which moment of a history files are left at.
use Rattle.std.proofs.Common.{◌≡◌, ◌≢◌, ◌⊎◌, inl, inr, ℕ, ◌+◌, ◌≤◌, Bool, true, false, List, [], ◌∷◌, ◌++◌, Option, Some, None, length, take, get_or, refl, sym, ◌∙◌, ap, subst, arith, length-append, append_assoc}
use Rattle.std.specs.Prelude.{All, bytes_eq}
use Rattle.std.proofs.lemmas.Bool.{cases_Bool}
use Rattle.std.proofs.lemmas.List.{take_all}
use Rattle.std.proofs.lemmas.Slice.Eq.{bytes_eq-Decides}
use Rattle.sdbt_base.specs.Bytes.{IsBytes}
use Rattle.sdbt_base.specs.declared.limits.TheConstants.{RECORD}
use Rattle.platform.specs.Image.{Image, IsWhole, IsEarlier}
use Rattle.platform.specs.History.{History, image_of, image_at, moment}
use Rattle.folder_platform.specs.Files.{Files}
use Rattle.folder_platform.specs.Events.{Event}
use Rattle.folder_platform.specs.Model.{NamedFile, Model, after_call, replay, durable, found, is_synced, file_synced}
use Rattle.folder_platform.specs.Told.{cell_with, past_of, now_of, IsTold, told_by}
use Rattle.folder_platform.specs.Sequences.{opening, counts, counted, AreOpened}
use Rattle.folder_platform.specs.Loss.{Leaves, MayHold, AreLeft, AllSafe, IsLeftAt, before_of, changes_cell}
use Rattle.folder_platform.specs.declared.file_call.FileCall.{FileCall}
use Rattle.folder_platform.specs.declared.file_call.FileCall.TheVariants.{CountPages, ReadPage, WritePage, SyncMedia, SyncFolder, ReadRoot, SyncRoot, RemoveRoot, RemoveNew, MakeNew, SyncNew, RenameNew, SyncCell, ReplaceInPlace, ClearInPlace}
use Rattle.folder_platform.proofs.Orderly.{get_or-end, more-before}
use Rattle.folder_platform.proofs.Once.{counted_more}
use Rattle.folder_platform.proofs.Leaving.{left_cell, synced-is_synced}

-- ---- no page is counted again

past-more : (files : Files) (call : FileCall) (n : ℕ) (done : Bool) (bytes : List ℕ) (events : List Event) → counts call ≡ false → past_of files ((call, n, done, bytes) ∷ events) ≡ past_of files events ++ now_of files events ∷ []
past-more files CountPages n done bytes events other = absurd (cc)
past-more files ReadPage n done bytes events other = refl
past-more files WritePage n done bytes events other = refl
past-more files SyncMedia n done bytes events other = refl
past-more files SyncFolder n done bytes events other = refl
past-more files ReadRoot n done bytes events other = refl
past-more files SyncRoot n done bytes events other = refl
past-more files RemoveRoot n done bytes events other = refl
past-more files RemoveNew n done bytes events other = refl
past-more files MakeNew n done bytes events other = refl
past-more files SyncNew n done bytes events other = refl
past-more files RenameNew n done bytes events other = refl
past-more files SyncCell n done bytes events other = refl
past-more files ReplaceInPlace n done bytes events other = refl
past-more files ClearInPlace n done bytes events other = refl

-- where pages are counted in the last of some calls, or not in it, they are counted as often or less before
counted-before : (e : Event) (events : List Event) → counted events ≤ counted (e ∷ events)
counted-before e events = elim (cases_Bool (counts e.0)) [
  | inl count ↦ let is : counted (e ∷ events) ≡ counted events + 1 = rw count refl in omega (arith, is)
  | inr other ↦ omega (arith, counted_more e events other)
]

counted-up : (later earlier : List Event) → counted earlier ≤ counted (later ++ earlier)
counted-up [] earlier = omega arith
counted-up (e ∷ later) earlier = omega (arith, counted-up later earlier, counted-before e (later ++ earlier))

-- the last of calls of which an earlier one counted pages doesn't
counts-not : (e : Event) (events : List Event) → 1 ≤ counted events → counted (e ∷ events) ≡ 1 → counts e.0 ≡ false
counts-not e events some once = elim (cases_Bool (counts e.0)) [
  | inl count ↦ absurd (let is : counted (e ∷ events) ≡ counted events + 1 = rw count refl in omega (arith, is))
  | inr other ↦ other
]

counted-opening : (more : List Event) (n : ℕ) → 1 ≤ counted (more ++ opening n)
counted-opening more n = counted-up more (opening n)

-- ---- the moment of a first part of the calls

-- a moment of the first calls is one of all
record IsMoment (files : Files) (later earlier : List Event) : Type 0 where
  pub many : length (past_of files (later ++ earlier)) ≡ length later + length (past_of files earlier)
  pub image : image_of (past_of files (later ++ earlier)) (now_of files (later ++ earlier)) (length (past_of files earlier)) ≡ now_of files earlier

is_moment : (files : Files) (later earlier : List Event) → 1 ≤ counted earlier → counted (later ++ earlier) ≡ 1 → IsMoment files later earlier
is_moment files [] earlier some once = record { many = omega arith; image = get_or-end (past_of files earlier) (now_of files earlier) (length (past_of files earlier)) (omega arith) }
is_moment files (e ∷ later) earlier some once =
    let up = counted-up later earlier in
    let other : counts e.0 ≡ false = counts-not e (later ++ earlier) (omega arith) once in
    let before = is_moment files later earlier some (sym (counted_more e (later ++ earlier) other) ∙ once) in
    let adds : past_of files (e ∷ (later ++ earlier)) ≡ past_of files (later ++ earlier) ++ now_of files (later ++ earlier) ∷ [] = past-more files e.0 e.1 e.2 e.3 (later ++ earlier) other in
    record {
      many = ap (λ (past : List Image). length past) adds ∙ omega (arith, length-append (past_of files (later ++ earlier)) (now_of files (later ++ earlier) ∷ []), before.many);
      image = ap (λ (past : List Image). get_or past (length (past_of files earlier)) (now_of files (e ∷ (later ++ earlier)))) adds
          ∙ more-before (past_of files (later ++ earlier)) (now_of files (later ++ earlier)) (now_of files (e ∷ (later ++ earlier))) (length (past_of files earlier)) (omega (arith, before.many))
          ∙ before.image;
    }

-- ---- the image from before the last change of the cell

-- on the disk `root` leads to what it leads to
record IsAlone (m : Model) : Type 0 where
  pub alone : m.on_disk ≡ Some (m.root ∷ [])
  pub synced : is_synced m.root ≡ true

synced-again : (file : NamedFile) → is_synced file ≡ true → file_synced file ≡ file
synced-again None synced = refl
synced-again (Some (bytes, true)) synced = refl
synced-again (Some (bytes, false)) synced = absurd (cc)

alone-after : (call : FileCall) (n : ℕ) (done : Bool) (bytes : List ℕ) (m : Model) → changes_cell call ≡ false → IsAlone m → IsAlone (after_call call n done bytes m)
alone-after CountPages n true bytes m calm a = record { alone = a.alone; synced = a.synced }
alone-after CountPages n false bytes m calm a = a
alone-after ReadPage n done bytes m calm a = a
alone-after WritePage n done bytes m calm a = record { alone = a.alone; synced = a.synced }
alone-after SyncMedia n true bytes m calm a = record { alone = a.alone; synced = a.synced }
alone-after SyncMedia n false bytes m calm a = record { alone = a.alone; synced = a.synced }
alone-after SyncFolder n true bytes m calm a = record { alone = a.alone; synced = a.synced }
alone-after SyncFolder n false bytes m calm a = a
alone-after ReadRoot n done bytes m calm a = a
alone-after SyncRoot n true bytes m calm a = record { alone = a.alone ∙ ap (λ (file : NamedFile). Some (file ∷ [])) (sym (synced-again m.root a.synced)); synced = synced-is_synced m.root }
alone-after SyncRoot n false bytes m calm a = a
alone-after RemoveRoot n done bytes m calm a = absurd (cc)
alone-after RemoveNew n true bytes m calm a = record { alone = a.alone; synced = a.synced }
alone-after RemoveNew n false bytes m calm a = a
alone-after MakeNew n done bytes m calm a = record { alone = a.alone; synced = a.synced }
alone-after SyncNew n true bytes m calm a = record { alone = a.alone; synced = a.synced }
alone-after SyncNew n false bytes m calm a = a
alone-after RenameNew n done bytes m calm a = absurd (cc)
alone-after SyncCell n true bytes m calm a = record { alone = refl; synced = a.synced }
alone-after SyncCell n false bytes m calm a = a
alone-after ReplaceInPlace n done bytes m calm a = absurd (cc)
alone-after ClearInPlace n done bytes m calm a = absurd (cc)

-- since an opening the cell was not changed, or the image from before its last change is one of a moment since then
fallback : (files : Files) (more : List Event) (n : ℕ)
    → IsAlone (replay files (more ++ opening n)) ⊎ ((front : List Event) × (back : List Event) × (more ≡ front ++ back) × (before_of files (more ++ opening n) ≡ now_of files (back ++ opening n)))
fallback files [] n = inl (record { alone = refl; synced = synced-is_synced (found files.root) })
fallback files (e ∷ more) n = elim (cases_Bool (changes_cell e.0)) [
  | inl changed ↦ inr (e ∷ [], more, refl, rw changed refl)
  | inr calm ↦ elim (fallback files more n) [
    | inl alone ↦ inl (alone-after e.0 e.1 e.2 e.3 (replay files (more ++ opening n)) calm alone)
    | inr one ↦
        let same : before_of files (e ∷ (more ++ opening n)) ≡ before_of files (more ++ opening n) = rw calm refl in
        inr (e ∷ one.0, one.1, ap (λ (es : List Event). e ∷ es) one.2, same ∙ one.3)
  ]
]

-- ---- what is left

same_cell : (one other : Option (List ℕ)) → (one ≡ other) ⊎ (one ≢ other)
same_cell None None = inl refl
same_cell None (Some other) = inr (λ same. cc)
same_cell (Some one) None = inr (λ same. cc)
same_cell (Some one) (Some other) = elim (cases_Bool (bytes_eq one other)) [
  | inl alike ↦ inl (ap Some ((bytes_eq-Decides one other).0 alike))
  | inr differ ↦ inr (λ same. let is : one ≡ other = cc in let alike = (bytes_eq-Decides one other).1 is in cc)
]

-- the recorded pages that an image says are those of the model, where it says them of all that may be left
all_recorded : (before now : Image) (m : Model) (left : Files) → IsWhole now → now.recorded ≡ m.recorded → now.readable ≡ m.readable → length before.recorded ≤ length now.recorded
    → ((full : Files) → full.pages ≡ m.readable → full.handed ≡ m.recorded → full.root ≡ left.root → AreLeft before full) → before.recorded ≡ m.recorded
all_recorded before now m left whole recorded readable fewer falls =
    let full : Files = record { pages = m.readable; handed = m.recorded; root = left.root; new_root = left.new_root } in
    let are = falls full refl refl refl in
    let many : length m.readable ≡ length now.recorded = ap (λ (xs : List (List ℕ)). length xs) (sym readable) ∙ whole.as_many in
    sym (take_all (length m.readable) before.recorded (omega (arith, many, fewer))) ∙ sym are.handed

-- ---- a loss of power after some calls

module _ (files : Files) (events : List Event) (told : IsTold files events) (once : counted events ≡ 1) where
  -- the image of the moment after some of the calls
  at_part : (later earlier : List Event) → events ≡ later ++ earlier → AreOpened earlier → IsMoment files later earlier
  at_part later earlier is (n, more, opened) =
      is_moment files later earlier (subst (λ (es : List Event). 1 ≤ counted es) (sym opened) (counted-opening more n)) (ap counted (sym is) ∙ once)

  image_after : (later earlier : List Event) → events ≡ later ++ earlier → AreOpened earlier → image_at (told_by files events told) (length (past_of files earlier)) ≡ now_of files earlier
  image_after later earlier is opened =
      ap (λ (es : List Event). image_of (past_of files es) (now_of files es) (length (past_of files earlier))) is ∙ (at_part later earlier is opened).image

  many_after : (later earlier : List Event) → events ≡ later ++ earlier → AreOpened earlier → moment (told_by files events told) ≡ length later + length (past_of files earlier)
  many_after later earlier is opened = ap (λ (es : List Event). length (past_of files es)) is ∙ (at_part later earlier is opened).many

  from_opening : (later earlier : List Event) → events ≡ later ++ earlier → AreOpened earlier → 4 ≤ length (past_of files earlier)
  from_opening later earlier is (n, more, opened) =
      let all : events ≡ (later ++ more) ++ opening n = is ∙ ap (λ (es : List Event). later ++ es) opened ∙ sym (append_assoc later more (opening n)) in
      let some : 1 ≤ counted (opening n) = omega arith in
      let part : counted (more ++ opening n) ≡ 1 =
      (let up = counted-up later (more ++ opening n) in
      let least = counted-opening more n in
      let most : counted (later ++ (more ++ opening n)) ≡ 1 = ap (λ (es : List Event). counted (later ++ es)) (sym opened) ∙ ap counted (sym is) ∙ once in
      omega arith) in
      let m = is_moment files more (opening n) some part in
      let first : length (past_of files (opening n)) ≡ 4 = refl in
      omega (arith, ap (λ (es : List Event). length (past_of files es)) opened, m.many, first)

  pub left_at : (old : History) → moment old ≡ 4 → AllSafe files events → (later earlier : List Event) → events ≡ later ++ earlier → AreOpened earlier → (left : Files) → MayHold (replay files earlier) left
      → IsLeftAt old (told_by files events told) (replay files earlier).recorded left
  left_at old begun safe later earlier is opened left may =
      let now = now_of files earlier in
      let here = image_after later earlier is opened in
      let many = many_after later earlier is opened in
      let low = from_opening later earlier is opened in
      let safely = safe later earlier is opened in
      let whole : IsWhole now = subst IsWhole here (told.whole (length (past_of files earlier))) in
      elim (same_cell (cell_with left.root) now.cell) [
        | inl same ↦ record {
          at = length (past_of files earlier);
          from = omega (arith, begun, low);
          to = omega (arith, many);
          are = subst (λ (image : Image). AreLeft image left) (sym here) (safely.stays left may same);
          all = ap (λ (image : Image). image.recorded) here;
        }
        | inr other ↦ elim (fallback files opened.1 opened.0) [
          | inl alone ↦
              let lone : IsAlone (replay files earlier) = subst (λ (es : List Event). IsAlone (replay files es)) (sym opened.2) alone in
              absurd (other (left_cell (replay files earlier) left lone.alone lone.synced may))
          | inr one ↦
              let past : List Event = one.1 ++ opening opened.0 in
              let before : before_of files earlier ≡ now_of files past = ap (before_of files) opened.2 ∙ one.3 in
              let split : earlier ≡ one.0 ++ past = opened.2 ∙ ap (λ (es : List Event). es ++ opening opened.0) one.2 ∙ append_assoc one.0 one.1 (opening opened.0) in
              let is' : events ≡ (later ++ one.0) ++ past = is ∙ ap (λ (es : List Event). later ++ es) split ∙ sym (append_assoc later one.0 past) in
              let opened' : AreOpened past = (opened.0, one.1, refl) in
              let there = image_after (later ++ one.0) past is' opened' in
              let many' = many_after (later ++ one.0) past is' opened' in
              let rises : IsEarlier (now_of files past) now =
              subst (λ (image : Image). IsEarlier image now) there (subst (IsEarlier (image_at (told_by files events told) (length (past_of files past)))) here
              (told.ascends (length (past_of files past)) (length (past_of files earlier)) (omega (arith, many, many', length-append later one.0)))) in
              let falls : (full : Files) → MayHold (replay files earlier) full → cell_with full.root ≢ now.cell → AreLeft (now_of files past) full = λ full holds no. subst (λ (image : Image). AreLeft image full) before (safely.falls full holds no) in
              record {
                at = length (past_of files past);
                from = omega (arith, begun, from_opening (later ++ one.0) past is' opened');
                to = omega (arith, many');
                are = subst (λ (image : Image). AreLeft image left) (sym there) (falls left may other);
                all = ap (λ (image : Image). image.recorded) there ∙ all_recorded (now_of files past) now (replay files earlier) left whole refl refl rises.pages
                    (λ full pages handed root. falls full (record {
                      synced = omega (arith, ap (λ (xs : List (List ℕ)). length xs) pages, whole.synced, whole.as_many);
                      pages = omega (arith, ap (λ (xs : List (List ℕ)). length xs) pages);
                      same = ap (λ (xs : List (List ℕ)). take (durable (replay files earlier)) xs) pages;
                      handed = handed ∙ sym (take_all (length full.pages) (replay files earlier).recorded (omega (arith, ap (λ (xs : List (List ℕ)). length xs) pages, whole.as_many)));
                      whole = subst (All (IsBytes RECORD)) (sym pages) whole.readable;
                      root = λ held on_disk. let found = may.root held on_disk in (found.0, found.1, subst (Leaves found.0) (sym root) found.2);
                    }) (λ same. other (ap cell_with (sym root) ∙ same)));
              }
        ]
      ]
