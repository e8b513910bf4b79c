-- What the calls that change the cell do to the history that their record tells.
use Rattle.std.proofs.Common.{◌≡◌, ◌⊎◌, inl, inr, ℕ, Bool, true, false, List, [], ◌∷◌, ◌++◌, Option, Some, None, length, refl, sym, ◌∙◌, ap, subst}
use Rattle.sdbt_base.specs.Bytes.{IsBytes}
use Rattle.sdbt_base.specs.declared.limits.TheConstants.{ROOT}
use Rattle.platform.specs.Image.{Image, IsWhole, IsEarlier, with_cell}
use Rattle.platform.specs.History.{Steps, During}
use Rattle.platform.proofs.Moments.{During-start, During-call, During-step, Turns-not, Turns-call, Turns-then}
use Rattle.folder_platform.specs.Files.{Files}
use Rattle.folder_platform.specs.Events.{Event, all_done, new_removed, new_made, new_synced, new_renamed, root_removed, cell_synced, replaced_in_place, cleared_in_place}
use Rattle.folder_platform.specs.Model.{replay}
use Rattle.folder_platform.specs.Told.{record_of, past_of, now_of, reads_of, IsTold, told_by}
use Rattle.folder_platform.specs.Sequences.{Renames, Unlinks, Replaces, Clears}
use Rattle.folder_platform.specs.Loss.{Settled}
use Rattle.folder_platform.proofs.Orderly.{earlier-same}
use Rattle.folder_platform.proofs.Telling.{whole-told, told_as, told_same, steps_told}

-- a root record is what the cell holds
pub record_of_root : (bytes : List ℕ) → length bytes ≡ ROOT → record_of bytes ≡ Some bytes
record_of_root bytes size = rw size refl

whole-cell : (image : Image) (held : Option (List ℕ)) → ((bytes : List ℕ) → held ≡ Some bytes → IsBytes ROOT bytes) → IsWhole image → IsWhole (with_cell image held)
whole-cell image held is whole = record { cell = is; recorded = whole.recorded; readable = whole.readable; as_many = whole.as_many; synced = whole.synced }

earlier-cell : (image : Image) (held : Option (List ℕ)) → IsWhole image → IsEarlier image (with_cell image held)
earlier-cell image held whole =
    let same = earlier-same image whole in
    record { recorded = same.recorded; readable = same.readable; pages = same.pages; synced = same.synced }

-- the pages are as they were
pub record KeepsPages (files : Files) (old new : List Event) : Type 0 where
  pub readable : (replay files new).readable ≡ (replay files old).readable
  pub recorded : (replay files new).recorded ≡ (replay files old).recorded
  pub reads : reads_of new ≡ reads_of old

keeps-more : (files : Files) (e : Event) (old mid : List Event) → KeepsPages files old mid → KeepsPages files mid (e ∷ mid) → KeepsPages files old (e ∷ mid)
keeps-more files e old mid one two = record { readable = two.readable ∙ one.readable; recorded = two.recorded ∙ one.recorded; reads = two.reads ∙ one.reads }

kept : (files : Files) (events : List Event) → KeepsPages files events events
kept files events = record { readable = refl; recorded = refl; reads = refl }

-- calls that leave the image
pub record IsCalm (files : Files) (old new : List Event) (told : IsTold files old) : Type 0 where
  pub told_now : IsTold files new
  pub during : (told_now : IsTold files new) → During (told_by files old told) (told_by files new told_now) (λ image. image ≡ now_of files old)
  pub image : now_of files new ≡ now_of files old
  pub keeps : KeepsPages files old new

-- no call yet, whatever proof is meant
During-start' : (files : Files) (events : List Event) (told told_now : IsTold files events) → During (told_by files events told) (told_by files events told_now) (λ image. image ≡ now_of files events)
During-start' files events told told_now =
    let start = During-start (told_by files events told) (λ image. image ≡ now_of files events) refl in
    record { extends = record { later = start.extends.later; same = start.extends.same }; each = start.each }

calm : (files : Files) (events : List Event) (told : IsTold files events) → IsCalm files events events told
calm files events told = record { told_now = told; during = λ told_now. During-start' files events told told_now; image = refl; keeps = kept files events }

calm-more : (files : Files) (e : Event) (old mid : List Event) (told : IsTold files old) → past_of files (e ∷ mid) ≡ past_of files mid ++ now_of files mid ∷ [] → now_of files (e ∷ mid) ≡ now_of files mid
    → KeepsPages files mid (e ∷ mid) → IsCalm files old mid told → IsCalm files old (e ∷ mid) told
calm-more files e old mid told adds same keeps was = record {
  told_now = told_same files e mid adds was.told_now same;
  during = λ told_now. During-call (told_by files old told) (told_by files mid was.told_now) (told_by files (e ∷ mid) told_now) (λ image. image ≡ now_of files old) (was.during was.told_now)
      (steps_told files e mid adds was.told_now told_now) (same ∙ was.image);
  image = same ∙ was.image;
  keeps = keeps-more files e old mid was.keeps keeps;
}

-- calls that change the cell to this, or, where not all are done, may have
pub record Changes (files : Files) (old new : List Event) (told : IsTold files old) (held : Option (List ℕ)) (ok : Bool) : Type 0 where
  pub told_now : IsTold files new
  pub time : (told_now : IsTold files new) → Steps (told_by files old told) (told_by files new told_now)
  pub done : ok ≡ true → now_of files new ≡ with_cell (now_of files old) held
  pub either : (now_of files new ≡ now_of files old) ⊎ (now_of files new ≡ with_cell (now_of files old) held)
  pub keeps : KeepsPages files old new
  pub settled : ok ≡ true → Settled (replay files new)

-- none of them came to the change
changes-not : (files : Files) (old new : List Event) (told : IsTold files old) (held : Option (List ℕ)) → IsCalm files old new told → Changes files old new told held false
changes-not files old new told held was = record {
  told_now = was.told_now;
  time = λ told_now. Turns-not (told_by files old told) (told_by files new told_now) (λ image. image ≡ now_of files old) (λ image. image ≡ now_of files new) (was.during told_now);
  done = λ no. cc;
  either = inl was.image;
  keeps = was.keeps;
  settled = λ no. cc;
}

-- calls that leave the image, one that changes the cell, and one more that leaves the image
changes-then : (files : Files) (turn last : Event) (old mid : List Event) (told : IsTold files old) (held : Option (List ℕ)) (ok : Bool)
    → past_of files (turn ∷ mid) ≡ past_of files mid ++ now_of files mid ∷ [] → now_of files (turn ∷ mid) ≡ with_cell (now_of files mid) held → ((bytes : List ℕ) → held ≡ Some bytes → IsBytes ROOT bytes)
    → KeepsPages files mid (turn ∷ mid)
    → past_of files (last ∷ turn ∷ mid) ≡ past_of files (turn ∷ mid) ++ now_of files (turn ∷ mid) ∷ [] → now_of files (last ∷ turn ∷ mid) ≡ now_of files (turn ∷ mid)
    → KeepsPages files (turn ∷ mid) (last ∷ turn ∷ mid)
    → (ok ≡ true → Settled (replay files (last ∷ turn ∷ mid))) → IsCalm files old mid told → Changes files old (last ∷ turn ∷ mid) told held ok
changes-then files turn last old mid told held ok adds turns is keeps adds' same keeps' rests was =
    let whole = whole-told files mid was.told_now in
    let told1 = told_as files turn mid adds was.told_now (with_cell (now_of files mid) held) turns (whole-cell (now_of files mid) held is whole) (earlier-cell (now_of files mid) held whole) in
    let told2 = told_same files last (turn ∷ mid) adds' told1 same in
    let start = told_by files old told in
    let one = told_by files (turn ∷ mid) told1 in
    let before = λ (image : Image). image ≡ now_of files old in
    let after = λ (image : Image). image ≡ now_of files (last ∷ turn ∷ mid) in
    let turned : now_of files (last ∷ turn ∷ mid) ≡ with_cell (now_of files old) held = same ∙ turns ∙ ap (λ (image : Image). with_cell image held) was.image in
    record {
      told_now = told2;
      time = λ told_now. Turns-then start one (told_by files (last ∷ turn ∷ mid) told_now) before after
          (Turns-call start (told_by files mid was.told_now) one before after (was.during was.told_now) (steps_told files turn mid adds was.told_now told1) (sym same))
          (During-step one (told_by files (last ∷ turn ∷ mid) told_now) after (steps_told files last (turn ∷ mid) adds' told1 told_now) (sym same) refl);
      done = λ yes. turned;
      either = inr turned;
      keeps = keeps-more files last old (turn ∷ mid) (keeps-more files turn old mid was.keeps keeps) keeps';
      settled = rests;
    }

-- the same without the last one: the change was it
changes-turn : (files : Files) (turn : Event) (old mid : List Event) (told : IsTold files old) (held : Option (List ℕ)) (ok : Bool)
    → past_of files (turn ∷ mid) ≡ past_of files mid ++ now_of files mid ∷ [] → now_of files (turn ∷ mid) ≡ with_cell (now_of files mid) held → ((bytes : List ℕ) → held ≡ Some bytes → IsBytes ROOT bytes)
    → KeepsPages files mid (turn ∷ mid) → (ok ≡ true → Settled (replay files (turn ∷ mid))) → IsCalm files old mid told → Changes files old (turn ∷ mid) told held ok
changes-turn files turn old mid told held ok adds turns is keeps rests was =
    let whole = whole-told files mid was.told_now in
    let before = λ (image : Image). image ≡ now_of files old in
    let after = λ (image : Image). image ≡ now_of files (turn ∷ mid) in
    let turned : now_of files (turn ∷ mid) ≡ with_cell (now_of files old) held = turns ∙ ap (λ (image : Image). with_cell image held) was.image in
    record {
      told_now = told_as files turn mid adds was.told_now (with_cell (now_of files mid) held) turns (whole-cell (now_of files mid) held is whole) (earlier-cell (now_of files mid) held whole);
      time = λ told_now. Turns-call (told_by files old told) (told_by files mid was.told_now) (told_by files (turn ∷ mid) told_now) before after (was.during was.told_now)
          (steps_told files turn mid adds was.told_now told_now) refl;
      done = λ yes. turned;
      either = inr turned;
      keeps = keeps-more files turn old mid was.keeps keeps;
      settled = rests;
    }

-- the parts of a replacement
module _ (files : Files) (old : List Event) (settled : Settled (replay files old)) (told : IsTold files old) where
  calm_new_removed : (ok : Bool) → IsCalm files old (new_removed ok ∷ old) told
  calm_new_removed true = calm-more files (new_removed true) old old told refl refl (record { readable = refl; recorded = refl; reads = refl }) (calm files old told)
  calm_new_removed false = calm-more files (new_removed false) old old told refl refl (record { readable = refl; recorded = refl; reads = refl }) (calm files old told)

  changes_unlinked : (ok : Bool) (new : List Event) → Unlinks ok old new → Changes files old new told None ok
  changes_unlinked ok new (inr (failed, is)) = rw (failed, is) (changes-not files old (new_removed false ∷ old) told None (calm_new_removed false))
  changes_unlinked ok new (inl (inr (failed, is))) =
      rw (failed, is) (changes-turn files (root_removed false) old (new_removed true ∷ old) told None false refl refl (λ bytes no. cc) (record { readable = refl; recorded = refl; reads = refl }) (λ no. cc) (calm_new_removed true))
  changes_unlinked ok new (inl (inl (inr (failed, is)))) =
      rw (failed, is) (changes-then files (root_removed true) (cell_synced false) old (new_removed true ∷ old) told None false refl refl (λ bytes no. cc) (record { readable = refl; recorded = refl; reads = refl }) refl refl (record { readable = refl; recorded = refl; reads = refl }) (λ no. cc) (calm_new_removed true))
  changes_unlinked ok new (inl (inl (inl (done, is)))) =
      rw (done, is) (changes-then files (root_removed true) (cell_synced true) old (new_removed true ∷ old) told None true refl refl (λ bytes no. cc) (record { readable = refl; recorded = refl; reads = refl }) refl refl (record { readable = refl; recorded = refl; reads = refl }) (λ yes. record { named = settled.named; alone = refl; synced = refl; no_new = refl }) (calm_new_removed true))

  in_place : (turn : Event) (held : Option (List ℕ)) (ok : Bool) → past_of files (turn ∷ old) ≡ past_of files old ++ now_of files old ∷ [] → now_of files (turn ∷ old) ≡ with_cell (now_of files old) held
      → ((bytes : List ℕ) → held ≡ Some bytes → IsBytes ROOT bytes) → KeepsPages files old (turn ∷ old) → (ok ≡ true → Settled (replay files (turn ∷ old))) → Changes files old (turn ∷ old) told held ok
  in_place turn held ok adds turns is keeps rests = changes-turn files turn old old told held ok adds turns is keeps rests (calm files old told)

  cleared_now : (ok : Bool) → Changes files old (cleared_in_place ok ∷ old) told None ok
  cleared_now true = in_place (cleared_in_place true) None true refl refl (λ bytes no. cc) (record { readable = refl; recorded = refl; reads = refl }) (λ yes. record { named = settled.named; alone = refl; synced = refl; no_new = settled.no_new })
  cleared_now false = in_place (cleared_in_place false) None false refl refl (λ bytes no. cc) (record { readable = refl; recorded = refl; reads = refl }) (λ no. cc)

  pub changes_cleared : (ok : Bool) (new : List Event) → Clears ok old new → Changes files old new told None ok
  changes_cleared ok new (inl made) = changes_unlinked ok new made
  changes_cleared ok new (inr is) = rw is (cleared_now ok)

  module _ (bytes : List ℕ) (size : length bytes ≡ ROOT) where
    calm_new_made : (ok : Bool) → IsCalm files old (new_made ok bytes ∷ new_removed true ∷ old) told
    calm_new_made ok = calm-more files (new_made ok bytes) old (new_removed true ∷ old) told refl refl (record { readable = refl; recorded = refl; reads = refl }) (calm_new_removed true)

    calm_new_synced : (ok : Bool) → IsCalm files old (new_synced ok ∷ new_made true bytes ∷ new_removed true ∷ old) told
    calm_new_synced true = calm-more files (new_synced true) old (new_made true bytes ∷ new_removed true ∷ old) told refl refl (record { readable = refl; recorded = refl; reads = refl }) (calm_new_made true)
    calm_new_synced false = calm-more files (new_synced false) old (new_made true bytes ∷ new_removed true ∷ old) told refl refl (record { readable = refl; recorded = refl; reads = refl }) (calm_new_made true)

    turned : now_of files (new_renamed true ∷ new_synced true ∷ new_made true bytes ∷ new_removed true ∷ old) ≡ with_cell (now_of files (new_synced true ∷ new_made true bytes ∷ new_removed true ∷ old)) (Some bytes)
    turned = ap (λ held. with_cell (now_of files (new_synced true ∷ new_made true bytes ∷ new_removed true ∷ old)) held) (record_of_root bytes size)

    is_held : IsBytes ROOT bytes → (other : List ℕ) → Some bytes ≡ Some other → IsBytes ROOT other
    is_held is_root other same = let e : bytes ≡ other = cc in subst (IsBytes ROOT) e is_root

    changed : IsBytes ROOT bytes → (ok : Bool) → now_of files (cell_synced ok ∷ new_renamed true ∷ new_synced true ∷ new_made true bytes ∷ new_removed true ∷ old) ≡ now_of files (new_renamed true ∷ new_synced true ∷ new_made true bytes ∷ new_removed true ∷ old)
        → KeepsPages files (new_renamed true ∷ new_synced true ∷ new_made true bytes ∷ new_removed true ∷ old) (cell_synced ok ∷ new_renamed true ∷ new_synced true ∷ new_made true bytes ∷ new_removed true ∷ old)
        → (ok ≡ true → Settled (replay files (cell_synced ok ∷ new_renamed true ∷ new_synced true ∷ new_made true bytes ∷ new_removed true ∷ old)))
        → Changes files old (cell_synced ok ∷ new_renamed true ∷ new_synced true ∷ new_made true bytes ∷ new_removed true ∷ old) told (Some bytes) ok
    changed is_root ok same keeps rests =
        changes-then files (new_renamed true) (cell_synced ok) old (new_synced true ∷ new_made true bytes ∷ new_removed true ∷ old) told (Some bytes) ok refl turned (is_held is_root) (record { readable = refl; recorded = refl; reads = refl }) refl same keeps rests (calm_new_synced true)

    -- where they came to the change, its bytes are bytes
    changes_renamed : (ok : Bool) (new : List Event) → (now_of files new ≡ with_cell (now_of files old) (Some bytes) → IsBytes ROOT bytes) → Renames bytes ok old new → Changes files old new told (Some bytes) ok
    changes_renamed ok new is_root (inr (failed, is)) = rw (failed, is) (changes-not files old (new_removed false ∷ old) told (Some bytes) (calm_new_removed false))
    changes_renamed ok new is_root (inl (inr (failed, is))) = rw (failed, is) (changes-not files old (new_made false bytes ∷ new_removed true ∷ old) told (Some bytes) (calm_new_made false))
    changes_renamed ok new is_root (inl (inl (inr (failed, is)))) =
        rw (failed, is) (changes-not files old (new_synced false ∷ new_made true bytes ∷ new_removed true ∷ old) told (Some bytes) (calm_new_synced false))
    changes_renamed ok new is_root (inl (inl (inl (inr (failed, is))))) =
        rw (failed, is) (changes-turn files (new_renamed false) old (new_synced true ∷ new_made true bytes ∷ new_removed true ∷ old) told (Some bytes) false refl turned (is_held (is_root (ap (λ (es : List Event). now_of files es) is ∙ turned))) (record { readable = refl; recorded = refl; reads = refl }) (λ no. cc) (calm_new_synced true))
    changes_renamed ok new is_root (inl (inl (inl (inl (inr (failed, is)))))) = rw (failed, is) (changed (is_root (ap (λ (es : List Event). now_of files es) is ∙ turned)) false refl (record { readable = refl; recorded = refl; reads = refl }) (λ no. cc))
    changes_renamed ok new is_root (inl (inl (inl (inl (inl (done, is)))))) = rw (done, is) (changed (is_root (ap (λ (es : List Event). now_of files es) is ∙ turned)) true refl (record { readable = refl; recorded = refl; reads = refl }) (λ yes. record { named = settled.named; alone = refl; synced = refl; no_new = refl }))

    put_now : (ok : Bool) → now_of files (replaced_in_place ok bytes ∷ old) ≡ with_cell (now_of files old) (Some bytes)
    put_now ok = ap (λ held. with_cell (now_of files old) held) (record_of_root bytes size)

    replaced_now : IsBytes ROOT bytes → (ok : Bool) → Changes files old (replaced_in_place ok bytes ∷ old) told (Some bytes) ok
    replaced_now is_root true = in_place (replaced_in_place true bytes) (Some bytes) true refl (put_now true) (is_held is_root) (record { readable = refl; recorded = refl; reads = refl }) (λ yes. record { named = settled.named; alone = refl; synced = refl; no_new = settled.no_new })
    replaced_now is_root false = in_place (replaced_in_place false bytes) (Some bytes) false refl (put_now false) (is_held is_root) (record { readable = refl; recorded = refl; reads = refl }) (λ no. cc)

    pub changes_replaced : (ok : Bool) (new : List Event) → (now_of files new ≡ with_cell (now_of files old) (Some bytes) → IsBytes ROOT bytes) → Replaces bytes ok old new → Changes files old new told (Some bytes) ok
    changes_replaced ok new is_root (inl made) = changes_renamed ok new is_root made
    changes_replaced ok new is_root (inr is) = rw is (replaced_now (is_root (ap (λ (es : List Event). now_of files es) is ∙ put_now ok)) ok)

-- all of the calls were done, where the last one was
renamed_done : (bytes : List ℕ) (ok : Bool) (old new : List Event) → Renames bytes ok old new → ok ≡ true → all_done old ≡ true → all_done new ≡ true
renamed_done bytes ok old new (inr (failed, is)) sure was = cc
renamed_done bytes ok old new (inl (inr (failed, is))) sure was = cc
renamed_done bytes ok old new (inl (inl (inr (failed, is)))) sure was = cc
renamed_done bytes ok old new (inl (inl (inl (inr (failed, is))))) sure was = cc
renamed_done bytes ok old new (inl (inl (inl (inl (inr (failed, is)))))) sure was = cc
renamed_done bytes ok old new (inl (inl (inl (inl (inl (done, is)))))) sure was = ap all_done is ∙ was

unlinked_done : (ok : Bool) (old new : List Event) → Unlinks ok old new → ok ≡ true → all_done old ≡ true → all_done new ≡ true
unlinked_done ok old new (inr (failed, is)) sure was = cc
unlinked_done ok old new (inl (inr (failed, is))) sure was = cc
unlinked_done ok old new (inl (inl (inr (failed, is)))) sure was = cc
unlinked_done ok old new (inl (inl (inl (done, is)))) sure was = ap all_done is ∙ was

pub replaced_done : (bytes : List ℕ) (ok : Bool) (old new : List Event) → Replaces bytes ok old new → ok ≡ true → all_done old ≡ true → all_done new ≡ true
replaced_done bytes ok old new (inl made) sure was = renamed_done bytes ok old new made sure was
replaced_done bytes ok old new (inr is) sure was = ap all_done is ∙ rw sure was

pub cleared_done : (ok : Bool) (old new : List Event) → Clears ok old new → ok ≡ true → all_done old ≡ true → all_done new ≡ true
cleared_done ok old new (inl made) sure was = unlinked_done ok old new made sure was
cleared_done ok old new (inr is) sure was = ap all_done is ∙ rw sure was

-- one of the calls failed, where the last one did
renamed_failed : (bytes : List ℕ) (ok : Bool) (old new : List Event) → Renames bytes ok old new → ok ≡ false → all_done new ≡ false
renamed_failed bytes ok old new (inr (failed, is)) undone = ap all_done is
renamed_failed bytes ok old new (inl (inr (failed, is))) undone = ap all_done is
renamed_failed bytes ok old new (inl (inl (inr (failed, is)))) undone = ap all_done is
renamed_failed bytes ok old new (inl (inl (inl (inr (failed, is))))) undone = ap all_done is
renamed_failed bytes ok old new (inl (inl (inl (inl (inr (failed, is)))))) undone = ap all_done is
renamed_failed bytes ok old new (inl (inl (inl (inl (inl (done, is)))))) undone = cc

unlinked_failed : (ok : Bool) (old new : List Event) → Unlinks ok old new → ok ≡ false → all_done new ≡ false
unlinked_failed ok old new (inr (failed, is)) undone = ap all_done is
unlinked_failed ok old new (inl (inr (failed, is))) undone = ap all_done is
unlinked_failed ok old new (inl (inl (inr (failed, is)))) undone = ap all_done is
unlinked_failed ok old new (inl (inl (inl (done, is)))) undone = cc

pub replaced_failed : (bytes : List ℕ) (ok : Bool) (old new : List Event) → Replaces bytes ok old new → ok ≡ false → all_done new ≡ false
replaced_failed bytes ok old new (inl made) undone = renamed_failed bytes ok old new made undone
replaced_failed bytes ok old new (inr is) undone = ap all_done is ∙ rw undone refl

pub cleared_failed : (ok : Bool) (old new : List Event) → Clears ok old new → ok ≡ false → all_done new ≡ false
cleared_failed ok old new (inl made) undone = unlinked_failed ok old new made undone
cleared_failed ok old new (inr is) undone = ap all_done is ∙ rw undone refl

-- the same, where the files are known by an equation
pub changes_time : (files files' : Files) (old new : List Event) (told : IsTold files old) (held : Option (List ℕ)) (ok : Bool) → files' ≡ files → Changes files old new told held ok
    → (told' : IsTold files' new) → Steps (told_by files old told) (told_by files' new told')
changes_time files files' old new told held ok same changes = subst (λ (f : Files). (t : IsTold f new) → Steps (told_by files old told) (told_by f new t)) (sym same) changes.time

-- what these calls make of the record
pub record Came (files files' : Files) (old new : List Event) (ok : Bool) : Type 0 where
  pub told : IsTold files' new
  pub readable : length (replay files' new).readable ≡ length (replay files old).readable
  pub recorded : length (replay files' new).recorded ≡ length (replay files old).recorded
  pub settled : ok ≡ true → Settled (replay files' new)

pub changes_came : (files files' : Files) (old new : List Event) (told : IsTold files old) (held : Option (List ℕ)) (ok : Bool) → files' ≡ files → Changes files old new told held ok → Came files files' old new ok
changes_came files files' old new told held ok same changes =
    subst (λ (f : Files). Came files f old new ok) (sym same) (record {
      told = changes.told_now;
      readable = ap (λ (xs : List (List ℕ)). length xs) changes.keeps.readable;
      recorded = ap (λ (xs : List (List ℕ)). length xs) changes.keeps.recorded;
      settled = changes.settled;
    })
