-- That pages are counted once, when the files are opened.
use Rattle.std.proofs.Common.{◌≡◌, inl, inr, ℕ, Bool, true, false, List, [], ◌∷◌, Option, Some, None, Result, Ok, Err, refl, ◌∙◌, ap}
use Rattle.std.specs.Prelude.{All}
use Rattle.std.proofs.lemmas.List.Elements.{All-nil, All-cons, All-head, All-tail}
use Rattle.folder_platform.specs.Events.{Event, root_read, root_unread, new_removed, new_made, new_synced, new_renamed, root_removed, cell_synced, replaced_in_place, cleared_in_place}
use Rattle.folder_platform.specs.Sequences.{Attempts, Renames, Unlinks, Replaces, Clears, NotesCell, opening, counts, counted}

pub once_opening : (n : ℕ) (events : List Event) → events ≡ opening n → counted events ≡ 1
once_opening n events is = ap counted is

pub counted_more : (e : Event) (events : List Event) → counts e.0 ≡ false → counted (e ∷ events) ≡ counted events
counted_more e events other = rw other refl

pub once_event : (old new : List Event) (e : Event) → counts e.0 ≡ false → new ≡ e ∷ old → counted old ≡ 1 → counted new ≡ 1
once_event old new e other is once = ap counted is ∙ counted_more e old other ∙ once

once_same : (old new : List Event) → new ≡ old → counted old ≡ 1 → counted new ≡ 1
once_same old new is once = ap counted is ∙ once

once_loaded : (old new : List Event) (held : Option (List ℕ)) → new ≡ root_read held ∷ old → counted old ≡ 1 → counted new ≡ 1
once_loaded old new None is once = once_event old new (root_read None) refl is once
once_loaded old new (Some bytes) is once = once_event old new (root_read (Some bytes)) refl is once

pub once_look : {E : Type 0} (old new : List Event) (result : Result Bool E) (into : List ℕ) → NotesCell result into old new → counted old ≡ 1 → counted new ≡ 1
once_look old new (Ok full) into notes once = once_loaded old new notes.0 notes.1 once
once_look old new (Err error) into notes once = once_event old new root_unread refl notes once

-- a call that counts no pages, done or not
abbrev IsCountless : (Bool → Event) → Type 0
IsCountless call = (done : Bool) → counts (call done).0 ≡ false

once_attempts : (calls : List (Bool → Event)) (done : Bool) (old new : List Event) → All IsCountless calls → Attempts calls done old new → counted old ≡ 1 → counted new ≡ 1
once_attempts [] done old new countless made once = once_same old new made.1 once
once_attempts (call ∷ calls) done old new countless (inl made) once =
    once_attempts calls done (call true ∷ old) new (All-tail IsCountless call calls countless) made
    (once_event old (call true ∷ old) (call true) (All-head IsCountless call calls countless true) refl once)
once_attempts (call ∷ calls) done old new countless (inr failed) once = once_event old new (call false) (All-head IsCountless call calls countless false) failed.1 once

once_renamed : (bytes : List ℕ) (done : Bool) (old new : List Event) → Renames bytes done old new → counted old ≡ 1 → counted new ≡ 1
once_renamed bytes done old new made once =
    let made_new : Bool → Event = λ done. new_made done bytes in
    let all : All IsCountless (new_removed ∷ made_new ∷ new_synced ∷ new_renamed ∷ cell_synced ∷ []) =
    All-cons IsCountless new_removed (made_new ∷ new_synced ∷ new_renamed ∷ cell_synced ∷ []) (λ done. refl)
    (All-cons IsCountless made_new (new_synced ∷ new_renamed ∷ cell_synced ∷ []) (λ done. refl)
    (All-cons IsCountless new_synced (new_renamed ∷ cell_synced ∷ []) (λ done. refl)
    (All-cons IsCountless new_renamed (cell_synced ∷ []) (λ done. refl)
    (All-cons IsCountless cell_synced [] (λ done. refl) (All-nil IsCountless))))) in
    once_attempts (new_removed ∷ made_new ∷ new_synced ∷ new_renamed ∷ cell_synced ∷ []) done old new all made once

once_unlinked : (done : Bool) (old new : List Event) → Unlinks done old new → counted old ≡ 1 → counted new ≡ 1
once_unlinked done old new made once =
    let all : All IsCountless (new_removed ∷ root_removed ∷ cell_synced ∷ []) =
    All-cons IsCountless new_removed (root_removed ∷ cell_synced ∷ []) (λ done. refl)
    (All-cons IsCountless root_removed (cell_synced ∷ []) (λ done. refl)
    (All-cons IsCountless cell_synced [] (λ done. refl) (All-nil IsCountless))) in
    once_attempts (new_removed ∷ root_removed ∷ cell_synced ∷ []) done old new all made once

pub once_replaced : (bytes : List ℕ) (done : Bool) (old new : List Event) → Replaces bytes done old new → counted old ≡ 1 → counted new ≡ 1
once_replaced bytes done old new (inl made) once = once_renamed bytes done old new made once
once_replaced bytes done old new (inr is) once = once_event old new (replaced_in_place done bytes) refl is once

pub once_cleared : (done : Bool) (old new : List Event) → Clears done old new → counted old ≡ 1 → counted new ≡ 1
once_cleared done old new (inl made) once = once_unlinked done old new made once
once_cleared done old new (inr is) once = once_event old new (cleared_in_place done) refl is once
