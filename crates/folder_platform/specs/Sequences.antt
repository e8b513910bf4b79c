-- Which calls on files a call of the platform consists of.
use Rattle.std.specs.Prelude.{◌≡◌, ◌⊎◌, ◌↔◌, ◌+◌, if◌then◌else◌, ℕ, Bool, true, false, List, [], ◌∷◌, ◌++◌, Option, Some, None, Result, Ok, Err, is_ok, take, IsTrue, IsSome}
use Rattle.folder_platform.specs.Files.{Files}
use Rattle.folder_platform.specs.Events.{Event, all_done, pages_counted, pages_uncounted, media_synced, folder_synced, root_read, root_unread, root_synced, root_removed, new_removed, new_made, new_synced, new_renamed, cell_synced, replaced_in_place, cleared_in_place}
use Rattle.folder_platform.specs.Told.{cell_with}
use Rattle.folder_platform.specs.declared.file_call.FileCall.{FileCall}
use Rattle.folder_platform.specs.declared.file_call.FileCall.TheVariants.{CountPages}

-- these calls one after another, the oldest first: all of them were done, or the last one that was made failed
abbrev pub Attempts : List (Bool → Event) → Bool → List Event → List Event → Type 0
Attempts [] done old new = (done ≡ true) × (new ≡ old)
Attempts (call ∷ calls) done old new = Attempts calls done (call true ∷ old) new ⊎ ((done ≡ false) × (new ≡ call false ∷ old))

-- `root.new` is removed, made with these bytes and synced, it becomes `root`, and the folder is synced
abbrev pub Renames : List ℕ → Bool → List Event → List Event → Type 0
Renames bytes = Attempts (new_removed ∷ (λ done. new_made done bytes) ∷ new_synced ∷ new_renamed ∷ cell_synced ∷ [])

-- `root.new` is removed, and `root`, and the folder is synced
abbrev pub Unlinks : Bool → List Event → List Event → Type 0
Unlinks = Attempts (new_removed ∷ root_removed ∷ cell_synced ∷ [])

-- the cell holds these bytes: by names in a folder, or in place in one call
abbrev pub Replaces : List ℕ → Bool → List Event → List Event → Type 0
Replaces bytes done old new = Renames bytes done old new ⊎ (new ≡ replaced_in_place done bytes ∷ old)

-- the cell holds nothing: the same
abbrev pub Clears : Bool → List Event → List Event → Type 0
Clears done old new = Unlinks done old new ⊎ (new ≡ cleared_in_place done ∷ old)

-- this call
abbrev pub Makes : (Bool → Event) → Bool → List Event → List Event → Type 0
Makes call done old new = new ≡ call done ∷ old

-- A call of the platform makes these calls, done or not. Only where one that changes something has failed before it makes none, and fails.
pub record Asks {T E : Type 0} (Calls : Bool → List Event → List Event → Type 0) (result : Result T E) (old new : List Event) : Type 0 where
  pub makes : all_done old ≡ true → Calls (is_ok result) old new
  pub refuses : all_done old ≡ false → (is_ok result ≡ false) × (new ≡ old)

-- an opening, the newest call first: `root.new` was removed, so many pages were counted, and `media`, its folder, `root` and its folder were synced
abbrev pub opening : ℕ → List Event
opening n = cell_synced true ∷ root_synced true ∷ folder_synced true ∷ media_synced true ∷ pages_counted n ∷ new_removed true ∷ []

-- the calls begin with an opening
abbrev pub AreOpened : List Event → Type 0
AreOpened events = (n : ℕ) × (later : List Event) × (events ≡ later ++ opening n)

-- a call that counts pages
abbrev pub counts : FileCall → Bool
counts CountPages = true
counts other = false

-- so many times pages were counted, or that was tried
abbrev pub counted : List Event → ℕ
counted [] = 0
counted (e ∷ earlier) = if counts e.0 then counted earlier + 1 else counted earlier

-- files that held this were opened, and no other call was made
pub record IsOpening (were are : Files) (events : List Event) : Type 0 where
  pub files : are ≡ were
  pub calls : (n : ℕ) × (events ≡ opening n)

-- so many bytes of the buffer are what `root` begins with, if it is there
abbrev pub NotesRoot : {E : Type 0} → Result (Option ℕ) E → List ℕ → List Event → List Event → Type 0
NotesRoot (Ok None) into old new = new ≡ root_read None ∷ old
NotesRoot (Ok (Some n)) into old new = new ≡ root_read (Some (take n into)) ∷ old
NotesRoot (Err _) into old new = new ≡ root_unread ∷ old

-- so many pages were counted, or that failed
abbrev pub NotesCount : {E : Type 0} → Result ℕ E → List Event → List Event → Type 0
NotesCount (Ok n) old new = new ≡ pages_counted n ∷ old
NotesCount (Err _) old new = new ≡ pages_uncounted ∷ old

-- whether the cell is full, and then what it holds, by one look at it
abbrev pub NotesCell : {E : Type 0} → Result Bool E → List ℕ → List Event → List Event → Type 0
NotesCell (Ok full) into old new = (root : Option (List ℕ)) × (new ≡ root_read root ∷ old) × (IsTrue full ↔ IsSome (cell_with root)) × (IsTrue full → cell_with root ≡ Some into)
NotesCell (Err _) into old new = new ≡ root_unread ∷ old
