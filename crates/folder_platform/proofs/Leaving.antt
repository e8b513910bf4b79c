-- What a loss of power leaves where all was done.
use Rattle.std.proofs.Common.{◌≡◌, ℕ, true, false, List, [], ◌∷◌, Option, Some, None, length, refl, ◌∙◌, ap, arith}
use Rattle.std.specs.Prelude.{Contains}
use Rattle.std.proofs.lemmas.List.Elements.{All-contains, All-cons, All-nil}
use Rattle.folder_platform.specs.Files.{Files}
use Rattle.folder_platform.specs.Model.{NamedFile, Model, found, is_synced, file_synced}
use Rattle.folder_platform.specs.Told.{shown, cell_of, cell_with}
use Rattle.folder_platform.specs.Loss.{MayHold, AreLeft, Settled, Leaves}

pub synced-is_synced : (file : NamedFile) → is_synced (file_synced file) ≡ true
synced-is_synced None = refl
synced-is_synced (Some file) = refl

-- a sync changes no bytes
pub synced-cell : (file : NamedFile) → cell_of (file_synced file) ≡ cell_of file
synced-cell None = refl
synced-cell (Some file) = refl

pub found-cell : (root : Option (List ℕ)) → cell_of (found root) ≡ cell_with root
found-cell None = refl
found-cell (Some bytes) = refl

pub leaves_cell : (file : NamedFile) (left : Option (List ℕ)) → is_synced file ≡ true → Leaves file left → cell_with left ≡ cell_of file
leaves_cell None left synced is = ap cell_with is
leaves_cell (Some (bytes, true)) left synced is = ap cell_with is
leaves_cell (Some (bytes, false)) left synced is = cc

pub alone : (file : NamedFile) (other : NamedFile) → Contains (file ∷ []) other → other ≡ file
alone file other there = All-contains (λ (f : NamedFile). f ≡ file) (file ∷ []) other (All-cons (λ (f : NamedFile). f ≡ file) file [] refl (All-nil (λ (f : NamedFile). f ≡ file))) there

-- where `root` leads to one file on the disk, that is left
pub left_cell : (m : Model) (left : Files) → m.on_disk ≡ Some (m.root ∷ []) → is_synced m.root ≡ true → MayHold m left → cell_with left.root ≡ cell_of m.root
left_cell m left one synced may =
    let there = may.root (m.root ∷ []) one in
    let is : there.0 ≡ m.root = alone m.root there.0 there.1 in
    leaves_cell there.0 left.root (rw is synced) there.2 ∙ ap cell_of is

pub left_settled : (m : Model) (left : Files) → length m.recorded ≡ length m.readable → Settled m → MayHold m left → AreLeft (shown m) left
left_settled m left as_many settled may = record {
  cell = left_cell m left settled.alone settled.synced may;
  synced = may.synced;
  pages = omega (arith, may.pages);
  same = may.same;
  handed = may.handed;
  whole = may.whole;
}
