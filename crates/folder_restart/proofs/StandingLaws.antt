-- What stands in files that a loss of power left.
use Rattle.std.proofs.Common.{◌≡◌, ℕ, zero, suc, ◌<◌, List, [], ◌∷◌, Some, None, length, take, refl, ap, ◌∙◌, arith}
use Rattle.std.specs.Prelude.{All, slice_get}
use Rattle.std.proofs.lemmas.List.{take-take}
use Rattle.std.proofs.lemmas.List.Elements.{All-weaker}
use Rattle.platform.specs.Image.{Image}
use Rattle.sdbt_base.specs.Arrays.{Device}
use Rattle.root_codec.specs.declared.root.Root.{Root}
use Rattle.page_store.specs.Tree.{Place, Parts}
use Rattle.page_store.specs.Stands.{StandsBy}
use Rattle.page_store.proofs.StandsLaws.{stands_kept}
use Rattle.page_store.proofs.TreeLaws.{ReadsAlike}
use Rattle.folder_platform.specs.Files.{Files}
use Rattle.folder_platform.specs.Events.{Event}
use Rattle.folder_platform.specs.Loss.{AreLeft, AllSafe, opened}
use Rattle.folder_restart.specs.Restart.{StandsAgain, GoesOnAnywhere}

slice_get-take : (n : ℕ) (xs ys : List (List ℕ)) (i : ℕ) → i < n → take n xs ≡ take n ys → slice_get xs i ≡ slice_get ys i
slice_get-take zero xs ys i below same = absurd (omega arith)
slice_get-take (suc n) [] [] i below same = refl
slice_get-take (suc n) [] (y ∷ ys) i below same = cc
slice_get-take (suc n) (x ∷ xs) [] i below same = cc
slice_get-take (suc n) (x ∷ xs) (y ∷ ys) zero below same = cc
slice_get-take (suc n) (x ∷ xs) (y ∷ ys) (suc i) below same = let rest : take n xs ≡ take n ys = cc in slice_get-take n xs ys i (omega arith) rest

-- an image's root record and tree are those of what is opened
pub stands_by_opened : (image : Image) (left : Files) (device : Device) (root : Root) (parts : Parts) → AreLeft image left → StandsBy image device root parts → StandsBy (opened left) device root parts
stands_by_opened image left device root parts are stands =
    let reads : All (ReadsAlike image.readable left.pages) parts.places =
    All-weaker (λ (p : Place). p.addr < root.head) (ReadsAlike image.readable left.pages)
    (λ place below. slice_get-take image.synced left.pages image.readable place.addr (omega (arith, stands.head)) are.same) parts.places stands.below in
    let front : take (length left.pages) left.handed ≡ take (length left.pages) image.recorded =
    ap (λ (pages : List (List ℕ)). take (length left.pages) pages) are.handed ∙ take-take (length left.pages) (length left.pages) image.recorded (omega arith) in
    let recorded : All (ReadsAlike image.recorded left.handed) parts.places =
    All-weaker (λ (p : Place). p.addr < root.head) (ReadsAlike image.recorded left.handed)
    (λ place below. slice_get-take (length left.pages) left.handed image.recorded place.addr (omega (arith, stands.head, are.synced)) front) parts.places stands.below in
    stands_kept image (opened left) device root parts stands are.cell (omega (arith, stands.head, are.synced)) reads recorded

pub stands_opened : (image : Image) (left : Files) → AreLeft image left → StandsAgain image left
stands_opened image left are None stands = are.cell ∙ stands
stands_opened image left are (Some device) (root, parts, stands) = (root, parts, stands_by_opened image left device root parts are stands)

pub goes_on : (files : Files) (events : List Event) → AllSafe files events → GoesOnAnywhere files events
goes_on files events safe later earlier is from left may =
    let here = safe later earlier is from in
    record {
      stays = λ same. stands_opened _ left (here.stays left may same);
      falls = λ other. stands_opened _ left (here.falls left may other);
    }
