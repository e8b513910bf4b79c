-- What an image says of files that it leaves, once they are opened.
use Rattle.std.proofs.Common.{◌≡◌, inl, inr, ℕ, ◌≤◌, min, List, Option, Some, None, length, take, refl, sym, ◌∙◌, ap, subst, arith, length-take}
use Rattle.std.proofs.lemmas.List.{length-take-le}
use Rattle.std.specs.Option.{option_map_or}
use Rattle.std.proofs.lemmas.Option.{none-some}
use Rattle.platform.specs.Image.{Image}
use Rattle.root_codec.specs.declared.root.Root.{Root}
use Rattle.root_codec.specs.RootRecord.{root_bytes}
use Rattle.sdbt_base.specs.Arrays.{Device}
use Rattle.key_graph.specs.OwnKeys.{HaveOwnKeys}
use Rattle.key_graph.specs.Maps.{AreFirst}
use Rattle.key_graph.proofs.ChainLaws.{front_reads}
use Rattle.page_store.specs.Tree.{Parts, Tree}
use Rattle.page_store.specs.Stands.{StandsBy, Stands}
use Rattle.page_store.specs.Kept.{Kept}
use Rattle.page_store.specs.Floors.{head_in, low_of}
use Rattle.page_store.proofs.TreeLaws.{one_tree}
use Rattle.page_store.proofs.KeptLaws.{one_root_in, root_of_stands, kept_stands}
use Rattle.device_terms.specs.Served.{IsServedCell, IsServedImage}
use Rattle.cert_maker.specs.Cert.{Cert}
use Rattle.cert_checker.specs.Chain.{Fits}
use Rattle.device_course.specs.Fitting.{FitsCell, FitsImage}
use Rattle.device_course.proofs.FitsLaws.{fits_emptied}
use Rattle.folder_platform.specs.Files.{Files}
use Rattle.folder_platform.specs.Told.{cell_with}
use Rattle.folder_platform.specs.Loss.{AreLeft, opened}
use Rattle.folder_restart.proofs.StandingLaws.{stands_by_opened}

-- ---- its pages are the first ones of those that were handed over

pub handed_many : (image : Image) (left : Files) → AreLeft image left → length left.handed ≡ length left.pages
handed_many image left are = ap (λ (pages : List (List ℕ)). length pages) are.handed ∙ length-take-le (length left.pages) image.recorded are.pages

pub handed_first : (image : Image) (left : Files) → AreLeft image left → AreFirst left.handed image.recorded
handed_first image left are = ap (λ (k : ℕ). take k image.recorded) (handed_many image left are) ∙ sym are.handed

own_front : (keys front longer : List (List ℕ)) → AreFirst front longer → HaveOwnKeys keys longer → HaveOwnKeys keys front
own_front keys front longer first own =
    let many : length front ≤ length longer = omega (arith, length-take (length front) longer, ap (λ (pages : List (List ℕ)). length pages) first) in
    record {
      position = own.position;
      sealed = λ addr page there. own.sealed addr page (front_reads front longer addr page first there);
      apart = λ one other below below' same. own.apart one other (omega (arith, below, many)) (omega (arith, below', many)) same;
    }

-- ---- it keeps the keys

pub kept_opened : (keys : List (List ℕ)) (image : Image) (left : Files) (device : Option Device) → AreLeft image left → Stands image device → Kept keys image → Kept keys (opened left)
kept_opened keys image left None are stands kept = record {
  pages = own_front keys left.handed image.recorded (handed_first image left are) kept.pages;
  cell = λ root is. absurd (none-some (root_bytes root) (sym (are.cell ∙ stands) ∙ is.cell));
}
kept_opened keys image left (Some device) are (root, parts, stands) kept =
    let knows = kept.cell root (root_of_stands image device root parts stands) in
    kept_stands keys (opened left) device root parts (own_front keys left.handed image.recorded (handed_first image left are) kept.pages) (stands_by_opened image left device root parts are stands) knows.own (knows.places parts stands.tree)

-- ---- it can be served

served_cell : (cell : Option (List ℕ)) (pages : ℕ) (root : Root) (device : Device) (parts : Parts) (image : Image) → StandsBy image device root parts → image.cell ≡ cell → image.synced ≤ pages → IsServedCell cell pages
served_cell cell pages root device parts image stands same many =
    subst (λ (held : Option (List ℕ)). IsServedCell held pages) (sym stands.cell ∙ same) (root, record { in_range = stands.in_range; key = stands.key; within = omega (arith, stands.head, many) }, refl)

pub served_opened : (image : Image) (left : Files) (device : Option Device) → AreLeft image left → Stands image device → IsServedImage (opened left)
served_opened image left None are stands = subst (λ (held : Option (List ℕ)). IsServedCell held (length left.handed)) (sym (are.cell ∙ stands)) tt
served_opened image left (Some device) are (root, parts, stands) =
    served_cell (cell_with left.root) (length left.handed) root device parts (opened left) (stands_by_opened image left device root parts are stands) refl (omega (arith, handed_many image left are))

-- ---- its ledger

cell_fits : (image : Image) (device : Device) (root : Root) (parts : Parts) (certs : List Cert) → StandsBy image device root parts → FitsCell certs image → Fits certs root parts.places
cell_fits image device root parts certs stands c =
    let roots : c.root ≡ root = one_root_in image image c.root root refl c.is (root_of_stands image device root parts stands) in
    let tree : Tree image.readable root c.parts = subst (λ (r : Root). Tree image.readable r c.parts) roots c.tree in
    let all : c.parts ≡ parts = one_tree image.readable root c.parts parts stands.in_range tree stands.tree in
    subst (λ (p : Parts). Fits certs root p.places) all (subst (λ (r : Root). Fits certs r c.parts.places) roots c.fits)

pub fits_opened : (text : List ℕ) (image : Image) (left : Files) (device : Option Device) → AreLeft image left → Stands image device → FitsImage text image → FitsImage text (opened left)
fits_opened text image left None are stands f = fits_emptied text image (opened left) (are.cell ∙ stands) f
fits_opened text image left (Some device) are (root, parts, stands) f =
    let there = stands_by_opened image left device root parts are stands in
    record {
      certs = f.certs;
      ledger = f.ledger;
      fits = elim f.fits [
        | inl none ↦ inl (are.cell ∙ none)
        | inr c ↦ inr (record { root = root; is = root_of_stands (opened left) device root parts there; parts = parts; tree = there.tree; fits = cell_fits image device root parts f.certs stands c })
      ];
    }

-- ---- its floor

low_least : (cell held : Option (List ℕ)) (many few : ℕ) → held ≡ cell → min (option_map_or head_in cell many) few ≤ option_map_or head_in held few
low_least None None many few same = omega arith
low_least None (Some held) many few same = absurd (cc)
low_least (Some bytes) None many few same = absurd (cc)
low_least (Some bytes) (Some held) many few same = let is : held ≡ bytes = cc in omega (arith, ap head_in is)

pub low_opened : (image : Image) (left : Files) → AreLeft image left → min (low_of image) (length left.handed) ≤ low_of (opened left)
low_opened image left are = low_least image.cell (cell_with left.root) (length image.recorded) (length left.handed) are.cell
