use Rattle.std.proofs.Common.{◌≡◌, ℕ, List, ap, ◌∙◌}
use Rattle.std.specs.Array.{AllZipBelow}
use Rattle.std.specs.Ordering.{nat_cmp}
use Rattle.std.specs.FinMap as map
use Rattle.std.proofs.lemmas.List.Elements.{same_from_all_zip}
use Rattle.std.proofs.lemmas.Map.Entries.{entries_from_clone}
use Rattle.script_lang.proofs.devices.Contents.duplicate.Goals as goal

pub returns : goal.returns
returns c =
    ap (λ (es : List (ℕ × List ℕ)). map.from_entries {R = nat_cmp} es)
    (entries_from_clone (λ (a b : ℕ). b ≡ a) (λ (v w : List ℕ). AllZipBelow (λ (a b : ℕ). b ≡ a) v w 4096) (λ x y e. e)
    (λ v w h. same_from_all_zip (λ (a b : ℕ). b ≡ a) v w h.whole (λ x y e. e)) c.self.inside.blocks.entries c.in_ok-blocks.blocks.entries c.in_ok-blocks.ensures.cases)
    ∙ c.self.view_is
