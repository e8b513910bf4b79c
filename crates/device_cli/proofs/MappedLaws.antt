-- How many data records a seizure counts of an image that stands: as many as the device has mapped blocks, under the premises on keys.
use Rattle.std.proofs.Common.{◌≡◌, ℕ, List, [], ◌∷◌, ◌++◌, Option, None, Some, length, sym, ◌∙◌, subst, arith}
use Rattle.std.proofs.lemmas.List.{append-nil}
use Rattle.platform.specs.Image.{Image}
use Rattle.platform.specs.History.{History, image_at}
use Rattle.platform.proofs.Moments.{earlier-now}
use Rattle.root_codec.specs.declared.root.Root.{Root}
use Rattle.root_codec.specs.Laws.{one_root}
use Rattle.sdbt_base.specs.Arrays.{Device}
use Rattle.sdbt_base.specs.Keys.{bare}
use Rattle.key_graph.specs.Chains.{Link, link, ChainEnds, KeyPremises}
use Rattle.key_graph.proofs.SeizureLaws.{chains_found}
use Rattle.page_store.specs.Kept.{Kept}
use Rattle.page_store.proofs.DisclosingLaws.{first_premises}
use Rattle.seizure.specs.Opened.{count_of_kind}
use Rattle.seizure.specs.Report.{Seized, IsSeizure, Holds, roots_of}
use Rattle.page_store.proofs.AscendLaws.{mapped_len}
use Rattle.seizure.proofs.CountLaws.{counted}
use Rattle.seizure.proofs.MappedLaws.{mapped_counted}
use Rattle.device_cli.specs.Represents.{StandsFor}
use Rattle.device_course.specs.Reaching.{DisclosesTree}
use Rattle.device_cli.specs.Seen.{IsCounted, mapped_of, SeizesMaps}

same_some : {A : Type 0} (x y : A) → Some x ≡ Some y → x ≡ y
same_some x y same = cc

no_some : {A : Type 0} (x : A) → None ≡ Some x → ⊥
no_some x same = cc

-- ---- without a root record nothing is reached

nothing_ends : (pages : List (List ℕ)) (at : Link) → ChainEnds [] pages at → ⊥
nothing_ends pages at ends =
    let has = chains_found [] pages [] at (λ next has opens. absurd (omega (arith, has.1))) (λ one next has yields opens. absurd (omega (arith, has.1))) ends in omega (arith, has.1)

nothing_counted : (pages : List (List ℕ)) (seized : Seized) → IsSeizure [] pages seized → count_of_kind 1 seized.opened ≡ 0
nothing_counted pages seized is =
    counted [] pages seized 1 [] is (λ i j d below inside. absurd (omega (arith, inside)))
    (λ addr. (λ has. absurd (omega (arith, has.1)), λ there. absurd (nothing_ends pages (link addr there.1.key) there.1.ends)))
    (λ addr one other a b. absurd (nothing_ends pages (link addr a.key) a.ends))

-- ---- what a seizure counts

pub counted_map : (keys : List (List ℕ)) (image : Image) (device : Option Device) (pages nodes blocks : ℕ) → StandsFor image device → Kept keys image
    → KeyPremises keys image.recorded → image.readable ≡ image.recorded → IsCounted image pages nodes blocks → blocks ≡ mapped_of device
counted_map keys image device pages nodes blocks stands kept premises same is =
    is.blocks_are ∙ cases device is.begins.0 stands is.begins.1 (subst (λ (rs : List (List ℕ)). IsSeizure rs image.readable is.seized) is.begins.2 is.exact)
  where
    cases : (there : Option Device) (root : Option Root) → StandsFor image there → Holds (length image.recorded) image.cell root
        → IsSeizure (roots_of [] root) image.readable is.seized → count_of_kind 1 is.seized.opened ≡ mapped_of there
    cases None None s holds exact = nothing_counted image.readable is.seized exact
    cases None (Some root) s holds exact = absurd (no_some _ (sym s ∙ holds.1))
    cases (Some d) None (root, parts, s) holds exact = absurd (no_some _ (sym holds ∙ s.cell))
    cases (Some d) (Some other) (root, parts, s) holds exact =
        let roots : root ≡ other = one_root root other s.in_range holds.0.in_range (same_some _ _ (sym s.cell ∙ holds.1)) in
        let of_root : IsSeizure (bare root.key ∷ []) image.readable is.seized = subst (λ (r : Root). IsSeizure (bare r.key ∷ []) image.readable is.seized) (sym roots) exact in
        mapped_counted keys image d root parts is.seized s kept premises same of_root ∙ mapped_len image d root parts s

-- ---- the moments of a run

pub seizes_maps : (tells : Type 0) (drawn drawn_now : Option (List (List ℕ))) (old new : History) → DisclosesTree tells drawn drawn_now old new
    → SeizesMaps tells drawn drawn_now old new
seizes_maps tells drawn drawn_now old new d = record {
  grew = d.grew;
  drew = d.drew;
  only = λ told device stands served keys kept premises i from to there stood same pages nodes blocks is.
      let all : List (List ℕ) = keys ++ d.grew in
      let image = image_at new i in
      let by = d.only told device stands served keys kept in
      let over : KeyPremises (all ++ []) new.present.recorded = subst (λ (ks : List (List ℕ)). KeyPremises ks new.present.recorded) (sym (append-nil all)) premises in
      counted_map all image there pages nodes blocks stood (by.kept.each i from to)
      (first_premises all [] image.recorded new.present.recorded (earlier-now new i to).recorded over) same is;
}
