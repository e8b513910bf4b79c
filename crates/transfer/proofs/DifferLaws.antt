-- When two devices differ, on any images.
use Rattle.std.proofs.Common.{◌≡◌, ℕ, List, false, inl, inr, subst}
use Rattle.std.specs.Prelude.{◌≢◌, ◌⊎◌, Contains}
use Rattle.platform.specs.Image.{Image}
use Rattle.device_session.specs.Open.{IsOpen, is_touched}
use Rattle.device_session.specs.Reading.{FindsContent}
use Rattle.device_session.specs.Sessions.{Session}
use Rattle.device_session.proofs.ChangedLaws.{from_root}
use Rattle.transfer.specs.Refusals.{Differ, IsUnlike, LooksUp}
use Rattle.transfer.specs.Whole.{HasTwo, SeesOther}
use Rattle.transfer.proofs.WholeLaws.{bare_of}

-- what a look-up in the tree of a session without a change comes to
look_up : (image : Image) (session : Session) (pages block : ℕ) (content : List ℕ) → IsOpen session pages → is_touched session ≡ false → FindsContent image.readable session.grove block content → LooksUp image session.root block content
look_up image session pages block content is_open untouched f =
    let way = from_root image.readable session.root session.grove block f.found (bare_of session pages is_open untouched) f.finds in
    record { found = f.found; path = way.0; finds = way.1; reads = f.reads }

-- two devices that were compared, and have other blocks or another content of one
pub differ_of : (from_tells to_tells : Type 0) (from to later : Image) (source target : Session) (pages to_pages : ℕ) → IsOpen source pages → is_touched source ≡ false → IsOpen target to_pages → is_touched target ≡ false → later ≡ to → from_tells → to_tells
    → SeesOther from_tells to_tells from later source target → Differ from to source.root target.root
differ_of from_tells to_tells from to later source target pages to_pages is_open untouched there_open there_untouched same from_told to_told sees = subst (λ (i : Image). Differ from i source.root target.root) same (record {
  blocks = sees.blocks;
  blocks_there = sees.sees.others;
  listed = sees.listed from_told;
  listed_there = sees.sees.listed to_told;
  apart = by (sees.sees.unlike (λ never. absurd cc));
})
  where
    by : (sees.sees.others ≢ sees.blocks) ⊎ ((block : ℕ) × Contains sees.blocks block × HasTwo from_tells to_tells from later source target block) → (sees.sees.others ≢ sees.blocks) ⊎ IsUnlike from later source.root target.root sees.blocks
    by (inl others) = inl others
    by (inr two) = inr (record {
      block = two.0;
      among = two.1;
      content = two.2.content;
      content_there = two.2.other;
      here = look_up from source pages two.0 two.2.content is_open untouched (two.2.here from_told);
      there = look_up later target to_pages two.0 two.2.other there_open there_untouched (two.2.there to_told);
      differ = two.2.differ;
    })
