-- What an update of a session leaves of each look-up.
use Rattle.std.proofs.Common.{ℕ, zero, suc, ◌<◌, List, [], ◌∷◌, Option, None, Some, sym, subst, inl, inr, arith}
use Rattle.std.specs.Prelude.{IfSome}
use Rattle.std.proofs.lemmas.List.Elements.{All-contains}
use Rattle.node_codec.specs.declared.body.Entry.{Entry}
use Rattle.node_codec.specs.Record.{Record}
use Rattle.page_store.specs.declared.wants.Want.{Want}
use Rattle.page_store.specs.Places.{FitsAt, block_want, child_want}
use Rattle.page_store.proofs.RecordLaws.{record_kept}
use Rattle.btree_walk.specs.Finds.{Finds}
use Rattle.btree_walk.proofs.WayLaws.{way_entry}
use Rattle.btree_twigs.specs.Stubs.{Stub}
use Rattle.btree_update.specs.declared.groves.Grove.{Grove}
use Rattle.btree_update.specs.Held.{Bound, AreBelow}
use Rattle.btree_update.specs.Groves.{IsSound, KeepsTree, places_of}
use Rattle.btree_update.specs.Finding.{GroveFinds}
use Rattle.btree_update.proofs.FrameLaws.{FindsIn, root_in}
use Rattle.btree_update.proofs.KeepLaws.{FindsSame, kept_same}
use Rattle.device_session.specs.Sessions.{Session}
use Rattle.device_session.specs.Reading.{ReadsAs, FindsContent, KeepsBlock}
use Rattle.device_session.proofs.PageLaws.{AreAlike}

-- ---- over pages that are alike below all of the tree's

fits_alike : (n : ℕ) (pages others : List (List ℕ)) (want : Want) (key : List ℕ) (value : Record) → AreAlike n pages others → want.addr < n → FitsAt pages want key value → FitsAt others want key value
fits_alike n pages others want key value alike less f = (record_kept pages others want.addr key value (alike want.addr less) f.0, f.1)

finds_alike : (n : ℕ) (pages others : List (List ℕ)) (order block level : ℕ) (want : Want) (key path : List ℕ) (found : Option Entry) → AreAlike n pages others → want.addr < n → Finds (FitsAt pages) order block found level want key path → Finds (FitsAt others) order block found level want key path
unfolding Finds
finds_alike n pages others order block zero want key path found alike less f = record { entries = f.entries; fits = fits_alike n pages others want key _ alike less f.fits; is = f.is; path_is = f.path_is }
finds_alike n pages others order block (suc level) want key path found alike less f =
    let lower = way_entry (λ (e : Entry). e.addr < want.addr) f.entries want.high block f.bound f.entry f.fits.0.in_range.0.below f.way in
    record {
      entries = f.entries;
      fits = fits_alike n pages others want key _ alike less f.fits;
      entry = f.entry;
      bound = f.bound;
      way = f.way;
      rest = f.rest;
      goes = finds_alike n pages others order block level (child_want order (suc level) f.entry f.bound) f.entry.key f.rest found alike (omega (arith, lower, less)) f.goes;
      path_is = f.path_is;
    }

-- what is found has a lower address than the place from where it is looked for
finds_lower : (n : ℕ) (pages : List (List ℕ)) (order block level : ℕ) (want : Want) (key path : List ℕ) (found : Option Entry) → want.addr < n → Finds (FitsAt pages) order block found level want key path → IfSome found (λ (e : Entry). e.addr < n)
unfolding Finds
finds_lower n pages order block zero want key path None less f = tt
finds_lower n pages order block zero want key path (Some e) less f =
    let lower = All-contains (λ (e : Entry). e.addr < want.addr) f.entries e f.fits.0.in_range.0.below f.is.0 in omega (arith, lower, less)
finds_lower n pages order block (suc level) want key path found less f =
    let lower = way_entry (λ (e : Entry). e.addr < want.addr) f.entries want.high block f.bound f.entry f.fits.0.in_range.0.below f.way in
    finds_lower n pages order block level (child_want order (suc level) f.entry f.bound) f.entry.key f.rest found (omega (arith, lower, less)) f.goes

module _ (most : Bound) (pages : List (List ℕ)) (order top block : ℕ) where
  in_alike : (others : List (List ℕ)) (ss : List Stub) (found : Option Entry) → AreAlike most.head pages others → AreBelow most ss → FindsIn pages order top block ss found → FindsIn others order top block ss found
  in_alike others [] found alike below f = f
  in_alike others (s ∷ ss) found alike below (inl (has, inl here)) = inl (has, inl here)
  in_alike others (s ∷ ss) found alike below (inl (has, inr (one, f))) = inl (has, inr (one, (f.0, finds_alike most.head pages others order block _ _ s.key f.0 found alike below.0.0 f.1)))
  in_alike others (s ∷ ss) found alike below (inr (apart, f)) = inr (apart, in_alike others ss found alike below.1 f)

  in_lower : (ss : List Stub) (found : Option Entry) → AreBelow most ss → FindsIn pages order top block ss found → IfSome found (λ (e : Entry). e.addr < most.head)
  in_lower [] found below f = subst (λ (o : Option Entry). IfSome o (λ (e : Entry). e.addr < most.head)) (sym f) tt
  in_lower (s ∷ ss) found below (inl (has, inl (zero_is, is))) = subst (λ (o : Option Entry). IfSome o (λ (e : Entry). e.addr < most.head)) (sym is) below.0.0
  in_lower (s ∷ ss) found below (inl (has, inr (one, f))) = finds_lower most.head pages order block _ _ s.key f.0 found below.0.0 f.1
  in_lower (s ∷ ss) found below (inr (apart, f)) = in_lower ss found below.1 f

-- a tree whose places are all below an address
module _ (most : Bound) (pages others : List (List ℕ)) (grove : Grove) (block : ℕ) (sound : IsSound grove) (to : block < grove.blocks) (below : AreBelow most (places_of grove)) (alike : AreAlike most.head pages others) where
  grove_alike : (found : Option Entry) → GroveFinds pages block grove found → GroveFinds others block grove found
  grove_alike found f =
      (root_in others grove.order block grove.level grove.blocks grove.top found sound.one sound.shaped to).1
      (in_alike most pages grove.order grove.level block others (places_of grove) found alike below ((root_in pages grove.order block grove.level grove.blocks grove.top found sound.one sound.shaped to).0 f))

  content_alike : (content : List ℕ) → FindsContent pages grove block content → FindsContent others grove block content
  content_alike content f =
      let lower = in_lower most pages grove.order grove.level block (places_of grove) f.found below ((root_in pages grove.order block grove.level grove.blocks grove.top f.found sound.one sound.shaped to).0 f.finds) in
      record { found = f.found; finds = grove_alike f.found f.finds; reads = reads f.found lower f.reads }
    where
      reads : (found : Option Entry) → IfSome found (λ (e : Entry). e.addr < most.head) → ReadsAs pages block found content → ReadsAs others block found content
      reads None lower r = r
      reads (Some e) lower r = fits_alike most.head pages others (block_want e.addr block) e.key _ alike lower r

-- ---- a session's block

-- with the same tree over such pages
pub alike_keeps : (most : Bound) (pages others : List (List ℕ)) (session : Session) (block : ℕ) → IsSound session.grove → block < session.grove.blocks → AreBelow most (places_of session.grove) → AreAlike most.head pages others → KeepsBlock pages others session session block
alike_keeps most pages others session block sound to below alike =
    let back : AreAlike most.head others pages = λ addr less. sym (alike addr less) in
    record {
      entry = λ found. (grove_alike most pages others session.grove block sound to below alike found, grove_alike most others pages session.grove block sound to below back found);
      content = λ content. (content_alike most pages others session.grove block sound to below alike content, content_alike most others pages session.grove block sound to below back content);
    }

-- with another tree in which the same is found over these pages
pub same_keeps : (pages : List (List ℕ)) (session now : Session) (block : ℕ) → FindsSame pages session.grove now.grove block → KeepsBlock pages pages session now block
same_keeps pages session now block same = record {
  entry = same;
  content = λ content. (
    λ f. record { found = f.found; finds = (same f.found).0 f.finds; reads = f.reads },
    λ f. record { found = f.found; finds = (same f.found).1 f.finds; reads = f.reads },
  );
}

pub kept_keeps : (pages : List (List ℕ)) (session now : Session) (block : ℕ) → KeepsTree session.grove now.grove → KeepsBlock pages pages session now block
kept_keeps pages session now block kept = same_keeps pages session now block (kept_same pages session.grove now.grove block kept)

-- one after another
pub block_then : (pages mid after : List (List ℕ)) (session between now : Session) (block : ℕ) → KeepsBlock pages mid session between block → KeepsBlock mid after between now block → KeepsBlock pages after session now block
block_then pages mid after session between now block one two = record {
  entry = λ found. (λ f. (two.entry found).0 ((one.entry found).0 f), λ f. (one.entry found).1 ((two.entry found).1 f));
  content = λ content. (λ f. (two.content content).0 ((one.content content).0 f), λ f. (one.content content).1 ((two.content content).1 f));
}

pub still_keeps : (pages : List (List ℕ)) (session : Session) (block : ℕ) → KeepsBlock pages pages session session block
still_keeps pages session block = same_keeps pages session session block (λ found. (λ f. f, λ f. f))
