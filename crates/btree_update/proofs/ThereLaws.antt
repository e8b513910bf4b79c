-- Where a node was read for a place, it is there, and is wanted there.
use Rattle.std.proofs.Common.{◌≡◌, ℕ, zero, suc, ◌/◌, ◌<◌, ◌≤◌, List, [], ◌∷◌, ◌++◌, length, refl, sym, subst, ◌∙◌, arith}
use Rattle.std.specs.Prelude.{IfSome, slice_get}
use Rattle.std.specs.List.{AllByRecursion}
use Rattle.std.proofs.lemmas.Bool.{eq-eqb, ne_eqb}
use Rattle.std.proofs.lemmas.List.{length-map}
use Rattle.std.proofs.lemmas.List.Elements.{All-from_recursion}
use Rattle.node_codec.specs.declared.body.Entry.{Entry}
use Rattle.page_store.specs.Places.{IsNodeWanted}
use Rattle.btree_twigs.specs.declared.twigs.Child.{Child, Child-F, out-Child}
use Rattle.btree_twigs.specs.declared.twigs.Child.TheOpen.{Kept, Grown}
use Rattle.btree_twigs.specs.declared.twigs.Twig.{Twig}
use Rattle.btree_twigs.specs.Stubs.{Stub, start_by, low_of, stubs, stubs_in, stubs_below}
use Rattle.btree_twigs.specs.Shape.{EachBy, Begins, IsChild, IsTwig}
use Rattle.btree_twigs.specs.Updates.{IsNode}
use Rattle.btree_twigs.specs.Top.{IsTop, IsTopBy, top_least}
use Rattle.btree_twigs.proofs.Children.{low_of_kept, begins_le}
use Rattle.btree_twigs.proofs.ListLaws.{each_le}
use Rattle.btree_update.specs.GroveTree.{want_of, want_at, least_at, want_in}
use Rattle.btree_update.specs.Reading.{kept_of, all_kept}
use Rattle.btree_update.specs.Held.{stub_at, IsReadAs}
use Rattle.btree_update.specs.Opens.{Opens, Same, Here, Within, Then, IsThere, Fitting, GivesWay, GivesBelow}
use Rattle.btree_update.proofs.RowLaws.{all_front, all_back, all_append, all_weaker}
use Rattle.btree_update.proofs.FoundLaws.{up_twig}

-- ---- the shape of a node tells that it is wanted

lows_from : (order level low high : ℕ) (es : List Entry) → EachBy low_of (IsChild order level) high (all_kept es) → low ≤ start_by low_of (all_kept es) high → AllByRecursion (λ (e : Entry). low ≤ e.low) es
lows_from order level low high [] h le = tt
lows_from order level low high (e ∷ es) h le =
    (omega (arith, le, low_of_kept e.low e.addr e.key), lows_from order level low high es h.2 (omega (arith, h.0, le)))

lows_below : (order level high : ℕ) (es : List Entry) → EachBy low_of (IsChild order level) high (all_kept es) → AllByRecursion (λ (e : Entry). e.low < high) es
lows_below order level high [] h = tt
lows_below order level high (e ∷ es) h =
    (omega (arith, h.0, low_of_kept e.low e.addr e.key, each_le low_of (IsChild order level) high (all_kept es) h.2), lows_below order level high es h.2)

first_low : (level low high : ℕ) (es : List Entry) → Begins level low (start_by low_of (all_kept es) high) → 2 ≤ suc level → IfSome (slice_get es 0) (λ (e : Entry). e.low ≡ low)
first_low zero low high es h two = absurd (omega (arith, two))
first_low (suc level) low high [] h two = tt
first_low (suc level) low high (e ∷ es) h two = sym (low_of_kept e.low e.addr e.key) ∙ h

entries_wanted : (order level least low high addr : ℕ) (es : List Entry) → IsNode order level least order low high (all_kept es) → IsNodeWanted (want_at order (suc level) low high addr least) (suc level) es
entries_wanted order level least low high addr es h =
    let n : length (all_kept es) ≡ length es = length-map es kept_of in
    record {
      same_level = refl;
      least = omega (arith, n, h.enough);
      most = omega (arith, n, h.within);
      from_low = All-from_recursion (λ (e : Entry). low ≤ e.low) es (lows_from order level low high es h.each (begins_le level low _ h.begins));
      below_high = All-from_recursion (λ (e : Entry). e.low < high) es (lows_below order level high es h.each);
      first = first_low level low high es h.begins;
    }

-- the node that was read for a place is there
pub twig_there : (pages : List (List ℕ)) (order level least low high addr : ℕ) (key : List ℕ) (twig : Twig) → IsReadAs pages order level (stub_at (suc level) low high addr key) twig → IsTwig order level least order low high twig →
    IsThere pages (want_at order (suc level) low high addr least) key
twig_there pages order level least low high addr key twig r shaped =
    record { entries = r.entries; fits = (r.here, entries_wanted order level least low high addr r.entries (subst (IsNode order level least order low high) r.children shaped.node)) }

-- ---- the least number of children

pub least_root : (order below : ℕ) → least_at order (suc below) (suc below) ≡ top_least below
least_root order zero = refl
least_root order (suc below) = rw (eq-eqb (suc (suc below)) (suc (suc below)) refl, ne_eqb (suc (suc below)) 1 (λ e. absurd (omega (arith, e)))) refl

pub least_below : (order top level : ℕ) → level < top → least_at order top level ≡ order / 2
least_below order top level less = rw (ne_eqb level top (λ e. absurd (omega (arith, less, e)))) refl

-- ---- below the root

module _ (most : ℕ) where
  abbrev IsUpTo : Stub → Type 0
  IsUpTo s = s.level ≤ most

  -- what is opened below places of a level, and what is there then, is of that level at most
  pub opens_up : (pages : List (List ℕ)) (order : ℕ) (places old new : List Stub) → Opens pages order places old new → AllByRecursion IsUpTo old → AllByRecursion IsUpTo places × AllByRecursion IsUpTo new
  opens_up pages order places old new Same h = (tt, h)
  opens_up pages order places old new (Here {below = below} {low = low} {high = high} {addr = addr} {key = key} {twig = twig} r) h =
      ((h.0, tt), all_weaker (λ (s : Stub). s.level ≤ below) IsUpTo (λ s le. omega (arith, le, h.0)) (stubs_below below high twig) (up_twig below high twig))
  opens_up pages order places old new (Within {places = some} {old = xs} {new = ys} fs bs o) h =
      let rest = all_back IsUpTo fs (xs ++ bs) h in
      let one = opens_up pages order some xs ys o (all_front IsUpTo xs bs rest) in
      (one.0, all_append IsUpTo fs (ys ++ bs) (all_front IsUpTo fs (xs ++ bs) h) (all_append IsUpTo ys bs one.1 (all_back IsUpTo xs bs rest)))
  opens_up pages order places old new (Then {first = first} {second = second} {old = xs} {mid = mid} {new = ys} o p) h =
      let one = opens_up pages order first xs mid o h in
      let two = opens_up pages order second mid ys p one.1 in
      (all_append IsUpTo first second one.0 two.0, two.1)

all_fits : (pages : List (List ℕ)) (order top most : ℕ) (May : Stub → Type 0) (places : List Stub) → most < top → AllByRecursion (λ s. s.level ≤ most) places → AllByRecursion (Fitting pages (want_of order) May) places →
    AllByRecursion (Fitting pages (want_in order top) May) places
all_fits pages order top most May [] less up h = tt
all_fits pages order top most May (s ∷ ss) less up h = (
  (h.0.0, subst (λ n. IsThere pages (want_at order s.level s.low s.high s.addr n) s.key) (sym (least_below order top s.level (omega (arith, less, up.0)))) h.0.1),
  all_fits pages order top most May ss less up.1 h.1,
)

way_fits : (pages : List (List ℕ)) (order top most : ℕ) (May : Stub → Type 0) (old new : List Stub) (gone more : List ℕ) → most < top → AllByRecursion (λ s. s.level ≤ most) old → GivesWay pages order (Fitting pages (want_of order) May) old new gone more →
    GivesWay pages order (Fitting pages (want_in order top) May) old new gone more
way_fits pages order top most May old new gone more less up g = record {
  places = g.places;
  opens = g.opens;
  may = all_fits pages order top most May g.places less (opens_up most pages order g.places old new g.opens up).0 g.may;
  more_is = g.more_is;
}

-- what gives way below a node is below the root
pub fits_below : (pages : List (List ℕ)) (order top : ℕ) (May : Stub → Type 0) (level high : ℕ) (old new : Twig) (gone more : List ℕ) → level < top → GivesBelow pages order (Fitting pages (want_of order) May) level high old new gone more →
    GivesBelow pages order (Fitting pages (want_in order top) May) level high old new gone more
fits_below pages order top May level high old new gone more less g =
    record { places = way_fits pages order top level May (stubs_below level high old) (stubs_below level high new) gone more less (up_twig level high old) g.places; rows = g.rows }

-- so is what gives way below a root in memory
top_up : (order below high : ℕ) (top : Child) → IsTop order below high top → AllByRecursion (λ s. s.level ≤ below) (stubs (suc below) high top)
unfolding stubs
top_up order below high top shaped = here (out-Child top) shaped
  where
    here : (x : Child-F Child Twig) → IsTopBy order below high x → AllByRecursion (λ s. s.level ≤ below) (stubs_in (stubs below) (suc below) high x)
    here (Kept low addr key) h = absurd h
    here (Grown low twig) h = up_twig below high twig

pub fits_top : (pages : List (List ℕ)) (order below level high : ℕ) (May : Stub → Type 0) (top : Child) (new : List Stub) (gone more : List ℕ) → level ≡ suc below → IsTop order below high top →
    GivesWay pages order (Fitting pages (want_of order) May) (stubs level high top) new gone more → GivesWay pages order (Fitting pages (want_in order level) May) (stubs level high top) new gone more
fits_top pages order below level high May top new gone more is shaped g =
    way_fits pages order level below May (stubs level high top) new gone more (omega (arith, is)) (subst (λ n. AllByRecursion (λ s. s.level ≤ below) (stubs n high top)) (sym is) (top_up order below high top shaped)) g
