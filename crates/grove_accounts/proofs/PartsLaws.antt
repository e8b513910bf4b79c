-- What stands below the places of a tree, as they are opened.
use Rattle.std.proofs.Common.{◌≡◌, ℕ, zero, suc, ◌<◌, ◌≤◌, List, [], ◌∷◌, ◌++◌, All, map, refl, sym, ap, subst, ◌∙◌, arith, append_assoc, append-nil}
use Rattle.std.specs.List.{AllByRecursion}
use Rattle.std.specs.List.Sorted.{IsPermutation}
use Rattle.std.proofs.lemmas.List.{map-append}
use Rattle.std.proofs.lemmas.List.Elements.{All-nil, All-cons, All-append}
use Rattle.std.proofs.lemmas.List.Sorted.{IsPermutation-refl}
use Rattle.sdbt_base.specs.Traces.{NodeOver}
use Rattle.node_codec.specs.declared.body.Entry.{Entry}
use Rattle.node_codec.specs.Record.{NodeRecord}
use Rattle.page_store.specs.Tree.{Parts, Place, Subtree, EachChild, joined}
use Rattle.page_store.proofs.RecordLaws.{one_record}
use Rattle.btree_twigs.specs.declared.twigs.Twig.{Twig}
use Rattle.btree_twigs.specs.Stubs.{Stub, stubs_below}
use Rattle.btree_update.specs.GroveTree.{HasEach, want_at, stubs_at}
use Rattle.btree_update.specs.Held.{stub_at, IsReadAs}
use Rattle.btree_update.specs.Opens.{Opens, Same, Here, Within, Then}
use Rattle.btree_update.proofs.Places.{entries_have}
use Rattle.btree_update.proofs.Readings.{read_same}
use Rattle.btree_update.proofs.ThereLaws.{least_below}
use Rattle.grove_accounts.specs.Below.{HaveParts}
use Rattle.grove_accounts.proofs.ListLaws.{same_order, out_of, out_twice, each_left, each_right, each_append}

-- ---- neighbours

pub joined_places : (ps qs : List Parts) → (joined (ps ++ qs)).places ≡ (joined ps).places ++ (joined qs).places
joined_places [] qs = refl
joined_places (p ∷ ps) qs = ap (λ xs. p.places ++ xs) (joined_places ps qs) ∙ sym (append_assoc p.places (joined ps).places (joined qs).places)

pub joined_mapped : (ps qs : List Parts) → (joined (ps ++ qs)).mapped ≡ (joined ps).mapped ++ (joined qs).mapped
joined_mapped [] qs = refl
joined_mapped (p ∷ ps) qs = ap (λ xs. p.mapped ++ xs) (joined_mapped ps qs) ∙ sym (append_assoc p.mapped (joined ps).mapped (joined qs).mapped)

pub places_between : (fs xs bs : List Parts) → (joined (fs ++ (xs ++ bs))).places ≡ (joined fs).places ++ ((joined xs).places ++ (joined bs).places)
places_between fs xs bs = joined_places fs (xs ++ bs) ∙ ap (λ ps. (joined fs).places ++ ps) (joined_places xs bs)

pub mapped_between : (fs xs bs : List Parts) → (joined (fs ++ (xs ++ bs))).mapped ≡ (joined fs).mapped ++ ((joined xs).mapped ++ (joined bs).mapped)
mapped_between fs xs bs = joined_mapped fs (xs ++ bs) ∙ ap (λ ps. (joined fs).mapped ++ ps) (joined_mapped xs bs)

-- what is below two lists of places
pub record HaveBoth (pages : List (List ℕ)) (order top : ℕ) (xs ys : List Stub) (ps : List Parts) : Type 0 where
  pub left : List Parts
  pub right : List Parts
  pub is : ps ≡ left ++ right
  pub on_left : HaveParts pages order top xs left
  pub on_right : HaveParts pages order top ys right

pub parts_split : (pages : List (List ℕ)) (order top : ℕ) (xs ys : List Stub) (ps : List Parts) → HaveParts pages order top (xs ++ ys) ps → HaveBoth pages order top xs ys ps
parts_split pages order top [] ys ps h = record { left = []; right = ps; is = refl; on_left = tt; on_right = h }
parts_split pages order top (x ∷ xs) ys [] h = absurd h
parts_split pages order top (x ∷ xs) ys (p ∷ ps) h =
    let rest = parts_split pages order top xs ys ps h.1 in
    record { left = p ∷ rest.left; right = rest.right; is = ap (λ qs. p ∷ qs) rest.is; on_left = (h.0, rest.on_left); on_right = rest.on_right }

pub parts_append : (pages : List (List ℕ)) (order top : ℕ) (xs ys : List Stub) (ps qs : List Parts) → HaveParts pages order top xs ps → HaveParts pages order top ys qs → HaveParts pages order top (xs ++ ys) (ps ++ qs)
parts_append pages order top [] ys [] qs h k = k
parts_append pages order top [] ys (p ∷ ps) qs h k = absurd h
parts_append pages order top (x ∷ xs) ys [] qs h k = absurd h
parts_append pages order top (x ∷ xs) ys (p ∷ ps) qs h k = (h.0, parts_append pages order top xs ys ps qs h.1 k)

-- ---- below the root

-- below places under the root's level stands what is wanted there
pub parts_from : (pages : List (List ℕ)) (order top : ℕ) (ss : List Stub) (ps : List Parts) → AllByRecursion (λ s. s.level < top) ss → HasEach pages order ss ps → HaveParts pages order top ss ps
parts_from pages order top [] [] low h = tt
parts_from pages order top [] (p ∷ ps) low h = absurd h
parts_from pages order top (s ∷ ss) [] low h = absurd h
parts_from pages order top (s ∷ ss) (p ∷ ps) low h =
    (subst (λ n. Subtree pages order s.level (want_at order s.level s.low s.high s.addr n) s.key p) (sym (least_below order top s.level low.0)) h.0, parts_from pages order top ss ps low.1 h.1)

pub parts_each : (pages : List (List ℕ)) (order top : ℕ) (ss : List Stub) (ps : List Parts) → AllByRecursion (λ s. s.level < top) ss → HaveParts pages order top ss ps → HasEach pages order ss ps
parts_each pages order top [] [] low h = tt
parts_each pages order top [] (p ∷ ps) low h = absurd h
parts_each pages order top (s ∷ ss) [] low h = absurd h
parts_each pages order top (s ∷ ss) (p ∷ ps) low h =
    (subst (λ n. Subtree pages order s.level (want_at order s.level s.low s.high s.addr n) s.key p) (least_below order top s.level low.0) h.0, parts_each pages order top ss ps low.1 h.1)

-- ---- opened places

all_at : (Q : Stub → Type 0) (level high : ℕ) (es : List Entry) → ((t : Stub) → t.level ≡ level → Q t) → AllByRecursion Q (stubs_at level high es)
all_at Q zero high [] q = tt
all_at Q (suc level) high [] q = tt
all_at Q zero high (e ∷ es) q = (q _ refl, all_at Q zero high es q)
all_at Q (suc level) high (e ∷ es) q = (q _ refl, all_at Q (suc level) high es q)

-- what holds of places, and of all below them, holds where they were opened
pub opens_all : (Q : Stub → Type 0) → ((s t : Stub) → Q s → t.level < s.level → Q t) → (pages : List (List ℕ)) (order : ℕ) (places old new : List Stub) → Opens pages order places old new → AllByRecursion Q old → AllByRecursion Q new
opens_all Q down pages order places old new Same h = h
opens_all Q down pages order places old new (Here {below = below} {low = low} {high = high} {addr = addr} {key = key} {twig = twig} r) h =
    subst (AllByRecursion Q) (sym (read_same pages order below (stub_at (suc below) low high addr key) twig r))
    (all_at Q below high r.entries (λ t is. down (stub_at (suc below) low high addr key) t h.0 (omega (arith, is))))
opens_all Q down pages order places old new (Within {places = first} {old = xs} {new = ys} fs bs o) h =
    each_append Q fs (ys ++ bs) (each_left Q fs (xs ++ bs) h)
    (each_append Q ys bs (opens_all Q down pages order first xs ys o (each_left Q xs bs (each_right Q fs (xs ++ bs) h))) (each_right Q xs bs (each_right Q fs (xs ++ bs) h)))
opens_all Q down pages order places old new (Then {first = first} {second = second} {old = xs} {mid = mid} {new = ys} o p) h =
    opens_all Q down pages order second mid ys p (opens_all Q down pages order first xs mid o h)

-- a node's place
abbrev pub IsInner : Place → Type 0
IsInner place = (children : List ℕ) × (place.trace ≡ NodeOver children)

-- the places have what they had before they were opened, but for the nodes that gave way
pub record OpensParts (pages : List (List ℕ)) (order top : ℕ) (places new : List Stub) (each : List Parts) : Type 0 where
  pub nodes : List Place
  pub after : List Parts
  pub has : HaveParts pages order top new after
  pub mapped : (joined each).mapped ≡ (joined after).mapped
  pub addrs : map (λ (p : Place). p.addr) nodes ≡ map (λ (s : Stub). s.addr) places
  pub inner : All IsInner nodes
  pub same : IsPermutation (nodes ++ (joined after).places) (joined each).places

opens_none : (pages : List (List ℕ)) (order top : ℕ) (new : List Stub) (each : List Parts) → HaveParts pages order top new each → OpensParts pages order top [] new each
opens_none pages order top new each h = record { nodes = []; after = each; has = h; mapped = refl; addrs = refl; inner = All-nil IsInner; same = IsPermutation-refl (joined each).places }

opens_one : (pages : List (List ℕ)) (order top below : ℕ) (s : Stub) (twig : Twig) (each : List Parts) → s.level ≡ suc below → below < top → IsReadAs pages order below (record s { level = suc below }) twig → HaveParts pages order top (record s { level = suc below } ∷ []) each →
    OpensParts pages order top (record s { level = suc below } ∷ []) (stubs_below below s.high twig) each
unfolding Subtree
opens_one pages order top below s twig [] level less r h = absurd h
opens_one pages order top below s twig (p ∷ q ∷ ps) level less r h = absurd h.1
opens_one pages order top below s twig (p ∷ []) level less r h =
    let is = h.0 in
    let value : NodeRecord (suc below) is.entries ≡ NodeRecord (suc below) r.entries = one_record pages s.addr s.key _ _ r.small is.fits.0 r.here in
    let same : is.entries ≡ r.entries = cc in
    let node : Place = record { addr = s.addr; key = s.key; trace = NodeOver (map (λ (e : Entry). e.addr) is.entries) } in
    let each = subst (λ (xs : List Entry). EachChild (Subtree pages order below) order below s.high xs is.children) same is.each in
    let has = parts_from pages order top (stubs_at below s.high r.entries) is.children (all_at (λ s. s.level < top) below s.high r.entries (λ t e. omega (arith, e, less))) (entries_have pages order below s.high r.entries is.children each) in
    record {
      nodes = node ∷ [];
      after = is.children;
      has = subst (λ ss. HaveParts pages order top ss is.children) (sym (read_same pages order below (record s { level = suc below }) twig r)) has;
      mapped = append-nil p.mapped ∙ ap (λ (q : Parts). q.mapped) is.has;
      addrs = refl;
      inner = All-cons IsInner node [] (map (λ (e : Entry). e.addr) is.entries, refl) (All-nil IsInner);
      same = same_order (node ∷ (joined is.children).places) (p.places ++ []) (sym (append-nil p.places ∙ ap (λ (q : Parts). q.places) is.has));
    }

opens_between : (pages : List (List ℕ)) (order top : ℕ) (places fs bs old new : List Stub) (each : List Parts) → ((ps : List Parts) → HaveParts pages order top old ps → OpensParts pages order top places new ps) →
    HaveParts pages order top (fs ++ (old ++ bs)) each → OpensParts pages order top places (fs ++ (new ++ bs)) each
opens_between pages order top places fs bs old new each one h =
    let a = parts_split pages order top fs (old ++ bs) each h in
    let b = parts_split pages order top old bs a.right a.on_right in
    let o = one b.left b.on_left in
    let whole : each ≡ a.left ++ (b.left ++ b.right) = a.is ∙ ap (λ ps. a.left ++ ps) b.is in
    let Front = (joined a.left).places in
    let Back = (joined b.right).places in
    let before : (joined each).places ≡ Front ++ ((joined b.left).places ++ Back) = ap (λ ps. (joined ps).places) whole ∙ places_between a.left b.left b.right in
    let now = places_between a.left o.after b.right in
    let moved = out_of o.nodes Front (joined o.after).places (joined b.left).places Back o.same in
    record {
      nodes = o.nodes;
      after = a.left ++ (o.after ++ b.right);
      has = parts_append pages order top fs (new ++ bs) a.left (o.after ++ b.right) a.on_left (parts_append pages order top new bs o.after b.right o.has b.on_right);
      mapped = ap (λ ps. (joined ps).mapped) whole ∙ mapped_between a.left b.left b.right ∙ ap (λ ms. (joined a.left).mapped ++ (ms ++ (joined b.right).mapped)) o.mapped ∙ sym (mapped_between a.left o.after b.right);
      addrs = o.addrs;
      inner = o.inner;
      same = subst (λ ps. IsPermutation (o.nodes ++ ps) (joined each).places) (sym now) (subst (IsPermutation (o.nodes ++ (Front ++ ((joined o.after).places ++ Back)))) (sym before) moved);
    }

opens_again : (pages : List (List ℕ)) (order top : ℕ) (first second mid new : List Stub) (each : List Parts) → (o : OpensParts pages order top first mid each) → OpensParts pages order top second new o.after → OpensParts pages order top (first ++ second) new each
opens_again pages order top first second mid new each o p = record {
  nodes = o.nodes ++ p.nodes;
  after = p.after;
  has = p.has;
  mapped = o.mapped ∙ p.mapped;
  addrs = map-append (λ (p : Place). p.addr) o.nodes p.nodes ∙ ap (λ ns. ns ++ map (λ (p : Place). p.addr) p.nodes) o.addrs ∙ ap (λ ns. map (λ (s : Stub). s.addr) first ++ ns) p.addrs ∙ sym (map-append (λ (s : Stub). s.addr) first second);
  inner = All-append IsInner o.nodes p.nodes o.inner p.inner;
  same = out_twice o.nodes p.nodes (joined p.after).places (joined o.after).places (joined each).places o.same p.same;
}

-- what is opened has what it had, but for the nodes that gave way
pub opens_parts : (pages : List (List ℕ)) (order top : ℕ) (places old new : List Stub) (each : List Parts) → Opens pages order places old new → AllByRecursion (λ s. s.level ≤ top) old → HaveParts pages order top old each →
    OpensParts pages order top places new each
opens_parts pages order top places old new each Same low h = opens_none pages order top new each h
opens_parts pages order top places old new each (Here {below = below} {low = at} {high = high} {addr = addr} {key = key} {twig = twig} r) low h =
    opens_one pages order top below (stub_at (suc below) at high addr key) twig each refl (omega (arith, low.0)) r h
opens_parts pages order top places old new each (Within {places = first} {old = xs} {new = ys} fs bs o) low h =
    opens_between pages order top first fs bs xs ys each (λ ps k. opens_parts pages order top first xs ys ps o (each_left (λ s. s.level ≤ top) xs bs (each_right (λ s. s.level ≤ top) fs (xs ++ bs) low)) k) h
opens_parts pages order top places old new each (Then {first = first} {second = second} {old = xs} {mid = mid} {new = ys} o p) low h =
    let one = opens_parts pages order top first xs mid each o low h in
    let mid_low = opens_all (λ s. s.level ≤ top) (λ s t le less. omega (arith, le, less)) pages order first xs mid o low in
    opens_again pages order top first second mid ys each one (opens_parts pages order top second mid ys one.after p mid_low one.has)
