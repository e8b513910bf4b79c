-- Where the places of a tree come from stays known over an update, and over more pages.
use Rattle.std.proofs.Common.{◌≡◌, inl, inr, ℕ, zero, suc, ◌^◌, ◌<◌, ◌≤◌, List, [], ◌∷◌, ◌++◌, take, length, refl, sym, ap, subst, ◌∙◌, arith, append_assoc}
use Rattle.std.specs.Prelude.{Some, slice_get}
use Rattle.std.specs.List.{AllByRecursion}
use Rattle.platform.specs.Image.{Image, IsEarlier}
use Rattle.node_codec.specs.declared.body.Entry.{Entry}
use Rattle.node_codec.specs.Record.{Record, DataRecord, NodeRecord}
use Rattle.root_codec.specs.declared.root.Root.{Root}
use Rattle.page_store.specs.declared.wants.Want.{Want}
use Rattle.page_store.specs.Places.{IsRecordAt, FitsAt}
use Rattle.page_store.specs.Tree.{bound_of}
use Rattle.page_store.proofs.RecordLaws.{one_record}
use Rattle.btree_twigs.specs.Stubs.{Stub, Puts, Takes, datum}
use Rattle.btree_update.specs.declared.groves.Grove.{Grove}
use Rattle.btree_update.specs.GroveTree.{want_at, least_at, want_in, stubs_at}
use Rattle.btree_update.specs.Held.{stub_at}
use Rattle.btree_update.specs.Opens.{Opens, Same, Here, Within, Then, IsThere}
use Rattle.btree_update.specs.Groves.{IsSound, places_of}
use Rattle.btree_update.proofs.Readings.{read_same}
use Rattle.btree_update.proofs.ThereLaws.{least_below, opens_up}
use Rattle.grove_accounts.specs.Holding.{Turns, IsSameSize}
use Rattle.grove_accounts.specs.Followed.{IsReached, AtRoot, AtEntry, Follows, FollowsTree}
use Rattle.grove_accounts.proofs.ListLaws.{each_left, each_right, each_append, each_weaker}
use Rattle.grove_accounts.proofs.PartsLaws.{opens_all}
use Rattle.grove_accounts.proofs.PlaceLaws.{IsUnder, AreBelowRoot, under_root, places_below, open_below, puts_no_root, takes_no_root}
use Rattle.grove_accounts.proofs.ReachLaws.{reached_child}
use Rattle.grove_accounts.proofs.FollowLaws.{follows_reached}

-- ---- what is opened

module _ (pages : List (List ℕ)) (root : Root) (top : ℕ) where
  abbrev Ours : Stub → Type 0
  Ours s = Follows pages root top s

  -- the places below a node that fits come from the tree, where it does
  entries_follow : (below high : ℕ) (want : Want) (key : List ℕ) (entries front es : List Entry) → below < top → want.high ≡ high → IsReached pages root want key → FitsAt pages want key (NodeRecord (suc below) entries) → entries ≡ front ++ es →
      AllByRecursion Ours (stubs_at below high es)
  entries_follow zero high want key entries front [] less ends r fits split = tt
  entries_follow (suc below) high want key entries front [] less ends r fits split = tt
  entries_follow zero high want key entries front (e ∷ es) less ends r fits split = (
    inl record {
      high = bound_of es high;
      ends = λ one. absurd (omega (arith, one));
      reached = subst (λ n. IsReached pages root (want_at root.order 0 e.low (bound_of es high) e.addr n) e.key) (sym (least_below root.order top 0 less))
          (reached_child pages root root.order refl 0 (bound_of es high) want key entries front e es r fits split (ap (bound_of es) (sym ends)));
    },
    entries_follow zero high want key entries (front ++ e ∷ []) es less ends r fits (split ∙ sym (append_assoc front (e ∷ []) es)),
  )
  entries_follow (suc below) high want key entries front (e ∷ es) less ends r fits split = (
    inl record {
      high = bound_of es high;
      ends = λ one. refl;
      reached = subst (λ n. IsReached pages root (want_at root.order (suc below) e.low (bound_of es high) e.addr n) e.key) (sym (least_below root.order top (suc below) less))
          (reached_child pages root root.order refl (suc below) (bound_of es high) want key entries front e es r fits split (ap (bound_of es) (sym ends)));
    },
    entries_follow (suc below) high want key entries (front ++ e ∷ []) es less ends r fits (split ∙ sym (append_assoc front (e ∷ []) es)),
  )

  module _ (order : ℕ) (order_is : order ≡ root.order) where
    abbrev Fits : Stub → Type 0
    Fits s = IsThere pages (want_in order top s) s.key

    one_follows : (below low high addr : ℕ) (key : List ℕ) (entries : List Entry) → addr < 2 ^ 64 → below < top → IsRecordAt pages addr key (NodeRecord (suc below) entries) → Fits (stub_at (suc below) low high addr key) →
        Ours (stub_at (suc below) low high addr key) → AllByRecursion Ours (stubs_at below high entries)
    one_follows below low high addr key entries small less here fits ours =
        let least = least_at order top (suc below) in
        let value : NodeRecord (suc below) fits.entries ≡ NodeRecord (suc below) entries = one_record pages addr key _ _ small fits.fits.0 here in
        let same : fits.entries ≡ entries = cc in
        entries_follow below high (want_at order (suc below) low high addr least) key fits.entries [] entries less refl
        (follows_reached pages root order top order_is (suc below) low high addr least key (omega arith) refl ours) fits.fits same

    -- what is opened comes from the tree
    pub opened_follow : (places old new : List Stub) → Opens pages order places old new → AllByRecursion Fits places → AllByRecursion (λ s. s.level ≤ top) old → AllByRecursion Ours old → AllByRecursion Ours new
    opened_follow places old new Same fits up h = h
    opened_follow places old new (Here {below = below} {low = low} {high = high} {addr = addr} {key = key} {twig = twig} r) fits up h =
        subst (AllByRecursion Ours) (sym (read_same pages order below (stub_at (suc below) low high addr key) twig r))
        (one_follows below low high addr key r.entries r.small (omega (arith, up.0)) r.here fits.0 h.0)
    opened_follow places old new (Within {places = some} {old = xs} {new = ys} fs bs o) fits up h =
        let rest = each_right Ours fs (xs ++ bs) h in
        let mid_up = each_left (λ (s : Stub). s.level ≤ top) xs bs (each_right (λ (s : Stub). s.level ≤ top) fs (xs ++ bs) up) in
        each_append Ours fs (ys ++ bs) (each_left Ours fs (xs ++ bs) h) (each_append Ours ys bs (opened_follow some xs ys o fits mid_up (each_left Ours xs bs rest)) (each_right Ours xs bs rest))
    opened_follow places old new (Then {first = first} {second = second} {old = xs} {mid = mid} {new = ys} o p) fits up h =
        opened_follow second mid ys p (each_right Fits first second fits) (opens_up top pages order first xs mid o up).1 (opened_follow first xs mid o (each_left Fits first second fits) up h)

-- a place below two roots comes from the tree below the one where it does below the other
moved_follow : (pages : List (List ℕ)) (root : Root) (top new_top : ℕ) (ss : List Stub) → AllByRecursion (λ s. s.level < top) ss → AllByRecursion (λ s. s.level < new_top) ss → AllByRecursion (Follows pages root top) ss → AllByRecursion (Follows pages root new_top) ss
moved_follow pages root top new_top [] low new_low h = tt
moved_follow pages root top new_top (s ∷ ss) low new_low h = (one h.0, moved_follow pages root top new_top ss low.1 new_low.1 h.1)
  where
    one : Follows pages root top s → Follows pages root new_top s
    one (inr own) = inr own
    one (inl from) = inl record {
      high = from.high;
      ends = from.ends;
      reached = subst (λ n. IsReached pages root (want_at root.order s.level s.low from.high s.addr n) s.key) (least_below root.order top s.level low.0 ∙ sym (least_below root.order new_top s.level new_low.0)) from.reached;
    }

-- ---- more pages

module _ (pages later : List (List ℕ)) (root : Root) (stays : (addr : ℕ) (key : List ℕ) (value : Record) → IsRecordAt pages addr key value → IsRecordAt later addr key value) where
  reached_later : (want : Want) (key : List ℕ) → IsReached pages root want key → IsReached later root want key
  reached_later want key AtRoot = AtRoot
  reached_later want key (AtEntry {want = above} {key = over} level front e back r fits) = AtEntry level front e back (reached_later above over r) (stays above.addr over (NodeRecord (suc level) (front ++ e ∷ back)) fits.0, fits.1)

  pub later_follow : (top : ℕ) (ss : List Stub) → AllByRecursion (Follows pages root top) ss → AllByRecursion (Follows later root top) ss
  later_follow top ss h = each_weaker (Follows pages root top) (Follows later root top) one ss h
    where
      one : (s : Stub) → Follows pages root top s → Follows later root top s
      one s (inl from) = inl record { high = from.high; ends = from.ends; reached = reached_later _ s.key from.reached }
      one s (inr own) = inr record { own = own.own; content = own.content; there = stays s.addr s.key (DataRecord s.low own.content) own.there }

  pub tree_later : (grove : Grove) → FollowsTree pages root grove → FollowsTree later root grove
  tree_later grove f = record { order = f.order; blocks = f.blocks; head = f.head; each = later_follow grove.level (places_of grove) f.each }

read_more : (n : ℕ) (pages : List (List ℕ)) (addr : ℕ) (page : List ℕ) → slice_get (take n pages) addr ≡ Some page → slice_get pages addr ≡ Some page
read_more zero [] addr page reads = absurd cc
read_more zero (p ∷ pages) addr page reads = absurd cc
read_more (suc n) [] addr page reads = reads
read_more (suc n) (p ∷ pages) zero page reads = reads
read_more (suc n) (p ∷ pages) (suc addr) page reads = read_more n pages addr page reads

-- a record is there over a later image
pub stays_later : (image later : Image) → IsEarlier image later → (addr : ℕ) (key : List ℕ) (value : Record) → IsRecordAt image.readable addr key value → IsRecordAt later.readable addr key value
stays_later image later earlier addr key value is = record {
  page = is.page;
  reads = read_more (length image.recorded) later.readable addr is.page (ap (λ ps. slice_get ps addr) earlier.readable ∙ is.reads);
  in_range = is.in_range;
  spelled = is.spelled;
  digested = is.digested;
}

-- ---- the two updates

-- what an update opened comes from the tree, and is below its root
record OpenedFollows (pages : List (List ℕ)) (root : Root) (top : ℕ) (opened : List Stub) : Type 0 where
  each : AllByRecursion (Follows pages root top) opened
  low : AllByRecursion (λ s. s.level < top) opened

turned_follow : (pages : List (List ℕ)) (root : Root) (old new : Grove) (block : ℕ) (May : Stub → Type 0) (Makes : List Stub → Type 0) → IsSound old → FollowsTree pages root old → block < old.blocks → (g : Turns pages block May Makes old new) →
    OpenedFollows pages root old.level g.opened
turned_follow pages root old new block May Makes sound f to g =
    let under = under_root old.level old.blocks (places_of old) (places_below old sound) in
    let up = each_weaker (IsUnder old.level old.blocks) (λ (s : Stub). s.level ≤ old.level) (λ s i. i.0) (places_of old) under in
    let stays_under = opens_all (IsUnder old.level old.blocks) (λ s t i less. (omega (arith, i.0, less), λ e. absurd (omega (arith, i.0, less, e)))) pages old.order g.places (places_of old) g.opened g.opens under in
    record {
      each = opened_follow pages root old.level old.order f.order g.places (places_of old) g.opened g.opens g.fit up f.each;
      low = open_below old.level old.blocks block g.opened sound.one to stays_under g.is_open;
    }

pub insert_follows : (pages later : List (List ℕ)) (root : Root) (old new : Grove) (block addr : ℕ) (key content : List ℕ) (May : Stub → Type 0) → ((addr : ℕ) (key : List ℕ) (value : Record) → IsRecordAt pages addr key value → IsRecordAt later addr key value) →
    IsSound old → FollowsTree pages root old → IsSameSize old new → block < old.blocks → root.head ≤ addr → Turns pages block May (λ opened. Puts 0 old.blocks (datum block addr key) opened (places_of new)) old new →
    IsRecordAt later addr key (DataRecord block content) → FollowsTree later root new
insert_follows pages later root old new block addr key content May stays sound f size to more g there =
    let p = g.makes in
    let o = turned_follow pages root old new block May (λ opened. Puts 0 old.blocks (datum block addr key) opened (places_of new)) sound f to g in
    let Old : Stub → Type 0 = Follows later root old.level in
    let Low : Stub → Type 0 = λ s. s.level < old.level in
    let each = subst (AllByRecursion Old) p.was (later_follow pages later root stays old.level g.opened o.each) in
    let low = subst (AllByRecursion Low) p.was o.low in
    let all = each_append Old p.front (datum block addr key ∷ p.back) (each_left Old p.front (p.mid ++ p.back) each)
    (inr record { own = record { level = refl; after = more }; content = content; there = there }, each_right Old p.mid p.back (each_right Old p.front (p.mid ++ p.back) each)) in
    let under = each_append Low p.front (datum block addr key ∷ p.back) (each_left Low p.front (p.mid ++ p.back) low) (omega (arith, sound.one), each_right Low p.mid p.back (each_right Low p.front (p.mid ++ p.back) low)) in
    let new_under = puts_no_root new.level old.blocks block addr key g.opened (places_of new) size.sound.one p (subst (λ n. AreBelowRoot new.level n (places_of new)) size.blocks (places_below new size.sound)) in
    record {
      order = size.order ∙ f.order;
      blocks = size.blocks ∙ f.blocks;
      head = size.head ∙ f.head;
      each = moved_follow later root old.level new.level (places_of new) (subst (AllByRecursion Low) (sym p.now) under) new_under (subst (AllByRecursion Old) (sym p.now) all);
    }

pub remove_follows : (pages : List (List ℕ)) (root : Root) (old new : Grove) (block : ℕ) (May : Stub → Type 0) → IsSound old → FollowsTree pages root old → IsSameSize old new → block < old.blocks →
    Turns pages block May (λ opened. Takes 0 old.blocks block opened (places_of new)) old new → FollowsTree pages root new
remove_follows pages root old new block May sound f size to g =
    let p = g.makes in
    let o = turned_follow pages root old new block May (λ opened. Takes 0 old.blocks block opened (places_of new)) sound f to g in
    let Old : Stub → Type 0 = Follows pages root old.level in
    let Low : Stub → Type 0 = λ s. s.level < old.level in
    let each = subst (AllByRecursion Old) p.was o.each in
    let low = subst (AllByRecursion Low) p.was o.low in
    let all = each_append Old p.front p.back (each_left Old p.front (p.mid ++ p.back) each) (each_right Old p.mid p.back (each_right Old p.front (p.mid ++ p.back) each)) in
    let under = each_append Low p.front p.back (each_left Low p.front (p.mid ++ p.back) low) (each_right Low p.mid p.back (each_right Low p.front (p.mid ++ p.back) low)) in
    let new_under = takes_no_root new.level old.blocks block g.opened (places_of new) to p (subst (λ n. AreBelowRoot new.level n (places_of new)) size.blocks (places_below new size.sound)) in
    record {
      order = size.order ∙ f.order;
      blocks = size.blocks ∙ f.blocks;
      head = size.head ∙ f.head;
      each = moved_follow pages root old.level new.level (places_of new) (subst (AllByRecursion Low) (sym p.now) under) new_under (subst (AllByRecursion Old) (sym p.now) all);
    }
