-- How a ledger goes on to fit an image.
use Rattle.std.proofs.Common.{◌≡◌, ◌≢◌, ◌⊎◌, inl, inr, ℕ, zero, suc, ◌+◌, ◌<◌, ◌≤◌, List, [], ◌∷◌, ◌++◌, All, Option, None, Some, take, length, map, get_or, refl, sym, subst, ap, ◌∙◌, arith, append_assoc}
use Rattle.std.specs.Prelude.{AllPairs, Contains, IsSome}
use Rattle.std.specs.Option.{option_map_or}
use Rattle.std.proofs.lemmas.Bool.{cases_eq, cases_lt}
use Rattle.std.proofs.lemmas.Option.{none-some, same_Some}
use Rattle.std.proofs.lemmas.List.{append-nil, length-append, nil_from_length, take_all}
use Rattle.std.proofs.lemmas.List.Elements.{All-nil, All-cons, All-contains, All-weaker, All-append, All-map, Contains-append_left, Contains-append_right, Contains-get_or}
use Rattle.std.proofs.lemmas.List.Kept.{AllPairs-cons}
use Rattle.sdbt_base.specs.Told.{Got, GotPart}
use Rattle.sdbt_base.proofs.ToldLaws.{Got-nothing, Got-then}
use Rattle.sdbt_base.specs.Arrays.{Device, Blocks, State, Session as OpenSession}
use Rattle.sdbt_base.specs.Keys.{bare}
use Rattle.sdbt_base.specs.Traces.{Traced, TraceEntry, DataOf, NodeOver}
use Rattle.sdbt_base.specs.declared.lists.Unkept.{Unkept}
use Rattle.platform.specs.Image.{Image, IsEarlier, MayLeave, LeavesOnly}
use Rattle.platform.specs.History.{History, Extends, During, Turns, CellStays, CellTurns, image_at, moment}
use Rattle.platform.specs.declared.platforms.Platform.{Ghosts as PlatformGhosts}
use Rattle.platform.specs.Logged.{AllPairs-first, AllPairs-rest}
use Rattle.platform.proofs.Moments.{During-now, During-start, During-turns, Extends-earlier, Extends-since, LeavesOnly-now, earlier-now, image_at-now, synced-stays, whole-now}
use Rattle.node_codec.specs.declared.body.Entry.{Entry}
use Rattle.root_codec.specs.declared.root.Root.{Root}
use Rattle.root_codec.specs.RootRecord.{FitsRoot, root_bytes}
use Rattle.root_codec.specs.Laws.{one_root}
use Rattle.key_graph.specs.Trace.{Entries, Has}
use Rattle.key_graph.proofs.ChainLaws.{contains_map, map_contains}
use Rattle.page_store.specs.Tree.{Place, Parts, Subtree, Tree, joined}
use Rattle.page_store.specs.Kept.{IsRootOf}
use Rattle.page_store.specs.Stands.{Stands, StandsBy, IsSound}
use Rattle.page_store.specs.Floors.{Forgets, HasPlace, IsInTree, IsNewRoot, head_in, low_of}
use Rattle.page_store.proofs.KeptLaws.{tree_later, may_leave_itself, one_root_in, root_of_stands}
use Rattle.page_store.proofs.TreeLaws.{ReadsAlike, one_tree, tree_kept}
use Rattle.page_store.proofs.FloorLaws.{low_of_stands, place_of_stands, place_in_tree}
use Rattle.cert_maker.specs.Cert.{Cert}
use Rattle.cert_maker.specs.CertOf.{CertOf}
use Rattle.cert_maker.specs.Trace.{entries_of}
use Rattle.cert_maker.proofs.TreeTraces.{trees_are_traces}
use Rattle.cert_codec.specs.Text.{entry, Fits as FitsText}
use Rattle.cert_codec.specs.Ledger.{IsLedger}
use Rattle.cert_codec.proofs.LedgerLaws.{entry_adds, part_adds}
use Rattle.cert_checker.specs.Chain.{Fits}
use Rattle.cert_checker.specs.Succession.{Succeeds}
use Rattle.cert_checker.proofs.FitsLaws.{fits_next, fits_waits, fits_first}
use Rattle.btree_twigs.specs.Stubs.{Stub}
use Rattle.btree_update.specs.Groves.{places_of}
use Rattle.grove_accounts.specs.Accounts.{LacksAddress}
use Rattle.btree_update.specs.GroveTree.{want_in}
use Rattle.grove_accounts.specs.Below.{HaveParts}
use Rattle.grove_accounts.specs.Certs.{IsOwnStub, page_at}
use Rattle.device_session.specs.Holds.{Holds}
use Rattle.device_session.specs.Sessions.{Session}
use Rattle.device_session.specs.Open.{AreDataPages}
use Rattle.device_session.specs.Certifying.{IsOfCommit}
use Rattle.device_terms.specs.Certifying.{Certifies, IsOfTrees, PutsEntry, PutsSynced}
use Rattle.device_core.specs.Certifying.{IsOfFormat}
use Rattle.device_core.specs.Upgrading.{CertifiesUpgrade, IsOfUpgrade, PutsUpgrade, needed_of_root}
use Rattle.device_core.proofs.OrderLaws.{root_needs}
use Rattle.device_course.proofs.SaidLaws.{entry_has, has_entry}
use Rattle.device_session.specs.Keys.{HoldsListed}
use Rattle.device_course.specs.States.{IsAt, IsSessionOf}
use Rattle.device_course.specs.Fitting.{FitsCell, FitsImage, KeepsFitting, LeavesFitting, PutsBehindPages, SinceLastPage}

-- ---- without a new root record

-- pages are only added, and the cell stays
pub fits_later : (text : List ℕ) (image later : Image) → IsEarlier image later → later.cell ≡ image.cell → FitsImage text image → FitsImage text later
fits_later text image later earlier same f = record {
  certs = f.certs;
  ledger = f.ledger;
  fits = elim f.fits [
    | inl none ↦ inl (same ∙ none)
    | inr c ↦ inr (record {
      root = c.root;
      is = record { cell = same ∙ c.is.cell; in_range = c.is.in_range; key = c.is.key };
      parts = c.parts;
      tree = tree_later image later c.root c.parts earlier c.tree;
      fits = c.fits;
    })
  ];
}

pub fits_emptied : (text : List ℕ) (image later : Image) → later.cell ≡ None → FitsImage text image → FitsImage text later
fits_emptied text image later none f = record { certs = f.certs; ledger = f.ledger; fits = inl none }

-- an earlier moment that has the cell and all pages of the present one
fits_with_all : (text : List ℕ) (history : History) (i : ℕ) → i ≤ moment history → (image_at history i).cell ≡ history.present.cell → (image_at history i).recorded ≡ history.present.recorded
    → FitsImage text history.present → FitsImage text (image_at history i)
fits_with_all text history i past cell all f =
    let image = image_at history i in
    let now = history.present in
    let many : length now.readable ≤ length image.recorded = omega (arith, (whole-now history).as_many, ap (λ (pages : List (List ℕ)). length pages) all) in
    let reads : now.readable ≡ image.readable = sym (take_all (length image.recorded) now.readable many) ∙ (earlier-now history i past).readable in
    record {
      certs = f.certs;
      ledger = f.ledger;
      fits = elim f.fits [
        | inl none ↦ inl (cell ∙ none)
        | inr c ↦ inr (record {
          root = c.root;
          is = record { cell = cell ∙ c.is.cell; in_range = c.is.in_range; key = c.is.key };
          parts = c.parts;
          tree = subst (λ (pages : List (List ℕ)). Tree pages c.root c.parts) reads c.tree;
          fits = c.fits;
        })
      ];
    }

-- ---- at each moment since when no page was handed over

since_during : (tells : Type 0) (old new : History) (P : Image → Type 0) → During old new P → SinceLastPage tells old new P
since_during tells old new P during = record { now = During-now old new P during; each = λ told i from to all. during.each i from to }

-- what was put, with which each ledger that fitted an image goes on to fit it for as long as the cell is as it was
record Waits (written written_now : Option (List ℕ)) (old : Image) : Type 0 where
  put : List ℕ
  got : Got written put written_now
  fits : (text : List ℕ) → FitsImage text old → (image : Image) → IsEarlier old image → image.cell ≡ old.cell → FitsImage (text ++ put) image

-- nothing was put
waits_none : (written : Option (List ℕ)) (old : Image) → Waits written written old
waits_none written old = record {
  put = [];
  got = Got-nothing written;
  fits = λ text f image earlier same. subst (λ (t : List ℕ). FitsImage t image) (sym (append-nil text)) (fits_later text old image earlier same f);
}

-- the cell stays
fitting_stays : (written written_now : Option (List ℕ)) (old new : History) → CellStays old new → PutsBehindPages written written_now old new → Waits written written_now old.present → KeepsFitting written written_now old new
fitting_stays written written_now old new stays put_behind w = record {
  put = w.put;
  got = w.got;
  fits = λ text f. since_during (IsSome written) old new (FitsImage (text ++ w.put))
      (record { extends = stays.extends; each = λ i from to. w.fits text f (image_at new i) (Extends-since old new i stays.extends from) (stays.each i from to) });
  behind = put_behind;
}

-- the cell is another one at the end, which the ledger fits
fitting_turns : (written written_now : Option (List ℕ)) (old new : History) → CellTurns old new → PutsBehindPages written written_now old new → (w : Waits written written_now old.present)
    → ((text : List ℕ) → FitsImage text old.present → FitsImage (text ++ w.put) new.present) → KeepsFitting written written_now old new
fitting_turns written written_now old new turns put_behind w comes = record {
  put = w.put;
  got = w.got;
  fits = λ text f. record {
    now = comes text f;
    each = λ told i from to all. elim (cases_lt i turns.turn) [
      | inl early ↦ w.fits text f (image_at new i) (Extends-since old new i turns.extends from) (turns.before i from to early)
      | inr late ↦ fits_with_all (text ++ w.put) new i to (turns.after i from to late) all (comes text f)
    ];
  };
  behind = put_behind;
}

-- the cell stays at each moment, and nothing is put
pub fitting_while : (written : Option (List ℕ)) (old new : History) → CellStays old new → KeepsFitting written written old new
fitting_while written old new stays = fitting_stays written written old new stays (λ same. refl) (waits_none written old.present)

pub fitting_start : (written : Option (List ℕ)) (history : History) → KeepsFitting written written history history
fitting_start written history = fitting_while written history history (During-start history (λ image. image.cell ≡ history.present.cell) refl)

fitting_unput : (written written_now : Option (List ℕ)) (old new : History) → written_now ≡ written → CellStays old new → KeepsFitting written written_now old new
fitting_unput written written_now old new unput stays = subst (λ (w : Option (List ℕ)). KeepsFitting written w old new) (sym unput) (fitting_while written old new stays)

-- the cell stays until it is empty
pub fitting_erased : (written : Option (List ℕ)) (old new : History) → Turns old new (λ image. image.cell ≡ old.present.cell) (λ image. image.cell ≡ None) → KeepsFitting written written old new
unfolding waits_none
fitting_erased written old new turns =
    let either = During-turns old new (λ image. image.cell ≡ old.present.cell) (λ image. image.cell ≡ None) turns in
    let none = waits_none written old.present in
    record {
      put = [];
      got = none.got;
      fits = λ text f. since_during (IsSome written) old new (FitsImage (text ++ [])) (record {
        extends = turns.extends;
        each = λ i from to. elim (either.each i from to) [
          | inl same ↦ none.fits text f (image_at new i) (Extends-since old new i turns.extends from) same
          | inr empty ↦ subst (λ (t : List ℕ). FitsImage t (image_at new i)) (sym (append-nil text)) (fits_emptied text old.present (image_at new i) empty f)
        ];
      });
      behind = λ same. refl;
    }

-- ---- one part after another

-- where as many pages were handed over they are the same
same_pages : (earlier later : Image) → IsEarlier earlier later → length later.recorded ≤ length earlier.recorded → earlier.recorded ≡ later.recorded
same_pages earlier later is most = sym is.recorded ∙ take_all (length earlier.recorded) later.recorded most

-- where nothing was handed over since, nothing was between
same_between : (first mid last : Image) → IsEarlier first mid → IsEarlier mid last → first.recorded ≡ last.recorded → (first.recorded ≡ mid.recorded) × (mid.recorded ≡ last.recorded)
same_between first mid last one two same =
    let many : length first.recorded ≡ length last.recorded = ap (λ (pages : List (List ℕ)). length pages) same in
    (same_pages first mid one (omega (arith, many, two.pages)), same_pages mid last two (omega (arith, many, one.pages)))

told_then : (written put mid : Option (List ℕ)) (bytes : List ℕ) → IsSome written → Got written bytes mid → IsSome mid
told_then None put mid bytes told got = absurd cc
told_then (Some before) put mid bytes told got = cc

put_none : (written written_now : Option (List ℕ)) (put : List ℕ) → IsSome written → Got written put written_now → written_now ≡ written → put ≡ []
put_none None written_now put told got same = absurd cc
put_none (Some before) written_now put told got same =
    let all : before ++ put ≡ before = same_Some _ _ (sym got ∙ same) in
    nil_from_length put (omega (arith, length-append before put, ap (λ (bytes : List ℕ). length bytes) all))

pub fitting_then : (written mid written_now : Option (List ℕ)) (first second third : History) → Extends first second → Extends second third → KeepsFitting written mid first second → KeepsFitting mid written_now second third
    → KeepsFitting written written_now first third
fitting_then written mid written_now first second third one two a b = record {
  put = a.put ++ b.put;
  got = Got-then written a.put mid b.put written_now a.got b.got;
  fits = λ text f.
      let before = a.fits text f in
      let after = b.fits (text ++ a.put) before.now in
      let told_mid : IsSome written → IsSome mid = λ told. told_then written mid mid a.put told a.got in
      let whole : (image : Image) → FitsImage ((text ++ a.put) ++ b.put) image → FitsImage (text ++ (a.put ++ b.put)) image = λ image. subst (λ (t : List ℕ). FitsImage t image) (append_assoc text a.put b.put) in
      record {
        now = whole third.present after.now;
        each = λ told i from to all. elim (cases_lt (moment second) i) [
          | inl later ↦ whole (image_at third i) (after.each (told_mid told) i (omega (arith, later)) to all)
          | inr past ↦
              let was : image_at third i ≡ image_at second i = two.same i past in
              let none = same_between (image_at second i) second.present third.present (earlier-now second i past) (Extends-earlier second third two) (sym (ap (λ (image : Image). image.recorded) was) ∙ all) in
              let unput : b.put ≡ [] = put_none mid written_now b.put (told_mid told) b.got (b.behind (sym none.1)) in
              whole (image_at third i) (subst (λ (put : List ℕ). FitsImage ((text ++ a.put) ++ put) (image_at third i)) (sym unput)
              (subst (λ (t : List ℕ). FitsImage t (image_at third i)) (sym (append-nil (text ++ a.put)))
              (subst (FitsImage (text ++ a.put)) (sym was) (before.each told i from past none.0))))
        ];
      };
  behind = λ same.
      let none = same_between first.present second.present third.present (Extends-earlier first second one) (Extends-earlier second third two) (sym same) in
      b.behind (sym none.1) ∙ a.behind (sym none.0);
}

-- ---- what the places of a tree say

abbrev say : Place → Traced
say place = record { addr = place.addr; trace = place.trace }

apart_all : (places : List Place) → AllPairs (λ p q. p.addr ≢ q.addr) places → AllPairs (λ t u. t.addr ≢ u.addr) (map say places)
apart_all [] apart = λ i j d before within. absurd (omega (arith, within))
apart_all (p ∷ places) apart =
    AllPairs-cons (λ (t : Traced) (u : Traced). t.addr ≢ u.addr) (say p) (map say places)
    (All-map (λ (t : Traced). p.addr ≢ t.addr) say places (AllPairs-first (λ (a : Place) (b : Place). a.addr ≢ b.addr) p places apart))
    (apart_all places (AllPairs-rest (λ (a : Place) (b : Place). a.addr ≢ b.addr) p places apart))

-- what is said of an address is said by a place
said_place : (places : List Place) (addr : ℕ) (trace : TraceEntry) → entries_of places addr ≡ Some trace → (place : Place) × Contains places place × (place.addr ≡ addr) × (place.trace ≡ trace)
said_place places addr trace is =
    let found = contains_map say places (record { addr = addr; trace = trace }) (entry_has (map say places) addr trace is) in
    (found.0, found.1, ap (λ (t : Traced). t.addr) found.2, ap (λ (t : Traced). t.trace) found.2)

place_says : (places : List Place) (place : Place) → AllPairs (λ p q. p.addr ≢ q.addr) places → Contains places place → entries_of places place.addr ≡ Some place.trace
place_says places place apart has =
    let there = map_contains say places place has in
    has_entry (map say places) (say place) there.0 (apart_all places apart) there.1 there.2

below_head : (places : List Place) (head : ℕ) → All (λ p. p.addr < head) places → (addr : ℕ) → Has (entries_of places) addr → addr < head
below_head places head below addr has =
    let p = said_place places addr has.trace has.is in
    subst (λ (n : ℕ). n < head) p.2 (All-contains (λ (p : Place). p.addr < head) places p.0 below p.1)

said_none : (entries : Entries) (addr : ℕ) → (Has entries addr → ⊥) → entries addr ≡ None
said_none entries addr none = go (entries addr) refl
  where
    go : (said : Option TraceEntry) → entries addr ≡ said → entries addr ≡ None
    go None is = is
    go (Some trace) is = absurd (none (record { trace = trace; is = is }))

-- ---- the data pages of a session

-- the pages of those data records among these places that came after a root record
record Own (head : ℕ) (stubs : List Stub) : Type 0 where
  pages : List Unkept
  named : (s : Stub) → Contains stubs s → IsOwnStub head s → Contains pages (page_at s)
  only : All (λ page. (s : Stub) × Contains stubs s × IsOwnStub head s × (page ≡ page_at s)) pages

behind : {X : Type 0} (x y : X) (xs : List X) → Contains xs y → Contains (x ∷ xs) y
behind x y xs has = (suc has.0, omega (arith, has.1), has.2)

is_own : (head : ℕ) (s : Stub) → IsOwnStub head s ⊎ (IsOwnStub head s → ⊥)
is_own head s = elim (cases_eq s.level 0) [
  | inl lowest ↦ elim (cases_lt s.addr head) [
    | inl less ↦ inr (λ own. let late = own.after in omega (arith, less, late))
    | inr most ↦ inl (record { level = lowest; after = most })
  ]
  | inr node ↦ inr (λ own. node own.level)
]

own : (head : ℕ) (stubs : List Stub) → Own head stubs
own head [] = record { pages = []; named = λ s has is. absurd (omega (arith, has.1)); only = All-nil (λ (page : Unkept). (s : Stub) × Contains [] s × IsOwnStub head s × (page ≡ page_at s)) }
own head (t ∷ stubs) =
    let rest = own head stubs in
    let Of : Unkept → Type 0 = λ (page : Unkept). (s : Stub) × Contains (t ∷ stubs) s × IsOwnStub head s × (page ≡ page_at s) in
    let later : All Of rest.pages = All-weaker (λ (page : Unkept). (s : Stub) × Contains stubs s × IsOwnStub head s × (page ≡ page_at s)) Of
    (λ page of. (of.0, behind t of.0 stubs of.1, of.2, of.3)) rest.pages rest.only in
    elim (is_own head t) [
      | inl mine ↦ record {
        pages = page_at t ∷ rest.pages;
        named = named_first head t stubs rest.pages rest.named;
        only = All-cons Of (page_at t) rest.pages (t, (0, omega arith, refl), mine, refl) later;
      }
      | inr other ↦ record { pages = rest.pages; named = named_rest head t stubs rest.pages other rest.named; only = later }
    ]
  where
    named_first : (head : ℕ) (t : Stub) (stubs : List Stub) (pages : List Unkept) → ((s : Stub) → Contains stubs s → IsOwnStub head s → Contains pages (page_at s)) → (s : Stub) → Contains (t ∷ stubs) s → IsOwnStub head s → Contains (page_at t ∷ pages) (page_at s)
    named_first head t stubs pages named s (zero, within, is) mine = (0, omega arith, ap page_at is)
    named_first head t stubs pages named s (suc k, within, is) mine = behind (page_at t) (page_at s) pages (named s (k, omega (arith, within), is) mine)

    named_rest : (head : ℕ) (t : Stub) (stubs : List Stub) (pages : List Unkept) → (IsOwnStub head t → ⊥) → ((s : Stub) → Contains stubs s → IsOwnStub head s → Contains pages (page_at s)) → (s : Stub) → Contains (t ∷ stubs) s → IsOwnStub head s → Contains pages (page_at s)
    named_rest head t stubs pages other named s (zero, within, is) mine = absurd (other (subst (IsOwnStub head) (sym is) mine))
    named_rest head t stubs pages other named s (suc k, within, is) mine = named s (k, omega (arith, within), is) mine

-- a place of a session's tree has a place of all that stands below it at its address
top_place : (pages : List (List ℕ)) (order top level : ℕ) (s : Stub) (q : Parts) → Subtree pages order level (want_in order top s) s.key q → (p : Place) × Contains q.places p × (p.addr ≡ s.addr)
unfolding Subtree
top_place pages order top zero s q h =
    let here : Place = record { addr = s.addr; key = s.key; trace = DataOf s.low } in
    (here, subst (λ (x : Parts). Contains x.places here) (sym h.has) (0, omega arith, refl), refl)
top_place pages order top (suc level) s q h =
    let here : Place = record { addr = s.addr; key = s.key; trace = NodeOver (map (λ (e : Entry). e.addr) h.entries) } in
    (here, subst (λ (x : Parts). Contains x.places here) (sym h.has) (0, omega arith, refl), refl)

stub_place : (pages : List (List ℕ)) (order top : ℕ) (stubs : List Stub) (each : List Parts) (s : Stub) → HaveParts pages order top stubs each → Contains stubs s → (p : Place) × Contains (joined each).places p × (p.addr ≡ s.addr)
stub_place pages order top [] each s h has = absurd (omega (arith, has.1))
stub_place pages order top (t ∷ stubs) [] s h has = absurd h
stub_place pages order top (t ∷ stubs) (q ∷ qs) s h (zero, within, is) =
    let one = top_place pages order top t.level t q h.0 in
    (one.0, Contains-append_left q.places (joined qs).places one.0 one.1, one.2 ∙ ap (λ (x : Stub). x.addr) is)
stub_place pages order top (t ∷ stubs) (q ∷ qs) s h (suc k, within, is) =
    let rest = stub_place pages order top stubs qs s h.1 (k, omega (arith, within), is) in
    (rest.0, Contains-append_right q.places (joined qs).places rest.0 rest.1, rest.2)

-- the data pages of a session that has an array over an image, which lie from the head of its root record on
record Wrote (session : Session) (pages : ℕ) : Type 0 where
  list : List Unkept
  are : AreDataPages session list
  between : (page : Unkept) → Contains list page → (session.root.head ≤ page.addr) × (page.addr < pages)

wrote : (image : Image) (session : Session) (device : Device) (contents : Blocks) → Holds session image device contents → Wrote session (length image.recorded)
wrote image session device contents h =
    let head = session.root.head in
    let stubs = places_of session.grove in
    let never = session.grove.never.items in
    let mine = own head stubs in
    let Of : Unkept → Type 0 = λ (page : Unkept). Contains never page ⊎ ((s : Stub) × Contains stubs s × IsOwnStub head s × (page ≡ page_at s)) in
    let only : All Of (never ++ mine.pages) = All-append Of never mine.pages (λ k d within. inl (Contains-get_or never k d within))
    (All-weaker (λ (page : Unkept). (s : Stub) × Contains stubs s × IsOwnStub head s × (page ≡ page_at s)) Of (λ page of. inr of) mine.pages mine.only) in
    record {
      list = never ++ mine.pages;
      are = record {
        named = λ s has is. Contains-append_right never mine.pages (page_at s) (mine.named s has is);
        unnamed = λ k d within. Contains-append_left never mine.pages (get_or never k d) (Contains-get_or never k d within);
        only = only;
      };
      between = λ page has. go page (All-contains Of (never ++ mine.pages) page only has);
    }
  where
    go : (page : Unkept) → Contains session.grove.never.items page ⊎ ((s : Stub) × Contains (places_of session.grove) s × IsOwnStub session.root.head s × (page ≡ page_at s)) → (session.root.head ≤ page.addr) × (page.addr < length image.recorded)
    go page (inl never) =
        let is = All-contains (λ (page : Unkept). (session.root.head ≤ page.addr) × (page.addr < length image.recorded) × LacksAddress (joined h.each).places page.addr) session.grove.never.items page h.tree.accounted.accounts.never_are never in
        (is.0, is.1)
    go page (inr of) =
        let here : page.addr ≡ of.0.addr = ap (λ (p : Unkept). p.addr) of.3 in
        let place = stub_place image.readable session.grove.order session.grove.level (places_of session.grove) h.each of.0 h.tree.has of.1 in
        let less : place.0.addr < length image.recorded = All-contains (λ (p : Place). p.addr < length image.recorded) (joined h.each).places place.0 h.tree.accounted.below place.1 in
        let after = of.2.after in
        (omega (arith, here, after), omega (arith, here, less, place.2))

-- ---- a commit

-- the ledger fits the root and the tree by which the image stands
cell_fits : (image : Image) (device : Device) (root : Root) (parts : Parts) (certs : List Cert) → StandsBy image device root parts → FitsCell certs image → Fits certs root parts.places
cell_fits image device root parts certs stands c =
    let same : c.root ≡ root = one_root_in image image c.root root refl c.is (root_of_stands image device root parts stands) in
    let tree : Tree image.readable root c.parts = subst (λ (r : Root). Tree image.readable r c.parts) same c.tree in
    let all : c.parts ≡ parts = one_tree image.readable root c.parts parts stands.in_range tree stands.tree in
    subst (λ (ps : Parts). Fits certs root ps.places) all (subst (λ (r : Root). Fits certs r c.parts.places) same c.fits)

succeeds : (old new : History) (device other : Device) (root next : Root) (before after : Parts) (pages : List Unkept) → StandsBy old.present device root before → StandsBy new.present other next after → Forgets old new → next.commit ≡ root.commit + 1
    → ((page : Unkept) → Contains pages page → (root.head ≤ page.addr) × (page.addr < length old.present.recorded))
    → Succeeds root.head next.head (entries_of before.places) (entries_of after.places) (Some root.addr) next.addr pages
succeeds old new device other root next before after pages was is forgets number between =
    let low : low_of old.present ≡ root.head = low_of_stands old.present device root before was in
    let now : low_of new.present ≡ next.head = low_of_stands new.present other next after is in
    let here : IsRootOf new.present next = root_of_stands new.present other next after is in
    let there : IsRootOf old.present root = root_of_stands old.present device root before was in
    let more : length old.present.recorded ≤ length new.present.recorded = (Extends-earlier old new forgets.turns.extends).pages in
    let new_root : IsNewRoot old.present new.present next = elim (forgets.succeeds.root next here) [
      | inl same ↦ absurd (let equal : root ≡ next = one_root_in old.present old.present root next refl there same in let numbers : root.commit ≡ next.commit = ap (λ (r : Root). r.commit) equal in omega (arith, numbers, number))
      | inr new ↦ new
    ] in
    record {
      ordered = omega (arith, low, now, forgets.succeeds.rises);
      old_tree = trees_are_traces old.present.readable root before was.tree was.apart;
      new_tree = trees_are_traces new.present.readable next after is.tree is.apart;
      old_below = below_head before.places root.head was.below;
      new_below = below_head after.places next.head is.below;
      same = λ addr trace said less.
          let p = said_place after.places addr trace said in
          let kept : HasPlace old.present p.0 = forgets.succeeds.kept p.0 (record { root = next; parts = after; is = here; tree = is.tree; has = p.1 }) (omega (arith, p.2, less, low)) in
          let says : entries_of before.places p.0.addr ≡ Some p.0.trace = place_says before.places p.0 was.apart (place_of_stands old.present device root before p.0 was kept) in
          ap (λ (n : ℕ). entries_of before.places n) (sym p.2) ∙ says ∙ ap (λ (t : TraceEntry). Some t) p.3;
      new_top = omega (arith, low, new_root.node);
      old_top = said_none (entries_of after.places) root.addr (λ has.
          let p = said_place after.places root.addr has.trace has.is in
          let in_tree : IsInTree new.present p.0.addr = place_in_tree new.present p.0 (record { root = next; parts = after; is = here; tree = is.tree; has = p.1 }) in
          new_root.gone root there (subst (IsInTree new.present) p.2 in_tree));
      between = λ page has. let b = between page has in (b.0, omega (arith, b.1, more, new_root.head));
    }

-- a ledger that gets an entry, or a part of one, before the cell is another one
waiting : (text put : List ℕ) (cert : Cert) (old new : Image) → IsEarlier old new → new.cell ≡ old.cell → ((root : Root) → IsRootOf old root → cert.commit ≡ root.commit + 1)
    → ((certs : List Cert) → IsLedger text certs → IsLedger (text ++ put) certs ⊎ IsLedger (text ++ put) (certs ++ cert ∷ [])) → FitsImage text old → FitsImage (text ++ put) new
waiting text put cert old new earlier same number goes_on f =
    let g = fits_later text old new earlier same f in
    elim (goes_on g.certs g.ledger) [
      | inl still ↦ record { certs = g.certs; ledger = still; fits = g.fits }
      | inr more ↦ record {
        certs = g.certs ++ cert ∷ [];
        ledger = more;
        fits = elim g.fits [
          | inl none ↦ inl none
          | inr c ↦ inr (record {
            root = c.root;
            is = c.is;
            parts = c.parts;
            tree = c.tree;
            fits = fits_waits g.certs c.root c.parts.places cert c.fits (number c.root (record { cell = sym same ∙ c.is.cell; in_range = c.is.in_range; key = c.is.key }));
          })
        ];
      }
    ]

-- an entry, or a part of one
waits_entry : (written written_now : Option (List ℕ)) (cert : Cert) (old : Image) → FitsText cert → ((root : Root) → IsRootOf old root → cert.commit ≡ root.commit + 1) → Got written (entry cert) written_now ⊎ GotPart written (entry cert) written_now
    → Waits written written_now old
waits_entry written written_now cert old in_text number (inl whole) = record {
  put = entry cert;
  got = whole;
  fits = λ text f image earlier same. waiting text (entry cert) cert old image earlier same number (λ certs ledger. inr (entry_adds text certs cert in_text ledger)) f;
}
waits_entry written written_now cert old in_text number (inr (n, part)) = record {
  put = take n (entry cert);
  got = part;
  fits = λ text f image earlier same. waiting text (take n (entry cert)) cert old image earlier same number (λ certs ledger. part_adds text certs cert n in_text ledger) f;
}

-- the root record that came into the cell
came_root : (new : Image) (next : Root) → IsSound new → FitsRoot next → new.cell ≡ Some (root_bytes next) → (device : Device) × (parts : Parts) × StandsBy new device next parts
came_root new next (None, none) in_range came = absurd (none-some (root_bytes next) (sym none ∙ came))
came_root new next (Some device, (root, parts, stands)) in_range came =
    let same : root ≡ next = one_root root next stands.in_range in_range (same_Some _ _ (sym stands.cell ∙ came)) in
    (device, parts, subst (λ (r : Root). StandsBy new device r parts) same stands)

-- a ledger that gets the entry of the root record that came into the cell, with the next number
next_fits : (old new : History) (device : Device) (root next : Root) (before : Parts) (pages : List Unkept) (cert : Cert) → FitsText cert → FitsRoot next → next.commit ≡ root.commit + 1 → new.present.cell ≡ Some (root_bytes next) → Forgets old new
    → StandsBy old.present device root before → IsOfTrees before.places root.head new.present.readable next pages cert → ((page : Unkept) → Contains pages page → (root.head ≤ page.addr) × (page.addr < length old.present.recorded))
    → (text : List ℕ) → FitsImage text old.present → FitsImage (text ++ entry cert) new.present
next_fits old new device root next before pages cert in_text in_range number came forgets was of between text f =
    let now = came_root new.present next (During-now old new IsSound forgets.sound) in_range came in
    let stands : StandsBy new.present now.0 next now.1 = now.2 in
    let same : of.after ≡ now.1 = one_tree new.present.readable next of.after now.1 in_range of.tree stands.tree in
    let cert_of : CertOf (entries_of before.places) (entries_of now.1.places) next.commit next.addr root.head next.head pages cert =
    subst (λ (parts : Parts). CertOf (entries_of before.places) (entries_of parts.places) next.commit next.addr root.head next.head pages cert) same of.is in
    record {
      certs = f.certs ++ cert ∷ [];
      ledger = entry_adds text f.certs cert in_text f.ledger;
      fits = elim f.fits [
        | inl none ↦ absurd (none-some (root_bytes root) (sym none ∙ was.cell))
        | inr c ↦ inr (record {
          root = next;
          is = root_of_stands new.present now.0 next now.1 stands;
          parts = now.1;
          tree = stands.tree;
          fits = fits_next f.certs root next before.places now.1.places pages cert (cell_fits old.present device root before f.certs was c) number
              (succeeds old new device now.0 root next before now.1 pages was stands forgets number between) cert_of;
        })
      ];
    }

-- what was put is the entry of the root record that came, or that or a part of it with the cell as it was
puts_fit : (tells : Type 0) (written written_now : Option (List ℕ)) (old new : History) (base commit : ℕ) (Is : Root → Cert → Type 0) (Done : Type 0) → tells → CellTurns old new → PutsBehindPages written written_now old new
    → (p : PutsEntry tells written written_now old new base commit Is Done) → ((root : Root) → IsRootOf old.present root → p.cert.commit ≡ root.commit + 1)
    → ((cert : Cert) (next : Root) → FitsText cert → FitsRoot next → next.commit ≡ commit → new.present.cell ≡ Some (root_bytes next) → Is next cert → (text : List ℕ) → FitsImage text old.present → FitsImage (text ++ entry cert) new.present)
    → KeepsFitting written written_now old new
unfolding waits_entry
puts_fit tells written written_now old new base commit Is Done told turns put_behind p numbered goes_on =
    let waits : CellStays old new → Got written (entry p.cert) written_now ⊎ GotPart written (entry p.cert) written_now → KeepsFitting written written_now old new = λ stays put.
    fitting_stays written written_now old new stays put_behind (waits_entry written written_now p.cert old.present p.in_text numbered put) in
    elim p.put [
      | inl whole ↦ elim (whole.1 told) [
        | inl came ↦ fitting_turns written written_now old new turns put_behind (waits_entry written written_now p.cert old.present p.in_text numbered (inl whole.0))
            (goes_on p.cert p.root p.in_text p.in_range p.number came (p.is told))
        | inr stays ↦ waits stays.0 (inl whole.0)
      ]
      | inr part ↦ waits (part.1 told) (inr part.0)
    ]

-- its number is the next one
next_number : (tells : Type 0) (written written_now : Option (List ℕ)) (old new : History) (base : ℕ) (root : Root) (Is : Root → Cert → Type 0) (Done : Type 0) → IsRootOf old.present root
    → (p : PutsEntry tells written written_now old new base (root.commit + 1) Is Done) → (other : Root) → IsRootOf old.present other → p.cert.commit ≡ other.commit + 1
next_number tells written written_now old new base root Is Done there p other is =
    let same : root ≡ other = one_root_in old.present old.present root other refl there is in
    p.speaks.commit ∙ p.number ∙ ap (λ (r : Root). r.commit + 1) same

pub fitting_commit : (tells : Type 0) (written written_now : Option (List ℕ)) (old new : History) (session : Session) (device : Device) (contents : Blocks) (Done : Type 0) → tells → Holds session old.present device contents → Forgets old new
    → PutsBehindPages written written_now old new → Certifies tells written written_now old new session.root.head (session.root.commit + 1) (IsOfCommit session old.present new.present) Done → KeepsFitting written written_now old new
fitting_commit tells written written_now old new session device contents Done told h forgets put_behind certifies =
    let before : Parts = h.committed in
    let was : StandsBy old.present device session.root before = h.stands in
    let pages = wrote old.present session device contents h in
    elim certifies [
      | inl none ↦ fitting_unput written written_now old new none.0 (none.1 told)
      | inr p ↦ puts_fit tells written written_now old new session.root.head (session.root.commit + 1) (IsOfCommit session old.present new.present) Done told forgets.turns put_behind p
          (next_number tells written written_now old new session.root.head session.root (IsOfCommit session old.present new.present) Done (root_of_stands old.present device session.root before was) p)
          (λ cert next in_text in_range number came is. next_fits old new device session.root next before pages.list cert in_text in_range number came forgets was (is device contents h pages.list pages.are before was.tree) pages.between)
    ]

-- ---- an upgrade

-- of a device, or where there is none
pub fitting_upgrade : (tells : Type 0) (written written_now : Option (List ℕ)) (old new : History) (Done : Type 0) → tells → IsSound old.present → Forgets old new → PutsBehindPages written written_now old new
    → CertifiesUpgrade tells written written_now old new Done → KeepsFitting written written_now old new
fitting_upgrade tells written written_now old new Done told sound forgets put_behind (inl none) = fitting_unput written written_now old new none.0 (none.1 told)
fitting_upgrade tells written written_now old new Done told sound forgets put_behind (inr (root, fits, key, cell, puts)) =
    let there = came_root old.present root sound fits (cell told) in
    let device : Device = there.0 in
    let before : Parts = there.1 in
    let was : StandsBy old.present device root before = there.2 in
    puts_fit tells written written_now old new root.head (root.commit + 1) (IsOfUpgrade root old.present new.present) Done told forgets.turns put_behind puts
    (next_number tells written written_now old new root.head root (IsOfUpgrade root old.present new.present) Done (root_of_stands old.present device root before was) puts)
    (λ cert next in_text in_range number came is. next_fits old new device root next before [] cert in_text in_range number came forgets was (is device before was) (λ page has. absurd (omega (arith, has.1))))

-- ---- a format

first_succeeds : (old new : History) (other : Device) (next : Root) (after : Parts) → old.present.cell ≡ None → StandsBy new.present other next after → Forgets old new
    → Succeeds (length old.present.recorded) next.head (entries_of []) (entries_of after.places) None next.addr []
first_succeeds old new other next after none is forgets =
    let low : low_of old.present ≡ length old.present.recorded = ap (λ (c : Option (List ℕ)). option_map_or head_in c (length old.present.recorded)) none in
    let now : low_of new.present ≡ next.head = low_of_stands new.present other next after is in
    let here : IsRootOf new.present next = root_of_stands new.present other next after is in
    let new_root : IsNewRoot old.present new.present next = elim (forgets.succeeds.root next here) [
      | inl same ↦ absurd (none-some (root_bytes next) (sym none ∙ same.cell))
      | inr new ↦ new
    ] in
    record {
      ordered = omega (arith, low, now, forgets.succeeds.rises);
      old_tree = λ addr. refl;
      new_tree = trees_are_traces new.present.readable next after is.tree is.apart;
      old_below = λ addr has. absurd (none-some has.trace has.is);
      new_below = below_head after.places next.head is.below;
      same = λ addr trace said less.
          let p = said_place after.places addr trace said in
          let kept : HasPlace old.present p.0 = forgets.succeeds.kept p.0 (record { root = next; parts = after; is = here; tree = is.tree; has = p.1 }) (omega (arith, p.2, less, low)) in
          absurd (none-some (root_bytes kept.root) (sym none ∙ kept.is.cell));
      new_top = omega (arith, low, new_root.node);
      old_top = tt;
      between = λ page has. absurd (omega (arith, has.1));
    }

pub fitting_format : (tells : Type 0) (written written_now : Option (List ℕ)) (old new : History) (base : ℕ) (Done : Type 0) → tells → Forgets old new → PutsBehindPages written written_now old new
    → Certifies tells written written_now old new base 0 (IsOfFormat old.present new.present) Done → KeepsFitting written written_now old new
fitting_format tells written written_now old new base Done told forgets put_behind certifies = elim certifies [
  | inl none ↦ fitting_unput written written_now old new none.0 (none.1 told)
  | inr p ↦ puts_fit tells written written_now old new base 0 (IsOfFormat old.present new.present) Done told forgets.turns put_behind p
      (λ root is. absurd (none-some (root_bytes root) (sym (p.is told).0 ∙ is.cell)))
      next_fits
]
  where
    next_fits : (cert : Cert) (next : Root) → FitsText cert → FitsRoot next → next.commit ≡ 0 → new.present.cell ≡ Some (root_bytes next) → IsOfFormat old.present new.present next cert
        → (text : List ℕ) → FitsImage text old.present → FitsImage (text ++ entry cert) new.present
    next_fits cert next in_text in_range number came is text f =
        let now = came_root new.present next (During-now old new IsSound forgets.sound) in_range came in
        let stands : StandsBy new.present now.0 next now.1 = now.2 in
        let of = is.1 in
        let same : of.after ≡ now.1 = one_tree new.present.readable next of.after now.1 in_range of.tree stands.tree in
        let cert_of : CertOf (entries_of []) (entries_of now.1.places) 0 next.addr (length old.present.recorded) next.head [] cert =
        subst (λ (n : ℕ). CertOf (entries_of []) (entries_of now.1.places) n next.addr (length old.present.recorded) next.head [] cert) number
        (subst (λ (parts : Parts). CertOf (entries_of []) (entries_of parts.places) next.commit next.addr (length old.present.recorded) next.head [] cert) same of.is) in
        record {
          certs = f.certs ++ cert ∷ [];
          ledger = entry_adds text f.certs cert in_text f.ledger;
          fits = inr (record {
            root = next;
            is = root_of_stands new.present now.0 next now.1 stands;
            parts = now.1;
            tree = stands.tree;
            fits = fits_first f.certs next (length old.present.recorded) now.1.places cert number (first_succeeds old new now.0 next now.1 is.0 stands forgets) cert_of;
          });
        }

-- ---- from a state of the session

-- a session that has an array over an image has a list of its keys
listed : (session : Session) (image : Image) (device : Device) (contents : Blocks) → Holds session image device contents → HoldsListed session image (map (λ s. bare s.key) (places_of session.grove))
listed session image device contents h = record {
  device = device;
  contents = contents;
  holds = h;
  listed = λ s has mine. map_contains (λ (s : Stub). bare s.key) (places_of session.grove) s has;
}

session_holds : (session : Session) (image : Image) (device : Option Device) (there : Option OpenSession) → IsSessionOf (Some session) image device there → (d : Device) × (contents : Blocks) × Holds session image d contents
session_holds session image None None is = absurd is
session_holds session image None (Some there) is = absurd is
session_holds session image (Some device) None is = absurd is
session_holds session image (Some device) (Some there) is = (device, there.contents, is.0)

-- a commit, by its public clauses
pub fitting_committed : (tells : Type 0) (written written_now : Option (List ℕ)) (old new : History) (held : Option Session) (session : Session) (Done : Type 0) → held ≡ Some session
    → (tells → (keys : List (List ℕ)) → HoldsListed session old.present keys → Forgets old new)
    → Certifies tells written written_now old new session.root.head (session.root.commit + 1) (IsOfCommit session old.present new.present) Done → (tells → PutsBehindPages written written_now old new)
    → tells → (entry : State) → IsAt old.present held entry → KeepsFitting written written_now old new
fitting_committed tells written written_now old new held session Done is forgets certifies put_behind told entry at =
    let there : IsSessionOf (Some session) old.present entry.device entry.session = subst (λ (s : Option Session). IsSessionOf s old.present entry.device entry.session) is at.there.session in
    let h = session_holds session old.present entry.device entry.session there in
    fitting_commit tells written written_now old new session h.0 h.1 Done told h.2
    (forgets told (map (λ (s : Stub). bare s.key) (places_of session.grove)) (listed session old.present h.0 h.1 h.2)) (put_behind told) certifies

-- a format, by its public clauses
pub fitting_formatted : (tells : Type 0) (written written_now : Option (List ℕ)) (old new : History) (held : Option Session) (base : ℕ) (Done : Type 0) → (tells → IsSound old.present → Forgets old new)
    → Certifies tells written written_now old new base 0 (IsOfFormat old.present new.present) Done → (tells → PutsBehindPages written written_now old new)
    → tells → (entry : State) → IsAt old.present held entry → KeepsFitting written written_now old new
fitting_formatted tells written written_now old new held base Done forgets certifies put_behind told entry at =
    fitting_format tells written written_now old new base Done told (forgets told (entry.device, at.there.device)) (put_behind told) certifies

-- an upgrade, by its public clauses
pub fitting_upgraded : (tells : Type 0) (written written_now : Option (List ℕ)) (old new : History) (Done : Type 0) → (tells → IsSound old.present → Forgets old new) → CertifiesUpgrade tells written written_now old new Done
    → (tells → PutsBehindPages written written_now old new) → tells → (entry : State) → IsAt old.present None entry → KeepsFitting written written_now old new
fitting_upgraded tells written written_now old new Done forgets certifies put_behind told entry at =
    let sound : IsSound old.present = (entry.device, at.there.device) in
    fitting_upgrade tells written written_now old new Done told sound (forgets told sound) (put_behind told) certifies

-- ---- a loss of power

-- what it leaves of an image that stands is fitted by the same ledgers
pub fits_left : (text : List ℕ) (image : Image) (device : Option Device) → Stands image device → FitsImage text image → LeavesOnly (FitsImage text) image
fits_left text image None stands f left leaves = fits_emptied text image left (leaves.cell ∙ stands) f
fits_left text image (Some device) (root, parts, stands) f left leaves =
    let tree : Tree left.readable root parts = tree_kept image.readable left.readable root parts stands.tree
    (All-weaker (λ (p : Place). p.addr < root.head) (ReadsAlike image.readable left.readable) (λ place below. synced-stays image left place.addr leaves (omega (arith, stands.head, below))) parts.places stands.below) in
    record {
      certs = f.certs;
      ledger = f.ledger;
      fits = elim f.fits [
        | inl none ↦ inl (leaves.cell ∙ none)
        | inr c ↦ inr (record {
          root = root;
          is = record { cell = leaves.cell ∙ stands.cell; in_range = stands.in_range; key = stands.key };
          parts = parts;
          tree = tree;
          fits = cell_fits image device root parts f.certs stands c;
        })
      ];
    }

-- and so is what it leaves at each moment of a part of which it is known what each image stands for
pub leaves_fitting : (written written_now : Option (List ℕ)) (old new : History) → During old new (λ image. (d : Option Device) × LeavesOnly (λ left. Stands left d) image) → KeepsFitting written written_now old new
    → LeavesFitting written written_now old.present old new
leaves_fitting written written_now old new stands k = record {
  put = k.put;
  got = k.got;
  fits = λ text f.
      let fits = k.fits text f in
      let last = During-now old new (λ image. (d : Option Device) × LeavesOnly (λ left. Stands left d) image) stands in
      record {
        now = fits_left (text ++ k.put) new.present last.0 (LeavesOnly-now new (λ left. Stands left last.0) last.1) fits.now;
        each = λ told i from to all.
            let there = stands.each i from to in
            fits_left (text ++ k.put) (image_at new i) there.0 (there.1 (image_at new i) (may_leave_itself new i)) (fits.each told i from to all);
      };
}

-- one run after another, over what a loss of power left of an image that the first one's ledger fits
pub leaves_over : (written mid written_now : Option (List ℕ)) (before left : Image) (cut new : History) (put : List ℕ) → Got written put mid → ((text : List ℕ) → FitsImage text before → FitsImage (text ++ put) left)
    → LeavesFitting mid written_now left cut new → LeavesFitting written written_now before cut new
leaves_over written mid written_now before left cut new put got fits b = record {
  put = put ++ b.put;
  got = Got-then written put mid b.put written_now got b.got;
  fits = λ text f.
      let after = b.fits (text ++ put) (fits text f) in
      let whole : (image : Image) → LeavesOnly (FitsImage ((text ++ put) ++ b.put)) image → LeavesOnly (FitsImage (text ++ (put ++ b.put))) image =
      λ image. subst (λ (t : List ℕ). LeavesOnly (FitsImage t) image) (append_assoc text put b.put) in
      record { now = whole new.present after.now; each = λ told i from to all. whole (image_at new i) (after.each (told_then written mid mid put told got) i from to all) };
}

-- where the power is lost at the exit of the first, and its last image is found
pub leaves_then : (written mid written_now : Option (List ℕ)) (old second cut new : History) (before : Image) → LeavesFitting written mid before old second → MayLeave second.present cut.present → LeavesFitting mid written_now cut.present cut new
    → LeavesFitting written written_now before cut new
leaves_then written mid written_now old second cut new before a leaves b =
    leaves_over written mid written_now before cut.present cut new a.put a.got (λ text f. (a.fits text f).now cut.present leaves) b

-- at the end alone
pub leaves_last : (written written_now : Option (List ℕ)) (before : Image) (old new : History) → LeavesFitting written written_now before old new → LeavesFitting written written_now before new new
leaves_last written written_now before old new a = record {
  put = a.put;
  got = a.got;
  fits = λ text f.
      let last = (a.fits text f).now in
      record { now = last; each = λ told i from to all. subst (LeavesOnly (FitsImage (text ++ a.put))) (sym (image_at-now new i from)) last };
}

-- ---- the ledger gets something only behind pages

-- by a call that adds some pages before
pub behind_added : {S W : Type 0} (P : PlatformGhosts S) (written : W → Option (List ℕ)) (added : ℕ) (platform platform_now : S) (ledger ledger_now : W) → (P.tells → (there : S) → length (P.history there).present.recorded ≡ P.head there)
    → 1 ≤ added → PutsSynced P added platform platform_now ledger ledger_now → P.tells → PutsBehindPages (written ledger) (written ledger_now) (P.history platform) (P.history platform_now)
behind_added P written added platform platform_now ledger ledger_now counts some (inl same) told none = ap written same
behind_added P written added platform platform_now ledger ledger_now counts some (inr adds) told none =
    absurd (omega (arith, some, adds.0, counts told platform, counts told platform_now, ap (λ (pages : List (List ℕ)). length pages) none))

-- by an upgrade
pub behind_upgrade : {S W : Type 0} (P : PlatformGhosts S) (written : W → Option (List ℕ)) (platform platform_now : S) (ledger ledger_now : W) → (P.tells → (there : S) → length (P.history there).present.recorded ≡ P.head there)
    → PutsUpgrade P platform platform_now ledger ledger_now → P.tells → PutsBehindPages (written ledger) (written ledger_now) (P.history platform) (P.history platform_now)
behind_upgrade P written platform platform_now ledger ledger_now counts (inl same) = behind_added P written 1 platform platform_now ledger ledger_now counts (omega arith) (inl same)
behind_upgrade P written platform platform_now ledger ledger_now counts (inr (root, begins, adds)) =
    behind_added P written (needed_of_root root) platform platform_now ledger ledger_now counts (root_needs root begins.on.within.in_range) (inr adds)
