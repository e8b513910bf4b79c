-- What the copying of data records comes to, one record after another.
use Rattle.std.proofs.Common.{◌≡◌, ◌∙◌, ap, sym, subst, refl, ◌+◌, ◌-◌, ◌<◌, ◌≤◌, ◌^◌, ℕ, zero, suc, List, [], ◌∷◌, ◌++◌, arith, length, length-append, take, set, get_or, append-nil, append_assoc, replicate}
use Rattle.std.specs.Prelude.{All, Contains, IfOk, IsOk, Result, Err, is_ok, true, false, slice_get}
use Rattle.sdbt_base.specs.Faults.{TellsOf}
use Rattle.sdbt_base.proofs.FaultLaws.{tells_then, tells_on}
use Rattle.std.proofs.lemmas.List.{map-append, length-map, take_more, take-set-le, take_all, length-set, get_or-set_same}
use Rattle.std.proofs.lemmas.List.Elements.{All-nil, All-push, All-weaker, Contains-append_left}
use Rattle.sdbt_base.specs.Arrays.{padded}
use Rattle.sdbt_base.specs.Bytes.{IsBytes}
use Rattle.sdbt_base.specs.Keys.{bare, version_of, IsKeyOf}
use Rattle.platform.specs.Image.{Image, with_page}
use Rattle.platform.specs.History.{History, CellStays}
use Rattle.platform.proofs.Moments.{whole-now, Extends-earlier, During-now}
use Rattle.seal_record.specs.Sealing.{masked}
use Rattle.page_digest.specs.Digest.{FitsDigest}
use Rattle.node_codec.specs.declared.body.Entry.{Entry}
use Rattle.node_codec.specs.Record.{Record, DataRecord, record_bytes}
use Rattle.page_store.specs.declared.refusals.FetchRefusal.{FetchRefusal}
use Rattle.page_store.specs.declared.refusals.FetchRefusal.TheVariants as fetches
use Rattle.page_store.specs.Buffer.{Held}
use Rattle.page_store.specs.Places.{IsRecordAt, NothingFits, block_want}
use Rattle.page_store.specs.Stands.{IsSound}
use Rattle.page_store.proofs.RecordLaws.{record_kept, record_stays, record_appended}
use Rattle.page_store.proofs.LeafLaws.{data_stay}
use Rattle.page_store.proofs.StandsLaws.{stands_later}
use Rattle.tree_build.specs.Nodes.{AreData, AreFrom}
use Rattle.tree_build.specs.Building.{with_pages}
use Rattle.device_core.specs.declared.copying.CopyRefusal.TheVariants as copies
use Rattle.device_core.specs.Copying.{CopiesOne, Copies, StopsAt, unread}

-- ---- refusals

pub unread_bad : (fetch : FetchRefusal) (addr : ℕ) → unread fetch ≡ copies.BadRecord addr → fetch ≡ fetches.BadRecord addr
unread_bad (fetches.BadRecord a) addr is = cc
unread_bad fetches.PlatformFault addr is = absurd cc

-- nothing is said of a value where there is none
pub if_err : {T E : Type 0} (result : Result T E) (e : E) (P : T → Type 0) → result ≡ Err e → IfOk result P
if_err result e P is = subst (λ r. IfOk r P) (sym is) tt

-- an error is no answer
pub never_ok : {T E : Type 0} (result : Result T E) (e : E) → result ≡ Err e → IsOk result → ⊥
never_ok result e is ok = let no : false ≡ true = ap is_ok (sym is) ∙ ok in cc

-- a cause that was told of one call is told of the calls with those before it, at which the count stayed
pub told_on : {T U E : Type 0} (fault e : E) (before mid now : ℕ) → TellsOf {T = T} fault (Err e) mid now → mid ≡ before → TellsOf {T = U} fault (Err e) before now
told_on {T} {U} {E} fault e before mid now told same = tells_on {T = T} {U = U} fault e before now (tells_then {T = T} fault (Err e) before mid now same told)

-- an image that stands stands while the cell stays
pub sound_still : (old new : History) → CellStays old new → IsSound old.present → IsSound new.present
sound_still old new stays sound =
    (sound.0, stands_later old.present new.present sound.0 (Extends-earlier old new stays.extends) (During-now old new (λ image. image.cell ≡ old.present.cell) stays) sound.1)

-- ---- one record

-- a whole block is not padded
pub padded_whole : (bytes : List ℕ) → length bytes ≡ 4096 → padded bytes ≡ bytes
padded_whole bytes len = let none : 4096 - length bytes ≡ 0 = omega (arith, len) in ap (λ (n : ℕ). bytes ++ replicate n 0) none ∙ append-nil bytes

-- the body is the data record of what was read
pub body_of : (held now : Held) (given at low : ℕ) (bytes content : List ℕ) → ((version : ℕ) → now ≡ record held { body = record_bytes version given (DataRecord low (padded bytes)) }) → bytes ≡ content → length bytes ≡ 4096 → given ≡ at
    → (version : ℕ) → now.body ≡ record_bytes version at (DataRecord low content)
body_of held now given at low bytes content is same size here version =
    ap (λ (h : Held). h.body) (is version)
    ∙ (ap (λ (c : List ℕ). record_bytes version given (DataRecord low c)) (padded_whole bytes size ∙ same)
    ∙ ap (λ (n : ℕ). record_bytes version n (DataRecord low content)) here)

pub copied_one : (tells : Type 0) (old looked new : History) (head head_now low from addr : ℕ) (key copy body content : List ℕ)
    → (tells → looked.present ≡ old.present) → (tells → length old.present.recorded ≡ head) → head < 2 ^ 64
    → addr ≡ head → head_now ≡ head + 1 → IsKeyOf 2 copy → FitsDigest copy (masked copy body) → (tells → new.present ≡ with_page looked.present (masked copy body) (masked copy body))
    → ((version : ℕ) → body ≡ record_bytes version head (DataRecord low content)) → (low < 1048576) × IsBytes 4096 content
    → (tells → IsRecordAt old.present.readable from key (DataRecord low content))
    → CopiesOne tells head head_now old.present new.present (record { low = low; addr = from; key = key }) (record { low = low; addr = addr; key = copy })
copied_one tells old looked new head head_now low from addr key copy body content same pages room here next sized digest appended spelled fits read =
    let value : Record = DataRecord low content in
    let bytes : List ℕ = record_bytes (version_of copy) head value in
    let is : body ≡ bytes = spelled (version_of copy) in
    record {
      low = refl;
      addr = here;
      key = sized;
      head_is = next;
      page = masked copy body;
      image = λ told. appended told ∙ ap (λ (i : Image). with_page i (masked copy body) (masked copy body)) (same told);
      content = content;
      read = read;
      made = λ told.
          let many : head ≡ length old.present.readable = sym (pages told) ∙ sym (whole-now old).as_many in
          let made : IsRecordAt (old.present.readable ++ masked copy bytes ∷ []) head copy value = record_appended old.present.readable head copy value room many fits (subst (λ (b : List ℕ). FitsDigest copy (masked copy b)) is digest) in
          let reads : new.present.readable ≡ old.present.readable ++ masked copy bytes ∷ [] =
          ap (λ (i : Image). i.readable) (appended told) ∙ (ap (λ (i : Image). i.readable ++ masked copy body ∷ []) (same told) ∙ ap (λ (b : List ℕ). old.present.readable ++ masked copy b ∷ []) is) in
          subst (λ (ps : List (List ℕ)). IsRecordAt ps addr copy value) (sym reads) (subst (λ (n : ℕ). IsRecordAt (old.present.readable ++ masked copy bytes ∷ []) n copy value) (sym here) made);
    }

-- ---- one after another

-- so many of the entries were copied, and name the new data records
pub record Copying (tells : Type 0) (head head_now : ℕ) (old now : Image) (index : ℕ) (entries current : List Entry) : Type 0 where
  pub first : List Entry
  pub rest : List Entry
  pub named : List Entry
  pub split : entries ≡ first ++ rest
  pub is : current ≡ named ++ rest
  pub many : length first ≡ index
  pub are : Copies tells head head_now old now first named

no_pages : (image : Image) → image ≡ with_pages image []
no_pages image = sym (λ i. record { cell = image.cell; recorded = append-nil image.recorded i; readable = append-nil image.readable i; synced = image.synced })

pub copying_none : (tells : Type 0) (head : ℕ) (old : Image) (entries : List Entry) → Copying tells head head old old 0 entries entries
copying_none tells head old entries = record {
  first = [];
  rest = entries;
  named = [];
  split = refl;
  is = refl;
  many = refl;
  are = record {
    lows = refl;
    from = tt;
    keys = All-nil (λ (e : Entry). IsKeyOf 2 e.key);
    head_is = omega arith;
    pages = [];
    many = refl;
    image = λ told. no_pages old;
    contents = [];
    read = λ told. tt;
    made = λ told. tt;
  };
}

from_push : (first : ℕ) (es : List Entry) (e : Entry) → AreFrom first es → e.addr ≡ first + length es → AreFrom first (es ++ e ∷ [])
from_push first [] e from at = (omega (arith, at), tt)
from_push first (x ∷ es) e from at = (from.0, from_push (suc first) es e from.1 (omega (arith, at)))

data_push : (pages : List (List ℕ)) (es : List Entry) (contents : List (List ℕ)) (e : Entry) (content : List ℕ) → AreData pages es contents → IsRecordAt pages e.addr e.key (DataRecord e.low content) → AreData pages (es ++ e ∷ []) (contents ++ content ∷ [])
data_push pages [] [] e content are is = (is, tt)
data_push pages [] (c ∷ contents) e content are is = absurd are
data_push pages (x ∷ es) [] e content are is = absurd are
data_push pages (x ∷ es) (c ∷ contents) e content are is = (are.0, data_push pages es contents e content are.1 is)

-- a page that was there reads as before
front_reads : (pages more : List (List ℕ)) (addr : ℕ) → addr < length pages → slice_get pages addr ≡ slice_get (pages ++ more) addr
front_reads [] more addr within = absurd (omega (arith, within))
front_reads (page ∷ pages) more zero within = refl
front_reads (page ∷ pages) more (suc addr) within = front_reads pages more addr (omega (arith, within))

as_many : (tells : Type 0) (head head_now : ℕ) (old now : Image) (first named : List Entry) → Copies tells head head_now old now first named → length named ≡ length first
as_many tells head head_now old now first named c = sym (length-map named (λ (e : Entry). e.low)) ∙ (ap length c.lows ∙ length-map first (λ (e : Entry). e.low))

copies_more : (tells : Type 0) (head mid head_now : ℕ) (old now new : Image) (first named : List Entry) (entry copy : Entry) → (tells → length old.readable ≡ head) → entry.addr < head
    → Copies tells head mid old now first named → CopiesOne tells mid head_now now new entry copy → Copies tells head head_now old new (first ++ entry ∷ []) (named ++ copy ∷ [])
copies_more tells head mid head_now old now new first named entry copy size below c one =
    let many = as_many tells head mid old now first named c in
    let image : tells → new ≡ with_pages old (c.pages ++ one.page ∷ []) =
    λ told. one.image told ∙ (ap (λ (i : Image). with_page i one.page one.page) (c.image told)
    ∙ (λ i. record { cell = old.cell; recorded = append_assoc old.recorded c.pages (one.page ∷ []) i; readable = append_assoc old.readable c.pages (one.page ∷ []) i; synced = old.synced })) in
    let behind : tells → new.readable ≡ now.readable ++ one.page ∷ [] = λ told. ap (λ (i : Image). i.readable) (one.image told) in
    let before : tells → now.readable ≡ old.readable ++ c.pages = λ told. ap (λ (i : Image). i.readable) (c.image told) in
    record {
      lows = map-append (λ (e : Entry). e.low) named (copy ∷ []) ∙ ((λ i. c.lows i ++ one.low i ∷ []) ∙ sym (map-append (λ (e : Entry). e.low) first (entry ∷ [])));
      from = from_push head named copy c.from (omega (arith, one.addr, c.head_is, many));
      keys = All-push (λ (e : Entry). IsKeyOf 2 e.key) named copy c.keys one.key;
      head_is = omega (arith, one.head_is, c.head_is, length-append first (entry ∷ []));
      pages = c.pages ++ one.page ∷ [];
      many = omega (arith, c.many, length-append c.pages (one.page ∷ []), length-append first (entry ∷ []));
      image = image;
      contents = c.contents ++ one.content ∷ [];
      read = λ told. data_push old.readable first c.contents entry one.content (c.read told)
          (record_kept now.readable old.readable entry.addr entry.key (DataRecord entry.low one.content)
          (front_reads old.readable c.pages entry.addr (omega (arith, size told, below)) ∙ ap (λ (ps : List (List ℕ)). slice_get ps entry.addr) (sym (before told))) (one.read told));
      made = λ told. data_push new.readable named c.contents copy one.content
          (subst (λ (ps : List (List ℕ)). AreData ps named c.contents) (sym (behind told)) (data_stay now.readable (one.page ∷ []) named c.contents (c.made told))) (one.made told);
    }

set_seam : (named rest : List Entry) (index : ℕ) (entry copy : Entry) → length named ≡ index → set (named ++ entry ∷ rest) index copy ≡ (named ++ copy ∷ []) ++ rest
set_seam [] rest zero entry copy at = refl
set_seam [] rest (suc index) entry copy at = absurd (omega (arith, at))
set_seam (x ∷ named) rest zero entry copy at = absurd (omega (arith, at))
set_seam (x ∷ named) rest (suc index) entry copy at = ap (λ (es : List Entry). x ∷ es) (set_seam named rest index entry copy (omega (arith, at)))

get_seam : (named rest : List Entry) (index : ℕ) (entry d : Entry) → length named ≡ index → get_or (named ++ entry ∷ rest) index d ≡ entry
get_seam [] rest zero entry d at = refl
get_seam [] rest (suc index) entry d at = absurd (omega (arith, at))
get_seam (x ∷ named) rest zero entry d at = absurd (omega (arith, at))
get_seam (x ∷ named) rest (suc index) entry d at = get_seam named rest index entry d (omega (arith, at))

-- where an entry is left it is the next one
pub record Next (rest : List Entry) (entry : Entry) : Type 0 where
  pub after : List Entry
  pub is : rest ≡ entry ∷ after

next_one : (named rest : List Entry) (index : ℕ) (entry d : Entry) → length named ≡ index → index < length (named ++ rest) → entry ≡ get_or (named ++ rest) index d → Next rest entry
next_one named [] index entry d at within is = absurd (omega (arith, at, within, length-append named []))
next_one named (e ∷ after) index entry d at within is = record { after = after; is = ap (λ (x : Entry). x ∷ after) (sym (is ∙ get_seam named after index e d at)) }

pub copying_next : (tells : Type 0) (head mid : ℕ) (old now : Image) (index : ℕ) (entries current : List Entry) (entry d : Entry) (c : Copying tells head mid old now index entries current) → index < length current → entry ≡ get_or current index d → Next c.rest entry
copying_next tells head mid old now index entries current entry d c within is =
    let at : length c.named ≡ index = as_many tells head mid old now c.first c.named c.are ∙ c.many in
    next_one c.named c.rest index entry d at (subst (λ (es : List Entry). index < length es) c.is within) (is ∙ ap (λ (es : List Entry). get_or es index d) c.is)

pub copying_more : (tells : Type 0) (head mid head_now : ℕ) (old now new : Image) (index : ℕ) (entries current : List Entry) (entry copy d : Entry) → (tells → length old.readable ≡ head) → entry.addr < head
    → index < length current → entry ≡ get_or current index d → Copying tells head mid old now index entries current → CopiesOne tells mid head_now now new entry copy
    → Copying tells head head_now old new (index + 1) entries (set current index copy)
copying_more tells head mid head_now old now new index entries current entry copy d size below within here c one =
    let at : length c.named ≡ index = as_many tells head mid old now c.first c.named c.are ∙ c.many in
    let next = copying_next tells head mid old now index entries current entry d c within here in
    record {
      first = c.first ++ entry ∷ [];
      rest = next.after;
      named = c.named ++ copy ∷ [];
      split = c.split ∙ (ap (λ (es : List Entry). c.first ++ es) next.is ∙ sym (append_assoc c.first (entry ∷ []) next.after));
      is = ap (λ (es : List Entry). set es index copy) (c.is ∙ ap (λ (es : List Entry). c.named ++ es) next.is) ∙ set_seam c.named next.after index entry copy at;
      many = omega (arith, c.many, length-append c.first (entry ∷ []));
      are = copies_more tells head mid head_now old now new c.first c.named entry copy size below c.are one;
    }

-- where each entry was copied
pub copying_all : (tells : Type 0) (head mid : ℕ) (old now : Image) (index : ℕ) (entries current : List Entry) → Copying tells head mid old now index entries current → length current ≤ index → Copies tells head mid old now entries current
copying_all tells head mid old now index entries current c over =
    let at : length c.named ≡ index = as_many tells head mid old now c.first c.named c.are ∙ c.many in
    let none : c.rest ≡ [] = no_rest c.rest (omega (arith, at, over, ap length c.is, length-append c.named c.rest)) in
    subst (λ (es : List Entry). Copies tells head mid old now es current) (sym (c.split ∙ (ap (λ (es : List Entry). c.first ++ es) none ∙ append-nil c.first)))
    (subst (λ (es : List Entry). Copies tells head mid old now c.first es) (sym (c.is ∙ (ap (λ (es : List Entry). c.named ++ es) none ∙ append-nil c.named))) c.are)
  where
    no_rest : (es : List Entry) → length es ≡ 0 → es ≡ []
    no_rest [] size = refl
    no_rest (e ∷ es) size = absurd (omega (arith, size))

-- where the data record of the next one doesn't fit
pub copying_stops : (tells : Type 0) (head mid : ℕ) (old now : Image) (index addr : ℕ) (entries current : List Entry) (entry d : Entry) → index < length current → entry ≡ get_or current index d → Copying tells head mid old now index entries current → tells
    → addr ≡ entry.addr → NothingFits now.readable (block_want entry.addr entry.low) entry.key → StopsAt old.readable addr entries
copying_stops tells head mid old now index addr entries current entry d within is c told here nothing =
    let next = copying_next tells head mid old now index entries current entry d c within is in
    record {
      before = c.first;
      entry = entry;
      after = next.after;
      split = c.split ∙ ap (λ (es : List Entry). c.first ++ es) next.is;
      contents = c.are.contents;
      read = c.are.read told;
      here = here;
      nothing = λ value fits. nothing value (
        subst (λ (ps : List (List ℕ)). IsRecordAt ps entry.addr entry.key value) (sym (ap (λ (i : Image). i.readable) (c.are.image told))) (record_stays old.readable c.are.pages entry.addr entry.key value fits.0),
        fits.1,
      );
    }

-- the next entry is one of those from before
pub copying_has : (tells : Type 0) (head mid : ℕ) (old now : Image) (index : ℕ) (entries current : List Entry) (entry d : Entry) (Is : Entry → Type 0) → index < length current → entry ≡ get_or current index d → Copying tells head mid old now index entries current
    → All Is entries → Is entry
copying_has tells head mid old now index entries current entry d Is within is c all =
    let next = copying_next tells head mid old now index entries current entry d c within is in
    let whole : entries ≡ c.first ++ entry ∷ next.after = c.split ∙ ap (λ (es : List Entry). c.first ++ es) next.is in
    all_seam Is c.first entry next.after (subst (All Is) whole all)
  where
    all_seam : (Is : Entry → Type 0) (first : List Entry) (entry : Entry) (after : List Entry) → All Is (first ++ entry ∷ after) → Is entry
    all_seam Is first entry after all = subst Is (get_seam first after (length first) entry entry refl) (all (length first) entry (omega (arith, length-append first (entry ∷ after))))

-- ---- keys

-- the key of an entry is listed, without its digest
abbrev pub IsListed : List (List ℕ) → Entry → Type 0
IsListed keys entry = Contains keys (bare entry.key)

-- with one more
pub listed_more : (keys more : List (List ℕ)) (current : List Entry) (index : ℕ) (copy : Entry) → index < length current → All (IsListed keys) (take index current) → IsListed (keys ++ more) copy → All (IsListed (keys ++ more)) (take (index + 1) (set current index copy))
listed_more keys more current index copy within listed own =
    let long = length-set current index copy in
    let cut : take (index + 1) (set current index copy) ≡ take index current ++ copy ∷ [] =
    take_more (set current index copy) index copy (omega (arith, within, long)) ∙ (λ i. take-set-le index current index copy (omega arith) i ++ get_or-set_same current index copy copy within i ∷ []) in
    subst (All (IsListed (keys ++ more))) (sym cut)
    (All-push (IsListed (keys ++ more)) (take index current) copy (All-weaker (IsListed keys) (IsListed (keys ++ more)) (λ e has. Contains-append_left keys more (bare e.key) has) (take index current) listed) own)

-- and all of them
pub listed_all : (keys : List (List ℕ)) (current : List Entry) (index : ℕ) → length current ≤ index → All (IsListed keys) (take index current) → All (IsListed keys) current
listed_all keys current index over listed = subst (All (IsListed keys)) (take_all index current over) listed
