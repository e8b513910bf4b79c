-- That a page is one record at most, and what an appended page is.
use Rattle.std.proofs.Common.{◌≡◌, ℕ, zero, suc, ◌<◌, ◌^◌, List, [], ◌∷◌, ◌++◌, length, refl, sym, ap, subst, ◌∙◌, inl, arith}
use Rattle.std.specs.Prelude.{Some, slice_get}
use Rattle.sdbt_base.specs.Keys.{version_of}
use Rattle.sdbt_base.proofs.KeyLaws.{version_plain}
use Rattle.record_versions.specs.Laws.{no_digest}
use Rattle.page_digest.specs.Digest.{FitsDigest}
use Rattle.seal_record.specs.Sealing.{masked}
use Rattle.seal_record.proofs.SealingLaws.{masked-masked}
use Rattle.node_codec.specs.Record.{Record, FitsRecord, record_bytes}
use Rattle.node_codec.specs.Laws.{one_record as one_value, record_length}
use Rattle.page_store.specs.Places.{IsRecordAt}

-- a page is, under a key, one record at most
pub one_record : (pages : List (List ℕ)) (addr : ℕ) (key : List ℕ) (one other : Record) → addr < 2 ^ 64 → IsRecordAt pages addr key one → IsRecordAt pages addr key other → one ≡ other
one_record pages addr key one other small is is' =
    let page : is.page ≡ is'.page = let reads = sym is.reads ∙ is'.reads in cc in
    (one_value (version_of key) addr addr one other small small is.in_range is'.in_range (sym is.spelled ∙ ap (masked key) page ∙ is'.spelled)).1

-- ---- pages that read as before, and a page more

-- a page that reads as before is the record that it was
pub record_kept : (pages others : List (List ℕ)) (addr : ℕ) (key : List ℕ) (value : Record) → slice_get others addr ≡ slice_get pages addr → IsRecordAt pages addr key value → IsRecordAt others addr key value
record_kept pages others addr key value same is = record { page = is.page; reads = same ∙ is.reads; in_range = is.in_range; spelled = is.spelled; digested = is.digested }

pub slice_get-front : (pages more : List (List ℕ)) (addr : ℕ) (page : List ℕ) → slice_get pages addr ≡ Some page → slice_get (pages ++ more) addr ≡ Some page
slice_get-front [] more addr page reads = absurd cc
slice_get-front (first ∷ pages) more zero page reads = reads
slice_get-front (first ∷ pages) more (suc addr) page reads = slice_get-front pages more addr page reads

pub slice_get-end : (pages : List (List ℕ)) (page : List ℕ) (addr : ℕ) → addr ≡ length pages → slice_get (pages ++ page ∷ []) addr ≡ Some page
slice_get-end [] page zero at = refl
slice_get-end [] page (suc addr) at = absurd (omega arith)
slice_get-end (first ∷ pages) page zero at = absurd (omega arith)
slice_get-end (first ∷ pages) page (suc addr) at = slice_get-end pages page addr (omega arith)

-- pages that are added leave a record as it is
pub record_stays : (pages more : List (List ℕ)) (addr : ℕ) (key : List ℕ) (value : Record) → IsRecordAt pages addr key value → IsRecordAt (pages ++ more) addr key value
record_stays pages more addr key value is = record { page = is.page; reads = slice_get-front pages more addr is.page is.reads; in_range = is.in_range; spelled = is.spelled; digested = is.digested }

-- a record that is sealed and appended is there, if the key names the digest of its page where it names one
pub record_appended : (pages : List (List ℕ)) (addr : ℕ) (key : List ℕ) (value : Record) → addr < 2 ^ 64 → addr ≡ length pages → FitsRecord (version_of key) addr value → FitsDigest key (masked key (record_bytes (version_of key) addr value)) → IsRecordAt (pages ++ masked key (record_bytes (version_of key) addr value) ∷ []) addr key value
record_appended pages addr key value small at fits digest = record {
  page = masked key (record_bytes (version_of key) addr value);
  reads = slice_get-end pages (masked key (record_bytes (version_of key) addr value)) addr at;
  in_range = fits;
  spelled = masked-masked key (record_bytes (version_of key) addr value) (omega (arith, record_length (version_of key) addr value small fits));
  digested = digest;
}

-- ---- keys without digests

-- a page that is a record of version 1 under a key without a digest
pub plain_record : (pages : List (List ℕ)) (addr : ℕ) (key page : List ℕ) (value : Record) → length key ≡ 32 → slice_get pages addr ≡ Some page → FitsRecord 1 addr value → masked key page ≡ record_bytes 1 addr value → IsRecordAt pages addr key value
plain_record pages addr key page value plain reads fits spelled =
    let version : 1 ≡ version_of key = sym (version_plain key plain) in
    record {
      page = page;
      reads = reads;
      in_range = subst (λ v. FitsRecord v addr value) version fits;
      spelled = spelled ∙ ap (λ (v : ℕ). record_bytes v addr value) version;
      digested = inl (no_digest key plain);
    }

-- what is a record under such a key is one of version 1
pub plain_in_range : (pages : List (List ℕ)) (addr : ℕ) (key : List ℕ) (value : Record) → length key ≡ 32 → IsRecordAt pages addr key value → FitsRecord 1 addr value
plain_in_range pages addr key value plain is = subst (λ v. FitsRecord v addr value) (version_plain key plain) is.in_range

pub plain_spelled : (pages : List (List ℕ)) (addr : ℕ) (key : List ℕ) (value : Record) → length key ≡ 32 → (is : IsRecordAt pages addr key value) → masked key is.page ≡ record_bytes 1 addr value
plain_spelled pages addr key value plain is = is.spelled ∙ ap (λ (v : ℕ). record_bytes v addr value) (version_plain key plain)

-- the same of one that is sealed and appended
pub plain_appended : (pages : List (List ℕ)) (addr : ℕ) (key : List ℕ) (value : Record) → addr < 2 ^ 64 → addr ≡ length pages → length key ≡ 32 → FitsRecord 1 addr value → IsRecordAt (pages ++ masked key (record_bytes 1 addr value) ∷ []) addr key value
plain_appended pages addr key value small at plain fits =
    let page = masked key (record_bytes 1 addr value) in
    plain_record (pages ++ page ∷ []) addr key page value plain (slice_get-end pages page addr at) fits
    (masked-masked key (record_bytes 1 addr value) (omega (arith, record_length 1 addr value small fits)))
