-- What was read and what is wanted there: whether it fits.
use Rattle.std.proofs.Common.{◌≡◌, ℕ, List, drop, sym, ap, subst, ◌∙◌, arith}
use Rattle.std.specs.Prelude.{Option, Some, slice_get}
use Rattle.sdbt_base.specs.Keys.{version_of}
use Rattle.seal_record.specs.Sealing.{masked}
use Rattle.node_codec.specs.Record.{Record, DataRecord, NodeRecord, FitsRecord, record_bytes}
use Rattle.page_digest.specs.Digest.{FitsDigest}
use Rattle.page_store.specs.declared.wants.Want.{Want}
use Rattle.page_store.specs.Places.{IsWantedRecord, FitsAt, NothingFits}

pub same_some : {A : Type 0} (x y : A) → Some x ≡ Some y → x ≡ y
same_some x y same = cc

-- the page that was read has the digest, and its body is what is wanted
pub fits_there : (pages : List (List ℕ)) (want : Want) (key page body : List ℕ) (value : Record) → slice_get pages want.addr ≡ Some page → body ≡ masked key page → FitsDigest key page → IsWantedRecord (version_of key) want body value → FitsAt pages want key value
fits_there pages want key page body value reads is digest wanted =
    (record { page = page; reads = reads; in_range = wanted.in_range; spelled = sym is ∙ wanted.spelled; digested = digest }, wanted.wanted)

-- its body is nothing that is wanted
pub nothing_wanted : (pages : List (List ℕ)) (want : Want) (key page body : List ℕ) → slice_get pages want.addr ≡ Some page → body ≡ masked key page → ((value : Record) → IsWantedRecord (version_of key) want body value → ⊥) → NothingFits pages want key
nothing_wanted pages want key page body reads is none value fits =
    let same : fits.0.page ≡ page = same_some _ _ (sym fits.0.reads ∙ reads) in
    none value (record { in_range = fits.0.in_range; spelled = is ∙ ap (masked key) (sym same) ∙ fits.0.spelled; wanted = fits.1 })

-- it has another digest
pub nothing_digested : (pages : List (List ℕ)) (want : Want) (key page : List ℕ) → slice_get pages want.addr ≡ Some page → (FitsDigest key page → ⊥) → NothingFits pages want key
nothing_digested pages want key page reads other value fits =
    let same : fits.0.page ≡ page = same_some _ _ (sym fits.0.reads ∙ reads) in
    other (subst (FitsDigest key) same fits.0.digested)

-- the data record of the block is wanted, in each version
pub block_wanted : (want : Want) (body : List ℕ) (block : ℕ) → want.level ≡ 0 → block ≡ want.low
    → ((version : ℕ) → FitsRecord version want.addr (DataRecord block (drop 32 body)) × (body ≡ record_bytes version want.addr (DataRecord block (drop 32 body))))
    → (version : ℕ) → IsWantedRecord version want body (DataRecord want.low (drop 32 body))
block_wanted want body block level same found version =
    subst (λ (b : ℕ). IsWantedRecord version want body (DataRecord b (drop 32 body))) same
    (record { in_range = (found version).0; spelled = (found version).1; wanted = (level, same) })

-- no record is, where no data record of the block is there
pub no_block_wanted : (want : Want) (body : List ℕ) (found : Option ℕ) → want.level ≡ 0
    → ((version block : ℕ) (content : List ℕ) → FitsRecord version want.addr (DataRecord block content) → body ≡ record_bytes version want.addr (DataRecord block content) → found ≡ Some block)
    → (found ≡ Some want.low → ⊥) → (version : ℕ) (value : Record) → IsWantedRecord version want body value → ⊥
no_block_wanted want body found level again other version (DataRecord block content) wanted = other (again version block content wanted.in_range wanted.spelled ∙ ap (λ (b : ℕ). Some b) wanted.wanted.1)
no_block_wanted want body found level again other version (NodeRecord at entries) wanted = omega (arith, wanted.in_range.0.level_least, wanted.wanted.same_level, level)
