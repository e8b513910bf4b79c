-- What a page says under a key, and what is wanted where.
use Rattle.std.specs.Prelude.{◌≡◌, ◌==◌, ◌<◌, ◌≤◌, ◌/◌, ℕ, List, Some, All, IfSome, if◌then◌else◌, length, slice_get}
use Rattle.sdbt_base.specs.Keys.{version_of}
use Rattle.seal_record.specs.Sealing.{masked}
use Rattle.page_digest.specs.Digest.{FitsDigest}
use Rattle.node_codec.specs.declared.body.Entry.{Entry}
use Rattle.node_codec.specs.Record.{Record, DataRecord, NodeRecord, FitsRecord, record_bytes}
use Rattle.root_codec.specs.declared.root.Root.{Root}
use Rattle.page_store.specs.declared.wants.Want.{Want}

-- the page at an address is, under a key, the record of that address with this value, in the version of the key; and where the key names
-- the digest of its page, it is the page's
pub record IsRecordAt (pages : List (List ℕ)) (addr : ℕ) (key : List ℕ) (value : Record) : Type 0 where
  pub page : List ℕ
  pub reads : slice_get pages addr ≡ Some page
  pub in_range : FitsRecord (version_of key) addr value
  pub spelled : masked key page ≡ record_bytes (version_of key) addr value
  pub digested : FitsDigest key page

-- a node of the level, with as many entries as may be, whose lows are within the bounds; an inner node begins at the lower bound
pub record IsNodeWanted (want : Want) (level : ℕ) (entries : List Entry) : Type 0 where
  pub same_level : level ≡ want.level
  pub least : want.least ≤ length entries
  pub most : length entries ≤ want.most
  pub from_low : All (λ e. want.low ≤ e.low) entries
  pub below_high : All (λ e. e.low < want.high) entries
  pub first : 2 ≤ level → IfSome (slice_get entries 0) (λ e. e.low ≡ want.low)

-- a value is what is wanted: at level 0 the data record of one block, else a node
abbrev pub IsWanted : Want → Record → Type 0
IsWanted want (DataRecord block content) = (want.level ≡ 0) × (block ≡ want.low)
IsWanted want (NodeRecord level entries) = IsNodeWanted want level entries

-- the bytes are a record of the version that is wanted
pub record IsWantedRecord (version : ℕ) (want : Want) (body : List ℕ) (value : Record) : Type 0 where
  pub in_range : FitsRecord version want.addr value
  pub spelled : body ≡ record_bytes version want.addr value
  pub wanted : IsWanted want value

-- the page at the place is, under the key, a record that is wanted there
abbrev pub FitsAt : List (List ℕ) → Want → List ℕ → Record → Type 0
FitsAt pages want key value = IsRecordAt pages want.addr key value × IsWanted want value

-- no record that is wanted at the place is there under the key
abbrev pub NothingFits : List (List ℕ) → Want → List ℕ → Type 0
NothingFits pages want key = (value : Record) → ¬ (FitsAt pages want key value)

-- what is wanted of a root node: a leaf may be empty, an inner node has two entries at least
abbrev pub root_want : Root → Want
root_want root = record {
  addr = root.addr;
  level = root.level;
  low = 0;
  high = root.blocks;
  least = (if root.level == 1 then 0 else 2);
  most = root.order;
}

-- what is wanted below an entry, up to a bound: half as many entries as may be, at least
abbrev pub child_want : ℕ → ℕ → Entry → ℕ → Want
child_want order level entry high = record {
  addr = entry.addr;
  level = level;
  low = entry.low;
  high = high;
  least = order / 2;
  most = order;
}

-- what is wanted where a data record of a block is to be
abbrev pub block_want : ℕ → ℕ → Want
block_want addr block = record { addr = addr; level = 0; low = block; high = 0; least = 0; most = 0 }
