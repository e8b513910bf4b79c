-- What the copying of data records does: each is sealed anew behind what there is, in their order, and the old pages stay.
use Rattle.std.specs.Prelude.{◌≡◌, ◌≤◌, ◌<◌, ◌+◌, ℕ, List, ◌∷◌, ◌++◌, All, length, map}
use Rattle.sdbt_base.specs.Keys.{IsKeyOf}
use Rattle.platform.specs.Image.{Image, with_page}
use Rattle.node_codec.specs.declared.body.Entry.{Entry}
use Rattle.node_codec.specs.Record.{DataRecord}
use Rattle.page_store.specs.Places.{IsRecordAt, NothingFits, block_want}
use Rattle.page_store.specs.declared.refusals.FetchRefusal.{FetchRefusal}
use Rattle.page_store.specs.declared.refusals.FetchRefusal.TheVariants as fetches
use Rattle.page_store.specs.declared.refusals.AppendFault.{AppendFault}
use Rattle.page_store.specs.declared.refusals.AppendFault.TheVariants as appends
use Rattle.tree_build.specs.Nodes.{AreData, AreFrom}
use Rattle.tree_build.specs.Building.{with_pages}
use Rattle.device_core.specs.declared.copying.CopyRefusal.{CopyRefusal}
use Rattle.device_core.specs.declared.copying.CopyRefusal.TheVariants as copies

-- entries of blocks, whose data records lie below so many pages; and for each of them a page is free
pub record CanCopy (head capacity : ℕ) (entries : List Entry) : Type 0 where
  pub lows : All (λ (e : Entry). e.low < 1048576) entries
  pub below : All (λ (e : Entry). e.addr < head) entries
  pub room : head + length entries ≤ capacity

-- the data record of an entry was read, and sealed anew as the next page: another entry of its block names it there, with the digest of its page
pub record CopiesOne (tells : Type 0) (head head_now : ℕ) (old new : Image) (entry copy : Entry) : Type 0 where
  pub low : copy.low ≡ entry.low
  pub addr : copy.addr ≡ head
  pub key : IsKeyOf 2 copy.key
  pub head_is : head_now ≡ head + 1
  pub page : List ℕ
  pub image : tells → new ≡ with_page old page page
  pub content : List ℕ
  pub read : tells → IsRecordAt old.readable entry.addr entry.key (DataRecord entry.low content)
  pub made : tells → IsRecordAt new.readable copy.addr copy.key (DataRecord copy.low content)

-- so it is with each of these entries, in their order
pub record Copies (tells : Type 0) (head head_now : ℕ) (old new : Image) (entries copies : List Entry) : Type 0 where
  pub lows : map (λ (e : Entry). e.low) copies ≡ map (λ (e : Entry). e.low) entries
  pub from : AreFrom head copies
  pub keys : All (λ (e : Entry). IsKeyOf 2 e.key) copies
  pub head_is : head_now ≡ head + length entries
  pub pages : List (List ℕ)
  pub many : length pages ≡ length entries
  pub image : tells → new ≡ with_pages old pages
  pub contents : List (List ℕ)
  pub read : tells → AreData old.readable entries contents
  pub made : tells → AreData new.readable copies contents

-- the data records of the first entries are there, and that of the next one, at this address, is not
pub record StopsAt (pages : List (List ℕ)) (addr : ℕ) (entries : List Entry) : Type 0 where
  pub before : List Entry
  pub entry : Entry
  pub after : List Entry
  pub split : entries ≡ before ++ entry ∷ after
  pub contents : List (List ℕ)
  pub read : AreData pages before contents
  pub here : addr ≡ entry.addr
  pub nothing : NothingFits pages (block_want entry.addr entry.low) entry.key

-- why a record was not copied, where it was not read, or not appended
abbrev pub unread : FetchRefusal → CopyRefusal
unread (fetches.BadRecord addr) = copies.BadRecord addr
unread fetches.PlatformFault = copies.PlatformFault

abbrev pub unplaced : AppendFault → CopyRefusal
unplaced appends.TapeFault = copies.TapeFault
unplaced appends.PlatformFault = copies.PlatformFault
