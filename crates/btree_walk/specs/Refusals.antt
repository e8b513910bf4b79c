-- Why a walk stops where a record was not fetched.
use Rattle.page_store.specs.declared.refusals.FetchRefusal.{FetchRefusal}
use Rattle.page_store.specs.declared.refusals.FetchRefusal.TheVariants as fetches
use Rattle.btree_walk.specs.declared.refusals.WalkRefusal.{WalkRefusal}
use Rattle.btree_walk.specs.declared.refusals.WalkRefusal.TheVariants as walks

-- the refusal of a walk where a record was refused
abbrev pub refused : FetchRefusal → WalkRefusal
refused (fetches.BadRecord addr) = walks.BadRecord addr
refused fetches.PlatformFault = walks.PlatformFault
