use Rattle.std.proofs.Common.{◌≡◌, ℕ, Some, ap, arith, rules}
use Rattle.std.proofs.lemmas.List.{length-take}
use Rattle.volume_table.proofs.EntryLaws.{entry_spelled, entry_parts, volume_is}
use Rattle.volume_table.proofs.volume.Volume.of_entry.Goals as goal

pub slice_bounds-of_field-end : goal.slice_bounds-of_field-end
slice_bounds-of_field-end c = omega (arith, length-take {A = ℕ} 48 c.args.entry.now)

pub returns-in_err-name-clause-only : goal.returns-in_err-name-clause-only
returns-in_err-name-clause-only c v fits same =
    let parts = entry_parts c.args.entry.now v fits.name.most same in
    let read = c.in_err-name.ensures.only v.name fits.name parts.name in
    absurd (cc read)

pub returns-clause-found : goal.returns-clause-found
returns-clause-found c = (
  record { name = c.in_ok-name.ensures.found.0; start = search rules; count = search rules },
  entry_spelled c.args.entry.now _ c.requires c.in_ok-name.ensures.found.1 c.u64_of.ensures.spelled c.u64_of-2.ensures.spelled,
)

pub returns-clause-only : goal.returns-clause-only
returns-clause-only c v fits same =
    let parts = entry_parts c.args.entry.now v fits.name.most same in
    let read = c.in_ok-name.ensures.only v.name fits.name parts.name in
    let name : c.in_ok-name.name ≡ v.name = cc read in
    ap Some (volume_is _ v name (c.u64_of.ensures.only v.start fits.start parts.start) (c.u64_of-2.ensures.only v.count fits.count parts.count))
