use Rattle.std.proofs.Common.{◌≡◌, length, arith, length-take, ◌∙◌}
use Rattle.std.proofs.lemmas.List.{take_at}
use Rattle.files_runner.proofs.disk_files.put_front.Goals as goal

pub copy_from_slice-requires : goal.copy_from_slice-requires
copy_from_slice-requires c = omega (arith, length-take 128 c.args.into.now)

pub returns : goal.returns
returns c =
    let size : length c.copy_from_slice.new.self ≡ 128 = omega (arith, c.copy_from_slice.ensures.len, length-take 128 c.args.into.now) in
    take_at c.copy_from_slice.new.self _ 128 size ∙ c.copy_from_slice.ensures.after
