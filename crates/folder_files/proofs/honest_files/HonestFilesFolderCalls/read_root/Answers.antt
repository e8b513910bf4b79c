use Rattle.std.proofs.Common.{◌≡◌, length, arith, rules}
use Rattle.std.proofs.lemmas.Grind.{common_steps}
use Rattle.folder_files.proofs.honest_files.HonestFilesFolderCalls.read_root.Goals as goal

pub slice_bounds-note-end-2 : goal.slice_bounds-note-end-2
slice_bounds-note-end-2 c =
    let size : length c.in-Some.bytes ≡ 128 = c.args.self.now.root_size c.in-Some.bytes c.in-Some.is in
    first_of (search rules, omega arith, grind (arith, common_steps))
