use Rattle.std.proofs.Common.{◌≡◌, length, false, refl, arith}
use Rattle.std.proofs.lemmas.Grind.{common_steps}
use Rattle.folder_files.proofs.Answering.{Keeps, keeps_counted}
use Rattle.folder_files.proofs.honest_files.HonestFilesPageCalls.count_pages.Goals as goal

pub invariant_of-self-2 : goal.invariant_of-self-2
invariant_of-self-2 c =
    let old = c.args.self.now in
    let was : Keeps old.calls.events old.pages.items old.root old.new_root false =
    record { pages_are = λ calm. old.pages_are c.if-self.false; root_is = old.root_is c.if-self.false; new_is = old.new_is c.if-self.false; honest = old.honest } in
    let size : c.len-pages.result ≡ length old.pages.items = grind (arith, common_steps) in
    let all = keeps_counted old.calls.events c.note-2.new.self.events old.pages.items old.root old.new_root _ c.note-2.ensures size was in
    record { pages_are = λ calm. all.pages_are refl; root_is = λ calm. all.root_is; new_is = λ calm. all.new_is; root_size = old.root_size; new_size = old.new_size; honest = all.honest }
