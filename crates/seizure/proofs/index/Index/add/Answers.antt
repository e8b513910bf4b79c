use Rattle.std.proofs.Common.{◌+◌, List, refl, sym, subst}
use Rattle.seizure.specs.Index.{AreMarks, AreApart}
use Rattle.seizure.specs.declared.index.Marked.{Marked}
use Rattle.seizure.proofs.IndexLaws.{mark_more, apart_push}
use Rattle.seizure.proofs.index.Index.add.Goals as goal

pub returns-clause-marks : goal.returns-clause-marks
returns-clause-marks c = λ pages there are.
    subst (λ (l : List Marked). AreMarks pages (c.args.addr + 1) l) (sym c.in_ok-push.ensures.items)
    (mark_more pages c.args.page.now c.args.self.now.marks.items (record { front = c.front_wanted-front.result; addr = c.args.addr }) there c.front_wanted-front.ensures are)

pub returns-clause-apart : goal.returns-clause-apart
returns-clause-apart c = λ below apart.
    subst AreApart (sym c.in_ok-push.ensures.items)
    (apart_push c.args.addr c.args.self.now.marks.items (record { front = c.front_wanted-front.result; addr = c.args.addr }) refl below apart)
