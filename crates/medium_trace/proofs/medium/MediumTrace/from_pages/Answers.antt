use Rattle.std.proofs.Common.{refl, arith}
use Rattle.medium_trace.proofs.Shown.{IsWhole-marked, shown_pages-unmarked}
use Rattle.medium_trace.proofs.medium.MediumTrace.from_pages.Goals as goal

pub returns-clause-pages : goal.returns-clause-pages
returns-clause-pages c = rw (c.new.ensures.items, c.len-unmarked.ensures.length, shown_pages-unmarked)

pub returns-clause-whole : goal.returns-clause-whole
returns-clause-whole c =
    IsWhole-marked _ _ _ _ _ record {
      pages = c.len-unmarked.ensures.pages;
      as_many = rw c.new.ensures.items (omega arith);
      first = omega arith;
      within = omega arith;
    } refl
