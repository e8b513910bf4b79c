use Rattle.std.proofs.Common.{◌≡◌, ◌<◌, ◌≤◌, ◌+◌, ℕ, List, length, get_or, sym, subst, ap, ◌∙◌, arith}
use Rattle.std.proofs.lemmas.Option.{get_or_from_slice_get}
use Rattle.platform.proofs.Moments.{whole-now}
use Rattle.seizure.specs.declared.opened.Opened.{Opened}
use Rattle.seizure.specs.Index.{AreMarks}
use Rattle.seizure.specs.Work.{Tried}
use Rattle.seizure.proofs.LooksLaws.{looks_then}
use Rattle.seizure.proofs.ReadsLaws.{HaveRead, read_none, read_more, read_longer, read_each}
use Rattle.seizure.proofs.SearchLaws.{IsSearched, searched_none, searched_more, searched_all}
use Rattle.seizure.proofs.seizing.search.Goals as goal

pub loop-next-init : goal.loop-next-init
loop-next-init g c =
    let pages = (g.P.Platform.history c.args.platform.now).present.readable in
    record {
      looks = c.in_ok-index.ensures.looks;
      quiet = c.in_ok-index.ensures.stops;
      known = c.requires.known;
      searched = λ told roots gains.
          subst (λ (l : List Opened). IsSearched roots pages c.args.work.now.keys l 0) (sym c.requires.fresh) (searched_none roots pages c.args.work.now.keys gains);
      reads = λ told roots gains.
          (let all : g.P.Platform.head c.args.platform.now ≡ length pages = sym ((whole-now (g.P.Platform.history c.args.platform.now)).as_many ∙ g.met.P.Platform.counts_pages told c.args.platform.now) in
          read_none roots pages c.args.work.now.keys (g.P.Platform.reads c.args.platform.now) (g.P.Platform.reads c.index_of.new.platform) (omega (arith, all, c.in_ok-index.ensures.reads told)));
    }

pub loop-next-preserved : goal.loop-next-preserved
loop-next-preserved g c =
    let P = g.P.Platform in let start = c.args.platform.now in
    let pages = (P.history start).present.readable in let key = c.at.result.now in
    let work = c.loop-next.work in let after = c.open_each.new.work in
    let within : c.loop-next.next < length work.keys = omega (arith, c.len.ensures) in
    let here : key ≡ get_or work.keys c.loop-next.next key = sym (get_or_from_slice_get work.keys c.loop-next.next key key c.at.ensures) in
    record {
      looks = looks_then P start c.loop-next.platform c.open_each.new.platform c.loop-next.invariant.looks c.in_ok-open_each.ensures.looks;
      quiet = c.in_ok-open_each.ensures.stops ∙ c.loop-next.invariant.quiet;
      known = c.in_ok-open_each.ensures.known;
      searched = λ told roots gains.
          (let all : P.head start ≡ length pages = sym ((whole-now (P.history start)).as_many ∙ g.met.P.Platform.counts_pages told start) in
          let marks : AreMarks pages (length pages) c.in_ok-index.index.marks.items = subst (λ (n : ℕ). AreMarks pages n c.in_ok-index.index.marks.items) all (c.in_ok-index.ensures.marks told) in
          let tried : Tried pages key c.in_ok-addrs.addrs work after = subst (λ (ps : List (List ℕ)). Tried ps key c.in_ok-addrs.addrs work after) (ap (λ image. image.readable) (c.loop-next.invariant.looks.image told)) (c.in_ok-open_each.ensures.tried told) in
          searched_more roots pages work.keys after.keys work.opened after.opened c.loop-next.next key c.in_ok-addrs.addrs (c.loop-next.invariant.searched told roots gains) within here
          (c.in_ok-addrs.ensures.opened pages marks) tried.opened tried.keys);
      reads = λ told roots gains.
          (let all : P.head start ≡ length pages = sym ((whole-now (P.history start)).as_many ∙ g.met.P.Platform.counts_pages told start) in
          let marks : AreMarks pages (length pages) c.in_ok-index.index.marks.items = subst (λ (n : ℕ). AreMarks pages n c.in_ok-index.index.marks.items) all (c.in_ok-index.ensures.marks told) in
          let tried : Tried pages key c.in_ok-addrs.addrs work after = subst (λ (ps : List (List ℕ)). Tried ps key c.in_ok-addrs.addrs work after) (ap (λ image. image.readable) (c.loop-next.invariant.looks.image told)) (c.in_ok-open_each.ensures.tried told) in
          subst (λ (l : List (List ℕ)). HaveRead roots pages l (c.loop-next.next + 1) (P.reads start) (P.reads c.open_each.new.platform)) (sym tried.keys.gained)
          (read_longer roots pages work.keys tried.keys.more (c.loop-next.next + 1) (P.reads start) (P.reads c.open_each.new.platform) (omega (arith, within))
          (read_more roots pages work.keys c.loop-next.next (P.reads start) (P.reads c.loop-next.platform) (P.reads c.open_each.new.platform) key c.in_ok-addrs.addrs (c.loop-next.invariant.reads told roots gains)
          (c.loop-next.invariant.searched told roots gains).found c.loop-next.invariant.known.once within here (c.in_ok-addrs.ensures.once c.in_ok-index.ensures.apart)
          (λ addr has. (c.in_ok-addrs.ensures.opened pages marks addr).0 has) (c.in_ok-open_each.ensures.reads told))));
    }

pub returns-clause-reached : goal.returns-clause-reached
returns-clause-reached g c = λ told roots gains.
    (let work = c.loop-next.work in
    let all : length work.keys ≤ c.loop-next.next = omega (arith, c.len.ensures) in
    searched_all roots (g.P.Platform.history c.args.platform.now).present.readable work.keys work.opened c.loop-next.next (c.loop-next.invariant.searched told roots gains) all)

pub returns-clause-reads : goal.returns-clause-reads
returns-clause-reads g c = λ told roots gains.
    read_each roots (g.P.Platform.history c.args.platform.now).present.readable c.loop-next.work.keys c.loop-next.next (g.P.Platform.reads c.args.platform.now) (g.P.Platform.reads c.loop-next.platform)
    (c.loop-next.invariant.reads told roots gains)

pub returns-in_err-addrs-clause-reads : goal.returns-in_err-addrs-clause-reads
returns-in_err-addrs-clause-reads g c = λ told roots gains.
    read_each roots (g.P.Platform.history c.args.platform.now).present.readable c.loop-next.work.keys c.loop-next.next (g.P.Platform.reads c.args.platform.now) (g.P.Platform.reads c.loop-next.platform)
    (c.loop-next.invariant.reads told roots gains)

pub returns-in_err-index-clause-reads : goal.returns-in_err-index-clause-reads
returns-in_err-index-clause-reads g c = λ told roots gains.
    (let P = g.P.Platform in let start = c.args.platform.now in
    let pages = (P.history start).present.readable in
    let all : P.head start ≡ length pages = sym ((whole-now (P.history start)).as_many ∙ g.met.P.Platform.counts_pages told start) in
    read_each roots pages c.args.work.now.keys 0 (P.reads start) (P.reads c.index_of.new.platform)
    (read_none roots pages c.args.work.now.keys (P.reads start) (P.reads c.index_of.new.platform) (omega (arith, all, c.in_err-index.ensures.reads told))))

pub returns-in_err-open_each-clause-reads : goal.returns-in_err-open_each-clause-reads
returns-in_err-open_each-clause-reads g c = λ told roots gains.
    (let P = g.P.Platform in let start = c.args.platform.now in
    let pages = (P.history start).present.readable in let key = c.at.result.now in let work = c.loop-next.work in
    let within : c.loop-next.next < length work.keys = omega (arith, c.len.ensures) in
    let here : key ≡ get_or work.keys c.loop-next.next key = sym (get_or_from_slice_get work.keys c.loop-next.next key key c.at.ensures) in
    let all : P.head start ≡ length pages = sym ((whole-now (P.history start)).as_many ∙ g.met.P.Platform.counts_pages told start) in
    let marks : AreMarks pages (length pages) c.in_ok-index.index.marks.items = subst (λ (n : ℕ). AreMarks pages n c.in_ok-index.index.marks.items) all (c.in_ok-index.ensures.marks told) in
    read_each roots pages work.keys (c.loop-next.next + 1) (P.reads start) (P.reads c.open_each.new.platform)
    (read_more roots pages work.keys c.loop-next.next (P.reads start) (P.reads c.loop-next.platform) (P.reads c.open_each.new.platform) key c.in_ok-addrs.addrs (c.loop-next.invariant.reads told roots gains)
    (c.loop-next.invariant.searched told roots gains).found c.loop-next.invariant.known.once within here (c.in_ok-addrs.ensures.once c.in_ok-index.ensures.apart)
    (λ addr has. (c.in_ok-addrs.ensures.opened pages marks addr).0 has) (c.in_err-open_each.ensures.reads told)))
