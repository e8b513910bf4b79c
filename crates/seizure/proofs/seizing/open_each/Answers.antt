use Rattle.std.proofs.Common.{◌≡◌, ◌<◌, ◌+◌, ◌++◌, ◌∷◌, [], ℕ, List, Some, take, length, sym, subst, ap, ◌∙◌, arith}
use Rattle.std.specs.Prelude.{slice_get}
use Rattle.std.proofs.lemmas.List.{take_more}
use Rattle.std.proofs.lemmas.Option.{get_or_from_slice_get}
use Rattle.seizure.specs.Work.{Tried, body_at}
use Rattle.seizure.proofs.LooksLaws.{looks_then}
use Rattle.seizure.proofs.SearchLaws.{page_is}
use Rattle.seizure.proofs.WorkLaws.{tried_more}
use Rattle.seizure.proofs.seizing.open_each.Goals as goal

pub loop-i-preserved : goal.loop-i-preserved
loop-i-preserved g c =
    let P = g.P.Platform in
    let pages = (P.history c.args.platform.now).present.readable in let key = c.args.key.now in let addrs = c.args.addrs.now in let i = c.loop-i.i in
    let addr = c.at-addr.result.now in
    let within : i < length addrs = omega (arith, c.len-i-end.ensures) in
    let more : take i addrs ++ addr ∷ [] ≡ take (i + 1) addrs = ap (λ (a : ℕ). take i addrs ++ a ∷ []) (sym (get_or_from_slice_get addrs i addr addr c.at-addr.ensures)) ∙ sym (take_more addrs i addr within) in
    record {
      looks = looks_then P c.args.platform.now c.loop-i.platform c.read.new.self c.loop-i.invariant.looks (record {
        image = c.read.ensures.image;
        time = c.read.ensures.time;
        head = c.read.ensures.head;
        capacity = c.read.ensures.capacity;
        reads = λ told. (c.read.ensures.reads told).rises;
        changes = λ told. (c.read.ensures.pages_alone told).1;
        faults = c.read.ensures.faults;
      });
      quiet = c.in_ok-read.ensures.cause ∙ c.loop-i.invariant.quiet;
      tried = λ told.
          (let there : slice_get pages addr ≡ Some c.read.new.into = subst (λ (ps : List (List ℕ)). slice_get ps addr ≡ Some c.read.new.into) (ap (λ image. image.readable) (c.loop-i.invariant.looks.image told)) (c.in_ok-read.ensures.page told) in
          let body : c.unseal.new.out ≡ body_at pages key addr = c.unseal.ensures.body ∙ sym (page_is pages key addr c.read.new.into there) in
          subst (λ (l : List ℕ). Tried pages key l c.args.work.now c.note.new.self) more
          (tried_more pages key (take i addrs) addr c.unseal.new.out c.args.work.now c.loop-i.work c.note.new.self (c.loop-i.invariant.tried told) body
          c.in_ok-note.ensures.known c.in_ok-note.ensures.opened c.in_ok-note.ensures.keys));
      known = c.in_ok-note.ensures.known;
      reads = λ told. omega (arith, c.loop-i.invariant.reads told, (c.read.ensures.reads told).by_one);
    }
