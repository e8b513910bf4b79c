-- The run of a chain: where it stands, and what is concluded at its end.
use Rattle.std.proofs.Common.{◌≡◌, inr, ◌↔◌, ℕ, ◌+◌, ◌<◌, ◌≤◌, true, is_some, List, [], ◌∷◌, ◌++◌, length, refl, sym, ap, subst, ◌∙◌, arith}
use Rattle.std.specs.Prelude.{◌≢◌, Option, None, Some, Err, option_map, Contains, AllPairs}
use Rattle.std.specs.Ordering.{nat_cmp}
use Rattle.std.specs.BTreeMap.{get}
use Rattle.std.proofs.lemmas.Option.{none-some}
use Rattle.root_codec.specs.declared.root.Root.{Root}
use Rattle.key_graph.specs.Trace.{Entries, Has}
use Rattle.sdbt_base.specs.Traces.{TraceEntry}
use Rattle.cert_maker.specs.Cert.{Cert}
use Rattle.cert_checker.specs.declared.change.Change.{Change}
use Rattle.cert_checker.specs.declared.held.Held.{Held}
use Rattle.cert_checker.specs.declared.live.Live.{Live}
use Rattle.cert_checker.specs.declared.numbers.Last.{Last}
use Rattle.cert_checker.specs.declared.run.Run.{Run}
use Rattle.cert_checker.specs.declared.verdict.CheckRefusal.{CheckRefusal}
use Rattle.cert_checker.specs.declared.verdict.CheckRefusal.TheVariants.{Rule, Memory}
use Rattle.cert_checker.specs.Rules.{after, Keeps}
use Rattle.cert_checker.specs.Chain.{Accepted, EachKeeps, after_all, last_or, live_after, nothing}
use Rattle.cert_checker.specs.First.{Breaks, FirstBroken, never_addrs}
use Rattle.cert_checker.specs.Succession.{IsTreeOrNone, root_of}
use Rattle.cert_checker.specs.Sound.{Stay, IsVerdict}
use Rattle.cert_checker.specs.Held.{live_of, trace_of_held}
use Rattle.cert_checker.specs.Kept.{KeepsParents, HasAdopted}
use Rattle.cert_checker.specs.Changes.{IsOf}
use Rattle.cert_checker.specs.Settles.{Settles, Stands, EndsOn, last_of}
use Rattle.cert_checker.specs.Running.{IsAfter}
use Rattle.cert_checker.proofs.AfterLaws.{has_not}
use Rattle.cert_checker.proofs.ChainLaws.{last_more, after_more, keeps_more}
use Rattle.cert_checker.proofs.StepLaws.{before, live_below}
use Rattle.cert_checker.proofs.SoundLaws.{facts_all, soundness, facts_accepted}
use Rattle.cert_checker.proofs.HeldLaws.{held_has}
use Rattle.cert_checker.proofs.AdvanceLaws.{parents_stay}
use Rattle.cert_checker.proofs.DeletedLaws.{deleted_bound, deleted_count}

-- ---- where the run stands

pub stay_after : (done : List Cert) → EachKeeps nothing None done → Stay done (live_after done) (last_or None done)
stay_after done keeps = facts_all [] done nothing None (refl, λ a. refl) keeps

tree_after : (done : List Cert) (live : Entries) (former : Option Cert) → Stay done live former → IsTreeOrNone live (root_of former)
tree_after done live None stay = stay.1
tree_after done live (Some former) facts = facts.tree

pub stands : (run : Run) (done : List Cert) → IsAfter run done → Stands run.live run.last (last_or None done)
stands run done is = record {
  tree = subst (λ (l : Entries). IsTreeOrNone l (root_of (last_or None done))) (sym is.live) (tree_after done (live_after done) (last_or None done) (stay_after done is.keeps));
  parents = subst (λ (l : Entries). KeepsParents l run.live.parents) (sym is.live) is.parents;
  numbers = is.numbers;
}

-- what the rules say over what is live, over what the chain says is live
pub settles_after : (A B : Type 0) (run : Run) (done : List Cert) (cert : Cert) (P : Type 0) (e : CheckRefusal) → IsAfter run done
    → Settles {A = A} (Keeps (live_of run.live.entries) (last_or None done) cert) (Breaks (live_of run.live.entries) (last_or None done) cert) (Err e)
    → Settles {A = B} P (Breaks (live_after done) (last_or None done) cert) (Err e)
settles_after A B run done cert P (Rule number value) is breaks = subst (λ (l : Entries). Breaks l (last_or None done) cert number value) is.live breaks
settles_after A B run done cert P Memory is breaks = tt

pub keeps_after : (run : Run) (done : List Cert) (cert : Cert) → IsAfter run done → Keeps (live_of run.live.entries) (last_or None done) cert → EachKeeps nothing None (done ++ cert ∷ [])
keeps_after run done cert is keeps = keeps_more nothing None done cert is.keeps (subst (λ (l : Entries). Keeps l (last_or None done) cert) is.live keeps)

-- the number of deleted addresses fits
pub fits : (run : Run) (done : List Cert) (cert : Cert) → IsAfter run done → Keeps (live_of run.live.entries) (last_or None done) cert → run.deleted + (length cert.gone + length (never_addrs cert)) ≤ cert.head
fits run done cert is keeps =
    let each = keeps_after run done cert is keeps in
    let facts = subst (λ (o : Option Cert). Stay (done ++ cert ∷ []) (live_after (done ++ cert ∷ [])) o) (last_more None done cert) (stay_after (done ++ cert ∷ []) each) in
    let bound = deleted_bound (done ++ cert ∷ []) cert.head each facts.deleted_below in
    let count = deleted_count done cert in
    let so_far = is.deleted in
    omega arith

pub goes_on : (run : Run) (done : List Cert) (cert : Cert) (change : Change) (new : Live) (last : Last) (deleted : ℕ) → IsAfter run done → Keeps (live_of run.live.entries) (last_or None done) cert → IsOf change cert
    → ((addr : ℕ) → live_of new.entries addr ≡ after (live_of run.live.entries) cert addr) → HasAdopted cert run.live.parents new.parents → last ≡ last_of cert
    → deleted ≡ run.deleted + (length cert.gone + length (never_addrs cert))
    → IsAfter (record { live = new; last = Some last; deleted = deleted }) (done ++ cert ∷ [])
goes_on run done cert change new last deleted is keeps' of becomes adopted same count =
    let keeps = subst (λ (l : Entries). Keeps l (last_or None done) cert) is.live keeps' in
    let b = before done (live_after done) (last_or None done) cert (stay_after done is.keeps) keeps.rule2 in
    let now : live_of new.entries ≡ after (live_after done) cert = (λ i x. becomes x i) ∙ ap (λ (l : Entries). after l cert) is.live in
    record {
      keeps = keeps_after run done cert is keeps';
      live = now ∙ sym (after_more nothing done cert);
      parents = subst (λ (l : Entries). KeepsParents l new.parents) (sym (after_more nothing done cert))
          (parents_stay (live_after done) (last_or None done) cert run.live.parents new.parents b.closed b.one_parent (live_below done (live_after done) (last_or None done) cert b keeps) is.parents keeps adopted);
      numbers = ap (λ (l : Last). Some l) same ∙ ap (option_map last_of) (sym (last_more None done cert));
      deleted = count ∙ ap (λ (n : ℕ). n + (length cert.gone + length (never_addrs cert))) is.deleted ∙ sym (deleted_count done cert);
    }

-- ---- the end

ends : (o : Option Cert) (root : Root) → EndsOn (option_map last_of o) root → (last : Cert) × (o ≡ Some last) × (last.commit ≡ root.commit) × (last.root ≡ root.addr) × (last.head ≡ root.head)
ends None root on = absurd on
ends (Some cert) root on = (cert, refl, on.0, on.1, on.2)

ends_back : (o : Option Cert) (root : Root) (last : Cert) → o ≡ Some last → last.commit ≡ root.commit → last.root ≡ root.addr → last.head ≡ root.head → EndsOn (option_map last_of o) root
ends_back o root last is number top end = subst (λ (x : Option Cert). EndsOn (option_map last_of x) root) (sym is) (number, top, end)

pub ends_at : (run : Run) (chain : List Cert) (root : Root) → IsAfter run chain → EndsOn run.last root → Accepted chain root
ends_at run chain root is on =
    let at = ends (last_or None chain) root (subst (λ (o : Option Last). EndsOn o root) is.numbers on) in
    record { each = is.keeps; ends = record { last = at.0; is = at.1; number = at.2; top = at.3; end = at.4 } }

-- a chain that is accepted has a certificate
pub some_ended : (chain : List Cert) (root : Root) → Accepted chain root → chain ≢ []
some_ended chain root accepted = λ none. absurd (none-some accepted.ends.last (sym (ap (λ (cs : List Cert). last_or None cs) none) ∙ accepted.ends.is))

some_is : (o : Option Held) (t : TraceEntry) → option_map trace_of_held o ≡ Some t → is_some o ≡ true
some_is None t is = absurd (none-some t is)
some_is (Some held) t is = refl

pub verdict_is : (run : Run) (chain : List Cert) (root : Root) (addrs : List ℕ) → IsAfter run chain → Accepted chain root → AllPairs (λ a b. a < b) addrs
    → ((addr : ℕ) → Contains addrs addr ↔ (is_some (get nat_cmp run.live.entries addr) ≡ true)) → IsVerdict chain root root.commit addrs run.deleted
verdict_is run chain root addrs is accepted asc has =
    let sound = soundness chain root accepted in
    let facts = facts_accepted chain root accepted in
    let live : (addr : ℕ) → Contains addrs addr ↔ Has (live_after chain) addr = λ addr. (
      λ inside. subst (λ (l : Entries). Has l addr) is.live (held_has run.live.entries addr ((has addr).0 inside)),
      λ there. (has addr).1 (some_is (get nat_cmp run.live.entries addr) there.trace (ap (λ (l : Entries). l addr) is.live ∙ there.is)),
    ) in
    record {
      number = refl;
      ascends = asc;
      live = live;
      reached = λ addr. (λ inside. (sound.reached addr).0 ((live addr).0 inside), λ reached. (live addr).1 ((sound.reached addr).1 reached));
      none_deleted = λ addr deleted inside. has_not (live_after chain) addr ((live addr).0 inside) (facts.no_deleted addr deleted);
      counted = is.deleted;
    }

-- ---- a chain in two parts

pub broken_after : (live : Entries) (former : Option Cert) (done rest : List Cert) (number value : ℕ) → EachKeeps live former done → FirstBroken (after_all live done) (last_or former done) rest number value → FirstBroken live former (done ++ rest) number value
broken_after live former [] rest number value each broken = broken
broken_after live former (cert ∷ others) rest number value each broken = inr (each.0, broken_after (after live cert) (Some cert) others rest number value each.1 broken)
