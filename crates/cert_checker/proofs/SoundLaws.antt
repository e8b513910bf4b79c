-- What an accepted chain implies.
use Rattle.std.proofs.Common.{◌≡◌, inl, inr, ℕ, zero, suc, ◌+◌, ◌<◌, ◌≤◌, List, [], ◌∷◌, ◌++◌, refl, sym, subst, ◌∙◌, arith, append_assoc, append-nil, le_antisymm}
use Rattle.std.specs.Prelude.{Option, None, Some}
use Rattle.std.proofs.lemmas.Bool.{cases_eq}
use Rattle.root_codec.specs.declared.root.Root.{Root}
use Rattle.cert_maker.specs.Cert.{Cert}
use Rattle.key_graph.specs.Trace.{Entries, Has, IsChild, IsTraceTree, Leads, TraceReached}
use Rattle.cert_checker.specs.Rules.{after}
use Rattle.cert_checker.specs.Chain.{after_all, last_or, EachKeeps, nothing, live_after, Accepted}
use Rattle.cert_checker.specs.Sound.{trace_of, FiveFacts, Stay, IsSound}
use Rattle.cert_checker.proofs.AfterLaws.{has_not, parent_has}
use Rattle.cert_checker.proofs.StepLaws.{facts_stay}

pub facts_all : (done chain : List Cert) (live : Entries) (former : Option Cert) → Stay done live former → EachKeeps live former chain → Stay (done ++ chain) (after_all live chain) (last_or former chain)
facts_all done [] live former stay each = subst (λ (cs : List Cert). Stay cs live former) (sym (append-nil done)) stay
facts_all done (cert ∷ others) live former stay each =
    subst (λ (cs : List Cert). Stay cs (after_all (after live cert) others) (last_or (Some cert) others)) (append_assoc done (cert ∷ []) others)
    (facts_all (done ++ cert ∷ []) others (after live cert) (Some cert) (facts_stay done live former cert stay each.0) each.1)

pub facts_accepted : (chain : List Cert) (root : Root) (accepted : Accepted chain root) → FiveFacts chain (live_after chain) accepted.ends.last
facts_accepted chain root accepted = subst (λ (o : Option Cert). Stay chain (live_after chain) o) accepted.ends.is (facts_all [] chain nothing None (refl, λ a. refl) accepted.each)

leads_more : (entries : Entries) (from : ℕ) (path : List ℕ) (mid to : ℕ) → Leads entries from path mid → IsChild entries mid to → Leads entries from (path ++ to ∷ []) to
leads_more entries from [] mid to leads child = (subst (λ (x : ℕ). IsChild entries x to) (sym leads) child, refl)
leads_more entries from (next ∷ path) mid to leads child = (leads.0, leads_more entries next path mid to leads.1 child)

module _ (live trace : Entries) (root : ℕ) (tree : IsTraceTree live root) (traced : (a : ℕ) → Has live a → trace a ≡ live a) where
  reach : (fuel a : ℕ) → root ≤ a + fuel → Has live a → TraceReached trace root a
  reach zero a enough has = let most = tree.highest a has in record { path = []; leads = le_antisymm (omega arith) (omega arith) }
  reach (suc fuel) a enough has = elim (cases_eq a root) [
    | inl same ↦ record { path = []; leads = sym same }
    | inr other ↦
        (let above = tree.parent a has other in
        let lower : a < above.0 = tree.below above.0 a above.1 in
        let there = parent_has live above.0 a above.1 in
        let before = reach fuel above.0 (omega arith) there in
        let child : IsChild trace above.0 a = record { children = above.1.children; node = traced above.0 there ∙ above.1.node; inside = above.1.inside } in
        record { path = before.path ++ a ∷ []; leads = leads_more trace root before.path above.0 a before.leads child })
  ]

  back : (path : List ℕ) (from to : ℕ) → Has live from → Leads trace from path to → Has live to
  back [] from to has leads = subst (λ (x : ℕ). Has live x) leads has
  back (next ∷ path) from to has leads =
      let child : IsChild live from next = record { children = leads.0.children; node = sym (traced from has) ∙ leads.0.node; inside = leads.0.inside } in
      back path next to (tree.closed from next child) leads.1

pub soundness : (chain : List Cert) (root : Root) → Accepted chain root → IsSound chain root.addr
soundness chain root accepted =
    let facts = facts_accepted chain root accepted in
    let tree : IsTraceTree (live_after chain) root.addr = subst (λ (x : ℕ). IsTraceTree (live_after chain) x) accepted.ends.top facts.tree in
    let back_to : (addr : ℕ) → TraceReached (trace_of chain) root.addr addr → Has (live_after chain) addr =
    λ addr reached. back (live_after chain) (trace_of chain) root.addr tree facts.traced reached.path root.addr addr tree.rooted reached.leads in
    record {
      reached = λ addr. (λ has. reach (live_after chain) (trace_of chain) root.addr tree facts.traced root.addr addr (omega arith) has, back_to addr);
      traced = facts.traced;
      none_deleted = λ addr deleted reached. has_not (live_after chain) addr (back_to addr reached) (facts.no_deleted addr deleted);
    }
