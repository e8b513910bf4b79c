-- The certificate of a commit.
use Rattle.std.proofs.Common.{◌≡◌, ◌≢◌, inl, inr, ℕ, ◌+◌, ◌≤◌, List, length, get_or, sym, ap, subst, ◌∙◌, arith}
use Rattle.std.specs.Prelude.{AllPairs, Option}
use Rattle.std.proofs.lemmas.Bool.{cases_lt}
use Rattle.std.proofs.lemmas.List.{get_or_default}
use Rattle.sdbt_base.specs.Told.{Got, GotPart}
use Rattle.sdbt_base.specs.declared.lists.Unkept.{Unkept}
use Rattle.platform.specs.History.{History, CellStays}
use Rattle.platform.proofs.Moments.{whole-now, Extends-earlier}
use Rattle.root_codec.specs.declared.root.Root.{Root}
use Rattle.page_store.specs.Tree.{Parts}
use Rattle.page_store.proofs.TreeLaws.{one_tree}
use Rattle.page_store.proofs.KeptLaws.{tree_later}
use Rattle.cert_maker.specs.Ordered.{AreOneEach}
use Rattle.cert_codec.specs.Text.{entry}
use Rattle.shadow_commit.specs.NewTree.{AreFrom}
use Rattle.shadow_commit.specs.declared.prepared.Prepared.{Prepared}
use Rattle.shadow_commit.proofs.CommitLaws.{commit_differs}
use Rattle.device_session.specs.Sessions.{Session}
use Rattle.device_terms.specs.Certifying.{Certifies, IsOfTrees}
use Rattle.device_session.specs.Certifying.{IsOfCommit}
use Rattle.device_session.specs.Finishing.{PutsLine}
use Rattle.device_terms.proofs.MomentLaws.{stays_then}
use Rattle.device_session.proofs.CommitLaws.{IsReadied, Publishes, next_tree, next_stands}

-- pages whose addresses are apart are one each
once_each : (pages : List Unkept) → AllPairs (λ p q. p.addr ≢ q.addr) pages → AreOneEach (λ page. page.addr) pages
once_each pages once one other (i, within, is) (j, inside, at) same =
    let near : (get_or pages i one).addr ≡ one.addr = ap (λ (p : Unkept). p.addr) is in
    let far : (get_or pages j other).addr ≡ other.addr = ap (λ (p : Unkept). p.addr) at in
    elim (cases_lt i j) [
      | inl less ↦ absurd (once i j one less inside (near ∙ same ∙ sym far ∙ ap (λ (p : Unkept). p.addr) (get_or_default pages j other one inside)))
      | inr most ↦ elim (cases_lt j i) [
        | inl less ↦ absurd (once j i other less within (far ∙ sym same ∙ sym near ∙ ap (λ (p : Unkept). p.addr) (get_or_default pages i one other within)))
        | inr least ↦
            let equal : i ≡ j = omega (arith, most, least) in
            sym is ∙ ap (λ (n : ℕ). get_or pages n one) equal ∙ get_or_default pages j one other inside ∙ at
      ]
    ]

-- it is that of the tree from before and of the new one
commit_cert : (tells : Type 0) (old mid new : History) (drawn drawn_now : Option (List (List ℕ))) (session : Session) (pages now : ℕ) (prepared : Prepared) → IsReadied tells old mid drawn drawn_now session pages now prepared → tells → Publishes mid new prepared →
    IsOfCommit session old.present new.present prepared.root prepared.cert
commit_cert tells old mid new drawn drawn_now session pages now prepared r told turns = λ device contents h written are before tree.
    let root = session.root in
    let image = old.present in
    let with = next_tree tells old mid drawn drawn_now session pages now prepared device contents r told h in
    let stands = next_stands tells old mid drawn drawn_now session pages now prepared device contents r told h in
    let own : h.committed ≡ before = one_tree image.readable root h.committed before h.stands.in_range h.stands.tree tree in
    let from = subst (λ n. AreFrom n r.ready.is.adds.nodes) (sym (r.counts told)) r.ready.is.over.order.from in
    let more : root.head ≤ length image.recorded = omega (arith, h.stands.head, (whole-now old).synced) in
    subst (λ (parts : Parts). IsOfTrees parts.places root.head new.present.readable prepared.root written prepared.cert) own (record {
      after = with.parts;
      tree = tree_later mid.present new.present prepared.root with.parts (Extends-earlier mid new turns.extends) stands.tree;
      is = r.ready.cert.trees _ _ written (once_each session.grove.never.items h.tree.accounted.accounts.once)
          (commit_differs image root h.committed.places session.grove h.each r.ready.is.adds.nodes with.parts written h.tree more from with.are stands.apart are);
    })

-- what the line of the certificate is, after calls at which the cell stayed
puts_entry : (tells : Type 0) (written written_now : Option (List ℕ)) (old mid new : History) (line other : List ℕ) (root : Root) (Was Done : Type 0) → line ≡ other → (tells → CellStays old mid) → ((Was → ⊥) → Done → ⊥) → PutsLine tells written written_now mid new line root Was →
    PutsLine tells written written_now old new other root Done
puts_entry tells written written_now old mid new line other root Was Done is before never put = elim put [
  | inl whole ↦ inl (
    subst (λ (bytes : List ℕ). Got written bytes written_now) is whole.0,
    λ told. elim (whole.1 told) [
      | inl came ↦ inl came
      | inr stays ↦ inr (stays_then old mid new (before told) stays.0, never stays.1)
    ],
  )
  | inr part ↦ inr (subst (λ (bytes : List ℕ). GotPart written bytes written_now) is part.0, λ told. stays_then old mid new (before told) (part.1 told), never part.2)
]

pub commit_certifies : (tells : Type 0) (written written_now : Option (List ℕ)) (old mid new : History) (drawn drawn_now : Option (List (List ℕ))) (session : Session) (pages now : ℕ) (prepared : Prepared) (Was Done : Type 0) → IsReadied tells old mid drawn drawn_now session pages now prepared →
    ((Was → ⊥) → Done → ⊥) → (tells → Publishes mid new prepared) → PutsLine tells written written_now mid new prepared.line prepared.root Was →
    Certifies tells written written_now old new session.root.head (session.root.commit + 1) (IsOfCommit session old.present new.present) Done
commit_certifies tells written written_now old mid new drawn drawn_now session pages now prepared Was Done r never turns put = inr (record {
  cert = prepared.cert;
  in_text = r.ready.in_text;
  root = prepared.root;
  in_range = r.ready.is.in_range;
  number = r.ready.is.next_is.commit;
  speaks = record { commit = r.ready.cert.commit_is; begins = r.ready.cert.base_is; node = r.ready.cert.node_is; head = r.ready.cert.head_is };
  is = λ told. commit_cert tells old mid new drawn drawn_now session pages now prepared r told (turns told);
  put = puts_entry tells written written_now old mid new prepared.line (entry prepared.cert) prepared.root Was Done r.ready.line r.cell never put;
})
