-- Why an upgrade is refused, by the call that was refused.
use Rattle.std.proofs.Common.{◌≡◌, ◌∙◌, ap, subst, sym, refl, ◌+◌, ◌≤◌, inl, inr, ℕ, List, Result, Ok, Err, arith, length}
use Rattle.sdbt_base.specs.Counts.{Counts, counts}
use Rattle.sdbt_base.specs.Faults.{Rose}
use Rattle.sdbt_base.specs.declared.tapes.Tape.{Ghosts as TapeGhosts}
use Rattle.platform.specs.Image.{Image}
use Rattle.sdbt_base.specs.Rises.{MayRiseBy}
use Rattle.platform.specs.History.{CellStays}
use Rattle.platform.specs.declared.platforms.Platform.{Ghosts as PlatformGhosts}
use Rattle.node_codec.specs.declared.body.Entry.{Entry}
use Rattle.root_codec.specs.declared.root.Root.{Root}
use Rattle.page_store.specs.Reading.{ReadsCell}
use Rattle.btree_walk.specs.Nodes.{Node, NodesOf, listed}
use Rattle.device_terms.proofs.MomentLaws.{one_look}
use Rattle.device_core.specs.Copying.{StopsAt}
use Rattle.device_core.specs.Publishing.{IsUnmade, IsPublishCause, most_publish}
use Rattle.device_core.specs.Upgrading.{Begins, IsPartly, IsUpgradeCause, StopsListing, needed_of_root}
use Rattle.device_core.specs.Surveying.{IsBeginCause, IsSurveyCause}
use Rattle.device_core.specs.Rewriting.{IsRewriteCause, unpublished}
use Rattle.device_core.specs.declared.publishing.PublishFault.{PublishFault}
use Rattle.device_core.specs.declared.publishing.PublishFault.TheVariants as publish
use Rattle.device_core.specs.declared.refusals.UpgradeRefusal.{UpgradeRefusal}
use Rattle.device_core.specs.declared.refusals.UpgradeRefusal.TheVariants as upgrade

-- calls that only looked
pub record Looked {S : Type 0} (P : PlatformGhosts S) (platform now : S) : Type 0 where
  pub head : P.head now ≡ P.head platform
  pub image : P.tells → (P.history now).present ≡ (P.history platform).present
  pub still : P.tells → CellStays (P.history platform) (P.history now)
  pub changes : P.tells → P.changes now ≡ P.changes platform

pub looked_cell : {S : Type 0} (P : PlatformGhosts S) (platform now : S) → ReadsCell P platform now → Looked P platform now
looked_cell P platform now reads = record { head = reads.head; image = reads.image; still = λ told. one_look (P.history platform) (P.history now) (reads.time told) (reads.image told); changes = reads.changes }

unmade : {S R : Type 0} (P : PlatformGhosts S) (T : TapeGhosts R) (platform now : S) (tape : R) → Looked P platform now → IsUnmade P T platform now tape tape
unmade P T platform now tape looked = (record { head = looked.head; image = looked.image; changes = looked.changes; drawn = refl }, looked.still)

quiet : (platform platform_now tape tape_now ledger : ℕ) → platform_now ≡ platform → tape_now ≡ tape → counts platform_now tape_now 0 0 ledger ≡ counts platform tape 0 0 ledger
quiet platform platform_now tape tape_now ledger same same' = λ i. counts (same i) (same' i) 0 0 ledger

pub begin_refused : {S R : Type 0} (P : PlatformGhosts S) (T : TapeGhosts R) (platform now : S) (tape : R) (ledger : ℕ) (refusal : UpgradeRefusal) → Looked P platform now → IsBeginCause P platform now (Err refusal)
    → IsUpgradeCause P T platform now tape tape (counts (P.faults platform) (T.faults tape) 0 0 ledger) (counts (P.faults now) (T.faults tape) 0 0 ledger) (Err refusal)
begin_refused P T platform now tape ledger upgrade.NoDevice looked cause = (cause.0, unmade P T platform now tape looked, quiet (P.faults platform) (P.faults now) (T.faults tape) (T.faults tape) ledger cause.1 refl)
begin_refused P T platform now tape ledger upgrade.BadRoot looked cause = (cause.0, unmade P T platform now tape looked, quiet (P.faults platform) (P.faults now) (T.faults tape) (T.faults tape) ledger cause.1 refl)
begin_refused P T platform now tape ledger upgrade.AlreadyUpgraded looked cause = (cause.0, unmade P T platform now tape looked, quiet (P.faults platform) (P.faults now) (T.faults tape) (T.faults tape) ledger cause.1 refl)
begin_refused P T platform now tape ledger (upgrade.Full needed free) looked cause = (cause.0, unmade P T platform now tape looked, quiet (P.faults platform) (P.faults now) (T.faults tape) (T.faults tape) ledger cause.1 refl)
begin_refused P T platform now tape ledger (upgrade.BadRecord addr) looked cause = absurd cause
begin_refused P T platform now tape ledger upgrade.Memory looked cause = absurd cause
begin_refused P T platform now tape ledger upgrade.TapeFault looked cause = absurd cause
begin_refused P T platform now tape ledger upgrade.LedgerFault looked cause = absurd cause
begin_refused P T platform now tape ledger upgrade.PlatformFault looked cause = ((cause, refl), inl (looked.head, looked.still))

partly : {S : Type 0} (P : PlatformGhosts S) (syncs : ℕ) (platform now : S) (root : Root) → Begins P.tells (P.history platform).present (P.head platform) (P.capacity platform) root → P.head now ≤ P.head platform + needed_of_root root
    → (P.tells → CellStays (P.history platform) (P.history now)) → (P.tells → MayRiseBy syncs (P.changes platform) (P.changes now)) → IsPartly P syncs platform now root
partly P syncs platform now root begins most still changes = record { begins = begins; most = most; still = still; changes = changes }

-- a count that rose behind calls at which it stayed
pub behind_unsynced : (most old mid new : ℕ) → mid ≡ old → MayRiseBy most mid new → MayRiseBy most old new
behind_unsynced most old mid new same rose = record { rises = omega (arith, same, rose.rises); at_most = omega (arith, same, rose.at_most) }

-- the publishing of a root record changes something twice at most
pub two_at_most : (result : Result (Unit {0}) PublishFault) (old new : ℕ) → MayRiseBy (most_publish result) old new → MayRiseBy 2 old new
two_at_most (Ok done) old new rose = rose
two_at_most (Err publish.Platform) old new rose = rose
two_at_most (Err publish.Ledger) old new rose = record { rises = rose.rises; at_most = omega (arith, rose.at_most) }

unsynced : (old new : ℕ) → new ≡ old → MayRiseBy 0 old new
unsynced old new same = record { rises = omega (arith, same); at_most = omega (arith, same) }

-- where the cell was looked at before
pub survey_refused : {S R : Type 0} (A : Type 0) (P : PlatformGhosts S) (T : TapeGhosts R) (platform seen now : S) (tape : R) (ledger : ℕ) (root : Root) (refusal : UpgradeRefusal)
    → Begins P.tells (P.history platform).present (P.head platform) (P.capacity platform) root → P.faults seen ≡ P.faults platform → Looked P platform seen → Looked P platform now → IsSurveyCause {A = A} P seen now root (Err refusal)
    → IsUpgradeCause P T platform now tape tape (counts (P.faults platform) (T.faults tape) 0 0 ledger) (counts (P.faults now) (T.faults tape) 0 0 ledger) (Err refusal)
survey_refused A P T platform seen now tape ledger root upgrade.NoDevice begins same before looked cause = absurd cause
survey_refused A P T platform seen now tape ledger root upgrade.BadRoot begins same before looked cause = absurd cause
survey_refused A P T platform seen now tape ledger root upgrade.AlreadyUpgraded begins same before looked cause = absurd cause
survey_refused A P T platform seen now tape ledger root (upgrade.Full needed free) begins same before looked cause = absurd cause
survey_refused A P T platform seen now tape ledger root (upgrade.BadRecord addr) begins same before looked cause = (
  (root, partly P 0 platform now root begins (omega (arith, looked.head)) looked.still (λ told. unsynced (P.changes platform) (P.changes now) (looked.changes told)), λ told. inl (subst (λ (i : Image). StopsListing i.readable root addr) (before.image told) (cause.0 told))),
  quiet (P.faults platform) (P.faults now) (T.faults tape) (T.faults tape) ledger (cause.1 ∙ same) refl,
)
survey_refused A P T platform seen now tape ledger root upgrade.Memory begins same before looked cause =
    ((root, begins), unmade P T platform now tape looked, quiet (P.faults platform) (P.faults now) (T.faults tape) (T.faults tape) ledger (cause ∙ same) refl)
survey_refused A P T platform seen now tape ledger root upgrade.TapeFault begins same before looked cause = absurd cause
survey_refused A P T platform seen now tape ledger root upgrade.LedgerFault begins same before looked cause = absurd cause
survey_refused A P T platform seen now tape ledger root upgrade.PlatformFault begins same before looked cause =
    ((subst (λ (n : ℕ). Rose n (P.faults now)) same cause, refl), inr (root, begins, omega (arith, looked.head)))

-- where the tree was listed before
pub rewrite_refused : {S R : Type 0} (A : Type 0) (P : PlatformGhosts S) (T : TapeGhosts R) (platform seen now : S) (tape tape_now : R) (ledger : ℕ) (root : Root) (entries : List Entry) (refusal : UpgradeRefusal)
    → Begins P.tells (P.history platform).present (P.head platform) (P.capacity platform) root → (P.tells → (nodes : List Node) × NodesOf (P.history platform).present.readable root nodes × (entries ≡ listed nodes)) → length entries ≡ root.mapped
    → P.faults seen ≡ P.faults platform → Looked P platform seen → P.head now ≤ P.head platform + needed_of_root root → (P.tells → CellStays (P.history platform) (P.history now))
    → (P.tells → P.changes now ≡ P.changes platform) → IsRewriteCause {A = A} P T seen now tape tape_now entries (Err refusal)
    → IsUpgradeCause P T platform now tape tape_now (counts (P.faults platform) (T.faults tape) 0 0 ledger) (counts (P.faults now) (T.faults tape_now) 0 0 ledger) (Err refusal)
rewrite_refused A P T platform seen now tape tape_now ledger root entries upgrade.NoDevice begins are many same before most still changes cause = absurd cause
rewrite_refused A P T platform seen now tape tape_now ledger root entries upgrade.BadRoot begins are many same before most still changes cause = absurd cause
rewrite_refused A P T platform seen now tape tape_now ledger root entries upgrade.AlreadyUpgraded begins are many same before most still changes cause = absurd cause
rewrite_refused A P T platform seen now tape tape_now ledger root entries (upgrade.Full needed free) begins are many same before most still changes cause = absurd cause
rewrite_refused A P T platform seen now tape tape_now ledger root entries upgrade.Memory begins are many same before most still changes cause = absurd cause
rewrite_refused A P T platform seen now tape tape_now ledger root entries upgrade.LedgerFault begins are many same before most still changes cause = absurd cause
rewrite_refused A P T platform seen now tape tape_now ledger root entries (upgrade.BadRecord addr) begins are many same before most still changes cause = (
  (
    root,
    partly P 0 platform now root begins most still (λ told. unsynced (P.changes platform) (P.changes now) (changes told)),
    λ told. let of = are told in inr record {
      nodes = of.0;
      are = of.1;
      many = sym (ap length of.2) ∙ many;
      stops = subst (λ (es : List Entry). StopsAt (P.history platform).present.readable addr es) of.2 (subst (λ (i : Image). StopsAt i.readable addr entries) (before.image told) (cause.0 told));
    },
  ),
  quiet (P.faults platform) (P.faults now) (T.faults tape) (T.faults tape_now) ledger (cause.1 ∙ same) cause.2,
)
rewrite_refused A P T platform seen now tape tape_now ledger root entries upgrade.TapeFault begins are many same before most still changes cause =
    ((cause.0, ap (λ (n : ℕ). counts n (T.faults tape_now) 0 0 ledger) (cause.1 ∙ same)), root, partly P 0 platform now root begins most still (λ told. unsynced (P.changes platform) (P.changes now) (changes told)))
rewrite_refused A P T platform seen now tape tape_now ledger root entries upgrade.PlatformFault begins are many same before most still changes cause =
    ((subst (λ (n : ℕ). Rose n (P.faults now)) same cause.0, ap (λ (n : ℕ). counts (P.faults now) n 0 0 ledger) cause.1), inr (root, begins, most))

-- where the new tree was made before
pub publish_refused : {S R : Type 0} (P : PlatformGhosts S) (T : TapeGhosts R) (platform made now : S) (tape tape_now : R) (ledger ledger_now : ℕ) (root : Root) (fault : PublishFault)
    → Begins P.tells (P.history platform).present (P.head platform) (P.capacity platform) root
    → P.faults made ≡ P.faults platform → T.faults tape_now ≡ T.faults tape → P.head now ≤ P.head platform + needed_of_root root
    → (P.tells → MayRiseBy (most_publish (Err fault)) (P.changes platform) (P.changes now))
    → IsPublishCause (P.tells → CellStays (P.history platform) (P.history now)) (counts (P.faults made) 0 0 0 ledger) (counts (P.faults now) 0 0 0 ledger_now) (Err fault)
    → IsUpgradeCause P T platform now tape tape_now (counts (P.faults platform) (T.faults tape) 0 0 ledger) (counts (P.faults now) (T.faults tape_now) 0 0 ledger_now) (Err (unpublished fault))
publish_refused P T platform made now tape tape_now ledger ledger_now root publish.Ledger begins same same' most changes cause =
    let quiet_platform : P.faults now ≡ P.faults made = ap (λ (c : Counts). c.platform) cause.0.1 in
    ((cause.0.0, λ i. counts ((quiet_platform ∙ same) i) (same' i) 0 0 ledger_now), root, partly P 1 platform now root begins most cause.1 changes)
publish_refused P T platform made now tape tape_now ledger ledger_now root publish.Platform begins same same' most changes cause =
    let quiet_ledger : ledger_now ≡ ledger = ap (λ (c : Counts). c.ledger) cause.1 in
    ((subst (λ (n : ℕ). Rose n (P.faults now)) same cause.0, λ i. counts (P.faults now) (same' i) 0 0 (quiet_ledger i)), inr (root, begins, most))
