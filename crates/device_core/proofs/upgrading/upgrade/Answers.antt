use Rattle.std.proofs.Common.{Err, ◌≡◌, ◌∙◌, ◌+◌, ℕ, List, is_ok, refl, ap, sym, subst, inl, inr, arith}
use Rattle.std.specs.Option.{option_map}
use Rattle.std.proofs.lemmas.Result.{err_from_is_err_and}
use Rattle.sdbt_base.specs.Arrays.{upgraded}
use Rattle.sdbt_base.specs.Counts.{Counts, counts}
use Rattle.platform.specs.Image.{Image}
use Rattle.platform.specs.History.{CellStays}
use Rattle.root_codec.specs.declared.root.Root.{Root}
use Rattle.btree_walk.specs.Nodes.{NodesOf}
use Rattle.device_terms.specs.Certifying.{PutsSynced}
use Rattle.device_terms.proofs.MomentLaws.{stays_then}
use Rattle.device_terms.proofs.StandingLaws.{during_leaves}
use Rattle.device_terms.proofs.PuttingLaws.{puts_behind}
use Rattle.device_core.specs.Rewriting.{Rewrites}
use Rattle.device_core.specs.Publishing.{IsPublishCause}
use Rattle.device_core.specs.Upgrading.{IsUpgradedRoot, PutsUpgrade, ReadsCut, SpendsOn, StandsFrom, needed_of_root}
use Rattle.device_core.specs.declared.preparing.Prepared.{Prepared}
use Rattle.device_core.specs.declared.publishing.PublishFault.{PublishFault}
use Rattle.device_core.specs.declared.publishing.PublishFault.TheVariants as publish
use Rattle.device_core.specs.UpgradeCalls.{IsUpgrading, IsUpgradeEntry}
use Rattle.device_core.proofs.CopyingLaws.{never_ok}
use Rattle.device_core.proofs.UpgradeLaws.{KeepsSound, AreListed, looks_keep, still_discloses, upgrade_made, upgrade_time, upgrade_discloses, upgrade_certifies}
use Rattle.device_core.proofs.UpgradeCauseLaws.{Looked, looked_cell, begin_refused, survey_refused, rewrite_refused, publish_refused, behind_unsynced, two_at_most}
use Rattle.device_core.proofs.UpgradingLaws.{looked_pages, surveyed, upgrading, rewrite_keeps}
use Rattle.device_core.proofs.upgrading.upgrade.Given.{Over}
use Rattle.device_core.proofs.upgrading.upgrade.Goals.{After-begin, After-prepare, After-rewrite, After-publish}
use Rattle.device_core.proofs.upgrading.upgrade.Goals as goal

-- ---- the calls

begun : (g : Over) (c : After-begin g) → Looked g.P.Platform c.args.platform.now c.begin.new.platform
begun g c = looked_cell g.P.Platform c.args.platform.now c.begin.new.platform c.begin.ensures.reads_cell

seen : (g : Over) (c : After-prepare g) → Looked g.P.Platform c.args.platform.now c.prepare.new.platform
seen g c = looked_pages g.P.Platform c.args.platform.now c.begin.new.platform c.prepare.new.platform c.begin.ensures.reads_cell c.prepare.ensures.looks

-- the cell stays until the root record is replaced
still : (g : Over) (c : After-rewrite g) → g.P.Platform.tells → CellStays (g.P.Platform.history c.args.platform.now) (g.P.Platform.history c.rewrite.new.platform)
still g c told =
    let history = g.P.Platform.history in
    stays_then (history c.args.platform.now) (history c.prepare.new.platform) (history c.rewrite.new.platform) ((looked_pages g.P.Platform c.args.platform.now c.begin.new.platform c.prepare.new.platform c.begin.ensures.reads_cell c.prepare.ensures.looks).still told)
    (c.rewrite.ensures.beside.cell told)

-- ---- where nothing was added

pub returns-in_err-root-clause-time : goal.returns-in_err-root-clause-time
returns-in_err-root-clause-time g c = λ told device stands.
    during_leaves _ _ device (StandsFrom (g.P.Platform.head c.args.platform.now) (option_map upgraded device)) stands ((begun g (goal.at.returns-in_err-root-clause-time g c).After-begin).still told)

pub returns-in_err-prepared-clause-time : goal.returns-in_err-prepared-clause-time
returns-in_err-prepared-clause-time g c = λ told device stands.
    during_leaves _ _ device (StandsFrom (g.P.Platform.head c.args.platform.now) (option_map upgraded device)) stands ((seen g (goal.at.returns-in_err-prepared-clause-time g c).After-prepare).still told)

pub returns-in_err-root-clause-discloses : goal.returns-in_err-root-clause-discloses
returns-in_err-root-clause-discloses g c =
    let looked = begun g (goal.at.returns-in_err-root-clause-discloses g c).After-begin in
    still_discloses _ _ _ _ _ (λ keys. Unit {0}) (looks_keep _ _ _ _ looked.still looked.image) looked.still

pub returns-in_err-prepared-clause-discloses : goal.returns-in_err-prepared-clause-discloses
returns-in_err-prepared-clause-discloses g c =
    let looked = seen g (goal.at.returns-in_err-prepared-clause-discloses g c).After-prepare in
    still_discloses _ _ _ _ _ (λ keys. Unit {0}) (looks_keep _ _ _ _ looked.still looked.image) looked.still

pub returns-in_err-root-clause-certifies : goal.returns-in_err-root-clause-certifies
returns-in_err-root-clause-certifies g c = inl (refl, (begun g (goal.at.returns-in_err-root-clause-certifies g c).After-begin).still)

pub returns-in_err-prepared-clause-certifies : goal.returns-in_err-prepared-clause-certifies
returns-in_err-prepared-clause-certifies g c = inl (refl, (seen g (goal.at.returns-in_err-prepared-clause-certifies g c).After-prepare).still)

pub returns-in_err-root-clause-cause : goal.returns-in_err-root-clause-cause
returns-in_err-root-clause-cause g c =
    let p = err_from_is_err_and c.from_residual.result c.from_residual.ensures.1 in
    rw (p.1, p.2) (begin_refused g.P.Platform g.T.Tape c.args.platform.now c.begin.new.platform c.args.tape.now (g.L.Sink.faults c.args.ledger.now) c.in_err-root.field-0.0
    (begun g (goal.at.returns-in_err-root-clause-cause g c).After-begin) c.in_err-root.ensures.cause)

pub returns-in_err-prepared-clause-cause : goal.returns-in_err-prepared-clause-cause
returns-in_err-prepared-clause-cause g c =
    let p = err_from_is_err_and c.from_residual-in_err-prepared.result c.from_residual-in_err-prepared.ensures.1 in
    rw (p.1, p.2) (survey_refused Prepared g.P.Platform g.T.Tape c.args.platform.now c.begin.new.platform c.prepare.new.platform c.args.tape.now (g.L.Sink.faults c.args.ledger.now) c.in_ok-root.root c.in_err-prepared.field-0.0
    c.in_ok-root.ensures.cause.0 c.in_ok-root.ensures.cause.1 (looked_cell g.P.Platform c.args.platform.now c.begin.new.platform c.begin.ensures.reads_cell) (seen g (goal.at.returns-in_err-prepared-clause-cause g c).After-prepare)
    c.in_err-prepared.ensures.cause)

-- ---- where the new tree was not made

pub returns-in_err-next-clause-time : goal.returns-in_err-next-clause-time
returns-in_err-next-clause-time g c = λ told device stands.
    during_leaves _ _ device (StandsFrom (g.P.Platform.head c.args.platform.now) (option_map upgraded device)) stands (still g (goal.at.returns-in_err-next-clause-time g c).After-rewrite told)

pub returns-in_err-next-clause-discloses : goal.returns-in_err-next-clause-discloses
returns-in_err-next-clause-discloses g c =
    let at = (goal.at.returns-in_err-next-clause-discloses g c).After-rewrite in
    let looked = looked_pages g.P.Platform c.args.platform.now c.begin.new.platform c.prepare.new.platform c.begin.ensures.reads_cell c.prepare.ensures.looks in
    still_discloses _ _ _ _ _ _ (rewrite_keeps _ _ _ _ _ _ _ looked.still looked.image c.rewrite.ensures.keeps c.rewrite.ensures.beside.cell) (still g at)

pub returns-in_err-next-clause-certifies : goal.returns-in_err-next-clause-certifies
returns-in_err-next-clause-certifies g c = inl (refl, still g (goal.at.returns-in_err-next-clause-certifies g c).After-rewrite)

pub returns-in_err-next-clause-cause : goal.returns-in_err-next-clause-cause
returns-in_err-next-clause-cause g c =
    let p = err_from_is_err_and c.from_residual-in_err-next.result c.from_residual-in_err-next.ensures.1 in
    let at = (goal.at.returns-in_err-next-clause-cause g c).After-rewrite in
    let looked = looked_pages g.P.Platform c.args.platform.now c.begin.new.platform c.prepare.new.platform c.begin.ensures.reads_cell c.prepare.ensures.looks in
    rw (p.1, p.2) (rewrite_refused Root g.P.Platform g.T.Tape c.args.platform.now c.prepare.new.platform c.rewrite.new.platform c.args.tape.now c.rewrite.new.tape (g.L.Sink.faults c.args.ledger.now) c.in_ok-root.root
    c.in_ok-prepared.prepared.items.items c.in_err-next.field-0.0 c.in_ok-root.ensures.cause.0
    (surveyed g.P.Platform g.met.P.Platform.counts_pages c.args.platform.now c.begin.new.platform c.prepare.new.platform c.in_ok-root.root c.in_ok-prepared.prepared c.in_ok-root.ensures.cause.0
    c.begin.ensures.reads_cell c.prepare.ensures.looks c.in_ok-prepared.ensures.prepared).listed_are
    c.in_ok-prepared.ensures.prepared.of.listing.0
    (c.in_ok-prepared.ensures.cause ∙ c.in_ok-root.ensures.cause.1) looked (omega (arith, looked.head, c.rewrite.ensures.beside.at_most)) (still g at) (λ told. c.rewrite.ensures.beside.changes told ∙ c.prepare.ensures.looks.changes told ∙ c.begin.ensures.reads_cell.changes told) c.in_err-next.ensures.cause)

-- ---- where the new tree was made

rewrites : (g : Over) (c : After-publish g) → let history = g.P.Platform.history in
    Rewrites g.P.Platform.tells (history c.prepare.new.platform) (history c.rewrite.new.platform) (g.P.Platform.head c.args.platform.now) (g.P.Platform.head c.rewrite.new.platform) c.in_ok-root.root c.in_ok-prepared.prepared.items.items
    c.rewrite.new.prepared.items.items c.in_ok-next.next
rewrites g c =
    let history = g.P.Platform.history in
    subst (λ (n : ℕ). Rewrites g.P.Platform.tells (history c.prepare.new.platform) (history c.rewrite.new.platform) n (g.P.Platform.head c.rewrite.new.platform) c.in_ok-root.root c.in_ok-prepared.prepared.items.items c.rewrite.new.prepared.items.items c.in_ok-next.next)
    (c.prepare.ensures.looks.head ∙ c.begin.ensures.reads_cell.head) c.in_ok-next.ensures.rewrites

calls : (g : Over) (c : After-publish g) → let history = g.P.Platform.history in
    IsUpgrading g.P.Platform.tells (history c.args.platform.now) (history c.prepare.new.platform) (rewrites g c).copied (history c.rewrite.new.platform) (history c.publish.new.platform) (g.P.Platform.head c.args.platform.now) c.in_ok-root.root c.in_ok-next.next
    c.in_ok-prepared.prepared.items.items (rewrites g c).named c.rewrite.new.prepared.items.items c.in_ok-prepared.ensures.prepared.addrs
calls g c =
    let survey = surveyed g.P.Platform g.met.P.Platform.counts_pages c.args.platform.now c.begin.new.platform c.prepare.new.platform c.in_ok-root.root c.in_ok-prepared.prepared c.in_ok-root.ensures.cause.0
    c.begin.ensures.reads_cell c.prepare.ensures.looks c.in_ok-prepared.ensures.prepared in
    upgrading g.P.Platform g.met.P.Platform.counts_pages c.args.platform.now c.prepare.new.platform c.rewrite.new.platform c.publish.new.platform c.in_ok-root.root c.in_ok-next.next c.in_ok-prepared.prepared.items.items c.rewrite.new.prepared.items.items
    c.in_ok-prepared.ensures.prepared.addrs survey (rewrites g c) c.publish.ensures.head c.publish.ensures.time

-- the keys of all items are listed before the root record is replaced
keeps : (g : Over) (c : After-publish g) → KeepsSound g.P.Platform.tells (g.T.Tape.drawn c.args.tape.now) (g.T.Tape.drawn c.rewrite.new.tape) (g.P.Platform.history c.args.platform.now) (g.P.Platform.history c.rewrite.new.platform) (AreListed c.rewrite.new.prepared.items.items)
keeps g c =
    let looked = looked_pages g.P.Platform c.args.platform.now c.begin.new.platform c.prepare.new.platform c.begin.ensures.reads_cell c.prepare.ensures.looks in
    rewrite_keeps _ _ _ _ _ _ _ looked.still looked.image c.in_ok-next.ensures.keeps c.rewrite.ensures.beside.cell

-- the line that is put is that of the certificate
entry_is : (g : Over) (c : After-publish g) → IsUpgradeEntry c.in_ok-root.root (g.P.Platform.head c.args.platform.now) c.in_ok-prepared.prepared.items.items c.in_ok-prepared.ensures.prepared.addrs c.bytes.result.now
entry_is g c =
    subst (λ (line : List ℕ). IsUpgradeEntry c.in_ok-root.root (g.P.Platform.head c.args.platform.now) c.in_ok-prepared.prepared.items.items c.in_ok-prepared.ensures.prepared.addrs line) (sym (c.bytes.ensures ∙ c.rewrite.ensures.line))
    (subst (λ (n : ℕ). IsUpgradeEntry c.in_ok-root.root n c.in_ok-prepared.prepared.items.items c.in_ok-prepared.ensures.prepared.addrs c.in_ok-prepared.prepared.line) c.begin.ensures.reads_cell.head c.in_ok-prepared.ensures.prepared.line)

-- the cell stays until the root record is replaced
unmoved : (g : Over) (c : After-publish g) → g.P.Platform.tells → CellStays (g.P.Platform.history c.args.platform.now) (g.P.Platform.history c.rewrite.new.platform)
unmoved g c told =
    let history = g.P.Platform.history in
    let looked = looked_pages g.P.Platform c.args.platform.now c.begin.new.platform c.prepare.new.platform c.begin.ensures.reads_cell c.prepare.ensures.looks in
    stays_then (history c.args.platform.now) (history c.prepare.new.platform) (history c.rewrite.new.platform) (looked.still told) (c.rewrite.ensures.beside.cell told)

-- why a root record was not published, where more is known to stay
still_cause : (Was Is : Type 0) (before now : Counts) (fault : PublishFault) → (Was → Is) → IsPublishCause Was before now (Err fault) → IsPublishCause Is before now (Err fault)
still_cause Was Is before now publish.Platform follows cause = cause
still_cause Was Is before now publish.Ledger follows cause = (cause.0, follows cause.1)

-- all pages that are needed were added before
behind : (g : Over) (c : After-publish g) → PutsSynced g.P.Platform (needed_of_root c.in_ok-root.root) c.args.platform.now c.publish.new.platform c.args.ledger.now c.publish.new.ledger
behind g c =
    puts_behind g.P.Platform 0 (needed_of_root c.in_ok-root.root) c.args.platform.now c.rewrite.new.platform c.publish.new.platform c.args.ledger.now c.publish.new.ledger
    (omega (arith, (rewrites g c).head_is)) c.publish.ensures.synced

puts_upgrade : (g : Over) (c : After-publish g) → PutsUpgrade g.P.Platform c.args.platform.now c.publish.new.platform c.args.ledger.now c.publish.new.ledger
puts_upgrade g c = elim (behind g c) [
  | inl same ↦ inl same
  | inr added ↦ inr (c.in_ok-root.root, c.in_ok-root.ensures.cause.0, added)
]

pub returns-clause-made : goal.returns-clause-made
returns-clause-made g c = λ told device stands.
    let at = (goal.at.returns-clause-made g c).After-publish in
    upgrade_made _ _ _ _ _ _ _ _ _ _ _ _ _ (calls g at) told (c.in_ok-publish.ensures.published told) device stands c.in_ok-next.next.commit (rewrites g at).next_is.commit

pub returns-clause-time : goal.returns-clause-time
returns-clause-time g c = λ told device stands. upgrade_time _ _ _ _ _ _ _ _ _ _ _ _ _ (calls g (goal.at.returns-clause-time g c).After-publish) told device stands

pub returns-in_err-publish-clause-time : goal.returns-in_err-publish-clause-time
returns-in_err-publish-clause-time g c = λ told device stands. upgrade_time _ _ _ _ _ _ _ _ _ _ _ _ _ (calls g (goal.at.returns-in_err-publish-clause-time g c).After-publish) told device stands

pub returns-clause-discloses : goal.returns-clause-discloses
returns-clause-discloses g c =
    let at = (goal.at.returns-clause-discloses g c).After-publish in
    upgrade_discloses _ _ _ _ _ _ _ _ _ _ _ _ _ (calls g at) _ _ (keeps g at)

pub returns-in_err-publish-clause-discloses : goal.returns-in_err-publish-clause-discloses
returns-in_err-publish-clause-discloses g c =
    let at = (goal.at.returns-in_err-publish-clause-discloses g c).After-publish in
    upgrade_discloses _ _ _ _ _ _ _ _ _ _ _ _ _ (calls g at) _ _ (keeps g at)

pub returns-clause-certifies : goal.returns-clause-certifies
returns-clause-certifies g c =
    let at = (goal.at.returns-clause-certifies g c).After-publish in
    upgrade_certifies _ _ _ _ _ _ _ _ _ _ _ _ _ (calls g at) _ _ _ _ _ (λ was ok. was (ap is_ok c.in_ok-publish.was)) (entry_is g at) c.publish.ensures.put

pub returns-in_err-publish-clause-certifies : goal.returns-in_err-publish-clause-certifies
returns-in_err-publish-clause-certifies g c =
    let at = (goal.at.returns-in_err-publish-clause-certifies g c).After-publish in
    let p = err_from_is_err_and c.from_residual-in_err-publish.result c.from_residual-in_err-publish.ensures.1 in
    upgrade_certifies _ _ _ _ _ _ _ _ _ _ _ _ _ (calls g at) _ _ _ _ _ (λ was ok. never_ok c.from_residual-in_err-publish.result p.0 p.1 ok) (entry_is g at) c.publish.ensures.put

pub returns-clause-synced : goal.returns-clause-synced
returns-clause-synced g c = puts_upgrade g (goal.at.returns-clause-synced g c).After-publish

pub returns-in_err-publish-clause-synced : goal.returns-in_err-publish-clause-synced
returns-in_err-publish-clause-synced g c = puts_upgrade g (goal.at.returns-in_err-publish-clause-synced g c).After-publish

pub returns-in_err-publish-clause-cause : goal.returns-in_err-publish-clause-cause
returns-in_err-publish-clause-cause g c =
    let p = err_from_is_err_and c.from_residual-in_err-publish.result c.from_residual-in_err-publish.ensures.1 in
    let at = (goal.at.returns-in_err-publish-clause-cause g c).After-publish in
    let history = g.P.Platform.history in
    rw (p.1, p.2) (publish_refused g.P.Platform g.T.Tape c.args.platform.now c.rewrite.new.platform c.publish.new.platform c.args.tape.now c.rewrite.new.tape (g.L.Sink.faults c.args.ledger.now) (g.L.Sink.faults c.publish.new.ledger)
    c.in_ok-root.root c.in_err-publish.field-0.0 c.in_ok-root.ensures.cause.0
    (c.in_ok-next.ensures.cause.0 ∙ c.in_ok-prepared.ensures.cause ∙ c.in_ok-root.ensures.cause.1) c.in_ok-next.ensures.cause.1 (omega (arith, (rewrites g at).head_is, c.publish.ensures.head))
    (λ told. behind_unsynced _ _ _ _ (c.rewrite.ensures.beside.changes told ∙ c.prepare.ensures.looks.changes told ∙ c.begin.ensures.reads_cell.changes told) (c.in_err-publish.ensures.reads told).1)
    (still_cause _ _ _ _ c.in_err-publish.field-0.0
    (λ stays told. stays_then (history c.args.platform.now) (history c.rewrite.new.platform) (history c.publish.new.platform) (unmoved g at told) (stays told))
    c.in_err-publish.ensures.cause))

pub returns-clause-cause : goal.returns-clause-cause
returns-clause-cause g c =
    let at = (goal.at.returns-clause-cause g c).After-publish in
    let made = rewrites g at in
    let end : g.P.Platform.head c.publish.new.platform ≡ g.P.Platform.head c.args.platform.now + needed_of_root c.in_ok-root.root = c.publish.ensures.head ∙ made.head_is in
    let quiet = c.in_ok-publish.ensures.cause in
    let same : g.P.Platform.faults c.publish.new.platform ≡ g.P.Platform.faults c.args.platform.now
    = ap (λ (n : Counts). n.platform) quiet ∙ c.in_ok-next.ensures.cause.0 ∙ c.in_ok-prepared.ensures.cause ∙ c.in_ok-root.ensures.cause.1 in (
      c.in_ok-root.root,
      c.in_ok-root.ensures.cause.0,
      made.next_is.commit,
      end,
      λ told. (c.in_ok-next.next, subst (λ (n : ℕ). IsUpgradedRoot c.in_ok-root.root n c.in_ok-next.next) (sym end) made.next_is, ap (λ (i : Image). i.cell) (c.in_ok-publish.ensures.published told)),
      λ k. counts (same k) (c.in_ok-next.ensures.cause.1 k) 0 0 (quiet k).ledger,
    )

pub prepare-requires-clause-room : goal.prepare-requires-clause-room
prepare-requires-clause-room g c =
    let reads = c.begin.ensures.reads_cell in
    let begins = c.in_ok-root.ensures.cause.0 in
    omega (arith, begins.room, g.met.P.Platform.has_room c.args.platform.now, reads.head, reads.capacity)

-- ---- keys and reads

pub returns-in_err-root-clause-spends : goal.returns-in_err-root-clause-spends
returns-in_err-root-clause-spends g c =
    let p = err_from_is_err_and c.from_residual.result c.from_residual.ensures.1 in
    inl (refl, never_ok c.from_residual.result p.0 p.1, c.begin.ensures.reads_cell.changes, inl (λ told. (c.begin.ensures.reads_cell.reads told, c.begin.ensures.reads_cell.page_reads told)))

pub returns-in_err-prepared-clause-spends : goal.returns-in_err-prepared-clause-spends
returns-in_err-prepared-clause-spends g c =
    let p = err_from_is_err_and c.from_residual-in_err-prepared.result c.from_residual-in_err-prepared.ensures.1 in
    let P = g.P.Platform in
    let root = c.in_ok-root.root in
    let cell = c.begin.ensures.reads_cell in
    inl (
      refl,
      never_ok c.from_residual-in_err-prepared.result p.0 p.1,
      λ told. c.prepare.ensures.looks.changes told ∙ cell.changes told,
      inr (
        root,
        c.in_ok-root.ensures.cause.0,
        λ told.
            let cut = subst (λ (i : Image). ReadsCut i.readable root (P.reads c.begin.new.platform) (P.reads c.prepare.new.platform)) (cell.image told) (c.in_err-prepared.ensures.cut told) in
            subst (λ (n : ℕ). ReadsCut (P.history c.args.platform.now).present.readable root n (P.reads c.prepare.new.platform)) (c.in_ok-root.ensures.once told) cut,
      ),
    )

-- what was read and drawn up to the making of the new tree
spent : (g : Over) (c : After-rewrite g) → SpendsOn g.P.Platform g.T.Tape c.args.platform.now c.rewrite.new.platform c.args.tape.now c.rewrite.new.tape
spent g c = record {
  root = c.in_ok-root.root;
  begins = c.in_ok-root.ensures.cause.0;
  draws = c.rewrite.ensures.beside.draws;
  reads = λ told.
      let root = c.in_ok-root.root in
      let cell = c.begin.ensures.reads_cell in
      let twice = c.in_ok-prepared.ensures.reads told in
      let are = subst (λ (i : Image). NodesOf i.readable root twice.nodes) (cell.image told) twice.are in
      (twice.nodes, are, omega (arith, c.in_ok-root.ensures.once told, twice.read, c.rewrite.ensures.beside.reads_most told));
  changes = λ told.
      let none = c.rewrite.ensures.beside.changes told ∙ c.prepare.ensures.looks.changes told ∙ c.begin.ensures.reads_cell.changes told in
      record { rises = omega (arith, none); at_most = omega (arith, none) };
  behind = λ told. inl (c.rewrite.ensures.beside.changes told ∙ c.prepare.ensures.looks.changes told ∙ c.begin.ensures.reads_cell.changes told);
}

pub returns-in_err-next-clause-spends : goal.returns-in_err-next-clause-spends
returns-in_err-next-clause-spends g c = inr (spent g (goal.at.returns-in_err-next-clause-spends g c).After-rewrite)

-- and up to the end: the publishing of the root record reads nothing
spent_all : (g : Over) (c : After-publish g) → SpendsOn g.P.Platform g.T.Tape c.args.platform.now c.publish.new.platform c.args.tape.now c.rewrite.new.tape
spent_all g c = record {
  root = c.in_ok-root.root;
  begins = c.in_ok-root.ensures.cause.0;
  draws = c.rewrite.ensures.beside.draws;
  reads = λ told.
      let root = c.in_ok-root.root in
      let cell = c.begin.ensures.reads_cell in
      let twice = c.in_ok-prepared.ensures.reads told in
      let are = subst (λ (i : Image). NodesOf i.readable root twice.nodes) (cell.image told) twice.are in
      (twice.nodes, are, omega (arith, c.in_ok-root.ensures.once told, twice.read, c.rewrite.ensures.beside.reads_most told, (c.publish.ensures.reads told).0.0));
  changes = λ told.
      let none = c.rewrite.ensures.beside.changes told ∙ c.prepare.ensures.looks.changes told ∙ c.begin.ensures.reads_cell.changes told in
      behind_unsynced 2 _ _ _ none (two_at_most c.publish.result _ _ (c.publish.ensures.reads told).1);
  behind = λ told. inr (omega (arith, (rewrites g c).head_is, c.publish.ensures.head));
}

pub returns-in_err-publish-clause-spends : goal.returns-in_err-publish-clause-spends
returns-in_err-publish-clause-spends g c = inr (spent_all g (goal.at.returns-in_err-publish-clause-spends g c).After-publish)

pub returns-clause-spends : goal.returns-clause-spends
returns-clause-spends g c = inr (spent_all g (goal.at.returns-clause-spends g c).After-publish)
