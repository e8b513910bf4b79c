-- What an upgrade does to a run, by what the device's upgrade does: whom it blames, what it adds and puts, and what it keeps.
use Rattle.std.proofs.Common.{◌≡◌, ◌+◌, ◌≤◌, ℕ, List, Option, Result, Ok, Err, inl, inr, length, refl, arith}
use Rattle.std.specs.Prelude.{◌⊎◌, IfOk, IfErr, IsErrOf, IsOk, OnOk}
use Rattle.sdbt_base.specs.Counts.{Counts, counts}
use Rattle.sdbt_base.specs.declared.sinks.Sink.{Ghosts as SinkGhosts}
use Rattle.sdbt_base.specs.declared.tapes.Tape.{Ghosts as TapeGhosts}
use Rattle.platform.specs.declared.platforms.Platform.{Ghosts as PlatformGhosts}
use Rattle.sdbt_base.specs.Rises.{MayRiseBy}
use Rattle.platform.specs.History.{History}
use Rattle.root_codec.specs.declared.root.Root.{Root}
use Rattle.page_store.specs.Stands.{IsSound}
use Rattle.device_terms.specs.Effects.{Discloses}
use Rattle.device_core.specs.Upgrading.{Begins, CertifiesUpgrade, IsPartly, IsUpgradeCause, PutsUpgrade, SpendsUpgrade, needed_of_root}
use Rattle.device_core.specs.declared.refusals.UpgradeRefusal.{UpgradeRefusal}
use Rattle.device_core.specs.declared.refusals.UpgradeRefusal.TheVariants as upgrade
use Rattle.device_course.specs.Certified.{Certified}
use Rattle.device_course.proofs.CertifiedLaws.{certified_unput, certified_upgrade}
use Rattle.device_course.proofs.FitsLaws.{behind_upgrade}
use Rattle.device_course.proofs.KeysLaws.{on_upgrade}
use Rattle.session_calls.specs.Blame.{HasCause}
use Rattle.session_calls.specs.Upgrades.{AddsNeeded, IsUpgraded, PutsFor, UpgradeGoes, answer_of_refusal, most_upgraded}
use Rattle.session_calls.specs.declared.upgrading.UpgradeReply.TheVariants as replies

-- ---- what is blamed, added and put

-- whose count rose, and that no other did
refusal_blamed : {S R : Type 0} (P : PlatformGhosts S) (T : TapeGhosts R) (platform platform_now : S) (tape tape_now : R) (before now : Counts) (refusal : UpgradeRefusal)
    → IsUpgradeCause P T platform platform_now tape tape_now before now (Err refusal) → OnOk (answer_of_refusal refusal) (now ≡ before) × IfErr (answer_of_refusal refusal) (HasCause before now)
refusal_blamed P T platform platform_now tape tape_now before now upgrade.NoDevice cause = (cause.2, tt)
refusal_blamed P T platform platform_now tape tape_now before now upgrade.BadRoot cause = (tt, cause.2)
refusal_blamed P T platform platform_now tape tape_now before now upgrade.AlreadyUpgraded cause = (cause.2, tt)
refusal_blamed P T platform platform_now tape tape_now before now (upgrade.Full needed free) cause = (cause.2, tt)
refusal_blamed P T platform platform_now tape tape_now before now (upgrade.BadRecord addr) cause = (tt, cause.1)
refusal_blamed P T platform platform_now tape tape_now before now upgrade.Memory cause = (tt, cause.2)
refusal_blamed P T platform platform_now tape tape_now before now upgrade.TapeFault cause = (tt, cause.0)
refusal_blamed P T platform platform_now tape tape_now before now upgrade.PlatformFault cause = (tt, cause.0)
refusal_blamed P T platform platform_now tape tape_now before now upgrade.LedgerFault cause = (tt, cause.0)

partly_adds : {S : Type 0} (P : PlatformGhosts S) (syncs : ℕ) (platform platform_now : S) (root : Root) → IsPartly P syncs platform platform_now root → AddsNeeded P platform platform_now
partly_adds P syncs platform platform_now root partly = inr (root, partly.begins, partly.most)

-- at most the pages that are needed
refusal_adds : {S R : Type 0} (P : PlatformGhosts S) (T : TapeGhosts R) (platform platform_now : S) (tape tape_now : R) (before now : Counts) (refusal : UpgradeRefusal)
    → IsUpgradeCause P T platform platform_now tape tape_now before now (Err refusal) → AddsNeeded P platform platform_now
refusal_adds P T platform platform_now tape tape_now before now upgrade.NoDevice cause = inl cause.1.0.head
refusal_adds P T platform platform_now tape tape_now before now upgrade.BadRoot cause = inl cause.1.0.head
refusal_adds P T platform platform_now tape tape_now before now upgrade.AlreadyUpgraded cause = inl cause.1.0.head
refusal_adds P T platform platform_now tape tape_now before now (upgrade.Full needed free) cause = inl cause.1.0.head
refusal_adds P T platform platform_now tape tape_now before now (upgrade.BadRecord addr) cause = partly_adds P 0 platform platform_now cause.0.0 cause.0.1
refusal_adds P T platform platform_now tape tape_now before now upgrade.Memory cause = inl cause.1.0.head
refusal_adds P T platform platform_now tape tape_now before now upgrade.TapeFault cause = partly_adds P 0 platform platform_now cause.1 cause.2
refusal_adds P T platform platform_now tape tape_now before now upgrade.PlatformFault cause = elim cause.1 [ inl same ↦ inl same.0 | inr some ↦ inr some ]
refusal_adds P T platform platform_now tape tape_now before now upgrade.LedgerFault cause = partly_adds P 1 platform platform_now cause.1 cause.2

-- where neither the platform nor the ledger failed nothing was put
third_of : (One Other Third : Type 0) → (One → ⊥) → (Other → ⊥) → One ⊎ (Other ⊎ Third) → Third
third_of One Other Third no_one no_other (inl one) = absurd (no_one one)
third_of One Other Third no_one no_other (inr (inl other)) = absurd (no_other other)
third_of One Other Third no_one no_other (inr (inr third)) = third

abbrev Refuses : UpgradeRefusal → UpgradeRefusal → Type 0
Refuses refusal other = IsErrOf {T = ℕ} {E = UpgradeRefusal} (Err refusal) other

refusal_puts : (written written_now : Option (List ℕ)) (refusal : UpgradeRefusal)
    → Refuses refusal upgrade.PlatformFault ⊎ (Refuses refusal upgrade.LedgerFault ⊎ (written_now ≡ written)) → PutsFor written written_now (answer_of_refusal refusal)
refusal_puts written written_now upgrade.NoDevice unput = third_of _ _ (written_now ≡ written) (λ e. cc) (λ e. cc) unput
refusal_puts written written_now upgrade.BadRoot unput = third_of _ _ (written_now ≡ written) (λ e. cc) (λ e. cc) unput
refusal_puts written written_now upgrade.AlreadyUpgraded unput = third_of _ _ (written_now ≡ written) (λ e. cc) (λ e. cc) unput
refusal_puts written written_now (upgrade.Full needed free) unput = third_of _ _ (written_now ≡ written) (λ e. cc) (λ e. cc) unput
refusal_puts written written_now (upgrade.BadRecord addr) unput = third_of _ _ (written_now ≡ written) (λ e. cc) (λ e. cc) unput
refusal_puts written written_now upgrade.Memory unput = third_of _ _ (written_now ≡ written) (λ e. cc) (λ e. cc) unput
refusal_puts written written_now upgrade.TapeFault unput = third_of _ _ (written_now ≡ written) (λ e. cc) (λ e. cc) unput
refusal_puts written written_now upgrade.PlatformFault unput = tt
refusal_puts written written_now upgrade.LedgerFault unput = tt

-- ---- what is kept

-- where it goes on without an upgrade nothing was put
refusal_certified : {S R : Type 0} (P : PlatformGhosts S) (T : TapeGhosts R) (platform platform_now : S) (tape tape_now : R) (before now : Counts) (written written_now : Option (List ℕ)) (refusal : UpgradeRefusal)
    → IsUpgradeCause P T platform platform_now tape tape_now before now (Err refusal) → PutsFor written written_now (answer_of_refusal refusal)
    → Certified P.tells written written_now (P.history platform) (P.history platform_now) (IsOk {T = ℕ} {E = UpgradeRefusal} (Err refusal)) → Certified P.tells written written_now (P.history platform) (P.history platform_now) (IsOk (answer_of_refusal refusal))
refusal_certified P T platform platform_now tape tape_now before now written written_now upgrade.NoDevice cause same certified =
    certified_unput P.tells written written_now (P.history platform) (P.history platform_now) _ same cause.1.1
refusal_certified P T platform platform_now tape tape_now before now written written_now upgrade.AlreadyUpgraded cause same certified =
    certified_unput P.tells written written_now (P.history platform) (P.history platform_now) _ same cause.1.1
refusal_certified P T platform platform_now tape tape_now before now written written_now (upgrade.Full needed free) cause same certified =
    certified_unput P.tells written written_now (P.history platform) (P.history platform_now) _ same cause.1.1
refusal_certified P T platform platform_now tape tape_now before now written written_now upgrade.BadRoot cause puts certified = certified
refusal_certified P T platform platform_now tape tape_now before now written written_now (upgrade.BadRecord addr) cause puts certified = certified
refusal_certified P T platform platform_now tape tape_now before now written written_now upgrade.Memory cause puts certified = certified
refusal_certified P T platform platform_now tape tape_now before now written written_now upgrade.TapeFault cause puts certified = certified
refusal_certified P T platform platform_now tape tape_now before now written written_now upgrade.PlatformFault cause puts certified = certified
refusal_certified P T platform platform_now tape tape_now before now written written_now upgrade.LedgerFault cause puts certified = certified

if_done : {X Y : Type 0} (result : Result X Y) (Holds : Type 0) → Holds → IfOk result (λ x. Holds)
if_done (Ok x) Holds holds = holds
if_done (Err y) Holds holds = tt

-- what a call does beside its purpose
abbrev Grows : {S R W : Type 0} → PlatformGhosts S → TapeGhosts R → SinkGhosts W → S → S → R → R → W → W → Type 0
Grows P T L platform platform_now tape tape_now ledger ledger_now =
    (P.head platform ≤ P.head platform_now) × (P.capacity platform_now ≡ P.capacity platform)
    × (P.faults platform ≤ P.faults platform_now) × (T.faults tape ≤ T.faults tape_now) × (L.faults ledger ≤ L.faults ledger_now)

-- so often an upgrade syncs and changes the cell, whatever its answer
upgrade_changes : {S R : Type 0} (P : PlatformGhosts S) (T : TapeGhosts R) (platform platform_now : S) (tape tape_now : R) (Done : Type 0) → SpendsUpgrade P T platform platform_now tape tape_now Done → P.tells → MayRiseBy 2 (P.changes platform) (P.changes platform_now)
upgrade_changes P T platform platform_now tape tape_now Done (inl idle) told = let same = idle.2 told in record { rises = omega (arith, same); at_most = omega (arith, same) }
upgrade_changes P T platform platform_now tape tape_now Done (inr on) told = on.changes told

-- and where it is refused
unsynced : (old new : ℕ) → new ≡ old → MayRiseBy 0 old new
unsynced old new same = record { rises = omega (arith, same); at_most = omega (arith, same) }

refusal_changes : {S R : Type 0} (P : PlatformGhosts S) (T : TapeGhosts R) (platform platform_now : S) (tape tape_now : R) (before now : Counts) (refusal : UpgradeRefusal) (Done : Type 0)
    → IsUpgradeCause P T platform platform_now tape tape_now before now (Err refusal) → SpendsUpgrade P T platform platform_now tape tape_now Done → P.tells → MayRiseBy (most_upgraded (answer_of_refusal refusal)) (P.changes platform) (P.changes platform_now)
refusal_changes P T platform platform_now tape tape_now before now upgrade.NoDevice Done cause spends told = unsynced (P.changes platform) (P.changes platform_now) (cause.1.0.changes told)
refusal_changes P T platform platform_now tape tape_now before now upgrade.BadRoot Done cause spends told = unsynced (P.changes platform) (P.changes platform_now) (cause.1.0.changes told)
refusal_changes P T platform platform_now tape tape_now before now upgrade.AlreadyUpgraded Done cause spends told = unsynced (P.changes platform) (P.changes platform_now) (cause.1.0.changes told)
refusal_changes P T platform platform_now tape tape_now before now (upgrade.Full needed free) Done cause spends told = unsynced (P.changes platform) (P.changes platform_now) (cause.1.0.changes told)
refusal_changes P T platform platform_now tape tape_now before now (upgrade.BadRecord addr) Done cause spends told = cause.0.1.changes told
refusal_changes P T platform platform_now tape tape_now before now upgrade.Memory Done cause spends told = unsynced (P.changes platform) (P.changes platform_now) (cause.1.0.changes told)
refusal_changes P T platform platform_now tape tape_now before now upgrade.TapeFault Done cause spends told = cause.2.changes told
refusal_changes P T platform platform_now tape tape_now before now upgrade.PlatformFault Done cause spends told = upgrade_changes P T platform platform_now tape tape_now Done spends told
refusal_changes P T platform platform_now tape tape_now before now upgrade.LedgerFault Done cause spends told = cause.2.changes told

-- a refusal is no upgrade
not_upgraded : (refusal : UpgradeRefusal) → IsUpgraded (answer_of_refusal refusal) → ⊥
not_upgraded upgrade.NoDevice is = is
not_upgraded upgrade.BadRoot is = is
not_upgraded upgrade.AlreadyUpgraded is = is
not_upgraded (upgrade.Full needed free) is = is
not_upgraded (upgrade.BadRecord addr) is = is
not_upgraded upgrade.Memory is = is
not_upgraded upgrade.TapeFault is = is
not_upgraded upgrade.PlatformFault is = is
not_upgraded upgrade.LedgerFault is = is

-- what is spent, where another thing is done exactly so
spends_as : {S R : Type 0} (P : PlatformGhosts S) (T : TapeGhosts R) (platform platform_now : S) (tape tape_now : R) (Was Done : Type 0) → (Done → Was) → SpendsUpgrade P T platform platform_now tape tape_now Was → SpendsUpgrade P T platform platform_now tape tape_now Done
spends_as P T platform platform_now tape tape_now Was Done leads (inl idle) = inl (idle.0, λ done. idle.1 (leads done), idle.2, idle.3)
spends_as P T platform platform_now tape tape_now Was Done leads (inr on) = inr on

pub refused_goes : {S R W : Type 0} (P : PlatformGhosts S) (T : TapeGhosts R) (L : SinkGhosts W) (platform platform_now : S) (tape tape_now : R) (ledger ledger_now : W) (refusal : UpgradeRefusal) (Then : List (List ℕ) → Type 0)
    → IsUpgradeCause P T platform platform_now tape tape_now (counts (P.faults platform) (T.faults tape) 0 0 (L.faults ledger)) (counts (P.faults platform_now) (T.faults tape_now) 0 0 (L.faults ledger_now)) (Err refusal)
    → Refuses refusal upgrade.PlatformFault ⊎ (Refuses refusal upgrade.LedgerFault ⊎ (L.written ledger_now ≡ L.written ledger))
    → Discloses P.tells (T.drawn tape) (T.drawn tape_now) (P.history platform) (P.history platform_now) (λ keys. IsSound (P.history platform).present) Then
    → CertifiesUpgrade P.tells (L.written ledger) (L.written ledger_now) (P.history platform) (P.history platform_now) (IsOk {T = ℕ} {E = UpgradeRefusal} (Err refusal))
    → (P.tells → (there : S) → length (P.history there).present.recorded ≡ P.head there) → PutsUpgrade P platform platform_now ledger ledger_now → SpendsUpgrade P T platform platform_now tape tape_now (IsOk {T = ℕ} {E = UpgradeRefusal} (Err refusal)) → Grows P T L platform platform_now tape tape_now ledger ledger_now
    → UpgradeGoes P T L platform platform_now tape tape_now ledger ledger_now (answer_of_refusal refusal)
refused_goes P T L platform platform_now tape tape_now ledger ledger_now refusal Then cause unput discloses certifies counted synced spends grows =
    let old : History = P.history platform in
    let new : History = P.history platform_now in
    let before : Counts = counts (P.faults platform) (T.faults tape) 0 0 (L.faults ledger) in
    let now : Counts = counts (P.faults platform_now) (T.faults tape_now) 0 0 (L.faults ledger_now) in
    let puts : PutsFor (L.written ledger) (L.written ledger_now) (answer_of_refusal refusal) = refusal_puts (L.written ledger) (L.written ledger_now) refusal unput in
    let blamed = refusal_blamed P T platform platform_now tape tape_now before now refusal cause in
    record {
      capacity = grows.1;
      rises = grows.0;
      adds = refusal_adds P T platform platform_now tape tape_now before now refusal cause;
      keeps = on_upgrade P.tells (T.drawn tape) (T.drawn tape_now) (L.written ledger) (L.written ledger_now) old new _ (IsOk (answer_of_refusal refusal)) Then (λ keys. IfOk (answer_of_refusal refusal) (λ reply. IsSound new.present)) discloses certifies (behind_upgrade P L.written platform platform_now ledger ledger_now counted synced)
          (refusal_certified P T platform platform_now tape tape_now before now (L.written ledger) (L.written ledger_now) refusal cause puts
          (certified_upgrade {X = ℕ} {Y = UpgradeRefusal} P.tells (L.written ledger) (L.written ledger_now) old new (Err refusal) discloses.turns certifies))
          (λ keys sound. if_done (answer_of_refusal refusal) (IsSound new.present) sound);
      blame = record {
        fell = record { platform = grows.2; tape = grows.3; input = omega arith; output = omega arith; ledger = grows.4 };
        quiet = blamed.0;
        cause = blamed.1;
      };
      synced = synced;
      changes = refusal_changes P T platform platform_now tape tape_now before now refusal (IsOk {T = ℕ} {E = UpgradeRefusal} (Err refusal)) cause spends;
      spends = spends_as P T platform platform_now tape tape_now (IsOk {T = ℕ} {E = UpgradeRefusal} (Err refusal)) (IsUpgraded (answer_of_refusal refusal)) (λ is. absurd (not_upgraded refusal is)) spends;
      puts = puts;
    }

pub upgraded_goes : {S R W : Type 0} (P : PlatformGhosts S) (T : TapeGhosts R) (L : SinkGhosts W) (platform platform_now : S) (tape tape_now : R) (ledger ledger_now : W) (number : ℕ) (root : Root) (Then : List (List ℕ) → Type 0)
    → Begins P.tells (P.history platform).present (P.head platform) (P.capacity platform) root → P.head platform_now ≡ P.head platform + needed_of_root root
    → counts (P.faults platform_now) (T.faults tape_now) 0 0 (L.faults ledger_now) ≡ counts (P.faults platform) (T.faults tape) 0 0 (L.faults ledger)
    → Discloses P.tells (T.drawn tape) (T.drawn tape_now) (P.history platform) (P.history platform_now) (λ keys. IsSound (P.history platform).present) Then
    → CertifiesUpgrade P.tells (L.written ledger) (L.written ledger_now) (P.history platform) (P.history platform_now) (IsOk {T = ℕ} {E = UpgradeRefusal} (Ok number))
    → (P.tells → (there : S) → length (P.history there).present.recorded ≡ P.head there) → PutsUpgrade P platform platform_now ledger ledger_now → SpendsUpgrade P T platform platform_now tape tape_now (IsOk {T = ℕ} {E = UpgradeRefusal} (Ok number)) → Grows P T L platform platform_now tape tape_now ledger ledger_now
    → UpgradeGoes P T L platform platform_now tape tape_now ledger ledger_now (Ok (replies.Upgraded number))
upgraded_goes P T L platform platform_now tape tape_now ledger ledger_now number root Then begins adds quiet discloses certifies counted synced spends grows =
    let old : History = P.history platform in
    let new : History = P.history platform_now in
    record {
      capacity = grows.1;
      rises = grows.0;
      adds = inr (root, begins, omega (arith, adds));
      keeps = on_upgrade P.tells (T.drawn tape) (T.drawn tape_now) (L.written ledger) (L.written ledger_now) old new _ _ Then (λ keys. IsSound new.present) discloses certifies (behind_upgrade P L.written platform platform_now ledger ledger_now counted synced)
          (certified_upgrade {X = ℕ} {Y = UpgradeRefusal} P.tells (L.written ledger) (L.written ledger_now) old new (Ok number) discloses.turns certifies)
          (λ keys sound. sound);
      blame = record {
        fell = record { platform = grows.2; tape = grows.3; input = omega arith; output = omega arith; ledger = grows.4 };
        quiet = quiet;
        cause = tt;
      };
      synced = synced;
      changes = upgrade_changes P T platform platform_now tape tape_now (IsOk {T = ℕ} {E = UpgradeRefusal} (Ok number)) spends;
      spends = spends_as P T platform platform_now tape tape_now (IsOk {T = ℕ} {E = UpgradeRefusal} (Ok number)) (IsUpgraded (Ok (replies.Upgraded number))) (λ is. refl) spends;
      puts = tt;
    }
