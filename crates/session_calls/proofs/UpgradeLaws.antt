-- Which answer an upgrade has, and where it leads, by what the device's upgrade says; and which devices it makes.
use Rattle.std.proofs.Common.{◌≡◌, ◌+◌, ◌<◌, ℕ, List, [], ◌∷◌, Option, None, Some, Err, inl, inr, length, refl, sym, ◌∙◌, subst, ap, arith}
use Rattle.std.specs.FinMap as map
use Rattle.std.proofs.lemmas.Option.{none-some, same_Some}
use Rattle.std.specs.Option.{option_map}
use Rattle.sdbt_base.specs.Arrays.{Device, Session as OpenSession, State, closed, upgraded}
use Rattle.sdbt_base.specs.Counts.{Counts}
use Rattle.sdbt_base.specs.declared.tapes.Tape.{Ghosts as TapeGhosts}
use Rattle.platform.specs.declared.platforms.Platform.{Ghosts as PlatformGhosts}
use Rattle.platform.specs.Image.{Image, LeavesOnly}
use Rattle.platform.specs.History.{History, CellStays, During, Turns}
use Rattle.platform.proofs.Moments.{During-now, LeavesOnly-now, Extends-earlier, Turns-weaker}
use Rattle.root_codec.specs.declared.root.Root.{Root}
use Rattle.root_codec.specs.RootRecord.{FitsRoot, root_bytes}
use Rattle.root_codec.specs.Laws.{one_root}
use Rattle.page_store.specs.Stands.{Stands, StandsBy}
use Rattle.page_store.specs.Tree.{Parts}
use Rattle.page_store.proofs.StandsLaws.{stands_during}
use Rattle.page_store.proofs.TreeLaws.{tree_not_wrong}
use Rattle.page_store.proofs.AscendLaws.{mapped_len}
use Rattle.device_terms.specs.Served.{IsServedCell, IsServedImage}
use Rattle.device_core.specs.Upgrading.{Begins, IsDamaged, IsPartly, IsUpgradeCause, StandsFrom, needed_of_device, needed_of_root, pages_over}
use Rattle.device_core.specs.declared.refusals.UpgradeRefusal.{UpgradeRefusal}
use Rattle.device_core.specs.declared.refusals.UpgradeRefusal.TheVariants as upgrade
use Rattle.device_core.proofs.SurveyLaws.{damaged_wrong, no_such_tree}
use Rattle.device_core.proofs.WiderLaws.{damaged_later}
use Rattle.device_course.specs.Course.{Made}
use Rattle.device_course.specs.Marks.{Leaves}
use Rattle.device_course.specs.States.{IsAt}
use Rattle.device_course.proofs.MadeLaws.{made_none, made_one, made_same, made_stopped, shut}
use Rattle.session_calls.specs.Damage.{IsDamagedAt}
use Rattle.session_calls.specs.Upgrades.{AnswersUpgrade, LeadsNowhere, LeadsUpgraded, ReplyUpgrades, TurnsUpgraded, UpgradeLeads, answer_of_refusal}
use Rattle.session_calls.specs.declared.stops.DeviceStop.{DeviceStop}
use Rattle.session_calls.specs.declared.stops.DeviceStop.TheVariants as stops
use Rattle.session_calls.specs.declared.upgrading.UpgradeReply.{UpgradeReply}
use Rattle.session_calls.specs.declared.upgrading.UpgradeReply.TheVariants as replies
use Rattle.session_calls.proofs.MountLaws.{bad_served}
use Rattle.session_calls.proofs.StateLaws.{served_still}

-- ---- which answer it is

-- an upgrade stops at the page that is named, over more pages too
stops_there : {S : Type 0} (P : PlatformGhosts S) (platform platform_now : S) (root : Root) (addr : ℕ) → P.tells → length (P.history platform).present.recorded ≡ P.head platform → IsPartly P 0 platform platform_now root
    → IsDamaged (P.history platform).present.readable root addr → IsDamagedAt (P.history platform).present addr × IsDamagedAt (P.history platform_now).present addr
stops_there P platform platform_now root addr told pages partly damaged =
    let old : History = P.history platform in
    let new : History = P.history platform_now in
    let on = partly.begins.on in
    let fits : FitsRoot root = on.within.in_range in
    let stays : CellStays old new = partly.still told in
    let here : old.present.cell ≡ Some (root_bytes root) = on.cell told in
    let there : new.present.cell ≡ Some (root_bytes root) = During-now old new (λ image. image.cell ≡ old.present.cell) stays ∙ here in
    let less : root.addr < length old.present.recorded = omega (arith, pages, fits.addr, on.within.within) in (
      record { root = root; in_range = fits; cell = here; damaged = damaged },
      record { root = root; in_range = fits; cell = there; damaged = damaged_later old.present new.present root addr fits (Extends-earlier old new stays.extends) less damaged },
    )

pub refusal_answers : {S R : Type 0} (P : PlatformGhosts S) (T : TapeGhosts R) (platform platform_now : S) (tape tape_now : R) (before now : Counts) (refusal : UpgradeRefusal) → (P.tells → length (P.history platform).present.recorded ≡ P.head platform)
    → IsUpgradeCause P T platform platform_now tape tape_now before now (Err refusal) → AnswersUpgrade P T platform platform_now tape tape_now (answer_of_refusal refusal)
refusal_answers P T platform platform_now tape tape_now before now upgrade.NoDevice pages cause = (cause.0, cause.1)
refusal_answers P T platform platform_now tape tape_now before now upgrade.BadRoot pages cause = (cause.0, cause.1)
refusal_answers P T platform platform_now tape tape_now before now upgrade.AlreadyUpgraded pages cause = (cause.0, cause.1)
refusal_answers P T platform platform_now tape tape_now before now (upgrade.Full needed free) pages (((root, on, version, is_needed, is_free, less), unmade, same)) = ((root, on, version, omega (arith, is_needed, is_free, less)), unmade)
refusal_answers P T platform platform_now tape tape_now before now (upgrade.BadRecord addr) pages ((root, partly, damaged), same) = ((root, partly), λ told. stops_there P platform platform_now root addr told (pages told) partly (damaged told))
refusal_answers P T platform platform_now tape tape_now before now upgrade.Memory pages cause = (cause.0, cause.1)
refusal_answers P T platform platform_now tape tape_now before now upgrade.TapeFault pages (rose, root, partly) = (root, partly)
refusal_answers P T platform platform_now tape tape_now before now upgrade.PlatformFault pages cause = tt
refusal_answers P T platform platform_now tape tape_now before now upgrade.LedgerFault pages (rose, root, partly) = (root, partly)

-- ---- over an image that stands

-- there is a device where the cell is a root record
record StandsOn (image : Image) (device : Option Device) (root : Root) : Type 0 where
  there : Device
  is : device ≡ Some there
  parts : Parts
  stands : StandsBy image there root parts

on_root : (image : Image) (device : Option Device) (root : Root) → Stands image device → FitsRoot root → image.cell ≡ Some (root_bytes root) → StandsOn image device root
on_root image None root none fits cell = absurd (none-some (root_bytes root) (sym none ∙ cell))
on_root image (Some device) root (other, parts, stands) fits cell =
    let same : other ≡ root = one_root other root stands.in_range fits (same_Some _ _ (sym stands.cell ∙ cell)) in
    record { there = device; is = refl; parts = parts; stands = subst (λ (r : Root). StandsBy image device r parts) same stands }

no_device : (image : Image) (device : Option Device) → Stands image device → image.cell ≡ None → device ≡ None
no_device image None stands cell = refl
no_device image (Some device) (root, parts, stands) cell = absurd (none-some (root_bytes root) (sym cell ∙ stands.cell))

-- the root record counts the mapped blocks of the device
needed_is : (image : Image) (device : Device) (root : Root) (parts : Parts) → StandsBy image device root parts → needed_of_root root ≡ needed_of_device device
needed_is image device root parts stands =
    let mapped : root.mapped ≡ map.len device.contents = sym stands.count ∙ mapped_len image device root parts stands in
    ap (λ (n : ℕ). pages_over n root.mapped) stands.order ∙ ap (λ (n : ℕ). pages_over device.order n) mapped

none_damaged : (image : Image) (device : Device) (root : Root) (parts : Parts) (addr : ℕ) → StandsBy image device root parts → IsDamaged image.readable root addr → ⊥
none_damaged image device root parts addr stands damaged = elim (damaged_wrong image.readable root addr stands.in_range damaged) [
  | inl wrong ↦ tree_not_wrong image.readable root parts addr stands.in_range stands.tree wrong
  | inr node ↦ no_such_tree image.readable root parts stands.in_range node.1 stands.tree stands.count
]

nowhere : {S : Type 0} (P : PlatformGhosts S) (platform platform_now : S) (device : Option Device) → IsAt (P.history platform).present None (closed device) → CellStays (P.history platform) (P.history platform_now)
    → LeadsNowhere P platform platform_now (closed device)
nowhere P platform platform_now device at stays =
    let old : History = P.history platform in
    let new : History = P.history platform_now in
    let during : During old new (Leaves device) = stands_during old new device at.there.device stays in
    record { at = shut new.present device (LeavesOnly-now new (λ left. Stands left device) (During-now old new (Leaves device) during)) (served_still old new stays at.served); during = during }

-- ---- where it leads

-- where there may be a device: from some moment on the upgraded one, by pages that came since
abbrev pub TurnsFrom : {S : Type 0} → PlatformGhosts S → S → S → Option Device → Type 0
TurnsFrom P platform platform_now device =
    Turns (P.history platform) (P.history platform_now) (Leaves device) (LeavesOnly (StandsFrom (P.head platform) (option_map upgraded device)))

-- that is the upgraded device
pub turns_upgraded : {S : Type 0} (P : PlatformGhosts S) (platform platform_now : S) (device : Device) → TurnsUpgraded P platform platform_now device
    → Turns (P.history platform) (P.history platform_now) (Leaves (Some device)) (Leaves (Some (upgraded device)))
turns_upgraded P platform platform_now device turns =
    let first : ℕ = P.head platform in
    Turns-weaker (P.history platform) (P.history platform_now) (Leaves (Some device)) (LeavesOnly (StandsFrom first (Some (upgraded device)))) (Leaves (Some device)) (Leaves (Some (upgraded device))) (λ image is. is)
    (λ image from left leaves. let by = from left leaves in (by.0, by.1, by.2)) turns

refusal_leads : {S R : Type 0} (P : PlatformGhosts S) (T : TapeGhosts R) (platform platform_now : S) (tape tape_now : R) (before now : Counts) (refusal : UpgradeRefusal) (device : Option Device) → P.tells → length (P.history platform).present.recorded ≡ P.head platform
    → IsAt (P.history platform).present None (closed device) → TurnsFrom P platform platform_now device
    → IsUpgradeCause P T platform platform_now tape tape_now before now (Err refusal) → UpgradeLeads P platform platform_now (closed device) (answer_of_refusal refusal)
refusal_leads P T platform platform_now tape tape_now before now upgrade.NoDevice device told pages at turns cause =
    (ap (λ (d : Option Device). closed d) (no_device (P.history platform).present device at.there.device (cause.0 told)), nowhere P platform platform_now device at (cause.1.1 told))
refusal_leads P T platform platform_now tape tape_now before now upgrade.BadRoot device told pages at turns cause =
    let image : Image = (P.history platform).present in
    bad_served image.cell (P.head platform) (subst (λ (n : ℕ). IsServedCell image.cell n) pages at.served) (cause.0 told)
refusal_leads P T platform platform_now tape tape_now before now upgrade.AlreadyUpgraded device told pages at turns ((root, on, version), unmade, same) =
    let there = on_root (P.history platform).present device root at.there.device on.within.in_range (on.cell told) in
    ((there.there, ap (λ (d : Option Device). closed d) there.is, sym there.stands.version ∙ version), nowhere P platform platform_now device at (unmade.1 told))
refusal_leads P T platform platform_now tape tape_now before now (upgrade.Full needed free) device told pages at turns ((root, on, version, is_needed, is_free, less), unmade, same) =
    let there = on_root (P.history platform).present device root at.there.device on.within.in_range (on.cell told) in
    let many : needed_of_root root ≡ needed_of_device there.there = needed_is (P.history platform).present there.there root there.parts there.stands in
    ((there.there, ap (λ (d : Option Device). closed d) there.is, sym there.stands.version ∙ version, omega (arith, is_needed, is_free, less, many)), nowhere P platform platform_now device at (unmade.1 told))
refusal_leads P T platform platform_now tape tape_now before now (upgrade.BadRecord addr) device told pages at turns ((root, partly, damaged), same) =
    let on = partly.begins.on in
    let there = on_root (P.history platform).present device root at.there.device on.within.in_range (on.cell told) in
    none_damaged (P.history platform).present there.there root there.parts addr there.stands (damaged told)
refusal_leads P T platform platform_now tape tape_now before now upgrade.Memory device told pages at turns cause = nowhere P platform platform_now device at (cause.1.1 told)
refusal_leads P T platform platform_now tape tape_now before now upgrade.TapeFault device told pages at turns (rose, root, partly) = nowhere P platform platform_now device at (partly.still told)
refusal_leads P T platform platform_now tape tape_now before now upgrade.LedgerFault device told pages at turns (rose, root, partly) = nowhere P platform platform_now device at (partly.still told)
refusal_leads P T platform platform_now tape tape_now before now upgrade.PlatformFault device told pages at turns (rose, inl same) = inl (stands_during (P.history platform) (P.history platform_now) device at.there.device (same.1 told))
refusal_leads P T platform platform_now tape tape_now before now upgrade.PlatformFault device told pages at turns (rose, inr (root, begins, most)) =
    let old : History = P.history platform in
    let new : History = P.history platform_now in
    let there = on_root old.present device root at.there.device begins.on.within.in_range (begins.on.cell told) in
    let many : needed_of_root root ≡ needed_of_device there.there = needed_is old.present there.there root there.parts there.stands in
    inr (record {
      device = there.there;
      was = ap (λ (d : Option Device). closed d) there.is;
      version = sym there.stands.version ∙ begins.version;
      room = omega (arith, begins.room, many);
      turns = subst (TurnsFrom P platform platform_now) there.is turns;
    })

done_leads : {S : Type 0} (P : PlatformGhosts S) (platform platform_now : S) (number : ℕ) (root : Root) (device : Option Device) → P.tells → IsAt (P.history platform).present None (closed device)
    → Begins P.tells (P.history platform).present (P.head platform) (P.capacity platform) root → P.head platform_now ≡ P.head platform + needed_of_root root
    → ((d : Device) → Stands (P.history platform).present (Some d) → (number ≡ (upgraded d).number) × StandsFrom (P.head platform) (Some (upgraded d)) (P.history platform_now).present) → IsServedImage (P.history platform_now).present
    → TurnsFrom P platform platform_now device → LeadsUpgraded P platform platform_now (closed device) number
done_leads P platform platform_now number root device told at begins adds made served turns =
    let old : History = P.history platform in
    let new : History = P.history platform_now in
    let there = on_root old.present device root at.there.device begins.on.within.in_range (begins.on.cell told) in
    let many : needed_of_root root ≡ needed_of_device there.there = needed_is old.present there.there root there.parts there.stands in
    let done = made there.there (root, there.parts, there.stands) in
    record {
      device = there.there;
      was = ap (λ (d : Option Device). closed d) there.is;
      version = sym there.stands.version ∙ begins.version;
      is_number = done.0;
      at = shut new.present (Some (upgraded there.there)) (done.1.0, done.1.1, done.1.2) served;
      turns = subst (TurnsFrom P platform platform_now) there.is turns;
      room = omega (arith, begins.room, many);
      adds = omega (arith, adds, many);
    }

-- a state without a session
without_session : (image : Image) (entry : State) (Goal : State → Type 0) → IsAt image None entry → ((device : Option Device) → IsAt image None (closed device) → Goal (closed device)) → Goal entry
without_session image entry Goal at k = by_session entry.device entry.session at
  where
    by_session : (device : Option Device) (session : Option OpenSession) → IsAt image None (record { device = device; session = session }) → Goal (record { device = device; session = session })
    by_session device None at = k device at
    by_session device (Some there) at = absurd at.there.session

pub refused_leads : {S R : Type 0} (P : PlatformGhosts S) (T : TapeGhosts R) (platform platform_now : S) (tape tape_now : R) (before now : Counts) (refusal : UpgradeRefusal) (entry : State) → P.tells → length (P.history platform).present.recorded ≡ P.head platform
    → IsAt (P.history platform).present None entry
    → ((device : Option Device) → Stands (P.history platform).present device → TurnsFrom P platform platform_now device)
    → IsUpgradeCause P T platform platform_now tape tape_now before now (Err refusal) → UpgradeLeads P platform platform_now entry (answer_of_refusal refusal)
refused_leads P T platform platform_now tape tape_now before now refusal entry told pages at turns cause =
    without_session (P.history platform).present entry (λ e. UpgradeLeads P platform platform_now e (answer_of_refusal refusal)) at
    (λ device there. refusal_leads P T platform platform_now tape tape_now before now refusal device told pages there (turns device there.there.device) cause)

pub upgraded_leads : {S : Type 0} (P : PlatformGhosts S) (platform platform_now : S) (number : ℕ) (root : Root) (entry : State) → P.tells → IsAt (P.history platform).present None entry
    → Begins P.tells (P.history platform).present (P.head platform) (P.capacity platform) root → P.head platform_now ≡ P.head platform + needed_of_root root
    → ((d : Device) → Stands (P.history platform).present (Some d) → (number ≡ (upgraded d).number) × StandsFrom (P.head platform) (Some (upgraded d)) (P.history platform_now).present) → IsServedImage (P.history platform_now).present
    → ((device : Option Device) → Stands (P.history platform).present device → TurnsFrom P platform platform_now device)
    → LeadsUpgraded P platform platform_now entry number
upgraded_leads P platform platform_now number root entry told at begins adds made served turns =
    without_session (P.history platform).present entry (λ e. LeadsUpgraded P platform platform_now e number) at
    (λ device there. done_leads P platform platform_now number root device told there begins adds made served (turns device there.there.device))

-- ---- the devices that it makes

-- an upgrade that was answered makes one mark: the upgraded device, or the same device again
pub upgrade_made : {S : Type 0} (P : PlatformGhosts S) (platform platform_now : S) (entry : State) (reply : UpgradeReply) → IsAt (P.history platform).present None entry → ReplyUpgrades P platform platform_now entry reply
    → (exit : State) × Made (P.history platform) (P.history platform_now) None entry (exit.device ∷ []) exit
upgrade_made P platform platform_now entry reply at led = cases reply led
  where
    same : LeadsNowhere P platform platform_now entry → (exit : State) × Made (P.history platform) (P.history platform_now) None entry (exit.device ∷ []) exit
    same still = (entry, made_same (P.history platform) (P.history platform_now) None entry entry at.there.device still.during still.at)

    cases : (reply : UpgradeReply) → ReplyUpgrades P platform platform_now entry reply → (exit : State) × Made (P.history platform) (P.history platform_now) None entry (exit.device ∷ []) exit
    cases (replies.Upgraded number) led =
        let exit : State = closed (Some (upgraded led.device)) in
        let turns : Turns (P.history platform) (P.history platform_now) (Leaves entry.device) (Leaves (Some (upgraded led.device))) =
        subst (λ (e : State). Turns (P.history platform) (P.history platform_now) (Leaves e.device) (Leaves (Some (upgraded led.device)))) (sym led.was) (turns_upgraded P platform platform_now led.device led.turns) in
        (exit, made_one (P.history platform) (P.history platform_now) None entry exit (Some (upgraded led.device)) at.there.device turns led.at)
    cases replies.NoDevice led = same led.1
    cases replies.AlreadyUpgraded led = same led.1
    cases replies.Full led = same led.1

-- one that stopped makes none, or, where the platform failed, perhaps the upgraded device
pub upgrade_stopped : {S : Type 0} (P : PlatformGhosts S) (platform platform_now : S) (entry : State) (stop : DeviceStop) → IsAt (P.history platform).present None entry → IsServedImage (P.history platform_now).present → UpgradeLeads P platform platform_now entry (Err stop)
    → (marks : List (Option Device)) × (exit : State) × Made (P.history platform) (P.history platform_now) None entry marks exit
upgrade_stopped P platform platform_now entry stop at served led = cases stop led
  where
    none : During (P.history platform) (P.history platform_now) (Leaves entry.device) → (marks : List (Option Device)) × (exit : State) × Made (P.history platform) (P.history platform_now) None entry marks exit
    none during =
        let new : History = P.history platform_now in
        let stands : Stands new.present entry.device = LeavesOnly-now new (λ left. Stands left entry.device) (During-now (P.history platform) new (Leaves entry.device) during) in
        ([], closed entry.device, made_none (P.history platform) new None entry (closed entry.device) at.there.device during refl (shut new.present entry.device stands served))

    cases : (stop : DeviceStop) → UpgradeLeads P platform platform_now entry (Err stop) → (marks : List (Option Device)) × (exit : State) × Made (P.history platform) (P.history platform_now) None entry marks exit
    cases stops.Platform (inl during) = none during
    cases stops.Platform (inr may) =
        let next : Option Device = Some (upgraded may.device) in
        let turns : Turns (P.history platform) (P.history platform_now) (Leaves entry.device) (Leaves next) =
        subst (λ (e : State). Turns (P.history platform) (P.history platform_now) (Leaves e.device) (Leaves next)) (sym may.was) (turns_upgraded P platform platform_now may.device may.turns) in
        elim (made_stopped (P.history platform) (P.history platform_now) entry next at.there.device served turns) [
          | inl one ↦ ([], closed entry.device, one)
          | inr other ↦ (next ∷ [], closed next, other)
        ]
    cases stops.Tape led = none led.during
    cases stops.Ledger led = none led.during
    cases stops.Memory led = none led.during
    cases stops.BadRoot led = absurd led
    cases (stops.BadRecord addr) led = absurd led
