-- What follows of a check, by its exit status.
use Rattle.std.proofs.Common.{◌≡◌, ℕ, ◌≤◌, List, ◌++◌, Option, None, Some, Result, Ok, Err, length, ◌⊎◌, inl, inr, refl, sym, ◌∙◌, subst, ap, arith, length-append}
use Rattle.std.specs.Prelude.{◌≢◌, IfErr}
use Rattle.std.proofs.lemmas.List.{append-nil}
use Rattle.sdbt_base.specs.Told.{Gave, Got, GotPart, IsAtEnd}
use Rattle.platform.specs.Image.{Image}
use Rattle.platform.specs.History.{History, Steps, During}
use Rattle.platform.proofs.Moments.{During-step}
use Rattle.root_codec.specs.declared.root.Root.{Root}
use Rattle.root_codec.specs.RootRecord.{root_bytes}
use Rattle.root_codec.specs.Laws.{one_root}
use Rattle.cert_maker.specs.Cert.{Cert}
use Rattle.cert_codec.specs.Ledger.{IsLedger}
use Rattle.cert_codec.proofs.LedgerLaws.{one_ledger}
use Rattle.cert_checker.specs.Chain.{Accepted, chain_of}
use Rattle.cert_checker.specs.First.{First}
use Rattle.cert_checker.proofs.FirstLaws.{none_first}
use Rattle.ledger_check.specs.Judging.{IsWhole}
use Rattle.device_terms.specs.Served.{IsServedCell, IsServedImage}
use Rattle.line_run.specs.Stops.{HasCause}
use Rattle.sdbt_base.specs.Counts.{Counts, NoneRose}
use Rattle.line_run.specs.Puts.{damage_line}
use Rattle.device_cli.specs.Checks.{Checks, Finds, HoldsRoot, IsJudgeable, IsSaid, IsSilent, IsSo, finding_line, status_at, status_of_finding}
use Rattle.session_calls.specs.Cells.{IsInCell, IsUntouched}
use Rattle.device_cli.specs.declared.checking.Finding.{Finding}
use Rattle.device_cli.specs.declared.checking.Finding.TheVariants as findings
use Rattle.session_calls.specs.declared.stops.DeviceStop.TheVariants as device
use Rattle.line_run.specs.declared.stop.Stop.{Stop}
use Rattle.line_run.specs.declared.stop.Stop.TheVariants as stops

-- ---- the cell

pub served_some : (image : Image) (root : Root) → IsInCell image (Some root) → IsServedImage image
served_some image root (served, e) = subst (λ (c : Option (List ℕ)). IsServedCell c (length image.recorded)) (sym e) (root, served, refl)

-- a finding that there is no root record that can be served is true
pub so_bad : (tells : Type 0) (image : Image) (taken : List ℕ) (left : Option (List ℕ)) (finding : Finding) → IsSo tells image taken left finding → status_of_finding finding ≡ 8
    → (finding ≡ findings.BadRoot) × (tells → IsServedImage image → ⊥)
so_bad tells image taken left findings.NoDevice so e = absurd (omega (arith, e))
so_bad tells image taken left findings.BadRoot so e = (refl, so.1)
so_bad tells image taken left (findings.Broken number value) so e = absurd (omega (arith, e))
so_bad tells image taken left (findings.Accepted commit live deleted) so e = absurd (omega (arith, e))

-- at 8 the line says so
pub bad_line : (written written_now : Option (List ℕ)) (finding : Finding) → finding ≡ findings.BadRoot → Got written (finding_line finding) written_now → Got written (damage_line device.BadRoot) written_now
unfolding finding_line
bad_line written now finding e got = subst (λ (f : Finding). Got written (finding_line f) now) e got

-- ---- completeness

-- what was taken to the end of a text is the text
all_taken : (text taken : List ℕ) (left left_now : Option (List ℕ)) → left ≡ Some text → Gave left taken left_now → IsAtEnd left_now → taken ≡ text
all_taken text taken left None is gave end = absurd (cc (gave, is))
all_taken text taken left (Some rest) is gave end =
    let both : Some (taken ++ rest) ≡ Some text = sym gave ∙ is in
    let all : taken ++ rest ≡ text = cc in
    sym (append-nil taken) ∙ ap (λ (r : List ℕ). taken ++ r) (sym end) ∙ all

-- and no more than that is taken
some_taken : (text taken : List ℕ) (left left_now : Option (List ℕ)) → left ≡ Some text → Gave left taken left_now → length taken ≤ length text
some_taken text taken left None is gave = absurd (cc (gave, is))
some_taken text taken left (Some rest) is gave =
    let both : Some (taken ++ rest) ≡ Some text = sym gave ∙ is in
    let all : taken ++ rest ≡ text = cc in
    let long : length (taken ++ rest) ≡ length text = ap (λ (t : List ℕ). length t) all in
    omega (arith, length-append taken rest, long)

-- the cell holds one root record
one_in_cell : (image : Image) (a b : Root) → IsInCell image (Some a) → IsInCell image (Some b) → a ≡ b
one_in_cell image a b (served, is) (other, too) =
    let both : Some (root_bytes a) ≡ Some (root_bytes b) = sym is ∙ too in
    one_root a b served.in_range other.in_range (same (root_bytes a) (root_bytes b) both)
  where
    same : (x y : List ℕ) → Some x ≡ Some y → x ≡ y
    same x y e = cc

-- the ledger of a whole input is the one that it has
module _ (image : Image) (left left_now : Option (List ℕ)) (taken text : List ℕ) (root : Root) (certs : List Cert) (gave : Gave left taken left_now) (able : IsJudgeable image left root text certs) where
  same_chain : (P : List Cert → Root → Type 0) (other : Root) (all : List Cert) → IsInCell image (Some other) → IsWhole taken left_now all → P (chain_of all other.commit) other → P (chain_of certs root.commit) root
  same_chain P other all cell whole h =
      let root_is : other ≡ root = one_in_cell image other root cell able.cell in
      let text_is : taken ≡ text = all_taken text taken left left_now able.text_is gave whole.end in
      let certs_is : all ≡ certs = one_ledger text all certs (subst (λ (t : List ℕ). IsLedger t all) text_is whole.ledger) able.ledger in
      subst (λ (cs : List Cert). P (chain_of cs root.commit) root) certs_is (subst (λ (r : Root). P (chain_of all r.commit) r) root_is h)

pub complete_check : (tells : Type 0) (image : Image) (before now : Counts) (left left_now written written_now : Option (List ℕ)) (ending : Result Finding Stop)
    → Checks tells image left left_now written written_now ending → IfErr ending (HasCause before now) → tells → (root : Root) (text : List ℕ) (certs : List Cert)
    → IsJudgeable image left root text certs → NoneRose before now
    → (Accepted (chain_of certs root.commit) root → (status_at ending ≡ 0) ⊎ (status_at ending ≡ 11))
    × ((number value : ℕ) → First (chain_of certs root.commit) root number value → (status_at ending ≡ 10) ⊎ (status_at ending ≡ 11))
complete_check tells image before now left left_now written written_now ending checks cause told root text certs able quiet = (
  λ accepted. elim (go ending checks.is cause) [
    | inl zero ↦ inl zero.0
    | inr (inl ten) ↦ absurd (none_first (chain_of certs root.commit) root ten.1.0 ten.1.1 accepted ten.1.2)
    | inr (inr eleven) ↦ inr eleven
  ],
  λ number value first. elim (go ending checks.is cause) [
    | inl zero ↦ absurd (none_first (chain_of certs root.commit) root number value zero.1 first)
    | inr (inl ten) ↦ inl ten.0
    | inr (inr eleven) ↦ inr eleven
  ],
)
  where
    go : (e : Result Finding Stop) → IsSaid tells image written written_now checks.taken left_now e → IfErr e (HasCause before now)
        → ((status_at e ≡ 0) × Accepted (chain_of certs root.commit) root) ⊎ (((status_at e ≡ 10) × ((number : ℕ) × (value : ℕ) × First (chain_of certs root.commit) root number value)) ⊎ (status_at e ≡ 11))
    go (Ok findings.NoDevice) said h = absurd (cc (said.0.1 told, able.cell.1))
    go (Ok findings.BadRoot) said h = absurd (said.0.1 told (served_some image root able.cell))
    go (Ok (findings.Broken number value)) said h =
        inr (inl (refl, (number, value, same_chain image left left_now checks.taken text root certs checks.gave able (λ cs r. First cs r number value) said.0.0 said.0.2.0 (said.0.1 told) said.0.2.1 said.0.2.2)))
    go (Ok (findings.Accepted commit live deleted)) said h =
        inl (refl, same_chain image left left_now checks.taken text root certs checks.gave able (λ cs r. Accepted cs r) said.0.0 said.0.2.0 (said.0.1 told) said.0.2.1 said.0.2.2)
    go (Err stops.Source) said h = absurd (quiet.input h.0)
    go (Err stops.Sink) said h = absurd (quiet.output h.0)
    go (Err stops.Limit) said h =
        let few = some_taken text checks.taken left left_now able.text_is checks.gave in
        absurd (omega (arith, few, able.short, said.0.0))
    go (Err (stops.Device device.Platform)) said h = absurd (quiet.platform h.0)
    go (Err (stops.Device device.Memory)) said h = inr (inr refl)
    go (Err (stops.Device device.Tape)) said h = absurd said.0
    go (Err (stops.Device device.Ledger)) said h = absurd said.0
    go (Err (stops.Device device.BadRoot)) said h = absurd said.0
    go (Err (stops.Device (device.BadRecord addr))) said h = absurd said.0

-- ---- by the status

module _ (tells : Type 0) (image : Image) (written written_now : Option (List ℕ)) (taken : List ℕ) (left : Option (List ℕ)) where
  pub accepted_at : (e : Result Finding Stop) → IsSaid tells image written written_now taken left e → status_at e ≡ 0 → (commit live deleted : ℕ) × Finds tells image taken left written written_now (findings.Accepted commit live deleted)
  accepted_at (Ok findings.NoDevice) said e = absurd (omega (arith, e))
  accepted_at (Ok findings.BadRoot) said e = absurd (omega (arith, e))
  accepted_at (Ok (findings.Broken number value)) said e = absurd (omega (arith, e))
  accepted_at (Ok (findings.Accepted commit live deleted)) said e = (commit, live, deleted, said)
  accepted_at (Err stops.Source) said e = absurd (omega (arith, e))
  accepted_at (Err stops.Sink) said e = absurd (omega (arith, e))
  accepted_at (Err stops.Limit) said e = absurd (omega (arith, e))
  accepted_at (Err (stops.Device device.Platform)) said e = absurd (omega (arith, e))
  accepted_at (Err (stops.Device device.Memory)) said e = absurd (omega (arith, e))
  accepted_at (Err (stops.Device device.Tape)) said e = absurd said.0
  accepted_at (Err (stops.Device device.Ledger)) said e = absurd said.0
  accepted_at (Err (stops.Device device.BadRoot)) said e = absurd said.0
  accepted_at (Err (stops.Device (device.BadRecord addr))) said e = absurd said.0

  pub refused_at : (e : Result Finding Stop) → IsSaid tells image written written_now taken left e → status_at e ≡ 10 → Finds tells image taken left written written_now findings.NoDevice ⊎ ((number value : ℕ) × Finds tells image taken left written written_now (findings.Broken number value))
  refused_at (Ok findings.NoDevice) said e = inl said
  refused_at (Ok findings.BadRoot) said e = absurd (omega (arith, e))
  refused_at (Ok (findings.Broken number value)) said e = inr (number, value, said)
  refused_at (Ok (findings.Accepted commit live deleted)) said e = absurd (omega (arith, e))
  refused_at (Err stops.Source) said e = absurd (omega (arith, e))
  refused_at (Err stops.Sink) said e = absurd (omega (arith, e))
  refused_at (Err stops.Limit) said e = absurd (omega (arith, e))
  refused_at (Err (stops.Device device.Platform)) said e = absurd (omega (arith, e))
  refused_at (Err (stops.Device device.Memory)) said e = absurd (omega (arith, e))
  refused_at (Err (stops.Device device.Tape)) said e = absurd said.0
  refused_at (Err (stops.Device device.Ledger)) said e = absurd said.0
  refused_at (Err (stops.Device device.BadRoot)) said e = absurd said.0
  refused_at (Err (stops.Device (device.BadRecord addr))) said e = absurd said.0

  pub unserved_at : (e : Result Finding Stop) → IsSaid tells image written written_now taken left e → status_at e ≡ 8 → Finds tells image taken left written written_now findings.BadRoot
  unserved_at (Ok findings.NoDevice) said e = absurd (omega (arith, e))
  unserved_at (Ok findings.BadRoot) said e = said
  unserved_at (Ok (findings.Broken number value)) said e = absurd (omega (arith, e))
  unserved_at (Ok (findings.Accepted commit live deleted)) said e = absurd (omega (arith, e))
  unserved_at (Err stops.Source) said e = absurd (omega (arith, e))
  unserved_at (Err stops.Sink) said e = absurd (omega (arith, e))
  unserved_at (Err stops.Limit) said e = absurd (omega (arith, e))
  unserved_at (Err (stops.Device device.Platform)) said e = absurd (omega (arith, e))
  unserved_at (Err (stops.Device device.Memory)) said e = absurd (omega (arith, e))
  unserved_at (Err (stops.Device device.Tape)) said e = absurd said.0
  unserved_at (Err (stops.Device device.Ledger)) said e = absurd said.0
  unserved_at (Err (stops.Device device.BadRoot)) said e = absurd said.0
  unserved_at (Err (stops.Device (device.BadRecord addr))) said e = absurd said.0

  pub cut_at : (e : Result Finding Stop) → IsSaid tells image written written_now taken left e → status_at e ≡ 4 → (finding : Finding) × IsSo tells image taken left finding × GotPart written (finding_line finding) written_now
  cut_at (Ok findings.NoDevice) said e = absurd (omega (arith, e))
  cut_at (Ok findings.BadRoot) said e = absurd (omega (arith, e))
  cut_at (Ok (findings.Broken number value)) said e = absurd (omega (arith, e))
  cut_at (Ok (findings.Accepted commit live deleted)) said e = absurd (omega (arith, e))
  cut_at (Err stops.Source) said e = absurd (omega (arith, e))
  cut_at (Err stops.Sink) said e = said
  cut_at (Err stops.Limit) said e = absurd (omega (arith, e))
  cut_at (Err (stops.Device device.Platform)) said e = absurd (omega (arith, e))
  cut_at (Err (stops.Device device.Memory)) said e = absurd (omega (arith, e))
  cut_at (Err (stops.Device device.Tape)) said e = absurd said.0
  cut_at (Err (stops.Device device.Ledger)) said e = absurd said.0
  cut_at (Err (stops.Device device.BadRoot)) said e = absurd said.0
  cut_at (Err (stops.Device (device.BadRecord addr))) said e = absurd said.0

  pub silent_at : (e : Result Finding Stop) → IsSaid tells image written written_now taken left e → status_at e ≢ 0 → status_at e ≢ 4 → status_at e ≢ 8 → status_at e ≢ 10 → (written_now ≡ written) × IsSilent tells image taken (status_at e)
  silent_at (Ok findings.NoDevice) said p q r t = absurd (t refl)
  silent_at (Ok findings.BadRoot) said p q r t = absurd (r refl)
  silent_at (Ok (findings.Broken number value)) said p q r t = absurd (t refl)
  silent_at (Ok (findings.Accepted commit live deleted)) said p q r t = absurd (p refl)
  silent_at (Err stops.Source) said p q r t = (said.1, inr (said.0.1, inl (refl, said.0.0)))
  silent_at (Err stops.Sink) said p q r t = absurd (q refl)
  silent_at (Err stops.Limit) said p q r t = (said.1, inr (said.0.1, inr (inl (refl, said.0.0))))
  silent_at (Err (stops.Device device.Platform)) said p q r t = (said.1, inl (refl, said.0))
  silent_at (Err (stops.Device device.Memory)) said p q r t = (said.1, inr (said.0.1, inr (inr (refl, said.0.0))))
  silent_at (Err (stops.Device device.Tape)) said p q r t = absurd said.0
  silent_at (Err (stops.Device device.Ledger)) said p q r t = absurd said.0
  silent_at (Err (stops.Device device.BadRoot)) said p q r t = absurd said.0
  silent_at (Err (stops.Device (device.BadRecord addr))) said p q r t = absurd said.0

  -- a cell that is empty holds no root record
  held_none : HoldsRoot tells image → tells → image.cell ≡ None → {X : Type 0} → X
  held_none holds told none {X} = absurd (cc ((holds.in_cell told).1, none))

  pub empty_at : (e : Result Finding Stop) → IsSaid tells image written written_now taken left e → tells → image.cell ≡ None → (status_at e ≡ 10) ⊎ (status_at e ≡ 4) ⊎ (status_at e ≡ 5)
  empty_at (Ok findings.NoDevice) said told none = inl refl
  empty_at (Ok findings.BadRoot) said told none = absurd (said.0.1 told (subst (λ (c : Option (List ℕ)). IsServedCell c (length image.recorded)) (sym none) tt))
  empty_at (Ok (findings.Broken number value)) said told none = held_none (record { root = said.0.0; in_cell = said.0.1 }) told none
  empty_at (Ok (findings.Accepted commit live deleted)) said told none = held_none (record { root = said.0.0; in_cell = said.0.1 }) told none
  empty_at (Err stops.Source) said told none = held_none said.0.1 told none
  empty_at (Err stops.Sink) said told none = inr (inl refl)
  empty_at (Err stops.Limit) said told none = held_none said.0.1 told none
  empty_at (Err (stops.Device device.Platform)) said told none = inr (inr refl)
  empty_at (Err (stops.Device device.Memory)) said told none = held_none said.0.1 told none
  empty_at (Err (stops.Device device.Tape)) said told none = absurd said.0
  empty_at (Err (stops.Device device.Ledger)) said told none = absurd said.0
  empty_at (Err (stops.Device device.BadRoot)) said told none = absurd said.0
  empty_at (Err (stops.Device (device.BadRecord addr))) said told none = absurd said.0

-- ---- the image

pub image_stays : (old new : History) → Steps old new → new.present ≡ old.present → During old new (λ image. image ≡ old.present)
image_stays old new steps same = During-step old new (λ image. image ≡ old.present) steps refl same

-- all that an order was handed is as it was, where it only looked
pub untouched_of : {T I L : Type 0} {tape tape_now : T} {input input_now : I} {ledger ledger_now : L} {head head_now : ℕ} {old new : History} → tape_now ≡ tape → input_now ≡ input → ledger_now ≡ ledger → head_now ≡ head
    → During old new (λ image. image ≡ old.present) → IsUntouched tape tape_now input input_now ledger ledger_now head head_now old new
untouched_of undrawn untaken unput pages image = record { undrawn = undrawn; untaken = untaken; unput = unput; pages = pages; image = image }

-- the cell can't be served, where that was found, and where it is known
pub not_served : {A X : Type 0} → (A → X → ⊥) → A ⊎ (X → ⊥) → X → ⊥
not_served found (inl a) = found a
not_served found (inr known) = known
