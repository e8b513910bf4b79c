-- Why a ledger that was read whole isn't accepted.
use Rattle.std.proofs.Common.{◌≡◌, ℕ, List, [], Ok, Err, refl, ◌∙◌, ap, subst}
use Rattle.std.specs.Prelude.{◌≢◌, Option}
use Rattle.text_lines.specs.Lines.{lines_of}
use Rattle.root_codec.specs.declared.root.Root.{Root}
use Rattle.cert_maker.specs.Cert.{Cert}
use Rattle.cert_codec.specs.Ledger.{AreCertsOf, IsLedger}
use Rattle.cert_checker.specs.Chain.{chain_of, from_last_first, last_of_each, without_last}
use Rattle.cert_checker.specs.Concluding.{IsCause}
use Rattle.cert_checker.specs.declared.verdict.CheckRefusal.{CheckRefusal}
use Rattle.cert_checker.specs.declared.verdict.CheckRefusal.TheVariants as checks
use Rattle.ledger_check.specs.Judging.{FromInput, IsRead, Judged}
use Rattle.ledger_check.specs.Refused.{refused_as}

no_lines : lines_of [] ≡ []
unfolding lines_of
no_lines = refl

-- nothing has no certificate, and no certificates no chain
no_certs : (certs : List Cert) → AreCertsOf [] certs → certs ≡ []
no_certs certs are = are

no_chain : (n : ℕ) → chain_of [] n ≡ []
unfolding from_last_first last_of_each without_last
no_chain n = refl

some_ledger : (taken : List ℕ) (certs : List Cert) (n : ℕ) → IsLedger taken certs → chain_of certs n ≢ [] → taken ≢ []
some_ledger taken certs n ledger some = λ none.
    let empty : certs ≡ [] = no_certs certs (subst (λ (ls : List (List ℕ)). AreCertsOf ls certs) (ap (λ (t : List ℕ). lines_of t) none ∙ no_lines) ledger) in
    some (ap (λ (cs : List Cert). chain_of cs n) empty ∙ no_chain n)

-- what a checker that was fed a whole ledger refuses
pub judged_refused : (root : Root) (left left_now : Option (List ℕ)) (certs : List Cert) (refusal : CheckRefusal) → FromInput IsRead left left_now (Ok certs) → IsCause (chain_of certs root.commit) root refusal
    → Judged root left left_now (Err (refused_as refusal))
judged_refused root left left_now certs (checks.Rule number value) r cause = record { taken = r.taken; gave = r.gave; most = r.most; is = (certs, r.is, cause) }
judged_refused root left left_now certs checks.Memory r cause = record { taken = r.taken; gave = r.gave; most = r.most; is = (some_ledger r.taken certs root.commit r.is.ledger cause, r.is.short) }
