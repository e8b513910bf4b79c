-- A ledger fits its image after each commit.
use Rattle.std.proofs.Common.{◌≡◌, ℕ, ◌+◌, List, [], ◌∷◌, ◌++◌, refl, sym, ap, subst, ◌∙◌}
use Rattle.std.specs.Prelude.{Option, None, Some}
use Rattle.std.proofs.lemmas.Option.{none-some}
use Rattle.sdbt_base.specs.declared.lists.Unkept.{Unkept}
use Rattle.page_store.specs.Tree.{Place}
use Rattle.root_codec.specs.declared.root.Root.{Root}
use Rattle.cert_maker.specs.Cert.{Cert}
use Rattle.key_graph.specs.Trace.{Entries}
use Rattle.cert_maker.specs.Trace.{entries_of}
use Rattle.cert_maker.specs.CertOf.{CertOf}
use Rattle.cert_checker.specs.Rules.{after, Keeps}
use Rattle.cert_checker.specs.Chain.{chain_of, last_or, EachKeeps, nothing, live_after, Accepted, Fits}
use Rattle.cert_checker.specs.Succession.{Succeeds}
use Rattle.cert_checker.proofs.ChainLaws.{chain_waits, chain_next, chain_first, chain_none, last_more, after_more, keeps_more}
use Rattle.cert_checker.proofs.SuccessionLaws.{succession}

-- the certificate by its own numbers
own_numbers : (old new : Entries) (commit root base head : ℕ) (pages : List Unkept) (cert : Cert) → CertOf old new commit root base head pages cert → CertOf old new cert.commit cert.root cert.base cert.head pages cert
own_numbers old new commit root base head pages cert m = record {
  numbered = refl;
  rooted = refl;
  begins = refl;
  ends = refl;
  added = m.added;
  gone = m.gone;
  never = m.never;
  added_ascend = m.added_ascend;
  gone_ascend = m.gone_ascend;
  never_ascend = m.never_ascend;
}

own_succeeds : (old new : Entries) (old_root other_root : Option ℕ) (commit root base head : ℕ) (pages : List Unkept) (cert : Cert) → other_root ≡ old_root → CertOf old new commit root base head pages cert → Succeeds base head old new old_root root pages → Succeeds cert.base cert.head old new other_root cert.root pages
own_succeeds old new old_root other_root commit root base head pages cert top m s =
    let s1 = subst (λ (x : ℕ). Succeeds x head old new old_root root pages) (sym m.begins) s in
    let s2 = subst (λ (x : ℕ). Succeeds cert.base x old new old_root root pages) (sym m.ends) s1 in
    let s3 = subst (λ (x : ℕ). Succeeds cert.base cert.head old new old_root x pages) (sym m.rooted) s2 in
    subst (λ (x : Option ℕ). Succeeds cert.base cert.head old new x cert.root pages) (sym top) s3

-- the chain with one certificate more
accepts_more : (chain : List Cert) (former : Option Cert) (live new : Entries) (cert : Cert) (root : Root) → EachKeeps nothing None chain → last_or None chain ≡ former → live_after chain ≡ live → Keeps live former cert → ((a : ℕ) → after live cert a ≡ new a) → cert.commit ≡ root.commit → cert.root ≡ root.addr → cert.head ≡ root.head → Accepted (chain ++ cert ∷ []) root × ((a : ℕ) → live_after (chain ++ cert ∷ []) a ≡ new a)
accepts_more chain former live new cert root each last same keeps becomes number top end = (
  record {
    each = keeps_more nothing None chain cert each
        (subst (λ (o : Option Cert). Keeps (live_after chain) o cert) (sym last) (subst (λ (l : Entries). Keeps l former cert) (sym same) keeps));
    ends = record { last = cert; is = last_more None chain cert; number = number; top = top; end = end };
  },
  λ a. ap (λ (l : Entries). l a) (after_more nothing chain cert) ∙ ap (λ (l : Entries). after l cert a) same ∙ becomes a,
)

fits_from : (certs : List Cert) (chain : List Cert) (root : Root) (places : List Place) → chain_of certs root.commit ≡ chain → Accepted chain root × ((a : ℕ) → live_after chain a ≡ entries_of places a) → Fits certs root places
fits_from certs chain root places same both =
    let both' = subst (λ (c : List Cert). Accepted c root × ((a : ℕ) → live_after c a ≡ entries_of places a)) (sym same) both in
    record { accepted = both'.0; live = both'.1 }

none_empty : {P : Type 0} (root : Root) (places : List Place) → Fits [] root places → P
none_empty root places fits =
    let ends = fits.accepted.ends in
    absurd (none-some ends.last (ap (last_or None) (sym (chain_none root.commit)) ∙ ends.is))

pub fits_next : (certs : List Cert) (root next : Root) (old new : List Place) (pages : List Unkept) (cert : Cert) → Fits certs root old → next.commit ≡ root.commit + 1 → Succeeds root.head next.head (entries_of old) (entries_of new) (Some root.addr) next.addr pages → CertOf (entries_of old) (entries_of new) next.commit next.addr root.head next.head pages cert → Fits (certs ++ cert ∷ []) next new
fits_next [] root next old new pages cert fits number s m = none_empty root old fits
fits_next (x ∷ xs) root next old new pages cert fits number s m =
    let ends = fits.accepted.ends in
    let last = ends.last in
    let chain = chain_of (x ∷ xs) root.commit in
    let law = succession (Some last) cert (entries_of old) (entries_of new) pages
    (m.numbered ∙ number ∙ ap (λ (n : ℕ). n + 1) (sym ends.number))
    (m.begins ∙ sym ends.end)
    (own_succeeds (entries_of old) (entries_of new) (Some root.addr) (Some last.root) next.commit next.addr root.head next.head pages cert (ap (λ (n : ℕ). Some n) ends.top) m s)
    (own_numbers (entries_of old) (entries_of new) next.commit next.addr root.head next.head pages cert m) in
    fits_from (x ∷ xs ++ cert ∷ []) (chain ++ cert ∷ []) next new
    (chain_next x xs cert root.commit next.commit (m.numbered ∙ number) (sym m.numbered))
    (accepts_more chain (Some last) (entries_of old) (entries_of new) cert next fits.accepted.each ends.is (λ i a. fits.live a i) law.0 law.1 m.numbered m.rooted m.ends)

pub fits_waits : (certs : List Cert) (root : Root) (old : List Place) (cert : Cert) → Fits certs root old → cert.commit ≡ root.commit + 1 → Fits (certs ++ cert ∷ []) root old
fits_waits [] root old cert fits number = none_empty root old fits
fits_waits (x ∷ xs) root old cert fits number = fits_from (x ∷ xs ++ cert ∷ []) (chain_of (x ∷ xs) root.commit) root old (chain_waits x xs cert root.commit number) (fits.accepted, fits.live)

pub fits_first : (certs : List Cert) (next : Root) (base : ℕ) (new : List Place) (cert : Cert) → next.commit ≡ 0 → Succeeds base next.head (entries_of []) (entries_of new) None next.addr [] → CertOf (entries_of []) (entries_of new) 0 next.addr base next.head [] cert → Fits (certs ++ cert ∷ []) next new
fits_first certs next base new cert number s m =
    let law = succession None cert (entries_of []) (entries_of new) []
    m.numbered
    tt
    (own_succeeds (entries_of []) (entries_of new) None None 0 next.addr base next.head [] cert refl m s)
    (own_numbers (entries_of []) (entries_of new) 0 next.addr base next.head [] cert m) in
    fits_from (certs ++ cert ∷ []) (cert ∷ []) next new
    (ap (chain_of (certs ++ cert ∷ [])) number ∙ chain_first certs cert m.numbered)
    (accepts_more [] None (entries_of []) (entries_of new) cert next tt refl refl law.0 law.1 (m.numbered ∙ sym number) m.rooted m.ends)
