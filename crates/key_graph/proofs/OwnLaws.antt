-- Keys of their own: more keys, a page more, and the first of the pages.
use Rattle.std.proofs.Common.{◌≡◌, inl, inr, true, false, ℕ, zero, suc, ◌+◌, ◌<◌, ◌≤◌, List, [], ◌∷◌, ◌++◌, length, take, refl, sym, ◌∙◌, ap, subst, arith, length-append}
use Rattle.std.specs.Prelude.{Some, Contains, slice_get, if◌then◌else◌, nat_lt}
use Rattle.std.proofs.lemmas.Bool.{cases_lt}
use Rattle.std.proofs.lemmas.Bool.Decides.{nat_tests}
use Rattle.std.proofs.lemmas.Option.{slice_get_within}
use Rattle.std.proofs.lemmas.List.Elements.{Contains-append_left}
use Rattle.seal_record.specs.Sealing.{Opens}
use Rattle.key_graph.specs.Opening.{Yields}
use Rattle.key_graph.specs.OwnKeys.{IsSealed, HaveOwnKeys}
use Rattle.key_graph.specs.Maps.{AreFirst}
use Rattle.key_graph.proofs.ChainLaws.{front_reads}

slice_get-append : (xs ys : List (List ℕ)) (i : ℕ) (x : List ℕ) → slice_get xs i ≡ Some x → slice_get (xs ++ ys) i ≡ Some x
slice_get-append [] ys i x there = absurd cc
slice_get-append (first ∷ xs) ys zero x there = there
slice_get-append (first ∷ xs) ys (suc i) x there = slice_get-append xs ys i x there

slice_get-last : (xs : List (List ℕ)) (x : List ℕ) → slice_get (xs ++ x ∷ []) (length xs) ≡ Some x
slice_get-last [] x = refl
slice_get-last (first ∷ xs) x = slice_get-last xs x

slice_get-below : (xs ys : List (List ℕ)) (i : ℕ) → i < length xs → slice_get (xs ++ ys) i ≡ slice_get xs i
slice_get-below [] ys i below = absurd (omega arith)
slice_get-below (first ∷ xs) ys zero below = refl
slice_get-below (first ∷ xs) ys (suc i) below = slice_get-below xs ys i (omega arith)

sealed_more : (keys more : List (List ℕ)) (position addr : ℕ) (page : List ℕ) → IsSealed keys position addr page → IsSealed (keys ++ more) position addr page
sealed_more keys more position addr page sealed = record {
  key = sealed.key;
  listed = slice_get-append keys more position sealed.key sealed.listed;
  opens = sealed.opens;
  yields = λ other yields. Contains-append_left keys more other (sealed.yields other yields);
}

-- more keys are drawn
pub own_more : (keys more pages : List (List ℕ)) → HaveOwnKeys keys pages → HaveOwnKeys (keys ++ more) pages
own_more keys more pages own = record {
  position = own.position;
  sealed = λ addr page there. sealed_more keys more (own.position addr) addr page (own.sealed addr page there);
  apart = own.apart;
}

-- no page
pub own_none : (keys : List (List ℕ)) → HaveOwnKeys keys []
own_none keys = record { position = λ i. i; sealed = λ addr page there. absurd cc; apart = λ one other in' in'' same. absurd (omega arith) }

-- the first ones of the pages
pub own_first : (keys pages longer : List (List ℕ)) → AreFirst pages longer → HaveOwnKeys keys longer → HaveOwnKeys keys pages
own_first keys pages longer first own =
    let few : length pages ≤ length longer = fits pages longer first in
    record {
      position = own.position;
      sealed = λ addr page there. own.sealed addr page (front_reads pages longer addr page first there);
      apart = λ one other in' in'' same. own.apart one other (omega arith) (omega arith) same;
    }
  where
    shorter : (n : ℕ) (xs : List (List ℕ)) → length (take n xs) ≤ length xs
    shorter zero xs = omega arith
    shorter (suc n) [] = omega arith
    shorter (suc n) (x ∷ xs) = let rest = shorter n xs in omega arith

    fits : (pages longer : List (List ℕ)) → AreFirst pages longer → length pages ≤ length longer
    fits pages longer first = let size = ap (λ (ps : List (List ℕ)). length ps) first in let most = shorter (length pages) longer in omega arith

-- a page that is sealed under a key which was drawn for it
pub own_page : (keys pages : List (List ℕ)) (key page : List ℕ) → HaveOwnKeys keys pages → Opens key (length pages) page → ((other : List ℕ) → Yields key page other → Contains (keys ++ key ∷ []) other) → HaveOwnKeys (keys ++ key ∷ []) (pages ++ page ∷ [])
own_page keys pages key page own opens yields =
    let n = length pages in
    let place : ℕ → ℕ = λ addr. if nat_lt addr n then own.position addr else length keys in
    let old : (addr : ℕ) → addr < n → place addr ≡ own.position addr = λ addr below. let passes : nat_lt addr n ≡ true = grind (arith, nat_tests) in rw passes refl in
    let new : (addr : ℕ) → n ≤ addr → place addr ≡ length keys = λ addr past. let fails : nat_lt addr n ≡ false = grind (arith, nat_tests) in rw fails refl in
    let size : length (pages ++ page ∷ []) ≡ n + 1 = omega (arith, length-append pages (page ∷ [])) in
    let there : (addr : ℕ) → addr < n → own.position addr < length keys = λ addr below. old_key keys pages own addr below in
    record {
      position = place;
      sealed = λ addr read reads. elim (cases_lt addr n) [
        | inl below ↦
            rw (old addr below) (sealed_more keys (key ∷ []) (own.position addr) addr read (own.sealed addr read (sym (slice_get-below pages (page ∷ []) addr below) ∙ reads)))
        | inr past ↦
            let at : addr ≡ n = let within = slice_get_within (pages ++ page ∷ []) addr read reads in omega arith in
            let is : page ≡ read = same_some _ _ (sym (slice_get-last pages page) ∙ (ap (slice_get (pages ++ page ∷ [])) (sym at) ∙ reads)) in
            rw (new addr past) (record {
              key = key;
              listed = slice_get-last keys key;
              opens = subst (λ (p : List ℕ). Opens key addr p) is (subst (λ (a : ℕ). Opens key a page) (sym at) opens);
              yields = λ other y. yields other (subst (λ (p : List ℕ). Yields key p other) (sym is) y);
            })
      ];
      apart = λ one other in' in'' same. elim (cases_lt one n) [
        | inl below ↦ elim (cases_lt other n) [
          | inl below' ↦ own.apart one other below below' (sym (old one below) ∙ (same ∙ old other below'))
          | inr past ↦ absurd (let a = there one below in let b = sym (old one below) ∙ (same ∙ new other past) in omega arith)
        ]
        | inr past ↦ elim (cases_lt other n) [
          | inl below ↦ absurd (let a = there other below in let b = sym (new one past) ∙ (same ∙ old other below) in omega arith)
          | inr past' ↦ omega arith
        ]
      ];
    }
  where
    same_some : {A : Type 0} (x y : A) → Some x ≡ Some y → x ≡ y
    same_some x y same = cc

    reads_at : (pages : List (List ℕ)) (addr : ℕ) → addr < length pages → (page : List ℕ) × (slice_get pages addr ≡ Some page)
    reads_at [] addr below = absurd (omega arith)
    reads_at (first ∷ pages) zero below = (first, refl)
    reads_at (first ∷ pages) (suc addr) below = reads_at pages addr (omega arith)

    old_key : (keys pages : List (List ℕ)) (own : HaveOwnKeys keys pages) (addr : ℕ) → addr < length pages → own.position addr < length keys
    old_key keys pages own addr below =
        let read = reads_at pages addr below in
        let sealed = own.sealed addr read.0 read.1 in
        slice_get_within keys (own.position addr) sealed.key sealed.listed
