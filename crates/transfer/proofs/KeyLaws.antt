-- Keys of one medium that reach nothing on another one.
use Rattle.std.proofs.Common.{◌≡◌, ◌∷◌, ◌++◌, ◌∙◌, ℕ, List, [], Option, refl, sym, subst, length, arith}
use Rattle.std.specs.Prelude.{Contains}
use Rattle.std.proofs.lemmas.List.{take_all}
use Rattle.std.proofs.lemmas.List.Elements.{All-cons, All-contains, All-nil, Contains-append_left, Contains-append_right}
use Rattle.key_graph.specs.Chains.{IsChain, Link, OneOpener, OpensAt, Reached, link}
use Rattle.key_graph.specs.OwnKeys.{HaveOwnKeys}
use Rattle.key_graph.proofs.ChainLaws.{contains_at}
use Rattle.platform.specs.History.{Extends, History}
use Rattle.platform.proofs.Moments.{Extends-earlier}
use Rattle.sdbt_base.specs.Arrays.{Device}
use Rattle.sdbt_base.specs.Keys.{bare}
use Rattle.page_store.specs.Kept.{Kept}
use Rattle.device_course.specs.Course.{Promised}
use Rattle.device_course.specs.States.{Outside}
use Rattle.transfer.specs.Program.{AreApart, ReachesNothing}

one_key : (key other : List ℕ) → Contains (key ∷ []) other → key ≡ other
one_key key other has = All-contains (λ (k : List ℕ). key ≡ k) (key ∷ []) other (All-cons (λ (k : List ℕ). key ≡ k) key [] refl (All-nil (λ (k : List ℕ). key ≡ k))) has

-- a chain from a key begins with a page that it opens
begins : (key : List ℕ) (pages : List (List ℕ)) (before : List Link) (at : Link) → IsChain pages (Contains (key ∷ [])) (before ++ at ∷ []) → (first : Link) × (key ≡ first.key) × OpensAt pages first
begins key pages [] at chain = (at, one_key key at.key chain.0, chain.1)
begins key pages (first ∷ before) at chain = (first, one_key key first.key chain.0, chain.1)

-- each page has a key of its own, and this is none of them
nothing_reached : (one other pages : List (List ℕ)) (key : List ℕ) → HaveOwnKeys one pages → AreApart one other → OneOpener (one ++ other) pages → Contains other key → (addr : ℕ) → Reached (key ∷ []) pages addr → ⊥
nothing_reached one other pages key own apart opener has addr reached =
    let first = begins key pages reached.1.before (link addr reached.0) reached.1.chain in
    let opens = first.2 in
    let sealed = own.sealed first.0.addr opens.page opens.there in
    let listed = contains_at one (own.position first.0.addr) sealed.key sealed.listed in
    let there = subst (Contains other) first.1 has in
    let same : sealed.key ≡ first.0.key = opener first.0.addr sealed.key first.0.key (Contains-append_left one other sealed.key listed) (Contains-append_right one other first.0.key there)
    (record { page = opens.page; there = opens.there; opens = sealed.opens }) (record { page = opens.page; there = opens.there; opens = opens.opens }) in
    apart first.0.key (subst (Contains one) same listed) there

-- where no page was added the pages are those that there were
same_pages : (old new : History) → Extends old new → length new.present.recorded ≡ length old.present.recorded → new.present.recorded ≡ old.present.recorded
same_pages old new extends size = sym (take_all (length old.present.recorded) new.present.recorded (omega (arith, size))) ∙ (Extends-earlier old new extends).recorded

pub reaches_nothing : (from from_now to to_now : Outside) (there : Option Device) (made : List (Option Device)) (came : Promised to to_now there made) → Extends from.history from_now.history → length from_now.history.present.recorded ≡ length from.history.present.recorded → (one two : List (List ℕ))
    → Kept one from.history.present → Kept two to.history.present → AreApart one (two ++ came.grew) → OneOpener (one ++ (two ++ came.grew)) from_now.history.present.recorded → ReachesNothing to.history to_now.history from_now.history.present.recorded
reaches_nothing from from_now to to_now there made came extends size one two kept kept_two apart opener =
    let pages : List (List ℕ) = from_now.history.present.recorded in
    let own : HaveOwnKeys one pages = subst (HaveOwnKeys one) (sym (same_pages from.history from_now.history extends size)) kept.pages in
    let each = (came.discloses two kept_two).kept in record {
      extends = each.extends;
      each = λ i first last root is addr reached. nothing_reached one (two ++ came.grew) pages (bare root.key) own apart opener (((each.each i first last).cell root is).own) addr reached;
    }
