-- The keys of a map as an ascending list.
use Rattle.std.proofs.Common.{◌≡◌, ◌↔◌, ℕ, ◌<◌, true, is_some, List, [], ◌++◌, refl, sym, ap, subst, ◌∙◌, append-nil}
use Rattle.std.specs.Prelude.{Contains}
use Rattle.std.specs.Ordering.{nat_cmp, MatchOrdering}
use Rattle.std.specs.declared.cmp.Ordering.{Ordering}
use Rattle.std.specs.declared.cmp.Ordering.TheVariants.{Equal}
use Rattle.std.specs.BTreeMap.{BTreeMap, get, keys, IsOrdered}
use Rattle.std.proofs.lemmas.Cmp.{nat_cmp_total, ranked}
use Rattle.std.proofs.lemmas.Map.Keys.{below_from_sorted}
use Rattle.std.proofs.lemmas.Map.Views.{btree_map_contains_key_iff}
use Rattle.cert_checker.specs.declared.held.Held.{Held}
use Rattle.cert_checker.specs.Looks.{Ascends}

pub listed_all : (addrs left all : List ℕ) → left ≡ [] → addrs ++ left ≡ all → addrs ≡ all
listed_all addrs left all none same = sym (append-nil addrs) ∙ ap (λ (l : List ℕ). addrs ++ l) (sym none) ∙ same

pub keys_ascend : (map : BTreeMap ℕ Held) (addrs : List ℕ) → addrs ≡ keys map → IsOrdered nat_cmp map → Ascends addrs
keys_ascend map addrs same ordered = subst (λ (xs : List ℕ). Ascends xs) (sym same) (λ i j d low inside. below_from_sorted (keys map) i j d ordered low inside)

exact : (x y : ℕ) → nat_cmp x y ≡ Equal → x ≡ y
exact x y same = subst (λ (r : Ordering). MatchOrdering r (x < y) (x ≡ y) (y < x)) same (ranked x y (nat_cmp x y) refl)

pub keys_have : (map : BTreeMap ℕ Held) (addrs : List ℕ) → addrs ≡ keys map → (addr : ℕ) → Contains addrs addr ↔ (is_some (get nat_cmp map addr) ≡ true)
keys_have map addrs same addr =
    let iff = btree_map_contains_key_iff nat_cmp_total exact map addr in (
      λ inside. iff.1 (subst (λ (xs : List ℕ). Contains xs addr) same inside),
      λ is. subst (λ (xs : List ℕ). Contains xs addr) (sym same) (iff.0 is),
    )
