-- How many pages a seizure reads: each once, and once more for each key by which a chain ends at it.
use Rattle.std.proofs.Common.{◌≡◌, ◌≢◌, ◌<◌, ◌≤◌, ◌+◌, inl, inr, ℕ, suc, List, [], ◌∷◌, ◌++◌, map, length, get_or, refl, sym, ap, subst, ◌∙◌, arith, append-nil, append_assoc}
use Rattle.std.specs.Prelude.{All, AllPairs, Contains}
use Rattle.std.proofs.Math.ListN.{get_or-append}
use Rattle.std.proofs.lemmas.List.{length-append, length-map, get_or-map, get_or_default}
use Rattle.std.proofs.lemmas.List.Elements.{All-nil, All-append, All-contains, All-contains_itself, All-get_or, All-map, All-weaker, Contains-push_cases}
use Rattle.std.proofs.lemmas.List.Quantifiers.{all_pairs_push}
use Rattle.key_graph.specs.Chains.{Link, link, OpensAt, ChainEnds, Distinct}
use Rattle.key_graph.proofs.ChainLaws.{contains_map}
use Rattle.seizure.specs.Index.{IsOnce}
use Rattle.seizure.specs.Reads.{ReadsEach}
use Rattle.seizure.proofs.SearchLaws.{IsFound, ends_at}

-- the key is one of the first so many
abbrev pub IsTried : List (List ℕ) → ℕ → List ℕ → Type 0
IsTried keys next key = (i : ℕ) × (i < next) × (get_or keys i key ≡ key)

-- the openings by the first so many of the keys, for each of which a page was read once more at most
pub record HaveRead (roots pages keys : List (List ℕ)) (next reads reads_now : ℕ) : Type 0 where
  pub openings : List Link
  pub ends : All (ChainEnds roots pages) openings
  pub tried : All (λ at. IsTried keys next at.key) openings
  pub once : AllPairs (λ one other. one ≢ other) openings
  pub most : reads_now ≤ reads + (length pages + length openings)

-- no key was tried
pub read_none : (roots pages keys : List (List ℕ)) (reads reads_now : ℕ) → reads_now ≤ reads + length pages → HaveRead roots pages keys 0 reads reads_now
read_none roots pages keys reads reads_now most = record {
  openings = [];
  ends = All-nil (ChainEnds roots pages);
  tried = All-nil (λ (at : Link). IsTried keys 0 at.key);
  once = λ i j d before within. absurd (omega (arith, within));
  most = omega (arith, most);
}

later : (keys : List (List ℕ)) (n : ℕ) (key : List ℕ) → IsTried keys n key → IsTried keys (n + 1) key
later keys n key tried = (tried.0, omega (arith, tried.1), tried.2)

-- none of the keys that were tried is the next one, since none stands twice
next_key : (keys : List (List ℕ)) (n : ℕ) (key : List ℕ) → Distinct keys → n < length keys → key ≡ get_or keys n key → IsTried keys n key → ⊥
next_key keys n key distinct within here tried = distinct tried.0 n key tried.1 within (tried.2 ∙ here)

-- pairs of two lists, of which none is of both
pairs_append : (xs ys : List Link) → AllPairs (λ one other. one ≢ other) xs → AllPairs (λ one other. one ≢ other) ys → ((x y : Link) → Contains xs x → Contains ys y → x ≢ y)
    → AllPairs (λ one other. one ≢ other) (xs ++ ys)
pairs_append xs [] one other across = subst (AllPairs (λ a b. a ≢ b)) (sym (append-nil xs)) one
pairs_append xs (y ∷ ys) one other across =
    subst (AllPairs (λ a b. a ≢ b)) (append_assoc xs (y ∷ []) ys)
    (pairs_append (xs ++ y ∷ []) ys
    (all_pairs_push (λ a b. a ≢ b) xs y one (λ k d within same. across (get_or xs k d) y (k, within, get_or_default xs k (get_or xs k d) d within) (0, omega arith, refl) same))
    (λ i j d before within. other (suc i) (suc j) d (omega (arith, before)) (omega (arith, within)))
    (λ a b has here. elim (Contains-push_cases xs y a has) [
      | inl old ↦ across a b old (suc here.0, omega (arith, here.1), here.2)
      | inr last ↦ subst (λ (c : Link). c ≢ b) last (λ same. other 0 (suc here.0) b (omega arith) (omega (arith, here.1)) (same ∙ sym here.2))
    ]))

linked_once : (key addrs : List ℕ) → IsOnce addrs → AllPairs (λ one other. one ≢ other) (map (λ addr. link addr key) addrs)
linked_once key addrs once i j d before within same =
    let to : j < length addrs = omega (arith, length-map addrs (λ (addr : ℕ). link addr key), within) in
    let first = get_or-map (λ (addr : ℕ). link addr key) addrs i 0 d (omega (arith, before, to)) in
    let second = get_or-map (λ (addr : ℕ). link addr key) addrs j 0 d to in
    once i j 0 before to (ap (λ (at : Link). at.addr) (sym first ∙ same ∙ second))

-- one more key was tried, and the pages that it opens were read
pub read_more : (roots pages keys : List (List ℕ)) (next reads mid now : ℕ) (key addrs : List ℕ) → HaveRead roots pages keys next reads mid → All (IsFound roots pages) keys → Distinct keys
    → next < length keys → key ≡ get_or keys next key → IsOnce addrs → ((addr : ℕ) → Contains addrs addr → OpensAt pages (link addr key)) → now ≤ mid + length addrs
    → HaveRead roots pages keys (next + 1) reads now
read_more roots pages keys next reads mid now key addrs have found distinct within here once opens most =
    let f : ℕ → Link = λ addr. link addr key in
    let is_found : IsFound roots pages key = subst (IsFound roots pages) (sym here) (All-get_or (IsFound roots pages) keys next key within found) in
    let tried : IsTried keys (next + 1) key = (next, omega arith, sym here) in
    record {
      openings = have.openings ++ map f addrs;
      ends = All-append (ChainEnds roots pages) have.openings (map f addrs) have.ends
          (All-map (ChainEnds roots pages) f addrs (All-weaker (Contains addrs) (λ (addr : ℕ). ChainEnds roots pages (f addr)) (λ addr has. ends_at roots pages addr key is_found (opens addr has)) addrs (All-contains_itself addrs)));
      tried = All-append (λ (at : Link). IsTried keys (next + 1) at.key) have.openings (map f addrs)
          (All-weaker (λ (at : Link). IsTried keys next at.key) (λ (at : Link). IsTried keys (next + 1) at.key) (λ at has. later keys next at.key has) have.openings have.tried)
          (All-map (λ (at : Link). IsTried keys (next + 1) at.key) f addrs (All-weaker (Contains addrs) (λ (addr : ℕ). IsTried keys (next + 1) key) (λ addr has. tried) addrs (All-contains_itself addrs)));
      once = pairs_append have.openings (map f addrs) have.once (linked_once key addrs once)
          (λ one other before after same.
          let is_key : other.key ≡ key = (let from = contains_map f addrs other after in ap (λ (at : Link). at.key) (sym from.2)) in
          next_key keys next key distinct within here
          (subst (IsTried keys next) (ap (λ (at : Link). at.key) same ∙ is_key) (All-contains (λ (at : Link). IsTried keys next at.key) have.openings one have.tried before)));
      most = omega (arith, length-append have.openings (map f addrs), length-map addrs f, have.most, most);
    }

-- whatever came of it
pub read_each : (roots pages keys : List (List ℕ)) (next reads reads_now : ℕ) → HaveRead roots pages keys next reads reads_now → ReadsEach roots pages reads reads_now
read_each roots pages keys next reads reads_now have = record { openings = have.openings; ends = have.ends; once = have.once; most = have.most }

-- more keys to try, behind those that there were
pub read_longer : (roots pages keys more : List (List ℕ)) (next reads reads_now : ℕ) → next ≤ length keys → HaveRead roots pages keys next reads reads_now → HaveRead roots pages (keys ++ more) next reads reads_now
read_longer roots pages keys more next reads reads_now within have = record {
  openings = have.openings;
  ends = have.ends;
  tried = All-weaker (λ (at : Link). IsTried keys next at.key) (λ (at : Link). IsTried (keys ++ more) next at.key)
      (λ at tried. (tried.0, tried.1, get_or-append keys more at.key tried.0 (omega (arith, tried.1, within)) ∙ tried.2)) have.openings have.tried;
  once = have.once;
  most = have.most;
}
