-- What a trace says of an address is what it keeps of it.
use Rattle.std.proofs.Common.{◌≡◌, inl, inr, ◌==◌, if◌then◌else◌, true, false, ℕ, Option, None, Some, List, [], ◌∷◌, map, refl, sym, ap, subst, ◌∙◌, arith}
use Rattle.std.specs.Prelude.{option_map}
use Rattle.std.specs.Map.{lookup}
use Rattle.std.specs.Ordering.{nat_cmp}
use Rattle.std.specs.BTreeMap.{BTreeMap, get, is_at, UpdatesBy}
use Rattle.std.proofs.lemmas.Bool.{cases_eq, eq-eqb, ne_eqb}
use Rattle.key_graph.specs.declared.traces.Said.{Said}
use Rattle.std.proofs.lemmas.Option.{none-some}
use Rattle.key_graph.specs.declared.traces.Said.TheVariants.{Data, Over}
use Rattle.key_graph.specs.Trace.{entry_in}
use Rattle.sdbt_base.specs.Traces.{TraceEntry, DataOf, NodeOver}
use Rattle.key_graph.specs.Said.{trace_of, traced_of}

pub same_key : (k q : ℕ) → k ≡ q → is_at (nat_cmp q) k ≡ true
same_key k q same = grind arith

pub apart_key : (k q : ℕ) → (k ≡ q → ⊥) → is_at (nat_cmp q) k ≡ false
apart_key k q ne = grind arith

pub kept_is_said : (es : List (ℕ × Said)) (addr : ℕ) → entry_in (map traced_of es) addr ≡ option_map trace_of (lookup (is_at (nat_cmp addr)) es)
kept_is_said [] addr = refl
kept_is_said (e ∷ es) addr = elim (cases_eq e.0 addr) [
  | inl same ↦ rw (eq-eqb e.0 addr same, same_key e.0 addr same) refl
  | inr other ↦ rw (ne_eqb e.0 addr other, apart_key e.0 addr other) (kept_is_said es addr)
]

pub sets : (old new : BTreeMap ℕ Said) (addr : ℕ) (kept : Option Said) (told : Option TraceEntry) → UpdatesBy nat_cmp (nat_cmp addr) old new kept
    → told ≡ option_map trace_of kept → (other : ℕ) → entry_in (map traced_of new.entries) other ≡ (if addr == other then told else entry_in (map traced_of old.entries) other)
sets old new addr kept told updates is other = elim (cases_eq addr other) [
  | inl same ↦ rw (eq-eqb addr other same)
      (kept_is_said new.entries other ∙ ap (option_map trace_of) (subst (λ (x : ℕ). get nat_cmp new x ≡ kept) same updates.1) ∙ sym is)
  | inr apart ↦ rw (ne_eqb addr other apart)
      (kept_is_said new.entries other ∙ ap (option_map trace_of) (updates.2 other (apart_key other addr (λ e. apart (sym e)))) ∙ sym (kept_is_said old.entries other))
]

-- what is kept of an address is a node, or it isn't
pub says_node : (es : List (ℕ × Said)) (addr : ℕ) (kept : Said) (children : List ℕ) → Some kept ≡ lookup (is_at (nat_cmp addr)) es → kept ≡ Over children
    → entry_in (map traced_of es) addr ≡ Some (NodeOver children)
says_node es addr kept children found is = kept_is_said es addr ∙ ap (option_map trace_of) (sym found) ∙ ap (λ said. Some (trace_of said)) is

pub says_data : (es : List (ℕ × Said)) (addr : ℕ) (kept : Said) (block : ℕ) → Some kept ≡ lookup (is_at (nat_cmp addr)) es → kept ≡ Data block
    → (children : List ℕ) → entry_in (map traced_of es) addr ≡ Some (NodeOver children) → ⊥
says_data es addr kept block found is children node =
    let says : entry_in (map traced_of es) addr ≡ Some (DataOf block) = kept_is_said es addr ∙ ap (option_map trace_of) (sym found) ∙ ap (λ said. Some (trace_of said)) is in
    let same : DataOf block ≡ NodeOver children = cc in
    cc

pub says_nothing : (es : List (ℕ × Said)) (addr : ℕ) → None ≡ lookup (is_at (nat_cmp addr)) es → (children : List ℕ) → entry_in (map traced_of es) addr ≡ Some (NodeOver children) → ⊥
says_nothing es addr none children node = none-some (NodeOver children) (ap (option_map trace_of) none ∙ sym (kept_is_said es addr) ∙ node)
