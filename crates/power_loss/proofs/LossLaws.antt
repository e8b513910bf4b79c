-- What is left after losses of power.
use Rattle.std.proofs.Common.{◌≡◌, inl, inr, ℕ, ◌+◌, ◌<◌, List, [], ◌∷◌, ◌++◌, length, take, get_or, sym, ◌∙◌, ap, subst, arith}
use Rattle.std.specs.Prelude.{Contains, slice_get}
use Rattle.std.proofs.lemmas.Bool.{cases_eq}
use Rattle.std.proofs.lemmas.List.{take_more}
use Rattle.std.proofs.lemmas.List.Elements.{Contains-push, Contains-push_cases, Contains-append_left, Contains-append_right}
use Rattle.platform.specs.declared.mem_platform.MemPlatform.{MemPlatform}
use Rattle.platform.specs.Image.{Image, MayLeave}
use Rattle.platform.specs.Mem.{IsSameRest}
use Rattle.power_loss.specs.Loss.{Tore}

-- one loss of power after another
pub MayLeave-then : (a b c : Image) → MayLeave a b → MayLeave b c → MayLeave a c
MayLeave-then a b c p q = record {
  cell = q.cell ∙ p.cell;
  recorded = q.recorded ∙ p.recorded;
  synced = q.synced ∙ p.synced;
  readable = subst (λ (n : ℕ). take n c.readable ≡ take n b.readable) p.synced q.readable ∙ p.readable;
  whole = q.whole;
  as_many = q.as_many ∙ ap (λ (pages : List (List ℕ)). length pages) p.recorded;
}

-- nothing is among none
pub none_among : (addr : ℕ) → Contains [] addr → ⊥
none_among addr (i, within, is) = omega (arith, within)

-- nothing is torn
pub Tore-none : (image left : Image) → MayLeave image left → ((addr : ℕ) → slice_get left.readable addr ≡ slice_get image.readable addr) → Tore [] image left
Tore-none image left may same = record { may = may; zeros = λ addr among. absurd (none_among addr among); others = λ addr absent. same addr }

-- only one is among one
one_among : (addr other : ℕ) → Contains (addr ∷ []) other → addr ≡ other
one_among addr other among = elim (Contains-push_cases [] addr other among) [
  | inl none ↦ absurd (none_among other none)
  | inr same ↦ same
]

-- pages of a list are torn, and then one more
pub Tore-push : (done : List ℕ) (addr : ℕ) (image mid left : Image) → Tore done image mid → Tore (addr ∷ []) mid left → Tore (done ++ addr ∷ []) image left
Tore-push done addr image mid left first second = record {
  may = MayLeave-then image mid left first.may second.may;
  zeros = λ other among unsynced within. elim (cases_eq addr other) [
    | inl same ↦ second.zeros other (subst (λ (k : ℕ). Contains (k ∷ []) other) (sym same) (Contains-push [] other)) (omega (arith, first.may.synced)) (rw first.may.recorded within)
    | inr differ ↦ elim (Contains-push_cases done addr other among) [
      | inl before ↦ second.others other (λ one. differ (one_among addr other one)) ∙ first.zeros other before unsynced within
      | inr same ↦ absurd (differ same)
    ]
  ];
  others = λ other absent.
      second.others other (λ one. absent (Contains-append_right done (addr ∷ []) other one))
      ∙ first.others other (λ before. absent (Contains-append_left done (addr ∷ []) other before));
}

-- the next of a list
pub Tore-more : (torn : List ℕ) (image mid left : Image) (i addr : ℕ) → i < length torn → addr ≡ get_or torn i addr → Tore (take i torn) image mid → Tore (addr ∷ []) mid left → Tore (take (i + 1) torn) image left
Tore-more torn image mid left i addr more at first second =
    let next : take (i + 1) torn ≡ take i torn ++ addr ∷ [] = take_more torn i addr more ∙ ap (λ (k : ℕ). take i torn ++ k ∷ []) (sym at) in
    subst (λ (done : List ℕ). Tore done image left) (sym next) (Tore-push (take i torn) addr image mid left first second)

-- what stays over one call, and then over another
pub IsSameRest-then : (a b c : MemPlatform) → IsSameRest a b → IsSameRest b c → IsSameRest a c
IsSameRest-then a b c p q = record {
  capacity = q.capacity ∙ p.capacity;
  reads = q.reads ∙ p.reads;
  looks = q.looks ∙ p.looks;
  faults = q.faults ∙ p.faults;
  starved = q.starved ∙ p.starved;
}
