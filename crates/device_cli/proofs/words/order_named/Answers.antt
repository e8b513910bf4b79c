use Rattle.std.proofs.Common.{◌≡◌, ℕ, List, [], ◌∷◌, length, sym, subst, arith, rules, eqb-true}
use Rattle.std.specs.Prelude.{codes, map, string_bytes}
use Rattle.device_cli.specs.Words.{AreRunWords, AreCheckWords, Asks}
use Rattle.device_cli.proofs.words.order_named.Goals as goal

-- a word with none behind it
run_alone : {X : Type 0} (f : X → List ℕ) (word : List ℕ) (behind : List X) → length behind ≡ 0 → word ≡ codes "run" → AreRunWords (word ∷ map f behind)
run_alone f word [] none is = is
run_alone f word (x ∷ behind) none is = absurd (omega (arith, none))

check_alone : {X : Type 0} (f : X → List ℕ) (word : List ℕ) (behind : List X) → length behind ≡ 0 → word ≡ codes "check" → AreCheckWords (word ∷ map f behind)
check_alone f word [] none is = is
check_alone f word (x ∷ behind) none is = absurd (omega (arith, none))

pub returns-then-eq-3 : goal.returns-then-eq-3
returns-then-eq-3 c =
    let is : string_bytes c.args.word.now ≡ codes "run" = search rules in
    run_alone string_bytes (string_bytes c.args.word.now) c.args.behind.now (eqb-true (length c.args.behind.now) 0 (sym c.if-not-is_empty.ensures)) is

pub returns-then-eq-4 : goal.returns-then-eq-4
returns-then-eq-4 c =
    let is : string_bytes c.args.word.now ≡ codes "check" = search rules in
    check_alone string_bytes (string_bytes c.args.word.now) c.args.behind.now (eqb-true (length c.args.behind.now) 0 (sym c.if-not-is_empty.ensures)) is

pub returns-then-eq-2 : goal.returns-then-eq-2
returns-then-eq-2 c =
    let is : string_bytes c.args.word.now ≡ codes "work" = search rules in
    subst (λ (word : List ℕ). Asks (word ∷ map string_bytes c.args.behind.now) c.work_of.result) (sym is) c.work_of.ensures
