-- Generated commands, one after the other.
use Rattle.std.proofs.Common.{◌≡◌, ℕ, zero, suc, ◌+◌, ◌-◌, ◌%◌, ◌<◌, Bool, true, false, if◌then◌else◌, List, ◌++◌, length, refl, sym, ap, ◌∙◌, arith, append_assoc, append-nil}
use Rattle.std.specs.Prelude.{flat_map, nat_lt}
use Rattle.std.specs.List.{AllByRecursion}
use Rattle.std.specs.Int.{w32, to_be_bytes}
use Rattle.std.proofs.lemmas.Nat.{mod_below}
use Rattle.script_lang.specs.Commands.{Command}
use Rattle.script_lang.specs.Commands.{Read, Write, Trim, Commit}
use Rattle.workload.specs.Draws.{next_state, draw_at}
use Rattle.workload.specs.Lines.{line_of}
use Rattle.workload.specs.Scripts.{generated, generated_commands, IsOrdinary}
use Rattle.workload.proofs.LineLaws.{IsPlain, read_is_plain, write_is_plain, trim_is_plain, commit_is_plain}

-- the lines so far and those that are left, after one more
pub one_more : (line new all : List ℕ) (x y count i : ℕ) (command : Command) → i < count → (command, y) ≡ generated x
    → new ≡ line ++ line_of command → line ++ flat_map line_of (generated_commands x (count - i)) ≡ all
    → new ++ flat_map line_of (generated_commands y (count - (i + 1))) ≡ all
unfolding generated_commands
one_more line new all x y count i command below is more left =
    let left_over = count - (i + 1) in
    let e : count - i ≡ suc left_over = omega arith in
    ap (λ (l : List ℕ). l ++ flat_map line_of (generated_commands y left_over)) more
    ∙ append_assoc line (line_of command) (flat_map line_of (generated_commands y left_over))
    ∙ ap (λ (pair : Command × ℕ). line ++ (line_of pair.0 ++ flat_map line_of (generated_commands pair.1 left_over))) is
    ∙ ap (λ (n : ℕ). line ++ flat_map line_of (generated_commands x n)) (sym e)
    ∙ left

-- where no line is left, the lines so far are all
pub none_left : (line all : List ℕ) (x left : ℕ) → left ≡ 0 → line ++ flat_map line_of (generated_commands x left) ≡ all → line ≡ all
unfolding generated_commands
none_left line all x left none is =
    sym (append-nil line) ∙ ap (λ (n : ℕ). line ++ flat_map line_of (generated_commands x n)) (sym none) ∙ is

pub length-generated_commands : (x n : ℕ) → length (generated_commands x n) ≡ n
unfolding generated_commands
length-generated_commands x zero = refl
length-generated_commands x (suc n) = ap suc (length-generated_commands (generated x).1 n)

-- one of four commands is chosen
chosen : (P : Command → Type 0) (a b c : Bool) (write read trim commit : Command × ℕ) → P write.0 → P read.0 → P trim.0 → P commit.0
    → P (if a then write else if b then read else if c then trim else commit).0
chosen P true b c write read trim commit p q r s = p
chosen P false true c write read trim commit p q r s = q
chosen P false false true write read trim commit p q r s = r
chosen P false false false write read trim commit p q r s = s

-- what holds of each of the four kinds holds of a generated command
generated_is : (P : Command → Type 0) → ((block n : ℕ) → block < 4096 → P (Write block (to_be_bytes w32 n))) → ((block : ℕ) → block < 4096 → P (Read block))
    → ((block : ℕ) → block < 4096 → P (Trim block)) → P Commit → (x : ℕ) → P (generated x).0
unfolding generated
generated_is P write read trim commit x =
    let first = next_state x in
    let second = next_state first in
    let third = next_state second in
    let kind = draw_at first % 10 in
    let block = draw_at second % 4096 in
    let below : block < 4096 = mod_below (draw_at second) 4096 (omega arith) in
    chosen P (nat_lt kind 5) (nat_lt kind 7) (nat_lt kind 8)
    (Write block (to_be_bytes w32 (draw_at third)), third) (Read block, second) (Trim block, second) (Commit, first)
    (write block (draw_at third) below) (read block below) (trim block below) commit

-- and of all of them
generated_are : (P : Command → Type 0) → ((x : ℕ) → P (generated x).0) → (x n : ℕ) → AllByRecursion P (generated_commands x n)
unfolding generated_commands
generated_are P each x zero = tt
generated_are P each x (suc n) = (each x, generated_are P each (generated x).1 n)

pub generated_are_plain : (x n : ℕ) → AllByRecursion IsPlain (generated_commands x n)
generated_are_plain = generated_are IsPlain (generated_is IsPlain write_is_plain read_is_plain trim_is_plain commit_is_plain)

pub generated_are_ordinary : (x n : ℕ) → AllByRecursion IsOrdinary (generated_commands x n)
generated_are_ordinary =
    generated_are IsOrdinary (generated_is IsOrdinary (λ block n below. (below, refl)) (λ block below. below) (λ block below. below) tt)
