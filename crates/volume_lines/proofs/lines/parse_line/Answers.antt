use Rattle.std.proofs.Common.{ℕ, List, Option, Some, None, sym, ◌∙◌}
use Rattle.std.proofs.lemmas.Bool.{true≢false}
use Rattle.std.specs.Option.{IfNone}
use Rattle.volume_lines.specs.Grammar.{Spells, IsBad}
use Rattle.volume_lines.specs.Lines.{Create, Read, Write, Trim, Destroy, Commit}
use Rattle.volume_lines.proofs.lines.parse_line.Goals as goal

-- a line that asks for nothing of either kind is bad
none_left : (line : List ℕ) → ((name : List ℕ) (block : ℕ) → Spells line (Read name block) → ⊥) → (Spells line Commit → ⊥)
    → ((name : List ℕ) (count : ℕ) → Spells line (Create name count) → ⊥) → ((name : List ℕ) → Spells line (Destroy name) → ⊥)
    → ((name : List ℕ) (block : ℕ) (content : List ℕ) → Spells line (Write name block content) → ⊥)
    → ((name : List ℕ) (block : ℕ) → Spells line (Trim name block) → ⊥) → IsBad line
none_left line read commit create destroy write trim (Create name count) = create name count
none_left line read commit create destroy write trim (Read name block) = read name block
none_left line read commit create destroy write trim (Write name block content) = write name block content
none_left line read commit create destroy write trim (Trim name block) = trim name block
none_left line read commit create destroy write trim (Destroy name) = destroy name
none_left line read commit create destroy write trim Commit = commit

weaker : {X : Type 0} (o : Option X) (P Q : Type 0) → (P → Q) → IfNone o P → IfNone o Q
weaker None P Q leads p = leads p
weaker (Some x) P Q leads p = p

pub returns-clause-none : goal.returns-clause-none
returns-clause-none c =
    weaker c.parse_trim.result _ _ (none_left c.args.line.now c.in_default.ensures.none (λ same. absurd (true≢false (sym (c.is_text.ensures.1 same) ∙ c.if-is_text.false))) c.in_default-parse_create.ensures.none c.in_default-parse_destroy.ensures.none
    c.in_default-parse_write.ensures.none) c.parse_trim.ensures.none
