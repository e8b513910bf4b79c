-- How the answers to some lines and the answers to the next ones make those to all.
use Rattle.std.proofs.Common.{◌≡◌, ℕ, Bool, List, [], ◌∷◌, ◌++◌, length, inl, inr, refl, subst, arith}
use Rattle.script_lang.specs.Grammar.{Spells, IsBad}
use Rattle.sdbt_base.specs.Arrays.{State}
use Rattle.script_lang.specs.Answers.{Turn, Answers, IsAnswer}
use Rattle.script_lang.specs.Commands.{Command}
use Rattle.script_lang.specs.Replies.{Reply}
use Rattle.script_lang.specs.Replies.{Bad}

-- a command's line
pub turn_of_command : (old new : State) (line : List ℕ) (command : Command) (full : Bool) (reply : Reply) → Spells line command
    → IsAnswer full old command reply new → Turn old line reply new
turn_of_command old new line command full reply spells e = inl (command, spells, full, e)

-- a line outside the grammar
pub turn_of_bad : (state : State) (line : List ℕ) → IsBad line → Turn state line Bad state
turn_of_bad state line bad = inr (bad, refl, refl)

-- one line
pub Answers-one : (old new : State) (line : List ℕ) (reply : Reply) → Turn old line reply new → Answers old (line ∷ []) (reply ∷ []) new
Answers-one old new line reply turn = (new, turn, refl)

-- all of some lines, and then more
pub Answers-append : (old mid new : State) (lines more : List (List ℕ)) (replies others : List Reply) → length replies ≡ length lines
    → Answers old lines replies mid → Answers mid more others new → Answers old (lines ++ more) (replies ++ others) new
Answers-append old mid new [] more [] others same h k = let P : State → Type 0 = λ state. Answers state more others new in subst P h k
Answers-append old mid new [] more (reply ∷ replies) others same h k = absurd h
Answers-append old mid new (line ∷ lines) more [] others same h k = absurd (omega (arith, same))
Answers-append old mid new (line ∷ lines) more (reply ∷ replies) others same (state, turn, rest) k =
    (state, turn, Answers-append state mid new lines more replies others (omega (arith, same)) rest k)

-- lines may be left over
pub Answers-longer : (old new : State) (lines more : List (List ℕ)) (replies : List Reply) → Answers old lines replies new
    → Answers old (lines ++ more) replies new
Answers-longer old new [] more [] h = h
Answers-longer old new [] more (reply ∷ replies) h = absurd h
Answers-longer old new (line ∷ lines) more [] h = h
Answers-longer old new (line ∷ lines) more (reply ∷ replies) (state, turn, rest) = (state, turn, Answers-longer state new lines more replies rest)
