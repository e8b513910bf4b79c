-- What is told of a script that was served.
use Rattle.std.specs.Prelude.{ℕ, ◌+◌, ◌-◌, if◌then◌else◌, List, [], ◌∷◌, ◌++◌, length, drop, codes, flat_map}
use Rattle.std.specs.Fmt.{decimal}
use Rattle.script_lang.specs.Replies.{Reply, line_of, is_refusal}

-- how many of the replies say that their line was refused
abbrev pub refused : List Reply → ℕ
refused [] = 0
refused (reply ∷ replies) = (if is_refusal reply then 1 else 0) + refused replies

-- the first two lines: the seed and the number of generated lines, and how many lines were accepted and how many refused
unfoldable pub heading : ℕ → ℕ → ℕ → ℕ → List ℕ
heading seed count accepted refused =
    codes "work seed " ++ (decimal seed ++ (codes " count " ++ (decimal count ++ 10 ∷ (codes "accepted " ++ (decimal accepted ++ (codes " refused " ++ (decimal refused ++ 10 ∷ [])))))))

-- what is told of the script of a seed whose lines have these replies: the heading, and the replies to its last two lines
abbrev pub summary : ℕ → ℕ → List Reply → List ℕ
summary seed count replies =
    heading seed count (length replies - refused replies) (refused replies) ++ flat_map line_of (drop (count + 3) replies)
