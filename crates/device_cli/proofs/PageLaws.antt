-- How the answers to some lines and to the next ones make those to all, with the pages that there are.
use Rattle.std.proofs.Common.{◌≡◌, ℕ, ◌+◌, ◌-◌, ◌*◌, List, [], ◌∷◌, ◌++◌, length, inl, inr, refl, ◌∙◌, subst, ap, arith}
use Rattle.std.specs.Prelude.{◌⊎◌, nat_lt}
use Rattle.script_lang.specs.Answers.{Turn, Answers}
use Rattle.script_lang.specs.Commands.{Command}
use Rattle.script_lang.specs.Commands.{Commit, Upgrade}
use Rattle.script_lang.specs.Replies.{Reply}
use Rattle.script_lang.specs.Replies.{Full}
use Rattle.device_cli.specs.Added.{HasAdded}
use Rattle.device_cli.specs.Pages.{needed_for, pages_after, updates_after, updates_of, upgrade_of, Standing, TurnOn, AnswersOn, IsShort, AreShort}
use Rattle.device_cli.specs.World.{World, IsLater}

-- a reply that belongs to a line on a medium of so many pages
pub turn_of : (capacity : ℕ) (old : Standing) (line : List ℕ) (reply : Reply) (new : Standing) → TurnOn capacity old line reply new → Turn old.state line reply new.state
turn_of capacity old line reply new (inl (command, spells, needed, needs, is, added, updated)) = inl (command, spells, nat_lt (capacity - old.pages) needed, is)
turn_of capacity old line reply new (inr (bad, is, same)) = inr (bad, is, ap (λ (s : Standing). s.state) same)

-- none is added, or as many as are needed
pub pages_cases : (reply : Reply) (needed pages : ℕ) → (pages_after reply needed pages ≡ pages) ⊎ (pages_after reply needed pages ≡ pages + needed)
pages_cases Full needed pages = inl refl
pages_cases _ needed pages = inr refl

-- a line adds no more than its command needs
pub near_turn : (capacity : ℕ) (old : Standing) (line : List ℕ) (reply : Reply) (new : Standing) → TurnOn capacity old line reply new
    → HasAdded (λ command. needed_for command (41 * old.updates) (upgrade_of old.state)) (line ∷ []) [] old.pages new.pages
near_turn capacity old line reply new (inl (command, spells, needed, needs, is, added, updated)) = elim (pages_cases reply needed old.pages) [
  | inl none ↦ inl (omega (arith, none, added))
  | inr some ↦ inr (omega (arith, some, added), (command, spells, omega (arith, some, added, needs.within)))
]
near_turn capacity old line reply new (inr (bad, is, same)) = inl (ap (λ (s : Standing). s.pages) same)

pub answers_of : (capacity : ℕ) (old : Standing) (lines : List (List ℕ)) (replies : List Reply) (new : Standing) → AnswersOn capacity old lines replies new → Answers old.state lines replies new.state
answers_of capacity old lines [] new h = ap (λ (s : Standing). s.state) h
answers_of capacity old [] (reply ∷ replies) new h = absurd h
answers_of capacity old (line ∷ lines) (reply ∷ replies) new (mid, turn, rest) = (mid.state, turn_of capacity old line reply mid turn, answers_of capacity mid lines replies new rest)

-- how many updates the next line meets, and the one behind all of some replies
updates_turn : (capacity : ℕ) (old : Standing) (line : List ℕ) (reply : Reply) (new : Standing) → TurnOn capacity old line reply new → new.updates ≡ updates_after reply old.updates
updates_turn capacity old line reply new (inl (command, spells, needed, needs, is, added, updated)) = updated
updates_turn capacity old line reply new (inr (bad, is, same)) = rw is (ap (λ (s : Standing). s.updates) same)

pub updates_on : (capacity : ℕ) (old : Standing) (lines : List (List ℕ)) (replies : List Reply) (new : Standing) → AnswersOn capacity old lines replies new → new.updates ≡ updates_of old.updates replies
updates_on capacity old lines [] new h = ap (λ (s : Standing). s.updates) h
updates_on capacity old [] (reply ∷ replies) new h = absurd h
updates_on capacity old (line ∷ lines) (reply ∷ replies) new (mid, turn, rest) =
    updates_on capacity mid lines replies new rest ∙ ap (λ (n : ℕ). updates_of n replies) (updates_turn capacity old line reply mid turn)

-- all of some lines, and then more
pub AnswersOn-append : (capacity : ℕ) (old mid new : Standing) (lines more : List (List ℕ)) (replies others : List Reply)
    → length replies ≡ length lines → AnswersOn capacity old lines replies mid → AnswersOn capacity mid more others new → AnswersOn capacity old (lines ++ more) (replies ++ others) new
AnswersOn-append capacity old mid new [] more [] others same h k = subst (λ (s : Standing). AnswersOn capacity s more others new) h k
AnswersOn-append capacity old mid new [] more (reply ∷ replies) others same h k = absurd h
AnswersOn-append capacity old mid new (line ∷ lines) more [] others same h k = absurd (omega (arith, same))
AnswersOn-append capacity old mid new (line ∷ lines) more (reply ∷ replies) others same (next, turn, rest) k =
    (next, turn, AnswersOn-append capacity next mid new lines more replies others (omega (arith, same)) rest k)

-- lines may be left over
pub AnswersOn-longer : (capacity : ℕ) (old new : Standing) (lines more : List (List ℕ)) (replies : List Reply) → AnswersOn capacity old lines replies new → AnswersOn capacity old (lines ++ more) replies new
AnswersOn-longer capacity old new lines more [] h = h
AnswersOn-longer capacity old new [] more (reply ∷ replies) h = absurd h
AnswersOn-longer capacity old new (line ∷ lines) more (reply ∷ replies) (next, turn, rest) = (next, turn, AnswersOn-longer capacity next new lines more replies rest)

-- how many updates there are after all of some replies, and then more
pub updates_of-append : (updates : ℕ) (replies others : List Reply) → updates_of updates (replies ++ others) ≡ updates_of (updates_of updates replies) others
updates_of-append updates [] others = refl
updates_of-append updates (reply ∷ replies) others = updates_of-append (updates_after reply updates) replies others

-- too few pages are free for good
short_later : (old new : World) (command : Command) (updates : ℕ) → IsLater old new → IsShort command updates old.head old.capacity → IsShort command updates new.head new.capacity
short_later old new Commit updates later short = omega (arith, later.capacity, later.rises, short)
short_later old new Upgrade updates later short = omega (arith, later.capacity, later.rises, short)
short_later old new _ updates later short = omega (arith, later.capacity, later.rises, later.within, short)

pub AreShort-later : (old new : World) (updates : ℕ) (lines : List (List ℕ)) (replies : List Reply) → IsLater old new → AreShort old.head old.capacity updates lines replies
    → AreShort new.head new.capacity updates lines replies
AreShort-later old new updates lines [] later h = tt
AreShort-later old new updates [] (reply ∷ replies) later h = absurd h
AreShort-later old new updates (line ∷ lines) (reply ∷ replies) later (full, rest) = (
  λ e. let f = full e in (f.0, f.1, short_later old new f.0 updates later f.2),
  AreShort-later old new (updates_after reply updates) lines replies later rest,
)

pub AreShort-append : (head capacity updates : ℕ) (lines more : List (List ℕ)) (replies others : List Reply) → length replies ≡ length lines
    → AreShort head capacity updates lines replies → AreShort head capacity (updates_of updates replies) more others → AreShort head capacity updates (lines ++ more) (replies ++ others)
AreShort-append head capacity updates [] more [] others same h k = k
AreShort-append head capacity updates [] more (reply ∷ replies) others same h k = absurd h
AreShort-append head capacity updates (line ∷ lines) more [] others same h k = absurd (omega (arith, same))
AreShort-append head capacity updates (line ∷ lines) more (reply ∷ replies) others same (full, rest) k =
    (full, AreShort-append head capacity (updates_after reply updates) lines more replies others (omega (arith, same)) rest k)

pub AreShort-longer : (head capacity updates : ℕ) (lines more : List (List ℕ)) (replies : List Reply) → AreShort head capacity updates lines replies → AreShort head capacity updates (lines ++ more) replies
AreShort-longer head capacity updates lines more [] h = tt
AreShort-longer head capacity updates [] more (reply ∷ replies) h = absurd h
AreShort-longer head capacity updates (line ∷ lines) more (reply ∷ replies) (full, rest) =
    (full, AreShort-longer head capacity (updates_after reply updates) lines more replies rest)
