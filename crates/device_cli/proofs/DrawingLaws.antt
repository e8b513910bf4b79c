-- Which keys lines draw that are handled one after another.
use Rattle.std.proofs.Common.{◌≡◌, ◌⊎◌, ℕ, List, [], ◌∷◌, ◌++◌, Option, Result, Ok, Err, length, inl, inr, refl, sym, subst, arith}
use Rattle.std.specs.Prelude.{IfOk}
use Rattle.page_store.specs.Keeping.{DrewAll}
use Rattle.page_store.proofs.KeepingLaws.{drew_none}
use Rattle.script_lang.specs.Grammar.{Spells}
use Rattle.script_lang.specs.Commands.{Command}
use Rattle.script_lang.specs.Commands as commands
use Rattle.script_lang.specs.Replies.{Reply, said}
use Rattle.script_lang.specs.declared.replies.Reply.{Reply as Given}
use Rattle.script_lang.specs.declared.replies.Reply.TheVariants as given
use Rattle.session_calls.specs.declared.stops.DeviceStop.{DeviceStop}
use Rattle.device_cli.specs.Causes.{Draws, IsOf, PutsEntry}
use Rattle.device_cli.specs.Drawing.{AreDrawnAt, DrewFor, DrewOn, DrewUntil, Spends}
use Rattle.device_cli.specs.Pages.{IfNext}
use Rattle.device_cli.specs.Replied.{outcome}

-- ---- the line behind those that have replies

-- the line after all of some, and then more
pub IfNext-behind : (P : List ℕ → Type 0) (lines more : List (List ℕ)) (replies others : List Reply) → length replies ≡ length lines
    → IfNext others more P → IfNext (replies ++ others) (lines ++ more) P
IfNext-behind P [] more [] others same h = h
IfNext-behind P [] more (reply ∷ replies) others same h = absurd (omega (arith, same))
IfNext-behind P (line ∷ lines) more [] others same h = absurd (omega (arith, same))
IfNext-behind P (line ∷ lines) more (reply ∷ replies) others same h = IfNext-behind P lines more replies others (omega (arith, same)) h

pub IfNext-longer : (P : List ℕ → Type 0) (lines more : List (List ℕ)) (replies : List Reply) → IfNext replies lines P → IfNext replies (lines ++ more) P
IfNext-longer P [] more [] h = absurd h
IfNext-longer P [] more (reply ∷ replies) h = absurd h
IfNext-longer P (line ∷ lines) more [] h = h
IfNext-longer P (line ∷ lines) more (reply ∷ replies) h = IfNext-longer P lines more replies h

-- there is none where each has its reply
none_next : (P : List ℕ → Type 0) (lines : List (List ℕ)) (replies : List Reply) → length replies ≡ length lines → IfNext replies lines P → ⊥
none_next P [] [] same h = h
none_next P [] (reply ∷ replies) same h = h
none_next P (line ∷ lines) [] same h = omega (arith, same)
none_next P (line ∷ lines) (reply ∷ replies) same h = none_next P lines replies (omega (arith, same)) h

-- ---- lines

on_append : (drawn mid drawn_now : Option (List (List ℕ))) (lines more : List (List ℕ)) (replies others : List Reply) → length replies ≡ length lines → DrewOn drawn lines replies mid → DrewOn mid more others drawn_now
    → DrewOn drawn (lines ++ more) (replies ++ others) drawn_now
on_append drawn mid drawn_now [] more [] others same h k = subst (λ (d : Option (List (List ℕ))). DrewOn d more others drawn_now) h k
on_append drawn mid drawn_now [] more (reply ∷ replies) others same h k = absurd h
on_append drawn mid drawn_now (line ∷ lines) more [] others same h k = absurd (omega (arith, same))
on_append drawn mid drawn_now (line ∷ lines) more (reply ∷ replies) others same (keys, at, between, drew, rest) k =
    (keys, at, between, drew, on_append between mid drawn_now lines more replies others (omega (arith, same)) rest k)

on_longer : (drawn drawn_now : Option (List (List ℕ))) (lines more : List (List ℕ)) (replies : List Reply) → DrewOn drawn lines replies drawn_now → DrewOn drawn (lines ++ more) replies drawn_now
on_longer drawn drawn_now lines more [] h = h
on_longer drawn drawn_now [] more (reply ∷ replies) h = absurd h
on_longer drawn drawn_now (line ∷ lines) more (reply ∷ replies) (keys, at, between, drew, rest) = (keys, at, between, drew, on_longer between drawn_now lines more replies rest)

pub until_none : (drawn drawn_now : Option (List (List ℕ))) (lines : List (List ℕ)) → drawn_now ≡ drawn → DrewUntil drawn lines [] drawn_now
until_none drawn drawn_now lines same = record { mid = drawn; on = refl; more = inl same }

-- a line with its reply
pub until_line : (drawn drawn_now : Option (List (List ℕ))) (line : List ℕ) (reply : Reply) (keys : List (List ℕ)) → AreDrawnAt line reply keys → DrewAll drawn keys drawn_now → DrewUntil drawn (line ∷ []) (reply ∷ []) drawn_now
until_line drawn drawn_now line reply keys at drew = record { mid = drawn_now; on = (keys, at, drawn_now, drew, refl); more = inl refl }

-- a line that was cut short
may_draw : (drawn drawn_now : Option (List (List ℕ))) (line : List ℕ) (command : Command) (keys : List (List ℕ)) → Spells line command → ((Draws command → ⊥) → drawn_now ≡ drawn) → DrewAll drawn keys drawn_now
    → (drawn_now ≡ drawn) ⊎ (IsOf Draws line × (more : List (List ℕ)) × DrewAll drawn more drawn_now)
may_draw drawn drawn_now line (commands.Format blocks order) keys spells still drew = inr ((commands.Format blocks order, spells, tt), keys, drew)
may_draw drawn drawn_now line (commands.Write block content) keys spells still drew = inr ((commands.Write block content, spells, tt), keys, drew)
may_draw drawn drawn_now line commands.Commit keys spells still drew = inr ((commands.Commit, spells, tt), keys, drew)
may_draw drawn drawn_now line commands.Upgrade keys spells still drew = inr ((commands.Upgrade, spells, tt), keys, drew)
may_draw drawn drawn_now line commands.Mount keys spells still drew = inl (still (λ d. d))
may_draw drawn drawn_now line (commands.Read block) keys spells still drew = inl (still (λ d. d))
may_draw drawn drawn_now line (commands.Trim block) keys spells still drew = inl (still (λ d. d))
may_draw drawn drawn_now line commands.Drop keys spells still drew = inl (still (λ d. d))
may_draw drawn drawn_now line commands.Erase keys spells still drew = inl (still (λ d. d))
may_draw drawn drawn_now line commands.Stat keys spells still drew = inl (still (λ d. d))
may_draw drawn drawn_now line commands.Seize keys spells still drew = inl (still (λ d. d))

pub until_cut : (drawn drawn_now : Option (List (List ℕ))) (line : List ℕ) (command : Command) (keys : List (List ℕ)) → Spells line command → ((Draws command → ⊥) → drawn_now ≡ drawn) → DrewAll drawn keys drawn_now
    → DrewUntil drawn (line ∷ []) [] drawn_now
until_cut drawn drawn_now line command keys spells still drew = record { mid = drawn; on = refl; more = may_draw drawn drawn_now line command keys spells still drew }

-- lines after lines that have their replies
more_behind : (mid drawn_now : Option (List (List ℕ))) (lines more : List (List ℕ)) (replies others : List Reply) → length replies ≡ length lines
    → (drawn_now ≡ mid) ⊎ (IfNext others more (IsOf Draws) × (keys : List (List ℕ)) × DrewAll mid keys drawn_now)
    → (drawn_now ≡ mid) ⊎ (IfNext (replies ++ others) (lines ++ more) (IsOf Draws) × (keys : List (List ℕ)) × DrewAll mid keys drawn_now)
more_behind mid drawn_now lines more replies others same (inl e) = inl e
more_behind mid drawn_now lines more replies others same (inr (next, keys, drew)) = inr (IfNext-behind (IsOf Draws) lines more replies others same next, keys, drew)

all_on : (drawn drawn_now : Option (List (List ℕ))) (lines : List (List ℕ)) (replies : List Reply) → length replies ≡ length lines → DrewUntil drawn lines replies drawn_now → DrewOn drawn lines replies drawn_now
all_on drawn drawn_now lines replies same p = elim p.more [
  | inl e ↦ subst (λ (d : Option (List (List ℕ))). DrewOn drawn lines replies d) (sym e) p.on
  | inr next ↦ absurd (none_next (IsOf Draws) lines replies same next.0)
]

pub until_then : (drawn mid drawn_now : Option (List (List ℕ))) (lines more : List (List ℕ)) (replies others : List Reply) → length replies ≡ length lines → DrewUntil drawn lines replies mid → DrewUntil mid more others drawn_now
    → DrewUntil drawn (lines ++ more) (replies ++ others) drawn_now
until_then drawn mid drawn_now lines more replies others same p q = record {
  mid = q.mid;
  on = on_append drawn mid q.mid lines more replies others same (all_on drawn mid lines replies same p) q.on;
  more = more_behind q.mid drawn_now lines more replies others same q.more;
}

more_longer : (mid drawn_now : Option (List (List ℕ))) (lines more : List (List ℕ)) (replies : List Reply) → (drawn_now ≡ mid) ⊎ (IfNext replies lines (IsOf Draws) × (keys : List (List ℕ)) × DrewAll mid keys drawn_now)
    → (drawn_now ≡ mid) ⊎ (IfNext replies (lines ++ more) (IsOf Draws) × (keys : List (List ℕ)) × DrewAll mid keys drawn_now)
more_longer mid drawn_now lines more replies (inl e) = inl e
more_longer mid drawn_now lines more replies (inr (next, keys, drew)) = inr (IfNext-longer (IsOf Draws) lines more replies next, keys, drew)

pub until_longer : (drawn drawn_now : Option (List (List ℕ))) (lines more : List (List ℕ)) (replies : List Reply) → DrewUntil drawn lines replies drawn_now → DrewUntil drawn (lines ++ more) replies drawn_now
until_longer drawn drawn_now lines more replies p = record { mid = p.mid; on = on_longer drawn p.mid lines more replies p.on; more = more_longer p.mid drawn_now lines more replies p.more }

-- ---- commands

-- one that draws none
none_drawn : (drawn : Option (List (List ℕ))) (command : Command) (answer : Result Reply DeviceStop) → (Draws command → ⊥) → IfOk answer (λ reply. DrewFor drawn command reply drawn)
none_drawn drawn command (Err stop) none = tt
none_drawn drawn (commands.Format blocks order) (Ok reply) none = absurd (none tt)
none_drawn drawn (commands.Write block content) (Ok reply) none = absurd (none tt)
none_drawn drawn commands.Commit (Ok reply) none = absurd (none tt)
none_drawn drawn commands.Upgrade (Ok reply) none = absurd (none tt)
none_drawn drawn commands.Mount (Ok reply) none = ([], refl, drew_none drawn drawn refl)
none_drawn drawn (commands.Read block) (Ok reply) none = ([], refl, drew_none drawn drawn refl)
none_drawn drawn (commands.Trim block) (Ok reply) none = ([], refl, drew_none drawn drawn refl)
none_drawn drawn commands.Drop (Ok reply) none = ([], refl, drew_none drawn drawn refl)
none_drawn drawn commands.Erase (Ok reply) none = ([], refl, drew_none drawn drawn refl)
none_drawn drawn commands.Stat (Ok reply) none = ([], refl, drew_none drawn drawn refl)
none_drawn drawn commands.Seize (Ok reply) none = ([], refl, drew_none drawn drawn refl)

pub uncalled : {T L : Type 0} (tape : T) (ledger : L) (drawn : Option (List (List ℕ))) (command : Command) (answer : Result Reply DeviceStop) → (Draws command → ⊥) → (PutsEntry command → ⊥) → Spends tape tape ledger ledger drawn drawn command answer
uncalled tape ledger drawn command answer none unput = record { undrawn = λ n. refl; unput = λ n. refl; drew = none_drawn drawn command answer none }

-- a format of numbers that no device has
pub refused_drew : (drawn : Option (List (List ℕ))) (blocks order : ℕ) (result : Result Given DeviceStop) (buffer : List ℕ) → IfOk result (λ reply. (reply ≡ given.NotEmpty) ⊎ (reply ≡ given.Range))
    → IfOk (outcome result buffer) (λ reply. DrewFor drawn (commands.Format blocks order) reply drawn)
refused_drew drawn blocks order (Ok reply) buffer (inl e) = subst (λ (r : Given). DrewFor drawn (commands.Format blocks order) (said r buffer) drawn) (sym e) ([], refl, drew_none drawn drawn refl)
refused_drew drawn blocks order (Ok reply) buffer (inr e) = subst (λ (r : Given). DrewFor drawn (commands.Format blocks order) (said r buffer) drawn) (sym e) ([], refl, drew_none drawn drawn refl)
refused_drew drawn blocks order (Err stop) buffer either = tt
