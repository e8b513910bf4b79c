-- Which keys lines draw that are handled one after another.
use Rattle.std.proofs.Common.{◌≡◌, ◌⊎◌, ℕ, List, [], ◌∷◌, ◌++◌, length, inl, inr, refl, sym, subst, arith}
use Rattle.page_store.specs.Keeping.{DrewAll}
use Rattle.page_store.proofs.KeepingLaws.{drew_none}
use Rattle.volume_lines.specs.Grammar.{IsBad, Spells}
use Rattle.volume_lines.specs.Lines.{Line, Create, Read, Write, Trim, Destroy, Commit}
use Rattle.volume_lines.specs.Replies.{Reply, Bad}
use Rattle.volume_desk.specs.Causes.{Draws}
use Rattle.volume_desk.specs.Drawing.{DrewFor, Tally}
use Rattle.volume_serving.specs.Drawing.{DrewOn, DrewUntil, IsOfDrawn}
use Rattle.volume_serving.specs.Tabled.{IfNext}
use Rattle.volume_serving.proofs.TabledLaws.{next_behind, next_longer}

-- there is no line in hand where each has its reply
none_next : (Claim : List ℕ → Type 0) (lines : List (List ℕ)) (replies : List Reply) → length replies ≡ length lines → IfNext replies lines Claim → ⊥
none_next Claim [] [] same next = next
none_next Claim [] (reply ∷ replies) same next = next
none_next Claim (line ∷ lines) [] same next = omega (arith, same)
none_next Claim (line ∷ lines) (reply ∷ replies) same next = none_next Claim lines replies (omega (arith, same)) next

-- ---- one line

pub until_none : (from : Tally) (lines : List (List ℕ)) → DrewUntil from lines [] from
until_none from lines = record { mid = from; on = refl; more = inl refl }

-- with its reply
pub until_line : (from now : Tally) (line : List ℕ) (it : Line) (reply : Reply) → Spells line it → DrewFor from it reply now → DrewUntil from (line ∷ []) (reply ∷ []) now
until_line from now line it reply spelled (keys, many, seals) = record { mid = now; on = (keys, inl (it, spelled, many), now, seals, refl); more = inl refl }

-- outside the grammar
pub until_bad : (here : Tally) (line : List ℕ) → IsBad line → DrewUntil here (line ∷ []) (Bad ∷ []) here
until_bad here line bad = record { mid = here; on = ([], inr (bad, refl), here, record { drew = drew_none here.drawn here.drawn refl; adds = omega arith }, refl); more = inl refl }

-- cut short
may_draw : (from now : Tally) (line : List ℕ) (it : Line) (keys : List (List ℕ)) → Spells line it → ((Draws it → ⊥) → now ≡ from) → DrewAll from.drawn keys now.drawn → (now ≡ from) ⊎ (IsOfDrawn line × (more : List (List ℕ)) × DrewAll from.drawn more now.drawn)
may_draw from now line (Create name count) keys spelled still drew = inr ((Create name count, spelled, tt), keys, drew)
may_draw from now line (Read name block) keys spelled still drew = inl (still (λ draws. draws))
may_draw from now line (Write name block content) keys spelled still drew = inr ((Write name block content, spelled, tt), keys, drew)
may_draw from now line (Trim name block) keys spelled still drew = inl (still (λ draws. draws))
may_draw from now line (Destroy name) keys spelled still drew = inr ((Destroy name, spelled, tt), keys, drew)
may_draw from now line Commit keys spelled still drew = inr ((Commit, spelled, tt), keys, drew)

pub until_cut : (from now : Tally) (line : List ℕ) (it : Line) (keys : List (List ℕ)) → Spells line it → ((Draws it → ⊥) → now ≡ from) → DrewAll from.drawn keys now.drawn → DrewUntil from (line ∷ []) [] now
until_cut from now line it keys spelled still drew = record { mid = from; on = refl; more = may_draw from now line it keys spelled still drew }

-- ---- lines behind others, and more of them

on_behind : (from mid now : Tally) (lines more : List (List ℕ)) (replies others : List Reply) → length replies ≡ length lines → DrewOn from lines replies mid → DrewOn mid more others now → DrewOn from (lines ++ more) (replies ++ others) now
on_behind from mid now [] more [] others same one two = subst (λ (t : Tally). DrewOn t more others now) one two
on_behind from mid now [] more (reply ∷ replies) others same one two = absurd one
on_behind from mid now (line ∷ lines) more [] others same one two = absurd (omega (arith, same))
on_behind from mid now (line ∷ lines) more (reply ∷ replies) others same (keys, at, between, seals, one) two = (keys, at, between, seals, on_behind between mid now lines more replies others (omega (arith, same)) one two)

on_longer : (from now : Tally) (lines more : List (List ℕ)) (replies : List Reply) → DrewOn from lines replies now → DrewOn from (lines ++ more) replies now
on_longer from now lines more [] on = on
on_longer from now [] more (reply ∷ replies) on = absurd on
on_longer from now (line ∷ lines) more (reply ∷ replies) (keys, at, between, seals, on) = (keys, at, between, seals, on_longer between now lines more replies on)

all_on : (from now : Tally) (lines : List (List ℕ)) (replies : List Reply) → length replies ≡ length lines → DrewUntil from lines replies now → DrewOn from lines replies now
all_on from now lines replies same until = elim until.more [
  | inl is ↦ subst (λ (t : Tally). DrewOn from lines replies t) (sym is) until.on
  | inr next ↦ absurd (none_next IsOfDrawn lines replies same next.0)
]

more_behind : (mid now : Tally) (lines more : List (List ℕ)) (replies others : List Reply) → length replies ≡ length lines → (now ≡ mid) ⊎ (IfNext others more IsOfDrawn × (keys : List (List ℕ)) × DrewAll mid.drawn keys now.drawn)
    → (now ≡ mid) ⊎ (IfNext (replies ++ others) (lines ++ more) IsOfDrawn × (keys : List (List ℕ)) × DrewAll mid.drawn keys now.drawn)
more_behind mid now lines more replies others same (inl is) = inl is
more_behind mid now lines more replies others same (inr (next, keys, drew)) = inr (next_behind lines more replies others IsOfDrawn same next, keys, drew)

pub until_then : (from mid now : Tally) (lines more : List (List ℕ)) (replies others : List Reply) → length replies ≡ length lines → DrewUntil from lines replies mid → DrewUntil mid more others now → DrewUntil from (lines ++ more) (replies ++ others) now
until_then from mid now lines more replies others same one two = record {
  mid = two.mid;
  on = on_behind from mid two.mid lines more replies others same (all_on from mid lines replies same one) two.on;
  more = more_behind two.mid now lines more replies others same two.more;
}

more_longer : (mid now : Tally) (lines more : List (List ℕ)) (replies : List Reply) → (now ≡ mid) ⊎ (IfNext replies lines IsOfDrawn × (keys : List (List ℕ)) × DrewAll mid.drawn keys now.drawn)
    → (now ≡ mid) ⊎ (IfNext replies (lines ++ more) IsOfDrawn × (keys : List (List ℕ)) × DrewAll mid.drawn keys now.drawn)
more_longer mid now lines more replies (inl is) = inl is
more_longer mid now lines more replies (inr (next, keys, drew)) = inr (next_longer lines more replies IsOfDrawn next, keys, drew)

pub until_longer : (from now : Tally) (lines more : List (List ℕ)) (replies : List Reply) → DrewUntil from lines replies now → DrewUntil from (lines ++ more) replies now
until_longer from now lines more replies until = record { mid = until.mid; on = on_longer from until.mid lines more replies until.on; more = more_longer until.mid now lines more replies until.more }
