-- How often lines sync that are handled one after another.
use Rattle.std.proofs.Common.{◌≡◌, ◌≤◌, ◌+◌, ℕ, List, [], ◌∷◌, ◌++◌, length, inl, inr, refl, sym, subst, arith}
use Rattle.sdbt_base.proofs.RiseLaws.{counted_few, counted_not, counted_then}
use Rattle.sdbt_base.specs.Rises.{MayRiseBy}
use Rattle.volume_lines.specs.Grammar.{IsBad, Spells}
use Rattle.volume_lines.specs.Lines.{Line}
use Rattle.volume_lines.specs.Replies.{Reply}
use Rattle.volume_lines.proofs.LineLaws.{one_thing}
use Rattle.volume_desk.specs.Syncs.{changes_for, changes_with}
use Rattle.volume_desk.proofs.SyncLaws.{changed_behind}
use Rattle.volume_serving.specs.Syncing.{AreChanging, ChangesFew}

-- ---- lines behind others, and more of them

record Parted (lines more : List (List ℕ)) (replies others : List Reply) (most : ℕ) : Type 0 where
  pub first : ℕ
  pub second : ℕ
  pub front : AreChanging lines replies first
  pub behind : AreChanging more others second
  pub sum : most ≡ first + second

parted : (lines more : List (List ℕ)) (replies others : List Reply) (most : ℕ) → length replies ≡ length lines → AreChanging (lines ++ more) (replies ++ others) most → Parted lines more replies others most
parted [] more [] others most same h = record { first = 0; second = most; front = refl; behind = h; sum = omega arith }
parted [] more (reply ∷ replies) others most same h = absurd (omega (arith, same))
parted (line ∷ lines) more [] others most same h = absurd (omega (arith, same))
parted (line ∷ lines) more (reply ∷ replies) others most same (inl (bad, rest)) =
    let p = parted lines more replies others most (omega (arith, same)) rest in
    record { first = p.first; second = p.second; front = inl (bad, p.front); behind = p.behind; sum = p.sum }
parted (line ∷ lines) more (reply ∷ replies) others most same (inr (it, spelled, few, rest, is)) =
    let p = parted lines more replies others few (omega (arith, same)) rest in
    let sum = p.sum in
    record { first = changes_with it reply + p.first; second = p.second; front = inr (it, spelled, p.first, p.front, refl); behind = p.behind; sum = omega (arith, is, sum) }

longer : (lines more : List (List ℕ)) (replies : List Reply) (most : ℕ) → AreChanging (lines ++ more) replies most → (few : ℕ) × AreChanging lines replies few × (few ≤ most)
longer [] more replies most h = (0, refl, omega arith)
longer (line ∷ lines) more [] most h = (most, h, omega arith)
longer (line ∷ lines) more (reply ∷ replies) most (inl (bad, rest)) =
    let p = longer lines more replies most rest in
    (p.0, inl (bad, p.1), p.2)
longer (line ∷ lines) more (reply ∷ replies) most (inr (it, spelled, others, rest, is)) =
    let p = longer lines more replies others rest in
    let less = p.2 in
    (changes_with it reply + p.0, inr (it, spelled, p.0, p.1, refl), omega (arith, is, less))

pub few_nothing : (here : ℕ) → ChangesFew here here [] []
few_nothing here most none = counted_not most here here refl

pub few_then : (old mid new : ℕ) (lines more : List (List ℕ)) (replies others : List Reply) → length replies ≡ length lines → ChangesFew old mid lines replies → ChangesFew mid new more others → ChangesFew old new (lines ++ more) (replies ++ others)
few_then old mid new lines more replies others same one two most h =
    let p = parted lines more replies others most same h in
    counted_then p.first p.second most old mid new p.sum (one p.first p.front) (two p.second p.behind)

pub few_longer : (old new : ℕ) (lines more : List (List ℕ)) (replies : List Reply) → ChangesFew old new lines replies → ChangesFew old new (lines ++ more) replies
few_longer old new lines more replies few most h =
    let p = longer lines more replies most h in
    counted_few p.0 most old new p.2 (few p.0 p.1)

-- behind calls that sync nothing
pub few_behind : (old mid new : ℕ) (lines : List (List ℕ)) (replies : List Reply) → mid ≡ old → ChangesFew mid new lines replies → ChangesFew old new lines replies
few_behind old mid new lines replies same few most h = changed_behind most old mid new same (few most h)

-- ---- one line

-- with its reply
pub few_line : (old new : ℕ) (line : List ℕ) (it : Line) (reply : Reply) → Spells line it → MayRiseBy (changes_with it reply) old new → ChangesFew old new (line ∷ []) (reply ∷ [])
few_line old new line it reply spelled may most (inl (bad, rest)) = absurd (bad it spelled)
few_line old new line it reply spelled may most (inr (other, reads, others, none, is)) =
    let same : other ≡ it = one_thing line other it reads spelled in
    let sum : most ≡ changes_with it reply + others = subst (λ (l : Line). most ≡ changes_with l reply + others) same is in
    counted_few (changes_with it reply) most old new (omega (arith, sum)) may

-- cut short
pub few_cut : (old new : ℕ) (line : List ℕ) (it : Line) → Spells line it → MayRiseBy (changes_for it) old new → ChangesFew old new (line ∷ []) []
few_cut old new line it spelled may most (inl (bad, none)) = absurd (bad it spelled)
few_cut old new line it spelled may most (inr (other, reads, is)) =
    let same : other ≡ it = one_thing line other it reads spelled in
    subst (λ (n : ℕ). MayRiseBy n old new) (sym (subst (λ (l : Line). most ≡ changes_for l) same is)) may

-- outside the grammar
pub few_bad : (here : ℕ) (line : List ℕ) (replies : List Reply) → ChangesFew here here (line ∷ []) replies
few_bad here line replies most h = counted_not most here here refl
