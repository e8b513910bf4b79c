-- How what lines read adds up.
use Rattle.std.proofs.Common.{◌≡◌, ℕ, zero, suc, length, ◌+◌, ◌*◌, ◌<◌, ◌≤◌, ◌==◌, List, [], ◌∷◌, ◌++◌, Option, None, Some, Result, Ok, Err, inl, inr, refl, sym, subst, arith, eqb-true}
use Rattle.std.specs.Prelude.{IfSome, drop, slice_get}
use Rattle.std.specs.Result.{result_ok}
use Rattle.std.proofs.lemmas.Bool.{cases_Bool}
use Rattle.sdbt_base.specs.Rises.{MayRiseBy}
use Rattle.platform.specs.declared.platforms.Platform.{Ghosts}
use Rattle.device_session.specs.Open.{IsOpen, blocks_of}
use Rattle.device_session.specs.Reading.{KeepsWayTo, room_of}
use Rattle.session_calls.specs.Goes.{ReadsPages}
use Rattle.session_calls.specs.declared.stops.DeviceStop.{DeviceStop}
use Rattle.session_calls.specs.declared.stops.DeviceStop.TheVariants as stops
use Rattle.script_lang.specs.Commands.{Command, Format, Mount, Read, Write, Trim, Commit, Drop, Erase, Upgrade, Stat, Seize}
use Rattle.script_lang.specs.Grammar.{Spells, IsBad}
use Rattle.script_lang.specs.Replies.{Reply, is_refusal, said}
use Rattle.script_lang.specs.declared.replies.Reply.{Reply as Given}
use Rattle.script_lang.proofs.CommandLaws.{one_command}
use Rattle.device_session.specs.Sessions.{Session}
use Rattle.device_cli.specs.Replied.{outcome}
use Rattle.device_cli.specs.World.{World}
use Rattle.device_cli.specs.Looks.{IsBounded, IsWarmFor, AreBounded, AreChanging, ChangesFew, ReadsOn, LooksOn, block_read, changes_stopped, changes_told, is_refused, most_changes, most_for, most_reads, most_told, reads_refused}

-- replies behind the first one, and so many more
drop_next : {X : Type 0} (n : ℕ) (xs : List X) → drop n (drop 1 xs) ≡ drop (suc n) xs
drop_next zero [] = refl
drop_next (suc n) [] = refl
drop_next n (x ∷ xs) = refl

-- lines that have a bound are such lines and then others
record Parted (before : Option ℕ) (lines more : List (List ℕ)) (replies : List Reply) (most : ℕ) (after : Option ℕ) : Type 0 where
  pub between : Option ℕ
  pub first : ℕ
  pub second : ℕ
  pub front : AreBounded before lines replies first between
  pub behind : AreBounded between more (drop (length lines) replies) second after
  pub sum : most ≡ first + second

parted : (before after : Option ℕ) (lines more : List (List ℕ)) (replies : List Reply) (most : ℕ) → AreBounded before (lines ++ more) replies most after → Parted before lines more replies most after
parted before after [] more replies most h = record { between = before; first = 0; second = most; front = (refl, refl); behind = h; sum = omega arith }
parted before after (line ∷ lines) more replies most (inl (bad, rest)) =
    let p = parted before after lines more (drop 1 replies) most rest in
    record {
      between = p.between;
      first = p.first;
      second = p.second;
      front = inl (bad, p.front);
      behind = subst (λ (rs : List Reply). AreBounded p.between more rs p.second after) (drop_next (length lines) replies) p.behind;
      sum = p.sum;
    }
parted before after (line ∷ lines) more replies most (inr (command, spells, look, others, rest, is)) =
    let p = parted (block_read command) after lines more (drop 1 replies) others rest in
    record {
      between = p.between;
      first = most_told before command (slice_get replies 0) + p.first;
      second = p.second;
      front = inr (command, spells, look, p.first, p.front, refl);
      behind = subst (λ (rs : List Reply). AreBounded p.between more rs p.second after) (drop_next (length lines) replies) p.behind;
      sum = omega (arith, is, p.sum);
    }

-- as many replies as lines, of more
fronted : (before after : Option ℕ) (lines : List (List ℕ)) (replies others : List Reply) (most : ℕ) → length replies ≡ length lines → AreBounded before lines (replies ++ others) most after → AreBounded before lines replies most after
fronted before after [] replies others most same h = h
fronted before after (line ∷ lines) [] others most same h = absurd (omega (arith, same))
fronted before after (line ∷ lines) (reply ∷ replies) others most same (inl (bad, rest)) = inl (bad, fronted before after lines replies others most (omega (arith, same)) rest)
fronted before after (line ∷ lines) (reply ∷ replies) others most same (inr (command, spells, look, few, rest, is)) =
    inr (command, spells, look, few, fronted (block_read command) after lines replies others few (omega (arith, same)) rest, is)

dropped : (n : ℕ) (replies others : List Reply) → length replies ≡ n → drop n (replies ++ others) ≡ others
dropped zero [] others same = refl
dropped zero (reply ∷ replies) others same = absurd (omega (arith, same))
dropped (suc n) [] others same = absurd (omega (arith, same))
dropped (suc n) (reply ∷ replies) others same = dropped n replies others (omega (arith, same))

-- what happens to a count for lines, and then for others
record Changing (lines more : List (List ℕ)) (replies : List Reply) (most : ℕ) : Type 0 where
  pub first : ℕ
  pub second : ℕ
  pub front : AreChanging lines replies first
  pub behind : AreChanging more (drop (length lines) replies) second
  pub sum : most ≡ first + second

changing : (lines more : List (List ℕ)) (replies : List Reply) (most : ℕ) → AreChanging (lines ++ more) replies most → Changing lines more replies most
changing [] more replies most h = record { first = 0; second = most; front = refl; behind = h; sum = omega arith }
changing (line ∷ lines) more replies most (inl (bad, rest)) =
    let p = changing lines more (drop 1 replies) most rest in
    record { first = p.first; second = p.second; front = inl (bad, p.front); behind = subst (λ (rs : List Reply). AreChanging more rs p.second) (drop_next (length lines) replies) p.behind; sum = p.sum }
changing (line ∷ lines) more replies most (inr (command, spells, others, rest, is)) =
    let p = changing lines more (drop 1 replies) others rest in
    record {
      first = changes_told command (slice_get replies 0) + p.first;
      second = p.second;
      front = inr (command, spells, p.first, p.front, refl);
      behind = subst (λ (rs : List Reply). AreChanging more rs p.second) (drop_next (length lines) replies) p.behind;
      sum = omega (arith, is, p.sum);
    }

-- as many replies as lines, of more
fronted_changing : (lines : List (List ℕ)) (replies others : List Reply) (most : ℕ) → length replies ≡ length lines → AreChanging lines (replies ++ others) most → AreChanging lines replies most
fronted_changing [] replies others most same h = h
fronted_changing (line ∷ lines) [] others most same h = absurd (omega (arith, same))
fronted_changing (line ∷ lines) (reply ∷ replies) others most same (inl (bad, rest)) = inl (bad, fronted_changing lines replies others most (omega (arith, same)) rest)
fronted_changing (line ∷ lines) (reply ∷ replies) others most same (inr (command, spells, few, rest, is)) =
    inr (command, spells, few, fronted_changing lines replies others few (omega (arith, same)) rest, is)

pub changed_not : (most old new : ℕ) → new ≡ old → MayRiseBy most old new
changed_not most old new same = record { rises = omega (arith, same); at_most = omega (arith, same) }

changed_then : (first second most old mid new : ℕ) → most ≡ first + second → MayRiseBy first old mid → MayRiseBy second mid new → MayRiseBy most old new
changed_then first second most old mid new sum a b = record { rises = omega (arith, a.rises, b.rises); at_most = omega (arith, a.at_most, b.at_most, sum) }

-- no line
pub looks_idle : (tells : Type 0) (old new : World) (Done : Type 0) → new.session ≡ old.session → (tells → (new.reads ≤ old.reads) × (new.changes ≡ old.changes)) → LooksOn tells old new [] [] Done
looks_idle tells old new Done held same told = (
  λ most none. changed_not most old.changes new.changes (same told).1,
  λ before after most warm none. (omega (arith, (same told).0, none.0), λ done. subst (λ (block : Option ℕ). IsWarmFor new.session block) (sym none.1) (subst (λ (session : Option Session). IsWarmFor session before) (sym held) warm)),
)

-- no line, before a stop
pub looks_none : (tells : Type 0) (old new : World) (Done : Type 0) → (Done → ⊥) → (tells → (new.reads ≤ old.reads) × (new.changes ≡ old.changes)) → LooksOn tells old new [] [] Done
looks_none tells old new Done never same told = (
  λ most none. changed_not most old.changes new.changes (same told).1,
  λ before after most warm none. (omega (arith, (same told).0, none.0), λ done. absurd (never done)),
)

-- lines that have their replies, and then others
pub looks_then : (tells : Type 0) (old mid new : World) (lines more : List (List ℕ)) (replies others : List Reply) (Was Done : Type 0) → length replies ≡ length lines → Was
    → LooksOn tells old mid lines replies Was → LooksOn tells mid new more others Done → LooksOn tells old new (lines ++ more) (replies ++ others) Done
looks_then tells old mid new lines more replies others Was Done same was p q told = (
  λ most h.
      let parts = changing lines more (replies ++ others) most h in
      changed_then parts.first parts.second most old.changes mid.changes new.changes parts.sum ((p told).0 parts.first (fronted_changing lines replies others parts.first same parts.front))
      ((q told).0 parts.second (subst (λ (rs : List Reply). AreChanging more rs parts.second) (dropped (length lines) replies others same) parts.behind)),
  λ before after most warm h.
      let parts = parted before after lines more (replies ++ others) most h in
      let one = (p told).1 before parts.between parts.first warm (fronted before parts.between lines replies others parts.first same parts.front) in
      let two = (q told).1 parts.between after parts.second (one.1 was) (subst (λ (rs : List Reply). AreBounded parts.between more rs parts.second after) (dropped (length lines) replies others same) parts.behind) in
      (omega (arith, one.0, two.0, parts.sum), two.1),
)

-- lines of which the last ones weren't served
pub looks_longer : (tells : Type 0) (old new : World) (lines more : List (List ℕ)) (replies : List Reply) (Was Done : Type 0) → (Done → ⊥) → LooksOn tells old new lines replies Was → LooksOn tells old new (lines ++ more) replies Done
looks_longer tells old new lines more replies Was Done never p told = (
  λ most h.
      let parts = changing lines more replies most h in
      changed_then parts.first parts.second most old.changes new.changes new.changes parts.sum ((p told).0 parts.first parts.front) (changed_not parts.second new.changes new.changes refl),
  λ before after most warm h.
      let parts = parted before after lines more replies most h in
      let one = (p told).1 before parts.between parts.first warm parts.front in
      (omega (arith, one.0, parts.sum), λ done. absurd (never done)),
)

pub looks_weaker : (tells : Type 0) (old new : World) (lines : List (List ℕ)) (replies : List Reply) (Was Done : Type 0) → (Done → Was) → LooksOn tells old new lines replies Was → LooksOn tells old new lines replies Done
looks_weaker tells old new lines replies Was Done leads p told =
    ((p told).0, λ before after most warm h. let one = (p told).1 before after most warm h in (one.0, λ done. one.1 (leads done)))

-- a line that spells a command
reads_line : (old new : World) (line : List ℕ) (replies : List Reply) (command : Command) (Done : Type 0) → Spells line command
    → ((before : Option ℕ) → IsWarmFor old.session before → IsBounded command → (new.reads ≤ old.reads + most_told before command (slice_get replies 0)) × (Done → IsWarmFor new.session (block_read command)))
    → ReadsOn old new (line ∷ []) replies Done
reads_line old new line replies command Done spells looks before after most warm (inl (bad, rest)) = absurd (bad command spells)
reads_line old new line replies command Done spells looks before after most warm (inr (other, reads, look, others, (none, last), is)) =
    let same : other ≡ command = one_command line other command reads spells in
    let here = looks before warm (subst IsBounded same look) in
    let few : most ≡ most_told before command (slice_get replies 0) + others = subst (λ (c : Command). most ≡ most_told before c (slice_get replies 0) + others) same is in
    let block : after ≡ block_read command = subst (λ (c : Command). after ≡ block_read c) same last in
    (omega (arith, here.0, few, none), λ done. subst (λ (b : Option ℕ). IsWarmFor new.session b) (sym block) (here.1 done))

changes_line : (old new : World) (line : List ℕ) (replies : List Reply) (command : Command) → Spells line command → MayRiseBy (changes_told command (slice_get replies 0)) old.changes new.changes → ChangesFew old new (line ∷ []) replies
changes_line old new line replies command spells few most (inl (bad, rest)) = absurd (bad command spells)
changes_line old new line replies command spells few most (inr (other, reads, others, none, is)) =
    let same : other ≡ command = one_command line other command reads spells in
    let sum : most ≡ changes_told command (slice_get replies 0) + others = subst (λ (c : Command). most ≡ changes_told c (slice_get replies 0) + others) same is in
    record { rises = few.rises; at_most = omega (arith, few.at_most, sum) }

pub looks_line : (tells : Type 0) (old new : World) (line : List ℕ) (replies : List Reply) (command : Command) (Done : Type 0) → Spells line command → (tells → MayRiseBy (changes_told command (slice_get replies 0)) old.changes new.changes)
    → (tells → (before : Option ℕ) → IsWarmFor old.session before → IsBounded command → (new.reads ≤ old.reads + most_told before command (slice_get replies 0)) × (Done → IsWarmFor new.session (block_read command)))
    → LooksOn tells old new (line ∷ []) replies Done
looks_line tells old new line replies command Done spells few looks told = (changes_line old new line replies command spells (few told), reads_line old new line replies command Done spells (looks told))

-- a line outside the grammar
reads_bad : (old new : World) (line : List ℕ) (replies : List Reply) (Done : Type 0) → IsBad line → new.session ≡ old.session → new.reads ≤ old.reads → ReadsOn old new (line ∷ []) replies Done
reads_bad old new line replies Done bad held same before after most warm (inl (spelled, (none, is))) =
    (omega (arith, same, none), λ done. subst (λ (block : Option ℕ). IsWarmFor new.session block) (sym is) (subst (λ (session : Option Session). IsWarmFor session before) (sym held) warm))
reads_bad old new line replies Done bad held same before after most warm (inr (other, reads, look, others, rest, is)) = absurd (bad other reads)

pub looks_bad : (tells : Type 0) (old new : World) (line : List ℕ) (replies : List Reply) (Done : Type 0) → IsBad line → new.session ≡ old.session → (tells → (new.reads ≤ old.reads) × (new.changes ≡ old.changes)) → LooksOn tells old new (line ∷ []) replies Done
looks_bad tells old new line replies Done bad held same told =
    (λ most h. changed_not most old.changes new.changes (same told).1, reads_bad old new line replies Done bad held (same told).0)

-- no more for a reply than for none
refused_most : (before : Option ℕ) (command : Command) → reads_refused command ≤ most_reads before command
refused_most before (Format blocks order) = omega arith
refused_most before Mount = omega arith
refused_most before (Read block) = omega arith
refused_most before (Write block content) = omega arith
refused_most before (Trim block) = omega arith
refused_most before Commit = omega arith
refused_most before Drop = omega arith
refused_most before Erase = omega arith
refused_most before Upgrade = omega arith
refused_most before Stat = omega arith
refused_most before Seize = omega arith

told_most : (before : Option ℕ) (command : Command) (reply : Reply) → most_told before command (Some reply) ≤ most_reads before command
told_most before command reply = elim (cases_Bool (is_refused reply)) [ inl refused ↦ rw refused (refused_most before command) | inr served ↦ rw served (omega arith) ]

-- what is enough for a command that is refused is enough for it with any reply
pub refused_told : (before : Option ℕ) (command : Command) (reply : Reply) → reads_refused command ≤ most_told before command (Some reply)
refused_told before command reply = elim (cases_Bool (is_refused reply)) [ inl refused ↦ rw refused (omega arith) | inr served ↦ rw served (refused_most before command) ]

-- a line whose reply was not put whole
reads_cut : (old new : World) (line : List ℕ) (reply : Reply) (Was Done : Type 0) → (Done → ⊥) → ReadsOn old new (line ∷ []) (reply ∷ []) Was → ReadsOn old new (line ∷ []) [] Done
reads_cut old new line reply Was Done never p before after most warm (inl (bad, rest)) = ((p before after most warm (inl (bad, rest))).0, λ done. absurd (never done))
reads_cut old new line reply Was Done never p before after most warm (inr (command, spells, look, others, rest, is)) =
    let here = p before after (most_told before command (Some reply) + others) warm (inr (command, spells, look, others, rest, refl)) in
    (omega (arith, here.0, is, told_most before command reply), λ done. absurd (never done))

told_changes : (command : Command) (reply : Reply) → changes_told command (Some reply) ≤ most_changes command
told_changes command reply = elim (cases_Bool (is_refusal reply)) [ inl refused ↦ rw refused (omega arith) | inr served ↦ rw served (omega arith) ]

changes_cut : (old new : World) (line : List ℕ) (reply : Reply) → ChangesFew old new (line ∷ []) (reply ∷ []) → ChangesFew old new (line ∷ []) []
changes_cut old new line reply p most (inl (bad, rest)) = p most (inl (bad, rest))
changes_cut old new line reply p most (inr (command, spells, others, rest, is)) =
    let here = p (changes_told command (Some reply) + others) (inr (command, spells, others, rest, refl)) in
    record { rises = here.rises; at_most = let few = here.at_most in omega (arith, few, is, told_changes command reply) }

-- where a line stops the run it happens no oftener than for any reply
pub changes_most : (command : Command) (stop : DeviceStop) (old new : ℕ) → MayRiseBy (changes_stopped command stop) old new → MayRiseBy (most_changes command) old new
changes_most command stops.Platform old new few = few
changes_most command stops.Ledger old new few = record { rises = few.rises; at_most = let most = few.at_most in omega (arith, most) }
changes_most command stops.Tape old new few = record { rises = few.rises; at_most = let most = few.at_most in omega (arith, most) }
changes_most command stops.Memory old new few = record { rises = few.rises; at_most = let most = few.at_most in omega (arith, most) }
changes_most command stops.BadRoot old new few = record { rises = few.rises; at_most = let most = few.at_most in omega (arith, most) }
changes_most command (stops.BadRecord addr) old new few = record { rises = few.rises; at_most = let most = few.at_most in omega (arith, most) }

pub looks_cut : (tells : Type 0) (old new : World) (line : List ℕ) (reply : Reply) (Was Done : Type 0) → (Done → ⊥) → LooksOn tells old new (line ∷ []) (reply ∷ []) Was → LooksOn tells old new (line ∷ []) [] Done
looks_cut tells old new line reply Was Done never p told = (changes_cut old new line reply (p told).0, reads_cut old new line reply Was Done never (p told).1)

-- ---- one command

-- a session with room for a node of each level has it whatever block was read before
pub warm_less : (session : Option Session) (before : Option ℕ) → IsWarmFor session before → IsWarmFor session None
warm_less None before warm = tt
warm_less (Some session) None warm = warm
warm_less (Some session) (Some block) warm = warm.0

pub has_room : (session : Session) (before : Option ℕ) → IsWarmFor (Some session) before → 20 ≤ room_of session
has_room session None warm = warm
has_room session (Some block) warm = warm.0

-- what a read costs behind another one
pub read_cost : {S : Type 0} (P : Ghosts S) (block : ℕ) (platform after : S) (session now : Session) (result : Result (Unit {0}) DeviceStop) (before : Option ℕ) → P.tells → session.grove.level ≤ 20
    → block < blocks_of session → IsWarmFor (Some session) before → ReadsPages P block platform after session now result → P.reads after ≤ P.reads platform + most_for before block
read_cost P block platform after session now result None tells low within warm few = omega (arith, few.most tells, low)
read_cost P block platform after session now result (Some other) tells low within warm few =
    elim (cases_Bool (other == block)) [
      | inl same ↦ rw same (again (eqb-true other block same))
      | inr apart ↦ rw apart (omega (arith, few.most tells, low))
    ]
  where
    again : other ≡ block → P.reads after ≤ P.reads platform + 1
    again is = few.warm tells (subst (λ (b : ℕ). KeepsWayTo session b) is (warm.1 (omega (arith, is, within))))

-- and what it leaves
pub warm_after : {S : Type 0} (P : Ghosts S) (block : ℕ) (platform after : S) (session now : Session) (before : Option ℕ) → P.tells → now.grove.level ≤ 20
    → IsWarmFor (Some session) before → room_of now ≡ room_of session → ReadsPages P block platform after session now (Ok tt) → IsWarmFor (Some now) (Some block)
warm_after P block platform after session now before tells low warm same few =
    let room : 20 ≤ room_of now = omega (arith, same, has_room session before warm) in
    (room, λ within. few.fills tells (omega (arith, room, low)))

-- a session that is there, and has room for a node of each level
pub open_there : (held : Option Session) (session : Session) (head : ℕ) → held ≡ Some session → IfSome held (λ s. IsOpen s head) → session.grove.level ≤ 20
open_there held session head is open' = (subst (λ (h : Option Session). IfSome h (λ s. IsOpen s head)) is open').level

pub warm_there : (held : Option Session) (session : Session) (before : Option ℕ) → held ≡ Some session → IsWarmFor held before → IsWarmFor (Some session) before
warm_there held session before is warm = subst (λ (h : Option Session). IsWarmFor h before) is warm

-- a command that is refused before the session is asked leaves it as warm
pub still_warm : (held : Option Session) (session : Session) (before : Option ℕ) → held ≡ Some session → IsWarmFor held before → 20 ≤ room_of session
still_warm held session before is warm = has_room session before (warm_there held session before is warm)

-- what an update costs, and that it leaves the cache its room
pub update_cost : (held : Option Session) (session now : Session) (head reads reads_now : ℕ) (before : Option ℕ) → held ≡ Some session → IfSome held (λ s. IsOpen s head) → IsWarmFor held before
    → room_of now ≡ room_of session → reads_now ≤ reads + 2 * session.grove.level → (reads_now ≤ reads + 40) × IsWarmFor (Some now) None
update_cost held session now head reads reads_now before is open' warm same few =
    let low = open_there held session head is open' in
    (omega (arith, few, low), omega (arith, same, still_warm held session before is warm))

-- a look is enough for a `format`, whatever it comes to
pub format_told : (blocks order : ℕ) (before : Option ℕ) (result : Result Given DeviceStop) (buffer : List ℕ) (reads reads_now : ℕ) → reads_now ≤ reads + 1
    → reads_now ≤ reads + most_told before (Format blocks order) (result_ok (outcome result buffer))
format_told blocks order before (Ok reply) buffer reads reads_now few = omega (arith, few, refused_told before (Format blocks order) (said reply buffer))
format_told blocks order before (Err stop) buffer reads reads_now few = few
