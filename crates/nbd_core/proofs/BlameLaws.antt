-- Whom a request blames that halts a run.
use Rattle.std.proofs.Common.{◌≡◌, ◌≢◌, ◌≤◌, ◌<◌, ◌∙◌, refl, ℕ, Bool, List, Option, None, Some, Result, Ok, Err, [], inl, inr, ap, sym, subst, arith}
use Rattle.std.proofs.lemmas.Bool.{cases_lt}
use Rattle.std.specs.Prelude.{IfErr, IfOk, IfSome}
use Rattle.nbd_lang.specs.declared.requests.Request.{Request}
use Rattle.nbd_lang.specs.declared.requests.RequestKind.{RequestKind}
use Rattle.nbd_lang.specs.declared.requests.RequestKind.TheVariants as kinds
use Rattle.nbd_lang.specs.declared.replies.Outcome.{Outcome}
use Rattle.nbd_lang.specs.declared.replies.Outcome.TheVariants as outcomes
use Rattle.sdbt_base.specs.declared.tapes.Tape.{Ghosts as TapeGhosts}
use Rattle.platform.specs.declared.platforms.Platform.{Ghosts as PlatformGhosts}
use Rattle.session_calls.specs.Commits.{LeftAt}
use Rattle.sdbt_base.specs.Counts.{Counts, NoneFell, OutputRose, counts}
use Rattle.session_calls.specs.Blame.{HasCause, IsOfCall}
use Rattle.session_calls.specs.declared.stops.DeviceStop.{DeviceStop}
use Rattle.session_calls.specs.declared.stops.DeviceStop.TheVariants as device
use Rattle.nbd_core.specs.Halts.{Blames, IsDueTo, OfCommit, commit_halt, commit_outcome, outcome_after}
use Rattle.nbd_core.specs.Stops.{TellsTake}
use Rattle.nbd_core.specs.Requests.{DataEnd}
use Rattle.nbd_core.specs.Turns.{ComesTo, EndsAs, EndsByHead, IsByHead, IsOfBlocks, MayCome, MayHalt}
use Rattle.nbd_core.specs.declared.serving.Performed.{Performed}
use Rattle.device_session.specs.declared.refusals.CommitReply.{CommitReply}
use Rattle.device_session.specs.declared.refusals.CommitReply.TheVariants as replies
use Rattle.nbd_core.specs.declared.stop.Stop.{Stop}
use Rattle.nbd_core.specs.declared.stop.Stop.TheVariants as stops
use Rattle.nbd_core.specs.declared.halts.Halt.{Halt}
use Rattle.nbd_core.specs.declared.halts.Halt.TheVariants as halts

pub none_fell : (counts_now : Counts) → NoneFell counts_now counts_now
none_fell counts_now = record { platform = omega arith; tape = omega arith; input = omega arith; output = omega arith; ledger = omega arith }

-- no count rose
pub same_fell : (before now : Counts) → now ≡ before → NoneFell before now
same_fell before now same = subst (λ (c : Counts). NoneFell before c) (sym same) (none_fell before)

pub blame_done : {X : Type 0} (before now : Counts) (x : X) → now ≡ before → Blames before now (Ok x)
blame_done before now x same = record { fell = same_fell before now same; quiet = same; cause = tt }

-- of a platform, a tape and an input
pub same_blocks : (rest : Counts) (platform platform_now tape tape_now input input_now : ℕ) → platform_now ≡ platform → tape_now ≡ tape → input_now ≡ input
    → record rest { platform = platform_now; tape = tape_now; input = input_now } ≡ record rest { platform = platform; tape = tape; input = input }
same_blocks rest platform platform_now tape tape_now input input_now p t i =
    ap (λ (n : ℕ). record rest { platform = n; tape = tape_now; input = input_now }) p ∙ ap (λ (n : ℕ). record rest { platform = platform; tape = n; input = input_now }) t
    ∙ ap (λ (n : ℕ). record rest { platform = platform; tape = tape; input = n }) i

-- a call that stopped, by what the request comes to
by_stop : (before now : Counts) (stop : DeviceStop) → NoneFell before now → HasCause before now stop → Blames before now (outcome_after stop)
by_stop before now device.Platform fell cause = record { fell = fell; quiet = tt; cause = cause }
by_stop before now device.Tape fell cause = record { fell = fell; quiet = tt; cause = cause }
by_stop before now device.Ledger fell cause = record { fell = fell; quiet = tt; cause = cause }
by_stop before now device.BadRoot fell cause = record { fell = fell; quiet = tt; cause = cause }
by_stop before now (device.BadRecord addr) fell cause = record { fell = fell; quiet = cause; cause = tt }
by_stop before now device.Memory fell cause = record { fell = fell; quiet = cause; cause = tt }

pub blame_stop : (before now : Counts) (stop : DeviceStop) (result : Result Outcome Halt) → NoneFell before now → HasCause before now stop → result ≡ outcome_after stop → Blames before now result
blame_stop before now stop result fell cause is = subst (λ (r : Result Outcome Halt). Blames before now r) (sym is) (by_stop before now stop fell cause)

-- the same among other counts
pub cause_wide : (rest : Counts) (platform platform_now tape tape_now : ℕ) (stop : DeviceStop) → IsOfCall stop → HasCause (counts platform tape 0 0 0) (counts platform_now tape_now 0 0 0) stop
    → HasCause (record rest { platform = platform; tape = tape }) (record rest { platform = platform_now; tape = tape_now }) stop
cause_wide rest platform platform_now tape tape_now device.Platform of (rose, same) = (rose, ap (λ (c : Counts). record rest { platform = platform_now; tape = c.tape }) same)
cause_wide rest platform platform_now tape tape_now device.Tape of (rose, same) = (rose, ap (λ (c : Counts). record rest { platform = c.platform; tape = tape_now }) same)
cause_wide rest platform platform_now tape tape_now device.Ledger of cause = absurd of
cause_wide rest platform platform_now tape tape_now device.BadRoot of cause = absurd of
cause_wide rest platform platform_now tape tape_now (device.BadRecord addr) of same = ap (λ (c : Counts). record rest { platform = c.platform; tape = c.tape }) same
cause_wide rest platform platform_now tape tape_now device.Memory of same = ap (λ (c : Counts). record rest { platform = c.platform; tape = c.tape }) same

-- a call that draws nothing
pub blame_platform : (rest : Counts) (platform platform_now : ℕ) (stop : DeviceStop) (result : Result Outcome Halt) → platform ≤ platform_now → IsOfCall stop → HasCause (counts platform rest.tape 0 0 0) (counts platform_now rest.tape 0 0 0) stop → result ≡ outcome_after stop
    → Blames (record rest { platform = platform }) (record rest { platform = platform_now }) result
blame_platform rest platform platform_now stop result le of cause is =
    blame_stop (record rest { platform = platform }) (record rest { platform = platform_now }) stop result (record { platform = le; tape = omega arith; input = omega arith; output = omega arith; ledger = omega arith })
    (cause_wide rest platform platform_now rest.tape rest.tape stop of cause) is

-- what is let go of an input behind a stop, or not looked at
pub blame_given : (before now : Counts) (input input_now : ℕ) (stop : DeviceStop) (outcome : Outcome) (result : Result Outcome Halt) → outcome_after stop ≡ Ok outcome → HasCause before now stop
    → ((rest : Counts) → Blames (record rest { input = input }) (record rest { input = input_now }) result) → Blames (record before { input = input }) (record now { input = input_now }) result
blame_given before now input input_now device.Platform outcome result is cause blame = absurd cc
blame_given before now input input_now device.Tape outcome result is cause blame = absurd cc
blame_given before now input input_now device.Ledger outcome result is cause blame = absurd cc
blame_given before now input input_now device.BadRoot outcome result is cause blame = absurd cc
blame_given before now input input_now (device.BadRecord addr) outcome result is cause blame = subst (λ (c : Counts). Blames (record before { input = input }) (record c { input = input_now }) result) (sym cause) (blame before)
blame_given before now input input_now device.Memory outcome result is cause blame = subst (λ (c : Counts). Blames (record before { input = input }) (record c { input = input_now }) result) (sym cause) (blame before)

pub blame_halted : (before now : Counts) (input : ℕ) (stop : DeviceStop) (halt : Halt) → IsOfCall stop → outcome_after stop ≡ Err halt → NoneFell before now → HasCause before now stop → Blames {X = Outcome} (record before { input = input }) (record now { input = input }) (Err halt)
blame_halted before now input stop halt of is fell cause =
    blame_stop (record before { input = input }) (record now { input = input }) stop (Err halt) (record { platform = fell.platform; tape = fell.tape; input = omega arith; output = fell.output; ledger = fell.ledger }) (by stop of cause) (sym is)
  where
    by : (s : DeviceStop) → IsOfCall s → HasCause before now s → HasCause (record before { input = input }) (record now { input = input }) s
    by device.Platform of (rose, same) = (rose, ap (λ (c : Counts). record c { input = input }) same)
    by device.Tape of (rose, same) = (rose, ap (λ (c : Counts). record c { input = input }) same)
    by device.Ledger of cause = absurd of
    by device.BadRoot of cause = absurd of
    by (device.BadRecord addr) of same = ap (λ (c : Counts). record c { input = input }) same
    by device.Memory of same = ap (λ (c : Counts). record c { input = input }) same

-- a commit that stopped
pub blame_commit : {X : Type 0} (rest : Counts) (platform platform_now tape tape_now ledger ledger_now : ℕ) (stop : DeviceStop) (halt : Halt) → OfCommit stop → halt ≡ commit_halt stop
    → NoneFell (counts platform tape 0 0 ledger) (counts platform_now tape_now 0 0 ledger_now) → HasCause (counts platform tape 0 0 ledger) (counts platform_now tape_now 0 0 ledger_now) stop
    → Blames {X = X} (record rest { platform = platform; tape = tape; ledger = ledger }) (record rest { platform = platform_now; tape = tape_now; ledger = ledger_now }) (Err halt)
blame_commit {X = X} rest platform platform_now tape tape_now ledger ledger_now stop halt of is fell cause =
    subst (λ (h : Halt). Blames {X = X} (record rest { platform = platform; tape = tape; ledger = ledger }) (record rest { platform = platform_now; tape = tape_now; ledger = ledger_now }) (Err h)) (sym is)
    (record { fell = record { platform = fell.platform; tape = fell.tape; input = omega arith; output = omega arith; ledger = fell.ledger }; quiet = tt; cause = by stop of cause })
  where
    by : (s : DeviceStop) → OfCommit s → HasCause (counts platform tape 0 0 ledger) (counts platform_now tape_now 0 0 ledger_now) s
        → IsDueTo (record rest { platform = platform; tape = tape; ledger = ledger }) (record rest { platform = platform_now; tape = tape_now; ledger = ledger_now }) (commit_halt s)
    by device.Platform of (rose, same) = (rose, ap (λ (c : Counts). record rest { platform = c.platform; tape = c.tape; ledger = c.ledger }) same)
    by device.Tape of (rose, same) = (rose, ap (λ (c : Counts). record rest { platform = c.platform; tape = c.tape; ledger = c.ledger }) same)
    by device.Ledger of (rose, same) = (rose, ap (λ (c : Counts). record rest { platform = c.platform; tape = c.tape; ledger = c.ledger }) same)
    by device.Memory of same = ap (λ (c : Counts). record rest { platform = c.platform; tape = c.tape; ledger = c.ledger }) same
    by device.BadRoot of cause = absurd of
    by (device.BadRecord addr) of cause = absurd of

pub blame_committed : {X : Type 0} (rest : Counts) (platform platform_now tape tape_now ledger ledger_now : ℕ) (x : X) → counts platform_now tape_now 0 0 ledger_now ≡ counts platform tape 0 0 ledger
    → Blames (record rest { platform = platform; tape = tape; ledger = ledger }) (record rest { platform = platform_now; tape = tape_now; ledger = ledger_now }) (Ok x)
blame_committed rest platform platform_now tape tape_now ledger ledger_now x same =
    blame_done (record rest { platform = platform; tape = tape; ledger = ledger }) (record rest { platform = platform_now; tape = tape_now; ledger = ledger_now }) x (ap (λ (c : Counts). record rest { platform = c.platform; tape = c.tape; ledger = c.ledger }) same)

-- ---- at which requests a run halts

-- a call without a tape that stopped, and has no reply, stopped at a fault of the platform
at_platform : (platform platform_now : ℕ) (stop : DeviceStop) → IsOfCall stop → HasCause (counts platform 0 0 0 0) (counts platform_now 0 0 0 0) stop → IfErr (outcome_after stop) (λ halt. halt ≡ halts.Platform)
at_platform platform platform_now device.Platform of cause = refl
at_platform platform platform_now device.Tape of (inl rose, same) = absurd (omega (arith, rose))
at_platform platform platform_now device.Tape of (inr last, same) = absurd (omega (arith, last))
at_platform platform platform_now device.Ledger of cause = absurd of
at_platform platform platform_now device.BadRoot of cause = absurd of
at_platform platform platform_now (device.BadRecord addr) of cause = tt
at_platform platform platform_now device.Memory of cause = tt

pub platform_halts : (platform platform_now : ℕ) (stop : DeviceStop) (result : Result Outcome Halt) → IsOfCall stop → HasCause (counts platform 0 0 0 0) (counts platform_now 0 0 0 0) stop → result ≡ outcome_after stop → IfErr result (λ halt. halt ≡ halts.Platform)
platform_halts platform platform_now stop result of cause is = subst (λ (r : Result Outcome Halt). IfErr r (λ halt. halt ≡ halts.Platform)) (sym is) (at_platform platform platform_now stop of cause)

-- no byte of such a request is behind its head
pub platform_ends : (result : Result Outcome Halt) (left : Option (List ℕ)) (came : List ℕ) → IfErr result (λ halt. halt ≡ halts.Platform) → IfErr result (DataEnd left 0 came)
platform_ends (Ok outcome) left came is = tt
platform_ends (Err halt) left came is = subst (DataEnd left 0 came) (sym is) tt

pub by_head_platform : (kind other : RequestKind) (refused : Option Outcome) (result : Result Outcome Halt) → kind ≡ other → refused ≡ None → IfErr result (λ halt. halt ≡ halts.Platform) → IfOk result (MayCome other) → IsByHead kind refused result
by_head_platform kind other refused (Ok outcome) same none is comes = (subst (λ (r : Option Outcome). IfSome r (λ why. outcome ≡ why)) (sym none) tt, λ not. subst (λ (k : RequestKind). MayCome k outcome) (sym same) comes)
by_head_platform kind other refused (Err halt) same none is comes = subst (MayHalt kind refused) (sym is) none

pub by_head_write : (kind : RequestKind) (refused : Option Outcome) (result : Result Outcome Halt) → kind ≡ kinds.Write → refused ≡ None → EndsAs kinds.Write result → IsByHead kind refused result
by_head_write kind refused (Ok outcome) write none ends = (subst (λ (r : Option Outcome). IfSome r (λ why. outcome ≡ why)) (sym none) tt, λ not. subst (λ (k : RequestKind). MayCome k outcome) (sym write) ends)
by_head_write kind refused (Err halt) write none ends = subst (λ (k : RequestKind). MayHalt k refused halt) (sym write) (subst (λ (r : Option Outcome). MayHalt kinds.Write r halt) (sym none) ends)

pub by_head_refused : (kind : RequestKind) (refused : Option Outcome) (outcome : Outcome) (result : Result Outcome Halt) → refused ≡ Some outcome → IfOk result (λ it. it ≡ outcome) → IfErr result (MayHalt kind refused) → IsByHead kind refused result
by_head_refused kind refused outcome (Ok it) some is halted = (subst (λ (r : Option Outcome). IfSome r (λ why. it ≡ why)) (sym some) is, λ none. absurd cc)
by_head_refused kind refused outcome (Err halt) some is halted = halted

-- a call for a block that stopped, and has a reply
stopped_comes : (kind : RequestKind) (stop : DeviceStop) → IsOfBlocks kind → IfOk (outcome_after stop) (MayCome kind)
stopped_comes kind device.Platform of = tt
stopped_comes kind device.Tape of = tt
stopped_comes kind device.Ledger of = tt
stopped_comes kind device.BadRoot of = tt
stopped_comes kind (device.BadRecord addr) of = of
stopped_comes kind device.Memory of = of

pub stop_comes : (kind : RequestKind) (stop : DeviceStop) (result : Result Outcome Halt) → IsOfBlocks kind → result ≡ outcome_after stop → IfOk result (MayCome kind)
stop_comes kind stop result of is = subst (λ (r : Result Outcome Halt). IfOk r (MayCome kind)) (sym is) (stopped_comes kind stop of)

-- what is let go for an outcome
pub given_ends : (kind : RequestKind) (outcome : Outcome) (result : Result Outcome Halt) → MayCome kind outcome → IfOk result (λ it. it ≡ outcome) → IfErr result (MayHalt kind None) → EndsAs kind result
given_ends kind outcome (Ok it) comes is halted = subst (MayCome kind) (sym is) comes
given_ends kind outcome (Err halt) comes is halted = halted

-- a call for a block that stopped in a write, and has none
-- and one that no want of memory stopped has no reply that says so
pub stop_lacks : (Lacks : Type 0) (stop : DeviceStop) (result : Result Outcome Halt) → stop ≢ device.Memory → result ≡ outcome_after stop → IfOk result (λ outcome. outcome ≡ outcomes.NoMemory → Lacks)
stop_lacks Lacks stop result not is = subst (λ (r : Result Outcome Halt). IfOk r (λ outcome. outcome ≡ outcomes.NoMemory → Lacks)) (sym is) (by stop not)
  where
    by : (s : DeviceStop) → s ≢ device.Memory → IfOk (outcome_after s) (λ outcome. outcome ≡ outcomes.NoMemory → Lacks)
    by device.Memory not = absurd (not refl)
    by (device.BadRecord addr) not = λ same. absurd cc
    by device.Platform not = tt
    by device.Tape not = tt
    by device.Ledger not = tt
    by device.BadRoot not = tt

pub write_halts : (stop : DeviceStop) (halt : Halt) → IsOfCall stop → Err halt ≡ outcome_after stop → MayHalt kinds.Write None halt
write_halts device.Platform halt of is = let same : halt ≡ halts.Platform = cc in subst (MayHalt kinds.Write None) (sym same) refl
write_halts device.Tape halt of is = let same : halt ≡ halts.Tape = cc in subst (MayHalt kinds.Write None) (sym same) (refl, tt)
write_halts device.Ledger halt of is = absurd of
write_halts device.BadRoot halt of is = absurd of
write_halts (device.BadRecord addr) halt of is = absurd cc
write_halts device.Memory halt of is = absurd cc

-- a commit that was answered
commit_may : (reply : CommitReply) → MayCome kinds.Flush (commit_outcome reply)
commit_may (replies.Committed number) = tt
commit_may (replies.Full needed free) = tt

pub commit_comes : (reply : CommitReply) (outcome : Outcome) → outcome ≡ commit_outcome reply → MayCome kinds.Flush outcome
commit_comes reply outcome is = subst (MayCome kinds.Flush) (sym is) (commit_may reply)

pub flush_comes : (kind : RequestKind) (refused : Option Outcome) (result : Result Performed Halt) → kind ≡ kinds.Flush → refused ≡ None → IfOk result (λ done. MayCome kinds.Flush done.outcome) → IfOk result (λ done. ComesTo kind refused done.outcome)
flush_comes kind refused (Ok done) flush none comes = (subst (λ (r : Option Outcome). IfSome r (λ why. done.outcome ≡ why)) (sym none) tt, λ not. subst (λ (k : RequestKind). MayCome k done.outcome) (sym flush) comes)
flush_comes kind refused (Err halt) flush none comes = tt

-- a flush that halted
flush_may : (refused : Option Outcome) (halt : Halt) → refused ≡ None → DataEnd None 0 [] halt → MayHalt kinds.Flush refused halt
flush_may refused (halts.Client stop) none ends = tt
flush_may refused halts.Platform none ends = none
flush_may refused halts.Tape none ends = (none, tt)
flush_may refused halts.Ledger none ends = (none, tt)
flush_may refused halts.Memory none ends = (none, tt)
flush_may refused halts.BadRoot none ends = ends
flush_may refused halts.NoDevice none ends = ends
flush_may refused halts.Unfinished none ends = ends

pub flush_may_halt : {X : Type 0} (kind : RequestKind) (refused : Option Outcome) (result : Result X Halt) → kind ≡ kinds.Flush → refused ≡ None → IfErr result (DataEnd None 0 []) → IfErr result (MayHalt kind refused)
flush_may_halt kind refused (Ok x) flush none ends = tt
flush_may_halt kind refused (Err halt) flush none ends = subst (λ (k : RequestKind). MayHalt k refused halt) (sym flush) (flush_may refused halt none ends)

pub ends_both : (kind : RequestKind) (refused : Option Outcome) (result : Result Performed Halt) → IfOk result (λ done. ComesTo kind refused done.outcome) → IfErr result (MayHalt kind refused) → EndsByHead kind refused result
ends_both kind refused (Ok done) comes halted = comes
ends_both kind refused (Err halt) comes halted = halted

-- ---- a commit

pub commit_halts : (stop : DeviceStop) (halt : Halt) (left : Option (List ℕ)) (came : List ℕ) → OfCommit stop → halt ≡ commit_halt stop → DataEnd left 0 came halt
commit_halts device.Platform halt left came of is = subst (DataEnd left 0 came) (sym is) tt
commit_halts device.Tape halt left came of is = subst (DataEnd left 0 came) (sym is) tt
commit_halts device.Ledger halt left came of is = subst (DataEnd left 0 came) (sym is) tt
commit_halts device.Memory halt left came of is = subst (DataEnd left 0 came) (sym is) tt
commit_halts device.BadRoot halt left came of is = absurd of
commit_halts (device.BadRecord addr) halt left came of is = absurd of

-- a stop that a commit comes to
pub of_commit : {S R : Type 0} (P : PlatformGhosts S) (T : TapeGhosts R) (platform platform_now : S) (tape tape_now : R) (stop : DeviceStop) → LeftAt P T platform platform_now tape tape_now stop → OfCommit stop
of_commit P T platform platform_now tape tape_now device.Platform left = tt
of_commit P T platform platform_now tape tape_now device.Tape left = tt
of_commit P T platform platform_now tape tape_now device.Ledger left = tt
of_commit P T platform platform_now tape tape_now device.Memory left = tt
of_commit P T platform platform_now tape tape_now device.BadRoot left = left
of_commit P T platform platform_now tape tape_now (device.BadRecord addr) left = left

-- ---- the input and the output

-- what takes of the input
pub blame_take : {X : Type 0} (rest : Counts) (input input_now : ℕ) (stop : Stop) → input ≤ input_now → TellsTake {X = Bool} (Err stop) input input_now → Blames {X = X} (record rest { input = input }) (record rest { input = input_now }) (Err (halts.Client stop))
blame_take rest input input_now stops.Source le rose = record { fell = record { platform = omega arith; tape = omega arith; input = le; output = omega arith; ledger = omega arith }; quiet = tt; cause = (rose, refl) }
blame_take rest input input_now stops.Limit le same = record { fell = record { platform = omega arith; tape = omega arith; input = le; output = omega arith; ledger = omega arith }; quiet = tt; cause = ap (λ (n : ℕ). record rest { input = n }) same }
blame_take rest input input_now stops.Broken le same = record { fell = record { platform = omega arith; tape = omega arith; input = le; output = omega arith; ledger = omega arith }; quiet = tt; cause = ap (λ (n : ℕ). record rest { input = n }) same }
blame_take rest input input_now stops.Sink le never = absurd never

-- where the input ended, or sent what is none of a client's words
pub blame_broken : {X : Type 0} (rest : Counts) (input input_now : ℕ) → input_now ≡ input → Blames {X = X} (record rest { input = input }) (record rest { input = input_now }) (Err (halts.Client stops.Broken))
blame_broken rest input input_now same =
    let is : record rest { input = input_now } ≡ record rest { input = input } = ap (λ (n : ℕ). record rest { input = n }) same in
    record { fell = same_fell (record rest { input = input }) (record rest { input = input_now }) is; quiet = tt; cause = is }

pub blame_taken : {X : Type 0} (rest : Counts) (input input_now : ℕ) (x : X) → input_now ≡ input → Blames (record rest { input = input }) (record rest { input = input_now }) (Ok x)
blame_taken rest input input_now x same = blame_done (record rest { input = input }) (record rest { input = input_now }) x (ap (λ (n : ℕ). record rest { input = n }) same)

-- where it ended, with so many bytes before its end that are no request
pub blame_ended : (rest : Counts) (input input_now count : ℕ) (result : Result (Option Request) Halt) → input_now ≡ input → (count ≡ 0 → result ≡ Ok None) → (0 < count → result ≡ Err (halts.Client stops.Broken))
    → Blames (record rest { input = input }) (record rest { input = input_now }) result
blame_ended rest input input_now count result same none broken = elim (cases_lt 0 count) [
  | inl some ↦ subst (λ (r : Result (Option Request) Halt). Blames (record rest { input = input }) (record rest { input = input_now }) r) (sym (broken some)) (blame_broken rest input input_now same)
  | inr few ↦ subst (λ (r : Result (Option Request) Halt). Blames (record rest { input = input }) (record rest { input = input_now }) r) (sym (none (omega (arith, few)))) (blame_taken rest input input_now None same)
]

-- ---- one after another

-- no count rose before
pub blame_then : {X : Type 0} (first before now : Counts) (result : Result X Halt) → before ≡ first → Blames before now result → Blames first now result
blame_then first before now result same blames = subst (λ (c : Counts). Blames c now result) same blames

-- a run that is over says so of what was to come too
pub blame_as : {X Y : Type 0} (before now : Counts) (halt : Halt) → Blames {X = X} before now (Err halt) → Blames {X = Y} before now (Err halt)
blame_as before now halt blames = record { fell = blames.fell; quiet = tt; cause = blames.cause }

pub blame_on : {X Y : Type 0} (before now : Counts) (x : X) (y : Y) → Blames before now (Ok x) → Blames before now (Ok y)
blame_on before now x y blames = record { fell = blames.fell; quiet = blames.quiet; cause = tt }

-- a stop of the output
pub blame_sink : {X : Type 0} (before now : Counts) (stop : Stop) → NoneFell before now → stop ≡ stops.Sink → OutputRose before now → Blames {X = X} before now (Err (halts.Client stop))
blame_sink {X = X} before now stop fell is rose = subst (λ (s : Stop). Blames {X = X} before now (Err (halts.Client s))) (sym is) (record { fell = fell; quiet = tt; cause = rose })
