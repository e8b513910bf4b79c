-- Which record a halt names.
use Rattle.std.proofs.Common.{◌≡◌, ◌≢◌, ◌<◌, ◌∙◌, ℕ, List, Option, Result, Ok, Err, inl, inr, refl, sym, ap, subst, arith}
use Rattle.std.specs.Prelude.{IfErr}
use Rattle.std.specs.Result.{IsErrAnd}
use Rattle.std.proofs.lemmas.Result.{err_from_is_err_and}
use Rattle.platform.specs.Image.{Image}
use Rattle.platform.specs.declared.platforms.Platform.{Ghosts as PlatformGhosts}
use Rattle.sdbt_base.specs.declared.tapes.Tape.{Ghosts as TapeGhosts}
use Rattle.device_session.specs.Sessions.{Session}
use Rattle.device_session.specs.declared.refusals.CommitReply.{CommitReply}
use Rattle.device_session.specs.declared.refusals.CommitReply.TheVariants as replies
use Rattle.session_calls.specs.Commits.{LeftAt}
use Rattle.session_calls.specs.Damage.{ReadsAny, WritesAny}
use Rattle.session_calls.specs.Goes.{AddsBlock}
use Rattle.session_calls.specs.Mounts.{IsMountStop}
use Rattle.session_calls.specs.declared.stops.DeviceStop.{DeviceStop}
use Rattle.session_calls.specs.declared.stops.DeviceStop.TheVariants as stops
use Rattle.session_calls.proofs.NodeLaws.{wrong_page}
use Rattle.transfer.specs.Counts.{Counts}
use Rattle.transfer.specs.Halts.{Blames}
use Rattle.transfer.specs.Listing.{IsListStop}
use Rattle.transfer.specs.Running.{HaltsFrom, HaltsTo, IsBehindBoth, IsBehindMount, IsNumberOf, IsOfCommit, IsOfOpening, IsWrongThere, MeetsWrong, WantsNoMemory}
use Rattle.transfer.specs.declared.halts.Halt.{Halt}
use Rattle.transfer.specs.declared.halts.Halt.TheVariants as halts
use Rattle.transfer.proofs.BlameLaws.{blames_done, blames_halt}

-- a read
pub read_from : (tells Mounted : Type 0) (mounted : tells → Mounted) (image after : Image) (session : Session) (block : ℕ) (bytes : List ℕ) (stop : DeviceStop) → ReadsAny (tells × Mounted) image after session block bytes (Err stop) → HaltsFrom tells after (halts.From stop)
read_from tells Mounted mounted image after session block bytes stops.Platform any = tt
read_from tells Mounted mounted image after session block bytes stops.Memory any = absurd any
read_from tells Mounted mounted image after session block bytes stops.Tape any = absurd any
read_from tells Mounted mounted image after session block bytes stops.Ledger any = absurd any
read_from tells Mounted mounted image after session block bytes stops.BadRoot any = absurd any
read_from tells Mounted mounted image after session block bytes (stops.BadRecord addr) any = λ told. inr (any (told, mounted told))

pub read_to : (tells Mounted : Type 0) (mounted : tells → Mounted) (image after : Image) (session : Session) (block : ℕ) (bytes : List ℕ) (stop : DeviceStop) → ReadsAny (tells × Mounted) image after session block bytes (Err stop) → HaltsTo tells (Unit {0}) ⊥ after (halts.To stop)
read_to tells Mounted mounted image after session block bytes stops.Platform any = tt
read_to tells Mounted mounted image after session block bytes stops.Memory any = absurd any
read_to tells Mounted mounted image after session block bytes stops.Tape any = absurd any
read_to tells Mounted mounted image after session block bytes stops.Ledger any = absurd any
read_to tells Mounted mounted image after session block bytes stops.BadRoot any = absurd any
read_to tells Mounted mounted image after session block bytes (stops.BadRecord addr) any = λ told. inr (inr (any (told, mounted told), tt))

-- a stop that isn't for want of memory
pub memory_from : (stop : DeviceStop) → stop ≢ stops.Memory → WantsNoMemory (halts.From stop)
memory_from stop other = (λ is. other (let same : halts.From stop ≡ halts.From stops.Memory = is in cc), λ is. absurd cc)

pub memory_to : (stop : DeviceStop) → stop ≢ stops.Memory → WantsNoMemory (halts.To stop)
memory_to stop other = (λ is. absurd cc, λ is. other (let same : halts.To stop ≡ halts.To stops.Memory = is in cc))

pub no_memory : (result : Result (Unit {0}) Halt) (halt : Halt) → WantsNoMemory halt → result ≡ Err halt → result ≡ Err (halts.To stops.Memory) → ⊥
no_memory result halt wants is memory = wants.1 (let same : halt ≡ halts.To stops.Memory = cc in same)

-- a write
pub write_to : (tells Mounted : Type 0) (mounted : tells → Mounted) (image after : Image) (session : Session) (block : ℕ) (stop : DeviceStop) → WritesAny (tells × Mounted) image after session block (Err stop) → HaltsTo tells ⊥ (Unit {0}) after (halts.To stop)
write_to tells Mounted mounted image after session block stops.Platform any = tt
write_to tells Mounted mounted image after session block stops.Memory any = tt
write_to tells Mounted mounted image after session block stops.Tape any = tt
write_to tells Mounted mounted image after session block stops.Ledger any = absurd any
write_to tells Mounted mounted image after session block stops.BadRoot any = absurd any
write_to tells Mounted mounted image after session block (stops.BadRecord addr) any = λ told. inr (inl (wrong_page (any (told, mounted told)), tt))

-- which wants memory only where a page is free
pub write_room : {S R : Type 0} (P : PlatformGhosts S) (T : TapeGhosts R) (platform platform_now : S) (tape tape_now : R) (stop : DeviceStop) → AddsBlock P T platform platform_now tape tape_now (Err stop) → P.head platform < P.capacity platform
    → P.capacity platform_now ≡ P.capacity platform → stop ≡ stops.Memory → P.head platform_now < P.capacity platform_now
write_room P T platform platform_now tape tape_now stops.Memory adds free same is = omega (arith, adds.head, free, same)
write_room P T platform platform_now tape tape_now stops.Platform adds free same is = absurd cc
write_room P T platform platform_now tape tape_now stops.Tape adds free same is = absurd cc
write_room P T platform platform_now tape tape_now stops.Ledger adds free same is = absurd cc
write_room P T platform platform_now tape tape_now stops.BadRoot adds free same is = absurd cc
write_room P T platform platform_now tape tape_now (stops.BadRecord addr) adds free same is = absurd cc

-- a listing
pub list_from : (tells Mounted : Type 0) (mounted : tells → Mounted) (image : Image) (stop : DeviceStop) → IsListStop (tells × Mounted) image stop → HaltsFrom tells image (halts.From stop)
list_from tells Mounted mounted image stops.Platform is = tt
list_from tells Mounted mounted image stops.Memory is = tt
list_from tells Mounted mounted image stops.Tape is = absurd is
list_from tells Mounted mounted image stops.Ledger is = absurd is
list_from tells Mounted mounted image stops.BadRoot is = absurd is
list_from tells Mounted mounted image (stops.BadRecord addr) is = λ told. inl (is (told, mounted told))

pub list_to : (tells Mounted : Type 0) (mounted : tells → Mounted) (image : Image) (stop : DeviceStop) → IsListStop (tells × Mounted) image stop → HaltsTo tells ⊥ ⊥ image (halts.To stop)
list_to tells Mounted mounted image stops.Platform is = tt
list_to tells Mounted mounted image stops.Memory is = tt
list_to tells Mounted mounted image stops.Tape is = absurd is
list_to tells Mounted mounted image stops.Ledger is = absurd is
list_to tells Mounted mounted image stops.BadRoot is = absurd is
list_to tells Mounted mounted image (stops.BadRecord addr) is = λ told. inl (is (told, mounted told))

-- a mount, and a commit
pub mount_to : (tells : Type 0) (cell : Option (List ℕ)) (pages : ℕ) (stop : DeviceStop) → IsMountStop tells cell pages stop → IsOfOpening (halts.To stop)
mount_to tells cell pages stops.Platform is = tt
mount_to tells cell pages stops.Memory is = tt
mount_to tells cell pages stops.BadRoot is = tt
mount_to tells cell pages stops.Tape is = tt
mount_to tells cell pages stops.Ledger is = tt
mount_to tells cell pages (stops.BadRecord addr) is = absurd is

pub mount_from : (from_tells to_tells Compared Written : Type 0) (from to : Image) (tells : Type 0) (cell : Option (List ℕ)) (pages : ℕ) (stop : DeviceStop) → IsMountStop tells cell pages stop → MeetsWrong from_tells to_tells Compared Written from to (halts.From stop)
mount_from from_tells to_tells Compared Written from to tells cell pages stops.Platform is = tt
mount_from from_tells to_tells Compared Written from to tells cell pages stops.Memory is = tt
mount_from from_tells to_tells Compared Written from to tells cell pages stops.BadRoot is = tt
mount_from from_tells to_tells Compared Written from to tells cell pages stops.Tape is = tt
mount_from from_tells to_tells Compared Written from to tells cell pages stops.Ledger is = tt
mount_from from_tells to_tells Compared Written from to tells cell pages (stops.BadRecord addr) is = absurd is

pub commit_to : {S R : Type 0} (P : PlatformGhosts S) (T : TapeGhosts R) (platform platform_now : S) (tape tape_now : R) (stop : DeviceStop) → LeftAt P T platform platform_now tape tape_now stop → IsOfCommit (halts.To stop)
commit_to P T platform platform_now tape tape_now stops.Platform left = tt
commit_to P T platform platform_now tape tape_now stops.Memory left = tt
commit_to P T platform platform_now tape tape_now stops.BadRoot left = absurd left
commit_to P T platform platform_now tape tape_now stops.Tape left = tt
commit_to P T platform platform_now tape tape_now stops.Ledger left = tt
commit_to P T platform platform_now tape tape_now (stops.BadRecord addr) left = absurd left

pub number_commit : (reply : CommitReply) (result : Result ℕ Halt) → IsNumberOf reply result → IfErr result IsOfCommit
number_commit (replies.Committed number) result is = subst (λ (r : Result ℕ Halt). IfErr r IsOfCommit) (sym is) tt
number_commit (replies.Full needed free) result is = subst (λ (r : Result ℕ Halt). IfErr r IsOfCommit) (sym is) tt

-- where a commit was answered, it halts at too few pages alone
pub number_full : (Room : Type 0) (reply : CommitReply) (result : Result ℕ Halt) → IsNumberOf reply result → IfErr result (λ halt. halt ≢ halts.Full → Room)
number_full Room (replies.Committed number) result is = subst (λ (r : Result ℕ Halt). IfErr r (λ halt. halt ≢ halts.Full → Room)) (sym is) tt
number_full Room (replies.Full needed free) result is = subst (λ (r : Result ℕ Halt). IfErr r (λ halt. halt ≢ halts.Full → Room)) (sym is) (λ other. absurd (other refl))

pub number_blamed : (before now : Counts) (reply : CommitReply) (result : Result ℕ Halt) → now ≡ before → IsNumberOf reply result → Blames before now result
number_blamed before now (replies.Committed number) result same is = subst (Blames before now) (sym is) (blames_done before now number same)
number_blamed before now (replies.Full needed free) result same is = subst (Blames before now) (sym is) (blames_halt before now halts.Full same same)

-- ---- on both platforms

pub meets_from : (from_tells to_tells Compared Written : Type 0) (from to : Image) (halt : Halt) → HaltsFrom from_tells from halt → MeetsWrong from_tells to_tells Compared Written from to halt
meets_from from_tells to_tells Compared Written from to halts.NoDevice is = absurd is
meets_from from_tells to_tells Compared Written from to halts.NotEmpty is = absurd is
meets_from from_tells to_tells Compared Written from to halts.Full is = absurd is
meets_from from_tells to_tells Compared Written from to halts.Output is = absurd is
meets_from from_tells to_tells Compared Written from to (halts.From stops.Platform) is = tt
meets_from from_tells to_tells Compared Written from to (halts.From stops.Memory) is = tt
meets_from from_tells to_tells Compared Written from to (halts.From stops.Tape) is = absurd is
meets_from from_tells to_tells Compared Written from to (halts.From stops.Ledger) is = absurd is
meets_from from_tells to_tells Compared Written from to (halts.From stops.BadRoot) is = absurd is
meets_from from_tells to_tells Compared Written from to (halts.From (stops.BadRecord addr)) is = is
meets_from from_tells to_tells Compared Written from to (halts.To stop) is = absurd is

pub meets_to : (from_tells to_tells Compared Written : Type 0) (from to : Image) (halt : Halt) → HaltsTo to_tells Compared Written to halt → MeetsWrong from_tells to_tells Compared Written from to halt
meets_to from_tells to_tells Compared Written from to halts.NoDevice is = absurd is
meets_to from_tells to_tells Compared Written from to halts.NotEmpty is = absurd is
meets_to from_tells to_tells Compared Written from to halts.Full is = tt
meets_to from_tells to_tells Compared Written from to halts.Output is = absurd is
meets_to from_tells to_tells Compared Written from to (halts.From stop) is = absurd is
meets_to from_tells to_tells Compared Written from to (halts.To stops.Platform) is = tt
meets_to from_tells to_tells Compared Written from to (halts.To stops.Memory) is = tt
meets_to from_tells to_tells Compared Written from to (halts.To stops.Tape) is = tt
meets_to from_tells to_tells Compared Written from to (halts.To stops.Ledger) is = tt
meets_to from_tells to_tells Compared Written from to (halts.To stops.BadRoot) is = absurd is
meets_to from_tells to_tells Compared Written from to (halts.To (stops.BadRecord addr)) is = is

pub meets_opening : (from_tells to_tells Compared Written : Type 0) (from to : Image) (halt : Halt) → IsOfOpening halt → MeetsWrong from_tells to_tells Compared Written from to halt
meets_opening from_tells to_tells Compared Written from to halts.NoDevice is = absurd is
meets_opening from_tells to_tells Compared Written from to halts.NotEmpty is = tt
meets_opening from_tells to_tells Compared Written from to halts.Full is = tt
meets_opening from_tells to_tells Compared Written from to halts.Output is = absurd is
meets_opening from_tells to_tells Compared Written from to (halts.From stop) is = absurd is
meets_opening from_tells to_tells Compared Written from to (halts.To stops.Platform) is = tt
meets_opening from_tells to_tells Compared Written from to (halts.To stops.Memory) is = tt
meets_opening from_tells to_tells Compared Written from to (halts.To stops.Tape) is = tt
meets_opening from_tells to_tells Compared Written from to (halts.To stops.Ledger) is = tt
meets_opening from_tells to_tells Compared Written from to (halts.To stops.BadRoot) is = tt
meets_opening from_tells to_tells Compared Written from to (halts.To (stops.BadRecord addr)) is = absurd is

meets_commit : (from_tells to_tells Compared Written : Type 0) (from to : Image) (halt : Halt) → IsOfCommit halt → MeetsWrong from_tells to_tells Compared Written from to halt
meets_commit from_tells to_tells Compared Written from to halts.NoDevice is = absurd is
meets_commit from_tells to_tells Compared Written from to halts.NotEmpty is = absurd is
meets_commit from_tells to_tells Compared Written from to halts.Full is = tt
meets_commit from_tells to_tells Compared Written from to halts.Output is = absurd is
meets_commit from_tells to_tells Compared Written from to (halts.From stop) is = absurd is
meets_commit from_tells to_tells Compared Written from to (halts.To stops.Platform) is = tt
meets_commit from_tells to_tells Compared Written from to (halts.To stops.Tape) is = tt
meets_commit from_tells to_tells Compared Written from to (halts.To stops.Ledger) is = tt
meets_commit from_tells to_tells Compared Written from to (halts.To stops.Memory) is = tt
meets_commit from_tells to_tells Compared Written from to (halts.To stops.BadRoot) is = absurd is
meets_commit from_tells to_tells Compared Written from to (halts.To (stops.BadRecord addr)) is = absurd is

pub meets_commit_all : {X : Type 0} (from_tells to_tells Compared Written : Type 0) (from to : Image) (result : Result X Halt) → IfErr result IsOfCommit → IfErr result (MeetsWrong from_tells to_tells Compared Written from to)
meets_commit_all from_tells to_tells Compared Written from to (Ok done) is = tt
meets_commit_all from_tells to_tells Compared Written from to (Err halt) is = meets_commit from_tells to_tells Compared Written from to halt is

-- what is named is so where less is asked of it
pub there_where : (Was Compared Wrote Written : Type 0) (image : Image) (addr : ℕ) → (Was → Compared) → (Wrote → Written) → IsWrongThere Was Wrote image addr → IsWrongThere Compared Written image addr
there_where Was Compared Wrote Written image addr compared written (inl listing) = inl listing
there_where Was Compared Wrote Written image addr compared written (inr (inl step)) = inr (inl (step.0, written step.1))
there_where Was Compared Wrote Written image addr compared written (inr (inr place)) = inr (inr (place.0, compared place.1))

pub meets_there : (from_tells to_tells Was Compared Wrote Written : Type 0) (from to : Image) (halt : Halt) → (to_tells → (addr : ℕ) → IsWrongThere Was Wrote to addr → IsWrongThere Compared Written to addr) → MeetsWrong from_tells to_tells Was Wrote from to halt
    → MeetsWrong from_tells to_tells Compared Written from to halt
meets_there from_tells to_tells Was Compared Wrote Written from to halts.NoDevice there is = tt
meets_there from_tells to_tells Was Compared Wrote Written from to halts.NotEmpty there is = tt
meets_there from_tells to_tells Was Compared Wrote Written from to halts.Full there is = tt
meets_there from_tells to_tells Was Compared Wrote Written from to halts.Output there is = tt
meets_there from_tells to_tells Was Compared Wrote Written from to (halts.From stops.Platform) there is = tt
meets_there from_tells to_tells Was Compared Wrote Written from to (halts.From stops.Memory) there is = tt
meets_there from_tells to_tells Was Compared Wrote Written from to (halts.From stops.Tape) there is = tt
meets_there from_tells to_tells Was Compared Wrote Written from to (halts.From stops.Ledger) there is = tt
meets_there from_tells to_tells Was Compared Wrote Written from to (halts.From stops.BadRoot) there is = tt
meets_there from_tells to_tells Was Compared Wrote Written from to (halts.From (stops.BadRecord addr)) there is = is
meets_there from_tells to_tells Was Compared Wrote Written from to (halts.To stops.Platform) there is = tt
meets_there from_tells to_tells Was Compared Wrote Written from to (halts.To stops.Memory) there is = tt
meets_there from_tells to_tells Was Compared Wrote Written from to (halts.To stops.Tape) there is = tt
meets_there from_tells to_tells Was Compared Wrote Written from to (halts.To stops.Ledger) there is = tt
meets_there from_tells to_tells Was Compared Wrote Written from to (halts.To stops.BadRoot) there is = tt
meets_there from_tells to_tells Was Compared Wrote Written from to (halts.To (stops.BadRecord addr)) there is = λ told. there told addr (is told)

pub meets_where : (from_tells to_tells Was Compared Wrote Written : Type 0) (from to : Image) (halt : Halt) → (to_tells → Was → Compared) → (to_tells → Wrote → Written) → MeetsWrong from_tells to_tells Was Wrote from to halt → MeetsWrong from_tells to_tells Compared Written from to halt
meets_where from_tells to_tells Was Compared Wrote Written from to halt compared written is =
    meets_there from_tells to_tells Was Compared Wrote Written from to halt (λ told addr. there_where Was Compared Wrote Written to addr (compared told) (written told)) is

pub meets_where_all : {X : Type 0} (from_tells to_tells Was Compared Wrote Written : Type 0) (from to : Image) (result : Result X Halt) → (to_tells → Was → Compared) → (to_tells → Wrote → Written) → IfErr result (MeetsWrong from_tells to_tells Was Wrote from to)
    → IfErr result (MeetsWrong from_tells to_tells Compared Written from to)
meets_where_all from_tells to_tells Was Compared Wrote Written from to (Ok done) compared written is = tt
meets_where_all from_tells to_tells Was Compared Wrote Written from to (Err halt) compared written is = meets_where from_tells to_tells Was Compared Wrote Written from to halt compared written is

-- ---- behind the mount

pub behind_from : (tells : Type 0) (image : Image) (halt : Halt) → HaltsFrom tells image halt → IsBehindBoth halt
behind_from tells image halts.NoDevice is = absurd is
behind_from tells image halts.NotEmpty is = absurd is
behind_from tells image halts.Full is = absurd is
behind_from tells image halts.Output is = absurd is
behind_from tells image (halts.From stops.Platform) is = tt
behind_from tells image (halts.From stops.Memory) is = tt
behind_from tells image (halts.From stops.Tape) is = absurd is
behind_from tells image (halts.From stops.Ledger) is = absurd is
behind_from tells image (halts.From stops.BadRoot) is = absurd is
behind_from tells image (halts.From (stops.BadRecord addr)) is = tt
behind_from tells image (halts.To stop) is = absurd is

pub behind_to : (tells Compared Written : Type 0) (image : Image) (halt : Halt) → HaltsTo tells Compared Written image halt → IsBehindBoth halt
behind_to tells Compared Written image halts.NoDevice is = absurd is
behind_to tells Compared Written image halts.NotEmpty is = absurd is
behind_to tells Compared Written image halts.Full is = tt
behind_to tells Compared Written image halts.Output is = absurd is
behind_to tells Compared Written image (halts.From stop) is = absurd is
behind_to tells Compared Written image (halts.To stops.Platform) is = tt
behind_to tells Compared Written image (halts.To stops.Memory) is = tt
behind_to tells Compared Written image (halts.To stops.Tape) is = tt
behind_to tells Compared Written image (halts.To stops.Ledger) is = tt
behind_to tells Compared Written image (halts.To stops.BadRoot) is = absurd is
behind_to tells Compared Written image (halts.To (stops.BadRecord addr)) is = tt

pub behind_opening : (halt : Halt) → IsOfOpening halt → IsBehindMount halt
behind_opening halts.NoDevice is = absurd is
behind_opening halts.NotEmpty is = tt
behind_opening halts.Full is = tt
behind_opening halts.Output is = absurd is
behind_opening (halts.From stop) is = absurd is
behind_opening (halts.To stop) is = tt

behind_commit : (halt : Halt) → IsOfCommit halt → IsBehindBoth halt
behind_commit halts.NoDevice is = absurd is
behind_commit halts.NotEmpty is = absurd is
behind_commit halts.Full is = tt
behind_commit halts.Output is = absurd is
behind_commit (halts.From stop) is = absurd is
behind_commit (halts.To stops.Platform) is = tt
behind_commit (halts.To stops.Memory) is = tt
behind_commit (halts.To stops.Tape) is = tt
behind_commit (halts.To stops.Ledger) is = tt
behind_commit (halts.To stops.BadRoot) is = absurd is
behind_commit (halts.To (stops.BadRecord addr)) is = absurd is

pub behind_commit_all : {X : Type 0} (result : Result X Halt) → IfErr result IsOfCommit → IfErr result IsBehindBoth
behind_commit_all (Ok done) is = tt
behind_commit_all (Err halt) is = behind_commit halt is

behind_both : (halt : Halt) → IsBehindBoth halt → IsBehindMount halt
behind_both halts.NoDevice is = is
behind_both halts.NotEmpty is = is
behind_both halts.Full is = is
behind_both halts.Output is = is
behind_both (halts.From stop) is = is
behind_both (halts.To stop) is = tt

pub behind_both_all : {X : Type 0} (result : Result X Halt) → IfErr result IsBehindBoth → IfErr result IsBehindMount
behind_both_all (Ok done) is = tt
behind_both_all (Err halt) is = behind_both halt is

-- the first device is only read
pub from_full : {X : Type 0} (tells : Type 0) (image : Image) (result : Result X Halt) → IfErr result (HaltsFrom tells image) → result ≡ Err halts.Full → ⊥
from_full {X = X} tells image result is full = subst (λ (r : Result X Halt). IfErr r (HaltsFrom tells image)) full is

-- a part of a run halts as its call did
pub halted : {X : Type 0} (result : Result X Halt) (halt : Halt) → IsErrAnd result (λ y. y ≡ halt) → result ≡ Err halt
halted result halt is =
    let found = err_from_is_err_and result is in
    found.1 ∙ ap Err found.2
