-- What a line that is done found or left, by its calls, at which moment, and behind calls that leave other blocks.
use Rattle.std.proofs.Common.{◌≡◌, ◌≢◌, ◌≤◌, ◌<◌, ◌+◌, ◌∙◌, ℕ, List, None, Some, Ok, inl, inr, refl, sym, ap, subst, length, arith, append-nil, ◌++◌, replicate, ◌-◌}
use Rattle.std.specs.Prelude.{false}
use Rattle.std.proofs.lemmas.Bool.{cases_lt}
use Rattle.std.proofs.lemmas.List.{take_all}
use Rattle.sdbt_base.specs.Arrays.{padded}
use Rattle.platform.specs.Image.{Image}
use Rattle.platform.specs.History.{Extends, History, image_at, moment}
use Rattle.platform.specs.declared.platforms.Platform.{Ghosts as PlatformGhosts}
use Rattle.platform.proofs.Moments.{Extends-earlier, Extends-refl, image_at-now, whole-now}
use Rattle.device_session.specs.Damage.{HasPut, HasTaken, IsFound}
use Rattle.device_session.specs.Open.{blocks_of, needed_by}
use Rattle.device_session.specs.Reading.{FindsContent, KeepsBlock, KeepsOthers}
use Rattle.device_session.specs.Sessions.{Session}
use Rattle.device_session.specs.declared.refusals.CommitReply.{CommitReply}
use Rattle.device_session.specs.declared.refusals.CommitReply.TheVariants as commits
use Rattle.script_lang.specs.Arrays.{trimmed}
use Rattle.session_calls.specs.Commits.{AnswersReply}
use Rattle.session_calls.specs.Damage.{IsMounted, ReadsAny}
use Rattle.volume_table.specs.Tables.{IsInside, table_bytes}
use Rattle.volume_table.specs.declared.volume.Volume.{Volume}
use Rattle.volume_lines.specs.Lines.{Line, Create, Read, Write, Trim, Destroy, Commit}
use Rattle.volume_lines.specs.Replies as told
use Rattle.volume_lines.specs.Replies.{Reply, said}
use Rattle.volume_lines.specs.declared.replies.Reply.{Reply as Given}
use Rattle.volume_lines.specs.declared.replies.Reply.TheVariants as given
use Rattle.volume_desk.specs.Causes.{AnswersAlong, AnswersOver, IsAccepted, IsShortOf, Sizes, TurnsTable}
use Rattle.volume_desk.specs.Done.{DoesAny, HasCleared, HasTrimmed, IsCleared, IsCommitted, IsLookedUp, IsUnmapped, IsWritten, KeepsAll, WasOver}
use Rattle.volume_desk.proofs.CauseLaws.{commit_turns, destroy_turns, read_done}
use Rattle.volume_desk.specs.Turns.{IsBlockAt, NoBlock, commit_reply, destroy_reply}

-- ---- moments

pub was_mid : (old mid new : History) (session : Session) (Claim : Image → Session → Type 0) → Extends old mid → Extends mid new → IsMounted mid.present session → Claim mid.present session → WasOver (moment old) (moment new) new Claim
was_mid old mid new session Claim one two mounted is =
    let same : mid.present ≡ image_at new (moment mid) = sym (two.same (moment mid) (omega arith) ∙ image_at-now mid (moment mid) (omega arith)) in
    record {
      at = moment mid;
      later = one.later;
      within = two.later;
      session = session;
      mounted = subst (λ (i : Image). IsMounted i session) same mounted;
      is = subst (λ (i : Image). Claim i session) same is;
    }

pub was_now : (old new : History) (session : Session) (Claim : Image → Session → Type 0) → Extends old new → IsMounted new.present session → Claim new.present session → WasOver (moment old) (moment new) new Claim
was_now old new session Claim extends mounted is = was_mid old new new session Claim extends (Extends-refl new) mounted is

-- what was so is so in the longer history
pub was_longer : (from to : ℕ) (old new : History) (Claim : Image → Session → Type 0) → Extends old new → to ≤ moment old → WasOver from to old Claim → WasOver from to new Claim
was_longer from to old new Claim extends below was =
    let same : image_at old was.at ≡ image_at new was.at = sym (extends.same was.at (omega (arith, was.within, below))) in
    record {
      at = was.at;
      later = was.later;
      within = was.within;
      session = was.session;
      mounted = subst (λ (i : Image). IsMounted i was.session) same was.mounted;
      is = subst (λ (i : Image). Claim i was.session) same was.is;
    }

-- ---- what is said of a reply

keeps_same : (pages : List (List ℕ)) (session : Session) (block : ℕ) → KeepsBlock pages pages session session block
keeps_same pages session block = record { entry = λ found. (λ finds. finds, λ finds. finds); content = λ bytes. (λ finds. finds, λ finds. finds) }

-- all is as it was
pub keeps_all : (image : Image) (session : Session) → KeepsAll image session image session
keeps_all image session block within = keeps_same image.readable session block

-- where as many pages are handed over as were, each reads as it did
pages_still : (old new : History) (head head_now : ℕ) → Extends old new → length old.present.recorded ≡ head → length new.present.recorded ≡ head_now → head_now ≡ head → new.present.readable ≡ old.present.readable
pages_still old new head head_now extends many many_now same =
    let earlier = Extends-earlier old new extends in
    let size : length new.present.readable ≡ length old.present.recorded = omega (arith, (whole-now new).as_many, many, many_now, same) in
    sym (take_all (length old.present.recorded) new.present.readable (omega (arith, size))) ∙ earlier.readable

grove_keeps : (pages : List (List ℕ)) (session now : Session) (block : ℕ) → now.grove ≡ session.grove → KeepsBlock pages pages session now block
grove_keeps pages session now block grove =
    let one = keeps_same pages session block in
    let there : KeepsBlock pages pages session (record session { grove = session.grove }) block = record { entry = one.entry; content = one.content } in
    let behind = subst (λ tree. KeepsBlock pages pages session (record session { grove = tree }) block) (sym grove) there in
    record { entry = behind.entry; content = behind.content }

-- so it is where no page was added, and the tree is as it was
pub keeps_still : (old new : History) (head head_now : ℕ) (session now : Session) → Extends old new → length old.present.recorded ≡ head → length new.present.recorded ≡ head_now → head_now ≡ head → now.grove ≡ session.grove → KeepsAll old.present session new.present now
keeps_still old new head head_now session now extends many many_now same grove block within =
    let one : KeepsBlock old.present.readable old.present.readable session now block = grove_keeps old.present.readable session now block grove in
    subst (λ (pages : List (List ℕ)). KeepsBlock old.present.readable pages session now block) (sym (pages_still old new head head_now extends many many_now same)) one

-- it follows from something else
pub does_follows : (Did HadLeft Does Had : (Image → Session → Image → Session → Type 0) → Type 0) (table next : List Volume) (reply : Reply) (it : Line) → ((Claim : Image → Session → Image → Session → Type 0) → Did Claim → Does Claim)
    → ((Claim : Image → Session → Image → Session → Type 0) → HadLeft Claim → Had Claim) → DoesAny Did HadLeft table reply it next → DoesAny Does Had table reply it next
does_follows Did HadLeft Does Had table next (told.Content bytes) (Read name block) follows had does = follows _ does
does_follows Did HadLeft Does Had table next told.Done (Write name block bytes) follows had does = follows _ does
does_follows Did HadLeft Does Had table next told.Done (Trim name block) follows had does = follows _ does
does_follows Did HadLeft Does Had table next told.Created (Create name count) follows had does = follows _ does
does_follows Did HadLeft Does Had table next (told.Destroyed number) (Destroy name) follows had does = (had _ does.0, follows _ does.1)
does_follows Did HadLeft Does Had table next told.Uncommitted (Destroy name) follows had does = follows _ does
does_follows Did HadLeft Does Had table next (told.Committed number) Commit follows had does = follows _ does
does_follows Did HadLeft Does Had table next reply it follows had does = follows _ does

-- calls of a session that was on the root record in the cell, and is, were at the moment behind them
pub answered_along : (tells : Type 0) (old new : History) (session now : Session) (here : Sizes) (table table_now : List Volume) (it : Line) (buffer : List ℕ) (reply : Given) → (tells → Extends old new) → (tells → IsMounted old.present session)
    → (tells → IsMounted new.present now) → AnswersOver tells old.present new.present session now here table table_now it buffer (Ok reply) → AnswersAlong tells old new session (Some now) here table table_now it buffer (Ok reply)
answered_along tells old new session now here table table_now it buffer reply extends mounted goes any =
    let Known : Type 0 = tells × IsMounted old.present session in (
      any.0,
      does_follows (λ Claim. Known → Claim old.present session new.present now) (λ Claim. Known → Claim old.present session new.present now) (λ Claim. tells → Claim old.present session new.present now)
          (λ Claim. tells → WasOver (moment old) (moment new) new (Claim old.present session)) table table_now (said reply buffer) it (λ Claim did told. did (told, mounted told))
          (λ Claim left told. was_now old new now (Claim old.present session) (extends told) (goes told) (left (told, mounted told))) any.1,
    )

-- and all is as it was where there is no such block
no_block_does : (Did HadLeft : (Image → Session → Image → Session → Type 0) → Type 0) (table next : List Volume) (it : Line) (name : List ℕ) (block : ℕ) (reply : Given) (buffer : List ℕ) → Did KeepsAll → NoBlock table name block reply → DoesAny Did HadLeft table (said reply buffer) it next
no_block_does Did HadLeft table next it name block given.Unknown buffer same none = same
no_block_does Did HadLeft table next it name block given.Range buffer same none = same
no_block_does Did HadLeft table next it name block given.Created buffer same none = absurd none
no_block_does Did HadLeft table next it name block given.Exists buffer same none = absurd none
no_block_does Did HadLeft table next it name block given.NoRoom buffer same none = absurd none
no_block_does Did HadLeft table next it name block (given.Content count) buffer same none = absurd none
no_block_does Did HadLeft table next it name block given.Done buffer same none = absurd none
no_block_does Did HadLeft table next it name block given.Full buffer same none = absurd none
no_block_does Did HadLeft table next it name block (given.Destroyed number) buffer same none = absurd none
no_block_does Did HadLeft table next it name block given.Uncommitted buffer same none = absurd none
no_block_does Did HadLeft table next it name block (given.Committed number) buffer same none = absurd none
no_block_does Did HadLeft table next it name block given.Bad buffer same none = absurd none

pub refused_over : (tells : Type 0) (before : Image) (session : Session) (here : Sizes) (table : List Volume) (it : Line) (name : List ℕ) (block : ℕ) (reply : Given) (buffer : List ℕ) → NoBlock table name block reply
    → TurnsTable here (needed_by session) (needed_by session) table it (said reply buffer) table → AnswersOver tells before before session session here table table it buffer (Ok reply)
refused_over tells before session here table it name block reply buffer none turns =
    let Known : Type 0 = tells × IsMounted before session in
    (turns, no_block_does (λ Claim. Known → Claim before session before session) (λ Claim. Known → Claim before session before session) table table it name block reply buffer (λ known. keeps_all before session) none)

-- behind a commit the session has no change of its own, and the number that is told, and where too few pages are free all is as it was
commit_does : (Did HadLeft : (Image → Session → Image → Session → Type 0) → Type 0) (table next : List Volume) (reply : CommitReply) (answer : Given) (buffer : List ℕ) → answer ≡ commit_reply reply → ((number : ℕ) → reply ≡ commits.Committed number → Did (λ before session image now. IsCommitted number now))
    → ((needed free : ℕ) → reply ≡ commits.Full needed free → Did KeepsAll) → DoesAny Did HadLeft table (said answer buffer) Commit next
commit_does Did HadLeft table next (commits.Committed number) answer buffer is needs short = subst (λ (a : Given). DoesAny Did HadLeft table (said a buffer) Commit next) (sym is) (needs number refl)
commit_does Did HadLeft table next (commits.Full needed free) answer buffer is needs short = subst (λ (a : Given). DoesAny Did HadLeft table (said a buffer) Commit next) (sym is) (short needed free refl)

pub commit_along : (tells : Type 0) (old new : History) (session now : Session) (here : Sizes) (table : List Volume) (reply : CommitReply) (answer : Given) (buffer : List ℕ) → answer ≡ commit_reply reply → ((number : ℕ) → reply ≡ commits.Committed number → IsCommitted number now)
    → ((needed free : ℕ) → reply ≡ commits.Full needed free → KeepsAll old.present session new.present now)
    → ((needed free : ℕ) → reply ≡ commits.Full needed free → IsShortOf here (needed_by session)) → AnswersAlong tells old new session (Some now) here table table Commit buffer (Ok answer)
commit_along tells old new session now here table reply answer buffer is needs short lacks = (
  commit_turns here (needed_by session) (needed_by now) table reply answer buffer is lacks,
  commit_does (λ Claim. tells → Claim old.present session new.present now) (λ Claim. tells → WasOver (moment old) (moment new) new (Claim old.present session)) table table reply answer buffer is (λ number committed told. needs number committed)
      (λ needed free full told. short needed free full),
)

-- a destroy left this before its commit, and where too few pages were free for that it is so still
destroy_does : (Did HadLeft : (Image → Session → Image → Session → Type 0) → Type 0) (table next : List Volume) (name : List ℕ) (reply : CommitReply) (answer : Given) (buffer : List ℕ) → answer ≡ destroy_reply reply
    → HadLeft (λ before session image now. IsCleared before session image now table name next) → ((number : ℕ) → reply ≡ commits.Committed number → Did (λ before session image now. IsCommitted number now))
    → ((needed free : ℕ) → reply ≡ commits.Full needed free → Did (λ before session image now. IsCleared before session image now table name next)) → DoesAny Did HadLeft table (said answer buffer) (Destroy name) next
destroy_does Did HadLeft table next name (commits.Committed number) answer buffer is had needs left = subst (λ (a : Given). DoesAny Did HadLeft table (said a buffer) (Destroy name) next) (sym is) (had, needs number refl)
destroy_does Did HadLeft table next name (commits.Full needed free) answer buffer is had needs left = subst (λ (a : Given). DoesAny Did HadLeft table (said a buffer) (Destroy name) next) (sym is) (left needed free refl)

pub destroy_along : (tells : Type 0) (old new : History) (session now : Session) (here : Sizes) (table next : List Volume) (name : List ℕ) (reply : CommitReply) (answer : Given) (buffer : List ℕ) → answer ≡ destroy_reply reply
    → IsAccepted here.blocks table (Destroy name) next → (tells → WasOver (moment old) (moment new) new (λ image s. IsCleared old.present session image s table name next)) → ((number : ℕ) → reply ≡ commits.Committed number → IsCommitted number now)
    → ((needed free : ℕ) → reply ≡ commits.Full needed free → tells → IsCleared old.present session new.present now table name next) → ((needed free : ℕ) → reply ≡ commits.Full needed free → IsShortOf here (needed_by now))
    → AnswersAlong tells old new session (Some now) here table next (Destroy name) buffer (Ok answer)
destroy_along tells old new session now here table next name reply answer buffer is accepted had needs left short = (
  destroy_turns here (needed_by session) (needed_by now) table next name reply answer buffer is accepted short,
  destroy_does (λ Claim. tells → Claim old.present session new.present now) (λ Claim. tells → WasOver (moment old) (moment new) new (Claim old.present session)) table next name reply answer buffer is had
      (λ number committed told. needs number committed) left,
)

pub needs_behind : {S R W : Type 0} (P : PlatformGhosts S) (platform platform_now : S) (tape tape_now : R) (ledger ledger_now : W) (session now : Session) (reply : CommitReply) (number : ℕ) → reply ≡ commits.Committed number
    → AnswersReply P platform platform_now tape tape_now ledger ledger_now session now reply → IsCommitted number now
needs_behind P platform platform_now tape tape_now ledger ledger_now session now reply number is answers =
    let done = subst (λ (r : CommitReply). AnswersReply P platform platform_now tape tape_now ledger ledger_now session now r) is answers in (done.needs, done.is_number)

pub short_still : {S R W : Type 0} (P : PlatformGhosts S) (platform platform_now : S) (tape tape_now : R) (ledger ledger_now : W) (session now : Session) (reply : CommitReply) (needed free : ℕ) (Claim : Image → Session → Type 0) → reply ≡ commits.Full needed free
    → AnswersReply P platform platform_now tape tape_now ledger ledger_now session now reply → Claim (P.history platform).present session → Claim (P.history platform_now).present now
short_still P platform platform_now tape tape_now ledger ledger_now session now reply needed free Claim is answers so =
    let short = subst (λ (r : CommitReply). AnswersReply P platform platform_now tape tape_now ledger ledger_now session now r) is answers in
    subst (λ (s : Session). Claim (P.history platform_now).present s) (sym short.same.0) (subst (λ p. Claim (P.history p).present session) (sym short.same.1) so)

-- and fewer pages are free than the session's changes need
pub short_pages : {S R W : Type 0} (P : PlatformGhosts S) (platform platform_now : S) (tape tape_now : R) (ledger ledger_now : W) (session now : Session) (reply : CommitReply) (needed free : ℕ) → reply ≡ commits.Full needed free
    → AnswersReply P platform platform_now tape tape_now ledger ledger_now session now reply → P.capacity platform_now - P.head platform_now < needed_by session
short_pages P platform platform_now tape tape_now ledger ledger_now session now reply needed free is answers =
    let short = subst (λ (r : CommitReply). AnswersReply P platform platform_now tape tape_now ledger ledger_now session now r) is answers in
    let few : P.capacity platform - P.head platform < needed_by session = omega (arith, short.is_needed, short.is_free, short.short) in
    subst (λ p. P.capacity p - P.head p < needed_by session) (sym short.same.1) few

-- than those need that the session has behind it
pub short_behind : {S R W : Type 0} (P : PlatformGhosts S) (platform platform_now : S) (tape tape_now : R) (ledger ledger_now : W) (session now : Session) (reply : CommitReply) (needed free : ℕ) → reply ≡ commits.Full needed free
    → AnswersReply P platform platform_now tape tape_now ledger ledger_now session now reply → P.capacity platform_now - P.head platform_now < needed_by now
short_behind P platform platform_now tape tape_now ledger ledger_now session now reply needed free is answers =
    let short = subst (λ (r : CommitReply). AnswersReply P platform platform_now tape tape_now ledger ledger_now session now r) is answers in
    let few = short_pages P platform platform_now tape tape_now ledger ledger_now session now reply needed free is answers in
    subst (λ (s : Session). P.capacity platform_now - P.head platform_now < needed_by s) (sym short.same.0) few

-- ---- blocks

-- what the call for the block read
looked_up : (Known : Type 0) (image after : Image) (session : Session) (table : List Volume) (name : List ℕ) (block at : ℕ) (bytes : List ℕ) → IsBlockAt table name block at → ReadsAny Known image after session at bytes (Ok tt) → Known
    → IsLookedUp image session table name block (trimmed bytes)
looked_up Known image after session table name block at bytes is any known =
    record { v = is.v; named = is.named; below = is.below; content = bytes; found = subst (λ (b : ℕ). FindsContent image.readable session.grove b bytes) is.is (any known); is = refl }

pub read_over : (tells : Type 0) (before image : Image) (session now : Session) (here : Sizes) (table : List Volume) (name : List ℕ) (block at : ℕ) (reply : Given) (bytes buffer : List ℕ) → (tells → KeepsAll before session image now) → said reply buffer ≡ told.Content (trimmed bytes)
    → IsBlockAt table name block at → ReadsAny (tells × IsMounted before session) before image session at bytes (Ok tt) → AnswersOver tells before image session now here table table (Read name block) buffer (Ok reply)
read_over tells before image session now here table name block at reply bytes buffer keeps same is any =
    let Known : Type 0 = tells × IsMounted before session in (
      read_done here (needed_by session) (needed_by now) table name block at (said reply buffer) (trimmed bytes) same is,
      subst (λ (r : Reply). DoesAny (λ Claim. Known → Claim before session image now) (λ Claim. Known → Claim before session image now) table r (Read name block) table) (sym same)
          (λ known. (looked_up Known before image session table name block at bytes is any known, keeps known.0)),
    )

-- what it wrote
pub written_at : (before image : Image) (session now : Session) (table : List Volume) (name : List ℕ) (block at : ℕ) (bytes : List ℕ) → IsBlockAt table name block at → HasPut before.readable image.readable session now at (padded bytes)
    → IsWritten before session image now table name block bytes
written_at before image session now table name block at bytes is put = record {
  v = is.v;
  named = is.named;
  below = is.below;
  found = subst (λ (b : ℕ). FindsContent image.readable now.grove b (padded bytes)) is.is put.left.content;
  others = subst (λ (b : ℕ). KeepsOthers before.readable image.readable session now b) is.is put.left.others;
}

-- and trimmed
pub unmapped_at : (before image : Image) (session now : Session) (table : List Volume) (name : List ℕ) (block at : ℕ) → IsBlockAt table name block at → HasTaken before.readable image.readable session now at
    → IsUnmapped before session image now table name block
unmapped_at before image session now table name block at is taken = record {
  v = is.v;
  named = is.named;
  below = is.below;
  gone = subst (λ (b : ℕ). IsFound false image.readable now b) is.is taken.gone;
  others = subst (λ (b : ℕ). KeepsOthers before.readable image.readable session now b) is.is taken.others;
}

-- ---- blocks that are kept

keeps_then : (pages between after : List (List ℕ)) (session mid now : Session) (block : ℕ) → KeepsBlock pages between session mid block → KeepsBlock between after mid now block → KeepsBlock pages after session now block
keeps_then pages between after session mid now block one two = record {
  entry = λ found. (λ finds. (two.entry found).0 ((one.entry found).0 finds), λ finds. (one.entry found).1 ((two.entry found).1 finds));
  content = λ bytes. (λ finds. (two.content bytes).0 ((one.content bytes).0 finds), λ finds. (one.content bytes).1 ((two.content bytes).1 finds));
}

-- nothing was trimmed
pub trimmed_none : (pages : List (List ℕ)) (session : Session) (first : ℕ) → HasTrimmed pages pages session session first 0
trimmed_none pages session first = record {
  gone = λ block from below. absurd (omega (arith, from, below));
  before = λ block within under. keeps_same pages session block;
  behind = λ block within over. keeps_same pages session block;
}

-- one block more
pub trimmed_more : (pages between after : List (List ℕ)) (session mid now : Session) (first count : ℕ) → blocks_of mid ≡ blocks_of session → first + count < blocks_of session → HasTrimmed pages between session mid first count
    → HasTaken between after mid now (first + count) → HasTrimmed pages after session now first (count + 1)
trimmed_more pages between after session mid now first count same within one taken =
    let keeps : (block : ℕ) → block < blocks_of session → block ≢ first + count → KeepsBlock between after mid now block = λ block inside other. taken.others block (omega (arith, same, inside)) other in
    record {
      gone = λ block from below.
          elim (cases_lt block (first + count)) [
            | inl under ↦ ((keeps block (omega (arith, under, within)) (λ is. omega (arith, is, under))).entry None).0 (one.gone block from under)
            | inr over ↦ let is : first + count ≡ block = omega (arith, over, below) in subst (λ (b : ℕ). IsFound false after now b) is taken.gone
          ];
      before = λ block inside under. keeps_then pages between after session mid now block (one.before block inside under) (keeps block inside (λ is. omega (arith, is, under)));
      behind = λ block inside over. keeps_then pages between after session mid now block (one.behind block inside (omega (arith, over))) (keeps block inside (λ is. omega (arith, is, over)));
    }

-- a whole block has no zeros behind it
padded_whole : (bytes : List ℕ) → length bytes ≡ 4096 → padded bytes ≡ bytes
padded_whole bytes size = let none : 4096 - length bytes ≡ 0 = omega (arith, size) in ap (λ (n : ℕ). bytes ++ replicate n 0) none ∙ append-nil bytes

-- the table was written, and then the volume's blocks were trimmed
pub cleared : (before : Image) (between : List (List ℕ)) (image : Image) (session mid now : Session) (v : Volume) (table : List Volume) (bytes : List ℕ) → bytes ≡ table_bytes table → length bytes ≡ 4096 → blocks_of mid ≡ blocks_of session → IsInside (blocks_of mid) v
    → HasPut before.readable between session mid 0 (padded bytes) → HasTrimmed between image.readable mid now v.start v.count → HasCleared before session image now v table
cleared before between image session mid now v table bytes is size same inside put trims =
    let first = trims.before 0 (omega (arith, inside.start, inside.within, inside.count)) (omega (arith, inside.start)) in
    let put_others : (block : ℕ) → block < blocks_of session → block ≢ 0 → KeepsBlock before.readable between session mid block = λ block within other. put.left.others block within other in
    record {
      gone = λ block of. trims.gone block of.from of.below;
      tabled = subst (λ (b : List ℕ). FindsContent image.readable now.grove 0 b) (padded_whole bytes size ∙ is) ((first.content (padded bytes)).0 put.left.content);
      others = λ block within other outside.
          let whole : block < blocks_of mid = omega (arith, same, within) in
          keeps_then before.readable between image.readable session mid now block (put_others block within other)
          (elim (cases_lt block v.start) [
            | inl under ↦ trims.before block whole under
            | inr from ↦ elim (cases_lt block (v.start + v.count)) [
              | inl below ↦ absurd (outside (record { from = from; below = below }))
              | inr over ↦ trims.behind block whole over
            ]
          ]);
    }
