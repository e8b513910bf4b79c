-- What the end of an order gives: what is forgotten, and what the words `check` and `seize` say.
use Rattle.std.proofs.Common.{◌≡◌, ◌≤◌, ◌⊎◌, ◌+◌, ℕ, List, Option, None, Result, inl, inr, sym, ◌∙◌, ap, subst}
use Rattle.std.specs.Prelude.{◌≢◌, IfErr}
use Rattle.sdbt_base.specs.Arrays.{Device, closed}
use Rattle.sdbt_base.specs.Faults.{Rose}
use Rattle.sdbt_base.specs.Rises.{MayRiseByOne}
use Rattle.platform.specs.History.{History, Steps}
use Rattle.page_store.specs.Stands.{Stands}
use Rattle.cert_checker.specs.Chain.{Accepted, chain_of}
use Rattle.cert_checker.specs.First.{First}
use Rattle.device_session.specs.Sessions.{Session}
use Rattle.device_terms.specs.Served.{IsServedImage}
use Rattle.device_course.specs.Keys.{KeepsOn}
use Rattle.device_course.specs.States.{Outside}
use Rattle.device_course.specs.Course.{Made}
use Rattle.device_course.specs.Marks.{last_mark}
use Rattle.device_course.proofs.ProgramLaws.{Ended}
use Rattle.device_course.proofs.ReachingLaws.{discloses}
use Rattle.device_cli.specs.Causes.{HasCalled, HasLacked, IsOf}
use Rattle.device_cli.specs.Checks.{Checked, Checks, IsSilent, status_at}
use Rattle.device_cli.specs.Drawing.{DrewUntil}
use Rattle.device_cli.specs.Handed.{Handed}
use Rattle.device_cli.specs.Pages.{IfNext}
use Rattle.device_cli.specs.Program.{ServesScript, Forgets}
use Rattle.device_cli.specs.Ran.{Ran, AnswersScript, IsComplete}
use Rattle.line_run.specs.Stops.{Ending, exit_of, HasCause}
use Rattle.line_run.specs.Puts.{damage_line}
use Rattle.device_cli.specs.Seizing.{Seizing, Seizes, IsRefused, ReadsFewFor}
use Rattle.device_cli.specs.World.{World, drew_by, first_by, world}
use Rattle.device_cli.specs.declared.checking.Finding.{Finding}
use Rattle.line_run.specs.declared.stop.Stop.{Stop}
use Rattle.device_cli.proofs.CheckLaws.{accepted_at, complete_check, cut_at, empty_at, image_stays, refused_at, silent_at, unserved_at}
use Rattle.device_cli.proofs.CompleteLaws.{complete_ending}
use Rattle.device_cli.proofs.MappedLaws.{seizes_maps}
use Rattle.device_cli.proofs.ScriptLaws.{answers_with, made_by}
use Rattle.device_cli.proofs.SeizeWordLaws.{bad_status, complete_seizure}

-- ---- what is forgotten

pub forgets : (tells : Type 0) (old new : Outside) (Going : Type 0) → Ended tells old new Going → Forgets tells old.drawn new.drawn old.history new.history
forgets tells old new Going e =
    let all = discloses tells old new Going (λ keys. Unit {0}) e.later e.keeps e.made in
    record { discloses = all; seizes = seizes_maps tells old.drawn new.drawn old.history new.history all }

-- one that serves a script
pub ended_run : (tells Before : Type 0) (old new : Outside) (Going : Type 0) (was : World) (drawn drawn_now : Option (List (List ℕ))) (session : Option Session) (reads changes : ℕ) (ending : Ending) (left left_now written written_now : Option (List ℕ))
    → was.session ≡ None → was.history ≡ old.history → was.head ≡ old.head → was.capacity ≡ old.capacity
    → Ran tells Before (first_by drawn was) (drew_by drawn_now (world session new.history new.head new.capacity reads changes)) damage_line ending left left_now written written_now
    → KeepsOn tells old.drawn new.drawn old.written new.written None old.history new.history Going (λ keys. Unit {0}) → Ended tells old new Going
ended_run tells Before old new Going was drawn drawn_now session reads changes ending left left_now written written_now alone history head capacity ran keeps =
    let later = ran.handled.replied.later in
    record {
      later = record { capacity = later.capacity ∙ capacity; rises = subst (λ (n : ℕ). n ≤ new.head) head later.rises; within = later.within };
      keeps = keeps;
      made = subst (λ (h : History). tells → (device : Option Device) → Stands h.present device → IsServedImage h.present
          → (marks : List (Option Device)) × Made h new.history None (closed device) marks (closed (last_mark device marks))) history
          (made_by tells Before was drawn drawn_now session new.history new.head new.capacity reads changes ending left left_now written written_now alone ran);
    }

-- ---- what the words say

-- want of memory is told at a line that takes some
where_lacked : (tells : Type 0) (old new : World) (status : ℕ) (left left_now written written_now : Option (List ℕ)) (Whole : Type 0) (script : AnswersScript tells old new status left left_now written written_now)
    → (status ≡ 11) ⊎ ((status ≡ 0) × Whole) → ((status ≡ 11) × IfNext script.replies script.lines (IsOf (HasLacked tells new.history.present new.head new.capacity))) ⊎ ((status ≡ 0) × Whole)
where_lacked tells old new status left left_now written written_now Whole script (inl e) = inl (e, script.no_memory e)
where_lacked tells old new status left left_now written written_now Whole script (inr whole) = inr whole

pub serves_at : {S R I O L : Type 0} (tells : Type 0) (status : ℕ) (old new : Handed S R I O L) (session : Option Session) (ending : Ending) → old.world.session ≡ None → new.world.session ≡ None → new.world.drawn ≡ None → status ≡ exit_of ending
    → Ran tells (new.input ≡ old.input) (first_by old.drawn old.world) (drew_by new.drawn (record new.world { session = session })) damage_line ending old.left new.left old.written new.written → IfErr ending (HasCause old.counts new.counts) → ServesScript tells status old new
serves_at tells status old new session ending alone then_alone untold is ran cause =
    let now = new.world in
    let Serves : World → ℕ → Type 0 = λ there n. (script : AnswersScript tells old.world there n old.left new.left old.written new.written) × DrewUntil old.drawn script.lines script.replies new.drawn
    × (n ≡ 5 → (new.input ≡ old.input) ⊎ IfNext script.replies script.lines (IsOf (HasCalled tells there.history.present))) in
    let same : world None now.history now.head now.capacity now.reads now.changes ≡ now =
    ap (λ (d : Option (List (List ℕ))). record now { session = None; drawn = d }) (sym untold) ∙ ap (λ (s : Option Session). record now { session = s }) (sym then_alone) in
    let script = answers_with tells (new.input ≡ old.input) old.world old.drawn new.drawn session now.history now.head now.capacity now.reads now.changes ending old.left new.left old.written new.written alone ran in
    let here : Serves now (exit_of ending) = subst (λ (there : World). Serves there (exit_of ending)) same (script.0, script.2, script.3) in
    let all : Serves now status = subst (λ (n : ℕ). Serves now n) (sym is) here in
    record {
      answers = all.0;
      drew = all.1;
      no_platform = all.2;
      complete = λ told there stands served text ample quiet. where_lacked tells old.world now status old.left new.left old.written new.written (IsComplete (closed there) text old.written new.written) all.0
          (subst (λ (n : ℕ). (n ≡ 11) ⊎ ((n ≡ 0) × IsComplete (closed there) text old.written new.written)) (sym is)
          (complete_ending tells old.world now ending old.counts new.counts old.left new.left old.written new.written text there told stands served here.0 ran.taken ran.gave ran.took cause quiet ample));
    }

pub checked_at : {S R I O L : Type 0} (tells : Type 0) (status : ℕ) (old new : Handed S R I O L) (ending : Result Finding Stop) → new.tape ≡ old.tape → new.ledger ≡ old.ledger → new.world.head ≡ old.world.head
    → (tells → Steps old.world.history new.world.history) → (tells → new.world.history.present ≡ old.world.history.present) → (tells → MayRiseByOne old.world.reads new.world.reads × (new.page_reads ≡ old.page_reads)) → status ≡ status_at ending
    → Checks tells old.world.history.present old.left new.left old.written new.written ending → IfErr ending (HasCause old.counts new.counts) → Checked tells status old new
checked_at tells status old new ending undrawn unput pages steps same reads is checks cause = record {
  undrawn = undrawn;
  unput = unput;
  pages = pages;
  image = λ told. image_stays old.world.history new.world.history (steps told) (same told);
  reads = reads;
  taken = checks.taken;
  gave = checks.gave;
  accepted = λ e. accepted_at tells old.world.history.present old.written new.written checks.taken new.left ending checks.is (sym is ∙ e);
  refused = λ e. refused_at tells old.world.history.present old.written new.written checks.taken new.left ending checks.is (sym is ∙ e);
  unserved = λ e. unserved_at tells old.world.history.present old.written new.written checks.taken new.left ending checks.is (sym is ∙ e);
  cut = λ e. cut_at tells old.world.history.present old.written new.written checks.taken new.left ending checks.is (sym is ∙ e);
  silent = subst (λ (n : ℕ). n ≢ 0 → n ≢ 4 → n ≢ 8 → n ≢ 10 → (new.written ≡ old.written) × IsSilent tells old.world.history.present checks.taken n) (sym is)
      (silent_at tells old.world.history.present old.written new.written checks.taken new.left ending checks.is);
  empty = λ told none. subst (λ (n : ℕ). (n ≡ 10) ⊎ (n ≡ 4) ⊎ (n ≡ 5)) (sym is) (empty_at tells old.world.history.present old.written new.written checks.taken new.left ending checks.is told none);
  complete = λ told root text certs able quiet. subst (λ (n : ℕ). (Accepted (chain_of certs root.commit) root → (n ≡ 0) ⊎ (n ≡ 11))
      × ((number value : ℕ) → First (chain_of certs root.commit) root number value → (n ≡ 10) ⊎ (n ≡ 11))) (sym is)
      (complete_check tells old.world.history.present old.counts new.counts old.left new.left old.written new.written ending checks cause told root text certs able quiet);
}

pub seizing_at : {S R I O L : Type 0} (tells : Type 0) (records : List (List ℕ)) (status : ℕ) (old new : Handed S R I O L) (ending : Ending) → new.tape ≡ old.tape → new.input ≡ old.input → new.ledger ≡ old.ledger
    → new.world.head ≡ old.world.head → (tells → Steps old.world.history new.world.history) → (tells → new.world.history.present ≡ old.world.history.present) → status ≡ exit_of ending
    → Seizes tells old.world.head old.world.history.present records old.written new.written ending
    → (tells → (Rose old.counts.platform new.counts.platform → ⊥) → old.world.reads + 1 ≤ new.world.reads) → (tells → ReadsFewFor old.world.head old.world.history.present records old.world.reads new.world.reads)
    → (tells → IsRefused old.world.head old.world.history.present records → new.page_reads ≡ old.page_reads)
    → IfErr ending (HasCause old.counts new.counts) → Seizing tells records status old new
seizing_at tells records status old new ending undrawn untaken unput pages steps same is seizes looked reads unread cause = record {
  undrawn = undrawn;
  untaken = untaken;
  unput = unput;
  pages = pages;
  image = λ told. image_stays old.world.history new.world.history (steps told) (same told);
  ending = ending;
  status_is = is;
  seizes = seizes;
  looked = looked;
  reads = reads;
  unread = unread;
  bad_root = λ told bad. subst (λ (n : ℕ). (n ≡ 8) ⊎ (n ≡ 4) ⊎ (n ≡ 5)) (sym is) (bad_status tells old.world.head old.world.history.present records old.written new.written ending seizes told bad);
  complete = λ told good quiet. subst (λ (n : ℕ). (n ≡ 0) ⊎ (n ≡ 11)) (sym is)
      (complete_seizure tells old.world.head old.world.history.present records old.counts new.counts old.written new.written ending seizes cause told good quiet);
}
