-- What a commit says, by how far it came.
use Rattle.std.proofs.Common.{◌≡◌, ◌≢◌, ◌∙◌, inl, inr, ℕ, ◌+◌, ◌≤◌, ◌^◌, false, List, [], ◌∷◌, All, length, map, ◌++◌, Result, Ok, Err, refl, sym, ap, subst, arith}
use Rattle.std.specs.Prelude.{Some, IfOk, IfErr, OnOk, IsOk}
use Rattle.sdbt_base.specs.Arrays.{Device, Blocks, committed_with}
use Rattle.sdbt_base.specs.Counts.{Counts, counts}
use Rattle.sdbt_base.specs.Faults.{Rose}
use Rattle.sdbt_base.specs.Keys.{bare}
use Rattle.sdbt_base.specs.declared.sinks.Sink.{Ghosts as SinkGhosts}
use Rattle.sdbt_base.specs.declared.tapes.Tape.{Ghosts as TapeGhosts}
use Rattle.std.specs.List.{AllByRecursion}
use Rattle.platform.specs.declared.platforms.Platform.{Ghosts as PlatformGhosts}
use Rattle.platform.specs.Image.{Image}
use Rattle.sdbt_base.specs.Rises.{MayRiseByOne, MayRiseBy}
use Rattle.platform.specs.History.{Turns, CellStays}
use Rattle.platform.proofs.Moments.{During-start, Extends-earlier, whole-now}
use Rattle.root_codec.specs.declared.root.Root.{Root}
use Rattle.root_codec.specs.RootRecord.{root_bytes}
use Rattle.page_store.specs.Keeping.{DrewAll, KeepsKeys}
use Rattle.page_store.specs.Stands.{StandsBy}
use Rattle.page_store.proofs.KeepingLaws.{keeps_idle}
use Rattle.page_store.proofs.FloorLaws.{forgets_still}
use Rattle.btree_walk.specs.Sights.{StandsOver, IsOfPage}
use Rattle.node_codec.specs.Record.{NodeRecord}
use Rattle.page_store.proofs.RecordLaws.{record_stays}
use Rattle.node_cache.specs.Cached.{Cached, without_all, forgotten}
use Rattle.node_cache.proofs.CacheLaws.{All-without_all, none-without_all}
use Rattle.std.proofs.lemmas.List.{length-map}
use Rattle.std.proofs.lemmas.List.Elements.{All-weaker}
use Rattle.shadow_commit.proofs.OrderLaws.{records_at}
use Rattle.shadow_commit.proofs.CachingLaws.{All-sealed, capacity_sealed}
use Rattle.btree_update.specs.Groves.{places_of}
use Rattle.grove_accounts.specs.Holding.{IsTreeOf}
use Rattle.shadow_commit.specs.Finishing.{Swaps}
use Rattle.shadow_commit.specs.Sealed.{Sealed, page_of}
use Rattle.shadow_commit.specs.Caching.{cached_as}
use Rattle.shadow_commit.specs.NewTree.{IsNodeAt}
use Rattle.shadow_commit.specs.Handing.{OnlyAdds, KnowsPlaces}
use Rattle.shadow_commit.specs.declared.prepared.Prepared.{Prepared}
use Rattle.device_session.specs.declared.refusals.CommitReply.{CommitReply}
use Rattle.device_session.specs.declared.refusals.CommitReply.TheVariants.{Committed, Full}
use Rattle.device_session.specs.declared.refusals.CommitFault.{CommitFault}
use Rattle.device_session.specs.declared.refusals.CommitFault.TheVariants as fault
use Rattle.device_session.specs.Sessions.{Session}
use Rattle.device_session.specs.Open.{IsOpen, needed_by}
use Rattle.device_session.specs.Holds.{Holds}
use Rattle.device_session.specs.Keys.{HoldsListed}
use Rattle.device_session.specs.Finishing.{PutsLine, IsPublishCause, TakesUp}
use Rattle.device_terms.specs.Certifying.{PutsSynced}
use Rattle.device_terms.specs.Effects.{NamesLast}
use Rattle.device_terms.specs.Effects.{ChangesBehind, Discloses, GrowsBy}
use Rattle.device_session.specs.Publishing.{Commits, HasRaised, IsCommitCause, commit_counts, most_commit}
use Rattle.device_session.specs.Replies.{device_after}
use Rattle.device_terms.proofs.MomentLaws.{still, then_published, once, stays_once, stays_then}
use Rattle.device_terms.proofs.ServedLaws.{serves_still, serves_turned, served_published}
use Rattle.device_terms.proofs.StandingLaws.{during_stands}
use Rattle.device_session.proofs.CommitLaws.{IsReadied, Publishes, KeepsSealed, with_next, held_stands, listed_sound, last_sealed, next_within, next_tree, next_stands, commit_turns, commit_keys, stopped_keys, commit_forgets}
use Rattle.device_session.proofs.KeyLaws.{listed_fresh}
use Rattle.device_session.proofs.CertifyingLaws.{commit_certifies}
use Rattle.page_store.specs.Tree.{joined}
use Rattle.device_session.proofs.AmongLaws.{taken_among, held_knows}
use Rattle.device_session.proofs.TakingLaws.{taken_open, taken_pages, taken_holds, taken_cached}

-- a commit was done
abbrev done : Result CommitReply CommitFault → Type 0
done result = IsOk result

-- the cell stays, and nothing is synced or changed
abbrev pub Still : {S : Type 0} → PlatformGhosts S → S → S → Type 0
Still P old new = P.tells → CellStays (P.history old) (P.history new) × (P.changes new ≡ P.changes old)

abbrev refused : CommitFault → Result (Unit {0}) CommitFault
refused fault = Err fault

-- what holds holds of each answer
on_any : (result : Result CommitReply CommitFault) (X : Type 0) → X → OnOk result X
on_any (Ok reply) X is = is
on_any (Err fault) X is = tt

-- ---- a commit that called nothing

-- without a change the array is the device's
pub untouched_after : (session : Session) (image : Image) (device : Device) (contents : Blocks) (number : ℕ) → session.is_touched ≡ false → number ≡ session.root.commit → Holds session image device contents → Holds session image (record device { number = number; contents = contents }) contents
untouched_after session image device contents number off is h =
    let number_is : device.number ≡ number = sym (is ∙ h.stands.number) in
    let contents_is : device.contents ≡ contents = sym (h.untouched off) in
    let same : device ≡ record device { number = number; contents = contents } = λ i. record device { number = number_is i; contents = contents_is i } in
    subst (λ (d : Device). Holds session image d contents) same h

pub commits_nothing : {S R W : Type 0} (P : PlatformGhosts S) (T : TapeGhosts R) (L : SinkGhosts W) (platform : S) (tape : R) (ledger : W) (session : Session) (result : Result CommitReply CommitFault)
    → IsOpen session (P.head platform)
    → (P.tells → (device : Device) (contents : Blocks) → Holds session (P.history platform).present device contents → IfOk result (λ reply. Holds session (P.history platform).present (device_after reply device contents) contents))
    → IfErr result (IsCommitCause P T platform platform tape tape ledger ledger (commit_counts P T L platform tape ledger) (commit_counts P T L platform tape ledger))
    → Commits P T L platform platform tape tape ledger ledger session session result
commits_nothing P T L platform tape ledger session result opened array cause =
    let old = P.history platform in
    record {
      array = array;
      goes_on = on_any result _ (opened, refl, refl, refl);
      time = λ told device contents h. during_stands old old (Some device) (Some (committed_with device contents)) (held_stands session old.present device contents h) (still old);
      discloses = record {
        keys = keeps_idle P.tells (T.drawn tape) (T.drawn tape) old old (HoldsListed session old.present) _ refl (λ told. During-start old (λ image. image ≡ old.present) refl) (λ told keys kept h. on_any result _ h);
        turns = λ told. stays_once old old (still old);
        serves = λ told. serves_still old old (still old);
        forgets = λ told keys h. forgets_still old old (listed_sound session old.present keys h) (still old);
      };
      certifies = inl (refl, λ told. still old);
      synced = inl refl;
      cause = cause;
      quiet = on_any result _ refl;
      grows = record { rises = omega arith; at_most = omega arith; capacity = refl; platform_faults = omega arith; tape_faults = omega arith; ledger_faults = omega arith };
      unread = λ told. refl;
      changes = λ told. record { rises = omega arith; at_most = omega arith };
      behind = λ told. inl refl;
    }

-- a commit for which there was no room
pub commits_full : {S R W : Type 0} (P : PlatformGhosts S) (T : TapeGhosts R) (L : SinkGhosts W) (platform platform_now : S) (tape tape_now : R) (ledger : W) (session now : Session) (needed free : ℕ)
    → IsOpen session (P.head platform) → now ≡ session → platform_now ≡ platform → tape_now ≡ tape → Commits P T L platform platform_now tape tape_now ledger ledger session now (Ok (Full needed free))
commits_full P T L platform platform_now tape tape_now ledger session now needed free opened same_session same_platform same_tape =
    let all = commits_nothing P T L platform tape ledger session (Ok (Full needed free)) opened (λ told device contents h. h) tt in
    let one = subst (λ s. Commits P T L platform s tape tape ledger ledger session session (Ok (Full needed free))) (sym same_platform) all in
    let two = subst (λ t. Commits P T L platform platform_now tape t ledger ledger session session (Ok (Full needed free))) (sym same_tape) one in
    subst (λ s. Commits P T L platform platform_now tape tape_now ledger ledger session s (Ok (Full needed free))) (sym same_session) two

-- ---- a commit that ended before its root record

-- of the same platform and tape the counts are the same
pub same_counts : {S R W : Type 0} (P : PlatformGhosts S) (T : TapeGhosts R) (L : SinkGhosts W) (platform platform_now : S) (tape tape_now : R) (ledger : W) → platform_now ≡ platform → tape_now ≡ tape
    → commit_counts P T L platform_now tape_now ledger ≡ commit_counts P T L platform tape ledger
same_counts P T L platform platform_now tape tape_now ledger same_platform same_tape = λ k. commit_counts P T L (same_platform k) (same_tape k) ledger

-- a sync, and a replacement of the root record
sync_and_swap : (old mid new : ℕ) → MayRiseBy 1 old mid → MayRiseByOne mid new → MayRiseBy 2 old new
sync_and_swap old mid new sync swap = let a = sync.rises in let b = sync.at_most in let c = swap.rises in let d = swap.by_one in record { rises = omega (arith, a, c); at_most = omega (arith, b, d) }

pub commits_stopped : {S R W : Type 0} (P : PlatformGhosts S) (T : TapeGhosts R) (L : SinkGhosts W) (platform platform_now : S) (tape tape_now : R) (ledger : W) (session now : Session) (fault : CommitFault)
    → OnlyAdds P T 1 platform platform_now tape tape_now → P.head platform_now ≤ P.head platform + needed_by session
    → KeepsKeys P.tells (T.drawn tape) (T.drawn tape_now) (P.history platform) (P.history platform_now) (KnowsPlaces (P.history platform).present (places_of session.grove)) (λ keys. Unit {0})
    → IsCommitCause P T platform platform_now tape tape_now ledger ledger (commit_counts P T L platform tape ledger) (commit_counts P T L platform_now tape_now ledger) fault
    → (P.tells → MayRiseBy (most_commit (Err fault)) (P.changes platform) (P.changes platform_now)) → ChangesBehind P (needed_by session) platform platform_now
    → Commits P T L platform platform_now tape tape_now ledger ledger session now (Err fault)
commits_stopped P T L platform platform_now tape tape_now ledger session now fault adds within keeps cause changes behind =
    let old = P.history platform in
    let new = P.history platform_now in
    record {
      array = λ told device contents h. tt;
      goes_on = tt;
      time = λ told device contents h. during_stands old new (Some device) (Some (committed_with device contents)) (held_stands session old.present device contents h) (adds.cell told);
      discloses = record {
        keys = stopped_keys P.tells old new (T.drawn tape) (T.drawn tape_now) session keeps;
        turns = λ told. stays_once old new (adds.cell told);
        serves = λ told. serves_still old new (adds.cell told);
        forgets = λ told keys h. forgets_still old new (listed_sound session old.present keys h) (adds.cell told);
      };
      certifies = inl (refl, adds.cell);
      synced = inl refl;
      cause = cause;
      quiet = tt;
      grows = record { rises = adds.head; at_most = within; capacity = adds.capacity; platform_faults = adds.platform_faults; tape_faults = adds.tape_faults; ledger_faults = omega arith };
      unread = adds.reads;
      changes = changes;
      behind = behind;
    }

-- ---- a commit whose last step was taken or failed

-- the calls of a commit: the tree was sealed, the line put, and the root record replaced, or not
pub record IsCommitting {S R W : Type 0} (P : PlatformGhosts S) (T : TapeGhosts R) (L : SinkGhosts W) (platform mid new : S) (tape tape_now : R) (ledger ledger_now : W) (session : Session) (prepared : Prepared) (Was : Type 0) : Type 0 where
  pub readied : IsReadied P.tells (P.history platform) (P.history mid) (T.drawn tape) (T.drawn tape_now) session (P.head platform) (P.head mid) prepared
  pub keeps : KeepsSealed P.tells (T.drawn tape) (T.drawn tape_now) (P.history platform) (P.history mid) session prepared
  pub adds : OnlyAdds P T 1 platform mid tape tape_now
  pub within : P.head mid ≤ P.head platform + needed_by session
  pub swaps : Swaps P mid new
  pub size : P.tells → length (P.history new).present.recorded ≡ length (P.history mid).present.recorded
  pub turns : P.tells → Publishes (P.history mid) (P.history new) prepared
  pub put : PutsLine P.tells (L.written ledger) (L.written ledger_now) (P.history mid) (P.history new) prepared.line prepared.root Was
  pub count : L.faults ledger ≤ L.faults ledger_now
  pub quiet : (P.faults mid ≡ P.faults platform) × (T.faults tape_now ≡ T.faults tape)

-- what it discloses
commit_discloses : {S R W : Type 0} (P : PlatformGhosts S) (T : TapeGhosts R) (L : SinkGhosts W) (platform mid new : S) (tape tape_now : R) (ledger ledger_now : W) (session : Session) (prepared : Prepared) (Was : Type 0) (Done : List (List ℕ) → Type 0)
    → IsCommitting P T L platform mid new tape tape_now ledger ledger_now session prepared Was
    → (P.tells → (device : Device) (contents : Blocks) → Holds session (P.history platform).present device contents → (keys : List (List ℕ)) → Done keys)
    → Discloses P.tells (T.drawn tape) (T.drawn tape_now) (P.history platform) (P.history new) (HoldsListed session (P.history platform).present) Done
commit_discloses P T L platform mid new tape tape_now ledger ledger_now session prepared Was Done all done =
    let first = P.history platform in
    let second = P.history mid in
    let third = P.history new in
    let r = all.readied in
    let X = with_next second prepared in
    let turned : P.tells → Turns first third (λ image. image.cell ≡ first.present.cell) (λ image. image ≡ X) = λ told. then_published first second third X (r.cell told) (all.turns told) in
    record {
      keys = commit_keys P.tells first second third (T.drawn tape) (T.drawn tape_now) session (P.head platform) (P.head mid) prepared Done r all.keeps all.size all.turns done;
      turns = λ told. once first third X (turned told);
      serves = λ told served. serves_turned first third X (turned told) served
          (served_published second.present prepared.root (P.head mid) (r.counts_now told) (next_within P.tells first second (T.drawn tape) (T.drawn tape_now) session (P.head platform) (P.head mid) prepared r));
      forgets = λ told keys h. commit_forgets P.tells first second third (T.drawn tape) (T.drawn tape_now) session (P.head platform) (P.head mid) prepared keys r told (all.turns told) h;
    }

commit_grows : {S R W : Type 0} (P : PlatformGhosts S) (T : TapeGhosts R) (L : SinkGhosts W) (platform mid new : S) (tape tape_now : R) (ledger ledger_now : W) (session : Session) (prepared : Prepared) (Was : Type 0)
    → IsCommitting P T L platform mid new tape tape_now ledger ledger_now session prepared Was → GrowsBy P T L (needed_by session) platform new tape tape_now ledger ledger_now
commit_grows P T L platform mid new tape tape_now ledger ledger_now session prepared Was all = record {
  rises = omega (arith, all.adds.head, all.swaps.head);
  at_most = omega (arith, all.within, all.swaps.head);
  capacity = all.swaps.capacity ∙ all.adds.capacity;
  platform_faults = omega (arith, all.adds.platform_faults, all.swaps.faults);
  tape_faults = all.adds.tape_faults;
  ledger_faults = all.count;
}

-- all pages were synced before the line was put
commit_synced : {S R W : Type 0} (P : PlatformGhosts S) (T : TapeGhosts R) (L : SinkGhosts W) (platform mid new : S) (tape tape_now : R) (ledger ledger_now : W) (session : Session) (prepared : Prepared) (Was : Type 0)
    → IsCommitting P T L platform mid new tape tape_now ledger ledger_now session prepared Was → PutsSynced P (needed_by session) platform new ledger ledger_now
commit_synced P T L platform mid new tape tape_now ledger ledger_now session prepared Was all =
    let is = all.readied.ready.is in
    inr (
      all.swaps.head ∙ is.grown,
      λ told.
          let first = P.history mid in
          let last = P.history new in
          let synced : first.present.synced ≡ length first.present.recorded = ap (λ (i : Image). i.synced) (is.synced told) ∙ sym (ap (λ (i : Image). length i.recorded) (is.synced told)) in
          omega (arith, synced, (Extends-earlier first last (all.turns told).extends).synced, (whole-now last).synced, all.size told),
    )

-- why the last steps failed
failed_cause : {S R W : Type 0} (P : PlatformGhosts S) (T : TapeGhosts R) (L : SinkGhosts W) (platform mid new : S) (tape tape_now : R) (ledger ledger_now : W) (session : Session) (prepared : Prepared) (Was : Type 0) (fault : CommitFault)
    → IsCommitting P T L platform mid new tape tape_now ledger ledger_now session prepared Was
    → IsPublishCause (Still P mid new) (counts (P.faults mid) 0 0 0 (L.faults ledger)) (counts (P.faults new) 0 0 0 (L.faults ledger_now)) (refused fault)
    → IsCommitCause P T platform new tape tape_now ledger ledger_now (commit_counts P T L platform tape ledger) (commit_counts P T L new tape_now ledger_now) fault
failed_cause P T L platform mid new tape tape_now ledger ledger_now session prepared Was fault.PlatformFault all cause = (
  subst (λ (n : ℕ). Rose n (P.faults new)) all.quiet.0 cause.0,
  λ k. counts (P.faults new) (all.quiet.1 k) 0 0 (cause.1 k).ledger,
)
failed_cause P T L platform mid new tape tape_now ledger ledger_now session prepared Was fault.LedgerFault all cause =
    let before_put : P.faults new ≡ P.faults platform = ap (λ (c : Counts). c.platform) cause.0.1 ∙ all.quiet.0 in (
      (cause.0.0, λ k. counts (before_put k) (all.quiet.1 k) 0 0 (L.faults ledger_now)),
      λ told. stays_then (P.history platform) (P.history mid) (P.history new) (all.adds.cell told) (cause.1 told).0,
    )
failed_cause P T L platform mid new tape tape_now ledger ledger_now session prepared Was fault.TapeFault all cause = absurd cause
failed_cause P T L platform mid new tape tape_now ledger ledger_now session prepared Was fault.Memory all cause = absurd cause

-- how often they synced and replaced the root record
failed_changes : {S R W : Type 0} (P : PlatformGhosts S) (T : TapeGhosts R) (L : SinkGhosts W) (platform mid new : S) (tape tape_now : R) (ledger ledger_now : W) (session : Session) (prepared : Prepared) (Was : Type 0) (fault : CommitFault)
    → IsCommitting P T L platform mid new tape tape_now ledger ledger_now session prepared Was
    → IsPublishCause (Still P mid new) (counts (P.faults mid) 0 0 0 (L.faults ledger)) (counts (P.faults new) 0 0 0 (L.faults ledger_now)) (refused fault)
    → P.tells → MayRiseBy (most_commit (Err fault)) (P.changes platform) (P.changes new)
failed_changes P T L platform mid new tape tape_now ledger ledger_now session prepared Was fault.PlatformFault all cause told = sync_and_swap (P.changes platform) (P.changes mid) (P.changes new) (all.adds.changes told) (all.swaps.changes told)
failed_changes P T L platform mid new tape tape_now ledger ledger_now session prepared Was fault.LedgerFault all cause told =
    let same = (cause.1 told).1 in let one = all.adds.changes told in let least = one.rises in let most = one.at_most in record { rises = omega (arith, same, least); at_most = omega (arith, same, most) }
failed_changes P T L platform mid new tape tape_now ledger ledger_now session prepared Was fault.TapeFault all cause told = absurd cause
failed_changes P T L platform mid new tape tape_now ledger ledger_now session prepared Was fault.Memory all cause told = absurd cause

-- where the last step failed
pub commits_failed : {S R W : Type 0} (P : PlatformGhosts S) (T : TapeGhosts R) (L : SinkGhosts W) (platform mid new : S) (tape tape_now : R) (ledger ledger_now : W) (session now : Session) (prepared : Prepared) (Was : Type 0) (fault : CommitFault)
    → IsCommitting P T L platform mid new tape tape_now ledger ledger_now session prepared Was
    → IsPublishCause (Still P mid new) (counts (P.faults mid) 0 0 0 (L.faults ledger)) (counts (P.faults new) 0 0 0 (L.faults ledger_now)) (refused fault)
    → Commits P T L platform new tape tape_now ledger ledger_now session now (Err fault)
commits_failed P T L platform mid new tape tape_now ledger ledger_now session now prepared Was fault all cause = record {
  array = λ told device contents h. tt;
  goes_on = tt;
  time = λ told device contents h. commit_turns P.tells (P.history platform) (P.history mid) (P.history new) (T.drawn tape) (T.drawn tape_now) session (P.head platform) (P.head mid) prepared device contents all.readied told (all.turns told) h;
  discloses = commit_discloses P T L platform mid new tape tape_now ledger ledger_now session prepared Was (λ keys. Unit {0}) all (λ told device contents h keys. tt);
  certifies = commit_certifies P.tells (L.written ledger) (L.written ledger_now) (P.history platform) (P.history mid) (P.history new) (T.drawn tape) (T.drawn tape_now) session (P.head platform) (P.head mid) prepared Was (done (Err fault)) all.readied
      (λ was ok. absurd cc) all.turns all.put;
  synced = commit_synced P T L platform mid new tape tape_now ledger ledger_now session prepared Was all;
  cause = failed_cause P T L platform mid new tape tape_now ledger ledger_now session prepared Was fault all cause;
  quiet = tt;
  grows = commit_grows P T L platform mid new tape tape_now ledger ledger_now session prepared Was all;
  unread = λ told. all.swaps.reads told ∙ all.adds.reads told;
  changes = failed_changes P T L platform mid new tape tape_now ledger ledger_now session prepared Was fault all cause;
  behind = λ told. inr (all.swaps.head ∙ all.readied.ready.is.grown);
}

-- ---- the session after a commit

-- nodes that are sealed are what their pages are
sealed_of_pages : (pages : List (List ℕ)) (ns : List Sealed) → AllByRecursion (IsNodeAt pages) ns → AllByRecursion (λ (n : Sealed). IsOfPage pages (cached_as n)) ns
sealed_of_pages pages [] at = tt
sealed_of_pages pages (n ∷ ns) at = (record { version = refl; is = at.0 }, sealed_of_pages pages ns at.1)

-- the nodes that it keeps are what the pages are still
pub committed_cached : {S R W : Type 0} (P : PlatformGhosts S) (T : TapeGhosts R) (L : SinkGhosts W) (platform mid new : S) (tape tape_now : R) (ledger ledger_now : W) (session now : Session) (prepared : Prepared) (Was : Type 0)
    → (all : IsCommitting P T L platform mid new tape tape_now ledger ledger_now session prepared Was) → TakesUp session all.readied.cache prepared.root now → P.tells → (P.history new).present ≡ with_next (P.history mid) prepared → StandsOver (P.history platform).present.readable session.cache
    → StandsOver (P.history new).present.readable now.cache
committed_cached P T L platform mid new tape tape_now ledger ledger_now session now prepared Was all taken told published stands =
    let is = all.readied.ready.is in
    let ns = is.adds.nodes in
    let more = map page_of ns in
    let old = (P.history platform).present in
    let reads : (P.history new).present.readable ≡ old.readable ++ more
    = ap (λ (i : Image). i.readable) published ∙ ap (λ (i : Image). i.readable) (is.synced told) ∙ ap (λ (i : Image). i.readable) (is.adds.image told) in
    let gone = session.grove.gone.items in
    let kept = All-weaker (IsOfPage old.readable) (IsOfPage (old.readable ++ more)) (λ k of. record { version = of.version; is = record_stays old.readable more k.addr k.key (NodeRecord k.node.level k.node.entries.items) of.is }) (without_all gone session.cache.nodes)
    (All-without_all (IsOfPage old.readable) gone session.cache.nodes stands) in
    let from : P.head platform ≡ length old.readable = sym (all.readied.counts told) ∙ sym (whole-now (P.history platform)).as_many in
    let small : P.head platform + length ns ≤ 2 ^ 64 = omega (arith, is.adds.head, is.next_is.head_is, is.in_range.head) in
    let sealed = All-sealed (IsOfPage (old.readable ++ more)) (forgotten gone session.cache) ns kept
    (sealed_of_pages (old.readable ++ more) ns (records_at session.root.version (P.head platform) old.readable ns from is.over.order.from is.over.order.fits small)) in
    subst (λ (pages : List (List ℕ)). StandsOver pages now.cache) (sym reads)
    (taken_cached session now all.readied.cache prepared.root (old.readable ++ more) taken (subst (StandsOver (old.readable ++ more)) (sym is.cached) sealed))

-- with the new root record in the cell it has the array of the device after
committed_holds : {S R W : Type 0} (P : PlatformGhosts S) (T : TapeGhosts R) (L : SinkGhosts W) (platform mid new : S) (tape tape_now : R) (ledger ledger_now : W) (session now : Session) (prepared : Prepared) (Was : Type 0) (device : Device) (contents : Blocks)
    → (all : IsCommitting P T L platform mid new tape tape_now ledger ledger_now session prepared Was) → TakesUp session all.readied.cache prepared.root now → P.tells → (P.history new).present ≡ with_next (P.history mid) prepared → Holds session (P.history platform).present device contents
    → Holds now (P.history new).present (committed_with device contents) contents
committed_holds P T L platform mid new tape tape_now ledger ledger_now session now prepared Was device contents all taken told published h =
    let first = P.history platform in
    let second = P.history mid in
    let r = all.readied in
    let with = next_tree P.tells first second (T.drawn tape) (T.drawn tape_now) session (P.head platform) (P.head mid) prepared device contents r told h in
    let stands = next_stands P.tells first second (T.drawn tape) (T.drawn tape_now) session (P.head platform) (P.head mid) prepared device contents r told h in
    let by = subst (λ (i : Image). StandsBy i (committed_with device contents) prepared.root with.parts) (sym published) stands in
    let cached = committed_cached P T L platform mid new tape tape_now ledger ledger_now session now prepared Was all taken told published h.cached in
    let among = taken_among session now r.cache prepared.root h.committed.places (joined h.each).places with.parts.places r.ready.is.adds.nodes taken r.ready.is.cached h.tree.accounted.accounts.left with.are.places h.among in
    taken_holds session now r.cache prepared.root (P.history new).present (committed_with device contents) with.parts taken by (whole-now (P.history new)).synced (sym r.ready.is.next_is.mapped_is) cached among

pub commits_done : {S R W : Type 0} (P : PlatformGhosts S) (T : TapeGhosts R) (L : SinkGhosts W) (platform mid new : S) (tape tape_now : R) (ledger ledger_now : W) (session now : Session) (prepared : Prepared) (Was : Type 0) (number : ℕ)
    → (all : IsCommitting P T L platform mid new tape tape_now ledger ledger_now session prepared Was) → ((Was → ⊥) → ⊥) → TakesUp session all.readied.cache prepared.root now → (P.tells → (P.history new).present ≡ with_next (P.history mid) prepared) → number ≡ prepared.root.commit
    → counts (P.faults new) 0 0 0 (L.faults ledger_now) ≡ counts (P.faults mid) 0 0 0 (L.faults ledger)
    → Commits P T L platform new tape tape_now ledger ledger_now session now (Ok (Committed number))
commits_done P T L platform mid new tape tape_now ledger ledger_now session now prepared Was number all was taken published number_is quiet =
    let r = all.readied in
    let next = prepared.root in
    let within = next_within P.tells (P.history platform) (P.history mid) (T.drawn tape) (T.drawn tape_now) session (P.head platform) (P.head mid) prepared r in
    let holds : P.tells → (device : Device) (contents : Blocks) → Holds session (P.history platform).present device contents → Holds now (P.history new).present (committed_with device contents) contents
    = λ told device contents h. committed_holds P T L platform mid new tape tape_now ledger ledger_now session now prepared Was device contents all taken told (published told) h in
    record {
      array = λ told device contents h.
          let counted : device.number + 1 ≡ number = sym (number_is ∙ r.ready.is.next_is.commit ∙ ap (λ (n : ℕ). n + 1) h.stands.number) in
          subst (λ (n : ℕ). Holds now (P.history new).present (record device { number = n; contents = contents }) contents) counted (holds told device contents h);
      goes_on = (
        taken_open session now r.cache next (P.head new) taken (record { in_range = within.in_range; key = within.key; within = omega (arith, within.within, all.swaps.head) }) (omega (arith, r.is_open.mapped, r.ready.is.next_is.blocks)),
        ap (λ (root : Root). root.blocks) taken.root_is ∙ r.ready.is.next_is.blocks,
        taken.mapped,
        ap (λ (k : Cached). k.capacity) (taken.cached ∙ ap (forgotten session.grove.gone.items) r.ready.is.cached) ∙ capacity_sealed (forgotten session.grove.gone.items session.cache) r.ready.is.adds.nodes,
      );
      time = λ told device contents h. commit_turns P.tells (P.history platform) (P.history mid) (P.history new) (T.drawn tape) (T.drawn tape_now) session (P.head platform) (P.head mid) prepared device contents r told (all.turns told) h;
      discloses = commit_discloses P T L platform mid new tape tape_now ledger ledger_now session prepared Was (λ keys. HoldsListed now (P.history new).present keys) all
          (λ told device contents h keys. listed_fresh now (P.history new).present (committed_with device contents) contents keys (taken_pages session now r.cache next taken r.ready.is.in_range) (holds told device contents h));
      certifies = commit_certifies P.tells (L.written ledger) (L.written ledger_now) (P.history platform) (P.history mid) (P.history new) (T.drawn tape) (T.drawn tape_now) session (P.head platform) (P.head mid) prepared Was (done (Ok (Committed number))) r
          (λ never ok. was never) all.turns all.put;
      synced = commit_synced P T L platform mid new tape tape_now ledger ledger_now session prepared Was all;
      cause = tt;
      quiet =
          let same : P.faults new ≡ P.faults platform = ap (λ (c : Counts). c.platform) quiet ∙ all.quiet.0 in
          λ k. counts (same k) (all.quiet.1 k) 0 0 (quiet k).ledger;
      grows = commit_grows P T L platform mid new tape tape_now ledger ledger_now session prepared Was all;
      unread = λ told. all.swaps.reads told ∙ all.adds.reads told;
      changes = λ told. sync_and_swap _ _ _ (all.adds.changes told) (all.swaps.changes told);
      behind = λ told. inr (all.swaps.head ∙ all.readied.ready.is.grown);
    }

pub commits_raised : {S R W : Type 0} (P : PlatformGhosts S) (T : TapeGhosts R) (L : SinkGhosts W) (platform mid new : S) (tape tape_now : R) (ledger ledger_now : W) (session now : Session) (prepared : Prepared) (Was : Type 0) (number : ℕ)
    → (all : IsCommitting P T L platform mid new tape tape_now ledger ledger_now session prepared Was) → TakesUp session all.readied.cache prepared.root now → (P.tells → (P.history new).present ≡ with_next (P.history mid) prepared) → number ≡ prepared.root.commit
    → HasRaised P T platform new tape tape_now session now (Committed number)
commits_raised P T L platform mid new tape tape_now ledger ledger_now session now prepared Was number all taken published number_is =
    let r = all.readied in
    let is = r.ready.is in
    let last = last_sealed P.tells (P.history platform) (P.history mid) (T.drawn tape) (T.drawn tape_now) session (P.head platform) (P.head mid) prepared r in
    record {
      replied = ap Committed (number_is ∙ is.next_is.commit);
      number = ap (λ (root : Root). root.commit) taken.root_is ∙ is.next_is.commit;
      untouched = taken.untouched;
      counted = ap (λ (root : Root). root.mapped) taken.root_is ∙ is.next_is.mapped_is;
      pages = taken_pages session now r.cache prepared.root taken is.in_range;
      tree = subst (λ (root : Root). IsTreeOf root now.grove) (sym taken.root_is) taken.tree;
      wiped = taken.wiped;
      cached = record { nodes = is.adds.nodes; from = is.over.order.from; many = omega (arith, is.grown, is.adds.head); is = taken.cached ∙ ap (forgotten session.grove.gone.items) is.cached };
      forgot = subst (λ (k : Cached). All (λ addr. All (λ node. node.addr ≢ addr) k.nodes) session.grove.gone.items) (sym taken.cached) (none-without_all session.grove.gone.items r.cache.nodes);
      head = all.swaps.head ∙ is.grown;
      drew =
          let nodes = is.adds.nodes in
          let keys = map (λ (n : Sealed). bare n.key) nodes in
          let many : length keys ≡ length nodes = length-map nodes (λ (n : Sealed). bare n.key) in
          (keys, omega (arith, many, is.grown, is.adds.head), is.adds.drew);
      reads = λ told. all.swaps.reads told ∙ all.adds.reads told;
      names = subst (NamesLast (T.drawn tape) (T.drawn tape_now) (P.head new)) (sym taken.root_is) (record {
        earlier = last.earlier;
        drew = subst (λ (keys : List (List ℕ)). DrewAll (T.drawn tape) keys (T.drawn tape_now)) last.keys is.adds.drew;
        node = is.next_is.addr ∙ sym all.swaps.head;
        head = is.next_is.head_is ∙ sym all.swaps.head;
      });
      cell = λ told. ap (λ (i : Image). i.cell) (published told) ∙ ap (λ (root : Root). Some (root_bytes root)) (sym taken.root_is);
      keys = λ told device contents h.
          held_knows now (P.history new).present (committed_with device contents) contents (subst (λ (root : Root). IsTreeOf root now.grove) (sym taken.root_is) taken.tree) taken.none_held
          (committed_holds P T L platform mid new tape tape_now ledger ledger_now session now prepared Was device contents all taken told (published told) h);
    }
