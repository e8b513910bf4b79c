use Rattle.std.proofs.Common.{◌≡◌, ◌*◌, ◌∙◌, ℕ, [], Option, None, true, false, refl, sym, subst, arith, ap}
use Rattle.sdbt_base.proofs.RiseLaws.{counted_few, counted_not}
use Rattle.nbd_lang.specs.Requests.{bytes_behind}
use Rattle.session_calls.proofs.CarryLaws.{carries_along, carries_end, carries_going}
use Rattle.device_session.specs.Open.{blocks_of}
use Rattle.nbd_lang.specs.Refusals.{refusal}
use Rattle.nbd_lang.specs.declared.replies.Outcome.{Outcome}
use Rattle.device_session.specs.Sessions.{Session}
use Rattle.nbd_core.proofs.DataLaws.{data_over, data_went, no_data}
use Rattle.nbd_core.proofs.BlameLaws.{blame_as, blame_on, ends_both, flush_comes, flush_may_halt}
use Rattle.nbd_core.proofs.DamageLaws.{flush_says}
use Rattle.nbd_core.proofs.NearLaws.{blocks_add, flush_adds, no_commit}
use Rattle.nbd_core.proofs.ReadLaws.{reads_refused}
use Rattle.nbd_core.proofs.ShortLaws.{blocks_spend, flush_spends}
use Rattle.nbd_core.proofs.TurnLaws.{blocks_halted, blocks_performed, flush_performed}
use Rattle.nbd_core.specs.Turns.{ComesTo, MayHalt}
use Rattle.nbd_core.proofs.ChangeLaws.{changes_is}
use Rattle.nbd_lang.specs.declared.requests.RequestKind.TheVariants.{Flush}
use Rattle.nbd_core.proofs.KeepLaws.{keeps_as, keeps_same, room_refused}
use Rattle.nbd_core.proofs.serving.perform.Goals as goal

size_of_session : (session : Session) (blocks : ℕ) → blocks ≡ blocks_of session → 4096 * blocks_of session ≡ blocks * 4096
size_of_session session blocks is = omega (arith, is)

pub returns-in-Ok-clause-carries : goal.returns-in-Ok-clause-carries
returns-in-Ok-clause-carries g c =
    carries_going _ _ _ _ _ _ _ (λ going. tt) (carries_along g.P.Platform g.T.Tape g.L.Sink _ _ _ _ _ _ _ _ _ c.requires.ready c.in-Ok.ensures.along)

pub returns-in-Err-clause-carries : goal.returns-in-Err-clause-carries
returns-in-Err-clause-carries g c =
    carries_end _ _ _ _ _ _ _ (λ never. tt) (carries_along g.P.Platform g.T.Tape g.L.Sink _ _ _ _ _ _ _ _ _ c.requires.ready c.in-Err.ensures.along)

pub returns-in-Ok-clause-blame : goal.returns-in-Ok-clause-blame
returns-in-Ok-clause-blame g c rest = blame_on _ _ c.in-Ok.outcome _ (c.in-Ok.ensures.blame (record rest { ledger = g.L.Sink.faults c.args.ledger.now }))

pub returns-in-Err-clause-blame : goal.returns-in-Err-clause-blame
returns-in-Err-clause-blame g c rest = blame_as _ _ c.in-Err.halt (c.in-Err.ensures.blame (record rest { ledger = g.L.Sink.faults c.args.ledger.now }))

pub returns-then-is_flush-clause-blame : goal.returns-then-is_flush-clause-blame
returns-then-is_flush-clause-blame g c rest = c.flush.ensures.blame (record rest { input = g.I.Source.faults c.args.input.now })

pub returns-then-is_flush-clause-bytes : goal.returns-then-is_flush-clause-bytes
returns-then-is_flush-clause-bytes g c =
    let both = c.if-is_flush.ensures.0 refl in
    no_data (g.I.Source.left c.args.input.now) c.args.intake.now _ _ c.flush.result (ap (λ k. bytes_behind k c.args.request.now.length) both.0) (c.flush.ensures.halts (g.I.Source.left c.args.input.now) c.args.intake.now.ahead) (
      flush_performed _ _ _ _ c.args.request.now _ c.flush.result both.0 (ap (λ (n : ℕ). refusal n c.args.request.now) (size_of_session c.args.first _ c.blocks-2.ensures) ∙ sym c.refusal-refused.ensures ∙ both.1) c.flush.ensures.flushes,
      (λ told. flush_says _ _ _ c.args.request.now [] _ c.flush.result both.0 c.flush.ensures.says),
    )

pub returns-in-Ok-clause-bytes : goal.returns-in-Ok-clause-bytes
returns-in-Ok-clause-bytes g c =
    let whole = c.refusal-refused.ensures ∙ ap (λ (n : ℕ). refusal n c.args.request.now) (sym (size_of_session c.args.first _ c.blocks-2.ensures)) in
    data_went _ _ _ _ _ _ _ c.in-Ok.outcome (record { session = c.serve_blocks.new.session; outcome = c.in-Ok.outcome })
    (λ gone both. (
      blocks_performed g.P.Platform g.T.Tape g.L.Sink _ _ _ _ _ _ _ c.args.request.now c.refusal-refused.result gone _ whole c.in-Ok.ensures.along.cell both.0,
      (λ told. both.1 told (c.requires.ready.mounted told)),
    )) c.in-Ok.ensures.bytes

pub returns-in-Err-clause-bytes : goal.returns-in-Err-clause-bytes
returns-in-Err-clause-bytes g c =
    data_over _ _ _ _ _ _ _ c.in-Err.halt
    (λ gone ends. (
      λ told entry held. blocks_halted _ _ _ entry c.args.request.now.kind c.refusal-refused.result c.in-Err.halt held c.in-Err.ensures.ends
          (λ none. no_commit c.args.request.now.kind c.requires.kind (λ flush. let no : false ≡ true = c.if-is_flush.ensures.1 (flush, none) in cc)) (c.in-Err.ensures.along.cell told),
      λ told. tt,
    )) c.in-Err.ensures.bytes

pub returns-then-is_flush-clause-spends : goal.returns-then-is_flush-clause-spends
returns-then-is_flush-clause-spends g c n few =
    let both = c.if-is_flush.ensures.0 refl in
    flush_spends _ _ _ _ n c.args.request.now c.args.first c.flush.result both.0
    (ap (λ (s : ℕ). refusal s c.args.request.now) (size_of_session c.args.first _ c.blocks-2.ensures) ∙ sym c.refusal-refused.ensures ∙ both.1) few c.flush.ensures.spends

pub returns-in-Ok-clause-spends : goal.returns-in-Ok-clause-spends
returns-in-Ok-clause-spends g c n few =
    let whole = c.refusal-refused.ensures ∙ ap (λ (s : ℕ). refusal s c.args.request.now) (sym (size_of_session c.args.first _ c.blocks-2.ensures)) in
    blocks_spend _ _ n c.args.request.now c.refusal-refused.result c.args.first c.serve_blocks.new.session c.in-Ok.outcome whole few c.in-Ok.ensures.along.needs c.in-Ok.ensures.short
    (λ flush none. let no : false ≡ true = c.if-is_flush.ensures.1 (flush, none) in cc)

pub returns-then-is_flush-clause-ends : goal.returns-then-is_flush-clause-ends
returns-then-is_flush-clause-ends g c =
    let both = c.if-is_flush.ensures.0 refl in
    let whole = ap (λ (s : ℕ). refusal s c.args.request.now) (size_of_session c.args.first _ c.blocks-2.ensures) ∙ sym c.refusal-refused.ensures ∙ both.1 in
    ends_both c.args.request.now.kind _ c.flush.result (flush_comes c.args.request.now.kind _ c.flush.result both.0 whole c.flush.ensures.comes) (flush_may_halt c.args.request.now.kind _ c.flush.result both.0 whole (c.flush.ensures.halts None []))

pub returns-in-Ok-clause-ends : goal.returns-in-Ok-clause-ends
returns-in-Ok-clause-ends g c =
    let whole = c.refusal-refused.ensures ∙ ap (λ (s : ℕ). refusal s c.args.request.now) (sym (size_of_session c.args.first _ c.blocks-2.ensures)) in
    subst (λ (r : Option Outcome). ComesTo c.args.request.now.kind r c.in-Ok.outcome) whole c.in-Ok.ensures.ends

pub returns-in-Err-clause-ends : goal.returns-in-Err-clause-ends
returns-in-Err-clause-ends g c =
    let whole = c.refusal-refused.ensures ∙ ap (λ (s : ℕ). refusal s c.args.request.now) (sym (size_of_session c.args.first _ c.blocks-2.ensures)) in
    subst (λ (r : Option Outcome). MayHalt c.args.request.now.kind r c.in-Err.halt) whole c.in-Err.ensures.ends

pub returns-then-is_flush-clause-reads : goal.returns-then-is_flush-clause-reads
returns-then-is_flush-clause-reads g c told = omega (arith, c.flush.ensures.reads told)

pub returns-in-Ok-clause-reads : goal.returns-in-Ok-clause-reads
returns-in-Ok-clause-reads g c told =
    let whole = c.refusal-refused.ensures ∙ ap (λ (s : ℕ). refusal s c.args.request.now) (sym (size_of_session c.args.first _ c.blocks-2.ensures)) in
    omega (arith, c.in-Ok.ensures.along.reads told, reads_refused _ c.args.request.now c.refusal-refused.result whole)

pub returns-in-Err-clause-reads : goal.returns-in-Err-clause-reads
returns-in-Err-clause-reads g c told =
    let whole = c.refusal-refused.ensures ∙ ap (λ (s : ℕ). refusal s c.args.request.now) (sym (size_of_session c.args.first _ c.blocks-2.ensures)) in
    omega (arith, c.in-Err.ensures.along.reads told, reads_refused _ c.args.request.now c.refusal-refused.result whole)

pub returns-then-is_flush-clause-adds : goal.returns-then-is_flush-clause-adds
returns-then-is_flush-clause-adds g c n few =
    let both = c.if-is_flush.ensures.0 refl in
    flush_adds _ n _ _ c.args.request.now c.args.first c.flush.result both.0
    (ap (λ (s : ℕ). refusal s c.args.request.now) (size_of_session c.args.first _ c.blocks-2.ensures) ∙ sym c.refusal-refused.ensures ∙ both.1) few c.flush.ensures.adds

pub returns-in-Err-clause-adds : goal.returns-in-Err-clause-adds
returns-in-Err-clause-adds g c n few =
    let whole = c.refusal-refused.ensures ∙ ap (λ (s : ℕ). refusal s c.args.request.now) (sym (size_of_session c.args.first _ c.blocks-2.ensures)) in
    blocks_add _ n _ _ c.args.request.now c.refusal-refused.result c.in-Err.halt whole c.in-Err.ensures.ends c.requires.kind (λ flush none. let no : false ≡ true = c.if-is_flush.ensures.1 (flush, none) in cc) c.in-Err.ensures.adds

pub returns-then-is_flush-clause-changes : goal.returns-then-is_flush-clause-changes
returns-then-is_flush-clause-changes g c told =
    let both = c.if-is_flush.ensures.0 refl in
    let whole = ap (λ (s : ℕ). refusal s c.args.request.now) (size_of_session c.args.first _ c.blocks-2.ensures) ∙ sym c.refusal-refused.ensures ∙ both.1 in
    counted_few 2 _ _ _ (omega (arith, changes_is _ c.args.request.now Flush whole both.0)) (c.flush.ensures.changes told)

pub returns-in-Ok-clause-changes : goal.returns-in-Ok-clause-changes
returns-in-Ok-clause-changes g c told = counted_not _ _ _ (c.in-Ok.ensures.along.changes told)

pub returns-in-Err-clause-changes : goal.returns-in-Err-clause-changes
returns-in-Err-clause-changes g c told = counted_not _ _ _ (c.in-Err.ensures.along.changes told)

pub returns-then-is_flush-clause-keeps : goal.returns-then-is_flush-clause-keeps
returns-then-is_flush-clause-keeps g c = keeps_same _ _ _ _ _ refl refl

pub returns-in-Ok-clause-keeps : goal.returns-in-Ok-clause-keeps
returns-in-Ok-clause-keeps g c =
    let whole = c.refusal-refused.ensures ∙ ap (λ (s : ℕ). refusal s c.args.request.now) (sym (size_of_session c.args.first _ c.blocks-2.ensures)) in
    keeps_as _ _ _ _ _ _ (room_refused _ c.args.request.now c.refusal-refused.result whole) c.in-Ok.ensures.keeps

pub returns-in-Err-clause-keeps : goal.returns-in-Err-clause-keeps
returns-in-Err-clause-keeps g c =
    let whole = c.refusal-refused.ensures ∙ ap (λ (s : ℕ). refusal s c.args.request.now) (sym (size_of_session c.args.first _ c.blocks-2.ensures)) in
    keeps_as _ _ _ _ _ _ (room_refused _ c.args.request.now c.refusal-refused.result whole) c.in-Err.ensures.keeps
