use Rattle.std.proofs.Common.{Contains, ◌≡◌, ◌∙◌, ap, sym, subst, refl, ◌+◌, ◌<◌, ℕ, Err, arith}
use Rattle.std.proofs.lemmas.Result.{err_from_is_err_and}
use Rattle.platform.proofs.Moments.{During-step}
use Rattle.node_codec.specs.Record.{DataRecord, record_bytes}
use Rattle.page_store.specs.declared.wants.Want.{Want}
use Rattle.page_store.specs.declared.refusals.FetchRefusal.TheVariants.{BadRecord}
use Rattle.page_store.specs.Buffer.{content_of}
use Rattle.page_store.specs.Keeping.{IsNextRecord}
use Rattle.page_store.specs.Places.{FitsAt, IsWantedRecord, NothingFits}
use Rattle.page_store.specs.Stands.{IsSound}
use Rattle.page_store.proofs.KeepingLaws.{keeps_idle, keeps_then}
use Rattle.sdbt_base.specs.Bytes.{IsBytes}
use Rattle.sdbt_base.specs.Keys.{bare, version_of}
use Rattle.tree_build.specs.Building.{OnlyAdds}
use Rattle.tree_build.proofs.AddingLaws.{adds_one, adds_read, adds_then, adds_within, drew_placed}
use Rattle.device_core.proofs.CopyingLaws.{if_err, unread_bad, body_of, copied_one}
use Rattle.device_core.proofs.copying.copy_record.Given.{Over}
use Rattle.device_core.proofs.copying.copy_record.Goals.{After-append}
use Rattle.device_core.proofs.copying.copy_record.Goals as goal

-- what was read is in range
in_range : (g : Over) (c : After-append g) → (c.args.entry.now.low < 1048576) × IsBytes 4096 (content_of c.fetch_block.new.buf)
in_range g c = (c.requires.block, (subst (λ (w : Want). IsWantedRecord (version_of c.args.entry.now.key) w c.fetch_block.new.buf.body (DataRecord w.low (content_of c.fetch_block.new.buf))) c.of_block-want.ensures c.in_ok-fetch_block.ensures.wanted).in_range.1)

-- the body that is sealed is the data record of this
sealed : (g : Over) (c : After-append g) → (version : ℕ) → c.put_block.new.self.body ≡ record_bytes version (g.P.Platform.head c.fetch_block.new.platform) (DataRecord c.args.entry.now.low (content_of c.fetch_block.new.buf))
sealed g c = body_of c.args.target.now c.put_block.new.self c.head.result (g.P.Platform.head c.fetch_block.new.platform) c.args.entry.now.low c.content.result.now (content_of c.fetch_block.new.buf) c.put_block.ensures c.content.ensures.value c.content.ensures.size c.head.ensures.value

pub returns-in_err-fetch_block-clause-wrong : goal.returns-in_err-fetch_block-clause-wrong
returns-in_err-fetch_block-clause-wrong g c =
    let p = err_from_is_err_and c.from_residual.result c.from_residual.ensures.1 in
    let pages = (g.P.Platform.history c.args.platform.now).present.readable in
    rw (p.1, p.2) (λ told addr is.
    let same : c.in_err-fetch_block.field-0.0 ≡ BadRecord addr = unread_bad c.in_err-fetch_block.field-0.0 addr cc in (
      c.in_err-fetch_block.ensures.bad addr (ap Err same) ∙ ap (λ (w : Want). w.addr) c.of_block-want.ensures,
      subst (λ (w : Want). NothingFits pages w c.args.entry.now.key) c.of_block-want.ensures (c.in_err-fetch_block.ensures.nothing_fits told addr (ap Err same)),
    ))

pub returns-in_err-fetch_block-clause-keeps : goal.returns-in_err-fetch_block-clause-keeps
returns-in_err-fetch_block-clause-keeps g c =
    let p = err_from_is_err_and c.from_residual.result c.from_residual.ensures.1 in
    let old = g.P.Platform.history c.args.platform.now in let new = g.P.Platform.history c.fetch_block.new.platform in
    let drawn = g.T.Tape.drawn c.args.tape.now in
    keeps_idle g.P.Platform.tells drawn drawn old new (λ keys. IsSound old.present) _ refl
    (λ told. During-step old new (λ image. image ≡ old.present) (c.fetch_block.ensures.reads_page.time told) refl (c.fetch_block.ensures.reads_page.image told)) (λ told keys kept ready. if_err c.from_residual.result p.0 _ p.1)

pub returns-in_err-placed-clause-keeps : goal.returns-in_err-placed-clause-keeps
returns-in_err-placed-clause-keeps g c =
    let p = err_from_is_err_and c.from_residual-in_err-placed.result c.from_residual-in_err-placed.ensures.1 in
    let old = g.P.Platform.history c.args.platform.now in let mid = g.P.Platform.history c.fetch_block.new.platform in let new = g.P.Platform.history c.append.new.platform in
    let drawn = g.T.Tape.drawn c.args.tape.now in
    keeps_then g.P.Platform.tells drawn drawn (g.T.Tape.drawn c.append.new.tape) old mid new (λ keys. IsSound old.present) (λ keys. IsSound mid.present)
    (IsNextRecord mid.present (DataRecord c.args.entry.now.low (content_of c.fetch_block.new.buf))) _ _
    (keeps_idle g.P.Platform.tells drawn drawn old mid (λ keys. IsSound old.present) (λ keys. IsSound mid.present) refl
    (λ told. During-step old mid (λ image. image ≡ old.present) (c.fetch_block.ensures.reads_page.time told) refl (c.fetch_block.ensures.reads_page.image told))
    (λ told keys kept sound. subst IsSound (sym (c.fetch_block.ensures.reads_page.image told)) sound))
    (c.append.ensures.keeps 1 (DataRecord c.args.entry.now.low (content_of c.fetch_block.new.buf)) (in_range g (goal.at.returns-in_err-placed-clause-keeps g c).After-append) (sealed g (goal.at.returns-in_err-placed-clause-keeps g c).After-append 1))
    (λ told keys kept sound. record { device = sound.0; stands = sound.1; listed = tt }) (λ told keys more sound done. if_err c.from_residual-in_err-placed.result p.0 _ p.1)

pub returns-clause-keeps : goal.returns-clause-keeps
returns-clause-keeps g c =
    let old = g.P.Platform.history c.args.platform.now in let mid = g.P.Platform.history c.fetch_block.new.platform in let new = g.P.Platform.history c.append.new.platform in
    let drawn = g.T.Tape.drawn c.args.tape.now in
    keeps_then g.P.Platform.tells drawn drawn (g.T.Tape.drawn c.append.new.tape) old mid new (λ keys. IsSound old.present) (λ keys. IsSound mid.present)
    (IsNextRecord mid.present (DataRecord c.args.entry.now.low (content_of c.fetch_block.new.buf))) (λ keys. Contains keys (bare c.in_ok-placed.placed.key)) (λ keys. Contains keys (bare c.in_ok-placed.placed.key))
    (keeps_idle g.P.Platform.tells drawn drawn old mid (λ keys. IsSound old.present) (λ keys. IsSound mid.present) refl
    (λ told. During-step old mid (λ image. image ≡ old.present) (c.fetch_block.ensures.reads_page.time told) refl (c.fetch_block.ensures.reads_page.image told))
    (λ told keys kept sound. subst IsSound (sym (c.fetch_block.ensures.reads_page.image told)) sound))
    (c.in_ok-placed.ensures.keeps 1 (DataRecord c.args.entry.now.low (content_of c.fetch_block.new.buf)) (in_range g (goal.at.returns-clause-keeps g c).After-append) (sealed g (goal.at.returns-clause-keeps g c).After-append 1))
    (λ told keys kept sound. record { device = sound.0; stands = sound.1; listed = tt }) (λ told keys more sound done. done)

pub returns-clause-copied : goal.returns-clause-copied
returns-clause-copied g c =
    let P = g.P.Platform in
    let old = P.history c.args.platform.now in let looked = P.history c.fetch_block.new.platform in let new = P.history c.append.new.platform in
    let at = (goal.at.returns-clause-copied g c).After-append in
    let low = c.args.entry.now.low in let content = content_of c.fetch_block.new.buf in
    let still = c.fetch_block.ensures.reads_page.head in
    let body = sealed g at in
    copied_one P.tells old looked new (P.head c.args.platform.now) (P.head c.append.new.platform) low c.args.entry.now.addr c.in_ok-placed.placed.addr c.args.entry.now.key c.in_ok-placed.placed.key c.put_block.new.self.body content
    c.fetch_block.ensures.reads_page.image (λ told. g.met.P.Platform.counts_pages told c.args.platform.now)
    (omega (arith, c.requires.room, g.met.P.Platform.is_limited c.args.platform.now))
    (c.in_ok-placed.ensures.placed.address ∙ still) (c.in_ok-placed.ensures.placed.head ∙ ap (λ (n : ℕ). n + 1) still) c.in_ok-placed.ensures.placed.key c.in_ok-placed.ensures.placed.digested c.in_ok-placed.ensures.placed.image
    (λ version. subst (λ (n : ℕ). c.put_block.new.self.body ≡ record_bytes version n (DataRecord low content)) still (body version)) (in_range g at)
    (λ told. (subst (λ (w : Want). FitsAt old.present.readable w c.args.entry.now.key (DataRecord w.low content)) c.of_block-want.ensures (c.in_ok-fetch_block.ensures.fits told)).0)

-- what was added, whatever the append answered
appended : (g : Over) (c : After-append g) → OnlyAdds g.P.Platform g.T.Tape 1 1 c.args.platform.now c.append.new.platform c.args.tape.now c.append.new.tape
appended g c =
    let P = g.P.Platform in let T = g.T.Tape in
    adds_then P T 0 1 1 1 0 1 c.args.platform.now c.fetch_block.new.platform c.append.new.platform c.args.tape.now c.args.tape.now c.append.new.tape (omega arith) (omega arith)
    (adds_read P T c.args.platform.now c.fetch_block.new.platform c.args.tape.now c.fetch_block.ensures.reads_page)
    (adds_one P T c.fetch_block.new.platform c.append.new.platform c.args.tape.now c.append.new.tape c.append.ensures.adds
    (drew_placed P T 2 c.put_block.new.self.body c.fetch_block.new.platform c.append.new.platform c.args.tape.now c.append.new.tape c.append.result c.append.ensures.placed c.append.ensures.idle c.append.ensures.spent))

pub returns-in_err-fetch_block-clause-beside : goal.returns-in_err-fetch_block-clause-beside
returns-in_err-fetch_block-clause-beside g c =
    adds_within g.P.Platform g.T.Tape 0 1 1 1 c.args.platform.now c.fetch_block.new.platform c.args.tape.now c.args.tape.now (omega arith) (omega arith)
    (adds_read g.P.Platform g.T.Tape c.args.platform.now c.fetch_block.new.platform c.args.tape.now c.fetch_block.ensures.reads_page)

pub returns-in_err-placed-clause-beside : goal.returns-in_err-placed-clause-beside
returns-in_err-placed-clause-beside g c = appended g (goal.at.returns-in_err-placed-clause-beside g c).After-append

pub returns-clause-beside : goal.returns-clause-beside
returns-clause-beside g c = appended g (goal.at.returns-clause-beside g c).After-append
