-- What was read fits exactly where its digest and its body do.
use Rattle.std.proofs.Common.{List, ℕ, drop, ap, sym, subst, ◌∙◌}
use Rattle.std.proofs.lemmas.Bool.{false≢true}
use Rattle.sdbt_base.specs.Keys.{version_of}
use Rattle.node_codec.specs.Record.{DataRecord}
use Rattle.page_store.specs.Buffer.{Held}
use Rattle.page_store.specs.Places.{IsWantedRecord}
use Rattle.page_store.proofs.FetchLaws.{fits_there, nothing_wanted, nothing_digested}
use Rattle.page_store.proofs.blocks.fetch_block.Goals as goal

pub returns-then-not-has_digest_of-clause-nothing_fits : goal.returns-then-not-has_digest_of-clause-nothing_fits
returns-then-not-has_digest_of-clause-nothing_fits g c = λ told addr is.
    nothing_digested (g.P.Platform.history c.args.platform.now).present.readable c.args.want.now c.args.key.now c.load.new.self.page (c.in-Ok.ensures.page told)
    (λ digest. false≢true (sym c.if-not-has_digest_of.true ∙ c.has_digest_of.ensures.1 digest))

pub returns-clause-wanted : goal.returns-clause-wanted
returns-clause-wanted g c =
    let version = version_of c.args.key.now in
    let body = c.deref.ensures.value ∙ ap (λ (held : Held). held.body) c.buf.view_is in
    subst (λ (bytes : List ℕ). IsWantedRecord version c.args.want.now bytes (DataRecord c.args.want.now.low (drop 32 bytes))) body (c.is_block_wanted.ensures.found c.if-not-is_block_wanted.false version)

pub returns-clause-fits : goal.returns-clause-fits
returns-clause-fits g c = λ told.
    fits_there (g.P.Platform.history c.args.platform.now).present.readable c.args.want.now c.args.key.now c.load.new.self.page c.load.new.self.body _ (c.in-Ok.ensures.page told) c.in-Ok.ensures.body
    (c.has_digest_of.ensures.0 c.if-not-has_digest_of.false) (returns-clause-wanted g c)

pub returns-then-not-is_block_wanted-clause-nothing_fits : goal.returns-then-not-is_block_wanted-clause-nothing_fits
returns-then-not-is_block_wanted-clause-nothing_fits g c = λ told addr is.
    (let body = c.deref.ensures.value ∙ ap (λ (held : Held). held.body) c.buf.view_is in
    nothing_wanted (g.P.Platform.history c.args.platform.now).present.readable c.args.want.now c.args.key.now c.load.new.self.page c.deref.result.now (c.in-Ok.ensures.page told) (body ∙ c.in-Ok.ensures.body)
    (c.is_block_wanted.ensures.none c.if-not-is_block_wanted.true (version_of c.args.key.now)))
