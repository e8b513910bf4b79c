use Rattle.std.proofs.Common.{◌≡◌, ℕ, List, length, ap, sym, subst, refl, ◌∙◌}
use Rattle.std.specs.Prelude.{Contains}
use Rattle.sdbt_base.specs.Told.{Drew}
use Rattle.platform.proofs.Moments.{During-start}
use Rattle.page_store.specs.Keeping.{IsNextRecord}
use Rattle.page_store.proofs.KeepingLaws.{keeps_idle, keeps_append}
use Rattle.platform.specs.Image.{MayHavePage, with_page}
use Rattle.page_digest.specs.Digest.{FitsDigest}
use Rattle.page_store.proofs.AppendLaws.{same_mask}
use Rattle.seal_record.specs.Sealing.{masked}
use Rattle.page_store.specs.Buffer.{Held}
use Rattle.page_store.proofs.buffers.Buffers.append.Goals as goal

pub returns-clause-placed : goal.returns-clause-placed
returns-clause-placed g c =
    let key = c.in-Ok.key in
    let named = c.key_with_digest-key.result in
    let body = c.args.self.now.body in
    let same : masked key body ≡ masked named body = same_mask key named body c.key_with_digest-key.ensures.bare in
    let page : c.deref.result.now ≡ masked key body = c.deref.ensures.value ∙ ap (λ (held : Held). held.page) (c.self.view_is ∙ c.in-Ok.ensures.page) in
    record {
      address = c.in-Ok-append.ensures.address.0;
      key = c.key_with_digest-key.ensures.key;
      drew = subst (λ (k : List ℕ). Drew (g.T.Tape.drawn c.args.tape.now) k (g.T.Tape.drawn c.seal_body.new.tape)) (sym c.key_with_digest-key.ensures.bare) c.in-Ok.ensures.drew;
      digested = subst (FitsDigest named) (ap (λ (held : Held). held.page) c.in-Ok.ensures.page ∙ same) c.key_with_digest-key.ensures.digest;
      image = λ told. c.in-Ok-append.ensures.appended told ∙ ap (λ (bytes : List ℕ). with_page (g.P.Platform.history c.args.platform.now).present bytes bytes) (page ∙ same);
      head = c.in-Ok-append.ensures.address.1;
    }

pub returns-in_default-append-clause-spent : goal.returns-in_default-append-clause-spent
returns-in_default-append-clause-spent g c = λ _. record {
  key = c.in-Ok.key;
  size = c.in-Ok.ensures.key;
  drew = c.in-Ok.ensures.drew;
  image = λ told.
      let page : c.deref.result.now ≡ masked c.in-Ok.key c.args.self.now.body = c.deref.ensures.value ∙ ap (λ (held : Held). held.page) (c.self.view_is ∙ c.in-Ok.ensures.page) in
      subst (λ (bytes : List ℕ). MayHavePage (g.P.Platform.history c.args.platform.now).present bytes (g.P.Platform.history c.append.new.self).present) page (c.in_default-append.ensures.either told);
}

pub returns-in_default-clause-keeps : goal.returns-in_default-clause-keeps
returns-in_default-clause-keeps g c = λ any value fits is.
    let history = g.P.Platform.history c.args.platform.now in
    keeps_idle g.P.Platform.tells (g.T.Tape.drawn c.args.tape.now) (g.T.Tape.drawn c.seal_body.new.tape) history history
    (IsNextRecord history.present value) _ c.in_default.ensures.undrawn (λ told. During-start history (λ image. image ≡ history.present) refl) (λ told keys kept ready. tt)

pub returns-in_default-append-clause-keeps : goal.returns-in_default-append-clause-keeps
returns-in_default-append-clause-keeps g c = λ any value fits is.
    let key = c.in-Ok.key in
    let page : c.deref.result.now ≡ masked key c.args.self.now.body = c.deref.ensures.value ∙ ap (λ (held : Held). held.page) (c.self.view_is ∙ c.in-Ok.ensures.page) in
    keeps_append g.P.Platform.tells (g.T.Tape.drawn c.args.tape.now) (g.T.Tape.drawn c.seal_body.new.tape) key c.args.self.now.body any (g.P.Platform.head c.args.platform.now) value
    (g.P.Platform.history c.args.platform.now) (g.P.Platform.history c.append.new.self) _ (ap (λ (held : Held). length held.body) (sym (c.self.view_is ∙ c.in-Ok.ensures.page)) ∙ c.self.invariant.1)
    fits is (λ told. sym (g.met.P.Platform.counts_pages told c.args.platform.now)) c.in-Ok.ensures.drew
    c.append.ensures.time
    (λ told. subst (λ (bytes : List ℕ). MayHavePage (g.P.Platform.history c.args.platform.now).present bytes (g.P.Platform.history c.append.new.self).present) page (c.append.ensures.either told))
    (λ keys has. tt)

pub returns-clause-keeps : goal.returns-clause-keeps
returns-clause-keeps g c = λ any value fits is.
    let key = c.in-Ok.key in
    let page : c.deref.result.now ≡ masked key c.args.self.now.body = c.deref.ensures.value ∙ ap (λ (held : Held). held.page) (c.self.view_is ∙ c.in-Ok.ensures.page) in
    keeps_append g.P.Platform.tells (g.T.Tape.drawn c.args.tape.now) (g.T.Tape.drawn c.seal_body.new.tape) key c.args.self.now.body any (g.P.Platform.head c.args.platform.now) value
    (g.P.Platform.history c.args.platform.now) (g.P.Platform.history c.append.new.self) _ (ap (λ (held : Held). length held.body) (sym (c.self.view_is ∙ c.in-Ok.ensures.page)) ∙ c.self.invariant.1)
    fits is (λ told. sym (g.met.P.Platform.counts_pages told c.args.platform.now)) c.in-Ok.ensures.drew
    c.append.ensures.time
    (λ told. subst (λ (bytes : List ℕ). MayHavePage (g.P.Platform.history c.args.platform.now).present bytes (g.P.Platform.history c.append.new.self).present) page (c.append.ensures.either told))
    (λ keys has. subst (Contains keys) (sym c.key_with_digest-key.ensures.bare) has)
