use Rattle.std.proofs.Common.{◌≡◌, inl, inr, ℕ, List, Option, Some, length, ap, sym, ◌∙◌, arith}
use Rattle.platform.specs.Image.{Image, IsEither, all_synced, with_cell}
use Rattle.device_terms.proofs.MomentLaws.{one_call, call_more, not_published, published}
use Rattle.device_core.proofs.publishing.publish.Goals as goal

pub returns-in_default-clause-time : goal.returns-in_default-clause-time
returns-in_default-clause-time g c = λ told.
    let history = g.P.Platform.history in
    not_published (history c.args.platform.now) (history c.sync.new.self) _
    (one_call (history c.args.platform.now) (history c.sync.new.self) (c.sync.ensures.time told) (c.sync.ensures.cell told))

pub returns-in_default-put-clause-time : goal.returns-in_default-put-clause-time
returns-in_default-put-clause-time g c = λ told.
    let history = g.P.Platform.history in
    not_published (history c.args.platform.now) (history c.sync.new.self) _
    (one_call (history c.args.platform.now) (history c.sync.new.self) (c.sync.ensures.time told) (c.sync.ensures.cell told))

pub returns-in-Ok-swap_root-clause-time : goal.returns-in-Ok-swap_root-clause-time
returns-in-Ok-swap_root-clause-time g c = λ told.
    let history = g.P.Platform.history in
    published (history c.args.platform.now) (history c.sync.new.self) (history c.swap_root.new.self) c.encode_root.new.out _
    (c.sync.ensures.time told) (c.sync.ensures.cell told) (c.in-Ok.ensures.synced told) (c.swap_root.ensures.time told) (c.swap_root.ensures.either told) c.encode_root.ensures.record

pub returns-in-Err-clause-time : goal.returns-in-Err-clause-time
returns-in-Err-clause-time g c = λ told.
    let history = g.P.Platform.history in
    published (history c.args.platform.now) (history c.sync.new.self) (history c.swap_root.new.self) c.encode_root.new.out _
    (c.sync.ensures.time told) (c.sync.ensures.cell told) (c.in-Ok.ensures.synced told) (c.swap_root.ensures.time told) (c.swap_root.ensures.either told) c.encode_root.ensures.record

-- the last step failed, and was taken or not
pub returns-in-Err-clause-put : goal.returns-in-Err-clause-put
returns-in-Err-clause-put g c = inl (
  c.in-Ok-put.ensures.put,
  λ told.
      let history = g.P.Platform.history in
      elim (c.swap_root.ensures.either told) [
        | inl still ↦ inr (
          call_more (history c.args.platform.now) (history c.sync.new.self) (history c.swap_root.new.self)
              (one_call (history c.args.platform.now) (history c.sync.new.self) (c.sync.ensures.time told) (c.sync.ensures.cell told))
              (c.swap_root.ensures.time told) (ap (λ (i : Image). i.cell) still),
          λ ok. absurd cc,
        )
        | inr there ↦ inl (ap (λ (i : Image). i.cell) there ∙ ap (λ (bytes : List ℕ). Some bytes) c.encode_root.ensures.record)
      ],
)

-- a sync that was done syncs all pages
synced_all : (old new : Image) → new ≡ all_synced old → new.synced ≡ length new.recorded
synced_all old new is = ap (λ (i : Image). i.synced) is ∙ sym (ap (λ (i : Image). length i.recorded) is)

-- and they stay so, whatever becomes of the cell
synced_still : (old new : Image) (cell : Option (List ℕ)) → old.synced ≡ length old.recorded → IsEither old (with_cell old cell) new → new.synced ≡ length new.recorded
synced_still old new cell synced (inl is) = ap (λ (i : Image). i.synced) is ∙ (synced ∙ sym (ap (λ (i : Image). length i.recorded) is))
synced_still old new cell synced (inr is) = ap (λ (i : Image). i.synced) is ∙ (synced ∙ sym (ap (λ (i : Image). length i.recorded) is))

pub returns-in_default-put-clause-synced : goal.returns-in_default-put-clause-synced
returns-in_default-put-clause-synced g c = inr (omega (arith, c.sync.ensures.head), λ told. synced_all (g.P.Platform.history c.args.platform.now).present (g.P.Platform.history c.sync.new.self).present (c.in-Ok.ensures.synced told))

pub returns-in-Ok-swap_root-clause-synced : goal.returns-in-Ok-swap_root-clause-synced
returns-in-Ok-swap_root-clause-synced g c = inr (
  omega (arith, c.sync.ensures.head, c.swap_root.ensures.head),
  λ told. synced_still (g.P.Platform.history c.sync.new.self).present (g.P.Platform.history c.swap_root.new.self).present (Some c.encode_root.new.out) (synced_all (g.P.Platform.history c.args.platform.now).present (g.P.Platform.history c.sync.new.self).present (c.in-Ok.ensures.synced told)) (c.swap_root.ensures.either told),
)

pub returns-in-Err-clause-synced : goal.returns-in-Err-clause-synced
returns-in-Err-clause-synced g c = inr (
  omega (arith, c.sync.ensures.head, c.swap_root.ensures.head),
  λ told. synced_still (g.P.Platform.history c.sync.new.self).present (g.P.Platform.history c.swap_root.new.self).present (Some c.encode_root.new.out) (synced_all (g.P.Platform.history c.args.platform.now).present (g.P.Platform.history c.sync.new.self).present (c.in-Ok.ensures.synced told)) (c.swap_root.ensures.either told),
)
