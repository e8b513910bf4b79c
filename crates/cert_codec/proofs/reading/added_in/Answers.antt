use Rattle.std.proofs.Common.{◌≡◌, Some, option_map, ◌<◌, length, ap, subst, ◌∙◌, arith}
use Rattle.serde_json.specs.Find.{as_array}
use Rattle.serde_json.specs.View.{view, items_view}
use Rattle.cert_maker.specs.Added.{traced}
use Rattle.cert_codec.specs.Text.{added_json}
use Rattle.cert_codec.specs.ReadBack.{IsReadBack}
use Rattle.cert_codec.proofs.Arrays.{unread, same_array}
use Rattle.cert_codec.proofs.reading.added_in.Goals as goal

pub returns-in_default-2 : goal.returns-in_default-2
returns-in_default-2 c =
    let l = c.loop-item in
    let vs = c.deref-item-items.result.now in
    let is : Some (items_view vs) ≡ as_array (view c.args.value.now) = ap (λ v. Some (items_view v)) c.deref-item-items.ensures.value ∙ c.in-Some.ensures in
    let within : l.item-index < length vs = omega arith in
    let other = subst (λ o. IsReadBack added_json (view c.item-item.result) (option_map traced o)) c.in_default-2.is c.in_ok-added.ensures in
    λ xs e. unread added_json vs l.item-index c.item-item.result l.found within c.item-item.is other l.invariant xs (same_array added_json vs _ is xs e)
