use Rattle.std.proofs.Common.{◌≡◌, Some, ◌<◌, length, ap, ◌∙◌, arith}
use Rattle.serde_json.specs.Find.{as_array}
use Rattle.serde_json.specs.View.{view, items_view}
use Rattle.cert_codec.specs.Text.{never_json}
use Rattle.cert_codec.proofs.Arrays.{unread, same_array}
use Rattle.cert_codec.proofs.reading.never_in.Goals as goal

pub returns-in_default-never_item : goal.returns-in_default-never_item
returns-in_default-never_item c =
    let l = c.loop-item in
    let vs = c.deref-item-items.result.now in
    let is : Some (items_view vs) ≡ as_array (view c.args.value.now) = ap (λ v. Some (items_view v)) c.deref-item-items.ensures.value ∙ c.in-Some.ensures in
    let within : l.item-index < length vs = omega arith in
    λ pages e. unread never_json vs l.item-index c.item-item.result l.found within c.item-item.is c.in_default-never_item.ensures l.invariant pages (same_array never_json vs _ is pages e)
