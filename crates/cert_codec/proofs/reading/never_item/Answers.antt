use Rattle.std.proofs.Common.{◌≡◌, Some, ap, ◌∙◌}
use Rattle.serde_json.specs.Find.{as_array}
use Rattle.serde_json.specs.View.{view, items_view}
use Rattle.cert_codec.proofs.Arrays.{page_read}
use Rattle.cert_codec.proofs.reading.never_item.Goals as goal

pub returns-in-Some : goal.returns-in-Some
returns-in-Some c =
    let is : Some (items_view c.deref.result.now) ≡ as_array (view c.args.value.now) = ap (λ v. Some (items_view v)) c.deref.ensures.value ∙ c.in-Some.ensures in
    page_read c.deref.result.now _ is c.never_row.result c.never_row.ensures
