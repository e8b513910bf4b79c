use Rattle.std.proofs.Common.{◌≡◌, Some, ap, ◌∙◌}
use Rattle.std.proofs.lemmas.Result.{IfOk-weaker}
use Rattle.serde_json.specs.Find.{as_array}
use Rattle.serde_json.specs.View.{view, items_view}
use Rattle.cert_codec.proofs.Arrays.{row_read}
use Rattle.cert_codec.proofs.reading.added_item.Goals as goal

pub returns-in-Some : goal.returns-in-Some
returns-in-Some c =
    let is : Some (items_view c.deref.result.now) ≡ as_array (view c.args.value.now) = ap (λ v. Some (items_view v)) c.deref.ensures.value ∙ c.in-Some.ensures in
    IfOk-weaker c.added_row.result _ _ (row_read c.deref.result.now _ is) c.added_row.ensures
