use Rattle.std.proofs.Common.{◌≡◌, Some, ap, ◌∙◌}
use Rattle.std.proofs.lemmas.Result.{IfOk-weaker}
use Rattle.serde_json.specs.Find.{as_array}
use Rattle.serde_json.specs.View.{view, items_view}
use Rattle.cert_codec.specs.Text.{whole}
use Rattle.cert_codec.proofs.Arrays.{array_is, in_array}
use Rattle.cert_codec.proofs.reading.gone_in.Goals as goal

pub returns-in-Some : goal.returns-in-Some
returns-in-Some c =
    let is : Some (items_view c.deref.result.now) ≡ as_array (view c.args.value.now) = ap (λ v. Some (items_view v)) c.deref.ensures.value ∙ c.in-Some.ensures in
    IfOk-weaker c.numbers_in.result _ _ (in_array whole c.deref.result.now _ (array_is _ _ is)) c.numbers_in.ensures
