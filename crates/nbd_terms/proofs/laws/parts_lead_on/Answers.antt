use Rattle.std.proofs.Common.{◌∙◌, sym, ap}
use Rattle.std.specs.Prelude.{Some}
use Rattle.nbd_terms.specs.Turn.{Turn}
use Rattle.device_course.specs.Leading.{EndsAt, last_of}
use Rattle.device_course.proofs.LeadingLaws.{led_then, last_of-append}
use Rattle.nbd_terms.proofs.laws.parts_lead_on.Goals as goal

pub returns : goal.returns
returns c capacity entry asked more answers others ahead =
    led_then (Turn capacity) (λ held. held.device) EndsAt EndsAt EndsAt entry asked more answers others ahead
    (λ first between last one two a b. b ∙ ap (λ mark. last_of mark two) a ∙ sym (last_of-append (Some first) one two))
