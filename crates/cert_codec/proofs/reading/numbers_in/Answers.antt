use Rattle.std.proofs.Common.{◌<◌, length, arith}
use Rattle.cert_codec.specs.Text.{whole}
use Rattle.cert_codec.proofs.Arrays.{unread, not_whole}
use Rattle.cert_codec.proofs.reading.numbers_in.Goals as goal

pub returns-in_default : goal.returns-in_default
returns-in_default c =
    let l = c.loop-item in
    let vs = c.args.items.now in
    let within : l.item-index < length vs = omega arith in
    unread whole vs l.item-index c.item-item.result l.found within c.item-item.is (not_whole _ c.in_default.ensures) l.invariant
