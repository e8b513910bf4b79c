-- What a commit makes of the device.
use Rattle.sdbt_base.specs.Arrays.{Device, Blocks}
use Rattle.device_session.specs.declared.refusals.CommitReply.{CommitReply}
use Rattle.device_session.specs.declared.refusals.CommitReply.TheVariants.{Committed, Full}

-- the device after an answer: with the number that was answered and the session's array, or as it was
abbrev pub device_after : CommitReply → Device → Blocks → Device
device_after (Committed number) device contents = record device { number = number; contents = contents }
device_after (Full needed free) device contents = device
