use Rattle.std.proofs.Common.{◌≡◌, [], take}
use Rattle.power_loss.specs.Loss.{Tore}
use Rattle.platform.specs.Mem.{mem_history, image_of_now, failures_of, calls_of, IsSameRest}
use Rattle.power_loss.proofs.lose_power.Given as goal

abbrev pub invariant-loop-addr : goal.invariant-loop-addr
invariant-loop-addr l = record {
  left : Tore (take l.addr-index l.torn) (image_of_now l.fn.platform) (image_of_now l.platform);
  past : (mem_history l.platform).past ≡ [];
  failures : failures_of l.platform ≡ failures_of l.fn.platform;
  calls : calls_of l.platform ≡ calls_of l.fn.platform;
  rest : IsSameRest l.fn.platform l.platform;
}
