use Rattle.std.proofs.Common.{Ok, Err, refl}
use Rattle.volumes.proofs.running.run.Goals as goal

pub returns-in-Ok-clause-ran : goal.returns-in-Ok-clause-ran
returns-in-Ok-clause-ran g c = (
  record {
    halted = Ok tt;
    written_then = g.O.Sink.written c.serve_device.new.output;
    serves = c.in-Ok.ensures.serves.serves;
    looked = c.in-Ok.ensures.looked;
    idle = λ told. tt;
    damage = λ told. tt;
    told = (refl, refl);
  },
  c.in-Ok.ensures.serves.changes,
)

pub returns-in-Err-clause-ran : goal.returns-in-Err-clause-ran
returns-in-Err-clause-ran g c = (
  record {
    halted = Err c.in-Err.halt;
    written_then = g.O.Sink.written c.serve_device.new.output;
    serves = c.in-Err.ensures.serves.serves;
    looked = c.in-Err.ensures.looked;
    idle = c.in-Err.ensures.idle;
    damage = c.in-Err.ensures.damage;
    told = (c.put_last_line.result, refl, c.put_last_line.ensures.told);
  },
  c.in-Err.ensures.serves.changes,
)
