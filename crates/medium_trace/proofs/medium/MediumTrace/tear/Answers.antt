use Rattle.std.proofs.Common.{◌≡◌, ◌-◌, ap, arith}
use Rattle.medium_trace.specs.Page.{zero_page}
use Rattle.medium_trace.specs.Trace.{Trace, IsWhole}
use Rattle.medium_trace.proofs.Shown.{Trace-set, IsWhole-marked}
use Rattle.medium_trace.proofs.Torn.{slice_get-set_same}
use Rattle.medium_trace.proofs.medium.MediumTrace.tear.Goals as goal

pub returns : goal.returns
returns c =
    let inside = c.self.inside in
    let synced_is : c.self.inside.synced ≡ c.args.self.now.synced = ap (λ (trace : Trace). trace.synced) c.self.view_is in
    let changed = Trace-set inside.recorded inside.unmarked inside.torn.items inside.synced (c.args.addr - inside.unmarked) c.args.addr _ c.self.invariant (omega arith) c.self.view_is in
    let whole : IsWhole c.args.self.now = IsWhole-marked _ _ _ _ _ c.self.invariant c.self.view_is in
    record {
      changed = changed;
      torn = rw (ap (λ (trace : Trace). trace.readable) changed) (slice_get-set_same c.args.self.now.readable c.args.addr zero_page (omega (arith, whole.as_many)));
    }
