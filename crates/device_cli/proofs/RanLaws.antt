-- From the serving of an input to a run, and to its exit status.
use Rattle.std.proofs.Common.{◌≡◌, ◌≤◌, ℕ, List, [], ◌++◌, Option, Ok, Err, take, ◌⊎◌, inl, inr, refl, sym, subst, arith}
use Rattle.std.proofs.lemmas.Grind.{common_steps}
use Rattle.sdbt_base.specs.Told.{Got, GotPart}
use Rattle.sdbt_base.proofs.ToldLaws.{Gave-nothing, Got-nothing, Got-then}
use Rattle.text_lines.specs.Lines.{whole_lines_of}
use Rattle.sdbt_base.specs.Arrays.{State}
use Rattle.platform.specs.History.{During, Extends}
use Rattle.device_cli.specs.World.{World, IsLater}
use Rattle.device_cli.proofs.LookLaws.{looks_none}
use Rattle.device_course.specs.Marks.{Leaves}
use Rattle.device_cli.specs.Represents.{Stood}
use Rattle.device_cli.proofs.RepliedLaws.{made_idle, Replied-idle, Handled-then, count-then}
use Rattle.device_cli.proofs.PassLaws.{AreMarks-none}
use Rattle.device_cli.proofs.DrawingLaws.{until_none}
use Rattle.device_cli.proofs.ReplyLaws.{so_idle, so_ended}
use Rattle.script_lang.specs.Replies.{line_of, Reply}
use Rattle.device_cli.specs.Run.{Took}
use Rattle.line_run.specs.Stops.{TookUntil, Ending, IsSound, exit_of}
use Rattle.device_cli.specs.Pages.{Standing, standing}
use Rattle.device_cli.specs.Replied.{IsEndingAt, IsAhead, Answered, MeetsWith}
use Rattle.line_run.specs.Puts.{IsBehind, no_line, damage_line}
use Rattle.device_cli.specs.Ran.{Ran}
use Rattle.line_run.specs.declared.stop.Stop.{Stop}
use Rattle.line_run.specs.declared.stop.Stop.TheVariants as stops
use Rattle.session_calls.specs.declared.stops.DeviceStop.{DeviceStop}
use Rattle.session_calls.specs.declared.stops.DeviceStop.TheVariants as device
use Rattle.line_run.proofs.StopLaws.{TookUntil-line}

-- the same after the platform stood still
pub Ran-after : (tells : Type 0) (old mid new : World) (last : DeviceStop → List ℕ) (ending : Ending) (left left_now a b : Option (List ℕ))
    → IsLater old mid → mid.head ≡ old.head → (tells → (mid.reads ≤ old.reads) × (mid.changes ≡ old.changes)) → mid.session ≡ old.session → mid.drawn ≡ old.drawn
    → (tells → Extends old.history mid.history) → (tells → mid.history.present ≡ old.history.present) → (tells → (entry : State) → Stood old entry → Stood mid entry × During old.history mid.history (Leaves entry.device))
    → Ran tells ⊥ mid new last ending left left_now a b → Ran tells ⊥ old new last ending left left_now a b
Ran-after tells old mid new last ending left left_now a b later same unread held undrawn extends kept still r = record {
  taken = r.taken;
  lines = r.lines;
  gave = r.gave;
  took = r.took;
  come = r.come;
  handled = Handled-then tells old mid new last ending [] r.lines a a b
      (record { put = []; got = Got-nothing a; replied = Replied-idle tells old mid last later same unread held undrawn extends kept still }) r.handled;
  prompt =
      let more = count-then tells old mid new last ending [] r.lines a a b (record { put = []; got = Got-nothing a; replied = Replied-idle tells old mid last later same unread held undrawn extends kept still }) r.handled in
      let p = r.prompt in
      record { before = p.before; last = p.last; parts = p.parts; piece = p.piece; served = omega (arith, p.served, more) };
}

-- a run that ends otherwise than by a stop of the device has no last line
IsBehind-other : (ending : Ending) (part : List ℕ) → ((stop : DeviceStop) → ending ≡ Err (stops.Device stop) → ⊥) → IsBehind line_of no_line part ending → IsBehind line_of damage_line part ending
IsBehind-other (Ok done) part other h = h
IsBehind-other (Err stops.Source) part other h = h
IsBehind-other (Err stops.Limit) part other h = h
IsBehind-other (Err (stops.Device stop)) part other h = absurd (other stop refl)
IsBehind-other (Err stops.Sink) part other (inl h) = inl h
IsBehind-other (Err stops.Sink) part other (inr (stop, (n, e))) = inr (stop, (0, grind (arith, common_steps, e)))

-- what holds where the platform failed before the first line may be less
ending_before : (tells Was Before : Type 0) (now : World) (replies : List Reply) (lines : List (List ℕ)) (ending : Ending) → (Was → Before) → IsEndingAt tells Was now replies lines ending → IsEndingAt tells Before now replies lines ending
ending_before tells Was Before now replies lines (Ok done) less h = tt
ending_before tells Was Before now replies lines (Err stops.Source) less h = tt
ending_before tells Was Before now replies lines (Err stops.Limit) less h = tt
ending_before tells Was Before now replies lines (Err stops.Sink) less h = tt
ending_before tells Was Before now replies lines (Err (stops.Device device.Platform)) less (inl was) = inl (less was)
ending_before tells Was Before now replies lines (Err (stops.Device device.Platform)) less (inr h) = inr h
ending_before tells Was Before now replies lines (Err (stops.Device device.BadRoot)) less h = h
ending_before tells Was Before now replies lines (Err (stops.Device device.Tape)) less h = h
ending_before tells Was Before now replies lines (Err (stops.Device device.Ledger)) less h = h
ending_before tells Was Before now replies lines (Err (stops.Device device.Memory)) less h = h
ending_before tells Was Before now replies lines (Err (stops.Device (device.BadRecord addr))) less h = h

pub Ran-before : (tells Was Before : Type 0) (old new : World) (last : DeviceStop → List ℕ) (ending : Ending) (left left_now a b : Option (List ℕ)) → (Was → Before)
    → Ran tells Was old new last ending left left_now a b → Ran tells Before old new last ending left left_now a b
Ran-before tells Was Before old new last ending left left_now a b less r = let p = r.handled.replied in record {
  taken = r.taken;
  lines = r.lines;
  gave = r.gave;
  took = r.took;
  come = r.come;
  handled = record {
    put = r.handled.put;
    got = r.handled.got;
    replied = record { replies = p.replies; part = p.part; put_is = p.put_is; behind = p.behind; many = p.many; stopped = ending_before tells Was Before new p.replies r.lines ending less p.stopped; drew = p.drew; so = p.so; later = p.later; full = p.full; enough = p.enough; looks = p.looks; answered = p.answered };
  };
  prompt = r.prompt;
}

-- a run that did begin
pub Ran-begun : (tells Before : Type 0) (old new : World) (last : DeviceStop → List ℕ) (ending : Ending) (left left_now a b : Option (List ℕ)) → Ran tells ⊥ old new last ending left left_now a b → Ran tells Before old new last ending left left_now a b
Ran-begun tells Before old new last ending left left_now a b r = Ran-before tells ⊥ Before old new last ending left left_now a b (λ never. absurd never) r

pub Ran-other : (tells Before : Type 0) (old new : World) (ending : Ending) (left left_now a b : Option (List ℕ)) → ((stop : DeviceStop) → ending ≡ Err (stops.Device stop) → ⊥)
    → Ran tells Before old new no_line ending left left_now a b → Ran tells Before old new damage_line ending left left_now a b
Ran-other tells Before old new ending left left_now a b other r = let p = r.handled.replied in record {
  taken = r.taken;
  lines = r.lines;
  gave = r.gave;
  took = r.took;
  come = r.come;
  handled = record {
    put = r.handled.put;
    got = r.handled.got;
    replied = record { replies = p.replies; part = p.part; put_is = p.put_is; behind = IsBehind-other ending p.part other p.behind; many = p.many; stopped = p.stopped; drew = p.drew; so = p.so; later = p.later; full = p.full; enough = p.enough; looks = p.looks; answered = p.answered };
  };
  prompt = r.prompt;
}

-- after a stop of the device what stands behind the replies says nothing of the device
Answered-part : (old new : World) (stop : DeviceStop) (entry : Standing) (lines : List (List ℕ)) (replies : List Reply) (part other : List ℕ)
    → Answered old new (Err (stops.Device stop)) entry lines replies part → Answered old new (Err (stops.Device stop)) entry lines replies other
Answered-part old new stop entry lines replies part other f =
    record { now = f.now; answers = f.answers; seen = f.seen; ends = f.ends; near = f.near; ahead = f.ahead; is_ahead = f.is_ahead; marks = f.marks; are = f.are; made = f.made }

-- a stop of the device, and then its last line
pub Ran-last : (tells Before : Type 0) (old new : World) (stop : DeviceStop) (left left_now a b c : Option (List ℕ))
    → Ran tells Before old new no_line (Err (stops.Device stop)) left left_now a b → Got b (damage_line stop) c → Ran tells Before old new damage_line (Err (stops.Device stop)) left left_now a c
Ran-last tells Before old new stop left left_now a b c r got = let p = r.handled.replied in record {
  taken = r.taken;
  lines = r.lines;
  gave = r.gave;
  took = r.took;
  come = r.come;
  handled = record {
    put = r.handled.put ++ damage_line stop;
    got = Got-then a r.handled.put b (damage_line stop) c r.handled.got got;
    replied = record {
      replies = p.replies;
      part = damage_line stop;
      put_is = grind (arith, common_steps, p.put_is, p.behind);
      behind = refl;
      many = p.many;
      stopped = p.stopped;
      drew = p.drew;
      so = p.so;
      later = p.later;
      full = p.full;
      enough = p.enough;
      looks = p.looks;
      answered = λ told entry updates rep enough. Answered-part old new stop (standing entry old.head updates) r.lines p.replies p.part (damage_line stop) (p.answered told entry updates rep enough);
    };
  };
  prompt = r.prompt;
}

-- the same where the last line couldn't be put
pub Ran-cut : (tells Before : Type 0) (old new : World) (stop : DeviceStop) (left left_now a b c : Option (List ℕ))
    → Ran tells Before old new no_line (Err (stops.Device stop)) left left_now a b → GotPart b (damage_line stop) c → (IsSound stop → ⊥)
    → Ran tells Before old new damage_line (Err stops.Sink) left left_now a c
Ran-cut tells Before old new stop left left_now a b c r (n, got) damaged = let p = r.handled.replied in record {
  taken = r.taken;
  lines = r.lines;
  gave = r.gave;
  took = TookUntil-line stops.Sink r.taken left_now tt r.took.most;
  come = r.come;
  handled = record {
    put = r.handled.put ++ take n (damage_line stop);
    got = Got-then a r.handled.put b (take n (damage_line stop)) c r.handled.got got;
    replied = record {
      replies = p.replies;
      part = take n (damage_line stop);
      put_is = grind (arith, common_steps, p.put_is, p.behind);
      behind = inr (stop, (n, refl));
      many = p.many;
      stopped = tt;
      drew = p.drew;
      so = so_ended tells old.history new.history old.session new.session r.lines p.replies _ _ (λ held met. tt) p.so;
      later = p.later;
      full = p.full;
      enough = p.enough;
      looks = p.looks;
      answered = λ told entry updates rep enough. absurd (damaged (p.answered told entry updates rep enough).ends);
    };
  };
  prompt = r.prompt;
}

-- a stop that may come before the first line
abbrev pub IsEarly : DeviceStop → Type 0
IsEarly device.BadRoot = Unit {0}
IsEarly device.Platform = Unit {0}
IsEarly device.Memory = ⊥
IsEarly device.Tape = ⊥
IsEarly device.Ledger = ⊥
IsEarly (device.BadRecord addr) = ⊥

-- a run that was stopped before its first line
pub Ran-refused : (tells Before : Type 0) (old new : World) (stop : DeviceStop) (left written : Option (List ℕ)) → IsEarly stop → Before
    → IsLater old new → new.head ≡ old.head → (tells → (new.reads ≤ old.reads) × (new.changes ≡ old.changes)) → new.session ≡ old.session → new.drawn ≡ old.drawn
    → (tells → Extends old.history new.history) → (tells → new.history.present ≡ old.history.present) → (tells → (entry : State) → Stood old entry → Stood new entry × During old.history new.history (Leaves entry.device))
    → (tells → (entry : State) → Stood old entry → IsSound stop) → Ran tells Before old new no_line (Err (stops.Device stop)) left left written written
unfolding whole_lines_of
Ran-refused tells Before old new stop left written which before later same unread held undrawn extends kept still sound = record {
  taken = [];
  lines = [];
  gave = Gave-nothing left;
  took = TookUntil-line (stops.Device stop) [] left tt (omega arith);
  come = inl refl;
  handled = record {
    put = [];
    got = Got-nothing written;
    replied = record {
      replies = [];
      part = [];
      put_is = refl;
      behind = refl;
      many = omega arith;
      stopped = early_end stop which;
      drew = until_none old.drawn new.drawn [] undrawn;
      so = so_idle tells old.history new.history old.session new.session _ extends kept held (early_met stop which);
      later = later;
      full = λ updates enough. tt;
      enough = λ updates enough. tt;
      looks = looks_none tells old new _ (λ ok. absurd cc) unread;
      answered = λ told entry updates rep enough. record {
        now = standing entry old.head updates;
        answers = refl;
        seen = refl;
        ends = sound told entry rep;
        near = inl same;
        ahead = [];
        is_ahead = none_ahead stop which;
        marks = [];
        are = AreMarks-none entry [];
        made = made_idle old new entry rep (still told entry rep);
      };
    };
  };
  prompt = record { before = []; last = []; parts = refl; piece = omega arith; served = omega arith };
}
  where
    early_met : (s : DeviceStop) → IsEarly s → MeetsWith tells new (Err (stops.Device s)) [] [] old.session
    early_met device.BadRoot w = tt
    early_met device.Platform w = tt
    early_met device.Memory w = absurd w
    early_met device.Tape w = absurd w
    early_met device.Ledger w = absurd w
    early_met (device.BadRecord addr) w = absurd w

    early_end : (s : DeviceStop) → IsEarly s → IsEndingAt tells Before new [] [] (Err (stops.Device s))
    early_end device.BadRoot w = tt
    early_end device.Platform w = inl before
    early_end device.Memory w = absurd w
    early_end device.Tape w = absurd w
    early_end device.Ledger w = absurd w
    early_end (device.BadRecord addr) w = absurd w

    none_ahead : (s : DeviceStop) → IsEarly s → IsAhead (Err (stops.Device s)) []
    none_ahead device.BadRoot w = refl
    none_ahead device.Platform w = omega arith
    none_ahead device.Memory w = absurd w
    none_ahead device.Tape w = refl
    none_ahead device.Ledger w = refl
    none_ahead (device.BadRecord addr) w = refl

pub Took-of : (ending : Ending) (taken : List ℕ) (left : Option (List ℕ)) → TookUntil ending taken left → Took (exit_of ending) taken left
Took-of (Ok done) taken left t = record { most = t.most; whole = λ e. t.whole; failed = λ e. absurd (omega (arith, e)); refused = λ e. absurd (omega (arith, e)); limit = λ e. absurd (omega (arith, e)); nothing = λ e. absurd (omega (arith, e)) }
Took-of (Err stops.Source) taken left t = record { most = t.most; whole = λ e. absurd (omega (arith, e)); failed = λ e. t.failed refl; refused = λ e. absurd (omega (arith, e)); limit = λ e. absurd (omega (arith, e)); nothing = λ e. absurd (omega (arith, e)) }
Took-of (Err stops.Limit) taken left t = record { most = t.most; whole = λ e. absurd (omega (arith, e)); failed = λ e. absurd (omega (arith, e)); refused = λ e. absurd (omega (arith, e)); limit = λ e. t.limit refl; nothing = λ e. absurd (omega (arith, e)) }
Took-of (Err stops.Sink) taken left t = record { most = t.most; whole = λ e. absurd (omega (arith, e)); failed = λ e. absurd (omega (arith, e)); refused = λ e. absurd (omega (arith, e)); limit = λ e. absurd (omega (arith, e)); nothing = λ e. absurd (omega (arith, e)) }
Took-of (Err (stops.Device device.Platform)) taken left t = record { most = t.most; whole = λ e. absurd (omega (arith, e)); failed = λ e. absurd (omega (arith, e)); refused = λ e. absurd (omega (arith, e)); limit = λ e. absurd (omega (arith, e)); nothing = λ e. absurd (omega (arith, e)) }
Took-of (Err (stops.Device device.Tape)) taken left t = record { most = t.most; whole = λ e. absurd (omega (arith, e)); failed = λ e. absurd (omega (arith, e)); refused = λ e. absurd (omega (arith, e)); limit = λ e. absurd (omega (arith, e)); nothing = λ e. absurd (omega (arith, e)) }
Took-of (Err (stops.Device device.Ledger)) taken left t = record { most = t.most; whole = λ e. absurd (omega (arith, e)); failed = λ e. absurd (omega (arith, e)); refused = λ e. absurd (omega (arith, e)); limit = λ e. absurd (omega (arith, e)); nothing = λ e. absurd (omega (arith, e)) }
Took-of (Err (stops.Device device.Memory)) taken left t = record { most = t.most; whole = λ e. absurd (omega (arith, e)); failed = λ e. absurd (omega (arith, e)); refused = λ e. absurd (omega (arith, e)); limit = λ e. absurd (omega (arith, e)); nothing = λ e. absurd (omega (arith, e)) }
Took-of (Err (stops.Device device.BadRoot)) taken left t = record { most = t.most; whole = λ e. absurd (omega (arith, e)); failed = λ e. absurd (omega (arith, e)); refused = λ e. absurd (omega (arith, e)); limit = λ e. absurd (omega (arith, e)); nothing = λ e. absurd (omega (arith, e)) }
Took-of (Err (stops.Device (device.BadRecord addr))) taken left t = record { most = t.most; whole = λ e. absurd (omega (arith, e)); failed = λ e. absurd (omega (arith, e)); refused = λ e. absurd (omega (arith, e)); limit = λ e. absurd (omega (arith, e)); nothing = λ e. absurd (omega (arith, e)) }

-- a stop of the device, and what the putting of its last line ended with
pub Ran-ended : (tells Before : Type 0) (old new : World) (Still Risen : Type 0) (stop : DeviceStop) (ended : Stop) (left left_now a b c : Option (List ℕ))
    → Ran tells Before old new no_line (Err (stops.Device stop)) left left_now a b
    → ((ended ≡ stops.Device stop) × Got b (damage_line stop) c × Still) ⊎ ((ended ≡ stops.Sink) × Risen × GotPart b (damage_line stop) c × (IsSound stop → ⊥))
    → Ran tells Before old new damage_line (Err ended) left left_now a c
Ran-ended tells Before old new Still Risen stop ended left left_now a b c r (inl (e, got, still)) =
    subst (λ (s : Stop). Ran tells Before old new damage_line (Err s) left left_now a c) (sym e) (Ran-last tells Before old new stop left left_now a b c r got)
Ran-ended tells Before old new Still Risen stop ended left left_now a b c r (inr (e, risen, got, damaged)) =
    subst (λ (s : Stop). Ran tells Before old new damage_line (Err s) left left_now a c) (sym e) (Ran-cut tells Before old new stop left left_now a b c r got damaged)

-- a stop before the first line is one without damage, where the cell can be served
pub sound_of : (stop : DeviceStop) → IsEarly stop → (stop ≡ device.BadRoot → ⊥) → IsSound stop
sound_of device.BadRoot early served = absurd (served refl)
sound_of device.Platform early served = tt
sound_of device.Memory early served = tt
sound_of device.Tape early served = tt
sound_of device.Ledger early served = tt
sound_of (device.BadRecord addr) early served = absurd early
