-- What a stop of the device is due to.
use Rattle.std.specs.Prelude.{◌≡◌, Result, OnOk, IfErr}
use Rattle.sdbt_base.specs.Counts.{Counts, PlatformRose, TapeRose, LedgerRose, NoneFell, counts}
use Rattle.sdbt_base.specs.declared.sinks.Sink.{Ghosts as SinkGhosts}
use Rattle.sdbt_base.specs.declared.sources.Source.{Ghosts as SourceGhosts}
use Rattle.sdbt_base.specs.declared.tapes.Tape.{Ghosts as TapeGhosts}
use Rattle.platform.specs.declared.platforms.Platform.{Ghosts as PlatformGhosts}
use Rattle.session_calls.specs.declared.stops.DeviceStop.{DeviceStop}
use Rattle.session_calls.specs.declared.stops.DeviceStop.TheVariants as stops

-- the counts of faults of all that a run is handed
abbrev pub counts_of : {S R I O L : Type 0} → PlatformGhosts S → TapeGhosts R → SourceGhosts I → SinkGhosts O → SinkGhosts L → S → R → I → O → L → Counts
counts_of P T I O L platform tape input output ledger = counts (P.faults platform) (T.faults tape) (I.faults input) (O.faults output) (L.faults ledger)

-- a stop that names a fault comes where the count of that object rose, and that of no other; at each other stop all are as they were
abbrev pub HasCause : Counts → Counts → DeviceStop → Type 0
HasCause before now stops.Platform = PlatformRose before now
HasCause before now stops.Tape = TapeRose before now
HasCause before now stops.Ledger = LedgerRose before now
HasCause before now stops.BadRoot = now ≡ before
HasCause before now (stops.BadRecord addr) = now ≡ before
HasCause before now stops.Memory = now ≡ before

-- a stop that a call for a block comes to: neither the ledger's nor a root record's
abbrev pub IsOfCall : DeviceStop → Type 0
IsOfCall stops.Platform = Unit {0}
IsOfCall stops.Tape = Unit {0}
IsOfCall stops.Memory = Unit {0}
IsOfCall (stops.BadRecord addr) = Unit {0}
IsOfCall stops.Ledger = ⊥
IsOfCall stops.BadRoot = ⊥

-- no count fell; all are as they were after a call that was done, and where one stopped at a fault that of this object rose alone
pub record IsBlamed {T : Type 0} (before now : Counts) (result : Result T DeviceStop) : Type 0 where
  pub fell : NoneFell before now
  pub quiet : OnOk result (now ≡ before)
  pub cause : IfErr result (HasCause before now)
