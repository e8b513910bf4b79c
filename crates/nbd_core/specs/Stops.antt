-- Exit statuses of a run that its client doesn't end.
use Rattle.std.specs.Prelude.{◌≡◌, ◌≤◌, ◌+◌, ℕ, Result, Ok, Err, IfOk}
use Rattle.sdbt_base.specs.Faults.{Rose}
use Rattle.nbd_core.specs.declared.stop.Stop.{Stop}
use Rattle.nbd_core.specs.declared.stop.Stop.TheVariants.{Source, Sink, Limit, Broken}

abbrev pub status_of : Stop → ℕ
status_of Source = 3
status_of Sink = 4
status_of Limit = 12
status_of Broken = 14

-- the count of an input after what takes of it: it rose where the input failed, and is as it was at all else
abbrev pub TellsTake : {X : Type 0} → Result X Stop → ℕ → ℕ → Type 0
TellsTake (Ok x) before now = now ≡ before
TellsTake (Err Source) before now = Rose before now
TellsTake (Err Limit) before now = now ≡ before
TellsTake (Err Broken) before now = now ≡ before
TellsTake (Err Sink) before now = ⊥

-- the count of an output after what is put: it rose where the output failed, which is the only stop
abbrev pub TellsPut : {X : Type 0} → Result X Stop → ℕ → ℕ → Type 0
TellsPut (Ok x) before now = now ≡ before
TellsPut (Err stop) before now = (stop ≡ Sink) × Rose before now

-- both counts after a talk: that of the one which failed rose, and all else are as they were
abbrev pub TellsTalk : {X : Type 0} → Result X Stop → ℕ → ℕ → ℕ → ℕ → Type 0
TellsTalk (Ok x) input input_now output output_now = (input_now ≡ input) × (output_now ≡ output)
TellsTalk (Err Source) input input_now output output_now = Rose input input_now × (output_now ≡ output)
TellsTalk (Err Sink) input input_now output output_now = Rose output output_now × (input_now ≡ input)
TellsTalk (Err Limit) input input_now output output_now = (input_now ≡ input) × (output_now ≡ output)
TellsTalk (Err Broken) input input_now output output_now = (input_now ≡ input) × (output_now ≡ output)

-- an input is asked no more once it has answered that it is at its end: where what came goes on it has answered no more of that, and else once more at most
pub record EndsOnce {X E : Type 0} (result : Result X E) (GoesOn : X → Type 0) (before now : ℕ) : Type 0 where
  pub once : now ≤ before + 1
  pub open_yet : IfOk result (λ x. GoesOn x → now ≡ before)
