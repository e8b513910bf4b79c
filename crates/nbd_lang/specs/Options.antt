-- Options, which a client sends before requests. All numbers have their highest byte first.
use Rattle.std.specs.Prelude.{◌≡◌, ◌≢◌, ◌<◌, ◌^◌, ℕ, List, [], ◌∷◌, ◌++◌, length, codes}
use Rattle.std.specs.List.{concat}
use Rattle.std.specs.Int.{w32, to_be_bytes}
use Rattle.nbd_lang.specs.declared.options.OptionHead.{OptionHead}
use Rattle.nbd_lang.specs.declared.options.OptionKind.{OptionKind}
use Rattle.nbd_lang.specs.declared.options.OptionKind.TheVariants.{Export, Abort, Other}

-- the number of a kind of option
abbrev pub option_number : OptionKind → ℕ
option_number Export = 1
option_number Abort = 2
option_number (Other number) = number

-- one that isn't served has a number of its own
abbrev pub FitsOptionKind : OptionKind → Type 0
FitsOptionKind Export = Unit {0}
FitsOptionKind Abort = Unit {0}
FitsOptionKind (Other number) = (number ≢ 1) × (number ≢ 2) × (number < 2 ^ 32)

pub record FitsOptionHead (head : OptionHead) : Type 0 where
  pub kind : FitsOptionKind head.kind
  pub length : head.length < 2 ^ 32

-- what stands before an option's data, field by field
abbrev pub option_fields : OptionHead → List (List ℕ)
option_fields head = codes "IHAVEOPT" ∷ to_be_bytes w32 (option_number head.kind) ∷ to_be_bytes w32 head.length ∷ []

abbrev pub option_head : OptionHead → List ℕ
option_head head = concat (option_fields head)

-- an option with its data
pub record OptionSent : Type 0 where
  pub head : OptionHead
  pub bytes : List ℕ

pub record FitsOption (sent : OptionSent) : Type 0 where
  pub head : FitsOptionHead sent.head
  pub bytes : length sent.bytes ≡ sent.head.length

abbrev pub option_bytes : OptionSent → List ℕ
option_bytes sent = option_head sent.head ++ sent.bytes
