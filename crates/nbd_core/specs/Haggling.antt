-- What is said before requests.
use Rattle.std.specs.Prelude.{◌≡◌, ◌≢◌, ◌⊎◌, ◌≤◌, ◌<◌, ℕ, Bool, List, [], ◌∷◌, ◌++◌, All, Option, None, Some, Result, Ok, Err, length, take, codes}
use Rattle.std.specs.List.{flat_map}
use Rattle.sdbt_base.specs.Told.{Got, IsAtEnd}
use Rattle.nbd_lang.specs.Greeting.{greeting, flags_bytes}
use Rattle.nbd_lang.specs.Options.{OptionSent, FitsOption, option_bytes}
use Rattle.nbd_lang.specs.Answers.{option_reply, export_answer}
use Rattle.nbd_lang.specs.declared.greeting.ClientFlags.{ClientFlags}
use Rattle.nbd_lang.specs.declared.options.OptionHead.{OptionHead}
use Rattle.nbd_lang.specs.declared.options.OptionKind.{OptionKind}
use Rattle.nbd_lang.specs.declared.options.OptionKind.TheVariants.{Export, Abort, Other}
use Rattle.nbd_lang.specs.declared.answers.Answer.TheVariants.{Acknowledged, Unsupported}
use Rattle.nbd_core.specs.Room.{Room, Came}
use Rattle.nbd_core.specs.declared.stop.Stop.{Stop}
use Rattle.nbd_core.specs.declared.stop.Stop.TheVariants as stops
use Rattle.nbd_core.specs.declared.haggling.Agreed.{Agreed}
use Rattle.nbd_core.specs.declared.haggling.Agreed.TheVariants as agreed

-- the answer to an option, on a device of so many bytes, for a client that wants no zeros or does
abbrev pub answer_by : ℕ → Bool → OptionKind → List ℕ
answer_by size no_zeroes Export = export_answer size no_zeroes
answer_by size no_zeroes Abort = option_reply Abort Acknowledged
answer_by size no_zeroes (Other number) = option_reply (Other number) Unsupported

abbrev pub answer_to : ℕ → Bool → OptionSent → List ℕ
answer_to size no_zeroes sent = answer_by size no_zeroes sent.head.kind

-- fewer bytes than the client's flags have
abbrev pub AwaitsFlags : List ℕ → Type 0
AwaitsFlags bytes = length bytes < 4

-- four bytes or more that begin with no client's flags
abbrev pub LacksFlags : List ℕ → Type 0
LacksFlags bytes = (4 ≤ length bytes) × ((flags : ClientFlags) (more : List ℕ) → bytes ≢ flags_bytes flags ++ more)

-- bytes that may still become an option: none is whole at their front, and their first eight, where
-- these are there, are what each option begins with
abbrev pub AwaitsOption : List ℕ → Type 0
AwaitsOption bytes = ((sent : OptionSent) (more : List ℕ) → FitsOption sent → bytes ≢ option_bytes sent ++ more) × (8 ≤ length bytes → take 8 bytes ≡ codes "IHAVEOPT")

-- eight bytes or more that begin as no option does
abbrev pub LacksOption : List ℕ → Type 0
LacksOption bytes = (8 ≤ length bytes) × (take 8 bytes ≢ codes "IHAVEOPT")

-- bytes that are the first of these options, and behind them what may still become another
abbrev pub AwaitsAnother : List OptionSent → List ℕ → Type 0
AwaitsAnother options bytes =
    (first : List OptionSent) × (others : List OptionSent) × (part : List ℕ) × (options ≡ first ++ others) × (bytes ≡ flat_map option_bytes first ++ part) × AwaitsOption part

-- the same behind the flags, or less than these
abbrev pub AwaitsWord : ClientFlags → List OptionSent → List ℕ → Type 0
AwaitsWord flags options bytes = AwaitsFlags bytes ⊎ ((rest : List ℕ) × (bytes ≡ flags_bytes flags ++ rest) × AwaitsAnother options rest)

-- options after each of which another may come
abbrev pub IsOther : OptionKind → Type 0
IsOther Export = ⊥
IsOther Abort = ⊥
IsOther (Other number) = Unit {0}

abbrev pub AreOthers : List OptionSent → Type 0
AreOthers options = All (λ sent. IsOther sent.head.kind) options

-- the last of the options is of this kind, and no other ended the haggling
abbrev pub EndWith : OptionKind → List OptionSent → Type 0
EndWith kind options = (others : List OptionSent) × (last : OptionSent) × (options ≡ others ++ last ∷ []) × (last.head.kind ≡ kind) × AreOthers others

-- an option is broken: the input ended inside of it, or it begins as none does
abbrev pub IsBroken : Option (List ℕ) → List ℕ → Type 0
IsBroken left bytes = (IsAtEnd left × (0 < length bytes) × AwaitsOption bytes) ⊎ LacksOption bytes

-- so are flags
abbrev pub AreBroken : Option (List ℕ) → List ℕ → Type 0
AreBroken left bytes = (IsAtEnd left × AwaitsFlags bytes) ⊎ LacksFlags bytes

-- how the taking of the flags ended
abbrev pub FlagsEnd : Option (List ℕ) → List ℕ → List ℕ → Result ClientFlags Stop → Type 0
FlagsEnd left ahead came (Ok flags) = came ≡ flags_bytes flags ++ ahead
FlagsEnd left ahead came (Err stops.Source) = AwaitsFlags came
FlagsEnd left ahead came (Err stops.Limit) = AwaitsFlags came
FlagsEnd left ahead came (Err stops.Broken) = AreBroken left came
FlagsEnd left ahead came (Err stops.Sink) = ⊥

pub record FlagsCame (left left_now : Option (List ℕ)) (old new : Room) (result : Result ClientFlags Stop) : Type 0 where
  pub came : List ℕ
  pub takes : Came left left_now old new.left AwaitsFlags came
  pub ends : FlagsEnd left_now new.ahead came result

-- how the taking of an option ended
abbrev pub OptionEnd : Option (List ℕ) → List ℕ → List ℕ → Result (Option OptionHead) Stop → Type 0
OptionEnd left ahead came (Ok (Some head)) = (bytes : List ℕ) × FitsOption (record { head = head; bytes = bytes }) × (came ≡ option_bytes (record { head = head; bytes = bytes }) ++ ahead)
OptionEnd left ahead came (Ok None) = (came ≡ []) × IsAtEnd left
OptionEnd left ahead came (Err stops.Source) = AwaitsOption came
OptionEnd left ahead came (Err stops.Limit) = AwaitsOption came
OptionEnd left ahead came (Err stops.Broken) = IsBroken left came
OptionEnd left ahead came (Err stops.Sink) = ⊥

pub record OptionCame (left left_now : Option (List ℕ)) (old new : Room) (result : Result (Option OptionHead) Stop) : Type 0 where
  pub came : List ℕ
  pub takes : Came left left_now old new.left AwaitsOption came
  pub ends : OptionEnd left_now new.ahead came result

-- how options ended, of which all were answered: with a rest behind them, and a part of one answer
-- more
abbrev pub TalkEnd : ℕ → Bool → List OptionSent → List ℕ → List ℕ → Option (List ℕ) → List ℕ → Result Agreed Stop → Type 0
TalkEnd size no_zeroes options rest part left ahead (Ok agreed.Requests) = EndWith Export options × (rest ≡ ahead) × (part ≡ [])
TalkEnd size no_zeroes options rest part left ahead (Ok agreed.Nothing) = (EndWith Abort options ⊎ (AreOthers options × (rest ≡ []) × IsAtEnd left)) × (part ≡ [])
TalkEnd size no_zeroes options rest part left ahead (Err stops.Source) = AreOthers options × AwaitsOption rest × (part ≡ [])
TalkEnd size no_zeroes options rest part left ahead (Err stops.Limit) = AreOthers options × AwaitsOption rest × (part ≡ [])
TalkEnd size no_zeroes options rest part left ahead (Err stops.Broken) = AreOthers options × IsBroken left rest × (part ≡ [])
TalkEnd size no_zeroes options rest part left ahead (Err stops.Sink) =
    AreOthers options × (sent : OptionSent) × FitsOption sent × (rest ≡ option_bytes sent ++ ahead) × (n : ℕ) × (part ≡ take n (answer_to size no_zeroes sent))

-- options that came, and the answers that were put, one for each in their order
pub record Talk (size : ℕ) (no_zeroes : Bool) (left left_now : Option (List ℕ)) (old new : Room) (written written_now : Option (List ℕ)) (result : Result Agreed Stop) : Type 0 where
  pub options : List OptionSent
  pub came : List ℕ
  pub put : List ℕ
  pub rest : List ℕ
  pub part : List ℕ
  pub takes : Came left left_now old new.left (AwaitsAnother options) came
  pub got : Got written put written_now
  pub fit : All FitsOption options
  pub said : came ≡ flat_map option_bytes options ++ rest
  pub replied : put ≡ flat_map (answer_to size no_zeroes) options ++ part
  pub ends : TalkEnd size no_zeroes options rest part left_now new.ahead result

-- how a greeting ended that no client's flags followed
abbrev pub GreetingEnd : Option (List ℕ) → List ℕ → List ℕ → Result Agreed Stop → Type 0
GreetingEnd left came put (Ok agreed) = ⊥
GreetingEnd left came put (Err stops.Source) = AwaitsFlags came × (put ≡ greeting)
GreetingEnd left came put (Err stops.Limit) = AwaitsFlags came × (put ≡ greeting)
GreetingEnd left came put (Err stops.Broken) = AreBroken left came × (put ≡ greeting)
GreetingEnd left came put (Err stops.Sink) = (came ≡ []) × (n : ℕ) × (put ≡ take n greeting)

-- no flags came
pub record Greeted (left left_now : Option (List ℕ)) (old new : Room) (written written_now : Option (List ℕ)) (result : Result Agreed Stop) : Type 0 where
  pub came : List ℕ
  pub put : List ℕ
  pub takes : Came left left_now old new.left AwaitsFlags came
  pub got : Got written put written_now
  pub ends : GreetingEnd left_now came put result

-- flags came, and then options
pub record Talked (size : ℕ) (left left_now : Option (List ℕ)) (old new : Room) (written written_now : Option (List ℕ)) (result : Result Agreed Stop) : Type 0 where
  pub flags : ClientFlags
  pub options : List OptionSent
  pub came : List ℕ
  pub put : List ℕ
  pub rest : List ℕ
  pub part : List ℕ
  pub takes : Came left left_now old new.left (AwaitsWord flags options) came
  pub got : Got written put written_now
  pub fit : All FitsOption options
  pub said : came ≡ flags_bytes flags ++ (flat_map option_bytes options ++ rest)
  pub replied : put ≡ greeting ++ (flat_map (answer_to size flags.no_zeroes) options ++ part)
  pub ends : TalkEnd size flags.no_zeroes options rest part left_now new.ahead result

abbrev pub Haggled : ℕ → Option (List ℕ) → Option (List ℕ) → Room → Room → Option (List ℕ) → Option (List ℕ) → Result Agreed Stop → Type 0
Haggled size left left_now old new written written_now result = Greeted left left_now old new written written_now result ⊎ Talked size left left_now old new written written_now result
