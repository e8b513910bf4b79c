use Rattle.std.proofs.Common.{◌≢◌, Option, Some, None}
use Rattle.std.specs.Option.{IfNone}
use Rattle.script_lang.specs.Replies.{IsReply, text_of}
use Rattle.script_lang.specs.Replies.{Formatted, Mounted, Content, Done, Committed, Dropped, Erased, Upgraded, Stat, Seized, Bad, Unmounted, AlreadyMounted, NotEmpty, NoDevice, AlreadyUpgraded, Range, Full}
use Rattle.script_lang.proofs.reading.find_reply.Goals as goal

weaker : {X : Type 0} (o : Option X) (P Q : Type 0) → (P → Q) → IfNone o P → IfNone o Q
weaker None P Q leads p = leads p
weaker (Some x) P Q leads p = p

pub returns-clause-none : goal.returns-clause-none
returns-clause-none c =
    let words = c.in_default.ensures.none in
    weaker c.read_seized.result _ _ (λ seized reply.
    elim reply as (λ r. IsReply r → c.args.line.now ≢ text_of r) [
      | Formatted ↦ λ is. words Formatted tt
      | Mounted number ↦ λ is. c.in_default-read_mounted.ensures.none number is
      | Content bytes ↦ λ is. c.in_default-read_content.ensures.none bytes is
      | Done ↦ λ is. words Done tt
      | Committed number ↦ λ is. c.in_default-read_committed.ensures.none number is
      | Dropped ↦ λ is. words Dropped tt
      | Erased ↦ λ is. words Erased tt
      | Upgraded number ↦ λ is. c.in_default-read_upgraded.ensures.none number is
      | Stat mapped number ↦ λ is. c.in_default-read_stat.ensures.none mapped number is.0 is.1
      | Seized pages nodes blocks ↦ λ is. seized pages nodes blocks is.0 is.1 is.2
      | Bad ↦ λ is. words Bad tt
      | Unmounted ↦ λ is. words Unmounted tt
      | AlreadyMounted ↦ λ is. words AlreadyMounted tt
      | NotEmpty ↦ λ is. words NotEmpty tt
      | NoDevice ↦ λ is. words NoDevice tt
      | AlreadyUpgraded ↦ λ is. words AlreadyUpgraded tt
      | Range ↦ λ is. words Range tt
      | Full ↦ λ is. words Full tt
    ]) c.read_seized.ensures.none
