-- How the moments of some replies to `seize` lines and those of the next ones make those of all.
use Rattle.std.proofs.Common.{◌≡◌, ℕ, ◌≤◌, List, [], ◌∷◌, ◌++◌, Option, length, refl, subst, sym, arith}
use Rattle.platform.specs.Image.{Image}
use Rattle.platform.specs.History.{History, Extends, image_at, moment}
use Rattle.sdbt_base.specs.Arrays.{Device}
use Rattle.script_lang.specs.Replies.{Reply}
use Rattle.script_lang.specs.Replies as replies
use Rattle.device_cli.specs.Pages.{Standing}
use Rattle.device_cli.specs.Seen.{IsToldOf, Saw, SeenOn}

-- a reply that no seizure gave belongs to any moment
pub told_plain : (device : Option Device) (pages : ℕ) (image : Image) (reply : Reply) → ((told nodes blocks : ℕ) → reply ≡ replies.Seized told nodes blocks → ⊥)
    → IsToldOf device pages image reply
told_plain device pages image (replies.Seized told nodes blocks) plain = absurd (plain told nodes blocks refl)
told_plain device pages image replies.Formatted plain = tt
told_plain device pages image (replies.Mounted number) plain = tt
told_plain device pages image (replies.Content bytes) plain = tt
told_plain device pages image replies.Done plain = tt
told_plain device pages image (replies.Committed number) plain = tt
told_plain device pages image replies.Dropped plain = tt
told_plain device pages image replies.Erased plain = tt
told_plain device pages image (replies.Upgraded number) plain = tt
told_plain device pages image (replies.Stat mapped number) plain = tt
told_plain device pages image replies.Bad plain = tt
told_plain device pages image replies.Unmounted plain = tt
told_plain device pages image replies.AlreadyMounted plain = tt
told_plain device pages image replies.NotEmpty plain = tt
told_plain device pages image replies.NoDevice plain = tt
told_plain device pages image replies.AlreadyUpgraded plain = tt
told_plain device pages image replies.Range plain = tt
told_plain device pages image replies.Full plain = tt

pub saw_plain : (old new : History) (device : Option Device) (pages : ℕ) (reply : Reply) → Extends old new
    → ((told nodes blocks : ℕ) → reply ≡ replies.Seized told nodes blocks → ⊥) → Saw new (moment old) device pages reply
saw_plain old new device pages reply extends plain = record {
  at = moment new;
  later = extends.later;
  within = omega arith;
  told = told_plain device pages (image_at new (moment new)) reply plain;
}

-- time went on
saw_later : (old new : History) (from : ℕ) (device : Option Device) (pages : ℕ) (reply : Reply) → Extends old new → Saw old from device pages reply → Saw new from device pages reply
saw_later old new from device pages reply extends saw = record {
  at = saw.at;
  later = saw.later;
  within = omega (arith, saw.within, extends.later);
  told = subst (λ (image : Image). IsToldOf device pages image reply) (sym (extends.same saw.at saw.within)) saw.told;
}

-- the moments were not before an earlier one either
SeenOn-earlier : (capacity : ℕ) (history : History) (from earlier : ℕ) (old new : Standing) (lines : List (List ℕ)) (replies : List Reply)
    → earlier ≤ from → SeenOn capacity history from old lines replies new → SeenOn capacity history earlier old lines replies new
SeenOn-earlier capacity history from earlier old new lines [] before h = h
SeenOn-earlier capacity history from earlier old new [] (reply ∷ replies) before h = absurd h
SeenOn-earlier capacity history from earlier old new (line ∷ lines) (reply ∷ replies) before (saw, next, turn, rest) =
    (record { at = saw.at; later = omega (arith, before, saw.later); within = saw.within; told = saw.told }, next, turn, rest)

-- all of some lines in some time, and then more in the time after it
pub SeenOn-append : (capacity : ℕ) (first second : History) (from : ℕ) (old mid new : Standing) (lines more : List (List ℕ)) (replies others : List Reply)
    → Extends first second → from ≤ moment first → length replies ≡ length lines → SeenOn capacity first from old lines replies mid → SeenOn capacity second (moment first) mid more others new
    → SeenOn capacity second from old (lines ++ more) (replies ++ others) new
unfolding saw_later
SeenOn-append capacity first second from old mid new [] more [] others extends before same h k =
    subst (λ (s : Standing). SeenOn capacity second from s more others new) h (SeenOn-earlier capacity second (moment first) from mid new more others before k)
SeenOn-append capacity first second from old mid new [] more (reply ∷ replies) others extends before same h k = absurd h
SeenOn-append capacity first second from old mid new (line ∷ lines) more [] others extends before same h k = absurd (omega (arith, same))
SeenOn-append capacity first second from old mid new (line ∷ lines) more (reply ∷ replies) others extends before same (saw, next, turn, rest) k = (
  saw_later first second from old.state.device old.pages reply extends saw,
  next,
  turn,
  SeenOn-append capacity first second saw.at next mid new lines more replies others extends saw.within (omega (arith, same)) rest k,
)

-- lines may be left over
pub SeenOn-longer : (capacity : ℕ) (history : History) (from : ℕ) (old new : Standing) (lines more : List (List ℕ)) (replies : List Reply)
    → SeenOn capacity history from old lines replies new → SeenOn capacity history from old (lines ++ more) replies new
SeenOn-longer capacity history from old new lines more [] h = h
SeenOn-longer capacity history from old new [] more (reply ∷ replies) h = absurd h
SeenOn-longer capacity history from old new (line ∷ lines) more (reply ∷ replies) (saw, next, turn, rest) =
    (saw, next, turn, SeenOn-longer capacity history saw.at next new lines more replies rest)
