-- How the head of a request comes.
use Rattle.std.proofs.Common.{◌≡◌, ℕ, ◌+◌, ◌<◌, ◌≤◌, Option, None, Some, Result, Ok, Err, List, [], ◌∷◌, ◌++◌, length, take, drop, refl, sym, ap, subst, ◌∙◌, append_assoc, length-append, inl, inr, arith}
use Rattle.std.specs.Prelude.{◌⊎◌}
use Rattle.std.proofs.lemmas.Bool.{cases_lt}
use Rattle.std.proofs.lemmas.List.{take-append-le, take-append-drop, drop-drop}
use Rattle.sdbt_base.specs.Told.{IsAtEnd}
use Rattle.nbd_lang.specs.Requests.{request_head}
use Rattle.nbd_lang.specs.declared.requests.Request.{Request}
use Rattle.nbd_core.specs.Room.{Room, Came, IsShorter}
use Rattle.nbd_core.specs.Requests.{request_magic, AwaitsRequest, HeadCame}
use Rattle.nbd_core.specs.declared.stop.Stop.{Stop}
use Rattle.nbd_core.specs.declared.stop.Stop.TheVariants as stops
use Rattle.nbd_core.specs.declared.halts.Halt.{Halt}
use Rattle.nbd_core.specs.declared.halts.Halt.TheVariants as halts
use Rattle.nbd_core.proofs.CameLaws.{came_then, came_weaker}

pub short_awaits : (bytes : List ℕ) → IsShorter 28 bytes → (4 ≤ length bytes → take 4 bytes ≡ request_magic) → AwaitsRequest bytes
short_awaits bytes short magic = ((λ sent more fits is. omega (arith, short, ap length is)), magic)

pub shorter_awaits : (bytes : List ℕ) → IsShorter 4 bytes → AwaitsRequest bytes
shorter_awaits bytes short = short_awaits bytes (omega (arith, short)) (λ long. absurd (omega (arith, short, long)))

-- the first four bytes are what each request begins with, also where more came behind them
pub request_stays : (ahead taken all : List ℕ) → 4 ≤ length ahead → take 4 ahead ≡ request_magic → all ≡ ahead ++ taken → take 4 all ≡ request_magic
request_stays ahead taken all long magic is = ap (take 4) is ∙ take-append-le 4 ahead taken long ∙ magic

pub first_came : (a b : Option (List ℕ)) (old new : Room) → Came a b old new.left (IsShorter 4) new.ahead → Came a b old new.left AwaitsRequest new.ahead
first_came a b old new came = came_weaker a b old new.left (IsShorter 4) AwaitsRequest new.ahead shorter_awaits came

pub head_came : (a b c : Option (List ℕ)) (old mid new : Room) → 4 ≤ length mid.ahead → take 4 mid.ahead ≡ request_magic → Came a b old mid.left (IsShorter 4) mid.ahead → Came b c mid new.left (IsShorter 28) new.ahead → Came a c old new.left AwaitsRequest new.ahead
head_came a b c old mid new long magic first more =
    came_then a b c old mid new.left (IsShorter 4) (IsShorter 28) AwaitsRequest [] new.ahead shorter_awaits
    (λ next short. short_awaits (mid.ahead ++ next) short (λ longer. request_stays mid.ahead next (mid.ahead ++ next) long magic refl)) first more

-- what is there begins with the head that is read of it
pub head_there : (all : List ℕ) (request : Request) → take 4 all ≡ request_magic → request_magic ++ take 24 (drop 4 all) ≡ request_head request → all ≡ request_head request ++ drop 28 all
head_there all request front spelled =
    sym (take-append-drop 4 all) ∙ ap (λ (l : List ℕ). l ++ drop 4 all) front ∙ ap (λ (l : List ℕ). request_magic ++ l) (sym (take-append-drop 24 (drop 4 all)))
    ∙ ap (λ (l : List ℕ). request_magic ++ (take 24 (drop 4 all) ++ l)) (drop-drop 24 4 all) ∙ sym (append_assoc request_magic (take 24 (drop 4 all)) (drop 28 all))
    ∙ ap (λ (l : List ℕ). l ++ drop 28 all) spelled

pub head_stopped : (a b : Option (List ℕ)) (old new : Room) (stop : Stop) → Came a b old new.left AwaitsRequest new.ahead → AwaitsRequest new.ahead → (stop ≡ stops.Source) ⊎ (stop ≡ stops.Limit) → (stop ≡ stops.Limit → new.left ≡ 0) → HeadCame a b old new (Err (halts.Client stop))
head_stopped a b old new stops.Source takes awaits which limit = record { came = new.ahead; takes = takes; ends = awaits; limit = λ is. absurd cc }
head_stopped a b old new stops.Limit takes awaits which limit = record { came = new.ahead; takes = takes; ends = awaits; limit = λ is. limit refl }
head_stopped a b old new stops.Broken takes awaits (inl same) limit = absurd cc
head_stopped a b old new stops.Broken takes awaits (inr same) limit = absurd cc
head_stopped a b old new stops.Sink takes awaits (inl same) limit = absurd cc
head_stopped a b old new stops.Sink takes awaits (inr same) limit = absurd cc

none_there : (bytes : List ℕ) → length bytes ≤ 0 → bytes ≡ []
none_there [] few = refl
none_there (x ∷ xs) few = absurd (omega (arith, few))

-- the input ended before the first four bytes were there
pub head_ended : (a b : Option (List ℕ)) (old new : Room) (count : ℕ) (result : Result (Option Request) Halt) → Came a b old new.left (IsShorter 4) new.ahead → IsAtEnd b → length new.ahead < 4 → count ≡ length new.ahead
    → (count ≡ 0 → result ≡ Ok None) → (0 < count → result ≡ Err (halts.Client stops.Broken)) → HeadCame a b old new result
head_ended a b old new count result came end short is none broken = elim (cases_lt 0 (length new.ahead)) [
  | inl some ↦ subst (λ (r : Result (Option Request) Halt). HeadCame a b old new r) (sym (broken (omega (arith, some, is))))
      (record { came = new.ahead; takes = first_came a b old new came; ends = inl (end, some, shorter_awaits new.ahead short); limit = λ is. absurd cc })
  | inr few ↦ subst (λ (r : Result (Option Request) Halt). HeadCame a b old new r) (sym (none (omega (arith, few, is))))
      (record { came = new.ahead; takes = first_came a b old new came; ends = (none_there new.ahead few, end); limit = tt })
]

-- there is less to come
pub less_of_head : (a b : Option (List ℕ)) (old new : Room) (request : Request) → HeadCame a b old new (Ok (Some request)) → length new.ahead + new.left < length old.ahead + old.left
less_of_head a b old new request head =
    omega (arith, ap length head.takes.is, length-append old.ahead head.takes.taken, head.takes.count, ap length head.ends.1, length-append (request_head request) new.ahead)
