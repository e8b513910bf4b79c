-- Bytes of a request that come behind its head.
use Rattle.std.proofs.Common.{◌≡◌, ◌≤◌, ◌<◌, ◌+◌, ◌++◌, ◌⊎◌, ℕ, List, [], Option, Result, Ok, Err, inl, inr, length, take, refl, sym, ap, subst, ◌∙◌, append_assoc, length-append, arith}
use Rattle.std.specs.Prelude.{IfErr, IfOk}
use Rattle.nbd_core.specs.Room.{Room, Came, IsShorter}
use Rattle.nbd_core.specs.Requests.{DataCame, DataEnd}
use Rattle.nbd_core.specs.declared.stop.Stop.{Stop}
use Rattle.nbd_core.specs.declared.stop.Stop.TheVariants as stops
use Rattle.nbd_core.specs.declared.halts.Halt.{Halt}
use Rattle.nbd_core.specs.declared.halts.Halt.TheVariants as halts
use Rattle.sdbt_base.specs.Told.{IsAtEnd}
use Rattle.nbd_core.proofs.CameLaws.{came_nothing, came_then, gone_more}

-- more came behind bytes that are gone, and fewer than so many were waited for
pub gone_then : (a b c : Option (List ℕ)) (old mid : Room) (left_to_take count more : ℕ) (gone came : List ℕ) → Came a b old mid.left (IsShorter count) (gone ++ mid.ahead) → length gone + more ≤ count → Came b c mid left_to_take (IsShorter more) came
    → Came a c old left_to_take (IsShorter count) (gone ++ came)
gone_then a b c old mid left_to_take count more gone came first le next =
    came_then a b c old mid left_to_take (IsShorter count) (IsShorter more) (IsShorter count) gone came (λ bytes waits. waits)
    (λ bytes waits. omega (arith, waits, le, length-append gone (mid.ahead ++ bytes))) first next

-- so many more are gone
pub gone_skip : (a c : Option (List ℕ)) (old mid new : Room) (count k : ℕ) (gone : List ℕ) → Came a c old mid.left (IsShorter count) (gone ++ mid.ahead) → new.ahead ≡ Rattle.std.proofs.Common.drop k mid.ahead → new.left ≡ mid.left
    → Came a c old new.left (IsShorter count) ((gone ++ take k mid.ahead) ++ new.ahead)
gone_skip a c old mid new count k gone came ahead left =
    let same : gone ++ mid.ahead ≡ (gone ++ take k mid.ahead) ++ new.ahead = gone_more gone mid.ahead k ∙ ap (λ (l : List ℕ). (gone ++ take k mid.ahead) ++ l) (sym ahead) in
    subst (λ (n : ℕ). Came a c old n (IsShorter count) ((gone ++ take k mid.ahead) ++ new.ahead)) (sym left) (subst (Came a c old mid.left (IsShorter count)) same came)

-- where no byte is to come none is waited for
no_limit : {X : Type 0} (left : Option (List ℕ)) (came : List ℕ) (halt : Halt) → DataEnd left 0 came halt → halt ≡ halts.Client stops.Limit → X
no_limit left came halt ends is = let short : length came < 0 = subst (DataEnd left 0 came) is ends in absurd (omega (arith, short))

-- no byte belongs to the request
pub no_data : {X : Type 0} (left : Option (List ℕ)) (old : Room) (count : ℕ) (Did : List ℕ → Type 0) (result : Result X Halt) → count ≡ 0 → IfErr result (DataEnd left 0 old.ahead) → Did [] → DataCame left left old old count Did result
no_data left old count Did (Ok x) none ends did = record { gone = []; came = came_nothing left old (IsShorter count); whole = sym none; ends = tt; limit = tt; did = did }
no_data left old count Did (Err halt) none ends did = record { gone = []; came = came_nothing left old (IsShorter count); whole = tt; ends = subst (λ (n : ℕ). DataEnd left n old.ahead halt) (sym none) ends; limit = no_limit left old.ahead halt ends; did = did }

-- all came
pub data_whole : {X : Type 0} (a c : Option (List ℕ)) (old new : Room) (count : ℕ) (Did : List ℕ → Type 0) (gone : List ℕ) (x : X) → Came a c old new.left (IsShorter count) (gone ++ new.ahead) → length gone ≡ count → Did gone → DataCame a c old new count Did (Ok x)
data_whole a c old new count Did gone x came whole did = record { gone = gone; came = came; whole = whole; ends = tt; limit = tt; did = did }

-- fewer came
pub data_short : {X : Type 0} (a c : Option (List ℕ)) (old new : Room) (count : ℕ) (Did : List ℕ → Type 0) (gone : List ℕ) (stop : Stop) → Came a c old new.left (IsShorter count) (gone ++ new.ahead) → length (gone ++ new.ahead) < count
    → (stop ≡ stops.Source) ⊎ (stop ≡ stops.Limit) → (stop ≡ stops.Limit → new.left ≡ 0) → Did gone → DataCame {X = X} a c old new count Did (Err (halts.Client stop))
data_short a c old new count Did gone stops.Source came short which limit did = record { gone = gone; came = came; whole = tt; ends = short; limit = λ is. absurd cc; did = did }
data_short a c old new count Did gone stops.Limit came short which limit did = record { gone = gone; came = came; whole = tt; ends = short; limit = λ is. limit refl; did = did }
data_short a c old new count Did gone stops.Broken came short (inl same) limit did = absurd cc
data_short a c old new count Did gone stops.Broken came short (inr same) limit did = absurd cc
data_short a c old new count Did gone stops.Sink came short (inl same) limit did = absurd cc
data_short a c old new count Did gone stops.Sink came short (inr same) limit did = absurd cc

pub data_broken : {X : Type 0} (a c : Option (List ℕ)) (old new : Room) (count : ℕ) (Did : List ℕ → Type 0) (gone : List ℕ) → Came a c old new.left (IsShorter count) (gone ++ new.ahead) → length (gone ++ new.ahead) < count → IsAtEnd c
    → Did gone → DataCame {X = X} a c old new count Did (Err (halts.Client stops.Broken))
data_broken a c old new count Did gone came short end did = record { gone = gone; came = came; whole = tt; ends = (short, end); limit = λ is. absurd cc; did = did }

ends_then : (left : Option (List ℕ)) (count more : ℕ) (gone came : List ℕ) (halt : Halt) → length gone + more ≡ count → DataEnd left more came halt → DataEnd left count (gone ++ came) halt
ends_then left count more gone came (halts.Client stops.Source) is ends = omega (arith, is, ends, length-append gone came)
ends_then left count more gone came (halts.Client stops.Limit) is ends = omega (arith, is, ends, length-append gone came)
ends_then left count more gone came (halts.Client stops.Broken) is ends = (omega (arith, is, ends.0, length-append gone came), ends.1)
ends_then left count more gone came (halts.Client stops.Sink) is ends = absurd ends
ends_then left count more gone came halts.Platform is ends = tt
ends_then left count more gone came halts.Tape is ends = tt
ends_then left count more gone came halts.Ledger is ends = tt
ends_then left count more gone came halts.Memory is ends = tt
ends_then left count more gone came halts.BadRoot is ends = absurd ends
ends_then left count more gone came halts.NoDevice is ends = absurd ends
ends_then left count more gone came halts.Unfinished is ends = absurd ends

-- the rest of them came behind those that are gone
pub data_then : {X : Type 0} (a b c : Option (List ℕ)) (old mid new : Room) (count more : ℕ) (gone : List ℕ) (Then Did : List ℕ → Type 0) (result : Result X Halt) → Came a b old mid.left (IsShorter count) (gone ++ mid.ahead) → length gone + more ≡ count
    → ((after : List ℕ) → IfOk result (λ x. length (gone ++ after) ≡ count) → Then after → Did (gone ++ after)) → DataCame b c mid new more Then result → DataCame a c old new count Did result
data_then a b c old mid new count more gone Then Did (Ok x) first is did rest = record {
  gone = gone ++ rest.gone;
  came = subst (Came a c old new.left (IsShorter count)) (sym (append_assoc gone rest.gone new.ahead)) (gone_then a b c old mid new.left count more gone (rest.gone ++ new.ahead) first (omega (arith, is)) rest.came);
  whole = omega (arith, is, rest.whole, length-append gone rest.gone);
  ends = tt;
  limit = tt;
  did = did rest.gone (omega (arith, is, rest.whole, length-append gone rest.gone)) rest.did;
}
data_then a b c old mid new count more gone Then Did (Err halt) first is did rest = record {
  gone = gone ++ rest.gone;
  came = subst (Came a c old new.left (IsShorter count)) (sym (append_assoc gone rest.gone new.ahead)) (gone_then a b c old mid new.left count more gone (rest.gone ++ new.ahead) first (omega (arith, is)) rest.came);
  whole = tt;
  ends = subst (λ (l : List ℕ). DataEnd c count l halt) (sym (append_assoc gone rest.gone new.ahead)) (ends_then c count more gone (rest.gone ++ new.ahead) halt is rest.ends);
  limit = rest.limit;
  did = did rest.gone tt rest.did;
}

-- more is known of what was done
pub data_did : {X : Type 0} (a c : Option (List ℕ)) (old new : Room) (some count : ℕ) (Then Did : List ℕ → Type 0) (result : Result X Halt) → some ≡ count → ((gone : List ℕ) → Then gone → Did gone) → DataCame a c old new some Then result → DataCame a c old new count Did result
data_did a c old new some count Then Did result same did came =
    let it = subst (λ (n : ℕ). DataCame a c old new n Then result) same came in
    record { gone = it.gone; came = it.came; whole = it.whole; ends = it.ends; limit = it.limit; did = did it.gone it.did }

-- the same where something else goes on
pub data_went : {X Y : Type 0} (a c : Option (List ℕ)) (old new : Room) (count : ℕ) (Then Did : List ℕ → Type 0) (x : X) (y : Y) → ((gone : List ℕ) → Then gone → Did gone) → DataCame {X = X} a c old new count Then (Ok x) → DataCame {X = Y} a c old new count Did (Ok y)
data_went a c old new count Then Did x y did came = record { gone = came.gone; came = came.came; whole = came.whole; ends = tt; limit = tt; did = did came.gone came.did }

-- and where the run is over
pub data_over : {X Y : Type 0} (a c : Option (List ℕ)) (old new : Room) (count : ℕ) (Then Did : List ℕ → Type 0) (halt : Halt) → ((gone : List ℕ) → DataEnd c count (gone ++ new.ahead) halt → Did gone) → DataCame {X = X} a c old new count Then (Err halt) → DataCame {X = Y} a c old new count Did (Err halt)
data_over a c old new count Then Did halt did came = record { gone = came.gone; came = came.came; whole = tt; ends = came.ends; limit = came.limit; did = did came.gone came.ends }

-- there is no more to come than before
pub less_of_data : {X : Type 0} (a c : Option (List ℕ)) (old new : Room) (count : ℕ) (Did : List ℕ → Type 0) (result : Result X Halt) → DataCame a c old new count Did result → length new.ahead + new.left ≤ length old.ahead + old.left
less_of_data a c old new count Did result rest =
    omega (arith, ap length rest.came.is, length-append rest.gone new.ahead, length-append old.ahead rest.came.taken, rest.came.count)
