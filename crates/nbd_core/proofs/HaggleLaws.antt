-- What is said before requests, option by option.
use Rattle.std.proofs.Common.{◌≡◌, ◌≢◌, ℕ, ◌+◌, ◌<◌, ◌≤◌, Option, None, Some, Result, Ok, Err, List, [], ◌∷◌, ◌++◌, length, take, drop, refl, sym, ap, subst, ◌∙◌, append_assoc, append-nil, length-append, inl, inr, arith}
use Rattle.std.specs.Prelude.{◌⊎◌, All, Bool, codes}
use Rattle.std.specs.List.{flat_map}
use Rattle.std.proofs.lemmas.List.{take-append-le, take-append-drop, drop-drop}
use Rattle.std.proofs.lemmas.List.Elements.{All-push}
use Rattle.std.proofs.lemmas.Grind.{flat_map-append}
use Rattle.record_fields.specs.Fields.{append_same}
use Rattle.sdbt_base.specs.Told.{Got, GotPart}
use Rattle.sdbt_base.proofs.ToldLaws.{Got-nothing, Got-then}
use Rattle.nbd_lang.specs.Greeting.{greeting, flags_bytes}
use Rattle.nbd_lang.specs.Options.{OptionSent, FitsOption, FitsOptionHead, option_head, option_bytes}
use Rattle.nbd_lang.specs.declared.greeting.ClientFlags.{ClientFlags}
use Rattle.nbd_lang.specs.declared.options.OptionHead.{OptionHead}
use Rattle.nbd_lang.specs.declared.options.OptionKind.TheVariants.{Export, Abort, Other}
use Rattle.nbd_lang.proofs.ReadingLaws.{option_head_same}
use Rattle.nbd_core.specs.Room.{Room, Came, IsShorter}
use Rattle.nbd_core.specs.Passed.{Passed}
use Rattle.nbd_core.specs.Haggling.{answer_by, answer_to, AwaitsFlags, AwaitsOption, AwaitsAnother, AwaitsWord, IsOther, AreOthers, FlagsCame, OptionCame, Talk, TalkEnd, Greeted, Talked}
use Rattle.nbd_core.specs.declared.stop.Stop.{Stop}
use Rattle.nbd_core.specs.declared.stop.Stop.TheVariants as stops
use Rattle.nbd_core.specs.declared.haggling.Agreed.{Agreed}
use Rattle.nbd_core.specs.declared.haggling.Agreed.TheVariants as agreed
use Rattle.nbd_core.proofs.CameLaws.{came_nothing, came_then, came_weaker}

-- ---- bytes that await a word

pub short_awaits_option : (bytes : List ℕ) → IsShorter 16 bytes → (8 ≤ length bytes → take 8 bytes ≡ codes "IHAVEOPT") → AwaitsOption bytes
short_awaits_option bytes short magic = ((λ sent more fits is. omega (arith, short, ap length is)), magic)

pub shorter_awaits_option : (bytes : List ℕ) → IsShorter 8 bytes → AwaitsOption bytes
shorter_awaits_option bytes short = short_awaits_option bytes (omega (arith, short)) (λ long. absurd (omega (arith, short, long)))

head_lacks_option : (head : OptionHead) (bytes : List ℕ) → FitsOptionHead head → length bytes < head.length → (sent : OptionSent) (more : List ℕ) → FitsOption sent → option_head head ++ bytes ≢ option_bytes sent ++ more
head_lacks_option head bytes fits short sent more fits_sent is =
    let parts = append_same (option_head head) bytes (option_head sent.head) (sent.bytes ++ more) refl is in
    let same : head ≡ sent.head = option_head_same head sent.head fits fits_sent.head parts.0 in
    omega (arith, short, ap (λ (h : OptionHead). h.length) same, fits_sent.bytes, ap length parts.1, length-append sent.bytes more)

pub head_awaits_option : (head : OptionHead) (bytes : List ℕ) → FitsOptionHead head → length bytes < head.length → AwaitsOption (option_head head ++ bytes)
head_awaits_option head bytes fits short = (head_lacks_option head bytes fits short, (λ long. refl))

-- the first eight bytes are what each option begins with, also where more came behind them
pub magic_stays : (ahead taken all : List ℕ) → 8 ≤ length ahead → take 8 ahead ≡ codes "IHAVEOPT" → all ≡ ahead ++ taken → take 8 all ≡ codes "IHAVEOPT"
magic_stays ahead taken all long magic is = ap (take 8) is ∙ take-append-le 8 ahead taken long ∙ magic

pub awaits_another : (options : List OptionSent) (bytes : List ℕ) → AwaitsOption bytes → AwaitsAnother options (flat_map option_bytes options ++ bytes)
awaits_another options bytes awaits = (options, [], bytes, sym (append-nil options), refl, awaits)

pub awaits_another_too : (options : List OptionSent) (sent : OptionSent) (bytes : List ℕ) → AwaitsAnother options bytes → AwaitsAnother (options ++ sent ∷ []) bytes
awaits_another_too options sent bytes (first, others, part, split, is, awaits) =
    (first, others ++ sent ∷ [], part, ap (λ (l : List OptionSent). l ++ sent ∷ []) split ∙ append_assoc first others (sent ∷ []), is, awaits)

-- ---- taking the flags, and an option

pub flags_stopped : (a b : Option (List ℕ)) (old new : Room) (stop : Stop) → Came a b old new.left AwaitsFlags new.ahead → AwaitsFlags new.ahead → (stop ≡ stops.Source) ⊎ (stop ≡ stops.Limit) → FlagsCame a b old new (Err stop)
flags_stopped a b old new stops.Source takes awaits which = record { came = new.ahead; takes = takes; ends = awaits }
flags_stopped a b old new stops.Limit takes awaits which = record { came = new.ahead; takes = takes; ends = awaits }
flags_stopped a b old new stops.Broken takes awaits (inl same) = absurd cc
flags_stopped a b old new stops.Broken takes awaits (inr same) = absurd cc
flags_stopped a b old new stops.Sink takes awaits (inl same) = absurd cc
flags_stopped a b old new stops.Sink takes awaits (inr same) = absurd cc

pub option_stopped : (a b : Option (List ℕ)) (old new : Room) (came : List ℕ) (stop : Stop) → Came a b old new.left AwaitsOption came → AwaitsOption came → (stop ≡ stops.Source) ⊎ (stop ≡ stops.Limit) → OptionCame a b old new (Err stop)
option_stopped a b old new came stops.Source takes awaits which = record { came = came; takes = takes; ends = awaits }
option_stopped a b old new came stops.Limit takes awaits which = record { came = came; takes = takes; ends = awaits }
option_stopped a b old new came stops.Broken takes awaits (inl same) = absurd cc
option_stopped a b old new came stops.Broken takes awaits (inr same) = absurd cc
option_stopped a b old new came stops.Sink takes awaits (inl same) = absurd cc
option_stopped a b old new came stops.Sink takes awaits (inr same) = absurd cc

pub magic_came : (a b : Option (List ℕ)) (old new : Room) → Came a b old new.left (IsShorter 8) new.ahead → Came a b old new.left AwaitsOption new.ahead
magic_came a b old new came = came_weaker a b old new.left (IsShorter 8) AwaitsOption new.ahead shorter_awaits_option came

pub head_came : (a b c : Option (List ℕ)) (old mid new : Room) → 8 ≤ length mid.ahead → take 8 mid.ahead ≡ codes "IHAVEOPT" → Came a b old mid.left (IsShorter 8) mid.ahead → Came b c mid new.left (IsShorter 16) new.ahead → Came a c old new.left AwaitsOption new.ahead
head_came a b c old mid new long magic first more =
    came_then a b c old mid new.left (IsShorter 8) (IsShorter 16) AwaitsOption [] new.ahead shorter_awaits_option
    (λ next short. short_awaits_option (mid.ahead ++ next) short (λ longer. magic_stays mid.ahead next (mid.ahead ++ next) long magic refl)) first more

-- what is there begins with the head that is read of it
pub head_there : (all : List ℕ) (head : OptionHead) → take 8 all ≡ codes "IHAVEOPT" → codes "IHAVEOPT" ++ take 8 (drop 8 all) ≡ option_head head → all ≡ option_head head ++ drop 16 all
head_there all head front spelled =
    sym (take-append-drop 8 all) ∙ ap (λ (l : List ℕ). l ++ drop 8 all) front ∙ ap (λ (l : List ℕ). codes "IHAVEOPT" ++ l) (sym (take-append-drop 8 (drop 8 all)))
    ∙ ap (λ (l : List ℕ). codes "IHAVEOPT" ++ (take 8 (drop 8 all) ++ l)) (drop-drop 8 8 all) ∙ sym (append_assoc (codes "IHAVEOPT") (take 8 (drop 8 all)) (drop 16 all))
    ∙ ap (λ (l : List ℕ). l ++ drop 16 all) spelled

-- an option's data came, or a part of it
pub bytes_came : (a b c : Option (List ℕ)) (old mid read new : Room) (head : OptionHead) (result : Result Bool Stop) → FitsOptionHead head → Came a b old mid.left AwaitsOption mid.ahead → mid.ahead ≡ option_head head ++ read.ahead → read.left ≡ mid.left
    → (passed : Passed b c read new head.length result) → Came a c old new.left AwaitsOption (option_head head ++ (passed.gone ++ new.ahead))
bytes_came a b c old mid read new head result fits first there same passed =
    came_then a b c old read new.left AwaitsOption (IsShorter head.length) AwaitsOption (option_head head) (passed.gone ++ new.ahead) (λ bytes awaits. awaits)
    (λ next short. head_awaits_option head (read.ahead ++ next) fits short)
    (subst (λ (left_to_take : ℕ). Came a b old left_to_take AwaitsOption (option_head head ++ read.ahead)) (sym same) (subst (Came a b old mid.left AwaitsOption) there first)) passed.came

-- the same of an option whose head is read where it lies, once all of it is there
pub option_taken : (a b c d : Option (List ℕ)) (old first whole read new : Room) (seen seen_whole : List ℕ) (head : OptionHead) (result : Result Bool Stop) → 8 ≤ length first.ahead → seen ≡ first.ahead → take 8 seen ≡ codes "IHAVEOPT" → Came a b old first.left (IsShorter 8) first.ahead
    → Came b c first whole.left (IsShorter 16) whole.ahead → seen_whole ≡ whole.ahead → FitsOptionHead head → codes "IHAVEOPT" ++ take 8 (drop 8 seen_whole) ≡ option_head head → read.ahead ≡ drop 16 whole.ahead → read.left ≡ whole.left
    → (passed : Passed c d read new head.length result) → Came a d old new.left AwaitsOption (option_head head ++ (passed.gone ++ new.ahead))
option_taken a b c d old first whole read new seen seen_whole head result long there magic came more there_whole fits spelled rest left passed =
    let front : take 8 first.ahead ≡ codes "IHAVEOPT" = ap (take 8) (sym there) ∙ magic in
    let words : codes "IHAVEOPT" ++ take 8 (drop 8 whole.ahead) ≡ option_head head = ap (λ (l : List ℕ). codes "IHAVEOPT" ++ take 8 (drop 8 l)) (sym there_whole) ∙ spelled in
    let is : whole.ahead ≡ option_head head ++ read.ahead =
    head_there whole.ahead head (magic_stays first.ahead more.taken whole.ahead long front more.is) words ∙ ap (λ (l : List ℕ). option_head head ++ l) (sym rest) in
    bytes_came a c d old whole read new head result fits (head_came a b c old first whole long front came more) is left passed

pub option_whole : (a c : Option (List ℕ)) (old new : Room) (head : OptionHead) (bytes : List ℕ) → FitsOptionHead head → length bytes ≡ head.length → Came a c old new.left AwaitsOption (option_head head ++ (bytes ++ new.ahead)) → OptionCame a c old new (Ok (Some head))
option_whole a c old new head bytes fits whole takes = record {
  came = option_head head ++ (bytes ++ new.ahead);
  takes = takes;
  ends = (bytes, record { head = fits; bytes = whole }, sym (append_assoc (option_head head) bytes new.ahead));
}

-- ---- one option after another

-- these options came, and were answered
pub record Heard (size : ℕ) (no_zeroes : Bool) (left left_now : Option (List ℕ)) (old : Room) (now : Room) (written written_now : Option (List ℕ)) (options : List OptionSent) : Type 0 where
  pub came : List ℕ
  pub put : List ℕ
  pub takes : Came left left_now old now.left (AwaitsAnother options) came
  pub got : Got written put written_now
  pub fit : All FitsOption options
  pub said : came ≡ flat_map option_bytes options ++ now.ahead
  pub replied : put ≡ flat_map (answer_to size no_zeroes) options

pub heard_nothing : (size : ℕ) (no_zeroes : Bool) (left : Option (List ℕ)) (old : Room) (written : Option (List ℕ)) → Heard size no_zeroes left left old old written written []
heard_nothing size no_zeroes left old written = record {
  came = old.ahead;
  put = [];
  takes = came_nothing left old (AwaitsAnother []);
  got = Got-nothing written;
  fit = λ k d below. absurd (omega (arith, below));
  said = refl;
  replied = refl;
}

-- what came by the next option, and what is behind it
came_option : (size : ℕ) (no_zeroes : Bool) (a b c : Option (List ℕ)) (old mid now : Room) (written written_now : Option (List ℕ)) (options : List OptionSent) (result : Result (Option OptionHead) Stop)
    → Heard size no_zeroes a b old mid written written_now options → (next : OptionCame b c mid now result) → Came a c old now.left (AwaitsAnother options) (flat_map option_bytes options ++ next.came)
came_option size no_zeroes a b c old mid now written written_now options result heard next =
    came_then a b c old mid now.left (AwaitsAnother options) AwaitsOption (AwaitsAnother options) (flat_map option_bytes options) next.came (λ bytes awaits. awaits)
    (λ more awaits. awaits_another options (mid.ahead ++ more) awaits) (subst (Came a b old mid.left (AwaitsAnother options)) heard.said heard.takes) next.takes

-- one option more, and its answer
pub heard_more : (size : ℕ) (no_zeroes : Bool) (a b c : Option (List ℕ)) (old mid now : Room) (w0 w1 w2 : Option (List ℕ)) (options : List OptionSent) (head : OptionHead)
    → Heard size no_zeroes a b old mid w0 w1 options → OptionCame b c mid now (Ok (Some head)) → Got w1 (answer_by size no_zeroes head.kind) w2
    → (sent : OptionSent) × (sent.head ≡ head) × Heard size no_zeroes a c old now w0 w2 (options ++ sent ∷ [])
heard_more size no_zeroes a b c old mid now w0 w1 w2 options head heard next got =
    let sent : OptionSent = record { head = head; bytes = next.ends.0 } in
    let words : flat_map option_bytes (options ++ sent ∷ []) ≡ flat_map option_bytes options ++ (option_bytes sent ++ []) = flat_map-append option_bytes options (sent ∷ []) in
    let answers : flat_map (answer_to size no_zeroes) (options ++ sent ∷ []) ≡ flat_map (answer_to size no_zeroes) options ++ (answer_to size no_zeroes sent ++ []) = flat_map-append (answer_to size no_zeroes) options (sent ∷ []) in (
      sent,
      refl,
      record {
        came = flat_map option_bytes options ++ next.came;
        put = heard.put ++ answer_by size no_zeroes head.kind;
        takes =
            came_weaker a c old now.left (AwaitsAnother options) (AwaitsAnother (options ++ sent ∷ [])) (flat_map option_bytes options ++ next.came) (awaits_another_too options sent)
            (came_option size no_zeroes a b c old mid now w0 w1 options (Ok (Some head)) heard next);
        got = Got-then w0 heard.put w1 (answer_by size no_zeroes head.kind) w2 heard.got got;
        fit = All-push FitsOption options sent heard.fit next.ends.1;
        said =
            ap (λ (l : List ℕ). flat_map option_bytes options ++ l) next.ends.2 ∙ sym (append_assoc (flat_map option_bytes options) (option_bytes sent) now.ahead)
            ∙ ap (λ (l : List ℕ). (flat_map option_bytes options ++ l) ++ now.ahead) (sym (append-nil (option_bytes sent))) ∙ ap (λ (l : List ℕ). l ++ now.ahead) (sym words);
        replied =
            ap (λ (l : List ℕ). l ++ answer_by size no_zeroes head.kind) heard.replied
            ∙ ap (λ (l : List ℕ). flat_map (answer_to size no_zeroes) options ++ l) (sym (append-nil (answer_by size no_zeroes head.kind))) ∙ sym answers;
      },
    )

-- one option more of those after which another may come
pub others_more : (options : List OptionSent) (sent : OptionSent) (head : OptionHead) (number : ℕ) → AreOthers options → sent.head ≡ head → head.kind ≡ Other number → AreOthers (options ++ sent ∷ [])
others_more options sent head number others same kind =
    All-push (λ (one : OptionSent). IsOther one.head.kind) options sent others (subst IsOther (sym (ap (λ (h : OptionHead). h.kind) same ∙ kind)) tt)

-- there is less to come
pub less_to_come : (a b : Option (List ℕ)) (old new : Room) (head : OptionHead) → OptionCame a b old new (Ok (Some head)) → length new.ahead + new.left < length old.ahead + old.left
less_to_come a b old new head next =
    omega (arith, ap length next.takes.is, length-append old.ahead next.takes.taken, next.takes.count, ap length next.ends.2, length-append next.ends.0 new.ahead)

-- ---- how it ends

talk_by : (size : ℕ) (no_zeroes : Bool) (a b c : Option (List ℕ)) (old mid now : Room) (w0 w1 : Option (List ℕ)) (options : List OptionSent) (next_result : Result (Option OptionHead) Stop) (result : Result Agreed Stop)
    → (heard : Heard size no_zeroes a b old mid w0 w1 options) → (next : OptionCame b c mid now next_result) → TalkEnd size no_zeroes options next.came [] c now.ahead result → Talk size no_zeroes a c old now w0 w1 result
talk_by size no_zeroes a b c old mid now w0 w1 options next_result result heard next ends = record {
  options = options;
  came = flat_map option_bytes options ++ next.came;
  put = heard.put;
  rest = next.came;
  part = [];
  takes = came_option size no_zeroes a b c old mid now w0 w1 options next_result heard next;
  got = heard.got;
  fit = heard.fit;
  said = refl;
  replied = heard.replied ∙ sym (append-nil (flat_map (answer_to size no_zeroes) options));
  ends = ends;
}

-- without an option that is whole
pub talk_stopped : (size : ℕ) (no_zeroes : Bool) (a b c : Option (List ℕ)) (old mid now : Room) (w0 w1 : Option (List ℕ)) (options : List OptionSent) (stop : Stop)
    → Heard size no_zeroes a b old mid w0 w1 options → AreOthers options → OptionCame b c mid now (Err stop) → Talk size no_zeroes a c old now w0 w1 (Err stop)
talk_stopped size no_zeroes a b c old mid now w0 w1 options stops.Source heard others next =
    talk_by size no_zeroes a b c old mid now w0 w1 options (Err stops.Source) (Err stops.Source) heard next (others, next.ends, refl)
talk_stopped size no_zeroes a b c old mid now w0 w1 options stops.Limit heard others next =
    talk_by size no_zeroes a b c old mid now w0 w1 options (Err stops.Limit) (Err stops.Limit) heard next (others, next.ends, refl)
talk_stopped size no_zeroes a b c old mid now w0 w1 options stops.Broken heard others next =
    talk_by size no_zeroes a b c old mid now w0 w1 options (Err stops.Broken) (Err stops.Broken) heard next (others, next.ends, refl)
talk_stopped size no_zeroes a b c old mid now w0 w1 options stops.Sink heard others next = absurd next.ends

-- where the input ended between two options
pub talk_over : (size : ℕ) (no_zeroes : Bool) (a b c : Option (List ℕ)) (old mid now : Room) (w0 w1 : Option (List ℕ)) (options : List OptionSent)
    → Heard size no_zeroes a b old mid w0 w1 options → AreOthers options → OptionCame b c mid now (Ok None) → Talk size no_zeroes a c old now w0 w1 (Ok agreed.Nothing)
talk_over size no_zeroes a b c old mid now w0 w1 options heard others next =
    talk_by size no_zeroes a b c old mid now w0 w1 options (Ok None) (Ok agreed.Nothing) heard next (inr (others, next.ends.0, next.ends.1), refl)

-- where an answer was put in part
pub talk_unheard : (size : ℕ) (no_zeroes : Bool) (a b c : Option (List ℕ)) (old mid now : Room) (w0 w1 w2 : Option (List ℕ)) (options : List OptionSent) (head : OptionHead)
    → Heard size no_zeroes a b old mid w0 w1 options → AreOthers options → OptionCame b c mid now (Ok (Some head)) → GotPart w1 (answer_by size no_zeroes head.kind) w2 → Talk size no_zeroes a c old now w0 w2 (Err stops.Sink)
talk_unheard size no_zeroes a b c old mid now w0 w1 w2 options head heard others next (n, part) =
    let sent : OptionSent = record { head = head; bytes = next.ends.0 } in record {
      options = options;
      came = flat_map option_bytes options ++ next.came;
      put = heard.put ++ take n (answer_by size no_zeroes head.kind);
      rest = next.came;
      part = take n (answer_by size no_zeroes head.kind);
      takes = came_option size no_zeroes a b c old mid now w0 w1 options (Ok (Some head)) heard next;
      got = Got-then w0 heard.put w1 (take n (answer_by size no_zeroes head.kind)) w2 heard.got part;
      fit = heard.fit;
      said = refl;
      replied = ap (λ (l : List ℕ). l ++ take n (answer_by size no_zeroes head.kind)) heard.replied;
      ends = (others, sent, next.ends.1, next.ends.2, n, refl);
    }

-- by the last option
talk_last : (size : ℕ) (no_zeroes : Bool) (a c : Option (List ℕ)) (old now : Room) (w0 w2 : Option (List ℕ)) (options : List OptionSent) (result : Result Agreed Stop)
    → Heard size no_zeroes a c old now w0 w2 options → TalkEnd size no_zeroes options now.ahead [] c now.ahead result → Talk size no_zeroes a c old now w0 w2 result
talk_last size no_zeroes a c old now w0 w2 options result heard ends = record {
  options = options;
  came = heard.came;
  put = heard.put;
  rest = now.ahead;
  part = [];
  takes = heard.takes;
  got = heard.got;
  fit = heard.fit;
  said = heard.said;
  replied = heard.replied ∙ sym (append-nil (flat_map (answer_to size no_zeroes) options));
  ends = ends;
}

pub talk_agreed : (size : ℕ) (no_zeroes : Bool) (a b c : Option (List ℕ)) (old mid now : Room) (w0 w1 w2 : Option (List ℕ)) (options : List OptionSent) (head : OptionHead) → head.kind ≡ Export
    → Heard size no_zeroes a b old mid w0 w1 options → AreOthers options → OptionCame b c mid now (Ok (Some head)) → Got w1 (answer_by size no_zeroes head.kind) w2 → Talk size no_zeroes a c old now w0 w2 (Ok agreed.Requests)
talk_agreed size no_zeroes a b c old mid now w0 w1 w2 options head kind heard others next got =
    let more = heard_more size no_zeroes a b c old mid now w0 w1 w2 options head heard next got in
    talk_last size no_zeroes a c old now w0 w2 (options ++ more.0 ∷ []) (Ok agreed.Requests) more.2
    ((options, more.0, refl, ap (λ (h : OptionHead). h.kind) more.1 ∙ kind, others), refl, refl)

pub talk_aborted : (size : ℕ) (no_zeroes : Bool) (a b c : Option (List ℕ)) (old mid now : Room) (w0 w1 w2 : Option (List ℕ)) (options : List OptionSent) (head : OptionHead) → head.kind ≡ Abort
    → Heard size no_zeroes a b old mid w0 w1 options → AreOthers options → OptionCame b c mid now (Ok (Some head)) → Got w1 (answer_by size no_zeroes head.kind) w2 → Talk size no_zeroes a c old now w0 w2 (Ok agreed.Nothing)
talk_aborted size no_zeroes a b c old mid now w0 w1 w2 options head kind heard others next got =
    let more = heard_more size no_zeroes a b c old mid now w0 w1 w2 options head heard next got in
    talk_last size no_zeroes a c old now w0 w2 (options ++ more.0 ∷ []) (Ok agreed.Nothing) more.2
    (inl (options, more.0, refl, ap (λ (h : OptionHead). h.kind) more.1 ∙ kind, others), refl)

-- ---- flags, and then options

pub talked : (size : ℕ) (a b c : Option (List ℕ)) (old mid now : Room) (w0 w1 w2 : Option (List ℕ)) (flags : ClientFlags) (result : Result Agreed Stop)
    → FlagsCame a b old mid (Ok flags) → Talk size flags.no_zeroes b c mid now w1 w2 result → Got w0 greeting w1 → Talked size a c old now w0 w2 result
talked size a b c old mid now w0 w1 w2 flags result first talk got = record {
  flags = flags;
  options = talk.options;
  came = flags_bytes flags ++ talk.came;
  put = greeting ++ talk.put;
  rest = talk.rest;
  part = talk.part;
  takes =
      came_then a b c old mid now.left AwaitsFlags (AwaitsAnother talk.options) (AwaitsWord flags talk.options) (flags_bytes flags) talk.came (λ bytes awaits. inl awaits)
      (λ next awaits. inr (mid.ahead ++ next, refl, awaits)) (subst (Came a b old mid.left AwaitsFlags) first.ends first.takes) talk.takes;
  got = Got-then w0 greeting w1 talk.put w2 got talk.got;
  fit = talk.fit;
  said = ap (λ (l : List ℕ). flags_bytes flags ++ l) talk.said;
  replied = ap (λ (l : List ℕ). greeting ++ l) talk.replied;
  ends = talk.ends;
}

-- a part of the greeting
pub ungreeted : (a : Option (List ℕ)) (old : Room) (w0 w1 : Option (List ℕ)) → old.ahead ≡ [] → GotPart w0 greeting w1 → Greeted a a old old w0 w1 (Err stops.Sink)
ungreeted a old w0 w1 none (n, part) = record { came = old.ahead; put = take n greeting; takes = came_nothing a old AwaitsFlags; got = part; ends = (none, n, refl) }
