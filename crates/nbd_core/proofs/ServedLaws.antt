-- Requests and their replies, one after another.
use Rattle.std.proofs.Common.{◌≡◌, ◌≢◌, ℕ, ◌-◌, ◌*◌, ◌+◌, ◌<◌, ◌≤◌, Option, None, Some, Result, Ok, Err, List, [], ◌∷◌, ◌++◌, length, take, drop, refl, sym, ap, subst, ◌∙◌, append_assoc, append-nil, length-append, length-take, length-drop, inl, inr, arith}
use Rattle.std.specs.Prelude.{All, IfErr, map, nat_lt}
use Rattle.nbd_lang.specs.Refusals.{refusal, refusal_by}
use Rattle.std.specs.List.{flat_map}
use Rattle.std.proofs.lemmas.List.{length-map, map-append}
use Rattle.std.proofs.lemmas.List.Elements.{All-push}
use Rattle.std.proofs.lemmas.Grind.{flat_map-append}
use Rattle.sdbt_base.proofs.RiseLaws.{counted_few}
use Rattle.record_fields.specs.Fields.{append_same}
use Rattle.sdbt_base.specs.Told.{Got, GotPart}
use Rattle.sdbt_base.proofs.ToldLaws.{Got-nothing, Got-then}
use Rattle.sdbt_base.specs.Arrays.{closed}
use Rattle.device_course.specs.States.{Outside}
use Rattle.device_course.proofs.MadeLaws.{made_start, shut}
use Rattle.device_session.specs.Open.{blocks_of, needed_by}
use Rattle.device_session.specs.Sessions.{Session}
use Rattle.nbd_lang.specs.Replies.{Reply, reply_bytes}
use Rattle.nbd_lang.specs.Requests.{RequestSent, FitsRequest, FitsSent, bytes_behind, request_head, request_bytes}
use Rattle.nbd_lang.specs.declared.requests.Request.{Request}
use Rattle.nbd_lang.specs.declared.requests.RequestKind.TheVariants as kinds
use Rattle.nbd_lang.proofs.ReadingLaws.{request_head_same}
use Rattle.device_course.specs.Held.{Held, IsHeld}
use Rattle.device_course.specs.Leading.{last_of}
use Rattle.nbd_terms.specs.Turn.{Ends, IsUnfinished, Turn}
use Rattle.nbd_core.specs.Room.{Room, Came, IsShorter}
use Rattle.nbd_core.specs.Requests.{AwaitsRequest, HeadCame, HeadEnd, DataEnd}
use Rattle.platform.specs.History.{Extends, moment}
use Rattle.platform.proofs.Moments.{Extends-refl}
use Rattle.session_calls.specs.Damage.{IsMounted}
use Rattle.nbd_core.specs.Damages.{TellsTrue, ToldTrue}
use Rattle.nbd_core.proofs.DamageLaws.{told_later, told_more, told_nothing}
use Rattle.nbd_core.specs.Exchanges.{Exchange, sent_of, told_of}
use Rattle.nbd_core.specs.Served.{Answered, AnswerEnd, AwaitsMore, EndsByDisconnect, EndsFrom, FitsExchange, IsAhead, IsCommit, IsCutOff, IsGoodbye, IsReplyTo, Served, ServedEnd, bytes_told, sent_bytes, replied_bytes}
use Rattle.nbd_core.specs.Short.{AreShort, updates_in}
use Rattle.nbd_core.specs.Near.{HasAdded, left_by, needed_for}
use Rattle.nbd_core.specs.Reads.{HasRead, reads_in}
use Rattle.nbd_core.proofs.NearLaws.{added, commit_needed, left_more, near_of}
use Rattle.nbd_core.proofs.ReadLaws.{read_more, reads_push}
use Rattle.nbd_core.proofs.ShortLaws.{short_less, short_push, updates_push}
use Rattle.nbd_core.specs.Turns.{BeginsWith, ComesTo, DrawsKeys, Finishes, Halted, Halts, HaltsAt, IsOfCommit, MayHalt, Turns}
use Rattle.nbd_lang.specs.declared.replies.Outcome.{Outcome}
use Rattle.nbd_lang.specs.declared.replies.Outcome.TheVariants as outcomes
use Rattle.nbd_lang.specs.declared.requests.RequestKind.{RequestKind}
use Rattle.nbd_core.specs.declared.stop.Stop.{Stop}
use Rattle.nbd_core.specs.Halts.{IsLate}
use Rattle.nbd_core.specs.Serving.{bytes_of_reply}
use Rattle.nbd_core.specs.declared.stop.Stop.TheVariants as stops
use Rattle.nbd_core.specs.declared.halts.Halt.{Halt}
use Rattle.nbd_core.specs.declared.halts.Halt.TheVariants as halts
use Rattle.nbd_core.proofs.CameLaws.{came_nothing, came_then, came_weaker}
use Rattle.nbd_core.proofs.AmpleLaws.{leads_room, room_finished}
use Rattle.nbd_core.proofs.TurnLaws.{Ending, LedTo, led_start, led_more, led_end}
use Rattle.nbd_core.specs.Changes.{HasChanged, changes_for, changes_in, tally}
use Rattle.nbd_core.proofs.ChangeLaws.{changes_is}
use Rattle.sdbt_base.specs.Rises.{MayRiseBy}

-- ---- a head, and fewer bytes than follow it

-- a kind and a length tell how many bytes follow
head_lacks : (request : Request) (bytes : List ℕ) → FitsRequest request → length bytes < bytes_behind request.kind request.length → (sent : RequestSent) (more : List ℕ) → FitsSent sent → request_head request ++ bytes ≢ request_bytes sent ++ more
head_lacks request bytes fits short sent more fits_sent is =
    let parts = append_same (request_head request) bytes (request_head sent.head) (sent.bytes ++ more) refl (is ∙ append_assoc (request_head sent.head) sent.bytes more) in
    let same : request ≡ sent.head = request_head_same request sent.head fits fits_sent.head parts.0 in
    omega (arith, short, ap (λ (r : Request). bytes_behind r.kind r.length) same, fits_sent.bytes, ap length parts.1, length-append sent.bytes more)

pub head_awaits : (request : Request) (bytes : List ℕ) → FitsRequest request → length bytes < bytes_behind request.kind request.length → AwaitsRequest (request_head request ++ bytes)
head_awaits request bytes fits short = (head_lacks request bytes fits short, (λ long. refl))

-- ---- one request after another

pub awaits_more : (exchanges : List Exchange) (bytes : List ℕ) → AwaitsRequest bytes → AwaitsMore exchanges (flat_map sent_bytes exchanges ++ bytes)
awaits_more exchanges bytes awaits = (exchanges, [], bytes, sym (append-nil exchanges), refl, awaits)

awaits_more_too : (exchanges : List Exchange) (exchange : Exchange) (bytes : List ℕ) → AwaitsMore exchanges bytes → AwaitsMore (exchanges ++ exchange ∷ []) bytes
awaits_more_too exchanges exchange bytes (first, others, part, split, is, awaits) =
    (first, others ++ exchange ∷ [], part, ap (λ (l : List Exchange). l ++ exchange ∷ []) split ∙ append_assoc first others (exchange ∷ []), is, awaits)

-- these requests came, and were replied to, and this session goes on
pub record Replied (From : Held → Type 0) (tells : Type 0) (before mid : Outside) (session : Session) (size : ℕ) (left left_now : Option (List ℕ)) (old now : Room) (written written_now : Option (List ℕ)) (exchanges : List Exchange) : Type 0 where
  pub came : List ℕ
  pub put : List ℕ
  pub takes : Came left left_now old now.left (AwaitsMore exchanges) came
  pub got : Got written put written_now
  pub fit : All (FitsExchange size) exchanges
  pub said : came ≡ flat_map sent_bytes exchanges ++ now.ahead
  pub replied : put ≡ flat_map replied_bytes exchanges
  pub damage : tells → ToldTrue size before.history mid.history exchanges (moment mid.history) session
  pub short : AreShort size (mid.capacity - mid.head) 0 exchanges
  pub needs : needed_by session ≤ 41 * updates_in size 0 exchanges
  pub reads : tells → mid.reads ≤ before.reads + reads_in size exchanges
  pub led : (entry : Held) → From entry → LedTo before.capacity before mid session entry (map sent_of exchanges) (map told_of exchanges)

pub replied_nothing : (From : Held → Type 0) (tells : Type 0) (here : Outside) (session : Session) (size : ℕ) (left : Option (List ℕ)) (old : Room) (written : Option (List ℕ)) → ((entry : Held) → From entry → IsHeld here.history.present here.head session entry) → needed_by session ≡ 0
    → (tells → IsMounted here.history.present session) → Replied From tells here here session size left left old old written written []
replied_nothing From tells here session size left old written held fresh mounted = record {
  came = old.ahead;
  put = [];
  takes = came_nothing left old (AwaitsMore []);
  got = Got-nothing written;
  fit = λ k d below. absurd (omega (arith, below));
  said = refl;
  replied = refl;
  damage = λ told. told_nothing size here.history session (mounted told) fresh;
  short = tt;
  needs = omega (arith, fresh);
  reads = λ told. omega arith;
  led = λ entry from. led_start here.capacity here session entry (held entry from);
}

-- more came, which awaits a request
came_more_of : (From : Held → Type 0) (tells : Type 0) (before there : Outside) (session : Session) (size : ℕ) (a b c : Option (List ℕ)) (old mid : Room) (left_to_take : ℕ) (w0 w1 : Option (List ℕ)) (exchanges : List Exchange) (came : List ℕ)
    → Replied From tells before there session size a b old mid w0 w1 exchanges → Came b c mid left_to_take AwaitsRequest came → Came a c old left_to_take (AwaitsMore exchanges) (flat_map sent_bytes exchanges ++ came)
came_more_of From tells before there session size a b c old mid left_to_take w0 w1 exchanges came so_far next =
    came_then a b c old mid left_to_take (AwaitsMore exchanges) AwaitsRequest (AwaitsMore exchanges) (flat_map sent_bytes exchanges) came (λ bytes awaits. awaits)
    (λ more awaits. awaits_more exchanges (mid.ahead ++ more) awaits) (subst (Came a b old mid.left (AwaitsMore exchanges)) so_far.said so_far.takes) next

-- a request's head, and bytes behind it
pub whole_came : (b c d : Option (List ℕ)) (mid read : Room) (left_to_take : ℕ) (request : Request) (came : List ℕ) → (head : HeadCame b c mid read (Ok (Some request)))
    → Came c d read left_to_take (IsShorter (bytes_behind request.kind request.length)) came → Came b d mid left_to_take AwaitsRequest (request_head request ++ came)
whole_came b c d mid read left_to_take request came head next =
    came_then b c d mid read left_to_take AwaitsRequest (IsShorter (bytes_behind request.kind request.length)) AwaitsRequest (request_head request) came (λ bytes awaits. awaits)
    (λ more short. head_awaits request (read.ahead ++ more) head.ends.0 short) (subst (Came b c mid read.left AwaitsRequest) head.ends.1 head.takes) next

-- as many replies as requests
same_count : (exchanges : List Exchange) → length (map told_of exchanges) ≡ length (map sent_of exchanges)
same_count exchanges = length-map exchanges told_of ∙ sym (length-map exchanges sent_of)

-- one request more, and its reply
pub replied_more : (From : Held → Type 0) (tells : Type 0) (before mid_outside after : Outside) (session next : Session) (size : ℕ) (a b c d : Option (List ℕ)) (old mid read now : Room) (w0 w1 w2 : Option (List ℕ)) (exchanges : List Exchange) (request : Request)
    → ((entry : Held) → From entry → tells) → mid_outside.capacity ≡ before.capacity → after.capacity ≡ mid_outside.capacity → mid_outside.head ≤ after.head → (tells → Extends before.history mid_outside.history) → (tells → Extends mid_outside.history after.history) → request.kind ≢ kinds.Disconnect
    → 4096 * blocks_of session ≡ size → (tells → IsMounted mid_outside.history.present session) → (tells → IsMounted after.history.present next) → Replied From tells before mid_outside session size a b old mid w0 w1 exchanges → HeadCame b c mid read (Ok (Some request)) → Answered tells mid_outside after session size request c d read now w1 w2 (Ok next)
    → (exchange : Exchange) × (exchange.sent.head ≡ request) × Replied From tells before after next size a d old now w0 w2 (exchanges ++ exchange ∷ [])
replied_more From tells before mid_outside after session next size a b c d old mid read now w0 w1 w2 exchanges request told same room rises until on other size_is mounted mounted_now so_far head answered =
    let sent : RequestSent = record { head = request; bytes = answered.gone } in
    let reply : Reply = answered.ends.1 in
    let exchange : Exchange = record { sent = sent; reply = reply } in
    let words : flat_map sent_bytes (exchanges ++ exchange ∷ []) ≡ flat_map sent_bytes exchanges ++ (request_bytes sent ++ []) = flat_map-append sent_bytes exchanges (exchange ∷ []) in
    let answers : flat_map replied_bytes (exchanges ++ exchange ∷ []) ≡ flat_map replied_bytes exchanges ++ (reply_bytes reply ++ []) = flat_map-append replied_bytes exchanges (exchange ∷ []) in
    let came : List ℕ = request_head request ++ (answered.gone ++ now.ahead) in (
      exchange,
      refl,
      record {
        came = flat_map sent_bytes exchanges ++ came;
        put = so_far.put ++ reply_bytes reply;
        takes = came_weaker a d old now.left (AwaitsMore exchanges) (AwaitsMore (exchanges ++ exchange ∷ [])) (flat_map sent_bytes exchanges ++ came) (awaits_more_too exchanges exchange)
            (came_more_of From tells before mid_outside session size a b d old mid now.left w0 w1 exchanges came so_far (whole_came b c d mid read now.left request (answered.gone ++ now.ahead) head answered.came));
        got = Got-then w0 so_far.put w1 (reply_bytes reply) w2 so_far.got answered.ends.3;
        fit = All-push (FitsExchange size) exchanges exchange so_far.fit (record { sent = record { head = head.ends.0; bytes = answered.ends.0 }; other = other; reply = answered.ends.2 });
        said =
            ap (λ (l : List ℕ). flat_map sent_bytes exchanges ++ l) (sym (append_assoc (request_head request) answered.gone now.ahead)) ∙ sym (append_assoc (flat_map sent_bytes exchanges) (request_bytes sent) now.ahead)
            ∙ ap (λ (l : List ℕ). (flat_map sent_bytes exchanges ++ l) ++ now.ahead) (sym (append-nil (request_bytes sent))) ∙ ap (λ (l : List ℕ). l ++ now.ahead) (sym words);
        replied = ap (λ (l : List ℕ). l ++ reply_bytes reply) so_far.replied ∙ ap (λ (l : List ℕ). flat_map replied_bytes exchanges ++ l) (sym (append-nil (reply_bytes reply))) ∙ sym answers;
        damage = λ told_so. told_more size before.history mid_outside.history after.history exchanges session next exchange (on told_so) size_is (mounted told_so) (mounted_now told_so) (answered.ends.5 told_so) (so_far.damage told_so);
        short = short_push size (after.capacity - after.head) 0 exchanges exchange
            (short_less size (mid_outside.capacity - mid_outside.head) (after.capacity - after.head) 0 exchanges (omega (arith, room, rises)) so_far.short)
            (answered.ends.6 (updates_in size 0 exchanges) so_far.needs).short;
        needs = omega (arith, (answered.ends.6 (updates_in size 0 exchanges) so_far.needs).needs, updates_push size 0 exchanges exchange);
        reads = λ told_so. omega (arith, so_far.reads told_so, answered.reads told_so, reads_push size exchanges exchange);
        led = λ entry from.
            let led = so_far.led entry from in
            subst (λ (l : List Reply). LedTo before.capacity before after next entry (map sent_of (exchanges ++ exchange ∷ [])) l) (sym (map-append told_of exchanges (exchange ∷ [])))
            (subst (λ (l : List RequestSent). LedTo before.capacity before after next entry l (map told_of exchanges ++ reply ∷ [])) (sym (map-append sent_of exchanges (exchange ∷ [])))
            (led_more before.capacity before mid_outside after session next entry (map sent_of exchanges) (map told_of exchanges) sent reply (same_count exchanges) same led (answered.ends.4 (told entry from) (last_of entry led.led.states) led.held)));
      },
    )

-- ---- how it ends

halt_same : (one other : Halt) → ◌≡◌ {A = Result (Unit {0}) Halt} (Err one) (Err other) → one ≡ other
halt_same one other same = cc

unfinished_at : (capacity size : ℕ) (rest tail part : List ℕ) (result : Result (Unit {0}) Halt) (last : Held) (ahead : List Held) → result ≡ Err halts.Unfinished → IsAhead capacity size rest tail part result last ahead → IsUnfinished capacity last
unfinished_at capacity size rest tail part result last ahead is ends = (subst (λ (r : Result (Unit {0}) Halt). IsAhead capacity size rest tail part r last ahead) is ends).1

served_by : (From : Held → Type 0) (tells : Type 0) (changes changes_now : ℕ) (before there after : Outside) (session : Session) (size : ℕ) (a b c : Option (List ℕ)) (old mid now : Room) (w0 w1 w2 : Option (List ℕ)) (exchanges : List Exchange) (rest part : List ℕ) (result : Result (Unit {0}) Halt)
    → Replied From tells before there session size a b old mid w0 w1 exchanges → Came b c mid now.left AwaitsRequest rest → Got w1 part w2 → ServedEnd size rest part c now.ahead result
    → IfErr result (λ halt. halt ≡ halts.Client stops.Limit → now.left ≡ 0) → (tells → Extends there.history after.history)
    → after.capacity ≡ there.capacity → there.head ≤ after.head → (result ≡ Err halts.Unfinished → after.capacity - after.head < needed_by session)
    → (tells → HasRead size rest (before.reads + reads_in size exchanges) after.reads) → (tells → HasChanged size rest (changes_in size exchanges) changes changes_now) → ((entry : Held) → From entry → (last : Held) → IsHeld there.history.present there.head session last → Ending before.capacity there after (EndsFrom before.capacity size rest now.ahead part after.head result) last)
    → Served From tells (tally 0 changes changes_now) before after size a c old now w0 w2 result
served_by From tells changes changes_now before there after session size a b c old mid now w0 w1 w2 exchanges rest part result so_far next got ends limit on room rises lacks read changed made = record {
  exchanges = exchanges;
  came = flat_map sent_bytes exchanges ++ rest;
  put = so_far.put ++ part;
  rest = rest;
  part = part;
  takes = came_more_of From tells before there session size a b c old mid now.left w0 w1 exchanges rest so_far next;
  got = Got-then w0 so_far.put w1 part w2 so_far.got got;
  fit = so_far.fit;
  said = refl;
  replied = ap (λ (l : List ℕ). l ++ part) so_far.replied;
  ends = ends;
  limit = limit;
  damage = λ told. (moment there.history, session, told_later size before.history there.history after.history exchanges (moment there.history) session (on told) (so_far.damage told));
  short = short_less size (there.capacity - there.head) (after.capacity - after.head) 0 exchanges (omega (arith, room, rises)) so_far.short;
  reads = λ told. read_more size rest (before.reads + reads_in size exchanges) (before.reads + 0 + reads_in size exchanges) after.reads (omega arith) (read told);
  changes = changed;
  unfinished = λ is. omega (arith, lacks is, so_far.needs);
  led = λ entry from.
      let led = so_far.led entry from in
      let end = made entry from (last_of entry led.led.states) led.held in
      led_end before there after session entry (map sent_of exchanges) (map told_of exchanges) (EndsFrom before.capacity size rest now.ahead part after.head result) end.ahead led end.made end.is;
  complete = λ entry from is room.
      let led = so_far.led entry from in
      let last : Held = last_of entry led.led.states in
      let end = made entry from last led.held in
      let all = leads_room before.capacity size entry exchanges led.led.states is room led.led.leads in
      record { done = all.0; ends = λ unfinished. room_finished before.capacity last all.1 (unfinished_at before.capacity size rest now.ahead part result last end.ahead unfinished end.is.to) };
}

-- where nothing was done any more
nothing_ahead : (capacity : ℕ) (here : Outside) (session : Session) (last : Held) (Is : Held → List Held → Type 0) → IsHeld here.history.present here.head session last → Is last [] → Ending capacity here here Is last
nothing_ahead capacity here session last Is held is = record {
  ahead = [];
  made = made_start here.history None (closed (Some last.device)) (shut here.history.present (Some last.device) held.at.there.device held.at.served);
  is = is;
}

-- without a head that is whole
pub served_stopped : (From : Held → Type 0) (tells : Type 0) (changes changes_now : ℕ) (before there : Outside) (session : Session) (size : ℕ) (a b c : Option (List ℕ)) (old mid now : Room) (w0 w1 : Option (List ℕ)) (exchanges : List Exchange) (halt : Halt)
    → (tells → MayRiseBy (changes_in size exchanges) changes changes_now) → Replied From tells before there session size a b old mid w0 w1 exchanges → HeadCame b c mid now (Err halt) → Served From tells (tally 0 changes changes_now) before there size a c old now w0 w1 (Err halt)
served_stopped From tells changes changes_now before there session size a b c old mid now w0 w1 exchanges halt changed so_far head = by halt head.limit head.ends
  where
    stop : (h : Halt) → (h ≢ halts.Unfinished) → (h ≡ halts.Client stops.Limit → now.left ≡ 0) → ServedEnd size head.came [] c now.ahead (Err h) → ((last : Held) → last.pages ≡ there.head → EndsFrom before.capacity size head.came now.ahead [] there.head (Err h) last []) → Served From tells (tally 0 changes changes_now) before there size a c old now w0 w1 (Err h)
    stop h other limit ends none = served_by From tells changes changes_now before there there session size a b c old mid now w0 w1 w1 exchanges head.came [] (Err h) so_far head.takes (Got-nothing w1) ends limit (λ told. Extends-refl there.history) refl (omega arith) (λ is. absurd (other (halt_same h halts.Unfinished is)))
        (λ told. inl (so_far.reads told)) (λ told. inl (changed told))
        (λ entry from last held. nothing_ahead before.capacity there session last (EndsFrom before.capacity size head.came now.ahead [] there.head (Err h)) held (none last held.pages))

    by : (h : Halt) → (h ≡ halts.Client stops.Limit → now.left ≡ 0) → HeadEnd c now.ahead head.came (Err h) → Served From tells (tally 0 changes changes_now) before there size a c old now w0 w1 (Err h)
    by (halts.Client stops.Source) limit ends = stop (halts.Client stops.Source) (λ e. cc) limit (refl, ends) (λ last pages. record { to = refl; near = inl (sym pages) })
    by (halts.Client stops.Limit) limit ends = stop (halts.Client stops.Limit) (λ e. cc) limit (refl, ends) (λ last pages. record { to = refl; near = inl (sym pages) })
    by (halts.Client stops.Broken) limit ends = stop (halts.Client stops.Broken) (λ e. cc) limit (refl, ends) (λ last pages. record { to = refl; near = inl (sym pages) })
    by (halts.Client stops.Sink) limit ends = absurd ends
    by halts.Platform limit ends = absurd ends
    by halts.Tape limit ends = absurd ends
    by halts.Ledger limit ends = absurd ends
    by halts.BadRoot limit ends = absurd ends
    by halts.NoDevice limit ends = absurd ends
    by halts.Unfinished limit ends = absurd ends
    by halts.Memory limit ends = absurd ends

-- where the input ended between two requests
pub served_over : (From : Held → Type 0) (tells : Type 0) (changes changes_now : ℕ) (before there : Outside) (session : Session) (size : ℕ) (a b c : Option (List ℕ)) (old mid now : Room) (w0 w1 : Option (List ℕ)) (exchanges : List Exchange)
    → (tells → MayRiseBy (changes_in size exchanges) changes changes_now) → Replied From tells before there session size a b old mid w0 w1 exchanges → HeadCame b c mid now (Ok None) → Served From tells (tally 0 changes changes_now) before there size a c old now w0 w1 (Ok tt)
served_over From tells changes changes_now before there session size a b c old mid now w0 w1 exchanges changed so_far head =
    served_by From tells changes changes_now before there there session size a b c old mid now w0 w1 w1 exchanges head.came [] (Ok tt) so_far head.takes (Got-nothing w1) (refl, inl head.ends) tt (λ told. Extends-refl there.history) refl (omega arith) (λ is. absurd cc) (λ told. inl (so_far.reads told)) (λ told. inl (changed told))
    (λ entry from last held. nothing_ahead before.capacity there session last (EndsFrom before.capacity size head.came now.ahead [] there.head (Ok tt)) held (record { to = inl (head.ends.0, refl); near = sym held.pages }))

-- a disconnect isn't refused
never_refused : (size : ℕ) (request : Request) → request.kind ≡ kinds.Disconnect → refusal size request ≡ None
never_refused size request is = ap (λ (k : RequestKind). refusal_by k (nat_lt 0 request.flags) (nat_lt 33554432 request.length) (nat_lt size (request.offset + request.length))) is

goodbye_begins : (size : ℕ) (Is : RequestKind → Type 0) (rest ahead : List ℕ) → Is kinds.Disconnect → IsGoodbye rest ahead → BeginsWith size Is rest
goodbye_begins size Is rest ahead disconnect bye = (bye.0, ahead, never_refused size bye.0 bye.1, subst Is (sym bye.1) disconnect, bye.2)

goodbye_end : (size : ℕ) (rest ahead : List ℕ) (left : Option (List ℕ)) (result : Result (Unit {0}) Halt) → IsGoodbye rest ahead → EndsByDisconnect result → ServedEnd size rest [] left ahead result
goodbye_end size rest ahead left (Ok done) bye ends = (refl, inr bye)
goodbye_end size rest ahead left (Err halts.Platform) bye ends = (refl, goodbye_begins size (λ kind. Unit {0}) rest ahead tt bye)
goodbye_end size rest ahead left (Err halts.Tape) bye ends = (refl, goodbye_begins size DrawsKeys rest ahead tt bye)
goodbye_end size rest ahead left (Err halts.Ledger) bye ends = (refl, goodbye_begins size IsOfCommit rest ahead tt bye)
goodbye_end size rest ahead left (Err halts.Memory) bye ends = (refl, goodbye_begins size IsOfCommit rest ahead tt bye)
goodbye_end size rest ahead left (Err halts.Unfinished) bye ends = (refl, bye)
goodbye_end size rest ahead left (Err halts.BadRoot) bye ends = absurd ends
goodbye_end size rest ahead left (Err halts.NoDevice) bye ends = absurd ends
goodbye_end size rest ahead left (Err (halts.Client stop)) bye ends = absurd ends

-- the states of a request that halted
halted_end : (capacity size : ℕ) (there after : Outside) (rest tail : List ℕ) (last : Held) (kind : RequestKind) (halt : Halt) → there.capacity ≡ capacity → (IsOfCommit kind → IsCommit rest) → IsLate halt → halt ≢ halts.Client stops.Sink
    → HasAdded size rest (left_by halt) after.head last → Halted there after last kind halt → Ending capacity there after (EndsFrom capacity size rest tail [] after.head (Err halt)) last
halted_end capacity size there after rest tail last kind halt same commit late other has halted = record {
  ahead = halted.ahead;
  made = halted.made;
  is = record { to = by halt late other (subst (λ (n : ℕ). HaltsAt n last kind halted.ahead halt) same halted.is); near = near_of size after.head rest halt last halted.ahead other has };
}
  where
    by : (h : Halt) → IsLate h → h ≢ halts.Client stops.Sink → HaltsAt capacity last kind halted.ahead h → IsAhead capacity size rest tail [] (Err h) last halted.ahead
    by halts.Platform late other (inl none) = inl none
    by halts.Platform late other (inr (of, next, is, ends)) = inr (commit of, next, is, ends)
    by halts.Unfinished late other is = is
    by halts.Tape late other is = is
    by halts.Ledger late other is = is
    by halts.Memory late other is = is
    by halts.BadRoot late other is = late
    by halts.NoDevice late other is = late
    by (halts.Client stops.Source) late other is = is
    by (halts.Client stops.Limit) late other is = is
    by (halts.Client stops.Broken) late other is = is
    by (halts.Client stops.Sink) late other is = absurd (other refl)

goodbye_ends : (capacity size : ℕ) (tells : Type 0) (there after : Outside) (session : Session) (rest tail : List ℕ) (last : Held) (result : Result (Unit {0}) Halt) → tells → there.capacity ≡ capacity → there.head ≤ after.head → (bye : IsGoodbye rest tail) → FitsRequest bye.0 → EndsByDisconnect result
    → IfErr result (λ halt. after.head ≤ there.head + left_by halt (needed_by session)) → IsHeld there.history.present there.head session last
    → Finishes tells there after session result → Ending capacity there after (EndsFrom capacity size rest tail [] after.head result) last
goodbye_ends capacity size tells there after session rest tail last (Ok done) told same rises bye fits ends adds held finishes =
    let end = finishes told last held in
    record { ahead = end.next ∷ []; made = end.made; is = record { to = inr (bye, end.next, refl, subst (λ (n : ℕ). Ends n last end.next) same end.is); near = sym end.pages } }
goodbye_ends capacity size tells there after session rest tail last (Err halt) told same rises bye fits ends adds held finishes =
    let most : 41 * last.updates ≡ needed_for size bye.0 last.updates = commit_needed size last.updates bye.0 kinds.Disconnect bye.1 (never_refused size bye.0 bye.1) in
    let few = left_more halt (needed_by session) (needed_for size bye.0 last.updates) (omega (arith, held.needs, most)) in
    let has = added size there.head after.head rest tail bye.0 last halt fits bye.2 held.pages rises (omega (arith, adds, few)) in
    halted_end capacity size there after rest tail last kinds.Disconnect halt same (λ of. (bye.0, tail, subst IsOfCommit (sym bye.1) tt, bye.2)) (late_goodbye halt ends) (no_sink halt ends) has (finishes told last held)
  where
    late_goodbye : (h : Halt) → EndsByDisconnect (Err h) → IsLate h
    late_goodbye halts.Platform ends = tt
    late_goodbye halts.Tape ends = tt
    late_goodbye halts.Ledger ends = tt
    late_goodbye halts.Memory ends = tt
    late_goodbye halts.Unfinished ends = tt
    late_goodbye halts.BadRoot ends = absurd ends
    late_goodbye halts.NoDevice ends = absurd ends
    late_goodbye (halts.Client stop) ends = absurd ends

    no_sink : (h : Halt) → EndsByDisconnect (Err h) → h ≢ halts.Client stops.Sink
    no_sink (halts.Client stop) ends same = absurd ends
    no_sink halts.Platform ends same = absurd cc
    no_sink halts.Tape ends same = absurd cc
    no_sink halts.Ledger ends same = absurd cc
    no_sink halts.Memory ends same = absurd cc
    no_sink halts.Unfinished ends same = absurd cc
    no_sink halts.BadRoot ends same = absurd cc
    no_sink halts.NoDevice ends same = absurd cc

goodbye_limit : (result : Result (Unit {0}) Halt) (left : ℕ) → EndsByDisconnect result → IfErr result (λ halt. halt ≡ halts.Client stops.Limit → left ≡ 0)
goodbye_limit (Ok done) left ends = tt
goodbye_limit (Err (halts.Client stop)) left ends = absurd ends
goodbye_limit (Err halts.Platform) left ends = λ is. absurd cc
goodbye_limit (Err halts.Tape) left ends = λ is. absurd cc
goodbye_limit (Err halts.Ledger) left ends = λ is. absurd cc
goodbye_limit (Err halts.Memory) left ends = λ is. absurd cc
goodbye_limit (Err halts.Unfinished) left ends = λ is. absurd cc
goodbye_limit (Err halts.BadRoot) left ends = absurd ends
goodbye_limit (Err halts.NoDevice) left ends = absurd ends

pub served_goodbye : (From : Held → Type 0) (tells : Type 0) (changes changes_now : ℕ) (before there after : Outside) (session : Session) (size : ℕ) (a b c : Option (List ℕ)) (old mid now : Room) (w0 w1 : Option (List ℕ)) (exchanges : List Exchange) (request : Request) (result : Result (Unit {0}) Halt)
    → ((entry : Held) → From entry → tells) → there.capacity ≡ before.capacity → (tells → Extends there.history after.history) → after.capacity ≡ there.capacity → there.head ≤ after.head
    → (result ≡ Err halts.Unfinished → after.capacity - after.head < needed_by session) → IfErr result (λ halt. after.head ≤ there.head + left_by halt (needed_by session)) → (tells → after.reads ≡ there.reads) → request.kind ≡ kinds.Disconnect
    → (tells → MayRiseBy (changes_in size exchanges + 2) changes changes_now) → Replied From tells before there session size a b old mid w0 w1 exchanges → HeadCame b c mid now (Ok (Some request)) → EndsByDisconnect result → Finishes tells there after session result → Served From tells (tally 0 changes changes_now) before after size a c old now w0 w1 result
served_goodbye From tells changes changes_now before there after session size a b c old mid now w0 w1 exchanges request result told same on room rises lacks adds unread is changed so_far head ends finishes =
    let bye : IsGoodbye head.came now.ahead = (request, is, head.ends.1) in
    served_by From tells changes changes_now before there after session size a b c old mid now w0 w1 w1 exchanges head.came [] result so_far head.takes (Got-nothing w1) (goodbye_end size head.came now.ahead c result bye ends) (goodbye_limit result now.left ends) on room rises lacks
    (λ told_so. inl (omega (arith, so_far.reads told_so, unread told_so)))
    (λ told_so. inr (request, now.ahead, head.ends.0, head.ends.1, counted_few (changes_in size exchanges + 2) (changes_in size exchanges + changes_for size request) changes changes_now (omega (arith, changes_is size request kinds.Disconnect (never_refused size request is) is)) (changed told_so)))
    (λ entry from last held. goodbye_ends before.capacity size tells there after session head.came now.ahead last result (told entry from) same rises bye head.ends.0 ends adds held finishes)

-- in a request: without its reply, or with a part of it
pub served_halted : (From : Held → Type 0) (tells : Type 0) (changes changes_now : ℕ) (before there after : Outside) (session : Session) (size : ℕ) (a b c d : Option (List ℕ)) (old mid read now : Room) (w0 w1 w2 : Option (List ℕ)) (exchanges : List Exchange) (request : Request) (halt : Halt)
    → ((entry : Held) → From entry → tells) → there.capacity ≡ before.capacity → (tells → Extends there.history after.history) → after.capacity ≡ there.capacity → there.head ≤ after.head → request.kind ≢ kinds.Disconnect
    → (tells → MayRiseBy (changes_in size exchanges + changes_for size request) changes changes_now) → Replied From tells before there session size a b old mid w0 w1 exchanges → HeadCame b c mid read (Ok (Some request)) → Answered tells there after session size request c d read now w1 w2 (Err halt) → Served From tells (tally 0 changes changes_now) before after size a d old now w0 w2 (Err halt)
served_halted From tells changes changes_now before there after session size a b c d old mid read now w0 w1 w2 exchanges request halt told same on room rises other changed so_far head answered = by halt answered.limit answered.ends
  where
    rest : List ℕ
    rest = request_head request ++ (answered.gone ++ now.ahead)

    takes : Came b d mid now.left AwaitsRequest rest
    takes = whole_came b c d mid read now.left request (answered.gone ++ now.ahead) head answered.came

    reads : tells → HasRead size rest (before.reads + reads_in size exchanges) after.reads
    reads told_so = inr (request, answered.gone ++ now.ahead, head.ends.0, refl, omega (arith, so_far.reads told_so, answered.reads told_so))

    has_changed : tells → HasChanged size rest (changes_in size exchanges) changes changes_now
    has_changed told_so = inr (request, answered.gone ++ now.ahead, head.ends.0, refl, changed told_so)

    none : (h : Halt) → (h ≢ halts.Unfinished) → (h ≡ halts.Client stops.Limit → now.left ≡ 0) → w2 ≡ w1 → ServedEnd size rest [] d now.ahead (Err h) → IsLate h → h ≢ halts.Client stops.Sink → Halts tells there after session request.kind h
        → ((n : ℕ) → needed_by session ≤ 41 * n → after.head ≤ there.head + left_by h (needed_for size request n)) → Served From tells (tally 0 changes changes_now) before after size a d old now w0 w2 (Err h)
    none h finished limit same_put ends late no_sink halts_so adds = served_by From tells changes changes_now before there after session size a b d old mid now w0 w1 w2 exchanges rest [] (Err h) so_far takes (subst (Got w1 []) (sym same_put) (Got-nothing w1)) ends limit on room rises (λ is. absurd (finished (halt_same h halts.Unfinished is))) reads has_changed
        (λ entry from last held. halted_end before.capacity size there after rest now.ahead last request.kind h same (λ of. (request, answered.gone ++ now.ahead, of, refl)) late no_sink
        (added size there.head after.head rest (answered.gone ++ now.ahead) request last h head.ends.0 refl held.pages rises (adds last.updates held.needs)) (halts_so (told entry from) last held))

    by : (h : Halt) → (h ≡ halts.Client stops.Limit → now.left ≡ 0) → AnswerEnd tells there after session size request d answered.gone now.ahead w1 w2 (Err h) → Served From tells (tally 0 changes changes_now) before after size a d old now w0 w2 (Err h)
    by (halts.Client stops.Sink) limit (whole, reply, is, part, turns, damage) =
        let sent : RequestSent = record { head = request; bytes = answered.gone } in
        let exchange : Exchange = record { sent = sent; reply = reply } in
        let fits : FitsExchange size exchange = record { sent = record { head = head.ends.0; bytes = whole }; other = other; reply = is } in
        let cut : IsCutOff size rest now.ahead (take part.0 (reply_bytes reply)) = record { exchange = exchange; fits = fits; is = sym (append_assoc (request_head request) answered.gone now.ahead); count = part.0; put = refl } in
        served_by From tells changes changes_now before there after session size a b d old mid now w0 w1 w2 exchanges rest (take part.0 (reply_bytes reply)) (Err (halts.Client stops.Sink)) so_far takes part.1 cut limit on room rises (λ is. absurd cc) reads has_changed
        (λ entry from last held.
        let turned = turns (told entry from) last held in
        record { ahead = turned.next ∷ []; made = turned.made; is = record { to = (cut, turned.next, refl, subst (λ (n : ℕ). Turn n last sent reply turned.next) same turned.turn); near = sym turned.pages } })
    by (halts.Client stops.Source) limit (same_put, short, may, halts_so, adds) = none (halts.Client stops.Source) (λ e. cc) limit same_put (refl, head_awaits request (answered.gone ++ now.ahead) head.ends.0 short) tt (λ e. cc) halts_so adds
    by (halts.Client stops.Limit) limit (same_put, short, may, halts_so, adds) = none (halts.Client stops.Limit) (λ e. cc) limit same_put (refl, head_awaits request (answered.gone ++ now.ahead) head.ends.0 short) tt (λ e. cc) halts_so adds
    by (halts.Client stops.Broken) limit (same_put, both, may, halts_so, adds) = none (halts.Client stops.Broken) (λ e. cc) limit same_put (refl, inl (both.1, omega arith, head_awaits request (answered.gone ++ now.ahead) head.ends.0 both.0)) tt (λ e. cc) halts_so adds
    by halts.Platform limit (same_put, ends, may, halts_so, adds) = none halts.Platform (λ e. cc) limit same_put (refl, (request, answered.gone ++ now.ahead, may, tt, refl)) tt (λ e. cc) halts_so adds
    by halts.Tape limit (same_put, ends, may, halts_so, adds) = none halts.Tape (λ e. cc) limit same_put (refl, (request, answered.gone ++ now.ahead, may.0, may.1, refl)) tt (λ e. cc) halts_so adds
    by halts.Ledger limit (same_put, ends, may, halts_so, adds) = none halts.Ledger (λ e. cc) limit same_put (refl, (request, answered.gone ++ now.ahead, may.0, may.1, refl)) tt (λ e. cc) halts_so adds
    by halts.Memory limit (same_put, ends, may, halts_so, adds) = none halts.Memory (λ e. cc) limit same_put (refl, (request, answered.gone ++ now.ahead, may.0, may.1, refl)) tt (λ e. cc) halts_so adds
    by halts.BadRoot limit (same_put, ends, may, halts_so, adds) = absurd ends
    by halts.NoDevice limit (same_put, ends, may, halts_so, adds) = absurd ends
    by halts.Unfinished limit (same_put, ends, may, halts_so, adds) = absurd ends

-- ---- one request

-- a flush that stopped ends a disconnect
pub flush_ends : (halt : Halt) → DataEnd None 0 [] halt → EndsByDisconnect (Err halt)
flush_ends (halts.Client stops.Source) ends = absurd (omega (arith, ends))
flush_ends (halts.Client stops.Limit) ends = absurd (omega (arith, ends))
flush_ends (halts.Client stops.Broken) (short, end) = absurd (omega (arith, short))
flush_ends (halts.Client stops.Sink) ends = ends
flush_ends halts.Platform ends = tt
flush_ends halts.Tape ends = tt
flush_ends halts.Ledger ends = tt
flush_ends halts.Memory ends = tt
flush_ends halts.BadRoot ends = ends
flush_ends halts.NoDevice ends = ends
flush_ends halts.Unfinished ends = tt

pub flush_finished : (halt : Halt) → DataEnd None 0 [] halt → ◌≡◌ {A = Result (Unit {0}) Halt} (Err halt) (Err halts.Unfinished) → ⊥
flush_finished halt ends is = subst (DataEnd None 0 []) (halt_same halt halts.Unfinished is) ends

-- one that halted
pub answer_halted : (tells : Type 0) (before after : Outside) (session : Session) (size : ℕ) (request : Request) (left : Option (List ℕ)) (gone ahead : List ℕ) (written : Option (List ℕ)) (halt : Halt) → DataEnd left (bytes_behind request.kind request.length) (gone ++ ahead) halt
    → MayHalt request.kind (refusal size request) halt → Halts tells before after session request.kind halt
    → ((n : ℕ) → needed_by session ≤ 41 * n → after.head ≤ before.head + left_by halt (needed_for size request n)) → AnswerEnd tells before after session size request left gone ahead written written (Err halt)
answer_halted tells before after session size request left gone ahead written (halts.Client stops.Source) ends may halts_so adds = (refl, ends, may, halts_so, adds)
answer_halted tells before after session size request left gone ahead written (halts.Client stops.Limit) ends may halts_so adds = (refl, ends, may, halts_so, adds)
answer_halted tells before after session size request left gone ahead written (halts.Client stops.Broken) ends may halts_so adds = (refl, ends, may, halts_so, adds)
answer_halted tells before after session size request left gone ahead written (halts.Client stops.Sink) ends may halts_so adds = absurd ends
answer_halted tells before after session size request left gone ahead written halts.Platform ends may halts_so adds = (refl, ends, may, halts_so, adds)
answer_halted tells before after session size request left gone ahead written halts.Tape ends may halts_so adds = (refl, ends, may, halts_so, adds)
answer_halted tells before after session size request left gone ahead written halts.Ledger ends may halts_so adds = (refl, ends, may, halts_so, adds)
answer_halted tells before after session size request left gone ahead written halts.Memory ends may halts_so adds = (refl, ends, may, halts_so, adds)
answer_halted tells before after session size request left gone ahead written halts.BadRoot ends may halts_so adds = (refl, ends, may, halts_so, adds)
answer_halted tells before after session size request left gone ahead written halts.NoDevice ends may halts_so adds = (refl, ends, may, halts_so, adds)
answer_halted tells before after session size request left gone ahead written halts.Unfinished ends may halts_so adds = (refl, ends, may, halts_so, adds)

reply_length : (kind : RequestKind) (count : ℕ) (outcome : Outcome) (room : List ℕ) → (kind ≡ kinds.Read → outcome ≡ outcomes.Done → 16 + count ≤ length room) → length (bytes_of_reply kind count outcome room) ≡ bytes_told kind outcome count
reply_length kinds.Read count outcomes.Done room there = let long = there refl refl in omega (arith, long, length-take count (drop 16 room), length-drop 16 room)
reply_length kinds.Read count outcomes.Damaged room there = refl
reply_length kinds.Read count outcomes.NoMemory room there = refl
reply_length kinds.Read count outcomes.Invalid room there = refl
reply_length kinds.Read count outcomes.NoSpace room there = refl
reply_length kinds.Write count outcome room there = refl
reply_length kinds.Disconnect count outcome room there = refl
reply_length kinds.Flush count outcome room there = refl
reply_length kinds.Trim count outcome room there = refl
reply_length (kinds.Other number) count outcome room there = refl

pub is_reply : (size : ℕ) (request : Request) (outcome : Outcome) (room : List ℕ) → ComesTo request.kind (refusal size request) outcome → (request.kind ≡ kinds.Read → outcome ≡ outcomes.Done → 16 + request.length ≤ length room)
    → IsReplyTo size request (record { outcome = outcome; cookie = request.cookie; bytes = bytes_of_reply request.kind request.length outcome room })
is_reply size request outcome room comes there = record { cookie = refl; comes = comes; bytes = reply_length request.kind request.length outcome room there }

-- one that could not be told whole
pub answer_cut : (tells : Type 0) (before after : Outside) (session : Session) (size : ℕ) (request : Request) (left : Option (List ℕ)) (gone ahead : List ℕ) (written written_now : Option (List ℕ)) (stop : Stop) (reply : Reply) → stop ≡ stops.Sink
    → length gone ≡ bytes_behind request.kind request.length → IsReplyTo size request reply → GotPart written (reply_bytes reply) written_now → Turns tells before after session None (record { head = request; bytes = gone }) reply
    → (tells → (now : Session) × IsMounted after.history.present now × TellsTrue before.history.present after.history.present session now (record { head = request; bytes = gone }) reply)
    → AnswerEnd tells before after session size request left gone ahead written written_now (Err (halts.Client stop))
answer_cut tells before after session size request left gone ahead written written_now stop reply is whole fits part turns damage =
    subst (λ (s : Stop). AnswerEnd tells before after session size request left gone ahead written written_now (Err (halts.Client s))) (sym is) (whole, reply, fits, part, turns, damage)

pub broken_no_limit : (n : ℕ) → halts.Client stops.Broken ≡ halts.Client stops.Limit → n ≡ 0
broken_no_limit n is = absurd cc

pub sink_no_limit : (stop : Stop) → stop ≡ stops.Sink → halts.Client stop ≡ halts.Client stops.Limit → ⊥
sink_no_limit stop is same = cc

-- there is no more to come than before
pub less_of_answer : (tells : Type 0) (before after : Outside) (session : Session) (size : ℕ) (request : Request) (a c : Option (List ℕ)) (old new : Room) (written written_now : Option (List ℕ)) (result : Result Session Halt)
    → Answered tells before after session size request a c old new written written_now result → length new.ahead + new.left ≤ length old.ahead + old.left
less_of_answer tells before after session size request a c old new written written_now result answered =
    omega (arith, ap length answered.came.is, length-append answered.gone new.ahead, length-append old.ahead answered.came.taken, answered.came.count)

-- the end of requests is behind the look at the cell
pub late_served : (size : ℕ) (rest part : List ℕ) (left : Option (List ℕ)) (ahead : List ℕ) (halt : Halt) → ServedEnd size rest part left ahead (Err halt) → IsLate halt
late_served size rest part left ahead (halts.Client stop) ends = tt
late_served size rest part left ahead halts.Platform ends = tt
late_served size rest part left ahead halts.Tape ends = tt
late_served size rest part left ahead halts.Ledger ends = tt
late_served size rest part left ahead halts.Memory ends = tt
late_served size rest part left ahead halts.BadRoot ends = ends
late_served size rest part left ahead halts.NoDevice ends = ends
late_served size rest part left ahead halts.Unfinished ends = tt

-- the same of a device whose size is said in another way
pub answered_on : (tells : Type 0) (before after : Outside) (session : Session) (size other : ℕ) (request : Request) (a c : Option (List ℕ)) (old new : Room) (written written_now : Option (List ℕ)) (result : Result Session Halt) → size ≡ other
    → Answered tells before after session size request a c old new written written_now result → Answered tells before after session other request a c old new written written_now result
answered_on tells before after session size other request a c old new written written_now result same answered = subst (λ (n : ℕ). Answered tells before after session n request a c old new written written_now result) same answered

pub late_of : (From : Held → Type 0) (tells : Type 0) (changes changes_now : ℕ) (before after : Outside) (size : ℕ) (a c : Option (List ℕ)) (old new : Room) (written written_now : Option (List ℕ)) (result : Result (Unit {0}) Halt) → Served From tells (tally 0 changes changes_now) before after size a c old new written written_now result → IfErr result IsLate
late_of From tells changes changes_now before after size a c old new written written_now (Ok done) served = tt
late_of From tells changes changes_now before after size a c old new written written_now (Err halt) served = late_served size served.rest served.part c new.ahead halt served.ends
