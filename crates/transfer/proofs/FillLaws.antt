-- What the copying of a device comes to.
use Rattle.std.proofs.Common.{◌≡◌, ◌≢◌, ◌⊎◌, ◌∷◌, ◌++◌, ◌∙◌, ℕ, Bool, true, false, cond, List, [], Option, None, Some, Result, Ok, Err, inl, inr, refl, sym, ap, subst, length, map, arith}
use Rattle.std.specs.Prelude.{All, Contains, IfErr, IfOk, ◌↔◌}
use Rattle.std.specs.Ordering.{eq_by_cmp, is_eq, nat_cmp}
use Rattle.std.specs.declared.cmp.Ordering.TheVariants.{Equal}
use Rattle.std.specs.Cmp.{nat_cmp_is, nat_cmp_total}
use Rattle.std.specs.FinMap as maps
use Rattle.std.specs.FinMap.{get-empty, get-insert}
use Rattle.std.proofs.lemmas.List.{length-map}
use Rattle.std.proofs.lemmas.List.Elements.{All-append, All-cons, All-contains, All-contains_itself, All-nil, All-weaker}
use Rattle.std.proofs.lemmas.Result.{IfErr-weaker, IfOk-weaker}
use Rattle.sdbt_base.specs.Arrays.{Blocks, Device, Session as OpenSession, closed, committed, committed_if, content_of, mounted, new_device, session_on}
use Rattle.platform.specs.History.{History}
use Rattle.platform.specs.Image.{Image}
use Rattle.page_store.specs.Tree.{Mapped, joined}
use Rattle.device_course.specs.Course.{Made, MadeBetween}
use Rattle.device_course.specs.Marks.{last_mark}
use Rattle.device_course.specs.States.{IsAt}
use Rattle.device_course.proofs.MadeLaws.{made_closed, made_then}
use Rattle.device_session.specs.Open.{blocks_of, number_of, root_of}
use Rattle.device_session.specs.Sessions.{Session}
use Rattle.transfer.specs.Copies.{HasCopy, IsAlike, IsBlank, IsCopy, IsOnWay, IsOther, blank_of, copied}
use Rattle.transfer.specs.Moving.{Commits, IsHalt, IsReadHalt, IsShort, IsSoundHalt, Matches, OpensNone, Reaches, Refuses}
use Rattle.transfer.specs.Running.{IsOpened}
use Rattle.transfer.specs.declared.halts.Halt.{Halt}
use Rattle.transfer.specs.declared.halts.Halt.TheVariants as halts
use Rattle.transfer.proofs.CopyLaws.{copied_all, copied_touched, one_contents}

-- ---- halts

-- where both devices were only read
read_halt : (device : Device) (there : Option Device) (Short : Type 0) (halt : Halt) → IsReadHalt halt → IsHalt device there Short halt
read_halt device there Short halts.NoDevice sound = absurd sound
read_halt device there Short halts.NotEmpty sound = absurd sound
read_halt device there Short halts.Full sound = absurd sound
read_halt device there Short halts.Output sound = absurd sound
read_halt device there Short (halts.From stop) sound = sound
read_halt device there Short (halts.To stop) sound = sound

-- and where pages may lack
sound_halt : (device : Device) (there : Option Device) (Short : Type 0) (halt : Halt) → (halt ≡ halts.Full → Short × (HasCopy device there → ⊥)) → IsSoundHalt halt → IsHalt device there Short halt
sound_halt device there Short halts.NoDevice full sound = absurd sound
sound_halt device there Short halts.NotEmpty full sound = absurd sound
sound_halt device there Short halts.Full full sound = full refl
sound_halt device there Short halts.Output full sound = absurd sound
sound_halt device there Short (halts.From stop) full sound = sound
sound_halt device there Short (halts.To stop) full sound = sound

-- ---- a device that was never written

-- a new one is one
pub new_is_blank : (device there : Device) → there ≡ blank_of device → IsBlank device there
new_is_blank device there is = λ k. record {
  version = there.version;
  blocks = ap (λ (d : Device). d.blocks) is k;
  order = ap (λ (d : Device). d.order) is k;
  number = ap (λ (d : Device). d.number) is k;
  contents = ap (λ (d : Device). d.contents) is k;
}

-- it isn't another one
pub blank_not_other : (device there : Device) → IsBlank device there → IsOther device (Some there) → ⊥
blank_not_other device there blank other = other.1 blank

pub copy_not_other : (device there : Device) → IsCopy device there → IsOther device (Some there) → ⊥
copy_not_other device there copy other = other.0 copy

-- a device that was never written, and its array with all mapped blocks of another one
copy_of : (device there : Device) (other : OpenSession) (touched : Bool) → IsBlank device there → other.contents ≡ device.contents → (touched ≡ false → there.contents ≡ device.contents) → IsCopy device (committed_if touched there other)
copy_of device there other true blank contents none = record { blocks = ap (λ (d : Device). d.blocks) blank; order = ap (λ (d : Device). d.order) blank; contents = contents }
copy_of device there other false blank contents none = record { blocks = ap (λ (d : Device). d.blocks) blank; order = ap (λ (d : Device). d.order) blank; contents = none refl }

cases_blocks : (blocks : List ℕ) → (blocks ≡ []) ⊎ (blocks ≢ [])
cases_blocks [] = inl refl
cases_blocks (block ∷ blocks) = inr (λ is. cc)

-- where nothing was touched nothing was to be copied
untouched : (device there : Device) → there.contents ≡ maps.empty → (copied device.contents (maps.keys device.contents) (session_on there)).touched ≡ false → there.contents ≡ device.contents
untouched device there empty quiet = elim (cases_blocks (maps.keys device.contents)) [
  | inl none ↦ sym (ap (λ (bs : List ℕ). (copied device.contents bs (session_on there)).contents) none) ∙ copied_all device.contents (session_on there) empty
  | inr some ↦ absurd (let touched = copied_touched device.contents (maps.keys device.contents) (session_on there) some in let no : true ≡ false = sym touched ∙ quiet in cc)
]

-- ---- which devices are made

-- another one came, and was the last
reaches_one : (old new : History) (device there copy : Device) (Short : Type 0) (result : Result ℕ Halt) → (IsOther device (Some there) → Refuses result) → IsCopy device copy → MadeBetween old new there (Some copy ∷ []) copy
    → IfOk result (λ number. number ≡ copy.number) → IfErr result (IsHalt device (Some there) Short) → Reaches old new device (Some there) Short result
reaches_one old new device there copy Short result other is made number halt = record {
  made = Some copy ∷ [];
  each = All-cons (IsOnWay device) (Some copy) [] (inr is) (All-nil (IsOnWay device));
  came = made;
  done = IfOk-weaker result (λ n. n ≡ copy.number) (λ n. (c : Device) × (Some copy ≡ Some c) × IsCopy device c × (n ≡ c.number)) (λ n same. (copy, refl, is, same)) number;
  halts = halt;
  other = other;
}

-- the one that there was stayed
reaches_none : (old new : History) (device there : Device) (Short : Type 0) (result : Result ℕ Halt) → (IsOther device (Some there) → Refuses result) → MadeBetween old new there [] there
    → IfOk result (λ number. IsCopy device there × (number ≡ there.number)) → IfErr result (IsHalt device (Some there) Short) → Reaches old new device (Some there) Short result
reaches_none old new device there Short result other stayed done halt = record {
  made = [];
  each = All-nil (IsOnWay device);
  came = stayed;
  done = IfOk-weaker result (λ n. IsCopy device there × (n ≡ there.number)) (λ n. (c : Device) × (Some there ≡ Some c) × IsCopy device c × (n ≡ c.number)) (λ n is. (there, refl, is.0, is.1)) done;
  halts = halt;
  other = other;
}

pub reaches_committed : (old new : History) (device there : Device) (Short : Type 0) (result : Result ℕ Halt) → (result ≡ Err halts.Full → Short × (HasCopy device (Some there) → ⊥)) → IsBlank device there → Commits old new there (copied device.contents (maps.keys device.contents) (session_on there)) result → Reaches old new device (Some there) Short result
reaches_committed old new device there Short (Ok number) full blank commits =
    let other : OpenSession = copied device.contents (maps.keys device.contents) (session_on there) in
    let empty : there.contents ≡ maps.empty = ap (λ (d : Device). d.contents) blank in
    reaches_one old new device there (committed_if other.touched there other) Short (Ok number) (λ o. absurd (blank_not_other device there blank o))
    (copy_of device there other other.touched blank (copied_all device.contents (session_on there) empty) (untouched device there empty)) commits.1 commits.0 tt
reaches_committed old new device there Short (Err halt) full blank commits =
    let other : OpenSession = copied device.contents (maps.keys device.contents) (session_on there) in
    let empty : there.contents ≡ maps.empty = ap (λ (d : Device). d.contents) blank in
    let none : IsOther device (Some there) → Refuses {X = ℕ} (Err halt) = λ o. absurd (blank_not_other device there blank o) in
    let sound : IsHalt device (Some there) Short halt = sound_halt device (Some there) Short halt (λ is. full (ap Err is)) commits.0 in
    elim commits.1 as (λ e. Reaches old new device (Some there) Short (Err halt)) [
      | inl stayed ↦ reaches_none old new device there Short (Err halt) none stayed tt sound
      | inr one ↦ reaches_one old new device there (committed there other) Short (Err halt) none
          (copy_of device there other true blank (copied_all device.contents (session_on there) empty) (λ no. cc)) one tt sound
    ]

-- nothing was copied, since all of it was there
pub reaches_still : (old new : History) (device there : Device) (Short : Type 0) (number : ℕ) → IsCopy device there → number ≡ there.number → MadeBetween old new there [] there → Reaches old new device (Some there) Short (Ok number)
reaches_still old new device there Short number is same stayed = reaches_none old new device there Short (Ok number) (λ o. absurd (copy_not_other device there is o)) stayed (is, same) tt

-- the run halted at a read
refuses_read : (halt : Halt) → IsReadHalt halt → Refuses {X = ℕ} (Err halt)
refuses_read halts.NoDevice sound = absurd sound
refuses_read halts.NotEmpty sound = tt
refuses_read halts.Full sound = absurd sound
refuses_read halts.Output sound = absurd sound
refuses_read (halts.From stop) sound = tt
refuses_read (halts.To stop) sound = tt

pub read_sound : (halt : Halt) → IsReadHalt halt → IsSoundHalt halt
read_sound halts.NoDevice sound = sound
read_sound halts.NotEmpty sound = sound
read_sound halts.Full sound = tt
read_sound halts.Output sound = sound
read_sound (halts.From stop) sound = sound
read_sound (halts.To stop) sound = sound

pub reaches_halted : (old new : History) (device there : Device) (Short : Type 0) (halt : Halt) → IsReadHalt halt → MadeBetween old new there [] there → Reaches old new device (Some there) Short (Err halt)
reaches_halted old new device there Short halt sound stayed = reaches_none old new device there Short (Err halt) (λ other. refuses_read halt sound) stayed tt (read_halt device (Some there) Short halt sound)

-- or where the device was never written
pub reaches_blank : (old new : History) (device there : Device) (Short : Type 0) (halt : Halt) → (halt ≡ halts.Full → Short × (HasCopy device (Some there) → ⊥)) → IsBlank device there → IsSoundHalt halt → MadeBetween old new there [] there → Reaches old new device (Some there) Short (Err halt)
reaches_blank old new device there Short halt full blank sound stayed = reaches_none old new device there Short (Err halt) (λ other. absurd (blank_not_other device there blank other)) stayed tt (sound_halt device (Some there) Short halt full sound)

-- nothing is moved to another device
pub reaches_other : (old new : History) (device there : Device) (Short : Type 0) → IsOther device (Some there) → MadeBetween old new there [] there → Reaches old new device (Some there) Short (Err halts.NotEmpty)
reaches_other old new device there Short other stayed = reaches_none old new device there Short (Err halts.NotEmpty) (λ o. tt) stayed tt other

-- behind other devices, each on the way
pub reaches_behind : (old mid new : History) (device opened : Device) (there : Option Device) (Was Short : Type 0) (marks : List (Option Device)) (result : Result ℕ Halt) → All (IsOnWay device) marks → Made old mid None (closed there) marks (closed (Some opened))
    → (IsOther device there → IsOther device (Some opened)) → (IsOther device (Some opened) → IsOther device there) → (HasCopy device there → HasCopy device (Some opened)) → (Was → Short) → Reaches mid new device (Some opened) Was result → Reaches old new device there Short result
reaches_behind old mid new device opened there Was Short marks result each one other back copies weaker r =
    let all : Made old new None (closed there) (marks ++ r.made) (closed (last_mark (Some opened) r.made)) = made_then old mid new None None (closed there) (closed (Some opened)) (closed (last_mark (Some opened) r.made)) marks r.made one r.came in
    let last : last_mark (Some opened) r.made ≡ last_mark there (marks ++ r.made) = all.last in
    record {
      made = marks ++ r.made;
      each = All-append (IsOnWay device) marks r.made each r.each;
      came = subst (λ (d : Option Device). Made old new None (closed there) (marks ++ r.made) (closed d)) last all;
      done = IfOk-weaker result (λ n. (c : Device) × (last_mark (Some opened) r.made ≡ Some c) × IsCopy device c × (n ≡ c.number)) (λ n. (c : Device) × (last_mark there (marks ++ r.made) ≡ Some c) × IsCopy device c × (n ≡ c.number))
          (λ n is. (is.0, sym last ∙ is.1, is.2, is.3)) r.done;
      halts = IfErr-weaker result (IsHalt device (Some opened) Was) (IsHalt device there Short) (λ halt is. passed halt is) r.halts;
      other = λ o. r.other (other o);
    }
  where
    passed : (halt : Halt) → IsHalt device (Some opened) Was halt → IsHalt device there Short halt
    passed halts.NoDevice is = is
    passed halts.NotEmpty is = back is
    passed halts.Full is = (weaker is.0, λ has. is.1 (copies has))
    passed halts.Output is = is
    passed (halts.From stop) is = is
    passed (halts.To stop) is = is

-- since an earlier moment, from which on the device stayed
pub reaches_since : (old mid new : History) (device there : Device) (Was Short : Type 0) (result : Result ℕ Halt) → (Was → Short) → MadeBetween old mid there [] there → Reaches mid new device (Some there) Was result → Reaches old new device (Some there) Short result
reaches_since old mid new device there Was Short result weaker stayed r = reaches_behind old mid new device there (Some there) Was Short [] result (All-nil (IsOnWay device)) stayed (λ o. o) (λ o. o) (λ o. o) weaker r

-- behind an opening
pub reaches_opened : (old mid new : History) (session : Session) (blocks order : ℕ) (device opened : Device) (there : Option Device) (Was Short : Type 0) (marks : List (Option Device)) (result : Result ℕ Halt) → (Was → Short) → new_device blocks order ≡ blank_of device → IsOpened there marks opened blocks order
    → Made old mid (Some session) (closed there) marks (mounted opened (session_on opened)) → Reaches mid new device (Some opened) Was result → Reaches old new device there Short result
reaches_opened old mid new session blocks order device opened there Was Short marks result weaker blank (inl (same, none)) made r =
    reaches_behind old mid new device opened there Was Short marks result (subst (λ (ms : List (Option Device)). All (IsOnWay device) ms) (sym none) (All-nil (IsOnWay device)))
    (made_closed old mid (Some session) (closed there) (mounted opened (session_on opened)) marks made) (subst (IsOther device) same) (subst (IsOther device) (sym same)) (subst (HasCopy device) same) weaker r
reaches_opened old mid new session blocks order device opened there Was Short marks result weaker blank (inr (none, is, one)) made r =
    let fresh : IsBlank device opened = new_is_blank device opened (is ∙ blank) in
    reaches_behind old mid new device opened there Was Short marks result (subst (λ (ms : List (Option Device)). All (IsOnWay device) ms) (sym one) (All-cons (IsOnWay device) (Some opened) [] (inl fresh) (All-nil (IsOnWay device))))
    (made_closed old mid (Some session) (closed there) (mounted opened (session_on opened)) marks made) (λ o. absurd ((subst (IsOther device) none o).1 tt)) (λ o. absurd (blank_not_other device opened fresh o)) (λ has. absurd (subst (HasCopy device) none has)) weaker r

-- or no session was opened
pub reaches_unopened : (old new : History) (blocks order free : ℕ) (device : Device) (there : Option Device) (halt : Halt) → new_device blocks order ≡ blank_of device → OpensNone old new there blocks order free halt → Reaches old new device there (IsShort device 1 free) (Err halt)
reaches_unopened old new blocks order free device there halt blank o = record {
  made = o.made;
  each = All-weaker (λ next. next ≡ Some (new_device blocks order)) (IsOnWay device) (λ next is. subst (IsOnWay device) (sym is) (inl (new_is_blank device (new_device blocks order) blank))) o.made o.each;
  came = o.came;
  done = tt;
  halts = sound_halt device there (IsShort device 1 free) halt (λ is. (omega (arith, (o.full is).1), λ has. subst (HasCopy device) (o.full is).0 has)) o.sound;
  other = λ other. refuses halt (λ full. (subst (IsOther device) (o.full full).0 other).1 tt) o.sound;
}
  where
    refuses : (halt : Halt) → (halt ≡ halts.Full → ⊥) → IsSoundHalt halt → Refuses {X = ℕ} (Err halt)
    refuses halts.NoDevice full sound = absurd sound
    refuses halts.NotEmpty full sound = tt
    refuses halts.Full full sound = absurd (full refl)
    refuses halts.Output full sound = absurd sound
    refuses (halts.From stop) full sound = tt
    refuses (halts.To stop) full sound = tt

-- ---- the same blocks

-- the blocks that the one has mapped are those of the other: each has the same content where all contents are the same
pub same_contents : (device there : Device) (blocks : List ℕ) → blocks ≡ maps.keys device.contents → maps.keys there.contents ≡ blocks → All (λ block. content_of device.contents block ≡ content_of there.contents block) blocks ↔ (there.contents ≡ device.contents)
same_contents device there blocks keys others =
    let Same : ℕ → Type 0 = λ block. content_of device.contents block ≡ content_of there.contents block in (
      λ all. sym (one_contents device.contents there.contents (others ∙ keys) (λ q is. All-contains Same blocks q all (subst (λ (bs : List ℕ). Contains bs q) (sym keys) is))),
      λ same. All-weaker (Contains blocks) Same (λ block in'. ap (λ (m : Blocks). content_of m block) (sym same)) blocks (All-contains_itself blocks),
    )

-- told in other words
pub matches_as : (from to : Image) (source target : Session) (device there : Device) (array other : OpenSession) (Was Alike : Type 0) (result : Result Bool Halt) → Was ↔ Alike → Matches from to source target device there array other Was result → Matches from to source target device there array other Alike result
matches_as from to source target device there array other Was Alike (Ok same) both m = (m.0, m.1, (λ yes. both.0 (m.2.0 yes), λ is. m.2.1 (both.1 is)))
matches_as from to source target device there array other Was Alike (Err halt) both m = m

-- ---- a device and its session

nothing : (ms : List Mapped) → length ms ≡ 0 → ms ≡ []
nothing [] none = refl
nothing (m ∷ ms) none = absurd (omega (arith, none))

tied : (block : ℕ) → eq_by_cmp nat_cmp block block ≡ true
tied block = ap is_eq (sym (nat_cmp_is block block Equal refl))

abbrev pairs : List Mapped → List (ℕ × List ℕ)
pairs ms = map (λ (m : Mapped). (m.block, m.content)) ms

unmapped : (ms : List Mapped) → maps.from_entries {R = nat_cmp} (pairs ms) ≡ maps.empty → length ms ≡ 0
unmapped [] is = refl
unmapped (m ∷ ms) is =
    let rest : Blocks = maps.from_entries (pairs ms) in
    let got : maps.get (maps.insert rest m.block m.content) m.block ≡ Some m.content =
    get-insert nat_cmp_total rest m.block m.content m.block ∙ ap (λ b. cond b (Some m.content) (maps.get rest m.block)) (tied m.block) in
    let none : maps.get (maps.insert rest m.block m.content) m.block ≡ None = ap (λ (x : Blocks). maps.get x m.block) is ∙ get-empty nat_cmp m.block in
    let no : Some m.content ≡ None = sym got ∙ none in
    absurd (let never : ⊥ = cc in never)

-- one of number 0 without a mapped block is one that was never written
pub fresh_blank : (image : Image) (session : Session) (device there : Device) → IsAt image (Some session) (mounted there (session_on there)) → IsAlike device there → (number_of session ≡ 0) × (session.mapped ≡ 0) → IsBlank device there
fresh_blank image session device there at alike fresh =
    let holds = at.there.session.0 in
    let number : there.number ≡ 0 = sym holds.stands.number ∙ fresh.0 in
    let none : (joined holds.each).mapped ≡ [] = nothing (joined holds.each).mapped (sym holds.count ∙ fresh.1) in
    let contents : there.contents ≡ maps.empty = holds.contents_are ∙ ap (λ (ms : List Mapped). maps.from_entries {R = nat_cmp} (pairs ms)) none in
    λ k. record { version = there.version; blocks = alike.blocks k; order = alike.order k; number = number k; contents = contents k }

-- and the other way round
pub blank_fresh : (image : Image) (session : Session) (device there : Device) → IsAt image (Some session) (mounted there (session_on there)) → IsBlank device there → (number_of session ≡ 0) × (session.mapped ≡ 0)
blank_fresh image session device there at blank =
    let holds = at.there.session.0 in
    let empty : maps.from_entries {R = nat_cmp} (pairs (joined holds.each).mapped) ≡ maps.empty = sym holds.contents_are ∙ ap (λ (d : Device). d.contents) blank in
    (holds.stands.number ∙ ap (λ (d : Device). d.number) blank, holds.count ∙ unmapped (joined holds.each).mapped empty)

-- of two sessions
abbrev AreAlike : Session → Session → Type 0
AreAlike source target = (blocks_of source ≡ blocks_of target) × ((root_of source).order ≡ (root_of target).order)

pub alike_of : (from to : Image) (source target : Session) (device there : Device) (array other : OpenSession) → IsAt from (Some source) (mounted device array) → IsAt to (Some target) (mounted there other) → AreAlike source target → IsAlike device there
alike_of from to source target device there array other at at_there are =
    let one = at.there.session.0.stands in
    let two = at_there.there.session.0.stands in
    record { blocks = sym two.blocks ∙ (sym are.0 ∙ one.blocks); order = sym two.order ∙ (sym are.1 ∙ one.order) }

alike_back : (from to : Image) (source target : Session) (device there : Device) (array other : OpenSession) → IsAt from (Some source) (mounted device array) → IsAt to (Some target) (mounted there other) → IsAlike device there → AreAlike source target
alike_back from to source target device there array other at at_there alike =
    let one = at.there.session.0.stands in
    let two = at_there.there.session.0.stands in
    (one.blocks ∙ (sym alike.blocks ∙ sym two.blocks), one.order ∙ (sym alike.order ∙ sym two.order))

-- where they aren't alike it is another device
pub unlike_other : (from to : Image) (source target : Session) (device there : Device) (array other : OpenSession) → IsAt from (Some source) (mounted device array) → IsAt to (Some target) (mounted there other) → (AreAlike source target → ⊥) → IsOther device (Some there)
unlike_other from to source target device there array other at at_there never = (
  λ copy. never (alike_back from to source target device there array other at at_there (record { blocks = copy.blocks; order = copy.order })),
  λ blank. never (alike_back from to source target device there array other at at_there (record { blocks = ap (λ (d : Device). d.blocks) blank; order = ap (λ (d : Device). d.order) blank })),
)

-- and where it has other contents, and was written
pub stale_other : (image : Image) (session : Session) (device there : Device) → IsAt image (Some session) (mounted there (session_on there)) → (there.contents ≡ device.contents → ⊥) → ((number_of session ≡ 0) × (session.mapped ≡ 0) → ⊥) → IsOther device (Some there)
stale_other image session device there at others stale = (λ copy. others copy.contents, λ blank. stale (blank_fresh image session device there at blank))

-- the size of the source is that of its device
pub new_blank : (image : Image) (source : Session) (device : Device) (array : OpenSession) (blocks order : ℕ) → IsAt image (Some source) (mounted device array) → blocks ≡ blocks_of source → order ≡ (root_of source).order → new_device blocks order ≡ blank_of device
new_blank image source device array blocks order at blocks_are order_is =
    let stands = at.there.session.0.stands in
    λ k. new_device ((blocks_are ∙ stands.blocks) k) ((order_is ∙ stands.order) k)

pub number_at : (image : Image) (session : Session) (there : Device) (array : OpenSession) → IsAt image (Some session) (mounted there array) → number_of session ≡ there.number
number_at image session there array at = at.there.session.0.stands.number

-- a device that was never written has room for one without a mapped block
pub short_not_copy : (device there : Device) (free : ℕ) → IsBlank device there → IsShort device 0 free → HasCopy device (Some there) → ⊥
short_not_copy device there free blank short copy =
    let empty : device.contents ≡ maps.empty = sym copy.contents ∙ ap (λ (d : Device). d.contents) blank in
    let none : length (maps.keys device.contents) ≡ 0 =
    ap (λ (m : Blocks). length (maps.keys m)) empty ∙ length-map (maps.entries {R = nat_cmp} maps.empty) (λ (e : ℕ × List ℕ). e.0) ∙ sym (maps.len-entries {R = nat_cmp} maps.empty) ∙ maps.len-empty nat_cmp (List ℕ) in
    omega (arith, short, none)
