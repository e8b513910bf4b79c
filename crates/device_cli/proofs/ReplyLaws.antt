-- Replies that were so at a moment, over lines that are handled one after another.
use Rattle.std.proofs.Common.{◌≡◌, ◌≤◌, ℕ, true, false, List, [], ◌∷◌, ◌++◌, ◌+◌, Option, None, Some, Result, Ok, Err, length, length-append, inl, inr, refl, sym, ◌∙◌, ap, subst, arith}
use Rattle.std.specs.Prelude.{◌≢◌, ◌⊎◌, IfSome, IfOk, IfErr}
use Rattle.std.proofs.lemmas.Bool.{cases_Bool}
use Rattle.platform.specs.Image.{Image}
use Rattle.platform.specs.History.{History, Extends, image_at, moment}
use Rattle.platform.proofs.Moments.{image_at-now, Extends-trans}
use Rattle.root_codec.specs.RootRecord.{FitsRoot}
use Rattle.device_session.specs.Open.{IsOpen, is_touched, number_of, root_of}
use Rattle.device_session.specs.Sessions.{Session}
use Rattle.script_lang.specs.Grammar.{Spells}
use Rattle.script_lang.specs.Commands.{Command, Format}
use Rattle.script_lang.specs.Replies.{Reply, said}
use Rattle.script_lang.specs.Arrays.{in_limits}
use Rattle.script_lang.specs.declared.replies.Reply.{Reply as Given}
use Rattle.script_lang.specs.declared.replies.Reply.TheVariants as given
use Rattle.session_calls.specs.Damage.{IsMounted}
use Rattle.session_calls.specs.declared.stops.DeviceStop.{DeviceStop}
use Rattle.session_calls.specs.declared.stops.DeviceStop.TheVariants as stops
use Rattle.device_cli.specs.Causes.{AnswersAny, AreSo, LeavesHeld, LineSo, MayReply, MayStop, OnHeld, SoOn, WasSo, number_behind}
use Rattle.device_cli.specs.Replied.{outcome}
use Rattle.device_cli.specs.World.{World}

-- what was so at moments, was so in the longer history
so_later : (tells : Type 0) (old new : History) (from : ℕ) (held next : Option Session) (behind : ℕ) (command : Command) (reply : Reply) → Extends old new → WasSo tells old from held next behind command reply → WasSo tells new from held next behind command reply
so_later tells old new from held next behind command reply extends p = record {
  at = p.at;
  later = p.later;
  still = there ∙ p.still ∙ sym (extends.same from (omega (arith, p.later, p.after, p.within)));
  after = p.after;
  within = omega (arith, p.within, extends.later);
  in_range = p.in_range;
  mounted = subst (λ (i : Image). IfSome held (IsMounted i)) (sym there) p.mounted;
  mounted_then = subst (λ (i : Image). IfSome next (IsMounted i)) (sym behind_it) p.mounted_then;
  may = subst (λ (i : Image). MayReply tells i (image_at new behind) held next command reply) (sym there) (subst (λ (i : Image). MayReply tells (image_at old p.at) i held next command reply) (sym behind_it) p.may);
  leaves = p.leaves;
}
  where
    there : image_at new p.at ≡ image_at old p.at
    there = extends.same p.at (omega (arith, p.after, p.within))

    behind_it : image_at new behind ≡ image_at old behind
    behind_it = extends.same behind p.within

line_later : (tells : Type 0) (old new : History) (from : ℕ) (held next : Option Session) (behind : ℕ) (line : List ℕ) (reply : Reply) → Extends old new → LineSo tells old from held next behind line reply → LineSo tells new from held next behind line reply
line_later tells old new from held next behind line reply extends (inl bad) = inl bad
line_later tells old new from held next behind line reply extends (inr (command, spells, so)) = inr (command, spells, so_later tells old new from held next behind command reply extends so)

are_later : (tells : Type 0) (old new : History) (from : ℕ) (held : Option Session) (lines : List (List ℕ)) (replies : List Reply) (end : ℕ) (last : Option Session) → Extends old new → AreSo tells old from held lines replies end last → AreSo tells new from held lines replies end last
are_later tells old new from held lines [] end last extends (le, within, still, same) =
    (le, omega (arith, within, extends.later), extends.same end within ∙ still ∙ sym (extends.same from (omega (arith, le, within))), same)
are_later tells old new from held [] (reply ∷ replies) end last extends h = absurd h
are_later tells old new from held (line ∷ lines) (reply ∷ replies) end last extends (behind, next, first, rest) =
    (behind, next, line_later tells old new from held next behind line reply extends first, are_later tells old new behind next lines replies end last extends rest)

-- and they are so from an earlier moment on, since which the image is as it was
are_since : (tells : Type 0) (history : History) (since from : ℕ) (held : Option Session) (lines : List (List ℕ)) (replies : List Reply) (end : ℕ) (last : Option Session) → since ≤ from → image_at history from ≡ image_at history since
    → AreSo tells history from held lines replies end last → AreSo tells history since held lines replies end last
are_since tells history since from held lines [] end last earlier same (le, within, still, is) = (omega (arith, earlier, le), within, still ∙ same, is)
are_since tells history since from held [] (reply ∷ replies) end last earlier same h = absurd h
are_since tells history since from held (line ∷ lines) (reply ∷ replies) end last earlier same (behind, next, inl (bad, is, held_is, behind_is), rest) =
    (since, next, inl (bad, is, held_is, refl), are_since tells history since from next lines replies end last earlier same (subst (λ (n : ℕ). AreSo tells history n next lines replies end last) behind_is rest))
are_since tells history since from held (line ∷ lines) (reply ∷ replies) end last earlier same (behind, next, inr (command, spells, so), rest) = (
  behind,
  next,
  inr (
    command,
    spells,
    record {
      at = so.at;
      later = omega (arith, earlier, so.later);
      still = so.still ∙ same;
      after = so.after;
      within = so.within;
      in_range = so.in_range;
      mounted = so.mounted;
      mounted_then = so.mounted_then;
      may = so.may;
      leaves = so.leaves;
    },
  ),
  rest,
)

are_append : (tells : Type 0) (history : History) (from : ℕ) (held : Option Session) (lines more : List (List ℕ)) (replies others : List Reply) (mid : ℕ) (between : Option Session) (end : ℕ) (last : Option Session) → length replies ≡ length lines
    → AreSo tells history from held lines replies mid between → AreSo tells history mid between more others end last → AreSo tells history from held (lines ++ more) (replies ++ others) end last
are_append tells history from held [] more [] others mid between end last same (le, within, still, is) k =
    are_since tells history from mid held more others end last le still (subst (λ (s : Option Session). AreSo tells history mid s more others end last) is k)
are_append tells history from held [] more (reply ∷ replies) others mid between end last same h k = absurd h
are_append tells history from held (line ∷ lines) more [] others mid between end last same h k = absurd (omega (arith, same))
are_append tells history from held (line ∷ lines) more (reply ∷ replies) others mid between end last same (behind, next, first, rest) k =
    (behind, next, first, are_append tells history behind next lines more replies others mid between end last (omega (arith, same)) rest k)

are_longer : (tells : Type 0) (history : History) (from : ℕ) (held : Option Session) (lines more : List (List ℕ)) (replies : List Reply) (end : ℕ) (last : Option Session) → AreSo tells history from held lines replies end last → AreSo tells history from held (lines ++ more) replies end last
are_longer tells history from held lines more [] end last h = h
are_longer tells history from held [] more (reply ∷ replies) end last h = absurd h
are_longer tells history from held (line ∷ lines) more (reply ∷ replies) end last (behind, next, first, rest) = (behind, next, first, are_longer tells history behind next lines more replies end last rest)

are_few : (tells : Type 0) (history : History) (from : ℕ) (held : Option Session) (lines : List (List ℕ)) (replies : List Reply) (end : ℕ) (last : Option Session) → AreSo tells history from held lines replies end last → length replies ≤ length lines
are_few tells history from held lines [] end last h = omega arith
are_few tells history from held [] (reply ∷ replies) end last h = absurd h
are_few tells history from held (line ∷ lines) (reply ∷ replies) end last (behind, next, first, rest) = let few = are_few tells history behind next lines replies end last rest in omega (arith, few)

-- the moment before a part of a run is one of the longer history
was_there : (old new : History) → Extends old new → image_at new (moment old) ≡ old.present
was_there old new extends = extends.same (moment old) (omega arith) ∙ image_at-now old (moment old) (omega arith)

-- no line, while the image and the session stayed
pub so_idle : (tells : Type 0) (old new : History) (held now : Option Session) (Ends : Option Session → Type 0) → (tells → Extends old new) → (tells → new.present ≡ old.present) → now ≡ held → Ends held → SoOn tells old new held now [] [] Ends
so_idle tells old new held now Ends extends kept same ends told =
    (extends told, moment new, held, ((extends told).later, omega arith, image_at-now new (moment new) (omega arith) ∙ kept told ∙ sym (was_there old new (extends told)), refl), (λ all. (refl, sym same)), ends)

-- a line without a reply
pub so_cut : (tells : Type 0) (old new : History) (held now : Option Session) (line : List ℕ) (lines : List (List ℕ)) (Ends : Option Session → Type 0) → (tells → Extends old new) → Ends held → SoOn tells old new held now (line ∷ lines) [] Ends
so_cut tells old new held now line lines Ends extends ends told = (extends told, moment old, held, (omega arith, (extends told).later, refl, refl), (λ all. absurd (omega (arith, all))), ends)

pub so_line : (tells : Type 0) (old new : History) (held now : Option Session) (line : List ℕ) (reply : Reply) → (tells → Extends old new) → (tells → LineSo tells new (moment old) held now (moment new) line reply) → SoOn tells old new held now (line ∷ []) (reply ∷ []) (λ last. Unit {0})
so_line tells old new held now line reply extends so told = (extends told, moment new, now, (moment new, now, so told, (omega arith, omega arith, refl, refl)), (λ all. (refl, refl)), tt)

pub so_then : (tells : Type 0) (old mid new : History) (held between now : Option Session) (lines more : List (List ℕ)) (replies others : List Reply) (Was Ended Ends : Option Session → Type 0) → length replies ≡ length lines → ((last : Option Session) → Ended last → Ends last)
    → SoOn tells old mid held between lines replies Was → SoOn tells mid new between now more others Ended → SoOn tells old new held now (lines ++ more) (replies ++ others) Ends
so_then tells old mid new held between now lines more replies others Was Ended Ends same leads p q told =
    let first = p told in
    let second = q told in
    let ends = first.4 same in
    let one = are_later tells mid new (moment old) held lines replies first.1 first.2 second.0 first.3 in
    let two = subst (λ (n : ℕ). AreSo tells new n first.2 more others second.1 second.2) (sym ends.0) (subst (λ (s : Option Session). AreSo tells new (moment mid) s more others second.1 second.2) (sym ends.1) second.3) in (
      Extends-trans old mid new first.0 second.0,
      second.1,
      second.2,
      are_append tells new (moment old) held lines more replies others first.1 first.2 second.1 second.2 same one two,
      λ all. second.4 (omega (arith, all, same, length-append replies others, length-append lines more)),
      leads second.2 second.5,
    )

pub so_longer : (tells : Type 0) (old new : History) (held now : Option Session) (lines more : List (List ℕ)) (replies : List Reply) (Ended Ends : Option Session → Type 0) → ((last : Option Session) → Ended last → Ends last) → SoOn tells old new held now lines replies Ended → SoOn tells old new held now (lines ++ more) replies Ends
so_longer tells old new held now lines more replies Ended Ends leads p told =
    let h = p told in
    let few = are_few tells new (moment old) held lines replies h.1 h.2 h.3 in
    (h.0, h.1, h.2, are_longer tells new (moment old) held lines more replies h.1 h.2 h.3, (λ all. h.4 (omega (arith, all, few, length-append lines more))), leads h.2 h.5)

-- the same that ends otherwise
pub so_ended : (tells : Type 0) (old new : History) (held now : Option Session) (lines : List (List ℕ)) (replies : List Reply) (Ended Ends : Option Session → Type 0) → ((last : Option Session) → Ended last → Ends last) → SoOn tells old new held now lines replies Ended → SoOn tells old new held now lines replies Ends
so_ended tells old new held now lines replies Ended Ends leads p told = let h = p told in (h.0, h.1, h.2, h.3, h.4, leads h.2 h.5)

-- ---- a command's reply

in_range_of : (held : Option Session) (head : ℕ) → IfSome held (λ session. IsOpen session head) → IfSome held (λ session. FitsRoot (root_of session))
in_range_of None head ready = tt
in_range_of (Some session) head ready = ready.served.in_range

pub so_there : (tells : Type 0) (held next : Option Session) (head : ℕ) (old new : History) (line : List ℕ) (command : Command) (reply : Reply) → Spells line command → IfSome held (λ session. IsOpen session head)
    → (tells → IfSome held (IsMounted old.present)) → (tells → IfSome next (IsMounted new.present)) → (tells → Extends old new) → MayReply tells old.present new.present held next command reply × LeavesHeld held next reply
    → tells → LineSo tells new (moment old) held next (moment new) line reply
so_there tells held next head old new line command reply spells ready mounted then extends may told =
    let here = was_there old new (extends told) in
    let there : image_at new (moment new) ≡ new.present = image_at-now new (moment new) (omega arith) in
    inr (
      command,
      spells,
      record {
        at = moment old;
        later = omega arith;
        still = refl;
        after = (extends told).later;
        within = omega arith;
        in_range = in_range_of held head ready;
        mounted = subst (λ (i : Image). IfSome held (IsMounted i)) (sym here) (mounted told);
        mounted_then = subst (λ (i : Image). IfSome next (IsMounted i)) (sym there) (then told);
        may = subst (λ (i : Image). MayReply tells i (image_at new (moment new)) held next command reply) (sym here) (subst (λ (i : Image). MayReply tells old.present i held next command reply) (sym there) may.0);
        leaves = may.1;
      },
    )

-- what holds of the session that is held
pub held_has : (held : Option Session) (session : Session) (P : Session → Type 0) → held ≡ Some session → P session → OnHeld held P
held_has held session P is h = subst (λ (s : Option Session). OnHeld s P) (sym is) h

-- the number that a session has behind a commit
pub number_is : (session now : Session) (number : ℕ) → number ≡ number_of now → (is_touched session ≡ false → now ≡ session) → (is_touched session ≡ true → number_of now ≡ number_of session + 1)
    → number ≡ number_behind session
number_is session now number is same next = elim (cases_Bool (is_touched session)) [
  | inl holds ↦ rw holds (is ∙ next holds)
  | inr fails ↦ rw fails (is ∙ ap number_of (same fails))
]

-- a format of numbers that no device has
refused_reply : (tells : Type 0) (image after : Image) (held next : Option Session) (blocks order : ℕ) (reply : Given) (buffer : List ℕ) → (reply ≡ given.NotEmpty) ⊎ (reply ≡ given.Range)
    → (tells → ((reply ≡ given.NotEmpty) × (image.cell ≢ None)) ⊎ ((reply ≡ given.Range) × (image.cell ≡ None))) → in_limits blocks order ≡ false → MayReply tells image after held next (Format blocks order) (said reply buffer)
refused_reply tells image after held next blocks order reply buffer (inl e) why past =
    subst (λ (r : Given). MayReply tells image after held next (Format blocks order) (said r buffer)) (sym e) (tt, λ told. is_full (why told))
  where
    is_full : ((reply ≡ given.NotEmpty) × (image.cell ≢ None)) ⊎ ((reply ≡ given.Range) × (image.cell ≡ None)) → image.cell ≢ None
    is_full (inl (not_empty, full)) = full
    is_full (inr (range, empty)) = let never : given.NotEmpty ≡ given.Range = sym e ∙ range in absurd cc
refused_reply tells image after held next blocks order reply buffer (inr e) why past = subst (λ (r : Given). MayReply tells image after held next (Format blocks order) (said r buffer)) (sym e) past

pub refused_any : (tells : Type 0) (old now : World) (blocks order : ℕ) (result : Result Given DeviceStop) (buffer : List ℕ) → IfOk result (λ reply. (reply ≡ given.NotEmpty) ⊎ (reply ≡ given.Range))
    → (tells → IfOk result (λ reply. ((reply ≡ given.NotEmpty) × (old.history.present.cell ≢ None)) ⊎ ((reply ≡ given.Range) × (old.history.present.cell ≡ None))))
    → IfErr result (λ stop. stop ≡ stops.Platform) → in_limits blocks order ≡ false → now.session ≡ old.session → AnswersAny tells old now (Format blocks order) (outcome result buffer)
refused_any tells old now blocks order (Ok reply) buffer either why cause past same = (refused_reply tells old.history.present now.history.present old.session now.session blocks order reply buffer either why past, leaves either)
  where
    leaves : (reply ≡ given.NotEmpty) ⊎ (reply ≡ given.Range) → LeavesHeld old.session now.session (said reply buffer)
    leaves (inl e) = subst (λ (r : Given). LeavesHeld old.session now.session (said r buffer)) (sym e) same
    leaves (inr e) = subst (λ (r : Given). LeavesHeld old.session now.session (said r buffer)) (sym e) same
refused_any tells old now blocks order (Err stop) buffer either why cause past same = subst (λ (s : DeviceStop). MayStop tells old.session now.history.present now.head now.capacity (Format blocks order) s) (sym cause) tt
