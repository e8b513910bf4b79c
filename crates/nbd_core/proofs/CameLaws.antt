-- What came, piece by piece.
use Rattle.std.proofs.Common.{◌≡◌, ℕ, ◌+◌, ◌<◌, ◌≤◌, Option, List, [], ◌++◌, length, take, drop, length-take, refl, sym, ap, subst, ◌∙◌, append_assoc, append-nil, length-append, inl, inr, arith}
use Rattle.std.proofs.lemmas.List.{take-append-drop}
use Rattle.sdbt_base.proofs.ToldLaws.{Gave-nothing, Gave-then}
use Rattle.nbd_core.specs.Room.{Room, Takes, IsPrompt, Came, IsShorter}

-- nothing yet
pub came_nothing : (left : Option (List ℕ)) (old : Room) (Waits : List ℕ → Type 0) → Came left left old old.left Waits old.ahead
came_nothing left old Waits = record {
  taken = [];
  gave = Gave-nothing left;
  is = sym (append-nil old.ahead);
  count = omega arith;
  prompt = inl refl;
}

-- one take more
pub came_takes : (a b : Option (List ℕ)) (old new : Room) (Waits : List ℕ → Type 0) → Takes a b old new → Waits old.ahead → Came a b old new.left Waits new.ahead
came_takes a b old new Waits takes waits = record {
  taken = takes.taken;
  gave = takes.gave;
  is = takes.is;
  count = takes.count;
  prompt = inr ([], takes.taken, refl, takes.piece, subst Waits (sym (append-nil old.ahead)) waits);
}

prompt_then : (Waits Waits_then Waits_in_all : List ℕ → Type 0) (ahead taken before mid more : List ℕ) → ((bytes : List ℕ) → Waits bytes → Waits_in_all bytes) → ((next : List ℕ) → Waits_then (mid ++ next) → Waits_in_all (before ++ (mid ++ next)))
    → before ++ mid ≡ ahead ++ taken → IsPrompt Waits ahead taken → IsPrompt Waits_then mid more → IsPrompt Waits_in_all ahead (taken ++ more)
prompt_then Waits Waits_then Waits_in_all ahead taken before mid more one two is first (inr (earlier, piece, split, small, waits)) =
    let place : before ++ (mid ++ earlier) ≡ ahead ++ (taken ++ earlier) = sym (append_assoc before mid earlier) ∙ ap (λ (l : List ℕ). l ++ earlier) is ∙ append_assoc ahead taken earlier in
    inr (taken ++ earlier, piece, ap (λ (l : List ℕ). taken ++ l) split ∙ sym (append_assoc taken earlier piece), small, subst Waits_in_all place (two earlier waits))
prompt_then Waits Waits_then Waits_in_all ahead taken before mid more one two is (inl none) (inl nothing) = inl (ap (λ (l : List ℕ). l ++ more) none ∙ nothing)
prompt_then Waits Waits_then Waits_in_all ahead taken before mid more one two is (inr (earlier, piece, split, small, waits)) (inl nothing) =
    inr (earlier, piece, ap (λ (l : List ℕ). taken ++ l) nothing ∙ append-nil taken ∙ split, small, one (ahead ++ earlier) waits)

-- more came, behind bytes that were used
pub came_then : (a b c : Option (List ℕ)) (old mid : Room) (left_to_take : ℕ) (Waits Waits_then Waits_in_all : List ℕ → Type 0) (before came : List ℕ) → ((bytes : List ℕ) → Waits bytes → Waits_in_all bytes)
    → ((next : List ℕ) → Waits_then (mid.ahead ++ next) → Waits_in_all (before ++ (mid.ahead ++ next))) → Came a b old mid.left Waits (before ++ mid.ahead) → Came b c mid left_to_take Waits_then came
    → Came a c old left_to_take Waits_in_all (before ++ came)
came_then a b c old mid left_to_take Waits Waits_then Waits_in_all before came one two first more = record {
  taken = first.taken ++ more.taken;
  gave = Gave-then a first.taken b more.taken c first.gave more.gave;
  is =
      ap (λ (l : List ℕ). before ++ l) more.is ∙ sym (append_assoc before mid.ahead more.taken) ∙ ap (λ (l : List ℕ). l ++ more.taken) first.is
      ∙ append_assoc old.ahead first.taken more.taken;
  count = omega (arith, first.count, more.count, length-append first.taken more.taken);
  prompt = prompt_then Waits Waits_then Waits_in_all old.ahead first.taken before mid.ahead more.taken one two first.is first.prompt more.prompt;
}

-- the same of what one waits for less
pub came_weaker : (a b : Option (List ℕ)) (old : Room) (left_to_take : ℕ) (Waits Waits_too : List ℕ → Type 0) (came : List ℕ) → ((bytes : List ℕ) → Waits bytes → Waits_too bytes) → Came a b old left_to_take Waits came → Came a b old left_to_take Waits_too came
came_weaker a b old left_to_take Waits Waits_too came one first = record {
  taken = first.taken;
  gave = first.gave;
  is = first.is;
  count = first.count;
  prompt = elim first.prompt [ inl nothing ↦ inl nothing | inr (earlier, piece, split, small, waits) ↦ inr (earlier, piece, split, small, one (old.ahead ++ earlier) waits) ];
}

-- one take more, while fewer bytes were there than are asked for
pub came_more : (a b c : Option (List ℕ)) (old mid new : Room) (count : ℕ) → Came a b old mid.left (IsShorter count) mid.ahead → length mid.ahead < count → Takes b c mid new → Came a c old new.left (IsShorter count) new.ahead
came_more a b c old mid new count first short takes =
    came_then a b c old mid new.left (IsShorter count) (IsShorter count) (IsShorter count) [] new.ahead (λ bytes waits. waits) (λ next waits. waits) first (came_takes b c mid new (IsShorter count) takes short)

-- more came behind bytes that are gone, while fewer are gone than are to be
pub pass_more : (a b c : Option (List ℕ)) (old mid : Room) (left_to_take count : ℕ) (gone came : List ℕ) → Came a b old mid.left (IsShorter count) (gone ++ mid.ahead) → length gone < count → Came b c mid left_to_take (IsShorter 1) came
    → Came a c old left_to_take (IsShorter count) (gone ++ came)
pass_more a b c old mid left_to_take count gone came first short more =
    came_then a b c old mid left_to_take (IsShorter count) (IsShorter 1) (IsShorter count) gone came (λ bytes waits. waits)
    (λ next waits. omega (arith, waits, short, length-append gone (mid.ahead ++ next))) first more

-- more of what came is gone
pub gone_more : (gone ahead : List ℕ) (n : ℕ) → gone ++ ahead ≡ (gone ++ take n ahead) ++ drop n ahead
gone_more gone ahead n = ap (λ (l : List ℕ). gone ++ l) (sym (take-append-drop n ahead)) ∙ sym (append_assoc gone (take n ahead) (drop n ahead))

pub length-gone : (gone ahead : List ℕ) (n : ℕ) → n ≤ length ahead → length (gone ++ take n ahead) ≡ length gone + n
length-gone gone ahead n within = omega (arith, within, length-append gone (take n ahead), length-take n ahead)
