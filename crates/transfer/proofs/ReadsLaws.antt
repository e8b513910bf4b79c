-- How often a move reads either platform.
use Rattle.std.proofs.Common.{◌≡◌, ◌≤◌, ◌+◌, ◌-◌, ◌*◌, ◌∙◌, ℕ, zero, suc, List, [], Bool, true, false, None, inl, inr, refl, sym, ap, subst, length, arith}
use Rattle.std.specs.Prelude.{◌⊎◌, IsTrue}
use Rattle.platform.specs.Calls.{Looks}
use Rattle.platform.specs.Image.{Image}
use Rattle.platform.specs.declared.platforms.Platform.{Ghosts as PlatformGhosts}
use Rattle.root_codec.specs.declared.root.Root.{Root}
use Rattle.node_codec.specs.declared.body.Entry.{Entry}
use Rattle.page_store.specs.declared.wants.Want.{Want}
use Rattle.page_store.specs.Kept.{IsRootOf}
use Rattle.page_store.specs.Places.{root_want}
use Rattle.btree_walk.specs.Nodes.{CutShort, FirstNodes, Lists, listed}
use Rattle.device_session.specs.Open.{number_of, root_of}
use Rattle.device_session.specs.Sessions.{Session}
use Rattle.transfer.specs.Reads.{AreFirstNodes, ReadsCompared, ReadsFew, ReadsFilled, ReadsFound, ReadsOnce, Walks}
use Rattle.transfer.specs.Refusals.{AreAlike, AreUnlike, IsOn}
use Rattle.transfer.specs.Running.{HasMapped}
use Rattle.transfer.proofs.RefusalLaws.{not_empty, one_in}

-- ---- a walk

-- that meets no node
first_none : (pages : List (List ℕ)) (order level : ℕ) (want : Want) (key : List ℕ) → FirstNodes pages order level want key []
unfolding FirstNodes
first_none pages order zero want key = refl
first_none pages order (suc level) want key = inl refl

pub walks_none : (image : Image) (root : Root) (beside most : ℕ) → most ≤ 1 + beside → Walks image root beside most
walks_none image root beside most less = record { nodes = []; are = inr (first_none image.readable root.order root.level (root_want root) root.key); within = omega (arith, less) }

-- that was done, and one that was cut short
pub walks_done : (image : Image) (root : Root) (reads reads_now : ℕ) (list : List Entry) → Lists image.readable root listed reads reads_now list → Walks image root 0 (reads_now - reads)
walks_done image root reads reads_now list lists = record { nodes = lists.nodes; are = inl lists.are; within = (let same = lists.reads in omega (arith, same)) }

pub walks_cut : (image : Image) (root : Root) (reads reads_now : ℕ) → CutShort image.readable (root_want root) root.key reads reads_now → Walks image root 0 (reads_now - reads)
walks_cut image root reads reads_now cut = record { nodes = cut.nodes; are = inr cut.are; within = (let less = cut.reads in omega (arith, less)) }

-- and more reads beside it
pub walks_more : (image : Image) (root : Root) (some more few most : ℕ) → few + some ≤ more + most → Walks image root some most → Walks image root more few
walks_more image root some more few most less walk = record { nodes = walk.nodes; are = walk.are; within = (let within = walk.within in omega (arith, within, less)) }

walks_as : (image other : Image) (root : Root) (beside most : ℕ) → other ≡ image → Walks other root beside most → Walks image root beside most
walks_as image other root beside most same walk = subst (λ (i : Image). Walks i root beside most) same walk

-- ---- a device that is found

-- where it is compared alone
pub found_compared : (to_tells : Type 0) (to : Image) (target : Session) (blocks : List ℕ) (few most : ℕ) → ReadsCompared to_tells to target blocks few most → ReadsFound to_tells to target blocks few most
found_compared to_tells to target blocks few most c =
    let within = c.within in
    let from = c.first in
    record {
      first = omega (arith, from, within);
      second = λ told. walks_more to (root_of target) (21 * c.compared) (40 * length blocks) most most (omega (arith, within)) (c.second told);
      compared = λ told written. walks_more to (root_of target) (21 * c.compared) (21 * length blocks) most most (omega (arith, within)) (c.second told);
    }

-- where it has no block, and is written behind that
pub found_copied : (to_tells : Type 0) (to : Image) (target : Session) (blocks : List ℕ) (few most some more : ℕ) → (number_of target ≡ 0) × (target.mapped ≡ 0) → (root_of target).mapped ≡ 0 → ReadsCompared to_tells to target blocks few most → some ≤ 21 * length blocks → more ≤ 40 * length blocks
    → ReadsFound to_tells to target blocks (few + some) (most + more)
found_copied to_tells to target blocks few most some more fresh none c some_less more_less =
    let mapped = c.mapped in
    let from = c.first in
    record {
      first = omega (arith, from, mapped, none, some_less);
      second = λ told. walks_more to (root_of target) (21 * c.compared) (40 * length blocks) (most + more) most (omega (arith, mapped, none, more_less)) (c.second told);
      compared = λ told written. absurd (written fresh);
    }

-- ---- a whole fill

-- a new device is written alone
pub filled_new : (from_tells to_tells : Type 0) (from to : Image) (source target : Session) (is_new : Bool) (blocks : List ℕ) (walk few most : ℕ) → IsTrue is_new → (from_tells → Walks from (root_of source) 0 walk) → length blocks ≡ (root_of source).mapped → few ≤ 21 * length blocks → most ≤ 40 * length blocks
    → ReadsFilled from_tells to_tells from to source target is_new (walk + few) most
filled_new from_tells to_tells from to source target is_new blocks walk few most is walks many few_less most_less = record {
  first = λ told. walks_more from (root_of source) 0 (21 * (root_of source).mapped) (walk + few) walk (omega (arith, many, few_less)) (walks told);
  second = λ told. walks_none to (root_of target) (40 * (root_of source).mapped) most (omega (arith, many, most_less));
  compared = λ told never written. absurd (never is);
  new = λ new. omega (arith, many, most_less);
}

pub filled_found : (from_tells to_tells : Type 0) (from to : Image) (source target : Session) (is_new : Bool) (blocks : List ℕ) (walk few most : ℕ) → (IsTrue is_new → ⊥) → (from_tells → Walks from (root_of source) 0 walk) → length blocks ≡ (root_of source).mapped → ReadsFound to_tells to target blocks few most
    → ReadsFilled from_tells to_tells from to source target is_new (walk + few) most
filled_found from_tells to_tells from to source target is_new blocks walk few most never walks many found = record {
  first = λ told. (let less = found.first in walks_more from (root_of source) 0 (21 * (root_of source).mapped) (walk + few) walk (omega (arith, many, less)) (walks told));
  second = λ told. walks_more to (root_of target) (40 * length blocks) (40 * (root_of source).mapped) most most (omega (arith, many)) (found.second told);
  compared = λ told found_there written. walks_more to (root_of target) (21 * length blocks) (21 * (root_of source).mapped) most most (omega (arith, many)) (found.compared told written);
  new = λ is. absurd (never is);
}

-- the first tree's walk alone, and nothing
pub filled_walked : (from_tells to_tells : Type 0) (from to : Image) (source target : Session) (is_new : Bool) (walk : ℕ) → (from_tells → Walks from (root_of source) 0 walk) → ReadsFilled from_tells to_tells from to source target is_new walk 0
filled_walked from_tells to_tells from to source target is_new walk walks = record {
  first = λ told. walks_more from (root_of source) 0 (21 * (root_of source).mapped) walk walk (omega arith) (walks told);
  second = λ told. walks_none to (root_of target) (40 * (root_of source).mapped) 0 (omega arith);
  compared = λ told never written. walks_none to (root_of target) (21 * (root_of source).mapped) 0 (omega arith);
  new = λ is. omega arith;
}

pub filled_none : (from_tells to_tells : Type 0) (from to : Image) (source target : Session) (is_new : Bool) → ReadsFilled from_tells to_tells from to source target is_new 0 0
filled_none from_tells to_tells from to source target is_new = filled_walked from_tells to_tells from to source target is_new 0 (λ told. walks_none from (root_of source) 0 0 (omega arith))

-- ---- a move

-- the second cell was looked at alone
pub few_unopened : {S R : Type 0} (P : PlatformGhosts S) (Q : PlatformGhosts R) (first : S) (second second_now : R)
    → (Q.tells → (Q.reads second_now ≤ Q.reads second + 3) × (((Q.history second).present.cell ≡ None → ⊥) → Q.reads second_now ≤ Q.reads second + 1)) → ReadsFew P Q 0 first first second second_now
few_unopened P Q first second second_now looks = record {
  blocks = 0;
  mapped = λ told. inl refl;
  from = λ told. inl (omega arith);
  new = λ told none. (let most = (looks told).0 in omega (arith, most));
  found = λ told full. inl ((looks told).1 full);
  compared = λ told root at written. inl ((looks told).1 (λ none. not_empty (Q.history second).present root at none));
  unlike = λ from_told to_told apart. (omega arith, (looks to_told).1 (λ none. not_empty (Q.history second).present apart.1 apart.3 none));
}

-- a session was opened on the second device, and it was filled
pub few_filled : {S R : Type 0} (P : PlatformGhosts S) (Q : PlatformGhosts R) (first first_now : S) (second mid second_now : R) (source target : Session) (is_new : Bool) (few most : ℕ) → target.mapped ≡ target.root.mapped → (P.tells → IsRootOf (P.history first).present source.root)
    → (Q.tells → IsOn (Q.history second).present source.root.blocks source.root.order is_new target) → (Q.tells → (Q.reads mid ≤ Q.reads second + 3) × (((Q.history second).present.cell ≡ None → ⊥) → Q.reads mid ≤ Q.reads second + 1))
    → (Q.tells → (IsTrue is_new → ⊥) → (Q.history mid).present ≡ (Q.history second).present) → (P.tells → P.reads first_now ≤ P.reads first + few) → (Q.tells → Q.reads second_now ≤ Q.reads mid + most)
    → ReadsFilled P.tells Q.tells (P.history first).present (Q.history mid).present source target is_new few most → ((AreAlike source.root target.root → ⊥) → (first_now ≡ first) × (second_now ≡ mid)) → ReadsFew P Q 0 first first_now second second_now
few_filled P Q first first_now second mid second_now source target true few most idle at on looks still reads reads_to filled unlike = record {
  blocks = source.root.mapped;
  mapped = λ told. inr (source.root, (at told).cell, refl);
  from = λ told.
      let walk = filled.first told in
      let within = walk.within in
      let less = reads told in
      inr (record { root = source.root; is_root = at told; nodes = walk.nodes; are = walk.are; within = omega (arith, within, less) });
  new = λ told none.
      let most_less = filled.new refl in
      let less = reads_to told in
      let looked = (looks told).0 in
      omega (arith, most_less, less, looked);
  found = λ told full. absurd (full (on told).0);
  compared = λ told root is written. absurd (not_empty (Q.history second).present root is (on told).0);
  unlike = λ from_told to_told apart. absurd (not_empty (Q.history second).present apart.1 apart.3 (on to_told).0);
}
few_filled P Q first first_now second mid second_now source target false few most idle at on looks still reads reads_to filled unlike = record {
  blocks = source.root.mapped;
  mapped = λ told. inr (source.root, (at told).cell, refl);
  from = λ told.
      let walk = filled.first told in
      let within = walk.within in
      let less = reads told in
      inr (record { root = source.root; is_root = at told; nodes = walk.nodes; are = walk.are; within = omega (arith, within, less) });
  new = λ told none. absurd (not_empty (Q.history second).present target.root (on told) none);
  found = λ told full.
      let walk = walks_as (Q.history second).present (Q.history mid).present target.root (40 * source.root.mapped) most (still told (λ never. absurd cc)) (filled.second told) in
      let within = walk.within in
      let less = reads_to told in
      let looked = (looks told).1 full in
      inr (record { root = target.root; is_root = on told; nodes = walk.nodes; are = walk.are; within = omega (arith, within, less, looked) });
  compared = λ told root is written.
      let same : target.root ≡ root = one_in (Q.history second).present target.root root (on told) is in
      let there = subst (λ (r : Root). (r.commit ≡ 0) × (r.mapped ≡ 0) → ⊥) (sym same) written in
      let walk = walks_as (Q.history second).present (Q.history mid).present target.root (21 * source.root.mapped) most (still told (λ never. absurd cc)) (filled.compared told (λ never. absurd cc) (λ fresh. there (fresh.0, sym idle ∙ fresh.1))) in
      let within = walk.within in
      let less = reads_to told in
      let looked = (looks told).1 (λ none. not_empty (Q.history second).present root is none) in
      inr (record { root = target.root; is_root = on told; nodes = walk.nodes; are = walk.are; within = omega (arith, within, less, looked) });
  unlike = λ from_told to_told apart.
      let one : source.root ≡ apart.0 = one_in (P.history first).present source.root apart.0 (at from_told) apart.2 in
      let other : target.root ≡ apart.1 = one_in (Q.history second).present target.root apart.1 (on to_told) apart.3 in
      let same = unlike (λ alike. apart.4 (subst (λ (r : Root). AreAlike r apart.1) one (subst (AreAlike source.root) other alike))) in
      let looked = (looks to_told).1 (λ none. not_empty (Q.history second).present target.root (on to_told) none) in
      let from_same : P.reads first_now ≡ P.reads first = ap P.reads same.0 in
      let to_same : Q.reads second_now ≡ Q.reads mid = ap Q.reads same.1 in
      (omega (arith, from_same), omega (arith, looked, to_same));
}

-- behind a look at the first cell
pub few_behind : {S R : Type 0} (P : PlatformGhosts S) (Q : PlatformGhosts R) (first mid first_now : S) (second second_now : R) → Looks P first mid → (P.tells → P.reads mid ≤ P.reads first + 1) → ReadsFew P Q 0 mid first_now second second_now → ReadsFew P Q 1 first first_now second second_now
few_behind P Q first mid first_now second second_now looks looked few = record {
  blocks = few.blocks;
  mapped = λ told. subst (λ (i : Image). (few.blocks ≡ 0) ⊎ HasMapped i few.blocks) (looks.image told) (few.mapped told);
  from = λ told. once (P.history first).present (P.history mid).present (21 * few.blocks) (P.reads first) (P.reads mid) (P.reads first_now) (looks.image told) (looked told) (few.from told);
  new = few.new;
  found = few.found;
  compared = few.compared;
  unlike = λ from_told to_told apart.
      let less = few.unlike from_told to_told (subst (λ (i : Image). AreUnlike i (Q.history second).present) (sym (looks.image from_told)) apart) in
      let from_less = less.0 in
      let one = looked from_told in
      (omega (arith, from_less, one), less.1);
}
  where
    once : (image later : Image) (beside reads mid_reads reads_now : ℕ) → later ≡ image → mid_reads ≤ reads + 1 → ReadsOnce later 0 beside mid_reads reads_now → ReadsOnce image 1 beside reads reads_now
    once image later beside reads mid_reads reads_now same less (inl none) = inl (omega (arith, less, none))
    once image later beside reads mid_reads reads_now same less (inr walk) =
        let within = walk.within in
        inr (record { root = walk.root; is_root = subst (λ (i : Image). IsRootOf i walk.root) same walk.is_root; nodes = walk.nodes; are = subst (λ (i : Image). AreFirstNodes i walk.root walk.nodes) same walk.are; within = omega (arith, within, less) })

-- that came to nothing
pub few_stopped : {S R : Type 0} (P : PlatformGhosts S) (Q : PlatformGhosts R) (first first_now : S) (second : R) → (P.tells → P.reads first_now ≤ P.reads first + 1) → ReadsFew P Q 1 first first_now second second
few_stopped P Q first first_now second looked = record {
  blocks = 0;
  mapped = λ told. inl refl;
  from = λ told. inl (looked told);
  new = λ told none. omega arith;
  found = λ told full. inl (omega arith);
  compared = λ told root is written. inl (omega arith);
  unlike = λ from_told to_told apart. (looked from_told, omega arith);
}

-- before the first cell is cleared
pub few_cleared : {S R : Type 0} (P : PlatformGhosts S) (Q : PlatformGhosts R) (looks : ℕ) (first mid first_now : S) (second second_now : R) → (P.tells → P.reads first_now ≡ P.reads mid) → ReadsFew P Q looks first mid second second_now → ReadsFew P Q looks first first_now second second_now
few_cleared P Q looks first mid first_now second second_now same few = record {
  blocks = few.blocks;
  mapped = few.mapped;
  from = λ told. subst (ReadsOnce (P.history first).present looks (21 * few.blocks) (P.reads first)) (sym (same told)) (few.from told);
  new = few.new;
  found = few.found;
  compared = few.compared;
  unlike = λ from_told to_told apart. let less = few.unlike from_told to_told apart in
      (subst (λ (n : ℕ). n ≤ P.reads first + looks) (sym (same from_told)) less.0, less.1);
}
