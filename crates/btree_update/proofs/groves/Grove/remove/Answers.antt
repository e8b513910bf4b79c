use Rattle.std.proofs.Common.{◌≡◌, ◌⊎◌, ℕ, suc, ◌+◌, ◌-◌, ◌*◌, ◌≤◌, List, Bool, true, IsTrue, inl, inr, refl, sym, subst, ◌∙◌, arith}
use Rattle.btree_twigs.specs.declared.twigs.Child.{Child}
use Rattle.btree_twigs.specs.declared.twigs.Twig.{Twig}
use Rattle.btree_twigs.specs.Stubs.{Stub, Takes, stubs, nodes}
use Rattle.btree_twigs.specs.Updates.{IsOpen}
use Rattle.btree_twigs.specs.Levels.{rows_at, ReshapeDown}
use Rattle.btree_twigs.specs.Top.{IsTop, child_level, CanTakeTop}
use Rattle.btree_twigs.proofs.SinkLaws.{down_from}
use Rattle.btree_twigs.proofs.Tops.{top_level}
use Rattle.btree_update.specs.declared.groves.Grove.{Grove}
use Rattle.btree_update.specs.GroveTree.{want_in, Maps}
use Rattle.btree_update.specs.Held.{AreBelow, AnyRead, IsReadAs}
use Rattle.btree_update.specs.Tells.{Tells}
use Rattle.btree_update.specs.Opens.{HasWay, IsThere, Fitting, GivesChild}
use Rattle.btree_update.specs.Roots.{IsRoot, RootMaps, CanOpenRoot, IsRootOpened}
use Rattle.btree_update.specs.Beside.{HelpsFrom, IsReadWhere, Anywhere, Over}
use Rattle.btree_update.specs.Helping.{CanHelpRoot, MayHelp, HelpedRoot}
use Rattle.btree_update.specs.Groves.{CanRemove, IsAddressOf, LetsGo}
use Rattle.btree_update.proofs.Places.{takes_maps}
use Rattle.btree_update.proofs.OpenMaps.{opened_maps}
use Rattle.btree_update.proofs.RowLaws.{all_weaker, tells_opened, tells_takes}
use Rattle.btree_update.proofs.ThereLaws.{fits_top}
use Rattle.btree_update.proofs.GivesLaws.{gives_then, gives_weaker}
use Rattle.btree_update.proofs.HelpingLaws.{from_weaker}
use Rattle.btree_update.proofs.GroveLaws.{top_is_root, top_maps, above_it, takes_below}
use Rattle.btree_update.proofs.groves.Grove.remove.Goals as goal

abbrev can_open : (block : ℕ) (grove : Grove) → CanRemove block grove → CanOpenRoot grove.level block grove.held.items grove.top
can_open block grove can = record {
  order = grove.order;
  below = grove.level - 1;
  level_is = above_it grove.level can.sound.one;
  high = grove.blocks;
  shaped = can.sound.shaped;
  to = can.to;
  at_hand = can.at_hand;
}

abbrev can_help : (block : ℕ) (grove : Grove) (top : Child) (held : List Twig) (can : CanRemove block grove) → IsRootOpened grove.order (grove.level - 1) block grove.blocks top →
    HelpsFrom AnyRead grove.order block (grove.level - 1) grove.blocks top held grove.beside.items can.loses → CanHelpRoot grove.level block grove.beside.items top
can_help block grove top held can o h = record {
  order = grove.order;
  below = grove.level - 1;
  level_is = above_it grove.level can.sound.one;
  high = grove.blocks;
  four = can.sound.least;
  shaped = o.shaped;
  to = can.to;
  is_open = o.is_open;
  held = held;
  loses = can.loses;
  helps = h;
}

abbrev can_take : (block : ℕ) (grove : Grove) (old top : Child) (gone more : List ℕ) (can : CanRemove block grove) → HelpedRoot grove.order (grove.level - 1) grove.blocks block can.loses old top grove.beside.items gone more → CanTakeTop grove.order block top
can_take block grove old top gone more can h = record {
  level = grove.level - 1;
  high = grove.blocks;
  shaped = h.shaped;
  to = can.to;
  is_open = h.is_open;
  loses = can.loses;
  helps = h.helps;
}

one_less : (a b : ℕ) → a ≡ suc b → a - 1 ≡ b
one_less a b e = omega (arith, e)

pub help_root-requires : goal.help_root-requires
help_root-requires c =
    let can = can_open c.args.block c.args.self.now c.requires.can in
    record {
      can = can_help c.args.block c.args.self.now c.open_root.new.top c.open_root.new.held.items c.requires.can (c.open_root.ensures.opened can) (c.open_root.ensures.helps can Anywhere c.args.self.now.beside.items c.requires.can.loses c.requires.can.beside);
      room = omega (arith, c.requires.can.gone_room, c.open_root.ensures.spare, c.open_root.ensures.capacity);
    }

pub let_go-requires-clause-gone_room : goal.let_go-requires-clause-gone_room
let_go-requires-clause-gone_room c = omega (arith, c.requires.can.gone_room, c.open_root.ensures.spare, c.open_root.ensures.capacity, c.help_root.ensures.spare, c.help_root.ensures.capacity)

pub take_top-requires-clause-can : goal.take_top-requires-clause-can
take_top-requires-clause-can c =
    let can = can_open c.args.block c.args.self.now c.requires.can in
    let h = c.help_root.ensures.helped (can_help c.args.block c.args.self.now c.open_root.new.top c.open_root.new.held.items c.requires.can (c.open_root.ensures.opened can) (c.open_root.ensures.helps can Anywhere c.args.self.now.beside.items c.requires.can.loses c.requires.can.beside)) in
    can_take c.args.block c.args.self.now c.open_root.new.top c.help_root.new.top _ _ c.requires.can h

pub returns-clause-sound : goal.returns-clause-sound
returns-clause-sound c =
    let can = can_open c.args.block c.args.self.now c.requires.can in
    let h = c.help_root.ensures.helped (can_help c.args.block c.args.self.now c.open_root.new.top c.open_root.new.held.items c.requires.can (c.open_root.ensures.opened can) (c.open_root.ensures.helps can Anywhere c.args.self.now.beside.items c.requires.can.loses c.requires.can.beside)) in
    let p = c.take_top.ensures.taken (can_take c.args.block c.args.self.now c.open_root.new.top c.help_root.new.top _ _ c.requires.can h) in
    let l = c.level_of-self.ensures ∙ top_level c.args.self.now.order p.new_level c.args.self.now.blocks c.take_top.new.top p.shaped in
    record {
      least = c.requires.can.sound.least;
      most = c.requires.can.sound.most;
      one = omega (arith, l);
      shaped = subst (λ m. IsRoot c.args.self.now.order m c.args.self.now.blocks c.take_top.new.top) (sym (one_less c.level_of-self.result p.new_level l)) (top_is_root c.args.self.now.order p.new_level c.args.self.now.blocks c.take_top.new.top p.shaped);
      spares = c.requires.can.sound.spares;
    }

level_by : (level new_level new : ℕ) → 1 ≤ level → (new_level ≡ level - 1) ⊎ (suc new_level ≡ level - 1) → new ≡ suc new_level → (new ≡ level) ⊎ (new + 1 ≡ level)
level_by level new_level new one (inl e) is = inl (omega (arith, one, e, is))
level_by level new_level new one (inr e) is = inr (omega (arith, one, e, is))

pub returns-clause-top : goal.returns-clause-top
returns-clause-top c =
    let can = can_open c.args.block c.args.self.now c.requires.can in
    let h = c.help_root.ensures.helped (can_help c.args.block c.args.self.now c.open_root.new.top c.open_root.new.held.items c.requires.can (c.open_root.ensures.opened can) (c.open_root.ensures.helps can Anywhere c.args.self.now.beside.items c.requires.can.loses c.requires.can.beside)) in
    let p = c.take_top.ensures.taken (can_take c.args.block c.args.self.now c.open_root.new.top c.help_root.new.top _ _ c.requires.can h) in
    let l = c.level_of-self.ensures ∙ top_level c.args.self.now.order p.new_level c.args.self.now.blocks c.take_top.new.top p.shaped in
    subst (λ n. IsTop c.args.self.now.order n c.args.self.now.blocks c.take_top.new.top) (sym (one_less c.level_of-self.result p.new_level l)) p.shaped

pub returns-clause-level : goal.returns-clause-level
returns-clause-level c =
    let can = can_open c.args.block c.args.self.now c.requires.can in
    let h = c.help_root.ensures.helped (can_help c.args.block c.args.self.now c.open_root.new.top c.open_root.new.held.items c.requires.can (c.open_root.ensures.opened can) (c.open_root.ensures.helps can Anywhere c.args.self.now.beside.items c.requires.can.loses c.requires.can.beside)) in
    let p = c.take_top.ensures.taken (can_take c.args.block c.args.self.now c.open_root.new.top c.help_root.new.top _ _ c.requires.can h) in
    level_by c.args.self.now.level p.new_level c.level_of-self.result c.requires.can.sound.one p.level_is (c.level_of-self.ensures ∙ top_level c.args.self.now.order p.new_level c.args.self.now.blocks c.take_top.new.top p.shaped)

-- wherever a neighbour's node was read
abbrev anywhere : Stub → Bool
anywhere s = true

pub returns-clause-maps : goal.returns-clause-maps
returns-clause-maps c pages mapped held beside m =
    let can = can_open c.args.block c.args.self.now c.requires.can in
    let h = c.help_root.ensures.helped (can_help c.args.block c.args.self.now c.open_root.new.top c.open_root.new.held.items c.requires.can (c.open_root.ensures.opened can) (c.open_root.ensures.helps can Anywhere c.args.self.now.beside.items c.requires.can.loses c.requires.can.beside)) in
    let p = c.take_top.ensures.taken (can_take c.args.block c.args.self.now c.open_root.new.top c.help_root.new.top _ _ c.requires.can h) in
    let l = c.level_of-self.ensures ∙ top_level c.args.self.now.order p.new_level c.args.self.now.blocks c.take_top.new.top p.shaped in
    let opened = subst (λ k. Maps pages c.args.self.now.order (stubs k c.args.self.now.blocks c.open_root.new.top) mapped) can.level_is (c.open_root.ensures.maps pages can held mapped m) in
    let asks = from_weaker (IsReadAs pages c.args.self.now.order) (IsReadWhere pages anywhere c.args.self.now.order) (λ l s t r. (r, refl)) c.args.self.now.order c.args.block (c.args.self.now.level - 1) c.args.self.now.blocks c.args.self.now.top _ _ beside.0 beside.1 in
    let g = h.gives pages anywhere c.open_root.new.held.items beside.0 (c.open_root.ensures.helps can (Over pages anywhere) c.args.self.now.beside.items beside.0 asks) in
    let helped = opened_maps pages c.args.self.now.order g.places.places _ _ mapped g.places.opens opened in
    let r = takes_maps pages c.args.self.now.order 0 c.args.self.now.blocks c.args.block _ _ mapped p.takes helped in
    let root = top_maps pages c.args.self.now.order p.new_level c.args.self.now.blocks c.take_top.new.top r.0 p.shaped r.1 in
    (r.0, subst (λ k. RootMaps pages c.args.self.now.order k c.args.self.now.blocks c.take_top.new.top r.0) (sym (one_less c.level_of-self.result p.new_level l)) root, r.2)

pub returns-clause-goes : goal.returns-clause-goes
returns-clause-goes c pages may held beside =
    let can = can_open c.args.block c.args.self.now c.requires.can in
    let h = c.help_root.ensures.helped (can_help c.args.block c.args.self.now c.open_root.new.top c.open_root.new.held.items c.requires.can (c.open_root.ensures.opened can) (c.open_root.ensures.helps can Anywhere c.args.self.now.beside.items c.requires.can.loses c.requires.can.beside)) in
    let first = c.open_root.ensures.gives pages can held in
    let second = subst (λ k. GivesChild pages c.args.self.now.order (MayHelp pages c.args.self.now.order may) k c.args.self.now.blocks c.open_root.new.top c.help_root.new.top c.open_root.new.gone.items c.help_root.new.gone.items) (sym can.level_is)
    (h.gives pages may c.open_root.new.held.items beside.0 (c.open_root.ensures.helps can (Over pages may) c.args.self.now.beside.items beside.0 beside.1)) in
    let Might : Stub → Type 0 = λ s. HasWay c.args.block s ⊎ IsTrue (may s) in
    let want = want_in c.args.self.now.order c.args.self.now.level in
    let helped = fits_top pages c.args.self.now.order (c.args.self.now.level - 1) c.args.self.now.level c.args.self.now.blocks (λ s. IsTrue (may s)) c.open_root.new.top _ _ _ can.level_is (c.open_root.ensures.opened can).shaped second.places in
    let g = gives_then pages c.args.self.now.order (Fitting pages want Might) _ _ _ _ _ _
    (gives_weaker pages c.args.self.now.order (Fitting pages want (HasWay c.args.block)) (Fitting pages want Might) (λ s k. (inl k.0, k.1)) _ _ _ _ first.places)
    (gives_weaker pages c.args.self.now.order (Fitting pages want (λ s. IsTrue (may s))) (Fitting pages want Might) (λ s k. (inr k.0, k.1)) _ _ _ _ helped) in
    let blocks = c.args.self.now.blocks in
    let mid = c.help_root.new.top in
    let p = c.take_top.ensures.taken (can_take c.args.block c.args.self.now c.open_root.new.top mid _ _ c.requires.can h) in
    let l = c.level_of-self.ensures ∙ top_level c.args.self.now.order p.new_level blocks c.take_top.new.top p.shaped in
    let there = subst (λ k. Takes 0 blocks c.args.block (stubs (suc (c.args.self.now.level - 1)) blocks mid) (stubs k blocks c.take_top.new.top)) (sym l) p.takes in
    record {
      opened = stubs c.args.self.now.level c.args.self.now.blocks c.help_root.new.top;
      places = g.places;
      opens = g.opens;
      may = all_weaker (Fitting pages want Might) Might (λ s k. k.0) g.places g.may;
      fit = all_weaker (Fitting pages want Might) (λ s. IsThere pages (want s) s.key) (λ s k. k.1) g.places g.may;
      is_open = subst (λ k. IsOpen c.args.block (stubs k c.args.self.now.blocks c.help_root.new.top)) (sym can.level_is) h.is_open;
      makes = subst (λ k. Takes 0 blocks c.args.block (stubs k blocks mid) (stubs c.level_of-self.result blocks c.take_top.new.top)) (sym can.level_is) there;
      replaced = c.address_of-addr.result;
      was = subst (λ k. IsAddressOf c.args.block (stubs k c.args.self.now.blocks c.help_root.new.top) c.address_of-addr.result) (sym can.level_is)
          (c.address_of-addr.ensures c.args.self.now.order (c.args.self.now.level - 1) h.shaped c.requires.can.to h.is_open);
      goes = subst (λ g'. LetsGo c.args.self.now.head c.args.block c.address_of-addr.result g' c.let_go.new.gone.items c.args.self.now.never.items c.let_go.new.never.items) g.more_is c.let_go.ensures.lets_go;
    }

pub returns-clause-levels : goal.returns-clause-levels
returns-clause-levels c pages levels held beside has =
    let can = can_open c.args.block c.args.self.now c.requires.can in
    let order = c.args.self.now.order in
    let level = c.args.self.now.level in
    let blocks = c.args.self.now.blocks in
    let mid = c.help_root.new.top in
    let new = c.take_top.new.top in
    let h = c.help_root.ensures.helped (can_help c.args.block c.args.self.now c.open_root.new.top c.open_root.new.held.items c.requires.can (c.open_root.ensures.opened can) (c.open_root.ensures.helps can Anywhere c.args.self.now.beside.items c.requires.can.loses c.requires.can.beside)) in
    let take_at = can_take c.args.block c.args.self.now c.open_root.new.top mid _ _ c.requires.can h in
    let p = c.take_top.ensures.taken take_at in
    let l = c.level_of-self.ensures ∙ top_level order p.new_level blocks new p.shaped in
    let asks = from_weaker (IsReadAs pages order) (IsReadWhere pages anywhere order) (λ l s t r. (r, refl)) order c.args.block (level - 1) blocks c.args.self.now.top _ _ beside.0 beside.1 in
    let first = c.open_root.ensures.gives pages can held in
    let second = subst (λ k. GivesChild pages order (MayHelp pages order anywhere) k blocks c.open_root.new.top mid c.open_root.new.gone.items c.help_root.new.gone.items) (sym can.level_is)
    (h.gives pages anywhere c.open_root.new.held.items beside.0 (c.open_root.ensures.helps can (Over pages anywhere) c.args.self.now.beside.items beside.0 asks)) in
    let tells = tells_opened pages has.medium order first.places.places _ _ first.places.opens has.told in
    let helped = tells_opened pages has.medium order second.places.places _ _ second.places.opens tells in
    let told = tells_takes pages has.medium 0 blocks c.args.block _ _ p.takes (subst (λ k. Tells pages has.medium (stubs k blocks mid)) can.level_is helped) in
    let was : (j : ℕ) → levels j ≡ rows_at has.medium level blocks mid j = λ j. has.are j ∙ sym (first.rows has.medium has.told j) ∙ sym (second.rows has.medium tells j) in
    let r = subst (λ k. ReshapeDown order c.args.block k (child_level new) (rows_at has.medium k blocks mid) (rows_at has.medium (child_level new) blocks new)) (sym can.level_is) (c.take_top.ensures.levels has.medium has.bounds take_at) in
    let s = subst (λ k. ReshapeDown order c.args.block level k (rows_at has.medium level blocks mid) (rows_at has.medium k blocks new)) (sym c.level_of-self.ensures) r in (
      rows_at has.medium c.level_of-self.result blocks new,
      record {
        medium = has.medium;
        bounds = has.bounds;
        told = subst (λ k. Tells pages has.medium (stubs k blocks new)) (sym l) told;
        are = λ j. refl;
      },
      down_from order c.args.block level c.level_of-self.result _ _ levels was s,
    )

pub returns-clause-below : goal.returns-clause-below
returns-clause-below c most below =
    let can = can_open c.args.block c.args.self.now c.requires.can in
    let h = c.help_root.ensures.helped (can_help c.args.block c.args.self.now c.open_root.new.top c.open_root.new.held.items c.requires.can (c.open_root.ensures.opened can) (c.open_root.ensures.helps can Anywhere c.args.self.now.beside.items c.requires.can.loses c.requires.can.beside)) in
    let p = c.take_top.ensures.taken (can_take c.args.block c.args.self.now c.open_root.new.top c.help_root.new.top _ _ c.requires.can h) in
    let l = c.level_of-self.ensures ∙ top_level c.args.self.now.order p.new_level c.args.self.now.blocks c.take_top.new.top p.shaped in
    let opened = subst (λ k. AreBelow most (stubs k c.args.self.now.blocks c.open_root.new.top)) can.level_is (c.open_root.ensures.below most can below) in
    subst (λ k. AreBelow most (stubs k c.args.self.now.blocks c.take_top.new.top)) (sym l) (takes_below 0 c.args.self.now.blocks c.args.block most _ _ p.takes (h.below_it most opened))

pub returns-clause-grown : goal.returns-clause-grown
returns-clause-grown c =
    let can = can_open c.args.block c.args.self.now c.requires.can in
    let h = c.help_root.ensures.helped (can_help c.args.block c.args.self.now c.open_root.new.top c.open_root.new.held.items c.requires.can (c.open_root.ensures.opened can) (c.open_root.ensures.helps can Anywhere c.args.self.now.beside.items c.requires.can.loses c.requires.can.beside)) in
    let p = c.take_top.ensures.taken (can_take c.args.block c.args.self.now c.open_root.new.top c.help_root.new.top _ _ c.requires.can h) in
    let l = c.level_of-self.ensures ∙ top_level c.args.self.now.order p.new_level c.args.self.now.blocks c.take_top.new.top p.shaped in
    let few = subst (λ k. nodes k c.open_root.new.top ≤ nodes c.args.self.now.level c.args.self.now.top + c.args.self.now.level) can.level_is (c.open_root.ensures.nodes can) in
    let r : nodes (suc p.new_level) c.take_top.new.top ≤ nodes c.args.self.now.level c.args.self.now.top + 2 * c.args.self.now.level
    = omega (arith, p.few, h.few, few, c.requires.can.sound.one) in
    subst (λ k. nodes k c.take_top.new.top ≤ nodes c.args.self.now.level c.args.self.now.top + 2 * c.args.self.now.level) (sym l) r
