use Rattle.std.proofs.Common.{◌≡◌, ◌⊎◌, ℕ, suc, ◌+◌, ◌-◌, ◌*◌, ◌<◌, ◌≤◌, inl, inr, refl, sym, subst, ◌∙◌, arith}
use Rattle.std.specs.Prelude.{Contains, ◌∷◌}
use Rattle.std.proofs.lemmas.List.Elements.{Contains-append_right}
use Rattle.btree_twigs.specs.declared.twigs.Child.{Child}
use Rattle.btree_twigs.specs.Stubs.{Puts, datum, stubs, nodes}
use Rattle.btree_twigs.specs.Updates.{IsOpen}
use Rattle.btree_twigs.specs.Levels.{rows_at, Reshape}
use Rattle.btree_twigs.specs.Top.{IsTop, child_level, CanPutTop}
use Rattle.btree_twigs.proofs.LevelLaws.{reshape_from}
use Rattle.btree_twigs.proofs.Tops.{top_level}
use Rattle.btree_update.specs.Tells.{Tells}
use Rattle.btree_update.proofs.RowLaws.{all_weaker, tells_opened, tells_puts}
use Rattle.btree_update.specs.declared.groves.Grove.{Grove}
use Rattle.btree_update.specs.GroveTree.{want_in, Maps}
use Rattle.btree_update.specs.Held.{AreBelow, AnyRead}
use Rattle.btree_update.specs.Opens.{HasWay, IsThere, Fitting}
use Rattle.btree_update.specs.Roots.{IsRoot, RootMaps, CanOpenRoot, IsRootOpened}
use Rattle.btree_update.specs.Groves.{CanInsert, IsAddressOf, LetsGo}
use Rattle.btree_update.proofs.Places.{puts_maps}
use Rattle.btree_update.proofs.GroveLaws.{top_is_root, top_maps, above_it, puts_below}
use Rattle.btree_update.specs.Beside.{Anywhere}
use Rattle.btree_update.proofs.DatumLaws.{root_has}
use Rattle.btree_update.proofs.groves.Grove.insert.Goals as goal

abbrev can_open : (block : ℕ) (grove : Grove) → CanInsert block grove → CanOpenRoot grove.level block grove.held.items grove.top
can_open block grove can = record {
  order = grove.order;
  below = grove.level - 1;
  level_is = above_it grove.level can.sound.one;
  high = grove.blocks;
  shaped = can.sound.shaped;
  to = can.to;
  at_hand = can.at_hand;
}

abbrev can_put : (block : ℕ) (grove : Grove) (top : Child) → CanInsert block grove → grove.level < 255 → IsRootOpened grove.order (grove.level - 1) block grove.blocks top → CanPutTop grove.order block grove.spares.items top
can_put block grove top can small o = record {
  level = grove.level - 1;
  small = omega (arith, small, can.sound.one);
  high = grove.blocks;
  shaped = o.shaped;
  to = can.to;
  is_open = o.is_open;
  enough = record { many = omega (arith, can.spares.many, can.sound.one); each = can.spares.each };
}

one_less : (a b : ℕ) → a ≡ suc b → a - 1 ≡ b
one_less a b e = omega (arith, e)

pub let_go-requires-clause-gone_room : goal.let_go-requires-clause-gone_room
let_go-requires-clause-gone_room c = omega (arith, c.requires.can.gone_room, c.open_root.ensures.spare, c.open_root.ensures.capacity)

pub put_top-requires-clause-can : goal.put_top-requires-clause-can
put_top-requires-clause-can c = can_put c.args.block c.args.self.now c.open_root.new.top c.requires.can c.requires.small (c.open_root.ensures.opened (can_open c.args.block c.args.self.now c.requires.can))

pub returns-clause-sound : goal.returns-clause-sound
returns-clause-sound c =
    let p = c.put_top.ensures.put (can_put c.args.block c.args.self.now c.open_root.new.top c.requires.can c.requires.small (c.open_root.ensures.opened (can_open c.args.block c.args.self.now c.requires.can))) in
    let l = c.level_of-self.ensures ∙ top_level c.args.self.now.order p.new_level c.args.self.now.blocks c.put_top.new.top p.shaped in
    record {
      least = c.requires.can.sound.least;
      most = c.requires.can.sound.most;
      one = omega (arith, l);
      shaped = subst (λ m. IsRoot c.args.self.now.order m c.args.self.now.blocks c.put_top.new.top) (sym (one_less c.level_of-self.result p.new_level l)) (top_is_root c.args.self.now.order p.new_level c.args.self.now.blocks c.put_top.new.top p.shaped);
      spares = c.put_top.ensures.spares;
    }

pub returns-clause-top : goal.returns-clause-top
returns-clause-top c =
    let p = c.put_top.ensures.put (can_put c.args.block c.args.self.now c.open_root.new.top c.requires.can c.requires.small (c.open_root.ensures.opened (can_open c.args.block c.args.self.now c.requires.can))) in
    let l = c.level_of-self.ensures ∙ top_level c.args.self.now.order p.new_level c.args.self.now.blocks c.put_top.new.top p.shaped in
    subst (λ n. IsTop c.args.self.now.order n c.args.self.now.blocks c.put_top.new.top) (sym (one_less c.level_of-self.result p.new_level l)) p.shaped

level_by : (level new_level new : ℕ) → 1 ≤ level → (new_level ≡ level - 1) ⊎ (new_level ≡ suc (level - 1)) → new ≡ suc new_level → (new ≡ level) ⊎ (new ≡ level + 1)
level_by level new_level new one (inl e) is = inl (omega (arith, one, e, is))
level_by level new_level new one (inr e) is = inr (omega (arith, one, e, is))

pub returns-clause-level : goal.returns-clause-level
returns-clause-level c =
    let grove = c.args.self.now in
    let can = can_open c.args.block grove c.requires.can in
    let o = c.open_root.ensures.opened can in
    let mid = c.open_root.new.top in
    let put_at = can_put c.args.block grove mid c.requires.can c.requires.small o in
    let p = c.put_top.ensures.put put_at in
    record {
      rises = level_by grove.level p.new_level c.level_of-self.result c.requires.can.sound.one p.level_is (c.level_of-self.ensures ∙ top_level grove.order p.new_level grove.blocks c.put_top.new.top p.shaped);
      stays = λ remove.
          (let helps = c.open_root.ensures.helps can Anywhere grove.beside.items remove.loses remove.beside in
          let has = root_has AnyRead grove.order c.args.block (grove.level - 1) grove.blocks mid c.open_root.new.held.items grove.beside.items remove.loses o.shaped c.requires.can.to o.is_open helps in
          c.level_of-self.ensures ∙ c.put_top.ensures.stays put_at has ∙ top_level grove.order (grove.level - 1) grove.blocks mid o.shaped ∙ sym can.level_is);
    }

pub returns-clause-has : goal.returns-clause-has
returns-clause-has c =
    let can = can_open c.args.block c.args.self.now c.requires.can in
    let blocks = c.args.self.now.blocks in
    let new = c.put_top.new.top in
    let p = c.put_top.ensures.put (can_put c.args.block c.args.self.now c.open_root.new.top c.requires.can c.requires.small (c.open_root.ensures.opened can)) in
    let l = c.level_of-self.ensures ∙ top_level c.args.self.now.order p.new_level blocks new p.shaped in
    let stub = datum c.args.block c.args.addr c.args.key in
    let has : Contains (stubs (suc p.new_level) blocks new) stub = subst (λ ss. Contains ss stub) (sym p.puts.now) (Contains-append_right p.puts.front (stub ∷ p.puts.back) stub (0, omega arith, refl)) in
    subst (λ k. Contains (stubs k blocks new) stub) (sym l) has

pub returns-clause-maps : goal.returns-clause-maps
returns-clause-maps c pages mapped content held m there =
    let can = can_open c.args.block c.args.self.now c.requires.can in
    let p = c.put_top.ensures.put (can_put c.args.block c.args.self.now c.open_root.new.top c.requires.can c.requires.small (c.open_root.ensures.opened can)) in
    let l = c.level_of-self.ensures ∙ top_level c.args.self.now.order p.new_level c.args.self.now.blocks c.put_top.new.top p.shaped in
    let opened = subst (λ k. Maps pages c.args.self.now.order (stubs k c.args.self.now.blocks c.open_root.new.top) mapped) can.level_is (c.open_root.ensures.maps pages can held mapped m) in
    let r = puts_maps pages c.args.self.now.order 0 c.args.self.now.blocks c.args.block c.args.addr c.args.key content _ _ mapped p.puts opened there in
    let root = top_maps pages c.args.self.now.order p.new_level c.args.self.now.blocks c.put_top.new.top r.0 p.shaped r.1 in
    (r.0, subst (λ k. RootMaps pages c.args.self.now.order k c.args.self.now.blocks c.put_top.new.top r.0) (sym (one_less c.level_of-self.result p.new_level l)) root, r.2)

pub returns-clause-goes : goal.returns-clause-goes
returns-clause-goes c pages held =
    let can = can_open c.args.block c.args.self.now c.requires.can in
    let o = c.open_root.ensures.opened can in
    let want = want_in c.args.self.now.order c.args.self.now.level in
    let g = c.open_root.ensures.gives pages can held in
    let blocks = c.args.self.now.blocks in
    let mid = c.open_root.new.top in
    let p = c.put_top.ensures.put (can_put c.args.block c.args.self.now mid c.requires.can c.requires.small o) in
    let l = c.level_of-self.ensures ∙ top_level c.args.self.now.order p.new_level blocks c.put_top.new.top p.shaped in
    let there = subst (λ k. Puts 0 blocks (datum c.args.block c.args.addr c.args.key) (stubs (suc (c.args.self.now.level - 1)) blocks mid) (stubs k blocks c.put_top.new.top)) (sym l) p.puts in
    let makes = subst (λ k. Puts 0 blocks (datum c.args.block c.args.addr c.args.key) (stubs k blocks mid) (stubs c.level_of-self.result blocks c.put_top.new.top)) (sym can.level_is) there in
    record {
      opened = stubs c.args.self.now.level c.args.self.now.blocks c.open_root.new.top;
      places = g.places.places;
      opens = g.places.opens;
      may = all_weaker (Fitting pages want (HasWay c.args.block)) (HasWay c.args.block) (λ s k. k.0) g.places.places g.places.may;
      fit = all_weaker (Fitting pages want (HasWay c.args.block)) (λ s. IsThere pages (want s) s.key) (λ s k. k.1) g.places.places g.places.may;
      is_open = subst (λ k. IsOpen c.args.block (stubs k c.args.self.now.blocks c.open_root.new.top)) (sym can.level_is) o.is_open;
      makes = makes;
      replaced = c.address_of-old.result;
      was = subst (λ k. IsAddressOf c.args.block (stubs k c.args.self.now.blocks c.open_root.new.top) c.address_of-old.result) (sym can.level_is)
          (c.address_of-old.ensures c.args.self.now.order (c.args.self.now.level - 1) o.shaped c.requires.can.to o.is_open);
      goes = subst (λ g'. LetsGo c.args.self.now.head c.args.block c.address_of-old.result g' c.let_go.new.gone.items c.args.self.now.never.items c.let_go.new.never.items) g.places.more_is c.let_go.ensures.lets_go;
    }

pub returns-clause-levels : goal.returns-clause-levels
returns-clause-levels c pages levels held has =
    let can = can_open c.args.block c.args.self.now c.requires.can in
    let blocks = c.args.self.now.blocks in
    let mid = c.open_root.new.top in
    let new = c.put_top.new.top in
    let put_at = can_put c.args.block c.args.self.now mid c.requires.can c.requires.small (c.open_root.ensures.opened can) in
    let p = c.put_top.ensures.put put_at in
    let g = c.open_root.ensures.gives pages can held in
    let tells = tells_opened pages has.medium c.args.self.now.order g.places.places _ _ g.places.opens has.told in
    let told = tells_puts pages has.medium 0 blocks c.args.block c.args.addr c.args.key _ _ p.puts (subst (λ k. Tells pages has.medium (stubs k blocks mid)) can.level_is tells) in
    let l = c.level_of-self.ensures ∙ top_level c.args.self.now.order p.new_level blocks new p.shaped in
    let was : (j : ℕ) → levels j ≡ rows_at has.medium c.args.self.now.level blocks mid j = λ j. has.are j ∙ sym (g.rows has.medium has.told j) in
    let r = subst (λ k. Reshape c.args.self.now.order c.args.block k (child_level new) (rows_at has.medium k blocks mid) (rows_at has.medium (child_level new) blocks new)) (sym can.level_is) (c.put_top.ensures.levels has.medium has.bounds put_at) in
    let s = subst (λ k. Reshape c.args.self.now.order c.args.block c.args.self.now.level k (rows_at has.medium c.args.self.now.level blocks mid) (rows_at has.medium k blocks new)) (sym c.level_of-self.ensures) r in (
      rows_at has.medium c.level_of-self.result blocks new,
      record {
        medium = has.medium;
        bounds = has.bounds;
        told = subst (λ k. Tells pages has.medium (stubs k blocks new)) (sym l) told;
        are = λ j. refl;
      },
      reshape_from c.args.self.now.order c.args.block c.args.self.now.level c.level_of-self.result _ _ levels was s,
    )

pub returns-clause-grown : goal.returns-clause-grown
returns-clause-grown c =
    let can = can_open c.args.block c.args.self.now c.requires.can in
    let p = c.put_top.ensures.put (can_put c.args.block c.args.self.now c.open_root.new.top c.requires.can c.requires.small (c.open_root.ensures.opened can)) in
    let l = c.level_of-self.ensures ∙ top_level c.args.self.now.order p.new_level c.args.self.now.blocks c.put_top.new.top p.shaped in
    let few = subst (λ k. nodes (suc p.new_level) c.put_top.new.top ≤ nodes k c.open_root.new.top + (c.args.self.now.level - 1 + 2)) (sym can.level_is) p.few in
    let r : nodes (suc p.new_level) c.put_top.new.top ≤ nodes c.args.self.now.level c.args.self.now.top + (2 * c.args.self.now.level + 1)
    = omega (arith, few, c.open_root.ensures.nodes can, c.requires.can.sound.one) in
    subst (λ k. nodes k c.put_top.new.top ≤ nodes c.args.self.now.level c.args.self.now.top + (2 * c.args.self.now.level + 1)) (sym l) r

pub returns-clause-below : goal.returns-clause-below
returns-clause-below c most below lt same =
    let can = can_open c.args.block c.args.self.now c.requires.can in
    let p = c.put_top.ensures.put (can_put c.args.block c.args.self.now c.open_root.new.top c.requires.can c.requires.small (c.open_root.ensures.opened can)) in
    let l = c.level_of-self.ensures ∙ top_level c.args.self.now.order p.new_level c.args.self.now.blocks c.put_top.new.top p.shaped in
    let opened = subst (λ k. AreBelow most (stubs k c.args.self.now.blocks c.open_root.new.top)) can.level_is (c.open_root.ensures.below most can below) in
    subst (λ k. AreBelow most (stubs k c.args.self.now.blocks c.put_top.new.top)) (sym l) (puts_below 0 c.args.self.now.blocks c.args.block c.args.addr most _ _ _ p.puts opened lt same)
