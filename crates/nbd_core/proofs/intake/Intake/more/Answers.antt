use Rattle.std.proofs.Common.{◌≡◌, ◌+◌, ◌-◌, ◌++◌, ◌∙◌, ap, take, drop, List, ℕ, arith, length}
use Rattle.std.proofs.lemmas.List.{with_items_is}
use Rattle.std.specs.Vec.{with_items}
use Rattle.nbd_core.specs.Room.{Room}
use Rattle.nbd_core.proofs.intake.Intake.more.Goals as goal

pub returns-clause-takes : goal.returns-clause-takes
returns-clause-takes g c =
    let s = c.self.inside in
    let here : ℕ = s.to - s.from in
    let old : List ℕ = c.args.self.now.ahead in
    let is : take here (drop s.from s.room.items) ≡ old = ap (λ (r : Room). r.ahead) c.self.view_is in
    let got = c.in-Ok.ensures.taken in
    let r2 : List ℕ = c.take_behind.new.room in
    record {
      taken = got.0;
      gave = got.2;
      is =
          let r1 : List ℕ = c.settle.new.room in
          let room : c.deref_mut.result.now ≡ s.room.items = c.deref_mut.ensures.value in
          let size1 : length r1 ≡ s.room.len = omega (arith, c.settle.ensures.size, c.deref_mut.ensures.len) in
          let items1 = with_items_is s.room r1 size1 in
          let room1 : c.deref_mut-2.result.now ≡ r1 = c.deref_mut-2.ensures.value ∙ items1 in
          let size2 : length r2 ≡ s.room.len = omega (arith, c.in-Ok.ensures.size, ap length room1, size1) in
          let items2 = with_items_is (with_items s.room r1) r2 size2 in
          let front : take here c.deref_mut-2.result.now ≡ old = ap (take here) room1 ∙ c.settle.ensures.front ∙ ap (λ (l : List ℕ). take here (drop s.from l)) room ∙ is in
          let e : here + c.in-Ok.count - 0 ≡ here + c.in-Ok.count = omega arith in
          (ap (λ (n : ℕ). take n (with_items (with_items s.room r1) r2).items) e ∙ ap (take (here + c.in-Ok.count)) items2 ∙ got.3 ∙ ap (λ (l : List ℕ). l ++ got.0) front);
      piece = omega (arith, got.1, c.in-Ok.ensures.bound);
      count = omega (arith, got.1, ap (λ (r : Room). r.left) c.self.view_is, c.in-Ok.ensures.bound);
    }
