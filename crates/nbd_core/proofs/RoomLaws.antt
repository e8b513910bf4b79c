-- Bytes in a room.
use Rattle.std.proofs.Common.{◌≡◌, ◌+◌, ◌-◌, ◌≤◌, ℕ, List, ◌++◌, length, take, drop, sym, ap, ◌∙◌, arith, length-take, length-drop}
use Rattle.std.proofs.Math.Seq.{take-append-add}
use Rattle.std.proofs.lemmas.List.{take-append-le, take_all, drop-drop, drop-take}
use Rattle.std.specs.List.{copy_within}
use borrow.Rule.Slice.PartMut.{put_mid, post_of}

-- fewer of them
pub room_skip : (xs : List ℕ) (from to count : ℕ) → from + count ≤ to → take (to - (from + count)) (drop (from + count) xs) ≡ drop count (take (to - from) (drop from xs))
room_skip xs from to count within =
    let m : ℕ = to - (from + count) in
    let e : to - from ≡ count + m = omega (arith, within) in
    ap (take m) (sym (drop-drop count from xs)) ∙ sym (drop-take count m (drop from xs)) ∙ ap (λ (n : ℕ). drop count (take n (drop from xs))) (sym e)

-- those that were moved to the front
pub room_front : (xs : List ℕ) (from to : ℕ) → from ≤ to → to ≤ length xs → take (to - from) (copy_within xs from to 0) ≡ take (to - from) (drop from xs)
room_front xs from to up within =
    let h : ℕ = to - from in
    let part : List ℕ = take h (drop from xs) in
    let size : length part ≡ h = omega (arith, length-take h (drop from xs), length-drop from xs, up, within) in
    take-append-le h part (drop (0 + h) xs) (omega (arith, size)) ∙ take_all h part (omega (arith, size))

-- and more behind them
pub room_more : (xs into : List ℕ) (at k n : ℕ) → at ≤ length xs → n ≤ length into → take (at + n) (put_mid at k xs into) ≡ take at xs ++ take n into
room_more xs into at k n within less =
    let front : List ℕ = take at xs in
    let rest : List ℕ = into ++ post_of at k xs in
    let len : length front ≡ at = omega (arith, length-take at xs, within) in
    ap (λ (m : ℕ). take (m + n) (front ++ rest)) (sym len) ∙ take-append-add front rest n ∙ ap (λ (l : List ℕ). front ++ l) (take-append-le n into (post_of at k xs) less)
