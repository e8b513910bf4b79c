use Rattle.std.proofs.Common.{◌≡◌, ◌↔◌, ℕ, List, take, bit_xor, sym, subst, ◌∙◌, ap}
use Rattle.std.specs.Simd.Lanes.{zip2}
use Rattle.seal_record.specs.Keystream.{stream}
use Rattle.seal_record.specs.Sealing.{stamp_of, Opens}
use Rattle.seal_record.proofs.SealingLaws.{front_wanted, length-stamp_of}
use Rattle.seal_record.proofs.records.front_wanted.Goals as goal

pub returns : goal.returns
returns c =
    let mixed : c.xor_into.new.out ≡ zip2 bit_xor (take 16 c.args.page.now) (stamp_of c.args.addr) = c.xor_into.ensures ∙ ap (zip2 bit_xor (take 16 c.args.page.now)) c.stamp_at-front.ensures in
    λ key. subst (λ (front : List ℕ). (front ≡ take 16 (stream key)) ↔ Opens key c.args.addr c.args.page.now) (sym mixed)
    (front_wanted c.args.page.now key (stamp_of c.args.addr) c.requires (length-stamp_of c.args.addr))
