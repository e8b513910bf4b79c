-- What writes, trims and commits make of the blocks of a session.
use Rattle.std.proofs.Common.{◌≡◌, ◌≢◌, ℕ, zero, suc, ◌+◌, ◌-◌, ◌<◌, ◌≤◌, List, ◌++◌, None, Some, length, refl, ap, ◌∙◌, arith, inl, inr, append-nil}
use Rattle.std.specs.Prelude.{◌⊎◌, Bool, true, false, cond, replicate, unwrap_or}
use Rattle.std.specs.FinMap as map
use Rattle.std.specs.FinMap.{get-insert, get-remove}
use Rattle.std.specs.Cmp.{nat_cmp_total, unsigned_tied}
use Rattle.std.proofs.lemmas.Bool.{ne_eqb, eq-eqb, cases_lt}
use Rattle.sdbt_base.specs.Arrays.{Blocks, Device, Session, content_of, committed_if, padded, written, unmapped}
use Rattle.byte_arrays.specs.Ranges.{blocks_from}
use Rattle.device_course.specs.Held.{trim_all}

-- ---- one block

get_put : (contents : Blocks) (block : ℕ) (bytes : List ℕ) → map.get (map.insert contents block bytes) block ≡ Some bytes
get_put contents block bytes =
    get-insert nat_cmp_total contents block bytes block ∙ ap (λ b. cond b (Some bytes) (map.get contents block)) (unsigned_tied block block ∙ eq-eqb block block refl)

get_put_apart : (contents : Blocks) (block other : ℕ) (bytes : List ℕ) → other ≢ block → map.get (map.insert contents block bytes) other ≡ map.get contents other
get_put_apart contents block other bytes apart =
    get-insert nat_cmp_total contents block bytes other ∙ ap (λ b. cond b (Some bytes) (map.get contents other)) (unsigned_tied other block ∙ ne_eqb other block apart)

pub get_unmapped : (contents : Blocks) (block : ℕ) → map.get (map.remove contents block) block ≡ None
get_unmapped contents block =
    get-remove nat_cmp_total contents block block ∙ ap (λ b. cond b None (map.get contents block)) (unsigned_tied block block ∙ eq-eqb block block refl)

pub get_unmapped_apart : (contents : Blocks) (block other : ℕ) → other ≢ block → map.get (map.remove contents block) other ≡ map.get contents other
get_unmapped_apart contents block other apart =
    get-remove nat_cmp_total contents block other ∙ ap (λ b. cond b None (map.get contents other)) (unsigned_tied other block ∙ ne_eqb other block apart)

-- blocks that are mapped alike hold the same
pub content_alike : (a b : Blocks) (block : ℕ) → map.get a block ≡ map.get b block → content_of a block ≡ content_of b block
content_alike a b block same = ap (λ o. unwrap_or o (replicate 4096 0)) same

pub content_unmapped : (contents : Blocks) (block : ℕ) → map.get contents block ≡ None → content_of contents block ≡ replicate 4096 0
content_unmapped contents block none = ap (λ o. unwrap_or o (replicate 4096 0)) none

pub content_written : (session : Session) (block : ℕ) (bytes : List ℕ) → content_of (written session block bytes).contents block ≡ padded bytes
content_written session block bytes = ap (λ o. unwrap_or o (replicate 4096 0)) (get_put session.contents block (padded bytes))

pub get_written_apart : (session : Session) (block other : ℕ) (bytes : List ℕ) → other ≢ block → map.get (written session block bytes).contents other ≡ map.get session.contents other
get_written_apart session block other bytes apart = get_put_apart session.contents block other (padded bytes) apart

pub content_trimmed : (session : Session) (block : ℕ) → content_of (unmapped session block).contents block ≡ replicate 4096 0
content_trimmed session block = content_unmapped (unmapped session block).contents block (get_unmapped session.contents block)

-- a whole block is not padded
pub padded_whole : (bytes : List ℕ) → length bytes ≡ 4096 → padded bytes ≡ bytes
padded_whole bytes len = let none : 4096 - length bytes ≡ 0 = omega (arith, len) in ap (λ (n : ℕ). bytes ++ replicate n 0) none ∙ append-nil bytes

-- ---- trims of blocks that follow one another

pub trims_outside : (session : Session) (first n block : ℕ) → (first + n ≤ block) ⊎ (block < first) → map.get (trim_all session (blocks_from first n)).contents block ≡ map.get session.contents block
trims_outside session first zero block apart = refl
trims_outside session first (suc n) block (inl behind) =
    trims_outside (unmapped session first) (first + 1) n block (inl (omega (arith, behind))) ∙ get_unmapped_apart session.contents first block (λ same. omega (arith, behind, same))
trims_outside session first (suc n) block (inr before) =
    trims_outside (unmapped session first) (first + 1) n block (inr (omega (arith, before))) ∙ get_unmapped_apart session.contents first block (λ same. omega (arith, before, same))

pub trims_inside : (session : Session) (first n block : ℕ) → first ≤ block → block < first + n → map.get (trim_all session (blocks_from first n)).contents block ≡ None
trims_inside session first zero block from below = absurd (omega (arith, from, below))
trims_inside session first (suc n) block from below =
    elim (cases_lt first block) [
      | inl behind ↦ trims_inside (unmapped session first) (first + 1) n block (omega (arith, behind)) (omega (arith, below))
      | inr here ↦
          let same : block ≡ first = omega (arith, here, from) in
          trims_outside (unmapped session first) (first + 1) n block (inr (omega (arith, same))) ∙ ap (map.get (unmapped session first).contents) same ∙ get_unmapped session.contents first
    ]

-- ---- commits

pub blocks_stay : (touched : Bool) (device : Device) (session : Session) → (committed_if touched device session).blocks ≡ device.blocks
blocks_stay true device session = refl
blocks_stay false device session = refl
