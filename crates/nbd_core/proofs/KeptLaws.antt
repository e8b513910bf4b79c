-- Blocks of which look-ups find behind a call what they found before, and those that a trim or a write changed.
use Rattle.std.proofs.Common.{◌≡◌, ◌≢◌, ◌<◌, ◌≤◌, ◌+◌, ◌-◌, ◌*◌, ◌++◌, ◌⊎◌, ◌∙◌, ℕ, List, [], None, Some, Result, Ok, Err, false, inl, inr, length, length-append, take, drop, get_or, refl, sym, ap, subst, arith}
use Rattle.std.specs.Prelude.{◌/◌, ◌%◌, All, Contains, IfErr, OnErr, OnOk, slice_get}
use Rattle.session_calls.specs.declared.stops.DeviceStop.{DeviceStop}
use Rattle.std.proofs.lemmas.Bool.{cases_lt}
use Rattle.std.proofs.lemmas.List.{take_all}
use Rattle.std.proofs.lemmas.Option.{get_or_from_slice_get, slice_get-get_or, slice_get_within}
use Rattle.byte_arrays.specs.Arrays.{bytes_at, byte_of, with_bytes}
use Rattle.byte_arrays.specs.Parts.{IsAtPart, IsPart}
use Rattle.byte_arrays.specs.Ranges.{IsTouched, blocks_from, touched_blocks}
use Rattle.byte_arrays.proofs.ArrayLaws.{byte_in_block, get_or-bytes_at, length-bytes_at, part_read, with_before, with_behind, with_inside}
use Rattle.byte_arrays.proofs.RangeLaws.{get_or-blocks_from, in_blocks_from, is_touched, length-blocks_from, length-touched_blocks, touched_is}
use Rattle.platform.specs.Image.{Image}
use Rattle.device_session.specs.Damage.{HasPut, HasTaken, IsFound}
use Rattle.device_session.specs.Open.{blocks_of, needed_by}
use Rattle.device_session.specs.Reading.{FindsContent, KeepsBlock}
use Rattle.device_session.specs.Sessions.{Session}
use Rattle.nbd_lang.specs.declared.requests.RequestKind.TheVariants as kinds
use Rattle.nbd_core.specs.Meets.{MayMeet, MeetsAt}
use Rattle.nbd_core.specs.Found.{FindsByte, FindsBytes, FindsSame, HasTrimmed, HasWritten, WritesFound}
use Rattle.nbd_core.specs.Stopped.{LeavesCounts, TrimmedFirst, WroteFirst}
use Rattle.nbd_core.proofs.ArrayLaws.{take_blocks}
use Rattle.nbd_core.proofs.FoundLaws.{finds_all, finds_in, finds_nothing, finds_then}

-- ---- one call behind another

pub keeps_start : (image : Image) (session : Session) (block : ℕ) → KeepsBlock image.readable image.readable session session block
keeps_start image session block = record { entry = λ found. ((λ is. is), (λ is. is)); content = λ content. ((λ is. is), (λ is. is)) }

pub keeps_then : (first second third : List (List ℕ)) (session between now : Session) (block : ℕ) → KeepsBlock first second session between block → KeepsBlock second third between now block → KeepsBlock first third session now block
keeps_then first second third session between now block one other = record {
  entry = λ found. ((λ is. (other.entry found).0 ((one.entry found).0 is)), (λ is. (one.entry found).1 ((other.entry found).1 is)));
  content = λ content. ((λ is. (other.content content).0 ((one.content content).0 is)), (λ is. (one.content content).1 ((other.content content).1 is)));
}

-- these pages are those, and this tree that one
keeps_as : (pages after : List (List ℕ)) (session now : Session) (block : ℕ) → after ≡ pages → now.grove ≡ session.grove → KeepsBlock pages after session now block
keeps_as pages after session now block same grove =
    let still : KeepsBlock pages pages session (record now { grove = session.grove }) block = record { entry = λ found. ((λ is. is), (λ is. is)); content = λ content. ((λ is. is), (λ is. is)) } in
    let tree = subst (λ g. KeepsBlock pages pages session (record now { grove = g }) block) (sym grove) still in
    let all = subst (λ ps. KeepsBlock pages ps session (record now { grove = now.grove }) block) (sym same) tree in
    record { entry = all.entry; content = all.content }

pub keeps_same : (image after : Image) (session now : Session) (block : ℕ) → FindsSame image after session now → KeepsBlock image.readable after.readable session now block
keeps_same image after session now block same = keeps_as image.readable after.readable session now block same.pages same.grove

-- a byte of such a block
kept_byte : (image after : Image) (session now : Session) (place byte : ℕ) → KeepsBlock image.readable after.readable session now (place / 4096) → FindsByte image session place byte → FindsByte after now place byte
kept_byte image after session now place byte keeps finds = record { content = finds.content; finds = (keeps.content finds.content).0 finds.finds; is = finds.is }

kept_back : (image after : Image) (session now : Session) (place byte : ℕ) → KeepsBlock image.readable after.readable session now (place / 4096) → FindsByte after now place byte → FindsByte image session place byte
kept_back image after session now place byte keeps finds = record { content = finds.content; finds = (keeps.content finds.content).1 finds.finds; is = finds.is }

-- ---- trims

-- the blocks from one on, so many, are found no more, and each other one is kept
pub record TrimmedTo (image after : Image) (session now : Session) (first count : ℕ) : Type 0 where
  pub gone : (block : ℕ) → first ≤ block → block < first + count → IsFound false after.readable now block
  pub others : (other : ℕ) → other < blocks_of session → (other < first) ⊎ (first + count ≤ other) → KeepsBlock image.readable after.readable session now other

pub trimmed_start : (image : Image) (session : Session) (first count : ℕ) → count ≡ 0 → TrimmedTo image image session session first count
trimmed_start image session first count none = record { gone = λ block from below. absurd (omega (arith, from, below, none)); others = λ other within out. keeps_start image session other }

pub trimmed_then : (one two three : Image) (session between now : Session) (first count block more : ℕ) → blocks_of between ≡ blocks_of session → first + count ≡ block → more ≡ count + 1 → block < blocks_of session
    → TrimmedTo one two session between first count → HasTaken two.readable three.readable between now block → TrimmedTo one three session now first more
trimmed_then one two three session between now first count block more size at next inside so_far taken = record {
  gone = λ b from below. elim (cases_lt b block) [
    | inl before ↦
        let kept = taken.others b (omega (arith, before, inside, size)) (λ same. absurd (omega (arith, before, same))) in
        (kept.entry None).0 (so_far.gone b from (omega (arith, before, at)))
    | inr behind ↦
        let same : block ≡ b = omega (arith, behind, below, at, next) in
        subst (λ (n : ℕ). IsFound false three.readable now n) same taken.gone
  ];
  others = λ other within out.
      let away : other ≢ block = λ same. elim out [ inl before ↦ absurd (omega (arith, before, same, at)) | inr behind ↦ absurd (omega (arith, behind, same, at, next)) ] in
      let there : (other < first) ⊎ (first + count ≤ other) = elim out [ inl before ↦ inl before | inr behind ↦ inr (omega (arith, behind, next)) ] in
      keeps_then one.readable two.readable three.readable session between now other (so_far.others other within there) (taken.others other (omega (arith, within, size)) away);
}

pub trimmed_all : (image after : Image) (session now : Session) (first count end : ℕ) (blocks : List ℕ) → blocks ≡ blocks_from first (end - first) → count ≡ end - first → TrimmedTo image after session now first count → HasTrimmed image after session now blocks
trimmed_all image after session now first count end blocks is all trimmed = record {
  gone = subst (All (IsFound false after.readable now)) (sym is)
      (λ k d below.
      let inside : k < end - first = omega (arith, below, length-blocks_from first (end - first)) in
      subst (λ (b : ℕ). IsFound false after.readable now b) (sym (get_or-blocks_from first (end - first) k d inside)) (trimmed.gone (first + k) (omega arith) (omega (arith, inside, all))));
  others = λ other within out.
      trimmed.others other within
      (elim (cases_lt other first) [
        | inl before ↦ inl before
        | inr from ↦ elim (cases_lt other (first + count)) [
          | inl below ↦ absurd (out (subst (λ (bs : List ℕ). Contains bs other) (sym is) (in_blocks_from first (end - first) other from (omega (arith, below, all)))))
          | inr behind ↦ inr behind
        ]
      ]);
}

-- ---- a part of a block is written

-- what the block holds then: these bytes in their place, and all else as before
pasted_byte : (block start count j : ℕ) (bytes old new : List ℕ) → length bytes ≡ count → length old ≡ 4096 → start + count ≤ 4096 → j < 4096
    → new ≡ bytes_at (with_bytes (byte_of (λ n. old)) (4096 * block + start) bytes) (4096 * block) 4096 → slice_get new j ≡ Some (with_bytes (byte_of (λ n. old)) (4096 * block + start) bytes (4096 * block + j))
pasted_byte block start count j bytes old new size whole inside below is =
    let array : ℕ → ℕ = with_bytes (byte_of (λ n. old)) (4096 * block + start) bytes in
    let len : length new ≡ 4096 = ap length is ∙ length-bytes_at array (4096 * block) 4096 in
    let read : get_or new j 0 ≡ array (4096 * block + j) = ap (λ (l : List ℕ). get_or l j 0) is ∙ get_or-bytes_at array (4096 * block) 4096 j 0 below in
    slice_get-get_or new j 0 (omega (arith, below, len)) ∙ ap Some read

pub pasted : (block start count : ℕ) (bytes old new : List ℕ) → length bytes ≡ count → length old ≡ 4096 → start + count ≤ 4096 → 0 < count
    → ((array : ℕ → ℕ) (offset : ℕ) (all : List ℕ) (done : ℕ) → IsPart offset (length all) done block start count → bytes ≡ take count (drop done all) → old ≡ bytes_at array (4096 * block) 4096 → new ≡ bytes_at (with_bytes array offset all) (4096 * block) 4096)
    → new ≡ bytes_at (with_bytes (byte_of (λ n. old)) (4096 * block + start) bytes) (4096 * block) 4096
pasted block start count bytes old new size whole inside some paste =
    let front : 4096 * block + 0 ≡ 4096 * block = omega arith in
    let read : take 4096 (drop 0 old) ≡ bytes_at (byte_of (λ n. old)) (4096 * block + 0) 4096 = part_read (λ n. old) block 0 4096 old refl whole (omega arith) in
    let is : old ≡ bytes_at (byte_of (λ n. old)) (4096 * block) 4096 = sym (take_all 4096 old (omega (arith, whole))) ∙ read ∙ ap (λ (p : ℕ). bytes_at (byte_of (λ n. old)) p 4096) front in
    paste (byte_of (λ n. old)) (4096 * block + start) bytes 0
    (record { at = omega arith; inside = inside; within = omega (arith, size); some = some; front = inl refl; back = inl (omega (arith, size)) })
    (sym (take_all count bytes (omega (arith, size)))) is

-- a block that holds these bytes was put
pub put_part : (first image after : Image) (session between now : Session) (block start count : ℕ) (bytes old new : List ℕ) → length bytes ≡ count → length old ≡ 4096 → start + count ≤ 4096 → 0 < count → blocks_of between ≡ blocks_of session
    → FindsContent first.readable session.grove block old → FindsSame first image session between
    → new ≡ bytes_at (with_bytes (byte_of (λ n. old)) (4096 * block + start) bytes) (4096 * block) 4096 → HasPut image.readable after.readable between now block new → HasWritten first after session now (4096 * block + start) bytes
put_part first image after session between now block start count bytes old new size whole inside some many finds same is put = record {
  came = λ i byte there.
      let below : i < count = omega (arith, slice_get_within bytes i byte there, size) in
      let move : (4096 * block + start) + i ≡ 4096 * block + (start + i) = omega arith in
      let here : with_bytes (byte_of (λ n. old)) (4096 * block + start) bytes (4096 * block + (start + i)) ≡ get_or bytes i byte = with_inside (byte_of (λ n. old)) (4096 * block + start) bytes (4096 * block + (start + i)) i byte (sym move) (omega (arith, below, size)) in
      let read : get_or bytes i byte ≡ byte = get_or_from_slice_get bytes i byte byte there in
      subst (λ (p : ℕ). FindsByte after now p byte) (sym move)
      (finds_in after now block (start + i) byte new put.left.content (omega (arith, below, inside)) (pasted_byte block start count (start + i) bytes old new size whole inside (omega (arith, below, inside)) is ∙ ap Some (here ∙ read)));
  beside = λ place beside.
      let touched = beside.0 in
      let at : place / 4096 ≡ block = sym touched.1 ∙ omega (arith, touched.2, touched.3, size, inside) in
      let j : ℕ = place % 4096 in
      let low : j < 4096 = omega arith in
      let back : 4096 * block + j ≡ place = omega (arith, at) in
      let byte : ℕ = get_or old j 0 in
      let was : slice_get old j ≡ Some byte = slice_get-get_or old j 0 (omega (arith, low, whole)) in
      let stays : with_bytes (byte_of (λ n. old)) (4096 * block + start) bytes (4096 * block + j) ≡ byte_of (λ n. old) (4096 * block + j) = elim beside.1 [
        | inl before ↦ with_before (byte_of (λ n. old)) (4096 * block + start) bytes (4096 * block + j) (omega (arith, back, before))
        | inr behind ↦ with_behind (byte_of (λ n. old)) (4096 * block + start) bytes (4096 * block + j) (omega (arith, back, behind))
      ] in
      let now_is : slice_get new j ≡ Some byte = pasted_byte block start count j bytes old new size whole inside low is ∙ ap Some (stays ∙ byte_in_block (λ n. old) block j low) in (
        byte,
        subst (λ (p : ℕ). FindsByte first session p byte) back (finds_in first session block j byte old finds low was),
        subst (λ (p : ℕ). FindsByte after now p byte) back (finds_in after now block j byte new put.left.content low now_is),
      );
  others = λ other within out.
      let away : other ≢ block = λ is. out (4096 * block + start, omega (arith, is, inside, some), omega arith, omega (arith, some, size)) in
      keeps_then first.readable image.readable after.readable session between now other (keeps_same first image session between other same) (put.left.others other (omega (arith, within, many)) away);
}

-- a whole block was put
pub put_whole : (image after : Image) (session now : Session) (block start : ℕ) (bytes content : List ℕ) → length bytes ≡ 4096 → start ≡ 0 → content ≡ bytes → HasPut image.readable after.readable session now block content → HasWritten image after session now (4096 * block + start) bytes
put_whole image after session now block start bytes content size none is put = record {
  came = finds_all after now block start bytes (subst (FindsContent after.readable now.grove block) is put.left.content) size none;
  beside = λ place beside.
      let touched = beside.0 in
      let at : place / 4096 ≡ block = sym touched.1 ∙ omega (arith, touched.2, touched.3, size, none) in
      absurd (elim beside.1 [ inl before ↦ omega (arith, before, at, none) | inr behind ↦ omega (arith, behind, at, size, none) ]);
  others = λ other within out.
      put.left.others other within (λ is. out (4096 * block + start, omega (arith, is, none), omega arith, omega (arith, size)));
}

-- ---- one part behind another

-- so many blocks from one on were written, with these bytes in their place from an offset on
pub record WrittenTo (image after : Image) (session now : Session) (offset : ℕ) (bytes : List ℕ) (first count : ℕ) : Type 0 where
  pub came : FindsBytes after now offset bytes
  pub beside : (place : ℕ) → first ≤ place / 4096 → place / 4096 < first + count → (place < offset) ⊎ (offset + length bytes ≤ place) → (byte : ℕ) × FindsByte image session place byte × FindsByte after now place byte
  pub others : (other : ℕ) → other < blocks_of session → (other < first) ⊎ (first + count ≤ other) → KeepsBlock image.readable after.readable session now other

pub written_start : (image : Image) (session : Session) (offset first : ℕ) → WrittenTo image image session session offset [] first 0
written_start image session offset first = record {
  came = finds_nothing image session offset;
  beside = λ place from below out. absurd (omega (arith, from, below));
  others = λ other within out. keeps_start image session other;
}

pub written_then : (one two three : Image) (session between now : Session) (offset count block start : ℕ) (gone piece : List ℕ) → blocks_of between ≡ blocks_of session → block ≡ offset / 4096 + count → block < blocks_of session → 4096 * block + start ≡ offset + length gone → start + length piece ≤ 4096 → 0 < length piece
    → IsAtPart offset (length gone) count → WrittenTo one two session between offset gone (offset / 4096) count → HasWritten two three between now (4096 * block + start) piece → WrittenTo one three session now offset (gone ++ piece) (offset / 4096) (count + 1)
written_then one two three session between now offset count block start gone piece many at inside front fits some part so_far here = record {
  came = finds_then three now offset gone piece
      (λ i byte there.
      let low : i < length gone = slice_get_within gone i byte there in
      let before : (offset + i) / 4096 < block = elim part [ inl none ↦ absurd (omega (arith, none.0, low)) | inr end ↦ omega (arith, end, low, at) ] in
      kept_byte two three between now (offset + i) byte (kept ((offset + i) / 4096) (omega (arith, before, inside, many)) (λ same. absurd (omega (arith, same, before)))) (so_far.came i byte there))
      (subst (λ (p : ℕ). FindsBytes three now p piece) front here.came);
  beside = λ place from below out. elim (cases_lt (place / 4096) block) [
    | inl before ↦
        let was = so_far.beside place from (omega (arith, before, at)) (elim out [ inl first ↦ inl first | inr last ↦ inr (omega (arith, last, length-append gone piece)) ]) in
        (was.0, was.1, kept_byte two three between now place was.0 (kept (place / 4096) (omega (arith, before, inside, many)) (λ same. absurd (omega (arith, same, before)))) was.2)
    | inr behind ↦
        let here_is : place / 4096 ≡ block = omega (arith, behind, below, at) in
        let outside : (place < 4096 * block + start) ⊎ ((4096 * block + start) + length piece ≤ place) = elim out [ inl first ↦ inl (omega (arith, first, front)) | inr last ↦ inr (omega (arith, last, front, length-append gone piece)) ] in
        let is = here.beside place ((4096 * block + start, omega (arith, here_is, fits, some), omega arith, omega (arith, some)), outside) in
        let old : KeepsBlock one.readable two.readable session between (place / 4096) = so_far.others (place / 4096) (omega (arith, here_is, inside)) (inr (omega (arith, here_is, at))) in
        (is.0, kept_back one two session between place is.0 old is.1, is.2)
  ];
  others = λ other within out.
      let away : other ≢ block = λ same. elim out [ inl before ↦ absurd (omega (arith, before, same, at)) | inr behind ↦ absurd (omega (arith, behind, same, at)) ] in
      let there : (other < offset / 4096) ⊎ (offset / 4096 + count ≤ other) = elim out [ inl before ↦ inl before | inr behind ↦ inr (omega (arith, behind)) ] in
      keeps_then one.readable two.readable three.readable session between now other (so_far.others other within there) (kept other (omega (arith, within, many)) away);
}
  where
    kept : (other : ℕ) → other < blocks_of between → other ≢ block → KeepsBlock two.readable three.readable between now other
    kept other within away = here.others other within (λ touched. away (sym touched.1 ∙ omega (arith, touched.2, touched.3, fits)))

pub written_all : (image after : Image) (session now : Session) (offset count n : ℕ) (bytes : List ℕ) → length bytes ≡ n → length (touched_blocks offset n) ≡ count → WrittenTo image after session now offset bytes (offset / 4096) count → HasWritten image after session now offset bytes
written_all image after session now offset count n bytes size all written = record {
  came = written.came;
  beside = λ place beside.
      let touched = touched_is offset (length bytes) (place / 4096) beside.0 in
      let many = length-touched_blocks offset n (omega (arith, touched.2, size)) in
      written.beside place touched.0 (omega (arith, touched.1, many, all, size)) beside.1;
  others = λ other within out.
      written.others other within
      (elim (cases_lt other (offset / 4096)) [
        | inl before ↦ inl before
        | inr from ↦ elim (cases_lt other (offset / 4096 + count)) [
          | inl below ↦ absurd (out (inside other from below))
          | inr behind ↦ inr behind
        ]
      ]);
}
  where
    inside : (other : ℕ) → offset / 4096 ≤ other → other < offset / 4096 + count → IsTouched offset (length bytes) other
    inside other from below = elim (cases_lt 0 n) [
      | inl some ↦ is_touched offset (length bytes) other (omega (arith, some, size)) from (omega (arith, below, all, size, length-touched_blocks offset n some))
      | inr none ↦
          let nothing : n ≡ 0 = omega (arith, none) in
          let no_block : length (touched_blocks offset n) ≡ 0 = ap (λ (m : ℕ). length (touched_blocks offset m)) nothing in
          absurd (omega (arith, from, below, all, no_block))
    ]

-- ---- calls for blocks

pub writes_found : (image after : Image) (session now : Session) (place : ℕ) (bytes : List ℕ) (result : Result (Unit {0}) DeviceStop) {Put : Type 0} → IfErr result (MeetsAt (MayMeet kinds.Write session after place (length bytes))) → OnOk result Put → (Put → HasWritten image after session now place bytes)
    → WritesFound image after session now place bytes result
writes_found image after session now place bytes (Ok done) meets put then' = then' put
writes_found image after session now place bytes (Err stop) meets put then' = meets

-- ---- the first blocks, where one behind them stopped

-- the pages as they were behind these
trimmed_still : (image mid after : Image) (session there : Session) (blocks : List ℕ) → after.readable ≡ mid.readable → HasTrimmed image mid session there blocks → HasTrimmed image after session there blocks
trimmed_still image mid after session there blocks same trimmed = record {
  gone = subst (λ (pages : List (List ℕ)). All (IsFound false pages there) blocks) (sym same) trimmed.gone;
  others = λ other within out. subst (λ (pages : List (List ℕ)). KeepsBlock image.readable pages session there other) (sym same) (trimmed.others other within out);
}

pub trimmed_first : (image mid after : Image) (session there now : Session) (first count end : ℕ) (blocks : List ℕ) → blocks ≡ blocks_from first (end - first) → first + count < end → after.readable ≡ mid.readable → TrimmedTo image mid session there first count
    → session.mapped ≤ there.mapped + count → LeavesCounts there now → TrimmedFirst image after session there now blocks
trimmed_first image mid after session there now first count end blocks is below same trimmed counted left =
    let some : take count blocks ≡ blocks_from first ((first + count) - first) =
    ap (take count) is ∙ take_blocks first count (end - first) (omega (arith, below)) ∙ ap (blocks_from first) (let e : count ≡ (first + count) - first = omega arith in e) in
    record {
      count = count;
      less = omega (arith, below, ap length is, length-blocks_from first (end - first));
      trimmed = trimmed_still image mid after session there (take count blocks) same (trimmed_all image mid session there first count (first + count) (take count blocks) some (omega arith) trimmed);
      counted = omega (arith, counted, left.mapped);
      left = left;
    }

written_still : (image mid after : Image) (session there : Session) (offset : ℕ) (bytes : List ℕ) → after.readable ≡ mid.readable → HasWritten image mid session there offset bytes → HasWritten image after session there offset bytes
written_still image mid after session there offset bytes same written = record {
  came = λ i byte is.
      let finds = written.came i byte is in
      byte_still (offset + i) byte finds;
  beside = λ place beside.
      let was = written.beside place beside in
      (was.0, was.1, byte_still place was.0 was.2);
  others = λ other within out. subst (λ (pages : List (List ℕ)). KeepsBlock image.readable pages session there other) (sym same) (written.others other within out);
}
  where
    byte_still : (place byte : ℕ) → FindsByte mid there place byte → FindsByte after there place byte
    byte_still place byte finds = record { content = finds.content; finds = subst (λ (pages : List (List ℕ)). FindsContent pages there.grove (place / 4096) finds.content) (sym same) finds.finds; is = finds.is }

-- so many blocks have the bytes up to a part
touched_before : (offset done parts : ℕ) → IsAtPart offset done parts → length (touched_blocks offset done) ≡ parts
touched_before offset done parts (inl (none, first)) = ap (λ (n : ℕ). length (touched_blocks offset n)) none ∙ sym first
touched_before offset done parts (inr end) = elim (cases_lt 0 done) [
  | inl some ↦ omega (arith, end, some, length-touched_blocks offset done some)
  | inr nothing ↦
      let none : done ≡ 0 = omega (arith, nothing) in
      ap (λ (n : ℕ). length (touched_blocks offset n)) none ∙ omega (arith, end, none)
]

pub wrote_first : (image mid after : Image) (session there now : Session) (offset done parts : ℕ) (gone bytes : List ℕ) → take done bytes ≡ gone → length gone ≡ done → done < length bytes → IsAtPart offset done parts → after.readable ≡ mid.readable
    → length after.recorded ≡ length image.recorded + parts → WrittenTo image mid session there offset gone (offset / 4096) parts → LeavesCounts there now → WroteFirst image after session there now offset bytes
wrote_first image mid after session there now offset done parts gone bytes front size less at same pages written left =
    let count : length (touched_blocks offset done) ≡ parts = touched_before offset done parts at in
    record {
      count = done;
      less = less;
      at = subst (IsAtPart offset done) (sym count) at;
      written = subst (HasWritten image after session there offset) (sym front) (written_still image mid after session there offset gone same (written_all image mid session there offset parts done gone size count written));
      pages = omega (arith, pages, count);
      left = left;
    }

-- ---- what a call that stopped leaves

pub left_both : {X : Type 0} (result : Result X DeviceStop) (session now : Session) → blocks_of now ≡ blocks_of session → OnErr result (now.mapped ≡ session.mapped) → OnErr result (needed_by now ≡ needed_by session) → OnErr result (LeavesCounts session now)
left_both (Ok done) session now blocks mapped needs = tt
left_both (Err stop) session now blocks mapped needs = record { blocks = blocks; mapped = mapped; needs = omega (arith, needs) }

-- behind one that adds nothing
pub left_behind : {X : Type 0} (result : Result X DeviceStop) (session between now : Session) → blocks_of between ≡ blocks_of session → between.mapped ≡ session.mapped → needed_by between ≤ needed_by session + 41 * 0 → OnErr result (LeavesCounts between now) → OnErr result (LeavesCounts session now)
left_behind (Ok done) session between now blocks mapped needs left = tt
left_behind (Err stop) session between now blocks mapped needs left = record { blocks = left.blocks ∙ blocks; mapped = left.mapped ∙ mapped; needs = omega (arith, left.needs, needs) }
