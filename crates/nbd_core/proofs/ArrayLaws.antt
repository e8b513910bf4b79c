-- What calls make of the bytes of a session's array.
use Rattle.std.proofs.Common.{◌≡◌, ◌≤◌, ◌<◌, ◌+◌, ◌*◌, ◌++◌, ℕ, zero, suc, List, ◌∷◌, Some, Result, Ok, Err, length, length-append, length-take, take, drop, get_or, refl, sym, ap, subst, ◌∙◌, arith, inr, ◌-◌}
use Rattle.std.specs.Prelude.{◌⊎◌, ◌/◌, IfOk, OnErr}
use Rattle.sdbt_base.specs.declared.tapes.Tape.{Ghosts as TapeGhosts}
use Rattle.platform.specs.declared.platforms.Platform.{Ghosts as PlatformGhosts}
use Rattle.std.proofs.Math.Seq.{take-add, drop-append_seam}
use Rattle.std.proofs.lemmas.List.{get_or-drop, get_or-take, take_all, take-append-le, drop-take}
use Rattle.byte_arrays.specs.Parts.{IsPart, IsAtPart}
use Rattle.byte_arrays.specs.Ranges.{blocks_from, touched_blocks}
use Rattle.byte_arrays.proofs.RangeLaws.{length-blocks_from, part_block}
use Rattle.nbd_lang.specs.declared.replies.Outcome.{Outcome}
use Rattle.nbd_lang.specs.declared.replies.Outcome.TheVariants as outcomes
use Rattle.nbd_terms.proofs.WritingLaws.{block_before, trim_more, write_step}
use Rattle.nbd_core.specs.Halts.{outcome_after}
use Rattle.nbd_core.specs.declared.halts.Halt.{Halt}
use Rattle.sdbt_base.specs.Arrays.{Device, Session as OpenSession, content_of, mounted, unmapped}
use Rattle.platform.specs.Image.{Image}
use Rattle.byte_arrays.specs.Arrays.{bytes_at, with_bytes}
use Rattle.byte_arrays.proofs.ArrayLaws.{bytes_are, bytes_at-append, part_read, with_inside}
use Rattle.device_course.specs.States.{IsAt}
use Rattle.device_session.specs.Open.{needed_by}
use Rattle.device_session.specs.Sessions.{Session}
use Rattle.device_course.specs.Held.{trim_all}
use Rattle.nbd_terms.specs.Bytes.{array_of, write_all}
use Rattle.session_calls.specs.Goes.{AddsBlock, ReadsBlock, TrimsBlock, WritesBlock}
use Rattle.session_calls.specs.declared.stops.DeviceStop.{DeviceStop}
use Rattle.session_calls.specs.declared.stops.DeviceStop.TheVariants as stops
use Rattle.nbd_core.specs.Arrays.{AddsOne, DidSome, IsPatched, ReadsBytes, WritesPart, WroteRange}

-- a whole block
whole_bytes : (array : OpenSession) (block start count : ℕ) (bytes : List ℕ) → bytes ≡ content_of array.contents block → length bytes ≡ count → count ≡ 4096 → start + count ≤ 4096 → bytes ≡ bytes_at (array_of array) (4096 * block + start) (length bytes)
whole_bytes array block start count bytes is len whole inside =
    let none : start ≡ 0 = omega (arith, whole, inside) in
    let size : length bytes ≡ 4096 = omega (arith, len, whole) in
    let read : take 4096 (drop 0 bytes) ≡ bytes_at (array_of array) (4096 * block + 0) 4096 = part_read (content_of array.contents) block 0 4096 bytes is size (omega arith) in
    let all : take 4096 bytes ≡ bytes = take_all 4096 bytes (omega (arith, size)) in
    sym all ∙ read ∙ ap (λ (n : ℕ). bytes_at (array_of array) (4096 * block + n) 4096) (sym none) ∙ ap (bytes_at (array_of array) (4096 * block + start)) (sym size)

pub reads_whole : (image : Image) (now : Session) (device : Device) (array : OpenSession) (block start count : ℕ) (bytes : List ℕ) (result : Result (Unit {0}) DeviceStop) → length bytes ≡ count → count ≡ 4096 → start + count ≤ 4096
    → ReadsBlock image now device array block bytes result → ReadsBytes image now device array (4096 * block + start) bytes result
reads_whole image now device array block start count bytes (Ok done) len whole inside (at, is) = (at, whole_bytes array block start count bytes is len whole inside)
reads_whole image now device array block start count bytes (Err stops.Platform) len whole inside at = at
reads_whole image now device array block start count bytes (Err stops.Memory) len whole inside at = at
reads_whole image now device array block start count bytes (Err stops.Tape) len whole inside at = at
reads_whole image now device array block start count bytes (Err stops.Ledger) len whole inside at = at
reads_whole image now device array block start count bytes (Err stops.BadRoot) len whole inside at = at
reads_whole image now device array block start count bytes (Err (stops.BadRecord addr)) len whole inside at = at

-- a stop of a read, whatever was to be read
pub reads_stopped : (image : Image) (now : Session) (device : Device) (array : OpenSession) (block place : ℕ) (bytes others : List ℕ) (stop : DeviceStop) → ReadsBlock image now device array block bytes (Err stop) → ReadsBytes image now device array place others (Err stop)
reads_stopped image now device array block place bytes others stops.Platform at = at
reads_stopped image now device array block place bytes others stops.Memory at = at
reads_stopped image now device array block place bytes others stops.Tape at = at
reads_stopped image now device array block place bytes others stops.Ledger at = at
reads_stopped image now device array block place bytes others stops.BadRoot at = at
reads_stopped image now device array block place bytes others (stops.BadRecord addr) at = at

pub range_stopped : (image : Image) (now : Session) (device : Device) (array : OpenSession) (place other : ℕ) (bytes others : List ℕ) (stop : DeviceStop) → ReadsBytes image now device array place bytes (Err stop) → ReadsBytes image now device array other others (Err stop)
range_stopped image now device array place other bytes others stops.Platform at = at
range_stopped image now device array place other bytes others stops.Memory at = at
range_stopped image now device array place other bytes others stops.Tape at = at
range_stopped image now device array place other bytes others stops.Ledger at = at
range_stopped image now device array place other bytes others stops.BadRoot at = at
range_stopped image now device array place other bytes others (stops.BadRecord addr) at = at

-- more bytes are read behind those that were
pub read_more : (array : OpenSession) (at done k place : ℕ) (before piece after : List ℕ) → take done before ≡ bytes_at (array_of array) at done → piece ≡ bytes_at (array_of array) place (length piece) → place ≡ at + done → length piece ≡ k
    → take (done + k) after ≡ take done before ++ piece → take (done + k) after ≡ bytes_at (array_of array) at (done + k)
read_more array at done k place before piece after so_far read is len joined =
    let here : piece ≡ bytes_at (array_of array) (at + done) k = read ∙ ap (λ (p : ℕ). bytes_at (array_of array) p (length piece)) is ∙ ap (bytes_at (array_of array) (at + done)) len in
    joined ∙ ap (λ (l : List ℕ). l ++ piece) so_far ∙ ap (λ (l : List ℕ). bytes_at (array_of array) at done ++ l) here ∙ sym (bytes_at-append (array_of array) at done k)

-- ---- blocks from one on

pub take_blocks : (first n m : ℕ) → n ≤ m → take n (blocks_from first m) ≡ blocks_from first n
take_blocks first zero m few = refl
take_blocks first (suc n) zero few = absurd (omega (arith, few))
take_blocks first (suc n) (suc m) few = ap (λ (l : List ℕ). first ∷ l) (take_blocks (first + 1) n m (omega (arith, few)))

-- the first of the blocks that a range touches
pub take_touched : (offset n k : ℕ) → k ≤ length (touched_blocks offset n) → take k (touched_blocks offset n) ≡ blocks_from (offset / 4096) k
take_touched offset zero zero few = refl
take_touched offset zero (suc k) few = absurd (omega (arith, few))
take_touched offset (suc n) k few =
    take_blocks (offset / 4096) k ((offset + n) / 4096 - offset / 4096 + 1) (omega (arith, few, length-blocks_from (offset / 4096) ((offset + n) / 4096 - offset / 4096 + 1)))

-- ---- trims

-- one block more
pub trim_step : (image : Image) (now : Session) (device : Device) (array : OpenSession) (first block : ℕ) → first ≤ block → IsAt image (Some now) (mounted device (unmapped (trim_all array (blocks_from first (block - first))) block))
    → IsAt image (Some now) (mounted device (trim_all array (blocks_from first ((block + 1) - first))))
trim_step image now device array first block from at =
    let count : (block + 1) - first ≡ (block - first) + 1 = omega (arith, from) in
    let here : first + (block - first) ≡ block = omega (arith, from) in
    let is : trim_all array (blocks_from first ((block + 1) - first)) ≡ unmapped (trim_all array (blocks_from first (block - first))) block =
    ap (λ (n : ℕ). trim_all array (blocks_from first n)) count ∙ trim_more array first (block - first) ∙ ap (unmapped (trim_all array (blocks_from first (block - first)))) here in
    subst (λ (a : OpenSession). IsAt image (Some now) (mounted device a)) (sym is) at

-- one that stopped, whose reply says so
trim_stopped : (image : Image) (now : Session) (device : Device) (mid : OpenSession) (block : ℕ) (stop : DeviceStop) → TrimsBlock image now device mid block (Err stop)
    → IfOk (outcome_after stop) (λ outcome. (outcome ≡ outcomes.NoMemory) × IsAt image (Some now) (mounted device mid))
trim_stopped image now device mid block stops.Memory at = (refl, at)
trim_stopped image now device mid block stops.Platform at = tt
trim_stopped image now device mid block stops.Tape at = tt
trim_stopped image now device mid block stops.Ledger at = tt
trim_stopped image now device mid block stops.BadRoot at = tt
trim_stopped image now device mid block (stops.BadRecord addr) at = absurd at

-- what a trim has done by then
pub trimmed_some : (image : Image) (now : Session) (device : Device) (array : OpenSession) (blocks : List ℕ) (first end n needed needed_now : ℕ) (outcome : Outcome) → blocks ≡ blocks_from first (end - first) → n ≤ end - first → needed_now ≤ needed + 41 * n
    → (outcome ≡ outcomes.Done) ⊎ (outcome ≡ outcomes.NoMemory) → (outcome ≡ outcomes.Done → n ≡ end - first) → IsAt image (Some now) (mounted device (trim_all array (blocks_from first n)))
    → (k : ℕ) × DidSome blocks outcome k × (needed_now ≤ needed + 41 * k) × IsAt image (Some now) (mounted device (trim_all array (take k blocks)))
trimmed_some image now device array blocks first end n needed needed_now outcome is few needs sound all at =
    let size : length blocks ≡ end - first = ap length is ∙ length-blocks_from first (end - first) in
    let same : take n blocks ≡ blocks_from first n = ap (take n) is ∙ take_blocks first n (end - first) few in
    (n, record { few = omega (arith, few, size); sound = sound; all = λ done. omega (arith, all done, size) }, needs, subst (λ (l : List ℕ). IsAt image (Some now) (mounted device (trim_all array l))) (sym same) at)

pub trim_halted : (image : Image) (now : Session) (device : Device) (array : OpenSession) (blocks : List ℕ) (first end block needed needed_now : ℕ) (stop : DeviceStop) (result : Result Outcome Halt) → result ≡ outcome_after stop → blocks ≡ blocks_from first (end - first)
    → first ≤ block → block < end → needed_now ≤ needed + 41 * (block - first) → TrimsBlock image now device (trim_all array (blocks_from first (block - first))) block (Err stop)
    → IfOk result (λ outcome. (k : ℕ) × DidSome blocks outcome k × (needed_now ≤ needed + 41 * k) × IsAt image (Some now) (mounted device (trim_all array (take k blocks))))
trim_halted image now device array blocks first end block needed needed_now stop result e is from below needs led =
    subst (λ (r : Result Outcome Halt). IfOk r (λ outcome. (k : ℕ) × DidSome blocks outcome k × (needed_now ≤ needed + 41 * k) × IsAt image (Some now) (mounted device (trim_all array (take k blocks))))) (sym e)
    (by (outcome_after stop) (trim_stopped image now device (trim_all array (blocks_from first (block - first))) block stop led))
  where
    by : (r : Result Outcome Halt) → IfOk r (λ outcome. (outcome ≡ outcomes.NoMemory) × IsAt image (Some now) (mounted device (trim_all array (blocks_from first (block - first)))))
        → IfOk r (λ outcome. (k : ℕ) × DidSome blocks outcome k × (needed_now ≤ needed + 41 * k) × IsAt image (Some now) (mounted device (trim_all array (take k blocks))))
    by (Ok outcome) (none, at) =
        trimmed_some image now device array blocks first end (block - first) needed needed_now outcome is (omega (arith, below)) needs (inr none)
        (λ done. absurd (let no : outcomes.Done ≡ outcomes.NoMemory = sym done ∙ none in cc)) at
    by (Err halt) t = tt

-- ---- writes

-- a part that is all of its block
whole_patch : (array : OpenSession) (block start count : ℕ) (bytes : List ℕ) → length bytes ≡ count → count ≡ 4096 → start + count ≤ 4096 → IsPatched array block start count bytes bytes
whole_patch array block start count bytes len whole inside = record {
  size = len ∙ whole;
  is = λ target offset all done part is before.
      bytes_are (with_bytes target offset all) (4096 * block) 4096 bytes (len ∙ whole)
      (λ k d below.
      let i : ℕ = done + k in
      let place : 4096 * block + k ≡ offset + i = omega (arith, part.at, whole, inside) in
      ap (λ (l : List ℕ). get_or l k d) is ∙ get_or-take count (drop done all) k d (omega (arith, below, whole)) ∙ get_or-drop done all k d
      ∙ sym (with_inside target offset all (4096 * block + k) i d place (omega (arith, below, whole, part.within))));
}

-- the block's content was made of what it held
pub writes_patched : (image : Image) (now : Session) (device : Device) (array : OpenSession) (block start count : ℕ) (bytes content : List ℕ) (result : Result (Unit {0}) DeviceStop) → IsPatched array block start count bytes content
    → WritesBlock image now device array block content result → WritesPart image now device array block start count bytes result
writes_patched image now device array block start count bytes content (Ok done) patched at = (content, patched, at)
writes_patched image now device array block start count bytes content (Err stops.Memory) patched at = at
writes_patched image now device array block start count bytes content (Err stops.Platform) patched at = at
writes_patched image now device array block start count bytes content (Err stops.Tape) patched at = at
writes_patched image now device array block start count bytes content (Err stops.Ledger) patched at = at
writes_patched image now device array block start count bytes content (Err stops.BadRoot) patched at = at
writes_patched image now device array block start count bytes content (Err (stops.BadRecord addr)) patched at = at

pub writes_whole : (image : Image) (now : Session) (device : Device) (array : OpenSession) (block start count : ℕ) (bytes : List ℕ) (result : Result (Unit {0}) DeviceStop) → length bytes ≡ count → count ≡ 4096 → start + count ≤ 4096
    → WritesBlock image now device array block bytes result → WritesPart image now device array block start count bytes result
writes_whole image now device array block start count bytes result len whole inside led = writes_patched image now device array block start count bytes bytes result (whole_patch array block start count bytes len whole inside) led

-- what it held could not be read
pub writes_unread : (image : Image) (now : Session) (device : Device) (array : OpenSession) (block start count : ℕ) (held bytes : List ℕ) (stop : DeviceStop) → ReadsBlock image now device array block held (Err stop) → WritesPart image now device array block start count bytes (Err stop)
writes_unread image now device array block start count held bytes stops.Platform at = at
writes_unread image now device array block start count held bytes stops.Memory at = absurd at
writes_unread image now device array block start count held bytes stops.Tape at = absurd at
writes_unread image now device array block start count held bytes stops.Ledger at = at
writes_unread image now device array block start count held bytes stops.BadRoot at = at
writes_unread image now device array block start count held bytes (stops.BadRecord addr) at = at

pub adds_one : {S R : Type 0} (P : PlatformGhosts S) (T : TapeGhosts R) (platform platform_now : S) (tape tape_now : R) (result : Result (Unit {0}) DeviceStop) → AddsBlock P T platform platform_now tape tape_now result → AddsOne (P.head platform) (P.head platform_now) result
adds_one P T platform platform_now tape tape_now (Ok done) adds = adds.0
adds_one P T platform platform_now tape tape_now (Err stops.Memory) adds = adds.head
adds_one P T platform platform_now tape tape_now (Err (stops.BadRecord addr)) adds = adds.head
adds_one P T platform platform_now tape tape_now (Err stops.Platform) adds = tt
adds_one P T platform platform_now tape tape_now (Err stops.Tape) adds = tt
adds_one P T platform platform_now tape tape_now (Err stops.Ledger) adds = tt
adds_one P T platform platform_now tape tape_now (Err stops.BadRoot) adds = tt

-- a read adds none
pub adds_none : (head head_now : ℕ) (stop : DeviceStop) → head_now ≡ head → AddsOne head head_now (Err stop)
adds_none head head_now stops.Memory same = same
adds_none head head_now (stops.BadRecord addr) same = same
adds_none head head_now stops.Platform same = tt
adds_none head head_now stops.Tape same = tt
adds_none head head_now stops.Ledger same = tt
adds_none head head_now stops.BadRoot same = tt

pub adds_behind : (head mid now : ℕ) (result : Result (Unit {0}) DeviceStop) → mid ≡ head → AddsOne mid now result → AddsOne head now result
adds_behind head mid now result same adds = subst (λ (n : ℕ). AddsOne n now result) same adds

-- what holds of a stop
pub on_stop : {X : Type 0} (result : Result X DeviceStop) (some other : Type 0) → (some → other) → OnErr result some → OnErr result other
on_stop (Ok x) some other then' holds = tt
on_stop (Err stop) some other then' holds = then' holds

-- ---- a range, part by part

-- all bytes begin with those that are gone, and a part behind them
pub front_of : (done k : ℕ) (gone piece all : List ℕ) → length gone ≡ done → take (done + k) all ≡ gone ++ piece → take done all ≡ gone
front_of done k gone piece all len is =
    let joined : take done (take done all ++ take k (drop done all)) ≡ take done (gone ++ piece) = ap (take done) (sym (take-add done k all) ∙ is) in
    let few : done ≤ length (take done all) = omega (arith, ap length is, length-append gone piece, length-take (done + k) all, length-take done all, len) in
    let left : take done (take done all ++ take k (drop done all)) ≡ take done all = take-append-le done (take done all) (take k (drop done all)) few ∙ take_all done (take done all) (omega (arith, length-take done all)) in
    let right : take done (gone ++ piece) ≡ gone = take-append-le done gone piece (omega (arith, len)) ∙ take_all done gone (omega (arith, len)) in
    sym left ∙ joined ∙ right

piece_of : (done k : ℕ) (gone piece all : List ℕ) → length gone ≡ done → take (done + k) all ≡ gone ++ piece → piece ≡ take k (drop done all)
piece_of done k gone piece all len is =
    sym (drop-append_seam gone piece) ∙ ap (λ (n : ℕ). drop n (gone ++ piece)) len ∙ ap (drop done) (sym is) ∙ drop-take done k all

-- one part more
pub range_step : (image : Image) (now : Session) (device : Device) (array : OpenSession) (offset whole done parts block start k : ℕ) (gone piece all : List ℕ) → IsPart offset whole done block start k → IsAtPart offset done parts
    → length gone ≡ done → length all ≡ whole → take (done + k) all ≡ gone ++ piece
    → WritesPart image now device (write_all array (with_bytes (array_of array) offset all) (blocks_from (offset / 4096) parts)) block start k piece (Ok tt)
    → IsAt image (Some now) (mounted device (write_all array (with_bytes (array_of array) offset all) (blocks_from (offset / 4096) (parts + 1))))
range_step image now device array offset whole done parts block start k gone piece all part at len long is (content, patched, there) =
    let first : ℕ = offset / 4096 in
    let target : ℕ → ℕ = with_bytes (array_of array) offset all in
    let mid : OpenSession = write_all array target (blocks_from first parts) in
    let part_in : IsPart offset (length all) done block start k = subst (λ (n : ℕ). IsPart offset n done block start k) (sym long) part in
    let b : block ≡ first + parts = part_block offset (length all) done block start k parts part_in at in
    let same : content ≡ bytes_at target (4096 * block) 4096 =
    patched.is (array_of array) offset all done part_in (piece_of done k gone piece all len is) (λ size. block_before array target first parts block (content_of mid.contents block) b refl size) in
    subst (λ (a : OpenSession). IsAt image (Some now) (mounted device a)) (write_step array offset all done block start k parts content part_in at same) there

-- what was written by then
pub wrote_range : (image : Image) (head head_now needed : ℕ) (now : Session) (device : Device) (array : OpenSession) (offset n parts : ℕ) (all : List ℕ) (outcome : Outcome) → parts ≤ length (touched_blocks offset n)
    → (outcome ≡ outcomes.Done) ⊎ (outcome ≡ outcomes.NoMemory) → (outcome ≡ outcomes.Done → parts ≡ length (touched_blocks offset n)) → head_now ≡ head + parts → needed_by now ≤ needed + 41 * parts
    → IsAt image (Some now) (mounted device (write_all array (with_bytes (array_of array) offset all) (blocks_from (offset / 4096) parts)))
    → WroteRange image head head_now needed now device array offset all (touched_blocks offset n) outcome
wrote_range image head head_now needed now device array offset n parts all outcome few sound whole pages needs at = record {
  many = parts;
  did = record { few = few; sound = sound; all = whole };
  pages = pages;
  needs = needs;
  at = subst (λ (l : List ℕ). IsAt image (Some now) (mounted device (write_all array (with_bytes (array_of array) offset all) l))) (sym (take_touched offset n parts few)) at;
}

-- a part that stopped, where the request has a reply
part_stopped : (image : Image) (now : Session) (device : Device) (mid : OpenSession) (block start count : ℕ) (bytes : List ℕ) (head head_now : ℕ) (stop : DeviceStop) (outcome : Outcome) → outcome_after stop ≡ Ok outcome
    → AddsOne head head_now (Err stop) → WritesPart image now device mid block start count bytes (Err stop) → (outcome ≡ outcomes.NoMemory) × (head_now ≡ head) × IsAt image (Some now) (mounted device mid)
part_stopped image now device mid block start count bytes head head_now stops.Memory outcome is adds at = (let e : outcome ≡ outcomes.NoMemory = cc in e, adds, at)
part_stopped image now device mid block start count bytes head head_now stops.Platform outcome is adds at = absurd cc
part_stopped image now device mid block start count bytes head head_now stops.Tape outcome is adds at = absurd cc
part_stopped image now device mid block start count bytes head head_now stops.Ledger outcome is adds at = absurd at
part_stopped image now device mid block start count bytes head head_now stops.BadRoot outcome is adds at = absurd at
part_stopped image now device mid block start count bytes head head_now (stops.BadRecord addr) outcome is adds at = absurd at

pub range_halted : (image : Image) (head mid_head head_now needed : ℕ) (now : Session) (device : Device) (array : OpenSession) (offset n parts block start count : ℕ) (bytes all : List ℕ) (stop : DeviceStop) (result : Result Outcome Halt) → IfOk result (λ outcome. outcome_after stop ≡ Ok outcome)
    → parts < length (touched_blocks offset n) → mid_head ≡ head + parts → AddsOne mid_head head_now (Err stop) → needed_by now ≤ needed + 41 * parts → IfOk result (λ outcome. length all ≡ n)
    → (length all ≡ n → WritesPart image now device (write_all array (with_bytes (array_of array) offset all) (blocks_from (offset / 4096) parts)) block start count bytes (Err stop))
    → IfOk result (WroteRange image head head_now needed now device array offset all (touched_blocks offset n))
range_halted image head mid_head head_now needed now device array offset n parts block start count bytes all stop (Ok outcome) is few pages adds needs long led =
    let s = part_stopped image now device (write_all array (with_bytes (array_of array) offset all) (blocks_from (offset / 4096) parts)) block start count bytes mid_head head_now stop outcome is adds (led long) in
    wrote_range image head head_now needed now device array offset n parts all outcome (omega (arith, few)) (inr s.0) (λ done. absurd (let no : outcomes.Done ≡ outcomes.NoMemory = sym done ∙ s.0 in cc)) (omega (arith, pages, s.1)) needs s.2
range_halted image head mid_head head_now needed now device array offset n parts block start count bytes all stop (Err halt) is few pages adds needs long led = tt
