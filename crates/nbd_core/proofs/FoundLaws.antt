-- Bytes that look-ups find.
use Rattle.std.proofs.Common.{◌≡◌, ◌<◌, ◌≤◌, ◌+◌, ◌*◌, ◌++◌, ◌⊎◌, ◌∙◌, ℕ, zero, suc, List, [], ◌∷◌, Some, Result, Ok, Err, inl, inr, length, length-take, take, get_or, refl, sym, ap, subst, arith}
use Rattle.std.specs.Prelude.{◌/◌, OnOk, slice_get}
use Rattle.std.proofs.lemmas.Option.{slice_get-get_or}
use Rattle.byte_arrays.specs.Arrays.{bytes_at, byte_of}
use Rattle.byte_arrays.proofs.ArrayLaws.{block_of_place, byte_in_block, place_in_block}
use Rattle.platform.specs.Image.{Image}
use Rattle.platform.specs.declared.platforms.Platform.{Ghosts as PlatformGhosts}
use Rattle.device_session.specs.Reading.{FindsContent}
use Rattle.device_session.specs.Sessions.{Session}
use Rattle.session_calls.specs.Along.{Along, Drawn}
use Rattle.session_calls.specs.Damage.{ReadsAny}
use Rattle.session_calls.specs.declared.stops.DeviceStop.{DeviceStop}
use Rattle.session_calls.proofs.AlongLaws.{pages_still}
use Rattle.nbd_core.proofs.MeetLaws.{read_stops}
use Rattle.nbd_core.specs.Found.{FindsByte, FindsBytes, FindsSame, ReadsFound}

-- ---- the bytes of lists

-- a byte of two lists is one of the first, or of the second
pub byte_of_two : (xs ys : List ℕ) (i byte : ℕ) → slice_get (xs ++ ys) i ≡ Some byte → (slice_get xs i ≡ Some byte) ⊎ ((j : ℕ) × (i ≡ length xs + j) × (slice_get ys j ≡ Some byte))
byte_of_two [] ys i byte is = inr (i, omega arith, is)
byte_of_two (x ∷ xs) ys zero byte is = inl is
byte_of_two (x ∷ xs) ys (suc i) byte is = elim (byte_of_two xs ys i byte is) [
  | inl first ↦ inl first
  | inr second ↦ inr (second.0, omega (arith, second.1), second.2)
]

-- a byte of an array's
pub byte_at : (array : ℕ → ℕ) (place n i byte : ℕ) → slice_get (bytes_at array place n) i ≡ Some byte → (i < n) × (byte ≡ array (place + i))
byte_at array place zero i byte is = absurd cc
byte_at array place (suc n) zero byte is =
    let here : array place ≡ byte = cc in
    let same : place ≡ place + 0 = omega arith in
    (omega arith, sym here ∙ ap array same)
byte_at array place (suc n) (suc i) byte is =
    let rest = byte_at array (place + 1) n i byte is in
    let same : (place + 1) + i ≡ place + suc i = omega arith in
    (omega (arith, rest.0), rest.1 ∙ ap array same)

-- ---- bytes of a block

-- this byte stands there in a content that is found
pub finds_in : (image : Image) (session : Session) (block j byte : ℕ) (content : List ℕ) → FindsContent image.readable session.grove block content → j < 4096 → slice_get content j ≡ Some byte → FindsByte image session (4096 * block + j) byte
finds_in image session block j byte content finds below is = record {
  content = content;
  finds = subst (λ (b : ℕ). FindsContent image.readable session.grove b content) (sym (block_of_place block j below)) finds;
  is = ap (slice_get content) (place_in_block block j below) ∙ is;
}

-- a part of one
pub finds_part : (image : Image) (session : Session) (block start count : ℕ) (content bytes : List ℕ) → FindsContent image.readable session.grove block content → length content ≡ 4096 → start + count ≤ 4096
    → bytes ≡ bytes_at (byte_of (λ n. content)) (4096 * block + start) count → FindsBytes image session (4096 * block + start) bytes
finds_part image session block start count content bytes finds len inside is i byte there =
    let at = byte_at (byte_of (λ n. content)) (4096 * block + start) count i byte (ap (λ (l : List ℕ). slice_get l i) (sym is) ∙ there) in
    let same : (4096 * block + start) + i ≡ 4096 * block + (start + i) = omega arith in
    let below : start + i < 4096 = omega (arith, at.0, inside) in
    let read : byte ≡ get_or content (start + i) 0 = at.1 ∙ ap (byte_of (λ n. content)) same ∙ byte_in_block (λ n. content) block (start + i) below in
    subst (λ (p : ℕ). FindsByte image session p byte) (sym same)
    (finds_in image session block (start + i) byte content finds below (slice_get-get_or content (start + i) 0 (omega (arith, below, len)) ∙ ap Some (sym read)))

-- all of it
pub finds_all : (image : Image) (session : Session) (block start : ℕ) (content : List ℕ) → FindsContent image.readable session.grove block content → length content ≡ 4096 → start ≡ 0 → FindsBytes image session (4096 * block + start) content
finds_all image session block start content finds len none i byte there =
    let below : i < 4096 = omega (arith, slice_within content i byte there, len) in
    let same : (4096 * block + start) + i ≡ 4096 * block + i = omega (arith, none) in
    subst (λ (p : ℕ). FindsByte image session p byte) (sym same) (finds_in image session block i byte content finds below there)
  where
    slice_within : (xs : List ℕ) (k x : ℕ) → slice_get xs k ≡ Some x → k < length xs
    slice_within xs k x is = Rattle.std.proofs.lemmas.Option.slice_get_within xs k x is

-- ---- one range behind another

pub finds_nothing : (image : Image) (session : Session) (place : ℕ) → FindsBytes image session place []
finds_nothing image session place i byte there = absurd cc

pub finds_then : (image : Image) (session : Session) (place : ℕ) (xs ys : List ℕ) → FindsBytes image session place xs → FindsBytes image session (place + length xs) ys → FindsBytes image session place (xs ++ ys)
finds_then image session place xs ys one other i byte there = elim (byte_of_two xs ys i byte there) [
  | inl first ↦ one i byte first
  | inr second ↦
      let same : (place + length xs) + second.0 ≡ place + i = omega (arith, second.1) in
      subst (λ (p : ℕ). FindsByte image session p byte) same (other second.0 byte second.2)
]

-- ---- look-ups find the same

pub same_start : (image : Image) (session : Session) → FindsSame image image session session
same_start image session = record { pages = refl; grove = refl }

pub same_then : (first second third : Image) (session between now : Session) → FindsSame first second session between → FindsSame second third between now → FindsSame first third session now
same_then first second third session between now one other = record { pages = other.pages ∙ one.pages; grove = other.grove ∙ one.grove }

pub same_byte : (image after : Image) (session now : Session) (place byte : ℕ) → FindsSame image after session now → FindsByte after now place byte → FindsByte image session place byte
same_byte image after session now place byte same finds = record {
  content = finds.content;
  finds = subst (λ (pages : List (List ℕ)). FindsContent pages session.grove (place / 4096) finds.content) same.pages (subst (λ grove. FindsContent after.readable grove (place / 4096) finds.content) same.grove finds.finds);
  is = finds.is;
}

pub same_bytes : (image after : Image) (session now : Session) (place : ℕ) (bytes : List ℕ) → FindsSame image after session now → FindsBytes after now place bytes → FindsBytes image session place bytes
same_bytes image after session now place bytes same finds i byte there = same_byte image after session now (place + i) byte same (finds i byte there)

-- ---- a read of bytes

-- what a read of a block says of the bytes of a part
pub reads_part : (Known : Type 0) (image after : Image) (session now : Session) (block place : ℕ) (content bytes : List ℕ) (result : Result (Unit {0}) DeviceStop) → ReadsAny Known image after session block content result → Known → FindsSame image after session now
    → (FindsContent image.readable session.grove block content → FindsBytes image session place bytes) → ReadsFound image after session now place bytes result
reads_part Known image after session now block place content bytes result any known same then' = record {
  same = same;
  found = by result any;
  met = read_stops Known image after session block content result any known;
}
  where
    by : (r : Result (Unit {0}) DeviceStop) → ReadsAny Known image after session block content r → OnOk r (FindsBytes image session place bytes)
    by (Ok done) found = then' (found known)
    by (Err stop) found = tt

-- a call that adds no page, and leaves the tree
pub same_of_call : {S : Type 0} (P : PlatformGhosts S) (most : ℕ) (platform platform_now : S) (drawn drawn_now : Drawn) (session now : Session) → length (P.history platform).present.recorded ≡ P.head platform → length (P.history platform_now).present.recorded ≡ P.head platform_now → P.tells
    → Along P 0 most platform platform_now drawn drawn_now session now → now.grove ≡ session.grove → FindsSame (P.history platform).present (P.history platform_now).present session now
same_of_call P most platform platform_now drawn drawn_now session now many many_now told along grove = record {
  pages = pages_still (P.history platform) (P.history platform_now) (P.head platform) (P.head platform_now) (along.cell told).extends many many_now (omega (arith, along.rises, along.adds));
  grove = grove;
}

-- one part more was read
pub read_then : (first second third : Image) (session between now : Session) (at done k place : ℕ) (before piece after : List ℕ) → ReadsFound first second session between at (take done before) (Ok tt) → ReadsFound second third between now place piece (Ok tt) → place ≡ at + done → done ≤ length before
    → take (done + k) after ≡ take done before ++ piece → ReadsFound first third session now at (take (done + k) after) (Ok tt)
read_then first second third session between now at done k place before piece after so_far here is within joined = record {
  found =
      let size : at + length (take done before) ≡ place = omega (arith, length-take done before, within, is) in
      subst (FindsBytes first session at) (sym joined)
      (finds_then first session at (take done before) piece so_far.found (subst (λ (p : ℕ). FindsBytes first session p piece) (sym size) (same_bytes first second session between place piece so_far.same here.found)));
  same = same_then first second third session between now so_far.same here.same;
  met = tt;
}

-- what was read is what the reply has
pub bytes_as : (image : Image) (session : Session) (place : ℕ) (told out : List ℕ) → told ≡ out → FindsBytes image session place out → FindsBytes image session place told
bytes_as image session place told out is found = subst (FindsBytes image session place) (sym is) found
