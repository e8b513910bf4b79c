-- The laws of records: the parts decide the bytes, and the bytes decide the parts.
use Rattle.std.proofs.Common.{◌≡◌, ℕ, zero, suc, ◌↔◌, ◌+◌, ◌-◌, ◌*◌, ◌<◌, ◌≤◌, ◌^◌, List, [], ◌∷◌, ◌++◌, map, length, take, drop, replicate, refl, sym, ap, subst, ◌∙◌, arith, length-append, lit<}
use Rattle.std.specs.Prelude.{All, Option, Some, None, IfSome, IfNone, slice_index, slice_index_or}
use Rattle.std.specs.Int.{w64, to_be_bytes}
use Rattle.std.specs.List.{concat, flat_map}
use Rattle.std.specs.List.Sorted.{IsStrictlyIncreasing}
use Rattle.std.proofs.lemmas.List.{take_at, drop_at, take-append-drop, drop-drop, append-nil, length-replicate, drop_more, drop_all, flat_map_more}
use Rattle.std.proofs.Math.Seq.{take-add}
use Rattle.std.proofs.lemmas.List.Elements.{All-head, All-tail, All-nil, All-cons}
use Rattle.sdbt_base.specs.Bytes.{IsBytes}
use Rattle.sdbt_base.specs.Keys.{key_size, entry_size, most_entries}
use Rattle.record_versions.specs.Versions.{IsVersion}
use Rattle.record_versions.specs.Laws.{by_version, entries_within}
use Rattle.record_fields.specs.Fields.{fields_from, fields_whole, fields_again, pieces_same, append_same, number_same_2, number_same_8}
use Rattle.node_codec.specs.declared.body.Entry.{Entry}
use Rattle.node_codec.specs.declared.head.Head.{Head}
use Rattle.node_codec.specs.Record.{Record, DataRecord, NodeRecord, FitsNode, FitsRecord, head_fields, head_bytes, entry_fields, entry_bytes, entries_bytes, kind_of_node, record_bytes}
use Rattle.node_codec.specs.Parts.{part, bytes_of_head, IsFramed, SpellsHead, IsEntry, IsWithin, RangeFrom, FitsEntries, HasParts}

-- ---- heads

abbrev head_sizes : List ℕ
head_sizes = 8 ∷ 8 ∷ 1 ∷ 1 ∷ 2 ∷ 4 ∷ 8 ∷ []

pub head_spelled : (bytes : List ℕ) (head : Head) → length bytes ≡ 32 → IsFramed bytes → SpellsHead bytes head → bytes ≡ bytes_of_head head
unfolding head_fields
head_spelled bytes head len framed spells =
    let fields : fields_from 0 head_sizes bytes ≡ head_fields head.addr head.kind head.level head.count head.block = cc in
    sym (fields_whole head_sizes 0 bytes (sym len)) ∙ ap concat fields

head_same : (a b : Head) → a.addr ≡ b.addr → a.kind ≡ b.kind → a.level ≡ b.level → a.count ≡ b.count → a.block ≡ b.block → a ≡ b
head_same a b addr kind level count block = λ i. record { addr = addr i; kind = kind i; level = level i; count = count i; block = block i }

head_fields_are : (bytes : List ℕ) (addr kind level count block : ℕ) → bytes ≡ head_bytes addr kind level count block → fields_from 0 head_sizes bytes ≡ head_fields addr kind level count block
unfolding head_fields
head_fields_are bytes addr kind level count block same =
    ap (fields_from 0 head_sizes) same ∙ fields_again (head_fields addr kind level count block) []

pub head_only : (bytes : List ℕ) (head : Head) (addr kind level count block : ℕ) → SpellsHead bytes head → addr < 2 ^ 64 → count < 2 ^ 16 → block < 2 ^ 64 → bytes ≡ head_bytes addr kind level count block → IsFramed bytes × (head ≡ record { addr = addr; kind = kind; level = level; count = count; block = block })
unfolding head_fields
head_only bytes head addr kind level count block spells addr-below count-below block-below same =
    let fields = head_fields_are bytes addr kind level count block same in
    let framed : IsFramed bytes = record { stamp = cc; gap = cc } in
    let same-addr : head.addr ≡ addr = number_same_8 head.addr addr spells.addr_below addr-below cc in
    let same-kind : head.kind ≡ kind = cc in
    let same-level : head.level ≡ level = cc in
    let same-count : head.count ≡ count = number_same_2 head.count count spells.count_below count-below cc in
    let same-block : head.block ≡ block = number_same_8 head.block block spells.block_below block-below cc in
    (framed, head_same head (record { addr = addr; kind = kind; level = level; count = count; block = block }) same-addr same-kind same-level same-count same-block)

pub length-head_bytes : (addr kind level count block : ℕ) → length (head_bytes addr kind level count block) ≡ 32
unfolding head_fields
length-head_bytes addr kind level count block = refl

-- ---- entries

pub entry_spelled : (bytes : List ℕ) (entry : Entry) → part 0 8 bytes ≡ to_be_bytes w64 entry.low → part 8 8 bytes ≡ to_be_bytes w64 entry.addr → drop 16 bytes ≡ entry.key → bytes ≡ entry_bytes entry
unfolding entry_fields
entry_spelled bytes entry low addr key =
    let behind : drop 8 (drop 8 bytes) ≡ entry.key ++ [] = drop-drop 8 8 bytes ∙ key ∙ sym (append-nil entry.key) in
    let rest : drop 8 bytes ≡ to_be_bytes w64 entry.addr ++ (entry.key ++ []) = sym (take-append-drop 8 (drop 8 bytes)) ∙ (λ i. addr i ++ behind i) in
    sym (take-append-drop 8 bytes) ∙ (λ i. low i ++ rest i)

pub length-entry_bytes : (version : ℕ) (entry : Entry) → length entry.key ≡ key_size version → length (entry_bytes entry) ≡ entry_size version
unfolding entry_fields
length-entry_bytes version entry key = omega (arith, length-append entry.key [], key)

pub length-entries : (version : ℕ) (entries : List Entry) → All (IsEntry version) entries → length (flat_map entry_bytes entries) ≡ entry_size version * length entries
length-entries version [] are = omega arith
length-entries version (entry ∷ entries) are =
    let first = All-head (IsEntry version) entry entries are in
    let one = length-entry_bytes version entry first.key.0 in
    let others = length-entries version entries (All-tail (IsEntry version) entry entries are) in
    omega (arith, length-append (entry_bytes entry) (flat_map entry_bytes entries), one, others)

entry_same : (version : ℕ) (a b : Entry) → IsEntry version a → IsEntry version b → entry_bytes a ≡ entry_bytes b → a ≡ b
unfolding entry_fields
entry_same version a b is-a is-b same =
    let lengths : map length (entry_fields a) ≡ map length (entry_fields b) = ap (λ (n : ℕ). 8 ∷ 8 ∷ n ∷ []) (is-a.key.0 ∙ sym is-b.key.0) in
    let fields : entry_fields a ≡ entry_fields b = pieces_same (entry_fields a) (entry_fields b) lengths same in
    let low : a.low ≡ b.low = number_same_8 a.low b.low is-a.low is-b.low cc in
    let addr : a.addr ≡ b.addr = number_same_8 a.addr b.addr is-a.addr is-b.addr cc in
    let key : a.key ≡ b.key = cc in
    λ i. record { low = low i; addr = addr i; key = key i }

pub entries_same : (version : ℕ) (xs ys : List Entry) → All (IsEntry version) xs → All (IsEntry version) ys → length xs ≡ length ys → flat_map entry_bytes xs ≡ flat_map entry_bytes ys → xs ≡ ys
entries_same version [] [] are-x are-y lengths same = refl
entries_same version [] (y ∷ ys) are-x are-y lengths same = absurd (omega (arith, lengths))
entries_same version (x ∷ xs) [] are-x are-y lengths same = absurd (omega (arith, lengths))
entries_same version (x ∷ xs) (y ∷ ys) are-x are-y lengths same =
    let is-x = All-head (IsEntry version) x xs are-x in
    let is-y = All-head (IsEntry version) y ys are-y in
    let sizes = length-entry_bytes version x is-x.key.0 ∙ sym (length-entry_bytes version y is-y.key.0) in
    let parts = append_same (entry_bytes x) (flat_map entry_bytes xs) (entry_bytes y) (flat_map entry_bytes ys) sizes same in
    let first : x ≡ y = entry_same version x y is-x is-y parts.0 in
    let others : xs ≡ ys = entries_same version xs ys (All-tail (IsEntry version) x xs are-x) (All-tail (IsEntry version) y ys are-y) (omega (arith, lengths)) parts.1 in
    cc

-- one entry more is read behind others
pub entries_more : (payload : List ℕ) (entries : List Entry) (entry : Entry) (i size : ℕ) → take (size * i) payload ≡ flat_map entry_bytes entries → take size (drop (size * i) payload) ≡ entry_bytes entry → take (size * (i + 1)) payload ≡ flat_map entry_bytes (entries ++ entry ∷ [])
entries_more payload entries entry i size before here =
    let more : size * (i + 1) ≡ size * i + size = omega arith in
    ap (λ (n : ℕ). take n payload) more ∙ take-add (size * i) size payload ∙ ap (λ (bytes : List ℕ). bytes ++ take size (drop (size * i) payload)) before ∙ ap (λ (bytes : List ℕ). flat_map entry_bytes entries ++ bytes) here ∙ flat_map_more entry_bytes [] entries entry

entries_fit : (version addr : ℕ) (entries : List Entry) → addr < 2 ^ 64 → FitsEntries version addr entries → All (IsEntry version) entries
entries_fit version addr entries addr-below fits = λ k d inside. record {
  low = omega (arith, fits.lows k d inside);
  addr = omega (arith, fits.below k d inside, addr-below);
  key = fits.keys k d inside;
}

pub all_within : (version addr : ℕ) (entries : List Entry) → FitsEntries version addr entries → All (IsWithin version addr) entries
all_within version addr entries fits = λ k d inside. record { low = fits.lows k d inside; below = fits.below k d inside; sized = (fits.keys k d inside).0 }

-- the entries that were read are those whose bytes the payload has, and zeros follow
pub entries_known : (version addr : ℕ) (payload : List ℕ) (read entries : List Entry) (count : ℕ) → addr < 2 ^ 64 → length read ≡ count → All (IsEntry version) read → take (entry_size version * count) payload ≡ flat_map entry_bytes read → length entries ≡ count → payload ≡ entries_bytes version entries → FitsEntries version addr entries → (read ≡ entries) × (drop (entry_size version * count) payload ≡ replicate (length (drop (entry_size version * count) payload)) 0)
entries_known version addr payload read entries count addr-below len-read are-read spelled len same fits =
    let used : ℕ = entry_size version * count in
    let zeros : List ℕ = replicate (4096 - entry_size version * length entries) 0 in
    let are = entries_fit version addr entries addr-below fits in
    let size : length (flat_map entry_bytes entries) ≡ used = length-entries version entries are ∙ ap (λ (n : ℕ). entry_size version * n) len in
    let front : take used payload ≡ flat_map entry_bytes entries = ap (take used) same ∙ take_at (flat_map entry_bytes entries) zeros used size in
    let back : drop used payload ≡ zeros = ap (drop used) same ∙ drop_at (flat_map entry_bytes entries) zeros used size in
    let left : length (drop used payload) ≡ 4096 - entry_size version * length entries = ap length back ∙ length-replicate (4096 - entry_size version * length entries) 0 in
    (entries_same version read entries are-read are (len-read ∙ sym len) (sym spelled ∙ front), back ∙ ap (λ (n : ℕ). replicate n 0) (sym left))

pub zeros_along : (rest bytes : List ℕ) → rest ≡ bytes → bytes ≡ replicate (length bytes) 0 → rest ≡ replicate (length rest) 0
zeros_along rest bytes same zeros = same ∙ zeros ∙ ap (λ (b : List ℕ). replicate (length b) 0) (sym same)

-- a node of each version has 64 entries at most
pub most_at_most : (version count : ℕ) → IsVersion version → count ≤ most_entries version → count ≤ 64
most_at_most version count is = by_version (λ (v : ℕ). count ≤ most_entries v → count ≤ 64) version is (λ h. omega (arith, h)) (λ h. omega (arith, h))

-- ---- ascending lows

ascends_at : (version addr least : ℕ) (entries : List Entry) → RangeFrom version addr least entries → (k : ℕ) → k + 1 < length (map (λ (e : Entry). e.low) entries)
    → slice_index (map (λ (e : Entry). e.low) entries) k < slice_index (map (λ (e : Entry). e.low) entries) (k + 1)
unfolding RangeFrom
ascends_at version addr least [] from k within = absurd (omega (arith, within))
ascends_at version addr least (a ∷ []) from k within = absurd (omega (arith, within))
ascends_at version addr least (a ∷ b ∷ rest) from zero within = omega (arith, from.2.0)
ascends_at version addr least (a ∷ b ∷ rest) from (suc k) within =
    let one : suc (k + 1) ≡ suc k + 1 = omega arith in
    subst (λ (n : ℕ). slice_index (map (λ (e : Entry). e.low) (b ∷ rest)) k < slice_index (map (λ (e : Entry). e.low) (a ∷ b ∷ rest)) n) one
    (ascends_at version addr (a.low + 1) (b ∷ rest) from.2 k (omega (arith, within)))

each_within : (version addr least : ℕ) (entries : List Entry) → RangeFrom version addr least entries → All (IsWithin version addr) entries
unfolding RangeFrom
each_within version addr least [] from = All-nil (IsWithin version addr)
each_within version addr least (a ∷ rest) from = All-cons (IsWithin version addr) a rest from.1 (each_within version addr (a.low + 1) rest from.2)

-- an entry begins at a number or behind it, if there is one
abbrev BeginsFrom : ℕ → List Entry → Type 0
BeginsFrom least [] = Unit {0}
BeginsFrom least (entry ∷ entries) = least ≤ entry.low

next_begins : (a : Entry) (rest : List Entry) → IsStrictlyIncreasing (map (λ (e : Entry). e.low) (a ∷ rest)) → BeginsFrom (a.low + 1) rest
next_begins a [] up = tt
next_begins a (b ∷ rest) up = let less = up 0 (omega arith) in omega (arith, less)

tail_ascends : (a : Entry) (rest : List Entry) → IsStrictlyIncreasing (map (λ (e : Entry). e.low) (a ∷ rest)) → IsStrictlyIncreasing (map (λ (e : Entry). e.low) rest)
tail_ascends a rest up k within =
    let one : suc k + 1 ≡ suc (k + 1) = omega arith in
    let next : slice_index (map (λ (e : Entry). e.low) (a ∷ rest)) (suc k) < slice_index (map (λ (e : Entry). e.low) (a ∷ rest)) (suc k + 1) = up (suc k) (omega (arith, within)) in
    subst (λ (n : ℕ). slice_index (map (λ (e : Entry). e.low) rest) k < slice_index (map (λ (e : Entry). e.low) (a ∷ rest)) n) one next

ranges_from : (version addr least : ℕ) (entries : List Entry) → BeginsFrom least entries → IsStrictlyIncreasing (map (λ (e : Entry). e.low) entries) → All (IsWithin version addr) entries → RangeFrom version addr least entries
unfolding RangeFrom
ranges_from version addr least [] begins up within = tt
ranges_from version addr least (a ∷ rest) begins up within =
    (begins, All-head (IsWithin version addr) a rest within, ranges_from version addr (a.low + 1) rest (next_begins a rest up) (tail_ascends a rest up) (All-tail (IsWithin version addr) a rest within))

begins_from_zero : (entries : List Entry) → BeginsFrom 0 entries
begins_from_zero [] = tt
begins_from_zero (a ∷ rest) = omega arith

-- from 0 on: their lows ascend strictly, and each is in range
pub in_range : (version addr : ℕ) (entries : List Entry) → RangeFrom version addr 0 entries ↔ (IsStrictlyIncreasing (map (λ (e : Entry). e.low) entries) × All (IsWithin version addr) entries)
in_range version addr entries = (
  λ from. (ascends_at version addr 0 entries from, each_within version addr 0 entries from),
  λ h. ranges_from version addr 0 entries (begins_from_zero entries) h.0 h.1,
)

-- from a place on they are in range exactly where the entry there is, and those behind it
pub range_at : (version addr least i : ℕ) (a : Entry) (entries : List Entry) → i < length entries → a ≡ slice_index_or entries i a
    → RangeFrom version addr least (drop i entries) ↔ ((least ≤ a.low) × IsWithin version addr a × RangeFrom version addr (a.low + 1) (drop (i + 1) entries))
unfolding RangeFrom
range_at version addr least i a entries inside here =
    let split : drop i entries ≡ a ∷ drop (i + 1) entries = drop_more entries i a inside ∙ ap (λ (e : Entry). e ∷ drop (i + 1) entries) (sym here) in
    (λ h. subst (RangeFrom version addr least) split h, λ h. subst (RangeFrom version addr least) (sym split) h)

-- behind all of them there is none that is not
pub range_behind : (version addr least i : ℕ) (entries : List Entry) → length entries ≤ i → RangeFrom version addr least (drop i entries)
unfolding RangeFrom
range_behind version addr least i entries behind = subst (RangeFrom version addr least) (sym (drop_all i entries behind)) tt

-- ---- whole records

-- bytes are a record where head and payload are those of the value
pub whole_of_parts : (version addr : ℕ) (body : List ℕ) (value : Record) → HasParts version addr (take 32 body) (drop 32 body) value → body ≡ record_bytes version addr value
unfolding record_bytes
whole_of_parts version addr body (DataRecord block content) parts =
    sym (take-append-drop 32 body) ∙ ap (λ (bytes : List ℕ). bytes ++ drop 32 body) parts.0 ∙ ap (λ (bytes : List ℕ). head_bytes addr 1 0 0 block ++ bytes) parts.1
whole_of_parts version addr body (NodeRecord level entries) parts =
    sym (take-append-drop 32 body) ∙ ap (λ (bytes : List ℕ). bytes ++ drop 32 body) parts.0 ∙ ap (λ (bytes : List ℕ). head_bytes addr (kind_of_node version) level (length entries) 0 ++ bytes) parts.1

pub parts_of_whole : (version addr : ℕ) (body : List ℕ) (value : Record) → body ≡ record_bytes version addr value → HasParts version addr (take 32 body) (drop 32 body) value
unfolding record_bytes
parts_of_whole version addr body (DataRecord block content) same =
    let head = head_bytes addr 1 0 0 block in
    let size = length-head_bytes addr 1 0 0 block in
    (ap (take 32) same ∙ take_at head content 32 size, ap (drop 32) same ∙ drop_at head content 32 size)
parts_of_whole version addr body (NodeRecord level entries) same =
    let head = head_bytes addr (kind_of_node version) level (length entries) 0 in
    let size = length-head_bytes addr (kind_of_node version) level (length entries) 0 in
    (ap (take 32) same ∙ take_at head (entries_bytes version entries) 32 size, ap (drop 32) same ∙ drop_at head (entries_bytes version entries) 32 size)

-- bytes are a node's record exactly where their parts are those of one
pub node_found : (found : Option ℕ) (items : List Entry) (version addr : ℕ) (body front payload : List ℕ) → front ≡ take 32 body → payload ≡ drop 32 body → IfSome found (λ level. FitsRecord version addr (NodeRecord level items) × HasParts version addr front payload (NodeRecord level items)) → IfSome found (λ level. FitsRecord version addr (NodeRecord level items) × (body ≡ record_bytes version addr (NodeRecord level items)))
node_found None items version addr body front payload is-front is-payload h = tt
node_found (Some level) items version addr body front payload is-front is-payload h =
    (h.0, whole_of_parts version addr body (NodeRecord level items) (sym is-front ∙ h.1.0, sym is-payload ∙ h.1.1))

abbrev NodeAgain : Option ℕ → List Entry → ℕ → ℕ → List ℕ → Type 0
NodeAgain found read version addr body = (level : ℕ) (items : List Entry) → FitsRecord version addr (NodeRecord level items) → body ≡ record_bytes version addr (NodeRecord level items) → (found ≡ Some level) × (read ≡ items)

pub node_again : (found : Option ℕ) (read : List Entry) (version addr : ℕ) (body front payload : List ℕ) → front ≡ take 32 body → payload ≡ drop 32 body → ((level : ℕ) (items : List Entry) → FitsRecord version addr (NodeRecord level items) → HasParts version addr front payload (NodeRecord level items) → (found ≡ Some level) × (read ≡ items)) → NodeAgain found read version addr body
node_again found read version addr body front payload is-front is-payload again level items fits same =
    let parts = parts_of_whole version addr body (NodeRecord level items) same in
    again level items fits (is-front ∙ parts.0, is-payload ∙ parts.1)

pub no_node_of_again : (found : Option ℕ) (read : List Entry) (version addr : ℕ) (body : List ℕ) → NodeAgain found read version addr body → IfNone found ((level : ℕ) (items : List Entry) → FitsRecord version addr (NodeRecord level items) → body ≡ record_bytes version addr (NodeRecord level items) → ⊥)
no_node_of_again None read version addr body again = λ level items fits same. let other = (again level items fits same).0 in absurd cc
no_node_of_again (Some found) read version addr body again = tt

-- bytes are a data record exactly where their head is that of one, in each version
pub block_found : (found : Option ℕ) (version addr : ℕ) (body front : List ℕ) → front ≡ take 32 body → IsBytes 4096 (drop 32 body) → IfSome found (λ block. (block < 1048576) × (front ≡ head_bytes addr 1 0 0 block)) → IfSome found (λ block. FitsRecord version addr (DataRecord block (drop 32 body)) × (body ≡ record_bytes version addr (DataRecord block (drop 32 body))))
block_found None version addr body front is-front bytes h = tt
block_found (Some block) version addr body front is-front bytes h = ((h.0, bytes), whole_of_parts version addr body (DataRecord block (drop 32 body)) (sym is-front ∙ h.1, refl))

abbrev BlockAgain : Option ℕ → ℕ → ℕ → List ℕ → Type 0
BlockAgain found version addr body = (block : ℕ) (content : List ℕ) → FitsRecord version addr (DataRecord block content) → body ≡ record_bytes version addr (DataRecord block content) → found ≡ Some block

pub block_again : (found : Option ℕ) (version addr : ℕ) (body front : List ℕ) → front ≡ take 32 body → ((block : ℕ) → block < 1048576 → front ≡ head_bytes addr 1 0 0 block → found ≡ Some block) → BlockAgain found version addr body
block_again found version addr body front is-front again block content fits same = again block fits.0 (is-front ∙ (parts_of_whole version addr body (DataRecord block content) same).0)

pub no_block_of_again : (found : Option ℕ) (version addr : ℕ) (body : List ℕ) → BlockAgain found version addr body → IfNone found ((block : ℕ) (content : List ℕ) → FitsRecord version addr (DataRecord block content) → body ≡ record_bytes version addr (DataRecord block content) → ⊥)
no_block_of_again None version addr body again = λ block content fits same. let other = again block content fits same in absurd cc
no_block_of_again (Some found) version addr body again = tt

-- the numbers of two heads with the same bytes are the same
record SameHeads (addr kind level count block addr' kind' level' count' block' : ℕ) : Type 0 where
  same_addr : addr ≡ addr'
  same_kind : kind ≡ kind'
  same_level : level ≡ level'
  same_count : count ≡ count'
  same_block : block ≡ block'

heads_same : (addr kind level count block addr' kind' level' count' block' : ℕ) → addr < 2 ^ 64 → addr' < 2 ^ 64 → count < 2 ^ 16 → count' < 2 ^ 16 → block < 2 ^ 64 → block' < 2 ^ 64 → head_bytes addr kind level count block ≡ head_bytes addr' kind' level' count' block' → SameHeads addr kind level count block addr' kind' level' count' block'
unfolding head_fields
heads_same addr kind level count block addr' kind' level' count' block' below-addr below-addr' below-count below-count' below-block below-block' same =
    let fields : head_fields addr kind level count block ≡ head_fields addr' kind' level' count' block' = pieces_same (head_fields addr kind level count block) (head_fields addr' kind' level' count' block') refl same in
    record {
      same_addr = number_same_8 addr addr' below-addr below-addr' cc;
      same_kind = cc;
      same_level = cc;
      same_count = number_same_2 count count' below-count below-count' cc;
      same_block = number_same_8 block block' below-block below-block' cc;
    }

-- the head of a value, at an address
abbrev front_of : ℕ → ℕ → Record → List ℕ
front_of version addr (DataRecord block content) = head_bytes addr 1 0 0 block
front_of version addr (NodeRecord level entries) = head_bytes addr (kind_of_node version) level (length entries) 0

-- the bytes behind the head of a value
abbrev payload_of : ℕ → Record → List ℕ
payload_of version (DataRecord block content) = content
payload_of version (NodeRecord level entries) = entries_bytes version entries

record_is : (version addr : ℕ) (value : Record) → record_bytes version addr value ≡ front_of version addr value ++ payload_of version value
unfolding record_bytes
record_is version addr (DataRecord block content) = refl
record_is version addr (NodeRecord level entries) = refl

length-front : (version addr : ℕ) (value : Record) → length (front_of version addr value) ≡ 32
length-front version addr (DataRecord block content) = length-head_bytes addr 1 0 0 block
length-front version addr (NodeRecord level entries) = length-head_bytes addr (kind_of_node version) level (length entries) 0

-- ---- two records with the same bytes

-- two values are one, and of one version where they are nodes
abbrev pub AreOne : ℕ → ℕ → Record → Record → Type 0
AreOne version later (DataRecord block content) b = DataRecord block content ≡ b
AreOne version later (NodeRecord level entries) b = (version ≡ later) × (NodeRecord level entries ≡ b)

entries_of : (version addr level : ℕ) (entries : List Entry) → addr < 2 ^ 64 → FitsRecord version addr (NodeRecord level entries) → All (IsEntry version) entries
entries_of version addr level entries below fits = entries_fit version addr entries below (record { ascend = fits.0.ascend; lows = fits.0.lows; below = fits.0.below; keys = fits.1 })

count_below : (version addr level : ℕ) (entries : List Entry) → FitsNode version addr level entries → length entries < 2 ^ 16
count_below version addr level entries fits = omega (arith, most_at_most version (length entries) fits.version_known fits.count)

-- nodes of one version with the same heads and payloads
nodes_same : (version addr other level level' : ℕ) (entries entries' : List Entry) → addr < 2 ^ 64 → other < 2 ^ 64 → FitsRecord version addr (NodeRecord level entries) → FitsRecord version other (NodeRecord level' entries') → level ≡ level' → length entries ≡ length entries' → entries_bytes version entries ≡ entries_bytes version entries' → NodeRecord level entries ≡ NodeRecord level' entries'
nodes_same version addr other level level' entries entries' below below' fits fits' same-level same-count payloads =
    let are = entries_of version addr level entries below fits in
    let are' = entries_of version other level' entries' below' fits' in
    let sizes : length (flat_map entry_bytes entries) ≡ length (flat_map entry_bytes entries') = length-entries version entries are ∙ ap (λ (n : ℕ). entry_size version * n) same-count ∙ sym (length-entries version entries' are') in
    let parts = append_same (flat_map entry_bytes entries) (replicate (4096 - entry_size version * length entries) 0) (flat_map entry_bytes entries') (replicate (4096 - entry_size version * length entries') 0) sizes payloads in
    let same-entries : entries ≡ entries' = entries_same version entries entries' are are' same-count parts.0 in
    cc

values_same : (version later addr other : ℕ) (a b : Record) → addr < 2 ^ 64 → other < 2 ^ 64 → FitsRecord version addr a → FitsRecord later other b → front_of version addr a ≡ front_of later other b → payload_of version a ≡ payload_of later b → (addr ≡ other) × AreOne version later a b
values_same version later addr other (DataRecord block content) (DataRecord block' content') below below' fits fits' fronts payloads =
    let heads = heads_same addr 1 0 0 block other 1 0 0 block' below below' (lit< tt) (lit< tt) (omega (arith, fits.0)) (omega (arith, fits'.0)) fronts in
    let same-block : block ≡ block' = heads.same_block in
    (heads.same_addr, cc)
values_same version later addr other (DataRecord block content) (NodeRecord level entries) below below' fits fits' fronts payloads =
    let heads = heads_same addr 1 0 0 block other (kind_of_node later) level (length entries) 0 below below' (lit< tt) (count_below later other level entries fits'.0) (omega (arith, fits.0)) (lit< tt) fronts in
    absurd (omega (arith, heads.same_kind, fits'.0.version_known))
values_same version later addr other (NodeRecord level entries) (DataRecord block content) below below' fits fits' fronts payloads =
    let heads = heads_same addr (kind_of_node version) level (length entries) 0 other 1 0 0 block below below' (count_below version addr level entries fits.0) (lit< tt) (lit< tt) (omega (arith, fits'.0)) fronts in
    absurd (omega (arith, heads.same_kind, fits.0.version_known))
values_same version later addr other (NodeRecord level entries) (NodeRecord level' entries') below below' fits fits' fronts payloads =
    let heads = heads_same addr (kind_of_node version) level (length entries) 0 other (kind_of_node later) level' (length entries') 0 below below' (count_below version addr level entries fits.0) (count_below later other level' entries' fits'.0) (lit< tt) (lit< tt) fronts in
    let same-version : version ≡ later = omega (arith, heads.same_kind) in
    let fits-too : FitsRecord version other (NodeRecord level' entries') = subst (λ v. FitsRecord v other (NodeRecord level' entries')) (sym same-version) fits' in
    let payloads-too : entries_bytes version entries ≡ entries_bytes version entries' = payloads ∙ ap (λ (v : ℕ). entries_bytes v entries') (sym same-version) in
    (heads.same_addr, (same-version, nodes_same version addr other level level' entries entries' below below' fits fits-too heads.same_level heads.same_count payloads-too))

-- the bytes of a record decide its address and its value, and of a node the version
pub one_spelled : (version later addr other : ℕ) (a b : Record) → addr < 2 ^ 64 → other < 2 ^ 64 → FitsRecord version addr a → FitsRecord later other b → record_bytes version addr a ≡ record_bytes later other b → (addr ≡ other) × AreOne version later a b
one_spelled version later addr other a b below below' fits fits' same =
    let parts = append_same (front_of version addr a) (payload_of version a) (front_of later other b) (payload_of later b) (length-front version addr a ∙ sym (length-front later other b)) (sym (record_is version addr a) ∙ same ∙ record_is later other b) in
    values_same version later addr other a b below below' fits fits' parts.0 parts.1

value_is : (version later : ℕ) (a b : Record) → AreOne version later a b → a ≡ b
value_is version later (DataRecord block content) b are = are
value_is version later (NodeRecord level entries) b are = are.1

-- the same of two records of one version
pub one_record : (version addr other : ℕ) (a b : Record) → addr < 2 ^ 64 → other < 2 ^ 64 → FitsRecord version addr a → FitsRecord version other b → record_bytes version addr a ≡ record_bytes version other b → (addr ≡ other) × (a ≡ b)
one_record version addr other a b below below' fits fits' same =
    let one = one_spelled version version addr other a b below below' fits fits' same in
    (one.0, value_is version version a b one.1)

-- ---- what stands in a record's bytes

-- the kind byte of a node
pub node_kind : (version addr level : ℕ) (entries : List Entry) → slice_index (record_bytes version addr (NodeRecord level entries)) 16 ≡ kind_of_node version
unfolding record_bytes head_fields
node_kind version addr level entries = refl

-- the version of a node is read off its kind byte
pub kind_says : (version addr level : ℕ) (entries : List Entry) (body : List ℕ) → body ≡ record_bytes version addr (NodeRecord level entries) → slice_index body 16 ≡ kind_of_node version
kind_says version addr level entries body same = ap (λ (b : List ℕ). slice_index b 16) same ∙ node_kind version addr level entries

-- a record has 4,128 bytes
pub record_length : (version addr : ℕ) (value : Record) → addr < 2 ^ 64 → FitsRecord version addr value → length (record_bytes version addr value) ≡ 4128
unfolding record_bytes
record_length version addr (DataRecord block content) below fits =
    omega (arith, length-append (head_bytes addr 1 0 0 block) content, length-head_bytes addr 1 0 0 block, fits.1.0)
record_length version addr (NodeRecord level entries) below fits =
    let are = entries_of version addr level entries below fits in
    let left : ℕ = 4096 - entry_size version * length entries in
    let zeros : List ℕ = replicate left 0 in
    let room = entries_within version (length entries) fits.0.version_known fits.0.count in
    omega (arith, length-append (head_bytes addr (kind_of_node version) level (length entries) 0) (entries_bytes version entries), length-head_bytes addr (kind_of_node version) level (length entries) 0, length-append (flat_map entry_bytes entries) zeros, length-entries version entries are, length-replicate {A = ℕ} left 0, room)

-- bytes that are neither a data record nor a node's are no record
pub no_record : (version addr : ℕ) (body : List ℕ) → ((block : ℕ) (content : List ℕ) → FitsRecord version addr (DataRecord block content) → body ≡ record_bytes version addr (DataRecord block content) → ⊥) → ((level : ℕ) (items : List Entry) → FitsRecord version addr (NodeRecord level items) → body ≡ record_bytes version addr (NodeRecord level items) → ⊥) → (value : Record) → FitsRecord version addr value → body ≡ record_bytes version addr value → ⊥
no_record version addr body no-block no-node (DataRecord block content) fits same = no-block block content fits same
no_record version addr body no-block no-node (NodeRecord level items) fits same = no-node level items fits same

-- the same, of what was found
pub no_record_of : {A : Type 0} (addr : ℕ) (body : List ℕ) (found : Option A) → ((version block : ℕ) (content : List ℕ) → FitsRecord version addr (DataRecord block content) → body ≡ record_bytes version addr (DataRecord block content) → ⊥) → IfNone found ((version level : ℕ) (items : List Entry) → IsVersion version → FitsRecord version addr (NodeRecord level items) → body ≡ record_bytes version addr (NodeRecord level items) → ⊥) → IfNone found ((version : ℕ) (value : Record) → IsVersion version → FitsRecord version addr value → body ≡ record_bytes version addr value → ⊥)
no_record_of addr body (Some found) no-block no-node = tt
no_record_of addr body None no-block no-node = λ version value is fits same. no_record version addr body (no-block version) (λ level items. no-node version level items is) value fits same

-- what holds of the node that bytes are holds of the record that they are, where they are no data record
pub again_by_node : (addr : ℕ) (body : List ℕ) (P : ℕ → Record → Type 0) → ((version block : ℕ) (content : List ℕ) → FitsRecord version addr (DataRecord block content) → body ≡ record_bytes version addr (DataRecord block content) → ⊥) → ((version level : ℕ) (items : List Entry) → IsVersion version → FitsRecord version addr (NodeRecord level items) → body ≡ record_bytes version addr (NodeRecord level items) → P version (NodeRecord level items)) → (version : ℕ) (value : Record) → IsVersion version → FitsRecord version addr value → body ≡ record_bytes version addr value → P version value
again_by_node addr body P no-block by-node version (DataRecord block content) is fits same = absurd (no-block version block content fits same)
again_by_node addr body P no-block by-node version (NodeRecord level items) is fits same = by-node version level items is fits same

pub node_one : (read level : ℕ) (found items : List Entry) → Some read ≡ Some level → found ≡ items → NodeRecord read found ≡ NodeRecord level items
node_one read level found items level-same items-same = cc

-- what bytes are the record of is decided
pub only_record : (version addr : ℕ) (body : List ℕ) (found value : Record) → addr < 2 ^ 64 → FitsRecord version addr found → body ≡ record_bytes version addr found → FitsRecord version addr value → body ≡ record_bytes version addr value → found ≡ value
only_record version addr body found value below fits same fits' same' = (one_record version addr addr found value below below fits fits' (sym same ∙ same')).1
