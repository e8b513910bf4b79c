-- What a key opens and yields on the page of a record: as its bytes do, without the digest.
use Rattle.std.proofs.Common.{◌≡◌, ◌==◌, ℕ, zero, suc, ◌+◌, ◌-◌, ◌*◌, ◌<◌, ◌≤◌, List, [], ◌∷◌, ◌++◌, if◌then◌else◌, map, length, take, drop, replicate, get_or, refl, sym, ◌∙◌, ap, subst, inl, inr, arith, append_assoc, drop-drop, add_comm}
use Rattle.std.specs.Prelude.{All, Contains, min, bit_xor}
use Rattle.std.specs.Int.{w16, to_be_bytes, from_be_bytes}
use Rattle.std.specs.Simd.Lanes.{zip2}
use Rattle.std.specs.List.{flat_map}
use Rattle.std.proofs.lemmas.List.{take-append-le, drop_at}
use Rattle.std.proofs.lemmas.List.Elements.{All-head, All-tail, All-map, Contains-get_or}
use Rattle.std.proofs.lemmas.Nat.{from_be_bytes-to_be_bytes_2}
use Rattle.sdbt_base.specs.Keys.{bare, key_size, entry_size, most_entries}
use Rattle.sdbt_base.proofs.KeyLaws.{bare_bare}
use Rattle.record_versions.specs.Versions.{IsVersion}
use Rattle.record_versions.specs.Laws.{by_version}
use Rattle.seal_record.specs.Keystream.{stream}
use Rattle.seal_record.specs.Sealing.{masked, stamp_of, Opens}
use Rattle.node_codec.specs.declared.body.Entry.{Entry}
use Rattle.node_codec.specs.Record.{Record, DataRecord, NodeRecord, FitsRecord, AreSized, head_fields, entry_fields, entry_bytes, entries_bytes, kind_of_node, record_bytes}
use Rattle.node_codec.specs.Laws.{length-entry_bytes, most_at_most}
use Rattle.key_graph.proofs.ChainLaws.{map_contains}
use Rattle.key_graph.specs.Opening.{part, kind_of, IsNodeKind, count_of, key_in, Yields}

-- ---- the digest of a key seals nothing

stream_bare : (key : List ℕ) → stream (bare key) ≡ stream key
unfolding stream
stream_bare key = rw (bare_bare key)

pub masked_bare : (key bytes : List ℕ) → masked (bare key) bytes ≡ masked key bytes
masked_bare key bytes = ap (λ (s : List ℕ). zip2 bit_xor bytes s) (stream_bare key)

-- ---- the stamp

stamped : (version addr : ℕ) (value : Record) → take 16 (record_bytes version addr value) ≡ stamp_of addr
unfolding record_bytes head_fields stamp_of
stamped version addr (DataRecord block content) = refl
stamped version addr (NodeRecord level entries) = refl

-- a key opens the page of a record that it sealed, at the record's address
pub opens_record : (key page : List ℕ) (version addr : ℕ) (value : Record) → masked key page ≡ record_bytes version addr value → Opens key addr page
opens_record key page version addr value spelled = ap (take 16) spelled ∙ stamped version addr value

-- ---- a data record yields nothing

pub data_kind : (version addr block : ℕ) (content : List ℕ) → kind_of (record_bytes version addr (DataRecord block content)) ≡ 1
unfolding record_bytes head_fields
data_kind version addr block content = refl

pub data_yields : (key page other : List ℕ) (version addr block : ℕ) (content : List ℕ) → masked key page ≡ record_bytes version addr (DataRecord block content) → Yields key page other → ⊥
data_yields key page other version addr block content spelled yields =
    let kind : kind_of (masked key page) ≡ 1 = ap kind_of spelled ∙ data_kind version addr block content in
    let node : IsNodeKind (kind_of (masked key page)) yields.size = yields.node in
    omega (arith, kind, node)

-- ---- a node yields the keys of its entries

pub node_kind : (version addr level : ℕ) (entries : List Entry) → kind_of (record_bytes version addr (NodeRecord level entries)) ≡ kind_of_node version
unfolding record_bytes head_fields
node_kind version addr level entries = refl

-- the size of an entry goes with the kind
size_is : (version kind size : ℕ) → IsVersion version → kind ≡ kind_of_node version → IsNodeKind kind size → size ≡ entry_size version
size_is version kind size is = by_version (λ (v : ℕ). kind ≡ kind_of_node v → IsNodeKind kind size → size ≡ entry_size v) version is (λ k n. omega (arith, k, n)) (λ k n. omega (arith, k, n))

kind_is : (version kind : ℕ) → IsVersion version → kind ≡ kind_of_node version → IsNodeKind kind (entry_size version)
kind_is version kind is = by_version (λ (v : ℕ). kind ≡ kind_of_node v → IsNodeKind kind (entry_size v)) version is (λ k. inl (k, refl)) (λ k. inr (k, refl))

node_count_bytes : (version addr level : ℕ) (entries : List Entry) → part 18 2 (record_bytes version addr (NodeRecord level entries)) ≡ to_be_bytes w16 (length entries)
unfolding record_bytes head_fields
node_count_bytes version addr level entries = refl

within_room : (version count : ℕ) → IsVersion version → count ≤ most_entries version → min count (if entry_size version == 80 then 51 else 85) ≡ count
within_room version count is = by_version (λ (v : ℕ). count ≤ most_entries v → min count (if entry_size v == 80 then 51 else 85) ≡ count) version is (λ h. omega (arith, h)) (λ h. omega (arith, h))

node_count : (version addr level : ℕ) (entries : List Entry) → IsVersion version → length entries ≤ most_entries version → count_of (entry_size version) (record_bytes version addr (NodeRecord level entries)) ≡ length entries
node_count version addr level entries is few =
    let small = most_at_most version (length entries) is few in
    let count : from_be_bytes w16 (part 18 2 (record_bytes version addr (NodeRecord level entries))) ≡ length entries
    = ap (from_be_bytes w16) (node_count_bytes version addr level entries) ∙ from_be_bytes-to_be_bytes_2 (length entries) (omega (arith, small)) in
    ap (λ (n : ℕ). min n (if entry_size version == 80 then 51 else 85)) count ∙ within_room version (length entries) is few

-- a key has 32 bytes at least
key_long : (version : ℕ) → IsVersion version → 32 ≤ key_size version
key_long version is = by_version (λ (v : ℕ). 32 ≤ key_size v) version is (omega arith) (omega arith)

-- the key of an entry, behind so many entries
entry_key : (version : ℕ) (entries : List Entry) (rest : List ℕ) (i at : ℕ) (d : Entry) → IsVersion version → at ≡ entry_size version * i + 16 → i < length entries → AreSized version entries → take 32 (drop at (flat_map entry_bytes entries ++ rest)) ≡ bare (get_or entries i d).key
unfolding entry_fields
entry_key version [] rest i at d known is below sizes = absurd (omega arith)
entry_key version (entry ∷ entries) rest zero at d known is below sizes =
    let size : length entry.key ≡ key_size version = All-head (λ (e : Entry). length e.key ≡ key_size version) entry entries sizes in
    let flat = flat_map entry_bytes entries in
    let sixteen : at ≡ 16 = omega arith in
    ap (λ (n : ℕ). take 32 (drop n ((entry_bytes entry ++ flat) ++ rest))) sixteen
    ∙ ap (take 32) (append_assoc (entry.key ++ []) flat rest ∙ append_assoc entry.key [] (flat ++ rest))
    ∙ take-append-le 32 entry.key (flat ++ rest) (omega (arith, size, key_long version known))
entry_key version (entry ∷ entries) rest (suc i) at d known is below sizes =
    let one = entry_size version in
    let size : length (entry_bytes entry) ≡ one = length-entry_bytes version entry (All-head (λ (e : Entry). length e.key ≡ key_size version) entry entries sizes) in
    let flat = flat_map entry_bytes entries in
    let more : at ≡ one + (at - one) = omega arith in
    ap (λ (n : ℕ). take 32 (drop n ((entry_bytes entry ++ flat) ++ rest))) more
    ∙ ap (take 32) (sym (drop-drop (at - one) one ((entry_bytes entry ++ flat) ++ rest)))
    ∙ ap (λ (xs : List ℕ). take 32 (drop (at - one) xs)) (ap (drop one) (append_assoc (entry_bytes entry) flat rest) ∙ drop_at (entry_bytes entry) (flat ++ rest) one size)
    ∙ entry_key version entries rest i (at - one) d known (omega arith) (omega arith) (All-tail (λ (e : Entry). length e.key ≡ key_size version) entry entries sizes)

behind_head : (version addr level : ℕ) (entries : List Entry) (n : ℕ) → drop (n + 32) (record_bytes version addr (NodeRecord level entries)) ≡ drop n (entries_bytes version entries)
unfolding record_bytes head_fields
behind_head version addr level entries n =
    ap (λ (m : ℕ). drop m (record_bytes version addr (NodeRecord level entries))) (add_comm n 32)
    ∙ sym (drop-drop n 32 (record_bytes version addr (NodeRecord level entries)))

node_key : (version addr level : ℕ) (entries : List Entry) (i : ℕ) (d : Entry) → IsVersion version → i < length entries → AreSized version entries → key_in (entry_size version) (record_bytes version addr (NodeRecord level entries)) i ≡ bare (get_or entries i d).key
node_key version addr level entries i d is below sizes =
    let at : ℕ = entry_size version * i + 16 in
    let here : entry_size version * i + 48 ≡ at + 32 = omega arith in
    ap (λ (n : ℕ). take 32 (drop n (record_bytes version addr (NodeRecord level entries)))) here
    ∙ ap (take 32) (behind_head version addr level entries at)
    ∙ entry_key version entries (replicate (4096 - entry_size version * length entries) 0) i at d is refl below sizes

pub node_yields : (key page other : List ℕ) (version addr level : ℕ) (entries : List Entry) → FitsRecord version addr (NodeRecord level entries) → masked key page ≡ record_bytes version addr (NodeRecord level entries) → Yields key page other → Contains (map (λ e. bare e.key) entries) other
node_yields key page other version addr level entries fits spelled yields =
    let known = fits.0.version_known in
    let size : yields.size ≡ entry_size version = size_is version (kind_of (masked key page)) yields.size known (ap kind_of spelled ∙ node_kind version addr level entries) yields.node in
    let count : count_of yields.size (masked key page) ≡ length entries = ap (λ (n : ℕ). count_of n (masked key page)) size ∙ ap (count_of (entry_size version)) spelled ∙ node_count version addr level entries known fits.0.count in
    let below : yields.entry < length entries = let within = yields.within in omega (arith, count, within) in
    let d : Entry = record { low = 0; addr = 0; key = [] } in
    let is : other ≡ bare (get_or entries yields.entry d).key = yields.here ∙ (ap (λ (n : ℕ). key_in n (masked key page) yields.entry) size ∙ ap (λ (b : List ℕ). key_in (entry_size version) b yields.entry) spelled ∙ node_key version addr level entries yields.entry d known below fits.0.sized) in
    subst (Contains (map (λ (e : Entry). bare e.key) entries)) (sym is) (map_contains (λ (e : Entry). bare e.key) entries (get_or entries yields.entry d) (Contains-get_or entries yields.entry d below))

pub yields_node : (key page : List ℕ) (version addr level : ℕ) (entries : List Entry) → FitsRecord version addr (NodeRecord level entries) → masked key page ≡ record_bytes version addr (NodeRecord level entries) → All (Yields key page) (map (λ e. bare e.key) entries)
yields_node key page version addr level entries fits spelled =
    let known = fits.0.version_known in
    All-map (Yields key page) (λ (e : Entry). bare e.key) entries (λ k d inside. record {
      entry = k;
      size = entry_size version;
      node = kind_is version (kind_of (masked key page)) known (ap kind_of spelled ∙ node_kind version addr level entries);
      within = let count = ap (count_of (entry_size version)) spelled ∙ node_count version addr level entries known fits.0.count in omega (arith, count, inside);
      here = sym (ap (λ (b : List ℕ). key_in (entry_size version) b k) spelled ∙ node_key version addr level entries k d known inside fits.0.sized);
    })
