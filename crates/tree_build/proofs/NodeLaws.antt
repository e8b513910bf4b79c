-- What one round of a build does: a node over the items of a span is sealed and appended.
use Rattle.std.proofs.Common.{◌≡◌, ℕ, ◌+◌, ◌-◌, ◌<◌, ◌^◌, List, [], ◌∷◌, ◌++◌, length, take, drop, sym, ap, subst, ◌∙◌, arith}
use Rattle.std.specs.Prelude.{All, Contains, Option, Result, Ok, IfOk}
use Rattle.std.proofs.lemmas.List.Elements.{All-take, All-drop}
use Rattle.sdbt_base.specs.Keys.{bare, version_of, IsKeyOf}
use Rattle.sdbt_base.proofs.KeyLaws.{version_with}
use Rattle.sdbt_base.specs.declared.tapes.Tape.{Ghosts as TapeGhosts}
use Rattle.platform.specs.Image.{Image}
use Rattle.platform.specs.History.{History}
use Rattle.platform.proofs.Moments.{whole-now}
use Rattle.platform.specs.declared.platforms.Platform.{Ghosts as PlatformGhosts}
use Rattle.seal_record.specs.Sealing.{masked}
use Rattle.page_digest.specs.Digest.{FitsDigest}
use Rattle.node_codec.specs.declared.body.Entry.{Entry}
use Rattle.node_codec.specs.Record.{Record, NodeRecord, FitsNode, FitsRecord, record_bytes}
use Rattle.page_store.specs.Appending.{IsPlaced}
use Rattle.page_store.specs.Buffer.{Held}
use Rattle.page_store.specs.Keeping.{KeepsKeys}
use Rattle.page_store.specs.Places.{IsRecordAt}
use Rattle.page_store.specs.declared.appending.Placed.{Placed}
use Rattle.page_store.proofs.KeepingLaws.{keeps_from}
use Rattle.page_store.proofs.RecordLaws.{record_appended}
use Rattle.tree_build.specs.declared.shapes.Span.{Span}
use Rattle.tree_build.specs.Nodes.{children_in, low_of}
use Rattle.tree_build.specs.Building.{BuildsNode}

-- the body is the record of the node, at the head
pub node_body : (s : Span) (items : List Entry) (head addr : ℕ) (before after : Held) → addr ≡ head
    → after ≡ record before { body = record_bytes 2 addr (NodeRecord s.level (take (s.first + s.count - s.first) (drop s.first items))) } → after.body ≡ record_bytes 2 head (NodeRecord s.level (children_in items s))
node_body s items head addr before after at is =
    let many : s.first + s.count - s.first ≡ s.count = omega arith in
    ap (λ (b : Held). b.body) is ∙ ap (λ (n : ℕ). record_bytes 2 addr (NodeRecord s.level (take n (drop s.first items)))) many
    ∙ ap (λ (a : ℕ). record_bytes 2 a (NodeRecord s.level (children_in items s))) at

pub children_keys : (s : Span) (items : List Entry) → All (λ (e : Entry). IsKeyOf 2 e.key) items → All (λ (e : Entry). IsKeyOf 2 e.key) (children_in items s)
children_keys s items keys = All-take (λ (e : Entry). IsKeyOf 2 e.key) s.count (drop s.first items) (All-drop (λ (e : Entry). IsKeyOf 2 e.key) s.first items keys)

-- the record of the node is at the end of the pages that there are now
node_there : (pages pages_now : List (List ℕ)) (head : ℕ) (key body : List ℕ) (value : Record) → head < 2 ^ 64 → head ≡ length pages → length key ≡ 64 → FitsRecord 2 head value
    → body ≡ record_bytes 2 head value → FitsDigest key (masked key body) → pages_now ≡ pages ++ masked key body ∷ [] → IsRecordAt pages_now head key value
node_there pages pages_now head key body value small at sized fits is digested appended =
    let version : 2 ≡ version_of key = sym (version_with key sized) in
    let same : body ≡ record_bytes (version_of key) head value = is ∙ ap (λ (v : ℕ). record_bytes v head value) version in
    let here = record_appended pages head key value small at (subst (λ (v : ℕ). FitsRecord v head value) version fits) (subst (λ (b : List ℕ). FitsDigest key (masked key b)) same digested) in
    subst (λ (ps : List (List ℕ)). IsRecordAt ps head key value) (ap (λ (b : List ℕ). pages ++ masked key b ∷ []) (sym same) ∙ sym appended) here

pub node_built : {S R : Type 0} (P : PlatformGhosts S) (T : TapeGhosts R) (x x' : S) (y y' : R) (s : Span) (items : List Entry) (body : List ℕ) (low : ℕ) (placed : Placed)
    → P.head x < 2 ^ 64 → (P.tells → length (P.history x).present.recorded ≡ P.head x) → FitsNode 2 (P.head x) s.level (children_in items s) → All (λ (e : Entry). IsKeyOf 2 e.key) items
    → body ≡ record_bytes 2 (P.head x) (NodeRecord s.level (children_in items s)) → low ≡ low_of items s → IsPlaced P T 2 body x x' y y' placed
    → BuildsNode P x x' s items (record { low = low; addr = placed.addr; key = placed.key })
node_built P T x x' y y' s items body low placed small counts fits keys is lows at =
    let value = NodeRecord s.level (children_in items s) in
    let page = masked placed.key body in
    let old = (P.history x).present in
    let sized : length placed.key ≡ 64 = at.key.0 in
    record {
      low = lows;
      addr = at.address;
      key = at.key;
      head = at.head;
      page = page;
      image = at.image;
      node = λ told.
          let size : P.head x ≡ length old.readable = sym (counts told) ∙ sym (whole-now (P.history x)).as_many in
          subst (λ (a : ℕ). IsRecordAt (P.history x').present.readable a placed.key value) (sym at.address)
          (node_there old.readable (P.history x').present.readable (P.head x) placed.key body value small size sized (fits, children_keys s items keys) is at.digested (ap (λ (i : Image). i.readable) (at.image told)));
    }

-- the key that was drawn is the one that the entry has
pub keeps_placed : {E : Type 0} (tells : Type 0) (drawn drawn_now : Option (List (List ℕ))) (old new : History) (Ready : List (List ℕ) → Type 0) (result : Result Placed E) (placed : Placed) → result ≡ Ok placed
    → KeepsKeys tells drawn drawn_now old new Ready (λ keys. IfOk result (λ (p : Placed). Contains keys (bare p.key)))
    → KeepsKeys tells drawn drawn_now old new Ready (λ keys. Contains keys (bare placed.key))
keeps_placed tells drawn drawn_now old new Ready result placed is keeps =
    keeps_from tells drawn drawn_now old new Ready Ready (λ keys. IfOk result (λ (p : Placed). Contains keys (bare p.key))) (λ keys. Contains keys (bare placed.key)) keeps
    (λ told keys ready. ready)
    (λ told keys more ready done. subst (λ r. IfOk r (λ (p : Placed). Contains (keys ++ more) (bare p.key))) is done)
