-- What a format does, whether its last step was taken or failed.
use Rattle.std.proofs.Common.{◌≡◌, ◌∙◌, ◌+◌, ◌≤◌, ◌⊎◌, ℕ, List, [], ◌∷◌, Some, None, inr, refl, ap, sym, subst, arith, length, length-append}
use Rattle.std.specs.Prelude.{Option, Contains}
use Rattle.std.proofs.lemmas.List.Elements.{All-nil, All-cons}
use Rattle.sdbt_base.specs.Arrays.{Device, new_device}
use Rattle.sdbt_base.specs.Traces.{NodeOver}
use Rattle.platform.specs.Image.{Image, LeavesOnly, with_page, all_synced}
use Rattle.platform.specs.History.{History, Steps, During, Turns}
use Rattle.platform.proofs.Moments.{During-step, whole-now, Extends-earlier}
use Rattle.seal_record.specs.Sealing.{masked}
use Rattle.sdbt_base.specs.Keys.{bare}
use Rattle.node_codec.specs.declared.body.Entry.{Entry}
use Rattle.node_codec.specs.Record.{Record, NodeRecord, FitsRecord, record_bytes}
use Rattle.root_codec.specs.declared.root.Root.{Root}
use Rattle.root_codec.specs.RootRecord.{root_bytes}
use Rattle.page_store.specs.Tree.{Place, Tree}
use Rattle.page_store.specs.Stands.{Stands, StandsBy, IsSound}
use Rattle.page_store.specs.Keeping.{KeepsKeys, IsNextRecord}
use Rattle.page_store.specs.Floors.{Forgets, HasPlace, low_of}
use Rattle.page_store.proofs.StandsLaws.{stands_with_page}
use Rattle.page_store.proofs.KeptLaws.{tree_later}
use Rattle.page_store.proofs.KeepingLaws.{IsPublished, keeps_idle, keeps_from, keeps_then, keeps_published}
use Rattle.page_store.proofs.FloorLaws.{forgets_still, forgets_published, low_few, succeeds_tree}
use Rattle.device_terms.specs.Served.{IsServedImage}
use Rattle.device_terms.specs.Effects.{Discloses}
use Rattle.device_terms.specs.Certifying.{Certifies}
use Rattle.device_terms.proofs.MomentLaws.{one_look, call_more, then_published, once, stays_once}
use Rattle.device_terms.proofs.ServedLaws.{serves_still, serves_turned, served_published}
use Rattle.device_terms.proofs.StandingLaws.{turns_stands}
use Rattle.device_terms.proofs.PuttingLaws.{Published, published_done, puts_entry}
use Rattle.device_core.specs.Certifying.{IsOfFormat, IsFirstEntry}
use Rattle.device_core.proofs.FirstLaws.{IsFirst, leaf_page, with_root, parts_of, leaf_in_range, first_stands}

-- the calls of a format: a look at an empty cell, the append of an empty leaf, and the publishing of its root record
pub record IsFormatting (tells : Type 0) (old looked mid new : History) (root : Root) (blocks order : ℕ) : Type 0 where
  pub first : IsFirst root blocks order
  pub look : tells → Steps old looked
  pub same : tells → looked.present ≡ old.present
  pub empty : tells → old.present.cell ≡ None
  pub at_end : tells → root.addr ≡ length looked.present.recorded
  pub steps : tells → Steps looked mid
  pub cell : tells → mid.present.cell ≡ looked.present.cell
  pub appended : tells → mid.present ≡ with_page looked.present (leaf_page root) (leaf_page root)
  pub stays : tells → length new.present.recorded ≡ length mid.present.recorded
  pub turns : tells → Turns mid new (λ image. image.cell ≡ mid.present.cell) (λ image. image ≡ with_root mid.present root)

-- the page that was appended is the empty leaf's
pub first_page : (looked mid : Image) (root : Root) (at : ℕ) (body : List ℕ) → mid ≡ with_page looked (masked root.key body) (masked root.key body) → body ≡ record_bytes 1 at (NodeRecord 1 []) → at ≡ root.addr
    → mid ≡ with_page looked (leaf_page root) (leaf_page root)
first_page looked mid root at body appended is here =
    appended ∙ ap (λ (b : List ℕ). with_page looked (masked root.key b) (masked root.key b)) (is ∙ ap (λ (n : ℕ). record_bytes 1 n (NodeRecord 1 [])) here)

-- until the last step the cell is as it was
look_still : (tells : Type 0) (old looked mid new : History) (root : Root) (blocks order : ℕ) → IsFormatting tells old looked mid new root blocks order → tells → During old mid (λ image. image.cell ≡ old.present.cell)
look_still tells old looked mid new root blocks order all told = call_more old looked mid (one_look old looked (all.look told) (all.same told)) (all.steps told) (all.cell told)

format_once : (tells : Type 0) (old looked mid new : History) (root : Root) (blocks order : ℕ) → IsFormatting tells old looked mid new root blocks order → tells
    → Turns old new (λ image. image.cell ≡ old.present.cell) (λ image. image ≡ with_root mid.present root)
format_once tells old looked mid new root blocks order all told = then_published old mid new (with_root mid.present root) (look_still tells old looked mid new root blocks order all told) (all.turns told)

-- what the last step makes stands for the new device
made_stands : (tells : Type 0) (old looked mid new : History) (root : Root) (blocks order : ℕ) → IsFormatting tells old looked mid new root blocks order → tells → StandsBy (with_root mid.present root) (new_device blocks order) root (parts_of root)
made_stands tells old looked mid new root blocks order all told =
    subst (λ (i : Image). StandsBy (with_root i root) (new_device blocks order) root (parts_of root)) (sym (all.appended told))
    (first_stands looked.present root blocks order (whole-now looked) all.first (all.at_end told))

-- it has one page more than there were
made_size : (tells : Type 0) (old looked mid new : History) (root : Root) (blocks order : ℕ) → IsFormatting tells old looked mid new root blocks order → tells → length mid.present.recorded ≡ root.addr + 1
made_size tells old looked mid new root blocks order all told =
    let many : length mid.present.recorded ≡ length (with_page looked.present (leaf_page root) (leaf_page root)).recorded = ap (λ (i : Image). length i.recorded) (all.appended told) in
    omega (arith, many, length-append looked.present.recorded (leaf_page root ∷ []), all.at_end told)

-- and can be served
made_served : (tells : Type 0) (old looked mid new : History) (root : Root) (blocks order : ℕ) → IsFormatting tells old looked mid new root blocks order → tells → IsServedImage (with_root mid.present root)
made_served tells old looked mid new root blocks order all told =
    served_published (all_synced mid.present) root (root.addr + 1) (made_size tells old looked mid new root blocks order all told)
    (record { in_range = all.first.fits; key = all.first.key; within = omega (arith, all.first.head) })

pub format_time : (tells : Type 0) (old looked mid new : History) (root : Root) (blocks order : ℕ) (device : Option Device) → IsFormatting tells old looked mid new root blocks order → tells → Stands old.present device
    → Turns old new (LeavesOnly (λ left. Stands left device)) (LeavesOnly (λ left. Stands left (Some (new_device blocks order))))
format_time tells old looked mid new root blocks order device all told stands =
    turns_stands old new (with_root mid.present root) device (Some (new_device blocks order)) stands
    (root, parts_of root, made_stands tells old looked mid new root blocks order all told)
    (format_once tells old looked mid new root blocks order all told)

-- where the last step was taken, the image stands for the new device, and can be served
pub format_stands : (tells : Type 0) (old looked mid new : History) (root : Root) (blocks order : ℕ) → IsFormatting tells old looked mid new root blocks order → tells → new.present ≡ with_root mid.present root
    → Stands new.present (Some (new_device blocks order)) × IsServedImage new.present
format_stands tells old looked mid new root blocks order all told published = (
  subst (λ (i : Image). Stands i (Some (new_device blocks order))) (sym published) (root, parts_of root, made_stands tells old looked mid new root blocks order all told),
  subst IsServedImage (sym published) (made_served tells old looked mid new root blocks order all told),
)

-- ---- what is disclosed

look_keeps : (tells : Type 0) (drawn : Option (List (List ℕ))) (old looked : History) → (tells → Steps old looked) → (tells → looked.present ≡ old.present)
    → KeepsKeys tells drawn drawn old looked (λ keys. IsSound old.present) (λ keys. IsSound looked.present)
look_keeps tells drawn old looked look same =
    keeps_idle tells drawn drawn old looked (λ keys. IsSound old.present) (λ keys. IsSound looked.present) refl
    (λ told. During-step old looked (λ image. image ≡ old.present) (look told) refl (same told))
    (λ told keys kept sound. subst IsSound (sym (same told)) sound)

-- where nothing was appended
pub look_discloses : (tells : Type 0) (drawn : Option (List (List ℕ))) (old looked : History) → (tells → Steps old looked) → (tells → looked.present ≡ old.present)
    → Discloses tells drawn drawn old looked (λ keys. IsSound old.present) (λ keys. Unit {0})
look_discloses tells drawn old looked look same = record {
  keys =
      keeps_from tells drawn drawn old looked (λ keys. IsSound old.present) (λ keys. IsSound old.present) (λ keys. IsSound looked.present) (λ keys. Unit {0}) (look_keeps tells drawn old looked look same) (λ told keys ready. ready)
      (λ told keys more ready done. tt);
  turns = λ told. stays_once old looked (one_look old looked (look told) (same told));
  serves = λ told. serves_still old looked (one_look old looked (look told) (same told));
  forgets = λ told keys sound. forgets_still old looked sound (one_look old looked (look told) (same told));
}

-- a call that appends a body where it is a record of the address
abbrev pub Appends : Type 0 → Option (List (List ℕ)) → Option (List (List ℕ)) → History → History → List ℕ → ℕ → (List (List ℕ) → Type 0) → Type 0
Appends tells drawn drawn_now old new body at Done =
    (version : ℕ) (value : Record) → FitsRecord version at value → body ≡ record_bytes version at value → KeepsKeys tells drawn drawn_now old new (IsNextRecord old.present value) Done

-- a look, and then the append of an empty leaf
appends_keep : (tells : Type 0) (drawn drawn_now : Option (List (List ℕ))) (old looked mid : History) (body : List ℕ) (addr at : ℕ) (Done : List (List ℕ) → Type 0)
    → (tells → Steps old looked) → (tells → looked.present ≡ old.present)
    → Appends tells drawn drawn_now looked mid body at Done
    → body ≡ record_bytes 1 addr (NodeRecord 1 []) → addr ≡ at
    → KeepsKeys tells drawn drawn_now old mid (λ keys. IsSound old.present) (λ keys. IsSound looked.present × Done keys)
appends_keep tells drawn drawn_now old looked mid body addr at Done look same append is here =
    let leaf : Record = NodeRecord 1 [] in
    keeps_then tells drawn drawn drawn_now old looked mid (λ keys. IsSound old.present) (λ keys. IsSound looked.present) (IsNextRecord looked.present leaf) Done (λ keys. IsSound looked.present × Done keys)
    (look_keeps tells drawn old looked look same) (append 1 leaf (leaf_in_range at) (is ∙ ap (λ (n : ℕ). record_bytes 1 n leaf) here))
    (λ told keys kept sound. record { device = sound.0; stands = sound.1; listed = All-nil (λ (e : Entry). Contains keys (bare e.key)) })
    (λ told keys more sound done. (sound, done))

-- where the append failed
pub first_discloses : (tells : Type 0) (drawn drawn_now : Option (List (List ℕ))) (old looked mid : History) (body : List ℕ) (addr at : ℕ) (Done : List (List ℕ) → Type 0)
    → (tells → Steps old looked) → (tells → looked.present ≡ old.present) → Appends tells drawn drawn_now looked mid body at Done → body ≡ record_bytes 1 addr (NodeRecord 1 []) → addr ≡ at
    → (tells → Steps looked mid) → (tells → mid.present.cell ≡ looked.present.cell)
    → Discloses tells drawn drawn_now old mid (λ keys. IsSound old.present) (λ keys. Unit {0})
first_discloses tells drawn drawn_now old looked mid body addr at Done look same append is here steps cell = record {
  keys =
      keeps_from tells drawn drawn_now old mid (λ keys. IsSound old.present) (λ keys. IsSound old.present) (λ keys. IsSound looked.present × Done keys) (λ keys. Unit {0})
      (appends_keep tells drawn drawn_now old looked mid body addr at Done look same append is here) (λ told keys ready. ready) (λ told keys more ready done. tt);
  turns = λ told. stays_once old mid (still told);
  serves = λ told. serves_still old mid (still told);
  forgets = λ told keys sound. forgets_still old mid sound (still told);
}
  where
    still : tells → During old mid (λ image. image.cell ≡ old.present.cell)
    still told = call_more old looked mid (one_look old looked (look told) (same told)) (steps told) (cell told)

-- the place of the empty leaf
abbrev leaf_place : Root → Place
leaf_place root = record { addr = root.addr; key = root.key; trace = NodeOver [] }

-- what the last step publishes, where the key of the leaf is listed
publishes : (tells : Type 0) (old looked mid new : History) (root : Root) (blocks order : ℕ) (keys : List (List ℕ)) → IsFormatting tells old looked mid new root blocks order → tells → IsSound looked.present → Contains keys (bare root.key)
    → IsPublished mid.present (with_root mid.present root) keys
publishes tells old looked mid new root blocks order keys all told sound own = record {
  device = sound.0;
  stands = subst (λ (i : Image). Stands i sound.0) (sym (all.appended told)) (stands_with_page looked.present (leaf_page root) (leaf_page root) sound.0 sound.1);
  next = new_device blocks order;
  root = root;
  parts = parts_of root;
  tree = made_stands tells old looked mid new root blocks order all told;
  own = own;
  listed = All-cons (λ (p : Place). Contains keys (bare p.key)) (leaf_place root) [] own (All-nil (λ (p : Place). Contains keys (bare p.key)));
}

-- a leaf is published where there was none
first_forgets : (tells : Type 0) (old looked mid new : History) (root : Root) (blocks order : ℕ) → IsFormatting tells old looked mid new root blocks order → tells → IsSound old.present → Forgets old new
first_forgets tells old looked mid new root blocks order all told sound =
    let X = with_root mid.present root in
    let stands = made_stands tells old looked mid new root blocks order all told in
    let few = low_few old.present sound (whole-now old).synced in
    let same : length old.present.recorded ≡ root.addr = ap (λ (i : Image). length i.recorded) (sym (all.same told)) ∙ sym (all.at_end told) in
    let low : low_of old.present ≤ root.addr = omega (arith, few, same) in
    let Newer : Place → Type 0 = λ (p : Place). HasPlace old.present p ⊎ (low_of old.present ≤ p.addr) in
    forgets_published old new X sound (Some (new_device blocks order), (root, parts_of root, stands)) (format_once tells old looked mid new root blocks order all told)
    (succeeds_tree old.present X (new_device blocks order) root (parts_of root) stands low (omega (arith, all.first.head)) (all.first.head ∙ sym (made_size tells old looked mid new root blocks order all told))
    (All-cons Newer (leaf_place root) [] (inr low) (All-nil Newer))
    (λ former is there. let no : None ≡ Some (root_bytes former) = sym (all.empty told) ∙ is.cell in cc))

-- where the leaf was appended
pub format_discloses : (tells : Type 0) (drawn drawn_now : Option (List (List ℕ))) (old looked mid new : History) (root : Root) (blocks order : ℕ) (body : List ℕ) (given at : ℕ)
    → IsFormatting tells old looked mid new root blocks order → Appends tells drawn drawn_now looked mid body at (λ keys. Contains keys (bare root.key)) → body ≡ record_bytes 1 given (NodeRecord 1 []) → given ≡ at
    → Discloses tells drawn drawn_now old new (λ keys. IsSound old.present) (λ keys. Unit {0})
format_discloses tells drawn drawn_now old looked mid new root blocks order body given at all append is here =
    let X = with_root mid.present root in
    let turns : tells → Turns old new (λ image. image.cell ≡ old.present.cell) (λ image. image ≡ X) = format_once tells old looked mid new root blocks order all in
    record {
      keys =
          keeps_then tells drawn drawn_now drawn_now old mid new (λ keys. IsSound old.present) (λ keys. IsSound looked.present × Contains keys (bare root.key)) (IsPublished mid.present X) (λ keys. Unit {0}) (λ keys. Unit {0})
          (appends_keep tells drawn drawn_now old looked mid body given at (λ keys. Contains keys (bare root.key)) all.look all.same append is here)
          (keeps_published tells drawn_now mid new X (λ keys. Unit {0}) refl all.stays all.turns (λ told keys ready. tt))
          (λ told keys kept mids. publishes tells old looked mid new root blocks order keys all told mids.0 mids.1)
          (λ told keys more mids done. tt);
      turns = λ told. once old new X (turns told);
      serves = λ told served. serves_turned old new X (turns told) served (made_served tells old looked mid new root blocks order all told);
      forgets = λ told keys sound. first_forgets tells old looked mid new root blocks order all told sound;
    }

-- ---- what is put to the ledger

-- the tree of the first root record
first_tree : (tells : Type 0) (old looked mid new : History) (root : Root) (blocks order : ℕ) → IsFormatting tells old looked mid new root blocks order → tells → Tree new.present.readable root (parts_of root)
first_tree tells old looked mid new root blocks order all told =
    tree_later mid.present new.present root (parts_of root) (Extends-earlier mid new (all.turns told).extends) (made_stands tells old looked mid new root blocks order all told).tree

-- its entry is that of the certificate of this tree, and of none before it
first_cert : (tells : Type 0) (old looked mid new : History) (root : Root) (blocks order : ℕ) (line : List ℕ) → IsFormatting tells old looked mid new root blocks order → tells → (e : IsFirstEntry root.addr line)
    → IsOfFormat old.present new.present root e.cert
first_cert tells old looked mid new root blocks order line all told e =
    let many : root.addr ≡ length old.present.recorded = all.at_end told ∙ ap (λ (i : Image). length i.recorded) (all.same told) in (
      all.empty told,
      record {
        after = parts_of root;
        tree = first_tree tells old looked mid new root blocks order all told;
        is = record {
          numbered = e.of.numbered ∙ sym all.first.commit;
          rooted = e.of.rooted;
          begins = e.of.begins ∙ many;
          ends = e.of.ends ∙ sym all.first.head;
          added = e.of.added;
          gone = e.of.gone;
          never = e.of.never;
          added_ascend = e.of.added_ascend;
          gone_ascend = e.of.gone_ascend;
          never_ascend = e.of.never_ascend;
        };
      },
    )

pub format_certifies : (tells : Type 0) (written written_now : Option (List ℕ)) (old looked mid new : History) (root : Root) (blocks order at pages : ℕ) (line : List ℕ) (Was Done : Type 0) → ((Was → ⊥) → Done → ⊥) → root.addr ≡ pages → at ≡ pages
    → IsFormatting tells old looked mid new root blocks order → IsFirstEntry at line
    → Published tells written written_now mid new line root Was
    → Certifies tells written written_now old new pages 0 (IsOfFormat old.present new.present) Done
format_certifies tells written written_now old looked mid new root blocks order at pages line Was Done never here there all entry put =
    let e = subst (λ (n : ℕ). IsFirstEntry n line) (there ∙ sym here) entry in
    inr record {
      cert = e.cert;
      in_text = e.in_text;
      root = root;
      in_range = all.first.fits;
      number = all.first.commit;
      speaks = record { commit = e.of.numbered ∙ sym all.first.commit; begins = e.of.begins ∙ here; node = e.of.rooted; head = e.of.ends ∙ sym all.first.head };
      is = λ told. first_cert tells old looked mid new root blocks order line all told e;
      put = puts_entry tells written written_now old mid new line e.cert root Done e.is (λ told. look_still tells old looked mid new root blocks order all told)
          (published_done tells written written_now mid new line root Was Done never put);
    }
