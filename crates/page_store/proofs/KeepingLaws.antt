-- What calls do to the keys that images keep, one after the other.
use Rattle.std.proofs.Common.{◌≡◌, ◌⊎◌, inl, inr, ℕ, zero, suc, ◌+◌, ◌<◌, ◌≤◌, List, [], ◌∷◌, ◌++◌, map, length, take, get_or, refl, sym, ◌∙◌, ap, subst, arith, append-nil, append_assoc, zero-add, length-append}
use Rattle.std.specs.Prelude.{All, Option, None, Some, Contains, slice_get}
use Rattle.std.specs.Option.{option_map}
use Rattle.std.proofs.lemmas.Bool.{cases_lt}
use Rattle.std.proofs.lemmas.Option.{slice_get_within, slice_get-get_or}
use Rattle.std.proofs.lemmas.List.Elements.{All-contains, All-map, Contains-append_left, Contains-push}
use Rattle.sdbt_base.specs.Keys.{bare}
use Rattle.sdbt_base.specs.Told.{Drew}
use Rattle.platform.specs.Image.{Image, IsEarlier, MayHavePage}
use Rattle.platform.specs.History.{History, Extends, During, Steps, Turns}
use Rattle.platform.proofs.Moments.{During-then, During-now, During-step, During-weaker, Extends-trans, Extends-earlier}
use Rattle.seal_record.specs.Sealing.{masked, Opens}
use Rattle.seal_record.proofs.SealingLaws.{masked-masked}
use Rattle.node_codec.specs.declared.body.Entry.{Entry}
use Rattle.node_codec.specs.Record.{Record, DataRecord, NodeRecord, FitsRecord, record_bytes}
use Rattle.key_graph.specs.Opening.{Yields}
use Rattle.root_codec.specs.declared.root.Root.{Root}
use Rattle.sdbt_base.specs.Arrays.{Device}
use Rattle.page_store.specs.Tree.{Parts}
use Rattle.page_store.specs.Stands.{StandsBy, Stands}
use Rattle.key_graph.specs.OwnKeys.{HaveOwnKeys}
use Rattle.key_graph.specs.Maps.{AreOpenedBy}
use Rattle.key_graph.proofs.ChainLaws.{contains_at}
use Rattle.page_store.specs.Kept.{Kept}
use Rattle.page_store.specs.Keeping.{DrewAll, IsSealedRecord, IsAdded, HandedOver, KeepsKeys, ListsKeys, IsNextRecord}
use Rattle.page_store.proofs.RecordYields.{opens_record, data_yields, node_yields}
use Rattle.page_store.proofs.KeptLaws.{kept_drawn, kept_append, kept_stands, kept_published}

same_some : {A : Type 0} (x y : A) → Some x ≡ Some y → x ≡ y
same_some x y same = cc

-- ---- no key is drawn

pub drew_none : (drawn drawn_now : Option (List (List ℕ))) → drawn_now ≡ drawn → DrewAll drawn [] drawn_now
drew_none None drawn_now same = same
drew_none (Some keys) drawn_now same = same ∙ ap Some (sym (append-nil keys))

-- ---- one key is drawn, and a page sealed under it is appended

last_page : (pages : List (List ℕ)) (page read : List ℕ) (addr : ℕ) → length pages ≤ addr → slice_get (pages ++ page ∷ []) addr ≡ Some read → (addr ≡ length pages) × (page ≡ read)
last_page [] page read zero past there = (refl, same_some page read there)
last_page [] page read (suc addr) past there = absurd cc
last_page (first ∷ pages) page read zero past there = absurd (omega arith)
last_page (first ∷ pages) page read (suc addr) past there = let rest = last_page pages page read addr (omega arith) there in (ap suc rest.0, rest.1)

yields_listed : (keys : List (List ℕ)) (key body other : List ℕ) (version addr : ℕ) (value : Record) → FitsRecord version addr value → ListsKeys keys value → masked key (masked key body) ≡ record_bytes version addr value → Yields key (masked key body) other → Contains (keys ++ key ∷ []) other
yields_listed keys key body other version addr (DataRecord block content) fits listed spelled yields = absurd (data_yields key (masked key body) other version addr block content spelled yields)
yields_listed keys key body other version addr (NodeRecord level entries) fits listed spelled yields =
    Contains-append_left keys (key ∷ []) other
    (All-contains (Contains keys) (map (λ (e : Entry). bare e.key) entries) other
    (All-map (Contains keys) (λ (e : Entry). bare e.key) entries listed)
    (node_yields key (masked key body) other version addr level entries fits spelled yields))

-- no page was added
handed_none : (keys : List (List ℕ)) (before after : Image) → length after.recorded ≡ length before.recorded → HandedOver keys before after
handed_none keys before after size = record {
  position = λ addr. 0;
  sealed = λ addr page added there. absurd (let low = added.0 in let high = added.1 in omega (arith, low, high, size));
  apart = λ one other added added' same. absurd (let low = added.0 in let high = added.1 in omega (arith, low, high, size));
}

-- one page was added, or none
handed_one : (key body : List ℕ) (version addr : ℕ) (value : Record) (before after : Image) → length body ≡ 4128 → FitsRecord version addr value → body ≡ record_bytes version addr value → addr ≡ length before.recorded → MayHavePage before (masked key body) after → HandedOver (key ∷ []) before after
handed_one key body version addr value before after size fits spelled at (inl same) = handed_none (key ∷ []) before after (ap (λ (i : Image). length i.recorded) same)
handed_one key body version addr value before after size fits spelled at (inr (reads, same)) =
    let pages = before.recorded in
    let page = masked key body in
    let pushed : length (pages ++ page ∷ []) ≡ length pages + 1 = simp length-append in
    let longer : length after.recorded ≡ length pages + 1 = ap (λ (i : Image). length i.recorded) same ∙ pushed in
    record {
      position = λ n. 0;
      sealed = λ n read added there.
          let last = last_page pages page read n added.0 (ap (λ (i : Image). slice_get i.recorded n) (sym same) ∙ there) in
          let here : addr ≡ n = at ∙ sym last.0 in
          record {
            key = key;
            listed = refl;
            version = version;
            value = value;
            in_range = subst (λ (m : ℕ). FitsRecord version m value) here fits;
            spelled = ap (masked key) (sym last.1) ∙ (masked-masked key body (omega (arith, size)) ∙ (spelled ∙ ap (λ (m : ℕ). record_bytes version m value) here));
          };
      apart = λ one other added added' same_place.
          let a = added.0 in let b = added.1 in let c = added'.0 in let d = added'.1 in omega (arith, a, b, c, d, longer);
    }

pub keeps_append : (tells : Type 0) (drawn drawn_now : Option (List (List ℕ))) (key body : List ℕ) (version addr : ℕ) (value : Record) (old new : History) (Done : List (List ℕ) → Type 0)
    → length body ≡ 4128 → FitsRecord version addr value → body ≡ record_bytes version addr value → (tells → addr ≡ length old.present.recorded)
    → Drew drawn key drawn_now → (tells → Steps old new) → (tells → MayHavePage old.present (masked key body) new.present)
    → ((keys : List (List ℕ)) → Contains keys key → Done keys) → KeepsKeys tells drawn drawn_now old new (IsNextRecord old.present value) Done
keeps_append tells drawn drawn_now key body version addr value old new Done size fits is at drew steps page done = record {
  grew = key ∷ [];
  drew = drew;
  extends = λ told. (steps told).extends;
  handed = λ told. handed_one key body version addr value old.present new.present size fits is (at told) (page told);
  keeps = λ told keys kept ready.
      let next = length old.present.recorded in
      let in_range : FitsRecord version next value = subst (λ (m : ℕ). FitsRecord version m value) (at told) fits in
      let spelled : masked key (masked key body) ≡ record_bytes version next value = masked-masked key body (omega (arith, size)) ∙ (is ∙ ap (λ (m : ℕ). record_bytes version m value) (at told)) in
      let opens : Opens key next (masked key body) = opens_record key (masked key body) version next value spelled in
      let after : Kept (keys ++ key ∷ []) new.present
      = kept_append keys key (masked key body) old.present new.present ready.device ready.stands kept opens
      (λ other yields. yields_listed keys key body other version next value in_range ready.listed spelled yields) (page told) in
      record {
        kept = During-step old new (Kept (keys ++ key ∷ [])) (steps told) (kept_drawn keys (key ∷ []) old.present kept) after;
        done = done (keys ++ key ∷ []) (Contains-push keys key);
      };
}

-- a call that draws none and leaves the image as it was at each moment
pub keeps_idle : (tells : Type 0) (drawn drawn_now : Option (List (List ℕ))) (old new : History) (Ready Done : List (List ℕ) → Type 0) → drawn_now ≡ drawn → (tells → During old new (λ image. image ≡ old.present)) → (tells → (keys : List (List ℕ)) → Kept keys old.present → Ready keys → Done keys) → KeepsKeys tells drawn drawn_now old new Ready Done
keeps_idle tells drawn drawn_now old new Ready Done same still done = record {
  grew = [];
  drew = drew_none drawn drawn_now same;
  extends = λ told. (still told).extends;
  handed = λ told.
      let now : new.present ≡ old.present = During-now old new (λ image. image ≡ old.present) (still told) in
      handed_none [] old.present new.present (ap (λ (i : Image). length i.recorded) now);
  keeps = λ told keys kept ready. record {
    kept = During-weaker old new (λ image. image ≡ old.present) (Kept (keys ++ [])) (λ image is. subst (Kept (keys ++ [])) (sym is) (kept_drawn keys [] old.present kept)) (still told);
    done = subst Done (sym (append-nil keys)) (done told keys kept ready);
  };
}

-- ---- one call after another

first_reads : (n : ℕ) (pages : List (List ℕ)) (addr : ℕ) → addr < n → slice_get (take n pages) addr ≡ slice_get pages addr
first_reads zero pages addr below = absurd (omega arith)
first_reads (suc n) [] addr below = refl
first_reads (suc n) (first ∷ pages) zero below = refl
first_reads (suc n) (first ∷ pages) (suc addr) below = first_reads n pages addr (omega arith)

pub drew_then : (drawn mid drawn_now : Option (List (List ℕ))) (one two : List (List ℕ)) → DrewAll drawn one mid → DrewAll mid two drawn_now → DrewAll drawn (one ++ two) drawn_now
drew_then None mid drawn_now one two first second = second ∙ ap (option_map (λ (b : List (List ℕ)). b ++ two)) first
drew_then (Some keys) mid drawn_now one two first second = second ∙ (ap (option_map (λ (b : List (List ℕ)). b ++ two)) first ∙ ap Some (append_assoc keys one two))

abbrev pick : {A B : Type 0} → A ⊎ B → ℕ → ℕ → ℕ
pick (inl a) one two = one
pick (inr b) one two = two

get_left : (one two : List (List ℕ)) (at : ℕ) (key : List ℕ) → slice_get one at ≡ Some key → slice_get (one ++ two) at ≡ Some key
get_left [] two at key there = absurd cc
get_left (first ∷ one) two zero key there = there
get_left (first ∷ one) two (suc at) key there = get_left one two at key there

get_right : (one two : List (List ℕ)) (at : ℕ) → slice_get (one ++ two) (length one + at) ≡ slice_get two at
get_right [] two at = ap (slice_get two) (zero-add at)
get_right (first ∷ one) two at =
    let next : length (first ∷ one) + at ≡ suc (length one + at) = omega arith in
    ap (slice_get (first ∷ (one ++ two))) next ∙ get_right one two at

handed_then : (one two : List (List ℕ)) (first second third : Image) → IsEarlier first second → IsEarlier second third → HandedOver one first second → HandedOver two second third → HandedOver (one ++ two) first third
handed_then one two first second third ahead earlier handed handed' =
    let n = length second.recorded in
    let left = handed.position in
    let right = λ (addr : ℕ). length one + handed'.position addr in
    let more = ahead.pages in
    let early : (addr : ℕ) (page : List ℕ) → IsAdded first third addr → addr < n → slice_get second.recorded addr ≡ Some page → IsSealedRecord one (left addr) addr page
    = λ addr page added before there. handed.sealed addr page (added.0, before) there in
    let within : (addr : ℕ) → IsAdded first third addr → addr < n → left addr < length one
    = λ addr added before.
    let is = early addr (get_or second.recorded addr []) added before (slice_get-get_or second.recorded addr [] before) in
    slice_get_within one (left addr) is.key is.listed in
    record {
      position = λ addr. pick (cases_lt addr n) (left addr) (right addr);
      sealed = λ addr page added there. elim (cases_lt addr n) as (λ e. IsSealedRecord (one ++ two) (pick e (left addr) (right addr)) addr page) [
        | inl before ↦
            let was : slice_get second.recorded addr ≡ Some page = ap (λ (ps : List (List ℕ)). slice_get ps addr) (sym earlier.recorded) ∙ (first_reads n third.recorded addr before ∙ there) in
            let is = early addr page added before was in
            record { key = is.key; listed = get_left one two (left addr) is.key is.listed; version = is.version; value = is.value; in_range = is.in_range; spelled = is.spelled }
        | inr after ↦
            let is = handed'.sealed addr page (after, added.1) there in
            record { key = is.key; listed = get_right one two (handed'.position addr) ∙ is.listed; version = is.version; value = is.value; in_range = is.in_range; spelled = is.spelled }
      ];
      apart = λ a b added added'. elim (cases_lt a n) as (λ e. pick e (left a) (right a) ≡ pick (cases_lt b n) (left b) (right b) → a ≡ b) [
        | inl low ↦ elim (cases_lt b n) as (λ e. left a ≡ pick e (left b) (right b) → a ≡ b) [
          | inl low' ↦ λ same. handed.apart a b (added.0, low) (added'.0, low') same
          | inr high' ↦ λ same. absurd (let w = within a added low in omega (arith, w, same))
        ]
        | inr high ↦ elim (cases_lt b n) as (λ e. right a ≡ pick e (left b) (right b) → a ≡ b) [
          | inl low' ↦ λ same. absurd (let w = within b added' low' in omega (arith, w, same))
          | inr high' ↦ λ same. handed'.apart a b (high, added.1) (high', added'.1) (omega (arith, same))
        ]
      ];
    }

-- a page that was handed over is opened by one of the keys
pub handed_opened : (keys : List (List ℕ)) (before after : Image) → HandedOver keys before after → AreOpenedBy keys before.recorded after.recorded
handed_opened keys before after handed addr page past there =
    let is = handed.sealed addr page (past, slice_get_within after.recorded addr page there) there in
    (is.key, contains_at keys (handed.position addr) is.key is.listed, opens_record is.key page is.version addr is.value is.spelled)

pub keeps_then : (tells : Type 0) (drawn mid drawn_now : Option (List (List ℕ))) (first second third : History) (Ready Mid Mid' Then Done : List (List ℕ) → Type 0)
    → KeepsKeys tells drawn mid first second Ready Mid → KeepsKeys tells mid drawn_now second third Mid' Then
    → (tells → (keys : List (List ℕ)) → Kept keys second.present → Mid keys → Mid' keys)
    → (tells → (keys more : List (List ℕ)) → Mid keys → Then (keys ++ more) → Done (keys ++ more))
    → KeepsKeys tells drawn drawn_now first third Ready Done
keeps_then tells drawn mid drawn_now first second third Ready Mid Mid' Then Done one two meets ends = record {
  grew = one.grew ++ two.grew;
  drew = drew_then drawn mid drawn_now one.grew two.grew one.drew two.drew;
  extends = λ told. Extends-trans first second third (one.extends told) (two.extends told);
  handed = λ told. handed_then one.grew two.grew first.present second.present third.present
      (Extends-earlier first second (one.extends told)) (Extends-earlier second third (two.extends told)) (one.handed told) (two.handed told);
  keeps = λ told keys kept ready.
      let a = one.keeps told keys kept ready in
      let between : Kept (keys ++ one.grew) second.present = During-now first second (Kept (keys ++ one.grew)) a.kept in
      let b = two.keeps told (keys ++ one.grew) between (meets told (keys ++ one.grew) between a.done) in
      let same : keys ++ one.grew ++ two.grew ≡ keys ++ (one.grew ++ two.grew) = append_assoc keys one.grew two.grew in
      record {
        kept = subst (λ (ks : List (List ℕ)). During first third (Kept ks)) same
            (During-then first second third (Kept (keys ++ one.grew ++ two.grew))
            (During-weaker first second (Kept (keys ++ one.grew)) (Kept (keys ++ one.grew ++ two.grew)) (λ image. kept_drawn (keys ++ one.grew) two.grew image) a.kept) b.kept);
        done = subst Done same (ends told (keys ++ one.grew) two.grew a.done b.done);
      };
}

-- what a caller has, and what it wants
pub keeps_from : (tells : Type 0) (drawn drawn_now : Option (List (List ℕ))) (old new : History) (Ready Ready' Done Done' : List (List ℕ) → Type 0)
    → KeepsKeys tells drawn drawn_now old new Ready Done
    → (tells → (keys : List (List ℕ)) → Ready' keys → Ready keys)
    → (tells → (keys more : List (List ℕ)) → Ready' keys → Done (keys ++ more) → Done' (keys ++ more))
    → KeepsKeys tells drawn drawn_now old new Ready' Done'
keeps_from tells drawn drawn_now old new Ready Ready' Done Done' k ready done = record {
  grew = k.grew;
  drew = k.drew;
  extends = k.extends;
  handed = k.handed;
  keeps = λ told keys kept is.
      let a = k.keeps told keys kept (ready told keys is) in
      record { kept = a.kept; done = done told keys k.grew is a.done };
}

-- calls that draw none and add no page
pub keeps_still : (tells : Type 0) (drawn drawn_now : Option (List (List ℕ))) (old new : History) (Ready Done : List (List ℕ) → Type 0)
    → drawn_now ≡ drawn → (tells → Extends old new) → (tells → length new.present.recorded ≡ length old.present.recorded)
    → (tells → (keys : List (List ℕ)) → Kept keys old.present → Ready keys → During old new (Kept keys))
    → (tells → (keys : List (List ℕ)) → Ready keys → Done keys)
    → KeepsKeys tells drawn drawn_now old new Ready Done
keeps_still tells drawn drawn_now old new Ready Done same extends size during done = record {
  grew = [];
  drew = drew_none drawn drawn_now same;
  extends = extends;
  handed = λ told. handed_none [] old.present new.present (size told);
  keeps = λ told keys kept ready.
      let all = during told keys kept ready in
      let back : keys ≡ keys ++ [] = sym (append-nil keys) in
      record {
        kept = subst (λ (ks : List (List ℕ)). During old new (Kept ks)) back all;
        done = subst Done back (done told keys ready);
      };
}

-- ---- a root record that is published

-- the image stands, and so does the one that is published, by a tree whose keys are listed: of any number of levels
pub record IsPublished (mid X : Image) (keys : List (List ℕ)) : Type 0 where
  pub device : Option Device
  pub stands : Stands mid device
  pub next : Device
  pub root : Root
  pub parts : Parts
  pub tree : StandsBy X next root parts
  pub own : Contains keys (bare root.key)
  pub listed : All (λ p. Contains keys (bare p.key)) parts.places

pub keeps_published : (tells : Type 0) (drawn : Option (List (List ℕ))) (mid new : History) (X : Image) (Done : List (List ℕ) → Type 0) → X.recorded ≡ mid.present.recorded → (tells → length new.present.recorded ≡ length mid.present.recorded) → (tells → Turns mid new (λ image. image.cell ≡ mid.present.cell) (λ image. image ≡ X)) → (tells → (keys : List (List ℕ)) → IsPublished mid.present X keys → Done keys) → KeepsKeys tells drawn drawn mid new (IsPublished mid.present X) Done
keeps_published tells drawn mid new X Done pages size turns done =
    keeps_still tells drawn drawn mid new (IsPublished mid.present X) Done refl (λ told. (turns told).extends) size
    (λ told keys kept ready.
    let own : HaveOwnKeys keys X.recorded = subst (HaveOwnKeys keys) (sym pages) kept.pages in
    kept_published keys mid new X ready.device ready.stands kept (kept_stands keys X ready.next ready.root ready.parts own ready.tree ready.own ready.listed) (size told) (turns told))
    done
