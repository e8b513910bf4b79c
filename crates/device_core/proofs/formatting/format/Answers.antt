use Rattle.std.proofs.Common.{◌≡◌, ◌∙◌, ℕ, List, [], Option, None, Some, Bool, true, false, is_ok, refl, ap, sym, inl, inr, arith, rules}
use Rattle.page_store.specs.Buffer.{Held}
use Rattle.node_codec.specs.Record.{NodeRecord, record_bytes}
use Rattle.sdbt_base.specs.Arrays.{new_device}
use Rattle.sdbt_base.specs.Counts.{Counts, counts}
use Rattle.sdbt_base.specs.Keys.{bare}
use Rattle.std.specs.Prelude.{IsTrue, IsSome, ◌↔◌, ◌≢◌}
use Rattle.std.proofs.lemmas.Grind.{common_steps}
use Rattle.device_terms.proofs.MomentLaws.{one_look, call_more, stays_then}
use Rattle.device_terms.proofs.StandingLaws.{during_stands}
use Rattle.device_terms.proofs.PuttingLaws.{puts_behind}
use Rattle.device_terms.specs.Certifying.{PutsSynced}
use Rattle.device_core.proofs.FirstLaws.{IsFirst, first_root, is_first, no_entries_fit}
use Rattle.platform.specs.Image.{Image}
use Rattle.root_codec.specs.declared.root.Root.{Root}
use Rattle.device_core.proofs.FormatLaws.{IsFormatting, first_page, format_time, format_stands, format_certifies, look_discloses, first_discloses, format_discloses}
use Rattle.std.specs.Prelude.{◌⊎◌}
use Rattle.device_core.proofs.formatting.format.Given.{Over}
use Rattle.device_core.proofs.formatting.format.Goals.{After-append, After-publish, In-Ok-append}
use Rattle.device_core.proofs.formatting.format.Goals as goal

-- a cell that is not full is empty
empty_cell : (full : Bool) (cell : Option (List ℕ)) → full ≡ false → IsTrue full ↔ IsSome cell → cell ≡ None
empty_cell full None not_so same = refl
empty_cell full (Some bytes) not_so same = let t : IsTrue full = same.1 (search rules) in grind (arith, common_steps, t, not_so)

not_full : (full : Bool) (cell : Option (List ℕ)) → full ≡ false → IsTrue full ↔ IsSome cell → cell ≢ None → ⊥
not_full full None not_so same is = is refl
not_full full (Some bytes) not_so same is = let t : IsTrue full = same.1 (search rules) in grind (arith, common_steps, t, not_so)

-- a cell that is full isn't empty
full_cell : (full : Bool) (cell : Option (List ℕ)) → full ≡ true → IsTrue full ↔ IsSome cell → cell ≢ None
full_cell full None is same none = let t : IsTrue full = grind (arith, common_steps, is) in let no = same.0 t in grind (arith, common_steps, no)
full_cell full (Some bytes) is same none = absurd (cc)

-- the root record that is written
abbrev written : (g : Over) → In-Ok-append g → Root
written g c = first_root c.args.blocks c.args.order c.in-Ok-append.placed.addr c.in-Ok-append.placed.key

-- is the first of a device
written_first : (g : Over) (c : In-Ok-append g) → IsFirst (written g c) c.args.blocks c.args.order
written_first g c =
    let address : c.in-Ok-append.placed.addr ≡ g.P.Platform.head c.load_root.new.self = c.in-Ok-append.ensures.placed.address in
    is_first c.args.blocks c.args.order c.in-Ok-append.placed.addr c.in-Ok-append.placed.key c.requires.sized.0 c.requires.sized.1 c.requires.ordered.0 c.requires.ordered.1 c.requires.ordered.2
    (omega (arith, address, c.head.ensures.value, c.capacity.ensures.value, c.head.ensures.room, c.head.ensures.limit, c.if-head-capacity.false))
    c.in-Ok-append.ensures.placed.key

-- the calls of a format, whether the last step was taken or failed
calls : (g : Over) (c : After-publish g) → IsFirst (first_root c.args.blocks c.args.order c.in-Ok-append.placed.addr c.in-Ok-append.placed.key) c.args.blocks c.args.order → let history = g.P.Platform.history in
    IsFormatting g.P.Platform.tells (history c.args.platform.now) (history c.load_root.new.self) (history c.append.new.platform) (history c.publish.new.platform)
    (first_root c.args.blocks c.args.order c.in-Ok-append.placed.addr c.in-Ok-append.placed.key) c.args.blocks c.args.order
calls g c first =
    let pages = g.met.P.Platform.counts_pages in
    let address : c.in-Ok-append.placed.addr ≡ g.P.Platform.head c.load_root.new.self = c.in-Ok-append.ensures.placed.address in
    record {
      first = first;
      look = c.load_root.ensures.time;
      same = c.load_root.ensures.image;
      empty = λ told. empty_cell c.in-Ok.is_full (g.P.Platform.history c.args.platform.now).present.cell c.if-is_full.false (c.in-Ok.ensures.full told);
      at_end = λ told. address ∙ sym (pages told c.load_root.new.self);
      steps = c.append.ensures.adds.time;
      cell = c.append.ensures.adds.cell;
      appended = λ told. first_page _ _ (first_root c.args.blocks c.args.order c.in-Ok-append.placed.addr c.in-Ok-append.placed.key) c.head-addr.result _ (c.in-Ok-append.ensures.placed.image told) (ap (λ (b : Held). b.body) c.put_node.ensures) (c.head-addr.ensures.value ∙ sym address);
      stays = λ told. pages told c.publish.new.platform ∙ (c.publish.ensures.head ∙ sym (pages told c.append.new.platform));
      turns = c.publish.ensures.time;
    }

-- the body that is sealed is an empty leaf
sealed_body : (g : Over) (c : After-append g) → c.put_node.new.self.body ≡ record_bytes 1 c.head-addr.result (NodeRecord 1 [])
sealed_body g c = ap (λ (b : Held). b.body) c.put_node.ensures

-- where a page was to be appended, the cell was empty and a page was free
not_kept : (g : Over) (c : After-append g) → g.P.Platform.tells → ((g.P.Platform.history c.args.platform.now).present.cell ≢ None) ⊎ (g.P.Platform.head c.args.platform.now ≡ g.P.Platform.capacity c.args.platform.now) → ⊥
not_kept g c told before = elim before [
  | inl there ↦ not_full c.in-Ok.is_full (g.P.Platform.history c.args.platform.now).present.cell c.if-is_full.false (c.in-Ok.ensures.full told) there
  | inr none ↦ omega (arith, none, c.head.ensures.value, c.capacity.ensures.value, c.load_root.ensures.head, c.load_root.ensures.capacity, c.if-head-capacity.false)
]

pub returns-in_default-clause-time : goal.returns-in_default-clause-time
returns-in_default-clause-time g c = λ told device stands.
    during_stands _ _ device (Some (new_device c.args.blocks c.args.order)) stands (one_look _ _ (c.load_root.ensures.time told) (c.load_root.ensures.image told))

pub returns-then-is_full-clause-time : goal.returns-then-is_full-clause-time
returns-then-is_full-clause-time g c = λ told device stands.
    during_stands _ _ device (Some (new_device c.args.blocks c.args.order)) stands (one_look _ _ (c.load_root.ensures.time told) (c.load_root.ensures.image told))

pub returns-then-head-capacity-clause-time : goal.returns-then-head-capacity-clause-time
returns-then-head-capacity-clause-time g c = λ told device stands.
    during_stands _ _ device (Some (new_device c.args.blocks c.args.order)) stands (one_look _ _ (c.load_root.ensures.time told) (c.load_root.ensures.image told))

pub returns-in_default-new-clause-time : goal.returns-in_default-new-clause-time
returns-in_default-new-clause-time g c = λ told device stands.
    during_stands _ _ device (Some (new_device c.args.blocks c.args.order)) stands (one_look _ _ (c.load_root.ensures.time told) (c.load_root.ensures.image told))

pub returns-in_default-first_entry-clause-time : goal.returns-in_default-first_entry-clause-time
returns-in_default-first_entry-clause-time g c = λ told device stands.
    during_stands _ _ device (Some (new_device c.args.blocks c.args.order)) stands (one_look _ _ (c.load_root.ensures.time told) (c.load_root.ensures.image told))

pub put_node-requires : goal.put_node-requires
put_node-requires g c = no_entries_fit c.head-addr.result

pub returns-in-Err-TapeFault-clause-time : goal.returns-in-Err-TapeFault-clause-time
returns-in-Err-TapeFault-clause-time g c = λ told device stands.
    during_stands _ _ device (Some (new_device c.args.blocks c.args.order)) stands
    (call_more _ _ _ (one_look _ _ (c.load_root.ensures.time told) (c.load_root.ensures.image told)) (c.append.ensures.adds.time told) (c.append.ensures.adds.cell told))

pub returns-in-Err-PlatformFault-clause-time : goal.returns-in-Err-PlatformFault-clause-time
returns-in-Err-PlatformFault-clause-time g c = λ told device stands.
    during_stands _ _ device (Some (new_device c.args.blocks c.args.order)) stands
    (call_more _ _ _ (one_look _ _ (c.load_root.ensures.time told) (c.load_root.ensures.image told)) (c.append.ensures.adds.time told) (c.append.ensures.adds.cell told))

pub publish-requires : goal.publish-requires
publish-requires g c = (written_first g (goal.at.publish-requires g c).In-Ok-append).fits

pub returns-in-Ok-publish-clause-made : goal.returns-in-Ok-publish-clause-made
returns-in-Ok-publish-clause-made g c = λ told.
    let all = calls g (goal.at.returns-in-Ok-publish-clause-made g c).After-publish (written_first g (goal.at.returns-in-Ok-publish-clause-made g c).In-Ok-append) in
    let address : c.in-Ok-append.placed.addr ≡ g.P.Platform.head c.load_root.new.self = c.in-Ok-append.ensures.placed.address in
    let stands = format_stands _ _ _ _ _ _ _ _ all told (c.in-Ok-publish.ensures.published told) in (
      stands.0,
      stands.1,
      (
        first_root c.args.blocks c.args.order c.in-Ok-append.placed.addr c.in-Ok-append.placed.key,
        ap (λ (i : Image). i.cell) (c.in-Ok-publish.ensures.published told),
        record {
          earlier = [];
          drew = c.in-Ok-append.ensures.placed.drew;
          node = omega (arith, address, c.in-Ok-append.ensures.placed.head, c.publish.ensures.head);
          head = omega (arith, address, c.in-Ok-append.ensures.placed.head, c.publish.ensures.head);
        },
      ),
    )

pub returns-in-Ok-publish-clause-spends : goal.returns-in-Ok-publish-clause-spends
returns-in-Ok-publish-clause-spends g c = (
  λ told.
      let once = c.load_root.ensures.reads told in
      let published = c.in-Ok-publish.ensures.reads told in
      let same = published.0.0 ∙ c.append.ensures.adds.reads told in
      let before = c.append.ensures.adds.changes told ∙ (c.load_root.ensures.reads told).2 in (
        record { rises = omega (arith, same, once.0.rises); by_one = omega (arith, same, once.0.by_one) },
        published.0.1 ∙ c.append.ensures.adds.page_reads told ∙ once.1,
        record { rises = omega (arith, before, published.1.rises); at_most = omega (arith, before, published.1.at_most) },
      ),
  (bare c.in-Ok-append.placed.key, c.in-Ok-append.ensures.placed.drew),
)

pub returns-in-Ok-publish-clause-time : goal.returns-in-Ok-publish-clause-time
returns-in-Ok-publish-clause-time g c = λ told device stands. format_time _ _ _ _ _ _ _ _ device (calls g (goal.at.returns-in-Ok-publish-clause-time g c).After-publish (written_first g (goal.at.returns-in-Ok-publish-clause-time g c).In-Ok-append)) told stands

pub returns-in-Err-Ledger-clause-time : goal.returns-in-Err-Ledger-clause-time
returns-in-Err-Ledger-clause-time g c = λ told device stands. format_time _ _ _ _ _ _ _ _ device (calls g (goal.at.returns-in-Err-Ledger-clause-time g c).After-publish (written_first g (goal.at.returns-in-Err-Ledger-clause-time g c).In-Ok-append)) told stands

pub returns-clause-time : goal.returns-clause-time
returns-clause-time g c = λ told device stands. format_time _ _ _ _ _ _ _ _ device (calls g (goal.at.returns-clause-time g c).After-publish (written_first g (goal.at.returns-clause-time g c).In-Ok-append)) told stands

pub returns-in_default-clause-kept : goal.returns-in_default-clause-kept
returns-in_default-clause-kept g c = λ told before. (refl, one_look _ _ (c.load_root.ensures.time told) (c.load_root.ensures.image told))

pub returns-then-is_full-clause-kept : goal.returns-then-is_full-clause-kept
returns-then-is_full-clause-kept g c = λ told before. (refl, one_look _ _ (c.load_root.ensures.time told) (c.load_root.ensures.image told))

pub returns-then-head-capacity-clause-kept : goal.returns-then-head-capacity-clause-kept
returns-then-head-capacity-clause-kept g c = λ told before. (refl, one_look _ _ (c.load_root.ensures.time told) (c.load_root.ensures.image told))

pub returns-in_default-new-clause-kept : goal.returns-in_default-new-clause-kept
returns-in_default-new-clause-kept g c = λ told before. (refl, one_look _ _ (c.load_root.ensures.time told) (c.load_root.ensures.image told))

pub returns-in_default-first_entry-clause-kept : goal.returns-in_default-first_entry-clause-kept
returns-in_default-first_entry-clause-kept g c = λ told before. (refl, one_look _ _ (c.load_root.ensures.time told) (c.load_root.ensures.image told))

pub returns-in-Err-TapeFault-clause-kept : goal.returns-in-Err-TapeFault-clause-kept
returns-in-Err-TapeFault-clause-kept g c = λ told before. absurd (not_kept g (goal.at.returns-in-Err-TapeFault-clause-kept g c).After-append told before)

pub returns-in-Err-PlatformFault-clause-kept : goal.returns-in-Err-PlatformFault-clause-kept
returns-in-Err-PlatformFault-clause-kept g c = λ told before. absurd (not_kept g (goal.at.returns-in-Err-PlatformFault-clause-kept g c).After-append told before)

pub returns-in-Ok-publish-clause-kept : goal.returns-in-Ok-publish-clause-kept
returns-in-Ok-publish-clause-kept g c = λ told before. absurd (not_kept g (goal.at.returns-in-Ok-publish-clause-kept g c).After-append told before)

pub returns-in-Err-Ledger-clause-kept : goal.returns-in-Err-Ledger-clause-kept
returns-in-Err-Ledger-clause-kept g c = λ told before. absurd (not_kept g (goal.at.returns-in-Err-Ledger-clause-kept g c).After-append told before)

pub returns-clause-kept : goal.returns-clause-kept
returns-clause-kept g c = λ told before. absurd (not_kept g (goal.at.returns-clause-kept g c).After-append told before)

pub returns-in_default-clause-discloses : goal.returns-in_default-clause-discloses
returns-in_default-clause-discloses g c = look_discloses _ _ _ _ c.load_root.ensures.time c.load_root.ensures.image

pub returns-then-is_full-clause-discloses : goal.returns-then-is_full-clause-discloses
returns-then-is_full-clause-discloses g c = look_discloses _ _ _ _ c.load_root.ensures.time c.load_root.ensures.image

pub returns-then-head-capacity-clause-discloses : goal.returns-then-head-capacity-clause-discloses
returns-then-head-capacity-clause-discloses g c = look_discloses _ _ _ _ c.load_root.ensures.time c.load_root.ensures.image

pub returns-in_default-new-clause-discloses : goal.returns-in_default-new-clause-discloses
returns-in_default-new-clause-discloses g c = look_discloses _ _ _ _ c.load_root.ensures.time c.load_root.ensures.image

pub returns-in_default-first_entry-clause-discloses : goal.returns-in_default-first_entry-clause-discloses
returns-in_default-first_entry-clause-discloses g c = look_discloses _ _ _ _ c.load_root.ensures.time c.load_root.ensures.image

pub returns-in-Err-TapeFault-clause-discloses : goal.returns-in-Err-TapeFault-clause-discloses
returns-in-Err-TapeFault-clause-discloses g c =
    first_discloses _ _ _ _ _ _ c.put_node.new.self.body c.head-addr.result _ _ c.load_root.ensures.time c.load_root.ensures.image c.append.ensures.keeps (sealed_body g (goal.at.returns-in-Err-TapeFault-clause-discloses g c).After-append) c.head-addr.ensures.value
    c.append.ensures.adds.time c.append.ensures.adds.cell

pub returns-in-Err-PlatformFault-clause-discloses : goal.returns-in-Err-PlatformFault-clause-discloses
returns-in-Err-PlatformFault-clause-discloses g c =
    first_discloses _ _ _ _ _ _ c.put_node.new.self.body c.head-addr.result _ _ c.load_root.ensures.time c.load_root.ensures.image c.append.ensures.keeps (sealed_body g (goal.at.returns-in-Err-PlatformFault-clause-discloses g c).After-append) c.head-addr.ensures.value
    c.append.ensures.adds.time c.append.ensures.adds.cell

pub returns-in-Ok-publish-clause-discloses : goal.returns-in-Ok-publish-clause-discloses
returns-in-Ok-publish-clause-discloses g c =
    let all = calls g (goal.at.returns-in-Ok-publish-clause-discloses g c).After-publish (written_first g (goal.at.returns-in-Ok-publish-clause-discloses g c).In-Ok-append) in
    format_discloses _ _ _ _ _ _ _ _ _ _ c.put_node.new.self.body c.head-addr.result _ all c.in-Ok-append.ensures.keeps (sealed_body g (goal.at.returns-in-Ok-publish-clause-discloses g c).After-append) c.head-addr.ensures.value

pub returns-in-Err-Ledger-clause-discloses : goal.returns-in-Err-Ledger-clause-discloses
returns-in-Err-Ledger-clause-discloses g c =
    let all = calls g (goal.at.returns-in-Err-Ledger-clause-discloses g c).After-publish (written_first g (goal.at.returns-in-Err-Ledger-clause-discloses g c).In-Ok-append) in
    format_discloses _ _ _ _ _ _ _ _ _ _ c.put_node.new.self.body c.head-addr.result _ all c.in-Ok-append.ensures.keeps (sealed_body g (goal.at.returns-in-Err-Ledger-clause-discloses g c).After-append) c.head-addr.ensures.value

pub returns-clause-discloses : goal.returns-clause-discloses
returns-clause-discloses g c =
    let all = calls g (goal.at.returns-clause-discloses g c).After-publish (written_first g (goal.at.returns-clause-discloses g c).In-Ok-append) in
    format_discloses _ _ _ _ _ _ _ _ _ _ c.put_node.new.self.body c.head-addr.result _ all c.in-Ok-append.ensures.keeps (sealed_body g (goal.at.returns-clause-discloses g c).After-append) c.head-addr.ensures.value

pub returns-then-is_full-clause-cause : goal.returns-then-is_full-clause-cause
returns-then-is_full-clause-cause g c = (
  λ told. full_cell c.in-Ok.is_full (g.P.Platform.history c.args.platform.now).present.cell c.if-is_full.true (c.in-Ok.ensures.full told),
  (record { head = c.load_root.ensures.head; image = c.load_root.ensures.image; changes = λ told. (c.load_root.ensures.reads told).2; drawn = refl }, λ told. one_look _ _ (c.load_root.ensures.time told) (c.load_root.ensures.image told)),
  ap (λ (n : ℕ). counts n (g.T.Tape.faults c.args.tape.now) 0 0 (g.L.Sink.faults c.args.ledger.now)) c.in-Ok.ensures.cause,
)

pub returns-then-head-capacity-clause-cause : goal.returns-then-head-capacity-clause-cause
returns-then-head-capacity-clause-cause g c = (
  λ told. empty_cell c.in-Ok.is_full (g.P.Platform.history c.args.platform.now).present.cell c.if-is_full.false (c.in-Ok.ensures.full told),
  omega (arith, c.head.ensures.value, c.capacity.ensures.value, c.load_root.ensures.head, c.load_root.ensures.capacity, c.if-head-capacity.true),
  (record { head = c.load_root.ensures.head; image = c.load_root.ensures.image; changes = λ told. (c.load_root.ensures.reads told).2; drawn = refl }, λ told. one_look _ _ (c.load_root.ensures.time told) (c.load_root.ensures.image told)),
  ap (λ (n : ℕ). counts n (g.T.Tape.faults c.args.tape.now) 0 0 (g.L.Sink.faults c.args.ledger.now)) c.in-Ok.ensures.cause,
)

pub returns-in_default-new-clause-cause : goal.returns-in_default-new-clause-cause
returns-in_default-new-clause-cause g c = (
  λ told. empty_cell c.in-Ok.is_full (g.P.Platform.history c.args.platform.now).present.cell c.if-is_full.false (c.in-Ok.ensures.full told),
  λ none. absurd (omega (arith, none, c.head.ensures.value, c.capacity.ensures.value, c.load_root.ensures.head, c.load_root.ensures.capacity, c.if-head-capacity.false)),
  (record { head = c.load_root.ensures.head; image = c.load_root.ensures.image; changes = λ told. (c.load_root.ensures.reads told).2; drawn = refl }, λ told. one_look _ _ (c.load_root.ensures.time told) (c.load_root.ensures.image told)),
  ap (λ (n : ℕ). counts n (g.T.Tape.faults c.args.tape.now) 0 0 (g.L.Sink.faults c.args.ledger.now)) c.in-Ok.ensures.cause,
)

pub returns-in_default-first_entry-clause-cause : goal.returns-in_default-first_entry-clause-cause
returns-in_default-first_entry-clause-cause g c = (
  λ told. empty_cell c.in-Ok.is_full (g.P.Platform.history c.args.platform.now).present.cell c.if-is_full.false (c.in-Ok.ensures.full told),
  λ none. absurd (omega (arith, none, c.head.ensures.value, c.capacity.ensures.value, c.load_root.ensures.head, c.load_root.ensures.capacity, c.if-head-capacity.false)),
  (record { head = c.load_root.ensures.head; image = c.load_root.ensures.image; changes = λ told. (c.load_root.ensures.reads told).2; drawn = refl }, λ told. one_look _ _ (c.load_root.ensures.time told) (c.load_root.ensures.image told)),
  ap (λ (n : ℕ). counts n (g.T.Tape.faults c.args.tape.now) 0 0 (g.L.Sink.faults c.args.ledger.now)) c.in-Ok.ensures.cause,
)

pub returns-in-Err-TapeFault-clause-cause : goal.returns-in-Err-TapeFault-clause-cause
returns-in-Err-TapeFault-clause-cause g c = let idle = c.append.ensures.idle (cc) in (
  (c.append.ensures.tape_cause.failed (cc), ap (λ (n : ℕ). counts n (g.T.Tape.faults c.append.new.tape) 0 0 (g.L.Sink.faults c.args.ledger.now)) (ap g.P.Platform.faults idle.0 ∙ c.in-Ok.ensures.cause)),
  λ none. absurd (omega (arith, none, c.head.ensures.value, c.capacity.ensures.value, c.load_root.ensures.head, c.load_root.ensures.capacity, c.if-head-capacity.false)),
  (
    record {
      head = ap g.P.Platform.head idle.0 ∙ c.load_root.ensures.head;
      image = λ told. ap (λ platform. (g.P.Platform.history platform).present) idle.0 ∙ c.load_root.ensures.image told;
      changes = λ told. ap g.P.Platform.changes idle.0 ∙ (c.load_root.ensures.reads told).2;
      drawn = idle.1;
    },
    λ told. call_more _ _ _ (one_look _ _ (c.load_root.ensures.time told) (c.load_root.ensures.image told)) (c.append.ensures.adds.time told) (c.append.ensures.adds.cell told),
  ),
)

pub returns-in-Ok-publish-clause-cause : goal.returns-in-Ok-publish-clause-cause
returns-in-Ok-publish-clause-cause g c = (
  λ told. empty_cell c.in-Ok.is_full (g.P.Platform.history c.args.platform.now).present.cell c.if-is_full.false (c.in-Ok.ensures.full told),
  λ none. absurd (omega (arith, none, c.head.ensures.value, c.capacity.ensures.value, c.load_root.ensures.head, c.load_root.ensures.capacity, c.if-head-capacity.false)),
  omega (arith, c.in-Ok-append.ensures.placed.head, c.load_root.ensures.head, c.publish.ensures.head),
  let quiet = c.in-Ok-publish.ensures.cause in
      let same : g.P.Platform.faults c.publish.new.platform ≡ g.P.Platform.faults c.args.platform.now = ap (λ (n : Counts). n.platform) quiet ∙ c.in-Ok-append.ensures.platform_cause.done ∙ c.in-Ok.ensures.cause in
      λ k. counts (same k) (c.in-Ok-append.ensures.tape_cause.done k) 0 0 (quiet k).ledger,
)

pub returns-in-Err-Ledger-clause-cause : goal.returns-in-Err-Ledger-clause-cause
returns-in-Err-Ledger-clause-cause g c =
    let cause = rw c.in-Err-Ledger.field-0-is at c.in-Err-Ledger.ensures.cause in
    let same : g.P.Platform.faults c.publish.new.platform ≡ g.P.Platform.faults c.args.platform.now = ap (λ (n : Counts). n.platform) cause.0.1 ∙ c.in-Ok-append.ensures.platform_cause.done ∙ c.in-Ok.ensures.cause in (
      (cause.0.0, λ k. counts (same k) (c.in-Ok-append.ensures.tape_cause.done k) 0 0 (g.L.Sink.faults c.publish.new.ledger)),
      λ none. absurd (omega (arith, none, c.head.ensures.value, c.capacity.ensures.value, c.load_root.ensures.head, c.load_root.ensures.capacity, c.if-head-capacity.false)),
      λ told. stays_then _ _ _ (call_more _ _ _ (one_look _ _ (c.load_root.ensures.time told) (c.load_root.ensures.image told)) (c.append.ensures.adds.time told) (c.append.ensures.adds.cell told)) (cause.1 told),
    )

pub returns-in-Err-PlatformFault-clause-certifies : goal.returns-in-Err-PlatformFault-clause-certifies
returns-in-Err-PlatformFault-clause-certifies g c =
    inl (refl, λ told. call_more _ _ _ (one_look _ _ (c.load_root.ensures.time told) (c.load_root.ensures.image told)) (c.append.ensures.adds.time told) (c.append.ensures.adds.cell told))

pub returns-in-Err-Ledger-clause-certifies : goal.returns-in-Err-Ledger-clause-certifies
returns-in-Err-Ledger-clause-certifies g c =
    let at = goal.at.returns-in-Err-Ledger-clause-certifies g c in
    let address : c.in-Ok-append.placed.addr ≡ g.P.Platform.head c.load_root.new.self = c.in-Ok-append.ensures.placed.address in
    format_certifies _ _ _ _ _ _ _ _ _ _ _ _ _ _ _ (λ was ok. absurd cc) (address ∙ c.load_root.ensures.head) (c.head-addr.ensures.value ∙ c.load_root.ensures.head)
    (calls g at.After-publish (written_first g at.In-Ok-append)) c.in-Ok-first_entry.ensures (rw c.bytes.ensures at c.publish.ensures.put)

pub returns-clause-certifies : goal.returns-clause-certifies
returns-clause-certifies g c =
    let at = goal.at.returns-clause-certifies g c in
    let address : c.in-Ok-append.placed.addr ≡ g.P.Platform.head c.load_root.new.self = c.in-Ok-append.ensures.placed.address in
    format_certifies _ _ _ _ _ _ _ _ _ _ _ _ _ _ _ (λ was ok. absurd cc) (address ∙ c.load_root.ensures.head) (c.head-addr.ensures.value ∙ c.load_root.ensures.head)
    (calls g at.After-publish (written_first g at.In-Ok-append)) c.in-Ok-first_entry.ensures (rw c.bytes.ensures at c.publish.ensures.put)

pub returns-in-Ok-publish-clause-certifies : goal.returns-in-Ok-publish-clause-certifies
returns-in-Ok-publish-clause-certifies g c =
    let at = goal.at.returns-in-Ok-publish-clause-certifies g c in
    let address : c.in-Ok-append.placed.addr ≡ g.P.Platform.head c.load_root.new.self = c.in-Ok-append.ensures.placed.address in
    format_certifies _ _ _ _ _ _ _ _ _ _ _ _ _ _ _ (λ was ok. was (ap is_ok c.in-Ok-publish.is)) (address ∙ c.load_root.ensures.head) (c.head-addr.ensures.value ∙ c.load_root.ensures.head)
    (calls g at.After-publish (written_first g at.In-Ok-append)) c.in-Ok-first_entry.ensures (rw c.bytes.ensures at c.publish.ensures.put)

-- the leaf's page was added before
behind : (g : Over) (c : After-publish g) → PutsSynced g.P.Platform 1 c.args.platform.now c.publish.new.platform c.args.ledger.now c.publish.new.ledger
behind g c = puts_behind g.P.Platform 0 1 c.args.platform.now c.append.new.platform c.publish.new.platform c.args.ledger.now c.publish.new.ledger (omega (arith, c.in-Ok-append.ensures.placed.head, c.load_root.ensures.head)) c.publish.ensures.synced

pub returns-in-Ok-publish-clause-synced : goal.returns-in-Ok-publish-clause-synced
returns-in-Ok-publish-clause-synced g c = behind g (goal.at.returns-in-Ok-publish-clause-synced g c).After-publish

pub returns-in-Err-Ledger-clause-synced : goal.returns-in-Err-Ledger-clause-synced
returns-in-Err-Ledger-clause-synced g c = behind g (goal.at.returns-in-Err-Ledger-clause-synced g c).After-publish

pub returns-clause-synced : goal.returns-clause-synced
returns-clause-synced g c = behind g (goal.at.returns-clause-synced g c).After-publish
