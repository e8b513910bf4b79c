-- Two runs together, of which the second opened what is left at one moment of the first.
use Rattle.std.proofs.Common.{◌≡◌, ◌↔◌, ℕ, ◌<◌, ◌≤◌, min, List, [], ◌∷◌, ◌++◌, Option, Some, None, inl, inr, length, refl, sym, ◌∙◌, ap, subst, arith}
use Rattle.std.specs.Prelude.{All, Contains, IsSome}
use Rattle.std.proofs.lemmas.List.{take_all}
use Rattle.std.proofs.lemmas.Option.{none-some}
use Rattle.std.proofs.lemmas.List.Elements.{All-nil, All-cons, All-map, All-weaker, Contains-append_left}
use Rattle.sdbt_base.specs.Keys.{bare}
use Rattle.platform.specs.Image.{Image, LeavesOnly}
use Rattle.platform.specs.History.{History, Extends, During, image_at, moment}
use Rattle.platform.proofs.Moments.{image_at-now, earlier-now, may-leave-now, During-now, Extends-earlier}
use Rattle.root_codec.specs.declared.root.Root.{Root}
use Rattle.root_codec.specs.RootRecord.{root_bytes}
use Rattle.key_graph.specs.Chains.{Link, link, Reached, KeyPremises}
use Rattle.key_graph.specs.OwnKeys.{HaveOwnKeys}
use Rattle.key_graph.specs.Maps.{IsClosed, AreListed, AreFirst, AreOpenedBy}
use Rattle.key_graph.proofs.ChainLaws.{opens_later, reached_later, closed_later}
use Rattle.sdbt_base.specs.Arrays.{State, Device, closed}
use Rattle.page_store.specs.Tree.{Place}
use Rattle.page_store.specs.Stands.{Stands}
use Rattle.page_store.specs.Kept.{links_of, IsRootOf, Kept}
use Rattle.page_store.specs.Keeping.{HandedOver}
use Rattle.page_store.specs.Floors.{IsInTree, IsReached, low_of, floor_of}
use Rattle.page_store.specs.Disclosing.{DisclosesBy, DisclosesTrees}
use Rattle.page_store.proofs.TreeMaps.{tree_closed}
use Rattle.page_store.proofs.KeepingLaws.{drew_then, handed_opened}
use Rattle.page_store.proofs.KeptLaws.{one_root_in, root_of_stands, recorded_tree, may_leave_itself}
use Rattle.page_store.proofs.DisclosingLaws.{first_premises}
use Rattle.page_store.proofs.FloorLaws.{floor_first, floor_below}
use Rattle.device_terms.specs.Served.{IsServedImage}
use Rattle.device_course.specs.Reaching.{DisclosesTree}
use Rattle.device_course.specs.Fitting.{FitsImage, LeavesFitting}
use Rattle.device_course.proofs.FitsLaws.{leaves_over}
use Rattle.device_session.specs.Sessions.{Session}
use Rattle.script_lang.specs.Answers.{IsMark}
use Rattle.script_lang.specs.Replies.{Reply}
use Rattle.script_lang.specs.Commands.{Command}
use Rattle.script_lang.specs.Commands as commands
use Rattle.device_cli.specs.Causes.{MeetsRecord}
use Rattle.device_cli.specs.Pages.{IfNext}
use Rattle.device_cli.specs.World.{World}
use Rattle.device_cli.specs.Represents.{StandsFor}
use Rattle.device_cli.specs.Ran.{AnswersScript}
use Rattle.folder_platform.specs.Files.{Files}
use Rattle.folder_platform.specs.Loss.{AreLeft, opened}
use Rattle.folder_restart.proofs.StandingLaws.{stands_opened}
use Rattle.folder_runs.specs.Chains.{ReachedOver, ReachedFirst, PremisesOver}
use Rattle.folder_runs.specs.Restarts.{Resumes, GoesOnOver, AreLeftAtExit, IsOpenedAfter, ReachNoMoreOver, DisclosesOver, DisclosesRuns}
use Rattle.folder_runs.proofs.ChainsOver.{over_first, over_second, over_grows, first_grows, reached_first, reached_second, reached_kept}
use Rattle.folder_runs.proofs.ToldLaws.{told_held, told_lacks, told_so}
use Rattle.folder_runs.proofs.Opened.{handed_first, kept_opened, served_opened, fits_opened, low_opened}

-- ---- answers

-- what holds of a next line holds of it where it says less
next_line : (replies : List Reply) (lines : List (List ℕ)) (P Q : List ℕ → Type 0) → ((line : List ℕ) → P line → Q line) → IfNext replies lines P → IfNext replies lines Q
next_line [] [] P Q weaker next = absurd next
next_line [] (line ∷ lines) P Q weaker next = weaker line next
next_line (reply ∷ replies) [] P Q weaker next = absurd next
next_line (reply ∷ replies) (line ∷ lines) P Q weaker next = next_line replies lines P Q weaker next

-- the record that a command meets, where that is told
told_record : (tells : Type 0) (held : Option Session) (image : Image) (command : Command) (addr : ℕ) → tells → MeetsRecord tells held image command addr → MeetsRecord (Unit {0}) held image command addr
told_record tells held image (commands.Read block) addr told meets = λ _. meets told
told_record tells held image (commands.Write block content) addr told meets = told_held tells held _ told meets
told_record tells held image (commands.Trim block) addr told meets = told_held tells held _ told meets
told_record tells held image (commands.Format blocks order) addr told meets = meets
told_record tells held image commands.Mount addr told meets = meets
told_record tells held image commands.Commit addr told meets = meets
told_record tells held image commands.Drop addr told meets = meets
told_record tells held image commands.Erase addr told meets = meets
told_record tells held image commands.Upgrade addr told meets = λ _. meets told
told_record tells held image commands.Stat addr told meets = meets
told_record tells held image commands.Seize addr told meets = meets

-- what a run answers where it is told
pub told_answers : (tells : Type 0) (old new : World) (status : ℕ) (left left_now written written_now : Option (List ℕ)) → tells → AnswersScript tells old new status left left_now written written_now
    → AnswersScript (Unit {0}) old new status left left_now written written_now
told_answers tells old new status left left_now written written_now told run = record {
  taken = run.taken;
  gave = run.gave;
  lines = run.lines;
  come = run.come;
  replies = run.replies;
  part = run.part;
  got = run.got;
  few = run.few;
  prompt = run.prompt;
  all = run.all;
  whole = run.whole;
  no_part = run.no_part;
  bad_root = run.bad_root;
  bad_record = λ is.
      let bad = run.bad_record is in
      (bad.0, bad.1, next_line run.replies run.lines _ _ (λ line of. (of.0, of.1, (of.2.0, told_record tells of.2.0 new.history.present of.0 bad.0 told of.2.1))) bad.2);
  no_key = run.no_key;
  no_entry = run.no_entry;
  no_memory = λ is. next_line run.replies run.lines _ _ (λ line of. (of.0, of.1, (of.2.0, told_lacks tells of.2.0 new.history.present new.head new.capacity of.0 told of.2.1))) (run.no_memory is);
  cut = run.cut;
  full = run.full;
  so = λ _. (let so = run.so told in (
    so.0,
    so.1,
    told_so tells new.history (moment old.history) None run.lines run.replies so.0 so.1 told so.2,
    λ is.
        let bad = so.3 is in
        (bad.0, bad.1, next_line run.replies run.lines _ _ (λ line of. (of.0, of.1, told_record tells so.1 new.history.present of.0 bad.0 told of.2)) bad.2),
  ));
  looks = λ _. run.looks told;
  changes = λ _. run.changes told;
  answered = λ _. run.answered told;
}

resumes : (entry : State) (lines : List (List ℕ)) (replies : List Reply) (mid : World) (i mark : ℕ) (there : Option Device) → IsMark entry lines replies mark there → Stands (image_at mid.history i) there → Resumes entry lines replies mid i mark
resumes entry lines replies mid i mark there is_mark stands left cut new status given given_now written written_now are is run =
    let image = image_at mid.history i in
    let found : StandsFor cut.history.present there = subst (λ (x : Image). Stands x there) (sym is) (stands_opened image left are there stands) in
    let served : IsServedImage cut.history.present = subst IsServedImage (sym is) (served_opened image left there are stands) in
    record { between = there; is_mark = is_mark; stands = found; answered = run.answered tt there found served }

pub goes_on : (old mid : World) (status : ℕ) (left left_now written written_now : Option (List ℕ)) → (one : AnswersScript (Unit {0}) old mid status left left_now written written_now)
    → (there : Option Device) → StandsFor old.history.present there → IsServedImage old.history.present → GoesOnOver (closed there) one.lines one.replies old mid
goes_on old mid status left left_now written written_now one there stands served =
    let from = one.answered tt there stands served in
    record {
      ahead = from.ahead;
      one_ahead = from.one_ahead;
      mark = from.passes.mark;
      rises = from.passes.rises;
      within = from.passes.within;
      each = λ i start end.
          let mark = from.passes.each i start end in
          resumes (closed there) one.lines (one.replies ++ from.ahead) mid i (from.passes.mark i) mark.0 mark.1 (mark.2 (image_at mid.history i) (may_leave_itself mid.history i));
      exit = from.exits.mark;
      from = from.exits.from;
      at_exit = resumes (closed there) one.lines (one.replies ++ from.ahead) mid (moment mid.history) from.exits.mark from.exits.there from.exits.is_mark
          (subst (λ (x : Image). Stands x from.exits.there) (sym (image_at-now mid.history (moment mid.history) (omega arith))) from.exits.stands);
    }

-- ---- ledgers

-- where the power is lost at the exit of a run, the image of some moment is what is opened then: it stands for a device, and with what was put the ledgers that fitted the
-- image at the start fit it
record FoundFitting (old between : History) (put : List ℕ) (left : Files) : Type 0 where
  at : ℕ
  from : moment old ≤ at
  within : at ≤ moment between
  are : AreLeft (image_at between at) left
  fits : (text : List ℕ) → FitsImage text old.present → FitsImage (text ++ put) (image_at between at)

found_fitting : (written mid : Option (List ℕ)) (old between : History) (left : Files) → Extends old between → AreLeftAtExit (IsSome written) old between left → (a : LeavesFitting written mid old.present old between) → FoundFitting old between a.put left
found_fitting written mid old between left extends (inl are) a =
    let last : image_at between (moment between) ≡ between.present = image_at-now between (moment between) (omega arith) in
    record {
      at = moment between;
      from = extends.later;
      within = omega arith;
      are = subst (λ (image : Image). AreLeft image left) (sym last) are;
      fits = λ text f. subst (FitsImage (text ++ a.put)) (sym last) ((a.fits text f).now between.present (may-leave-now between));
    }
found_fitting written mid old between left extends (inr (told, at)) a = record {
  at = at.at;
  from = at.from;
  within = at.to;
  are = at.are;
  fits = λ text f. (a.fits text f).each told at.at at.from at.to at.all (image_at between at.at) (may_leave_itself between at.at);
}

-- ---- what is disclosed

fewer_pages : (keys pages longer : List (List ℕ)) → AreFirst pages longer → KeyPremises keys longer → KeyPremises keys pages
fewer_pages keys pages longer first premises = record {
  distinct = premises.distinct;
  one_opener = λ addr one other has has' opens opens'. premises.one_opener addr one other has has' (opens_later pages longer (link addr one) first opens) (opens_later pages longer (link addr other) first opens');
}

-- the image from which a run goes on is its first one
at_start : (cut new : History) → Extends cut new → image_at new (moment cut) ≡ cut.present
at_start cut new extends = extends.same (moment cut) (omega arith) ∙ image_at-now cut (moment cut) (omega arith)

-- the tree of a root record over later pages
record IsMap (keys pages : List (List ℕ)) (root : Root) : Type 0 where
  pub links : List Link
  pub closed : IsClosed pages (bare root.key ∷ []) links
  pub listed : AreListed keys links

map_of : (keys longer : List (List ℕ)) (image : Image) (device : Option Device) (root : Root) → Stands image device → Kept keys image → AreFirst image.recorded longer → IsRootOf image root → IsMap keys longer root
map_of keys longer image None root stands kept first is = absurd (none-some (root_bytes root) (sym stands ∙ is.cell))
map_of keys longer image (Some device) root (root', parts, stands) kept first is =
    let here = root_of_stands image device root' parts stands in
    let roots : root' ≡ root = one_root_in image image root' root refl here is in
    subst (IsMap keys longer) roots (record {
      links = links_of parts.places;
      closed = closed_later image.recorded longer (bare root'.key ∷ []) (links_of parts.places) first (tree_closed image.recorded root' parts (recorded_tree image device root' parts stands));
      listed = All-map (λ (l : Link). Contains keys l.key) (λ (p : Place). link p.addr (bare p.key)) parts.places ((kept.cell root' here).places parts stands.tree);
    })

module _ (keys one two : List (List ℕ)) (at : ℕ) (left : Files) (old mid cut new : History) (o : IsOpenedAfter old mid cut at left)
    (a : DisclosesBy keys one old mid) (b : DisclosesBy (keys ++ one) two cut new) (stands : During cut new (λ image. (device : Option Device) × LeavesOnly (λ left. Stands left device) image))
    (handed : HandedOver two cut.present new.present) (given : PremisesOver ((keys ++ one) ++ two) mid.present.recorded new.present.recorded) where
  abbrev pages : List (List ℕ)
  pages = (image_at mid at).recorded

  abbrev last : List (List ℕ)
  last = new.present.recorded

  found_pages : cut.present.recorded ≡ left.handed
  found_pages = ap (λ (image : Image). image.recorded) o.opened

  begins : AreFirst cut.present.recorded pages
  begins = subst (λ (front : List (List ℕ)). AreFirst front pages) (sym found_pages) (handed_first (image_at mid at) left o.are)

  later : AreFirst cut.present.recorded last
  later = (Extends-earlier cut new b.kept.extends).recorded

  own : HaveOwnKeys (keys ++ one) pages
  own = (a.kept.each at o.from o.to).pages

  own_last : HaveOwnKeys ((keys ++ one) ++ two) last
  own_last = (During-now cut new (Kept ((keys ++ one) ++ two)) b.kept).pages

  added : AreOpenedBy two cut.present.recorded last
  added = handed_opened two cut.present new.present handed

  premises : PremisesOver ((keys ++ one) ++ two) pages last
  premises = record { of_first = fewer_pages ((keys ++ one) ++ two) pages mid.present.recorded (earlier-now mid at o.to).recorded given.of_first; of_second = given.of_second }

  first : DisclosesTrees keys old mid
  first = a.trees (first_premises (keys ++ one) two mid.present.recorded mid.present.recorded (take_all (length mid.present.recorded) mid.present.recorded (omega arith)) given.of_first)

  second : DisclosesTrees (keys ++ one) cut new
  second = b.trees given.of_second

  front : (j : ℕ) → j ≤ moment new → AreFirst (image_at new j).recorded last
  front j to = (earlier-now new j to).recorded

  -- keys of the first run, over all pages
  first_reach : (roots : List (List ℕ)) → All (Contains (keys ++ one)) roots → (j : ℕ) → j ≤ moment new → (addr : ℕ) → ReachedOver roots pages (image_at new j).recorded addr ↔ Reached roots pages addr
  first_reach roots all j to addr = (
    λ r. reached_first (keys ++ one) two pages cut.present.recorded last begins later own added premises roots all addr (over_grows roots pages (image_at new j).recorded last addr (front j to) r),
    λ r. over_first roots pages (image_at new j).recorded addr r,
  )

  only_key : (key : List ℕ) → Contains (keys ++ one) key → All (Contains (keys ++ one)) (key ∷ [])
  only_key key has = All-cons (Contains (keys ++ one)) key [] has (All-nil (Contains (keys ++ one)))

  still : (i j : ℕ) → moment old ≤ i → i ≤ at → j ≤ moment new → (root : Root) → IsRootOf (image_at mid i) root → (addr : ℕ) → ReachedOver (bare root.key ∷ []) pages (image_at new j).recorded addr ↔ IsInTree (image_at mid i) addr
  still i j from to to' root is addr =
      let its = ((a.kept.each i from (omega (arith, to, o.to))).cell root is).own in
      let law = first_reach (bare root.key ∷ []) (only_key (bare root.key) its) j to' addr in
      let then = first.still i at from to o.to root is addr in
      (λ r. then.0 (law.0 r), λ there. law.1 (then.1 there))

  map_at : (i : ℕ) → moment cut ≤ i → i ≤ moment new → (root : Root) → IsRootOf (image_at new i) root → IsMap ((keys ++ one) ++ two) last root
  map_at i from to root is =
      let s = stands.each i from to in
      map_of ((keys ++ one) ++ two) last (image_at new i) s.0 root (s.1 (image_at new i) (may_leave_itself new i)) (b.kept.each i from to) (front i to) is

  exact : (i j : ℕ) → moment cut ≤ i → i ≤ j → j ≤ moment new → (root : Root) → IsRootOf (image_at new i) root → (addr : ℕ) → ReachedOver (bare root.key ∷ []) pages (image_at new j).recorded addr ↔ IsInTree (image_at new i) addr
  exact i j from up to root is addr =
      let m = map_at i from (omega (arith, up, to)) root is in
      let then = second.still i (moment new) from (omega (arith, up, to)) (omega arith) root is addr in
      let there = second.still i j from up to root is addr in (
        λ r. then.0 (subst (λ (image : Image). Reached (bare root.key ∷ []) image.recorded addr) (sym (image_at-now new (moment new) (omega arith)))
            (reached_second (keys ++ one) two pages cut.present.recorded last begins later own added premises (bare root.key ∷ []) m.links m.closed m.listed own_last addr
            (over_grows (bare root.key ∷ []) pages (image_at new j).recorded last addr (front j to) r))),
        λ in_tree. over_second (bare root.key ∷ []) pages (image_at new j).recorded addr (there.1 in_tree),
      )

  lost : (j : ℕ) → moment cut ≤ j → j ≤ moment new → (root : Root) → IsRootOf (image_at new j) root → (addr : ℕ) → ReachedFirst (bare root.key ∷ []) pages (image_at new j).recorded addr → addr < length cut.present.recorded
  lost j from to root is addr r =
      let m = map_at j from to root is in
      reached_kept (keys ++ one) two pages cut.present.recorded last begins later own added premises (bare root.key ∷ []) m.links m.closed m.listed own_last addr
      (first_grows (bare root.key ∷ []) pages (image_at new j).recorded last addr (front j to) r)

  start_is : image_at new (moment cut) ≡ cut.present
  start_is = at_start cut new b.kept.extends

  floors : (i j : ℕ) → moment old ≤ i → i ≤ at → moment cut ≤ j → j ≤ moment new → min (floor_of old mid i) (length cut.present.recorded) ≤ floor_of cut new j
  floors i j from to from' to' =
      let up = first.deleted.floors i at from to o.to in
      let below = floor_below old mid at o.from in
      let left_low = low_opened (image_at mid at) left o.are in
      let many = ap (λ (xs : List (List ℕ)). length xs) found_pages in
      let same = ap low_of o.opened in
      let start : floor_of cut new (moment cut) ≡ low_of cut.present = floor_first cut new ∙ ap low_of start_is in
      let rises = second.deleted.floors (moment cut) j (omega arith) from' to' in
      omega (arith, up, below, left_low, many, same, start, rises)

  deleted : (i j : ℕ) → moment old ≤ i → i ≤ at → moment cut ≤ j → j ≤ moment new → (root : Root) → IsRootOf (image_at new j) root
      → (addr : ℕ) → ReachedFirst (bare root.key ∷ []) pages (image_at new j).recorded addr → addr < floor_of old mid i → IsInTree (image_at mid i) addr
  deleted i j from to from' to' root is addr r below =
      let start = moment cut in
      let small = lost j from' to' root is addr r in
      let in_tree = (exact j j from' (omega arith) to' root is addr).0 r.reached in
      let reached : IsReached (image_at new j) addr = record { root = root; is = is; reached = (second.still j j from' (omega arith) to' root is addr).1 in_tree } in
      let low = floors i start from to (omega arith) (omega (arith, from', to')) in
      let there : IsInTree (image_at new start) addr = second.deleted.kept start j (omega arith) from' to' addr reached (omega (arith, below, small, low)) in
      let again = second.still start start (omega arith) (omega arith) (omega (arith, from', to')) there.root there.is addr in
      let over : Reached (bare there.root.key ∷ []) cut.present.recorded addr = subst (λ (x : Image). Reached (bare there.root.key ∷ []) x.recorded addr) start_is (again.1 there) in
      let its : IsRootOf cut.present there.root = subst (λ (x : Image). IsRootOf x there.root) start_is there.is in
      let cell : (image_at mid at).cell ≡ cut.present.cell = sym o.are.cell ∙ sym (ap (λ (image : Image). image.cell) o.opened) in
      let then : IsReached (image_at mid at) addr = record {
        root = there.root;
        is = record { cell = cell ∙ its.cell; in_range = its.in_range; key = its.key };
        reached = reached_later (bare there.root.key ∷ []) cut.present.recorded pages addr begins over;
      } in
      first.deleted.kept i at from to o.to addr then below

  no_more : During cut new (ReachNoMoreOver keys pages old.present)
  no_more = record {
    extends = b.kept.extends;
    each = λ j from to roots listed addr.
        let more = All-weaker (Contains keys) (Contains (keys ++ one)) (λ key has. Contains-append_left keys one key has) roots listed in
        let law = first_reach roots more j to addr in
        let then = first.no_more.each at o.from o.to roots listed addr in
        (λ r. then.0 (law.0 r), λ r. law.1 (then.1 r));
  }

  pub discloses_over : DisclosesOver keys one at old mid cut new
  discloses_over = record {
    first = first;
    second = second;
    still = λ i j from to from' to'. still i j from to to';
    exact = exact;
    lost = lost;
    deleted = deleted;
    floors = floors;
    no_more = no_more;
  }

pub discloses_runs : (tells tells' : Type 0) (drawn between drawn_now : Option (List (List ℕ))) (at : ℕ) (left : Files) (old mid cut new : World) (status status' : ℕ) (given given_now other other_now written between_written written_now : Option (List ℕ))
    → tells → tells' → DisclosesTree tells drawn between old.history mid.history → DisclosesTree tells' between drawn_now cut.history new.history
    → AnswersScript (Unit {0}) old mid status given given_now written between_written → AnswersScript (Unit {0}) cut new status' other other_now between_written written_now
    → IsOpenedAfter old.history mid.history cut.history at left → DisclosesRuns drawn drawn_now at old.history mid.history cut.history new.history
discloses_runs tells tells' drawn between drawn_now at left old mid cut new status status' given given_now other other_now written between_written written_now told told' one two answers others o =
    let both : (device : Option Device) → StandsFor old.history.present device → IsServedImage old.history.present → (keys : List (List ℕ)) → Kept keys old.history.present
    → DisclosesBy keys one.grew old.history mid.history × DisclosesBy (keys ++ one.grew) two.grew cut.history new.history × During cut.history new.history (λ image. (device : Option Device) × LeavesOnly (λ left. Stands left device) image)
    = λ device there served keys kept.
    let image = image_at mid.history at in
    let mark = (answers.answered tt device there served).passes.each at o.from o.to in
    let stands : Stands image mark.0 = mark.2 image (may_leave_itself mid.history at) in
    let found : StandsFor cut.history.present mark.0 = subst (λ (x : Image). Stands x mark.0) (sym o.opened) (stands_opened image left o.are mark.0 stands) in
    let can : IsServedImage cut.history.present = subst IsServedImage (sym o.opened) (served_opened image left mark.0 o.are stands) in
    let a = one.only told device there served keys kept in
    let holds : Kept (keys ++ one.grew) cut.history.present = subst (Kept (keys ++ one.grew)) (sym o.opened) (kept_opened (keys ++ one.grew) image left mark.0 o.are stands (a.kept.each at o.from o.to)) in
    let passes = (others.answered tt mark.0 found can).passes in
    (a, two.only told' mark.0 found can (keys ++ one.grew) holds, record { extends = passes.extends; each = λ i from to. let m = passes.each i from to in (m.0, m.2) }) in
    record {
      one = one.grew;
      two = two.grew;
      drew = drew_then drawn between drawn_now one.grew two.grew one.drew two.drew;
      handed_first = one.handed told;
      handed_second = two.handed told';
      kept = λ device there served keys kept. During-now cut.history new.history (Kept ((keys ++ one.grew) ++ two.grew)) (both device there served keys kept).1.kept;
      only = λ device there served keys kept premises.
          let d = both device there served keys kept in
          discloses_over keys one.grew two.grew at left old.history mid.history cut.history new.history o d.0 d.1 d.2 (two.handed told') premises;
    }

-- the ledger of both runs
pub fits_over : (tells' : Type 0) (written mid_written written_now : Option (List ℕ)) (old mid : World) (cut new : History) (status : ℕ) (given given_now put put_now : Option (List ℕ)) (left : Files) (there : Option Device)
    → tells' → (one : AnswersScript (Unit {0}) old mid status given given_now put put_now) → StandsFor old.history.present there → IsServedImage old.history.present
    → AreLeftAtExit (IsSome written) old.history mid.history left → cut.present ≡ opened left → LeavesFitting written mid_written old.history.present old.history mid.history
    → (tells' → (there : Option Device) → StandsFor cut.present there → IsServedImage cut.present → LeavesFitting mid_written written_now cut.present cut new)
    → LeavesFitting written written_now old.history.present cut new
fits_over tells' written mid_written written_now old mid cut new status given given_now put put_now left there told' one stands served are is first second =
    let passes = (one.answered tt there stands served).passes in
    let found = found_fitting written mid_written old.history mid.history left passes.extends are first in
    let image = image_at mid.history found.at in
    let mark = passes.each found.at found.from found.within in
    let stood : Stands image mark.0 = mark.2 image (may_leave_itself mid.history found.at) in
    let found_there : StandsFor cut.present mark.0 = subst (λ (x : Image). Stands x mark.0) (sym is) (stands_opened image left found.are mark.0 stood) in
    let can : IsServedImage cut.present = subst IsServedImage (sym is) (served_opened image left mark.0 found.are stood) in
    leaves_over written mid_written written_now old.history.present cut.present cut new first.put first.got
    (λ text f. subst (FitsImage (text ++ first.put)) (sym is) (fits_opened (text ++ first.put) image left mark.0 found.are stood (found.fits text f)))
    (second told' mark.0 found_there can)
