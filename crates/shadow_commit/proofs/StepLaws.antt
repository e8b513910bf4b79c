-- How sealings follow one another, and where they may be made.
use Rattle.std.proofs.Common.{◌≡◌, inl, inr, ℕ, zero, suc, ◌+◌, ◌/◌, ◌<◌, ◌≤◌, List, [], ◌∷◌, ◌++◌, Option, Some, None, length, take, drop, get_or, map, refl, sym, ap, subst, ◌∙◌, arith, append_assoc, append-nil, length-append}
use Rattle.std.specs.Prelude.{Result, Ok, Err, IfOk, IsErr, IsErrOf, Contains}
use Rattle.page_store.specs.declared.refusals.AppendFault.{AppendFault}
use Rattle.page_store.specs.declared.refusals.AppendFault.TheVariants.{TapeFault, PlatformFault}
use Rattle.platform.specs.History.{Steps}
use Rattle.sdbt_base.specs.Rises.{CountsOnce, MayRiseBy}
use Rattle.platform.specs.declared.platforms.Platform.{Ghosts as PlatformGhosts}
use Rattle.sdbt_base.specs.declared.tapes.Tape.{Ghosts as TapeGhosts}
use Rattle.platform.proofs.Moments.{During-start, During-step, During-now, During-then, During-weaker}
use Rattle.std.specs.Option.{option_map}
use Rattle.std.proofs.lemmas.List.{map-append, take_more}
use Rattle.platform.specs.Image.{Image, with_page, MayHavePage}
use Rattle.sdbt_base.specs.Keys.{bare, key_size, version_of}
use Rattle.sdbt_base.proofs.KeyLaws.{bare_plain, bare_behind}
use Rattle.record_versions.specs.Versions.{IsVersion}
use Rattle.page_digest.specs.Digest.{digest, FitsDigest, length-digest}
use Rattle.page_store.proofs.AppendLaws.{with_fit, plain_fit, same_mask}
use Rattle.node_codec.specs.declared.body.Entry.{Entry}
use Rattle.node_codec.specs.Record.{NodeRecord, FitsNode, record_bytes}
use Rattle.seal_record.specs.Sealing.{masked}
use Rattle.sdbt_base.specs.Told.{Drew}
use Rattle.btree_twigs.specs.declared.twigs.Child.{Child, Child-F, out-Child}
use Rattle.btree_twigs.specs.declared.twigs.Child.TheOpen.{Kept, Grown}
use Rattle.btree_twigs.specs.declared.twigs.Child.TheVariants as made
use Rattle.btree_twigs.specs.declared.twigs.Twig.{Twig}
use Rattle.btree_twigs.specs.Stubs.{Stub, start_by, stubs_by, stubs_in, datum_in, low_of, level_of, children_of, stubs, stubs_below, sum_by, nodes_in, nodes, nodes_below}
use Rattle.btree_twigs.specs.Top.{level_in, child_level}
use Rattle.btree_twigs.specs.Shape.{EachBy, IsDatum, IsChildBy, IsChild, IsTwig}
use Rattle.btree_twigs.proofs.ListLaws.{each_back, each_le, stubs_append, split_here}
use Rattle.btree_twigs.proofs.Counts.{sum_append}
use Rattle.shadow_commit.specs.Sealed.{Sealed, page_of, with_nodes, SealsNode, SealsKept, SealsDatum, SealsIn, Seals}
use Rattle.shadow_commit.specs.Handing.{Adds, Stops, MayHave, OnlyAdds}
use Rattle.shadow_commit.specs.NewTree.{keys_at}
use Rattle.shadow_commit.proofs.KeyLaws.{Within, in_places_left, in_places_right}
use Rattle.page_store.specs.Keeping.{DrewAll}
use Rattle.btree_update.specs.Held.{bound, AreBelow}
use Rattle.shadow_commit.specs.CanSeal.{CanSeal, CanSealChild}
use Rattle.shadow_commit.proofs.SealLaws.{below_front, below_back}

-- ---- images and keys

no_nodes : (image : Image) → image ≡ with_nodes image []
no_nodes image = λ i. record image { recorded = sym (append-nil image.recorded) i; readable = sym (append-nil image.readable) i }

more_nodes : (image : Image) (ns ms : List Sealed) → with_nodes (with_nodes image ns) ms ≡ with_nodes image (ns ++ ms)
more_nodes image ns ms =
    let all : (pages : List (List ℕ)) → (pages ++ map page_of ns) ++ map page_of ms ≡ pages ++ map page_of (ns ++ ms)
    = λ pages. append_assoc pages (map page_of ns) (map page_of ms) ∙ ap (λ xs. pages ++ xs) (sym (map-append page_of ns ms)) in
    λ i. record image { recorded = all image.recorded i; readable = all image.readable i }

no_keys : (drawn : Option (List (List ℕ))) → DrewAll drawn [] drawn
no_keys None = refl
no_keys (Some keys) = ap Some (sym (append-nil keys))

more_keys : (drawn mid now : Option (List (List ℕ))) (ks ls : List (List ℕ)) → DrewAll drawn ks mid → DrewAll mid ls now → DrewAll drawn (ks ++ ls) now
more_keys None mid now ks ls h k = k ∙ ap (option_map (λ before. before ++ ls)) h
more_keys (Some keys) mid now ks ls h k = k ∙ ap (option_map (λ before. before ++ ls)) h ∙ ap Some (append_assoc keys ks ls)

pub adds_none : (Is : List Sealed → Type 0) (tells : Type 0) (image : Image) (head : ℕ) (drawn : Option (List (List ℕ))) → Is [] → Adds Is tells image image head head drawn drawn
adds_none Is tells image head drawn is = record { nodes = []; is = is; image = λ told. no_nodes image; head = omega arith; drew = no_keys drawn }

pub adds_as : (Is Js : List Sealed → Type 0) (tells : Type 0) (old new : Image) (head head' : ℕ) (drawn drawn' : Option (List (List ℕ))) →
    ((ns : List Sealed) → Is ns → Js ns) → Adds Is tells old new head head' drawn drawn' → Adds Js tells old new head head' drawn drawn'
adds_as Is Js tells old new head head' drawn drawn' f h = record { nodes = h.nodes; is = f h.nodes h.is; image = h.image; head = h.head; drew = h.drew }

pub adds_then : (Is Js Ks : List Sealed → Type 0) (tells : Type 0) (old mid new : Image) (head head' head'' : ℕ) (drawn drawn' drawn'' : Option (List (List ℕ))) →
    ((ns ms : List Sealed) → head' ≡ head + length ns → Is ns → Js ms → Ks (ns ++ ms)) →
    Adds Is tells old mid head head' drawn drawn' → Adds Js tells mid new head' head'' drawn' drawn'' → Adds Ks tells old new head head'' drawn drawn''
adds_then Is Js Ks tells old mid new head head' head'' drawn drawn' drawn'' f h k = record {
  nodes = h.nodes ++ k.nodes;
  is = f h.nodes k.nodes h.head h.is k.is;
  image = λ told. k.image told ∙ ap (λ (image : Image). with_nodes image k.nodes) (h.image told) ∙ more_nodes old h.nodes k.nodes;
  head = omega (arith, h.head, k.head, length-append h.nodes k.nodes);
  drew = subst (λ keys. DrewAll drawn keys drawn'') (sym (map-append (λ (n : Sealed). bare n.key) h.nodes k.nodes)) (more_keys drawn drawn' drawn'' (map (λ (n : Sealed). bare n.key) h.nodes) (map (λ (n : Sealed). bare n.key) k.nodes) h.drew k.drew);
}

-- one page
pub adds_page : (tells : Type 0) (old new : Image) (head head' : ℕ) (drawn drawn' : Option (List (List ℕ))) (node : Sealed) (body : List ℕ) →
    body ≡ record_bytes (version_of node.key) node.addr (NodeRecord node.level node.entries) → (tells → new ≡ with_page old (masked node.key body) (masked node.key body)) → head' ≡ head + 1 → Drew drawn (bare node.key) drawn' →
    Adds (λ ns. ns ≡ node ∷ []) tells old new head head' drawn drawn'
adds_page tells old new head head' drawn drawn' node body is image up drew = record {
  nodes = node ∷ [];
  is = refl;
  image = λ told. image told ∙ ap (λ (bytes : List ℕ). with_page old (masked node.key bytes) (masked node.key bytes)) is;
  head = up;
  drew = drew;
}

-- ---- a child in memory

pub record IsGrownAt (version order level high head : ℕ) (c : Child) (low : ℕ) (twig : Twig) : Type 0 where
  pub below : ℕ
  pub level_is : level ≡ suc below
  pub shaped : IsTwig order below (order / 2) order low high twig
  pub under : AreBelow (bound head (key_size version)) (stubs_below below high twig)
  pub places : stubs level high c ≡ stubs_below below high twig
  pub count : nodes level c ≡ suc (nodes_below below twig)

pub grown_at : (version order level high head : ℕ) (c : Child) (low : ℕ) (twig : Twig) → c ≡ made.Grown low twig → IsChild order level high c → AreBelow (bound head (key_size version)) (stubs level high c) → IsGrownAt version order level high head c low twig
unfolding IsChild stubs nodes
grown_at version order zero high head c low twig is shaped under =
    let out = ap out-Child is ∙ made.outs-Grown low twig in
    absurd (subst IsDatum out shaped)
grown_at version order (suc level) high head c low twig is shaped under =
    let out = ap out-Child is ∙ made.outs-Grown low twig in
    record {
      below = level;
      level_is = refl;
      shaped = subst (IsChildBy (IsChild order level) order level high) out shaped;
      under = subst (λ x. AreBelow (bound head (key_size version)) (stubs_in (stubs level) (suc level) high x)) out under;
      places = ap (stubs_in (stubs level) (suc level) high) out;
      count = ap (nodes_in (nodes level)) out;
    }

-- the key of a child on the medium is of the version
pub kept_size : (version level high head : ℕ) (c : Child) (low addr : ℕ) (key : List ℕ) → c ≡ made.Kept low addr key → AreBelow (bound head (key_size version)) (stubs level high c) → length key ≡ key_size version
unfolding stubs
kept_size version zero high head c low addr key is under = (subst (λ x. AreBelow (bound head (key_size version)) (datum_in x)) (ap out-Child is ∙ made.outs-Kept low addr key) under).0.1
kept_size version (suc level) high head c low addr key is under =
    (subst (λ x. AreBelow (bound head (key_size version)) (stubs_in (stubs level) (suc level) high x)) (ap out-Child is ∙ made.outs-Kept low addr key) under).0.1

abbrev pub can_below : (version head capacity : ℕ) (c : Child) (low : ℕ) (twig : Twig) (at : CanSealChild version head capacity c) → IsGrownAt version at.order at.level at.high head c low twig → CanSeal version head capacity twig
can_below version head capacity c low twig at s = record {
  order = at.order;
  level = s.below;
  least = at.order / 2;
  low = low;
  high = at.high;
  shaped = s.shaped;
  version_known = at.version_known;
  order_most = at.order_most;
  level_most = omega (arith, at.level_most, s.level_is);
  blocks = at.blocks;
  below = s.under;
  room = omega (arith, at.room, s.count);
}

pub seals_grown : (version level below first : ℕ) (c : Child) (low : ℕ) (twig : Twig) (ns : List Sealed) (addr : ℕ) (key : List ℕ) → c ≡ made.Grown low twig → level ≡ suc below →
    SealsNode version (Seals version below) below first (children_of twig) ns addr key → Seals version level first c ns (record { low = low; addr = addr; key = key })
unfolding Seals
seals_grown version level below first c low twig ns addr key is level_is h =
    let out = ap out-Child is ∙ made.outs-Grown low twig in
    let grown : SealsIn version (Seals version below) below first (Grown low twig) ns (record { low = low; addr = addr; key = key }) = record { low_is = refl; node = h } in
    subst (λ m. Seals version m first c ns (record { low = low; addr = addr; key = key })) (sym level_is)
    (subst (λ x. SealsIn version (Seals version below) below first x ns (record { low = low; addr = addr; key = key })) (sym out) grown)

pub seals_kept : (version level first : ℕ) (c : Child) (low addr : ℕ) (key : List ℕ) (ns : List Sealed) (e : Entry) → c ≡ made.Kept low addr key → SealsKept version low addr key ns e → Seals version level first c ns e
unfolding Seals
seals_kept version zero first c low addr key ns e is h = subst (λ x. SealsDatum version x ns e) (sym (ap out-Child is ∙ made.outs-Kept low addr key)) h
seals_kept version (suc level) first c low addr key ns e is h = subst (λ x. SealsIn version (Seals version level) level first x ns e) (sym (ap out-Child is ∙ made.outs-Kept low addr key)) h

-- ---- a child of a node

pub below_later : (version head head' : ℕ) (ss : List Stub) → head ≤ head' → AreBelow (bound head (key_size version)) ss → AreBelow (bound head' (key_size version)) ss
below_later version head head' [] le h = tt
below_later version head head' (s ∷ ss) le h = ((omega (arith, h.0.0, le), h.0.1), below_later version head head' ss le h.1)

abbrev pub end_at : ℕ → ℕ → List Child → ℕ
end_at high i cs = start_by low_of (drop (suc i) cs) high

pub record IsChildAt (version order level high head : ℕ) (cs : List Child) (i : ℕ) (c : Child) : Type 0 where
  pub shaped : IsChild order level (end_at high i cs) c
  pub end : end_at high i cs ≤ high
  pub under : AreBelow (bound head (key_size version)) (stubs level (end_at high i cs) c)
  pub places : Within (keys_at (stubs level (end_at high i cs) c)) (keys_at (stubs_by low_of (stubs level) high cs))
  pub count : sum_by (nodes level) cs ≡ sum_by (nodes level) (take i cs) + nodes level c + sum_by (nodes level) (drop (suc i) cs)
  pub more : take (i + 1) cs ≡ take i cs ++ c ∷ []

pub child_at : (version order level high head : ℕ) (cs : List Child) (i : ℕ) (c : Child) → i < length cs → c ≡ get_or cs i c → EachBy low_of (IsChild order level) high cs → AreBelow (bound head (key_size version)) (stubs_by low_of (stubs level) high cs) → IsChildAt version order level high head cs i c
child_at version order level high head cs i c lt is each under =
    let split = split_here cs i c lt is in
    let fs = take i cs in
    let bs = drop (suc i) cs in
    let back = each_back low_of (IsChild order level) high fs (c ∷ bs) (subst (EachBy low_of (IsChild order level) high) split each) in
    let here = stubs level (end_at high i cs) c in
    let front = stubs_by low_of (stubs level) (low_of c) fs in
    let behind = stubs_by low_of (stubs level) high bs in
    let all : stubs_by low_of (stubs level) high cs ≡ front ++ (here ++ behind) = ap (stubs_by low_of (stubs level) high) split ∙ stubs_append low_of (stubs level) high fs (c ∷ bs) in
    let places = subst (AreBelow (bound head (key_size version))) all under in
    record {
      shaped = back.1;
      end = each_le low_of (IsChild order level) high bs back.2;
      under = below_front (bound head (key_size version)) here behind (below_back (bound head (key_size version)) front (here ++ behind) places);
      places = λ x has. subst (λ ss. Contains (keys_at ss) x) (sym all) (in_places_right front (here ++ behind) x (in_places_left here behind x has));
      count = omega (arith, ap (sum_by (nodes level)) split, sum_append (nodes level) fs (c ∷ bs));
      more = rw (take_more cs i c lt, ← is) refl;
    }

-- the child that a loop is at
pub loop_child : (version head capacity : ℕ) (twig : Twig) (cs : List Child) (i : ℕ) (c : Child) (at : CanSeal version head capacity twig) → cs ≡ children_of twig → i < length cs → c ≡ get_or cs i c → IsChildAt version at.order at.level at.high head cs i c
loop_child version head capacity twig cs i c at same lt here =
    child_at version at.order at.level at.high head cs i c lt here (subst (EachBy low_of (IsChild at.order at.level) at.high) (sym same) at.shaped.node.each)
    (subst (λ xs. AreBelow (bound head (key_size version)) (stubs_by low_of (stubs at.level) at.high xs)) (sym same) at.below)

abbrev pub can_child : (version head capacity now capacity' : ℕ) (twig : Twig) (cs : List Child) (i : ℕ) (c : Child) (at : CanSeal version head capacity twig) → IsChildAt version at.order at.level at.high head cs i c →
    cs ≡ children_of twig → head ≤ now → now ≡ head + sum_by (nodes at.level) (take i cs) → capacity' ≡ capacity → CanSealChild version now capacity' c
can_child version head capacity now capacity' twig cs i c at s same le is cap = record {
  order = at.order;
  level = at.level;
  high = end_at at.high i cs;
  shaped = s.shaped;
  version_known = at.version_known;
  order_most = at.order_most;
  level_most = omega (arith, at.level_most);
  blocks = omega (arith, at.blocks, s.end);
  below = below_later version head now _ le s.under;
  room = omega (arith, at.room, s.count, is, ap (sum_by (nodes at.level)) same, cap);
}

-- ---- beside

abbrev HasCell : Option (List ℕ) → Image → Type 0
HasCell cell image = image.cell ≡ cell

-- no call yet
pub beside_start : {S R : Type 0} (P : PlatformGhosts S) (T : TapeGhosts R) (syncs : ℕ) (x : S) (y : R) → OnlyAdds P T syncs x x y y
beside_start P T syncs x y = record {
  cell = λ told. During-start (P.history x) (HasCell (P.history x).present.cell) refl;
  head = omega arith;
  capacity = refl;
  reads = λ told. refl;
  changes = λ told. record { rises = omega arith; at_most = omega arith };
  platform_faults = omega arith;
  tape_faults = omega arith;
}

-- one call of the platform, after perhaps one of the tape
pub beside_call : {S R : Type 0} (P : PlatformGhosts S) (T : TapeGhosts R) (syncs : ℕ) (x x' : S) (y y' : R) → (P.tells → Steps (P.history x) (P.history x')) → (P.tells → (P.history x').present.cell ≡ (P.history x).present.cell) →
    P.head x ≤ P.head x' → P.capacity x' ≡ P.capacity x → (P.tells → P.reads x' ≡ P.reads x) → (P.tells → MayRiseBy syncs (P.changes x) (P.changes x')) → P.faults x ≤ P.faults x' → T.faults y ≤ T.faults y' → OnlyAdds P T syncs x x' y y'
beside_call P T syncs x x' y y' steps cell head capacity reads changes faults tape = record {
  cell = λ told. During-step (P.history x) (P.history x') (HasCell (P.history x).present.cell) (steps told) refl (cell told);
  head = head;
  capacity = capacity;
  reads = reads;
  changes = changes;
  platform_faults = faults;
  tape_faults = tape;
}

-- one call after another
pub beside_then : {S R : Type 0} (P : PlatformGhosts S) (T : TapeGhosts R) (syncs : ℕ) (x x' x'' : S) (y y' y'' : R) → OnlyAdds P T 0 x x' y y' → OnlyAdds P T syncs x' x'' y' y'' → OnlyAdds P T syncs x x'' y y''
beside_then P T syncs x x' x'' y y' y'' one two = record {
  cell = λ told.
      let cell = During-now (P.history x) (P.history x') (HasCell (P.history x).present.cell) (one.cell told) in
      During-then (P.history x) (P.history x') (P.history x'') (HasCell (P.history x).present.cell) (one.cell told)
      (During-weaker (P.history x') (P.history x'') (HasCell (P.history x').present.cell) (HasCell (P.history x).present.cell) (λ image is. is ∙ cell) (two.cell told));
  head = let a = one.head in let b = two.head in omega (arith, a, b);
  capacity = two.capacity ∙ one.capacity;
  reads = λ told. two.reads told ∙ one.reads told;
  changes = λ told. let a = one.changes told in let b = two.changes told in record { rises = omega (arith, a, b); at_most = omega (arith, a, b) };
  platform_faults = let a = one.platform_faults in let b = two.platform_faults in omega (arith, a, b);
  tape_faults = let a = one.tape_faults in let b = two.tape_faults in omega (arith, a, b);
}

-- the same, where a sync may come behind it
pub beside_unsynced : {S R : Type 0} (P : PlatformGhosts S) (T : TapeGhosts R) (syncs : ℕ) (x x' : S) (y y' : R) → OnlyAdds P T 0 x x' y y' → OnlyAdds P T syncs x x' y y'
beside_unsynced P T syncs x x' y y' one = beside_then P T syncs x x' x' y y' y' one (beside_start P T syncs x' y')

pub if_ok : {A E : Type 0} (Q : A → Type 0) (r : Result A E) → ((x : A) → r ≡ Ok x → Q x) → IfOk r Q
if_ok Q (Ok x) f = f x refl
if_ok Q (Err e) f = tt

pub fits_as : (version addr addr' level level' : ℕ) (es es' : List Entry) → addr ≡ addr' → level ≡ level' → es ≡ es' → FitsNode version addr level es → FitsNode version addr' level' es'
fits_as version addr addr' level level' es es' a l e h = subst (FitsNode version addr' level') e (subst (λ m. FitsNode version addr' m es) l (subst (λ n. FitsNode version n level es) a h))

pub body_as : (version addr addr' level level' : ℕ) (es es' : List Entry) → addr ≡ addr' → level ≡ level' → es ≡ es' → record_bytes version addr (NodeRecord level es) ≡ record_bytes version addr' (NodeRecord level' es')
body_as version addr addr' level level' es es' a l e = λ i. record_bytes version (a i) (NodeRecord (l i) (e i))

-- ---- levels

pub level_within : (order level high : ℕ) (c : Child) → IsChild order level high c → child_level c ≤ level
unfolding IsChild
level_within order zero high c h = here (out-Child c) h
  where
    here : (x : Child-F Child Twig) → IsDatum x → level_in x ≤ 0
    here (Kept low addr key) h = omega arith
    here (Grown low twig) h = absurd h
level_within order (suc level) high c h = here (out-Child c) h
  where
    here : (x : Child-F Child Twig) → IsChildBy (IsChild order level) order level high x → level_in x ≤ suc level
    here (Kept low addr key) h = omega arith
    here (Grown low twig) h = omega (arith, h.level_is)

pub grown_level : (c : Child) (low : ℕ) (twig : Twig) → c ≡ made.Grown low twig → child_level c ≡ level_of twig
grown_level c low twig is = ap level_in (ap out-Child is ∙ made.outs-Grown low twig)

-- ---- faults

pub adds_stops : (Is Are All : List Sealed → Type 0) (tells : Type 0) (old mid new : Image) (head head' : ℕ) (drawn drawn' drawn'' : Option (List (List ℕ))) (h : Adds Is tells old mid head head' drawn drawn') →
    ((ms : List Sealed) → Are ms → All (h.nodes ++ ms)) → Stops Are tells mid new drawn' drawn'' → Stops All tells old new drawn drawn''
adds_stops Is Are All tells old mid new head head' drawn drawn' drawn'' h f k =
    let assoc = append_assoc h.nodes k.nodes k.last in
    record {
      nodes = h.nodes ++ k.nodes;
      last = k.last;
      are = subst All (sym assoc) (f (k.nodes ++ k.last) k.are);
      image = λ told. subst (λ (i : Image). MayHave i k.last new) (ap (λ (image : Image). with_nodes image k.nodes) (h.image told) ∙ more_nodes old h.nodes k.nodes) (k.image told);
      drew = subst (λ keys. DrewAll drawn keys drawn'') (sym (map-append (λ (n : Sealed). bare n.key) h.nodes (k.nodes ++ k.last)) ∙ ap (map (λ (n : Sealed). bare n.key)) (sym assoc))
          (more_keys drawn drawn' drawn'' (map (λ (n : Sealed). bare n.key) h.nodes) (map (λ (n : Sealed). bare n.key) (k.nodes ++ k.last)) h.drew k.drew);
    }

pub stops_as : (Are All : List Sealed → Type 0) (tells : Type 0) (old new : Image) (drawn drawn' : Option (List (List ℕ))) → ((ms : List Sealed) → Are ms → All ms) → Stops Are tells old new drawn drawn' → Stops All tells old new drawn drawn'
stops_as Are All tells old new drawn drawn' f h = record { nodes = h.nodes; last = h.last; are = f (h.nodes ++ h.last) h.are; image = h.image; drew = h.drew }

-- nothing was handed over
pub stops_none : (Are : List Sealed → Type 0) (tells : Type 0) (old new : Image) (drawn drawn' : Option (List (List ℕ))) → Are [] → (tells → new ≡ old) → drawn' ≡ drawn → Stops Are tells old new drawn drawn'
stops_none Are tells old new drawn drawn' are same undrawn = record { nodes = []; last = []; are = are; image = λ told. same told ∙ no_nodes old; drew = undrawn ∙ no_keys drawn }

-- of one node the page may have been
pub stops_one : (Are : List Sealed → Type 0) (tells : Type 0) (old new : Image) (drawn drawn' : Option (List (List ℕ))) (n : Sealed) (body : List ℕ) → Are (n ∷ []) → body ≡ record_bytes (version_of n.key) n.addr (NodeRecord n.level n.entries) →
    (tells → MayHavePage old (masked n.key body) new) → Drew drawn (bare n.key) drawn' → Stops Are tells old new drawn drawn'
stops_one Are tells old new drawn drawn' n body are is may drew = record {
  nodes = [];
  last = n ∷ [];
  are = are;
  image = λ told. (subst (λ (i : Image). MayHavePage i (page_of n) new) (no_nodes old) (subst (λ (bytes : List ℕ). MayHavePage old (masked n.key bytes) new) is (may told)), refl);
  drew = drew;
}

-- the key of a page that may have been handed over, as it names this page in a version
pub record IsNamed (version : ℕ) (key body : List ℕ) : Type 0 where
  pub name : List ℕ
  pub sized : length name ≡ key_size version
  pub bare_is : bare name ≡ key
  pub digested : FitsDigest name (masked name body)

pub named_key : (version : ℕ) (key body : List ℕ) → IsVersion version → length key ≡ 32 → IsNamed version key body
named_key version key body (inl one) plain = record {
  name = key;
  sized = plain ∙ ap key_size (sym one);
  bare_is = bare_plain key plain;
  digested = plain_fit key (masked key body) plain;
}
named_key version key body (inr two) plain =
    let behind = digest (masked key body) in
    let name = key ++ behind in
    let bare_is : bare name ≡ key = bare_behind key behind plain (length-digest (masked key body)) in
    let long : length name ≡ 64 = omega (arith, length-append key behind, plain, length-digest (masked key body)) in
    record {
      name = name;
      sized = long ∙ ap key_size (sym two);
      bare_is = bare_is;
      digested = with_fit key behind name (masked name body) plain (ap digest (same_mask key name body bare_is)) (ap (λ (k : List ℕ). k ++ behind) (sym (bare_plain key plain)));
    }

pub fault_cases : {A : Type 0} (r : Result A AppendFault) (Q : Type 0) → IsErr r → (IsErrOf r TapeFault → Q) → (IsErrOf r PlatformFault → Q) → Q
fault_cases (Ok x) Q h f g = absurd cc
fault_cases (Err TapeFault) Q h f g = f refl
fault_cases (Err PlatformFault) Q h f g = g refl
