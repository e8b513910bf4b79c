-- What an upgrade says of the tree of a root record whose nodes were listed.
use Rattle.std.proofs.Common.{◌≡◌, ◌∙◌, ap, sym, subst, refl, ◌+◌, ◌-◌, ◌<◌, ◌⊎◌, inl, inr, ℕ, zero, suc, List, [], ◌∷◌, ◌++◌, Err, arith, length, map, get_or}
use Rattle.std.specs.Prelude.{All, Contains}
use Rattle.std.specs.List.Sorted.{IsStrictlyIncreasing}
use Rattle.std.proofs.lemmas.List.{length-map, get_or-map}
use Rattle.std.proofs.lemmas.List.Elements.{All-weaker, Contains-append_cases, Contains-append_right}
use Rattle.sdbt_base.specs.Faults.{TellsOf}
use Rattle.platform.specs.Image.{Image}
use Rattle.platform.specs.declared.platforms.Platform.{Ghosts}
use Rattle.node_codec.specs.declared.body.Entry.{Entry}
use Rattle.node_codec.specs.Record.{DataRecord, NodeRecord}
use Rattle.root_codec.specs.declared.root.Root.{Root}
use Rattle.root_codec.specs.RootRecord.{FitsRoot}
use Rattle.page_store.specs.declared.wants.Want.{Want}
use Rattle.page_store.specs.Places.{NothingFits, root_want, child_want, block_want}
use Rattle.page_store.specs.Tree.{Parts, Tree, bound_of, SomeChild, WrongBelow, Wrong}
use Rattle.page_store.proofs.WrongLaws.{wrong_here}
use Rattle.btree_walk.specs.declared.refusals.WalkRefusal.{WalkRefusal}
use Rattle.btree_walk.specs.declared.refusals.WalkRefusal.TheVariants as walks
use Rattle.btree_walk.specs.Mapped.{IsListedWithin, entry_of}
use Rattle.btree_walk.specs.Nodes.{Node, branches, Joined, Nodes, NodesOf, listed, FirstWrongOf}
use Rattle.btree_walk.proofs.ListLaws.{none_below}
use Rattle.btree_walk.proofs.LevelLaws.{tree_entries, above_leaves}
use Rattle.btree_walk.proofs.OrderLaws.{root_within, root_ordered}
use Rattle.btree_walk.proofs.ShowsLaws.{listed-inner, listed-append, first_wrong_is_wrong}
use Rattle.device_core.specs.Upgrading.{IsDamaged, ListsAnother, StopsListing}
use Rattle.device_core.specs.Surveying.{IsListing, IsSurveyCause, unlisted}

-- ---- what is listed is in order

ascending : (es : List Entry) → ((i j : ℕ) (d : Entry) → i < j → j < length es → (get_or es i d).low < (get_or es j d).low) → IsStrictlyIncreasing (map (λ (e : Entry). e.low) es)
ascending [] pairs k within = absurd (omega (arith, within))
ascending (x ∷ es) pairs k within =
    let size = length-map (x ∷ es) (λ (e : Entry). e.low) in
    let next : k + 1 < length (x ∷ es) = omega (arith, within, size) in
    let here = get_or-map (λ (e : Entry). e.low) (x ∷ es) k x 0 (omega (arith, next)) in
    let behind = get_or-map (λ (e : Entry). e.low) (x ∷ es) (k + 1) x 0 next in
    omega (arith, here, behind, pairs k (k + 1) x (omega arith) next)

pub listing_of : (pages : List (List ℕ)) (root : Root) (nodes : List Node) (entries : List Entry) → FitsRoot root → NodesOf pages root nodes → entries ≡ listed nodes → length entries ≡ root.mapped → IsListing root entries
listing_of pages root nodes entries fits are is count =
    let back = sym is in
    let within = root_within pages root nodes fits are in (
      count,
      subst (λ (es : List Entry). IsStrictlyIncreasing (map (λ (e : Entry). e.low) es)) back (ascending (listed nodes) (root_ordered pages root nodes fits are)),
      subst (All (λ (e : Entry). e.low < root.blocks)) back (All-weaker (IsListedWithin 0 root.blocks root.addr) (λ (e : Entry). e.low < root.blocks) (λ e w. w.to) (listed nodes) within),
      subst (All (λ (e : Entry). e.addr < root.addr)) back (All-weaker (IsListedWithin 0 root.blocks root.addr) (λ (e : Entry). e.addr < root.addr) (λ e w. w.under) (listed nodes) within),
    )

-- where it is no listing of the root record, they are another number
pub lists_another : (pages : List (List ℕ)) (root : Root) (nodes : List Node) (entries : List Entry) → FitsRoot root → NodesOf pages root nodes → entries ≡ listed nodes → (IsListing root entries → ⊥) → StopsListing pages root root.addr
lists_another pages root nodes entries fits are is none =
    inr (refl, record { nodes = nodes; are = are; another = λ many. none (listing_of pages root nodes entries fits are is (ap length is ∙ many)) })

-- no tree of these pages has as many blocks then
pub no_such_tree : (pages : List (List ℕ)) (root : Root) (parts : Parts) → FitsRoot root → ListsAnother pages root → Tree pages root parts → length parts.mapped ≡ root.mapped → ⊥
no_such_tree pages root parts fits lists tree many =
    let size : length (listed lists.nodes) ≡ length parts.mapped = ap length (tree_entries pages root parts lists.nodes fits tree lists.are) ∙ length-map parts.mapped entry_of in
    lists.another (size ∙ many)

-- ---- why there is no listing

pub walk_cause : {S A : Type 0} (B : Type 0) (P : Ghosts S) (platform platform_now : S) (root : Root) (refusal : WalkRefusal) → TellsOf {T = A} walks.PlatformFault (Err refusal) (P.faults platform) (P.faults platform_now)
    → (P.tells → (addr : ℕ) → refusal ≡ walks.BadRecord addr → FirstWrongOf (P.history platform).present.readable root addr) → IsSurveyCause {A = B} P platform platform_now root (Err (unlisted refusal))
walk_cause B P platform platform_now root (walks.BadRecord addr) told wrong =
    (λ tells. inl (wrong tells addr refl), told.refused (λ is. absurd cc))
walk_cause B P platform platform_now root walks.PlatformFault told wrong = told.failed refl
walk_cause B P platform platform_now root walks.Memory told wrong = told.refused (λ is. absurd cc)

-- where another walk was done before
pub walk_cause_then : {S A : Type 0} (B : Type 0) (P : Ghosts S) (platform mid platform_now : S) (root : Root) (refusal : WalkRefusal) → P.faults mid ≡ P.faults platform → (P.tells → (P.history mid).present ≡ (P.history platform).present)
    → TellsOf {T = A} walks.PlatformFault (Err refusal) (P.faults mid) (P.faults platform_now)
    → (P.tells → (addr : ℕ) → refusal ≡ walks.BadRecord addr → FirstWrongOf (P.history mid).present.readable root addr) → IsSurveyCause {A = B} P platform platform_now root (Err (unlisted refusal))
walk_cause_then {S = S} {A = A} B P platform mid platform_now root refusal same image told wrong =
    walk_cause {S = S} {A = A} B P platform platform_now root refusal (subst (λ (n : ℕ). TellsOf {T = A} walks.PlatformFault (Err refusal) n (P.faults platform_now)) same told)
    (λ tells addr is. subst (λ (i : Image). FirstWrongOf i.readable root addr) (image tells) (wrong tells addr is))

-- ---- a listed data record that doesn't fit

block_wanted : (pages : List (List ℕ)) (order high : ℕ) (entry : Entry) → NothingFits pages (block_want entry.addr entry.low) entry.key → NothingFits pages (child_want order zero entry high) entry.key
block_wanted pages order high entry nothing (DataRecord block content) fits = nothing (DataRecord block content) fits
block_wanted pages order high entry nothing (NodeRecord level entries) fits = omega (arith, fits.0.in_range.0.level_least, fits.1.same_level)

leaf_some : (pages : List (List ℕ)) (order high : ℕ) (entries : List Entry) (e : Entry) → Contains entries e → NothingFits pages (block_want e.addr e.low) e.key → SomeChild (WrongBelow pages e.addr order zero) order zero high entries
leaf_some pages order high [] e (k, within, is) nothing = absurd (omega (arith, within))
leaf_some pages order high (x ∷ xs) e (zero, within, is) nothing =
    inl (subst (λ (y : Entry). WrongBelow pages e.addr order zero (child_want order zero y (bound_of xs high)) y.key) (sym is)
    (wrong_here pages order zero (child_want order zero e (bound_of xs high)) e.key (block_wanted pages order (bound_of xs high) e nothing)))
leaf_some pages order high (x ∷ xs) e (suc k, within, is) nothing = inr (leaf_some pages order high xs e (k, omega (arith, within), is) nothing)

-- below one of the entries, where it is so below each that has it
abbrev LeadsTo : List (List ℕ) → ℕ → ℕ → Entry → Type 0
LeadsTo pages order level e = (want : Want) (key : List ℕ) (nodes : List Node) → Nodes pages order level want key nodes → Contains (listed nodes) e → WrongBelow pages e.addr order level want key

inner_some : (pages : List (List ℕ)) (order level high : ℕ) (entries : List Entry) (nodes : List Node) (e : Entry) → LeadsTo pages order level e
    → Joined (λ b. Nodes pages order level b.want b.key) (branches order level high entries) nodes → Contains (listed nodes) e → SomeChild (WrongBelow pages e.addr order level) order level high entries
inner_some pages order level high [] nodes e below are has =
    let none = subst (λ (ns : List Node). Contains (listed ns) e) are has in absurd (omega (arith, none.1))
inner_some pages order level high (x ∷ xs) nodes e below are has =
    let split = subst (λ (es : List Entry). Contains es e) (ap listed are.is ∙ listed-append are.first are.rest) has in
    elim (Contains-append_cases (listed are.first) (listed are.rest) e split) [
      | inl first ↦ inl (below (child_want order level x (bound_of xs high)) x.key are.first are.one first)
      | inr rest ↦ inr (inner_some pages order level high xs are.rest e below are.others rest)
    ]

leads_to : (pages : List (List ℕ)) (order level : ℕ) (e : Entry) → NothingFits pages (block_want e.addr e.low) e.key → LeadsTo pages order (suc level) e
unfolding Nodes WrongBelow
leads_to pages order zero e nothing want key nodes are has =
    let none : are.below ≡ [] = none_below pages order (branches order zero want.high are.entries) are.below are.each in
    let whole : listed nodes ≡ are.entries ++ [] = ap listed are.is ∙ ap (λ (ns : List Node). are.entries ++ listed ns) none in
    let here : Contains are.entries e = elim (Contains-append_cases are.entries [] e (subst (λ (es : List Entry). Contains es e) whole has)) [ inl in_leaf ↦ in_leaf | inr behind ↦ absurd (omega (arith, behind.1)) ] in
    inr record { entries = are.entries; fits = are.fits; some = leaf_some pages order want.high are.entries e here nothing }
leads_to pages order (suc level) e nothing want key nodes are has =
    let whole : listed nodes ≡ listed are.below = ap listed are.is ∙ listed-inner want.addr level are.entries are.below in
    inr record {
      entries = are.entries;
      fits = are.fits;
      some = inner_some pages order (suc level) want.high are.entries are.below e (leads_to pages order level e nothing) are.each (subst (λ (es : List Entry). Contains es e) whole has);
    }

-- is wrong
pub record_wrong : (pages : List (List ℕ)) (root : Root) (nodes : List Node) (e : Entry) → FitsRoot root → NodesOf pages root nodes → Contains (listed nodes) e → NothingFits pages (block_want e.addr e.low) e.key → Wrong pages root e.addr
record_wrong pages root nodes e fits are has nothing =
    let up = above_leaves root.level fits.level_least in
    subst (λ (n : ℕ). WrongBelow pages e.addr root.order n (root_want root) root.key) up
    (leads_to pages root.order (root.level - 1) e nothing (root_want root) root.key nodes (subst (λ (n : ℕ). Nodes pages root.order n (root_want root) root.key nodes) (sym up) are) has)

-- an upgrade stops at a wrong place, or at the root node where the nodes list another number of blocks
pub damaged_wrong : (pages : List (List ℕ)) (root : Root) (addr : ℕ) → FitsRoot root → IsDamaged pages root addr → Wrong pages root addr ⊎ ((addr ≡ root.addr) × ListsAnother pages root)
damaged_wrong pages root addr fits (inl (inl first)) = inl (first_wrong_is_wrong pages addr root.order root.level (root_want root) root.key first)
damaged_wrong pages root addr fits (inl (inr another)) = inr another
damaged_wrong pages root addr fits (inr copying) =
    let stops = copying.stops in
    let there : Contains (stops.before ++ stops.entry ∷ stops.after) stops.entry = Contains-append_right stops.before (stops.entry ∷ stops.after) stops.entry (0, omega arith, refl) in
    let has = subst (λ (es : List Entry). Contains es stops.entry) (sym stops.split) there in
    inl (subst (λ (n : ℕ). Wrong pages root n) (sym stops.here) (record_wrong pages root copying.nodes stops.entry fits copying.are has stops.nothing))
