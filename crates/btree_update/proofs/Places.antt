-- What stands at the places below the nodes in memory.
use Rattle.std.proofs.Common.{◌≡◌, ℕ, zero, suc, ◌<◌, ◌≤◌, ◌^◌, List, [], ◌∷◌, ◌++◌, refl, sym, ap, subst, ◌∙◌, arith, append_assoc, append-nil}
use Rattle.std.specs.List.{AllByRecursion}
use Rattle.node_codec.specs.declared.body.Entry.{Entry}
use Rattle.node_codec.specs.Record.{DataRecord, NodeRecord}
use Rattle.page_store.specs.declared.wants.Want.{Want}
use Rattle.page_store.specs.Places.{IsRecordAt, FitsAt, child_want}
use Rattle.page_store.specs.Tree.{Parts, Mapped, Subtree, EachChild, joined, data_parts, node_parts, bound_of}
use Rattle.page_store.proofs.RecordLaws.{one_record}
use Rattle.btree_twigs.specs.Stubs.{Stub, Tiles, Puts, Takes, datum}
use Rattle.std.proofs.lemmas.List.Elements.{recursion_from_All}
use Rattle.btree_twigs.proofs.ListLaws.{tiles_le}
use Rattle.btree_update.specs.GroveTree.{want_of, HasEach, Maps, stubs_at}
use Rattle.btree_update.specs.Maps.{MapPuts, MapTakes}

-- below the entries of a node stands what is below its places
pub entries_have : (pages : List (List ℕ)) (order level high : ℕ) (es : List Entry) (ps : List Parts) → EachChild (Subtree pages order level) order level high es ps →
    HasEach pages order (stubs_at level high es) ps
unfolding Subtree
entries_have pages order zero high [] [] h = tt
entries_have pages order (suc level) high [] [] h = tt
entries_have pages order zero high [] (p ∷ ps) h = absurd h
entries_have pages order (suc level) high [] (p ∷ ps) h = absurd h
entries_have pages order zero high (e ∷ es) [] h = absurd h
entries_have pages order (suc level) high (e ∷ es) [] h = absurd h
entries_have pages order zero high (e ∷ es) (p ∷ ps) h =
    (record { content = h.0.content; fits = h.0.fits; has = h.0.has }, entries_have pages order zero high es ps h.1)
entries_have pages order (suc level) high (e ∷ es) (p ∷ ps) h = (h.0, entries_have pages order (suc level) high es ps h.1)

-- and the other way round
pub entries_from : (pages : List (List ℕ)) (order level high : ℕ) (es : List Entry) (ps : List Parts) → HasEach pages order (stubs_at level high es) ps →
    EachChild (Subtree pages order level) order level high es ps
unfolding Subtree
entries_from pages order zero high [] [] h = tt
entries_from pages order (suc level) high [] [] h = tt
entries_from pages order zero high [] (p ∷ ps) h = absurd h
entries_from pages order (suc level) high [] (p ∷ ps) h = absurd h
entries_from pages order zero high (e ∷ es) [] h = absurd h
entries_from pages order (suc level) high (e ∷ es) [] h = absurd h
entries_from pages order zero high (e ∷ es) (p ∷ ps) h =
    (record { content = h.0.content; fits = h.0.fits; has = h.0.has }, entries_from pages order zero high es ps h.1)
entries_from pages order (suc level) high (e ∷ es) (p ∷ ps) h = (h.0, entries_from pages order (suc level) high es ps h.1)

-- a node that was read from its page: the places below its entries map what the node maps
pub read_maps : (pages : List (List ℕ)) (order level : ℕ) (want : Want) (key : List ℕ) (parts : Parts) (es : List Entry) → want.addr < 2 ^ 64 →
    Subtree pages order (suc level) want key parts → IsRecordAt pages want.addr key (NodeRecord (suc level) es) → Maps pages order (stubs_at level want.high es) parts.mapped
unfolding Subtree
read_maps pages order level want key parts es small is here =
    let value : NodeRecord (suc level) is.entries ≡ NodeRecord (suc level) es = one_record pages want.addr key _ _ small is.fits.0 here in
    let same : is.entries ≡ es = cc in
    record {
      each = is.children;
      has = entries_have pages order level want.high es is.children (subst (λ (xs : List Entry). EachChild (Subtree pages order level) order level want.high xs is.children) same is.each);
      is = ap (λ (p : Parts). p.mapped) is.has;
    }

-- a node that was sealed over places: its page is a place of a tree, and maps what they map
pub sealed_is : (pages : List (List ℕ)) (order level : ℕ) (want : Want) (key : List ℕ) (es : List Entry) (ps : List Parts) →
    FitsAt pages want key (NodeRecord (suc level) es) → HasEach pages order (stubs_at level want.high es) ps →
    Subtree pages order (suc level) want key (node_parts want.addr key es (joined ps))
unfolding Subtree
sealed_is pages order level want key es ps fits has =
    record { entries = es; children = ps; fits = fits; each = entries_from pages order level want.high es ps has; has = refl }

joined_append : (ps qs : List Parts) → (joined (ps ++ qs)).mapped ≡ (joined ps).mapped ++ (joined qs).mapped
joined_append [] qs = refl
joined_append (p ∷ ps) qs = rw (joined_append ps qs, append_assoc) refl

module _ (pages : List (List ℕ)) (order : ℕ) where
  pub maps_append : (xs ys : List Stub) (m n : List Mapped) → Maps pages order xs m → Maps pages order ys n → Maps pages order (xs ++ ys) (m ++ n)
  maps_append xs ys m n h k = record {
    each = h.each ++ k.each;
    has = go k.each xs h.each h.has k.has;
    is = rw (h.is, k.is, joined_append h.each k.each) refl;
  }
    where
      go : (ps' : List Parts) (xs : List Stub) (ps : List Parts) → HasEach pages order xs ps → HasEach pages order ys ps' → HasEach pages order (xs ++ ys) (ps ++ ps')
      go qs [] [] h k = k
      go qs [] (p ∷ ps) h k = absurd h
      go qs (x ∷ xs) [] h k = absurd h
      go qs (x ∷ xs) (p ∷ ps) h k = (h.0, go qs xs ps h.1 k)

  -- what two lists of places map is what each of them maps
  pub record AreMaps (xs ys : List Stub) (m : List Mapped) : Type 0 where
    pub left : List Mapped
    pub right : List Mapped
    pub on_left : Maps pages order xs left
    pub on_right : Maps pages order ys right
    pub is : m ≡ left ++ right

  split_each : (xs ys : List Stub) (ps : List Parts) → HasEach pages order (xs ++ ys) ps → AreMaps xs ys (joined ps).mapped
  split_each [] ys ps h = record { left = []; right = (joined ps).mapped; on_left = record { each = []; has = tt; is = refl }; on_right = record { each = ps; has = h; is = refl }; is = refl }
  split_each (x ∷ xs) ys [] h = absurd h
  split_each (x ∷ xs) ys (p ∷ ps) h =
      let rest = split_each xs ys ps h.1 in
      record {
        left = p.mapped ++ rest.left;
        right = rest.right;
        on_left = record { each = p ∷ rest.on_left.each; has = (h.0, rest.on_left.has); is = ap (λ m. p.mapped ++ m) rest.on_left.is };
        on_right = rest.on_right;
        is = rw (rest.is, append_assoc) refl;
      }

  pub maps_split : (xs ys : List Stub) (m : List Mapped) → Maps pages order (xs ++ ys) m → AreMaps xs ys m
  maps_split xs ys m h =
      let s = split_each xs ys h.each h.has in
      record { left = s.left; right = s.right; on_left = s.on_left; on_right = s.on_right; is = h.is ∙ s.is }

-- a block within bounds
abbrev pub IsIn : ℕ → ℕ → Mapped → Type 0
IsIn low high m = (low ≤ m.block) × (m.block < high)

in_append : (low high : ℕ) (xs ys : List Mapped) → AllByRecursion (IsIn low high) xs → AllByRecursion (IsIn low high) ys → AllByRecursion (IsIn low high) (xs ++ ys)
in_append low high [] ys h k = k
in_append low high (x ∷ xs) ys h k = (h.0, in_append low high xs ys h.1 k)

in_wider : (low high low' high' : ℕ) (xs : List Mapped) → low' ≤ low → high ≤ high' → AllByRecursion (IsIn low high) xs → AllByRecursion (IsIn low' high') xs
in_wider low high low' high' [] le le' h = tt
in_wider low high low' high' (x ∷ xs) le le' h = ((omega (arith, le, h.0.0), omega (arith, le', h.0.1)), in_wider low high low' high' xs le le' h.1)

pub bound_le : (high : ℕ) (es : List Entry) → AllByRecursion (λ e. e.low < high) es → bound_of es high ≤ high
bound_le high [] h = omega arith
bound_le high (e ∷ es) h = omega (arith, h.0)

-- where a place ends, for what it maps
abbrev pub end_of : ℕ → Want → ℕ
end_of zero want = suc want.low
end_of (suc level) want = want.high

each_in : (pages : List (List ℕ)) (order level low high : ℕ) (es : List Entry) (ps : List Parts) →
    ((want : Want) (key : List ℕ) (parts : Parts) → Subtree pages order level want key parts → AllByRecursion (IsIn want.low (end_of level want)) parts.mapped) →
    AllByRecursion (λ e. low ≤ e.low) es → AllByRecursion (λ e. e.low < high) es →
    EachChild (Subtree pages order level) order level high es ps → AllByRecursion (IsIn low high) (joined ps).mapped
each_in pages order level low high [] [] below h k each = tt
each_in pages order level low high [] (p ∷ ps) below h k each = absurd each
each_in pages order level low high (e ∷ es) [] below h k each = absurd each
each_in pages order level low high (e ∷ es) (p ∷ ps) below h k each =
    in_append low high p.mapped (joined ps).mapped
    (in_wider e.low (end_of level (child_want order level e (bound_of es high))) low high p.mapped h.0 (ends level) (below (child_want order level e (bound_of es high)) e.key p each.0))
    (each_in pages order level low high es ps below h.1 k.1 each.1)
  where
    ends : (level : ℕ) → end_of level (child_want order level e (bound_of es high)) ≤ high
    ends zero = omega (arith, k.0)
    ends (suc level) = bound_le high es k.1

-- a place maps blocks within its bounds alone
pub maps_within : (pages : List (List ℕ)) (order level : ℕ) (want : Want) (key : List ℕ) (parts : Parts) → Subtree pages order level want key parts →
    AllByRecursion (IsIn want.low (end_of level want)) parts.mapped
unfolding Subtree
maps_within pages order zero want key parts is =
    subst (λ (p : Parts). AllByRecursion (IsIn want.low (suc want.low)) p.mapped) (sym is.has) ((omega arith, omega arith), tt)
maps_within pages order (suc level) want key parts is =
    subst (λ (p : Parts). AllByRecursion (IsIn want.low want.high) p.mapped) (sym is.has)
    (each_in pages order level want.low want.high is.entries is.children (λ want key parts. maps_within pages order level want key parts)
    (recursion_from_All (λ e. want.low ≤ e.low) is.entries is.fits.1.from_low) (recursion_from_All (λ e. e.low < want.high) is.entries is.fits.1.below_high) is.each)

end_le : (level : ℕ) (want : Want) → want.low < want.high → end_of level want ≤ want.high
end_le zero want h = omega (arith, h)
end_le (suc level) want h = omega arith

-- places that ascend within bounds map blocks within them
tiles_in : (pages : List (List ℕ)) (order low high : ℕ) (ss : List Stub) (ps : List Parts) → Tiles low high ss → HasEach pages order ss ps →
    AllByRecursion (IsIn low high) (joined ps).mapped
tiles_in pages order low high [] [] h k = tt
tiles_in pages order low high [] (p ∷ ps) h k = absurd k
tiles_in pages order low high (s ∷ ss) [] h k = absurd k
tiles_in pages order low high (s ∷ ss) (p ∷ ps) h k =
    let le = tiles_le s.high high ss h.2 in
    let end = end_le s.level (want_of order s) h.1 in
    in_append low high p.mapped (joined ps).mapped
    (in_wider s.low (end_of s.level (want_of order s)) low high p.mapped h.0 (omega (arith, end, le)) (maps_within pages order s.level (want_of order s) s.key p k.0))
    (in_wider s.high high low high (joined ps).mapped (omega (arith, h.0, h.1)) (omega arith) (tiles_in pages order s.high high ss ps h.2 k.1))

pub weaker : (P Q : Mapped → Type 0) → ((m : Mapped) → P m → Q m) → (xs : List Mapped) → AllByRecursion P xs → AllByRecursion Q xs
weaker P Q f [] h = tt
weaker P Q f (x ∷ xs) h = (f x h.0, weaker P Q f xs h.1)

pub in_maps : (pages : List (List ℕ)) (order low high : ℕ) (ss : List Stub) (m : List Mapped) → Tiles low high ss → Maps pages order ss m → AllByRecursion (IsIn low high) m
in_maps pages order low high ss m h k = subst (AllByRecursion (IsIn low high)) (sym k.is) (tiles_in pages order low high ss k.each h k.has)

-- where the places have one more, the blocks have it: the map law of an insert
pub puts_maps : (pages : List (List ℕ)) (order low high block addr : ℕ) (key content : List ℕ) (old new : List Stub) (mapped : List Mapped) →
    Puts low high (datum block addr key) old new → Maps pages order old mapped → IsRecordAt pages addr key (DataRecord block content) →
    (after : List Mapped) × Maps pages order new after × MapPuts (record { block = block; addr = addr; key = key; content = content }) mapped after
unfolding Subtree
puts_maps pages order low high block addr key content old new mapped p h there =
    let one = maps_split pages order p.front (p.mid ++ p.back) mapped (subst (λ ss. Maps pages order ss mapped) p.was h) in
    let two = maps_split pages order p.mid p.back one.right one.on_right in
    let m : Mapped = record { block = block; addr = addr; key = key; content = content } in
    let parts = data_parts addr key block content in
    let here : Maps pages order (datum block addr key ∷ []) (m ∷ []) = record { each = parts ∷ []; has = (record { content = content; fits = (there, (refl, refl)); has = refl }, tt); is = refl } in
    let all = maps_append pages order p.front (datum block addr key ∷ p.back) one.left (m ∷ two.right) one.on_left (maps_append pages order (datum block addr key ∷ []) p.back (m ∷ []) two.right here two.on_right) in (
      one.left ++ (m ∷ two.right),
      subst (λ ss. Maps pages order ss (one.left ++ (m ∷ two.right))) (sym p.now) all,
      record {
        front = one.left;
        mid = two.left;
        back = two.right;
        was = one.is ∙ ap (λ xs. one.left ++ xs) two.is;
        now = refl;
        before = weaker (IsIn low block) (λ k. k.block < block) (λ k i. i.1) one.left (in_maps pages order low block p.front one.left p.before one.on_left);
        here = weaker (IsIn block (suc block)) (λ k. k.block ≡ block) (λ k i. omega (arith, i.0, i.1)) two.left (in_maps pages order block (suc block) p.mid two.left p.here two.on_left);
        after = weaker (IsIn (suc block) high) (λ k. block < k.block) (λ k i. omega (arith, i.0)) two.right (in_maps pages order (suc block) high p.back two.right p.after two.on_right);
      },
    )

-- where a place is taken away, the blocks are without its block: the map law of a removal
pub takes_maps : (pages : List (List ℕ)) (order low high block : ℕ) (old new : List Stub) (mapped : List Mapped) → Takes low high block old new → Maps pages order old mapped →
    (after : List Mapped) × Maps pages order new after × MapTakes block mapped after
takes_maps pages order low high block old new mapped p h =
    let one = maps_split pages order p.front (p.mid ++ p.back) mapped (subst (λ ss. Maps pages order ss mapped) p.was h) in
    let two = maps_split pages order p.mid p.back one.right one.on_right in (
      one.left ++ two.right,
      subst (λ ss. Maps pages order ss (one.left ++ two.right)) (sym p.now) (maps_append pages order p.front p.back one.left two.right one.on_left two.on_right),
      record {
        front = one.left;
        mid = two.left;
        back = two.right;
        was = one.is ∙ ap (λ xs. one.left ++ xs) two.is;
        now = refl;
        before = weaker (IsIn low block) (λ k. k.block < block) (λ k i. i.1) one.left (in_maps pages order low block p.front one.left p.before one.on_left);
        here = weaker (IsIn block (suc block)) (λ k. k.block ≡ block) (λ k i. omega (arith, i.0, i.1)) two.left (in_maps pages order block (suc block) p.mid two.left p.here two.on_left);
        after = weaker (IsIn (suc block) high) (λ k. block < k.block) (λ k i. omega (arith, i.0)) two.right (in_maps pages order (suc block) high p.back two.right p.after two.on_right);
      },
    )

-- what one place maps
pub one_place : (pages : List (List ℕ)) (order : ℕ) (s : Stub) (m : List Mapped) → Maps pages order (s ∷ []) m → (parts : Parts) × Subtree pages order s.level (want_of order s) s.key parts × (m ≡ parts.mapped)
one_place pages order s m h = go h.each h.has h.is
  where
    go : (ps : List Parts) → HasEach pages order (s ∷ []) ps → m ≡ (joined ps).mapped → (parts : Parts) × Subtree pages order s.level (want_of order s) s.key parts × (m ≡ parts.mapped)
    go [] has is = absurd has
    go (p ∷ []) has is = (p, has.0, is ∙ append-nil p.mapped)
    go (p ∷ q ∷ ps) has is = absurd has.1
