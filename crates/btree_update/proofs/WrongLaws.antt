-- How the way to a block comes to a wrong place.
use Rattle.std.proofs.Common.{◌≡◌, ◌⊎◌, inl, inr, ℕ, zero, suc, ◌+◌, ◌-◌, ◌/◌, ◌<◌, ◌≤◌, List, [], ◌∷◌, ◌++◌, length, take, drop, refl, sym, ap, subst, ◌∙◌, arith, length-append, append_assoc}
use Rattle.std.proofs.lemmas.List.{length-take-le}
use Rattle.node_codec.specs.declared.body.Entry.{Entry}
use Rattle.node_codec.specs.Record.{NodeRecord}
use Rattle.page_store.specs.Places.{FitsAt, child_want}
use Rattle.btree_twigs.specs.declared.twigs.Child.{Child, out-Child}
use Rattle.btree_twigs.specs.declared.twigs.Child.TheOpen as open_child
use Rattle.btree_twigs.specs.declared.twigs.Child.TheVariants as made
use Rattle.btree_twigs.specs.declared.twigs.Twig.{Twig}
use Rattle.btree_twigs.specs.Stubs.{start_by, low_of, children_of}
use Rattle.btree_twigs.proofs.Children.{low_of_kept}
use Rattle.btree_update.specs.GroveTree.{want_at}
use Rattle.btree_update.specs.Reading.{kept_of, all_kept}
use Rattle.btree_update.specs.Holding.{IsNodeFor, IsNodeOf}
use Rattle.btree_update.specs.Wrong.{IsWrongBeside, entry_low, IsWrongEntry, ComesToWrong, Below, Beside, IsWrongIn, IsWrongChild, WrongChildBy, WrongOnWay, WrongUnder, WrongFrom}
use Rattle.btree_update.proofs.OpenLaws.{IsOnWay}
use Rattle.btree_update.proofs.BesideLaws.{same_split}

-- below the child on the way, so below the node
pub wrong_child : (pages : List (List ℕ)) (order level high block addr n : ℕ) (twig : Twig) (c : Child) → (w : IsOnWay order block level high (children_of twig) n c) →
    WrongOnWay pages order block addr level (start_by low_of (drop (suc w.at) (children_of twig)) high) c → WrongUnder pages order block addr level high twig
wrong_child pages order level high block addr n twig c w wrong = record {
  front = take w.at (children_of twig);
  child = c;
  back = drop (suc w.at) (children_of twig);
  is = w.split;
  from = w.from;
  to = w.to;
  comes = inl wrong;
}

-- or at its neighbour
pub wrong_near : (pages : List (List ℕ)) (order level high block addr n : ℕ) (twig : Twig) (c : Child) → (w : IsOnWay order block level high (children_of twig) n c) →
    IsWrongBeside low_of (IsWrongChild pages order addr level) high (take w.at (children_of twig)) c (drop (suc w.at) (children_of twig)) → WrongUnder pages order block addr level high twig
wrong_near pages order level high block addr n twig c w wrong = record {
  front = take w.at (children_of twig);
  child = c;
  back = drop (suc w.at) (children_of twig);
  is = w.split;
  from = w.from;
  to = w.to;
  comes = inr wrong;
}

-- the neighbour of the child before a place
pub wrong_at : (Wrong : ℕ → Child → Type 0) (high i : ℕ) (cs : List Child) (d : Child) → cs ≡ take i cs ++ d ∷ drop (suc i) cs → i < length cs → Wrong (start_by low_of (drop (suc i) cs) high) d →
    (at : ℕ) (front : List Child) (c : Child) (back : List Child) → cs ≡ front ++ c ∷ back → length front + 1 ≡ at → (at < length cs → i ≡ at) → (at ≡ length cs → i + 2 ≡ at) → IsWrongBeside low_of Wrong high front c back
wrong_at Wrong high i cs d split lt h at front c (next ∷ back) is n at_next at_last =
    let i_is = at_next (omega (arith, n, ap length is, length-append front (c ∷ next ∷ back))) in
    let before = length-take-le i cs (omega (arith, lt)) in
    let same = same_split (front ++ c ∷ []) (take i cs) (next ∷ back) (d ∷ drop (suc i) cs) (omega (arith, before, length-append front (c ∷ []), i_is, n)) (append_assoc front (c ∷ []) (next ∷ back) ∙ sym is ∙ split) in
    let first : d ≡ next = cc in
    let rest : drop (suc i) cs ≡ back = cc in
    subst (λ bs. Wrong (start_by low_of bs high) next) rest (subst (Wrong (start_by low_of (drop (suc i) cs) high)) first h)
wrong_at Wrong high i cs d split lt h at front c [] is n at_next at_last =
    let i_is = at_last (omega (arith, n, ap length is, length-append front (c ∷ []))) in
    let before = length-take-le i cs (omega (arith, lt)) in
    let same = same_split (take i cs ++ d ∷ []) front (drop (suc i) cs) (c ∷ []) (omega (arith, before, length-append (take i cs) (d ∷ []), i_is, n)) (append_assoc (take i cs) (d ∷ []) (drop (suc i) cs) ∙ sym split ∙ is) in
    (take i cs, d, sym same.0, subst (λ bs. Wrong (start_by low_of bs high) d) same.1 h)

-- children on the medium name their entries
pub entry_is : (e f : Entry) → e.low ≡ f.low → e.addr ≡ f.addr → e.key ≡ f.key → e ≡ f
entry_is e f l a k = rw (l, a, k) refl

kept_is : (e f : Entry) → kept_of e ≡ kept_of f → e ≡ f
kept_is e f same =
    let opened : open_child.Kept e.low e.addr e.key ≡ open_child.Kept f.low f.addr f.key = sym (made.outs-Kept e.low e.addr e.key) ∙ ap out-Child same ∙ made.outs-Kept f.low f.addr f.key in
    let l : e.low ≡ f.low = cc in
    let a : e.addr ≡ f.addr = cc in
    let k : e.key ≡ f.key = cc in
    entry_is e f l a k

all_kept_is : (es fs : List Entry) → all_kept es ≡ all_kept fs → es ≡ fs
all_kept_is [] [] same = refl
all_kept_is [] (f ∷ fs) same = absurd cc
all_kept_is (e ∷ es) [] same = absurd cc
all_kept_is (e ∷ es) (f ∷ fs) same =
    let first : kept_of e ≡ kept_of f = cc in
    let rest : all_kept es ≡ all_kept fs = cc in
    rw (kept_is e f first, all_kept_is es fs rest) refl

-- a node that was read fits
pub read_fits : (pages : List (List ℕ)) (level low high addr least most : ℕ) (key : List ℕ) (twig : Twig) →
    IsNodeFor (record { addr = addr; level = suc level; low = low; high = high; least = least; most = most }) key twig →
    IsNodeOf pages (record { addr = addr; level = suc level; low = low; high = high; least = least; most = most }) key twig →
    (entries : List Entry) × FitsAt pages (record { addr = addr; level = suc level; low = low; high = high; least = least; most = most }) key (NodeRecord (suc level) entries) × (children_of twig ≡ all_kept entries)
read_fits pages level low high addr least most key twig h o =
    let same = all_kept_is o.entries h.entries (sym o.children ∙ h.children) in (
      h.entries,
      (subst (λ es. FitsAt pages (record { addr = addr; level = suc level; low = low; high = high; least = least; most = most }) key (NodeRecord (suc level) es)) same (o.here, rw same h.wanted)),
      h.children,
    )

-- where the children are split, so are the entries
record SplitsAs (es : List Entry) (fs : List Child) (c : Child) (bs : List Child) : Type 0 where
  front : List Entry
  e : Entry
  back : List Entry
  is : es ≡ front ++ e ∷ back
  fronts : fs ≡ all_kept front
  one : c ≡ kept_of e
  backs : bs ≡ all_kept back

split_kept : (es : List Entry) (fs : List Child) (c : Child) (bs : List Child) → all_kept es ≡ fs ++ c ∷ bs → SplitsAs es fs c bs
split_kept [] [] c bs same = absurd cc
split_kept [] (f ∷ fs) c bs same = absurd cc
split_kept (e ∷ es) [] c bs same =
    let first : kept_of e ≡ c = cc in
    let rest : all_kept es ≡ bs = cc in
    record { front = []; e = e; back = es; is = refl; fronts = refl; one = sym first; backs = sym rest }
split_kept (e ∷ es) (f ∷ fs) c bs same =
    let first : kept_of e ≡ f = cc in
    let rest : all_kept es ≡ fs ++ c ∷ bs = cc in
    let s = split_kept es fs c bs rest in
    record { front = e ∷ s.front; e = s.e; back = s.back; is = ap (λ xs. e ∷ xs) s.is; fronts = ap (λ x. x ∷ fs) (sym first) ∙ ap (λ xs. kept_of e ∷ xs) s.fronts; one = s.one; backs = s.backs }

none_kept : (es : List Entry) → [] ≡ all_kept es → es ≡ []
none_kept [] same = refl
none_kept (e ∷ es) same = absurd cc

starts_kept : (es : List Entry) (high : ℕ) → start_by low_of (all_kept es) high ≡ start_by entry_low es high
starts_kept [] high = refl
starts_kept (e ∷ es) high = low_of_kept e.low e.addr e.key

wrong_entry : (pages : List (List ℕ)) (order addr level high : ℕ) (e : Entry) → IsWrongChild pages order addr level high (kept_of e) → IsWrongEntry pages order addr level high e
wrong_entry pages order addr level high e h = subst (IsWrongIn pages order addr level high) (made.outs-Kept e.low e.addr e.key) h

entry_beside : (pages : List (List ℕ)) (order addr level high : ℕ) (front : List Entry) (e : Entry) (back : List Entry) →
    IsWrongBeside low_of (IsWrongChild pages order addr level) high (all_kept front) (kept_of e) (all_kept back) → IsWrongBeside entry_low (IsWrongEntry pages order addr level) high front e back
entry_beside pages order addr level high front e (next ∷ back) h =
    wrong_entry pages order addr level (start_by entry_low back high) next (subst (λ m. IsWrongChild pages order addr level m (kept_of next)) (starts_kept back high) h)
entry_beside pages order addr level high front e [] h =
    let s = split_kept front h.0 h.1 [] h.2 in
    let last = subst (λ m. IsWrongChild pages order addr level m h.1) (low_of_kept e.low e.addr e.key) h.3 in (
      s.front,
      s.e,
      s.is ∙ ap (λ bs. s.front ++ s.e ∷ bs) (none_kept s.back s.backs),
      wrong_entry pages order addr level e.low s.e (subst (IsWrongChild pages order addr level e.low) s.one last),
    )

comes_entry : (pages : List (List ℕ)) (order block addr level end : ℕ) (e : Entry) → WrongOnWay pages order block addr level end (kept_of e) → (1 ≤ level) × ComesToWrong pages order block addr (child_want order level e end) e.key
unfolding WrongOnWay
comes_entry pages order block addr zero end e h = absurd h
comes_entry pages order block addr (suc level) end e h = (omega arith, subst (WrongChildBy pages order (order / 2) block addr (WrongOnWay pages order block addr level) level end) (made.outs-Kept e.low e.addr e.key) h)

-- and where it comes to a wrong place from one of its children on, it does so from the node on
pub wrong_below : (pages : List (List ℕ)) (order block wrong level low high addr least most : ℕ) (key : List ℕ) (twig : Twig) →
    IsNodeFor (record { addr = addr; level = suc level; low = low; high = high; least = least; most = most }) key twig →
    IsNodeOf pages (record { addr = addr; level = suc level; low = low; high = high; least = least; most = most }) key twig →
    WrongUnder pages order block wrong level high twig → ComesToWrong pages order block wrong (record { addr = addr; level = suc level; low = low; high = high; least = least; most = most }) key
wrong_below pages order block wrong level low high addr least most key twig h o w =
    let f = read_fits pages level low high addr least most key twig h o in
    let s = split_kept f.0 w.front w.child w.back (sym f.2 ∙ w.is) in
    by s (subst (λ es. FitsAt pages (record { addr = addr; level = suc level; low = low; high = high; least = least; most = most }) key (NodeRecord (suc level) es)) s.is f.1)
    (ap (λ bs. start_by low_of bs high) s.backs ∙ starts_kept s.back high) (ap low_of s.one ∙ low_of_kept s.e.low s.e.addr s.e.key) w.comes
  where
    by : {es : List Entry} (s : SplitsAs es w.front w.child w.back) → FitsAt pages (record { addr = addr; level = suc level; low = low; high = high; least = least; most = most }) key (NodeRecord (suc level) (s.front ++ s.e ∷ s.back)) →
        start_by low_of w.back high ≡ start_by entry_low s.back high → low_of w.child ≡ s.e.low →
        WrongOnWay pages order block wrong level (start_by low_of w.back high) w.child ⊎ IsWrongBeside low_of (IsWrongChild pages order wrong level) high w.front w.child w.back →
        ComesToWrong pages order block wrong (record { addr = addr; level = suc level; low = low; high = high; least = least; most = most }) key
    by s fits ends low_is (inl comes) =
        let e = comes_entry pages order block wrong level (start_by entry_low s.back high) s.e (subst (WrongOnWay pages order block wrong level (start_by entry_low s.back high)) s.one (subst (λ m. WrongOnWay pages order block wrong level m w.child) ends comes)) in
        Below level s.front s.e s.back fits e.0 (omega (arith, w.from, low_is)) (omega (arith, w.to, ends)) e.1
    by s fits ends low_is (inr near) =
        let a = subst (λ fs. IsWrongBeside low_of (IsWrongChild pages order wrong level) high fs w.child w.back) s.fronts near in
        let b = subst (λ c. IsWrongBeside low_of (IsWrongChild pages order wrong level) high (all_kept s.front) c w.back) s.one a in
        let c = subst (IsWrongBeside low_of (IsWrongChild pages order wrong level) high (all_kept s.front) (kept_of s.e)) s.backs b in
        Beside level s.front s.e s.back fits (omega (arith, w.from, low_is)) (omega (arith, w.to, ends)) (entry_beside pages order wrong level high s.front s.e s.back c)

-- a child on the medium, and one in memory
pub wrong_kept : (pages : List (List ℕ)) (order least block wrong level high low addr : ℕ) (key : List ℕ) → 1 ≤ level →
    ComesToWrong pages order block wrong (want_at order level low high addr least) key → WrongFrom pages order least block wrong (level - 1) high (made.Kept low addr key)
wrong_kept pages order least block wrong level high low addr key one w =
    let l : level ≡ suc (level - 1) = omega (arith, one) in
    subst (WrongChildBy pages order least block wrong (WrongOnWay pages order block wrong (level - 1)) (level - 1) high) (sym (made.outs-Kept low addr key))
    (subst (λ k. ComesToWrong pages order block wrong (want_at order k low high addr least) key) l w)

pub wrong_grown : (pages : List (List ℕ)) (order least block wrong level high low : ℕ) (twig : Twig) →
    WrongUnder pages order block wrong level high twig → WrongFrom pages order least block wrong level high (made.Grown low twig)
wrong_grown pages order least block wrong level high low twig w = subst (WrongChildBy pages order least block wrong (WrongOnWay pages order block wrong level) level high) (sym (made.outs-Grown low twig)) w

pub wrong_on_way : (pages : List (List ℕ)) (order block wrong level below high : ℕ) (c : Child) → level ≡ suc below → WrongFrom pages order (order / 2) block wrong below high c → WrongOnWay pages order block wrong level high c
unfolding WrongOnWay
wrong_on_way pages order block wrong zero below high c is w = absurd (omega (arith, is))
wrong_on_way pages order block wrong (suc level) below high c is w = subst (λ k. WrongFrom pages order (order / 2) block wrong k high c) (omega (arith, is)) w
