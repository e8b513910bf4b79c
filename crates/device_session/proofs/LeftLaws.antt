-- That an update lets the page of the root record's node go.
use Rattle.std.proofs.Common.{◌≡◌, ◌⊎◌, inl, inr, ℕ, ◌<◌, ◌≤◌, Bool, true, false, List, [], ◌∷◌, ◌++◌, map, refl, sym, subst, arith}
use Rattle.std.specs.Prelude.{Option, None, Some, Contains}
use Rattle.std.proofs.lemmas.Bool.{cases_lt}
use Rattle.std.proofs.lemmas.List.Elements.{All-contains, All-from_recursion, Contains-append_left, Contains-append_right, Contains-append_cases}
use Rattle.sdbt_base.specs.declared.lists.Unkept.{Unkept}
use Rattle.key_graph.proofs.ChainLaws.{map_contains}
use Rattle.root_codec.specs.declared.root.Root.{Root}
use Rattle.btree_twigs.specs.Stubs.{Stub}
use Rattle.btree_update.specs.declared.groves.Grove.{Grove}
use Rattle.btree_update.specs.Opens.{Opens, Same, Here, Within, Then}
use Rattle.btree_update.specs.Groves.{LetsGo, places_of}
use Rattle.grove_accounts.specs.Holding.{Turns, IsTreeOf, root_stub}
use Rattle.grove_accounts.proofs.HoldingLaws.{tree_place}
use Rattle.device_session.specs.Sessions.{Session}
use Rattle.device_session.specs.Open.{IsOpen, IsTreeFor}

-- a place stays, or its node gives way
opens_or_stays : (pages : List (List ℕ)) (order : ℕ) (places old new : List Stub) (s : Stub) → Opens pages order places old new → Contains old s → Contains new s ⊎ Contains places s
opens_or_stays pages order places old new s Same has = inl has
opens_or_stays pages order places old new s (Here r) has = inr has
opens_or_stays pages order places old new s (Within {places = first} {old = xs} {new = ys} fs bs o) has = elim (Contains-append_cases fs (xs ++ bs) s has) [
  | inl front ↦ inl (Contains-append_left fs (ys ++ bs) s front)
  | inr rest ↦ elim (Contains-append_cases xs bs s rest) [
    | inl mid ↦ elim (opens_or_stays pages order first xs ys s o mid) [
      | inl stays ↦ inl (Contains-append_right fs (ys ++ bs) s (Contains-append_left ys bs s stays))
      | inr gives ↦ inr gives
    ]
    | inr back ↦ inl (Contains-append_right fs (ys ++ bs) s (Contains-append_right ys bs s back))
  ]
]
opens_or_stays pages order places old new s (Then {first = first} {second = second} {old = xs} {mid = mid} {new = ys} o p) has = elim (opens_or_stays pages order first xs mid s o has) [
  | inl stays ↦ elim (opens_or_stays pages order second mid ys s p stays) [
    | inl still ↦ inl still
    | inr gives ↦ inr (Contains-append_right first second s gives)
  ]
  | inr gives ↦ inr (Contains-append_left first second s gives)
]

-- what is gone is gone still
gone_still : (head block : ℕ) (replaced : Option ℕ) (gone more : List ℕ) (never most : List Unkept) (addr : ℕ) → LetsGo head block replaced gone more never most → Contains gone addr → Contains more addr
gone_still head block None gone more never most addr goes has = subst (λ ns. Contains ns addr) (sym goes.0) has
gone_still head block (Some at) gone more never most addr goes has = elim (cases_lt at head) [
  | inl low ↦ subst (λ ns. Contains ns addr) (sym (goes.0 low).0) (Contains-append_left gone (at ∷ []) addr has)
  | inr high ↦ subst (λ ns. Contains ns addr) (sym (goes.1 high).0) has
]

-- the root node is opened where it was on the medium
root_left : (pages : List (List ℕ)) (root : Root) (old new : Grove) (block : ℕ) (May : Stub → Type 0) (Makes : List Stub → Type 0) → IsTreeOf root old → 1 ≤ root.level → block < root.blocks → Turns pages block May Makes old new → Contains new.gone.items root.addr
root_left pages root old new block May Makes tree one to g =
    let there : Contains (places_of old) (root_stub root) = subst (λ ss. Contains ss (root_stub root)) (sym (tree_place root old tree)) (0, omega arith, refl) in
    elim (opens_or_stays pages old.order g.places (places_of old) g.opened (root_stub root) g.opens there) [
      | inl stays ↦
          let datum : root.level ≡ 0 = All-contains (λ (s : Stub). s.low ≤ block → block < s.high → s.level ≡ 0) g.opened (root_stub root) (All-from_recursion (λ (s : Stub). s.low ≤ block → block < s.high → s.level ≡ 0) g.opened g.is_open) stays (omega arith) to in
          absurd (omega (arith, datum, one))
      | inr gives ↦
          let addrs = map (λ (s : Stub). s.addr) g.places in
          gone_still old.head block g.replaced (old.gone.items ++ addrs) new.gone.items old.never.items new.never.items root.addr g.goes
          (Contains-append_right old.gone.items addrs root.addr (map_contains (λ (s : Stub). s.addr) g.places (root_stub root) gives))
    ]

-- after an update of a session the page of its root record's node is gone
pub update_left : (session : Session) (open_pages : ℕ) (pages : List (List ℕ)) (new : Grove) (block : ℕ) (May : Stub → Type 0) (Makes : List Stub → Type 0) → IsOpen session open_pages → block < session.root.blocks → Turns pages block May Makes session.grove new →
    (session.is_touched ≡ true → Contains session.grove.gone.items session.root.addr) → Contains new.gone.items session.root.addr
update_left session open_pages pages new block May Makes opened to g left = by session.is_touched refl opened.tree
  where
    by : (touched : Bool) → session.is_touched ≡ touched → IsTreeFor touched session.root session.grove → Contains new.gone.items session.root.addr
    by false is tree = root_left pages session.root session.grove new block May Makes tree opened.served.in_range.level_least to g
    by true is tree =
        let addrs = map (λ (s : Stub). s.addr) g.places in
        gone_still session.grove.head block g.replaced (session.grove.gone.items ++ addrs) new.gone.items session.grove.never.items new.never.items session.root.addr g.goes
        (Contains-append_left session.grove.gone.items addrs session.root.addr (left is))
