-- What is opened maps what it mapped.
use Rattle.std.proofs.Common.{◌≡◌, ℕ, suc, List, [], ◌∷◌, ◌++◌, sym, ap, subst, ◌∙◌, append-nil}
use Rattle.page_store.specs.Tree.{Parts, Mapped, joined}
use Rattle.btree_twigs.specs.declared.twigs.Twig.{Twig}
use Rattle.btree_twigs.specs.Stubs.{Stub}
use Rattle.btree_update.specs.GroveTree.{want_of, HasEach, Maps, stubs_at}
use Rattle.btree_update.specs.Held.{stub_at, IsReadAs}
use Rattle.btree_update.specs.Opens.{Opens, Same, Here, Within, Then}
use Rattle.btree_update.proofs.Readings.{read_same}
use Rattle.btree_update.proofs.Places.{maps_append, maps_split, read_maps}

of_one : (pages : List (List ℕ)) (order l : ℕ) (s : Stub) (twig : Twig) (mapped : List Mapped) (r : IsReadAs pages order l s twig) (ps : List Parts) → HasEach pages order (record s { level = suc l } ∷ []) ps → mapped ≡ (joined ps).mapped →
    Maps pages order (stubs_at l s.high r.entries) mapped
of_one pages order l s twig mapped r [] has is = absurd has
of_one pages order l s twig mapped r (p ∷ q ∷ ps) has is = absurd has.1
of_one pages order l s twig mapped r (p ∷ []) has is =
    subst (Maps pages order (stubs_at l s.high r.entries)) (sym (is ∙ append-nil p.mapped))
    (read_maps pages order l (want_of order (record s { level = suc l })) s.key p r.entries r.small has.0 r.here)

within_maps : (pages : List (List ℕ)) (order : ℕ) (fs bs old new : List Stub) (mapped : List Mapped) → ((m : List Mapped) → Maps pages order old m → Maps pages order new m) →
    Maps pages order (fs ++ (old ++ bs)) mapped → Maps pages order (fs ++ (new ++ bs)) mapped
within_maps pages order fs bs old new mapped one h =
    let a = maps_split pages order fs (old ++ bs) mapped h in
    let b = maps_split pages order old bs a.right a.on_right in
    subst (Maps pages order (fs ++ (new ++ bs))) (sym (a.is ∙ ap (λ m. a.left ++ m) b.is))
    (maps_append pages order fs (new ++ bs) a.left (b.left ++ b.right) a.on_left (maps_append pages order new bs b.left b.right (one b.left b.on_left) b.on_right))

pub opened_maps : (pages : List (List ℕ)) (order : ℕ) (places old new : List Stub) (mapped : List Mapped) → Opens pages order places old new → Maps pages order old mapped → Maps pages order new mapped
opened_maps pages order places old new mapped Same h = h
opened_maps pages order places old new mapped (Here {below = below} {low = low} {high = high} {addr = addr} {key = key} {twig = twig} r) h =
    subst (λ ss. Maps pages order ss mapped) (sym (read_same pages order below (stub_at (suc below) low high addr key) twig r)) (of_one pages order below (stub_at (suc below) low high addr key) twig mapped r h.each h.has h.is)
opened_maps pages order places old new mapped (Within {places = first} {old = xs} {new = ys} fs bs o) h = within_maps pages order fs bs xs ys mapped (λ m k. opened_maps pages order first xs ys m o k) h
opened_maps pages order places old new mapped (Then {first = first} {second = second} {old = xs} {mid = mid} {new = ys} o p) h = opened_maps pages order second mid ys mapped p (opened_maps pages order first xs mid mapped o h)
