-- What a call that leaves the cell keeps of a session on the root record in it, and what it names there.
use Rattle.std.proofs.Common.{◌≡◌, ℕ, Some, inl, inr, sym, ◌∙◌, subst, ap}
use Rattle.std.specs.Prelude.{◌⊎◌, Option, IfSome}
use Rattle.platform.specs.Image.{Image}
use Rattle.platform.specs.History.{History, CellStays}
use Rattle.platform.proofs.Moments.{During-now}
use Rattle.root_codec.specs.declared.root.Root.{Root}
use Rattle.root_codec.specs.RootRecord.{root_bytes}
use Rattle.page_store.specs.Tree.{Wrong}
use Rattle.page_store.proofs.TreeLaws.{tree_not_wrong}
use Rattle.btree_update.specs.Groves.{IsWrongOnWay}
use Rattle.device_session.specs.Damage.{Follows, IsDamaged, IsMiscounted, NamesDamage}
use Rattle.device_session.specs.Open.{IsOpen}
use Rattle.device_session.specs.Sessions.{Session}
use Rattle.device_session.proofs.UpdateLaws.{open_sound}
use Rattle.session_calls.specs.Damage.{IsMounted, IsWrongPlace, IsMiscountedAt, IsWrongNode, WrongNode}
use Rattle.session_calls.proofs.NodeLaws.{way_node}

-- a session that is on the root record in the cell stays so while both stay
pub mounted_still : (held : Option Session) (session now : Session) (old new : History) → held ≡ Some session → IfSome held (IsMounted old.present)
    → now.root ≡ session.root → CellStays old new → (Follows session old.present → Follows now new.present) → IsMounted new.present now
mounted_still held session now old new is mounted same stays follows =
    let there : IsMounted old.present session = subst (λ (s : Option Session). IfSome s (IsMounted old.present)) is mounted in
    record {
      cell = During-now old new (λ image. image.cell ≡ old.present.cell) stays ∙ (there.cell ∙ ap (λ (r : Root). Some (root_bytes r)) (sym same));
      follows = follows there.follows;
    }

-- what a session names that is on the root record in the cell is a wrong place
pub wrong_place : (session : Session) (pages addr : ℕ) (old new : History) → IsOpen session pages → IsMounted old.present session → CellStays old new
    → (Follows session old.present → Wrong new.present.readable session.root addr) → IsWrongPlace new.present addr
wrong_place session pages addr old new is_open there stays wrong = record {
  root = session.root;
  in_range = is_open.served.in_range;
  cell = During-now old new (λ image. image.cell ≡ old.present.cell) stays ∙ there.cell;
  wrong = wrong there.follows;
}

-- an update names a node's place that is one, or the root node at a bound of the count, and then the tree is miscounted
pub wrong_page : (session : Session) (pages block addr : ℕ) (old new : History) (Bound : Type 0) → IsOpen session pages → IsMounted old.present session → CellStays old new → new.present ≡ old.present → (Bound → addr ≡ session.root.addr)
    → NamesDamage old.present new.present session addr (IsWrongOnWay old.present.readable block session.grove addr ⊎ Bound) (Wrong old.present.readable session.root addr ⊎ Bound)
    → IsWrongNode new.present addr ⊎ (IsMiscountedAt new.present addr × Bound)
wrong_page session pages block addr old new Bound is_open there stays same at_root names =
    elim (names.misfit there.follows.cached) [
      | inl way ↦ inl (record {
        root = session.root;
        in_range = is_open.served.in_range;
        cell = cell;
        wrong = subst (λ (i : Image). WrongNode i.readable session.root addr) (sym same)
            (way_node old.present.readable session.root session.grove block addr (open_sound session pages is_open).0 there.follows.places way);
      })
      | inr bound ↦ inr (
        record { root = session.root; in_range = is_open.served.in_range; cell = cell; is_node = at_root bound; miscounted = miscounted (names.damage there.follows).1 },
        bound,
      )
    ]
  where
    cell : new.present.cell ≡ Some (root_bytes session.root)
    cell = During-now old new (λ image. image.cell ≡ old.present.cell) stays ∙ there.cell

    -- where a place doesn't fit there is no tree
    miscounted : IsDamaged new.present.readable session.root addr → IsMiscounted new.present.readable session.root
    miscounted (inl wrong) = λ parts stands many. tree_not_wrong new.present.readable session.root parts addr is_open.served.in_range stands wrong
    miscounted (inr node) = node.1
