use Rattle.std.proofs.Common.{◌≡◌, Some, refl, sym, ap, subst}
use Rattle.sdbt_base.specs.Arrays.{Device}
use Rattle.platform.specs.Image.{Image}
use Rattle.platform.proofs.Moments.{whole-now}
use Rattle.root_codec.specs.RootRecord.{root_bytes}
use Rattle.page_store.specs.Stands.{Stands}
use Rattle.node_cache.specs.Cached.{Cached}
use Rattle.device_session.specs.Holds.{Holds}
use Rattle.device_session.proofs.SessionLaws.{IsFresh, bare_tree, fresh_open, fresh_pages, fresh_holds, none_cached}
use Rattle.device_session.proofs.DamageLaws.{follows_fresh}
use Rattle.device_session.proofs.KeyLaws.{listed_fresh}
use Rattle.device_session.proofs.session.Session.mount.Goals as goal

pub returns-clause-mounts : goal.returns-clause-mounts
returns-clause-mounts g c =
    let P = g.P.Platform in
    let pages = P.head c.args.platform.now in
    let image = (P.history c.current.new.platform).present in
    let within = rw c.in-Some.is at c.in_ok-root.ensures.within in
    let found : P.tells → (P.history c.args.platform.now).present.cell ≡ Some (root_bytes c.in-Some.root) = λ told. rw c.in-Some.is at c.in_ok-root.ensures.found told in
    let none = ap (λ (k : Cached). k.nodes) c.in_ok-reader.ensures.cache in
    let tree = bare_tree _ _ c.of-grove.ensures.sound c.of-grove.ensures.size c.of-grove.ensures.top c.of-grove.ensures.lists in
    let fresh : IsFresh _ = record { untouched = refl; mapped = refl; tree = tree; none = none } in
    let own = fresh_pages _ pages within fresh in
    let holds : P.tells → (device : Device) → Stands (P.history c.args.platform.now).present (Some device) → Holds _ image device device.contents = λ told device stands.
    let same = sym (c.current.ensures.reads_cell.image told) in
    fresh_holds _ image device pages within (whole-now (P.history c.current.new.platform)) (subst (λ (i : Image). i.cell ≡ Some (root_bytes c.in-Some.root)) same (found told)) fresh (subst (λ (i : Image). Stands i (Some device)) same stands) in
    record {
      is_open = fresh_open _ pages _ within c.of-grove.ensures.below c.current.ensures.reads_cell.head fresh;
      untouched = refl;
      mapped = refl;
      pages = own;
      empty = c.in_ok-reader.ensures.cache;
      found = found;
      follows = λ told. follows_fresh _ image refl tree (none_cached _ c.in_ok-reader.reader.cache none);
      holds = holds;
      listed = λ told device stands keys. listed_fresh _ image device device.contents keys own (holds told device stands);
    }
