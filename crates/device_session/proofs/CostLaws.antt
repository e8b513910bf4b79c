-- What a read costs.
use Rattle.std.proofs.Common.{◌≡◌, ℕ, ◌+◌, ◌<◌, ◌≤◌, Option, Result, Ok, Err, refl, subst, arith}
use Rattle.std.specs.Prelude.{OnOk}
use Rattle.platform.specs.declared.platforms.Platform.{Ghosts}
use Rattle.node_codec.specs.declared.body.Entry.{Entry}
use Rattle.node_codec.specs.declared.body.NodeBody.{NodeBody}
use Rattle.page_store.specs.Buffer.{Held}
use Rattle.page_store.specs.declared.refusals.FetchRefusal.{FetchRefusal}
use Rattle.node_cache.specs.Cached.{Cached}
use Rattle.btree_walk.specs.Looks.{Looks}
use Rattle.btree_update.specs.Finding.{KeepsWay, UsesCache}
use Rattle.device_session.specs.declared.refusals.ReadRefusal.{ReadRefusal}
use Rattle.device_session.specs.Open.{blocks_of}
use Rattle.device_session.specs.Sessions.{Session}
use Rattle.device_session.specs.Reading.{ReadsFew}

never : (result : Result (Unit {0}) ReadRefusal) → OnOk result ⊥ → (Done : Type 0) → OnOk result Done
never (Ok done) refused Done = absurd refused
never (Err refusal) refused Done = tt

-- nothing is read
pub few_none : {S : Type 0} (P : Ghosts S) (block : ℕ) (platform : S) (session : Session) (result : Result (Unit {0}) ReadRefusal) → OnOk result ⊥ → ReadsFew P block platform platform session session result
few_none P block platform session result refused = record {
  most = λ tells. omega arith;
  none = λ tells past. refl;
  warm = λ tells keeps. omega arith;
  fills = λ tells. never result refused (session.grove.level ≤ session.cache.capacity → KeepsWay session.cache.nodes block session.grove);
}

-- a look-up, and then at most one page
pub few_found : {S : Type 0} (P : Ghosts S) (block : ℕ) (platform mid after : S) (was session : Session) (cache : Cached) (buffers : Held) (node : NodeBody) (told : Result (Option Entry) FetchRefusal) (result : Result (Unit {0}) ReadRefusal) → session ≡ was → block < blocks_of session
    → Looks P session.grove.level platform mid → UsesCache P (λ kept. KeepsWay kept block session.grove) session.grove.level platform mid session.cache cache told
    → (P.tells → P.reads after ≤ P.reads mid + 1) → (P.tells → OnOk result (session.grove.level ≤ cache.capacity → KeepsWay cache.nodes block session.grove))
    → ReadsFew P block platform after was (record session { cache = cache; buffers = buffers; node = node }) result
few_found P block platform mid after was session cache buffers node told result same within looks uses more filled =
    subst (λ (s : Session). ReadsFew P block platform after s (record session { cache = cache; buffers = buffers; node = node }) result) same (record {
      most = λ tells. (let one = looks.reads_most tells in let two = more tells in omega (arith, one, two));
      none = λ tells past. absurd (omega (arith, within, past));
      warm = λ tells keeps. subst (λ x. P.reads after ≤ P.reads x + 1) (uses.warm keeps) (more tells);
      fills = filled;
    })
