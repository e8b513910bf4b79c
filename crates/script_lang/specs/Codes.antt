-- How the array machine's state is told apart by proofs: as tuples of its parts.
use Rattle.std.specs.Prelude.{ℕ, Bool, Option, refl}
use Rattle.std.specs.Coded.{Coded, code_by, coded×, coded_ℕ, coded_list, coded_option, coded_bool}
use Rattle.std.specs.FinMap as map
use Rattle.sdbt_base.specs.Arrays.{Device, Session, Blocks, State}

abbrev pub blocks_code : Coded Blocks
blocks_code = map.code coded_ℕ (coded_list coded_ℕ)

abbrev pub device_code : Coded Device
device_code =
    code_by (ℕ × (ℕ × (ℕ × (ℕ × Blocks)))) (coded× coded_ℕ (coded× coded_ℕ (coded× coded_ℕ (coded× coded_ℕ blocks_code))))
    (λ d. (d.version, (d.blocks, (d.order, (d.number, d.contents)))))
    (λ p. record { version = p.0; blocks = p.1.0; order = p.1.1.0; number = p.1.1.1.0; contents = p.1.1.1.1 }) (λ _. refl)

abbrev pub session_code : Coded Session
session_code =
    code_by (Blocks × Bool) (coded× blocks_code coded_bool) (λ s. (s.contents, s.touched))
    (λ p. record { contents = p.0; touched = p.1 }) (λ _. refl)

abbrev pub state_code : Coded State
state_code =
    code_by (Option Device × Option Session) (coded× (coded_option device_code) (coded_option session_code))
    (λ s. (s.device, s.session)) (λ p. record { device = p.0; session = p.1 }) (λ _. refl)
