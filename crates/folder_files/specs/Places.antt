-- Where in a file bytes are read and written, where its position is known.
use Rattle.std.specs.Prelude.{◌≡◌, ℕ, List, Option, Some, IfSome}
use Rattle.std.specs.Io.KnownBytes.{Appends, Consumes}

-- first to this position, and then these bytes were read
abbrev pub ReadsAt : {F : Type 0} → (F → Option ℕ) → (F → Option (List ℕ)) → F → F → ℕ → List ℕ → Type 0
ReadsAt {F} position remaining old new at bytes =
    (begun : F) × IfSome (position old) (λ _. position begun ≡ Some at) × Consumes (remaining begun) (remaining new) bytes

-- first to this position, and then these bytes were written
abbrev pub WritesAt : {F : Type 0} → (F → Option ℕ) → (F → Option (List ℕ)) → F → F → ℕ → List ℕ → Type 0
WritesAt {F} position contents old new at bytes =
    (begun : F) × IfSome (position old) (λ _. position begun ≡ Some at) × Appends (contents begun) (contents new) bytes
