-- For private clauses.
use Rattle.std.specs.Prelude.{◌≡◌, ◌≢◌, ℕ, List, [], ◌∷◌, map, Option, MatchOption, codes}
use Rattle.serde_json.specs.Data.{Data, Members, no_members, member}
use Rattle.cert_codec.specs.Text.{whole}

-- what was found is written as y; where nothing was found, nothing is written so
abbrev pub IsReadBack : {X Y : Type 0} → (X → Y) → Y → Option X → Type 0
IsReadBack {X} write y found = MatchOption found ((x : X) → y ≢ write x) (λ x. y ≡ write x)

-- the first four members of a certificate, and the rest
abbrev pub front_members : Data → Data → Data → Data → Members → Members
front_members added base commit gone rest =
    member (codes "added") added (member (codes "base") base (member (codes "commit") commit (member (codes "gone") gone rest)))

-- the last three
abbrev pub back_members : Data → Data → Data → Members
back_members head never root = member (codes "head") head (member (codes "never") never (member (codes "root") root no_members))

-- the rows of a data record and of a node
abbrev pub data_row : ℕ → ℕ → List Data
data_row addr block = whole addr ∷ whole 0 ∷ whole block ∷ []

abbrev pub node_row : ℕ → List ℕ → List Data
node_row addr children = whole addr ∷ whole 1 ∷ map whole children
