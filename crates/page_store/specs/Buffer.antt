-- What two buffers of a record's size hold.
use Rattle.std.specs.Prelude.{◌≡◌, ℕ, List, All, drop}

-- the bytes of the last page and of the last body
pub record Held : Type 0 where
  pub page : List ℕ
  pub body : List ℕ

-- what stands behind the head of the last body: the content, where it is a data record
abbrev pub content_of : Held → List ℕ
content_of held = drop 32 held.body

-- all bytes are zero
pub record IsBlank (held : Held) : Type 0 where
  pub page : All (λ b. b ≡ 0) held.page
  pub body : All (λ b. b ≡ 0) held.body
