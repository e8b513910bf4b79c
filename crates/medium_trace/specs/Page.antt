-- Pages of a medium.
use Rattle.std.specs.Prelude.{◌≡◌, ◌<◌, ℕ, List, All, length, replicate}
use Rattle.medium_trace.specs.declared.page_list.TheConstants.{PAGE}

-- so many bytes as a page has
abbrev pub IsPage : List ℕ → Type 0
IsPage page = (length page ≡ PAGE) × All (λ byte. byte < 256) page

-- the page of zero bytes
unfoldable pub zero_page : List ℕ
zero_page = replicate PAGE 0
