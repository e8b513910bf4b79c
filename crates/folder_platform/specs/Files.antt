-- What the files of a device in folders hold.
use Rattle.std.specs.Prelude.{◌≡◌, ◌<◌, ◌-◌, ℕ, suc, List, ◌∷◌, ◌++◌, Option, Some, All, length, take, drop, replicate}
use Rattle.sdbt_base.specs.Bytes.{IsBytes}
use Rattle.sdbt_base.specs.declared.limits.TheConstants.{RECORD}

pub record Files : Type 0 where
  pub pages : List (List ℕ)  -- those of `media`, of which a last one that is there in part counts as filled up with zeros
  pub handed : List (List ℕ)  -- for each of these the page that was once handed over to be written there: where a loss of power tore it, another one. No file tells it
  pub root : Option (List ℕ)  -- the first ROOT + 1 bytes of `root`, if it is there
  pub new_root : Option (List ℕ)  -- those of `root.new`, if it is there

-- pages have their size, and bytes are bytes; and for each page there is the one that was handed over
pub record AreFiles (files : Files) : Type 0 where
  pub pages : All (IsBytes RECORD) files.pages
  pub handed : All (IsBytes RECORD) files.handed
  pub as_many : length files.handed ≡ length files.pages
  pub root : (bytes : List ℕ) → files.root ≡ Some bytes → All (λ b. b < 256) bytes

-- a page of zeros
unfoldable pub zero_page : List ℕ
zero_page = replicate RECORD 0

-- so many pages: the first ones, and behind them pages of zeros
unfoldable pub fitted : ℕ → List (List ℕ) → List (List ℕ)
fitted n pages = take n (pages ++ replicate (n - length pages) zero_page)

-- this page at an address, with all others as they were; a file that ends before the address is filled up
unfoldable pub placed : List (List ℕ) → ℕ → List ℕ → List (List ℕ)
placed pages addr page = fitted addr pages ++ page ∷ drop (suc addr) pages
