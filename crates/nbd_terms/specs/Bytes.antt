-- A device with a session on it, as an NBD client sees it: an array of bytes.
use Rattle.std.specs.Prelude.{◌+◌, ◌*◌, ℕ, List, [], ◌∷◌, length}
use Rattle.sdbt_base.specs.Arrays.{Session, content_of, written}
use Rattle.byte_arrays.specs.Arrays.{bytes_at, byte_of, with_bytes}
use Rattle.device_course.specs.Held.{Held, trim_all}

-- the session's blocks, one behind the other, and how many bytes these are
abbrev pub array_of : Session → ℕ → ℕ
array_of session = byte_of (content_of session.contents)

abbrev pub size_of : Held → ℕ
size_of held = 4096 * held.device.blocks

-- the session after writes of these blocks, each with what an array has there
abbrev pub write_all : Session → (ℕ → ℕ) → List ℕ → Session
write_all session array [] = session
write_all session array (block ∷ blocks) = write_all (written session block (bytes_at array (4096 * block) 4096)) array blocks

-- after a write, or the part of it that came to these blocks: each has the array's bytes, with
-- those of the write in their place
abbrev pub after_writes : Held → ℕ → List ℕ → List ℕ → Held
after_writes held offset bytes blocks = record held {
  session = write_all held.session (with_bytes (array_of held.session) offset bytes) blocks;
  pages = held.pages + length blocks;
  updates = held.updates + length blocks;
}

-- after a trim, or the part of it that came to these blocks
abbrev pub after_trims : Held → List ℕ → Held
after_trims held blocks = record held { session = trim_all held.session blocks; updates = held.updates + length blocks }
