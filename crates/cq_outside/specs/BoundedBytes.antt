-- A sink in memory, with room for some bytes.
use Rattle.std.specs.Prelude.{ℕ, List, ◌++◌, length, nat_le, Option, None, Some, if◌then◌else◌}

-- the room, and the bytes taken as long as they fit the room
pub record BoundedBytes : Type 0 where
  pub room : ℕ
  pub taken : Option (List ℕ)

-- these bytes if they fit the room
abbrev pub bytes_if_fit : ℕ → List ℕ → Option (List ℕ)
bytes_if_fit room bytes = if nat_le (length bytes) room then Some bytes else None

-- the bytes taken after more bytes; bytes once lost stay lost
abbrev pub taken_with : ℕ → Option (List ℕ) → List ℕ → Option (List ℕ)
taken_with room None more = None
taken_with room (Some bytes) more = bytes_if_fit room (bytes ++ more)
