-- Fields by their places, as the specification writes them (Base Specification, Byte, Word, and Dword Relationships).
use Rattle.std.specs.Prelude.{ℕ, ◌+◌, ◌-◌, ◌*◌, ◌/◌, ◌%◌, ◌^◌, ◌<◌, List, slice_index}
use Rattle.byteorder.specs.Endian.{little_from}

-- bits high:low of a number
abbrev pub bits_of : ℕ → ℕ → ℕ → ℕ
bits_of high low x = x / 2 ^ low % 2 ^ (high + 1 - low)

-- the number in the n bytes from byte place p on, the lowest byte first
abbrev pub bytes_at : ℕ → ℕ → List ℕ → ℕ
bytes_at p n bytes = little_from p n bytes

-- Command Dword n
abbrev pub dword : ℕ → List ℕ → ℕ
dword n bytes = bytes_at (4 * n) 4 bytes

-- each number of the list is a byte
abbrev pub AreBytes : List ℕ → Type 0
AreBytes bytes = (k : ℕ) → slice_index bytes k < 256
