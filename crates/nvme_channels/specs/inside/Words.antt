-- Marks of places, a bit each in words of 64 bits. (profile)
use Rattle.std.specs.Prelude.{ℕ, ◌/◌, ◌%◌, ◌==◌, ◌<◌, ◌≡◌, ◌≢◌, Bool, if◌then◌else◌, List, map, slice_index}
use Rattle.std.specs.Int.{bit_at}
use Rattle.std.specs.List.{range_with_len}

-- whether a place is marked
abbrev pub is_marked : List ℕ → ℕ → Bool
is_marked words place = bit_at (slice_index words (place / 64)) (place % 64) == 1

-- the marks of so many places
unfoldable pub marks_in : ℕ → List ℕ → List Bool
marks_in count words = map (is_marked words) (range_with_len 0 count)

-- a word becomes another, with one bit set or cleared
pub record SetsBit (word bit : ℕ) (on : Bool) (becomes : ℕ) : Type 0 where
  pub this : bit_at becomes bit ≡ (if on then 1 else 0)
  pub others : (i : ℕ) → i < 64 → i ≢ bit → bit_at becomes i ≡ bit_at word i

-- the bit is set, and none below it
pub record IsLowest (word bit : ℕ) : Type 0 where
  pub within : bit < 64
  pub is_set : bit_at word bit ≡ 1
  pub none_below : (i : ℕ) → i < bit → bit_at word i ≡ 0
