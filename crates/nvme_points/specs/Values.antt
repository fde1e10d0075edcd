-- The values of the keys of a sweep at a point. (profile)
use Rattle.std.specs.Prelude.{ℕ, ◌-◌, List, Option, Some, None, length, map, reverse, filter_map}
use Rattle.std.specs.Borrow.{Bor}
use Rattle.std.specs.List.{range_with_len, slice_get}
use Rattle.nvme_points.specs.Points.{choices_of}
use Rattle.nvme_points.specs.declared.axis.Axis.{Axis}

-- how many values keys have, that of the last key first: it is the fastest
abbrev pub lengths_of : List Axis → List ℕ
lengths_of axes = map (λ (a : Axis). length a.values.items) (reverse axes)

-- the value of a key among these at a choice
abbrev pub value_at : Option Axis → Option ℕ → Option (Bor (List ℕ))
value_at None choice = None
value_at (Some axis) None = None
value_at (Some axis) (Some choice) = slice_get axis.values.items choice

-- the value of the nth key, of which there are so many, where the choice of the last key comes first
abbrev pub chosen : List Axis → List ℕ → ℕ → Option (Bor (List ℕ))
chosen axes choices n = value_at (slice_get axes n) (slice_get choices (length axes - 1 - n))

-- the value of each key by these choices, in the order of the keys
abbrev pub values_by : List Axis → List ℕ → List (Bor (List ℕ))
values_by axes choices = filter_map (chosen axes choices) (range_with_len 0 (length axes))

-- the value of each key at a point
abbrev pub values_at : List Axis → ℕ → List (Bor (List ℕ))
values_at axes point = values_by axes (choices_of (lengths_of axes) point)
