-- Rows as lines of a table for people. (profile) Widths count bytes.
use Rattle.std.specs.Prelude.{ℕ, ◌-◌, List, ◌++◌, length, codes, map, replicate}
use Rattle.std.specs.List.{flat_map}
use Rattle.nvme_cells.specs.Values.{Text, Value, value_of, value_text}
use Rattle.nvme_cells.specs.declared.table.Place.{Place}
use Rattle.nvme_cells.specs.declared.table.Place.TheVariants.{Plain, Left, Right}
use Rattle.nvme_cells.specs.declared.table.Placed.{Placed}

abbrev pub table_text : Value → List ℕ
table_text value = value_text (codes "-") (codes "%") value

-- a text in its column, which a longer one exceeds
abbrev pub placed_text : Place → List ℕ → List ℕ
placed_text Plain text = text
placed_text (Left width) text = text ++ replicate (width - length text) 32
placed_text (Right width) text = replicate (width - length text) 32 ++ text

-- a value in its place
pub record Shown : Type 0 where
  pub place : Place
  pub value : Value

abbrev pub shown_of : Placed → Shown
shown_of placed = record { place = placed.place; value = value_of placed.cell }

abbrev pub shown_text : Shown → List ℕ
shown_text shown = placed_text shown.place (table_text shown.value)

-- a text and a value as wide as they are, and values in columns
abbrev pub words : List ℕ → Shown
words text = record { place = Plain; value = Text text }

abbrev pub plain : Value → Shown
plain value = record { place = Plain; value = value }

abbrev pub left : (width : ℕ) → Value → Shown
left width value = record { place = Left width; value = value }

abbrev pub right : (width : ℕ) → Value → Shown
right width value = record { place = Right width; value = value }

-- values in their places, one behind the other
abbrev pub row_text : List Shown → List ℕ
row_text row = flat_map shown_text row

abbrev pub placed_row : List Placed → List ℕ
placed_row row = row_text (map shown_of row)
