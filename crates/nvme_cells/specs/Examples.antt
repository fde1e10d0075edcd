-- Worked examples of the definitions. (profile)
use Rattle.std.specs.Prelude.{◌≡◌, [], ◌∷◌, codes}
use Rattle.std.specs.List.{flat_map}
use Rattle.nvme_cells.specs.Quotients.{jain_of, rounded}
use Rattle.nvme_cells.specs.Rows.{csv_names, csv_values, json_object}
use Rattle.nvme_cells.specs.Tables.{shown_text}
use Rattle.nvme_cells.specs.Values.{Nothing, Text, Whole, Fraction, Percentage}
use Rattle.nvme_cells.specs.declared.cell.Places.TheVariants.{Three, Four, Six}
use Rattle.nvme_cells.specs.declared.table.Place.TheVariants.{Plain, Left, Right}

pub record RowExamples : Type 0 where
  pub names : csv_names (record { name = codes "seed"; value = Whole 7 } ∷ record { name = codes "jain"; value = Nothing } ∷ [])
      ≡ codes "seed,jain\n"
  pub sheet : csv_values (record { name = codes "class"; value = Text (codes "high") } ∷ record { name = codes "jain"; value = Nothing }
      ∷ record { name = codes "seed"; value = Whole 12 } ∷ record { name = codes "share"; value = Fraction 500_000 Six }
      ∷ record { name = codes "busy"; value = Percentage 100_500 Three } ∷ [])
      ≡ codes "high,,12,0.500000,100.500\n"
  pub object : json_object (record { name = codes "seed"; value = Whole 7 } ∷ record { name = codes "jain"; value = Nothing }
      ∷ record { name = codes "share"; value = Fraction 1_000_042 Six } ∷ record { name = codes "class"; value = Text (codes "high") } ∷ [])
      ≡ codes "{\"seed\":7,\"jain\":null,\"share\":1.000042,\"class\":\"high\"}"
  pub escaped : json_object (record { name = codes "a"; value = Text (codes "b\"c\\d") } ∷ []) ≡ codes "{\"a\":\"b\\\"c\\\\d\"}"
  pub table : flat_map shown_text (record { place = Plain; value = Text (codes "q") } ∷ record { place = Left 5; value = Whole 1 }
      ∷ record { place = Right 8; value = Fraction 1_500 Three } ∷ record { place = Right 10; value = Percentage 1_000_000 Four }
      ∷ record { place = Right 4; value = Nothing } ∷ record { place = Right 2; value = Whole 123 } ∷ [])
      ≡ codes "q1       1.500 100.0000%   -123"

pub record QuotientExamples : Type 0 where
  pub half_up : rounded 5 2 ≡ 3
  pub down : rounded 4 3 ≡ 1
  pub fair : jain_of (7 ∷ 7 ∷ []) ≡ 10_000
  pub one_of_two : jain_of (7 ∷ 0 ∷ []) ≡ 5_000
  pub two_to_one : jain_of (2 ∷ 1 ∷ 0 ∷ []) ≡ 6_000
