-- Rows as comma-separated values, and as members of a JSON object. (profile)
use Rattle.std.specs.Prelude.{ℕ, List, [], ◌∷◌, ◌++◌, codes}
use Rattle.std.specs.List.{flat_map}
use Rattle.nvme_cells.specs.Strings.{json_string}
use Rattle.nvme_cells.specs.Values.{Text, Value, value_of, value_text}
use Rattle.nvme_cells.specs.declared.field.Field.{Field}

-- a value and its name
pub record Named : Type 0 where
  pub name : List ℕ
  pub value : Value

abbrev pub named : (name : List ℕ) → Value → Named
named name value = record { name = name; value = value }

abbrev pub named_of : Field → Named
named_of field = record { name = field.name.now; value = value_of field.cell }

-- texts of fields, with commas between them
abbrev pub commas : (Named → List ℕ) → List Named → List ℕ
commas text [] = []
commas text (field ∷ fields) = text field ++ flat_map (λ other. codes "," ++ text other) fields

-- a value in a sheet: nothing stands for nothing, and texts are written as they are
abbrev pub csv_text : Named → List ℕ
csv_text field = value_text [] [] field.value

unfoldable pub csv_names : List Named → List ℕ
csv_names fields = commas (λ field. field.name) fields ++ codes "\n"

unfoldable pub csv_values : List Named → List ℕ
csv_values fields = commas csv_text fields ++ codes "\n"

-- a value in an object: null stands for nothing, and texts are strings
abbrev pub json_value : Value → List ℕ
json_value (Text text) = json_string text
json_value value = value_text (codes "null") [] value

abbrev pub json_member : Named → List ℕ
json_member field = json_string field.name ++ (codes ":" ++ json_value field.value)

unfoldable pub json_members : List Named → List ℕ
json_members fields = commas json_member fields

unfoldable pub json_object : List Named → List ℕ
json_object fields = codes "{" ++ json_members fields ++ codes "}"
