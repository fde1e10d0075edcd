-- What of a field is written.
use Rattle.std.specs.Prelude.{ℕ, List, ◌++◌, codes}
use Rattle.nvme_cells.specs.Rows.{Named, csv_text, json_member, named_of}
use Rattle.nvme_cells.specs.declared.field.Field.{Field}
use Rattle.nvme_cells.specs.declared.field.Form.{Form}
use Rattle.nvme_cells.specs.declared.field.Form.TheVariants.{Name, Value, Member}

abbrev pub form_text : Form → Named → List ℕ
form_text Name field = field.name
form_text Value field = csv_text field
form_text Member field = json_member field

abbrev pub form_behind : Form → Field → List ℕ
form_behind form field = codes "," ++ form_text form (named_of field)
