-- What is written of a line.
use Rattle.std.specs.Prelude.{ℕ, ◌+◌, List, codes}
use Rattle.nvme_cells.specs.Rows.{Named, csv_names, csv_values}
use Rattle.nvme_cells.specs.Values.{Nothing, Text, Whole}
use Rattle.nvme_numbers.specs.Names.{class_text}
use Rattle.nvme_numbers.specs.Sheets.{line_of, no_totals, scopes, totals_of}
use Rattle.nvme_numbers.specs.declared.answer.Answer.{Answer}
use Rattle.nvme_numbers.specs.declared.answer.sheet.Line.{Line}
use Rattle.nvme_numbers.specs.declared.answer.sheet.Line.TheVariants.{Names, Values}
use Rattle.nvme_numbers.specs.declared.answer.sheet.Scope.{Scope}
use Rattle.nvme_numbers.specs.declared.answer.sheet.Scope.TheVariants.{Queue, Class, All}
use Rattle.nvme_numbers.specs.declared.row.Row.{Row}

abbrev pub line_text : Line → List Named → List ℕ
line_text Names fields = csv_names fields
line_text Values fields = csv_values fields

abbrev pub scope_fields : Scope → List Named
scope_fields (Queue place class) = scopes (codes "queue") (Whole (place + 1)) (Text (class_text class))
scope_fields (Class class) = scopes (codes "class") (Text (class_text class)) (Text (class_text class))
scope_fields All = scopes (codes "all") (Text (codes "all")) Nothing

abbrev pub total_fields : Answer → Scope → List Named
total_fields a (Queue place class) = no_totals
total_fields a (Class class) = no_totals
total_fields a All = totals_of a

abbrev pub fields_of : Answer → Scope → Row → List Named
fields_of a scope row = line_of a (scope_fields scope) row (total_fields a scope)
