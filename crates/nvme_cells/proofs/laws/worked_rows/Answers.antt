use Rattle.std.proofs.Common.{refl}
use Rattle.std.specs.Fmt.{digits}
use Rattle.nvme_cells.specs.Rows.{csv_names, csv_values, json_members, json_object}
use Rattle.nvme_cells.proofs.laws.worked_rows.Goals as goal

pub returns : goal.returns
unfolding digits csv_names csv_values json_members json_object
returns c = record { names = refl; sheet = refl; object = refl; escaped = refl; table = refl }
