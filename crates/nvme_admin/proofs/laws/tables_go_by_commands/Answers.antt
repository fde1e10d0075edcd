use Rattle.nvme_admin.proofs.Stepped.{tables-begin_empty, tables-go_by_commands}
use Rattle.nvme_admin.proofs.laws.tables_go_by_commands.Goals as goal

pub returns : goal.returns
returns c = record { first = tables-begin_empty; next = tables-go_by_commands }
