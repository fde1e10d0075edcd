use Rattle.std.proofs.Common.{◌≡◌, true, subst}
use Rattle.nvme_entry.specs.AdminCommand.{admin_command_of}
use Rattle.nvme_admin.specs.Checks.{is_success, status_in}
use Rattle.nvme_admin.specs.Layout.{view_of}
use Rattle.nvme_admin.specs.Effects.{verdict_in}
use Rattle.nvme_admin.specs.Standing.{TableView, Shows, table_of}
use Rattle.nvme_admin.specs.Steps.{table_after}
use Rattle.nvme_admin.proofs.table.Table.execute.Goals as goal

pub returns-clause-accepted : goal.returns-clause-accepted
returns-clause-accepted c =
    subst (λ (v : TableView). is_success (status_in (verdict_in c.execute.result)) ≡ true → Shows (view_of c.execute.new.self) (table_after (table_of v) (admin_command_of c.args.entry.now)))
    c.self.view_is c.execute.ensures.accepted
