use Rattle.nvme_own_statuses.proofs.Statuses.{statuses_are_of_commands}
use Rattle.nvme_own_statuses.proofs.laws.statuses_are_of_commands.Goals as goal

pub returns : goal.returns
returns c = statuses_are_of_commands
