use Rattle.nvme_load.proofs.Cycles.{comes}
use Rattle.nvme_load.proofs.laws.commands_come_where_it_is_on.Goals as goal

pub returns : goal.returns
returns c = comes
