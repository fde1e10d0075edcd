use Rattle.nvme_channels.proofs.OneByOne.{one_by_one}
use Rattle.nvme_channels.proofs.laws.commands_run_one_by_one.Goals as goal

pub returns : goal.returns
returns c = one_by_one
