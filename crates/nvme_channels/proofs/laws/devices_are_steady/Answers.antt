use Rattle.nvme_channels.proofs.Steady.{steady}
use Rattle.nvme_channels.proofs.laws.devices_are_steady.Goals as goal

pub returns : goal.returns
returns c = steady
