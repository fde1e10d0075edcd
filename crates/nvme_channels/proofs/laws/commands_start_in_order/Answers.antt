use Rattle.nvme_channels.proofs.Order.{in_order}
use Rattle.nvme_channels.proofs.laws.commands_start_in_order.Goals as goal

pub returns : goal.returns
returns c = in_order
