use Rattle.nvme_ctrl_log.proofs.Slots.{slots_are_fetched_in_order}
use Rattle.nvme_ctrl_log.proofs.laws.slots_are_fetched_in_order.Goals as goal

pub returns : goal.returns
returns c = slots_are_fetched_in_order
