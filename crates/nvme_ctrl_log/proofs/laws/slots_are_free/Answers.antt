use Rattle.nvme_ctrl_log.proofs.Slots.{slots_are_free}
use Rattle.nvme_ctrl_log.proofs.laws.slots_are_free.Goals as goal

pub returns : goal.returns
returns c = slots_are_free
