use Rattle.nvme_ctrl.proofs.HeldSlots.{few_hold_slots}
use Rattle.nvme_ctrl.proofs.laws.few_commands_hold_slots.Goals as goal

pub returns : goal.returns
returns c = few_hold_slots
