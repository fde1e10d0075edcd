use Rattle.nvme_ctrl.specs.Standing.{IsController}
use Rattle.nvme_ctrl_uses.proofs.device.post_queue.Given as goal

abbrev pub invariant-loop : goal.invariant-loop
invariant-loop l = IsController l.ctrl l.slots
