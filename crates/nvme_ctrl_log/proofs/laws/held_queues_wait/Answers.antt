use Rattle.nvme_ctrl_log.proofs.Arranged.{held_queues_wait, held_queues_wait_until_told}
use Rattle.nvme_ctrl_log.proofs.laws.held_queues_wait.Goals as goal

pub returns : goal.returns
returns c = record { held = held_queues_wait; until_told = held_queues_wait_until_told }
