use Rattle.nvme_ctrl_log.proofs.ReadyOrder.{ready_are_posted_in_turn}
use Rattle.nvme_ctrl_log.proofs.laws.completions_take_turns.Goals as goal

pub returns : goal.returns
returns c = ready_are_posted_in_turn
