use Rattle.nvme_ctrl_log.proofs.Deletions.{none_fetched_after_deletion, none_picked_after_deletion}
use Rattle.nvme_ctrl_log.proofs.laws.nothing_is_served_after_deletion.Goals as goal

pub returns : goal.returns
returns c = record { fetched = none_fetched_after_deletion; picked = none_picked_after_deletion }
