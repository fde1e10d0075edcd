use Rattle.nvme_waits_of_runs.proofs.Shown.{only_queues_are_ready}
use Rattle.nvme_waits_of_runs.proofs.laws.only_queues_are_ready.Goals as goal

pub returns : goal.returns
returns c = only_queues_are_ready
