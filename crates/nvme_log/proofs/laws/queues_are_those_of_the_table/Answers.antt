use Rattle.nvme_log.proofs.Tables.{queues_are}
use Rattle.nvme_log.proofs.laws.queues_are_those_of_the_table.Goals as goal

pub returns : goal.returns
returns c = queues_are
