use Rattle.nvme_admin.proofs.Queues.{sqs-are_allotted, cqs-are_allotted}
use Rattle.nvme_admin.proofs.laws.queues_are_allotted.Goals as goal

pub returns : goal.returns
returns c = record { sqs = sqs-are_allotted; cqs = cqs-are_allotted }
