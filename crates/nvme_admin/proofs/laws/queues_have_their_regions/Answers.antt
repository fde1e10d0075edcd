use Rattle.nvme_admin.proofs.Queues.{sqs-have_their_regions, cqs-have_their_regions}
use Rattle.nvme_admin.proofs.laws.queues_have_their_regions.Goals as goal

pub returns : goal.returns
returns c = record { sqs = sqs-have_their_regions; cqs = cqs-have_their_regions }
