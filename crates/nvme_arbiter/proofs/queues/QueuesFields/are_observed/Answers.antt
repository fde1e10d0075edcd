use Rattle.nvme_arbiter.proofs.MaskLemmas.{observed, slots-length}
use Rattle.nvme_arbiter.proofs.queues.QueuesFields.are_observed.Goals as goal

pub returns-clause-observed : goal.returns-clause-observed
returns-clause-observed c = observed c.args.self.now

pub returns-clause-size : goal.returns-clause-size
returns-clause-size c = slots-length c.args.self.now
