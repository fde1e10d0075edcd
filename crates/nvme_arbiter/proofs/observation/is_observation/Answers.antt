use Rattle.nvme_arbiter.proofs.Observations.{tested}
use Rattle.nvme_arbiter.proofs.observation.is_observation.Goals as goal

pub returns : goal.returns
returns c = rw c.ascend.ensures (tested c.args.seen.now)
