use Rattle.nvme_bounds.proofs.Pools.{full_pools_run}
use Rattle.nvme_bounds.proofs.laws.full_pools_run.Goals as goal

pub returns : goal.returns
returns c = full_pools_run
