use Rattle.nvme_bounds.proofs.Ends.{ends_come_in_time}
use Rattle.nvme_bounds.proofs.laws.ends_come_in_time.Goals as goal

pub returns : goal.returns
returns c = ends_come_in_time
