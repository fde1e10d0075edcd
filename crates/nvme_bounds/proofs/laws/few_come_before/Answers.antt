use Rattle.nvme_bounds.proofs.Totals.{few_come_before}
use Rattle.nvme_bounds.proofs.laws.few_come_before.Goals as goal

pub returns : goal.returns
returns c = few_come_before
