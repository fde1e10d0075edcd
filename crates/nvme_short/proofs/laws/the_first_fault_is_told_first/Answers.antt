use Rattle.nvme_short.proofs.FirstTold.{first_is_first}
use Rattle.nvme_short.proofs.laws.the_first_fault_is_told_first.Goals as goal

pub returns : goal.returns
returns c = first_is_first
