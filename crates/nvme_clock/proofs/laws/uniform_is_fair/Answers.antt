use Rattle.nvme_clock.proofs.Fairness.{fair}
use Rattle.nvme_clock.proofs.laws.uniform_is_fair.Goals as goal

pub returns : goal.returns
returns c = fair
