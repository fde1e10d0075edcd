use Rattle.std.proofs.Common.{refl}
use Rattle.nvme_simulation.specs.Marks.{went}
use Rattle.nvme_simulation.proofs.laws.worked_stages.Goals as goal

pub returns : goal.returns
unfolding went
returns c = λ r. record { read = refl; done = refl }
