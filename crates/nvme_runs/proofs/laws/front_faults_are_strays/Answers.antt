use Rattle.nvme_runs.proofs.Failing.{front_faults_are_strays}
use Rattle.nvme_runs.proofs.laws.front_faults_are_strays.Goals as goal

pub returns : goal.returns
returns c = front_faults_are_strays
