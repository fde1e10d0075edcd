use Rattle.nvme_judge.proofs.StartLemmas.{priors}
use Rattle.nvme_judge.proofs.starts.starts_have_priors.Goals as goal

pub returns : goal.returns
returns c = priors
