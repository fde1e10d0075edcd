use Rattle.nvme_judge.proofs.StateLemmas.{states}
use Rattle.nvme_judge.proofs.starts.states_can_begin.Goals as goal

pub returns : goal.returns
returns c = states
