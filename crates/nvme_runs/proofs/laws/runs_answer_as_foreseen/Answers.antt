use Rattle.nvme_runs.proofs.Answering.{answers_of_runs}
use Rattle.nvme_runs.proofs.laws.runs_answer_as_foreseen.Goals as goal

pub returns : goal.returns
returns c = answers_of_runs
