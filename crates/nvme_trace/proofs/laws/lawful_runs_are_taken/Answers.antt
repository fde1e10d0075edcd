use Rattle.nvme_trace.proofs.TakenLemmas.{lawful_taken}
use Rattle.nvme_trace.proofs.laws.lawful_runs_are_taken.Goals as goal

pub returns : goal.returns
returns c = lawful_taken
