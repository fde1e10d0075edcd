use Rattle.nvme_trace.proofs.TakenLemmas.{within_taken}
use Rattle.nvme_trace.proofs.laws.runs_within_rooms_are_taken.Goals as goal

pub returns : goal.returns
returns c = within_taken
