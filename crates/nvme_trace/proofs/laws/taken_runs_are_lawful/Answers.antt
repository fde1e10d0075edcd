use Rattle.nvme_trace.proofs.TakenLemmas.{taken_lawful, taken_limited, taken_after_lawful, taken_after_limited}
use Rattle.nvme_trace.proofs.laws.taken_runs_are_lawful.Goals as goal

pub returns-clause-lawful : goal.returns-clause-lawful
returns-clause-lawful c = taken_lawful

pub returns-clause-limited : goal.returns-clause-limited
returns-clause-limited c = taken_limited

pub returns-clause-lawful_after : goal.returns-clause-lawful_after
returns-clause-lawful_after c = taken_after_lawful

pub returns-clause-limited_after : goal.returns-clause-limited_after
returns-clause-limited_after c = taken_after_limited
