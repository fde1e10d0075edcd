use Rattle.nvme_pool.proofs.Running.{ran_none, ran_step}
use Rattle.nvme_pool.proofs.laws.steps_are_a_run.Goals as goal

pub returns-clause-none : goal.returns-clause-none
returns-clause-none g c = ran_none _

pub returns-clause-one_more : goal.returns-clause-one_more
returns-clause-one_more g c = ran_step _
