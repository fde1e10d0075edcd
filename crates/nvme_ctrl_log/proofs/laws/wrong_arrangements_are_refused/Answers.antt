use Rattle.nvme_ctrl_log.proofs.ArrangedExamples.{held_picked, old_class, held_unopened, classed_unopened, admin_classed, classed_as_admin}
use Rattle.nvme_ctrl_log.proofs.laws.wrong_arrangements_are_refused.Goals as goal

pub returns : goal.returns
returns c = record { held_picked = held_picked; old_class = old_class; held_unopened = held_unopened; classed_unopened = classed_unopened; admin_classed = admin_classed; classed_as_admin = classed_as_admin }
