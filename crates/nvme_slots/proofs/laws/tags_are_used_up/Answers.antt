use Rattle.nvme_slots.proofs.Generations.{used_up, come_again}
use Rattle.nvme_slots.proofs.laws.tags_are_used_up.Goals as goal

pub returns-clause-used_up : goal.returns-clause-used_up
returns-clause-used_up c = used_up

pub returns-clause-again : goal.returns-clause-again
returns-clause-again c = come_again
