use Rattle.std.proofs.Common.{refl}
use Rattle.nvme_arbiter.proofs.laws.queues_of_a_board.Goals as goal

pub returns : goal.returns
returns c = record { seen = refl; closed = refl; there = refl; taken = refl }
