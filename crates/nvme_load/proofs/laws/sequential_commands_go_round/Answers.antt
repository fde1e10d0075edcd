use Rattle.nvme_load.proofs.Multiples.{round}
use Rattle.nvme_load.proofs.laws.sequential_commands_go_round.Goals as goal

pub returns : goal.returns
returns c = round
