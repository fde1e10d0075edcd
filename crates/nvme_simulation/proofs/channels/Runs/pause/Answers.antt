use Rattle.std.proofs.Common.{ap}
use Rattle.nvme_channels.specs.Runs.{Pause}
use Rattle.nvme_simulation.proofs.Rooms.{behind_one}
use Rattle.nvme_simulation.proofs.channels.Runs.pause.Goals as goal

pub returns-in-Ok-clause-behind : goal.returns-in-Ok-clause-behind
returns-in-Ok-clause-behind c = behind_one _ _ (Pause c.args.channel) (ap (λ r. r.1) c.pause.ensures)

pub returns-in-Err-clause-behind : goal.returns-in-Err-clause-behind
returns-in-Err-clause-behind c = behind_one _ _ (Pause c.args.channel) (ap (λ r. r.1) c.pause.ensures)

pub returns-in-Ok-clause-pauses : goal.returns-in-Ok-clause-pauses
returns-in-Ok-clause-pauses c = ap (λ r. r.1) c.pause.ensures

pub returns-in-Err-clause-pauses : goal.returns-in-Err-clause-pauses
returns-in-Err-clause-pauses c = ap (λ r. r.1) c.pause.ensures
