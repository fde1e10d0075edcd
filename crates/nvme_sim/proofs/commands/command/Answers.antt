use Rattle.std.proofs.Common.{rules}
use Rattle.nvme_sim.specs.Inputs.{IsRefusedCheck}
use Rattle.nvme_sim.proofs.Inputs.{bad_pick}
use Rattle.nvme_sim.proofs.commands.command.Goals as goal

pub returns-in-Ok-Refused-clause-input : goal.returns-in-Ok-Refused-clause-input
returns-in-Ok-Refused-clause-input g c =
    let refused : IsRefusedCheck c.args.words.now (g.R.Read.remaining c.args.input) = search rules in
    λ one. bad_pick c.args.words.now (g.R.Read.remaining c.args.input) refused
