use Rattle.nvme_sim.proofs.Inputs.{faulty_trace}
use Rattle.nvme_sim.proofs.commands.check.checked.Goals as goal

pub returns-in-Err-clause-input : goal.returns-in-Err-clause-input
returns-in-Err-clause-input g c = faulty_trace c.args.basis (g.R.Read.remaining c.args.input) c.in-Err.error c.in-Err.ensures.fault
