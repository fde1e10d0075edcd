use Rattle.nvme_trace.specs.declared.basis.Basis.TheVariants.{Specification}
use Rattle.nvme_sim.proofs.Inputs.{faulty_shown}
use Rattle.nvme_sim.proofs.commands.stats.counted.Goals as goal

pub returns-in-Err-clause-input : goal.returns-in-Err-clause-input
returns-in-Err-clause-input g c = faulty_shown Specification (g.R.Read.remaining c.args.input) c.in-Err.error c.in-Err.ensures.fault
