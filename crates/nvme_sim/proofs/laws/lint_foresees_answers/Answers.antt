use Rattle.nvme_sim.proofs.Foreseeing.{lint_foresees}
use Rattle.nvme_sim.proofs.laws.lint_foresees_answers.Goals as goal

pub returns : goal.returns
returns c = lint_foresees
