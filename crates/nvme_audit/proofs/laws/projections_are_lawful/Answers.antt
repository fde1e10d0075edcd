use Rattle.nvme_audit.proofs.LateLemmas.{projections}
use Rattle.nvme_audit.proofs.laws.projections_are_lawful.Goals as goal

pub returns : goal.returns
returns c = projections
