use Rattle.nvme_arbiter.proofs.SpecifiedLaws.{lawful_specified, limited_specified}
use Rattle.nvme_arbiter.proofs.specified.lawful_runs_are_specified.Goals as goal

pub returns-clause-lawful : goal.returns-clause-lawful
returns-clause-lawful c = lawful_specified

pub returns-clause-limited : goal.returns-clause-limited
returns-clause-limited c = limited_specified
