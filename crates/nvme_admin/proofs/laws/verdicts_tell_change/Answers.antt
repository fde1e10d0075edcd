use Rattle.nvme_admin.proofs.Changed.{TellsChange-entry}
use Rattle.nvme_admin.proofs.laws.verdicts_tell_change.Goals as goal

pub returns : goal.returns
returns c = TellsChange-entry
