use Rattle.nvme_own_statuses.proofs.TrueFeatures.{features_are_true}
use Rattle.nvme_own_statuses.proofs.laws.features_are_true.Goals as goal

pub returns : goal.returns
returns c = features_are_true
