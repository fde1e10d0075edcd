use Rattle.nvme_model_form.proofs.Nearest.{nearest}
use Rattle.nvme_model_form.proofs.laws.rates_mean_nearest_gaps.Goals as goal

pub returns : goal.returns
returns c = nearest
