use Rattle.nvme_points.proofs.Combinations.{all_combinations}
use Rattle.nvme_points.proofs.laws.points_are_all_combinations.Goals as goal

pub returns : goal.returns
returns c = all_combinations
