use Rattle.std.proofs.Common.{refl}
use Rattle.nvme_cells.proofs.laws.worked_quotients.Goals as goal

pub returns : goal.returns
returns c = record {
  half_up = refl;
  down = refl;
  fair = refl;
  one_of_two = refl;
  two_to_one = refl;
}
