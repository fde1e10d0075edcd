use Rattle.std.proofs.Common.{arith}
use Rattle.nvme_trace.proofs.follower.greatest_weight.Goals as goal

pub returns : goal.returns
returns c = record {
  high = omega (arith, c.weight-high.ensures);
  medium = omega (arith, c.weight-medium.ensures);
  low = omega (arith, c.weight-low.ensures);
}
