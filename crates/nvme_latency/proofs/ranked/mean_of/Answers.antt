use Rattle.std.proofs.Common.{◌<◌, ◌/◌, arith}
use Rattle.nvme_latency.proofs.Ranks.{mean_below}
use Rattle.nvme_latency.proofs.ranked.mean_of.Goals as goal

pub overflow_cast-result-2 : goal.overflow_cast-result-2
overflow_cast-result-2 c =
    let below : c.args.sum / c.args.count < 0x1_0000_0000_0000_0000 =
    mean_below c.args.sum c.args.count c.args.longest c.requires.some c.requires.most (omega (arith, c.ranges.longest.fits)) in
    omega (arith, below)
