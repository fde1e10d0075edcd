use Rattle.nvme_latency.proofs.Ranks.{at_read}
use Rattle.nvme_latency.proofs.ranked.Ranked.quantile.Goals as goal

pub returns-clause-value : goal.returns-clause-value
returns-clause-value c =
    at_read c.args.parts c.rank.result c.index.result.now c.args.self.now.times.items c.args.self.now.ordered c.rank.ensures.above c.rank.ensures.within
    c.rank.ensures.value c.index.ensures
