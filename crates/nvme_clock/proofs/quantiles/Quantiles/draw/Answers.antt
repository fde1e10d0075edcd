use Rattle.std.proofs.Common.{arith}
use Rattle.nvme_clock.proofs.Rising.{highest, lowest}
use Rattle.nvme_clock.proofs.quantiles.Quantiles.draw.Goals as goal

pub returns-clause-at_least : goal.returns-clause-at_least
returns-clause-at_least g c =
    lowest c.args.self.now.values.items c.step-at.result c.index-low.result.now c.part.result c.args.self.now.table
    (omega (arith, c.step-at.ensures.below)) c.index-low.ensures

pub returns-clause-at_most : goal.returns-clause-at_most
returns-clause-at_most g c =
    highest c.args.self.now.values.items c.step-at.result c.index-low.result.now c.index.result.now c.part.result c.args.self.now.table
    (omega (arith, c.step-at.ensures.below)) c.index-low.ensures c.index.ensures c.part.ensures.within
