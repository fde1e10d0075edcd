use Rattle.nvme_load.proofs.Cycles.{closed}
use Rattle.nvme_load.proofs.phases.Phases.on_before.Goals as goal

pub returns : goal.returns
returns c = rw c.min.ensures (closed c.args.self.now.on c.args.self.now.off c.args.time c.args.self.now.some)
