use Rattle.nvme_engine.proofs.Additions.{on_regions}
use Rattle.nvme_engine.proofs.engine.Engine.sq_region.Goals as goal

pub returns : goal.returns
returns c rules late notes s =
    c.sq_region.ensures.on_regions s.their s.their_late notes c.args.self.now.slots.items s.stands (on_regions s.their s.alike.adds)
